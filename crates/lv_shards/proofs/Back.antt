-- That the numbers of a summary, read back, are what it says.
use Rattle.std.proofs.Common.{◌≡◌, ℕ, ℤ, ◌%◌, ◌^◌, ◌<◌, ◌≤◌, Option, Some, None, List, [], ◌∷◌, length, get_or, refl, sym, ap, ◌∙◌, subst, arith, FitsSigned, Bool, true, false}
use Rattle.std.specs.Prelude.{◌↔◌, IsTrue, IfSome, IsSome, is_some, unwrap_or, if◌then◌else◌}
use Rattle.std.specs.Int.{w64, w128, cast_signed, cast_unsigned, to_le_bytes}
use Rattle.std.proofs.lemmas.Int.{ints, to_z-of_z}
use Rattle.lv_geometry.specs.Elements.{IsElement}
use Rattle.lv_bodies.specs.AffineLaws.{same_lines}
use Rattle.lv_bodies.specs.AffineMaps.{IsAffineMap}
use Rattle.lv_bodies.specs.PairLaws.{same_pairs}
use Rattle.lv_bodies.specs.RunTotals.{IsBest, IsTotalOf}
use Rattle.lv_bodies.specs.Six.{SixSummary}
use Rattle.lv_bodies.specs.Tables.{IsStateMap}
use Rattle.lv_bodies.specs.TotalsLaws.{same_runs}
use Rattle.lv_bodies.specs.declared.affine.AffineMap.{AffineMap}
use Rattle.lv_bodies.specs.declared.best.RunTotals.{RunTotals}
use Rattle.lv_shards.specs.Bytes.{element_bits, run_or_zeros, states_at}
use Rattle.lv_shards.specs.LeadsLaws.{row_at, states_back}
use Rattle.lv_shards.specs.Reading.{six_of}
use Rattle.lv_shards.specs.Summaries.{AreLeads}
use Rattle.lv_shards.specs.declared.filled.Filled.{Filled}

-- ---- an edit

pub no_edit : (edit : Option ℕ) (mark : ℕ) → mark ≡ 0 → mark ≡ (if is_some edit then 1 else 0) → None ≡ edit
no_edit None mark none e = refl
no_edit (Some x) mark none e = absurd (omega (arith, none, e))

pub some_edit : (edit : Option ℕ) (mark number : ℕ) → IfSome edit (λ e. e < 2 ^ 32) → (mark ≡ 0 → ⊥) → mark ≡ (if is_some edit then 1 else 0) → number ≡ unwrap_or edit 0 → Some (number % 2 ^ 32) ≡ edit
some_edit None mark number short not e f = absurd (not e)
some_edit (Some x) mark number short not e f = ap Some (omega (arith, f, short))

-- ---- an element

pub element_back : (x : Option ℤ) (r : ℤ) (n : ℕ) → IsSome x → IfSome x IsElement → r ≡ cast_signed w64 n → n ≡ element_bits x → Some (cast_signed w64 (cast_unsigned w64 r)) ≡ x
element_back None r n there fits e f = absurd (cc)
element_back (Some y) r n there fits e f =
    let same : r ≡ y = e ∙ ap (cast_signed w64) f ∙ to_z-of_z w64 y fits in
    ap (λ z. Some (cast_signed w64 (cast_unsigned w64 z))) same ∙ ap Some (to_z-of_z w64 y fits)

-- ---- a best run

-- a total of few enough elements fits
pub total_fits : (n : ℕ) (x : ℤ) → n ≤ 2 ^ 62 → IsTotalOf n x → FitsSigned w128 x
total_fits n x few h = omega (arith, ints)

-- a number that is each total that fits and has its halves
abbrev pub IsWhole : ℤ → ℤ → Type 0
IsWhole r x = FitsSigned w128 x → r ≡ x

total_back : (n : ℕ) (r x : ℤ) → n ≤ 2 ^ 62 → IsTotalOf n x → IsWhole r x → cast_signed w128 (cast_unsigned w128 r) ≡ x
total_back n r x few h whole =
    let fits = total_fits n x few h in
    ap (λ z. cast_signed w128 (cast_unsigned w128 z)) (whole fits) ∙ to_z-of_z w128 x fits

pub run_back : (best : Option RunTotals) (n : ℕ) (a b c d : ℤ) → IsSome best → IsBest best n → n ≤ 2 ^ 62
    → IsWhole a (run_or_zeros best).total → IsWhole b (run_or_zeros best).prefix → IsWhole c (run_or_zeros best).suffix → IsWhole d (run_or_zeros best).best
    → Some (record { total = cast_signed w128 (cast_unsigned w128 a); prefix = cast_signed w128 (cast_unsigned w128 b); suffix = cast_signed w128 (cast_unsigned w128 c); best = cast_signed w128 (cast_unsigned w128 d) }) ≡ best
run_back None n a b c d there within few p q r s = absurd (cc)
run_back (Some run) n a b c d there within few p q r s =
    ap Some (same_runs _ run
    (total_back n a run.total few within.total p) (total_back n b run.prefix few within.prefix q) (total_back n c run.suffix few within.suffix r) (total_back n d run.best few within.best s))

-- ---- a map

pub map_back : (m : AffineMap) (a b n : ℕ) → IsAffineMap m n → a ≡ m.a → b ≡ m.b → record { a = a % 2 ^ 32; b = b % 2 ^ 32 } ≡ m
map_back m a b n h e f = same_lines (record { a = a % 2 ^ 32; b = b % 2 ^ 32 }) m (omega (arith, h.a, e)) (omega (arith, h.b, f))

-- ---- states

-- a row that was written is one of states when it is read
pub row_back : (leads : List (List ℕ)) (k n : ℕ) (row : List ℕ) → AreLeads leads → k < 4 → n ≡ states_at leads k → row ≡ to_le_bytes w64 n → IsStateMap row 0
row_back leads k n row h below e f = subst (λ r. IsStateMap r 0) (sym (f ∙ states_back (get_or leads k []) 0 n (row_at leads k h below) e)) (row_at leads k h below)

-- what is true is not refused
pub not_refused : {P : Type 0} (r : Bool) → (IsTrue r ↔ P) → r ≡ false → P → ⊥
not_refused r exact e p = let t : r ≡ true = exact.1 p in absurd (cc)

-- a list of four is its elements
pub four_are : (rows : List (List ℕ)) → length rows ≡ 4 → get_or rows 0 [] ∷ get_or rows 1 [] ∷ get_or rows 2 [] ∷ get_or rows 3 [] ∷ [] ≡ rows
four_are [] e = absurd (omega (arith, e))
four_are (a ∷ []) e = absurd (omega (arith, e))
four_are (a ∷ b ∷ []) e = absurd (omega (arith, e))
four_are (a ∷ b ∷ c ∷ []) e = absurd (omega (arith, e))
four_are (a ∷ b ∷ c ∷ d ∷ []) e = refl
four_are (a ∷ b ∷ c ∷ d ∷ x ∷ rows) e = absurd (omega (arith, e))

same_four : (a b c d a' b' c' d' : List ℕ) → a ≡ a' → b ≡ b' → c ≡ c' → d ≡ d' → a ∷ b ∷ c ∷ d ∷ [] ≡ a' ∷ b' ∷ c' ∷ d' ∷ []
same_four a b c d a' b' c' d' p q r s = cc

pub four_back : (rows : List (List ℕ)) (a b c d : List ℕ) → length rows ≡ 4 → a ≡ get_or rows 0 [] → b ≡ get_or rows 1 [] → c ≡ get_or rows 2 [] → d ≡ get_or rows 3 [] → Some (a ∷ b ∷ c ∷ d ∷ []) ≡ Some rows
four_back rows a b c d four p q r s = ap Some (same_four a b c d _ _ _ _ p q r s ∙ four_are rows four)

-- ---- all of it

pub six_back : (f : Filled) (six : SixSummary) → f.sum ≡ six.0 → Some f.least ≡ six.1.0 → Some f.greatest ≡ six.1.1.0 → Some f.run ≡ six.1.1.1.0 → f.map ≡ six.1.1.1.1.0 → f.states ≡ six.1.1.1.1.1 → six_of f ≡ six
six_back f six sum least greatest run map states =
    same_pairs (six_of f) six sum
    (same_pairs (six_of f).1 six.1 least
    (same_pairs (six_of f).1.1 six.1.1 greatest
    (same_pairs (six_of f).1.1.1 six.1.1.1 run
    (same_pairs (six_of f).1.1.1.1 six.1.1.1.1 map states))))
