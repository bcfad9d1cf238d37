-- The tree of one kind, if it is kept, after the elements have changed.
use Rattle.std.proofs.Common.{◌≡◌, ℕ, ℤ, ◌+◌, ◌-◌, ◌<◌, ◌≤◌, ◌⊎◌, inl, inr, nat_lt, Bool, true, false, if◌then◌else◌, List, [], ◌∷◌, ◌++◌, length, take, drop, slice_range, refl, sym, ap, ◌∙◌, arith, All}
use Rattle.std.proofs.Math.Seq.{take-append_seam}
use Rattle.std.proofs.lemmas.Bool.{cases_lt, false≢true, le-ltb, lt-ltb}
use Rattle.std.proofs.lemmas.List.{length_push}
use Rattle.std.proofs.lemmas.List.Elements.{All-drop, All-take}
use Rattle.lv_bodies.specs.Body.{Operations}
use Rattle.lv_geometry.specs.Elements.{IsElement}
use Rattle.lv_edits.proofs.Slices.{length-slice_range}
use Rattle.lv_series.specs.Blocks.{CoversBlocks, IsOver, Layered, with_leaf, without_last}

-- a range has elements if it ends past its beginning
some_of : (n lo hi : ℕ) → n ≡ hi - lo → (lo < hi) ⊎ (hi ≤ lo) → nat_lt lo hi ≡ nat_lt 0 n
some_of n lo hi is (inl apart) = lt-ltb lo hi apart ∙ sym (lt-ltb 0 n (omega (arith, is)))
some_of n lo hi is (inr none) = le-ltb lo hi none ∙ sym (le-ltb 0 n (omega (arith, is)))

pub some_in_range : (xs : List ℤ) (lo hi : ℕ) → lo ≤ hi → hi ≤ length xs → nat_lt lo hi ≡ nat_lt 0 (length (slice_range xs lo hi))
some_in_range xs lo hi order inside = some_of _ lo hi (length-slice_range xs lo hi order inside) (cases_lt lo hi)

-- and they have 64 bits, as all have
pub range_elements : (xs : List ℤ) (lo hi : ℕ) → All IsElement xs → All IsElement (slice_range xs lo hi)
range_elements xs lo hi all = All-take IsElement (hi - lo) (drop lo xs) (All-drop IsElement lo xs all)

-- a tree that is changed only if it is kept
pub over_if : {B S : Type 0} (o : Operations S) (base first : ℕ) (xs : List ℤ) (k : Bool) (t u : Layered B S) → t.kept ≡ k → (k ≡ true → CoversBlocks o base first xs u) → IsOver o base first xs (if k then u else t)
over_if o base first xs true t u is h = λ _. h refl
over_if o base first xs false t u is h = λ kept. absurd (false≢true (sym is ∙ kept))

-- is kept if it was, by the same body
pub same_if : {B S : Type 0} (k : Bool) (t u : Layered B S) → u.kept ≡ t.kept → u.body ≡ t.body → ((if k then u else t).kept ≡ t.kept) × ((if k then u else t).body ≡ t.body)
same_if true t u kept body = (kept, body)
same_if false t u kept body = (refl, refl)

-- a leaf that was added, and the last one taken away again
back_if : {B S : Type 0} (k : Bool) (body : B) (first : ℕ) (sums : List S) (s : S) → without_last (with_leaf s (record { body = body; kept = k; first = first; sums = sums })) ≡ record { body = body; kept = k; first = first; sums = sums }
back_if true body first sums s =
    let count : length (sums ++ s ∷ []) - 1 ≡ length sums = omega (arith, length_push sums s) in
    ap (λ l. record { body = body; kept = true; first = first; sums = l }) (ap (λ n. take n (sums ++ s ∷ [])) count ∙ take-append_seam sums (s ∷ []))
back_if false body first sums s = refl

pub is_back : {B S : Type 0} (g : Bool) (s : S) (t : Layered B S) → (if g then without_last (if g then with_leaf s t else t) else (if g then with_leaf s t else t)) ≡ t
is_back true s t = back_if t.kept t.body t.first t.sums s
is_back false s t = refl
