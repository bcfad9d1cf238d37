-- What a stream hands on after its own bytes is as they end.
use Rattle.std.proofs.Common.{◌≡◌, ℕ, suc, ◌-◌, ◌==◌, Bool, true, false, not, List, [], ◌∷◌, ◌++◌, length, nat_eq, nat_lt, Option, Some, None, refl, sym, ap, ◌∙◌, inl, inr, arith, append_assoc}
use Rattle.std.proofs.lemmas.Bool.{cases_Bool, eqb-true, lt-ltb, ltb-true}
use Rattle.std.specs.Io.KnownBytes.{Consumes}
use Rattle.std.specs.List.{slice_get}
use Rattle.lv_lines.specs.declared.lines.Line.TheVariants.{Bad}
use Rattle.lv_lines.specs.Grammar.{line_by, line_of}
use Rattle.lv_lines.specs.Input.{has_end, lines_of}
use Rattle.lv_files.specs.StreamEnds.{MakesBad, ends_within, with_mark}

-- bytes after others end as they do after what these end as
ends_within-append : (begun : Bool) (xs ys : List ℕ) → ends_within begun (xs ++ ys) ≡ ends_within (ends_within begun xs) ys
ends_within-append begun [] ys = refl
ends_within-append begun (x ∷ xs) ys = ends_within-append (not (x == 10)) xs ys

some_is : (x y : ℕ) → Some x ≡ Some y → x ≡ y
some_is x y e = cc

-- the last byte tells
pub ends_within-last : (begun : Bool) (xs : List ℕ) (last : ℕ) → slice_get xs (length xs - 1) ≡ Some last → ends_within begun xs ≡ not (last == 10)
ends_within-last begun [] last at = absurd (cc)
ends_within-last begun (x ∷ []) last at = ap (λ w. not (w == 10)) (some_is x last at)
ends_within-last begun (x ∷ y ∷ ys) last at =
    let e : length (x ∷ y ∷ ys) - 1 ≡ suc (length (y ∷ ys) - 1) = omega arith in
    ends_within-last (not (x == 10)) (y ∷ ys) last (rw e at at)

-- what is empty has no bytes
pub empty_is : (xs : List ℕ) (is_empty : Bool) → is_empty ≡ nat_eq (length xs) 0 → is_empty ≡ true → xs ≡ []
empty_is [] is_empty e there = refl
empty_is (x ∷ xs) is_empty e there = absurd (omega (arith, eqb-true (length (x ∷ xs)) 0 (sym e ∙ there)))

-- bytes of the stream that were read are handed on, and the mark stays after what is left
pub takes_own : (owed mark : List ℕ) (begun now : Bool) (bs : List ℕ) (old new : Option (List ℕ)) → owed ≡ [] → now ≡ ends_within begun bs → Consumes old new bs
    → Consumes (with_mark owed mark begun old) (with_mark owed mark now new) bs
takes_own owed mark begun now bs None new none is took = tt
takes_own owed mark begun now bs (Some xs) None none is took = absurd took
takes_own owed mark begun now bs (Some xs) (Some ys) none is took =
    rw (none, is, took, ends_within-append begun bs ys) (append_assoc bs ys _)

-- a line without LF, and then an LF
lines_of-ended : (xs : List ℕ) → has_end xs ≡ false → lines_of (xs ++ 10 ∷ []) ≡ xs ∷ []
lines_of-ended [] none = refl
lines_of-ended (x ∷ xs) none =
    elim (cases_Bool (x == 10)) [
      | inl ends ↦ absurd (cc (rw ends at none))
      | inr other ↦ rw (other, lines_of-ended xs (rw other at none)) refl
    ]

-- no LF in one, and none in the other
has_end-both : (xs ys : List ℕ) → has_end xs ≡ false → has_end ys ≡ false → has_end (xs ++ ys) ≡ false
has_end-both [] ys none also = also
has_end-both (x ∷ xs) ys none also =
    elim (cases_Bool (x == 10)) [
      | inl ends ↦ absurd (cc (rw ends at none))
      | inr other ↦ rw (other, has_end-both xs ys (rw other at none) also) refl
    ]

-- more bytes before so many are as many at least
stays_long : (torn fill : List ℕ) → nat_lt 120 (length fill) ≡ true → nat_lt 120 (length (torn ++ fill)) ≡ true
stays_long [] fill long = long
stays_long (b ∷ torn) fill long = lt-ltb 120 _ (omega (arith, ltb-true 120 _ (stays_long torn fill long)))

-- a line that is too long is bad
too_long : (line : List ℕ) → nat_lt 120 (length line) ≡ true → line_of line ≡ Bad
unfolding line_by
too_long line long = rw long refl

-- so many bytes, and an LF after them, make any torn line too long
pub long_is_bad : (fill : List ℕ) → has_end fill ≡ false → nat_lt 120 (length fill) ≡ true → MakesBad (fill ++ 10 ∷ [])
long_is_bad fill none long torn begun =
    (torn ++ fill, rw (sym (append_assoc torn fill (10 ∷ []))) (lines_of-ended (torn ++ fill) (has_end-both torn fill begun none)), too_long (torn ++ fill) (stays_long torn fill long))
