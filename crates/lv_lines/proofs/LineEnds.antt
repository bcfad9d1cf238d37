-- Where a line ends: what a search for the first LF found.
use Rattle.std.proofs.Common.{◌≡◌, ◌<◌, get_or, Option, None, Some, ℕ, suc, ◌+◌, ◌==◌, false, List, [], ◌∷◌, ◌++◌, length, take, drop, refl, sym, ap, ◌∙◌, arith, append_assoc}
use Rattle.std.proofs.lemmas.List.{length-take, take-append-drop, drop_more, get_or-take}
use Rattle.memchr.specs.Find.{IsFirstByte, is_byte}
use Rattle.std.proofs.lemmas.Bool.{eqb-true, false_from_ne_true}
use Rattle.lv_lines.specs.Input.{has_end}

-- bytes without an LF
has_end-none : (xs : List ℕ) → ((k : ℕ) → k < length xs → (get_or xs k 0 == 10) ≡ false) → has_end xs ≡ false
has_end-none [] none = refl
has_end-none (b ∷ bs) none =
    rw (none 0 (omega arith), has_end-none bs (λ k below. none (suc k) (omega arith))) refl

-- a search for LF that found none
pub has_end-nowhere : (xs : List ℕ) (r : Option ℕ) → IsFirstByte (is_byte 10) xs r → ((i : ℕ) → r ≡ Some i → ⊥) → has_end xs ≡ false
has_end-nowhere xs None nowhere missing = has_end-none xs (λ k below. false_from_ne_true _ (nowhere k (omega arith) below))
has_end-nowhere xs (Some i) found missing = absurd (missing i refl)

-- the first LF is at this index
pub record EndsAt (bytes : List ℕ) (end : ℕ) : Type 0 where
  pub inside : end < length bytes
  pub before : has_end (take end bytes) ≡ false
  pub cut : bytes ≡ (take end bytes ++ 10 ∷ []) ++ drop (end + 1) bytes

-- a search for LF that found one
pub EndsAt-first : (xs : List ℕ) (i : ℕ) → IsFirstByte (is_byte 10) xs (Some i) → EndsAt xs i
EndsAt-first xs i found =
    let inside = found.0.high in
    let byte : get_or xs i 0 ≡ 10 = eqb-true _ 10 found.1 in
    record {
      inside = inside;
      before = has_end-none (take i xs) (λ k below. let few : k < i = omega (arith, rw length-take at below) in rw get_or-take (false_from_ne_true _ (found.0.before k (omega arith) few)));
      cut = sym (take-append-drop i xs) ∙ ap (λ (ys : List ℕ). take i xs ++ ys) (drop_more xs i 0 inside ∙ ap (λ (b : ℕ). b ∷ drop (i + 1) xs) byte)
          ∙ sym (append_assoc (take i xs) (10 ∷ []) (drop (i + 1) xs));
    }
