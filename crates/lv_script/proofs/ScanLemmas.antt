-- The values of a scan, one line after another.
use Rattle.std.proofs.Common.{◌≡◌, Bool, ℕ, ℤ, ◌+◌, ◌-◌, ◌<◌, ◌≤◌, ◌^◌, List, [], ◌∷◌, ◌++◌, length, get_or, take, drop, map, slice_range, All, Option, if◌then◌else◌, sym, subst, ap, ◌∙◌, arith, append-nil}
use Rattle.std.specs.List.{range_with_len}
use Rattle.std.proofs.lemmas.List.{length-drop, length-take, map-append, take_all, take_more, take-append-drop}
use Rattle.std.proofs.lemmas.List.Concat.{flat_map-append}
use Rattle.std.proofs.lemmas.List.Elements.{All-drop, All-take}
use Rattle.std.proofs.lemmas.List.FromFn.{get_or-range_with_len, length-map-range_with_len, length-range_with_len}
use Rattle.lv_geometry.specs.Elements.{IsElement}
use Rattle.lv_bodies.specs.Body.{Operations, fold_of}
use Rattle.lv_bodies.specs.Long.{CanFoldLong, CanGrowLong, LongLaws}
use Rattle.lv_bodies.specs.LongLaws.{fold_of-within_long}
use Rattle.lv_bodies.specs.declared.kinds.Shown.{Shown}
use Rattle.lv_lines.specs.Output.{Writes, WritesFront}
use Rattle.lv_lines.specs.Texts.{scanned_text, values_text}
use Rattle.lv_lines.proofs.OutputLemmas.{Writes-trans, WritesFront-after, WritesFront-longer}
use Rattle.lv_script.specs.PlainScript.{scan_by}

-- the lines of values in two parts are those of the first part, and then those of the second
values_text-append : {X : Type 0} (f : X → Shown) (xs ys : List X) → values_text (map f (xs ++ ys)) ≡ values_text (map f xs) ++ values_text (map f ys)
values_text-append f xs ys = ap values_text (map-append f xs ys) ∙ flat_map-append scanned_text (map f xs) (map f ys)

-- the lines of the values so far, and then that of the next
values_text-more : {X : Type 0} (f : X → Shown) (xs : List X) (i : ℕ) (d : X) → i < length xs
    → values_text (map f (take (i + 1) xs)) ≡ values_text (map f (take i xs)) ++ scanned_text (f (get_or xs i d))
values_text-more f xs i d within =
    ap (λ ys. values_text (map f ys)) (take_more xs i d within) ∙ values_text-append f (take i xs) (get_or xs i d ∷ [])
    ∙ ap (λ text. values_text (map f (take i xs)) ++ text) (append-nil (scanned_text (f (get_or xs i d))))

-- the lines of the values so far, and then those of the rest
values_text-rest : {X : Type 0} (f : X → Shown) (xs : List X) (i : ℕ) → values_text (map f xs) ≡ values_text (map f (take i xs)) ++ values_text (map f (drop i xs))
values_text-rest f xs i = ap (λ ys. values_text (map f ys)) (sym (take-append-drop i xs)) ∙ values_text-append f (take i xs) (drop i xs)

module _ {X : Type 0} (f : X → Shown) (xs : List X) {a b c : Option (List ℕ)} {h k : List ℕ} where
  -- after the values so far the next is written
  pub Writes-value : (i : ℕ) (d : X) (value : Shown) {l : List ℕ} → i < length xs → Writes a h b k (values_text (map f (take i xs)))
      → value ≡ f (get_or xs i d) → Writes b k c l (scanned_text value) → Writes a h c l (values_text (map f (take (i + 1) xs)))
  Writes-value i d value within so_far is next = rw (values_text-more f xs i d within) (Writes-trans so_far (rw is at next))

  -- after the values so far, no more than a prefix of what was held is sent
  pub WritesFront-values : (i : ℕ) → Writes a h b k (values_text (map f (take i xs))) → WritesFront b k c [] → WritesFront a h c (values_text (map f xs))
  WritesFront-values i so_far unsent =
      rw (values_text-rest f xs i)
      (WritesFront-longer (values_text (map f (drop i xs))) (rw (append-nil (values_text (map f (take i xs)))) at (WritesFront-after so_far unsent)))

-- ---- as they are computed

-- a slice of elements can be folded
pub can_fold-slice : (xs : List ℤ) (lo hi : ℕ) → All IsElement xs → length xs ≤ 2 ^ 62 → CanFoldLong (slice_range xs lo hi)
can_fold-slice xs lo hi elements few = record {
  few = omega (arith, few, length-take (hi - lo) (drop lo xs), length-drop lo xs);
  elements = All-take IsElement (hi - lo) (drop lo xs) (All-drop IsElement lo xs elements);
}

-- what is shown of the beginning of a list at an index, with the element there or without it
abbrev pub value_at : (List ℤ → Shown) → Bool → List ℤ → ℕ → Shown
value_at plain inclusive xs k = plain (take (if inclusive then k + 1 else k) xs)

module _ (xs : List ℤ) (can : CanFoldLong xs) (i : ℕ) (small : i < length xs) where
  -- a prefix of a list that can be folded can be folded too
  pub can_fold-front : (n : ℕ) → CanFoldLong (take n xs)
  can_fold-front n = record { few = omega (arith, can.few, length-take n xs); elements = All-take IsElement n xs can.elements }

  -- whose fold may take one more element
  pub can_grow : {S : Type 0} (o : Operations S) (within : S → ℕ → Type 0) → LongLaws o within → (s : S) → s ≡ fold_of o (take i xs) → CanGrowLong within s
  can_grow o within laws s is = record {
    count = length (take i xs);
    count_within = subst (λ t. within t (length (take i xs))) (sym is) (fold_of-within_long o within laws (take i xs) (can_fold-front i));
    few = omega (arith, can.few, small, length-take i xs);
  }

-- ---- values

module _ (plain : List ℤ → Shown) (inclusive : Bool) (xs : List ℤ) where
  -- a scan has a value for each element
  pub length-scan : length (scan_by plain inclusive xs) ≡ length xs
  length-scan = length-map-range_with_len (value_at plain inclusive xs) 0 (length xs)

  -- the lines of the values before an index
  abbrev pub values_before : ℕ → List ℕ
  values_before k = values_text (map (value_at plain inclusive xs) (take k (range_with_len 0 (length xs))))

  module _ {a b : Option (List ℕ)} {h k : List ℕ} (i : ℕ) (so_far : Writes a h b k (values_before i)) where
    -- those before the end are all
    pub Writes-whole : length xs ≤ i → Writes a h b k (values_text (scan_by plain inclusive xs))
    Writes-whole past = rw (take_all i (range_with_len 0 (length xs)) (omega (arith, past, length-range_with_len 0 (length xs)))) at so_far

    -- after them the next is written
    pub Writes-next_value : {c : Option (List ℕ)} {l : List ℕ} (value : Shown) → i < length xs → value ≡ value_at plain inclusive xs i → Writes b k c l (scanned_text value) → Writes a h c l (values_before (i + 1))
    Writes-next_value value small is next =
        let at : get_or (range_with_len 0 (length xs)) i 0 ≡ i = omega (arith, get_or-range_with_len 0 (length xs) i 0 small) in
        Writes-value (value_at plain inclusive xs) (range_with_len 0 (length xs)) i 0 value (omega (arith, small, length-range_with_len 0 (length xs))) so_far (is ∙ ap (value_at plain inclusive xs) (sym at)) next

    -- or no more than a prefix of what was held is sent
    pub WritesFront-so_far : {c : Option (List ℕ)} → WritesFront b k c [] → WritesFront a h c (values_text (scan_by plain inclusive xs))
    WritesFront-so_far unsent = WritesFront-values (value_at plain inclusive xs) (range_with_len 0 (length xs)) i so_far unsent
