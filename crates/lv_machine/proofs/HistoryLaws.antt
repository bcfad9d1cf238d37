-- What holds of every legal history: its list, its words, and that no cell and no mark gets smaller as it grows.
use Rattle.std.proofs.Common.{◌≡◌, ◌⊎◌, ℕ, ℤ, ◌+◌, ◌*◌, ◌<◌, ◌≤◌, None, List, [], ◌∷◌, ◌++◌, length, false, nat_eq, slice_index_or, refl, sym, ap, ◌∙◌, subst, inl, inr, arith}
use Rattle.std.proofs.lemmas.Bool.{cases_Bool, cond-false, cond-true, eqb-true, eq-eqb}
use Rattle.std.proofs.lemmas.List.{length_push}
use Rattle.lv_geometry.specs.Bounds.{Bounds}
use Rattle.lv_geometry.specs.Cells.{capacity_of}
use Rattle.lv_geometry.proofs.Capacities.{capacity_of_mono}
use Rattle.lv_edits.specs.declared.edit.Edit.{Edit}
use Rattle.lv_edits.specs.declared.edit.Edit.TheVariants.{Push, Pop, Write, Reserve, Swap, Truncate}
use Rattle.lv_edits.specs.History.{History, list_of}
use Rattle.lv_edits.specs.Kept.{CarriesElement, IsLegalInLimits}
use Rattle.lv_edits.specs.Touch.{indices_written}
use Rattle.lv_edits.specs.Verdict.{refused_on}
use Rattle.lv_edits.proofs.HistoryLaws.{IsLegalInLimits-empty, IsLegalInLimits-snoc, list_of_replayed, not_refused, replayed-nil, unrefused_push, unrefused_swap, unrefused_write}
use Rattle.lv_edits.proofs.TouchLaws.{touched_by_grows}
use Rattle.lv_machine.specs.declared.entries.Entry.{Entry}
use Rattle.lv_machine.specs.History.{cell_of, descriptor_of, edits_of, elements_of, index_written_by, IsLegalHistory, IsShortEdit}
use Rattle.lv_machine.specs.Shows.{block, mark_of}
use Rattle.lv_machine.specs.Terms.{AreTerms, Terms}
use Rattle.lv_machine.specs.Words.{bits_written, cell_word, edit_of, index_of, size_of, value_of}
use Rattle.lv_machine.proofs.WordLaws.{bits_of-short, cell_word-above, cell_word-below, edit_of-descriptor, index_of-descriptor, short_element, size_of-descriptor, value_of-descriptor}

pub edits_of-cons : (e : Entry) (h : List Entry) → edits_of (e ∷ h) ≡ edits_of h ++ e.edit ∷ []
unfolding edits_of
edits_of-cons e h = refl

pub edits_of-nil : edits_of [] ≡ []
unfolding edits_of
edits_of-nil = refl

-- a history has as many updates as entries
pub length-edits_of : (h : List Entry) → length (edits_of h) ≡ length h
length-edits_of [] = ap length edits_of-nil
length-edits_of (e ∷ h) = omega (arith, ap length (edits_of-cons e h), length_push (edits_of h) e.edit, length-edits_of h)

-- an update of 16 bits carries an element
carries : (e : Edit) → IsShortEdit e → CarriesElement e
carries (Push x) short = short_element x short
carries Pop short = tt
carries (Write i x) short = short_element x short
carries (Reserve n) short = absurd short
carries (Swap i j) short = absurd short
carries (Truncate n) short = absurd short

-- the bits that an update writes are 16
pub bits_written-short : (e : Edit) → IsShortEdit e → bits_written e < 65536
bits_written-short (Push x) short = bits_of-short x short
bits_written-short Pop short = omega arith
bits_written-short (Write i x) short = bits_of-short x short
bits_written-short (Reserve n) short = absurd short
bits_written-short (Swap i j) short = absurd short
bits_written-short (Truncate n) short = absurd short

journal : Terms → List Entry → History
journal t h = record { limits = t.limits; journal = edits_of h }

-- a legal history is within the limits
pub legal_within : (t : Terms) (h : List Entry) → AreTerms t → IsLegalHistory t h → IsLegalInLimits record { limits = t.limits; journal = edits_of h }
legal_within t [] terms legal = subst (λ es. IsLegalInLimits record { limits = t.limits; journal = es }) (sym edits_of-nil) (IsLegalInLimits-empty t.limits terms.allowed)
legal_within t (e ∷ h) terms (legal, next) =
    subst (λ es. IsLegalInLimits record { limits = t.limits; journal = es }) (sym (edits_of-cons e h))
    (IsLegalInLimits-snoc record { limits = t.limits; journal = edits_of h } e.edit (legal_within t h terms legal) next.verdict (carries e.edit next.short))

-- there are at most 4088 cells
pub few_cells : (t : Terms) → AreTerms t → capacity_of t.limits.buckets ≤ 4088
few_cells t terms = capacity_of_mono t.limits.buckets 9 terms.few_buckets

-- an index that is written is one of the cells
written_on : (limits : Bounds) (xs : List ℤ) (e : Edit) → refused_on limits xs e ≡ None → length xs ≤ capacity_of limits.buckets → (slice_index_or (indices_written xs e) 0 4095 ≡ 4095) ⊎ (slice_index_or (indices_written xs e) 0 4095 < capacity_of limits.buckets)
written_on limits xs (Push x) free few = let below = unrefused_push limits xs x free in inr (omega arith)
written_on limits xs Pop free few = inl refl
written_on limits xs (Write i x) free few = let below = unrefused_write limits xs i x free in inr (omega arith)
written_on limits xs (Reserve n) free few = inl refl
written_on limits xs (Swap i j) free few = let below = unrefused_swap limits xs i j free in inr (omega (arith, below.0))
written_on limits xs (Truncate n) free few = inl refl

pub written_within : (t : Terms) (h : List Entry) (e : Entry) → AreTerms t → IsLegalHistory t (e ∷ h) → (index_written_by h e ≡ 4095) ⊎ (index_written_by h e < capacity_of t.limits.buckets)
unfolding index_written_by
written_within t h e terms (legal, next) =
    written_on t.limits (elements_of h) e.edit (not_refused t.limits (edits_of h) e.edit next.verdict).1 (legal_within t h terms legal).size

index_below : (t : Terms) (h : List Entry) (e : Entry) → AreTerms t → IsLegalHistory t (e ∷ h) → index_written_by h e < 4096
index_below t h e terms legal = elim (written_within t h e terms legal) [
  | inl none ↦ omega arith
  | inr some ↦ omega (arith, few_cells t terms)
]

-- the fields of a history's descriptor
pub record IsDecoded (h : List Entry) : Type 0 where
  pub edit : edit_of (descriptor_of h) ≡ length h
  pub size : size_of (descriptor_of h) ≡ length (elements_of h)

pub no_elements : length (elements_of []) ≡ 0
no_elements = ap length (ap list_of edits_of-nil ∙ list_of_replayed [] [] replayed-nil)

pub size_below : (t : Terms) (h : List Entry) → AreTerms t → IsLegalHistory t h → length (elements_of h) ≤ 4088
size_below t h terms legal = omega (arith, (legal_within t h terms legal).size, few_cells t terms)

pub length_below : (t : Terms) (h : List Entry) → AreTerms t → IsLegalHistory t h → length h ≤ t.limits.edits
length_below t h terms legal = omega (arith, (legal_within t h terms legal).edits, length-edits_of h)

pub decoded : (t : Terms) (h : List Entry) → AreTerms t → IsLegalHistory t h → IsDecoded h
unfolding descriptor_of
decoded t [] terms legal = record {
  edit = edit_of-descriptor 0 0 4095 0 (omega arith) (omega arith) (omega arith);
  size = size_of-descriptor 0 0 4095 0 (omega arith) (omega arith) (omega arith) ∙ sym no_elements;
}
decoded t (e ∷ h) terms legal =
    let few = size_below t (e ∷ h) terms legal in
    let near = index_below t h e terms legal in
    let short = bits_written-short e.edit legal.1.short in
    record {
      edit = edit_of-descriptor (length h + 1) (length (elements_of (e ∷ h))) (index_written_by h e) (bits_written e.edit) (omega arith) near short ∙ omega arith;
      size = size_of-descriptor (length h + 1) (length (elements_of (e ∷ h))) (index_written_by h e) (bits_written e.edit) (omega arith) near short;
    }

pub index_of-nil : index_of (descriptor_of []) ≡ 4095
unfolding descriptor_of
index_of-nil = index_of-descriptor 0 0 4095 0 (omega arith) (omega arith) (omega arith)

pub index_of-cons : (t : Terms) (h : List Entry) (e : Entry) → AreTerms t → IsLegalHistory t (e ∷ h) → index_of (descriptor_of (e ∷ h)) ≡ index_written_by h e
unfolding descriptor_of
index_of-cons t h e terms legal = let few = size_below t (e ∷ h) terms legal in index_of-descriptor _ _ _ _ (omega arith) (index_below t h e terms legal) (bits_written-short e.edit legal.1.short)

pub value_of-cons : (t : Terms) (h : List Entry) (e : Entry) → AreTerms t → IsLegalHistory t (e ∷ h) → value_of (descriptor_of (e ∷ h)) ≡ bits_written e.edit
unfolding descriptor_of
value_of-cons t h e terms legal = let few = size_below t (e ∷ h) terms legal in value_of-descriptor _ _ _ _ (omega arith) (index_below t h e terms legal) (bits_written-short e.edit legal.1.short)

-- the cell after an entry that writes there, or elsewhere
pub cell_of-there : (i : ℕ) (e : Entry) (h : List Entry) → index_written_by h e ≡ i → cell_of i (e ∷ h) ≡ cell_word (length h + 1) (bits_written e.edit)
unfolding cell_of
cell_of-there i e h there = cond-true _ _ _ (eq-eqb _ _ there)

pub cell_of-elsewhere : (i : ℕ) (e : Entry) (h : List Entry) → nat_eq (index_written_by h e) i ≡ false → cell_of i (e ∷ h) ≡ cell_of i h
unfolding cell_of
cell_of-elsewhere i e h elsewhere = cond-false _ _ _ elsewhere

pub cell_of-nil : (i : ℕ) → cell_of i [] ≡ 0
unfolding cell_of
cell_of-nil i = refl

-- no cell has a version above the history's length
pub cell_of-below : (t : Terms) (i : ℕ) (h : List Entry) → IsLegalHistory t h → cell_of i h < (length h + 1) * 65536
cell_of-below t i [] legal = omega (arith, cell_of-nil i)
cell_of-below t i (e ∷ h) (legal, next) = elim (cases_Bool (nat_eq (index_written_by h e) i)) [
  | inl there ↦ omega (arith, cell_of-there i e h (eqb-true _ _ there), cell_word-below (length h + 1) (bits_written e.edit) (length h + 2) (bits_written-short e.edit next.short) (omega arith))
  | inr elsewhere ↦ omega (arith, cell_of-elsewhere i e h elsewhere, cell_of-below t i h legal)
]

-- an entry lowers no cell and no mark
pub cell_of-grows : (t : Terms) (i : ℕ) (h : List Entry) (e : Entry) → IsLegalHistory t (e ∷ h) → cell_of i h ≤ cell_of i (e ∷ h)
cell_of-grows t i h e (legal, next) = elim (cases_Bool (nat_eq (index_written_by h e) i)) [
  | inl there ↦ omega (arith, cell_of-there i e h (eqb-true _ _ there), cell_word-above (length h + 1) (bits_written e.edit), cell_of-below t i h legal)
  | inr elsewhere ↦ omega (arith, cell_of-elsewhere i e h elsewhere)
]

pub mark_of-grows : (t : Terms) (b : ℕ) (h : List Entry) (e : Entry) → IsLegalHistory t (e ∷ h) → mark_of b h ≤ mark_of b (e ∷ h)
mark_of-grows t b h e legal = rw (edits_of-cons e h) (touched_by_grows (edits_of h) e.edit (block b))
