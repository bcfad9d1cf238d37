-- The effect of moves on words that show a history: they show it still, or the longer one.
use Rattle.std.proofs.Common.{◌≡◌, ◌⊎◌, ℕ, ℤ, ◌+◌, ◌*◌, ◌/◌, ◌<◌, ◌≤◌, max, List, [], ◌∷◌, ◌++◌, length, take, true, nat_eq, slice_index_or, refl, sym, ap, ◌∙◌, inl, inr, arith}
use Rattle.std.specs.Prelude.{if◌then◌else◌}
use Rattle.std.specs.List.{list_any}
use Rattle.std.proofs.lemmas.Bool.{cases_Bool, cases_lt, cond-false, cond-true, eqb-true, eq-eqb, false≢true, or_left}
use Rattle.std.proofs.Math.Bool.{or-false}
use Rattle.std.proofs.lemmas.List.{length_push, take-append-le}
use Rattle.lv_geometry.specs.Bounds.{Bounds}
use Rattle.lv_geometry.specs.Cells.{capacity_of}
use Rattle.lv_geometry.specs.Nodes.{covers}
use Rattle.lv_edits.specs.Touch.{indices_written, touches}
use Rattle.lv_edits.specs.declared.edit.Edit.{Edit}
use Rattle.lv_edits.specs.declared.edit.Edit.TheVariants.{Push, Pop, Write, Reserve, Swap, Truncate}
use Rattle.lv_edits.proofs.TouchLaws.{touched_by-le, touched_by-snoc}
use Rattle.lv_machine.specs.declared.entries.Entry.{Entry}
use Rattle.lv_machine.specs.History.{cell_of, descriptor_of, edits_of, elements_of, Ends, index_written_by, IsLegalHistory, IsShortEdit}
use Rattle.lv_machine.specs.Layout.{count_of, place}
use Rattle.lv_machine.specs.Moves.{completing}
use Rattle.lv_machine.specs.Shows.{block, Fits, FitsPart, mark_of}
use Rattle.lv_machine.specs.Terms.{AreTerms, blocks_of, Folding, Terms}
use Rattle.lv_machine.specs.Words.{bits_written, cell_version, cell_word, edit_of, HasPending, index_of}
use Rattle.lv_machine.proofs.EndsLaws.{Ends-cases, grown}
use Rattle.lv_machine.proofs.HistoryLaws.{cell_of-below, cell_of-elsewhere, cell_of-there, decoded, edits_of-cons, few_cells, index_of-cons, index_of-nil, length-edits_of, value_of-cons, written_within}
use Rattle.lv_machine.proofs.WordLaws.{cell_version-least}

pub place_is : (b r : ℕ) → place b r ≡ 1 + 16 * b + r
unfolding place
place_is b r = refl

-- two places of blocks are equal only if block and offset are
pub one_place : (b r c s : ℕ) → r < 16 → s < 16 → place b r ≡ place c s → (b ≡ c) × (r ≡ s)
one_place b r c s short brief same = let p = place_is b r in let q = place_is c s in (omega arith, omega arith)

-- each place is among the words
pub place_within : (limits : Bounds) (b r : ℕ) → b < blocks_of limits → r < 16 → place b r < count_of limits
place_within limits b r near short = omega (arith, place_is b r)

-- there are at most 511 blocks
pub few_blocks : (t : Terms) → AreTerms t → blocks_of t.limits ≤ 511
few_blocks t terms = omega (arith, few_cells t terms)

-- the greater of two numbers is one of them
pub max_either : (a b : ℕ) → (max a b ≡ a) ⊎ (max a b ≡ b)
max_either a b = elim (cases_lt a b) [
  | inl less ↦ inr (omega arith)
  | inr more ↦ inl (omega arith)
]

-- what shows f, raised to what shows f of an earlier history, shows f
pub fits_raised : (t : Terms) (f : List Entry → ℕ) → ((h : List Entry) (e : Entry) → IsLegalHistory t (e ∷ h) → f h ≤ f (e ∷ h)) → (k h : List Entry) (word : ℕ) → Ends k h → IsLegalHistory t h → Fits f h word → Fits f h (max word (f k))
fits_raised t f grows k [] word ends legal fits =
    let less = grown t f grows k [] ends legal in
    elim fits.shown [
      | inl is ↦ record { shown = inl (omega arith) }
      | inr is ↦ record { shown = inl (omega arith) }
    ]
fits_raised t f grows k (e ∷ h) word ends legal fits =
    let less = grown t f grows k (e ∷ h) ends legal in
    let step = grows h e legal in
    elim fits.shown [
      | inl is ↦ record { shown = inl (omega arith) }
      | inr is ↦ elim (Ends-cases k h e ends) [
        | inl whole ↦ record { shown = inl (omega (arith, ap f whole)) }
        | inr before ↦ let under = grown t f grows k h before legal.0 in record { shown = inr (omega arith) }
      ]
    ]

-- an update of the lock-free form writes at one index at most
one_at_most : (xs : List ℤ) (e : Edit) → IsShortEdit e → length (indices_written xs e) ≤ 1
one_at_most xs (Push x) short = omega arith
one_at_most xs Pop short = omega arith
one_at_most xs (Write i x) short = omega arith
one_at_most xs (Reserve n) short = absurd short
one_at_most xs (Swap i j) short = absurd short
one_at_most xs (Truncate n) short = absurd short

-- a touched block is that of the index that is written
touched_there : (indices : List ℕ) (b : ℕ) → length indices ≤ 1 → list_any (covers (block b)) indices ≡ true → slice_index_or indices 0 4095 / 8 ≡ b
touched_there [] b few touched = absurd (false≢true touched)
touched_there (i ∷ []) b few touched = eqb-true _ _ (sym (or-false (covers (block b) i)) ∙ touched)
touched_there (i ∷ j ∷ rest) b few touched = absurd (omega arith)

there_touched : (indices : List ℕ) → slice_index_or indices 0 4095 < 4088 → list_any (covers (block (slice_index_or indices 0 4095 / 8))) indices ≡ true
there_touched [] near = absurd (omega arith)
there_touched (i ∷ rest) near =
    or_left (covers (block (i / 8)) i) (list_any (covers (block (i / 8))) rest) (eq-eqb (i / 8) (i / 8) refl)

touched_at : (h : List Entry) (e : Entry) (b : ℕ) → IsShortEdit e.edit → touches (elements_of h) e.edit (block b) ≡ true → index_written_by h e / 8 ≡ b
unfolding index_written_by
touched_at h e b short touched =
    touched_there (indices_written (elements_of h) e.edit) b (one_at_most (elements_of h) e.edit short) touched

at_touched : (h : List Entry) (e : Entry) → index_written_by h e < 4088 → touches (elements_of h) e.edit (block (index_written_by h e / 8)) ≡ true
unfolding index_written_by
at_touched h e near = there_touched (indices_written (elements_of h) e.edit) near

pub mark_of-cons : (b : ℕ) (e : Entry) (h : List Entry) → mark_of b (e ∷ h) ≡ if touches (elements_of h) e.edit (block b) then length h + 1 else mark_of b h
mark_of-cons b e h = rw (edits_of-cons e h, touched_by-snoc, length-edits_of)

pub mark_of-le : (b : ℕ) (h : List Entry) → mark_of b h ≤ length h
mark_of-le b h = omega (arith, touched_by-le (edits_of h) (block b), length-edits_of h)

-- a cell that the last entry did not write, or whose version says that it was written since, is that of the history
pub current_cell : (t : Terms) (i : ℕ) (h : List Entry) (word : ℕ) → AreTerms t → IsLegalHistory t h → Fits (cell_of i) h word → (index_of (descriptor_of h) ≡ i → length h ≤ cell_version word) → word ≡ cell_of i h
current_cell t i [] word terms legal fits complete = elim fits.shown [
  | inl is ↦ is
  | inr is ↦ is
]
current_cell t i (e ∷ h) word terms legal fits complete = elim fits.shown [
  | inl is ↦ is
  | inr is ↦ elim (cases_Bool (nat_eq (index_written_by h e) i)) [
    | inl there ↦
        let late = complete (index_of-cons t h e terms legal ∙ eqb-true _ _ there) in
        absurd (omega (arith, cell_of-below t i h legal.0, cell_version-least (length h + 1) word (omega arith)))
    | inr elsewhere ↦ is ∙ sym (cell_of-elsewhere i e h elsewhere)
  ]
]

-- a mark without a pending write shows the present history
pub current_mark : (t : Terms) (b : ℕ) (h : List Entry) (word : ℕ) → AreTerms t → b < blocks_of t.limits → IsLegalHistory t h → Fits (mark_of b) h word → (HasPending (descriptor_of h) → index_of (descriptor_of h) / 8 ≡ b → length h ≤ word) → word ≡ mark_of b h
current_mark t b [] word terms near legal fits complete = elim fits.shown [
  | inl is ↦ is
  | inr is ↦ is
]
current_mark t b (e ∷ h) word terms near legal fits complete = elim fits.shown [
  | inl is ↦ is
  | inr is ↦ elim (cases_Bool (touches (elements_of h) e.edit (block b))) [
    | inl touched ↦
        let at = touched_at h e b legal.1.short touched in
        let index = index_of-cons t h e terms legal in
        elim (written_within t h e terms legal) [
          | inl none ↦ absurd (omega (arith, few_blocks t terms))
          | inr some ↦
              let late = complete (omega (arith, few_cells t terms)) (ap (λ i. i / 8) index ∙ at) in
              absurd (omega (arith, mark_of-le b h))
        ]
    | inr untouched ↦ is ∙ sym (mark_of-cons b e h ∙ cond-false _ _ _ untouched)
  ]
]

-- a pending write: its cell, and the word that completes it
pub record IsPending (t : Terms) (k : List Entry) : Type 0 where
  pub within : index_of (descriptor_of k) < capacity_of t.limits.buckets
  pub cell : completing (descriptor_of k) ≡ cell_of (index_of (descriptor_of k)) k
  pub mark : edit_of (descriptor_of k) ≡ mark_of (index_of (descriptor_of k) / 8) k

pub pending : (t : Terms) (k : List Entry) → AreTerms t → IsLegalHistory t k → HasPending (descriptor_of k) → IsPending t k
pending t [] terms legal has = absurd (omega (arith, index_of-nil))
pending t (e ∷ k) terms legal has =
    let index = index_of-cons t k e terms legal in
    let edit = (decoded t (e ∷ k) terms legal).edit in
    let touched = at_touched k e (omega arith) in
    record {
      within = elim (written_within t k e terms legal) [
        | inl none ↦ absurd (omega arith)
        | inr some ↦ omega arith
      ];
      cell = rw (edit, value_of-cons t k e terms legal, cell_of-there (index_of (descriptor_of (e ∷ k))) e k (sym index)) (ap (λ n. cell_word n (bits_written e.edit)) (omega arith));
      mark = edit ∙ rw (index, mark_of-cons, touched, cond-true) (omega arith);
    }

-- a part remains one as the history grows
pub part_grows : (f : Folding) (h : List Entry) (e : Entry) (b p word : ℕ) → FitsPart f h b p word → FitsPart f (e ∷ h) b p word
part_grows f h e b p word fits = elim fits.shown [
  | inl none ↦ record { shown = inl none }
  | inr (v, part) ↦
      let front : take v (edits_of h ++ e.edit ∷ []) ≡ take v (edits_of h) = take-append-le v (edits_of h) (e.edit ∷ []) part.within in
      let whole = part.whole in
      let touched = part.touched in
      let is = part.word_is in
      let within = part.within in
      record {
        shown = inr (
          v,
          rw edits_of-cons (record {
            some = part.some;
            within = omega (arith, length_push (edits_of h) e.edit);
            whole = rw front whole;
            touched = rw front touched;
            word_is = rw front is;
          }),
        );
      }
]
