-- What a loaded word says of an earlier history that its reader knows.
use Rattle.std.proofs.Common.{◌≡◌, ◌≢◌, ℕ, ℤ, ◌+◌, ◌-◌, ◌/◌, ◌<◌, ◌≤◌, Some, List, [], ◌∷◌, ◌++◌, length, take, true, false, nat_eq, nat_lt, length-set, refl, sym, ap, ◌∙◌, subst, inl, inr, arith}
use Rattle.std.specs.Prelude.{All, pos, slice_set}
use Rattle.std.specs.List.{slice_index_or}
use Rattle.std.proofs.lemmas.List.Elements.{All-nil, All-push, All-same, All-set, All-take}
use Rattle.std.proofs.lemmas.Bool.{cases_Bool, cases_eq, cond-false, cond-true, eqb-true, eq-eqb, lt-ltb}
use Rattle.std.proofs.lemmas.List.{get_or_append_left, get_or_push, get_or-set_other, get_or-set_same, get_or-take, length_push, length-take, take_all, take-append-le}
use Rattle.std.proofs.lemmas.Bool.Decides.{nat_tests}
use Rattle.lv_bodies.specs.Parts.{IsShort}
use Rattle.lv_edits.specs.declared.edit.Edit.{Edit}
use Rattle.lv_edits.specs.declared.edit.Edit.TheVariants.{Push, Pop, Write, Reserve, Swap, Truncate}
use Rattle.lv_edits.specs.History.{applied, list_of}
use Rattle.lv_edits.specs.Touch.{elements_under, is_whole, touched_by, touches}
use Rattle.lv_edits.proofs.HistoryLaws.{applied_pop, applied_write, list_of-snoc, list_of_replayed, not_refused, replayed-nil, unrefused_pop, unrefused_write}
use Rattle.lv_edits.proofs.TouchLaws.{untouched_since, whole_was_touched}
use Rattle.lv_machine.specs.declared.entries.Entry.{Entry}
use Rattle.lv_machine.specs.History.{cell_of, descriptor_of, edits_of, elements_of, Ends, index_written_by, IsLegalHistory, MayFollow}
use Rattle.lv_machine.specs.Shows.{block, Fits, FitsPart, IsCellRead, IsMarkRead, mark_of}
use Rattle.lv_machine.specs.Terms.{AreTerms, blocks_of, Terms}
use Rattle.lv_machine.specs.Words.{bits_of, bits_written, cell_version, edit_between, HasPending, index_of, part_value, part_version, part_word, signed, value_of}
use Rattle.lv_machine.proofs.EndsLaws.{Ends-cases, Ends-length, Ends-nil, legal_earlier}
use Rattle.lv_machine.proofs.HistoryLaws.{bits_written-short, cell_of-below, cell_of-elsewhere, cell_of-nil, cell_of-there, decoded, edits_of-cons, edits_of-nil, index_of-cons, legal_within, length-edits_of, no_elements, size_below, value_of-cons}
use Rattle.lv_machine.proofs.ShowsLaws.{current_cell, current_mark, mark_of-cons, mark_of-le}
use Rattle.lv_machine.proofs.MoveLaws.{size_next}
use Rattle.lv_machine.proofs.WordLaws.{bits_of-short, cell_version-most, cell_version-word, part_value-word, part_version-word, part_version-zero, signed-bits_of, value_of-cell}

-- the updates of an earlier history are the first of those of a later one
edits_behind : (later k : List Entry) → edits_of k ≡ take (length k) (edits_of (later ++ k))
edits_behind [] k = sym (take_all (length k) (edits_of k) (omega (arith, length-edits_of k)))
edits_behind (e ∷ later) k =
    let long : length k ≤ length (edits_of (later ++ k)) = omega (arith, length-edits_of (later ++ k), Ends-length k (later ++ k) record { later = later; whole_is = refl }) in
    edits_behind later k ∙ sym (take-append-le (length k) (edits_of (later ++ k)) (e.edit ∷ []) long) ∙ ap (take (length k)) (sym (edits_of-cons e (later ++ k)))

pub earlier_edits : (k h : List Entry) → Ends k h → edits_of k ≡ take (length k) (edits_of h)
earlier_edits k h ends = edits_behind ends.later k ∙ ap (λ l. take (length k) (edits_of l)) (sym ends.whole_is)

take_behind : (later k : List Entry) (v : ℕ) → v ≤ length k → take v (edits_of (later ++ k)) ≡ take v (edits_of k)
take_behind [] k v few = refl
take_behind (e ∷ later) k v few =
    let long : v ≤ length (edits_of (later ++ k)) = omega (arith, length-edits_of (later ++ k), Ends-length k (later ++ k) record { later = later; whole_is = refl }) in
    ap (take v) (edits_of-cons e (later ++ k)) ∙ take-append-le v (edits_of (later ++ k)) (e.edit ∷ []) long ∙ take_behind later k v few

-- the first updates of two histories are equal, as far as the earlier one goes
pub same_beginning : (k h : List Entry) (v : ℕ) → Ends k h → v ≤ length k → take v (edits_of h) ≡ take v (edits_of k)
same_beginning k h v ends few = ap (λ l. take v (edits_of l)) ends.whole_is ∙ take_behind ends.later k v few

-- a cell of no later version than an earlier history is that of the earlier history
pub cell_settled : (t : Terms) (i : ℕ) (k h : List Entry) → IsLegalHistory t h → Ends k h → cell_version (cell_of i h) ≤ length k → cell_of i h ≡ cell_of i k
cell_settled t i k [] legal ends early = ap (cell_of i) (sym (Ends-nil k ends))
cell_settled t i k (e ∷ h) legal ends early = elim (Ends-cases k h e ends) [
  | inl whole ↦ ap (cell_of i) (sym whole)
  | inr before ↦ elim (cases_Bool (nat_eq (index_written_by h e) i)) [
    | inl there ↦
        absurd (omega (arith, Ends-length k h before, ap cell_version (cell_of-there i e h (eqb-true _ _ there)), cell_version-word (length h + 1) (bits_written e.edit) (bits_written-short e.edit legal.1.short)))
    | inr elsewhere ↦
        let same = cell_of-elsewhere i e h elsewhere in
        same ∙ cell_settled t i k h legal.0 before (omega (arith, ap cell_version same))
  ]
]

-- a mark that is no later than an earlier history is that of the earlier history
pub mark_settled : (t : Terms) (b : ℕ) (k h : List Entry) → IsLegalHistory t h → Ends k h → mark_of b h ≤ length k → mark_of b h ≡ mark_of b k
mark_settled t b k [] legal ends early = ap (mark_of b) (sym (Ends-nil k ends))
mark_settled t b k (e ∷ h) legal ends early = elim (Ends-cases k h e ends) [
  | inl whole ↦ ap (mark_of b) (sym whole)
  | inr before ↦ elim (cases_Bool (touches (elements_of h) e.edit (block b))) [
    | inl touched ↦ absurd (omega (arith, Ends-length k h before, mark_of-cons b e h ∙ cond-true _ _ _ touched))
    | inr untouched ↦
        let same = mark_of-cons b e h ∙ cond-false _ _ _ untouched in
        same ∙ mark_settled t b k h legal.0 before (omega (arith, same))
  ]
]

cell_late : (t : Terms) (i : ℕ) (h : List Entry) (word : ℕ) → IsLegalHistory t h → Fits (cell_of i) h word → cell_version word ≤ length h
cell_late t i [] word legal fits = elim fits.shown [
  | inl is ↦ cell_version-most 0 word (omega (arith, cell_of-nil i))
  | inr is ↦ cell_version-most 0 word (omega (arith, cell_of-nil i))
]
cell_late t i (e ∷ h) word legal fits = elim fits.shown [
  | inl is ↦ cell_version-most (length (e ∷ h)) word (omega (arith, cell_of-below t i (e ∷ h) legal))
  | inr is ↦ cell_version-most (length (e ∷ h)) word (omega (arith, cell_of-below t i h legal.0))
]

cell_is : (t : Terms) (i : ℕ) (k h : List Entry) (word : ℕ) → AreTerms t → IsLegalHistory t h → Ends k h → Fits (cell_of i) h word → (index_of (descriptor_of k) ≡ i → length k ≤ cell_version word) → cell_version word ≤ length k → word ≡ cell_of i k
cell_is t i k [] word terms legal ends fits complete early = elim fits.shown [
  | inl is ↦ is ∙ ap (cell_of i) (sym (Ends-nil k ends))
  | inr is ↦ is ∙ ap (cell_of i) (sym (Ends-nil k ends))
]
cell_is t i k (e ∷ h) word terms legal ends fits complete early = elim (Ends-cases k h e ends) [
  | inl whole ↦ current_cell t i k word terms (subst (IsLegalHistory t) (sym whole) legal) (subst (λ l. Fits (cell_of i) l word) (sym whole) fits) complete
  | inr before ↦ elim fits.shown [
    | inl is ↦ is ∙ cell_settled t i k (e ∷ h) legal ends (omega (arith, ap cell_version is))
    | inr is ↦ is ∙ cell_settled t i k h legal.0 before (omega (arith, ap cell_version is))
  ]
]

pub cell_read : (t : Terms) (i : ℕ) (k h : List Entry) (word : ℕ) → AreTerms t → IsLegalHistory t h → Ends k h → Fits (cell_of i) h word → (index_of (descriptor_of k) ≡ i → length k ≤ cell_version word) → IsCellRead i k h word
cell_read t i k h word terms legal ends fits complete = record {
  late = cell_late t i h word legal fits;
  settled = cell_is t i k h word terms legal ends fits complete;
}

mark_late : (b : ℕ) (h : List Entry) (word : ℕ) → Fits (mark_of b) h word → word ≤ length h
mark_late b [] word fits = elim fits.shown [
  | inl is ↦ omega (arith, mark_of-le b [])
  | inr is ↦ omega (arith, mark_of-le b [])
]
mark_late b (e ∷ h) word fits = elim fits.shown [
  | inl is ↦ omega (arith, mark_of-le b (e ∷ h))
  | inr is ↦ omega (arith, mark_of-le b h)
]

mark_is : (t : Terms) (b : ℕ) (k h : List Entry) (word : ℕ) → AreTerms t → b < blocks_of t.limits → IsLegalHistory t h → Ends k h → Fits (mark_of b) h word → (HasPending (descriptor_of k) → index_of (descriptor_of k) / 8 ≡ b → length k ≤ word) → word ≤ length k → word ≡ mark_of b k
mark_is t b k [] word terms near legal ends fits complete early = elim fits.shown [
  | inl is ↦ is ∙ ap (mark_of b) (sym (Ends-nil k ends))
  | inr is ↦ is ∙ ap (mark_of b) (sym (Ends-nil k ends))
]
mark_is t b k (e ∷ h) word terms near legal ends fits complete early = elim (Ends-cases k h e ends) [
  | inl whole ↦ current_mark t b k word terms near (subst (IsLegalHistory t) (sym whole) legal) (subst (λ l. Fits (mark_of b) l word) (sym whole) fits) complete
  | inr before ↦ elim fits.shown [
    | inl is ↦ is ∙ mark_settled t b k (e ∷ h) legal ends (omega arith)
    | inr is ↦ is ∙ mark_settled t b k h legal.0 before (omega arith)
  ]
]

pub mark_read : (t : Terms) (b : ℕ) (k h : List Entry) (word : ℕ) → AreTerms t → b < blocks_of t.limits → IsLegalHistory t h → Ends k h → Fits (mark_of b) h word → (HasPending (descriptor_of k) → index_of (descriptor_of k) / 8 ≡ b → length k ≤ word) → IsMarkRead b k h word
mark_read t b k h word terms near legal ends fits complete = record {
  late = mark_late b h word fits;
  settled = mark_is t b k h word terms near legal ends fits complete;
}

-- a part of the version at which a full block was last touched is that of the block's fold
pub part_is : (t : Terms) (b p word : ℕ) (k h : List Entry) → AreTerms t → IsLegalHistory t h → Ends k h → FitsPart t.folding h b p word → is_whole (edits_of k) (block b) ≡ true → part_version word ≡ mark_of b k → part_value word ≡ t.folding.part p (elements_under (edits_of k) (block b))
part_is t b p word k h terms legal ends fits whole version =
    let legal' = (legal_within t k terms (legal_earlier t k h ends legal)).legal in
    elim fits.shown [
      | inl none ↦ absurd (omega (arith, whole_was_touched (edits_of k) (block b) legal' whole, ap part_version none, part_version-zero))
      | inr (v, part) ↦
          let is = part.word_is in
          let dated : part_version word ≡ v = ap part_version is ∙ part_version-word v _ (terms.short_parts p _) in
          let same : v ≡ mark_of b k = sym dated ∙ version in
          let early : v ≤ length k = omega (arith, mark_of-le b k) in
          let begins = same_beginning k h v ends early in
          let kept = untouched_since (edits_of k) v (block b) legal' whole (omega arith) in
          ap part_value is ∙ part_value-word v _ (terms.short_parts p _) ∙ ap (λ es. t.folding.part p (elements_under es (block b))) begins ∙ ap (t.folding.part p) (sym kept.1)
    ]

-- the part of a full block's fold may be installed with the block's mark as its version
pub part_fits : (t : Terms) (b p : ℕ) (k h : List Entry) → AreTerms t → IsLegalHistory t h → Ends k h → is_whole (edits_of k) (block b) ≡ true → FitsPart t.folding h b p (part_word (mark_of b k) (t.folding.part p (elements_under (edits_of k) (block b))))
part_fits t b p k h terms legal ends whole =
    let legal' = (legal_within t k terms (legal_earlier t k h ends legal)).legal in
    let v = mark_of b k in
    let few : mark_of b k ≤ length k = mark_of-le b k in
    let begins = same_beginning k h (mark_of b k) ends few in
    let kept = untouched_since (edits_of k) (mark_of b k) (block b) legal' whole (omega arith) in
    record {
      shown = inr (
        mark_of b k,
        record {
          some = whole_was_touched (edits_of k) (block b) legal' whole;
          within = omega (arith, length-edits_of h, Ends-length k h ends);
          whole = ap (λ es. is_whole es (block b)) begins ∙ kept.0;
          touched = ap (λ es. touched_by es (block b)) begins ∙ sym kept.2;
          word_is = ap (λ xs. part_word (mark_of b k) (t.folding.part p xs)) (kept.1 ∙ ap (λ es. elements_under es (block b)) (sym begins));
        },
      );
    }

between_by : (t : Terms) (h : List Entry) (a : ℕ) (e : Edit) → AreTerms t → IsLegalHistory t h → MayFollow t h record { actor = a; edit = e } → edit_between (descriptor_of h) (descriptor_of (record { actor = a; edit = e } ∷ h)) ≡ e
unfolding index_written_by
between_by t h a (Push x) terms legal next =
    let d = decoded t h terms legal in
    let s = decoded t (record { actor = a; edit = Push x } ∷ h) terms (legal, next) in
    let size = size_next t h record { actor = a; edit = Push x } terms legal next in
    let index = index_of-cons t h record { actor = a; edit = Push x } terms (legal, next) in
    let value = value_of-cons t h record { actor = a; edit = Push x } terms (legal, next) in
    let few = size_below t h terms legal in
    let some : nat_eq (length (elements_of h)) 4095 ≡ false = grind (arith, nat_tests) in
    let more : nat_lt (length (elements_of h)) (length (elements_of h) + 1) ≡ true = lt-ltb _ _ (omega arith) in
    rw (index, some, d.size, s.size, size, more, value) (ap Push (signed-bits_of x next.short))
between_by t h a Pop terms legal next =
    let index = index_of-cons t h record { actor = a; edit = Pop } terms (legal, next) in
    cond-true _ _ _ (eq-eqb _ _ index)
between_by t h a (Write i x) terms legal next =
    let d = decoded t h terms legal in
    let s = decoded t (record { actor = a; edit = Write i x } ∷ h) terms (legal, next) in
    let size = size_next t h record { actor = a; edit = Write i x } terms legal next in
    let index = index_of-cons t h record { actor = a; edit = Write i x } terms (legal, next) in
    let value = value_of-cons t h record { actor = a; edit = Write i x } terms (legal, next) in
    let few = size_below t h terms legal in
    let within = unrefused_write t.limits (elements_of h) i x (not_refused t.limits (edits_of h) (Write i x) next.verdict).1 in
    let some : nat_eq i 4095 ≡ false = grind (arith, nat_tests) in
    let more : nat_lt (length (elements_of h)) (length (elements_of h)) ≡ false = grind (arith, nat_tests) in
    rw (index, some, d.size, s.size, size, more, value) (ap (Write i) (signed-bits_of x next.short))
between_by t h a (Reserve n) terms legal next = absurd next.short
between_by t h a (Swap i j) terms legal next = absurd next.short
between_by t h a (Truncate n) terms legal next = absurd next.short

-- two successive descriptors determine the update between them
pub between : (t : Terms) (h : List Entry) (e : Entry) → AreTerms t → IsLegalHistory t (e ∷ h) → edit_between (descriptor_of h) (descriptor_of (e ∷ h)) ≡ e.edit
between t h e terms legal = between_by t h e.actor e.edit terms legal.0 legal.1

-- the list after one more entry
elements_next : (t : Terms) (h : List Entry) (e : Entry) (ys : List ℤ) → AreTerms t → IsLegalHistory t h → applied (elements_of h) e.edit ≡ Some ys → elements_of (e ∷ h) ≡ ys
elements_next t h e ys terms legal made =
    ap list_of (edits_of-cons e h) ∙ (list_of-snoc (edits_of h) e.edit ys (legal_within t h terms legal).legal made).1

-- the value in a cell
signed_there : (i a : ℕ) (e : Edit) (h : List Entry) (x : ℤ) → IsShort x → bits_written e ≡ bits_of x → index_written_by h record { actor = a; edit = e } ≡ i → signed (value_of (cell_of i (record { actor = a; edit = e } ∷ h))) ≡ x
signed_there i a e h x short bits at =
    ap (λ w. signed (value_of w)) (cell_of-there i record { actor = a; edit = e } h at)
    ∙ ap signed (value_of-cell (length h + 1) (bits_written e) (subst (λ b. b < 65536) (sym bits) (bits_of-short x short)) ∙ bits)
    ∙ signed-bits_of x short

ne-nat_eq : (m n : ℕ) → m ≢ n → nat_eq m n ≡ false
ne-nat_eq m n apart = grind (arith, nat_tests)

element_by : (t : Terms) (i : ℕ) (h : List Entry) (a : ℕ) (e : Edit) → AreTerms t → IsLegalHistory t (record { actor = a; edit = e } ∷ h) → i < length (elements_of (record { actor = a; edit = e } ∷ h)) → (i < length (elements_of h) → signed (value_of (cell_of i h)) ≡ slice_index_or (elements_of h) i (pos 0)) → signed (value_of (cell_of i (record { actor = a; edit = e } ∷ h))) ≡ slice_index_or (elements_of (record { actor = a; edit = e } ∷ h)) i (pos 0)
unfolding index_written_by
element_by t i h a (Push x) terms (legal, next) within before =
    let xs = elements_of h in
    let list : elements_of (record { actor = a; edit = Push x } ∷ h) ≡ elements_of h ++ x ∷ [] = elements_next t h record { actor = a; edit = Push x } (elements_of h ++ x ∷ []) terms legal refl in
    elim (cases_eq (length (elements_of h)) i) [
      | inl same ↦ signed_there i a (Push x) h x next.short refl same ∙ sym (ap (λ l. slice_index_or l i (pos 0)) list ∙ get_or_push (elements_of h) x (pos 0) i same)
      | inr other ↦
          let less : i < length (elements_of h) = omega (arith, ap length list, length_push (elements_of h) x) in
          ap (λ w. signed (value_of w)) (cell_of-elsewhere i record { actor = a; edit = Push x } h (ne-nat_eq _ _ other)) ∙ before less
          ∙ sym (ap (λ l. slice_index_or l i (pos 0)) list ∙ get_or_append_left (elements_of h) (x ∷ []) (pos 0) i less)
    ]
element_by t i h a Pop terms (legal, next) within before =
    let some = unrefused_pop t.limits (elements_of h) (not_refused t.limits (edits_of h) Pop next.verdict).1 in
    let list : elements_of (record { actor = a; edit = Pop } ∷ h) ≡ take (length (elements_of h) - 1) (elements_of h) = elements_next t h record { actor = a; edit = Pop } (take (length (elements_of h) - 1) (elements_of h)) terms legal (applied_pop (elements_of h) some) in
    let less : i < length (elements_of h) - 1 = omega (arith, ap length list, length-take (length (elements_of h) - 1) (elements_of h)) in
    let few = size_below t h terms legal in
    ap (λ w. signed (value_of w)) (cell_of-elsewhere i record { actor = a; edit = Pop } h (ne-nat_eq _ _ (λ wrong. omega arith))) ∙ before (omega arith)
    ∙ sym (ap (λ l. slice_index_or l i (pos 0)) list ∙ get_or-take (length (elements_of h) - 1) (elements_of h) i (pos 0) less)
element_by t i h a (Write j x) terms (legal, next) within before =
    let inside = unrefused_write t.limits (elements_of h) j x (not_refused t.limits (edits_of h) (Write j x) next.verdict).1 in
    let list : elements_of (record { actor = a; edit = Write j x } ∷ h) ≡ slice_set (elements_of h) j x = elements_next t h record { actor = a; edit = Write j x } (slice_set (elements_of h) j x) terms legal (applied_write (elements_of h) j x inside) in
    elim (cases_eq j i) [
      | inl same ↦ signed_there i a (Write j x) h x next.short refl same ∙ sym (ap (λ l. slice_index_or l i (pos 0)) list ∙ ap (λ n. slice_index_or (slice_set (elements_of h) j x) n (pos 0)) (sym same) ∙ get_or-set_same (elements_of h) j x (pos 0) inside)
      | inr other ↦
          let less : i < length (elements_of h) = omega (arith, ap length list, length-set (elements_of h) j x) in
          ap (λ w. signed (value_of w)) (cell_of-elsewhere i record { actor = a; edit = Write j x } h (ne-nat_eq _ _ other)) ∙ before less
          ∙ sym (ap (λ l. slice_index_or l i (pos 0)) list ∙ get_or-set_other (elements_of h) j i x (pos 0) (λ e. other (sym e)))
    ]
element_by t i h a (Reserve n) terms (legal, next) within before = absurd next.short
element_by t i h a (Swap j k) terms (legal, next) within before = absurd next.short
element_by t i h a (Truncate n) terms (legal, next) within before = absurd next.short

-- the cell of an index shows the element there
pub cell_element : (t : Terms) (i : ℕ) (k : List Entry) → AreTerms t → IsLegalHistory t k → i < length (elements_of k) → signed (value_of (cell_of i k)) ≡ slice_index_or (elements_of k) i (pos 0)
cell_element t i [] terms legal within = absurd (omega (arith, no_elements))
cell_element t i (e ∷ h) terms legal within = element_by t i h e.actor e.edit terms legal within (λ less. cell_element t i h terms legal.0 less)

short_by : (t : Terms) (h : List Entry) (a : ℕ) (e : Edit) → AreTerms t → IsLegalHistory t (record { actor = a; edit = e } ∷ h) → All IsShort (elements_of h) → All IsShort (elements_of (record { actor = a; edit = e } ∷ h))
short_by t h a (Push x) terms legal before = All-same IsShort _ _ (elements_next t h record { actor = a; edit = Push x } (elements_of h ++ x ∷ []) terms legal.0 refl) (All-push IsShort (elements_of h) x before legal.1.short)
short_by t h a Pop terms (legal, next) before =
    let some = unrefused_pop t.limits (elements_of h) (not_refused t.limits (edits_of h) Pop next.verdict).1 in
    All-same IsShort _ _ (elements_next t h record { actor = a; edit = Pop } (take (length (elements_of h) - 1) (elements_of h)) terms legal (applied_pop (elements_of h) some)) (All-take IsShort (length (elements_of h) - 1) (elements_of h) before)
short_by t h a (Write j x) terms (legal, next) before =
    let inside = unrefused_write t.limits (elements_of h) j x (not_refused t.limits (edits_of h) (Write j x) next.verdict).1 in
    All-same IsShort _ _ (elements_next t h record { actor = a; edit = Write j x } (slice_set (elements_of h) j x) terms legal (applied_write (elements_of h) j x inside)) (All-set IsShort (elements_of h) j x next.short before)
short_by t h a (Reserve n) terms (legal, next) before = absurd next.short
short_by t h a (Swap i j) terms (legal, next) before = absurd next.short
short_by t h a (Truncate n) terms (legal, next) before = absurd next.short

-- each element of a legal history is short
pub all_short : (t : Terms) (h : List Entry) → AreTerms t → IsLegalHistory t h → All IsShort (elements_of h)
all_short t [] terms legal = All-same IsShort (elements_of []) [] (ap list_of edits_of-nil ∙ list_of_replayed [] [] replayed-nil) (All-nil IsShort)
all_short t (e ∷ h) terms legal = short_by t h e.actor e.edit terms legal (all_short t h terms legal.0)
