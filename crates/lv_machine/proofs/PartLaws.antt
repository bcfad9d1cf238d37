-- A reduction that has loaded all parts of a block has the block's fold.
use Rattle.std.proofs.Common.{◌≡◌, ℕ, ◌+◌, ◌-◌, ◌*◌, ◌/◌, ◌<◌, ◌≤◌, List, length, nat_eq, nat_lt, slice_index, slice_set, length-set, refl, sym, ap, ◌∙◌, subst, inl, inr, arith}
use Rattle.std.specs.Prelude.{take, drop, slice_range, All}
use Rattle.std.proofs.lemmas.Bool.{cases_Bool, cases_lt, cases_eq, eqb-true, ltb-true, ltb-false}
use Rattle.std.proofs.lemmas.List.{get_or-set_other, get_or-set_same}
use Rattle.std.proofs.lemmas.List.Elements.{All-drop, All-take}
use Rattle.lv_geometry.specs.Bounds.{Bounds}
use Rattle.lv_bodies.specs.Body.{Operations, BodyLaws, CanFold, fold_of}
use Rattle.lv_bodies.specs.Parts.{AreParts, HasParts, IsShort}
use Rattle.lv_edits.specs.Touch.{elements_under}
use Rattle.lv_edits.proofs.TouchLaws.{elements_under-length}
use Rattle.lv_reduce.proofs.PieceLaws.{slice-joined}
use Rattle.lv_machine.specs.declared.entries.Entry.{Entry}
use Rattle.lv_machine.specs.declared.tasks.Goal.TheVariants as goal
use Rattle.lv_machine.specs.declared.tasks.Parts.{Parts}
use Rattle.lv_machine.specs.declared.tasks.Walk.{Walk}
use Rattle.lv_machine.specs.History.{descriptor_of, edits_of, elements_of, Ends, IsLegalHistory}
use Rattle.lv_machine.specs.Layout.{part_place}
use Rattle.lv_machine.specs.Calls.{part_loaded, with_block, with_part}
use Rattle.lv_machine.specs.Moves.{Config, Shows}
use Rattle.lv_machine.specs.Progress.{AreTaken, block_fold, IsRight, terms_of, WalksBlock}
use Rattle.lv_machine.specs.Shows.{block}
use Rattle.lv_machine.specs.Terms.{AreTerms, blocks_of}
use Rattle.lv_machine.specs.Words.{part_value, part_version}
use Rattle.lv_machine.proofs.HistoryLaws.{legal_within}
use Rattle.lv_machine.proofs.ReadLaws.{all_short, part_is}
use Rattle.lv_machine.proofs.ReadyLaws.{block_whole, reduce_within, size_in_blocks}
use Rattle.lv_machine.proofs.RightLaws.{same_list, walked_right}
use Rattle.lv_machine.proofs.StepLaws.{legal_seen, part_at}

module _ {S : Type 0} (o : Operations S) (count : ℕ) (parts_of : S → List ℕ) (whole_of : List ℕ → S) (limits : Bounds) (seats a : ℕ) (c : Config) (k : List Entry) (terms : AreTerms (terms_of o count parts_of limits seats)) (shows : Shows (terms_of o count parts_of limits seats) c) (ends : Ends k c.history) where
  legal : IsLegalHistory (terms_of o count parts_of limits seats) k
  legal = legal_seen (terms_of o count parts_of limits seats) c k terms shows ends

  -- the elements of a vector can be folded
  pub seen_can_fold : CanFold (elements_of k)
  seen_can_fold =
      let within = legal_within (terms_of o count parts_of limits seats) k terms legal in
      record { few = omega (arith, within.few); elements = within.elements }

  -- the eight elements of a block that begins at a walk's position
  pub block_slice : (b at : ℕ) → b * 8 ≡ at → elements_under (edits_of k) (block b) ≡ slice_range (elements_of k) at (at + 8)
  block_slice b at begins =
      let wide : 8 ≡ at + 8 - at = omega arith in
      ap (λ n. take 8 (drop n (elements_of k))) begins ∙ ap (λ n. take n (drop at (elements_of k))) wide

  block_inside : (walk : Walk S) → WalksBlock o count parts_of limits c.words k walk → 8 * (walk.at / 8) + 8 ≤ length (elements_of k)
  block_inside walk w =
      let inside = reduce_within (terms_of o count parts_of limits seats) k terms legal walk.lo walk.hi w.walks.granted in
      omega (arith, w.begins, w.ends)

  -- the part that was loaded is that of the block's fold
  pub loaded_part : (walk : Walk S) (parts : Parts) → WalksBlock o count parts_of limits c.words k walk → AreTaken o count parts_of limits c.words k (walk.at / 8) parts → part_version (slice_index c.words (part_place (walk.at / 8) parts.number)) ≡ parts.version → part_value (slice_index c.words (part_place (walk.at / 8) parts.number)) ≡ slice_index (parts_of (block_fold o count parts_of limits c.words k (walk.at / 8))) parts.number
  loaded_part walk parts w taken version =
      let T = terms_of o count parts_of limits seats in
      let inside = block_inside walk w in
      let near : walk.at / 8 < blocks_of limits = omega (arith, size_in_blocks (terms_of o count parts_of limits seats) k terms legal) in
      let few : parts.number < 4 = omega (arith, taken.some, terms.few_parts) in
      part_is T (walk.at / 8) parts.number (slice_index c.words (part_place (walk.at / 8) parts.number)) k c.history terms shows.legal ends
      (part_at T c k terms shows ends (walk.at / 8) parts.number near few)
      (block_whole T k terms legal (walk.at / 8) inside)
      (version ∙ taken.version)

  module _ (parts : Parts) (b found : ℕ) (taken : AreTaken o count parts_of limits c.words k b parts) (value : part_value found ≡ slice_index (parts_of (block_fold o count parts_of limits c.words k b)) parts.number) where
    few_parts : parts.number < 4
    few_parts = omega (arith, taken.some, terms.few_parts)

    -- the parts with one more
    one_taken : (p : ℕ) → p < parts.number + 1 → slice_index (slice_set parts.values parts.number (part_value found)) p ≡ slice_index (parts_of (block_fold o count parts_of limits c.words k b)) p
    one_taken p less = elim (cases_eq p parts.number) [
      | inl same ↦
          let here : parts.number < length parts.values = omega (arith, few_parts, taken.four) in
          subst (λ q. slice_index (slice_set parts.values parts.number (part_value found)) q ≡ slice_index (parts_of (block_fold o count parts_of limits c.words k b)) q) (sym same)
          (get_or-set_same parts.values parts.number (part_value found) 0 here ∙ value)
      | inr other ↦ get_or-set_other parts.values parts.number p (part_value found) 0 other ∙ taken.taken p (omega arith)
    ]

    others_after : (p : ℕ) → parts.number + 1 ≤ p → slice_index (slice_set parts.values parts.number (part_value found)) p ≡ 0
    others_after p more = get_or-set_other parts.values parts.number p (part_value found) 0 (λ same. omega arith) ∙ taken.others p (omega arith)

    pub one_more_taken : parts.number + 1 < count → AreTaken o count parts_of limits c.words k b (with_part o count parts_of whole_of parts found)
    one_more_taken more = record {
      version = taken.version;
      some = more;
      four = length-set parts.values parts.number (part_value found) ∙ taken.four;
      taken = one_taken;
      others = others_after;
    }

    -- all parts are those of the block's fold
    pub all_taken : AreParts count parts_of → count ≤ parts.number + 1 → slice_set parts.values parts.number (part_value found) ≡ parts_of (block_fold o count parts_of limits c.words k b)
    all_taken are over =
        let s = block_fold o count parts_of limits c.words k b in
        same_list _ _ (length-set parts.values parts.number (part_value found) ∙ taken.four ∙ sym (are.four s))
        (λ p. elim (cases_lt p (parts.number + 1)) [
          | inl less ↦ one_taken p less
          | inr past ↦ others_after p past ∙ sym (are.unused s p (omega arith))
        ])

  -- all parts together make the fold of the eight elements at the walk's position
  pub whole_taken : AreParts count parts_of → HasParts parts_of whole_of o → (walk : Walk S) (parts : Parts) (found : ℕ) → WalksBlock o count parts_of limits c.words k walk → AreTaken o count parts_of limits c.words k (walk.at / 8) parts → part_value found ≡ slice_index (parts_of (block_fold o count parts_of limits c.words k (walk.at / 8))) parts.number → count ≤ parts.number + 1 → whole_of (slice_set parts.values parts.number (part_value found)) ≡ fold_of o (slice_range (elements_of k) walk.at (walk.at + 8))
  whole_taken are has walk parts found w taken value over =
      let T = terms_of o count parts_of limits seats in
      let inside = block_inside walk w in
      let begins : walk.at / 8 * 8 ≡ walk.at = omega (arith, w.begins) in
      let eight = elements_under-length (edits_of k) (block (walk.at / 8)) (block_whole T k terms legal (walk.at / 8) inside) in
      let short : All IsShort (elements_under (edits_of k) (block (walk.at / 8))) = All-take IsShort 8 (drop (walk.at / 8 * 8) (elements_of k)) (All-drop IsShort (walk.at / 8 * 8) (elements_of k) (all_short T k terms legal)) in
      ap whole_of (all_taken parts (walk.at / 8) found taken value are over)
      ∙ has (elements_under (edits_of k) (block (walk.at / 8))) eight short
      ∙ ap (fold_of o) (block_slice (walk.at / 8) walk.at begins)

  -- a reduction that loaded a part
  pub part_right : (within : S → ℕ → Type 0) → BodyLaws o within → AreParts count parts_of → HasParts parts_of whole_of o → (walk : Walk S) (parts : Parts) → WalksBlock o count parts_of limits c.words k walk → AreTaken o count parts_of limits c.words k (walk.at / 8) parts →
      IsRight o count parts_of limits a c.words c.history k k (goal.Reduce walk.lo walk.hi) (part_loaded o count parts_of whole_of (descriptor_of k) walk parts (slice_index c.words (part_place (walk.at / 8) parts.number)))
  part_right within laws are has walk parts w taken =
      let found = slice_index c.words (part_place (walk.at / 8) parts.number) in
      let inside = reduce_within (terms_of o count parts_of limits seats) k terms legal walk.lo walk.hi w.walks.granted in
      elim (cases_Bool (nat_eq (part_version (slice_index c.words (part_place (walk.at / 8) parts.number))) parts.version)) [
        | inr other ↦ rw other ((w.walks, omega (arith, w.ends)), refl)
        | inl same ↦
            let value = loaded_part walk parts w taken (eqb-true _ _ same) in
            elim (cases_Bool (nat_lt (parts.number + 1) count)) [
              | inl more ↦ rw (same, more) ((w, one_more_taken parts (walk.at / 8) (slice_index c.words (part_place (walk.at / 8) parts.number)) taken value (ltb-true _ _ more)), refl)
              | inr over ↦
                  let whole = whole_taken are has walk parts (slice_index c.words (part_place (walk.at / 8) parts.number)) w taken value (ltb-false _ _ over) in
                  rw (same, over)
                  (walked_right o count parts_of whole_of limits seats a c.words c.history k k terms legal
                  (with_block o count parts_of whole_of walk (slice_set parts.values parts.number (part_value (slice_index c.words (part_place (walk.at / 8) parts.number)))))
                  record {
                    granted = w.walks.granted;
                    complete = w.walks.complete;
                    low = omega (arith, w.walks.low);
                    high = w.ends;
                    sum = slice-joined o within laws (elements_of k) seen_can_fold walk.lo walk.at (walk.at + 8) w.walks.low (omega arith) (omega (arith, w.ends)) walk.sum _ _ w.walks.sum whole refl;
                    counts = omega (arith, w.walks.counts);
                  })
            ]
      ]
