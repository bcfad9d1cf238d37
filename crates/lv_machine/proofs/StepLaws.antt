-- A step of a call that knows what it should is allowed, and is right: the call still knows what it should, or ends as it should.
use Rattle.std.proofs.Common.{◌≡◌, ℕ, ◌+◌, ◌-◌, ◌*◌, ◌/◌, ◌%◌, ◌<◌, ◌≤◌, List, length, slice_index, refl, sym, ap, ◌∙◌, subst, arith}
use Rattle.std.specs.Prelude.{pos}
use Rattle.std.specs.List.{slice_index_or}
use Rattle.lv_geometry.specs.Bounds.{Bounds}
use Rattle.lv_bodies.specs.Body.{Operations}
use Rattle.lv_machine.specs.declared.entries.Entry.{Entry}
use Rattle.lv_machine.specs.declared.tasks.Task.{Task}
use Rattle.lv_machine.specs.declared.tasks.Task.TheVariants as task
use Rattle.lv_machine.specs.History.{cell_of, descriptor_of, elements_of, Ends, IsLegalHistory}
use Rattle.lv_machine.specs.Layout.{cell_place, mark_place, part_place}
use Rattle.lv_machine.specs.Calls.{move_of}
use Rattle.lv_machine.specs.Moves.{Config, IsComplete, MayMove, Shows}
use Rattle.lv_machine.specs.Progress.{Knows, terms_of}
use Rattle.lv_machine.specs.Shows.{Fits, FitsPart, IsCellRead, IsMarkRead, mark_of}
use Rattle.lv_machine.specs.Terms.{AreTerms, blocks_of, Terms}
use Rattle.lv_machine.specs.Words.{cell_version, HasPending, part_word, signed, value_of}
use Rattle.lv_machine.proofs.EndsLaws.{legal_earlier}
use Rattle.lv_machine.proofs.ReadLaws.{cell_element, cell_read, mark_read, part_fits}
use Rattle.lv_machine.proofs.ReadyLaws.{block_whole, look_edit, refresh_within, size_in_blocks}
use Rattle.lv_machine.proofs.ShowsLaws.{few_blocks}

-- what a load of a call finds, if the call's look shows an earlier history
module _ (t : Terms) (c : Config) (k : List Entry) (terms : AreTerms t) (shows : Shows t c) (ends : Ends k c.history) where
  pub legal_seen : IsLegalHistory t k
  legal_seen = legal_earlier t k c.history ends shows.legal

  cell_fits : (i : ℕ) → i < 8 * blocks_of t.limits → Fits (cell_of i) c.history (slice_index c.words (cell_place i))
  cell_fits i within =
      let whole : 8 * (i / 8) + i % 8 ≡ i = omega arith in
      subst (λ j. Fits (cell_of j) c.history (slice_index c.words (cell_place i))) whole ((shows.places (i / 8) (i % 8) (omega arith) (omega arith)).cell (omega arith))

  pub cell_at : (i : ℕ) → i < 8 * blocks_of t.limits → IsComplete c.words (descriptor_of k) → IsCellRead i k c.history (slice_index c.words (cell_place i))
  cell_at i within complete =
      let few = few_blocks t terms in
      cell_read t i k c.history (slice_index c.words (cell_place i)) terms shows.legal ends (cell_fits i within)
      (λ same. subst (λ j. length k ≤ cell_version (slice_index c.words (cell_place j))) same (omega (arith, complete.cell (omega arith), look_edit t k terms legal_seen)))

  pub mark_at : (b : ℕ) → b < blocks_of t.limits → IsComplete c.words (descriptor_of k) → IsMarkRead b k c.history (slice_index c.words (mark_place b))
  mark_at b near complete =
      mark_read t b k c.history (slice_index c.words (mark_place b)) terms near shows.legal ends ((shows.places b 8 near (omega arith)).mark refl)
      (λ has same. subst (λ d. length k ≤ slice_index c.words (mark_place d)) same (omega (arith, complete.mark has, look_edit t k terms legal_seen)))

  pub part_at : (b p : ℕ) → b < blocks_of t.limits → p < 4 → FitsPart t.folding c.history b p (slice_index c.words (part_place b p))
  part_at b p near few =
      let back : (9 + p) - 9 ≡ p = omega arith in
      subst (λ q. FitsPart t.folding c.history b q (slice_index c.words (part_place b p))) back ((shows.places b (9 + p) near (omega arith)).part (omega arith))

  -- a loaded element at an index of the history, if its cell's version is no later than that history
  pub element_at : (i : ℕ) → i < length (elements_of k) → IsComplete c.words (descriptor_of k) → cell_version (slice_index c.words (cell_place i)) ≤ length k → signed (value_of (slice_index c.words (cell_place i))) ≡ slice_index_or (elements_of k) i (pos 0)
  element_at i within complete early =
      let near : i < 8 * blocks_of t.limits = omega (arith, size_in_blocks t k terms legal_seen) in
      ap (λ w. signed (value_of w)) ((cell_at i near complete).settled early) ∙ cell_element t i k terms legal_seen within

module _ {S : Type 0} (o : Operations S) (count : ℕ) (parts_of : S → List ℕ) (limits : Bounds) (seats a : ℕ) (c : Config) (k : List Entry) (terms : AreTerms (terms_of o count parts_of limits seats)) (shows : Shows (terms_of o count parts_of limits seats) c) (ends : Ends k c.history) where
  legal : IsLegalHistory (terms_of o count parts_of limits seats) k
  legal = legal_seen (terms_of o count parts_of limits seats) c k terms shows ends

  -- the move of a call that knows what it should may be made
  pub may_move : (t : Task S) → a < seats → c.looks a ≡ descriptor_of k → Knows o count parts_of limits c.words k t → MayMove (terms_of o count parts_of limits seats) c (move_of a t)
  may_move (task.Look g) seat look w = seat
  may_move (task.CompleteCell g) seat look w = subst HasPending (sym look) w.1
  may_move (task.CompleteMark g) seat look w = subst HasPending (sym look) w.1
  may_move (task.ReadBefore edit i) seat look w = tt
  may_move (task.Exchange edit before) seat look w = record {
    actor = seat;
    short = w.0.granted.may;
    verdict = rw look w.0.granted.granted;
    complete = subst (IsComplete c.words) (sym look) w.0.complete;
  }
  may_move (task.ReadCell i) seat look w = tt
  may_move (task.SumCell walk) seat look w = tt
  may_move (task.SumMark walk) seat look w = tt
  may_move (task.SumPart walk parts) seat look w = tt
  may_move (task.KeepMark b) seat look w = tt
  may_move (task.KeepCell keep) seat look w = tt
  may_move (task.KeepPart b parts) seat look w =
      let T = terms_of o count parts_of limits seats in
      let inside = refresh_within T k terms legal b w.keeps.granted in
      let fits = part_fits T b parts.number k c.history terms shows.legal ends (block_whole T k terms legal b inside) in
      record {
        block = omega (arith, size_in_blocks T k terms legal);
        part = w.some;
        fits = subst (λ v. FitsPart T.folding c.history b parts.number (part_word v (slice_index parts.values parts.number))) (sym w.version)
            (subst (λ vs. FitsPart T.folding c.history b parts.number (part_word (mark_of b k) (slice_index vs parts.number))) (sym w.values) fits);
      }
