-- A call that knows what it should can do its next step.
use Rattle.std.proofs.Common.{◌≡◌, ℕ, ◌+◌, ◌-◌, ◌*◌, ◌/◌, ◌%◌, ◌<◌, ◌≤◌, None, List, length, slice_index, sym, subst, arith}
use Rattle.std.specs.Prelude.{slice_range}
use Rattle.lv_geometry.specs.Bounds.{Bounds}
use Rattle.lv_bodies.specs.Body.{Operations, BodyLaws, fold_of}
use Rattle.lv_bodies.specs.Parts.{AreParts, HasParts}
use Rattle.lv_edits.specs.declared.edit.Edit.{Edit}
use Rattle.lv_edits.specs.declared.edit.Edit.TheVariants.{Push, Pop, Write, Reserve, Swap, Truncate}
use Rattle.lv_edits.specs.Verdict.{verdict_of}
use Rattle.lv_reduce.proofs.PieceLaws.{slice-within}
use Rattle.lv_machine.specs.declared.entries.Entry.{Entry}
use Rattle.lv_machine.specs.declared.tasks.Task.{Task}
use Rattle.lv_machine.specs.declared.tasks.Task.TheVariants as task
use Rattle.lv_machine.specs.declared.tasks.Walk.{Walk}
use Rattle.lv_machine.specs.History.{descriptor_of, edits_of, elements_of, Ends, IsLegalHistory}
use Rattle.lv_machine.specs.Layout.{cell_place, mark_place, part_place, place}
use Rattle.lv_machine.specs.Calls.{place_of}
use Rattle.lv_machine.specs.Moves.{Config, IsComplete, Shows}
use Rattle.lv_machine.specs.Progress.{Knows, MayEdit, terms_of, Walks, WalksBlock}
use Rattle.lv_machine.specs.Ready.{CanAdvance, CanMove, CanPack, CanWalk, CoversAtMost, IsIndexShort}
use Rattle.lv_machine.specs.Terms.{AreTerms, blocks_of}
use Rattle.lv_machine.specs.Words.{cell_version, edit_of, index_of, size_of}
use Rattle.lv_machine.proofs.HistoryLaws.{length_below, size_below}
use Rattle.lv_machine.proofs.PartLaws.{loaded_part, seen_can_fold, whole_taken}
use Rattle.lv_machine.proofs.ReadyLaws.{before_within, edit_granted, edit_left, get_within, look_edit, look_size, reduce_within, refresh_within, size_in_blocks, write_within}
use Rattle.lv_machine.proofs.ShowsLaws.{few_blocks, pending, place_within}
use Rattle.lv_machine.proofs.StepLaws.{cell_at, legal_seen, mark_at}

module _ {S : Type 0} (o : Operations S) (within : S → ℕ → Type 0) (laws : BodyLaws o within) (count : ℕ) (parts_of : S → List ℕ) (whole_of : List ℕ → S) (are : AreParts count parts_of) (has : HasParts parts_of whole_of o) (limits : Bounds) (seats : ℕ) (c : Config) (k : List Entry) (terms : AreTerms (terms_of o count parts_of limits seats)) (shows : Shows (terms_of o count parts_of limits seats) c) (ends : Ends k c.history) where
  legal : IsLegalHistory (terms_of o count parts_of limits seats) k
  legal = legal_seen (terms_of o count parts_of limits seats) c k terms shows ends

  blocks : length (elements_of k) ≤ 8 * blocks_of limits
  blocks = size_in_blocks (terms_of o count parts_of limits seats) k terms legal

  few : length (elements_of k) ≤ 4088
  few = size_below (terms_of o count parts_of limits seats) k terms legal

  at_size : size_of (descriptor_of k) ≡ length (elements_of k)
  at_size = look_size (terms_of o count parts_of limits seats) k terms legal

  at_edit : edit_of (descriptor_of k) ≡ length k
  at_edit = look_edit (terms_of o count parts_of limits seats) k terms legal

  few_entries : length c.history < 16777216
  few_entries = omega (arith, length_below (terms_of o count parts_of limits seats) c.history terms shows.legal, terms.allowed.few_edits)

  here : (b r : ℕ) → b < blocks_of limits → r < 16 → place b r < length c.words
  here b r near short = omega (arith, shows.count, place_within limits b r near short)

  cell_here : (i : ℕ) → i < length (elements_of k) → cell_place i < length c.words
  cell_here i inside = here (i / 8) (i % 8) (omega (arith, blocks)) (omega arith)

  edit_index : (edit : Edit) → verdict_of limits (edits_of k) edit ≡ None → IsIndexShort edit
  edit_index (Push x) free = tt
  edit_index Pop free = tt
  edit_index (Write i x) free = omega (arith, write_within (terms_of o count parts_of limits seats) k terms legal i x free, few)
  edit_index (Reserve n) free = tt
  edit_index (Swap i j) free = tt
  edit_index (Truncate n) free = tt

  can_pack : (edit : Edit) → MayEdit o count parts_of limits c.words k edit → CanPack (descriptor_of k) edit
  can_pack edit may =
      let free = edit_granted (terms_of o count parts_of limits seats) k terms legal edit may.granted in
      record {
        short = may.granted.may;
        number = omega (arith, at_edit, edit_left (terms_of o count parts_of limits seats) k terms legal edit free, terms.allowed.few_edits);
        size = omega (arith, at_size, few);
        index = edit_index edit free;
      }

  walk_inside : (walk : Walk S) → Walks o count parts_of limits c.words k walk → walk.hi ≤ length (elements_of k)
  walk_inside walk w = reduce_within (terms_of o count parts_of limits seats) k terms legal walk.lo walk.hi w.granted

  block_here : (walk : Walk S) → WalksBlock o count parts_of limits c.words k walk → walk.at / 8 < blocks_of limits
  block_here walk w = omega (arith, w.ends, walk_inside walk w.walks, blocks)

  -- the step's word is among the words, and can be made
  pub can_move : (t : Task S) → Knows o count parts_of limits c.words k t → CanMove (length c.words) (descriptor_of k) t
  can_move (task.Look g) w = (omega (arith, shows.count), tt)
  can_move (task.CompleteCell g) w =
      let pend = pending (terms_of o count parts_of limits seats) k terms legal w.1 in
      (here (index_of (descriptor_of k) / 8) (index_of (descriptor_of k) % 8) (omega (arith, pend.within)) (omega arith), tt)
  can_move (task.CompleteMark g) w =
      let pend = pending (terms_of o count parts_of limits seats) k terms legal w.1 in
      (here (index_of (descriptor_of k) / 8) 8 (omega (arith, pend.within)) (omega arith), tt)
  can_move (task.ReadBefore edit i) w = (cell_here i (before_within (terms_of o count parts_of limits seats) k terms legal edit i w.0.granted w.1), tt)
  can_move (task.Exchange edit before) w = (omega (arith, shows.count), can_pack edit w.0)
  can_move (task.ReadCell i) w = (cell_here i (get_within (terms_of o count parts_of limits seats) k terms legal i w.0), tt)
  can_move (task.SumCell walk) w = (cell_here walk.at (omega (arith, w.1, walk_inside walk w.0)), tt)
  can_move (task.SumMark walk) w = (here (walk.at / 8) 8 (block_here walk w) (omega arith), tt)
  can_move (task.SumPart walk parts) w =
      let small : parts.number < 4 = omega (arith, w.1.some, terms.few_parts) in
      (here (walk.at / 8) (9 + parts.number) (block_here walk w.0) (omega arith), small)
  can_move (task.KeepMark b) w = (here b 8 (omega (arith, refresh_within (terms_of o count parts_of limits seats) k terms legal b w.granted, blocks)) (omega arith), tt)
  can_move (task.KeepCell keep) w = (cell_here keep.at (omega (arith, w.high, refresh_within (terms_of o count parts_of limits seats) k terms legal keep.block w.keeps.granted)), tt)
  can_move (task.KeepPart b parts) w =
      let small : parts.number < 4 = omega (arith, w.some, terms.few_parts) in
      (here b (9 + parts.number) (omega (arith, refresh_within (terms_of o count parts_of limits seats) k terms legal b w.keeps.granted, blocks)) (omega arith), small)

  version_fits : (i : ℕ) → i < length (elements_of k) → IsComplete c.words (descriptor_of k) → cell_version (slice_index c.words (cell_place i)) < 16777216
  version_fits i inside complete = omega (arith, (cell_at (terms_of o count parts_of limits seats) c k terms shows ends i (omega (arith, blocks)) complete).late, few_entries)

  mark_fits : (b : ℕ) → b < blocks_of limits → IsComplete c.words (descriptor_of k) → slice_index c.words (mark_place b) < 16777216
  mark_fits b near complete = omega (arith, (mark_at (terms_of o count parts_of limits seats) c k terms shows ends b near complete).late, few_entries)

  -- the fold of a part of the list is that of no more elements than there are before its end
  holds : (s : S) (lo at : ℕ) → lo ≤ at → at ≤ length (elements_of k) → s ≡ fold_of o (slice_range (elements_of k) lo at) → CoversAtMost within s at
  holds s lo at low inside is = record {
    count = at - lo;
    held = subst (λ u. within u (at - lo)) (sym is) (slice-within o within laws (elements_of k) (seen_can_fold o count parts_of whole_of limits seats 0 c k terms shows ends) lo at low inside);
    most = omega arith;
  }

  can_walk : (walk : Walk S) → Walks o count parts_of limits c.words k walk → walk.at < walk.hi → CanWalk within walk
  can_walk walk w less = record {
    order = less;
    short = omega (arith, walk_inside walk w, few);
    holds = holds walk.sum walk.lo walk.at w.low (omega (arith, walk_inside walk w)) w.sum;
    cells = omega (arith, w.counts);
    summaries = omega (arith, w.counts);
  }

  -- what the step finds can be returned, or combined with what was loaded
  pub can_advance : (t : Task S) → Knows o count parts_of limits c.words k t → CanAdvance within count whole_of t (slice_index c.words (place_of (descriptor_of k) t))
  can_advance (task.Look g) w = tt
  can_advance (task.CompleteCell g) w = tt
  can_advance (task.CompleteMark g) w = tt
  can_advance (task.ReadBefore edit i) w = version_fits i (before_within (terms_of o count parts_of limits seats) k terms legal edit i w.0.granted w.1) w.0.complete
  can_advance (task.Exchange edit before) w = tt
  can_advance (task.ReadCell i) w = version_fits i (get_within (terms_of o count parts_of limits seats) k terms legal i w.0) w.1
  can_advance (task.SumCell walk) w = (can_walk walk w.0 w.1, version_fits walk.at (omega (arith, w.1, walk_inside walk w.0)) w.0.complete)
  can_advance (task.SumMark walk) w = mark_fits (walk.at / 8) (block_here walk w) w.walks.complete
  can_advance (task.SumPart walk parts) w = record {
    walks = can_walk walk w.0.walks (omega (arith, w.0.ends));
    block = w.0.ends;
    few = omega (arith, w.1.some, terms.few_parts);
    whole = λ version over.
        let found = slice_index c.words (part_place (walk.at / 8) parts.number) in
        let value = loaded_part o count parts_of whole_of limits seats 0 c k terms shows ends walk parts w.0 w.1 version in
        let whole = whole_taken o count parts_of whole_of limits seats 0 c k terms shows ends are has walk parts (slice_index c.words (part_place (walk.at / 8) parts.number)) w.0 w.1 value over in
        let inside : walk.at + 8 ≤ length (elements_of k) = omega (arith, w.0.ends, walk_inside walk w.0.walks) in
        record {
          count = walk.at + 8 - walk.at;
          held = subst (λ u. within u (walk.at + 8 - walk.at)) (sym whole) (slice-within o within laws (elements_of k) (seen_can_fold o count parts_of whole_of limits seats 0 c k terms shows ends) walk.at (walk.at + 8) (omega arith) inside);
          most = omega arith;
        };
  }
  can_advance (task.KeepMark b) w =
      let near : b < blocks_of limits = omega (arith, refresh_within (terms_of o count parts_of limits seats) k terms legal b w.granted, blocks) in
      (omega (arith, few_blocks (terms_of o count parts_of limits seats) terms), mark_fits b near w.complete)
  can_advance (task.KeepCell keep) w =
      let inside : keep.at < length (elements_of k) = omega (arith, w.high, refresh_within (terms_of o count parts_of limits seats) k terms legal keep.block w.keeps.granted) in
      record {
        short = omega (arith, few);
        holds = holds keep.sum (8 * keep.block) keep.at w.low (omega arith) w.sum;
        version = version_fits keep.at inside w.keeps.complete;
      }
  can_advance (task.KeepPart b parts) w = omega (arith, w.some, terms.few_parts)
