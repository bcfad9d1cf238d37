-- The result of an actor's own step is right for its call.
use Rattle.std.proofs.Common.{◌≡◌, ℕ, ℤ, ◌*◌, ◌/◌, ◌%◌, ◌<◌, ◌≤◌, max, true, false, None, List, ◌∷◌, length, nat_eq, slice_index, slice_set, replicate, refl, sym, ap, ◌∙◌, subst, inl, inr, arith}
use Rattle.std.specs.Prelude.{pos}
use Rattle.std.specs.List.{slice_index_or}
use Rattle.std.proofs.lemmas.Bool.{cases_Bool, cases_lt, eqb-true, eqb-false}
use Rattle.std.proofs.lemmas.List.{get_or-replicate, get_or-set_same, get_or_past}
use Rattle.std.proofs.lemmas.Grind.{common_steps}
use Rattle.lv_geometry.specs.Bounds.{Bounds}
use Rattle.lv_bodies.specs.Body.{Operations, BodyLaws}
use Rattle.lv_bodies.specs.Parts.{AreParts, HasParts}
use Rattle.lv_edits.specs.declared.edit.Edit.{Edit}
use Rattle.lv_edits.specs.Verdict.{receipt_of, verdict_of}
use Rattle.lv_reduce.proofs.PieceLaws.{slice-nothing}
use Rattle.lv_geometry.specs.declared.refusals.Refusal.TheVariants.{Contended}
use Rattle.lv_machine.specs.declared.entries.Entry.{Entry}
use Rattle.lv_machine.specs.declared.tasks.Goal.TheVariants as goal
use Rattle.lv_machine.specs.declared.tasks.Keep.{Keep}
use Rattle.lv_machine.specs.declared.tasks.Task.{Task}
use Rattle.lv_machine.specs.declared.tasks.Task.TheVariants as task
use Rattle.lv_machine.specs.declared.tasks.Walk.{Walk}
use Rattle.lv_machine.specs.History.{descriptor_of, edits_of, elements_of, Ends, IsLegalHistory}
use Rattle.lv_machine.specs.Layout.{cell_place, mark_place}
use Rattle.lv_machine.specs.Calls.{advanced, move_of, place_of, refusal_at, sees_next}
use Rattle.lv_machine.specs.Moves.{completing, Config, IsComplete, moved, Shows}
use Rattle.lv_machine.specs.Progress.{goal_under, IsRight, Knows, terms_of}
use Rattle.lv_machine.specs.Terms.{AreTerms, blocks_of}
use Rattle.lv_machine.specs.Words.{cell_version, descriptor_after, edit_of, index_of, signed, value_of}
use Rattle.lv_machine.proofs.EndsLaws.{Ends-same, Ends-whole}
use Rattle.lv_machine.proofs.MoveLaws.{next_descriptor}
use Rattle.lv_machine.proofs.PartLaws.{part_right}
use Rattle.lv_machine.proofs.ReadyLaws.{before_within, edit_granted, get_within, look_edit, reduce_within, refresh_within, size_in_blocks}
use Rattle.lv_machine.proofs.RightLaws.{before_right, begun_right, cell_right, kept_right, looked_right, part_kept_right, unless_right}
use Rattle.lv_machine.proofs.RiseLaws.{complete_rises, Rise, rise_set}
use Rattle.lv_machine.proofs.ShowsLaws.{pending, place_is, place_within}
use Rattle.lv_machine.proofs.StepLaws.{cell_at, element_at, legal_seen, mark_at}
use Rattle.lv_machine.proofs.WordLaws.{cell_version-grows, cell_version-word, value_of-short}

-- an element that is there is read alike, whatever value represents a missing one
any_default : {X : Type 0} (xs : List X) (i : ℕ) (d e : X) → i < length xs → slice_index_or xs i d ≡ slice_index_or xs i e
any_default xs i d e within = grind (arith, common_steps)

module _ {S : Type 0} (o : Operations S) (within : S → ℕ → Type 0) (laws : BodyLaws o within) (count : ℕ) (some : 1 ≤ count) (parts_of : S → List ℕ) (whole_of : List ℕ → S) (are : AreParts count parts_of) (has : HasParts parts_of whole_of o) (limits : Bounds) (seats a : ℕ) (c : Config) (k : List Entry) (terms : AreTerms (terms_of o count parts_of limits seats)) (shows : Shows (terms_of o count parts_of limits seats) c) (ends : Ends k c.history) (look : c.looks a ≡ descriptor_of k) where
  legal : IsLegalHistory (terms_of o count parts_of limits seats) k
  legal = legal_seen (terms_of o count parts_of limits seats) c k terms shows ends

  -- after its step an actor's look still shows an earlier history, and the result of the step is right there
  pub record OwnStep (t : Task S) : Type 0 where
    pub now : List Entry
    pub now_ends : Ends now (moved c (move_of a t)).history
    pub shown : (sees_next c.words (descriptor_of k) t).looks 0 ≡ descriptor_of now
    pub right : IsRight o count parts_of limits a (sees_next c.words (descriptor_of k) t).words (moved c (move_of a t)).history k now (goal_under o count parts_of limits t)
        (advanced o count parts_of whole_of limits (descriptor_of k) t (slice_index c.words (place_of (descriptor_of k) t)))

  own_look : (g : _) → Knows o count parts_of limits c.words k (task.Look g) → OwnStep (task.Look g)
  own_look g w = record {
    now = c.history;
    now_ends = Ends-whole c.history;
    shown = shows.first;
    right = rw shows.first (looked_right o count parts_of whole_of limits seats a c.words c.history k c.history terms shows.legal g (refusal_at limits (descriptor_of c.history) g) w refl);
  }

  -- what is loaded at an index of the list
  late : (i : ℕ) → i < length (elements_of k) → IsComplete c.words (descriptor_of k) → cell_version (slice_index c.words (cell_place i)) ≤ length c.history
  late i inside complete =
      (cell_at (terms_of o count parts_of limits seats) c k terms shows ends i (omega (arith, size_in_blocks (terms_of o count parts_of limits seats) k terms legal)) complete).late

  element : (i : ℕ) → i < length (elements_of k) → IsComplete c.words (descriptor_of k) → cell_version (slice_index c.words (cell_place i)) ≤ length k → signed (value_of (slice_index c.words (cell_place i))) ≡ slice_index_or (elements_of k) i (pos 0)
  element i inside complete early = element_at (terms_of o count parts_of limits seats) c k terms shows ends i inside complete early

  same_element : (i : ℕ) → i < length (elements_of k) → IsComplete c.words (descriptor_of k) → cell_version (slice_index c.words (cell_place i)) ≤ length k → signed (value_of (slice_index c.words (cell_place i))) ≡ slice_index_or (elements_of k) i (signed (value_of (slice_index c.words (cell_place i))))
  same_element i inside complete early = element i inside complete early ∙ any_default (elements_of k) i (pos 0) _ inside

  own_before : (edit : Edit) (i : ℕ) → Knows o count parts_of limits c.words k (task.ReadBefore edit i) → OwnStep (task.ReadBefore edit i)
  own_before edit i w =
      let inside = before_within (terms_of o count parts_of limits seats) k terms legal edit i w.0.granted w.1 in
      record {
        now = k;
        now_ends = ends;
        shown = refl;
        right = unless_right o count parts_of whole_of limits seats a c.words c.history k k terms legal (goal.Edit edit) (cell_version (slice_index c.words (cell_place i))) _ (late i inside w.0.complete)
            (λ early. before_right o count parts_of whole_of limits seats a c.words c.history k k terms legal edit i (signed (value_of (slice_index c.words (cell_place i)))) w.0 w.1 (element i inside w.0.complete early));
      }

  own_cell : (i : ℕ) → Knows o count parts_of limits c.words k (task.ReadCell i) → OwnStep (task.ReadCell i)
  own_cell i w =
      let inside = get_within (terms_of o count parts_of limits seats) k terms legal i w.0 in
      record {
        now = k;
        now_ends = ends;
        shown = refl;
        right = unless_right o count parts_of whole_of limits seats a c.words c.history k k terms legal (goal.Get i) (cell_version (slice_index c.words (cell_place i))) _ (late i inside w.1)
            (λ early. record { index = i; asked = refl; edit = look_edit (terms_of o count parts_of limits seats) k terms legal; within = inside; value = element i inside w.1 early });
      }

  own_sum_cell : (walk : Walk S) → Knows o count parts_of limits c.words k (task.SumCell walk) → OwnStep (task.SumCell walk)
  own_sum_cell walk w =
      let fits = reduce_within (terms_of o count parts_of limits seats) k terms legal walk.lo walk.hi w.0.granted in
      let inside : walk.at < length (elements_of k) = omega (arith, w.1) in
      record {
        now = k;
        now_ends = ends;
        shown = refl;
        right = unless_right o count parts_of whole_of limits seats a c.words c.history k k terms legal (goal.Reduce walk.lo walk.hi) (cell_version (slice_index c.words (cell_place walk.at))) _ (late walk.at inside w.0.complete)
            (λ early. cell_right o count parts_of whole_of limits seats a c.words c.history k k terms legal walk (slice_index c.words (cell_place walk.at)) w.0 w.1 (same_element walk.at inside w.0.complete early));
      }

  own_sum_mark : (walk : Walk S) → Knows o count parts_of limits c.words k (task.SumMark walk) → OwnStep (task.SumMark walk)
  own_sum_mark walk w =
      let fits = reduce_within (terms_of o count parts_of limits seats) k terms legal walk.lo walk.hi w.walks.granted in
      let near : walk.at / 8 < blocks_of limits = omega (arith, w.begins, w.ends, size_in_blocks (terms_of o count parts_of limits seats) k terms legal) in
      let read = mark_at (terms_of o count parts_of limits seats) c k terms shows ends (walk.at / 8) near w.walks.complete in
      record {
        now = k;
        now_ends = ends;
        shown = refl;
        right = unless_right o count parts_of whole_of limits seats a c.words c.history k k terms legal (goal.Reduce walk.lo walk.hi) (slice_index c.words (mark_place (walk.at / 8))) _ read.late
            (λ early. (
              (
                w,
                record {
                  version = read.settled early;
                  some = omega (arith, some);
                  four = refl;
                  taken = λ p less. absurd (omega arith);
                  others = λ p more. zeros p;
                },
              ),
              refl,
            ));
      }
    where
      zeros : (p : ℕ) → slice_index (replicate 4 0) p ≡ 0
      zeros p = elim (cases_lt p 4) [ inl less ↦ get_or-replicate 4 p 0 0 less | inr past ↦ get_or_past (replicate 4 0) p 0 past ]

  own_part : (walk : Walk S) (parts : _) → Knows o count parts_of limits c.words k (task.SumPart walk parts) → OwnStep (task.SumPart walk parts)
  own_part walk parts w = record {
    now = k;
    now_ends = ends;
    shown = refl;
    right = part_right o count parts_of whole_of limits seats a c k terms shows ends within laws are has walk parts w.0 w.1;
  }

  own_keep_mark : (b : ℕ) → Knows o count parts_of limits c.words k (task.KeepMark b) → OwnStep (task.KeepMark b)
  own_keep_mark b w =
      let inside = refresh_within (terms_of o count parts_of limits seats) k terms legal b w.granted in
      let near : b < blocks_of limits = omega (arith, size_in_blocks (terms_of o count parts_of limits seats) k terms legal) in
      let read = mark_at (terms_of o count parts_of limits seats) c k terms shows ends b near w.complete in
      record {
        now = k;
        now_ends = ends;
        shown = refl;
        right = unless_right o count parts_of whole_of limits seats a c.words c.history k k terms legal (goal.Refresh b) (slice_index c.words (mark_place b)) _ read.late
            (λ early. (
              record {
                keeps = w;
                version = read.settled early;
                low = omega arith;
                high = omega arith;
                sum = slice-nothing o (elements_of k) (8 * b);
              },
              refl,
            ));
      }

  own_keep_cell : (keep : Keep S) → Knows o count parts_of limits c.words k (task.KeepCell keep) → OwnStep (task.KeepCell keep)
  own_keep_cell keep w =
      let block = refresh_within (terms_of o count parts_of limits seats) k terms legal keep.block w.keeps.granted in
      let inside : keep.at < length (elements_of k) = omega (arith, w.high) in
      record {
        now = k;
        now_ends = ends;
        shown = refl;
        right = unless_right o count parts_of whole_of limits seats a c.words c.history k k terms legal (goal.Refresh keep.block) (cell_version (slice_index c.words (cell_place keep.at))) _ (late keep.at inside w.keeps.complete)
            (λ early. kept_right o count parts_of whole_of limits seats a c.words c.history k k terms legal keep (slice_index c.words (cell_place keep.at)) w some (same_element keep.at inside w.keeps.complete early));
      }

  raised_rises : (at n : ℕ) → Rise c.words (slice_set c.words at (max (slice_index c.words at) n))
  raised_rises at n = record { rises = λ p positive. rise_set c.words at n p }

  own_keep_part : (b : ℕ) (parts : _) → Knows o count parts_of limits c.words k (task.KeepPart b parts) → OwnStep (task.KeepPart b parts)
  own_keep_part b parts w = record {
    now = k;
    now_ends = ends;
    shown = refl;
    right = part_kept_right o count parts_of whole_of limits seats a _ c.history k k terms legal b parts record {
      keeps = record { granted = w.keeps.granted; complete = complete_rises c.words _ (descriptor_of k) (raised_rises _ _) w.keeps.complete };
      version = w.version;
      some = w.some;
      values = w.values;
    };
  }

  own_complete_cell : (g : _) → Knows o count parts_of limits c.words k (task.CompleteCell g) → OwnStep (task.CompleteCell g)
  own_complete_cell g w =
      let look = descriptor_of k in
      let pend = pending (terms_of o count parts_of limits seats) k terms legal w.1 in
      let at : ℕ = cell_place (index_of (descriptor_of k)) in
      let n : ℕ = completing (descriptor_of k) in
      let inside : cell_place (index_of (descriptor_of k)) < length c.words = omega (arith, shows.count, pend.within, place_within limits (index_of (descriptor_of k) / 8) (index_of (descriptor_of k) % 8) (omega (arith, pend.within)) (omega arith)) in
      record {
        now = k;
        now_ends = ends;
        shown = refl;
        right = (
          (
            w.0,
            w.1,
            omega (
              arith,
              ap cell_version (get_or-set_same c.words (cell_place (index_of (descriptor_of k))) (max (slice_index c.words (cell_place (index_of (descriptor_of k)))) (completing (descriptor_of k))) 0 inside),
              cell_version-grows (completing (descriptor_of k)) (max (slice_index c.words (cell_place (index_of (descriptor_of k)))) (completing (descriptor_of k))) (omega arith),
              cell_version-word (edit_of (descriptor_of k)) (value_of (descriptor_of k)) (value_of-short (descriptor_of k)),
            ),
          ),
          refl,
        );
      }

  own_complete_mark : (g : _) → Knows o count parts_of limits c.words k (task.CompleteMark g) → OwnStep (task.CompleteMark g)
  own_complete_mark g w =
      let pend = pending (terms_of o count parts_of limits seats) k terms legal w.1 in
      let inside : mark_place (index_of (descriptor_of k) / 8) < length c.words = omega (arith, shows.count, pend.within, place_within limits (index_of (descriptor_of k) / 8) 8 (omega (arith, pend.within)) (omega arith)) in
      let rises = raised_rises (mark_place (index_of (descriptor_of k) / 8)) (edit_of (descriptor_of k)) in
      record {
        now = k;
        now_ends = ends;
        shown = refl;
        right = begun_right o count parts_of whole_of limits seats a _ c.history k k terms legal g w.0 record {
          cell = λ has. omega (arith, w.2, cell_version-grows _ _ (rises.rises (cell_place (index_of (descriptor_of k))) (omega (arith, place_is (index_of (descriptor_of k) / 8) (index_of (descriptor_of k) % 8)))));
          mark = λ has. omega (arith, get_or-set_same c.words (mark_place (index_of (descriptor_of k) / 8)) (max (slice_index c.words (mark_place (index_of (descriptor_of k) / 8))) (edit_of (descriptor_of k))) 0 inside);
        };
      }

  -- the descriptor of the whole history is the look only if the look shows the whole history
  whole_seen : slice_index c.words 0 ≡ descriptor_of k → k ≡ c.history
  whole_seen same =
      let T = terms_of o count parts_of limits seats in
      let one = look_edit (terms_of o count parts_of limits seats) k terms legal in
      let two = look_edit (terms_of o count parts_of limits seats) c.history terms shows.legal in
      Ends-same k c.history ends (omega (arith, ap edit_of (sym shows.first ∙ same)))

  own_exchange : (edit : Edit) (before : ℤ) → a < seats → Knows o count parts_of limits c.words k (task.Exchange edit before) → OwnStep (task.Exchange edit before)
  own_exchange edit before seat w =
      let T = terms_of o count parts_of limits seats in
      elim (cases_Bool (nat_eq (slice_index c.words 0) (descriptor_of k))) [
        | inl same ↦
            let same_look : nat_eq (slice_index c.words 0) (c.looks a) ≡ true = ap (nat_eq (slice_index c.words 0)) look ∙ same in
            let whole = whole_seen (eqb-true _ _ same) in
            let free = edit_granted T k terms legal edit w.0.granted in
            let free_last : verdict_of limits (edits_of c.history) edit ≡ None = subst (λ l. verdict_of limits (edits_of l) edit ≡ None) whole free in
            record {
              now = record { actor = a; edit = edit } ∷ c.history;
              now_ends = rw same_look (Ends-whole (record { actor = a; edit = edit } ∷ c.history));
              shown = rw same (ap (λ l. descriptor_after (descriptor_of l) edit) whole
                  ∙ next_descriptor T c.history record { actor = a; edit = edit } terms shows.legal record { actor = seat; short = w.0.granted.may; verdict = free_last });
              right = rw (same, same_look) record {
                edit = edit;
                before = c.history;
                asked = refl;
                whole = refl;
                last = refl;
                verdict = free_last;
                receipt_is = w.1 ∙ ap (λ l. receipt_of (edits_of l) edit) whole;
              };
            }
        | inr other ↦
            let other_look : nat_eq (slice_index c.words 0) (c.looks a) ≡ false = ap (nat_eq (slice_index c.words 0)) look ∙ other in
            record {
              now = c.history;
              now_ends = rw other_look (Ends-whole c.history);
              shown = rw other shows.first;
              right = rw (other, other_look) (inr (inl (
                ap Contended (ap edit_of shows.first ∙ look_edit T c.history terms shows.legal),
                elim (cases_lt (length k) (length c.history)) [
                  | inl less ↦ less
                  | inr more ↦ absurd (eqb-false _ _ other (shows.first ∙ ap descriptor_of (sym (Ends-same k c.history ends more))))
                ],
              )));
            }
      ]

  -- whatever the next step is
  pub own_step : (t : Task S) → a < seats → Knows o count parts_of limits c.words k t → OwnStep t
  own_step (task.Look g) seat w = own_look g w
  own_step (task.CompleteCell g) seat w = own_complete_cell g w
  own_step (task.CompleteMark g) seat w = own_complete_mark g w
  own_step (task.ReadBefore edit i) seat w = own_before edit i w
  own_step (task.Exchange edit before) seat w = own_exchange edit before seat w
  own_step (task.ReadCell i) seat w = own_cell i w
  own_step (task.SumCell walk) seat w = own_sum_cell walk w
  own_step (task.SumMark walk) seat w = own_sum_mark walk w
  own_step (task.SumPart walk parts) seat w = own_part walk parts w
  own_step (task.KeepMark b) seat w = own_keep_mark b w
  own_step (task.KeepCell keep) seat w = own_keep_cell keep w
  own_step (task.KeepPart b parts) seat w = own_keep_part b parts w
