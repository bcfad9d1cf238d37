-- The result of a subscriber's look.
use Rattle.std.proofs.Common.{◌≡◌, ◌≢◌, ◌≤◌, ◌∙◌, List, [], ◌++◌, length, map, ap, subst, sym, arith}
use Rattle.std.proofs.lemmas.List.{length-map}
use mathlib.Core.List.{IsPrefix}
use Rattle.lv_geometry.specs.Bounds.{Bounds}
use Rattle.lv_bodies.specs.declared.kinds.Shown.{Shown}
use Rattle.lv_standing.specs.declared.notes.Note.{Note}
use Rattle.lv_standing.specs.declared.queries.Query.{Query}
use Rattle.lv_standing.specs.Queries.{AddsNotesOf, AreNotesOf, watch_answer}
use Rattle.lv_standing.specs.QuerySets.{QuerySetState, with_answers, with_told}
use Rattle.lv_hub.specs.declared.told.Told.{Told}
use Rattle.lv_hub.specs.Counting.{ShareState, having_seen}
use Rattle.lv_hub.specs.Notes.{HasTold, SubscriberState}
use Rattle.lv_hub.specs.Renewing.{IsRun}
use Rattle.lv_history.proofs.PrefixLaws.{prefix_length, prefix_whole}

-- a set that was asked has an answer to each query
pub each_answered : (set asked : QuerySetState Query) (answer : Query → Shown) → asked ≡ with_answers set (map answer set.queries) → length asked.answers ≡ length asked.queries
each_answered set asked answer is = ap (λ s. length s.answers) is ∙ length-map set.queries answer ∙ sym (ap (λ s. length s.queries) is)

-- a set appends notes of its last answers to a list
abbrev pub PutsNotes : QuerySetState Query → List Note → List Note → Type 0
PutsNotes s = AddsNotesOf s.queries s.told s.answers

-- those that it puts into an empty list
pub notes_put : (set asked : QuerySetState Query) (answers : List Shown) (none more : List Note) → asked ≡ with_answers set answers → none ≡ []
    → PutsNotes asked none more → AreNotesOf set.queries set.told answers more
notes_put set asked answers none more is empty adds =
    let put = subst (λ (s : QuerySetState Query). AreNotesOf s.queries s.told s.answers adds.added) is adds.are in
    subst (AreNotesOf set.queries set.told answers) (sym (adds.all ∙ ap (λ ns. ns ++ adds.added) empty)) put

-- what is seen of a subscriber
abbrev pub subscriber_of : ShareState → QuerySetState Query → SubscriberState
subscriber_of share set = record { share = share; questions = set.queries; told = set.told }

module _ (before share : ShareState) (is : share ≡ having_seen before share.seen) (begins : IsPrefix before.seen share.seen) (set asked : QuerySetState Query) (asked_is : asked ≡ with_answers set (map (watch_answer share.seen) set.queries)) where
  -- if there are no more updates, nothing has changed
  pub looked_in_vain : length share.seen ≤ length before.seen → subscriber_of share asked ≡ subscriber_of before set
  looked_in_vain few =
      let same : share ≡ before = is ∙ ap (having_seen before) (sym (prefix_whole before.seen share.seen begins few)) in
      ap (λ s. subscriber_of s asked) same ∙ ap (subscriber_of before) asked_is

  -- otherwise the subscriber gets a notification
  pub looked : (limits : Bounds) (told : Told) (none : List Note) (new : QuerySetState Query) → new ≡ with_told asked → none ≡ [] → IsRun limits share.seen → told.edit ≡ length share.seen → told.edit ≢ length before.seen
      → PutsNotes asked none told.notes.items → HasTold limits (subscriber_of before set) (subscriber_of share new) told
  looked limits told none new new_is empty within edit other adds =
      let answers : new.told ≡ map (watch_answer share.seen) set.queries = ap (λ (s : QuerySetState Query). s.told) new_is ∙ ap (λ (s : QuerySetState Query). s.answers) asked_is in
      record {
        seen = begins;
        later = omega (arith, prefix_length before.seen share.seen begins);
        edit = edit;
        within = within;
        share = is;
        questions = ap (λ (s : QuerySetState Query). s.queries) new_is ∙ ap (λ (s : QuerySetState Query). s.queries) asked_is;
        answers = answers;
        notes = subst (λ values. AreNotesOf set.queries set.told values told.notes.items) (sym answers) (notes_put set asked (map (watch_answer share.seen) set.queries) none told.notes.items asked_is empty adds);
      }
