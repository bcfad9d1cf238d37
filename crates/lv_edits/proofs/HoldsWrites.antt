-- A store that holds what a journal leaves goes on to hold it through one write after another.
use Rattle.std.proofs.Common.{◌≡◌, ℕ, ℤ, ◌<◌, ◌≤◌, max, Some, None, Result, List, [], ◌∷◌, ◌++◌, inr, refl, ap, ◌∙◌, arith}
use Rattle.std.specs.Prelude.{IsErrAnd}
use Rattle.std.proofs.lemmas.Result.{err_from_is_err_and}
use Rattle.lv_geometry.specs.Cells.{AreFewest, capacity_of}
use Rattle.lv_geometry.specs.Elements.{IsElement}
use Rattle.lv_geometry.specs.declared.refusals.Refusal.{Refusal}
use Rattle.lv_geometry.specs.declared.refusals.Refusal.TheVariants.{NoMemory}
use Rattle.lv_store.specs.Inner.{IsStore}
use Rattle.lv_store.specs.State.{AreAlike, StoreState, announced, settled, written_through}
use Rattle.lv_store.proofs.ElementsLaws.{settled_alike}
use Rattle.lv_store.proofs.ShowsLaws.{IsStore-announced, IsStore-completed}
use Rattle.lv_edits.specs.declared.edit.Edit.{Edit}
use Rattle.lv_edits.specs.declared.edit.Edit.TheVariants.{Write}
use Rattle.lv_edits.specs.Batches.{AnswersEdits, verdict_of_edits}
use Rattle.lv_edits.specs.Inner.{HoldsReplay, history_of}
use Rattle.lv_edits.specs.Verdict.{verdict_of}
use Rattle.lv_edits.proofs.HoldsLaws.{HoldsReplay-alike, edits_left, write_fits, write_held}

-- edits whose only error is `NoMemory` leave the history as it was on that error, if the store reads the same
pub AnswersEdits-no_memory : (s m : StoreState) (journal es : List Edit) (r : Result ℕ Refusal) (why : Refusal) → verdict_of_edits (history_of s journal) es ≡ None → AreAlike s m → why ≡ NoMemory → IsErrAnd r (λ refusal. refusal ≡ why) → AnswersEdits (history_of s journal) es r (history_of m journal)
AnswersEdits-no_memory s m journal es r why free alike is failed =
    let (refusal, refused, given) = err_from_is_err_and r failed in
    rw refused record { verdict = inr (free, given ∙ is); same = rw alike.limits refl }

-- what a store that was settled allows of a write that the verdict allows
pub record AllowsWrite (s m : StoreState) (i : ℕ) : Type 0 where
  pub settled : m.descriptor.pending ≡ None
  pub edit : m.descriptor.edit < m.limits.edits
  pub index : i < capacity_of m.buckets
  pub size : m.descriptor.size ≤ capacity_of m.buckets
  pub limits : m.limits ≡ s.limits

pub write_allowed : (s m : StoreState) (journal : List Edit) (i : ℕ) (x : ℤ) → HoldsReplay s journal → verdict_of s.limits journal (Write i x) ≡ None → m ≡ settled s → AllowsWrite s m i
write_allowed s m journal i x held free is =
    let (alike, buckets, pending) = settled_alike s held.sound in
    let small : i < s.descriptor.size = write_fits s journal i x held free in
    rw is record {
      settled = pending;
      edit = edits_left s (settled s) journal (Write i x) held free alike;
      index = omega (arith, small, held.sound.size, ap capacity_of buckets);
      size = omega (arith, alike.size, held.sound.size, ap capacity_of buckets);
      limits = alike.limits;
    }

-- and holds once it is announced
pub write_held_settled : (s m : StoreState) (journal : List Edit) (i : ℕ) (x : ℤ) (size : ℕ) → HoldsReplay s journal → verdict_of s.limits journal (Write i x) ≡ None → m ≡ settled s → size ≡ m.descriptor.size → IsElement x → IsStore (announced m (Some (i, x)) None size) → HoldsReplay (announced m (Some (i, x)) None size) (journal ++ Write i x ∷ [])
write_held_settled s m journal i x size held free is at fits sound =
    let (alike, buckets, pending) = settled_alike s held.sound in
    write_held s m journal i x size at held free fits (rw is alike) (rw is pending) (λ k fewest. rw is (same k fewest buckets)) sound
  where
    same : (k : ℕ) → AreFewest 0 k → (settled s).buckets ≡ s.buckets → (settled s).buckets ≡ max s.buckets k
    same k fewest buckets = omega (arith, fewest.fewest 0 (omega arith), buckets)

-- a write that is announced to a store that was settled, and completed, is held too
pub write_held_through : (s m : StoreState) (journal : List Edit) (i : ℕ) (x : ℤ) → HoldsReplay s journal → verdict_of s.limits journal (Write i x) ≡ None → m ≡ settled s → IsElement x → IsStore m → HoldsReplay (written_through m i x) (journal ++ Write i x ∷ [])
write_held_through s m journal i x held free is fits sound =
    let allows = write_allowed s m journal i x held free is in
    let next = announced m (Some (i, x)) None m.descriptor.size in
    let next_sound = IsStore-announced m i x allows.edit allows.index fits sound in
    let (alike, buckets, pending) = settled_alike next next_sound in
    HoldsReplay-alike next (settled next) _ (write_held_settled s m journal i x m.descriptor.size held free is refl fits next_sound) alike buckets pending (IsStore-completed next next.descriptor.pending refl next_sound)
