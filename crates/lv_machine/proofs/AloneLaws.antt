-- A step on the words with only one actor's look is the step among the other actors.
use Rattle.std.proofs.Common.{◌≡◌, ◌≢◌, ℕ, Bool, true, false, nat_eq, slice_index, refl, inl, inr}
use Rattle.std.specs.Prelude.{if◌then◌else◌}
use Rattle.std.proofs.lemmas.Bool.{cond-true, cond-false, eq-eqb, eqb-true, cases_Bool}
use Rattle.lv_edits.specs.declared.edit.Edit.{Edit}
use Rattle.lv_machine.specs.declared.tasks.Task.{Task}
use Rattle.lv_machine.specs.declared.tasks.Task.TheVariants as task
use Rattle.lv_machine.specs.Calls.{move_of, sees, sees_next}
use Rattle.lv_machine.specs.Moves.{accepted, Config, look_set, looked, moved}

module _ (c : Config) (a : ℕ) where
  own : (w : ℕ) → look_set a w c.looks a ≡ w
  own w = cond-true _ _ _ (eq-eqb a a refl)

  other : (b w : ℕ) → b ≢ a → look_set a w c.looks b ≡ c.looks b
  other b w apart = elim (cases_Bool (nat_eq b a)) [
    | inl same ↦ absurd (apart (eqb-true _ _ same))
    | inr differs ↦ cond-false _ _ _ differs
  ]

  exchange_words : (e : Edit) (found : Bool) → (if found then accepted c a e else looked c a).words ≡ (if found then accepted (sees c.words (c.looks a)) 0 e else looked (sees c.words (c.looks a)) 0).words
  exchange_words e true = refl
  exchange_words e false = refl

  exchange_look : (e : Edit) (found : Bool) → (if found then accepted c a e else looked c a).looks a ≡ (if found then accepted (sees c.words (c.looks a)) 0 e else looked (sees c.words (c.looks a)) 0).looks 0
  exchange_look e true = own _
  exchange_look e false = own _

  exchange_other : (e : Edit) (found : Bool) (b : ℕ) → b ≢ a → (if found then accepted c a e else looked c a).looks b ≡ c.looks b
  exchange_other e true b apart = other b _ apart
  exchange_other e false b apart = other b _ apart

  pub alone_words : {S : Type 0} (t : Task S) → (moved c (move_of a t)).words ≡ (sees_next c.words (c.looks a) t).words
  alone_words (task.Look g) = refl
  alone_words (task.CompleteCell g) = refl
  alone_words (task.CompleteMark g) = refl
  alone_words (task.ReadBefore edit i) = refl
  alone_words (task.Exchange edit before) = exchange_words edit (nat_eq (slice_index c.words 0) (c.looks a))
  alone_words (task.ReadCell i) = refl
  alone_words (task.SumCell walk) = refl
  alone_words (task.SumMark walk) = refl
  alone_words (task.SumPart walk parts) = refl
  alone_words (task.KeepMark b) = refl
  alone_words (task.KeepCell keep) = refl
  alone_words (task.KeepPart b parts) = refl

  pub alone_look : {S : Type 0} (t : Task S) → (moved c (move_of a t)).looks a ≡ (sees_next c.words (c.looks a) t).looks 0
  alone_look (task.Look g) = own _
  alone_look (task.CompleteCell g) = refl
  alone_look (task.CompleteMark g) = refl
  alone_look (task.ReadBefore edit i) = refl
  alone_look (task.Exchange edit before) = exchange_look edit (nat_eq (slice_index c.words 0) (c.looks a))
  alone_look (task.ReadCell i) = refl
  alone_look (task.SumCell walk) = refl
  alone_look (task.SumMark walk) = refl
  alone_look (task.SumPart walk parts) = refl
  alone_look (task.KeepMark b) = refl
  alone_look (task.KeepCell keep) = refl
  alone_look (task.KeepPart b parts) = refl

  pub other_look : {S : Type 0} (t : Task S) (b : ℕ) → b ≢ a → (moved c (move_of a t)).looks b ≡ c.looks b
  other_look (task.Look g) b apart = other b _ apart
  other_look (task.CompleteCell g) b apart = refl
  other_look (task.CompleteMark g) b apart = refl
  other_look (task.ReadBefore edit i) b apart = refl
  other_look (task.Exchange edit before) b apart = exchange_other edit (nat_eq (slice_index c.words 0) (c.looks a)) b apart
  other_look (task.ReadCell i) b apart = refl
  other_look (task.SumCell walk) b apart = refl
  other_look (task.SumMark walk) b apart = refl
  other_look (task.SumPart walk parts) b apart = refl
  other_look (task.KeepMark b') b apart = refl
  other_look (task.KeepCell keep) b apart = refl
  other_look (task.KeepPart b' parts) b apart = refl
