-- Proof of `put_edit`: makes an edit: its receipt and its notes, or its refusal.
use Rattle.std.proofs.Common.{◌≡◌, ◌++◌, ◌∙◌, Ok, List, [], ap}
use Rattle.std.proofs.lemmas.List.{append_assoc}
use Rattle.lv_bodies.specs.Six.{six_operations}
use Rattle.lv_edits.specs.declared.edit.Edit.{Edit}
use Rattle.lv_standing.specs.declared.queries.Query.{Query}
use Rattle.lv_standing.specs.Queries.{TellsNotes}
use Rattle.lv_standing.specs.declared.notes.Note.{Note}
use Rattle.lv_live.proofs.WorldLaws.{world_edit}
use Rattle.lv_lines.specs.Texts.{receipt_text}
use Rattle.lv_script.specs.Script.{notes_text}
use Rattle.lv_script.proofs.EventLaws.{tells_accepted, tells_refused}
use Rattle.lv_script.proofs.answers.put_edit.Goals as goal

-- the notes of the edit are all that the list has
all_told : {old new : List Edit} {queries : List Query} {before after : List Note} → before ≡ [] → (told : TellsNotes old new queries before after) → after ≡ told.told
all_told none told = told.more_is ∙ ap (λ notes. notes ++ told.told) none

pub returns-in-Ok-clause-answer : goal.returns-in-Ok-clause-answer
returns-in-Ok-clause-answer c =
    let told = c.in-Ok.ensures.notes in
    let notes = told.told in
    let all = all_told c.clear.ensures.items told in (
      _,
      (λ jobs. tells_accepted c.args.standing.now c.edit_into.new.self c.args.edit c.in-Ok.receipt notes jobs c.in-Ok.ensures.refresh c.in-Ok.ensures.ok c.in-Ok.ensures.queries told.are),
      c.put_notes.ensures.text ∙ ap (λ notes. c.put_receipt.new.held.items ++ notes_text notes) (c.as_slice.ensures.value ∙ all) ∙ ap (λ text. text ++ notes_text notes) c.put_receipt.ensures.text
          ∙ append_assoc c.args.held.now.items (receipt_text c.in-Ok.receipt) (notes_text notes),
    )

pub returns-in-Ok-clause-world : goal.returns-in-Ok-clause-world
returns-in-Ok-clause-world c = λ jobs world.
    world_edit six_operations c.args.standing.now.live c.edit_into.new.self.live c.args.edit (Ok c.in-Ok.receipt) jobs c.in-Ok.ensures.refresh c.in-Ok.ensures.ok c.in-Ok.ensures.limits world

pub returns-in-Err-clause-answer : goal.returns-in-Err-clause-answer
returns-in-Err-clause-answer c =
    (_, (λ jobs. tells_refused c.args.standing.now c.edit_into.new.self c.args.edit c.in-Err.refusal jobs c.in-Err.ensures.refresh c.in-Err.ensures.err c.in-Err.ensures.queries), c.put_refusal.ensures.text)
