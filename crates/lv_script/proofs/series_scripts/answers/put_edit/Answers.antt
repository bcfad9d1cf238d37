-- Proof of `put_edit`: makes an edit: its receipt and its notes, or its refusal.
use Rattle.std.proofs.Common.{◌++◌, append_assoc, arith, ap, length, map, vec_capacity, ◌∙◌}
use Rattle.lv_standing.specs.Queries.{terms_of}
use Rattle.lv_standing.proofs.QuerySetLaws.{few_due}
use Rattle.lv_script.specs.Script.{notes_text}
use Rattle.lv_script.specs.PlainSeriesScript.{long_answer}
use Rattle.lv_script.specs.Inside.{known_of}
use Rattle.lv_script.specs.LongTexts.{long_receipt_text}
use Rattle.lv_script.specs.declared.long_commands.LongCommand.TheVariants as command
use Rattle.lv_script.proofs.KnownLaws.{edit_granted, edit_ready, ready_still, told_still}
use Rattle.lv_script.proofs.series_scripts.answers.put_edit.Goals as goal

pub put_notes-requires : goal.put_notes-requires
put_notes-requires c =
    let queries = c.args.queries.now in
    let few = few_due terms_of queries.queries queries.told (map (long_answer c.apply.new.self.held) queries.queries) c.tell.new.notes.items c.tell.ensures.notes in
    omega (arith, c.requires.room, c.put_receipt.ensures.len, c.put_receipt.ensures.room, c.requires.ready.few, few, ap length c.as_slice.ensures.value)

pub returns-in-Ok-clause-answer : goal.returns-in-Ok-clause-answer
returns-in-Ok-clause-answer c =
    let old = c.args.series.now in
    let new = c.apply.new.self in
    let set = c.args.queries.now in
    let held = c.args.held.now.items in
    let receipt = long_receipt_text c.in-Ok.receipt new.held.first in
    let notes = c.tell.new.notes.items in
    let text = receipt ++ notes_text notes in (
      text,
      told_still new c.tell.new.series c.tell.ensures.same c.tell.new.queries.queries (known_of old set.queries) (command.Edit c.args.edit) text
          (edit_granted old new set c.args.edit c.in-Ok.receipt c.in-Ok.ensures notes c.tell.new.queries c.requires.ready.told c.tell.ensures.notes c.tell.ensures.queries),
      c.put_notes.ensures.text ∙ ap (λ notes. c.put_receipt.new.held.items ++ notes_text notes) c.as_slice.ensures.value
          ∙ ap (λ text. text ++ notes_text notes) (c.put_receipt.ensures.text ∙ ap (λ first. held ++ long_receipt_text c.in-Ok.receipt first) c.first.ensures) ∙ append_assoc held receipt (notes_text notes),
    )

pub returns-in-Ok-clause-ready : goal.returns-in-Ok-clause-ready
returns-in-Ok-clause-ready c =
    let new = c.apply.new.self in
    ready_still new c.tell.new.series c.tell.ensures.same c.tell.new.queries (vec_capacity c.tell.new.notes)
    (edit_ready c.args.series.now new c.args.queries.now c.args.edit c.in-Ok.receipt c.in-Ok.ensures c.tell.new.queries (vec_capacity c.args.notes.now) (vec_capacity c.tell.new.notes) c.requires.ready c.tell.ensures.queries c.tell.ensures.capacity)
