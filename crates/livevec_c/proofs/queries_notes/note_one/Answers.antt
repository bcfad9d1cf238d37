-- Proof of `note_one`: notes a question if a note of its value is due, after `count` other notes, and returns how many there are then.
use Rattle.std.proofs.Common.{[], refl, sym, inl, arith}
use Rattle.std.proofs.lemmas.List.{take-append-drop}
use Rattle.livevec_c.proofs.NotingLaws.{noted_one}
use Rattle.livevec_c.proofs.queries_notes.note_one.Goals as goal

pub returns-in-None : goal.returns-in-None
returns-in-None g c =
    record { added = []; are = inl (c.in-None.ensures.idle, refl); count_is = omega arith; few = omega arith; places = refl; written = λ fits. sym (take-append-drop c.args.count c.args.notes.now) }

pub returns-in-Some : goal.returns-in-Some
returns-in-Some g c =
    noted_one (g.A.Target.seen c.args.asked.now) c.args.question.now c.args.before.now c.args.value.now c.args.count c.args.notes.now c.put_note.new.notes c.in-Some.note c.in-Some.ensures.due c.in-Some.ensures.note c.put_note.ensures
