-- Proof of `note_each`: puts a note of each query, in order, whose answer is due behind the notes that a list has.
use Rattle.std.proofs.Common.{◌∙◌, arith, rules}
use Rattle.lv_standing.proofs.QuerySetLaws.{next_due}
use Rattle.lv_standing.proofs.query_set.note_each.Goals as goal

pub loop-i-preserved : goal.loop-i-preserved
loop-i-preserved g c =
    let inv = c.loop-i.invariant in
    record {
      notes = next_due g.Q.Question.terms_of _ _ _ c.args.queries.now c.args.told.now c.args.answers.now c.args.notes.now.items c.loop-i.notes.items c.note_one.new.notes.items c.loop-i.i c.note_one.ensures.noted
          c.requires.told c.requires.answers (omega arith) (search rules) (search rules) (search rules) inv.notes;
      few = omega (arith, c.note_one.ensures.few, inv.few);
      room = omega (arith, c.note_one.ensures.capacity, inv.room);
      capacity = c.note_one.ensures.capacity ∙ inv.capacity;
    }
