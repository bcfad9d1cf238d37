-- Proof of `note_all`: notes each question for whose value a note is due, in the first of the notes' places, and returns how many these are.
use Rattle.std.proofs.Common.{arith, rules}
use Rattle.livevec_c.proofs.NotingLaws.{all_noted, next_noted, none_noted}
use Rattle.livevec_c.proofs.queries_notes.note_all.Goals as goal

pub loop-i-init : goal.loop-i-init
loop-i-init g c = none_noted (g.A.Target.seen c.args.asked.now) c.args.questions.now c.args.told.now c.args.values.now c.args.notes.now

pub loop-i-preserved : goal.loop-i-preserved
loop-i-preserved g c =
    next_noted (g.A.Target.seen c.args.asked.now) _ _ _ c.args.questions.now c.args.told.now c.args.values.now c.args.notes.now c.loop-i.count c.note_one-count.result c.loop-i.notes c.note_one-count.new.notes c.loop-i.i c.note_one-count.ensures
    c.requires.told c.requires.values (omega arith) (search rules) (search rules) (search rules) c.loop-i.invariant

pub returns : goal.returns
returns g c = all_noted (g.A.Target.seen c.args.asked.now) c.args.questions.now c.args.told.now c.args.values.now c.args.notes.now c.loop-i.count c.loop-i.notes c.loop-i.i (omega arith) c.requires.told c.requires.values c.loop-i.invariant
