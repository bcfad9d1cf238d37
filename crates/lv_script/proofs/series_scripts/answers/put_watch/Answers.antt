-- Proof of `put_watch`: registers a query.
use Rattle.std.proofs.Common.{ap, refl, vec_capacity}
use Rattle.lv_lines.specs.Texts.{refused_by, watching_text}
use Rattle.lv_script.specs.Inside.{known_of}
use Rattle.lv_script.specs.LongGrammar.{watch_of}
use Rattle.lv_script.specs.PlainSeriesScript.{long_answer}
use Rattle.lv_script.proofs.KnownLaws.{no_watch_ready, ready_still, told_still, watch_ready, watch_refused, watch_told}
use Rattle.lv_script.proofs.series_scripts.answers.put_watch.Goals as goal

pub returns-in-Ok-clause-answer : goal.returns-in-Ok-clause-answer
returns-in-Ok-clause-answer c =
    let old = c.args.series.now in
    let set = c.args.queries.now in
    let q = c.args.query.now in
    let text = watching_text q.name in (
      text,
      told_still old c.register.new.series c.register.ensures.same c.register.new.queries.queries (known_of old set.queries) (watch_of q) text
          (watch_told old set q c.register.new.queries (long_answer old.held q) text c.in-Ok.ensures.free c.in-Ok.ensures.added refl),
      c.put_watching.ensures.text,
    )

pub returns-in-Ok-clause-ready : goal.returns-in-Ok-clause-ready
returns-in-Ok-clause-ready c =
    let old = c.args.series.now in
    let after = c.register.new.queries in
    let room = vec_capacity c.register.new.notes in
    ready_still old c.register.new.series c.register.ensures.same after room
    (watch_ready old c.args.queries.now c.args.query.now after (vec_capacity c.args.notes.now) room c.requires.ready c.in-Ok.ensures.free c.in-Ok.ensures.added c.in-Ok.ensures.few c.in-Ok.ensures.room)

pub returns-in-Err-clause-answer : goal.returns-in-Err-clause-answer
returns-in-Err-clause-answer c =
    let old = c.args.series.now in
    let set = c.args.queries.now in
    let q = c.args.query.now in
    let text = refused_by c.number.result in (
      text,
      told_still old c.register.new.series c.register.ensures.same c.register.new.queries.queries (known_of old set.queries) (watch_of q) text
          (watch_refused old set q c.register.new.queries c.in-Err.refusal text c.in-Err.ensures.err c.in-Err.ensures.unchanged (ap refused_by c.number.ensures)),
      c.put_refused.ensures.text,
    )

pub returns-in-Err-clause-ready : goal.returns-in-Err-clause-ready
returns-in-Err-clause-ready c =
    let old = c.args.series.now in
    let after = c.register.new.queries in
    let room = vec_capacity c.register.new.notes in
    ready_still old c.register.new.series c.register.ensures.same after room
    (no_watch_ready old c.args.queries.now after (vec_capacity c.args.notes.now) room c.requires.ready c.in-Err.ensures.unchanged c.in-Err.ensures.untold c.register.ensures.most c.register.ensures.keeps)
