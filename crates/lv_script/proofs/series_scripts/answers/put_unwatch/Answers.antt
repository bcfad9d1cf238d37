-- Proof of `put_unwatch`: forgets a query.
use Rattle.std.proofs.Common.{ap, refl, subst, sym}
use Rattle.lv_lines.specs.Texts.{refused_by, unwatched_text}
use Rattle.lv_script.specs.Inside.{Told, known_of}
use Rattle.lv_script.specs.declared.long_commands.LongCommand.TheVariants as command
use Rattle.lv_standing.proofs.QueryLaws.{place_within}
use Rattle.lv_script.proofs.KnownLaws.{forget_ready, unwatch_refused, unwatch_told}
use Rattle.lv_script.proofs.series_scripts.answers.put_unwatch.Goals as goal

pub forget-requires : goal.forget-requires
forget-requires c = place_within c.args.name c.args.queries.now.queries c.in-Some.place (sym c.in-Some.ensures)

pub returns-in-Some-clause-answer : goal.returns-in-Some-clause-answer
returns-in-Some-clause-answer c =
    let set = c.args.queries.now in
    let name = c.args.name in
    let text = unwatched_text name in (
      text,
      λ s. subst (λ after. Told (known_of s set.queries) (command.Unwatch name) text (known_of s after.queries)) (sym c.forget.ensures)
          (unwatch_told s set name c.in-Some.place text c.requires.apart (sym c.in-Some.ensures) refl),
      c.put_unwatched.ensures.text,
    )

pub returns-in-Some-clause-ready : goal.returns-in-Some-clause-ready
returns-in-Some-clause-ready c = λ s room.
    let set = c.args.queries.now in
    forget_ready s set c.in-Some.place room c.forget.new.self (place_within c.args.name set.queries c.in-Some.place (sym c.in-Some.ensures)) c.forget.ensures

pub returns-in-None-clause-answer : goal.returns-in-None-clause-answer
returns-in-None-clause-answer c =
    let set = c.args.queries.now in
    let text = refused_by c.number.result in
    (text, λ s. unwatch_refused s set c.args.name text (sym c.in-None.ensures) (ap refused_by c.number.ensures), c.put_refused.ensures.text)
