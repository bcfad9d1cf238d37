-- Proof of `run_script_within`: answers a script as `run_script` does.
use Rattle.std.proofs.Common.{[], ap, refl}
use Rattle.lv_script.specs.Script.{ScriptState}
use Rattle.lv_script.specs.Scripted.{state_of}
use Rattle.lv_script.specs.PlainScript.{start, vector_script}
use Rattle.lv_script.proofs.InterpreterLaws.{written_plain}
use Rattle.lv_script.proofs.WholeLaws.{whole_command}
use Rattle.lv_script.proofs.PlainStepLaws.{lines_served_plain}
use Rattle.lv_script.proofs.scripts.run_script_within.Goals as goal

pub returns-clause-seen : goal.returns-clause-seen
returns-clause-seen g c =
    let first : ScriptState = state_of c.new.result [] in (
      first,
      c.answer_script.ensures.0,
      record {
        limits_are = ap (λ h. h.limits) c.new.ensures.history;
        edits_are = ap (λ h. h.journal) c.new.ensures.history;
        issued = refl;
        claimed = c.new.ensures.unclaimed;
        kept = c.new.ensures.nothing_kept;
        queries = c.new.ensures.queries;
      },
      c.answer_script.ensures.1,
      c.answer_script.ensures.2,
    )

pub returns-clause-plain : goal.returns-clause-plain
returns-clause-plain g c =
    let seen = returns-clause-seen g c in
    lines_served_plain _ [] seen.0 seen.1 _ _ _ _ _ seen.2 seen.4

pub returns-clause-text : goal.returns-clause-text
returns-clause-text g c =
    let plain = returns-clause-plain g c in
    written_plain vector_script whole_command (start c.args.limits) plain.0 _ _ _ _ _ plain.1
