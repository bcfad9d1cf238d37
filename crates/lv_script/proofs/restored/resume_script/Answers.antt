-- Proof of `resume_script`: answers a script as `run_script` does, on a vector that begins with these edits.
use Rattle.std.proofs.Common.{[], ◌++◌, ap, refl, ◌∙◌}
use Rattle.lv_edits.specs.History.{History}
use Rattle.lv_script.specs.Scripted.{state_of}
use Rattle.lv_script.proofs.RestoredLaws.{answers_after, answers_none}
use Rattle.lv_script.proofs.restored.resume_script.Goals as goal

pub returns-in-Ok : goal.returns-in-Ok
returns-in-Ok g c =
    let made = c.in-Ok.ensures in
    let fresh = c.new-standing.ensures in
    answers_after _ _ (state_of c.make_all.new.standing []) c.answer_script.ensures.0 _ _ _ _ _
    record {
      limits_are = ap (λ (h : History). h.limits) made.edits ∙ ap (λ (h : History). h.limits) fresh.history;
      edits_are = ap (λ (h : History). h.journal) made.edits ∙ ap (λ (h : History). h.journal ++ c.args.edits.now) fresh.history;
      issued = refl;
      claimed = λ n. made.refresh.claimed n ∙ fresh.unclaimed n;
      kept = λ n. made.refresh.kept n ∙ fresh.nothing_kept n;
      queries = made.queries ∙ fresh.queries;
    }
    c.answer_script.ensures.2

pub returns-in-Err : goal.returns-in-Err
returns-in-Err g c = answers_none _ _ _ _
