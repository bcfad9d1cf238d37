-- Proof of `asked_by`: the value of a kind over a range, made anew for each kind, so that no summary of another kind is moved.
use Rattle.std.proofs.Common.{ap, ◌∙◌}
use Rattle.lv_edits.specs.Ranges.{slice_of}
use Rattle.lv_tree.specs.KindSummaries.{shown_of}
use Rattle.lv_tree.proofs.KindLaws.{shown_is_plain}
use Rattle.lv_standing.proofs.RangeLaws.{range_can_fold}
use Rattle.lv_standing.proofs.values.asked_by.Goals as goal

pub returns : goal.returns
returns g c =
    let h = c.args.live.now.history in
    let answer = c.in_ok-answer.ensures in record {
      ok = record {
        granted = answer.ok.granted;
        edit = answer.ok.edit;
        value = c.shown.ensures ∙ ap shown_of answer.ok.summary ∙ shown_is_plain c.args.kind (slice_of h.journal c.args.lo c.args.hi) (range_can_fold h c.args.lo c.args.hi c.requires.limits);
      };
      err = tt;
      kept = answer.kept;
      others = answer.others;
      caught_up = answer.caught_up;
    }
