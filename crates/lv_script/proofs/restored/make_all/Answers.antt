-- Proof of `make_all`: makes updates that are accepted one after the other; the only error is `NoMemory`.
use Rattle.std.proofs.Common.{ap, arith, get_or, pos, ◌∙◌}
use Rattle.lv_edits.specs.declared.edit.Edit.{Edit}
use Rattle.lv_edits.specs.declared.edit.Edit.TheVariants.{Push}
use Rattle.lv_edits.specs.History.{History, with_edit}
use Rattle.lv_script.proofs.RestoredLaws.{accepted_at, with_more}
use Rattle.lv_script.proofs.restored.make_all.Goals as goal

-- a default for an index past the end
abbrev first : Edit
first = Push (pos 0)

pub make-requires : goal.make-requires
make-requires c =
    let history = c.args.standing.now.live.history in
    record { accepted = rw c.loop-edit.invariant.history (accepted_at history.limits history.journal c.args.edits.now c.loop-edit.edit-index first c.requires.accepted (omega arith)) }

pub loop-edit-preserved : goal.loop-edit-preserved
loop-edit-preserved c =
    let loop = c.loop-edit.invariant in
    let made = c.in_ok-make.ensures in
    let start = c.args.standing.now.live.history in
    let edits = c.args.edits.now in
    let i = c.loop-edit.edit-index in
    record {
      history = made.edits ∙ ap (λ (h : History). with_edit h (get_or edits i first)) loop.history ∙ with_more start edits i first (omega arith);
      refresh = record {
        body = made.refresh.body ∙ loop.refresh.body;
        claimed = λ n. made.refresh.claimed n ∙ loop.refresh.claimed n;
        kept = λ n. made.refresh.kept n ∙ loop.refresh.kept n;
      };
      queries = made.queries ∙ loop.queries;
      limits = made.limits;
    }

pub returns-in_err-make-clause-refresh : goal.returns-in_err-make-clause-refresh
returns-in_err-make-clause-refresh c =
    let loop = c.loop-edit.invariant in
    let made = c.in_err-make.ensures in
    record {
      body = made.refresh.body ∙ loop.refresh.body;
      claimed = λ n. made.refresh.claimed n ∙ loop.refresh.claimed n;
      kept = λ n. made.refresh.kept n ∙ loop.refresh.kept n;
    }

pub returns-in_err-make-clause-queries : goal.returns-in_err-make-clause-queries
returns-in_err-make-clause-queries c = c.in_err-make.ensures.queries ∙ c.loop-edit.invariant.queries
