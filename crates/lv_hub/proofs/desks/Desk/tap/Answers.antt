-- Proof of `Desk::tap`: from now on keeps what comes for a log, in a list that is empty and never grows its allocation.
use Rattle.std.proofs.Common.{◌∙◌, [], Some, ap, sym}
use Rattle.lv_hub.proofs.LogLaws.{taps_none}
use Rattle.lv_hub.proofs.desks.Desk.tap.Goals as goal

-- nothing has come yet
pub invariant_of-self : goal.invariant_of-self
invariant_of-self g c = (
  c.self.invariant.0,
  c.self.invariant.1,
  c.self.invariant.2,
  c.self.invariant.3,
  c.self.invariant.4,
  c.self.invariant.5,
  taps_none (Some c.new.result) c.self.inside.live.history.journal _ (c.from-edits.ensures ∙ c.edit.ensures) (c.new.ensures ∙ ap (λ room. record { from = c.from-edits.result; entries = []; room = room; given = c.given_to-given.result }) (sym (ap (λ t. t.room) c.new.ensures)) ∙ ap (λ given. record { from = c.from-edits.result; entries = []; room = c.new.result.room; given = given }) (sym (ap (λ t. t.given) c.new.ensures))),
)
