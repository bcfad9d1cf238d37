-- Proof of `Desk::take_answer`: keeps an answer for a log, if there is one that has room.
use Rattle.std.proofs.Common.{◌≡◌, IfSome, length, subst, sym}
use Rattle.lv_transcript.specs.Transcript.{IsTrueAnswer}
use Rattle.lv_hub.specs.Logging.{Taps}
use Rattle.lv_hub.proofs.LogLaws.{taps_answer}
use Rattle.lv_hub.proofs.desks.Desk.take_answer.Goals as goal

pub invariant_of-self : goal.invariant_of-self
invariant_of-self g c =
    let journal = c.self.inside.live.history.journal in (
      c.self.invariant.0,
      c.self.invariant.1,
      c.self.invariant.2,
      c.self.invariant.3,
      c.self.invariant.4,
      c.self.invariant.5,
      subst (λ t. IfSome t (Taps journal)) (sym c.take_answer.ensures)
          (taps_answer c.self.inside.tap journal c.args.answer (subst (λ d. IsTrueAnswer d.live.history.journal c.args.answer) (sym c.self.view_is) c.requires.holds) (subst (λ d. c.args.answer.edit ≡ length d.live.history.journal) (sym c.self.view_is) c.requires.now) c.self.invariant.6),
    )
