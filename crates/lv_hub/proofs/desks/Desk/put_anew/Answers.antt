-- Proof of `Desk::put_anew`: replaces the vector as `renew` does, for a prefix that has seen all updates.
use Rattle.std.proofs.Common.{◌≡◌, ◌∙◌, IfSome, [], Some, ap, length, map, max, subst, sym, arith}
use Rattle.lv_edits.specs.declared.edit.Edit.TheVariants.{Push}
use Rattle.lv_edits.specs.History.{list_of}
use Rattle.lv_bodies.specs.Plain.{program_table}
use Rattle.lv_tree.specs.Kinds.{AreReady}
use Rattle.lv_transcript.specs.Transcript.{AreAccepted, greatest}
use Rattle.lv_hub.specs.Logging.{Taps}
use Rattle.lv_hub.specs.Renewing.{StandsFor, vector_limits}
use Rattle.lv_hub.specs.Told.{history_of}
use Rattle.lv_hub.proofs.LogLaws.{taps_none}
use Rattle.lv_history.proofs.PrefixLaws.{prefix_whole}
use Rattle.lv_hub.proofs.RenewalLaws.{stands_anew}
use Rattle.lv_hub.proofs.desks.Desk.put_anew.Goals as goal

-- the new vector represents the hub from then on, and no entries have come yet
pub invariant_of-self : goal.invariant_of-self
invariant_of-self g c =
    let limits = g.N.Naming.limits in
    let s = c.self.inside in
    let edits = s.head in
    let new = c.args.live.now in
    let all : c.args.prefix.now ≡ edits = prefix_whole c.args.prefix.now edits c.grown-grown.ensures.begins (omega (arith, rw (← c.self.view_is) at c.requires.all)) in
    let history = c.requires.made.history ∙ ap (λ es. history_of (vector_limits limits) (map Push (list_of es))) all in
    let same = c.grown-grown.ensures.same in
    let stands = stands_anew limits s.renewed s.capacity edits s.live.history new.history c.count-renewed.result c.greater-capacity.result c.self.invariant.1 c.requires.lasts c.keeps.ensures.limits history
    (c.count-renewed.ensures.count ∙ ap length c.grown-grown.ensures.all) (c.greater-capacity.ensures ∙ ap (λ n. max n s.capacity) c.capacity.ensures) in
    let put = sym c.swap.ensures.x_after in
    let put_kinds = sym c.swap-2.ensures.x_after in
    let none = taps_none (Some c.new.result) new.history.journal _ (c.from-edits.ensures ∙ c.edit.ensures) (c.new.ensures ∙ ap (λ room. record { from = c.from-edits.result; entries = []; room = room; given = c.given_to-given.result }) (sym (ap (λ t. t.room) c.new.ensures)) ∙ ap (λ given. record { from = c.from-edits.result; entries = []; room = c.new.result.room; given = given }) (sym (ap (λ t. t.given) c.new.ensures))) in (
      ap length same ∙ c.self.invariant.0,
      subst (λ live. StandsFor limits c.count-renewed.result c.greater-capacity.result c.grown-grown.new.self live.history) put (subst (λ es. StandsFor limits c.count-renewed.result c.greater-capacity.result es new.history) (sym same) stands),
      c.self.invariant.2,
      subst (λ live. g.N.WithBody.body ≡ Some live.body) put c.requires.made.body_is,
      subst (λ live. AreAccepted greatest live.history.journal) put c.requires.made.accepted,
      subst (λ kinds. AreReady program_table c.swap.new.x.history.journal kinds) put_kinds (subst (λ live. AreReady program_table live.history.journal c.args.kinds.now) put c.requires.made.ready),
      subst (λ live. IfSome (Some c.new.result) (Taps live.history.journal)) put none,
    )

pub returns-clause-renewed : goal.returns-clause-renewed
returns-clause-renewed g c = rw (← c.self.view_is) (prefix_whole c.args.prefix.now c.self.inside.head c.grown-grown.ensures.begins (omega (arith, rw (← c.self.view_is) at c.requires.all)))
