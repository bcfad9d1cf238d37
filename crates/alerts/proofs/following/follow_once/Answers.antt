-- Proof of `follow_once`: keeps the next notification.
use Rattle.std.proofs.Common.{◌∙◌, ◌++◌, ◌∷◌, [], ap, subst}
use Rattle.lv_vector.specs.Notes.{IsToldIf}
use Rattle.alerts.proofs.TellingLaws.{keeps_more}
use Rattle.alerts.proofs.following.follow_once.Goals as goal

pub returns-in-Ok-Some : goal.returns-in-Ok-Some
returns-in-Ok-Some g c =
    keeps_more g.N.Naming.limits c.args.follower.now.subscriber c.next.new.self c.args.follower.now.told.items c.push_reserved.new.self.items c.in-Ok-Some.told
    (c.push_reserved.ensures.items ∙ ap (λ ts. ts ++ c.in-Ok-Some.told ∷ []) c.reserve.ensures.items) (subst (IsToldIf g.N.Naming.limits c.args.follower.now.subscriber c.next.new.self) c.in-Ok-Some.field-0-is c.in-Ok-Some.ensures.told)
