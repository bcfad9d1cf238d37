-- Proof of `LastSum::follow_write`: what a write makes of the sum.
use Rattle.std.proofs.Common.{inl, inr, refl, subst, arith, w64, to_z, of_z}
use Rattle.std.proofs.lemmas.Int.{to_z-of_z}
use Rattle.lv_tree.specs.LastSum.{IsDifference}
use Rattle.lv_tree.proofs.LastLaws.{written_inside, written_outside}
use Rattle.lv_tree.proofs.last_sum.LastSum.follow_write.Goals as goal
use Rattle.lv_tree.proofs.last_sum.LastSum.follow_write.Goals.{else-self-index-via-then-self-index+else-index-self, else-self-index-via-else-self-index}

pub returns-then-index-self : goal.returns-then-index-self
returns-then-index-self c h over_it is =
    let taken =
    subst (λ b. IsDifference b c.args.x c.difference.result) (to_z-of_z w64 c.args.before c.ranges.before)
    (subst (λ y. IsDifference (to_z w64 (of_z w64 c.args.before)) y c.difference.result) (to_z-of_z w64 c.args.x c.ranges.x) c.difference.ensures) in
    written_inside h c.args.index c.args.before c.args.x c.args.self.now over_it is c.difference.result _ taken c.if-self-index.true c.if-index-self.true refl

pub returns-else-self-index : goal.returns-else-self-index
returns-else-self-index c h over_it is =
    written_outside h c.args.index c.args.before c.args.x c.args.self.now over_it is (elim c.else-self-index.branch [
      | else-self-index-via-then-self-index+else-index-self w ↦ inr (omega (arith, w.if-index-self.false))
      | else-self-index-via-else-self-index w ↦ inl (omega (arith, w.if-self-index.false))
    ])
