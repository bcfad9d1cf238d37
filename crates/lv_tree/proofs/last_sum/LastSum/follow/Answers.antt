-- Proof of `LastSum::follow`: what stays after an edit.
use Rattle.std.proofs.Common.{◌≡◌, ◌++◌, ◌∷◌, [], Some, sym, subst, arith}
use Rattle.lv_edits.specs.History.{list_of, replayed}
use Rattle.lv_tree.specs.LastSum.{IsSumOfRange}
use Rattle.lv_tree.proofs.LastLaws.{stays_pushed, stays_reserved, stays_truncated}
use Rattle.lv_tree.proofs.last_sum.LastSum.follow.Goals as goal

pub returns-in-Push : goal.returns-in-Push
returns-in-Push c edits legal is =
    let last = c.args.self.now in
    let made = subst (λ e. replayed (edits ++ e ∷ []) ≡ Some (list_of (edits ++ e ∷ []))) c.in-Push.is legal in
    subst (λ e. IsSumOfRange (edits ++ e ∷ []) last) (sym c.in-Push.is) (stays_pushed edits last is c.in-Push.field-0 made)

pub returns-in-Reserve : goal.returns-in-Reserve
returns-in-Reserve c edits legal is =
    let last = c.args.self.now in
    let made = subst (λ e. replayed (edits ++ e ∷ []) ≡ Some (list_of (edits ++ e ∷ []))) c.in-Reserve.is legal in
    subst (λ e. IsSumOfRange (edits ++ e ∷ []) last) (sym c.in-Reserve.is) (stays_reserved edits last is c.in-Reserve.field-0 made)

pub returns-else-count-self : goal.returns-else-count-self
returns-else-count-self c edits legal is =
    let last = c.args.self.now in
    let made = subst (λ e. replayed (edits ++ e ∷ []) ≡ Some (list_of (edits ++ e ∷ []))) c.in-Truncate.is legal in
    subst (λ e. IsSumOfRange (edits ++ e ∷ []) last) (sym c.in-Truncate.is) (stays_truncated edits last is c.in-Truncate.count made (omega (arith, c.if-count-self.false)))
