-- Proof of `HistoryPrefix::begins`: whether it is a prefix of another one, which it is if it has seen no more.
use Rattle.std.proofs.Common.{◌≤◌, ap, subst, arith, length, List}
use mathlib.Core.List.{IsPrefix}
use Rattle.lv_history.specs.declared.entries.Entry.{Entry}
use Rattle.lv_history.specs.Growing.{edits_by}
use Rattle.lv_history.proofs.PermitLaws.{begins_so}
use Rattle.lv_history.proofs.PrefixLaws.{prefix_shorter}
use Rattle.lv_history.proofs.histories.HistoryPrefix.begins.Goals as goal

pub returns : goal.returns
returns g c = λ _.
    let p = g.N.Naming.history.permit in
    let both = c.learn.new.self.log in
    let mine = c.self.inside.seen.log in
    let other = c.other.inside.seen.log in
    let this : IsPrefix mine both = subst (λ (l : List Entry). IsPrefix l both) (ap (λ s. s.log) c.again-both.ensures) c.learn.ensures.2 in
    let less : length (edits_by p mine) ≤ length (edits_by p other) = omega (arith, c.self.invariant.0, c.other.invariant.0) in
    rw (← c.self.view_is, ← c.other.view_is) (prefix_shorter (edits_by p mine) (edits_by p other) (edits_by p both) (begins_so p mine both this) (begins_so p other both c.learn.ensures.3) less)
