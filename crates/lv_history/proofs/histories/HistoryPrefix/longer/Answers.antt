-- Proof of `HistoryPrefix::longer`: the longer of two prefixes.
use Rattle.std.proofs.Common.{◌≤◌, ap, subst, arith, length, List}
use mathlib.Core.List.{IsPrefix}
use Rattle.lv_history.specs.declared.entries.Entry.{Entry}
use Rattle.lv_history.specs.Growing.{edits_by}
use Rattle.lv_history.proofs.PermitLaws.{begins_so}
use Rattle.lv_history.proofs.PrefixLaws.{prefix_shorter}
use Rattle.lv_history.proofs.histories.HistoryPrefix.longer.Goals as goal

pub returns-then-self-other-clause-this : goal.returns-then-self-other-clause-this
returns-then-self-other-clause-this g c =
    let p = g.N.Naming.history.permit in
    let both = c.learn.new.self.log in
    let mine = c.self.inside.seen.log in
    let other = c.other.inside.seen.log in
    let this : IsPrefix mine both = subst (λ (l : List Entry). IsPrefix l both) (ap (λ s. s.log) c.again-both.ensures) c.learn.ensures.2 in
    let less : length (edits_by p mine) ≤ length (edits_by p other) = omega (arith, c.self.invariant.0, c.other.invariant.0) in
    rw (c.again.ensures, ← c.self.view_is, ← c.other.view_is) (prefix_shorter (edits_by p mine) (edits_by p other) (edits_by p both) (begins_so p mine both this) (begins_so p other both c.learn.ensures.3) less)

pub returns-clause-that : goal.returns-clause-that
returns-clause-that g c =
    let p = g.N.Naming.history.permit in
    let both = c.learn.new.self.log in
    let mine = c.self.inside.seen.log in
    let other = c.other.inside.seen.log in
    let this : IsPrefix mine both = subst (λ (l : List Entry). IsPrefix l both) (ap (λ s. s.log) c.again-both.ensures) c.learn.ensures.2 in
    let less : length (edits_by p other) ≤ length (edits_by p mine) = omega (arith, c.self.invariant.0, c.other.invariant.0) in
    rw (c.again-else-self-other.ensures, ← c.self.view_is, ← c.other.view_is) (prefix_shorter (edits_by p other) (edits_by p mine) (edits_by p both) (begins_so p other both c.learn.ensures.3) (begins_so p mine both this) less)
