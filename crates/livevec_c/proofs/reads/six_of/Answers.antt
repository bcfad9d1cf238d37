-- Proof of `six_of`: one of the two reductions, at a vector that is of all six, or of one kind.
use Rattle.std.proofs.Common.{◌≡◌, ℕ, Bool, true, false, Option, Some, None, is_some, sym, subst, ◌∙◌, true≢false}
use Rattle.lv_bodies.specs.declared.kinds.Kind.{Kind}
use Rattle.livevec_c.specs.Behind.{SixOf, State}
use Rattle.livevec_c.specs.declared.results.Reduced.{Reduced}
use Rattle.livevec_c.proofs.reads.six_of.Goals as goal

-- a vector that isn't of one kind, and isn't asked by its trees, answers by what is kept
by_kept : (only : Option Kind) (trees : Bool) (lo hi : ℕ) (answer : Reduced) (s t : State) → is_some only ≡ false → trees ≡ false → s ≡ t → SixOf None false lo hi answer s → SixOf only trees lo hi answer t
by_kept None trees lo hi answer s t none few same said = subst (λ (b : Bool). SixOf None b lo hi answer t) (sym few) (subst (λ (x : State). SixOf None false lo hi answer x) same said)
by_kept (Some kind) trees lo hi answer s t none few same said = absurd (true≢false none)

pub returns-else-trees-clause-answer : goal.returns-else-trees-clause-answer
returns-else-trees-clause-answer c =
    by_kept c.args.only c.args.trees c.args.lo c.args.hi c.reduce_six.result c.live.result.now c.args.vector.now (sym c.is_some.ensures ∙ c.if-is_some.false) c.if-trees.false c.live.ensures c.reduce_six.ensures
