-- Proof of `grown_over`: a tree with a leaf for each block.
use Rattle.std.proofs.Common.{◌≡◌, ◌+◌, ◌-◌, ◌*◌, ◌++◌, ◌∷◌, [], sym, ap, ◌∙◌, subst, arith, rules, true}
use Rattle.lv_bodies.specs.Body.{fold_of}
use Rattle.lv_tree.specs.Folds.{AreFolds}
use Rattle.lv_tree.specs.Parts.{run_of}
use Rattle.lv_series.specs.Blocks.{CoversTo}
use Rattle.lv_series.proofs.BlockLaws.{covers_next, next_folds}
use Rattle.lv_series.proofs.layers.grown_over.Goals as goal

pub push-requires-clause-folds : goal.push-requires-clause-folds
push-requires-clause-folds g c κs within =
    let xs = c.args.elements.now in
    let o = g.B.Body.operations c.args.body.now in
    let k = c.loop-k.k in
    let t = c.loop-k.tree in
    let inv = c.loop-k.invariant in
    let s = c.fold_eight-sum.result in
    let eight : 8 * k + 8 - 8 * k ≡ 8 = omega arith in
    let sum : s ≡ fold_of o (run_of xs (8 * k) 8) = c.fold_eight-sum.ensures.fold ∙ ap (λ n. fold_of o (run_of xs (8 * k) n)) eight in
    subst (λ b. AreFolds (g.B.Body.operations b) (t.sums ++ s ∷ [])) (sym inv.body)
    (next_folds o c.args.base c.args.first k xs c.requires.window (record { body = t.body; kept = true; first = t.first; sums = t.sums }) inv.covers s (omega (arith, c.loop-k-test.true)) sum)

pub loop-k-preserved : goal.loop-k-preserved
loop-k-preserved g c =
    let xs = c.args.elements.now in
    let o = g.B.Body.operations c.args.body.now in
    let k = c.loop-k.k in
    let t = c.loop-k.tree in
    let inv = c.loop-k.invariant in
    let s = c.fold_eight-sum.result in
    let eight : 8 * k + 8 - 8 * k ≡ 8 = omega arith in
    let sum : s ≡ fold_of o (run_of xs (8 * k) 8) = c.fold_eight-sum.ensures.fold ∙ ap (λ n. fold_of o (run_of xs (8 * k) n)) eight in
    let new : c.push.new.self ≡ record t { room = c.push.new.self.room; sums = t.sums ++ s ∷ [] } = search rules in
    record {
      body = ap (λ t. t.body) new ∙ inv.body;
      covers = subst (λ t. CoversTo o c.args.base c.args.first (k + 1) xs (record { body = t.body; kept = true; first = t.first; sums = t.sums })) (sym new)
          (covers_next o c.args.base c.args.first k xs c.requires.window (record { body = t.body; kept = true; first = t.first; sums = t.sums }) inv.covers s (omega (arith, c.loop-k-test.true)) sum);
    }
