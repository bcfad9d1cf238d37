-- Proof of `push_each`.
use Rattle.std.proofs.Common.{◌≡◌, [], ◌∷◌, ◌++◌, length, take, get_or, pos, rules, sym, ap, ◌∙◌, append_assoc}
use Rattle.std.specs.Int.{w64}
use Rattle.std.proofs.lemmas.Int.{to_z-of_z}
use Rattle.std.proofs.lemmas.List.{take_more}
use Rattle.std.proofs.Math.Seq.{take-append_seam}
use Rattle.lv_geometry.specs.Elements.{IsElement}
use Rattle.lv_series.proofs.SeriesLaws.{kept_twice}
use Rattle.lv_series.proofs.batches.push_each.Goals as goal

pub loop-k-preserved : goal.loop-k-preserved
loop-k-preserved c =
    let k = c.loop-k.k in
    let xs = c.args.values.now in
    let els = c.args.elements.now.items in
    let x = get_or xs k (pos 0) in
    let fits : IsElement x = search rules in
    let pushed : c.push_into.new.elements.items ≡ c.loop-k.elements.items ++ x ∷ [] = rw (to_z-of_z w64 x fits) at (c.push_into.ensures.pushed c.if-not-push_into.false) in
    record {
      window = c.push_into.ensures.window;
      over = c.push_into.ensures.over;
      kinds = kept_twice c.args.trees.now c.loop-k.trees c.push_into.new.trees c.loop-k.invariant.kinds c.push_into.ensures.kinds;
      made = pushed ∙ ap (λ ys. ys ++ x ∷ []) c.loop-k.invariant.made ∙ append_assoc els (take k xs) (x ∷ []) ∙ ap (λ ys. els ++ ys) (sym (take_more xs k (pos 0) c.loop-k-test.true));
    }

pub returns-then-not-push_into-clause-front : goal.returns-then-not-push_into-clause-front
returns-then-not-push_into-clause-front c =
    let els = c.args.elements.now.items in
    let same = c.push_into.ensures.same c.if-not-push_into.true ∙ c.loop-k.invariant.made in
    ap (take (length els)) same ∙ take-append_seam els (take c.loop-k.k c.args.values.now)
