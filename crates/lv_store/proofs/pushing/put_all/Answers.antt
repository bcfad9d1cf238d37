-- Proof of `put_all`: puts values into the cells from an index on, and the number of the edit of each for its block.
use Rattle.std.proofs.Common.{◌≡◌, ◌+◌, ◌/◌, ◌<◌, refl, length, pos, slice_index_or, slice_set, take, rules, subst, sym, ap, ◌∙◌, arith}
use Rattle.std.specs.Int.{w64}
use Rattle.std.proofs.lemmas.Int.{to_z-of_z}
use Rattle.std.specs.Prelude.{All}
use Rattle.std.proofs.lemmas.List.Elements.{All-more, All-nil}
use Rattle.std.proofs.lemmas.List.{length-take-le, take_all, take_more}
use Rattle.lv_geometry.specs.Elements.{IsElement}
use Rattle.lv_store.specs.Directory.{with_run}
use Rattle.lv_store.specs.State.{with_versions}
use Rattle.lv_store.proofs.PushLaws.{length-with_run, with_run-push, with_versions-push}
use Rattle.lv_store.proofs.pushing.put_all.Goals as goal

pub set-requires : goal.set-requires
set-requires c =
    let long = ap (λ d. length d.cells) c.loop-k.invariant.values ∙ length-with_run c.args.values.now.cells c.args.size (take c.loop-k.k c.args.xs.now) in
    record { inside = omega (arith, long, c.requires.values) }

pub loop-k-preserved : goal.loop-k-preserved
loop-k-preserved c =
    let xs = c.args.xs.now in
    let k = c.loop-k.k in
    let small : k < length xs = omega arith in
    let x = slice_index_or xs k (pos 0) in
    let fits : IsElement x = search rules in
    let same = to_z-of_z w64 x fits in
    let more = take_more xs k (pos 0) small in
    let front = take k xs in
    let long : length front ≡ k = length-take-le k xs (omega arith) in
    let cells = c.args.values.now.cells in
    let versions = c.args.versions.now.items in
    let i = c.args.size in
    let edit = c.args.edit in
    record {
      values = rw (c.set.ensures, c.loop-k.invariant.values, more, with_run-push cells i front x, long, same) refl;
      versions =
          ap (λ vs. slice_set vs ((i + k) / 8) (edit + k + 1)) c.loop-k.invariant.versions
          ∙ ap (λ n. slice_set (with_versions versions i edit front) ((i + n) / 8) (edit + n + 1)) (sym long)
          ∙ sym (with_versions-push versions i edit front x)
          ∙ ap (with_versions versions i edit) (sym more);
      elements = All-more IsElement xs k (pos 0) small c.loop-k.invariant.elements fits;
    }

pub returns-clause-values : goal.returns-clause-values
returns-clause-values c =
    let all : c.loop-k.k ≡ length c.args.xs.now = omega arith in
    c.loop-k.invariant.values
    ∙ ap (λ ys. record c.args.values.now { cells = with_run c.args.values.now.cells c.args.size ys }) (ap (λ n. take n c.args.xs.now) all ∙ take_all (length c.args.xs.now) c.args.xs.now (omega arith))

pub returns-clause-versions : goal.returns-clause-versions
returns-clause-versions c =
    let all : c.loop-k.k ≡ length c.args.xs.now = omega arith in
    c.loop-k.invariant.versions
    ∙ ap (with_versions c.args.versions.now.items c.args.size c.args.edit) (ap (λ n. take n c.args.xs.now) all ∙ take_all (length c.args.xs.now) c.args.xs.now (omega arith))

pub returns-clause-elements : goal.returns-clause-elements
returns-clause-elements c =
    let all : c.loop-k.k ≡ length c.args.xs.now = omega arith in
    subst (All IsElement) (ap (λ n. take n c.args.xs.now) all ∙ take_all (length c.args.xs.now) c.args.xs.now (omega arith)) c.loop-k.invariant.elements

pub loop-k-init : goal.loop-k-init
loop-k-init c = record { values = refl; versions = refl; elements = All-nil IsElement }
