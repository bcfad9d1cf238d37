-- Proof of `fold_pieces`: the folds of the pieces of so many elements, each made by a thread of its own.
use Rattle.std.proofs.Common.{Err, IfOk, Ok, Result, ◌-◌, ◌*◌, arith, ap}
use Rattle.rayon.proofs.ListFacts.{IfOk-then}
use Rattle.lv_edits.proofs.Slices.{length-slice_range}
use Rattle.lv_reduce.specs.Rows.{elements_in}
use Rattle.lv_reduce.proofs.RunLaws.{pieces_cover}
use Rattle.lv_reduce.proofs.parallel.slices.fold_pieces.Goals as goal

pub returns-clause-count : goal.returns-clause-count
returns-clause-count g c =
    let part = c.args.part in
    let long = length-slice_range (elements_in part.row) part.lo part.hi c.requires.part.order c.requires.part.inside in
    IfOk-then c.map_indices.result _ _ c.map_indices.ensures.len (λ v len.
    omega (arith, long, ap (λ n. n * c.args.size) len, pieces_cover (part.hi - part.lo) c.args.size c.div_ceil-count.result c.requires.size c.div_ceil-count.ensures))

-- two facts of what is returned are one
both : {X E : Type 0} (r : Result X E) (P Q : X → Type 0) → IfOk r P → IfOk r Q → IfOk r (λ x. P x × Q x)
both (Ok x) P Q p q = (p, q)
both (Err e) P Q p q = tt

pub returns-clause-folds : goal.returns-clause-folds
returns-clause-folds g c =
    IfOk-then c.map_indices.result _ _ (both c.map_indices.result _ _ c.map_indices.ensures.len c.map_indices.ensures.each) (λ v h n d small. (h.1 n d (omega (arith, small, h.0, v.ok.0))).1.met)
