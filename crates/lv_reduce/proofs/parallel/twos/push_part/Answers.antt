-- Proof of `push_part`: pushes one of the two scans of a part of a row into an empty vector that has room for it, and gives the fold of the part.
use Rattle.std.proofs.Common.{◌++◌, sym, ap, ◌∙◌}
use Rattle.std.specs.List.{slice_range}
use Rattle.lv_reduce.specs.Answer.{scan_of}
use Rattle.lv_reduce.specs.Rows.{elements_in}
use Rattle.lv_reduce.specs.Running.{scan_from}
use Rattle.lv_reduce.proofs.RunLaws.{scan_of_whole}
use Rattle.lv_reduce.proofs.parallel.twos.push_part.Goals as goal

pub returns-in-Slice-clause-values : goal.returns-in-Slice-clause-values
returns-in-Slice-clause-values g c =
    let o = g.B.Body.operations c.args.body.now in
    let part = c.args.part in
    let xs = slice_range c.in-Slice.xs.now part.lo part.hi in
    c.push_folds.ensures.values
    ∙ ap (λ none. none ++ scan_from c.args.inclusive o c.identity.result xs) c.requires.empty.0
    ∙ ap (λ s. scan_from c.args.inclusive o s xs) c.identity.ensures
    ∙ scan_of_whole o c.args.inclusive xs
    ∙ ap (λ row. scan_of c.args.inclusive o (slice_range (elements_in row) part.lo part.hi)) (sym c.in-Slice.is)
