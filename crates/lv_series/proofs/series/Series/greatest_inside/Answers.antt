-- Proof of `Series::greatest_inside`.
use Rattle.std.proofs.Common.{FitsSigned, of_z, rules, sym, to_z, w64, ◌∙◌}
use Rattle.std.proofs.lemmas.Int.{to_z-of_z}
use Rattle.lv_series.proofs.PlaceLaws.{greatest_placed, no_greatest}
use Rattle.lv_series.proofs.series.Series.greatest_inside.Goals as goal

pub returns-in-None : goal.returns-in-None
returns-in-None c = no_greatest c.args.self.now.held c.args.lo c.args.hi c.requires.granted c.args.self.now.table c.summary.result c.summary.ensures (sym c.in-None.is ∙ c.greatest_of.ensures)

pub returns-in-Some : goal.returns-in-Some
returns-in-Some c =
    let greatest = c.in-Some.greatest in
    let fits : FitsSigned w64 greatest = search rules in
    let told = sym c.in-Some.is ∙ c.greatest_of.ensures in
    let placed = c.first_placed.ensures in
    greatest_placed c.args.self.now.held c.args.lo c.args.hi c.requires.granted c.args.self.now.table c.summary.result c.summary.ensures greatest (to_z w64 (of_z w64 greatest)) told (to_z-of_z w64 greatest fits) c.first_placed.result placed.finds placed.value
