-- Proof of `Series::least_inside`.
use Rattle.std.proofs.Common.{FitsSigned, of_z, rules, sym, to_z, w64, ◌∙◌}
use Rattle.std.proofs.lemmas.Int.{to_z-of_z}
use Rattle.lv_series.proofs.PlaceLaws.{least_placed, no_least}
use Rattle.lv_series.proofs.series.Series.least_inside.Goals as goal

pub returns-in-None : goal.returns-in-None
returns-in-None c = no_least c.args.self.now.held c.args.lo c.args.hi c.requires.granted c.args.self.now.table c.summary.result c.summary.ensures (sym c.in-None.is ∙ c.least_of.ensures)

pub returns-in-Some : goal.returns-in-Some
returns-in-Some c =
    let least = c.in-Some.least in
    let fits : FitsSigned w64 least = search rules in
    let told = sym c.in-Some.is ∙ c.least_of.ensures in
    let placed = c.first_placed.ensures in
    least_placed c.args.self.now.held c.args.lo c.args.hi c.requires.granted c.args.self.now.table c.summary.result c.summary.ensures least (to_z w64 (of_z w64 least)) told (to_z-of_z w64 least fits) c.first_placed.result placed.finds placed.value
