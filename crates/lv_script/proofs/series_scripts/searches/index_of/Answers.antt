-- Proof of `index_of`: the index of what is looked for in a range.
use Rattle.std.proofs.Common.{◌≡◌, option_map, rules}
use Rattle.lv_script.proofs.FoundLaws.{greatest_sought, least_sought}
use Rattle.lv_script.proofs.series_scripts.searches.index_of.Goals as goal

pub returns-in-Ok : goal.returns-in-Ok
returns-in-Ok c =
    let mapped : c.map.result ≡ option_map (λ p. p.index) c.in-Ok.placed = search rules in
    rw (c.in-Least.is, mapped) (least_sought c.args.series.now c.first_least.new.self c.args.lo c.args.hi c.in-Ok.placed c.in-Ok.ensures)

pub returns-in-Ok-first_greatest : goal.returns-in-Ok-first_greatest
returns-in-Ok-first_greatest c =
    let mapped : c.map-in-Ok-first_greatest.result ≡ option_map (λ p. p.index) c.in-Ok-first_greatest.placed = search rules in
    rw (c.in-Greatest.is, mapped) (greatest_sought c.args.series.now c.first_greatest.new.self c.args.lo c.args.hi c.in-Ok-first_greatest.placed c.in-Ok-first_greatest.ensures)
