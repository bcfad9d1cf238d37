-- Proof of `run_of`: from which index up to which the run of a range with the greatest sum is.
use Rattle.std.proofs.Common.{◌≡◌, option_map, rules}
use Rattle.lv_script.proofs.FoundLaws.{run_sought}
use Rattle.lv_script.proofs.series_scripts.searches.run_of.Goals as goal

pub returns-in-Ok : goal.returns-in-Ok
returns-in-Ok c =
    let mapped : c.map.result ≡ option_map (λ r. (r.from, r.to)) c.in-Ok.run' = search rules in
    rw mapped (run_sought c.args.series.now c.best_run.new.self c.args.lo c.args.hi c.in-Ok.run' c.in-Ok.ensures)
