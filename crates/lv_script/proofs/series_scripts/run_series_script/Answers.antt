-- Proof of `run_series_script`: answers a script on a new series: reads its lines, and writes the reply to each, until the reader ends.
use Rattle.std.proofs.Common.{ap₂, arith, refl}
use Rattle.lv_script.specs.Inside.{known_of}
use Rattle.lv_script.specs.PlainSeriesScript.{series_script, start_series}
use Rattle.lv_script.proofs.InterpreterLaws.{written_plain}
use Rattle.lv_script.proofs.KnownLaws.{series_served}
use Rattle.lv_script.proofs.WholeSeriesLaws.{whole_series}
use Rattle.lv_script.proofs.series_scripts.run_series_script.Goals as goal

pub invariant_of-script : goal.invariant_of-script
invariant_of-script g c =
    rw (c.new.ensures, c.new-2.ensures) (record { table = c.program.ensures; told = refl; apart = λ i j d lt within. absurd (omega (arith, within)); most = refl; few = omega arith; room = omega arith })

pub returns-clause-plain : goal.returns-clause-plain
returns-clause-plain g c = series_served _ _ _ _ _ _ _ (ap₂ (λ s set. known_of s set.queries) c.new.ensures c.new-2.ensures) c.serve_lines-ended.ensures.served

pub returns-clause-text : goal.returns-clause-text
returns-clause-text g c =
    let plain = returns-clause-plain g c in
    written_plain series_script whole_series start_series plain.0 _ _ _ _ _ plain.1
