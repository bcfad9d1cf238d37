-- Proof of `livevec_proved_series_find`.
use Rattle.std.proofs.Common.{◌∙◌, Some, ap, sym, w64}
use Rattle.std.proofs.lemmas.Int.{to_z-of_z}
use Rattle.livevec_c.specs.Wanted.{wanted_at}
use Rattle.livevec_c.proofs.series_found.livevec_proved_series_find.Goals as goal

pub returns-in-Some-take : goal.returns-in-Some-take
returns-in-Some-take c =
    let sought = ap (wanted_at c.args.wanted) (sym (to_z-of_z w64 c.args.x c.ranges.x)) ∙ sym c.wanted_by.ensures ∙ c.in-Some.is in
    rw sought (rw (c.in-Some-take.ensures.taken ∙ ap Some (sym c.deref_mut.ensures.value)) (_, c.put.ensures, c.find_of-answer.ensures))
