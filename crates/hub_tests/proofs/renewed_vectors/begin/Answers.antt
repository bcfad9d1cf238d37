-- Proof of `begin`: makes such a hub of two parts.
use Rattle.std.proofs.Common.{◌∙◌, All, List, [], ap, arith, is_some, subst, sym, take}
use Rattle.std.proofs.lemmas.List.Elements.{All-nil}
use Rattle.lv_transcript.specs.Fronts.{Entry, IsPush}
use Rattle.lv_transcript.specs.Logs.{MayGoOn, edits_there}
use Rattle.hub_tests.proofs.renewed_vectors.begin.Goals as goal

-- the log that was there has no entries
pub begin-requires-clause-log : goal.begin-requires-clause-log
begin-requires-clause-log g c = sym (ap is_some c.requires.there)

pub begin-requires-clause-goes_on : goal.begin-requires-clause-goes_on
begin-requires-clause-goes_on g c =
    let nothing : List Entry = [] in
    subst MayGoOn (sym c.requires.there) record {
      all_true = record {
        numbers = record { base = omega (arith, c.requires.low); elements = omega (arith, c.requires.none) };
        all_true = tt;
        pushes = subst (λ n. All IsPush (take n nothing)) (sym c.requires.none) (All-nil IsPush);
      };
      elements = omega (arith, c.requires.none);
    }

pub begin-requires-clause-lasts : goal.begin-requires-clause-lasts
begin-requires-clause-lasts g c = record { lasts = c.requires.limits; many = c.requires.many }

pub begin-requires-clause-seen : goal.begin-requires-clause-seen
begin-requires-clause-seen g c = ap (λ s. s.seen) c.open-hub.ensures.share ∙ sym (ap edits_there c.requires.there)
