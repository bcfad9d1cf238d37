-- Proof of `put_note`: puts a note at a place, if there is such a place.
use Rattle.std.proofs.Common.{◌≡◌, ◌+◌, ◌<◌, ◌≤◌, ℕ, suc, List, ◌∷◌, ◌++◌, length, take, drop, refl, ap, ◌∙◌, arith}
use Rattle.std.specs.Prelude.{slice_set}
use Rattle.std.proofs.lemmas.List.{length-set, set_split}
use Rattle.livevec_c.specs.declared.queries_notes.Note.{Note}
use Rattle.livevec_c.specs.Queried.{PutsNote}
use Rattle.livevec_c.proofs.queries_notes.put_note.Goals as goal

-- it was put there
put : (note : Note) (place : ℕ) (before after : List Note) → place < length before → after ≡ slice_set before place note → PutsNote note place before after
put note place before after room set =
    let next : suc place ≡ place + 1 = omega arith in
    record {
      places = ap length set ∙ length-set before place note;
      written = λ there. set ∙ set_split before place note room ∙ ap (λ k. take place before ++ note ∷ drop k before) next;
    }

-- or there is no such place
left : (note : Note) (place : ℕ) (before after : List Note) → length before ≤ place → after ≡ before → PutsNote note place before after
left note place before after full same = record { places = ap length same; written = λ there. absurd (omega (arith, there, full)) }

pub returns-then-place-notes : goal.returns-then-place-notes
returns-then-place-notes c = put c.args.note c.args.place c.args.notes.now _ (omega arith) refl

pub returns-else-place-notes : goal.returns-else-place-notes
returns-else-place-notes c = left c.args.note c.args.place c.args.notes.now _ (omega arith) refl
