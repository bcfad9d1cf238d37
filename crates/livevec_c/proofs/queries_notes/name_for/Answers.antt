-- Proof of `name_for`: the bytes of a name for C, which end in a zero.
use Rattle.std.proofs.Common.{◌≡◌, ◌∙◌, ◌++◌, List, ℕ, length, drop, replicate, ap}
use Rattle.std.proofs.lemmas.List.{drop-replicate}
use Rattle.livevec_c.specs.Queried.{name_for}
use Rattle.livevec_c.proofs.queries_notes.name_for.Goals as goal

-- bytes written over the start of 17 zeros are the name with zeros after it
by_copy : (name copied : List ℕ) → copied ≡ name → copied ++ drop (length name) (replicate 17 0) ≡ name_for name
by_copy name copied same = ap (λ xs. xs ++ drop (length name) (replicate 17 0)) same ∙ ap (λ xs. name ++ xs) (drop-replicate (length name) 17 0)

pub returns : goal.returns
returns c = rw (← c.as_bytes-bytes.ensures.bytes) (by_copy c.as_bytes-bytes.result.now _ c.copy_from_slice.ensures.after)
