-- Answers of several lists as one list, in the rising order of their versions.
use Rattle.std.specs.Prelude.{List, [], ◌∷◌, cond, nat_lt}
use Rattle.std.specs.List.{flat_map}
use Rattle.lv_transcript.specs.declared.claimed.Claimed.{Claimed}

-- several lists, one after the other
abbrev pub in_a_row : List (List Claimed) → List Claimed
in_a_row lists = flat_map (λ answers. answers) lists

-- an answer put among others: before the first whose version is not below its own
abbrev pub put_before : Claimed → List Claimed → List Claimed
put_before answer [] = answer ∷ []
put_before answer (first ∷ rest) = cond (nat_lt first.edit answer.edit) (first ∷ put_before answer rest) (answer ∷ first ∷ rest)

-- answers in the rising order of their versions. Those at one version keep their order
abbrev pub by_edit : List Claimed → List Claimed
by_edit [] = []
by_edit (answer ∷ answers) = put_before answer (by_edit answers)

-- several lists joined into one, in the order of versions
abbrev pub joined : List (List Claimed) → List Claimed
joined lists = by_edit (in_a_row lists)
