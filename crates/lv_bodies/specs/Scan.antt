-- The scans of a list: the folds of its beginnings, one for each element.
use Rattle.std.specs.Prelude.{ℤ, ◌+◌, List, length, take, map}
use Rattle.std.specs.List.{range_with_len}
use Rattle.lv_bodies.specs.Body.{Operations, fold_of}

-- for each element the fold of all up to and with it
abbrev pub inclusive_scan : {S : Type 0} → Operations S → List ℤ → List S
inclusive_scan o xs = map (λ i. fold_of o (take (i + 1) xs)) (range_with_len 0 (length xs))

-- for each element the fold of all before it
abbrev pub exclusive_scan : {S : Type 0} → Operations S → List ℤ → List S
exclusive_scan o xs = map (λ i. fold_of o (take i xs)) (range_with_len 0 (length xs))
