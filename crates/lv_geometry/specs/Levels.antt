-- A record with one value for each of the six levels of nodes.
use Rattle.std.specs.Prelude.{ℕ, nat_eq, if◌then◌else◌}
use Rattle.lv_geometry.specs.declared.levels.Levels.{Levels}

-- the value of a level from 1 to 6
abbrev pub thing_at : {T : Type 0} → Levels T → ℕ → T
thing_at all level =
    if nat_eq level 1 then all.level_1
    else if nat_eq level 2 then all.level_2
    else if nat_eq level 3 then all.level_3
    else if nat_eq level 4 then all.level_4
    else if nat_eq level 5 then all.level_5
    else all.level_6

-- the record with another value for one level from 1 to 6
abbrev pub with_thing : {T : Type 0} → Levels T → ℕ → T → Levels T
with_thing all level x =
    if nat_eq level 1 then record all { level_1 = x }
    else if nat_eq level 2 then record all { level_2 = x }
    else if nat_eq level 3 then record all { level_3 = x }
    else if nat_eq level 4 then record all { level_4 = x }
    else if nat_eq level 5 then record all { level_5 = x }
    else record all { level_6 = x }
