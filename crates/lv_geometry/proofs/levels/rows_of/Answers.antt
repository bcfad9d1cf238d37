-- Proof of `rows_of`: how many rows each level needs for so many blocks: one for each block, and above one for each eight below, and for those that are left over.
use Rattle.std.proofs.Common.{◌≡◌, ℕ, ◌+◌, ◌*◌, ◌<◌, ◌≤◌, arith}
use Rattle.std.specs.Int.{div_ceil}
use Rattle.lv_geometry.specs.declared.levels.Levels.{Levels}
use Rattle.lv_geometry.specs.Levels.{thing_at}
use Rattle.lv_geometry.proofs.NodeLaws.{at_each_level, enough_above}
use Rattle.lv_geometry.proofs.levels.rows_of.Goals as goal

pub returns-clause-above : goal.returns-clause-above
returns-clause-above c level low below =
    let rows : Levels ℕ = record { level_1 = c.args.blocks; level_2 = c.parents_of-level_2.result; level_3 = c.parents_of-level_3.result; level_4 = c.parents_of-level_4.result; level_5 = c.parents_of-level_5.result; level_6 = c.parents_of.result } in
    at_each_level (λ k. k < 6 → thing_at rows (k + 1) ≡ div_ceil (thing_at rows k) 8)
    (λ _. c.parents_of-level_2.ensures) (λ _. c.parents_of-level_3.ensures) (λ _. c.parents_of-level_4.ensures) (λ _. c.parents_of-level_5.ensures) (λ _. c.parents_of.ensures) (λ past. absurd (omega arith))
    level low (omega arith) below

pub returns-clause-few : goal.returns-clause-few
returns-clause-few c =
    let f2 : c.parents_of-level_2.result ≤ c.args.blocks = omega (arith, c.parents_of-level_2.ensures) in
    let f3 : c.parents_of-level_3.result ≤ c.args.blocks = omega (arith, c.parents_of-level_3.ensures) in
    let f4 : c.parents_of-level_4.result ≤ c.args.blocks = omega (arith, c.parents_of-level_4.ensures) in
    let f5 : c.parents_of-level_5.result ≤ c.args.blocks = omega (arith, c.parents_of-level_5.ensures) in
    at_each_level _ (omega arith) f2 f3 f4 f5 (omega (arith, c.parents_of.ensures))

pub returns-clause-covers : goal.returns-clause-covers
returns-clause-covers c =
    let needed = 8 * c.args.blocks in
    let e1 : 8 * c.args.blocks ≤ c.args.blocks * 8 = omega arith in
    let e2 = enough_above needed c.args.blocks c.parents_of-level_2.result 8 c.parents_of-level_2.ensures e1 in
    let e3 = enough_above needed c.parents_of-level_2.result c.parents_of-level_3.result 64 c.parents_of-level_3.ensures e2 in
    let e4 = enough_above needed c.parents_of-level_3.result c.parents_of-level_4.result 512 c.parents_of-level_4.ensures e3 in
    let e5 = enough_above needed c.parents_of-level_4.result c.parents_of-level_5.result 4096 c.parents_of-level_5.ensures e4 in
    let e6 = enough_above needed c.parents_of-level_5.result c.parents_of.result 32768 c.parents_of.ensures e5 in
    at_each_level _ e1 e2 e3 e4 e5 e6
