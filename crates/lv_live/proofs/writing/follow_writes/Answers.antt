-- Proof of `follow_writes`: takes note of writes that were made at indices, after so many edits, one by one.
use Rattle.std.proofs.Common.{◌≡◌, ◌+◌, ◌∷◌, [], ◌++◌, sym, subst, take, get_or, length, arith}
use Rattle.std.proofs.lemmas.List.{length-take-le, take_all, take_more}
use Rattle.lv_live.specs.Follows.{TableFollows}
use Rattle.lv_live.specs.Written.{WritesFollow}
use Rattle.lv_live.proofs.WrittenLaws.{WritesFollow-more, WritesFollow-none}
use Rattle.lv_live.proofs.writing.follow_writes.Goals as goal

pub loop-place-init : goal.loop-place-init
loop-place-init g c = WritesFollow-none c.args.table.now c.args.claims.now c.args.edit

pub loop-place-preserved : goal.loop-place-preserved
loop-place-preserved g c =
    let is = c.args.indices.now in
    let place = c.loop-place.place in
    let i = get_or is place 0 in
    let front = take place is in
    let long : length front ≡ place = length-take-le place is (omega arith) in
    let number : c.args.edit + place + 1 ≡ c.args.edit + length front + 1 = omega (arith, long) in
    let more : take (place + 1) is ≡ front ++ i ∷ [] = take_more is place 0 c.loop-place-test.true in
    let table = subst (TableFollows c.loop-place.table c.follow.new.table (i ∷ []) (c.args.edit + place + 1)) c.size-size.ensures.value c.follow.ensures.table in
    subst (λ js. WritesFollow c.args.table.now c.follow.new.table c.args.claims.now c.follow.new.claims js c.args.edit) (sym more)
    (WritesFollow-more c.args.table.now c.loop-place.table c.follow.new.table c.args.claims.now c.loop-place.claims c.follow.new.claims front i c.args.edit (c.args.edit + place + 1) c.loop-place.invariant number table c.follow.ensures.claims)

pub returns : goal.returns
returns g c =
    let all : take c.loop-place.place c.args.indices.now ≡ c.args.indices.now = take_all c.loop-place.place c.args.indices.now (omega (arith, c.loop-place-test.false)) in
    subst (λ js. WritesFollow c.args.table.now c.loop-place.table c.args.claims.now c.loop-place.claims js c.args.edit) all c.loop-place.invariant
