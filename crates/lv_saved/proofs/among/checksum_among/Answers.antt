-- Proof of `checksum_among`: the checksum of the bytes of all numbers.
use Rattle.std.proofs.Common.{◌∙◌, ap, arith}
use Rattle.lv_saved.specs.Saved.{numbers_by}
use Rattle.lv_saved.proofs.NumberLaws.{length_numbers, none_hashed, one_hashed}
use Rattle.lv_shards.specs.Bytes.{checksum_from}
use Rattle.lv_saved.proofs.among.checksum_among.Goals as goal

pub loop-j-init : goal.loop-j-init
loop-j-init c = none_hashed

pub loop-j-preserved : goal.loop-j-preserved
loop-j-preserved c =
    let numbers = numbers_by c.args.head.now c.args.elements.now c.args.times.now in
    one_hashed numbers c.loop-j.j c.loop-j.hash c.number_among-number.result c.checksum_more-hash.result
    (omega (arith, c.loop-j-test.true, length_numbers c.args.head.now c.args.elements.now c.args.times.now, c.told-head)) c.loop-j.invariant c.number_among-number.ensures
    (c.checksum_more-hash.ensures ∙ ap (checksum_from c.loop-j.hash) c.to_le_bytes.ensures)
