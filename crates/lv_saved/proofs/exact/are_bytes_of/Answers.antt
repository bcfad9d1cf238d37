-- Proof of `are_bytes_of`: whether the bytes are those of these numbers.
use Rattle.std.proofs.Common.{◌<◌, ◌≤◌, ap, arith, length, refl, sym}
use Rattle.std.proofs.lemmas.List.{length_push}
use Rattle.lv_saved.specs.Saved.{numbers_by, with_checksum}
use Rattle.lv_saved.proofs.NumberLaws.{length_numbers}
use Rattle.lv_saved.proofs.PieceLaws.{all_there, length_sealed, not_there, one_there}
use Rattle.lv_shards.specs.Bytes.{checksum_of, spelled}
use Rattle.lv_shards.specs.SpelledLaws.{spelled_none}
use Rattle.lv_saved.proofs.exact.are_bytes_of.Goals as goal

pub returns-then-bytes-all : goal.returns-then-bytes-all
returns-then-bytes-all c =
    let numbers = numbers_by c.args.head.now c.args.elements.now c.args.times.now in
    (λ t. absurd (cc), λ e. elim (c.if-bytes-all.true (omega (arith, ap length e, length_sealed numbers, length_numbers c.args.head.now c.args.elements.now c.args.times.now, c.told-head))) [ ])

pub loop-j-init : goal.loop-j-init
loop-j-init c = sym spelled_none

pub returns-then-not-has_number : goal.returns-then-not-has_number
returns-then-not-has_number c =
    let numbers = numbers_by c.args.head.now c.args.elements.now c.args.times.now in
    let below : c.loop-j.j < length (with_checksum numbers) = omega (arith, c.loop-j-test.true, length_push numbers (checksum_of (spelled numbers)), length_numbers c.args.head.now c.args.elements.now c.args.times.now, c.told-head) in
    (λ t. absurd (cc), λ e. elim (not_there numbers c.args.bytes.now c.loop-j.j c.number_or_checksum-number.result c.has_number.result c.has_number.ensures c.if-not-has_number.true c.number_or_checksum-number.ensures below e) [ ])

pub loop-j-preserved : goal.loop-j-preserved
loop-j-preserved c =
    let numbers = numbers_by c.args.head.now c.args.elements.now c.args.times.now in
    one_there (with_checksum numbers) c.args.bytes.now c.loop-j.j c.number_or_checksum-number.result c.loop-j.invariant (c.has_number.ensures.0 c.if-not-has_number.false) c.number_or_checksum-number.ensures
    (omega (arith, c.loop-j-test.true, length_push numbers (checksum_of (spelled numbers)), length_numbers c.args.head.now c.args.elements.now c.args.times.now, c.told-head))

pub returns : goal.returns
returns c =
    let numbers = numbers_by c.args.head.now c.args.elements.now c.args.times.now in
    let past : length (with_checksum numbers) ≤ c.loop-j.j = omega (arith, c.loop-j-test.false, length_push numbers (checksum_of (spelled numbers)), length_numbers c.args.head.now c.args.elements.now c.args.times.now, c.told-head) in
    (λ _. all_there numbers c.args.bytes.now c.loop-j.j (omega (arith, c.if-bytes-all.false, c.loop-j-test.false)) past c.loop-j.invariant, λ _. refl)
