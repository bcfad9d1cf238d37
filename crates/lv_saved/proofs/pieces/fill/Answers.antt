-- Proof of `fill`: the bytes of so many numbers, at the start of a buffer.
use Rattle.std.proofs.Common.{◌≡◌, ◌+◌, ◌*◌, ◌<◌, ◌≤◌, ◌∙◌, drop, length, refl, sym, ap, arith, length-drop}
use Rattle.std.specs.Int.{w64, to_le_bytes}
use Rattle.std.proofs.lemmas.List.{get_or-drop, length_push}
use Rattle.lv_saved.specs.Saved.{numbers_by, with_checksum}
use Rattle.lv_saved.proofs.NumberLaws.{length_numbers}
use Rattle.lv_saved.proofs.PieceLaws.{left_behind}
use Rattle.lv_shards.specs.Bytes.{checksum_of, spelled}
use Rattle.lv_shards.specs.SpelledLaws.{spelled_none, still_many, written_more}
use Rattle.lv_saved.proofs.pieces.fill.Goals as goal

pub loop-k-init : goal.loop-k-init
loop-k-init c = record { many = refl; so_far = sym spelled_none; rest = refl }

pub loop-k-preserved : goal.loop-k-preserved
loop-k-preserved c =
    let numbers = numbers_by c.args.head.now c.args.elements.now c.args.times.now in
    let all = with_checksum numbers in
    let first = c.args.first in
    let k = c.loop-k.k in
    let into = c.loop-k.into in
    let part = c.copy_from_slice.new.self in
    let old = c.args.into.now in
    let is = c.copy_from_slice.ensures.after ∙ c.to_le_bytes.ensures in
    let eight : length part ≡ 8 = ap length is in
    let below : k < length (drop first all) = omega (arith, length-drop first all, length_push numbers (checksum_of (spelled numbers)), length_numbers c.args.head.now c.args.elements.now c.args.times.now, c.told-head, c.requires.inside, c.loop-k-test.true) in
    let within : 8 * k + 8 ≤ length into = omega (arith, c.loop-k.invariant.many, c.requires.room, c.loop-k-test.true) in
    record {
      many = still_many (8 * k) (length old) into part c.loop-k.invariant.many eight (omega (arith, within, c.loop-k.invariant.many));
      so_far = written_more k (drop first all) into part below within (is ∙ ap (to_le_bytes w64) (c.number_or_checksum-number.ensures ∙ sym (get_or-drop first all k 0))) c.loop-k.invariant.so_far;
      rest = left_behind k old into part within eight c.loop-k.invariant.rest;
    }
