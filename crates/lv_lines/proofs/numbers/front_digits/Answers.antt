-- Proof of `front_digits`: the number that the digits at the start of a text denote, and how many they are; of more than 18 the first 18.
use Rattle.std.proofs.Common.{◌<◌, length, take, arith}
use Rattle.std.proofs.lemmas.List.{length-take}
use Rattle.lv_lines.proofs.ReadDigits.{room_for_digit}
use Rattle.lv_lines.proofs.ReadFirst.{numeral_read}
use Rattle.lv_lines.proofs.numbers.front_digits.Goals as goal

pub overflow_mul-value : goal.overflow_mul-value
overflow_mul-value c =
    let loop = c.loop-count in
    record { fits = omega (arith, c.min-most.ensures, room_for_digit loop.value loop.count loop.invariant.small (omega (arith, c.min-most.ensures))) }

pub overflow_add-value : goal.overflow_add-value
overflow_add-value c =
    let loop = c.loop-count in
    record { fits = omega (arith, c.min-most.ensures, room_for_digit loop.value loop.count loop.invariant.small (omega (arith, c.min-most.ensures))) }

pub returns-else-is_ascii_digit-clause-value : goal.returns-else-is_ascii_digit-clause-value
returns-else-is_ascii_digit-clause-value c = λ some.
    let loop = c.loop-count in
    let long : 0 < length (take loop.count c.args.text.now) = simp length-take (omega (arith, c.min-most.ensures)) in
    numeral_read (take loop.count c.args.text.now) loop.value long loop.invariant.read

pub returns-after-loop-count-clause-value : goal.returns-after-loop-count-clause-value
returns-after-loop-count-clause-value c = λ some.
    let loop = c.loop-count in
    let long : 0 < length (take loop.count c.args.text.now) = simp length-take (omega (arith, c.min-most.ensures)) in
    numeral_read (take loop.count c.args.text.now) loop.value long loop.invariant.read
