-- Proof of `keep`: keeps so many of the bytes as there is room for.
use Rattle.std.proofs.Common.{◌≤◌, length, sym, arith}
use Rattle.lv_lines.proofs.InputLemmas.{take-append_room}
use Rattle.lv_transcript.proofs.unsealer.keep.Goals as goal

pub returns : goal.returns
returns c =
    let kept = c.args.kept.now.items in
    let short : length kept ≤ 138 = omega (arith, c.len-room.ensures.value, c.len-room.ensures.fits) in
    rw (c.in-Ok.ensures.ok, c.front.ensures.value, c.len-room.ensures.value) (sym (take-append_room 138 kept c.args.bytes.now short))
