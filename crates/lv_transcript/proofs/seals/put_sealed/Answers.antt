-- Proof of `put_sealed`: puts bytes of a log's text as they are in its file.
use Rattle.std.proofs.Common.{◌≡◌, ◌+◌, ℕ, List, false, [], ◌∷◌, ◌++◌, length, drop, refl, sym, ap, ◌∙◌, arith, append_assoc, length-append}
use Rattle.std.proofs.lemmas.List.{drop-drop, length-drop}
use Rattle.lv_shards.specs.Bytes.{checksum_from}
use Rattle.lv_lines.specs.Input.{has_end}
use Rattle.lv_lines.proofs.LineEnds.{EndsAt-first, has_end-nowhere}
use Rattle.lv_transcript.specs.Seals.{seal_by, sealed_behind}
use Rattle.lv_transcript.proofs.SealLaws.{AreSealed, seal-length, sealed-length, sealed_line, sealed_more, sealed_none}
use Rattle.lv_transcript.proofs.seals.put_sealed.Goals as goal

pub loop-end-init : goal.loop-end-init
loop-end-init c = record {
  done = [];
  cut = refl;
  sealed = sealed_none c.args.held.now.items c.args.hash c.args.count;
  few = c.requires.few;
  within = omega (arith, c.requires.within, c.requires.few);
  room = c.requires.room;
  capacity = omega arith;
}

pub put_piece-hash-requires-clause-line : goal.put_piece-hash-requires-clause-line
put_piece-hash-requires-clause-line c =
    let ends = EndsAt-first c.loop-end.rest.now c.in-Some.end c.in-Some.ensures in
    rw c.split_at.ensures.front ends.before

pub loop-end-preserved : goal.loop-end-preserved
loop-end-preserved c =
    let inv = c.loop-end.invariant in
    let rest = c.loop-end.rest.now in
    let end = c.in-Some.end in
    let h = c.loop-end.hash in
    let n = c.loop-end.count in
    let piece = c.split_at.result.0.now in
    let after = c.split_at-in-Some.result.1.now in
    let ends = EndsAt-first rest end c.in-Some.ensures in
    let none : has_end piece ≡ false = rw c.split_at.ensures.front ends.before in
    let later : after ≡ drop (end + 1) rest = rw c.split_at.ensures.back at c.split_at-in-Some.ensures.back ∙ drop-drop 1 end rest in
    let cut : rest ≡ (piece ++ 10 ∷ []) ++ after = rw (c.split_at.ensures.front, later) ends.cut in
    let long = sealed-length h n piece none in
    let mid = c.put_piece-hash.result in
    let k = checksum_from mid (32 ∷ []) in
    let size = length-append (seal_by k) (10 ∷ []) in
    let fewer : length after + end + 1 ≡ length rest = omega (arith, ap length later, length-drop (end + 1) rest, ends.inside) in
    record {
      done = inv.done ++ (piece ++ 10 ∷ []);
      cut = inv.cut ∙ ap (λ (xs : List ℕ). inv.done ++ xs) cut ∙ sym (append_assoc inv.done (piece ++ 10 ∷ []) after);
      sealed =
          sealed_line c.args.held.now.items c.args.hash c.args.count inv.done piece c.loop-end.held.items c.put_piece-hash.new.held.items c.put_seal-hash.new.held.items h n mid c.put_seal-hash.result (n + (end + 17 + 1)) inv.sealed
          c.put_piece-hash.ensures.items c.put_piece-hash.ensures.hash c.put_seal-hash.ensures.items c.put_seal-hash.ensures.hash (omega (arith, long, c.split_at.ensures.front_len, size, seal-length k));
      few = omega (arith, inv.few, fewer);
      within = omega (arith, inv.within, fewer);
      room = omega (arith, inv.room, fewer, c.put_piece-hash.ensures.len, c.put_seal-hash.ensures.len, c.split_at.ensures.front_len);
      capacity = omega (arith, inv.capacity, c.put_piece-hash.ensures.capacity, c.put_seal-hash.ensures.capacity);
    }

pub put_piece-requires-clause-line : goal.put_piece-requires-clause-line
put_piece-requires-clause-line c = has_end-nowhere c.loop-end.rest.now c.memchr.result c.memchr.ensures c.in_default.not-Some

pub returns-clause-items : goal.returns-clause-items
returns-clause-items c =
    let inv = c.loop-end.invariant in
    let next =
    sealed_more c.args.held.now.items c.args.hash c.args.count inv.done c.loop-end.rest.now c.loop-end.held.items c.put_piece.new.held.items c.loop-end.hash c.loop-end.count c.put_piece.result _ inv.sealed
    c.put_piece.ensures.items c.put_piece.ensures.hash refl in
    next.items ∙ ap (λ (t : List ℕ). c.args.held.now.items ++ sealed_behind c.args.hash c.args.count t) (sym inv.cut)

pub returns-clause-hash : goal.returns-clause-hash
returns-clause-hash c =
    let inv = c.loop-end.invariant in
    let next =
    sealed_more c.args.held.now.items c.args.hash c.args.count inv.done c.loop-end.rest.now c.loop-end.held.items c.put_piece.new.held.items c.loop-end.hash c.loop-end.count c.put_piece.result _ inv.sealed
    c.put_piece.ensures.items c.put_piece.ensures.hash refl in
    next.hash_is ∙ ap (λ (t : List ℕ). checksum_from c.args.hash (sealed_behind c.args.hash c.args.count t)) (sym inv.cut)
