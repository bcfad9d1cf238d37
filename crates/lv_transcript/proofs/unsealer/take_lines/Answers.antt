-- Proof of `take_lines`: takes bytes of lines that have seals.
use Rattle.std.proofs.Common.{◌≡◌, ◌+◌, ◌≤◌, ℕ, List, Option, false, [], ◌∷◌, ◌++◌, length, drop, refl, sym, ap, ◌∙◌, arith, append_assoc, length-append}
use Rattle.std.proofs.lemmas.List.{drop-drop, length-drop, length-take}
use Rattle.lv_lines.specs.Input.{has_end}
use Rattle.lv_lines.proofs.LineEnds.{EndsAt-first, has_end-nowhere}
use Rattle.lv_lines.proofs.InputLemmas.{has_end-append_none, has_end-take}
use Rattle.lv_transcript.specs.Seals.{hash_behind, text_behind}
use Rattle.lv_transcript.proofs.UnsealLaws.{line_taken, piece_taken}
use Rattle.lv_transcript.proofs.unsealer.take_lines.Goals as goal

pub put_line-hash-requires : goal.put_line-hash-requires
put_line-hash-requires c =
    let kept = c.loop-end.kept.items in
    let piece = c.split_at.result.0.now in
    let ends = EndsAt-first c.loop-end.rest.now c.in-Some.end c.in-Some.ensures in
    record {
      room = omega (arith, ap length c.as_slice.ensures.value, ap length c.keep.ensures, length-take 138 (kept ++ piece), length-append kept piece, c.split_at.ensures.front_len, ends.inside, c.loop-end.invariant.room);
    }

pub loop-end-preserved : goal.loop-end-preserved
loop-end-preserved c =
    let inv = c.loop-end.invariant in
    let rest = c.loop-end.rest.now in
    let end = c.in-Some.end in
    let h = c.loop-end.hash in
    let kept = c.loop-end.kept.items in
    let ready = c.loop-end.ready.items in
    let new = c.put_line-hash.new.ready.items in
    let piece = c.split_at.result.0.now in
    let after = c.split_at-in-Some.result.1.now in
    let line = c.as_slice.result.now in
    let behind = c.put_line-hash.result in
    let ends = EndsAt-first rest end c.in-Some.ensures in
    let none : has_end piece ≡ false = rw c.split_at.ensures.front ends.before in
    let later : after ≡ drop (end + 1) rest = rw c.split_at.ensures.back at c.split_at-in-Some.ensures.back ∙ drop-drop 1 end rest in
    let cut : rest ≡ (piece ++ 10 ∷ []) ++ after = rw (c.split_at.ensures.front, later) ends.cut in
    let fewer : length after + end + 1 ≡ length rest = omega (arith, ap length later, length-drop (end + 1) rest, ends.inside) in
    let cleared : c.clear.new.self.items ≡ [] = c.clear.ensures in
    let long = length-take 138 (kept ++ piece) in
    record {
      done = inv.done ++ (piece ++ 10 ∷ []);
      cut = inv.cut ∙ ap (λ (xs : List ℕ). inv.done ++ xs) cut ∙ sym (append_assoc inv.done (piece ++ 10 ∷ []) after);
      taken = λ more.
          ap (λ (k : List ℕ). new ++ text_behind behind (k ++ more)) cleared
          ∙ ap (λ (o : Option ℕ). new ++ text_behind o more) c.put_line-hash.ensures.hash
          ∙ line_taken h kept piece line more ready new inv.begun none (c.as_slice.ensures.value ∙ c.keep.ensures) c.put_line-hash.ensures.items
          ∙ inv.taken ((piece ++ 10 ∷ []) ++ more)
          ∙ ap (λ (bs : List ℕ). c.args.ready.now.items ++ text_behind c.args.hash (c.args.kept.now.items ++ bs)) (sym (append_assoc inv.done (piece ++ 10 ∷ []) more));
      begun = ap has_end cleared;
      room = omega (arith, inv.room, c.put_line-hash.ensures.len, c.put_line-hash.ensures.capacity, ap length cleared, fewer, ap length c.as_slice.ensures.value, ap length c.keep.ensures, long, length-append kept piece, c.split_at.ensures.front_len);
      capacity = omega (arith, inv.capacity, c.put_line-hash.ensures.capacity);
    }

pub returns-clause-text : goal.returns-clause-text
returns-clause-text c = λ more.
    let inv = c.loop-end.invariant in
    let rest = c.loop-end.rest.now in
    let none = has_end-nowhere rest c.memchr.result c.memchr.ensures c.in_default.not-Some in
    ap (λ (bs : List ℕ). c.loop-end.ready.items ++ bs) (piece_taken c.loop-end.hash c.loop-end.kept.items rest c.keep-2.new.kept.items more inv.begun none c.keep-2.ensures)
    ∙ inv.taken (rest ++ more)
    ∙ ap (λ (bs : List ℕ). c.args.ready.now.items ++ text_behind c.args.hash (c.args.kept.now.items ++ bs)) (sym (append_assoc inv.done rest more) ∙ ap (λ (bs : List ℕ). bs ++ more) (sym inv.cut))

pub returns-clause-begun : goal.returns-clause-begun
returns-clause-begun c =
    let kept = c.loop-end.kept.items in
    let rest = c.loop-end.rest.now in
    let none = has_end-nowhere rest c.memchr.result c.memchr.ensures c.in_default.not-Some in
    ap has_end c.keep-2.ensures ∙ has_end-take 138 (kept ++ rest) (has_end-append_none kept rest c.loop-end.invariant.begun ∙ none)

pub returns-clause-short : goal.returns-clause-short
returns-clause-short c = omega (arith, ap length c.keep-2.ensures, length-take 138 (c.loop-end.kept.items ++ c.loop-end.rest.now))
