-- Proof of `LineReader::push_bytes`: takes bytes of the input: has the lines that they end answered, and keeps what they leave.
use Rattle.std.proofs.Common.{◌≡◌, ℕ, List, ◌+◌, false, [], ◌∷◌, ◌++◌, length, drop, refl, sym, ap, ◌∙◌, arith, append_assoc}
use Rattle.std.proofs.lemmas.List.{drop-drop, length-take, length-drop}
use Rattle.std.proofs.lemmas.Result.{err_from_is_err_and}
use Rattle.lv_lines.specs.Input.{has_end}
use Rattle.lv_lines.specs.LineReader.{point_of}
use Rattle.lv_lines.proofs.LineEnds.{EndsAt-first, has_end-nowhere}
use Rattle.lv_lines.proofs.InputLemmas.{has_end-append_none, has_end-take}
use Rattle.lv_lines.proofs.LineReaderLemmas.{PushesBytes-nil, PushesBytes-piece, PushesBytes-line, PushesBytesFront-line, PushesBytes-trans, PushesBytesFront-after, PushesBytesFront-more}
use Rattle.lv_lines.proofs.line_reader.LineReader.push_bytes.Goals as goal

pub loop-end-init : goal.loop-end-init
loop-end-init g c = record {
  done = [];
  cut = refl;
  fed = PushesBytes-nil g.A.LineHandler.step _ c.requires.ready.begun c.requires.ready.short;
  ready = c.requires.ready;
  places = (refl, refl);
  number = c.requires.number;
}

pub returns-in_err-end_line-clause-fault : goal.returns-in_err-end_line-clause-fault
returns-in_err-end_line-clause-fault g c =
    let p = err_from_is_err_and c.from_residual.result c.from_residual.ensures.1 in
    let step = g.A.LineHandler.step in
    let loop = c.loop-end.invariant in
    let rest = c.loop-end.rest.now in
    let piece = c.split_at.result.0.now in
    let start = point_of (g.A.LineHandler.state c.args.handler.now) c.args.self.now g.W.Write.contents c.args.buffer.now in
    let here = point_of (g.A.LineHandler.state c.loop-end.handler) c.loop-end.self g.W.Write.contents c.loop-end.buffer in
    let stop = point_of (g.A.LineHandler.state c.end_line.new.handler) c.end_line.new.self g.W.Write.contents c.end_line.new.buffer in
    let ends = EndsAt-first rest c.in-Some.end c.in-Some.ensures in
    let none : has_end piece ≡ false = rw c.split_at.ensures.front ends.before in
    let fails = PushesBytesFront-line step here stop piece loop.ready.begun none c.in_err-end_line.ensures.fault.1 in
    let more = PushesBytesFront-more step here stop (piece ++ 10 ∷ []) (drop (c.in-Some.end + 1) rest) fails in
    let cut : rest ≡ (piece ++ 10 ∷ []) ++ drop (c.in-Some.end + 1) rest = rw c.split_at.ensures.front ends.cut in
    rw (p.1, p.2) (c.in_err-end_line.ensures.fault.0, rw loop.cut (PushesBytesFront-after step start here stop loop.done rest loop.fed (rw (← cut) at more)))

pub loop-end-preserved : goal.loop-end-preserved
loop-end-preserved g c =
    let step = g.A.LineHandler.step in
    let loop = c.loop-end.invariant in
    let rest = c.loop-end.rest.now in
    let end = c.in-Some.end in
    let piece = c.split_at.result.0.now in
    let after = c.split_at-in-Some.result.1.now in
    let ends = EndsAt-first rest end c.in-Some.ensures in
    let none : has_end piece ≡ false = rw c.split_at.ensures.front ends.before in
    let later : after ≡ drop (end + 1) rest = rw c.split_at.ensures.back at c.split_at-in-Some.ensures.back ∙ drop-drop 1 end rest in
    let cut : rest ≡ (piece ++ 10 ∷ []) ++ after = rw (c.split_at.ensures.front, later) ends.cut in
    let answered = c.in_ok-end_line.ensures in
    let places = c.end_line.ensures.places in
    let start = point_of (g.A.LineHandler.state c.args.handler.now) c.args.self.now g.W.Write.contents c.args.buffer.now in
    let here = point_of (g.A.LineHandler.state c.loop-end.handler) c.loop-end.self g.W.Write.contents c.loop-end.buffer in
    let next = point_of (g.A.LineHandler.state c.end_line.new.handler) c.end_line.new.self g.W.Write.contents c.end_line.new.buffer in
    record {
      done = loop.done ++ (piece ++ 10 ∷ []);
      cut = loop.cut ∙ ap (λ (xs : List ℕ). loop.done ++ xs) cut ∙ sym (append_assoc loop.done (piece ++ 10 ∷ []) after);
      fed = PushesBytes-trans step start here next loop.done (piece ++ 10 ∷ []) loop.fed (PushesBytes-line step here next piece loop.ready.begun none answered.ok answered.number answered.kept);
      ready = record { begun = rw answered.kept refl; short = rw answered.kept (omega arith) };
      places = (places.0 ∙ loop.places.0, places.1 ∙ loop.places.1);
      number = omega (arith, answered.number, loop.number, ends.inside, ap length later, length-drop (end + 1) rest);
    }

pub returns-clause-ok : goal.returns-clause-ok
returns-clause-ok g c =
    let loop = c.loop-end.invariant in
    let rest = c.loop-end.rest.now in
    let none = has_end-nowhere rest c.memchr.result c.memchr.ensures c.in_default.not-Some in
    let step = g.A.LineHandler.step in
    let start = point_of (g.A.LineHandler.state c.args.handler.now) c.args.self.now g.W.Write.contents c.args.buffer.now in
    let here = point_of (g.A.LineHandler.state c.loop-end.handler) c.loop-end.self g.W.Write.contents c.loop-end.buffer in
    let kept = c.keep.new.kept.items in
    rw loop.cut (PushesBytes-trans step start here record here { kept = kept } loop.done rest loop.fed (PushesBytes-piece step here kept rest loop.ready.begun none c.keep.ensures))

pub returns-clause-ready : goal.returns-clause-ready
returns-clause-ready g c =
    let loop = c.loop-end.invariant in
    let rest = c.loop-end.rest.now in
    let kept = c.loop-end.self.kept.items in
    let none = has_end-nowhere rest c.memchr.result c.memchr.ensures c.in_default.not-Some in
    record {
      begun = rw c.keep.ensures (has_end-take 121 (kept ++ rest) (has_end-append_none kept rest loop.ready.begun ∙ none));
      short = rw c.keep.ensures (simp length-take (omega arith));
    }
