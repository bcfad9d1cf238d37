-- Proof of `read_lines`: reads chunks, and has the lines that they end answered, up to the end of the input.
use Rattle.std.proofs.Common.{◌≡◌, ◌==◌, true, false, [], ◌∷◌, ◌++◌, ◌∙◌, Err, length, take, refl, sym, arith, rules, append-nil}
use Rattle.std.proofs.KnownBytes.{Consumes-nil, Consumes-trans, Consumes-kept}
use Rattle.std.proofs.lemmas.List.{length-append, length-take-le}
use Rattle.std.proofs.lemmas.Result.{err_from_is_err_and}
use Rattle.lv_lines.specs.declared.fault.Fault.TheVariants.{ReadFault, TooLong, WriteFault}
use Rattle.lv_lines.specs.LineReader.{point_of, start_of}
use Rattle.lv_lines.specs.Replies.{LinesServedWithin}
use Rattle.lv_lines.proofs.LineLoopLemmas.{LinesServed-last, LinesServed-too_long, LinesServed-unended, LinesServed-unread, LinesServed-unsent, PushesBytes-start, in_place, lines_of-ended, lines_of-whole}
use Rattle.lv_lines.proofs.LineReaderLemmas.{PushesBytes-line, PushesBytesFront-line, PushesBytes-trans, PushesBytesFront-after, PushesBytes-sent, PushesBytesFront-sent, number-PushesBytes}
use Rattle.lv_lines.proofs.line_loop.read_lines.Goals as goal

pub reading-init : goal.reading-init
reading-init g c =
    let state = g.A.LineHandler.state c.args.handler.now in
    let contents = g.W.Write.contents c.args.writer.now in
    let made = c.new-line_reader.result in
    record {
      seen = [];
      read = Consumes-nil (g.R.Read.remaining c.args.reader.now);
      count = omega arith;
      fed = PushesBytes-start g.A.LineHandler.step state contents record { state = state; number = made.number; kept = made.kept.items; contents = contents; held = c.args.held.now.items }
          refl c.new-line_reader.ensures.number c.new-line_reader.ensures.kept refl c.requires.held;
      ready = c.new-line_reader.ensures.ready;
      place = refl;
    }

pub returns-in_err-send-clause-served : goal.returns-in_err-send-clause-served
returns-in_err-send-clause-served g c =
    let p = err_from_is_err_and c.from_residual.result c.from_residual.ensures.1 in
    let step = g.A.LineHandler.step in
    let state = g.A.LineHandler.state c.args.handler.now in
    let contents = g.W.Write.contents c.args.writer.now in
    let loop = c.reading.invariant in
    let here = point_of (g.A.LineHandler.state c.reading.handler) c.reading.line_reader g.W.Write.contents c.reading.buffer in
    let sent = g.W.Write.contents c.send.new.buffer.writer.now in
    let held = c.send.new.buffer.held.now.items in
    let unsent = c.in_err-send.ensures.fault in
    rw (p.1, p.2, unsent.0)
    (in_place (λ w. LinesServedWithin step {T = Unit {0}} c.args.most state (g.A.LineHandler.state c.reading.handler) (g.R.Read.remaining c.args.reader.now) (g.R.Read.remaining c.reading.reader) contents (g.W.Write.contents w) (Err WriteFault))
    _ _ _ c.send.new.buffer.writer.now (sym (c.send.ensures.places.0 ∙ loop.place)) (search rules)
    (LinesServed-unsent step state contents c.args.most _ _ loop.seen loop.read record here { contents = sent; held = held } (omega (arith, loop.count)) (PushesBytesFront-sent step (start_of state contents) here sent held loop.seen loop.fed unsent.1)))

pub returns-in_err-count-clause-served : goal.returns-in_err-count-clause-served
returns-in_err-count-clause-served g c =
    let p = err_from_is_err_and c.from_residual-in_err-count.result c.from_residual-in_err-count.ensures.1 in
    let step = g.A.LineHandler.step in
    let state = g.A.LineHandler.state c.args.handler.now in
    let contents = g.W.Write.contents c.args.writer.now in
    let loop = c.reading.invariant in
    let here = point_of (g.A.LineHandler.state c.reading.handler) c.reading.line_reader g.W.Write.contents c.reading.buffer in
    let sent = g.W.Write.contents c.send.new.buffer.writer.now in
    let held = c.send.new.buffer.held.now.items in
    let fed = PushesBytes-sent step (start_of state contents) here sent held loop.seen loop.fed c.in_ok-send.ensures.ok in
    let mid = record here { contents = sent; held = held } in
    let failed = c.in_err-count.ensures.fault in
    rw (p.1, p.2, failed.0)
    (in_place (λ w. LinesServedWithin step {T = Unit {0}} c.args.most state (g.A.LineHandler.state c.reading.handler) (g.R.Read.remaining c.args.reader.now) (g.R.Read.remaining c.read_front.new.reader) contents (g.W.Write.contents w) (Err ReadFault))
    _ _ _ c.send.new.buffer.writer.now (sym (c.send.ensures.places.0 ∙ loop.place)) (search rules)
    (LinesServed-unread step state contents c.args.most _ _ loop.seen (Consumes-kept _ _ _ loop.seen loop.read failed.1) mid (omega (arith, loop.count)) fed c.in_ok-send.ensures.ok.0))

pub returns-then-is_empty-clause-served : goal.returns-then-is_empty-clause-served
returns-then-is_empty-clause-served g c =
    let step = g.A.LineHandler.step in
    let state = g.A.LineHandler.state c.args.handler.now in
    let contents = g.W.Write.contents c.args.writer.now in
    let loop = c.reading.invariant in
    let here = point_of (g.A.LineHandler.state c.reading.handler) c.reading.line_reader g.W.Write.contents c.reading.buffer in
    let sent = g.W.Write.contents c.send.new.buffer.writer.now in
    let held = c.send.new.buffer.held.now.items in
    let fed = PushesBytes-sent step (start_of state contents) here sent held loop.seen loop.fed c.in_ok-send.ensures.ok in
    let mid = record here { contents = sent; held = held } in
    let none : take c.in_ok-count.count c.read_front.new.chunk ≡ [] = rw c.if-count-eq0.true refl in
    let read = rw append-nil at (Consumes-trans _ _ _ loop.seen [] loop.read (rw none at c.in_ok-count.ensures.read)) in
    let end = c.in_ok-count.ensures.end c.if-count-eq0.true in
    let nothing : (length mid.kept == 0) ≡ true = sym c.is_empty.ensures ∙ c.if-is_empty.true in
    in_place (λ w. LinesServedWithin step {T = Unit {0}} c.args.most state (g.A.LineHandler.state c.reading.handler) (g.R.Read.remaining c.args.reader.now) (g.R.Read.remaining c.read_front.new.reader) contents (g.W.Write.contents w) c.send-then-is_empty.result)
    _ _ _ c.send-then-is_empty.new.buffer.writer.now (sym (c.send-then-is_empty.ensures.places.0 ∙ c.send.ensures.places.0 ∙ loop.place)) (search rules)
    (LinesServed-last step state contents c.args.most _ _ loop.seen read end (omega (arith, loop.count)) loop.seen mid (g.W.Write.contents c.send-then-is_empty.new.buffer.writer.now) c.send-then-is_empty.new.buffer.held.now.items c.send-then-is_empty.result (lines_of-whole loop.seen mid.kept fed.kept nothing) fed c.send-then-is_empty.ensures.ok c.send-then-is_empty.ensures.fault)

pub end_line-requires-clause-number : goal.end_line-requires-clause-number
end_line-requires-clause-number g c =
    let step = g.A.LineHandler.step in
    let state = g.A.LineHandler.state c.args.handler.now in
    let contents = g.W.Write.contents c.args.writer.now in
    let loop = c.reading.invariant in
    let here = point_of (g.A.LineHandler.state c.reading.handler) c.reading.line_reader g.W.Write.contents c.reading.buffer in
    omega (arith, c.requires.most, loop.count, number-PushesBytes step (start_of state contents) here loop.seen loop.fed refl)

pub returns-in_err-end_line-clause-served : goal.returns-in_err-end_line-clause-served
returns-in_err-end_line-clause-served g c =
    let p = err_from_is_err_and c.from_residual-in_err-end_line.result c.from_residual-in_err-end_line.ensures.1 in
    let step = g.A.LineHandler.step in
    let state = g.A.LineHandler.state c.args.handler.now in
    let contents = g.W.Write.contents c.args.writer.now in
    let loop = c.reading.invariant in
    let here = point_of (g.A.LineHandler.state c.reading.handler) c.reading.line_reader g.W.Write.contents c.reading.buffer in
    let sent = g.W.Write.contents c.send.new.buffer.writer.now in
    let held = c.send.new.buffer.held.now.items in
    let fed = PushesBytes-sent step (start_of state contents) here sent held loop.seen loop.fed c.in_ok-send.ensures.ok in
    let mid = record here { contents = sent; held = held } in
    let none : take c.in_ok-count.count c.read_front.new.chunk ≡ [] = rw c.if-count-eq0.true refl in
    let read = rw append-nil at (Consumes-trans _ _ _ loop.seen [] loop.read (rw none at c.in_ok-count.ensures.read)) in
    let end = c.in_ok-count.ensures.end c.if-count-eq0.true in
    let next = point_of (g.A.LineHandler.state c.end_line.new.handler) c.end_line.new.self g.W.Write.contents c.end_line.new.buffer in
    let some : (length mid.kept == 0) ≡ false = sym c.is_empty.ensures ∙ c.if-is_empty.false in
    let fails = c.in_err-end_line.ensures.fault in
    rw (p.1, p.2, fails.0)
    (in_place (λ w. LinesServedWithin step {T = Unit {0}} c.args.most state (g.A.LineHandler.state c.end_line.new.handler) (g.R.Read.remaining c.args.reader.now) (g.R.Read.remaining c.read_front.new.reader) contents (g.W.Write.contents w) (Err WriteFault))
    _ _ _ c.end_line.new.buffer.writer.now (sym (c.end_line.ensures.places.0 ∙ c.send.ensures.places.0 ∙ loop.place)) (search rules)
    (LinesServed-unended step state contents c.args.most _ _ loop.seen read end (omega (arith, loop.count)) (loop.seen ++ 10 ∷ []) next (lines_of-ended loop.seen mid.kept fed.kept some) (PushesBytesFront-after step (start_of state contents) mid next loop.seen (10 ∷ []) fed (PushesBytesFront-line step mid next [] loop.ready.begun refl fails.1))))

pub returns-then-count-eq0-clause-served : goal.returns-then-count-eq0-clause-served
returns-then-count-eq0-clause-served g c =
    let step = g.A.LineHandler.step in
    let state = g.A.LineHandler.state c.args.handler.now in
    let contents = g.W.Write.contents c.args.writer.now in
    let loop = c.reading.invariant in
    let here = point_of (g.A.LineHandler.state c.reading.handler) c.reading.line_reader g.W.Write.contents c.reading.buffer in
    let sent = g.W.Write.contents c.send.new.buffer.writer.now in
    let held = c.send.new.buffer.held.now.items in
    let fed = PushesBytes-sent step (start_of state contents) here sent held loop.seen loop.fed c.in_ok-send.ensures.ok in
    let mid = record here { contents = sent; held = held } in
    let none : take c.in_ok-count.count c.read_front.new.chunk ≡ [] = rw c.if-count-eq0.true refl in
    let read = rw append-nil at (Consumes-trans _ _ _ loop.seen [] loop.read (rw none at c.in_ok-count.ensures.read)) in
    let end = c.in_ok-count.ensures.end c.if-count-eq0.true in
    let next = point_of (g.A.LineHandler.state c.end_line.new.handler) c.end_line.new.self g.W.Write.contents c.end_line.new.buffer in
    let some : (length mid.kept == 0) ≡ false = sym c.is_empty.ensures ∙ c.if-is_empty.false in
    let answered = c.in_ok-end_line.ensures in
    in_place (λ w. LinesServedWithin step {T = Unit {0}} c.args.most state (g.A.LineHandler.state c.end_line.new.handler) (g.R.Read.remaining c.args.reader.now) (g.R.Read.remaining c.read_front.new.reader) contents (g.W.Write.contents w) c.send-then-count-eq0.result)
    _ _ _ c.send-then-count-eq0.new.buffer.writer.now (sym (c.send-then-count-eq0.ensures.places.0 ∙ c.end_line.ensures.places.0 ∙ c.send.ensures.places.0 ∙ loop.place)) (search rules)
    (LinesServed-last step state contents c.args.most _ _ loop.seen read end (omega (arith, loop.count)) (loop.seen ++ 10 ∷ []) next (g.W.Write.contents c.send-then-count-eq0.new.buffer.writer.now) c.send-then-count-eq0.new.buffer.held.now.items c.send-then-count-eq0.result (lines_of-ended loop.seen mid.kept fed.kept some) (PushesBytes-trans step (start_of state contents) mid next loop.seen (10 ∷ []) fed (PushesBytes-line step mid next [] loop.ready.begun refl answered.ok answered.number answered.kept)) c.send-then-count-eq0.ensures.ok c.send-then-count-eq0.ensures.fault)

pub push_bytes-requires-clause-number : goal.push_bytes-requires-clause-number
push_bytes-requires-clause-number g c =
    let step = g.A.LineHandler.step in
    let state = g.A.LineHandler.state c.args.handler.now in
    let contents = g.W.Write.contents c.args.writer.now in
    let loop = c.reading.invariant in
    let here = point_of (g.A.LineHandler.state c.reading.handler) c.reading.line_reader g.W.Write.contents c.reading.buffer in
    let fit = length-take-le c.in_ok-count.count c.read_front.new.chunk c.in_ok-count.ensures.within in
    omega (arith, c.requires.most, loop.count, fit, c.in_ok-count.ensures.few, number-PushesBytes step (start_of state contents) here loop.seen loop.fed refl)

pub returns-in_err-push_bytes-clause-served : goal.returns-in_err-push_bytes-clause-served
returns-in_err-push_bytes-clause-served g c =
    let p = err_from_is_err_and c.from_residual-in_err-push_bytes.result c.from_residual-in_err-push_bytes.ensures.1 in
    let step = g.A.LineHandler.step in
    let state = g.A.LineHandler.state c.args.handler.now in
    let contents = g.W.Write.contents c.args.writer.now in
    let loop = c.reading.invariant in
    let here = point_of (g.A.LineHandler.state c.reading.handler) c.reading.line_reader g.W.Write.contents c.reading.buffer in
    let sent = g.W.Write.contents c.send.new.buffer.writer.now in
    let held = c.send.new.buffer.held.now.items in
    let fed = PushesBytes-sent step (start_of state contents) here sent held loop.seen loop.fed c.in_ok-send.ensures.ok in
    let mid = record here { contents = sent; held = held } in
    let next = point_of (g.A.LineHandler.state c.push_bytes.new.handler) c.push_bytes.new.self g.W.Write.contents c.push_bytes.new.buffer in
    let bytes = take c.in_ok-count.count c.read_front.new.chunk in
    let fit = length-take-le c.in_ok-count.count c.read_front.new.chunk c.in_ok-count.ensures.within in
    let fails = c.in_err-push_bytes.ensures.fault in
    rw (p.1, p.2, fails.0)
    (in_place (λ w. LinesServedWithin step {T = Unit {0}} c.args.most state (g.A.LineHandler.state c.push_bytes.new.handler) (g.R.Read.remaining c.args.reader.now) (g.R.Read.remaining c.read_front.new.reader) contents (g.W.Write.contents w) (Err WriteFault))
    _ _ _ c.push_bytes.new.buffer.writer.now (sym (c.push_bytes.ensures.places.0 ∙ c.send.ensures.places.0 ∙ loop.place)) (search rules)
    (LinesServed-unsent step state contents c.args.most _ _ (loop.seen ++ bytes) (Consumes-trans _ _ _ loop.seen bytes loop.read c.in_ok-count.ensures.read) next (omega (arith, loop.count, length-append loop.seen bytes, fit, c.in_ok-count.ensures.few)) (PushesBytesFront-after step (start_of state contents) mid next loop.seen bytes fed fails.1)))

pub reading-preserved : goal.reading-preserved
reading-preserved g c =
    let step = g.A.LineHandler.step in
    let state = g.A.LineHandler.state c.args.handler.now in
    let contents = g.W.Write.contents c.args.writer.now in
    let loop = c.reading.invariant in
    let here = point_of (g.A.LineHandler.state c.reading.handler) c.reading.line_reader g.W.Write.contents c.reading.buffer in
    let sent = g.W.Write.contents c.send.new.buffer.writer.now in
    let held = c.send.new.buffer.held.now.items in
    let fed = PushesBytes-sent step (start_of state contents) here sent held loop.seen loop.fed c.in_ok-send.ensures.ok in
    let mid = record here { contents = sent; held = held } in
    let next = point_of (g.A.LineHandler.state c.push_bytes.new.handler) c.push_bytes.new.self g.W.Write.contents c.push_bytes.new.buffer in
    let bytes = take c.in_ok-count.count c.read_front.new.chunk in
    let fit = length-take-le c.in_ok-count.count c.read_front.new.chunk c.in_ok-count.ensures.within in
    record {
      seen = loop.seen ++ bytes;
      read = Consumes-trans _ _ _ loop.seen bytes loop.read c.in_ok-count.ensures.read;
      count = omega (arith, loop.count, length-append loop.seen bytes, fit, c.in_ok-count.ensures.few);
      fed = PushesBytes-trans step (start_of state contents) mid next loop.seen bytes fed c.in_ok-push_bytes.ensures.ok;
      ready = c.in_ok-push_bytes.ensures.ready;
      place = c.push_bytes.ensures.places.0 ∙ c.send.ensures.places.0 ∙ loop.place;
    }

pub returns-then-left-eq0-clause-served : goal.returns-then-left-eq0-clause-served
returns-then-left-eq0-clause-served g c =
    let step = g.A.LineHandler.step in
    let state = g.A.LineHandler.state c.args.handler.now in
    let contents = g.W.Write.contents c.args.writer.now in
    let loop = c.reading.invariant in
    let here = point_of (g.A.LineHandler.state c.reading.handler) c.reading.line_reader g.W.Write.contents c.reading.buffer in
    let sent = g.W.Write.contents c.send.new.buffer.writer.now in
    let held = c.send.new.buffer.held.now.items in
    let fed = PushesBytes-sent step (start_of state contents) here sent held loop.seen loop.fed c.in_ok-send.ensures.ok in
    let mid = record here { contents = sent; held = held } in
    in_place (λ w. LinesServedWithin step {T = Unit {0}} c.args.most state (g.A.LineHandler.state c.reading.handler) (g.R.Read.remaining c.args.reader.now) (g.R.Read.remaining c.reading.reader) contents (g.W.Write.contents w) (Err TooLong))
    _ _ _ c.send.new.buffer.writer.now (sym (c.send.ensures.places.0 ∙ loop.place)) (search rules)
    (LinesServed-too_long step state contents c.args.most _ _ loop.seen loop.read mid (omega (arith, loop.count, c.if-left-eq0.true)) fed c.in_ok-send.ensures.ok.0)
