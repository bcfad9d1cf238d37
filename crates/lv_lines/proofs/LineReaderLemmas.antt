-- Bytes that are fed one piece after another.
use Rattle.std.proofs.Common.{◌≡◌, ℕ, ◌+◌, ◌≤◌, false, List, [], ◌∷◌, ◌++◌, length, take, map, Option, refl, sym, ap, ◌∙◌, inl, inr, arith, append_assoc, append-nil}
use Rattle.std.specs.Io.KnownBytes.{Appends}
use Rattle.std.proofs.lemmas.List.{map-append, length-append, length-map, take-take, take_all}
use Rattle.lv_lines.specs.Input.{whole_lines_of, has_end, unended_of}
use Rattle.lv_lines.specs.Output.{Writes, WritesFront}
use Rattle.lv_lines.specs.Replies.{Replies, FailsToReply}
use Rattle.lv_lines.specs.LineReader.{Point, PushesBytes, PushesBytesFront}
use Rattle.lv_lines.proofs.InputLemmas.{whole_lines_of-append, unended_of-append, whole_lines_of-begun, unended_of-begun, whole_lines_of-ended, unended_of-ended, whole_lines_of-front, unended_of-front, has_end-unended_of, has_end-take, has_end-append_none, length-whole_lines_of-begun}
use Rattle.lv_lines.proofs.OutputLemmas.{Writes-nil, Writes-trans, Writes-sent, WritesFront-after}
use Rattle.lv_lines.proofs.ReplyLemmas.{Answered-one, Answered-append}

-- ---- lines whose first n bytes are kept

-- the first bytes of the first bytes
take_twice : (n : ℕ) (xs : List ℕ) → take n (take n xs) ≡ take n xs
take_twice n xs = take-take n n xs (omega arith)

-- the first bytes after the last LF have no LF either
kept_is_begun : (n : ℕ) (xs : List ℕ) → has_end (take n (unended_of xs)) ≡ false
kept_is_begun n xs = has_end-take n (unended_of xs) (has_end-unended_of xs)

-- the first bytes of the lines of xs and ys are those of the lines of xs, and those of ys after what was kept
lines_after : (n : ℕ) (xs ys : List ℕ)
    → map (take n) (whole_lines_of (xs ++ ys)) ≡ map (take n) (whole_lines_of xs) ++ map (take n) (whole_lines_of (take n (unended_of xs) ++ ys))
lines_after n xs ys =
    rw (whole_lines_of-append xs ys, map-append (take n) (whole_lines_of xs) (whole_lines_of (unended_of xs ++ ys)))
    (ap (λ (lines : List (List ℕ)). map (take n) (whole_lines_of xs) ++ lines)
    (whole_lines_of-front n (unended_of xs) (take n (unended_of xs)) ys (has_end-unended_of xs) (kept_is_begun n xs) (sym (take_twice n (unended_of xs)))))

-- the bytes that are kept depend only on those that were kept before
kept_after : (n : ℕ) (xs ys : List ℕ) → take n (unended_of (xs ++ ys)) ≡ take n (unended_of (take n (unended_of xs) ++ ys))
kept_after n xs ys =
    rw (unended_of-append xs ys)
    (unended_of-front n (unended_of xs) (take n (unended_of xs)) ys (has_end-unended_of xs) (kept_is_begun n xs) (sym (take_twice n (unended_of xs))))

-- and their number
count_after : (n : ℕ) (xs ys : List ℕ)
    → length (whole_lines_of (xs ++ ys)) ≡ length (whole_lines_of xs) + length (whole_lines_of (take n (unended_of xs) ++ ys))
count_after n xs ys = simp (length-map, length-append) at (ap length (lines_after n xs ys))

-- ---- one piece

-- bytes that end one line: the first bytes of it
line_ended : (n : ℕ) (xs ys : List ℕ) → has_end xs ≡ false → has_end ys ≡ false → map (take n) (whole_lines_of (xs ++ (ys ++ 10 ∷ []))) ≡ take n (xs ++ ys) ∷ []
line_ended n xs ys begun none =
    rw (← append_assoc xs ys (10 ∷ []), whole_lines_of-ended (xs ++ ys) [] (has_end-append_none xs ys begun ∙ none)) refl

-- what they leave
rest_ended : (xs ys : List ℕ) → unended_of (xs ++ (ys ++ 10 ∷ [])) ≡ []
rest_ended xs ys = rw (← append_assoc xs ys (10 ∷ [])) (unended_of-ended (xs ++ ys) [])

-- and that they are one
count_ended : (xs ys : List ℕ) → has_end xs ≡ false → has_end ys ≡ false → length (whole_lines_of (xs ++ (ys ++ 10 ∷ []))) ≡ 1
count_ended xs ys begun none =
    rw (← append_assoc xs ys (10 ∷ []), whole_lines_of-ended (xs ++ ys) [] (has_end-append_none xs ys begun ∙ none)) refl

module _ {S : Type 0} (step : S → ℕ → List ℕ → List ℕ → S → Type 0) where
  -- no bytes, after the beginning of a line
  pub PushesBytes-nil : (point : Point S) → has_end point.kept ≡ false → length point.kept ≤ 121 → PushesBytes step point point []
  PushesBytes-nil point begun short = record {
    text = [];
    answered = rw (append-nil point.kept, whole_lines_of-begun point.kept begun) (refl, refl);
    written = Writes-nil point.contents point.held;
    kept = rw (append-nil point.kept, unended_of-begun point.kept begun) (sym (take_all 121 point.kept short));
    number = rw (append-nil point.kept, whole_lines_of-begun point.kept begun) (omega arith);
  }

  -- bytes that end no line
  pub PushesBytes-piece : (old : Point S) (kept piece : List ℕ) → has_end old.kept ≡ false → has_end piece ≡ false
      → kept ≡ take 121 (old.kept ++ piece) → PushesBytes step old record old { kept = kept } piece
  PushesBytes-piece old kept piece begun none is =
      let open_line : has_end (old.kept ++ piece) ≡ false = has_end-append_none old.kept piece begun ∙ none in
      let no_lines = whole_lines_of-begun (old.kept ++ piece) open_line in
      record {
        text = [];
        answered = rw no_lines (refl, refl);
        written = Writes-nil old.contents old.held;
        kept = rw (unended_of-begun (old.kept ++ piece) open_line) is;
        number = rw no_lines (omega arith);
      }

  -- bytes that end one line, which is answered
  pub PushesBytes-line : (old new : Point S) (piece : List ℕ) → has_end old.kept ≡ false → has_end piece ≡ false
      → Replies step old.state old.number (take 121 (old.kept ++ piece)) new.state (Writes old.contents old.held new.contents new.held)
      → new.number ≡ old.number + 1 → new.kept ≡ [] → PushesBytes step old new (piece ++ 10 ∷ [])
  PushesBytes-line old new piece begun none replies number kept = record {
    text = replies.reply;
    answered = rw (line_ended 121 old.kept piece begun none) (Answered-one step _ _ _ _ _ replies.answered);
    written = replies.written;
    kept = rw (rest_ended old.kept piece) kept;
    number = rw (count_ended old.kept piece begun none) number;
  }

  -- or not
  pub PushesBytesFront-line : (old new : Point S) (piece : List ℕ) → has_end old.kept ≡ false → has_end piece ≡ false
      → FailsToReply step old.state old.number (take 121 (old.kept ++ piece)) new.state (WritesFront old.contents old.held new.contents)
      → PushesBytesFront step old new (piece ++ 10 ∷ [])
  PushesBytesFront-line old new piece begun none fails =
      let line = take 121 (old.kept ++ piece) in
      elim fails [
        | inl (same, before) ↦ record {
          front = [];
          rest = line ∷ [];
          all = line_ended 121 old.kept piece begun none;
          text = [];
          answered = (refl, same);
          written = before;
        }
        | inr part ↦ record {
          front = line ∷ [];
          rest = [];
          all = line_ended 121 old.kept piece begun none;
          text = part.reply;
          answered = Answered-one step _ _ _ _ _ part.answered;
          written = part.written;
        }
      ]

  -- ---- one piece after another

  -- some bytes, and then others
  pub PushesBytes-trans : (a b c : Point S) (xs ys : List ℕ) → PushesBytes step a b xs → PushesBytes step b c ys → PushesBytes step a c (xs ++ ys)
  PushesBytes-trans a b c xs ys f g =
      let first = map (take 121) (whole_lines_of (a.kept ++ xs)) in
      let same : b.number ≡ a.number + length first = f.number ∙ ap (λ n. a.number + n) (sym (length-map (whole_lines_of (a.kept ++ xs)) (take 121))) in
      record {
        text = f.text ++ g.text;
        answered =
            rw (← append_assoc a.kept xs ys, lines_after 121 (a.kept ++ xs) ys)
            (Answered-append step a.state a.number first _ f.text g.text b.state c.state f.answered (rw (f.kept, same) at g.answered));
        written = Writes-trans f.written g.written;
        kept = rw (← append_assoc a.kept xs ys, kept_after 121 (a.kept ++ xs) ys) (rw f.kept at g.kept);
        number = rw (← append_assoc a.kept xs ys, count_after 121 (a.kept ++ xs) ys) (omega (arith, f.number, rw f.kept at g.number));
      }

  -- some bytes, and a prefix of the lines of others
  pub PushesBytesFront-after : (a b c : Point S) (xs ys : List ℕ) → PushesBytes step a b xs → PushesBytesFront step b c ys → PushesBytesFront step a c (xs ++ ys)
  PushesBytesFront-after a b c xs ys f g =
      let first = map (take 121) (whole_lines_of (a.kept ++ xs)) in
      let same : b.number ≡ a.number + length first = f.number ∙ ap (λ n. a.number + n) (sym (length-map (whole_lines_of (a.kept ++ xs)) (take 121))) in
      record {
        front = first ++ g.front;
        rest = g.rest;
        all =
            rw (← append_assoc a.kept xs ys, lines_after 121 (a.kept ++ xs) ys)
            (ap (λ (lines : List (List ℕ)). first ++ lines) (rw f.kept at g.all) ∙ sym (append_assoc first g.front g.rest));
        text = f.text ++ g.text;
        answered = Answered-append step a.state a.number first g.front f.text g.text b.state c.state f.answered (rw same at g.answered);
        written = WritesFront-after f.written g.written;
      }

  -- a prefix of the lines of some bytes is a prefix of the lines of more bytes
  pub PushesBytesFront-more : (a b : Point S) (xs more : List ℕ) → PushesBytesFront step a b xs → PushesBytesFront step a b (xs ++ more)
  PushesBytesFront-more a b xs more f =
      let later = map (take 121) (whole_lines_of (take 121 (unended_of (a.kept ++ xs)) ++ more)) in
      record {
        front = f.front;
        rest = f.rest ++ later;
        all =
            rw (← append_assoc a.kept xs more, lines_after 121 (a.kept ++ xs) more)
            (ap (λ (lines : List (List ℕ)). lines ++ later) f.all ∙ append_assoc f.front f.rest later);
        text = f.text;
        answered = f.answered;
        written = f.written;
      }

  -- ---- what is held is sent

  -- all of it
  pub PushesBytes-sent : (a b : Point S) (contents : Option (List ℕ)) (held xs : List ℕ) → PushesBytes step a b xs → (held ≡ []) × Appends b.contents contents b.held
      → PushesBytes step a record b { contents = contents; held = held } xs
  PushesBytes-sent a b contents held xs f sent = record {
    text = f.text;
    answered = f.answered;
    written = rw (append-nil f.text) at (Writes-trans f.written (Writes-sent b.contents contents b.held held sent));
    kept = f.kept;
    number = f.number;
  }

  -- or a prefix
  pub PushesBytesFront-sent : (a b : Point S) (contents : Option (List ℕ)) (held xs : List ℕ) → PushesBytes step a b xs → WritesFront b.contents b.held contents []
      → PushesBytesFront step a record b { contents = contents; held = held } xs
  PushesBytesFront-sent a b contents held xs f sent = record {
    front = map (take 121) (whole_lines_of (a.kept ++ xs));
    rest = [];
    all = sym (append-nil _);
    text = f.text;
    answered = f.answered;
    written = rw (append-nil f.text) at (WritesFront-after f.written sent);
  }

  -- ---- how many lines

  -- no more lines were numbered than bytes were fed
  pub number-PushesBytes : (a b : Point S) (xs : List ℕ) → PushesBytes step a b xs → has_end a.kept ≡ false → b.number ≤ a.number + length xs
  number-PushesBytes a b xs f begun = omega (arith, f.number, length-whole_lines_of-begun a.kept xs begun)
