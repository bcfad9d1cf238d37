-- From the bytes that were read to the lines that were served.
use Rattle.std.proofs.Common.{◌≡◌, ◌==◌, ◌+◌, ◌≤◌, ℕ, false, true, List, [], ◌∷◌, ◌++◌, length, take, Option, Result, Ok, Err, OnOk, IfErr, refl, sym, ap, subst, ◌∙◌, inl, inr, arith, append-nil}
use Rattle.std.specs.Io.KnownBytes.{Appends, Consumes, IsAtEnd}
use Rattle.lv_lines.specs.declared.fault.Fault.{Fault}
use Rattle.lv_lines.specs.declared.fault.Fault.TheVariants.{ReadFault, TooLong, WriteFault}
use Rattle.lv_lines.specs.Input.{lines_of, whole_lines_of, unended_of}
use Rattle.lv_lines.specs.Output.{WritesFront}
use Rattle.lv_lines.specs.Replies.{AnswersAll, AnswersFront, LinesServedWithin}
use Rattle.lv_lines.specs.LineReader.{Point, PushesBytes, PushesBytesFront, start_of}
use Rattle.lv_lines.proofs.InputLemmas.{last_line-kept, last_line-none, lines_of-parts, whole_lines_of-push_end}
use Rattle.lv_lines.proofs.LineReaderLemmas.{PushesBytes-sent, PushesBytesFront-sent}
use Rattle.lv_lines.proofs.OutputLemmas.{Writes-all, Writes-nil}

-- if what is kept of the last line isn't empty, one more LF ends the last of all lines
pub lines_of-ended : (seen kept : List ℕ) → kept ≡ take 121 (unended_of seen) → (length kept == 0) ≡ false → whole_lines_of (seen ++ 10 ∷ []) ≡ lines_of seen
lines_of-ended seen kept is some =
    whole_lines_of-push_end seen ∙ sym (lines_of-parts seen ∙ ap (λ (lines : List (List ℕ)). whole_lines_of seen ++ lines) (last_line-kept 121 (unended_of seen) kept is some))

-- if it is, all lines are whole
pub lines_of-whole : (seen kept : List ℕ) → kept ≡ take 121 (unended_of seen) → (length kept == 0) ≡ true → whole_lines_of seen ≡ lines_of seen
lines_of-whole seen kept is none =
    sym (lines_of-parts seen ∙ ap (λ (lines : List (List ℕ)). whole_lines_of seen ++ lines) (last_line-none 121 (unended_of seen) kept (omega arith) is none) ∙ append-nil (whole_lines_of seen))

-- if a writer is still in its owner's place, the owner has it
pub in_place : {W : Type 0} (P : W → Type 0) (name place : ℕ) (owned last : W) → name ≡ place → (name ≡ place → owned ≡ last) → P last → P owned
in_place P name place owned last same is served = subst P (sym (is same)) served

module _ {S : Type 0} (step : S → ℕ → List ℕ → List ℕ → S → Type 0) (state : S) (contents : Option (List ℕ)) where
  -- nothing was read
  pub PushesBytes-start : (point : Point S) → point.state ≡ state → point.number ≡ 1 → point.kept ≡ [] → point.contents ≡ contents → point.held ≡ [] → PushesBytes step (start_of state contents) point []
  PushesBytes-start point same number kept wrote held = record {
    text = [];
    answered = (refl, same);
    written = rw (wrote, held) (Writes-nil contents []);
    kept = kept;
    number = number;
  }

  -- the whole lines of what was read were answered
  AnswersAll-whole : (new : Point S) (seen : List ℕ) → PushesBytes step (start_of state contents) new seen → new.held ≡ []
      → AnswersAll step state (whole_lines_of seen) new.state contents new.contents
  AnswersAll-whole new seen f none = record { text = f.text; answered = f.answered; written = Writes-all contents new.contents f.text (rw none at f.written) }

  -- or a prefix of them
  AnswersFront-whole : (new : Point S) (seen : List ℕ) → PushesBytesFront step (start_of state contents) new seen
      → AnswersFront step state (whole_lines_of seen) new.state contents new.contents
  AnswersFront-whole new seen f = record { front = f.front; rest = f.rest; all = f.all; text = f.text; answered = f.answered; written = f.written }

  module _ (most : ℕ) (remaining_old remaining_new : Option (List ℕ)) (seen : List ℕ) (read : Consumes remaining_old remaining_new seen) where
    -- a write failed while there was more to read
    pub LinesServed-unsent : {T : Type 0} (new : Point S) → length seen ≤ most + 1 → PushesBytesFront step (start_of state contents) new seen
        → LinesServedWithin step {T = T} most state new.state remaining_old remaining_new contents new.contents (Err WriteFault)
    LinesServed-unsent new few fed = record { seen = seen; read = read; few = few; ends = inl (AnswersFront-whole new seen fed) }

    -- a read failed
    pub LinesServed-unread : {T : Type 0} (new : Point S) → length seen ≤ most → PushesBytes step (start_of state contents) new seen → new.held ≡ []
        → LinesServedWithin step {T = T} most state new.state remaining_old remaining_new contents new.contents (Err ReadFault)
    LinesServed-unread new few fed none = record { seen = seen; read = read; few = omega (arith, few); ends = (few, AnswersAll-whole new seen fed none) }

    -- there was more than is read
    pub LinesServed-too_long : {T : Type 0} (new : Point S) → length seen ≡ most + 1 → PushesBytes step (start_of state contents) new seen → new.held ≡ []
        → LinesServedWithin step {T = T} most state new.state remaining_old remaining_new contents new.contents (Err TooLong)
    LinesServed-too_long new all fed none = record { seen = seen; read = read; few = omega (arith, all); ends = (all, AnswersAll-whole new seen fed none) }

    module _ (end : IsAtEnd remaining_new) (few : length seen ≤ most) where
      -- a write failed at the last line
      pub LinesServed-unended : {T : Type 0} (lines : List ℕ) (new : Point S) → whole_lines_of lines ≡ lines_of seen → PushesBytesFront step (start_of state contents) new lines
          → LinesServedWithin step {T = T} most state new.state remaining_old remaining_new contents new.contents (Err WriteFault)
      LinesServed-unended lines new all fed = record { seen = seen; read = read; few = omega (arith, few); ends = inr (end, few, rw (← all) (AnswersFront-whole new lines fed)) }

      -- all lines were answered, and the last replies sent, or not
      pub LinesServed-last : {T : Type 0} (lines : List ℕ) (new : Point S) (sent : Option (List ℕ)) (held : List ℕ) (result : Result T Fault)
          → whole_lines_of lines ≡ lines_of seen → PushesBytes step (start_of state contents) new lines
          → OnOk result ((held ≡ []) × Appends new.contents sent new.held)
          → IfErr result (λ fault. (fault ≡ WriteFault) × WritesFront new.contents new.held sent [])
          → LinesServedWithin step {T = T} most state new.state remaining_old remaining_new contents sent result
      LinesServed-last lines new sent held (Ok x) all fed ok fault = record {
        seen = seen;
        read = read;
        few = omega (arith, few);
        ends = (end, few, rw (← all) (AnswersAll-whole record new { contents = sent; held = held } lines (PushesBytes-sent step (start_of state contents) new sent held lines fed ok) ok.0));
      }
      LinesServed-last lines new sent held (Err e) all fed ok fault =
          rw fault.0 (LinesServed-unended lines record new { contents = sent; held = held } all (PushesBytesFront-sent step (start_of state contents) new sent held lines fed fault.1))
