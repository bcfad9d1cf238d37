-- The bytes that an audit counts are those of the lines that it took, but for the last line of a transcript.
use Rattle.std.proofs.Common.{◌≡◌, ◌≢◌, ◌⊎◌, ℕ, ◌+◌, ◌^◌, ◌<◌, ◌≤◌, false, List, [], ◌∷◌, ◌++◌, length, take, map, Option, sym, ap, ◌∙◌, subst, inl, inr, arith, append_assoc}
use Rattle.std.proofs.lemmas.Grind.{flat_map-append}
use Rattle.std.proofs.lemmas.List.{length-append, take-append-le, take_all}
use Rattle.lv_lines.specs.Input.{unended_of, whole_lines_of}
use Rattle.lv_lines.specs.Replies.{Answered}
use Rattle.lv_transcript.specs.declared.auditor.Stage.{Stage}
use Rattle.lv_transcript.specs.declared.auditor.Stage.TheVariants.{End}
use Rattle.lv_transcript.specs.declared.log_heading.LogHeading.{LogHeading}
use Rattle.lv_transcript.specs.Auditing.{AuditState, CountedState, CountedStep, CountsBytes, MayEnd, Takes, is_stopped}
use Rattle.lv_transcript.specs.Audits.{IsWholeUpTo}
use Rattle.lv_transcript.specs.Fronts.{Entry, entry_line}
use Rattle.lv_transcript.specs.Transcribing.{front_bytes_of}
use Rattle.lv_transcript.specs.Transcript.{ended, heading_line}
use Rattle.lv_transcript.proofs.AuditRuns.{all_taken, taken_first}
use Rattle.lv_transcript.proofs.TakenEntries.{none_behind_end}
use Rattle.lv_transcript.proofs.TranscriptBytes.{whole_parts}

-- a line that is taken is followed by others, or is the last
goes_on_or_ends : (old new : AuditState) (line : List ℕ) → Takes old line new → MayEnd new.stage ⊎ (new.stage ≡ End)
goes_on_or_ends old new line taken =
    elim taken.1 [
      | inl t ↦ inl (inl (ap (λ (s : AuditState). s.stage) t.next))
      | inr (inl t) ↦ inl (inl (ap (λ (s : AuditState). s.stage) t.next))
      | inr (inr (inl t)) ↦ inl (inr (ap (λ (s : AuditState). s.stage) t.next))
      | inr (inr (inr t)) ↦ inr (ap (λ (s : AuditState). s.stage) t.next)
    ]

-- if others may follow, its bytes and its LF are counted
counted_line : (stage : Stage) (old new : ℕ) (line : List ℕ) → MayEnd stage → CountsBytes stage old line new → old + length line + 1 < 2 ^ 64 → new ≡ old + length line + 1
counted_line stage old new line (inl at) counts = subst (λ (s : Stage). CountsBytes s old line new) at counts
counted_line stage old new line (inr at) counts = subst (λ (s : Stage). CountsBytes s old line new) at counts

-- those of the last line are not
uncounted_line : (stage : Stage) (old new : ℕ) (line : List ℕ) → stage ≡ End → CountsBytes stage old line new → new ≡ old
uncounted_line stage old new line at counts = subst (λ (s : Stage). CountsBytes s old line new) at counts

-- lines end a text: none do after others, or the last does
abbrev pub EndsText : List (List ℕ) → Stage → Type 0
EndsText [] stage = stage ≢ End
EndsText (line ∷ []) stage = stage ≡ End
EndsText (line ∷ other ∷ lines) stage = ⊥

-- they are not counted
uncounted : (old : CountedState) (n : ℕ) (tail : List (List ℕ)) (text : List ℕ) (new : CountedState) → Answered CountedStep old n tail text new → EndsText tail new.audit.stage → new.whole ≡ old.whole
unfolding CountedStep
uncounted old n [] text new a ends = ap (λ (s : CountedState). s.whole) a.1
uncounted old n (line ∷ []) text new a ends =
    let same : new ≡ a.2 = a.4.1 in
    let at : a.2.audit.stage ≡ End = sym (ap (λ (s : CountedState). s.audit.stage) same) ∙ ends in
    ap (λ (s : CountedState). s.whole) same ∙ uncounted_line a.2.audit.stage old.whole a.2.whole line at a.3.3
uncounted old n (line ∷ other ∷ lines) text new a ends = absurd ends

pub counted_none : (old : CountedState) (n : ℕ) (lines : List (List ℕ)) (text : List ℕ) (new : CountedState) → Answered CountedStep old n lines text new → lines ≡ [] → new.whole ≡ old.whole
counted_none old n [] text new a none = ap (λ (s : CountedState). s.whole) a.1
counted_none old n (line ∷ lines) text new a none = absurd (cc none)

-- what was counted of one line
counted_step : (old mid : CountedState) (n : ℕ) (line text : List ℕ) → CountedStep old n line text mid → MayEnd mid.audit.stage → old.whole + length line + 1 < 2 ^ 64 → mid.whole ≡ old.whole + length line + 1
unfolding CountedStep
counted_step old mid n line text step at few = counted_line mid.audit.stage old.whole mid.whole line at step.3 few

-- after the last line no text ends
not_ended_yet : (front tail : List (List ℕ)) (new : AuditState) → new.stage ≡ End → front ++ tail ≡ [] → EndsText tail new.stage → ⊥
not_ended_yet [] [] new at none ends = ends at
not_ended_yet [] (line ∷ lines) new at none ends = absurd (cc none)
not_ended_yet (line ∷ front) tail new at none ends = absurd (cc none)

-- what was counted of lines, before those that end the text
counted_bytes : (old : CountedState) (n : ℕ) (front tail : List (List ℕ)) (text : List ℕ) (new : CountedState) → Answered CountedStep old n (front ++ tail) text new → is_stopped new.audit.stage ≡ false → EndsText tail new.audit.stage
    → old.whole + length (ended front) < 2 ^ 64 → new.whole ≡ old.whole + length (ended front)
counted_bytes old n [] tail text new a going ends few = omega (arith, uncounted old n tail text new a ends)
counted_bytes old n (line ∷ front) tail text new a going ends few =
    let mid = a.2 in
    let all : length (ended (line ∷ front)) ≡ length line + 1 + length (ended front) =
    omega (arith, length-append (line ++ 10 ∷ []) (ended front), length-append line (10 ∷ [])) in
    elim (goes_on_or_ends old.audit mid.audit line (taken_first old n line (front ++ tail) text new a going)) [
      | inl at ↦
          let one : mid.whole ≡ old.whole + length line + 1 = counted_step old mid n line a.0 a.3 at (omega (arith, few, all)) in
          let rest = counted_bytes mid (n + 1) front tail a.1 new a.4 going ends (omega (arith, few, all, one)) in
          omega (arith, rest, one, all)
      | inr at ↦
          let last = none_behind_end mid.audit new.audit (front ++ tail) at (all_taken mid (n + 1) (front ++ tail) a.1 new a.4 going) in
          absurd (not_ended_yet front tail new.audit (ap (λ (s : AuditState). s.stage) last.1 ∙ at) last.0 ends)
    ]

-- the first bytes of bytes that begin with some
take_begin : (xs ys : List ℕ) → take (length xs) (xs ++ ys) ≡ xs
take_begin xs ys = take-append-le (length xs) xs ys (omega arith) ∙ take_all (length xs) xs (omega arith)

-- so many bytes are the first line and those of entries
pub whole_up_to : (heading : Option LogHeading) (seen : List ℕ) (entries : List Entry) (tail : List (List ℕ)) (whole : ℕ) → whole_lines_of seen ≡ (heading_line heading ∷ map entry_line entries) ++ tail
    → whole ≡ length (front_bytes_of heading entries) → 0 < whole → IsWholeUpTo heading seen entries whole
whole_up_to heading seen entries tail whole are is some =
    let text = front_bytes_of heading entries in
    let rest = ended tail ++ unended_of seen in
    let all : seen ≡ text ++ rest =
    whole_parts seen ∙ ap (λ (ls : List (List ℕ)). ended ls ++ unended_of seen) are
    ∙ ap (λ (bs : List ℕ). bs ++ unended_of seen) (flat_map-append (λ (line : List ℕ). line ++ 10 ∷ []) (heading_line heading ∷ map entry_line entries) tail)
    ∙ append_assoc text (ended tail) (unended_of seen) in
    inr (
      some,
      omega (arith, is, ap length all, length-append text rest),
      ap (λ (n : ℕ). take n seen) is ∙ ap (take (length text)) all ∙ take_begin text rest,
    )

-- so many are counted if all lines were taken
pub counted_whole : (old : CountedState) (heading : Option LogHeading) (seen text : List ℕ) (entries : List Entry) (tail : List (List ℕ)) (new : CountedState) → old.whole ≡ 0
    → whole_lines_of seen ≡ (heading_line heading ∷ map entry_line entries) ++ tail → Answered CountedStep old 1 (whole_lines_of seen) text new → is_stopped new.audit.stage ≡ false
    → EndsText tail new.audit.stage → length seen < 2 ^ 64 → IsWholeUpTo heading seen entries new.whole
counted_whole old heading seen text entries tail new none are a going ends few =
    let front = heading_line heading ∷ map entry_line entries in
    let bytes = front_bytes_of heading entries in
    let long : length (ended (whole_lines_of seen)) ≡ length bytes + length (ended tail) =
    ap (λ (ls : List (List ℕ)). length (ended ls)) are ∙ ap length (flat_map-append (λ (line : List ℕ). line ++ 10 ∷ []) front tail) ∙ length-append bytes (ended tail) in
    let within : length bytes ≤ length seen = omega (arith, long, ap length (whole_parts seen), length-append (ended (whole_lines_of seen)) (unended_of seen)) in
    let count : new.whole ≡ old.whole + length bytes =
    counted_bytes old 1 front tail text new (subst (λ (ls : List (List ℕ)). Answered CountedStep old 1 ls text new) are a) going ends (omega (arith, none, within, few)) in
    let some : 0 < length bytes = omega (arith, length-append (heading_line heading ++ 10 ∷ []) (ended (map entry_line entries)), length-append (heading_line heading) (10 ∷ [])) in
    whole_up_to heading seen entries tail new.whole are (omega (arith, count, none)) (omega (arith, count, some))
