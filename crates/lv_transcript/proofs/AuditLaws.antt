-- An audit says yes to sound transcripts and to nothing else, and recognises the prefixes and nothing else, with their counts.
use Rattle.std.proofs.Common.{◌≡◌, ◌≢◌, ◌↔◌, ℕ, ◌+◌, ◌-◌, ◌^◌, ◌<◌, ◌≤◌, Bool, true, false, List, [], ◌∷◌, ◌++◌, length, take, map, All, Option, None, Result, Ok, Err, MatchResult, refl, sym, ap, ◌∙◌, subst, inl, inr, arith, append-nil, true≢false}
use Rattle.std.specs.Io.KnownBytes.{Appends, IsAtEnd}
use Rattle.std.proofs.KnownBytes.{Appends-nil}
use Rattle.std.proofs.lemmas.List.{length-append, length-map}
use Rattle.lv_edits.specs.declared.edit.Edit.{Edit}
use Rattle.lv_edits.specs.History.{History}
use Rattle.lv_lines.specs.declared.fault.Fault.{Fault}
use Rattle.lv_lines.specs.declared.fault.Fault.TheVariants as fault
use Rattle.lv_lines.specs.Input.{lines_of, whole_lines_of}
use Rattle.lv_lines.specs.Output.{Writes, WritesFront}
use Rattle.lv_lines.specs.Replies.{Answered, IsNotTooLong, LinesServed, LinesServedWithin, most_read}
use Rattle.lv_lines.proofs.OutputLemmas.{Writes-put, WritesFront-after}
use Rattle.lv_transcript.specs.declared.auditor.Stage.{Stage}
use Rattle.lv_transcript.specs.declared.auditor.Stage.TheVariants.{End, NoMemory}
use Rattle.lv_transcript.specs.declared.auditor.Stage.TheVariants as stages
use Rattle.lv_transcript.specs.declared.auditor.Verdict.{Verdict}
use Rattle.lv_transcript.specs.declared.auditor.Verdict.TheVariants.{Yes, Bad}
use Rattle.lv_transcript.specs.declared.fronts.FrontVerdict.{FrontVerdict}
use Rattle.lv_transcript.specs.declared.fronts.FrontVerdict.TheVariants as verdicts
use Rattle.lv_transcript.specs.declared.fronts.FoundFront.{FoundFront}
use Rattle.lv_transcript.specs.declared.log_heading.LogHeading.{LogHeading}
use Rattle.lv_transcript.specs.Transcript.{answer_line, edit_line, end_line, first_line, greatest, heading_line, transcript_lines, AreAccepted, IsSoundTranscript}
use Rattle.lv_transcript.specs.Auditing.{AuditState, CountedState, CountedStep, IsFoundAt, IsToldOf, IsVerdictAt, MayEnd, counted_at, counted_start, is_fault, is_stopped, start_state}
use Rattle.lv_transcript.specs.Fronts.{AreSound, AreTrueAfter, Entry, IsBadAt, IsFalseAt, IsToldBy, IsWholeFront, all_lines, answers_in, edits_in, elements_of, entry_line}
use Rattle.lv_transcript.specs.Audits.{AuditsInput, FrontFound, IsNoFront, IsRight, IsRightFound, IsRightOfFront, IsRightVerdict, IsRightWhole, IsWholeUpTo, NamesRight, ReadsFront, ReadsInput}
use Rattle.lv_transcript.specs.Seals.{bytes_in_file, text_of}
use Rattle.lv_lines.proofs.InputLemmas.{length-whole_lines_of}
use Rattle.lv_transcript.proofs.CountedBytes.{counted_none, counted_whole}
use Rattle.lv_transcript.proofs.AuditRuns.{IsFound, Runs, all_taken, counted, fault_found, runs_no_fault, runs_short, taken_or_none}
use Rattle.lv_transcript.proofs.FirstFaults.{bad_at, element_missing, false_at, missing_at, no_whole_front}
use Rattle.lv_transcript.proofs.TakenEntries.{AreTaken, accepted_in_place, all_before, all_lines_taken, all_true_of, entries_counted, front_lines_of, front_taken, in_place, lines_in_order, lines_of_ordered, may_end_after, no_heading, not_end, sound_entries, sound_in_place, stage_after, taken_from_start, told_by_taken}
use Rattle.lv_transcript.proofs.SoundTranscripts.{in_order_of_rise}
use Rattle.lv_transcript.proofs.TranscribedFronts.{whole_unended}
use Rattle.lv_transcript.proofs.TranscriptBytes.{AreEnded, IsUnended, bytes_of_lines, first_of_short, lines_of_text, lines_of_unended_text, short_of_first}

-- ---- whole transcripts

-- the lines of a sound transcript
lines_of_sound : (seen : List ℕ) (sound : IsSoundTranscript seen) → lines_of seen ≡ transcript_lines sound.edits sound.answers
lines_of_sound seen sound =
    let entries = map inl sound.edits ++ map inr sound.answers in
    let holds : AreSound false None entries = sound_entries sound.edits sound.answers sound.elements sound.accepted sound.order sound.all_true in
    let front = first_line ∷ (map edit_line sound.edits ++ map answer_line sound.answers) in
    let lines = transcript_lines sound.edits sound.answers in
    let whole : All IsUnended lines = subst (All IsUnended) (lines_in_order sound.edits sound.answers) (whole_unended None entries holds.all_true) in
    elim sound.text [
      | inl is ↦ ap lines_of is ∙ lines_of_text lines whole
      | inr is ↦ lines_of_unended_text seen front end_line refl whole is
    ]

-- the verdict of a stage is yes exactly at the end
yes_at_end : (stage : Stage) (lines : ℕ) (verdict : Verdict) → IsVerdictAt stage lines verdict → (stage ≢ NoMemory) × ((verdict ≡ Yes) ↔ (stage ≡ End))
yes_at_end End lines verdict told = (λ is. absurd (cc is), (λ _. refl, λ _. told))
yes_at_end (stages.No n) lines verdict told = (λ is. absurd (cc is), (λ yes. absurd (cc (told, yes)), λ is. absurd (cc is)))
yes_at_end (stages.Bad n) lines verdict told = (λ is. absurd (cc is), (λ yes. absurd (cc (told, yes)), λ is. absurd (cc is)))
yes_at_end stages.Start lines verdict told = (λ is. absurd (cc is), (λ yes. absurd (cc (told.1, yes)), λ is. absurd (cc is)))
yes_at_end stages.Edits lines verdict told = (λ is. absurd (cc is), (λ yes. absurd (cc (told.1, yes)), λ is. absurd (cc is)))
yes_at_end stages.AnswersFollow lines verdict told = (λ is. absurd (cc is), (λ yes. absurd (cc (told.1, yes)), λ is. absurd (cc is)))
yes_at_end NoMemory lines verdict told = absurd told

module _ (seen text : List ℕ) (new : CountedState) (a : Answered CountedStep (counted_start false) 1 (map (take 121) (lines_of seen)) text new) where
  -- what an audit saw, if it comes to the end, is a sound transcript
  sound_at_end : new.audit.stage ≡ End → IsSoundTranscript seen
  sound_at_end end =
      let lines = map (take 121) (lines_of seen) in
      let runs = all_taken (counted_start false) 1 lines text new a (ap is_stopped end) in
      let same : lines ≡ lines_of seen = short_of_first (lines_of seen) (runs_short (start_state false) new.audit lines runs) in
      let t = taken_from_start false new.audit (lines_of seen) (subst (λ (ls : List (List ℕ)). Runs (start_state false) ls new.audit) same runs) in
      let none : new.audit.heading ≡ None = no_heading new.audit.heading t.sound.begins in
      let sound : AreSound false None t.entries = subst (λ (h : Option LogHeading). AreSound false h t.entries) none t.sound in
      let all : lines_of seen ≡ all_lines None t.entries = all_before false new.audit (lines_of seen) t end ∙ ap (λ (h : Option LogHeading). all_lines h t.entries) none in
      let placed = in_place [] 0 t.entries sound.all_true in
      record {
        edits = edits_in t.entries;
        answers = answers_in t.entries;
        text = subst (λ (ls : List (List ℕ)). AreEnded seen ls) (all ∙ lines_of_ordered t.entries sound) (bytes_of_lines seen);
        elements = placed.elements;
        accepted = placed.accepted;
        order = in_order_of_rise 0 (answers_in t.entries) placed.rise;
        all_true = placed.all_true;
      }

  -- and an audit of a sound transcript comes to the end, unless there is no memory
  ends_on_sound : new.audit.stage ≢ NoMemory → IsSoundTranscript seen → new.audit.stage ≡ End
  ends_on_sound memory sound =
      let entries = map inl sound.edits ++ map inr sound.answers in
      let known = all_lines_taken false None entries (sound_entries sound.edits sound.answers sound.elements sound.accepted sound.order sound.all_true) in
      let there : lines_of seen ≡ all_lines None entries = lines_of_sound seen sound ∙ sym (lines_in_order sound.edits sound.answers) in
      let same : map (take 121) (lines_of seen) ≡ all_lines None entries =
      ap (map (take 121)) there ∙ first_of_short (all_lines None entries) (runs_short (start_state false) known.end (all_lines None entries) known.runs) in
      elim (taken_or_none (counted_start false) 1 (all_lines None entries) text new known.end (subst (λ (ls : List (List ℕ)). Answered CountedStep (counted_start false) 1 ls text new) same a) known.runs) [
        | inl at ↦ ap (λ (s : AuditState). s.stage) at ∙ known.at_end refl
        | inr none ↦ absurd (memory none)
      ]

  -- a fault of a whole transcript does not depend on a heading
  false_without_heading : (n : ℕ) → IsFalseAt false new.audit.heading (lines_of seen) n new.audit.journal → IsFalseAt false None (lines_of seen) n new.audit.journal
  false_without_heading n at = subst (λ (h : Option LogHeading). IsFalseAt false h (lines_of seen) n new.audit.journal) (no_heading new.audit.heading at.sound.begins) at

  bad_without_heading : (n : ℕ) → IsBadAt false new.audit.heading (lines_of seen) n new.audit.journal → IsBadAt false None (lines_of seen) n new.audit.journal
  bad_without_heading n at = subst (λ (h : Option LogHeading). IsBadAt false h (lines_of seen) n new.audit.journal) (no_heading new.audit.heading at.sound.begins) at

  -- the fault that an audit has come to
  found_at : (stage : Stage) → new.audit.stage ≡ stage → is_fault stage ≡ true → IsFound (start_state false) 1 (map (take 121) (lines_of seen)) new.audit
  found_at stage at fault = fault_found (counted_start false) 1 (map (take 121) (lines_of seen)) text new a refl (ap is_fault at ∙ fault)

  -- the line that is missing if it has come to no end
  missing : (stage : Stage) (verdict : Verdict) → new.audit.stage ≡ stage → is_stopped stage ≡ false → stage ≢ End → IsNotTooLong seen
      → (n : ℕ) × (verdict ≡ Bad n) × (new.lines + 1 < 2 ^ 32 → n ≡ new.lines + 1) → NamesRight seen verdict
  missing stage verdict at goes_on other few told =
      let runs = all_taken (counted_start false) 1 (map (take 121) (lines_of seen)) text new a (ap is_stopped at ∙ goes_on) in
      let count : new.lines + 1 ≡ 1 + length (map (take 121) (lines_of seen)) = counted (counted_start false) 1 (map (take 121) (lines_of seen)) text new a refl in
      subst (NamesRight seen) (sym told.1) (new.audit.journal, bad_without_heading told.0 (missing_at seen new.audit new.lines told.0 runs (λ end. other (sym at ∙ end)) few count told.2))

  -- the line that a verdict names is the first fault
  names_right : (stage : Stage) (verdict : Verdict) → new.audit.stage ≡ stage → IsNotTooLong seen → IsVerdictAt stage new.lines verdict → NamesRight seen verdict
  names_right End verdict at few told = subst (NamesRight seen) (sym told) tt
  names_right (stages.No n) verdict at few told = subst (NamesRight seen) (sym told) (new.audit.journal, false_without_heading n (false_at false (lines_of seen) n new.audit (found_at (stages.No n) at refl) at))
  names_right (stages.Bad n) verdict at few told = subst (NamesRight seen) (sym told) (new.audit.journal, bad_without_heading n (bad_at false (lines_of seen) n new.audit (found_at (stages.Bad n) at refl) at))
  names_right stages.Start verdict at few told = missing stages.Start verdict at refl (λ is. absurd (cc is)) few told
  names_right stages.Edits verdict at few told = missing stages.Edits verdict at refl (λ is. absurd (cc is)) few told
  names_right stages.AnswersFollow verdict at few told = missing stages.AnswersFollow verdict at refl (λ is. absurd (cc is)) few told
  names_right NoMemory verdict at few told = absurd told

  -- the verdict of the stage that an audit came to is right
  right_verdict : (verdict : Verdict) → IsNotTooLong seen → IsVerdictAt new.audit.stage new.lines verdict → IsRight seen verdict
  right_verdict verdict few told =
      let yes = yes_at_end new.audit.stage new.lines verdict told in
      ((λ is. sound_at_end (yes.1.0 is), λ sound. yes.1.1 (ends_on_sound yes.0 sound)), names_right new.audit.stage verdict refl few told)

-- ---- prefixes

-- a verdict says that a prefix has so many updates and answers, and these entries have as many
record IsTold (entries : List Entry) (verdict : FrontVerdict) : Type 0 where
  edits : ℕ
  answers : ℕ
  is : verdict ≡ verdicts.Front edits answers
  edits_are : edits ≡ length (edits_in entries)
  answers_are : answers ≡ length (answers_in entries)

-- the verdict at a stage that more lines may follow
counts_at : (stage : Stage) (elements n edits : ℕ) (verdict : FrontVerdict) → MayEnd stage → IsFoundAt stage elements n edits verdict → IsToldOf elements n edits (n - 1) verdict
counts_at stage elements n edits verdict (inl at) told = subst (λ (s : Stage). IsFoundAt s elements n edits verdict) at told
counts_at stage elements n edits verdict (inr at) told = subst (λ (s : Stage). IsFoundAt s elements n edits verdict) at told

-- if no line was taken, the verdict counts no entries
told_of_none : (new : AuditState) (n : ℕ) (verdict : FrontVerdict) → new.stage ≡ stages.Start → IsFoundAt new.stage (elements_of new.heading) n (length new.journal) verdict → IsTold [] verdict
told_of_none new n verdict at told = record {
  edits = 0;
  answers = 0;
  is = subst (λ (s : Stage). IsFoundAt s (elements_of new.heading) n (length new.journal) verdict) at told;
  edits_are = refl;
  answers_are = refl;
}

-- the verdict on lines that others may follow counts their updates and answers
told_of_some : (entries : List Entry) (lines : List (List ℕ)) (heading : Option LogHeading) (journal : List Edit) (n : ℕ) (verdict : FrontVerdict) → lines ≡ heading_line heading ∷ map entry_line entries → journal ≡ edits_in entries
    → n ≡ length lines → verdict ≡ verdicts.Front (length journal) (n - 1 - length journal) → IsTold entries verdict
told_of_some entries lines heading journal n verdict are journal_is count is =
    let all = ap length journal_is in
    let long : length lines ≡ 1 + length entries = omega (arith, ap length are, length-map entries entry_line) in
    record { edits = length journal; answers = n - 1 - length journal; is = is; edits_are = all; answers_are = omega (arith, count, long, all, entries_counted entries) }

-- and so they are after the last
told_of_all : (entries : List Entry) (lines : List (List ℕ)) (journal : List Edit) (n : ℕ) (verdict : FrontVerdict) → lines ≡ all_lines None entries → journal ≡ edits_in entries
    → n ≡ length lines → verdict ≡ verdicts.Front (length journal) (n - 2 - length journal) → IsTold entries verdict
told_of_all entries lines journal n verdict are journal_is count is =
    let all = ap length journal_is in
    let shown = map entry_line entries in
    let long : length lines ≡ 1 + length (shown ++ end_line ∷ []) = omega (arith, ap length are) in
    record {
      edits = length journal;
      answers = n - 2 - length journal;
      is = is;
      edits_are = all;
      answers_are = omega (arith, count, long, length-append shown (end_line ∷ []), length-map entries entry_line, all, entries_counted entries);
    }

-- a right verdict, and how many bytes the lines have
abbrev pub Finds : Option LogHeading → List ℕ → List Edit → ℕ → FrontVerdict → Type 0
Finds heading seen journal whole verdict = (r : IsRightOfFront heading seen journal verdict) × IsRightWhole heading seen journal whole verdict r

-- so the verdict on a prefix is right
told_right : (heading : Option LogHeading) (seen : List ℕ) (journal : List Edit) (entries : List Entry) (whole : ℕ) (verdict : FrontVerdict) → IsTold entries verdict → IsToldBy (whole_lines_of seen) heading
    → IsWholeFront heading seen entries → journal ≡ edits_in entries → IsWholeUpTo heading seen entries whole → Finds heading seen journal whole verdict
told_right heading seen journal entries whole verdict is told front journal_is bytes =
    let holds : AreTrueAfter [] 0 entries = all_true_of heading entries front.front.all_true in
    let found : FrontFound heading seen journal is.edits is.answers = record {
      entries = entries;
      told = told;
      front = front;
      journal_is = journal_is;
      edits_are = is.edits_are;
      answers_are = is.answers_are;
      accepted = subst (λ (js : List Edit). AreAccepted greatest js) (sym journal_is) (accepted_in_place entries holds);
      sound = sound_in_place entries holds;
    } in
    subst (Finds heading seen journal whole) (sym is.is) (found, bytes)

module _ (seen text : List ℕ) (new : CountedState) (a : Answered CountedStep (counted_start true) 1 (map (take 121) (whole_lines_of seen)) text new) where
  -- if a fault was found, the bytes are no prefix
  no_front : is_fault new.audit.stage ≡ true → IsNoFront seen
  no_front faulty = λ heading entries front.
      let lines = whole_lines_of seen in
      let on = front_taken heading entries lines front.front.lines front.front.all_true in
      let same : map (take 121) lines ≡ lines = first_of_short lines (runs_short (start_state true) on.0 lines on.1) in
      elim (taken_or_none (counted_start true) 1 lines text new on.0 (subst (λ (ls : List (List ℕ)). Answered CountedStep (counted_start true) 1 ls text new) same a) on.1) as (λ _. ⊥) [
        | inl is ↦ true≢false (sym faulty ∙ ap (λ (s : AuditState). is_fault s.stage) is ∙ runs_no_fault (start_state true) on.0 lines refl on.1)
        | inr none ↦ true≢false (sym faulty ∙ ap is_fault none)
      ]

  -- what an audit found that has not stopped
  module _ (few : length seen + 1 < 2 ^ 32) (going : is_stopped new.audit.stage ≡ false) (verdict : FrontVerdict) (told : IsFoundAt new.audit.stage (elements_of new.audit.heading) new.lines (length new.audit.journal) verdict) where
    taken_runs : Runs (start_state true) (map (take 121) (whole_lines_of seen)) new.audit
    taken_runs = all_taken (counted_start true) 1 (map (take 121) (whole_lines_of seen)) text new a going

    all_short : map (take 121) (whole_lines_of seen) ≡ whole_lines_of seen
    all_short = short_of_first (whole_lines_of seen) (runs_short (start_state true) new.audit (map (take 121) (whole_lines_of seen)) taken_runs)

    answered_whole : Answered CountedStep (counted_start true) 1 (whole_lines_of seen) text new
    answered_whole = subst (λ (ls : List (List ℕ)). Answered CountedStep (counted_start true) 1 ls text new) all_short a

    lines_taken : AreTaken true new.audit (whole_lines_of seen)
    lines_taken = taken_from_start true new.audit (whole_lines_of seen) (subst (λ (ls : List (List ℕ)). Runs (start_state true) ls new.audit) all_short taken_runs)

    lines_counted : new.lines ≡ length (whole_lines_of seen)
    lines_counted = omega (arith, counted (counted_start true) 1 (whole_lines_of seen) text new answered_whole refl)

    -- they are a prefix, if no element is missing
    found_whole : (t : AreTaken true new.audit (whole_lines_of seen)) → IsTold t.entries verdict → elements_of new.audit.heading ≤ length t.entries → IsWholeUpTo new.audit.heading seen t.entries new.whole
        → Finds new.audit.heading seen new.audit.journal new.whole verdict
    found_whole t is enough bytes =
        told_right new.audit.heading seen new.audit.journal t.entries new.whole verdict is (told_by_taken true new.audit (whole_lines_of seen) t)
        record { front = record { lines = front_lines_of true new.audit (whole_lines_of seen) t; all_true = t.sound.all_true }; elements = enough } t.journal_is bytes

    -- else the line of an element is
    found_short : (t : AreTaken true new.audit (whole_lines_of seen)) (n : ℕ) → MayEnd new.audit.stage → length new.audit.journal < elements_of new.audit.heading → verdict ≡ verdicts.Bad n → (new.lines + 1 < 2 ^ 32 → n ≡ new.lines + 1)
        → Finds new.audit.heading seen new.audit.journal new.whole verdict
    found_short t n at short is number =
        let lines = whole_lines_of seen in
        let named : n ≡ length lines + 1 = number (omega (arith, few, lines_counted, length-whole_lines_of seen)) ∙ ap (λ (k : ℕ). k + 1) lines_counted in
        subst (Finds new.audit.heading seen new.audit.journal new.whole) (sym is)
        (((λ heading others front. no_whole_front new.audit lines t at short heading others front.front.lines front.front.all_true front.elements), element_missing new.audit lines n t named short), tt)

    -- if more may come
    found_going : (t : AreTaken true new.audit (whole_lines_of seen)) → new.audit.stage ≡ stage_after stages.Edits t.entries → whole_lines_of seen ≡ heading_line new.audit.heading ∷ map entry_line t.entries
        → Finds new.audit.heading seen new.audit.journal new.whole verdict
    found_going t at are =
        let may : MayEnd new.audit.stage = subst MayEnd (sym at) (may_end_after stages.Edits t.entries (inl refl)) in
        let long : length (edits_in t.entries) ≤ length t.entries = omega (arith, entries_counted t.entries) in
        elim (counts_at new.audit.stage (elements_of new.audit.heading) new.lines (length new.audit.journal) verdict may told) [
          | inl enough ↦
              found_whole t (told_of_some t.entries (whole_lines_of seen) new.audit.heading new.audit.journal new.lines verdict are t.journal_is lines_counted enough.1)
              (omega (arith, enough.0, ap length t.journal_is, long))
              (counted_whole (counted_start true) new.audit.heading seen text t.entries [] new refl (are ∙ sym (append-nil (heading_line new.audit.heading ∷ map entry_line t.entries))) answered_whole going
              (λ end. not_end new.audit.stage end may) (omega (arith, few)))
          | inr missing ↦ found_short t missing.1.0 may missing.0 missing.1.1 missing.1.2
        ]

    -- after the last line
    found_ended : (t : AreTaken true new.audit (whole_lines_of seen)) → new.audit.stage ≡ End → whole_lines_of seen ≡ all_lines new.audit.heading t.entries → new.audit.heading ≡ None
        → Finds new.audit.heading seen new.audit.journal new.whole verdict
    found_ended t at are none =
        let whole : whole_lines_of seen ≡ all_lines None t.entries = are ∙ ap (λ (h : Option LogHeading). all_lines h t.entries) none in
        let known : elements_of new.audit.heading ≡ 0 = ap elements_of none in
        found_whole t
        (told_of_all t.entries (whole_lines_of seen) new.audit.journal new.lines verdict whole t.journal_is lines_counted
        (subst (λ (s : Stage). IsFoundAt s (elements_of new.audit.heading) new.lines (length new.audit.journal) verdict) at told))
        (omega (arith, known))
        (subst (λ (h : Option LogHeading). IsWholeUpTo h seen t.entries new.whole) (sym none)
        (counted_whole (counted_start true) None seen text t.entries (end_line ∷ []) new refl whole answered_whole going at (omega (arith, few))))

    -- if no line is there
    found_empty : (t : AreTaken true new.audit (whole_lines_of seen)) → new.audit.stage ≡ stages.Start → whole_lines_of seen ≡ [] → t.entries ≡ [] → new.audit.heading ≡ None
        → Finds new.audit.heading seen new.audit.journal new.whole verdict
    found_empty t at are entries none =
        let known : elements_of new.audit.heading ≡ 0 = ap elements_of none in
        found_whole t (subst (λ (es : List Entry). IsTold es verdict) (sym entries) (told_of_none new.audit new.lines verdict at told)) (omega (arith, known))
        (inl (are, counted_none (counted_start true) 1 (whole_lines_of seen) text new answered_whole are))

    front_found : Finds new.audit.heading seen new.audit.journal new.whole verdict
    front_found =
        elim lines_taken.ends [
          | inl none ↦ found_empty lines_taken none.0 none.1 none.2 none.3
          | inr (inl some) ↦ found_going lines_taken some.0 some.1
          | inr (inr some) ↦ found_ended lines_taken some.0 some.1 some.2
        ]

  -- the fault that an audit has come to
  fault_at : (stage : Stage) → new.audit.stage ≡ stage → is_fault stage ≡ true → IsFound (start_state true) 1 (map (take 121) (whole_lines_of seen)) new.audit
  fault_at stage at fault = fault_found (counted_start true) 1 (map (take 121) (whole_lines_of seen)) text new a refl (ap is_fault at ∙ fault)

  -- the verdict of the stage that an audit came to is right
  right_front : (verdict : FrontVerdict) (stage : Stage) → length seen + 1 < 2 ^ 32 → new.audit.stage ≡ stage → IsFoundAt stage (elements_of new.audit.heading) new.lines (length new.audit.journal) verdict
      → Finds new.audit.heading seen new.audit.journal new.whole verdict
  right_front verdict stages.Start few at told = front_found few (ap is_stopped at) verdict (subst (λ (s : Stage). IsFoundAt s (elements_of new.audit.heading) new.lines (length new.audit.journal) verdict) (sym at) told)
  right_front verdict stages.Edits few at told = front_found few (ap is_stopped at) verdict (subst (λ (s : Stage). IsFoundAt s (elements_of new.audit.heading) new.lines (length new.audit.journal) verdict) (sym at) told)
  right_front verdict stages.AnswersFollow few at told = front_found few (ap is_stopped at) verdict (subst (λ (s : Stage). IsFoundAt s (elements_of new.audit.heading) new.lines (length new.audit.journal) verdict) (sym at) told)
  right_front verdict End few at told = front_found few (ap is_stopped at) verdict (subst (λ (s : Stage). IsFoundAt s (elements_of new.audit.heading) new.lines (length new.audit.journal) verdict) (sym at) told)
  right_front verdict (stages.No n) few at told =
      subst (Finds new.audit.heading seen new.audit.journal new.whole) (sym told) ((no_front (ap is_fault at), false_at true (whole_lines_of seen) n new.audit (fault_at (stages.No n) at refl) at), tt)
  right_front verdict (stages.Bad n) few at told =
      subst (Finds new.audit.heading seen new.audit.journal new.whole) (sym told) ((no_front (ap is_fault at), bad_at true (whole_lines_of seen) n new.audit (fault_at (stages.Bad n) at refl) at), tt)
  right_front verdict NoMemory few at told = absurd told

-- what was found is what an audit came to
found_right : (seen : List ℕ) (found : FoundFront) (edits : History) (heading : Option LogHeading) (whole lines : ℕ) → found.edits ≡ edits → found.heading ≡ heading → found.whole ≡ bytes_in_file found.hash whole lines
    → lines ≡ length (whole_lines_of seen) → Finds heading seen edits.journal whole found.verdict → IsRightFound seen found
found_right seen found edits heading whole lines edits_are heading_is whole_is count finds =
    let first : Finds found.heading seen edits.journal whole found.verdict = subst (λ (h : Option LogHeading). Finds h seen edits.journal whole found.verdict) (sym heading_is) finds in
    let second : Finds found.heading seen found.edits.journal whole found.verdict = subst (λ (h : History). Finds found.heading seen h.journal whole found.verdict) (sym edits_are) first in
    record { right = second.0; bytes = whole; whole = second.1; in_file = whole_is ∙ ap (bytes_in_file found.hash whole) count }

-- the lines that were counted
all_counted : (seen text : List ℕ) (new : CountedState) → Answered CountedStep (counted_start true) 1 (map (take 121) (whole_lines_of seen)) text new → new.lines ≡ length (whole_lines_of seen)
all_counted seen text new a =
    omega (arith, counted (counted_start true) 1 (map (take 121) (whole_lines_of seen)) text new a refl, length-map (whole_lines_of seen) (take 121))

-- ---- how the reading ends

module _ {V : Type 0} (most : ℕ) (Right : List ℕ → V → Type 0) {remaining rest before after : Option (List ℕ)} where
  -- by a fault
  pub read_stopped : (T : Type 0) (old new : CountedState) (f : Fault) → LinesServedWithin CountedStep {T = T} most old new remaining rest before after (Err f) → ReadsInput most Right remaining rest (Err f)
  read_stopped T old new fault.NoMemory c = record { seen = c.seen; read = c.read; few = c.few; ends = tt }
  read_stopped T old new fault.ReadFault c = record { seen = c.seen; read = c.read; few = c.few; ends = c.ends.0 }
  read_stopped T old new fault.TooLong c = record { seen = c.seen; read = c.read; few = c.few; ends = c.ends.0 }
  read_stopped T old new fault.WriteFault c = record { seen = c.seen; read = c.read; few = c.few; ends = tt }

module _ {remaining rest before after : Option (List ℕ)} (old : CountedState) where
  -- a transcript was read to its end
  pub read_transcript : {T : Type 0} (x : T) (new : CountedState) (result : Result Verdict Fault) → old ≡ counted_start false → LinesServed CountedStep {T = T} old new remaining rest before after (Ok x)
      → MatchResult result (IsVerdictAt new.audit.stage new.lines) (λ f. f ≡ fault.NoMemory) → ReadsInput most_read IsRight remaining rest result
  read_transcript x new (Ok verdict) start c told = record {
    seen = c.seen;
    read = c.read;
    few = c.few;
    ends = ((c.ends.0, c.ends.1), right_verdict c.seen c.ends.2.text new (rw start at c.ends.2.answered) verdict c.ends.1 told);
  }
  read_transcript x new (Err f) start c told = rw told record { seen = c.seen; read = c.read; few = c.few; ends = tt }

  -- a prefix was
  pub read_front : (T : Type 0) (most : ℕ) (mixed : Bool) (heading : Option LogHeading) (stage : Stage) (edits : History) (last lines whole : ℕ) (result : Result FoundFront Fault) → old ≡ counted_start true
      → most ≤ 4294967293
      → LinesServedWithin CountedStep {T = T} most old (counted_at mixed heading stage edits last lines whole) remaining rest before after (Err fault.ReadFault) → IsAtEnd rest
      → MatchResult result (λ found. (found.edits ≡ edits) × (found.heading ≡ heading) × (found.whole ≡ bytes_in_file found.hash whole lines) × IsFoundAt stage (elements_of heading) lines (length edits.journal) found.verdict) (λ f. f ≡ fault.NoMemory)
      → ReadsInput most IsRightFound remaining rest result
  read_front T most mixed heading stage edits last lines whole (Ok found) start fits c end told =
      let right = right_front c.seen c.ends.1.text (counted_at mixed heading stage edits last lines whole) (rw start at c.ends.1.answered) found.verdict stage (omega (arith, c.ends.0, fits)) refl told.3 in
      record { seen = c.seen; read = c.read; few = c.few; ends = ((end, c.ends.0), found_right c.seen found edits heading whole lines told.0 told.1 told.2 (all_counted c.seen c.ends.1.text (counted_at mixed heading stage edits last lines whole) (rw start at c.ends.1.answered)) right) }
  read_front T most mixed heading stage edits last lines whole (Err f) start fits c end told = rw told record { seen = c.seen; read = c.read; few = c.few; ends = tt }

module _ (most : ℕ) {rest : Option (List ℕ)} (remaining known : Option (List ℕ)) (same : remaining ≡ text_of known) where
  -- what was read of a prefix is the text of what is known of its reader
  pub as_front : (result : Result FoundFront Fault) → ReadsInput most IsRightFound remaining rest result → ReadsFront most known result
  as_front result r = (rest, subst (λ (k : Option (List ℕ)). ReadsInput most IsRightFound k rest result) same r)

  module _ {before after : Option (List ℕ)} (old new : CountedState) where
    pub front_stopped : (T : Type 0) (f : Fault) → LinesServedWithin CountedStep {T = T} most old new remaining rest before after (Err f) → ReadsFront most known (Err f)
    front_stopped T f c = as_front (Err f) (read_stopped most IsRightFound T old new f c)

    -- a reader that finds its end fails there, so this is never met
    pub front_unended : {T : Type 0} (x : T) → LinesServedWithin CountedStep {T = T} most old new remaining rest before after (Ok x) → ReadsFront most known (Err fault.ReadFault)
    front_unended x c = as_front (Err fault.ReadFault) record { seen = c.seen; read = c.read; few = c.few; ends = c.ends.1 }

-- ---- how the audit ends

-- by a fault of the reading
pub audit_stopped : {U V : Type 0} (Found : List ℕ → U → Type 0) (Right : List ℕ → V → Type 0) (text : V → List ℕ) {most : ℕ} {remaining rest : Option (List ℕ)} (before : Option (List ℕ)) (f : Fault) → ReadsInput most Found remaining rest (Err f)
    → AuditsInput most Right text remaining rest before before (Err f)
audit_stopped Found Right text before fault.NoMemory r = record { seen = r.seen; read = r.read; few = r.few; ends = Appends-nil before }
audit_stopped Found Right text before fault.ReadFault r = record { seen = r.seen; read = r.read; few = r.few; ends = (r.ends, Appends-nil before) }
audit_stopped Found Right text before fault.TooLong r = record { seen = r.seen; read = r.read; few = r.few; ends = (r.ends, Appends-nil before) }
audit_stopped Found Right text before fault.WriteFault r = record { seen = r.seen; read = r.read; few = r.few; ends = inl (Appends-nil before) }

module _ {V : Type 0} (Right : List ℕ → V → Type 0) (text : V → List ℕ) {most : ℕ} {remaining rest before : Option (List ℕ)} (verdict : V) (held : List ℕ) (last : Option (List ℕ)) (r : ReadsInput most Right remaining rest (Ok verdict)) (put : held ≡ text verdict) where
  -- the verdict was written
  pub audit_sent : Appends before last held → AuditsInput most Right text remaining rest before last (Ok verdict)
  audit_sent sent = record { seen = r.seen; read = r.read; few = r.few; ends = (r.ends.0, r.ends.1, rw put at sent) }

  -- or no more than a prefix of it was written
  pub audit_unsent : WritesFront before held last [] → AuditsInput most Right text remaining rest before last (Err fault.WriteFault)
  audit_unsent unsent =
      let put_after : Writes before [] before held (text verdict) = Writes-put before [] held (text verdict) put in
      record { seen = r.seen; read = r.read; few = r.few; ends = inr (verdict, r.ends.0, r.ends.1, rw (append-nil (text verdict)) at (WritesFront-after put_after unsent)) }

-- a verdict on a prefix, without its edits
pub verdict_alone : {most : ℕ} {remaining rest : Option (List ℕ)} (found : FoundFront) → ReadsInput most IsRightFound remaining rest (Ok found) → ReadsInput most (IsRightVerdict found.heading) remaining rest (Ok found.verdict)
verdict_alone found r = record { seen = r.seen; read = r.read; few = r.few; ends = (r.ends.0, (found.edits.journal, r.ends.1.right)) }
