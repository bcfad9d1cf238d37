-- The line that an audit names is the first fault: those before it are lines of sound entries, and with it no transcript begins.
use Rattle.std.proofs.Common.{◌≡◌, ◌≢◌, ℕ, ◌+◌, ◌^◌, ◌<◌, ◌≤◌, Bool, true, false, List, [], ◌∷◌, ◌++◌, length, take, map, All, Option, None, Some, lit≤, refl, sym, ap, ◌∙◌, subst, inl, inr, arith, append_assoc, append-nil}
use Rattle.std.proofs.lemmas.List.{length-append, length-map, length_push, length-take, take_all}
use Rattle.lv_lines.specs.Input.{last_line, lines_of, unended_of, whole_lines_of}
use Rattle.lv_lines.specs.Replies.{IsNotTooLong}
use Rattle.lv_lines.proofs.InputLemmas.{length-whole_lines_of, lines_of-parts}
use Rattle.lv_transcript.specs.declared.auditor.Stage.TheVariants.{Start, Edits, End, No, Bad}
use Rattle.lv_transcript.specs.declared.log_heading.LogHeading.{LogHeading}
use Rattle.lv_transcript.specs.Transcript.{end_line, heading_line, BeginsAnswer}
use Rattle.lv_transcript.specs.Auditing.{AuditState, IsFaultOf, IsLast, MayCome, MayEdit, MayEnd, Takes, start_state}
use Rattle.lv_transcript.specs.Fronts.{AreEntryLines, AreFrontLines, AreTrueOf, Entry, HasEntryForm, IsBadAt, IsFalseAt, IsFirst, MayBegin, MayFollow, NoneBegins, all_lines, edits_in, elements_of, ending, entry_line}
use Rattle.lv_transcript.proofs.ReadTranscripts.{heading_line-injective, heading_line_short}
use Rattle.lv_transcript.proofs.AuditLines.{may_end_of_edit}
use Rattle.lv_transcript.proofs.AuditRuns.{IsFound, Runs, runs_by, runs_same, runs_short}
use Rattle.lv_transcript.proofs.TakenEntries.{AreTaken, all_lines_taken, begins_of, edit_comes, edit_follows, entries_before, first_of, front_lines_of, may_end_after, no_heading, only_pushes, pushes_of, rest_of, stage_after, taken_from_start, told_by_taken}
use Rattle.lv_transcript.proofs.TranscriptBytes.{IsShort, short_of_first}

-- ---- no transcript goes on otherwise

-- after lines that were taken a line that is not begins no transcript
none_begins : (mixed : Bool) (front : List (List ℕ)) (line : List ℕ) (mid : AuditState) → Runs (start_state mixed) front mid → ((next : AuditState) → Takes mid line next → ⊥) → NoneBegins mixed (front ++ line ∷ [])
none_begins mixed front line mid runs untaken heading entries rest sound is =
    let known = all_lines_taken mixed heading entries sound in
    let there : front ++ line ∷ rest ≡ all_lines heading entries = sym (append_assoc front (line ∷ []) rest) ∙ is in
    let by = runs_by (start_state mixed) known.end front (line ∷ rest) (subst (λ (ls : List (List ℕ)). Runs (start_state mixed) ls known.end) (sym there) known.runs) in
    untaken by.goes_on.0 (subst (λ (s : AuditState). Takes s line by.goes_on.0) (runs_same (start_state mixed) by.mid mid front by.runs runs) by.goes_on.1)

-- ---- forms

-- a line of at most 120 bytes is its first 121
whole_line : (line : List ℕ) → length line ≤ 120 → take 121 line ≡ line
whole_line line short = take_all 121 line (omega (arith, short))

-- a line is its first 121 bytes if these are at most 120
whole_of_cut : (line : List ℕ) → length (take 121 line) ≤ 120 → take 121 line ≡ line
whole_of_cut line short = take_all 121 line (omega (arith, short, length-take 121 line))

-- with the last line there are more lines than before it
not_ended : (heading : Option LogHeading) (entries : List Entry) → heading ≡ None → heading_line heading ∷ map entry_line entries ≡ all_lines heading entries → ⊥
not_ended None entries none is = absurd (omega (arith, ap length is, length_push (map entry_line entries) end_line))
not_ended (Some h) entries none is = absurd (cc none)

-- what ends a text is its last line
is_last_of : (heading : Option LogHeading) (line : List ℕ) → line ∷ [] ≡ ending heading → IsLast heading line
is_last_of None line is = (refl, first_of line end_line [] [] is)
is_last_of (Some h) line is = absurd (cc is)

module _ (mixed : Bool) (front : List (List ℕ)) (s : AuditState) (line : List ℕ) (t : AreTaken mixed s front) where
  -- what may follow the entries that were taken may come next
  may_come_behind : s.stage ≡ stage_after Edits t.entries → HasEntryForm mixed t.entries line → MayCome s line
  may_come_behind at (short, inl edit) =
      (short, inr (inl (subst (λ (m : Bool). MayEdit m s.stage) (sym t.mixed_is) (subst (MayEdit mixed) (sym at) (edit_comes mixed t.entries edit.0)), edit.1)))
  may_come_behind at (short, inr begins) =
      (short, inr (inr (subst MayEnd (sym at) (may_end_after Edits t.entries (inl refl)), inl (subst (λ (n : ℕ). BeginsAnswer n line) (sym t.last_is) begins))))

  may_come_last : s.stage ≡ stage_after Edits t.entries → IsLast s.heading line → MayCome s line
  may_come_last at last =
      (subst (λ (l : List ℕ). length l ≤ 120) (sym last.1) (lit≤ tt), inr (inr (subst MayEnd (sym at) (may_end_after Edits t.entries (inl refl)), inr last)))

  may_come_first : s.stage ≡ Start → IsFirst mixed line → MayCome s line
  may_come_first at first = (
    subst (λ (l : List ℕ). length l ≤ 120) (sym first.2) (heading_line_short mixed first.0 first.1),
    inl (at, subst (λ (m : Bool). IsFirst m line) (sym t.mixed_is) first),
  )

  -- a line that may follow the lines that were taken may come next
  may_follow : MayFollow mixed s.heading front t.entries line → MayCome s line
  may_follow (inl first) =
      elim t.ends [
        | inl none ↦ may_come_first none.0 first.1
        | inr (inl some) ↦ absurd (cc (first.0, some.1))
        | inr (inr some) ↦ absurd (cc (first.0, some.1))
      ]
  may_follow (inr (there, form)) =
      elim t.ends [
        | inl none ↦ absurd (cc (there, none.1))
        | inr (inl some) ↦ elim form [ inl entry ↦ may_come_behind some.0 entry | inr last ↦ may_come_last some.0 (is_last_of s.heading line last) ]
        | inr (inr some) ↦ absurd (not_ended s.heading t.entries some.2 (sym there ∙ some.1))
      ]

  -- a line that may come next, and is not taken, has the form of an edit or of an answer after the entries that were taken
  false_form : MayCome s line → ((next : AuditState) → Takes s line next → ⊥) → (front ≡ heading_line s.heading ∷ map entry_line t.entries) × HasEntryForm mixed t.entries line
  false_form (short, inl first) untaken =
      absurd (untaken record s { stage = Edits; heading = first.1.0 } (short, inl record { heading = first.1.0; at = first.0; begins = first.1.1; text = first.1.2; next = refl }))
  false_form (short, inr (inl edit)) untaken =
      let there = entries_before mixed front s t (may_end_of_edit s.mixed s.stage edit.0) in
      let may : MayEdit mixed (stage_after Edits t.entries) = subst (MayEdit mixed) there.0 (subst (λ (m : Bool). MayEdit m s.stage) t.mixed_is edit.0) in
      (there.1, (short, inl (edit_follows mixed t.entries t.come may, edit.1)))
  false_form (short, inr (inr (at, inl begins))) untaken =
      ((entries_before mixed front s t at).1, (short, inr (subst (λ (n : ℕ). BeginsAnswer n line) t.last_is begins)))
  false_form (short, inr (inr (at, inr last))) untaken =
      absurd (untaken record s { stage = End } (short, inr (inr (inr record { at = at; text = last; next = refl }))))

-- ---- the lines whose first bytes were looked at

-- parts of some lines, where each line was changed
record IsCutFrom (f : List ℕ → List ℕ) (lines front : List (List ℕ)) (line : List ℕ) : Type 0 where
  pub before : List (List ℕ)
  pub whole : List ℕ
  pub after : List (List ℕ)
  pub all : lines ≡ before ++ whole ∷ after
  pub front_is : map f before ≡ front
  pub line_is : f whole ≡ line

cut_from : (f : List ℕ → List ℕ) (lines front : List (List ℕ)) (line : List ℕ) (rest : List (List ℕ)) → map f lines ≡ front ++ line ∷ rest → IsCutFrom f lines front line
cut_from f [] [] line rest is = absurd (cc is)
cut_from f [] (first ∷ front) line rest is = absurd (cc is)
cut_from f (l ∷ lines) [] line rest is = record { before = []; whole = l; after = lines; all = refl; front_is = refl; line_is = cc is }
cut_from f (l ∷ lines) (first ∷ front) line rest is =
    let more = cut_from f lines front line rest (cc is) in
    record {
      before = l ∷ more.before;
      whole = more.whole;
      after = more.after;
      all = ap (λ (ls : List (List ℕ)). l ∷ ls) more.all;
      front_is = rw more.front_is (ap (λ (x : List ℕ). x ∷ front) (cc is));
      line_is = more.line_is;
    }

-- the first fault that an audit found among lines, when it looked at the first 121 bytes of each
record IsFoundIn (mixed : Bool) (lines : List (List ℕ)) (new : AuditState) (found : IsFound (start_state mixed) 1 (map (take 121) lines) new) : Type 0 where
  line : List ℕ
  rest : List (List ℕ)
  all : lines ≡ found.front ++ line ∷ rest
  line_is : take 121 line ≡ found.line
  taken : AreTaken mixed found.mid found.front
  untaken : (next : AuditState) → Takes found.mid line next → ⊥

found_in : (mixed : Bool) (lines : List (List ℕ)) (new : AuditState) (found : IsFound (start_state mixed) 1 (map (take 121) lines) new) → IsFoundIn mixed lines new found
found_in mixed lines new found =
    let cut = cut_from (take 121) lines found.front found.line found.rest found.all in
    let short : All IsShort found.front = runs_short (start_state mixed) found.mid found.front found.runs in
    let same : found.front ≡ cut.before = sym cut.front_is ∙ short_of_first cut.before (subst (All IsShort) (sym cut.front_is) short) in
    record {
      line = cut.whole;
      rest = cut.after;
      all = cut.all ∙ ap (λ (ls : List (List ℕ)). ls ++ cut.whole ∷ cut.after) (sym same);
      line_is = cut.line_is;
      taken = taken_from_start mixed found.mid found.front found.runs;
      untaken = λ next taken. found.untaken next (subst (λ (l : List ℕ). Takes found.mid l next) (sym (whole_line cut.whole taken.0) ∙ cut.line_is) taken);
    }

-- ---- what a fault names

module _ (mixed : Bool) (lines : List (List ℕ)) (n : ℕ) (new : AuditState) (found : IsFound (start_state mixed) 1 (map (take 121) lines) new) where
  -- a line that is false
  pub false_at : new.stage ≡ No n → IsFalseAt mixed new.heading lines n new.journal
  false_at at_no =
      let at = found_in mixed lines new found in
      let fault : IsFaultOf (1 + length found.front) (MayCome found.mid found.line) (No n) = subst (IsFaultOf (1 + length found.front) (MayCome found.mid found.line)) at_no found.fault in
      let may = fault.1 in
      let whole : found.line ≡ at.line = sym at.line_is ∙ whole_of_cut at.line (subst (λ (l : List ℕ). length l ≤ 120) (sym at.line_is) may.0) in
      let form = false_form mixed found.front found.mid at.line at.taken (subst (MayCome found.mid) whole may) at.untaken in
      subst (λ (h : Option LogHeading). IsFalseAt mixed h lines n new.journal) (sym found.heading_is)
      record {
        entries = at.taken.entries;
        line = at.line;
        rest = at.rest;
        all = at.all ∙ ap (λ (ls : List (List ℕ)). ls ++ at.line ∷ at.rest) form.0;
        number_is = omega (arith, fault.0, ap length form.0, length-map at.taken.entries entry_line);
        sound = at.taken.sound;
        edits_are = found.journal_is ∙ at.taken.journal_is;
        form = form.1;
        none_begins = subst (λ (ls : List (List ℕ)). NoneBegins mixed (ls ++ at.line ∷ [])) form.0 (none_begins mixed found.front at.line found.mid found.runs at.untaken);
      }

  -- a line that is not of a form that may come there
  pub bad_at : new.stage ≡ Bad n → IsBadAt mixed new.heading lines n new.journal
  bad_at at_bad =
      let at = found_in mixed lines new found in
      let fault : IsFaultOf (1 + length found.front) (MayCome found.mid found.line) (Bad n) = subst (IsFaultOf (1 + length found.front) (MayCome found.mid found.line)) at_bad found.fault in
      subst (λ (h : Option LogHeading). IsBadAt mixed h lines n new.journal) (sym found.heading_is)
      record {
        entries = at.taken.entries;
        front = found.front;
        rest = at.line ∷ at.rest;
        all = at.all;
        number_is = fault.0;
        told = told_by_taken mixed found.mid found.front at.taken;
        begun = front_lines_of mixed found.mid found.front at.taken;
        sound = at.taken.sound;
        edits_are = found.journal_is ∙ at.taken.journal_is;
        bad = (
          (λ follows.
              let may = may_follow mixed found.front found.mid at.line at.taken follows in
              fault.1 (subst (MayCome found.mid) (sym (whole_line at.line may.0) ∙ at.line_is) may)),
          none_begins mixed found.front at.line found.mid found.runs at.untaken,
        );
      }

-- no more than one line is not ended
length-last_line : (xs : List ℕ) → length (last_line xs) ≤ 1
length-last_line [] = lit≤ tt
length-last_line (x ∷ xs) = lit≤ tt

-- there are few lines
few_lines : (seen : List ℕ) → IsNotTooLong seen → length (lines_of seen) + 1 < 2 ^ 32
few_lines seen few =
    omega (arith, few, ap length (lines_of-parts seen), length-append (whole_lines_of seen) (last_line (unended_of seen)), length-whole_lines_of seen, length-last_line (unended_of seen))

-- lines that were all taken, but without the last line
not_all : (new : AuditState) (lines : List (List ℕ)) (t : AreTaken false new lines) → new.stage ≢ End → lines ≢ all_lines new.heading t.entries
not_all new lines t other is =
    elim t.ends [
      | inl none ↦ absurd (cc (is, none.1))
      | inr (inl some) ↦ absurd (not_ended new.heading t.entries (no_heading new.heading t.sound.begins) (sym some.1 ∙ is))
      | inr (inr some) ↦ absurd (other some.0)
    ]

-- a line that is missing
pub missing_at : (seen : List ℕ) (new : AuditState) (lines n : ℕ) → Runs (start_state false) (map (take 121) (lines_of seen)) new → new.stage ≢ End → IsNotTooLong seen
    → lines + 1 ≡ 1 + length (map (take 121) (lines_of seen)) → (lines + 1 < 2 ^ 32 → n ≡ lines + 1) → IsBadAt false new.heading (lines_of seen) n new.journal
missing_at seen new lines n runs other few counted number =
    let cut = map (take 121) (lines_of seen) in
    let same : cut ≡ lines_of seen = short_of_first (lines_of seen) (runs_short (start_state false) new cut runs) in
    let t = taken_from_start false new (lines_of seen) (subst (λ (ls : List (List ℕ)). Runs (start_state false) ls new) same runs) in
    let count : lines ≡ length (lines_of seen) = omega (arith, counted, length-map (lines_of seen) (take 121)) in
    record {
      entries = t.entries;
      front = lines_of seen;
      rest = [];
      all = sym (append-nil (lines_of seen));
      number_is = number (omega (arith, count, few_lines seen few)) ∙ omega (arith, count);
      told = told_by_taken false new (lines_of seen) t;
      begun = front_lines_of false new (lines_of seen) t;
      sound = t.sound;
      edits_are = t.journal_is;
      bad = inl (refl, not_all new (lines_of seen) t other);
    }

-- fewer edits than the heading tells of are fewer entries
pub few_entries : (mixed : Bool) (new : AuditState) (lines : List (List ℕ)) (t : AreTaken mixed new lines) → length new.journal < elements_of new.heading → length t.entries < elements_of new.heading
few_entries mixed new lines t few =
    let edits : length new.journal ≡ length (edits_in t.entries) = ap length t.journal_is in
    omega (arith, few, edits, only_pushes (elements_of new.heading) t.entries (pushes_of new.heading t.entries t.sound.all_true) (omega (arith, few, edits)))

-- an element that is missing
pub element_missing : (new : AuditState) (lines : List (List ℕ)) (n : ℕ) (t : AreTaken true new lines) → n ≡ length lines + 1 → length new.journal < elements_of new.heading → IsBadAt true new.heading lines n new.journal
element_missing new lines n t number few = record {
  entries = t.entries;
  front = lines;
  rest = [];
  all = sym (append-nil lines);
  number_is = omega (arith, number);
  told = told_by_taken true new lines t;
  begun = front_lines_of true new lines t;
  sound = t.sound;
  edits_are = t.journal_is;
  bad = inr (few_entries true new lines t few);
}

-- and then the lines are those of no prefix that has all
length_of_entry_lines : (heading : Option LogHeading) (entries : List Entry) (lines : List (List ℕ)) → AreEntryLines heading entries lines → length entries ≤ length lines
length_of_entry_lines heading entries lines (inl same) = omega (arith, ap length same, length-map entries entry_line)
length_of_entry_lines heading entries lines (inr same) =
    omega (arith, ap length same, length-append (map entry_line entries) (ending heading), length-map entries entry_line)

too_few : (first heading : Option LogHeading) (entries others : List Entry) (lines : List (List ℕ)) → MayBegin true first → lines ≡ heading_line first ∷ map entry_line entries → length entries < elements_of first
    → AreFrontLines heading others lines → AreTrueOf heading others → elements_of heading ≤ length others → ⊥
too_few first heading entries others [] begins is few are holds enough = absurd (cc is)
too_few first heading entries others (line ∷ lines) begins is few are holds enough =
    let same : heading ≡ first =
    heading_line-injective true line heading first (begins_of heading others holds) begins are.0 (first_of line (heading_line first) lines (map entry_line entries) is) in
    let count : length lines ≡ length entries = ap length (rest_of line (heading_line first) lines (map entry_line entries) is) ∙ length-map entries entry_line in
    let known : elements_of heading ≡ elements_of first = ap elements_of same in
    absurd (omega (arith, few, enough, count, known, length_of_entry_lines heading others lines are.1))

pub no_whole_front : (new : AuditState) (lines : List (List ℕ)) (t : AreTaken true new lines) → MayEnd new.stage → length new.journal < elements_of new.heading
    → (heading : Option LogHeading) (others : List Entry) → AreFrontLines heading others lines → AreTrueOf heading others → elements_of heading ≤ length others → ⊥
no_whole_front new lines t at few heading others are holds enough =
    too_few new.heading heading t.entries others lines t.sound.begins (entries_before true lines new t at).1 (few_entries true new lines t few) are holds enough
