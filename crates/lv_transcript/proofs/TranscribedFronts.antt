-- What a transcript writer wrote is a prefix; of edits, and then answers, it is their transcript.
use Rattle.std.proofs.Common.{◌≡◌, ℕ, zero, suc, ◌+◌, ◌<◌, Bool, false, true, Option, None, Some, Result, Ok, Err, OnOk, IfErr, List, [], ◌∷◌, ◌++◌, get_or, length, map, take, All, refl, sym, ap, ◌∙◌, subst, inl, inr, arith, append_assoc, append-nil}
use Rattle.std.proofs.lemmas.List.{map-append, take_more}
use Rattle.std.proofs.lemmas.List.Elements.{All-nil, All-cons, All-append, All-head, All-tail}
use Rattle.std.proofs.lemmas.Grind.{flat_map-append}
use Rattle.std.specs.Io.KnownBytes.{Appends}
use mathlib.Core.List.{IsPrefix}
use Rattle.lv_edits.specs.declared.edit.Edit.{Edit}
use Rattle.lv_edits.specs.Kept.{CarriesElement}
use Rattle.lv_lines.specs.declared.fault.Fault.{Fault}
use Rattle.lv_lines.specs.declared.fault.Fault.TheVariants.{WriteFault}
use Rattle.lv_lines.specs.Input.{whole_lines_of, unended_of}
use Rattle.lv_lines.specs.Output.{Writes, WritesFront}
use Rattle.lv_lines.proofs.InputLemmas.{whole_lines_of-append, whole_lines_of-ended}
use Rattle.lv_lines.proofs.OutputLemmas.{Writes-all, Writes-put, Writes-sent, Writes-trans, WritesFront-after, WritesFront-longer}
use Rattle.lv_transcript.specs.Fronts.{AreEntryLines, AreFrontLines, AreTrueAfter, AreTrueOf, Entry, IsFront, IsFrontOf, IsPush, all_lines, ending, entry_line}
use Rattle.lv_transcript.specs.Transcribing.{Adds, EndsWhole, GotFront, GotFrontOf, WasGiven, WasGivenOf, WritingState, WroteOrHolds, all_entries, bytes_before, bytes_behind, front_bytes, front_bytes_of, whole_bytes}
use Rattle.lv_transcript.specs.declared.claimed.Claimed.{Claimed}
use Rattle.lv_transcript.specs.declared.log_heading.LogHeading.{LogHeading}
use Rattle.lv_transcript.specs.Transcript.{AreAccepted, AreInOrder, IsEdit, IsSoundTranscript, IsTrueAnswer, Transcribes, answer_line, edit_line, end_line, ended, first_line, greatest, heading_line, transcript_text}
use Rattle.lv_transcript.proofs.ReadTranscripts.{heading_line_printable}
use Rattle.lv_transcript.proofs.TakenEntries.{AreBefore, all_true_of, all_within, begin_within, begins_of, first_of, lines_in_order, none_before, one_more_before, rest_of}
use Rattle.lv_transcript.proofs.SoundTranscripts.{accepted_fits, line_of_edit, plain_answer}
use Rattle.lv_transcript.proofs.TranscriptBytes.{IsUnended, unended_printable}

-- ---- whole lines of a prefix of a text

-- a line and its LF are the first whole line
whole_lines_of_text : (lines : List (List ℕ)) → All IsUnended lines → whole_lines_of (ended lines) ≡ lines
whole_lines_of_text [] none = refl
whole_lines_of_text (line ∷ lines) none =
    ap whole_lines_of (append_assoc line (10 ∷ []) (ended lines))
    ∙ whole_lines_of-ended line (ended lines) (All-head IsUnended line lines none)
    ∙ ap (λ (ls : List (List ℕ)). line ∷ ls) (whole_lines_of_text lines (All-tail IsUnended line lines none))

-- and lines before other bytes are the first whole lines
whole_lines_of_more : (lines : List (List ℕ)) (bytes : List ℕ) → All IsUnended lines → whole_lines_of (ended lines ++ bytes) ≡ lines ++ whole_lines_of bytes
whole_lines_of_more [] bytes none = refl
whole_lines_of_more (line ∷ lines) bytes none =
    let text : ended (line ∷ lines) ++ bytes ≡ line ++ 10 ∷ (ended lines ++ bytes) =
    append_assoc (line ++ 10 ∷ []) (ended lines) bytes ∙ append_assoc line (10 ∷ []) (ended lines ++ bytes) in
    ap whole_lines_of text
    ∙ whole_lines_of-ended line (ended lines ++ bytes) (All-head IsUnended line lines none)
    ∙ ap (λ (ls : List (List ℕ)). line ∷ ls) (whole_lines_of_more lines bytes (All-tail IsUnended line lines none))

-- the first and the last of lines
All-earlier : (P : List ℕ → Type 0) (xs ys : List (List ℕ)) → All P (xs ++ ys) → All P xs
All-earlier P [] ys all = All-nil P
All-earlier P (x ∷ xs) ys all = All-cons P x xs (All-head P x (xs ++ ys) all) (All-earlier P xs ys (All-tail P x (xs ++ ys) all))

All-later : (P : List ℕ → Type 0) (xs ys : List (List ℕ)) → All P (xs ++ ys) → All P ys
All-later P [] ys all = all
All-later P (x ∷ xs) ys all = All-later P xs ys (All-tail P x (xs ++ ys) all)

-- the whole lines of a prefix of a text are its first lines
lines_of_front : (bytes rest : List ℕ) (lines : List (List ℕ)) → All IsUnended lines → bytes ++ rest ≡ ended lines → IsPrefix (whole_lines_of bytes) lines
lines_of_front bytes rest lines none all =
    (whole_lines_of (unended_of bytes ++ rest), sym (whole_lines_of-append bytes rest) ∙ ap whole_lines_of all ∙ whole_lines_of_text lines none)

-- ---- lines of entries

-- the lines of entries that are true have no LF
entries_unended : (before : List Edit) (last : ℕ) (entries : List Entry) → AreBefore before → AreTrueAfter before last entries → All IsUnended (map entry_line entries)
entries_unended before last [] known holds = All-nil IsUnended
entries_unended before last (inl e ∷ entries) known holds =
    let fits : IsEdit e = accepted_fits before e (all_within before known) holds.1 holds.0 in
    All-cons IsUnended (edit_line e) (map entry_line entries) (unended_printable (edit_line e) (line_of_edit e fits).printable)
    (entries_unended (before ++ e ∷ []) last entries (one_more_before before e known holds.0 holds.1) holds.2)
entries_unended before last (inr answer ∷ entries) known holds =
    let plain = plain_answer before (begin_within before known) answer holds.1 in
    All-cons IsUnended (answer_line answer) (map entry_line entries) (unended_printable (answer_line answer) plain.line.printable)
    (entries_unended before answer.edit entries known holds.2)

-- nor has the last line, if there is one
ending_unended : (heading : Option LogHeading) → All IsUnended (ending heading)
ending_unended None = All-cons IsUnended end_line [] refl (All-nil IsUnended)
ending_unended (Some h) = All-nil IsUnended

-- and the first
pub whole_unended : (heading : Option LogHeading) (entries : List Entry) → AreTrueOf heading entries → All IsUnended (all_lines heading entries)
whole_unended heading entries holds =
    All-cons IsUnended (heading_line heading) (map entry_line entries ++ ending heading) (unended_printable (heading_line heading) (heading_line_printable true heading (begins_of heading entries holds)))
    (All-append IsUnended (map entry_line entries) (ending heading) (entries_unended [] 0 entries none_before (all_true_of heading entries holds)) (ending_unended heading))

-- lines that the lines of entries begin with
record AreSome (heading : Option LogHeading) (entries : List Entry) (lines : List (List ℕ)) : Type 0 where
  some : List Entry
  first : IsPrefix some entries
  lines_are : AreEntryLines heading some lines

-- one entry more
some_more : (heading : Option LogHeading) (entry : Entry) (entries : List Entry) (line : List ℕ) (lines : List (List ℕ)) → line ≡ entry_line entry → AreSome heading entries lines → AreSome heading (entry ∷ entries) (line ∷ lines)
some_more heading entry entries line lines is s = record {
  some = entry ∷ s.some;
  first = (s.first.0, ap (λ (es : List Entry). entry ∷ es) s.first.1);
  lines_are =
      elim s.lines_are [
        | inl same ↦ inl (ap (λ (l : List ℕ). l ∷ lines) is ∙ ap (λ (ls : List (List ℕ)). entry_line entry ∷ ls) same)
        | inr same ↦ inr (ap (λ (l : List ℕ). l ∷ lines) is ∙ ap (λ (ls : List (List ℕ)). entry_line entry ∷ ls) same)
      ];
}

-- the first lines of what ends a text
last_lines : (heading : Option LogHeading) (line : List ℕ) (lines : List (List ℕ)) → IsPrefix (line ∷ lines) (ending heading) → AreSome heading [] (line ∷ lines)
last_lines None line [] p = record { some = []; first = ([], refl); lines_are = inr (ap (λ (l : List ℕ). l ∷ []) (first_of line end_line p.0 [] p.1)) }
last_lines None line (other ∷ lines) p = absurd (omega (arith, ap length p.1))
last_lines (Some h) line lines p = absurd (cc p.1)

-- the first lines of entries, and of the last line after them, are such
first_lines : (heading : Option LogHeading) (entries : List Entry) (lines : List (List ℕ)) → IsPrefix lines (map entry_line entries ++ ending heading) → AreSome heading entries lines
first_lines heading entries [] p = record { some = []; first = (entries, refl); lines_are = inl refl }
first_lines heading [] (line ∷ lines) p = last_lines heading line lines p
first_lines heading (entry ∷ entries) (line ∷ lines) p =
    some_more heading entry entries line lines (first_of line (entry_line entry) (lines ++ p.0) (map entry_line entries ++ ending heading) p.1)
    (first_lines heading entries lines (p.0, rest_of line (entry_line entry) (lines ++ p.0) (map entry_line entries ++ ending heading) p.1))

-- a prefix of entries that are true is true
true_front : (before : List Edit) (last : ℕ) (some rest : List Entry) → AreTrueAfter before last (some ++ rest) → AreTrueAfter before last some
true_front before last [] rest holds = tt
true_front before last (inl e ∷ some) rest holds = (holds.0, holds.1, true_front (before ++ e ∷ []) last some rest holds.2)
true_front before last (inr answer ∷ some) rest holds = (holds.0, holds.1, true_front before answer.edit some rest holds.2)

-- a prefix of entries that a heading may have is one that it may have
true_begin : (heading : Option LogHeading) (some rest : List Entry) → AreTrueOf heading (some ++ rest) → AreTrueOf heading some
true_begin None some rest holds = true_front [] 0 some rest holds
true_begin (Some h) some rest holds = record { numbers = holds.numbers; all_true = true_front [] 0 some rest holds.all_true; pushes = fewer_pushes h.elements some rest holds.pushes }
  where
    fewer_pushes : (n : ℕ) (some rest : List Entry) → All IsPush (take n (some ++ rest)) → All IsPush (take n some)
    fewer_pushes zero some rest pushes = All-nil IsPush
    fewer_pushes (suc n) [] rest pushes = All-nil IsPush
    fewer_pushes (suc n) (entry ∷ some) rest pushes =
        All-cons IsPush entry (take n some) (All-head IsPush entry (take n (some ++ rest)) pushes) (fewer_pushes n some rest (All-tail IsPush entry (take n (some ++ rest)) pushes))

-- ---- bytes that are a prefix

-- the whole lines of what is there are these
lines_there : (heading : Option LogHeading) (there : List Entry) (bytes : List ℕ) → All IsUnended (heading_line heading ∷ map entry_line there)
    → whole_lines_of (front_bytes_of heading there ++ bytes) ≡ (heading_line heading ∷ map entry_line there) ++ whole_lines_of bytes
lines_there heading there bytes none = whole_lines_of_more (heading_line heading ∷ map entry_line there) bytes none

-- of bytes that are no more than what a writer adds, after what was there, the lines are the first of a text
front_behind : (heading : Option LogHeading) (there : Option (List Entry)) (bytes rest : List ℕ) (entries : List Entry) → AreTrueOf heading (all_entries there entries)
    → bytes ++ rest ≡ bytes_behind heading there entries ++ ended (ending heading) → (some : List Entry) × IsPrefix some entries × AreFrontLines heading (all_entries there some) (whole_lines_of (bytes_before heading there ++ bytes))
front_behind heading None bytes rest entries holds all =
    front_of_lines heading (whole_lines_of bytes) entries
    (lines_of_front bytes rest (all_lines heading entries) (whole_unended heading entries holds) (all ∙ sym (flat_map-append (λ (line : List ℕ). line ++ 10 ∷ []) (heading_line heading ∷ map entry_line entries) (ending heading))))
  where
    front_of_lines : (heading : Option LogHeading) (lines : List (List ℕ)) (entries : List Entry) → IsPrefix lines (all_lines heading entries) → (some : List Entry) × IsPrefix some entries × AreFrontLines heading some lines
    front_of_lines heading [] entries p = ([], (entries, refl), refl)
    front_of_lines heading (line ∷ lines) entries p =
        let tail = map entry_line entries ++ ending heading in
        let s = first_lines heading entries lines (p.0, rest_of line (heading_line heading) (lines ++ p.0) tail p.1) in
        (s.some, s.first, (first_of line (heading_line heading) (lines ++ p.0) tail p.1, s.lines_are))
front_behind heading (Some there) bytes rest entries holds all =
    let known : All IsUnended (all_lines heading (there ++ entries)) = whole_unended heading (there ++ entries) holds in
    let whole : All IsUnended (map entry_line (there ++ entries) ++ ending heading) = All-tail IsUnended (heading_line heading) (map entry_line (there ++ entries) ++ ending heading) known in
    let split : map entry_line (there ++ entries) ++ ending heading ≡ map entry_line there ++ (map entry_line entries ++ ending heading) =
    ap (λ (ls : List (List ℕ)). ls ++ ending heading) (map-append entry_line there entries) ∙ append_assoc (map entry_line there) (map entry_line entries) (ending heading) in
    let parts : All IsUnended (map entry_line there ++ (map entry_line entries ++ ending heading)) = subst (All IsUnended) split whole in
    let new : All IsUnended (map entry_line entries ++ ending heading) = All-later IsUnended (map entry_line there) (map entry_line entries ++ ending heading) parts in
    let old : All IsUnended (heading_line heading ∷ map entry_line there) =
    All-cons IsUnended (heading_line heading) (map entry_line there) (All-head IsUnended (heading_line heading) (map entry_line (there ++ entries) ++ ending heading) known)
    (All-earlier IsUnended (map entry_line there) (map entry_line entries ++ ending heading) parts) in
    let s = first_lines heading entries (whole_lines_of bytes)
    (lines_of_front bytes rest (map entry_line entries ++ ending heading) new (all ∙ sym (flat_map-append (λ (line : List ℕ). line ++ 10 ∷ []) (map entry_line entries) (ending heading)))) in
    (s.some, s.first, subst (AreFrontLines heading (there ++ s.some)) (sym (lines_there heading there bytes old)) (refl, behind heading there s.some (whole_lines_of bytes) s.lines_are))
  where
    behind : (heading : Option LogHeading) (there some : List Entry) (lines : List (List ℕ)) → AreEntryLines heading some lines → AreEntryLines heading (there ++ some) (map entry_line there ++ lines)
    behind heading there some lines (inl same) = inl (ap (λ (ls : List (List ℕ)). map entry_line there ++ ls) same ∙ sym (map-append entry_line there some))
    behind heading there some lines (inr same) =
        inr (
        ap (λ (ls : List (List ℕ)). map entry_line there ++ ls) same ∙ sym (append_assoc (map entry_line there) (map entry_line some) (ending heading))
        ∙ ap (λ (ls : List (List ℕ)). ls ++ ending heading) (sym (map-append entry_line there some)))

-- all entries, with more after
all_entries_more : (there : Option (List Entry)) (some rest : List Entry) → all_entries there (some ++ rest) ≡ all_entries there some ++ rest
all_entries_more None some rest = refl
all_entries_more (Some before) some rest = sym (append_assoc before some rest)

-- the last line is after the others
whole_bytes_parts : (entries : List Entry) → whole_bytes entries ≡ front_bytes entries ++ (end_line ++ 10 ∷ [])
whole_bytes_parts entries =
    flat_map-append (λ (line : List ℕ). line ++ 10 ∷ []) (first_line ∷ map entry_line entries) (end_line ∷ [])
    ∙ ap (λ (bs : List ℕ). front_bytes entries ++ bs) (append-nil (end_line ++ 10 ∷ []))

-- one entry more is after the others
lines_more : (lines : List (List ℕ)) (entries : List Entry) (entry : Entry) → ended (lines ++ map entry_line (entries ++ entry ∷ [])) ≡ ended (lines ++ map entry_line entries) ++ (entry_line entry ++ 10 ∷ [])
lines_more lines entries entry =
    let all : lines ++ map entry_line (entries ++ entry ∷ []) ≡ (lines ++ map entry_line entries) ++ entry_line entry ∷ [] =
    ap (λ (ls : List (List ℕ)). lines ++ ls) (map-append entry_line entries (entry ∷ [])) ∙ sym (append_assoc lines (map entry_line entries) (entry_line entry ∷ [])) in
    ap ended all ∙ flat_map-append (λ (line : List ℕ). line ++ 10 ∷ []) (lines ++ map entry_line entries) (entry_line entry ∷ [])
    ∙ ap (λ (bs : List ℕ). ended (lines ++ map entry_line entries) ++ bs) (append-nil (entry_line entry ++ 10 ∷ []))

bytes_more : (heading : Option LogHeading) (there : Option (List Entry)) (entries : List Entry) (entry : Entry) → bytes_behind heading there (entries ++ entry ∷ []) ≡ bytes_behind heading there entries ++ (entry_line entry ++ 10 ∷ [])
bytes_more heading None entries entry = lines_more (heading_line heading ∷ []) entries entry
bytes_more heading (Some before) entries entry = lines_more [] entries entry

-- what was written of a text, or of it and the last line, is a prefix
got_front : (heading : Option LogHeading) (there : Option (List Entry)) (start contents : Option (List ℕ)) (entries : List Entry) → WritesFront start [] contents (bytes_behind heading there entries ++ ended (ending heading)) → AreTrueOf heading (all_entries there entries)
    → GotFrontOf heading there start contents entries
got_front heading there start contents entries w holds =
    let f = front_behind heading there w.written.sent w.unsent entries holds (sym w.written.all) in
    let all : all_entries there entries ≡ all_entries there f.0 ++ f.1.0 = ap (all_entries there) (sym f.1.1) ∙ all_entries_more there f.0 f.1.0 in
    record {
      bytes = w.written.sent;
      got = w.written.appended;
      some = f.0;
      first = f.1;
      front = record { lines = f.2; all_true = true_begin heading (all_entries there f.0) f.1.0 (subst (AreTrueOf heading) all holds) };
    }

-- of the text with the last line
got_whole_front : (start contents : Option (List ℕ)) (entries : List Entry) → WritesFront start [] contents (whole_bytes entries) → AreTrueAfter [] 0 entries → GotFront start contents entries
got_whole_front start contents entries w holds =
    let parts : whole_bytes entries ≡ front_bytes entries ++ ended (end_line ∷ []) = flat_map-append (λ (line : List ℕ). line ++ 10 ∷ []) (first_line ∷ map entry_line entries) (end_line ∷ []) in
    got_front None None start contents entries (subst (WritesFront start [] contents) parts w) holds

-- a prefix of the text of entries is one of the text with the last line
front_of_whole : (start contents : Option (List ℕ)) (entries : List Entry) → WritesFront start [] contents (front_bytes entries) → WritesFront start [] contents (whole_bytes entries)
front_of_whole start contents entries w = rw (whole_bytes_parts entries) (WritesFront-longer (end_line ++ 10 ∷ []) w)

-- the whole text is a prefix with all entries
whole_front : (entries : List Entry) → AreTrueAfter [] 0 entries → IsFront (whole_bytes entries) entries
whole_front entries holds = record {
  lines = subst (AreFrontLines None entries) (sym (whole_lines_of_text (all_lines None entries) (whole_unended None entries holds))) (refl, inr refl);
  all_true = holds;
}

-- the text of entries without the last line is a prefix with these entries
pub entry_lines_front : (heading : Option LogHeading) (entries : List Entry) → AreTrueOf heading entries → IsFrontOf heading (front_bytes_of heading entries) entries
entry_lines_front heading entries holds =
    let lines = heading_line heading ∷ map entry_line entries in
    let none : All IsUnended lines = All-earlier IsUnended lines (ending heading) (whole_unended heading entries holds) in
    record { lines = subst (AreFrontLines heading entries) (sym (whole_lines_of_text lines none)) (refl, inl refl); all_true = holds }

-- ---- what a transcript writer does

-- what was written is a prefix of the text, whether a write has failed or not
pub front_written : (failed : Bool) (start contents : Option (List ℕ)) (held text : List ℕ) → WroteOrHolds failed start contents held text → WritesFront start [] contents text
front_written false start contents held text w = record { unsent = held; written = w }
front_written true start contents held text w = w

-- who wrote or holds the text of entries was given them
was_given : (heading : Option LogHeading) (there : Option (List Entry)) (start : Option (List ℕ)) (entries : List Entry) (contents : Option (List ℕ)) (held : List ℕ) (failed : Bool)
    → WroteOrHolds failed start contents held (bytes_behind heading there entries) → WasGivenOf heading there start entries record { contents = contents; held = held; failed = failed }
was_given heading there start entries contents held failed text = record {
  text = text;
  front = got_front heading there start contents entries (WritesFront-longer (ended (ending heading)) (front_written failed start contents held (bytes_behind heading there entries) text));
}

-- nothing but the first line is held, or nothing if the writer goes on
pub unused : (heading : Option LogHeading) (there : Option (List Entry)) (start : Option (List ℕ)) (held : List ℕ) → held ≡ bytes_behind heading there [] → WasGivenOf heading there start [] record { contents = start; held = held; failed = false }
unused heading there start held is = was_given heading there start [] start held false (Writes-put start [] held (bytes_behind heading there []) is)

module _ (old contents : Option (List ℕ)) (was held : List ℕ) where
  -- no more was given, and it is held or was written
  pub adds_none : (failed : Bool) → failed ≡ false → Writes old was contents held [] → Adds record { contents = old; held = was; failed = failed } [] record { contents = contents; held = held; failed = failed }
  adds_none failed fine put = rw fine (λ heading there start entries taken.
      rw (append-nil entries) (was_given heading there start entries contents held false (rw (append-nil (bytes_behind heading there entries)) at (Writes-trans taken.text put))))

  -- or a write failed
  pub adds_failure : (failed : Bool) → failed ≡ false → WritesFront old was contents [] → Adds record { contents = old; held = was; failed = failed } [] record { contents = contents; held = held; failed = true }
  adds_failure failed fine front = rw fine (λ heading there start entries taken.
      rw (append-nil entries) (was_given heading there start entries contents held true (rw (append-nil (bytes_behind heading there entries)) at (WritesFront-after taken.text front))))

  -- an entry's line was put
  pub adds_one : (entry : Entry) (failed : Bool) → failed ≡ false → Writes old was contents held (entry_line entry ++ 10 ∷ []) → Adds record { contents = old; held = was; failed = failed } (entry ∷ []) record { contents = contents; held = held; failed = failed }
  adds_one entry failed fine put = rw fine (λ heading there start entries taken.
      was_given heading there start (entries ++ entry ∷ []) contents held false (rw (bytes_more heading there entries entry) (Writes-trans taken.text put)))

  -- or this write failed
  pub adds_lost : (entry : Entry) (failed : Bool) → failed ≡ false → WritesFront old was contents [] → Adds record { contents = old; held = was; failed = failed } (entry ∷ []) record { contents = contents; held = held; failed = true }
  adds_lost entry failed fine front = rw fine (λ heading there start entries taken.
      let text : WritesFront start [] contents (bytes_behind heading there entries) = rw (append-nil (bytes_behind heading there entries)) at (WritesFront-after taken.text front) in
      was_given heading there start (entries ++ entry ∷ []) contents held true (rw (bytes_more heading there entries entry) (WritesFront-longer (entry_line entry ++ 10 ∷ []) text)))

-- or one before
pub adds_missed : (entry : Entry) (s : WritingState) → s.failed ≡ true → Adds s (entry ∷ []) s
adds_missed entry s failed = λ heading there start entries taken.
    let text : WritesFront start [] s.contents (bytes_behind heading there entries) = rw failed at taken.text in
    subst (λ (f : Bool). WasGivenOf heading there start (entries ++ entry ∷ []) record { contents = s.contents; held = s.held; failed = f }) (sym failed)
    (was_given heading there start (entries ++ entry ∷ []) s.contents s.held true (rw (bytes_more heading there entries entry) (WritesFront-longer (entry_line entry ++ 10 ∷ []) text)))

-- nothing happened
pub adds_nothing : (s : WritingState) → Adds s [] s
adds_nothing s heading there start entries taken = rw (append-nil entries) taken

-- entries, and others after them
pub adds_both : (old mid new : WritingState) (first second : List Entry) → Adds old first mid → Adds mid second new → Adds old (first ++ second) new
adds_both old mid new first second one two heading there start entries taken =
    subst (λ (es : List Entry). WasGivenOf heading there start es new) (append_assoc entries first second) (two heading there start (entries ++ first) (one heading there start entries taken))

-- one more of a list
pub adds_next : {X : Type 0} (f : X → Entry) (xs : List X) (i : ℕ) (d : X) (old mid new : WritingState) → i < length xs → Adds old (map f (take i xs)) mid → Adds mid (f (get_or xs i d) ∷ []) new → Adds old (map f (take (i + 1) xs)) new
adds_next f xs i d old mid new there first one =
    subst (λ (es : List Entry). Adds old es new) (sym (ap (map f) (take_more xs i d there) ∙ map-append f (take i xs) (get_or xs i d ∷ [])))
    (adds_both old mid new (map f (take i xs)) (f (get_or xs i d) ∷ []) first one)

-- one more after those that were given
pub adds_after : {X : Type 0} (f : X → Entry) (done : List X) (x : X) (old mid new : WritingState) → Adds old (map f done) mid → Adds mid (f x ∷ []) new → Adds old (map f (done ++ x ∷ [])) new
adds_after f done x old mid new first one =
    subst (λ (es : List Entry). Adds old es new) (sym (map-append f done (x ∷ []))) (adds_both old mid new (map f done) (f x ∷ []) first one)

-- ---- the last line

module _ (start : Option (List ℕ)) (entries : List Entry) (s : WritingState) (was : WasGiven start entries s) where
  -- the last line was put, and all was written
  whole_written : (contents : Option (List ℕ)) (held : List ℕ) → s.failed ≡ false → held ≡ [] → Writes s.contents s.held contents held (end_line ++ 10 ∷ []) → EndsWhole start contents entries (Ok tt)
  whole_written contents held fine none put =
      let text : Writes start [] s.contents s.held (front_bytes entries) = rw fine at was.text in
      let all : Writes start [] contents [] (whole_bytes entries) = subst (λ (h : List ℕ). Writes start [] contents h (whole_bytes entries)) none (rw (whole_bytes_parts entries) (Writes-trans text put)) in
      (Writes-all start contents (whole_bytes entries) all, whole_front entries)

  -- or not
  whole_unwritten : (contents : Option (List ℕ)) (fault : Fault) → s.failed ≡ false → WritesFront s.contents s.held contents (end_line ++ 10 ∷ []) → EndsWhole start contents entries (Err fault)
  whole_unwritten contents fault fine front =
      let text : Writes start [] s.contents s.held (front_bytes entries) = rw fine at was.text in
      let all : WritesFront start [] contents (whole_bytes entries) = rw (whole_bytes_parts entries) (WritesFront-after text front) in
      (all, got_whole_front start contents entries all)

  -- or a write had failed before
  pub whole_missed : (fault : Fault) → EndsWhole start s.contents entries (Err fault)
  whole_missed fault = (front_of_whole start s.contents entries (front_written s.failed start s.contents s.held (front_bytes entries) was.text), was.front)

-- what became of the last line, if no write had failed before
pub whole_ends : (start : Option (List ℕ)) (entries : List Entry) (s : WritingState) → WasGiven start entries s → (contents : Option (List ℕ)) (held : List ℕ) (result : Result Unit Fault) → s.failed ≡ false
    → OnOk result ((held ≡ []) × Writes s.contents s.held contents held (end_line ++ 10 ∷ []))
    → IfErr result (λ fault. (fault ≡ WriteFault) × WritesFront s.contents s.held contents (end_line ++ 10 ∷ []))
    → EndsWhole start contents entries result
whole_ends start entries s was contents held (Ok u) fine ok err = whole_written start entries s was contents held fine ok.0 ok.1
whole_ends start entries s was contents held (Err fault) fine ok err = whole_unwritten start entries s was contents fault fine err.1

-- a text was put, and all that is held was sent
pub last_sent : {T : Type 0} (a b c : Option (List ℕ)) (old mid last left text : List ℕ) (result : Result T Fault) → Writes a old b mid [] → last ≡ mid ++ text
    → OnOk result ((left ≡ []) × Appends b c last) → OnOk result ((left ≡ []) × Writes a old c left text)
last_sent a b c old mid last left text (Ok x) room put sent =
    (sent.0, rw (append-nil text) at (Writes-trans (Writes-trans room (Writes-put b mid last text put)) (Writes-sent b c last left sent)))
last_sent a b c old mid last left text (Err fault) room put sent = tt

-- or no more than a prefix of it
pub last_unsent : {T : Type 0} (a b c : Option (List ℕ)) (old mid last text : List ℕ) (result : Result T Fault) → Writes a old b mid [] → last ≡ mid ++ text
    → IfErr result (λ fault. (fault ≡ WriteFault) × WritesFront b last c []) → IfErr result (λ fault. (fault ≡ WriteFault) × WritesFront a old c text)
last_unsent a b c old mid last text (Ok x) room put unsent = tt
last_unsent a b c old mid last text (Err fault) room put unsent =
    (unsent.0, rw (append-nil text) at (WritesFront-after (Writes-trans room (Writes-put b mid last text put)) unsent.1))

-- ---- edits, and then answers

module _ (edits : List Edit) (answers : List Claimed) where
  -- the text of these is a transcript
  transcript_bytes : whole_bytes (map inl edits ++ map inr answers) ≡ transcript_text edits answers
  transcript_bytes = ap ended (lines_in_order edits answers)

  transcribes : (start contents : Option (List ℕ)) (result : Result Unit Fault) → EndsWhole start contents (map inl edits ++ map inr answers) result → IfErr result (λ fault. fault ≡ WriteFault) → Transcribes start contents (transcript_text edits answers) result
  transcribes start contents (Ok u) ends late = subst (Appends start contents) transcript_bytes ends.0
  transcribes start contents (Err fault) ends late = rw late (subst (WritesFront start [] contents) transcript_bytes ends.0)

  -- a writer that was given nothing before was given them, and ended
  pub transcribed : (unused given with_answers : WritingState) (contents : Option (List ℕ)) (result : Result Unit Fault) → WasGiven unused.contents [] unused → Adds unused (map inl edits) given → Adds given (map inr answers) with_answers
      → ((start : Option (List ℕ)) (entries : List Entry) → WasGiven start entries with_answers → EndsWhole start contents entries result) → IfErr result (λ fault. fault ≡ WriteFault) → Transcribes unused.contents contents (transcript_text edits answers) result
  transcribed unused given with_answers contents result none first second ends late =
      transcribes unused.contents contents result (ends unused.contents (map inl edits ++ map inr answers) (adds_both unused given with_answers (map inl edits) (map inr answers) first second None None unused.contents [] none)) late

  -- accepted edits, and true answers in order, have a sound text
  pub sound_text : All CarriesElement edits → AreInOrder answers → AreAccepted greatest edits → All (IsTrueAnswer edits) answers → IsSoundTranscript (transcript_text edits answers)
  sound_text elements order accepted holds = record { edits = edits; answers = answers; text = inl refl; elements = elements; accepted = accepted; order = order; all_true = holds }
