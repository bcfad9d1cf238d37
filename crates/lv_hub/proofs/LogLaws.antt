-- The entries that a log is given are true in the order of time.
use Rattle.std.proofs.Common.{◌≡◌, ◌⊎◌, ℕ, ℤ, ◌+◌, ◌-◌, ◌^◌, ◌≤◌, Bool, false, true, is_some, Option, Some, None, Result, Ok, Err, IfSome, option_map, List, [], ◌∷◌, ◌++◌, All, length, map, take, drop, refl, sym, ap, ◌∙◌, subst, inl, inr, arith, append_assoc, append-nil, take-append-drop}
use Rattle.std.proofs.lemmas.List.{drop-append-le, length-append, length-drop, length-map, length_push, map-append, take-append-le, take_all}
use Rattle.std.proofs.lemmas.Grind.{flat_map-append}
use Rattle.std.proofs.Math.Seq.{drop-length}
use Rattle.std.specs.Io.KnownBytes.{Appends}
use mathlib.Core.List.{IsPrefix}
use Rattle.lv_geometry.specs.Bounds.{Bounds}
use Rattle.lv_geometry.specs.Elements.{IsElement}
use Rattle.lv_edits.specs.declared.edit.Edit.{Edit}
use Rattle.lv_edits.specs.declared.edit.Edit.TheVariants.{Push}
use Rattle.lv_edits.specs.History.{list_of}
use Rattle.lv_edits.specs.Kept.{CarriesElement}
use Rattle.lv_lines.specs.declared.fault.Fault.{Fault}
use Rattle.lv_lines.specs.declared.fault.Fault.TheVariants.{WriteFault}
use Rattle.lv_transcript.specs.declared.claimed.Claimed.{Claimed}
use Rattle.lv_lines.specs.Output.{Writes}
use Rattle.lv_lines.proofs.OutputLemmas.{Writes-all}
use Rattle.lv_transcript.specs.declared.log_heading.LogHeading.{LogHeading}
use Rattle.lv_transcript.specs.Fronts.{AreTrueAfter, AreTrueOf, Entry, IsFrontOf, IsPush, IsWholeFront, edits_in, entry_line}
use Rattle.lv_transcript.specs.Transcribing.{Adds, EndsWhole, GoesOn, GotFrontOf, IsUnused, IsUnusedOf, WasGiven, WasGivenOf, WriterState, WritingState, WroteOrHolds, all_entries, bytes_behind, front_bytes_of, state_with}
use Rattle.lv_transcript.specs.Logs.{HasLog, LogThere, MayGoOn, edits_there, heading_of, log_of_edits, pushes_of_elements, there_of}
use Rattle.lv_transcript.specs.Transcript.{AreAccepted, AreAcceptedAfter, IsHeading, IsTrueAnswer, ended, greatest, heading_line}
use Rattle.lv_transcript.proofs.ContinuedLogs.{edits_of_edits, found_goes_on}
use Rattle.lv_transcript.proofs.LogTexts.{log_is_sound}
use Rattle.lv_transcript.proofs.ReplayLemmas.{list_of_none}
use Rattle.lv_transcript.proofs.TranscribedFronts.{entry_lines_front, unused}
use Rattle.lv_hub.specs.declared.log_entry.LogEntry.{LogEntry}
use Rattle.lv_hub.specs.declared.log_entry.LogEntry.TheVariants as logged
use Rattle.lv_hub.specs.Logging.{AreLasting, BeginsAnew, CameSince, EndsInFile, EndsText, HasFront, HasAll, HasAllOfFile, HasFrontOfFile, IsLogInFile, IsLogOf, LogEnds, LogFile, LogState, TapState, Taps, WereRecorded, entry_of, heading_after, last_after, log_after, with_entry}
use Rattle.lv_history.specs.Numbering.{told_number}
use Rattle.lv_hub.specs.Renewing.{IsOfOneVector, lasting, renewed_after}
use Rattle.lv_history.proofs.PrefixLaws.{prefix_length, prefix_self, prefix_whole}
use Rattle.lv_hub.proofs.RenewalLaws.{renewed_never, renewed_prefix}

-- ---- entries

-- the updates among two lists of entries, one after the other
pub edits_in_both : (first second : List Entry) → edits_in (first ++ second) ≡ edits_in first ++ edits_in second
edits_in_both [] second = refl
edits_in_both (inl e ∷ first) second = ap (λ (es : List Edit). e ∷ es) (edits_in_both first second)
edits_in_both (inr answer ∷ first) second = edits_in_both first second

-- the last answer among two lists of entries, one after the other
pub last_of_both : (last : ℕ) (first second : List Entry) → last_after last (first ++ second) ≡ last_after (last_after last first) second
last_of_both last [] second = refl
last_of_both last (inl e ∷ first) second = last_of_both last first second
last_of_both last (inr answer ∷ first) second = last_of_both answer.edit first second

-- entries that are true after true entries are true together with these
pub true_both : (before : List Edit) (last : ℕ) (first second : List Entry) → AreTrueAfter before last first → AreTrueAfter (before ++ edits_in first) (last_after last first) second → AreTrueAfter before last (first ++ second)
true_both before last [] second holds later = subst (λ (es : List Edit). AreTrueAfter es last second) (append-nil before) later
true_both before last (inl e ∷ first) second holds later =
    (holds.0, holds.1, true_both (before ++ e ∷ []) last first second holds.2 (subst (λ (es : List Edit). AreTrueAfter es (last_after last first) second) (sym (append_assoc before (e ∷ []) (edits_in first))) later))
true_both before last (inr answer ∷ first) second holds later = (holds.0, holds.1, true_both before answer.edit first second holds.2 later)

-- entries that are true after an answer are also true after one of an earlier version
pub true_sooner : (before : List Edit) (last sooner : ℕ) (entries : List Entry) → sooner ≤ last → AreTrueAfter before last entries → AreTrueAfter before sooner entries
true_sooner before last sooner [] le holds = tt
true_sooner before last sooner (inl e ∷ entries) le holds = (holds.0, holds.1, true_sooner (before ++ e ∷ []) last sooner entries le holds.2)
true_sooner before last sooner (inr answer ∷ entries) le holds = (omega (arith, le, holds.0), holds.1, holds.2)

pub last_sooner : (last sooner : ℕ) (entries : List Entry) → sooner ≤ last → last_after sooner entries ≤ last_after last entries
last_sooner last sooner [] le = le
last_sooner last sooner (inl e ∷ entries) le = last_sooner last sooner entries le
last_sooner last sooner (inr answer ∷ entries) le = omega arith

-- the updates after the first ones are accepted after these
accepted_later : (before first rest : List Edit) → AreAcceptedAfter greatest before (first ++ rest) → AreAcceptedAfter greatest (before ++ first) rest
accepted_later before [] rest accepted = subst (λ (es : List Edit). AreAcceptedAfter greatest es rest) (sym (append-nil before)) accepted
accepted_later before (e ∷ first) rest accepted =
    subst (λ (es : List Edit). AreAcceptedAfter greatest es rest) (append_assoc before (e ∷ []) first) (accepted_later (before ++ e ∷ []) first rest accepted.1)

-- ---- what came since

-- the edits of a journal: those before, and those that came since
pub all_edits : (journal : List Edit) (from : ℕ) (entries : List Entry) → CameSince journal from entries → take from journal ++ edits_in entries ≡ journal
all_edits journal from entries came = ap (λ (es : List Edit). take from journal ++ es) came.edits_are ∙ take-append-drop from journal

-- nothing came
came_none : (journal : List Edit) → CameSince journal (length journal) []
came_none journal = record { within = omega arith; edits_are = sym (drop-length journal); all_true = tt; in_time = omega arith }

-- one more update came
came_edit : (journal : List Edit) (from : ℕ) (entries : List Entry) (e : Edit) → CarriesElement e → AreAccepted greatest (journal ++ e ∷ []) → CameSince journal from entries → CameSince (journal ++ e ∷ []) from (entries ++ inl e ∷ [])
came_edit journal from entries e element accepted came =
    let same : take from (journal ++ e ∷ []) ≡ take from journal = take-append-le from journal (e ∷ []) came.within in
    let free = (accepted_later [] journal (e ∷ []) accepted).0 in
    record {
      within = omega (arith, came.within, length_push journal e);
      edits_are = edits_in_both entries (inl e ∷ []) ∙ ap (λ (es : List Edit). es ++ e ∷ []) came.edits_are ∙ sym (drop-append-le from journal (e ∷ []) came.within);
      all_true =
          subst (λ (es : List Edit). AreTrueAfter es from (entries ++ inl e ∷ [])) (sym same)
          (true_both (take from journal) from entries (inl e ∷ []) came.all_true
          (subst (λ (es : List Edit). AreTrueAfter es (last_after from entries) (inl e ∷ [])) (sym (all_edits journal from entries came)) (element, free, tt)));
      in_time = omega (arith, came.in_time, last_of_both from entries (inl e ∷ []), length_push journal e);
    }

-- one more answer came, at the last version
came_answer : (journal : List Edit) (from : ℕ) (entries : List Entry) (answer : Claimed) → IsTrueAnswer journal answer → answer.edit ≡ length journal → CameSince journal from entries → CameSince journal from (entries ++ inr answer ∷ [])
came_answer journal from entries answer holds now came = record {
  within = came.within;
  edits_are = edits_in_both entries (inr answer ∷ []) ∙ append-nil (edits_in entries) ∙ came.edits_are;
  all_true =
      true_both (take from journal) from entries (inr answer ∷ []) came.all_true
      (subst (λ (es : List Edit). AreTrueAfter es (last_after from entries) (inr answer ∷ [])) (sym (all_edits journal from entries came)) (omega (arith, came.in_time, now), holds, tt));
  in_time = omega (arith, now, last_of_both from entries (inr answer ∷ []));
}

-- a tap takes in an update
pub taps_edit : (tap : Option TapState) (journal : List Edit) (e : Edit) → IfSome tap (λ _. CarriesElement e) → AreAccepted greatest (journal ++ e ∷ []) → IfSome tap (Taps journal) → IfSome (option_map (with_entry (logged.Edit e)) tap) (Taps (journal ++ e ∷ []))
taps_edit None journal e element accepted taps = tt
taps_edit (Some t) journal e element accepted taps =
    subst (CameSince (journal ++ e ∷ []) t.from) (sym (map-append entry_of t.entries (logged.Edit e ∷ []))) (came_edit journal t.from (map entry_of t.entries) e element accepted taps)

-- it takes in an answer
pub taps_answer : (tap : Option TapState) (journal : List Edit) (answer : Claimed) → IsTrueAnswer journal answer → answer.edit ≡ length journal → IfSome tap (Taps journal) → IfSome (option_map (with_entry (logged.Answer answer)) tap) (Taps journal)
taps_answer None journal answer holds now taps = tt
taps_answer (Some t) journal answer holds now taps =
    subst (CameSince journal t.from) (sym (map-append entry_of t.entries (logged.Answer answer ∷ []))) (came_answer journal t.from (map entry_of t.entries) answer holds now taps)

-- a tap without entries, from the last version on
pub taps_none : (tap : Option TapState) (journal : List Edit) (edits : ℕ) → edits ≡ length journal → IfSome tap (λ t. t ≡ record { from = edits; entries = []; room = t.room; given = t.given }) → IfSome tap (Taps journal)
taps_none None journal edits last none = tt
taps_none (Some t) journal edits last none =
    subst (Taps journal) (sym none) (subst (λ (n : ℕ). CameSince journal n []) (sym last) (came_none journal))

-- what a tap handed over came since its version
pub came_by : (tap : Option TapState) (journal : List Edit) (entries : List LogEntry) (result : Option ℕ) → result ≡ option_map (λ t. t.from) tap → IfSome tap (λ t. entries ≡ t.entries) → IfSome tap (Taps journal) → IfSome result (λ from. CameSince journal from (map entry_of entries))
came_by None journal entries result is same taps = subst (λ (o : Option ℕ). IfSome o (λ from. CameSince journal from (map entry_of entries))) (sym is) tt
came_by (Some t) journal entries result is same taps =
    subst (λ (o : Option ℕ). IfSome o (λ from. CameSince journal from (map entry_of entries))) (sym is)
    (subst (λ (es : List LogEntry). CameSince journal t.from (map entry_of es)) (sym same) taps)

-- ---- what continues a log

-- no answer among true entries has a later version than the last one
last_within : (before : List Edit) (last : ℕ) (entries : List Entry) → last ≤ length before → AreTrueAfter before last entries → last_after last entries ≤ length (before ++ edits_in entries)
last_within before last [] le holds = omega (arith, le, ap length (append-nil before))
last_within before last (inl e ∷ entries) le holds =
    omega (arith, last_within (before ++ e ∷ []) last entries (omega (arith, le, length_push before e)) holds.2, ap length (append_assoc before (e ∷ []) (edits_in entries)))
last_within before last (inr answer ∷ entries) le holds = last_within before answer.edit entries holds.1.edit holds.2

-- what is true after the updates of a log is true as a whole
true_behind : (log : Option LogThere) (entries : List Entry) → MayGoOn log → AreTrueAfter (edits_there log) (length (edits_there log)) entries → AreTrueOf (heading_of log) (all_entries (there_of log) entries)
true_behind None entries goes holds = holds
true_behind (Some log) entries goes holds =
    let sooner : last_after 0 log.entries ≤ length (edits_in log.entries) = last_within [] 0 log.entries (omega arith) goes.all_true.all_true in
    record {
      numbers = goes.all_true.numbers;
      all_true = true_both [] 0 log.entries entries goes.all_true.all_true (true_sooner (edits_in log.entries) (length (edits_in log.entries)) (last_after 0 log.entries) entries sooner holds);
      pushes = subst (All IsPush) (sym (take-append-le log.heading.elements log.entries entries goes.elements)) goes.all_true.pushes;
    }

-- the text of entries after the text of others is the text of both
text_of_both : (heading : Option LogHeading) (there entries : List Entry) → front_bytes_of heading there ++ ended (map entry_line entries) ≡ front_bytes_of heading (there ++ entries)
text_of_both heading there entries =
    sym (flat_map-append (λ line. line ++ 10 ∷ []) (heading_line heading ∷ map entry_line there) (map entry_line entries))
    ∙ ap (λ (lines : List (List ℕ)). ended (heading_line heading ∷ lines)) (sym (map-append entry_line there entries))

-- a valid log remains one
pub stays_a_log : (heading : LogHeading) (there entries : List Entry) (edits : List Edit) → IsWholeFront (Some heading) (front_bytes_of (Some heading) there) there → edits ≡ edits_in there → AreTrueAfter edits (length edits) entries
    → IsWholeFront (Some heading) (front_bytes_of (Some heading) there ++ ended (map entry_line entries)) (there ++ entries)
stays_a_log heading there entries edits sound same holds =
    let log : LogThere = record { heading = heading; entries = there } in
    let all = true_behind (Some log) entries record { all_true = sound.front.all_true; elements = sound.elements } (subst (λ (es : List Edit). AreTrueAfter es (length es) entries) same holds) in
    record {
      front = subst (λ (bytes : List ℕ). IsFrontOf (Some heading) bytes (there ++ entries)) (sym (text_of_both (Some heading) there entries)) (entry_lines_front (Some heading) (there ++ entries) all);
      elements = omega (arith, sound.elements, length-append there entries);
    }

-- ---- the log

-- the prefix of a list, taken by its length
pub take_begin : (xs ys : List Edit) → IsPrefix xs ys → take (length xs) ys ≡ xs
take_begin xs ys more =
    ap (take (length xs)) (sym more.1) ∙ take-append-le (length xs) xs more.0 (omega arith) ∙ take_length xs
  where
    take_length : (xs : List Edit) → take (length xs) xs ≡ xs
    take_length [] = refl
    take_length (x ∷ xs) = ap (λ (es : List Edit). x ∷ es) (take_length xs)

-- if nothing is buffered, and no write has failed, the text was written
pub all_written : (start : Option (List ℕ)) (s : WritingState) (text : List ℕ) → s.failed ≡ false → s.held ≡ [] → WroteOrHolds s.failed start s.contents s.held text → Appends start s.contents text
all_written start s text fine none wrote =
    Writes-all start s.contents text (subst (λ (held : List ℕ). Writes start [] s.contents held text) none (sent s.failed fine wrote))
  where
    sent : (failed : Bool) → failed ≡ false → WroteOrHolds failed start s.contents s.held text → Writes start [] s.contents s.held text
    sent failed ok wrote = rw ok at wrote

module _ (log : Option LogThere) (start : Option (List ℕ)) where
  -- the log of a hub that has the updates that were there
  unfoldable pub log_begins : (written : WritingState) (seen : List Edit) (taken : ℕ) → MayGoOn log → seen ≡ edits_there log → WasGivenOf (heading_of log) (there_of log) start [] written → IsLogOf log start record { written = written; seen = seen; taken = taken }
  log_begins written seen taken goes same given = record {
    entries = [];
    goes_on = goes;
    given = given;
    all_true = tt;
    edits_are = append-nil (edits_there log) ∙ sym same;
    in_time = omega (arith, ap length same);
  }

  -- what came since was given to the log
  unfoldable pub log_more : (s : LogState) (journal : List Edit) (entries : List Entry) (written : WritingState) (taken : ℕ) → IsLogOf log start s → IsPrefix s.seen journal → CameSince journal (length s.seen) entries → Adds s.written entries written → IsLogOf log start record { written = written; seen = journal; taken = taken }
  log_more s journal entries written taken was more came gives =
      let there : List Edit = edits_there log in
      let seen : take (length s.seen) journal ≡ s.seen = take_begin s.seen journal more in
      let before : take (length s.seen) journal ≡ there ++ edits_in was.entries = seen ∙ sym was.edits_are in
      let later : AreTrueAfter (there ++ edits_in was.entries) (last_after (length there) was.entries) entries =
      true_sooner (there ++ edits_in was.entries) (length s.seen) (last_after (length there) was.entries) entries was.in_time (subst (λ (es : List Edit). AreTrueAfter es (length s.seen) entries) before came.all_true) in
      record {
        entries = was.entries ++ entries;
        goes_on = was.goes_on;
        given = gives (heading_of log) (there_of log) start was.entries was.given;
        all_true = true_both there (length there) was.entries entries was.all_true later;
        edits_are =
            ap (λ (es : List Edit). there ++ es) (edits_in_both was.entries entries) ∙ sym (append_assoc there (edits_in was.entries) (edits_in entries))
            ∙ ap (λ (es : List Edit). es ++ edits_in entries) (sym before) ∙ all_edits journal (length s.seen) entries came;
        in_time = omega (arith, ap (λ (n : ℕ). n) (last_of_both (length there) was.entries entries), last_sooner (length s.seen) (last_after (length there) was.entries) entries was.in_time, came.in_time);
      }

  -- what was buffered is written, or the write failed
  unfoldable pub log_rests : (s : LogState) (written : WritingState) → IsLogOf log start s → Adds s.written [] written → IsLogOf log start record s { written = written }
  log_rests s written was rests = record {
    entries = was.entries;
    goes_on = was.goes_on;
    given = subst (λ (es : List Entry). WasGivenOf (heading_of log) (there_of log) start es written) (append-nil was.entries) (rests (heading_of log) (there_of log) start was.entries was.given);
    all_true = was.all_true;
    edits_are = was.edits_are;
    in_time = was.in_time;
  }

  -- what a log has written is a prefix
  pub log_front : (s : LogState) → IsLogOf log start s → HasFront log start s.written.contents s.seen
  log_front s was = record {
    entries = was.entries;
    begins = subst (λ (es : List Edit). IsPrefix es s.seen) (sym was.edits_are) (prefix_self s.seen);
    got = was.given.front (true_behind log was.entries was.goes_on was.all_true);
  }

  -- if nothing is buffered and no write has failed, all that the log was given is written
  unfoldable pub log_all : (s : LogState) → s.written.failed ≡ false → s.written.held ≡ [] → IsLogOf log start s → HasAll log start s.written.contents s.seen
  log_all s fine none was = record {
    entries = was.entries;
    edits_are = was.edits_are;
    written = all_written start s.written (bytes_behind (heading_of log) (there_of log) was.entries) fine none was.given.text;
  }

-- ---- its end

-- a transcript then has its last line
ends_transcript : (start contents : Option (List ℕ)) (entries : List Entry) (result : Result Unit Fault) → EndsWhole start contents entries result → EndsText None start contents entries result
ends_transcript start contents entries (Ok u) ends = ends
ends_transcript start contents entries (Err fault) ends = ends.1

-- what continues a log is complete once all that was buffered is written
ends_log : (log : LogThere) (start : Option (List ℕ)) (s : WritingState) (entries : List Entry) → s.failed ≡ false → s.held ≡ [] → WasGivenOf (Some log.heading) (Some log.entries) start entries s → EndsText (Some log) start s.contents entries (Ok tt)
ends_log log start s entries fine none given = (
  all_written start s (ended (map entry_line entries)) fine none given.text,
  λ holds. subst (λ (bytes : List ℕ). IsFrontOf (Some log.heading) bytes (log.entries ++ entries)) (sym (text_of_both (Some log.heading) log.entries entries)) (entry_lines_front (Some log.heading) (log.entries ++ entries) holds),
)

-- what was given before the last write is still given after it
given_still : (log : Option LogThere) (start : Option (List ℕ)) (entries : List Entry) (old new : WritingState) → Adds old [] new → WasGivenOf (heading_of log) (there_of log) start entries old → WasGivenOf (heading_of log) (there_of log) start entries new
given_still log start entries old new rests given =
    subst (λ (es : List Entry). WasGivenOf (heading_of log) (there_of log) start es new) (append-nil entries) (rests (heading_of log) (there_of log) start entries given)

pub log_finished : (old new : WritingState) → Adds old [] new → new.failed ≡ false → new.held ≡ [] → (log : LogThere) (start : Option (List ℕ)) (entries : List Entry)
    → WasGivenOf (Some log.heading) (Some log.entries) start entries old → EndsText (Some log) start new.contents entries (Ok tt)
log_finished old new rests fine none log start entries given = ends_log log start new entries fine none (given_still (Some log) start entries old new rests given)

pub log_unfinished : (old new : WritingState) → Adds old [] new → (log : LogThere) (start : Option (List ℕ)) (entries : List Entry)
    → WasGivenOf (Some log.heading) (Some log.entries) start entries old → EndsText (Some log) start new.contents entries (Err WriteFault)
log_unfinished old new rests log start entries given = (given_still (Some log) start entries old new rests given).front

-- the end of a log, and that of a transcript
pub finished_log : (is_log : Bool) (old : WritingState) (contents : Option (List ℕ)) (result : Result Unit Fault) → is_log ≡ true
    → ((log : LogThere) (start : Option (List ℕ)) (entries : List Entry) → WasGivenOf (Some log.heading) (Some log.entries) start entries old → EndsText (Some log) start contents entries result)
    → (log : Option LogThere) (start : Option (List ℕ)) (entries : List Entry) → is_log ≡ is_some log → WasGivenOf (heading_of log) (there_of log) start entries old → EndsText log start contents entries result
finished_log is_log old contents result so ends None start entries same given = absurd (cc (so, same))
finished_log is_log old contents result so ends (Some log) start entries same given = ends log start entries given

pub finished_transcript : (is_log : Bool) (old : WritingState) (contents : Option (List ℕ)) (result : Result Unit Fault) → is_log ≡ false
    → ((start : Option (List ℕ)) (entries : List Entry) → WasGiven start entries old → EndsWhole start contents entries result)
    → (log : Option LogThere) (start : Option (List ℕ)) (entries : List Entry) → is_log ≡ is_some log → WasGivenOf (heading_of log) (there_of log) start entries old → EndsText log start contents entries result
finished_transcript is_log old contents result so ends None start entries same given = ends_transcript start contents entries result (ends start entries given)
finished_transcript is_log old contents result so ends (Some log) start entries same given = absurd (cc (so, same))

-- a writer of either, which was given nothing
pub unused_log : (is_log : Bool) → is_log ≡ true → (s : WriterState) → GoesOn s → (log : Option LogThere) → is_log ≡ is_some log → IsUnusedOf (heading_of log) (there_of log) s
unused_log is_log so s goes None same = absurd (cc (so, same))
unused_log is_log so s goes (Some log) same = goes (Some log.heading) log.entries

pub unused_transcript : (is_log : Bool) → is_log ≡ false → (s : WriterState) → IsUnused s → (log : Option LogThere) → is_log ≡ is_some log → IsUnusedOf (heading_of log) (there_of log) s
unused_transcript is_log so s unused None same = unused
unused_transcript is_log so s unused (Some log) same = absurd (cc (so, same))

-- the end of a log that has all updates, or that hasn't
ended_so : (log : Option LogThere) (start contents : Option (List ℕ)) (s : LogState) (journal : List Edit) (result : Result Unit Fault) (was : IsLogOf log start s) → s.seen ≡ journal → EndsText log start contents was.entries result → LogEnds log start contents journal result
ended_so log start contents s journal (Ok u) was all ends = record {
  entries = was.entries;
  edits_are = was.edits_are ∙ all;
  all_true = was.all_true;
  written = ends.0;
  front = ends.1 (true_behind log was.entries was.goes_on was.all_true);
}
ended_so log start contents s journal (Err fault) was all ends = record {
  entries = was.entries;
  begins = subst (λ (es : List Edit). IsPrefix es journal) (sym (was.edits_are ∙ all)) (prefix_self journal);
  got = ends (true_behind log was.entries was.goes_on was.all_true);
}

pub log_ends : (log : Option LogThere) (start : Option (List ℕ)) (s : LogState) (journal : List Edit) (contents : Option (List ℕ)) (result : Result Unit Fault) → IsLogOf log start s → IsPrefix s.seen journal → length s.seen ≡ length journal
    → ((entries : List Entry) → WasGivenOf (heading_of log) (there_of log) start entries s.written → EndsText log start contents entries result) → LogEnds log start contents journal result
log_ends log start s journal contents result was begins all ends = ended_so log start contents s journal result was (prefix_whole s.seen journal begins (omega (arith, all))) (ends was.entries was.given)

-- what was written at the end is a prefix
got_at_end : (log : Option LogThere) (start contents : Option (List ℕ)) (entries : List Entry) (result : Result Unit Fault) → AreTrueOf (heading_of log) (all_entries (there_of log) entries) → EndsText log start contents entries result → GotFrontOf (heading_of log) (there_of log) start contents entries
got_at_end None start contents entries (Ok u) holds ends = record { bytes = _; got = ends.0; some = entries; first = prefix_self entries; front = ends.1 holds }
got_at_end (Some log) start contents entries (Ok u) holds ends = record { bytes = _; got = ends.0; some = entries; first = prefix_self entries; front = ends.1 holds }
got_at_end log start contents entries (Err fault) holds ends = ends holds

-- the end of a log that hasn't all updates
pub log_ends_short : (log : Option LogThere) (start : Option (List ℕ)) (s : LogState) (journal : List Edit) (contents : Option (List ℕ)) (result : Result Unit Fault) → IsLogOf log start s → IsPrefix s.seen journal
    → ((entries : List Entry) → WasGivenOf (heading_of log) (there_of log) start entries s.written → EndsText log start contents entries result) → HasFront log start contents journal
log_ends_short log start s journal contents result was begins ends = record {
  entries = was.entries;
  begins = subst (λ (es : List Edit). IsPrefix es journal) (sym was.edits_are) begins;
  got = got_at_end log start contents was.entries result (true_behind log was.entries was.goes_on was.all_true) (ends was.entries was.given);
}

-- ---- a vector that was made anew

-- how many updates it has
pub renewed_length : (n : ℕ) (edits : List Edit) → length (renewed_after n edits) ≡ length (list_of (take n edits)) + (length edits - n)
renewed_length n edits =
    omega (arith, length-append (map Push (list_of (take n edits))) (drop n edits), length-map (list_of (take n edits)) Push, length-drop n edits)

-- it was made anew after all updates
renewed_all : (edits : List Edit) → renewed_after (length edits) edits ≡ map Push (list_of (take (length edits) edits))
renewed_all edits = ap (λ (es : List Edit). map Push (list_of (take (length edits) edits)) ++ es) (drop-length edits) ∙ append-nil (map Push (list_of (take (length edits) edits)))

-- its limits
pub lasting_itself : (limits vector : Bounds) → AreLasting limits vector → limits ≡ lasting limits
lasting_itself limits vector are = are.lasts ∙ sym (ap lasting are.lasts)

-- ---- the file of a log

-- the edits of a log of elements
edits_in_pushes : (elements : List ℤ) → edits_in (pushes_of_elements elements) ≡ map Push elements
edits_in_pushes [] = refl
edits_in_pushes (x ∷ elements) = ap (λ (es : List Edit). Push x ∷ es) (edits_in_pushes elements)

-- the first line of the file that begins after all updates
abbrev heading_by : ℕ → ℕ → LogHeading
heading_by base elements = record { base = base; elements = elements }

pub heading_of_all : (told numbers heading : LogHeading) (n : ℕ) (edits : List Edit) (elements : List ℤ) → told ≡ numbers → n ≡ length edits → elements ≡ list_of edits → heading ≡ heading_by (told_number told n) (length elements)
    → heading ≡ heading_after numbers (length edits) edits
heading_of_all told numbers heading n edits elements same count list is =
    let xs : List ℤ = list_of (take (length edits) edits) in
    let all : elements ≡ xs = list ∙ ap list_of (sym (take_all (length edits) edits (omega arith))) in
    is ∙ ap (λ (ys : List ℤ). heading_by (told_number told n) (length ys)) all ∙ ap (λ (h : LogHeading). heading_by (told_number h n) (length xs)) same
    ∙ ap (λ (m : ℕ). heading_by (told_number numbers m) (length xs)) count

pub count_of_all : (numbers heading : LogHeading) (edits : List Edit) (elements : List ℤ) → heading ≡ heading_after numbers (length edits) edits → elements ≡ list_of edits → heading.elements ≡ length elements
count_of_all numbers heading edits elements is list = ap (λ (h : LogHeading). h.elements) is ∙ ap length (ap list_of (take_all (length edits) edits (omega arith)) ∙ sym list)

module _ (made : Option (List ℕ)) (limits : Bounds) (numbers : LogHeading) (log : Option LogThere) (start : Option (List ℕ)) where
  -- which file it is, given the number of updates after which the vector was made anew
  abbrev Which : ℕ → Option LogThere → Option (List ℕ) → ℕ → List Edit → Type 0
  Which renewed there begun earlier taken =
      ((renewed ≡ 0) × (there ≡ log) × (begun ≡ start) × (earlier ≡ 0))
      ⊎ ((limits ≡ lasting limits)
      × (there ≡ Some (log_of_edits record { base = told_number numbers renewed; elements = length (list_of taken) } (map Push (list_of taken))))
      × HasLog made record { base = told_number numbers renewed; elements = length (list_of taken) } (list_of taken) begun)

  -- it is the same file after further updates
  file_more : (seen edits : List Edit) → IsPrefix seen edits → LogFile made limits numbers log start seen → LogFile made limits numbers log start edits
  file_more seen edits more file = record {
    renewed = file.renewed;
    some = omega (arith, file.some, prefix_length seen edits more);
    there = file.there;
    begun = file.begun;
    earlier = file.earlier;
    which = subst (Which file.renewed file.there file.begun file.earlier) (sym (same_taken file.renewed seen edits file.some more)) file.which;
  }
    where
      same_taken : (n : ℕ) (seen edits : List Edit) → n ≤ length seen → IsPrefix seen edits → take n edits ≡ take n seen
      same_taken n seen edits le more = ap (take n) (sym more.1) ∙ take-append-le n seen more.0 le

  -- the first file begins
  pub in_file_begins : (is_log : Bool) (written : WritingState) (seen : List Edit) → is_log ≡ is_some log → MayGoOn log → seen ≡ edits_there log → WasGivenOf (heading_of log) (there_of log) start [] written
      → IsLogInFile made limits numbers log start 0 0 0 is_log record { written = written; seen = seen; taken = 0 }
  unfolding log_begins
  in_file_begins is_log written seen behind goes same given = record {
    file = record { renewed = 0; some = omega arith; there = log; begun = start; earlier = 0; which = inl (refl, refl, refl, refl) };
    renewed_is = refl;
    elements_are = ap length list_of_none;
    earlier_is = refl;
    behind = behind;
    given = log_begins log start written (renewed_after 0 seen) 0 goes (renewed_never seen ∙ same) given;
    counted = refl;
  }

  -- the numbers that the log keeps of its file
  pub in_file_some : (renewed elements earlier : ℕ) (is_log : Bool) (s : LogState) → IsLogInFile made limits numbers log start renewed elements earlier is_log s → renewed ≤ length s.seen
  in_file_some renewed elements earlier is_log s was = omega (arith, was.file.some, was.renewed_is)

  pub in_file_elements : (renewed elements earlier : ℕ) (is_log : Bool) (s : LogState) → IsLogInFile made limits numbers log start renewed elements earlier is_log s → elements ≡ length (list_of (take renewed s.seen))
  in_file_elements renewed elements earlier is_log s was = sym was.elements_are ∙ ap (λ (n : ℕ). length (list_of (take n s.seen))) was.renewed_is

  -- what came since was given to the file
  pub in_file_more : (renewed elements earlier : ℕ) (is_log : Bool) (s : LogState) (edits : List Edit) (entries : List Entry) (written : WritingState) → IsLogInFile made limits numbers log start renewed elements earlier is_log s → IsPrefix s.seen edits
      → CameSince (renewed_after renewed edits) (length (renewed_after renewed s.seen)) entries → Adds s.written entries written
      → IsLogInFile made limits numbers log start renewed elements earlier is_log record { written = written; seen = edits; taken = s.taken + length entries }
  unfolding file_more log_more
  in_file_more renewed elements earlier is_log s edits entries written was more came gives =
      let n = was.file.renewed in
      let since = subst (λ (m : ℕ). CameSince (renewed_after m edits) (length (renewed_after m s.seen)) entries) (sym was.renewed_is) came in
      let many : was.file.earlier + length (was.given.entries ++ entries) ≡ s.taken + length entries = omega (arith, was.counted, length-append was.given.entries entries) in
      record {
        file = file_more s.seen edits more was.file;
        renewed_is = was.renewed_is;
        elements_are = ap (λ (es : List Edit). length (list_of es)) (ap (take n) (sym more.1) ∙ take-append-le n s.seen more.0 was.file.some) ∙ was.elements_are;
        earlier_is = was.earlier_is;
        behind = was.behind;
        given = log_more was.file.there was.file.begun record { written = s.written; seen = renewed_after n s.seen; taken = s.taken } (renewed_after n edits) entries written (s.taken + length entries) was.given (renewed_prefix n s.seen edits was.file.some more) since gives;
        counted = many;
      }

  -- what was buffered is written, or the write failed
  pub in_file_rests : (renewed elements earlier : ℕ) (is_log : Bool) (s : LogState) (written : WritingState) → IsLogInFile made limits numbers log start renewed elements earlier is_log s → Adds s.written [] written
      → IsLogInFile made limits numbers log start renewed elements earlier is_log record { written = written; seen = s.seen; taken = s.taken }
  unfolding log_rests
  in_file_rests renewed elements earlier is_log s written was rests = record {
    file = was.file;
    renewed_is = was.renewed_is;
    elements_are = was.elements_are;
    earlier_is = was.earlier_is;
    behind = was.behind;
    given = log_rests was.file.there was.file.begun record { written = s.written; seen = renewed_after was.file.renewed s.seen; taken = s.taken } written was.given rests;
    counted = was.counted;
  }

  -- a file was begun anew, and its writer has nothing buffered
  pub in_file_anew : (is_log : Bool) (heading : LogHeading) (elements : List ℤ) (edits : List Edit) (taken : ℕ) (contents : Option (List ℕ)) (s : WriterState) → is_log ≡ true
      → BeginsAnew limits numbers edits heading elements → HasLog made heading elements contents → s.held ≡ [] → s.failed ≡ false
      → IsLogInFile made limits numbers log start (length edits) heading.elements taken is_log record { written = state_with contents s; seen = edits; taken = taken }
  unfolding log_begins
  in_file_anew is_log heading elements edits taken contents s behind begins has none fine =
      let n = length edits in
      let xs : List ℤ = list_of (take n edits) in
      let first : LogHeading = heading_after numbers n edits in
      let there : LogThere = log_after numbers n edits in
      let all : elements ≡ xs = begins.elements_are ∙ ap list_of (sym (take_all n edits (omega arith))) in
      let few_of : length xs ≤ 1048568 = subst (λ (ys : List ℤ). length ys ≤ 1048568) all begins.few in
      let fits_of : All IsElement xs = subst (All IsElement) all begins.all in
      let has_of : HasLog made first xs contents = subst (λ (ys : List ℤ). HasLog made first ys contents) all (subst (λ (h : LogHeading). HasLog made h elements contents) begins.heading_is has) in
      let base_of : first.base ≤ 2 ^ 62 = subst (λ (h : LogHeading). h.base ≤ 2 ^ 62) begins.heading_is begins.base in
      let fit : IsHeading first = record { base = omega (arith, base_of); elements = omega (arith, few_of) } in
      let goes : MayGoOn (Some there) = found_goes_on first _ (pushes_of_elements xs) (map Push xs) (log_is_sound first xs fit refl few_of fits_of) (sym (edits_in_pushes xs)) in
      let begun : WasGivenOf (Some first) (Some there.entries) contents [] (state_with contents s) =
      subst (λ (held : List ℕ). WasGivenOf (Some first) (Some there.entries) contents [] record { contents = contents; held = held; failed = s.failed }) (sym none)
      (subst (λ (failed : Bool). WasGivenOf (Some first) (Some there.entries) contents [] record { contents = contents; held = []; failed = failed }) (sym fine)
      (unused (Some first) (Some there.entries) contents [] refl)) in
      record {
        file = record { renewed = n; some = omega arith; there = Some there; begun = contents; earlier = taken; which = inr (begins.lasts, refl, has_of) };
        renewed_is = refl;
        elements_are = sym (ap (λ (h : LogHeading). h.elements) begins.heading_is);
        earlier_is = refl;
        behind = behind;
        given = log_begins (Some there) contents (state_with contents s) (renewed_after n edits) taken goes (renewed_all edits ∙ sym (edits_of_edits (map Push xs))) begun;
        counted = omega arith;
      }

  -- what a log has written is a prefix
  pub in_file_front : (renewed elements earlier : ℕ) (is_log : Bool) (s : LogState) → IsLogInFile made limits numbers log start renewed elements earlier is_log s → HasFrontOfFile made limits numbers log start s.written.contents s.seen
  in_file_front renewed elements earlier is_log s was = record {
    file = was.file;
    front = log_front was.file.there was.file.begun record { written = s.written; seen = renewed_after was.file.renewed s.seen; taken = s.taken } was.given;
  }

  -- once nothing is buffered, and no write has failed, all updates are written
  pub in_file_all : (renewed elements earlier : ℕ) (is_log : Bool) (s : LogState) → s.written.failed ≡ false → s.written.held ≡ [] → IsLogInFile made limits numbers log start renewed elements earlier is_log s
      → HasAllOfFile made limits numbers log start s.written.contents s.seen s.taken
  unfolding log_all
  in_file_all renewed elements earlier is_log s fine none was = record {
    file = was.file;
    all = log_all was.file.there was.file.begun record { written = s.written; seen = renewed_after was.file.renewed s.seen; taken = s.taken } fine none was.given;
    counted = was.counted;
  }

  -- therefore these updates were recorded
  pub were_recorded : (edits all : List Edit) (entries taken : ℕ) (contents : Option (List ℕ)) → IsPrefix edits all → entries ≤ taken → HasAllOfFile made limits numbers log start contents all taken → WereRecorded made limits numbers log start edits entries
  were_recorded edits all entries taken contents begins many has = record { then_all = all; contents = contents; taken = taken; begins = begins; many = many; has = has }

  -- the end of a log that has all updates, or that hasn't
  pub in_file_ends : (renewed elements earlier : ℕ) (is_log : Bool) (s : LogState) (edits : List Edit) (contents : Option (List ℕ)) (result : Result Unit Fault) (was : IsLogInFile made limits numbers log start renewed elements earlier is_log s) → IsPrefix s.seen edits
      → length s.seen ≡ length edits → ((entries : List Entry) → WasGivenOf (heading_of was.file.there) (there_of was.file.there) was.file.begun entries s.written → EndsText was.file.there was.file.begun contents entries result)
      → EndsInFile made limits numbers log start contents edits result
  unfolding file_more
  in_file_ends renewed elements earlier is_log s edits contents result was begins all ends =
      let n = was.file.renewed in
      let same : s.seen ≡ edits = prefix_whole s.seen edits begins (omega (arith, all)) in
      record {
        file = file_more s.seen edits begins was.file;
        ends = log_ends was.file.there was.file.begun record { written = s.written; seen = renewed_after n s.seen; taken = s.taken } (renewed_after n edits) contents result was.given (renewed_prefix n s.seen edits was.file.some begins) (ap (λ (es : List Edit). length (renewed_after n es)) same) ends;
      }

  pub in_file_ends_short : (renewed elements earlier : ℕ) (is_log : Bool) (s : LogState) (edits : List Edit) (contents : Option (List ℕ)) (result : Result Unit Fault) (fault : Fault) (was : IsLogInFile made limits numbers log start renewed elements earlier is_log s)
      → IsPrefix s.seen edits → ((entries : List Entry) → WasGivenOf (heading_of was.file.there) (there_of was.file.there) was.file.begun entries s.written → EndsText was.file.there was.file.begun contents entries result)
      → EndsInFile made limits numbers log start contents edits (Err fault)
  unfolding file_more
  in_file_ends_short renewed elements earlier is_log s edits contents result fault was begins ends =
      let n = was.file.renewed in
      record {
        file = file_more s.seen edits begins was.file;
        ends = log_ends_short was.file.there was.file.begun record { written = s.written; seen = renewed_after n s.seen; taken = s.taken } (renewed_after n edits) contents result was.given (renewed_prefix n s.seen edits was.file.some begins) ends;
      }

-- ---- the log of a hub of one vector, which has one file

first_file : (made : Option (List ℕ)) (limits : Bounds) (numbers : LogHeading) (log : Option LogThere) (start : Option (List ℕ)) (edits : List Edit) → IsOfOneVector limits → (file : LogFile made limits numbers log start edits) → (file.renewed ≡ 0) × (file.there ≡ log) × (file.begun ≡ start) × (file.earlier ≡ 0)
first_file made limits numbers log start edits one file = first_of file.which
  where
    first_of : {A B C : Type 0} → A ⊎ ((limits ≡ lasting limits) × B × C) → A
    first_of (inl is) = is
    first_of (inr anew) = absurd (omega (arith, one, ap (λ (b : Bounds). b.edits) anew.0))

pub front_of_one : (made : Option (List ℕ)) (limits : Bounds) (numbers : LogHeading) (log : Option LogThere) (start contents : Option (List ℕ)) (edits : List Edit) → IsOfOneVector limits → HasFrontOfFile made limits numbers log start contents edits → HasFront log start contents edits
front_of_one made limits numbers log start contents edits one has =
    let first = first_file made limits numbers log start edits one has.file in
    let all : renewed_after has.file.renewed edits ≡ edits = ap (λ (n : ℕ). renewed_after n edits) first.0 ∙ renewed_never edits in
    subst (λ (b : Option (List ℕ)). HasFront log b contents edits) first.2
    (subst (λ (l : Option LogThere). HasFront l has.file.begun contents edits) first.1 (subst (HasFront has.file.there has.file.begun contents) all has.front))

pub end_of_one : (made : Option (List ℕ)) (limits : Bounds) (numbers : LogHeading) (log : Option LogThere) (start contents : Option (List ℕ)) (edits : List Edit) (result : Result Unit Fault) → IsOfOneVector limits → EndsInFile made limits numbers log start contents edits result
    → LogEnds log start contents edits result
end_of_one made limits numbers log start contents edits result one ends =
    let first = first_file made limits numbers log start edits one ends.file in
    let all : renewed_after ends.file.renewed edits ≡ edits = ap (λ (n : ℕ). renewed_after n edits) first.0 ∙ renewed_never edits in
    subst (λ (b : Option (List ℕ)). LogEnds log b contents edits result) first.2
    (subst (λ (l : Option LogThere). LogEnds l ends.file.begun contents edits result) first.1
    (subst (λ (es : List Edit). LogEnds ends.file.there ends.file.begun contents es result) all ends.ends))
