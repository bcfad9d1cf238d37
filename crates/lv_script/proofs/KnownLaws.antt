-- What a command is answered, by what the calls below gave.
use Rattle.std.proofs.Common.{◌≡◌, ◌≢◌, ℕ, ◌+◌, ◌<◌, ◌≤◌, Bool, IsTrue, Option, Some, None, Result, Ok, Err, OnOk, IfErr, List, [], ◌∷◌, ◌++◌, get_or, length, map, flat_map, option_map, remove, refl, sym, ap, ap₂, ◌∙◌, subst, inl, inr, arith}
use Rattle.std.specs.Option.{option_map_or}
use Rattle.std.proofs.lemmas.List.{map_push}
use Rattle.std.proofs.lemmas.List.Edits.{length-remove}
use Rattle.std.proofs.lemmas.List.Quantifiers.{all_pairs_remove}
use Rattle.lv_geometry.specs.Numbers.{number_of as name_number}
use Rattle.lv_geometry.specs.declared.refusals.Refusal.{Refusal}
use Rattle.lv_geometry.specs.declared.refusals.Refusal.TheVariants.{NoSuchName}
use Rattle.lv_bodies.specs.declared.kinds.Kind.{Kind}
use Rattle.lv_bodies.specs.declared.kinds.Shown.{Shown}
use Rattle.lv_bodies.specs.Plain.{plain_value}
use Rattle.lv_edits.specs.Verdict.{IsRefusal as IsNameRefusal}
use Rattle.lv_lines.specs.declared.fault.Fault.{Fault}
use Rattle.lv_lines.specs.declared.fault.Fault.TheVariants.{WriteFault}
use Rattle.lv_lines.specs.Replies.{LinesServed}
use Rattle.lv_lines.specs.Texts.{answer_text, named_text, scan_text, refused_by, unwatched_text, watching_text}
use Rattle.lv_script.specs.PlainScript.{note_of, scan_by, unknown}
use Rattle.lv_script.specs.Script.{notes_text}
use Rattle.lv_series.specs.declared.edits.LongEdit.{LongEdit}
use Rattle.lv_series.specs.declared.edits.LongEdit.TheVariants.{Push, Pop, Write, Expire, Swap, Truncate}
use Rattle.lv_series.specs.declared.receipts.LongReceipt.{LongReceipt}
use Rattle.lv_series.specs.declared.refusals.LongRefusal.{LongRefusal}
use Rattle.lv_series.specs.Numbers.{number_of}
use Rattle.lv_series.specs.Series.{Accepts, IsRefusal, SeriesState, changed, range_refused, receipt_of, slice_of}
use Rattle.lv_standing.specs.QuerySets.{QuerySetState, place_of, with_query, without_place}
use Rattle.lv_standing.specs.declared.notes.Note.{Note}
use Rattle.lv_script.specs.declared.long_commands.LongCommand.{LongCommand}
use Rattle.lv_script.specs.declared.long_commands.LongCommand.TheVariants as command
use Rattle.lv_script.specs.declared.long_commands.Search.{Search}
use Rattle.lv_standing.specs.declared.queries.Query.{Query}
use Rattle.lv_script.specs.Inside.{AreNotesDue, IsReady, Told, SeriesStep, brought_up, known_of}
use Rattle.lv_script.specs.LongGrammar.{watch_of}
use Rattle.lv_standing.specs.Queries.{query_refusal, terms_of}
use Rattle.lv_standing.specs.Standings.{HaveOwnNames}
use Rattle.lv_script.specs.LongTexts.{index_text, long_receipt_text, run_text}
use Rattle.lv_script.specs.PlainSeriesScript.{PlainSeries, after, long_answer, refusal_of, reply_of, series_script, series_of, start_series}
use Rattle.lv_script.specs.Searched.{best_run, index_of}
use Rattle.lv_script.specs.Values.{Seeks, without_trees}
use Rattle.lv_standing.proofs.QueryLaws.{apart_more, map_remove, new_name, not_placed, placed, without_placed}
use Rattle.lv_script.specs.Interpreter.{PlainStep}
use Rattle.lv_script.proofs.InterpreterLaws.{granted, refused, wanted}
use Rattle.lv_script.proofs.Notes.{notes_text_of}

-- a command that nothing rejects
done : (old new : PlainSeries) (c : LongCommand) (text : List ℕ) → refusal_of old c ≡ None → text ≡ reply_of [] old c → new ≡ after old c → Told old c text new
done old new c text free is then = granted series_script old new 0 c text [] free refl is then

-- one that is rejected
away : (k : PlainSeries) (c : LongCommand) (number : ℕ) (text : List ℕ) → refusal_of k c ≡ Some number → text ≡ refused_by number → Told k c text k
away k c number text why is = refused series_script k k 0 c text number why is refl

-- one whose range is rejected, or that there was no memory for
turned_away : (old new : PlainSeries) (c : LongCommand) (why : Option LongRefusal) (refusal : LongRefusal) (text : List ℕ) → IsTrue (series_script.may_want c) → refusal_of old c ≡ option_map number_of why → IsRefusal why refusal
    → text ≡ refused_by (number_of refusal) → new ≡ old → Told old c text new
turned_away old new c why refusal text may by (inl known) is same = refused series_script old new 0 c text (number_of refusal) (by ∙ ap (option_map number_of) known) is same
turned_away old new c why refusal text may by (inr (free, out)) is same = wanted series_script old new 0 c text may (by ∙ ap (option_map number_of) free) (is ∙ ap (λ r. refused_by (number_of r)) out) same

-- ---- trees

-- if only the trees of a series have changed, the same is known, and all is ready
module _ (old new : SeriesState) (same : without_trees new ≡ without_trees old) where
  pub known_still : (qs : List Query) → known_of new qs ≡ known_of old qs
  known_still qs = ap (λ s. known_of s qs) same

  pub told_still : (qs : List Query) (k : PlainSeries) (c : LongCommand) (text : List ℕ) → Told k c text (known_of old qs) → Told k c text (known_of new qs)
  told_still qs k c text = subst (Told k c text) (sym (known_still qs))

  pub ready_still : (set : QuerySetState Query) (room : ℕ) → IsReady old set room → IsReady new set room
  ready_still set room ready = record {
    table = ap (λ s. s.table) same ∙ ready.table;
    told = ready.told ∙ ap (λ h. map (long_answer h) set.queries) (sym (ap (λ s. s.held) same));
    apart = ready.apart;
    most = ready.most;
    few = ready.few;
    room = ready.room;
  }

-- ---- edits

-- the receipt of an edit, by what is known
same_receipt : (s : SeriesState) (qs : List Query) (e : LongEdit) → receipt_of s e ≡ receipt_of (series_of (known_of s qs)) e
same_receipt s qs (Push x) = refl
same_receipt s qs Pop = refl
same_receipt s qs (Write i x) = refl
same_receipt s qs (Expire i) = refl
same_receipt s qs (Swap i j) = refl
same_receipt s qs (Truncate n) = refl

module _ (old new : SeriesState) (set : QuerySetState Query) (e : LongEdit) (receipt : LongReceipt) (a : Accepts old e receipt new) where
  -- an edit that was accepted, and the notes that were due then
  pub edit_granted : (notes : List Note) (after : QuerySetState Query) → set.told ≡ map (long_answer old.held) set.queries → AreNotesDue new.held set.queries set.told notes → after ≡ brought_up new.held set
      → Told (known_of old set.queries) (command.Edit e) (long_receipt_text receipt new.held.first ++ notes_text notes) (known_of new after.queries)
  edit_granted notes after told due then =
      let held : new.held ≡ changed old.held e = ap (λ s. s.held) a.after in
      let count : new.edits ≡ old.edits + 1 = ap (λ s. s.edits) a.after in
      let queries : after.queries ≡ set.queries = ap (λ s. s.queries) then in
      let text = notes_text_of (long_answer old.held) (long_answer new.held) set.queries notes (subst (λ told. AreNotesDue new.held set.queries told notes) told due) ∙ ap (λ h. flat_map (λ q. note_of q (long_answer old.held q) (long_answer h q)) set.queries) held in
      done (known_of old set.queries) (known_of new after.queries) (command.Edit e) _ (ap (option_map number_of) a.free)
      (ap₂ ◌++◌ (ap₂ long_receipt_text (a.receipt_is ∙ same_receipt old set.queries e) (ap (λ h. h.first) held)) text)
      (λ i. record { held = held i; edit = count i; queries = queries i })

  -- all is ready after it
  pub edit_ready : (after : QuerySetState Query) (room now : ℕ) → IsReady old set room → after ≡ brought_up new.held set → now ≡ room → IsReady new after now
  edit_ready after room now ready then same =
      subst (λ after. IsReady new after now) (sym then) record {
        table = ap (λ s. s.table) a.after ∙ ready.table;
        told = refl;
        apart = ready.apart;
        most = ready.most;
        few = ready.few;
        room = omega (arith, ready.room, same);
      }

-- ---- queries

module _ (s : SeriesState) (set : QuerySetState Query) where
  -- all is ready after a query was registered
  pub watch_ready : (q : Query) (after : QuerySetState Query) (room now : ℕ) → IsReady s set room → query_refusal 64 set.queries q ≡ None
      → after ≡ with_query set q (long_answer s.held q) → length after.queries ≤ 64 → length after.queries ≤ now → IsReady s after now
  watch_ready q after room now ready free then few enough = record {
    table = ready.table;
    told = ap (λ s. s.told) then ∙ ap (λ told. told ++ long_answer s.held q ∷ []) ready.told ∙ sym (map_push (long_answer s.held) set.queries q) ∙ ap (λ t. map (long_answer s.held) t.queries) (sym then);
    apart = subst (λ t. HaveOwnNames t.queries) (sym then) (apart_more set.queries q ready.apart (new_name 64 set.queries q.name q.span free));
    most = ap (λ s. s.most) then ∙ ready.most;
    few = few;
    room = enough;
  }

  -- and after none was
  pub no_watch_ready : (after : QuerySetState Query) (room now : ℕ) → IsReady s set room → after.queries ≡ set.queries → after.told ≡ set.told → after.most ≡ 64 → room ≤ now → IsReady s after now
  no_watch_ready after room now ready queries told most enough = record {
    table = ready.table;
    told = told ∙ ready.told ∙ ap (map (long_answer s.held)) (sym queries);
    apart = subst HaveOwnNames (sym queries) ready.apart;
    most = most;
    few = omega (arith, ready.few, ap length queries);
    room = omega (arith, ready.room, ap length queries, enough);
  }

  -- and after one was forgotten
  pub forget_ready : (i room : ℕ) (after : QuerySetState Query) → i < length set.queries → after ≡ without_place set i → IsReady s set room → IsReady s after room
  forget_ready i room after within then ready =
      subst (λ after. IsReady s after room) (sym then) record {
        table = ready.table;
        told = ap (λ told. remove told i) ready.told ∙ map_remove (long_answer s.held) set.queries i;
        apart = all_pairs_remove (λ a b. a.name ≢ b.name) set.queries i within ready.apart;
        most = ready.most;
        few = omega (arith, ready.few, length-remove set.queries i within);
        room = omega (arith, ready.room, length-remove set.queries i within);
      }

  -- what is answered if one was registered, and if none was
  pub watch_told : (q : Query) (after : QuerySetState Query) (told : Shown) (text : List ℕ) → query_refusal 64 set.queries q ≡ None → after ≡ with_query set q told → text ≡ watching_text q.name
      → Told (known_of s set.queries) (watch_of q) text (known_of s after.queries)
  watch_told q after told text free then is =
      done (known_of s set.queries) (known_of s after.queries) (watch_of q) text (ap (option_map name_number) free) is (ap (λ t. known_of s t.queries) then)

  pub watch_refused : (q : Query) (after : QuerySetState Query) (refusal : Refusal) (text : List ℕ) → IsNameRefusal (query_refusal 64 set.queries q) refusal → after.queries ≡ set.queries
      → text ≡ refused_by (name_number refusal) → Told (known_of s set.queries) (watch_of q) text (known_of s after.queries)
  watch_refused q after refusal text (inl known) same is =
      subst (λ qs. Told (known_of s set.queries) (watch_of q) text (known_of s qs)) (sym same) (away (known_of s set.queries) (watch_of q) (name_number refusal) text (ap (option_map name_number) known) is)
  watch_refused q after refusal text (inr (free, out)) same is =
      wanted series_script (known_of s set.queries) (known_of s after.queries) 0 (watch_of q) text refl (ap (option_map name_number) free) (is ∙ ap (λ r. refused_by (name_number r)) out) (ap (known_of s) same)

  -- what the one at a place is answered
  pub unwatch_told : (name : List ℕ) (i : ℕ) (text : List ℕ) → HaveOwnNames set.queries → place_of terms_of set.queries name ≡ Some i → text ≡ unwatched_text name
      → Told (known_of s set.queries) (command.Unwatch name) text (known_of s (remove set.queries i))
  unwatch_told name i text apart at is =
      done (known_of s set.queries) (known_of s (remove set.queries i)) (command.Unwatch name) text
      (ap (λ q. option_map name_number (unknown q)) (placed name (λ q. q.name) set.queries i name at).1)
      is
      (ap (known_of s) (without_placed name set.queries i apart at))

  -- if there is none of a name
  pub unwatch_refused : (name : List ℕ) (text : List ℕ) → place_of terms_of set.queries name ≡ None → text ≡ refused_by (name_number NoSuchName) → Told (known_of s set.queries) (command.Unwatch name) text (known_of s set.queries)
  unwatch_refused name text none is =
      away (known_of s set.queries) (command.Unwatch name) (name_number NoSuchName) text (ap (λ q. option_map name_number (unknown q)) (not_placed name set.queries none)) is

  pub answer_refused : (name : List ℕ) (text : List ℕ) → place_of terms_of set.queries name ≡ None → text ≡ refused_by (name_number NoSuchName) → Told (known_of s set.queries) (command.Answer name) text (known_of s set.queries)
  answer_refused name text none is =
      away (known_of s set.queries) (command.Answer name) (name_number NoSuchName) text (ap (λ q. option_map name_number (unknown q)) (not_placed name set.queries none)) is

  -- what one was told last is its answer
  pub answer_told : (name : List ℕ) (i : ℕ) (d : Shown) (edit : ℕ) (told : List Shown) → told ≡ set.told → set.told ≡ map (long_answer s.held) set.queries → place_of terms_of set.queries name ≡ Some i → edit ≡ s.edits
      → Told (known_of s set.queries) (command.Answer name) (named_text edit name (get_or told i d)) (known_of s set.queries)
  answer_told name i d edit told same all at count =
      let here = placed name (long_answer s.held) set.queries i d at in
      let answer : get_or told i d ≡ long_answer s.held here.0 = ap (λ told. get_or told i d) (same ∙ all) ∙ here.2 in
      done (known_of s set.queries) (known_of s set.queries) (command.Answer name) (named_text edit name (get_or told i d))
      (ap (λ q. option_map name_number (unknown q)) here.1)
      (ap₂ (λ edit value. named_text edit name value) count answer ∙ ap (λ o. option_map_or (λ q. named_text s.edits name (long_answer s.held q)) o []) (sym here.1))
      refl

-- ---- searches

module _ (old new : SeriesState) (lo hi : ℕ) where
  -- the index of what was looked for, or why there is no answer
  pub find_granted : (sought : Search) (index : Option ℕ) (text : List ℕ) → Seeks (index_of sought) old lo hi (Ok index) new → text ≡ index_text old.edits index
      → (qs : List Query) → Told (known_of old qs) (command.Find sought lo hi) text (known_of new qs)
  find_granted sought index text s is qs =
      told_still old new s.2 qs (known_of old qs) (command.Find sought lo hi) text
      (done (known_of old qs) (known_of old qs) (command.Find sought lo hi) text (ap (option_map number_of) s.0) (is ∙ ap (index_text old.edits) s.1) refl)

  pub find_refused : (sought : Search) (refusal : LongRefusal) (text : List ℕ) → Seeks (index_of sought) old lo hi (Err refusal) new → text ≡ refused_by (number_of refusal)
      → (qs : List Query) → Told (known_of old qs) (command.Find sought lo hi) text (known_of new qs)
  find_refused sought refusal text s is qs =
      turned_away (known_of old qs) (known_of new qs) (command.Find sought lo hi) (range_refused old.held lo hi) refusal text refl refl s.0 is (known_still old new s.1 qs)

  -- the best run, or why there is none
  pub run_granted : (run : Option (ℕ × ℕ)) (text : List ℕ) → Seeks best_run old lo hi (Ok run) new → text ≡ run_text old.edits run
      → (qs : List Query) → Told (known_of old qs) (command.BestRun lo hi) text (known_of new qs)
  run_granted run text s is qs =
      told_still old new s.2 qs (known_of old qs) (command.BestRun lo hi) text
      (done (known_of old qs) (known_of old qs) (command.BestRun lo hi) text (ap (option_map number_of) s.0) (is ∙ ap (run_text old.edits) s.1) refl)

  pub run_refused : (refusal : LongRefusal) (text : List ℕ) → Seeks best_run old lo hi (Err refusal) new → text ≡ refused_by (number_of refusal)
      → (qs : List Query) → Told (known_of old qs) (command.BestRun lo hi) text (known_of new qs)
  run_refused refusal text s is qs =
      turned_away (known_of old qs) (known_of new qs) (command.BestRun lo hi) (range_refused old.held lo hi) refusal text refl refl s.0 is (known_still old new s.1 qs)

-- ---- ranges

module _ (s : SeriesState) (kind : Kind) (lo hi : ℕ) where
  -- the value of a kind over a range
  pub reduce_granted : (text : List ℕ) → range_refused s.held lo hi ≡ None → text ≡ answer_text s.edits kind (plain_value kind (slice_of s.held lo hi))
      → (qs : List Query) → Told (known_of s qs) (command.Reduce kind lo hi) text (known_of s qs)
  reduce_granted text free is qs = done (known_of s qs) (known_of s qs) (command.Reduce kind lo hi) text (ap (option_map number_of) free) is refl

  module _ (inclusive : Bool) where
    -- a scan of it
    abbrev scanned : List ℕ
    scanned = scan_text s.edits inclusive kind (scan_by (plain_value kind) inclusive (slice_of s.held lo hi))

    pub scan_told : range_refused s.held lo hi ≡ None → (qs : List Query) → Told (known_of s qs) (command.Scan inclusive kind lo hi) scanned (known_of s qs)
    scan_told free qs = done (known_of s qs) (known_of s qs) (command.Scan inclusive kind lo hi) scanned (ap (option_map number_of) free) refl refl

-- what is known of a command for all lists of queries is known for those that there are
module _ {X : Type 0} (tells : X → LongCommand → List ℕ → Type 0) (written : List ℕ → Type 0) (x : X) (command other : LongCommand) (same : command ≡ other) where
  pub told_ok : {T E : Type 0} (result : Result T E) → OnOk result ((reply : List ℕ) × ((y : X) → tells y other reply) × written reply) → OnOk result ((reply : List ℕ) × tells x command reply × written reply)
  told_ok (Ok finished) (reply, all, put) = (reply, subst (λ c. tells x c reply) (sym same) (all x), put)
  told_ok (Err fault) put = put

  pub told_err : {T : Type 0} (result : Result T Fault) → IfErr result (λ fault. (fault ≡ WriteFault) × (reply : List ℕ) × ((y : X) → tells y other reply) × written reply)
      → IfErr result (λ fault. (fault ≡ WriteFault) × (reply : List ℕ) × tells x command reply × written reply)
  told_err (Ok finished) put = put
  told_err (Err fault) (is, reply, all, put) = (is, reply, subst (λ c. tells x c reply) (sym same) (all x), put)

-- ---- a whole script

-- a conversation that begins with nothing
pub series_served : {T : Type 0} (first last : PlainSeries) (a b k l : Option (List ℕ)) (result : Result T Fault) → first ≡ start_series → LinesServed SeriesStep first last a b k l result
    → (end : PlainSeries) × LinesServed (PlainStep series_script) start_series end a b k l result
unfolding SeriesStep
series_served first last a b k l result begins c = (last, subst (λ s. LinesServed (PlainStep series_script) s last a b k l result) begins c)
