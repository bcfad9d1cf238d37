-- Each line of a board's session satisfies the reference model.
use Rattle.std.proofs.Common.{◌≡◌, ◌⊎◌, ℕ, ℤ, pos, ◌+◌, ◌<◌, ◌≤◌, Bool, true, false, Option, Some, None, Result, Ok, Err, List, [], ◌∷◌, ◌++◌, length, nat_lt, ok_or, sum, All, map, refl, sym, ap, ap₂, ◌∙◌, subst, inl, inr, arith}
use Rattle.std.specs.List.{sum_by}
use Rattle.std.specs.Prelude.{if◌then◌else◌}
use Rattle.std.proofs.lemmas.Bool.{cases_Bool, cases_lt, cond-false, cond-true, lt-ltb}
use Rattle.std.proofs.lemmas.List.Elements.{All-map, All-weaker}
use Rattle.std.proofs.lemmas.List.Sums.{sum-map}
use Rattle.std.proofs.lemmas.Option.{slice_get-get_or}
use Rattle.std.proofs.lemmas.Simd.{map-map}
use Rattle.lv_geometry.specs.Bounds.{Bounds}
use Rattle.lv_geometry.specs.declared.refusals.Refusal.{Refusal}
use Rattle.lv_geometry.specs.declared.refusals.Refusal.TheVariants.{BadRange, Contended, OutOfRange, Overtaken, TooWide}
use Rattle.lv_bodies.specs.declared.kinds.Kind.{Kind}
use Rattle.lv_bodies.specs.declared.kinds.Shown.{Shown}
use Rattle.lv_bodies.specs.Body.{CanFold, fold_of, Operations}
use Rattle.lv_bodies.specs.Parts.{IsShort}
use Rattle.lv_edits.specs.declared.edit.Edit.{Edit}
use Rattle.lv_edits.specs.declared.edit.Edit.TheVariants as edit
use Rattle.lv_edits.specs.declared.receipt.Receipt.{Receipt}
use Rattle.lv_edits.specs.History.{list_of}
use Rattle.lv_edits.specs.Touch.{is_whole}
use Rattle.lv_edits.specs.Verdict.{element_at, receipt_of, verdict_of}
use Rattle.lv_edits.specs.Ranges.{range_refusal, slice_of}
use Rattle.lv_reduce.specs.declared.reductions.Answer.{Answer}
use Rattle.lv_machine.specs.declared.entries.Entry.{Entry}
use Rattle.lv_machine.specs.declared.events.Call.{Call}
use Rattle.lv_machine.specs.declared.events.Call.TheVariants as call
use Rattle.lv_machine.specs.declared.outcomes.Read.{Read}
use Rattle.lv_machine.specs.declared.outcomes.Refreshed.{Refreshed}
use Rattle.lv_machine.specs.declared.outcomes.Said.{Said}
use Rattle.lv_machine.specs.declared.outcomes.Said.TheVariants as saying
use Rattle.lv_machine.specs.History.{edits_of, elements_of, Ends, IsLegalHistory, own}
use Rattle.lv_machine.specs.Calls.{is_short}
use Rattle.lv_machine.specs.Shows.{block, mark_of}
use Rattle.lv_machine.specs.Terms.{AreTerms, Terms}
use Rattle.lv_machine.proofs.EndsLaws.{Ends-length, Ends-trans, Ends-whole}
use Rattle.lv_machine.proofs.HistoryLaws.{length-edits_of}
use Rattle.lv_lines.specs.declared.fault.Fault.{Fault}
use Rattle.lv_lines.specs.Replies.{LinesServed}
use Rattle.lv_lines.specs.Texts.{answer_text, element_text, fresh_text, receipt_text, refused_text, size_text, value_text}
use Rattle.lv_lines.proofs.LineLoopLaws.{lines_served_as}
use Rattle.lv_lines.specs.declared.lines.Line.{Line}
use Rattle.lv_lines.specs.declared.lines.Line.TheVariants.{Nothing, Bad, Do}
use Rattle.lv_script.specs.BoardLine.{board_line_of}
use Rattle.lv_script.specs.Schedule.{said_shown, said_text}
use Rattle.lv_board.specs.declared.actors.Actor.{Actor}
use Rattle.lv_board.specs.declared.remains.Closed.{Closed}
use Rattle.lv_board.specs.declared.seats.Seat.{Seat}
use Rattle.lv_board.specs.Calls.{GetAnswers, HasLooked, IsTryRefusal, ReduceAnswers, RefreshAnswers, TryAnswers}
use Rattle.lv_board.specs.Closing.{IsClosed, IsKept, made_by}
use Rattle.lv_board.specs.PlainBoard.{Adds, AddsOne, IsOneHistory, IsOutrunAt, OnlyReads, PlainBoardLine, PlainBoardStep, PlainCall, Sat, edit_of, missing, refusal_at, reply_at, sat_of, short_refusal}
use Rattle.lv_board.specs.Session.{BoardAnswer, BoardStep, CallAnswer, CallEnds, Edits, asked_block, said_by}
use Rattle.lv_board.specs.Tells.{IsOvertaken, actor_of}
use Rattle.lv_board.proofs.Shorts.{short_is, wide_is}
use Rattle.lv_board.proofs.Valued.{folds_range}

-- an element within the size is there
there : (edits : List Edit) (i : ℕ) → i < length (list_of edits) → missing (element_at edits i) ≡ None
there edits i within = ap (λ found. missing (ok_or found (OutOfRange (length (list_of edits))))) (slice_get-get_or (list_of edits) i (pos 0) within)

module _ {S : Type 0} (t : Terms) (o : Operations S) (kind : Kind) (shown : S → Shown) (plain : List ℤ → Shown) (terms : AreTerms t) (shows : (xs : List ℤ) → CanFold xs → shown (fold_of o xs) ≡ plain xs) where
  -- an actor that looked and made no update only reads
  reads : (a b : Actor) → HasLooked t a b → OnlyReads b.seen (sat_of a) (sat_of b)
  reads a b looked = record { known = looked.kept; own_is = ap (λ n. own n b.known) looked.quiet.number ∙ looked.quiet.own_is }

  -- it reads what it knew if it is unchanged
  stays : (a b : Actor) → b ≡ a → OnlyReads a.known (sat_of a) (sat_of b)
  stays a b same = record { known = subst (λ x. Ends a.known x.known) (sym same) (Ends-whole a.known); own_is = ap (λ x. own x.number x.known) same }

  -- replies to an actor that looked
  granted : (a b : Actor) (asked : Call) (text : List ℕ) → edit_of asked ≡ None → HasLooked t a b → refusal_at t.limits b.seen asked ≡ None → text ≡ reply_at kind plain b.seen asked → PlainCall t.limits kind plain (sat_of a) asked text (sat_of b)
  granted a b asked text reading looked free is =
      record { at = b.seen; grown = looked.fresh; number = looked.quiet.number; answer = inl (free, is, subst (λ e. Adds b.seen e (sat_of a) (sat_of b)) (sym reading) (reads a b looked)) }

  refused : (a b : Actor) (asked : Call) (text : List ℕ) (refusal : Refusal) → HasLooked t a b → refusal_at t.limits b.seen asked ≡ Some refusal → text ≡ refused_text refusal → PlainCall t.limits kind plain (sat_of a) asked text (sat_of b)
  refused a b asked text refusal looked why is =
      record { at = b.seen; grown = looked.fresh; number = looked.quiet.number; answer = inr (inl (refusal, why, is, reads a b looked)) }

  outrun : (a b : Actor) (asked : Call) (text : List ℕ) (refusal : Refusal) → HasLooked t a b → refusal_at t.limits b.seen asked ≡ None → IsOvertaken b refusal → text ≡ refused_text refusal → PlainCall t.limits kind plain (sat_of a) asked text (sat_of b)
  outrun a b asked text refusal looked free over is = record {
    at = b.seen;
    grown = looked.fresh;
    number = looked.quiet.number;
    answer = inr (inr (free, record { number = over.version; told = inl (is ∙ ap refused_text over.refusal_is); later = over.later; known = over.shown }, reads a b looked));
  }

  -- a call that is refused at once, so that nothing has changed
  at_once : (a b : Actor) (asked : Call) (text : List ℕ) (refusal : Refusal) → b ≡ a → refusal_at t.limits a.known asked ≡ Some refusal → text ≡ refused_text refusal → PlainCall t.limits kind plain (sat_of a) asked text (sat_of b)
  at_once a b asked text refusal same why is =
      record { at = a.known; grown = Ends-whole a.known; number = ap (λ x. x.number) same; answer = inr (inl (refusal, why, is, stays a b same)) }

  -- ---- updates

  -- a call that is an update, which only its precondition check refuses
  pub record IsEdit (asked : Call) (e : Edit) : Type 0 where
    pub edit : edit_of asked ≡ Some e
    pub refusal : (h : List Entry) → refusal_at t.limits h asked ≡ verdict_of t.limits (edits_of h) e
    pub reply : (h : List Entry) → reply_at kind plain h asked ≡ receipt_text (receipt_of (edits_of h) e)

  -- an update that was tried
  tried : (a b : Actor) (asked : Call) (e : Edit) (text : List ℕ) (result : Result Receipt Refusal) → IsEdit asked e → TryAnswers t a b e result → text ≡ said_text kind 0 (said_shown shown (said_by saying.Did result))
      → PlainCall t.limits kind plain (sat_of a) asked text (sat_of b)
  tried a b asked e text (Ok receipt) its answers is =
      let h = answers.0 in
      let added = answers.1 in
      let adds : AddsOne h e (sat_of a) (sat_of b) = record {
        known = added.known ∙ added.seen ∙ ap (λ n. record { actor = n; edit = e } ∷ h) refl;
        own_is = ap (λ n. own n b.known) added.number ∙ added.own_is;
      } in
      record {
        at = h;
        grown = added.knew;
        number = added.number;
        answer = inl (its.refusal h ∙ added.verdict, is ∙ ap receipt_text added.receipt_is ∙ sym (its.reply h), subst (λ made. Adds h made (sat_of a) (sat_of b)) (sym its.edit) adds);
      }
  tried a b asked e text (Err refusal) its (looked, why) is =
      elim why [
        | inl verdict ↦ refused a b asked text refusal looked (its.refusal b.seen ∙ verdict) is
        | inr (inl over) ↦ outrun a b asked text refusal looked (its.refusal b.seen ∙ over.1) over.2 is
        | inr (inr (earlier, knew, later, contended)) ↦ record {
          at = earlier;
          grown = knew;
          number = looked.quiet.number;
          answer = inr (inr (
            its.refusal earlier ∙ contended.verdict,
            record {
              number = length b.seen;
              told = inr (is ∙ ap refused_text contended.refusal_is);
              later = contended.before;
              known = Ends-length b.seen b.known looked.kept;
            },
            record { known = Ends-trans earlier b.seen b.known later looked.kept; own_is = (reads a b looked).own_is },
          ));
        }
      ]

  -- an update that carries an element
  tries : (a b : Actor) (asked : Call) (x : ℤ) (e : Edit) (end : Said S) (text : List ℕ) → edit_of asked ≡ Some e → ((h : List Entry) → refusal_at t.limits h asked ≡ short_refusal x (verdict_of t.limits (edits_of h) e))
      → ((h : List Entry) → reply_at kind plain h asked ≡ receipt_text (receipt_of (edits_of h) e)) → Edits t (TryAnswers t) (fold_of o) x e a end b → text ≡ said_text kind 0 (said_shown shown end) → PlainCall t.limits kind plain (sat_of a) asked text (sat_of b)
  tries a b asked x e end text its refuses replies tried_so is =
      let said = is ∙ ap (λ end. said_text kind 0 (said_shown shown end)) tried_so.end_is in
      elim (cases_Bool (is_short x)) [
        | inl short ↦
            tried a b asked e text tried_so.result
            (record { edit = its; refusal = λ h. refuses h ∙ cond-true (is_short x) _ _ short; reply = replies }) (tried_so.short (short_is x short)) said
        | inr wide ↦
            let told = tried_so.wide (wide_is x wide) in
            at_once a b asked text TooWide told.1 (refuses a.known ∙ cond-false (is_short x) _ _ wide) (said ∙ ap (λ result. said_text kind 0 (said_shown shown (said_by saying.Did result))) told.0)
      ]

  -- ---- reads

  got : (a b : Actor) (i : ℕ) (text : List ℕ) (result : Result Read Refusal) → HasLooked t a b → GetAnswers i b result → text ≡ said_text kind 0 (said_shown shown (said_by saying.Read result)) → PlainCall t.limits kind plain (sat_of a) (call.Get i) text (sat_of b)
  got a b i text (Ok read) looked answered is =
      granted a b (call.Get i) text refl looked (ap missing answered.1) (is ∙ ap element_text (sym answered.1))
  got a b i text (Err refusal) looked answered is =
      elim answered [
        | inl why ↦ refused a b (call.Get i) text refusal looked (ap missing why) is
        | inr over ↦ outrun a b (call.Get i) text refusal looked (there (edits_of b.seen) i over.0) over.1 is
      ]

  reduced : (a b : Actor) (lo hi : ℕ) (text : List ℕ) (result : Result (Answer S) Refusal) → HasLooked t a b → ReduceAnswers (fold_of o) lo hi b result → text ≡ said_text kind 0 (said_shown shown (said_by saying.Answered result)) → PlainCall t.limits kind plain (sat_of a) (call.Reduce lo hi) text (sat_of b)
  reduced a b lo hi text (Ok answer) looked answered is =
      granted a b (call.Reduce lo hi) text refl looked answered.granted
      (is ∙ ap₂ (λ edit value. answer_text edit kind value) (answered.edit ∙ length-edits_of b.seen)
      (ap shown answered.value ∙ shows (slice_of (edits_of b.seen) lo hi) (folds_range t b.seen lo hi terms looked.legal)))
  reduced a b lo hi text (Err refusal) looked answered is =
      elim answered [
        | inl why ↦ refused a b (call.Reduce lo hi) text refusal looked why is
        | inr over ↦ outrun a b (call.Reduce lo hi) text refusal looked over.0 over.1 is
      ]

  refreshed : (a b : Actor) (n : ℕ) (text : List ℕ) (result : Result Refreshed Refusal) → HasLooked t a b → RefreshAnswers n b result → text ≡ said_text kind n (said_shown shown (said_by saying.Refreshed result)) → PlainCall t.limits kind plain (sat_of a) (call.Refresh n) text (sat_of b)
  refreshed a b n text (Ok fresh) looked answered is =
      granted a b (call.Refresh n) text refl looked (cond-true _ _ _ answered.0) (is ∙ ap (fresh_text n) answered.2)
  refreshed a b n text (Err refusal) looked answered is =
      elim answered [
        | inl why ↦ refused a b (call.Refresh n) text refusal looked (cond-false _ _ _ why.0 ∙ ap Some (sym why.1)) is
        | inr over ↦ outrun a b (call.Refresh n) text refusal looked (cond-true _ _ _ over.0) over.1 is
      ]

  -- ---- lines

  call_plain : (a b : Actor) (asked : Call) (text : List ℕ) (end : Said S) → CallEnds t (TryAnswers t) (fold_of o) asked a end b → text ≡ said_text kind (asked_block asked) (said_shown shown end) → PlainCall t.limits kind plain (sat_of a) asked text (sat_of b)
  call_plain a b (call.Push x) text end ends is = tries a b (call.Push x) x (edit.Push x) end text refl (λ h. refl) (λ h. refl) ends is
  call_plain a b call.Pop text end ends is =
      tried a b call.Pop edit.Pop text ends.result (record { edit = refl; refusal = λ h. refl; reply = λ h. refl }) ends.tried (is ∙ ap (λ end. said_text kind 0 (said_shown shown end)) ends.end_is)
  call_plain a b (call.Write i x) text end ends is = tries a b (call.Write i x) x (edit.Write i x) end text refl (λ h. refl) (λ h. refl) ends is
  call_plain a b (call.Get i) text end ends is = got a b i text ends.result ends.looked ends.answered (is ∙ ap (λ end. said_text kind 0 (said_shown shown end)) ends.end_is)
  call_plain a b call.Size text end ends is =
      granted a b call.Size text refl ends.looked refl (is ∙ ap (λ end. said_text kind 0 (said_shown shown end)) ends.end_is)
  call_plain a b (call.Reduce lo hi) text end ends is =
      let said = is ∙ ap (λ end. said_text kind 0 (said_shown shown end)) ends.end_is in
      elim (cases_lt hi lo) [
        | inl back ↦
            let told = ends.backwards back in
            at_once a b (call.Reduce lo hi) text BadRange told.1 (cond-true (nat_lt hi lo) _ _ (lt-ltb hi lo back)) (said ∙ ap (λ result. said_text kind 0 (said_shown shown (said_by saying.Answered result))) told.0)
        | inr order ↦ reduced a b lo hi text ends.result (ends.looked order) (ends.answered order) said
      ]
  call_plain a b (call.Refresh n) text end ends is = refreshed a b n text ends.result ends.looked ends.answered (is ∙ ap (λ end. said_text kind n (said_shown shown end)) ends.end_is)

  line_plain : (a b : Actor) (n : ℕ) (line : Line Call) (text : List ℕ) → BoardAnswer t o kind shown a n line text b → PlainBoardLine t.limits kind plain (sat_of a) n line text (sat_of b)
  line_plain a b n Nothing text answer = (answer.0, ap sat_of answer.1)
  line_plain a b n Bad text answer = (answer.0, ap sat_of answer.1)
  line_plain a b n (Do asked) text answer = call_plain a b asked text answer.end answer.ends answer.text_is

  step_plain : (a : Actor) (s : Sat) (n : ℕ) (line text : List ℕ) (b : Actor) → s ≡ sat_of a → BoardStep t o kind shown a n line text b → (u : Sat) × (u ≡ sat_of b) × PlainBoardStep t.limits kind plain s n line text u
  unfolding BoardStep
  step_plain a s n line text b is step =
      (sat_of b, refl, subst (λ s. PlainBoardStep t.limits kind plain s n line text (sat_of b)) (sym is) (line_plain a b n (board_line_of kind line) text step))

  -- the conversation of a seat satisfies the reference model
  pub session_plain : {R : Type 0} (a b : Actor) (k l u v : Option (List ℕ)) (result : Result R Fault) → LinesServed (BoardStep t o kind shown) a b k l u v result → LinesServed (PlainBoardStep t.limits kind plain) (sat_of a) (sat_of b) k l u v result
  session_plain a b k l u v result c =
      let came = lines_served_as (λ x s. s ≡ sat_of x) (record { moves = step_plain }) a (sat_of a) b k l u v result refl c in
      subst (λ s. LinesServed (PlainBoardStep t.limits kind plain) (sat_of a) s k l u v result) came.1 came.2

-- ---- the close

made_so : {B : Type 0} (seats : List (Seat B)) → sum_by made_by seats ≡ sum_by (λ (s : Sat). length (own s.number s.history)) (map (λ seat. sat_of (actor_of seat)) seats)
made_so seats =
    let made : Sat → ℕ = λ s. length (own s.number s.history) in
    sym (sum-map made_by seats) ∙ ap sum (sym (map-map made (λ seat. sat_of (actor_of seat)) seats)) ∙ sum-map made (map (λ seat. sat_of (actor_of seat)) seats)

pub closed_plain : {B : Type 0} (t : Terms) (seats : List (Seat B)) (closed : Closed) (c : IsClosed t seats closed) → IsOneHistory c.history (map (λ seat. sat_of (actor_of seat)) seats)
closed_plain t seats closed c = record {
  begun = All-map (λ (s : Sat). Ends s.history c.history) (λ seat. sat_of (actor_of seat)) seats (All-weaker (λ seat. IsKept c.history (actor_of seat)) (λ seat. Ends (actor_of seat).known c.history) (λ seat kept. kept.known) seats c.known);
  each_own = All-map (λ (s : Sat). own s.number c.history ≡ own s.number s.history) (λ seat. sat_of (actor_of seat)) seats
      (All-weaker (λ seat. IsKept c.history (actor_of seat)) (λ seat. own (actor_of seat).number c.history ≡ own (actor_of seat).number (actor_of seat).known) (λ seat kept. kept.own_is) seats c.known);
  total = sym c.edit ∙ c.total ∙ made_so seats;
}
