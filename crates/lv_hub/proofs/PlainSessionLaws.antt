-- Each line of a session has the reply of the reference model, after some updates of the hub.
use Rattle.std.proofs.Common.{◌≡◌, ◌⊎◌, ℕ, ◌+◌, Bool, true, false, Option, Some, None, Result, Ok, Err, IfOk, List, [], ◌∷◌, ◌++◌, length, refl, sym, ap, ap₂, arith, ◌∙◌, subst, inl, inr, length-append}
use Rattle.std.specs.Option.{option_map_or}
use mathlib.Core.List.{IsPrefix}
use Rattle.lv_geometry.specs.Bounds.{Bounds}
use Rattle.lv_geometry.specs.declared.refusals.Refusal.{Refusal}
use Rattle.lv_geometry.specs.declared.refusals.Refusal.TheVariants.{NoMemory}
use Rattle.lv_bodies.specs.declared.kinds.Kind.{Kind}
use Rattle.lv_bodies.specs.Plain.{plain_value}
use Rattle.lv_bodies.specs.declared.sixes.Six.{Six}
use Rattle.lv_edits.specs.declared.edit.Edit.{Edit}
use Rattle.lv_edits.specs.declared.receipt.Receipt.{Receipt}
use Rattle.lv_edits.specs.declared.receipt.Receipt.TheVariants.{Popped, Pushed, Reserved, Swapped, Truncated, Written}
use Rattle.lv_edits.specs.Ranges.{slice_of}
use Rattle.lv_edits.specs.Verdict.{verdict_of}
use Rattle.lv_reduce.specs.Stretch.{StretchState}
use Rattle.lv_lines.specs.declared.command.Command.{Command}
use Rattle.lv_lines.specs.declared.command.Command.TheVariants as command
use Rattle.lv_lines.specs.declared.lines.Line.{Line}
use Rattle.lv_lines.specs.declared.lines.Line.TheVariants.{Nothing, Bad, Do}
use Rattle.lv_lines.specs.declared.fault.Fault.{Fault}
use Rattle.lv_lines.specs.Grammar.{line_of}
use Rattle.lv_lines.specs.Replies.{Answered, LinesServed}
use Rattle.lv_lines.specs.Texts.{answer_text, bad_text, numbered, receipt_text, refused_text, scan_text}
use Rattle.lv_lines.proofs.LineLoopLaws.{lines_served_as}
use Rattle.lv_script.specs.PlainScript.{scan_by}
use Rattle.lv_standing.specs.Queries.{IsValue}
use Rattle.lv_standing.specs.declared.notes.Answered.{Answered as Valued}
use Rattle.lv_transcript.specs.declared.claimed.Claimed.{Claimed}
use Rattle.lv_transcript.specs.declared.log_heading.LogHeading.{LogHeading}
use Rattle.lv_history.specs.Numbering.{told_number}
use Rattle.lv_hub.specs.Replying.{ListsAnswer, SessionCommandAnswer, SessionLineAnswer, TellsLine, edit_text_at, having_counted, listed_of, scan_reply_text, up_to}
use Rattle.lv_hub.specs.Session.{IsWithin, Lists, SessionState, SessionStep, claim_at, kept_by, listed_if}
use Rattle.lv_hub.specs.PlainSession.{FindsNoMemory, IsTrueReply, PlainSessionStep, Seen, TrueReply, known_of, refusal_after, reply_after, seen_after, session_line_of, session_reply}
use Rattle.lv_hub.specs.Told.{EditTold, StretchTold, ValueTold, valued_at}
use Rattle.lv_history.proofs.PrefixLaws.{prefix_length, prefix_self, prefix_take, prefix_trans}
use Rattle.lv_hub.proofs.TruthLaws.{edit_lists_nothing}

-- a receipt that gets two numbers, one after the other, has the last one
numbered_again : (m n : ℕ) (receipt : Receipt) → numbered m (numbered n receipt) ≡ numbered m receipt
numbered_again m n (Pushed edit index) = refl
numbered_again m n (Popped edit value) = refl
numbered_again m n (Written edit before) = refl
numbered_again m n (Reserved edit capacity) = refl
numbered_again m n (Swapped edit first second) = refl
numbered_again m n (Truncated edit dropped) = refl

-- the listed reduction is the one with the hub's own number, if reductions are listed
listed_as : (listing : Bool) (answers : List Claimed) (kind : Kind) (lo hi : ℕ) (answered : Valued) (edits : List Edit) → (listing ≡ true → answered.edit ≡ length edits) → answered.value ≡ plain_value kind (slice_of edits lo hi)
    → listed_if listing answers (listed_of kind lo hi answered) ≡ listed_if listing answers (claim_at edits kind lo hi)
listed_as true answers kind lo hi answered edits number value = ap₂ (λ edit shown. answers ++ record { edit = edit; kind = kind; lo = lo; hi = hi; value = shown } ∷ []) (number refl) value
listed_as false answers kind lo hi answered edits number value = refl

-- what the model keeps after an update, given why it is refused, if it is
abbrev kept_after : Seen → List Edit → Edit → Option Refusal → Seen
kept_after old before e o = option_map_or (λ refusal. record old { edits = before }) o record { edits = before ++ e ∷ []; made = old.made + 1 }

module _ (limits : Bounds) (numbers : LogHeading) (listing : Bool) where
  -- the model's step for a line, if the hub had reached these updates
  abbrev PlainAt : List Edit → Seen → ℕ → Line Command → List ℕ → Seen → Type 0
  PlainAt before old n line text new =
      ((text ≡ session_reply limits numbers before n line) × (new ≡ seen_after limits before old line))
      ⊎ (FindsNoMemory limits before line text × (new ≡ record old { edits = before }))

  -- a line was answered by the model's step, and listed
  record SaidLine (old : SessionState) (n : ℕ) (line : Line Command) (text : List ℕ) (new : SessionState) : Type 0 where
    before : List Edit
    grown : IsPrefix old.seen before
    answer : PlainAt before (kept_by old) n line text (kept_by new)
    within : IsWithin limits old before line new
    lists : Lists numbers listing before line text old.answers new.answers

  -- the reply to a command that nothing refuses, and to one that is refused
  granted : (before : List Edit) (n : ℕ) (c : Command) (text : List ℕ) → refusal_after limits before c ≡ None → text ≡ reply_after numbers before c → text ≡ session_reply limits numbers before n (Do c)
  granted before n c text free is = is ∙ ap (λ o. option_map_or refused_text o (reply_after numbers before c)) (sym free)

  refused : (before : List Edit) (n : ℕ) (c : Command) (text : List ℕ) (refusal : Refusal) → refusal_after limits before c ≡ Some refusal → text ≡ refused_text refusal → text ≡ session_reply limits numbers before n (Do c)
  refused before n c text refusal why is = is ∙ ap (λ o. option_map_or refused_text o (reply_after numbers before c)) (sym why)

  -- a state that only has seen more, or counts one edit more
  seen_more : (old new : SessionState) (edits : List Edit) → new.seen ≡ edits → new.count ≡ old.count → kept_by new ≡ record { edits = edits; made = old.count }
  seen_more old new edits seen count = λ i. record { edits = seen i; made = count i }

  counted_more : (old new : SessionState) (edits : List Edit) (e : Edit) → new.seen ≡ edits ++ e ∷ [] → new.count ≡ old.count + 1 → kept_by new ≡ record { edits = edits ++ e ∷ []; made = old.count + 1 }
  counted_more old new edits e seen count = λ i. record { edits = seen i; made = count i }

  -- an edit
  edit_plain : (old new : SessionState) (n : ℕ) (e : Edit) (text : List ℕ) (result : Result Receipt Refusal) → (told : EditTold limits old.seen new.seen e result) → text ≡ edit_text_at (told_number numbers (length new.seen)) result
      → new ≡ having_counted (up_to old new.seen) result → PlainAt told.before (kept_by old) n (Do (command.Edit e)) text (kept_by new)
  edit_plain old new n e text (Ok receipt) told is state =
      let more = ap (λ h. h.journal) told.answers.journal in
      let many : length new.seen ≡ length told.before + 1 = omega (arith, ap length more, length-append told.before (e ∷ [])) in
      inl (
        granted told.before n (command.Edit e) text told.answers.verdict
            (is ∙ ap receipt_text (sym (numbered_again (told_number numbers (length new.seen)) (length new.seen) receipt)) ∙ ap₂ (λ last receipt. receipt_text (numbered (told_number numbers last) receipt)) many told.answers.receipt_is),
        counted_more old new told.before e more (ap (λ s. s.count) state) ∙ ap (kept_after (kept_by old) told.before e) (sym told.answers.verdict),
      )
  edit_plain old new n e text (Err refusal) told is state =
      let same = seen_more old new told.before (ap (λ h. h.journal) told.answers.same) (ap (λ s. s.count) state) in
      elim told.answers.verdict [
        | inl why ↦ inl (refused told.before n (command.Edit e) text refusal why is, same ∙ ap (kept_after (kept_by old) told.before e) (sym why))
        | inr want ↦ inr ((want.0, is ∙ ap refused_text want.1), same)
      ]

  edit_said : (old new : SessionState) (n : ℕ) (e : Edit) (text : List ℕ) (result : Result Receipt Refusal) → EditTold limits old.seen new.seen e result → text ≡ edit_text_at (told_number numbers (length new.seen)) result
      → new ≡ having_counted (up_to old new.seen) result → SaidLine old n (Do (command.Edit e)) text new
  edit_said old new n e text result told is state = record {
    before = told.before;
    grown = told.seen;
    answer = edit_plain old new n e text result told is state;
    within = told.within;
    lists = ap (λ s. s.answers) state ∙ edit_lists_nothing (up_to old new.seen) result;
  }

  -- a reduction
  reduction_said : (old new : SessionState) (n : ℕ) (kind : Kind) (lo hi : ℕ) (text : List ℕ) (result : Result Valued Refusal) → ValueTold limits old.seen new.seen kind lo hi result
      → (listing ≡ true → IfOk result (λ answered. answered.edit ≡ length new.seen)) → ListsAnswer limits numbers listing (up_to old new.seen) kind lo hi result text new → SaidLine old n (Do (command.Reduce kind lo hi)) text new
  reduction_said old new n kind lo hi text (Ok answered) told number lists =
      let is : IsValue new.seen kind lo hi (valued_at (length new.seen) answered) = told.answered in
      elim lists [
        | inl listed ↦
            let text_is = listed.0 ∙ ap (λ shown. answer_text (told_number numbers (length new.seen)) kind shown) is.value in record {
              before = new.seen;
              grown = told.seen;
              answer = inl (granted new.seen n (command.Reduce kind lo hi) text is.granted text_is, seen_more old new new.seen refl (ap (λ s. s.count) listed.1));
              within = told.within;
              lists = inl (text_is, ap (λ s. s.answers) listed.1 ∙ listed_as listing old.answers kind lo hi answered new.seen number is.value);
            }
        | inr full ↦ record {
          before = new.seen;
          grown = told.seen;
          answer = inr ((is.granted, full.1), seen_more old new new.seen refl (ap (λ s. s.count) full.2));
          within = told.within;
          lists = inr (NoMemory, full.1, ap (λ s. s.answers) full.2);
        }
      ]
  reduction_said old new n kind lo hi text (Err refusal) told number lists = record {
    before = new.seen;
    grown = told.seen;
    answer = inl (refused new.seen n (command.Reduce kind lo hi) text refusal told.refused lists.0, seen_more old new new.seen refl (ap (λ s. s.count) lists.1));
    within = told.within;
    lists = inr (refusal, lists.0, ap (λ s. s.answers) lists.1);
  }

  -- a scan
  scan_plain : (body : Six) (old new : SessionState) (n : ℕ) (inclusive : Bool) (kind : Kind) (lo hi : ℕ) (text : List ℕ) (result : Result (StretchState Six) Refusal) → StretchTold body limits old.seen new.seen lo hi result
      → text ≡ scan_reply_text (told_number numbers (length new.seen)) inclusive kind result → new ≡ up_to old new.seen → PlainAt new.seen (kept_by old) n (Do (command.Scan inclusive kind lo hi)) text (kept_by new)
  scan_plain body old new n inclusive kind lo hi text (Ok stretch) told is state =
      let text_is = is ∙ ap (λ xs. scan_text (told_number numbers (length new.seen)) inclusive kind (scan_by (plain_value kind) inclusive xs)) told.range.elements in
      inl (granted new.seen n (command.Scan inclusive kind lo hi) text told.range.granted text_is, seen_more old new new.seen refl (ap (λ s. s.count) state))
  scan_plain body old new n inclusive kind lo hi text (Err refusal) told is state =
      let same = seen_more old new new.seen refl (ap (λ s. s.count) state) in
      elim told.refused [
        | inl why ↦ inl (refused new.seen n (command.Scan inclusive kind lo hi) text refusal why is, same)
        | inr want ↦ inr ((want.0, is ∙ ap refused_text want.1), same)
      ]

  -- a bad line, or an empty one
  unmoved : (old new : SessionState) → new ≡ old → kept_by new ≡ record { edits = old.seen; made = old.count }
  unmoved old new stays = seen_more old new old.seen (ap (λ s. s.seen) stays) (ap (λ s. s.count) stays)

  nothing_said : (old new : SessionState) (n : ℕ) (text : List ℕ) → text ≡ [] → new ≡ old → SaidLine old n Nothing text new
  nothing_said old new n text is stays =
      record { before = old.seen; grown = prefix_self old.seen; answer = inl (is, unmoved old new stays); within = stays; lists = ap (λ s. s.answers) stays }

  bad_said : (old new : SessionState) (n : ℕ) (text : List ℕ) → text ≡ bad_text n → new ≡ old → SaidLine old n Bad text new
  bad_said old new n text is stays =
      record { before = old.seen; grown = prefix_self old.seen; answer = inl (is, unmoved old new stays); within = stays; lists = ap (λ s. s.answers) stays }

  -- a command, as a session knows it
  command_said : (old new : SessionState) (n : ℕ) (c : Command) (text : List ℕ) → SessionCommandAnswer limits numbers listing old n c text new → SaidLine old n (known_of (Do c)) text new
  command_said old new n (command.Edit e) text a = edit_said old new n e text a.result a.told a.text_is a.state
  command_said old new n (command.Reduce kind lo hi) text a = reduction_said old new n kind lo hi text a.result a.told a.number a.lists
  command_said old new n (command.Scan inclusive kind lo hi) text a = record {
    before = new.seen;
    grown = a.told.seen;
    answer = scan_plain a.body old new n inclusive kind lo hi text a.result a.told a.text_is a.state;
    within = a.told.within;
    lists = ap (λ s. s.answers) a.state;
  }
  command_said old new n _ text a = bad_said old new n text a.0 a.1

  line_said : (old new : SessionState) (n : ℕ) (line : Line Command) (text : List ℕ) → SessionLineAnswer limits numbers listing old n line text new → SaidLine old n (known_of line) text new
  line_said old new n Nothing text a = nothing_said old new n text a.0 a.1
  line_said old new n Bad text a = bad_said old new n text a.0 a.1
  line_said old new n (Do c) text a = command_said old new n c text a

  step_said : (s p : SessionState) (n : ℕ) (line text : List ℕ) (u : SessionState) → p ≡ s → TellsLine limits numbers listing s n line text u → (q : SessionState) × (q ≡ u) × SessionStep limits numbers listing p n line text q
  unfolding TellsLine
  step_said s p n line text u is step =
      let said = line_said s u n (line_of line) text step in
      let told : SessionStep limits numbers listing s n line text u = record { plain = record { before = said.before; grown = said.grown; answer = said.answer }; within = said.within; lists = said.lists } in
      (u, refl, subst (λ p. SessionStep limits numbers listing p n line text u) (sym is) told)

  -- the conversation that the code holds is that of a session
  pub session_said : {R : Type 0} (first last : SessionState) (a b k l : Option (List ℕ)) (result : Result R Fault) → LinesServed (TellsLine limits numbers listing) first last a b k l result
      → LinesServed (SessionStep limits numbers listing) first last a b k l result
  session_said first last a b k l result c =
      let came = lines_served_as (λ s p. p ≡ s) (record { moves = step_said }) first first last a b k l result refl c in
      subst (λ p. LinesServed (SessionStep limits numbers listing) first p a b k l result) came.1 came.2

  step_plain : (s : SessionState) (p : Seen) (n : ℕ) (line text : List ℕ) (u : SessionState) → p ≡ kept_by s → SessionStep limits numbers listing s n line text u → (q : Seen) × (q ≡ kept_by u) × PlainSessionStep limits numbers p n line text q
  step_plain s p n line text u is step = (kept_by u, refl, subst (λ p. PlainSessionStep limits numbers p n line text (kept_by u)) (sym is) step.plain)

  -- the conversation of a session is one of the reference model
  pub session_plain : {R : Type 0} (first last : SessionState) (a b k l : Option (List ℕ)) (result : Result R Fault) → LinesServed (SessionStep limits numbers listing) first last a b k l result
      → LinesServed (PlainSessionStep limits numbers) (kept_by first) (kept_by last) a b k l result
  session_plain first last a b k l result c =
      let came = lines_served_as (λ s p. p ≡ kept_by s) (record { moves = step_plain }) first (kept_by first) last a b k l result refl c in
      subst (λ p. LinesServed (PlainSessionStep limits numbers) (kept_by first) p a b k l result) came.1 came.2

-- ---- what is true of the whole list

module _ (limits : Bounds) (numbers : LogHeading) where
  -- what is kept has one more update, or none
  edit_grows : (old : Seen) (before : List Edit) (e : Edit) (o : Option Refusal) → IsPrefix before (kept_after old before e o).edits
  edit_grows old before e (Some refusal) = prefix_self before
  edit_grows old before e None = (e ∷ [], refl)

  command_grows : (old : Seen) (before : List Edit) (c : Command) → IsPrefix before (seen_after limits before old (Do c)).edits
  command_grows old before (command.Edit e) = edit_grows old before e (verdict_of limits before e)
  command_grows old before _ = prefix_self before

  line_grows : (old : Seen) (before : List Edit) (line : Line Command) → IsPrefix before (seen_after limits before old line).edits
  line_grows old before Nothing = prefix_self before
  line_grows old before Bad = prefix_self before
  line_grows old before (Do c) = command_grows old before c

  -- the updates at which a line was answered are a prefix of those that are seen then
  step_goes_on : (old : Seen) (n : ℕ) (line text : List ℕ) (new : Seen) → (step : PlainSessionStep limits numbers old n line text new) → IsPrefix step.before new.edits
  step_goes_on old n line text new step =
      elim step.answer [
        | inl told ↦ subst (λ s. IsPrefix step.before s.edits) (sym told.1) (line_grows old step.before (session_line_of line))
        | inr want ↦ subst (λ s. IsPrefix step.before s.edits) (sym want.1) (prefix_self step.before)
      ]

  said_no_memory : (edits : List Edit) (line : Line Command) (text : List ℕ) → FindsNoMemory limits edits line text → text ≡ refused_text NoMemory
  said_no_memory edits Nothing text f = absurd f
  said_no_memory edits Bad text f = absurd f
  said_no_memory edits (Do c) text f = f.1

  -- the reply of a step is true of each list that extends what the step leaves
  step_true : (edits : List Edit) (old : Seen) (n : ℕ) (line text : List ℕ) (new : Seen) → PlainSessionStep limits numbers old n line text new → IsPrefix new.edits edits → IsTrueReply limits numbers edits n line text
  step_true edits old n line text new step on =
      let more = prefix_trans step.before new.edits edits (step_goes_on old n line text new step) on in
      record {
        many = length step.before;
        within = prefix_length step.before edits more;
        answer = elim step.answer [
          | inl told ↦ inl (subst (λ es. text ≡ session_reply limits numbers es n (session_line_of line)) (sym (prefix_take step.before edits more)) told.0)
          | inr want ↦ inr (said_no_memory step.before (session_line_of line) text want.0)
        ];
      }

  -- lines only add to what was seen
  pub lines_go_on : (old new : Seen) (n : ℕ) (lines : List (List ℕ)) (text : List ℕ) → Answered (PlainSessionStep limits numbers) old n lines text new → IsPrefix old.edits new.edits
  lines_go_on old new n [] text a = subst (λ s. IsPrefix old.edits s.edits) (sym a.1) (prefix_self old.edits)
  lines_go_on old new n (line ∷ lines) text a =
      prefix_trans old.edits a.2.edits new.edits (prefix_trans old.edits a.3.before a.2.edits a.3.grown (step_goes_on old n line a.0 a.2 a.3)) (lines_go_on a.2 new (n + 1) lines a.1 a.4)

  -- each reply is true of each list that extends what the session has seen at its end
  pub lines_true : (edits : List Edit) (old new : Seen) (n : ℕ) (lines : List (List ℕ)) (text : List ℕ) → Answered (PlainSessionStep limits numbers) old n lines text new → IsPrefix new.edits edits
      → Answered (TrueReply limits numbers edits) tt n lines text tt
  lines_true edits old new n [] text a on = (a.0, refl)
  lines_true edits old new n (line ∷ lines) text a on =
      let rest = prefix_trans a.2.edits new.edits edits (lines_go_on a.2 new (n + 1) lines a.1 a.4) on in
      (a.0, a.1, tt, step_true edits old n line a.0 a.2 a.3 rest, lines_true edits a.2 new (n + 1) lines a.1 a.4 on, a.5)
