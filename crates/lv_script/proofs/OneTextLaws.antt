-- Where memory is never wanted, the lines of a script have one text.
use Rattle.std.proofs.Common.{◌≡◌, ◌≢◌, ◌⊎◌, ℕ, ◌+◌, Option, Some, None, Result, Ok, Err, List, [], ◌∷◌, ◌++◌, refl, sym, ap, ap₂, ◌∙◌, subst, inl, inr, append-nil, true≢false}
use Rattle.lv_geometry.specs.Bounds.{Bounds}
use Rattle.lv_geometry.specs.declared.refusals.Refusal.{Refusal}
use Rattle.lv_geometry.specs.declared.refusals.Refusal.TheVariants.{NoMemory}
use Rattle.lv_bodies.specs.Six.{SixSummary, six_operations}
use Rattle.lv_edits.specs.declared.edit.Edit.{Edit}
use Rattle.lv_edits.specs.declared.receipt.Receipt.{Receipt}
use Rattle.lv_refresh.specs.Record.{Record}
use Rattle.lv_live.specs.declared.events.Event.{Event}
use Rattle.lv_live.specs.declared.events.Event.TheVariants as event
use Rattle.lv_live.specs.declared.replies.ReplyOf.{ReplyOf}
use Rattle.lv_live.specs.declared.replies.ReplyOf.TheVariants as reply
use Rattle.lv_live.specs.Step.{EditStep, edit_reply}
use Rattle.lv_live.proofs.OneOutcomeLaws.{one_record, one_step}
use Rattle.lv_standing.specs.declared.notes.Note.{Note}
use Rattle.lv_standing.specs.declared.queries.Query.{Query}
use Rattle.lv_standing.specs.Queries.{AreNotes, between, query_of, query_refusal, watch_answer}
use Rattle.lv_standing.proofs.QueryLaws.{never_due}
use Rattle.lv_lines.specs.declared.command.Command.{Command}
use Rattle.lv_lines.specs.declared.command.Command.TheVariants as command
use Rattle.lv_lines.specs.declared.lines.Line.{Line}
use Rattle.lv_lines.specs.declared.lines.Line.TheVariants.{Nothing, Bad, Do}
use Rattle.lv_lines.specs.Grammar.{line_of}
use Rattle.lv_lines.specs.Replies.{Answered}
use Rattle.lv_lines.specs.Texts.{refused_text}
use Rattle.lv_script.specs.OneText.{StepWithRoom}
use Rattle.lv_script.specs.Script.{CommandAnswer, Does, HasQueries, LineAnswer, ScriptState, ScriptStep, Tells, TellsEdit, TellsEvent, TellsUnwatch, TellsWatch, edit_text, notes_text, reply_text}
use Rattle.lv_script.specs.Beginnings.{Begins}

-- the reply that reports `NoMemory` (out of memory)
abbrev want : ReplyOf SixSummary
want = reply.Refused NoMemory

-- states with the same limits, record and queries are one
one_state : (a b : ScriptState) → a.limits ≡ b.limits → a.seen ≡ b.seen → a.queries ≡ b.queries → a ≡ b
one_state a b limits seen queries = λ i. record { limits = limits i; seen = seen i; queries = queries i }

-- an edit has one list of notes
one_list_of_notes : (old new : List Edit) (queries : List Query) (a b : List Note) → AreNotes old new queries a → AreNotes old new queries b → a ≡ b
one_list_of_notes old new [] a b first second = first ∙ sym second
one_list_of_notes old new (q ∷ queries) a b first second =
    elim first [
      | inl same ↦ elim second [
        | inl too ↦ one_list_of_notes old new queries a b same.1 too.1
        | inr changed ↦ absurd (true≢false (sym changed.0 ∙ same.0))
      ]
      | inr changed ↦ elim second [
        | inl same ↦ absurd (true≢false (sym changed.0 ∙ same.0))
        | inr too ↦ changed.2 ∙ ap (λ rest. record { name = q.name; value = watch_answer new q } ∷ rest) (one_list_of_notes old new queries changed.1 too.1 changed.3 too.3) ∙ sym too.2
      ]
    ]

-- if the edits are the same there are no notes
pub no_notes : (edits : List Edit) (queries : List Query) (notes : List Note) → AreNotes edits edits queries notes → notes ≡ []
no_notes edits [] notes is = is
no_notes edits (q ∷ queries) notes is = elim is [ inl same ↦ no_notes edits queries notes same.1 | inr changed ↦ absurd (true≢false (sym changed.0 ∙ never_due q.bound (watch_answer edits q))) ]

-- an edit's reply tells its answer
pub edit_reply_tells : (a b : Result Receipt Refusal) → edit_reply {S = SixSummary} a ≡ edit_reply b → a ≡ b
edit_reply_tells (Ok receipt) (Ok other) same = cc
edit_reply_tells (Ok receipt) (Err refusal) same = cc
edit_reply_tells (Err refusal) (Ok receipt) same = cc
edit_reply_tells (Err refusal) (Err other) same = cc

-- an edit that is rejected leaves the edits
refused_edits : (limits : Bounds) (r next : Record) (edit : Edit) (answer : Result Receipt Refusal) → EditStep limits r edit answer next → answer ≡ Err NoMemory → next.edits ≡ r.edits
refused_edits limits r next edit (Ok receipt) step refused = cc
refused_edits limits r next edit (Err refusal) step refused = step.1.edits

-- the text of an update that ran out of memory
wanted_edit : (old new : ScriptState) (e : Edit) (text : List ℕ) (tells : TellsEdit old e text new) → tells.answer ≡ Err NoMemory → text ≡ refused_text NoMemory
wanted_edit old new e text tells refused =
    let step = tells.does.step in
    let mine : step.0 ≡ Err NoMemory = edit_reply_tells step.0 (Err NoMemory) (sym step.1 ∙ ap edit_reply refused) in
    let edits : new.seen.edits ≡ old.seen.edits = refused_edits old.limits old.seen new.seen e step.0 step.2 mine in
    let none : tells.notes ≡ [] = no_notes old.seen.edits old.queries tells.notes (subst (λ edits. AreNotes old.seen.edits edits old.queries tells.notes) edits tells.notes_are) in
    tells.text_is ∙ ap₂ (λ answer notes. edit_text answer ++ notes_text notes) refused none ∙ append-nil (refused_text NoMemory)

-- what a line is answered, and the state after it, is one
abbrev IsOne : List ℕ → List ℕ → ScriptState → ScriptState → Type 0
IsOne text told new after = (text ≡ told) × (new ≡ after)

-- an event that was answered in two ways with room was answered in one
does_one : (old new after : ScriptState) (event : Event) (answered other : ReplyOf SixSummary) → Does old event answered new → Does old event other after
    → answered ≢ want → other ≢ want → (answered ≡ other) × (new ≡ after)
does_one old new after event answered other first second room had =
    let one = one_step six_operations old.limits old.seen new.seen after.seen event answered other first.step second.step room had in
    (one.0, one_state new after (first.limits ∙ sym second.limits) one.1 (first.queries ∙ sym second.queries))

-- the queries that a line leaves are one, if they are
queries_one : (old new after : ScriptState) (queries others : List Query) → HasQueries old new queries → HasQueries old after others → queries ≡ others → new ≡ after
queries_one old new after queries others first second same =
    one_state new after (first.limits ∙ sym second.limits) (sym (one_record old.seen new.seen first.seen) ∙ one_record old.seen after.seen second.seen)
    (first.queries_are ∙ same ∙ sym second.queries_are)

-- a line that changes nothing has one reply
tells_one : (old new after : ScriptState) (said text told : List ℕ) → Tells old said text new → Tells old said told after → IsOne text told new after
tells_one old new after said text told first second = (first.0 ∙ sym second.0, queries_one old new after old.queries old.queries first.1 second.1 refl)

-- an edit has one text
edit_one : (old new after : ScriptState) (e : Edit) (text told : List ℕ) → TellsEdit old e text new → TellsEdit old e told after → text ≢ refused_text NoMemory → told ≢ refused_text NoMemory → IsOne text told new after
edit_one old new after e text told first second room had =
    let one = does_one old new after (event.Edit e) (edit_reply first.answer) (edit_reply second.answer) first.does second.does
    (λ is. room (wanted_edit old new e text first (edit_reply_tells first.answer (Err NoMemory) is)))
    (λ is. had (wanted_edit old after e told second (edit_reply_tells second.answer (Err NoMemory) is))) in
    let notes : first.notes ≡ second.notes = one_list_of_notes old.seen.edits after.seen.edits old.queries first.notes second.notes
    (subst (λ (s : ScriptState). AreNotes old.seen.edits s.seen.edits old.queries first.notes) one.1 first.notes_are) second.notes_are in
    (first.text_is ∙ ap₂ (λ answer notes. edit_text answer ++ notes_text notes) (edit_reply_tells first.answer second.answer one.0) notes ∙ sym second.text_is, one.1)

-- so has an event
event_one : (old new after : ScriptState) (event : Event) (text told : List ℕ) → TellsEvent old event text new → TellsEvent old event told after → text ≢ refused_text NoMemory → told ≢ refused_text NoMemory → IsOne text told new after
event_one old new after event text told first second room had =
    let one = does_one old new after event first.answered second.answered first.does second.does
    (λ is. room (first.text_is ∙ ap reply_text is)) (λ is. had (second.text_is ∙ ap reply_text is)) in
    (first.text_is ∙ ap reply_text one.0 ∙ sym second.text_is, one.1)

-- a claim
claim_one : (old new after : ScriptState) (text told : List ℕ) → TellsEvent old event.Claim text new ⊎ Tells old (refused_text NoMemory) text new
    → TellsEvent old event.Claim told after ⊎ Tells old (refused_text NoMemory) told after → text ≢ refused_text NoMemory → told ≢ refused_text NoMemory → IsOne text told new after
claim_one old new after text told first second room had =
    elim first [
      | inl is ↦ elim second [
        | inl was ↦ event_one old new after event.Claim text told is was room had
        | inr refused ↦ absurd (had refused.0)
      ]
      | inr refused ↦ absurd (room refused.0)
    ]

-- a query has only one reason to be rejected
one_reason : (known : Option Refusal) (a b : Refusal) → known ≡ Some a → known ≡ Some b → a ≡ b
one_reason known a b first second = cc

-- a query that nothing rejects isn't refused for another reason
no_reason : (known : Option Refusal) (a : Refusal) → known ≡ None → known ≡ Some a → ⊥
no_reason known a granted refused = cc

-- a query can't be registered and rejected at the same time, unless memory ran out
watch_or_refused : (old after : ScriptState) (q : Query) (told : List ℕ) → query_refusal 64 old.queries q ≡ None
    → (refusal : Refusal) → (query_refusal 64 old.queries q ≡ Some refusal) ⊎ ((query_refusal 64 old.queries q ≡ None) × (refusal ≡ NoMemory))
    → told ≡ refused_text refusal → told ≢ refused_text NoMemory → ⊥
watch_or_refused old after q told granted refusal why is had =
    elim why [ inl refused ↦ no_reason (query_refusal 64 old.queries q) refusal granted refused | inr wanted ↦ had (is ∙ ap refused_text wanted.1) ]

-- two errors of one query have the same text, if neither is `NoMemory`
watch_refused : (old : ScriptState) (q : Query) (a b : Refusal) (text told : List ℕ)
    → (query_refusal 64 old.queries q ≡ Some a) ⊎ ((query_refusal 64 old.queries q ≡ None) × (a ≡ NoMemory))
    → (query_refusal 64 old.queries q ≡ Some b) ⊎ ((query_refusal 64 old.queries q ≡ None) × (b ≡ NoMemory))
    → text ≡ refused_text a → told ≡ refused_text b → text ≢ refused_text NoMemory → told ≢ refused_text NoMemory → text ≡ told
watch_refused old q a b text told why wherefore is was room had =
    elim why [
      | inl first ↦ elim wherefore [
        | inl second ↦ is ∙ ap refused_text (one_reason (query_refusal 64 old.queries q) a b first second) ∙ sym was
        | inr wanted ↦ absurd (had (was ∙ ap refused_text wanted.1))
      ]
      | inr wanted ↦ absurd (room (is ∙ ap refused_text wanted.1))
    ]

-- a query
watch_one : (old new after : ScriptState) (q : Query) (text told : List ℕ) → TellsWatch old q text new → TellsWatch old q told after → text ≢ refused_text NoMemory → told ≢ refused_text NoMemory → IsOne text told new after
watch_one old new after q text told first second room had =
    elim first [
      | inl is ↦ elim second [
        | inl was ↦ (is.1 ∙ sym was.1, queries_one old new after (old.queries ++ q ∷ []) (old.queries ++ q ∷ []) is.2 was.2 refl)
        | inr refused ↦ absurd (watch_or_refused old after q told is.0 refused.0 refused.1 refused.2.0 had)
      ]
      | inr is ↦ elim second [
        | inl was ↦ absurd (watch_or_refused old new q text was.0 is.0 is.1 is.2.0 room)
        | inr was ↦ (watch_refused old q is.0 was.0 text told is.1 was.1 is.2.0 was.2.0 room had, queries_one old new after old.queries old.queries is.2.1 was.2.1 refl)
      ]
    ]

-- that a query is forgotten
unwatch_one : (old new after : ScriptState) (name : List ℕ) (q : Option Query) (text told : List ℕ) → TellsUnwatch old name q text new → TellsUnwatch old name q told after → IsOne text told new after
unwatch_one old new after name None text told first second = (first.0 ∙ sym second.0, queries_one old new after old.queries old.queries first.1 second.1 refl)
unwatch_one old new after name (Some q) text told first second = (first.0 ∙ sym second.0, queries_one old new after _ _ first.1 second.1 refl)

-- a command that memory was there for has one text, and one state after it
command_one : (old new after : ScriptState) (c : Command) (text told : List ℕ) → CommandAnswer old c text new → CommandAnswer old c told after → text ≢ refused_text NoMemory → told ≢ refused_text NoMemory → IsOne text told new after
command_one old new after (command.Edit e) text told first second room had = edit_one old new after e text told first second room had
command_one old new after command.Settle text told first second room had = event_one old new after event.Settle text told first second room had
command_one old new after (command.Get i) text told first second room had = tells_one old new after _ text told first second
command_one old new after command.Size text told first second room had = tells_one old new after _ text told first second
command_one old new after command.Capacity text told first second room had = tells_one old new after _ text told first second
command_one old new after (command.Reduce kind lo hi) text told first second room had = tells_one old new after _ text told first second
command_one old new after (command.Cost lo hi) text told first second room had = event_one old new after (event.Reduce lo hi) text told first second room had
command_one old new after (command.Scan inclusive kind lo hi) text told first second room had = tells_one old new after _ text told first second
command_one old new after command.Claim text told first second room had = claim_one old new after text told first second room had
command_one old new after (command.Deliver k) text told first second room had = event_one old new after (event.Deliver k) text told first second room had
command_one old new after command.Forget text told first second room had = event_one old new after event.Forget text told first second room had
command_one old new after (command.Watch name kind lo hi) text told first second room had =
    watch_one old new after (between name kind lo hi) text told first second room had
command_one old new after (command.Unwatch name) text told first second room had = unwatch_one old new after name (query_of old.queries name) text told first second
command_one old new after (command.Answer name) text told first second room had = tells_one old new after _ text told first second

-- so has a line
line_one : (old new after : ScriptState) (n : ℕ) (line : Line Command) (text told : List ℕ) → LineAnswer old n line text new → LineAnswer old n line told after → text ≢ refused_text NoMemory → told ≢ refused_text NoMemory → IsOne text told new after
line_one old new after n Nothing text told first second room had = tells_one old new after _ text told first second
line_one old new after n Bad text told first second room had = tells_one old new after _ text told first second
line_one old new after n (Do c) text told first second room had = command_one old new after c text told first second room had

-- by its bytes
step_one : (old new after : ScriptState) (n : ℕ) (line text told : List ℕ) → StepWithRoom old n line text new → StepWithRoom old n line told after → IsOne text told new after
unfolding ScriptStep
step_one old new after n line text told first second = line_one old new after n (line_of line) text told first.0 second.0 first.1 second.1

-- lines that memory was there for have one text, and one state after them
pub lines_one : (old new after : ScriptState) (n : ℕ) (lines : List (List ℕ)) (text told : List ℕ) → Answered StepWithRoom old n lines text new → Answered StepWithRoom old n lines told after → IsOne text told new after
lines_one old new after n [] text told first second = (first.0 ∙ sym second.0, first.1 ∙ sym second.1)
lines_one old new after n (line ∷ lines) text told (reply, rest, mid, step, more, is) (other, others, half, walk, on, was) =
    let one = step_one old mid half n line reply other step walk in
    let later = lines_one mid new after (n + 1) lines rest others more (subst (λ s. Answered StepWithRoom s (n + 1) lines others after) (sym one.1) on) in
    (is ∙ ap₂ ◌++◌ one.0 later.0 ∙ sym was, later.1)

-- scripts of the same limits begin alike
pub one_beginning : (limits : Bounds) (a b : ScriptState) → Begins limits a → Begins limits b → a ≡ b
one_beginning limits a b first second =
    one_state a b (first.limits_are ∙ sym second.limits_are)
    (λ i. record {
      edits = (first.edits_are ∙ sym second.edits_are) i;
      issued = (first.issued ∙ sym second.issued) i;
      claimed = λ n. (first.claimed n ∙ sym (second.claimed n)) i;
      kept = λ n. (first.kept n ∙ sym (second.kept n)) i;
    })
    (first.queries ∙ sym second.queries)
