-- Each line of a script is answered as the plain interpreter answers it.
use Rattle.std.proofs.Common.{◌≡◌, ◌⊎◌, ℕ, ◌+◌, Bool, Option, Some, None, Result, Ok, Err, List, [], ◌∷◌, ◌++◌, length, codes, decimal, flat_map, refl, sym, ap, ap₂, ◌∙◌, subst, inl, inr, append-nil}
use Rattle.std.specs.Option.{option_map_or}
use Rattle.lv_geometry.specs.Bounds.{Bounds}
use Rattle.lv_geometry.specs.declared.refusals.Refusal.{Refusal}
use Rattle.lv_geometry.specs.declared.refusals.Refusal.TheVariants.{NoMemory, NoSuchName}
use Rattle.lv_bodies.specs.declared.kinds.Kind.{Kind}
use Rattle.lv_bodies.specs.Six.{SixSummary, six_operations}
use Rattle.lv_edits.specs.declared.edit.Edit.{Edit}
use Rattle.lv_edits.specs.declared.receipt.Receipt.{Receipt}
use Rattle.lv_edits.specs.Ranges.{range_refusal}
use Rattle.lv_reduce.specs.declared.reductions.Answer.{Answer}
use Rattle.lv_live.specs.declared.events.Event.{Event}
use Rattle.lv_live.specs.declared.events.Event.TheVariants as event
use Rattle.lv_live.specs.Step.{EditStep, Reduces, job_of, reduction_reply}
use Rattle.lv_live.proofs.RunLaws.{claimed_edits, delivered_edits}
use Rattle.lv_standing.specs.declared.notes.Note.{Note}
use Rattle.lv_standing.specs.declared.queries.Query.{Query}
use Rattle.lv_standing.specs.Queries.{AreNotes, between, query_of, watch_answer, without_query}
use Rattle.lv_lines.specs.declared.command.Command.{Command}
use Rattle.lv_lines.specs.declared.command.Command.TheVariants as command
use Rattle.lv_lines.specs.declared.lines.Line.{Line}
use Rattle.lv_lines.specs.declared.lines.Line.TheVariants.{Nothing, Bad, Do}
use Rattle.lv_lines.specs.declared.fault.Fault.{Fault}
use Rattle.lv_lines.specs.Grammar.{line_of}
use Rattle.lv_lines.specs.Replies.{LinesServed}
use Rattle.lv_lines.specs.Texts.{named_text, receipt_text, refused_text}
use Rattle.lv_lines.proofs.LineLoopLaws.{lines_served_as}
use Rattle.lv_script.specs.Interpreter.{PlainLine, PlainStep}
use Rattle.lv_script.specs.PlainScript.{Plain, note_of, start_after, unknown, vector_script}
use Rattle.lv_script.proofs.InterpreterLaws.{granted, refused, wanted}
use Rattle.lv_script.specs.Script.{CommandAnswer, HasQueries, LineAnswer, ScriptState, ScriptStep, Tells, TellsEvent, TellsUnwatch, TellsWatch, edit_text, named_answer_text, notes_text, reduced_text, reply_text, scanned_range_text}
use Rattle.lv_script.specs.Beginnings.{BeginsAfter}
use Rattle.lv_script.proofs.OneLineLaws.{claim_line, cost_line, delivery_line, refused_line}
use Rattle.lv_script.proofs.Notes.{notes_text_of}
use Rattle.lv_script.proofs.OneTextLaws.{edit_reply_tells, no_notes}

-- what the interpreter keeps of all that a script has seen
abbrev pub plain_of : ScriptState → Plain
plain_of s = record { limits = s.limits; edits = s.seen.edits; queries = s.queries }

-- ---- what is kept

-- only the queries have changed
has_queries : (old new : ScriptState) (queries : List Query) → HasQueries old new queries → plain_of new ≡ record { limits = old.limits; edits = old.seen.edits; queries = queries }
has_queries old new queries has = λ i. record { limits = has.limits i; edits = has.seen.edits i; queries = has.queries_are i }

-- only the edits have
has_edits : (old new : ScriptState) (edits : List Edit) → new.limits ≡ old.limits → new.seen.edits ≡ edits → new.queries ≡ old.queries → plain_of new ≡ record { limits = old.limits; edits = edits; queries = old.queries }
has_edits old new edits limits are queries = λ i. record { limits = limits i; edits = are i; queries = queries i }

-- ---- one line

-- an edit
edit_plain : (old new : ScriptState) (n : ℕ) (e : Edit) (text : List ℕ) (notes : List Note) (answer : Result Receipt Refusal) → EditStep old.limits old.seen e answer new.seen → new.limits ≡ old.limits → new.queries ≡ old.queries
    → AreNotes old.seen.edits new.seen.edits old.queries notes → text ≡ edit_text answer ++ notes_text notes → PlainLine vector_script (plain_of old) n (Do (command.Edit e)) text (plain_of new)
edit_plain old new n e text notes (Ok receipt) step limits queries are is =
    granted vector_script (plain_of old) (plain_of new) n (command.Edit e) text [] step.0 refl
    (is ∙ ap₂ (λ receipt told. receipt_text receipt ++ told) step.1 (notes_text_of (watch_answer old.seen.edits) (watch_answer new.seen.edits) old.queries notes are ∙ ap (λ edits. flat_map (λ q. note_of q (watch_answer old.seen.edits q) (watch_answer edits q)) old.queries) step.2.edits))
    (has_edits old new (old.seen.edits ++ e ∷ []) limits step.2.edits queries)
edit_plain old new n e text notes (Err refusal) step limits queries are is =
    let none = no_notes old.seen.edits old.queries notes (subst (λ edits. AreNotes old.seen.edits edits old.queries notes) step.1.edits are) in
    let told : text ≡ refused_text refusal = is ∙ ap (λ notes. refused_text refusal ++ notes_text notes) none ∙ append-nil (refused_text refusal) in
    let same = has_edits old new old.seen.edits limits step.1.edits queries in
    elim step.0 [
      | inl why ↦ refused vector_script (plain_of old) (plain_of new) n (command.Edit e) text refusal why told same
      | inr want ↦ wanted vector_script (plain_of old) (plain_of new) n (command.Edit e) text refl want.0 (told ∙ ap refused_text want.1) same
    ]

-- the value of a kind over a range
reduced_plain : (old new : ScriptState) (n : ℕ) (kind : Kind) (lo hi : ℕ) (text : List ℕ) (o : Option Refusal) → range_refusal old.seen.edits lo hi ≡ o → Tells old (reduced_text old.seen.edits kind lo hi o) text new
    → PlainLine vector_script (plain_of old) n (Do (command.Reduce kind lo hi)) text (plain_of new)
reduced_plain old new n kind lo hi text None free t = granted vector_script (plain_of old) (plain_of new) n (command.Reduce kind lo hi) text [] free refl t.0 (has_queries old new old.queries t.1)
reduced_plain old new n kind lo hi text (Some refusal) why t = refused vector_script (plain_of old) (plain_of new) n (command.Reduce kind lo hi) text refusal why t.0 (has_queries old new old.queries t.1)

-- a scan
scanned_plain : (old new : ScriptState) (n : ℕ) (inclusive : Bool) (kind : Kind) (lo hi : ℕ) (text : List ℕ) (o : Option Refusal) → range_refusal old.seen.edits lo hi ≡ o → Tells old (scanned_range_text old.seen.edits inclusive kind lo hi o) text new
    → PlainLine vector_script (plain_of old) n (Do (command.Scan inclusive kind lo hi)) text (plain_of new)
scanned_plain old new n inclusive kind lo hi text None free t = granted vector_script (plain_of old) (plain_of new) n (command.Scan inclusive kind lo hi) text [] free refl t.0 (has_queries old new old.queries t.1)
scanned_plain old new n inclusive kind lo hi text (Some refusal) why t = refused vector_script (plain_of old) (plain_of new) n (command.Scan inclusive kind lo hi) text refusal why t.0 (has_queries old new old.queries t.1)

-- a query that is registered, or not
watch_plain : (old new : ScriptState) (n : ℕ) (name : List ℕ) (kind : Kind) (lo hi : ℕ) (text : List ℕ) → TellsWatch old (between name kind lo hi) text new
    → PlainLine vector_script (plain_of old) n (Do (command.Watch name kind lo hi)) text (plain_of new)
watch_plain old new n name kind lo hi text (inl is) =
    granted vector_script (plain_of old) (plain_of new) n (command.Watch name kind lo hi) text [] is.0 refl is.1 (has_queries old new (old.queries ++ between name kind lo hi ∷ []) is.2)
watch_plain old new n name kind lo hi text (inr (refusal, why, t)) =
    let same = has_queries old new old.queries t.1 in
    elim why [
      | inl first ↦ refused vector_script (plain_of old) (plain_of new) n (command.Watch name kind lo hi) text refusal first t.0 same
      | inr want ↦ wanted vector_script (plain_of old) (plain_of new) n (command.Watch name kind lo hi) text refl want.0 (t.0 ∙ ap refused_text want.1) same
    ]

-- a query that is forgotten
unwatch_plain : (old new : ScriptState) (n : ℕ) (name text : List ℕ) (o : Option Query) → query_of old.queries name ≡ o → TellsUnwatch old name o text new → PlainLine vector_script (plain_of old) n (Do (command.Unwatch name)) text (plain_of new)
unwatch_plain old new n name text None none t = refused vector_script (plain_of old) (plain_of new) n (command.Unwatch name) text NoSuchName (ap unknown none) t.0 (has_queries old new old.queries t.1)
unwatch_plain old new n name text (Some q) some t = granted vector_script (plain_of old) (plain_of new) n (command.Unwatch name) text [] (ap unknown some) refl t.0 (has_queries old new (without_query old.queries name) t.1)

-- what a query answers
named_plain : (old new : ScriptState) (n : ℕ) (name text : List ℕ) (o : Option Query) → query_of old.queries name ≡ o → Tells old (named_answer_text old.seen.edits name o) text new → PlainLine vector_script (plain_of old) n (Do (command.Answer name)) text (plain_of new)
named_plain old new n name text None none t = refused vector_script (plain_of old) (plain_of new) n (command.Answer name) text NoSuchName (ap unknown none) t.0 (has_queries old new old.queries t.1)
named_plain old new n name text (Some q) some t =
    granted vector_script (plain_of old) (plain_of new) n (command.Answer name) text [] (ap unknown some) refl
    (t.0 ∙ ap (λ o. option_map_or (λ q. named_text (length old.seen.edits) name (watch_answer old.seen.edits q)) o []) (sym some)) (has_queries old new old.queries t.1)

-- an event that leaves the edits leaves what the interpreter keeps
event_same : (old new : ScriptState) (event : Event) (text : List ℕ) (t : TellsEvent old event text new) → new.seen.edits ≡ old.seen.edits → plain_of new ≡ plain_of old
event_same old new event text t same = has_edits old new old.seen.edits t.does.limits same t.does.queries

-- how many reads a reduction takes
cost_plain : (old new : ScriptState) (n lo hi : ℕ) (text : List ℕ) (answer : Result (Answer SixSummary) Refusal) → Reduces six_operations old.seen lo hi answer → text ≡ reply_text (reduction_reply answer) → plain_of new ≡ plain_of old
    → PlainLine vector_script (plain_of old) n (Do (command.Cost lo hi)) text (plain_of new)
cost_plain old new n lo hi text (Ok answer) is told same =
    granted vector_script (plain_of old) (plain_of new) n (command.Cost lo hi) text
    (codes "cells " ++ decimal answer.cells_read ++ codes " summaries " ++ decimal answer.summaries_read) is.0.granted (cost_line answer.cells_read answer.summaries_read) told same
cost_plain old new n lo hi text (Err refusal) why told same = refused vector_script (plain_of old) (plain_of new) n (command.Cost lo hi) text refusal why told same

-- a claim
claim_plain : (old new : ScriptState) (n : ℕ) (text : List ℕ) → TellsEvent old event.Claim text new ⊎ Tells old (refused_text NoMemory) text new → PlainLine vector_script (plain_of old) n (Do command.Claim) text (plain_of new)
claim_plain old new n text (inl t) =
    let step = t.does.step in
    let line = claim_line (length old.seen.issued + 1) step.0 in
    granted vector_script (plain_of old) (plain_of new) n command.Claim text line.0 refl line.1 (t.text_is ∙ ap reply_text step.2 ∙ line.2) (event_same old new event.Claim text t (step.3.edits ∙ claimed_edits old.seen step.0))
claim_plain old new n text (inr t) =
    let line = refused_line NoMemory in
    granted vector_script (plain_of old) (plain_of new) n command.Claim text line.0 refl line.1 (t.0 ∙ line.2) (has_queries old new old.queries t.1)

-- a delivery
delivery_plain : (old new : ScriptState) (n k : ℕ) (text : List ℕ) → TellsEvent old (event.Deliver k) text new → PlainLine vector_script (plain_of old) n (Do (command.Deliver k)) text (plain_of new)
delivery_plain old new n k text t =
    let step = t.does.step in
    let line = delivery_line old.seen (job_of old.seen k) in
    granted vector_script (plain_of old) (plain_of new) n (command.Deliver k) text line.0 refl line.1 (t.text_is ∙ ap reply_text step.0 ∙ line.2)
    (event_same old new (event.Deliver k) text t (step.1.edits ∙ delivered_edits old.seen (job_of old.seen k)))

-- a command
command_plain : (old new : ScriptState) (n : ℕ) (c : Command) (text : List ℕ) → CommandAnswer old c text new → PlainLine vector_script (plain_of old) n (Do c) text (plain_of new)
command_plain old new n (command.Edit e) text t =
    let step = t.does.step in
    edit_plain old new n e text t.notes step.0 step.2 t.does.limits t.does.queries t.notes_are
    (t.text_is ∙ ap (λ answer. edit_text answer ++ notes_text t.notes) (edit_reply_tells t.answer step.0 step.1))
command_plain old new n command.Settle text t =
    granted vector_script (plain_of old) (plain_of new) n command.Settle text [] refl refl (t.text_is ∙ ap reply_text t.does.step.0) (event_same old new event.Settle text t t.does.step.1.edits)
command_plain old new n (command.Get i) text t = granted vector_script (plain_of old) (plain_of new) n (command.Get i) text [] refl refl t.0 (has_queries old new old.queries t.1)
command_plain old new n command.Size text t = granted vector_script (plain_of old) (plain_of new) n command.Size text [] refl refl t.0 (has_queries old new old.queries t.1)
command_plain old new n command.Capacity text t = granted vector_script (plain_of old) (plain_of new) n command.Capacity text [] refl refl t.0 (has_queries old new old.queries t.1)
command_plain old new n (command.Reduce kind lo hi) text t = reduced_plain old new n kind lo hi text (range_refusal old.seen.edits lo hi) refl t
command_plain old new n (command.Cost lo hi) text t =
    let step = t.does.step in cost_plain old new n lo hi text step.0 step.2 (t.text_is ∙ ap reply_text step.1) (event_same old new (event.Reduce lo hi) text t step.3.edits)
command_plain old new n (command.Scan inclusive kind lo hi) text t = scanned_plain old new n inclusive kind lo hi text (range_refusal old.seen.edits lo hi) refl t
command_plain old new n command.Claim text t = claim_plain old new n text t
command_plain old new n (command.Deliver k) text t = delivery_plain old new n k text t
command_plain old new n command.Forget text t =
    granted vector_script (plain_of old) (plain_of new) n command.Forget text [] refl refl (t.text_is ∙ ap reply_text t.does.step.0) (event_same old new event.Forget text t t.does.step.1.edits)
command_plain old new n (command.Watch name kind lo hi) text t = watch_plain old new n name kind lo hi text t
command_plain old new n (command.Unwatch name) text t = unwatch_plain old new n name text (query_of old.queries name) refl t
command_plain old new n (command.Answer name) text t = named_plain old new n name text (query_of old.queries name) refl t

-- a line
line_plain : (old new : ScriptState) (n : ℕ) (line : Line Command) (text : List ℕ) → LineAnswer old n line text new → PlainLine vector_script (plain_of old) n line text (plain_of new)
line_plain old new n Nothing text t = ([], refl, inl (t.0, has_queries old new old.queries t.1))
line_plain old new n Bad text t = ([], refl, inl (t.0, has_queries old new old.queries t.1))
line_plain old new n (Do c) text t = command_plain old new n c text t

-- a line moves what the interpreter keeps by a step of its own
pub step_plain : (s : ScriptState) (p : Plain) (n : ℕ) (line text : List ℕ) (u : ScriptState) → p ≡ plain_of s → ScriptStep s n line text u → (q : Plain) × (q ≡ plain_of u) × PlainStep vector_script p n line text q
unfolding ScriptStep
step_plain s p n line text u is step = (plain_of u, refl, subst (λ p. PlainStep vector_script p n line text (plain_of u)) (sym is) (line_plain s u n (line_of line) text step))

-- the conversation of a script that begins with some edits is one of the interpreter
pub lines_served_plain : {R : Type 0} (limits : Bounds) (edits : List Edit) (first last : ScriptState) (a b k l : Option (List ℕ)) (result : Result R Fault) → BeginsAfter limits edits first → LinesServed ScriptStep first last a b k l result
    → (end : Plain) × LinesServed (PlainStep vector_script) (start_after limits edits) end a b k l result
lines_served_plain limits edits first last a b k l result begins c =
    let same : start_after limits edits ≡ plain_of first = λ i. record { limits = sym begins.limits_are i; edits = sym begins.edits_are i; queries = sym begins.queries i } in
    let came = lines_served_as (λ s p. p ≡ plain_of s) (record { moves = step_plain }) first (start_after limits edits) last a b k l result same c in
    (came.0, came.2)
