-- A step of a session is a step of the reference interpreter of scripts.
use Rattle.std.proofs.Common.{◌≡◌, ◌↔◌, ℕ, ◌+◌, Option, Some, None, List, [], ◌∷◌, ◌++◌, refl, sym, ap, ◌∙◌, inl, inr, append-nil, arith, length}
use Rattle.std.specs.Option.{option_map_or}
use Rattle.std.proofs.lemmas.List.{length-append}
use Rattle.lv_geometry.specs.Bounds.{Bounds}
use Rattle.lv_geometry.specs.declared.refusals.Refusal.{Refusal}
use Rattle.lv_bodies.specs.Plain.{plain_value}
use Rattle.lv_edits.specs.declared.edit.Edit.{Edit}
use Rattle.lv_edits.specs.declared.edit.Edit.TheVariants.{Pop, Push, Reserve, Swap, Truncate, Write}
use Rattle.lv_edits.specs.Verdict.{receipt_of, verdict_of}
use Rattle.lv_edits.specs.Ranges.{range_refusal, slice_of}
use Rattle.lv_lines.specs.declared.command.Command.{Command}
use Rattle.lv_lines.specs.declared.command.Command.TheVariants as command
use Rattle.lv_lines.specs.declared.lines.Line.{Line}
use Rattle.lv_lines.specs.declared.lines.Line.TheVariants.{Nothing, Bad, Do}
use Rattle.lv_lines.specs.Grammar.{line_of}
use Rattle.lv_lines.specs.Texts.{answer_text, numbered, receipt_text, refused_text, scan_text}
use Rattle.lv_script.specs.Interpreter.{plain_after, plain_reply}
use Rattle.lv_script.specs.PlainScript.{Plain, after, scan_by, vector_script}
use Rattle.lv_history.specs.Numbering.{from_the_first, told_number}
use Rattle.lv_hub.specs.PlainSession.{FindsNoMemory, PlainSessionStep, Seen, known_of, seen_after, session_reply}
use Rattle.lv_hub.specs.AsScripts.{ScriptedStep, WantsMemory, made_since, plain_at}

-- what the session has seen and made after an update, given why it is refused, if it is
abbrev kept_after : Seen → List Edit → Edit → Option Refusal → Seen
kept_after old edits e o = option_map_or (λ refusal. record old { edits = edits }) o record { edits = edits ++ e ∷ []; made = old.made + 1 }

-- nothing was made if the interpreter keeps the updates that there were
none_made : (old : Seen) (edits : List Edit) → made_since old edits edits ≡ record { edits = edits; made = old.made }
none_made old edits = ap (λ made. record { edits = edits; made = made }) (omega arith)

-- one update was made if it keeps one more
one_made : (old : Seen) (edits : List Edit) (e : Edit) → made_since old edits (edits ++ e ∷ []) ≡ record { edits = edits ++ e ∷ []; made = old.made + 1 }
one_made old edits e = ap (λ made. record { edits = edits ++ e ∷ []; made = made }) (omega (arith, length-append edits (e ∷ [])))

-- if no log came before, each update has its own number
own_number : (n : ℕ) → told_number from_the_first n ≡ n
own_number n = omega arith

-- a receipt has the number of the next edit
own_receipt : (edits : List Edit) (e : Edit) → numbered (length edits + 1) (receipt_of edits e) ≡ receipt_of edits e
own_receipt edits (Push x) = refl
own_receipt edits Pop = refl
own_receipt edits (Write i x) = refl
own_receipt edits (Reserve n) = refl
own_receipt edits (Swap i j) = refl
own_receipt edits (Truncate n) = refl

module _ (limits : Bounds) (edits : List Edit) where
  -- the interpreter after these updates
  abbrev there : Plain
  there = plain_at limits edits

  -- the replies of both are equal
  command_reply : (n : ℕ) (c : Command) → session_reply limits from_the_first edits n (known_of (Do c)) ≡ plain_reply vector_script [] there n (known_of (Do c))
  command_reply n (command.Edit e) =
      ap (option_map_or refused_text (verdict_of limits edits e))
      (ap (λ n. receipt_text (numbered n (receipt_of edits e))) (own_number (length edits + 1)) ∙ ap receipt_text (own_receipt edits e) ∙ sym (append-nil (receipt_text (receipt_of edits e))))
  command_reply n (command.Reduce kind lo hi) =
      ap (λ n. option_map_or refused_text (range_refusal edits lo hi) (answer_text n kind (plain_value kind (slice_of edits lo hi)))) (own_number (length edits))
  command_reply n (command.Scan inclusive kind lo hi) =
      ap (λ n. option_map_or refused_text (range_refusal edits lo hi) (scan_text n inclusive kind (scan_by (plain_value kind) inclusive (slice_of edits lo hi)))) (own_number (length edits))
  command_reply n _ = refl

  reply_is : (n : ℕ) (line : Line Command) → session_reply limits from_the_first edits n (known_of line) ≡ plain_reply vector_script [] there n (known_of line)
  reply_is n Nothing = refl
  reply_is n Bad = refl
  reply_is n (Do c) = command_reply n c

  -- what the session has seen and made is that of the model
  edit_kept : (old : Seen) (e : Edit) (o : Option Refusal) → made_since old edits (option_map_or (λ refusal. there) o (after there (command.Edit e))).edits ≡ kept_after old edits e o
  edit_kept old e (Some refusal) = none_made old edits
  edit_kept old e None = one_made old edits e

  range_kept : (old : Seen) (o : Option Refusal) → made_since old edits (option_map_or (λ refusal. there) o there).edits ≡ record { edits = edits; made = old.made }
  range_kept old (Some refusal) = none_made old edits
  range_kept old None = none_made old edits

  command_kept : (old : Seen) (c : Command) → made_since old edits (plain_after vector_script there (known_of (Do c))).edits ≡ seen_after limits edits old (known_of (Do c))
  command_kept old (command.Edit e) = edit_kept old e (verdict_of limits edits e)
  command_kept old (command.Reduce kind lo hi) = range_kept old (range_refusal edits lo hi)
  command_kept old (command.Scan inclusive kind lo hi) = range_kept old (range_refusal edits lo hi)
  command_kept old _ = none_made old edits

  kept_is : (old : Seen) (line : Line Command) → made_since old edits (plain_after vector_script there (known_of line)).edits ≡ seen_after limits edits old (known_of line)
  kept_is old Nothing = none_made old edits
  kept_is old Bad = none_made old edits
  kept_is old (Do c) = command_kept old c

  -- the model and the interpreter agree on when the reply is `NoMemory`
  command_wants : (c : Command) (text : List ℕ) → FindsNoMemory limits edits (known_of (Do c)) text ↔ WantsMemory there (known_of (Do c)) text
  command_wants (command.Edit e) text = (λ f. f, λ f. f)
  command_wants (command.Reduce kind lo hi) text = (λ f. f, λ f. f)
  command_wants (command.Scan inclusive kind lo hi) text = (λ f. f, λ f. f)
  command_wants _ text = (λ f. f, λ f. f)

  wants_is : (line : Line Command) (text : List ℕ) → FindsNoMemory limits edits (known_of line) text ↔ WantsMemory there (known_of line) text
  wants_is Nothing text = (λ f. f, λ f. f)
  wants_is Bad text = (λ f. f, λ f. f)
  wants_is (Do c) text = command_wants c text

-- each reply of a session is one of the interpreter of scripts
scripted : (limits : Bounds) (old : Seen) (n : ℕ) (line text : List ℕ) (new : Seen) → PlainSessionStep limits from_the_first old n line text new → ScriptedStep limits old n line text new
scripted limits old n line text new step = record {
  before = step.before;
  grown = step.grown;
  answer = elim step.answer [
    | inl told ↦ inl (told.0 ∙ reply_is limits step.before n (line_of line), told.1 ∙ sym (kept_is limits step.before old (line_of line)))
    | inr want ↦ inr ((wants_is limits step.before (line_of line) text).0 want.0, want.1 ∙ sym (none_made old step.before))
  ];
}

-- and conversely
unscripted : (limits : Bounds) (old : Seen) (n : ℕ) (line text : List ℕ) (new : Seen) → ScriptedStep limits old n line text new → PlainSessionStep limits from_the_first old n line text new
unscripted limits old n line text new step = record {
  before = step.before;
  grown = step.grown;
  answer = elim step.answer [
    | inl told ↦ inl (told.0 ∙ sym (reply_is limits step.before n (line_of line)), told.1 ∙ kept_is limits step.before old (line_of line))
    | inr want ↦ inr ((wants_is limits step.before (line_of line) text).1 want.0, want.1 ∙ none_made old step.before)
  ];
}

pub as_scripts : (limits : Bounds) (old : Seen) (n : ℕ) (line text : List ℕ) (new : Seen) → PlainSessionStep limits from_the_first old n line text new ↔ ScriptedStep limits old n line text new
as_scripts limits old n line text new = (scripted limits old n line text new, unscripted limits old n line text new)
