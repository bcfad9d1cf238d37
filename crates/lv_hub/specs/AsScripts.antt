-- Sessions compared with the reference interpreter of scripts, without continuous queries, and with the hub's own update numbers.
use Rattle.std.specs.Prelude.{◌≡◌, ◌⊎◌, ℕ, ◌+◌, ◌-◌, None, List, [], length}
use mathlib.Core.List.{IsPrefix}
use Rattle.lv_geometry.specs.Bounds.{Bounds}
use Rattle.lv_geometry.specs.declared.refusals.Refusal.TheVariants.{NoMemory}
use Rattle.lv_edits.specs.declared.edit.Edit.{Edit}
use Rattle.lv_lines.specs.declared.command.Command.{Command}
use Rattle.lv_lines.specs.declared.lines.Line.{Line}
use Rattle.lv_lines.specs.declared.lines.Line.TheVariants.{Do}
use Rattle.lv_lines.specs.Texts.{refused_text}
use Rattle.lv_script.specs.Interpreter.{plain_after, plain_reply}
use Rattle.lv_script.specs.PlainScript.{Plain, refusal_of, vector_script}
use Rattle.lv_hub.specs.PlainSession.{Seen, session_line_of}

-- The state of the interpreter after these updates.
abbrev pub plain_at : Bounds → List Edit → Plain
plain_at limits edits = record { limits = limits; edits = edits; queries = [] }

-- What a session has seen and made if the hub had reached the first list and the interpreter then keeps the second. An update that the
-- interpreter added was made by this session.
abbrev pub made_since : Seen → List Edit → List Edit → Seen
made_since old before kept = record { edits = kept; made = old.made + (length kept - length before) }

-- The reply is the error `NoMemory`, for a command that the interpreter does not refuse.
abbrev pub WantsMemory : Plain → Line Command → List ℕ → Type 0
WantsMemory s (Do c) text = (refusal_of s c ≡ None) × (text ≡ refused_text NoMemory)
WantsMemory s _ text = ⊥

-- One step of a session, at line n. The hub had reached a list of updates that begins with those that the session had seen. Either the reply is
-- the interpreter's after that list, and the session has then seen the updates that the interpreter keeps. Or the reply is `NoMemory`, and no
-- update was made.
pub record ScriptedStep (limits : Bounds) (old : Seen) (n : ℕ) (line text : List ℕ) (new : Seen) : Type 0 where
  pub before : List Edit
  pub grown : IsPrefix old.edits before
  pub answer : ((text ≡ plain_reply vector_script [] (plain_at limits before) n (session_line_of line))
      × (new ≡ made_since old before (plain_after vector_script (plain_at limits before) (session_line_of line)).edits))
      ⊎ (WantsMemory (plain_at limits before) (session_line_of line) text × (new ≡ made_since old before before))
