-- A line of a script that did not run out of memory.
use Rattle.std.specs.Prelude.{◌≢◌, ℕ, List}
use Rattle.lv_geometry.specs.declared.refusals.Refusal.TheVariants.{NoMemory}
use Rattle.lv_lines.specs.Texts.{refused_text}
use Rattle.lv_script.specs.Script.{ScriptState, ScriptStep}

-- a line of a script was answered, and the reply does not report `NoMemory` (out of memory)
abbrev pub StepWithRoom : ScriptState → ℕ → List ℕ → List ℕ → ScriptState → Type 0
StepWithRoom old n line text new = ScriptStep old n line text new × (text ≢ refused_text NoMemory)
