-- Proof of `likely_edit`: the edit whose line this is, if it is that of any: the letters are not compared.
use Rattle.std.proofs.Common.{◌≡◌, inl, inr, sym, ◌∙◌}
use Rattle.lv_lines.specs.declared.command.Command.{Command}
use Rattle.lv_lines.specs.declared.command.Command.TheVariants as commands
use Rattle.lv_lines.specs.declared.lines.Line.{Line}
use Rattle.lv_lines.specs.declared.lines.Line.TheVariants.{Nothing, Bad, Do}
use Rattle.lv_transcript.proofs.ReadTranscripts.{line_of-edit_line}
use Rattle.lv_transcript.proofs.transcript_lines.likely_edit.Goals as goal

-- two readings of one line say the same
same_command : (line : Line Command) (one other : Command) → line ≡ Do one → line ≡ Do other → one ≡ other
same_command line one other is as' = cc

-- a line that says something says no nothing, and is not bad
not_nothing : (line : Line Command) (command : Command) → line ≡ Nothing → line ≡ Do command → ⊥
not_nothing line command is as' = absurd cc

not_bad : (line : Line Command) (command : Command) → line ≡ Bad → line ≡ Do command → ⊥
not_bad line command is as' = absurd cc

pub returns-in-Do : goal.returns-in-Do
returns-in-Do c = λ edit fits is.
    let read = line_of-edit_line c.args.line.now c.in_ok-command.command.now edit fits c.in_ok-command.ensures.cases.1 is in
    c.edit_of.ensures edit (same_command _ c.in-Do.command (commands.Edit edit) (sym c.in-Do.ensures) read)

pub returns-in-Nothing : goal.returns-in-Nothing
returns-in-Nothing c = λ edit fits is.
    let read = c.read_line.ensures ∙ line_of-edit_line c.args.line.now c.in_ok-command.command.now edit fits c.in_ok-command.ensures.cases.1 is in
    elim c.in-Nothing.is [
      | inl nothing ↦ absurd (not_nothing _ _ nothing read)
      | inr bad ↦ absurd (not_bad _ _ bad read)
    ]
