-- Proof of `print_command`: the text of a command: its words with one space between, and no zeros before a number.
use Rattle.std.proofs.Common.{rules, ap, ◌∙◌}
use Rattle.lv_lines.specs.Grammar.{line_of}
use Rattle.lv_lines.proofs.ReadAgain.{line_of-printed}
use Rattle.lv_lines.proofs.printing.print_command.Goals as goal

pub returns-clause-printed : goal.returns-clause-printed
returns-clause-printed c = search rules

pub returns-clause-again : goal.returns-clause-again
returns-clause-again c =
    ap line_of (returns-clause-printed c) ∙ line_of-printed c.args.command.now c.put_command.ensures.fits
