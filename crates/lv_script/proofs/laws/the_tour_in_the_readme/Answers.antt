-- Proof of `the_tour_in_the_readme`: the tour in README.md: its lines, and what the plain interpreter answers them.
use Rattle.std.proofs.Common.{refl}
use Rattle.std.specs.Fmt.{digits}
use Rattle.lv_edits.specs.History.{list_of, replayed}
use Rattle.lv_lines.specs.Grammar.{bounds_up_to, command_in, kind_in, line_by, range_up_to}
use Rattle.lv_lines.specs.Numbers.{element_in, number_up_to}
use Rattle.lv_lines.specs.Words.{words_of}
use Rattle.lv_script.proofs.laws.the_tour_in_the_readme.Goals as goal

pub returns-clause-edits : goal.returns-clause-edits
unfolding digits list_of replayed bounds_up_to command_in kind_in line_by range_up_to element_in number_up_to words_of
returns-clause-edits c = refl

pub returns-clause-refresh : goal.returns-clause-refresh
unfolding digits list_of replayed bounds_up_to command_in kind_in line_by range_up_to element_in number_up_to words_of
returns-clause-refresh c = refl
