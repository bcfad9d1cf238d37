-- Proof of `a_front_of_the_input_has_its_first_lines`: the lines that a prefix of an input ends are the first lines of the input.
use Rattle.lv_lines.proofs.InputLemmas.{lines_of-append, lines_of-ended, lines_of-parts, whole_lines_of-append}
use Rattle.lv_script.proofs.laws.a_front_of_the_input_has_its_first_lines.Goals as goal

pub returns-clause-all : goal.returns-clause-all
returns-clause-all c = lines_of-append

pub returns-clause-whole : goal.returns-clause-whole
returns-clause-whole c = whole_lines_of-append

pub returns-clause-last : goal.returns-clause-last
returns-clause-last c = lines_of-parts

pub returns-clause-ended : goal.returns-clause-ended
returns-clause-ended c = lines_of-ended
