-- Proof of `a_front_of_the_lines_gives_a_front_of_the_text`: a prefix of some lines is answered with a prefix of their text.
use Rattle.lv_lines.proofs.ReplyLemmas.{Answered-split}
use Rattle.lv_script.proofs.laws.a_front_of_the_lines_gives_a_front_of_the_text.Goals as goal

pub returns : goal.returns
returns g c = λ old new n xs ys text. Answered-split g.A.LineHandler.step old n xs ys text new
