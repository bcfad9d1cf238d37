-- Proof of `a_front_of_the_input_gives_a_front_of_the_text`: the lines of a prefix of an input are answered with a prefix of the text.
use Rattle.std.proofs.Common.{◌++◌, map, take, ap, ◌∙◌}
use Rattle.std.proofs.lemmas.List.{map-append}
use Rattle.lv_lines.specs.Input.{lines_of, unended_of, whole_lines_of}
use Rattle.lv_lines.proofs.InputLemmas.{lines_of-append}
use Rattle.lv_lines.proofs.ReplyLemmas.{Answered-split}
use Rattle.lv_script.proofs.laws.a_front_of_the_input_gives_a_front_of_the_text.Goals as goal

pub returns : goal.returns
returns g c = λ old new xs ys text answered.
    let first = whole_lines_of xs in
    let later = lines_of (unended_of xs ++ ys) in
    let parts = ap (map (take 121)) (lines_of-append xs ys) ∙ map-append (take 121) first later in
    Answered-split g.A.LineHandler.step old 1 (map (take 121) first) (map (take 121) later) text new (rw parts at answered)
