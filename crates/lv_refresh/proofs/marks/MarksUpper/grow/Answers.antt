-- Proof of `Marks::grow`: makes room for the numbers below `marks`.
use Rattle.std.proofs.Common.{◌-◌, ◌≤◌, length, ap, ◌∙◌, arith}
use Rattle.std.specs.Prelude.{vec_len}
use Rattle.lv_refresh.specs.Marks.{is_marked}
use Rattle.lv_refresh.proofs.OverLaws.{is_marked-grown}
use Rattle.lv_refresh.proofs.marks.MarksUpper.grow.Goals as goal

pub returns-clause-alike : goal.returns-clause-alike
returns-clause-alike g c =
    let words = c.self.inside.words in
    let enough : length words.items ≤ c.max-words.result = omega (arith, c.max-words.ensures, c.len.ensures, words.ok.0) in
    λ i.
    ap (λ items. is_marked items i) c.in-Ok.ensures.items
    ∙ is_marked-grown words.items c.max-words.result (c.max-words.result - vec_len words) i enough
    ∙ ap (λ state. is_marked state.words i) c.self.view_is
