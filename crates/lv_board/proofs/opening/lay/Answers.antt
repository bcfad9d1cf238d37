-- Proof of `lay`: a board with no updates, and the token that deals its seats.
use Rattle.std.proofs.Common.{◌≡◌, ◌*◌, [], ◌∷◌, replicate, ap, ◌∙◌, arith}
use Rattle.lv_machine.specs.History.{descriptor_of}
use Rattle.lv_machine.specs.Terms.{blocks_of}
use Rattle.lv_board.specs.Rule.{limits_of}
use Rattle.lv_board.proofs.Opens.{are_terms, opens}
use Rattle.lv_board.proofs.opening.lay.Goals as goal

pub of_words-requires : goal.of_words-requires
of_words-requires g c =
    let words = c.as_slice.ensures.value in
    let count : 2 * c.capacity.result ≡ 16 * blocks_of (limits_of c.args.terms) = omega (arith, c.capacity.ensures.value) in
    opens (Unit {0}) g.B.BoardBody.folding c.args.terms c.as_slice.result.now (are_terms g.B.BoardBody.folding g.B.Parted.PARTS g.B.Parted.parts_of g.B.Body.operations c.args.terms (g.met.B.BoardBody g.world.𝓛 g.world.𝓜 g.world.𝓡 ((λ s x. x), (λ p. p), (λ n s. n s), (λ p. p))).keeps_parts g.B.Parted.some.1 g.B.Parted.are_parts c.requires)
    (words ∙ c.in_ok-words.ensures ∙ ap (λ n. descriptor_of [] ∷ replicate n 0) count)
