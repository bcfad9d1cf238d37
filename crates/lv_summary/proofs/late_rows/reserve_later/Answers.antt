-- Proof of `reserve_later`: makes memory for the pieces behind the first that so many items need.
use Rattle.std.proofs.Common.{◌∙◌, [], ◌∷◌, ap, arith, length, length-append, refl}
use Rattle.lv_summary.specs.Inner.{later_item}
use Rattle.lv_summary.proofs.LateLaws.{later_item-added}
use Rattle.lv_summary.proofs.late_rows.reserve_later.Goals as goal

pub loop-piece-preserved : goal.loop-piece-preserved
loop-piece-preserved g c =
    record {
      same = λ number blank.
          ap (λ xs. later_item xs number blank) (c.if-not-add_piece.ensures.piece refl)
          ∙ later_item-added c.loop-piece.later.items number blank
          ∙ c.loop-piece.invariant.same number blank;
      more = omega (arith, ap length (c.if-not-add_piece.ensures.piece refl), length-append c.loop-piece.later.items ([] ∷ []), c.loop-piece.invariant.more);
    }

pub returns-then-not-add_piece-clause-same : goal.returns-then-not-add_piece-clause-same
returns-then-not-add_piece-clause-same g c = λ number blank.
    ap (λ xs. later_item xs number blank) (c.if-not-add_piece.ensures.same refl) ∙ c.loop-piece.invariant.same number blank

pub returns-then-not-add_piece-clause-more : goal.returns-then-not-add_piece-clause-more
returns-then-not-add_piece-clause-more g c =
    omega (arith, ap length (c.if-not-add_piece.ensures.same refl), c.loop-piece.invariant.more)
