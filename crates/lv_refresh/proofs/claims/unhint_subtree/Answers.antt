-- Proof of `unhint_subtree`: takes the hints at the 512 blocks of a subtree away.
use Rattle.std.proofs.Common.{◌*◌, ◌/◌, ◌&&◌, not, nat_eq, refl, ap, ◌∙◌, arith}
use Rattle.lv_refresh.specs.Marks.{is_marked}
use Rattle.lv_refresh.proofs.SubtreeHints.{between_all, between_more, between_none, is_between}
use Rattle.lv_refresh.proofs.claims.unhint_subtree.Goals as goal

pub loop-word-init : goal.loop-word-init
loop-word-init c =
    record { claimed = refl; room = refl; hints = λ k. between_none (8 * c.args.number) (k / 64) (is_marked c.args.rows.now.rows.hints k) }

pub loop-word-preserved : goal.loop-word-preserved
loop-word-preserved c =
    let kept = c.loop-word.invariant in
    let away = c.unhint_word.ensures in
    record {
      claimed = away.claimed ∙ kept.claimed;
      room = away.room ∙ kept.room;
      hints = λ k.
          away.hints k
          ∙ ap (λ marked. not (nat_eq (k / 64) c.loop-word.word) && marked) (kept.hints k)
          ∙ between_more (8 * c.args.number) c.loop-word.word (k / 64) (is_marked c.args.rows.now.rows.hints k) c.loop-word.auto.word;
    }

pub returns : goal.returns
returns c =
    let kept = c.loop-word.invariant in
    record {
      claimed = kept.claimed;
      room = kept.room;
      hints = λ k.
          kept.hints k
          ∙ ap (λ is. not is && is_marked c.args.rows.now.rows.hints k) (ap (λ last. is_between (8 * c.args.number) last (k / 64)) (omega (arith, c.loop-word.auto.word-end, c.loop-word-test.false)) ∙ between_all c.args.number k);
    }
