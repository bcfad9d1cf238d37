-- Proof of `take_permit`: a new permit, with which nothing was added in the book as it is seen then.
use Rattle.std.proofs.Common.{ap, sym, ◌∙◌}
use Rattle.lv_history.proofs.StepLaws.{grants_moves}
use Rattle.lv_history.proofs.histories.take_permit.Goals as goal

pub compare_exchange-requires : goal.compare_exchange-requires
compare_exchange-requires c =
    let h = c.requires in
    let offer = c.plain-offer.ensures in
    let pen = c.no_pen-pen.ensures in (
      ap (λ w. w.tracked) h,
      sym (ap (λ w. w.book) h),
      pen.0 ∙ sym (ap (λ w. w.book) h),
      offer.0,
      rw (ap (λ w. w.key) h, pen.1, offer.3) (grants_moves _ c.args.seen.now.log),
    )
