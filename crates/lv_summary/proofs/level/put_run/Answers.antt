-- Proof of `put_run`: puts summaries in rows side by side, from one on.
use Rattle.std.proofs.Common.{◌≡◌, ◌∙◌, arith, length, refl, slice_get, subst}
use Rattle.std.proofs.lemmas.Option.{slice_get_read}
use Rattle.lv_summary.specs.Inner.{HasItems}
use Rattle.lv_summary.proofs.RunLaws.{HasItems-more, HasItems-none}
use Rattle.lv_summary.proofs.level.put_run.Goals as goal

pub loop-k-init : goal.loop-k-init
loop-k-init g c = record { put = HasItems-none c.args.kept.now.items c.args.first (slice_get c.args.summaries.now); blank = refl }

pub set-requires : goal.set-requires
set-requires g c = omega (arith, c.requires.inside, c.loop-k.invariant.put.long, c.loop-k-test.true)

pub loop-k-preserved : goal.loop-k-preserved
loop-k-preserved g c =
    record {
      put = rw c.set.ensures.items (
          HasItems-more c.args.kept.now.items c.loop-k.kept.items c.args.first c.loop-k.k (slice_get c.args.summaries.now) c.index-summaries-k.result c.loop-k.invariant.put (omega (arith, c.requires.inside, c.loop-k-test.true))
          (slice_get_read c.args.summaries.now (length c.args.summaries.now) c.loop-k.k c.index-summaries-k.result refl c.loop-k-test.true c.index-summaries-k.is));
      blank = c.set.ensures.blank ∙ c.loop-k.invariant.blank;
    }

pub returns-clause-items : goal.returns-clause-items
returns-clause-items g c =
    let all : c.loop-k.k ≡ length c.args.summaries.now = omega (arith, c.loop-k-test.false, c.loop-k.auto.k-end) in
    subst (λ n. HasItems c.args.kept.now.items c.loop-k.kept.items c.args.first n (slice_get c.args.summaries.now)) all c.loop-k.invariant.put

pub returns-clause-blank : goal.returns-clause-blank
returns-clause-blank g c = c.loop-k.invariant.blank
