-- Proof of `have_summaries`: whether summaries are those of a whole node's children, which are fresh.
use Rattle.std.proofs.Common.{subst}
use Rattle.std.proofs.lemmas.Bool.{false≢true}
use Rattle.lv_refresh.specs.declared.contents.Contents.TheVariants.{Children}
use Rattle.lv_refresh.specs.ClaimTable.{record_of}
use Rattle.lv_refresh.specs.Honesty.{Stands}
use Rattle.lv_live.proofs.VouchLaws.{children_of_stands, nothing_stands, stands_of_children}
use Rattle.lv_live.proofs.vouching.have_summaries.Goals as goal

pub returns-in-Some : goal.returns-in-Some
returns-in-Some g c = λ claims.
    let o = g.B.Body.operations c.args.body.now in
    let within = g.B.Body.is_within c.args.body.now in
    let laws = g.B.Body.laws c.args.body.now in
    let es = c.args._history.now.journal in (
      λ same. subst (λ summaries. Stands o (record_of es c.args.table.now claims) c.args.node (Children summaries)) (c.same_summaries.ensures.0 same) (stands_of_children o within laws es c.args.table.now claims c.requires.agrees c.args.node c.in-Some.here c.requires.above c.in-Some.ensures.ready c.in-Some.ensures.some),
      λ stands. c.same_summaries.ensures.1 (children_of_stands o within laws es c.args.table.now claims c.requires.agrees c.args.node c.in-Some.here c.args.summaries.now c.requires.above c.in-Some.ensures.ready c.in-Some.ensures.some stands),
    )

pub returns-in-None : goal.returns-in-None
returns-in-None g c = λ claims. (
  λ no. absurd (false≢true no),
  λ stands. absurd (nothing_stands (g.B.Body.operations c.args.body.now) (g.B.Body.is_within c.args.body.now) (g.B.Body.laws c.args.body.now) c.args._history.now.journal c.args.table.now claims c.requires.agrees c.args.node c.args.summaries.now c.in-None.ensures.none stands),
)
