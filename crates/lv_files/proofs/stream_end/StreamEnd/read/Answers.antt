-- Proof of `StreamEnd::read`.
use Rattle.std.proofs.Common.{arith}
use Rattle.lv_files.proofs.StreamEndLaws.{empty_is, takes_own}
use Rattle.lv_files.proofs.stream_end.StreamEnd.read.Goals as goal

pub returns-then-count-gt0-clause-bytes : goal.returns-then-count-gt0-clause-bytes
returns-then-count-gt0-clause-bytes g c = (
  takes_own c.args.self.now.owed.now c.args.self.now.mark.now c.args.self.now.is_within c.is_within-self.result _ (g.R.Read.remaining c.args.stream.now) (g.R.Read.remaining c.read-2.new.self)
      (empty_is c.args.self.now.owed.now c.is_empty.result c.is_empty.ensures c.if-not-is_empty.false) c.is_within-self.ensures c.in-Ok.ensures.bytes.0,
  λ none. absurd (omega (arith, none, c.if-count-gt0.true)),
)
