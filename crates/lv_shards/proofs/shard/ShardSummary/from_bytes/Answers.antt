-- Proof of `ShardSummary::from_bytes`.
use Rattle.std.proofs.Common.{Ok, refl, ap, ◌∙◌}
use Rattle.lv_shards.specs.Bytes.{numbers_of}
use Rattle.lv_shards.proofs.ReadBack.{not_those, read_is, version_is}
use Rattle.lv_shards.proofs.Short.{numbers_short}
use Rattle.lv_shards.proofs.shard.ShardSummary.from_bytes.Goals as goal

pub returns-then-number_at-ne1-clause-only : goal.returns-then-number_at-ne1-clause-only
returns-then-number_at-ne1-clause-only c = λ s possible is.
    elim (c.if-number_at-ne1.true (c.number_at.ensures ∙ version_is s c.args.bytes.now possible is)) [ ]

pub returns-in_default-clause-only : goal.returns-in_default-clause-only
returns-in_default-clause-only c = λ s possible is.
    elim (c.in_default.not-Some s (c.summary_in.ensures s possible (c.numbers_in.ensures (numbers_of s) refl (numbers_short s possible) is))) [ ]

pub returns-then-eq-clause-only : goal.returns-then-eq-clause-only
returns-then-eq-clause-only c = λ s possible is.
    ap Ok (read_is s c.in-Some.read (c.in-Some.ensures s possible (c.numbers_in.ensures (numbers_of s) refl (numbers_short s possible) is)))

pub returns-else-eq-clause-only : goal.returns-else-eq-clause-only
returns-else-eq-clause-only c = λ s possible is.
    elim (not_those s c.in-Some.read c.args.bytes.now c.to_bytes.result c.eq.result c.eq.ensures c.if-eq.false c.to_bytes.ensures
    (read_is s c.in-Some.read (c.in-Some.ensures s possible (c.numbers_in.ensures (numbers_of s) refl (numbers_short s possible) is))) is) [ ]
