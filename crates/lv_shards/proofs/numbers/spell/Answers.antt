-- Proof of `spell`: numbers by their bytes.
use Rattle.std.proofs.Common.{◌*◌, refl, ◌∙◌, sym, ap, length, arith}
use Rattle.lv_shards.specs.SpelledLaws.{spelled_none, still_many, written_more}
use Rattle.lv_shards.proofs.numbers.spell.Goals as goal

pub loop-j-init : goal.loop-j-init
loop-j-init c = record { many = refl; so_far = sym spelled_none }

pub loop-j-preserved : goal.loop-j-preserved
loop-j-preserved c =
    let part = c.copy_from_slice.ensures.after ∙ c.to_le_bytes.ensures in
    record {
      many = still_many (8 * c.loop-j.j) 176 c.loop-j.bytes c.copy_from_slice.new.self c.loop-j.invariant.many (ap length part) (omega arith);
      so_far = written_more c.loop-j.j c.args.numbers.now c.loop-j.bytes c.copy_from_slice.new.self (omega arith) (omega (arith, c.loop-j.invariant.many)) part c.loop-j.invariant.so_far;
    }
