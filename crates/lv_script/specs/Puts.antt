-- A text that is written while it is computed, and the effect of a failed write.
use Rattle.std.specs.Prelude.{◌≡◌, ℕ, IfErr, List, Option, Result}
use Rattle.lv_lines.specs.declared.fault.Fault.{Fault}
use Rattle.lv_lines.specs.declared.fault.Fault.TheVariants.{WriteFault}
use Rattle.lv_lines.specs.declared.reply_buffer.ReplyBuffer.{ReplyBuffer}
use Rattle.lv_lines.specs.Output.{PutsFront}

-- if the text was not put, a write failed, and no more than a prefix of the buffered bytes and the text went out
pub record FailsToPut {W T : Type 0} (contents : W → Option (List ℕ)) (old new : ReplyBuffer W) (text : List ℕ) (result : Result T Fault) : Type 0 where
  pub fails : IfErr result (λ fault. (fault ≡ WriteFault) × PutsFront contents old new text)
