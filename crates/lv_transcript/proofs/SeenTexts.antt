-- An audit of bytes in memory sees all of them, so that its verdict on those that it saw is one on the bytes.
use Rattle.std.proofs.Common.{◌≡◌, ℕ, ◌<◌, ◌^◌, List, ◌++◌, length, length-append, append-nil, sym, ap, ◌∙◌, subst, arith}
use Rattle.std.specs.Prelude.{Option, Some, None, Ok, Err}
use Rattle.std.specs.Io.KnownBytes.{Consumes, IsAtEnd}
use Rattle.lv_lines.specs.declared.fault.Fault.{Fault}
use Rattle.lv_lines.specs.declared.fault.Fault.TheVariants.{NoMemory, ReadFault, TooLong, WriteFault}
use Rattle.lv_lines.specs.Replies.{IsTooLong}
use Rattle.lv_transcript.specs.Audits.{AuditsInput, ReadsInput}
use Rattle.lv_transcript.specs.ReadTexts.{IsUnread, TellsOf, unread_by}

-- if nothing is left, all was seen
seen_all : (text seen : List ℕ) (rest : Option (List ℕ)) → Consumes (Some text) rest seen → IsAtEnd rest → seen ≡ text
seen_all text seen None read end = elim read [ ]
seen_all text seen (Some left) read end = sym (read ∙ ap (λ z. seen ++ z) end ∙ append-nil seen)

-- if too much was seen, there is too much
too_long : (text seen : List ℕ) (rest : Option (List ℕ)) → Consumes (Some text) rest seen → IsTooLong seen → 2 ^ 30 < length text
too_long text seen None read long = elim read [ ]
too_long text seen (Some left) read long = omega (arith, long, ap length read, length-append seen left)

module _ {V : Type 0} (Right : List ℕ → V → Type 0) (text : List ℕ) (rest : Option (List ℕ)) where
  pub text_audited : (shown : V → List ℕ) (k l : Option (List ℕ)) (verdict : V) → AuditsInput (2 ^ 30) Right shown (Some text) rest k l (Ok verdict) → TellsOf Right text (Ok verdict)
  text_audited shown k l verdict a = subst (λ (t : List ℕ). TellsOf Right t (Ok verdict)) (seen_all text a.seen rest a.read a.ends.0.0) (a.ends.0.1, a.ends.1)

  pub text_unaudited : (shown : V → List ℕ) (k l : Option (List ℕ)) (fault : Fault) → AuditsInput (2 ^ 30) Right shown (Some text) rest k l (Err fault) → IsUnread text (unread_by fault)
  text_unaudited shown k l TooLong a = too_long text a.seen rest a.read a.ends.0
  text_unaudited shown k l NoMemory a = tt
  text_unaudited shown k l ReadFault a = tt
  text_unaudited shown k l WriteFault a = tt

  pub text_read : (found : V) → ReadsInput (2 ^ 30) Right (Some text) rest (Ok found) → TellsOf Right text (Ok found)
  text_read found a = subst (λ (t : List ℕ). TellsOf Right t (Ok found)) (seen_all text a.seen rest a.read a.ends.0.0) (a.ends.0.1, a.ends.1)

  pub text_unread : (fault : Fault) → ReadsInput (2 ^ 30) Right (Some text) rest (Err fault) → IsUnread text (unread_by fault)
  text_unread TooLong a = too_long text a.seen rest a.read a.ends
  text_unread NoMemory a = tt
  text_unread ReadFault a = tt
  text_unread WriteFault a = tt
