-- Which replies are one line.
use Rattle.std.proofs.Common.{◌≡◌, ℕ, zero, suc, ◌+◌, ◌/◌, ◌%◌, ◌==◌, false, Option, Some, None, List, [], ◌∷◌, ◌++◌, codes, decimal, nat_lt, refl, ◌∙◌, inl, inr, arith}
use Rattle.std.specs.Fmt.{digit_glyph, digits, digits_onto}
use Rattle.std.proofs.lemmas.Bool.{cases_Bool, ne_eqb}
use Rattle.lv_geometry.specs.declared.nodes.Node.{Node}
use Rattle.lv_geometry.specs.declared.refusals.Refusal.{Refusal}
use Rattle.lv_geometry.specs.declared.refusals.Refusal.TheVariants.{NoJob}
use Rattle.lv_geometry.specs.Numbers.{number_of}
use Rattle.lv_summary.specs.declared.accepted.Accepted.{Accepted}
use Rattle.lv_summary.specs.declared.accepted.Accepted.TheVariants.{Installed, Held, Stale}
use Rattle.lv_refresh.specs.Delivery.{delivery_of}
use Rattle.lv_refresh.specs.Record.{Record}
use Rattle.lv_live.specs.Step.{claim_reply, delivery_reply}
use Rattle.lv_lines.proofs.InputLemmas.{has_end-append_none}
use Rattle.lv_lines.specs.Texts.{accepted_text, refused_text, reply_line}
use Rattle.lv_script.specs.Script.{reply_text}
use Rattle.lv_script.specs.Interpreter.{IsOneLine}

-- a text is one line
abbrev pub IsLine : List ℕ → Type 0
IsLine text = (told : List ℕ) × IsOneLine told × (text ≡ reply_line told)

-- a byte that is no LF before bytes without LF
line-cons : (b : ℕ) (bs : List ℕ) → (b == 10) ≡ false → IsOneLine bs → IsOneLine (b ∷ bs)
line-cons b bs other none = rw other none

-- two parts
pub line-append : (xs ys : List ℕ) → IsOneLine xs → IsOneLine ys → IsOneLine (xs ++ ys)
line-append xs ys first second = has_end-append_none xs ys first ∙ second

-- a digit is no LF
glyph_other : (d : ℕ) → (digit_glyph false d == 10) ≡ false
glyph_other d =
    elim (cases_Bool (nat_lt d 10)) [
      | inl small ↦ rw small (ne_eqb (48 + d) 10 (λ same. omega (arith, same)))
      | inr large ↦ rw large (ne_eqb (87 + d) 10 (λ same. omega (arith, same)))
    ]

-- digits before bytes without LF
line-onto : (k n : ℕ) (bytes : List ℕ) → IsOneLine bytes → IsOneLine (digits_onto k 10 false n bytes)
line-onto zero n bytes none = none
line-onto (suc k) n bytes none =
    let first = line-cons (digit_glyph false (n % 10)) bytes (glyph_other (n % 10)) none in
    elim (cases_Bool (n / 10 == 0)) [
      | inl last ↦ rw last first
      | inr more ↦ rw more (line-onto k (n / 10) (digit_glyph false (n % 10) ∷ bytes) first)
    ]

-- a number
pub line-decimal : (n : ℕ) → IsOneLine (decimal n)
unfolding digits
line-decimal n = line-onto 64 n [] refl

-- a word, and a number after it
line-word : (word : List ℕ) (n : ℕ) → IsOneLine word → IsOneLine (word ++ decimal n)
line-word word n one = line-append word (decimal n) one (line-decimal n)

-- a word and a number after some other bytes
line-more : (front word : List ℕ) (n : ℕ) → IsOneLine front → IsOneLine word → IsOneLine (front ++ word ++ decimal n)
line-more front word n one two = line-word (front ++ word) n (line-append front word one two)

-- what a refusal is shown by, without its end
abbrev pub refused_bytes : Refusal → List ℕ
refused_bytes refusal = codes "refused " ++ decimal (number_of refusal)

-- it is one line
pub refused_one : (refusal : Refusal) → IsOneLine (refused_bytes refusal)
refused_one refusal = line-word (codes "refused ") (number_of refusal) refl

-- a refusal
pub refused_line : (refusal : Refusal) → IsLine (refused_text refusal)
refused_line refusal = (refused_bytes refusal, refused_one refusal, refl)

-- a claim's reply
pub claim_line : (k : ℕ) (job : Option (Node × ℕ)) → IsLine (reply_text (claim_reply k job))
claim_line k None = (codes "idle", refl, refl)
claim_line k (Some job) = (
  codes "job " ++ decimal k ++ codes " node " ++ decimal job.0.level ++ codes " " ++ decimal job.0.number ++ codes " version " ++ decimal job.1,
  line-more (codes "job " ++ decimal k ++ codes " node " ++ decimal job.0.level ++ codes " " ++ decimal job.0.number) (codes " version ") job.1
      (line-more (codes "job " ++ decimal k ++ codes " node " ++ decimal job.0.level) (codes " ") job.0.number
      (line-more (codes "job " ++ decimal k) (codes " node ") job.0.level (line-word (codes "job ") k refl) refl) refl) refl,
  refl,
)

-- what became of a delivery
accepted_line : (accepted : Accepted) → IsLine (accepted_text accepted)
accepted_line Installed = (codes "installed", refl, refl)
accepted_line Held = (codes "held", refl, refl)
accepted_line (Stale now) = (codes "stale " ++ decimal now, line-word (codes "stale ") now refl, refl)

-- a delivery's reply
pub delivery_line : (r : Record) (job : Option (Node × ℕ)) → IsLine (reply_text (delivery_reply r job))
delivery_line r None = refused_line NoJob
delivery_line r (Some job) = accepted_line (delivery_of r job.0 job.1)

-- how many reads a reduction takes
pub cost_line : (cells summaries : ℕ) → IsOneLine (codes "cells " ++ decimal cells ++ codes " summaries " ++ decimal summaries)
cost_line cells summaries = line-more (codes "cells " ++ decimal cells) (codes " summaries ") summaries (line-word (codes "cells ") cells refl) refl
