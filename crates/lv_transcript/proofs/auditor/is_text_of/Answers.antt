-- Proof of `is_text_of`: whether bytes are the text of a value.
use Rattle.std.proofs.Common.{◌≡◌, ℕ, List, ◌++◌, Bool, IsTrue, nat_eq, sym, ap, ◌∙◌}
use Rattle.std.specs.Cmp.Lexicographic.{pointwise}
use Rattle.lv_bodies.specs.EqualLaws.{exact_numbers}
use Rattle.lv_lines.specs.Texts.{shown_text}
use Rattle.lv_transcript.proofs.auditor.is_text_of.Goals as goal

-- bytes that are compared with a text are right if they are the same
is_right : (same : Bool) (text value right : List ℕ) → same ≡ pointwise nat_eq text value → text ≡ right → (IsTrue same → value ≡ right) × (value ≡ right → IsTrue same)
is_right same text value right told is = (
  (λ yes. sym ((exact_numbers text value).0 (sym told ∙ yes)) ∙ is),
  (λ as'. told ∙ (exact_numbers text value).1 (is ∙ sym as')),
)

pub returns-clause-answer : goal.returns-clause-answer
returns-clause-answer c =
    let put = c.as_slice.ensures.value ∙ c.put_shown.ensures.text ∙ ap (λ held. held ++ shown_text c.args.shown) c.clear.ensures.items in
    is_right c.eq.result c.as_slice.result.now c.args.value.now _ c.eq.ensures put
