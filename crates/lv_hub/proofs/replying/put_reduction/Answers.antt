-- Proof of `put_reduction`: reduces a range, and lists the answer if answers are listed.
use Rattle.std.proofs.Common.{◌≡◌, ◌++◌, Ok, Err, List, length, refl, ap, ap₂, sym, ◌∙◌, inl, inr}
use Rattle.lv_geometry.specs.declared.refusals.Refusal.TheVariants.{NoMemory}
use Rattle.lv_lines.specs.Texts.{answer_text, refused_text}
use Rattle.lv_transcript.specs.declared.claimed.Claimed.{Claimed}
use Rattle.lv_hub.specs.Counting.{ShareState}
use Rattle.lv_history.specs.Numbering.{told_number}
use Rattle.lv_hub.specs.Replying.{listed_of, up_to}
use Rattle.lv_hub.specs.Session.{listed_if, session_at}
use Rattle.lv_hub.proofs.replying.put_reduction.Goals as goal

-- a state whose share has seen more, and with this list
seen_and_listed : (old new : ShareState) (answers listed : List Claimed) → new ≡ record old { seen = new.seen } → session_at new listed ≡ record (up_to (session_at old answers) new.seen) { answers = listed }
seen_and_listed old new answers listed is = ap (λ h. session_at h listed) is

pub returns-in-Ok-list-clause-answer : goal.returns-in-Ok-list-clause-answer
returns-in-Ok-list-clause-answer g c =
    let answered = c.in-Ok.field-0 in
    let kind = c.args.kind in
    let new = c.value_with_place.new.share in (
      answer_text (told_number g.N.Naming.numbers (length new.seen)) kind answered.value,
      record {
        result = Ok answered;
        told = c.in-Ok.ensures.told;
        number = λ on. c.in-Ok.ensures.number (c.args.place.now.one on);
        lists = inl (refl, ap (λ items. session_at new items) (c.in-Ok-list.ensures.listed ∙ ap₂ (λ listing xs. listed_if listing xs (listed_of kind c.args.lo c.args.hi answered)) c.args.place.now.lists c.make_place-is_kept.ensures.items) ∙ seen_and_listed c.args.share.now new c.args.answers.now.items _ c.in-Ok.ensures.share);
      },
      c.put_answer.ensures.text ∙ ap (λ n. c.args.held.now.items ++ answer_text n kind answered.value) c.last_number.ensures,
    )

pub returns-in-Err-list-clause-answer : goal.returns-in-Err-list-clause-answer
returns-in-Err-list-clause-answer g c =
    let new = c.value_with_place.new.share in (
      refused_text NoMemory,
      record {
        result = Ok c.in-Ok.field-0;
        told = c.in-Ok.ensures.told;
        number = λ on. c.in-Ok.ensures.number (c.args.place.now.one on);
        lists = inr (sym c.args.place.now.lists ∙ c.in-Err-list.ensures.unchanged.0, refl, ap (λ items. session_at new items) (c.in-Err-list.ensures.unchanged.2 ∙ c.make_place-is_kept.ensures.items) ∙ seen_and_listed c.args.share.now new c.args.answers.now.items _ c.in-Ok.ensures.share);
      },
      c.put_refusal.ensures.text ∙ ap (λ refusal. c.args.held.now.items ++ refused_text refusal) c.in-Err-list.ensures.unchanged.1,
    )

pub returns-in-Err-clause-answer : goal.returns-in-Err-clause-answer
returns-in-Err-clause-answer g c =
    let new = c.value_with_place.new.share in (
      refused_text c.in-Err.refusal,
      record {
        result = Err c.in-Err.refusal;
        told = c.in-Err.ensures.told;
        number = λ on. tt;
        lists = (refl, ap (λ items. session_at new items) c.make_place-is_kept.ensures.items ∙ seen_and_listed c.args.share.now new c.args.answers.now.items _ c.in-Err.ensures.share);
      },
      c.put_refusal-in-Err.ensures.text,
    )
