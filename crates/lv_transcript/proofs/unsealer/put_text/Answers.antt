-- Proof of `put_text`: puts a line without its seal, with the version that its text has.
use Rattle.std.proofs.Common.{ℕ, List, codes, drop, ◌++◌, sym, ap, ◌∙◌, arith, append_assoc}
use Rattle.lv_transcript.proofs.UnsealLaws.{version_2_of, version_kept, version_long}
use Rattle.lv_transcript.proofs.unsealer.put_text.Goals as goal

pub split_at-requires : goal.split_at-requires
split_at-requires c = version_long c.args.text.now (sym c.is_version_3.ensures ∙ c.if-is_version_3.true)

pub returns-then-is_version_3-clause-items : goal.returns-then-is_version_3-clause-items
returns-then-is_version_3-clause-items c =
    let ready = c.args.ready.now.items in
    let text = c.args.text.now in
    c.put-then-is_version_3.ensures.items ∙ ap (λ (bs : List ℕ). bs ++ c.split_at.result.1.now) c.put.ensures.items ∙ append_assoc ready (codes "livevec 2 ") c.split_at.result.1.now
    ∙ ap (λ (bs : List ℕ). ready ++ (codes "livevec 2 " ++ bs)) c.split_at.ensures.back ∙ ap (λ (bs : List ℕ). ready ++ bs) (sym (version_2_of text (sym c.is_version_3.ensures ∙ c.if-is_version_3.true)))

pub returns-else-is_version_3-clause-items : goal.returns-else-is_version_3-clause-items
returns-else-is_version_3-clause-items c =
    c.put-else-is_version_3.ensures.items ∙ ap (λ (bs : List ℕ). c.args.ready.now.items ++ bs) (sym (version_kept c.args.text.now (sym c.is_version_3.ensures ∙ c.if-is_version_3.false)))
