-- Proof of `Unsealer::end`: ends the file.
use Rattle.std.proofs.Common.{ℕ, List, ◌++◌, ap, ◌∙◌}
use Rattle.lv_transcript.specs.Seals.{last_in}
use Rattle.lv_transcript.proofs.UnsealLaws.{sealed_end, sealed_over, unknown_end}
use Rattle.lv_transcript.proofs.unsealer.Unsealer.end.Goals as goal

pub returns-in-Unknown-clause-text : goal.returns-in-Unknown-clause-text
returns-in-Unknown-clause-text c =
    let old = c.args.self.now in
    let kept = old.are_kept in
    c.put.ensures.items ∙ ap (λ (bs : List ℕ). old.ready.items ++ bs) (c.as_slice.ensures.value ∙ unknown_end old.form old.hash old.kept.items c.in-Unknown.is (kept.0 c.in-Unknown.is).1)

pub returns-in-Sealed-clause-text : goal.returns-in-Sealed-clause-text
returns-in-Sealed-clause-text c =
    let old = c.args.self.now in
    let kept = old.are_kept in
    c.put_last.ensures.items ∙ ap (λ (bs : List ℕ). old.ready.items ++ last_in old.hash bs) c.as_slice-in-Sealed.ensures.value
    ∙ ap (λ (bs : List ℕ). old.ready.items ++ bs) (sealed_end old.form old.hash old.kept.items c.in-Sealed.is (kept.2 c.in-Sealed.is) kept.3)

pub returns-in-Sealed-clause-none : goal.returns-in-Sealed-clause-none
returns-in-Sealed-clause-none c = sealed_over c.args.self.now.form c.args.self.now.hash c.clear-in-Sealed.new.self.items c.in-Sealed.is c.clear-in-Sealed.ensures
