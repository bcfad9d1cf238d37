-- Proof of `make_pushes`: makes pushes that the verdict allows, so that the only error is `NoMemory`.
use Rattle.std.proofs.Common.{◌+◌, ◌++◌, ap, arith, length, map, subst, sym, ◌∙◌}
use Rattle.lv_store.proofs.PushLaws.{pushed_all_is}
use Rattle.lv_edits.specs.declared.edit.Edit.TheVariants.{Push}
use Rattle.lv_edits.specs.Inner.{HoldsReplay, history_of, noted}
use Rattle.lv_edits.specs.Pushes.{with_pushes}
use Rattle.lv_edits.proofs.HoldsLaws.{HoldsReplay-alike}
use Rattle.lv_edits.proofs.HoldsPushes.{AnswersAll-no_memory, history_is, pushes_fit, pushes_held, pushes_made}
use Rattle.lv_edits.proofs.pushing.make_pushes.Goals as goal

pub returns-in_err-make_room-clause-held : goal.returns-in_err-make_room-clause-held
returns-in_err-make_room-clause-held c =
    let e = c.in_err-make_room.ensures in
    rw e.journal (HoldsReplay-alike _ _ _ c.requires.held e.alike e.closed e.settled e.sound)

pub returns-in_err-make_room-clause-answer : goal.returns-in_err-make_room-clause-answer
returns-in_err-make_room-clause-answer c =
    let e = c.in_err-make_room.ensures in
    rw e.journal (AnswersAll-no_memory _ _ _ c.args.values.now _ _ c.requires.free e.alike e.err c.from_residual.ensures.1)

pub returns-clause-held : goal.returns-clause-held
returns-clause-held c =
    let e = c.in_ok-make_room.ensures in
    let xs = c.args.values.now in
    let s = c.args.store.now in
    let made = pushes_made s (noted c.args.journal.now) xs c.requires.held c.requires.free in
    let opens = rw c.size-size.ensures.value at e.buckets in
    let held = pushes_held s _ _ xs c.requires.held c.requires.free c.push_all.ensures.elements e.alike e.settled opens e.sound (omega (arith, e.enough, c.size-size.ensures.value)) in
    rw (c.push_all.ensures.state, c.append_pushes.ensures, e.journal) (subst (HoldsReplay _) made.journal held)

pub returns-clause-answer : goal.returns-clause-answer
returns-clause-answer c =
    let e = c.in_ok-make_room.ensures in
    let xs = c.args.values.now in
    let s = c.args.store.now in
    let made = pushes_made s (noted c.args.journal.now) xs c.requires.held c.requires.free in
    let is = c.push_all.ensures.state ∙ pushed_all_is _ xs e.settled in
    record {
      verdict = c.requires.free;
      edit_is = c.edit.ensures.value ∙ ap (λ u. u.descriptor.edit) is ∙ ap (λ n. n + length xs) (e.alike.edit ∙ c.requires.held.edit);
      journal = history_is (with_pushes (history_of s (noted c.args.journal.now)) xs) _ _ (ap (λ u. u.limits) is ∙ e.alike.limits ∙ sym made.limits) (c.append_pushes.ensures ∙ ap (λ es. es ++ map Push xs) e.journal ∙ sym made.journal);
    }

pub overflow_cast-values : goal.overflow_cast-values
overflow_cast-values c =
    let fit = pushes_fit c.args.store.now (noted c.args.journal.now) c.args.values.now c.requires.held c.requires.free in
    omega (arith, fit.2)

pub overflow_add-size : goal.overflow_add-size
overflow_add-size c =
    let fit = pushes_fit c.args.store.now (noted c.args.journal.now) c.args.values.now c.requires.held c.requires.free in
    omega (arith, fit.2, c.size-size.ensures.value)

pub make_room-requires-clause-few : goal.make_room-requires-clause-few
make_room-requires-clause-few c =
    let fit = pushes_fit c.args.store.now (noted c.args.journal.now) c.args.values.now c.requires.held c.requires.free in
    omega (arith, fit.0, c.size-size.ensures.value)

pub push_all-requires-clause-edits : goal.push_all-requires-clause-edits
push_all-requires-clause-edits c =
    let fit = pushes_fit c.args.store.now (noted c.args.journal.now) c.args.values.now c.requires.held c.requires.free in
    let e = c.in_ok-make_room.ensures in
    omega (arith, fit.1, e.alike.edit, ap (λ b. b.edits) e.alike.limits)
