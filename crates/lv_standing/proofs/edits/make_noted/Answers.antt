-- Proof of `make_noted`: makes an edit, and puts the notes that are due behind those that there are.
use Rattle.std.proofs.Common.{◌≡◌, ◌∙◌, ap, arith, length, map, subst, sym}
use Rattle.lv_edits.specs.History.{History, list_of}
use Rattle.lv_edits.specs.Kept.{IsLegalInLimits}
use Rattle.lv_edits.specs.Verdict.{Accepts}
use Rattle.lv_summary.proofs.FoldableLaws.{can_fold}
use Rattle.lv_standing.specs.Inner.{IsChangedBy, asked}
use Rattle.lv_standing.specs.Queries.{AddsNotesOf, watch_answer}
use Rattle.lv_standing.specs.Standings.{summary_at}
use Rattle.lv_standing.proofs.EditLaws.{pushed_last, same_elsewhere, still_ready, told_noted}
use Rattle.lv_standing.proofs.edits.make_noted.Goals as goal

pub tell-requires : goal.tell-requires
tell-requires g c =
    let here = c.requires.0 in
    let standing = c.requires.1 in
    let set = c.args.set.now in
    let new = c.edit_beside.new.live in
    let answer = subst (λ h. Accepts h c.args.edit c.in-Ok-edit_beside.receipt new.history) here c.in-Ok-edit_beside.ensures.answer in
    let legal = subst IsLegalInLimits here standing.limits in
    let changed = c.changed_by-changed.result in
    let is : IsChangedBy (list_of g.before.journal) c.args.edit changed = c.changed_by-changed.ensures (list_of g.before.journal) (sym (c.size.ensures ∙ ap (λ (h : History). length (list_of h.journal)) here)) in (
      c.edit_beside.ensures.limits,
      (
        still_ready c.args.live.now new set c.args.summaries.now.items c.args.kinds.now c.edit_beside.new.kinds c.args.notes.now.items c.args.edit standing c.edit_beside.ensures.kept,
        (
          can_fold g.before legal,
          (
            same_elsewhere g.before new.history c.args.edit changed legal answer.verdict answer.journal is,
            (
              pushed_last g.before new.history c.args.edit changed legal answer.verdict answer.journal is,
              (
                subst (λ (h : History). set.told ≡ map (watch_answer h.journal) set.queries) here standing.told,
                (
                  subst (λ (h : History). c.args.summaries.now.items ≡ map (summary_at h.journal) set.queries) here standing.summaries_are,
                  omega (arith, c.count_asked.ensures, c.in-Ok.ensures.ok, ap (λ l. length (asked changed l)) c.queries.ensures.queries),
                ),
              ),
            ),
          ),
        ),
      ),
    )

pub returns-in-Ok-edit_beside : goal.returns-in-Ok-edit_beside
returns-in-Ok-edit_beside g c =
    let set = c.args.set.now in
    let told = c.in-Ok-edit_beside.ensures in
    told_noted c.args.live.now c.edit_beside.new.live set c.args.summaries.now.items c.args.kinds.now c.tell.new.kinds c.args.notes.now.items c.args.edit c.requires.1 c.edit_beside.new.kinds
    c.tell.new.set c.tell.new.summaries.items c.tell.new.notes.items c.in-Ok-edit_beside.receipt
    told.answer told.limits told.refresh told.leaves c.tell.ensures.kept c.tell.ensures.others c.tell.ensures.told c.tell.ensures.summaries
    (subst (λ ns. AddsNotesOf set.queries set.told c.tell.new.set.told ns c.tell.new.notes.items) c.in-Ok.ensures.items c.tell.ensures.notes)
