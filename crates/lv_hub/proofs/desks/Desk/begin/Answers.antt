-- Proof of `Desk::begin`: makes updates, one after the other, with a share that has all parts and counts none, so that they are all updates that
-- there are.
use Rattle.std.proofs.Common.{◌∙◌, ap, arith, pos, refl}
use Rattle.lv_edits.specs.declared.edit.Edit.{Edit}
use Rattle.lv_edits.specs.declared.edit.Edit.TheVariants.{Push}
use Rattle.lv_hub.proofs.BeginLaws.{edits_go_on, none_of, share_begins, share_goes_on}
use Rattle.lv_hub.proofs.desks.Desk.begin.Goals as goal

-- the value that is taken for an element past the end
abbrev first : Edit
first = Push (pos 0)

pub loop-edit-init : goal.loop-edit-init
loop-edit-init g c = record {
  edits = ap (λ d. d.edits) c.audit.ensures.same ∙ none_of c.args.self.now.edits c.args.share.now.count c.audit.ensures.counted c.requires.count;
  share = share_begins c.args.share.now c.audit.new.share c.args.self.now.edits c.audit.ensures.share c.audit.ensures.counted c.requires.count;
}

pub loop-edit-preserved : goal.loop-edit-preserved
loop-edit-preserved g c =
    let i = c.loop-edit.edit-index in
    let edits = c.args.edits.now in
    let made = c.in_ok-edit.ensures in
    let more = edits_go_on g.N.Naming.limits c.loop-edit.self.edits c.edit.new.self.edits edits i first _ _ (omega arith) refl c.loop-edit.invariant.edits made.answer in
    record {
      edits = more;
      share = share_goes_on c.args.share.now c.loop-edit.share c.edit.new.share edits i made.counts (made.seen ∙ more) c.loop-edit.invariant.share;
    }
