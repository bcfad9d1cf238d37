-- Proof of `OperationLog::renew_at`: does what `renew_of` does, for a file that begins with this first line.
use Rattle.std.proofs.Common.{◌∙◌, ap, map, sym}
use Rattle.std.specs.Prelude.{Some}
use Rattle.lv_edits.specs.declared.edit.Edit.TheVariants.{Push}
use Rattle.lv_hub.specs.Told.{history_of}
use Rattle.lv_hub.proofs.RenewalLaws.{lasting_limits_are, lasts_so}
use Rattle.lv_hub.proofs.operation_log.OperationLog.renew_at.Goals as goal

pub put_own-requires-clause-begins : goal.put_own-requires-clause-begins
put_own-requires-clause-begins g c = record {
  lasts = lasts_so g.N.Naming.limits c.args.limits c.requires.limits.lasts;
  heading_is = c.requires.heading;
  base = c.requires.base;
  elements_are = c.requires.list;
  few = c.requires.few;
  all = c.requires.all;
}

pub put_own-requires-clause-made : goal.put_own-requires-clause-made
put_own-requires-clause-made g c =
    let same = lasting_limits_are g.N.Naming.limits c.args.limits c.requires.limits.lasts c.requires.limits.many in
    record {
      history = c.in-Ok.ensures.history ∙ ap (λ limits. history_of limits (map Push c.args.elements.now)) same;
      accepted = c.in-Ok.ensures.accepted;
      body_is = c.body.ensures ∙ ap Some (sym c.in-Ok.ensures.body);
      ready = c.in-Ok.ensures.kinds;
    }
