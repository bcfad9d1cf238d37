-- Proof of `Name::new`: the name of these bytes, if they may be one.
use Rattle.std.proofs.Common.{sym, ap, ◌∙◌}
use Rattle.lv_bodies.specs.Names.{IsName, kept_name, padded}
use Rattle.lv_bodies.proofs.KeptNames.{kept-padded, padded_by_copy}
use Rattle.lv_bodies.proofs.names.Name.new.Goals as goal

pub returns-clause-bytes : goal.returns-clause-bytes
returns-clause-bytes c =
    let name = c.args.bytes.now in
    let named : IsName name = sym c.is_name.ensures ∙ c.if-not-is_name.false in
    ap kept_name (padded_by_copy name _ c.copy_from_slice.ensures.after) ∙ kept-padded name named

pub invariant_of-result : goal.invariant_of-result
invariant_of-result c =
    let name = c.args.bytes.now in
    let named : IsName name = sym c.is_name.ensures ∙ c.if-not-is_name.false in
    let kept = padded_by_copy name _ c.copy_from_slice.ensures.after in
    let same = ap kept_name kept ∙ kept-padded name named in
    (rw same named, kept ∙ ap padded (sym same))
