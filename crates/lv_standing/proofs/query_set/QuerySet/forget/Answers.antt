-- Proof of `QuerySet::forget`: forgets the query at a place.
use Rattle.std.proofs.Common.{◌∙◌, ◌<◌, subst, ap, map, sym, arith, length}
use Rattle.std.proofs.lemmas.List.Edits.{length-remove}
use Rattle.lv_standing.specs.QuerySets.{name_of}
use Rattle.lv_standing.proofs.NameLaws.{name_removed}
use Rattle.lv_standing.proofs.query_set.QuerySet.forget.Goals as goal

pub invariant_of-self : goal.invariant_of-self
invariant_of-self g c =
    let s = c.self.inside in
    let within = subst (λ s. c.args.place < length s.queries) (sym c.self.view_is) c.requires in
    let terms_of = g.Q.Question.terms_of in
    let fewer = ap length c.remove.ensures.items in
    let fewer_told = ap length c.remove-2.ensures.items in
    let one = length-remove s.queries.items c.args.place within in
    let one_told = length-remove s.told.items c.args.place (omega (arith, within, c.self.invariant.1)) in (
      name_removed terms_of s.queries.items s.names.keys c.args.place _ c.self.invariant.0 c.shift_remove_index.ensures.keys ∙ sym (ap (map (name_of terms_of)) c.remove.ensures.items),
      omega (arith, fewer, fewer_told, one, one_told, c.self.invariant.1),
      omega (arith, fewer, one, c.remove-2.ensures.capacity, c.self.invariant.2),
      omega (arith, fewer, one, c.clear.ensures.capacity, c.self.invariant.3),
      omega (arith, fewer, one, c.self.invariant.4),
    )
