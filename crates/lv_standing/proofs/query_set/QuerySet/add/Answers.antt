-- Proof of `QuerySet::add`: registers a query that only a lack of memory refuses.
use Rattle.std.proofs.Common.{◌≡◌, ◌∙◌, ◌<◌, None, subst, ◌++◌, ◌∷◌, [], ap, map, sym, arith, length, length-append}
use Rattle.lv_standing.specs.QuerySets.{name_of, place_of}
use Rattle.lv_standing.proofs.NameLaws.{name_added}
use Rattle.lv_standing.proofs.query_set.QuerySet.add.Goals as goal

pub invariant_of-self-2 : goal.invariant_of-self-2
invariant_of-self-2 g c =
    let s = c.self.inside in
    let terms_of = g.Q.Question.terms_of in
    let free = subst (λ s. place_of terms_of s.queries (name_of terms_of c.args.query.now) ≡ None) (sym c.self.view_is) c.requires.free in
    let few = subst (λ s. length s.queries < s.most) (sym c.self.view_is) c.requires.few in
    let queries = c.push_reserved.ensures.items ∙ ap (λ qs. qs ++ c.args.query.now ∷ []) c.make_room.ensures.queries in
    let told = c.push_reserved-2.ensures.items ∙ ap (λ vs. vs ++ c.args.told ∷ []) c.make_room.ensures.told in
    let more = ap length queries ∙ length-append s.queries.items (c.args.query.now ∷ []) in
    let more_told = ap length told ∙ length-append s.told.items (c.args.told ∷ []) in (
      name_added terms_of s.queries.items s.names.keys c.args.query.now c.terms.result.name _ c.self.invariant.0 (ap (λ t. t.name) c.terms.ensures) free c.in-Ok-insert.ensures.keys ∙ sym (ap (map (name_of terms_of)) queries),
      omega (arith, more, more_told, c.self.invariant.1),
      omega (arith, more, more_told, c.push_reserved-2.new.self.ok, c.self.invariant.1),
      omega (arith, more, c.clear.ensures.capacity, c.in-Ok.ensures.answer_room, c.make_room.new.queries.ok, ap length c.make_room.ensures.queries),
      omega (arith, more, few),
    )
