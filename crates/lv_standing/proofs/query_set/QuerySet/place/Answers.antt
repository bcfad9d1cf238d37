-- Proof of `QuerySet::place`: the place of the query with a name, if there is one.
use Rattle.std.proofs.Common.{◌∙◌}
use Rattle.lv_standing.proofs.NameLaws.{at_its_place}
use Rattle.lv_standing.proofs.query_set.QuerySet.place.Goals as goal

pub returns : goal.returns
returns g c = rw (← c.self.view_is) (c.get_index_of.ensures.index ∙ at_its_place g.Q.Question.terms_of c.args.name.now c.self.inside.queries.items c.self.inside.names.keys c.self.invariant.0)
