-- Proof of `Query::untold`: the answer that counts as reported before its first note.
use Rattle.std.proofs.Common.{◌≡◌, ◌∙◌, ◌-◌, ℕ, [], ap, length, sym, take, take_all, arith}
use Rattle.std.specs.Prelude.{ℤ}
use Rattle.std.specs.List.{slice_range}
use Rattle.std.proofs.lemmas.List.{drop_all}
use Rattle.std.proofs.lemmas.List.Elements.{All-nil}
use Rattle.lv_geometry.specs.Elements.{IsElement}
use Rattle.lv_bodies.specs.Plain.{plain_value}
use Rattle.lv_edits.specs.History.{list_of, replayed}
use Rattle.lv_standing.specs.declared.spans.Span.{Span}
use Rattle.lv_standing.specs.declared.spans.Span.TheVariants.{Between, Last}
use Rattle.lv_standing.specs.Queries.{span_of}
use Rattle.lv_standing.proofs.queries.Query.untold.Goals as goal

-- a range of nothing is nothing
nothing_there : (lo hi : ℕ) → slice_range {X = ℤ} [] lo hi ≡ []
nothing_there lo hi = ap (take (hi - lo)) (drop_all lo [] (omega arith)) ∙ take_all (hi - lo) [] (omega arith)

none_in_span : (span : Span) → span_of span [] ≡ []
none_in_span (Between lo hi) = nothing_there lo hi
none_in_span (Last n) = drop_all (length {A = ℤ} [] - n) [] (omega arith)

pub returns-clause-value : goal.returns-clause-value
returns-clause-value c = c.face.ensures.plain [] (record { few = omega arith; elements = All-nil IsElement }) c.identity.ensures

pub returns-clause-none : goal.returns-clause-none
unfolding list_of replayed
returns-clause-none c =
    let q = c.args.self.now in
    c.face.ensures.plain [] (record { few = omega arith; elements = All-nil IsElement }) c.identity.ensures ∙ ap (plain_value q.kind) (sym (none_in_span q.span))
