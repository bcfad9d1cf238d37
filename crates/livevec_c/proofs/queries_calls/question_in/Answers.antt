-- Proof of `question_in`: the question that a caller asks for.
use Rattle.std.proofs.Common.{◌≡◌, ◌∙◌, ℕ, ℤ, true, Option, Result, List, ap, rules, subst, sym, w64}
use Rattle.std.proofs.lemmas.Int.{to_z-of_z}
use Rattle.lv_bodies.specs.Names.{is_name}
use Rattle.lv_bodies.specs.declared.kinds.Kind.{Kind}
use Rattle.lv_tree.specs.declared.places.Bound.{Bound}
use Rattle.lv_script.specs.declared.sample_queries.SampleSpan.{SampleSpan}
use Rattle.livevec_c.specs.declared.set_queries.SetQuery.{SetQuery}
use Rattle.livevec_c.specs.Kinds.{kind_at}
use Rattle.livevec_c.specs.Queried.{question_by, question_in, question_named}
use Rattle.livevec_c.specs.Targets.{bound_at, span_at}
use Rattle.livevec_c.proofs.queries_calls.question_in.Goals as goal

-- bytes that are a name, and what the numbers name
found : (bytes name : List ℕ) (kind : Option Kind) (span : Option SampleSpan) (bound : Option (Option Bound)) (k s lo hi b : ℕ) (x : ℤ) (r : Result SetQuery ℕ) → is_name bytes ≡ true → name ≡ bytes → kind ≡ kind_at k → span ≡ span_at s lo hi → bound ≡ bound_at b x
    → r ≡ question_by name kind span bound → r ≡ question_in bytes k s lo hi b x
found bytes name kind span bound k s lo hi b x r named same kind_is span_is bound_is is =
    is
    ∙ ap (λ n. question_by n kind span bound) same
    ∙ ap (λ of. question_by bytes of span bound) kind_is
    ∙ ap (λ over. question_by bytes (kind_at k) over bound) span_is
    ∙ ap (question_by bytes (kind_at k) (span_at s lo hi)) bound_is
    ∙ sym (ap (λ there. question_named there bytes (kind_at k) (span_at s lo hi) (bound_at b x)) named)

pub returns-in-Some : goal.returns-in-Some
returns-in-Some c =
    let named : is_name c.args.name.now ≡ true = search rules in
    let bound_is = subst (λ x. c.bound_of-bound.result ≡ bound_at c.args.bound x) (to_z-of_z w64 c.args.x c.ranges.x) c.bound_of-bound.ensures in
    found c.args.name.now c.in-Some.name c.kind_of-kind.result c.span_of-span.result c.bound_of-bound.result c.args.kind c.args.span c.args.lo c.args.hi c.args.bound c.args.x c.question_by.result named c.in-Some.ensures.bytes c.kind_of-kind.ensures c.span_of-span.ensures bound_is c.question_by.ensures
