-- Proof of `front_among`: what comes before the elements, in bytes.
use Rattle.std.proofs.Common.{◌≡◌, true, ◌∙◌, sym, arith}
use Rattle.std.proofs.lemmas.Bool.{false≢true}
use Rattle.std.proofs.lemmas.Option.{same_Some}
use Rattle.lv_saved.proofs.ReadLaws.{are_front}
use Rattle.lv_shards.specs.LeadsLaws.{leads_of_table}
use Rattle.lv_shards.specs.Summaries.{leads_of}
use Rattle.lv_saved.proofs.fronts.front_among.Goals as goal

pub returns-then-not-is_possible-clause-found : goal.returns-then-not-is_possible-clause-found
returns-then-not-is_possible-clause-found c = λ s h form is.
    let f = are_front s c.args.bytes.now c.args.timed c.args.numbers c.number_at-elements.result c.times_by-times.result h form is c.requires.whole c.number_at-elements.ensures c.times_by-times.ensures in
    let t : c.is_possible.result ≡ true = c.is_possible.ensures.1 (f.counts, omega (arith, h.numbered, f.first, f.elements, c.number_at-first.ensures)) in
    elim (false≢true (sym c.if-not-is_possible.true ∙ t)) [ ]

pub returns-in-None-clause-found : goal.returns-in-None-clause-found
returns-in-None-clause-found c = λ s h form is.
    let f = are_front s c.args.bytes.now c.args.timed c.args.numbers c.number_at-elements.result c.times_by-times.result h form is c.requires.whole c.number_at-elements.ensures c.times_by-times.ensures in
    let back = c.in-None.ensures.back (leads_of s.table) (leads_of_table s.table h.table) (c.number_at-zero.ensures ∙ f.zero_row) (c.number_at-one.ensures ∙ f.one_row) (c.number_at-two.ensures ∙ f.two_row) (c.number_at-three.ensures ∙ f.three_row) in
    absurd (cc)

pub returns-in-Some-clause-found : goal.returns-in-Some-clause-found
returns-in-Some-clause-found c = λ s h form is.
    let f = are_front s c.args.bytes.now c.args.timed c.args.numbers c.number_at-elements.result c.times_by-times.result h form is c.requires.whole c.number_at-elements.ensures c.times_by-times.ensures in
    let back = c.in-Some.ensures.back (leads_of s.table) (leads_of_table s.table h.table) (c.number_at-zero.ensures ∙ f.zero_row) (c.number_at-one.ensures ∙ f.one_row) (c.number_at-two.ensures ∙ f.two_row) (c.number_at-three.ensures ∙ f.three_row) in
    record {
      leads = c.automaton_by.ensures.leads ∙ same_Some c.in-Some.leads (leads_of s.table) back;
      first = c.number_at-first.ensures ∙ f.first;
      edits = c.number_at-edits.ensures ∙ f.edits;
      elements = f.elements;
      times = f.times;
    }
