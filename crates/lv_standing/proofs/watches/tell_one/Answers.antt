-- Proof of `tell_one`: brings the query at a place up to the edit, if an element of it changed.
use Rattle.std.proofs.Common.{◌≡◌, ◌∙◌, ◌<◌, ◌+◌, ◌∷◌, [], ap, ap₂, false, arith, get_or, length, map, rules, set, subst, sym, take}
use Rattle.lv_edits.specs.History.{list_of}
use Rattle.lv_summary.proofs.FoldableLaws.{can_fold}
use Rattle.lv_tree.specs.KindSummaries.{shown_of}
use Rattle.lv_tree.proofs.KindLaws.{shown_is_plain}
use Rattle.lv_standing.specs.declared.queries.Query.{Query}
use Rattle.lv_standing.specs.Inner.{has_changed, up_to}
use Rattle.lv_standing.specs.Queries.{AddsNotesOf, span_of, watch_answer}
use Rattle.lv_standing.specs.QuerySets.{QuerySetState}
use Rattle.lv_standing.specs.Standings.{summary_at}
use Rattle.lv_standing.proofs.RangeLaws.{span_can_fold}
use Rattle.lv_standing.proofs.TellLaws.{answer_stays, as_before, as_many, brought_up, not_noted, noted, one_asked, told_front}
use Rattle.lv_standing.proofs.UnaskedLaws.{LeavesUnasked-asked}
use Rattle.lv_standing.proofs.watches.tell_one.Goals as goal

pub returns-then-not-has_changed-clause-notes : goal.returns-then-not-has_changed-clause-notes
returns-then-not-has_changed-clause-notes g c =
    let new = c.args.live.now.history.journal in
    let qs = c.args.set.now.queries in
    let q = c.index-queries-i.result in
    let at : q ≡ get_or qs c.args.i q = subst (λ l. q ≡ get_or l c.args.i q) c.queries.ensures.queries c.index-queries-i.is in
    let other : has_changed q.span c.args.changed ≡ false = search rules in
    not_noted g.old new qs c.args.i q c.requires.1.1.1.1.1.0 at c.args.notes.now.items (answer_stays g.old new c.args.changed c.requires.1.1.1.0 q other)

pub summary_after-summary-requires : goal.summary_after-summary-requires
summary_after-summary-requires g c =
    let new = c.args.live.now.history.journal in
    let qs = c.args.set.now.queries in
    let i = c.args.i in
    let q = c.index-queries-i.result in
    let at : q ≡ get_or qs i q = subst (λ l. q ≡ get_or l i q) c.queries.ensures.queries c.index-queries-i.is in
    let inside : i < length qs = c.requires.1.1.1.1.1.0 in
    let here = c.deref.ensures.value ∙ c.requires.1.1.1.1.1.1.0.summaries_are in
    let same = sym c.queries-2.ensures.queries in (
      c.requires.0,
      (
        c.requires.1.0,
        (
          c.requires.1.1.1.1.0,
          (
            sym c.has_changed.ensures ∙ c.if-not-has_changed.false,
            (
              subst (λ l. i < length l) same inside,
              (
                ap length here ∙ as_many (summary_at new) (summary_at g.old) qs i (omega (arith, inside)) ∙ ap length same,
                (
                  ap (take i) here ∙ told_front (summary_at new) (summary_at g.old) qs i (omega (arith, inside)) ∙ ap (λ l. map (summary_at new) (take i l)) same,
                  (λ d. ap (λ l. get_or l i d) here ∙ as_before (summary_at new) (summary_at g.old) qs i q inside at d),
                ),
              ),
            ),
          ),
        ),
      ),
    )

pub returns-clause-told : goal.returns-clause-told
returns-clause-told g c =
    let new = c.args.live.now.history.journal in
    let qs = c.args.set.now.queries in
    let i = c.args.i in
    let q = c.index-queries-i.result in
    let at : q ≡ get_or qs i q = subst (λ l. q ≡ get_or l i q) c.queries.ensures.queries c.index-queries-i.is in
    let inside : i < length qs = c.requires.1.1.1.1.1.0 in
    let far = c.requires.1.1.1.1.1.1.0 in
    let value = c.summary_after-summary.ensures.value in
    let xs = list_of new in
    let shown : c.shown.result ≡ watch_answer new q = c.shown.ensures ∙ ap shown_of value ∙ shown_is_plain q.kind (span_of q.span xs) (span_can_fold xs q.span (can_fold c.args.live.now.history c.requires.0)) in
    let same : c.tell_at.new.self.queries ≡ qs = ap (λ (s : QuerySetState Query). s.queries) c.tell_at.ensures.told in
    record {
      told = ap (λ (s : QuerySetState Query). s.told) c.tell_at.ensures.told
          ∙ ap₂ (λ vs v. set vs i v) far.told shown
          ∙ brought_up (watch_answer new) (watch_answer g.old) qs i q inside at
          ∙ ap (up_to (watch_answer new) (watch_answer g.old) (i + 1)) (sym same);
      summaries_are = ap₂ (λ vs v. set vs i v) far.summaries_are value
          ∙ brought_up (summary_at new) (summary_at g.old) qs i q inside at
          ∙ ap (up_to (summary_at new) (summary_at g.old) (i + 1)) (sym same);
    }

pub returns-clause-notes : goal.returns-clause-notes
returns-clause-notes g c =
    let new = c.args.live.now.history.journal in
    let qs = c.args.set.now.queries in
    let i = c.args.i in
    let q = c.index-queries-i.result in
    let at : q ≡ get_or qs i q = subst (λ l. q ≡ get_or l i q) c.queries.ensures.queries c.index-queries-i.is in
    let inside : i < length qs = c.requires.1.1.1.1.1.0 in
    let before = watch_answer g.old q in
    let value = c.summary_after-summary.ensures.value in
    let xs = list_of new in
    let shown : c.shown.result ≡ watch_answer new q = c.shown.ensures ∙ ap shown_of value ∙ shown_is_plain q.kind (span_of q.span xs) (span_can_fold xs q.span (can_fold c.args.live.now.history c.requires.0)) in
    let told : before ≡ get_or c.args.set.now.told i before = sym (ap (λ vs. get_or vs i before) c.requires.1.1.1.1.1.1.0.told ∙ as_before (watch_answer new) (watch_answer g.old) qs i q inside at before) in
    noted g.old new qs i q inside at c.args.notes.now.items c.tell_at.new.notes.items
    (subst (λ v. AddsNotesOf (q ∷ []) (before ∷ []) (v ∷ []) c.args.notes.now.items c.tell_at.new.notes.items) shown (c.tell_at.ensures.noted q before at told))

pub returns-clause-room : goal.returns-clause-room
returns-clause-room g c =
    let new = c.args.live.now.history.journal in
    let qs = c.args.set.now.queries in
    let i = c.args.i in
    let q = c.index-queries-i.result in
    let at : q ≡ get_or qs i q = subst (λ l. q ≡ get_or l i q) c.queries.ensures.queries c.index-queries-i.is in
    let one = one_asked c.args.changed qs i q c.requires.1.1.1.1.1.0 at (sym c.has_changed.ensures ∙ c.if-not-has_changed.false) in
    omega (arith, c.tell_at.ensures.few, c.tell_at.ensures.capacity, c.requires.1.1.1.1.1.1.1, one)

pub returns-clause-others : goal.returns-clause-others
returns-clause-others g c =
    let qs = c.args.set.now.queries in
    let q = c.index-queries-i.result in
    let at : q ≡ get_or qs c.args.i q = subst (λ l. q ≡ get_or l c.args.i q) c.queries.ensures.queries c.index-queries-i.is in
    LeavesUnasked-asked qs c.args.i q c.args.kinds.now c.summary_after-summary.new.kinds c.requires.1.1.1.1.1.0 at c.summary_after-summary.ensures.others
