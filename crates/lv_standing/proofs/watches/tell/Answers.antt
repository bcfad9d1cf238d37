-- Proof of `tell`: brings each query that has a changed element up to an edit.
use Rattle.std.proofs.Common.{◌≡◌, ◌∙◌, ◌+◌, ◌≤◌, [], ap, arith, drop, length, refl, subst, sym, vec_capacity, vec_len}
use Rattle.std.proofs.lemmas.List.{append-nil}
use Rattle.lv_standing.specs.declared.queries.Query.{Query}
use Rattle.lv_standing.specs.Inner.{AddsNotesUpTo, asked, up_to}
use Rattle.lv_standing.specs.Queries.{watch_answer}
use Rattle.lv_standing.specs.QuerySets.{QuerySetState}
use Rattle.lv_standing.specs.Standings.{LeavesUnasked, summary_at}
use Rattle.lv_standing.proofs.TellLaws.{all_noted, all_up_to}
use Rattle.lv_standing.proofs.UnaskedLaws.{LeavesUnasked-same, LeavesUnasked-trans}
use Rattle.lv_standing.proofs.watches.tell.Goals as goal

pub tell_one-requires : goal.tell_one-requires
tell_one-requires g c =
    let so_far = c.loop-i.invariant in
    let queries : c.loop-i.set.queries ≡ c.args.set.now.queries = ap (λ (s : QuerySetState Query). s.queries) so_far.set in
    let room = subst (λ qs. vec_len c.loop-i.notes + length (asked c.args.changed (drop c.loop-i.i qs)) ≤ vec_capacity c.loop-i.notes) (sym queries) so_far.room in (
      c.requires.0,
      (
        so_far.kept,
        (
          c.requires.1.1.0,
          (
            c.requires.1.1.1.0,
            (c.requires.1.1.1.1.0, (omega (arith, c.loop-i-test.true, ap length c.queries-i-end.ensures.queries, ap length queries), (so_far.told, room))),
          ),
        ),
      ),
    )

pub loop-i-init : goal.loop-i-init
loop-i-init g c = record {
  set = refl;
  told = record { told = c.requires.1.1.1.1.1.0; summaries_are = c.requires.1.1.1.1.1.1.0 };
  notes = record { added = []; are = refl; all = sym (append-nil c.args.notes.now.items) };
  room = c.requires.1.1.1.1.1.1.1;
  kept = c.requires.1.0;
  others = LeavesUnasked-same c.args.set.now.queries c.args.kinds.now;
}

pub loop-i-preserved : goal.loop-i-preserved
loop-i-preserved g c =
    let so_far = c.loop-i.invariant in
    let one = c.tell_one.ensures in
    let new = c.args.live.now.history.journal in
    let all = c.args.set.now.queries in
    let first = c.args.notes.now.items in
    let queries : c.loop-i.set.queries ≡ all = ap (λ (s : QuerySetState Query). s.queries) so_far.set in
    record {
      set = one.set ∙ ap (λ (s : QuerySetState Query). record s { told = c.tell_one.new.set.told }) so_far.set;
      told = one.told;
      notes = subst (λ qs. AddsNotesUpTo g.old new (c.loop-i.i + 1) qs first c.tell_one.new.notes.items) queries (one.notes first (subst (λ qs. AddsNotesUpTo g.old new c.loop-i.i qs first c.loop-i.notes.items) (sym queries) so_far.notes));
      room = subst (λ qs. vec_len c.tell_one.new.notes + length (asked c.args.changed (drop (c.loop-i.i + 1) qs)) ≤ vec_capacity c.tell_one.new.notes) queries one.room;
      kept = one.kept;
      others = LeavesUnasked-trans all c.args.kinds.now c.loop-i.kinds c.tell_one.new.kinds so_far.others (subst (λ qs. LeavesUnasked qs c.loop-i.kinds c.tell_one.new.kinds) queries one.others);
    }

pub returns-clause-told : goal.returns-clause-told
returns-clause-told g c =
    let so_far = c.loop-i.invariant in
    let all = c.args.set.now.queries in
    let now = watch_answer c.args.live.now.history.journal in
    let queries : c.loop-i.set.queries ≡ all = ap (λ (s : QuerySetState Query). s.queries) so_far.set in
    let end : length all ≤ c.loop-i.i = omega (arith, c.loop-i-test.false, ap length c.queries-i-end.ensures.queries) in
    so_far.set ∙ ap (λ told. record c.args.set.now { told = told }) (so_far.told.told ∙ ap (up_to now (watch_answer g.old) c.loop-i.i) queries ∙ all_up_to now (watch_answer g.old) all c.loop-i.i end)

pub returns-clause-summaries : goal.returns-clause-summaries
returns-clause-summaries g c =
    let so_far = c.loop-i.invariant in
    let all = c.args.set.now.queries in
    let now = summary_at c.args.live.now.history.journal in
    let queries : c.loop-i.set.queries ≡ all = ap (λ (s : QuerySetState Query). s.queries) so_far.set in
    let end : length all ≤ c.loop-i.i = omega (arith, c.loop-i-test.false, ap length c.queries-i-end.ensures.queries) in
    so_far.told.summaries_are ∙ ap (up_to now (summary_at g.old) c.loop-i.i) queries ∙ all_up_to now (summary_at g.old) all c.loop-i.i end

pub returns-clause-notes : goal.returns-clause-notes
returns-clause-notes g c =
    let so_far = c.loop-i.invariant in
    let all = c.args.set.now.queries in
    let new = c.args.live.now.history.journal in
    let now = watch_answer new in
    let queries : c.loop-i.set.queries ≡ all = ap (λ (s : QuerySetState Query). s.queries) so_far.set in
    let end : length all ≤ c.loop-i.i = omega (arith, c.loop-i-test.false, ap length c.queries-i-end.ensures.queries) in
    all_noted g.old new all c.loop-i.i end c.args.notes.now.items c.loop-i.notes.items c.args.set.now.told c.loop-i.set.told c.requires.1.1.1.1.1.0
    (so_far.told.told ∙ ap (up_to now (watch_answer g.old) c.loop-i.i) queries ∙ all_up_to now (watch_answer g.old) all c.loop-i.i end) so_far.notes
