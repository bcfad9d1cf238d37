-- The state after an edit of a vector with queries, whether it was rejected or accepted.
use Rattle.std.proofs.Common.{◌≡◌, None, IfSome, Result, Ok, Err, List, [], ◌∷◌, ◌++◌, length, map, refl, sym, ap, subst, ◌∙◌, arith}
use Rattle.std.proofs.lemmas.List.{append-nil}
use Rattle.lv_geometry.specs.declared.refusals.Refusal.{Refusal}
use Rattle.lv_bodies.specs.Plain.{program_table}
use Rattle.lv_bodies.specs.Six.{SixSummary}
use Rattle.lv_bodies.specs.declared.sixes.Six.{Six}
use Rattle.lv_edits.specs.declared.edit.Edit.{Edit}
use Rattle.lv_edits.specs.declared.receipt.Receipt.{Receipt}
use Rattle.lv_edits.specs.History.{History, list_of, with_edit}
use Rattle.lv_edits.specs.Kept.{IsLegalInLimits}
use Rattle.lv_edits.specs.Verdict.{Accepts, Answers, Refuses, verdict_of}
use Rattle.lv_live.specs.State.{LiveState, SameRefresh}
use Rattle.lv_tree.specs.declared.kind_summaries.KindSummary.{KindSummary}
use Rattle.lv_tree.specs.Kinds.{AreReady, KindsState, LeavesAll}
use Rattle.lv_standing.specs.declared.changes.Changed.{Changed}
use Rattle.lv_standing.specs.declared.notes.Note.{Note}
use Rattle.lv_standing.specs.declared.queries.Query.{Query}
use Rattle.lv_standing.specs.Inner.{AnswersNoted, IsChangedBy, IsPushed, SameElsewhere, asked}
use Rattle.lv_standing.specs.Queries.{AddsNotesOf, AreNotesOf, span_of, terms_of, watch_answer}
use Rattle.lv_standing.specs.QuerySets.{QuerySetState}
use Rattle.lv_standing.specs.Standings.{HaveOwnNames, IsStanding, LeavesUnasked, summary_at}
use Rattle.lv_standing.proofs.QuerySetLaws.{few_due}
use Rattle.lv_standing.proofs.RangeLaws.{edit_elsewhere, push_is_last}
use Rattle.lv_standing.proofs.TellLaws.{all_stay, answer_stays, nothing_told, summary_stays}
use Rattle.lv_standing.proofs.UnaskedLaws.{LeavesUnasked-after, LeavesUnasked-same}

-- if nothing is done, claims and stored versions are the same
pub SameRefresh-same : (s : LiveState Six SixSummary) → SameRefresh s s
SameRefresh-same s = record { body = refl; claimed = λ n. refl; kept = λ n. refl }

module _ (before after : LiveState Six SixSummary) (set : QuerySetState Query) (summaries : List KindSummary) (kinds left : KindsState) (notes : List Note) (edit : Edit) (standing : IsStanding before set summaries kinds) where
  -- what is ready by the table that was kept is ready by the program's
  pub still_ready : AreReady kinds.table after.history.journal left → AreReady program_table after.history.journal left
  still_ready ready = subst (λ t. AreReady t after.history.journal left) standing.kept.kept.table_is ready

  -- kinds that no query is of are left as they were if all kinds are
  unasked : LeavesAll kinds left → LeavesUnasked set.queries kinds left
  unasked leaves = LeavesUnasked-after set.queries kinds left left leaves (LeavesUnasked-same set.queries left)

  -- an edit that was rejected leaves all as it was, except that room may have been made
  pub refused_noted : (refusal : Refusal) → Refuses before.history edit refusal after.history → SameRefresh before after → AreReady kinds.table after.history.journal left → LeavesAll kinds left
      → AnswersNoted before after set set summaries kinds left notes notes edit (Err refusal)
  refused_noted refusal answer refresh ready leaves = record {
    answer = answer;
    refresh = refresh;
    standing = record {
      limits = subst IsLegalInLimits (sym answer.same) standing.limits;
      most = standing.most;
      few = standing.few;
      apart = standing.apart;
      told = standing.told ∙ ap (λ (h : History). map (watch_answer h.journal) set.queries) (sym answer.same);
      summaries_are = standing.summaries_are ∙ ap (λ (h : History). map (summary_at h.journal) set.queries) (sym answer.same);
      kept = still_ready ready;
    };
    queries = refl;
    others = unasked leaves;
    notes = tt;
    untold = refl;
  }

  -- an edit after which no query has to be asked sends no note
  pub unasked_noted : (result : Result Receipt Refusal) (changed : Changed) → Answers before.history edit result after.history → IsLegalInLimits after.history → SameRefresh before after
      → AreReady kinds.table after.history.journal left → LeavesAll kinds left → length (asked changed set.queries) ≡ 0
      → ((receipt : Receipt) → Accepts before.history edit receipt after.history → SameElsewhere changed before.history.journal after.history.journal)
      → AnswersNoted before after set set summaries kinds left notes notes edit result
  unasked_noted (Err refusal) changed answer legal refresh ready leaves none elsewhere = refused_noted refusal answer refresh ready leaves
  unasked_noted (Ok receipt) changed answer legal refresh ready leaves none elsewhere =
      let old = before.history.journal in
      let new = after.history.journal in
      let same = elsewhere receipt answer in
      record {
        answer = answer;
        refresh = refresh;
        standing = record {
          limits = legal;
          most = standing.most;
          few = standing.few;
          apart = standing.apart;
          told = standing.told ∙ sym (all_stay old new changed same (watch_answer new) (watch_answer old) (answer_stays old new changed same) set.queries none);
          summaries_are = standing.summaries_are ∙ sym (all_stay old new changed same (summary_at new) (summary_at old) (summary_stays old new changed same) set.queries none);
          kept = still_ready ready;
        };
        queries = refl;
        others = unasked leaves;
        notes = record { told = []; more_is = sym (append-nil notes); are = nothing_told old new changed same set.queries none; few = omega arith };
        untold = tt;
      }

  -- an edit after which each query was brought up to it, and told
  pub told_noted : (mid : KindsState) (now : QuerySetState Query) (summed : List KindSummary) (more : List Note) (receipt : Receipt) → Accepts before.history edit receipt after.history → IsLegalInLimits after.history
      → SameRefresh before after → LeavesAll kinds mid → AreReady program_table after.history.journal left → LeavesUnasked set.queries mid left
      → now ≡ record set { told = map (watch_answer after.history.journal) set.queries } → summed ≡ map (summary_at after.history.journal) set.queries
      → AddsNotesOf set.queries set.told now.told notes more → AnswersNoted before after set now summed kinds left notes more edit (Ok receipt)
  told_noted mid now summed more receipt answer legal refresh first ready second now_is summed_is added =
      let old = before.history.journal in
      let new = after.history.journal in
      let queries : now.queries ≡ set.queries = ap (λ (s : QuerySetState Query). s.queries) now_is in
      let told : now.told ≡ map (watch_answer new) set.queries = ap (λ (s : QuerySetState Query). s.told) now_is in
      let are = subst (λ answers. AreNotesOf set.queries (map (watch_answer old) set.queries) answers added.added) told (subst (λ answers. AreNotesOf set.queries answers now.told added.added) standing.told added.are) in
      record {
        answer = answer;
        refresh = refresh;
        standing = record {
          limits = legal;
          most = ap (λ (s : QuerySetState Query). s.most) now_is ∙ standing.most;
          few = omega (arith, ap length queries, standing.few);
          apart = subst HaveOwnNames (sym queries) standing.apart;
          told = told ∙ ap (map (watch_answer new)) (sym queries);
          summaries_are = summed_is ∙ ap (map (summary_at new)) (sym queries);
          kept = ready;
        };
        queries = queries;
        others = LeavesUnasked-after set.queries kinds mid left first second;
        notes = record {
          told = added.added;
          more_is = added.all;
          are = are;
          few = omega (arith, few_due terms_of set.queries (map (watch_answer old) set.queries) (map (watch_answer new) set.queries) added.added are, standing.few);
        };
        untold = tt;
      }

module _ (old new : History) (edit : Edit) (changed : Changed) (legal : IsLegalInLimits old) (free : verdict_of old.limits old.journal edit ≡ None) (made : new ≡ with_edit old edit) (is : IsChangedBy (list_of old.journal) edit changed) where
  -- an accepted edit leaves each span without an element that it changes
  pub same_elsewhere : SameElsewhere changed old.journal new.journal
  same_elsewhere = λ span apart. ap (λ (h : History). span_of span (list_of h.journal)) made ∙ edit_elsewhere old edit changed span legal free is apart

  -- and what it pushed is the last element of the list
  pub pushed_last : IfSome changed.pushed (IsPushed changed old.journal new.journal)
  pushed_last =
      subst (λ (h : History). IfSome changed.pushed (IsPushed changed old.journal h.journal)) (sym made)
      (subst (λ y. IfSome y (IsPushed changed old.journal (old.journal ++ edit ∷ []))) (sym is.pushed) (push_is_last old edit changed legal.legal free is))
