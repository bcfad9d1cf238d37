-- What an accepted edit asks of table and claims.
use Rattle.std.proofs.Common.{◌≡◌, ℕ, ◌*◌, ◌≤◌, List, None, option_map, length, refl, subst, ap, ◌∙◌, arith}
use Rattle.lv_edits.specs.declared.edit.Edit.{Edit}
use Rattle.lv_edits.specs.declared.edit.Edit.TheVariants.{Push, Pop, Write, Reserve, Swap, Truncate}
use Rattle.lv_edits.specs.History.{History, list_of, with_edit}
use Rattle.lv_edits.specs.Kept.{IsLegalInLimits}
use Rattle.lv_edits.specs.Touch.{indices_written}
use Rattle.lv_edits.specs.Verdict.{refused_on, verdict_of}
use Rattle.lv_geometry.proofs.Capacities.{capacity_of_most}
use Rattle.lv_geometry.specs.Cells.{capacity_of}
use Rattle.lv_edits.proofs.HistoryLaws.{accepted_is_possible, list_of-snoc, not_refused, unrefused_push, unrefused_swap, unrefused_write}
use Rattle.lv_summary.specs.Changes.{AnswersAlike}
use Rattle.lv_summary.specs.Table.{Table}
use Rattle.lv_refresh.specs.ClaimTable.{ClaimTable}
use Rattle.lv_live.specs.Follows.{ClaimsAlike, ClaimsFollow, HaveBlocks, HaveRows, TableFollows}
use Rattle.lv_live.specs.State.{LiveState, SameRefresh}
use Rattle.lv_live.proofs.LiveLaws.{kept_followed, room_after}

-- an accepted edit writes only at indices that a vector can have
pub written_inside : (h : History) (e : Edit) (indices : List ℕ) → IsLegalInLimits h → verdict_of h.limits h.journal e ≡ None → indices_written (list_of h.journal) e ≡ indices → HaveBlocks indices
written_inside h e indices limits free written = subst HaveBlocks written (inside e (not_refused h.limits h.journal e free).1)
  where
    most : capacity_of h.limits.buckets ≤ 1048568
    most = capacity_of_most h.limits.buckets limits.allowed.few_buckets

    inside : (e : Edit) → refused_on h.limits (list_of h.journal) e ≡ None → HaveBlocks (indices_written (list_of h.journal) e)
    inside (Push x) free = (omega (arith, unrefused_push h.limits (list_of h.journal) x free, limits.size, most), tt)
    inside Pop free = tt
    inside (Write k x) free = (omega (arith, unrefused_write h.limits (list_of h.journal) k x free, limits.few), tt)
    inside (Reserve k) free = tt
    inside (Swap i j) free =
        let both = unrefused_swap h.limits (list_of h.journal) i j free in
        (omega (arith, both.0, limits.few), (omega (arith, both.1, limits.few), tt))
    inside (Truncate k) free = tt

-- the list after an accepted edit has its room if the indices that it wrote at have
pub room_accepted : (h next : History) (e : Edit) (indices : List ℕ) (blocks : ℕ) → IsLegalInLimits h → verdict_of h.limits h.journal e ≡ None → next ≡ with_edit h e → indices_written (list_of h.journal) e ≡ indices → length (list_of h.journal) ≤ 8 * blocks → HaveRows blocks indices → length (list_of next.journal) ≤ 8 * blocks
room_accepted h next e indices blocks limits free is written room rows =
    let able = accepted_is_possible h.limits h.journal e free in
    let now = (list_of-snoc h.journal e able.0 limits.legal able.1).1 in
    let same : list_of next.journal ≡ able.0 = ap (λ h. list_of h.journal) is ∙ now in
    omega (arith, ap length same, room_after (list_of h.journal) able.0 e indices blocks able.1 written room rows)

-- a vector whose table and claims grew has the same body, claims and kept versions
pub same_refresh_alike : {B S : Type 0} (s : LiveState B S) (h : History) (t : Table S) (c : ClaimTable) → AnswersAlike s.table t → ClaimsAlike s.claims c → SameRefresh s (record s { history = h; table = t; claims = c })
same_refresh_alike s h t c alike same =
    record { body = refl; claimed = same.claimed; kept = λ n. ap (option_map (λ kept. kept.0)) (alike.kept n) }

-- and so has one whose table and claims followed an edit
pub same_refresh_followed : {B S : Type 0} (s : LiveState B S) (h : History) (t u : Table S) (c d : ClaimTable) (indices : List ℕ) (edit size : ℕ) → AnswersAlike s.table t → ClaimsAlike s.claims c → TableFollows t u indices edit size → ClaimsFollow c d indices → SameRefresh s (record s { history = h; table = u; claims = d })
same_refresh_followed {B} {S} s h t u c d indices edit size alike same follows claims =
    record {
      body = refl;
      claimed = λ n. claims.alike.claimed n ∙ same.claimed n;
      kept = λ n. ap (option_map (λ kept. kept.0)) (kept_followed t u indices edit size follows n ∙ alike.kept n);
    }
