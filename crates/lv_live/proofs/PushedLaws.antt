-- What pushes whose indices are all of one block make of table and claims, and many such runs.
use Rattle.std.proofs.Common.{◌≡◌, ℕ, ℤ, ◌+◌, ◌-◌, ◌*◌, ◌/◌, ◌^◌, ◌<◌, ◌≤◌, true, Some, None, option_map, List, [], ◌∷◌, ◌++◌, length, take, drop, refl, sym, ap, subst, ◌∙◌, inl, inr, arith}
use Rattle.std.proofs.lemmas.Bool.{and_parts, cases_Bool, cases_lt}
use Rattle.std.proofs.lemmas.List.{length-drop, length-take-le, length_push, take-append-drop}
use Rattle.lv_geometry.specs.declared.nodes.Node.{Node}
use Rattle.lv_geometry.specs.Bounds.{Bounds}
use Rattle.lv_geometry.specs.Cells.{capacity_of}
use Rattle.lv_geometry.proofs.Capacities.{capacity_of_most}
use Rattle.lv_geometry.specs.Nodes.{over}
use Rattle.lv_geometry.proofs.NodeLaws.{level_of_node}
use Rattle.lv_bodies.specs.Body.{Operations}
use Rattle.lv_edits.specs.declared.edit.Edit.TheVariants.{Push}
use Rattle.lv_edits.specs.History.{History, list_of, replayed, with_edit}
use Rattle.lv_edits.specs.Kept.{IsLegalInLimits}
use Rattle.lv_edits.specs.Pushes.{AcceptsAll, verdict_of_pushes, with_pushes}
use Rattle.lv_edits.specs.Touch.{touches}
use Rattle.lv_edits.proofs.HistoryLaws.{legal-snoc}
use Rattle.lv_edits.proofs.PushLaws.{keeps_limits, made_by_pushes, size_pushed}
use Rattle.lv_edits.proofs.RunLaws.{AreOfBlock, AreOfBlock-from, block_first, block_rest, grown, with_pushes-append}
use Rattle.lv_summary.specs.Agrees.{Agrees}
use Rattle.lv_summary.proofs.PushedLaws.{agrees_pushed}
use Rattle.lv_summary.specs.Changes.{AnswersAlike}
use Rattle.lv_summary.specs.Table.{Table}
use Rattle.lv_refresh.specs.Claim.{wants_job}
use Rattle.lv_refresh.specs.ClaimTable.{AreHints, ClaimTable, claim_blocks, is_hinted, record_of}
use Rattle.lv_refresh.specs.Record.{Record, SameRecord}
use Rattle.lv_refresh.proofs.HonestyLaws.{whole_of_wanted}
use Rattle.lv_refresh.proofs.RecordLaws.{kept_past}
use Rattle.lv_refresh.proofs.WantLaws.{calm_after_edit, wants_before_edit, wants_job-same}
use Rattle.lv_live.specs.Follows.{ClaimsAlike, ClaimsFollow, TableFollows}
use Rattle.lv_live.specs.Pushed.{ArePushesAt, PushesFollow}
use Rattle.lv_live.specs.Kept.{IsLive}
use Rattle.lv_live.specs.State.{LiveState, Remembers, SameRefresh}
use Rattle.lv_live.proofs.LiveLaws.{block_hinted}
use Rattle.lv_live.proofs.RememberLaws.{remembers_same}

-- a record with other edits
abbrev after : Record → History → Record
after r h = record r { edits = h.journal }

-- every node that wants a job after pushes in a block is hinted, if the block is, and each that wanted one before
hints_run : (r : Record) (h : History) (xs : List ℤ) (i : ℕ) (d : ClaimTable) → replayed h.journal ≡ Some (list_of h.journal) → AreOfBlock (length (list_of h.journal)) (length xs) i → is_hinted d (over 1 i) ≡ true → ((m : Node) (v : ℕ) → r.kept m ≡ Some v → v ≤ length h.journal)
    → ((n : Node) → wants_job (after r h) n ≡ true → is_hinted d n ≡ true) → (n : Node) → wants_job (after r (with_pushes h xs)) n ≡ true → is_hinted d n ≡ true
hints_run r h [] i d legal of hinted past before = before
hints_run r h (x ∷ xs) i d legal of hinted past before =
    let next = with_edit h (Push x) in
    let legal_next = legal-snoc h.journal (Push x) _ legal refl in
    let first = block_first (length (list_of h.journal)) (length (x ∷ xs)) i (omega arith) of in
    let count : length (x ∷ xs) ≡ length xs + 1 = omega arith in
    let of_rest = block_rest (length (list_of h.journal)) (length xs) i (length (list_of next.journal)) (size_pushed h x legal) (subst (λ k. AreOfBlock (length (list_of h.journal)) k i) count of) in
    let past_next : (m : Node) (v : ℕ) → r.kept m ≡ Some v → v ≤ length next.journal = λ m v is. later v (length h.journal) (length next.journal) (length_push h.journal (Push x)) (past m v is) in
    hints_run r next xs i d legal_next of_rest hinted past_next (one_more first)
  where
    later : (v last next : ℕ) → next ≡ last + 1 → v ≤ last → v ≤ next
    later v last next is early = omega (arith, is, early)

    same : SameRecord (record (after r h) { edits = h.journal ++ Push x ∷ [] }) (after r (with_edit h (Push x)))
    same = record { edits = refl; issued = refl; claimed = λ n. refl; kept = λ n. refl }

    one_more : length (list_of h.journal) / 8 ≡ i / 8 → (n : Node) → wants_job (after r (with_edit h (Push x))) n ≡ true → is_hinted d n ≡ true
    one_more first n wants =
        elim (cases_Bool (touches (list_of h.journal) (Push x) n)) [
          | inl touched ↦ elim (cases_lt 1 n.level) [
            | inl above ↦ absurd (calm_after_edit (after r h) (after r (with_edit h (Push x))) (Push x) past same n above touched wants)
            | inr low ↦
                let some = (level_of_node n (and_parts _ _ (whole_of_wanted (after r (with_edit h (Push x))) n wants)).0).0 in
                let number : i / 8 ^ 1 ≡ length (list_of h.journal) / 8 ^ 1 = omega (arith, first) in
                let here : is_hinted d (over 1 (length (list_of h.journal))) ≡ true = ap (λ k. is_hinted d (record { level = 1; number = k })) (sym number) ∙ hinted in
                block_hinted d (length (list_of h.journal) ∷ []) n (omega (arith, some, low)) (here, tt) touched
          ]
          | inr untouched ↦ before n (wants_before_edit (after r h) (after r (with_edit h (Push x))) (Push x) _ legal refl same n untouched wants)
        ]

module _ {S : Type 0} where
  -- nothing was pushed yet
  pub PushesFollow-none : (t : Table S) (c : ClaimTable) (first edit : ℕ) → t.size ≡ first → PushesFollow t t c c first edit 0
  PushesFollow-none t c first edit size =
      record {
        size = omega (arith, size);
        blocks = refl;
        kept = λ n. refl;
        claims = record { claimed = λ n. refl; hints = λ n is. is; more = omega arith };
        agrees = λ o h xs are agrees. none_pushed (λ h. Agrees o h.journal t) h xs are.count_is agrees;
        hints = λ o h xs are agrees hints. none_pushed (λ h. AreHints (record_of h.journal t c) c) h xs are.count_is hints;
      }
    where
      none_pushed : (P : History → Type 0) (h : History) (xs : List ℤ) → length xs ≡ 0 → P h → P (with_pushes h xs)
      none_pushed P h [] none p = p
      none_pushed P h (x ∷ xs) none p = absurd (omega (arith, none))

  module _ (t u v : Table S) (c d e : ClaimTable) (first edit done to i : ℕ) (before : PushesFollow t u c d first edit done) (some : done < to) (low : (first + done) / 8 ≡ i / 8) (high : (first + to - 1) / 8 ≡ i / 8) (table : TableFollows u v (i ∷ []) (edit + to) (first + to)) (claims : ClaimsFollow d e (i ∷ [])) where
    -- a run of pushes behind others
    record Split (h : History) (xs : List ℤ) : Type 0 where
      front : ArePushesAt h (take done xs) first edit done
      rest : ArePushesAt (with_pushes h (take done xs)) (drop done xs) (first + done) (edit + done) (to - done)
      whole : with_pushes h xs ≡ with_pushes (with_pushes h (take done xs)) (drop done xs)

    split : (h : History) (xs : List ℤ) → ArePushesAt h xs first edit to → Split h xs
    split h xs are =
        let long : length (take done xs) ≡ done = length-take-le done xs (omega (arith, are.count_is, some)) in
        let grows = grown h (take done xs) are.legal in
        record {
          front = record { legal = are.legal; first_is = are.first_is; edit_is = are.edit_is; count_is = long };
          rest = record {
            legal = grows.legal;
            first_is = omega (arith, grows.size, are.first_is, long);
            edit_is = omega (arith, grows.edits, are.edit_is, long);
            count_is = omega (arith, length-drop done xs, are.count_is);
          };
          whole = ap (with_pushes h) (sym (take-append-drop done xs)) ∙ with_pushes-append h (take done xs) (drop done xs);
        }

    -- its indices are of the block
    of_block : (h : History) (ys : List ℤ) → ArePushesAt h ys (first + done) (edit + done) (to - done) → AreOfBlock (length (list_of h.journal)) (length ys) i
    of_block h ys are =
        let last : length (list_of h.journal) + length ys - 1 ≡ first + to - 1 = omega (arith, are.first_is, are.count_is, some) in
        AreOfBlock-from (length (list_of h.journal)) (length ys) i (ap (λ k. k / 8) are.first_is ∙ low) (ap (λ k. k / 8) last ∙ high)

    agrees_more : (o : Operations S) (h : History) (ys : List ℤ) → ArePushesAt h ys (first + done) (edit + done) (to - done) → Agrees o h.journal u → Agrees o (with_pushes h ys).journal v
    agrees_more o h ys are agrees =
        let number : edit + to ≡ length h.journal + length ys = omega (arith, are.edit_is, are.count_is, some) in
        let size : first + to ≡ length (list_of h.journal) + length ys = omega (arith, are.first_is, are.count_is, some) in
        let follows : TableFollows u v (i ∷ []) (length h.journal + length ys) (length (list_of h.journal) + length ys) = rw (sym number) (rw (sym size) table) in
        agrees_pushed o h ys i u follows.0 v are.legal (omega (arith, are.count_is, some)) (of_block h ys are) agrees follows.1 follows.2

    hints_more : (o : Operations S) (h : History) (ys : List ℤ) → ArePushesAt h ys (first + done) (edit + done) (to - done) → Agrees o h.journal u → AreHints (record_of h.journal u d) d → AreHints (record_of (with_pushes h ys).journal v e) e
    hints_more o h ys are agrees hints n wants =
        let r = record_of h.journal u d in
        let kept = λ (m : Node). ap (option_map (λ (kept : ℕ × S). kept.0)) (table.2.kept m ∙ table.1.kept m) in
        let same : SameRecord (after r (with_pushes h ys)) (record_of (with_pushes h ys).journal v e) = record { edits = refl; issued = refl; claimed = claims.alike.claimed; kept = kept } in
        hints_run r h ys i e are.legal (of_block h ys are) claims.blocks.0 (kept_past o h.journal u d agrees) (λ m was. claims.alike.hints m (hints m was)) n (sym (wants_job-same (after r (with_pushes h ys)) (record_of (with_pushes h ys).journal v e) same n) ∙ wants)

    -- table and claims that followed pushes, and then others whose indices are all of one block, followed all
    pub PushesFollow-more : PushesFollow t v c e first edit to
    PushesFollow-more =
        record {
          size = table.2.size_is;
          blocks = table.2.blocks ∙ table.1.blocks ∙ before.blocks;
          kept = λ n. table.2.kept n ∙ table.1.kept n ∙ before.kept n;
          claims = record {
            claimed = λ n. claims.alike.claimed n ∙ before.claims.claimed n;
            hints = λ n was. claims.alike.hints n (before.claims.hints n was);
            more = omega (arith, claims.alike.more, before.claims.more);
          };
          agrees = λ o h xs are agrees.
              let parts = split h xs are in
              rw parts.whole (agrees_more o (with_pushes h (take done xs)) (drop done xs) parts.rest (before.agrees o h (take done xs) parts.front agrees));
          hints = λ o h xs are agrees hints.
              let parts = split h xs are in
              rw parts.whole (hints_more o (with_pushes h (take done xs)) (drop done xs) parts.rest (before.agrees o h (take done xs) parts.front agrees) (before.hints o h (take done xs) parts.front agrees hints));
        }

module _ {B S : Type 0} (s : LiveState B S) (xs : List ℤ) (h : History) (t u : Table S) (c d : ClaimTable) (first edit count : ℕ) (is : h ≡ with_pushes s.history xs) (are : ArePushesAt s.history xs first edit count) (follows : PushesFollow t u c d first edit count) where
  -- accepted pushes, followed by table and claims, keep all
  pub live_after_pushes : (o : Operations S) → IsLive o (record s { table = t; claims = c }) → IsLegalInLimits h → first + count ≤ 8 * claim_blocks c → IsLive o (record s { history = h; table = u; claims = d })
  live_after_pushes o live limits room =
      let journal = ap (λ (h : History). h.journal) is in
      record {
        limits = limits;
        agrees = rw journal (follows.agrees o s.history xs are live.agrees);
        hints = rw journal (follows.hints o s.history xs are live.agrees live.hints);
        grown = omega (arith, follows.size, room, follows.claims.more);
      }

  -- and leave what is claimed and kept
  pub same_refresh_pushed : AnswersAlike s.table t → ClaimsAlike s.claims c → SameRefresh s (record s { history = h; table = u; claims = d })
  same_refresh_pushed alike same =
      record {
        body = refl;
        claimed = λ n. follows.claims.claimed n ∙ same.claimed n;
        kept = λ n. ap (option_map (λ (kept : ℕ × S). kept.0)) (follows.kept n ∙ alike.kept n);
      }

  -- and nodes that they don't touch stay fresh
  pub remembers_pushed : (o : Operations S) → IsLive o s → IsLive o (record s { history = h; table = u; claims = d }) → AnswersAlike s.table t → Remembers s (record s { history = h; table = u; claims = d })
  remembers_pushed o live after alike =
      remembers_same o s (record s { history = h; table = u; claims = d }) live after (λ n. follows.kept n ∙ alike.kept n)

-- no pushes are accepted, and change nothing
pub none_pushed : (h : History) (xs : List ℤ) → length xs ≡ 0 → verdict_of_pushes h xs ≡ None → AcceptsAll h xs (length h.journal) h
none_pushed h [] none free = record { verdict = refl; edit_is = omega arith; journal = refl }
none_pushed h (x ∷ xs) none free = absurd (omega (arith, none))

-- accepted pushes leave a list and a journal as long as a vector may have them
pub pushes_fit : (h : History) (xs : List ℤ) → IsLegalInLimits h → verdict_of_pushes h xs ≡ None → (length (list_of h.journal) + length xs ≤ 1048568) × (length h.journal + length xs ≤ 16777215)
pushes_fit h xs legal free =
    let made = made_by_pushes h xs (keeps_limits h legal) free in
    let cells = ap (λ (b : Bounds). capacity_of b.buckets) made.limits in
    let edits = ap (λ (b : Bounds). b.edits) made.limits in
    (omega (arith, made.size, made.kept.size, cells, capacity_of_most h.limits.buckets legal.allowed.few_buckets), omega (arith, made.edits, made.kept.edits, edits, legal.allowed.few_edits))
