-- What a live vector keeps through each of its changes.
use Rattle.std.proofs.Common.{◌≡◌, ℕ, ◌+◌, ◌-◌, ◌*◌, ◌/◌, ◌^◌, ◌≤◌, true, ◌&&◌, cond, Some, None, option_map, List, [], ◌∷◌, ◌++◌, length, nat_eq, if◌then◌else◌, refl, subst, sym, ap, ◌∙◌, inl, inr, arith}
use Rattle.std.specs.Prelude.{ℤ}
use Rattle.std.specs.List.{AllByRecursion, list_any}
use Rattle.std.proofs.lemmas.List.{length-set, length-take, length_push}
use Rattle.std.proofs.lemmas.List.Edits.{length-swap}
use Rattle.std.proofs.lemmas.Option.{cond_some, same_Some}
use Rattle.std.proofs.lemmas.Bool.{and_from, and_parts, cases_Bool, cases_lt, eq-eqb, eqb-true, false≢true, le-leb, leb-true, or_cases}
use Rattle.lv_geometry.specs.declared.nodes.Node.{Node}
use Rattle.lv_geometry.specs.Nodes.{covers, is_below, is_node, over, parent, same_node}
use Rattle.lv_geometry.proofs.NodeLaws.{level_of_node}
use Rattle.lv_bodies.specs.Body.{Operations, fold_of}
use Rattle.lv_edits.specs.declared.edit.Edit.{Edit}
use Rattle.lv_edits.specs.declared.edit.Edit.TheVariants.{Push, Pop, Write, Reserve, Swap, Truncate}
use Rattle.lv_edits.specs.History.{History, applied, list_of, replayed, with_edit}
use Rattle.lv_edits.specs.Kept.{IsLegalInLimits}
use Rattle.lv_edits.specs.Touch.{elements_under, indices_written, is_whole, touched_by, touches}
use Rattle.lv_edits.specs.Verdict.{verdict_of}
use Rattle.lv_edits.proofs.HistoryLaws.{accepted_is_possible, list_of-snoc}
use Rattle.lv_edits.proofs.TouchLaws.{none_whole}
use Rattle.lv_summary.specs.declared.accepted.Accepted.TheVariants.{Held, Installed, Stale}
use Rattle.lv_summary.specs.Agrees.{Agrees}
use Rattle.lv_summary.specs.Changes.{AnswersAlike, Keeps, TouchesEach}
use Rattle.lv_summary.specs.Table.{Table, delivery_in, has_version, kept_in, touched_in, whole_in}
use Rattle.lv_summary.proofs.AgreesLaws.{agrees_after_touches, agrees_alike, agrees_empty, agrees_installed, whole_agrees}
use Rattle.lv_summary.proofs.TableLaws.{same_node-eq, version_kept}
use Rattle.lv_refresh.specs.ClaimTable.{AreHints, ClaimTable, claim_blocks, claimed_in, is_hinted, record_of}
use Rattle.lv_refresh.specs.Delivery.{delivery_of}
use Rattle.lv_refresh.specs.Record.{SameRecord}
use Rattle.lv_refresh.proofs.HonestyLaws.{whole_of_wanted}
use Rattle.lv_refresh.proofs.RecordLaws.{kept_past, same_version}
use Rattle.lv_refresh.proofs.WantLaws.{calm_after_edit, wants_before_edit, wants_before_install, wants_job-same}
use Rattle.lv_live.specs.Follows.{ClaimsAlike, ClaimsFollow, HaveRows, TableFollows}
use Rattle.lv_live.specs.Kept.{IsLive}
use Rattle.lv_live.specs.State.{LiveState, recorded}

-- the list after an edit has its room if the indices that it wrote at have
pub room_after : (xs ys : List ℤ) (e : Edit) (indices : List ℕ) (blocks : ℕ) → applied xs e ≡ Some ys → indices_written xs e ≡ indices → length xs ≤ 8 * blocks → HaveRows blocks indices → length ys ≤ 8 * blocks
room_after xs ys (Push x) indices blocks made written room rows =
    let here : HaveRows blocks (length xs ∷ []) = subst (HaveRows blocks) (sym written) rows in
    omega (arith, ap length (same_Some _ _ made), length_push xs x, here.0)
room_after xs ys Pop indices blocks made written room rows =
    omega (arith, ap length (cond_some _ _ _ made).1, length-take (length xs - 1) xs)
room_after xs ys (Write i x) indices blocks made written room rows =
    omega (arith, ap length (cond_some _ _ _ made).1, length-set xs i x)
room_after xs ys (Reserve k) indices blocks made written room rows = omega (arith, ap length (same_Some _ _ made))
room_after xs ys (Swap i j) indices blocks made written room rows =
    omega (arith, ap length (cond_some _ _ _ made).1, length-swap xs i j)
room_after xs ys (Truncate k) indices blocks made written room rows =
    omega (arith, ap length (cond_some _ _ _ made).1, length-take k xs)

-- what is kept stays under an edit
pub kept_followed : {S : Type 0} (t u : Table S) (indices : List ℕ) (edit size : ℕ) → TableFollows t u indices edit size → (n : Node) → kept_in u n ≡ kept_in t n
kept_followed t u indices edit size (mid, touch, sized) n = sized.kept n ∙ touch.kept n

-- a block that has one of some indices is hinted if the block of each is
pub block_hinted : (c : ClaimTable) (indices : List ℕ) (n : Node) → n.level ≡ 1 → AllByRecursion (λ i. is_hinted c (over 1 i) ≡ true) indices → list_any (covers n) indices ≡ true → is_hinted c n ≡ true
block_hinted c [] n block hinted covered = absurd (false≢true covered)
block_hinted c (i ∷ rest) n block hinted covered =
    elim (or_cases (covers n i) (list_any (covers n) rest) covered) [
      | inl here ↦
          let number : n.number ≡ i / 8 ^ 1 = sym (eqb-true _ _ here) ∙ ap (λ level. i / 8 ^ level) block in
          let one : n ≡ over 1 i = same_node-eq n (over 1 i) (and_from _ _ (eq-eqb n.level 1 block) (eq-eqb n.number (i / 8 ^ 1) number)) in
          ap (is_hinted c) one ∙ hinted.0
      | inr later ↦ block_hinted c rest n block hinted.1 later
    ]

module _ {S : Type 0} (o : Operations S) where
  -- tables that answer alike, with claims that answer alike, have the same record
  pub same_record : (es : List Edit) (t u : Table S) (c d : ClaimTable) → ((n : Node) → kept_in u n ≡ kept_in t n) → ((n : Node) → claimed_in d n ≡ claimed_in c n) → SameRecord (record_of es t c) (record_of es u d)
  same_record es t u c d kept claimed =
      record { edits = refl; issued = refl; claimed = claimed; kept = λ n. ap (option_map (λ kept. kept.0)) (kept n) }

  -- growth keeps all
  pub live_alike : {B : Type 0} (s : LiveState B S) (t : Table S) (c : ClaimTable) → IsLive o s → AnswersAlike s.table t → ClaimsAlike s.claims c → IsLive o (record s { table = t; claims = c })
  live_alike s t c live alike same =
      let records = same_record s.history.journal s.table t s.claims c alike.kept same.claimed in
      record {
        limits = live.limits;
        agrees = agrees_alike o s.history.journal s.table t alike live.agrees;
        hints = λ n wants. same.hints n (live.hints n (sym (wants_job-same (recorded s) (record_of s.history.journal t c) records n) ∙ wants));
        grown = omega (arith, live.grown, alike.size, same.more);
      }

  -- the table that follows an edit agrees with the journal that has it
  pub agrees_followed : (es : List Edit) (e : Edit) (ys : List ℤ) (t u : Table S) (indices : List ℕ) → replayed es ≡ Some (list_of es) → applied (list_of es) e ≡ Some ys → indices_written (list_of es) e ≡ indices → Agrees o es t
      → TableFollows t u indices (length es + 1) (length ys) → Agrees o (es ++ e ∷ []) u
  agrees_followed es e ys t u indices legal possible written agrees (mid, touch, sized) =
      agrees_after_touches o es e ys t mid u legal possible agrees (subst (λ is. TouchesEach t mid is (length es + 1)) (sym written) touch) sized

  -- every node that wants a job after an edit is hinted: of those that it touched, only blocks may want one
  pub hints_followed : (es : List Edit) (e : Edit) (ys : List ℤ) (t u : Table S) (c d : ClaimTable) (indices : List ℕ) → replayed es ≡ Some (list_of es) → applied (list_of es) e ≡ Some ys → indices_written (list_of es) e ≡ indices
      → Agrees o es t → TableFollows t u indices (length es + 1) (length ys) → ClaimsFollow c d indices → AreHints (record_of es t c) c → AreHints (record_of (es ++ e ∷ []) u d) d
  hints_followed es e ys t u c d indices legal possible written agrees follows claims hints n wants =
      let next = record_of (es ++ e ∷ []) u d in
      let same : SameRecord (record (record_of es t c) { edits = es ++ e ∷ [] }) next =
      record { edits = refl; issued = refl; claimed = claims.alike.claimed; kept = λ n. ap (option_map (λ kept. kept.0)) (kept_followed t u indices (length es + 1) (length ys) follows n) } in
      elim (cases_Bool (touches (list_of es) e n)) [
        | inl touched ↦ elim (cases_lt 1 n.level) [
          | inl above ↦ absurd (calm_after_edit (record_of es t c) next e (kept_past o es t c agrees) same n above touched wants)
          | inr low ↦
              let some = (level_of_node n (and_parts _ _ (whole_of_wanted next n wants)).0).0 in
              block_hinted d indices n (omega arith) claims.blocks (ap (list_any (covers n)) (sym written) ∙ touched)
        ]
        | inr untouched ↦ claims.alike.hints n (hints n (wants_before_edit (record_of es t c) next e ys legal possible same n untouched wants))
      ]

  -- an accepted edit, followed by table and claims, keeps all
  pub live_after_edit : {B : Type 0} (s : LiveState B S) (e : Edit) (h : History) (t : Table S) (c : ClaimTable) (indices : List ℕ) → IsLive o s → verdict_of s.history.limits s.history.journal e ≡ None → h ≡ with_edit s.history e → IsLegalInLimits h
      → indices_written (list_of s.history.journal) e ≡ indices → HaveRows (claim_blocks s.claims) indices → TableFollows s.table t indices (length h.journal) (length (list_of h.journal)) → ClaimsFollow s.claims c indices → IsLive o (record s { history = h; table = t; claims = c })
  live_after_edit s e h t c indices live free is limits written rows follows claims =
      let es = s.history.journal in
      let able = accepted_is_possible s.history.limits es e free in
      let legal = live.limits.legal in
      let now : list_of (es ++ e ∷ []) ≡ able.0 = (list_of-snoc es e able.0 legal able.1).1 in
      let journal : h.journal ≡ es ++ e ∷ [] = ap (λ h. h.journal) is in
      let edit : length h.journal ≡ length es + 1 = ap length journal ∙ length_push es e in
      let size : length (list_of h.journal) ≡ length able.0 = ap (λ es. length (list_of es)) journal ∙ ap length now in
      let followed : TableFollows s.table t indices (length es + 1) (length able.0) = rw (sym edit) (rw (sym size) follows) in
      record {
        limits = limits;
        agrees = rw journal (agrees_followed es e able.0 s.table t indices legal able.1 written live.agrees followed);
        hints = rw journal (hints_followed es e able.0 s.table t s.claims c indices legal able.1 written live.agrees followed claims live.hints);
        grown = omega (arith, followed.2.size_is, room_after (list_of es) able.0 e indices (claim_blocks s.claims) able.1 written (omega (arith, live.grown, live.agrees.size)) rows, claims.alike.more);
      }

  -- a table that agrees answers what is delivered as the record does
  pub delivery_agrees : (es : List Edit) (t : Table S) (c : ClaimTable) (n : Node) (v : ℕ) → Agrees o es t → is_node n ≡ true → delivery_in t n v ≡ delivery_of (record_of es t c) n v
  delivery_agrees es t c n v agrees node =
      ap (λ size. cond ((is_node n && is_below n size) && nat_eq (touched_in t n) v) (cond (has_version v (kept_in t n)) Held Installed) (Stale (touched_in t n))) agrees.size
      ∙ ap (λ edit. cond (is_whole es n && nat_eq edit v) (cond (has_version v (kept_in t n)) Held Installed) (Stale edit)) (agrees.touched n node)
      ∙ ap (λ has. cond (is_whole es n && nat_eq (touched_by es n) v) (cond has Held Installed) (Stale (touched_by es n))) (same_version v (kept_in t n))

  -- a summary that was installed is the fold of its node's elements, and the node's parent is hinted: all is kept
  pub live_after_install : {B : Type 0} (s : LiveState B S) (t : Table S) (c : ClaimTable) (n : Node) (v : ℕ) (summary : S) → IsLive o s → Keeps s.table t n v summary → whole_in s.table n ≡ true → touched_in s.table n ≡ v
      → summary ≡ fold_of o (elements_under s.history.journal n) → ClaimsAlike s.claims c → (is_node (parent n) ≡ true → is_hinted c (parent n) ≡ true) → IsLive o (record s { table = t; claims = c })
  live_after_install s t c n v summary live keeps whole touched is claims above =
      let es = s.history.journal in
      let node = (and_parts _ _ whole).0 in
      let next = record_of es t c in
      let kept : (m : Node) → next.kept m ≡ (if same_node m n then Some v else (recorded s).kept m) = version_kept s.table t n v summary keeps in
      record {
        limits = live.limits;
        agrees = agrees_installed o es s.table t n v summary live.agrees keeps whole touched is;
        hints = λ m wants. elim (wants_before_install (recorded s) next n v refl claims.claimed kept (whole_agrees o es s.table live.agrees n ∙ whole) (sym (live.agrees.touched n node) ∙ touched) m wants) [
          | inl before ↦ claims.hints m (live.hints m before)
          | inr parent_is ↦
              let one : m ≡ parent n = same_node-eq m (parent n) parent_is in
              let inside : is_node m ≡ true = (and_parts _ _ (whole_of_wanted next m wants)).0 in
              ap (is_hinted c) one ∙ above (ap is_node (sym one) ∙ inside)
        ];
        grown = omega (arith, live.grown, keeps.size, claims.more);
      }

  -- claims that were forgotten, with every node hinted that the claims have room for: all is kept
  pub live_after_forget : {B : Type 0} (s : LiveState B S) (c : ClaimTable) → IsLive o s → claim_blocks c ≡ claim_blocks s.claims
      → ((n : Node) → is_node n ≡ true → is_below n (8 * claim_blocks s.claims) ≡ true → is_hinted c n ≡ true) → IsLive o (record s { claims = c })
  live_after_forget s c live blocks all =
      record {
        limits = live.limits;
        agrees = live.agrees;
        hints = λ n wants.
            let whole = and_parts _ _ (whole_of_wanted (record_of s.history.journal s.table c) n wants) in
            let below : (n.number + 1) * 8 ^ n.level ≤ length (list_of s.history.journal) = leb-true _ _ whole.1 in
            all n whole.0 (le-leb _ _ (omega (arith, below, live.agrees.size, live.grown)));
        grown = omega (arith, live.grown, blocks);
      }

  -- an empty vector, for which nothing is claimed and nothing kept
  pub live_empty : {B : Type 0} (s : LiveState B S) → s.history.journal ≡ [] → IsLegalInLimits s.history → s.table.size ≡ 0 → ((n : Node) → touched_in s.table n ≡ 0) → ((n : Node) → kept_in s.table n ≡ None) → IsLive o s
  live_empty s journal limits size touched kept =
      record {
        limits = limits;
        agrees = rw journal (agrees_empty o s.table size touched kept);
        hints = λ n wants. absurd (none_whole n (ap (λ es. is_whole es n) (sym journal) ∙ whole_of_wanted (recorded s) n wants));
        grown = omega (arith, size);
      }
