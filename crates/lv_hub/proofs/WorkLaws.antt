-- After an update that is said to make no work, no further node needs a job.
use Rattle.std.proofs.Common.{◌≡◌, ℕ, ◌+◌, ◌-◌, ◌*◌, ◌/◌, ◌%◌, ◌^◌, ◌<◌, ◌≤◌, true, false, Some, Result, Ok, Err, List, [], ◌∷◌, ◌++◌, length, refl, sym, ap, ◌∙◌, inl, inr, arith}
use Rattle.std.specs.Prelude.{ℤ}
use Rattle.std.proofs.lemmas.Bool.{and_parts, cases_Bool, eq-eqb, eqb-true, leb-true, true≢false}
use Rattle.std.proofs.lemmas.Grind.{pow_more}
use Rattle.std.proofs.lemmas.List.{length_push}
use Rattle.std.proofs.lemmas.Option.{same_Some}
use Rattle.std.proofs.Math.Nat.{div-lt_iff_lt-mul}
use Rattle.lv_geometry.specs.Bounds.{Bounds}
use Rattle.lv_geometry.specs.Nodes.{covers}
use Rattle.lv_geometry.specs.declared.nodes.Node.{Node}
use Rattle.lv_geometry.specs.declared.refusals.Refusal.{Refusal}
use Rattle.lv_geometry.proofs.NodeLaws.{some_width}
use Rattle.lv_edits.specs.declared.edit.Edit.{Edit}
use Rattle.lv_edits.specs.declared.edit.Edit.TheVariants.{Push, Pop, Write, Reserve, Swap, Truncate}
use Rattle.lv_edits.specs.declared.receipt.Receipt.{Receipt}
use Rattle.lv_edits.specs.History.{applied, list_of, replayed}
use Rattle.lv_edits.specs.Touch.{is_whole, touches}
use Rattle.lv_edits.specs.Verdict.{Answers, receipt_of}
use Rattle.lv_edits.proofs.HistoryLaws.{accepted_is_possible, list_of-snoc}
use Rattle.lv_edits.proofs.TouchLaws.{touches_there, whole_below}
use Rattle.lv_refresh.specs.Claim.{wants_job}
use Rattle.lv_refresh.specs.Record.{Record, SameRecord}
use Rattle.lv_refresh.proofs.WantLaws.{wants_before_edit, wants_job-same, wants_parts}
use Rattle.lv_live.specs.State.{LiveState, SameRefresh, recorded}
use Rattle.lv_hub.specs.Renewing.{IsVector}
use Rattle.lv_hub.specs.Work.{makes_work}

-- an element that ends a node is the last of a block
ends_a_block : (i level above number : ℕ) → level ≡ above + 1 → i / 8 ^ level ≡ number → (number + 1) * 8 ^ level ≤ i + 1 → i % 8 ≡ 7
ends_a_block i level above number is at whole =
    let width : 8 ^ level ≡ 8 ^ above * 8 = ap (λ l. 8 ^ l) is ∙ pow_more 8 above in
    let inside : i < (number + 1) * 8 ^ level = (div-lt_iff_lt-mul {k = 8 ^ level} {x = i} {y = number + 1} (omega (arith, some_width level))).0 (omega (arith, at)) in
    let end : i + 1 ≡ (number + 1) * 8 ^ above * 8 = omega (arith, ap (λ w. (number + 1) * w) width) in
    omega (arith, end)

-- an update that makes no work touches no node that is full after it
touches_none_whole : (es : List Edit) (e : Edit) (ys : List ℤ) (n : Node) → replayed es ≡ Some (list_of es) → applied (list_of es) e ≡ Some ys → makes_work (Ok (receipt_of es e)) ≡ false → is_whole (es ++ e ∷ []) n ≡ true → touches (list_of es) e n ≡ false
touches_none_whole es (Push x) ys n legal possible no_work whole =
    elim (cases_Bool (covers n (length (list_of es)))) [
      | inl covered ↦
          let long : length (list_of (es ++ Push x ∷ [])) ≡ length (list_of es) + 1 = ap length ((list_of-snoc es (Push x) ys legal possible).1 ∙ sym (same_Some _ _ possible)) ∙ length_push (list_of es) x in
          let node : 1 ≤ n.level = leb-true 1 n.level (and_parts _ _ (and_parts _ _ whole).0).0 in
          let last : length (list_of es) % 8 ≡ 7 = ends_a_block (length (list_of es)) n.level (n.level - 1) n.number (omega arith) (eqb-true _ _ covered) (omega (arith, long, whole_below (es ++ Push x ∷ []) n whole)) in
          absurd (true≢false (sym (eq-eqb _ _ last) ∙ no_work))
      | inr apart ↦ touches_there (list_of es) (Push x) n (length (list_of es)) refl ∙ apart
    ]
touches_none_whole es Pop ys n legal possible no_work whole = refl
touches_none_whole es (Write i x) ys n legal possible no_work whole = absurd (true≢false no_work)
touches_none_whole es (Reserve k) ys n legal possible no_work whole = refl
touches_none_whole es (Swap i j) ys n legal possible no_work whole = absurd (true≢false no_work)
touches_none_whole es (Truncate k) ys n legal possible no_work whole = refl

-- no node needs a job if there is no full block
pub nothing_without_a_block : (r : Record) (n : Node) → length (list_of r.edits) < 8 → wants_job r n ≡ false
nothing_without_a_block r n few =
    elim (cases_Bool (wants_job r n)) [
      | inl wants ↦
          let w = wants_parts r n wants in
          let node : 1 ≤ n.level = leb-true 1 n.level (and_parts _ _ (and_parts _ _ w.whole).0).0 in
          let above : n.level - 1 + 1 ≡ n.level = omega arith in
          let width : 8 ^ n.level ≡ 8 ^ (n.level - 1) * 8 = ap (λ l. 8 ^ l) (sym above) ∙ pow_more 8 (n.level - 1) in
          let one : 8 ^ n.level ≤ (n.number + 1) * 8 ^ n.level = omega arith in
          absurd (omega (arith, width, one, some_width (n.level - 1), whole_below r.edits n w.whole, few))
      | inr idle ↦ idle
    ]

-- a node that needs a job after an update that makes no work needed one before
pub no_new_wants : {B S : Type 0} (limits : Bounds) (s t : LiveState B S) (e : Edit) (result : Result Receipt Refusal) → IsVector limits s.history → Answers s.history e result t.history → SameRefresh s t → makes_work result ≡ false → (n : Node) → wants_job (recorded t) n ≡ true → wants_job (recorded s) n ≡ true
no_new_wants limits s t e (Ok receipt) vector answers refresh no_work n wants =
    let able = accepted_is_possible s.history.limits s.history.journal e answers.verdict in
    let after : SameRecord (record (recorded s) { edits = s.history.journal ++ e ∷ [] }) (recorded t) = record { edits = ap (λ h. h.journal) answers.journal; issued = refl; claimed = refresh.claimed; kept = refresh.kept } in
    let whole : is_whole (s.history.journal ++ e ∷ []) n ≡ true = ap (λ edits. is_whole edits n) (sym after.edits) ∙ (wants_parts (recorded t) n wants).whole in
    let apart = touches_none_whole s.history.journal e able.0 n vector.within.legal able.1 (ap (λ r. makes_work (Ok r)) (sym answers.receipt_is) ∙ no_work) whole in
    wants_before_edit (recorded s) (recorded t) e able.0 vector.within.legal able.1 after n apart wants
no_new_wants limits s t e (Err refusal) vector answers refresh no_work n wants =
    let after : SameRecord (recorded s) (recorded t) = record { edits = ap (λ h. h.journal) answers.same; issued = refl; claimed = refresh.claimed; kept = refresh.kept } in
    sym (wants_job-same (recorded s) (recorded t) after n) ∙ wants
