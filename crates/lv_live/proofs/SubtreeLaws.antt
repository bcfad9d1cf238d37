-- What a live vector keeps when all summaries of a subtree are put in place at once.
use Rattle.std.proofs.Common.{◌≡◌, ◌⊎◌, ℕ, ◌+◌, ◌-◌, ◌*◌, ◌/◌, ◌^◌, ◌<◌, ◌≤◌, true, false, ◌&&◌, ◌||◌, not, Option, Some, IfSome, option_map, List, length, take, drop, nat_eq, nat_le, if◌then◌else◌, refl, subst, sym, ap, ◌∙◌, inl, inr, arith}
use Rattle.std.proofs.lemmas.Bool.{and_from, and_parts, cases_Bool, cond-false, cond-true, eq-eqb, eqb-false, eqb-true, le-leb, leb-true, or_left, or_right, true≢false}
use Rattle.std.proofs.lemmas.List.{drop-drop, drop-take, take-take}
use Rattle.std.proofs.lemmas.Option.{same_Some}
use Rattle.lv_geometry.specs.declared.nodes.Node.{Node}
use Rattle.lv_geometry.specs.Nodes.{child, is_below, is_node, parent, same_node}
use Rattle.lv_geometry.proofs.NodeLaws.{at_each_level, level_of_node}
use Rattle.lv_bodies.specs.Body.{Operations, fold_of}
use Rattle.lv_edits.specs.declared.edit.Edit.{Edit}
use Rattle.lv_edits.specs.History.{list_of}
use Rattle.lv_edits.specs.Touch.{elements_under, is_whole, touched_by}
use Rattle.lv_edits.proofs.TouchLaws.{touched_by-le}
use Rattle.lv_summary.specs.Table.{Table, entry_in, fresh_in, has_version, kept_in, touched_in, whole_in}
use Rattle.lv_summary.proofs.TableLaws.{entry_stays, whole_in-size}
use Rattle.lv_summary.specs.Agrees.{Agrees}
use Rattle.lv_refresh.specs.Claim.{children_fresh, wants_job}
use Rattle.lv_refresh.specs.ClaimTable.{ClaimTable, claim_blocks, claimed_in, is_hinted, record_of}
use Rattle.lv_refresh.specs.Inner.{node_at}
use Rattle.lv_refresh.specs.Record.{Record, is_fresh, is_version}
use Rattle.lv_refresh.specs.Subtrees.{Copied, IsInside, KeepsSubtree, copied_under, is_block_of, is_in_subtree}
use Rattle.lv_refresh.proofs.WantLaws.{children_fresh-mono, is_fresh-same, wants_from, wants_parts}
use Rattle.lv_live.specs.Kept.{IsLive}
use Rattle.lv_live.specs.State.{LiveState, Remembers, recorded}
use Rattle.lv_live.specs.Subtrees.{HasSubtree, Takes}

-- the place of a node of a subtree among the subtree's elements
record Span (level k number : ℕ) : Type 0 where
  low : 4096 * number ≤ k * 8 ^ level
  high : k * 8 ^ level + 8 ^ level ≤ 4096 * number + 4096

span_at : (level k number : ℕ) → 1 ≤ level → level ≤ 4 → k * 8 ^ level / 4096 ≡ number → Span level k number
span_at level k number low high is =
    at_each_level (λ level. level ≤ 4 → k * 8 ^ level / 4096 ≡ number → Span level k number)
    (λ few is. record { low = omega arith; high = omega arith })
    (λ few is. record { low = omega arith; high = omega arith })
    (λ few is. record { low = omega arith; high = omega arith })
    (λ few is. record { low = omega arith; high = omega arith })
    (λ few is. absurd (omega arith))
    (λ few is. absurd (omega arith))
    level low (omega arith) high is

-- the parts of what makes a node one of a subtree
record Inside (number : ℕ) (n : Node) : Type 0 where
  node : is_node n ≡ true
  high : n.level ≤ 4
  span : Span n.level n.number number

inside_of : (number : ℕ) (n : Node) → is_in_subtree number n ≡ true → Inside number n
inside_of number n is =
    let first = and_parts (is_node n && nat_le n.level 4) _ is in
    let second = and_parts (is_node n) (nat_le n.level 4) first.0 in
    let levels = level_of_node n second.0 in
    let high : n.level ≤ 4 = leb-true n.level 4 second.1 in
    record { node = second.0; high = high; span = span_at n.level n.number number levels.0 high (eqb-true (n.number * 8 ^ n.level / 4096) number first.1) }

-- a node of a subtree that is inside a size is below it
inside_below : (number size : ℕ) (n : Node) → IsInside number size → is_in_subtree number n ≡ true → is_below n size ≡ true
inside_below number size n inside is =
    let i = inside_of number n is in
    let wide : (n.number + 1) * 8 ^ n.level ≡ n.number * 8 ^ n.level + 8 ^ n.level = omega arith in
    le-leb ((n.number + 1) * 8 ^ n.level) size (omega (arith, wide, i.span.high, inside))

-- so it is whole, if the subtree is
pub whole_inside : (es : List Edit) (number : ℕ) (n : Node) → IsInside number (length (list_of es)) → is_in_subtree number n ≡ true → is_whole es n ≡ true
whole_inside es number n inside is = and_from _ _ (inside_of number n is).node (inside_below number (length (list_of es)) n inside is)

-- the elements of a node, out of those of the subtree that has it
copied_elements : {B : Type 0} (es : List Edit) (copied : Copied B) (n : Node) → copied.elements ≡ elements_under es (node_at 4 copied.number) → is_in_subtree copied.number n ≡ true → copied_under copied n ≡ elements_under es n
copied_elements es copied n elements is =
    let i = inside_of copied.number n is in
    let xs = list_of es in
    let width = 8 ^ n.level in
    let first = n.number * width in
    let from = first - 4096 * copied.number in
    let ys = drop (copied.number * 4096) xs in
    let whole : 4096 ≡ from + (4096 - from) = omega (arith, i.span.low, i.span.high) in
    let many : from + width - from ≡ width = omega arith in
    let place : copied.number * 4096 + from ≡ first = omega (arith, i.span.low) in
    ap (λ all. take (from + width - from) (drop from all)) elements
    ∙ ap (λ m. take m (drop from (take 4096 ys))) many
    ∙ ap (λ m. take width (drop from (take m ys))) whole
    ∙ ap (take width) (drop-take from (4096 - from) ys)
    ∙ take-take width (4096 - from) (drop from ys) (omega (arith, i.span.low, i.span.high))
    ∙ ap (take width) (drop-drop from (copied.number * 4096) xs ∙ ap (λ at. drop at xs) place)

-- a node that has a node of a subtree as a child is one of the subtree, or the one above it
child_outside : (number : ℕ) (n : Node) (k : ℕ) → is_node n ≡ true → 1 < n.level → k < 8 → is_in_subtree number n ≡ false → same_node n (parent (node_at 4 number)) ≡ false → is_in_subtree number (child n k) ≡ false
child_outside number n k node above small out apart =
    elim (cases_Bool (is_in_subtree number (child n k))) [
      | inr out_too ↦ out_too
      | inl is ↦
          let first = and_parts (is_node (child n k) && nat_le (child n k).level 4) _ is in
          let second = and_parts (is_node (child n k)) (nat_le (child n k).level 4) first.0 in
          let low : n.level - 1 ≤ 4 = leb-true (n.level - 1) 4 second.1 in
          let covered : (8 * n.number + k) * 8 ^ (n.level - 1) / 4096 ≡ number = eqb-true _ _ first.1 in
          absurd (parted n.level n.number k above low small covered (λ high covers. true≢false (sym (and_from _ _ (and_from _ _ node (le-leb n.level 4 high)) (eq-eqb _ _ covers)) ∙ out))
          (λ level covers. true≢false (sym (and_from _ _ (eq-eqb n.level 5 level) (eq-eqb n.number (number / 8) covers)) ∙ apart)))
    ]
  where
    parted : (level at k : ℕ) → 1 < level → level - 1 ≤ 4 → k < 8 → (8 * at + k) * 8 ^ (level - 1) / 4096 ≡ number → (level ≤ 4 → at * 8 ^ level / 4096 ≡ number → ⊥) → (level ≡ 5 → at ≡ number / 8 → ⊥) → ⊥
    parted level at k above low small covered in_it over_it =
        at_each_level (λ level. 1 < level → level - 1 ≤ 4 → (8 * at + k) * 8 ^ (level - 1) / 4096 ≡ number → (level ≤ 4 → at * 8 ^ level / 4096 ≡ number → ⊥) → (level ≡ 5 → at ≡ number / 8 → ⊥) → ⊥)
        (λ above low covered in_it over_it. omega arith)
        (λ above low covered in_it over_it. in_it (omega arith) (omega arith))
        (λ above low covered in_it over_it. in_it (omega arith) (omega arith))
        (λ above low covered in_it over_it. in_it (omega arith) (omega arith))
        (λ above low covered in_it over_it. over_it refl (omega arith))
        (λ above low covered in_it over_it. omega arith)
        level (omega arith) (omega arith) above low covered in_it over_it

-- a block of a subtree is one of its nodes
block_inside : (number : ℕ) (n : Node) → is_block_of number n ≡ true → is_in_subtree number n ≡ true
block_inside number n is =
    let parts = and_parts (nat_eq n.level 1) (nat_eq (n.number / 512) number) is in
    let level : n.level ≡ 1 = eqb-true n.level 1 parts.0 in
    let at : n.number / 512 ≡ number = eqb-true (n.number / 512) number parts.1 in
    let covers : n.number * 8 ^ 1 / 4096 ≡ number = omega arith in
    and_from _ _ (and_from _ _ (and_from _ _ (le-leb 1 n.level (omega arith)) (le-leb n.level 6 (omega arith))) (le-leb n.level 4 (omega arith)))
    (eq-eqb (n.number * 8 ^ n.level / 4096) number (ap (λ l. n.number * 8 ^ l / 4096) level ∙ covers))

module _ {B S : Type 0} (o : Operations S) (es : List Edit) (old new : Table S) (copied : Copied B) (keeps : KeepsSubtree o old new copied) (inside : IsInside copied.number old.size) where
  -- a node of the subtree is fresh
  fresh_inside : (n : Node) → is_in_subtree copied.number n ≡ true → fresh_in new n ≡ true
  fresh_inside n is =
      let whole : whole_in new n ≡ true = and_from _ _ (inside_of copied.number n is).node (ap (is_below n) keeps.size ∙ inside_below copied.number old.size n inside is) in
      and_from _ _ whole (ap (λ kept. has_version (touched_in new n) kept) (keeps.kept n is) ∙ eq-eqb (touched_in old n) (touched_in new n) (sym (keeps.touched n)))

  -- and its summary is the fold of what was copied
  entry_inside : (n : Node) → is_in_subtree copied.number n ≡ true → entry_in new n ≡ Some (fold_of o (copied_under copied n))
  entry_inside n is =
      cond-true (fresh_in new n) _ _ (fresh_inside n is) ∙ ap (option_map (λ kept. kept.1)) (keeps.kept n is)

  -- any other node is as before
  stays_outside : (n : Node) → is_in_subtree copied.number n ≡ false → (fresh_in new n ≡ fresh_in old n) × (entry_in new n ≡ entry_in old n)
  stays_outside n out = entry_stays old new n (whole_in-size old new keeps.size n) (keeps.touched n) (keeps.others_kept n out)

  -- what was fresh stays fresh
  pub fresh_after_subtree : (n : Node) → fresh_in old n ≡ true → fresh_in new n ≡ true
  fresh_after_subtree n fresh =
      elim (cases_Bool (is_in_subtree copied.number n)) [
        | inl is ↦ fresh_inside n is
        | inr out ↦ (stays_outside n out).0 ∙ fresh
      ]

  -- the versions that are kept
  pub versions_after : Agrees o es old → (n : Node) → option_map (λ kept. kept.0) (kept_in new n) ≡ (if is_in_subtree copied.number n then Some (touched_by es n) else option_map (λ kept. kept.0) (kept_in old n))
  versions_after agrees n =
      elim (cases_Bool (is_in_subtree copied.number n)) [
        | inl is ↦ ap (option_map (λ kept. kept.0)) (keeps.kept n is) ∙ ap Some (agrees.touched n (inside_of copied.number n is).node) ∙ sym (cond-true (is_in_subtree copied.number n) _ _ is)
        | inr out ↦ ap (option_map (λ kept. kept.0)) (keeps.others_kept n out) ∙ sym (cond-false (is_in_subtree copied.number n) _ _ out)
      ]

  -- the table agrees with the journal still
  pub agrees_subtree : Agrees o es old → copied.elements ≡ elements_under es (node_at 4 copied.number) → Agrees o es new
  agrees_subtree agrees elements =
      record {
        size = keeps.size ∙ agrees.size;
        touched = λ n node. keeps.touched n ∙ agrees.touched n node;
        versions = λ n version s is. elim (cases_Bool (is_in_subtree copied.number n)) [
          | inl in_it ↦
              let now : (touched_in old n, fold_of o (copied_under copied n)) ≡ (version, s) = same_Some _ _ (sym (keeps.kept n in_it) ∙ is) in
              omega (arith, ap (λ (kept : ℕ × S). kept.0) now, agrees.touched n (inside_of copied.number n in_it).node, touched_by-le es n)
          | inr out ↦ agrees.versions n version s (sym (keeps.others_kept n out) ∙ is)
        ];
        folds = λ n s is. elim (cases_Bool (is_in_subtree copied.number n)) [
          | inl in_it ↦ same_Some _ _ (sym is ∙ entry_inside n in_it) ∙ ap (fold_of o) (copied_elements es copied n elements in_it)
          | inr out ↦ agrees.folds n s (sym (stays_outside n out).1 ∙ is)
        ];
      }

-- which nodes may begin to want a job
module _ (r next : Record) (number : ℕ) (edits : next.edits ≡ r.edits) (claimed : (n : Node) → next.claimed n ≡ r.claimed n)
    (kept : (n : Node) → next.kept n ≡ (if is_in_subtree number n then Some (touched_by r.edits n) else r.kept n)) (whole : IsInside number (length (list_of r.edits))) where
  -- a node of the subtree is fresh
  fresh_in_it : (n : Node) → is_in_subtree number n ≡ true → is_fresh next n ≡ true
  fresh_in_it n is =
      and_from (is_whole next.edits n) (is_version (touched_by next.edits n) (next.kept n))
      (ap (λ es. is_whole es n) edits ∙ whole_inside r.edits number n whole is)
      (ap (is_version (touched_by next.edits n)) (kept n ∙ cond-true (is_in_subtree number n) _ _ is) ∙ eq-eqb (touched_by r.edits n) (touched_by next.edits n) (sym (ap (λ es. touched_by es n) edits)))

  -- any other is as fresh as before
  fresh_out_of_it : (n : Node) → is_in_subtree number n ≡ false → is_fresh next n ≡ is_fresh r n
  fresh_out_of_it n out =
      is_fresh-same r next n (ap (λ es. is_whole es n) edits) (ap (λ es. touched_by es n) edits) (kept n ∙ cond-false (is_in_subtree number n) _ _ out)

  -- only the node above may begin to want one, and no node of the subtree wants any
  wants_before_subtree : (n : Node) → wants_job next n ≡ true → (is_in_subtree number n ≡ false) × ((wants_job r n ≡ true) ⊎ (same_node n (parent (node_at 4 number)) ≡ true))
  wants_before_subtree n wants =
      let w = wants_parts next n wants in
      let out : is_in_subtree number n ≡ false = elim (cases_Bool (is_in_subtree number n)) [
        | inl is ↦ absurd (true≢false (sym (fresh_in_it n is) ∙ w.stale))
        | inr out ↦ out
      ] in (
        out,
        elim (cases_Bool (same_node n (parent (node_at 4 number)))) [
          | inl above ↦ inr above
          | inr apart ↦ inl (wants_from r n record {
            whole = ap (λ es. is_whole es n) (sym edits) ∙ w.whole;
            stale = sym (fresh_out_of_it n out) ∙ w.stale;
            unclaimed = ap (is_version (touched_by r.edits n)) (sym (claimed n)) ∙ ap (λ es. is_version (touched_by es n) (next.claimed n)) (sym edits) ∙ w.unclaimed;
            children = elim (cases_Bool (nat_eq n.level 1)) [
              | inl low ↦ or_left _ _ low
              | inr high ↦
                  let node = (and_parts _ _ w.whole).0 in
                  let above : 1 < n.level = omega (arith, (level_of_node n node).0, eqb-false n.level 1 high) in
                  let fresh : children_fresh next n ≡ true = ap (λ low. low || children_fresh next n) (sym high) ∙ w.children in
                  or_right (nat_eq n.level 1) _ (children_fresh-mono next r n (λ k small is. sym (fresh_out_of_it (child n k) (child_outside number n k node above small out apart)) ∙ is) fresh)
            ];
          })
        ],
      )

-- claims that passed over a subtree
pub record PassesSubtree (old new : ClaimTable) (number : ℕ) : Type 0 where
  pub claimed : (n : Node) → claimed_in new n ≡ claimed_in old n
  pub hints : (n : Node) → is_hinted new n ≡ (same_node n (parent (node_at 4 number)) || (not (is_block_of number n) && is_hinted old n))
  pub blocks : claim_blocks new ≡ claim_blocks old

module _ {B S : Type 0} (o : Operations S) (s : LiveState B S) (t : Table S) (c : ClaimTable) (copied : Copied B) (live : IsLive o s)
    (keeps : KeepsSubtree o s.table t copied) (passes : PassesSubtree s.claims c copied.number) (whole : IsInside copied.number s.table.size) where
  -- the vector has the subtree, and nothing else has changed
  pub has_subtree : HasSubtree s (record s { table = t; claims = c }) copied.number
  has_subtree =
      record { body = refl; history = refl; claimed = passes.claimed; kept = versions_after o s.history.journal s.table t copied keeps whole live.agrees }

  -- all is kept
  pub live_after_subtree : copied.elements ≡ elements_under s.history.journal (node_at 4 copied.number) → IsLive o (record s { table = t; claims = c })
  live_after_subtree elements =
      let inside : IsInside copied.number (length (list_of s.history.journal)) = omega (arith, whole, live.agrees.size) in
      record {
        limits = live.limits;
        agrees = agrees_subtree o s.history.journal s.table t copied keeps whole live.agrees elements;
        hints = λ n wants.
            let before = wants_before_subtree (recorded s) (record_of s.history.journal t c) copied.number refl passes.claimed (versions_after o s.history.journal s.table t copied keeps whole live.agrees) inside n wants in
            passes.hints n ∙ elim before.1 [
              | inr above ↦ or_left _ _ above
              | inl was ↦ or_right _ _ (and_from _ _ (ap not (not_a_block n before.0)) (live.hints n was))
            ];
        grown = omega (arith, live.grown, keeps.size, passes.blocks);
      }
    where
      not_a_block : (n : Node) → is_in_subtree copied.number n ≡ false → is_block_of copied.number n ≡ false
      not_a_block n out = elim (cases_Bool (is_block_of copied.number n)) [
        | inl block ↦ absurd (true≢false (sym (block_inside copied.number n block) ∙ out))
        | inr other ↦ other
      ]

  -- and what was fresh is remembered
  pub remembers_subtree : Remembers s (record s { table = t; claims = c })
  remembers_subtree n fresh still same = fresh_after_subtree o s.history.journal s.table t copied keeps whole n fresh

-- an outcome that may be taken in was installed, and the claims passed over its subtree
module _ {B S : Type 0} (o : Operations S) (by : B → Operations S) (same : B → Type 0) (decided : (body : B) → same body → o ≡ by body) (s : LiveState B S) (live : IsLive o s) (t : Table S) (c : ClaimTable) (outcome : Option (Copied B)) (number : ℕ)
    (takes : Takes same s.history.journal outcome number) (kept : IfSome outcome (λ copied. KeepsSubtree (by copied.body) s.table t copied)) (passed : PassesSubtree s.claims c number) where
  keeps : KeepsSubtree o s.table t takes.copied
  keeps =
      subst (λ o. KeepsSubtree o s.table t takes.copied) (sym (decided takes.copied.body takes.stands.body))
      (subst (λ outcome. IfSome outcome (λ copied. KeepsSubtree (by copied.body) s.table t copied)) takes.outcome_is kept)

  passes : PassesSubtree s.claims c takes.copied.number
  passes = subst (PassesSubtree s.claims c) (sym takes.number_is) passed

  whole : IsInside takes.copied.number s.table.size
  whole =
      let top = node_at 4 takes.copied.number in
      let size = length (list_of s.history.journal) in
      let below : (takes.copied.number + 1) * 4096 ≤ size = leb-true ((takes.copied.number + 1) * 8 ^ 4) size (and_parts (is_node top) (is_below top size) takes.stands.whole).1 in
      omega (arith, below, live.agrees.size)

  -- all is kept
  pub taken_live : IsLive o (record s { table = t; claims = c })
  taken_live = live_after_subtree o s t c takes.copied live keeps passes whole takes.stands.elements

  -- the vector has the subtree
  pub taken_has : IfSome outcome (λ copied. HasSubtree s (record s { table = t; claims = c }) copied.number)
  taken_has =
      subst (λ outcome. IfSome outcome (λ copied. HasSubtree s (record s { table = t; claims = c }) copied.number)) (sym takes.outcome_is)
      (has_subtree o s t c takes.copied live keeps passes whole)

  -- what was fresh is remembered
  pub taken_remembers : Remembers s (record s { table = t; claims = c })
  taken_remembers = remembers_subtree o s t c takes.copied live keeps passes whole
