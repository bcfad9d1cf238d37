-- What a table is once the summaries of a subtree were kept, level by level.
use Rattle.std.proofs.Common.{◌≡◌, ◌≢◌, ◌⊎◌, ℕ, ◌+◌, ◌-◌, ◌*◌, ◌/◌, ◌^◌, ◌<◌, ◌≤◌, true, false, ◌&&◌, Some, List, length, nat_eq, nat_le, nat_lt, refl, sym, ap, subst, ◌∙◌, inl, inr, arith}
use Rattle.std.specs.Prelude.{slice_range}
use Rattle.std.proofs.lemmas.Bool.{and_from, and_parts, cases_eq, eq-eqb, eqb-true, false_from_ne_true, false≢true, le-leb, leb-true, ltb-true}
use Rattle.lv_geometry.specs.declared.nodes.Node.{Node}
use Rattle.lv_geometry.specs.Nodes.{covers, first_index, is_node}
use Rattle.lv_geometry.proofs.NodeLaws.{level_of_node, node_of_level}
use Rattle.lv_bodies.specs.Body.{Operations, fold_of}
use Rattle.lv_summary.specs.Changes.{KeepsRun, is_in_run}
use Rattle.lv_summary.specs.Table.{Table, blocks_in, kept_in, touched_in}
use Rattle.lv_refresh.specs.Inner.{node_at}
use Rattle.lv_refresh.specs.Subtrees.{AreFolds, Copied, KeepsSubtree, copied_under, is_in_subtree}

-- a level whose nodes have so many elements, so many of them in a subtree: which of them are in it, and where their elements are
pub record Fits (width count : ℕ) : Type 0 where
  pub low : (k number : ℕ) → k * width / 4096 ≡ number → count * number ≤ k
  pub high : (k number : ℕ) → k * width / 4096 ≡ number → k < count * number + count
  pub there : (k number : ℕ) → count * number ≤ k → k < count * number + count → k * width / 4096 ≡ number
  pub place : (k number : ℕ) → (count * number + k) * width - 4096 * number ≡ width * k
  pub all : (many : ℕ) → many * width ≡ 4096 → many ≡ count

-- the four levels of a subtree
pub blocks_fit : Fits 8 512
blocks_fit = record { low = λ k number is. omega (arith, is); high = λ k number is. omega (arith, is); there = λ k number low high. omega (arith, low, high); place = λ k number. omega arith; all = λ many is. omega (arith, is) }

pub level_2_fits : Fits 64 64
level_2_fits = record { low = λ k number is. omega (arith, is); high = λ k number is. omega (arith, is); there = λ k number low high. omega (arith, low, high); place = λ k number. omega arith; all = λ many is. omega (arith, is) }

pub level_3_fits : Fits 512 8
level_3_fits = record { low = λ k number is. omega (arith, is); high = λ k number is. omega (arith, is); there = λ k number low high. omega (arith, low, high); place = λ k number. omega arith; all = λ many is. omega (arith, is) }

pub level_4_fits : Fits 4096 1
level_4_fits = record { low = λ k number is. omega (arith, is); high = λ k number is. omega (arith, is); there = λ k number low high. omega (arith, low, high); place = λ k number. omega arith; all = λ many is. omega (arith, is) }

-- the summaries of the nodes of a subtree on the levels so far were kept, and nothing else has changed
pub record KeepsUpTo {B S : Type 0} (o : Operations S) (old new : Table S) (copied : Copied B) (top : ℕ) : Type 0 where
  pub size : new.size ≡ old.size
  pub blocks : blocks_in new ≡ blocks_in old
  pub touched : (n : Node) → touched_in new n ≡ touched_in old n
  pub kept : (n : Node) → n.level ≤ top → is_in_subtree copied.number n ≡ true → kept_in new n ≡ Some (touched_in old n, fold_of o (copied_under copied n))
  pub others_kept : (n : Node) → (top < n.level) ⊎ (is_in_subtree copied.number n ≡ false) → kept_in new n ≡ kept_in old n

module _ {B S : Type 0} (o : Operations S) (copied : Copied B) where
  -- none yet
  pub keeps_none : (t : Table S) → KeepsUpTo o t t copied 0
  keeps_none t = record {
    size = refl;
    blocks = refl;
    touched = λ n. refl;
    kept = λ n low inside. absurd (omega (arith, low, (level_of_node n (and_parts (is_node n) (nat_le n.level 4) (and_parts _ _ inside).0).0).0));
    others_kept = λ n other. refl;
  }

  -- once all four levels are kept the subtree is
  pub keeps_subtree : (old new : Table S) → KeepsUpTo o old new copied 4 → KeepsSubtree o old new copied
  keeps_subtree old new keeps = record {
    size = keeps.size;
    blocks = keeps.blocks;
    touched = keeps.touched;
    kept = λ n inside. keeps.kept n (leb-true n.level 4 (and_parts (is_node n) (nat_le n.level 4) (and_parts _ _ inside).0).1) inside;
    others_kept = λ n other. keeps.others_kept n (inr other);
  }

  module _ (level width count : ℕ) (low : 1 ≤ level) (high : level ≤ 4) (wide : 8 ^ level ≡ width) (fits : Fits width count) (mid new : Table S) (summaries : List S) (many : length copied.elements ≡ 4096) (folds : AreFolds o copied.elements width summaries)
      (run : KeepsRun mid new level (count * copied.number) summaries) where
    -- the first node of the run
    abbrev first : ℕ
    first = count * copied.number

    -- there is a summary for each node of the subtree on the level
    all_there : length summaries ≡ count
    all_there = fits.all (length summaries) (folds.many ∙ many)

    -- a node of the level has its place in the run
    in_place : (n : Node) → n.level ≡ level → first ≤ n.number → n ≡ node_at level (first + (n.number - first))
    in_place n at from =
        let number : n.number ≡ first + (n.number - first) = omega arith in
        ap (λ level. node_at level n.number) at ∙ ap (node_at level) number

    -- the elements of a node of the run are those of its summary
    elements_there : (k : ℕ) → slice_range copied.elements (width * k) (width * k + width) ≡ copied_under copied (node_at level (first + k))
    elements_there k =
        ap (λ from. slice_range copied.elements from (from + width)) (sym (fits.place k copied.number))
        ∙ ap (λ width. slice_range copied.elements ((first + k) * width - 4096 * copied.number) ((first + k) * width - 4096 * copied.number + width)) (sym wide)

    -- a node of the run is of the level, and from the first on
    of_run : (n : Node) → is_in_run level first (length summaries) n ≡ true → (n.level ≡ level) × (first ≤ n.number) × (n.number < first + count)
    of_run n is =
        let parts = and_parts (nat_eq n.level level && nat_le first n.number) (nat_lt n.number (first + length summaries)) is in
        let start = and_parts (nat_eq n.level level) (nat_le first n.number) parts.0 in (
          eqb-true n.level level start.0,
          leb-true first n.number start.1,
          omega (arith, ltb-true n.number (first + length summaries) parts.1, all_there),
        )

    -- so it is one of the subtree
    in_subtree : (n : Node) → is_in_run level first (length summaries) n ≡ true → is_in_subtree copied.number n ≡ true
    in_subtree n is =
        let where_is = of_run n is in
        let member : is_node n ≡ true = node_of_level n (omega (arith, where_is.0)) (omega (arith, where_is.0)) in
        let there : covers (node_at 4 copied.number) (first_index n) ≡ true = eq-eqb (n.number * 8 ^ n.level / 4096) copied.number (ap (λ level. n.number * 8 ^ level / 4096) where_is.0 ∙ ap (λ width. n.number * width / 4096) wide ∙ fits.there n.number copied.number where_is.1 where_is.2) in
        and_from _ _ (and_from _ _ member (le-leb n.level 4 (omega (arith, where_is.0)))) there

    -- nodes of other levels, and those outside of the subtree, aren't of the run
    not_of_run : (n : Node) → (n.level ≢ level) ⊎ (is_in_subtree copied.number n ≡ false) → is_in_run level first (length summaries) n ≡ false
    not_of_run n (inl other) = false_from_ne_true _ (λ is. other (of_run n is).0)
    not_of_run n (inr outside) = false_from_ne_true _ (λ is. false≢true (sym outside ∙ in_subtree n is))

    -- what is kept for a node of the subtree on the level
    kept_there : (n : Node) → n.level ≡ level → is_in_subtree copied.number n ≡ true → kept_in new n ≡ Some (touched_in mid n, fold_of o (copied_under copied n))
    kept_there n at inside =
        let place : n.number * width / 4096 ≡ copied.number = ap (λ width. n.number * width / 4096) (sym wide) ∙ ap (λ level. n.number * 8 ^ level / 4096) (sym at) ∙ eqb-true (n.number * 8 ^ n.level / 4096) copied.number (and_parts (is_node n && nat_le n.level 4) (covers (node_at 4 copied.number) (first_index n)) inside).1 in
        let from : first ≤ n.number = fits.low n.number copied.number place in
        let to : n.number < first + count = fits.high n.number copied.number place in
        let k = n.number - first in
        let node = node_at level (first + k) in
        let s = fold_of o (slice_range copied.elements (width * k) (width * k + width)) in
        subst (λ n. kept_in new n ≡ Some (touched_in mid n, fold_of o (copied_under copied n))) (sym (in_place n at from)) (
        run.kept k s (folds.folds k (omega (arith, from, to, all_there))) ∙ ap (λ part. Some (touched_in mid node, fold_of o part)) (elements_there k))

    -- so the levels up to this one are kept
    pub keeps_level : (old : Table S) (below : ℕ) → level ≡ below + 1 → KeepsUpTo o old mid copied below → KeepsUpTo o old new copied level
    keeps_level old below next keeps =
        record {
          size = run.size ∙ keeps.size;
          blocks = run.blocks ∙ keeps.blocks;
          touched = λ n. run.touched n ∙ keeps.touched n;
          kept = λ n most inside. elim (cases_eq n.level level) [
            | inl at ↦ kept_there n at inside ∙ ap (λ edit. Some (edit, fold_of o (copied_under copied n))) (keeps.touched n)
            | inr other ↦ run.others_kept n (not_of_run n (inl other)) ∙ keeps.kept n (omega arith) inside
          ];
          others_kept = λ n other. elim other [
            | inl above ↦ run.others_kept n (not_of_run n (inl (omega arith))) ∙ keeps.others_kept n (inl (omega arith))
            | inr outside ↦ run.others_kept n (not_of_run n (inr outside)) ∙ keeps.others_kept n (inr outside)
          ];
        }

-- the four levels of a subtree were kept, one after another
pub subtree_kept : {B S : Type 0} (o : Operations S) (copied : Copied B) (number : ℕ) (old first second third last : Table S) (blocks level_2 level_3 level_4 : List S) → number ≡ copied.number → length copied.elements ≡ 4096
    → AreFolds o copied.elements 8 blocks → AreFolds o copied.elements 64 level_2 → AreFolds o copied.elements 512 level_3 → AreFolds o copied.elements 4096 level_4
    → KeepsRun old first 1 (512 * number) blocks → KeepsRun first second 2 (64 * number) level_2 → KeepsRun second third 3 (8 * number) level_3 → KeepsRun third last 4 number level_4
    → KeepsSubtree o old last copied
subtree_kept o copied number old first second third last blocks level_2 level_3 level_4 is many a b c d r s t u =
    let one : number ≡ 1 * copied.number = is ∙ omega arith in
    let r_there = subst (λ number. KeepsRun old first 1 (512 * number) blocks) is r in
    let s_there = subst (λ number. KeepsRun first second 2 (64 * number) level_2) is s in
    let t_there = subst (λ number. KeepsRun second third 3 (8 * number) level_3) is t in
    let u_there = subst (λ number. KeepsRun third last 4 number level_4) one u in
    let upto_1 = keeps_level o copied 1 8 512 (omega arith) (omega arith) refl blocks_fit old first blocks many a r_there old 0 refl (keeps_none o copied old) in
    let upto_2 = keeps_level o copied 2 64 64 (omega arith) (omega arith) refl level_2_fits first second level_2 many b s_there old 1 refl upto_1 in
    let upto_3 = keeps_level o copied 3 512 8 (omega arith) (omega arith) refl level_3_fits second third level_3 many c t_there old 2 refl upto_2 in
    keeps_subtree o copied old last (keeps_level o copied 4 4096 1 (omega arith) (omega arith) refl level_4_fits third last level_4 many d u_there old 3 refl upto_3)
