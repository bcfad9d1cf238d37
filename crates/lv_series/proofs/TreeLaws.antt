-- The trees of all kinds after the elements have changed: what holds of one of them holds of each.
use Rattle.std.proofs.Common.{◌≡◌, ℕ, ℤ, ◌+◌, ◌-◌, ◌*◌, ◌/◌, ◌%◌, ◌<◌, ◌≤◌, Bool, if◌then◌else◌, List, [], ◌∷◌, ◌++◌, length, take, drop, slice_set, refl, sym, ap, ◌∙◌, subst, arith}
use Rattle.lv_bodies.specs.AffineMaps.{affine_operations}
use Rattle.lv_bodies.specs.Automata.{table_of}
use Rattle.lv_bodies.specs.Body.{Operations, fold_of}
use Rattle.lv_bodies.specs.Extremes.{highest_operations, lowest_operations}
use Rattle.lv_bodies.specs.RunTotals.{runs_operations}
use Rattle.lv_bodies.specs.Sums.{sum_operations}
use Rattle.lv_bodies.specs.Tables.{automaton_operations}
use Rattle.lv_bodies.specs.declared.affine.Affine.{Affine}
use Rattle.lv_bodies.specs.declared.affine.AffineMap.{AffineMap}
use Rattle.lv_bodies.specs.declared.automata.Automaton.{Automaton}
use Rattle.lv_bodies.specs.declared.bare.BareExtreme.{BareExtreme}
use Rattle.lv_bodies.specs.declared.best.RunTotals.{RunTotals}
use Rattle.lv_bodies.specs.declared.orders.Downward.{Downward}
use Rattle.lv_bodies.specs.declared.orders.Upward.{Upward}
use Rattle.lv_bodies.specs.declared.runs.Runs.{Runs}
use Rattle.lv_bodies.specs.declared.sums.Sum.{Sum}
use Rattle.lv_series.specs.Blocks.{CanGrow, CanRenew, CoversBlocks, IsOver, IsWindow, Layered}
use Rattle.lv_series.specs.Plain.{KeptKinds}
use Rattle.lv_series.specs.Trees.{AreOver, CanGrowAll, CanRenewAll, Change, KeepsKinds, Law, OfEach, TreesState, before_blocks, each, from_blocks, grown_in, table_in, taken_back, with_leaves, with_leaves_at}
use Rattle.lv_series.specs.declared.trees.Grown.{Grown}
use Rattle.lv_tree.specs.Parts.{run_of}
use Rattle.lv_series.proofs.BlockLaws.{covers_beside, covers_cut, covers_expired, covers_more, covers_pushed, covers_written, takes_leaf, takes_leaf_at}
use Rattle.lv_series.proofs.LayerLaws.{is_back, over_if, same_if}

-- the last block as the program takes it
pub last_block : (ys zs : List ℤ) (len : ℕ) → zs ≡ ys → len ≡ length ys → length ys % 8 ≡ 0 → 0 < length ys → run_of zs (len - 8) (len - (len - 8)) ≡ run_of ys (length ys - 8) 8
last_block ys zs len same size full some =
    let count : len - (len - 8) ≡ 8 = omega (arith, size, full, some) in
    ap (λ l. run_of l (len - 8) (len - (len - 8))) same ∙ ap (run_of ys (len - 8)) count ∙ ap (λ k. run_of ys (k - 8) 8) size

-- all six kinds
abbrev kinds_of : Bool → Bool → Bool → Bool → Bool → Bool → KeptKinds
kinds_of a b c d e f = record { sum = a; least = b; greatest = c; best = d; affine = e; automaton = f }

kinds_are : (a b c d e f u v w x y z : Bool) → a ≡ u → b ≡ v → c ≡ w → d ≡ x → e ≡ y → f ≡ z → kinds_of a b c d e f ≡ kinds_of u v w x y z
kinds_are a b c d e f u v w x y z p q r s t l = cc (p, q, r, s, t, l)

-- a change that keeps which trees are kept, and by which body
abbrev Keeps : Change → Type 1
Keeps f = (B S : Type 0) (o : Operations S) (l : Layered B S) → ((f B S o l).kept ≡ l.kept) × ((f B S o l).body ≡ l.body)

-- keeps the kinds of all
keeps_each : (f : Change) → Keeps f → (t : TreesState) → KeepsKinds t (each f t)
keeps_each f keeps t = record {
  table = ap table_of (keeps Automaton (List ℕ) (automaton_operations (table_in t)) t.states).1;
  kinds = kinds_are _ _ _ _ _ _ _ _ _ _ _ _
      (keeps Sum ℕ sum_operations t.sums).0
      (keeps (BareExtreme Upward) ℤ lowest_operations t.least).0
      (keeps (BareExtreme Downward) ℤ highest_operations t.greatest).0
      (keeps Runs RunTotals runs_operations t.best).0
      (keeps Affine AffineMap affine_operations t.maps).0
      (keeps Automaton (List ℕ) (automaton_operations (table_in t)) t.states).0;
}

-- what holds of each tree after it, if something held of each before
holds_each : (P Q : Law) (f : Change) → Keeps f → ((B S : Type 0) (o : Operations S) (l : Layered B S) → P B S o l → Q B S o (f B S o l)) → (t : TreesState) → OfEach P t → OfEach Q (each f t)
holds_each P Q f keeps step t h = record {
  sums = step Sum ℕ sum_operations t.sums h.sums;
  least = step (BareExtreme Upward) ℤ lowest_operations t.least h.least;
  greatest = step (BareExtreme Downward) ℤ highest_operations t.greatest h.greatest;
  best = step Runs RunTotals runs_operations t.best h.best;
  maps = step Affine AffineMap affine_operations t.maps h.maps;
  states = subst (λ table. Q Automaton (List ℕ) (automaton_operations table) (each f t).states) (sym (keeps_each f keeps t).table) (step Automaton (List ℕ) (automaton_operations (table_in t)) t.states h.states);
}

of_each : (P Q : Law) → ((B S : Type 0) (o : Operations S) (l : Layered B S) → P B S o l → Q B S o l) → (t : TreesState) → OfEach P t → OfEach Q t
of_each P Q step t h = holds_each P Q (λ B S o l. l) (λ B S o l. (refl, refl)) step t h

-- a change if a tree is kept; it keeps which trees are kept, and by which body
abbrev where_kept : Change → Change
where_kept f B S o l = if l.kept then f B S o l else l

where_kept_keeps : (f : Change) → Keeps f → Keeps (where_kept f)
where_kept_keeps f keeps B S o l = same_if l.kept l (f B S o l) (keeps B S o l).0 (keeps B S o l).1

-- what it makes of the blocks that each tree covers
over_each : (f : Change) → Keeps f → (base first next to : ℕ) (xs ys : List ℤ) → ((B S : Type 0) (o : Operations S) (l : Layered B S) → CoversBlocks o base first xs l → CoversBlocks o next to ys (f B S o l)) → (t : TreesState) → AreOver base first xs t → AreOver next to ys (each (where_kept f) t)
over_each f keeps base first next to xs ys step t h =
    holds_each (λ B S o l. IsOver o base first xs l) (λ B S o l. IsOver o next to ys l) (where_kept f) (where_kept_keeps f keeps)
    (λ B S o l g. over_if o next to ys l.kept l (f B S o l) refl (λ kept. step B S o l (g kept))) t h

-- trees that have grown, and were taken back
pub are_back : (g : Grown) (block : List ℤ) (t : TreesState) → taken_back g (grown_in g block t) ≡ t
are_back g block t =
    ap (λ l. record (taken_back g (grown_in g block t)) { sums = l }) (is_back g.sums (fold_of sum_operations block) t.sums)
    ∙ ap (λ l. record (taken_back g (grown_in g block t)) { sums = t.sums; least = l }) (is_back g.least (fold_of lowest_operations block) t.least)
    ∙ ap (λ l. record (taken_back g (grown_in g block t)) { sums = t.sums; least = t.least; greatest = l }) (is_back g.greatest (fold_of highest_operations block) t.greatest)
    ∙ ap (λ l. record (taken_back g (grown_in g block t)) { sums = t.sums; least = t.least; greatest = t.greatest; best = l }) (is_back g.best (fold_of runs_operations block) t.best)
    ∙ ap (λ l. record (taken_back g (grown_in g block t)) { sums = t.sums; least = t.least; greatest = t.greatest; best = t.best; maps = l }) (is_back g.maps (fold_of affine_operations block) t.maps)
    ∙ ap (λ l. record (taken_back g (grown_in g block t)) { sums = t.sums; least = t.least; greatest = t.greatest; best = t.best; maps = t.maps; states = l }) (is_back g.states (fold_of (automaton_operations (table_in t)) block) t.states)

module _ (base first : ℕ) (xs : List ℤ) (w : IsWindow base first xs) (t : TreesState) (h : AreOver base first xs t) where
  abbrev over : List ℤ → Law
  over ys = λ B S o l. IsOver o base first ys l

  -- an element more
  module _ (ys : List ℤ) (v : IsWindow base first ys) (x : ℤ) (is : ys ≡ xs ++ x ∷ []) where
    pub all_more : ¬ (length ys % 8 ≡ 0) → AreOver base first ys t
    all_more apart = of_each (over xs) (over ys) (λ B S o l g kept. covers_more o base first xs w l (g kept) ys v x is apart) t h

    module _ (block : List ℤ) (full : length ys % 8 ≡ 0) (last : block ≡ run_of ys (length ys - 8) 8) where
      pub can_grow_all : CanGrowAll block t
      can_grow_all = of_each (over xs) (λ B S o l. CanGrow o block l) (λ B S o l g kept. takes_leaf o base first xs w l (g kept) ys v x is (fold_of o block) full (ap (fold_of o) last)) t h

      pub all_pushed : AreOver base first ys (with_leaves block t)
      all_pushed =
          over_each (λ B S o l. record l { sums = l.sums ++ fold_of o block ∷ [] }) (λ B S o l. (refl, refl)) base first base first xs ys
          (λ B S o l g. covers_pushed o base first xs w l g ys v x is (fold_of o block) full (ap (fold_of o) last)) t h

  -- another element in the place of one
  module _ (at : ℕ) (x : ℤ) (low : first ≤ 8 * base + at) where
    pub all_beside : length xs / 8 ≤ at / 8 → AreOver base first (slice_set xs at x) t
    all_beside behind = of_each (over xs) (over (slice_set xs at x)) (λ B S o l g kept. covers_beside o base first xs w l (g kept) at x low behind) t h

    module _ (block : List ℤ) (in_block : at / 8 < length xs / 8) (here : block ≡ run_of (slice_set xs at x) (8 * (at / 8)) 8) where
      pub can_renew_all : IsWindow base first (slice_set xs at x) → CanRenewAll (base + at / 8) block t
      can_renew_all v = of_each (over xs) (λ B S o l. CanRenew o (base + at / 8) block l) (λ B S o l g kept. takes_leaf_at o base first xs w l (g kept) at x low (fold_of o block) in_block (ap (fold_of o) here) v) t h

      pub all_written : AreOver base first (slice_set xs at x) (with_leaves_at (base + at / 8) block t)
      all_written =
          over_each (λ B S o l. record l { sums = slice_set l.sums (base + at / 8 - l.first) (fold_of o block) }) (λ B S o l. (refl, refl)) base first base first xs (slice_set xs at x)
          (λ B S o l g. covers_written o base first xs w l g at x low (fold_of o block) in_block (ap (fold_of o) here)) t h

  -- the first so many elements
  pub all_cut : (kept : ℕ) → first ≤ 8 * base + kept → kept ≤ length xs → AreOver base first (take kept xs) (before_blocks (base + kept / 8) t)
  all_cut kept low high =
      over_each (λ B S o l. record l { sums = take (base + kept / 8 - l.first) l.sums }) (λ B S o l. (refl, refl)) base first base first xs (take kept xs)
      (λ B S o l g. covers_cut o base first xs w l g kept low high) t h

  -- without the elements that expire in front; whole blocks of these are removed
  pub all_expired : (to : ℕ) → first ≤ to → to ≤ 8 * base + length xs → (whole : ℕ) → 8 * whole ≤ to - 8 * base → AreOver (base + whole) to (drop (8 * whole) xs) (from_blocks (to / 8) t)
  all_expired to low high whole past =
      over_each (λ B S o l. record l { first = to / 8; sums = drop (to / 8 - l.first) l.sums }) (λ B S o l. (refl, refl)) base first (base + whole) to xs (drop (8 * whole) xs)
      (λ B S o l g. covers_expired o base first xs w l g to low high whole past) t h
