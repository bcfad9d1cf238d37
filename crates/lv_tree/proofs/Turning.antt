-- The place at which a test on joins becomes true, on the way up or down.
use Rattle.std.proofs.Common.{◌≡◌, ℕ, zero, suc, Bool, true, false, ◌+◌, ◌-◌, ◌*◌, ◌/◌, ◌%◌, ◌^◌, ◌<◌, ◌≤◌, List, ◌++◌, length, slice_index_or, refl, sym, ap, ◌∙◌, subst, arith, inl, inr}
use Rattle.std.proofs.Math.Pow.{pow_pos}
use Rattle.std.proofs.lemmas.Bool.{cases_eq}
use Rattle.std.proofs.lemmas.List.Sums.{fold-append}
use Rattle.lv_bodies.specs.Body.{Operations}
use Rattle.lv_bodies.specs.Long.{CanJoinLong, LongLaws}
use Rattle.lv_tree.specs.Nodes.{IsTree}
use Rattle.lv_tree.specs.Parts.{AreBefore, AreInOrder, joined_on, part_of, run_of}
use Rattle.lv_tree.specs.Tests.{AreOnWay, CanJoinWay, HasComeTo, IsNotYet, Seeking, TurnsAt, begin_of, beyond, gone_of, joined_way, left_of, next_of, reached}
use Rattle.lv_tree.proofs.Before.{before_meets, before_none}
use Rattle.lv_tree.proofs.Glue.{Meet}
use Rattle.lv_tree.proofs.InOrder.{alone_joins, in_order-back, in_order-front}
use Rattle.lv_tree.proofs.Nodes.{double}
use Rattle.lv_tree.proofs.Runs.{run_cut}

-- one node on is as many cells on as it is wide
pub node_on : (down : Bool) (node width : ℕ) → beyond down node 1 * width ≡ beyond down (node * width) width
node_on false node width = omega arith
node_on true node width = elim (cases_eq node 0) [
  | inl none ↦ (let zero_is : node * width ≡ 0 * width = ap (λ k. k * width) none in let less : node - 1 ≡ 0 = omega (arith, none) in let zero_too : (node - 1) * width ≡ 0 * width = ap (λ k. k * width) less in omega (arith, zero_is, zero_too))
  | inr some ↦ (let one : (node - 1) + 1 ≡ node = omega (arith, some) in let e : ((node - 1) + 1) * width ≡ node * width = ap (λ k. k * width) one in omega (arith, e))
]

-- twice as far on
pub twice_on : (down : Bool) (place width : ℕ) → beyond down (beyond down place width) width ≡ beyond down place (width + width)
twice_on false place width = omega arith
twice_on true place width = omega arith

-- a place on is between the two ends too, and as much less is left
pub inside_on : (down : Bool) (from to place width more : ℕ) → from ≤ place → place ≤ to → width + more ≤ left_of down from to place → (from ≤ beyond down place width) × (beyond down place width ≤ to) × (more ≤ left_of down from to (beyond down place width))
inside_on false from to place width more low high fits = (omega (arith, low), omega (arith, high, fits), omega (arith, fits))
inside_on true from to place width more low high fits = (omega (arith, low, fits), omega (arith, high), omega (arith, fits))

-- behind an odd node and before it the places are even
pub one_on_even : (down : Bool) (node : ℕ) → node % 2 ≡ 1 → beyond down node 1 % 2 ≡ 0
one_on_even false node odd = omega (arith, odd)
one_on_even true node odd = omega (arith, odd)

-- a summary and that of the next node may be joined, and come to another
pub record Step {S : Type 0} (down : Bool) (o : Operations S) (within : S → ℕ → Type 0) (sum next to : S) : Type 0 where
  pub may : CanJoinWay down within sum next
  pub is : joined_way down o sum next ≡ to

module _ {S : Type 0} (o : Operations S) (within : S → ℕ → Type 0) (laws : LongLaws o within) (cells : List S) (start : S) (from to : ℕ) (tree : IsTree o from to cells) (inside : to ≤ length cells) where
  -- what is reached may be joined with the node behind
  step_up : AreInOrder o start (run_of cells from (to - from)) → (node level : ℕ) (sum : S) → from ≤ node * 2 ^ level → node * 2 ^ level + 2 ^ level ≤ to → sum ≡ reached false o cells start from to (node * 2 ^ level) → Meet o within sum (slice_index_or cells node o.identity) (reached false o cells start from to (node * 2 ^ level + 2 ^ level))
  step_up folds node level sum low high is =
      let a = node * 2 ^ level in
      let b = node * 2 ^ level + 2 ^ level in
      let so_far = joined_on o start (run_of cells from (a - from)) in
      let cut : run_of cells from (b - from) ≡ run_of cells from (a - from) ++ run_of cells a (b - a) = run_cut cells from a b low (omega arith) in
      let all = subst (AreInOrder o start) (run_cut cells from b to (omega (arith, low)) high) folds in
      let front = subst (AreInOrder o start) cut (in_order-front o within laws start (run_of cells from (b - from)) (run_of cells b (to - b)) all) in
      let behind = in_order-back o within laws start (run_of cells from (a - from)) (run_of cells a (b - a)) front in
      let both = alone_joins o within laws so_far (run_of cells a (b - a)) behind in
      let right = tree.node level node low high in
      record {
        may = subst (λ s. CanJoinLong within s (slice_index_or cells node o.identity)) (sym is) (subst (CanJoinLong within so_far) (sym right) both.0);
        is = ap (λ s. o.join s (slice_index_or cells node o.identity)) is ∙ ap (o.join so_far) right ∙ both.1 ∙ sym (fold-append o.join start (run_of cells from (a - from)) (run_of cells a (b - a))) ∙ ap (joined_on o start) (sym cut);
      }

  -- and with the node before
  step_down : AreBefore o (run_of cells from (to - from)) start → (node level : ℕ) (sum : S) → from + 2 ^ level ≤ node * 2 ^ level → node * 2 ^ level ≤ to → sum ≡ reached true o cells start from to (node * 2 ^ level) → Meet o within (slice_index_or cells (node - 1) o.identity) sum (reached true o cells start from to (node * 2 ^ level - 2 ^ level))
  step_down folds node level sum low high is =
      let n = 2 ^ level in
      let b = node * n in
      let a = node * n - n in
      let place : (node - 1) * n ≡ a = node_on true node n in
      let start_is : from ≤ a = omega (arith, low) in
      let end_is : a + n ≡ b = omega (arith, low) in
      let right : slice_index_or cells (node - 1) o.identity ≡ part_of o cells a b =
      tree.node level (node - 1) (omega (arith, place, start_is)) (omega (arith, place, end_is, high))
      ∙ ap (λ k. part_of o cells k (k + n)) place
      ∙ ap (part_of o cells a) end_is in
      let m = before_meets o within laws cells start from to inside folds a b start_is (omega (arith, end_is)) high in
      record {
        may = subst (CanJoinLong within (slice_index_or cells (node - 1) o.identity)) (sym is) (subst (λ s. CanJoinLong within s (o.join (part_of o cells b to) start)) (sym right) m.may);
        is = ap (o.join (slice_index_or cells (node - 1) o.identity)) is ∙ ap (λ s. o.join s (o.join (part_of o cells b to) start)) right ∙ m.is;
      }

  step_way : (down : Bool) → AreOnWay down o start (run_of cells from (to - from)) → (node level : ℕ) (sum : S) → from ≤ node * 2 ^ level → node * 2 ^ level ≤ to → 2 ^ level ≤ left_of down from to (node * 2 ^ level) → sum ≡ reached down o cells start from to (node * 2 ^ level) → Step down o within sum (slice_index_or cells (next_of down node) o.identity) (reached down o cells start from to (beyond down (node * 2 ^ level) (2 ^ level)))
  step_way false folds node level sum low high fits is = let m = step_up folds node level sum low (omega (arith, high, fits)) is in record { may = m.may; is = m.is }
  step_way true folds node level sum low high fits is = let m = step_down folds node level sum (omega (arith, low, fits)) high is in record { may = m.may; is = m.is }

  -- at the beginning of the way, nothing is joined yet
  reached_first : (down : Bool) → AreOnWay down o start (run_of cells from (to - from)) → start ≡ reached down o cells start from to (begin_of down from to)
  reached_first false folds = let none : 0 ≡ from - from = omega arith in ap (λ k. joined_on o start (run_of cells from k)) none
  reached_first true folds = sym (before_none o within laws cells start from to folds)

  module _ (down : Bool) (folds : AreOnWay down o start (run_of cells from (to - from))) (test : S → Bool) where
    -- a wide node has two halves
    halved : (node width : ℕ) (sum : S) → (t : TurnsAt down o test cells start from to node width sum) → 1 < width → (level : ℕ) × ((t.level ≡ level + 1) × (width / 2 ≡ 2 ^ level) × (width ≡ 2 ^ level + 2 ^ level))
    halved node width sum t wide = split t.level t.wide where
      split : (k : ℕ) → width ≡ 2 ^ k → (level : ℕ) × ((k ≡ level + 1) × (width / 2 ≡ 2 ^ level) × (width ≡ 2 ^ level + 2 ^ level))
      split zero is = absurd (omega (arith, is, wide))
      split (suc k) is =
          let one : suc k ≡ k + 1 = omega arith in
          let two : width ≡ 2 ^ k + 2 ^ k = is ∙ ap (λ n. 2 ^ n) one ∙ omega (arith, double k) in (
            k,
            (one, omega (arith, two), two),
          )

    -- the place of a wide node, counted in its halves
    half_place : (node width : ℕ) → width ≡ width / 2 + width / 2 → node * width ≡ node * 2 * (width / 2)
    half_place node width half = ap (λ k. node * k) half ∙ omega arith

    pub first_half : (node width : ℕ) (sum : S) → TurnsAt down o test cells start from to node width sum → 1 < width → Step down o within sum (slice_index_or cells (next_of down (node * 2)) o.identity) (reached down o cells start from to (beyond down (node * 2 * (width / 2)) (width / 2)))
    first_half node width sum t wide =
        let h = halved node width sum t wide in
        let n = width / 2 in
        let half : width ≡ n + n = omega (arith, h.1.1, h.1.2) in
        let place = half_place node width half in
        let fits : n + n ≤ left_of down from to (node * 2 * n) = subst (λ p. n + n ≤ left_of down from to p) place (subst (λ w. w ≤ left_of down from to (node * width)) half t.fits) in
        let P : ℕ → Type 0 = λ k. from ≤ node * 2 * k → node * 2 * k ≤ to → k ≤ left_of down from to (node * 2 * k) → sum ≡ reached down o cells start from to (node * 2 * k) → Step down o within sum (slice_index_or cells (next_of down (node * 2)) o.identity) (reached down o cells start from to (beyond down (node * 2 * k) k)) in
        subst P (sym h.1.1) (step_way down folds (node * 2) h.0 sum)
        (omega (arith, t.low, place)) (omega (arith, t.high, place)) (omega (arith, fits)) (t.sum_is ∙ ap (reached down o cells start from to) place)

    -- the test becomes true with the first half, or with the other
    pub turns_first : (node width : ℕ) (sum next : S) → TurnsAt down o test cells start from to node width sum → 1 < width → next ≡ reached down o cells start from to (beyond down (node * 2 * (width / 2)) (width / 2)) → test next ≡ true → TurnsAt down o test cells start from to (node * 2) (width / 2) sum
    turns_first node width sum next t wide is passes =
        let h = halved node width sum t wide in
        let n = width / 2 in
        let half : width ≡ n + n = omega (arith, h.1.1, h.1.2) in
        let place = half_place node width half in
        let fits : n + n ≤ left_of down from to (node * 2 * n) = subst (λ p. n + n ≤ left_of down from to p) place (subst (λ w. w ≤ left_of down from to (node * width)) half t.fits) in
        record {
          level = h.0;
          wide = h.1.1;
          low = omega (arith, t.low, place);
          high = omega (arith, t.high, place);
          fits = omega (arith, fits);
          sum_is = t.sum_is ∙ ap (reached down o cells start from to) place;
          before = subst (IsNotYet down o test cells start from to) place t.before;
          after = ap test (sym is) ∙ passes;
        }

    pub turns_other : (node width : ℕ) (sum next : S) → TurnsAt down o test cells start from to node width sum → 1 < width → next ≡ reached down o cells start from to (beyond down (node * 2 * (width / 2)) (width / 2)) → test next ≡ false → TurnsAt down o test cells start from to (beyond down (node * 2) 1) (width / 2) next
    turns_other node width sum next t wide is fails =
        let h = halved node width sum t wide in
        let n = width / 2 in
        let half : width ≡ n + n = omega (arith, h.1.1, h.1.2) in
        let place = half_place node width half in
        let fits : n + n ≤ left_of down from to (node * 2 * n) = subst (λ p. n + n ≤ left_of down from to p) place (subst (λ w. w ≤ left_of down from to (node * width)) half t.fits) in
        let on = node_on down (node * 2) n in
        let within_both = inside_on down from to (node * 2 * n) n n (omega (arith, t.low, place)) (omega (arith, t.high, place)) fits in
        let end : beyond down (node * width) width ≡ beyond down (beyond down (node * 2) 1 * n) n =
        ap (λ p. beyond down p width) place ∙ ap (beyond down (node * 2 * n)) half ∙ sym (twice_on down (node * 2 * n) n) ∙ ap (λ p. beyond down p n) (sym on) in
        record {
          level = h.0;
          wide = h.1.1;
          low = subst (λ p. from ≤ p) (sym on) within_both.0;
          high = subst (λ p. p ≤ to) (sym on) within_both.1;
          fits = subst (λ p. n ≤ left_of down from to p) (sym on) within_both.2;
          sum_is = is ∙ ap (reached down o cells start from to) (sym on);
          before = λ later. ap test (ap (reached down o cells start from to) on ∙ sym is) ∙ fails;
          after = subst (λ p. test (reached down o cells start from to p) ≡ true) end t.after;
        }

    -- a node of one leaf
    pub turns_with : (node width : ℕ) (sum : S) → TurnsAt down o test cells start from to node width sum → width ≤ 1 → HasComeTo down o test cells start from to node sum
    turns_with node width sum t narrow =
        let some : 0 < 2 ^ t.level = pow_pos t.level in
        let one : width ≡ 1 = omega (arith, narrow, some, t.wide) in
        let place : node * width ≡ node = ap (λ k. node * k) one ∙ omega arith in
        record {
          low = omega (arith, t.low, place);
          high = omega (arith, t.high, place);
          sum_is = t.sum_is ∙ ap (reached down o cells start from to) place;
          before = subst (IsNotYet down o test cells start from to) place t.before;
          after = λ left. subst (λ p. test (reached down o cells start from to (beyond down p 1)) ≡ true) place (subst (λ w. test (reached down o cells start from to (beyond down (node * width) w)) ≡ true) one t.after);
        }

    -- a search begins
    pub seek_begins : from ≤ to → Seeking down o test cells start from to (begin_of down from to) 1 start
    seek_begins order =
        let one : begin_of down from to * 1 ≡ begin_of down from to = omega arith in
        let ends = first_inside down in
        record {
          level = 0;
          wide = refl;
          low = omega (arith, one, ends.0);
          high = omega (arith, one, ends.1);
          sum_is = reached_first down folds ∙ ap (reached down o cells start from to) (sym one);
          before = λ later. absurd (let none : 0 < gone_of down from to (begin_of down from to) = subst (λ p. 0 < gone_of down from to p) one later in omega (arith, none, ends.2));
        } where
          first_inside : (d : Bool) → (from ≤ begin_of d from to) × (begin_of d from to ≤ to) × (gone_of d from to (begin_of d from to) ≡ 0)
          first_inside false = (omega arith, omega (arith, order), omega arith)
          first_inside true = (omega (arith, order), omega arith, omega arith)

    pub seek_step : (node width : ℕ) (sum : S) → (k : Seeking down o test cells start from to node width sum) → width ≤ left_of down from to (node * width) → Step down o within sum (slice_index_or cells (next_of down node) o.identity) (reached down o cells start from to (beyond down (node * width) width))
    seek_step node width sum k fits =
        let P : ℕ → Type 0 = λ n. from ≤ node * n → node * n ≤ to → n ≤ left_of down from to (node * n) → sum ≡ reached down o cells start from to (node * n) → Step down o within sum (slice_index_or cells (next_of down node) o.identity) (reached down o cells start from to (beyond down (node * n) n)) in
        subst P (sym k.wide) (step_way down folds node k.level sum) k.low k.high fits k.sum_is

    -- to the place of a wider node
    pub seek_up : (node width : ℕ) (sum : S) → Seeking down o test cells start from to node width sum → node % 2 ≡ 0 → Seeking down o test cells start from to (node / 2) (width * 2) sum
    seek_up node width sum k even =
        let is : node ≡ 2 * (node / 2) = omega (arith, even) in
        let place : node * width ≡ node / 2 * (width * 2) = ap (λ n. n * width) is ∙ omega arith in
        record {
          level = k.level + 1;
          wide = omega (arith, k.wide, double k.level);
          low = omega (arith, k.low, place);
          high = omega (arith, k.high, place);
          sum_is = k.sum_is ∙ ap (reached down o cells start from to) place;
          before = subst (IsNotYet down o test cells start from to) place k.before;
        }

    -- past a node with which the test does not become true
    pub seek_past : (node width : ℕ) (sum next : S) → Seeking down o test cells start from to node width sum → width ≤ left_of down from to (node * width) → next ≡ reached down o cells start from to (beyond down (node * width) width) → test next ≡ false → Seeking down o test cells start from to (beyond down node 1) width next
    seek_past node width sum next k fits is fails =
        let on = node_on down node width in
        let within_both = inside_on down from to (node * width) width 0 k.low k.high (omega (arith, fits)) in
        record {
          level = k.level;
          wide = k.wide;
          low = subst (λ p. from ≤ p) (sym on) within_both.0;
          high = subst (λ p. p ≤ to) (sym on) within_both.1;
          sum_is = is ∙ ap (reached down o cells start from to) (sym on);
          before = λ later. ap test (ap (reached down o cells start from to) on ∙ sym is) ∙ fails;
        }

    pub seek_turn : (node width : ℕ) (sum next : S) → Seeking down o test cells start from to node width sum → width ≤ left_of down from to (node * width) → next ≡ reached down o cells start from to (beyond down (node * width) width) → test next ≡ true → TurnsAt down o test cells start from to node width sum
    seek_turn node width sum next k fits is passes = record {
      level = k.level;
      wide = k.wide;
      low = k.low;
      high = k.high;
      fits = fits;
      sum_is = k.sum_is;
      before = k.before;
      after = ap test (sym is) ∙ passes;
    }

    -- its width is even
    pub halves_whole : (node width : ℕ) (sum : S) → Seeking down o test cells start from to node width sum → 1 < width → width ≡ width / 2 + width / 2
    halves_whole node width sum k wide = split k.level k.wide where
      split : (j : ℕ) → width ≡ 2 ^ j → width ≡ width / 2 + width / 2
      split zero is = absurd (omega (arith, is, wide))
      split (suc j) is =
          let one : suc j ≡ j + 1 = omega arith in
          let two : width ≡ 2 ^ j + 2 ^ j = is ∙ ap (λ n. 2 ^ n) one ∙ omega (arith, double j) in
          omega (arith, two)

    -- to the first half of a node that does not fit
    pub seek_down : (node width : ℕ) (sum : S) → Seeking down o test cells start from to node width sum → 1 < width → left_of down from to (node * width) < width → Seeking down o test cells start from to (node * 2) (width / 2) sum × (left_of down from to (node * 2 * (width / 2)) < width)
    seek_down node width sum k wide past = split k.level k.wide where
      split : (j : ℕ) → width ≡ 2 ^ j → Seeking down o test cells start from to (node * 2) (width / 2) sum × (left_of down from to (node * 2 * (width / 2)) < width)
      split zero is = absurd (omega (arith, is, wide))
      split (suc j) is =
          let one : suc j ≡ j + 1 = omega arith in
          let two : width ≡ 2 ^ j + 2 ^ j = is ∙ ap (λ n. 2 ^ n) one ∙ omega (arith, double j) in
          let half : width ≡ width / 2 + width / 2 = omega (arith, two) in
          let place = half_place node width half in (
            record {
              level = j;
              wide = omega (arith, two);
              low = omega (arith, k.low, place);
              high = omega (arith, k.high, place);
              sum_is = k.sum_is ∙ ap (reached down o cells start from to) place;
              before = subst (IsNotYet down o test cells start from to) place k.before;
            },
            subst (λ p. left_of down from to p < width) place past,
          )

-- behind the first half of a node that does not fit
pub half_past : (down : Bool) (from to node width : ℕ) → 1 < width → left_of down from to (node * 2 * (width / 2)) < width → width ≡ width / 2 + width / 2 → left_of down from to (beyond down (node * 2) 1 * (width / 2)) < width / 2
half_past down from to node width wide past even = subst (λ p. left_of down from to p < width / 2) (sym (node_on down (node * 2) (width / 2))) (less down past) where
  less : (d : Bool) → left_of d from to (node * 2 * (width / 2)) < width → left_of d from to (beyond d (node * 2 * (width / 2)) (width / 2)) < width / 2
  less false p = omega (arith, p, even, wide)
  less true p = omega (arith, p, even, wide)

-- if nothing is left, the way ends
pub seek_ends : (down : Bool) {S : Type 0} (o : Operations S) (test : S → Bool) (cells : List S) (start : S) (from to node width : ℕ) (sum : S) → Seeking down o test cells start from to node width sum → left_of down from to (node * width) < width → width ≤ 1 → HasComeTo down o test cells start from to node sum
seek_ends down o test cells start from to node width sum k past narrow =
    let some : 0 < 2 ^ k.level = pow_pos k.level in
    let one : width ≡ 1 = omega (arith, narrow, some, k.wide) in
    let place : node * width ≡ node = ap (λ n. node * n) one ∙ omega arith in
    let none : left_of down from to node < 1 = subst (λ p. left_of down from to p < 1) place (omega (arith, past, one)) in
    record {
      low = omega (arith, k.low, place);
      high = omega (arith, k.high, place);
      sum_is = k.sum_is ∙ ap (reached down o cells start from to) place;
      before = subst (IsNotYet down o test cells start from to) place k.before;
      after = λ left. absurd (omega (arith, left, none));
    }
