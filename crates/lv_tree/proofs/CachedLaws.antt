-- A run of leaves that is remembered, after the leaves have changed; and what a run comes to, from its elements' fold and back.
use Rattle.std.proofs.Common.{◌≡◌, ℕ, ℤ, ◌+◌, ◌-◌, ◌*◌, ◌/◌, ◌^◌, ◌<◌, ◌≤◌, ◌⊎◌, inl, inr, true, List, [], ◌∷◌, ◌++◌, length, take, drop, slice_range, slice_set, refl, sym, ap, ◌∙◌, subst, arith, All}
use Rattle.std.proofs.Math.Seq.{take-append_seam}
use Rattle.std.proofs.lemmas.List.{length-drop, length-set, length-take, length_push, take_all}
use Rattle.std.proofs.lemmas.List.Elements.{All-drop, All-take}
use Rattle.lv_bodies.specs.Body.{Operations, fold_of}
use Rattle.lv_bodies.specs.Long.{LongLaws}
use Rattle.lv_tree.specs.CachedTrees.{IsCached, leaves_joined}
use Rattle.lv_tree.specs.Folds.{AreFolds, AreFoldsOf, end_to_end, leaf_range}
use Rattle.lv_tree.specs.Parts.{joined_on, run_of}
use Rattle.lv_tree.proofs.Glue.{Meet, meet}
use Rattle.lv_tree.proofs.InOrder.{run_joined}
use Rattle.lv_tree.proofs.Runs.{run_of_shorter, run_past}
use Rattle.lv_tree.proofs.Written.{part_beside}

module _ {S : Type 0} (o : Operations S) (first : ℕ) (sums : List S) where
  -- nothing is remembered
  pub forgotten : (s : S) → s ≡ o.identity → IsCached o first sums 0 0 s
  forgotten s is = record {
    order = omega arith;
    inside = omega arith;
    sum_is = λ low. let none : 0 - first - (0 - first) ≡ 0 = omega arith in is ∙ ap (λ n. joined_on o o.identity (run_of sums (0 - first) n)) (sym none);
  }

  module _ (from to : ℕ) (s : S) (h : IsCached o first sums from to s) where
    -- a leaf more
    pub cached_pushed : (t : S) → IsCached o first (sums ++ t ∷ []) from to s
    cached_pushed t = record {
      order = h.order;
      inside = omega (arith, h.inside, length_push sums t);
      sum_is = λ low.
          let few : from - first + (to - first - (from - first)) ≤ length sums = omega (arith, h.order, h.inside, low) in
          h.sum_is low ∙ ap (joined_on o o.identity) (
          ap (λ l. run_of l (from - first) (to - first - (from - first))) (sym (take-append_seam sums (t ∷ [])))
          ∙ run_of_shorter (sums ++ t ∷ []) (length sums) (from - first) (to - first - (from - first)) few
          );
    }

    -- another in the place of one that isn't of the run
    pub cached_set : (leaf : ℕ) (t : S) → first ≤ leaf → (leaf < from) ⊎ (to ≤ leaf) → IsCached o first (slice_set sums (leaf - first) t) from to s
    cached_set leaf t low beside = record {
      order = h.order;
      inside = omega (arith, h.inside, length-set sums (leaf - first) t);
      sum_is = λ kept.
          let apart : (leaf - first < from - first) ⊎ (to - first ≤ leaf - first) = elim beside [ inl front ↦ inl (omega (arith, front, low)) | inr behind ↦ inr (omega (arith, behind)) ] in
          h.sum_is kept ∙ sym (part_beside o sums 0 (leaf - first) t (from - first) (to - first) apart (omega (arith, h.order)));
    }

    -- only the first leaves are kept, and they include the run
    pub cached_cut : (count : ℕ) → count ≤ length sums → to ≤ first + count → IsCached o first (take count sums) from to s
    cached_cut count fits within = record {
      order = h.order;
      inside = omega (arith, within, fits, length-take count sums);
      sum_is = λ low. h.sum_is low ∙ ap (joined_on o o.identity) (sym (run_of_shorter sums count (from - first) (to - first - (from - first)) (omega (arith, h.order, within, low))));
    }

    -- without leaves in front
    pub cached_expired : (past : ℕ) → first ≤ past → IsCached o past (drop (past - first) sums) from to s
    cached_expired past later = record {
      order = h.order;
      inside = omega (arith, h.inside, later, length-drop (past - first) sums);
      sum_is = λ low.
          let start : from - first - (past - first) ≡ from - past = omega (arith, later, low) in
          let count : to - first - (from - first) ≡ to - past - (from - past) = omega (arith, later, low, h.order) in
          h.sum_is (omega (arith, later, low)) ∙ ap (joined_on o o.identity) (
          run_past sums (past - first) (from - first) (to - first - (from - first)) (omega (arith, later, low))
          ∙ ap (λ k. run_of (drop (past - first) sums) k (to - first - (from - first))) start
          ∙ ap (run_of (drop (past - first) sums) (from - past)) count
          );
    }

  module _ (within : S → ℕ → Type 0) (laws : LongLaws o within) where
    -- what a run comes to is the fold of its leaves' elements, and the other way round
    pub joined_is_fold : (s : S) (from to : ℕ) → s ≡ leaves_joined o first sums from to → (lists : List (List ℤ)) → AreFoldsOf o lists sums → s ≡ fold_of o (end_to_end (leaf_range first lists from to))
    joined_is_fold s from to is lists h = is ∙ run_joined o within laws sums lists h (from - first) (to - first - (from - first))

    module _ (folds : AreFolds o sums) where
      pub fold_is_joined : (s : S) (from to : ℕ) → ((lists : List (List ℤ)) → AreFoldsOf o lists sums → s ≡ fold_of o (end_to_end (leaf_range first lists from to))) → s ≡ leaves_joined o first sums from to
      fold_is_joined s from to is = is folds.lists folds.of_lists ∙ sym (run_joined o within laws sums folds.lists folds.of_lists (from - first) (to - first - (from - first)))

      -- a run and the one behind it may be joined, and come to that of both
      pub runs_meet : (a b c : ℕ) → first ≤ a → a ≤ b → b ≤ c → c ≤ first + length sums → Meet o within (leaves_joined o first sums a b) (leaves_joined o first sums b c) (leaves_joined o first sums a c)
      runs_meet a b c low left right high =
          let all : sums ≡ run_of sums 0 (length sums - 0) = sym (take_all (length sums - 0) sums (omega arith)) in
          meet o within laws sums 0 (length sums) (subst (AreFolds o) all folds) (a - first) (b - first) (c - first) (omega arith) (omega (arith, left)) (omega (arith, right)) (omega (arith, high))

      -- so what is remembered may be joined with what comes behind it
      pub goes_on : (begin mid to : ℕ) (s more : S) → IsCached o first sums begin mid s → (from : ℕ) → begin ≡ from → first ≤ from → mid ≤ to → to ≤ first + length sums → ((lists : List (List ℤ)) → AreFoldsOf o lists sums → more ≡ fold_of o (end_to_end (leaf_range first lists mid to))) → Meet o within s more (leaves_joined o first sums from to)
      goes_on begin mid to s more h from at low right high more_is =
          let s_is : s ≡ leaves_joined o first sums from mid = h.sum_is (omega (arith, low, at)) ∙ ap (λ k. leaves_joined o first sums k mid) at in
          subst (λ t. Meet o within t more (leaves_joined o first sums from to)) (sym s_is)
          (subst (λ t. Meet o within (leaves_joined o first sums from mid) t (leaves_joined o first sums from to)) (sym (fold_is_joined more mid to more_is))
          (runs_meet from mid to low (omega (arith, h.order, at)) right high))
