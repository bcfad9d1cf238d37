-- That summaries can be joined one after another.
use Rattle.std.proofs.Common.{◌≡◌, ℕ, ◌+◌, ◌*◌, ◌^◌, ◌<◌, ◌≤◌, List, [], ◌∷◌, length, take, fold, All, get_or, subst, sym, arith}
use Rattle.std.proofs.Math.Nat.{mul-le-mul_right}
use Rattle.std.proofs.lemmas.List.{length-take-le}
use Rattle.std.proofs.lemmas.List.Elements.{All-head, All-tail, All-take}
use Rattle.lv_bodies.specs.Body.{BodyLaws, CanJoin, Operations}
use Rattle.lv_refresh.specs.Contents.{CanFoldContents, in_order}
use Rattle.lv_refresh.specs.declared.contents.Contents.TheVariants.{Children}
use Rattle.lv_refresh.specs.declared.contents.Eight.{Eight}

module _ {S : Type 0} (o : Operations S) (within : S → ℕ → Type 0) (laws : BodyLaws o within) where
  -- summaries of some elements each, joined to a summary, can be the summary of all these elements
  joined_within : (s : S) (n count : ℕ) (xs : List S) → within s n → All (λ t. within t count) xs → n + length xs * count ≤ 2 ^ 20 → within (fold o.join s xs) (n + length xs * count)
  joined_within s n count [] known all few = subst (λ k. within s k) (omega arith) known
  joined_within s n count (x ∷ xs) known all few =
      let one : within x count = All-head (λ t. within t count) x xs all in
      let size : n + length (x ∷ xs) * count ≡ n + count + length xs * count = omega arith in
      let longer = laws.join_within s x n count known one (omega arith) in
      subst (λ k. within (fold o.join (o.join s x) xs) k) (sym size) (joined_within (o.join s x) (n + count) count xs longer (All-tail (λ t. within t count) x xs all) (omega arith))

  -- the first k of some summaries, joined from left to right, can be joined with the next
  pub can_join_next : (xs : List S) (count k : ℕ) (d : S) → All (λ t. within t count) xs → length xs * count ≤ 2 ^ 20 → k < length xs → CanJoin within (fold o.join o.identity (take k xs)) (get_or xs k d)
  can_join_next xs count k d all few inside =
      let long : length (take k xs) ≡ k = length-take-le k xs (omega arith) in
      let size : 0 + length (take k xs) * count ≡ k * count = rw long (omega arith) in
      let most : (k + 1) * count ≤ length xs * count = mul-le-mul_right count (omega arith) in
      record {
        left = k * count;
        right = count;
        left_within = subst (λ m. within (fold o.join o.identity (take k xs)) m) size (joined_within o.identity 0 count (take k xs) laws.identity_within (All-take (λ t. within t count) k xs all) (omega arith));
        right_within = all k d inside;
        few = omega arith;
      }

  -- so can the summaries of the first k children with that of the next
  pub can_join_child : (summaries : Eight S) → CanFoldContents within (Children summaries) → (k : ℕ) → k < 8 → CanJoin within (fold o.join o.identity (take k (in_order summaries))) (get_or (in_order summaries) k summaries.a)
  can_join_child summaries can k inside = can_join_next (in_order summaries) can.0 k summaries.a can.2 can.1 inside
