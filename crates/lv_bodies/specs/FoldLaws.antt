-- What follows from the laws of a body about every fold.
use Rattle.std.specs.Prelude.{◌≡◌, ℕ, ℤ, ◌+◌, ◌^◌, ◌≤◌, List, [], ◌∷◌, ◌++◌, length, fold, All}
use Rattle.std.proofs.Common.{sym, ap, ◌∙◌, subst, arith, length-append}
use Rattle.std.proofs.Math.Seq.{take-append_seam, drop-append_seam}
use Rattle.std.proofs.lemmas.List.Elements.{All-head, All-tail, All-take, All-drop}
use Rattle.std.proofs.lemmas.List.Sums.{fold-append}
use Rattle.lv_geometry.specs.Elements.{IsElement}
use Rattle.lv_bodies.specs.Body.{Operations, BodyLaws, CanFold, JoinsEndToEnd, fold_of}

module _ {S : Type 0} (o : Operations S) (within : S → ℕ → Type 0) (laws : BodyLaws o within) where
  -- a fold that goes on from a summary
  abbrev going_on : S → List ℤ → S
  going_on s xs = fold (λ t x. o.join t (o.lift x)) s xs

  -- a fold over m elements from a summary of n is within n + m
  pub going_on-within : (s : S) (n : ℕ) (xs : List ℤ) → within s n → All IsElement xs → n + length xs ≤ 2 ^ 20 → within (going_on s xs) (n + length xs)
  going_on-within s n [] w e few = subst (λ k. within s k) (omega arith) w
  going_on-within s n (x ∷ xs) w e few =
      let one = laws.lift_within x (All-head IsElement x xs e) in
      let longer = laws.join_within s (o.lift x) n 1 w one (omega arith) in
      let rest = going_on-within (o.join s (o.lift x)) (n + 1) xs longer (All-tail IsElement x xs e) (omega arith) in
      subst (λ k. within (going_on (o.join s (o.lift x)) xs) k) (omega arith) rest

  -- a fold is within the number of its elements
  pub fold_of-within : (xs : List ℤ) → CanFold xs → within (fold_of o xs) (length xs)
  fold_of-within xs can =
      subst (λ k. within (fold_of o xs) k) (omega arith)
      (going_on-within o.identity 0 xs laws.identity_within can.elements (omega (arith, can.few)))

  -- to go on from a summary is to join it with the fold of what follows
  pub going_on-is_join : (s : S) (n : ℕ) (xs : List ℤ) → within s n → All IsElement xs → n + length xs ≤ 2 ^ 20 → going_on s xs ≡ o.join s (fold_of o xs)
  going_on-is_join s n [] w e few = sym (laws.right_identity s n w (omega arith))
  going_on-is_join s n (x ∷ xs) w e few =
      let one = laws.lift_within x (All-head IsElement x xs e) in
      let others : All IsElement xs = All-tail IsElement x xs e in
      let longer = laws.join_within s (o.lift x) n 1 w one (omega arith) in
      let rest = fold_of-within xs record { few = omega arith; elements = others } in
      let later = going_on-is_join (o.join s (o.lift x)) (n + 1) xs longer others (omega arith) in
      let alone = going_on-is_join (o.lift x) 1 xs one others (omega arith) in
      later
      ∙ laws.associative s (o.lift x) (fold_of o xs) n 1 (length xs) w one rest (omega arith)
      ∙ ap (o.join s) (sym alone ∙ ap (λ t. going_on t xs) (sym (laws.left_identity (o.lift x) 1 one (omega arith))))

  -- the fold of two lists joined end to end is the join of their folds
  pub fold_of-append : JoinsEndToEnd o
  fold_of-append xs ys can =
      let front : All IsElement xs = subst (All IsElement) (take-append_seam xs ys) (All-take IsElement (length xs) (xs ++ ys) can.elements) in
      let back : All IsElement ys = subst (All IsElement) (drop-append_seam xs ys) (All-drop IsElement (length xs) (xs ++ ys) can.elements) in
      let few : length xs + length ys ≤ 2 ^ 20 = omega (arith, can.few, length-append xs ys) in
      fold-append (λ s x. o.join s (o.lift x)) o.identity xs ys
      ∙ going_on-is_join (fold_of o xs) (length xs) ys (fold_of-within xs record { few = omega arith; elements = front }) back few
