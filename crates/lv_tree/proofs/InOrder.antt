-- Summaries that are folds in order may be joined, and in any grouping.
use Rattle.std.proofs.Common.{◌≡◌, ℕ, ℤ, List, [], ◌∷◌, ◌++◌, length, take, drop, map, All, refl, sym, ap, ◌∙◌, subst, arith, length-append}
use Rattle.std.proofs.Math.Seq.{take-append_seam, drop-append_seam}
use Rattle.std.proofs.lemmas.List.{append-nil, append_assoc, take-append-drop, take-map, take_at}
use Rattle.std.proofs.lemmas.List.Concat.{flat_map-append}
use Rattle.std.proofs.lemmas.List.Elements.{All-take, All-drop}
use Rattle.lv_geometry.specs.Elements.{IsElement}
use Rattle.lv_bodies.specs.Body.{Operations, fold_of}
use Rattle.lv_bodies.specs.Long.{CanFoldLong, CanJoinLong, LongLaws}
use Rattle.lv_bodies.specs.LongLaws.{fold_of-append_long, fold_of-within_long}
use Rattle.lv_tree.specs.Parts.{AreInOrder, joined_on, run_of}
use Rattle.lv_tree.specs.Folds.{AreFoldsOf, end_to_end}
use Rattle.lv_tree.proofs.Runs.{run_of-map}

-- of two lists that may be folded end to end, each may
pub can_left : (xs ys : List ℤ) → CanFoldLong (xs ++ ys) → CanFoldLong xs
can_left xs ys can = record {
  few = omega (arith, can.few, length-append xs ys);
  elements = subst (All IsElement) (take-append_seam xs ys) (All-take IsElement (length xs) (xs ++ ys) can.elements);
}

pub can_right : (xs ys : List ℤ) → CanFoldLong (xs ++ ys) → CanFoldLong ys
can_right xs ys can = record {
  few = omega (arith, can.few, length-append xs ys);
  elements = subst (All IsElement) (drop-append_seam xs ys) (All-drop IsElement (length xs) (xs ++ ys) can.elements);
}

-- lists end to end, up to a place and from there on
pub end_to_end-cut : (n : ℕ) (lists : List (List ℤ)) → end_to_end lists ≡ end_to_end (take n lists) ++ end_to_end (drop n lists)
end_to_end-cut n lists = ap end_to_end (sym (take-append-drop n lists)) ∙ flat_map-append (λ xs. xs) (take n lists) (drop n lists)

-- the first of some folds, and the others
record Parted {S : Type 0} (o : Operations S) (t : S) (sums : List S) (lists : List (List ℤ)) : Type 0 where
  pub next : List ℤ
  pub others : List (List ℤ)
  pub lists_are : lists ≡ next ∷ others
  pub next_is : t ≡ fold_of o next
  pub others_are : sums ≡ map (fold_of o) others

parted : {S : Type 0} (o : Operations S) (t : S) (sums : List S) (lists : List (List ℤ)) → t ∷ sums ≡ map (fold_of o) lists → Parted o t sums lists
parted o t sums [] e = absurd (cc)
parted o t sums (xs ∷ lists) e = record { next = xs; others = lists; lists_are = refl; next_is = cc; others_are = cc }

module _ {S : Type 0} (o : Operations S) (within : S → ℕ → Type 0) (laws : LongLaws o within) where
  -- the folds of two lists may be joined
  pub folds_join : (xs ys : List ℤ) → CanFoldLong (xs ++ ys) → CanJoinLong within (fold_of o xs) (fold_of o ys)
  folds_join xs ys can = record {
    left = length xs;
    right = length ys;
    left_within = fold_of-within_long o within laws xs (can_left xs ys can);
    right_within = fold_of-within_long o within laws ys (can_right xs ys can);
    few = omega (arith, can.few, length-append xs ys);
  }

  -- the fold of the first list, joined with those of the others, is the fold of all
  joined_folds : (front : List ℤ) (lists : List (List ℤ)) → CanFoldLong (front ++ end_to_end lists) → joined_on o (fold_of o front) (map (fold_of o) lists) ≡ fold_of o (front ++ end_to_end lists)
  joined_folds front [] can = ap (fold_of o) (sym (append-nil front))
  joined_folds front (xs ∷ lists) can =
      let seam : front ++ xs ++ end_to_end lists ≡ front ++ end_to_end (xs ∷ lists) = append_assoc front xs (end_to_end lists) in
      let all : CanFoldLong (front ++ xs ++ end_to_end lists) = subst CanFoldLong (sym seam) can in
      let one = can_left (front ++ xs) (end_to_end lists) all in
      ap (λ s. joined_on o s (map (fold_of o) lists)) (sym (fold_of-append_long o within laws front xs one))
      ∙ joined_folds (front ++ xs) lists all
      ∙ ap (fold_of o) seam

  pub in_order-joined : (s : S) (sums : List S) → (h : AreInOrder o s sums) → joined_on o s sums ≡ fold_of o (h.front ++ end_to_end h.lists)
  in_order-joined s sums h =
      ap (λ t. joined_on o t sums) h.front_is ∙ ap (joined_on o (fold_of o h.front)) h.sums_are ∙ joined_folds h.front h.lists h.can

  -- the first may be joined with the second, and then the others follow
  step_join : (s t : S) (sums : List S) → AreInOrder o s (t ∷ sums) → CanJoinLong within s t × AreInOrder o (o.join s t) sums
  step_join s t sums h =
      let p = parted o t sums h.lists h.sums_are in
      let seam : h.front ++ p.next ++ end_to_end p.others ≡ h.front ++ end_to_end h.lists = append_assoc h.front p.next (end_to_end p.others) ∙ ap (λ l. h.front ++ end_to_end l) (sym p.lists_are) in
      let all : CanFoldLong (h.front ++ p.next ++ end_to_end p.others) = subst CanFoldLong (sym seam) h.can in
      let one = can_left (h.front ++ p.next) (end_to_end p.others) all in
      let two : o.join s t ≡ o.join (fold_of o h.front) (fold_of o p.next) = ap (λ u. o.join u t) h.front_is ∙ ap (o.join (fold_of o h.front)) p.next_is in
      let may : CanJoinLong within s t = subst (λ u. CanJoinLong within u t) (sym h.front_is) (subst (λ u. CanJoinLong within (fold_of o h.front) u) (sym p.next_is) (folds_join h.front p.next one)) in (
        may,
        record {
          front = h.front ++ p.next;
          lists = p.others;
          front_is = two ∙ sym (fold_of-append_long o within laws h.front p.next one);
          sums_are = p.others_are;
          can = all;
        },
      )

  -- those of the front joined, the others follow
  pub in_order-back : (s : S) (sums rest : List S) → AreInOrder o s (sums ++ rest) → AreInOrder o (joined_on o s sums) rest
  in_order-back s [] rest h = h
  in_order-back s (t ∷ sums) rest h = in_order-back (o.join s t) sums rest (step_join s t (sums ++ rest) h).1

  -- only those of the front are in order too
  pub in_order-front : (s : S) (sums rest : List S) → AreInOrder o s (sums ++ rest) → AreInOrder o s sums
  in_order-front s sums rest h =
      let n = length sums in
      let seam : h.front ++ end_to_end (take n h.lists) ++ end_to_end (drop n h.lists) ≡ h.front ++ end_to_end h.lists = append_assoc h.front (end_to_end (take n h.lists)) (end_to_end (drop n h.lists)) ∙ ap (λ l. h.front ++ l) (sym (end_to_end-cut n h.lists)) in
      record {
        front = h.front;
        lists = take n h.lists;
        front_is = h.front_is;
        sums_are = sym (take_at sums rest n refl) ∙ ap (take n) h.sums_are ∙ take-map (fold_of o) n h.lists;
        can = can_left (h.front ++ end_to_end (take n h.lists)) (end_to_end (drop n h.lists)) (subst CanFoldLong (sym seam) h.can);
      }

  -- some joined by themselves may be joined with what is before, and it comes to the same
  pub alone_joins : (s : S) (sums : List S) → AreInOrder o s sums → CanJoinLong within s (joined_on o o.identity sums) × (o.join s (joined_on o o.identity sums) ≡ joined_on o s sums)
  alone_joins s sums h =
      let alone : joined_on o o.identity sums ≡ fold_of o (end_to_end h.lists) = ap (joined_on o o.identity) h.sums_are ∙ joined_folds [] h.lists (can_right h.front (end_to_end h.lists) h.can) in
      let may = folds_join h.front (end_to_end h.lists) h.can in (
        subst (λ u. CanJoinLong within u (joined_on o o.identity sums)) (sym h.front_is) (subst (λ u. CanJoinLong within (fold_of o h.front) u) (sym alone) may),
        ap (λ u. o.join u (joined_on o o.identity sums)) h.front_is
            ∙ ap (o.join (fold_of o h.front)) alone
            ∙ sym (fold_of-append_long o within laws h.front (end_to_end h.lists) h.can)
            ∙ sym (in_order-joined s sums h),
      )

-- any run of some folds, behind nothing
pub run_in_order : {S : Type 0} (o : Operations S) (sums : List S) (lists : List (List ℤ)) → AreFoldsOf o lists sums → (from n : ℕ) → AreInOrder o o.identity (run_of sums from n)
run_in_order o sums lists h from n =
    let later = can_right (end_to_end (take from lists)) (end_to_end (drop from lists)) (subst CanFoldLong (end_to_end-cut from lists) h.can) in
    let part = can_left (end_to_end (run_of lists from n)) (end_to_end (drop n (drop from lists))) (subst CanFoldLong (end_to_end-cut n (drop from lists)) later) in
    record {
      front = [];
      lists = run_of lists from n;
      front_is = refl;
      sums_are = ap (λ l. run_of l from n) h.sums_are ∙ run_of-map (fold_of o) lists from n;
      can = part;
    }

module _ {S : Type 0} (o : Operations S) (within : S → ℕ → Type 0) (laws : LongLaws o within) where
  -- what such a run is joined to
  pub run_joined : (sums : List S) (lists : List (List ℤ)) → AreFoldsOf o lists sums → (from n : ℕ) → joined_on o o.identity (run_of sums from n) ≡ fold_of o (end_to_end (run_of lists from n))
  unfolding run_in_order
  run_joined sums lists h from n = in_order-joined o within laws o.identity (run_of sums from n) (run_in_order o sums lists h from n)

-- one summary behind nothing is itself
pub joined_one : {S : Type 0} (o : Operations S) (within : S → ℕ → Type 0) (laws : LongLaws o within) (s : S) → AreInOrder o o.identity (s ∷ []) → joined_on o o.identity (s ∷ []) ≡ s
joined_one o within laws s h =
    let p = parted o s [] h.lists h.sums_are in
    let seam : h.front ++ p.next ++ end_to_end p.others ≡ h.front ++ end_to_end h.lists = append_assoc h.front p.next (end_to_end p.others) ∙ ap (λ l. h.front ++ end_to_end l) (sym p.lists_are) in
    let all : CanFoldLong (h.front ++ p.next ++ end_to_end p.others) = subst CanFoldLong (sym seam) h.can in
    let mine = can_right h.front p.next (can_left (h.front ++ p.next) (end_to_end p.others) all) in
    let inside = fold_of-within_long o within laws p.next mine in
    ap (o.join o.identity) p.next_is ∙ laws.left_identity (fold_of o p.next) (length p.next) inside mine.few ∙ sym p.next_is
