-- What is seen of the leaves.
use Rattle.std.proofs.Common.{◌≡◌, ℕ, ℤ, ◌+◌, ◌-◌, ◌≤◌, List, [], ◌∷◌, ◌++◌, length, take, drop, refl, sym, ap, ◌∙◌, subst, arith, drop-drop, inl, inr, min}
use Rattle.std.proofs.lemmas.Bool.{cases_lt}
use Rattle.std.proofs.lemmas.List.{drop_all, length-drop, length-take, drop-take, take-map, take_at}
use Rattle.std.specs.List.{slice_range}
use Rattle.lv_bodies.specs.Body.{Operations, fold_of}
use Rattle.lv_bodies.specs.Long.{CanFoldLong, LongLaws}
use Rattle.lv_tree.specs.Folds.{AreFolds, AreFoldsOf, Leaves, end_to_end, leaf_range}
use Rattle.lv_tree.specs.Parts.{joined_on, part_of, run_of}
use Rattle.lv_tree.proofs.InOrder.{can_left, end_to_end-cut, run_joined}
use Rattle.lv_tree.proofs.Runs.{run_inside}

-- what is seen: the body, the number of the first leaf, how many there is room for, and the leaves
abbrev pub seen_of : {B S : Type 0} → B → ℕ → ℕ → ℕ → ℕ → List S → Leaves B S
seen_of b first room lo hi xs = record { body = b; first = first; room = room; sums = run_of xs lo (hi - lo) }

pub run_length : {T : Type 0} (xs : List T) (lo hi : ℕ) → hi ≤ length xs → length (run_of xs lo (hi - lo)) ≡ hi - lo
run_length xs lo hi inside = omega (arith, length-take (hi - lo) (drop lo xs), length-drop lo xs, inside)

pub counted : {B S : Type 0} (now : Leaves B S) (b : B) (first room lo hi : ℕ) (xs : List S) → seen_of b first room lo hi xs ≡ now → hi ≤ length xs → (now.first ≡ first) × (length now.sums ≡ hi - lo)
counted now b first room lo hi xs is inside =
    (sym (ap (λ n. n.first) is), sym (ap (λ n. length n.sums) is) ∙ run_length xs lo hi inside)

-- the leaves without the first ones
pub run_expired : {T : Type 0} (xs : List T) (lo count hi : ℕ) → lo + count ≤ hi → run_of xs (lo + count) (hi - (lo + count)) ≡ drop count (run_of xs lo (hi - lo))
run_expired xs lo count hi few =
    let whole : hi - lo ≡ count + (hi - (lo + count)) = omega (arith, few) in
    ap (take (hi - (lo + count))) (sym (drop-drop count lo xs))
    ∙ sym (drop-take count (hi - (lo + count)) (drop lo xs))
    ∙ ap (λ k. drop count (take k (drop lo xs))) (sym whole)

-- also if all of it is gone
run_gone : {T : Type 0} (xs : List T) (lo count hi to : ℕ) → hi ≤ length xs → lo ≤ hi → to ≡ min count (hi - lo) → run_of xs (lo + to) (hi - (lo + to)) ≡ drop count (run_of xs lo (hi - lo))
run_gone xs lo count hi to inside order is =
    elim (cases_lt (hi - lo) count) [
      | inl past ↦
          let all : hi - (lo + to) ≡ 0 = omega (arith, is, past) in
          let size = run_length xs lo hi inside in
          ap (run_of xs (lo + to)) all ∙ sym (drop_all count (run_of xs lo (hi - lo)) (omega (arith, size, past)))
      | inr few ↦
          let same : to ≡ count = omega (arith, is, few) in
          ap (λ k. run_of xs (lo + k) (hi - (lo + k))) same ∙ run_expired xs lo count hi (omega (arith, few, order))
    ]

pub expire_seen : {B S : Type 0} (now : Leaves B S) (b : B) (first room lo hi to more left : ℕ) (xs : List S) → hi ≤ length xs → lo ≤ hi → more ≡ min (to - first) (hi - lo) → seen_of b first room lo hi xs ≡ now → seen_of b to left (lo + more) hi xs ≡ record { body = now.body; first = to; room = left; sums = drop (to - now.first) now.sums }
expire_seen {B} {S} now b first room lo hi to more left xs inside order count is =
    subst (λ (n : Leaves B S). seen_of b to left (lo + more) hi xs ≡ record { body = n.body; first = to; room = left; sums = drop (to - n.first) n.sums }) is
    (ap (λ l. record { body = b; first = to; room = left; sums = l }) (run_gone xs lo (to - first) hi more inside order count))

pub seen_folds : {B S : Type 0} (of_body : B → Operations S) (now : Leaves B S) (b : B) (first room lo hi : ℕ) (xs : List S) → seen_of b first room lo hi xs ≡ now → AreFolds (of_body now.body) now.sums → AreFolds (of_body b) (run_of xs lo (hi - lo))
seen_folds {B} {S} of_body now b first room lo hi xs is folds =
    subst (λ (n : Leaves B S). AreFolds (of_body n.body) n.sums) (sym is) folds

-- what a range of what is seen comes to
pub folded : {S : Type 0} (o : Operations S) (within : S → ℕ → Type 0) → LongLaws o within → (lo hi a b : ℕ) (xs : List S) (lists : List (List ℤ)) → AreFoldsOf o lists (run_of xs lo (hi - lo)) → a ≤ b → lo + b ≤ hi → part_of o xs (lo + a) (lo + b) ≡ fold_of o (end_to_end (run_of lists a (b - a)))
folded o within laws lo hi a b xs lists h order high =
    let start : (lo + a) - lo ≡ a = omega arith in
    let count : (lo + b) - (lo + a) ≡ b - a = omega arith in
    ap (joined_on o o.identity) (sym (run_inside xs lo hi (lo + a) (lo + b) (omega arith) high) ∙ ap (λ k. run_of (run_of xs lo (hi - lo)) k ((lo + b) - (lo + a))) start ∙ ap (run_of (run_of xs lo (hi - lo)) a) count)
    ∙ run_joined o within laws (run_of xs lo (hi - lo)) lists h a (b - a)

pub folded_seen : {B S : Type 0} (of_body : B → Operations S) (within : S → ℕ → Type 0) (now : Leaves B S) (b : B) (first room lo hi : ℕ) (xs : List S) → seen_of b first room lo hi xs ≡ now → LongLaws (of_body b) within → (from to : ℕ) → from ≤ to → lo + (to - first) ≤ hi → (lists : List (List ℤ)) → AreFoldsOf (of_body now.body) lists now.sums → part_of (of_body b) xs (lo + (from - first)) (lo + (to - first)) ≡ fold_of (of_body now.body) (end_to_end (leaf_range now.first lists from to))
folded_seen {B} {S} of_body within now b first room lo hi xs is laws from to order high lists =
    subst (λ (n : Leaves B S). AreFoldsOf (of_body n.body) lists n.sums → part_of (of_body b) xs (lo + (from - first)) (lo + (to - first)) ≡ fold_of (of_body n.body) (end_to_end (leaf_range n.first lists from to))) is
    (λ h. folded (of_body b) within laws lo hi (from - first) (to - first) xs lists h (omega (arith, order)) high)

-- what a range of what is seen comes to, if leaves are numbered from 0
pub folded_now : {B S : Type 0} (of_body : B → Operations S) (within : S → ℕ → Type 0) (now : Leaves B S) (b : B) (first room lo hi : ℕ) (xs : List S) → seen_of b first room lo hi xs ≡ now → LongLaws (of_body b) within → (from to : ℕ) → from ≤ to → lo + to ≤ hi → (lists : List (List ℤ)) → AreFoldsOf (of_body now.body) lists now.sums → part_of (of_body b) xs (lo + from) (lo + to) ≡ fold_of (of_body now.body) (end_to_end (slice_range lists from to))
folded_now {B} {S} of_body within now b first room lo hi xs is laws from to order high lists =
    subst (λ (n : Leaves B S). AreFoldsOf (of_body n.body) lists n.sums → part_of (of_body b) xs (lo + from) (lo + to) ≡ fold_of (of_body n.body) (end_to_end (slice_range lists from to))) is
    (λ h. folded (of_body b) within laws lo hi from to xs lists h order high)

-- of summaries that are folds, those in front are
pub folds_front : {S : Type 0} (o : Operations S) (xs ys : List S) → AreFolds o (xs ++ ys) → AreFolds o xs
folds_front o xs ys folds =
    let n = length xs in
    record {
      lists = take n folds.lists;
      of_lists = record {
        sums_are = sym (take_at xs ys n refl) ∙ ap (take n) folds.of_lists.sums_are ∙ take-map (fold_of o) n folds.lists;
        can = can_left (end_to_end (take n folds.lists)) (end_to_end (drop n folds.lists)) (subst CanFoldLong (end_to_end-cut n folds.lists) folds.of_lists.can);
      };
    }

pub push_folds : {B S : Type 0} (of_body : B → Operations S) (now : Leaves B S) (b : B) (first room lo hi : ℕ) (xs : List S) (s : S) → seen_of b first room lo hi xs ≡ now → AreFolds (of_body now.body) (now.sums ++ s ∷ []) → AreFolds (of_body b) (run_of xs lo (hi - lo) ++ s ∷ [])
push_folds {B} {S} of_body now b first room lo hi xs s is folds =
    subst (λ (n : Leaves B S). AreFolds (of_body n.body) (n.sums ++ s ∷ [])) (sym is) folds
