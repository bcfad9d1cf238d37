-- Pushes whose indices are all of one block: which nodes they touch, and which stay as they were.
use Rattle.std.proofs.Common.{◌≡◌, ℕ, ℤ, zero, suc, ◌+◌, ◌-◌, ◌*◌, ◌/◌, ◌^◌, ◌<◌, ◌≤◌, Some, List, [], ◌∷◌, ◌++◌, length, Bool, true, false, cond, nat_eq, if◌then◌else◌, refl, sym, ap, subst, ◌∙◌, arith}
use Rattle.std.proofs.Math.Nat.{div-div-eq-div-mul, mul_comm}
use Rattle.std.proofs.lemmas.List.{append-nil, append_assoc, length_push}
use Rattle.std.proofs.lemmas.Grind.{pow_more}
use Rattle.lv_geometry.specs.declared.nodes.Node.{Node}
use Rattle.lv_geometry.specs.Nodes.{covers}
use Rattle.lv_edits.specs.declared.edit.Edit.TheVariants.{Push}
use Rattle.lv_edits.specs.History.{History, list_of, replayed, with_edit}
use Rattle.lv_edits.specs.Pushes.{with_pushes}
use Rattle.lv_edits.specs.Touch.{elements_under, is_whole, touched_by, touches}
use Rattle.lv_edits.proofs.HistoryLaws.{legal-snoc}
use Rattle.lv_edits.proofs.PushLaws.{list_pushed, size_pushed}
use Rattle.lv_edits.proofs.TouchLaws.{touched_by-snoc, touches_there, untouched_keeps}

-- pushes, one after another, are possible on any list
pub record Grown (h new : History) (xs : List ℤ) : Type 0 where
  pub legal : replayed new.journal ≡ Some (list_of new.journal)
  pub list : list_of new.journal ≡ list_of h.journal ++ xs
  pub edits : length new.journal ≡ length h.journal + length xs
  pub size : length (list_of new.journal) ≡ length (list_of h.journal) + length xs

pub grown : (h : History) (xs : List ℤ) → replayed h.journal ≡ Some (list_of h.journal) → Grown h (with_pushes h xs) xs
grown h [] legal = record { legal = legal; list = sym (append-nil (list_of h.journal)); edits = omega arith; size = omega arith }
grown h (x ∷ xs) legal =
    let rest = grown (with_edit h (Push x)) xs (legal-snoc h.journal (Push x) _ legal refl) in
    record {
      legal = rest.legal;
      list = rest.list ∙ ap (λ ys. ys ++ xs) (list_pushed h x legal) ∙ append_assoc (list_of h.journal) (x ∷ []) xs;
      edits = omega (arith, rest.edits, length_push h.journal (Push x));
      size = omega (arith, rest.size, size_pushed h x legal);
    }

-- pushes of some values, and then of others, are pushes of all
pub with_pushes-append : (h : History) (xs ys : List ℤ) → with_pushes h (xs ++ ys) ≡ with_pushes (with_pushes h xs) ys
with_pushes-append h [] ys = refl
with_pushes-append h (x ∷ xs) ys = with_pushes-append (with_edit h (Push x)) xs ys

-- so many indices from one on are of the block of i
pub AreOfBlock : ℕ → ℕ → ℕ → Type 0
AreOfBlock first count i = (k : ℕ) → k < count → (first + k) / 8 ≡ i / 8

-- if a run of indices is in one block, the indices behind its first are too
pub block_rest : (first count i next : ℕ) → next ≡ first + 1 → AreOfBlock first (count + 1) i → AreOfBlock next count i
unfolding AreOfBlock
block_rest first count i next is all k small =
    let at : first + (k + 1) ≡ next + k = omega (arith, is) in
    ap (λ j. j / 8) (sym at) ∙ all (k + 1) (omega arith)

-- and the first
pub block_first : (first count i : ℕ) → 0 < count → AreOfBlock first count i → first / 8 ≡ i / 8
unfolding AreOfBlock
block_first first count i some all =
    let at : first + 0 ≡ first = omega arith in
    ap (λ j. j / 8) (sym at) ∙ all 0 some

-- a run of indices is in one block if its first and its last index are
pub AreOfBlock-from : (first count i : ℕ) → first / 8 ≡ i / 8 → (first + count - 1) / 8 ≡ i / 8 → AreOfBlock first count i
unfolding AreOfBlock
AreOfBlock-from first count i low high k small = omega (arith, low, high, small)

-- indices of one block are of the same nodes
pub covers_block : (n : Node) (i j : ℕ) → 1 ≤ n.level → i / 8 ≡ j / 8 → covers n i ≡ covers n j
covers_block n i j node same =
    let width = 8 ^ (n.level - 1) in
    let more : n.level ≡ n.level - 1 + 1 = omega arith in
    let wide : 8 ^ n.level ≡ 8 * width = ap (λ l. 8 ^ l) more ∙ pow_more 8 (n.level - 1) ∙ mul_comm width 8 in
    let of : (k : ℕ) → k / 8 ^ n.level ≡ k / 8 / width = λ k. ap (λ w. k / w) wide ∙ sym (div-div-eq-div-mul k 8 width) in
    ap (λ m. nat_eq m n.number) (of i ∙ ap (λ m. m / width) same ∙ sym (of j))

-- a push touches the nodes that have the index at the end
push_touches : (h : History) (x : ℤ) (n : Node) (i : ℕ) → 1 ≤ n.level → length (list_of h.journal) / 8 ≡ i / 8 → touches (list_of h.journal) (Push x) n ≡ covers n i
push_touches h x n i node same =
    touches_there (list_of h.journal) (Push x) n (length (list_of h.journal)) refl ∙ covers_block n (length (list_of h.journal)) i node same

-- the last of two edits touched a node that both touch
later_touch : (b : Bool) (last mid one old : ℕ) → mid ≡ cond b one old → cond b last mid ≡ cond b last old
later_touch true last mid one old is = refl
later_touch false last mid one old is = is

-- the edit that touched a node last, after k + 1 pushes in one block
touched_run_by : (k : ℕ) (h : History) (xs : List ℤ) (n : Node) (i : ℕ) → length xs ≡ k + 1 → 1 ≤ n.level → replayed h.journal ≡ Some (list_of h.journal) → AreOfBlock (length (list_of h.journal)) (length xs) i
    → touched_by (with_pushes h xs).journal n ≡ (if covers n i then length h.journal + length xs else touched_by h.journal n)
touched_run_by k h [] n i long node legal of = absurd (omega (arith, long))
touched_run_by zero h (x ∷ y ∷ ys) n i long node legal of = absurd (omega (arith, long))
touched_run_by zero h (x ∷ []) n i long node legal of =
    let one : length h.journal + 1 ≡ length h.journal + length (x ∷ []) = omega arith in
    touched_by-snoc h.journal (Push x) n
    ∙ ap (λ b. cond b (length h.journal + 1) (touched_by h.journal n)) (push_touches h x n i node (block_first (length (list_of h.journal)) 1 i (omega arith) of))
    ∙ ap (λ e. cond (covers n i) e (touched_by h.journal n)) one
touched_run_by (suc k) h (x ∷ xs) n i long node legal of =
    let next = with_edit h (Push x) in
    let after = legal-snoc h.journal (Push x) _ legal refl in
    let first = block_first (length (list_of h.journal)) (length (x ∷ xs)) i (omega arith) of in
    let count : length (x ∷ xs) ≡ length xs + 1 = omega arith in
    let of_rest = block_rest (length (list_of h.journal)) (length xs) i (length (list_of next.journal)) (size_pushed h x legal) (subst (λ k. AreOfBlock (length (list_of h.journal)) k i) count of) in
    let last = touched_run_by k next xs n i (omega (arith, long)) node after of_rest in
    let before = touched_by-snoc h.journal (Push x) n ∙ ap (λ b. cond b (length h.journal + 1) (touched_by h.journal n)) (push_touches h x n i node first) in
    let edit : length next.journal + length xs ≡ length h.journal + length (x ∷ xs) = omega (arith, length_push h.journal (Push x)) in
    last
    ∙ ap (λ e. cond (covers n i) e (touched_by next.journal n)) edit
    ∙ later_touch (covers n i) (length h.journal + length (x ∷ xs)) (touched_by next.journal n) (length h.journal + 1) (touched_by h.journal n) before

-- after pushes in one block, the edit that touched a node last is the last of them, if the node contains the block
pub touched_run : (h : History) (xs : List ℤ) (n : Node) (i : ℕ) → 0 < length xs → 1 ≤ n.level → replayed h.journal ≡ Some (list_of h.journal) → AreOfBlock (length (list_of h.journal)) (length xs) i
    → touched_by (with_pushes h xs).journal n ≡ (if covers n i then length h.journal + length xs else touched_by h.journal n)
touched_run h xs n i some node legal of =
    let long : length xs ≡ length xs - 1 + 1 = omega (arith, some) in
    touched_run_by (length xs - 1) h xs n i long node legal of

-- a node that has not the block, and is whole after the pushes, was whole before, with the same elements
pub kept_run : (h : History) (xs : List ℤ) (n : Node) (i : ℕ) → 1 ≤ n.level → replayed h.journal ≡ Some (list_of h.journal) → AreOfBlock (length (list_of h.journal)) (length xs) i → covers n i ≡ false → is_whole (with_pushes h xs).journal n ≡ true
    → (is_whole h.journal n ≡ true) × (elements_under (with_pushes h xs).journal n ≡ elements_under h.journal n)
kept_run h [] n i node legal of apart whole = (whole, refl)
kept_run h (x ∷ xs) n i node legal of apart whole =
    let next = with_edit h (Push x) in
    let after = legal-snoc h.journal (Push x) _ legal refl in
    let first = block_first (length (list_of h.journal)) (length (x ∷ xs)) i (omega arith) of in
    let count : length (x ∷ xs) ≡ length xs + 1 = omega arith in
    let of_rest = block_rest (length (list_of h.journal)) (length xs) i (length (list_of next.journal)) (size_pushed h x legal) (subst (λ k. AreOfBlock (length (list_of h.journal)) k i) count of) in
    let rest = kept_run next xs n i node after of_rest apart whole in
    let untouched = push_touches h x n i node first ∙ apart in
    let one = untouched_keeps h.journal (Push x) _ n legal refl untouched rest.0 in
    (one.0, rest.1 ∙ one.1)
