-- AnswersFollow of several lists, in the rising order of their edits.
use Rattle.std.proofs.Common.{◌≡◌, ℕ, suc, ◌<◌, ◌≤◌, All, Bool, IfSome, List, [], ◌∷◌, ◌++◌, Option, Some, None, MatchOption, cond, filter, get_or, length, drop, drop-cons, set, nat_eq, nat_lt, refl, sym, ap, ◌∙◌, subst, inl, inr, arith, append_assoc}
use Rattle.std.specs.List.Sorted.{IsPermutation}
use Rattle.std.proofs.lemmas.Bool.{cases_Bool, cond-false, cond-true, eqb-true, le-ltb, lt-ltb, ltb-false, ltb-true}
use Rattle.std.proofs.lemmas.Grind.{flat_map-append}
use Rattle.std.proofs.lemmas.List.Elements.{All-append, All-cons, All-from_get_or, All-get_or, All-head, All-nil, All-push, All-same, All-tail, All-weaker}
use Rattle.std.proofs.lemmas.List.Sorted.{All-permutation, IsNonDecreasingBy-drop, IsNonDecreasingBy-insert, IsNonDecreasingBy-short, IsPermutation-cons, IsPermutation-middle, IsPermutation-refl, IsPermutation-sym, IsPermutation-trans}
use Rattle.lv_transcript.specs.declared.claimed.Claimed.{Claimed}
use Rattle.lv_transcript.specs.LeastFirst.{AreAbove, AreFrom, BeginsAt, FindsLeast, IsLeast}
use Rattle.lv_transcript.specs.Joined.{by_edit, in_a_row, joined, put_before}
use Rattle.lv_transcript.specs.Transcript.{AreInOrder}

-- ---- the same answers

-- an answer that is put among others, and the others
put_permutes : (answer : Claimed) (answers : List Claimed) → IsPermutation (answer ∷ answers) (put_before answer answers)
put_permutes answer [] = IsPermutation-refl (answer ∷ [])
put_permutes answer (first ∷ rest) =
    elim (cases_Bool (nat_lt first.edit answer.edit)) [
      | inl below ↦
          subst (IsPermutation (answer ∷ first ∷ rest)) (sym (cond-true _ _ _ below))
          (IsPermutation-trans _ _ _ (IsPermutation-sym _ _ (IsPermutation-middle (first ∷ []) answer rest)) (IsPermutation-cons first _ _ (put_permutes answer rest)))
      | inr fine ↦ subst (IsPermutation (answer ∷ first ∷ rest)) (sym (cond-false _ _ _ fine)) (IsPermutation-refl (answer ∷ first ∷ rest))
    ]

-- all of them
pub by_edit_permutes : (answers : List Claimed) → IsPermutation answers (by_edit answers)
by_edit_permutes [] = IsPermutation-refl []
by_edit_permutes (answer ∷ answers) = IsPermutation-trans _ _ _ (IsPermutation-cons answer _ _ (by_edit_permutes answers)) (put_permutes answer (by_edit answers))

-- ---- in order

-- an answer before others that are in order, if none of them is below it
order_cons : (answer : Claimed) (answers : List Claimed) → AreFrom answer.edit answers → AreInOrder answers → AreInOrder (answer ∷ answers)
order_cons answer answers least order =
    IsNonDecreasingBy-insert (λ answer. answer.edit) answers 0 answer order (omega arith) (λ k d below. absurd (omega (arith, below)))
    (λ k d low lt. All-get_or (λ other. answer.edit ≤ other.edit) answers k d lt least)

-- the first of answers in order
order_least : (answer : Claimed) (answers : List Claimed) → AreInOrder (answer ∷ answers) → AreFrom answer.edit (answer ∷ answers)
order_least answer answers order =
    All-from_get_or (λ other. answer.edit ≤ other.edit) (answer ∷ answers) answer (λ i lt. order 0 i answer (omega arith) lt)

order_tail : (answer : Claimed) (answers : List Claimed) → AreInOrder (answer ∷ answers) → AreInOrder answers
order_tail answer answers order = IsNonDecreasingBy-drop (λ answer. answer.edit) 1 (answer ∷ answers) order

-- an answer that is put among some in order
put_order : (answer : Claimed) (answers : List Claimed) → AreInOrder answers → AreInOrder (put_before answer answers)
put_order answer [] order = IsNonDecreasingBy-short (λ answer. answer.edit) (answer ∷ []) (omega arith)
put_order answer (first ∷ rest) order =
    elim (cases_Bool (nat_lt first.edit answer.edit)) [
      | inl below ↦
          let less : first.edit < answer.edit = ltb-true first.edit answer.edit below in
          let more = All-tail (λ (other : Claimed). first.edit ≤ other.edit) first rest (order_least first rest order) in
          let all = All-permutation (λ (other : Claimed). first.edit ≤ other.edit) (answer ∷ rest) (put_before answer rest) (put_permutes answer rest) (All-cons (λ (other : Claimed). first.edit ≤ other.edit) answer rest (omega (arith, less)) more) in
          subst AreInOrder (sym (cond-true _ _ _ below)) (order_cons first (put_before answer rest) all (put_order answer rest (order_tail first rest order)))
      | inr fine ↦
          let least : answer.edit ≤ first.edit = ltb-false first.edit answer.edit fine in
          let all = All-weaker (λ (other : Claimed). first.edit ≤ other.edit) (λ (other : Claimed). answer.edit ≤ other.edit) (λ other more. omega (arith, least, more)) (first ∷ rest) (order_least first rest order) in
          subst AreInOrder (sym (cond-false _ _ _ fine)) (order_cons answer (first ∷ rest) all order)
    ]

pub by_edit_order : (answers : List Claimed) → AreInOrder (by_edit answers)
by_edit_order [] = IsNonDecreasingBy-short (λ answer. answer.edit) [] (omega arith)
by_edit_order (answer ∷ answers) = put_order answer (by_edit answers) (by_edit_order answers)

-- ---- those at one edit

-- two answers at different edits, one before the other or after it
swapped : (edit : ℕ) (first answer : Claimed) (others : List Claimed) → first.edit < answer.edit
    → cond (nat_eq first.edit edit) (first ∷ cond (nat_eq answer.edit edit) (answer ∷ others) others) (cond (nat_eq answer.edit edit) (answer ∷ others) others)
    ≡ cond (nat_eq answer.edit edit) (answer ∷ cond (nat_eq first.edit edit) (first ∷ others) others) (cond (nat_eq first.edit edit) (first ∷ others) others)
swapped edit first answer others less =
    elim (cases_Bool (nat_eq first.edit edit)) [
      | inl there ↦ elim (cases_Bool (nat_eq answer.edit edit)) [
        | inl too ↦ absurd (omega (arith, less, eqb-true first.edit edit there, eqb-true answer.edit edit too))
        | inr not_too ↦ rw (there, not_too) refl
      ]
      | inr elsewhere ↦ rw elsewhere refl
    ]

-- if one is put among others, those at one version are as if it were before them all
put_ties : (edit : ℕ) (answer : Claimed) (answers : List Claimed)
    → filter (λ answer. nat_eq answer.edit edit) (put_before answer answers) ≡ filter (λ answer. nat_eq answer.edit edit) (answer ∷ answers)
put_ties edit answer [] = refl
put_ties edit answer (first ∷ rest) =
    let at : Claimed → Bool = λ answer. nat_eq answer.edit edit in
    let others = filter at rest in
    elim (cases_Bool (nat_lt first.edit answer.edit)) [
      | inl below ↦
          let less : first.edit < answer.edit = ltb-true first.edit answer.edit below in
          let one = ap (filter at) (cond-true _ (first ∷ put_before answer rest) (answer ∷ first ∷ rest) below) in
          let two = ap (λ (answers : List Claimed). cond (at first) (first ∷ answers) answers) (put_ties edit answer rest) in
          one ∙ two ∙ swapped edit first answer others less
      | inr fine ↦ ap (filter at) (cond-false _ (first ∷ put_before answer rest) (answer ∷ first ∷ rest) fine)
    ]

pub by_edit_ties : (edit : ℕ) (answers : List Claimed) → filter (λ answer. nat_eq answer.edit edit) (by_edit answers) ≡ filter (λ answer. nat_eq answer.edit edit) answers
by_edit_ties edit [] = refl
by_edit_ties edit (answer ∷ answers) =
    let at : Claimed → Bool = λ answer. nat_eq answer.edit edit in
    put_ties edit answer (by_edit answers) ∙ ap (λ (answers : List Claimed). cond (at answer) (answer ∷ answers) answers) (by_edit_ties edit answers)

-- ---- the least first

-- one that none is below goes first
put_first : (answer : Claimed) (answers : List Claimed) → AreFrom answer.edit answers → put_before answer answers ≡ answer ∷ answers
put_first answer [] least = refl
put_first answer (first ∷ rest) least =
    cond-false _ _ _ (le-ltb first.edit answer.edit (All-head (λ (other : Claimed). answer.edit ≤ other.edit) first rest least))

-- an answer comes first if those before it are above it and those after it are not below it
least_first : (front : List Claimed) (answer : Claimed) (rest : List Claimed) → AreAbove answer.edit front → AreFrom answer.edit rest
    → by_edit (front ++ answer ∷ rest) ≡ answer ∷ by_edit (front ++ rest)
least_first [] answer rest above from =
    put_first answer (by_edit rest) (All-permutation (λ (other : Claimed). answer.edit ≤ other.edit) rest (by_edit rest) (by_edit_permutes rest) from)
least_first (first ∷ front) answer rest above from =
    let own : answer.edit < first.edit = All-head (λ (other : Claimed). answer.edit < other.edit) first front above in
    let others = All-tail (λ (other : Claimed). answer.edit < other.edit) first front above in
    ap (put_before first) (least_first front answer rest others from) ∙ cond-true _ _ _ (lt-ltb answer.edit first.edit own)

-- what holds of each answer of each list holds of all in a row
all_in_a_row : (P : Claimed → Type 0) (lists : List (List Claimed)) → All (All P) lists → All P (in_a_row lists)
all_in_a_row P [] all = All-nil P
all_in_a_row P (answers ∷ lists) all =
    All-append P answers (in_a_row lists) (All-head (All P) answers lists all) (all_in_a_row P lists (All-tail (All P) answers lists all))

-- lists that are empty
pub none_in_a_row : (lists : List (List Claimed)) → All (λ answers. answers ≡ []) lists → in_a_row lists ≡ []
none_in_a_row [] all = refl
none_in_a_row (answers ∷ lists) all =
    ap (λ (answers : List Claimed). answers ++ in_a_row lists) (All-head (λ (answers : List Claimed). answers ≡ []) answers lists all)
    ∙ none_in_a_row lists (All-tail (λ (answers : List Claimed). answers ≡ []) answers lists all)

-- a list in the middle of others
in_a_row_parts : (before : List (List Claimed)) (own : List Claimed) (after : List (List Claimed)) → in_a_row (before ++ own ∷ after) ≡ in_a_row before ++ (own ++ in_a_row after)
in_a_row_parts before own after = flat_map-append (λ answers. answers) before (own ∷ after)

-- the list between others, and another in its place
get_or-middle : (before : List (List Claimed)) (own : List Claimed) (after : List (List Claimed)) (d : List Claimed) → get_or (before ++ own ∷ after) (length before) d ≡ own
get_or-middle [] own after d = refl
get_or-middle (x ∷ before) own after d = get_or-middle before own after d

set-middle : (before : List (List Claimed)) (own : List Claimed) (after : List (List Claimed)) (new : List Claimed) → set (before ++ own ∷ after) (length before) new ≡ before ++ new ∷ after
set-middle [] own after new = refl
set-middle (x ∷ before) own after new = ap (λ (lists : List (List Claimed)). x ∷ lists) (set-middle before own after new)

same_first : (x y : Claimed) (xs ys : List Claimed) → x ∷ xs ≡ y ∷ ys → x ≡ y
same_first x y xs ys e = cc e

get_or-least : (index edit : ℕ) (lists : List (List Claimed)) (d : List Claimed) → (is : IsLeast index edit lists) → get_or lists index d ≡ is.own
get_or-least index edit lists d is =
    ap (λ (lists : List (List Claimed)). get_or lists index d) is.lists_are ∙ ap (λ n. get_or (is.before ++ is.own ∷ is.after) n d) (sym is.index_is) ∙ get_or-middle is.before is.own is.after d

not_empty : (x : Claimed) (xs : List Claimed) → x ∷ xs ≡ [] → ⊥
not_empty x xs e = cc e

-- the answer that the least of some lists begins with is the first of all; without it, the list has the rest
pub least_joined : (index edit : ℕ) (lists : List (List Claimed)) (answer : Claimed) (rest d : List Claimed) → IsLeast index edit lists → get_or lists index d ≡ answer ∷ rest
    → joined lists ≡ answer ∷ joined (set lists index rest)
least_joined index edit lists answer rest d is own =
    let at : get_or lists index d ≡ is.own = get_or-least index edit lists d is in
    let begins : answer ∷ rest ≡ is.begins.first ∷ is.begins.rest = sym own ∙ at ∙ is.begins.is in
    let own_is : is.own ≡ answer ∷ rest = sym at ∙ own in
    let first : answer ≡ is.begins.first = same_first answer is.begins.first rest is.begins.rest begins in
    let edit_is : answer.edit ≡ edit = ap (λ (answer : Claimed). answer.edit) first ∙ is.begins.edit_is in
    let more = All-tail (λ (other : Claimed). edit ≤ other.edit) answer rest (subst (AreFrom edit) own_is is.begins.least) in
    let behind = All-append (λ (other : Claimed). edit ≤ other.edit) rest (in_a_row is.after) more (all_in_a_row (λ other. edit ≤ other.edit) is.after is.others) in
    let before = all_in_a_row (λ other. edit < other.edit) is.before is.later in
    let left : set lists index rest ≡ is.before ++ rest ∷ is.after =
    ap (λ (lists : List (List Claimed)). set lists index rest) is.lists_are ∙ ap (λ n. set (is.before ++ is.own ∷ is.after) n rest) (sym is.index_is) ∙ set-middle is.before is.own is.after rest in
    let one = ap joined (is.lists_are ∙ ap (λ (own : List Claimed). is.before ++ own ∷ is.after) own_is) ∙ ap by_edit (in_a_row_parts is.before (answer ∷ rest) is.after) in
    let two = least_first (in_a_row is.before) answer (rest ++ in_a_row is.after) (subst (λ e. AreAbove e (in_a_row is.before)) (sym edit_is) before) (subst (λ e. AreFrom e (rest ++ in_a_row is.after)) (sym edit_is) behind) in
    one ∙ two ∙ ap (λ (answers : List Claimed). answer ∷ by_edit answers) (sym (in_a_row_parts is.before rest is.after)) ∙ ap (λ (lists : List (List Claimed)). answer ∷ joined lists) (sym left)

-- what is taken of the list that begins first is the first of all
pub least_taken : (index edit : ℕ) (lists : List (List Claimed)) (own new : List Claimed) (taken : Option Claimed) → IsLeast index edit lists → own ≡ get_or lists index own
    → MatchOption taken (own ≡ []) (λ answer. own ≡ answer ∷ new) → MatchOption taken (in_a_row lists ≡ []) (λ answer. joined lists ≡ answer ∷ joined (set lists index new))
least_taken index edit lists own new None is at takes =
    let there : get_or lists index own ≡ is.own = get_or-least index edit lists own is in
    absurd (not_empty is.begins.first is.begins.rest (sym is.begins.is ∙ sym there ∙ sym at ∙ takes))
least_taken index edit lists own new (Some answer) is at takes = least_joined index edit lists answer new own is (sym at ∙ takes)

-- ---- a list that is taken from its front

-- the first answer that is left of a list in order
pub begins_there : (answers : List Claimed) (taken : ℕ) (answer : Claimed) → AreInOrder answers → taken < length answers → answer ≡ get_or answers taken answer → BeginsAt answer.edit (drop taken answers)
begins_there answers taken answer order within at =
    let parts : drop taken answers ≡ answer ∷ drop (suc taken) answers = drop-cons answers taken answer within ∙ ap (λ (first : Claimed). first ∷ drop (suc taken) answers) (sym at) in
    let rises : AreInOrder (answer ∷ drop (suc taken) answers) = subst AreInOrder parts (IsNonDecreasingBy-drop (λ answer. answer.edit) taken answers order) in
    record {
      first = answer;
      rest = drop (suc taken) answers;
      is = parts;
      edit_is = refl;
      least = subst (AreFrom answer.edit) (sym parts) (order_least answer (drop (suc taken) answers) rises);
    }

-- ---- one more list

-- one that is empty fits after what was found
pub empty_fits : (answers : List Claimed) (found : Option (ℕ × ℕ)) → answers ≡ [] → MatchOption found (answers ≡ []) (λ found. AreFrom found.1 answers)
empty_fits answers None empty = empty
empty_fits answers (Some found) empty = All-same (λ other. found.1 ≤ other.edit) answers [] empty (All-nil (λ other. found.1 ≤ other.edit))

-- answers that begin at a version are all from a lower version on
pub later_fits : (answers : List Claimed) (edit least : ℕ) → BeginsAt edit answers → least ≤ edit → AreFrom least answers
later_fits answers edit least begins later =
    All-weaker (λ (other : Claimed). edit ≤ other.edit) (λ (other : Claimed). least ≤ other.edit) (λ other from. omega (arith, from, later)) answers begins.least

-- it is empty, or all of it is from there on
pub finds_kept : (lists : List (List Claimed)) (answers : List Claimed) (found : Option (ℕ × ℕ)) → FindsLeast lists found → MatchOption found (answers ≡ []) (λ found. AreFrom found.1 answers)
    → FindsLeast (lists ++ answers ∷ []) found
finds_kept lists answers None found fits = All-push (λ (answers : List Claimed). answers ≡ []) lists answers found fits
finds_kept lists answers (Some found) is fits =
    record {
      before = is.before;
      own = is.own;
      after = is.after ++ answers ∷ [];
      lists_are = ap (λ (lists : List (List Claimed)). lists ++ answers ∷ []) is.lists_are ∙ append_assoc is.before (is.own ∷ is.after) (answers ∷ []);
      index_is = is.index_is;
      begins = is.begins;
      later = is.later;
      others = All-push (AreFrom found.1) is.after answers is.others fits;
    }

-- what was found before is later than this edit
later_all : (edit : ℕ) (lists : List (List Claimed)) (found : Option (ℕ × ℕ)) → FindsLeast lists found → IfSome found (λ found. edit < found.1) → All (AreAbove edit) lists
later_all edit lists None found less =
    All-weaker (λ (answers : List Claimed). answers ≡ []) (AreAbove edit) (λ answers empty. All-same (λ other. edit < other.edit) answers [] empty (All-nil (λ other. edit < other.edit))) lists found
later_all edit lists (Some found) is less =
    let own = All-weaker (λ (other : Claimed). found.1 ≤ other.edit) (λ (other : Claimed). edit < other.edit) (λ other from. omega (arith, less, from)) is.own is.begins.least in
    let before = All-weaker (AreAbove found.1) (AreAbove edit) (λ answers. All-weaker (λ (other : Claimed). found.1 < other.edit) (λ (other : Claimed). edit < other.edit) (λ other above. omega (arith, less, above)) answers) is.before is.later in
    let after = All-weaker (AreFrom found.1) (AreAbove edit) (λ answers. All-weaker (λ (other : Claimed). found.1 ≤ other.edit) (λ (other : Claimed). edit < other.edit) (λ other from. omega (arith, less, from)) answers) is.after is.others in
    All-same (AreAbove edit) lists (is.before ++ is.own ∷ is.after) is.lists_are (All-append (AreAbove edit) is.before (is.own ∷ is.after) before (All-cons (AreAbove edit) is.own is.after own after))

-- it begins before what was found
pub finds_new : (lists : List (List Claimed)) (answers : List Claimed) (found : Option (ℕ × ℕ)) (edit : ℕ) → FindsLeast lists found → BeginsAt edit answers → IfSome found (λ found. edit < found.1)
    → IsLeast (length lists) edit (lists ++ answers ∷ [])
finds_new lists answers found edit is begins less =
    record {
      before = lists;
      own = answers;
      after = [];
      lists_are = refl;
      index_is = refl;
      begins = begins;
      later = later_all edit lists found is less;
      others = All-nil (AreFrom edit);
    }
