-- Rows with more room.
use Rattle.std.proofs.Common.{Bool, true, false, if◌then◌else◌, take, replicate, ◌-◌, zero, suc, refl, ◌≡◌, ℕ, ◌+◌, ◌*◌, ◌/◌, ◌^◌, ◌<◌, ◌≤◌, List, [], ◌∷◌, ◌++◌, length, get_or, sym, ap, ◌∙◌, subst, arith, length-append, inl, inr}
use Rattle.std.proofs.Math.Nat.{lt_of_mul-lt-mul_right}
use Rattle.std.proofs.lemmas.Bool.{cases_lt}
use Rattle.std.proofs.lemmas.List.{get_or-append_right, get_or_append_left, get_or_past, get_or_push, take_all}
use Rattle.lv_tree.specs.Rows.{row_of}
use Rattle.lv_tree.proofs.Groups.{eightfold, under_parent}

-- a loop that makes them, one for each eightfold of the groups that are left
pub record Enlarging (old : List (List ℕ)) (room : ℕ) (more : List (List ℕ)) (groups : ℕ) : Type 0 where
  pub low : groups * 8 ^ length more ≤ room
  pub high : room < groups * 8 ^ length more + 8 ^ length more
  pub group : (l m : ℕ) → l < length more → m * 8 ^ l ≤ room → m / 8 * 8 + 8 ≤ length (row_of more l)
  pub same : (l m : ℕ) → l < length more → get_or (row_of more l) m 0 ≡ get_or (row_of old l) m 0

pub enlarges_on : (old : List (List ℕ)) (room : ℕ) (more : List (List ℕ)) (groups : ℕ) (row : List ℕ) → Enlarging old room more groups → groups / 8 * 8 + 8 ≤ length row → ((m : ℕ) → get_or row m 0 ≡ get_or (row_of old (length more)) m 0) → Enlarging old room (more ++ row ∷ []) (groups / 8)
enlarges_on old room more groups row e wide equal =
    let k = length more in
    let size : length (more ++ row ∷ []) ≡ k + 1 = omega (arith, length-append more (row ∷ [])) in
    let over = under_parent groups (8 ^ k) room e.low e.high in
    let up : 8 ^ length (more ++ row ∷ []) ≡ 8 ^ k * 8 = ap (λ i. 8 ^ i) size ∙ eightfold k in
    record {
      low = subst (λ w. groups / 8 * w ≤ room) (sym up) over.0;
      high = subst (λ w. room < groups / 8 * w + w) (sym up) over.1;
      group = λ l m here few.
          elim (cases_lt l k) [
            | inl less ↦ subst (λ r. m / 8 * 8 + 8 ≤ length r) (sym (get_or_append_left more (row ∷ []) [] l less)) (e.group l m less few)
            | inr last ↦
                let is : k ≡ l = omega (arith, last, here, size) in
                let near : m < groups + 1 = lt_of_mul-lt-mul_right (8 ^ k) (let few_here : m * 8 ^ k ≤ room = subst (λ i. m * 8 ^ i ≤ room) (sym is) few in let less : m * 8 ^ k < (groups + 1) * 8 ^ k = omega (arith, few_here, e.high) in less) in
                subst (λ r. m / 8 * 8 + 8 ≤ length r) (sym (get_or_push more row [] l is)) (omega (arith, wide, near))
          ];
      same = λ l m here.
          elim (cases_lt l k) [
            | inl less ↦ ap (λ r. get_or r m 0) (get_or_append_left more (row ∷ []) [] l less) ∙ e.same l m less
            | inr last ↦
                let is : k ≡ l = omega (arith, last, here, size) in
                ap (λ r. get_or r m 0) (get_or_push more row [] l is) ∙ equal m ∙ ap (λ i. get_or (row_of old i) m 0) is
          ];
    }

zeros : (m k : ℕ) → let none : ℕ = 0 in get_or (replicate k none) m none ≡ none
zeros m zero = get_or_past [] m 0 (omega arith)
zeros zero (suc k) = refl
zeros (suc m) (suc k) = zeros m k

-- zeros behind some numbers are what is read there anyhow
pub padded : (is : Bool) (xs new : List ℕ) (n k : ℕ) → new ≡ (if is then take n xs ++ replicate k 0 else xs) → length xs ≤ n → (m : ℕ) → get_or new m 0 ≡ get_or xs m 0
padded false xs new n k e few m = ap (λ l. get_or l m 0) e
padded true xs new n k e few m =
    ap (λ l. get_or l m 0) e
    ∙ ap (λ l. get_or (l ++ replicate k 0) m 0) (take_all n xs few)
    ∙ elim (cases_lt m (length xs)) [
      | inl here ↦ get_or_append_left xs (replicate k 0) 0 m here
      | inr past ↦ get_or-append_right xs (replicate k 0) (length xs) m 0 refl past ∙ zeros (m - length xs) k ∙ sym (get_or_past xs m 0 past)
    ]
