-- What more bytes add to the lines of an input.
use Rattle.std.proofs.Common.{◌≡◌, ◌<◌, ℕ, suc, zero, ◌+◌, ◌-◌, ◌≤◌, ◌==◌, true, false, List, [], ◌∷◌, ◌++◌, length, take, map, refl, sym, ap, ◌∙◌, inl, inr, arith, append_assoc, append-nil}
use Rattle.std.proofs.lemmas.Bool.{cases_Bool, eqb-true}
use Rattle.std.proofs.Math.Seq.{take-append-add, take-nil}
use Rattle.lv_lines.specs.Input.{begun_with, put_before, lines_of, whole_lines_of, has_end, unended_of, last_line}

-- ---- bytes without LF

-- if there is no LF, the first byte is none, and none follows
has_end-cons : (b : ℕ) (bs : List ℕ) → has_end (b ∷ bs) ≡ false → ((b == 10) ≡ false) × (has_end bs ≡ false)
has_end-cons b bs none =
    elim (cases_Bool (b == 10)) [
      | inl ends ↦ absurd (cc (rw ends at none))
      | inr other ↦ (other, rw other at none)
    ]

-- bytes without LF are no whole line
pub whole_lines_of-begun : (xs : List ℕ) → has_end xs ≡ false → whole_lines_of xs ≡ []
whole_lines_of-begun [] none = refl
whole_lines_of-begun (b ∷ bs) none =
    let parts = has_end-cons b bs none in rw (parts.0, whole_lines_of-begun bs parts.1) refl

-- and all of them are after the last LF
pub unended_of-begun : (xs : List ℕ) → has_end xs ≡ false → unended_of xs ≡ xs
unended_of-begun [] none = refl
unended_of-begun (b ∷ bs) none = rw none refl

-- there is no LF after the last
pub has_end-unended_of : (xs : List ℕ) → has_end (unended_of xs) ≡ false
has_end-unended_of [] = refl
has_end-unended_of (b ∷ bs) =
    elim (cases_Bool (has_end (b ∷ bs))) [
      | inl some ↦ rw some (has_end-unended_of bs)
      | inr none ↦ rw none none
    ]

-- an LF among bytes ends a line
whole_lines_of-some : (xs : List ℕ) → has_end xs ≡ true → (line : List ℕ) × (lines : List (List ℕ)) × (whole_lines_of xs ≡ line ∷ lines)
whole_lines_of-some [] some = absurd (cc)
whole_lines_of-some (b ∷ bs) some =
    elim (cases_Bool (b == 10)) [
      | inl ends ↦ ([], whole_lines_of bs, rw ends refl)
      | inr other ↦
          let rest = whole_lines_of-some bs (rw other at some) in
          (b ∷ rest.0, rest.1, rw (other, rest.2) refl)
    ]

-- one more byte that is no LF
has_end-push : (xs : List ℕ) (b : ℕ) → has_end xs ≡ false → (b == 10) ≡ false → has_end (xs ++ b ∷ []) ≡ false
has_end-push [] b none other = rw other refl
has_end-push (x ∷ xs) b none other =
    let parts = has_end-cons x xs none in rw (parts.0, has_end-push xs b parts.1 other) refl

-- ---- more bytes

-- a byte is put before the first of more lines, too
put_before-append : (b : ℕ) (lines more : List (List ℕ)) (line : List ℕ) (rest : List (List ℕ)) → lines ≡ line ∷ rest → put_before b (lines ++ more) ≡ put_before b lines ++ more
put_before-append b lines more line rest e = rw e refl

-- more bytes end the lines that they end together with what stood after the last LF
pub whole_lines_of-append : (xs ys : List ℕ) → whole_lines_of (xs ++ ys) ≡ whole_lines_of xs ++ whole_lines_of (unended_of xs ++ ys)
whole_lines_of-append [] ys = refl
whole_lines_of-append (b ∷ bs) ys =
    elim (cases_Bool (b == 10)) [
      | inl ends ↦ rw (ends, whole_lines_of-append bs ys) refl
      | inr other ↦
          elim (cases_Bool (has_end bs)) [
            | inl some ↦
                let lines = whole_lines_of-some bs some in
                rw (other, some, whole_lines_of-append bs ys) (put_before-append b _ _ _ _ lines.2)
            | inr none ↦ rw (other, none, whole_lines_of-begun bs none) (rw other refl)
          ]
    ]

-- what has an LF has one with more bytes
has_end-append : (xs ys : List ℕ) → has_end xs ≡ true → has_end (xs ++ ys) ≡ true
has_end-append [] ys some = absurd (cc)
has_end-append (b ∷ bs) ys some =
    elim (cases_Bool (b == 10)) [
      | inl ends ↦ rw ends refl
      | inr other ↦ rw other (has_end-append bs ys (rw other at some))
    ]

-- bytes without LF, and more of them
pub has_end-append_none : (xs ys : List ℕ) → has_end xs ≡ false → has_end (xs ++ ys) ≡ has_end ys
has_end-append_none [] ys none = refl
has_end-append_none (b ∷ bs) ys none =
    let parts = has_end-cons b bs none in rw (parts.0, has_end-append_none bs ys parts.1) refl

-- the bytes after the last LF, if more bytes follow
pub unended_of-append : (xs ys : List ℕ) → unended_of (xs ++ ys) ≡ unended_of (unended_of xs ++ ys)
unended_of-append [] ys = refl
unended_of-append (b ∷ bs) ys =
    elim (cases_Bool (has_end (b ∷ bs))) [
      | inl some ↦ rw (some, has_end-append (b ∷ bs) ys some) (unended_of-append bs ys)
      | inr none ↦ rw none refl
    ]

-- an LF after bytes without one ends them as a line
pub whole_lines_of-ended : (xs ys : List ℕ) → has_end xs ≡ false → whole_lines_of (xs ++ 10 ∷ ys) ≡ xs ∷ whole_lines_of ys
whole_lines_of-ended [] ys none = refl
whole_lines_of-ended (b ∷ bs) ys none =
    let parts = has_end-cons b bs none in rw (parts.0, whole_lines_of-ended bs ys parts.1) refl

-- an LF among bytes
has_end-middle : (xs ys : List ℕ) → has_end (xs ++ 10 ∷ ys) ≡ true
has_end-middle [] ys = refl
has_end-middle (b ∷ bs) ys =
    elim (cases_Bool (b == 10)) [
      | inl ends ↦ rw ends refl
      | inr other ↦ rw other (has_end-middle bs ys)
    ]

-- no bytes before an LF are after the last LF
pub unended_of-ended : (xs ys : List ℕ) → unended_of (xs ++ 10 ∷ ys) ≡ unended_of ys
unended_of-ended [] ys = refl
unended_of-ended (b ∷ bs) ys =
    let some : has_end ((b ∷ bs) ++ 10 ∷ ys) ≡ true = has_end-middle (b ∷ bs) ys in rw some (unended_of-ended bs ys)

-- the bytes after the last LF, if there are any
pub last_line-some : (xs : List ℕ) → (length xs == 0) ≡ false → last_line xs ≡ xs ∷ []
last_line-some [] some = absurd (cc)
last_line-some (b ∷ bs) some = refl

-- and if what is kept of it isn't
pub last_line-kept : (n : ℕ) (xs kept : List ℕ) → kept ≡ take n xs → (length kept == 0) ≡ false → last_line xs ≡ xs ∷ []
last_line-kept n [] kept is some = absurd (cc (rw (is, take-nil n) at some))
last_line-kept n (b ∷ bs) kept is some = refl

-- there is none if nothing is kept of it, if anything would be
pub last_line-none : (n : ℕ) (xs kept : List ℕ) → 0 < n → kept ≡ take n xs → (length kept == 0) ≡ true → last_line xs ≡ []
last_line-none n [] kept many is none = refl
last_line-none zero (b ∷ bs) kept many is none = absurd (omega arith)
last_line-none (suc n) (b ∷ bs) kept many is none = absurd (omega (arith, ap length is, eqb-true (length kept) 0 none))

-- a byte that begins the last line
begun_with-last_line : (b : ℕ) (bs : List ℕ) → begun_with b (last_line bs) ≡ (b ∷ bs) ∷ []
begun_with-last_line b [] = refl
begun_with-last_line b (c ∷ cs) = refl

-- the lines of an input are those that are ended, and the bytes after the last LF
pub lines_of-parts : (xs : List ℕ) → lines_of xs ≡ whole_lines_of xs ++ last_line (unended_of xs)
lines_of-parts [] = refl
lines_of-parts (b ∷ bs) =
    elim (cases_Bool (b == 10)) [
      | inl ends ↦ rw (ends, lines_of-parts bs) refl
      | inr other ↦
          elim (cases_Bool (has_end bs)) [
            | inl some ↦
                let lines = whole_lines_of-some bs some in
                rw (other, some, lines_of-parts bs, lines.2) refl
            | inr none ↦ rw (other, none, lines_of-parts bs, whole_lines_of-begun bs none, unended_of-begun bs none) (begun_with-last_line b bs)
          ]
    ]

-- ---- how many

-- a byte put before the first line makes no line
length-put_before : (b : ℕ) (lines : List (List ℕ)) → length (put_before b lines) ≡ length lines
length-put_before b [] = refl
length-put_before b (line ∷ lines) = refl

-- each line is ended by a byte of its own
pub length-whole_lines_of : (xs : List ℕ) → length (whole_lines_of xs) ≤ length xs
length-whole_lines_of [] = omega arith
length-whole_lines_of (b ∷ bs) =
    elim (cases_Bool (b == 10)) [
      | inl ends ↦ rw ends (omega (arith, length-whole_lines_of bs))
      | inr other ↦ rw (other, length-put_before) (omega (arith, length-whole_lines_of bs))
    ]

-- and so bytes without LF before the others are not counted
pub length-whole_lines_of-begun : (xs ys : List ℕ) → has_end xs ≡ false → length (whole_lines_of (xs ++ ys)) ≤ length ys
length-whole_lines_of-begun [] ys none = length-whole_lines_of ys
length-whole_lines_of-begun (b ∷ bs) ys none =
    let parts = has_end-cons b bs none in rw (parts.0, length-put_before) (length-whole_lines_of-begun bs ys parts.1)

-- ---- the first bytes of lines

-- the first n bytes, with more
pub take-append_cong : (n : ℕ) (xs ys more : List ℕ) → take n xs ≡ take n ys → take n (xs ++ more) ≡ take n (ys ++ more)
take-append_cong zero xs ys more same = refl
take-append_cong (suc n) [] [] more same = refl
take-append_cong (suc n) [] (y ∷ ys) more same = absurd (cc)
take-append_cong (suc n) (x ∷ xs) [] more same = absurd (cc)
take-append_cong (suc n) (x ∷ xs) (y ∷ ys) more same =
    let head : x ≡ y = cc in
    let tail : take n xs ≡ take n ys = cc in
    rw (head, take-append_cong n xs ys more tail) refl

-- so many more as there is room for
pub take-append_room : (n : ℕ) (xs ys : List ℕ) → length xs ≤ n → take n (xs ++ ys) ≡ xs ++ take (n - length xs) ys
take-append_room n xs ys short =
    let same : length xs + (n - length xs) ≡ n = omega arith in rw same at (take-append-add xs ys (n - length xs))

-- the lines that bytes end after the start of a line depend, in their first n bytes, only on its first n bytes
pub whole_lines_of-front : (n : ℕ) (xs ys more : List ℕ) → has_end xs ≡ false → has_end ys ≡ false → take n xs ≡ take n ys
    → map (take n) (whole_lines_of (xs ++ more)) ≡ map (take n) (whole_lines_of (ys ++ more))
whole_lines_of-front n xs ys [] left right same =
    rw (append-nil xs, append-nil ys, whole_lines_of-begun xs left, whole_lines_of-begun ys right) refl
whole_lines_of-front n xs ys (b ∷ bs) left right same =
    elim (cases_Bool (b == 10)) [
      | inl ends ↦
          rw (eqb-true b 10 ends, whole_lines_of-ended xs bs left, whole_lines_of-ended ys bs right)
          (ap (λ (line : List ℕ). line ∷ map (take n) (whole_lines_of bs)) same)
      | inr other ↦
          rw (← append_assoc xs (b ∷ []) bs, ← append_assoc ys (b ∷ []) bs)
          (whole_lines_of-front n (xs ++ b ∷ []) (ys ++ b ∷ []) bs
          (has_end-push xs b left other) (has_end-push ys b right other) (take-append_cong n xs ys (b ∷ []) same))
    ]

-- the first n bytes that they leave after the last LF depend only on those bytes too
pub unended_of-front : (n : ℕ) (xs ys more : List ℕ) → has_end xs ≡ false → has_end ys ≡ false → take n xs ≡ take n ys
    → take n (unended_of (xs ++ more)) ≡ take n (unended_of (ys ++ more))
unended_of-front n xs ys [] left right same =
    rw (append-nil xs, append-nil ys, unended_of-begun xs left, unended_of-begun ys right) same
unended_of-front n xs ys (b ∷ bs) left right same =
    elim (cases_Bool (b == 10)) [
      | inl ends ↦ rw (eqb-true b 10 ends, unended_of-ended xs bs, unended_of-ended ys bs) refl
      | inr other ↦
          rw (← append_assoc xs (b ∷ []) bs, ← append_assoc ys (b ∷ []) bs)
          (unended_of-front n (xs ++ b ∷ []) (ys ++ b ∷ []) bs
          (has_end-push xs b left other) (has_end-push ys b right other) (take-append_cong n xs ys (b ∷ []) same))
    ]

-- the first bytes of bytes without LF have none
pub has_end-take : (n : ℕ) (xs : List ℕ) → has_end xs ≡ false → has_end (take n xs) ≡ false
has_end-take zero xs none = refl
has_end-take (suc n) [] none = refl
has_end-take (suc n) (b ∷ bs) none =
    let parts = has_end-cons b bs none in rw (parts.0, has_end-take n bs parts.1) refl

-- ---- for callers: prefixes of an input, one more byte, an input that ends in LF

-- the lines of an input are those that a prefix of it ends, and then those of the bytes after them
pub lines_of-append : (xs ys : List ℕ) → lines_of (xs ++ ys) ≡ whole_lines_of xs ++ lines_of (unended_of xs ++ ys)
lines_of-append xs ys =
    lines_of-parts (xs ++ ys) ∙ ap (λ (lines : List (List ℕ)). lines ++ last_line (unended_of (xs ++ ys))) (whole_lines_of-append xs ys)
    ∙ append_assoc (whole_lines_of xs) (whole_lines_of (unended_of xs ++ ys)) (last_line (unended_of (xs ++ ys)))
    ∙ ap (λ (lines : List (List ℕ)). whole_lines_of xs ++ lines)
    (ap (λ (line : List ℕ). whole_lines_of (unended_of xs ++ ys) ++ last_line line) (unended_of-append xs ys) ∙ sym (lines_of-parts (unended_of xs ++ ys)))

-- the lines of an input that ends in LF are all whole
pub lines_of-ended : (xs : List ℕ) → lines_of (xs ++ 10 ∷ []) ≡ whole_lines_of (xs ++ 10 ∷ [])
lines_of-ended xs = rw (lines_of-parts (xs ++ 10 ∷ []), unended_of-ended xs []) (append-nil _)

-- one more LF ends what stood after the last
pub whole_lines_of-push_end : (xs : List ℕ) → whole_lines_of (xs ++ 10 ∷ []) ≡ whole_lines_of xs ++ unended_of xs ∷ []
whole_lines_of-push_end xs =
    rw (whole_lines_of-append xs (10 ∷ []), whole_lines_of-ended (unended_of xs) [] (has_end-unended_of xs)) refl
