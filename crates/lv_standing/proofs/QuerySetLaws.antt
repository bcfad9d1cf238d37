-- The notes and the answers of some queries, one query after another.
use Rattle.std.proofs.Common.{◌≡◌, ◌<◌, ◌≤◌, ◌+◌, ℕ, List, [], ◌∷◌, ◌++◌, length, take, get_or, append_assoc, ap, sym, subst, ◌∙◌, inl, inr, arith}
use Rattle.std.proofs.lemmas.List.{length-take-le, take_more}
use Rattle.lv_bodies.specs.declared.kinds.Shown.{Shown}
use Rattle.lv_standing.specs.declared.notes.Note.{Note}
use Rattle.lv_standing.specs.declared.questions.Terms.{Terms}
use Rattle.lv_standing.specs.QuerySets.{AddsDue, AreDue}

-- a list up to and with an index is the list up to it, and then the element there
next_of : {A : Type 0} (xs : List A) (i : ℕ) (x : A) → x ≡ get_or xs i x → i < length xs → take (i + 1) xs ≡ take i xs ++ x ∷ []
next_of xs i x is inside = take_more xs i x inside ∙ ap (λ y. take i xs ++ y ∷ []) (sym is)

module _ {Q : Type 0} where
  module _ (terms_of : Q → Terms) where
    -- the notes of some queries and those of one more are the notes of all
    due_more : (queries : List Q) (told answers : List Shown) (notes : List Note) (q : Q) (before answer : Shown) (more : List Note) → length told ≡ length queries → length answers ≡ length queries
        → AreDue terms_of queries told answers notes → AreDue terms_of (q ∷ []) (before ∷ []) (answer ∷ []) more → AreDue terms_of (queries ++ q ∷ []) (told ++ before ∷ []) (answers ++ answer ∷ []) (notes ++ more)
    due_more [] [] [] notes q before answer more as_told as_answers none one =
        subst (λ ns. AreDue terms_of (q ∷ []) (before ∷ []) (answer ∷ []) (ns ++ more)) (sym none) one
    due_more [] [] (v ∷ answers) notes q before answer more as_told as_answers none one = absurd (omega (arith, as_answers))
    due_more [] (b ∷ told) answers notes q before answer more as_told as_answers none one = absurd (omega (arith, as_told))
    due_more (p ∷ queries) [] answers notes q before answer more as_told as_answers none one = absurd (omega (arith, as_told))
    due_more (p ∷ queries) (b ∷ told) [] notes q before answer more as_told as_answers none one = absurd (omega (arith, as_answers))
    due_more (p ∷ queries) (b ∷ told) (v ∷ answers) notes q before answer more as_told as_answers (inl idle) one =
        inl (idle.0, due_more queries told answers notes q before answer more (omega (arith, as_told)) (omega (arith, as_answers)) idle.1 one)
    due_more (p ∷ queries) (b ∷ told) (v ∷ answers) notes q before answer more as_told as_answers (inr due) one =
        inr (due.0, due.1 ++ more, ap (λ ns. ns ++ more) due.2, due_more queries told answers due.1 q before answer more (omega (arith, as_told)) (omega (arith, as_answers)) due.3 one)

    -- if the notes of the queries before an index were appended, and then that of the query there, those of both are appended
    pub next_due : (q : Q) (before answer : Shown) (queries : List Q) (told answers : List Shown) (first notes more : List Note) (i : ℕ) → AddsDue terms_of (q ∷ []) (before ∷ []) (answer ∷ []) notes more
        → length told ≡ length queries → length answers ≡ length queries → i < length queries → q ≡ get_or queries i q → before ≡ get_or told i before → answer ≡ get_or answers i answer
        → AddsDue terms_of (take i queries) (take i told) (take i answers) first notes → AddsDue terms_of (take (i + 1) queries) (take (i + 1) told) (take (i + 1) answers) first more
    next_due q before answer queries told answers first notes more i one as_told as_answers inside q_is before_is answer_is so_far =
        let many_told : length (take i told) ≡ length (take i queries) = length-take-le i told (omega arith) ∙ sym (length-take-le i queries (omega arith)) in
        let many_answers : length (take i answers) ≡ length (take i queries) = length-take-le i answers (omega arith) ∙ sym (length-take-le i queries (omega arith)) in
        let all = due_more (take i queries) (take i told) (take i answers) so_far.added q before answer one.added many_told many_answers so_far.are one.are in
        record {
          added = so_far.added ++ one.added;
          are = rw (next_of queries i q q_is inside, next_of told i before before_is (omega arith), next_of answers i answer answer_is (omega arith)) all;
          all = one.all ∙ ap (λ ns. ns ++ one.added) so_far.all ∙ append_assoc first so_far.added one.added;
        }

    -- there are no more of them than queries
    pub few_due : (queries : List Q) (told answers : List Shown) (notes : List Note) → AreDue terms_of queries told answers notes → length notes ≤ length queries
    few_due [] told answers notes none = omega (arith, ap length none)
    few_due (q ∷ queries) [] answers notes none = omega (arith, ap length none)
    few_due (q ∷ queries) (b ∷ told) [] notes none = omega (arith, ap length none)
    few_due (q ∷ queries) (b ∷ told) (v ∷ answers) notes (inl idle) = omega (arith, few_due queries told answers notes idle.1)
    few_due (q ∷ queries) (b ∷ told) (v ∷ answers) notes (inr due) = omega (arith, ap length due.2, few_due queries told answers due.1 due.3)
