-- The steps on a book keep its rule.
use Rattle.std.proofs.Common.{◌≡◌, ◌≢◌, ℕ, ◌<◌, ◌==◌, zero, suc, true, false, List, [], ◌∷◌, ◌++◌, None, length, refl, ap, sym, ◌∙◌, subst, arith, inl, append-nil, length-set}
use Rattle.std.specs.Prelude.{slice_set}
use Rattle.std.proofs.lemmas.Bool.{true≢false}
use Rattle.std.proofs.lemmas.List.Elements.{All-push, All-same, All-weaker}
use prog.Atomic.{either}
use Rattle.logbook.specs.Pages.{Cell, Moves, Nib, Step, adds, cell, gives, keeps, may_write, no_nib}
use Rattle.lv_history.specs.declared.entries.Entry.{Entry}
use Rattle.lv_history.specs.Growing.{Adds, Grants, IsKept, IsSpent, IsUnspent, Shows}

-- clients see nothing
abbrev pub shown : List Entry → List Entry
shown log = []

-- and get nothing in return
abbrev pub moved : List Entry → List Entry → ℕ → Type 0
moved xs ys n = Unit {0}

-- a permit that is spent has a cell
spent_below : (cs : List Cell) (k : ℕ) → IsSpent cs k → k < length cs
spent_below [] k spent = absurd (true≢false (sym spent))
spent_below (c ∷ cs) zero spent = omega arith
spent_below (c ∷ cs) (suc k) spent = omega (arith, spent_below cs k spent)

-- it stays spent if a word is set
spent_set : (cs : List Cell) (i k n : ℕ) → IsSpent cs k → IsSpent (slice_set cs i (n, true)) k
spent_set [] i k n spent = absurd (true≢false (sym spent))
spent_set (c ∷ cs) zero zero n spent = refl
spent_set (c ∷ cs) zero (suc k) n spent = spent
spent_set (c ∷ cs) (suc i) zero n spent = spent
spent_set (c ∷ cs) (suc i) (suc k) n spent = spent_set cs i k n spent

-- the permit is spent by that
set_spends : (cs : List Cell) (i n : ℕ) → i < length cs → IsSpent (slice_set cs i (n, true)) i
set_spends [] i n within = absurd (omega arith)
set_spends (c ∷ cs) zero n within = refl
set_spends (c ∷ cs) (suc i) n within = set_spends cs i n (omega arith)

-- and where cells are added
spent_longer : (cs more : List Cell) (k : ℕ) → IsSpent cs k → IsSpent (cs ++ more) k
spent_longer [] more k spent = absurd (true≢false (sym spent))
spent_longer (c ∷ cs) more zero spent = spent
spent_longer (c ∷ cs) more (suc k) spent = spent_longer cs more k spent

-- what keeps all permits spent keeps the rule
still_kept : (cs ds : List Cell) (log : List Entry) → ((k : ℕ) → IsSpent cs k → IsSpent ds k) → IsKept cs log → IsKept ds (log ++ [])
still_kept cs ds log stays kept =
    record {
      first = stays 0 kept.first;
      spent = All-same (λ entry. IsSpent ds entry.by) (log ++ []) log (append-nil log) (All-weaker (λ entry. IsSpent cs entry.by) (λ entry. IsSpent ds entry.by) (λ entry. stays entry.by) log kept.spent);
    }

-- a permit whose cell isn't at home isn't spent
away_unspent : (cs : List Cell) (log : List Entry) (k : ℕ) → IsKept cs log → (cell cs k).1 ≡ false → IsUnspent k log
away_unspent cs log k kept away =
    All-weaker (λ entry. IsSpent cs entry.by) (λ entry. entry.by ≢ k) (λ entry spent same. absurd (true≢false (sym spent ∙ ap (λ k. (cell cs k).1) same ∙ away))) log kept.spent

module _ (s : Step Entry) (v : List Entry) where
  -- a step that gives a permit
  pub grants_moves : Moves IsKept shown moved 0 (v, (no_nib, None)) (λ n. either (n == 0) 0 n) (Grants s (v, (no_nib, None)))
  grants_moves cs log kept pre away =
      let n = either ((cell cs 0).0 == 0) 0 (cell cs 0).0 in
      let new : IsUnspent (length cs) log =
      All-weaker (λ entry. IsSpent cs entry.by) (λ entry. entry.by ≢ length cs) (λ entry spent same. absurd (omega (arith, spent_below cs entry.by spent, same))) log kept.spent in (
        spent_below cs 0 kept.first,
        kept.first,
        (
          adds,
          [],
          None,
          tt,
          still_kept cs (slice_set cs 0 (n, true) ++ (0, false) ∷ []) log (λ k spent. spent_longer (slice_set cs 0 (n, true)) ((0, false) ∷ []) k (spent_set cs 0 k n spent)) kept,
          inl (refl, refl),
          record { right = refl; unspent = subst (IsUnspent (length cs)) (sym (append-nil log)) new },
        ),
      )

  module _ (p : Nib) (holds : p.right ≡ may_write) where
    -- a step that shows the book to the holder of a permit
    pub shows_moves : Moves IsKept shown moved 0 (v, (p, None)) (λ n. either (n == 0) 0 n) (Shows s (v, (p, None)))
    shows_moves cs log kept pre away =
        let n = either ((cell cs 0).0 == 0) 0 (cell cs 0).0 in (
          spent_below cs 0 kept.first,
          kept.first,
          (
            keeps,
            [],
            None,
            tt,
            still_kept cs (slice_set cs 0 (n, true)) log (λ k spent. spent_set cs 0 k n spent) kept,
            inl (refl, refl),
            record { pen = refl; unspent = subst (IsUnspent p.key) (sym (append-nil log)) (away_unspent cs log p.key kept (away holds).1) },
          ),
        )

    -- a step that adds an update with the permit
    pub adds_moves : Moves IsKept shown moved 0 (v, (p, None)) (λ n. either (n == 0) 0 n) (Adds s (v, (p, None)))
    adds_moves cs log kept pre away =
        let n = either ((cell cs 0).0 == 0) 0 (cell cs 0).0 in
        let ds = slice_set (slice_set cs 0 (n, true)) p.key (p.value, true) in
        let stays : (k : ℕ) → IsSpent cs k → IsSpent ds k = λ k spent. spent_set (slice_set cs 0 (n, true)) p.key k p.value (spent_set cs 0 k n spent) in
        let entry : Entry = record { by = p.key; next = s.ask.next; edit = s.ask.edit } in (
          spent_below cs 0 kept.first,
          kept.first,
          (
            gives,
            entry ∷ [],
            None,
            holds,
            record {
              first = stays 0 kept.first;
              spent = All-push (λ entry. IsSpent ds entry.by) log entry (All-weaker (λ entry. IsSpent cs entry.by) (λ entry. IsSpent ds entry.by) (λ entry. stays entry.by) log kept.spent)
                  (set_spends (slice_set cs 0 (n, true)) p.key p.value (omega (arith, length-set cs 0 (n, true), (away holds).0)));
            },
            inl (refl, refl),
            record { before = log; seen = pre; unspent = away_unspent cs log p.key kept (away holds).1; added = refl },
          ),
        )
