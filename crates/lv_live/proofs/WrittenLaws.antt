-- What writes, one after another, make of table and claims.
use Rattle.std.proofs.Common.{◌≡◌, ℕ, ℤ, pos, ◌+◌, ◌<◌, ◌≤◌, All, Some, None, option_map, List, [], ◌∷◌, ◌++◌, length, take, get_or, slice_set, refl, sym, ap, subst, ◌∙◌, arith}
use Rattle.std.proofs.lemmas.List.{length_push, length-set, length-take-le, take_all, take_more}
use Rattle.std.proofs.lemmas.List.Elements.{All-cons, All-head, All-nil, All-tail}
use Rattle.lv_bodies.specs.Body.{Operations}
use Rattle.lv_edits.specs.declared.edit.Edit.{Edit}
use Rattle.lv_edits.specs.declared.edit.Edit.TheVariants.{Write}
use Rattle.lv_edits.specs.Batches.{verdict_of_edits, with_edits, writes_at}
use Rattle.lv_edits.specs.History.{History, list_of, replayed, with_edit}
use Rattle.lv_edits.specs.Kept.{IsLegalInLimits}
use Rattle.lv_edits.proofs.BatchLaws.{free_parts, length-edits, length-writes}
use Rattle.lv_edits.proofs.HistoryLaws.{applied_write, legal-snoc, list_of-snoc, not_refused, unrefused_write}
use Rattle.lv_summary.specs.Agrees.{Agrees}
use Rattle.lv_summary.specs.Table.{Table}
use Rattle.lv_refresh.specs.ClaimTable.{AreHints, ClaimTable, record_of}
use Rattle.lv_live.specs.Follows.{ClaimsFollow, TableFollows}
use Rattle.lv_live.specs.Kept.{IsLive}
use Rattle.lv_live.specs.State.{LiveState, Remembers, SameRefresh}
use Rattle.lv_live.specs.Written.{AreWritesAt, WritesFollow}
use Rattle.lv_live.proofs.LiveLaws.{agrees_followed, hints_followed}
use Rattle.lv_live.proofs.RememberLaws.{remembers_same}

-- one write leaves the list as long, and the journal legal
pub size_written : (h : History) (i : ℕ) (x : ℤ) → replayed h.journal ≡ Some (list_of h.journal) → i < length (list_of h.journal) → length (list_of (h.journal ++ Write i x ∷ [])) ≡ length (list_of h.journal)
size_written h i x legal inside =
    ap length (list_of-snoc h.journal (Write i x) _ legal (applied_write (list_of h.journal) i x inside)).1 ∙ length-set (list_of h.journal) i x

-- many writes leave the list as long, and the journal legal
pub record Overwritten (h new : History) (indices : List ℕ) : Type 0 where
  pub legal : replayed new.journal ≡ Some (list_of new.journal)
  pub edits : length new.journal ≡ length h.journal + length indices
  pub size : length (list_of new.journal) ≡ length (list_of h.journal)

pub overwritten : (h : History) (indices : List ℕ) (xs : List ℤ) → replayed h.journal ≡ Some (list_of h.journal) → All (λ i. i < length (list_of h.journal)) indices → length indices ≡ length xs → Overwritten h (with_edits h (writes_at indices xs)) indices
overwritten h [] xs legal inside paired = record { legal = legal; edits = omega arith; size = refl }
overwritten h (i ∷ rest) [] legal inside paired = absurd (omega (arith, paired))
overwritten h (i ∷ rest) (x ∷ xs) legal inside paired =
    let size = length (list_of h.journal) in
    let here : i < size = All-head (λ j. j < size) i rest inside in
    let same = size_written h i x legal here in
    let behind = subst (λ n. All (λ j. j < n) rest) (sym same) (All-tail (λ j. j < size) i rest inside) in
    let more = overwritten (with_edit h (Write i x)) rest xs (legal-snoc h.journal (Write i x) _ legal (applied_write (list_of h.journal) i x here)) behind (omega (arith, paired)) in
    record {
      legal = more.legal;
      edits = omega (arith, more.edits, length_push h.journal (Write i x));
      size = more.size ∙ same;
    }

-- the indices of writes that nothing refuses are those of elements
pub writes_inside : (h : History) (indices : List ℕ) (xs : List ℤ) → replayed h.journal ≡ Some (list_of h.journal) → length indices ≡ length xs → verdict_of_edits h (writes_at indices xs) ≡ None → All (λ i. i < length (list_of h.journal)) indices
writes_inside h [] xs legal paired free = All-nil (λ i. i < length (list_of h.journal))
writes_inside h (i ∷ rest) [] legal paired free = absurd (omega (arith, paired))
writes_inside h (i ∷ rest) (x ∷ xs) legal paired free =
    let parts = free_parts h (Write i x) (writes_at rest xs) free in
    let here : i < length (list_of h.journal) = unrefused_write h.limits (list_of h.journal) i x (not_refused h.limits h.journal (Write i x) parts.0).1 in
    let same = size_written h i x legal here in
    let behind = writes_inside (with_edit h (Write i x)) rest xs (legal-snoc h.journal (Write i x) _ legal (applied_write (list_of h.journal) i x here)) (omega (arith, paired)) parts.1 in
    All-cons (λ j. j < length (list_of h.journal)) i rest here (subst (λ n. All (λ j. j < n) rest) same behind)

-- accepted writes are at indices of the list
pub accepted_writes : (h : History) (indices : List ℕ) (xs : List ℤ) (edit : ℕ) → IsLegalInLimits h → length indices ≡ length xs → verdict_of_edits h (writes_at indices xs) ≡ None → edit ≡ length h.journal → AreWritesAt h indices xs edit
accepted_writes h indices xs edit limits paired free is =
    record { legal = limits.legal; inside = writes_inside h indices xs limits.legal paired free; edit_is = sym is; paired = paired }

-- and leave a journal as long as a vector may have it
pub writes_fit : (h new : History) (indices : List ℕ) (xs : List ℤ) → IsLegalInLimits new → new ≡ with_edits h (writes_at indices xs) → length indices ≡ length xs → length h.journal + length indices ≤ 16777215
writes_fit h new indices xs limits is paired =
    omega (arith, limits.edits, limits.allowed.few_edits, ap (λ (g : History). length g.journal) is, length-edits h (writes_at indices xs), length-writes indices xs paired)

-- edits, and then others, are all of them
with_edits-append : (h : History) (es fs : List Edit) → with_edits h (es ++ fs) ≡ with_edits (with_edits h es) fs
with_edits-append h [] fs = refl
with_edits-append h (e ∷ es) fs = with_edits-append (with_edit h e) es fs

-- writes with one more behind them
writes_at-more : (indices : List ℕ) (i : ℕ) (xs : List ℤ) (x : ℤ) → length indices ≡ length xs → writes_at (indices ++ i ∷ []) (xs ++ x ∷ []) ≡ writes_at indices xs ++ Write i x ∷ []
writes_at-more [] i [] x paired = refl
writes_at-more [] i (y ∷ xs) x paired = absurd (omega (arith, paired))
writes_at-more (j ∷ rest) i [] x paired = absurd (omega (arith, paired))
writes_at-more (j ∷ rest) i (y ∷ xs) x paired = ap (λ es. Write j y ∷ es) (writes_at-more rest i xs x (omega (arith, paired)))

-- a list that isn't empty is what is before its last, and its last
last_apart : (xs : List ℤ) (k : ℕ) → length xs ≡ k + 1 → xs ≡ take k xs ++ get_or xs k (pos 0) ∷ []
last_apart xs k long = sym (take_all (k + 1) xs (omega (arith, long))) ∙ take_more xs k (pos 0) (omega (arith, long))

-- what holds of all elements and one more holds of all elements, and of the one
All-front : (P : ℕ → Type 0) (xs : List ℕ) (x : ℕ) → All P (xs ++ x ∷ []) → All P xs × P x
All-front P [] x all = (All-nil P, All-head P x [] all)
All-front P (y ∷ xs) x all =
    let rest = All-front P xs x (All-tail P y (xs ++ x ∷ []) all) in
    (All-cons P y xs (All-head P y (xs ++ x ∷ []) all) rest.0, rest.1)

module _ {S : Type 0} where
  -- nothing was written yet
  pub WritesFollow-none : (t : Table S) (c : ClaimTable) (edit : ℕ) → WritesFollow t t c c [] edit
  WritesFollow-none t c edit =
      record {
        size = refl;
        blocks = refl;
        kept = λ n. refl;
        claims = record { claimed = λ n. refl; hints = λ n is. is; more = omega arith };
        agrees = λ o h xs are agrees. agrees;
        hints = λ o h xs are agrees hints. hints;
      }

  module _ (t u v : Table S) (c d e : ClaimTable) (indices : List ℕ) (i edit number : ℕ) (before : WritesFollow t u c d indices edit) (number_is : number ≡ edit + length indices + 1) (table : TableFollows u v (i ∷ []) number t.size) (claims : ClaimsFollow d e (i ∷ [])) where
    -- a write behind others
    record Split (h : History) (xs : List ℤ) : Type 0 where
      front : List ℤ
      last : ℤ
      writes : AreWritesAt h indices front edit
      made : Overwritten h (with_edits h (writes_at indices front)) indices
      inside : i < length (list_of (with_edits h (writes_at indices front)).journal)
      whole : with_edits h (writes_at (indices ++ i ∷ []) xs) ≡ with_edit (with_edits h (writes_at indices front)) (Write i last)

    split : (h : History) (xs : List ℤ) → AreWritesAt h (indices ++ i ∷ []) xs edit → Split h xs
    split h xs are =
        let k = length indices in
        let long : length xs ≡ k + 1 = omega (arith, are.paired, length_push indices i) in
        let front = take k xs in
        let last = get_or xs k (pos 0) in
        let paired : k ≡ length front = sym (length-take-le k xs (omega (arith, long))) in
        let parts = All-front (λ j. j < length (list_of h.journal)) indices i are.inside in
        let made = overwritten h indices front are.legal parts.0 paired in
        record {
          front = front;
          last = last;
          writes = record { legal = are.legal; inside = parts.0; edit_is = are.edit_is; paired = paired };
          made = made;
          inside = omega (arith, parts.1, made.size);
          whole =
              ap (λ ys. with_edits h (writes_at (indices ++ i ∷ []) ys)) (last_apart xs k long)
              ∙ ap (with_edits h) (writes_at-more indices i front last paired)
              ∙ with_edits-append h (writes_at indices front) (Write i last ∷ []);
        }

    -- the number and the size that they heard of are those after the write
    heard : (h m : History) (x : ℤ) → length h.journal ≡ edit → Overwritten h m indices → t.size ≡ length (list_of h.journal) → TableFollows u v (i ∷ []) (length m.journal + 1) (length (slice_set (list_of m.journal) i x))
    heard h m x edit_is made size_is =
        let last : number ≡ length m.journal + 1 = omega (arith, number_is, edit_is, made.edits) in
        let size : t.size ≡ length (slice_set (list_of m.journal) i x) = size_is ∙ sym made.size ∙ sym (length-set (list_of m.journal) i x) in
        subst (λ k. TableFollows u v (i ∷ []) k (length (slice_set (list_of m.journal) i x))) last (subst (TableFollows u v (i ∷ []) number) size table)

    -- table and claims that followed writes, and then one more, followed all
    pub WritesFollow-more : WritesFollow t v c e (indices ++ i ∷ []) edit
    WritesFollow-more =
        record {
          size = table.2.size_is;
          blocks = table.2.blocks ∙ table.1.blocks ∙ before.blocks;
          kept = λ n. table.2.kept n ∙ table.1.kept n ∙ before.kept n;
          claims = record {
            claimed = λ n. claims.alike.claimed n ∙ before.claims.claimed n;
            hints = λ n was. claims.alike.hints n (before.claims.hints n was);
            more = omega (arith, claims.alike.more, before.claims.more);
          };
          agrees = λ o h xs are agrees.
              let parts = split h xs are in
              let m = with_edits h (writes_at indices parts.front) in
              subst (λ (g : History). Agrees o g.journal v) (sym parts.whole)
              (agrees_followed o m.journal (Write i parts.last) _ u v (i ∷ []) parts.made.legal (applied_write (list_of m.journal) i parts.last parts.inside) refl (before.agrees o h parts.front parts.writes agrees) (heard h m parts.last are.edit_is parts.made agrees.size));
          hints = λ o h xs are agrees hints.
              let parts = split h xs are in
              let m = with_edits h (writes_at indices parts.front) in
              subst (λ (g : History). AreHints (record_of g.journal v e) e) (sym parts.whole)
              (hints_followed o m.journal (Write i parts.last) _ u v d e (i ∷ []) parts.made.legal (applied_write (list_of m.journal) i parts.last parts.inside) refl (before.agrees o h parts.front parts.writes agrees) (heard h m parts.last are.edit_is parts.made agrees.size) claims (before.hints o h parts.front parts.writes agrees hints));
        }

module _ {B S : Type 0} (s : LiveState B S) (indices : List ℕ) (xs : List ℤ) (h : History) (u : Table S) (d : ClaimTable) (edit : ℕ) (is : h ≡ with_edits s.history (writes_at indices xs)) (are : AreWritesAt s.history indices xs edit) (follows : WritesFollow s.table u s.claims d indices edit) where
  -- accepted writes, followed by table and claims, keep all
  pub live_after_writes : (o : Operations S) → IsLive o s → IsLegalInLimits h → IsLive o (record s { history = h; table = u; claims = d })
  live_after_writes o live limits =
      let journal = ap (λ (h : History). h.journal) is in
      record {
        limits = limits;
        agrees = rw journal (follows.agrees o s.history xs are live.agrees);
        hints = rw journal (follows.hints o s.history xs are live.agrees live.hints);
        grown = omega (arith, follows.size, live.grown, follows.claims.more);
      }

  -- and leave what is claimed and kept
  pub same_refresh_written : SameRefresh s (record s { history = h; table = u; claims = d })
  same_refresh_written =
      record {
        body = refl;
        claimed = follows.claims.claimed;
        kept = λ n. ap (option_map (λ (kept : ℕ × S). kept.0)) (follows.kept n);
      }

  -- and nodes that they don't touch stay fresh
  pub remembers_written : (o : Operations S) → IsLive o s → IsLive o (record s { history = h; table = u; claims = d }) → Remembers s (record s { history = h; table = u; claims = d })
  remembers_written o live after =
      remembers_same o s (record s { history = h; table = u; claims = d }) live after follows.kept
