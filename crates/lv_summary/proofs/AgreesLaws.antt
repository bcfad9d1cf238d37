-- How a table goes on agreeing with the edits: from the empty table, by growth, by a summary that is installed, and by
-- one more edit.
use Rattle.std.proofs.Common.{◌≡◌, ℕ, ℤ, ◌+◌, ◌≤◌, true, Bool, false, ◌&&◌, ◌||◌, cond, if◌then◌else◌, Some, None, List, [], ◌∷◌, ◌++◌, length, refl, sym, ap, ◌∙◌, inl, inr, arith}
use Rattle.std.proofs.lemmas.Bool.{cases_Bool, cond-false, cond-true}
use Rattle.std.proofs.lemmas.List.{length_push}
use Rattle.std.proofs.lemmas.Option.{none-some, same_Some}
use Rattle.std.specs.List.{list_any}
use Rattle.lv_geometry.specs.declared.nodes.Node.{Node}
use Rattle.lv_geometry.specs.Nodes.{covers, is_below, is_node, same_node}
use Rattle.lv_bodies.specs.Body.{Operations, fold_of}
use Rattle.lv_edits.specs.declared.edit.Edit.{Edit}
use Rattle.lv_edits.specs.History.{applied, list_of, replayed}
use Rattle.lv_edits.specs.Touch.{elements_under, indices_written, is_whole, touches}
use Rattle.lv_edits.proofs.HistoryLaws.{list_of_replayed, list_of-snoc, replayed-nil}
use Rattle.lv_edits.proofs.TouchLaws.{touched_by-le, touched_by-none, touched_by-snoc, untouched_keeps}
use Rattle.lv_summary.specs.Agrees.{Agrees}
use Rattle.lv_summary.specs.Changes.{AnswersAlike, HasSize, Keeps, Touches, TouchesEach}
use Rattle.lv_summary.specs.Table.{Table, entry_in, kept_in, touched_in, whole_in}
use Rattle.lv_summary.proofs.TableLaws.{entry_in-kept, entry_parts, entry_stays, node_of_whole, same_node-eq, whole_in-size}

-- what an edit makes of a table: it has the size of the list, and the nodes that the edit touches have its number; what is
-- kept stays
record IsStep {S : Type 0} (es : List Edit) (e : Edit) (ys : List ℤ) (old new : Table S) : Type 0 where
  size : new.size ≡ length ys
  touched : (n : Node) → is_node n ≡ true → touched_in new n ≡ (if touches (list_of es) e n then length es + 1 else touched_in old n)
  kept : (n : Node) → kept_in new n ≡ kept_in old n

-- if no index was touched nothing has changed
pub TouchesEach-none : {S : Type 0} (t : Table S) (edit : ℕ) → TouchesEach t t [] edit
TouchesEach-none t edit = record {
  size = refl;
  blocks = refl;
  touched = λ n. no_one (is_node n) edit (touched_in t n);
  kept = λ n. refl;
}
  where
    no_one : (node : Bool) (edit before : ℕ) → before ≡ cond (node && false) edit before
    no_one true edit before = refl
    no_one false edit before = refl

-- what is touched at an index, and then at others, by the same edit
touched_next : (node here later : Bool) (edit before : ℕ) → cond (node && later) edit (cond (node && here) edit before) ≡ cond (node && (here || later)) edit before
touched_next false here later edit before = refl
touched_next true true true edit before = refl
touched_next true true false edit before = refl
touched_next true false later edit before = refl

-- one index more that the same edit touched before the others
pub TouchesEach-next : {S : Type 0} (old mid new : Table S) (i : ℕ) (rest : List ℕ) (edit : ℕ) → Touches old mid i edit → TouchesEach mid new rest edit → TouchesEach old new (i ∷ rest) edit
TouchesEach-next old mid new i rest edit first others = record {
  size = others.size ∙ first.size;
  blocks = others.blocks ∙ first.blocks;
  touched = λ n.
      others.touched n
      ∙ ap (cond (is_node n && list_any (covers n) rest) edit) (first.touched n)
      ∙ touched_next (is_node n) (covers n i) (list_any (covers n) rest) edit (touched_in old n);
  kept = λ n. others.kept n ∙ first.kept n;
}

module _ {S : Type 0} (o : Operations S) where
  -- the empty table agrees with no edits
  pub agrees_empty : (t : Table S) → t.size ≡ 0 → ((n : Node) → touched_in t n ≡ 0) → ((n : Node) → kept_in t n ≡ None) → Agrees o [] t
  agrees_empty t size touched kept =
      record {
        size = size ∙ ap length (sym (list_of_replayed [] [] replayed-nil));
        touched = λ n node. touched n ∙ sym (touched_by-none n);
        versions = λ n version s is. absurd (none-some (version, s) (sym (kept n) ∙ is));
        folds = λ n s is. absurd (none-some (touched_in t n, s) (sym (kept n) ∙ (entry_parts t n s is).1));
      }

  -- whole nodes are the same by the edits and by a table that agrees
  pub whole_agrees : (es : List Edit) (t : Table S) → Agrees o es t → (n : Node) → is_whole es n ≡ whole_in t n
  whole_agrees es t agrees n = ap (λ size. is_node n && is_below n size) (sym agrees.size)

  -- a table that answers like one that agrees, agrees
  pub agrees_alike : (es : List Edit) (old new : Table S) → AnswersAlike old new → Agrees o es old → Agrees o es new
  agrees_alike es old new alike agrees =
      record {
        size = alike.size ∙ agrees.size;
        touched = λ n node. alike.touched n ∙ agrees.touched n node;
        versions = λ n version s is. agrees.versions n version s (sym (alike.kept n) ∙ is);
        folds = λ n s is. agrees.folds n s (sym (entry_stays old new n (whole_in-size old new alike.size n) (alike.touched n) (alike.kept n)).1 ∙ is);
      }

  -- a table agrees after the fold of a whole node's elements was put in place, at the number of the edit that touched it last
  pub agrees_installed : (es : List Edit) (old new : Table S) (n : Node) (v : ℕ) (s : S) → Agrees o es old → Keeps old new n v s → whole_in old n ≡ true → touched_in old n ≡ v → s ≡ fold_of o (elements_under es n) → Agrees o es new
  agrees_installed es old new n v s agrees keeps whole touched folded =
      record {
        size = keeps.size ∙ agrees.size;
        touched = λ m node. keeps.touched m ∙ agrees.touched m node;
        versions = λ m version s' is. elim (cases_Bool (same_node m n)) [
          | inl same ↦
              let now : (v, s) ≡ (version, s') = same_Some _ _ (sym (keeps.kept m ∙ cond-true _ _ _ same) ∙ is) in
              omega (arith, ap (λ (kept : ℕ × S). kept.0) now, touched, agrees.touched n (node_of_whole old n whole), touched_by-le es n)
          | inr other ↦ agrees.versions m version s' (sym (keeps.kept m ∙ cond-false _ _ _ other) ∙ is)
        ];
        folds = λ m s' is. elim (cases_Bool (same_node m n)) [
          | inl same ↦
              let one = same_node-eq m n same in
              let here : entry_in new n ≡ Some s' = ap (entry_in new) (sym one) ∙ is in
              same_Some _ _ (sym here ∙ entry_in-kept old new n v s keeps whole touched) ∙ folded ∙ ap (λ m. fold_of o (elements_under es m)) (sym one)
          | inr other ↦
              agrees.folds m s'
              (sym (entry_stays old new m (whole_in-size old new keeps.size m) (keeps.touched m) (keeps.kept m ∙ cond-false _ _ _ other)).1 ∙ is)
        ];
      }

  -- an edit did not touch a node that has a version of its touched number after it: no version was that of an edit to come
  untouched_of_version : (es : List Edit) (e : Edit) (ys : List ℤ) (old new : Table S) → IsStep es e ys old new → (n : Node) → is_node n ≡ true → touched_in new n ≤ length es → touches (list_of es) e n ≡ false
  untouched_of_version es e ys old new step n node early =
      elim (cases_Bool (touches (list_of es) e n)) [
        | inr untouched ↦ untouched
        | inl touched ↦ let at : touched_in new n ≡ length es + 1 = step.touched n node ∙ cond-true _ _ _ touched in absurd (omega arith)
      ]

  -- a summary of a node that is fresh after an edit was its summary before, and it is still the fold of its node's elements
  fold_after : (es : List Edit) (e : Edit) (ys : List ℤ) (old new : Table S) → replayed es ≡ Some (list_of es) → applied (list_of es) e ≡ Some ys → Agrees o es old → IsStep es e ys old new → (n : Node) (s : S) → entry_in new n ≡ Some s → s ≡ fold_of o (elements_under (es ++ e ∷ []) n)
  fold_after es e ys old new legal possible agrees step n s is =
      let parts = entry_parts new n s is in
      let node = node_of_whole new n parts.0 in
      let size : new.size ≡ length (list_of (es ++ e ∷ [])) = step.size ∙ ap length (sym (list_of-snoc es e ys legal possible).1) in
      let whole : is_whole (es ++ e ∷ []) n ≡ true = ap (λ size. is_node n && is_below n size) (sym size) ∙ parts.0 in
      let early : touched_in new n ≤ length es = agrees.versions n (touched_in new n) s (sym (step.kept n) ∙ parts.1) in
      let untouched = untouched_of_version es e ys old new step n node early in
      let before = untouched_keeps es e ys n legal possible untouched whole in
      let touched : touched_in new n ≡ touched_in old n = step.touched n node ∙ cond-false _ _ _ untouched in
      let whole_before : whole_in old n ≡ true = ap (λ size. is_node n && is_below n size) agrees.size ∙ before.0 in
      let same = entry_stays old new n (parts.0 ∙ sym whole_before) touched (step.kept n) in
      agrees.folds n s (sym same.1 ∙ is) ∙ ap (fold_of o) (sym before.1)

  -- a table goes on agreeing with the edits after one more
  agrees_after : (es : List Edit) (e : Edit) (ys : List ℤ) (old new : Table S) → replayed es ≡ Some (list_of es) → applied (list_of es) e ≡ Some ys → Agrees o es old → IsStep es e ys old new → Agrees o (es ++ e ∷ []) new
  agrees_after es e ys old new legal possible agrees step =
      record {
        size = step.size ∙ ap length (sym (list_of-snoc es e ys legal possible).1);
        touched = λ n node. step.touched n node ∙ ap (λ edit. cond (touches (list_of es) e n) (length es + 1) edit) (agrees.touched n node) ∙ sym (touched_by-snoc es e n);
        versions = λ n version s is. omega (arith, agrees.versions n version s (sym (step.kept n) ∙ is), length_push es e);
        folds = fold_after es e ys old new legal possible agrees step;
      }

  -- a table agrees after an edit, once the indices at which it writes were touched and the size set
  pub agrees_after_touches : (es : List Edit) (e : Edit) (ys : List ℤ) (old mid new : Table S) → replayed es ≡ Some (list_of es) → applied (list_of es) e ≡ Some ys → Agrees o es old → TouchesEach old mid (indices_written (list_of es) e) (length es + 1) → HasSize mid new (length ys) → Agrees o (es ++ e ∷ []) new
  agrees_after_touches es e ys old mid new legal possible agrees touch sized =
      agrees_after es e ys old new legal possible agrees record {
        size = sized.size_is;
        touched = λ n node.
            sized.touched n
            ∙ touch.touched n
            ∙ ap (λ b. cond (b && touches (list_of es) e n) (length es + 1) (touched_in old n)) node;
        kept = λ n. sized.kept n ∙ touch.kept n;
      }
