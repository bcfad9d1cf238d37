-- How a table goes on agreeing with the edits through pushes whose indices are all of one block.
use Rattle.std.proofs.Common.{◌≡◌, ℕ, ℤ, ◌+◌, ◌<◌, ◌≤◌, true, false, ◌&&◌, ◌||◌, Bool, cond, Some, List, [], ◌∷◌, length, refl, sym, ap, ◌∙◌, inl, inr, arith}
use Rattle.std.proofs.lemmas.Bool.{and_parts, cases_Bool, cond-false, cond-true, leb-true}
use Rattle.std.specs.List.{list_any}
use Rattle.lv_geometry.specs.declared.nodes.Node.{Node}
use Rattle.lv_geometry.specs.Nodes.{covers, is_below, is_node}
use Rattle.lv_bodies.specs.Body.{Operations, fold_of}
use Rattle.lv_edits.specs.History.{History, list_of, replayed}
use Rattle.lv_edits.specs.Pushes.{with_pushes}
use Rattle.lv_edits.specs.Touch.{elements_under, is_whole}
use Rattle.lv_edits.proofs.RunLaws.{AreOfBlock, grown, kept_run, touched_run}
use Rattle.lv_summary.specs.Agrees.{Agrees}
use Rattle.lv_summary.specs.Changes.{HasSize, TouchesEach}
use Rattle.lv_summary.specs.Table.{Table, entry_in, kept_in, touched_in, whole_in}
use Rattle.lv_summary.proofs.TableLaws.{entry_parts, entry_stays, node_of_whole}

-- a node has a level
pub level_from_one : (n : Node) → is_node n ≡ true → 1 ≤ n.level
level_from_one n node = leb-true 1 n.level (and_parts _ _ node).0

-- one of one index is that index
any_one : (b : Bool) → b || false ≡ b
any_one true = refl
any_one false = refl

module _ {S : Type 0} (o : Operations S) where
  module _ (h : History) (xs : List ℤ) (i : ℕ) (old mid new : Table S) (legal : replayed h.journal ≡ Some (list_of h.journal)) (some : 0 < length xs) (of : AreOfBlock (length (list_of h.journal)) (length xs) i) (agrees : Agrees o h.journal old) (touch : TouchesEach old mid (i ∷ []) (length h.journal + length xs)) (sized : HasSize mid new (length (list_of h.journal) + length xs)) where
    -- the nodes that have the block have the last push's number
    touched_then : (n : Node) → is_node n ≡ true → touched_in new n ≡ cond (covers n i) (length h.journal + length xs) (touched_in old n)
    touched_then n node =
        sized.touched n
        ∙ touch.touched n
        ∙ ap (λ b. cond (b && list_any (covers n) (i ∷ [])) (length h.journal + length xs) (touched_in old n)) node
        ∙ ap (λ b. cond b (length h.journal + length xs) (touched_in old n)) (any_one (covers n i))

    -- what is kept stays
    kept_then : (n : Node) → kept_in new n ≡ kept_in old n
    kept_then n = sized.kept n ∙ touch.kept n

    -- a summary of a node that is fresh then was its summary before, and it is still the fold of its node's elements
    fold_then : (n : Node) (s : S) → entry_in new n ≡ Some s → s ≡ fold_of o (elements_under (with_pushes h xs).journal n)
    fold_then n s is =
        let parts = entry_parts new n s is in
        let node = node_of_whole new n parts.0 in
        let level = level_from_one n node in
        let size : new.size ≡ length (list_of (with_pushes h xs).journal) = sized.size_is ∙ sym (grown h xs legal).size in
        let whole : is_whole (with_pushes h xs).journal n ≡ true = ap (λ size. is_node n && is_below n size) (sym size) ∙ parts.0 in
        let early : touched_in new n ≤ length h.journal = agrees.versions n (touched_in new n) s (sym (kept_then n) ∙ parts.1) in
        elim (cases_Bool (covers n i)) [
          | inl covered ↦
              let at : touched_in new n ≡ length h.journal + length xs = touched_then n node ∙ cond-true _ _ _ covered in
              absurd (omega (arith, at, early, some))
          | inr apart ↦
              let before = kept_run h xs n i level legal of apart whole in
              let touched : touched_in new n ≡ touched_in old n = touched_then n node ∙ cond-false _ _ _ apart in
              let whole_before : whole_in old n ≡ true = ap (λ size. is_node n && is_below n size) agrees.size ∙ before.0 in
              let same = entry_stays old new n (parts.0 ∙ sym whole_before) touched (kept_then n) in
              agrees.folds n s (sym same.1 ∙ is) ∙ ap (fold_of o) (sym before.1)
        ]

    -- a table agrees after the pushes, once the block was touched by the last of them and the size set
    pub agrees_pushed : Agrees o (with_pushes h xs).journal new
    agrees_pushed =
        let grows = grown h xs legal in
        record {
          size = sized.size_is ∙ sym grows.size;
          touched = λ n node.
              touched_then n node
              ∙ ap (cond (covers n i) (length h.journal + length xs)) (agrees.touched n node)
              ∙ sym (touched_run h xs n i some (level_from_one n node) legal of);
          versions = λ n version s is. omega (arith, agrees.versions n version s (sym (kept_then n) ∙ is), grows.edits);
          folds = fold_then;
        }
