-- Proof of `closed`: a board is closed with all of its seats.
use Rattle.std.proofs.Common.{◌≡◌, ℕ, ap, List, ◌++◌, length, drop, take, sym, subst, arith}
use Rattle.std.proofs.lemmas.Grind.{common_steps}
use Rattle.lv_board.specs.Ordered.{AreInOrder}
use Rattle.lv_board.proofs.Ordered.{order_all}
use Rattle.starved.proofs.boards.closed.Goals as goal

-- what a vector's slice was given back as
kept : {X : Type 0} (n : ℕ) (xs ys : List X) → n ≡ length xs → take n (xs ++ ys) ≡ xs
kept n xs ys same = rw same (grind (arith, common_steps))

pub close_all-requires-clause-all : goal.close_all-requires-clause-all
close_all-requires-clause-all g c =
    let same : take c.args.seats.len (c.push_each.new.seats ++ drop (length c.push_each.new.seats) c.args.seats.items) ≡ c.push_each.new.seats = kept c.args.seats.len c.push_each.new.seats (drop (length c.push_each.new.seats) c.args.seats.items) (omega (arith, c.push_each.ensures.count, c.requires.count, ap length c.deref_mut.ensures.value, c.deref_mut.ensures.len)) in
    order_all c.args.board.table.shared.table_id c.args.board.terms _ (subst (AreInOrder c.args.board.table.shared.table_id c.args.board.terms) (sym same) c.push_each.ensures)
