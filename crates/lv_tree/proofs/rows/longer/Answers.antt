-- Proof of `longer`: the same numbers, and 0 behind them up to a size.
use Rattle.std.proofs.Common.{◌≡◌, ◌-◌, ◌≤◌, length, get_or, is_ok, ap, ◌∙◌, arith, rules}
use Rattle.lv_tree.proofs.Larger.{padded}
use Rattle.lv_tree.proofs.rows.longer.Goals as goal

pub returns-clause-same : goal.returns-clause-same
returns-clause-same c m =
    let xs = c.extend_from_slice.new.self.items in
    let all : xs ≡ c.args.numbers.now = search rules in
    let few : length xs ≤ c.max.result = omega (arith, ap length all, c.max.ensures) in
    padded (is_ok c.resize.result) xs c.resize.new.self.items c.max.result (c.max.result - c.extend_from_slice.new.self.len) c.resize.ensures.items few m ∙ ap (λ l. get_or l m 0) all
