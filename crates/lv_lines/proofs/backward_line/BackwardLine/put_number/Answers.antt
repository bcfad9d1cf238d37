-- Proof of `BackwardLine::put_number`: puts a number before it, in plain decimal.
use Rattle.std.proofs.Common.{decimal, drop, ap, arith, length, length-drop, length-append, rules}
use Rattle.std.proofs.lemmas.Fmt.{length-decimal-le}
use Rattle.lv_lines.proofs.backward_line.BackwardLine.put_number.Goals as goal

pub write_digits-self-inside-requires : goal.write_digits-self-inside-requires
write_digits-self-inside-requires c =
    let seen = ap length c.self.view_is in (
      omega (arith, seen, length-drop c.self.inside.start c.self.inside.bytes, length-decimal-le 20 c.args.n (omega arith) (omega arith) c.ranges.n.fits),
      search rules,
    )

pub returns-clause-len : goal.returns-clause-len
returns-clause-len c =
    let seen = ap length c.self.view_is in
    let all = ap length c.write_digits-self-inside.ensures.written in
    let both = length-append (decimal c.args.n) (drop c.self.inside.start c.self.inside.bytes) in
    omega (arith, seen, all, both, length-decimal-le 20 c.args.n (omega arith) (omega arith) c.ranges.n.fits)
