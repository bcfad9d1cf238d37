-- Proof of `Board::refresh`: makes the parts of the block of that number from its cells.
use Rattle.std.proofs.Common.{◌≡◌, ◌+◌, Ok, Err, ap, ◌∙◌, subst, sym, inl, inr, arith}
use Rattle.lv_geometry.specs.declared.refusals.Refusal.TheVariants.{OutOfRange}
use Rattle.lv_board.specs.declared.actors.Actor.{Actor}
use Rattle.lv_board.specs.Moved.{HasMovedBy, installs_of}
use Rattle.lv_board.specs.Rule.{terms_of}
use Rattle.lv_board.specs.Steps.{HasInstalled}
use Rattle.lv_board.specs.Tells.{actor_of}
use Rattle.lv_board.specs.Walks.{block_installed, HasRead}
use Rattle.lv_board.proofs.Calling.{has_looked}
use Rattle.lv_board.proofs.Moving.{helped_and_read, read_and_installed}
use Rattle.lv_board.proofs.Walking.{are_installed, looked_and_installed, looked_and_read, mark_is_read, may_after, may_still, read_then}
use Rattle.lv_board.proofs.board.Board.refresh.Goals as goal

pub returns-then-block-size-clause-looked : goal.returns-then-block-size-clause-looked
returns-then-block-size-clause-looked g c = has_looked g.B.BoardBody.folding c.args.seat.now.terms c.args.self.now.terms c.args.seat.now.token.me.0.actor c.load_descriptor.new.seat.token.me.0.actor c.load_descriptor.new.seat.look c.requires.terms c.load_descriptor.ensures.quiet c.load_descriptor.ensures.sees

pub returns-in-Err-clause-looked : goal.returns-in-Err-clause-looked
returns-in-Err-clause-looked g c =
    looked_and_read (terms_of g.B.BoardBody.folding c.args.self.now.terms) c.args.seat.now.token.me.0.actor 1 c.load_descriptor.new.seat c.help.new.seat c.load_mark.new.seat (has_looked g.B.BoardBody.folding c.args.seat.now.terms c.args.self.now.terms c.args.seat.now.token.me.0.actor c.load_descriptor.new.seat.token.me.0.actor c.load_descriptor.new.seat.look c.requires.terms c.load_descriptor.ensures.quiet c.load_descriptor.ensures.sees) c.help.ensures
    (mark_is_read (terms_of g.B.BoardBody.folding c.args.self.now.terms) c.args.block (Err c.in-Err.refusal) c.help.new.seat c.load_mark.new.seat c.in-Err.ensures)

pub sum_block-requires-clause-may : goal.sum_block-requires-clause-may
sum_block-requires-clause-may g c = λ _ _.
    may_still (terms_of g.B.BoardBody.folding c.args.self.now.terms) 1 c.help.new.seat c.load_mark.new.seat (may_after g.B.BoardBody.folding c.args.seat.now.terms c.args.self.now.terms c.load_descriptor.new.seat c.help.new.seat c.load_descriptor.new.seat.look c.requires.terms c.load_descriptor.ensures.sees c.help.ensures) (mark_is_read (terms_of g.B.BoardBody.folding c.args.self.now.terms) c.args.block (Ok c.in-Ok.mark) c.help.new.seat c.load_mark.new.seat c.in-Ok.ensures)

pub returns-in-Err-sum_block-clause-looked : goal.returns-in-Err-sum_block-clause-looked
returns-in-Err-sum_block-clause-looked g c =
    let first = mark_is_read (terms_of g.B.BoardBody.folding c.args.self.now.terms) c.args.block (Ok c.in-Ok.mark) c.help.new.seat c.load_mark.new.seat c.in-Ok.ensures in
    looked_and_read (terms_of g.B.BoardBody.folding c.args.self.now.terms) c.args.seat.now.token.me.0.actor (c.sum_block.ensures.loads + 1) c.load_descriptor.new.seat c.help.new.seat c.sum_block.new.seat (has_looked g.B.BoardBody.folding c.args.seat.now.terms c.args.self.now.terms c.args.seat.now.token.me.0.actor c.load_descriptor.new.seat.token.me.0.actor c.load_descriptor.new.seat.look c.requires.terms c.load_descriptor.ensures.quiet c.load_descriptor.ensures.sees) c.help.ensures
    (read_then 1 c.sum_block.ensures.loads c.help.new.seat c.load_mark.new.seat c.sum_block.new.seat first c.sum_block.ensures.read)

pub returns-clause-looked : goal.returns-clause-looked
returns-clause-looked g c =
    let t = terms_of g.B.BoardBody.folding c.args.self.now.terms in
    let first = mark_is_read t c.args.block (Ok c.in-Ok.mark) c.help.new.seat c.load_mark.new.seat c.in-Ok.ensures in
    looked_and_installed t c.args.seat.now.token.me.0.actor _ c.sum_block.new.seat c.keep_parts.new.seat
    (looked_and_read t c.args.seat.now.token.me.0.actor (c.sum_block.ensures.loads + 1) c.load_descriptor.new.seat c.help.new.seat c.sum_block.new.seat (has_looked g.B.BoardBody.folding c.args.seat.now.terms c.args.self.now.terms c.args.seat.now.token.me.0.actor c.load_descriptor.new.seat.token.me.0.actor c.load_descriptor.new.seat.look c.requires.terms c.load_descriptor.ensures.quiet c.load_descriptor.ensures.sees) c.help.ensures
    (read_then 1 c.sum_block.ensures.loads c.help.new.seat c.load_mark.new.seat c.sum_block.new.seat first c.sum_block.ensures.read))
    c.keep_parts.ensures.installed

pub returns-clause-installed : goal.returns-clause-installed
returns-clause-installed g c =
    let t = terms_of g.B.BoardBody.folding c.args.self.now.terms in
    let keeps = (g.met.B.BoardBody g.world.𝓛 g.world.𝓜 g.world.𝓡 ((λ s x. x), (λ p. p), (λ n s. n s), (λ p. p))).keeps_parts in
    are_installed t c.args.block c.sum_block.new.seat c.keep_parts.new.seat
    (subst (λ n. HasInstalled (block_installed t c.args.block (actor_of c.sum_block.new.seat).seen n (actor_of c.sum_block.new.seat).installed) c.sum_block.new.seat c.keep_parts.new.seat) (sym (ap (λ f. (f c.args.self.now.terms.body).parts) keeps)) c.keep_parts.ensures.installed)

pub returns-then-block-size-clause-moves : goal.returns-then-block-size-clause-moves
returns-then-block-size-clause-moves g c = inl (ap OutOfRange (c.size_in-size.ensures.value ∙ c.load_descriptor.new.seat.looks.size), c.load_descriptor.ensures.moves)

pub returns-in-Err-clause-moves : goal.returns-in-Err-clause-moves
returns-in-Err-clause-moves g c = inr (
  c.in-Err.ensures.overtaken,
  1,
  (omega arith, omega arith),
  helped_and_read 1 c.args.seat.now c.load_descriptor.new.seat c.help.new.seat c.load_mark.new.seat c.load_descriptor.ensures.moves c.load_descriptor.ensures.quiet.number c.help.ensures (mark_is_read (terms_of g.B.BoardBody.folding c.args.self.now.terms) c.args.block (Err c.in-Err.refusal) c.help.new.seat c.load_mark.new.seat c.in-Err.ensures),
)

pub returns-in-Err-sum_block-clause-moves : goal.returns-in-Err-sum_block-clause-moves
returns-in-Err-sum_block-clause-moves g c =
    let first = mark_is_read (terms_of g.B.BoardBody.folding c.args.self.now.terms) c.args.block (Ok c.in-Ok.mark) c.help.new.seat c.load_mark.new.seat c.in-Ok.ensures in
    let loads = c.sum_block.ensures.loads in
    inr (
      c.in-Err-sum_block.ensures.overtaken,
      loads + 1,
      (omega arith, omega (arith, c.sum_block.ensures.few)),
      helped_and_read (loads + 1) c.args.seat.now c.load_descriptor.new.seat c.help.new.seat c.sum_block.new.seat c.load_descriptor.ensures.moves c.load_descriptor.ensures.quiet.number c.help.ensures (read_then 1 loads c.help.new.seat c.load_mark.new.seat c.sum_block.new.seat first c.sum_block.ensures.read),
    )

pub returns-clause-moves : goal.returns-clause-moves
returns-clause-moves g c =
    let t = (terms_of g.B.BoardBody.folding c.args.self.now.terms) in
    let keeps = (g.met.B.BoardBody g.world.𝓛 g.world.𝓜 g.world.𝓡 ((λ s x. x), (λ p. p), (λ n s. n s), (λ p. p))).keeps_parts in
    let first = mark_is_read t c.args.block (Ok c.in-Ok.mark) c.help.new.seat c.load_mark.new.seat c.in-Ok.ensures in
    let loads = c.in-Ok-sum_block.ensures.loads in
    let nine : loads + 1 ≡ 9 = omega (arith, c.in-Ok-sum_block.ensures.few, c.in-Ok-sum_block.ensures.all) in
    let reads = read_then 1 loads c.help.new.seat c.load_mark.new.seat c.sum_block.new.seat first c.in-Ok-sum_block.ensures.read in
    let read = subst (λ n. HasRead n c.help.new.seat c.sum_block.new.seat) nine reads in
    read_and_installed t c.args.block c.args.seat.now c.sum_block.new.seat c.keep_parts.new.seat
    (reads.quiet.number ∙ c.help.ensures.number ∙ c.load_descriptor.ensures.quiet.number)
    (ap (λ (a : Actor). a.seen) c.keep_parts.ensures.installed.actor)
    (helped_and_read 9 c.args.seat.now c.load_descriptor.new.seat c.help.new.seat c.sum_block.new.seat c.load_descriptor.ensures.moves c.load_descriptor.ensures.quiet.number c.help.ensures read)
    (subst (λ n. HasMovedBy (installs_of t (actor_of c.sum_block.new.seat).number c.args.block (actor_of c.sum_block.new.seat).seen n) c.sum_block.new.seat c.keep_parts.new.seat) (sym (ap (λ f. (f c.args.self.now.terms.body).parts) keeps)) c.keep_parts.ensures.moves)
