-- Proof of `Board::get`: the element at index `i`.
use Rattle.std.proofs.Common.{rules, ◌≡◌, pos, ◌<◌, Ok, Err, length, refl, sym, ap, ◌∙◌, inl, inr, arith}
use Rattle.std.specs.Int.{w64}
use Rattle.std.specs.List.{slice_index_or}
use Rattle.std.proofs.lemmas.Int.{to_z-of_z}
use Rattle.lv_geometry.specs.declared.refusals.Refusal.TheVariants.{OutOfRange}
use Rattle.lv_edits.specs.Verdict.{element_at}
use Rattle.lv_machine.specs.History.{edits_of, elements_of}
use Rattle.lv_machine.proofs.ReadLaws.{cell_element}
use Rattle.lv_board.specs.Rule.{terms_of}
use Rattle.lv_board.proofs.Calling.{element_inside, element_outside, has_looked, helped_quiet, looked_then, quiet_then}
use Rattle.lv_board.proofs.Moving.{helped_and_read}
use Rattle.lv_board.proofs.Walking.{cell_is_read}
use Rattle.lv_board.proofs.board.Board.get.Goals as goal

pub returns-then-i-size-clause-looked : goal.returns-then-i-size-clause-looked
returns-then-i-size-clause-looked g c = has_looked g.B.BoardBody.folding c.args.seat.now.terms c.args.self.now.terms c.args.seat.now.token.me.0.actor c.load_descriptor.new.seat.token.me.0.actor c.load_descriptor.new.seat.look c.requires.terms c.load_descriptor.ensures.quiet c.load_descriptor.ensures.sees

pub returns-then-i-size-clause-answer : goal.returns-then-i-size-clause-answer
returns-then-i-size-clause-answer g c =
    let size : c.size_in-size.result ≡ length (elements_of c.load_descriptor.new.seat.token.me.0.actor.seen) = c.size_in-size.ensures.value ∙ c.load_descriptor.new.seat.looks.size in
    inl (element_outside (edits_of c.load_descriptor.new.seat.token.me.0.actor.seen) c.args.i (omega (arith, c.if-i-size.true)) ∙ ap (λ n. Err (OutOfRange n)) (sym size))

pub returns-in-Err-clause-looked : goal.returns-in-Err-clause-looked
returns-in-Err-clause-looked g c =
    let m = c.load_descriptor.new.seat.token.me.0.actor in
    let looked = has_looked g.B.BoardBody.folding c.args.seat.now.terms c.args.self.now.terms c.args.seat.now.token.me.0.actor c.load_descriptor.new.seat.token.me.0.actor c.load_descriptor.new.seat.look c.requires.terms c.load_descriptor.ensures.quiet c.load_descriptor.ensures.sees in
    let helped = helped_quiet c.load_descriptor.new.seat.token.me.0.actor c.help.new.seat.token.me.0.actor c.help.ensures.made c.help.ensures.known c.help.ensures.number in
    looked_then (terms_of g.B.BoardBody.folding c.args.self.now.terms) c.args.seat.now.token.me.0.actor c.load_descriptor.new.seat.token.me.0.actor c.load_cell.new.seat.token.me.0.actor looked
    (quiet_then c.load_descriptor.new.seat.token.me.0.actor c.help.new.seat.token.me.0.actor c.load_cell.new.seat.token.me.0.actor helped c.load_cell.ensures.quiet)
    (ap (λ a. a.seen) c.load_cell.ensures.rest ∙ c.help.ensures.seen)

pub returns-clause-looked : goal.returns-clause-looked
returns-clause-looked g c =
    let looked = has_looked g.B.BoardBody.folding c.args.seat.now.terms c.args.self.now.terms c.args.seat.now.token.me.0.actor c.load_descriptor.new.seat.token.me.0.actor c.load_descriptor.new.seat.look c.requires.terms c.load_descriptor.ensures.quiet c.load_descriptor.ensures.sees in
    let helped = helped_quiet c.load_descriptor.new.seat.token.me.0.actor c.help.new.seat.token.me.0.actor c.help.ensures.made c.help.ensures.known c.help.ensures.number in
    looked_then (terms_of g.B.BoardBody.folding c.args.self.now.terms) c.args.seat.now.token.me.0.actor c.load_descriptor.new.seat.token.me.0.actor c.load_cell.new.seat.token.me.0.actor looked
    (quiet_then c.load_descriptor.new.seat.token.me.0.actor c.help.new.seat.token.me.0.actor c.load_cell.new.seat.token.me.0.actor helped c.load_cell.ensures.quiet)
    (ap (λ a. a.seen) c.load_cell.ensures.rest ∙ c.help.ensures.seen)

pub returns-clause-answer : goal.returns-clause-answer
returns-clause-answer g c =
    let rest : c.load_cell.new.seat.token.me.0.actor.seen ≡ c.help.new.seat.token.me.0.actor.seen = ap (λ a. a.seen) c.load_cell.ensures.rest in
    let size : c.size_in-size.result ≡ length (elements_of c.help.new.seat.token.me.0.actor.seen) = c.size_in-size.ensures.value ∙ c.load_descriptor.new.seat.looks.size ∙ ap (λ h. length (elements_of h)) (sym c.help.ensures.seen) in
    let within : c.args.i < length (elements_of c.help.new.seat.token.me.0.actor.seen) = omega (arith, c.if-i-size.false) in
    let value : c.in-Ok.value ≡ slice_index_or (elements_of c.help.new.seat.token.me.0.actor.seen) c.args.i (pos 0) = c.in-Ok.ensures.taken ∙ cell_element (terms_of g.B.BoardBody.folding c.args.self.now.terms) c.args.i c.help.new.seat.token.me.0.actor.seen c.load_cell.ensures.terms c.load_cell.ensures.legal within in (
      c.edit_in.ensures.value ∙ c.load_cell.new.seat.looks.edit,
      ap (λ h. element_at (edits_of h) c.args.i) rest ∙ element_inside (edits_of c.help.new.seat.token.me.0.actor.seen) c.args.i c.in-Ok.value within value ∙ ap Ok (sym (to_z-of_z w64 c.in-Ok.value (search rules))),
    )

pub returns-then-i-size-clause-moves : goal.returns-then-i-size-clause-moves
returns-then-i-size-clause-moves g c = inl (ap OutOfRange (c.size_in-size.ensures.value ∙ c.load_descriptor.new.seat.looks.size), c.load_descriptor.ensures.moves)

pub returns-in-Err-clause-moves : goal.returns-in-Err-clause-moves
returns-in-Err-clause-moves g c = inr (
  c.in-Err.ensures.overtaken,
  1,
  refl,
  helped_and_read 1 c.args.seat.now c.load_descriptor.new.seat c.help.new.seat c.load_cell.new.seat c.load_descriptor.ensures.moves c.load_descriptor.ensures.quiet.number c.help.ensures
      (cell_is_read (terms_of g.B.BoardBody.folding c.args.self.now.terms) c.args.i c.load_cell.result c.help.new.seat c.load_cell.new.seat c.load_cell.ensures),
)

pub returns-clause-moves : goal.returns-clause-moves
returns-clause-moves g c =
    helped_and_read 1 c.args.seat.now c.load_descriptor.new.seat c.help.new.seat c.load_cell.new.seat c.load_descriptor.ensures.moves c.load_descriptor.ensures.quiet.number c.help.ensures
    (cell_is_read (terms_of g.B.BoardBody.folding c.args.self.now.terms) c.args.i c.load_cell.result c.help.new.seat c.load_cell.new.seat c.load_cell.ensures)
