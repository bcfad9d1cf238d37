-- How the moves of a call's steps make up the moves of the call.
use Rattle.std.proofs.Common.{◌≡◌, ℕ, suc, ◌+◌, ◌*◌, ◌≤◌, Option, Some, None, Result, List, [], ◌∷◌, ◌++◌, append_assoc, refl, sym, ap, ◌∙◌, arith}
use Rattle.lv_geometry.specs.declared.refusals.Refusal.{Refusal}
use Rattle.lv_geometry.specs.declared.refusals.Refusal.TheVariants.{Contended, Overtaken}
use Rattle.lv_edits.specs.declared.edit.Edit.{Edit}
use Rattle.lv_edits.specs.declared.receipt.Receipt.{Receipt}
use Rattle.lv_edits.specs.Verdict.{verdict_of}
use Rattle.lv_machine.specs.declared.moves.Move.{Move}
use Rattle.lv_machine.specs.declared.moves.Move.TheVariants.{Exchange, Look, Read}
use Rattle.lv_machine.specs.History.{edits_of}
use Rattle.lv_machine.specs.Terms.{Terms}
use Rattle.lv_board.specs.declared.actors.Actor.{Actor}
use Rattle.lv_board.specs.declared.seats.Seat.{Seat}
use Rattle.lv_board.specs.Calls.{HasLooked, LookedAnswers}
use Rattle.lv_board.specs.Moved.{cell_load, edit_moves, exchanging, HasHelpedAnd, HasLookedAnd, HasMovedBy, help_of, installs_of, IsTry, loads_of, refusal_in, unless_refused}
use Rattle.lv_board.specs.Steps.{IsHelped}
use Rattle.lv_board.specs.Tells.{actor_of, HasMoved, moves_of}
use Rattle.lv_board.specs.Walks.{HasRead}
use Rattle.lv_board.proofs.Walking.{seen_still}

-- an update that the precondition check refuses makes no move
pub edit_refused : {A : Type 0} (t : Terms) (x : Actor) (edit : Edit) (result : Result A Refusal) (refusal : Refusal) (moves : List Move) → verdict_of t.limits (edits_of x.seen) edit ≡ Some refusal → moves ≡ edit_moves t x edit result ++ moves
edit_refused t x edit result refusal moves is = sym (ap (λ o. unless_refused o (exchanging x.number edit (cell_load x.number edit ++ help_of x.number x.seen) (refusal_in result)) ++ moves) is)

-- an update that nothing refuses makes the moves up to its end
pub edit_made : {A : Type 0} (t : Terms) (x : Actor) (edit : Edit) (result : Result A Refusal) (before after : List Move) → verdict_of t.limits (edits_of x.seen) edit ≡ None → after ≡ exchanging x.number edit (cell_load x.number edit ++ help_of x.number x.seen) (refusal_in result) ++ before → after ≡ edit_moves t x edit result ++ before
edit_made t x edit result before after free is = is ∙ sym (ap (λ o. unless_refused o (exchanging x.number edit (cell_load x.number edit ++ help_of x.number x.seen) (refusal_in result)) ++ before) free)

-- the last of them is the compare-and-swap, if it succeeded or found another descriptor
pub exchange_made : (a b : ℕ) (edit : Edit) (ready before on after : List Move) → b ≡ a → on ≡ ready ++ before → after ≡ Exchange b edit ∷ on → after ≡ exchanging a edit ready None ++ before
exchange_made a b edit ready before on after number first second = second ∙ ap (λ n. Exchange n edit ∷ on) number ∙ ap (λ l. Exchange a edit ∷ l) first

pub exchange_lost : (a b n : ℕ) (edit : Edit) (refusal : Refusal) (ready before on after : List Move) → refusal ≡ Contended n → b ≡ a → on ≡ ready ++ before → after ≡ Exchange b edit ∷ on → after ≡ exchanging a edit ready (Some refusal) ++ before
exchange_lost a b n edit refusal ready before on after is number first second =
    second ∙ ap (λ n. Exchange n edit ∷ on) number ∙ ap (λ l. Exchange a edit ∷ l) first
    ∙ sym (ap (λ r. exchanging a edit ready (Some r) ++ before) is)

-- there is none if a load found a later update
pub exchange_left : (a n : ℕ) (edit : Edit) (refusal : Refusal) (ready before after : List Move) → refusal ≡ Overtaken n → after ≡ ready ++ before → after ≡ exchanging a edit ready (Some refusal) ++ before
exchange_left a n edit refusal ready before after is first = first ∙ sym (ap (λ r. exchanging a edit ready (Some r) ++ before) is)

module _ {B : Type 0} where
  -- a look and an update from it are a try
  pub is_try : (t : Terms) (edit : Edit) (result : Result Receipt Refusal) (s m u : Seat B) → HasLooked t (actor_of s) (actor_of m) → LookedAnswers t (actor_of m) (actor_of u) edit result → HasMoved Look s m → HasMovedBy (edit_moves t (actor_of m) edit result) m u → IsTry t edit result s u
  is_try t edit result s m u looked answers first then = record {
    look = actor_of m;
    looked = looked;
    answers = answers;
    moves = then ∙ ap (λ ms. edit_moves t (actor_of m) edit result ++ ms) first;
  }

  -- the cell of an element is loaded once the pending write is complete
  pub cell_after_help : (s h u : Seat B) → IsHelped s h → HasMoved Read h u → moves_of u ≡ (Read (actor_of s).number ∷ help_of (actor_of s).number (actor_of s).seen) ++ moves_of s
  cell_after_help s h u helped read = read ∙ ap (λ (n : ℕ). Read n ∷ moves_of h) helped.number ∙ ap (λ ms. Read (actor_of s).number ∷ ms) helped.moves

  -- a look, the completion of its pending write, and loads
  pub helped_and_read : (n : ℕ) (s l h u : Seat B) → HasMoved Look s l → (actor_of l).number ≡ (actor_of s).number → IsHelped l h → HasRead n h u → HasHelpedAnd (loads_of n (actor_of s).number) s u
  helped_and_read n s l h u look number helped read =
      let seen : (actor_of l).seen ≡ (actor_of u).seen = sym (seen_still n h u read ∙ helped.seen) in
      let first : moves_of h ≡ help_of (actor_of s).number (actor_of u).seen ++ (Look (actor_of s).number ∷ moves_of s) =
      helped.moves
      ∙ ap (λ (a : ℕ). help_of a (actor_of l).seen ++ moves_of l) number
      ∙ ap (λ k. help_of (actor_of s).number k ++ moves_of l) seen
      ∙ ap (λ ms. help_of (actor_of s).number (actor_of u).seen ++ ms) look
      in
      read.moves
      ∙ ap (λ (a : ℕ). loads_of n a ++ moves_of h) (helped.number ∙ number)
      ∙ ap (λ ms. loads_of n (actor_of s).number ++ ms) first
      ∙ sym (append_assoc (loads_of n (actor_of s).number) (help_of (actor_of s).number (actor_of u).seen) (Look (actor_of s).number ∷ moves_of s))

  -- and parts that are installed afterwards
  pub read_and_installed : (t : Terms) (b : ℕ) (s u w : Seat B) → (actor_of u).number ≡ (actor_of s).number → (actor_of w).seen ≡ (actor_of u).seen → HasHelpedAnd (loads_of 9 (actor_of s).number) s u → HasMovedBy (installs_of t (actor_of u).number b (actor_of u).seen t.folding.parts) u w → HasHelpedAnd (installs_of t (actor_of s).number b (actor_of w).seen t.folding.parts ++ loads_of 9 (actor_of s).number) s w
  read_and_installed t b s u w number seen reads installs =
      let a = (actor_of s).number in
      let k = (actor_of w).seen in
      let puts = installs_of t a b k t.folding.parts in
      let rest = Look a ∷ moves_of s in
      installs
      ∙ ap (λ (n : ℕ). installs_of t n b (actor_of u).seen t.folding.parts ++ moves_of u) number
      ∙ ap (λ h. installs_of t a b h t.folding.parts ++ moves_of u) (sym seen)
      ∙ ap (λ ms. puts ++ ms) (reads ∙ ap (λ h. (loads_of 9 a ++ help_of a h) ++ rest) (sym seen))
      ∙ sym (append_assoc puts (loads_of 9 a ++ help_of a k) rest)
      ∙ ap (λ ms. ms ++ rest) (sym (append_assoc puts (loads_of 9 a) (help_of a k)))
