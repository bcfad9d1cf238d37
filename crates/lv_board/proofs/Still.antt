-- Which calls keep a seat at its place, and what is known of all seats from their numbers.
use Rattle.std.proofs.Common.{◌≡◌, Result, Ok, Err, [], ◌∷◌, refl, ap, ◌∙◌, inl, inr}
use Rattle.atomic_table.specs.Seated.{TableId}
use Rattle.lv_edits.specs.declared.edit.Edit.{Edit}
use Rattle.lv_edits.specs.declared.receipt.Receipt.{Receipt}
use Rattle.lv_geometry.specs.declared.refusals.Refusal.{Refusal}
use Rattle.lv_machine.specs.Terms.{Terms}
use Rattle.lv_board.specs.declared.actors.Actor.{Actor}
use Rattle.lv_board.specs.declared.actors.Basis.{Basis}
use Rattle.lv_board.specs.declared.seats.Seat.{Seat}
use Rattle.lv_board.specs.Calls.{HasLooked, LookedAnswers, TryAnswers}
use Rattle.lv_board.specs.Closing.{AreAll, IsStill}
use Rattle.lv_board.specs.Tells.{actor_of, IsAt, IsSame, Stays}

-- no call changes the number of its seat
pub tried_number : (t : Terms) (x y : Actor) (e : Edit) (r : Result Receipt Refusal) → TryAnswers t x y e r → y.number ≡ x.number
tried_number t x y e (Ok receipt) (h, added) = added.number
tried_number t x y e (Err refusal) (looked, why) = looked.quiet.number

pub exchanged_number : (t : Terms) (x y : Actor) (e : Edit) (r : Result Receipt Refusal) → LookedAnswers t x y e r → y.number ≡ x.number
exchanged_number t x y e (Ok receipt) added = added.number
exchanged_number t x y e (Err refusal) (inl (verdict, same)) = ap (λ (a : Actor). a.number) same
exchanged_number t x y e (Err refusal) (inr (inl (loads, free, quiet, same, over))) = quiet.number
exchanged_number t x y e (Err refusal) (inr (inr (looked, why))) = looked.quiet.number

module _ {B : Type 0} where
  pub still_same : (s : Seat B) → IsStill s s
  still_same s = record { stays = record { table = refl; terms = refl }; number = refl }

  pub still_then : (s u v : Seat B) → IsStill s u → IsStill u v → IsStill s v
  still_then s u v first second = record {
    stays = record { table = second.stays.table ∙ first.stays.table; terms = second.stays.terms ∙ first.stays.terms };
    number = second.number ∙ first.number;
  }

  pub still_looked : (t : Terms) (s u : Seat B) → Stays s u → HasLooked t (actor_of s) (actor_of u) → IsStill s u
  still_looked t s u stays looked = record { stays = stays; number = looked.quiet.number }

  pub still_tried : (t : Terms) (s u : Seat B) (e : Edit) (r : Result Receipt Refusal) → Stays s u → TryAnswers t (actor_of s) (actor_of u) e r → IsStill s u
  still_tried t s u e r stays answer = record { stays = stays; number = tried_number t (actor_of s) (actor_of u) e r answer }

  pub still_exchanged : (t : Terms) (s u : Seat B) (e : Edit) (r : Result Receipt Refusal) → Stays s u → LookedAnswers t (actor_of s) (actor_of u) e r → IsStill s u
  still_exchanged t s u e r stays answer = record { stays = stays; number = exchanged_number t (actor_of s) (actor_of u) e r answer }

  pub still_unchanged : (s u : Seat B) → IsSame s u → IsStill s u
  still_unchanged s u same = record { stays = same.stays; number = ap (λ (a : Actor). a.number) same.actor }

  pub still_at : (table : TableId) (z : Basis B) (s u : Seat B) → IsAt table z s → IsStill s u → IsAt table z u
  still_at table z s u at still = record { at = still.stays.table ∙ at.at; terms = still.stays.terms ∙ at.terms }

  -- two seats in the order of their numbers are all seats of a board of two
  pub all_of_two : (s u : Seat B) → (actor_of s).number ≡ 0 → (actor_of u).number ≡ 1 → AreAll 2 (s ∷ u ∷ [])
  all_of_two s u first second = record { moves = []; below = tt; is = ap (λ n. n ∷ (actor_of u).number ∷ []) first ∙ ap (λ n. 0 ∷ n ∷ []) second }
