-- What the loads of a reduction and of a refresh guarantee, and how a reduction proceeds by them.
use Rattle.std.specs.Prelude.{◌≡◌, ℕ, zero, suc, ◌+◌, ◌*◌, ◌<◌, ◌≤◌, List, ◌∷◌, length, Option, IfSome, Result, IfOk, IfErr, slice_range}
use Rattle.lv_geometry.specs.declared.refusals.Refusal.{Refusal}
use Rattle.lv_bodies.specs.Body.{fold_of, Operations}
use Rattle.lv_edits.specs.Touch.{elements_under}
use Rattle.lv_machine.specs.declared.entries.Entry.{Entry}
use Rattle.lv_machine.specs.History.{edits_of, elements_of, IsLegalHistory}
use Rattle.lv_machine.specs.Layout.{part_place}
use Rattle.lv_machine.specs.Shows.{block, mark_of}
use Rattle.lv_machine.specs.Terms.{AreTerms, Terms}
use Rattle.lv_machine.specs.Words.{part_word}
use Rattle.lv_board.specs.declared.actors.InstalledPart.{InstalledPart}
use Rattle.lv_board.specs.declared.underway.BoardWalk.{BoardWalk}
use Rattle.lv_board.specs.declared.seats.Seat.{Seat}
use Rattle.lv_board.specs.Tells.{IsQuiet, actor_of, IsOvertaken, Stays}
use Rattle.lv_board.specs.Stands.{IsReady}
use Rattle.lv_board.specs.Moved.{HasMovedBy, loads_of}

-- The fold of a block's elements.
abbrev pub block_fold : {S : Type 0} → Operations S → ℕ → List Entry → S
block_fold o b k = fold_of o (elements_under (edits_of k) (block b))

-- The words of the first parts of a block, as a history shows it, with the last first and in front of others.
abbrev pub block_installed : Terms → ℕ → List Entry → ℕ → List InstalledPart → List InstalledPart
block_installed t b h zero xs = xs
block_installed t b h (suc p) xs = record { place = part_place b p; word = part_word (mark_of b h) (t.folding.part p (elements_under (edits_of h) (block b))) } ∷ block_installed t b h p xs

-- A walk has the fold of the elements before its position, and has counted each of them once.
pub record Sums {S : Type 0} (o : Operations S) (k : List Entry) (walk : BoardWalk S) : Type 0 where
  pub low : walk.lo ≤ walk.at
  pub inside : walk.at ≤ length (elements_of k)
  pub sum : walk.sum ≡ fold_of o (slice_range (elements_of k) walk.lo walk.at)
  pub counts : walk.cells + 8 * walk.summaries + walk.lo ≡ walk.at

-- A walk that began at one index has reached another.
pub record HasCome {S : Type 0} (o : Operations S) (k : List Entry) (lo at : ℕ) (walk : BoardWalk S) : Type 0 where
  pub from : walk.lo ≡ lo
  pub here : walk.at ≡ at
  pub sums : Sums o k walk

-- How many loads the counts of a walk amount to, for aggregates of this many parts: one for each cell, and for each aggregate one of its mark and
-- one of each part.
abbrev pub loads_in : {S : Type 0} → ℕ → BoardWalk S → ℕ
loads_in parts walk = walk.cells + walk.summaries * suc parts

-- A walk has proceeded from another, no further than to an index.
pub record HasGoneOn {S : Type 0} (o : Operations S) (k : List Entry) (hi : ℕ) (walk next : BoardWalk S) : Type 0 where
  pub from : next.lo ≡ walk.lo
  pub further : walk.at < next.at
  pub most : next.at ≤ hi
  pub sums : Sums o k next

module _ {B : Type 0} where
  -- A seat may load what shows the history that it saw, which is legal and whose pending write is complete.
  pub record MayRead (t : Terms) (s : Seat B) : Type 0 where
    pub terms : AreTerms t
    pub legal : IsLegalHistory t (actor_of s).seen
    pub ready : IsReady (actor_of s) s.look

  -- A seat has made n loads, and sees what it saw before.
  pub record HasRead (n : ℕ) (s u : Seat B) : Type 0 where
    pub stays : Stays s u
    pub look : u.look ≡ s.look
    pub quiet : IsQuiet (actor_of s) (actor_of u)
    pub rest : actor_of u ≡ record (actor_of s) { known = (actor_of u).known }
    pub moves : HasMovedBy (loads_of n (actor_of s).number) s u

  -- A seat has loaded parts of a block: all of them, if the result is present.
  pub record HasReadParts {P : Type 0} (parts : ℕ) (result : Option P) (s u : Seat B) : Type 0 where
    pub loads : ℕ
    pub read : HasRead loads s u
    pub all : IfSome result (λ given. loads ≡ parts)

  module _ {S : Type 0} (o : Operations S) (parts : ℕ) where
    -- A walk from an index reaches another, or a load found a later update. There were `before` loads earlier.
    pub record Comes (before lo at : ℕ) (result : Result (BoardWalk S) Refusal) (s u : Seat B) : Type 0 where
      pub loads : ℕ
      pub read : HasRead loads s u
      pub come : IfOk result (λ walk. HasCome o (actor_of s).seen lo at walk)
      pub counted : IfOk result (λ walk. loads_in parts walk ≤ before + loads)
      pub overtaken : IfErr result (λ refusal. IsOvertaken (actor_of u) refusal × (1 ≤ loads))

    -- A walk reaches an index by loading only cells, one load each.
    pub record ComesByCells (walk : BoardWalk S) (at : ℕ) (result : Result (BoardWalk S) Refusal) (s u : Seat B) : Type 0 where
      pub comes : Comes (loads_in parts walk) walk.lo at result s u
      pub most : walk.at + comes.loads ≤ at
      pub each : IfOk result (λ next. at ≤ walk.at + comes.loads)

    -- A walk proceeds, or a load found a later update.
    pub record GoesOn (hi : ℕ) (walk : BoardWalk S) (result : Result (BoardWalk S) Refusal) (s u : Seat B) : Type 0 where
      pub loads : ℕ
      pub read : HasRead loads s u
      pub gone : IfOk result (λ next. HasGoneOn o (actor_of s).seen hi walk next)
      pub counted : IfOk result (λ next. loads_in parts next ≤ loads_in parts walk + loads)
      pub overtaken : IfErr result (λ refusal. IsOvertaken (actor_of u) refusal × (1 ≤ loads))

    -- The fold of a block's elements was computed, or a load found a later update.
    pub record SumsBlock (b : ℕ) (result : Result S Refusal) (s u : Seat B) : Type 0 where
      pub loads : ℕ
      pub read : HasRead loads s u
      pub few : loads ≤ 8
      pub all : IfOk result (λ sum. 8 ≤ loads)
      pub sum : IfOk result (λ sum. sum ≡ block_fold o b (actor_of s).seen)
      pub overtaken : IfErr result (λ refusal. IsOvertaken (actor_of u) refusal)
