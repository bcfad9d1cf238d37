-- The state that a session's sitting represents, at the end of it.
use Rattle.std.proofs.Common.{◌≡◌, ℕ, Option, Result, List, ◌++◌, drop, length, Vec, refl, sym, ◌∙◌, ap}
use Rattle.std.proofs.Math.Seq.{drop-append_seam}
use Rattle.std.specs.declared.alloc.Global.{Global}
use Rattle.lv_bodies.specs.declared.kinds.Kind.{Kind}
use Rattle.lv_bodies.specs.declared.kinds.Shown.{Shown}
use Rattle.lv_bodies.specs.Body.{Operations}
use Rattle.lv_machine.specs.Terms.{Folding}
use Rattle.lv_lines.specs.declared.fault.Fault.{Fault}
use Rattle.lv_lines.specs.Replies.{LinesServed}
use Rattle.lv_lines.proofs.LineLoopLaws.{lines_served_as}
use Rattle.lv_machine.specs.declared.events.Call.{Call}
use Rattle.lv_lines.specs.declared.lines.Line.{Line}
use Rattle.lv_script.specs.BoardLine.{board_line_of}
use Rattle.lv_board.specs.declared.actors.Actor.{Actor}
use Rattle.lv_board.specs.declared.actors.Basis.{Basis}
use Rattle.lv_board.specs.declared.seats.Seat.{Seat}
use Rattle.lv_board.specs.Answerer.{HasCalled, IsAnswered, IsRight, text_after}
use Rattle.lv_board.specs.Rule.{terms_of}
use Rattle.lv_board.specs.Session.{BoardStep}
use Rattle.lv_board.specs.Sitting.{Sitting, SittingStep}
use Rattle.lv_board.specs.Tells.{actor_of, Stays}

-- what was put after what a buffer held is the text that was put
put_is_after : {Z : Type 0} (held left : Vec ℕ Z) (text : List ℕ) → left.items ≡ held.items ++ text → text_after held left ≡ text
put_is_after held left text put = ap (drop (length held.items)) put ∙ drop-append_seam held.items text

-- what a call leaves of what its references show is so of what it was made at
pub of_call : {S L H R : Type 0} (P : S → ℕ → L → H → S → H → Type 0) (seat : S) (n : ℕ) (line : L) (held : H) (after : S) (left : H)
    → HasCalled {R = R} (λ s n line h r s' h'. P s.now n line h.now s'.now h'.now) seat n line held after left → P seat n line held after left
of_call P seat n line held after left c = rw (c.seat_is, c.held_is, c.after_is, c.left_is) at c.called

module _ {A B S : Type 0} (seat_of : S → Seat B) (z : A) (name : ℕ) (first : Seat B) where
  -- a sitting represents what the seat of a board knows, in the place that it had at first
  pub record StandsForActor (s : Sitting A S) (x : Actor) : Type 0 where
    pub by : s.answerer ≡ z
    pub place : s.name ≡ name
    pub stays : Stays first (seat_of s.seat)
    pub knows : actor_of (seat_of s.seat) ≡ x

module _ {A B S V : Type 0} (seat_of : S → Seat B) (does : A → S → ℕ → Line Call → Vec ℕ Global → S → Vec ℕ Global → Type 0) (f : B → Folding) (o : B → Operations V) (kind : Kind) (shown : B → V → Shown) (z : A) (b : Basis B) (right : IsRight seat_of does z f o kind shown b) where
  -- a line of a sitting is a line of the actor that it represents
  line_as : (name : ℕ) (first : Seat B) (s : Sitting A S) (x : Actor) (n : ℕ) (line text : List ℕ) (u : Sitting A S) → StandsForActor seat_of z name first s x → SittingStep does kind s n line text u
      → (y : Actor) × StandsForActor seat_of z name first u y × BoardStep (terms_of f b) (o b.body) kind (shown b.body) x n line text y
  unfolding BoardStep
  line_as name first s x n line text u fits step =
      let done : IsAnswered f o kind shown b (seat_of s.seat) n (board_line_of kind line) step.held (seat_of u.seat) step.left =
      right s.seat n (board_line_of kind line) step.held u.seat step.left (rw fits.by at step.done) in
      let said : done.text ≡ text = sym (put_is_after step.held step.left done.text done.put) ∙ sym step.text_is in (
        actor_of (seat_of u.seat),
        record {
          by = step.answerer ∙ fits.by;
          place = step.name ∙ fits.place;
          stays = record { table = done.stays.table ∙ fits.stays.table; terms = done.stays.terms ∙ fits.stays.terms };
          knows = refl;
        },
        rw (said, fits.knows) at done.answer,
      )

  -- if the sitting's place is still its owner's, the owner has the seat of the end
  pub ended_as : {R : Type 0} (y : A) (name place : ℕ) (first last owned : S) (a e k l : Option (List ℕ)) (result : Result R Fault)
      → (name ≡ place → owned ≡ last)
      → LinesServed (SittingStep does kind) record { answerer = z; seat = first; name = name } record { answerer = y; seat = last; name = place } a e k l result
      → Stays (seat_of first) (seat_of owned) × LinesServed (BoardStep (terms_of f b) (o b.body) kind (shown b.body)) (actor_of (seat_of first)) (actor_of (seat_of owned)) a e k l result
  ended_as y name place first last owned a e k l result is lines_served =
      let begun : StandsForActor seat_of z name (seat_of first) record { answerer = z; seat = first; name = name } (actor_of (seat_of first)) =
      record { by = refl; place = refl; stays = record { table = refl; terms = refl }; knows = refl } in
      let came = lines_served_as (StandsForActor seat_of z name (seat_of first)) (record { moves = line_as name (seat_of first) }) _ _ _ a e k l result begun lines_served in
      let same = is (sym came.1.place) in
      (rw same came.1.stays, rw (same, came.1.knows) came.2)
