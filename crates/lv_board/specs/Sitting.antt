-- A session while it runs: its answerer, its seat, and the place where the seat is stored.
use Rattle.std.specs.Prelude.{◌≡◌, ℕ, List, Vec}
use Rattle.std.specs.declared.alloc.Global.{Global}
use Rattle.lv_bodies.specs.declared.kinds.Kind.{Kind}
use Rattle.lv_machine.specs.declared.events.Call.{Call}
use Rattle.lv_lines.specs.declared.lines.Line.{Line}
use Rattle.lv_script.specs.BoardLine.{board_line_of}
use Rattle.lv_board.specs.Answerer.{text_after}

-- An answerer, a seat, and the name of the reference to its place.
pub record Sitting (A S : Type 0) : Type 0 where
  pub answerer : A
  pub seat : S
  pub name : ℕ

-- One line of a session, after which the seat is in its place again. `does` is what the answerer does.
pub record SittingStep {A S : Type 0} (does : A → S → ℕ → Line Call → Vec ℕ Global → S → Vec ℕ Global → Type 0) (kind : Kind) (s : Sitting A S) (n : ℕ) (line text : List ℕ) (u : Sitting A S) : Type 0 where
  pub answerer : u.answerer ≡ s.answerer
  pub name : u.name ≡ s.name
  pub held : Vec ℕ Global
  pub left : Vec ℕ Global
  pub done : does s.answerer s.seat n (board_line_of kind line) held u.seat left
  pub text_is : text ≡ text_after held left
