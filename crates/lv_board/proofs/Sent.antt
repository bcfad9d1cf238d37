-- That a type's values may be sent to other threads has only one proof, and what follows for a call that a session keeps.
use Rattle.std.proofs.Common.{◌≤◌, ℕ}
use Rattle.std.specs.Coded.{×_prop, le_prop}
use base.Stored.{Coded, Coded-set, coded×, coded_ℕ, coded_via}
use mathlib.Core.Equiv.{IsContr}
use mathlib.Core.HLevel.{Unit-prop, ⊥_prop, Π_prop}
use base.Fml.{Fml, ftrue, ffalse, feq, flt, fsep, fand, for, fwand, fex, fall, fupd, fhide, fat, froom, fleft, fdies, flft, fdead, fobs, fauth, fres, fown, fbor, fobor, flent, fshr_bor, finv, fnamed, ftok, fkid, fme, fsent}
use base.Shift.{Keyless}
use denote.RattleType.{RattleType}
use denote.Param.Send.{IsSend, IsSync}
use Rattle.atomic_table.specs.Seated.{TableId, table_id_coded}
use Rattle.lv_board.specs.declared.actors.Basis.{Basis}
use Rattle.lv_board.specs.declared.seats.Seat.{Seat}
use Rattle.lv_board.specs.Tells.{IsAt}

-- that a formula names no thread has only one proof
Keyless-prop : (P : Fml) → IsProp (Keyless P)
Keyless-prop ftrue = Unit-prop
Keyless-prop ffalse = Unit-prop
Keyless-prop (feq A x y) = Unit-prop
Keyless-prop (flt m n) = Unit-prop
Keyless-prop (fat q τ b o v) = Unit-prop
Keyless-prop (froom τ b o) = Unit-prop
Keyless-prop (fleft q ω τs b o) = Unit-prop
Keyless-prop (fdies τ b) = Unit-prop
Keyless-prop (flft κ q) = Unit-prop
Keyless-prop (fdead κ) = Unit-prop
Keyless-prop (fobs γ x) = Unit-prop
Keyless-prop (fauth γ x) = Unit-prop
Keyless-prop (fres γ x) = Unit-prop
Keyless-prop (fown R γ x) = Unit-prop
Keyless-prop (fsep P Q) = ×_prop (Keyless-prop P) (Keyless-prop Q)
Keyless-prop (fand P Q) = ×_prop (Keyless-prop P) (Keyless-prop Q)
Keyless-prop (for P Q) = ×_prop (Keyless-prop P) (Keyless-prop Q)
Keyless-prop (fwand P Q) = ×_prop (Keyless-prop P) (Keyless-prop Q)
Keyless-prop (fupd P) = Keyless-prop P
Keyless-prop (fhide P) = Keyless-prop P
Keyless-prop (fbor κ P) = Keyless-prop P
Keyless-prop (fobor κ q P) = Keyless-prop P
Keyless-prop (flent κ P) = Keyless-prop P
Keyless-prop (finv P) = Keyless-prop P
Keyless-prop (fnamed nm P) = Keyless-prop P
Keyless-prop (fex A F) = Π_prop (λ x. Keyless-prop (F x))
Keyless-prop (fall A F) = Π_prop (λ x. Keyless-prop (F x))
Keyless-prop (fshr_bor κ Φ) = Π_prop (λ q. Keyless-prop (Φ q))
Keyless-prop (ftok E) = ⊥_prop
Keyless-prop (fkid h a) = ⊥_prop
Keyless-prop (fme h) = ⊥_prop
Keyless-prop (fsent E) = Unit-prop

pub IsSend-prop : (R : RattleType) → IsProp (IsSend R)
IsSend-prop R = hlevel Keyless-prop

pub IsSync-prop : (R : RattleType) → IsProp (IsSync R)
IsSync-prop R = hlevel Keyless-prop

basis_coded : {B : Type 0} → Coded B → Coded (Basis B)
basis_coded body = coded_via (coded× coded_ℕ (coded× coded_ℕ (coded× coded_ℕ body)))
    (λ (z : Basis _). (z.buckets, (z.edits, (z.seats, z.body))))
    (λ x y e i. record { buckets = (e i).0; edits = (e i).1.0; seats = (e i).1.1.0; body = (e i).1.1.1 })

-- that a seat is one of a board has only one proof, if the monoid instance's values can be distinguished
IsAt-prop : {B : Type 0} → Coded B → (table : TableId) (z : Basis B) (s : Seat B) → IsProp (IsAt table z s)
IsAt-prop body table z s x y i = record {
  at = Coded-set table_id_coded _ _ x.at y.at i;
  terms = Coded-set (basis_coded body) _ _ x.terms y.terms i;
}

-- what a call of a board requires has only one proof: its seat, room, and that the monoid instance may be sent to other threads
pub surely : {B Sends : Type 0} (body : Coded B) (table : TableId) (z : Basis B) (s : Seat B) (low high : ℕ) → IsProp Sends
    → IsAt table z s × (low ≤ high × Sends) → IsContr (IsAt table z s × (low ≤ high × Sends))
surely body table z s low high alone asked = (asked, λ other. ×_prop (IsAt-prop body table z s) (×_prop le_prop alone) other asked)
