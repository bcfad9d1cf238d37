-- Where nobody sits down.
use Rattle.std.proofs.Common.{◌≡◌, refl, inl, inr}
use Rattle.std.specs.Prelude.{Option, None}
use Rattle.lv_board.specs.declared.sharing.Unseated.{Unseated}
use Rattle.lv_board.specs.declared.sharing.Unseated.TheVariants.{NoMemory, NoSeat}
use Rattle.lv_board.specs.Sharing.{IsUnseated}
use Rattle.livevec_c.specs.declared.kind_boards.KindBoard.{KindBoard}
use Rattle.livevec_c.specs.declared.objects.Object.{Object}
use Rattle.livevec_c.specs.Kinds.{shared_at}
use Rattle.livevec_c.specs.Lives.{seatless, SitsBoard}

pub nobody_sits : (old new : KindBoard) (why : Unseated) (slot : Option Object) → shared_at new ≡ shared_at old → IsUnseated (shared_at old) why → slot ≡ None → SitsBoard (seatless why) old new slot
nobody_sits old new NoSeat slot same none empty = inr (inl (refl, none, same, empty))
nobody_sits old new NoMemory slot same some empty = inl (refl, same, empty)
