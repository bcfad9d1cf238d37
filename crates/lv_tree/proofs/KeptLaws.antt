-- What steps leave unchanged stays so over several of them, and room for some elements is room for fewer.
use Rattle.std.proofs.Common.{◌≡◌, ℕ, ◌+◌, ◌≤◌, ◌++◌, List, [], ap, inl, inr, length, refl, subst, sym, ◌∙◌, arith}
use Rattle.lv_bodies.specs.declared.kinds.Kind.{Kind}
use Rattle.lv_bodies.specs.declared.kinds.Kind.TheVariants as kind
use Rattle.lv_edits.specs.declared.edit.Edit.{Edit}
use Rattle.lv_bodies.specs.AffineMaps.{affine_operations}
use Rattle.lv_bodies.specs.Extremes.{highest_operations, lowest_operations}
use Rattle.lv_bodies.specs.RunTotals.{runs_operations}
use Rattle.lv_bodies.specs.Sums.{sum_operations}
use Rattle.lv_bodies.specs.declared.sums.Sum.{Sum}
use Rattle.lv_bodies.specs.Tables.{automaton_operations}
use Rattle.lv_edits.proofs.HistoryLaws.{list_of_replayed, replayed-nil}
use Rattle.lv_tree.specs.Follows.{Following, IsLate}
use Rattle.lv_tree.specs.LastSum.{IsSumOfRange}
use Rattle.lv_tree.specs.declared.last_sum.LastSum.{LastSum}
use Rattle.lv_tree.proofs.FollowLaws.{late_edits}
use Rattle.lv_tree.specs.Kinds.{AreKept, AreReady, HaveRoomFor, IsLeftOrFollows, IsNear, KeepsAlike, KindsState, LeavesAll, LeavesOrFollows, LeavesOthers}

-- room for some elements is room for fewer
pub HaveRoomFor-fewer : (s : KindsState) (size fewer : ℕ) → fewer ≤ size → HaveRoomFor s size → HaveRoomFor s fewer
HaveRoomFor-fewer s size fewer less room = record { room = omega (arith, room.room) }

-- a vector without elements needs none
pub AreReady-new : (table : List (List ℕ)) (s : KindsState) → AreKept table [] s → AreReady table [] s
AreReady-new table s kept = record { kept = kept; room = record { room = omega (arith, ap length (list_of_replayed [] [] replayed-nil)) } }

-- a short range is near
pub near_short : (k : Kind) (lo hi : ℕ) (s : KindsState) → hi ≤ lo + 64 → IsNear k lo hi s
near_short k lo hi s short = inl short

-- what is kept is kept by the table that is there
pub AreKept-by : (table : List (List ℕ)) (edits : List Edit) (s : KindsState) → AreKept table edits s → AreKept s.table edits s
AreKept-by table edits s kept = subst (λ t. AreKept t edits s) (sym kept.table_is) kept

-- what is ready is ready by the table that is there
pub AreReady-by : (table : List (List ℕ)) (edits : List Edit) (s : KindsState) → AreReady table edits s → AreReady s.table edits s
AreReady-by table edits s ready = record { kept = AreKept-by table edits s ready.kept; room = ready.room }

-- what is ready by the table that there is now is ready by that of the beginning
pub AreReady-still : (table : List (List ℕ)) (edits : List Edit) (mid new : KindsState) → mid.table ≡ table → AreReady mid.table edits new → AreReady table edits new
AreReady-still table edits mid new same ready = subst (λ t. AreReady t edits new) same ready

-- after a question all is as ready as before it
pub AreReady-asked : (table : List (List ℕ)) (edits : List Edit) (kind : Kind) (old new : KindsState) → AreReady table edits old → LeavesOthers kind old new → AreKept old.table edits new → AreReady table edits new
AreReady-asked table edits kind old new ready leaves kept = record {
  kept = subst (λ t. AreKept t edits new) ready.kept.table_is kept;
  room = leaves.room _ ready.room;
}

-- so it is once room is made
pub AreReady-alike : (table : List (List ℕ)) (edits : List Edit) (old new : KindsState) → AreReady table edits old → KeepsAlike old new → AreReady table edits new
AreReady-alike table edits old new ready alike = record {
  kept = alike.kept table edits ready.kept;
  room = alike.leaves.room _ ready.room;
}

-- so it is if kinds follow what waited
pub AreReady-followed : (table : List (List ℕ)) (edits : List Edit) (old new : KindsState) → AreReady table edits old → AreKept old.table edits new → LeavesOrFollows edits old new → AreReady table edits new
AreReady-followed table edits old new ready kept leaves = record {
  kept = subst (λ t. AreKept t edits new) ready.kept.table_is kept;
  room = leaves.room _ ready.room;
}

-- nothing changes if nothing is done
pub LeavesAll-same : (s : KindsState) → LeavesAll s s
LeavesAll-same s = record { table = refl; followed = λ k. refl; blocks = λ k. refl; room = λ size room. room }

pub LeavesOthers-same : (kind : Kind) (s : KindsState) → LeavesOthers kind s s
LeavesOthers-same kind s = record { table = refl; followed = λ k apart. refl; blocks = λ k apart. refl; room = λ size room. room }

pub KeepsAlike-same : (s : KindsState) → KeepsAlike s s
KeepsAlike-same s = record { leaves = LeavesAll-same s; kept = λ table edits kept. kept }

-- what leaves all leaves those that don't follow all edits
pub LeavesOrFollows-all : (edits : List Edit) (old new : KindsState) → LeavesAll old new → LeavesOrFollows edits old new
LeavesOrFollows-all edits old new leaves = record {
  table = leaves.table;
  followed = λ k. inl (leaves.followed k, leaves.blocks k);
  room = leaves.room;
}

pub LeavesOrFollows-same : (edits : List Edit) (s : KindsState) → LeavesOrFollows edits s s
LeavesOrFollows-same edits s = LeavesOrFollows-all edits s s (LeavesAll-same s)

-- each kind but sums has followed so many edits
pub record HaveSeen (n : ℕ) (s : KindsState) : Type 0 where
  pub least : s.least.seen ≡ n
  pub greatest : s.greatest.seen ≡ n
  pub best : s.best.seen ≡ n
  pub maps : s.maps.seen ≡ n
  pub states : s.states.seen ≡ n

followed_all : (edits : List Edit) (old new : KindsState) → new.sums ≡ old.sums → HaveSeen (length edits) new → (k : Kind) → IsLeftOrFollows edits k old new
followed_all edits old new sums seen kind.Sum = inl (ap (λ (s : Following Sum ℕ). s.seen) sums, ap (λ (s : Following Sum ℕ). length s.sums) sums)
followed_all edits old new sums seen kind.Least = inr seen.least
followed_all edits old new sums seen kind.Greatest = inr seen.greatest
followed_all edits old new sums seen kind.Best = inr seen.best
followed_all edits old new sums seen kind.Affine = inr seen.maps
followed_all edits old new sums seen kind.Automaton = inr seen.states

-- so it is if each of them follows all edits
pub LeavesOrFollows-followed : (edits : List Edit) (old new : KindsState) → new.table ≡ old.table → new.room ≡ old.room → new.sums ≡ old.sums → HaveSeen (length edits) new → LeavesOrFollows edits old new
LeavesOrFollows-followed edits old new table room sums seen = record {
  table = table;
  followed = followed_all edits old new sums seen;
  room = λ size has. record { room = omega (arith, has.room, room) };
}

-- two steps leave what each of them does
pub LeavesAll-trans : (old mid new : KindsState) → LeavesAll old mid → LeavesAll mid new → LeavesAll old new
LeavesAll-trans old mid new first second = record {
  table = second.table ∙ first.table;
  followed = λ k. second.followed k ∙ first.followed k;
  blocks = λ k. second.blocks k ∙ first.blocks k;
  room = λ size room. second.room size (first.room size room);
}

pub LeavesOthers-trans : (kind : Kind) (old mid new : KindsState) → LeavesOthers kind old mid → LeavesOthers kind mid new → LeavesOthers kind old new
LeavesOthers-trans kind old mid new first second = record {
  table = second.table ∙ first.table;
  followed = λ k apart. second.followed k apart ∙ first.followed k apart;
  blocks = λ k apart. second.blocks k apart ∙ first.blocks k apart;
  room = λ size room. second.room size (first.room size room);
}

-- the trees are the same, and the table and the room
pub record SameTrees (old new : KindsState) : Type 0 where
  pub table : new.table ≡ old.table
  pub room : new.room ≡ old.room
  pub sums : new.sums ≡ old.sums
  pub least : new.least ≡ old.least
  pub greatest : new.greatest ≡ old.greatest
  pub best : new.best ≡ old.best
  pub maps : new.maps ≡ old.maps
  pub states : new.states ≡ old.states

-- so what is kept is right after any edits, if the sum that was returned last is
pub kept_by_edits : (table : List (List ℕ)) (edits more : List Edit) (old new : KindsState) → SameTrees old new → IsSumOfRange (edits ++ more) new.last → AreKept table edits old → AreKept table (edits ++ more) new
kept_by_edits table edits more old new same last kept = record {
  table_is = same.table ∙ kept.table_is;
  last = last;
  sums = subst (IsLate sum_operations (edits ++ more)) (sym same.sums) (late_edits sum_operations edits more old.sums kept.sums);
  least = subst (IsLate lowest_operations (edits ++ more)) (sym same.least) (late_edits lowest_operations edits more old.least kept.least);
  greatest = subst (IsLate highest_operations (edits ++ more)) (sym same.greatest) (late_edits highest_operations edits more old.greatest kept.greatest);
  best = subst (IsLate runs_operations (edits ++ more)) (sym same.best) (late_edits runs_operations edits more old.best kept.best);
  maps = subst (IsLate affine_operations (edits ++ more)) (sym same.maps) (late_edits affine_operations edits more old.maps kept.maps);
  states = subst (λ t. IsLate (automaton_operations t) (edits ++ more) new.states) (sym same.table)
      (subst (IsLate (automaton_operations old.table) (edits ++ more)) (sym same.states) (late_edits (automaton_operations old.table) edits more old.states kept.states));
}

-- what is kept is right after more edits, also with another last sum, if that is the sum of its range
pub kept_after : (table : List (List ℕ)) (edits more : List Edit) (view old : KindsState) (last : LastSum) → view ≡ old → IsSumOfRange (edits ++ more) last → AreKept table edits old → AreKept table (edits ++ more) (record view { last = last })
kept_after table edits more view old last same is kept =
    kept_by_edits table edits more view (record view { last = last }) (record { table = refl; room = refl; sums = refl; least = refl; greatest = refl; best = refl; maps = refl; states = refl }) is (subst (AreKept table edits) (sym same) kept)

-- the sum that was returned last
pub last_of : (table : List (List ℕ)) (edits : List Edit) (view old : KindsState) → view ≡ old → AreKept table edits old → IsSumOfRange edits view.last
last_of table edits view old same kept = subst (λ (s : KindsState). IsSumOfRange edits s.last) (sym same) kept.last
