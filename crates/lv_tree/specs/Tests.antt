-- The place at which a test on joins becomes true, on the way up from the first of some leaves or down from the last.
use Rattle.std.specs.Prelude.{◌≡◌, ℕ, Bool, true, false, ◌+◌, ◌-◌, ◌*◌, ◌^◌, ◌<◌, ◌≤◌, List, length, take, drop}
use Rattle.lv_bodies.specs.Body.{Operations}
use Rattle.lv_bodies.specs.Long.{CanJoinLong}
use Rattle.lv_tree.specs.Parts.{AreBefore, AreInOrder, joined_on, part_of, run_of}

-- a summary and that of the node that comes next are joined: the node behind on the way up, and before on the way down
abbrev pub joined_way : {S : Type 0} → Bool → Operations S → S → S → S
joined_way false o sum next = o.join sum next
joined_way true o sum next = o.join next sum

-- they may be joined so
abbrev pub CanJoinWay : {S : Type 0} → Bool → (S → ℕ → Type 0) → S → S → Type 0
CanJoinWay false within sum next = CanJoinLong within sum next
CanJoinWay true within sum next = CanJoinLong within next sum

-- the node that comes next at a place
abbrev pub next_of : Bool → ℕ → ℕ
next_of false place = place
next_of true place = place - 1

-- the place so many on
abbrev pub beyond : Bool → ℕ → ℕ → ℕ
beyond false place width = place + width
beyond true place width = place - width

-- the place at which the way begins, and the one at which it ends
abbrev pub begin_of : Bool → ℕ → ℕ → ℕ
begin_of false from to = from
begin_of true from to = to

abbrev pub end_of : Bool → ℕ → ℕ → ℕ
end_of false from to = to
end_of true from to = from

-- how far it is from a place to the end of the way, and from the way's beginning to a place
abbrev pub left_of : Bool → ℕ → ℕ → ℕ → ℕ
left_of false from to place = to - place
left_of true from to place = place - from

abbrev pub gone_of : Bool → ℕ → ℕ → ℕ → ℕ
gone_of false from to place = place - from
gone_of true from to place = to - place

-- `start` joined with all cells of the way up to a place
abbrev pub reached : {S : Type 0} → Bool → Operations S → List S → S → ℕ → ℕ → ℕ → S
reached false o cells start from to place = joined_on o start (run_of cells from (place - from))
reached true o cells start from to place = o.join (part_of o cells place to) start

-- all of it may be joined
abbrev pub AreOnWay : {S : Type 0} → Bool → Operations S → S → List S → Type 0
AreOnWay false o start leaves = AreInOrder o start leaves
AreOnWay true o start leaves = AreBefore o leaves start

-- what is reached at a place is not it, unless the way begins there
abbrev pub IsNotYet : {S : Type 0} → Bool → Operations S → (S → Bool) → List S → S → ℕ → ℕ → ℕ → Type 0
IsNotYet down o test cells start from to at = 0 < gone_of down from to at → test (reached down o cells start from to at) ≡ false

-- the test becomes true with the node over 2 ^ j cells that comes next at a place
pub record TurnsAt {S : Type 0} (down : Bool) (o : Operations S) (test : S → Bool) (cells : List S) (start : S) (from to node width : ℕ) (sum : S) : Type 0 where
  pub level : ℕ
  pub wide : width ≡ 2 ^ level
  pub low : from ≤ node * width
  pub high : node * width ≤ to
  pub fits : width ≤ left_of down from to (node * width)
  pub sum_is : sum ≡ reached down o cells start from to (node * width)
  pub before : IsNotYet down o test cells start from to (node * width)
  pub after : test (reached down o cells start from to (beyond down (node * width) width)) ≡ true

-- a search has come to a place with what is reached there: the test does not become true up to it, and does with the cell that comes next
-- if one is left
pub record HasComeTo {S : Type 0} (down : Bool) (o : Operations S) (test : S → Bool) (cells : List S) (start : S) (from to at : ℕ) (sum : S) : Type 0 where
  pub low : from ≤ at
  pub high : at ≤ to
  pub sum_is : sum ≡ reached down o cells start from to at
  pub before : IsNotYet down o test cells start from to at
  pub after : 0 < left_of down from to at → test (reached down o cells start from to (beyond down at 1)) ≡ true

-- a search has come to a place, up to which the test does not become true
pub record Seeking {S : Type 0} (down : Bool) (o : Operations S) (test : S → Bool) (cells : List S) (start : S) (from to node width : ℕ) (sum : S) : Type 0 where
  pub level : ℕ
  pub wide : width ≡ 2 ^ level
  pub low : from ≤ node * width
  pub high : node * width ≤ to
  pub sum_is : sum ≡ reached down o cells start from to (node * width)
  pub before : IsNotYet down o test cells start from to (node * width)

-- at which less is left than a node is wide
pub record SeeksShort {S : Type 0} (down : Bool) (o : Operations S) (test : S → Bool) (cells : List S) (start : S) (from to node width : ℕ) (sum : S) : Type 0 where
  pub seeking : Seeking down o test cells start from to node width sum
  pub past : left_of down from to (node * width) < width

-- the test becomes true with the leaf at place k of some leaves, and not before it
pub record IsTurn {S : Type 0} (o : Operations S) (test : S → Bool) (start : S) (leaves : List S) (k : ℕ) : Type 0 where
  pub inside : k < length leaves
  pub before : 0 < k → test (joined_on o start (take k leaves)) ≡ false
  pub after : test (joined_on o start (take (k + 1) leaves)) ≡ true

-- it becomes true with none of them
abbrev pub HasNoTurn : {S : Type 0} → Operations S → (S → Bool) → S → List S → Type 0
HasNoTurn o test start leaves = 0 < length leaves → test (joined_on o start leaves) ≡ false

-- going from the last leaf down, with `start` behind all leaves, the test becomes true with the leaf at place k, and not with only those behind
-- it
pub record IsLastTurn {S : Type 0} (o : Operations S) (test : S → Bool) (start : S) (leaves : List S) (k : ℕ) : Type 0 where
  pub inside : k < length leaves
  pub before : k + 1 < length leaves → test (o.join (joined_on o o.identity (drop (k + 1) leaves)) start) ≡ false
  pub after : test (o.join (joined_on o o.identity (drop k leaves)) start) ≡ true

abbrev pub HasNoLastTurn : {S : Type 0} → Operations S → (S → Bool) → S → List S → Type 0
HasNoLastTurn o test start leaves = 0 < length leaves → test (o.join (joined_on o o.identity leaves) start) ≡ false
