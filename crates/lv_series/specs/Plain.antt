-- What holds of every series: each answer is the plain left fold of its range after the accepted edits, whatever was refused.
use Rattle.std.specs.Prelude.{◌≡◌, ℕ, ℤ, ◌+◌, ◌-◌, Bool, true, false, ◌&&◌, Option, Some, None, List, [], ◌∷◌, ◌++◌, length, take, drop, map, min, fold, slice_set, nat_le, nat_lt, if◌then◌else◌}
use Rattle.std.specs.List.{range_with_len, slice_range, swap}
use Rattle.lv_bodies.specs.Body.{Operations, fold_of}
use Rattle.lv_bodies.specs.declared.kinds.Kind.{Kind}
use Rattle.lv_bodies.specs.declared.kinds.Kind.TheVariants as kind
use Rattle.lv_tree.specs.KindSummaries.{summary_by}
use Rattle.lv_tree.specs.declared.kind_summaries.KindSummary.{KindSummary}
use Rattle.lv_series.specs.declared.answers.LongAnswer.{LongAnswer}
use Rattle.lv_series.specs.declared.answers.LongScan.{LongScan}
use Rattle.lv_series.specs.declared.edits.LongEdit.{LongEdit}
use Rattle.lv_series.specs.declared.edits.LongEdit.TheVariants.{Push, Pop, Write, Expire, Swap, Truncate}
use Rattle.lv_series.specs.declared.refusals.LongRefusal.{LongRefusal}
use Rattle.lv_series.specs.declared.refusals.LongRefusal.TheVariants.{OutOfRange, BadRange}

-- what is kept: elements, under the indices from `first` on
pub record Held : Type 0 where
  pub first : ℕ
  pub elements : List ℤ

-- which kinds have a tree
pub record KeptKinds : Type 0 where
  pub sum : Bool
  pub least : Bool
  pub greatest : Bool
  pub best : Bool
  pub affine : Bool
  pub automaton : Bool

-- none has
abbrev pub no_kinds : KeptKinds
no_kinds = record { sum = false; least = false; greatest = false; best = false; affine = false; automaton = false }

-- whether a kind has one
abbrev pub keeps_kind : KeptKinds → Kind → Bool
keeps_kind k kind.Sum = k.sum
keeps_kind k kind.Least = k.least
keeps_kind k kind.Greatest = k.greatest
keeps_kind k kind.Best = k.best
keeps_kind k kind.Affine = k.affine
keeps_kind k kind.Automaton = k.automaton

-- the kinds that have a tree, with one kind more
abbrev pub with_kind : Kind → KeptKinds → KeptKinds
with_kind kind.Sum k = record k { sum = true }
with_kind kind.Least k = record k { least = true }
with_kind kind.Greatest k = record k { greatest = true }
with_kind kind.Best k = record k { best = true }
with_kind kind.Affine k = record k { affine = true }
with_kind kind.Automaton k = record k { automaton = true }

-- a series: its automaton's table, which kinds have a tree, what it keeps, and how many edits it accepted
pub record SeriesState : Type 0 where
  pub table : List (List ℕ)
  pub kinds : KeptKinds
  pub held : Held
  pub edits : ℕ

-- what is kept after an edit that is possible: an expiry drops all before an index, and the others keep their indices
abbrev pub changed : Held → LongEdit → Held
changed h (Push x) = record h { elements = h.elements ++ x ∷ [] }
changed h Pop = record h { elements = take (length h.elements - 1) h.elements }
changed h (Write i x) = record h { elements = slice_set h.elements (i - h.first) x }
changed h (Expire i) = record { first = i; elements = drop (i - h.first) h.elements }
changed h (Swap i j) = record h { elements = swap h.elements (i - h.first) (j - h.first) }
changed h (Truncate n) = record h { elements = take (n - h.first) h.elements }

-- a series after edits that are possible, one after another
abbrev pub after_edits : SeriesState → List LongEdit → SeriesState
after_edits s edits = record s { held = fold changed s.held edits; edits = s.edits + length edits }

-- the index behind the last element; whether what is kept can begin, or end, before an index; the elements of a range, its end excluded
abbrev pub size_of : Held → ℕ
size_of h = h.first + length h.elements

abbrev pub is_border : Held → ℕ → Bool
is_border h i = nat_le h.first i && nat_le i (size_of h)

abbrev pub slice_of : Held → ℕ → ℕ → List ℤ
slice_of h lo hi = slice_range h.elements (lo - h.first) (hi - h.first)

-- why a range is refused: its start is past its end, or else not all of it is kept
abbrev pub range_refused : Held → ℕ → ℕ → Option LongRefusal
range_refused h lo hi = if nat_lt hi lo then Some BadRange else (if is_border h lo && is_border h hi then None else Some (OutOfRange h.first (size_of h)))

-- the running folds of a list, the plain left folds of its prefixes that go on from a summary: each with its own element or without it
abbrev pub running_fold : {S : Type 0} → Bool → Operations S → S → List ℤ → ℕ → S
running_fold inclusive o s xs i = fold (λ t x. o.join t (o.lift x)) s (take (if inclusive then i + 1 else i) xs)

abbrev pub running_folds : {S : Type 0} → Bool → Operations S → S → List ℤ → List S
running_folds inclusive o s xs = map (running_fold inclusive o s xs) (range_with_len 0 (length xs))

-- the answer by a kind: nothing refuses the range, and it is the summary of its elements at the last edit
pub record IsLongValue (s : SeriesState) (k : Kind) (lo hi : ℕ) (answer : LongAnswer KindSummary) : Type 0 where
  pub granted : range_refused s.held lo hi ≡ None
  pub edit : answer.edit ≡ s.edits
  pub value : answer.value ≡ summary_by s.table k (slice_of s.held lo hi)

module _ {S : Type 0} (o : Operations S) (s : SeriesState) (lo hi : ℕ) where
  -- a reduction's answer: nothing refuses the range, and it is the plain left fold of its elements at the last edit
  pub record IsLongAnswer (answer : LongAnswer S) : Type 0 where
    pub granted : range_refused s.held lo hi ≡ None
    pub edit : answer.edit ≡ s.edits
    pub value : answer.value ≡ fold_of o (slice_of s.held lo hi)

  -- a piece of a scan: as many running folds of the range as a buffer has room for, and the rest of the buffer as it was
  pub record IsLongScan (inclusive : Bool) (before : S) (old : List S) (scan : LongScan) (new : List S) : Type 0 where
    pub granted : range_refused s.held lo hi ≡ None
    pub edit : scan.edit ≡ s.edits
    pub count : scan.count ≡ min (length old) (hi - lo)
    pub values : new ≡ running_folds inclusive o before (slice_of s.held lo (lo + scan.count)) ++ drop scan.count old

-- a call on a series: for edits, which are all accepted or all refused; or for the tree of a kind
pub data Called : Type 0 where
  edited : List LongEdit → Bool → Called
  prepared : Kind → Called

-- what a call makes of a series: refused edits change nothing; nor does a tree change what is kept, whether there was memory for it or not
abbrev pub Step : SeriesState → Called → SeriesState → Type 0
Step s (edited edits true) next = next ≡ after_edits s edits
Step s (edited edits false) next = next ≡ s
Step s (prepared k) next = (kinds : KeptKinds) × (next ≡ record s { kinds = kinds })

-- calls one after another, and the series after all of them; the edits among them that were accepted
abbrev pub Run : SeriesState → List Called → SeriesState → Type 0
Run s [] next = next ≡ s
Run s (call ∷ others) next = (mid : SeriesState) × Step s call mid × Run mid others next

abbrev pub accepted_by : Called → List LongEdit
accepted_by (edited edits accepted) = if accepted then edits else []
accepted_by (prepared k) = []

abbrev pub accepted_in : List Called → List LongEdit
accepted_in [] = []
accepted_in (call ∷ others) = accepted_by call ++ accepted_in others

-- a series that begins without elements and without trees, after some edits
abbrev pub plain_series : List (List ℕ) → List LongEdit → SeriesState
plain_series table edits = after_edits (record { table = table; kinds = no_kinds; held = record { first = 0; elements = [] }; edits = 0 }) edits

-- whatever the calls on a new series, what it keeps and answers at the end is what the accepted edits make by themselves
pub record IsPlain {S : Type 0} (o : Operations S) (table : List (List ℕ)) (calls : List Called) (s : SeriesState) : Type 0 where
  pub held : s.held ≡ (plain_series table (accepted_in calls)).held
  pub edits : s.edits ≡ length (accepted_in calls)
  pub values : (k : Kind) (lo hi : ℕ) (answer : LongAnswer KindSummary) → IsLongValue s k lo hi answer → IsLongValue (plain_series table (accepted_in calls)) k lo hi answer
  pub reduces : (lo hi : ℕ) (answer : LongAnswer S) → IsLongAnswer o s lo hi answer → IsLongAnswer o (plain_series table (accepted_in calls)) lo hi answer
  pub scans : (lo hi : ℕ) (inclusive : Bool) (before : S) (old new : List S) (scan : LongScan) → IsLongScan o s lo hi inclusive before old scan new → IsLongScan o (plain_series table (accepted_in calls)) lo hi inclusive before old scan new
