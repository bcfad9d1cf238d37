-- What each call on a series answers: why an edit is refused, what an accepted one returns, and the values of a range.
use Rattle.std.specs.Prelude.{◌≡◌, ℕ, ℤ, pos, ◌+◌, ◌-◌, ◌*◌, ◌^◌, ◌≤◌, Bool, false, ◌&&◌, Option, Some, None, Result, Ok, Err, ◌⊎◌, List, drop, length, All, nat_le, nat_lt, nat_eq, if◌then◌else◌}
use Rattle.std.specs.List.{slice_index_or}
use Rattle.lv_geometry.specs.Elements.{IsElement}
use Rattle.lv_bodies.specs.Body.{Operations, fold_of}
use Rattle.lv_bodies.specs.declared.kinds.Kind.{Kind}
use Rattle.lv_tree.specs.declared.kind_summaries.KindSummary.{KindSummary}
use Rattle.lv_series.specs.declared.answers.LongAnswer.{LongAnswer}
use Rattle.lv_series.specs.declared.answers.LongScan.{LongScan}
use Rattle.lv_series.specs.declared.edits.LongEdit.{LongEdit}
use Rattle.lv_series.specs.declared.edits.LongEdit.TheVariants.{Push, Pop, Write, Expire, Swap, Truncate}
use Rattle.lv_series.specs.declared.receipts.LongReceipt.{LongReceipt}
use Rattle.lv_series.specs.declared.receipts.LongReceipt.TheVariants.{Pushed, Popped, Written, Expired, Swapped, Truncated}
use Rattle.lv_series.specs.declared.refusals.LongRefusal.{LongRefusal}
use Rattle.lv_series.specs.declared.refusals.LongRefusal.TheVariants.{Worn, Empty, OutOfRange, Full, NoMemory}
pub use Rattle.lv_series.specs.Plain.{Held, IsLongAnswer, IsLongScan, IsLongValue, SeriesState, changed, is_border, keeps_kind, range_refused, running_fold, running_folds, size_of, slice_of, with_kind}

-- what is kept, if the first of the elements in memory has the index 8 * base
abbrev pub held_in : ℕ → ℕ → List ℤ → Held
held_in base first elements = record { first = first; elements = drop (first - 8 * base) elements }

-- whether an element is kept under an index
abbrev pub is_kept : Held → ℕ → Bool
is_kept h i = nat_le h.first i && nat_lt i (size_of h)

-- why an edit is refused while edits are left; for an index that isn't kept, the refusal names those that are
abbrev pub refused_on : Held → LongEdit → Option LongRefusal
refused_on h (Push x) = if nat_lt (size_of h) (2 ^ 62) then None else Some Full
refused_on h Pop = if nat_eq (length h.elements) 0 then Some Empty else None
refused_on h (Write i x) = if is_kept h i then None else Some (OutOfRange h.first (size_of h))
refused_on h (Expire i) = if is_border h i then None else Some (OutOfRange h.first (size_of h))
refused_on h (Swap i j) = if is_kept h i && is_kept h j then None else Some (OutOfRange h.first (size_of h))
refused_on h (Truncate n) = if is_border h n then None else Some (OutOfRange h.first (size_of h))

-- the element under an index; the same, or the refusal that names the indices that are kept
abbrev pub element_of : Held → ℕ → ℤ
element_of h i = slice_index_or h.elements (i - h.first) (pos 0)

abbrev pub element_at : Held → ℕ → Result ℤ LongRefusal
element_at h i = if is_kept h i then Ok (element_of h i) else Err (OutOfRange h.first (size_of h))

-- what comes before a scan that goes on: the fold of some elements, at most 2 ^ 62 with those to come
pub record StandsBefore {S : Type 0} (o : Operations S) (before : S) (more : ℕ) : Type 0 where
  pub front : List ℤ
  pub is_fold : before ≡ fold_of o front
  pub elements : All IsElement front
  pub few : length front + more ≤ 2 ^ 62

-- a refusal is the one that applies, or `NoMemory` if none does
abbrev pub IsRefusal : Option LongRefusal → LongRefusal → Type 0
IsRefusal known refusal = (known ≡ Some refusal) ⊎ ((known ≡ None) × (refusal ≡ NoMemory))

-- the first refusal that applies to an edit, except for out of memory, or none: 2 ^ 64 - 1 edits are the most
abbrev pub refused : SeriesState → LongEdit → Option LongRefusal
refused s edit = if nat_eq s.edits 18446744073709551615 then Some Worn else refused_on s.held edit

-- the receipt of an accepted edit: its number, and the index, the element dropped, the element before, how many were dropped, or what there is
-- now
abbrev pub receipt_of : SeriesState → LongEdit → LongReceipt
receipt_of s (Push x) = Pushed (s.edits + 1) (size_of s.held)
receipt_of s Pop = Popped (s.edits + 1) (element_of s.held (size_of s.held - 1))
receipt_of s (Write i x) = Written (s.edits + 1) (element_of s.held i)
receipt_of s (Expire i) = Expired (s.edits + 1) (i - s.held.first)
receipt_of s (Swap i j) = Swapped (s.edits + 1) (element_of s.held j) (element_of s.held i)
receipt_of s (Truncate n) = Truncated (s.edits + 1) (size_of s.held - n)

-- an edit was accepted: nothing refuses it, it is answered its receipt, and what is kept has changed by it
pub record Accepts (old : SeriesState) (edit : LongEdit) (receipt : LongReceipt) (new : SeriesState) : Type 0 where
  pub free : refused old edit ≡ None
  pub receipt_is : receipt ≡ receipt_of old edit
  pub after : new ≡ record old { held = changed old.held edit; edits = old.edits + 1 }

-- or refused, and nothing has changed
pub record Refuses (old : SeriesState) (edit : LongEdit) (refusal : LongRefusal) (new : SeriesState) : Type 0 where
  pub why : IsRefusal (refused old edit) refusal
  pub same : new ≡ old

-- what a call answers to an edit
abbrev pub Answers : SeriesState → LongEdit → Result LongReceipt LongRefusal → SeriesState → Type 0
Answers old edit (Ok receipt) new = Accepts old edit receipt new
Answers old edit (Err refusal) new = Refuses old edit refusal new

-- a reduction, or why its range is refused
abbrev pub Reduces : {S : Type 0} → Operations S → SeriesState → ℕ → ℕ → Result (LongAnswer S) LongRefusal → Type 0
Reduces o s lo hi (Ok answer) = IsLongAnswer o s lo hi answer
Reduces o s lo hi (Err refusal) = range_refused s.held lo hi ≡ Some refusal

-- a value by a kind, or why its range is refused
abbrev pub Values : SeriesState → Kind → ℕ → ℕ → Result (LongAnswer KindSummary) LongRefusal → Type 0
Values s k lo hi (Ok answer) = IsLongValue s k lo hi answer
Values s k lo hi (Err refusal) = range_refused s.held lo hi ≡ Some refusal

-- a call that makes the kind's tree first was refused, and nothing has changed: its range is refused, or else there is no memory for a tree
-- that isn't there yet
abbrev pub RefusesAsked : SeriesState → Kind → ℕ → ℕ → LongRefusal → SeriesState → Type 0
RefusesAsked old k lo hi refusal new = (new ≡ old) × ((range_refused old.held lo hi ≡ Some refusal) ⊎ ((range_refused old.held lo hi ≡ None) × (refusal ≡ NoMemory) × (keeps_kind old.kinds k ≡ false)))

-- a value by a kind whose tree is made first, or why the call is refused
abbrev pub Asks : SeriesState → Kind → ℕ → ℕ → Result (LongAnswer KindSummary) LongRefusal → SeriesState → Type 0
Asks old k lo hi (Ok answer) new = IsLongValue old k lo hi answer × (new ≡ record old { kinds = with_kind k old.kinds })
Asks old k lo hi (Err refusal) new = RefusesAsked old k lo hi refusal new

-- a piece of a scan, or why its range is refused, with the buffer as it was
abbrev pub Scans : {S : Type 0} → Operations S → SeriesState → ℕ → ℕ → Bool → S → List S → Result LongScan LongRefusal → List S → Type 0
Scans o s lo hi inclusive before old (Ok scan) new = IsLongScan o s lo hi inclusive before old scan new
Scans o s lo hi inclusive before old (Err refusal) new = (range_refused s.held lo hi ≡ Some refusal) × (new ≡ old)
