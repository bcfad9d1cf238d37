-- What a query of a series by one kind answers, and what making a kind's tree does, for the object in a slot.
use Rattle.std.specs.Prelude.{◌≡◌, ℕ, ◌⊎◌, Bool, true, false, Option, Some, None, nat_lt}
use Rattle.lv_bodies.specs.Plain.{plain_value_with}
use Rattle.lv_bodies.specs.declared.kinds.Kind.{Kind}
use Rattle.lv_series.specs.Series.{keeps_kind, range_refused, slice_of, with_kind}
use Rattle.lv_series.specs.declared.refusals.LongRefusal.{LongRefusal}
use Rattle.lv_series.specs.declared.refusals.LongRefusal.TheVariants.{NoMemory}
use Rattle.livevec_c.specs.declared.objects.Object.{Object}
use Rattle.livevec_c.specs.declared.series_results.Refused.{Refused}
use Rattle.livevec_c.specs.declared.series_results.SeriesReduced.{SeriesReduced}
use Rattle.livevec_c.specs.Seats.{values_for}
use Rattle.livevec_c.specs.SeriesAnswers.{long_valued, refused_by, unheld, unreduced_by}
use Rattle.livevec_c.specs.SeriesBehind.{SixBehind}
use Rattle.livevec_c.specs.SeriesHeld.{AtSeries, Long}

-- the refusal of a number that names no kind
abbrev pub unkind : Refused
unkind = record { refusal = 113; first = 0; size = 0 }

-- a value of a series: the plain value of the elements of a range, by the series's own table, after its last edit, and whether there is an element
abbrev pub value_of : Kind → ℕ → ℕ → Long → SeriesReduced
value_of kind lo hi s =
    long_valued (range_refused s.held lo hi) s.edits (values_for (nat_lt lo hi) (plain_value_with s.table kind (slice_of s.held lo hi)))

-- a series that was asked by a kind: unchanged, if the range is refused; else the kind has a tree
abbrev pub with_tree : Kind → Option LongRefusal → Long → Long
with_tree kind (Some refusal) s = s
with_tree kind None s = record s { kinds = with_kind kind s.kinds }

-- the answer to such a query; or there is no memory for a tree that isn't there yet, if the range is not refused, and nothing has changed
abbrev pub ValuesSeries : Kind → ℕ → ℕ → SeriesReduced → Long → Long → Type 0
ValuesSeries kind lo hi answer old new =
    ((answer ≡ value_of kind lo hi old) × (new ≡ with_tree kind (range_refused old.held lo hi) old))
    ⊎ ((answer ≡ unreduced_by (refused_by NoMemory)) × (range_refused old.held lo hi ≡ None) × (keeps_kind old.kinds kind ≡ false) × (new ≡ old))

-- a query of the object in a slot, by a kind, if there is one
abbrev pub ValuesBehind : Option Kind → ℕ → ℕ → SeriesReduced → Option Object → Option Object → Type 0
ValuesBehind None lo hi answer old new = (answer ≡ unreduced_by unkind) × (new ≡ old)
ValuesBehind (Some kind) lo hi answer old new = AtSeries (ValuesSeries kind lo hi answer) (answer ≡ unreduced_by unheld) old new

-- a query by all six kinds, each by its tree, which is made first if that is asked, or by one kind
abbrev pub ValuesBy : Bool → Bool → Option Kind → ℕ → ℕ → SeriesReduced → Option Object → Option Object → Type 0
ValuesBy true trees kind lo hi answer old new = SixBehind trees lo hi answer old new
ValuesBy false trees kind lo hi answer old new = ValuesBehind kind lo hi answer old new

-- a kind's tree is made, or there is no memory for it, and nothing has changed
abbrev pub PreparesSeries : Kind → ℕ → Long → Long → Type 0
PreparesSeries kind answer old new = ((answer ≡ 0) × (new ≡ record old { kinds = with_kind kind old.kinds })) ⊎ ((answer ≡ 6) × (new ≡ old))

-- the tree of a kind is made for the object in a slot, if there is such a kind
abbrev pub PreparesBehind : Option Kind → ℕ → Option Object → Option Object → Type 0
PreparesBehind None answer old new = (answer ≡ 113) × (new ≡ old)
PreparesBehind (Some kind) answer old new = AtSeries (PreparesSeries kind answer) (answer ≡ 101) old new
