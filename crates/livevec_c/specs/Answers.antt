-- The answers of the library, laid out for C.
use Rattle.std.specs.Prelude.{ℕ, ℤ, pos, Bool, true, false, ◌^◌, Option, Some, None, Result, Ok, Err, ok_or, List, length, nat_lt, slice_get, replicate, unwrap_or, is_some, option_map, if◌then◌else◌}
use Rattle.std.specs.Int.{int_rem_euclid, int_div_euclid}
use Rattle.std.specs.Int.RustNames.{unsigned_abs}
use Rattle.lv_geometry.specs.Numbers.{number_of}
use Rattle.lv_geometry.specs.declared.refusals.Refusal.{Refusal}
use Rattle.lv_geometry.specs.declared.refusals.Refusal.TheVariants.{BadRange, Contended, OutOfRange, Overtaken, TooLarge}
use Rattle.lv_bodies.specs.Six.{SixSummary}
use Rattle.lv_edits.specs.declared.receipt.Receipt.{Receipt}
use Rattle.lv_edits.specs.declared.receipt.Receipt.TheVariants.{Pushed, Popped, Written, Reserved, Swapped, Truncated}
use Rattle.lv_reduce.specs.declared.reductions.Answer.{Answer}
use Rattle.lv_tree.specs.declared.kind_summaries.KindSummary.{KindSummary}
use Rattle.lv_tree.specs.declared.kind_summaries.KindSummary.TheVariants as part
use Rattle.lv_geometry.specs.declared.nodes.Node.{Node}
use Rattle.lv_summary.specs.declared.accepted.Accepted.{Accepted}
use Rattle.lv_summary.specs.declared.accepted.Accepted.TheVariants.{Held, Installed, Stale}
use Rattle.livevec_c.specs.declared.jobs.ClaimedJob.{ClaimedJob}
use Rattle.livevec_c.specs.declared.jobs.Delivered.{Delivered}
use Rattle.livevec_c.specs.declared.jobs.Vetted.{Vetted}
use Rattle.livevec_c.specs.declared.results.Edited.{Edited}
use Rattle.livevec_c.specs.declared.results.Element.{Element}
use Rattle.livevec_c.specs.declared.values.PlainValues.{PlainValues}
use Rattle.livevec_c.specs.declared.results.Reduced.{Reduced}
use Rattle.livevec_c.specs.declared.results.Verdict.{Verdict}

-- what a refusal says besides its number: the size, the limit, or the edit that came first
abbrev pub detail_of : Refusal → ℕ
detail_of (OutOfRange size) = size
detail_of (TooLarge limit) = limit
detail_of (Contended edit) = edit
detail_of (Overtaken edit) = edit
detail_of _ = 0

-- an edit's receipt: its number, and a place or an element
abbrev pub received : Receipt → Edited
received (Pushed edit index) = record { refusal = 0; detail = 0; edit = edit; place = index; value = pos 0 }
received (Popped edit value) = record { refusal = 0; detail = 0; edit = edit; place = 0; value = value }
received (Written edit before) = record { refusal = 0; detail = 0; edit = edit; place = 0; value = before }
received (Reserved edit capacity) = record { refusal = 0; detail = 0; edit = edit; place = capacity; value = pos 0 }
received (Swapped edit first second) = record { refusal = 0; detail = 0; edit = edit; place = 0; value = first }
received (Truncated edit dropped) = record { refusal = 0; detail = 0; edit = edit; place = dropped; value = pos 0 }

-- an edit's answer
abbrev pub edited_by : Result Receipt Refusal → Edited
edited_by (Ok receipt) = received receipt
edited_by (Err refusal) = record { refusal = number_of refusal; detail = detail_of refusal; edit = 0; place = 0; value = pos 0 }

-- an edit's answer if a slot holds no vector
abbrev pub unedited : Edited
unedited = record { refusal = 101; detail = 0; edit = 0; place = 0; value = pos 0 }

-- why an edit would be refused, if it would be
abbrev pub judged_by : Option Refusal → Verdict
judged_by None = record { refusal = 0; detail = 0 }
judged_by (Some refusal) = record { refusal = number_of refusal; detail = detail_of refusal }

-- the verdict if a slot holds no vector
abbrev pub unjudged : Verdict
unjudged = record { refusal = 101; detail = 0 }

-- an element's answer
abbrev pub element_by : Result ℤ Refusal → Element
element_by (Ok value) = record { refusal = 0; detail = 0; value = value }
element_by (Err refusal) = record { refusal = number_of refusal; detail = detail_of refusal; value = pos 0 }

-- the element of a list at an index, or the refusal with the list's size
abbrev pub element_in : List ℤ → ℕ → Result ℤ Refusal
element_in xs i = ok_or (slice_get xs i) (OutOfRange (length xs))

-- an element's answer if a slot holds nothing of the sort that was asked for
abbrev pub no_element : Element
no_element = record { refusal = 101; detail = 0; value = pos 0 }

-- why a range of a list is refused: its start is past its end, or else its end is past that of the list
abbrev pub range_refusal_in : List ℤ → ℕ → ℕ → Option Refusal
range_refusal_in xs lo hi = if nat_lt hi lo then Some BadRange else (if nat_lt (length xs) hi then Some (OutOfRange (length xs)) else None)

-- the low 64 bits of a number, and the others, which have its sign
abbrev pub low_half : ℤ → ℕ
low_half x = unsigned_abs (int_rem_euclid x (pos (2 ^ 64)))

abbrev pub high_half : ℤ → ℤ
high_half x = int_div_euclid x (pos (2 ^ 64))

-- a `bool` of C and the bytes after it, as one word
abbrev pub word_of : Bool → ℕ
word_of true = 1
word_of false = 0

-- the six summaries of some elements as their plain values; those that an empty list doesn't have are 0
abbrev pub spread : SixSummary → PlainValues
spread s = record {
  sum = s.0;
  least = unwrap_or s.1.0 (pos 0);
  greatest = unwrap_or s.1.1.0 (pos 0);
  best_low = low_half (unwrap_or (option_map (λ r. r.best) s.1.1.1.0) (pos 0));
  best_high = high_half (unwrap_or (option_map (λ r. r.best) s.1.1.1.0) (pos 0));
  affine_a = s.1.1.1.1.0.a;
  affine_b = s.1.1.1.1.0.b;
  automaton = s.1.1.1.1.1;
  any = word_of (is_some s.1.0);
}

-- plain values with that of one kind in its place; the minimum's also says whether there is an element
abbrev pub with_part : KindSummary → PlainValues → PlainValues
with_part (part.Sum s) v = record v { sum = s }
with_part (part.Least x) v = record v { least = unwrap_or x (pos 0); any = word_of (is_some x) }
with_part (part.Greatest x) v = record v { greatest = unwrap_or x (pos 0) }
with_part (part.Best r) v = record v { best_low = low_half (unwrap_or (option_map (λ r. r.best) r) (pos 0)); best_high = high_half (unwrap_or (option_map (λ r. r.best) r) (pos 0)) }
with_part (part.Affine m) v = record v { affine_a = m.a; affine_b = m.b }
with_part (part.Automaton states) v = record v { automaton = states }

-- no values
abbrev pub valueless : PlainValues
valueless = record { sum = 0; least = pos 0; greatest = pos 0; best_low = 0; best_high = pos 0; affine_a = 0; affine_b = 0; automaton = replicate 8 0; any = word_of false }

-- a reduction that was refused
abbrev pub unreduced : ℕ → ℕ → Reduced
unreduced refusal detail = record { refusal = refusal; detail = detail; edit = 0; cells = 0; summaries = 0; values = valueless }

-- a reduction's answer
abbrev pub reduced_by : Result (Answer SixSummary) Refusal → Reduced
reduced_by (Ok answer) = record { refusal = 0; detail = 0; edit = answer.edit; cells = answer.cells_read; summaries = answer.summaries_read; values = spread answer.value }
reduced_by (Err refusal) = unreduced (number_of refusal) (detail_of refusal)

-- a claim that found no job, or was refused
abbrev pub unclaimed : ℕ → ClaimedJob
unclaimed refusal = record { refusal = refusal; found = false; level = 0; number = 0; version = 0 }

-- a claim of a node at a version
abbrev pub claimed_by : Node → ℕ → ClaimedJob
claimed_by node version = record { refusal = 0; found = true; level = node.level; number = node.number; version = version }

-- the answer of vetting if a slot does not hold what it should
abbrev pub unvetted : Vetted
unvetted = record { refusal = 101; yes = false }

-- a delivery that was refused
abbrev pub unaccepted : ℕ → Delivered
unaccepted refusal = record { refusal = refusal; became = 0; now = 0 }

-- what became of a delivery
abbrev pub accepted_by : Accepted → Delivered
accepted_by Installed = record { refusal = 0; became = 1; now = 0 }
accepted_by Held = record { refusal = 0; became = 2; now = 0 }
accepted_by (Stale now) = record { refusal = 0; became = 3; now = now }
