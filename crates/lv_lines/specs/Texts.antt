-- The texts of replies, as formats say them.
use Rattle.std.specs.Prelude.{ℕ, ℤ, Bool, Option, Some, None, Result, Ok, Err, List, [], ◌∷◌, ◌++◌, length, map, codes, decimal, if◌then◌else◌}
use Rattle.std.specs.Fmt.{signed_decimal}
use Rattle.std.specs.List.{flat_map}
use Rattle.lv_geometry.specs.declared.nodes.Node.{Node}
use Rattle.lv_geometry.specs.declared.refusals.Refusal.{Refusal}
use Rattle.lv_geometry.specs.Numbers.{number_of}
use Rattle.lv_bodies.specs.declared.kinds.Kind.{Kind}
use Rattle.lv_bodies.specs.declared.kinds.Shown.{Shown}
use Rattle.lv_bodies.specs.declared.kinds.Shown.TheVariants.{Sum, Least, Greatest, Best, Affine, Automaton}
use Rattle.lv_edits.specs.declared.receipt.Receipt.{Receipt}
use Rattle.lv_edits.specs.declared.receipt.Receipt.TheVariants.{Pushed, Popped, Written, Reserved, Swapped, Truncated}
use Rattle.lv_summary.specs.declared.accepted.Accepted.{Accepted}
use Rattle.lv_summary.specs.declared.accepted.Accepted.TheVariants.{Installed, Held, Stale}
use Rattle.lv_lines.specs.declared.lines.Line.{Line}
use Rattle.lv_lines.specs.declared.lines.Line.TheVariants.{Bad}
use Rattle.lv_lines.specs.Grammar.{kind_name}
use Rattle.lv_lines.specs.Words.{spaced}

-- a line of reply: its text and the byte that ends it
abbrev pub reply_line : List ℕ → List ℕ
reply_line text = text ++ 10 ∷ []

-- the reply that reports an error, given its number
abbrev pub refused_by : ℕ → List ℕ
refused_by number = reply_line (codes "refused " ++ decimal number)

abbrev pub refused_text : Refusal → List ℕ
refused_text refusal = refused_by (number_of refusal)

-- the reply to a line that is not understood: the line's number
abbrev pub bad_text : ℕ → List ℕ
bad_text n = reply_line (codes "bad " ++ decimal n)

-- the reply to a line that is not a command: none if it says nothing, and its number if it is not understood. A command has none here
abbrev pub unasked_text : {C : Type 0} → ℕ → Line C → List ℕ
unasked_text n Bad = bad_text n
unasked_text n _ = []

-- the reply to an accepted update
abbrev pub receipt_text : Receipt → List ℕ
receipt_text (Pushed edit index) = reply_line (codes "edit " ++ decimal edit ++ codes " at " ++ decimal index)
receipt_text (Popped edit value) = reply_line (codes "edit " ++ decimal edit ++ codes " value " ++ signed_decimal value)
receipt_text (Written edit before) = reply_line (codes "edit " ++ decimal edit ++ codes " was " ++ signed_decimal before)
receipt_text (Reserved edit capacity) = reply_line (codes "edit " ++ decimal edit ++ codes " capacity " ++ decimal capacity)
receipt_text (Swapped edit first second) = reply_line (codes "edit " ++ decimal edit ++ codes " now " ++ signed_decimal first ++ codes " " ++ signed_decimal second)
receipt_text (Truncated edit dropped) = reply_line (codes "edit " ++ decimal edit ++ codes " dropped " ++ decimal dropped)

-- a receipt with the number of its update replaced by this one
abbrev pub numbered : ℕ → Receipt → Receipt
numbered n (Pushed edit index) = Pushed n index
numbered n (Popped edit value) = Popped n value
numbered n (Written edit before) = Written n before
numbered n (Reserved edit capacity) = Reserved n capacity
numbered n (Swapped edit first second) = Swapped n first second
numbered n (Truncated edit dropped) = Truncated n dropped

-- an element that was asked for
abbrev pub value_text : ℤ → List ℕ
value_text x = reply_line (codes "value " ++ signed_decimal x)

-- an element, or why there is none
abbrev pub element_text : Result ℤ Refusal → List ℕ
element_text (Ok x) = value_text x
element_text (Err refusal) = refused_text refusal

-- the size and the number of the last edit
abbrev pub size_text : ℕ → ℕ → List ℕ
size_text size edit = reply_line (codes "size " ++ decimal size ++ codes " edit " ++ decimal edit)

-- how many elements the open buckets have room for
abbrev pub capacity_text : ℕ → List ℕ
capacity_text cells = reply_line (codes "capacity " ++ decimal cells)

-- the reply that a pending write is complete
abbrev pub settled_text : List ℕ
settled_text = reply_line (codes "settled")

-- a number, or `none`
abbrev pub some_number : Option ℤ → List ℕ
some_number None = codes "none"
some_number (Some x) = signed_decimal x

-- the value of a kind, as it is shown
abbrev pub shown_text : Shown → List ℕ
shown_text (Sum n) = decimal n
shown_text (Least x) = some_number x
shown_text (Greatest x) = some_number x
shown_text (Best x) = some_number x
shown_text (Affine a b) = decimal a ++ codes " " ++ decimal b
shown_text (Automaton states) = spaced (map decimal states)

-- the answer of a reduction at an edit
abbrev pub answer_text : ℕ → Kind → Shown → List ℕ
answer_text edit kind value = reply_line (codes "at " ++ decimal edit ++ codes " " ++ kind_name kind ++ codes " " ++ shown_text value)

-- ---- scans

-- the word of a scan: each value with the element at its place, or without it
abbrev pub scan_name : Bool → List ℕ
scan_name inclusive = if inclusive then codes "inc" else codes "exc"

-- how many values a scan at an edit has
abbrev pub scan_head : ℕ → Bool → Kind → ℕ → List ℕ
scan_head edit inclusive kind count =
    reply_line (codes "at " ++ decimal edit ++ codes " " ++ scan_name inclusive ++ codes " " ++ kind_name kind ++ codes " " ++ decimal count)

-- one value of a scan
abbrev pub scanned_text : Shown → List ℕ
scanned_text value = reply_line (codes "= " ++ shown_text value)

-- the values of a scan, each as a line
abbrev pub values_text : List Shown → List ℕ
values_text values = flat_map scanned_text values

-- a scan: how many values there are, and then the values
abbrev pub scan_text : ℕ → Bool → Kind → List Shown → List ℕ
scan_text edit inclusive kind values = scan_head edit inclusive kind (length values) ++ values_text values

-- ---- refreshing

-- how many cells and summaries a reduction reads
abbrev pub cost_text : ℕ → ℕ → List ℕ
cost_text cells summaries = reply_line (codes "cells " ++ decimal cells ++ codes " summaries " ++ decimal summaries)

-- a task that is handed out: its number, and the node and the version that it is for
abbrev pub job_text : ℕ → Node → ℕ → List ℕ
job_text number node version =
    reply_line (codes "job " ++ decimal number ++ codes " node " ++ decimal node.level ++ codes " " ++ decimal node.number ++ codes " version " ++ decimal version)

-- the reply that there is no task
abbrev pub idle_text : List ℕ
idle_text = reply_line (codes "idle")

-- the fate of an aggregate that was delivered
abbrev pub accepted_text : Accepted → List ℕ
accepted_text Installed = reply_line (codes "installed")
accepted_text Held = reply_line (codes "held")
accepted_text (Stale now) = reply_line (codes "stale " ++ decimal now)

-- the reply that the words (parts) of a block's aggregate were computed, at a version
abbrev pub fresh_text : ℕ → ℕ → List ℕ
fresh_text block version = reply_line (codes "fresh " ++ decimal block ++ codes " version " ++ decimal version)

-- the reply that every claim is void
abbrev pub forgotten_text : List ℕ
forgotten_text = reply_line (codes "forgotten")

-- ---- standing queries

-- the reply that a query is registered under a name
abbrev pub watching_text : List ℕ → List ℕ
watching_text name = reply_line (codes "watching " ++ name)

-- the reply that no query is registered under a name any more
abbrev pub unwatched_text : List ℕ → List ℕ
unwatched_text name = reply_line (codes "unwatched " ++ name)

-- the answer at an edit of the query under a name
abbrev pub named_text : ℕ → List ℕ → Shown → List ℕ
named_text edit name value = reply_line (codes "at " ++ decimal edit ++ codes " " ++ name ++ codes " " ++ shown_text value)

-- the notification that the answer of the query under a name has changed, with the new answer
abbrev pub note_text : List ℕ → Shown → List ℕ
note_text name value = reply_line (codes "note " ++ name ++ codes " " ++ shown_text value)
