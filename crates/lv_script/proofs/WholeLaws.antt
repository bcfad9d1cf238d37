-- The interpreter's replies are whole lines.
use Rattle.std.proofs.Common.{ℕ, ℤ, Bool, true, false, Option, Some, None, Result, Ok, Err, List, [], ◌∷◌, ◌++◌, length, codes, decimal, flat_map, if◌then◌else◌, refl}
use Rattle.std.specs.Fmt.{signed_decimal}
use Rattle.std.specs.Option.{option_map_or}
use Rattle.lv_geometry.specs.declared.refusals.Refusal.{Refusal}
use Rattle.lv_geometry.specs.Numbers.{number_of}
use Rattle.lv_bodies.specs.declared.kinds.Kind.{Kind}
use Rattle.lv_bodies.specs.declared.kinds.Shown.{Shown}
use Rattle.lv_bodies.specs.Plain.{plain_value}
use Rattle.lv_edits.specs.declared.receipt.Receipt.{Receipt}
use Rattle.lv_edits.specs.declared.receipt.Receipt.TheVariants.{Pushed, Popped, Written, Reserved, Swapped, Truncated}
use Rattle.lv_edits.specs.Capacity.{capacity_after}
use Rattle.lv_edits.specs.History.{list_of}
use Rattle.lv_edits.specs.Verdict.{element_at, receipt_of}
use Rattle.lv_edits.specs.Ranges.{slice_of}
use Rattle.lv_standing.specs.declared.queries.Query.{Query}
use Rattle.lv_standing.specs.Queries.{is_due, query_of, watch_answer}
use Rattle.lv_lines.specs.declared.command.Command.{Command}
use Rattle.lv_lines.specs.declared.command.Command.TheVariants as command
use Rattle.lv_lines.specs.Grammar.{kind_name}
use Rattle.lv_lines.specs.Texts.{element_text, named_text, note_text, receipt_text, refused_text, scan_head, scan_name, scan_text, scanned_text, shown_text}
use Rattle.lv_script.specs.PlainScript.{Plain, note_of, reply_of, scan_by}
use Rattle.lv_script.proofs.InterpreterLaws.{IsWhole, whole_append, whole_line, whole_parts}

-- a refusal
whole_refused : (refusal : Refusal) → IsWhole (refused_text refusal)
whole_refused refusal = whole_line (codes "refused " ++ decimal (number_of refusal))

-- a receipt
whole_receipt : (receipt : Receipt) → IsWhole (receipt_text receipt)
whole_receipt (Pushed edit index) = whole_line (codes "edit " ++ decimal edit ++ codes " at " ++ decimal index)
whole_receipt (Popped edit value) = whole_line (codes "edit " ++ decimal edit ++ codes " value " ++ signed_decimal value)
whole_receipt (Written edit before) = whole_line (codes "edit " ++ decimal edit ++ codes " was " ++ signed_decimal before)
whole_receipt (Reserved edit capacity) = whole_line (codes "edit " ++ decimal edit ++ codes " capacity " ++ decimal capacity)
whole_receipt (Swapped edit first second) = whole_line (codes "edit " ++ decimal edit ++ codes " now " ++ signed_decimal first ++ codes " " ++ signed_decimal second)
whole_receipt (Truncated edit dropped) = whole_line (codes "edit " ++ decimal edit ++ codes " dropped " ++ decimal dropped)

-- an element, or why there is none
whole_element : (element : Result ℤ Refusal) → IsWhole (element_text element)
whole_element (Ok x) = whole_line (codes "value " ++ signed_decimal x)
whole_element (Err refusal) = whole_refused refusal

-- a note, or none
whole_note : (due : Bool) (name : List ℕ) (value : Shown) → IsWhole (if due then note_text name value else [])
whole_note true name value = whole_line (codes "note " ++ name ++ codes " " ++ shown_text value)
whole_note false name value = refl

-- the notes of some queries, by their answers before and now
pub whole_notes : (before now : Query → Shown) (qs : List Query) → IsWhole (flat_map (λ q. note_of q (before q) (now q)) qs)
whole_notes before now qs = whole_parts (λ q. note_of q (before q) (now q)) qs (λ q. whole_note (is_due q.bound (before q) (now q)) q.name (now q))

-- what a query answers, if there is one
pub whole_named : (edit : ℕ) (name : List ℕ) (answer : Query → Shown) (o : Option Query) → IsWhole (option_map_or (λ q. named_text edit name (answer q)) o [])
whole_named edit name answer None = refl
whole_named edit name answer (Some q) = whole_line (codes "at " ++ decimal edit ++ codes " " ++ name ++ codes " " ++ shown_text (answer q))

-- a scan
pub whole_scan : (edit : ℕ) (inclusive : Bool) (kind : Kind) (values : List Shown) → IsWhole (scan_text edit inclusive kind values)
whole_scan edit inclusive kind values =
    whole_append (scan_head edit inclusive kind (length values)) (flat_map scanned_text values)
    (whole_line (codes "at " ++ decimal edit ++ codes " " ++ scan_name inclusive ++ codes " " ++ kind_name kind ++ codes " " ++ decimal (length values)))
    (whole_parts scanned_text values (λ value. whole_line (codes "= " ++ shown_text value)))

-- the reply to a command that nothing rejects
pub whole_command : (told : List ℕ) (s : Plain) (c : Command) → IsWhole (reply_of told s c)
whole_command told s (command.Edit e) =
    whole_append (receipt_text (receipt_of s.edits e)) _ (whole_receipt (receipt_of s.edits e)) (whole_notes (watch_answer s.edits) (watch_answer (s.edits ++ e ∷ [])) s.queries)
whole_command told s command.Settle = whole_line (codes "settled")
whole_command told s (command.Get i) = whole_element (element_at s.edits i)
whole_command told s command.Size = whole_line (codes "size " ++ decimal (length (list_of s.edits)) ++ codes " edit " ++ decimal (length s.edits))
whole_command told s command.Capacity = whole_line (codes "capacity " ++ decimal (capacity_after s.edits))
whole_command told s (command.Reduce kind lo hi) =
    whole_line (codes "at " ++ decimal (length s.edits) ++ codes " " ++ kind_name kind ++ codes " " ++ shown_text (plain_value kind (slice_of s.edits lo hi)))
whole_command told s (command.Cost lo hi) = whole_line told
whole_command told s (command.Scan inclusive kind lo hi) = whole_scan (length s.edits) inclusive kind (scan_by (plain_value kind) inclusive (slice_of s.edits lo hi))
whole_command told s command.Claim = whole_line told
whole_command told s (command.Deliver k) = whole_line told
whole_command told s command.Forget = whole_line (codes "forgotten")
whole_command told s (command.Watch name kind lo hi) = whole_line (codes "watching " ++ name)
whole_command told s (command.Unwatch name) = whole_line (codes "unwatched " ++ name)
whole_command told s (command.Answer name) = whole_named (length s.edits) name (watch_answer s.edits) (query_of s.queries name)
