-- The interpreter's replies to a series' scripts are whole lines.
use Rattle.std.proofs.Common.{ℕ, ℤ, Option, Some, None, Result, Ok, Err, List, ◌++◌, codes, decimal}
use Rattle.std.specs.Fmt.{signed_decimal}
use Rattle.lv_bodies.specs.Plain.{plain_value}
use Rattle.lv_series.specs.declared.receipts.LongReceipt.{LongReceipt}
use Rattle.lv_series.specs.declared.receipts.LongReceipt.TheVariants.{Pushed, Popped, Written, Expired, Swapped, Truncated}
use Rattle.lv_series.specs.declared.refusals.LongRefusal.{LongRefusal}
use Rattle.lv_series.specs.Numbers.{number_of}
use Rattle.lv_series.specs.Series.{changed, element_at, receipt_of, size_of, slice_of}
use Rattle.lv_lines.specs.Grammar.{kind_name}
use Rattle.lv_lines.specs.Texts.{refused_by, shown_text}
use Rattle.lv_script.specs.PlainScript.{scan_by}
use Rattle.lv_script.specs.declared.long_commands.LongCommand.{LongCommand}
use Rattle.lv_script.specs.declared.long_commands.LongCommand.TheVariants as command
use Rattle.lv_standing.specs.Queries.{query_of}
use Rattle.lv_script.specs.LongTexts.{index_text, long_element_text, long_receipt_text, run_text}
use Rattle.lv_script.specs.PlainSeriesScript.{PlainSeries, long_answer, reply_of, series_of}
use Rattle.lv_script.specs.Searched.{best_run, index_of}
use Rattle.lv_script.proofs.InterpreterLaws.{IsWhole, whole_append, whole_line}
use Rattle.lv_script.proofs.WholeLaws.{whole_named, whole_notes, whole_scan}

-- a refusal
whole_refused : (number : ℕ) → IsWhole (refused_by number)
whole_refused number = whole_line (codes "refused " ++ decimal number)

-- a receipt
whole_receipt : (receipt : LongReceipt) (first : ℕ) → IsWhole (long_receipt_text receipt first)
whole_receipt (Pushed edit index) first = whole_line (codes "edit " ++ decimal edit ++ codes " at " ++ decimal index)
whole_receipt (Popped edit value) first = whole_line (codes "edit " ++ decimal edit ++ codes " value " ++ signed_decimal value)
whole_receipt (Written edit before) first = whole_line (codes "edit " ++ decimal edit ++ codes " was " ++ signed_decimal before)
whole_receipt (Expired edit dropped) first = whole_line (codes "edit " ++ decimal edit ++ codes " first " ++ decimal first)
whole_receipt (Swapped edit a b) first = whole_line (codes "edit " ++ decimal edit ++ codes " now " ++ signed_decimal a ++ codes " " ++ signed_decimal b)
whole_receipt (Truncated edit dropped) first = whole_line (codes "edit " ++ decimal edit ++ codes " dropped " ++ decimal dropped)

-- an element, or why there is none
whole_element : (element : Result ℤ LongRefusal) → IsWhole (long_element_text element)
whole_element (Ok x) = whole_line (codes "value " ++ signed_decimal x)
whole_element (Err refusal) = whole_refused (number_of refusal)

-- an index, or none
whole_index : (edit : ℕ) (index : Option ℕ) → IsWhole (index_text edit index)
whole_index edit None = whole_line (codes "at " ++ decimal edit ++ codes " none")
whole_index edit (Some i) = whole_line (codes "at " ++ decimal edit ++ codes " index " ++ decimal i)

-- a run, or none
whole_run : (edit : ℕ) (run : Option (ℕ × ℕ)) → IsWhole (run_text edit run)
whole_run edit None = whole_line (codes "at " ++ decimal edit ++ codes " none")
whole_run edit (Some run) = whole_line (codes "at " ++ decimal edit ++ codes " from " ++ decimal run.0 ++ codes " to " ++ decimal run.1)

-- the reply to a command that nothing rejects
pub whole_series : (told : List ℕ) (k : PlainSeries) (c : LongCommand) → IsWhole (reply_of told k c)
whole_series told k (command.Edit e) =
    let new = changed k.held e in
    whole_append (long_receipt_text (receipt_of (series_of k) e) new.first) _ (whole_receipt (receipt_of (series_of k) e) new.first) (whole_notes (long_answer k.held) (long_answer new) k.queries)
whole_series told k command.First = whole_line (codes "first " ++ decimal k.held.first ++ codes " edit " ++ decimal k.edit)
whole_series told k command.Size = whole_line (codes "size " ++ decimal (size_of k.held) ++ codes " edit " ++ decimal k.edit)
whole_series told k (command.Get i) = whole_element (element_at k.held i)
whole_series told k (command.Reduce kind lo hi) =
    whole_line (codes "at " ++ decimal k.edit ++ codes " " ++ kind_name kind ++ codes " " ++ shown_text (plain_value kind (slice_of k.held lo hi)))
whole_series told k (command.Scan inclusive kind lo hi) = whole_scan k.edit inclusive kind (scan_by (plain_value kind) inclusive (slice_of k.held lo hi))
whole_series told k (command.Find sought lo hi) = whole_index k.edit (index_of sought k.held lo hi)
whole_series told k (command.BestRun lo hi) = whole_run k.edit (best_run k.held lo hi)
whole_series told k (command.Watch name kind span bound) = whole_line (codes "watching " ++ name)
whole_series told k (command.Unwatch name) = whole_line (codes "unwatched " ++ name)
whole_series told k (command.Answer name) = whole_named k.edit name (long_answer k.held) (query_of k.queries name)
