-- The texts of replies that only a series' script has.
use Rattle.std.specs.Prelude.{ℕ, ℤ, Option, Some, None, Result, Ok, Err, List, ◌++◌, codes, decimal}
use Rattle.std.specs.Fmt.{signed_decimal}
use Rattle.lv_series.specs.declared.receipts.LongReceipt.{LongReceipt}
use Rattle.lv_series.specs.declared.receipts.LongReceipt.TheVariants.{Pushed, Popped, Written, Expired, Swapped, Truncated}
use Rattle.lv_series.specs.declared.refusals.LongRefusal.{LongRefusal}
use Rattle.lv_series.specs.Numbers.{number_of}
use Rattle.lv_lines.specs.Texts.{reply_line, value_text, refused_by}

-- the reply to an accepted update, given its receipt and the first index that is kept after it
abbrev pub long_receipt_text : LongReceipt → ℕ → List ℕ
long_receipt_text (Pushed edit index) first = reply_line (codes "edit " ++ decimal edit ++ codes " at " ++ decimal index)
long_receipt_text (Popped edit value) first = reply_line (codes "edit " ++ decimal edit ++ codes " value " ++ signed_decimal value)
long_receipt_text (Written edit before) first = reply_line (codes "edit " ++ decimal edit ++ codes " was " ++ signed_decimal before)
long_receipt_text (Expired edit dropped) first = reply_line (codes "edit " ++ decimal edit ++ codes " first " ++ decimal first)
long_receipt_text (Swapped edit a b) first = reply_line (codes "edit " ++ decimal edit ++ codes " now " ++ signed_decimal a ++ codes " " ++ signed_decimal b)
long_receipt_text (Truncated edit dropped) first = reply_line (codes "edit " ++ decimal edit ++ codes " dropped " ++ decimal dropped)

-- the reply with an element, or with the reason that there is none
abbrev pub long_element_text : Result ℤ LongRefusal → List ℕ
long_element_text (Ok x) = value_text x
long_element_text (Err refusal) = refused_by (number_of refusal)

-- the reply that nothing was found, at an update
abbrev pub none_text : ℕ → List ℕ
none_text edit = reply_line (codes "at " ++ decimal edit ++ codes " none")

-- the reply with an index, or that there is none
abbrev pub index_text : ℕ → Option ℕ → List ℕ
index_text edit None = none_text edit
index_text edit (Some i) = reply_line (codes "at " ++ decimal edit ++ codes " index " ++ decimal i)

-- the reply with the start and the end of a run, or that there is none
abbrev pub run_text : ℕ → Option (ℕ × ℕ) → List ℕ
run_text edit None = none_text edit
run_text edit (Some run) = reply_line (codes "at " ++ decimal edit ++ codes " from " ++ decimal run.0 ++ codes " to " ++ decimal run.1)

-- the first index that is kept, and the number of the last edit
abbrev pub first_text : ℕ → ℕ → List ℕ
first_text first edit = reply_line (codes "first " ++ decimal first ++ codes " edit " ++ decimal edit)
