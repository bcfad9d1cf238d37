-- The text of a command.
use Rattle.std.specs.Prelude.{ℕ, ◌^◌, ◌<◌, List, [], ◌∷◌, codes, decimal}
use Rattle.std.specs.Fmt.{signed_decimal}
use Rattle.lv_geometry.specs.Elements.{IsElement}
use Rattle.lv_bodies.specs.declared.kinds.Kind.{Kind}
use Rattle.lv_edits.specs.declared.edit.Edit.{Edit}
use Rattle.lv_edits.specs.declared.edit.Edit.TheVariants as edit
use Rattle.lv_bodies.specs.Names.{IsName}
use Rattle.lv_lines.specs.declared.command.Command.{Command}
use Rattle.lv_lines.specs.declared.command.Command.TheVariants as command
use Rattle.lv_lines.specs.declared.command.Command.TheVariants.{Settle, Get, Size, Capacity, Reduce, Cost, Scan, Claim, Deliver, Forget, Watch, Unwatch, Answer}
use Rattle.lv_lines.specs.Grammar.{kind_name}
use Rattle.lv_lines.specs.Texts.{scan_name}
use Rattle.lv_lines.specs.Words.{spaced}

-- the first word of an edit, and the words after it
abbrev pub verb_of_edit : Edit → List ℕ
verb_of_edit (edit.Push value) = codes "push"
verb_of_edit edit.Pop = codes "pop"
verb_of_edit (edit.Write index value) = codes "write"
verb_of_edit (edit.Reserve n) = codes "reserve"
verb_of_edit (edit.Swap first second) = codes "swap"
verb_of_edit (edit.Truncate kept) = codes "truncate"

abbrev pub arguments_of_edit : Edit → List (List ℕ)
arguments_of_edit (edit.Push value) = signed_decimal value ∷ []
arguments_of_edit edit.Pop = []
arguments_of_edit (edit.Write index value) = decimal index ∷ signed_decimal value ∷ []
arguments_of_edit (edit.Reserve n) = decimal n ∷ []
arguments_of_edit (edit.Swap first second) = decimal first ∷ decimal second ∷ []
arguments_of_edit (edit.Truncate kept) = decimal kept ∷ []

-- the text of an edit: its words with one space between each two
abbrev pub printed_edit : Edit → List ℕ
printed_edit e = spaced (verb_of_edit e ∷ arguments_of_edit e)

-- the first word of a command
abbrev pub verb_of : Command → List ℕ
verb_of (command.Edit e) = verb_of_edit e
verb_of Settle = codes "settle"
verb_of (Get index) = codes "get"
verb_of Size = codes "size"
verb_of Capacity = codes "capacity"
verb_of (Reduce kind lo hi) = codes "reduce"
verb_of (Cost lo hi) = codes "cost"
verb_of (Scan inclusive kind lo hi) = scan_name inclusive
verb_of Claim = codes "claim"
verb_of (Deliver job) = codes "deliver"
verb_of Forget = codes "forget"
verb_of (Watch name kind lo hi) = codes "watch"
verb_of (Unwatch name) = codes "unwatch"
verb_of (Answer name) = codes "answer"

-- the words `kind lo hi`
abbrev pub range_words : Kind → ℕ → ℕ → List (List ℕ)
range_words kind lo hi = kind_name kind ∷ decimal lo ∷ decimal hi ∷ []

-- the words of a command after its first
abbrev pub arguments_of : Command → List (List ℕ)
arguments_of (command.Edit e) = arguments_of_edit e
arguments_of (Get index) = decimal index ∷ []
arguments_of (Reduce kind lo hi) = range_words kind lo hi
arguments_of (Cost lo hi) = decimal lo ∷ decimal hi ∷ []
arguments_of (Scan inclusive kind lo hi) = range_words kind lo hi
arguments_of (Deliver job) = decimal job ∷ []
arguments_of (Watch name kind lo hi) = name ∷ range_words kind lo hi
arguments_of (Unwatch name) = name ∷ []
arguments_of (Answer name) = name ∷ []
arguments_of _ = []

-- the text of a command: its words with one space between each two
abbrev pub printed : Command → List ℕ
printed c = spaced (verb_of c ∷ arguments_of c)

-- two numbers of a command that fit into 32 bits
abbrev pub AreBounds : ℕ → ℕ → Type 0
AreBounds lo hi = (lo < 2 ^ 32) × (hi < 2 ^ 32)

-- a command whose numbers fit their types, and whose name is one
abbrev pub IsCommand : Command → Type 0
IsCommand (command.Edit (edit.Push value)) = IsElement value
IsCommand (command.Edit edit.Pop) = Unit {0}
IsCommand (command.Edit (edit.Write index value)) = (index < 2 ^ 32) × IsElement value
IsCommand (command.Edit (edit.Reserve n)) = n < 2 ^ 32
IsCommand (command.Edit (edit.Swap first second)) = AreBounds first second
IsCommand (command.Edit (edit.Truncate kept)) = kept < 2 ^ 32
IsCommand Settle = Unit {0}
IsCommand (Get index) = index < 2 ^ 32
IsCommand Size = Unit {0}
IsCommand Capacity = Unit {0}
IsCommand (Reduce kind lo hi) = AreBounds lo hi
IsCommand (Cost lo hi) = AreBounds lo hi
IsCommand (Scan inclusive kind lo hi) = AreBounds lo hi
IsCommand Claim = Unit {0}
IsCommand (Deliver job) = job < 2 ^ 32
IsCommand Forget = Unit {0}
IsCommand (Watch name kind lo hi) = IsName name × AreBounds lo hi
IsCommand (Unwatch name) = IsName name
IsCommand (Answer name) = IsName name
