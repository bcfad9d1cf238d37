-- What a line of a script says.
use Rattle.std.specs.Prelude.{ℕ, ◌-◌, Bool, true, false, if◌then◌else◌, List, [], ◌∷◌, length, take, nat_eq, nat_lt, find, codes, Option, Some, None, option_map, option_and_then}
use Rattle.std.specs.List.{starts_with, ends_with}
use Rattle.std.specs.Option.{option_map_or}
use Rattle.std.specs.Str.{bytes_eq}
use Rattle.lv_bodies.specs.declared.kinds.Kind.{Kind}
use Rattle.lv_bodies.specs.declared.kinds.Kind.TheVariants.{Sum, Least, Greatest, Best, Affine, Automaton}
use Rattle.lv_edits.specs.declared.edit.Edit.TheVariants as edit
use Rattle.lv_bodies.specs.Names.{is_name}
use Rattle.lv_lines.specs.declared.command.Command.{Command}
use Rattle.lv_lines.specs.declared.command.Command.TheVariants.{Edit, Settle, Get, Size, Capacity, Reduce, Cost, Scan, Claim, Deliver, Forget, Watch, Unwatch, Answer}
use Rattle.lv_lines.specs.declared.lines.Line.{Line}
use Rattle.lv_lines.specs.declared.lines.Line.TheVariants.{Nothing, Bad, Do}
use Rattle.lv_lines.specs.Words.{words_of, only_word}
use Rattle.lv_lines.specs.Numbers.{number_in, number_up_to, most_32, element_in}

infixl 10 ◌>>=◌
-- a step, and then what follows from what it gives
abbrev pub ◌>>=◌ : {A B : Type 0} → Option A → (A → Option B) → Option B
step >>= next = option_and_then next step

-- the word that a kind goes by
abbrev pub kind_name : Kind → List ℕ
kind_name Sum = codes "sum"
kind_name Least = codes "least"
kind_name Greatest = codes "greatest"
kind_name Best = codes "best"
kind_name Affine = codes "affine"
kind_name Automaton = codes "automaton"

-- the kind that goes by a word
unfoldable pub kind_in : List ℕ → Option Kind
kind_in word = find (λ kind. bytes_eq word (kind_name kind)) (Sum ∷ Least ∷ Greatest ∷ Best ∷ Affine ∷ Automaton ∷ [])

-- the name that a word is
abbrev pub name_in : List ℕ → Option (List ℕ)
name_in word = if is_name word then Some word else None

-- one word, and no other, by how it is read
abbrev pub lone : {X : Type 0} → (List ℕ → Option X) → List (List ℕ) → Option X
lone read words = only_word words >>= read

-- one number, and no other word
abbrev pub lone_number : List (List ℕ) → Option ℕ
lone_number words = lone number_in words

-- a first word and the words after it, by how each are read
abbrev pub first_and : {X Y : Type 0} → (List ℕ → Option X) → (List (List ℕ) → Option Y) → List (List ℕ) → Option (X × Y)
first_and read others [] = None
first_and read others (word ∷ words) = do
  first ← read word
  rest ← others words
  Some (first, rest)

-- the words `lo hi`, two numbers up to a bound
unfoldable pub bounds_up_to : ℕ → List (List ℕ) → Option (ℕ × ℕ)
bounds_up_to most words = first_and (number_up_to most) (lone (number_up_to most)) words

-- the words `kind lo hi`
unfoldable pub range_up_to : ℕ → List (List ℕ) → Option (Kind × ℕ × ℕ)
range_up_to most words = option_map (λ w. (w.0, w.1.0, w.1.1)) (first_and kind_in (bounds_up_to most) words)

-- two numbers that fit into 32 bits, and a kind with two such numbers
abbrev pub bounds_in : List (List ℕ) → Option (ℕ × ℕ)
bounds_in words = bounds_up_to most_32 words

abbrev pub range_in : List (List ℕ) → Option (Kind × ℕ × ℕ)
range_in words = range_up_to most_32 words

-- a command without arguments
abbrev pub alone : {C : Type 0} → C → List (List ℕ) → Option C
alone command [] = Some command
alone command (word ∷ words) = None

-- a command of what its words are read as
abbrev pub made_of : {X C : Type 0} → (List (List ℕ) → Option X) → (X → C) → List (List ℕ) → Option C
made_of read make words = option_map make (read words)

-- lines that are commands: their first words, each with how the words after it are read
abbrev pub Forms : Type 0 → Type 0
Forms C = List (List ℕ × (List (List ℕ) → Option C))

-- every line that is a command: about elements and room, about ranges, about jobs and names
abbrev pub forms : Forms Command
forms =
    (codes "push", made_of (lone element_in) (λ value. Edit (edit.Push value)))
    ∷ (codes "pop", alone (Edit edit.Pop))
    ∷ (codes "write", made_of (first_and number_in (lone element_in)) (λ w. Edit (edit.Write w.0 w.1)))
    ∷ (codes "reserve", made_of lone_number (λ cells. Edit (edit.Reserve cells)))
    ∷ (codes "swap", made_of bounds_in (λ w. Edit (edit.Swap w.0 w.1)))
    ∷ (codes "truncate", made_of lone_number (λ kept. Edit (edit.Truncate kept)))
    ∷ (codes "settle", alone Settle)
    ∷ (codes "get", made_of lone_number Get)
    ∷ (codes "size", alone Size)
    ∷ (codes "capacity", alone Capacity)
    ∷ (codes "reduce", made_of range_in (λ w. Reduce w.0 w.1 w.2))
    ∷ (codes "cost", made_of bounds_in (λ w. Cost w.0 w.1))
    ∷ (codes "inc", made_of range_in (λ w. Scan true w.0 w.1 w.2))
    ∷ (codes "exc", made_of range_in (λ w. Scan false w.0 w.1 w.2))
    ∷ (codes "claim", alone Claim)
    ∷ (codes "deliver", made_of lone_number Deliver)
    ∷ (codes "forget", alone Forget)
    ∷ (codes "watch", made_of (first_and name_in range_in) (λ w. Watch w.0 w.1.0 w.1.1 w.1.2))
    ∷ (codes "unwatch", made_of (lone name_in) Unwatch)
    ∷ (codes "answer", made_of (lone name_in) Answer)
    ∷ []

-- the command that a line is, by its first word and the words after it
abbrev pub read_by : {C : Type 0} → Forms C → List ℕ → List (List ℕ) → Option C
read_by [] verb words = None
read_by (form ∷ rest) verb words = if bytes_eq verb form.0 then form.1 words else read_by rest verb words

-- the command that the words of a line are
unfoldable pub command_in : List (List ℕ) → Option Command
command_in [] = None
command_in (verb ∷ words) = read_by forms verb words

-- bytes without the one CR at their end
abbrev pub without_cr : List ℕ → List ℕ
without_cr bytes = if ends_with nat_eq bytes (13 ∷ []) then take (length bytes - 1) bytes else bytes

-- whether a word begins a comment, with `#`
abbrev pub is_comment : List ℕ → Bool
is_comment word = starts_with nat_eq word (codes "#")

-- what the words of a line say, given how a command is read. There is nothing to do if there are no words or if the first begins with `#`.
-- Words that are not read as a command are bad
abbrev pub line_in : {C : Type 0} → (List (List ℕ) → Option C) → List (List ℕ) → Line C
line_in read [] = Nothing
line_in read (word ∷ words) = if is_comment word then Nothing else option_map_or Do (read (word ∷ words)) Bad

-- what a line says, given without its LF. A line of more than 120 bytes is bad, whatever they are
unfoldable pub line_by : {C : Type 0} → (List (List ℕ) → Option C) → List ℕ → Line C
line_by read bytes = if nat_lt 120 (length bytes) then Bad else line_in read (words_of (without_cr bytes))

-- what a line of a vector's script says
abbrev pub line_of : List ℕ → Line Command
line_of bytes = line_by command_in bytes

-- the command that a line is, if it is one
abbrev pub command_of : {C : Type 0} → Line C → Option C
command_of Nothing = None
command_of Bad = None
command_of (Do command) = Some command
