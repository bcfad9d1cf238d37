-- The text of a command is read as that command.
use Rattle.std.proofs.Common.{◌≡◌, ℕ, ◌≤◌, true, false, List, [], ◌∷◌, length, All, codes, lit≤, Some, None, option_map, refl, ap, ◌∙◌, arith}
use Rattle.std.specs.Option.{option_map_or}
use Rattle.std.specs.Prelude.{decimal}
use Rattle.std.proofs.lemmas.Bool.{cond-true, cond-false, le-ltb}
use Rattle.lv_bodies.specs.declared.kinds.Kind.{Kind}
use Rattle.lv_bodies.specs.declared.kinds.Kind.TheVariants.{Sum, Least, Greatest, Best, Affine, Automaton}
use Rattle.lv_edits.specs.declared.edit.Edit.TheVariants as edit
use Rattle.lv_bodies.specs.Names.{IsName}
use Rattle.lv_lines.specs.declared.command.Command.{Command}
use Rattle.lv_lines.specs.declared.command.Command.TheVariants.{Edit, Settle, Get, Size, Capacity, Reduce, Cost, Scan, Claim, Deliver, Forget, Watch, Unwatch, Answer}
use Rattle.lv_lines.specs.declared.lines.Line.TheVariants.{Do, Bad}
use Rattle.lv_lines.specs.Words.{words_of, spaced}
use Rattle.lv_lines.specs.Grammar.{kind_name, kind_in, name_in, bounds_in, bounds_up_to, range_in, range_up_to, command_in, line_by, line_in, line_of, is_comment}
use Rattle.lv_lines.specs.Printed.{verb_of, arguments_of, range_words, printed, AreBounds, IsCommand}
use Rattle.lv_lines.proofs.PrintedNumbers.{number_in-decimal, element_in-signed_decimal}
use Rattle.lv_lines.proofs.PrintedWords.{IsPlainWord, IsPrintable, ArePlainWords, words_of-spaced, length-spaced, spaced_printable, without_cr-none, plain_number, plain_element, plain_name, is_plain, plain_text}

-- the word of a kind is read as that kind
pub kind_in-kind_name : (kind : Kind) → kind_in (kind_name kind) ≡ Some kind
unfolding kind_in
kind_in-kind_name Sum = refl
kind_in-kind_name Least = refl
kind_in-kind_name Greatest = refl
kind_in-kind_name Best = refl
kind_in-kind_name Affine = refl
kind_in-kind_name Automaton = refl

-- a name is read as itself
pub name_in-name : (name : List ℕ) → IsName name → name_in name ≡ Some name
name_in-name name named = cond-true _ (Some name) None named

-- two numbers are read from their digits
pub bounds_in-decimal : (lo hi : ℕ) → AreBounds lo hi → bounds_in (decimal lo ∷ decimal hi ∷ []) ≡ Some (lo, hi)
unfolding bounds_up_to
bounds_in-decimal lo hi small = rw (number_in-decimal lo small.0, number_in-decimal hi small.1) refl

-- a kind and two numbers are read from their words
pub range_in-range_words : (kind : Kind) (lo hi : ℕ) → AreBounds lo hi → range_in (range_words kind lo hi) ≡ Some (kind, lo, hi)
unfolding range_up_to
range_in-range_words kind lo hi small = rw (kind_in-kind_name kind, bounds_in-decimal lo hi small) refl

-- the words of a command are read as that command
pub command_in-words : (command : Command) → IsCommand command → command_in (verb_of command ∷ arguments_of command) ≡ Some command
unfolding command_in
command_in-words (Edit (edit.Push value)) fits = ap (option_map (λ value. Edit (edit.Push value))) (element_in-signed_decimal value fits)
command_in-words (Edit edit.Pop) fits = refl
command_in-words (Edit (edit.Write index value)) fits = rw (number_in-decimal index fits.0, element_in-signed_decimal value fits.1) refl
command_in-words (Edit (edit.Reserve n)) fits = ap (option_map (λ cells. Edit (edit.Reserve cells))) (number_in-decimal n fits)
command_in-words (Edit (edit.Swap first second)) fits = rw (bounds_in-decimal first second fits) refl
command_in-words (Edit (edit.Truncate kept)) fits = ap (option_map (λ kept. Edit (edit.Truncate kept))) (number_in-decimal kept fits)
command_in-words Settle fits = refl
command_in-words (Get index) fits = ap (option_map Get) (number_in-decimal index fits)
command_in-words Size fits = refl
command_in-words Capacity fits = refl
command_in-words (Reduce kind lo hi) fits = rw (range_in-range_words kind lo hi fits) refl
command_in-words (Cost lo hi) fits = rw (bounds_in-decimal lo hi fits) refl
command_in-words (Scan true kind lo hi) fits = rw (range_in-range_words kind lo hi fits) refl
command_in-words (Scan false kind lo hi) fits = rw (range_in-range_words kind lo hi fits) refl
command_in-words Claim fits = refl
command_in-words (Deliver job) fits = ap (option_map Deliver) (number_in-decimal job fits)
command_in-words Forget fits = refl
command_in-words (Watch name kind lo hi) fits = rw (name_in-name name fits.0, range_in-range_words kind lo hi fits.1) refl
command_in-words (Unwatch name) fits = ap (option_map Unwatch) (name_in-name name fits)
command_in-words (Answer name) fits = ap (option_map Answer) (name_in-name name fits)

-- the word of a kind is plain
pub plain_kind : (kind : Kind) → IsPlainWord (kind_name kind)
plain_kind Sum = plain_text (codes "sum") refl
plain_kind Least = plain_text (codes "least") refl
plain_kind Greatest = plain_text (codes "greatest") refl
plain_kind Best = plain_text (codes "best") refl
plain_kind Affine = plain_text (codes "affine") refl
plain_kind Automaton = plain_text (codes "automaton") refl

-- the first word of a command is plain and begins no comment, and at most four words come after it
pub record HasPlainVerb (command : Command) : Type 0 where
  pub plain : is_plain (verb_of command) ≡ true
  pub no_comment : is_comment (verb_of command) ≡ false
  pub few : length (arguments_of command) ≤ 4

-- each command is so
pub plain_verb : (command : Command) → HasPlainVerb command
plain_verb (Edit edit.Pop) = record { plain = refl; no_comment = refl; few = lit≤ tt }
plain_verb (Scan true kind lo hi) = record { plain = refl; no_comment = refl; few = lit≤ tt }
plain_verb (Scan false kind lo hi) = record { plain = refl; no_comment = refl; few = lit≤ tt }
plain_verb _ = record { plain = refl; no_comment = refl; few = lit≤ tt }

-- the words `kind lo hi` are plain
pub plain_range : (kind : Kind) (lo hi : ℕ) → AreBounds lo hi → ArePlainWords (range_words kind lo hi)
plain_range kind lo hi small = (plain_kind kind, (plain_number lo small.0, (plain_number hi small.1, tt)))

-- the words after the first are plain
pub plain_arguments : (command : Command) → IsCommand command → ArePlainWords (arguments_of command)
plain_arguments (Edit (edit.Push value)) fits = (plain_element value fits, tt)
plain_arguments (Edit edit.Pop) fits = tt
plain_arguments (Edit (edit.Write index value)) fits = (plain_number index fits.0, (plain_element value fits.1, tt))
plain_arguments (Edit (edit.Reserve n)) fits = (plain_number n fits, tt)
plain_arguments (Edit (edit.Swap first second)) fits = (plain_number first fits.0, (plain_number second fits.1, tt))
plain_arguments (Edit (edit.Truncate kept)) fits = (plain_number kept fits, tt)
plain_arguments Settle fits = tt
plain_arguments (Get index) fits = (plain_number index fits, tt)
plain_arguments Size fits = tt
plain_arguments Capacity fits = tt
plain_arguments (Reduce kind lo hi) fits = plain_range kind lo hi fits
plain_arguments (Cost lo hi) fits = (plain_number lo fits.0, (plain_number hi fits.1, tt))
plain_arguments (Scan inclusive kind lo hi) fits = plain_range kind lo hi fits
plain_arguments Claim fits = tt
plain_arguments (Deliver job) fits = (plain_number job fits, tt)
plain_arguments Forget fits = tt
plain_arguments (Watch name kind lo hi) fits = (plain_name name fits.0, plain_range kind lo hi fits.1)
plain_arguments (Unwatch name) fits = (plain_name name fits, tt)
plain_arguments (Answer name) fits = (plain_name name fits, tt)

-- words that are a command, and whose first is not a comment, say that command
pub line_in-command : (verb : List ℕ) (words : List (List ℕ)) (command : Command) → is_comment verb ≡ false → command_in (verb ∷ words) ≡ Some command → line_in command_in (verb ∷ words) ≡ Do command
line_in-command verb words command no_comment read = cond-false _ _ _ no_comment ∙ ap (λ found. option_map_or Do found Bad) read

-- all its words are plain
pub plain_words : (command : Command) → IsCommand command → ArePlainWords (verb_of command ∷ arguments_of command)
plain_words command fits = (plain_text (verb_of command) (plain_verb command).plain, plain_arguments command fits)

-- its text has at most 105 bytes
pub length-printed : (command : Command) → IsCommand command → length (printed command) ≤ 105
length-printed command fits =
    omega (arith, length-spaced (verb_of command ∷ arguments_of command) (plain_words command fits), (plain_verb command).few)

-- and none below the space
pub printed_printable : (command : Command) → IsCommand command → All IsPrintable (printed command)
printed_printable command fits = spaced_printable (verb_of command ∷ arguments_of command) (plain_words command fits)

-- the text of a command is read as that command
pub line_of-printed : (command : Command) → IsCommand command → line_of (printed command) ≡ Do command
unfolding line_by
line_of-printed command fits =
    let words = verb_of command ∷ arguments_of command in
    let verb = plain_verb command in
    let short : length (spaced words) ≤ 120 = omega (arith, length-printed command fits) in
    cond-false _ _ _ (le-ltb 120 _ short)
    ∙ ap (λ bytes. line_in command_in (words_of bytes)) (without_cr-none (spaced words) (printed_printable command fits))
    ∙ ap (line_in command_in) (words_of-spaced words (plain_words command fits))
    ∙ line_in-command (verb_of command) (arguments_of command) command verb.no_comment (command_in-words command fits)
