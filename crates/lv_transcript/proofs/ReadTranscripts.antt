-- The lines of a transcript are read as what they were written of.
use Rattle.std.proofs.Common.{◌≡◌, ℕ, ◌-◌, ◌^◌, ◌<◌, ◌≤◌, All, Bool, List, [], ◌∷◌, ◌++◌, drop, filter, codes, length, get_or, nat_le, Option, None, Some, refl, sym, ap, ◌∙◌, arith, lit≤, lit<, append_assoc, length-append}
use Rattle.std.specs.Prelude.{decimal}
use Rattle.std.proofs.lemmas.Bool.{cond-true, eqb-false, le-leb}
use Rattle.std.proofs.lemmas.Fmt.{decimal_nonempty, digits_decimal, length-decimal-le}
use Rattle.std.proofs.lemmas.List.Elements.{All-append, All-cons, All-nil}
use Rattle.std.proofs.lemmas.List.Splits.{slice_split_at}
use Rattle.lv_edits.specs.declared.edit.Edit.{Edit}
use Rattle.lv_lines.specs.declared.command.Command.TheVariants as command
use Rattle.lv_lines.specs.declared.lines.Line.TheVariants.{Do}
use Rattle.lv_lines.specs.Words.{is_space, is_word, words_of}
use Rattle.lv_lines.specs.Grammar.{line_of, kind_name}
use Rattle.lv_lines.specs.Numbers.{allowed, number_up_to}
use Rattle.lv_lines.proofs.PrintedNumbers.{digits, is_word-some, number_in-decimal, numeral_in-decimal}
use Rattle.lv_lines.proofs.PrintedWords.{IsPlainWord, IsPrintable, no_control, no_space, plain_digits, plain_number, plain_text, words_of-spaced}
use Rattle.lv_lines.proofs.ReadAgain.{kind_in-kind_name, line_of-printed, plain_kind}
use Rattle.lv_transcript.specs.declared.transcript_lines.Question.{Question}
use Rattle.lv_transcript.specs.declared.log_heading.LogHeading.{LogHeading}
use Rattle.lv_transcript.specs.Transcript.{edit_line, heading_line, log_line, IsEdit, IsHeading}
use Rattle.lv_transcript.specs.Fronts.{MayBegin}
use Rattle.lv_transcript.specs.Auditing.{text_of, bounds_before, heading_before, heading_in, range_before, question_before, question_in, IsQuestion}

-- ---- edits

-- after `j ` the line of an edit is read as the command of that edit
pub line_of-edit_line : (line rest : List ℕ) (e : Edit) → IsEdit e → rest ≡ drop 2 line → line ≡ edit_line e → line_of rest ≡ Do (command.Edit e)
line_of-edit_line line rest e fits behind is = ap line_of (behind ∙ ap (drop 2) is) ∙ line_of-printed (command.Edit e) fits

-- ---- questions

-- a plain word before a space is the first word
pub words_of-first_plain : (word rest : List ℕ) → IsPlainWord word → words_of (word ++ 32 ∷ rest) ≡ word ∷ words_of rest
unfolding words_of
words_of-first_plain word rest plain =
    ap (filter is_word) (slice_split_at is_space word 32 rest (no_space word plain) refl) ∙ cond-true _ _ _ plain.some

-- the words of a line that begins with a question
words_of-question : (q : Question) (value : List ℕ) → IsQuestion q
    → words_of (text_of q ++ value) ≡ codes "a" ∷ decimal q.edit ∷ kind_name q.kind ∷ decimal q.lo ∷ decimal q.hi ∷ words_of value
words_of-question q value fits =
    let e = decimal q.edit in
    let k = kind_name q.kind in
    let l = decimal q.lo in
    let h = decimal q.hi in
    let spelled : text_of q ++ value ≡ codes "a" ++ 32 ∷ (e ++ 32 ∷ (k ++ 32 ∷ (l ++ 32 ∷ (h ++ 32 ∷ value)))) = simp append_assoc in
    ap words_of spelled
    ∙ words_of-first_plain (codes "a") _ (plain_text (codes "a") refl)
    ∙ ap (λ (words : List (List ℕ)). codes "a" ∷ words)
    (words_of-first_plain e _ (plain_number q.edit fits.edit)
    ∙ ap (λ (words : List (List ℕ)). e ∷ words)
    (words_of-first_plain k _ (plain_kind q.kind)
    ∙ ap (λ (words : List (List ℕ)). k ∷ words)
    (words_of-first_plain l _ (plain_number q.lo fits.lo)
    ∙ ap (λ (words : List (List ℕ)). l ∷ words) (words_of-first_plain h value (plain_number q.hi fits.hi)))))

-- they are read as that question
pub question_in-text_of : (q : Question) (line value : List ℕ) → IsQuestion q → line ≡ text_of q ++ value → question_in (words_of line) ≡ Some q
unfolding question_before range_before bounds_before
question_in-text_of q line value fits is =
    ap (λ (bytes : List ℕ). question_in (words_of bytes)) is ∙ ap question_in (words_of-question q value fits)
    ∙ rw (number_in-decimal q.edit fits.edit, kind_in-kind_name q.kind, number_in-decimal q.lo fits.lo, number_in-decimal q.hi fits.hi) refl

-- ---- headings

-- a number of 64 bits is read from its digits
number_up_to-decimal : (n : ℕ) → n < 2 ^ 64 → number_up_to (2 ^ 64 - 1) (decimal n) ≡ Some n
unfolding number_up_to
number_up_to-decimal n small =
    ap (allowed (λ n. nat_le n (2 ^ 64 - 1))) (numeral_in-decimal n small) ∙ cond-true _ (Some n) None (le-leb n (2 ^ 64 - 1) (omega arith))

-- a number of 64 bits as a word
pub plain_wide_number : (n : ℕ) → n < 2 ^ 64 → IsPlainWord (decimal n)
plain_wide_number n small = record {
  some = is_word-some (decimal n) (decimal_nonempty n small);
  short = length-decimal-le 20 n (lit< tt) (omega arith) small;
  visible = plain_digits (decimal n) (digits_decimal digits n small);
}

-- the words of a heading's line
words_of-heading : (h : LogHeading) → IsHeading h → words_of (log_line h) ≡ codes "livevec" ∷ codes "2" ∷ decimal h.base ∷ decimal h.elements ∷ []
words_of-heading h fits =
    let b = decimal h.base in
    let e = decimal h.elements in
    let spelled : log_line h ≡ codes "livevec" ++ 32 ∷ (codes "2" ++ 32 ∷ (b ++ 32 ∷ e)) = simp append_assoc in
    ap words_of spelled
    ∙ words_of-first_plain (codes "livevec") _ (plain_text (codes "livevec") refl)
    ∙ ap (λ (words : List (List ℕ)). codes "livevec" ∷ words)
    (words_of-first_plain (codes "2") _ (plain_text (codes "2") refl)
    ∙ ap (λ (words : List (List ℕ)). codes "2" ∷ words)
    (words_of-first_plain b _ (plain_wide_number h.base fits.base)
    ∙ ap (λ (words : List (List ℕ)). b ∷ words) (words_of-spaced (e ∷ []) (plain_number h.elements fits.elements, tt))))

-- they are read as that heading
pub heading_in-log_line : (h : LogHeading) (line : List ℕ) → IsHeading h → line ≡ log_line h → heading_in (words_of line) ≡ Some h
unfolding heading_before
heading_in-log_line h line fits is =
    ap (λ (bytes : List ℕ). heading_in (words_of bytes)) is ∙ ap heading_in (words_of-heading h fits)
    ∙ rw (number_up_to-decimal h.base fits.base, number_in-decimal h.elements fits.elements) refl

-- the first byte that tells a log from a transcript
abbrev version_of : List ℕ → ℕ
version_of line = get_or line 8 0

-- a line is that of one heading
pub heading_line-injective : (mixed : Bool) (line : List ℕ) (a b : Option LogHeading) → MayBegin mixed a → MayBegin mixed b → line ≡ heading_line a → line ≡ heading_line b → a ≡ b
heading_line-injective mixed line None None p q first second = refl
heading_line-injective mixed line None (Some b) p q first second = absurd (eqb-false 49 50 refl (ap version_of (sym first ∙ second)))
heading_line-injective mixed line (Some a) None p q first second = absurd (eqb-false 50 49 refl (ap version_of (sym first ∙ second)))
heading_line-injective mixed line (Some a) (Some b) p q first second =
    sym (heading_in-log_line a line p.1 first) ∙ heading_in-log_line b line q.1 second

-- four texts that are short are so together
short_texts : (x y z w : List ℕ) → length x ≤ 10 → length y ≤ 20 → length z ≤ 1 → length w ≤ 20 → length (x ++ y ++ z ++ w) ≤ 120
short_texts x y z w a b c d = omega (arith, a, b, c, d, length-append (x ++ y ++ z) w, length-append (x ++ y) z, length-append x y)

-- the first line of a text is short
pub heading_line_short : (mixed : Bool) (heading : Option LogHeading) → MayBegin mixed heading → length (heading_line heading) ≤ 120
heading_line_short mixed None begins = lit≤ tt
heading_line_short mixed (Some h) begins =
    short_texts (codes "livevec 2 ") (decimal h.base) (codes " ") (decimal h.elements) (lit≤ tt) (plain_wide_number h.base begins.1.base).short (lit≤ tt) (plain_number h.elements begins.1.elements).short

-- in two words and the space between no byte is below the space
no_control_in : (first second : List ℕ) → IsPlainWord first → IsPlainWord second → All IsPrintable (first ++ 32 ∷ second)
no_control_in first second p q = All-append IsPrintable first (32 ∷ second) (no_control first p) (All-cons IsPrintable 32 second (lit≤ tt) (no_control second q))

-- nor in the line
pub heading_line_printable : (mixed : Bool) (heading : Option LogHeading) → MayBegin mixed heading → All IsPrintable (heading_line heading)
heading_line_printable mixed None begins = no_control_in (codes "livevec") (codes "1") (plain_text (codes "livevec") refl) (plain_text (codes "1") refl)
heading_line_printable mixed (Some h) begins =
    let b = decimal h.base in
    let e = decimal h.elements in
    let space : All IsPrintable (codes " ") = All-cons IsPrintable 32 [] (lit≤ tt) (All-nil IsPrintable) in
    let words : All IsPrintable (codes "livevec 2 ") =
    All-append IsPrintable (codes "livevec 2") (codes " ") (no_control_in (codes "livevec") (codes "2") (plain_text (codes "livevec") refl) (plain_text (codes "2") refl)) space in
    let first : All IsPrintable (codes "livevec 2 " ++ b) = All-append IsPrintable (codes "livevec 2 ") b words (no_control b (plain_wide_number h.base begins.1.base)) in
    let front : All IsPrintable (codes "livevec 2 " ++ b ++ codes " ") = All-append IsPrintable (codes "livevec 2 " ++ b) (codes " ") first space in
    All-append IsPrintable (codes "livevec 2 " ++ b ++ codes " ") e front (no_control e (plain_number h.elements begins.1.elements))
