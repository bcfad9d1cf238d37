-- What follows of lines that are answered as the plain interpreter answers them.
use Rattle.std.proofs.Common.{◌≡◌, ℕ, ◌+◌, Option, Some, None, List, [], ◌∷◌, ◌++◌, codes, length, take, get_or, refl, sym, ap, ◌∙◌, subst, inl, inr, arith, append-nil, append_assoc, length-append, true≢false}
use Rattle.std.specs.Option.{option_map_or}
use Rattle.lv_geometry.specs.declared.refusals.Refusal.{Refusal}
use Rattle.lv_edits.specs.declared.edit.Edit.{Edit}
use Rattle.lv_edits.specs.declared.receipt.Receipt.{Receipt}
use Rattle.lv_edits.specs.declared.receipt.Receipt.TheVariants.{Pushed, Popped, Written, Reserved, Swapped, Truncated}
use Rattle.lv_edits.specs.Ranges.{range_refusal}
use Rattle.lv_lines.specs.declared.command.Command.{Command}
use Rattle.lv_lines.specs.declared.command.Command.TheVariants as command
use Rattle.lv_lines.specs.declared.lines.Line.{Line}
use Rattle.lv_lines.specs.declared.lines.Line.TheVariants.{Nothing, Bad, Do}
use Rattle.lv_lines.specs.Grammar.{line_of}
use Rattle.lv_lines.specs.Replies.{Answered}
use Rattle.lv_lines.specs.Texts.{receipt_text, refused_text, reply_line}
use Rattle.lv_script.specs.PlainRuns.{AnswerStep, IsTrueOf, Takes, TrueStep, asked_by, asked_in, plain_answers}
use Rattle.lv_script.specs.Interpreter.{IsOneLine, NeverWants, PlainStep, plain_after, plain_reply}
use Rattle.lv_script.specs.PlainScript.{Plain, after, refusal_of, reply_of, vector_script}
use Rattle.lv_script.proofs.InterpreterLaws.{room_step, want_keeps, want_text}
use Rattle.lv_script.proofs.OneLineLaws.{IsLine, refused_line}
use Rattle.lv_script.proofs.WholeLaws.{whole_command}

-- ---- updates and queries only

-- an update or query, whose reply does not depend on the oracle
takes_first : (s : Plain) (told : List ℕ) (n : ℕ) (c : Command) (commands : List Command) (text : List ℕ) → reply_of told s c ≡ reply_of [] s c → text ≡ plain_reply vector_script told s n (Do c)
    → plain_answers s (c ∷ commands) ≡ text ∷ plain_answers (plain_after vector_script s (Do c)) commands
takes_first s told n c commands text same is =
    ap (λ reply. reply ∷ plain_answers (plain_after vector_script s (Do c)) commands) (sym (is ∙ ap (option_map_or refused_text (refusal_of s c)) same))

-- what is kept if it stays, whether it is rejected or not
stays : (s : Plain) (o : Option Refusal) → option_map_or (λ refusal. s) o s ≡ s
stays s None = refl
stays s (Some refusal) = refl

-- a reply that is the oracle's or an error is one line
decided_line : (told text : List ℕ) (o : Option Refusal) → IsOneLine told → text ≡ option_map_or refused_text o (reply_line told) → IsLine text
decided_line told text None one is = (told, one, is)
decided_line told text (Some refusal) one is = let line = refused_line refusal in (line.0, line.1, is ∙ line.2)

-- a line takes the first answer, or none
takes_line : (s : Plain) (told : List ℕ) (n : ℕ) (line : Line Command) (commands : List Command) (text : List ℕ) → IsOneLine told → text ≡ plain_reply vector_script told s n line
    → Takes (plain_answers s (asked_by line ++ commands)) n line text (plain_answers (plain_after vector_script s line) commands)
takes_line s told n Nothing commands text one is = (is, refl)
takes_line s told n Bad commands text one is = (is, refl)
takes_line s told n (Do (command.Edit e)) commands text one is = (takes_first s told n (command.Edit e) commands text refl is, λ no. absurd (true≢false no))
takes_line s told n (Do command.Settle) commands text one is = (refl, λ no. (codes "settled", refl, is))
takes_line s told n (Do (command.Get i)) commands text one is = (takes_first s told n (command.Get i) commands text refl is, λ no. absurd (true≢false no))
takes_line s told n (Do command.Size) commands text one is = (takes_first s told n command.Size commands text refl is, λ no. absurd (true≢false no))
takes_line s told n (Do command.Capacity) commands text one is = (takes_first s told n command.Capacity commands text refl is, λ no. absurd (true≢false no))
takes_line s told n (Do (command.Reduce kind lo hi)) commands text one is = (takes_first s told n (command.Reduce kind lo hi) commands text refl is, λ no. absurd (true≢false no))
takes_line s told n (Do (command.Cost lo hi)) commands text one is =
    (ap (λ after. plain_answers after commands) (sym (stays s (range_refusal s.edits lo hi))), λ no. decided_line told text (range_refusal s.edits lo hi) one is)
takes_line s told n (Do (command.Scan inclusive kind lo hi)) commands text one is = (takes_first s told n (command.Scan inclusive kind lo hi) commands text refl is, λ no. absurd (true≢false no))
takes_line s told n (Do command.Claim) commands text one is = (refl, λ no. (told, one, is))
takes_line s told n (Do (command.Deliver k)) commands text one is = (refl, λ no. (told, one, is))
takes_line s told n (Do command.Forget) commands text one is = (refl, λ no. (codes "forgotten", refl, is))
takes_line s told n (Do (command.Watch name kind lo hi)) commands text one is = (takes_first s told n (command.Watch name kind lo hi) commands text refl is, λ no. absurd (true≢false no))
takes_line s told n (Do (command.Unwatch name)) commands text one is = (takes_first s told n (command.Unwatch name) commands text refl is, λ no. absurd (true≢false no))
takes_line s told n (Do (command.Answer name)) commands text one is = (takes_first s told n (command.Answer name) commands text refl is, λ no. absurd (true≢false no))

-- lines that memory was there for are answered so
pub room_answers : (s last : Plain) (n : ℕ) (lines : List (List ℕ)) (text : List ℕ) → Answered (PlainStep vector_script) s n lines text last → NeverWants text → Answered AnswerStep (plain_answers s (asked_in lines)) n lines text []
room_answers s last n [] text a never = (a.0, refl)
room_answers s last n (line ∷ lines) text (reply, rest, mid, step, more, is) never =
    let one = room_step vector_script whole_command s mid n line reply rest step (subst NeverWants is never) in
    let later = subst (λ m. Answered AnswerStep (plain_answers m (asked_in lines)) (n + 1) lines rest []) one.3 (room_answers mid last (n + 1) lines rest more one.4) in
    (reply, rest, plain_answers (plain_after vector_script s (line_of line)) (asked_in lines), takes_line s one.0 n (line_of line) (asked_in lines) reply one.1 one.2, later, is)

-- ---- refusals

-- a receipt is no refusal
receipt_not : (refusal : Refusal) (receipt : Receipt) (rest : List ℕ) → refused_text refusal ≡ receipt_text receipt ++ rest → ⊥
receipt_not refusal (Pushed edit index) rest same = let first : 114 ≡ 101 = ap (λ text. get_or text 0 0) same in omega (arith, first)
receipt_not refusal (Popped edit value) rest same = let first : 114 ≡ 101 = ap (λ text. get_or text 0 0) same in omega (arith, first)
receipt_not refusal (Written edit before) rest same = let first : 114 ≡ 101 = ap (λ text. get_or text 0 0) same in omega (arith, first)
receipt_not refusal (Reserved edit capacity) rest same = let first : 114 ≡ 101 = ap (λ text. get_or text 0 0) same in omega (arith, first)
receipt_not refusal (Swapped edit a b) rest same = let first : 114 ≡ 101 = ap (λ text. get_or text 0 0) same in omega (arith, first)
receipt_not refusal (Truncated edit dropped) rest same = let first : 114 ≡ 101 = ap (λ text. get_or text 0 0) same in omega (arith, first)

-- what is answered by a refusal changes nothing
refusal_keeps : (s : Plain) (told : List ℕ) (c : Command) (refusal : Refusal) (o : Option Refusal) → refused_text refusal ≡ option_map_or refused_text o (reply_of told s c) → option_map_or (λ refusal. s) o (after s c) ≡ s
refusal_keeps s told c refusal (Some why) is = refl
refusal_keeps s told (command.Edit e) refusal None is = absurd (receipt_not refusal _ _ is)
refusal_keeps s told command.Settle refusal None is = refl
refusal_keeps s told (command.Get i) refusal None is = refl
refusal_keeps s told command.Size refusal None is = refl
refusal_keeps s told command.Capacity refusal None is = refl
refusal_keeps s told (command.Reduce kind lo hi) refusal None is = refl
refusal_keeps s told (command.Cost lo hi) refusal None is = refl
refusal_keeps s told (command.Scan inclusive kind lo hi) refusal None is = refl
refusal_keeps s told command.Claim refusal None is = refl
refusal_keeps s told (command.Deliver k) refusal None is = refl
refusal_keeps s told command.Forget refusal None is = refl
refusal_keeps s told (command.Watch name kind lo hi) refusal None is = let first : 114 ≡ 119 = ap (λ text. get_or text 0 0) is in absurd (omega (arith, first))
refusal_keeps s told (command.Unwatch name) refusal None is = let first : 114 ≡ 117 = ap (λ text. get_or text 0 0) is in absurd (omega (arith, first))
refusal_keeps s told (command.Answer name) refusal None is = refl

-- so of a line
line_keeps : (s : Plain) (told : List ℕ) (n : ℕ) (line : Line Command) (refusal : Refusal) → refused_text refusal ≡ plain_reply vector_script told s n line → plain_after vector_script s line ≡ s
line_keeps s told n Nothing refusal is = refl
line_keeps s told n Bad refusal is = refl
line_keeps s told n (Do c) refusal is = refusal_keeps s told c refusal (refusal_of s c) is

-- and by its bytes
pub refused_keeps : (old new : Plain) (n : ℕ) (line : List ℕ) (refusal : Refusal) → PlainStep vector_script old n line (refused_text refusal) new → new ≡ old
refused_keeps old new n line refusal (told, one, inl is) = is.1 ∙ line_keeps old told n (line_of line) refusal is.0
refused_keeps old new n line refusal (told, one, inr want) = want_keeps vector_script old new (line_of line) (refused_text refusal) want

-- ---- what was answered is true of the edits that there are at the end

-- some edits came after those that there were, within the same limits
record Grows (old new : Plain) : Type 0 where
  more : List Edit
  edits : new.edits ≡ old.edits ++ more
  limits : new.limits ≡ old.limits

-- none did
grows_none : (s : Plain) → Grows s s
grows_none s = record { more = []; edits = sym (append-nil s.edits); limits = refl }

-- some, and then others
grows_more : (old mid new : Plain) → Grows old mid → Grows mid new → Grows old new
grows_more old mid new first second =
    record {
      more = first.more ++ second.more;
      edits = second.edits ∙ ap (λ edits. edits ++ second.more) first.edits ∙ append_assoc old.edits first.more second.more;
      limits = second.limits ∙ first.limits;
    }

-- a command that nothing rejects
command_grows : (s : Plain) (c : Command) → Grows s (after s c)
command_grows s (command.Edit e) = record { more = e ∷ []; edits = refl; limits = refl }
command_grows s command.Settle = grows_none s
command_grows s (command.Get i) = grows_none s
command_grows s command.Size = grows_none s
command_grows s command.Capacity = grows_none s
command_grows s (command.Reduce kind lo hi) = grows_none s
command_grows s (command.Cost lo hi) = grows_none s
command_grows s (command.Scan inclusive kind lo hi) = grows_none s
command_grows s command.Claim = grows_none s
command_grows s (command.Deliver k) = grows_none s
command_grows s command.Forget = grows_none s
command_grows s (command.Watch name kind lo hi) = record { more = []; edits = sym (append-nil s.edits); limits = refl }
command_grows s (command.Unwatch name) = record { more = []; edits = sym (append-nil s.edits); limits = refl }
command_grows s (command.Answer name) = grows_none s

-- one that may be refused
decided_grows : (s next : Plain) (o : Option Refusal) → Grows s next → Grows s (option_map_or (λ refusal. s) o next)
decided_grows s next None grows = grows
decided_grows s next (Some refusal) grows = grows_none s

-- a line
line_grows : (s : Plain) (line : Line Command) → Grows s (plain_after vector_script s line)
line_grows s Nothing = grows_none s
line_grows s Bad = grows_none s
line_grows s (Do c) = decided_grows s (after s c) (refusal_of s c) (command_grows s c)

-- by its bytes
step_grows : (old new : Plain) (n : ℕ) (line text : List ℕ) → PlainStep vector_script old n line text new → Grows old new
step_grows old new n line text (told, one, inl is) = subst (Grows old) (sym is.1) (line_grows old (line_of line))
step_grows old new n line text (told, one, inr want) = subst (Grows old) (sym (want_keeps vector_script old new (line_of line) text want)) (grows_none old)

-- all lines
answered_grows : (old new : Plain) (n : ℕ) (lines : List (List ℕ)) (text : List ℕ) → Answered (PlainStep vector_script) old n lines text new → Grows old new
answered_grows old new n [] text a = subst (Grows old) (sym a.1) (grows_none old)
answered_grows old new n (line ∷ lines) text (reply, rest, mid, step, more, is) =
    grows_more old mid new (step_grows old mid n line reply step) (answered_grows mid new (n + 1) lines rest more)

-- the first of some edits
take_first : (xs ys : List Edit) → take (length xs) (xs ++ ys) ≡ xs
take_first [] ys = refl
take_first (x ∷ xs) ys = ap (λ rest. x ∷ rest) (take_first xs ys)

-- one line's answer is true of the edits that come to be
step_true : (old mid last : Plain) (n : ℕ) (line text : List ℕ) → PlainStep vector_script old n line text mid → Grows old last → IsTrueOf last.limits last.edits n line text
step_true old mid last n line text (told, one, cases) grows =
    let first : take (length old.edits) last.edits ≡ old.edits = ap (take (length old.edits)) grows.edits ∙ take_first old.edits grows.more in
    let at : Plain = record { limits = last.limits; edits = take (length old.edits) last.edits; queries = old.queries } in
    let there : at ≡ old = λ i. record { limits = grows.limits i; edits = first i; queries = old.queries } in
    record {
      many = length old.edits;
      within = omega (arith, ap length grows.edits, length-append old.edits grows.more);
      queries = old.queries;
      told = told;
      answer = elim cases [
        | inl is ↦ inl (is.0 ∙ ap (λ s. plain_reply vector_script told s n (line_of line)) (sym there))
        | inr want ↦ inr (want_text vector_script old mid (line_of line) text want)
      ];
    }

-- every line's reply agrees with all updates that were accepted
pub answered_true : (old last : Plain) (n : ℕ) (lines : List (List ℕ)) (text : List ℕ) → Answered (PlainStep vector_script) old n lines text last
    → Answered (TrueStep last.limits last.edits) tt n lines text tt
answered_true old last n [] text a = (a.0, refl)
answered_true old last n (line ∷ lines) text (reply, rest, mid, step, more, is) =
    let grows = grows_more old mid last (step_grows old mid n line reply step) (answered_grows mid last (n + 1) lines rest more) in
    (reply, rest, tt, step_true old mid last n line reply step grows, answered_true mid last (n + 1) lines rest more, is)

-- the limits stay
pub answered_limits : (old last : Plain) (n : ℕ) (lines : List (List ℕ)) (text : List ℕ) → Answered (PlainStep vector_script) old n lines text last → last.limits ≡ old.limits
answered_limits old last n lines text a = (answered_grows old last n lines text a).limits
