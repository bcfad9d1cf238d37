-- What follows of lines that are answered as the plain interpreter answers them, whatever they are asked of.
use Rattle.std.proofs.Common.{◌≡◌, ◌≢◌, ℕ, ◌+◌, ◌≤◌, true, Option, Some, None, Result, Ok, Err, OnOk, List, [], ◌∷◌, ◌++◌, codes, decimal, flat_map, nat_eq, if◌then◌else◌, refl, sym, ap, ap₂, ◌∙◌, subst, inl, inr, arith, le_refl, All}
use Rattle.std.specs.Option.{option_map_or}
use Rattle.std.specs.Io.KnownBytes.{Appends, Consumes, IsAtEnd}
use Rattle.std.proofs.lemmas.Bool.{cases_Bool, cond-false, cond-true, eq-eqb, ne_eqb}
use Rattle.std.proofs.lemmas.List.Elements.{All-head, All-tail}
use Rattle.lv_geometry.specs.declared.refusals.Refusal.TheVariants.{NoMemory}
use Rattle.lv_lines.specs.declared.lines.Line.{Line}
use Rattle.lv_lines.specs.declared.lines.Line.TheVariants.{Nothing, Bad, Do}
use Rattle.lv_lines.specs.declared.fault.Fault.{Fault}
use Rattle.lv_lines.specs.Input.{lines_of, unended_of, whole_lines_of}
use Rattle.lv_lines.specs.Replies.{Answered, LinesServed}
use Rattle.lv_lines.specs.Grammar.{command_of}
use Rattle.lv_lines.specs.Texts.{refused_by, refused_text, reply_line, unasked_text}
use Rattle.lv_lines.proofs.InputLemmas.{lines_of-append, unended_of-append, unended_of-ended, whole_lines_of-ended}
use Rattle.lv_script.specs.Interpreter.{IsOneLine, IsPlainText, MeetsWant, NeverWants, PlainLine, PlainStep, Target, plain_after, plain_reply, plain_text}
use Rattle.lv_script.proofs.OneLineLaws.{refused_bytes, refused_one}

-- ---- whole lines

-- there are no bytes after the last LF
abbrev pub IsWhole : List ℕ → Type 0
IsWhole text = unended_of text ≡ []

-- a line
pub whole_line : (bytes : List ℕ) → IsWhole (reply_line bytes)
whole_line bytes = unended_of-ended bytes []

-- two parts
pub whole_append : (xs ys : List ℕ) → IsWhole xs → IsWhole ys → IsWhole (xs ++ ys)
whole_append xs ys first second = unended_of-append xs ys ∙ ap (λ begun. unended_of (begun ++ ys)) first ∙ second

-- any number of parts
pub whole_parts : {X : Type 0} (f : X → List ℕ) (xs : List X) → ((x : X) → IsWhole (f x)) → IsWhole (flat_map f xs)
whole_parts f [] each = refl
whole_parts f (x ∷ xs) each = whole_append (f x) (flat_map f xs) (each x) (whole_parts f xs each)

-- ---- lines that ask for nothing

-- a line that is no command is answered by the interpreter
pub unasked_plain : {C R S : Type 0} (t : Target C R S) (s : S) (n : ℕ) (line : Line C) → None ≡ command_of line → PlainLine t s n line (unasked_text n line) s
unasked_plain t s n Nothing none = ([], refl, inl (refl, refl))
unasked_plain t s n Bad none = ([], refl, inl (refl, refl))
unasked_plain t s n (Do c) none = absurd (cc)

-- ---- if memory was there

-- the second of two parts
all_second : {X : Type 0} (P : X → Type 0) (xs ys : List X) → All P (xs ++ ys) → All P ys
all_second P [] ys all = all
all_second P (x ∷ xs) ys all = all_second P xs ys (All-tail P x (xs ++ ys) all)

-- a line is not the reply that reports `NoMemory` (out of memory)
abbrev IsNoWant : List ℕ → Type 0
IsNoWant line = reply_line line ≢ refused_text NoMemory

-- the lines of a text whose first part is whole are those of both parts
lines_after : (front rest : List ℕ) → IsWhole front → NeverWants (front ++ rest) → NeverWants rest
lines_after front rest whole never =
    let parts : lines_of (front ++ rest) ≡ whole_lines_of front ++ lines_of rest = lines_of-append front rest ∙ ap (λ begun. whole_lines_of front ++ lines_of (begun ++ rest)) whole in
    all_second IsNoWant (whole_lines_of front) (lines_of rest) (subst (All IsNoWant) parts never)

-- a text that begins with the reply for `NoMemory` reports it
tells_want : (rest : List ℕ) → NeverWants (refused_text NoMemory ++ rest) → ⊥
tells_want rest never =
    let bytes = refused_bytes NoMemory in
    let lines : whole_lines_of (reply_line bytes) ≡ bytes ∷ [] = whole_lines_of-ended bytes [] (refused_one NoMemory) in
    let parts : lines_of (reply_line bytes ++ rest) ≡ bytes ∷ lines_of rest =
    lines_of-append (reply_line bytes) rest ∙ ap₂ (λ lines begun. lines ++ lines_of (begun ++ rest)) lines (whole_line bytes) in
    All-head IsNoWant bytes (lines_of rest) (subst (All IsNoWant) parts never) refl

-- the oracle of line n, and then that of the others
abbrev told_at : ℕ → List ℕ → (ℕ → List ℕ) → ℕ → List ℕ
told_at n first later k = if nat_eq k n then first else later k

-- all are one line
told_lines : (n : ℕ) (first : List ℕ) (later : ℕ → List ℕ) → IsOneLine first → ((k : ℕ) → IsOneLine (later k)) → (k : ℕ) → IsOneLine (told_at n first later k)
told_lines n first later one all k = elim (cases_Bool (nat_eq k n)) [ inl here ↦ rw here one | inr other ↦ rw other (all k) ]

module _ {C R S : Type 0} (t : Target C R S) where
  -- ---- one command

  -- that nothing rejects
  pub granted : (old new : S) (n : ℕ) (c : C) (text told : List ℕ) → t.refusal_of old c ≡ None → IsOneLine told → text ≡ t.reply_of told old c → new ≡ t.after old c → PlainLine t old n (Do c) text new
  granted old new n c text told free one is next =
      (told, one, inl (is ∙ ap (λ o. option_map_or (λ r. refused_by (t.number_of r)) o (t.reply_of told old c)) (sym free), next ∙ ap (λ o. option_map_or (λ refusal. old) o (t.after old c)) (sym free)))

  -- that is rejected
  pub refused : (old new : S) (n : ℕ) (c : C) (text : List ℕ) (refusal : R) → t.refusal_of old c ≡ Some refusal → text ≡ refused_by (t.number_of refusal) → new ≡ old → PlainLine t old n (Do c) text new
  refused old new n c text refusal why is same =
      ([], refl, inl (is ∙ ap (λ o. option_map_or (λ r. refused_by (t.number_of r)) o (t.reply_of [] old c)) (sym why), same ∙ ap (λ o. option_map_or (λ refusal. old) o (t.after old c)) (sym why)))

  -- a command that ran out of memory
  pub wanted : (old new : S) (n : ℕ) (c : C) (text : List ℕ) → t.may_want c ≡ true → t.refusal_of old c ≡ None → text ≡ refused_text NoMemory → new ≡ old → PlainLine t old n (Do c) text new
  wanted old new n c text may free is same = ([], refl, inr (may, free, is, same))

  -- ---- out of memory

  -- the reply to a line that ran out of memory is that of `NoMemory`
  pub want_text : (old new : S) (line : Line C) (text : List ℕ) → MeetsWant t old line text new → text ≡ refused_text NoMemory
  want_text old new Nothing text want = absurd want
  want_text old new Bad text want = absurd want
  want_text old new (Do c) text want = want.2

  -- and changed nothing
  pub want_keeps : (old new : S) (line : Line C) (text : List ℕ) → MeetsWant t old line text new → new ≡ old
  want_keeps old new Nothing text want = absurd want
  want_keeps old new Bad text want = absurd want
  want_keeps old new (Do c) text want = want.3

  -- ---- whole runs

  -- the text of the lines from n on does not depend on the oracle of the lines before
  text_same : (told other : ℕ → List ℕ) (s : S) (n : ℕ) (lines : List (List ℕ)) → ((k : ℕ) → n ≤ k → told k ≡ other k) → plain_text t told s n lines ≡ plain_text t other s n lines
  text_same told other s n [] same = refl
  text_same told other s n (line ∷ lines) same =
      ap₂ (λ told rest. plain_reply t told s n (t.line_of line) ++ rest) (same n (le_refl n)) (text_same told other (plain_after t s (t.line_of line)) (n + 1) lines (λ k within. same k (omega (arith, within))))

  -- of a target whose replies are whole lines
  module _ (whole : (told : List ℕ) (s : S) (c : C) → IsWhole (t.reply_of told s c)) where
    whole_decided : (text : List ℕ) (o : Option R) → IsWhole text → IsWhole (option_map_or (λ r. refused_by (t.number_of r)) o text)
    whole_decided text None is = is
    whole_decided text (Some refusal) is = whole_line (codes "refused " ++ decimal (t.number_of refusal))

    whole_reply : (told : List ℕ) (s : S) (n : ℕ) (line : Line C) → IsWhole (plain_reply t told s n line)
    whole_reply told s n Nothing = refl
    whole_reply told s n Bad = whole_line (codes "bad " ++ decimal n)
    whole_reply told s n (Do c) = whole_decided (t.reply_of told s c) (t.refusal_of s c) (whole told s c)

    -- a line that memory was there for, by the text from it on
    pub room_step : (old new : S) (n : ℕ) (line text rest : List ℕ) → PlainStep t old n line text new → NeverWants (text ++ rest)
        → (told : List ℕ) × IsOneLine told × (text ≡ plain_reply t told old n (t.line_of line)) × (new ≡ plain_after t old (t.line_of line)) × NeverWants rest
    room_step old new n line text rest (told, one, inl is) never =
        (told, one, is.0, is.1, lines_after text rest (subst IsWhole (sym is.0) (whole_reply told old n (t.line_of line))) never)
    room_step old new n line text rest (told, one, inr want) never =
        absurd (tells_want rest (subst (λ text. NeverWants (text ++ rest)) (want_text old new (t.line_of line) text want) never))

    -- lines that memory was there for have the interpreter's text
    pub room_text : (s last : S) (n : ℕ) (lines : List (List ℕ)) (text : List ℕ) → Answered (PlainStep t) s n lines text last → NeverWants text
        → (told : ℕ → List ℕ) × ((k : ℕ) → IsOneLine (told k)) × (text ≡ plain_text t told s n lines)
    room_text s last n [] text a never = ((λ k. []), (λ k. refl), a.0)
    room_text s last n (line ∷ lines) text (reply, rest, mid, step, more, is) never =
        let one = room_step s mid n line reply rest step (subst NeverWants is never) in
        let later = room_text mid last (n + 1) lines rest more one.4 in
        let told : ℕ → List ℕ = told_at n one.0 later.0 in
        let here : told n ≡ one.0 = cond-true (nat_eq n n) one.0 (later.0 n) (eq-eqb n n refl) in
        let there = text_same later.0 told (plain_after t s (t.line_of line)) (n + 1) lines (λ k within. sym (cond-false (nat_eq k n) one.0 (later.0 k) (ne_eqb k n (λ same. omega (arith, within, same))))) in (
          told,
          told_lines n one.0 later.0 one.1 later.1,
          is ∙ ap₂ ◌++◌ (one.2 ∙ ap (λ told. plain_reply t told s n (t.line_of line)) (sym here)) (later.2 ∙ ap (λ m. plain_text t later.0 m (n + 1) lines) one.3 ∙ there),
        )

    -- what a conversation wrote that came to the end of its input
    pub written_plain : {T : Type 0} (start last : S) (a b k l : Option (List ℕ)) (result : Result T Fault) → LinesServed (PlainStep t) start last a b k l result
        → OnOk result ((input : List ℕ) × (text : List ℕ) × Consumes a b input × IsAtEnd b × Appends k l text × (NeverWants text → IsPlainText t start input text))
    written_plain start last a b k l (Ok done) c =
        let all = c.ends.2 in
        (c.seen, all.text, c.read, c.ends.0, all.written, λ never. room_text start last 1 _ all.text all.answered never)
    written_plain start last a b k l (Err fault) c = tt
