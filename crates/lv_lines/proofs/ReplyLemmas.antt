-- Lines that are answered one after the other.
use Rattle.std.proofs.Common.{◌≡◌, ℕ, suc, ◌+◌, Option, Some, Result, OnOk, IfErr, List, [], ◌∷◌, ◌++◌, length, refl, sym, ap, ◌∙◌, arith, append_assoc, append-nil}
use Rattle.lv_lines.specs.declared.fault.Fault.{Fault}
use Rattle.lv_lines.specs.declared.fault.Fault.TheVariants.{WriteFault}
use Rattle.lv_lines.specs.declared.lines.Line.{Line}
use Rattle.lv_lines.specs.declared.lines.Line.TheVariants.{Nothing, Bad, Do}
use Rattle.lv_lines.specs.Grammar.{command_of}
use Rattle.lv_lines.specs.Output.{Writes}
use Rattle.lv_lines.specs.Texts.{unasked_text}
use Rattle.lv_lines.proofs.OutputLemmas.{Writes-put, Writes-trans}
use Rattle.lv_lines.specs.Replies.{Answered, AnsweredInParts}

module _ {S : Type 0} (step : S → ℕ → List ℕ → List ℕ → S → Type 0) where
  -- one line
  pub Answered-one : (old : S) (n : ℕ) (line reply : List ℕ) (new : S) → step old n line reply new → Answered step old n (line ∷ []) reply new
  Answered-one old n line reply new s = (reply, [], new, s, (refl, refl), sym (append-nil reply))

  -- some lines, and then others
  pub Answered-append : (old : S) (n : ℕ) (xs ys : List (List ℕ)) (first second : List ℕ) (mid new : S)
      → Answered step old n xs first mid → Answered step mid (n + length xs) ys second new → Answered step old n (xs ++ ys) (first ++ second) new
  Answered-append old n [] ys first second mid new a b =
      let same : n + 0 ≡ n = omega arith in rw (a.0, ← a.1) (rw same at b)
  Answered-append old n (x ∷ xs) ys first second mid new a b =
      let same : n + suc (length xs) ≡ n + 1 + length xs = omega arith in
      let rest = Answered-append a.2 (n + 1) xs ys a.1 second mid new a.4 (rw same at b) in
      (a.0, a.1 ++ second, a.2, a.3, rest, ap (λ (t : List ℕ). t ++ second) a.5 ∙ append_assoc a.0 a.1 second)

  -- and back
  pub Answered-split : (old : S) (n : ℕ) (xs ys : List (List ℕ)) (text : List ℕ) (new : S) → Answered step old n (xs ++ ys) text new → AnsweredInParts step old n xs ys text new
  Answered-split old n [] ys text new a =
      let same : n ≡ n + 0 = omega arith in
      record { front = []; rest = text; mid = old; first = (refl, refl); second = rw same at a; joined = refl }
  Answered-split old n (x ∷ xs) ys text new a =
      let later = Answered-split a.2 (n + 1) xs ys a.1 new a.4 in
      let same : n + 1 + length xs ≡ n + suc (length xs) = omega arith in
      record {
        front = a.0 ++ later.front;
        rest = later.rest;
        mid = later.mid;
        first = (a.0, later.front, a.2, a.3, later.first, refl);
        second = rw same at later.second;
        joined = a.5 ∙ ap (λ (t : List ℕ). a.0 ++ t) later.joined ∙ sym (append_assoc a.0 later.front later.rest);
      }

-- ---- lines that are commands

-- a line whose command is this one
pub is_asked : {C : Type 0} (line : Line C) (c : C) → Some c ≡ command_of line → line ≡ Do c
is_asked Nothing c is = absurd (cc)
is_asked Bad c is = absurd (cc)
is_asked (Do d) c is =
    let same : d ≡ c = cc in rw same refl

-- nothing is put before its command is answered
pub Writes-asked : {C : Type 0} (n : ℕ) (line : Line C) (c : C) {a b : Option (List ℕ)} {h k : List ℕ} (l : List ℕ) → Writes a h b k [] → line ≡ Do c → l ≡ k ++ unasked_text n line → Writes a h b l []
Writes-asked n line c {a} {b} {h} {k} l w is put =
    let nothing : unasked_text n line ≡ [] = rw is refl in rw (put, nothing, append-nil k) w

-- and what another line is answered is put
pub Writes-unasked : {C : Type 0} (n : ℕ) (line : Line C) {a b : Option (List ℕ)} {h k : List ℕ} (l : List ℕ) → Writes a h b k [] → l ≡ k ++ unasked_text n line → Writes a h b l (unasked_text n line)
Writes-unasked n line {a} {b} {h} {k} l w put = Writes-trans w (Writes-put b k l (unasked_text n line) put)

module _ {C : Type 0} (answers : Line C → List ℕ → Type 0) (written : List ℕ → Type 0) (line : Line C) (c : C) (is : line ≡ Do c) where
  -- what its command was answered answers the line
  pub asked_ok : {T E : Type 0} (result : Result T E) → OnOk result ((reply : List ℕ) × answers (Do c) reply × written reply) → OnOk result ((reply : List ℕ) × answers line reply × written reply)
  asked_ok result answered = rw is answered

  -- and if a prefix of it was written
  pub asked_fault : {T : Type 0} (result : Result T Fault) → IfErr result (λ fault. (fault ≡ WriteFault) × (reply : List ℕ) × answers (Do c) reply × written reply)
      → IfErr result (λ fault. (fault ≡ WriteFault) × (reply : List ℕ) × answers line reply × written reply)
  asked_fault result answered = rw is answered
