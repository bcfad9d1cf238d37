-- Earlier states of a history.
use Rattle.std.proofs.Common.{◌≡◌, ◌⊎◌, ℕ, ◌≤◌, List, [], ◌∷◌, ◌++◌, length, refl, sym, ap, ◌∙◌, subst, inl, inr, append_assoc, length-append, arith}
use Rattle.lv_machine.specs.declared.entries.Entry.{Entry}
use Rattle.lv_machine.specs.History.{Ends, IsLegalHistory}
use Rattle.lv_machine.specs.Terms.{Terms}

-- a history is an earlier state of itself
pub Ends-whole : (h : List Entry) → Ends h h
Ends-whole h = record { later = []; whole_is = refl }

-- and of each longer one
pub Ends-cons : (k h : List Entry) (e : Entry) → Ends k h → Ends k (e ∷ h)
Ends-cons k h e ends = record { later = e ∷ ends.later; whole_is = ap (λ l. e ∷ l) ends.whole_is }

-- an earlier state of an earlier state is one
pub Ends-trans : (j k h : List Entry) → Ends j k → Ends k h → Ends j h
Ends-trans j k h first second = record { later = second.later ++ first.later; whole_is = second.whole_is ∙ ap (λ l. second.later ++ l) first.whole_is ∙ sym (append_assoc second.later first.later j) }

cases_by : (k h : List Entry) (e : Entry) (later : List Entry) → e ∷ h ≡ later ++ k → (k ≡ e ∷ h) ⊎ Ends k h
cases_by k h e [] is = inl (sym is)
cases_by k h e (x ∷ later) is = inr record { later = later; whole_is = cc }

-- an earlier state is the whole, or an earlier state of what comes before the last entry
pub Ends-cases : (k h : List Entry) (e : Entry) → Ends k (e ∷ h) → (k ≡ e ∷ h) ⊎ Ends k h
Ends-cases k h e ends = cases_by k h e ends.later ends.whole_is

nil_by : (k later : List Entry) → [] ≡ later ++ k → k ≡ []
nil_by k [] is = sym is
nil_by k (x ∷ later) is = absurd (cc)

pub Ends-nil : (k : List Entry) → Ends k [] → k ≡ []
Ends-nil k ends = nil_by k ends.later ends.whole_is

-- an earlier state is no longer
pub Ends-length : (k h : List Entry) → Ends k h → length k ≤ length h
Ends-length k h ends = omega (arith, ap length ends.whole_is, length-append ends.later k)

-- an earlier state that is as long is the whole
pub Ends-same : (k h : List Entry) → Ends k h → length h ≤ length k → k ≡ h
Ends-same k [] ends long = Ends-nil k ends
Ends-same k (e ∷ h) ends long = elim (Ends-cases k h e ends) [
  | inl whole ↦ whole
  | inr before ↦ absurd (omega (arith, Ends-length k h before))
]

-- of two earlier states the shorter is an earlier state of the longer
pub Ends-shorter : (k j h : List Entry) → Ends k h → Ends j h → length k ≤ length j → Ends k j
Ends-shorter k j [] one two long = subst (λ l. Ends k l) (sym (Ends-nil j two)) one
Ends-shorter k j (e ∷ h) one two long = elim (Ends-cases j h e two) [
  | inl whole ↦ subst (λ l. Ends k l) (sym whole) one
  | inr second ↦ elim (Ends-cases k h e one) [
    | inl whole ↦ absurd (omega (arith, Ends-length j h second, ap length whole))
    | inr first ↦ Ends-shorter k j h first second long
  ]
]

legal_behind : (t : Terms) (later k : List Entry) → IsLegalHistory t (later ++ k) → IsLegalHistory t k
legal_behind t [] k legal = legal
legal_behind t (x ∷ later) k legal = legal_behind t later k legal.0

-- an earlier state of a legal history is legal
pub legal_earlier : (t : Terms) (k h : List Entry) → Ends k h → IsLegalHistory t h → IsLegalHistory t k
legal_earlier t k h ends legal = legal_behind t ends.later k (subst (IsLegalHistory t) ends.whole_is legal)

-- a number that no entry of a history lowers is no lower in a longer history
grown_behind : (t : Terms) (f : List Entry → ℕ) → ((h : List Entry) (e : Entry) → IsLegalHistory t (e ∷ h) → f h ≤ f (e ∷ h)) → (later k : List Entry) → IsLegalHistory t (later ++ k) → f k ≤ f (later ++ k)
grown_behind t f grows [] k legal = omega arith
grown_behind t f grows (x ∷ later) k legal = omega (arith, grows (later ++ k) x legal, grown_behind t f grows later k legal.0)

pub grown : (t : Terms) (f : List Entry → ℕ) → ((h : List Entry) (e : Entry) → IsLegalHistory t (e ∷ h) → f h ≤ f (e ∷ h)) → (k h : List Entry) → Ends k h → IsLegalHistory t h → f k ≤ f h
grown t f grows k h ends legal = subst (λ l. f k ≤ f l) (sym ends.whole_is) (grown_behind t f grows ends.later k (subst (IsLegalHistory t) ends.whole_is legal))
