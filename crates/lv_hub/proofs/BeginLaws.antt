-- The updates that a hub begins with, made with a share that has all parts.
use Rattle.std.proofs.Common.{◌≡◌, ℕ, ◌+◌, ◌<◌, List, [], ◌∷◌, ◌++◌, get_or, length, take, refl, sym, ap, ◌∙◌, arith}
use Rattle.std.proofs.lemmas.List.{take_all, take_more}
use Rattle.lv_geometry.specs.Bounds.{Bounds}
use Rattle.lv_edits.specs.declared.edit.Edit.{Edit}
use Rattle.lv_edits.specs.declared.receipt.Receipt.{Receipt}
use Rattle.lv_edits.specs.Verdict.{Accepts}
use Rattle.lv_hub.specs.Counting.{ShareState, having_seen, one_more}
use Rattle.lv_hub.specs.Told.{history_of}

-- a list of length 0 is empty
pub none_of : (edits : List Edit) (n : ℕ) → length edits ≡ n → n ≡ 0 → edits ≡ []
none_of [] n is none = refl
none_of (e ∷ edits) n is none = absurd (omega (arith, is, none))

-- the share that counts none, once it has seen the updates that there are
pub share_begins : (old new : ShareState) (edits : List Edit) → new ≡ having_seen old edits → length edits ≡ old.count → old.count ≡ 0 → new ≡ record old { count = 0; seen = [] }
share_begins old new edits is counted none = is ∙ (λ i. record { parts = old.parts; count = none i; seen = none_of edits old.count counted none i })

-- one more update was accepted
pub edits_go_on : (limits : Bounds) (old new edits : List Edit) (i : ℕ) (d e : Edit) (receipt : Receipt) → i < length edits → e ≡ get_or edits i d → old ≡ take i edits → Accepts (history_of limits old) e receipt (history_of limits new) → new ≡ take (i + 1) edits
edits_go_on limits old new edits i d e receipt within is so_far accepts =
    ap (λ h. h.journal) accepts.journal ∙ ap (λ es. es ++ e ∷ []) so_far ∙ ap (λ e. take i edits ++ e ∷ []) is ∙ sym (take_more edits i d within)

-- the share counts it
pub share_goes_on : (start old new : ShareState) (edits : List Edit) (i : ℕ) → new ≡ one_more (having_seen old new.seen) → new.seen ≡ take (i + 1) edits → old ≡ record start { count = i; seen = take i edits }
    → new ≡ record start { count = i + 1; seen = take (i + 1) edits }
share_goes_on start old new edits i counts seen so_far =
    counts ∙ (λ k. record { parts = ap (λ s. s.parts) so_far k; count = ap (λ s. s.count + 1) so_far k; seen = seen k })

-- all of them were made
pub share_ends : (start share : ShareState) (edits : List Edit) (i : ℕ) → i ≡ length edits → share ≡ record start { count = i; seen = take i edits } → share ≡ record start { count = length edits; seen = edits }
share_ends start share edits i all is = is ∙ (λ k. record { parts = start.parts; count = all k; seen = take_all i edits (omega (arith, all)) k })

pub edits_end : (made edits : List Edit) (i : ℕ) → i ≡ length edits → made ≡ take i edits → made ≡ edits
edits_end made edits i all is = is ∙ take_all i edits (omega (arith, all))
