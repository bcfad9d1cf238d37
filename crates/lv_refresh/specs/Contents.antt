-- What a job carries, and its fold.
use Rattle.std.specs.Prelude.{◌≡◌, ℕ, ◌*◌, ◌^◌, ◌≤◌, List, [], ◌∷◌, fold, length, All}
use Rattle.lv_geometry.specs.Elements.{IsElement}
use Rattle.lv_bodies.specs.Body.{Operations, fold_of}
use Rattle.lv_refresh.specs.declared.contents.Contents.{Contents}
use Rattle.lv_refresh.specs.declared.contents.Contents.TheVariants.{Elements, Children}
use Rattle.lv_refresh.specs.declared.contents.Eight.{Eight}

-- eight summaries as a list, in order
abbrev pub in_order : {S : Type 0} → Eight S → List S
in_order e = e.a ∷ e.b ∷ e.c ∷ e.d ∷ e.e ∷ e.f ∷ e.g ∷ e.h ∷ []

-- the fold of the elements, or the join of the summaries from left to right
abbrev pub fold_of_contents : {S : Type 0} → Operations S → Contents S → S
fold_of_contents o (Elements xs) = fold_of o xs
fold_of_contents o (Children summaries) = fold o.join o.identity (in_order summaries)

-- contents that can be folded: eight elements of 64 bits, or eight summaries of one number of elements, at most 2 ^ 17
abbrev pub CanFoldContents : {S : Type 0} → (S → ℕ → Type 0) → Contents S → Type 0
CanFoldContents within (Elements xs) = (length xs ≡ 8) × All IsElement xs
CanFoldContents within (Children summaries) = (count : ℕ) × (8 * count ≤ 2 ^ 20) × All (λ s. within s count) (in_order summaries)
