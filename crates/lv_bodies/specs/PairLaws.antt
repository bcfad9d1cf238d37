-- The laws of two bodies side by side, and that their fold is the pair of folds.
use Rattle.std.specs.Prelude.{Bool, ◌≡◌, ◌&&◌, ℕ}
use Rattle.std.proofs.Common.{ap, ◌∙◌}
use Rattle.lv_bodies.specs.Body.{IsExact, Operations, BodyLaws}
use Rattle.lv_bodies.specs.EqualLaws.{both_true, all_true}
use Rattle.lv_bodies.specs.Pairs.{pair_operations, IsPairWithin}

-- equal sides make equal pairs
pub same_pairs : {S T : Type 0} (p q : S × T) → p.0 ≡ q.0 → p.1 ≡ q.1 → p ≡ q
same_pairs p q e f = ap (λ x. (x, p.1)) e ∙ ap (λ y. (q.0, y)) f

module _ {S T : Type 0} (o : Operations S) (within_first : S → ℕ → Type 0) (p : Operations T) (within_second : T → ℕ → Type 0) (first : BodyLaws o within_first) (second : BodyLaws p within_second) where
  -- two bodies side by side meet the laws of a body
  pub pair_laws : BodyLaws (pair_operations o p) (IsPairWithin within_first within_second)
  pair_laws = record {
    identity_within = (first.identity_within, second.identity_within);
    lift_within = λ x h. (first.lift_within x h, second.lift_within x h);
    join_within = λ s t n m h k few. (first.join_within s.0 t.0 n m h.0 k.0 few, second.join_within s.1 t.1 n m h.1 k.1 few);
    left_identity = λ s n h few. same_pairs _ s (first.left_identity s.0 n h.0 few) (second.left_identity s.1 n h.1 few);
    right_identity = λ s n h few. same_pairs _ s (first.right_identity s.0 n h.0 few) (second.right_identity s.1 n h.1 few);
    associative = λ s t u n m k h i j few.
        same_pairs _ _ (first.associative s.0 t.0 u.0 n m k h.0 i.0 j.0 few) (second.associative s.1 t.1 u.1 n m k h.1 i.1 j.1 few);
  }

-- a test of both sides is exact if those of the sides are
pub exact_pair : {S T : Type 0} (E : S → S → Bool) (F : T → T → Bool) → IsExact E → IsExact F → IsExact (λ (p q : S × T). E p.0 q.0 && F p.1 q.1)
exact_pair E F exact_first exact_second p q = (
  λ h. let both = both_true (E p.0 q.0) (F p.1 q.1) h in same_pairs p q ((exact_first _ _).0 both.0) ((exact_second _ _).0 both.1),
  λ e. all_true (E p.0 q.0) (F p.1 q.1) ((exact_first _ _).1 (ap (λ r. r.0) e)) ((exact_second _ _).1 (ap (λ r. r.1) e)),
)
