-- How a push changes the count of a share.
use Rattle.std.proofs.Common.{◌≡◌, ◌+◌, List, Result, Ok, Err, ap, subst}
use Rattle.lv_vector.specs.Edit.{Edit}
use Rattle.lv_vector.specs.Counting.{Counts, ShareState, having_seen}

pub counts_one : {A E : Type 0} (old new : ShareState) (seen : List Edit) (result : Result A E) (a : A) → Counts (having_seen old seen) result new → result ≡ Ok a → (new.parts ≡ old.parts) × (new.count ≡ old.count + 1)
counts_one old new seen result a counts is =
    let so = subst (λ r. Counts (having_seen old seen) r new) is counts in (ap (λ s. s.parts) so, ap (λ s. s.count) so)

pub counts_none : {A E : Type 0} (old new : ShareState) (seen : List Edit) (result : Result A E) (e : E) → Counts (having_seen old seen) result new → result ≡ Err e → (new.parts ≡ old.parts) × (new.count ≡ old.count)
counts_none old new seen result e counts is =
    let so = subst (λ r. Counts (having_seen old seen) r new) is counts in (ap (λ s. s.parts) so, ap (λ s. s.count) so)
