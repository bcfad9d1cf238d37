-- Lists in which an item is set or repeated: actors, and the words of a start.
use Rattle.std.proofs.Common.{◌≡◌, ◌≢◌, ℕ, zero, suc, ◌+◌, ◌^◌, ◌<◌, Some, None, List, [], ◌∷◌, length, slice_get, slice_index, slice_set, replicate, ◌++◌, take, drop, length-set, refl, sym, ap, ◌∙◌, subst, arith}
use Rattle.std.specs.Prelude.{All}
use Rattle.std.proofs.lemmas.Grind.{replicate_next}
use Rattle.std.proofs.lemmas.List.Elements.{All-head, All-tail}
use Rattle.std.proofs.Math.Seq.{take-append_seam}
use Rattle.std.proofs.lemmas.List.{get_or-replicate, get_or-set_other, get_or-set_same, length-replicate}
use Rattle.std.proofs.lemmas.Option.{get_or_from_slice_get, slice_get_read, slice_get_within}
use Rattle.lv_machine.specs.declared.actors.Actor.{Actor}
use Rattle.lv_machine.specs.History.{descriptor_of}
use Rattle.lv_machine.specs.Machine.{idle}

-- the item of a list in which another one was set at a place
pub set_same : {X : Type 0} (xs : List X) (a : ℕ) (x y : X) → slice_get (slice_set xs a x) a ≡ Some y → y ≡ x
set_same xs a x y is =
    let within : a < length xs = omega (arith, slice_get_within (slice_set xs a x) a y is, length-set xs a x) in
    sym (get_or_from_slice_get (slice_set xs a x) a y x is) ∙ get_or-set_same xs a x x within

pub set_other : {X : Type 0} (xs : List X) (a b : ℕ) (x y : X) → b ≢ a → slice_get (slice_set xs a x) b ≡ Some y → slice_get xs b ≡ Some y
set_other xs a b x y apart is =
    let within : b < length xs = omega (arith, slice_get_within (slice_set xs a x) b y is, length-set xs a x) in
    slice_get_read xs (length xs) b y refl within (sym (get_or_from_slice_get (slice_set xs a x) b y y is) ∙ get_or-set_other xs a b x y apart)

pub replicate_same : {X : Type 0} (n a : ℕ) (x y : X) → slice_get (replicate n x) a ≡ Some y → y ≡ x
replicate_same n a x y is =
    let within : a < n = omega (arith, slice_get_within (replicate n x) a y is, length-replicate n x) in
    sym (get_or_from_slice_get (replicate n x) a y x is) ∙ get_or-replicate n a x x within

-- a vector whose items were lent, and came back as many
pub lent_back : {X : Type 0} (new items : List X) (n : ℕ) → length new ≡ n → take n (new ++ drop (length new) items) ≡ new
lent_back new items n long = ap (λ m. take m (new ++ drop (length new) items)) (sym long) ∙ take-append_seam new (drop (length new) items)

-- a number of a list of numbers of 32 bits, or the 0 past its end
pub below_all : (xs : List ℕ) (p : ℕ) → All (λ part. part < 2 ^ 32) xs → slice_index xs p < 4294967296
below_all [] p below = omega arith
below_all (x ∷ xs) zero below = omega (arith, All-head (λ part. part < 2 ^ 32) x xs below)
below_all (x ∷ xs) (suc p) below = below_all xs p (All-tail (λ part. part < 2 ^ 32) x xs below)

-- words whose first one was written
pub first_written : (n m first : ℕ) → n ≡ m + 1 → slice_set (replicate n 0) 0 first ≡ first ∷ replicate m 0
first_written n m first long =
    let next : n ≡ suc m = omega arith in
    subst (λ k. slice_set (replicate k 0) 0 first ≡ first ∷ replicate m 0) (sym next) refl

-- one more idle actor
pub idle_more : {S : Type 0} (n look : ℕ) (xs new : List (Actor S)) → look ≡ descriptor_of [] → xs ≡ replicate n idle → new ≡ xs ++ record { look = look; task = None } ∷ [] → new ≡ replicate (n + 1) idle
idle_more n look xs new first are is =
    is ∙ ap (λ ys. ys ++ record { look = look; task = None } ∷ []) are
    ∙ ap (λ l. replicate n idle ++ record { look = l; task = None } ∷ []) first
    ∙ sym (replicate_next n idle)
