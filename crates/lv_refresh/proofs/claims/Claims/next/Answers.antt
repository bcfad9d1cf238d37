-- Proof of `Claims::next`: the least node that wants a job, and the number of the edit that touched it last, which is claimed with it.
use Rattle.std.proofs.Common.{◌≡◌, ℕ, ◌<◌, ◌≤◌, true, nat_le, nat_lt, arith, refl}
use Rattle.std.proofs.lemmas.Bool.{leb-true, ltb-true}
use Rattle.lv_geometry.proofs.NodeLaws.{at_each_level}
use Rattle.lv_refresh.proofs.TurnLaws.{AreClaims-last, AreClaims-served, CanServe-from, ServesNext-last, ServesNode-at, turn_left, turn_passed, turn_served}
use Rattle.lv_refresh.proofs.claims.Claims.next.Goals as goal

-- the order of two levels, by computing it: `omega` would read all that is known of the call
below : (a b : ℕ) → nat_lt a b ≡ true → a < b
below a b is = ltb-true a b is

at_most : (a b : ℕ) → nat_le a b ≡ true → a ≤ b
at_most a b is = leb-true a b is

pub next_of-requires : goal.next_of-requires
next_of-requires g c = CanServe-from _ _ c.self.invariant (rw (← c.self.view_is) at c.requires.hints) (rw (← c.self.view_is) at c.requires.grown) 1 (at_most 1 1 refl) (at_most 1 6 refl)

pub invariant_of-self : goal.invariant_of-self
invariant_of-self g c = AreClaims-served _ _ _ c.in-Some.next 1 (at_each_level _ (turn_served refl c.in-Some.ensures) (turn_left (below 1 2 refl) refl) (turn_left (below 1 3 refl) refl) (turn_left (below 1 4 refl) refl) (turn_left (below 1 5 refl) refl) (turn_left (below 1 6 refl) refl)) c.self.invariant

pub returns-in-Some : goal.returns-in-Some
returns-in-Some g c = rw (← c.self.view_is) (ServesNode-at _ _ _ c.in-Some.next 1 (at_each_level _ (turn_served refl c.in-Some.ensures) (turn_left (below 1 2 refl) refl) (turn_left (below 1 3 refl) refl) (turn_left (below 1 4 refl) refl) (turn_left (below 1 5 refl) refl) (turn_left (below 1 6 refl) refl)) (at_most 1 1 refl) (at_most 1 6 refl) c.in-Some.ensures.level_is (rw (← c.self.view_is) at c.requires.hints))

pub next_of-requires-2 : goal.next_of-requires-2
next_of-requires-2 g c = CanServe-from _ _ c.self.invariant (rw (← c.self.view_is) at c.requires.hints) (rw (← c.self.view_is) at c.requires.grown) 2 (at_most 1 2 refl) (at_most 2 6 refl)

pub invariant_of-self-in-Some-next_of : goal.invariant_of-self-in-Some-next_of
invariant_of-self-in-Some-next_of g c = AreClaims-served _ _ _ c.in-Some-next_of.next 2 (at_each_level _ (turn_passed (below 1 2 refl) c.in_default.ensures) (turn_served refl c.in-Some-next_of.ensures) (turn_left (below 2 3 refl) refl) (turn_left (below 2 4 refl) refl) (turn_left (below 2 5 refl) refl) (turn_left (below 2 6 refl) refl)) c.self.invariant

pub returns-in-Some-next_of : goal.returns-in-Some-next_of
returns-in-Some-next_of g c = rw (← c.self.view_is) (ServesNode-at _ _ _ c.in-Some-next_of.next 2 (at_each_level _ (turn_passed (below 1 2 refl) c.in_default.ensures) (turn_served refl c.in-Some-next_of.ensures) (turn_left (below 2 3 refl) refl) (turn_left (below 2 4 refl) refl) (turn_left (below 2 5 refl) refl) (turn_left (below 2 6 refl) refl)) (at_most 1 2 refl) (at_most 2 6 refl) c.in-Some-next_of.ensures.level_is (rw (← c.self.view_is) at c.requires.hints))

pub next_of-requires-3 : goal.next_of-requires-3
next_of-requires-3 g c = CanServe-from _ _ c.self.invariant (rw (← c.self.view_is) at c.requires.hints) (rw (← c.self.view_is) at c.requires.grown) 3 (at_most 1 3 refl) (at_most 3 6 refl)

pub invariant_of-self-in-Some-next_of-2 : goal.invariant_of-self-in-Some-next_of-2
invariant_of-self-in-Some-next_of-2 g c = AreClaims-served _ _ _ c.in-Some-next_of-2.next 3 (at_each_level _ (turn_passed (below 1 3 refl) c.in_default.ensures) (turn_passed (below 2 3 refl) c.in_default-next_of.ensures) (turn_served refl c.in-Some-next_of-2.ensures) (turn_left (below 3 4 refl) refl) (turn_left (below 3 5 refl) refl) (turn_left (below 3 6 refl) refl)) c.self.invariant

pub returns-in-Some-next_of-2 : goal.returns-in-Some-next_of-2
returns-in-Some-next_of-2 g c = rw (← c.self.view_is) (ServesNode-at _ _ _ c.in-Some-next_of-2.next 3 (at_each_level _ (turn_passed (below 1 3 refl) c.in_default.ensures) (turn_passed (below 2 3 refl) c.in_default-next_of.ensures) (turn_served refl c.in-Some-next_of-2.ensures) (turn_left (below 3 4 refl) refl) (turn_left (below 3 5 refl) refl) (turn_left (below 3 6 refl) refl)) (at_most 1 3 refl) (at_most 3 6 refl) c.in-Some-next_of-2.ensures.level_is (rw (← c.self.view_is) at c.requires.hints))

pub next_of-requires-4 : goal.next_of-requires-4
next_of-requires-4 g c = CanServe-from _ _ c.self.invariant (rw (← c.self.view_is) at c.requires.hints) (rw (← c.self.view_is) at c.requires.grown) 4 (at_most 1 4 refl) (at_most 4 6 refl)

pub invariant_of-self-in-Some-next_of-3 : goal.invariant_of-self-in-Some-next_of-3
invariant_of-self-in-Some-next_of-3 g c = AreClaims-served _ _ _ c.in-Some-next_of-3.next 4 (at_each_level _ (turn_passed (below 1 4 refl) c.in_default.ensures) (turn_passed (below 2 4 refl) c.in_default-next_of.ensures) (turn_passed (below 3 4 refl) c.in_default-next_of-2.ensures) (turn_served refl c.in-Some-next_of-3.ensures) (turn_left (below 4 5 refl) refl) (turn_left (below 4 6 refl) refl)) c.self.invariant

pub returns-in-Some-next_of-3 : goal.returns-in-Some-next_of-3
returns-in-Some-next_of-3 g c = rw (← c.self.view_is) (ServesNode-at _ _ _ c.in-Some-next_of-3.next 4 (at_each_level _ (turn_passed (below 1 4 refl) c.in_default.ensures) (turn_passed (below 2 4 refl) c.in_default-next_of.ensures) (turn_passed (below 3 4 refl) c.in_default-next_of-2.ensures) (turn_served refl c.in-Some-next_of-3.ensures) (turn_left (below 4 5 refl) refl) (turn_left (below 4 6 refl) refl)) (at_most 1 4 refl) (at_most 4 6 refl) c.in-Some-next_of-3.ensures.level_is (rw (← c.self.view_is) at c.requires.hints))

pub next_of-requires-5 : goal.next_of-requires-5
next_of-requires-5 g c = CanServe-from _ _ c.self.invariant (rw (← c.self.view_is) at c.requires.hints) (rw (← c.self.view_is) at c.requires.grown) 5 (at_most 1 5 refl) (at_most 5 6 refl)

pub invariant_of-self-in-Some-next_of-4 : goal.invariant_of-self-in-Some-next_of-4
invariant_of-self-in-Some-next_of-4 g c = AreClaims-served _ _ _ c.in-Some-next_of-4.next 5 (at_each_level _ (turn_passed (below 1 5 refl) c.in_default.ensures) (turn_passed (below 2 5 refl) c.in_default-next_of.ensures) (turn_passed (below 3 5 refl) c.in_default-next_of-2.ensures) (turn_passed (below 4 5 refl) c.in_default-next_of-3.ensures) (turn_served refl c.in-Some-next_of-4.ensures) (turn_left (below 5 6 refl) refl)) c.self.invariant

pub returns-in-Some-next_of-4 : goal.returns-in-Some-next_of-4
returns-in-Some-next_of-4 g c = rw (← c.self.view_is) (ServesNode-at _ _ _ c.in-Some-next_of-4.next 5 (at_each_level _ (turn_passed (below 1 5 refl) c.in_default.ensures) (turn_passed (below 2 5 refl) c.in_default-next_of.ensures) (turn_passed (below 3 5 refl) c.in_default-next_of-2.ensures) (turn_passed (below 4 5 refl) c.in_default-next_of-3.ensures) (turn_served refl c.in-Some-next_of-4.ensures) (turn_left (below 5 6 refl) refl)) (at_most 1 5 refl) (at_most 5 6 refl) c.in-Some-next_of-4.ensures.level_is (rw (← c.self.view_is) at c.requires.hints))

pub next_of-requires-6 : goal.next_of-requires-6
next_of-requires-6 g c = CanServe-from _ _ c.self.invariant (rw (← c.self.view_is) at c.requires.hints) (rw (← c.self.view_is) at c.requires.grown) 6 (at_most 1 6 refl) (at_most 6 6 refl)

pub invariant_of-self-2 : goal.invariant_of-self-2
invariant_of-self-2 g c = AreClaims-last _ _ _ c.next_of-6.result (at_each_level _ (λ _. c.in_default.ensures) (λ _. c.in_default-next_of.ensures) (λ _. c.in_default-next_of-2.ensures) (λ _. c.in_default-next_of-3.ensures) (λ _. c.in_default-next_of-4.ensures) (λ before. absurd (omega arith))) c.next_of-6.ensures c.self.invariant

pub returns : goal.returns
returns g c = rw (← c.self.view_is) (ServesNext-last _ _ _ c.next_of-6.result (at_each_level _ (λ _. c.in_default.ensures) (λ _. c.in_default-next_of.ensures) (λ _. c.in_default-next_of-2.ensures) (λ _. c.in_default-next_of-3.ensures) (λ _. c.in_default-next_of-4.ensures) (λ before. absurd (omega arith))) c.next_of-6.ensures (rw (← c.self.view_is) at c.requires.hints))
