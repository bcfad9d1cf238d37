-- Proof of `Claims::claim_block`.
use Rattle.std.proofs.Common.{◌≡◌, ℕ, ◌<◌, ◌≤◌, true, get_or, nat_le, nat_lt, refl, sym, ◌∙◌}
use Rattle.std.proofs.lemmas.Bool.{leb-true, ltb-true}
use Rattle.lv_geometry.proofs.NodeLaws.{at_each_level}
use Rattle.lv_refresh.specs.ClaimTable.{version_of}
use Rattle.lv_refresh.specs.Inner.{claims_of, node_at}
use Rattle.lv_refresh.proofs.PickLaws.{row_of_wanted}
use Rattle.lv_refresh.proofs.SweepLaws.{Picks-block, wants_by_row}
use Rattle.lv_refresh.proofs.TurnLaws.{AreClaims-served, CanServe-from, ServesNode-at, turn_left, turn_served}
use Rattle.lv_refresh.proofs.claims.Claims.claim_block.Goals as goal

-- the order of two levels, by computing it: `omega` would read all that is known of the call
below : (a b : ℕ) → nat_lt a b ≡ true → a < b
below a b is = ltb-true a b is

at_most : (a b : ℕ) → nat_le a b ≡ true → a ≤ b
at_most a b is = leb-true a b is

pub returns-in_default-clause-none : goal.returns-in_default-clause-none
returns-in_default-clause-none g c = rw (← c.self.view_is) (wants_by_row c.args.table.now (claims_of c.self.inside.levels) c.args.number ∙ c.in_default.ensures.none)

pub claim-requires-clause-inside : goal.claim-requires-clause-inside
claim-requires-clause-inside g c =
    row_of_wanted c.args.table.now (version_of (get_or c.self.inside.levels.level_1.rows.claimed c.args.number 0)) 1 c.args.number c.self.inside.levels.level_1.rows c.in-Some.ensures.some.0
    (CanServe-from _ _ c.self.invariant (rw (← c.self.view_is) at c.requires.hints) (rw (← c.self.view_is) at c.requires.grown) 1 (at_most 1 1 refl) (at_most 1 6 refl)).rows_enough

pub invariant_of-self : goal.invariant_of-self
invariant_of-self g c =
    AreClaims-served c.args.table.now _ _ (node_at 1 c.args.number, c.in-Some.version) 1
    (at_each_level _ (turn_served refl (Picks-block c.args.table.now c.self.inside.levels.level_1.rows c.claim.new.self.rows c.args.number c.in-Some.version
    (CanServe-from _ _ c.self.invariant (rw (← c.self.view_is) at c.requires.hints) (rw (← c.self.view_is) at c.requires.grown) 1 (at_most 1 1 refl) (at_most 1 6 refl))
    c.in-Some.ensures.some.0 (λ k before. sym (wants_by_row c.args.table.now (claims_of c.self.inside.levels) k) ∙ (rw (← c.self.view_is) at c.requires.calm) k before) c.in-Some.ensures.some.1 c.claim.ensures)) (turn_left (below 1 2 refl) refl) (turn_left (below 1 3 refl) refl) (turn_left (below 1 4 refl) refl) (turn_left (below 1 5 refl) refl) (turn_left (below 1 6 refl) refl))
    c.self.invariant

pub returns-clause-some : goal.returns-clause-some
returns-clause-some g c =
    rw (← c.self.view_is) (
    ServesNode-at c.args.table.now _ _ (node_at 1 c.args.number, c.in-Some.version) 1
    (at_each_level _ (turn_served refl (Picks-block c.args.table.now c.self.inside.levels.level_1.rows c.claim.new.self.rows c.args.number c.in-Some.version
    (CanServe-from _ _ c.self.invariant (rw (← c.self.view_is) at c.requires.hints) (rw (← c.self.view_is) at c.requires.grown) 1 (at_most 1 1 refl) (at_most 1 6 refl))
    c.in-Some.ensures.some.0 (λ k before. sym (wants_by_row c.args.table.now (claims_of c.self.inside.levels) k) ∙ (rw (← c.self.view_is) at c.requires.calm) k before) c.in-Some.ensures.some.1 c.claim.ensures)) (turn_left (below 1 2 refl) refl) (turn_left (below 1 3 refl) refl) (turn_left (below 1 4 refl) refl) (turn_left (below 1 5 refl) refl) (turn_left (below 1 6 refl) refl))
    (at_most 1 1 refl) (at_most 1 6 refl) refl (rw (← c.self.view_is) at c.requires.hints))
