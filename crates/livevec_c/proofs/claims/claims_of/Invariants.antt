-- What the loop keeps in `claims_of`: the claims that recorded answers are.
use Rattle.std.proofs.Common.{◌≡◌, ◌≤◌, Some, length, map, take}
use Rattle.std.specs.Prelude.{vec_capacity}
use Rattle.livevec_c.specs.Claims.{claimed_of}
use Rattle.livevec_c.proofs.claims.claims_of.Given as goal

-- the claims so far, and room for all
abbrev pub invariant-loop-answer : goal.invariant-loop-answer
invariant-loop-answer l =
    record {
      claims : map claimed_of (take l.answer-index l.answers) ≡ map Some l.claims.items;
      many : length l.claims.items ≡ l.answer-index;
      room : length l.answers ≤ vec_capacity l.claims;
    }
