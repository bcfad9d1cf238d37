-- What the loop keeps in `front_digits`: the number that the digits so far denote, and how many they are, at most 18.
use Rattle.std.proofs.Common.{◌≡◌, ℕ, ◌^◌, ◌-◌, ◌<◌, ◌≤◌, false, List, ◌++◌, take, get_or}
use Rattle.lv_lines.specs.Words.{is_space}
use Rattle.lv_lines.proofs.ReadDigits.{numeral_from}
use Rattle.lv_lines.proofs.numbers.front_digits.Given as goal

-- the digits so far give the value so far
abbrev pub invariant-loop-count : goal.invariant-loop-count
invariant-loop-count l = record {
  few : l.count ≤ l.most;
  small : l.value < 10 ^ l.count;
  read : (more : List ℕ) → numeral_from 0 (take l.count l.text ++ more) ≡ numeral_from l.value more;
  digits : (k : ℕ) → k < l.count → is_space (get_or l.text k 0) ≡ false;
}

abbrev pub decreases-loop-count : goal.decreases-loop-count
decreases-loop-count l = l.most - l.count
