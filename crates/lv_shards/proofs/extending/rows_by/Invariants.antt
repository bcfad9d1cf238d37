-- What the loop keeps in `rows_by`: where each of the eight leads.
use Rattle.std.proofs.Common.{◌≡◌, ℕ, ◌<◌, [], length, map, slice_index, slice_index_or}
use Rattle.lv_shards.proofs.extending.rows_by.Given as goal

-- the rows so far
abbrev pub invariant-loop-q : goal.invariant-loop-q
invariant-loop-q l = record {
  eight : length l.rows ≡ 8;
  read : (k : ℕ) → k < l.q → slice_index_or l.rows k [] ≡ map (λ states. slice_index states k) l.leads;
}
