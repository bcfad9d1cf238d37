-- That the numbers of what is saved have 64 bits.
use Rattle.std.proofs.Common.{ℤ, ◌^◌, ◌<◌, Option, Some, None, List, [], ◌++◌, map, arith}
use Rattle.std.specs.Prelude.{IfSome, is_some, unwrap_or, All, if◌then◌else◌}
use Rattle.std.specs.Int.{w64, cast_unsigned}
use Rattle.std.proofs.lemmas.Int.{ints}
use Rattle.std.proofs.lemmas.List.Elements.{All-append, All-from_recursion, All-map, All-nil}
use Rattle.lv_geometry.specs.Elements.{IsElement}
use Rattle.lv_saved.specs.Saved.{IsSaved, Saved, head_of, numbers_of}
use Rattle.lv_shards.specs.LeadsLaws.{leads_of_table, row_short}
use Rattle.lv_shards.specs.Summaries.{leads_of}

form_short : (times : Option (List ℤ)) → (if is_some times then 2 else 1) < 2 ^ 64
form_short None = omega arith
form_short (Some times) = omega arith

head_short : (s : Saved) → IsSaved s → All (λ n. n < 2 ^ 64) (head_of s)
head_short s h =
    let leads = leads_of_table s.table h.table in
    All-from_recursion (λ n. n < 2 ^ 64) (head_of s) (
      omega arith,
      (
        omega arith,
        (
          form_short s.times,
          (
            omega (arith, h.numbered),
            (
              h.edits,
              (
                omega (arith, h.numbered),
                (
                  row_short (leads_of s.table) 0 leads (omega arith),
                  (row_short (leads_of s.table) 1 leads (omega arith), (row_short (leads_of s.table) 2 leads (omega arith), (row_short (leads_of s.table) 3 leads (omega arith), tt))),
                ),
              ),
            ),
          ),
        ),
      ),
    )

element_short : (x : ℤ) → IsElement x → cast_unsigned w64 x < 2 ^ 64
element_short x fits = omega (arith, ints, fits)

elements_short : (xs : List ℤ) → All IsElement xs → All (λ n. n < 2 ^ 64) (map (cast_unsigned w64) xs)
elements_short xs all = All-map (λ n. n < 2 ^ 64) (cast_unsigned w64) xs (λ k d below. element_short _ (all k d below))

-- times are elements, if there are any
pub times_fit : (times : Option (List ℤ)) → IfSome times (All IsElement) → All IsElement (unwrap_or times [])
times_fit None all = All-nil IsElement
times_fit (Some times) all = all

pub numbers_short : (s : Saved) → IsSaved s → All (λ n. n < 2 ^ 64) (numbers_of s)
numbers_short s h =
    All-append (λ n. n < 2 ^ 64) (head_of s) (map (cast_unsigned w64) s.elements ++ map (cast_unsigned w64) (unwrap_or s.times [])) (head_short s h)
    (All-append (λ n. n < 2 ^ 64) (map (cast_unsigned w64) s.elements) (map (cast_unsigned w64) (unwrap_or s.times [])) (elements_short s.elements h.elements) (elements_short (unwrap_or s.times []) (times_fit s.times h.times)))
