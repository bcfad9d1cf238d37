-- That a summary is read from its bytes again.
use Rattle.std.proofs.Common.{◌≡◌, ℕ, Bool, true, false, Some, List, sym, ap, ◌∙◌, arith}
use Rattle.std.specs.Prelude.{nat_eq}
use Rattle.std.specs.Cmp.Lexicographic.{pointwise}
use Rattle.lv_bodies.specs.EqualLaws.{exact_numbers}
use Rattle.lv_shards.specs.Bytes.{bytes_of, numbers_of, version_of}
use Rattle.lv_shards.specs.Summaries.{IsPossible, Summary}
use Rattle.lv_shards.proofs.Short.{numbers_short}
use Rattle.lv_shards.specs.SpelledLaws.{number_in_sealed}

some_is : {T : Type 0} (x y : T) → Some x ≡ Some y → x ≡ y
some_is x y e = cc

-- the version of a summary's bytes is 1
pub version_is : (s : Summary) (bytes : List ℕ) → IsPossible s → bytes ≡ bytes_of s → version_of bytes ≡ 1
version_is s bytes possible is = ap version_of is ∙ number_in_sealed (numbers_of s) 0 (omega arith) (numbers_short s possible)

-- what was read is that summary
pub read_is : (s read : Summary) → Some read ≡ Some s → read ≡ s
read_is s read e = some_is read s e

-- bytes that differ are not those of what was read
pub not_those : (s read : Summary) (bytes written : List ℕ) (same : Bool) → same ≡ pointwise nat_eq written bytes → same ≡ false → written ≡ bytes_of read → read ≡ s → bytes ≡ bytes_of s → ⊥
not_those s read bytes written same test differ is e f =
    let equal : written ≡ bytes = is ∙ ap bytes_of e ∙ sym f in
    let t : same ≡ true = test ∙ (exact_numbers written bytes).1 equal in
    absurd (cc)
