-- Bytes that are written one part after the other.
use Rattle.std.proofs.Common.{◌≡◌, ℕ, ◌+◌, ◌*◌, ◌%◌, ◌^◌, ◌<◌, List, [], ◌∷◌, ◌++◌, length, get_or, take, drop, refl, sym, ap, ◌∙◌}
use Rattle.std.specs.Prelude.{bit_xor}
use Rattle.std.proofs.lemmas.List.{append-nil, drop_at, take_at}
use Rattle.std.proofs.lemmas.List.Sums.{fold_more}
use borrow.Rule.Slice.PartMut.{put_mid, post_of}
use Rattle.lv_shards.specs.Bytes.{checksum_from}

-- one byte more
pub checksum_more : (before : ℕ) (bytes : List ℕ) (i hash byte : ℕ) → i < length bytes → hash ≡ checksum_from before (take i bytes) → byte ≡ get_or bytes i 0
    → (bit_xor hash byte * 1099511628211) % 2 ^ 64 ≡ checksum_from before (take (i + 1) bytes)
unfolding checksum_from
checksum_more before bytes i hash byte below so_far is =
    let step : ℕ → ℕ → ℕ = λ h b. (bit_xor h b * 1099511628211) % 2 ^ 64 in
    ap (λ h. step h byte) so_far ∙ ap (step (checksum_from before (take i bytes))) is ∙ sym (fold_more step before bytes i 0 below)

-- no bytes
pub checksum_none : (before : ℕ) → before ≡ checksum_from before []
unfolding checksum_from
checksum_none before = refl

-- the checksum is after the payload
pub sealed : (payload part : List ℕ) → length payload ≡ 176 → put_mid 176 8 (payload ++ 0 ∷ 0 ∷ 0 ∷ 0 ∷ 0 ∷ 0 ∷ 0 ∷ 0 ∷ []) part ≡ payload ++ part
sealed payload part many =
    let zeros : List ℕ = 0 ∷ 0 ∷ 0 ∷ 0 ∷ 0 ∷ 0 ∷ 0 ∷ 0 ∷ [] in
    ap (λ b. b ++ (part ++ post_of 176 8 (payload ++ zeros))) (take_at payload zeros 176 many)
    ∙ ap (λ b. payload ++ (part ++ drop 8 b)) (drop_at payload zeros 176 many)
    ∙ ap (λ b. payload ++ b) (append-nil part)
