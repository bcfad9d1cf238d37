-- Proof of `hash_behind`: the checksum of all bytes up to the LF of a line.
use Rattle.std.proofs.Common.{◌≡◌, ℕ, List, true, false, [], ◌∷◌, ◌++◌, ◌-◌, length, take, refl, sym, ap, ◌∙◌, arith}
use Rattle.std.specs.Str.{bytes_eq}
use Rattle.lv_shards.specs.Bytes.{checksum_from}
use Rattle.lv_transcript.specs.Seals.{hash_before, is_sealed, seal_by}
use Rattle.lv_transcript.proofs.SealLaws.{checksum-append, hash_of_parts, long_line, parts_of_seal, same_bytes, short_line, tested_line, told_right, told_wrong}
use Rattle.lv_transcript.proofs.seals.hash_behind.Goals as goal

pub returns-then-line-lt-SEAL_BYTES : goal.returns-then-line-lt-SEAL_BYTES
returns-then-line-lt-SEAL_BYTES c = told_wrong c.args.hash c.args.line.now (short_line c.args.hash c.args.line.now (omega (arith, c.if-line-lt-SEAL_BYTES.true)))

pub returns-then-line-gt-LONGEST_SEALED : goal.returns-then-line-gt-LONGEST_SEALED
returns-then-line-gt-LONGEST_SEALED c =
    told_wrong c.args.hash c.args.line.now (long_line c.args.hash c.args.line.now (omega (arith, c.if-line-lt-SEAL_BYTES.false)) (omega (arith, c.if-line-gt-LONGEST_SEALED.true)))

pub returns-then-is_seal : goal.returns-then-is_seal
returns-then-is_seal c =
    let hash = c.args.hash in
    let line = c.args.line.now in
    let n = length line - 17 in
    let text = c.split_at.result.0.now in
    let seal = c.split_at.result.1.now in
    let before = c.checksum_more-before.result in
    let digits = c.split_at-then-is_seal.result.1.now in
    let before_is : before ≡ checksum_from (checksum_from hash text) (32 ∷ []) = c.checksum_more-before.ensures ∙ ap (λ (h : ℕ). checksum_from h (32 ∷ [])) c.checksum_more.ensures in
    let up_to : before ≡ hash_before hash (take n line) =
    before_is ∙ sym (checksum-append hash text (32 ∷ [])) ∙ ap (λ (t : List ℕ). checksum_from hash (t ++ 32 ∷ [])) c.split_at.ensures.front in
    let tested =
    tested_line hash line seal (seal_by before) before (omega (arith, c.if-line-lt-SEAL_BYTES.false)) (omega (arith, c.if-line-gt-LONGEST_SEALED.false)) c.split_at.ensures.back refl up_to in
    let equal : bytes_eq seal (seal_by before) ≡ true = sym c.is_seal.ensures ∙ c.if-is_seal.true in
    let parts : seal ≡ 32 ∷ digits = parts_of_seal seal before (same_bytes seal (seal_by before) equal) ∙ ap (λ (bs : List ℕ). 32 ∷ bs) (sym c.split_at-then-is_seal.ensures.back) in
    told_right hash line c.checksum_more-then-is_seal-2.result (tested ∙ equal)
    (hash_of_parts hash line text seal digits n before c.checksum_more-then-is_seal.result c.checksum_more-then-is_seal-2.result c.split_at.ensures.front c.split_at.ensures.back parts before_is c.checksum_more-then-is_seal.ensures c.checksum_more-then-is_seal-2.ensures)

pub returns : goal.returns
returns c =
    let hash = c.args.hash in
    let line = c.args.line.now in
    let n = length line - 17 in
    let text = c.split_at.result.0.now in
    let seal = c.split_at.result.1.now in
    let before = c.checksum_more-before.result in
    let up_to : before ≡ hash_before hash (take n line) =
    c.checksum_more-before.ensures ∙ ap (λ (h : ℕ). checksum_from h (32 ∷ [])) c.checksum_more.ensures ∙ sym (checksum-append hash text (32 ∷ []))
    ∙ ap (λ (t : List ℕ). checksum_from hash (t ++ 32 ∷ [])) c.split_at.ensures.front in
    let tested =
    tested_line hash line seal (seal_by before) before (omega (arith, c.if-line-lt-SEAL_BYTES.false)) (omega (arith, c.if-line-gt-LONGEST_SEALED.false)) c.split_at.ensures.back refl up_to in
    told_wrong hash line (tested ∙ sym c.is_seal.ensures ∙ c.if-is_seal.false)
