-- Proof of `put_seal`: puts the end of a line: its seal, and LF.
use Rattle.std.proofs.Common.{◌≡◌, ℕ, List, [], ◌∷◌, ◌++◌, sym, ap, ◌∙◌}
use Rattle.lv_shards.specs.Bytes.{checksum_from}
use Rattle.lv_transcript.specs.Seals.{seal_by}
use Rattle.lv_transcript.proofs.SealLaws.{checksum-append}
use Rattle.lv_transcript.proofs.seals.put_seal.Goals as goal

pub returns-clause-hash : goal.returns-clause-hash
returns-clause-hash c =
    let hash = c.args.hash in
    let seal = seal_by (checksum_from hash (32 ∷ [])) in
    let is : c.seal_by-seal.result ≡ seal = c.seal_by-seal.ensures ∙ ap seal_by c.checksum_more.ensures in
    c.checksum_more-3.ensures ∙ ap (λ (h : ℕ). checksum_from h (10 ∷ [])) (c.checksum_more-2.ensures ∙ ap (checksum_from hash) is) ∙ sym (checksum-append hash seal (10 ∷ []))
