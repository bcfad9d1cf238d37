-- Proof of `put_first`: puts bytes of the first line, which has the version.
use Rattle.std.proofs.Common.{◌≡◌, ◌+◌, ℕ, List, [], ◌∷◌, ◌++◌, get_or, length, take, sym, ap, ◌∙◌, subst, arith}
use Rattle.std.proofs.lemmas.List.{take_all, take_more}
use Rattle.lv_shards.specs.Bytes.{checksum_from}
use Rattle.lv_transcript.specs.Seals.{sealed_behind}
use Rattle.lv_transcript.proofs.SealLaws.{AreSealed, kept_at, sealed_kept, sealed_more, sealed_none}
use Rattle.lv_transcript.proofs.seals.put_first.Goals as goal

pub loop-byte-init : goal.loop-byte-init
loop-byte-init c = record { sealed = sealed_none c.args.held.now.items c.args.hash c.args.count; count = omega arith; len = omega arith; capacity = omega arith }

pub loop-byte-preserved : goal.loop-byte-preserved
loop-byte-preserved c =
    let inv = c.loop-byte.invariant in
    let piece = c.args.piece.now in
    let i = c.loop-byte.byte-index in
    let h = c.loop-byte.hash in
    let n = c.loop-byte.count in
    let byte = get_or piece i 0 in
    let there = c.with_version-byte.result in
    let one : sealed_behind h n (byte ∷ []) ≡ there ∷ [] = sealed_kept h n byte there (kept_at piece i c.requires.line c.loop-byte-test.true) c.with_version-byte.ensures in
    let held = c.loop-byte.held.items in
    let next =
    sealed_more c.args.held.now.items c.args.hash c.args.count (take i piece) (byte ∷ []) held c.put.new.held.items h n c.checksum_more-hash.result (n + 1) inv.sealed
    (c.put.ensures.items ∙ ap (λ (bs : List ℕ). held ++ bs) (sym one)) (c.checksum_more-hash.ensures ∙ ap (checksum_from h) (sym one)) (omega (arith, ap length one)) in
    record {
      sealed = subst (λ (t : List ℕ). AreSealed c.args.held.now.items c.args.hash c.args.count t c.put.new.held.items c.checksum_more-hash.result (n + 1)) (sym (take_more piece i 0 c.loop-byte-test.true)) next;
      count = omega (arith, inv.count);
      len = omega (arith, inv.len, c.put.ensures.len);
      capacity = omega (arith, inv.capacity, c.put.ensures.capacity);
    }

pub returns-clause-items : goal.returns-clause-items
returns-clause-items c =
    let all = take_all c.loop-byte.byte-index c.args.piece.now (omega (arith, c.loop-byte-test.false)) in
    c.loop-byte.invariant.sealed.items ∙ ap (λ (t : List ℕ). c.args.held.now.items ++ sealed_behind c.args.hash c.args.count t) all

pub returns-clause-hash : goal.returns-clause-hash
returns-clause-hash c =
    let all = take_all c.loop-byte.byte-index c.args.piece.now (omega (arith, c.loop-byte-test.false)) in
    c.loop-byte.invariant.sealed.hash_is ∙ ap (λ (t : List ℕ). checksum_from c.args.hash (sealed_behind c.args.hash c.args.count t)) all
