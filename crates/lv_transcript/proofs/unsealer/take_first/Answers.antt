-- Proof of `take_first`: takes bytes up to those that tell the form of a file.
use Rattle.std.proofs.Common.{◌≡◌, ◌≤◌, ℕ, List, true, false, ◌++◌, length, sym, ap, ◌∙◌, arith}
use Rattle.lv_transcript.specs.Seals.{is_version_3}
use Rattle.lv_transcript.proofs.UnsealLaws.{kept_few, known_begun, known_plain, known_sealed}
use Rattle.lv_transcript.proofs.unsealer.take_first.Goals as goal

pub returns-then-is_version_3-clause-text : goal.returns-then-is_version_3-clause-text
returns-then-is_version_3-clause-text c = λ rest.
    known_sealed c.args.kept.now.items c.args.bytes.now c.keep.new.kept.items c.requires.few c.keep.ensures (omega (arith, c.if-len-lt-FIRST.false, c.len.ensures.value))
    (ap is_version_3 (sym c.as_slice.ensures.value) ∙ sym c.is_version_3.ensures ∙ c.if-is_version_3.true) c.args.ready.now.items rest

pub returns-then-is_version_3-clause-kept : goal.returns-then-is_version_3-clause-kept
returns-then-is_version_3-clause-kept c =
    let few = kept_few c.args.kept.now.items c.args.bytes.now c.keep.new.kept.items c.requires.few c.keep.ensures in (
      λ is. absurd (cc is),
      λ is. absurd (cc is),
      λ is. known_begun c.args.kept.now.items c.args.bytes.now c.keep.new.kept.items c.requires.few c.keep.ensures
          (ap is_version_3 (sym c.as_slice.ensures.value) ∙ sym c.is_version_3.ensures ∙ c.if-is_version_3.true),
      omega (arith, few),
    )

pub put-requires : goal.put-requires
put-requires c =
    let few = kept_few c.args.kept.now.items c.args.bytes.now c.keep.new.kept.items c.requires.few c.keep.ensures in omega (arith, few, c.requires.room, ap length c.as_slice-2.ensures.value)

pub returns-clause-text : goal.returns-clause-text
returns-clause-text c = λ rest.
    known_plain c.args.kept.now.items c.args.bytes.now c.keep.new.kept.items c.requires.few c.keep.ensures (omega (arith, c.if-len-lt-FIRST.false, c.len.ensures.value))
    (ap is_version_3 (sym c.as_slice.ensures.value) ∙ sym c.is_version_3.ensures ∙ c.if-is_version_3.false) c.args.ready.now.items c.put.new.held.items rest
    (c.put.ensures.items ∙ ap (λ (bs : List ℕ). c.args.ready.now.items ++ bs) c.as_slice-2.ensures.value)

pub returns-clause-len : goal.returns-clause-len
returns-clause-len c =
    let few = kept_few c.args.kept.now.items c.args.bytes.now c.keep.new.kept.items c.requires.few c.keep.ensures in omega (arith, few, c.put.ensures.len, ap length c.as_slice-2.ensures.value)
