-- Sessions that were served satisfy the reference model.
use Rattle.std.proofs.Common.{◌≡◌, ℕ, Bool, ◌+◌, Option, List, [], ◌∷◌, All, length, map, sum, refl, sym, ap, ◌∙◌, subst}
use Rattle.std.specs.Io.KnownBytes.{Appends}
use Rattle.std.specs.List.{sum_by}
use Rattle.std.proofs.lemmas.List.Elements.{All-map}
use Rattle.std.proofs.lemmas.List.Sums.{sum-map}
use Rattle.std.proofs.lemmas.Simd.{map-map}
use mathlib.Core.List.{IsPrefix}
use Rattle.lv_geometry.specs.Bounds.{Bounds}
use Rattle.lv_edits.specs.declared.edit.Edit.{Edit}
use Rattle.lv_lines.specs.Replies.{LinesServed}
use Rattle.lv_transcript.specs.declared.log_heading.LogHeading.{LogHeading}
use Rattle.lv_hub.specs.PlainSession.{PlainSessionStep, Seen}
use Rattle.lv_hub.specs.Session.{SessionState, kept_by}
use Rattle.lv_hub.proofs.PlainSessionLaws.{session_plain}
use Rattle.lv_server.specs.PlainServed.{AreHeldPlainly, IsHeldPlainly, ServedPlainly}
use Rattle.lv_server.specs.Served.{AreHeld, Served, Sides, counted_by, ended_well, new_session}

-- in a conversation to the end of the lines, all were read and answered in turn
to_the_end : (limits : Bounds) (numbers : LogHeading) (begun : List Edit) (old new : Sides) (seen : Seen) → LinesServed (PlainSessionStep limits numbers) (kept_by (new_session begun)) seen old.lines new.lines old.replies new.replies ended_well → IsHeldPlainly limits numbers begun old new seen
to_the_end limits numbers begun old new seen c =
    let (at_end, few, all) = c.ends in
    record { input = c.seen; read = c.read; at_end = at_end; few = few; text = all.text; answered = all.answered; written = all.written }

-- each session that was run satisfies the reference model
pub held_plainly : (limits : Bounds) (numbers : LogHeading) (listing : Bool) (begun : List Edit) (olds news : List Sides) (states : List SessionState) → AreHeld limits numbers listing begun olds news states → AreHeldPlainly limits numbers begun olds news (map kept_by states)
held_plainly limits numbers listing begun [] [] [] held = tt
held_plainly limits numbers listing begun [] [] (s ∷ states) held = absurd held
held_plainly limits numbers listing begun [] (n ∷ news) states held = absurd held
held_plainly limits numbers listing begun (o ∷ olds) [] states held = absurd held
held_plainly limits numbers listing begun (o ∷ olds) (n ∷ news) [] held = absurd held
held_plainly limits numbers listing begun (o ∷ olds) (n ∷ news) (s ∷ states) held =
    (to_the_end limits numbers begun o n (kept_by s) (session_plain limits numbers listing (new_session begun) s o.lines n.lines o.replies n.replies ended_well held.0), held_plainly limits numbers listing begun olds news states held.1)

-- they made as many updates as they count
pub made_so : (states : List SessionState) → counted_by states ≡ sum_by (λ (seen : Seen). seen.made) (map kept_by states)
made_so states =
    let made : Seen → ℕ = λ seen. seen.made in
    sym (sum-map (λ (s : SessionState). s.count) states) ∙ ap sum (sym (map-map made kept_by states)) ∙ sum-map made (map kept_by states)

pub served_plainly : (limits : Bounds) (numbers : LogHeading) (listing : Bool) (begun : List Edit) (olds news : List Sides) (a b : Option (List ℕ)) → Served limits numbers listing begun olds news a b → ServedPlainly limits numbers begun olds news a b
served_plainly limits numbers listing begun olds news a b s =
    let t = s.transcript in record {
      edits = t.journal;
      legal = t.within;
      sessions = map kept_by s.states;
      held = held_plainly limits numbers listing begun olds news s.states s.held;
      starts = t.starts;
      seen = All-map (λ (seen : Seen). IsPrefix seen.edits t.journal) kept_by s.states t.seen;
      made = t.counted ∙ ap (λ n. length begun + n) (made_so s.states);
      answers = t.answers;
      all_true = t.all_true;
      written = subst (Appends a b) t.text_is s.written;
    }
