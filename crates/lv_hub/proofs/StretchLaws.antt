-- A scan of a range that a hub copied is a scan of the hub.
use Rattle.std.proofs.Common.{◌≡◌, ℕ, Bool, Result, Ok, Err, IfOk, IfErr, List, length, inr, refl, ap, ◌∙◌}
use Rattle.lv_geometry.specs.Bounds.{Bounds}
use Rattle.lv_geometry.specs.declared.refusals.Refusal.{Refusal}
use Rattle.lv_geometry.specs.declared.refusals.Refusal.TheVariants.{NoMemory}
use Rattle.lv_bodies.specs.Body.{Operations}
use Rattle.lv_edits.specs.declared.edit.Edit.{Edit}
use Rattle.lv_reduce.specs.Answer.{scan_of}
use Rattle.lv_reduce.specs.Stretch.{StretchState}
use Rattle.lv_reduce.specs.declared.scans.Scan.{Scan}
use Rattle.lv_hub.specs.Renewing.{IsOfOneVector}
use Rattle.lv_hub.specs.Told.{ScanTold, StretchTold}

-- a range that was refused
pub told_refused : {B S : Type 0} (o : B → Operations S) (body : B) (limits : Bounds) (old new : List Edit) (lo hi : ℕ) (inclusive : Bool) (refusal : Refusal) (r : Result (Scan S) Refusal) → StretchTold body limits old new lo hi (Err refusal) → r ≡ Err refusal → ScanTold (o body) limits old new lo hi inclusive r
told_refused o body limits old new lo hi inclusive refusal r told is = rw is record { seen = told.seen; within = told.within; scanned = tt; refused = told.refused }

-- a range was copied, and then either scanned or refused because memory ran out
pub told_scanned : {B S : Type 0} (o : B → Operations S) (body : B) (limits : Bounds) (old new : List Edit) (lo hi : ℕ) (inclusive : Bool) (stretch : StretchState B) (r : Result (Scan S) Refusal) → StretchTold body limits old new lo hi (Ok stretch) → IfOk r (λ scan. scan.edit ≡ stretch.edit) → IfOk r (λ scan. scan.values ≡ scan_of inclusive (o stretch.body) stretch.elements) → IfErr r (λ refusal. refusal ≡ NoMemory) → ScanTold (o body) limits old new lo hi inclusive r
told_scanned o body limits old new lo hi inclusive stretch (Ok scan) told edit values err = record {
  seen = told.seen;
  within = told.within;
  scanned = record {
    granted = told.range.granted;
    edit = refl;
    values_are = values ∙ ap (λ body. scan_of inclusive (o body) stretch.elements) told.of ∙ ap (scan_of inclusive (o body)) told.range.elements;
  };
  refused = tt;
}
told_scanned o body limits old new lo hi inclusive stretch (Err refusal) told edit values err =
    record { seen = told.seen; within = told.within; scanned = tt; refused = inr (told.range.granted, err) }

-- its number is that of the copy
pub scan_number : {B S : Type 0} (limits : Bounds) (new : List Edit) (stretch : StretchState B) (r : Result (Scan S) Refusal) → (IsOfOneVector limits → stretch.edit ≡ length new) → IfOk r (λ scan. scan.edit ≡ stretch.edit)
    → IsOfOneVector limits → IfOk r (λ scan. scan.edit ≡ length new)
scan_number limits new stretch (Ok scan) number edit one = edit ∙ number one
scan_number limits new stretch (Err refusal) number edit one = tt

-- if the range was refused, no result has one
pub no_scan_number : {S : Type 0} (refusal : Refusal) (r : Result (Scan S) Refusal) (limits : Bounds) (new : List Edit) → r ≡ Err refusal → IsOfOneVector limits → IfOk r (λ scan. scan.edit ≡ length new)
no_scan_number refusal r limits new is one = rw is tt
