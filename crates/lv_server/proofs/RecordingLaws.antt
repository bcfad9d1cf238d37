-- The contents of a transcript's file, once all was written.
use Rattle.std.proofs.Common.{◌≡◌, ℕ, None, Option, Result, Ok, Err, List, IfErr, IfOk, IfSome, sym, subst, ◌∙◌}
use Rattle.std.specs.Prelude.{MatchResult}
use Rattle.std.specs.Io.KnownBytes.{Appends}
use Rattle.lv_edits.specs.declared.edit.Edit.{Edit}
use Rattle.lv_lines.specs.declared.fault.Fault.{Fault}
use Rattle.lv_transcript.specs.declared.claimed.Claimed.{Claimed}
use Rattle.lv_geometry.specs.Bounds.{Bounds}
use Rattle.lv_transcript.specs.declared.log_heading.LogHeading.{LogHeading}
use Rattle.lv_transcript.specs.Logs.{LogThere}
use Rattle.lv_hub.specs.Logging.{EndsInFile, WroteWhole}
use Rattle.lv_hub.specs.Renewing.{IsOfOneVector}
use Rattle.lv_hub.proofs.LogLaws.{end_of_one}
use Rattle.lv_server.specs.Starting.{Records}
use Rattle.lv_server.specs.Writing.{Writes}
use Rattle.lv_server.proofs.ServedLaws.{if_some}

-- the log of a hub of one vector that ended well was written completely
pub whole_so : {V : Type 0} (made : Option (List ℕ)) (contents : V → Option (List ℕ)) (limits : Bounds) (numbers : LogHeading) (log : Option LogThere) (start : Option (List ℕ)) (edits : List Edit) (file : Option V) (ended : Result Unit Fault) → IsOfOneVector limits
    → IfSome file (λ file. EndsInFile made limits numbers log start (contents file) edits ended) → IfOk ended (λ done. IfSome file (λ file. WroteWhole log start (contents file) edits))
whole_so made contents limits numbers log start edits file (Ok done) one ends = if_some file (λ f ends. end_of_one made limits numbers log start (contents f) edits (Ok done) one ends) ends
whole_so made contents limits numbers log start edits file (Err fault) one ends = tt

-- if neither the transcript nor its file failed, both have one journal
pub records_so : {V F : Type 0} (contents : V → Option (List ℕ)) (start : Option (List ℕ)) (history first second : List Edit) (listed : List Claimed) (old new : Option (List ℕ))
    (written ended : Result (Unit {0}) Fault) (result : Result (Unit {0}) F) (file : Option V) → first ≡ history → second ≡ history
    → IfOk result (λ done. written ≡ Ok done) → IfOk result (λ done. ended ≡ Ok done) → Writes first listed old new written
    → IfOk ended (λ done. IfSome file (λ file. WroteWhole None start (contents file) second)) → IfOk result (λ done. IfSome file (λ file. Records start (contents file) old new))
records_so contents start history first second listed old new written ended (Err failure) file one two well both writes whole = tt
records_so contents start history first second listed old new written ended (Ok done) file one two well both writes whole =
    let w = subst (Writes first listed old new) well writes in
    let got = subst (λ (ended : Result (Unit {0}) Fault). IfOk ended (λ done. IfSome file (λ file. WroteWhole None start (contents file) second))) both whole in
    if_some file
    (λ f all. record {
      journal = first;
      answers = w.1.answers;
      written = subst (Appends old new) w.1.text_is w.3;
      whole = subst (WroteWhole None start (contents f)) (two ∙ sym one) all;
    })
    got

-- ---- what came of an end is passed on with a value

pub passes_all : {A F : Type 0} (P : A → Type 0) (x : A) (ended : Result (Unit {0}) F) (result : Result A F) → MatchResult ended (λ done. result ≡ Ok x) (λ failure. result ≡ Err failure) → P x → IfOk result P
passes_all P x (Ok done) result is holds = subst (λ result. IfOk result P) (sym is) holds
passes_all P x (Err failure) result is holds = subst (λ result. IfOk result P) (sym is) tt

pub passes_well : {A F : Type 0} (Q : Unit {0} → Type 0) (P : A → Type 0) (x : A) (ended : Result (Unit {0}) F) (result : Result A F) → MatchResult ended (λ done. result ≡ Ok x) (λ failure. result ≡ Err failure)
    → ((done : Unit {0}) → Q done → P x) → IfOk ended Q → IfOk result P
passes_well Q P x (Ok done) result is then holds = subst (λ result. IfOk result P) (sym is) (then done holds)
passes_well Q P x (Err failure) result is then holds = subst (λ result. IfOk result P) (sym is) tt

pub passes_ill : {A F : Type 0} (Q P : F → Type 0) (x : A) (ended : Result (Unit {0}) F) (result : Result A F) → MatchResult ended (λ done. result ≡ Ok x) (λ failure. result ≡ Err failure)
    → ((failure : F) → Q failure → P failure) → IfErr ended Q → IfErr result P
passes_ill Q P x (Ok done) result is then holds = subst (λ result. IfErr result P) (sym is) tt
passes_ill Q P x (Err failure) result is then holds = subst (λ result. IfErr result P) (sym is) (then failure holds)
