-- How a vector in a slot is made anew from the edits of a prefix of a transcript.
use Rattle.std.specs.Prelude.{◌≡◌, ◌⊎◌, ◌+◌, ℕ, Option, Some, None, Result, Ok, Err, List, [], length}
use Rattle.lv_geometry.specs.Bounds.{AreAllowed, Bounds}
use Rattle.lv_geometry.specs.Numbers.{number_of}
use Rattle.lv_geometry.specs.declared.nodes.Node.{Node}
use Rattle.lv_geometry.specs.declared.refusals.Refusal.{Refusal}
use Rattle.lv_geometry.specs.declared.refusals.Refusal.TheVariants.{NoMemory}
use Rattle.lv_bodies.specs.declared.kinds.Kind.{Kind}
use Rattle.lv_bodies.specs.Automata.{table_of}
use Rattle.lv_bodies.specs.Plain.{program_table}
use Rattle.lv_transcript.specs.ReadTexts.{FindsFront}
use Rattle.lv_transcript.specs.declared.text_audits.Unread.{Unread}
use Rattle.lv_edits.specs.declared.edit.Edit.{Edit}
use Rattle.lv_edits.specs.Batches.{verdict_of_edits, with_edits}
use Rattle.lv_edits.specs.History.{History}
use Rattle.lv_edits.specs.Kept.{IsLegalInLimits}
use Rattle.lv_live.specs.State.{recorded, SameRefresh}
use Rattle.lv_transcript.specs.declared.fronts.FoundFront.{FoundFront}
use Rattle.lv_transcript.specs.declared.fronts.FrontVerdict.{FrontVerdict}
use Rattle.lv_transcript.specs.declared.fronts.FrontVerdict.TheVariants.{Front}
use Rattle.livevec_c.specs.declared.objects.Object.{Object}
use Rattle.livevec_c.specs.declared.objects.Object.TheVariants.{Vector}
use Rattle.livevec_c.specs.declared.restores.Stopped.{Stopped}
use Rattle.livevec_c.specs.declared.transcript_audits.Audited.{Audited}
use Rattle.livevec_c.specs.Answers.{detail_of}
use Rattle.livevec_c.specs.Audits.{fronted_by, no_front, unaudited, unread_number}
use Rattle.livevec_c.specs.Behind.{State}
use Rattle.livevec_c.specs.Written.{accepted_before}

-- edits of a history, one after another: all are accepted and made; or they stop at the first that is refused, or because there is no memory
abbrev pub Remakes : List Edit → History → History → Result (Unit {0}) Refusal → Type 0
Remakes es old new (Ok _) = (verdict_of_edits old es ≡ None) × (new ≡ with_edits old es)
Remakes es old new (Err refusal) =
    (refusal ≡ NoMemory) ⊎ ((verdict_of_edits old es ≡ Some refusal) × (length new.journal ≡ length old.journal + accepted_before old es))

-- such edits, with how many edits the history has when one is refused
abbrev pub RemakesTold : List Edit → History → History → Result (Unit {0}) Stopped → Type 0
RemakesTold es old new (Ok _) = (verdict_of_edits old es ≡ None) × (new ≡ with_edits old es)
RemakesTold es old new (Err stopped) =
    (stopped.refusal ≡ NoMemory) ⊎ ((verdict_of_edits old es ≡ Some stopped.refusal) × (stopped.made ≡ length old.journal + accepted_before old es))

-- edits of a vector, whose summaries and claims stay
pub record RemakesState (es : List Edit) (result : Result (Unit {0}) Stopped) (old new : State) : Type 0 where
  pub edits : RemakesTold es old.history new.history result
  pub refresh : SameRefresh old new
  pub within : IsLegalInLimits new.history

-- edits of an object, which is to be a vector
abbrev pub RemakesObject : List Edit → Result (Unit {0}) Stopped → Object → Object → Type 0
RemakesObject es result (Vector old only) new = (state : State) × (new ≡ Vector state only) × RemakesState es result old state
RemakesObject es result other new = (result ≡ Err record { refusal = NoMemory; made = 0 }) × (new ≡ other)

-- an object goes into a slot that is empty, if its edits were made
abbrev pub IsPlaced : Result (Unit {0}) Stopped → Object → Option Object → Type 0
IsPlaced (Ok _) object slot = slot ≡ Some object
IsPlaced (Err _) object slot = slot ≡ None

abbrev pub PlacesRemade : List Edit → Object → Result (Unit {0}) Stopped → Option Object → Type 0
PlacesRemade es old result slot = (object : Object) × RemakesObject es result old object × IsPlaced result object slot

-- a vector of these limits and of the program's automaton, with these edits, no claims and nothing kept
pub record IsRemade (limits : Bounds) (edits : List Edit) (state : State) : Type 0 where
  pub table_is : table_of state.body.automaton ≡ program_table
  pub history : state.history ≡ record { limits = limits; journal = edits }
  pub within : IsLegalInLimits state.history
  pub unclaimed : (n : Node) → (recorded state).claimed n ≡ None
  pub nothing_kept : (n : Node) → (recorded state).kept n ≡ None

-- an object that is such a vector, of one kind or of all six
abbrev pub IsRemadeObject : Option Kind → Bounds → List Edit → Object → Type 0
IsRemadeObject only limits edits object = (state : State) × (object ≡ Vector state only) × IsRemade limits edits state

-- a history of these limits, with no edits
abbrev pub begun : Bounds → History
begun limits = record { limits = limits; journal = [] }

-- a slot that was empty holds a vector that is made anew; or it is empty, because the limits refuse an edit, and the answer says how many come
-- before it, or because there was no memory
abbrev pub RestoresEdits : Option Kind → Bounds → List Edit → Result (Unit {0}) Stopped → Option Object → Type 0
RestoresEdits only limits edits (Ok _) slot =
    (verdict_of_edits (begun limits) edits ≡ None) × ((object : Object) × (slot ≡ Some object) × IsRemadeObject only limits edits object)
RestoresEdits only limits edits (Err stopped) slot =
    (slot ≡ None)
    × ((stopped.refusal ≡ NoMemory) ⊎ ((verdict_of_edits (begun limits) edits ≡ Some stopped.refusal) × (stopped.made ≡ accepted_before (begun limits) edits)))

-- the answer to a restoration, by the verdict on its text and by what became of its edits
abbrev pub restored_by : FrontVerdict → Result (Unit {0}) Stopped → Audited
restored_by verdict (Ok _) = fronted_by verdict
restored_by verdict (Err stopped) = record { refusal = number_of stopped.refusal; detail = detail_of stopped.refusal; verdict = 0; line = 0; edits = stopped.made; answers = 0 }

-- a restoration from edits that were read, by the verdict on their text: if it is a prefix of a transcript, its edits are made anew; else the
-- answer names the first wrong line
abbrev pub RestoresFront : Option Kind → Bounds → List Edit → FrontVerdict → Audited → Option Object → Type 0
RestoresFront only limits journal (Front edits answers) answer slot =
    (r : Result (Unit {0}) Stopped) × (answer ≡ restored_by (Front edits answers) r) × RestoresEdits only limits journal r slot
RestoresFront only limits journal verdict answer slot = (answer ≡ no_front verdict) × (slot ≡ None)

-- a restoration from what was found of a text
abbrev pub RestoresFound : Option Kind → Bounds → Result FoundFront Unread → Audited → Option Object → Type 0
RestoresFound only limits (Ok found) answer slot = RestoresFront only limits found.edits.journal found.verdict answer slot
RestoresFound only limits (Err why) answer slot = (answer ≡ unaudited (unread_number why)) × (slot ≡ None)

-- a restoration from a text
abbrev pub RestoresAt : Option Kind → Bounds → List ℕ → Audited → Option Object → Type 0
RestoresAt only limits text answer slot = (r : Result FoundFront Unread) × FindsFront text r × RestoresFound only limits r answer slot

-- a restoration within limits that may not be allowed
abbrev pub RestoresIn : Option Kind → ℕ → ℕ → List ℕ → Audited → Option Object → Type 0
RestoresIn only buckets edits text answer slot =
    ((answer ≡ unaudited 8) × (¬ AreAllowed buckets edits) × (slot ≡ None))
    ⊎ (AreAllowed buckets edits × RestoresAt only (record { buckets = buckets; edits = edits }) text answer slot)

-- a restoration of a vector of one kind or of all six, if what is asked for names them
abbrev pub RestoresOf : Option (Option Kind) → ℕ → ℕ → List ℕ → Audited → Option Object → Type 0
RestoresOf None buckets edits text answer new = (answer ≡ unaudited 113) × (new ≡ None)
RestoresOf (Some only) buckets edits text answer new = RestoresIn only buckets edits text answer new

-- a restoration for a slot
abbrev pub Restores : Option (Option Kind) → ℕ → ℕ → List ℕ → Audited → Option Object → Option Object → Type 0
Restores only buckets edits text answer (Some object) new = (answer ≡ unaudited 104) × (new ≡ Some object)
Restores only buckets edits text answer None new = RestoresOf only buckets edits text answer new
