-- The notes that are due are those of the queries, one by one.
use Rattle.std.proofs.Common.{◌≡◌, List, [], ◌∷◌, ◌++◌, map, flat_map, sym, ap, ap₂, ◌∙◌, subst, inl, inr}
use Rattle.std.proofs.lemmas.Bool.{cond-false, cond-true}
use Rattle.lv_bodies.specs.declared.kinds.Shown.{Shown}
use Rattle.lv_lines.specs.Texts.{note_text}
use Rattle.lv_script.specs.Script.{notes_text}
use Rattle.lv_series.specs.Series.{Held}
use Rattle.lv_standing.specs.QuerySets.{QuerySetState, with_answers}
use Rattle.lv_standing.specs.declared.notes.Note.{Note}
use Rattle.lv_standing.specs.declared.queries.Query.{Query}
use Rattle.lv_script.specs.Inside.{AreNotesDue}
use Rattle.lv_standing.specs.Queries.{AddsNotesOf, AreNotesOf, is_due}
use Rattle.lv_script.specs.PlainScript.{note_of}
use Rattle.lv_script.specs.PlainSeriesScript.{long_answer}

-- those that a set puts after none, if its queries were answered by what is kept now
pub notes_due : (h : Held) (set asked : QuerySetState Query) (before after : List Note) → asked ≡ with_answers set (map (long_answer h) set.queries) → before ≡ []
    → AddsNotesOf asked.queries asked.told asked.answers before after → AreNotesDue h set.queries set.told after
notes_due h set asked before after are none due =
    subst (AreNotesDue h set.queries set.told) (sym (due.all ∙ ap (λ notes. notes ++ due.added) none))
    (subst (λ t. AreNotesOf t.queries t.told t.answers due.added) are due.are)

-- if the queries answered so before and answer so now, their text is that of each, one by one
pub notes_text_of : (before now : Query → Shown) (qs : List Query) (notes : List Note) → AreNotesOf qs (map before qs) (map now qs) notes → notes_text notes ≡ flat_map (λ q. note_of q (before q) (now q)) qs
notes_text_of before now [] notes none = ap notes_text none
notes_text_of before now (q ∷ qs) notes (inl idle) =
    notes_text_of before now qs notes idle.1 ∙ ap (λ text. text ++ flat_map (λ q. note_of q (before q) (now q)) qs) (sym (cond-false (is_due q.bound (before q) (now q)) (note_text q.name (now q)) [] idle.0))
notes_text_of before now (q ∷ qs) notes (inr due) =
    ap notes_text due.2
    ∙ ap₂ ◌++◌ (sym (cond-true (is_due q.bound (before q) (now q)) (note_text q.name (now q)) [] due.0)) (notes_text_of before now qs due.1 due.3)
