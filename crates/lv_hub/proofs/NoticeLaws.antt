-- The lines of a notification, one after the other.
use Rattle.std.proofs.Common.{◌≡◌, ℕ, true, false, ◌+◌, ◌<◌, Option, List, [], ◌∷◌, ◌++◌, length, get_or, take, drop, sym, ap, ◌∙◌, refl, subst, append-nil}
use Rattle.std.proofs.KnownBytes.{Appends-nil, Appends-trans}
use Rattle.std.specs.Io.KnownBytes.{Appends}
use Rattle.std.proofs.lemmas.List.{take_more, take-append-drop}
use Rattle.std.proofs.lemmas.List.Concat.{flat_map-append}
use Rattle.lv_lines.specs.Output.{Writes, WritesFront}
use Rattle.lv_lines.specs.Texts.{named_text}
use Rattle.lv_lines.proofs.OutputLemmas.{Writes-all, Writes-sent, Writes-trans, WritesFront-after, WritesFront-longer}
use Rattle.lv_standing.specs.declared.notes.Note.{Note}
use Rattle.lv_transcript.specs.declared.log_heading.LogHeading.{LogHeading}
use Rattle.lv_hub.specs.declared.told.Told.{Told}
use Rattle.lv_hub.specs.Noticing.{NoticesState, WritesMore, WroteOrPart, notes_at, told_text}
use Rattle.lv_history.specs.Numbering.{told_number}

-- the lines of the notes so far, followed by that of the next
notes_more : (edit : ℕ) (notes : List Note) (i : ℕ) (d note : Note) → i < length notes → note ≡ get_or notes i d → notes_at edit (take (i + 1) notes) ≡ notes_at edit (take i notes) ++ named_text edit note.name note.value
notes_more edit notes i d note within is =
    ap (notes_at edit) (take_more notes i d within ∙ ap (λ n. take i notes ++ n ∷ []) (sym is))
    ∙ flat_map-append (λ note. named_text edit note.name note.value) (take i notes) (note ∷ [])
    ∙ ap (λ text. notes_at edit (take i notes) ++ text) (append-nil (named_text edit note.name note.value))

-- and by those of the rest
notes_rest : (edit : ℕ) (notes : List Note) (i : ℕ) → notes_at edit notes ≡ notes_at edit (take i notes) ++ notes_at edit (drop i notes)
notes_rest edit notes i = ap (notes_at edit) (sym (take-append-drop i notes)) ∙ flat_map-append (λ note. named_text edit note.name note.value) (take i notes) (drop i notes)

module _ (edit : ℕ) (notes : List Note) {a b c : Option (List ℕ)} {h k : List ℕ} (i : ℕ) (so_far : Writes a h b k (notes_at edit (take i notes))) where
  -- after the lines so far the next is put
  pub Writes-note : (d note : Note) {l : List ℕ} → i < length notes → note ≡ get_or notes i d → Writes b k c l (named_text edit note.name note.value) → Writes a h c l (notes_at edit (take (i + 1) notes))
  Writes-note d note within is next = rw (notes_more edit notes i d note within is) (Writes-trans so_far next)

  -- no more than a prefix of the lines so far and of what was buffered is sent
  pub WritesFront-notes : WritesFront b k c [] → WritesFront a h c (notes_at edit notes)
  WritesFront-notes unsent =
      rw (notes_rest edit notes i)
      (WritesFront-longer (notes_at edit (drop i notes)) (rw (append-nil (notes_at edit (take i notes))) at (WritesFront-after so_far unsent)))

module _ {a b c : Option (List ℕ)} {h k t : List ℕ} (put : Writes a h b k t) where
  -- what was put was sent
  pub sent_all : {l : List ℕ} → (l ≡ []) × Appends b c k → (l ≡ []) × Writes a h c l t
  sent_all {l} sent = (sent.0, rw (append-nil t) at (Writes-trans put (Writes-sent b c k l sent)))

  -- no more than a prefix of what was put was sent
  pub sent_front : WritesFront b k c [] → WritesFront a h c t
  sent_front unsent = rw (append-nil t) at (WritesFront-after put unsent)

module _ {a b : Option (List ℕ)} {h : List ℕ} (numbers : LogHeading) (told : Told) (edit : ℕ) (is : edit ≡ told_number numbers told.edit) where
  -- notes at this number are the lines of the notification
  pub told_writes : {k : List ℕ} → Writes a h b k (notes_at edit told.notes.items) → Writes a h b k (told_text numbers told)
  told_writes {k} put = subst (λ n. Writes a h b k (notes_at n told.notes.items)) is put

  pub told_front : WritesFront a h b (notes_at edit told.notes.items) → WritesFront a h b (told_text numbers told)
  told_front front = subst (λ n. WritesFront a h b (notes_at n told.notes.items)) is front

module _ (text : List ℕ) (old : NoticesState) where
  -- a write had failed before
  pub wrote_nothing : old.failed ≡ true → WritesMore text old old
  wrote_nothing failed = λ start before was.
      subst (λ f. WroteOrPart f start old.contents (before ++ text)) (sym failed) (WritesFront-longer text (subst (λ f. WroteOrPart f start old.contents before) failed was))

  -- all was written
  pub wrote_more : (contents : Option (List ℕ)) (held : List ℕ) → old.failed ≡ false → (held ≡ []) × Writes old.contents [] contents held text → WritesMore text old (record { contents = contents; failed = old.failed })
  wrote_more contents held well put = λ start before was.
      let all : Appends old.contents contents text = Writes-all old.contents contents text (subst (λ h. Writes old.contents [] contents h text) put.0 put.1) in
      subst (λ f. WroteOrPart f start contents (before ++ text)) (sym well) (Appends-trans start old.contents contents before text (subst (λ f. WroteOrPart f start old.contents before) well was) all)

  -- no more than a prefix of the text was written
  pub wrote_part : (contents : Option (List ℕ)) → old.failed ≡ false → WritesFront old.contents [] contents text → WritesMore text old (record { contents = contents; failed = true })
  wrote_part contents well front = λ start before was.
      let first : Writes start [] old.contents [] before = record { sent = before; appended = subst (λ f. WroteOrPart f start old.contents before) well was; all = sym (append-nil before) } in
      WritesFront-after first front

  -- nothing was written, which counts as a failed write
  pub gave_up : old.failed ≡ false → WritesMore text old (record old { failed = true })
  gave_up well = wrote_part old.contents well record { unsent = text; written = record { sent = []; appended = Appends-nil old.contents; all = refl } }
