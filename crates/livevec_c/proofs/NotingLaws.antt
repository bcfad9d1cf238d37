-- The answers and the notes of questions, one after another.
use Rattle.std.proofs.Common.{◌≡◌, ◌<◌, ◌≤◌, ◌+◌, ℕ, List, [], ◌∷◌, ◌++◌, append_assoc, length, length-append, take, take_all, drop, get_or, refl, ap, sym, subst, ◌∙◌, inl, inr, arith, true, true≢false}
use Rattle.std.proofs.lemmas.List.{length-take-le, take_more}
use Rattle.std.proofs.lemmas.Slice.{drop-append-drop}
use Rattle.std.proofs.Math.Seq.{take-append_seam}
use Rattle.lv_bodies.specs.declared.kinds.Shown.{Shown}
use Rattle.lv_series.specs.Samples.{SamplesState}
use Rattle.livevec_c.specs.declared.queries_notes.Note.{Note}
use Rattle.livevec_c.specs.declared.queries_notes.Noted.{Noted}
use Rattle.livevec_c.specs.declared.set_queries.SetQuery.{SetQuery}
use Rattle.lv_standing.specs.Queries.{is_due}
use Rattle.livevec_c.specs.Queried.{AreNotesOf, NotesInto, NotesOne, PutsNote, Tells, answers_of, note_of}
use Rattle.livevec_c.specs.Queries.{QueriesState}

-- a list up to an index, and the element at that index
next_of : {A : Type 0} (xs : List A) (i : ℕ) (x : A) → x ≡ get_or xs i x → i < length xs → take (i + 1) xs ≡ take i xs ++ x ∷ []
next_of xs i x is inside = take_more xs i x inside ∙ ap (λ y. take i xs ++ y ∷ []) (sym is)

module _ (s : SamplesState) where
  -- the notes of some questions and those of one more are the notes of all
  notes_more : (questions : List SetQuery) (told values : List Shown) (notes : List Note) (q : SetQuery) (before value : Shown) (more : List Note) → length told ≡ length questions → length values ≡ length questions
      → AreNotesOf s questions told values notes → AreNotesOf s (q ∷ []) (before ∷ []) (value ∷ []) more → AreNotesOf s (questions ++ q ∷ []) (told ++ before ∷ []) (values ++ value ∷ []) (notes ++ more)
  notes_more [] [] [] notes q before value more as_told as_values none one =
      subst (λ ns. AreNotesOf s (q ∷ []) (before ∷ []) (value ∷ []) (ns ++ more)) (sym none) one
  notes_more [] [] (v ∷ values) notes q before value more as_told as_values none one = absurd (omega (arith, as_values))
  notes_more [] (b ∷ told) values notes q before value more as_told as_values none one = absurd (omega (arith, as_told))
  notes_more (p ∷ questions) [] values notes q before value more as_told as_values none one = absurd (omega (arith, as_told))
  notes_more (p ∷ questions) (b ∷ told) [] notes q before value more as_told as_values none one = absurd (omega (arith, as_values))
  notes_more (p ∷ questions) (b ∷ told) (v ∷ values) notes q before value more as_told as_values (inl same) one =
      inl (same.0, notes_more questions told values notes q before value more (omega (arith, as_told)) (omega (arith, as_values)) same.1 one)
  notes_more (p ∷ questions) (b ∷ told) (v ∷ values) notes q before value more as_told as_values (inr note) one =
      inr (note.0, note.1 ++ more, ap (λ ns. ns ++ more) note.2, notes_more questions told values note.1 q before value more (omega (arith, as_told)) (omega (arith, as_values)) note.3 one)

  -- the notes of some values are one list
  pub notes_alone : (questions : List SetQuery) (told values : List Shown) (notes others : List Note) → AreNotesOf s questions told values notes → AreNotesOf s questions told values others → notes ≡ others
  notes_alone [] told values notes others a b = a ∙ sym b
  notes_alone (q ∷ questions) [] values notes others a b = a ∙ sym b
  notes_alone (q ∷ questions) (before ∷ told) [] notes others a b = a ∙ sym b
  notes_alone (q ∷ questions) (before ∷ told) (value ∷ values) notes others (inl a) (inl b) = notes_alone questions told values notes others a.1 b.1
  notes_alone (q ∷ questions) (before ∷ told) (value ∷ values) notes others (inl a) (inr b) = absurd (true≢false (sym b.0 ∙ a.0))
  notes_alone (q ∷ questions) (before ∷ told) (value ∷ values) notes others (inr a) (inl b) = absurd (true≢false (sym a.0 ∙ b.0))
  notes_alone (q ∷ questions) (before ∷ told) (value ∷ values) notes others (inr a) (inr b) =
      a.2 ∙ ap (λ ns. note_of s q value ∷ ns) (notes_alone questions told values a.1 b.1 a.3 b.3) ∙ sym b.2

  -- a note was put after so many others
  pub noted_one : (q : SetQuery) (told value : Shown) (count : ℕ) (before after : List Note) (note : Note) → is_due q.query.bound told value ≡ true → note ≡ note_of s q value → PutsNote note count before after → NotesOne s q told value count before (count + 1) after
  noted_one q told value count before after note other is puts = record {
    added = note ∷ [];
    are = inr (other, [], ap (λ n. n ∷ []) is, refl);
    count_is = refl;
    few = omega arith;
    places = puts.places;
    written = λ fits. puts.written (omega (arith, fits));
  }

  -- the questions up to an index were noted, and then the one at that index
  pub next_noted : (q : SetQuery) (before value : Shown) (questions : List SetQuery) (told values : List Shown) (old : List Note) (count counted : ℕ) (places next : List Note) (i : ℕ) → NotesOne s q before value count places counted next
      → length told ≡ length questions → length values ≡ length questions → i < length questions → q ≡ get_or questions i q → before ≡ get_or told i before → value ≡ get_or values i value
      → NotesInto s (take i questions) (take i told) (take i values) old count places → NotesInto s (take (i + 1) questions) (take (i + 1) told) (take (i + 1) values) old counted next
  next_noted q before value questions told values old count counted places next i one as_told as_values inside q_is before_is value_is so_far =
      let many_told : length (take i told) ≡ length (take i questions) = length-take-le i told (omega arith) ∙ sym (length-take-le i questions (omega arith)) in
      let many_values : length (take i values) ≡ length (take i questions) = length-take-le i values (omega arith) ∙ sym (length-take-le i questions (omega arith)) in
      let all = notes_more (take i questions) (take i told) (take i values) so_far.notes q before value one.added many_told many_values so_far.are one.are in
      let ns = so_far.notes in
      let total : length (ns ++ one.added) ≡ counted = length-append ns one.added ∙ omega (arith, one.count_is, so_far.count_is) in
      record {
        notes = ns ++ one.added;
        are = rw (next_of questions i q q_is inside, next_of told i before before_is (omega arith), next_of values i value value_is (omega arith)) all;
        count_is = sym total;
        few = omega (arith, total, one.count_is, one.few, so_far.count_is, so_far.few, length-take-le i questions (omega arith), length-take-le (i + 1) questions (omega arith));
        places = one.places ∙ so_far.places;
        written = λ room.
            let fits : counted ≤ length places = omega (arith, room, total, so_far.places) in
            let fitted : length ns ≤ length old = omega (arith, room, total, one.count_is, so_far.count_is) in
            let was : places ≡ ns ++ drop (length ns) old = so_far.written fitted in
            let front : take count places ≡ ns = ap (take count) was ∙ ap (λ k. take k (ns ++ drop (length ns) old)) so_far.count_is ∙ take-append_seam ns (drop (length ns) old) in
            let back : drop counted places ≡ drop counted old = ap (drop counted) was ∙ drop-append-drop (length ns) old ns counted (omega (arith, one.count_is, so_far.count_is)) refl in
            one.written fits
            ∙ ap (λ xs. xs ++ (one.added ++ drop counted places)) front
            ∙ ap (λ xs. ns ++ (one.added ++ xs)) back
            ∙ sym (append_assoc ns one.added (drop counted old))
            ∙ ap (λ k. (ns ++ one.added) ++ drop k old) (sym total);
      }

  -- none were noted yet
  pub none_noted : (questions : List SetQuery) (told values : List Shown) (old : List Note) → NotesInto s (take 0 questions) (take 0 told) (take 0 values) old 0 old
  none_noted questions told values old = record { notes = []; are = refl; count_is = refl; few = omega arith; places = refl; written = λ room. refl }

  -- all were noted
  pub all_noted : (questions : List SetQuery) (told values : List Shown) (old : List Note) (count : ℕ) (places : List Note) (i : ℕ) → length questions ≤ i → length told ≡ length questions → length values ≡ length questions
      → NotesInto s (take i questions) (take i told) (take i values) old count places → NotesInto s questions told values old count places
  all_noted questions told values old count places i end as_told as_values all =
      rw (take_all i questions (omega arith), take_all i told (omega arith), take_all i values (omega arith)) at all

-- the notes of the same questions and values
notes_as : (s : SamplesState) (questions asked : List SetQuery) (told before values now : List Shown) (notes : List Note) → questions ≡ asked → told ≡ before → values ≡ now
    → AreNotesOf s questions told values notes → AreNotesOf s asked before now notes
notes_as s questions asked told before values now notes questions_are told_are values_are are =
    subst (λ vs. AreNotesOf s asked before vs notes) values_are
    (subst (λ bs. AreNotesOf s asked bs values notes) told_are (subst (λ qs. AreNotesOf s qs told values notes) questions_are are))

module _ (old : QueriesState) (s : SamplesState) where
  -- what was counted fits, and was written
  pub tells_all : (t : SamplesState) → t ≡ s → (new : QueriesState) (questions : List SetQuery) (told values : List Shown) (none after places written : List Note) (count counted edit number : ℕ) (answer : Noted)
      → NotesInto t questions told values none count after → NotesInto t questions told values places counted written → questions ≡ old.questions → told ≡ old.told → values ≡ answers_of s old.questions
      → count ≤ length places → edit ≡ t.series.edits → number ≡ count → answer ≡ record { refusal = 0; detail = 0; edit = edit; count = number } → new.questions ≡ old.questions → new.told ≡ answers_of s old.questions
      → Tells old new s places written answer
  tells_all t is new questions told values none after places written count counted edit number answer counts writes questions_are told_are values_are room edit_is number_is answer_is same told_now =
      let first = subst (λ u. NotesInto u questions told values none count after) is counts in
      let second = subst (λ u. NotesInto u questions told values places counted written) is writes in
      let alike : length first.notes ≡ length second.notes = ap length (notes_alone s questions told values first.notes second.notes first.are second.are) in
      let fits : length second.notes ≤ length places = omega (arith, room, first.count_is, alike) in
      let many : number ≡ length second.notes = number_is ∙ first.count_is ∙ alike in (
        second.notes,
        notes_as s questions old.questions told old.told values (answers_of s old.questions) second.notes questions_are told_are values_are second.are,
        inl (record {
          answer_is = answer_is ∙ ap (λ e. record { refusal = 0; detail = 0; edit = e; count = number }) (edit_is ∙ ap (λ (u : SamplesState). u.series.edits) is) ∙ ap (λ n. record { refusal = 0; detail = 0; edit = s.series.edits; count = n }) many;
          room = fits;
          written = second.written fits;
          questions = same;
          told = told_now;
        }),
      )
