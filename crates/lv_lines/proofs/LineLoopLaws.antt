-- A run of the loop over lines, seen through a relation between its states and other values.
use Rattle.std.proofs.Common.{ℕ, ◌+◌, Option, Result, Ok, Err, List, [], ◌∷◌, refl, inl, inr}
use Rattle.lv_lines.specs.declared.fault.Fault.{Fault}
use Rattle.lv_lines.specs.declared.fault.Fault.TheVariants.{NoMemory, ReadFault, TooLong, WriteFault}
use Rattle.lv_lines.specs.Replies.{Answered, AnswersAll, AnswersFront, LinesServedWithin, Ends}

-- each line that leads from a state to another leads from a value that fits the one to a value that fits the other, by a step of its own
pub record Moves {S T : Type 0} (step : S → ℕ → List ℕ → List ℕ → S → Type 0) (next : T → ℕ → List ℕ → List ℕ → T → Type 0) (Fits : S → T → Type 0) : Type 0 where
  pub moves : (s : S) (t : T) (n : ℕ) (line text : List ℕ) (u : S) → Fits s t → step s n line text u → (v : T) × Fits u v × next t n line text v

module _ {S T : Type 0} {step : S → ℕ → List ℕ → List ℕ → S → Type 0} {next : T → ℕ → List ℕ → List ℕ → T → Type 0} (Fits : S → T → Type 0) (m : Moves step next Fits) where
  answered_as : (s : S) (t : T) (n : ℕ) (lines : List (List ℕ)) (text : List ℕ) (u : S) → Fits s t → Answered step s n lines text u → (v : T) × Fits u v × Answered next t n lines text v
  answered_as s t n [] text u fits a = (t, rw a.1 fits, (a.0, refl))
  answered_as s t n (line ∷ lines) text u fits a =
      let first = m.moves s t n line a.0 a.2 fits a.3 in
      let rest = answered_as a.2 first.0 (n + 1) lines a.1 u first.1 a.4 in
      (rest.0, rest.1, (a.0, a.1, first.0, first.2, rest.2, a.5))

  all_as : (s : S) (t : T) (lines : List (List ℕ)) (u : S) (k l : Option (List ℕ)) → Fits s t → AnswersAll step s lines u k l → (v : T) × Fits u v × AnswersAll next t lines v k l
  all_as s t lines u k l fits a =
      let came = answered_as s t 1 _ a.text u fits a.answered in
      (came.0, came.1, record { text = a.text; answered = came.2; written = a.written })

  front_as : (s : S) (t : T) (lines : List (List ℕ)) (u : S) (k l : Option (List ℕ)) → Fits s t → AnswersFront step s lines u k l → (v : T) × Fits u v × AnswersFront next t lines v k l
  front_as s t lines u k l fits a =
      let came = answered_as s t 1 a.front a.text u fits a.answered in
      (came.0, came.1, record { front = a.front; rest = a.rest; all = a.all; text = a.text; answered = came.2; written = a.written })

  ends_as : {R : Type 0} (most : ℕ) (s : S) (t : T) (u : S) (a b k l : Option (List ℕ)) (seen : List ℕ) (result : Result R Fault) → Fits s t → Ends step most s u a b k l seen result → (v : T) × Fits u v × Ends next most t v a b k l seen result
  ends_as most s t u a b k l seen (Ok x) fits e =
      let came = all_as s t _ u k l fits e.2 in (came.0, came.1, (e.0, e.1, came.2))
  ends_as most s t u a b k l seen (Err ReadFault) fits e =
      let came = all_as s t _ u k l fits e.1 in (came.0, came.1, (e.0, came.2))
  ends_as most s t u a b k l seen (Err TooLong) fits e =
      let came = all_as s t _ u k l fits e.1 in (came.0, came.1, (e.0, came.2))
  ends_as most s t u a b k l seen (Err WriteFault) fits (inl e) =
      let came = front_as s t _ u k l fits e in (came.0, came.1, inl came.2)
  ends_as most s t u a b k l seen (Err WriteFault) fits (inr e) =
      let came = front_as s t _ u k l fits e.2 in (came.0, came.1, inr (e.0, e.1, came.2))
  ends_as most s t u a b k l seen (Err NoMemory) fits e = (t, rw e.0 fits, (refl, e.1, e.2))

  -- the run on states is a run on values that fit them
  pub lines_served_as : {R : Type 0} {most : ℕ} (s : S) (t : T) (u : S) (a b k l : Option (List ℕ)) (result : Result R Fault) → Fits s t → LinesServedWithin step most s u a b k l result → (v : T) × Fits u v × LinesServedWithin next most t v a b k l result
  lines_served_as {most} s t u a b k l result fits c =
      let came = ends_as most s t u a b k l c.seen result fits c.ends in
      (came.0, came.1, record { seen = c.seen; read = c.read; few = c.few; ends = came.2 })
