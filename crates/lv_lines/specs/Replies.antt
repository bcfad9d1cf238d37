-- The meaning of answering lines in turn, and of serving all lines of an input.
use Rattle.std.specs.Prelude.{◌≡◌, ◌⊎◌, ℕ, ◌+◌, ◌^◌, ◌≤◌, List, [], ◌∷◌, ◌++◌, length, take, map, Option, Result, Ok, Err}
use Rattle.std.specs.Io.KnownBytes.{Appends, Consumes, IsAtEnd}
use Rattle.lv_lines.specs.declared.fault.Fault.{Fault}
use Rattle.lv_lines.specs.declared.fault.Fault.TheVariants.{NoMemory, ReadFault, TooLong, WriteFault}
use Rattle.lv_lines.specs.Input.{lines_of, whole_lines_of}
use Rattle.lv_lines.specs.Output.{WritesFront}

-- no more bytes of an input were seen than it may have
abbrev pub HasAtMost : ℕ → List ℕ → Type 0
HasAtMost most seen = length seen ≤ most

-- one byte more was seen than an input may have. Then no more are read
abbrev pub HasOneMore : ℕ → List ℕ → Type 0
HasOneMore most seen = length seen ≡ most + 1

-- how many bytes an input may have if no other bound is given
abbrev pub most_read : ℕ
most_read = 2 ^ 30

abbrev pub IsNotTooLong : List ℕ → Type 0
IsNotTooLong seen = HasAtMost most_read seen

abbrev pub IsTooLong : List ℕ → Type 0
IsTooLong seen = HasOneMore most_read seen

module _ {S : Type 0} (step : S → ℕ → List ℕ → List ℕ → S → Type 0) where
  -- from state old the lines, numbered from n, were answered in turn with this text, to state new
  abbrev pub Answered : S → ℕ → List (List ℕ) → List ℕ → S → Type 0
  Answered old n [] text new = (text ≡ []) × (new ≡ old)
  Answered old n (line ∷ lines) text new =
      (reply : List ℕ) × (rest : List ℕ) × (mid : S) × step old n line reply mid × Answered mid (n + 1) lines rest new × (text ≡ reply ++ rest)

  -- two parts of lines were answered with two parts of a text: the second from the state and the number that the first came to
  pub record AnsweredInParts (old : S) (n : ℕ) (xs ys : List (List ℕ)) (text : List ℕ) (new : S) : Type 0 where
    pub front : List ℕ
    pub rest : List ℕ
    pub mid : S
    pub first : Answered old n xs front mid
    pub second : Answered mid (n + length xs) ys rest new
    pub joined : text ≡ front ++ rest

  -- line n was answered in state old, which led to state new, and its reply was written as `written_so` says
  pub record Replies (old : S) (n : ℕ) (line : List ℕ) (new : S) (written_so : List ℕ → Type 0) : Type 0 where
    pub reply : List ℕ
    pub answered : step old n line reply new
    pub written : written_so reply

  -- no line was answered, and no more than a prefix of the buffered bytes was written; or line n was answered, which led to state new, and its reply
  -- was written in part
  abbrev pub FailsToReply : S → ℕ → List ℕ → S → (List ℕ → Type 0) → Type 0
  FailsToReply old n line new written_in_part = ((new ≡ old) × written_in_part []) ⊎ Replies old n line new written_in_part

  -- all lines were answered in turn from number 1, by the first 121 bytes of each, and all replies were written
  pub record AnswersAll (old : S) (lines : List (List ℕ)) (new : S) (old_contents new_contents : Option (List ℕ)) : Type 0 where
    pub text : List ℕ
    pub answered : Answered old 1 (map (take 121) lines) text new
    pub written : Appends old_contents new_contents text

  -- a prefix of the lines was answered in this way, which led to state new, and no more than a prefix of the replies was written
  pub record AnswersFront (old : S) (lines : List (List ℕ)) (new : S) (old_contents new_contents : Option (List ℕ)) : Type 0 where
    pub front : List (List ℕ)
    pub rest : List (List ℕ)
    pub all : map (take 121) lines ≡ front ++ rest
    pub text : List ℕ
    pub answered : Answered old 1 front text new
    pub written : WritesFront old_contents [] new_contents text

  -- how the serving ended, given the bytes that were seen. Ok: the input has ended. ReadFault: a read failed, and the input is not too long so far.
  -- TooLong: the input is too long. WriteFault: a write failed. NoMemory: the serving never began.
  -- No clause can say of ReadFault that the reader returned an error: all that `Read` promises about an error is that no byte is lost by it
  abbrev pub Ends : {T : Type 0} → ℕ → S → S → Option (List ℕ) → Option (List ℕ) → Option (List ℕ) → Option (List ℕ) → List ℕ → Result T Fault → Type 0
  Ends most old new remaining_old remaining_new contents_old contents_new seen (Ok _) =
      IsAtEnd remaining_new × HasAtMost most seen × AnswersAll old (lines_of seen) new contents_old contents_new
  Ends most old new remaining_old remaining_new contents_old contents_new seen (Err ReadFault) =
      HasAtMost most seen × AnswersAll old (whole_lines_of seen) new contents_old contents_new
  Ends most old new remaining_old remaining_new contents_old contents_new seen (Err TooLong) =
      HasOneMore most seen × AnswersAll old (whole_lines_of seen) new contents_old contents_new
  Ends most old new remaining_old remaining_new contents_old contents_new seen (Err WriteFault) =
      AnswersFront old (whole_lines_of seen) new contents_old contents_new
      ⊎ (IsAtEnd remaining_new × HasAtMost most seen × AnswersFront old (lines_of seen) new contents_old contents_new)
  Ends most old new remaining_old remaining_new contents_old contents_new seen (Err NoMemory) =
      (new ≡ old) × (remaining_new ≡ remaining_old) × (contents_new ≡ contents_old)

  -- at most `most + 1` bytes were read, and their lines were answered, from state old to state new, as `Ends` says
  pub record LinesServedWithin {T : Type 0} (most : ℕ) (old new : S) (remaining_old remaining_new contents_old contents_new : Option (List ℕ)) (result : Result T Fault) : Type 0 where
    pub seen : List ℕ
    pub read : Consumes remaining_old remaining_new seen
    pub few : length seen ≤ most + 1
    pub ends : Ends most old new remaining_old remaining_new contents_old contents_new seen result

  -- the lines of an input were served, which may have as many bytes as `most_read` says
  abbrev pub LinesServed : {T : Type 0} → S → S → Option (List ℕ) → Option (List ℕ) → Option (List ℕ) → Option (List ℕ) → Result T Fault → Type 0
  LinesServed old new remaining_old remaining_new contents_old contents_new result =
      LinesServedWithin most_read old new remaining_old remaining_new contents_old contents_new result
