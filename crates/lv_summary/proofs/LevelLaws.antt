-- The rows of one level: what they say of a node, and what each change makes of them.
use Rattle.std.proofs.Common.{◌≡◌, ◌≢◌, ℕ, ◌+◌, ◌-◌, ◌*◌, ◌^◌, ◌<◌, ◌≤◌, if◌then◌else◌, Option, Some, None, option_map, List, length, replicate, get_or, set, nat_eq, nat_lt, slice_get, refl, sym, ap, ◌∙◌, inl, inr, arith}
use Rattle.std.proofs.lemmas.Bool.{cases_eq, cases_lt, cond-false, cond-true, eq-eqb, le-ltb, lt-ltb, ne_eqb}
use Rattle.std.proofs.lemmas.List.{get_or-append_right, get_or-replicate, get_or-set_other, get_or-set_same, get_or_append_left, get_or_past, length-append, length-replicate, length-set}
use Rattle.std.proofs.lemmas.List.Elements.{All-append, All-nil, All-replicate, All-set}
use Rattle.std.proofs.lemmas.Option.{slice_get-get_or, slice_get_past}
use Rattle.lv_geometry.proofs.NodeLaws.{covers_more}
use Rattle.lv_summary.specs.Inner.{IsLevel, filled, lengthened, with_kept, with_touch}
use Rattle.lv_summary.specs.Table.{Rows, no_rows}

-- the edit that the row of a number says, 0 if there is no such row
abbrev pub touched_at : {S : Type 0} → Rows S → ℕ → ℕ
touched_at rows k = get_or rows.touched k 0

-- the version and the summary that a row says, by its stamp
abbrev pub kept_by : {S : Type 0} → ℕ → Option S → Option (ℕ × S)
kept_by stamp s = if nat_lt 0 stamp then option_map (λ s. (stamp - 1, s)) s else None

-- the delivered version and the summary that the row of a number says
abbrev pub kept_at : {S : Type 0} → Rows S → ℕ → Option (ℕ × S)
kept_at rows k = kept_by (get_or rows.stamps k 0) (slice_get rows.kept k)

-- how long a list is that is made longer
pub length-lengthened : {A : Type 0} (xs : List A) (n : ℕ) (x : A) → length (lengthened xs n x) ≡ length xs + (n - length xs)
length-lengthened xs n x = length-append xs (replicate (n - length xs) x) ∙ ap (λ k. length xs + k) (length-replicate (n - length xs) x)

-- copies of what is read past their end read alike everywhere
pub get_or_copies : {A : Type 0} (n k : ℕ) (x : A) → get_or (replicate n x) k x ≡ x
get_or_copies n k x =
    elim (cases_lt k n) [
      | inl inside ↦ get_or-replicate n k x x inside
      | inr past ↦ get_or_past (replicate n x) k x (omega (arith, length-replicate n x))
    ]

-- a list that is made longer by what is read past its end reads as before
pub get_or-lengthened : {A : Type 0} (xs : List A) (n : ℕ) (x : A) (k : ℕ) → get_or (lengthened xs n x) k x ≡ get_or xs k x
get_or-lengthened xs n x k =
    elim (cases_lt k (length xs)) [
      | inl inside ↦ get_or_append_left xs (replicate (n - length xs) x) x k inside
      | inr past ↦ get_or-append_right xs (replicate (n - length xs) x) (length xs) k x refl past ∙ get_or_copies (n - length xs) (k - length xs) x ∙ sym (get_or_past xs k x past)
    ]

-- a list that is made longer has the elements that it had
slice_get-lengthened : {A : Type 0} (xs : List A) (n : ℕ) (x : A) (k : ℕ) → k < length xs → slice_get (lengthened xs n x) k ≡ slice_get xs k
slice_get-lengthened xs n x k inside =
    slice_get-get_or (lengthened xs n x) k x (omega (arith, length-lengthened xs n x))
    ∙ ap Some (get_or_append_left xs (replicate (n - length xs) x) x k inside)
    ∙ sym (slice_get-get_or xs k x inside)

-- an element that was put into a list is there
pub slice_get-set_same : {A : Type 0} (xs : List A) (k : ℕ) (x : A) → k < length xs → slice_get (set xs k x) k ≡ Some x
slice_get-set_same xs k x inside =
    slice_get-get_or (set xs k x) k x (omega (arith, length-set xs k x)) ∙ ap Some (get_or-set_same xs k x x inside)

-- an element that is put into a list leaves the others
pub slice_get-set_other : {A : Type 0} (xs : List A) (k j : ℕ) (x : A) → j ≢ k → slice_get (set xs k x) j ≡ slice_get xs j
slice_get-set_other xs k j x other =
    elim (cases_lt j (length xs)) [
      | inl inside ↦ slice_get-get_or (set xs k x) j x (omega (arith, length-set xs k x)) ∙ ap Some (get_or-set_other xs k j x x other) ∙ sym (slice_get-get_or xs j x inside)
      | inr past ↦ slice_get_past (set xs k x) j (omega (arith, length-set xs k x)) ∙ sym (slice_get_past xs j past)
    ]

-- nothing is kept if the stamp is 0
pub kept_by-none : {S : Type 0} (stamp : ℕ) (s : Option S) → stamp ≡ 0 → kept_by stamp s ≡ None
kept_by-none stamp s none = cond-false (nat_lt 0 stamp) _ _ (le-ltb 0 stamp (omega arith))

-- a summary is kept if the stamp is another
pub kept_by-some : {S : Type 0} (stamp : ℕ) (s : S) → 0 < stamp → kept_by stamp (Some s) ≡ Some (stamp - 1, s)
kept_by-some stamp s some = cond-true (nat_lt 0 stamp) _ _ (lt-ltb 0 stamp some)

-- rows that are added say nothing of an edit
pub touched_at-filled : {S : Type 0} (rows : Rows S) (n : ℕ) (blank : S) (k : ℕ) → touched_at (filled rows n blank) k ≡ touched_at rows k
touched_at-filled rows n blank k = get_or-lengthened rows.touched n 0 k

-- rows that are added keep nothing by one of their two stamps, and the others what they kept
kept_by-filled : {S : Type 0} (stamps : List ℕ) (summaries : List S) (n : ℕ) (blank : S) (k : ℕ) → length summaries ≡ length stamps → kept_by (get_or (lengthened stamps n 0) k 0) (slice_get (lengthened summaries n blank) k) ≡ kept_by (get_or stamps k 0) (slice_get summaries k)
kept_by-filled stamps summaries n blank k same =
    elim (cases_lt k (length summaries)) [
      | inl inside ↦ rw (get_or-lengthened stamps n 0 k, slice_get-lengthened summaries n blank k inside)
      | inr past ↦
          let none : get_or stamps k 0 ≡ 0 = get_or_past stamps k 0 (omega arith) in
          kept_by-none _ _ (get_or-lengthened stamps n 0 k ∙ none) ∙ sym (kept_by-none _ _ none)
    ]

-- rows that are added have nothing delivered
pub kept_at-filled : {S : Type 0} (rows : Rows S) (n : ℕ) (blank : S) (k : ℕ) → length rows.kept ≡ length rows.stamps → kept_at (filled rows n blank) k ≡ kept_at rows k
kept_at-filled rows n blank k same = kept_by-filled rows.stamps rows.kept n blank k same

-- a touch changes the row of its number
pub touched_at-with_touch : {S : Type 0} (rows : Rows S) (number edit k : ℕ) → number < length rows.touched → touched_at (with_touch rows number edit) k ≡ if nat_eq number k then edit else touched_at rows k
touched_at-with_touch rows number edit k inside =
    elim (cases_eq k number) [
      | inl same ↦ rw same (get_or-set_same rows.touched number edit 0 inside ∙ sym (cond-true _ _ _ (eq-eqb number number refl)))
      | inr other ↦ get_or-set_other rows.touched number k edit 0 other ∙ sym (cond-false _ _ _ (ne_eqb number k (λ same. other (sym same))))
    ]

-- a stamp and a summary that are put into a row are what it says from then on
kept_by-put : {S : Type 0} (stamps : List ℕ) (summaries : List S) (number version : ℕ) (s : S) (k : ℕ) → number < length stamps → number < length summaries → kept_by (get_or (set stamps number (version + 1)) k 0) (slice_get (set summaries number s) k) ≡ if nat_eq k number then Some (version, s) else kept_by (get_or stamps k 0) (slice_get summaries k)
kept_by-put stamps summaries number version s k inside there =
    elim (cases_eq k number) [
      | inl same ↦
          let version_back : version + 1 - 1 ≡ version = omega arith in
          rw same (
          ap (λ stamp. kept_by stamp (slice_get (set summaries number s) number)) (get_or-set_same stamps number (version + 1) 0 inside)
          ∙ ap (kept_by (version + 1)) (slice_get-set_same summaries number s there)
          ∙ kept_by-some (version + 1) s (omega arith)
          ∙ ap (λ v. Some (v, s)) version_back
          ∙ sym (cond-true _ _ _ (eq-eqb number number refl)))
      | inr other ↦
          ap (λ stamp. kept_by stamp (slice_get (set summaries number s) k)) (get_or-set_other stamps number k (version + 1) 0 other)
          ∙ ap (kept_by (get_or stamps k 0)) (slice_get-set_other summaries number k s other)
          ∙ sym (cond-false _ _ _ (ne_eqb k number other))
    ]

-- a summary that is kept changes the row of its number
pub kept_at-with_kept : {S : Type 0} (rows : Rows S) (number version : ℕ) (s : S) (k : ℕ) → number < length rows.stamps → number < length rows.kept → kept_at (with_kept rows number version s) k ≡ if nat_eq k number then Some (version, s) else kept_at rows k
kept_at-with_kept rows number version s k stamps kept = kept_by-put rows.stamps rows.kept number version s k stamps kept

-- a level with no rows serves no block
pub IsLevel-empty : {S : Type 0} (level : ℕ) → IsLevel 0 level (no_rows {S = S})
IsLevel-empty level = record { stamps = refl; kept = refl; covers = omega arith; edits = All-nil (λ edit. edit ≤ 16777215) }

-- a touch by an edit that is possible keeps a level as it must be
pub IsLevel-with_touch : {S : Type 0} (blocks level : ℕ) (rows : Rows S) (number edit : ℕ) → edit ≤ 16777215 → IsLevel blocks level rows → IsLevel blocks level (with_touch rows number edit)
IsLevel-with_touch blocks level rows number edit possible h =
    let long = length-set rows.touched number edit in
    record {
      stamps = h.stamps ∙ sym long;
      kept = h.kept ∙ sym long;
      covers = rw long h.covers;
      edits = All-set (λ edit. edit ≤ 16777215) rows.touched number edit possible h.edits;
    }

-- a summary that is kept keeps a level as it must be
pub IsLevel-with_kept : {S : Type 0} (blocks level : ℕ) (rows : Rows S) (number version : ℕ) (s : S) → IsLevel blocks level rows → IsLevel blocks level (with_kept rows number version s)
IsLevel-with_kept blocks level rows number version s h =
    record {
      stamps = length-set rows.stamps number (version + 1) ∙ h.stamps;
      kept = length-set rows.kept number s ∙ h.kept;
      covers = h.covers;
      edits = h.edits;
    }

-- rows that are added serve more blocks, if they are enough
pub IsLevel-filled : {S : Type 0} (blocks more level : ℕ) (rows : Rows S) (n : ℕ) (blank : S) → 8 * more ≤ n * 8 ^ level → IsLevel blocks level rows → IsLevel (blocks + (more - blocks)) level (filled rows n blank)
IsLevel-filled blocks more level rows n blank enough h =
    let long = length-lengthened rows.touched n 0 in
    record {
      stamps = length-lengthened rows.stamps n 0 ∙ ap (λ k. k + (n - k)) h.stamps ∙ sym long;
      kept = length-lengthened rows.kept n blank ∙ ap (λ k. k + (n - k)) h.kept ∙ sym long;
      covers = rw long (covers_more (length rows.touched) blocks more n (8 ^ level) enough h.covers);
      edits = All-append (λ edit. edit ≤ 16777215) rows.touched _ h.edits (All-replicate (λ edit. edit ≤ 16777215) _ 0 (omega arith));
    }
