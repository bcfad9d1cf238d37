-- Values that are put one after another, and what pushes of them make of a store.
use Rattle.std.proofs.Common.{◌≡◌, ℕ, ℤ, ◌+◌, ◌/◌, ◌<◌, ◌≤◌, Some, None, List, [], ◌∷◌, ◌++◌, length, slice_set, refl, sym, ap, ◌∙◌, arith}
use Rattle.std.specs.Prelude.{All}
use Rattle.std.proofs.lemmas.List.{append-nil, append_assoc, length-set}
use Rattle.std.proofs.lemmas.List.Elements.{All-head, All-tail, All-weaker}
use Rattle.lv_geometry.specs.Cells.{capacity_of}
use Rattle.lv_geometry.specs.Elements.{IsElement}
use Rattle.lv_store.specs.Announced.{Announcements, Shows, pushes_at}
use Rattle.lv_store.specs.Directory.{with_run}
use Rattle.lv_store.specs.Inner.{IsStore}
use Rattle.lv_store.specs.State.{StoreState, announced, elements_of, pushed, pushed_all, settled, with_versions, writes_of}
use Rattle.lv_store.proofs.ElementsLaws.{elements-pushed, elements_alike, settled_alike}
use Rattle.lv_store.proofs.ShowsLaws.{IsStore-completed, Shows-announced, Shows-completed}

-- values that are put leave as many places
pub length-with_run : {T : Type 0} (cells : List T) (i : ℕ) (xs : List T) → length (with_run cells i xs) ≡ length cells
length-with_run cells i [] = refl
length-with_run cells i (x ∷ xs) = length-with_run (slice_set cells i x) (i + 1) xs ∙ length-set cells i x

-- and one more is put behind them
pub with_run-push : {T : Type 0} (cells : List T) (i : ℕ) (xs : List T) (x : T) → with_run cells i (xs ++ x ∷ []) ≡ slice_set (with_run cells i xs) (i + length xs) x
with_run-push cells i [] x =
    let same : i ≡ i + 0 = omega arith in
    ap (λ j. slice_set cells j x) same
with_run-push cells i (y ∷ xs) x =
    let same : i + 1 + length xs ≡ i + length (y ∷ xs) = omega arith in
    with_run-push (slice_set cells i y) (i + 1) xs x ∙ ap (λ j. slice_set (with_run (slice_set cells i y) (i + 1) xs) j x) same

-- pushes keep the number of versions
pub length-with_versions : (versions : List ℕ) (i edit : ℕ) (xs : List ℤ) → length (with_versions versions i edit xs) ≡ length versions
length-with_versions versions i edit [] = refl
length-with_versions versions i edit (x ∷ xs) =
    length-with_versions (slice_set versions (i / 8) (edit + 1)) (i + 1) (edit + 1) xs ∙ length-set versions (i / 8) (edit + 1)

pub with_versions-push : (versions : List ℕ) (i edit : ℕ) (xs : List ℤ) (x : ℤ) → with_versions versions i edit (xs ++ x ∷ []) ≡ slice_set (with_versions versions i edit xs) ((i + length xs) / 8) (edit + length xs + 1)
with_versions-push versions i edit [] x =
    let place : i ≡ i + 0 = omega arith in
    let number : edit + 1 ≡ edit + 0 + 1 = omega arith in
    ap (λ j. slice_set versions (j / 8) (edit + 1)) place ∙ ap (slice_set versions ((i + 0) / 8)) number
with_versions-push versions i edit (y ∷ xs) x =
    let before = with_versions (slice_set versions (i / 8) (edit + 1)) (i + 1) (edit + 1) xs in
    let place : i + 1 + length xs ≡ i + length (y ∷ xs) = omega arith in
    let number : edit + 1 + length xs + 1 ≡ edit + length (y ∷ xs) + 1 = omega arith in
    with_versions-push (slice_set versions (i / 8) (edit + 1)) (i + 1) (edit + 1) xs x
    ∙ ap (λ j. slice_set before (j / 8) (edit + 1 + length xs + 1)) place
    ∙ ap (slice_set before ((i + length (y ∷ xs)) / 8)) number

-- a store after pushes, field by field
abbrev pub with_all : StoreState → List ℤ → StoreState
with_all s xs =
    record s {
      descriptor = record { edit = s.descriptor.edit + length xs; size = s.descriptor.size + length xs; pending = None };
      values = with_run s.values s.descriptor.size xs;
      versions = with_versions s.versions s.descriptor.size s.descriptor.edit xs;
    }

-- two stores are equal if all their fields are
same_store : (s t : StoreState) → t.limits ≡ s.limits → t.descriptor.edit ≡ s.descriptor.edit → t.descriptor.size ≡ s.descriptor.size → t.descriptor.pending ≡ s.descriptor.pending → t.buckets ≡ s.buckets → t.values ≡ s.values → t.versions ≡ s.versions → t ≡ s
same_store s t limits edit size pending buckets values versions = rw (limits, edit, size, pending, buckets, values, versions) refl

pub pushed_all_is : (s : StoreState) (xs : List ℤ) → s.descriptor.pending ≡ None → pushed_all s xs ≡ with_all s xs
pushed_all_is s [] settled =
    sym (same_store s (with_all s []) refl (omega arith) (omega arith) (sym settled) refl refl refl)
pushed_all_is s (x ∷ xs) settled =
    pushed_all_is (pushed s x) xs refl
    ∙ same_store (with_all s (x ∷ xs)) (with_all (pushed s x) xs) refl (omega arith) (omega arith) refl refl refl refl

-- what a store has after one push that it has room for
pub record Pushed (s t : StoreState) (x : ℤ) : Type 0 where
  pub sound : IsStore t
  pub shows : (all : Announcements) → Shows s all → Shows t (all ++ writes_of (Some (s.descriptor.size, x)) None ∷ [])
  pub elements : elements_of t ≡ elements_of s ++ x ∷ []

-- what is no later than an edit is no later than the next
no_later : (v edit : ℕ) → v ≤ edit → v ≤ edit + 1
no_later v edit at = omega (arith, at)

pub pushed_is : (s : StoreState) (x : ℤ) → IsStore s → s.descriptor.pending ≡ None → s.descriptor.edit < s.limits.edits → s.descriptor.size < capacity_of s.buckets → IsElement x → Pushed s (pushed s x) x
pushed_is s x sound settled left room fits =
    let mid = announced s (Some (s.descriptor.size, x)) None (s.descriptor.size + 1) in
    let sound_mid : IsStore mid = record {
      allowed = sound.allowed;
      few = sound.few;
      values = sound.values;
      versions = sound.versions;
      elements = sound.elements;
      past = All-weaker (λ v. v ≤ s.descriptor.edit) (λ v. v ≤ s.descriptor.edit + 1) (λ v at. no_later v s.descriptor.edit at) s.versions sound.past;
      edits = omega (arith, left);
      size = omega (arith, room);
      pending = ((room, fits), tt);
    } in
    record {
      sound = IsStore-completed mid mid.descriptor.pending refl sound_mid;
      shows = λ all shown. Shows-completed mid mid.descriptor.pending refl sound_mid _ (Shows-announced s (Some (s.descriptor.size, x)) None (s.descriptor.size + 1) settled all shown);
      elements = elements_alike mid (pushed s x) (settled_alike mid sound_mid).0 ∙ elements-pushed s x settled;
    }

-- and after many
pub record PushedAll (s t : StoreState) (xs : List ℤ) : Type 0 where
  pub sound : IsStore t
  pub shows : (all : Announcements) → Shows s all → Shows t (all ++ pushes_at s.descriptor.size xs)
  pub elements : elements_of t ≡ elements_of s ++ xs

pub pushed_all_has : (s : StoreState) (xs : List ℤ) → IsStore s → s.descriptor.pending ≡ None → s.descriptor.edit + length xs ≤ s.limits.edits → s.descriptor.size + length xs ≤ capacity_of s.buckets → All IsElement xs → PushedAll s (pushed_all s xs) xs
pushed_all_has s [] sound settled left room fits =
    record { sound = sound; shows = λ all shown. rw append-nil shown; elements = sym (append-nil (elements_of s)) }
pushed_all_has s (x ∷ xs) sound settled left room fits =
    let one = pushed_is s x sound settled (omega (arith, left)) (omega (arith, room)) (All-head IsElement x xs fits) in
    let rest = pushed_all_has (pushed s x) xs one.sound refl (omega (arith, left)) (omega (arith, room)) (All-tail IsElement x xs fits) in
    record {
      sound = rest.sound;
      shows = λ all shown. rw append_assoc at (rest.shows _ (one.shows all shown));
      elements = rest.elements ∙ ap (λ ys. ys ++ xs) one.elements ∙ append_assoc (elements_of s) (x ∷ []) xs;
    }
