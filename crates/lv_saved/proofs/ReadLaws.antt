-- That the numbers of what is saved, read back, are what it says.
use Rattle.std.proofs.Common.{◌≡◌, ℕ, ℤ, pos, ◌+◌, ◌*◌, ◌<◌, Bool, true, false, Option, Some, None, List, [], ◌∷◌, ◌++◌, length, get_or, refl, sym, ap, ◌∙◌, subst, arith, inl, inr}
use Rattle.std.specs.Prelude.{◌↔◌, All, IfSome, IsTrue, is_some, unwrap_or, if◌then◌else◌}
use Rattle.std.specs.Int.{w64, cast_signed, cast_unsigned}
use Rattle.std.proofs.lemmas.Bool.{cases_lt, false≢true}
use Rattle.std.proofs.lemmas.Int.{to_z-of_z}
use Rattle.std.proofs.lemmas.List.{get_or_append_left, get_or_default, get_or_push, length_push, same_lists}
use Rattle.lv_geometry.specs.Elements.{IsElement}
use Rattle.lv_bodies.specs.Automata.{table_of}
use Rattle.lv_series.specs.Samples.{IsRising}
use Rattle.lv_saved.specs.Fronts.{IsFrontOf}
use Rattle.lv_saved.specs.Readings.{AreElementsAt, IsReading}
use Rattle.lv_saved.specs.Saved.{IsSaved, Saved, bytes_of, first_number, form_of, head_by, head_of, numbers_by, numbers_of}
use Rattle.lv_saved.specs.declared.fronts.Front.{Front}
use Rattle.lv_saved.specs.declared.reading.Reading.{Reading}
use Rattle.lv_saved.proofs.NumberLaws.{length_numbers, of_elements, of_times}
use Rattle.lv_saved.proofs.PieceLaws.{length_sealed}
use Rattle.lv_saved.proofs.ShortLaws.{numbers_short, times_fit}
use Rattle.lv_shards.specs.Bytes.{number_in, sealed_by, spelled, states_at}
use Rattle.lv_shards.specs.SpelledLaws.{number_in_sealed}
use Rattle.lv_shards.specs.Summaries.{leads_of}

-- how many bytes there are
pub length_bytes : (s : Saved) → length (bytes_of s) ≡ 88 + 8 * length s.elements + 8 * length (unwrap_or s.times [])
length_bytes s = length_sealed (numbers_of s) ∙ omega (arith, length_numbers (head_of s) s.elements (unwrap_or s.times []))

-- a number that is read from the bytes is the one that was saved
pub read_at : (s : Saved) (bytes : List ℕ) (j : ℕ) → IsSaved s → bytes_of s ≡ bytes → j < 10 + length s.elements + length (unwrap_or s.times []) → number_in bytes j ≡ get_or (numbers_of s) j 0
read_at s bytes j h is below =
    ap (λ b. number_in b j) (sym is)
    ∙ number_in_sealed (numbers_of s) j (omega (arith, below, length_numbers (head_of s) s.elements (unwrap_or s.times []))) (numbers_short s h)

-- elements that are read from a place where those of a list were written
pub elements_are : (bytes : List ℕ) (from count : ℕ) (read xs : List ℤ) → AreElementsAt bytes from count read → count ≡ length xs → ((k : ℕ) → k < length xs → number_in bytes (from + k) ≡ cast_unsigned w64 (get_or xs k (pos 0))) → All IsElement xs → read ≡ xs
elements_are bytes from count read xs are many written all =
    same_lists read xs (are.many ∙ many) (λ k d below.
    let inside : k < length xs = omega (arith, below, are.many, many) in
    get_or_default read k d (pos 0) below
    ∙ are.each k (omega (arith, inside, many))
    ∙ ap (cast_signed w64) (written k inside)
    ∙ to_z-of_z w64 (get_or xs k (pos 0)) (all k (pos 0) inside)
    ∙ get_or_default xs k (pos 0) d inside)

-- the elements of what was saved, and its times
pub elements_back : (s : Saved) (bytes : List ℕ) (count : ℕ) (read : List ℤ) → IsSaved s → bytes_of s ≡ bytes → AreElementsAt bytes 10 count read → count ≡ length s.elements → read ≡ s.elements
elements_back s bytes count read h is are many =
    elements_are bytes 10 count read s.elements are many (λ k below.
    read_at s bytes (10 + k) h is (omega (arith, below)) ∙ of_elements (head_of s) s.elements (unwrap_or s.times []) (10 + k) k refl below) h.elements

pub times_back : (s : Saved) (bytes : List ℕ) (from count : ℕ) (read : List ℤ) → IsSaved s → bytes_of s ≡ bytes → AreElementsAt bytes from count read → from ≡ 10 + length s.elements → count ≡ length (unwrap_or s.times []) → read ≡ unwrap_or s.times []
times_back s bytes from count read h is are at many =
    elements_are bytes from count read (unwrap_or s.times []) are many (λ k below.
    read_at s bytes (from + k) h is (omega (arith, below, at)) ∙ of_times (head_of s) s.elements (unwrap_or s.times []) (from + k) k (omega (arith, at)) below) (times_fit s.times h.times)

-- a head by what a table leads to
abbrev head_from : List (List ℕ) → ℕ → ℕ → ℕ → ℕ → List ℕ
head_from leads form first edits count = first_number ∷ 1 ∷ form ∷ first ∷ edits ∷ count ∷ states_at leads 0 ∷ states_at leads 1 ∷ states_at leads 2 ∷ states_at leads 3 ∷ []

-- heads by equal parts
same_heads : (table other : List (List ℕ)) (form form' first first' edits edits' count count' : ℕ) → leads_of table ≡ leads_of other → form ≡ form' → first ≡ first' → edits ≡ edits' → count ≡ count'
    → head_by table form first edits count ≡ head_by other form' first' edits' count'
same_heads table other form form' first first' edits edits' count count' leads p q r s =
    ap (λ l. head_from l form first edits count) leads ∙ ap (λ n. head_by other n first edits count) p ∙ ap (λ n. head_by other form' n edits count) q
    ∙ ap (λ n. head_by other form' first' n count) r ∙ ap (λ n. head_by other form' first' edits' n) s

-- what was read from the bytes of what was saved is exact
pub exact_back : (s : Saved) (bytes : List ℕ) (timed : Bool) (r : Reading) → IsSaved s → is_some s.times ≡ timed → bytes_of s ≡ bytes → IsFrontOf s r.front
    → AreElementsAt bytes 10 r.front.elements r.elements.items → AreElementsAt bytes (10 + r.front.elements) r.front.times r.times.items → IsReading bytes timed r
exact_back s bytes timed r h form is front elements times =
    let xs = elements_back s bytes r.front.elements r.elements.items h is elements front.elements in
    let ts = times_back s bytes (10 + r.front.elements) r.front.times r.times.items h is times (omega (arith, front.elements)) front.times in
    let heads = same_heads (table_of r.front.automaton) s.table (if timed then 2 else 1) (form_of s) r.front.first s.first r.front.edits s.edits r.front.elements (length s.elements)
    front.leads (ap (λ t. if t then 2 else 1) (sym form)) front.first front.edits front.elements in
    sym is
    ∙ sym (
    ap (λ l. sealed_by (spelled (numbers_by l r.elements.items r.times.items))) heads
    ∙ ap (λ l. sealed_by (spelled (numbers_by (head_of s) l r.times.items))) xs
    ∙ ap (λ l. sealed_by (spelled (numbers_by (head_of s) s.elements l))) ts
    )

-- how many times there are
times_many : (times : Option (List ℤ)) (timed : Bool) (n m : ℕ) → is_some times ≡ timed → IfSome times (λ xs. length xs ≡ n) → m ≡ n → (if timed then m else 0) ≡ length (unwrap_or times [])
times_many None true n m e p q = absurd (cc)
times_many None false n m e p q = refl
times_many (Some xs) true n m e p q = q ∙ sym p
times_many (Some xs) false n m e p q = absurd (cc)

-- what bytes say before the elements, if they are those of what was saved
pub record AreFront (s : Saved) (bytes : List ℕ) (numbers count stamps : ℕ) : Type 0 where
  pub first : number_in bytes 3 ≡ s.first
  pub edits : number_in bytes 4 ≡ s.edits
  pub elements : count ≡ length s.elements
  pub times : stamps ≡ length (unwrap_or s.times [])
  pub counts : 11 + count + stamps ≡ numbers
  pub zero_row : number_in bytes 6 ≡ states_at (leads_of s.table) 0
  pub one_row : number_in bytes 7 ≡ states_at (leads_of s.table) 1
  pub two_row : number_in bytes 8 ≡ states_at (leads_of s.table) 2
  pub three_row : number_in bytes 9 ≡ states_at (leads_of s.table) 3

pub are_front : (s : Saved) (bytes : List ℕ) (timed : Bool) (numbers elements times : ℕ) → IsSaved s → is_some s.times ≡ timed → bytes ≡ bytes_of s → length bytes ≡ 8 * numbers → elements ≡ number_in bytes 5 → times ≡ (if timed then elements else 0)
    → AreFront s bytes numbers elements times
are_front s bytes timed numbers elements times h form is long elements_is times_is =
    let at : (j : ℕ) → j < 10 → number_in bytes j ≡ get_or (numbers_of s) j 0 = λ j below. read_at s bytes j h (sym is) (omega (arith, below)) in
    let many : elements ≡ length s.elements = elements_is ∙ at 5 (omega arith) in
    let stamps : times ≡ length (unwrap_or s.times []) = times_is ∙ times_many s.times timed (length s.elements) elements form h.paired many in
    record {
      first = at 3 (omega arith);
      edits = at 4 (omega arith);
      elements = many;
      times = stamps;
      counts = omega (arith, many, stamps, ap length is, length_bytes s, long);
      zero_row = at 6 (omega arith);
      one_row = at 7 (omega arith);
      two_row = at 8 (omega arith);
      three_row = at 9 (omega arith);
    }

-- times that are saved do not fall, if there are any
times_rise : (times : Option (List ℤ)) → IfSome times IsRising → IsRising (unwrap_or times [])
times_rise None rising = record { rises = λ i j order inside. absurd (omega (arith, inside)) }
times_rise (Some times) rising = rising

-- bytes that are not exactly what was read are those of nothing that was saved with this front
pub not_sound : (s : Saved) (bytes : List ℕ) (timed : Bool) (r : Reading) (front : Front) (sound : Bool) → (IsTrue sound ↔ IsReading bytes timed r × IsRising r.times.items) → sound ≡ false → r.front ≡ front
    → AreElementsAt bytes 10 r.front.elements r.elements.items → AreElementsAt bytes (10 + r.front.elements) r.front.times r.times.items
    → IsSaved s → is_some s.times ≡ timed → IsFrontOf s front → bytes_of s ≡ bytes → ⊥
not_sound s bytes timed r front sound are differ same elements times h form of is =
    let here = subst (IsFrontOf s) (sym same) of in
    let ts = times_back s bytes (10 + r.front.elements) r.front.times r.times.items h is times (omega (arith, here.elements)) here.times in
    let t : sound ≡ true = are.1 (exact_back s bytes timed r h form is here elements times, subst IsRising (sym ts) (times_rise s.times h.rising)) in
    elim (false≢true (sym differ ∙ t)) [ ]

-- one element more
pub one_element : (bytes : List ℕ) (from k : ℕ) (old new : List ℤ) (x : ℤ) → AreElementsAt bytes from k old → new ≡ old ++ x ∷ [] → x ≡ cast_signed w64 (number_in bytes (from + k)) → AreElementsAt bytes from (k + 1) new
one_element bytes from k old new x are is x_is = record {
  many = ap length is ∙ length_push old x ∙ ap (λ n. n + 1) are.many;
  each = λ i below.
      elim (cases_lt i k) [
        | inl inside ↦ ap (λ l. get_or l i (pos 0)) is ∙ get_or_append_left old (x ∷ []) (pos 0) i (omega (arith, inside, are.many)) ∙ are.each i inside
        | inr past ↦
            let at : k ≡ i = omega (arith, below, past) in
            ap (λ l. get_or l i (pos 0)) is ∙ get_or_push old x (pos 0) i (are.many ∙ at) ∙ x_is ∙ ap (λ n. cast_signed w64 (number_in bytes (from + n))) at
      ];
}
