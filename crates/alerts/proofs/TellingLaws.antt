-- The notifications of a subscriber, one look after another, and at the end.
use Rattle.std.proofs.Common.{◌≡◌, ◌⊎◌, ℕ, ℤ, ◌<◌, ◌≤◌, Bool, true, false, true≢false, not, ◌&&◌, Option, Some, None, if◌then◌else◌, List, [], ◌∷◌, ◌++◌, All, Contains, length, map, get_or, refl, ap, sym, subst, ◌∙◌, ap₂, ◌==◌, inl, inr, arith}
use Rattle.std.specs.List.{AllByRecursion, IsDistinct}
use Rattle.std.specs.List.Sorted.{IsStrictlyIncreasing}
use Rattle.std.specs.Str.{bytes_eq}
use Rattle.std.specs.Cmp.Lexicographic.{nat_list_eq_equiv}
use Rattle.std.specs.Option.{option_eq}
use Rattle.std.specs.Ordering.{int_eq}
use Rattle.std.proofs.lemmas.Bool.{cases_Bool, cases_lt}
use Rattle.std.proofs.lemmas.Bool.Decides.{Decides-eqb, Decides-int_eq}
use Rattle.std.proofs.lemmas.Slice.Eq.{bytes_eq-Decides}
use Rattle.std.proofs.lemmas.List.{map_push}
use Rattle.std.proofs.lemmas.List.Elements.{All-from_recursion, All-map, All-push, All-weaker, Contains-get_or, recursion_from_All}
use mathlib.Core.List.{IsPrefix}
use Rattle.lv_vector.specs.Bounds.{Bounds}
use Rattle.lv_vector.specs.Shown.{Shown}
use Rattle.lv_vector.specs.Shown.TheVariants.{Sum, Least, Greatest, Best, Affine, Automaton}
use Rattle.lv_vector.specs.Edit.{Edit}
use Rattle.lv_vector.specs.History.{History}
use Rattle.lv_vector.specs.Note.{Note}
use Rattle.lv_vector.specs.Query.{Query}
use Rattle.lv_vector.specs.ToldType.{Told}
use Rattle.lv_vector.specs.Queries.{AreNotesOf, is_due, same_value, watch_answer}
use Rattle.lv_vector.specs.QueryLaws.{never_due}
use Rattle.lv_vector.specs.Notes.{HasTold, SubscriberState}
use Rattle.lv_vector.specs.Hub.{IsVector}
use Rattle.alerts.specs.declared.running.Report.{Report}
use Rattle.alerts.specs.Alerts.{IsNoteOf, IsTrueOf, TellsOf, edits_of, told_by, told_from, told_last}
use Rattle.alerts.specs.Followed.{AreUnbounded, Follows, KeepsFollowing}
use Rattle.alerts.proofs.Beginnings.{prefix_length, prefix_self, prefix_trans, prefix_whole, rising_push}

-- an answer without a bound is unchanged if no note of it is due
same_number : (a b : Option ℤ) → option_eq int_eq a b ≡ true → a ≡ b
same_number None None same = refl
same_number (Some a) (Some b) same = ap Some ((Decides-int_eq a b).0 same)
same_number _ _ same = absurd (true≢false (sym same))

both_same : (a b : Bool) → (a && b) ≡ true → (a ≡ true) × (b ≡ true)
both_same true true same = (refl, refl)
both_same true false same = absurd (true≢false (sym same))
both_same false b same = absurd (true≢false (sym same))

same_answer : (a b : Shown) → same_value a b ≡ true → a ≡ b
same_answer (Sum a) (Sum b) same = ap Sum ((Decides-eqb a b).0 same)
same_answer (Least a) (Least b) same = ap Least (same_number a b same)
same_answer (Greatest a) (Greatest b) same = ap Greatest (same_number a b same)
same_answer (Best a) (Best b) same = ap Best (same_number a b same)
same_answer (Affine a b) (Affine c d) same =
    let both = both_same (a == c) (b == d) same in
    ap₂ Affine ((Decides-eqb a c).0 both.0) ((Decides-eqb b d).0 both.1)
same_answer (Automaton a) (Automaton b) same = ap Automaton ((bytes_eq-Decides a b).0 same)
same_answer _ _ same = absurd (true≢false (sym same))

stays : (before now : Shown) → is_due None before now ≡ false → now ≡ before
stays before now idle =
    elim (cases_Bool (same_value now before)) [
      | inl same ↦ same_answer now before same
      | inr other ↦ absurd (true≢false (ap not (sym other) ∙ idle))
    ]

-- the names of questions
abbrev pub names : List Query → List (List ℕ)
names questions = map (λ q. q.name) questions

-- the last reported value of some notifications and one more
told_more : (told : List Told) (t : Told) (q : Query) (before : Shown) → told_from (told ++ t ∷ []) q before ≡ told_by t.notes.items q (told_from told q before)
told_more [] t q before = refl
told_more (u ∷ told) t q before = told_more told t q (told_by u.notes.items q before)

-- notes of other questions report nothing of this one
elsewhere : (q : Query) (before : Shown) (qs : List Query) (told values : List Shown) (notes : List Note) → AllByRecursion (λ name. bytes_eq q.name name ≡ false) (names qs) → AreNotesOf qs told values notes → told_by notes q before ≡ before
elsewhere q before [] told values notes apart none = ap (λ ns. told_by ns q before) none
elsewhere q before (p ∷ qs) [] values notes apart none = ap (λ ns. told_by ns q before) none
elsewhere q before (p ∷ qs) (b ∷ told) [] notes apart none = ap (λ ns. told_by ns q before) none
elsewhere q before (p ∷ qs) (b ∷ told) (v ∷ values) notes apart (inl same) = elsewhere q before qs told values notes apart.1 same.1
elsewhere q before (p ∷ qs) (b ∷ told) (v ∷ values) notes apart (inr note) =
    ap (λ ns. told_by ns q before) note.2
    ∙ ap (λ c. if c then v else told_by note.1 q before) apart.0
    ∙ elsewhere q before qs told values note.1 apart.1 note.3

-- a note of another question before the notes of this one changes nothing
behind : (p : Query) (v : Shown) (rest : List Note) (f g : Query → Shown) (qs : List Query) → AllByRecursion (λ name. bytes_eq p.name name ≡ false) (names qs) → AllByRecursion (λ q. told_by rest q (f q) ≡ g q) qs
    → AllByRecursion (λ q. told_by (record { name = p.name; value = v } ∷ rest) q (f q) ≡ g q) qs
behind p v rest f g [] apart told = tt
behind p v rest f g (q ∷ qs) apart told = (
  ap (λ c. if c then v else told_by rest q (f q)) (nat_list_eq_equiv.symm q.name p.name ∙ apart.0) ∙ told.0,
  behind p v rest f g qs apart.1 told.1,
)

-- after the notes of changed values, the last reported value of each question is its new value
notes_tell : (f g : Query → Shown) (qs : List Query) (notes : List Note) → AllByRecursion (λ q. q.bound ≡ None) qs → IsDistinct bytes_eq (names qs) → AreNotesOf qs (map f qs) (map g qs) notes → AllByRecursion (λ q. told_by notes q (f q) ≡ g q) qs
unfolding IsDistinct
notes_tell f g [] notes unbounded apart none = tt
notes_tell f g (p ∷ qs) notes unbounded apart (inl same) = (
  elsewhere p (f p) qs (map f qs) (map g qs) notes apart.0 same.1 ∙ sym (stays (f p) (g p) (subst (λ bound. is_due bound (f p) (g p) ≡ false) unbounded.0 same.0)),
  notes_tell f g qs notes unbounded.1 apart.1 same.1,
)
notes_tell f g (p ∷ qs) notes unbounded apart (inr note) =
    subst (λ ns. AllByRecursion (λ q. told_by ns q (f q) ≡ g q) (p ∷ qs)) (sym note.2) (
      ap (λ c. if c then g p else told_by note.1 p (f p)) (nat_list_eq_equiv.refl p.name),
      behind p (g p) note.1 f g qs apart.0 (notes_tell f g qs note.1 unbounded.1 apart.1 note.3),
    )

-- they are notes of the questions
notes_true : (edits : List Edit) (all : List Query) (f : Query → Shown) (qs : List Query) (notes : List Note) → AllByRecursion (Contains all) qs → AreNotesOf qs (map f qs) (map (watch_answer edits) qs) notes → AllByRecursion (IsNoteOf edits all) notes
notes_true edits all f [] notes asked none = subst (AllByRecursion (IsNoteOf edits all)) (sym none) tt
notes_true edits all f (p ∷ qs) notes asked (inl same) = notes_true edits all f qs notes asked.1 same.1
notes_true edits all f (p ∷ qs) notes asked (inr note) =
    subst (AllByRecursion (IsNoteOf edits all)) (sym note.2) (
      record { question = p; asked = asked.0; name = refl; value = refl },
      notes_true edits all f qs note.1 asked.1 note.3,
    )

-- if no value has changed, there are no notes
none_new : (f : Query → Shown) (qs : List Query) (notes : List Note) → AreNotesOf qs (map f qs) (map f qs) notes → notes ≡ []
none_new f [] notes none = none
none_new f (p ∷ qs) notes (inl same) = none_new f qs notes same.1
none_new f (p ∷ qs) notes (inr note) = absurd (true≢false (sym note.0 ∙ never_due p.bound (f p)))

-- a notification at the present updates, after some others
module _ (qs : List Query) (at now : List Edit) (begins : IsPrefix at now) (told : List Told) (t : Told) (edit : t.edit ≡ length now) (notes : AreNotesOf qs (map (watch_answer at) qs) (map (watch_answer now) qs) t.notes.items) where
  true_now : IsTrueOf now qs t
  true_now = record {
    first = now;
    begins = prefix_self now;
    edit = edit;
    notes = All-from_recursion (IsNoteOf now qs) t.notes.items (notes_true now qs (watch_answer at) qs t.notes.items (recursion_from_All (Contains qs) qs (λ k d inside. Contains-get_or qs k d inside)) notes);
  }

  -- the earlier notifications are still true, and the new one is true too
  true_more : All (IsTrueOf at qs) told → All (IsTrueOf now qs) (told ++ t ∷ [])
  true_more before =
      All-push (IsTrueOf now qs) told t (All-weaker (IsTrueOf at qs) (IsTrueOf now qs) (λ u is. record { first = is.first; begins = prefix_trans is.first at now is.begins begins; edit = is.edit; notes = is.notes }) told before) true_now

  -- the last reported value of each question is its answer
  answers_more : AreUnbounded qs → IsDistinct bytes_eq (names qs) → All (λ q. told_last told q ≡ watch_answer at q) qs → All (λ q. told_last (told ++ t ∷ []) q ≡ watch_answer now q) qs
  answers_more unbounded apart answers k d inside =
      let q = get_or qs k d in
      told_more told t q (watch_answer [] q)
      ∙ ap (told_by t.notes.items q) (answers k d inside)
      ∙ All-from_recursion (λ p. told_by t.notes.items p (watch_answer at p) ≡ watch_answer now p) qs (notes_tell (watch_answer at) (watch_answer now) qs t.notes.items (recursion_from_All (λ p. p.bound ≡ None) qs unbounded) apart notes) k d inside

  -- the numbers still increase, if the new one is greater
  rising_more : length at < t.edit → All (IsTrueOf at qs) told → IsStrictlyIncreasing (edits_of told) → IsStrictlyIncreasing (edits_of (told ++ t ∷ []))
  rising_more later before rising =
      subst IsStrictlyIncreasing (sym (map_push (λ u. u.edit) told t))
      (rising_push (edits_of told) t.edit rising (All-map (λ e. e < t.edit) (λ u. u.edit) told (λ k d inside. let is = before k d inside in omega (arith, is.edit, prefix_length is.first at is.begins, later))))

-- a subscriber that follows gets one more notification
pub tells_more : (qs : List Query) (limits : Bounds) (old new : SubscriberState) (told : List Told) (t : Told) → HasTold limits old new t → Follows qs old.share.seen old.questions old.told told → Follows qs new.share.seen new.questions new.told (told ++ t ∷ [])
tells_more qs limits old new told t has is =
    let now = new.share.seen in
    let begins = prefix_trans is.at old.share.seen now is.begins has.seen in
    let values : new.told ≡ map (watch_answer now) qs = has.answers ∙ ap (map (watch_answer now)) is.watched_are in
    let notes : AreNotesOf qs (map (watch_answer is.at) qs) (map (watch_answer now) qs) t.notes.items =
    subst (λ vs. AreNotesOf qs (map (watch_answer is.at) qs) vs t.notes.items) values
    (subst (λ bs. AreNotesOf qs bs new.told t.notes.items) is.values_are (subst (λ ps. AreNotesOf ps old.told new.told t.notes.items) is.watched_are has.notes)) in record {
      at = now;
      begins = prefix_self now;
      watched_are = has.questions ∙ is.watched_are;
      unbounded = is.unbounded;
      apart = is.apart;
      values_are = values;
      true_told = true_more qs is.at now begins told t has.edit notes is.true_told;
      rising = rising_more qs is.at now begins told t has.edit notes (omega (arith, has.later, prefix_length is.at old.share.seen is.begins)) is.true_told is.rising;
      answers = answers_more qs is.at now begins told t has.edit notes is.unbounded is.apart is.answers;
    }

pub keeps_more : (limits : Bounds) (old new : SubscriberState) (told all : List Told) (t : Told) → all ≡ told ++ t ∷ [] → HasTold limits old new t → KeepsFollowing old new told all
keeps_more limits old new told all t more has =
    subst (KeepsFollowing old new told) (sym more) record {
      parts = ap (λ s. s.parts) has.share;
      count = ap (λ s. s.count) has.share;
      follows = λ qs. tells_more qs limits old new told t has;
    }

pub keeps_same : (old new : SubscriberState) (told all : List Told) → new ≡ old → all ≡ told → KeepsFollowing old new told all
keeps_same old new told all same as_told =
    subst (λ s. KeepsFollowing old s told all) (sym same) (subst (KeepsFollowing old old told) (sym as_told) record { parts = refl; count = refl; follows = λ qs is. is })

pub keeps_trans : (r s t : SubscriberState) (told more all : List Told) → KeepsFollowing r s told more → KeepsFollowing s t more all → KeepsFollowing r t told all
keeps_trans r s t told more all first second = record {
  parts = second.parts ∙ first.parts;
  count = second.count ∙ first.count;
  follows = λ qs is. second.follows qs (first.follows qs is);
}

-- it still follows if more was seen, whoever has its notifications
pub follows_so : (qs : List Query) (s : SubscriberState) (told : List Told) (seen : List Edit) (watched : List Query) (values : List Shown) (all : List Told) → IsPrefix s.share.seen seen → watched ≡ s.questions → values ≡ s.told → all ≡ told → Follows qs s.share.seen s.questions s.told told → Follows qs seen watched values all
follows_so qs s told seen watched values all longer watched_are values_are all_are is =
    subst (Follows qs seen watched values) (sym all_are) record {
      at = is.at;
      begins = prefix_trans is.at s.share.seen seen is.begins longer;
      watched_are = watched_are ∙ is.watched_are;
      unbounded = is.unbounded;
      apart = is.apart;
      values_are = values_are ∙ is.values_are;
      true_told = is.true_told;
      rising = is.rising;
      answers = is.answers;
    }

-- the last notification
pub tells_last : (qs : List Query) (limits : Bounds) (seen : List Edit) (watched : List Query) (values : List Shown) (history : History) (r : Report) → Follows qs seen watched values r.told.items → IsVector limits history → IsPrefix seen history.journal
    → r.last.edit ≡ length history.journal → AreNotesOf watched values (map (watch_answer history.journal) watched) r.last.notes.items → length history.journal ≡ r.accepted → TellsOf limits qs r
tells_last qs limits seen watched values history r is vector seen_so edit last counted =
    let now = history.journal in
    let begins = prefix_trans is.at seen now is.begins seen_so in
    let notes : AreNotesOf qs (map (watch_answer is.at) qs) (map (watch_answer now) qs) r.last.notes.items =
    subst (λ bs. AreNotesOf qs bs (map (watch_answer now) qs) r.last.notes.items) is.values_are (subst (λ ps. AreNotesOf ps values (map (watch_answer now) ps) r.last.notes.items) is.watched_are last) in record {
      history = history;
      vector = vector;
      told = true_more qs is.at now begins r.told.items r.last edit notes is.true_told;
      rising = is.rising;
      later = later_or_none begins notes (cases_lt (length is.at) (length now));
      end = edit;
      answers = answers_more qs is.at now begins r.told.items r.last edit notes is.unbounded is.apart is.answers;
      counted = counted;
    }
  where
    later_or_none : IsPrefix is.at history.journal → AreNotesOf qs (map (watch_answer is.at) qs) (map (watch_answer history.journal) qs) r.last.notes.items → ((length is.at < length history.journal) ⊎ (length history.journal ≤ length is.at)) → (r.last.notes.items ≡ []) ⊎ IsStrictlyIncreasing (edits_of (r.told.items ++ r.last ∷ []))
    later_or_none begins notes (inl more) = inr (rising_more qs is.at history.journal begins r.told.items r.last edit notes (omega (arith, edit, more)) is.true_told is.rising)
    later_or_none begins notes (inr whole) =
        inl (none_new (watch_answer is.at) qs r.last.notes.items (subst (λ es. AreNotesOf qs (map (watch_answer is.at) qs) (map (watch_answer es) qs) r.last.notes.items) (sym (prefix_whole is.at history.journal begins whole)) notes))
