-- Questions that are registered, one after another.
use Rattle.std.proofs.Common.{◌≡◌, ℕ, ◌+◌, ◌<◌, Bool, true, false, if◌then◌else◌, ◌||◌, Option, Some, None, List, [], ◌∷◌, ◌++◌, length, map, take, get_or, refl, ap, sym, subst, ◌∙◌, arith}
use Rattle.std.specs.List.{IsDistinct, list_any}
use Rattle.std.specs.Str.{bytes_eq}
use Rattle.std.specs.Cmp.Lexicographic.{nat_list_eq_equiv}
use Rattle.std.proofs.lemmas.List.{map_push, take_more}
use Rattle.std.proofs.lemmas.List.Elements.{All-nil}
use Rattle.std.proofs.lemmas.Map.Keys.{IsDistinct-push}
use Rattle.lv_vector.specs.Edit.{Edit}
use Rattle.lv_vector.specs.Query.{Query}
use Rattle.lv_vector.specs.ToldType.{Told}
use Rattle.lv_vector.specs.Queries.{query_of, watch_answer}
use Rattle.lv_vector.specs.QueryLaws.{new_name}
use Rattle.lv_vector.specs.Notes.{SubscriberState, question_refusal}
use Rattle.alerts.specs.Alerts.{IsTrueOf}
use Rattle.alerts.specs.Followed.{AreUnbounded, Follows, IsWatching}
use Rattle.alerts.proofs.Beginnings.{prefix_none}
use Rattle.alerts.proofs.TellingLaws.{names}

-- the first query isn't the one, nor is any other
not_first : (is : Bool) (first : Query) (found : Option Query) → (if is then Some first else found) ≡ None → (is ≡ false) × (found ≡ None)
not_first true first found none = absurd (cc none)
not_first false first found none = (refl, none)

-- if no query has a name, it is the name of none of the questions
unnamed : (qs : List Query) (name : List ℕ) → query_of qs name ≡ None → list_any (bytes_eq name) (names qs) ≡ false
unnamed [] name none = refl
unnamed (p ∷ qs) name none =
    let so = not_first (bytes_eq p.name name) p (query_of qs name) none in
    ap (λ b. b || list_any (bytes_eq name) (names qs)) (nat_list_eq_equiv.symm name p.name ∙ so.0) ∙ unnamed qs name so.1

pub watches_none : (s : SubscriberState) → s.questions ≡ [] → s.told ≡ [] → IsWatching [] s
unfolding IsDistinct
watches_none s questions told = record { questions_are = questions; answers = told; apart = tt }

-- one more question, which wasn't refused
pub watches_more : (qs : List Query) (q : Query) (old new : SubscriberState) → IsWatching qs old → question_refusal old.questions q ≡ None → new.questions ≡ old.questions ++ q ∷ [] → new.told ≡ old.told ++ watch_answer [] q ∷ [] → IsWatching (qs ++ q ∷ []) new
watches_more qs q old new is granted questions told =
    let found = new_name 64 qs q.name q.span (subst (λ ps. question_refusal ps q ≡ None) is.questions_are granted) in record {
      questions_are = questions ∙ ap (λ ps. ps ++ q ∷ []) is.questions_are;
      answers = told ∙ ap (λ vs. vs ++ watch_answer [] q ∷ []) is.answers ∙ sym (map_push (watch_answer []) qs q);
      apart = subst (IsDistinct bytes_eq) (sym (map_push (λ p. p.name) qs q)) (IsDistinct-push nat_list_eq_equiv (names qs) q.name is.apart (unnamed qs q.name found));
    }

-- the questions up to an index, and the one at that index
pub watches_next : (qs : List Query) (i : ℕ) (q : Query) (old new : SubscriberState) → i < length qs → q ≡ get_or qs i q → IsWatching (take i qs) old → question_refusal old.questions q ≡ None → new.questions ≡ old.questions ++ q ∷ [] → new.told ≡ old.told ++ watch_answer [] q ∷ [] → IsWatching (take (i + 1) qs) new
watches_next qs i q old new inside is watching granted questions told =
    subst (λ ps. IsWatching ps new) (sym (take_more qs i q inside ∙ ap (λ x. take i qs ++ x ∷ []) (sym is))) (watches_more (take i qs) q old new watching granted questions told)

-- a subscriber that has reported nothing follows
pub follows_new : (qs : List Query) (seen : List Edit) (s : SubscriberState) (told : List Told) → told ≡ [] → AreUnbounded qs → IsWatching qs s → Follows qs seen s.questions s.told told
follows_new qs seen s told none unbounded is =
    subst (Follows qs seen s.questions s.told) (sym none) record {
      at = [];
      begins = prefix_none seen;
      watched_are = is.questions_are;
      unbounded = unbounded;
      apart = is.apart;
      values_are = is.answers;
      true_told = All-nil (IsTrueOf [] qs);
      rising = λ k inside. absurd (omega arith);
      answers = λ k d inside. refl;
    }
