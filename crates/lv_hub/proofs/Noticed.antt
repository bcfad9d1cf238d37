-- How the notifications of a subscriber continue, and the text that is written of them.
use Rattle.std.proofs.Common.{◌≡◌, ℕ, ◌≤◌, Option, Some, None, List, [], ◌∷◌, ◌++◌, length, map, take, refl, sym, ap, ◌∙◌, subst, arith, append-nil, append_assoc, get_or, ◌+◌, ◌<◌, false}
use Rattle.std.proofs.lemmas.Grind.{flat_map-append}
use Rattle.std.proofs.lemmas.List.{map-append, take_more}
use mathlib.Core.List.{IsPrefix}
use Rattle.lv_geometry.specs.Bounds.{Bounds}
use Rattle.lv_bodies.specs.declared.kinds.Shown.{Shown}
use Rattle.lv_edits.specs.declared.edit.Edit.{Edit}
use Rattle.lv_transcript.specs.declared.log_heading.LogHeading.{LogHeading}
use Rattle.lv_hub.specs.Counting.{ShareState}
use Rattle.lv_standing.specs.declared.queries.Query.{Query}
use Rattle.lv_hub.specs.declared.told.Told.{Told}
use Rattle.lv_standing.specs.Queries.{AreNotesOf, watch_answer}
use Rattle.lv_hub.specs.Notes.{HasTold, IsToldIf, SubscriberState}
use Rattle.lv_hub.specs.Noticing.{AreTold, NoticesState, WatcherState, Watches, WritesMore, WroteOrPart, all_told_text, told_text}
use Rattle.lv_hub.specs.Watched.{AreToldOf, WatchState, answers_at}
use Rattle.lv_hub.specs.Watchers.{watcher_at}
use Rattle.lv_history.proofs.PrefixLaws.{prefix_length, prefix_self, prefix_take, prefix_trans}

-- nothing more was written
pub writes_no_more : (n : NoticesState) → WritesMore [] n n
writes_no_more n = λ start before wrote. subst (WroteOrPart n.failed start n.contents) (sym (append-nil before)) wrote

-- one text and then another
pub writes_both : (a b c : NoticesState) (xs ys : List ℕ) → WritesMore xs a b → WritesMore ys b c → WritesMore (xs ++ ys) a c
writes_both a b c xs ys first second =
    λ start before wrote. subst (WroteOrPart c.failed start c.contents) (append_assoc before xs ys) (second start (before ++ xs) (first start before wrote))

-- the lines of all are those of some and of the others
pub text_of_both : (numbers : LogHeading) (xs ys : List Told) → all_told_text numbers (xs ++ ys) ≡ all_told_text numbers xs ++ all_told_text numbers ys
text_of_both numbers xs ys = flat_map-append (told_text numbers) xs ys

pub text_of_one : (numbers : LogHeading) (told : Told) → all_told_text numbers (told ∷ []) ≡ told_text numbers told
text_of_one numbers told = append-nil (told_text numbers told)

module _ (limits : Bounds) where
  told_both : (old mid new : SubscriberState) (xs ys : List Told) → AreTold limits old xs mid → AreTold limits mid ys new → AreTold limits old (xs ++ ys) new
  told_both old mid new [] ys first second = subst (λ s. AreTold limits s ys new) first second
  told_both old mid new (x ∷ xs) ys first second = (first.0, first.1, told_both first.0 mid new xs ys first.2 second)

  -- what was seen only grows
  seen_grows : (old new : SubscriberState) (tolds : List Told) → AreTold limits old tolds new → IsPrefix old.share.seen new.share.seen
  seen_grows old new [] told = subst (λ s. IsPrefix old.share.seen s.share.seen) (sym told) (prefix_self old.share.seen)
  seen_grows old new (t ∷ tolds) told =
      prefix_trans old.share.seen told.0.share.seen new.share.seen told.1.seen (seen_grows told.0 new tolds told.2)

module _ (limits : Bounds) (numbers : LogHeading) where
  -- there was no notification
  pub watches_nothing : (w : WatcherState) → Watches limits numbers w w
  watches_nothing w = record { tolds = []; told = refl; written = writes_no_more w.notices }

  -- there was one notification
  pub watches_one : (old new : WatcherState) (told : Told) → HasTold limits old.subscriber new.subscriber told → WritesMore (told_text numbers told) old.notices new.notices → Watches limits numbers old new
  watches_one old new told has wrote = record {
    tolds = told ∷ [];
    told = (new.subscriber, has, refl);
    written = subst (λ text. WritesMore text old.notices new.notices) (sym (text_of_one numbers told)) wrote;
  }

  -- some notifications, and then others
  pub watches_both : (old mid new : WatcherState) → Watches limits numbers old mid → Watches limits numbers mid new → Watches limits numbers old new
  watches_both old mid new first second = record {
    tolds = first.tolds ++ second.tolds;
    told = told_both limits old.subscriber mid.subscriber new.subscriber first.tolds second.tolds first.told second.told;
    written = subst (λ text. WritesMore text old.notices new.notices) (sym (text_of_both numbers first.tolds second.tolds))
        (writes_both old.notices mid.notices new.notices (all_told_text numbers first.tolds) (all_told_text numbers second.tolds) first.written second.written);
  }

-- the prefix of a longer list, taken by its length
taken : (n : ℕ) (xs all : List Edit) → n ≡ length xs → IsPrefix xs all → take n all ≡ xs
taken n xs all many begun = ap (λ n. take n all) many ∙ prefix_take xs all begun

-- notifications of the same list of updates, with other terms that equal the first ones
told_as : (edits : List Edit) (questions asked : List Query) (since from : ℕ) (before told : List Shown) (tolds : List Told) (after : List Shown)
    → questions ≡ asked → since ≡ from → before ≡ told → AreToldOf edits questions since before tolds after → AreToldOf edits asked from told tolds after
told_as edits questions asked since from before told tolds after questions_are since_is before_is are =
    subst (λ qs. AreToldOf edits qs from told tolds after) questions_are
    (subst (λ n. AreToldOf edits questions n told tolds after) since_is (subst (λ bs. AreToldOf edits questions since bs tolds after) before_is are))

module _ (limits : Bounds) (edits : List Edit) where
  -- the notifications of a subscriber are plain, of any list of updates that extends what it has seen
  pub told_of : (old new : SubscriberState) (tolds : List Told) → AreTold limits old tolds new → IsPrefix new.share.seen edits
      → AreToldOf edits old.questions (length old.share.seen) old.told tolds new.told × (new.questions ≡ old.questions)
  told_of old new [] told begun = (ap (λ s. s.told) told, ap (λ s. s.questions) told)
  told_of old new (t ∷ tolds) told begun =
      let mid = told.0 in
      let has = told.1 in
      let begun_mid = prefix_trans mid.share.seen new.share.seen edits (seen_grows limits mid new tolds told.2) begun in
      let rest = told_of mid new tolds told.2 begun in
      let there : take t.edit edits ≡ mid.share.seen = taken t.edit mid.share.seen edits has.edit begun_mid in
      let answers : mid.told ≡ answers_at edits t.edit old.questions = has.answers ∙ ap (λ es. map (watch_answer es) old.questions) (sym there) in (
        (
          omega (arith, has.later),
          omega (arith, has.edit, prefix_length mid.share.seen edits begun_mid),
          subst (λ values. AreNotesOf old.questions old.told values t.notes.items) answers has.notes,
          told_as edits mid.questions old.questions (length mid.share.seen) t.edit mid.told (answers_at edits t.edit old.questions) tolds new.told has.questions (sym has.edit) answers rest.0,
        ),
        rest.1 ∙ has.questions,
      )

-- the last notification was made too, at the end of the updates
pub told_last : (edits : List Edit) (questions : List Query) (since : ℕ) (before mid : List Shown) (tolds : List Told) (last : Told)
    → AreToldOf edits questions since before tolds mid → since ≤ length edits → last.edit ≡ length edits → AreNotesOf questions mid (map (watch_answer edits) questions) last.notes.items
    → AreToldOf edits questions since before (tolds ++ last ∷ []) (map (watch_answer edits) questions)
told_last edits questions since before mid [] last told within edit notes =
    let all : take last.edit edits ≡ edits = taken last.edit edits edits edit (prefix_self edits) in
    let answers : answers_at edits last.edit questions ≡ map (watch_answer edits) questions = ap (λ es. map (watch_answer es) questions) all in (
      omega (arith, within, edit),
      omega (arith, edit),
      subst (λ bs. AreNotesOf questions bs (answers_at edits last.edit questions) last.notes.items) told (subst (λ values. AreNotesOf questions mid values last.notes.items) (sym answers) notes),
      sym answers,
    )
told_last edits questions since before mid (t ∷ tolds) last told within edit notes =
    (told.0, told.1, told.2, told_last edits questions t.edit (answers_at edits t.edit questions) mid tolds last told.3 told.1 edit notes)

-- after a look, a subscriber has the part that it had, and its count
pub told_keeps : (limits : Bounds) (old new : SubscriberState) (found : Option Told) → IsToldIf limits old new found → (new.share.parts ≡ old.share.parts) × (new.share.count ≡ old.share.count)
told_keeps limits old new None told = (ap (λ s. s.share.parts) told, ap (λ s. s.share.count) told)
told_keeps limits old new (Some t) told = (ap (λ share. share.parts) told.share, ap (λ share. share.count) told.share)

-- there was no notification, and nothing was written
pub watches_still : (limits : Bounds) (numbers : LogHeading) (old : WatcherState) (subscriber : SubscriberState) → subscriber ≡ old.subscriber → Watches limits numbers old (record { subscriber = subscriber; notices = old.notices })
watches_still limits numbers old subscriber same = subst (λ s. Watches limits numbers old (record { subscriber = s; notices = old.notices })) (sym same) (watches_nothing limits numbers old)

-- one more question is asked
pub asks_more : (questions asked more : List Query) (i : ℕ) (d q : Query) → i < length questions → q ≡ get_or questions i d → asked ≡ take i questions → more ≡ asked ++ q ∷ [] → more ≡ take (i + 1) questions
asks_more questions asked more i d q within is so_far pushed =
    pushed ∙ ap (λ qs. qs ++ q ∷ []) so_far ∙ ap (λ q. take i questions ++ q ∷ []) is ∙ sym (take_more questions i d within)

-- its first last answer is that on no elements
pub told_more : (questions : List Query) (told more : List Shown) (i : ℕ) (d q : Query) → i < length questions → q ≡ get_or questions i d → told ≡ map (watch_answer []) (take i questions) → more ≡ told ++ watch_answer [] q ∷ []
    → more ≡ map (watch_answer []) (take (i + 1) questions)
told_more questions told more i d q within is so_far pushed =
    pushed ∙ ap (λ vs. vs ++ watch_answer [] q ∷ []) so_far ∙ sym (map-append (watch_answer []) (take i questions) (q ∷ []))
    ∙ ap (λ q. map (watch_answer []) (take i questions ++ q ∷ [])) is ∙ ap (map (watch_answer [])) (sym (take_more questions i d within))

-- all are asked
pub asked_all : (old new : SubscriberState) (questions : List Query) → new.share ≡ old.share → new.questions ≡ questions → new.told ≡ map (watch_answer []) questions → new ≡ record old { questions = questions; told = map (watch_answer []) questions }
asked_all old new questions share asked told = λ i. record { share = share i; questions = asked i; told = told i }

-- a subscriber with a share of its own that asks all
pub subscribed : (watch : WatchState) (share : ShareState) (notices : NoticesState) (old new : SubscriberState) → notices ≡ record { contents = watch.contents; failed = false } → old ≡ record { share = share; questions = []; told = [] }
    → new ≡ record old { questions = watch.questions; told = map (watch_answer []) watch.questions } → share.parts ≡ 1 → share.count ≡ 0 → share.seen ≡ []
    → record { subscriber = new; notices = notices } ≡ watcher_at watch
subscribed watch share notices old new notices_is old_is new_is parts count seen =
    let same : share ≡ record { parts = 1; count = 0; seen = [] } = λ i. record { parts = parts i; count = count i; seen = seen i } in
    let all : new ≡ record { share = record { parts = 1; count = 0; seen = [] }; questions = watch.questions; told = map (watch_answer []) watch.questions } =
    new_is ∙ ap (λ (s : SubscriberState). record s { questions = watch.questions; told = map (watch_answer []) watch.questions }) old_is
    ∙ ap (λ (share : ShareState). record { share = share; questions = watch.questions; told = map (watch_answer []) watch.questions }) same in
    λ i. record { subscriber = all i; notices = notices_is i }
