-- What holds of each subscriber holds of all of them, from their beginning to the close of the hub.
use Rattle.std.proofs.Common.{◌≡◌, ℕ, suc, Option, List, [], ◌∷◌, ◌++◌, All, length, map, refl, sym, ap, ◌∙◌, subst, arith, length-append}
use Rattle.std.proofs.KnownBytes.{Appends-nil}
use Rattle.std.proofs.lemmas.List.{map-append}
use Rattle.std.proofs.lemmas.List.Elements.{All-head, All-nil, All-push, All-tail, All-weaker}
use mathlib.Core.List.{IsPrefix}
use Rattle.lv_geometry.specs.Bounds.{Bounds}
use Rattle.lv_bodies.specs.Plain.{plain_value}
use Rattle.lv_edits.specs.declared.edit.Edit.{Edit}
use Rattle.lv_edits.specs.History.{list_of}
use Rattle.lv_transcript.specs.declared.log_heading.LogHeading.{LogHeading}
use Rattle.lv_hub.specs.Counting.{AreTogether, ShareState}
use Rattle.lv_hub.specs.declared.told.Told.{Told}
use Rattle.lv_standing.specs.Queries.{AreNotesOf, span_of, watch_answer}
use Rattle.lv_hub.specs.Noticing.{NoticesState, WatcherState, Watches, WritesMore, WroteOrPart, all_told_text, told_text}
use Rattle.lv_hub.specs.Watched.{AreWatched, IsWatched, ServedWatched, ToldOf, WatchState}
use Rattle.lv_hub.specs.Watchers.{AllTellLast, AreLeft, AreWatchedFrom, ClosesTelling, LeftState, TakesWatchers, TellsLast, left_by, watcher_at}
use Rattle.lv_history.proofs.PrefixLaws.{prefix_self, prefix_trans}
use Rattle.lv_hub.proofs.Noticed.{text_of_both, text_of_one, told_last, told_of}

-- no subscriber was taken back yet
pub takes_no_watchers : (numbers : LogHeading) (share : ShareState) → TakesWatchers numbers share share [] []
takes_no_watchers numbers share = record {
  parts = omega arith;
  count = refl;
  more = prefix_self share.seen;
  seen = All-nil (λ w. IsPrefix w.subscriber.share.seen share.seen);
  left_are = refl;
}

-- one more was taken back
pub takes_watcher : (numbers : LogHeading) (old mid new : ShareState) (watchers : List WatcherState) (left more : List LeftState) (w : WatcherState) (part : ShareState) (one : LeftState)
    → TakesWatchers numbers old mid watchers left → AreTogether mid part new → part ≡ w.subscriber.share → part.parts ≡ 1 → part.count ≡ 0 → one ≡ left_by numbers w → more ≡ left ++ one ∷ []
    → TakesWatchers numbers old new (watchers ++ w ∷ []) more
takes_watcher numbers old mid new watchers left more w part one t both part_is parts count one_is more_is = record {
  parts = omega (arith, both.parts, parts, t.parts, length-append watchers (w ∷ []));
  count = omega (arith, both.count, count, t.count);
  more = prefix_trans old.seen mid.seen new.seen t.more both.first;
  seen = All-push (λ w. IsPrefix w.subscriber.share.seen new.seen) watchers w
      (All-weaker (λ w. IsPrefix w.subscriber.share.seen mid.seen) (λ w. IsPrefix w.subscriber.share.seen new.seen) (λ w begun. prefix_trans w.subscriber.share.seen mid.seen new.seen begun both.first) watchers t.seen)
      (subst (λ s. IsPrefix s.seen new.seen) part_is both.second);
  left_are = more_is ∙ ap (λ left. left ++ one ∷ []) t.left_are ∙ ap (λ one. map (left_by numbers) watchers ++ one ∷ []) one_is ∙ sym (map-append (left_by numbers) watchers (w ∷ []));
}

-- the notifications of a subscriber that has ended are of every list that extends what was seen
left_so : (limits : Bounds) (numbers : LogHeading) (seen : List Edit) (watch : WatchState) (w : WatcherState) → Watches limits numbers (watcher_at watch) w → IsPrefix w.subscriber.share.seen seen
    → (w.subscriber.questions ≡ watch.questions) × ((edits : List Edit) → IsPrefix seen edits → ToldOf numbers edits watch w.subscriber.told w.notices)
left_so limits numbers seen watch w watches begun = (
  (told_of limits seen (watcher_at watch).subscriber w.subscriber watches.tolds watches.told begun).1,
  λ edits goes_on. record {
    tolds = watches.tolds;
    told = (told_of limits edits (watcher_at watch).subscriber w.subscriber watches.tolds watches.told (prefix_trans w.subscriber.share.seen seen edits begun goes_on)).0;
    written = watches.written watch.contents [] (Appends-nil watch.contents);
  },
)

left_each : (limits : Bounds) (numbers : LogHeading) (seen : List Edit) (watches : List WatchState) (watchers : List WatcherState) → AreWatchedFrom limits numbers (map watcher_at watches) watchers
    → All (λ w. IsPrefix w.subscriber.share.seen seen) watchers → AreLeft numbers seen watches (map (left_by numbers) watchers)
left_each limits numbers seen [] [] are begun = tt
left_each limits numbers seen [] (w ∷ watchers) are begun = absurd (omega (arith, are.len))
left_each limits numbers seen (watch ∷ watches) [] are begun = absurd (omega (arith, are.len))
left_each limits numbers seen (watch ∷ watches) (w ∷ watchers) are begun =
    let one = left_so limits numbers seen watch w (are.each 0 (watcher_at watch) w (omega arith)) (All-head (λ w. IsPrefix w.subscriber.share.seen seen) w watchers begun) in (
      refl,
      one.0,
      one.1,
      left_each limits numbers seen watches watchers (record { len = omega (arith, are.len); each = λ i o n within. are.each (suc i) o n (omega arith) }) (All-tail (λ w. IsPrefix w.subscriber.share.seen seen) w watchers begun),
    )

-- watchers that were begun for each of some files are those that were begun for the questions of these files
begun_watches : {S : Type 0} (watch : S → WatchState) (files : List S) → map (λ f. watcher_at (watch f)) files ≡ map watcher_at (map watch files)
begun_watches watch [] = refl
begun_watches watch (f ∷ files) = ap (λ begun. watcher_at (watch f) ∷ begun) (begun_watches watch files)

pub all_left : {S : Type 0} (watch : S → WatchState) (limits : Bounds) (numbers : LogHeading) (old new : ShareState) (files : List S) (begun watchers : List WatcherState) (left : List LeftState)
    → begun ≡ map (λ f. watcher_at (watch f)) files → AreWatchedFrom limits numbers begun watchers → TakesWatchers numbers old new watchers left → AreLeft numbers new.seen (map watch files) left
all_left watch limits numbers old new files begun watchers left begun_is are t =
    subst (AreLeft numbers new.seen (map watch files)) (sym t.left_are)
    (left_each limits numbers new.seen (map watch files) watchers (subst (λ begun. AreWatchedFrom limits numbers begun watchers) (begun_is ∙ begun_watches watch files) are) t.seen)

-- one more subscriber was begun
pub begun_more : {S : Type 0} (begun : S → WatcherState) (watchers more : List WatcherState) (w : WatcherState) (files : List S) (f : S) → watchers ≡ map begun files → more ≡ watchers ++ w ∷ [] → w ≡ begun f → more ≡ map begun (files ++ f ∷ [])
begun_more begun watchers more w files f are pushed is =
    pushed ∙ ap (λ ws. ws ++ w ∷ []) are ∙ ap (λ w. map begun files ++ w ∷ []) is ∙ sym (map-append begun files (f ∷ []))

pub watched_as_many : {S : Type 0} (begun : S → WatcherState) (watchers : List WatcherState) (files : List S) → watchers ≡ map begun files → length watchers ≡ length files
watched_as_many begun watchers [] is = ap length is
watched_as_many begun watchers (f ∷ files) is = ap length is ∙ ap suc (watched_as_many begun (map begun files) files refl)

tells_more : (edits : List Edit) (left : List LeftState) (told : List NoticesState) (one : LeftState) (new : NoticesState) → AllTellLast edits left told → TellsLast edits one new → AllTellLast edits (left ++ one ∷ []) (told ++ new ∷ [])
tells_more edits [] [] one new all last = (last, tt)
tells_more edits [] (t ∷ told) one new all last = absurd all
tells_more edits (l ∷ left) [] one new all last = absurd all
tells_more edits (l ∷ left) (t ∷ told) one new all last = (all.0, tells_more edits left told one new all.1 last)

-- all write their last notifications, for every list of updates of this length that has the elements of a vector
abbrev pub AllTellLastAt : List Edit → ℕ → List LeftState → List NoticesState → Type 0
AllTellLastAt journal many left told = (edits : List Edit) → length edits ≡ many → list_of journal ≡ list_of edits → AllTellLast edits left told

-- a subscriber writes its last notification, from a vector with the elements that there are after the updates
pub tells_last : (journal edits : List Edit) (many : ℕ) (l : LeftState) (told : Told) (new : NoticesState) → told.edit ≡ many → length edits ≡ many → list_of journal ≡ list_of edits
    → AreNotesOf l.ended.questions l.ended.told (map (watch_answer journal) l.ended.questions) told.notes.items → WritesMore (told_text l.numbers told) l.notices new → TellsLast edits l new
tells_last journal edits many l told new last as_many same notes written = record {
  told = told;
  edit = last ∙ sym as_many;
  notes = subst (λ xs. AreNotesOf l.ended.questions l.ended.told (map (λ q. plain_value q.kind (span_of q.span xs)) l.ended.questions) told.notes.items) same notes;
  written = written;
}

-- one more has written its last notification
pub tells_one_more : (edits : List Edit) (left : List LeftState) (told more : List NoticesState) (one : LeftState) (new : NoticesState) → AllTellLast edits left told → TellsLast edits one new → more ≡ told ++ new ∷ []
    → AllTellLast edits (left ++ one ∷ []) more
tells_one_more edits left told more one new all last is = subst (AllTellLast edits (left ++ one ∷ [])) (sym is) (tells_more edits left told one new all last)

-- the notifications up to the end, and then the last one
watched_so : (numbers : LogHeading) (edits : List Edit) (watch : WatchState) (l : LeftState) (new : NoticesState) → l.numbers ≡ numbers → l.ended.questions ≡ watch.questions → ToldOf numbers edits watch l.ended.told l.notices → TellsLast edits l new → IsWatched numbers edits watch new
watched_so numbers edits watch l new same questions told last =
    let wrote : WritesMore (told_text numbers last.told) l.notices new = subst (λ numbers. WritesMore (told_text numbers last.told) l.notices new) same last.written in
    let asked = subst (λ qs. AreNotesOf qs l.ended.told (map (watch_answer edits) qs) last.told.notes.items) questions last.notes in record {
      tolds = told.tolds ++ last.told ∷ [];
      told = told_last edits watch.questions 0 _ l.ended.told told.tolds last.told told.told (omega arith) last.edit asked;
      written = subst (WroteOrPart new.failed watch.contents new.contents) (ap (λ text. all_told_text numbers told.tolds ++ text) (sym (text_of_one numbers last.told)) ∙ sym (text_of_both numbers told.tolds (last.told ∷ [])))
          (wrote watch.contents (all_told_text numbers told.tolds) told.written);
    }

pub watched_each : (numbers : LogHeading) (seen edits : List Edit) (watches : List WatchState) (left : List LeftState) (news : List NoticesState) → IsPrefix seen edits → AreLeft numbers seen watches left → AllTellLast edits left news → AreWatched numbers edits watches news
watched_each numbers seen edits [] [] [] begun are last = tt
watched_each numbers seen edits [] [] (n ∷ news) begun are last = absurd last
watched_each numbers seen edits [] (l ∷ left) news begun are last = absurd are
watched_each numbers seen edits (w ∷ watches) [] news begun are last = absurd are
watched_each numbers seen edits (w ∷ watches) (l ∷ left) [] begun are last = absurd last
watched_each numbers seen edits (w ∷ watches) (l ∷ left) (n ∷ news) begun are last =
    (watched_so numbers edits w l n are.0 are.1 (are.2 edits begun) last.0, watched_each numbers seen edits watches left news begun are.3 last.1)

-- subscribers were served together with sessions, if the hub was closed
pub served_watched : (numbers : LogHeading) (share : ShareState) (watches : List WatchState) (left : List LeftState) (news : List NoticesState) (contents_old contents_new : Option (List ℕ)) → AreLeft numbers share.seen watches left → ClosesTelling share left news contents_old contents_new
    → ServedWatched numbers watches news contents_old contents_new
served_watched numbers share watches left news contents_old contents_new are closed = record {
  edits = closed.journal;
  answers = closed.answers;
  written = closed.written;
  watched = watched_each numbers share.seen closed.journal watches left news closed.seen are closed.last;
}

-- from their beginning to the last, the notifications of subscribers are of one list
pub watched_of_one_list : (limits : Bounds) (numbers : LogHeading) (old new : ShareState) (edits : List Edit) (watches : List WatchState) (watchers : List WatcherState) (left : List LeftState) (told : List NoticesState)
    → AreWatchedFrom limits numbers (map watcher_at watches) watchers → TakesWatchers numbers old new watchers left → IsPrefix new.seen edits → AllTellLast edits left told → AreWatched numbers edits watches told
watched_of_one_list limits numbers old new edits watches watchers left told are taken begun last =
    watched_each numbers new.seen edits watches left told begun (subst (AreLeft numbers new.seen watches) (sym taken.left_are) (left_each limits numbers new.seen watches watchers are taken.seen)) last
