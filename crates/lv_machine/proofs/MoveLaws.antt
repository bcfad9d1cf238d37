-- After each allowed move the words still show the history, so the words of every reachable state do.
use Rattle.std.proofs.Common.{◌≡◌, ◌≢◌, ℕ, zero, suc, ℤ, ◌+◌, ◌-◌, ◌*◌, ◌/◌, ◌%◌, ◌<◌, max, Some, None, List, [], ◌∷◌, length, Bool, true, false, nat_eq, slice_index, slice_set, replicate, refl, sym, ap, ◌∙◌, subst, inl, inr, length-set, arith}
use Rattle.std.specs.Prelude.{if◌then◌else◌}
use Rattle.std.proofs.lemmas.Bool.{cases_Bool, cases_eq, cond-false, cond-true, eqb-true}
use Rattle.std.proofs.lemmas.List.{get_or-set_other, get_or-set_same, length_push, length-take, length-replicate}
use Rattle.std.proofs.lemmas.List.Edits.{length-swap}
use Rattle.lv_geometry.specs.Bounds.{Bounds}
use Rattle.lv_geometry.specs.Cells.{capacity_of}
use Rattle.lv_edits.specs.declared.edit.Edit.{Edit}
use Rattle.lv_edits.specs.declared.edit.Edit.TheVariants.{Push, Pop, Write, Reserve, Swap, Truncate}
use Rattle.lv_edits.specs.History.{applied, list_of}
use Rattle.lv_edits.specs.Touch.{touched_by}
use Rattle.std.proofs.lemmas.Option.{cond_some, same_Some}
use Rattle.lv_edits.specs.Verdict.{refused_on, verdict_of}
use Rattle.lv_edits.proofs.HistoryLaws.{accepted_is_possible, applied_pop, applied_write, list_of-snoc, not_refused, unrefused_pop, unrefused_truncate, unrefused_write}
use Rattle.lv_edits.proofs.TouchLaws.{touched_by-none}
use Rattle.lv_machine.specs.declared.entries.Entry.{Entry}
use Rattle.lv_machine.specs.History.{cell_of, descriptor_of, edits_of, elements_of, Ends, index_written_by, IsLegalHistory, MayFollow}
use Rattle.lv_machine.specs.Layout.{cell_place, mark_place, part_place, place}
use Rattle.lv_machine.specs.declared.moves.Move.{Move}
use Rattle.lv_machine.specs.declared.moves.Move.TheVariants.{Look, Exchange, HelpCell, HelpMark, Install, Read}
use Rattle.lv_machine.specs.Moves.{accepted, AreAllowed, completing, Config, IsComplete, looked, MayExchange, MayInstall, MayMove, moved, raised, reached, ReachableShows, refused_at, Shows, start, verdict_at}
use Rattle.lv_machine.specs.Shows.{block, Fits, FitsPart, FitsPlace, mark_of}
use Rattle.lv_machine.specs.Terms.{AreTerms, blocks_of, Terms}
use Rattle.lv_machine.specs.Words.{bits_written, cell_version, descriptor, descriptor_after, edit_of, HasPending, index_of}
use Rattle.lv_machine.proofs.EndsLaws.{Ends-cons, Ends-whole, legal_earlier}
use Rattle.lv_machine.proofs.HistoryLaws.{cell_of-grows, cell_of-nil, decoded, edits_of-cons, edits_of-nil, legal_within, length-edits_of, mark_of-grows}
use Rattle.lv_machine.proofs.ShowsLaws.{current_cell, current_mark, few_blocks, fits_raised, max_either, one_place, part_grows, pending, place_is, place_within}

-- a word after another word was set
there : (words : List ℕ) (at n : ℕ) → at < length words → slice_index (slice_set words at n) at ≡ n
there words at n within = get_or-set_same words at n 0 within

elsewhere : (words : List ℕ) (at n other : ℕ) → other ≢ at → slice_index (slice_set words at n) other ≡ slice_index words other
elsewhere words at n other apart = get_or-set_other words at other n 0 apart

-- after a word at a place is raised, the words still show the history, if what it is raised to fits
pub raised_shows : (t : Terms) (c : Config) (b r n : ℕ) → Shows t c → b < blocks_of t.limits → r < 16 → ((word : ℕ) → FitsPlace t.folding c.history b r word → FitsPlace t.folding c.history b r (max word n)) → Shows t (raised c (place b r) n)
raised_shows t c b r n shows near short fits =
    let words = c.words in
    let at : ℕ = place b r in
    let new : ℕ = max (slice_index c.words at) n in
    let here : at < length c.words = omega (arith, shows.count, place_within t.limits b r near short) in
    record {
      legal = shows.legal;
      count = length-set c.words at new ∙ shows.count;
      first = elsewhere c.words at new 0 (λ is. omega (arith, place_is b r)) ∙ shows.first;
      places = λ d s near' short'. elim (cases_eq (place d s) at) [
        | inl same ↦
            let pair = one_place d s b r short' short same in
            subst (λ e. FitsPlace t.folding c.history e s (slice_index (slice_set c.words at new) (place d s))) (sym pair.0)
            (subst (λ q. FitsPlace t.folding c.history b q (slice_index (slice_set c.words at new) (place d s))) (sym pair.1)
            (subst (λ p. FitsPlace t.folding c.history b r (slice_index (slice_set c.words at new) p)) (sym same)
            (subst (FitsPlace t.folding c.history b r) (sym (there c.words at new here))
            (fits (slice_index c.words at) (shows.places b r near short)))))
        | inr apart ↦ subst (FitsPlace t.folding c.history d s) (sym (elsewhere c.words at new (place d s) apart)) (shows.places d s near' short')
      ];
      looked = shows.looked;
    }

-- a load of the descriptor makes the look show the history
pub looked_shows : (t : Terms) (c : Config) (a : ℕ) → Shows t c → Shows t (looked c a)
looked_shows t c a shows = record {
  legal = shows.legal;
  count = shows.count;
  first = shows.first;
  places = shows.places;
  looked = λ b. elim (cases_Bool (nat_eq b a)) [
    | inl same ↦ (c.history, Ends-whole c.history, cond-true _ _ _ same ∙ shows.first)
    | inr other ↦ let (k, ends, is) = shows.looked b in (k, ends, cond-false _ _ _ other ∙ is)
  ];
}

-- completing a look's pending write
pub cell_raised_shows : (t : Terms) (c : Config) (k : List Entry) (look : ℕ) → AreTerms t → Shows t c → Ends k c.history → look ≡ descriptor_of k → HasPending look → Shows t (raised c (cell_place (index_of look)) (completing look))
cell_raised_shows t c k look terms shows ends is has =
    let legal = legal_earlier t k c.history ends shows.legal in
    let pend = pending t k terms legal (subst HasPending is has) in
    let i = index_of look in
    let same : index_of (descriptor_of k) ≡ index_of look = ap index_of (sym is) in
    let within : index_of look < capacity_of t.limits.buckets = omega (arith, pend.within) in
    let whole : 8 * (index_of look / 8) + index_of look % 8 ≡ index_of (descriptor_of k) = omega arith in
    let cell : completing look ≡ cell_of (8 * (index_of look / 8) + index_of look % 8) k = ap completing is ∙ pend.cell ∙ ap (λ j. cell_of j k) (sym whole) in
    raised_shows t c (index_of look / 8) (index_of look % 8) (completing look) shows (omega arith) (omega arith)
    (λ word fits. record {
      cell = λ short. subst (λ n. Fits (cell_of (8 * (index_of look / 8) + index_of look % 8)) c.history (max word n)) (sym cell)
          (fits_raised t (cell_of (8 * (index_of look / 8) + index_of look % 8)) (cell_of-grows t (8 * (index_of look / 8) + index_of look % 8)) k c.history word ends shows.legal (fits.cell short));
      mark = λ wrong. absurd (omega arith);
      part = λ wrong. absurd (omega arith);
    })

pub mark_raised_shows : (t : Terms) (c : Config) (k : List Entry) (look : ℕ) → AreTerms t → Shows t c → Ends k c.history → look ≡ descriptor_of k → HasPending look → Shows t (raised c (mark_place (index_of look / 8)) (edit_of look))
mark_raised_shows t c k look terms shows ends is has =
    let legal = legal_earlier t k c.history ends shows.legal in
    let pend = pending t k terms legal (subst HasPending is has) in
    let same : index_of (descriptor_of k) ≡ index_of look = ap index_of (sym is) in
    let within : index_of look < capacity_of t.limits.buckets = omega (arith, pend.within) in
    let mark : edit_of look ≡ mark_of (index_of look / 8) k = ap edit_of is ∙ pend.mark ∙ ap (λ j. mark_of (j / 8) k) same in
    raised_shows t c (index_of look / 8) 8 (edit_of look) shows (omega arith) (omega arith)
    (λ word fits. record {
      cell = λ wrong. absurd (omega arith);
      mark = λ e. subst (λ n. Fits (mark_of (index_of look / 8)) c.history (max word n)) (sym mark)
          (fits_raised t (mark_of (index_of look / 8)) (mark_of-grows t (index_of look / 8)) k c.history word ends shows.legal (fits.mark e));
      part = λ wrong. absurd (omega arith);
    })

-- a part is raised to another part
pub part_raised_shows : (t : Terms) (c : Config) (b p n : ℕ) → AreTerms t → Shows t c → MayInstall t c b p n → Shows t (raised c (part_place b p) n)
part_raised_shows t c b p n terms shows may =
    let few = terms.few_parts in
    let part = may.part in
    let back : (9 + p) - 9 ≡ p = omega arith in
    raised_shows t c b (9 + p) n shows may.block (omega arith)
    (λ word fits. record {
      cell = λ wrong. absurd (omega arith);
      mark = λ wrong. absurd (omega arith);
      part = λ late. elim (max_either word n) [
        | inl is ↦ subst (FitsPart t.folding c.history b ((9 + p) - 9)) (sym is) (fits.part late)
        | inr is ↦ subst (λ q. FitsPart t.folding c.history b q (max word n)) (sym back) (subst (FitsPart t.folding c.history b p) (sym is) may.fits)
      ];
    })

-- the precondition check at a history's descriptor is that at the history
pub same_refusal : (limits : Bounds) (xs : List ℤ) (e : Edit) → refused_on limits xs e ≡ refused_at (capacity_of limits.buckets) (length xs) e
same_refusal limits xs (Push x) = refl
same_refusal limits xs Pop = refl
same_refusal limits xs (Write i x) = refl
same_refusal limits xs (Reserve n) = refl
same_refusal limits xs (Swap i j) = refl
same_refusal limits xs (Truncate n) = refl

pub verdict_at_descriptor : (t : Terms) (h : List Entry) (e : Edit) → AreTerms t → IsLegalHistory t h → verdict_at t.limits (descriptor_of h) e ≡ verdict_of t.limits (edits_of h) e
verdict_at_descriptor t h e terms legal =
    let d = decoded t h terms legal in
    rw (d.edit, d.size, same_refusal, length-edits_of)

-- the size after an update that nothing refuses
abbrev size_after : ℕ → Edit → ℕ
size_after n (Push x) = n + 1
size_after n Pop = n - 1
size_after n (Write i x) = n
size_after n (Reserve k) = n
size_after n (Swap i j) = n
size_after n (Truncate k) = k

one_more : (limits : Bounds) (xs ys : List ℤ) (e : Edit) → refused_on limits xs e ≡ None → applied xs e ≡ Some ys → length ys ≡ size_after (length xs) e
one_more limits xs ys (Push x) free made = omega (arith, ap length (same_Some _ _ made), length_push xs x)
one_more limits xs ys Pop free made = omega (arith, ap length (same_Some _ _ (sym (applied_pop xs (unrefused_pop limits xs free)) ∙ made)), length-take (length xs - 1) xs)
one_more limits xs ys (Write i x) free made = omega (arith, ap length (same_Some _ _ (sym (applied_write xs i x (unrefused_write limits xs i x free)) ∙ made)), length-set xs i x)
one_more limits xs ys (Reserve n) free made = ap length (sym (same_Some _ _ made))
one_more limits xs ys (Swap i j) free made = ap length (sym (cond_some _ _ _ made).1) ∙ length-swap xs i j
one_more limits xs ys (Truncate n) free made = omega (arith, ap length (cond_some _ _ _ made).1, length-take n xs, unrefused_truncate limits xs n free)

pub size_next : (t : Terms) (h : List Entry) (e : Entry) → AreTerms t → IsLegalHistory t h → MayFollow t h e → length (elements_of (e ∷ h)) ≡ size_after (length (elements_of h)) e.edit
size_next t h e terms legal next =
    let es = edits_of h in
    let within = legal_within t h terms legal in
    let possible = accepted_is_possible t.limits es e.edit next.verdict in
    let made = list_of-snoc es e.edit possible.0 within.legal possible.1 in
    ap (λ l. length (list_of l)) (edits_of-cons e h) ∙ ap length made.1 ∙ one_more t.limits (elements_of h) possible.0 e.edit (not_refused t.limits es e.edit next.verdict).1 possible.1

next_by : (t : Terms) (h : List Entry) (a : ℕ) (e : Edit) → AreTerms t → IsLegalHistory t h → MayFollow t h record { actor = a; edit = e } → descriptor_after (descriptor_of h) e ≡ descriptor_of (record { actor = a; edit = e } ∷ h)
unfolding descriptor_of index_written_by
next_by t h a (Push x) terms legal next =
    let d = decoded t h terms legal in
    let size = size_next t h record { actor = a; edit = Push x } terms legal next in
    rw (d.edit, d.size) (ap (λ s. descriptor (length h + 1) s (length (elements_of h)) (bits_written (Push x))) (sym size))
next_by t h a Pop terms legal next =
    let d = decoded t h terms legal in
    let size = size_next t h record { actor = a; edit = Pop } terms legal next in
    rw (d.edit, d.size) (ap (λ s. descriptor (length h + 1) s 4095 0) (sym size))
next_by t h a (Write i x) terms legal next =
    let d = decoded t h terms legal in
    let size = size_next t h record { actor = a; edit = Write i x } terms legal next in
    rw (d.edit, d.size) (ap (λ s. descriptor (length h + 1) s i (bits_written (Write i x))) (sym size))
next_by t h a (Reserve n) terms legal next = absurd next.short
next_by t h a (Swap i j) terms legal next = absurd next.short
next_by t h a (Truncate n) terms legal next = absurd next.short

-- the descriptor after an update is that of the history with the update
pub next_descriptor : (t : Terms) (h : List Entry) (e : Entry) → AreTerms t → IsLegalHistory t h → MayFollow t h e → descriptor_after (descriptor_of h) e.edit ≡ descriptor_of (e ∷ h)
next_descriptor t h e terms legal next = next_by t h e.actor e.edit terms legal next

-- after an accepted update the words show the history with the update
pub accepted_shows : (t : Terms) (c : Config) (a : ℕ) (e : Edit) → AreTerms t → Shows t c → MayExchange t c a e → slice_index c.words 0 ≡ c.looks a → Shows t (accepted c a e)
accepted_shows t c a e terms shows may found =
    let h = c.history in
    let entry : Entry = record { actor = a; edit = e } in
    let look : c.looks a ≡ descriptor_of c.history = sym found ∙ shows.first in
    let next : MayFollow t c.history record { actor = a; edit = e } = record {
      actor = may.actor;
      short = may.short;
      verdict = sym (verdict_at_descriptor t c.history e terms shows.legal) ∙ subst (λ w. verdict_at t.limits w e ≡ None) look may.verdict;
    } in
    let word : descriptor_after (c.looks a) e ≡ descriptor_of (record { actor = a; edit = e } ∷ c.history) = ap (λ w. descriptor_after w e) look ∙ next_descriptor t c.history record { actor = a; edit = e } terms shows.legal next in
    let complete : IsComplete c.words (descriptor_of c.history) = subst (IsComplete c.words) look may.complete in
    let edit = (decoded t c.history terms shows.legal).edit in
    let some : 0 < length c.words = omega (arith, shows.count) in
    record {
      legal = (shows.legal, next);
      count = length-set c.words 0 (descriptor_after (c.looks a) e) ∙ shows.count;
      first = there c.words 0 (descriptor_after (c.looks a) e) some ∙ word;
      places = λ b r near short.
          let was = shows.places b r near short in
          subst (FitsPlace t.folding (record { actor = a; edit = e } ∷ c.history) b r) (sym (elsewhere c.words 0 (descriptor_after (c.looks a) e) (place b r) (λ is. omega (arith, place_is b r))))
          record {
            cell = λ brief. record {
              shown = inr (current_cell t (8 * b + r) c.history (slice_index c.words (place b r)) terms shows.legal (was.cell brief)
                  (λ is. let same : place (index_of (descriptor_of c.history) / 8) (index_of (descriptor_of c.history) % 8) ≡ place b r = ap (λ i. place (i / 8) (i % 8)) is ∙ (let p = place_is ((8 * b + r) / 8) ((8 * b + r) % 8) in let q = place_is b r in omega arith) in
                  let few = few_blocks t terms in
                  omega (arith, complete.cell (omega arith), ap (λ p. cell_version (slice_index c.words p)) same)));
            };
            mark = λ eight. record {
              shown = inr (current_mark t b c.history (slice_index c.words (place b r)) terms near shows.legal (was.mark eight)
                  (λ has is. let same : place (index_of (descriptor_of c.history) / 8) 8 ≡ place b r = ap (λ i. place i 8) is ∙ ap (place b) (sym eight) in
                  omega (arith, complete.mark has, ap (λ p. slice_index c.words p) same)));
            };
            part = λ late. part_grows t.folding c.history record { actor = a; edit = e } b (r - 9) (slice_index c.words (place b r)) (was.part late);
          };
      looked = λ b. elim (cases_Bool (nat_eq b a)) [
        | inl same ↦ (record { actor = a; edit = e } ∷ c.history, Ends-whole (record { actor = a; edit = e } ∷ c.history), cond-true _ _ _ same ∙ word)
        | inr other ↦ let (k, ends, is) = shows.looked b in (k, Ends-cons k c.history record { actor = a; edit = e } ends, cond-false _ _ _ other ∙ is)
      ];
    }

exchanged_shows : (t : Terms) (c : Config) (a : ℕ) (e : Edit) (found : Bool) → nat_eq (slice_index c.words 0) (c.looks a) ≡ found → AreTerms t → Shows t c → MayExchange t c a e → Shows t (if found then accepted c a e else looked c a)
exchanged_shows t c a e true is terms shows may = accepted_shows t c a e terms shows may (eqb-true _ _ is)
exchanged_shows t c a e false is terms shows may = looked_shows t c a shows

-- after each allowed move the words still show the history
pub moved_shows : (t : Terms) (c : Config) (m : Move) → AreTerms t → Shows t c → MayMove t c m → Shows t (moved c m)
moved_shows t c (Look a) terms shows may = looked_shows t c a shows
moved_shows t c (Exchange a e) terms shows may = exchanged_shows t c a e (nat_eq (slice_index c.words 0) (c.looks a)) refl terms shows may
moved_shows t c (HelpCell a) terms shows may = let (k, ends, is) = shows.looked a in cell_raised_shows t c k (c.looks a) terms shows ends is may
moved_shows t c (HelpMark a) terms shows may = let (k, ends, is) = shows.looked a in mark_raised_shows t c k (c.looks a) terms shows ends is may
moved_shows t c (Install a b p word) terms shows may = part_raised_shows t c b p word terms shows may
moved_shows t c (Read a) terms shows may = shows

-- at the start all words but the first are 0
zeros : (n p : ℕ) → slice_index (replicate n 0) p ≡ 0
zeros zero p = refl
zeros (suc n) zero = refl
zeros (suc n) (suc p) = zeros n p

start_word : (n p first : ℕ) → 0 < p → slice_index (first ∷ replicate n 0) p ≡ 0
start_word n zero first some = absurd (omega arith)
start_word n (suc p) first some = zeros n p

pub start_shows : (t : Terms) → AreTerms t → Shows t (start t)
start_shows t terms = record {
  legal = tt;
  count = omega (arith, length-replicate {A = ℕ} (16 * blocks_of t.limits) 0);
  first = refl;
  places = λ b r near short. rw (start_word (16 * blocks_of t.limits) (place b r) (descriptor_of []) (omega (arith, place_is b r))) record {
    cell = λ brief. record { shown = inl (sym (cell_of-nil (8 * b + r))) };
    mark = λ eight. record { shown = inl (sym (ap (λ es. touched_by es (block b)) edits_of-nil ∙ touched_by-none (block b))) };
    part = λ late. record { shown = inl refl };
  };
  looked = λ a. ([], Ends-whole [], refl);
}

pub reached_shows : (t : Terms) (ms : List Move) → AreTerms t → AreAllowed t ms → Shows t (reached t ms)
unfolding reached
reached_shows t [] terms allowed = start_shows t terms
reached_shows t (m ∷ ms) terms (before, may) = moved_shows t (reached t ms) m terms (reached_shows t ms terms before) may

-- the words of every reachable state show its history
pub reachable_shows : ReachableShows
reachable_shows t c terms reachable = subst (Shows t) reachable.reached_is (reached_shows t reachable.moves terms reachable.allowed)
