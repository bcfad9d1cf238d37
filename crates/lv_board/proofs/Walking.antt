-- How the loads of a reduction and of a refresh make the fold.
use Rattle.std.proofs.Common.{◌≡◌, ℕ, zero, suc, ℤ, pos, ◌+◌, ◌-◌, ◌*◌, ◌/◌, ◌%◌, ◌<◌, ◌≤◌, true, false, None, List, ◌++◌, append_assoc, Result, Ok, Err, length, nat_lt, slice_index, slice_set, replicate, length-set, refl, sym, ap, ◌∙◌, subst, inl, inr, arith}
use Rattle.std.specs.Prelude.{take, drop, slice_range, All}
use Rattle.std.specs.List.{slice_index_or}
use Rattle.std.proofs.Math.Nat.{add-mul, one-mul}
use Rattle.std.proofs.lemmas.Bool.{cases_lt, cases_eq, cond-false}
use Rattle.std.proofs.lemmas.Bool.Decides.{nat_tests}
use Rattle.std.proofs.lemmas.List.{get_or_default, get_or_past, get_or-replicate, get_or-set_other, get_or-set_same, replicate-append-replicate}
use Rattle.std.proofs.lemmas.List.Elements.{All-drop, All-head, All-tail, All-take}
use Rattle.atomic_table.specs.Seated.{TableId}
use Rattle.lv_geometry.specs.Cells.{capacity_of}
use Rattle.lv_geometry.specs.declared.refusals.Refusal.{Refusal}
use Rattle.lv_bodies.specs.Body.{Operations, BodyLaws, CanFold, CanGrow, CanJoin, fold_of}
use Rattle.lv_bodies.specs.Parts.{AreParts, HasParts, IsShort}
use Rattle.lv_edits.specs.declared.edit.Edit.{Edit}
use Rattle.lv_edits.specs.History.{list_of}
use Rattle.lv_edits.specs.Touch.{elements_under, is_whole}
use Rattle.lv_edits.proofs.TouchLaws.{elements_under-length}
use Rattle.lv_edits.specs.Ranges.{range_refusal}
use Rattle.lv_reduce.proofs.PieceLaws.{slice-joined, slice-within, slices_can_join}
use Rattle.lv_reduce.proofs.ScanLaws.{fold_of-slice-more}
use Rattle.lv_machine.specs.declared.entries.Entry.{Entry}
use Rattle.lv_machine.specs.declared.moves.Move.TheVariants.{Read}
use Rattle.lv_machine.specs.History.{cell_of, edits_of, elements_of, IsLegalHistory}
use Rattle.lv_machine.specs.Layout.{part_place}
use Rattle.lv_machine.specs.Shows.{block, mark_of}
use Rattle.lv_machine.specs.Terms.{AreTerms, Folding, Terms}
use Rattle.lv_machine.specs.Words.{HasPending, part_value, part_version, part_word, signed, value_of}
use Rattle.lv_machine.proofs.HistoryLaws.{legal_within, length-edits_of, size_below}
use Rattle.lv_machine.proofs.ReadLaws.{all_short, cell_element, part_is}
use Rattle.lv_machine.proofs.ReadyLaws.{block_whole}
use Rattle.lv_machine.proofs.RightLaws.{same_list}
use Rattle.lv_board.specs.declared.actors.Actor.{Actor}
use Rattle.lv_board.specs.declared.actors.Basis.{Basis}
use Rattle.lv_board.specs.declared.actors.InstalledPart.{InstalledPart}
use Rattle.lv_board.specs.declared.underway.BoardWalk.{BoardWalk}
use Rattle.lv_board.specs.declared.seats.Seat.{Seat}
use Rattle.lv_board.specs.Calls.{AreInstalled, HasLooked, IsRangeAnswer}
use Rattle.lv_board.specs.Plays.{IsRead, SeesAll}
use Rattle.lv_board.specs.Rule.{IsThere, terms_of}
use Rattle.lv_board.specs.Tells.{actor_of, IsAt, moves_of}
use Rattle.lv_board.specs.Steps.{HasInstalled, IsCellTaken, IsHelped, IsMarkTaken, IsWordLoaded}
use Rattle.lv_board.specs.Moved.{loads_of}
use Rattle.lv_board.specs.Walks.{block_fold, block_installed, Comes, GoesOn, HasCome, HasRead, loads_in, MayRead, Sums}
use Rattle.lv_board.proofs.Calling.{helped_quiet, looked_then, quiet_same, quiet_then}

-- the first of four numbers are the first parts of an aggregate, and the others are 0
pub record AreTaken {S : Type 0} (parts_of : S → List ℕ) (s : S) (number : ℕ) (values : List ℕ) : Type 0 where
  pub four : length values ≡ 4
  pub taken : (p : ℕ) → p < number → slice_index values p ≡ slice_index (parts_of s) p
  pub others : (p : ℕ) → number ≤ p → slice_index values p ≡ 0

-- a seat that has loaded nothing yet
pub read_nothing : {B : Type 0} (s : Seat B) → HasRead 0 s s
read_nothing s = record {
  stays = record { table = refl; terms = refl };
  look = refl;
  quiet = quiet_same (actor_of s) (actor_of s) refl refl refl;
  rest = refl;
  moves = refl;
}

-- loads one after the other
pub read_then : {B : Type 0} (n k : ℕ) (s m u : Seat B) → HasRead n s m → HasRead k m u → HasRead (k + n) s u
read_then n k s m u first second = record {
  stays = record { table = second.stays.table ∙ first.stays.table; terms = second.stays.terms ∙ first.stays.terms };
  look = second.look ∙ first.look;
  quiet = quiet_then (actor_of s) (actor_of m) (actor_of u) first.quiet second.quiet;
  rest = second.rest ∙ ap (λ (a : Actor). record a { known = (actor_of u).known }) first.rest;
  moves =
      second.moves
      ∙ ap (λ (a : ℕ). loads_of k a ++ moves_of m) first.quiet.number
      ∙ ap (λ ms. loads_of k (actor_of s).number ++ ms) first.moves
      ∙ sym (append_assoc (loads_of k (actor_of s).number) (loads_of n (actor_of s).number) (moves_of s))
      ∙ ap (λ ms. ms ++ moves_of s) (replicate-append-replicate k n (Read (actor_of s).number));
}

-- after loads the seat sees what it saw, and may load more
pub seen_still : {B : Type 0} (n : ℕ) (s u : Seat B) → HasRead n s u → (actor_of u).seen ≡ (actor_of s).seen
seen_still n s u read = ap (λ (a : Actor). a.seen) read.rest

pub at_still : {B : Type 0} (table : TableId) (z : Basis B) (n : ℕ) (s u : Seat B) → IsAt table z s → HasRead n s u → IsAt table z u
at_still table z n s u is read = record { at = read.stays.table ∙ is.at; terms = read.stays.terms ∙ is.terms }

pub may_still : {B : Type 0} (t : Terms) (n : ℕ) (s u : Seat B) → MayRead t s → HasRead n s u → MayRead t u
may_still t n s u may read = record {
  terms = may.terms;
  legal = subst (IsLegalHistory t) (sym (seen_still n s u read)) may.legal;
  ready = record {
    helped = λ has. ap (λ (a : Actor). a.helped) read.rest ∙ may.ready.helped (subst HasPending read.look has);
    marked = λ has. ap (λ (a : Actor). a.marked) read.rest ∙ may.ready.marked (subst HasPending read.look has);
  };
}

-- the load of a word is one load
pub word_read : {B : Type 0} (f : B → Folding) (at found : ℕ) (s u : Seat B) → IsWordLoaded f at found s u → HasRead 1 s u
word_read f at found s u loaded = record { stays = loaded.stays; look = loaded.look; quiet = loaded.read.quiet; rest = loaded.read.rest; moves = loaded.moves }

-- the load of a cell is one load, and that of a mark too
pub cell_is_read : {B : Type 0} (t : Terms) (i : ℕ) (result : Result ℤ Refusal) (s u : Seat B) → IsCellTaken t i result s u → HasRead 1 s u
cell_is_read t i result s u taken = record { stays = taken.stays; look = taken.look; quiet = taken.quiet; rest = taken.rest; moves = taken.moves }

pub mark_is_read : {B : Type 0} (t : Terms) (b : ℕ) (result : Result ℕ Refusal) (s u : Seat B) → IsMarkTaken t b result s u → HasRead 1 s u
mark_is_read t b result s u taken = record { stays = taken.stays; look = taken.look; quiet = taken.quiet; rest = taken.rest; moves = taken.moves }

-- a part with the mark's version is that of the full block's fold
pub part_read : (t : Terms) (x y : Actor) (at found b p : ℕ) → IsRead t x y at found → 8 * b < capacity_of t.limits.buckets → p < t.folding.parts → at ≡ part_place b p → is_whole (edits_of x.seen) (block b) ≡ true → part_version found ≡ mark_of b x.seen → part_value found ≡ t.folding.part p (elements_under (edits_of x.seen) (block b))
part_read t x y at found b p read within few place whole version = part_is t b p found x.seen y.known read.terms read.legal read.seen (read.part b p (omega arith) few place) whole version

-- of four zeros each is 0
zeros : (p : ℕ) → slice_index (replicate 4 0) p ≡ 0
zeros p = elim (cases_lt p 4) [ inl less ↦ get_or-replicate 4 p 0 0 less | inr past ↦ get_or_past (replicate 4 0) p 0 past ]

module _ {S : Type 0} (parts_of : S → List ℕ) (s : S) where
  -- no part was taken yet
  pub none_taken : AreTaken parts_of s 0 (replicate 4 0)
  none_taken = record { four = refl; taken = λ p less. absurd (omega (arith, less)); others = λ p more. zeros p }

  -- with one more
  pub one_more_taken : (number value : ℕ) (values : List ℕ) → number < 4 → AreTaken parts_of s number values → value ≡ slice_index (parts_of s) number → AreTaken parts_of s (number + 1) (slice_set values number value)
  one_more_taken number value values few were is = record {
    four = length-set values number value ∙ were.four;
    taken = λ p less. elim (cases_eq p number) [
      | inl same ↦
          let here : number < length values = omega (arith, were.four) in
          subst (λ q. slice_index (slice_set values number value) q ≡ slice_index (parts_of s) q) (sym same) (get_or-set_same values number value 0 here ∙ is)
      | inr other ↦ get_or-set_other values number p value 0 other ∙ were.taken p (omega arith)
    ];
    others = λ p more. get_or-set_other values number p value 0 (λ same. omega arith) ∙ were.others p (omega arith);
  }

  -- all of them
  pub all_taken : (count number : ℕ) (values : List ℕ) → AreParts count parts_of → count ≤ number → AreTaken parts_of s number values → values ≡ parts_of s
  all_taken count number values are over were =
      same_list values (parts_of s) (were.four ∙ sym (are.four s)) (λ p. elim (cases_lt p number) [
        | inl less ↦ were.taken p less
        | inr past ↦ were.others p past ∙ sym (are.unused s p (omega arith))
      ])

module _ {S : Type 0} (o : Operations S) (within : S → ℕ → Type 0) (laws : BodyLaws o within) (t : Terms) (k : List Entry) (terms : AreTerms t) (legal : IsLegalHistory t k) where
  can : CanFold (elements_of k)
  can = let inside = legal_within t k terms legal in record { few = omega (arith, inside.few); elements = inside.elements }

  -- the fold of a walk can take one more element
  pub may_grow : (walk : BoardWalk S) → Sums o k walk → CanGrow within walk.sum
  may_grow walk w =
      let few = size_below t k terms legal in
      record {
        count = walk.at - walk.lo;
        count_within = subst (λ u. within u (walk.at - walk.lo)) (sym w.sum) (slice-within o within laws (elements_of k) can walk.lo walk.at w.low w.inside);
        few = omega (arith, w.inside);
      }

  -- a walk with the cell at its position
  pub cell_added : (walk : BoardWalk S) (s : S) (x y : ℤ) → Sums o k walk → walk.at < length (elements_of k) → x ≡ signed (value_of (cell_of walk.at k)) → y ≡ x → s ≡ o.join walk.sum (o.lift y) → Sums o k record { lo = walk.lo; at = walk.at + 1; sum = s; cells = walk.cells + 1; summaries = walk.summaries }
  cell_added walk s x y w small taken same is =
      let value : x ≡ slice_index_or (elements_of k) walk.at x = taken ∙ cell_element t walk.at k terms legal small ∙ get_or_default (elements_of k) walk.at (pos 0) x small in
      record {
        low = omega (arith, w.low);
        inside = omega arith;
        sum = fold_of-slice-more o (elements_of k) walk.lo walk.at x w.low small value walk.sum s y same w.sum is;
        counts = omega (arith, w.counts);
      }

  module _ (parts_of : S → List ℕ) (whole_of : List ℕ → S) (has : HasParts parts_of whole_of o) (walk : BoardWalk S) (w : Sums o k walk) (begins : walk.at % 8 ≡ 0) (inside : walk.at + 8 ≤ length (elements_of k)) where
    -- all parts of a block together make the fold of its eight elements
    whole_is : (parts : List ℕ) → parts ≡ parts_of (block_fold o (walk.at / 8) k) → whole_of parts ≡ fold_of o (slice_range (elements_of k) walk.at (walk.at + 8))
    whole_is parts is =
        let first : walk.at / 8 * 8 ≡ walk.at = omega arith in
        let wide : 8 ≡ walk.at + 8 - walk.at = omega arith in
        let eight = elements_under-length (edits_of k) (block (walk.at / 8)) (block_whole t k terms legal (walk.at / 8) (omega arith)) in
        let short : All IsShort (elements_under (edits_of k) (block (walk.at / 8))) = All-take IsShort 8 (drop (walk.at / 8 * 8) (elements_of k)) (All-drop IsShort (walk.at / 8 * 8) (elements_of k) (all_short t k terms legal)) in
        ap whole_of is
        ∙ has (elements_under (edits_of k) (block (walk.at / 8))) eight short
        ∙ ap (λ n. fold_of o (take 8 (drop n (elements_of k)))) first
        ∙ ap (λ n. fold_of o (take n (drop walk.at (elements_of k)))) wide

    -- it can be joined to the walk's fold
    pub block_can_join : (parts : List ℕ) → parts ≡ parts_of (block_fold o (walk.at / 8) k) → CanJoin within walk.sum (whole_of parts)
    block_can_join parts is = slices_can_join o within laws (elements_of k) can walk.lo walk.at (walk.at + 8) w.low (omega arith) inside walk.sum (whole_of parts) w.sum (whole_is parts is)

    -- a walk with that block
    pub block_added : (parts : List ℕ) (u s : S) → parts ≡ parts_of (block_fold o (walk.at / 8) k) → u ≡ whole_of parts → s ≡ o.join walk.sum u → HasCome o k walk.lo (walk.at + 8) record { lo = walk.lo; at = walk.at + 8; sum = s; cells = walk.cells; summaries = walk.summaries + 1 }
    block_added parts u s is whole joined = record {
      from = refl;
      here = refl;
      sums = record {
        low = omega (arith, w.low);
        inside = inside;
        sum = slice-joined o within laws (elements_of k) can walk.lo walk.at (walk.at + 8) w.low (omega arith) inside walk.sum u s w.sum (whole ∙ whole_is parts is) joined;
        counts = omega (arith, w.counts);
      };
    }

-- the counts of a walk with one more block
pub block_counted : (parts cells summaries : ℕ) → cells + (summaries + 1) * suc parts ≡ cells + summaries * suc parts + (1 + parts)
block_counted parts cells summaries = let more : (summaries + 1) * suc parts ≡ summaries * suc parts + suc parts = add-mul summaries 1 (suc parts) ∙ ap (λ n. summaries * suc parts + n) (one-mul (suc parts)) in omega (arith, more)

-- a walk that reaches an index after some loads
pub come_then : {B S : Type 0} (o : Operations S) (parts before lo at n : ℕ) (result : Result (BoardWalk S) Refusal) (s m u : Seat B) → HasRead n s m → Comes o parts before lo at result m u → Comes o parts before lo at result s u
come_then o parts before lo at n (Ok walk) s m u first next = record {
  loads = next.loads + n;
  read = read_then n next.loads s m u first next.read;
  come = subst (λ h. HasCome o h lo at walk) (seen_still n s m first) next.come;
  counted = omega (arith, next.counted);
  overtaken = tt;
}
come_then o parts before lo at n (Err refusal) s m u first next = record {
  loads = next.loads + n;
  read = read_then n next.loads s m u first next.read;
  come = tt;
  counted = tt;
  overtaken = (next.overtaken.0, omega (arith, next.overtaken.1));
}

-- a walk that has passed one more cell or block has proceeded
pub come_on : {B S : Type 0} (o : Operations S) (parts hi at : ℕ) (walk : BoardWalk S) (result : Result (BoardWalk S) Refusal) (s u : Seat B) → walk.at + 1 ≤ at → at ≤ hi → Comes o parts (loads_in parts walk) walk.lo at result s u → GoesOn o parts hi walk result s u
come_on o parts hi at walk (Ok next) s u further most comes = record {
  loads = comes.loads;
  read = comes.read;
  gone = record { from = comes.come.from; further = omega (arith, comes.come.here); most = omega (arith, comes.come.here); sums = comes.come.sums };
  counted = comes.counted;
  overtaken = tt;
}
come_on o parts hi at walk (Err refusal) s u further most comes = record { loads = comes.loads; read = comes.read; gone = tt; counted = tt; overtaken = comes.overtaken }

-- a seat that looked, and completed its pending write, may load
pub may_after : {B : Type 0} (f : B → Folding) (y z : Basis B) (m u : Seat B) (found : ℕ) → y ≡ z → SeesAll (terms_of f y) (actor_of m) found → IsHelped m u → MayRead (terms_of f z) u
may_after f y z m u found same sees helped = subst (λ w. MayRead (terms_of f w) u) same record {
  terms = sees.terms;
  legal = subst (IsLegalHistory (terms_of f y)) (sym helped.seen) sees.legal;
  ready = helped.ready;
}

-- after its loads it still sees what it looked at
pub looked_and_read : {B : Type 0} (t : Terms) (x : Actor) (n : ℕ) (m u w : Seat B) → HasLooked t x (actor_of m) → IsHelped m u → HasRead n u w → HasLooked t x (actor_of w)
looked_and_read t x n m u w looked helped read =
    looked_then t x (actor_of m) (actor_of w) looked
    (quiet_then (actor_of m) (actor_of u) (actor_of w) (helped_quiet (actor_of m) (actor_of u) helped.made helped.known helped.number) read.quiet)
    (seen_still n u w read ∙ helped.seen)

-- it sees nothing else after it has installed parts either
pub looked_and_installed : {B : Type 0} (t : Terms) (x : Actor) (parts : List InstalledPart) (u w : Seat B) → HasLooked t x (actor_of u) → HasInstalled parts u w → HasLooked t x (actor_of w)
looked_and_installed t x parts u w looked has =
    looked_then t x (actor_of u) (actor_of w) looked
    (quiet_same (actor_of u) (actor_of w) (ap (λ (a : Actor). a.number) has.actor) (ap (λ (a : Actor). a.known) has.actor) (ap (λ (a : Actor). a.own) has.actor))
    (ap (λ (a : Actor). a.seen) has.actor)

-- each of the first parts of a block is among those that were installed
part_there : (t : Terms) (words : List ℕ) (b p n : ℕ) (h : List Entry) (before : List InstalledPart) → p < n → All (IsThere words) (block_installed t b h n before) → part_word (mark_of b h) (t.folding.part p (elements_under (edits_of h) (block b))) ≤ slice_index words (part_place b p)
part_there t words b p zero h before within all = absurd (omega arith)
part_there t words b p (suc n) h before within all = elim (cases_lt p n) [
  | inl earlier ↦ part_there t words b p n h before earlier (All-tail (IsThere words) record { place = part_place b n; word = part_word (mark_of b h) (t.folding.part n (elements_under (edits_of h) (block b))) } (block_installed t b h n before) all)
  | inr last ↦
      let here : n ≡ p = omega arith in
      subst (λ q. part_word (mark_of b h) (t.folding.part q (elements_under (edits_of h) (block b))) ≤ slice_index words (part_place b q)) here
      (All-head (IsThere words) record { place = part_place b n; word = part_word (mark_of b h) (t.folding.part n (elements_under (edits_of h) (block b))) } (block_installed t b h n before) all).word
]

-- the parts of a block that were installed are kept in all words that have what was installed
pub are_installed : {B : Type 0} (t : Terms) (b : ℕ) (u w : Seat B) → HasInstalled (block_installed t b (actor_of u).seen t.folding.parts (actor_of u).installed) u w → AreInstalled t b (actor_of w)
are_installed t b u w has = λ words p there within.
    let all = subst (λ l. All (IsThere words) l) (ap (λ (a : Actor). a.installed) has.actor) there in
    let same : (actor_of w).seen ≡ (actor_of u).seen = ap (λ (a : Actor). a.seen) has.actor in
    subst (λ h. part_word (mark_of b h) (t.folding.part p (elements_under (edits_of h) (block b))) ≤ slice_index words (part_place b p)) (sym same)
    (part_there t words b p t.folding.parts (actor_of u).seen (actor_of u).installed within all)

-- nothing refuses a range in the list
range_free : (es : List Edit) (lo hi : ℕ) → lo ≤ hi → hi ≤ length (list_of es) → range_refusal es lo hi ≡ None
range_free es lo hi order inside =
    let first : nat_lt hi lo ≡ false = grind (arith, nat_tests) in
    let second : nat_lt (length (list_of es)) hi ≡ false = grind (arith, nat_tests) in
    cond-false _ _ _ first ∙ cond-false _ _ _ second

-- a walk that has reached the end of its range has the answer
pub summed : {S : Type 0} (o : Operations S) (k : List Entry) (lo hi edit : ℕ) (walk : BoardWalk S) → lo ≤ hi → edit ≡ length k → HasCome o k lo hi walk → IsRangeAnswer (fold_of o) (edits_of k) lo hi record { edit = edit; value = walk.sum; cells_read = walk.cells; summaries_read = walk.summaries }
summed o k lo hi edit walk order is come =
    let sums = come.sums in
    record {
      granted = range_free (edits_of k) lo hi order (omega (arith, come.here, sums.inside));
      edit = is ∙ sym (length-edits_of k);
      value = sums.sum ∙ ap (λ n. fold_of o (slice_range (elements_of k) n walk.at)) come.from ∙ ap (λ n. fold_of o (slice_range (elements_of k) lo n)) come.here;
      reads = omega (arith, come.from, come.here, sums.counts);
    }
