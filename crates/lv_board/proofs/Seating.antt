-- What remains true of a seat from step to step.
use Rattle.std.proofs.Common.{◌≡◌, ℕ, ◌*◌, ◌/◌, ◌%◌, ◌<◌, List, [], ◌∷◌, refl, sym, ap, ◌∙◌, subst, arith}
use Rattle.lv_geometry.specs.Cells.{capacity_of}
use Rattle.lv_machine.specs.declared.entries.Entry.{Entry}
use Rattle.lv_machine.specs.declared.moves.Move.{Move}
use Rattle.lv_machine.specs.History.{descriptor_of, IsLegalHistory, own}
use Rattle.lv_machine.specs.Terms.{AreTerms, Folding, Terms}
use Rattle.lv_machine.proofs.HistoryLaws.{decoded, legal_within, length_below}
use Rattle.lv_machine.specs.Layout.{cell_place, count_of, place}
use Rattle.lv_machine.proofs.ShowsLaws.{pending, place_is}
use Rattle.lv_board.specs.declared.actors.Actor.{Actor}
use Rattle.lv_board.specs.declared.actors.Basis.{Basis}
use Rattle.lv_board.specs.declared.actors.View.{View}
use Rattle.lv_board.specs.Tells.{IsQuiet}
use Rattle.lv_board.specs.Plays.{SeesAll}
use Rattle.lv_board.specs.TableRule.{IsSeat}
use Rattle.lv_board.specs.Rule.{terms_of, limits_of}
use Rattle.lv_board.specs.Stands.{IsLook}

-- a view with another actor and other moves is a seat's if it was before
pub seat_after : {B : Type 0} {moves : List Move} (v w : View B) (x : Actor) → w ≡ record v { actor = x; moves = moves } → IsSeat v → IsSeat w
seat_after v w x same seat = record {
  sits = ap (λ u. u.sits) same ∙ seat.sits;
  deals = ap (λ u. u.deals) same ∙ seat.deals;
  more = ap (λ u. u.more) same ∙ seat.more;
}

pub based_after : {B : Type 0} {moves : List Move} (v w : View B) (z : Basis B) (x : Actor) → w ≡ record v { actor = x; moves = moves } → v.bases ≡ z ∷ [] → w.bases ≡ z ∷ []
based_after v w z x same based = ap (λ u. u.bases) same ∙ based

-- the descriptor of a legal history is a look
pub legal_look : (t : Terms) (h : List Entry) → AreTerms t → IsLegalHistory t h → IsLook t.limits.buckets t.limits.edits (descriptor_of h) h
legal_look t h terms legal =
    let d = decoded t h terms legal in
    let within = legal_within t h terms legal in
    record {
      shown = refl;
      edit = d.edit;
      size = d.size;
      few_edits = omega (arith, d.edit, length_below t h terms legal);
      few_cells = omega (arith, d.size, within.size);
      pending = λ has. (pending t h terms legal has).within;
    }

-- the descriptor that was found by a seat that sees all is a look
pub look_found : {B : Type 0} (f : B → Folding) (z : Basis B) (y : Actor) (found : ℕ) → SeesAll (terms_of f z) y found → IsLook z.buckets z.edits found y.seen
look_found f z y found sees = subst (λ w. IsLook z.buckets z.edits w y.seen) (sym sees.found_is) (legal_look (terms_of f z) y.seen sees.terms sees.legal)

-- a look of a history is one of an equal history
pub same_look : (buckets edits look : ℕ) (seen seen' : List Entry) → seen' ≡ seen → IsLook buckets edits look seen → IsLook buckets edits look seen'
same_look buckets edits look seen seen' same is = subst (IsLook buckets edits look) (sym same) is

-- the words of a cell, and of a block, are among the words of the board
pub cell_among : {B : Type 0} (y z : Basis B) (words at i : ℕ) → y ≡ z → words ≡ count_of (limits_of z) → i < capacity_of y.buckets → at ≡ cell_place i → at < words
cell_among y z words at i same count within is =
    let buckets : y.buckets ≡ z.buckets = ap (λ b. b.buckets) same in
    let cells : capacity_of y.buckets ≡ capacity_of z.buckets = ap capacity_of buckets in
    omega (arith, place_is (i / 8) (i % 8))

pub block_among : {B : Type 0} (y z : Basis B) (words at b r : ℕ) → y ≡ z → words ≡ count_of (limits_of z) → 8 * b < capacity_of y.buckets → r < 16 → at ≡ place b r → at < words
block_among y z words at b r same count within short is =
    let buckets : y.buckets ≡ z.buckets = ap (λ b. b.buckets) same in
    let cells : capacity_of y.buckets ≡ capacity_of z.buckets = ap capacity_of buckets in
    omega (arith, place_is b r)

-- what an actor made is its own after steps without an update, too
pub made_after : (x y : Actor) → IsQuiet x y → own x.number x.known ≡ x.own → own y.number y.known ≡ y.own
made_after x y quiet was = ap (λ n. own n y.known) quiet.number ∙ quiet.own_is ∙ was ∙ sym quiet.made

pub made_same : (x y : Actor) → y.number ≡ x.number → y.known ≡ x.known → y.own ≡ x.own → own x.number x.known ≡ x.own → own y.number y.known ≡ y.own
made_same x y number known own_same was = ap (λ n. own n y.known) number ∙ ap (own x.number) known ∙ was ∙ sym own_same
