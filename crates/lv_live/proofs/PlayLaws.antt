-- What the loop over events keeps.
use Rattle.std.proofs.Common.{◌≡◌, List, [], ◌∷◌, ◌++◌, refl, sym, ap, ◌∙◌}
use Rattle.std.proofs.lemmas.List.{append-nil, append_assoc}
use Rattle.lv_geometry.specs.Bounds.{Bounds}
use Rattle.lv_bodies.specs.Body.{Operations}
use Rattle.lv_refresh.specs.Carried.{Carried}
use Rattle.lv_refresh.specs.Record.{Record}
use Rattle.lv_live.specs.declared.events.Event.{Event}
use Rattle.lv_live.specs.declared.replies.ReplyOf.{ReplyOf}
use Rattle.lv_live.specs.Kept.{IsWorld}
use Rattle.lv_live.specs.State.{LiveState, with_issued}
use Rattle.lv_live.specs.Step.{Run, Step}
use Rattle.lv_live.proofs.WorldLaws.{run_goes_on}

-- some events were played from a record, and their replies put after others
pub record Plays {B S : Type 0} (o : Operations S) (limits : Bounds) (first : Record) (events : List Event) (before replies : List (ReplyOf S)) (live : LiveState B S) (jobs : List (Carried B S)) : Type 0 where
  pub world : IsWorld o live jobs
  pub said : List (ReplyOf S)
  pub all : replies ≡ before ++ said
  pub run : Run o limits first events said (with_issued live jobs)

-- none was played
pub plays_none : {B S : Type 0} (o : Operations S) (limits : Bounds) (before : List (ReplyOf S)) (live : LiveState B S) (jobs : List (Carried B S)) → IsWorld o live jobs → Plays o limits (with_issued live jobs) [] before before live jobs
plays_none o limits before live jobs world = record { world = world; said = []; all = sym (append-nil before); run = refl }

-- one more was played
pub plays_more : {B S : Type 0} (o : Operations S) (limits : Bounds) (first : Record) (events all : List Event) (before replies : List (ReplyOf S)) (live next : LiveState B S) (jobs more : List (Carried B S)) (event : Event) (reply : ReplyOf S)
    → Plays o limits first events before replies live jobs → Step o limits (with_issued live jobs) event reply (with_issued next more) → IsWorld o next more → all ≡ events ++ event ∷ [] → Plays o limits first all before (replies ++ reply ∷ []) next more
plays_more o limits first events all before replies live next jobs more event reply plays step world is =
    record {
      world = world;
      said = plays.said ++ reply ∷ [];
      all = ap (λ replies. replies ++ reply ∷ []) plays.all ∙ append_assoc before plays.said (reply ∷ []);
      run = rw is (run_goes_on o limits first (with_issued live jobs) (with_issued next more) events plays.said event reply plays.run step);
    }
