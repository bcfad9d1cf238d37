-- What a turn in place keeps: a claim, and the fold of the node's elements installed.
use Rattle.std.proofs.Common.{◌≡◌, ℕ, zero, suc, ◌+◌, Bool, true, false, None, option_map, refl, sym, ap, subst, ◌∙◌, inl, inr, arith}
use Rattle.std.proofs.lemmas.Bool.{and_parts, cases_Bool}
use Rattle.lv_geometry.specs.declared.nodes.Node.{Node}
use Rattle.lv_bodies.specs.Body.{BodyLaws, Operations, fold_of}
use Rattle.lv_edits.specs.Touch.{elements_under}
use Rattle.lv_summary.specs.declared.accepted.Accepted.TheVariants.{Installed}
use Rattle.lv_summary.specs.Table.{Table, delivery_in, fresh_in, kept_in}
use Rattle.lv_summary.proofs.TableLaws.{current_of_installed, version_kept}
use Rattle.lv_refresh.specs.ClaimTable.{AreHints, ClaimTable, claim_blocks, claimed_in, record_of}
use Rattle.lv_summary.specs.Agrees.{Agrees}
use Rattle.lv_summary.proofs.AgreesLaws.{agrees_installed}
use Rattle.lv_refresh.specs.Refreshed.{RefreshesEach, RefreshesNext, RefreshesOne}
use Rattle.lv_refresh.proofs.HonestyLaws.{whole_of_wanted}
use Rattle.lv_live.specs.Kept.{IsLive}
use Rattle.lv_live.specs.State.{HasClaim, LiveState, Remembers, recorded}
use Rattle.lv_live.specs.Turns.{TakesTurn, TakesTurns}
use Rattle.lv_live.proofs.DeliverLaws.{delivered}
use Rattle.lv_live.proofs.LiveLaws.{delivery_agrees, live_after_install}
use Rattle.lv_live.proofs.RefreshLaws.{installed_next, turns_idle, turns_next, turns_none}
use Rattle.lv_live.proofs.RememberLaws.{fresh_after_delivery}

-- no turn was taken
pub not_taken : {B S : Type 0} (s : LiveState B S) (t : Table S) (c : ClaimTable) → t ≡ s.table → ((n : Node) → claimed_in c n ≡ claimed_in s.claims n) → HasClaim s (record s { table = t; claims = c }) None
not_taken s t c same claimed = record { body = refl; history = refl; claimed = claimed; kept = λ n. ap (λ t. option_map (λ kept. kept.0) (kept_in t n)) same }

-- what becomes of a vector for which several nodes were refreshed
pub record Turned {B S : Type 0} (o : Operations S) (old new : LiveState B S) (n : ℕ) : Type 0 where
  pub turns : TakesTurns o old new n
  pub remembers : Remembers old new
  pub agrees : Agrees o new.history.journal new.table

module _ {B S : Type 0} (o : Operations S) where
  -- a node was refreshed after others
  one_taken : (s : LiveState B S) (mid t : Table S) (between c : ClaimTable) (n : ℕ) → Turned o s (record s { table = mid; claims = between }) n → RefreshesOne o s.history.journal mid t between c → Turned o s (record s { table = t; claims = c }) (n + 1)
  one_taken s mid t between c n turned one =
      let es = s.history.journal in
      let was = record s { table = mid; claims = between } in
      let is = record s { table = t; claims = c } in
      let whole = whole_of_wanted (recorded was) one.node one.next.0 in
      let installs : delivery_in mid one.node one.version ≡ Installed =
      delivery_agrees o es mid between one.node one.version turned.agrees (and_parts _ _ whole).0 ∙ installed_next (recorded was) one.node one.version one.next in
      let current = current_of_installed mid one.node one.version installs in
      let turn : TakesTurn was is = record {
        job = (one.node, one.version);
        mid = record s { table = mid; claims = c };
        next = one.next;
        claims = record { body = refl; history = refl; claimed = one.claimed; kept = λ n. refl };
        delivers = record { body = refl; history = refl; claimed = λ n. refl; kept = version_kept mid t one.node one.version (fold_of o (elements_under es one.node)) one.keeps };
      } in
      record {
        turns = turns_next o s was is n turned.turns turn;
        remembers = λ m fresh whole touched. fresh_after_delivery mid t one.node one.version (fold_of o (elements_under es one.node)) Installed (sym installs) one.keeps m (turned.remembers m fresh whole touched);
        agrees = agrees_installed o es mid t one.node one.version (fold_of o (elements_under es one.node)) turned.agrees one.keeps current.0 current.1 refl;
      }

  -- several were
  pub each_taken : (s : LiveState B S) (t : Table S) (c : ClaimTable) (n : ℕ) → Agrees o s.history.journal s.table → RefreshesEach o s.history.journal s.table t s.claims c n → Turned o s (record s { table = t; claims = c }) n
  each_taken s t c zero agrees each =
      record {
        turns = turns_idle o s s (record s { table = t; claims = c }) 0 (turns_none o s) (not_taken s t c each.0 each.1);
        remembers = λ m fresh whole touched. ap (λ t. fresh_in t m) each.0 ∙ fresh;
        agrees = subst (Agrees o s.history.journal) (sym each.0) agrees;
      }
  each_taken s t c (suc n) agrees (mid, between, so, one) =
      let next : n + 1 ≡ suc n = omega arith in
      rw (← next) (one_taken s mid t between c n (each_taken s mid between n agrees so) one)

  -- all is kept if a table agrees still, and each node that wants a job is hinted at
  pub live_swept : (s : LiveState B S) → IsLive o s → (t : Table S) (c : ClaimTable) → Agrees o s.history.journal t → AreHints (record_of s.history.journal t c) c → claim_blocks c ≡ claim_blocks s.claims → IsLive o (record s { table = t; claims = c })
  live_swept s live t c agrees hints blocks =
      record { limits = live.limits; agrees = agrees; hints = hints; grown = omega (arith, live.grown, live.agrees.size, agrees.size, blocks) }

module _ {B S : Type 0} (o : Operations S) (within : S → ℕ → Type 0) (laws : BodyLaws o within) (s : LiveState B S) (live : IsLive o s) (t : Table S) (c : ClaimTable) (hints : AreHints (record_of s.history.journal s.table c) c) (blocks : claim_blocks c ≡ claim_blocks s.claims) where
  -- all is kept by a claim
  live_claimed : IsLive o (record s { claims = c })
  live_claimed = record { limits = live.limits; agrees = live.agrees; hints = hints; grown = omega (arith, live.grown, blocks) }

  module _ (turn : RefreshesNext o s.history.journal s.table t s.claims c) where
    -- what is delivered for the node is installed
    installs : delivery_in s.table turn.node turn.version ≡ Installed
    installs =
        let whole = whole_of_wanted (recorded s) turn.node turn.next.0 in
        delivery_agrees o s.history.journal s.table s.claims turn.node turn.version live.agrees (and_parts _ _ whole).0 ∙ installed_next (recorded s) turn.node turn.version turn.next

    -- all is kept
    live_taken : IsLive o (record s { table = t; claims = c })
    live_taken =
        let current = current_of_installed s.table turn.node turn.version installs in
        live_after_install o (record s { claims = c }) t c turn.node turn.version (fold_of o (elements_under s.history.journal turn.node)) live_claimed turn.keeps current.0 current.1 refl
        record { claimed = λ n. refl; hints = λ n was. was; more = omega arith } turn.above

    -- and a turn was taken
    pub turn_taken : TakesTurn s (record s { table = t; claims = c })
    turn_taken =
        record {
          job = (turn.node, turn.version);
          mid = record s { claims = c };
          next = turn.next;
          claims = record { body = refl; history = refl; claimed = turn.claimed; kept = λ n. refl };
          delivers = delivered o within laws (record s { claims = c }) live_claimed t c turn.node turn.version (fold_of o (elements_under s.history.journal turn.node)) Installed (λ n. refl) turn.keeps;
        }

    -- what was fresh still is
    fresh_taken : (n : Node) → fresh_in s.table n ≡ true → fresh_in t n ≡ true
    fresh_taken n fresh = fresh_after_delivery s.table t turn.node turn.version (fold_of o (elements_under s.history.journal turn.node)) Installed (sym installs) turn.keeps n fresh

  module _ (took : Bool) (taken : took ≡ true → RefreshesNext o s.history.journal s.table t s.claims c) (idle : took ≡ false → t ≡ s.table) where
    -- all is kept, whether a turn was taken or not
    pub live_turned : IsLive o (record s { table = t; claims = c })
    live_turned =
        elim (cases_Bool took) [
          | inl some ↦ live_taken (taken some)
          | inr none ↦ subst (λ t. IsLive o (record s { table = t; claims = c })) (sym (idle none)) live_claimed
        ]

    -- and what was fresh still is
    pub remembers_turned : Remembers s (record s { table = t; claims = c })
    remembers_turned n fresh whole touched =
        elim (cases_Bool took) [
          | inl some ↦ fresh_taken (taken some) n fresh
          | inr none ↦ ap (λ t. fresh_in t n) (idle none) ∙ fresh
        ]
