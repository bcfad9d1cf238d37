-- `as_mut` lends the object that the pointer owns, and the pointer follows it.
use Rattle.std.specs.Prelude.{◌≡◌, Option, IsSome, Some}
use Rattle.livevec_c.specs.declared.objects.Object.{Object as Held}
use Rattle.livevec_c.specs.contracts.objects.Object as Object
use Rattle.livevec_c.specs.contracts.raw.Raw as Raw
use Rattle.livevec_c.specs.Lent.{with_inner}
use mathlib.Core.Path.{refl}
use Prim.Native.Nat.{ℕ}
use mathlib.Core.List.{List, [], ◌∷◌}
use seplogic.Ra.Ura.{Ura}
use base.Fraction.{full_share}
use mir.Syntax.{named}
use mir.Val.{Val, vptr}
use mir.Raw.{raw as bare}
use base.Logic.{SProp, ent, sep, id⊢}
use base.Fml.{Lft, GName, Share, Fml, ftrue, flft, fsep}
use prog.Memory.{Memory}
use prog.Routine.{Routine}
use prog.Wp.{Env, WpFn, Tables}
use types.Logic.{Logic, sem}
use contract.Monad.{Fun, fact}
use contract.Running.{tables, tables_of}
use sound.WpLaws.{WpFn-mono}
use types.Kit.{‵, raw, ◌⊛◌, some, later, at_ret, ◌$◌, ◌∵◌, !, qed, by, move, keep, drop, use1, split, join, pick, await, group, rewrite, fsplit, fsplit3, fjoin, fpack, suffices, frame, done}
use types.Part.{whole, sub, look_in}
use types.Run.{stop, fld, load, of_opd, first, blocks, exec, returns, enter, addr}
use types.ByLocal.{alloc_all, pass_all, free_all, look_at, get, through, sets, env, sets_last}
use denote.RattleType.{owns}
use denote.Memory.{part_at, mem, cell_at, part_of}
use denote.RawPtr.{block_ptr}
use denote.Ref.{MutRef, mut_vals, mut_Tells}
use denote.Signature.{plain, mut_ref_to}
use denote.Exit.{no}
use denote.Follow.{follows, Part, lends_Part}
use denote.Steps.{opens, heard, nothing}
use denote.Triple.Entry.{on_entry}
use denote.Triple.Spec.{triple_of}
use denote.Triple.Table.{entered}
use denote.Triple.Walked.{says, Stays, stay_dropped, walk_of, ends_at, walked, walk_Meets, Goes-spent_ref}
use Rattle.core.proofs.alloc.Calls.{token}
use Rattle.std_alloc.proofs.VecSteps.Shapes.{after}
use Rattle.std_alloc.proofs.BoxSteps.Form.{D, B, R, τ, word, handle}
use Rattle.std_alloc.proofs.BoxSteps.Steps.{box_out, box_in}
use Rattle.livevec_c.proofs.AsBox.{E, some_of}
use Rattle.livevec_c.specs.contracts.raw.Raw.as_mut as F
use Rattle.livevec_c.specs.contracts.raw.Raw.as_mut.Key.{name as #self}
use Rattle.livevec_c.proofs.raw.Raw.as_mut.Statement as stated
use Rattle.livevec_c.proofs.raw.Raw.as_mut.Code as code

abbrev stayed : Stays (F.ended).signature.params (F.ended).kept
stayed = (stay_dropped (mut_ref_to (0 ∷ []) tt (plain (λ _. Raw.the_row))) no, tt)

module _ {M : Type 1} {𝓤 : Ura M} (𝓛 : Logic 𝓤) (at_mem : Memory → SProp 𝓤) (run : Routine → Fun 𝓤) (𝓣 : Tables 𝓤 𝓛.H) (κ : Lft) (q : Share) (rb ro : ℕ) (γ : GName) (d : Raw.the_row.Denot) where
  open 𝓛 use {H, A}

  abbrev bound : (walk_of 𝓛 F.ended stayed (F.clauses 𝓛 at_mem run)).Ghost
  bound = (((κ, tt), (q, tt), tt, (record { ref_ptr = (rb, ro); ghost_name = γ; now = d }, tt), (vptr rb ro ∷ [], tt)), tt)

  abbrev Post : Val → SProp 𝓤
  Post = (walk_of 𝓛 F.ended stayed (F.clauses 𝓛 at_mem run)).post bound

  -- the box that it would be with an object
  abbrev boxed : Held → D E
  boxed x = record { ptr = d.at; alloc = d.alloc; value = x }

  module _ (b o : ℕ) (hv : Val) where
    -- all of it but the object
    abbrev Rest : Fml
    Rest = fsep (fsep (token E.al d.alloc (bare (τ E)) (block_ptr b o)) (handle E d.alloc hv)) (cell_at full_share Raw.the_row.mir (word E hv b o ∷ []) rb ro)

    back : d.at ≡ block_ptr b o → (w : Held) → ent 𝓤 (sep 𝓤 (sem 𝓛 ((mem Object.the_row).own_at w b o)) (sem 𝓛 Rest)) (sem 𝓛 ((mem Raw.the_row).own_at (with_inner d w) rb ro))
    unfolding part_of
    back at_b w =
        qed 𝓛 (‵ (part_at (R E) full_share w b o) ∷ ‵ Rest ∷ []) ∵ move ! (1 ∷ []) $ fsplit ! $ fsplit ! $ move ! (3 ∷ []) $
        box_in E ! (boxed w) b o w at_b refl $ use1 𝓛 (‵ (Raw.the_row.own_val (with_inner d w) (word E hv b o ∷ []))) (id⊢ 𝓤 _) $ move ! (1 ∷ 0 ∷ []) $ fjoin ! $
        fpack ! (List Val) (λ us. fsep (cell_at full_share Raw.the_row.mir us rb ro) (Raw.the_row.own_val (with_inner d w) us)) (word E hv b o ∷ []) $ done !

    exits : (γ' : GName) (x : Held) → d.inner ≡ Some x
        → ent 𝓤 (sep 𝓤 (sem 𝓛 ((MutRef (named 0) κ Object.the_row).own_val (record { ref_ptr = (b, o); ghost_name = γ'; now = x }) (vptr b o ∷ []))) (sep 𝓤 (A.lft κ q) (sem 𝓛 (follows Raw.the_row Object.the_row γ γ' (with_inner d))))) (Post (vptr b o))
    exits γ' x is =
        qed 𝓛 (‵ ((MutRef (named 0) κ Object.the_row).own_val (record { ref_ptr = (b, o); ghost_name = γ'; now = x }) (vptr b o ∷ [])) ∷ ‵ (flft κ q) ∷ ‵ (follows Raw.the_row Object.the_row γ γ' (with_inner d)) ∷ []) ∵
        suffices ! _ (ends_at 𝓛 F.ended stayed (F.clauses 𝓛 at_mem run) bound (vptr b o) (record { ref_ptr = (b, o); ghost_name = γ'; now = x }) (tt, tt) (tt, tt)) $
        nothing ! $ nothing ! $ fjoin ! $ join ! $ nothing ! $ move ! (2 ∷ 0 ∷ []) $ join ! $ join ! $ frame ! $ says ! is $ done !

  walk : ent 𝓤 (sep 𝓤 (on_entry 𝓛 F.signature (κ, tt) (q, tt) (record { ref_ptr = (rb, ro); ghost_name = γ; now = d }, tt) (vptr rb ro ∷ [], tt)) (fact 𝓤 (IsSome d.inner))) (WpFn 𝓤 H 𝓣.C 𝓣.Λ code.function (vptr rb ro ∷ []) Post)
  walk =
      qed 𝓛 (((‵ (flft κ q) ⊛ ‵ ftrue) ⊛ ‵ (owns (MutRef (named 0) κ Raw.the_row ∷ []) (record { ref_ptr = (rb, ro); ghost_name = γ; now = d }, tt) (vptr rb ro ∷ [], tt))) ∷ raw (fact 𝓤 (IsSome d.inner)) ∷ []) ∵
      move ! (1 ∷ []) $ heard ! (IsSome d.inner) (λ there.
      let object = some_of d.inner there in
      split ! $
      enter ! 𝓣.C 𝓣.Λ code.function (vptr rb ro ∷ []) _ $
      alloc_all ! (λ l. pass_all ! refl ((tt, tt), tt) $
      let En : Env 𝓤 H = env (code.function).locals l in
      move ! (1 ∷ []) $ fsplit ! $ fsplit3 ! $ drop ! $ move ! (3 ∷ []) $ split ! $ move ! (2 ∷ 3 ∷ 0 ∷ []) $
      opens ! tt Raw.the_row {h = d} rb ro (λ vs. move ! (1 ∷ []) $
      rewrite ! 0 (λ (i : Option Held). ‵ (Raw.the_row.own_val (record { at = d.at; alloc = d.alloc; inner = i }) vs)) object.1 refl $
      use1 𝓛 (‵ ((B E).own_val (boxed object.0) vs)) (id⊢ 𝓤 _) $
      box_out E ! (boxed object.0) vs (λ b o hv at_b ws fa. move ! (1 ∷ 2 ∷ []) $ fjoin ! $ move ! (1 ∷ []) $
      rewrite ! 2 (λ (us : List Val). ‵ (cell_at full_share Raw.the_row.mir us rb ro)) ws refl $
      first ! $ blocks ! $
      sets ! (of_opd ! (load ! (through ! refl (fld ! refl (stop !))) (look_in ! 2 (sub ! 0 refl (whole !))))) refl (tt, tt) $
      sets ! (of_opd ! (get ! refl)) refl (tt, tt) $
      sets_last ! (addr ! (through ! refl (stop !))) refl (tt, tt) $
      exec ! 𝓣.C 𝓣.Λ En (after 1 (code.function).body) (at_ret En Post) $
      sets ! (of_opd ! (get ! refl)) refl (tt, tt) $
      move ! (1 ∷ 2 ∷ []) $ fjoin ! $ move ! (2 ∷ 3 ∷ 4 ∷ 1 ∷ 0 ∷ []) $ group ! 5 $
      use1 𝓛 (later (some (λ (γ' : GName). raw (Part 𝓛 Raw.the_row Object.the_row (with_inner d) (named 0) κ q rb ro b o γ (sem 𝓛 (Rest b o hv)) (back b o hv at_b) object.0 γ'))))
      (lends_Part 𝓛 Raw.the_row Object.the_row (with_inner d) (named 0) κ q rb ro b o γ (sem 𝓛 (Rest b o hv)) (back b o hv at_b) (Raw.the_row.coded.code d) (Raw.the_row.coded.code d) object.0) $ await ! tt $ pick ! (λ γ'.
      returns ! (look_at ! 0 refl) $ free_all ! refl $
      keep ! (0 ∷ []) $ by ! (exits b o hv γ' object.0 object.1))))))

pub as_mut_spec : {M : Type 1} → stated.statement M
unfolding tables_of
as_mut_spec 𝓤 𝓛 𝓜 𝓡 wired =
    let 𝓣 : Tables 𝓤 𝓛.H = tables_of 𝓤 𝓛.H 𝓜 (tables 𝓤 𝓛.H 𝓜 𝓡 𝓡.env) in
    entered 𝓤 𝓛.H (triple_of 𝓛 F.signature (F.spec 𝓛 𝓜.mem 𝓡.returns)) 𝓣.C 𝓣.Λ #self code.function (code.unfolded 𝓤 𝓛.H 𝓜 𝓡 wired)
    (walk_Meets 𝓛 F.ended stayed (Goes-spent_ref 𝓛 1 (0 ∷ []) tt (plain (λ _. Raw.the_row)), tt) (F.clauses 𝓛 𝓜.mem 𝓡.returns) (WpFn 𝓤 𝓛.H 𝓣.C 𝓣.Λ code.function) (WpFn-mono 𝓤 𝓛.H 𝓛.laws 𝓣 code.function)
    (walked 𝓛 F.ended stayed (F.clauses 𝓛 𝓜.mem 𝓡.returns) (WpFn 𝓤 𝓛.H 𝓣.C 𝓣.Λ code.function) (λ κs. (mut_vals, tt)) (λ κs. (mut_Tells (named 0) κs.0 Raw.the_row, tt))
    (λ κs qs bounds a g are. walk 𝓛 𝓜.mem 𝓡.returns 𝓣 κs.0 qs.0 a.0.ref_ptr.0 a.0.ref_ptr.1 a.0.ghost_name a.0.now)))
