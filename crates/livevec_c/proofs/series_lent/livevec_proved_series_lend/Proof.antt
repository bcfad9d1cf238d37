-- The export hands on what the loan answers, and what the slot ends as.
use mathlib.Core.Path.{◌≡◌, refl, sym, subst, ap, ◌∙◌}
use Rattle.std.specs.Prelude.{◌-◌}
use Prim.Native.Nat.{◌<◌, ◌^◌}
use mathlib.Core.List.{List, [], ◌∷◌, ◌++◌}
use seplogic.Ra.Ura.{Ura}
use mir.Syntax.{named, w64, impl, tnil, dnil}
use mir.Val.{Val, vptr, vint, vstruct, vcons, of_list}
use base.Logic.{SProp, ent, id⊢}
use base.Fml.{ftrue}
use prog.Memory.{Memory}
use prog.Routine.{Routine}
use prog.Wp.{WpFn, Tables}
use types.Logic.{Logic}
use contract.Monad.{Fun, fact}
use contract.Lifetimes.{Lfts, Shares, AllOutlive}
use contract.Running.{tables, tables_of}
use sound.WpLaws.{fm_of, WpFn-mono}
use types.Kit.{‵, raw, ◌⊛◌, some, later, ◌$◌, ◌∵◌, !, qed, move, drop, use1, split, split3, join, pick, await, rewrite, fsplit, fpick, feq_l, suffices, frame, done}
use types.Part.{whole, sub}
use types.Run.{stop, fld, no_more, and_then, of_opd, returns, enter, addr}
use types.ByLocal.{alloc_all, pass_all, free_all, look_at, get, get_in, through, sets, lands_as}
use denote.RattleType.{RattleType}
use denote.Builtin.{u64}
use denote.Exit.{yes, no, left}
use denote.Plain.{uint_vals, uint_Tells}
use denote.Ref.{mut_vals, mut_Tells}
use denote.Signature.{Slot, plain, mut_ref_to, named_lft, type_at}
use denote.Steps.{heard, only}
use denote.Triple.Call.{calls_at}
use denote.Triple.Entry.{Args, Vals, alive}
use denote.Triple.End.{Fins, lasts_of}
use denote.Triple.Spec.{triple_of}
use denote.Triple.Statement.{Triple, Contract}
use denote.Triple.Table.{entered}
use denote.Triple.Walked.{Stay, Stays, stay_dropped, walk_of, ends_at, walked, walk_Meets, Goes-spent_ref, Goes-dropped}
use Rattle.core.proofs.alloc.Calls.{Al, Fits, handle_tells}
use Rattle.core.proofs.mem.Facts.{says_two}
use Rattle.livevec_c.specs.Kept.{Keeps}
use Rattle.livevec_c.specs.SeriesHeld.{series_behind}
use Rattle.livevec_c.specs.SeriesLent.{lent_in}
use Rattle.livevec_c.specs.SeriesPieces.{read_in}
use Rattle.livevec_c.specs.contracts.series_lent.Lent as Lent
use Rattle.livevec_c.specs.contracts.series_lent.Loan as Loan
use Rattle.livevec_c.specs.contracts.series_results.SeriesScanned as Scanned
use Rattle.livevec_c.specs.contracts.slots.Slot as Held
use Rattle.livevec_c.proofs.series_lent.Loan.TheLaws as loan_laws
use Rattle.livevec_c.proofs.series_results.SeriesScanned.TheLaws as scanned_laws
use Rattle.livevec_c.specs.contracts.series_lent.lend_behind as G
use Rattle.livevec_c.proofs.series_lent.lend_behind.Symbol as lends
use Rattle.livevec_c.proofs.series_lent.lend_behind.Met as lends_met
use Rattle.livevec_c.specs.contracts.series_lent.livevec_proved_series_lend as F
use Rattle.livevec_c.specs.contracts.series_lent.livevec_proved_series_lend.Key.{name as #self}
use Rattle.livevec_c.proofs.series_lent.livevec_proved_series_lend.Statement as stated
use Rattle.livevec_c.proofs.series_lent.livevec_proved_series_lend.Code as code

abbrev Into : Slot 2
Into = mut_ref_to (1 ∷ []) tt (plain (λ κs. Lent.the_row (named_lft 2 0 tt κs)))

-- it is handed on, and its last value is known then
abbrev handed : Stay Into yes
handed = record { fit = λ κs x w. Unit {0}; has = λ κs x w vs. left ((Into.row κs).exit yes) x w }

abbrev stayed : Stays (F.ended).signature.params (F.ended).kept
stayed = (stay_dropped (mut_ref_to (0 ∷ []) tt (plain (λ _. Held.the_row))) no, (stay_dropped (plain (λ _. u64)) yes, (stay_dropped (plain (λ _. u64)) yes, (handed, tt))))

abbrev answer : Al
answer = record { row = Scanned.the_row; laws = scanned_laws.the_row_laws; g = record { dealloc_token = λ a σ p. ftrue }; d = impl [] tnil dnil; drops = impl [] tnil dnil }

abbrev loan : Lfts 2 → Al
loan κs = record { row = Loan.the_row (named_lft 2 0 tt κs); laws = loan_laws.the_row_laws (named_lft 2 0 tt κs); g = record { dealloc_token = λ a σ p. ftrue }; d = impl [] tnil dnil; drops = impl [] tnil dnil }

module _ {M : Type 1} {𝓤 : Ura M} (𝓛 : Logic 𝓤) (at_mem : Memory → SProp 𝓤) (run : Routine → Fun 𝓤) (𝓣 : Tables 𝓤 𝓛.H) where
  open 𝓛 use {H}

  abbrev Lends : Contract 𝓤
  Lends = triple_of 𝓛 G.signature (G.spec 𝓛 at_mem run)

  module _ (κs : Lfts 2) (qs : Shares 2) (bounds : AllOutlive 2 (F.signature).outlives κs) (a : Args F.signature κs) where
    abbrev vals : Vals F.signature κs
    vals = (vptr a.0.ref_ptr.0 a.0.ref_ptr.1 ∷ [], (vint w64 a.1.0 ∷ [], (vint w64 a.1.1.0 ∷ [], (vptr a.1.1.1.0.ref_ptr.0 a.1.1.1.0.ref_ptr.1 ∷ [], tt))))

    abbrev bound : (walk_of 𝓛 F.ended stayed (F.clauses 𝓛 at_mem run)).Ghost
    bound = ((κs, qs, bounds, a, vals), tt)

    abbrev Post : Val → SProp 𝓤
    Post = (walk_of 𝓛 F.ended stayed (F.clauses 𝓛 at_mem run)).post bound

    abbrev Lasts : RattleType
    Lasts = type_at (G.signature).result κs

    abbrev Ends : Type 0
    Ends = Fins κs (G.signature).params (G.ended).kept a

    abbrev Answers : Lasts.Denot → Type 0
    Answers r = r.answer ≡ read_in a.1.0 a.1.1.0 (a.1.1.0 - a.1.0) (series_behind a.0.now.raw.inner)

    abbrev Gives : Ends → Type 0
    Gives ws = ws.1.1.1.0.elements.now ≡ lent_in a.1.0 a.1.1.0 a.1.1.1.0.now.elements.now (series_behind a.0.now.raw.inner)

    abbrev y : Lends.Ghost
    y = ((κs, qs, bounds, a, vals), tt)

    walk : Triple 𝓤 (𝓣.C lends.name) Lends → a.1.0 < 2 ^ 64 → a.1.1.0 < 2 ^ 64 → ent 𝓤 (Lends.pre y) (WpFn 𝓤 H 𝓣.C 𝓣.Λ code.function (vptr a.0.ref_ptr.0 a.0.ref_ptr.1 ∷ vint w64 a.1.0 ∷ vint w64 a.1.1.0 ∷ vptr a.1.1.1.0.ref_ptr.0 a.1.1.1.0.ref_ptr.1 ∷ []) Post)
    walk kn lo hi =
        qed 𝓛 (raw (Lends.pre y) ∷ []) ∵ enter ! 𝓣.C 𝓣.Λ code.function (vptr a.0.ref_ptr.0 a.0.ref_ptr.1 ∷ vint w64 a.1.0 ∷ vint w64 a.1.1.0 ∷ vptr a.1.1.1.0.ref_ptr.0 a.1.1.1.0.ref_ptr.1 ∷ []) _ $
        alloc_all ! (λ ls. pass_all ! refl ((tt, tt), ((tt, record { fits = lo }), ((tt, record { fits = hi }), ((tt, tt), tt)))) $
        sets ! (addr ! (through ! refl (stop !))) refl (tt, tt) $ sets ! (addr ! (through ! refl (stop !))) refl (tt, tt) $
        calls_at ! (fm_of 𝓤 H 𝓛.laws 𝓣) Lends kn y (and_then ! (get ! refl) (and_then ! (get ! refl) (and_then ! (get ! refl) (and_then ! (get ! refl) (no_more !))))) (λ u.
        use1 𝓛 (later (some (λ (r : Lasts.Denot). (raw (alive 𝓛 G.signature κs qs) ⊛ ‵ (Lasts.own_val r (u ∷ []))) ⊛ some (λ (ws : Ends).
        ‵ (lasts_of κs (G.signature).params (G.ended).kept a ws) ⊛ (‵ (Keeps a.0) ⊛ (raw (fact 𝓤 (Answers r)) ⊛ raw (fact 𝓤 (Gives ws)))))))) (id⊢ 𝓤 _) $
        await ! tt $ pick ! (λ r. split ! $ move ! (1 ∷ []) $ pick ! (λ ws. split ! $ move ! (1 ∷ []) $ split3 ! $ move ! (1 ∷ []) $ heard ! (Answers r) (λ is. move ! (1 ∷ []) $ heard ! (Gives ws) (λ at.
        -- [kept; the lasts; the tokens and the loan]
        move ! (2 ∷ []) $ split ! $ move ! (1 ∷ []) $ handle_tells (loan κs) ! r (u ∷ []) (λ u' eu' fu. rewrite ! 0 (λ (us : List Val). ‵ (Lasts.own_val r us)) (sym eu') refl $
        let typed : Fits (loan κs) u = subst (λ (w : Val). Fits (loan κs) w) (sym (ap only eu')) fu in
        fpick ! (λ vss. fsplit ! $ feq_l ! (λ eu. fsplit ! $ handle_tells answer ! r.answer vss.0 (λ hv ea fa.
        let v : Val = vstruct (vcons hv (of_list (vss.1.0 ++ []))) in
        let is_v : u ≡ v = ap only eu ∙ ap (λ (us : List Val). vstruct (of_list (us ++ (vss.1.0 ++ [])))) ea in
        lands_as ! is_v refl (subst (λ (w : Val). Fits (loan κs) w) is_v typed) $ sets ! (of_opd ! (get_in ! (fld ! refl (stop !)) (sub ! 0 refl (whole !)))) refl fa $ sets ! (of_opd ! (get ! refl)) refl fa $
        returns ! (look_at ! 0 refl) $ free_all ! refl $ move ! (1 ∷ []) $ drop ! $
        -- [the answer; the tokens; kept; the lasts]
        suffices ! _ (ends_at 𝓛 F.ended stayed (F.clauses 𝓛 at_mem run) bound hv r.answer ws (tt, (tt, (tt, (tt, tt))))) $
        move ! (3 ∷ 0 ∷ []) $ join ! $ move ! (1 ∷ 0 ∷ []) $ join ! $ frame ! $ says_two ! (is, at) $ done !))))))))))

pub livevec_proved_series_lend_spec : {M : Type 1} → stated.statement M
unfolding tables_of
livevec_proved_series_lend_spec 𝓤 𝓛 𝓜 𝓡 wired =
    let 𝓣 : Tables 𝓤 𝓛.H = tables_of 𝓤 𝓛.H 𝓜 (tables 𝓤 𝓛.H 𝓜 𝓡 𝓡.env) in
    entered 𝓤 𝓛.H (triple_of 𝓛 F.signature (F.spec 𝓛 𝓜.mem 𝓡.returns)) 𝓣.C 𝓣.Λ #self code.function (code.unfolded 𝓤 𝓛.H 𝓜 𝓡 wired)
    (walk_Meets 𝓛 F.ended stayed (Goes-spent_ref 𝓛 2 (0 ∷ []) tt (plain (λ _. Held.the_row)), (Goes-dropped 𝓛 2 (plain (λ _. u64)) yes (λ κs x f. refl), (Goes-dropped 𝓛 2 (plain (λ _. u64)) yes (λ κs x f. refl), ((λ κs x w vs fits. 𝓛.laws.⇛_intro _), tt)))) (F.clauses 𝓛 𝓜.mem 𝓡.returns) (WpFn 𝓤 𝓛.H 𝓣.C 𝓣.Λ code.function) (WpFn-mono 𝓤 𝓛.H 𝓛.laws 𝓣 code.function)
    (walked 𝓛 F.ended stayed (F.clauses 𝓛 𝓜.mem 𝓡.returns) (WpFn 𝓤 𝓛.H 𝓣.C 𝓣.Λ code.function) (λ κs. (mut_vals, (uint_vals w64, (uint_vals w64, (mut_vals, tt))))) (λ κs. (mut_Tells (named 0) κs.0 Held.the_row, (uint_Tells w64, (uint_Tells w64, (mut_Tells (named 1) κs.1.0 (Lent.the_row (named_lft 2 0 tt κs)), tt)))))
    (λ κs qs bounds a g are. walk 𝓛 𝓜.mem 𝓡.returns 𝓣 κs qs bounds a (lends_met.met 𝓤 𝓛 𝓜 𝓡 (code.calls-livevec_c::series_lent::lend_behind 𝓡.env wired)) are.1.0.1 are.1.1.0.1)))
