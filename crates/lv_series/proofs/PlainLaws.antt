-- What calls on a series leave is what the accepted edits among them make of the series before them.
use Rattle.std.proofs.Common.{◌≡◌, ℕ, ◌+◌, true, false, None, List, [], ◌∷◌, ◌++◌, drop, fold, sym, ap, subst, ◌∙◌, arith, length-append}
use Rattle.std.proofs.lemmas.List.Sums.{fold-append}
use Rattle.lv_bodies.specs.Body.{Operations, fold_of}
use Rattle.lv_tree.specs.KindSummaries.{summary_by}
use Rattle.lv_series.specs.Plain.{Called, IsPlain, Run, SeriesState, Step, accepted_by, accepted_in, after_edits, changed, edited, plain_series, prepared, range_refused, running_folds, slice_of}

-- two series that differ in which kinds have a tree, at most
record IsAlike (s t : SeriesState) : Type 0 where
  table : s.table ≡ t.table
  held : s.held ≡ t.held
  edits : s.edits ≡ t.edits

-- a call makes what the edits make that it was accepted for
step_is : (s next : SeriesState) (call : Called) → Step s call next → IsAlike next (after_edits s (accepted_by call))
step_is s next (edited edits true) step = record { table = ap (λ t. t.table) step; held = ap (λ t. t.held) step; edits = ap (λ t. t.edits) step }
step_is s next (edited edits false) step = record { table = ap (λ t. t.table) step; held = ap (λ t. t.held) step; edits = ap (λ t. t.edits) step ∙ omega arith }
step_is s next (prepared k) step = record { table = ap (λ t. t.table) step.1; held = ap (λ t. t.held) step.1; edits = ap (λ t. t.edits) step.1 ∙ omega arith }

-- calls make what all edits make that were accepted
run_is : (s next : SeriesState) (calls : List Called) → Run s calls next → IsAlike next (after_edits s (accepted_in calls))
run_is s next [] run = record { table = ap (λ t. t.table) run; held = ap (λ t. t.held) run; edits = ap (λ t. t.edits) run ∙ omega arith }
run_is s next (call ∷ others) run =
    let first = step_is s run.0 call run.1 in
    let rest = run_is run.0 next others run.2 in
    record {
      table = rest.table ∙ first.table;
      held = rest.held ∙ ap (λ h. fold changed h (accepted_in others)) first.held ∙ sym (fold-append changed s.held (accepted_by call) (accepted_in others));
      edits = omega (arith, first.edits, rest.edits, length-append (accepted_by call) (accepted_in others));
    }

-- so what is asked after them is answered as after these edits
pub run_is_plain : {S : Type 0} (o : Operations S) (table : List (List ℕ)) (calls : List Called) (s : SeriesState) → Run (plain_series table []) calls s → IsPlain o table calls s
run_is_plain o table calls s run =
    let alike = run_is (plain_series table []) s calls run in
    record {
      held = alike.held;
      edits = omega (arith, alike.edits);
      values = λ k lo hi answer is. record {
        granted = subst (λ h. range_refused h lo hi ≡ None) alike.held is.granted;
        edit = is.edit ∙ alike.edits;
        value = is.value ∙ ap (λ t. summary_by t k (slice_of s.held lo hi)) alike.table ∙ ap (λ h. summary_by table k (slice_of h lo hi)) alike.held;
      };
      reduces = λ lo hi answer is. record {
        granted = subst (λ h. range_refused h lo hi ≡ None) alike.held is.granted;
        edit = is.edit ∙ alike.edits;
        value = is.value ∙ ap (λ h. fold_of o (slice_of h lo hi)) alike.held;
      };
      scans = λ lo hi inclusive before old new scan is. record {
        granted = subst (λ h. range_refused h lo hi ≡ None) alike.held is.granted;
        edit = is.edit ∙ alike.edits;
        count = is.count;
        values = is.values ∙ ap (λ h. running_folds inclusive o before (slice_of h lo (lo + scan.count)) ++ drop scan.count old) alike.held;
      };
    }
