-- Proof of `KindSummary::with_last`: the summary of the same elements and of one more at their end.
use Rattle.std.proofs.Common.{◌∙◌, ap, of_z, subst, sym, to_z, w64}
use Rattle.std.proofs.lemmas.Int.{to_z-of_z}
use Rattle.lv_bodies.specs.AffineMaps.{IsAffineMap, affine_operations}
use Rattle.lv_bodies.specs.Body.{CanJoin}
use Rattle.lv_bodies.specs.Extremes.{IsExtreme, greatest_operations, least_operations}
use Rattle.lv_bodies.specs.Plain.{program_table}
use Rattle.lv_bodies.specs.RunTotals.{IsBest, best_operations}
use Rattle.lv_bodies.specs.Sums.{IsSum, sum_operations}
use Rattle.lv_bodies.specs.Tables.{IsStateMap, automaton_operations}
use Rattle.lv_tree.specs.declared.kind_summaries.KindSummary.TheVariants as kept
use Rattle.lv_tree.proofs.KindLaws.{kept_can_grow, kept_more}
use Rattle.lv_tree.proofs.kind_summaries.KindSummary.with_last.Goals as goal

pub combine-requires : goal.combine-requires
combine-requires g c =
    let lifted = c.lift.ensures ∙ ap sum_operations.lift (to_z-of_z w64 c.args.x c.ranges.x) in
    subst (CanJoin IsSum c.in-Sum.sum) (sym lifted) (kept_can_grow g.before c.args.x c.requires.0 c.args.self (kept.Sum c.in-Sum.sum) c.in-Sum.is c.requires.1)

pub returns-in-Sum : goal.returns-in-Sum
returns-in-Sum g c =
    let lifted = c.lift.ensures ∙ ap sum_operations.lift (to_z-of_z w64 c.args.x c.ranges.x) in
    ap kept.Sum (c.combine.ensures ∙ ap (sum_operations.join c.in-Sum.sum) lifted)
    ∙ kept_more c.args.self (kept.Sum c.in-Sum.sum) g.before c.args.x c.in-Sum.is c.requires.1

pub combine-requires-in-Least : goal.combine-requires-in-Least
combine-requires-in-Least g c =
    let lifted = c.lift-in-Least.ensures ∙ ap least_operations.lift (to_z-of_z w64 c.args.x c.ranges.x) in
    subst (CanJoin IsExtreme c.in-Least.least) (sym lifted) (kept_can_grow g.before c.args.x c.requires.0 c.args.self (kept.Least c.in-Least.least) c.in-Least.is c.requires.1)

pub returns-in-Least : goal.returns-in-Least
returns-in-Least g c =
    let lifted = c.lift-in-Least.ensures ∙ ap least_operations.lift (to_z-of_z w64 c.args.x c.ranges.x) in
    ap kept.Least (c.combine-in-Least.ensures ∙ ap (least_operations.join c.in-Least.least) lifted)
    ∙ kept_more c.args.self (kept.Least c.in-Least.least) g.before c.args.x c.in-Least.is c.requires.1

pub combine-requires-in-Greatest : goal.combine-requires-in-Greatest
combine-requires-in-Greatest g c =
    let lifted = c.lift-in-Greatest.ensures ∙ ap greatest_operations.lift (to_z-of_z w64 c.args.x c.ranges.x) in
    subst (CanJoin IsExtreme c.in-Greatest.greatest) (sym lifted) (kept_can_grow g.before c.args.x c.requires.0 c.args.self (kept.Greatest c.in-Greatest.greatest) c.in-Greatest.is c.requires.1)

pub returns-in-Greatest : goal.returns-in-Greatest
returns-in-Greatest g c =
    let lifted = c.lift-in-Greatest.ensures ∙ ap greatest_operations.lift (to_z-of_z w64 c.args.x c.ranges.x) in
    ap kept.Greatest (c.combine-in-Greatest.ensures ∙ ap (greatest_operations.join c.in-Greatest.greatest) lifted)
    ∙ kept_more c.args.self (kept.Greatest c.in-Greatest.greatest) g.before c.args.x c.in-Greatest.is c.requires.1

pub combine-requires-in-Best : goal.combine-requires-in-Best
combine-requires-in-Best g c =
    let lifted = c.lift-in-Best.ensures ∙ ap best_operations.lift (to_z-of_z w64 c.args.x c.ranges.x) in
    subst (CanJoin IsBest c.in-Best.best) (sym lifted) (kept_can_grow g.before c.args.x c.requires.0 c.args.self (kept.Best c.in-Best.best) c.in-Best.is c.requires.1)

pub returns-in-Best : goal.returns-in-Best
returns-in-Best g c =
    let lifted = c.lift-in-Best.ensures ∙ ap best_operations.lift (to_z-of_z w64 c.args.x c.ranges.x) in
    ap kept.Best (c.combine-in-Best.ensures ∙ ap (best_operations.join c.in-Best.best) lifted)
    ∙ kept_more c.args.self (kept.Best c.in-Best.best) g.before c.args.x c.in-Best.is c.requires.1

pub combine-requires-in-Affine : goal.combine-requires-in-Affine
combine-requires-in-Affine g c =
    let lifted = c.lift-in-Affine.ensures ∙ ap affine_operations.lift (to_z-of_z w64 c.args.x c.ranges.x) in
    subst (CanJoin IsAffineMap c.in-Affine.map) (sym lifted) (kept_can_grow g.before c.args.x c.requires.0 c.args.self (kept.Affine c.in-Affine.map) c.in-Affine.is c.requires.1)

pub returns-in-Affine : goal.returns-in-Affine
returns-in-Affine g c =
    let lifted = c.lift-in-Affine.ensures ∙ ap affine_operations.lift (to_z-of_z w64 c.args.x c.ranges.x) in
    ap kept.Affine (c.combine-in-Affine.ensures ∙ ap (affine_operations.join c.in-Affine.map) lifted)
    ∙ kept_more c.args.self (kept.Affine c.in-Affine.map) g.before c.args.x c.in-Affine.is c.requires.1

pub combine-requires-in-Automaton : goal.combine-requires-in-Automaton
combine-requires-in-Automaton g c =
    let lifted = c.lift-in-Automaton.ensures ∙ ap (λ table. (automaton_operations table).lift (to_z w64 (of_z w64 c.args.x))) c.program-program.ensures ∙ ap (automaton_operations program_table).lift (to_z-of_z w64 c.args.x c.ranges.x) in
    subst (CanJoin IsStateMap c.in-Automaton.row) (sym lifted) (kept_can_grow g.before c.args.x c.requires.0 c.args.self (kept.Automaton c.in-Automaton.row) c.in-Automaton.is c.requires.1)

pub returns-in-Automaton : goal.returns-in-Automaton
returns-in-Automaton g c =
    let lifted = c.lift-in-Automaton.ensures ∙ ap (λ table. (automaton_operations table).lift (to_z w64 (of_z w64 c.args.x))) c.program-program.ensures ∙ ap (automaton_operations program_table).lift (to_z-of_z w64 c.args.x c.ranges.x) in
    ap kept.Automaton (c.combine-in-Automaton.ensures ∙ ap (λ table. (automaton_operations table).join c.in-Automaton.row c.lift-in-Automaton.result) c.program-program.ensures ∙ ap ((automaton_operations program_table).join c.in-Automaton.row) lifted)
    ∙ kept_more c.args.self (kept.Automaton c.in-Automaton.row) g.before c.args.x c.in-Automaton.is c.requires.1
