-- Proof of `ask_all`: has a subscriber without questions ask these.
use Rattle.std.proofs.Common.{◌≡◌, ◌∙◌, [], ap, map, sym, take, arith}
use Rattle.std.proofs.lemmas.List.{take_all}
use Rattle.std.proofs.lemmas.Result.{err_from_is_err_and}
use Rattle.lv_standing.specs.Queries.{watch_answer}
use Rattle.lv_hub.specs.Asking.{refusal_behind}
use Rattle.lv_hub.proofs.RefusedQuestions.{fit_more, refused_one}
use Rattle.lv_hub.proofs.Noticed.{asked_all, asks_more, told_more}
use Rattle.lv_hub.proofs.watchers.ask_all.Goals as goal

pub loop-question-preserved : goal.loop-question-preserved
loop-question-preserved g c =
    let i = c.loop-question.invariant in
    let q = c.question-item.result in record {
      share = c.watch.ensures.share ∙ i.share;
      questions = asks_more c.args.questions.now c.loop-question.subscriber.questions c.watch.new.self.questions c.loop-question.question-index _ q c.loop-question-test.true c.question-item.is i.questions c.in_ok-watch.ensures.ok.1;
      fit = fit_more c.loop-question.subscriber.questions c.watch.new.self.questions q i.fit c.in_ok-watch.ensures.ok.0 c.in_ok-watch.ensures.ok.1;
      told = told_more c.args.questions.now c.loop-question.subscriber.told c.watch.new.self.told c.loop-question.question-index _ q c.loop-question-test.true c.question-item.is i.told c.in_ok-watch.ensures.ok.2;
    }

-- the reason is that of the first one that is refused
pub returns-in_err-watch-clause-refused : goal.returns-in_err-watch-clause-refused
returns-in_err-watch-clause-refused g c =
    let i = c.loop-question.invariant in
    let p = err_from_is_err_and c.from_residual.result c.from_residual.ensures.1 in
    rw (p.1, p.2) (refused_one c.args.questions.now c.loop-question.subscriber.questions c.loop-question.question-index _ c.question-item.result _ c.loop-question-test.true c.question-item.is i.questions i.fit c.in_err-watch.ensures.err)

pub returns-clause-fit : goal.returns-clause-fit
returns-clause-fit g c =
    let i = c.loop-question.invariant in
    let all : take c.loop-question.question-index c.args.questions.now ≡ c.args.questions.now = take_all c.loop-question.question-index c.args.questions.now (omega (arith, c.loop-question-test.false)) in
    ap (refusal_behind []) (sym (i.questions ∙ all)) ∙ i.fit

pub returns-clause-asked : goal.returns-clause-asked
returns-clause-asked g c =
    let i = c.loop-question.invariant in
    let all : take c.loop-question.question-index c.args.questions.now ≡ c.args.questions.now = take_all c.loop-question.question-index c.args.questions.now (omega (arith, c.loop-question-test.false)) in
    asked_all c.args.subscriber.now c.loop-question.subscriber c.args.questions.now i.share (i.questions ∙ all) (i.told ∙ ap (map (watch_answer [])) all)
