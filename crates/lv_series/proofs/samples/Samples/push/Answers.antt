-- Proof of `Samples::push`.
use Rattle.std.proofs.Common.{◌≡◌, ◌-◌, None, true, not, List, ℤ, [], ◌∷◌, ◌++◌, length, take, w64, arith, ap, ◌∙◌}
use Rattle.std.proofs.lemmas.Int.{to_z-of_z}
use Rattle.std.specs.Result.{is_ok}
use Rattle.lv_series.specs.Samples.{sample_refused}
use Rattle.lv_series.specs.declared.sample_edits.SampleEdit.TheVariants.{Push}
use Rattle.lv_series.proofs.SampleLaws.{free_too, push_refused, pushed, samples_of, still_paired, still_rising}
use Rattle.lv_series.proofs.samples.Samples.push.Goals as goal

pub invariant_of-self-in-Ok : goal.invariant_of-self-in-Ok
invariant_of-self-in-Ok c =
    let s = c.self.inside in
    let time = to_z-of_z w64 c.args.time c.ranges.time in
    let value = to_z-of_z w64 c.args.value c.ranges.value in
    let ok : is_ok c.push.result ≡ true = c.is_err.ensures.negation ∙ ap not c.if-is_err.false in
    let left : c.push.new.self.items ≡ s.times.items ++ c.args.time ∷ [] = rw (ok, time) at c.push.ensures.items in
    let free : sample_refused (samples_of s.series s.times.items s.gone) (Push c.args.time c.args.value) ≡ None = free_too c.args.self.now (samples_of s.series s.times.items s.gone) _ c.args.time _ c.args.value c.self.view_is time value c.in_default.ensures in
    let a = rw value at c.in-Ok.ensures in (
      still_paired s.series c.push-2.new.self s.times.items s.gone c.in-Ok.receipt c.self.invariant.0 c.args.time c.args.value c.push.new.self.items left free a,
      still_rising s.series c.push-2.new.self s.times.items s.gone c.in-Ok.receipt c.self.invariant.0 c.args.time c.args.value c.push.new.self.items left free a c.self.invariant.1,
    )

pub returns-in-Ok : goal.returns-in-Ok
returns-in-Ok c =
    let s = c.self.inside in
    let time = to_z-of_z w64 c.args.time c.ranges.time in
    let value = to_z-of_z w64 c.args.value c.ranges.value in
    let ok : is_ok c.push.result ≡ true = c.is_err.ensures.negation ∙ ap not c.if-is_err.false in
    let left : c.push.new.self.items ≡ s.times.items ++ c.args.time ∷ [] = rw (ok, time) at c.push.ensures.items in
    let free : sample_refused (samples_of s.series s.times.items s.gone) (Push c.args.time c.args.value) ≡ None = free_too c.args.self.now (samples_of s.series s.times.items s.gone) _ c.args.time _ c.args.value c.self.view_is time value c.in_default.ensures in
    let a = rw value at c.in-Ok.ensures in
    rw (← c.self.view_is) (pushed s.series c.push-2.new.self s.times.items s.gone c.in-Ok.receipt c.self.invariant.0 c.args.time c.args.value c.push.new.self.items left free a)

pub returns-in-Err : goal.returns-in-Err
returns-in-Err c =
    let s = c.self.inside in
    let time = to_z-of_z w64 c.args.time c.ranges.time in
    let value = to_z-of_z w64 c.args.value c.ranges.value in
    let ok : is_ok c.push.result ≡ true = c.is_err.ensures.negation ∙ ap not c.if-is_err.false in
    let left : c.push.new.self.items ≡ s.times.items ++ c.args.time ∷ [] = rw (ok, time) at c.push.ensures.items in
    let count : c.len.result ≡ length c.push.new.self.items = omega (arith, c.push.new.self.ok.0) in
    let back = c.truncate.ensures.items ∙ ap (λ n. take (n - 1) c.push.new.self.items) count ∙ ap (λ (xs : List ℤ). take (length xs - 1) xs) left in
    let free : sample_refused (samples_of s.series s.times.items s.gone) (Push c.args.time c.args.value) ≡ None = free_too c.args.self.now (samples_of s.series s.times.items s.gone) _ c.args.time _ c.args.value c.self.view_is time value c.in_default.ensures in
    let a = rw value at c.in-Err.ensures in
    rw (← c.self.view_is) (push_refused s.series c.push-2.new.self s.times.items s.gone c.args.time c.args.value c.truncate.new.self.items c.in-Err.refusal back free a)
