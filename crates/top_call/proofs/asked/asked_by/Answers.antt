use Rattle.std.proofs.Common.{map, string_bytes, subst}
use Rattle.command_line.specs.Words.{IsForm}
use Rattle.top_call.proofs.Sized.{form-sized}
use Rattle.top_call.proofs.asked.asked_by.Goals as goal

pub invariant_of-result : goal.invariant_of-result
invariant_of-result c = record {
  within = λ task options e. (
      let words = map (λ w. string_bytes w) c.args.words.now in
      let is = subst (IsForm words) e c.in-Ok.ensures.ok in
      (c.numbers_are_within.ensures.options words task options is, form-sized words (c.numbers_are_within.ensures.workload words) task options is));
}
