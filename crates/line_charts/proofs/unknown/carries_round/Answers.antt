use Rattle.std.proofs.Common.{◌+◌, string_bytes, sym, subst}
use Rattle.std.proofs.lemmas.List.{take-map}
use Rattle.morph_analysis.proofs.Lists.{true_not_false}
use Rattle.morph_analysis.specs.Lattices.{Carries}
use Rattle.line_charts.proofs.UnknownSteps.{rest_words}
use Rattle.line_charts.proofs.unknown.carries_round.Goals as goal

pub returns-then-not-branch : goal.returns-then-not-branch
returns-then-not-branch c = (
  λ e. absurd (cc),
  λ p. true_not_false c.in_ok-carries.field-0
      (c.in_ok-carries.ensures.1 (subst (λ ws. Carries c.args.arrivals.now c.args.step.now.to ws c.args.reach.now.to) (sym (rest_words string_bytes c.args.reach.now.words.now (c.args.place + 1))) p.1)) c.if-not-branch.true,
)

pub returns : goal.returns
returns c = (
  λ e. (
    subst (λ ws. Carries c.args.arrivals.now c.args.reach.now.from ws c.args.step.now.from) (sym (take-map string_bytes c.args.place c.args.reach.now.words.now)) (c.in_ok-before.ensures.0 e),
    subst (λ ws. Carries c.args.arrivals.now c.args.step.now.to ws c.args.reach.now.to) (rest_words string_bytes c.args.reach.now.words.now (c.args.place + 1)) (c.in_ok-carries.ensures.0 c.if-not-branch.false),
  ),
  λ p. c.in_ok-before.ensures.1 (subst (λ ws. Carries c.args.arrivals.now c.args.reach.now.from ws c.args.step.now.from) (take-map string_bytes c.args.place c.args.reach.now.words.now) p.0),
)
