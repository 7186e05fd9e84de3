use Rattle.std.proofs.Common.{[], string_bytes, sym, ◌∙◌, arith, below_more}
use Rattle.std.proofs.lemmas.List.{get_or-map}
use Rattle.morph_analysis.proofs.Lists.{true_not_false}
use Rattle.morph_analysis.specs.LatticeViews.{step_of}
use Rattle.line_charts.specs.Inner.Reaches.{reach_seen, IsWithinAt}
use Rattle.line_charts.proofs.Reaches.{within_nodes}
use Rattle.line_charts.proofs.unknown.is_within.Goals as goal
use Rattle.line_charts.proofs.unknown.is_within.Goals.{then-step-reach-via-then-step-reach, then-step-reach-via-else-step-reach+then-reach-step, else-same_word-via-then-same_word+in_ok-carries_round+else-branch, else-same_word-via-else-same_word}

pub returns-then-step-reach : goal.returns-then-step-reach
returns-then-step-reach c = (
  λ e. absurd (cc),
  λ h. (let nodes = within_nodes c.args.arrivals.now (reach_seen c.args.reach.now) (step_of c.args.step.now) c.requires h in
      let from = nodes.0 in
      let to = nodes.1 in
      elim c.then-step-reach.branch [
        | then-step-reach-via-then-step-reach w ↦ absurd (omega (arith, from, w.if-step-reach.true))
        | then-step-reach-via-else-step-reach+then-reach-step w ↦ absurd (omega (arith, to, w.if-reach-step.true))
      ]),
)

pub loop-place-preserved : goal.loop-place-preserved
loop-place-preserved c =
    below_more (λ k. IsWithinAt c.args.arrivals.now (reach_seen c.args.reach.now) (step_of c.args.step.now) k → ⊥) c.loop-place.place c.loop-place.invariant
    (λ p. (let same = c.deref.ensures ∙ sym (get_or-map string_bytes c.args.reach.now.words.now c.loop-place.place c.index-reach-place.result [] c.loop-place-test.true) ∙ p.word ∙ sym c.deref-in-loop-place.ensures in
    elim c.else-same_word.branch [
      | else-same_word-via-then-same_word+in_ok-carries_round+else-branch w ↦ true_not_false w.in_ok-carries_round.field-0 (w.in_ok-carries_round.ensures.1 (p.before, p.after)) w.if-branch.false
      | else-same_word-via-else-same_word w ↦ true_not_false c.same_word.result (c.same_word.ensures.1 same) w.if-same_word.false
    ]))
