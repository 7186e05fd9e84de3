use Rattle.std.proofs.Common.{◌<◌, ◌∙◌, length, sym, ap, arith}
use Rattle.std.proofs.lemmas.List.{length-map}
use Rattle.mrs_places.specs.Inner.Walked.{nodes_of}
use Rattle.mrs_places.proofs.Ranks.{along_short}
use Rattle.mrs_places.proofs.Walking.{passed_none, passed_more, nodes_push, all_more, one_longer}
use Rattle.generate_model.proofs.ReadLemmas.{ends_last, ends_null, ends_open, ends_restless, cell_turn}
use Rattle.generate_model.proofs.relations.walked.Goals.{then-is_last-via-then-is_last, then-is_last-via-else-is_last+then-is_below}
use Rattle.generate_model.proofs.relations.walked.Goals as goal

pub loop-turn-init : goal.loop-turn-init
loop-turn-init c = record {
  inside = c.requires.inside;
  all_in = rw c.new-cells.ensures.items (λ k d lt. absurd (omega (arith, lt)));
  count = ap length c.new-cells.ensures.items;
  passed = passed_none _ _ _ _ _ _ (ap nodes_of c.new-cells.ensures.items);
}

pub returns-then-is_last-clause-walked : goal.returns-then-is_last-clause-walked
returns-then-is_last-clause-walked c = elim c.then-is_last.branch [
  | then-is_last-via-then-is_last w ↦ ends_last _ _ _ _ _ _ _ _ c.ty-ty.ensures c.loop-turn.invariant.passed (sym c.is_last.ensures ∙ w.if-is_last.true)
  | then-is_last-via-else-is_last+then-is_below w ↦ ends_null _ _ _ _ _ _ _ _ c.ty-ty.ensures c.loop-turn.invariant.passed (sym w.is_below.ensures ∙ w.if-is_below.true)
]

pub returns-then-not-is_below-clause-walked : goal.returns-then-not-is_below-clause-walked
returns-then-not-is_below-clause-walked c =
    ends_open _ _ _ _ _ _ _ _ c.ty-ty.ensures c.loop-turn.invariant.passed (sym c.is_last.ensures ∙ c.if-is_last.false) (sym c.is_below.ensures ∙ c.if-is_below.false) (sym c.is_below-in-loop-turn.ensures ∙ c.if-not-is_below.true)

pub returns-in_default-clause-walked : goal.returns-in_default-clause-walked
returns-in_default-clause-walked c =
    ends_restless _ _ _ _ _ _ _ _ c.ty-ty.ensures c.loop-turn.invariant.passed _ (nodes_push _ _ _ c.in_ok-push.ensures.items)
    (sym c.is_last.ensures ∙ c.if-is_last.false) (sym c.is_below.ensures ∙ c.if-is_below.false) (sym c.is_below-in-loop-turn.ensures ∙ c.if-not-is_below.false) (sym c.in_default.ensures.at)

pub loop-turn-preserved : goal.loop-turn-preserved
loop-turn-preserved c = record {
  inside = c.in-Some.ensures.inside;
  all_in = all_more (λ n. n.0 < length c.args.graph.now.types) _ _ _ c.in_ok-push.ensures.items c.loop-turn.invariant.all_in c.loop-turn.invariant.inside;
  count = one_longer _ _ _ _ c.in_ok-push.ensures.items c.loop-turn.invariant.count;
  passed = passed_more _ _ _ _ _ _ _ _ _ (nodes_push _ _ _ c.in_ok-push.ensures.items)
      (cell_turn _ _ _ _ _ _ _ _ c.ty-ty.ensures c.loop-turn.invariant.passed (sym c.is_last.ensures ∙ c.if-is_last.false) (sym c.is_below.ensures ∙ c.if-is_below.false) (sym c.is_below-in-loop-turn.ensures ∙ c.if-not-is_below.false))
      (sym c.in-Some.ensures.at) c.loop-turn.invariant.passed;
}

pub unreachable-requires : goal.unreachable-requires
unreachable-requires c =
    let h = c.loop-turn.invariant in
    let short = along_short _ c.nodes-nodes.ensures.graph _ _ _ c.requires.inside h.passed.along in
    let same = length-map c.loop-turn.cells.items (λ n. n.0) in
    omega (arith, short, same, h.count, c.loop-turn-test.false, c.nodes-nodes.ensures.count)
