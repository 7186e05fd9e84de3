use Rattle.std.proofs.Common.{◌≡◌, ◌∙◌, ◌+◌, ◌<◌, ◌≤◌, ◌++◌, List, ℕ, [], ◌∷◌, length, map, None, Some, refl, sym, ap, subst, arith}
use Rattle.std.proofs.lemmas.List.{map-append}
use Rattle.closed_lists.specs.Names.{names_of}
use Rattle.closed_lists.specs.Inner.Walked.{IsReached}
use Rattle.closed_lists.proofs.ListLemmas.{Passed, passed_none, passed_cell, passed_all, passed_open, reached_in, reached_by}
use Rattle.closed_lists.proofs.lists.elements.Goals as goal

pub loop-turn-init : goal.loop-turn-init
loop-turn-init c =
    record {
      reached = c.requires.reached;
      passed = passed_none c.args.types.now (names_of c.args.names.now) c.args.graph.now c.args.start.0 _ (ap (map (λ n. n.0)) c.new-out.ensures.items);
    }

pub step_at-requires-clause-inside : goal.step_at-requires-clause-inside
step_at-requires-clause-inside c = reached_in c.args.graph.now c.loop-turn.node.0 c.loop-turn.turn c.laws.ensures c.loop-turn.invariant.reached

pub returns-in-End : goal.returns-in-End
returns-in-End c = passed_all c.args.types.now (names_of c.args.names.now) c.args.graph.now c.args.start.0 c.loop-turn.node.0 _ c.in-End.ensures c.loop-turn.invariant.passed

pub returns-in-Open : goal.returns-in-Open
returns-in-Open c = λ es e. passed_open c.args.types.now (names_of c.args.names.now) c.args.graph.now c.args.start.0 c.loop-turn.node.0 _ c.in-Open.ensures c.loop-turn.invariant.passed es e

pub loop-turn-preserved : goal.loop-turn-preserved
loop-turn-preserved c =
    let s = c.in-Item.ensures in
    record {
      reached = reached_by c.args.graph.now c.loop-turn.node.0 c.in-Item.rest.0 c.loop-turn.turn _ c.laws.ensures c.loop-turn.invariant.reached s.3;
      passed = passed_cell c.args.types.now (names_of c.args.names.now) c.args.graph.now c.args.start.0 c.loop-turn.node.0 c.in-Item.first.0 c.in-Item.rest.0 _ _ s.0 s.1 s.2 s.3
          (ap (map (λ n. n.0)) c.in_ok-push-in-Item.ensures.items ∙ map-append (λ n. n.0) c.loop-turn.out.items (c.in-Item.first ∷ [])) c.loop-turn.invariant.passed;
    }

pub unreachable-requires : goal.unreachable-requires
unreachable-requires c =
    let r = c.loop-turn.invariant.reached in
    let b = c.requires.readable.bounded r.path c.loop-turn.node.0 r.leads in
    omega (arith, b, r.long, c.loop-turn-test.false)
