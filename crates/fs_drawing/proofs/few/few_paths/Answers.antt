use Rattle.std.proofs.Common.{◌+◌, [], ◌∷◌, ◌++◌, ◌∙◌, ap, arith}
use Rattle.std.proofs.lemmas.List.{length-map}
use Rattle.fs_graph.specs.Inside.{graph_map}
use Rattle.fs_graph.specs.Visits.{targets_of}
use Rattle.fs_closing.proofs.BesideLemmas.{no_arc}
use Rattle.fs_drawing.proofs.FewLemmas.{begun, row_there, goes_on, few_found, many_found}
use Rattle.fs_drawing.proofs.few.few_paths.Goals as goal

pub loop-at-init : goal.loop-at-init
loop-at-init c = record {
  followed = λ types plan.
      begun (graph_map types c.args.starts.now c.args.arcs.now) (targets_of c.push.new.self.items)
      (ap targets_of c.in_ok-push.ensures.items ∙ ap (λ l. targets_of (l ++ no_arc ∷ [])) c.clear.ensures.items);
}

pub go_on-requires-clause-row : goal.go_on-requires-clause-row
go_on-requires-clause-row c =
    let size = length-map c.loop-at.ends.items (λ a. a.to.0) in
    row_there c.requires.plan.0 c.args.starts.now c.args.arcs.now c.requires.plan.1 (targets_of c.loop-at.ends.items) c.loop-at.at c.loop-at.at
    (c.loop-at.invariant.followed c.requires.plan.0 c.requires.plan.1) (omega (arith, size, c.if-at-len.false))

pub returns-then-at-len : goal.returns-then-at-len
returns-then-at-len c = λ types plan.
    few_found types c.args.starts.now c.args.arcs.now plan c.loop-at.ends.items c.loop-at.at c.args.limit (c.loop-at.invariant.followed types plan)
    (omega (arith, c.if-at-len.true)) (omega (arith, c.if-at-len.true, c.loop-at-test.true))

pub returns-then-len-most : goal.returns-then-len-most
returns-then-len-most c = λ types plan.
    many_found types c.args.starts.now c.args.arcs.now c.go_on.new.ends.items (c.loop-at.at + 1) c.args.limit
    (goes_on types c.args.starts.now c.args.arcs.now plan c.loop-at.ends.items c.go_on.new.ends.items c.loop-at.at (c.loop-at.invariant.followed types plan)
    (omega (arith, c.if-at-len.false)) c.in_ok-go_on.ensures) (omega (arith, c.if-len-most.true))

pub loop-at-preserved : goal.loop-at-preserved
loop-at-preserved c = record {
  followed = λ types plan.
      goes_on types c.args.starts.now c.args.arcs.now plan c.loop-at.ends.items c.go_on.new.ends.items c.loop-at.at (c.loop-at.invariant.followed types plan)
      (omega (arith, c.if-at-len.false)) c.in_ok-go_on.ensures;
}

pub returns-then-len-most-2 : goal.returns-then-len-most-2
returns-then-len-most-2 c = λ types plan.
    many_found types c.args.starts.now c.args.arcs.now c.loop-at.ends.items c.loop-at.at c.args.limit (c.loop-at.invariant.followed types plan)
    (omega (arith, c.if-len-most-2.true))

pub returns : goal.returns
returns c = λ types plan.
    few_found types c.args.starts.now c.args.arcs.now plan c.loop-at.ends.items c.loop-at.at c.args.limit (c.loop-at.invariant.followed types plan)
    (omega (arith, c.if-len-most-2.false, c.loop-at-test.false)) (omega (arith, c.if-len-most-2.false))
