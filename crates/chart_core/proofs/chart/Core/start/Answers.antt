use Rattle.std.proofs.Common.{◌≡◌, ◌∙◌, ◌++◌, ◌≤◌, [], sym, ap, subst, All, map, length, arith, refl, append-nil, vec_capacity}
use Rattle.std.specs.Prelude.{reverse, option_to_list}
use Rattle.std.proofs.lemmas.List.{reverse-reverse, length-map}
use Rattle.chart_core.specs.Leaves.{leaf_seen, LeafBelongs}
use Rattle.chart_core.specs.Grammar.{grammar_of}
use Rattle.chart_core.specs.CoreView.{leaves_of, limits_of}
use Rattle.chart_core.proofs.Reversed.{all_reversed, all_split, taken, opened_core, none_entered, nil_when}
use Rattle.chart_core.proofs.chart.Core.start.Goals as goal

pub loop-leaf-init : goal.loop-leaf-init
loop-leaf-init g c =
    let s = c.args.shapes.now in
    let m = g.S.Shapes.meaning s in
    let core = c.in_ok-core.core in
    let first = c.in_ok-core.ensures.core s in
    record {
      core = first.0;
      leaves = ap (λ xs. xs ++ map (leaf_seen m) (reverse c.reverse.new.self.items)) first.1 ∙ ap (λ xs. map (leaf_seen m) (reverse xs)) c.reverse.ensures.items ∙ ap (map (leaf_seen m)) (reverse-reverse c.args.leaves.items);
      belongs = subst (All (LeafBelongs (g.S.Shapes.calculus s) (g.S.Shapes.belongs s))) (sym c.reverse.ensures.items) (all_reversed (LeafBelongs (g.S.Shapes.calculus s) (g.S.Shapes.belongs s)) c.args.leaves.items c.requires.leaves);
      limits = refl;
      spare = refl;
    }

pub push_leaf-requires-clause-leaf : goal.push_leaf-requires-clause-leaf
push_leaf-requires-clause-leaf g c =
    let s = c.args.shapes.now in
    let popped = c.pop.ensures.items ∙ ap (λ o. c.pop.new.self.items ++ option_to_list o) c.in-Some.is in
    (all_split (LeafBelongs (g.S.Shapes.calculus s) (g.S.Shapes.belongs s)) c.loop-leaf.leaves.items c.pop.new.self.items c.in-Some.leaf popped c.loop-leaf.invariant.belongs).1

pub loop-leaf-preserved : goal.loop-leaf-preserved
loop-leaf-preserved g c =
    let s = c.args.shapes.now in
    let m = g.S.Shapes.meaning s in
    let popped = c.pop.ensures.items ∙ ap (λ o. c.pop.new.self.items ++ option_to_list o) c.in-Some.is in
    record {
      core = c.in_ok-push_leaf.ensures.core;
      leaves = taken (leaf_seen m) (leaves_of m c.loop-leaf.core) (leaves_of m c.push_leaf.new.self) c.loop-leaf.leaves.items c.pop.new.self.items c.in-Some.leaf (map (leaf_seen m) c.args.leaves.items) popped c.in_ok-push_leaf.ensures.leaves c.loop-leaf.invariant.leaves;
      belongs = (all_split (LeafBelongs (g.S.Shapes.calculus s) (g.S.Shapes.belongs s)) c.loop-leaf.leaves.items c.pop.new.self.items c.in-Some.leaf popped c.loop-leaf.invariant.belongs).0;
      limits = (let e = c.push_leaf.ensures.frame.edges in let u = c.push_leaf.ensures.frame.unary in let h : limits_of c.push_leaf.new.self ≡ limits_of c.loop-leaf.core = cc in h) ∙ c.loop-leaf.invariant.limits;
      spare = c.push_leaf.ensures.frame.spare ∙ c.loop-leaf.invariant.spare;
    }

pub returns-clause-leaves : goal.returns-clause-leaves
returns-clause-leaves g c =
    let m = g.S.Shapes.meaning c.args.shapes.now in
    let none : c.loop-leaf.leaves.items ≡ [] = nil_when c.loop-leaf.leaves.items c.loop-leaf.leaves.len c.loop-leaf.leaves.ok.0 c.in_default.ensures.cases.0 in
    sym (append-nil (leaves_of m c.loop-leaf.core)) ∙ ap (λ xs. leaves_of m c.loop-leaf.core ++ map (leaf_seen m) (reverse xs)) (sym none) ∙ c.loop-leaf.invariant.leaves

pub returns-clause-core : goal.returns-clause-core
returns-clause-core g c =
    let m = g.S.Shapes.meaning c.args.shapes.now in
    let core = c.loop-leaf.core in
    let none : c.loop-leaf.leaves.items ≡ [] = nil_when c.loop-leaf.leaves.items c.loop-leaf.leaves.len c.loop-leaf.leaves.ok.0 c.in_default.ensures.cases.0 in
    let all : leaves_of m core ≡ map (leaf_seen m) c.args.leaves.items = sym (append-nil (leaves_of m core)) ∙ ap (λ xs. leaves_of m core ++ map (leaf_seen m) (reverse xs)) (sym none) ∙ c.loop-leaf.invariant.leaves in
    let spare : core.spare ≡ c.in_ok-spare.spare = c.loop-leaf.invariant.spare ∙ c.in_ok-core.ensures.spare in
    let limits = c.loop-leaf.invariant.limits ∙ c.in_ok-core.ensures.limits in
    let unary : core.unary ≡ c.args.limits.now.unary = ap (λ l. l.unary) limits in
    let narrow : core.unary ≤ 32 = let h = c.requires.limits.unary in omega (arith, unary, h) in
    let room : length (leaves_of m core) ≤ vec_capacity core.spare = subst (λ v. length (leaves_of m core) ≤ vec_capacity v) (sym spare) (let a = ap length all in let b = length-map c.args.leaves.items (leaf_seen m) in let h = c.in_ok-spare.ensures.exact in let n = c.len.ensures in omega (arith, a, b, h, n)) in
    opened_core (grammar_of g.S.Shapes g.S.Cover.Cover c.args.shapes.now) core c.loop-leaf.invariant.core narrow room (ap (λ v. v.items) spare ∙ c.in_ok-spare.ensures.items)

pub returns-clause-history : goal.returns-clause-history
returns-clause-history g c = none_entered (grammar_of g.S.Shapes g.S.Cover.Cover c.args.shapes.now) c.loop-leaf.core c.loop-leaf.invariant.core

pub returns-clause-limits : goal.returns-clause-limits
returns-clause-limits g c = c.loop-leaf.invariant.limits ∙ c.in_ok-core.ensures.limits
