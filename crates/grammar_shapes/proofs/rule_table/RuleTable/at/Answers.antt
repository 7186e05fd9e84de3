use Rattle.std.proofs.Common.{◌≡◌, ◌<◌, ◌∙◌, ap, sym, subst, length, slice_get, Some, arith}
use Rattle.fs_graph.specs.GraphMap.{reader_of}
use Rattle.sieve.specs.Sketches.{sketch_of, below_place, AreTypesIn}
use Rattle.grammar_shapes.specs.Ruled.{places_of}
use Rattle.grammar_shapes.proofs.TableLemmas.{got, some_at, row_even, sketch_is, types_below}
use Rattle.grammar_shapes.proofs.rule_table.RuleTable.at.Goals as goal

pub index-sketch-requires : goal.index-sketch-requires
index-sketch-requires c =
    let rules = c.self.inside.rules.items in
    let r = c.index.result.now in
    let l = subst (λ v. c.args.rule < length v.rules) (sym c.self.view_is) c.requires.rule in
    let at = got rules c.args.rule r l c.index.ensures in
    let h = c.requires.place r (subst (λ v. slice_get v.rules c.args.rule ≡ Some r) c.self.view_is at) in
    let e = row_even c.self.inside.checks rules c.self.inside.sketches.items c.self.invariant.sketched c.args.rule r at c.index-2.result.now c.index-2.ensures l in
    omega (arith, h, e)

pub returns-clause-sketch : goal.returns-clause-sketch
returns-clause-sketch c r p at place_at =
    let v = c.self.view_is in
    let l = subst (λ v. c.args.rule < length v.rules) (sym v) c.requires.rule in
    sketch_is c.self.inside.checks c.self.inside.rules.items c.self.inside.sketches.items c.self.invariant.sketched c.args.rule r (subst (λ v. slice_get v.rules c.args.rule ≡ Some r) (sym v) at)
    c.index-2.result.now c.index-2.ensures l c.args.place p place_at (c.requires.place r at) c.index-sketch.result.now c.index-sketch.ensures
    ∙ ap (λ v. sketch_of (below_place p (reader_of r.structure.now)) v.checks) v

pub returns-clause-types_in : goal.returns-clause-types_in
returns-clause-types_in c =
    let rules = c.self.inside.rules.items in
    let r = c.index.result.now in
    let l = subst (λ v. c.args.rule < length v.rules) (sym c.self.view_is) c.requires.rule in
    let at = got rules c.args.rule r l c.index.ensures in
    let h = c.requires.place r (subst (λ v. slice_get v.rules c.args.rule ≡ Some r) c.self.view_is at) in
    let p = some_at (places_of r) c.args.place h in
    let e = sketch_is c.self.inside.checks rules c.self.inside.sketches.items c.self.invariant.sketched c.args.rule r at c.index-2.result.now c.index-2.ensures l c.args.place p.0 p.1 h c.index-sketch.result.now c.index-sketch.ensures in
    let t = types_below c.self.inside.system.now rules c.args.rule r at c.self.invariant.rules_in c.laws.ensures c.self.inside.checks p.0 in
    subst (λ v. AreTypesIn v.grammar.types c.index-sketch.result.now) c.self.view_is (subst (AreTypesIn c.self.inside.system.now.types) (sym e) t)
