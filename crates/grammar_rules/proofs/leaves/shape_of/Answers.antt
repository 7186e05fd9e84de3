use Rattle.std.proofs.Common.{sym, subst}
use Rattle.fs_model.specs.Closure.{AreConsistent, IsConsistent}
use Rattle.fs_model.specs.Sources.{Told}
use Rattle.fs_graph.specs.GraphMap.{reader_of}
use Rattle.fs_unify.specs.Rules.{system_of}
use Rattle.tree_model.specs.Mothers.{Meant, IsAbstract}
use Rattle.tree_model.specs.Signs.{rule_system}
use Rattle.tree_model.specs.Views.{view, source_alone}
use Rattle.book_signs.specs.Trees.{signs_of}
use Rattle.grammar_shapes.specs.Ruled.{paths_in}
use Rattle.grammar_shapes.specs.Systems.{grammar_of, rules_of, meaning_of, OwesBy}
use Rattle.rule_trees.specs.Mothers.{view_in}
use Rattle.rule_trees.proofs.OweLemmas.{lexical_made}
use Rattle.grammar_rules.proofs.Consistent.{lexical_sound}
use Rattle.grammar_rules.proofs.Calls.{shape_sound, shape_owes, shape_is}
use Rattle.grammar_rules.proofs.leaves.shape_of.Goals as goal

pub laws-requires : goal.laws-requires
laws-requires c = lexical_made (signs_of c.args.signs.now) (view_in c.args.signs.now c.args.full.now.graph) c.requires.lexical

pub shape-requires-clause-consistent : goal.shape-requires-clause-consistent
shape-requires-clause-consistent c =
    let s = c.args.shapes.now in
    let g = signs_of c.args.signs.now in
    let sound = subst (λ f. AreConsistent g.system (Meant (rule_system g) f)) c.laws.ensures.seen (lexical_sound g c.requires.lexical.full) in
    subst (λ graph. IsConsistent (system_of (grammar_of s)) (Told (source_alone (reader_of graph)))) (sym c.graph.ensures) (shape_sound c.args.signs.now s c.args.full.now.graph.plain c.requires.shapes c.laws.ensures.short sound)

pub shape-requires-clause-owes : goal.shape-requires-clause-owes
shape-requires-clause-owes c =
    let s = c.args.shapes.now in
    let t = c.args.signs.now in
    let made = lexical_made (signs_of t) (view_in t c.args.full.now.graph) c.requires.lexical in
    subst (OwesBy (grammar_of s) (rules_of s)) (sym c.graph.ensures) (shape_owes t s c.args.full.now.graph c.requires.shapes made)

pub returns-clause-shape : goal.returns-clause-shape
returns-clause-shape c =
    let s = c.args.shapes.now in
    let r = rule_system (signs_of c.args.signs.now) in
    subst (λ f. IsAbstract r (Meant r f) (meaning_of s c.in_ok-shape.shape)) (sym c.laws.ensures.seen)
    (shape_is c.args.signs.now s c.args.full.now.graph.plain (meaning_of s c.in_ok-shape.shape) c.requires.shapes
    (subst (λ graph. IsAbstract (rules_of s) (Meant (rules_of s) (view (paths_in (grammar_of s)) (reader_of graph))) (meaning_of s c.in_ok-shape.shape)) c.graph.ensures c.in_ok-shape.ensures.shape))
