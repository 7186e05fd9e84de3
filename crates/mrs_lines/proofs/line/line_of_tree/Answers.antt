use Rattle.std.proofs.Common.{◌≡◌, sym, subst, length}
use Rattle.std.specs.Arc.{arc_value}
use Rattle.fs_model.specs.Closure.{AreConsistent}
use Rattle.derivation.specs.Views.{derivation_of}
use Rattle.tree_model.specs.Mothers.{Meant}
use Rattle.tree_model.specs.Signs.{rule_system}
use Rattle.tree_model.specs.Trees.{Full}
use Rattle.book_signs.specs.Trees.{SignTree, signs_of}
use Rattle.rule_trees.specs.Fulls.{FullTree}
use Rattle.rule_trees.specs.Mothers.{IsMade, view_in}
use Rattle.mrs_extract.specs.Asked.{ArePaths}
use Rattle.mrs_lines.specs.Remembered.{IsLineIn}
use Rattle.mrs_lines.proofs.Whole.{of_line}
use Rattle.mrs_lines.proofs.line.line_of_tree.Goals as goal

pub full_of-requires-clause-formed : goal.full_of-requires-clause-formed
full_of-requires-clause-formed c =
    c.structure_laws.ensures.formed (signs_of c.args.fulls.now) (derivation_of c.args.tree.now) c.requires.full.0 c.requires.full.1

pub unreachable-requires : goal.unreachable-requires
unreachable-requires c = (rw c.in_default.is at c.in_ok-full.ensures.full) c.requires.full.0 c.requires.full.1

pub line-requires-clause-made : goal.line-requires-clause-made
line-requires-clause-made c =
    let t = c.args.fulls.now in
    let made = c.structure_laws.ensures.made (signs_of t) (derivation_of c.args.tree.now) (view_in t (arc_value c.in-Some.full).graph) (rw c.in-Some.is at c.in_ok-full.ensures.full) in
    subst (λ (t : SignTree). IsMade (signs_of t) (view_in t c.deref.result.now.graph)) (sym c.requires.same) (subst (λ (f : FullTree). IsMade (signs_of t) (view_in t f.graph)) (sym c.deref.ensures) made)

pub line-requires-clause-sound : goal.line-requires-clause-sound
line-requires-clause-sound c =
    let t = c.args.fulls.now in
    let sound = c.structure_laws.ensures.sound (signs_of t) (derivation_of c.args.tree.now) (view_in t (arc_value c.in-Some.full).graph) (rw c.in-Some.is at c.in_ok-full.ensures.full) in
    subst (λ (t : SignTree). AreConsistent (signs_of t).system (Meant (rule_system (signs_of t)) (view_in t c.deref.result.now.graph))) (sym c.requires.same)
    (subst (λ (f : FullTree). AreConsistent (signs_of t).system (Meant (rule_system (signs_of t)) (view_in t f.graph))) (sym c.deref.ensures) sound)

pub line-requires-clause-paths : goal.line-requires-clause-paths
line-requires-clause-paths c = subst (λ (t : SignTree). ArePaths t.book.system.types c.args.lines.now.paths) (sym c.requires.same) c.requires.paths

pub line-requires-clause-feats : goal.line-requires-clause-feats
line-requires-clause-feats c = subst (λ (t : SignTree). length c.args.lines.now.paths.feats ≡ length t.book.system.introducers) (sym c.requires.same) c.requires.feats

pub returns-clause-line : goal.returns-clause-line
returns-clause-line c =
    let t = c.args.fulls.now in
    let m = c.args.lines.now in
    let full : Full (signs_of t) (derivation_of c.args.tree.now) (view_in t (arc_value c.in-Some.full).graph) = rw c.in-Some.is at c.in_ok-full.ensures.full in
    let line = subst (λ (f : FullTree). IsLineIn m (view_in m.signs f.graph) c.in_ok-line.line.items) c.deref.ensures c.in_ok-line.ensures in
    let g = signs_of t in
    of_line m t c.requires.same (derivation_of c.args.tree.now) (arc_value c.in-Some.full).graph c.in_ok-line.line.items full line
