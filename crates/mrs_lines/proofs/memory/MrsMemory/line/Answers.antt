use Rattle.std.proofs.Common.{◌≡◌, ◌∙◌, length, sym, ap, subst}
use Rattle.fs_model.specs.Closure.{AreConsistent}
use Rattle.tree_model.specs.Mothers.{Meant}
use Rattle.tree_model.specs.Signs.{rule_system}
use Rattle.book_signs.specs.Trees.{signs_of}
use Rattle.rule_trees.specs.Mothers.{view_in, IsMade}
use Rattle.mrs_places.specs.Paths.{paths_of}
use Rattle.mrs_extract.specs.Asked.{ArePaths}
use Rattle.mrs_lines.specs.declared.memory.LinesOf.{LinesOf}
use Rattle.mrs_lines.specs.Remembered.{MrsSigns, IsLineIn}
use Rattle.mrs_lines.proofs.memory.MrsMemory.line.Goals as goal

abbrev asked_signs : LinesOf → MrsSigns
asked_signs a = record { signs = a.signs.now; paths = paths_of a.paths.now }

pub line_of_full-requires-clause-sound : goal.line_of_full-requires-clause-sound
line_of_full-requires-clause-sound c =
    let is : asked_signs c.of-asked.result.now ≡ c.args.self.now = ap asked_signs c.of-asked.ensures ∙ c.self.view_is in
    subst (λ (m : MrsSigns). AreConsistent (signs_of m.signs).system (Meant (rule_system (signs_of m.signs)) (view_in m.signs c.args.full.now.graph))) (sym is) c.requires.sound

pub line_of_full-requires-clause-made : goal.line_of_full-requires-clause-made
line_of_full-requires-clause-made c =
    let is : asked_signs c.of-asked.result.now ≡ c.args.self.now = ap asked_signs c.of-asked.ensures ∙ c.self.view_is in
    subst (λ (m : MrsSigns). IsMade (signs_of m.signs) (view_in m.signs c.args.full.now.graph)) (sym is) c.requires.made

pub line_of_full-requires-clause-paths : goal.line_of_full-requires-clause-paths
line_of_full-requires-clause-paths c =
    let is : asked_signs c.of-asked.result.now ≡ c.args.self.now = ap asked_signs c.of-asked.ensures ∙ c.self.view_is in
    subst (λ (m : MrsSigns). ArePaths m.signs.book.system.types m.paths) (sym is) c.requires.paths

pub line_of_full-requires-clause-feats : goal.line_of_full-requires-clause-feats
line_of_full-requires-clause-feats c =
    let is : asked_signs c.of-asked.result.now ≡ c.args.self.now = ap asked_signs c.of-asked.ensures ∙ c.self.view_is in
    subst (λ (m : MrsSigns). length m.paths.feats ≡ length m.signs.book.system.introducers) (sym is) c.requires.feats

pub keep-requires : goal.keep-requires
keep-requires c =
    let is : asked_signs c.of-asked.result.now ≡ c.args.self.now = ap asked_signs c.of-asked.ensures ∙ c.self.view_is in
    rw (c.deref.ensures.value) (subst (λ (m : MrsSigns). IsLineIn m (view_in m.signs c.args.full.now.graph) c.in_ok-line.line.items) is c.in_ok-line.ensures)

pub returns : goal.returns
returns c =
    let is : asked_signs c.of-asked.result.now ≡ c.args.self.now = ap asked_signs c.of-asked.ensures ∙ c.self.view_is in
    subst (λ (m : MrsSigns). IsLineIn m (view_in m.signs c.args.full.now.graph) c.in_ok-line.line.items) is c.in_ok-line.ensures
