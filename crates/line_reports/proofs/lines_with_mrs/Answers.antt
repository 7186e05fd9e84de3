use Rattle.std.proofs.Common.{All, length, subst, sym}
use Rattle.derivation.specs.Text.{IsNamed}
use Rattle.derivation.specs.Views.{derivation_of}
use Rattle.tree_model.specs.Structures.{Structure}
use Rattle.tree_model.specs.Trees.{Full}
use Rattle.book_signs.specs.Trees.{signs_of}
use Rattle.grammar_rules.specs.Views.{item_answer}
use Rattle.engine.specs.Named.{AreNamed, AreFull}
use Rattle.engine.proofs.NamedTrees.{unmap}
use Rattle.line_reports.proofs.lines_with_mrs.Goals as goal

pub lines_of_trees-requires-clause-named : goal.lines_of_trees-requires-clause-named
lines_of_trees-requires-clause-named c =
    let named = subst (λ a. AreNamed (length c.args.lines.names.now) (item_answer a)) c.in-Trees.is c.requires.named in
    let items = unmap (IsNamed (length c.args.lines.names.now)) derivation_of c.in-Trees.trees.items named in
    subst (λ ts. All (λ t. IsNamed (length c.args.lines.names.now) (derivation_of t)) ts) (sym c.deref.ensures.value) items

pub lines_of_trees-requires-clause-full : goal.lines_of_trees-requires-clause-full
lines_of_trees-requires-clause-full c =
    let g = signs_of c.args.lines.fulls.now in
    let full = subst (λ a. AreFull g (item_answer a)) c.in-Trees.is c.requires.full in
    let items = unmap (λ t. (f : Structure) × Full g t f) derivation_of c.in-Trees.trees.items full in
    subst (λ ts. All (λ t. (f : Structure) × Full g (derivation_of t) f) ts) (sym c.deref.ensures.value) items
