use Rattle.std.proofs.Common.{refl}
use Rattle.tree_model.specs.Structures.{Structure}
use Rattle.tree_model.specs.Lexical.{IsEntry}
use Rattle.book_signs.specs.Trees.{signs_of, entries_of}
use Rattle.rule_trees.specs.Mothers.{graph_view}
use Rattle.rule_trees.proofs.PlaceLemmas.{has_at, entry_places}
use Rattle.rule_trees.proofs.LexicalLemmas.{entry_full}
use Rattle.tree_faults.proofs.making.entry_full.Goals as goal

pub unreachable-requires : goal.unreachable-requires
unreachable-requires c =
    let t = c.args.signs.now in
    let g = signs_of t in
    let graph = c.structure-structure.result.now in
    let none : (f : Structure) → IsEntry g c.args.entry f → ⊥ = rw c.in_default.is at c.in_ok-full.ensures in
    let places = entry_places g in
    let there = places.all c.args.entry c.requires.instance c.requires.at c.requires.kind_is in
    none (graph_view t graph)
    (entry_full t c.args.entry graph (graph_view t graph) (has_at (entries_of g) there.0 c.args.entry there.1) c.structure-structure.ensures.facts c.structure-structure.ensures.closed c.structure-structure.ensures.short refl)
