use Rattle.std.proofs.Common.{sym, subst}
use Rattle.book_signs.specs.Trees.{signs_of}
use Rattle.lexical_items.specs.Known.{IsOfEntry}
use Rattle.rule_trees.specs.Fulls.{FullTree}
use Rattle.rule_trees.specs.Mothers.{view_in}
use Rattle.tree_structures.specs.Formed.{IsEntryAt}
use Rattle.tree_structures.proofs.shared.SharedFulls.entry.Goals as goal

pub entry-requires : goal.entry-requires
entry-requires c =
    let entry = subst (λ t. IsEntryAt (signs_of t) c.args.place) (sym c.self.view_is) c.requires in
    c.laws.ensures.entry_places.all c.args.place entry.instance entry.at entry.kind_is

pub returns : goal.returns
returns c =
    subst (λ t. IsOfEntry (signs_of t) (λ (f : FullTree). view_in t f.graph) c.args.place c.in_ok-full.full) c.self.view_is c.in_ok-full.ensures
