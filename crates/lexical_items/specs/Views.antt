-- What contracts see of the lexical trees of a lattice.
use Rattle.std.specs.Prelude.{map}
use Rattle.derivation.specs.Views.{derivation_of}
use Rattle.tree_model.specs.Structures.{Structure}
use Rattle.lexical_items.specs.declared.lexeme.LexTree.{LexTree}
use Rattle.lexical_items.specs.declared.LexTrees.{LexTrees}
use Rattle.lexical_items.specs.declared.LexTrees.TheVariants as found
use Rattle.lexical_items.specs.Listed.{Lexeme, Lexical, TooDeep, Trees}

module _ {T : Type 0} (value : T → Structure) where
  abbrev pub lexeme_seen : LexTree T → Lexeme
  lexeme_seen x = record { tree = derivation_of x.tree; from = x.from; to = x.to; full = value x.full }

  abbrev pub lexical_seen : LexTrees T → Lexical
  lexical_seen (found.TooDeep) = TooDeep
  lexical_seen (found.Trees xs) = Trees (map lexeme_seen xs.items)
