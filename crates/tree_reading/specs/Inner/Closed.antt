-- Which tree a rule makes of its daughters.
use Rattle.std.specs.Prelude.{ℕ, ◌≡◌, ◌++◌, ◌==◌, if◌then◌else◌, map, List, [], ◌∷◌, Option, Some, None, string_bytes}
use Rattle.derivation.specs.Trees.{Derivation, Daughters, lexical, phrase, no_more, first}
use Rattle.derivation.specs.Views.{derivation_of}
use Rattle.derivation.specs.Counted.{IsCounted}
use Rattle.tree_reading.specs.declared.uses.Rules.{Rules}
use Rattle.tree_reading.specs.declared.uses.Phrase.{Phrase}
use Rattle.tree_reading.specs.declared.leaves.Leaf.{Leaf}
use Rattle.tree_reading.specs.declared.closing.Child.{Child}
use Rattle.tree_reading.specs.declared.closing.Child.TheVariants.{Lexical, Whole}
use Rattle.tree_reading.specs.Grammars.{TreeGrammar, IsOver, AreWords, AreNodes, count_daughters}
use Rattle.tree_reading.specs.Inner.Stops.{body, ending}
use Rattle.tree_reading.specs.Texts.{IsPreferred}

abbrev pub leaf_of : Leaf → Derivation
leaf_of leaf = lexical leaf.entry leaf.rules.items (map string_bytes leaf.words.items) leaf.nodes

abbrev pub tree_of : Child → Derivation
tree_of (Lexical leaf) = leaf_of leaf
tree_of (Whole tree) = derivation_of tree

abbrev pub IsPhrase : Derivation → Type 0
IsPhrase (lexical e rules words nodes) = ⊥
IsPhrase (phrase r ds) = Unit {0}

abbrev pub IsChildCounted : Child → Type 0
IsChildCounted (Lexical leaf) = Unit {0}
IsChildCounted (Whole tree) = IsCounted tree × IsPhrase (derivation_of tree)

abbrev pub with_last : Daughters → Derivation → Daughters
with_last no_more d = first d no_more
with_last (first e es) d = first e (with_last es d)

abbrev pub as_phrase : Option Phrase → Daughters → Option Derivation
as_phrase None ds = None
as_phrase (Some p) ds = if p.daughters == count_daughters ds then Some (phrase p.rule ds) else None

-- as a lexical tree, where there is a lexical rule
abbrev pub as_lexical : Option ℕ → Option Phrase → Derivation → Option Derivation
as_lexical (Some r) p (lexical e rules words nodes) = Some (lexical e (rules ++ r ∷ []) words nodes)
as_lexical _ p d = as_phrase p (first d no_more)

-- the lexical rule, where there are no daughters yet
abbrev pub lexical_here : Rules → Daughters → Option ℕ
lexical_here rules no_more = rules.lexical
lexical_here rules (first d ds) = None

-- over the daughters so far and the last one
abbrev pub closed : Rules → Daughters → Derivation → Option Derivation
closed rules no_more d = as_lexical rules.lexical rules.phrase d
closed rules (first e es) d = as_phrase rules.phrase (first e (with_last es d))

-- a tree over the grammar, preferred and counted
pub record IsGood (g : TreeGrammar) (child : Child) : Type 0 where
  pub over : IsOver g (tree_of child)
  pub preferred : IsPreferred g (tree_of child)
  pub counted : IsChildCounted child

-- the leaf of an entry, from behind its first quote on
pub record HasLeaf (e : ℕ) (bytes : List ℕ) (leaf : Leaf) (rest : List ℕ) : Type 0 where
  pub entry : leaf.entry ≡ e
  pub no_rules : leaf.rules.items ≡ []
  pub words : AreWords (map string_bytes leaf.words.items)
  pub nodes : AreNodes leaf.nodes
  pub is : bytes ≡ body (map string_bytes leaf.words.items) ++ ending leaf.nodes ++ rest
