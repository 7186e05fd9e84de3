-- Full structures of the trees over a line's lexical trees, and which trees are asked for.
use Rattle.std.specs.Prelude.{ℕ, ◌≡◌, ◌<◌, Option, Some, None, List, [], length, slice_get}
use Rattle.chart_model.specs.declared.span.Span.{Span}
use Rattle.derivation.specs.Trees.{Derivation, lexical}
use Rattle.tree_model.specs.Readings.{Wholes}
use Rattle.tree_model.specs.Structures.{Structure}
use Rattle.tree_model.specs.Mothers.{arity_at}
use Rattle.tree_model.specs.Laws.{rules_full}
use Rattle.tree_model.specs.Signs.{Signs, rule_system, placed_rules, place_at}
use Rattle.tree_model.specs.Trees.{IsRooted}
use Rattle.lexical_items.specs.Fulls.{IsLexicalFull}
use Rattle.lexical_items.specs.Listed.{Lexeme}

-- the tree and the full structure of a leaf's name, which is its place among the lexical trees
abbrev pub tree_named : Option Lexeme → Derivation
tree_named None = lexical 0 [] [] None
tree_named (Some x) = x.tree

abbrev pub full_named : Option Lexeme → Structure
full_named None = record { types = []; equal = [] }
full_named (Some x) = x.full

-- Trees are asked for that go from the first node to the end and are rooted.
abbrev pub wholes_of : Signs → List Lexeme → ℕ → Wholes Structure Span
wholes_of g leaves end =
    record {
      leaf_full = λ n. full_named (slice_get leaves n);
      leaf_tree = λ n. tree_named (slice_get leaves n);
      full = rules_full (rule_system g);
      place = λ rule. place_at (slice_get (placed_rules g) rule);
      accepted = λ f c. (c.from ≡ 0) × (c.to ≡ end) × IsRooted g f;
    }

-- a leaf of this name is there, and its full structure is that of a lexical tree
pub record IsLexicalAt (g : Signs) (leaves : List Lexeme) (name : ℕ) : Type 0 where
  pub lexeme : Lexeme
  pub at : slice_get leaves name ≡ Some lexeme
  pub full : IsLexicalFull g lexeme.full

-- a phrase rule of this number has so many daughters
abbrev pub IsRuled : Signs → ℕ → ℕ → Type 0
IsRuled g rule count = (rule < length (rule_system g).rules) × (count ≡ arity_at (rule_system g) (slice_get (rule_system g).rules rule))
