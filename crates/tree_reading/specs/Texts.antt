-- Lines that write trees, and where a line stops to be one.
use Rattle.std.specs.Prelude.{ℕ, suc, ◌≡◌, ◌<◌, ◌≤◌, true, List, ◌++◌, All, length, take, slice_get, Some}
use Rattle.derivation.specs.Trees.{Derivation, Daughters, lexical, phrase, no_more, first}
use Rattle.derivation.specs.Text.{text_of, name_of}
use Rattle.tree_reading.specs.declared.Part.TheVariants.{LexicalRule}
use Rattle.tree_reading.specs.Grammars.{TreeGrammar, IsOver}

-- blanks, and then the text of a tree over the grammar, with the nodes of those lexical trees that have some
pub record Writes (g : TreeGrammar) (line : List ℕ) (tree : Derivation) : Type 0 where
  pub over : IsOver g tree
  pub blanks : List ℕ
  pub blank : All (λ byte. byte ≡ 32) blanks
  pub is : line ≡ blanks ++ text_of g.names true tree

-- no lexical rule has the name of this rule
abbrev pub IsNoLexicalRule : TreeGrammar → ℕ → Type 0
IsNoLexicalRule g r = (s : ℕ) → slice_get g.parts s ≡ Some LexicalRule → name_of g.names s ≡ name_of g.names r → ⊥

-- A lexical rule and a phrase rule of one daughter may have one name. Over a lexical tree such a name is that of the lexical rule.
abbrev pub IsPreferredOver : TreeGrammar → ℕ → Daughters → Type 0
IsPreferredOver g r (first (lexical e rules words nodes) no_more) = IsNoLexicalRule g r
IsPreferredOver g r _ = Unit {0}

abbrev mutual
  pub IsPreferred : TreeGrammar → Derivation → Type 0
  IsPreferred g (lexical e rules words nodes) = Unit {0}
  IsPreferred g (phrase r ds) = IsPreferredOver g r ds × ArePreferred g ds

  pub ArePreferred : TreeGrammar → Daughters → Type 0
  ArePreferred g no_more = Unit {0}
  ArePreferred g (first d ds) = IsPreferred g d × ArePreferred g ds

-- the tree that a line writes
abbrev pub IsTreeOf : TreeGrammar → List ℕ → Derivation → Type 0
IsTreeOf g line tree = Writes g line tree × IsPreferred g tree

-- some line that writes a tree begins with these bytes
abbrev pub GoesOn : TreeGrammar → List ℕ → Type 0
GoesOn g front = (rest : List ℕ) × (tree : Derivation) × Writes g (front ++ rest) tree

-- The first fault of a line that writes no tree: no tree's text goes on as the line does from this byte on.
pub record IsFirstFault (g : TreeGrammar) (line : List ℕ) (at : ℕ) : Type 0 where
  pub within : at ≤ length line
  pub none : (tree : Derivation) → Writes g line tree → ⊥
  pub before : (n : ℕ) → n < at → GoesOn g (take (suc n) line)
  pub here : at < length line → GoesOn g (take (suc at) line) → ⊥
