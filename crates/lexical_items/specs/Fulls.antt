-- Full structures of lexical trees.
use Rattle.std.specs.Prelude.{ℕ, List}
use Rattle.tree_model.specs.Structures.{Structure}
use Rattle.tree_model.specs.Signs.{Signs}
use Rattle.tree_model.specs.Lexical.{FullLexical}

-- this is the full structure of some entry under some lexical rules
pub record IsLexicalFull (g : Signs) (f : Structure) : Type 0 where
  pub entry : ℕ
  pub rules : List ℕ
  pub full : FullLexical g entry rules f
