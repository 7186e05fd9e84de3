-- Full structures that are made from an entry outwards.
use Rattle.std.specs.Prelude.{ℕ, ◌<◌, List, length, map}
use Rattle.lexicon.specs.Words.{Has}
use Rattle.tree_model.specs.Structures.{Structure}
use Rattle.tree_model.specs.Signs.{Signs}
use Rattle.tree_model.specs.Lexical.{FullLexical}
use Rattle.morph_analysis.specs.Allowed.{FeedsTree, IsAllowed}
use Rattle.lexical_items.specs.Places.{place_in}

-- the full structure of an entry under rules, by number, where they are allowed
pub record IsAllowedFull (g : Signs) (entries rules : List ℕ) (feeds : FeedsTree) (entry : ℕ) (rs : List ℕ) (f : Structure) : Type 0 where
  pub entry_in : entry < length entries
  pub rules_in : (r : ℕ) → Has r rs → r < length rules
  pub allowed : IsAllowed feeds entry rs
  pub full : FullLexical g (place_in entries entry) (map (place_in rules) rs) f
