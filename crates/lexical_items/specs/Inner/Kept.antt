-- Chains with their full structures, and their trees.
use Rattle.std.specs.Prelude.{ℕ, ◌<◌, ◌≤◌, List, [], ◌∷◌, All, length, map}
use Rattle.lexicon.specs.Words.{Has}
use Rattle.tree_model.specs.Structures.{Structure}
use Rattle.tree_model.specs.Signs.{Signs}
use Rattle.tree_model.specs.Lexical.{FullLexical}
use Rattle.lexicon.specs.Entries.{EntryTree}
use Rattle.spelling_rules.specs.Trees.{SpellingTree}
use Rattle.morph_analysis.specs.Allowed.{FeedsTree}
use Rattle.morph_analysis.specs.Chains.{ChainTree, IsChain, AreInOrder}
use Rattle.morph_analysis.specs.Lattices.{LatticeTree}
use Rattle.morph_analysis.specs.declared.made.MadeChain.{MadeChain}
use Rattle.morph_analysis.specs.Views.{chain_of}
use Rattle.lexical_items.specs.Places.{place_in}
use Rattle.lexical_items.specs.Seen.{tree_of}
use Rattle.lexical_items.specs.Listed.{Lexeme, Lexical, TooDeep, Trees}

-- a chain without what is made of it
abbrev pub chain_in : {T : Type 0} → MadeChain T → ChainTree
chain_in x = chain_of x.chain

module _ (entries rules : List ℕ) where
  -- the numbers of a chain are in range
  pub record IsInside (c : ChainTree) : Type 0 where
    pub entry_in : c.entry < length entries
    pub rules_in : All (λ rule. rule < length rules) c.rules

  abbrev pub AreInside : List ChainTree → Type 0
  AreInside cs = (c : ChainTree) → Has c cs → IsInside c

  abbrev pub lexeme_of : ChainTree → Structure → Lexeme
  lexeme_of c f = record { tree = tree_of entries rules c; from = c.from; to = c.to; full = f }

module _ (g : Signs) (entries rules : List ℕ) where
  -- the full structure of a chain
  abbrev pub IsFullOf : ChainTree → Structure → Type 0
  IsFullOf c f = FullLexical g (place_in entries c.entry) (map (place_in rules) c.rules) f

  -- exactly the chains that have a full structure, in order
  pub record AreFull (lexicon : List EntryTree) (s : SpellingTree) (feeds : FeedsTree) (l : LatticeTree) (depth : ℕ) (cs : List ChainTree) : Type 0 where
    pub have : (c : ChainTree) → Has c cs → IsChain lexicon s feeds l depth c
    pub all : (c : ChainTree) (f : Structure) → IsChain lexicon s feeds l depth c → IsFullOf c f → Has c cs
    pub order : AreInOrder cs

  -- each chain, with its full structure, gives its tree
  pub data Keeps : List ChainTree → List Lexeme → Type 0 where
    keeps_none : Keeps [] []
    keeps_tree : (c : ChainTree) (f : Structure) {cs : List ChainTree} {xs : List Lexeme} → IsFullOf c f → Keeps cs xs → Keeps (c ∷ cs) (lexeme_of entries rules c f ∷ xs)

  -- none that has one is deeper than this
  abbrev pub AreShallow : ℕ → List ChainTree → Type 0
  AreShallow most cs = (c : ChainTree) (f : Structure) → Has c cs → IsFullOf c f → length c.rules ≤ most

  -- a deeper chain with a full structure, or the trees of all
  abbrev pub AreKept : ℕ → List ChainTree → Lexical → Type 0
  AreKept most cs TooDeep = (c : ChainTree) × (f : Structure) × Has c cs × IsFullOf c f × (most < length c.rules)
  AreKept most cs (Trees xs) = AreShallow most cs × Keeps cs xs
