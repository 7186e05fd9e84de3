-- Chains with what is made of them.
use Rattle.std.specs.Prelude.{ℕ, ◌≤◌, List, length, map}
use Rattle.lexicon.specs.Words.{Has}
use Rattle.lexicon.specs.Entries.{EntryTree}
use Rattle.spelling_rules.specs.Trees.{SpellingTree}
use Rattle.morph_analysis.specs.Lattices.{LatticeTree, Carries}
use Rattle.morph_analysis.specs.Chains.{ChainTree, Spells, AreInOrder}
use Rattle.morph_analysis.specs.declared.made.Halt.{Halt}
use Rattle.morph_analysis.specs.declared.made.Halt.TheVariants.{Enough, NoMemory}

-- a chain, and what is made of its entry and its rules
pub record MadeTree (V : Type 0) : Type 0 where
  pub chain : ChainTree
  pub value : V

-- A chain of at most so many rules in a lattice, with what is made of it: `makes` says what is made of an entry and rules over it.
pub record IsMadeChain {V : Type 0} (makes : ℕ → List ℕ → V → Type 0) (lexicon : List EntryTree) (s : SpellingTree) (l : LatticeTree) (depth : ℕ) (x : MadeTree V) : Type 0 where
  pub spells : Spells lexicon s x.chain.entry x.chain.rules x.chain.words
  pub carried : Carries l.steps x.chain.from x.chain.words x.chain.to
  pub made : makes x.chain.entry x.chain.rules x.value
  pub shallow : length x.chain.rules ≤ depth

-- why a search for chains of which P holds may end before all are found: one of them is enough, by its rules, or memory was wanting
abbrev pub MayHalt : {V : Type 0} → (List ℕ → Type 0) → (MadeTree V → Type 0) → Halt → Type 0
MayHalt {V} enough P Enough = (x : MadeTree V) × P x × enough x.chain.rules
MayHalt enough P NoMemory = Unit {0}

-- Exactly those of which something is made, each once, in the order of chains.
pub record AreMadeChains {V : Type 0} (makes : ℕ → List ℕ → V → Type 0) (lexicon : List EntryTree) (s : SpellingTree) (l : LatticeTree) (depth : ℕ) (xs : List (MadeTree V)) : Type 0 where
  pub have : (x : MadeTree V) → Has x xs → IsMadeChain makes lexicon s l depth x
  pub all : (x : MadeTree V) → IsMadeChain makes lexicon s l depth x → Has x xs
  pub order : AreInOrder (map (λ x. x.chain) xs)
