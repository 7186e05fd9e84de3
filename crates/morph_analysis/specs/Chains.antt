-- Chains: an entry and lexical rules from the inside out, with the words that they spell in a lattice.
use Rattle.std.specs.Prelude.{ℕ, ◌≡◌, ◌<◌, ◌≤◌, List, [], ◌∷◌, ◌++◌, length}
use Rattle.std.specs.declared.cmp.Ordering.{Ordering}
use Rattle.std.specs.declared.cmp.Ordering.TheVariants.{Less}
use Rattle.std.specs.Ordering.{nat_cmp, ordering_then}
use Rattle.std.specs.Cmp.Lexicographic.{slice_cmp}
use Rattle.lexicon.specs.Words.{Word, Has, Each, compared}
use Rattle.lexicon.specs.Entries.{EntryTree}
use Rattle.spelling_rules.specs.Trees.{SpellingTree}
use Rattle.spelling_rules.specs.Forms.{HasForm}
use Rattle.morph_analysis.specs.Lattices.{LatticeTree, Carries}
use Rattle.morph_analysis.specs.Allowed.{FeedsTree, IsAllowed}

-- taking one of the forms at each rule leads from a word to another; a rule takes no empty word
pub data Leads (s : SpellingTree) : List ℕ → Word → Word → Type 0 where
  there : (w : Word) → Leads s [] w w
  by : (rule : ℕ) (rules : List ℕ) (w x y : Word) → rule < length s.rules → 0 < length w → HasForm s rule w x → Leads s rules x y → Leads s (rule ∷ rules) w y

-- An entry and rules spell words: the entry's words lead to them, each rule replacing the last word by one of its forms.
pub record Spells (lexicon : List EntryTree) (s : SpellingTree) (entry : ℕ) (rules : List ℕ) (words : List Word) : Type 0 where
  pub front : List Word
  pub stem : Word
  pub form : Word
  pub is_entry : Has (record { number = entry; words = front ++ stem ∷ [] }) lexicon
  pub is : words ≡ front ++ form ∷ []
  pub leads : Leads s rules stem form

pub record ChainTree : Type 0 where
  pub entry : ℕ
  pub rules : List ℕ
  pub words : List Word
  pub from : ℕ
  pub to : ℕ

-- the allowed chains of at most so many rules in a lattice
pub record IsChain (lexicon : List EntryTree) (s : SpellingTree) (f : FeedsTree) (l : LatticeTree) (depth : ℕ) (c : ChainTree) : Type 0 where
  pub spells : Spells lexicon s c.entry c.rules c.words
  pub carried : Carries l.steps c.from c.words c.to
  pub allowed : IsAllowed f c.entry c.rules
  pub shallow : length c.rules ≤ depth

-- by `from`, `to`, entry, rules and words
abbrev pub chain_order : ChainTree → ChainTree → Ordering
chain_order a b =
    ordering_then (nat_cmp a.from b.from) (ordering_then (nat_cmp a.to b.to) (ordering_then (nat_cmp a.entry b.entry) (ordering_then (slice_cmp nat_cmp a.rules b.rules) (slice_cmp compared a.words b.words))))

-- each before those that follow it
abbrev pub AreInOrder : List ChainTree → Type 0
AreInOrder [] = Unit {0}
AreInOrder (c ∷ cs) = Each (λ d. chain_order c d ≡ Less) cs × AreInOrder cs

-- Exactly the chains, each once, in order.
pub record AreChains (lexicon : List EntryTree) (s : SpellingTree) (f : FeedsTree) (l : LatticeTree) (depth : ℕ) (chains : List ChainTree) : Type 0 where
  pub have : (c : ChainTree) → Has c chains → IsChain lexicon s f l depth c
  pub all : (c : ChainTree) → IsChain lexicon s f l depth c → Has c chains
  pub order : AreInOrder chains

-- each entry has a word
abbrev pub HaveWords : List EntryTree → Type 0
HaveWords lexicon = Each (λ e. 0 < length e.words) lexicon
