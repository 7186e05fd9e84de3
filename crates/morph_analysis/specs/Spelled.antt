-- The words that lead to a word, and by which rules.
use Rattle.std.specs.Prelude.{ℕ, ◌≡◌, ◌<◌, ◌≤◌, List, [], ◌∷◌, length, slice_index_or}
use Rattle.lexicon.specs.Words.{Word, Has}
use Rattle.spelling_rules.specs.Trees.{SpellingTree}
use Rattle.spelling_rules.specs.Forms.{HasForm}
use Rattle.morph_analysis.specs.Chains.{Leads}

-- an edge from a word to one of its forms: the rule, and the form's node
pub record EdgeTree : Type 0 where
  pub rule : ℕ
  pub to : ℕ

-- a node: a word, its distance from node 0, and the edges that begin at it
pub record NodeTree : Type 0 where
  pub word : Word
  pub distance : ℕ
  pub edges : List EdgeTree

abbrev pub no_node : NodeTree
no_node = record { word = []; distance = 0; edges = [] }

abbrev pub node_at : List NodeTree → ℕ → NodeTree
node_at nodes n = slice_index_or nodes n no_node

-- rules by which edges lead from a node to another
pub data Runs (nodes : List NodeTree) : List ℕ → ℕ → ℕ → Type 0 where
  stays : (n : ℕ) → Runs nodes [] n n
  goes : (rule : ℕ) (rules : List ℕ) (n m k : ℕ) → n < length nodes → Has (record { rule = rule; to = m }) (node_at nodes n).edges → Runs nodes rules m k → Runs nodes (rule ∷ rules) n k

-- The words that lead to a word by at most so many rules, as a graph with that word at node 0.
pub record IsSpelled (s : SpellingTree) (word : Word) (depth : ℕ) (nodes : List NodeTree) : Type 0 where
  -- node 0 is the word
  pub root : (0 < length nodes) × ((node_at nodes 0).word ≡ word)
  -- an edge leads from a word to one of its forms
  pub forms : (n rule m : ℕ) → n < length nodes → Has (record { rule = rule; to = m }) (node_at nodes n).edges
      → (m < length nodes) × (rule < length s.rules) × (0 < length (node_at nodes n).word) × HasForm s rule (node_at nodes n).word (node_at nodes m).word
  -- each way of leading to the word runs along edges
  pub ways : (rules : List ℕ) (stem : Word) → length rules ≤ depth → Leads s rules stem word → (n : ℕ) × (n < length nodes) × ((node_at nodes n).word ≡ stem) × Runs nodes rules n 0
  -- no edges lead from a node to node 0 by fewer rules than its distance
  pub near : (rules : List ℕ) (n : ℕ) → n < length nodes → Runs nodes rules n 0 → (node_at nodes n).distance ≤ length rules
  -- each word has one node
  pub apart : (n m : ℕ) → n < length nodes → m < length nodes → (node_at nodes n).word ≡ (node_at nodes m).word → n ≡ m
