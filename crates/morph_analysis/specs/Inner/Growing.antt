-- How the words that lead to a word are gathered, round by round.
use Rattle.std.specs.Prelude.{ℕ, zero, suc, ◌≡◌, ◌⊎◌, ◌<◌, ◌≤◌, ◌++◌, List, [], ◌∷◌, length}
use Rattle.lexicon.specs.Words.{Word, Has}
use Rattle.spelling_rules.specs.Trees.{SpellingTree}
use Rattle.spelling_rules.specs.Forms.{HasForm}
use Rattle.morph_analysis.specs.Chains.{Leads}
use Rattle.morph_analysis.specs.Spelled.{EdgeTree, NodeTree, node_at, Runs}

-- later nodes keep the words, the distances and the edges of earlier ones
pub record Grows (old new : List NodeTree) : Type 0 where
  pub longer : length old ≤ length new
  pub words : (n : ℕ) → n < length old → (node_at new n).word ≡ (node_at old n).word
  pub distances : (n : ℕ) → n < length old → (node_at new n).distance ≡ (node_at old n).distance
  pub edges : (n : ℕ) (e : EdgeTree) → n < length old → Has e (node_at old n).edges → Has e (node_at new n).edges

abbrev pub IsNodeOf : List NodeTree → Word → ℕ → Type 0
IsNodeOf nodes w n = (n < length nodes) × ((node_at nodes n).word ≡ w)

-- each word has one node
abbrev pub AreApart : List NodeTree → Type 0
AreApart nodes = (n m : ℕ) → n < length nodes → m < length nodes → (node_at nodes n).word ≡ (node_at nodes m).word → n ≡ m

-- no node is farther than this
abbrev pub AllNear : List NodeTree → ℕ → Type 0
AllNear nodes d = (n : ℕ) → n < length nodes → (node_at nodes n).distance ≤ d

-- an edge is one of those that were there
abbrev pub WasThere : List NodeTree → ℕ → EdgeTree → Type 0
WasThere old n e = (n < length old) × Has e (node_at old n).edges

-- a word has an edge by a rule to a place
abbrev pub HasEdge : List NodeTree → Word → ℕ → ℕ → Type 0
HasEdge nodes w rule place = (n : ℕ) × IsNodeOf nodes w n × Has (record { rule = rule; to = place }) (node_at nodes n).edges

-- an edge is a form: its rule makes the word at its end of the word at its beginning, which is at most one rule farther
pub record IsForm (s : SpellingTree) (nodes : List NodeTree) (n : ℕ) (e : EdgeTree) : Type 0 where
  pub within : e.to < length nodes
  pub rule : e.rule < length s.rules
  pub some : 0 < length (node_at nodes n).word
  pub form : HasForm s e.rule (node_at nodes n).word (node_at nodes e.to).word
  pub near : (node_at nodes n).distance ≤ suc (node_at nodes e.to).distance

-- nodes have grown by edges that are forms, and by nodes of one distance
pub record Adds (s : SpellingTree) (distance : ℕ) (old new : List NodeTree) : Type 0 where
  pub grows : Grows old new
  pub only : (n : ℕ) (e : EdgeTree) → n < length new → Has e (node_at new n).edges → WasThere old n e ⊎ IsForm s new n e
  pub far : (n : ℕ) → length old ≤ n → n < length new → (node_at new n).distance ≡ distance
  pub apart : AreApart old → AreApart new

-- each stem of the form at a place has an edge to it
abbrev pub IsDone : SpellingTree → List NodeTree → ℕ → Type 0
IsDone s nodes place = (rule : ℕ) (stem : Word) → rule < length s.rules → 0 < length stem → HasForm s rule stem (node_at nodes place).word → HasEdge nodes stem rule place

-- The graph after some rounds: nodes before `begin` have all their stems, the others are as far as the rounds are many, and each way of at most so many rules runs along edges.
pub record IsPartSpelled (s : SpellingTree) (word : Word) (rounds begin : ℕ) (nodes : List NodeTree) : Type 0 where
  pub some : 0 < length nodes
  pub root : (node_at nodes 0).word ≡ word
  pub start : (node_at nodes 0).distance ≡ 0
  pub forms : (n : ℕ) (e : EdgeTree) → n < length nodes → Has e (node_at nodes n).edges → IsForm s nodes n e
  pub within : begin ≤ length nodes
  pub done : (place : ℕ) → place < begin → IsDone s nodes place
  pub near : AllNear nodes rounds
  pub last : (n : ℕ) → begin ≤ n → n < length nodes → (node_at nodes n).distance ≡ rounds
  pub ways : (rules : List ℕ) (stem : Word) → length rules ≤ rounds → Leads s rules stem word → (n : ℕ) × IsNodeOf nodes stem n × Runs nodes rules n 0
  pub apart : AreApart nodes

-- the same nodes, or with one more that has no edges, for a word that had none
pub record IsWithNode (distance : ℕ) (w : Word) (old new : List NodeTree) : Type 0 where
  pub is : new ≡ old ++ record { word = w; distance = distance; edges = [] } ∷ []
  pub absent : (n : ℕ) → n < length old → (node_at old n).word ≡ w → ⊥

abbrev pub IsGrown : ℕ → Word → List NodeTree → List NodeTree → Type 0
IsGrown distance w old new = (new ≡ old) ⊎ IsWithNode distance w old new

abbrev pub with_edge : List NodeTree → ℕ → EdgeTree → List NodeTree
with_edge [] n e = []
with_edge (x ∷ xs) zero e = record { word = x.word; distance = x.distance; edges = x.edges ++ e ∷ [] } ∷ xs
with_edge (x ∷ xs) (suc n) e = x ∷ with_edge xs n e
