-- Lattices of words: steps between nodes, and the words that paths of steps carry.
use Rattle.std.specs.Prelude.{ℕ, ◌<◌, ◌≤◌, suc, List, [], ◌∷◌}
use Rattle.lexicon.specs.Words.{Word, Has, Each}

pub record StepTree : Type 0 where
  pub from : ℕ
  pub to : ℕ
  pub word : Word

pub record LatticeTree : Type 0 where
  pub steps : List StepTree
  pub end : ℕ

-- each step goes forward, and not past the end
abbrev pub IsValid : LatticeTree → Type 0
IsValid l = Each (λ s. (s.from < s.to) × (s.to ≤ l.end)) l.steps

-- some path of steps from the first node to the second carries exactly these words
pub data Carries (steps : List StepTree) : ℕ → List Word → ℕ → Type 0 where
  stays : (n : ℕ) → Carries steps n [] n
  goes : (s : StepTree) (words : List Word) (to : ℕ) → Has s steps → Carries steps s.to words to → Carries steps s.from (s.word ∷ words) to

-- the same steps, perhaps in another order
pub record HaveSame (xs ys : List StepTree) : Type 0 where
  pub there : (s : StepTree) → Has s xs → Has s ys
  pub back : (s : StepTree) → Has s ys → Has s xs

-- numbers that rise
abbrev pub AreAbove : ℕ → List ℕ → Type 0
AreAbove n ms = Each (λ m. n < m) ms

abbrev pub AreRising : List ℕ → Type 0
AreRising [] = Unit {0}
AreRising (n ∷ ns) = AreAbove n ns × AreRising ns

-- Exactly the nodes from which some path of steps to a node carries exactly these words, each once, by rising number.
pub record AreFronts (steps : List StepTree) (words : List Word) (node : ℕ) (froms : List ℕ) : Type 0 where
  pub have : (from : ℕ) → Has from froms → Carries steps from words node
  pub all : (from : ℕ) → Carries steps from words node → Has from froms
  pub rising : AreRising froms

-- the lattice of words in a row: one step from i to i + 1 for each word
abbrev pub steps_from : ℕ → List Word → List StepTree
steps_from i [] = []
steps_from i (w ∷ ws) = record { from = i; to = suc i; word = w } ∷ steps_from (suc i) ws
