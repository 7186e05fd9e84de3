-- What a call adds to a list, in no order and perhaps more than once.
use Rattle.std.specs.Prelude.{ℕ, ◌≡◌, ◌⊎◌, ◌++◌, ◌<◌, ◌≤◌, List, [], ◌∷◌, length}
use Rattle.lexicon.specs.Words.{Word, Has}
use Rattle.lexicon.specs.Entries.{EntryTree}
use Rattle.lexicon.specs.Groups.{GroupTree}
use Rattle.spelling_rules.specs.Trees.{SpellingTree}
use Rattle.morph_analysis.specs.Chains.{Leads}
use Rattle.morph_analysis.specs.Made.{MadeTree}
use Rattle.morph_analysis.specs.Lattices.{StepTree, Carries}
use Rattle.morph_analysis.specs.Spelled.{NodeTree, node_at}
use Rattle.morph_analysis.specs.Inner.Routes.{IsRouteOf}

-- exactly those elements are added for which P holds
pub record AddsThose {X : Type 0} (P : X → Type 0) (old new : List X) : Type 0 where
  pub kept : (x : X) → Has x old → Has x new
  pub added : (x : X) → P x → Has x new
  pub only : (x : X) → Has x new → Has x old ⊎ P x

-- a node from which a step with a word leads to one of these nodes
abbrev pub Precedes : List StepTree → Word → List ℕ → ℕ → Type 0
Precedes steps word nodes from = (to : ℕ) × Has to nodes × Has (record { from = from; to = to; word = word }) steps

-- chains to a node with these words, for which E holds of the entry, R of entry, rules and what is made of them, and F of the first node
pub record IsOf {V : Type 0} (E : ℕ → Type 0) (R : ℕ → List ℕ → V → Type 0) (F : ℕ → Type 0) (words : List Word) (to : ℕ) (c : MadeTree V) : Type 0 where
  pub entry : E c.chain.entry
  pub rules : R c.chain.entry c.chain.rules c.value
  pub from : F c.chain.from
  pub words_are : c.chain.words ≡ words
  pub to_is : c.chain.to ≡ to

-- chains of some of these entries, with this front, whose last word is at a node, over paths that end with a step
abbrev pub OfGroup : {V : Type 0} → List NodeTree → (ℕ → List ℕ → V → Type 0) → ℕ → List StepTree → StepTree → ℕ → List Word → (ℕ → Type 0) → MadeTree V → Type 0
OfGroup nodes A depth steps s n front E =
    IsOf E (IsRouteOf nodes A depth n) (λ from. Carries steps from front s.from) (front ++ s.word ∷ []) s.to

-- chains of entries that end with the word of a node
pub record OfNode {V : Type 0} (lexicon : List EntryTree) (nodes : List NodeTree) (A : ℕ → List ℕ → V → Type 0) (depth : ℕ) (steps : List StepTree) (s : StepTree) (n : ℕ) (c : MadeTree V) : Type 0 where
  pub front : List Word
  pub entry : Has (record { number = c.chain.entry; words = front ++ (node_at nodes n).word ∷ [] }) lexicon
  pub rest : OfGroup nodes A depth steps s n front (λ e. e ≡ c.chain.entry) c

-- chains of entries that end with the word of one of the nodes before
abbrev pub OfNodes : {V : Type 0} → List EntryTree → List NodeTree → (ℕ → List ℕ → V → Type 0) → ℕ → List StepTree → StepTree → ℕ → MadeTree V → Type 0
OfNodes lexicon nodes A depth steps s end c = (n : ℕ) × (n < end) × OfNode lexicon nodes A depth steps s n c

-- some element has what R says
abbrev pub OfSome : {A X : Type 0} → (A → X → Type 0) → List A → X → Type 0
OfSome {A} R xs c = (a : A) × Has a xs × R a c

-- chains of the entries of a group
pub record OfWords {V : Type 0} (nodes : List NodeTree) (A : ℕ → List ℕ → V → Type 0) (depth : ℕ) (steps : List StepTree) (s : StepTree) (n : ℕ) (g : GroupTree) (c : MadeTree V) : Type 0 where
  pub front : List Word
  pub last : Word
  pub split : g.words ≡ front ++ last ∷ []
  pub rest : OfGroup nodes A depth steps s n front (λ e. Has e g.entries) c

-- the chains whose last word is that of a step
pub record OfStep {V : Type 0} (lexicon : List EntryTree) (sp : SpellingTree) (A : ℕ → List ℕ → V → Type 0) (depth : ℕ) (steps : List StepTree) (s : StepTree) (c : MadeTree V) : Type 0 where
  pub front : List Word
  pub stem : Word
  pub is_entry : Has (record { number = c.chain.entry; words = front ++ stem ∷ [] }) lexicon
  pub leads : Leads sp c.chain.rules stem s.word
  pub carried : Carries steps c.chain.from front s.from
  pub words_are : c.chain.words ≡ front ++ s.word ∷ []
  pub to_is : c.chain.to ≡ s.to
  pub made : A c.chain.entry c.chain.rules c.value
  pub shallow : length c.chain.rules ≤ depth
