-- Whether lexical trees spell their words, and if not, at which of their nodes.
use Rattle.std.specs.Prelude.{ℕ, suc, ◌≡◌, List, [], ◌∷◌, ◌++◌, length, replicate, Option}
use Rattle.derivation.specs.Trees.{Derivation, Daughters, lexical, phrase}
use Rattle.derivation.specs.Order.{outermost}
use Rattle.tree_model.specs.Lexical.{Word, Words, Become, Spells}
use Rattle.tree_model.specs.Trees.{LeavesAre}
use Rattle.tree_faults.specs.Nodes.{Place, IsDaughterAt, ComesBefore}

abbrev pub IsSpelled : Words → Derivation → Type 0
IsSpelled words (lexical entry rules said nodes) = Spells words entry rules said
IsSpelled words (phrase rule ds) = ⊥

-- each lexical tree of a tree spells its words
abbrev pub AreSpelled : Words → Derivation → Type 0
AreSpelled words t = LeavesAre (IsSpelled words) t

-- an entry under rules has some words
abbrev pub HasForms : Words → ℕ → List ℕ → Type 0
HasForms words entry rules = (said : List Word) × Become words (words.words_of entry) rules said

-- Where an entry under rules doesn't spell words: at the rule, counted from the outermost, at which no form is left; or, where there are forms
-- and these words aren't among them, at the outermost node.
pub data FailsWithin (words : Words) (entry : ℕ) : List ℕ → List Word → Place → ℕ → Type 0 where
  no_form : {said : List Word} (before : List ℕ) (rule : ℕ) (after : List ℕ) → HasForms words entry before → (HasForms words entry (before ++ rule ∷ []) → ⊥) →
      FailsWithin words entry (before ++ rule ∷ after) said (replicate (length after) 1) rule
  other_words : {rules : List ℕ} {said : List Word} → HasForms words entry rules → (Spells words entry rules said → ⊥) → FailsWithin words entry rules said [] (outermost entry rules)

-- the lexical trees of a tree, each at the place of its outermost node
pub data IsLeafAt : Derivation → Place → Derivation → Type 0 where
  leaf_here : {entry : ℕ} {rules : List ℕ} {said : List Word} {nodes : Option (ℕ × ℕ)} → IsLeafAt (lexical entry rules said nodes) [] (lexical entry rules said nodes)
  leaf_below : {rule n : ℕ} {ds : Daughters} {d leaf : Derivation} {place : Place} → IsDaughterAt ds n d → IsLeafAt d place leaf → IsLeafAt (phrase rule ds) (suc n ∷ place) leaf

-- At this place, within the first lexical tree that doesn't spell its words, the words fail at this instance.
pub record IsFirstMisspelled (words : Words) (t : Derivation) (place : Place) (instance : ℕ) : Type 0 where
  pub entry : ℕ
  pub rules : List ℕ
  pub said : List Word
  pub nodes : Option (ℕ × ℕ)
  pub top : Place
  pub leaf : IsLeafAt t top (lexical entry rules said nodes)
  pub before : (q : Place) (other : Derivation) → IsLeafAt t q other → ComesBefore q top → IsSpelled words other
  pub inner : Place
  pub fails : FailsWithin words entry rules said inner instance
  pub place_is : place ≡ top ++ inner
