-- The forms of several words under a lexical rule (DELPH-IN TDL: morphological rules).
use Rattle.std.specs.Prelude.{ℕ, ◌<◌, List, length}
use Rattle.lexicon.specs.Words.{Word, Has, Rises}
use Rattle.spelling_rules.specs.Trees.{SpellingTree}
use Rattle.spelling_rules.specs.Forms.{HasForm}

-- a rule makes this form of one of some words
abbrev pub OfWords : SpellingTree → ℕ → List Word → Word → Type 0
OfWords s rule words x = (w : Word) × Has w words × (0 < length w) × HasForm s rule w x

-- the forms of some words under a rule, rising
pub record AreFormsOf (s : SpellingTree) (rule : ℕ) (words forms : List Word) : Type 0 where
  pub rises : Rises forms
  pub all : (x : Word) → OfWords s rule words x → Has x forms
  pub have : (x : Word) → Has x forms → OfWords s rule words x
