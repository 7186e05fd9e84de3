-- Lexical trees: entries under lexical rules, with the words that they spell.
use Rattle.std.specs.Prelude.{ℕ, ◌≡◌, ◌<◌, List, [], ◌∷◌, ◌++◌, length, Some, slice_get}
use Rattle.spelling_rules.specs.Trees.{SpellingTree}
use Rattle.spelling_rules.specs.Forms.{HasForm}
use Rattle.fs_model.specs.Sources.{Told}
use Rattle.fs_model.specs.Closure.{Closure, IsConsistent}
use Rattle.derivation.specs.Trees.{Derivation, lexical, phrase}
use Rattle.tree_model.specs.Structures.{Structure, IsStructureOf}
use Rattle.tree_model.specs.Mothers.{IsFull}
use Rattle.tree_model.specs.Signs.{Signs, Instance, an_entry, a_lexical_rule, rule_system}

abbrev pub Word : Type 0
Word = List ℕ

-- what is said of words: those of an entry, by its place, and the spelling of the lexical rules, each of which has a number there
pub record Words : Type 0 where
  pub words_of : ℕ → List Word
  pub spelling : SpellingTree
  pub number_of : ℕ → ℕ

-- a form of a stem under the lexical rule at a place; no word is empty
abbrev pub IsForm : Words → ℕ → Word → Word → Type 0
IsForm words rule stem form = (0 < length stem) × HasForm words.spelling (words.number_of rule) stem form

-- under these rules, from the inside out, some words become others: each rule replaces the last word by a form of it
pub data Become (words : Words) : List Word → List ℕ → List Word → Type 0 where
  become_none : {ws : List Word} → Become words ws [] ws
  become_next : {ws vs : List Word} {rule : ℕ} {rules : List ℕ} (front : List Word) (word form : Word) → ws ≡ front ++ word ∷ [] → IsForm words rule word form →
      Become words (front ++ form ∷ []) rules vs → Become words ws (rule ∷ rules) vs

-- a chain, an entry under lexical rules, spells the words to which the entry's words lead
abbrev pub Spells : Words → ℕ → List ℕ → List Word → Type 0
Spells words entry rules said = Become words (words.words_of entry) rules said

-- the full structure of an entry, and what lexical rules make of a full structure, from the inside out
pub record IsEntry (g : Signs) (entry : ℕ) (f : Structure) : Type 0 where
  pub instance : Instance
  pub at : slice_get g.instances entry ≡ Some instance
  pub kind : instance.kind ≡ an_entry
  pub consistent : IsConsistent g.system (Told instance.rule.facts)
  pub structure : IsStructureOf g.system g.paths (Closure g.system (Told instance.rule.facts)) f

pub record IsUnderRule (g : Signs) (rule : ℕ) (d f : Structure) : Type 0 where
  pub instance : Instance
  pub at : slice_get g.instances rule ≡ Some instance
  pub kind : instance.kind ≡ a_lexical_rule
  pub single : length instance.rule.places ≡ 1
  pub full : IsFull (rule_system g) instance.rule (d ∷ []) f

pub data FullUnder (g : Signs) : Structure → List ℕ → Structure → Type 0 where
  under_none : {f : Structure} → FullUnder g f [] f
  under_next : {d e f : Structure} {rule : ℕ} {rules : List ℕ} → IsUnderRule g rule d e → FullUnder g e rules f → FullUnder g d (rule ∷ rules) f

abbrev pub FullLexical : Signs → ℕ → List ℕ → Structure → Type 0
FullLexical g entry rules f = (d : Structure) × IsEntry g entry d × FullUnder g d rules f

abbrev pub rule_count : Derivation → ℕ
rule_count (lexical entry rules words nodes) = length rules
rule_count (phrase rule ds) = 0
