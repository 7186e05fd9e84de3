-- Trees whose places are those of entries and of rules.
use Rattle.std.specs.Prelude.{ℕ, ◌≡◌, ◌+◌, Some, All, length, slice_get}
use Rattle.derivation.specs.Trees.{Derivation, Daughters, lexical, phrase, no_more, first}
use Rattle.tree_model.specs.Signs.{Kind, an_entry, a_lexical_rule, a_phrase_rule, Instance, Signs}

-- at a place stands an instance of this kind
pub record IsOfKind (kind : Kind) (g : Signs) (place : ℕ) : Type 0 where
  pub instance : Instance
  pub at : slice_get g.instances place ≡ Some instance
  pub kind_is : instance.kind ≡ kind

abbrev pub IsEntryAt : Signs → ℕ → Type 0
IsEntryAt = IsOfKind an_entry

abbrev pub IsLexicalRuleAt : Signs → ℕ → Type 0
IsLexicalRuleAt = IsOfKind a_lexical_rule

-- a phrase rule with so many daughters
pub record IsPhraseRuleOf (g : Signs) (place count : ℕ) : Type 0 where
  pub rule : IsOfKind a_phrase_rule g place
  pub arity : length rule.instance.rule.places ≡ count

abbrev pub count_of : Daughters → ℕ
count_of no_more = 0
count_of (first d ds) = count_of ds + 1

abbrev mutual
  -- entries under lexical rules, and phrase rules over as many trees as they have daughters
  pub IsFormed : Signs → Derivation → Type 0
  IsFormed g (lexical entry rules words nodes) = IsEntryAt g entry × All (IsLexicalRuleAt g) rules
  IsFormed g (phrase rule ds) = IsPhraseRuleOf g rule (count_of ds) × AreFormed g ds

  pub AreFormed : Signs → Daughters → Type 0
  AreFormed g no_more = Unit {0}
  AreFormed g (first d ds) = IsFormed g d × AreFormed g ds
