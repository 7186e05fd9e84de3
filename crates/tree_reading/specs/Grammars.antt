-- What trees are written over: the names of a grammar's instances, and what each is.
use Rattle.std.specs.Prelude.{ℕ, suc, ◌≡◌, ◌<◌, ◌^◌, ◌==◌, ◌||◌, Bool, false, Option, Some, None, List, All, length, slice_get}
use Rattle.derivation.specs.Trees.{Derivation, Daughters, lexical, phrase, no_more, first}
use Rattle.derivation.specs.Text.{name_of}
use Rattle.tree_reading.specs.declared.Part.{Part}
use Rattle.tree_reading.specs.declared.Part.TheVariants.{Entry, LexicalRule, PhraseRule}

-- the names and the parts of instances, by place
pub record TreeGrammar : Type 0 where
  pub names : List (List ℕ)
  pub parts : List Part

-- a blank, a quote or a parenthesis
abbrev pub ends_name : ℕ → Bool
ends_name byte = byte == 32 || byte == 34 || byte == 40 || byte == 41

-- a name has a byte, and no blank, quote or parenthesis
abbrev pub IsName : List ℕ → Type 0
IsName name = (0 < length name) × All (λ byte. ends_name byte ≡ false) name

-- each place has a part and a name, which is one
abbrev pub IsNamedWell : TreeGrammar → Type 0
IsNamedWell g = (length g.names ≡ length g.parts) × All IsName g.names

abbrev pub IsSameKind : Part → Part → Type 0
IsSameKind Entry Entry = Unit {0}
IsSameKind LexicalRule LexicalRule = Unit {0}
IsSameKind (PhraseRule n) (PhraseRule m) = Unit {0}
IsSameKind _ _ = ⊥

-- of one kind no two have one name
abbrev pub IsNamedApart : TreeGrammar → Type 0
IsNamedApart g = (i j : ℕ) (p q : Part) → slice_get g.parts i ≡ Some p → slice_get g.parts j ≡ Some q → IsSameKind p q → name_of g.names i ≡ name_of g.names j → i ≡ j

abbrev pub HasEntry : TreeGrammar → Type 0
HasEntry g = (e : ℕ) × (slice_get g.parts e ≡ Some Entry)

-- a word has a byte, and no blank
abbrev pub IsWord : List ℕ → Type 0
IsWord word = (0 < length word) × All (λ byte. (byte == 32) ≡ false) word

abbrev pub AreWords : List (List ℕ) → Type 0
AreWords words = (0 < length words) × All IsWord words

abbrev pub AreNodes : Option (ℕ × ℕ) → Type 0
AreNodes None = Unit {0}
AreNodes (Some n) = (n.0 < 2 ^ 32) × (n.1 < 2 ^ 32)

abbrev pub count_daughters : Daughters → ℕ
count_daughters no_more = 0
count_daughters (first d ds) = suc (count_daughters ds)

-- a tree of the grammar's entries and rules, each rule over as many daughters as it has; whether it is licensed is another matter
abbrev mutual
  pub IsOver : TreeGrammar → Derivation → Type 0
  IsOver g (lexical e rules words nodes) =
      (slice_get g.parts e ≡ Some Entry) × All (λ r. slice_get g.parts r ≡ Some LexicalRule) rules × AreWords words × AreNodes nodes
  IsOver g (phrase r ds) = (slice_get g.parts r ≡ Some (PhraseRule (count_daughters ds))) × (0 < count_daughters ds) × AreOver g ds

  pub AreOver : TreeGrammar → Daughters → Type 0
  AreOver g no_more = Unit {0}
  AreOver g (first d ds) = IsOver g d × AreOver g ds
