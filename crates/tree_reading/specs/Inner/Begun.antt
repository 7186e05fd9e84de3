-- What has been read: the beginning of a tree's text, up to a daughter or after one.
use Rattle.std.specs.Prelude.{ℕ, ◌≡◌, ◌+◌, nat_lt, Bool, false, All, length, unwrap_or, option_map, List, [], ◌∷◌, ◌++◌, Option, Some, None, slice_get}
use Rattle.derivation.specs.Text.{name_of}
use Rattle.derivation.specs.Views.{derivation_of}
use Rattle.derivation.specs.Counted.{IsCounted, AreCounted}
use Rattle.derivation.specs.declared.Tree.{Tree}
use Rattle.tree_reading.specs.declared.Part.TheVariants.{Entry}
use Rattle.tree_reading.specs.declared.uses.Uses.{Uses}
use Rattle.tree_reading.specs.declared.uses.Rules.{Rules}
use Rattle.tree_reading.specs.declared.uses.Phrase.{Phrase}
use Rattle.tree_reading.specs.declared.opening.Open.{Open}
use Rattle.tree_reading.specs.declared.opening.Begun.{Begun}
use Rattle.tree_reading.specs.declared.opening.Begun.TheVariants.{Leaf, Rule}
use Rattle.tree_reading.specs.declared.closing.Child.{Child}
use Rattle.tree_reading.specs.Grammars.{TreeGrammar, IsName, IsOver}
use Rattle.tree_reading.specs.Texts.{IsPreferred}
use Rattle.tree_reading.specs.Inner.Shapes.{shape, text, Begins}
use Rattle.tree_reading.specs.Inner.Frames.{AreOpen, AreRules, IsAllowed, IsReady, frames_of, front, is_wide}
use Rattle.tree_reading.specs.Inner.Uses.{AreUses}
use Rattle.tree_reading.specs.Inner.Closed.{IsGood, tree_of}

-- a parenthesis, a name with these uses, and a blank
pub record IsNamed (g : TreeGrammar) (wide : Bool) (whole : List ℕ) (uses : Uses) (rest : List ℕ) : Type 0 where
  pub name : List ℕ
  pub is_name : IsName name
  pub uses_are : AreUses g wide name uses
  pub some : (uses.entry ≡ None) × (uses.rules.lexical ≡ None) × (uses.rules.phrase ≡ None) → ⊥
  pub is : whole ≡ (40 ∷ name) ++ 32 ∷ rest

-- some rule
abbrev pub HasRule : Rules → Type 0
HasRule rules = (rules.lexical ≡ None) × (rules.phrase ≡ None) → ⊥

abbrev pub HasBegun : TreeGrammar → Bool → List ℕ → Begun → List ℕ → Type 0
HasBegun g wide whole (Leaf e) rest = (slice_get g.parts e ≡ Some Entry) × (whole ≡ (40 ∷ name_of g.names e) ++ 32 ∷ 34 ∷ rest)
HasBegun g wide whole (Rule rules) rest = (name : List ℕ) × IsName name × AreRules g wide name rules × HasRule rules × (whole ≡ (40 ∷ name) ++ 32 ∷ rest) × Begins 40 rest

-- before a daughter, or the whole tree
pub record IsBefore (g : TreeGrammar) (opened : List Open) (whole rest : List ℕ) : Type 0 where
  pub frames : AreOpen g opened
  pub ready : IsReady (frames_of g.names opened) rest
  pub is : front (frames_of g.names opened) ++ rest ≡ whole

-- after a daughter, or the whole tree
pub record IsAfter (g : TreeGrammar) (opened : List Open) (child : Child) (whole rest : List ℕ) : Type 0 where
  pub frames : AreOpen g opened
  pub good : IsGood g child
  pub allowed : IsAllowed g (is_wide (frames_of g.names opened)) (shape g.names (tree_of child))
  pub is : front (frames_of g.names opened) ++ (text (shape g.names (tree_of child)) ++ rest) ≡ whole

-- where reading has come to: to the end of the whole tree, or before another daughter
abbrev pub HasRisen : TreeGrammar → List Open → Option Child → List ℕ → List ℕ → Type 0
HasRisen g opened None whole rest = IsBefore g opened whole rest
HasRisen g opened (Some child) whole rest = IsAfter g [] child whole rest

abbrev pub AreCountedIn : Open → Type 0
AreCountedIn o = AreCounted o.daughters.items

-- whether a rule may have yet another daughter after one that is read
abbrev pub room_after : Open → Bool
room_after o = unwrap_or (option_map (λ (p : Phrase). nat_lt (length o.daughters.items + 1) p.daughters) o.rules.phrase) false

-- the text of a tree over the grammar, which is preferred and counted
pub record IsWritten (g : TreeGrammar) (whole : List ℕ) (tree : Tree) : Type 0 where
  pub over : IsOver g (derivation_of tree)
  pub preferred : IsPreferred g (derivation_of tree)
  pub counted : IsCounted tree
  pub is : whole ≡ text (shape g.names (derivation_of tree))

-- as many blanks as stand at the beginning, and the rest
pub record HasBlanks (whole rest : List ℕ) : Type 0 where
  pub blanks : List ℕ
  pub blank : All (λ byte. byte ≡ 32) blanks
  pub is : whole ≡ blanks ++ rest
  pub no_more : Begins 32 rest → ⊥
