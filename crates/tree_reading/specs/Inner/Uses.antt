-- What a name is to trees.
use Rattle.std.specs.Prelude.{ℕ, ◌≡◌, ◌<◌, ◌==◌, if◌then◌else◌, Bool, true, List, Some, None, slice_get, unwrap_or, String}
use Rattle.std.specs.Map.{lookup}
use Rattle.std.specs.Str.{bytes_eq}
use Rattle.std.specs.Global.{Global}
use Rattle.std.specs.String.{string_bytes}
use Rattle.derivation.specs.Text.{name_of}
use Rattle.tree_reading.specs.declared.Part.{Part}
use Rattle.tree_reading.specs.declared.Part.TheVariants.{Entry, LexicalRule, PhraseRule, Other}
use Rattle.tree_reading.specs.declared.uses.Uses.{Uses}
use Rattle.tree_reading.specs.declared.uses.Phrase.{Phrase}
use Rattle.tree_reading.specs.Grammars.{TreeGrammar}
use Rattle.tree_reading.specs.Inner.Frames.{AreRules}

pub record AreUses (g : TreeGrammar) (wide : Bool) (name : List ℕ) (uses : Uses) : Type 0 where
  pub entry : (e : ℕ) → uses.entry ≡ Some e → (slice_get g.parts e ≡ Some Entry) × (name_of g.names e ≡ name)
  pub no_entry : uses.entry ≡ None → (e : ℕ) → slice_get g.parts e ≡ Some Entry → name_of g.names e ≡ name → ⊥
  pub rules : AreRules g wide name uses.rules

abbrev pub no_uses : Uses
no_uses = record { entry = None; rules = record { lexical = None; phrase = None } }

-- what a table says of a name
abbrev pub uses_in : List (String Global × Uses) → List ℕ → Uses
uses_in entries name = unwrap_or (lookup (λ k. bytes_eq name (string_bytes k)) entries) no_uses

-- the uses of a name that has one more instance
abbrev pub with_use : Uses → ℕ → Part → Uses
with_use old place Entry = record { entry = Some place; rules = old.rules }
with_use old place LexicalRule = record { entry = old.entry; rules = record { lexical = Some place; phrase = old.rules.phrase } }
with_use old place (PhraseRule n) =
    if n == 0 then old else (record { entry = old.entry; rules = record { lexical = old.rules.lexical; phrase = Some (record { rule = place; daughters = n }) } })
with_use old place Other = old

-- the uses of a name among the first places
pub record AreUsesBelow (g : TreeGrammar) (limit : ℕ) (name : List ℕ) (uses : Uses) : Type 0 where
  pub entry : (e : ℕ) → uses.entry ≡ Some e → (slice_get g.parts e ≡ Some Entry) × (name_of g.names e ≡ name)
  pub no_entry : uses.entry ≡ None → (e : ℕ) → e < limit → slice_get g.parts e ≡ Some Entry → name_of g.names e ≡ name → ⊥
  pub lexical : (r : ℕ) → uses.rules.lexical ≡ Some r → (slice_get g.parts r ≡ Some LexicalRule) × (name_of g.names r ≡ name)
  pub no_lexical : uses.rules.lexical ≡ None → (r : ℕ) → r < limit → slice_get g.parts r ≡ Some LexicalRule → name_of g.names r ≡ name → ⊥
  pub phrase : (p : Phrase) → uses.rules.phrase ≡ Some p → (0 < p.daughters) × (slice_get g.parts p.rule ≡ Some (PhraseRule p.daughters)) × (name_of g.names p.rule ≡ name)
  pub each_phrase : (n r : ℕ) → r < limit → 0 < n → slice_get g.parts r ≡ Some (PhraseRule n) → name_of g.names r ≡ name → (p : Phrase) × (uses.rules.phrase ≡ Some p) × (p.daughters ≡ n)

abbrev pub AreTabledBelow : TreeGrammar → ℕ → List (String Global × Uses) → Type 0
AreTabledBelow g limit entries = (name : List ℕ) → AreUsesBelow g limit name (uses_in entries name)

abbrev pub AreTabled : TreeGrammar → List (String Global × Uses) → Type 0
AreTabled g entries = (name : List ℕ) → AreUses g true name (uses_in entries name)
