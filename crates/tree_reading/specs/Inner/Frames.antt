-- The rules whose text has begun and not ended: the innermost first.
use Rattle.std.specs.Prelude.{ℕ, ◌≡◌, ◌⊎◌, ◌<◌, Bool, true, false, List, [], ◌∷◌, ◌++◌, Some, None, is_some, slice_get, unwrap_or, option_map, map, reverse, All}
use Rattle.derivation.specs.Trees.{Daughters}
use Rattle.derivation.specs.Text.{name_of}
use Rattle.derivation.specs.Views.{derivation_of, in_order}
use Rattle.derivation.specs.Counted.{AreCounted}
use Rattle.tree_reading.specs.declared.Part.TheVariants.{LexicalRule, PhraseRule}
use Rattle.tree_reading.specs.Grammars.{TreeGrammar, AreOver}
use Rattle.tree_reading.specs.Texts.{ArePreferred}
use Rattle.tree_reading.specs.Inner.Shapes.{Shape, Shapes, none, more, count, joined, texts, shapes, node, IsShape, AreShapes, IsLexical, IsPhraseRule, Begins}
use Rattle.tree_reading.specs.declared.uses.Rules.{Rules}
use Rattle.tree_reading.specs.declared.uses.Phrase.{Phrase}
use Rattle.tree_reading.specs.declared.opening.Open.{Open}

-- a rule's name, what it may be, and the daughters that it has so far
pub record Frame : Type 0 where
  pub name : List ℕ
  pub rules : Rules
  pub done : Shapes

abbrev pub is_wide : List Frame → Bool
is_wide [] = true
is_wide (f ∷ fs) = is_some f.rules.phrase

abbrev pub front : List Frame → List ℕ
front [] = []
front (f ∷ fs) = front fs ++ ((40 ∷ f.name) ++ texts f.done ++ 32 ∷ [])

-- what may stand within a rule: where that can't be a phrase rule, lexical trees alone
abbrev pub IsAllowed : TreeGrammar → Bool → Shape → Type 0
IsAllowed g true s = IsShape g s
IsAllowed g false s = IsLexical g s

-- the rules of a name; phrase rules count where they may stand
pub record AreRules (g : TreeGrammar) (wide : Bool) (name : List ℕ) (rules : Rules) : Type 0 where
  pub lexical : (r : ℕ) → rules.lexical ≡ Some r → (slice_get g.parts r ≡ Some LexicalRule) × (name_of g.names r ≡ name)
  pub no_lexical : rules.lexical ≡ None → (r : ℕ) → slice_get g.parts r ≡ Some LexicalRule → name_of g.names r ≡ name → ⊥
  pub phrase : (p : Phrase) → rules.phrase ≡ Some p → (wide ≡ true) × (0 < p.daughters) × (slice_get g.parts p.rule ≡ Some (PhraseRule p.daughters)) × (name_of g.names p.rule ≡ name)
  pub each_phrase : wide ≡ true → (n : ℕ) → 0 < n → IsPhraseRule g name n → (p : Phrase) × (rules.phrase ≡ Some p) × (p.daughters ≡ n)

-- one daughter more may stand in it
abbrev pub HasRoom : Frame → Type 0
HasRoom f = ((f.done ≡ none) × ((r : ℕ) × (f.rules.lexical ≡ Some r))) ⊎ ((p : Phrase) × (f.rules.phrase ≡ Some p) × (count f.done < p.daughters))

abbrev pub AreFrames : TreeGrammar → List Frame → Type 0
AreFrames g [] = Unit {0}
AreFrames g (f ∷ fs) = AreRules g (is_wide fs) f.name f.rules × HasRoom f × AreShapes g f.done × AreFrames g fs

-- A parenthesis follows the name of the innermost rule, unless it has daughters.
abbrev pub IsReady : List Frame → List ℕ → Type 0
IsReady [] rest = Unit {0}
IsReady (f ∷ fs) rest = f.done ≡ none → Begins 40 rest

-- what follows a daughter, within the rules that have begun
abbrev pub IsBehind : TreeGrammar → List Frame → Shape → List ℕ → Type 0
IsBehind g [] s rest = rest ≡ []
IsBehind g (f ∷ fs) s rest =
    (later : Shapes) × (after : List ℕ) × (rest ≡ texts later ++ 41 ∷ after) × IsAllowed g (is_wide fs) (node f.name (joined f.done (more s later)))

-- a rule is named by one of its places
abbrev pub place_of : Rules → ℕ
place_of rules = unwrap_or rules.lexical (unwrap_or (option_map (λ (p : Phrase). p.rule) rules.phrase) 0)

abbrev pub trees_of : Open → Daughters
trees_of o = in_order (map derivation_of o.daughters.items)

abbrev pub frame_of : List (List ℕ) → Open → Frame
frame_of names o = record { name = name_of names (place_of o.rules); rules = o.rules; done = shapes names (trees_of o) }

abbrev pub frames_of : List (List ℕ) → List Open → List Frame
frames_of names os = reverse (map (frame_of names) os)

-- trees over the grammar, which are preferred and counted
pub record AreRead (g : TreeGrammar) (o : Open) : Type 0 where
  pub over : AreOver g (trees_of o)
  pub preferred : ArePreferred g (trees_of o)
  pub counted : AreCounted o.daughters.items

pub record AreOpen (g : TreeGrammar) (os : List Open) : Type 0 where
  pub frames : AreFrames g (frames_of g.names os)
  pub read : All (AreRead g) os
