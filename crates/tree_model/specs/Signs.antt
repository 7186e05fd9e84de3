-- A grammar as its trees see it.
use Rattle.std.specs.Prelude.{ℕ, ◌+◌, Bool, true, false, if◌then◌else◌, Option, Some, None, List, [], ◌∷◌, map}
use Rattle.fs_model.specs.Claims.{Path, System}
use Rattle.tree_model.specs.Mothers.{Rule, RuleSystem}

pub data Kind : Type 0 where
  an_entry : Kind
  a_lexical_rule : Kind
  a_phrase_rule : Kind
  a_root : Kind
  another : Kind

-- an instance: what it is, its facts, and the places of its daughters, of which only a rule has any
pub record Instance : Type 0 where
  pub kind : Kind
  pub rule : Rule

-- a type system with instances, in order of place
pub record Signs : Type 0 where
  pub system : System
  pub paths : List Path
  pub instances : List Instance
  pub daughter_features : List ℕ
  pub restrictors : List ℕ

abbrev pub is_phrase_rule : Kind → Bool
is_phrase_rule an_entry = false
is_phrase_rule a_lexical_rule = false
is_phrase_rule a_phrase_rule = true
is_phrase_rule a_root = false
is_phrase_rule another = false

-- the phrase rules with their places, which are counted from p
abbrev pub phrase_rules : ℕ → List Instance → List (ℕ × Rule)
phrase_rules p [] = []
phrase_rules p (i ∷ is) = if is_phrase_rule i.kind then (p, i.rule) ∷ phrase_rules (p + 1) is else phrase_rules (p + 1) is

abbrev pub placed_rules : Signs → List (ℕ × Rule)
placed_rules g = phrase_rules 0 g.instances

-- the phrase rules, which a chart numbers in order of place
abbrev pub rule_system : Signs → RuleSystem
rule_system g =
    record {
      system = g.system;
      paths = g.paths;
      rules = map (λ r. r.1) (placed_rules g);
      daughters = record { at_root = g.daughter_features; anywhere = [] };
      restrictors = record { at_root = []; anywhere = g.restrictors };
    }

-- the place of a rule's number
abbrev pub place_at : Option (ℕ × Rule) → ℕ
place_at None = 0
place_at (Some r) = r.0
