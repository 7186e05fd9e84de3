-- Phrase rules in code, as a system of rules.
use Rattle.std.specs.Prelude.{◌<◌, ◌≤◌, List, All, length, map}
use Rattle.fs_model.specs.Claims.{Path, Has}
use Rattle.fs_graph.specs.GraphMap.{reader_of}
use Rattle.fs_closing.specs.Rules.{Grammar, system_of}
use Rattle.fs_unify.specs.Entering.{IsWellFormed}
use Rattle.tree_model.specs.Cuts.{Cut}
use Rattle.tree_model.specs.Mothers.{Rule, RuleSystem}
use Rattle.tree_model.specs.Said.{rule_said}
pub use Rattle.fs_trim.specs.Cutting.{paths_in}
use Rattle.fs_trim.specs.Cutting.{IsShort}
use Rattle.grammar_shapes.specs.declared.phrase_rule.PhraseRule.{PhraseRule}
use Rattle.sieve.specs.Sketches.{paths_of}

abbrev pub places_of : PhraseRule → List Path
places_of r = paths_of r.places.items

-- a rule has the facts of its structure
abbrev pub rule_of : Grammar → PhraseRule → Rule
rule_of g r = rule_said (paths_in g) (reader_of r.structure.now) (places_of r)

-- the rules of a type system; what a mother loses, and what an abstract structure lacks
abbrev pub system_in : Grammar → List PhraseRule → Cut → Cut → RuleSystem
system_in g rules daughters restrictors =
    record { system = system_of g; paths = paths_in g; rules = map (rule_of g) rules; daughters = daughters; restrictors = restrictors }

-- The features and types of a rule's structure and places are there, and no path is too long. It has one to four daughters.
pub record IsRuleIn (g : Grammar) (r : PhraseRule) : Type 0 where
  pub structure_in : IsShort g r.structure.now
  pub places_in : All (λ p. All (λ f. f < length g.introducers) p) (places_of r)
  pub some : 0 < length (places_of r)
  pub few : length (places_of r) ≤ 4

-- the structures of rules are well-formed
abbrev pub AreClosed : Grammar → List PhraseRule → Type 0
AreClosed g rules = (r : PhraseRule) → Has r rules → IsWellFormed (system_of g) (reader_of r.structure.now)
