-- What the phrase rules of a grammar contribute themselves, whatever MRS is asked for (Carroll, Copestake, Flickinger and Poznanski 1999).
use Rattle.std.specs.Prelude.{ℕ, Option, List, map}
use Rattle.std.specs.List.{AllZip}
use Rattle.chart_model.specs.declared.counts.Counts.{Counts}
use Rattle.type_hierarchy.specs.Table.{TypeTable}
use Rattle.tree_model.specs.Mothers.{Rule}
use Rattle.tree_model.specs.Signs.{Signs, placed_rules}
use Rattle.mrs_model.specs.Meanings.{Meaning}
use Rattle.mrs_places.specs.Paths.{Feature, Paths}
use Rattle.generate_model.specs.Bags.{Word, counted}
use Rattle.generate_model.specs.Contributions.{Input, OwnContribution}

-- what is generated from, where a grammar has these types, paths and c-cont-path
abbrev pub input_of : TypeTable → Paths → List Feature → Meaning → Input
input_of types paths c_cont meaning = record { types = types; paths = paths; c_cont_path = c_cont; meaning = meaning }

-- the rule at a place contributes these predicates itself, for each MRS
abbrev pub IsGivenAt : Signs → TypeTable → Paths → List Feature → ℕ → List Word → Type 0
IsGivenAt g types paths c_cont place ws = (meaning : Meaning) → OwnContribution g (input_of types paths c_cont meaning) place ws

-- those of each phrase rule, by number
abbrev pub AreGiven : Signs → TypeTable → Paths → List Feature → List (List Word) → Type 0
AreGiven g types paths c_cont given = AllZip (λ (r : ℕ × Rule) ws. IsGivenAt g types paths c_cont r.0 ws) (placed_rules g) given

-- their counts at the places of covers, by number; none for a rule with a predicate that has no place
abbrev pub own_counts : List Word → List (List Word) → List (Option Counts)
own_counts places given = map (λ ws. counted places ws 0) given
