-- What parts, facts and verdicts stand for.
use Rattle.std.specs.Prelude.{◌<◌, List, [], map, All, length}
use Rattle.type_hierarchy.specs.Table.{count_of}
use Rattle.fs_model.specs.Claims.{Claim, Has}
use Rattle.fs_model.specs.Sources.{Part, Source}
use Rattle.fs_graph.specs.Facts.{path_of, claims_of}
use Rattle.fs_graph.specs.declared.facts.Fact.{Fact}
use Rattle.fs_graph.specs.GraphMap.{reader_of}
use Rattle.fs_closing.specs.NodeSteps.{IsGraphIn}
use Rattle.fs_closing.specs.Rules.{Grammar, IsClaimIn}
use Rattle.forced_types.specs.declared.placed.PlacedGraph.{PlacedGraph}
use Rattle.forced_types.specs.declared.placed.Verdict.{Verdict as Answer}
use Rattle.forced_types.specs.declared.placed.Verdict.TheVariants.{Fits as NoClash, Clash as TypesClash, TooLong as PathTooLong}
use Rattle.forced_types.specs.Verdicts.{Verdict, Fits, Clash, TooLong}

abbrev pub part_of : PlacedGraph → Part
part_of p = record { place = path_of p.at.now; reader = reader_of p.graph.now }

-- graphs at places, and no other claims
abbrev pub source_of : List PlacedGraph → Source
source_of parts = record { claims = []; parts = map part_of parts }

-- facts on paths from the root, and no parts
abbrev pub source_of_facts : List Fact → Source
source_of_facts facts = record { claims = claims_of facts; parts = [] }

-- the answer as a verdict
abbrev pub verdict_of : Answer → Verdict
verdict_of NoClash = Fits
verdict_of (TypesClash p t u) = Clash (path_of p.items) t.0 u.0
verdict_of (PathTooLong p) = TooLong (path_of p.items)

-- no type and no feature of a part is out of range
pub record IsPartIn (g : Grammar) (p : PlacedGraph) : Type 0 where
  pub place : All (λ f. f < length g.introducers) (path_of p.at.now)
  pub graph : IsGraphIn (count_of g.types) (length g.introducers) p.graph.now

abbrev pub ArePartsIn : Grammar → List PlacedGraph → Type 0
ArePartsIn g parts = (p : PlacedGraph) → Has p parts → IsPartIn g p

-- no type and no feature of a fact is out of range
abbrev pub AreFactsIn : Grammar → List Fact → Type 0
AreFactsIn g facts = (c : Claim) → Has c (claims_of facts) → IsClaimIn (count_of g.types) (length g.introducers) c
