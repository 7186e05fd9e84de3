-- Facts that are given alone, and what nodes with tasks answer.
use Rattle.std.specs.Prelude.{ℕ, ◌<◌, Bool, true, false, Option, List, [], length}
use Rattle.type_hierarchy.specs.Table.{count_of}
use Rattle.fs_model.specs.Claims.{Path, Claim}
use Rattle.fs_model.specs.Closure.{IsConsistent}
use Rattle.fs_model.specs.Sources.{Reader, Source, Told, IsUnified}
use Rattle.fs_closing.specs.declared.nodes.Nodes.{Nodes}
use Rattle.fs_closing.specs.declared.tasks.Tasks.{Tasks}
use Rattle.fs_closing.specs.Rules.{Grammar, system_of}
use Rattle.fs_closing.specs.Work.{work_of}
use Rattle.fs_closing.specs.NodeTable.{table_of, IsWhole, IsWithin}
use Rattle.fs_graph.specs.Facts.{path_of}
use Rattle.fs_drawing.specs.Cutting.{IsUnifiedWithout}
use Rattle.fs_drawing.specs.Drawing.{BoundsPaths}
use Rattle.fs_drawing.specs.declared.draw.Off.{Off}
use Rattle.fs_closing.specs.Keeps.{AreSound, deep_of, Stands, Leads}

abbrev pub facts_source : List Claim → Source
facts_source claims = record { claims = claims; parts = [] }

-- nodes with tasks stand for the claims of a source
pub record StandsFor (g : Grammar) (source : Source) (nodes : Nodes) (tasks : Tasks) : Type 0 where
  pub paths : ℕ → Path
  pub stands : Stands (system_of g) (Told source) (deep_of nodes) (work_of g.rules tasks) paths

-- nodes with tasks stand for some given claims
abbrev pub StandsForSome : Grammar → Nodes → Tasks → Type 0
StandsForSome g nodes tasks = (source : Source) × StandsFor g source nodes tasks

-- what is given stands in nodes with tasks, or is seen to be inconsistent
abbrev pub Gathers : Grammar → Source → Nodes → Tasks → Bool → Type 0
Gathers g source nodes tasks true = StandsFor g source nodes tasks × AreSound g nodes tasks
Gathers g source nodes tasks false = IsConsistent (system_of g) (Told source) → ⊥

-- nodes with tasks were closed within the limit on paths, or all claims for which they stand are inconsistent
abbrev pub Decides : Grammar → Nodes → Tasks → Nodes → Bool → Type 0
Decides g nodes tasks nodes' true =
    Leads g nodes (work_of g.rules tasks) nodes' [] × IsWhole nodes' × IsWithin (count_of g.types) (length g.introducers) nodes'
    × BoundsPaths (table_of nodes') g.path_limit × (0 < nodes'.size)
Decides g nodes tasks nodes' false =
    (source : Source) → StandsFor g source nodes tasks → IsConsistent (system_of g) (Told source) → ⊥

-- the answer of unification, for all claims for which nodes with tasks stand
abbrev pub Settles : Grammar → Nodes → Tasks → Option Reader → Type 0
Settles g nodes tasks o = (source : Source) → StandsFor g source nodes tasks → IsUnified (system_of g) source o

-- the same without features that are cut off
abbrev pub SettlesWithout : Grammar → Nodes → Tasks → Off → Option Reader → Type 0
SettlesWithout g nodes tasks off o =
    (source : Source) → StandsFor g source nodes tasks → IsUnifiedWithout (system_of g) source (path_of off.at_root.now) (path_of off.anywhere.now) o
