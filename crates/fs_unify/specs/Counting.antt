-- Closings within a limit on paths.
use Rattle.std.specs.Prelude.{ℕ, ◌≡◌, true, false, Option, []}
use Rattle.fs_model.specs.Claims.{Path, System, IsOrder}
use Rattle.fs_model.specs.Sources.{Reader, Source, Told}
use Rattle.fs_closing.specs.declared.nodes.Nodes.{Nodes}
use Rattle.fs_closing.specs.declared.tasks.Tasks.{Tasks}
use Rattle.fs_closing.specs.Rules.{Grammar, system_of}
use Rattle.fs_closing.specs.Keeps.{Deep, Stands, Closed as ClosedFor}
use Rattle.fs_unify.specs.declared.limited.Limited.{Limited}
use Rattle.fs_unify.specs.declared.limited.Limited.TheVariants.{Closed, Clashed, Exceeded}
use Rattle.fs_unify.specs.Given.{StandsFor}
use Rattle.fs_unify.specs.Limits.{HasMorePaths, IsUnifiedWithin}

-- what nodes with tasks stand for has more paths than a limit
abbrev pub Exceeds : Grammar → ℕ → Nodes → Tasks → Type 0
Exceeds g limit nodes tasks = (source : Source) → StandsFor g source nodes tasks → HasMorePaths (system_of g) (Told source) limit

-- nodes were closed with their tasks, or what they stand for is inconsistent, or has more paths than a limit
abbrev pub ClosedWithin : Grammar → ℕ → Nodes → Tasks → Nodes → Limited → Type 0
ClosedWithin g limit nodes tasks nodes' Closed = ClosedFor g nodes tasks nodes' true
ClosedWithin g limit nodes tasks nodes' Clashed = ClosedFor g nodes tasks nodes' false
ClosedWithin g limit nodes tasks nodes' Exceeded = Exceeds g limit nodes tasks

-- the answer within a limit on paths, for all given claims for which nodes without work stand
abbrev pub AnswersWithin : Deep → (longest limit : ℕ) → Option Reader → Type 0
AnswersWithin x longest limit o =
    (s : System) (source : Source) (w : ℕ → Path) → IsOrder s → s.path_limit ≡ longest → Stands s (Told source) x [] w → IsUnifiedWithin s limit source o

-- and for all claims for which nodes with tasks stand
abbrev pub SettlesWithin : Grammar → ℕ → Nodes → Tasks → Option Reader → Type 0
SettlesWithin g limit nodes tasks o = (source : Source) → StandsFor g source nodes tasks → IsUnifiedWithin (system_of g) limit source o
