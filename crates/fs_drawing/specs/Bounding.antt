-- Closed nodes whose paths are within a limit.
use Rattle.std.specs.Prelude.{ℕ, Bool, true, false, None}
use Rattle.fs_closing.specs.declared.nodes.Nodes.{Nodes}
use Rattle.fs_closing.specs.NodeTable.{table_of}
use Rattle.fs_closing.specs.Keeps.{deep_of}
use Rattle.fs_drawing.specs.Drawing.{BoundsPaths, Answers}

-- no path of closed nodes is longer than the limit; where the answer is no, what they stand for is inconsistent
abbrev pub Decided : Nodes → ℕ → Bool → Type 0
Decided nodes limit true = BoundsPaths (table_of nodes) limit
Decided nodes limit false = Answers (deep_of nodes) limit None
