use Rattle.std.proofs.Common.{◌≡◌, All, map}
use Rattle.std.specs.Prelude.{string_bytes}
use Rattle.grammar_shapes.specs.Systems.{grammar_of}
use Rattle.line_charts.specs.Inner.KeyedHosts.{IsHostKeyed}
use Rattle.line_charts.proofs.keyed.keyed_hosts.Given as goal

abbrev pub invariant-loop-rows : goal.invariant-loop-rows
invariant-loop-rows g l =
    (map (λ h. h.rows) l.hosts.items ≡ l.yielded) × All (IsHostKeyed l.shapes l.finished (grammar_of l.shapes).types (map string_bytes l.feats)) l.hosts.items
