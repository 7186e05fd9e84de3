use Rattle.std.proofs.Common.{◌≡◌, ◌++◌, map, take, string_bytes}
use Rattle.std.specs.List.{flat_map}
use Rattle.line_charts.specs.Texts.{maker_text}
use Rattle.line_charts.specs.Views.{maker_of}
use Rattle.line_charts.proofs.texts.put_makers.Given as goal

abbrev pub invariant-loop-maker : goal.invariant-loop-maker
invariant-loop-maker l = l.into.items ≡ l.initial.into.items ++ flat_map (maker_text (map string_bytes l.names) l.nodes) (map maker_of (take l.maker-index l.makers))
