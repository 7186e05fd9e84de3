use Rattle.std.proofs.Common.{◌≡◌, ◌++◌, take}
use Rattle.std.specs.List.{flat_map}
use Rattle.line_charts.specs.Texts.{number_text}
use Rattle.line_charts.proofs.texts.put_classes.Given as goal

abbrev pub invariant-loop-class : goal.invariant-loop-class
invariant-loop-class l = l.into.items ≡ l.initial.into.items ++ flat_map number_text (take l.class-index l.classes)
