use Rattle.std.proofs.Common.{◌≡◌, ◌++◌, take, map}
use Rattle.std.specs.List.{flat_map}
use Rattle.scope_model.specs.Answers.{plug_of, plug_text}
use Rattle.scope_commands.proofs.reports.put_plugs.Given as goal

abbrev pub invariant-loop-plug : goal.invariant-loop-plug
invariant-loop-plug l = l.into.items ≡ l.initial.into.items ++ flat_map plug_text (map plug_of (take l.plug-index l.plugs))
