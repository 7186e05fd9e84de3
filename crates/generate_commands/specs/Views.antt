-- What contracts see of what is asked.
use Rattle.chart_core.specs.declared.Limits as declared
use Rattle.packed_items.specs.Answers.{limits_in}
use Rattle.generate_commands.specs.Answers.{Bounds}

-- what is asked under these limits
abbrev pub bounds_with : declared.Limits → Bounds
bounds_with limits = record { limits = limits_in limits; lexical = limits.lexical; empty = limits.empty }
