use Rattle.std.proofs.Common.{◌≡◌, ℕ, ◌<◌, [], false, map, get_or, string_bytes}
use Rattle.std.specs.Str.{bytes_eq}
use Rattle.grammar_load.proofs.fields.place_of.Given as goal

abbrev pub invariant-loop-i : goal.invariant-loop-i
invariant-loop-i l = (j : ℕ) → j < l.i → bytes_eq l.name (get_or (map string_bytes l.names) j []) ≡ false
