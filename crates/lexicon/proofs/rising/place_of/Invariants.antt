use Rattle.std.proofs.Common.{◌≡◌, ◌<◌, ℕ, map, get_or, []}
use Rattle.std.specs.String.{string_bytes}
use Rattle.std.specs.declared.cmp.Ordering.TheVariants.{Greater}
use Rattle.lexicon.specs.Words.{compared}
use Rattle.lexicon.proofs.rising.place_of.Given as goal

abbrev pub invariant-loop-i : goal.invariant-loop-i
invariant-loop-i l = (k : ℕ) → k < l.i → compared (string_bytes l.word) (get_or (map string_bytes l.list) k []) ≡ Greater
