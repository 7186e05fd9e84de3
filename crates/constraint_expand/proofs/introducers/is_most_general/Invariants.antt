use Rattle.std.proofs.Common.{◌≡◌, ℕ, take, true}
use Rattle.fs_model.specs.Claims.{Has}
use Rattle.type_hierarchy.specs.Table.{is_below}
use Rattle.constraint_expand.specs.Introducers.{numbers_of}
use Rattle.constraint_expand.proofs.introducers.is_most_general.Given as goal

abbrev pub invariant-loop-writer : goal.invariant-loop-writer
invariant-loop-writer l = (u : ℕ) → Has u (numbers_of (take l.writer-index l.writers)) → is_below l.types l.t.0 u ≡ true → u ≡ l.t.0
