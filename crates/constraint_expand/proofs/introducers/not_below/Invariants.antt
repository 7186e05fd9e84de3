use Rattle.std.proofs.Common.{◌≡◌, ℕ, take, true}
use Rattle.fs_model.specs.Claims.{Has}
use Rattle.type_hierarchy.specs.Table.{is_below}
use Rattle.constraint_expand.specs.Introducers.{numbers_of}
use Rattle.constraint_expand.proofs.introducers.not_below.Given as goal

abbrev pub invariant-loop-writer : goal.invariant-loop-writer
invariant-loop-writer l = (u : ℕ) → Has u (numbers_of (take l.writer-index l.writers)) → is_below l.types u l.top.0 ≡ true
