-- What defines nothing is of no kind.
use Rattle.std.proofs.Common.{◌≡◌, false}
use Rattle.constraint_expand.specs.declared.kinds.Kind.{Kind}
use Rattle.constraint_expand.specs.declared.kinds.Kind.TheVariants.{Types, Instances}
use Rattle.grammar_files.specs.Placings.{PlacedTree}
use Rattle.grammar_files.specs.Statements.{DefinesNothing}
use Rattle.constraint_expand.specs.Kinds.{picks}

pub no_kind : (kind : Kind) (p : PlacedTree) → DefinesNothing p → picks kind p ≡ false
no_kind Types p d = d.of_no_type
no_kind Instances p d = d.of_no_instance
