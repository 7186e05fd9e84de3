-- Kinds of statements.
use Rattle.std.specs.Prelude.{Bool}
use Rattle.constraint_expand.specs.declared.kinds.Kind.{Kind}
use Rattle.constraint_expand.specs.declared.kinds.Kind.TheVariants.{Types, Instances}
use Rattle.grammar_files.specs.Placings.{PlacedTree}
use Rattle.constraint_expand.specs.Statements.{speaks_of_type, defines_instance}

abbrev pub picks : Kind → PlacedTree → Bool
picks Types p = speaks_of_type p
picks Instances p = defines_instance p
