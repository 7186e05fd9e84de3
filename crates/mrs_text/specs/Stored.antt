-- What holds of each MRS of the program: its strings are UTF-8, the numbers of its spans and variables have their bounds.
use Rattle.std.specs.Prelude.{◌<◌, ◌^◌, length, Option, Some, None}
use Rattle.std.specs.List.{All}
use Rattle.std.specs.Str.{IsUtf8}
use Rattle.mrs_model.specs.declared.Extent.{Extent}
use Rattle.mrs_model.specs.Meanings.{Property, Variable, Filler, of_var, of_text, Argument, Predication, Constraint, Meaning}

pub record IsStoredProperty (p : Property) : Type 0 where
  pub name : IsUtf8 p.name
  pub value : IsUtf8 p.value

abbrev pub IsStoredVariable : Variable → Type 0
IsStoredVariable v = All IsStoredProperty v.props

abbrev pub IsStoredFiller : Filler → Type 0
IsStoredFiller (of_var v) = Unit {0}
IsStoredFiller (of_text t) = IsUtf8 t

pub record IsStoredArgument (a : Argument) : Type 0 where
  pub role : IsUtf8 a.role
  pub filler : IsStoredFiller a.filler

-- a span has numbers of 32 bits
abbrev pub IsStoredSpan : Option Extent → Type 0
IsStoredSpan None = Unit {0}
IsStoredSpan (Some e) = (e.from < 2 ^ 32) × (e.to < 2 ^ 32)

pub record IsStoredPredication (e : Predication) : Type 0 where
  pub pred : IsUtf8 e.pred
  pub args : All IsStoredArgument e.args
  pub span : IsStoredSpan e.span

abbrev pub IsStoredConstraint : Constraint → Type 0
IsStoredConstraint c = IsUtf8 c.rel

pub record IsStored (m : Meaning) : Type 0 where
  pub few : length m.vars < 2 ^ 64
  pub vars : All IsStoredVariable m.vars
  pub eps : All IsStoredPredication m.eps
  pub hcons : All IsStoredConstraint m.hcons
  pub icons : All IsStoredConstraint m.icons
