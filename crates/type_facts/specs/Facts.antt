-- The facts of types, by the statements of a grammar (DELPH-IN TDL; Copestake 2002).
use Rattle.std.specs.Prelude.{◌++◌, List, map, flat_map}
use Rattle.fs_model.specs.Claims.{Claim}
use Rattle.fs_unify.specs.Rules.{Rule}
use Rattle.body_facts.specs.Claimed.{WordTable, claims_said}
use Rattle.body_facts.specs.Numbers.{type_number}
use Rattle.grammar_files.specs.Placings.{PlacedTree}
use Rattle.grammar_files.specs.Statements.{name_of, body_of, type_definitions, addenda_to}

-- what a statement's body says of the node of its definition
abbrev pub said_by : WordTable → PlacedTree → List Claim
said_by w p = claims_said w (body_of p)

-- the facts of a type: those of its definition, and then those of its addenda in order of writing
abbrev pub rule_of : WordTable → List PlacedTree → PlacedTree → Rule
rule_of w ps p =
    record { ty = type_number w.types (name_of p); claims = said_by w p ++ flat_map (said_by w) (addenda_to (name_of p) ps) }

-- those of each type that is defined, in order of definition
abbrev pub rules_in : WordTable → List PlacedTree → List Rule
rules_in w ps = map (rule_of w ps) (type_definitions ps)
