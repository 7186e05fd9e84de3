-- That the statements of a grammar have an outcome.
use Rattle.std.specs.Prelude.{◌≡◌, true, List, String, string_bytes}
use Rattle.std.specs.Global.{Global}
use Rattle.type_hierarchy.specs.Order.{Has}
use Rattle.grammar_files.specs.Placings.{PlacedTree}
use Rattle.grammar_files.specs.Statements.{is_define, name_of, body_of}
use Rattle.grammar_settings.specs.Forms.{Name}
use Rattle.grammar_types.specs.Typings.{top_names}

-- a string has these bytes
abbrev pub IsStringBytes : Name → Type 0
IsStringBytes n = (text : String Global) × (string_bytes text ≡ n)

-- the names that statements define, and those at the top of bodies, are texts
pub record HaveTexts (ps : List PlacedTree) : Type 0 where
  pub defined : (p : PlacedTree) → Has p ps → is_define p.statement ≡ true → IsStringBytes (name_of p)
  pub parents : (p : PlacedTree) (n : Name) → Has p ps → Has n (top_names (body_of p)) → IsStringBytes n
