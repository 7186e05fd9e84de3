-- What an include names.
use Rattle.std.specs.Prelude.{◌≡◌, ℕ}
use Rattle.tdl_reader.specs.Trees.{StatementTree, includes}
use Rattle.grammar_files.specs.FileNames.{included_in}
use Rattle.grammar_settings.specs.Forms.{Name}

-- the statement is an include, and this is the file that it names
pub record Includes (from : Name) (x : StatementTree) (file : Name) : Type 0 where
  pub written : Name
  pub at : ℕ
  pub statement_is : x ≡ includes written at
  pub file_is : file ≡ included_in from written
