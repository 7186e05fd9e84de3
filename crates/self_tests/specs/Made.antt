-- What is made of a number and a size: the files, and the lines.
use Rattle.std.specs.Prelude.{ℕ, ◌≡◌, List, [], ◌∷◌, map, codes}
use Rattle.std.specs.String.{string_bytes}
use Rattle.self_tests.specs.declared.workload.WorkFile.{WorkFile}
use Rattle.self_tests.specs.declared.workload.Workload.{Workload}
use Rattle.self_tests.specs.Grammar.{grammar}
use Rattle.self_tests.specs.Lines.{lines}

-- a file: its name, and its bytes
pub record File : Type 0 where
  pub name : List ℕ
  pub text : List ℕ

abbrev pub file_of : WorkFile → File
file_of f = record { name = string_bytes f.name; text = f.text.items }

-- the one file, the same for every number
abbrev pub files : List File
files = record { name = codes "g.tdl"; text = grammar } ∷ []

abbrev pub IsWorkload : ℕ → ℕ → Workload → Type 0
IsWorkload number size w = (map file_of w.files.items ≡ files) × (map (λ l. l.items) w.lines.items ≡ lines number size)
