-- The files of a shelf. Names and texts are lists of bytes.
use Rattle.std.specs.Prelude.{◌≡◌, ℕ, ◌<◌, ◌≤◌, List, [], ◌∷◌, length, Option, None, Some, if◌then◌else◌, unwrap_or}
use Rattle.std.specs.Str.{bytes_eq}

-- what stands under a name is this file
abbrev pub IsFile : Option (List ℕ) → List ℕ → Type 0
IsFile there text = there ≡ Some text

-- there is a file, and it is longer than a text may be, which is 64 MiB
abbrev pub IsLong : Option (List ℕ) → Type 0
IsLong None = ⊥
IsLong (Some text) = 67108864 < length text

-- there is a file, and it isn't longer
abbrev pub IsShort : Option (List ℕ) → Type 0
IsShort None = ⊥
IsShort (Some text) = length text ≤ 67108864

-- a file of a shelf in memory
pub record NamedFile : Type 0 where
  pub name : List ℕ
  pub text : List ℕ

-- the first of the files that has this name
abbrev pub file_of : List NamedFile → List ℕ → Option (List ℕ)
file_of [] name = None
file_of (file ∷ files) name = if bytes_eq file.name name then Some file.text else file_of files name

-- a file under every name: an empty one where there is none of this name
abbrev pub file_or_empty : List NamedFile → List ℕ → Option (List ℕ)
file_or_empty files name = Some (unwrap_or (file_of files name) [])

-- a shelf in memory: its files, the numbers of the calls that are to fail, how many calls were made,
-- how often it failed, and the name that was asked for when it last failed
pub record Shelved : Type 0 where
  pub files : List NamedFile
  pub fails : List ℕ
  pub calls : ℕ
  pub faults : ℕ
  pub asked : Option (List ℕ)
