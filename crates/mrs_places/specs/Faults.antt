-- What an answer tells of what was looked for.
use Rattle.std.specs.Prelude.{◌≡◌, map, Result, Ok, Err}
use Rattle.std.specs.String.{string_bytes}
use Rattle.mrs_places.specs.declared.paths.NoMrs.{NoMrs}
use Rattle.mrs_places.specs.declared.paths.NoMrs.TheVariants.{Absent, NoMemory}
use Rattle.mrs_places.specs.Looking.{NamedPath, Sought}

-- the answer names this path, unless memory was wanting
abbrev pub Names : NamedPath → NoMrs → Type 0
Names path (Absent named) = map string_bytes named.items ≡ path
Names path NoMemory = Unit {0}

-- the path that the answer names is the one that is missing
abbrev pub IsMissing : {A : Type 0} → (Sought A → Type 0) → NoMrs → Type 0
IsMissing said (Absent named) = said (Err (map string_bytes named.items))
IsMissing said NoMemory = Unit {0}

-- what was found, or what is missing
abbrev pub Tells : {A B : Type 0} → (A → B) → (Sought B → Type 0) → Result A NoMrs → Type 0
Tells view said (Ok a) = said (Ok (view a))
Tells view said (Err e) = IsMissing said e
