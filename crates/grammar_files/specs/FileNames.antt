-- The names of the files of a grammar.
use Rattle.std.specs.Prelude.{ℕ, ◌==◌, ◌&&◌, ◌||◌, not, Bool, true, false, if◌then◌else◌, List, [], ◌∷◌, ◌++◌, codes}

-- no `/` stands in these bytes
abbrev pub has_no_slash : List ℕ → Bool
has_no_slash [] = true
has_no_slash (b ∷ bs) = not (b == 47) && has_no_slash bs

-- a `.` stands after the last `/`
abbrev pub has_ending : List ℕ → Bool
has_ending [] = false
has_ending (b ∷ bs) = has_ending bs || ((b == 46) && has_no_slash bs)

-- the name, with `.tdl` added where no `.` stands after the last `/`
abbrev pub with_ending : List ℕ → List ℕ
with_ending name = if has_ending name then name else name ++ codes ".tdl"

-- the folder of a file: its name up to and with the last `/`
abbrev pub folder_of : List ℕ → List ℕ
folder_of [] = []
folder_of (b ∷ bs) = if has_no_slash (b ∷ bs) then [] else b ∷ folder_of bs

abbrev pub is_rooted : List ℕ → Bool
is_rooted [] = false
is_rooted (b ∷ bs) = b == 47

-- The file that an include in this file names: relative to the file's folder, unless it begins with `/`.
abbrev pub included_in : List ℕ → List ℕ → List ℕ
included_in from file = with_ending (if is_rooted file then file else folder_of from ++ file)
