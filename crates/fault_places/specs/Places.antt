-- Places in a text, by line and column, and the lines that show one. Lines end with byte 10; characters are those of UTF-8.
use Rattle.std.specs.Prelude.{ℕ, ◌==◌, ◌&&◌, ◌+◌, ◌-◌, nat_lt, not, Bool, if◌then◌else◌, List, [], ◌∷◌, ◌++◌, take, drop, codes, count_by, flat_map}
use Rattle.std.specs.List.{list_any, before_first}
use Rattle.std.specs.Fmt.{decimal}

abbrev pub is_end : ℕ → Bool
is_end b = b == 10

-- a byte that goes on with a character, and begins none
abbrev pub goes_on : ℕ → Bool
goes_on b = nat_lt 127 b && nat_lt b 192

-- what stands after the last line end
abbrev pub last_part : List ℕ → List ℕ
last_part [] = []
last_part (b ∷ bs) = if list_any is_end (b ∷ bs) then last_part bs else b ∷ bs

-- the bytes of the place's line that stand before the place
abbrev pub before_in_line : List ℕ → ℕ → List ℕ
before_in_line text at = last_part (take at text)

-- the number of the place's line, from 1
abbrev pub line_number : List ℕ → ℕ → ℕ
line_number text at = count_by is_end (take at text) + 1

-- the place's column, from 1, in characters
abbrev pub column_number : List ℕ → ℕ → ℕ
column_number text at = count_by (λ b. not (goes_on b)) (before_in_line text at) + 1

-- the bytes of the place's line, without its end
abbrev pub line_at : List ℕ → ℕ → List ℕ
line_at text at = before_in_line text at ++ before_first is_end (drop at text)

-- A blank stands under each character, and under a tab a tab.
abbrev pub under : ℕ → List ℕ
under b = if goes_on b then [] else (if b == 9 then 9 ∷ [] else 32 ∷ [])

-- a mark that stands under the place
abbrev pub mark_at : List ℕ → ℕ → List ℕ
mark_at text at = flat_map under (before_in_line text at) ++ 94 ∷ []

-- a line after two blanks, with its end
abbrev pub set_in : List ℕ → List ℕ
set_in line = 32 ∷ 32 ∷ (line ++ 10 ∷ [])

-- `FILE, line L, column C: CAUSE`
abbrev pub place_line : (file : List ℕ) → (line column : ℕ) → (cause : List ℕ) → List ℕ
place_line file line column cause =
    file ++ (codes ", line " ++ (decimal line ++ (codes ", column " ++ (decimal column ++ (codes ": " ++ cause)))))

-- that line, the line of the file, and the mark
abbrev pub place_text : (file text : List ℕ) → ℕ → (cause : List ℕ) → List ℕ
place_text file text at cause =
    set_in (place_line file (line_number text at) (column_number text at) cause) ++ (set_in (line_at text at) ++ set_in (mark_at text at))

-- `FILE: CAUSE`, of a cause that says nothing of a place
abbrev pub file_text : (file cause : List ℕ) → List ℕ
file_text file cause = set_in (file ++ (codes ": " ++ cause))

-- where the line of a number begins, and the end of a text that has fewer lines
abbrev pub line_begin : List ℕ → ℕ → ℕ
line_begin [] line = 0
line_begin (b ∷ bs) line = if nat_lt 1 line then 1 + line_begin bs (if is_end b then line - 1 else line) else 0
