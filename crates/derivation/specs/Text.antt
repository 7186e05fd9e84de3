-- The text of a derivation, in bytes.
use Rattle.std.specs.Prelude.{◌≡◌, length, take, reverse, ℕ, ◌<◌, Bool, true, List, [], ◌∷◌, ◌++◌, Option, Some, unwrap_or, if◌then◌else◌, ◌==◌, ◌||◌, All}
use Rattle.std.specs.List.{slice_get, flat_map, join_with_byte}
use Rattle.std.specs.Fmt.{decimal}
use Rattle.derivation.specs.Trees.{Derivation, Daughters, lexical, phrase, no_more, first}

-- Each place is that of a name.
abbrev mutual
  pub IsNamed : ℕ → Derivation → Type 0
  IsNamed count (lexical entry rules words nodes) = (entry < count) × All (λ rule. rule < count) rules
  IsNamed count (phrase rule daughters) = (rule < count) × AreNamed count daughters

  pub AreNamed : ℕ → Daughters → Type 0
  AreNamed count no_more = Unit {0}
  AreNamed count (first d ds) = IsNamed count d × AreNamed count ds

abbrev pub name_of : List (List ℕ) → ℕ → List ℕ
name_of names place = unwrap_or (slice_get names place) []

-- `(NAME` and `)` round what stands within
abbrev pub node_text : List (List ℕ) → ℕ → List ℕ → List ℕ
node_text names place within = (40 ∷ name_of names place) ++ within ++ 41 ∷ []

-- A text under rules from the inside out: the last stands outermost.
abbrev pub under : List (List ℕ) → List ℕ → List ℕ → List ℕ
under names [] inner = inner
under names (rule ∷ rules) inner = under names rules (node_text names rule (32 ∷ inner))

-- A quote and a backslash have a backslash before them.
abbrev pub escaped : ℕ → List ℕ
escaped byte = if (byte == 34 || byte == 92) then 92 ∷ byte ∷ [] else byte ∷ []

-- ` "WORDS"`, the words joined by one blank
abbrev pub words_text : List (List ℕ) → List ℕ
words_text words = (32 ∷ 34 ∷ flat_map escaped (join_with_byte 32 words)) ++ 34 ∷ []

-- ` FROM TO`, where nodes are asked for and there are some
abbrev pub nodes_text : Bool → Option (ℕ × ℕ) → List ℕ
nodes_text true (Some n) = (32 ∷ decimal n.0) ++ (32 ∷ decimal n.1)
nodes_text _ _ = []

abbrev mutual
  pub text_of : List (List ℕ) → Bool → Derivation → List ℕ
  text_of names nodes (lexical entry rules words span) = under names rules (node_text names entry (words_text words ++ nodes_text nodes span))
  text_of names nodes (phrase rule daughters) = node_text names rule (daughters_text names nodes daughters)

  -- each with a blank before it
  pub daughters_text : List (List ℕ) → Bool → Daughters → List ℕ
  daughters_text names nodes no_more = []
  daughters_text names nodes (first d ds) = (32 ∷ text_of names nodes d) ++ daughters_text names nodes ds

-- `(RULE `
abbrev pub opening : List (List ℕ) → ℕ → List ℕ
opening names rule = (40 ∷ name_of names rule) ++ 32 ∷ []

-- what stands before the innermost text, the outermost rule first
abbrev pub openings : List (List ℕ) → List ℕ → List ℕ
openings names rules = flat_map (opening names) (reverse rules)

-- the second list begins with the first
abbrev pub IsFront : List ℕ → List ℕ → Type 0
IsFront old new = take (length old) new ≡ old
