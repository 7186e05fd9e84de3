-- Words as their bytes, lists of words in byte order, and lists that are noted for words.
use Rattle.std.specs.Prelude.{ℕ, ◌≡◌, ◌⊎◌, List, [], ◌∷◌, String, Vec, map, string_bytes}
use Rattle.std.specs.Global.{Global}
use Rattle.std.specs.declared.cmp.Ordering.{Ordering}
use Rattle.std.specs.declared.cmp.Ordering.TheVariants.{Less, Equal, Greater}
use Rattle.std.specs.Ordering.{nat_cmp}
use Rattle.std.specs.Cmp.Lexicographic.{slice_cmp}
use Rattle.std.specs.Map.{lookup}
use Rattle.std.specs.Option.{option_map_or}
use Rattle.std.specs.Str.{bytes_eq}

-- a word is the list of its bytes
abbrev pub Word : Type 0
Word = List ℕ

-- the words of a list of texts
abbrev pub words_in : Vec (String Global) Global → List Word
words_in v = map string_bytes v.items

-- x is in a list
abbrev pub Has : {X : Type 0} → X → List X → Type 0
Has x [] = ⊥
Has x (y ∷ ys) = (x ≡ y) ⊎ Has x ys

-- each element meets P
abbrev pub Each : {X : Type 0} → (X → Type 0) → List X → Type 0
Each P [] = Unit {0}
Each P (x ∷ xs) = P x × Each P xs

-- byte order
abbrev pub compared : Word → Word → Ordering
compared = slice_cmp nat_cmp

-- each word comes before those that follow it, in byte order
abbrev pub Rises : List Word → Type 0
Rises [] = Unit {0}
Rises (x ∷ xs) = Each (λ y. compared x y ≡ Less) xs × Rises xs

-- a rising list with one word more, where the list doesn't have it
abbrev pub put_by : Ordering → Word → Word → List Word → List Word → List Word
put_by Less w x xs more = w ∷ x ∷ xs
put_by Equal w x xs more = x ∷ xs
put_by Greater w x xs more = x ∷ more

abbrev pub put : Word → List Word → List Word
put w [] = w ∷ []
put w (x ∷ xs) = put_by (compared w x) w x xs (put w xs)

-- the list that is noted for a word
abbrev pub noted : {T : Type 0} → List (String Global × Vec T Global) → Word → List T
noted entries w = option_map_or (λ v. v.items) (lookup (λ k. bytes_eq w (string_bytes k)) entries) []
