-- What stands between one function of the sentences and the next.
use Rattle.std.specs.Prelude.{Bool, Option, None, Some, List, [], ◌∷◌, String}
use Rattle.std.specs.List.{flat_map}
use Rattle.std.specs.List.Sorted.{IsPermutation, IsSortedBy, IsStableBy}
use Rattle.std.specs.Ordering.{nat_cmp, is_lt}
use Rattle.std.specs.Cmp.Lexicographic.{slice_cmp}
use Rattle.std.specs.Str.{bytes_eq}
use Rattle.std.specs.String.{string_bytes}
use Rattle.std.specs.Global.{Global}
use Rattle.derivation.specs.Trees.{Derivation}
use Rattle.tree_model.specs.Lexical.{Word}
use Rattle.generate_model.specs.Sentences as model
use Rattle.generate_model.specs.Sentences.{text_of}
use Rattle.realized_trees.specs.declared.sentence.Sentence.{Sentence}

-- each word with a space before it
abbrev pub spaced : List Word → Word
spaced ws = flat_map (λ w. 32 ∷ w) ws

-- a line with a space before it, where there is one
abbrev pub said : Option (String Global) → Word
said None = []
said (Some text) = 32 ∷ string_bytes text

abbrev pub with_text : Derivation → model.Sentence
with_text t = record { text = text_of t; tree = t }

abbrev pub comes_before : Sentence → Sentence → Bool
comes_before s u = is_lt (slice_cmp nat_cmp (string_bytes s.text) (string_bytes u.text))

abbrev pub same_text : Sentence → Sentence → Bool
same_text s u = bytes_eq (string_bytes s.text) (string_bytes u.text)

-- the same sentences in byte order of their texts; those with one text stand as they stood
pub record AreByText (old new : List Sentence) : Type 0 where
  pub moved : IsPermutation old new
  pub sorted : IsSortedBy comes_before new
  pub stable : IsStableBy comes_before old new
