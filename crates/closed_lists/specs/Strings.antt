-- The words of strings (DELPH-IN TDL: orthography). Words are folded.
use Rattle.std.specs.Prelude.{ℕ, ◌≡◌, ◌<◌, ◌==◌, nat_lt, not, Bool, List, map, filter, length, slice_get, Option, None, Some, encode_utf8_all, if◌then◌else◌}
use Rattle.std.specs.Char.{is_whitespace}
use Rattle.std.specs.List.{AllZip, flat_map, slice_split}
use Rattle.std.specs.Str.{chars}
use Rattle.caseless.specs.Caseless.{default_case_fold}
use Rattle.type_hierarchy.specs.Decls.{Name}
use Rattle.type_hierarchy.specs.Table.{TypeTable, completed_count}
use Rattle.fs_graph.specs.GraphMap.{GraphMap, type_at}
use Rattle.lexicon.specs.Words.{Word}
use Rattle.closed_lists.specs.Names.{ListTree}
use Rattle.closed_lists.specs.Lists.{HasList}

-- the string of a type, where it is one
abbrev pub string_of : TypeTable → ℕ → Option Name
string_of types t = if nat_lt t (completed_count types) then None else slice_get types.names t

abbrev pub is_some_word : List ℕ → Bool
is_some_word cs = not (length cs == 0)

-- the words of a text stand between white space
abbrev pub words : List ℕ → List (List ℕ)
words cs = filter is_some_word (slice_split is_whitespace cs)

-- the words of a string: it is folded, and split at white space
abbrev pub words_of_string : Name → List Word
words_of_string text = map encode_utf8_all (words (default_case_fold (chars text)))

-- nodes have these strings, whose words these are
pub record AreSpoken (types : TypeTable) (g : GraphMap) (nodes : List ℕ) (ws : List Word) : Type 0 where
  pub strings : List Name
  pub texts : AllZip (λ e t. string_of types (type_at g e) ≡ Some t) nodes strings
  pub is : ws ≡ flat_map words_of_string strings

-- The words at a path: those of the strings of a closed list. There is one.
pub record HasWords (types : TypeTable) (names : ListTree) (g : GraphMap) (path : List (Option ℕ)) (ws : List Word) : Type 0 where
  pub elements : List ℕ
  pub list : HasList types names g path elements
  pub spoken : AreSpoken types g elements ws
  pub some : 0 < length ws

-- the words at a path: none where there are no such words
abbrev pub AreWordsAt : TypeTable → ListTree → GraphMap → List (Option ℕ) → Option (List Word) → Type 0
AreWordsAt types names g path None = (ws : List Word) → HasWords types names g path ws → ⊥
AreWordsAt types names g path (Some ws) = HasWords types names g path ws
