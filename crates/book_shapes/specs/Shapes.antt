-- What is asked of the instances of a book: rules have their daughters, and entries their words (DELPH-IN TDL).
use Rattle.std.specs.Prelude.{ℕ, ◌≡◌, ◌<◌, ◌≤◌, Bool, true, false, List, map, filter, length, slice_get, Option, Some, Vec, String}
use Rattle.std.specs.Global.{Global}
use Rattle.std.specs.List.{AllZip, range_with_len}
use Rattle.tdl_reader.specs.declared.Status.{Status}
use Rattle.tdl_reader.specs.declared.Status.TheVariants.{Entry}
use Rattle.constraint_expand.specs.declared.books.Book.{Book}
use Rattle.constraint_expand.specs.Books.{Numbered, numbered_of, InstanceMap, instance_of}
use Rattle.lexicon.specs.Words.{Word, Each}
use Rattle.lexicon.specs.Entries.{EntryTree}
use Rattle.lexicon.specs.Groups.{given_of, words_in}
use Rattle.closed_lists.specs.Names.{ListTree, IsReadable}
use Rattle.closed_lists.specs.Strings.{HasWords}
use Rattle.book_shapes.specs.Daughters.{HasDaughters}
use Rattle.book_shapes.specs.declared.entries.Entries.{Entries}
use Rattle.book_shapes.specs.declared.entries.Entries.TheVariants.{Given, Without}

-- what lists are made of
abbrev pub lists_of : Numbered → ListTree
lists_of n = record { cons = n.cons; null = n.null; first = n.first; rest = n.rest }

abbrev pub is_entry : Status → Bool
is_entry Entry = true
is_entry _ = false

abbrev pub instances_of : Book → List InstanceMap
instances_of b = map instance_of b.instances.items

-- the entries in order of place
abbrev pub entries_in : List InstanceMap → List InstanceMap
entries_in is = filter (λ i. is_entry i.status) is

-- the structures of all instances can be read
abbrev pub AreReadable : Book → Type 0
AreReadable b = Each (λ i. IsReadable b.system.types (lists_of (numbered_of b.names)) b.system.path_limit i.structure) (instances_of b)

-- an instance has its daughters, if it is a rule
abbrev pub HasItsDaughters : Book → InstanceMap → Type 0
HasItsDaughters b i = HasDaughters b.system.types (lists_of (numbered_of b.names)) (numbered_of b.names).args_path i.status i.structure

-- the words of an entry, which stand at a path
abbrev pub HasWordsAt : Book → List (Option ℕ) → InstanceMap → List Word → Type 0
HasWordsAt b orth i ws = HasWords b.system.types (lists_of (numbered_of b.names)) i.structure orth ws

-- an instance has its words, if it is an entry
pub data HasItsWords (b : Book) (orth : List (Option ℕ)) (i : InstanceMap) : Type 0 where
  of_entry : (ws : List Word) → HasWordsAt b orth i ws → HasItsWords b orth i
  no_entry : is_entry i.status ≡ false → HasItsWords b orth i

-- the first place at which P fails, or the length where it holds of all
pub record IsFirstPlace {A : Type 0} (P : A → Type 0) (xs : List A) (k : ℕ) : Type 0 where
  pub within : k ≤ length xs
  pub before : (j : ℕ) (x : A) → j < k → slice_get xs j ≡ Some x → P x
  pub fails : (x : A) → slice_get xs k ≡ Some x → P x → ⊥

abbrev pub numbered_next : ℕ → Vec (String Global) Global → EntryTree
numbered_next n words = record { number = n; words = words_in words }

-- the entries among some instances, numbered in order of place, with their words
pub record AreEntriesOf (b : Book) (orth : List (Option ℕ)) (is : List InstanceMap) (given : List EntryTree) : Type 0 where
  pub numbered : map (λ e. e.number) given ≡ range_with_len 0 (length given)
  pub words : AllZip (λ i e. HasWordsAt b orth i e.words) (entries_in is) given

-- the entries with their words, or the first place of one without
abbrev pub AreFound : Book → List (Option ℕ) → Entries → Type 0
AreFound b orth (Given given) = AreEntriesOf b orth (instances_of b) (map given_of given.items)
AreFound b orth (Without k) = (k < length (instances_of b)) × IsFirstPlace (HasItsWords b orth) (instances_of b) k
