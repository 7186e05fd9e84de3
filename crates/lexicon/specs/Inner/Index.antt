-- How entries are noted under their last words; only private clauses cite it.
use Rattle.std.specs.Prelude.{ℕ, ◌≡◌, ◌<◌, ◌++◌, Option, None, Some, length, get_or, set, List, [], ◌∷◌, String, Vec, map, if◌then◌else◌}
use Rattle.std.specs.Global.{Global}
use Rattle.lexicon.specs.Words.{Word, noted}
use Rattle.lexicon.specs.declared.groups.Group.{Group}
use Rattle.lexicon.specs.declared.entries.Entry.{Entry}
use Rattle.lexicon.specs.Entries.{EntryTree, same_words}
use Rattle.lexicon.specs.Groups.{GroupTree, words_in, group_of, found, AreGroupsOf}

abbrev pub entry_of : Entry → EntryTree
entry_of e = record { number = e.number; words = words_in e.words }

-- an entry more
abbrev pub with_entry : ℕ → List Word → List GroupTree → List GroupTree
with_entry n words [] = record { words = words; entries = n ∷ [] } ∷ []
with_entry n words (g ∷ gs) = if same_words g.words words then record { words = g.words; entries = g.entries ++ n ∷ [] } ∷ gs else g ∷ with_entry n words gs

-- each last word has its groups
abbrev pub IsIndexOf : List EntryTree → List (String Global × Vec Group Global) → Type 0
IsIndexOf entries index = (last : Word) → AreGroupsOf entries last (map group_of (noted index last))

abbrev pub group_at : List GroupTree → ℕ → GroupTree
group_at groups i = get_or groups i (record { words = []; entries = [] })

abbrev pub entries_at : List GroupTree → ℕ → List ℕ
entries_at groups i = (group_at groups i).entries

abbrev pub with_one : ℕ → GroupTree → GroupTree
with_one n g = record { words = g.words; entries = g.entries ++ n ∷ [] }

-- the place of the group of these words, or none
abbrev pub IsPlaceOf : List Word → List GroupTree → Option ℕ → Type 0
IsPlaceOf words groups None = (n : ℕ) → (found groups words ≡ []) × (with_entry n words groups ≡ groups ++ record { words = words; entries = n ∷ [] } ∷ [])
IsPlaceOf words groups (Some i) = (i < length groups) × (found groups words ≡ entries_at groups i) × ((n : ℕ) → with_entry n words groups ≡ set groups i (with_one n (group_at groups i)))
