-- The summary of items that were parsed: sums over what is counted of each.
use Rattle.std.specs.Prelude.{ℕ, ◌++◌, ◌∷◌, [], Bool, true, false, List, length, codes}
use Rattle.std.specs.Fmt.{decimal}
use Rattle.std.specs.List.{sum_by, count_by, list_any}
use Rattle.self_tests.specs.declared.counts.Count.{Count}
use Rattle.self_tests.specs.declared.counts.Count.TheVariants.{Refused, NoMemory, Found}

-- no answer was found: a limit was broken, or memory was wanting
abbrev pub is_refused : Count → Bool
is_refused Refused = true
is_refused NoMemory = true
is_refused (Found classes readings) = false

-- memory was wanting for the item
abbrev pub lacks_memory : Count → Bool
lacks_memory NoMemory = true
lacks_memory other = false

-- how many packed classes an item has, and how many readings; one that is refused counts for nothing
abbrev pub classes_in : Count → ℕ
classes_in Refused = 0
classes_in NoMemory = 0
classes_in (Found classes readings) = classes

abbrev pub readings_in : Count → ℕ
readings_in Refused = 0
readings_in NoMemory = 0
readings_in (Found classes readings) = readings

-- how many items are refused, and the sums over the others
abbrev pub refused_of : List Count → ℕ
refused_of counts = count_by is_refused counts

abbrev pub classes_of : List Count → ℕ
classes_of counts = sum_by classes_in counts

abbrev pub readings_of : List Count → ℕ
readings_of counts = sum_by readings_in counts

abbrev pub is_some_refused : List Count → Bool
is_some_refused counts = list_any is_refused counts

abbrev pub is_some_lacking : List Count → Bool
is_some_lacking counts = list_any lacks_memory counts

-- `self-test NUMBER SIZE items I`
abbrev pub items_text : ℕ → ℕ → ℕ → List ℕ
items_text number size items = codes "self-test " ++ decimal number ++ codes " " ++ decimal size ++ codes " items " ++ decimal items

-- ` refused F classes C readings K`
abbrev pub sums_text : ℕ → ℕ → ℕ → List ℕ
sums_text refused classes readings = codes " refused " ++ decimal refused ++ codes " classes " ++ decimal classes ++ codes " readings " ++ decimal readings

-- both, as one line
abbrev pub summary_line : ℕ → ℕ → List Count → List ℕ
summary_line number size counts =
    (items_text number size (length counts) ++ sums_text (refused_of counts) (classes_of counts) (readings_of counts)) ++ 10 ∷ []
