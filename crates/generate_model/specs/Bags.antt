-- Bags of predicates, and covers that count them (Carroll, Copestake, Flickinger and Poznanski 1999: generation by the semantics that is used).
use Rattle.std.specs.Prelude.{ℕ, ◌≡◌, ◌≤◌, ◌+◌, ◌&&◌, Bool, true, if◌then◌else◌, Option, Some, None, List, [], ◌∷◌, ◌++◌, map}
use Rattle.std.specs.List.{list_any}
use Rattle.std.specs.Str.{bytes_eq}
use Rattle.chart_model.specs.declared.counts.Counts.{Counts}
use Rattle.chart_model.specs.Lists.{all_within}
use Rattle.mrs_model.specs.Meanings.{Meaning}

abbrev pub Word : Type 0
Word = List ℕ

-- the predicates of an MRS
abbrev pub preds_of : Meaning → List Word
preds_of m = map (λ e. e.pred) m.eps

-- how often a word stands in a list
abbrev pub count : Word → List Word → ℕ
count w [] = 0
count w (v ∷ vs) = (if bytes_eq w v then 1 else 0) + count w vs

-- each word stands in the one list as often as in the other; no more often
abbrev pub SameBag : List Word → List Word → Type 0
SameBag ws vs = (w : Word) → count w ws ≡ count w vs

abbrev pub LiesIn : List Word → List Word → Type 0
LiesIn ws vs = (w : Word) → count w ws ≤ count w vs

-- Covers have a place for each predicate that is asked for, once.
abbrev pub is_among : Word → List Word → Bool
is_among w vs = list_any (λ v. bytes_eq w v) vs

abbrev pub noted : List Word → Word → List Word
noted places w = if is_among w places then places else places ++ w ∷ []

abbrev pub all_noted : List Word → List Word → List Word
all_noted places [] = places
all_noted places (w ∷ ws) = all_noted (noted places w) ws

-- the words of a list, each once, in order of first occurrence
abbrev pub distinct : List Word → List Word
distinct ws = all_noted [] ws

abbrev pub all_among : List Word → List Word → Bool
all_among [] vs = true
all_among (w ∷ ws) vs = is_among w vs && all_among ws vs

abbrev pub tally : List Word → List Word → List ℕ
tally places ws = map (λ p. count p ws) places

-- the counts of some predicates, where each is among those that are asked for
abbrev pub counted : List Word → List Word → ℕ → Option Counts
counted places ws n = if all_among ws places then Some (record { of = tally places ws; empty = n }) else None

-- the counts of the input, with so many empty words
abbrev pub bound_of : List Word → ℕ → Counts
bound_of bag most = record { of = tally (distinct bag) bag; empty = most }

-- a leaf without predicates is an empty word
abbrev pub empties : List Word → ℕ
empties [] = 1
empties (w ∷ ws) = 0

-- the places of covers, and how often the predicate of each is asked for
pub record BagTree : Type 0 where
  pub places : List Word
  pub counts : List ℕ

abbrev pub bag_of : List Word → BagTree
bag_of bag = record { places = distinct bag; counts = tally (distinct bag) bag }

-- each of some words has a place, and none is there more often than it is asked for
abbrev pub holds : BagTree → List Word → Bool
holds b ws = all_among ws b.places && all_within (tally b.places ws) b.counts
