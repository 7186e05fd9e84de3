-- What the search for unknown words sees of lexical trees.
use Rattle.std.specs.Prelude.{ℕ, ◌≡◌, ◌<◌, ◌+◌, ◌⊎◌, ◌==◌, Bool, true, false, if◌then◌else◌, Option, Some, None, List, [], ◌∷◌, length, map, take, drop, slice_index_or, string_bytes}
use Rattle.std.specs.List.{filter_map}
use Rattle.lexicon.specs.Words.{Word, Has}
use Rattle.derivation.specs.Trees.{Derivation, lexical, phrase}
use Rattle.morph_analysis.specs.Lattices.{StepTree, Carries}
use Rattle.line_charts.specs.declared.unknown.Reach.{Reach}

-- the nodes between which a lexical tree lies, and its words
pub record ReachTree : Type 0 where
  pub from : ℕ
  pub to : ℕ
  pub words : List Word

abbrev pub reach_seen : Reach → ReachTree
reach_seen r = record { from = r.from; to = r.to; words = map string_bytes r.words.now }

-- what has one word, or what has not
abbrev pub with_count : Bool → ReachTree → Option ReachTree
with_count true r = if length r.words == 1 then Some r else None
with_count false r = if length r.words == 1 then None else Some r

-- a lexical tree with nodes and with one word, or with another number of them
abbrev pub reach_in : Bool → Derivation → Option ReachTree
reach_in single (lexical entry rules words (Some n)) = with_count single (record { from = n.0; to = n.1; words = words })
reach_in single (lexical entry rules words None) = None
reach_in single (phrase rule ds) = None

abbrev pub reaches_in : Bool → List Derivation → List ReachTree
reaches_in single ds = filter_map (reach_in single) ds

-- the step is all that there is of it
pub record IsStep (r : ReachTree) (s : StepTree) : Type 0 where
  pub from : r.from ≡ s.from
  pub to : r.to ≡ s.to
  pub word : r.words ≡ s.word ∷ []

-- the word at place k is that of the step, and paths carry the words before it to the step, and those after it from there
pub record IsWithinAt (steps : List StepTree) (r : ReachTree) (s : StepTree) (k : ℕ) : Type 0 where
  pub below : k < length r.words
  pub word : slice_index_or r.words k [] ≡ s.word
  pub before : Carries steps r.from (take k r.words) s.from
  pub after : Carries steps s.to (drop (k + 1) r.words) r.to

abbrev pub IsWithin : List StepTree → ReachTree → StepTree → Type 0
IsWithin steps r s = (k : ℕ) × IsWithinAt steps r s k

-- one of these is R of the step
abbrev pub IsSome : (ReachTree → StepTree → Type 0) → List ReachTree → StepTree → Type 0
IsSome R rs s = (r : ReachTree) × Has r rs × R r s

abbrev pub IsTold : List StepTree → List ReachTree → List ReachTree → StepTree → Type 0
IsTold steps ones longs s = IsSome IsStep ones s ⊎ IsSome (IsWithin steps) longs s

-- those of some steps for which P doesn't hold, in order
pub data AreOutside (P : StepTree → Type 0) : List StepTree → List StepTree → Type 0 where
  outside_none : AreOutside P [] []
  outside_passed : {ss us : List StepTree} (s : StepTree) → P s → AreOutside P ss us → AreOutside P (s ∷ ss) us
  outside_here : {ss us : List StepTree} (s : StepTree) → (P s → ⊥) → AreOutside P ss us → AreOutside P (s ∷ ss) (s ∷ us)

-- each step goes forward
abbrev pub GoForward : List StepTree → Type 0
GoForward steps = (s : StepTree) → Has s steps → s.from < s.to
