-- What came of a sentence, as the program keeps it.
use Rattle.std.specs.Prelude.{◌≡◌, ℕ, List, [], length, map}
use Rattle.profile_reports.specs.declared.Came.{Came}
use Rattle.profile_reports.specs.declared.Came.TheVariants.{LexicalDepth, UnaryChain, Edges, TooManyReadings, Readings, Trees}
use Rattle.profile_reports.specs.declared.Got.{Got}
use Rattle.profile_reports.specs.declared.Got.TheVariants.{Readings as GotReadings, LexicalDepth as GotDepth, UnaryChain as GotChain, Edges as GotEdges, TooManyReadings as GotMany}
use Rattle.profile_reports.specs.Outcomes.{Outcome, by_lexical_depth, by_unary_chain, by_edges, by_readings, found}

-- The program keeps this of an outcome: the limit, the number of the trees, or their texts.
abbrev pub Keeps : Came → Outcome → Type 0
Keeps LexicalDepth outcome = outcome ≡ by_lexical_depth
Keeps UnaryChain outcome = outcome ≡ by_unary_chain
Keeps Edges outcome = outcome ≡ by_edges
Keeps TooManyReadings outcome = outcome ≡ by_readings
Keeps (Readings count) outcome = (texts : List (List ℕ)) × (outcome ≡ found texts) × (length texts ≡ count)
Keeps (Trees texts) outcome = outcome ≡ found (map (λ t. t.items) texts.items)

-- where there are trees, their texts are kept
abbrev pub HasTexts : Came → Type 0
HasTexts (Readings count) = ⊥
HasTexts other = Unit {0}

-- the texts that are kept
abbrev pub texts_kept : Came → List (List ℕ)
texts_kept (Trees texts) = map (λ t. t.items) texts.items
texts_kept other = []

-- what is told of it
abbrev pub got_kept : Came → Got
got_kept LexicalDepth = GotDepth
got_kept UnaryChain = GotChain
got_kept Edges = GotEdges
got_kept TooManyReadings = GotMany
got_kept (Readings count) = GotReadings count
got_kept (Trees texts) = GotReadings (length texts.items)
