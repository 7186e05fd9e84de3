-- What a grammar gives for a sentence, as profiles compare it.
use Rattle.std.specs.Prelude.{ℕ, List, [], length}
use Rattle.profile_reports.specs.declared.Got.{Got}
use Rattle.profile_reports.specs.declared.Got.TheVariants.{Readings, LexicalDepth, UnaryChain, Edges, TooManyReadings}

-- the limit that the sentence breaks, or the texts of its trees
pub data Outcome : Type 0 where
  by_lexical_depth : Outcome
  by_unary_chain : Outcome
  by_edges : Outcome
  by_readings : Outcome
  found : (texts : List (List ℕ)) → Outcome

-- what is told of it: the limit, or the number of readings
abbrev pub got_of : Outcome → Got
got_of by_lexical_depth = LexicalDepth
got_of by_unary_chain = UnaryChain
got_of by_edges = Edges
got_of by_readings = TooManyReadings
got_of (found texts) = Readings (length texts)

-- the texts of its trees; a sentence that is refused has none
abbrev pub texts_of : Outcome → List (List ℕ)
texts_of (found texts) = texts
texts_of other = []
