-- What is found of the items of a profile, by what a grammar licenses for their sentences.
use Rattle.std.specs.Prelude.{ℕ, ◌≡◌, Bool, false, List, map}
use Rattle.std.specs.Str.{chars}
use Rattle.derivation.specs.Text.{text_of}
use Rattle.tree_model.specs.Items.{Limits, Answer, LexicalDepth, ByUnaryChain, ByEdges, Readings, Trees}
use Rattle.tree_model.specs.Answers.{IsParseAnswer}
use Rattle.lexical_items.specs.Seen.{lattice_seen}
use Rattle.engine.specs.Speeches.{Speech, lattice_of_words}
use Rattle.side_by_side.specs.Works.{AreGiven}
use Rattle.profile_reports.specs.declared.profiles.Expected.{Expected}
use Rattle.profile_reports.specs.Profiles.{Item, too_long, not_utf8, no_item, an_item}
use Rattle.profile_reports.specs.declared.Got.TheVariants.{Bad, NoMemory}
use Rattle.profile_reports.specs.declared.ItemResult.{ItemResult}
use Rattle.profile_reports.specs.Outcomes.{Outcome, by_lexical_depth, by_unary_chain, by_edges, by_readings, found}
use Rattle.profile_reports.specs.Comparing.{plain_result, result_of, is_some_lacking}
use Rattle.profile_reports.specs.Lines.{report_lines, is_refused}

-- what an answer is to a profile: the limit that is broken, or the texts of the trees, without nodes
abbrev pub outcome_of : List (List ℕ) → Answer → Outcome
outcome_of names LexicalDepth = by_lexical_depth
outcome_of names ByUnaryChain = by_unary_chain
outcome_of names ByEdges = by_edges
outcome_of names Readings = by_readings
outcome_of names (Trees classes trees) = found (map (text_of names false) trees)

-- `most` is the greatest number of rules of a lexical tree
module _ (speech : Speech) (limits : Limits) (most : ℕ) where
  -- The result of the item at a place, from 0. A bad item has none of its own; any other has that of the answer of `parse` to the words
  -- of its sentence, compared with the trees that are written for it.
  pub data IsResult (place : ℕ) : Item → ItemResult → Type 0 where
    of_long : IsResult place too_long (plain_result place Bad)
    of_bytes : IsResult place not_utf8 (plain_result place Bad)
    of_line : IsResult place no_item (plain_result place Bad)
    of_item : (expected : Expected) (sentence : List ℕ) (trees : List (List ℕ)) (answer : Answer)
        → IsParseAnswer speech.signs speech.words (lattice_seen (lattice_of_words (chars sentence))) most limits answer
        → IsResult place (an_item expected sentence trees) (result_of place trees (outcome_of speech.names answer))

  -- the results of items, each at its place
  abbrev pub AreResults : List Item → List ItemResult → Type 0
  AreResults items results = AreGiven IsResult 0 items results

  -- the report of a profile
  abbrev pub IsReported : List Item → List (List ℕ) → Bool → Type 0
  IsReported items pieces refused = (results : List ItemResult) × AreResults items results × (pieces ≡ report_lines items results) × (refused ≡ is_refused items results)

  -- The same where memory may have been wanting. Of the item at a place there is its result or, unless it is bad, that memory was wanting
  -- for it.
  pub data IsResultOrGap (place : ℕ) : Item → ItemResult → Type 0 where
    a_result : (item : Item) (r : ItemResult) → IsResult place item r → IsResultOrGap place item r
    a_gap : (expected : Expected) (sentence : List ℕ) (trees : List (List ℕ)) → IsResultOrGap place (an_item expected sentence trees) (plain_result place NoMemory)

  abbrev pub AreResultsOrGaps : List Item → List ItemResult → Type 0
  AreResultsOrGaps items results = AreGiven IsResultOrGap 0 items results

  -- the report in which items for which memory was wanting are told to be so, and whether there is one
  abbrev pub IsReportedWithGaps : List Item → List (List ℕ) → Bool → Type 0
  IsReportedWithGaps items pieces wanting = (results : List ItemResult) × AreResultsOrGaps items results × (pieces ≡ report_lines items results) × (wanting ≡ is_some_lacking results)
