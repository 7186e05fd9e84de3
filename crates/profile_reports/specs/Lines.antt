-- The report lines of a profile, each with its end.
use Rattle.std.specs.Prelude.{ℕ, ◌+◌, ◌==◌, ◌&&◌, ◌||◌, not, Bool, true, false, if◌then◌else◌, List, [], ◌∷◌, ◌++◌, length, codes}
use Rattle.std.specs.Fmt.{decimal}
use Rattle.profile_reports.specs.declared.profiles.Expected.{Expected}
use Rattle.profile_reports.specs.declared.profiles.Expected.TheVariants.{Unknown, Readings as ExpectsReadings, LexicalDepth as ExpectsDepth, UnaryChain as ExpectsChain, Edges as ExpectsEdges, TooManyReadings as ExpectsMany}
use Rattle.profile_reports.specs.Names.{lexical_depth_name, unary_chain_name, edges_name, readings_name}
use Rattle.profile_reports.specs.Profiles.{Item, too_long, not_utf8, no_item, an_item}
use Rattle.profile_reports.specs.declared.Counts.{Counts}
use Rattle.profile_reports.specs.declared.Got.{Got}
use Rattle.profile_reports.specs.declared.Got.TheVariants.{Bad as GotBad, Readings, LexicalDepth, UnaryChain, Edges, TooManyReadings, NoMemory}
use Rattle.profile_reports.specs.declared.ItemResult.{ItemResult}
use Rattle.profile_reports.specs.declared.Verdict.{Verdict}
use Rattle.profile_reports.specs.declared.Verdict.TheVariants.{Same, Differs, New, Bad}
use Rattle.profile_reports.specs.Comparing.{compared, lacks_memory, verdict_of}

-- what came, as it is written
abbrev pub got_text : Got → List ℕ
got_text (Readings n) = decimal n
got_text LexicalDepth = lexical_depth_name
got_text UnaryChain = unary_chain_name
got_text Edges = edges_name
got_text TooManyReadings = readings_name
got_text NoMemory = codes "no-memory"
got_text GotBad = codes "bad"

-- what is expected, as it is written
abbrev pub expected_text : Expected → List ℕ
expected_text Unknown = codes "?"
expected_text (ExpectsReadings n) = decimal n
expected_text ExpectsDepth = lexical_depth_name
expected_text ExpectsChain = unary_chain_name
expected_text ExpectsEdges = edges_name
expected_text ExpectsMany = readings_name

-- what came of an item that isn't bad, beside what is expected where it differs
abbrev pub compared_text : Verdict → Expected → Got → List ℕ
compared_text New expected got = codes "new " ++ got_text got
compared_text Same expected got = codes "same " ++ got_text got
compared_text other expected got = codes "differs " ++ expected_text expected ++ (32 ∷ got_text got)

-- what is told of an item of good form: that memory was wanting for it, or what came
abbrev pub told_of : Expected → ItemResult → List ℕ
told_of expected r = if lacks_memory r then codes "no-memory" else compared_text (compared expected r) expected r.got

-- what is told of an item: why it is bad, or what came
abbrev pub told : Item → ItemResult → List ℕ
told too_long r = codes "too-long"
told not_utf8 r = codes "not-utf8"
told no_item r = codes "no-item"
told (an_item expected sentence trees) r = told_of expected r

-- `item N TEXT`
abbrev pub item_line : ℕ → List ℕ → List ℕ
item_line number text = codes "item " ++ decimal number ++ (32 ∷ text) ++ 10 ∷ []

-- two blanks and `trees kept A lost B gained C`
abbrev pub trees_line : ItemResult → List ℕ
trees_line r = codes "  trees kept " ++ decimal r.kept ++ codes " lost " ++ decimal r.lost ++ codes " gained " ++ decimal r.gained ++ 10 ∷ []

-- trees are written for it
abbrev pub has_trees : Item → Bool
has_trees (an_item expected sentence (t ∷ ts)) = true
has_trees other = false

-- the line on its trees follows an item for which trees are written, unless memory was wanting for it
abbrev pub trees_lines : Item → ItemResult → List (List ℕ)
trees_lines item r = if has_trees item && not (lacks_memory r) then trees_line r ∷ [] else []

-- the report lines of the item of this number
abbrev pub item_lines : ℕ → Item → ItemResult → List (List ℕ)
item_lines number item r = item_line number (told item r) ∷ trees_lines item r

-- how many items have each verdict
abbrev pub no_counts : Counts
no_counts = record { same = 0; differs = 0; new = 0; bad = 0 }

abbrev pub counted : Verdict → Counts → Counts
counted Same c = record c { same = c.same + 1 }
counted Differs c = record c { differs = c.differs + 1 }
counted New c = record c { new = c.new + 1 }
counted Bad c = record c { bad = c.bad + 1 }

abbrev pub counts_of : List Item → List ItemResult → Counts
counts_of (item ∷ items) (r ∷ rs) = counted (verdict_of item r) (counts_of items rs)
counts_of items rs = no_counts

-- `batch items I same A differs B new C bad D`
abbrev pub summary_line : ℕ → Counts → List ℕ
summary_line items c =
    codes "batch items " ++ decimal items ++ codes " same " ++ decimal c.same ++ codes " differs " ++ decimal c.differs ++ codes " new "
    ++ decimal c.new ++ codes " bad " ++ decimal c.bad ++ 10 ∷ []

-- the report lines of items that are numbered from here on
abbrev pub lines_from : ℕ → List Item → List ItemResult → List (List ℕ)
lines_from n (item ∷ items) (r ∷ rs) = item_lines n item r ++ lines_from (n + 1) items rs
lines_from n items rs = []

-- the report of a profile
abbrev pub report_lines : List Item → List ItemResult → List (List ℕ)
report_lines items rs = lines_from 1 items rs ++ summary_line (length items) (counts_of items rs) ∷ []

-- an item differs or is bad
abbrev pub is_refused : List Item → List ItemResult → Bool
is_refused items rs = not ((counts_of items rs).differs == 0) || not ((counts_of items rs).bad == 0)
