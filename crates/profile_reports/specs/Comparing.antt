-- What is found of an item of a profile, and what that means.
use Rattle.std.specs.Prelude.{ℕ, ◌==◌, ◌&&◌, Bool, true, false, if◌then◌else◌, List, [], ◌∷◌}
use Rattle.std.specs.List.{list_any}
use Rattle.profile_reports.specs.declared.profiles.Expected.{Expected}
use Rattle.profile_reports.specs.declared.profiles.Expected.TheVariants.{Unknown, Readings as ExpectsReadings, LexicalDepth as ExpectsDepth, UnaryChain as ExpectsChain, Edges as ExpectsEdges, TooManyReadings as ExpectsMany}
use Rattle.profile_reports.specs.Profiles.{Item, an_item}
use Rattle.profile_reports.specs.declared.Got.{Got}
use Rattle.profile_reports.specs.declared.Got.TheVariants.{Readings, LexicalDepth, UnaryChain, Edges, TooManyReadings, NoMemory}
use Rattle.profile_reports.specs.declared.ItemResult.{ItemResult}
use Rattle.profile_reports.specs.declared.Verdict.{Verdict}
use Rattle.profile_reports.specs.declared.Verdict.TheVariants.{Same, Differs, New, Bad}
use Rattle.profile_reports.specs.Texts.{kept, lost, gained}
use Rattle.profile_reports.specs.Outcomes.{Outcome, got_of, texts_of}

-- the result of the item at a place, where no trees are written for it, or it is bad
abbrev pub plain_result : ℕ → Got → ItemResult
plain_result place got = record { item = place; got = got; kept = 0; lost = 0; gained = 0 }

-- the result of the item at a place, where trees are written for it and trees came, by their texts
abbrev pub compared_result : ℕ → Got → List (List ℕ) → List (List ℕ) → ItemResult
compared_result place got written came =
    record { item = place; got = got; kept = kept written came; lost = lost written came; gained = gained written came }

-- the result of the item at a place that isn't bad, by the trees that are written for it and what its sentence has
abbrev pub result_of : ℕ → List (List ℕ) → Outcome → ItemResult
result_of place [] outcome = plain_result place (got_of outcome)
result_of place (t ∷ ts) outcome = compared_result place (got_of outcome) (t ∷ ts) (texts_of outcome)

-- what came is what is expected
abbrev pub is_expected : Expected → Got → Bool
is_expected (ExpectsReadings n) (Readings k) = n == k
is_expected ExpectsDepth LexicalDepth = true
is_expected ExpectsChain UnaryChain = true
is_expected ExpectsEdges Edges = true
is_expected ExpectsMany TooManyReadings = true
is_expected expected got = false

-- no tree was lost, and none gained
abbrev pub has_its_trees : ItemResult → Bool
has_its_trees r = (r.lost == 0) && (r.gained == 0)

-- the verdict on an item that isn't bad, and for which memory wasn't wanting
abbrev pub compared : Expected → ItemResult → Verdict
compared Unknown r = New
compared expected r = if is_expected expected r.got && has_its_trees r then Same else Differs

-- memory was wanting for the item; what a grammar gives is never this, and no profile expects it
abbrev pub is_no_memory : Got → Bool
is_no_memory NoMemory = true
is_no_memory other = false

abbrev pub lacks_memory : ItemResult → Bool
lacks_memory r = is_no_memory r.got

-- memory was wanting for one of several items
abbrev pub is_some_lacking : List ItemResult → Bool
is_some_lacking results = list_any lacks_memory results

-- the verdict on an item of good form; it counts as bad where memory was wanting for it
abbrev pub verdict_on : Expected → ItemResult → Verdict
verdict_on expected r = if lacks_memory r then Bad else compared expected r

-- the verdict on an item by its result
abbrev pub verdict_of : Item → ItemResult → Verdict
verdict_of (an_item expected sentence trees) r = verdict_on expected r
verdict_of other r = Bad
