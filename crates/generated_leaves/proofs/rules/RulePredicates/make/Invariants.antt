use Rattle.std.proofs.Common.{map, take}
use Rattle.std.specs.List.{AllZip}
use Rattle.book_signs.specs.Trees.{signs_of}
use Rattle.mrs_places.specs.Paths.{feature_of, paths_of}
use Rattle.generated_leaves.specs.Given.{IsGivenAt}
use Rattle.generated_leaves.proofs.ListLemmas.{words_of}
use Rattle.generated_leaves.proofs.rules.RulePredicates.make.Given as goal

abbrev pub invariant-loop-place : goal.invariant-loop-place
invariant-loop-place l = AllZip (IsGivenAt (signs_of l.signs) l.signs.book.system.types (paths_of l.paths) (map feature_of l.c_cont)) (take l.place-index l.places) (map words_of l.given.items)
