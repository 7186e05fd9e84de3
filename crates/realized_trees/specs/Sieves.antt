-- When structures may be dropped, and which are.
use Rattle.std.specs.Prelude.{◌≡◌, true, Option, Some, None, All, List}
use Rattle.fs_graph.specs.GraphMap.{GraphMap, IsGraph}
use Rattle.chart_model.specs.declared.counts.Counts.{Counts}
use Rattle.tree_model.specs.Readings.{Wholes}
use Rattle.tree_model.specs.Structures.{Structure}
use Rattle.tree_model.specs.Signs.{rule_system}
use Rattle.mrs_model.specs.Meanings.{Meaning}
use Rattle.mrs_places.specs.Paths.{Paths}
use Rattle.book_signs.specs.Trees.{SignTree, signs_of}
use Rattle.rule_trees.specs.Mothers.{graph_view, IsShortIn}
use Rattle.generate_model.specs.Embedding.{IsOutside}
use Rattle.generate_model.specs.Threading.{AllThread, Fit}
use Rattle.generate_model.specs.Pruning.{pruned}
use Rattle.generated_leaves.specs.Leaves.{WordLeaf}
use Rattle.relation_fit.specs.Fits.{NullApart}
use Rattle.relation_fit.specs.Lists.{RelList, list_in, list_seen}
use Rattle.relation_fit.specs.Sought.{AreSought}
use Rattle.relation_fit.specs.Tests.{has_misfit}
use Rattle.realized_trees.specs.declared.sifting.Sieve.{Sieve}

-- the list is that of the paths, stands outside of daughters, and each phrase rule appends those of its daughters; no cell is an empty list
pub record IsThreaded (t : SignTree) (p : Paths) (l : RelList) : Type 0 where
  pub list : list_in p ≡ Some l
  pub outside : IsOutside (rule_system (signs_of t)) l.ends
  pub threads : AllThread (rule_system (signs_of t)) l.rest l.ends
  pub apart : NullApart (signs_of t).system p l.rest

-- and the list of each leaf reaches its end; what is sought stands for the MRS
pub record IsSieve (t : SignTree) (p : Paths) (meaning : Meaning) (leaves : List WordLeaf) (s : Sieve) : Type 0 where
  pub threaded : IsThreaded t p (list_seen s.list.now)
  pub reach : All (λ x. Fit (rule_system (signs_of t)) (list_seen s.list.now).rest (list_seen s.list.now).ends x.full) leaves
  pub sought : AreSought t.book.system.types p meaning s.sought.eps.items

-- a structure is dropped where the list of its graph reaches its end and has an element that fits no elementary predication
pub record IsDropped (t : SignTree) (p : Paths) (s : Sieve) (f : Structure) : Type 0 where
  pub graph : GraphMap
  pub is : IsGraph graph
  pub short : IsShortIn t graph
  pub seen : graph_view t graph ≡ f
  pub misfit : has_misfit t.book.system.types graph p s.sought.eps.items (list_seen s.list.now) ≡ true

-- without a sieve nothing is dropped
abbrev pub MayDrop : SignTree → Paths → Option Sieve → Structure → Type 0
MayDrop t p None f = ⊥
MayDrop t p (Some s) f = IsDropped t p s f

-- the full structures of generation without those that are dropped
abbrev pub sifted : SignTree → Paths → Option Sieve → Wholes Structure Counts → Wholes Structure Counts
sifted t p o w = pruned w (MayDrop t p o)
