-- What is looked for of a list of M, by its feature and those of its elements' parts.
use Rattle.std.specs.Prelude.{ℕ, List, map}
use Rattle.type_hierarchy.specs.Table.{TypeTable}
use Rattle.fs_graph.specs.GraphMap.{GraphMap}
use Rattle.mrs_places.specs.Paths.{Paths, feature_of}
use Rattle.mrs_places.specs.Looking.{Sought, Pair, Elements, MayElements, all_there, look_pair}
use Rattle.mrs_places.specs.Inner.Walked.{mrs_place, element_path, placed}
use Rattle.mrs_places.specs.declared.lists.ListFeats.{ListFeats}

abbrev pub ElementsOf : GraphMap → TypeTable → Paths → ℕ → ListFeats → Sought (List Pair) → Type 0
ElementsOf g types p m f = Elements g types p (mrs_place p m) (feature_of f.list.now) (feature_of f.one.now) (feature_of f.two.now)

-- of a list that M may lack
abbrev pub MayElementsOf : GraphMap → TypeTable → Paths → ℕ → ListFeats → Sought (List Pair) → Type 0
MayElementsOf g types p m f = MayElements g types p (mrs_place p m) (feature_of f.list.now) (feature_of f.one.now) (feature_of f.two.now)

-- the parts of elements that stand at these nodes
abbrev pub pairs_from : GraphMap → Paths → ListFeats → List ℕ → Sought (List Pair)
pairs_from g p f ns = all_there (map (look_pair g (feature_of f.one.now) (feature_of f.two.now)) (placed (element_path p (feature_of f.list.now)) 0 ns))
