-- The list of relations of a structure, as an open list.
use Rattle.std.specs.Prelude.{ℕ, Option, Some, None, Vec, List, [], ◌∷◌, ◌++◌, map}
use Rattle.std.specs.Global.{Global}
use Rattle.fs_model.specs.Claims.{Path}
use Rattle.fs_graph.specs.declared.facts.Feat.{Feat}
use Rattle.fs_graph.specs.Facts.{path_of}
use Rattle.generate_model.specs.Threads.{Open}
use Rattle.mrs_places.specs.Paths.{Feature, Paths}
use Rattle.relation_fit.specs.declared.list.RelationList.{RelationList}

-- where it begins and ends, and the feature from a cell to the next
pub record RelList : Type 0 where
  pub ends : Open
  pub rest : ℕ

abbrev pub list_seen : RelationList → RelList
list_seen l = record { ends = record { start = path_of l.start.items; end = path_of l.end.items }; rest = l.rest.0 }

abbrev pub places_seen : List (Vec Feat Global) → List Path
places_seen ps = map (λ p. path_of p.items) ps

abbrev pub and_number : Option ℕ → Option (List ℕ) → Option (List ℕ)
and_number None ns = None
and_number (Some n) None = None
and_number (Some n) (Some ns) = Some (n ∷ ns)

-- the numbers of features, where the grammar has each
abbrev pub numbers : List Feature → Option (List ℕ)
numbers [] = Some []
numbers (f ∷ fs) = and_number f.number (numbers fs)

abbrev pub longer : Path → ℕ → ℕ → Path
longer p f h = p ++ f ∷ h ∷ []

abbrev pub list_at : Option (List ℕ) → Option ℕ → Option ℕ → Option ℕ → Option ℕ → Option RelList
list_at (Some mrs) (Some rels) (Some list) (Some last) (Some rest) = Some (record { ends = record { start = longer mrs rels list; end = longer mrs rels last }; rest = rest })
list_at _ _ _ _ _ = None

-- RELS of the MRS of a structure: from its LIST to its LAST by REST, where the grammar has the features
abbrev pub list_in : Paths → Option RelList
list_in p = list_at (numbers p.mrs_path) p.rels.number p.diff_list.number p.diff_last.number p.rest.number
