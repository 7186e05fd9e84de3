-- What contracts see of the nodes that were found.
use Rattle.std.specs.Prelude.{ℕ, ◌<◌, All, List, map}
use Rattle.mrs_places.specs.declared.lists.Element.{Element}
use Rattle.mrs_places.specs.declared.looking.Found.{Found}
use Rattle.mrs_places.specs.Looking.{Pair, Parts}

abbrev pub pair_of : Element → Pair
pair_of e = record { at = e.at.0; one = e.one.0; two = e.two.0 }

abbrev pub pairs_of : List Element → List Pair
pairs_of es = map pair_of es

abbrev pub parts_of : Found → Parts
parts_of f = record { top = f.top.0; index = f.index.0; rels = pairs_of f.rels.items; hcons = pairs_of f.hcons.items; icons = pairs_of f.icons.items }

-- the nodes of a pair are nodes of a graph
pub record IsPairIn (size : ℕ) (pair : Pair) : Type 0 where
  pub at : pair.at < size
  pub one : pair.one < size
  pub two : pair.two < size

pub record ArePartsIn (size : ℕ) (parts : Parts) : Type 0 where
  pub top : parts.top < size
  pub index : parts.index < size
  pub rels : All (IsPairIn size) parts.rels
  pub hcons : All (IsPairIn size) parts.hcons
  pub icons : All (IsPairIn size) parts.icons
