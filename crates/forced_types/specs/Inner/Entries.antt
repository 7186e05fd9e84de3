-- Nodes in plain terms.
use Rattle.std.specs.Prelude.{ℕ, ◌≡◌, ◌≢◌, ◌<◌, ◌⊎◌, Option, None, List, [], ◌∷◌, ◌++◌, map, length, slice_index_or}
use Rattle.fs_model.specs.Claims.{Path, Has}
use Rattle.fs_graph.specs.Facts.{path_of}
use Rattle.fs_graph.specs.declared.graph.GraphArc.{GraphArc}
use Rattle.fs_graph.specs.Visits.{feats_of}
use Rattle.forced_types.specs.declared.nodes.Image.{Image}
use Rattle.forced_types.specs.declared.nodes.Node.{Node}

pub record Entry : Type 0 where
  pub path : Path
  pub up : ℕ
  pub types : List ℕ
  pub arcs : List GraphArc
  pub image : Option Image

abbrev pub no_entry : Entry
no_entry = record { path = []; up = 0; types = []; arcs = []; image = None }

abbrev pub entry_of : Node → Entry
entry_of n = record { path = path_of n.path.items; up = n.up; types = n.types.items; arcs = n.arcs.items; image = n.image }

abbrev pub entries_of : List Node → List Entry
entries_of nodes = map entry_of nodes

abbrev pub entry_at : List Entry → ℕ → Entry
entry_at es k = slice_index_or es k no_entry

abbrev pub paths_of : List Entry → List Path
paths_of es = map (λ e. e.path) es

abbrev pub path_at : List Path → ℕ → Path
path_at ps k = slice_index_or ps k []

-- no two arcs of a row have one feature
abbrev pub feat_at : List GraphArc → ℕ → ℕ
feat_at arcs i = slice_index_or (feats_of arcs) i 0

abbrev pub AreFeatsApart : List GraphArc → Type 0
AreFeatsApart arcs = (i j : ℕ) → i < j → j < length arcs → feat_at arcs i ≢ feat_at arcs j

-- a node gets no types but one
pub record IsTyped (old new : Entry) (ty : ℕ) : Type 0 where
  pub path : new.path ≡ old.path
  pub up : new.up ≡ old.up
  pub arcs : new.arcs ≡ old.arcs
  pub image : new.image ≡ old.image
  pub types : (t : ℕ) → Has t new.types → Has t old.types ⊎ (t ≡ ty)

-- a node gets one arc more, or none
pub record IsArced (old new : Entry) (arc : GraphArc) : Type 0 where
  pub path : new.path ≡ old.path
  pub up : new.up ≡ old.up
  pub types : new.types ≡ old.types
  pub image : new.image ≡ old.image
  pub arcs : (new.arcs ≡ old.arcs) ⊎ (new.arcs ≡ old.arcs ++ arc ∷ [])

-- a node is merged into another one
pub record IsRaised (old new : Entry) (up : ℕ) : Type 0 where
  pub path : new.path ≡ old.path
  pub up_is : new.up ≡ up
  pub types : new.types ≡ old.types
  pub arcs : new.arcs ≡ old.arcs
  pub image : new.image ≡ old.image

-- one node changes
pub record Alters (old new : List Entry) (n : ℕ) (changes : Entry → Entry → Type 0) : Type 0 where
  pub size : length new ≡ length old
  pub others : (k : ℕ) → k ≢ n → entry_at new k ≡ entry_at old k
  pub here : changes (entry_at old n) (entry_at new n)

-- a node of the top type is added, merged into none
abbrev pub fresh : ℕ → Path → Option Image → Entry
fresh n path image = record { path = path; up = n; types = 0 ∷ []; arcs = []; image = image }

abbrev pub Adds : List Entry → List Entry → Path → Option Image → Type 0
Adds old new path image = new ≡ old ++ fresh (length old) path image ∷ []
