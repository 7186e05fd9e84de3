-- Lists of the trees of a group, each with its full structure.
use Rattle.std.specs.Prelude.{◌≡◌, ℕ, ◌<◌, Bool, true, false, Some, List, [], ◌∷◌, ◌++◌, map}
use Rattle.std.specs.List.{flat_map}
use Rattle.chart_model.specs.Calculus.{Along}
use Rattle.chart_model.specs.At.{At}
use Rattle.chart_model.specs.Chart.{Chart, Leaf, Row, OfWhole, all_free, is_free}
use Rattle.chart_model.specs.Grown.{Tree, leaf_tree, phrase, Trees, no_trees, more_trees, Stands, LeadsTo}
use Rattle.derivation.specs.Trees as derived
use Rattle.derivation.specs.Views.{in_order}
use Rattle.tree_model.specs.Readings.{Wholes}

-- a tree with its full structure
pub record Item (V : Type 0) : Type 0 where
  pub tree : derived.Derivation
  pub full : V

-- x is one of the list
pub data Has {A : Type 0} (x : A) : List A → Type 0 where
  has_here : {xs : List A} → Has x (x ∷ xs)
  has_there : {y : A} {xs : List A} → Has x xs → Has x (y ∷ xs)

-- no two are equal
pub data AllDiffer {A : Type 0} : List A → Type 0 where
  differ_none : AllDiffer []
  differ_more : {x : A} {xs : List A} → (Has x xs → ⊥) → AllDiffer xs → AllDiffer (x ∷ xs)

module _ {M C V : Type 0} (w : Wholes V C) (leaves : List (Leaf M C)) where
  mutual
    -- the model's tree over these leaves is this derivation, with this full structure
    pub data IsFullOf : Tree → derived.Derivation → V → Type 0 where
      full_leaf : (l : ℕ) (leaf : Leaf M C) → At leaves l leaf → IsFullOf (leaf_tree l) (w.leaf_tree leaf.name) (w.leaf_full leaf.name)
      full_phrase : (rule : ℕ) (ts : Trees) (ds : derived.Daughters) (vs : List V) (v : V) → AreFullOf ts ds vs → w.full rule vs v → IsFullOf (phrase rule ts) (derived.phrase (w.place rule) ds) v

    pub data AreFullOf : Trees → derived.Daughters → List V → Type 0 where
      no_full : AreFullOf no_trees derived.no_more []
      more_full : (t : Tree) (ts : Trees) (d : derived.Derivation) (ds : derived.Daughters) (v : V) (vs : List V) → IsFullOf t d v → AreFullOf ts ds vs → AreFullOf (more_trees t ts) (derived.first d ds) (v ∷ vs)

  -- the derivation stands in the group of this host, by one of its rows, with this full structure
  pub record IsIn (ch : Chart M C) (h : ℕ) (item : Item V) : Type 0 where
    pub tree : Tree
    pub row : ℕ
    pub stands : Stands leaves ch tree row h
    pub full : IsFullOf tree item.tree item.full

  -- the list holds trees of the group that have a full structure, each once; all of them, where nothing was cut
  pub record IsGroup (ch : Chart M C) (cut : Bool) (h : ℕ) (items : List (Item V)) : Type 0 where
    pub each : (item : Item V) → Has item items → IsIn ch h item
    pub all : cut ≡ false → (item : Item V) → IsIn ch h item → Has item items
    pub differ : AllDiffer (map (λ item. item.tree) items)

-- the ways to take one of each list, the last list's changing first
abbrev pub choices : {A : Type 0} → List (List A) → List (List A)
choices [] = [] ∷ []
choices (xs ∷ rest) = flat_map (λ x. map (λ more. x ∷ more) (choices rest)) xs

module _ {C V : Type 0} (w : Wholes V C) (rule : ℕ) (cut : Bool) where
  -- what the rule makes of these choices of daughters, in their order; a front of it, where something was cut
  pub data Makes : List (List (Item V)) → List (Item V) → Type 0 where
    makes_none : Makes [] []
    stops : (tts : List (List (Item V))) → cut ≡ true → Makes tts []
    fails : (parts : List (Item V)) (more : List (List (Item V))) (made : List (Item V)) → ((v : V) → w.full rule (map (λ item. item.full) parts) v → ⊥) → Makes more made → Makes (parts ∷ more) made
    makes : (parts : List (Item V)) (more : List (List (Item V))) (made : List (Item V)) (v : V) → w.full rule (map (λ item. item.full) parts) v → Makes more made → Makes (parts ∷ more) (record { tree = derived.phrase (w.place rule) (in_order (map (λ item. item.tree) parts)); full = v } ∷ made)

-- a row of a group: a leaf by its name, or a rule and its daughters
pub data GroupRow : Type 0 where
  a_leaf : ℕ → GroupRow
  a_whole : ℕ → List ℕ → GroupRow

module _ {C V : Type 0} (w : Wholes V C) (cut : Bool) (table : ℕ → List (Item V)) (listed : ℕ → Type 0) where
  -- what a row gives, by the lists of its daughters, all of which are made
  pub data Gives : GroupRow → List (Item V) → Type 0 where
    gives_leaf : (name : ℕ) → Gives (a_leaf name) (record { tree = w.leaf_tree name; full = w.leaf_full name } ∷ [])
    gives_whole : (rule : ℕ) (ds : List ℕ) (made : List (Item V)) → ((d : ℕ) → Has d ds → listed d) → Makes w rule cut (choices (map table ds)) made → Gives (a_whole rule ds) made

  -- what rows give, one after another; a front of it, where something was cut
  pub data Gather : List GroupRow → List (Item V) → Type 0 where
    gather_none : Gather [] []
    gather_stops : (rows : List GroupRow) → cut ≡ true → Gather rows []
    gather_more : (row : GroupRow) (rows : List GroupRow) (xs ys : List (Item V)) → Gives row xs → Gather rows ys → Gather (row ∷ rows) (xs ++ ys)

-- the rows by which trees stand in the group of a host, each once
pub record IsGroupRows {M C : Type 0} (leaves : List (Leaf M C)) (ch : Chart M C) (h : ℕ) (is : List ℕ) : Type 0 where
  pub each : (i : ℕ) → Has i is → LeadsTo ch.into i h
  pub all : (t : Tree) (i : ℕ) → Stands leaves ch t i h → Has i is
  pub differ : AllDiffer is

module _ {M C : Type 0} (leaves : List (Leaf M C)) (ch : Chart M C) where
  -- row i counts, and this is what is told of it
  pub data Describes : ℕ → GroupRow → Type 0 where
    describes_leaf : (l : ℕ) (leaf : Leaf M C) → At leaves l leaf → Describes l (a_leaf leaf.name)
    describes_whole : (i rule : ℕ) (row : Row M C) → At ch.rows i row → row.kind ≡ OfWhole rule → all_free ch.into row.daughters ≡ true → Describes i (a_whole rule row.daughters)

  -- this is told of the rows of the group of a host
  pub record IsToldGroup (h : ℕ) (told : List GroupRow) : Type 0 where
    pub rows : List ℕ
    pub are : IsGroupRows leaves ch h rows
    pub told_of : Along Describes rows told

-- those of a group's items that are asked for, in their order; `c` is the cover of the host
pub data Keeps {C V : Type 0} (w : Wholes V C) (c : C) : List (Item V) → List derived.Derivation → Type 0 where
  keeps_none : Keeps w c [] []
  leaves_out : (item : Item V) (items : List (Item V)) (ts : List derived.Derivation) → (w.accepted item.full c → ⊥) → Keeps w c items ts → Keeps w c (item ∷ items) ts
  keeps : (item : Item V) (items : List (Item V)) (ts : List derived.Derivation) → w.accepted item.full c → Keeps w c items ts → Keeps w c (item ∷ items) (item.tree ∷ ts)

module _ {M C V : Type 0} (w : Wholes V C) (ch : Chart M C) (table : ℕ → List (Item V)) where
  -- those of the groups of these hosts
  pub data Collects : List ℕ → List derived.Derivation → Type 0 where
    collects_none : Collects [] []
    collects_more : (h : ℕ) (hs : List ℕ) (row : Row M C) (ts us : List derived.Derivation) → At ch.rows h row → Keeps w row.cover (table h) ts → Collects hs us → Collects (h ∷ hs) (ts ++ us)

  -- hosts, each once, and all whose cover is asked for
  pub record AreHosts (hs : List ℕ) : Type 0 where
    pub each : (h : ℕ) → Has h hs → is_free ch.into h ≡ true
    pub all : (h : ℕ) (row : Row M C) (m : M) (v : V) → At ch.rows h row → row.shape ≡ Some m → is_free ch.into h ≡ true → w.accepted v row.cover → Has h hs
    pub differ : AllDiffer hs

-- a rank falls from each host to the daughters of the rows of its group
abbrev pub AreGrounded : (ℕ → List GroupRow) → (ℕ → ℕ) → Type 0
AreGrounded told rank = (h : ℕ) (row : GroupRow) (rule : ℕ) (ds : List ℕ) (d : ℕ) → Has row (told h) → row ≡ a_whole rule ds → Has d ds → rank d < rank h
