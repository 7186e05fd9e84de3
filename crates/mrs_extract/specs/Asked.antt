-- What extraction asks for.
use Rattle.std.specs.Prelude.{ℕ, ◌≡◌, ◌<◌, length, All, Contains, IfSome}
use Rattle.fs_graph.specs.GraphMap.{GraphMap, arcs_at}
use Rattle.type_hierarchy.specs.Table.{TypeTable, completed_count, count_of}
use Rattle.mrs_model.specs.Texts.{IsName, IsSort}
use Rattle.mrs_places.specs.Paths.{Paths}
use Rattle.mrs_extract.specs.Extraction.{type_name, feature_name}

-- Names of types that aren't strings and of features are names of an MRS; features' names have no dots, and differ; sorts are letters; and each number is of a type.
pub record ArePaths (types : TypeTable) (p : Paths) : Type 0 where
  pub type_names : (t : ℕ) → t < completed_count types → IsName (type_name types t)
  pub string_type : IsName p.string_type
  pub feature_names : All IsName p.feats
  pub no_dots : All (λ n. Contains n 46 → ⊥) p.feats
  pub differ : (f g : ℕ) → f < length p.feats → g < length p.feats → feature_name p f ≡ feature_name p g → f ≡ g
  pub letters : All (λ s. IsSort s.letters) p.sorts
  pub sorts_in : All (λ s. IfSome s.ty (λ t. t < count_of types)) p.sorts
  pub cons_in : IfSome p.cons (λ t. t < count_of types)
  pub null_in : IfSome p.null (λ t. t < count_of types)

-- the structure is of these types and features
pub record IsOf (types : TypeTable) (p : Paths) (g : GraphMap) : Type 0 where
  pub types_in : All (λ t. t < count_of types) g.types
  pub feats_in : (n : ℕ) → n < length g.types → All (λ a. a.feat.0 < length p.feats) (arcs_at g n)
