-- The facts of a statement's body, as claims on paths of numbered features (Copestake 2002).
use Rattle.std.specs.Prelude.{ℕ, if◌then◌else◌, Option, Some, None, List, [], ◌∷◌, map, unwrap_or}
use Rattle.std.specs.Str.{bytes_eq}
use Rattle.type_hierarchy.specs.Decls.{Name, number_of}
use Rattle.type_hierarchy.specs.Table.{TypeTable}
use Rattle.fs_model.specs.Claims.{Claim, exists_at, same, below}
use Rattle.tdl_reader.specs.Trees.{BodyTree}
use Rattle.body_facts.specs.Numbers.{type_number, text_number}
use Rattle.body_facts.specs.Sayings.{Saying, has_type, has_text, carries, is_there, are_equal, body_says}
use Rattle.body_facts.specs.Writing.{ListNames}

-- the types with the strings, the names that lists have, and the names of the features by number
pub record WordTable : Type 0 where
  pub types : TypeTable
  pub names : ListNames
  pub feats : List Name

-- the first path that carries a coreference
abbrev pub first_carrier : {F : Type 0} → Name → List (Saying F) → Option (List F)
first_carrier name [] = None
first_carrier name (carries p other ∷ more) = if bytes_eq name other then Some p else first_carrier name more
first_carrier name (has_type p other ∷ more) = first_carrier name more
first_carrier name (has_text p other ∷ more) = first_carrier name more
first_carrier name (is_there p ∷ more) = first_carrier name more
first_carrier name (are_equal p q ∷ more) = first_carrier name more

-- A saying among all of its statement, as a claim. All paths that carry a coreference are equal to the first that does,
-- and so to each other.
abbrev pub claim_said : TypeTable → List (Saying ℕ) → Saying ℕ → Claim
claim_said types all (has_type p name) = below p (type_number types name)
claim_said types all (has_text p text) = below p (text_number types text)
claim_said types all (carries p name) = same (unwrap_or (first_carrier name all) p) p
claim_said types all (is_there p) = exists_at p
claim_said types all (are_equal p q) = same p q

abbrev pub claims_of_sayings : TypeTable → List (Saying ℕ) → List Claim
claims_of_sayings types all = map (claim_said types all) all

-- what a statement's body says of the node of its definition
abbrev pub sayings_of : WordTable → BodyTree → List (Saying ℕ)
sayings_of w body = body_says (number_of w.feats) w.names [] body

abbrev pub claims_said : WordTable → BodyTree → List Claim
claims_said w body = claims_of_sayings w.types (sayings_of w body)
