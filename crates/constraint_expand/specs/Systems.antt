-- The type system of a grammar's statements (Copestake 2002), and the claims whose closures are structures.
use Rattle.std.specs.Prelude.{ℕ, ◌≡◌, List, [], ◌∷◌, map, string_bytes}
use Rattle.std.specs.List.{AllZip}
use Rattle.fs_model.specs.Claims.{Claim, exists_at, below}
use Rattle.type_hierarchy.specs.Decls.{Name}
use Rattle.type_hierarchy.specs.Table.{TypeTable}
use Rattle.fs_unify.specs.Rules.{Grammar}
use Rattle.body_facts.specs.declared.settled_names.Names.{Names}
use Rattle.body_facts.specs.Writing.{ListNames, list_names}
use Rattle.body_facts.specs.Claimed.{WordTable}
use Rattle.grammar_files.specs.Placings.{PlacedTree}
pub use Rattle.type_facts.specs.Facts.{said_by, rule_of, rules_in}
use Rattle.constraint_expand.specs.Features.{AreFeatures, writers_of}
use Rattle.constraint_expand.specs.Introducers.{IsIntroducer}

-- the names that settings give
pub record Settled : Type 0 where
  pub lists : ListNames
  pub args_path : List Name
  pub daughter_features : List Name
  pub restrictors : List Name
  pub check_paths : List (List Name)
  pub path_limit : ℕ
  pub node_limit : ℕ

abbrev pub settled_of : Names → Settled
settled_of n =
    record {
      lists = list_names n;
      args_path = map string_bytes n.args_path.items;
      daughter_features = map string_bytes n.daughter_features.items;
      restrictors = map string_bytes n.restrictors.items;
      check_paths = map (λ p. map string_bytes p.items) n.check_paths.items;
      path_limit = n.path_limit;
      node_limit = n.node_limit;
    }

abbrev pub words_of : TypeTable → ListNames → List Name → WordTable
words_of types n feats = record { types = types; names = n; feats = feats }

-- Features have numbers in the order of their names, and each has its introducer.
pub record IsSystemOf (types : TypeTable) (s : Settled) (ps : List PlacedTree) (feats : List Name) (g : Grammar) : Type 0 where
  pub features : AreFeatures s.lists ps feats
  pub types_are : g.types ≡ types
  pub introducers : AllZip (λ f t. IsIntroducer types (writers_of types s.lists ps f) t) feats g.introducers
  pub rules : g.rules ≡ rules_in (words_of types s.lists feats) ps
  pub limit : g.path_limit ≡ s.path_limit

-- the constraint of a type is the closure of this
abbrev pub constraint_claims : ℕ → List Claim
constraint_claims t = below [] t ∷ []

-- the structure of an instance is the closure of these: what its body says of its node, which is there
abbrev pub instance_claims : WordTable → PlacedTree → List Claim
instance_claims w p = exists_at [] ∷ said_by w p
