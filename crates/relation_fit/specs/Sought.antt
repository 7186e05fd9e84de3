-- What is sought among the elements of a list: the elementary predications of an MRS, by numbers of types and features.
use Rattle.std.specs.Prelude.{ℕ, ◌≡◌, ◌<◌, ◌⊎◌, true, false, Some, List, map, length, Contains, All}
use Rattle.std.specs.List.{Any, AllZip, slice_get}
use Rattle.std.specs.Char.{to_ascii_lowercase}
use Rattle.type_hierarchy.specs.declared.types.Ty.{Ty}
use Rattle.type_hierarchy.specs.Table.{TypeTable, count_of}
use Rattle.mrs_model.specs.Meanings.{Property, Variable, Filler, of_var, of_text, Argument, Predication, Meaning}
use Rattle.mrs_places.specs.Paths.{Paths}
use Rattle.mrs_extract.specs.Extraction.{Normal, is_string, type_name, feature_name}
use Rattle.mrs_extract.specs.Inner.Routes.{joined, numbers_of}
use Rattle.relation_fit.specs.declared.seeking.Named.{Named}
use Rattle.relation_fit.specs.declared.seeking.SoughtProp.{SoughtProp}
use Rattle.relation_fit.specs.declared.seeking.SoughtValue.{SoughtValue}
use Rattle.relation_fit.specs.declared.seeking.SoughtValue.TheVariants.{Text, Var}
use Rattle.relation_fit.specs.declared.seeking.SoughtRole.{SoughtRole}
use Rattle.relation_fit.specs.declared.seeking.SoughtEp.{SoughtEp}

-- the name of the type is this predicate, once it is normal
abbrev pub IsPredicate : TypeTable → List ℕ → ℕ → Type 0
IsPredicate types pred t = Normal (map to_ascii_lowercase (type_name types t)) pred

-- the type is a string, and this text
abbrev pub IsText : TypeTable → List ℕ → ℕ → Type 0
IsText types text t = (is_string types t ≡ true) × (type_name types t ≡ text)

-- the type is no string, and has this name
abbrev pub IsValue : TypeTable → List ℕ → ℕ → Type 0
IsValue types value t = (is_string types t ≡ false) × (type_name types t ≡ value)

-- all types of which this holds are there, where not any type may be
abbrev pub AreNamed : TypeTable → (ℕ → Type 0) → Named → Type 0
AreNamed types P named = (t : ℕ) → P t → (named.any ≡ true) ⊎ ((t < count_of types) × Any (λ u. u.0 ≡ t) named.types.items)

-- stands for a property of the variable: its path by features, and the types that have the name of its value
pub record IsSoughtProp (types : TypeTable) (p : Paths) (v : Variable) (x : SoughtProp) : Type 0 where
  pub prop : Property
  pub has : Contains v.props prop
  pub filled : 0 < length x.path.items
  pub inside : All (λ f. f < length p.feats) (numbers_of x.path.items)
  pub name : joined p (numbers_of x.path.items) ≡ prop.name
  pub value : AreNamed types (IsValue types prop.value) x.value

-- stands for what fills a role: a text, or a variable with some of its properties
abbrev pub IsSoughtValue : TypeTable → Paths → List Variable → Filler → SoughtValue → Type 0
IsSoughtValue types p vars (of_text text) (Text named) = AreNamed types (IsText types text) named
IsSoughtValue types p vars (of_text text) (Var props) = ⊥
IsSoughtValue types p vars (of_var v) (Text named) = ⊥
IsSoughtValue types p vars (of_var v) (Var props) = (x : Variable) × (slice_get vars v ≡ Some x) × All (IsSoughtProp types p x) props.items

-- stands for one of these roles
pub record IsSoughtRole (types : TypeTable) (p : Paths) (vars : List Variable) (args : List Argument) (r : SoughtRole) : Type 0 where
  pub arg : Argument
  pub has : Contains args arg
  pub inside : r.feat.0 < length p.feats
  pub named : feature_name p r.feat.0 ≡ arg.role
  pub value : IsSoughtValue types p vars arg.filler r.value

-- stands for an elementary predication: the types that have its predicate's name, and some of its roles
pub record IsSoughtEp (types : TypeTable) (p : Paths) (vars : List Variable) (e : Predication) (x : SoughtEp) : Type 0 where
  pub pred : AreNamed types (IsPredicate types e.pred) x.pred
  pub roles : All (IsSoughtRole types p vars e.args) x.roles.items

-- stand for the elementary predications of an MRS, in their order
abbrev pub AreSought : TypeTable → Paths → Meaning → List SoughtEp → Type 0
AreSought types p m xs = AllZip (IsSoughtEp types p m.vars) m.eps xs
