-- The MRS of a structure (Copestake, Flickinger, Pollard and Sag 2005).
use Rattle.std.specs.Prelude.{ℕ, ◌≡◌, ◌≢◌, ◌+◌, ◌-◌, ◌*◌, ◌<◌, ◌^◌, ◌↔◌, ◌==◌, ◌||◌, ◌&&◌, not, nat_lt, Bool, true, false, if◌then◌else◌, Option, Some, None, Ok, Err, List, [], ◌∷◌, ◌++◌, map, filter, length, slice_index_or, Contains, All, codes}
use Rattle.std.specs.List.{slice_get, AllZip, list_any, flat_map}
use Rattle.std.specs.List.Sorted.{IsPermutation}
use Rattle.std.specs.Str.{bytes_eq}
use Rattle.std.specs.Char.{to_ascii_lowercase}
use Rattle.fs_graph.specs.declared.graph.GraphArc.{GraphArc}
use Rattle.fs_graph.specs.GraphMap.{GraphMap, type_at, arcs_at}
use Rattle.type_hierarchy.specs.Table.{TypeTable, completed_count}
use Rattle.mrs_model.specs.declared.Extent.{Extent}
use Rattle.mrs_model.specs.Meanings.{Property, Variable, Filler, of_var, of_text, Argument, Predication, Constraint, Meaning}
use Rattle.mrs_model.specs.Valid.{Rise}
use Rattle.mrs_places.specs.Paths.{Feature, Sort, Paths}
use Rattle.mrs_places.specs.Looking.{step, below, is_number, Sought, Pair, Parts, Looks}

abbrev pub is_string : TypeTable → ℕ → Bool
is_string types t = not (nat_lt t (completed_count types))

abbrev pub type_name : TypeTable → ℕ → List ℕ
type_name types t = slice_index_or types.names t []

abbrev pub feature_name : Paths → ℕ → List ℕ
feature_name p f = slice_index_or p.feats f []

abbrev pub is_among : List Feature → ℕ → Bool
is_among fs f = list_any (λ s. is_number s.number f) fs

-- Variables

-- the sort of the first line whose type the node is at or below
abbrev pub sort_at : TypeTable → ℕ → List Sort → List ℕ
sort_at types t [] = codes "u"
sort_at types t (s ∷ ss) = if below types t s.ty then s.letters else sort_at types t ss

-- the arcs of a node that properties go along: those whose features aren't skipped
abbrev pub is_open : Paths → GraphArc → Bool
is_open p a = not (is_among p.skip_properties a.feat.0)

abbrev pub open_arcs : GraphMap → Paths → ℕ → List GraphArc
open_arcs g p n = filter (is_open p) (arcs_at g n)

-- the value of a property: the name of a type that isn't a string, at a node without features
pub record IsValueAt (g : GraphMap) (types : TypeTable) (n : ℕ) (value : List ℕ) : Type 0 where
  pub bare : arcs_at g n ≡ []
  pub typed : is_string types (type_at g n) ≡ false
  pub named : value ≡ type_name types (type_at g n)

-- A property is a path from the node to such a value, without skipped features; the node itself is none. Features' names are joined by dots.
pub data IsPropertyAt (g : GraphMap) (types : TypeTable) (p : Paths) : ℕ → List ℕ → List ℕ → Type 0 where
  ends : (n : ℕ) (a : GraphArc) (value : List ℕ) → Contains (open_arcs g p n) a → IsValueAt g types a.to.0 value → IsPropertyAt g types p n (feature_name p a.feat.0) value
  goes_on : (n : ℕ) (a : GraphArc) (name value : List ℕ) → Contains (open_arcs g p n) a → IsPropertyAt g types p a.to.0 name value
      → IsPropertyAt g types p n (feature_name p a.feat.0 ++ 46 ∷ name) value

-- the variable of a node; a handle has no properties
pub record IsVariableAt (g : GraphMap) (types : TypeTable) (p : Paths) (n : ℕ) (v : Variable) : Type 0 where
  pub sort : v.sort ≡ sort_at types (type_at g n) p.sorts
  pub order : Rise (map (λ q. q.name) v.props)
  pub handle : v.sort ≡ codes "h" → v.props ≡ []
  pub props : v.sort ≢ codes "h" → (q : Property) → Contains v.props q ↔ IsPropertyAt g types p n q.name q.value

-- Elementary predications

-- in ASCII lower case, without an ending `_rel` as often as there is one
pub data Normal : List ℕ → List ℕ → Type 0 where
  bare : (text : List ℕ) → ((front : List ℕ) → text ≡ front ++ codes "_rel" → ⊥) → Normal text text
  rel : (front text : List ℕ) → Normal front text → Normal (front ++ codes "_rel") text

-- which features are roles: not those of predicate and label, nor one that is named so, nor the skipped ones
abbrev pub is_role : Paths → ℕ → Bool
is_role p f = not (is_among (p.pred ∷ p.lbl ∷ p.skip_roles) f || bytes_eq (feature_name p f) (codes "lbl"))

abbrev pub role_arcs : GraphMap → Paths → ℕ → List GraphArc
role_arcs g p n = filter (λ a. is_role p a.feat.0) (arcs_at g n)

-- the variable of a node: two nodes that are one are one variable
abbrev pub Is : List ℕ → ℕ → ℕ → Type 0
Is nodes n v = slice_get nodes v ≡ Some n

abbrev pub IsVariableOf : List ℕ → ℕ → Filler → Type 0
IsVariableOf nodes n (of_var v) = Is nodes n v
IsVariableOf nodes n (of_text t) = ⊥

-- a string is a text, any other node a variable
abbrev pub IsFillerOf : List ℕ → Bool → List ℕ → ℕ → Filler → Type 0
IsFillerOf nodes true text n f = f ≡ of_text text
IsFillerOf nodes false text n f = IsVariableOf nodes n f

abbrev pub IsFillerAt : GraphMap → TypeTable → List ℕ → ℕ → Filler → Type 0
IsFillerAt g types nodes n f = IsFillerOf nodes (is_string types (type_at g n)) (type_name types (type_at g n)) n f

pub record IsArgumentAt (g : GraphMap) (types : TypeTable) (p : Paths) (nodes : List ℕ) (a : GraphArc) (x : Argument) : Type 0 where
  pub role : x.role ≡ feature_name p a.feat.0
  pub filler : IsFillerAt g types nodes a.to.0 x.filler

-- the roles of a node: each arc that is one, in byte order of the names
pub record AreRolesAt (g : GraphMap) (types : TypeTable) (p : Paths) (nodes : List ℕ) (n : ℕ) (args : List Argument) : Type 0 where
  pub by_arc : List Argument
  pub each : AllZip (IsArgumentAt g types p nodes) (role_arcs g p n) by_arc
  pub same : IsPermutation by_arc args
  pub order : Rise (map (λ a. a.role) args)

abbrev pub is_digit : ℕ → Bool
is_digit b = nat_lt 47 b && nat_lt b 58

abbrev pub number_after : ℕ → List ℕ → ℕ
number_after n [] = n
number_after n (d ∷ ds) = number_after (10 * n + (d - 48)) ds

-- digits that make a number of 32 bits
pub record IsNumber (text : List ℕ) (n : ℕ) : Type 0 where
  pub filled : 0 < length text
  pub digits : All (λ b. is_digit b ≡ true) text
  pub is : n ≡ number_after 0 text
  pub small : n < 2 ^ 32

-- the number that the string at a node writes, where there is a node
abbrev pub IsNumberAt : GraphMap → TypeTable → Option ℕ → ℕ → Type 0
IsNumberAt g types None n = ⊥
IsNumberAt g types (Some m) n = (is_string types (type_at g m) ≡ true) × IsNumber (type_name types (type_at g m)) n

pub record IsSpanAt (g : GraphMap) (types : TypeTable) (p : Paths) (n : ℕ) (e : Extent) : Type 0 where
  pub from : IsNumberAt g types (step g n p.cfrom) e.from
  pub to : IsNumberAt g types (step g n p.cto) e.to

abbrev pub MaySpanAt : GraphMap → TypeTable → Paths → ℕ → Option Extent → Type 0
MaySpanAt g types p n (Some e) = IsSpanAt g types p n e
MaySpanAt g types p n None = (e : Extent) → IsSpanAt g types p n e → ⊥

pub record IsPredicationAt (g : GraphMap) (types : TypeTable) (p : Paths) (nodes : List ℕ) (at : Pair) (e : Predication) : Type 0 where
  pub pred : Normal (map to_ascii_lowercase (type_name types (type_at g at.one))) e.pred
  pub label : Is nodes at.two e.label
  pub args : AreRolesAt g types p nodes at.at e.args
  pub span : MaySpanAt g types p at.at e.span

-- Constraints

-- named by its type, or by the string type where its type is a string
abbrev pub relation_name : TypeTable → Paths → ℕ → List ℕ
relation_name types p t = if is_string types t then p.string_type else type_name types t

pub record IsConstraintAt (g : GraphMap) (types : TypeTable) (p : Paths) (nodes : List ℕ) (at : Pair) (c : Constraint) : Type 0 where
  pub left : Is nodes at.one c.left
  pub rel : c.rel ≡ relation_name types p (type_at g at.at)
  pub right : Is nodes at.two c.right

-- The whole

-- the nodes that are variables, in order of first occurrence: top, index, label and roles of each predication, arguments of each constraint
abbrev pub role_nodes : GraphMap → TypeTable → Paths → ℕ → List ℕ
role_nodes g types p n = filter (λ m. not (is_string types (type_at g m))) (map (λ a. a.to.0) (role_arcs g p n))

abbrev pub predication_nodes : GraphMap → TypeTable → Paths → Pair → List ℕ
predication_nodes g types p at = at.two ∷ role_nodes g types p at.at

abbrev pub constraint_nodes : Pair → List ℕ
constraint_nodes at = at.one ∷ at.two ∷ []

abbrev pub mentions : GraphMap → TypeTable → Paths → Parts → List ℕ
mentions g types p parts = (parts.top ∷ parts.index ∷ flat_map (predication_nodes g types p) parts.rels) ++ flat_map constraint_nodes parts.hcons ++ flat_map constraint_nodes parts.icons

abbrev pub noted : List ℕ → ℕ → List ℕ
noted nodes n = if list_any (λ m. m == n) nodes then nodes else nodes ++ n ∷ []

abbrev pub all_noted : List ℕ → List ℕ → List ℕ
all_noted nodes [] = nodes
all_noted nodes (n ∷ ns) = all_noted (noted nodes n) ns

abbrev pub variable_nodes : GraphMap → TypeTable → Paths → Parts → List ℕ
variable_nodes g types p parts = all_noted [] (mentions g types p parts)

-- The MRS of these parts.
pub record IsMrsOf (g : GraphMap) (types : TypeTable) (p : Paths) (parts : Parts) (m : Meaning) : Type 0 where
  pub vars : AllZip (IsVariableAt g types p) (variable_nodes g types p parts) m.vars
  pub top : Is (variable_nodes g types p parts) parts.top m.top
  pub index : Is (variable_nodes g types p parts) parts.index m.index
  pub eps : AllZip (IsPredicationAt g types p (variable_nodes g types p parts)) parts.rels m.eps
  pub hcons : AllZip (IsConstraintAt g types p (variable_nodes g types p parts)) parts.hcons m.hcons
  pub icons : AllZip (IsConstraintAt g types p (variable_nodes g types p parts)) parts.icons m.icons

-- the structure has this MRS
pub record HasMrs (g : GraphMap) (types : TypeTable) (p : Paths) (m : Meaning) : Type 0 where
  pub parts : Parts
  pub looks : Looks g types p (Ok parts)
  pub is : IsMrsOf g types p parts m

-- What a structure gives: its MRS, or the path that is missing first.
abbrev pub Extracts : GraphMap → TypeTable → Paths → Sought Meaning → Type 0
Extracts g types p (Ok m) = HasMrs g types p m
Extracts g types p (Err path) = Looks g types p (Err path)
