-- The statements of a grammar by what they define (DELPH-IN TDL).
use Rattle.std.specs.Prelude.{ℕ, ◌&&◌, ◌||◌, ◌≡◌, Bool, true, false, List, [], filter, slice_index_or}
use Rattle.std.specs.Str.{bytes_eq}
use Rattle.tdl_reader.specs.declared.Status.{Status}
use Rattle.tdl_reader.specs.declared.Status.TheVariants.{TypeDef, Entry, LexRule, Rule, Root, Other}
use Rattle.tdl_reader.specs.Trees.{StatementTree, defines, adds, begins, ends, includes, letters, BodyTree, no_terms}
use Rattle.grammar_files.specs.Placings.{PlacedTree}

abbrev pub is_status : Status → Status → Bool
is_status TypeDef TypeDef = true
is_status Entry Entry = true
is_status LexRule LexRule = true
is_status Rule Rule = true
is_status Root Root = true
is_status Other Other = true
is_status _ _ = false

abbrev pub is_of_types : Status → Bool
is_of_types TypeDef = true
is_of_types _ = false

-- an instance of another status is passed over
abbrev pub is_of_instances : Status → Bool
is_of_instances Entry = true
is_of_instances LexRule = true
is_of_instances Rule = true
is_of_instances Root = true
is_of_instances _ = false

-- types, and instances that aren't passed over
abbrev pub is_heeded : Status → Bool
is_heeded Other = false
is_heeded _ = true

abbrev pub is_define : StatementTree → Bool
is_define (defines name at affix body) = true
is_define _ = false

abbrev pub is_addendum : StatementTree → Bool
is_addendum (adds name at body) = true
is_addendum _ = false

abbrev pub is_definition : StatementTree → Bool
is_definition (defines name at affix body) = true
is_definition (adds name at body) = true
is_definition _ = false

-- the place of a statement is that of its first token
abbrev pub place_of : StatementTree → ℕ
place_of (defines name at affix body) = at
place_of (adds name at body) = at
place_of (begins status at) = at
place_of (ends instance at) = at
place_of (includes file at) = at
place_of (letters set at) = at

-- the name and the body of a definition or an addendum
abbrev pub name_written : StatementTree → List ℕ
name_written (defines name at affix body) = name
name_written (adds name at body) = name
name_written _ = []

abbrev pub body_written : StatementTree → BodyTree
body_written (defines name at affix body) = body
body_written (adds name at body) = body
body_written _ = no_terms

abbrev pub name_of : PlacedTree → List ℕ
name_of p = name_written p.statement

abbrev pub body_of : PlacedTree → BodyTree
body_of p = body_written p.statement

-- a definition of a type
abbrev pub defines_type : PlacedTree → Bool
defines_type p = is_define p.statement && is_of_types p.status

-- an addendum to a type
abbrev pub adds_to_type : PlacedTree → Bool
adds_to_type p = is_addendum p.statement && is_of_types p.status

-- a definition of an entry, a lexical rule, a rule or a root
abbrev pub defines_instance : PlacedTree → Bool
defines_instance p = is_define p.statement && is_of_instances p.status

-- a definition of a type, or an addendum to one
abbrev pub speaks_of_type : PlacedTree → Bool
speaks_of_type p = defines_type p || adds_to_type p

-- an addendum to the type of this name
abbrev pub adds_to : List ℕ → PlacedTree → Bool
adds_to name p = adds_to_type p && bytes_eq name (name_of p)

abbrev pub type_definitions : List PlacedTree → List PlacedTree
type_definitions ps = filter defines_type ps

abbrev pub addenda_to : List ℕ → List PlacedTree → List PlacedTree
addenda_to name ps = filter (adds_to name) ps

-- the instances in order of place
abbrev pub instances_in : List PlacedTree → List PlacedTree
instances_in ps = filter defines_instance ps

-- the statement at a place in the order of writing
abbrev pub no_statement : PlacedTree
no_statement = record { statement = ends false 0; status = Other; file = 0 }

abbrev pub statement_at : List PlacedTree → ℕ → PlacedTree
statement_at ps k = slice_index_or ps k no_statement

-- a statement that defines nothing and adds to nothing
pub record DefinesNothing (p : PlacedTree) : Type 0 where
  pub of_no_type : speaks_of_type p ≡ false
  pub of_no_instance : defines_instance p ≡ false
  pub no_body : body_of p ≡ no_terms
