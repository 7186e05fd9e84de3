-- The environments of a TDL file (DELPH-IN TDL), and what a statement does in one.
use Rattle.std.specs.Prelude.{ℕ, ◌==◌, ◌&&◌, not, Bool, true, false, if◌then◌else◌, List, [], ◌∷◌, Option, None, Some}
use Rattle.tdl_reader.specs.declared.Status.{Status}
use Rattle.tdl_reader.specs.declared.Status.TheVariants.{TypeDef, LexRule, Other}
use Rattle.tdl_reader.specs.Trees.{AffixTree, StatementTree, defines, adds, begins, ends, includes, letters}
use Rattle.grammar_files.specs.Placings.{PlacedTree}
pub use Rattle.grammar_files.specs.Statements.{is_of_types, is_heeded, is_definition, place_of}
use Rattle.grammar_files.specs.declared.environment.Environment.{Environment}

-- outside every environment a definition is one of a type
abbrev pub status_in : Option Environment → Status
status_in None = TypeDef
status_in (Some e) = e.status

-- A lexical rule may have a spelling rule, and so may what is passed over.
abbrev pub takes_affix : Status → Bool
takes_affix LexRule = true
takes_affix Other = true
takes_affix _ = false

-- `:end` ends no environment, or one of the other kind.
abbrev pub ends_wrongly : Option Environment → Bool → Bool
ends_wrongly None instance = true
ends_wrongly (Some e) true = is_of_types e.status
ends_wrongly (Some e) false = not (is_of_types e.status)

abbrev pub is_open : Option Environment → Bool
is_open None = false
is_open (Some e) = true

abbrev pub has_affix : Option AffixTree → Bool
has_affix None = false
has_affix (Some affix) = true

-- The statement breaks a rule of environments: one is begun within another, none is open or one of the other kind is
-- ended, an addendum stands among instances, or a spelling rule stands on anything but a lexical rule.
abbrev pub breaks : Option Environment → StatementTree → Bool
breaks env (begins status at) = is_open env
breaks env (ends instance at) = ends_wrongly env instance
breaks env (adds name at body) = not (is_of_types (status_in env))
breaks env (defines name at affix body) = has_affix affix && not (takes_affix (status_in env))
breaks env _ = false

-- the environment after a statement of the file of this number
abbrev pub environment_after : ℕ → Option Environment → StatementTree → Option Environment
environment_after file env (begins status at) = Some (record { status = status; file = file; at = at })
environment_after file env (ends instance at) = None
environment_after file env _ = env

-- what a statement of the file of this number places under a status: a definition or addendum that is heeded
abbrev pub placed_under : ℕ → Status → StatementTree → List PlacedTree
placed_under file status x = if is_definition x && is_heeded status then record { statement = x; status = status; file = file } ∷ [] else []

abbrev pub placed_by : ℕ → Option Environment → StatementTree → List PlacedTree
placed_by file env x = placed_under file (status_in env) x

abbrev pub is_include : StatementTree → Bool
is_include (includes file at) = true
is_include _ = false

-- where the environment was begun that is open, if the file of this number began it
abbrev pub left_open : ℕ → Option Environment → Option ℕ
left_open file None = None
left_open file (Some e) = if e.file == file then Some e.at else None
