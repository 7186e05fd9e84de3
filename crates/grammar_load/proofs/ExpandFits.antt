-- The completed types of what was walked are fit for the expansion of its statements, and a fault of that stands at one of them.
use Rattle.std.proofs.Common.{ℕ, ◌≡◌, ◌<◌, ◌||◌, true, List, length, filter, sym, ◌∙◌, ap, subst, refl}
use Rattle.std.specs.List.{flat_map}
use Rattle.fs_model.specs.Claims.{Has}
use Rattle.type_hierarchy.specs.Table.{TypeTable}
use Rattle.grammar_files.specs.declared.expand_fault.ExpandFault.{ExpandFault}
use Rattle.grammar_files.specs.declared.expand_fault.ExpandFault.TheVariants.{UnknownName, NoIntro, Intro, NoStructure, NoMemory}
use Rattle.constraint_expand.specs.Conditions.{AreTypesFor}
use Rattle.constraint_expand.specs.Faults.{IsFaultOf}
use Rattle.grammar_files.specs.Placings.{PlacedTree}
use Rattle.constraint_expand.specs.Statements.{body_of, speaks_of_type, defines_instance, IsFirst, first_of_types, first_of_instances}
use Rattle.constraint_expand.specs.Systems.{Settled}
use Rattle.grammar_files.specs.BodyStrings.{strings_of_body}
use Rattle.grammar_load.specs.Expanding.{stands_at}
use Rattle.grammar_settings.specs.Forms.{Name}
use Rattle.grammar_types.specs.Typings.{is_heeded, statement_at, no_statement, body_written, strings_in, AreTypesOf}
use Rattle.grammar_files.specs.Walks.{WalkedTree}
use Rattle.grammar_load.proofs.ExpandLists.{is_heeded_so, has_at, has_filter, has_flat_map, has_once}
use Rattle.grammar_load.proofs.ExpandTypes.{fits}

-- a string of a body that is heeded is one of all strings
string_there : (ps : List PlacedTree) (k : ℕ) (s : Name) → k < length ps → (speaks_of_type (statement_at ps k) || defines_instance (statement_at ps k)) ≡ true →
    Has s (strings_of_body (body_of (statement_at ps k))) → Has s (strings_in ps)
string_there ps k s l e h =
    has_once s (flat_map (λ p. strings_of_body (body_written p.statement)) (filter (λ p. is_heeded p.status) ps))
    (has_flat_map (λ p. strings_of_body (body_written p.statement)) s (statement_at ps k) (filter (λ p. is_heeded p.status) ps)
    (has_filter (λ p. is_heeded p.status) (statement_at ps k) ps (has_at ps k no_statement l) (is_heeded_so (statement_at ps k) e)) h)

pub fit_types : (w : WalkedTree) (t : TypeTable) → AreTypesOf w t → AreTypesFor t w.statements
fit_types w t (h, is, c) =
    subst (λ u. AreTypesFor u w.statements) (sym c.table_is)
    (fits w.settings.top_type w.settings.string_type w.statements h c.added (strings_in w.statements) is.faultless is.hierarchy is.rising c.family (string_there w.statements))

first_within : (ps : List PlacedTree) (P : PlacedTree → Type 0) (k : ℕ) → IsFirst ps P k → k < length ps
first_within ps P k (first_of_types f) = f.within
first_within ps P k (first_of_instances none f) = f.within

pub fault_within : (types : TypeTable) (s : Settled) (ps : List PlacedTree) (e : ExpandFault) → IsFaultOf types s ps e → (e ≡ NoMemory → ⊥) → stands_at e < length ps
fault_within types s ps (UnknownName name at k) is own = first_within ps _ k is.first
fault_within types s ps (NoIntro feature at k) is own = first_within ps _ k is.1.first
fault_within types s ps (Intro feature a b k) is own = is.2.stands.within
fault_within types s ps (NoStructure name k) is own = first_within ps _ k is.1.first
fault_within types s ps NoMemory is own = absurd (own refl)
