-- What the parts of the program see.
use Rattle.std.specs.Prelude.{ℕ, String, Option, None}
use Rattle.std.specs.Global.{Global}
use Rattle.type_hierarchy.specs.Decls.{texts}
use Rattle.type_hierarchy.specs.Table.{TypeTable}
use Rattle.fs_model.specs.Claims.{IsBare}
use Rattle.fs_model.specs.Sources.{Told}
use Rattle.fs_unify.specs.Rules.{system_of}
use Rattle.fs_unify.specs.Given.{facts_source}
use Rattle.fs_unify.specs.Limits.{IsUnifiedWithin}
use Rattle.forced_types.specs.Verdicts.{Verdict}
use Rattle.forced_types.specs.Limits.{IsVerdictWithin}
use Rattle.grammar_files.specs.declared.expand_fault.ExpandFault.TheVariants.{NoStructure}
use Rattle.constraint_expand.specs.declared.definitions.Typed.{Typed}
use Rattle.constraint_expand.specs.Statements.{statement_at}
use Rattle.constraint_expand.specs.Conditions.{AreTypesFor}
use Rattle.constraint_expand.specs.Systems.{Settled, IsSystemOf}
use Rattle.constraint_expand.specs.Faults.{IsFaultOf, claims_of_definition}
use Rattle.grammar_files.specs.Walks.{WalkedTree}
use Rattle.grammar_types.specs.Typings.{AreTypesOf}

-- the type system of what was walked
pub record IsTypedBy (w : WalkedTree) (s : Settled) (t : Typed) : Type 0 where
  pub types : TypeTable
  pub typed : AreTypesOf w types
  pub types_for : AreTypesFor types w.statements
  pub system : IsSystemOf types s w.statements (texts t.feats.items) t.system
  pub bare : IsBare (system_of t.system)

-- the verdict, within the limit on paths, on what the structure of a definition is the closure of
abbrev pub IsVerdictAt : WalkedTree → Settled → Typed → ℕ → Option Verdict → Type 0
IsVerdictAt w s t k v =
    IsVerdictWithin (system_of t.system) (Told (facts_source (claims_of_definition t.system s (texts t.feats.items) (statement_at w.statements k)))) s.node_limit v

-- it has none within the limit on paths
abbrev pub IsLackAt : WalkedTree → Settled → Typed → ℕ → Type 0
IsLackAt w s t k = IsUnifiedWithin (system_of t.system) s.node_limit (facts_source (claims_of_definition t.system s (texts t.feats.items) (statement_at w.statements k))) None

-- The first fault of these statements is that the definition at this place has no structure.
pub record IsNoStructureAt (w : WalkedTree) (s : Settled) (types : TypeTable) (k : ℕ) : Type 0 where
  pub name : String Global
  pub fault : IsFaultOf types s w.statements (NoStructure name k)

-- Some definition has none.
pub record LacksStructure (w : WalkedTree) (s : Settled) (types : TypeTable) : Type 0 where
  pub place : ℕ
  pub lacks : IsNoStructureAt w s types place
