-- What is told of a fault beyond its place: the two types that clash in a definition, and the path that was looked at for daughters or words.
use Rattle.std.specs.Prelude.{ℕ, ◌≡◌, ◌<◌, ◌||◌, Bool, true, false, List, [], ◌∷◌, ◌++◌, map, flat_map, length, codes, Option, Some, None, Ok}
use Rattle.std.specs.Char.{to_ascii_uppercase}
use Rattle.type_hierarchy.specs.Table.{TypeTable}
use Rattle.fs_model.specs.Claims.{Path}
use Rattle.fs_model.specs.Sources.{Told}
use Rattle.fs_graph.specs.Text.{path_text, type_text}
use Rattle.fs_unify.specs.Rules.{Grammar, system_of}
use Rattle.fs_unify.specs.Given.{facts_source}
use Rattle.fs_unify.specs.Limits.{IsUnifiedWithin}
use Rattle.forced_types.specs.Verdicts.{Verdict, Fits, Clash, TooLong}
use Rattle.forced_types.specs.Limits.{IsVerdictWithin}
use Rattle.grammar_files.specs.declared.expand_fault.ExpandFault.{ExpandFault}
use Rattle.grammar_files.specs.declared.expand_fault.ExpandFault.TheVariants.{NoStructure}
use Rattle.constraint_expand.specs.Statements.{statement_at, defines_type, defines_instance}
use Rattle.constraint_expand.specs.Systems.{IsSystemOf}
use Rattle.constraint_expand.specs.Faults.{claims_of_definition}
use Rattle.grammar_settings.specs.Forms.{Name}
use Rattle.grammar_files.specs.declared.fault.Why.{Why}
use Rattle.grammar_files.specs.declared.fault.Why.TheVariants.{Expand, Arity, Orthography}
use Rattle.grammar_files.specs.Walks.{Files, WalkedTree, WalksTo}
use Rattle.grammar_types.specs.Typings.{AreTypesOf}
use Rattle.grammar_load.specs.Expanding.{names_by}
use Rattle.fault_places.specs.Places.{set_in}

-- where the shelf fails at no name
abbrev pub never : Name → Bool
never name = false

-- a path by the names of its features, in ASCII upper case: a dot before each, and a dot for the root
abbrev pub names_path : List Name → List ℕ
names_path [] = 46 ∷ []
names_path (f ∷ p) = flat_map (λ n. 46 ∷ map to_ascii_uppercase n) (f ∷ p)

-- `.PATH TYPE TYPE: no common subtype`
abbrev pub clash_text : TypeTable → List Name → Path → (t u : ℕ) → List ℕ
clash_text types feats p t u = path_text feats p ++ (32 ∷ (type_text types t ++ (32 ∷ (type_text types u ++ codes ": no common subtype"))))

-- that, or `.PATH too-long`; or `. too-large`, where all goes together and no path is too long, so that there are too many
abbrev pub verdict_text : TypeTable → List Name → Verdict → List ℕ
verdict_text types feats Fits = codes ". too-large"
verdict_text types feats (Clash p t u) = clash_text types feats p t u
verdict_text types feats (TooLong p) = path_text feats p ++ codes " too-long"

-- `. too-large` too, where more paths are forced than the limit allows: then what clashes isn't looked for
abbrev pub told_text : TypeTable → List Name → Option Verdict → List ℕ
told_text types feats None = codes ". too-large"
told_text types feats (Some v) = verdict_text types feats v

-- The definition at this place among the statements has no structure, and this line says why: by the verdict, within the limit on paths, on what
-- its structure would be the closure of, in the type system of the statements.
pub record IsClashLine (w : WalkedTree) (k : ℕ) (line : List ℕ) : Type 0 where
  pub there : k < length w.statements
  pub defines : (defines_type (statement_at w.statements k) || defines_instance (statement_at w.statements k)) ≡ true
  pub types : TypeTable
  pub typed : AreTypesOf w types
  pub feats : List Name
  pub system : Grammar
  pub system_is : IsSystemOf types (names_by w.settings) w.statements feats system
  pub verdict : Option Verdict
  pub verdict_is : IsVerdictWithin (system_of system) (Told (facts_source (claims_of_definition system (names_by w.settings) feats (statement_at w.statements k))))
      (names_by w.settings).node_limit verdict
  pub lacks : IsUnifiedWithin (system_of system) (names_by w.settings).node_limit (facts_source (claims_of_definition system (names_by w.settings) feats (statement_at w.statements k))) None
  pub line_is : line ≡ told_text types feats verdict

-- what is told of a fault of expansion
abbrev pub IsExpansionLine : WalkedTree → ExpandFault → List ℕ → Type 0
IsExpansionLine w (NoStructure name k) line = IsClashLine w k line
IsExpansionLine w fault line = ⊥

-- The line that is told of a fault of this cause, where this was read.
abbrev pub IsFurtherLine : WalkedTree → Why → List ℕ → Type 0
IsFurtherLine w Arity line = line ≡ names_path w.settings.args_path
IsFurtherLine w Orthography line = line ≡ names_path w.settings.orth_path
IsFurtherLine w (Expand fault) line = IsExpansionLine w fault line
IsFurtherLine w why line = ⊥

-- a fault of expansion of which there is more to tell
abbrev pub is_clash : ExpandFault → Bool
is_clash (NoStructure name k) = true
is_clash fault = false

-- a cause of which there is more to tell
abbrev pub has_further : Why → Bool
has_further Arity = true
has_further Orthography = true
has_further (Expand fault) = is_clash fault
has_further why = false

-- What is told of a fault of this cause beyond its place, as the files of this name say, under the settings of the file of that name.
pub data IsFurther (files : Files) (name : Name) (settings : Option Name) (why : Why) : List ℕ → Type 0 where
  no_more : has_further why ≡ false → IsFurther files name settings why []
  one_line : (w : WalkedTree) (line : List ℕ) → WalksTo files never name settings (Ok w) → IsFurtherLine w why line → IsFurther files name settings why (set_in line)
