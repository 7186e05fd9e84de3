-- Writers that are noted.
use Rattle.std.proofs.Common.{ℕ, ◌≡◌, cond, List, [], ◌∷◌, map, filter, Option, Some, None, option_map, unwrap_or, Result, Ok, Err, OnOk, ◌∙◌, ap}
use Rattle.std.specs.List.{flat_map}
use Rattle.std.proofs.lemmas.List.Concat.{flat_map_single}
use Rattle.type_hierarchy.specs.declared.types.Ty.{Ty}
use Rattle.type_hierarchy.specs.Decls.{Name}
use Rattle.type_hierarchy.specs.Table.{TypeTable}
use Rattle.body_facts.specs.declared.brackets.Use.{Use}
use Rattle.body_facts.specs.Writing.{ListNames}
use Rattle.body_facts.specs.BracketUses.{Used, used_of}
use Rattle.grammar_files.specs.declared.placed.Placed.{Placed}
use Rattle.grammar_files.specs.Placings.{placed_of}
pub use Rattle.type_facts.proofs.Numbered.{number_found}
use Rattle.constraint_expand.specs.Statements.{speaks_of_type}
use Rattle.constraint_expand.specs.Features.{is_writing, writings_in, writers_of}
use Rattle.constraint_expand.specs.Found.{writings_by}
use Rattle.type_facts.proofs.ListLemmas.{flat_map-map, flat_map-if}

pub on_ok : {T E P Q : Type 0} (r : Result T E) → (P → Q) → OnOk r P → OnOk r Q
on_ok (Ok x) f h = f h
on_ok (Err e) f h = h

-- the writings of the uses of a body
pub writings_flat : (f : Name) (t : ℕ) (uses : List Use) (all : List Used) → map used_of uses ≡ all →
    flat_map (λ u. cond (is_writing f (used_of u)) (t ∷ []) []) uses ≡ map (λ u. t) (filter (is_writing f) all)
writings_flat f t uses all e =
    flat_map-map (λ u. cond (is_writing f u) (t ∷ []) []) used_of uses
    ∙ flat_map-if (is_writing f) (λ u. t ∷ []) (map used_of uses)
    ∙ flat_map_single (λ (u : Used). t) (filter (is_writing f) (map used_of uses))
    ∙ ap (λ l. map (λ u. t) (filter (is_writing f) l)) e

-- those of all statements of types
pub writers_flat : (types : TypeTable) (n : ListNames) (f : Name) (xs : List Placed) →
    flat_map (λ p. writings_by types n f (placed_of p)) xs ≡ writers_of types n (map placed_of xs) f
writers_flat types n f xs =
    flat_map-map (writings_by types n f) placed_of xs ∙ flat_map-if speaks_of_type (writings_in types n f) (map placed_of xs)
