-- The statement that a loop reads, and the number that is found for a name.
use Rattle.std.proofs.Common.{ℕ, ◌≡◌, ◌<◌, List, length, map, get_or, Option, Some, None, option_map, unwrap_or, sym, ◌∙◌, ap}
use Rattle.std.proofs.lemmas.List.{get_or-map}
use Rattle.type_hierarchy.specs.declared.types.Ty.{Ty}
use Rattle.type_hierarchy.specs.Decls.{Name}
use Rattle.type_hierarchy.specs.Table.{TypeTable}
use Rattle.grammar_files.specs.declared.placed.Placed.{Placed}
use Rattle.grammar_files.specs.Placings.{placed_of}
use Rattle.grammar_files.specs.Statements.{no_statement, statement_at}

-- the statement that a loop reads
pub at_placed : (xs : List Placed) (i : ℕ) (x : Placed) → i < length xs → x ≡ get_or xs i x → statement_at (map placed_of xs) i ≡ placed_of x
at_placed xs i x h e = get_or-map placed_of xs i x no_statement h ∙ ap placed_of (sym e)

-- the number that is found for a name
pub number_found : (types : TypeTable) (name : Name) (o : Option Ty) (t none : Ty) (m : Option ℕ) → option_map (λ y. y.0) o ≡ m → t ≡ unwrap_or o none → none.0 ≡ 0 →
    t.0 ≡ unwrap_or m 0
number_found types name None t none m found is zero = ap (λ y. y.0) is ∙ zero ∙ ap (λ k. unwrap_or k 0) found
number_found types name (Some x) t none m found is zero = ap (λ y. y.0) is ∙ ap (λ k. unwrap_or k 0) found
