-- What the structures of definitions are the closures of speaks of types and features that are there.
use Rattle.std.proofs.Common.{◌≡◌, ◌<◌, ◌≤◌, ◌||◌, Bool, true, false, ℕ, List, [], length, if◌then◌else◌}
use Rattle.std.proofs.lemmas.List.Elements.{All-nil}
use Rattle.fs_model.specs.Claims.{below}
use Rattle.type_hierarchy.specs.Decls.{Name}
use Rattle.type_hierarchy.specs.Table.{count_of, completed_count}
use Rattle.fs_unify.specs.Rules.{Grammar, IsClaimIn}
use Rattle.body_facts.specs.Numbers.{type_number}
use Rattle.grammar_files.specs.Placings.{PlacedTree}
use Rattle.constraint_expand.specs.Statements.{name_of, statement_at, defines_type, defines_instance}
use Rattle.constraint_expand.specs.Conditions.{AreTypesFor}
use Rattle.constraint_expand.specs.Systems.{Settled, IsSystemOf, constraint_claims, instance_claims, words_of}
use Rattle.constraint_expand.specs.Faults.{claims_of_definition}
use Rattle.constraint_expand.specs.Shaped.{HaveClaimsIn}
use Rattle.constraint_expand.proofs.RangeLemmas.{each_one}
use Rattle.constraint_expand.proofs.SplitLemmas.{number_in}
use Rattle.constraint_expand.proofs.BookLemmas.{all_in_range}

pub claims_in : (s : Settled) (ps : List PlacedTree) (feats : List Name) (g : Grammar) → AreTypesFor g.types ps → IsSystemOf g.types s ps feats g →
    completed_count g.types ≤ count_of g.types → (k : ℕ) → k < length ps → (defines_type (statement_at ps k) || defines_instance (statement_at ps k)) ≡ true →
    HaveClaimsIn g (claims_of_definition g s feats (statement_at ps k))
claims_in s ps feats g types_for sys le k lt defined = go (defines_type (statement_at ps k)) defined
  where
    go : (b : Bool) → (b || defines_instance (statement_at ps k)) ≡ true →
        HaveClaimsIn g (if b then constraint_claims (type_number g.types (name_of (statement_at ps k))) else instance_claims (words_of g.types s.lists feats) (statement_at ps k))
    go true d =
        each_one (IsClaimIn (count_of g.types) (length g.introducers)) (below [] (type_number g.types (name_of (statement_at ps k))))
        (All-nil _, number_in g.types (name_of (statement_at ps k)) types_for.top_is_there le)
    go false d = all_in_range g.types s ps feats g types_for sys le k lt d
