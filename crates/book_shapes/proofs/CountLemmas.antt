-- The daughters of rules.
use Rattle.std.proofs.Common.{ℕ, ◌≡◌, Bool, true, false, List, length, Option, sym, ◌∙◌, subst}
use Rattle.std.specs.Prelude.{◌↔◌, IsTrue}
use Rattle.tdl_reader.specs.declared.Status.{Status}
use Rattle.type_hierarchy.specs.Table.{TypeTable}
use Rattle.fs_graph.specs.GraphMap.{GraphMap}
use Rattle.closed_lists.specs.Names.{ListTree}
use Rattle.closed_lists.specs.Lists.{HasList}
use Rattle.closed_lists.proofs.ListLemmas.{list_one}
use Rattle.book_shapes.specs.Daughters.{is_rule, MayHave, HasDaughters, of_rule, no_rule}

clash : {A : Type 0} (b : Bool) → b ≡ true → b ≡ false → A
clash b t f = let e : true ≡ false = sym t ∙ f in cc

-- a rule's daughters are those of its list
pub daughters_there : (types : TypeTable) (names : ListTree) (args : List (Option ℕ)) (s : Status) (g : GraphMap) (es : List ℕ) → is_rule s ≡ true → HasList types names g args es → HasDaughters types names args s g → MayHave s (length es)
daughters_there types names args s g es r l (of_rule other k m) = subst (λ x. MayHave s (length x)) (list_one types names g args other es k l) m
daughters_there types names args s g es r l (no_rule n) = clash (is_rule s) r n

pub daughters_none : (types : TypeTable) (names : ListTree) (args : List (Option ℕ)) (s : Status) (g : GraphMap) → is_rule s ≡ true → ((es : List ℕ) → HasList types names g args es → ⊥) → HasDaughters types names args s g → ⊥
daughters_none types names args s g r none (of_rule es k m) = none es k
daughters_none types names args s g r none (no_rule n) = clash (is_rule s) r n

pub no_daughters : (types : TypeTable) (names : ListTree) (args : List (Option ℕ)) (s : Status) (g : GraphMap) → is_rule s ≡ true → ((es : List ℕ) → HasList types names g args es → ⊥) → IsTrue false ↔ HasDaughters types names args s g
no_daughters types names args s g r none = (λ t. absurd (let e : false ≡ true = t in cc), λ h. absurd (daughters_none types names args s g r none h))

pub daughters_many : (types : TypeTable) (names : ListTree) (args : List (Option ℕ)) (s : Status) (g : GraphMap) (es : List ℕ) (n : ℕ) (b : Bool) → is_rule s ≡ true → HasList types names g args es → length es ≡ n → IsTrue b ↔ MayHave s n
    → IsTrue b ↔ HasDaughters types names args s g
daughters_many types names args s g es n b r l e m =
    (λ t. of_rule es l (subst (MayHave s) (sym e) (m.0 t)), λ h. m.1 (subst (MayHave s) e (daughters_there types names args s g es r l h)))
