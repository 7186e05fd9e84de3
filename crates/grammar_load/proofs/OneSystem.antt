-- The statements of a grammar have one type system.
use Rattle.std.proofs.Common.{ℕ, ◌≡◌, List, sym, ◌∙◌, ap, subst}
use Rattle.std.specs.List.{AllZip}
use Rattle.type_hierarchy.specs.Decls.{Name}
use Rattle.type_hierarchy.specs.Laws.{HasTypeLaws}
use Rattle.type_hierarchy.specs.Table.{TypeTable, table_of}
use Rattle.type_hierarchy.proofs.FamilyLemmas.{completed_order, completed_closed}
use Rattle.type_hierarchy.proofs.LawLemmas.{type_laws}
use Rattle.fs_unify.specs.Rules.{Rule, Grammar}
use Rattle.body_facts.specs.Writing.{ListNames}
use Rattle.constraint_expand.specs.Features.{AreFeatures, writers_of}
use Rattle.constraint_expand.specs.Introducers.{IsIntroducer}
use Rattle.grammar_files.specs.Placings.{PlacedTree}
use Rattle.constraint_expand.specs.Systems.{Settled, IsSystemOf, rules_in, words_of}
use Rattle.grammar_types.specs.Typings.{AreTypesOf, strings_in}
use Rattle.grammar_files.specs.Walks.{WalkedTree}
use Rattle.grammar_load.proofs.Members.{zip-one}
use Rattle.grammar_load.proofs.RisingNames.{one-rising}

-- the laws of the completed types of what was walked
pub tree-laws : (w : WalkedTree) (t : TypeTable) → AreTypesOf w t → HasTypeLaws t
tree-laws w t a =
    let c = a.2 in
    let order = completed_order a.0 a.1.rising c.added (strings_in w.statements) c.family in
    let closed = completed_closed a.0 a.1.rising c.added (strings_in w.statements) c.family in
    subst HasTypeLaws (sym c.table_is) (type_laws (table_of a.0 c.added (strings_in w.statements)) order closed)

pub one-features : (n : ListNames) (ps : List PlacedTree) (f g : List Name) → AreFeatures n ps f → AreFeatures n ps g → f ≡ g
one-features n ps f g a b = one-rising f g a.in_order a.once b.in_order b.once (λ z h. b.all z (a.used z h)) (λ z h. a.all z (b.used z h))

one-introducer : (types : TypeTable) → HasTypeLaws types → (writers : List ℕ) (t u : ℕ) → IsIntroducer types writers t → IsIntroducer types writers u → t ≡ u
one-introducer types laws writers t u a b = laws.antisymmetric t u (b.above t a.writes) (a.above u b.writes)

abbrev made : TypeTable → List ℕ → List Rule → ℕ → Grammar
made types introducers rules limit = record { types = types; introducers = introducers; rules = rules; path_limit = limit }

same-grammars : (g h : Grammar) → g.types ≡ h.types → g.introducers ≡ h.introducers → g.rules ≡ h.rules → g.path_limit ≡ h.path_limit → g ≡ h
same-grammars g h a b c d =
    ap (λ t. made t g.introducers g.rules g.path_limit) a ∙ ap (λ i. made h.types i g.rules g.path_limit) b ∙ ap (λ r. made h.types h.introducers r g.path_limit) c
    ∙ ap (λ l. made h.types h.introducers h.rules l) d

-- a feature's introducer
abbrev introduced : TypeTable → Settled → List PlacedTree → Name → ℕ → Type 0
introduced types s ps n t = IsIntroducer types (writers_of types s.lists ps n) t

pub one-system : (types : TypeTable) (s : Settled) (ps : List PlacedTree) → HasTypeLaws types → (f k : List Name) (g h : Grammar) → IsSystemOf types s ps f g → IsSystemOf types s ps k h → (f ≡ k) × (g ≡ h)
one-system types s ps laws f k g h a b = (feats, same-grammars g h (a.types_are ∙ sym b.types_are) introducers rules (a.limit ∙ sym b.limit))
  where
    feats : f ≡ k
    feats = one-features s.lists ps f k a.features b.features

    introducers : g.introducers ≡ h.introducers
    introducers =
        zip-one (introduced types s ps) (λ n t u x y. one-introducer types laws (writers_of types s.lists ps n) t u x y) k g.introducers h.introducers
        (subst (λ l. AllZip (introduced types s ps) l g.introducers) feats a.introducers) b.introducers

    rules : g.rules ≡ h.rules
    rules = a.rules ∙ ap (λ l. rules_in (words_of types s.lists l) ps) feats ∙ sym b.rules
