-- A definition that has no structure is one.
use Rattle.std.proofs.Common.{ℕ, ◌≡◌, ◌<◌, ◌⊎◌, inl, inr, ◌&&◌, ◌||◌, Bool, true, false, List, length, refl, ap}
use Rattle.type_hierarchy.specs.Table.{TypeTable}
use Rattle.tdl_reader.specs.Trees.{StatementTree, defines, adds, begins, ends, includes, letters}
use Rattle.grammar_files.specs.Placings.{PlacedTree}
use Rattle.grammar_files.specs.Statements.{is_define, is_addendum, is_of_types}
use Rattle.constraint_expand.specs.Statements.{statement_at, defines_type, defines_instance, speaks_of_type, IsFirst, first_of_types, first_of_instances}
use Rattle.constraint_expand.specs.Systems.{Settled}
use Rattle.constraint_expand.specs.Faults.{HasNoStructure}
use Rattle.grammar_files.specs.Walks.{WalkedTree}
use Rattle.fault_details.specs.Inner.{IsNoStructureAt}

or-right : (a b : Bool) → b ≡ true → (a || b) ≡ true
or-right true b e = refl
or-right false b e = e

or-left : (a b : Bool) → a ≡ true → (a || b) ≡ true
or-left true b e = refl
or-left false b e = absurd cc

-- of two the first, where the second isn't so
first-of : (a b : Bool) → b ≡ false → (a || b) ≡ true → a ≡ true
first-of true b n e = refl
first-of false true n e = absurd cc
first-of false false n e = absurd cc

no-addendum : (x : StatementTree) → is_define x ≡ true → is_addendum x ≡ false
no-addendum (defines name at affix body) e = refl
no-addendum (adds name at body) e = absurd cc
no-addendum (begins status at) e = absurd cc
no-addendum (ends instance at) e = absurd cc
no-addendum (includes file at) e = absurd cc
no-addendum (letters set at) e = absurd cc

defines-some : (p : PlacedTree) → is_define p.statement ≡ true → (speaks_of_type p ≡ true) ⊎ (defines_instance p ≡ true) → (defines_type p || defines_instance p) ≡ true
defines-some p d (inl h) =
    let none : (is_addendum p.statement && is_of_types p.status) ≡ false = ap (λ b. b && is_of_types p.status) (no-addendum p.statement d) in
    or-left (defines_type p) (defines_instance p) (first-of (defines_type p) (is_addendum p.statement && is_of_types p.status) none h)
defines-some p d (inr h) = or-right (defines_type p) (defines_instance p) h

-- what is known of the first of statements of which P holds
pub record IsMet (ps : List PlacedTree) (P : PlacedTree → Type 0) (k : ℕ) : Type 0 where
  pub within : k < length ps
  pub heeded : (speaks_of_type (statement_at ps k) ≡ true) ⊎ (defines_instance (statement_at ps k) ≡ true)
  pub holds : P (statement_at ps k)

pub first-met : (ps : List PlacedTree) (P : PlacedTree → Type 0) (k : ℕ) → IsFirst ps P k → IsMet ps P k
first-met ps P k (first_of_types a) = record { within = a.within; heeded = inl a.picked; holds = a.holds }
first-met ps P k (first_of_instances none a) = record { within = a.within; heeded = inr a.picked; holds = a.holds }

module _ (w : WalkedTree) (s : Settled) (types : TypeTable) (k : ℕ) (h : IsNoStructureAt w s types k) where
  met : IsMet w.statements (HasNoStructure h.fault.1.system s h.fault.1.feats) k
  met = first-met w.statements (HasNoStructure h.fault.1.system s h.fault.1.feats) k h.fault.1.first

  pub there : k < length w.statements
  there = met.within

  pub defined : (defines_type (statement_at w.statements k) || defines_instance (statement_at w.statements k)) ≡ true
  defined = defines-some (statement_at w.statements k) met.holds.0 met.heeded
