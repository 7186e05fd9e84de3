-- What statements define, as `specs/Statements` of `grammar_files` has it, and the first of them of which something holds.
use Rattle.std.specs.Prelude.{ℕ, ◌<◌, ◌≡◌, Bool, true, List, length}
use Rattle.grammar_files.specs.Placings.{PlacedTree}
pub use Rattle.grammar_files.specs.Statements.{is_of_types, is_of_instances, is_define, is_addendum, place_of, name_written, body_written, name_of, body_of, defines_type, adds_to_type, defines_instance, speaks_of_type, adds_to, type_definitions, addenda_to, instances_in, no_statement, statement_at}

-- a statement of which P holds and that a test picks, the first of these in the order of writing
pub record IsFirstAmong (test : PlacedTree → Bool) (ps : List PlacedTree) (P : PlacedTree → Type 0) (k : ℕ) : Type 0 where
  pub within : k < length ps
  pub picked : test (statement_at ps k) ≡ true
  pub holds : P (statement_at ps k)
  pub none_before : (j : ℕ) → j < k → test (statement_at ps j) ≡ true → P (statement_at ps j) → ⊥

-- P holds of no statement that a test picks
abbrev pub HoldsOfNone : (PlacedTree → Bool) → List PlacedTree → (PlacedTree → Type 0) → Type 0
HoldsOfNone test ps P = (k : ℕ) → k < length ps → test (statement_at ps k) ≡ true → P (statement_at ps k) → ⊥

-- the first statement of which P holds, where those of types come before those of instances
pub data IsFirst (ps : List PlacedTree) (P : PlacedTree → Type 0) (k : ℕ) : Type 0 where
  first_of_types : IsFirstAmong speaks_of_type ps P k → IsFirst ps P k
  first_of_instances : HoldsOfNone speaks_of_type ps P → IsFirstAmong defines_instance ps P k → IsFirst ps P k

-- P holds of no statement, of types or instances
pub record IsNowhere (ps : List PlacedTree) (P : PlacedTree → Type 0) : Type 0 where
  pub of_types : HoldsOfNone speaks_of_type ps P
  pub of_instances : HoldsOfNone defines_instance ps P
