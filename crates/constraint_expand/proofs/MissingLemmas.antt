-- The faults of features that no type writes.
use Rattle.std.proofs.Common.{ℕ, ◌≡◌, ◌<◌, ◌≤◌, ◌+◌, ◌⊎◌, inl, inr, ◌↔◌, Bool, true, false, IsTrue, List, length, Option, Some, None, MatchOption, Result, Ok, Err, IfErr, IsErrAnd, String, Vec, sym, ◌∙◌, ap, subst, arith}
use Rattle.std.specs.Global.{Global}
use Rattle.std.specs.String.{string_bytes}
use Rattle.std.proofs.lemmas.Bool.{cases_lt, cases_order}
use Rattle.fs_model.specs.Claims.{Has}
use Rattle.type_hierarchy.specs.declared.types.Ty.{Ty}
use Rattle.type_hierarchy.specs.Decls.{Name}
use Rattle.type_hierarchy.specs.Table.{TypeTable}
use Rattle.body_facts.specs.Writing.{ListNames}
use Rattle.body_facts.specs.BracketUses.{Used}
use Rattle.constraint_expand.specs.declared.kinds.Kind.{Kind}
use Rattle.constraint_expand.specs.declared.kinds.Kind.TheVariants.{Types, Instances}
use Rattle.grammar_files.specs.declared.expand_fault.ExpandFault.{ExpandFault}
use Rattle.grammar_files.specs.declared.expand_fault.ExpandFault.TheVariants.{UnknownName, NoIntro, Intro, NoStructure, NoMemory}
use Rattle.grammar_files.specs.Placings.{PlacedTree}
use Rattle.constraint_expand.specs.Statements.{statement_at, HoldsOfNone, first_of_types, first_of_instances}
use Rattle.constraint_expand.specs.Kinds.{picks}
use Rattle.constraint_expand.specs.Systems.{Settled}
use Rattle.constraint_expand.specs.Features.{uses_in, writers_of}
use Rattle.constraint_expand.specs.Faults.{IsUnwritten, UsesUnwritten, no_use, use_at, IsFirstUse, NamesFirstUse, AreWritten}
use Rattle.constraint_expand.specs.Found.{HasNoneBefore, numbers_noted, HasNoWriter, UsesWithout, IsWithoutHere, IsWithoutAmong, IsUnwrittenFault}
use Rattle.type_facts.proofs.ListLemmas.{true_not_false, Has-at, Has-place}
use Rattle.constraint_expand.proofs.FirstLemmas.{first_here, first_moved, none_moved}

-- The best of the uses so far, if there is one: none before has P where there is none.
abbrev pub IsBestUse : List Used → (Used → Type 0) → ℕ → ℕ → Type 0
IsBestUse uses P i b =
    (b < length uses) × P (use_at uses b)
    × ((j : ℕ) → j < i → P (use_at uses j) → ((use_at uses b).at < (use_at uses j).at) ⊎ (((use_at uses b).at ≡ (use_at uses j).at) × (b ≤ j)))

abbrev pub HasNoUse : List Used → (Used → Type 0) → ℕ → Type 0
HasNoUse uses P i = (j : ℕ) → j < i → P (use_at uses j) → ⊥

-- a use that isn't better
pub best_passed : (uses : List Used) (P : Used → Type 0) (i b : ℕ) → b < i → IsBestUse uses P i b →
    (P (use_at uses i) → (use_at uses b).at ≤ (use_at uses i).at) → IsBestUse uses P (i + 1) b
best_passed uses P i b lt (within, holds, least) passes = (within, holds, λ j h p. go j h p (cases_lt j i))
  where
    go : (j : ℕ) → j < i + 1 → P (use_at uses j) → (j < i) ⊎ (i ≤ j) → ((use_at uses b).at < (use_at uses j).at) ⊎ (((use_at uses b).at ≡ (use_at uses j).at) × (b ≤ j))
    go j h p (inl a) = least j a p
    go j h p (inr a) =
        let same : j ≡ i = omega arith in
        let le = passes (subst (λ k. P (use_at uses k)) same p) in
        let le' : (use_at uses b).at ≤ (use_at uses j).at = subst (λ k. (use_at uses b).at ≤ (use_at uses k).at) (sym same) le in
        last j same (cases_order (use_at uses b).at (use_at uses j).at) le'
      where
        last : (j : ℕ) → j ≡ i → ((use_at uses b).at ≡ (use_at uses j).at) ⊎ (((use_at uses b).at < (use_at uses j).at) ⊎ ((use_at uses j).at < (use_at uses b).at)) →
            (use_at uses b).at ≤ (use_at uses j).at → ((use_at uses b).at < (use_at uses j).at) ⊎ (((use_at uses b).at ≡ (use_at uses j).at) × (b ≤ j))
        last j same (inl e) le = inr (e, omega (arith, same, lt))
        last j same (inr (inl e)) le = inl e
        last j same (inr (inr e)) le = absurd (omega (arith, e, le))

-- a use that stands before the best one
pub best_taken : (uses : List Used) (P : Used → Type 0) (i b : ℕ) → i < length uses → P (use_at uses i) → (use_at uses i).at < (use_at uses b).at → IsBestUse uses P i b →
    IsBestUse uses P (i + 1) i
best_taken uses P i b within here less (_, _, least) = (within, here, λ j h p. go j h p (cases_lt j i))
  where
    later : (j : ℕ) → ((use_at uses b).at < (use_at uses j).at) ⊎ (((use_at uses b).at ≡ (use_at uses j).at) × (b ≤ j)) → (use_at uses i).at < (use_at uses j).at
    later j (inl e) = omega (arith, e, less)
    later j (inr e) = omega (arith, e.0, less)

    go : (j : ℕ) → j < i + 1 → P (use_at uses j) → (j < i) ⊎ (i ≤ j) → ((use_at uses i).at < (use_at uses j).at) ⊎ (((use_at uses i).at ≡ (use_at uses j).at) × (i ≤ j))
    go j h p (inl a) = inl (later j (least j a p))
    go j h p (inr a) = let same : i ≡ j = omega arith in inr (ap (λ k. (use_at uses k).at) same, omega arith)

-- the first use that has P
pub best_begun : (uses : List Used) (P : Used → Type 0) (i : ℕ) → i < length uses → P (use_at uses i) → HasNoUse uses P i → IsBestUse uses P (i + 1) i
best_begun uses P i within here none = (within, here, λ j h p. go j h p (cases_lt j i))
  where
    go : (j : ℕ) → j < i + 1 → P (use_at uses j) → (j < i) ⊎ (i ≤ j) → ((use_at uses i).at < (use_at uses j).at) ⊎ (((use_at uses i).at ≡ (use_at uses j).at) × (i ≤ j))
    go j h p (inl a) = absurd (none j a p)
    go j h p (inr a) = let same : i ≡ j = omega arith in inr (ap (λ k. (use_at uses k).at) same, omega arith)

pub best_none : (uses : List Used) (P : Used → Type 0) (i : ℕ) → (P (use_at uses i) → ⊥) → HasNoUse uses P i → HasNoUse uses P (i + 1)
best_none uses P i here none j h p = go (cases_lt j i)
  where
    go : (j < i) ⊎ (i ≤ j) → ⊥
    go (inl a) = none j a p
    go (inr a) = let same : j ≡ i = omega arith in here (subst (λ k. P (use_at uses k)) same p)

pub best_is : (uses : List Used) (P : Used → Type 0) (i b : ℕ) → length uses ≤ i → IsBestUse uses P i b → IsFirstUse uses P b
best_is uses P i b past (within, holds, least) = record { within = within; holds = holds; least = λ j h p. least j (omega (arith, h, past)) p }

pub none_is_used : (uses : List Used) (P : Used → Type 0) (i : ℕ) → length uses ≤ i → HasNoUse uses P i → (u : Used) → Has u uses → P u → ⊥
none_is_used uses P i past none u h p =
    let r = Has-place u no_use uses h in
    none r.0 (omega (arith, r.1, past)) (subst P (sym r.2) p)

-- the fault of one statement is that of its kind
pub without_here : (entries : List (String Global × Vec Ty Global)) (n : ListNames) (ps : List PlacedTree) (kind : Kind) (i : ℕ) (p : PlacedTree) (e : ExpandFault) →
    statement_at ps i ≡ p → i < length ps → HasNoneBefore (picks kind) ps (UsesWithout entries n) i → IsWithoutHere entries n kind p i e → IsWithoutAmong entries n ps kind e
without_here entries n ps kind i p (NoIntro feature at statement) here within none (same, picked, first) =
    subst (λ k. IsWithoutAmong entries n ps kind (NoIntro feature at k)) (sym same) (
      first_here (picks kind) ps (UsesWithout entries n) i within (subst (λ q. picks kind q ≡ true) (sym here) picked)
          (subst (UsesWithout entries n) (sym here) (use_at (uses_in n p) first.place, Has-at (uses_in n p) first.place no_use first.first.within, first.first.holds)) none,
      subst (λ q. NamesFirstUse (uses_in n q) (HasNoWriter entries) (string_bytes feature) at) (sym here) first,
    )
without_here entries n ps kind i p (UnknownName name at statement) here within none h = h
without_here entries n ps kind i p (Intro feature a b statement) here within none h = h
without_here entries n ps kind i p (NoStructure name statement) here within none h = h
without_here entries n ps kind i p NoMemory here within none h = h

-- what is noted are the writers
module _ (types : TypeTable) (s : Settled) (ps : List PlacedTree) (entries : List (String Global × Vec Ty Global))
    (noted_are : (f : Name) → numbers_noted entries f ≡ writers_of types s.lists ps f) where
  to_unwritten : (u : Used) → HasNoWriter entries u → IsUnwritten types s.lists ps u
  to_unwritten u h = sym (noted_are u.feature) ∙ h

  from_unwritten : (u : Used) → IsUnwritten types s.lists ps u → HasNoWriter entries u
  from_unwritten u h = noted_are u.feature ∙ h

  uses_to : (p : PlacedTree) → UsesWithout entries s.lists p → UsesUnwritten types s.lists ps p
  uses_to p (u, has, h) = (u, has, to_unwritten u h)

  uses_from : (p : PlacedTree) → UsesUnwritten types s.lists ps p → UsesWithout entries s.lists p
  uses_from p (u, has, h) = (u, has, from_unwritten u h)

  first_use_to : (uses : List Used) (feature : Name) (at : ℕ) → NamesFirstUse uses (HasNoWriter entries) feature at → NamesFirstUse uses (IsUnwritten types s.lists ps) feature at
  first_use_to uses feature at f =
      record {
        place = f.place;
        first = record {
          within = f.first.within;
          holds = to_unwritten (use_at uses f.place) f.first.holds;
          least = λ j h p. f.first.least j h (from_unwritten (use_at uses j) p);
        };
        feature_is = f.feature_is;
        at_is = f.at_is;
      }

  pub without_of_types : (e : ExpandFault) → IsWithoutAmong entries s.lists ps Types e → IsUnwrittenFault types s ps e
  without_of_types (NoIntro feature at k) h =
      record {
        first = first_of_types (first_moved (picks Types) ps (UsesWithout entries s.lists) (UsesUnwritten types s.lists ps) k uses_to uses_from h.0);
        first_use = first_use_to (uses_in s.lists (statement_at ps k)) (string_bytes feature) at h.1;
      }
  without_of_types (UnknownName name at k) h = h
  without_of_types (Intro feature a b statement) h = h
  without_of_types (NoStructure name statement) h = h
  without_of_types NoMemory h = h

  pub without_of_instances : (e : ExpandFault) → HoldsOfNone (picks Types) ps (UsesWithout entries s.lists) → IsWithoutAmong entries s.lists ps Instances e → IsUnwrittenFault types s ps e
  without_of_instances (NoIntro feature at k) none h =
      record {
        first = first_of_instances (none_moved (picks Types) ps (UsesWithout entries s.lists) (UsesUnwritten types s.lists ps) uses_from none)
            (first_moved (picks Instances) ps (UsesWithout entries s.lists) (UsesUnwritten types s.lists ps) k uses_to uses_from h.0);
        first_use = first_use_to (uses_in s.lists (statement_at ps k)) (string_bytes feature) at h.1;
      }
  without_of_instances (UnknownName name at k) none h = h
  without_of_instances (Intro feature a b statement) none h = h
  without_of_instances (NoStructure name statement) none h = h
  without_of_instances NoMemory none h = h

  pub are_written : HoldsOfNone (picks Types) ps (UsesWithout entries s.lists) → HoldsOfNone (picks Instances) ps (UsesWithout entries s.lists) → AreWritten types s ps
  are_written a b =
      record {
        of_types = none_moved (picks Types) ps (UsesWithout entries s.lists) (UsesUnwritten types s.lists ps) uses_from a;
        of_instances = none_moved (picks Instances) ps (UsesWithout entries s.lists) (UsesUnwritten types s.lists ps) uses_from b;
      }

pub none_uses : (entries : List (String Global × Vec Ty Global)) (n : ListNames) (kind : Kind) (p : PlacedTree) →
    (picks kind p ≡ true → (u : Used) → Has u (uses_in n p) → HasNoWriter entries u → ⊥) → picks kind p ≡ true → UsesWithout entries n p → ⊥
none_uses entries n kind p none t (u, has, h) = none t u has h

pub best_all : (uses : List Used) (P : Used → Type 0) (i : ℕ) (o : Option ℕ) → length uses ≤ i →
    MatchOption o (HasNoUse uses P i) (λ b. (b < i) × IsBestUse uses P i b) → MatchOption o ((u : Used) → Has u uses → P u → ⊥) (IsFirstUse uses P)
best_all uses P i None past none = none_is_used uses P i past none
best_all uses P i (Some b) past best = best_is uses P i b past best.1

-- a turn of the loop: a use that is taken, one of which P doesn't hold, and one that doesn't stand before the best one
abbrev pub IsSoFar : List Used → (Used → Type 0) → ℕ → Option ℕ → Type 0
IsSoFar uses P i o = MatchOption o (HasNoUse uses P i) (λ b. (b < i) × IsBestUse uses P i b)

abbrev pub TellsBefore : List Used → ℕ → Option ℕ → Bool → Type 0
TellsBefore uses i o t = MatchOption o (t ≡ true) (λ b. IsTrue t ↔ ((use_at uses i).at < (use_at uses b).at))

pub so_far_taken : (uses : List Used) (P : Used → Type 0) (i : ℕ) (o : Option ℕ) (t : Bool) → i < length uses → P (use_at uses i) → t ≡ true → TellsBefore uses i o t →
    IsSoFar uses P i o → IsSoFar uses P (i + 1) (Some i)
so_far_taken uses P i None t within here is test none = (omega arith, best_begun uses P i within here none)
so_far_taken uses P i (Some b) t within here is test best = (omega arith, best_taken uses P i b within here (test.0 is) best.1)

pub so_far_without : (uses : List Used) (P : Used → Type 0) (i : ℕ) (o : Option ℕ) → (P (use_at uses i) → ⊥) → IsSoFar uses P i o → IsSoFar uses P (i + 1) o
so_far_without uses P i None not_here none = best_none uses P i not_here none
so_far_without uses P i (Some b) not_here best = (omega (arith, best.0), best_passed uses P i b best.0 best.1 (λ p. absurd (not_here p)))

pub so_far_kept : (uses : List Used) (P : Used → Type 0) (i : ℕ) (o : Option ℕ) (t : Bool) → t ≡ false → TellsBefore uses i o t → IsSoFar uses P i o → IsSoFar uses P (i + 1) o
so_far_kept uses P i None t is test none = true_not_false t test is
so_far_kept uses P i (Some b) t is test best = (omega (arith, best.0), best_passed uses P i b best.0 best.1 (λ _. go (cases_lt (use_at uses i).at (use_at uses b).at)))
  where
    go : ((use_at uses i).at < (use_at uses b).at) ⊎ ((use_at uses b).at ≤ (use_at uses i).at) → (use_at uses b).at ≤ (use_at uses i).at
    go (inl lt) = true_not_false t (test.1 lt) is
    go (inr le) = le

-- what holds of the error that a call passes on
pub at_exit : {A E : Type 0} (P : E → Type 0) (r : Result A E) (e : E) → IsErrAnd r (λ y. y ≡ e) → P e → IfErr r P
at_exit P (Ok x) e is h = tt
at_exit P (Err y) e is h = subst P (sym is) h
