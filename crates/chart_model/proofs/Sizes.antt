-- Sizes and levels of members and of what they are made of.
use Rattle.std.specs.Prelude.{◌≡◌, ℕ, ◌+◌, ◌<◌, ◌≤◌, Some, List, [], ◌∷◌, length, refl, All, Contains}
use Rattle.std.proofs.Common.{zero, suc, ap, sym, ◌∙◌, arith}
use Rattle.std.proofs.lemmas.List.Elements.{All-nil, All-cons}
use Rattle.chart_model.specs.Calculus.{Calculus, Laws}
use Rattle.chart_model.specs.At.{At, here, there}
use Rattle.chart_model.specs.Chart.{Leaf, Limits}
use Rattle.chart_model.specs.Classes.{Class, Member, of_leaf, of_rule, Members, no_members, more_members, class_covers, class_level}
use Rattle.chart_model.specs.Limits.{AreProper}

pub at_contains : {A : Type 0} {xs : List A} {i : ℕ} {x : A} → At xs i x → Contains xs x
at_contains (here) = (0, omega arith, refl)
at_contains (there a) = let r = at_contains a in (suc r.0, omega arith, r.2)

module _ {M C : Type 0} where
  pub length-covers : (ds : List (Class M C)) → length (class_covers ds) ≡ length ds
  length-covers [] = refl
  length-covers (d ∷ ds) = ap suc (length-covers ds)

  pub at_covers : {ds : List (Class M C)} {i : ℕ} {d : Class M C} → At ds i d → At (class_covers ds) i d.cover
  at_covers (here) = here
  at_covers (there a) = there (at_covers a)

module _ {M C : Type 0} (k : Calculus M C) (limits : Limits) (leaves : List (Leaf M C)) where
  pub at_member : (ds : List (Class M C)) (i : ℕ) (d : Class M C) → Members k limits leaves ds → At ds i d → Member k limits leaves d × (d.level ≤ limits.unary)
  at_member [] i d ms a = elim a [ ]
  at_member (_ ∷ ds) zero d (more_members _ _ m l ms) (here) = (m, l)
  at_member (_ ∷ ds) (suc i) d (more_members _ _ m l ms) (there a) = at_member ds i d ms a

  -- the level over daughters of levels up to the limit is at most one more
  pub level_bound : (ds : List (Class M C)) → Members k limits leaves ds → class_level ds ≤ limits.unary + 1
  level_bound [] ms = omega arith
  level_bound (_ ∷ []) (more_members d _ m l ms) = omega arith
  level_bound (d ∷ e ∷ ds) ms = omega arith

  module _ (laws : Laws k) (proper : AreProper k limits leaves) where
    mutual
      -- each member has a cover that may stand in a chart
      pub member_proper : (c : Class M C) → Member k limits leaves c → k.proper c.cover
      member_proper c (of_leaf l leaf a) = proper l leaf a
      member_proper c (of_rule rule ds cover m r_ok len members cov app) =
          laws.proper_mother rule (class_covers ds) cover (omega (arith, len, length-covers ds, (laws.one_to_four rule r_ok).0)) (omega (arith, len, length-covers ds)) (members_proper ds members) cov

      pub members_proper : (ds : List (Class M C)) → Members k limits leaves ds → All k.proper (class_covers ds)
      members_proper ds no_members = All-nil k.proper
      members_proper ds (more_members d rest m l ms) = All-cons k.proper d.cover (class_covers rest) (member_proper d m) (members_proper rest ms)

    -- a daughter is no larger than its mother
    pub daughter_size : (rule : ℕ) (ds : List (Class M C)) (c : C) → length ds ≡ k.arity rule → Members k limits leaves ds → k.covers rule (class_covers ds) ≡ Some c → (i : ℕ) (d : Class M C) → At ds i d → k.size d.cover ≤ k.size c
    daughter_size rule [] c len ms cov i d a = elim a [ ]
    daughter_size rule (e ∷ []) c len ms cov zero d (here) = laws.no_smaller rule c e.cover (sym len) (member_proper e (at_member (e ∷ []) 0 e ms here).0) cov
    daughter_size rule (e ∷ []) c len ms cov (suc i) d (there a) = elim a [ ]
    daughter_size rule (e ∷ f ∷ ds) c len ms cov i d a =
        let l : k.size d.cover < k.size c = laws.larger rule (class_covers (e ∷ f ∷ ds)) c d.cover (omega (arith, length-covers (e ∷ f ∷ ds))) (length-covers (e ∷ f ∷ ds) ∙ len) (members_proper (e ∷ f ∷ ds) ms) cov (at_contains (at_covers a)) in
        omega arith
