-- Trees that differ can be put in the order of trees, whatever order they stand in.
use Rattle.std.specs.Prelude.{◌≡◌, ◌+◌, List, [], ◌∷◌, length, refl}
use Rattle.std.proofs.Common.{ap, subst, sym, ◌∙◌, arith}
use Rattle.std.specs.Ordering.{ordering_reverse}
use Rattle.std.specs.declared.cmp.Ordering.{Ordering}
use Rattle.std.specs.declared.cmp.Ordering.TheVariants.{Less, Equal, Greater}
use Rattle.derivation.specs.Trees.{Derivation}
use Rattle.derivation.specs.Order.{compare_trees}
use Rattle.derivation.proofs.Total.{trees_total, trees_tie}
use Rattle.tree_model.specs.Readings.{Rises, rises_none, rises_one, rises_more}
use Rattle.tree_model.specs.Lists.{Has, has_here, has_there, AllDiffer, differ_more}

-- a rising list of one tree more than these
record Placed (t : Derivation) (ts : List Derivation) : Type 0 where
  pub all : List Derivation
  pub rises : Rises all
  pub count : length all ≡ length ts + 1
  pub each : (x : Derivation) → Has x all → Has x (t ∷ ts)

-- the same behind a tree that comes before all of them
record PlacedBehind (first t : Derivation) (ts : List Derivation) : Type 0 where
  pub all : List Derivation
  pub rises : Rises (first ∷ all)
  pub count : length all ≡ length ts + 1
  pub each : (x : Derivation) → Has x all → Has x (t ∷ ts)

second : {x : Derivation} (t u : Derivation) (ts : List Derivation) → Has x (t ∷ ts) → Has x (t ∷ u ∷ ts)
second t u ts has_here = has_here
second t u ts (has_there h) = has_there (has_there h)

-- one more in front, and the new one anywhere
has_behind : {x : Derivation} (t u : Derivation) (ts all : List Derivation) → ((x : Derivation) → Has x all → Has x (t ∷ ts)) → Has x (u ∷ all) → Has x (t ∷ u ∷ ts)
has_behind t u ts all each has_here = has_there has_here
has_behind {x = x} t u ts all each (has_there h) = second t u ts (each x h)

before : (t u : Derivation) → compare_trees t u ≡ Greater → compare_trees u t ≡ Less
before t u e = trees_total.antisymm u t ∙ ap ordering_reverse e

place_behind : (first t : Derivation) (ts : List Derivation) → compare_trees first t ≡ Less → Rises (first ∷ ts) → (Has t ts → ⊥) → PlacedBehind first t ts
place_behind first t [] low r apart = record { all = t ∷ []; rises = rises_more first t [] low (rises_one t); count = refl; each = λ x h. h }
place_behind first t (u ∷ us) low (rises_more _ _ _ step r) apart = by (λ e. place_behind u t us e r (λ h. apart (has_there h))) (compare_trees t u) refl
  where
    by : (compare_trees u t ≡ Less → PlacedBehind u t us) → (o : Ordering) → compare_trees t u ≡ o → PlacedBehind first t (u ∷ us)
    by go Less e = record { all = t ∷ u ∷ us; rises = rises_more first t (u ∷ us) low (rises_more t u us e r); count = omega arith; each = λ x h. h }
    by go Equal e = absurd (apart (subst (λ z. Has z (u ∷ us)) (sym ((trees_tie t u).0 e)) has_here))
    by go Greater e =
        let p = go (before t u e) in
        record { all = u ∷ p.all; rises = rises_more first u p.all step p.rises; count = omega (arith, p.count); each = λ x h. has_behind t u us p.all p.each h }

place : (t : Derivation) (ts : List Derivation) → Rises ts → (Has t ts → ⊥) → Placed t ts
place t [] r apart = record { all = t ∷ []; rises = rises_one t; count = refl; each = λ x h. h }
place t (u ∷ us) r apart = by (compare_trees t u) refl
  where
    by : (o : Ordering) → compare_trees t u ≡ o → Placed t (u ∷ us)
    by Less e = record { all = t ∷ u ∷ us; rises = rises_more t u us e r; count = omega arith; each = λ x h. h }
    by Equal e = absurd (apart (subst (λ z. Has z (u ∷ us)) (sym ((trees_tie t u).0 e)) has_here))
    by Greater e =
        let p = place_behind u t us (before t u e) r (λ h. apart (has_there h)) in
        record { all = u ∷ p.all; rises = p.rises; count = omega (arith, p.count); each = λ x h. has_behind t u us p.all p.each h }

-- as many of these trees, in order
pub record Arranged (ts : List Derivation) : Type 0 where
  pub all : List Derivation
  pub rises : Rises all
  pub count : length all ≡ length ts
  pub each : (x : Derivation) → Has x all → Has x ts

has_more : {x : Derivation} (t : Derivation) (ts us : List Derivation) → ((x : Derivation) → Has x us → Has x ts) → Has x (t ∷ us) → Has x (t ∷ ts)
has_more t ts us each has_here = has_here
has_more {x = x} t ts us each (has_there h) = has_there (each x h)

pub arranged : (ts : List Derivation) → AllDiffer ts → Arranged ts
arranged [] d = record { all = []; rises = rises_none; count = refl; each = λ x h. h }
arranged (t ∷ ts) (differ_more apart d) =
    let r = arranged ts d in
    let p = place t r.all r.rises (λ h. apart (r.each t h)) in
    record { all = p.all; rises = p.rises; count = omega (arith, p.count, r.count); each = λ x h. has_more t ts r.all r.each (p.each x h) }
