-- Roles that are joined one after the other.
use Rattle.std.proofs.Common.{◌≡◌, ℕ, zero, suc, ◌+◌, ◌<◌, ◌∙◌, List, [], ◌∷◌, ◌++◌, append_assoc, map, length, length-append, get_or, refl, ap, sym, subst, arith, below_more}
use Rattle.std.proofs.lemmas.List.{get_or_read, get_or-map}
use Rattle.mrs_model.proofs.Rows.{length_rows}
use Rattle.mrs_model.specs.declared.bindings.Pair.{Pair}
use Rattle.mrs_model.specs.declared.Role.{Role}
use Rattle.mrs_model.specs.Meanings.{Variable, Argument}
use Rattle.mrs_model.specs.Views.{argument_of}
use Rattle.mrs_model.specs.Renaming.{renamed_argument}
use Rattle.mrs_model.specs.Inner.Bindings.{Binds, IsGrown, IsJoinedArgument, AreJoinedArguments}
use Rattle.mrs_model.proofs.Searching.{agrees_start, lefts_start, rights_start}

pub grown_on : (a b : List Variable) (p q r : List Pair) → IsGrown a b p q → IsGrown a b q r → IsGrown a b p r
grown_on a b p q r g h = record {
  more = g.more ++ h.more;
  front = h.front ∙ ap (λ (l : List Pair). l ++ h.more) g.front ∙ append_assoc p g.more h.more;
  kept = λ k. h.kept (g.kept k);
}

pub binds_start : (old more : List Pair) (v w : ℕ) → Binds old v w → Binds (old ++ more) v w
binds_start old more v w (i, l, e, f) = (i, omega (arith, length-append old more, l), lefts_start old more i l ∙ e, rights_start old more i l ∙ f)

pub joined_on : (a b : List Variable) (old new : List Pair) (x y : Argument) → IsGrown a b old new → IsJoinedArgument old x y → IsJoinedArgument new x y
joined_on a b old new x y g j = record {
  same = λ to agrees. j.same to (agrees_start to old g.more (rw g.front at agrees));
  bound = λ v e. let w = j.bound v e in (w.0, subst (λ (ps : List Pair). Binds ps v w.0) (sym g.front) (binds_start old g.more v w.0 w.1));
}

pub at_role : (to : List ℕ) (xs ys : List Role) (k : ℕ) (d e : Role) → map (renamed_argument to) (map argument_of xs) ≡ map argument_of ys → k < length xs
    → renamed_argument to (argument_of (get_or xs k d)) ≡ argument_of (get_or ys k e)
at_role to [] ys k d e m l = absurd (omega arith)
at_role to (x ∷ xs) [] k d e m l = absurd (cc)
at_role to (x ∷ xs) (y ∷ ys) zero d e m l = cc
at_role to (x ∷ xs) (y ∷ ys) (suc k) d e m l = at_role to xs ys k d e (cc) (omega arith)

all_same : (to : List ℕ) (xs ys : List Role) → length xs ≡ length ys → ((j : ℕ) (d e : Role) → j < length xs → renamed_argument to (argument_of (get_or xs j d)) ≡ argument_of (get_or ys j e))
    → map (renamed_argument to) (map argument_of xs) ≡ map argument_of ys
all_same to [] [] n h = refl
all_same to [] (y ∷ ys) n h = absurd (omega arith)
all_same to (x ∷ xs) [] n h = absurd (omega arith)
all_same to (x ∷ xs) (y ∷ ys) n h =
    let head : renamed_argument to (argument_of x) ≡ argument_of y = h 0 x y (omega arith) in
    let tail : map (renamed_argument to) (map argument_of xs) ≡ map argument_of ys = all_same to xs ys (omega arith) (λ j d e l. h (suc j) d e (omega arith)) in
    cc

some_role : (xs : List Role) (k : ℕ) → k < length xs → Role
some_role [] k l = absurd (omega arith)
some_role (x ∷ xs) k l = x

pub all_joined : (pairs : List Pair) (xs ys : List Role) → length xs ≡ length ys → ((j : ℕ) (d e : Role) → j < length xs → IsJoinedArgument pairs (argument_of (get_or xs j d)) (argument_of (get_or ys j e)))
    → AreJoinedArguments pairs (map argument_of xs) (map argument_of ys)
all_joined pairs xs ys n h = record {
  same = λ to agrees. all_same to xs ys n (λ j d e l. (h j d e l).same to agrees);
  bound = λ v has.
      let l : has.0 < length xs = omega (arith, length_rows argument_of xs, has.2) in
      let d = some_role xs has.0 l in
      let e : get_or (map argument_of xs) has.0 has.1 ≡ argument_of (get_or xs has.0 d) = get_or-map argument_of xs has.0 d has.1 l in
      (h has.0 d d l).bound v (ap (λ (a : Argument). a.filler) (sym e ∙ has.3) ∙ has.4);
}

-- one more role
pub done_more : (a b : List Variable) (old new : List Pair) (xs ys : List Role) (k : ℕ) → IsGrown a b old new → ((j : ℕ) (d e : Role) → j < k → IsJoinedArgument old (argument_of (get_or xs j d)) (argument_of (get_or ys j e)))
    → ((d e : Role) → IsJoinedArgument new (argument_of (get_or xs k d)) (argument_of (get_or ys k e))) → (j : ℕ) (d e : Role) → j < k + 1 → IsJoinedArgument new (argument_of (get_or xs j d)) (argument_of (get_or ys j e))
done_more a b old new xs ys k g each this =
    λ j d e l. (below_more (λ i. (d e : Role) → IsJoinedArgument new (argument_of (get_or xs i d)) (argument_of (get_or ys i e))) k (λ i h d e. joined_on a b old new _ _ g (each i d e h)) this j l) d e

pub role_read : (to : List ℕ) (xs ys : List Role) (k : ℕ) (x y : Role) → x ≡ get_or xs k x → y ≡ get_or ys k y → k < length xs → map (renamed_argument to) (map argument_of xs) ≡ map argument_of ys
    → renamed_argument to (argument_of x) ≡ argument_of y
role_read to xs ys k x y ex ey l m = ap (λ (r : Role). renamed_argument to (argument_of r)) ex ∙ at_role to xs ys k x y m l ∙ sym (ap argument_of ey)

pub joined_read : (pairs : List Pair) (xs ys : List Role) (k : ℕ) (x y : Role) → x ≡ get_or xs k x → y ≡ get_or ys k y → k < length xs → k < length ys → IsJoinedArgument pairs (argument_of x) (argument_of y)
    → (d e : Role) → IsJoinedArgument pairs (argument_of (get_or xs k d)) (argument_of (get_or ys k e))
joined_read pairs xs ys k x y ex ey lx ly j d e =
    subst (λ (r : Role). IsJoinedArgument pairs (argument_of r) (argument_of (get_or ys k e))) (get_or_read xs k x lx ex d)
    (subst (λ (r : Role). IsJoinedArgument pairs (argument_of x) (argument_of r)) (get_or_read ys k y ly ey e) j)
