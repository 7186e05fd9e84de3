-- Elements that are joined part by part.
use Rattle.std.proofs.Common.{◌≡◌, ℕ, ◌∙◌, inl, inr, List, [], ◌∷◌, suc, map, length, refl, ap, sym, subst, slice_index}
use Rattle.std.specs.List.{All}
use Rattle.std.proofs.lemmas.List.{get_or-map}
use Rattle.mrs_model.specs.declared.bindings.Pair.{Pair}
use Rattle.mrs_model.specs.declared.Role.{Role}
use Rattle.mrs_model.specs.Meanings.{Variable, Argument, Predication, Constraint}
use Rattle.mrs_model.specs.Views.{argument_of, filler_of}
use Rattle.mrs_model.specs.Renaming.{renamed_constraint, renamed_ep, unspanned}
use Rattle.mrs_model.specs.Valid.{IsEnd, StandsIn, IsFiller, IsArgument}
use Rattle.mrs_model.specs.Inner.Bindings.{Binds, Agrees, IsGrown, AreJoinedArguments}
use Rattle.mrs_model.specs.Inner.Elements.{an_ep, an_hcon, an_icon}
use Rattle.mrs_model.specs.Inner.Search.{IsJoinedElement}
use Rattle.mrs_model.proofs.Rolling.{binds_start}

pub binds_agrees : (to : List ℕ) (pairs : List Pair) (v w : ℕ) → Agrees to pairs → Binds pairs v w → slice_index to v ≡ w
binds_agrees to pairs v w a (i, l, e, f) = subst (λ (z : ℕ). slice_index to z ≡ w) e (a i l ∙ f)

pub binds_on : (a b : List Variable) (old new : List Pair) (v w : ℕ) → IsGrown a b old new → Binds old v w → Binds new v w
binds_on a b old new v w g h = subst (λ (ps : List Pair). Binds ps v w) (sym g.front) (binds_start old g.more v w h)

ends_same : (to : List ℕ) (new : List Pair) (x y : Constraint) → x.rel ≡ y.rel → Binds new x.left y.left → Binds new x.right y.right → Agrees to new → renamed_constraint to x ≡ y
ends_same to new x y r l m a =
    let p = binds_agrees to new x.left y.left a l in
    let q = binds_agrees to new x.right y.right a m in
    rw (p, q, r) refl

ends_bound : (new : List Pair) (x y : Constraint) (v : ℕ) → Binds new x.left y.left → Binds new x.right y.right → IsEnd v x → (w : ℕ) × Binds new v w
ends_bound new x y v l m (inl e) = (y.left, subst (λ (z : ℕ). Binds new z y.left) e l)
ends_bound new x y v l m (inr e) = (y.right, subst (λ (z : ℕ). Binds new z y.right) e m)

pub hcons_joined : (a b : List Variable) (mid new : List Pair) (x y : Constraint) → IsGrown a b mid new → x.rel ≡ y.rel → Binds mid x.left y.left → Binds new x.right y.right → IsJoinedElement new (an_hcon x) (an_hcon y)
hcons_joined a b mid new x y g r l m = let l' = binds_on a b mid new x.left y.left g l in record {
  same = λ to agrees. ap an_hcon (ends_same to new x y r l' m agrees);
  bound = λ v e. ends_bound new x y v l' m e;
}

pub icons_joined : (a b : List Variable) (mid new : List Pair) (x y : Constraint) → IsGrown a b mid new → x.rel ≡ y.rel → Binds mid x.left y.left → Binds new x.right y.right → IsJoinedElement new (an_icon x) (an_icon y)
icons_joined a b mid new x y g r l m = let l' = binds_on a b mid new x.left y.left g l in record {
  same = λ to agrees. ap an_icon (ends_same to new x y r l' m agrees);
  bound = λ v e. ends_bound new x y v l' m e;
}

ep_same : (to : List ℕ) (new : List Pair) (x y : Predication) → x.pred ≡ y.pred → Binds new x.label y.label → AreJoinedArguments new x.args y.args → Agrees to new → renamed_ep to x ≡ unspanned y
ep_same to new x y r l j a =
    let p = binds_agrees to new x.label y.label a l in
    let q = j.same to a in
    rw (p, q, r) refl

ep_bound : (new : List Pair) (x y : Predication) (v : ℕ) → Binds new x.label y.label → AreJoinedArguments new x.args y.args → StandsIn v x → (w : ℕ) × Binds new v w
ep_bound new x y v l j (inl e) = (y.label, subst (λ (z : ℕ). Binds new z y.label) e l)
ep_bound new x y v l j (inr has) = j.bound v has

pub eps_joined : (a b : List Variable) (mid new : List Pair) (x y : Predication) → IsGrown a b mid new → x.pred ≡ y.pred → Binds mid x.label y.label → AreJoinedArguments new x.args y.args → IsJoinedElement new (an_ep (unspanned x)) (an_ep (unspanned y))
eps_joined a b mid new x y g r l j = let l' = binds_on a b mid new x.label y.label g l in record {
  same = λ to agrees. ap an_ep (ep_same to new x y r l' j agrees);
  bound = λ v e. ep_bound new x y v l' j e;
}

length_roles : (rs : List Role) → length (map argument_of rs) ≡ length rs
length_roles [] = refl
length_roles (r ∷ rs) = ap suc (length_roles rs)

-- fillers of roles are of the variables
pub fillers_in : (n : ℕ) (rs : List Role) → All (IsArgument n) (map argument_of rs) → All (λ r. IsFiller n (filler_of r.value)) rs
fillers_in n rs h = λ k d l.
    let m = h k (argument_of d) (rw (length_roles rs) l) in
    (subst (λ (a : Argument). IsArgument n a) (get_or-map argument_of rs k d (argument_of d) l) m).filler

pub fillers_at : (n : ℕ) (rs now : List Role) → now ≡ rs → All (IsArgument n) (map argument_of rs) → All (λ r. IsFiller n (filler_of r.value)) now
fillers_at n rs now e h = subst (λ (l : List Role). All (λ r. IsFiller n (filler_of r.value)) l) (sym e) (fillers_in n rs h)
