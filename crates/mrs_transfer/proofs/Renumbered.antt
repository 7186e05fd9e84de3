-- What has other numbers of its variables, and what has them back.
use Rattle.std.proofs.Common.{ℕ, suc, ◌≡◌, ◌<◌, inl, inr, ◌∙◌, List, [], ◌∷◌, length, get_or, refl, sym, subst, ap, arith}
use Rattle.std.specs.Prelude.{All, map, slice_index}
use Rattle.std.specs.List.{Any}
use Rattle.std.proofs.lemmas.List.{length-map, get_or-map, get_or_default}
use Rattle.std.proofs.lemmas.List.Elements.{All-map}
use Rattle.mrs_model.specs.Meanings.{Filler, of_var, of_text, Argument, Predication, Constraint}
use Rattle.mrs_model.specs.Renaming.{renamed_filler, renamed_argument, renamed_constraint}
use Rattle.mrs_model.specs.Valid.{Rise, IsFiller, IsArgument, IsPredication, IsConstraint, StandsIn, IsEnd}
use Rattle.transfer_model.specs.Applying.{renumbered}

-- S is which variables stand in an element
module _ {X : Type 0} (S : ℕ → X → Type 0) where
  pub map_back : (B : ℕ → Type 0) (f g : X → X) → ((x : X) → ((v : ℕ) → S v x → B v) → g (f x) ≡ x) → (xs : List X) → ((v : ℕ) → Any (S v) xs → B v) → map g (map f xs) ≡ xs
  map_back B f g each [] h = refl
  map_back B f g each (x ∷ xs) h =
      ap (λ (y : X). y ∷ map g (map f xs)) (each x (λ v s. h v (0, x, omega arith, refl, s)))
      ∙ ap (λ (ys : List X). x ∷ ys) (map_back B f g each xs (λ v i. h v (suc i.0, i.1, omega (arith, i.2), i.3, i.4)))

  pub map_fixed : (B : ℕ → Type 0) (g : X → X) → ((x : X) → ((v : ℕ) → S v x → B v) → g x ≡ x) → (xs : List X) → ((v : ℕ) → Any (S v) xs → B v) → map g xs ≡ xs
  map_fixed B g each [] h = refl
  map_fixed B g each (x ∷ xs) h =
      ap (λ (y : X). y ∷ map g xs) (each x (λ v s. h v (0, x, omega arith, refl, s)))
      ∙ ap (λ (ys : List X). x ∷ ys) (map_fixed B g each xs (λ v i. h v (suc i.0, i.1, omega (arith, i.2), i.3, i.4)))

  -- what stands in an element of a list stands in the list
  any_at : (xs : List X) (k : ℕ) (d : X) (v : ℕ) → k < length xs → S v (get_or xs k d) → Any (S v) xs
  any_at xs k d v l s = (k, get_or xs k d, l, get_or_default xs k (get_or xs k d) d l, s)

  pub all_mapped : (B : ℕ → Type 0) (P Q : X → Type 0) (f : X → X) → ((x : X) → P x → ((v : ℕ) → S v x → B v) → Q (f x)) → (xs : List X) → All P xs → ((v : ℕ) → Any (S v) xs → B v) → All Q (map f xs)
  all_mapped B P Q f each xs a h = All-map Q f xs (λ k d l. each (get_or xs k d) (a k d l) (λ v s. h v (any_at xs k d v l s)))

  pub any_mapped : (v w : ℕ) (f : X → X) → ((x : X) → S v x → S w (f x)) → (xs : List X) → Any (S v) xs → Any (S w) (map f xs)
  any_mapped v w f each xs i =
      let n : length (map f xs) ≡ length xs = length-map xs f in
      (i.0, f i.1, omega (arith, n, i.2), get_or-map f xs i.0 i.1 (f i.1) i.2 ∙ ap f i.3, each i.1 i.4)

  -- the variables are below a number
  pub all_below : (n : ℕ) (P : X → Type 0) → ((x : X) (v : ℕ) → P x → S v x → v < n) → (xs : List X) (v : ℕ) → All P xs → Any (S v) xs → v < n
  all_below n P each xs v a i = each i.1 v (subst P i.3 (a i.0 i.1 i.2)) i.4

abbrev with_filler : List ℕ → Filler → Argument
with_filler r f = record { role = r; filler = f }

abbrev ep_with : Predication → ℕ → List Argument → Predication
ep_with e l xs = record { pred = e.pred; label = l; args = xs; span = e.span }

abbrev con_with : List ℕ → ℕ → ℕ → Constraint
con_with r l k = record { left = l; rel = r; right = k }

-- which variables fill an argument
abbrev pub Fills : ℕ → Argument → Type 0
Fills v a = a.filler ≡ of_var v

module _ (kept to : List ℕ) where
  -- a number that comes back
  abbrev pub Back : ℕ → Type 0
  Back v = slice_index kept (slice_index to v) ≡ v

  filler_back : (f : Filler) → ((v : ℕ) → f ≡ of_var v → Back v) → renamed_filler kept (renamed_filler to f) ≡ f
  filler_back (of_var v) h = ap of_var (h v refl)
  filler_back (of_text t) h = refl

  argument_back : (a : Argument) → ((v : ℕ) → Fills v a → Back v) → renamed_argument kept (renamed_argument to a) ≡ a
  argument_back a h = ap (λ (f : Filler). with_filler a.role f) (filler_back a.filler h)

  pub ep_back : (e : Predication) → ((v : ℕ) → StandsIn v e → Back v) → renumbered kept (renumbered to e) ≡ e
  ep_back e h =
      ap (λ (l : ℕ). ep_with e l (map (renamed_argument kept) (map (renamed_argument to) e.args))) (h e.label (inl refl))
      ∙ ap (λ (xs : List Argument). ep_with e e.label xs) (map_back Fills Back (renamed_argument to) (renamed_argument kept) argument_back e.args (λ v i. h v (inr i)))

  pub con_back : (c : Constraint) → ((v : ℕ) → IsEnd v c → Back v) → renamed_constraint kept (renamed_constraint to c) ≡ c
  con_back c h =
      ap (λ (l : ℕ). con_with c.rel l (slice_index kept (slice_index to c.right))) (h c.left (inl refl))
      ∙ ap (λ (k : ℕ). con_with c.rel c.left k) (h c.right (inr refl))

module _ (kept : List ℕ) where
  -- a number that stays
  abbrev pub Stays : ℕ → Type 0
  Stays v = slice_index kept v ≡ v

  filler_fixed : (f : Filler) → ((v : ℕ) → f ≡ of_var v → Stays v) → renamed_filler kept f ≡ f
  filler_fixed (of_var v) h = ap of_var (h v refl)
  filler_fixed (of_text t) h = refl

  argument_fixed : (a : Argument) → ((v : ℕ) → Fills v a → Stays v) → renamed_argument kept a ≡ a
  argument_fixed a h = ap (λ (f : Filler). with_filler a.role f) (filler_fixed a.filler h)

  pub ep_fixed : (e : Predication) → ((v : ℕ) → StandsIn v e → Stays v) → renumbered kept e ≡ e
  ep_fixed e h =
      ap (λ (l : ℕ). ep_with e l (map (renamed_argument kept) e.args)) (h e.label (inl refl))
      ∙ ap (λ (xs : List Argument). ep_with e e.label xs) (map_fixed Fills Stays (renamed_argument kept) argument_fixed e.args (λ v i. h v (inr i)))

  pub con_fixed : (c : Constraint) → ((v : ℕ) → IsEnd v c → Stays v) → renamed_constraint kept c ≡ c
  con_fixed c h = ap (λ (l : ℕ). con_with c.rel l (slice_index kept c.right)) (h c.left (inl refl)) ∙ ap (λ (k : ℕ). con_with c.rel c.left k) (h c.right (inr refl))

-- numbers below n
filler_below : (n : ℕ) (f : Filler) (v : ℕ) → IsFiller n f → f ≡ of_var v → v < n
filler_below n f v h e = subst (IsFiller n) e h

pub ep_below : (n : ℕ) (e : Predication) (v : ℕ) → IsPredication n e → StandsIn v e → v < n
ep_below n e v h (inl q) = subst (λ (z : ℕ). z < n) q h.label
ep_below n e v h (inr i) = all_below Fills n (IsArgument n) (λ a w g s. filler_below n a.filler w g.filler s) e.args v h.args i

pub con_below : (n : ℕ) (c : Constraint) (v : ℕ) → IsConstraint n c → IsEnd v c → v < n
con_below n c v h (inl q) = subst (λ (z : ℕ). z < n) q h.left
con_below n c v h (inr q) = subst (λ (z : ℕ). z < n) q h.right

-- with numbers below m in the place of those below n
module _ (to : List ℕ) where
  -- the number that it gets is one of so many
  abbrev pub Gets : ℕ → ℕ → Type 0
  Gets m v = slice_index to v < m

  filler_gets : (n m : ℕ) (f : Filler) → IsFiller n f → ((v : ℕ) → f ≡ of_var v → Gets m v) → IsFiller m (renamed_filler to f)
  filler_gets n m (of_var v) h g = g v refl
  filler_gets n m (of_text t) h g = tt

  argument_gets : (n m : ℕ) (a : Argument) → IsArgument n a → ((v : ℕ) → Fills v a → Gets m v) → IsArgument m (renamed_argument to a)
  argument_gets n m a h g = record { role = h.role; not_label = h.not_label; filler = filler_gets n m a.filler h.filler g }

  -- the names of roles stay
  roles_stay : (xs : List Argument) → map (λ a. a.role) (map (renamed_argument to) xs) ≡ map (λ a. a.role) xs
  roles_stay [] = refl
  roles_stay (a ∷ xs) = ap (λ (rs : List (List ℕ)). a.role ∷ rs) (roles_stay xs)

  pub ep_gets : (n m : ℕ) (e : Predication) → IsPredication n e → ((v : ℕ) → StandsIn v e → Gets m v) → IsPredication m (renumbered to e)
  ep_gets n m e h g = record {
    pred = h.pred;
    label = g e.label (inl refl);
    args = all_mapped Fills (Gets m) (IsArgument n) (IsArgument m) (renamed_argument to) (argument_gets n m) e.args h.args (λ v i. g v (inr i));
    order = subst Rise (sym (roles_stay e.args)) h.order;
  }

  pub con_gets : (n m : ℕ) (c : Constraint) → IsConstraint n c → ((v : ℕ) → IsEnd v c → Gets m v) → IsConstraint m (renamed_constraint to c)
  con_gets n m c h g = record { left = g c.left (inl refl); rel = h.rel; right = g c.right (inr refl) }

  -- what stood somewhere stands there under its other number
  filler_stands : (f : Filler) (v : ℕ) → f ≡ of_var v → renamed_filler to f ≡ of_var (slice_index to v)
  filler_stands f v e = ap (renamed_filler to) e

  pub ep_stands : (v : ℕ) (e : Predication) → StandsIn v e → StandsIn (slice_index to v) (renumbered to e)
  ep_stands v e (inl q) = inl (ap (λ (z : ℕ). slice_index to z) q)
  ep_stands v e (inr i) = inr (any_mapped Fills v (slice_index to v) (renamed_argument to) (λ a s. filler_stands a.filler v s) e.args i)

  pub con_stands : (v : ℕ) (c : Constraint) → IsEnd v c → IsEnd (slice_index to v) (renamed_constraint to c)
  con_stands v c (inl q) = inl (ap (λ (z : ℕ). slice_index to z) q)
  con_stands v c (inr q) = inr (ap (λ (z : ℕ). slice_index to z) q)
