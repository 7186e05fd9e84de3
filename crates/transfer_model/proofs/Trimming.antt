-- Variables that stand nowhere are dropped.
use Rattle.std.proofs.Common.{ℕ, zero, suc, ◌≡◌, ◌<◌, inl, inr, List, [], ◌∷◌, map, length, get_or, refl, sym, ◌∙◌, ap, subst, arith, Some}
use Rattle.std.specs.Prelude.{All, slice_index}
use Rattle.std.specs.List.{slice_get, AllZip}
use Rattle.std.proofs.lemmas.List.{length-map}
use Rattle.std.proofs.lemmas.List.Elements.{All-get_or}
use Rattle.std.proofs.lemmas.Option.{slice_get-get_or}
use Rattle.mrs_model.specs.Meanings.{Variable, Filler, of_var, of_text, Argument, Predication, Constraint, Meaning}
use Rattle.mrs_model.specs.Renaming.{renamed_filler, renamed_argument, renamed_constraint}
use Rattle.mrs_model.specs.Valid.{Rise, IsVariable, IsFiller, IsArgument, IsPredication, IsConstraint, StandsIn, IsEnd, Stands, IsValid}
use Rattle.transfer_model.specs.Rules.{Rule, IsRule}
use Rattle.transfer_model.specs.Sites.{Site, IsSite}
use Rattle.transfer_model.specs.Applying.{rewritten, renumbered, IsShaped, IsTrimmed, IsApplied}
use Rattle.transfer_model.proofs.Lists.{In, in_of, contains_of, all_in}
use Rattle.transfer_model.proofs.Trimmed.{Rising, apart_at}
use Rattle.transfer_model.proofs.Kept.{any_map, any_in, stands_known, kept_from, kept_in, in_kept, kept_rises, place, placed}
use Rattle.transfer_model.proofs.Shaped.{shaped, first_removed}

-- an MRS whose variables have the places that they have in a list
abbrev placed_filler : List ℕ → Filler → Filler
placed_filler ks (of_var v) = of_var (place ks v)
placed_filler ks (of_text t) = of_text t

abbrev placed_argument : List ℕ → Argument → Argument
placed_argument ks a = record { role = a.role; filler = placed_filler ks a.filler }

abbrev placed_ep : List ℕ → Predication → Predication
placed_ep ks e = record { pred = e.pred; label = place ks e.label; args = map (placed_argument ks) e.args; span = e.span }

abbrev placed_constraint : List ℕ → Constraint → Constraint
placed_constraint ks c = record { left = place ks c.left; rel = c.rel; right = place ks c.right }

abbrev no_variable : Variable
no_variable = record { sort = []; props = [] }

abbrev read : List Variable → ℕ → Variable
read all v = get_or all v no_variable

abbrev trimmed : List ℕ → Meaning → Meaning
trimmed ks m = record {
  top = place ks m.top;
  index = place ks m.index;
  vars = map (read m.vars) ks;
  eps = map (placed_ep ks) m.eps;
  hcons = map (placed_constraint ks) m.hcons;
  icons = map (placed_constraint ks) m.icons;
}

-- all of its variables are in the list
abbrev FillerIn : List ℕ → Filler → Type 0
FillerIn ks (of_var v) = In v ks
FillerIn ks (of_text t) = Unit {0}

abbrev EpIn : List ℕ → Predication → Type 0
EpIn ks e = In e.label ks × ((a : Argument) → In a e.args → FillerIn ks a.filler)

abbrev ConstraintIn : List ℕ → Constraint → Type 0
ConstraintIn ks c = In c.left ks × In c.right ks

map_back : {A B : Type 0} (f : A → B) (g : B → A) (P : A → Type 0) → ((x : A) → P x → g (f x) ≡ x) → (xs : List A) → ((x : A) → In x xs → P x) → map g (map f xs) ≡ xs
map_back f g P back [] h = refl
map_back f g P back (x ∷ xs) h = let e = back x (h x (inl refl)) in let r = map_back f g P back xs (λ y i. h y (inr i)) in λ i. e i ∷ r i

all_map : {A B : Type 0} (f : A → B) (P : A → Type 0) (Q : B → Type 0) → ((x : A) → P x → Q (f x)) → (xs : List A) → ((x : A) → In x xs → P x) → All Q (map f xs)
all_map f P Q g [] h k d l = absurd (omega (arith, l))
all_map f P Q g (x ∷ xs) h zero d l = g x (h x (inl refl))
all_map f P Q g (x ∷ xs) h (suc k) d l = all_map f P Q g xs (λ y i. h y (inr i)) k d (omega (arith, l))

roles_placed : (ks : List ℕ) (args : List Argument) → map (λ (a : Argument). a.role) (map (placed_argument ks) args) ≡ map (λ (a : Argument). a.role) args
roles_placed ks [] = refl
roles_placed ks (a ∷ args) = ap (λ (z : List (List ℕ)). a.role ∷ z) (roles_placed ks args)

module _ (ks : List ℕ) where
  filler_back : (f : Filler) → FillerIn ks f → renamed_filler ks (placed_filler ks f) ≡ f
  filler_back (of_var v) i = ap of_var (placed ks v i).1
  filler_back (of_text t) i = refl

  argument_back : (a : Argument) → FillerIn ks a.filler → renamed_argument ks (placed_argument ks a) ≡ a
  argument_back a i = let e = filler_back a.filler i in λ j. record { role = a.role; filler = e j }

  ep_back : (e : Predication) → EpIn ks e → renumbered ks (placed_ep ks e) ≡ e
  ep_back e h =
      let l = (placed ks e.label h.0).1 in
      let a = map_back (placed_argument ks) (renamed_argument ks) (λ x. FillerIn ks x.filler) argument_back e.args h.1 in
      λ j. record { pred = e.pred; label = l j; args = a j; span = e.span }

  constraint_back : (c : Constraint) → ConstraintIn ks c → renamed_constraint ks (placed_constraint ks c) ≡ c
  constraint_back c h =
      let l = (placed ks c.left h.0).1 in
      let r = (placed ks c.right h.1).1 in
      λ j. record { left = l j; rel = c.rel; right = r j }

  filler_ok : (f : Filler) → FillerIn ks f → IsFiller (length ks) (placed_filler ks f)
  filler_ok (of_var v) i = (placed ks v i).0
  filler_ok (of_text t) i = tt

  ep_ok : (n : ℕ) (e : Predication) → IsPredication n e × EpIn ks e → IsPredication (length ks) (placed_ep ks e)
  ep_ok n e h = record {
    pred = h.0.pred;
    label = (placed ks e.label h.1.0).0;
    args = all_map (placed_argument ks) (λ a. IsArgument n a × FillerIn ks a.filler) (IsArgument (length ks))
        (λ a w. record { role = w.0.role; not_label = w.0.not_label; filler = filler_ok a.filler w.1 }) e.args (λ a i. (all_in (IsArgument n) e.args a h.0.args i, h.1.1 a i));
    order = subst Rise (sym (roles_placed ks e.args)) h.0.order;
  }

  constraint_ok : (n : ℕ) (c : Constraint) → IsConstraint n c × ConstraintIn ks c → IsConstraint (length ks) (placed_constraint ks c)
  constraint_ok n c h = record { left = (placed ks c.left h.1.0).0; rel = h.0.rel; right = (placed ks c.right h.1.1).0 }

  -- what stands somewhere stands there by its place
  module _ (v w : ℕ) (same : place ks v ≡ w) where
    by_place : (u : ℕ) → u ≡ v → place ks u ≡ w
    by_place u e = ap (place ks) e ∙ same

    ep_stands : (e : Predication) → StandsIn v e → StandsIn w (placed_ep ks e)
    ep_stands e (inl l) = inl (by_place e.label l)
    ep_stands e (inr a) = inr (any_map (placed_argument ks) (λ x. x.filler ≡ of_var v) (λ x. x.filler ≡ of_var w) (λ x h. ap (placed_filler ks) h ∙ ap of_var same) e.args a)

    end_stands : (c : Constraint) → IsEnd v c → IsEnd w (placed_constraint ks c)
    end_stands c (inl l) = inl (by_place c.left l)
    end_stands c (inr r) = inr (by_place c.right r)

    stands : (m : Meaning) → Stands m v → Stands (trimmed ks m) w
    stands m (inl t) = inl (by_place m.top t)
    stands m (inr (inl i)) = inr (inl (by_place m.index i))
    stands m (inr (inr (inl e))) = inr (inr (inl (any_map (placed_ep ks) (StandsIn v) (StandsIn w) ep_stands m.eps e)))
    stands m (inr (inr (inr (inl h)))) = inr (inr (inr (inl (any_map (placed_constraint ks) (IsEnd v) (IsEnd w) end_stands m.hcons h))))
    stands m (inr (inr (inr (inr c)))) = inr (inr (inr (inr (any_map (placed_constraint ks) (IsEnd v) (IsEnd w) end_stands m.icons c))))

  vars_read : (all : List Variable) (js : List ℕ) → ((v : ℕ) → In v js → v < length all) → AllZip (λ v x. slice_get all v ≡ Some x) js (map (read all) js)
  vars_read all [] h = tt
  vars_read all (v ∷ js) h = (slice_get-get_or all v no_variable (h v (inl refl)), vars_read all js (λ u i. h u (inr i)))

module _ (m : Meaning) (shape : IsShaped m) where
  abbrev kept : List ℕ
  kept = kept_from (Stands m) (stands_known m) 0 (length m.vars)

  kept_is : (v : ℕ) → In v kept → (v < length m.vars) × Stands m v
  kept_is v i = let w = kept_in (Stands m) (stands_known m) 0 (length m.vars) v i in let l = w.1 in (omega (arith, l), w.2)

  is_kept : (v : ℕ) → v < length m.vars → Stands m v → In v kept
  is_kept v l s = in_kept (Stands m) (stands_known m) 0 (length m.vars) v (omega arith) (omega (arith, l)) s

  filler_kept : (e : Predication) → In e m.eps → (a : Argument) → In a e.args → (f : Filler) → a.filler ≡ f → IsFiller (length m.vars) f → FillerIn kept f
  filler_kept e i a j (of_var v) d l = is_kept v l (inr (inr (inl (any_in (StandsIn v) e m.eps i (inr (any_in (λ x. x.filler ≡ of_var v) a e.args j d))))))
  filler_kept e i a j (of_text t) d l = tt

  ep_kept : (e : Predication) → In e m.eps → IsPredication (length m.vars) e × EpIn kept e
  ep_kept e i =
      let h = all_in (IsPredication (length m.vars)) m.eps e shape.eps i in
      (h, (is_kept e.label h.label (inr (inr (inl (any_in (StandsIn e.label) e m.eps i (inl refl))))), λ a j. filler_kept e i a j a.filler refl (all_in (IsArgument (length m.vars)) e.args a h.args j).filler))

  hcon_kept : (c : Constraint) → In c m.hcons → IsConstraint (length m.vars) c × ConstraintIn kept c
  hcon_kept c i =
      let h = all_in (IsConstraint (length m.vars)) m.hcons c shape.hcons i in
      (h, (is_kept c.left h.left (inr (inr (inr (inl (any_in (IsEnd c.left) c m.hcons i (inl refl)))))), is_kept c.right h.right (inr (inr (inr (inl (any_in (IsEnd c.right) c m.hcons i (inr refl))))))))

  icon_kept : (c : Constraint) → In c m.icons → IsConstraint (length m.vars) c × ConstraintIn kept c
  icon_kept c i =
      let h = all_in (IsConstraint (length m.vars)) m.icons c shape.icons i in
      (h, (is_kept c.left h.left (inr (inr (inr (inr (any_in (IsEnd c.left) c m.icons i (inl refl)))))), is_kept c.right h.right (inr (inr (inr (inr (any_in (IsEnd c.right) c m.icons i (inr refl))))))))

  top_kept : In m.top kept
  top_kept = is_kept m.top shape.top (inl refl)

  index_kept : In m.index kept
  index_kept = is_kept m.index shape.index (inr (inl refl))

  many : length (map (read m.vars) kept) ≡ length kept
  many = length-map kept (read m.vars)

  rises : Rising kept
  rises = kept_rises (Stands m) (stands_known m) 0 (length m.vars)

  in_at : (xs : List ℕ) (k : ℕ) → k < length xs → In (get_or xs k 0) xs
  in_at [] k h = absurd (omega (arith, h))
  in_at (x ∷ xs) zero h = inl refl
  in_at (x ∷ xs) (suc k) h = inr (in_at xs k (omega (arith, h)))

  all_stand : (w : ℕ) → w < length (map (read m.vars) kept) → Stands (trimmed kept m) w
  all_stand w l =
      let n : w < length kept = omega (arith, l, many) in
      let i = in_at kept w n in
      let v = slice_index kept w in
      let p = placed kept v i in
      stands kept v w (apart_at kept rises (place kept v) w p.0 n p.1) m (kept_is v i).1

  valid : IsValid (trimmed kept m)
  valid =
      let t = (placed kept m.top top_kept).0 in
      let x = (placed kept m.index index_kept).0 in
      record {
        top = omega (arith, t, many);
        index = omega (arith, x, many);
        vars = all_map (read m.vars) (λ v. v < length m.vars) IsVariable (λ v l. All-get_or IsVariable m.vars v no_variable l shape.vars) kept (λ v i. (kept_is v i).0);
        eps = subst (λ (z : ℕ). All (IsPredication z) (map (placed_ep kept) m.eps)) (sym many) (all_map (placed_ep kept) (λ e. IsPredication (length m.vars) e × EpIn kept e) (IsPredication (length kept)) (ep_ok kept (length m.vars)) m.eps ep_kept);
        hcons = subst (λ (z : ℕ). All (IsConstraint z) (map (placed_constraint kept) m.hcons)) (sym many) (all_map (placed_constraint kept) (λ c. IsConstraint (length m.vars) c × ConstraintIn kept c) (IsConstraint (length kept)) (constraint_ok kept (length m.vars)) m.hcons hcon_kept);
        icons = subst (λ (z : ℕ). All (IsConstraint z) (map (placed_constraint kept) m.icons)) (sym many) (all_map (placed_constraint kept) (λ c. IsConstraint (length m.vars) c × ConstraintIn kept c) (IsConstraint (length kept)) (constraint_ok kept (length m.vars)) m.icons icon_kept);
        standing = all_stand;
      }

  pub is_trimmed : IsTrimmed m (trimmed kept m) kept
  is_trimmed = record {
    rises = rises;
    standing = λ v. ((λ c. kept_is v (in_of kept v c)), (λ w. contains_of kept v (is_kept v w.0 w.1)));
    vars = vars_read kept m.vars kept (λ v i. (kept_is v i).0);
    top = (placed kept m.top top_kept).1;
    index = (placed kept m.index index_kept).1;
    eps = map_back (placed_ep kept) (renumbered kept) (EpIn kept) (ep_back kept) m.eps (λ e i. (ep_kept e i).1);
    hcons = map_back (placed_constraint kept) (renamed_constraint kept) (ConstraintIn kept) (constraint_back kept) m.hcons (λ c i. (hcon_kept c i).1);
    icons = map_back (placed_constraint kept) (renamed_constraint kept) (ConstraintIn kept) (constraint_back kept) m.icons (λ c i. (icon_kept c i).1);
    valid = valid;
  }

pub some_applied : (m : Meaning) (r : Rule) (s : Site) → IsValid m → IsRule r → IsSite m r s → (a : Meaning) × IsApplied m r s a
some_applied m r s ok rule site =
    let w = first_removed m r s rule site in
    let n = rewritten m r s w.0 in
    let shape = shaped m r s ok rule site w.0 in
    (trimmed (kept n shape) n, record { first = w.0; is_removed = w.1.there; comes_first = w.1.least; kept = kept n shape; trimmed = is_trimmed n shape })
