-- What a function of variables makes of what stands in an MRS.
use Rattle.std.proofs.Common.{ℕ, ◌≡◌, ◌<◌, inl, inr, List, [], ◌∷◌, length, map, slice_index, refl, sym, ◌∙◌, ap, subst}
use Rattle.std.specs.Prelude.{All}
use Rattle.std.specs.List.{Any}
use Rattle.std.proofs.lemmas.List.Elements.{All-head, All-tail, All-weaker}
use Rattle.mrs_model.specs.Meanings.{Filler, of_var, of_text, Argument, Predication, Constraint, Meaning}
use Rattle.mrs_model.specs.Valid.{IsFiller, IsArgument, IsPredication, IsConstraint, IsValid, StandsIn, IsEnd, Stands}
use Rattle.mrs_model.specs.Renaming.{IsVariableMap, renamed_filler, renamed_argument, renamed_constraint}
use Rattle.mrs_model.proofs.Rows.{any_rows}
use Rattle.mrs_reading.specs.Laws.{renumbered, IsRenumbering}

abbrev pub moved_filler : (ℕ → ℕ) → Filler → Filler
moved_filler f (of_var v) = of_var (f v)
moved_filler f (of_text t) = of_text t

abbrev pub moved_argument : (ℕ → ℕ) → Argument → Argument
moved_argument f a = record { role = a.role; filler = moved_filler f a.filler }

abbrev pub moved_ep : (ℕ → ℕ) → Predication → Predication
moved_ep f e = record { pred = e.pred; label = f e.label; args = map (moved_argument f) e.args; span = e.span }

abbrev pub moved_constraint : (ℕ → ℕ) → Constraint → Constraint
moved_constraint f c = record { left = f c.left; rel = c.rel; right = f c.right }

-- the second is the first, where the function has been applied to each variable that stands there
pub record IsMoved (f : ℕ → ℕ) (a b : Meaning) : Type 0 where
  pub top : f a.top ≡ b.top
  pub index : f a.index ≡ b.index
  pub eps : map (moved_ep f) a.eps ≡ b.eps
  pub hcons : map (moved_constraint f) a.hcons ≡ b.hcons
  pub icons : map (moved_constraint f) a.icons ≡ b.icons

-- the variables of an elementary predication and of a constraint are below this number
pub record EpWithin (n : ℕ) (e : Predication) : Type 0 where
  pub label : e.label < n
  pub args : All (λ a. IsFiller n a.filler) e.args

pub record EndsWithin (n : ℕ) (c : Constraint) : Type 0 where
  pub left : c.left < n
  pub right : c.right < n

pub record IsWithin (n : ℕ) (a : Meaning) : Type 0 where
  pub top : a.top < n
  pub index : a.index < n
  pub eps : All (EpWithin n) a.eps
  pub hcons : All (EndsWithin n) a.hcons
  pub icons : All (EndsWithin n) a.icons

pub ep_within : (n : ℕ) (e : Predication) → IsPredication n e → EpWithin n e
ep_within n e is = record { label = is.label; args = All-weaker (IsArgument n) (λ a. IsFiller n a.filler) (λ a h. h.filler) e.args is.args }

pub ends_within : (n : ℕ) (c : Constraint) → IsConstraint n c → EndsWithin n c
ends_within n c is = record { left = is.left; right = is.right }

pub valid_within : (a : Meaning) → IsValid a → IsWithin (length a.vars) a
valid_within a v =
    let n = length a.vars in
    record {
      top = v.top;
      index = v.index;
      eps = All-weaker (IsPredication n) (EpWithin n) (ep_within n) a.eps v.eps;
      hcons = All-weaker (IsConstraint n) (EndsWithin n) (ends_within n) a.hcons v.hcons;
      icons = All-weaker (IsConstraint n) (EndsWithin n) (ends_within n) a.icons v.icons;
    }

-- by a list of numbers
module _ (to : List ℕ) where
  abbrev by_list : ℕ → ℕ
  by_list v = slice_index to v

  filler_by_list : (x : Filler) → renamed_filler to x ≡ moved_filler by_list x
  filler_by_list (of_var v) = refl
  filler_by_list (of_text t) = refl

  arguments_by_list : (xs : List Argument) → map (renamed_argument to) xs ≡ map (moved_argument by_list) xs
  arguments_by_list [] = refl
  arguments_by_list (x ∷ xs) = let e = filler_by_list x.filler in let r = arguments_by_list xs in λ i. record { role = x.role; filler = e i } ∷ r i

  pub ep_by_list : (e : Predication) → renumbered to e ≡ moved_ep by_list e
  ep_by_list e = let r = arguments_by_list e.args in λ i. record { pred = e.pred; label = slice_index to e.label; args = r i; span = e.span }

  pub eps_by_list : (es : List Predication) → map (renumbered to) es ≡ map (moved_ep by_list) es
  eps_by_list [] = refl
  eps_by_list (e ∷ es) = let r = ep_by_list e in let rs = eps_by_list es in λ i. r i ∷ rs i

  pub constraints_by_list : (cs : List Constraint) → map (renamed_constraint to) cs ≡ map (moved_constraint by_list) cs
  constraints_by_list [] = refl
  constraints_by_list (c ∷ cs) = ap (λ rs. renamed_constraint to c ∷ rs) (constraints_by_list cs)

  pub moved_by_list : (a b : Meaning) → IsRenumbering a b to → IsMoved by_list a b
  moved_by_list a b r = record {
    top = r.top;
    index = r.index;
    eps = sym (eps_by_list a.eps) ∙ r.eps;
    hcons = sym (constraints_by_list a.hcons) ∙ r.hcons;
    icons = sym (constraints_by_list a.icons) ∙ r.icons;
  }

  pub renumbering_of : (a b : Meaning) → IsVariableMap a.vars b.vars to → IsMoved by_list a b → IsRenumbering a b to
  renumbering_of a b vars r = record {
    vars = vars;
    top = r.top;
    index = r.index;
    eps = eps_by_list a.eps ∙ r.eps;
    hcons = constraints_by_list a.hcons ∙ r.hcons;
    icons = constraints_by_list a.icons ∙ r.icons;
  }

-- two functions that agree below a number
module _ (f g : ℕ → ℕ) (n : ℕ) (agree : (v : ℕ) → v < n → f v ≡ g v) where
  pub filler_same : (x : Filler) → IsFiller n x → moved_filler f x ≡ moved_filler g x
  filler_same (of_var v) l = ap of_var (agree v l)
  filler_same (of_text t) l = refl

  arguments_same : (xs : List Argument) → All (λ a. IsFiller n a.filler) xs → map (moved_argument f) xs ≡ map (moved_argument g) xs
  arguments_same [] h = refl
  arguments_same (x ∷ xs) h =
      let e = filler_same x.filler (All-head (λ a. IsFiller n a.filler) x xs h) in
      let r = arguments_same xs (All-tail (λ a. IsFiller n a.filler) x xs h) in
      λ i. record { role = x.role; filler = e i } ∷ r i

  pub eps_same : (es : List Predication) → All (EpWithin n) es → map (moved_ep f) es ≡ map (moved_ep g) es
  eps_same [] h = refl
  eps_same (e ∷ es) h =
      let is = All-head (EpWithin n) e es h in
      let l = agree e.label is.label in
      let r = arguments_same e.args is.args in
      let rs = eps_same es (All-tail (EpWithin n) e es h) in
      λ i. record { pred = e.pred; label = l i; args = r i; span = e.span } ∷ rs i

  pub constraints_same : (cs : List Constraint) → All (EndsWithin n) cs → map (moved_constraint f) cs ≡ map (moved_constraint g) cs
  constraints_same [] h = refl
  constraints_same (c ∷ cs) h =
      let is = All-head (EndsWithin n) c cs h in
      let l = agree c.left is.left in
      let r = agree c.right is.right in
      let rs = constraints_same cs (All-tail (EndsWithin n) c cs h) in
      λ i. record { left = l i; rel = c.rel; right = r i } ∷ rs i

  pub moved_same : (a b : Meaning) → IsWithin n a → IsMoved f a b → IsMoved g a b
  moved_same a b w m = record {
    top = sym (agree a.top w.top) ∙ m.top;
    index = sym (agree a.index w.index) ∙ m.index;
    eps = sym (eps_same a.eps w.eps) ∙ m.eps;
    hcons = sym (constraints_same a.hcons w.hcons) ∙ m.hcons;
    icons = sym (constraints_same a.icons w.icons) ∙ m.icons;
  }

-- one function after another
module _ (f g : ℕ → ℕ) where
  abbrev both : ℕ → ℕ
  both v = g (f v)

  filler_then : (x : Filler) → moved_filler g (moved_filler f x) ≡ moved_filler both x
  filler_then (of_var v) = refl
  filler_then (of_text t) = refl

  arguments_then : (xs : List Argument) → map (moved_argument g) (map (moved_argument f) xs) ≡ map (moved_argument both) xs
  arguments_then [] = refl
  arguments_then (x ∷ xs) = let e = filler_then x.filler in let r = arguments_then xs in λ i. record { role = x.role; filler = e i } ∷ r i

  eps_then : (es : List Predication) → map (moved_ep g) (map (moved_ep f) es) ≡ map (moved_ep both) es
  eps_then [] = refl
  eps_then (e ∷ es) = let r = arguments_then e.args in let rs = eps_then es in λ i. record { pred = e.pred; label = g (f e.label); args = r i; span = e.span } ∷ rs i

  constraints_then : (cs : List Constraint) → map (moved_constraint g) (map (moved_constraint f) cs) ≡ map (moved_constraint both) cs
  constraints_then [] = refl
  constraints_then (c ∷ cs) = ap (λ rs. moved_constraint both c ∷ rs) (constraints_then cs)

  pub moved_then : (a b c : Meaning) → IsMoved f a b → IsMoved g b c → IsMoved both a c
  moved_then a b c m k = record {
    top = ap g m.top ∙ k.top;
    index = ap g m.index ∙ k.index;
    eps = sym (eps_then a.eps) ∙ ap (map (moved_ep g)) m.eps ∙ k.eps;
    hcons = sym (constraints_then a.hcons) ∙ ap (map (moved_constraint g)) m.hcons ∙ k.hcons;
    icons = sym (constraints_then a.icons) ∙ ap (map (moved_constraint g)) m.icons ∙ k.icons;
  }

filler_still : (x : Filler) → moved_filler (λ v. v) x ≡ x
filler_still (of_var v) = refl
filler_still (of_text t) = refl

arguments_still : (xs : List Argument) → map (moved_argument (λ v. v)) xs ≡ xs
arguments_still [] = refl
arguments_still (x ∷ xs) = let e = filler_still x.filler in let r = arguments_still xs in λ i. record { role = x.role; filler = e i } ∷ r i

eps_still : (es : List Predication) → map (moved_ep (λ v. v)) es ≡ es
eps_still [] = refl
eps_still (e ∷ es) = let r = arguments_still e.args in let rs = eps_still es in λ i. record { pred = e.pred; label = e.label; args = r i; span = e.span } ∷ rs i

constraints_still : (cs : List Constraint) → map (moved_constraint (λ v. v)) cs ≡ cs
constraints_still [] = refl
constraints_still (c ∷ cs) = ap (λ rs. c ∷ rs) (constraints_still cs)

-- there and back
module _ (f g : ℕ → ℕ) (n : ℕ) (back : (v : ℕ) → v < n → g (f v) ≡ v) where
  eps_back : (es fs : List Predication) → All (EpWithin n) es → map (moved_ep f) es ≡ fs → map (moved_ep g) fs ≡ es
  eps_back es fs w e = ap (map (moved_ep g)) (sym e) ∙ eps_then f g es ∙ eps_same (λ v. g (f v)) (λ v. v) n back es w ∙ eps_still es

  constraints_back : (cs ds : List Constraint) → All (EndsWithin n) cs → map (moved_constraint f) cs ≡ ds → map (moved_constraint g) ds ≡ cs
  constraints_back cs ds w e = ap (map (moved_constraint g)) (sym e) ∙ constraints_then f g cs ∙ constraints_same (λ v. g (f v)) (λ v. v) n back cs w ∙ constraints_still cs

  pub moved_back : (a b : Meaning) → IsWithin n a → IsMoved f a b → IsMoved g b a
  moved_back a b w m = record {
    top = ap g (sym m.top) ∙ back a.top w.top;
    index = ap g (sym m.index) ∙ back a.index w.index;
    eps = eps_back a.eps b.eps w.eps m.eps;
    hcons = constraints_back a.hcons b.hcons w.hcons m.hcons;
    icons = constraints_back a.icons b.icons w.icons m.icons;
  }

any_weaker : {X : Type 0} (P Q : X → Type 0) → ((x : X) → P x → Q x) → (xs : List X) → Any P xs → Any Q xs
any_weaker P Q h xs (k, x, l, e, p) = (k, x, l, e, h x p)

-- a variable that stands in the one stands in the other
module _ (f : ℕ → ℕ) (v : ℕ) where
  filler_stands : (x : Filler) → x ≡ of_var v → moved_filler f x ≡ of_var (f v)
  filler_stands x e = ap (moved_filler f) e

  ep_stands : (e : Predication) → StandsIn v e → StandsIn (f v) (moved_ep f e)
  ep_stands e (inl h) = inl (ap f h)
  ep_stands e (inr h) =
      inr (any_rows (moved_argument f) (λ a. a.filler ≡ of_var (f v)) e.args (any_weaker (λ a. a.filler ≡ of_var v) (λ a. moved_filler f a.filler ≡ of_var (f v)) (λ a q. filler_stands a.filler q) e.args h))

  end_stands : (c : Constraint) → IsEnd v c → IsEnd (f v) (moved_constraint f c)
  end_stands c (inl h) = inl (ap f h)
  end_stands c (inr h) = inr (ap f h)

  eps_stand : (es fs : List Predication) → map (moved_ep f) es ≡ fs → Any (StandsIn v) es → Any (StandsIn (f v)) fs
  eps_stand es fs e h =
      subst (Any (StandsIn (f v))) e (any_rows (moved_ep f) (StandsIn (f v)) es (any_weaker (StandsIn v) (λ x. StandsIn (f v) (moved_ep f x)) ep_stands es h))

  ends_stand : (cs ds : List Constraint) → map (moved_constraint f) cs ≡ ds → Any (IsEnd v) cs → Any (IsEnd (f v)) ds
  ends_stand cs ds e h =
      subst (Any (IsEnd (f v))) e (any_rows (moved_constraint f) (IsEnd (f v)) cs (any_weaker (IsEnd v) (λ x. IsEnd (f v) (moved_constraint f x)) end_stands cs h))

  pub moved_stands : (a b : Meaning) → IsMoved f a b → Stands a v → Stands b (f v)
  moved_stands a b m (inl e) = inl (sym m.top ∙ ap f e)
  moved_stands a b m (inr (inl e)) = inr (inl (sym m.index ∙ ap f e))
  moved_stands a b m (inr (inr (inl h))) = inr (inr (inl (eps_stand a.eps b.eps m.eps h)))
  moved_stands a b m (inr (inr (inr (inl h)))) = inr (inr (inr (inl (ends_stand a.hcons b.hcons m.hcons h))))
  moved_stands a b m (inr (inr (inr (inr h)))) = inr (inr (inr (inr (ends_stand a.icons b.icons m.icons h))))
