-- An MRS without the variables that stand nowhere is one.
use Rattle.std.proofs.Common.{ℕ, zero, suc, ◌≡◌, ◌<◌, ◌≤◌, ◌⊎◌, inl, inr, List, [], ◌∷◌, length, get_or, refl, sym, ◌∙◌, ap, subst, arith, Some}
use Rattle.std.specs.Prelude.{All, slice_index}
use Rattle.std.specs.List.{slice_get, AllZip}
use Rattle.std.proofs.lemmas.Bool.{cases_order}
use Rattle.std.proofs.lemmas.Option.{same_Some}
use Rattle.mrs_model.specs.Meanings.{Variable, Filler, of_var, of_text, Argument, Predication, Constraint, Meaning}
use Rattle.mrs_model.specs.Renaming.{renamed_filler, renamed_argument, renamed_constraint}
use Rattle.mrs_model.specs.Valid.{IsFiller, IsArgument, IsPredication, IsConstraint}
use Rattle.transfer_model.specs.Rules.{Rule}
use Rattle.transfer_model.specs.Sites.{Site}
use Rattle.transfer_model.specs.Applying.{removed, rewritten, renumbered, IsTrimmed, IsApplied}
use Rattle.transfer_model.proofs.Lists.{In, in_of, contains_of, all_in, map_one, zip_length}

-- rising numbers
abbrev pub Rising : List ℕ → Type 0
Rising ks = (i j : ℕ) → i < j → j < length ks → slice_index ks i < slice_index ks j

rising_rest : (k : ℕ) (ks : List ℕ) → Rising (k ∷ ks) → Rising ks
rising_rest k ks r i j l m = r (suc i) (suc j) (omega (arith, l)) (omega (arith, m))

later : (k : ℕ) (ks : List ℕ) → Rising (k ∷ ks) → (v : ℕ) → In v ks → k < v
later k ks r v i = let c = contains_of ks v i in let l = c.1 in subst (λ z. k < z) (get_or_same ks c.0 v l ∙ c.2) (r 0 (suc c.0) (omega arith) (omega (arith, l)))
  where
    get_or_same : (xs : List ℕ) (n : ℕ) (d : ℕ) → n < length xs → get_or xs n 0 ≡ get_or xs n d
    get_or_same [] n d l = absurd (omega (arith, l))
    get_or_same (x ∷ xs) zero d l = refl
    get_or_same (x ∷ xs) (suc n) d l = get_or_same xs n d (omega (arith, l))

not_first : (k v : ℕ) (ks : List ℕ) → In v (k ∷ ks) → k < v → In v ks
not_first k v ks (inl e) l = absurd (omega (arith, e, l))
not_first k v ks (inr i) l = i

-- rising numbers are told by which they are
pub rising_one : (ks js : List ℕ) → Rising ks → Rising js → ((v : ℕ) → In v ks → In v js) → ((v : ℕ) → In v js → In v ks) → ks ≡ js
rising_one [] [] r s to back = refl
rising_one [] (j ∷ js) r s to back = absurd (back j (inl refl))
rising_one (k ∷ ks) [] r s to back = absurd (to k (inl refl))
rising_one (k ∷ ks) (j ∷ js) r s to back = by (to k (inl refl)) (back j (inl refl)) (rising_one ks js (rising_rest k ks r) (rising_rest j js s))
  where
    same : k ≡ j → (((v : ℕ) → In v ks → In v js) → ((v : ℕ) → In v js → In v ks) → ks ≡ js) → k ∷ ks ≡ j ∷ js
    same e go =
        let f = go
        (λ v i. not_first j v js (to v (inr i)) (subst (λ z. z < v) e (later k ks r v i)))
        (λ v i. not_first k v ks (back v (inr i)) (subst (λ z. z < v) (sym e) (later j js s v i))) in
        λ i. e i ∷ f i

    by : (k ≡ j) ⊎ In k js → (j ≡ k) ⊎ In j ks → (((v : ℕ) → In v ks → In v js) → ((v : ℕ) → In v js → In v ks) → ks ≡ js) → k ∷ ks ≡ j ∷ js
    by (inl e) o go = same e go
    by (inr i) (inl e) go = same (sym e) go
    by (inr i) (inr h) go = absurd (let l = later j js s k i in let m = later k ks r j h in omega (arith, l, m))

-- they are told apart by their places
pub apart_at : (ks : List ℕ) → Rising ks → (i j : ℕ) → i < length ks → j < length ks → slice_index ks i ≡ slice_index ks j → i ≡ j
apart_at ks r i j l m e = by (cases_order i j)
  where
    by : (i ≡ j) ⊎ ((i < j) ⊎ (j < i)) → i ≡ j
    by (inl d) = d
    by (inr (inl n)) = absurd (let h = r i j n m in omega (arith, h, e))
    by (inr (inr n)) = absurd (let h = r j i n l in omega (arith, h, e))

module _ (ks : List ℕ) (rises : Rising ks) where
  filler_one : (f g : Filler) → IsFiller (length ks) f → IsFiller (length ks) g → renamed_filler ks f ≡ renamed_filler ks g → f ≡ g
  filler_one (of_var v) (of_var w) l m e = ap of_var (apart_at ks rises v w l m (cc))
  filler_one (of_var v) (of_text t) l m e = absurd (cc)
  filler_one (of_text t) (of_var w) l m e = absurd (cc)
  filler_one (of_text t) (of_text u) l m e = e

  argument_one : (a b : Argument) → IsArgument (length ks) a → IsArgument (length ks) b → renamed_argument ks a ≡ renamed_argument ks b → a ≡ b
  argument_one a b h k e =
      let r : a.role ≡ b.role = ap (λ (z : Argument). z.role) e in
      let f = filler_one a.filler b.filler h.filler k.filler (ap (λ (z : Argument). z.filler) e) in
      λ i. record { role = r i; filler = f i }

  predication_one : (d e : Predication) → IsPredication (length ks) d → IsPredication (length ks) e → renumbered ks d ≡ renumbered ks e → d ≡ e
  predication_one d e h k q =
      let p : d.pred ≡ e.pred = ap (λ (z : Predication). z.pred) q in
      let l = apart_at ks rises d.label e.label h.label k.label (ap (λ (z : Predication). z.label) q) in
      let a = map_one (renamed_argument ks) (IsArgument (length ks)) argument_one d.args e.args h.args k.args (ap (λ (z : Predication). z.args) q) in
      let s : d.span ≡ e.span = ap (λ (z : Predication). z.span) q in
      λ i. record { pred = p i; label = l i; args = a i; span = s i }

  constraint_one : (c d : Constraint) → IsConstraint (length ks) c → IsConstraint (length ks) d → renamed_constraint ks c ≡ renamed_constraint ks d → c ≡ d
  constraint_one c d h k e =
      let l = apart_at ks rises c.left d.left h.left k.left (ap (λ (z : Constraint). z.left) e) in
      let n : c.rel ≡ d.rel = ap (λ (z : Constraint). z.rel) e in
      let r = apart_at ks rises c.right d.right h.right k.right (ap (λ (z : Constraint). z.right) e) in
      λ i. record { left = l i; rel = n i; right = r i }

vars_one : (all : List Variable) (ks : List ℕ) (xs ys : List Variable) → AllZip (λ v x. slice_get all v ≡ Some x) ks xs → AllZip (λ v x. slice_get all v ≡ Some x) ks ys → xs ≡ ys
vars_one all [] [] [] h k = refl
vars_one all [] [] (y ∷ ys) h k = absurd k
vars_one all [] (x ∷ xs) ys h k = absurd h
vars_one all (v ∷ ks) [] ys h k = absurd h
vars_one all (v ∷ ks) (x ∷ xs) [] h k = absurd k
vars_one all (v ∷ ks) (x ∷ xs) (y ∷ ys) h k =
    let e = same_Some x y (sym h.0 ∙ k.0) in
    let f = vars_one all ks xs ys h.1 k.1 in
    λ i. e i ∷ f i

same_kept : (a b c : Meaning) (ks js : List ℕ) → IsTrimmed a b ks → IsTrimmed a c js → b ≡ c
same_kept a b c ks js h k = from (rising_one ks js h.rises k.rises (λ v i. in_of js v ((k.standing v).1 ((h.standing v).0 (contains_of ks v i)))) (λ v i. in_of ks v ((h.standing v).1 ((k.standing v).0 (contains_of js v i)))))
  where
    all_of : (d : Meaning) → IsTrimmed a d ks → length d.vars ≡ length ks
    all_of d t = zip_length (λ v x. slice_get a.vars v ≡ Some x) ks d.vars t.vars

    same : IsTrimmed a c ks → b ≡ c
    same t =
        let n = all_of b h in
        let o = all_of c t in
        let bt = h.valid.top in
        let ct = t.valid.top in
        let bi = h.valid.index in
        let ci = t.valid.index in
        let top = apart_at ks h.rises b.top c.top (omega (arith, bt, n)) (omega (arith, ct, o)) (h.top ∙ sym t.top) in
        let index = apart_at ks h.rises b.index c.index (omega (arith, bi, n)) (omega (arith, ci, o)) (h.index ∙ sym t.index) in
        let vars = vars_one a.vars ks b.vars c.vars h.vars t.vars in
        let be = subst (λ (z : ℕ). All (IsPredication z) b.eps) n h.valid.eps in
        let ce = subst (λ (z : ℕ). All (IsPredication z) c.eps) o t.valid.eps in
        let eps = map_one (renumbered ks) (IsPredication (length ks)) (predication_one ks h.rises) b.eps c.eps be ce (h.eps ∙ sym t.eps) in
        let bh = subst (λ (z : ℕ). All (IsConstraint z) b.hcons) n h.valid.hcons in
        let ch = subst (λ (z : ℕ). All (IsConstraint z) c.hcons) o t.valid.hcons in
        let hcons = map_one (renamed_constraint ks) (IsConstraint (length ks)) (constraint_one ks h.rises) b.hcons c.hcons bh ch (h.hcons ∙ sym t.hcons) in
        let bc = subst (λ (z : ℕ). All (IsConstraint z) b.icons) n h.valid.icons in
        let cc' = subst (λ (z : ℕ). All (IsConstraint z) c.icons) o t.valid.icons in
        let icons = map_one (renamed_constraint ks) (IsConstraint (length ks)) (constraint_one ks h.rises) b.icons c.icons bc cc' (h.icons ∙ sym t.icons) in
        λ i. record { top = top i; index = index i; vars = vars i; eps = eps i; hcons = hcons i; icons = icons i }

    from : ks ≡ js → b ≡ c
    from e = same (subst (λ (z : List ℕ). IsTrimmed a c z) (sym e) k)

pub one_applied : (m a b : Meaning) (r : Rule) (s : Site) → IsApplied m r s a → IsApplied m r s b → a ≡ b
one_applied m a b r s h k =
    let l : h.first ≤ k.first = all_in (λ p. h.first ≤ p) (removed r s) k.first h.comes_first (in_of (removed r s) k.first k.is_removed) in
    let n : k.first ≤ h.first = all_in (λ p. k.first ≤ p) (removed r s) h.first k.comes_first (in_of (removed r s) h.first h.is_removed) in
    let e : k.first ≡ h.first = omega (arith, l, n) in
    same_kept (rewritten m r s h.first) a b h.kept k.kept h.trimmed (subst (λ (z : ℕ). IsTrimmed (rewritten m r s z) b k.kept) e k.trimmed)
