-- Lists, and what they have.
use Rattle.std.proofs.Common.{ℕ, zero, suc, ◌≡◌, ◌<◌, ◌⊎◌, inl, inr, Bool, true, false, List, [], ◌∷◌, ◌++◌, length, map, get_or, refl, sym, ◌∙◌, ap, subst, arith, eq-eqb}
use Rattle.std.specs.Prelude.{Contains, All, filter, ◌==◌, Some}
use Rattle.std.specs.List.{flat_map}
use Rattle.std.proofs.lemmas.Bool.{eqb-true}
use Rattle.std.proofs.lemmas.List.Elements.{All-nil, All-cons}
use Rattle.fs_graph.specs.declared.graph.GraphArc.{GraphArc}
use Rattle.fs_graph.specs.GraphMap.{Rises, arc_to}

pub true_false : {A : Type 0} (b : Bool) → b ≡ true → b ≡ false → A
true_false b t f = let e : true ≡ false = sym t ∙ f in absurd (cc)

abbrev pub In : {A : Type 0} → A → List A → Type 0
In x [] = ⊥
In x (y ∷ ys) = (x ≡ y) ⊎ In x ys

pub in_of : {A : Type 0} (xs : List A) (x : A) → Contains xs x → In x xs
in_of [] x c = absurd (let l = c.1 in omega (arith, l))
in_of (y ∷ ys) x c = at c.0 c.1 c.2 (λ k l e. in_of ys x (k, l, e))
  where
    at : (k : ℕ) → k < length (y ∷ ys) → get_or (y ∷ ys) k x ≡ x → ((j : ℕ) → j < length ys → get_or ys j x ≡ x → In x ys) → In x (y ∷ ys)
    at zero l e go = inl (sym e)
    at (suc k) l e go = inr (go k (omega (arith, l)) e)

pub contains_of : {A : Type 0} (xs : List A) (x : A) → In x xs → Contains xs x
contains_of [] x h = absurd h
contains_of (y ∷ ys) x (inl e) = (0, omega arith, sym e)
contains_of (y ∷ ys) x (inr h) = let c = contains_of ys x h in let l = c.1 in (suc c.0, omega (arith, l), c.2)

pub in_left : {A : Type 0} (x : A) (xs ys : List A) → In x xs → In x (xs ++ ys)
in_left x [] ys h = absurd h
in_left x (y ∷ xs) ys (inl e) = inl e
in_left x (y ∷ xs) ys (inr h) = inr (in_left x xs ys h)

pub in_right : {A : Type 0} (x : A) (xs ys : List A) → In x ys → In x (xs ++ ys)
in_right x [] ys h = h
in_right x (y ∷ xs) ys h = inr (in_right x xs ys h)

pub in_either : {A : Type 0} (x : A) (xs ys : List A) → In x (xs ++ ys) → In x xs ⊎ In x ys
in_either x [] ys h = inr h
in_either x (y ∷ xs) ys (inl e) = inl (inl e)
in_either x (y ∷ xs) ys (inr h) = elim (in_either x xs ys h) [ inl k ↦ inl (inr k) | inr k ↦ inr k ]

pub in_map : {A B : Type 0} (f : A → B) (x : A) (xs : List A) → In x xs → In (f x) (map f xs)
in_map f x [] h = absurd h
in_map f x (y ∷ xs) (inl e) = inl (ap f e)
in_map f x (y ∷ xs) (inr h) = inr (in_map f x xs h)

pub of_map : {A B : Type 0} (f : A → B) (y : B) (xs : List A) → In y (map f xs) → (x : A) × In x xs × (y ≡ f x)
of_map f y [] h = absurd h
of_map f y (x ∷ xs) (inl e) = (x, inl refl, e)
of_map f y (x ∷ xs) (inr h) = let r = of_map f y xs h in (r.0, inr r.1, r.2)

pub in_flat : {A B : Type 0} (f : A → List B) (x : A) (y : B) (xs : List A) → In x xs → In y (f x) → In y (flat_map f xs)
in_flat f x y [] h k = absurd h
in_flat f x y (z ∷ xs) (inl e) k = in_left y (f z) (flat_map f xs) (subst (λ w. In y (f w)) e k)
in_flat f x y (z ∷ xs) (inr h) k = in_right y (f z) (flat_map f xs) (in_flat f x y xs h k)

pub of_flat : {A B : Type 0} (f : A → List B) (y : B) (xs : List A) → In y (flat_map f xs) → (x : A) × In x xs × In y (f x)
of_flat f y [] h = absurd h
of_flat f y (x ∷ xs) h = elim (in_either y (f x) (flat_map f xs) h) [
  | inl k ↦ (x, inl refl, k)
  | inr k ↦ (let r = of_flat f y xs k in (r.0, inr r.1, r.2))
]

filter_yes : {A : Type 0} (q : A → Bool) (x : A) (xs : List A) → q x ≡ true → filter q (x ∷ xs) ≡ x ∷ filter q xs
filter_yes q x xs e = rw e refl

filter_no : {A : Type 0} (q : A → Bool) (x : A) (xs : List A) → q x ≡ false → filter q (x ∷ xs) ≡ filter q xs
filter_no q x xs e = rw e refl

pub in_filter : {A : Type 0} (q : A → Bool) (x : A) (xs : List A) → In x xs → q x ≡ true → In x (filter q xs)
in_filter q x [] h e = absurd h
in_filter q x (y ∷ xs) (inl i) e = subst (In x) (sym (filter_yes q y xs (ap q (sym i) ∙ e))) (inl i)
in_filter q x (y ∷ xs) (inr h) e = by_test (q y) refl (in_filter q x xs h e)
  where
    by_test : (b : Bool) → q y ≡ b → In x (filter q xs) → In x (filter q (y ∷ xs))
    by_test true t k = subst (In x) (sym (filter_yes q y xs t)) (inr k)
    by_test false f k = subst (In x) (sym (filter_no q y xs f)) k

pub of_filter : {A : Type 0} (q : A → Bool) (x : A) (xs : List A) → In x (filter q xs) → In x xs × (q x ≡ true)
of_filter q x [] h = absurd h
of_filter q x (y ∷ xs) h = by_test (q y) refl (of_filter q x xs)
  where
    by_test : (b : Bool) → q y ≡ b → (In x (filter q xs) → In x xs × (q x ≡ true)) → In x (y ∷ xs) × (q x ≡ true)
    by_test true t go = elim (subst (In x) (filter_yes q y xs t) h) [
      | inl e ↦ (inl e, ap q e ∙ t)
      | inr k ↦ (let r = go k in (inr r.0, r.1))
    ]
    by_test false f go = let r = go (subst (In x) (filter_no q y xs f) h) in (inr r.0, r.1)

pub all_in : {A : Type 0} (P : A → Type 0) (xs : List A) → ((x : A) → In x xs → P x) → All P xs
all_in P [] h = All-nil P
all_in P (x ∷ xs) h = All-cons P x xs (h x (inl refl)) (all_in P xs (λ y k. h y (inr k)))

pub all_at : {A : Type 0} (P : A → Type 0) (xs : List A) (x : A) → All P xs → In x xs → P x
all_at P xs x all h = let c = contains_of xs x h in subst P c.2 (all c.0 x c.1)

pub flat_same : {A B : Type 0} (f h : A → List B) (xs : List A) → ((x : A) → In x xs → f x ≡ h x) → flat_map f xs ≡ flat_map h xs
flat_same f h [] e = refl
flat_same f h (x ∷ xs) e = let a = e x (inl refl) in let b = flat_same f h xs (λ y k. e y (inr k)) in λ i. a i ++ b i

-- arcs by rising feature
abbrev pub Firm : List GraphArc → Type 0
Firm [] = Unit {0}
Firm (a ∷ as_) = ((b : GraphArc) → In b as_ → a.feat.0 < b.feat.0) × Firm as_

pub firm_of : (arcs : List GraphArc) → Rises arcs → Firm arcs
firm_of [] r = tt
firm_of (a ∷ as_) r = (first, firm_of as_ (λ i j lt in_. r (suc i) (suc j) (omega (arith, lt)) (omega (arith, in_))))
  where
    feat_at : (xs : List GraphArc) (b : GraphArc) → In b xs → (j : ℕ) × (j < length xs) × (get_or (map (λ x. x.feat.0) xs) j 0 ≡ b.feat.0)
    feat_at [] b h = absurd h
    feat_at (x ∷ xs) b (inl e) = (0, omega arith, ap (λ y. y.feat.0) (sym e))
    feat_at (x ∷ xs) b (inr h) = let q = feat_at xs b h in let l = q.1 in (suc q.0, omega (arith, l), q.2)

    first : (b : GraphArc) → In b as_ → a.feat.0 < b.feat.0
    first b h = let q = feat_at as_ b h in let l = q.1 in subst (λ (k : ℕ). a.feat.0 < k) q.2 (r 0 (suc q.0) (omega arith) (omega (arith, l)))

pub firm_filter : (q : GraphArc → Bool) (arcs : List GraphArc) → Firm arcs → Firm (filter q arcs)
firm_filter q [] f = tt
firm_filter q (a ∷ as_) f = by_test (q a) refl (firm_filter q as_ f.1)
  where
    by_test : (b : Bool) → q a ≡ b → Firm (filter q as_) → Firm (filter q (a ∷ as_))
    by_test true t k = subst Firm (sym (filter_yes q a as_ t)) ((λ b h. f.0 b (of_filter q b as_ h).0), k)
    by_test false e k = subst Firm (sym (filter_no q a as_ e)) k

pub firm_arc : (arcs : List GraphArc) (a : GraphArc) → Firm arcs → In a arcs → arc_to arcs a.feat.0 ≡ Some a.to.0
firm_arc [] a f h = absurd h
firm_arc (b ∷ bs) a f (inl e) = rw (eq-eqb b.feat.0 a.feat.0 (ap (λ x. x.feat.0) (sym e))) (ap (λ x. Some x.to.0) (sym e))
firm_arc (b ∷ bs) a f (inr h) = by_test (b.feat.0 == a.feat.0) refl (firm_arc bs a f.1 h)
  where
    by_test : (c : Bool) → (b.feat.0 == a.feat.0) ≡ c → arc_to bs a.feat.0 ≡ Some a.to.0 → arc_to (b ∷ bs) a.feat.0 ≡ Some a.to.0
    by_test true t k = let e = eqb-true b.feat.0 a.feat.0 t in let l = f.0 a h in absurd (omega (arith, e, l))
    by_test false e k = rw e k

-- no element stands twice
abbrev pub Apart : {A : Type 0} → List A → Type 0
Apart [] = Unit {0}
Apart (x ∷ xs) = (In x xs → ⊥) × Apart xs

pub apart_append : {A : Type 0} (xs ys : List A) → Apart xs → Apart ys → ((x : A) → In x xs → In x ys → ⊥) → Apart (xs ++ ys)
apart_append [] ys a b none = b
apart_append (x ∷ xs) ys a b none =
    ((λ h. elim (in_either x xs ys h) [ inl k ↦ a.0 k | inr k ↦ none x (inl refl) k ]), apart_append xs ys a.1 b (λ y h k. none y (inr h) k))

pub apart_map : {A B : Type 0} (f : A → B) (xs : List A) → ((x y : A) → f x ≡ f y → x ≡ y) → Apart xs → Apart (map f xs)
apart_map f [] one a = tt
apart_map f (x ∷ xs) one a = ((λ h. (let r = of_map f (f x) xs h in a.0 (subst (λ z. In z xs) (sym (one x r.0 r.2)) r.1))), apart_map f xs one a.1)
