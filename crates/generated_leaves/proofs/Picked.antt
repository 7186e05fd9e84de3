-- Which of some trees are picked, and which are too deep.
use Rattle.std.specs.Prelude.{ℕ, ◌≡◌, ◌≤◌, ◌<◌, ◌||◌, nat_le, if◌then◌else◌, Bool, true, false, List, [], ◌∷◌}
use Rattle.std.proofs.Common.{zero, suc, refl, sym, ◌∙◌, ap, subst}
use Rattle.std.proofs.lemmas.Bool.{leb-true, leb-false, le-leb, lt-leb}
use Rattle.chart_model.specs.At.{At, here, there}
use Rattle.tree_model.specs.Lexical.{rule_count}
use Rattle.generate_model.specs.Bags.{BagTree, holds, empties}
use Rattle.generated_leaves.specs.Told.{ToldWord}
use Rattle.generated_leaves.specs.Leaves.{WordLeaf}
use Rattle.generated_leaves.specs.Inner.Picking.{leaf_at, fit_at, kept, picked, is_deep, some_deep}
use Rattle.generated_leaves.specs.declared.leaves.Fit.{Fit}
use Rattle.generated_leaves.specs.declared.leaves.Fit.TheVariants.{Not, Deep, Leaf}

abbrev choose : Bool → Bool → Bool → Fit
choose held low few = if held then (if low then (if few then Leaf else Not) else Deep) else Not

deep_choice : (held low few : Bool) → choose held low few ≡ Deep → (held ≡ true) × (low ≡ false)
deep_choice true true true e = absurd (cc)
deep_choice true true false e = absurd (cc)
deep_choice true false few e = (refl, refl)
deep_choice false low few e = absurd (cc)

leaf_choice : (held low few : Bool) → choose held low few ≡ Leaf → (held ≡ true) × (low ≡ true) × (few ≡ true)
leaf_choice true true true e = (refl, refl, refl)
leaf_choice true true false e = absurd (cc)
leaf_choice true false few e = absurd (cc)
leaf_choice false low few e = absurd (cc)

or_right : (a b : Bool) → a || b ≡ false → b ≡ false
or_right true b h = absurd (cc)
or_right false b h = h

module _ (b : BagTree) (most empty : ℕ) where
  pub record IsDeepAt (x : ToldWord) : Type 0 where
    pub held : holds b x.preds ≡ true
    pub deep : most < rule_count x.tree

  pub record IsLeafAt (x : ToldWord) : Type 0 where
    pub held : holds b x.preds ≡ true
    pub low : rule_count x.tree ≤ most
    pub few : empties x.preds ≤ empty

  pub deep_is : (x : ToldWord) → fit_at b most empty x ≡ Deep → IsDeepAt x
  deep_is x e =
      let c = deep_choice (holds b x.preds) (nat_le (rule_count x.tree) most) (nat_le (empties x.preds) empty) e in
      record { held = c.0; deep = leb-false (rule_count x.tree) most c.1 }

  pub is_deep_at : (x : ToldWord) → IsDeepAt x → fit_at b most empty x ≡ Deep
  is_deep_at x d = rw (d.held, lt-leb (rule_count x.tree) most d.deep) refl

  pub leaf_is : (x : ToldWord) → fit_at b most empty x ≡ Leaf → IsLeafAt x
  leaf_is x e =
      let c = leaf_choice (holds b x.preds) (nat_le (rule_count x.tree) most) (nat_le (empties x.preds) empty) e in
      record { held = c.0; low = leb-true (rule_count x.tree) most c.1; few = leb-true (empties x.preds) empty c.2 }

  pub is_leaf_at : (x : ToldWord) → IsLeafAt x → fit_at b most empty x ≡ Leaf
  is_leaf_at x l = rw (l.held, le-leb (rule_count x.tree) most l.low, le-leb (empties x.preds) empty l.few) refl

  abbrev DeepIn : List ToldWord → Type 0
  DeepIn xs = (n : ℕ) × (x : ToldWord) × At xs n x × IsDeepAt x

  pub deep_found : (xs : List ToldWord) → some_deep b most empty xs ≡ true → DeepIn xs
  deep_found [] h = absurd (cc)
  deep_found (x ∷ xs) h = by_fit (fit_at b most empty x) refl h (λ k. let r = deep_found xs k in (suc r.0, r.1, there r.2, r.3))
    where
      by_fit : (f : Fit) → fit_at b most empty x ≡ f → is_deep f || some_deep b most empty xs ≡ true → (some_deep b most empty xs ≡ true → DeepIn (x ∷ xs)) → DeepIn (x ∷ xs)
      by_fit Not e k go = go k
      by_fit Deep e k go = (zero, x, here, deep_is x e)
      by_fit Leaf e k go = go k

  pub none_deep : {xs : List ToldWord} {n : ℕ} {x : ToldWord} → some_deep b most empty xs ≡ false → At xs n x → IsDeepAt x → ⊥
  none_deep {xs = []} h a d = elim a [ ]
  none_deep {xs = x ∷ xs} h here d = let e = is_deep_at x d in let z : is_deep Deep || some_deep b most empty xs ≡ false = subst (λ f. is_deep f || some_deep b most empty xs ≡ false) e h in absurd (cc)
  none_deep {xs = y ∷ xs} h (there a) d = none_deep (or_right (is_deep (fit_at b most empty y)) (some_deep b most empty xs) h) a d

  abbrev PickedOf : List ToldWord → WordLeaf → Type 0
  PickedOf xs l = (k : ℕ) × (x : ToldWord) × At xs k x × IsLeafAt x × (l ≡ leaf_at b x)

  next_of : (y : ToldWord) (xs : List ToldWord) (l : WordLeaf) → PickedOf xs l → PickedOf (y ∷ xs) l
  next_of y xs l r = (suc r.0, r.1, there r.2, r.3, r.4)

  first_of_picked : (x : ToldWord) (xs : List ToldWord) (ls : List WordLeaf) (n : ℕ) (l : WordLeaf) → IsLeafAt x → At (leaf_at b x ∷ ls) n l → ((m : ℕ) → At ls m l → PickedOf xs l) → PickedOf (x ∷ xs) l
  first_of_picked x xs ls _ _ is here go = (zero, x, here, is, refl)
  first_of_picked x xs ls _ l is (there {i = m} a) go = next_of x xs l (go m a)

  pub picked_from : (xs : List ToldWord) (n : ℕ) (l : WordLeaf) → At (picked b most empty xs) n l → PickedOf xs l
  picked_from [] n l a = elim a [ ]
  picked_from (x ∷ xs) n l a = by_fit (fit_at b most empty x) refl a (λ m k. picked_from xs m l k)
    where
      by_fit : (f : Fit) → fit_at b most empty x ≡ f → At (kept b most empty f x (picked b most empty xs)) n l → ((m : ℕ) → At (picked b most empty xs) m l → PickedOf xs l) → PickedOf (x ∷ xs) l
      by_fit Not e k go = next_of x xs l (go n k)
      by_fit Deep e k go = next_of x xs l (go n k)
      by_fit Leaf e k go = first_of_picked x xs (picked b most empty xs) n l (leaf_is x e) k go

  abbrev PlaceOf : List ToldWord → WordLeaf → Type 0
  PlaceOf xs l = (n : ℕ) × At (picked b most empty xs) n l

  pub picked_at : {xs : List ToldWord} {k : ℕ} {x : ToldWord} → At xs k x → IsLeafAt x → PlaceOf xs (leaf_at b x)
  picked_at {xs = []} a is = elim a [ ]
  picked_at {xs = x ∷ xs} here is = (zero, subst (λ f. At (kept b most empty f x (picked b most empty xs)) zero (leaf_at b x)) (sym (is_leaf_at x is)) here)
  picked_at {xs = y ∷ xs} {x = x} (there a) is = by_fit (fit_at b most empty y) refl (picked_at a is)
    where
      by_fit : (f : Fit) → fit_at b most empty y ≡ f → PlaceOf xs (leaf_at b x) → PlaceOf (y ∷ xs) (leaf_at b x)
      by_fit Not e p = (p.0, subst (λ f. At (kept b most empty f y (picked b most empty xs)) p.0 (leaf_at b x)) (sym e) p.1)
      by_fit Deep e p = (p.0, subst (λ f. At (kept b most empty f y (picked b most empty xs)) p.0 (leaf_at b x)) (sym e) p.1)
      by_fit Leaf e p = (suc p.0, subst (λ f. At (kept b most empty f y (picked b most empty xs)) (suc p.0) (leaf_at b x)) (sym e) (there p.1))

  abbrev IsOnce : List ToldWord → Type 0
  IsOnce xs = (n m : ℕ) (x y : ToldWord) → At xs n x → At xs m y → x.tree ≡ y.tree → n ≡ m

  later_once : (x : ToldWord) (xs : List ToldWord) → IsOnce (x ∷ xs) → IsOnce xs
  later_once x xs once n m y z a c e = let r : suc n ≡ suc m = once (suc n) (suc m) y z (there a) (there c) e in cc

  -- the first isn't picked once more
  alone : (x : ToldWord) (xs : List ToldWord) → IsOnce (x ∷ xs) → (m : ℕ) (l : WordLeaf) → At (picked b most empty xs) m l → x.tree ≡ l.tree → ⊥
  alone x xs once m l a e =
      let r = picked_from xs m l a in
      let z : zero ≡ suc r.0 = once zero (suc r.0) x r.1 here (there r.2) (e ∙ ap (λ (w : WordLeaf). w.tree) r.4) in
      absurd (cc)

  first_once : (x : ToldWord) (xs : List ToldWord) → IsOnce (x ∷ xs) → (n m : ℕ) (l j : WordLeaf) → At (leaf_at b x ∷ picked b most empty xs) n l → At (leaf_at b x ∷ picked b most empty xs) m j → l.tree ≡ j.tree →
      ((p q : ℕ) → At (picked b most empty xs) p l → At (picked b most empty xs) q j → p ≡ q) → n ≡ m
  first_once x xs once _ _ _ _ here here e go = refl
  first_once x xs once _ _ _ j here (there {i = q} c) e go = absurd (alone x xs once q j c e)
  first_once x xs once _ _ l _ (there {i = p} a) here e go = absurd (alone x xs once p l a (sym e))
  first_once x xs once _ _ _ _ (there {i = p} a) (there {i = q} c) e go = ap suc (go p q a c)

  pub picked_once : (xs : List ToldWord) → IsOnce xs → (n m : ℕ) (l j : WordLeaf) → At (picked b most empty xs) n l → At (picked b most empty xs) m j → l.tree ≡ j.tree → n ≡ m
  picked_once [] once n m l j a c e = elim a [ ]
  picked_once (x ∷ xs) once n m l j a c e = by_fit (fit_at b most empty x) a c (λ p q d f. picked_once xs (later_once x xs once) p q l j d f e)
    where
      by_fit : (f : Fit) → At (kept b most empty f x (picked b most empty xs)) n l → At (kept b most empty f x (picked b most empty xs)) m j → ((p q : ℕ) → At (picked b most empty xs) p l → At (picked b most empty xs) q j → p ≡ q) → n ≡ m
      by_fit Not d k go = go n m d k
      by_fit Deep d k go = go n m d k
      by_fit Leaf d k go = first_once x xs once n m l j d k e go
