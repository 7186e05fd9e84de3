-- Of a list that is sorted by text, and in which equal texts stand in the order of trees, the first of each run.
use Rattle.std.specs.Prelude.{ℕ, ◌≡◌, ◌⊎◌, ◌+◌, ◌<◌, Bool, true, false, cond, not, ◌&&◌, List, [], ◌∷◌, length, map}
use Rattle.std.proofs.Common.{refl, sym, ◌∙◌, ap, subst, arith, zero, suc, inl, inr, get_or, add-one}
use Rattle.std.specs.List.{dedup, dedup_from}
use Rattle.std.specs.List.Sorted.{IsSortedBy, IsStableBy, ties}
use Rattle.std.specs.declared.cmp.Ordering.{Ordering}
use Rattle.std.specs.declared.cmp.Ordering.TheVariants.{Less, Equal, Greater}
use Rattle.std.specs.Ordering.{nat_cmp, is_lt, ordering_reverse}
use Rattle.std.specs.Cmp.{IsStrictWeakOrder}
use Rattle.std.specs.Cmp.Lexicographic.{slice_cmp}
use Rattle.std.specs.Str.{bytes_eq}
use Rattle.std.proofs.lemmas.Cmp.{nat_list_cmp_total}
use Rattle.std.proofs.lemmas.List.Sorted.{ranks_by, ties_stay_sorted}
use Rattle.std.proofs.lemmas.Map.Lookups.{exact_bytes}
use Rattle.std.proofs.lemmas.Slice.Eq.{bytes_eq-Decides}
use Rattle.fs_model.specs.Claims.{Has, here, there}
use Rattle.derivation.specs.Order.{compare_trees}
use Rattle.derivation.specs.Trees.{Derivation}
use Rattle.derivation.proofs.Total.{trees_total}
use Rattle.tree_model.specs.Readings.{Rises, rises_more}
use Rattle.tree_model.specs.Lexical.{Word}
use Rattle.generate_model.specs.Sentences.{Sentence, TextsRise, texts_none, texts_one, texts_more}

text_not_both : (x y : Word) → slice_cmp nat_cmp x y ≡ Less → slice_cmp nat_cmp y x ≡ Less → ⊥
text_not_both x y h k = let e = nat_list_cmp_total.antisymm x y in let f : slice_cmp nat_cmp x y ≡ Greater = e ∙ ap ordering_reverse k in cc

module _ {X : Type 0} (seen : X → Sentence) where
  abbrev text : X → Word
  text x = (seen x).text

  abbrev pub tree : X → Derivation
  tree x = (seen x).tree

  -- a text that comes before, and a tree that does
  abbrev pub By : X → X → Bool
  By x y = is_lt (slice_cmp nat_cmp (text x) (text y))

  abbrev pub ByTree : X → X → Bool
  ByTree x y = is_lt (compare_trees (tree x) (tree y))

  abbrev pub Same : X → X → Bool
  Same x y = bytes_eq (text x) (text y)

  by_order : IsStrictWeakOrder By
  by_order = ranks_by nat_list_cmp_total text

  tree_order : IsStrictWeakOrder ByTree
  tree_order = ranks_by trees_total tree

  -- the second may stand behind the first
  abbrev Follows : X → X → Type 0
  Follows x y = (slice_cmp nat_cmp (text x) (text y) ≡ Less) ⊎ ((text x ≡ text y) × (ByTree y x ≡ false))

  follows_on : (x y z : X) → Follows x y → Follows y z → Follows x z
  follows_on x y z (inl a) (inl b) = inl (nat_list_cmp_total.trans (text x) (text y) (text z) a b)
  follows_on x y z (inl a) (inr b) = inl (subst (λ w. slice_cmp nat_cmp (text x) w ≡ Less) b.0 a)
  follows_on x y z (inr a) (inl b) = inl (subst (λ w. slice_cmp nat_cmp w (text z) ≡ Less) (sym a.0) b)
  follows_on x y z (inr a) (inr b) = inr (a.0 ∙ b.0, tree_order.chain z y x b.1 a.1)

  data InOrder : List X → Type 0 where
    order_none : InOrder []
    order_more : {x : X} {xs : List X} → ((y : X) → Has y xs → Follows x y) → InOrder xs → InOrder (x ∷ xs)

  abbrev Neighbours : List X → Type 0
  Neighbours xs = (k : ℕ) (d : X) → k + 1 < length xs → Follows (get_or xs k d) (get_or xs (k + 1) d)

  neighbours_later : (x : X) (xs : List X) → Neighbours (x ∷ xs) → Neighbours xs
  neighbours_later x xs h k d lt =
      let p : get_or (x ∷ xs) (suc k + 1) d ≡ get_or xs (k + 1) d = rw (add-one (suc k), add-one k) refl in
      subst (λ z. Follows (get_or xs k d) z) p (h (suc k) d (omega (arith, lt)))

  in_order : (xs : List X) → Neighbours xs → InOrder xs
  in_order [] h = order_none
  in_order (x ∷ []) h = order_more (λ y m. elim m [ ]) order_none
  in_order (x ∷ y ∷ xs) h = next (in_order (y ∷ xs) (neighbours_later x (y ∷ xs) h))
    where
      first : Follows x y
      first = h 0 x (omega arith)

      next : InOrder (y ∷ xs) → InOrder (x ∷ y ∷ xs)
      next (order_more f o) = order_more (λ z m. behind f z m) (order_more f o)
        where
          behind : ((z : X) → Has z xs → Follows y z) → (z : X) → Has z (y ∷ xs) → Follows x z
          behind f z here = first
          behind f z (there m) = follows_on x y z first (f z m)

  -- what the stable sort gives
  follows_by : (x y : X) → By y x ≡ false → (ties By x y ≡ true → ByTree y x ≡ false) → (o : Ordering) → slice_cmp nat_cmp (text y) (text x) ≡ o → Follows x y
  follows_by x y down tied Less e = absurd (let f : true ≡ false = sym (ap is_lt e) ∙ down in cc)
  follows_by x y down tied Greater e = inl (nat_list_cmp_total.antisymm (text x) (text y) ∙ ap ordering_reverse e)
  follows_by x y down tied Equal e =
      let up : By x y ≡ false = ap is_lt (nat_list_cmp_total.antisymm (text x) (text y) ∙ ap ordering_reverse e) in
      let tie : ties By x y ≡ true = λ i. not (up i) && not (down i) in
      inr (sym (exact_bytes (text y) (text x) e), tied tie)

  follows : (xs ys : List X) → IsSortedBy ByTree xs → IsSortedBy By ys → IsStableBy By xs ys → Neighbours ys
  follows xs ys up sorted stable k d lt =
      follows_by (get_or ys k d) (get_or ys (k + 1) d) (sorted k d (omega arith) lt) (λ tie. ties_stay_sorted ByTree By tree_order by_order xs ys up stable k d lt tie)
      (slice_cmp nat_cmp (text (get_or ys (k + 1) d)) (text (get_or ys k d))) refl

  -- trees that rise
  trees_sorted : (xs : List X) → Rises (map tree xs) → IsSortedBy ByTree xs
  trees_sorted [] r k d low lt = absurd (omega (arith, lt))
  trees_sorted (x ∷ []) r k d low lt = absurd (omega (arith, lt))
  trees_sorted (x ∷ y ∷ xs) (rises_more _ _ _ l o) zero d low lt = tree_order.one_way x y (ap is_lt l)
  trees_sorted (x ∷ y ∷ xs) (rises_more _ _ _ l o) (suc k) d low lt =
      let p : get_or (x ∷ y ∷ xs) (suc k + 1) d ≡ get_or (y ∷ xs) (k + 1) d = rw (add-one (suc k), add-one k) refl in
      subst (λ z. ByTree z (get_or (y ∷ xs) k d) ≡ false) (sym p) (trees_sorted (y ∷ xs) o k d (omega arith) (omega (arith, lt)))

  -- the first of each run of a list that begins with x
  pub record AreFirsts (xs zs : List X) : Type 0 where
    pub rise : TextsRise (map seen zs)
    pub from : (z : X) → Has z zs → Has z xs
    pub least : (z : X) → Has z zs → (y : X) → Has y xs → text y ≡ text z → ByTree y z ≡ false
    pub all : (y : X) → Has y xs → (z : X) × Has z zs × (text z ≡ text y)

  record Firsts (x : X) (xs zs : List X) : Type 0 where
    rest : List X
    begins : zs ≡ x ∷ rest
    are : AreFirsts (x ∷ xs) zs

  itself : (x : X) → ByTree x x ≡ false
  itself x = by_test (ByTree x x) refl
    where
      by_test : (b : Bool) → ByTree x x ≡ b → b ≡ false
      by_test false e = refl
      by_test true e = sym e ∙ tree_order.one_way x x e

  one : (x : X) → Firsts x [] (x ∷ [])
  one x = record {
    rest = [];
    begins = refl;
    are = record {
      rise = texts_one;
      from = λ z h. h;
      least = λ z h y m e. same z y h m;
      all = λ y h. (y, h, refl);
    };
  }
    where
      same : (z y : X) → Has z (x ∷ []) → Has y (x ∷ []) → ByTree y z ≡ false
      same _ _ here here = itself x
      same _ _ here (there m) = elim m [ ]
      same _ _ (there h) m = elim h [ ]

  -- one more with the same text
  passed : (x y : X) (xs zs : List X) → text x ≡ text y → ByTree y x ≡ false → Firsts x xs zs → Firsts x (y ∷ xs) zs
  passed x y xs zs e up f = record {
    rest = f.rest;
    begins = f.begins;
    are = record {
      rise = f.are.rise;
      from = λ z h. wider z (f.are.from z h);
      least = λ z h w m t. least z h w m t;
      all = λ w m. all w m;
    };
  }
    where
      wider : (z : X) → Has z (x ∷ xs) → Has z (x ∷ y ∷ xs)
      wider _ here = here
      wider z (there h) = there (there h)

      least : (z : X) → Has z zs → (w : X) → Has w (x ∷ y ∷ xs) → text w ≡ text z → ByTree w z ≡ false
      least z h _ here t = f.are.least z h x here t
      least z h _ (there here) t = tree_order.chain y x z up (f.are.least z h x here (e ∙ t))
      least z h w (there (there m)) t = f.are.least z h w (there m) t

      all : (w : X) → Has w (x ∷ y ∷ xs) → (z : X) × Has z zs × (text z ≡ text w)
      all _ here = f.are.all x here
      all _ (there here) = let a = f.are.all x here in (a.0, a.1, a.2 ∙ e)
      all w (there (there m)) = f.are.all w (there m)

  -- one before all of these
  before_all : (x y : X) (xs zs : List X) → ((w : X) → Has w (y ∷ xs) → slice_cmp nat_cmp (text x) (text w) ≡ Less) → Firsts y xs zs → Firsts x (y ∷ xs) (x ∷ zs)
  before_all x y xs zs l f = record {
    rest = zs;
    begins = refl;
    are = record {
      rise = subst (λ us. TextsRise (seen x ∷ map seen us)) (sym f.begins) (texts_more (l y here) (subst (λ us. TextsRise (map seen us)) f.begins f.are.rise));
      from = λ z h. from z h;
      least = λ z h w m t. least z h w m t;
      all = λ w m. all w m;
    };
  }
    where
      from : (z : X) → Has z (x ∷ zs) → Has z (x ∷ y ∷ xs)
      from _ here = here
      from z (there h) = there (f.are.from z h)

      apart : (w : X) → Has w (y ∷ xs) → text w ≡ text x → ⊥
      apart w m e = let k = subst (λ v. slice_cmp nat_cmp (text x) v ≡ Less) e (l w m) in text_not_both (text x) (text x) k k

      least : (z : X) → Has z (x ∷ zs) → (w : X) → Has w (x ∷ y ∷ xs) → text w ≡ text z → ByTree w z ≡ false
      least _ here _ here t = itself x
      least _ here w (there m) t = absurd (apart w m t)
      least z (there h) _ here t = absurd (apart z (f.are.from z h) (sym t))
      least z (there h) w (there m) t = f.are.least z h w m t

      all : (w : X) → Has w (x ∷ y ∷ xs) → (z : X) × Has z (x ∷ zs) × (text z ≡ text w)
      all _ here = (x, here, refl)
      all w (there m) = let a = f.are.all w m in (a.0, there a.1, a.2)

  firsts : (x : X) (xs : List X) → InOrder (x ∷ xs) → Firsts x xs (dedup_from Same x xs)
  firsts x [] o = one x
  firsts x (y ∷ xs) (order_more f (order_more h o)) = by_test (Same y x) refl (f y here) (firsts x xs (order_more (λ z m. f z (there m)) o)) (firsts y xs (order_more h o))
    where
      by_follows : slice_cmp nat_cmp (text x) (text y) ≡ Less → (w : X) → Follows y w → slice_cmp nat_cmp (text x) (text w) ≡ Less
      by_follows l w (inl k) = nat_list_cmp_total.trans (text x) (text y) (text w) l k
      by_follows l w (inr k) = subst (λ v. slice_cmp nat_cmp (text x) v ≡ Less) k.0 l

      behind : slice_cmp nat_cmp (text x) (text y) ≡ Less → (w : X) → Has w (y ∷ xs) → slice_cmp nat_cmp (text x) (text w) ≡ Less
      behind l _ here = l
      behind l w (there m) = by_follows l w (h w m)

      by_test : (b : Bool) → Same y x ≡ b → Follows x y → Firsts x xs (dedup_from Same x xs) → Firsts y xs (dedup_from Same y xs) → Firsts x (y ∷ xs) (cond b (dedup_from Same x xs) (x ∷ dedup_from Same y xs))
      by_test true e (inr w) p q = passed x y xs (dedup_from Same x xs) w.0 w.1 p
      by_test true e (inl l) p q = absurd (let t : text y ≡ text x = (bytes_eq-Decides (text y) (text x)).0 e in let k = subst (λ v. slice_cmp nat_cmp (text x) v ≡ Less) t l in text_not_both (text x) (text x) k k)
      by_test false e (inr w) p q = absurd (let t = (bytes_eq-Decides (text y) (text x)).1 (sym w.0) in let n : true ≡ false = sym t ∙ e in cc)
      by_test false e (inl l) p q = before_all x y xs (dedup_from Same y xs) (λ w m. behind l w m) q

  pub firsts_of : (xs ys : List X) → Rises (map tree xs) → IsSortedBy By ys → IsStableBy By xs ys → AreFirsts ys (dedup Same ys)
  firsts_of xs ys r sorted stable = by_list ys (in_order ys (follows xs ys (trees_sorted xs r) sorted stable))
    where
      by_list : (zs : List X) → InOrder zs → AreFirsts zs (dedup Same zs)
      by_list [] o = record { rise = texts_none; from = λ z h. h; least = λ z h. elim h [ ]; all = λ y h. elim h [ ] }
      by_list (z ∷ zs) o = (firsts z zs o).are
