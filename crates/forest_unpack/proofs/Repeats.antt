-- Lists that leave out what repeats.
use Rattle.std.specs.Prelude.{◌≡◌, ◌⊎◌, ℕ, ◌<◌, All, Bool, true, List, [], ◌∷◌, ◌++◌, length, map, refl}
use Rattle.std.proofs.Common.{inl, inr, ap, subst, sym, ◌∙◌, append_assoc, append-nil, arith, get_or, ◌==◌}
use Rattle.std.proofs.lemmas.Bool.Decides.{Decides-eqb}
use Rattle.std.proofs.lemmas.List.Elements.{All-contains, All-cons, All-nil, All-push}
use Rattle.std.proofs.lemmas.List.Sorted.{All-permutation, IsPermutation-map}
use Rattle.std.specs.List.Sorted.{IsPermutation}
use Rattle.std.specs.Arc.{arc_value}
use Rattle.derivation.specs.Trees.{Derivation}
use Rattle.tree_model.specs.Lists as model
use Rattle.tree_model.specs.Lists.{Has, has_here, has_there, AllDiffer, differ_none, differ_more}
use Rattle.tree_model.proofs.Members.{has_left, has_right, Either, on_left, on_right, has_append, differ_append, has_map, map_has}
use Rattle.tree_model.proofs.Ordered.{differ_permuted, has_contains, has_permuted, permuted_has}
use Rattle.forest_unpack.specs.declared.item.Item.{Item}
use Rattle.forest_unpack.specs.declared.sifting.LeftOut.TheVariants as lefts
use Rattle.forest_unpack.specs.Items.{item_of, items_of}
use Rattle.forest_unpack.specs.Inner.Memos.{IsNumbered}
use Rattle.forest_unpack.specs.Sifted.{IsSifted, IsThere, MayLack}
use Rattle.forest_unpack.proofs.Adding.{map_append}
use Rattle.forest_unpack.proofs.Building.{has_index}

only : {A : Type 0} (x y : A) → Has y (x ∷ []) → y ≡ x
only x _ has_here = refl
only x y (has_there h) = elim h [ ]

module _ {V : Type 0} where
  abbrev trees_in : List (model.Item V) → List Derivation
  trees_in items = map (λ (item : model.Item V). item.tree) items

  abbrev fulls_in : List (model.Item V) → List V
  fulls_in items = map (λ (item : model.Item V). item.full) items

  pub sifted_nothing : (items : List (model.Item V)) → IsSifted lefts.Nothing items items
  sifted_nothing items = record { each = λ x h. h; others = λ x h. inl h; differ = λ d. d }

  sifted_none : IsSifted {V = V} lefts.Repeats [] []
  sifted_none = record { each = λ x h. h; others = λ x h. inl h; differ = λ d. d }

  others_on : (x : model.Item V) (ys ks : List (model.Item V)) → ((i : model.Item V) → Has i ys → Has i ks ⊎ MayLack lefts.Repeats ks i.full) → Has x ks ⊎ MayLack lefts.Repeats ks x.full → (i : model.Item V) → Has i (x ∷ ys) → Has i ks ⊎ MayLack lefts.Repeats ks i.full
  others_on x ys ks before this _ has_here = this
  others_on x ys ks before this i (has_there h) = before i h

  differ_rest : (x : model.Item V) (ys ks : List (model.Item V)) → (AllDiffer (trees_in ys) → AllDiffer (trees_in ks)) → AllDiffer (trees_in (x ∷ ys)) → AllDiffer (trees_in ks)
  differ_rest x ys ks before (differ_more not rest) = before rest

  -- one whose full structure is there
  pub repeats_more : (x : model.Item V) (ys ks : List (model.Item V)) → IsSifted lefts.Repeats ys ks → Has x.full (fulls_in ks) → IsSifted lefts.Repeats (x ∷ ys) ks
  repeats_more x ys ks s m = record {
    each = λ i h. has_there (s.each i h);
    others = others_on x ys ks s.others (inr m);
    differ = differ_rest x ys ks s.differ;
  }

  wider : (x i : model.Item V) (ks : List (model.Item V)) → Has i ks ⊎ MayLack lefts.Repeats ks i.full → Has i (ks ++ x ∷ []) ⊎ MayLack lefts.Repeats (ks ++ x ∷ []) i.full
  wider x i ks (inl h) = inl (has_left (x ∷ []) h)
  wider x i ks (inr m) = inr (subst (Has i.full) (sym (map_append (λ (item : model.Item V). item.full) ks (x ∷ []))) (has_left (x.full ∷ []) m))

  each_on : (x : model.Item V) (ys ks : List (model.Item V)) → ((i : model.Item V) → Has i ks → Has i ys) → (i : model.Item V) → Either i ks (x ∷ []) → Has i (x ∷ ys)
  each_on x ys ks before i (on_left h) = has_there (before i h)
  each_on x ys ks before _ (on_right has_here) = has_here
  each_on x ys ks before i (on_right (has_there h)) = elim h [ ]

  differ_on : (x : model.Item V) (ys ks : List (model.Item V)) → IsSifted lefts.Repeats ys ks → AllDiffer (trees_in (x ∷ ys)) → AllDiffer (trees_in (ks ++ x ∷ []))
  differ_on x ys ks s (differ_more not rest) =
      let both = differ_append (s.differ rest) (differ_more (λ h. elim h [ ]) differ_none)
      (λ t a b.
      let r = has_map (λ (item : model.Item V). item.tree) ks a in
      let e = r.is ∙ only x.tree t b in
      not (subst (λ z. Has z (trees_in ys)) e (map_has (λ (item : model.Item V). item.tree) (s.each r.source r.has)))) in
      subst AllDiffer (sym (map_append (λ (item : model.Item V). item.tree) ks (x ∷ []))) both

  -- one that is kept
  pub repeats_kept : (x : model.Item V) (ys ks : List (model.Item V)) → IsSifted lefts.Repeats ys ks → IsSifted lefts.Repeats (x ∷ ys) (ks ++ x ∷ [])
  repeats_kept x ys ks s = record {
    each = λ i h. each_on x ys ks s.each i (has_append ks h);
    others = others_on x ys (ks ++ x ∷ []) (λ i h. wider x i ks (s.others i h)) (inl (has_right ks has_here));
    differ = differ_on x ys ks s;
  }

  -- the same, in another order
  pub sifted_permuted : (ys zs ks : List (model.Item V)) → IsPermutation ys zs → IsSifted lefts.Repeats zs ks → IsSifted lefts.Repeats ys ks
  sifted_permuted ys zs ks p s = record {
    each = λ i h. permuted_has ys zs i p (s.each i h);
    others = λ i h. s.others i (has_permuted ys zs i p h);
    differ = λ d. s.differ (differ_permuted (trees_in ys) (trees_in zs) (IsPermutation-map (λ (item : model.Item V). item.tree) ys zs p) d);
  }

module _ {X T C W V : Type 0} (value : T → V) (known : List V) where
  -- items by what was taken of all, what is left and what was kept
  pub record Sifting (all left kept : List (Item X T C W)) : Type 0 where
    pub taken : List (Item X T C W)
    pub moved : IsPermutation all (left ++ taken)
    pub sifted : IsSifted lefts.Repeats (items_of value taken) (items_of value kept)
    pub left_numbered : All (IsNumbered value known) left
    pub kept_numbered : All (IsNumbered value known) kept

  pub sifting_begins : (all left kept : List (Item X T C W)) → IsPermutation all left → kept ≡ [] → All (IsNumbered value known) all → Sifting all left kept
  sifting_begins all left kept p e numbered = record {
    taken = [];
    moved = subst (IsPermutation all) (sym (append-nil left)) p;
    sifted = subst (λ zs. IsSifted lefts.Repeats [] (items_of value zs)) (sym e) sifted_none;
    left_numbered = All-permutation (IsNumbered value known) all left p numbered;
    kept_numbered = subst (All (IsNumbered value known)) (sym e) (All-nil (IsNumbered value known));
  }

  numbered_has : (items : List (Item X T C W)) (x : Item X T C W) → All (IsNumbered value known) items → Has x items → IsNumbered value known x
  numbered_has items x all h = All-contains (IsNumbered value known) items x all (has_contains h)

  numbered_front : (left rest : List (Item X T C W)) (x : Item X T C W) → left ≡ rest ++ x ∷ [] → All (IsNumbered value known) left → All (IsNumbered value known) rest
  numbered_front left rest x e all = every rest (λ y h. numbered_has left y all (subst (Has y) (sym e) (has_left (x ∷ []) h)))
    where
      every : (xs : List (Item X T C W)) → ((y : Item X T C W) → Has y xs → IsNumbered value known y) → All (IsNumbered value known) xs
      every [] go = All-nil (IsNumbered value known)
      every (y ∷ ys) go = All-cons (IsNumbered value known) y ys (go y has_here) (every ys (λ z h. go z (has_there h)))

  moved_on : (all left rest taken : List (Item X T C W)) (x : Item X T C W) → left ≡ rest ++ x ∷ [] → IsPermutation all (left ++ taken) → IsPermutation all (rest ++ x ∷ taken)
  moved_on all left rest taken x e p = subst (IsPermutation all) (ap (λ zs. zs ++ taken) e ∙ append_assoc rest (x ∷ []) taken) p

  full_there : (kept : List (Item X T C W)) (x : Item X T C W) → All (IsNumbered value known) kept → IsNumbered value known x → IsThere kept x.number → Has (value (arc_value x.full)) (fulls_in (items_of value kept))
  full_there kept x all one there =
      let a = numbered_has kept there.one all there.has in
      let same = there.same in
      let e : value (arc_value there.one.full) ≡ value (arc_value x.full) = cc in
      subst (λ z. Has z (fulls_in (items_of value kept))) e (map_has (λ (item : model.Item V). item.full) (map_has (item_of value) there.has))

  pub sifting_repeats : (all left rest kept : List (Item X T C W)) (x : Item X T C W) → left ≡ rest ++ x ∷ [] → IsThere kept x.number → Sifting all left kept → Sifting all rest kept
  sifting_repeats all left rest kept x e there s =
      let one = numbered_has left x s.left_numbered (subst (Has x) (sym e) (has_right rest has_here)) in
      record {
        taken = x ∷ s.taken;
        moved = moved_on all left rest s.taken x e s.moved;
        sifted = repeats_more (item_of value x) (items_of value s.taken) (items_of value kept) s.sifted (full_there kept x s.kept_numbered one there);
        left_numbered = numbered_front left rest x e s.left_numbered;
        kept_numbered = s.kept_numbered;
      }

  pub sifting_keeps : (all left rest kept more : List (Item X T C W)) (x : Item X T C W) → left ≡ rest ++ x ∷ [] → more ≡ kept ++ x ∷ [] → Sifting all left kept → Sifting all rest more
  sifting_keeps all left rest kept more x e f s =
      let one = numbered_has left x s.left_numbered (subst (Has x) (sym e) (has_right rest has_here)) in
      let items : items_of value more ≡ items_of value kept ++ item_of value x ∷ [] = ap (items_of value) f ∙ map_append (item_of value) kept (x ∷ []) in
      record {
        taken = x ∷ s.taken;
        moved = moved_on all left rest s.taken x e s.moved;
        sifted = subst (IsSifted lefts.Repeats (items_of value (x ∷ s.taken))) (sym items) (repeats_kept (item_of value x) (items_of value s.taken) (items_of value kept) s.sifted);
        left_numbered = numbered_front left rest x e s.left_numbered;
        kept_numbered = subst (All (IsNumbered value known)) (sym f) (All-push (IsNumbered value known) kept x s.kept_numbered one);
      }

  pub sifting_ends : (all left kept : List (Item X T C W)) → left ≡ [] → Sifting all left kept → IsSifted lefts.Repeats (items_of value all) (items_of value kept)
  sifting_ends all left kept e s =
      let p = subst (λ zs. IsPermutation all (zs ++ s.taken)) e s.moved in
      sifted_permuted (items_of value all) (items_of value s.taken) (items_of value kept) (IsPermutation-map (item_of value) all s.taken p) s.sifted

-- the item at a place has its number
pub there_last : {X T C W : Type 0} (kept : List (Item X T C W)) (i : ℕ) (x : Item X T C W) (number : ℕ) → x ≡ get_or kept i x → i < length kept → x.number ≡ number → IsThere kept number
there_last kept i x number at low same = record { one = x; has = subst (λ z. Has z kept) (sym at) (has_index kept i x low); same = same }

-- a list that is seen to be empty
pub empty_by : {A : Type 0} (xs : List A) (b : Bool) → b ≡ (length xs == 0) → b ≡ true → xs ≡ []
empty_by [] b e t = refl
empty_by (x ∷ xs) b e t = let k : length (x ∷ xs) ≡ 0 = (Decides-eqb (length (x ∷ xs)) 0).0 (sym e ∙ t) in absurd (omega (arith, k))
