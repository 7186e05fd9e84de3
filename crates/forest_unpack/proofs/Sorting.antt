-- Trees that are kept, and sorted.
use Rattle.std.specs.Prelude.{◌≡◌, ℕ, ◌+◌, ◌<◌, Bool, false, List, [], ◌∷◌, ◌++◌, length, map, refl}
use Rattle.std.proofs.Common.{Bor, ap, subst, sym, ◌∙◌, arith, append_assoc, append-nil, take, get_or, zero, suc}
use Rattle.std.proofs.lemmas.List.{take_more}
use Rattle.std.proofs.lemmas.List.Sorted.{ranks_by, answers_always}
use Rattle.std.specs.Fn.{Mut, Called, ComparesAs}
use Rattle.std.specs.Cmp.{IsStrictWeakOrder}
use Rattle.std.specs.List.Sorted.{IsSortedBy}
use Rattle.std.specs.Ordering.{is_lt}
use Rattle.std.specs.declared.cmp.Ordering.{Ordering}
use Rattle.derivation.specs.Trees.{Derivation}
use Rattle.derivation.specs.Order.{compare_trees}
use Rattle.forest_unpack.specs.declared.counted.CountedTree.{CountedTree}
use Rattle.derivation.proofs.Total.{trees_total}
use Rattle.tree_model.specs.Readings.{Wholes}
use Rattle.tree_model.specs.Lists as model
use Rattle.forest_unpack.specs.declared.item.Item.{Item}
use Rattle.forest_unpack.specs.Items.{item_of, items_of}
use Rattle.forest_unpack.specs.Keeping.{Kept}
use Rattle.forest_unpack.specs.Counted.{derivation_in}
use Rattle.forest_unpack.proofs.Adding.{map_append}

module _ {A B : Type 0} (f : A → B) where
  get_mapped : (xs : List A) (i : ℕ) (d : B) (x : A) → i < length xs → get_or (map f xs) i d ≡ f (get_or xs i x)
  get_mapped [] i d x low = absurd (omega (arith, low))
  get_mapped (y ∷ ys) zero d x low = refl
  get_mapped (y ∷ ys) (suc n) d x low = get_mapped ys n d x (omega (arith, low))

  mapped_length : (xs : List A) → length (map f xs) ≡ length xs
  mapped_length [] = refl
  mapped_length (x ∷ xs) = omega (arith, mapped_length xs)

  sorted_mapped : (lt : B → B → Bool) (xs : List A) → IsSortedBy (λ x y. lt (f x) (f y)) xs → IsSortedBy lt (map f xs)
  sorted_mapped lt [] sorted k d low high = absurd (omega (arith, high))
  sorted_mapped lt (x ∷ xs) sorted k d low high =
      let e = mapped_length (x ∷ xs) in
      let small : k + 1 < length (x ∷ xs) = omega (arith, high, e) in
      let small2 : k < length (x ∷ xs) = omega (arith, high, e) in
      let a = get_mapped (x ∷ xs) (k + 1) d x small in
      let b = get_mapped (x ∷ xs) k d x small2 in
      rw (a, b) (sorted k x low small)

pub sorted_trees : (ts : List CountedTree) → ((k : ℕ) (d : CountedTree) → k + 1 < length ts → is_lt (compare_trees (derivation_in (get_or ts (k + 1) d)) (derivation_in (get_or ts k d))) ≡ false) →
    IsSortedBy (λ x y. is_lt (compare_trees x y)) (map derivation_in ts)
sorted_trees ts each = sorted_mapped derivation_in (λ x y. is_lt (compare_trees x y)) ts (λ k d low high. each k d high)

pub sorted_by_compare : {F : Type 0} {g : Mut F (Bor CountedTree × (Bor CountedTree × Unit {0})) Ordering} {f : F} (ts : List CountedTree) → ((lt : CountedTree → CountedTree → Bool) → IsStrictWeakOrder lt → ComparesAs g lt f → IsSortedBy lt ts) → ((f : F) (a : Bor CountedTree × (Bor CountedTree × Unit {0})) (r : Ordering) (q : F) → Called g f a r q → r ≡ compare_trees (derivation_in a.0.now) (derivation_in a.1.0.now)) → IsSortedBy (λ x y. is_lt (compare_trees x y)) (map derivation_in ts)
sorted_by_compare {g = g} {f = f} ts sorted answers =
    sorted_mapped derivation_in (λ x y. is_lt (compare_trees x y)) ts (sorted (λ x y. is_lt (compare_trees (derivation_in x) (derivation_in y))) (ranks_by trees_total derivation_in) (answers_always g (λ a r. is_lt r ≡ is_lt (compare_trees (derivation_in a.0.now) (derivation_in a.1.0.now))) f (λ h a r q called. ap is_lt (answers h a r q called))))

module _ {T C V : Type 0} (value : T → V) (w : Wholes V C) (c : C) where
  pub kept_none : (old : List CountedTree) → Kept value w c [] old old
  kept_none old = record { more = []; is = sym (append-nil old); keeps = model.keeps_none }

  pub kept_yes : (item : model.Item V) (t : CountedTree) (old new : List CountedTree) → new ≡ old ++ t ∷ [] → derivation_in t ≡ item.tree → w.accepted item.full c → Kept value w c (item ∷ []) old new
  kept_yes item t old new e is ok = record { more = t ∷ []; is = e; keeps = subst (λ d. model.Keeps w c (item ∷ []) (d ∷ [])) (sym is) (model.keeps item [] [] ok model.keeps_none) }

  pub kept_no : (item : model.Item V) (old : List CountedTree) → (w.accepted item.full c → ⊥) → Kept value w c (item ∷ []) old old
  kept_no item old never = record { more = []; is = sym (append-nil old); keeps = model.leaves_out item [] [] never model.keeps_none }

  keeps_append : {xs ys : List (model.Item V)} {ts us : List Derivation} → model.Keeps w c xs ts → model.Keeps w c ys us → model.Keeps w c (xs ++ ys) (ts ++ us)
  keeps_append model.keeps_none b = b
  keeps_append {ys = ys} {us = us} (model.leaves_out item items ts never rest) b = model.leaves_out item (items ++ ys) (ts ++ us) never (keeps_append rest b)
  keeps_append {ys = ys} {us = us} (model.keeps item items ts ok rest) b = model.keeps item (items ++ ys) (ts ++ us) ok (keeps_append rest b)

  pub kept_more : (xs ys : List (model.Item V)) (old mid new : List CountedTree) → Kept value w c xs old mid → Kept value w c ys mid new → Kept value w c (xs ++ ys) old new
  kept_more xs ys old mid new a b = record {
    more = a.more ++ b.more;
    is = b.is ∙ ap (λ zs. zs ++ b.more) a.is ∙ append_assoc old a.more b.more;
    keeps = subst (model.Keeps w c (xs ++ ys)) (sym (map_append derivation_in a.more b.more)) (keeps_append a.keeps b.keeps);
  }

module _ {X T C W V : Type 0} (value : T → V) (w : Wholes V C) (c : C) where
  pub kept_next : (items : List (Item X T C W)) (i : ℕ) (x : Item X T C W) (old mid new : List CountedTree) → i < length items → x ≡ get_or items i x → Kept value w c (items_of value (take i items)) old mid → Kept value w c (items_of value (x ∷ [])) mid new → Kept value w c (items_of value (take (i + 1) items)) old new
  kept_next items i x old mid new low is a b =
      let taken : items_of value (take (i + 1) items) ≡ items_of value (take i items) ++ items_of value (x ∷ []) = ap (items_of value) (take_more items i x low ∙ ap (λ z. take i items ++ z ∷ []) (sym is)) ∙ map_append (item_of value) (take i items) (x ∷ []) in
      subst (λ zs. Kept value w c zs old new) (sym taken) (kept_more value w c _ _ old mid new a b)
