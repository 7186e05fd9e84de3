-- Rules by number and by place, leaves by number, and spans joined.
use Rattle.std.specs.Prelude.{ℕ, ◌≡◌, ◌+◌, ◌<◌, Bool, true, false, Some, List, [], ◌∷◌, length, map, slice_get}
use Rattle.std.proofs.Common.{refl, sym, ◌∙◌, ap, subst, zero, suc, arith}
use Rattle.chart_model.specs.At.{At, here, there}
use Rattle.chart_model.specs.Chart as chart
use Rattle.chart_model.specs.Classes.{Class, class_shapes}
use Rattle.tree_model.specs.Structures.{Structure}
use Rattle.tree_model.specs.Mothers.{Rule}
use Rattle.tree_model.specs.Signs.{Instance, Kind, an_entry, a_lexical_rule, a_phrase_rule, a_root, another, is_phrase_rule, phrase_rules}
use Rattle.tree_model.specs.Items.{LeafTree, leaves_from}

-- a phrase rule's place has a number
pub record Numbered (rs : List (ℕ × Rule)) (place : ℕ) (rule : Rule) : Type 0 where
  pub number : ℕ
  pub at : slice_get rs number ≡ Some (place, rule)

pub number_of : (p k : ℕ) (is : List Instance) (i : Instance) → slice_get is k ≡ Some i → i.kind ≡ a_phrase_rule → Numbered (phrase_rules p is) (p + k) i.rule
number_of p k [] i e h = absurd (cc)
number_of p zero (j ∷ is) i e h =
    let x : j ≡ i = cc in
    let y : is_phrase_rule j.kind ≡ true = ap (λ (z : Instance). is_phrase_rule z.kind) x ∙ ap is_phrase_rule h in
    record { number = 0; at = rw y (ap (λ (z : Instance). Some (p, z.rule)) x ∙ ap (λ n. Some (n, i.rule)) (omega arith)) }
number_of p (suc k) (j ∷ is) i e h =
    let z = number_of (p + 1) k is i e h in
    by_kind (is_phrase_rule j.kind) refl z.number (z.at ∙ ap (λ n. Some (n, i.rule)) (omega arith))
  where
    by_kind : (b : Bool) → is_phrase_rule j.kind ≡ b → (n : ℕ) → slice_get (phrase_rules (p + 1) is) n ≡ Some (p + suc k, i.rule) → Numbered (phrase_rules p (j ∷ is)) (p + suc k) i.rule
    by_kind true q n a = record { number = suc n; at = rw q a }
    by_kind false q n a = record { number = n; at = rw q a }

-- and a number its place
pub record Placed (is : List Instance) (p place : ℕ) (rule : Rule) : Type 0 where
  pub offset : ℕ
  pub place_is : place ≡ p + offset
  pub instance : Instance
  pub at : slice_get is offset ≡ Some instance
  pub kind : instance.kind ≡ a_phrase_rule
  pub rule_is : instance.rule ≡ rule

is_phrase : (k : Kind) → is_phrase_rule k ≡ true → k ≡ a_phrase_rule
is_phrase an_entry h = absurd (cc)
is_phrase a_lexical_rule h = absurd (cc)
is_phrase a_phrase_rule h = refl
is_phrase a_root h = absurd (cc)
is_phrase another h = absurd (cc)

pub place_of : (p n : ℕ) (is : List Instance) (r : ℕ × Rule) → slice_get (phrase_rules p is) n ≡ Some r → Placed is p r.0 r.1
place_of p n [] r e = absurd (cc)
place_of p n (j ∷ is) r e = by_kind (λ m h. place_of (p + 1) m is r h) (is_phrase_rule j.kind) refl n e
  where
    later : Placed is (p + 1) r.0 r.1 → Placed (j ∷ is) p r.0 r.1
    later z = record { offset = suc z.offset; place_is = z.place_is ∙ omega arith; instance = z.instance; at = z.at; kind = z.kind; rule_is = z.rule_is }

    by_kind : ((m : ℕ) → slice_get (phrase_rules (p + 1) is) m ≡ Some r → Placed is (p + 1) r.0 r.1) → (b : Bool) → is_phrase_rule j.kind ≡ b → (n : ℕ) → slice_get (phrase_rules p (j ∷ is)) n ≡ Some r → Placed (j ∷ is) p r.0 r.1
    by_kind go true q zero e =
        let x : (p, j.rule) ≡ r = (let y : slice_get (phrase_rules p (j ∷ is)) 0 ≡ Some (p, j.rule) = rw q refl in cc) in
        record { offset = 0; place_is = ap (λ y. y.0) (sym x) ∙ omega arith; instance = j; at = refl; kind = is_phrase j.kind q; rule_is = ap (λ y. y.1) x }
    by_kind go true q (suc n) e = later (go n (let y : slice_get (phrase_rules p (j ∷ is)) (suc n) ≡ slice_get (phrase_rules (p + 1) is) n = rw q refl in sym y ∙ e))
    by_kind go false q n e = later (go n (let y : slice_get (phrase_rules p (j ∷ is)) n ≡ slice_get (phrase_rules (p + 1) is) n = rw q refl in sym y ∙ e))

pub map_get : {A B : Type 0} (f : A → B) (xs : List A) (n : ℕ) (x : A) → slice_get xs n ≡ Some x → slice_get (map f xs) n ≡ Some (f x)
map_get f [] n x e = absurd (cc)
map_get f (y ∷ xs) zero x e = let z : y ≡ x = cc in ap (λ w. Some (f w)) z
map_get f (y ∷ xs) (suc n) x e = map_get f xs n x e

pub map_got : {A B : Type 0} (f : A → B) (xs : List A) (n : ℕ) (y : B) → slice_get (map f xs) n ≡ Some y → (x : A) × (slice_get xs n ≡ Some x) × (f x ≡ y)
map_got f [] n y e = absurd (cc)
map_got f (x ∷ xs) zero y e = (x, refl, cc)
map_got f (x ∷ xs) (suc n) y e = map_got f xs n y e

pub get_below : {A : Type 0} (xs : List A) (n : ℕ) (x : A) → slice_get xs n ≡ Some x → n < length xs
get_below [] n x e = absurd (cc)
get_below (y ∷ xs) zero x e = omega arith
get_below (y ∷ xs) (suc n) x e = let z = get_below xs n x e in omega (arith, z)

pub get_found : {A : Type 0} (xs : List A) (n : ℕ) → n < length xs → (x : A) × (slice_get xs n ≡ Some x)
get_found [] n h = absurd (omega arith)
get_found (x ∷ xs) zero h = (x, refl)
get_found (x ∷ xs) (suc n) h = get_found xs n (omega arith)

-- leaves by number
pub leaf_to : {C : Type 0} (k : ℕ) (ls : List (LeafTree C)) (n : ℕ) (l : LeafTree C) → At ls n l → At (leaves_from k ls) n (record { cover = l.cover; shape = l.shape; name = k + n })
leaf_to k [] n l a = elim a [ ]
leaf_to k (x ∷ ls) zero l (here) = subst (λ m. At (leaves_from k (x ∷ ls)) 0 (record { cover = x.cover; shape = x.shape; name = m })) (omega arith) here
leaf_to k (x ∷ ls) (suc n) l (there a) = subst (λ m. At (leaves_from k (x ∷ ls)) (suc n) (record { cover = l.cover; shape = l.shape; name = m })) (omega arith) (there (leaf_to (k + 1) ls n l a))

pub leaf_from : {C : Type 0} (k : ℕ) (ls : List (LeafTree C)) (n : ℕ) (leaf : chart.Leaf Structure C) → At (leaves_from k ls) n leaf → (l : LeafTree C) × At ls n l × (leaf ≡ record { cover = l.cover; shape = l.shape; name = k + n })
leaf_from k [] n leaf a = elim a [ ]
leaf_from k (x ∷ ls) zero leaf (here) = (x, here, ap (λ m. record { cover = x.cover; shape = x.shape; name = m }) (omega arith))
leaf_from k (x ∷ ls) (suc n) leaf (there a) =
    let z = leaf_from (k + 1) ls n leaf a in
    (z.0, there z.1, z.2 ∙ ap (λ m. record { cover = z.0.cover; shape = z.0.shape; name = m }) (omega arith))

pub same_length : {C : Type 0} (cs : List (Class Structure C)) → length cs ≡ length (class_shapes cs)
same_length [] = refl
same_length (c ∷ cs) = ap suc (same_length cs)
