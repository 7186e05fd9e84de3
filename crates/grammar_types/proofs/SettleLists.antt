-- Lists of names that grow.
use Rattle.std.proofs.Common.{ℕ, ◌≡◌, ◌<◌, ◌+◌, ◌≤◌, ◌&&◌, ◌||◌, ◌⊎◌, inl, inr, Bool, true, false, cond, not, List, [], ◌∷◌, ◌++◌, length, map, filter, take, get_or, String, Result, refl, sym, ◌∙◌, ap, subst, arith, OnOk, IfOk}
use Rattle.std.specs.Global.{Global}
use Rattle.std.specs.List.{list_any, flat_map, find}
use Rattle.std.specs.Str.{bytes_eq}
use Rattle.std.specs.String.{string_bytes, string_eq}
use Rattle.std.proofs.lemmas.List.{take_more, map-append, append_assoc, append-nil}
use Rattle.std.proofs.lemmas.List.Concat.{flat_map-append}
use Rattle.std.proofs.lemmas.List.Folds.{list_any-append}
use Rattle.std.proofs.lemmas.Slice.Eq.{bytes_eq-Decides}
use Rattle.type_hierarchy.specs.Decls.{texts}
use Rattle.type_hierarchy.proofs.ListLemmas.{list_any-map}
use Rattle.grammar_types.specs.Typings.{once}
use Rattle.grammar_settings.specs.Forms.{Name}
use Rattle.grammar_types.specs.SettleViews.{with_each}
use Rattle.grammar_types.specs.Typings.{has_name}

pub bools : (b : Bool) → (b ≡ true) ⊎ (b ≡ false)
bools true = inl refl
bools false = inr refl

pub true_not_false : {A : Type 0} (b : Bool) → b ≡ true → b ≡ false → A
true_not_false b e f = absurd (let z : true ≡ false = sym e ∙ f in cc)

pub bytes_eq-same : (a b : Name) → bytes_eq a b ≡ true → a ≡ b
bytes_eq-same a b = (bytes_eq-Decides a b).0

pub bytes_eq-refl : (a b : Name) → a ≡ b → bytes_eq a b ≡ true
bytes_eq-refl a b = (bytes_eq-Decides a b).1

pub bytes_eq-swap : (a b : Name) → bytes_eq a b ≡ bytes_eq b a
bytes_eq-swap a b = go (bools (bytes_eq a b)) (bools (bytes_eq b a))
  where
    go : (bytes_eq a b ≡ true) ⊎ (bytes_eq a b ≡ false) → (bytes_eq b a ≡ true) ⊎ (bytes_eq b a ≡ false) → bytes_eq a b ≡ bytes_eq b a
    go (inl e) f = e ∙ sym (bytes_eq-refl b a (sym (bytes_eq-same a b e)))
    go (inr e) (inl f) = true_not_false (bytes_eq a b) (bytes_eq-refl a b (sym (bytes_eq-same b a f))) e
    go (inr e) (inr f) = e ∙ sym f

pub has_texts : (keys : List (String Global)) (n : Name) → has_name (texts keys) n ≡ list_any (λ k. bytes_eq n (string_bytes k)) keys
has_texts keys n = list_any-map (bytes_eq n) string_bytes keys

-- a name that is there already, and a new one
pub note_old : (keys : List (String Global)) (x : Name) → list_any (λ j. bytes_eq x (string_bytes j)) keys ≡ true → texts keys ≡ with_each (texts keys) (x ∷ [])
note_old keys x h = sym (ap (λ b. cond b (texts keys) (texts keys ++ x ∷ [])) (has_texts keys x ∙ h))

pub note_new : (keys new : List (String Global)) (k : String Global) (x : Name) → string_bytes k ≡ x → list_any (λ j. bytes_eq x (string_bytes j)) keys ≡ false →
    new ≡ cond (list_any (string_eq k) keys) keys (keys ++ k ∷ []) → texts new ≡ with_each (texts keys) (x ∷ [])
note_new keys new k x e h is =
    ap texts (is ∙ ap (λ b. cond b keys (keys ++ k ∷ [])) absent) ∙ map-append string_bytes keys (k ∷ []) ∙ ap (λ n. texts keys ++ n ∷ []) e
    ∙ sym (ap (λ b. cond b (texts keys) (texts keys ++ x ∷ [])) (has_texts keys x ∙ h))
  where
    absent : list_any (string_eq k) keys ≡ false
    absent = subst (λ n. list_any (λ j. bytes_eq n (string_bytes j)) keys ≡ false) (sym e) h

pub with_each-append : (ns xs ys : List Name) → with_each ns (xs ++ ys) ≡ with_each (with_each ns xs) ys
with_each-append ns [] ys = refl
with_each-append ns (x ∷ xs) ys = with_each-append (cond (has_name ns x) ns (ns ++ x ∷ [])) xs ys

-- the strings that a call adds are those of the whole
pub on_moved : {T E : Type 0} (r : Result T E) (new old xs ys : List Name) → xs ≡ ys → OnOk r (new ≡ with_each old xs) → OnOk r (new ≡ with_each old ys)
on_moved r new old xs ys e = subst (λ zs. OnOk r (new ≡ with_each old zs)) e

pub on_two : {T E : Type 0} (r : Result T E) (new mid old xs ys zs : List Name) → mid ≡ with_each old xs → xs ++ ys ≡ zs →
    OnOk r (new ≡ with_each mid ys) → OnOk r (new ≡ with_each old zs)
on_two r new mid old xs ys zs e f = subst (λ all. OnOk r (new ≡ all)) (ap (λ m. with_each m ys) e ∙ sym (with_each-append old xs ys) ∙ ap (with_each old) f)

pub flat_map_next : {X A : Type 0} (S : X → List A) (xs : List X) (i : ℕ) (x : X) → i < length xs → x ≡ get_or xs i x →
    flat_map S (take (i + 1) xs) ≡ flat_map S (take i xs) ++ S x
flat_map_next S xs i x h e =
    ap (flat_map S) (take_more xs i x h ∙ ap (λ y. take i xs ++ y ∷ []) (sym e)) ∙ flat_map-append S (take i xs) (x ∷ []) ∙ ap (λ l. flat_map S (take i xs) ++ l) (append-nil (S x))

-- one step of a loop that adds the strings of each
pub each_step : {X : Type 0} (S : X → List Name) (now new old : List Name) (xs : List X) (i : ℕ) (x : X) → i < length xs → x ≡ get_or xs i x →
    new ≡ with_each now (S x) → now ≡ with_each old (flat_map S (take i xs)) → new ≡ with_each old (flat_map S (take (i + 1) xs))
each_step S now new old xs i x h e grown had =
    grown ∙ ap (λ m. with_each m (S x)) had ∙ sym (with_each-append old (flat_map S (take i xs)) (S x)) ∙ ap (with_each old) (sym (flat_map_next S xs i x h e))

-- one step of a loop that appends what each gives
pub push_step : {X A : Type 0} (S : X → List A) (now new old : List A) (xs : List X) (i : ℕ) (x : X) → i < length xs → x ≡ get_or xs i x →
    new ≡ now ++ S x → now ≡ old ++ flat_map S (take i xs) → new ≡ old ++ flat_map S (take (i + 1) xs)
push_step S now new old xs i x h e grown had =
    grown ∙ ap (λ m. m ++ S x) had ∙ append_assoc old (flat_map S (take i xs)) (S x) ∙ ap (λ l. old ++ l) (sym (flat_map_next S xs i x h e))

pub flat_map-map : {X Y A : Type 0} (g : Y → List A) (f : X → Y) → (xs : List X) → flat_map (λ x. g (f x)) xs ≡ flat_map g (map f xs)
flat_map-map g f [] = refl
flat_map-map g f (x ∷ xs) = ap (λ l. g (f x) ++ l) (flat_map-map g f xs)

-- what doesn't pass gives nothing
pub flat_map-if : {X A : Type 0} (p : X → Bool) (g : X → List A) → (xs : List X) → flat_map (λ x. cond (p x) (g x) []) xs ≡ flat_map g (filter p xs)
flat_map-if p g [] = refl
flat_map-if p g (x ∷ xs) = go (p x) (flat_map-if p g xs)
  where
    go : (b : Bool) → flat_map (λ y. cond (p y) (g y) []) xs ≡ flat_map g (filter p xs) →
        cond b (g x) [] ++ flat_map (λ y. cond (p y) (g y) []) xs ≡ flat_map g (cond b (x ∷ filter p xs) (filter p xs))
    go true e = ap (λ l. g x ++ l) e
    go false e = e

filter-filter : {X : Type 0} (p q r : X → Bool) → ((x : X) → (p x && q x) ≡ r x) → (xs : List X) → filter p (filter q xs) ≡ filter r xs
filter-filter p q r h [] = refl
filter-filter p q r h (x ∷ xs) = go (p x) (q x) (r x) refl (h x) (filter-filter p q r h xs)
  where
    go : (a b c : Bool) → p x ≡ a → (a && b) ≡ c → filter p (filter q xs) ≡ filter r xs → filter p (cond b (x ∷ filter q xs) (filter q xs)) ≡ cond c (x ∷ filter r xs) (filter r xs)
    go true true c k e ih = ap (λ z. cond z (x ∷ filter p (filter q xs)) (filter p (filter q xs))) k ∙ ap (λ l. x ∷ l) ih ∙ ap (λ z. cond z (x ∷ filter r xs) (filter r xs)) e
    go true false c k e ih = ih ∙ ap (λ z. cond z (x ∷ filter r xs) (filter r xs)) e
    go false true c k e ih = ap (λ z. cond z (x ∷ filter p (filter q xs)) (filter p (filter q xs))) k ∙ ih ∙ ap (λ z. cond z (x ∷ filter r xs) (filter r xs)) e
    go false false c k e ih = ih ∙ ap (λ z. cond z (x ∷ filter r xs) (filter r xs)) e

abbrev pub is_new : List Name → Name → Bool
is_new ns y = not (has_name ns y)

and_true : (b : Bool) → (b && true) ≡ b
and_true true = refl
and_true false = refl

-- those that are new beside x are new, and not x
new_beside : (ns : List Name) (x y : Name) → (is_new ns y && not (bytes_eq x y)) ≡ is_new (ns ++ x ∷ []) y
new_beside ns x y = go (has_name ns y) (bytes_eq x y) (bytes_eq y x) (bytes_eq-swap x y) ∙ sym (ap not (list_any-append (bytes_eq y) ns (x ∷ [])))
  where
    go : (a b c : Bool) → b ≡ c → (not a && not b) ≡ not (a || (c || false))
    go true b c e = refl
    go false true c e = ap (λ z. not (z || false)) e
    go false false c e = ap (λ z. not (z || false)) e

-- where x is there already, nothing new is x
new_among : (ns : List Name) (x y : Name) → has_name ns x ≡ true → (is_new ns y && not (bytes_eq x y)) ≡ is_new ns y
new_among ns x y h = go (bools (bytes_eq x y))
  where
    go : (bytes_eq x y ≡ true) ⊎ (bytes_eq x y ≡ false) → (not (has_name ns y) && not (bytes_eq x y)) ≡ not (has_name ns y)
    go (inl e) =
        let there : has_name ns y ≡ true = subst (λ z. has_name ns z ≡ true) (bytes_eq-same x y e) h in
        ap (λ b. not b && not (bytes_eq x y)) there ∙ sym (ap not there)
    go (inr e) = ap (λ b. not (has_name ns y) && not b) e ∙ and_true (not (has_name ns y))

-- the names, and then what is new, once
pub with_each-once : (ns xs : List Name) → with_each ns xs ≡ ns ++ filter (is_new ns) (once xs)
with_each-once ns [] = sym (append-nil ns)
with_each-once ns (x ∷ xs) = go (bools (has_name ns x)) (with_each-once ns xs) (with_each-once (ns ++ x ∷ []) xs)
  where
    go : (has_name ns x ≡ true) ⊎ (has_name ns x ≡ false) → with_each ns xs ≡ ns ++ filter (is_new ns) (once xs)
        → with_each (ns ++ x ∷ []) xs ≡ (ns ++ x ∷ []) ++ filter (is_new (ns ++ x ∷ [])) (once xs)
        → with_each (cond (has_name ns x) ns (ns ++ x ∷ [])) xs ≡ ns ++ filter (is_new ns) (x ∷ filter (λ y. not (bytes_eq x y)) (once xs))
    go (inl e) old new =
        ap (λ b. with_each (cond b ns (ns ++ x ∷ [])) xs) e ∙ old
        ∙ ap (λ l. ns ++ l) (sym (filter-filter (is_new ns) (λ y. not (bytes_eq x y)) (is_new ns) (λ y. new_among ns x y e) (once xs))
        ∙ sym (ap (λ b. cond (not b) (x ∷ filter (is_new ns) (filter (λ y. not (bytes_eq x y)) (once xs))) (filter (is_new ns) (filter (λ y. not (bytes_eq x y)) (once xs)))) e))
    go (inr e) old new =
        ap (λ b. with_each (cond b ns (ns ++ x ∷ [])) xs) e ∙ new ∙ append_assoc ns (x ∷ []) (filter (is_new (ns ++ x ∷ [])) (once xs))
        ∙ ap (λ l. ns ++ l) (ap (λ l. x ∷ l) (sym (filter-filter (is_new ns) (λ y. not (bytes_eq x y)) (is_new (ns ++ x ∷ [])) (λ y. new_beside ns x y) (once xs)))
        ∙ sym (ap (λ b. cond (not b) (x ∷ filter (is_new ns) (filter (λ y. not (bytes_eq x y)) (once xs))) (filter (is_new ns) (filter (λ y. not (bytes_eq x y)) (once xs)))) e))

all_new : (xs : List Name) → filter (is_new []) xs ≡ xs
all_new [] = refl
all_new (x ∷ xs) = ap (λ l. x ∷ l) (all_new xs)

pub from_none : (xs : List Name) → with_each [] xs ≡ once xs
from_none xs = with_each-once [] xs ∙ all_new (once xs)
