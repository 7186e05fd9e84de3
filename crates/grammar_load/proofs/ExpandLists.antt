-- Statements as expansion sees them, and the lists that they stand in.
use Rattle.std.proofs.Common.{ℕ, zero, suc, ◌≡◌, ◌<◌, ◌≤◌, ◌&&◌, ◌||◌, ◌⊎◌, inl, inr, Bool, true, false, cond, not, List, [], ◌∷◌, ◌++◌, length, filter, take, get_or, Some, refl, sym, ◌∙◌, ap, subst, arith}
use Rattle.std.specs.List.{flat_map, position}
use Rattle.std.specs.Str.{bytes_eq}
use Rattle.std.proofs.lemmas.Bool.{cases_order}
use Rattle.std.proofs.lemmas.List.Quantifiers.{position-Some}
use Rattle.tdl_reader.specs.declared.Status.{Status}
use Rattle.tdl_reader.specs.declared.Status.TheVariants.{TypeDef, Entry, LexRule, Rule, Root, Other}
use Rattle.fs_model.specs.Claims.{Has, here, there}
use Rattle.type_hierarchy.proofs.SetLemmas.{position_at}
use Rattle.grammar_files.specs.Placings.{PlacedTree}
use Rattle.grammar_files.specs.Statements.{is_define, is_addendum, is_of_types, is_of_instances, is_heeded, speaks_of_type, defines_instance}
use Rattle.grammar_types.specs.Typings.{once}
use Rattle.grammar_settings.specs.Forms.{Name}
use Rattle.grammar_types.proofs.SettleLists.{bools, true_not_false, bytes_eq-same}

heeded : (a b : Bool) (s : Status) → (((a && is_of_types s) || (b && is_of_types s)) || (a && is_of_instances s)) ≡ true → is_heeded s ≡ true
heeded a b TypeDef e = refl
heeded a b Entry e = refl
heeded a b LexRule e = refl
heeded a b Rule e = refl
heeded a b Root e = refl
heeded true true Other e = absurd (let z : false ≡ true = e in cc)
heeded true false Other e = absurd (let z : false ≡ true = e in cc)
heeded false true Other e = absurd (let z : false ≡ true = e in cc)
heeded false false Other e = absurd (let z : false ≡ true = e in cc)

pub is_heeded_so : (p : PlacedTree) → (speaks_of_type p || defines_instance p) ≡ true → is_heeded p.status ≡ true
is_heeded_so p e = heeded (is_define p.statement) (is_addendum p.statement) p.status e

-- elements of lists
has_left : {X : Type 0} (x : X) (xs ys : List X) → Has x xs → Has x (xs ++ ys)
has_left x _ ys here = here
has_left x _ ys (there h) = there (has_left x _ ys h)

has_right : {X : Type 0} (x : X) (xs ys : List X) → Has x ys → Has x (xs ++ ys)
has_right x [] ys h = h
has_right x (z ∷ xs) ys h = there (has_right x xs ys h)

pub has_at : {X : Type 0} (xs : List X) (k : ℕ) (d : X) → k < length xs → Has (get_or xs k d) xs
has_at [] k d h = absurd (omega arith)
has_at (x ∷ xs) zero d h = here
has_at (x ∷ xs) (suc k) d h = there (has_at xs k d (omega arith))

pub has_filter : {X : Type 0} (q : X → Bool) (x : X) (xs : List X) → Has x xs → q x ≡ true → Has x (filter q xs)
has_filter q x [] h e = elim h [ ]
has_filter {X = X} q x (_ ∷ xs) here e = go (q x) e
  where
    go : (b : Bool) → b ≡ true → Has x (cond b (x ∷ filter q xs) (filter q xs))
    go true k = here
    go false k = true_not_false false k refl
has_filter {X = X} q x (y ∷ xs) (there h) e = go (q y) (has_filter q x xs h e)
  where
    go : (b : Bool) → Has x (filter q xs) → Has x (cond b (y ∷ filter q xs) (filter q xs))
    go true k = there k
    go false k = k

pub has_flat_map : {X A : Type 0} (S : X → List A) (a : A) (x : X) (xs : List X) → Has x xs → Has a (S x) → Has a (flat_map S xs)
has_flat_map S a x [] k h = elim k [ ]
has_flat_map S a x (_ ∷ xs) here h = has_left a (S x) (flat_map S xs) h
has_flat_map S a x (y ∷ xs) (there k) h = has_right a (S y) (flat_map S xs) (has_flat_map S a x xs k h)

pub has_once : (x : Name) (xs : List Name) → Has x xs → Has x (once xs)
has_once x [] h = elim h [ ]
has_once x (_ ∷ xs) here = here
has_once x (y ∷ xs) (there h) = go (bools (bytes_eq y x)) (has_once x xs h)
  where
    go : (bytes_eq y x ≡ true) ⊎ (bytes_eq y x ≡ false) → Has x (once xs) → Has x (y ∷ filter (λ z. not (bytes_eq y z)) (once xs))
    go (inl e) k = subst (λ z. Has x (z ∷ filter (λ w. not (bytes_eq y w)) (once xs))) (sym (bytes_eq-same y x e)) here
    go (inr e) k = there (has_filter (λ z. not (bytes_eq y z)) x (once xs) k (ap not e))

-- where a list's element stands among those that pass a test
pub kept_at : {X : Type 0} (f : X → Bool) (xs : List X) (k : ℕ) (d : X) → k < length xs → f (get_or xs k d) ≡ true →
    (length (filter f (take k xs)) < length (filter f xs)) × (get_or (filter f xs) (length (filter f (take k xs))) d ≡ get_or xs k d)
kept_at f [] k d h e = absurd (omega arith)
kept_at {X = X} f (x ∷ xs) zero d h e = go (f x) e
  where
    go : (b : Bool) → b ≡ true → (0 < length (cond b (x ∷ filter f xs) (filter f xs))) × (get_or (cond b (x ∷ filter f xs) (filter f xs)) 0 d ≡ x)
    go true k = (omega arith, refl)
    go false k = true_not_false false k refl
kept_at {X = X} f (x ∷ xs) (suc k) d h e = go (f x) (kept_at f xs k d (omega (arith, h)) e)
  where
    go : (b : Bool) → (length (filter f (take k xs)) < length (filter f xs)) × (get_or (filter f xs) (length (filter f (take k xs))) d ≡ get_or xs k d) →
        (length (cond b (x ∷ filter f (take k xs)) (filter f (take k xs))) < length (cond b (x ∷ filter f xs) (filter f xs)))
        × (get_or (cond b (x ∷ filter f xs) (filter f xs)) (length (cond b (x ∷ filter f (take k xs)) (filter f (take k xs)))) d ≡ get_or xs k d)
    go true r = (omega (arith, r.0), r.1)
    go false r = r

-- one that passes, and a later one
pub kept_rises : {X : Type 0} (f : X → Bool) (xs : List X) (j k : ℕ) (d : X) → j < k → k ≤ length xs → f (get_or xs j d) ≡ true →
    length (filter f (take j xs)) < length (filter f (take k xs))
kept_rises f [] j k d lt h e = absurd (omega arith)
kept_rises f (x ∷ xs) j zero d lt h e = absurd (omega arith)
kept_rises {X = X} f (x ∷ xs) zero (suc k) d lt h e = go (f x) e
  where
    go : (b : Bool) → b ≡ true → 0 < length (cond b (x ∷ filter f (take k xs)) (filter f (take k xs)))
    go true t = omega arith
    go false t = true_not_false false t refl
kept_rises {X = X} f (x ∷ xs) (suc j) (suc k) d lt h e = go (f x) (kept_rises f xs j k d (omega (arith, lt)) (omega (arith, h)) e)
  where
    go : (b : Bool) → length (filter f (take j xs)) < length (filter f (take k xs)) →
        length (cond b (x ∷ filter f (take j xs)) (filter f (take j xs))) < length (cond b (x ∷ filter f (take k xs)) (filter f (take k xs)))
    go true r = omega (arith, r)
    go false r = r

-- the first place at which a test passes
pub place_found : (p : Name → Bool) (xs : List Name) (i : ℕ) → i < length xs → ((j : ℕ) → j < i → p (get_or xs j []) ≡ false) → p (get_or xs i []) ≡ true → position p xs ≡ Some i
place_found p xs i h before at = let m = position_at p xs i [] h at in let r = position-Some p xs m.0 [] m.1 in m.1 ∙ ap Some (go m.0 (cases_order m.0 i) r.1 r.2)
  where
    go : (m : ℕ) → (m ≡ i) ⊎ ((m < i) ⊎ (i < m)) → p (get_or xs m []) ≡ true → ((k : ℕ) → k < m → p (get_or xs k []) ≡ false) → m ≡ i
    go m (inl e) t f = e
    go m (inr (inl lt)) t f = true_not_false _ t (before m lt)
    go m (inr (inr lt)) t f = true_not_false _ at (f i lt)
