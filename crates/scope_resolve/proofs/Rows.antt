-- Lists that are made row by row.
use Rattle.std.proofs.Common.{ℕ, zero, suc, ◌≡◌, ◌<◌, ◌≤◌, ◌+◌, ◌∙◌, Bool, true, false, List, [], ◌∷◌, ◌++◌, append-nil, append_assoc, length, get_or, take, map, refl, sym, ap, arith, ◌==◌}
use Rattle.std.specs.Prelude.{slice_index}
use Rattle.std.specs.List.{flat_map}
use Rattle.std.proofs.lemmas.List.{take_more}
use Rattle.mrs_model.specs.Meanings.{Variable, Predication}
use Rattle.scope_model.specs.declared.Quantifier.{Quantifier}
use Rattle.scope_model.specs.declared.Binding.{Binding}
use Rattle.scope_model.specs.declared.Qeq.{Qeq}
use Rattle.scope_resolve.specs.Inner.Building.{has_number, binding_of, bindings_with, quantifier_from, bindings_of_quantifier, bindings_from}
use Rattle.scope_resolve.proofs.Tests.{take_whole, yes, no}

last_flat : {A B C : Type 0} (f : A → B) (g : B → List C) (xs : List A) (x : A) → flat_map g (map f (xs ++ x ∷ [])) ≡ flat_map g (map f xs) ++ g (f x)
last_flat f g [] x = append-nil (g (f x))
last_flat f g (y ∷ xs) x = ap (λ zs. g (f y) ++ zs) (last_flat f g xs x) ∙ sym (append_assoc (g (f y)) (flat_map g (map f xs)) (g (f x)))

pub last_map : {A B : Type 0} (f : A → B) (xs : List A) (x : A) → map f (xs ++ x ∷ []) ≡ map f xs ++ f x ∷ []
last_map f [] x = refl
last_map f (y ∷ xs) x = ap (λ zs. f y ∷ zs) (last_map f xs x)

pub next : {A : Type 0} (xs : List A) (k : ℕ) (x : A) → k < length xs → x ≡ get_or xs k x → take (k + 1) xs ≡ take k xs ++ x ∷ []
next xs k x l e = take_more xs k x l ∙ ap (λ y. take k xs ++ y ∷ []) (sym e)

-- what came to the front part
pub flat_next : {A B C : Type 0} (f : A → B) (g : B → List C) (xs : List A) (k : ℕ) (x : A) (old mid new : List C) → k < length xs → x ≡ get_or xs k x
    → mid ≡ old ++ flat_map g (map f (take k xs)) → new ≡ mid ++ g (f x) → new ≡ old ++ flat_map g (map f (take (k + 1) xs))
flat_next f g xs k x old mid new l e a b =
    b ∙ (ap (λ zs. zs ++ g (f x)) a ∙ (append_assoc old (flat_map g (map f (take k xs))) (g (f x)) ∙ ap (λ zs. old ++ zs) (sym (ap (λ ys. flat_map g (map f ys)) (next xs k x l e) ∙ last_flat f g (take k xs) x))))

pub flat_first : {A B C : Type 0} (f : A → B) (g : B → List C) (xs : List A) (k : ℕ) (x : A) (mid new : List C) → k < length xs → x ≡ get_or xs k x
    → mid ≡ flat_map g (map f (take k xs)) → new ≡ mid ++ g (f x) → new ≡ flat_map g (map f (take (k + 1) xs))
flat_first f g xs k x mid new l e a b = flat_next f g xs k x [] mid new l e a b

pub map_next : {A B C : Type 0} (f : A → B) (g : B → C) (xs : List A) (k : ℕ) (x : A) (mid new : List C) → k < length xs → x ≡ get_or xs k x
    → mid ≡ map g (map f (take k xs)) → new ≡ mid ++ g (f x) ∷ [] → new ≡ map g (map f (take (k + 1) xs))
map_next f g xs k x mid new l e a b =
    b ∙ (ap (λ zs. zs ++ g (f x) ∷ []) a ∙ sym (ap (λ ys. map g (map f ys)) (next xs k x l e) ∙ (ap (map g) (last_map f (take k xs) x) ∙ last_map g (map f (take k xs)) (f x))))

abbrev pub qeq_of : ℕ → ℕ → Qeq
qeq_of a b = record { left = a; right = b }

-- one binding, or none
abbrev pub binding_at : Quantifier → ℕ → Binding
binding_at q l = record { rstr = q.rstr; body = q.body; label = l }

module _ (ns : List ℕ) (q : Quantifier) (x : ℕ) where
  pub binding_own : (own : Bool) (e : Predication) → own ≡ true → binding_of ns q x own e ≡ []
  binding_own true e y = refl
  binding_own false e y = absurd (cc)

  pub binding_none : (own : Bool) (e : Predication) → own ≡ false → has_number ns x e.args ≡ false → binding_of ns q x own e ≡ []
  binding_none true e n h = absurd (cc)
  binding_none false e n h = no (has_number ns x e.args) (binding_at q (slice_index ns e.label) ∷ []) [] h

  pub binding_one : (own : Bool) (e : Predication) → own ≡ false → has_number ns x e.args ≡ true → binding_of ns q x own e ≡ binding_at q (slice_index ns e.label) ∷ []
  binding_one true e n h = absurd (cc)
  binding_one false e n h = yes (has_number ns x e.args) (binding_at q (slice_index ns e.label) ∷ []) [] h

-- a list over all is the list over as many as there are
pub all_rows : {A B : Type 0} (h : List A → B) (xs : List A) (k : ℕ) → length xs ≤ k → h (take k xs) ≡ h xs
all_rows h xs k l = ap h (take_whole xs k l)

length_next : {A B : Type 0} (f : A → B) (xs : List A) (k : ℕ) → k ≤ length xs → length (map f (take k xs)) ≡ k
length_next f xs zero l = refl
length_next f [] (suc k) l = absurd (omega (arith, l))
length_next f (x ∷ xs) (suc k) l = let r = length_next f xs k (omega (arith, l)) in omega (arith, r)

last_with : (ns : List ℕ) (q : Quantifier) (x own at : ℕ) (es : List Predication) (e : Predication) → bindings_with ns q x own at (es ++ e ∷ []) ≡ bindings_with ns q x own at es ++ binding_of ns q x ((at + length es) == own) e
last_with ns q x own at [] e = append-nil _ ∙ ap (λ n. binding_of ns q x (n == own) e) (omega arith)
last_with ns q x own at (d ∷ es) e =
    let g : (at + 1) + length es ≡ at + length (d ∷ es) = omega arith in
    ap (λ zs. binding_of ns q x (at == own) d ++ zs) (last_with ns q x own (at + 1) es e ∙ ap (λ n. bindings_with ns q x own (at + 1) es ++ binding_of ns q x (n == own) e) g)
    ∙ sym (append_assoc (binding_of ns q x (at == own) d) (bindings_with ns q x own (at + 1) es) (binding_of ns q x ((at + length (d ∷ es)) == own) e))

last_from : (vars : List Variable) (ns : List ℕ) (all : List Predication) (at : ℕ) (es : List Predication) (e : Predication)
    → bindings_from vars ns all at (es ++ e ∷ []) ≡ bindings_from vars ns all at es ++ bindings_of_quantifier ns (quantifier_from vars ns e) (at + length es) all
last_from vars ns all at [] e = append-nil _ ∙ ap (λ n. bindings_of_quantifier ns (quantifier_from vars ns e) n all) (omega arith)
last_from vars ns all at (d ∷ es) e =
    let g : (at + 1) + length es ≡ at + length (d ∷ es) = omega arith in
    ap (λ zs. bindings_of_quantifier ns (quantifier_from vars ns d) at all ++ zs) (last_from vars ns all (at + 1) es e ∙ ap (λ n. bindings_from vars ns all (at + 1) es ++ bindings_of_quantifier ns (quantifier_from vars ns e) n all) g)
    ∙ sym (append_assoc (bindings_of_quantifier ns (quantifier_from vars ns d) at all) (bindings_from vars ns all (at + 1) es) (bindings_of_quantifier ns (quantifier_from vars ns e) (at + length (d ∷ es)) all))

pub with_next : {A : Type 0} (f : A → Predication) (ns : List ℕ) (q : Quantifier) (x own : ℕ) (xs : List A) (k : ℕ) (y : A) (old mid new : List Binding) (b : Bool) → k < length xs → y ≡ get_or xs k y → b ≡ (k == own)
    → mid ≡ old ++ bindings_with ns q x own 0 (map f (take k xs)) → new ≡ mid ++ binding_of ns q x b (f y) → new ≡ old ++ bindings_with ns q x own 0 (map f (take (k + 1) xs))
with_next f ns q x own xs k y old mid new b l e t a c =
    let n : 0 + length (map f (take k xs)) ≡ k = (let r = length_next f xs k (omega (arith, l)) in omega (arith, r)) in
    let d = ap (λ ys. bindings_with ns q x own 0 (map f ys)) (next xs k y l e) ∙ (ap (bindings_with ns q x own 0) (last_map f (take k xs) y) ∙ (last_with ns q x own 0 (map f (take k xs)) (f y)
    ∙ ap (λ (m : ℕ). bindings_with ns q x own 0 (map f (take k xs)) ++ binding_of ns q x (m == own) (f y)) n)) in
    c ∙ (ap (λ (z : Bool). mid ++ binding_of ns q x z (f y)) t ∙ (ap (λ zs. zs ++ binding_of ns q x (k == own) (f y)) a
    ∙ (append_assoc old (bindings_with ns q x own 0 (map f (take k xs))) (binding_of ns q x (k == own) (f y)) ∙ ap (λ zs. old ++ zs) (sym d))))

pub from_next : {A : Type 0} (f : A → Predication) (vars : List Variable) (ns : List ℕ) (all : List Predication) (xs : List A) (k : ℕ) (y : A) (mid new : List Binding) → k < length xs → y ≡ get_or xs k y
    → mid ≡ bindings_from vars ns all 0 (map f (take k xs)) → new ≡ mid ++ bindings_of_quantifier ns (quantifier_from vars ns (f y)) k all → new ≡ bindings_from vars ns all 0 (map f (take (k + 1) xs))
from_next f vars ns all xs k y mid new l e a c =
    let n : 0 + length (map f (take k xs)) ≡ k = (let r = length_next f xs k (omega (arith, l)) in omega (arith, r)) in
    let d = ap (λ ys. bindings_from vars ns all 0 (map f ys)) (next xs k y l e) ∙ (ap (bindings_from vars ns all 0) (last_map f (take k xs) y) ∙ (last_from vars ns all 0 (map f (take k xs)) (f y)
    ∙ ap (λ (m : ℕ). bindings_from vars ns all 0 (map f (take k xs)) ++ bindings_of_quantifier ns (quantifier_from vars ns (f y)) m all) n)) in
    c ∙ (ap (λ zs. zs ++ bindings_of_quantifier ns (quantifier_from vars ns (f y)) k all) a ∙ sym d)
