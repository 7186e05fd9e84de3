-- Pairs are added one after the other.
use Rattle.std.proofs.Common.{String, Global, ◌≡◌, ℕ, zero, suc, ◌+◌, ◌<◌, ◌⊎◌, inl, inr, ◌∙◌, List, [], ◌∷◌, ◌++◌, length, length-append, take, get_or, refl, ap, sym, subst, arith}
use Rattle.std.specs.Prelude.{⊤, Contains, All, slice_index, ◌↔◌, map, string_bytes}
use Rattle.std.proofs.lemmas.List.{length-take, take-take, take_all, take_at, get_or_append_left, get_or_push, length-map, get_or-map}
use Rattle.std.proofs.lemmas.List.Elements.{All-contains, Contains-push, Contains-push_cases}
use Rattle.mrs_model.specs.Meanings.{Variable}
use Rattle.mrs_model.specs.declared.Role.{Role}
use Rattle.mrs_model.specs.declared.Var.{Var}
use Rattle.mrs_model.specs.Views.{argument_of, filler_of, variable_of}
use Rattle.transfer_model.specs.Sites.{HasLetters}
use Rattle.mrs_transfer.specs.declared.bound.Pair.{Pair}
use Rattle.mrs_transfer.specs.Inner.Matching.{MayHave, IsBound, ArePairs, Narrows, Refuses}
use Rattle.mrs_transfer.proofs.Searching.{Side, less, same, more, bound_front}

pub bind_unfit : (all : List Variable) (letters : List (List ℕ)) (old : List Pair) (c v : ℕ) → c < length letters → (MayHave all letters c v → ⊥) → Refuses all letters (λ vars. slice_index vars c ≡ v) old old
bind_unfit all letters old c v l unfit = record {
  front = take_all (length old) old (omega arith);
  none = λ vars k a p. unfit (subst (λ (z : ℕ). MayHave all letters c z) p (k.each c l));
}

one_only : (p : Pair) (k : ℕ) (d : Pair) → k < length (p ∷ []) → p ≡ get_or (p ∷ []) k d
one_only p zero d l = refl
one_only p (suc k) d l = absurd (omega arith)

-- all of a list with one more
all_more : (P : Pair → Type 0) (old : List Pair) (p : Pair) → All P old → P p → All P (old ++ p ∷ [])
all_more P [] p a h k d l = subst P (one_only p k d l) h
all_more P (q ∷ qs) p a h zero d l = a 0 d (omega arith)
all_more P (q ∷ qs) p a h (suc k) d l = all_more P qs p (λ j e m. a (suc j) e (omega (arith, m))) h k d (omega (arith, l))

all_less : (P : Pair → Type 0) (old : List Pair) (p : Pair) → All P (old ++ p ∷ []) → All P old × P p
all_less P old p a = (
  (λ k d l. let n : length (old ++ p ∷ []) ≡ length old + 1 = length-append old (p ∷ []) in subst P (get_or_append_left old (p ∷ []) d k l) (a k d (omega (arith, n, l)))),
  All-contains P (old ++ p ∷ []) p a (Contains-push old p),
)

new_single : (all : List Variable) (letters : List (List ℕ)) (old : List Pair) (c v : ℕ) → ArePairs all letters old → (IsBound old c → ⊥) → (d x y : ℕ)
    → Contains old (record { coref = d; var = x }) ⊎ ◌≡◌ {A = Pair} (record { coref = c; var = v }) (record { coref = d; var = x })
    → Contains old (record { coref = d; var = y }) ⊎ ◌≡◌ {A = Pair} (record { coref = c; var = v }) (record { coref = d; var = y }) → x ≡ y
new_single all letters old c v h fresh d x y (inl a) (inl b) = h.single d x y a b
new_single all letters old c v h fresh d x y (inl a) (inr b) = absurd (fresh (subst (λ (z : ℕ). IsBound old z) (sym (ap (λ (p : Pair). p.coref) b)) (x, a)))
new_single all letters old c v h fresh d x y (inr a) (inl b) = absurd (fresh (subst (λ (z : ℕ). IsBound old z) (sym (ap (λ (p : Pair). p.coref) a)) (y, b)))
new_single all letters old c v h fresh d x y (inr a) (inr b) = sym (ap (λ (p : Pair). p.var) a) ∙ ap (λ (p : Pair). p.var) b

pub bind_new : (all : List Variable) (letters : List (List ℕ)) (old : List Pair) (c v : ℕ) → ArePairs all letters old → (IsBound old c → ⊥) → MayHave all letters c v → Narrows all letters (λ vars. slice_index vars c ≡ v) (λ d. d ≡ c) old (old ++ record { coref = c; var = v } ∷ [])
bind_new all letters old c v h fresh may = let p : Pair = record { coref = c; var = v } in record {
  pairs = record {
    each = all_more (λ q. MayHave all letters q.coref q.var) old p h.each may;
    single = λ d x y hx hy. new_single all letters old c v h fresh d x y (Contains-push_cases old p (record { coref = d; var = x }) hx) (Contains-push_cases old p (record { coref = d; var = y }) hy);
  };
  front = take_at old (p ∷ []) (length old) refl;
  told = λ vars l. (λ a. all_less (λ q. slice_index vars q.coref ≡ q.var) old p a, λ a. all_more (λ q. slice_index vars q.coref ≡ q.var) old p a.0 a.1);
  bound = λ d e. subst (λ (z : ℕ). IsBound (old ++ p ∷ []) z) (sym e) (v, Contains-push old p);
}

-- one after the other
front_both : (a b c : List Pair) → take (length a) b ≡ a → take (length b) c ≡ b → take (length a) c ≡ a
front_both a b c f g =
    let n : length (take (length a) b) ≡ length a = ap length f in
    let m = length-take (length a) b in
    sym (take-take (length a) (length b) c (omega (arith, n, m))) ∙ (ap (λ (ps : List Pair). take (length a) ps) g ∙ f)

bound_both : (all : List Variable) (letters : List (List ℕ)) (P Q : List ℕ → Type 0) (W V : ℕ → Type 0) (a b c : List Pair) → Narrows all letters P W a b → Narrows all letters Q V b c → (d : ℕ) → W d ⊎ V d → IsBound c d
bound_both all letters P Q W V a b c m n d (inl w) = bound_front b c d n.front (m.bound d w)
bound_both all letters P Q W V a b c m n d (inr v) = n.bound d v

pub narrows_both : (all : List Variable) (letters : List (List ℕ)) (P Q : List ℕ → Type 0) (W V : ℕ → Type 0) (a b c : List Pair) → Narrows all letters P W a b → Narrows all letters Q V b c → Narrows all letters (λ vars. P vars × Q vars) (λ d. W d ⊎ V d) a c
narrows_both all letters P Q W V a b c m n = record {
  pairs = n.pairs;
  front = front_both a b c m.front n.front;
  told = λ vars l. (
    (λ h. let k = (n.told vars l).0 h in let j = (m.told vars l).0 k.0 in (j.0, (j.1, k.1))),
    (λ h. (n.told vars l).1 ((m.told vars l).1 (h.0, h.1.0), h.1.1)),
  );
  bound = λ d w. bound_both all letters P Q W V a b c m n d w;
}

pub narrows_refused : (all : List Variable) (letters : List (List ℕ)) (P Q : List ℕ → Type 0) (W : ℕ → Type 0) (a b c : List Pair) → Narrows all letters P W a b → Refuses all letters Q b c → Refuses all letters (λ vars. P vars × Q vars) a c
narrows_refused all letters P Q W a b c m n = record {
  front = front_both a b c m.front n.front;
  none = λ vars l h p. n.none vars l ((m.told vars l).1 (h, p.0)) p.1;
}

-- the same in other words
pub narrows_as : (all : List Variable) (letters : List (List ℕ)) (P Q : List ℕ → Type 0) (W V : ℕ → Type 0) (a b : List Pair) → ((vars : List ℕ) → P vars ↔ Q vars) → ((d : ℕ) → V d → W d) → Narrows all letters P W a b → Narrows all letters Q V a b
narrows_as all letters P Q W V a b pq vw n = record {
  pairs = n.pairs;
  front = n.front;
  told = λ vars l. (
    (λ h. let k = (n.told vars l).0 h in (k.0, (pq vars).0 k.1)),
    (λ h. (n.told vars l).1 (h.0, (pq vars).1 h.1)),
  );
  bound = λ d w. n.bound d (vw d w);
}

pub refuses_as : (all : List Variable) (letters : List (List ℕ)) (P Q : List ℕ → Type 0) (a b : List Pair) → ((vars : List ℕ) → Q vars → P vars) → Refuses all letters P a b → Refuses all letters Q a b
refuses_as all letters P Q a b qp n = record { front = n.front; none = λ vars l h q. n.none vars l h (qp vars q) }

-- nothing is added
pub narrows_none : (all : List Variable) (letters : List (List ℕ)) (a : List Pair) → ArePairs all letters a → Narrows all letters (λ vars. ⊤) (λ d. ⊥) a a
narrows_none all letters a h = record { pairs = h; front = take_all (length a) a (omega arith); told = λ vars l. (λ k. (k, tt), λ k. k.0); bound = λ d w. absurd w }

pub refuses_none : (all : List Variable) (letters : List (List ℕ)) (P : List ℕ → Type 0) (a : List Pair) → ((vars : List ℕ) → P vars → ⊥) → Refuses all letters P a a
refuses_none all letters P a none = record { front = take_all (length a) a (omega arith); none = λ vars l h p. none vars p }

-- the role of a name
pub has_role : (roles : List Role) (i : ℕ) (name : List ℕ) (r : Role) → i < length roles → r ≡ get_or roles i r → string_bytes r.name ≡ name → Contains (map argument_of roles) (record { role = name; filler = filler_of r.value })
has_role roles i name r l is e =
    let n : length (map argument_of roles) ≡ length roles = length-map roles argument_of in
    subst (λ (z : List ℕ). Contains (map argument_of roles) (record { role = z; filler = filler_of r.value })) e
    (i, omega (arith, n, l), get_or-map argument_of roles i r (argument_of r) l ∙ ap argument_of (sym is))

pub no_role : (roles : List Role) (name : List ℕ) → ((k : ℕ) (d : Role) → k < length roles → string_bytes (get_or roles k d).name ≡ name → ⊥) → All (λ a. a.role ≡ name → ⊥) (map argument_of roles)
no_role [] name h k d l e = omega (arith, l)
no_role (r ∷ rs) name h zero d l e = h 0 r (omega arith) e
no_role (r ∷ rs) name h (suc k) d l e = no_role rs name (λ j f m. h (suc j) f (omega (arith, m))) k d (omega (arith, l)) e

-- what a coreference may have, in code
pub no_letters : (all : List Var) (letters : List (String Global)) (c v : ℕ) (l : String Global) (x : Var) → c < length letters → v < length all → l ≡ get_or letters c l → x ≡ get_or all v x → (HasLetters (string_bytes l) (variable_of x) → ⊥) → MayHave (map variable_of all) (map string_bytes letters) c v → ⊥
no_letters all letters c v l x i j is_l is_x none m =
    let e : get_or (map string_bytes letters) c [] ≡ string_bytes l = get_or-map string_bytes letters c l [] i ∙ ap string_bytes (sym is_l) in
    let f : get_or (map variable_of all) v (variable_of x) ≡ variable_of x = get_or-map variable_of all v x (variable_of x) j ∙ ap variable_of (sym is_x) in
    none (subst (λ (z : List ℕ). HasLetters z (variable_of x)) e (subst (λ (z : Variable). HasLetters (get_or (map string_bytes letters) c []) z) f (m.fit (variable_of x))))

pub has_letters : (all : List Var) (letters : List (String Global)) (c v : ℕ) (l : String Global) (x : Var) → c < length letters → v < length all → l ≡ get_or letters c l → x ≡ get_or all v x → HasLetters (string_bytes l) (variable_of x) → MayHave (map variable_of all) (map string_bytes letters) c v
has_letters all letters c v l x i j is_l is_x h =
    let n : length (map string_bytes letters) ≡ length letters = length-map letters string_bytes in
    let m : length (map variable_of all) ≡ length all = length-map all variable_of in
    let e : get_or (map string_bytes letters) c [] ≡ string_bytes l = get_or-map string_bytes letters c l [] i ∙ ap string_bytes (sym is_l) in
    record {
      coref = omega (arith, n, i);
      var = omega (arith, m, j);
      fit = λ d. let f : get_or (map variable_of all) v d ≡ variable_of x = get_or-map variable_of all v x d j ∙ ap variable_of (sym is_x) in
          subst (λ (z : List ℕ). HasLetters z (get_or (map variable_of all) v d)) (sym e) (subst (λ (z : Variable). HasLetters (string_bytes l) z) (sym f) h);
    }

-- the variables of all coreferences, and back
pub vars_more : (pairs : List Pair) (vars : List ℕ) (n v : ℕ) → length vars ≡ n → ((c : ℕ) → c < n → Contains pairs (record { coref = c; var = get_or vars c 0 })) → Contains pairs (record { coref = n; var = v }) → (c : ℕ) → c < n + 1 → Side c n → Contains pairs (record { coref = c; var = get_or (vars ++ v ∷ []) c 0 })
vars_more pairs vars n v size h new c l (less s) = subst (λ (z : ℕ). Contains pairs (record { coref = c; var = z })) (sym (get_or_append_left vars (v ∷ []) 0 c (omega (arith, size, s)))) (h c s)
vars_more pairs vars n v size h new c l (same s) =
    subst (λ (z : ℕ). Contains pairs (record { coref = c; var = z })) (sym (get_or_push vars v 0 c (omega (arith, size, s)))) (subst (λ (z : ℕ). Contains pairs (record { coref = z; var = v })) (sym s) new)
vars_more pairs vars n v size h new c l (more s) = absurd (omega (arith, l, s))
