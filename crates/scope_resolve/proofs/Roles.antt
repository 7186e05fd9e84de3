-- Roles one after another, and variables at their places.
use Rattle.std.proofs.Common.{ℕ, zero, suc, ◌≡◌, ◌<◌, ◌≤◌, ◌+◌, ◌∙◌, Bool, true, false, List, [], ◌∷◌, length, get_or, drop, map, refl, sym, ap, arith}
use Rattle.std.specs.Prelude.{Option, None, if◌then◌else◌, codes}
use Rattle.std.specs.Str.{bytes_eq}
use Rattle.std.specs.String.{string_bytes}
use Rattle.std.proofs.lemmas.List.{get_or-map, length-map}
use Rattle.mrs_model.specs.declared.Role.{Role}
use Rattle.mrs_model.specs.declared.Var.{Var}
use Rattle.mrs_model.specs.Meanings.{Variable}
use Rattle.mrs_model.specs.Views.{argument_of, variable_of, filler_of}
use Rattle.scope_model.specs.Frames.{at_role, variable_in}
use Rattle.scope_resolve.specs.Inner.Building.{is_number, has_number, is_handle_in}
use Rattle.scope_resolve.proofs.Tests.{yes, no}

pub drop_here : {A : Type 0} (xs : List A) (i : ℕ) (x : A) → i < length xs → x ≡ get_or xs i x → drop i xs ≡ x ∷ drop (i + 1) xs
drop_here [] i x lt e = absurd (omega (arith, lt))
drop_here (y ∷ ys) zero x lt e = ap (λ z. z ∷ ys) (sym e)
drop_here (y ∷ ys) (suc i) x lt e = drop_here ys i x (omega (arith, lt)) e ∙ ap (λ k. x ∷ drop k (y ∷ ys)) (let k : suc (i + 1) ≡ suc i + 1 = omega arith in k)

pub drop_past : {A : Type 0} (xs : List A) (i : ℕ) → length xs ≤ i → drop i xs ≡ []
drop_past [] zero l = refl
drop_past [] (suc i) l = refl
drop_past (x ∷ xs) zero l = absurd (omega (arith, l))
drop_past (x ∷ xs) (suc i) l = drop_past xs i (omega (arith, l))

pub read_past : {A : Type 0} (xs : List A) (i : ℕ) (d : A) → length xs ≤ i → get_or xs i d ≡ d
read_past [] i d l = refl
read_past (x ∷ xs) zero d l = absurd (omega (arith, l))
read_past (x ∷ xs) (suc i) d l = read_past xs i d (omega (arith, l))

module _ (name : List ℕ) (roles : List Role) (k : ℕ) where
  abbrev rest : ℕ → Option ℕ
  rest j = at_role name (map argument_of (drop j roles))

  module _ (r : Role) (l : k < length roles) (is : r ≡ get_or roles k r) where
    split : rest k ≡ (if bytes_eq (string_bytes r.name) name then variable_in (filler_of r.value) else rest (k + 1))
    split = ap (λ (rs : List Role). at_role name (map argument_of rs)) (drop_here roles k r l is)

    pub role_here : bytes_eq (string_bytes r.name) name ≡ true → rest k ≡ variable_in (filler_of r.value)
    role_here e = split ∙ yes (bytes_eq (string_bytes r.name) name) (variable_in (filler_of r.value)) (rest (k + 1)) e

    pub role_on : bytes_eq (string_bytes r.name) name ≡ false → rest k ≡ rest (k + 1)
    role_on e = split ∙ no (bytes_eq (string_bytes r.name) name) (variable_in (filler_of r.value)) (rest (k + 1)) e

  pub role_end : length roles ≤ k → rest k ≡ None
  role_end l = ap (λ (rs : List Role). at_role name (map argument_of rs)) (drop_past roles k l)

module _ (ns : List ℕ) (x : ℕ) (roles : List Role) (k : ℕ) where
  abbrev left : ℕ → Bool
  left j = has_number ns x (map argument_of (drop j roles))

  module _ (r : Role) (l : k < length roles) (is : r ≡ get_or roles k r) where
    first : left k ≡ (if is_number ns x (filler_of r.value) then is_number ns x (filler_of r.value) else left (k + 1))
    first = ap (λ (rs : List Role). has_number ns x (map argument_of rs)) (drop_here roles k r l is)

    pub number_here : is_number ns x (filler_of r.value) ≡ true → left k ≡ true
    number_here e = first ∙ (yes (is_number ns x (filler_of r.value)) (is_number ns x (filler_of r.value)) (left (k + 1)) e ∙ e)

    pub number_past : is_number ns x (filler_of r.value) ≡ false → left k ≡ left (k + 1)
    number_past e = first ∙ no (is_number ns x (filler_of r.value)) (is_number ns x (filler_of r.value)) (left (k + 1)) e

  pub number_end : length roles ≤ k → left k ≡ false
  number_end l = ap (λ (rs : List Role). has_number ns x (map argument_of rs)) (drop_past roles k l)

-- the variable at a place
module _ (vars : List Var) (v : ℕ) where
  pub handle_there : (x : Var) (b : Bool) → v < length vars → x ≡ get_or vars v x → b ≡ bytes_eq (string_bytes x.sort) (codes "h") → b ≡ is_handle_in (map variable_of vars) v
  handle_there x b l is e =
      let d : Variable = record { sort = []; props = [] } in
      let m : get_or (map variable_of vars) v d ≡ variable_of (get_or vars v x) = get_or-map variable_of vars v x d l in
      e ∙ ap (λ (z : Variable). bytes_eq z.sort (codes "h")) (ap variable_of is ∙ sym m)

  pub handle_past : length vars ≤ v → false ≡ is_handle_in (map variable_of vars) v
  handle_past l =
      let d : Variable = record { sort = []; props = [] } in
      let n = length-map vars variable_of in
      let m : get_or (map variable_of vars) v d ≡ d = read_past (map variable_of vars) v d (omega (arith, l, n)) in
      sym (ap (λ (z : Variable). bytes_eq z.sort (codes "h")) m)
