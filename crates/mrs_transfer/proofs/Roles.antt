-- Roles that an element writes are filled one after the other. Where names rise, no two roles have one name.
use Rattle.std.proofs.Common.{◌≡◌, ℕ, zero, suc, ◌+◌, ◌-◌, ◌<◌, ◌⊎◌, inl, inr, ◌∙◌, List, [], length, get_or, refl, ap, sym, subst, arith, Some}
use Rattle.std.specs.Prelude.{Contains, All, ◌↔◌, map}
use Rattle.std.specs.List.{Any, slice_get}
use Rattle.std.specs.declared.cmp.Ordering.TheVariants.{Less, Greater}
use Rattle.std.specs.Cmp.Lexicographic.{slice_cmp, nat_list_cmp_total}
use Rattle.std.specs.Ordering.{nat_cmp, ordering_reverse}
use Rattle.std.proofs.lemmas.Option.{slice_get-get_or, same_Some}
use Rattle.std.proofs.lemmas.List.{length-map, get_or-map, get_or_default}
use Rattle.mrs_model.specs.Meanings.{Variable, Argument, Filler, of_var}
use Rattle.mrs_model.specs.declared.Role.{Role}
use Rattle.mrs_model.specs.Views.{argument_of}
use Rattle.mrs_model.specs.Renaming.{renamed_argument, renamed_filler}
use Rattle.mrs_model.specs.Valid.{Rise}
use Rattle.mrs_transfer.specs.declared.bound.Pair.{Pair}
use Rattle.mrs_transfer.specs.Inner.Matching.{Narrows, Refuses}
use Rattle.mrs_transfer.proofs.Searching.{Side, less, same, more, side_of}
use Rattle.mrs_transfer.proofs.Binding.{narrows_as, refuses_as, refuses_none, narrows_both, narrows_refused}

-- names that rise
less_next : (names : List (List ℕ)) (j n : ℕ) → Rise names → j + suc n < length names → slice_cmp nat_cmp (get_or names j []) (get_or names (j + suc n) []) ≡ Less
less_next names j zero r l = subst (λ (z : ℕ). slice_cmp nat_cmp (get_or names j []) (get_or names z []) ≡ Less) (omega arith) (r j (omega (arith, l)))
less_next names j (suc n) r l =
    let a = less_next names j n r (omega (arith, l)) in
    let b = r (j + suc n) (omega (arith, l)) in
    let s : j + suc n + 1 ≡ j + suc (suc n) = omega arith in
    subst (λ (z : ℕ). slice_cmp nat_cmp (get_or names j []) (get_or names z []) ≡ Less) s (nat_list_cmp_total.trans (get_or names j []) (get_or names (j + suc n) []) (get_or names (j + suc n + 1) []) a b)

not_less : (x : List ℕ) → slice_cmp nat_cmp x x ≡ Less → ⊥
not_less x h = let e = nat_list_cmp_total.antisymm x x in let f : slice_cmp nat_cmp x x ≡ Greater = e ∙ ap ordering_reverse h in cc

apart_at : (names : List (List ℕ)) (j k : ℕ) → Rise names → j < k → k < length names → get_or names j [] ≡ get_or names k [] → ⊥
apart_at names j k r l m e =
    let s : j + suc (k - j - 1) ≡ k = omega arith in
    let h = less_next names j (k - j - 1) r (omega arith) in
    not_less (get_or names k []) (subst (λ (z : List ℕ). slice_cmp nat_cmp z (get_or names k []) ≡ Less) e (subst (λ (z : ℕ). slice_cmp nat_cmp (get_or names j []) (get_or names z []) ≡ Less) s h))

one_by : (names : List (List ℕ)) (j k : ℕ) → Rise names → j < length names → k < length names → get_or names j [] ≡ get_or names k [] → Side j k → j ≡ k
one_by names j k r l m e (less s) = absurd (apart_at names j k r s m e)
one_by names j k r l m e (same s) = s
one_by names j k r l m e (more s) = absurd (apart_at names k j r s l (sym e))

one_role : (es : List Argument) (x y : Argument) → Rise (map (λ a. a.role) es) → Contains es x → Contains es y → x.role ≡ y.role → x ≡ y
one_role es x y r (j, l, e) (k, m, f) s =
    let n : length (map (λ (a : Argument). a.role) es) ≡ length es = length-map es (λ (a : Argument). a.role) in
    let p : get_or (map (λ (a : Argument). a.role) es) j [] ≡ x.role = get_or-map (λ (a : Argument). a.role) es j x [] l ∙ ap (λ (a : Argument). a.role) e in
    let q : get_or (map (λ (a : Argument). a.role) es) k [] ≡ y.role = get_or-map (λ (a : Argument). a.role) es k y [] m ∙ ap (λ (a : Argument). a.role) f in
    let one : j ≡ k = one_by (map (λ (a : Argument). a.role) es) j k r (omega (arith, n, l)) (omega (arith, n, m)) (p ∙ (s ∙ sym q)) (side_of j k) in
    same_Some x y (sym (slice_get-get_or es j x l ∙ ap Some e) ∙ (ap (λ (i : ℕ). slice_get es i) one ∙ (slice_get-get_or es k y m ∙ ap Some f)))

pub role_read : (roles : List Role) (k : ℕ) (r : Role) → k < length roles → r ≡ get_or roles k r → (k < length (map argument_of roles)) × (argument_of r ≡ get_or (map argument_of roles) k (argument_of r))
role_read roles k r l is = let n : length (map argument_of roles) ≡ length roles = length-map roles argument_of in (omega (arith, n, l), ap argument_of is ∙ sym (get_or-map argument_of roles k r (argument_of r) l))

-- what is there for a role tells whether it is filled so
pub role_as : (es : List Argument) (w : Argument) (f : Filler) (vars : List ℕ) → Rise (map (λ a. a.role) es) → Contains es (record { role = w.role; filler = f }) → (renamed_filler vars w.filler ≡ f) ↔ Contains es (renamed_argument vars w)
role_as es w f vars r has = (
  (λ e. subst (λ (z : Filler). Contains es (record { role = w.role; filler = z })) (sym e) has),
  (λ h. ap (λ (a : Argument). a.filler) (one_role es (renamed_argument vars w) (record { role = w.role; filler = f }) r h has refl)),
)

-- those before this one are filled
abbrev pub FilledTo : List Argument → List Argument → ℕ → List ℕ → Type 0
FilledTo es ws k vars = (j : ℕ) (d : Argument) → j < k → Contains es (renamed_argument vars (get_or ws j d))

-- the coreference fills one of those before this one
abbrev pub WrittenTo : List Argument → ℕ → ℕ → Type 0
WrittenTo ws k c = (j : ℕ) × (a : Argument) × (j < k) × (get_or ws j a ≡ a) × (a.filler ≡ of_var c)

filled_by : (es ws : List Argument) (k : ℕ) (w : Argument) (vars : List ℕ) → k < length ws → w ≡ get_or ws k w → FilledTo es ws k vars → Contains es (renamed_argument vars w) → (j : ℕ) (d : Argument) → j < k + 1 → Side j k → Contains es (renamed_argument vars (get_or ws j d))
filled_by es ws k w vars m is f h j d l (less s) = f j d s
filled_by es ws k w vars m is f h j d l (same s) =
    let e : w ≡ get_or ws j d = is ∙ (get_or_default ws k w d m ∙ ap (λ (i : ℕ). get_or ws i d) (sym s)) in
    subst (λ (z : Argument). Contains es (renamed_argument vars z)) e h
filled_by es ws k w vars m is f h j d l (more s) = absurd (omega (arith, l, s))

filled_more : (es ws : List Argument) (k : ℕ) (w : Argument) (f : Filler) (vars : List ℕ) → Rise (map (λ a. a.role) es) → k < length ws → w ≡ get_or ws k w → Contains es (record { role = w.role; filler = f }) → (FilledTo es ws k vars × (renamed_filler vars w.filler ≡ f)) ↔ FilledTo es ws (k + 1) vars
filled_more es ws k w f vars r m is has = (
  (λ h. λ j d l. filled_by es ws k w vars m is h.0 ((role_as es w f vars r has).0 h.1) j d l (side_of j k)),
  (λ h. ((λ j d l. h j d (omega (arith, l))), (role_as es w f vars r has).1 (subst (λ (z : Argument). Contains es (renamed_argument vars z)) (sym is) (h k w (omega arith))))),
)

written_by : (ws : List Argument) (k : ℕ) (w : Argument) (c : ℕ) → k < length ws → w ≡ get_or ws k w → (h : WrittenTo ws (k + 1) c) → Side h.0 k → WrittenTo ws k c ⊎ (w.filler ≡ of_var c)
written_by ws k w c m is (j, a, l, e, s) (less t) = inl (j, a, t, e, s)
written_by ws k w c m is (j, a, l, e, s) (same t) =
    let f : w ≡ a = is ∙ (get_or_default ws k w a m ∙ (ap (λ (i : ℕ). get_or ws i a) (sym t) ∙ e)) in
    inr (subst (λ (z : Argument). z.filler ≡ of_var c) (sym f) s)
written_by ws k w c m is (j, a, l, e, s) (more t) = absurd (omega (arith, l, t))

pub roles_more : (all : List Variable) (letters : List (List ℕ)) (es ws : List Argument) (k : ℕ) (w : Argument) (f : Filler) (old mid new : List Pair) → Rise (map (λ a. a.role) es) → k < length ws → w ≡ get_or ws k w → Contains es (record { role = w.role; filler = f })
    → Narrows all letters (FilledTo es ws k) (WrittenTo ws k) old mid → Narrows all letters (λ vars. renamed_filler vars w.filler ≡ f) (λ c. w.filler ≡ of_var c) mid new → Narrows all letters (FilledTo es ws (k + 1)) (WrittenTo ws (k + 1)) old new
roles_more all letters es ws k w f old mid new r m is has a b =
    narrows_as all letters (λ vars. FilledTo es ws k vars × (renamed_filler vars w.filler ≡ f)) (FilledTo es ws (k + 1)) (λ c. WrittenTo ws k c ⊎ (w.filler ≡ of_var c)) (WrittenTo ws (k + 1)) old new
    (λ vars. filled_more es ws k w f vars r m is has) (λ c h. written_by ws k w c m is h (side_of h.0 k))
    (narrows_both all letters (FilledTo es ws k) (λ vars. renamed_filler vars w.filler ≡ f) (WrittenTo ws k) (λ c. w.filler ≡ of_var c) old mid new a b)

-- all of them
abbrev pub AreFilled : List Argument → List Argument → List ℕ → Type 0
AreFilled es ws vars = All (λ a. Contains es (renamed_argument vars a)) ws

pub roles_all : (all : List Variable) (letters : List (List ℕ)) (es ws : List Argument) (k : ℕ) (old new : List Pair) → k ≡ length ws → Narrows all letters (FilledTo es ws k) (WrittenTo ws k) old new → Narrows all letters (AreFilled es ws) (λ c. Any (λ a. a.filler ≡ of_var c) ws) old new
roles_all all letters es ws k old new e n =
    narrows_as all letters (FilledTo es ws k) (AreFilled es ws) (WrittenTo ws k) (λ c. Any (λ a. a.filler ≡ of_var c) ws) old new
    (λ vars. (λ h. λ j d l. h j d (omega (arith, e, l)), λ h. λ j d l. h j d (omega (arith, e, l)))) (λ c h. let l = h.2 in (h.0, h.1, omega (arith, e, l), h.3, h.4)) n

pub roles_refused : (all : List Variable) (letters : List (List ℕ)) (es ws : List Argument) (k : ℕ) (w : Argument) (f : Filler) (old mid new : List Pair) → Rise (map (λ a. a.role) es) → k < length ws → w ≡ get_or ws k w → Contains es (record { role = w.role; filler = f })
    → Narrows all letters (FilledTo es ws k) (WrittenTo ws k) old mid → Refuses all letters (λ vars. renamed_filler vars w.filler ≡ f) mid new → Refuses all letters (AreFilled es ws) old new
roles_refused all letters es ws k w f old mid new r m is has a b =
    refuses_as all letters (λ vars. FilledTo es ws k vars × (renamed_filler vars w.filler ≡ f)) (AreFilled es ws) old new
    (λ vars h. ((λ j d l. h j d (omega (arith, l, m))), (role_as es w f vars r has).1 (subst (λ (z : Argument). Contains es (renamed_argument vars z)) (sym is) (h k w m))))
    (narrows_refused all letters (FilledTo es ws k) (λ vars. renamed_filler vars w.filler ≡ f) (WrittenTo ws k) old mid new a b)

missing : (es : List Argument) (w : Argument) (vars : List ℕ) → All (λ a. a.role ≡ w.role → ⊥) es → Contains es (renamed_argument vars w) → ⊥
missing es w vars none (k, l, e) = none k (renamed_argument vars w) l (ap (λ (a : Argument). a.role) e)

pub roles_missing : (all : List Variable) (letters : List (List ℕ)) (es ws : List Argument) (k : ℕ) (w : Argument) (old mid : List Pair) → k < length ws → w ≡ get_or ws k w → All (λ a. a.role ≡ w.role → ⊥) es
    → Narrows all letters (FilledTo es ws k) (WrittenTo ws k) old mid → Refuses all letters (AreFilled es ws) old mid
roles_missing all letters es ws k w old mid m is none a =
    refuses_as all letters (λ vars. FilledTo es ws k vars × Contains es (renamed_argument vars w)) (AreFilled es ws) old mid
    (λ vars h. ((λ j d l. h j d (omega (arith, l, m))), subst (λ (z : Argument). Contains es (renamed_argument vars z)) (sym is) (h k w m)))
    (narrows_refused all letters (FilledTo es ws k) (λ vars. Contains es (renamed_argument vars w)) (WrittenTo ws k) old mid mid a (refuses_none all letters (λ vars. Contains es (renamed_argument vars w)) mid (λ vars h. missing es w vars none h)))
