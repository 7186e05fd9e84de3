-- A role stands once among roles that rise.
use Rattle.std.proofs.Common.{ℕ, suc, ◌+◌, ◌≡◌, inl, inr, List, [], ◌∷◌, map, sym, ◌∙◌, ap, subst, arith}
use Rattle.std.specs.Prelude.{slice_index_or}
use Rattle.std.specs.declared.cmp.Ordering.TheVariants.{Less, Greater}
use Rattle.std.specs.Cmp.Lexicographic.{slice_cmp, nat_list_cmp_total}
use Rattle.std.specs.Ordering.{nat_cmp, ordering_reverse}
use Rattle.mrs_model.specs.Meanings.{Argument}
use Rattle.mrs_model.specs.Valid.{Rise}
use Rattle.transfer_model.proofs.Lists.{In}

abbrev Less_than : List ℕ → List ℕ → Type 0
Less_than a b = slice_cmp nat_cmp a b ≡ Less

never_itself : (a b : List ℕ) → a ≡ b → Less_than a b → ⊥
never_itself a b e l =
    let h : Less_than a a = subst (λ (z : List ℕ). Less_than a z) (sym e) l in
    let f = nat_list_cmp_total.antisymm a a in
    let g : slice_cmp nat_cmp a a ≡ Greater = f ∙ ap ordering_reverse h in
    cc

abbrev role_of : Argument → List ℕ
role_of a = a.role

rise_rest : (n : List ℕ) (ns : List (List ℕ)) → Rise (n ∷ ns) → Rise ns
rise_rest n ns r k l =
    let e : suc k + 1 ≡ suc (k + 1) = omega arith in
    subst (λ (j : ℕ). slice_cmp nat_cmp (slice_index_or (n ∷ ns) (suc k) []) (slice_index_or (n ∷ ns) j []) ≡ Less) e (r (suc k) (omega (arith, l)))

after : (x : Argument) (xs : List Argument) → Rise (map role_of (x ∷ xs)) → (y : Argument) → In y xs → Less_than x.role y.role
after x [] r y h = absurd h
after x (z ∷ xs) r y (inl e) = subst (λ (w : Argument). Less_than x.role w.role) (sym e) (r 0 (omega arith))
after x (z ∷ xs) r y (inr h) = nat_list_cmp_total.trans x.role z.role y.role (r 0 (omega arith)) (after z xs (rise_rest x.role (map role_of (z ∷ xs)) r) y h)

pub one_role : (xs : List Argument) → Rise (map role_of xs) → (a b : Argument) → In a xs → In b xs → a.role ≡ b.role → a ≡ b
one_role [] r a b i j e = absurd i
one_role (x ∷ xs) r a b (inl d) (inl f) e = d ∙ sym f
one_role (x ∷ xs) r a b (inl d) (inr j) e = absurd (never_itself x.role b.role (ap role_of (sym d) ∙ e) (after x xs r b j))
one_role (x ∷ xs) r a b (inr i) (inl f) e = absurd (never_itself x.role a.role (ap role_of (sym f) ∙ sym e) (after x xs r a i))
one_role (x ∷ xs) r a b (inr i) (inr j) e = one_role xs (rise_rest x.role (map role_of xs) r) a b i j e
