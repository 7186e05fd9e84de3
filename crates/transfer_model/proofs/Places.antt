-- The places of a site tell its variables, and of two least sites neither is before the other.
use Rattle.std.proofs.Common.{ℕ, zero, suc, ◌≡◌, ◌<◌, ◌⊎◌, inl, inr, Bool, List, [], ◌∷◌, ◌++◌, map, length, get_or, refl, sym, ◌∙◌, ap, subst, arith, Option}
use Rattle.std.specs.Prelude.{All, Contains, IfSome, MatchOption, slice_index}
use Rattle.std.specs.List.{slice_get, AllZip}
use Rattle.std.proofs.lemmas.Bool.{cases_order}
use Rattle.std.proofs.lemmas.List.{ext_get_or}
use Rattle.std.proofs.lemmas.List.Elements.{All-head, All-tail}
use Rattle.mrs_model.specs.Meanings.{Filler, of_var, of_text, Argument, Predication, Meaning}
use Rattle.mrs_model.specs.Renaming.{renamed_filler, renamed_argument}
use Rattle.mrs_model.specs.Valid.{Rise, IsPredication, IsValid}
use Rattle.transfer_model.specs.Rules.{Element, Rule, StandsAt, IsRule}
use Rattle.transfer_model.specs.Sites.{Site, Fits, HasLetters, IsSite, Before, IsLeastSite}
use Rattle.transfer_model.proofs.Lists.{In, in_of, all_in, zip_length, zip_at}
use Rattle.transfer_model.proofs.Roles.{one_role}

abbrev variable_of : Filler → ℕ
variable_of (of_var v) = v
variable_of (of_text t) = 0

abbrev FitsAt : List Predication → List ℕ → Element → ℕ → Type 0
FitsAt es vars x p = MatchOption (slice_get es p) ⊥ (Fits vars x)

-- an argument whose filler is a coreference tells its variable
told_by : (e : Predication) (vars ws : List ℕ) (c : ℕ) (a : Argument) → Rise (map (λ (z : Argument). z.role) e.args) → a.filler ≡ of_var c → Contains e.args (renamed_argument vars a) → Contains e.args (renamed_argument ws a)
    → slice_index vars c ≡ slice_index ws c
told_by e vars ws c a rise f i j =
    let same = one_role e.args rise (renamed_argument vars a) (renamed_argument ws a) (in_of e.args (renamed_argument vars a) i) (in_of e.args (renamed_argument ws a) j) refl in
    let filler : (renamed_argument vars a).filler ≡ (renamed_argument ws a).filler = ap (λ (z : Argument). z.filler) same in
    by a.filler f filler
  where
    by : (g : Filler) → g ≡ of_var c → renamed_filler vars g ≡ renamed_filler ws g → slice_index vars c ≡ slice_index ws c
    by g d s =
        let m = subst (λ (z : Filler). renamed_filler vars z ≡ renamed_filler ws z) d s in
        ap variable_of m

-- what fits an elementary predication in two ways has the same variables at the coreferences that stand in it
fits_one : (e : Predication) (x : Element) (vars ws : List ℕ) (c : ℕ) → Rise (map (λ (z : Argument). z.role) e.args) → Fits vars x e → Fits ws x e → StandsAt c x → slice_index vars c ≡ slice_index ws c
fits_one e x vars ws c rise f g (inl l) =
    let h = subst (λ (o : Option ℕ). IfSome o (λ d. slice_index vars d ≡ e.label)) l f.label in
    let k = subst (λ (o : Option ℕ). IfSome o (λ d. slice_index ws d ≡ e.label)) l g.label in
    h ∙ sym k
fits_one e x vars ws c rise f g (inr (k, a, l, is, filler)) =
    let i : In a x.args = in_of x.args a (k, l, is) in
    told_by e vars ws c a rise filler (all_in (λ b. Contains e.args (renamed_argument vars b)) x.args a f.args i) (all_in (λ b. Contains e.args (renamed_argument ws b)) x.args a g.args i)

fits_at : (n : ℕ) (es : List Predication) (p : ℕ) (x : Element) (vars ws : List ℕ) (c : ℕ) → All (IsPredication n) es → FitsAt es vars x p → FitsAt es ws x p → StandsAt c x → slice_index vars c ≡ slice_index ws c
fits_at n [] p x vars ws c a f g s = absurd f
fits_at n (e ∷ es) zero x vars ws c a f g s = fits_one e x vars ws c (All-head (IsPredication n) e es a).order f g s
fits_at n (e ∷ es) (suc p) x vars ws c a f g s = fits_at n es p x vars ws c (All-tail (IsPredication n) e es a) f g s

pub one_vars : (m : Meaning) (r : Rule) (s t : Site) → IsValid m → IsRule r → IsSite m r s → IsSite m r t → s.places ≡ t.places → s.vars ≡ t.vars
one_vars m r s t valid rule h k e =
    let n : length s.vars ≡ length r.letters = zip_length (λ l v. MatchOption (slice_get m.vars v) ⊥ (HasLetters l)) r.letters s.vars h.sorts in
    let o : length t.vars ≡ length r.letters = zip_length (λ l v. MatchOption (slice_get m.vars v) ⊥ (HasLetters l)) r.letters t.vars k.sorts in
    ext_get_or 0 s.vars t.vars (n ∙ sym o) (λ c l. at c (omega (arith, l, n)))
  where
    at : (c : ℕ) → c < length r.letters → slice_index s.vars c ≡ slice_index t.vars c
    at c l =
        let w = rule.standing c (omega arith) l in
        let f = zip_at (FitsAt m.eps s.vars) (r.input ++ r.context) s.places w.0 w.1 h.elements w.2 w.3 in
        let g = zip_at (FitsAt m.eps t.vars) (r.input ++ r.context) s.places w.0 w.1 (subst (λ (ps : List ℕ). AllZip (FitsAt m.eps t.vars) (r.input ++ r.context) ps) (sym e) k.elements) w.2 w.3 in
        fits_at (length m.vars) m.eps (get_or s.places w.0 0) w.1 s.vars t.vars c valid.eps f g w.4

pub one_site : (m : Meaning) (r : Rule) (s t : Site) → IsValid m → IsRule r → IsSite m r s → IsSite m r t → s.places ≡ t.places → s ≡ t
one_site m r s t valid rule h k e = let v = one_vars m r s t valid rule h k e in λ i. record { places = e i; vars = v i }

which : (ps qs : List ℕ) → length ps ≡ length qs → Before ps qs ⊎ ((ps ≡ qs) ⊎ Before qs ps)
which [] [] n = inr (inl refl)
which [] (q ∷ qs) n = absurd (omega (arith, n))
which (p ∷ ps) [] n = absurd (omega (arith, n))
which (p ∷ ps) (q ∷ qs) n = by (cases_order p q) (which ps qs (omega (arith, n)))
  where
    by : (p ≡ q) ⊎ ((p < q) ⊎ (q < p)) → Before ps qs ⊎ ((ps ≡ qs) ⊎ Before qs ps) → Before (p ∷ ps) (q ∷ qs) ⊎ (((p ∷ ps) ≡ (q ∷ qs)) ⊎ Before (q ∷ qs) (p ∷ ps))
    by (inl e) (inl b) = inl (inr (e, b))
    by (inl e) (inr (inl f)) = inr (inl (λ i. e i ∷ f i))
    by (inl e) (inr (inr b)) = inr (inr (inr (sym e, b)))
    by (inr (inl l)) o = inl (inl l)
    by (inr (inr l)) o = inr (inr (inl l))

pub site_length : (m : Meaning) (r : Rule) (s : Site) → IsSite m r s → length s.places ≡ length (r.input ++ r.context)
site_length m r s h = zip_length (FitsAt m.eps s.vars) (r.input ++ r.context) s.places h.elements

pub one_least : (allows : ℕ → Site → Bool) (n : ℕ) (m : Meaning) (r : Rule) (s t : Site) → IsValid m → IsRule r → IsLeastSite allows n r m s → IsLeastSite allows n r m t → s ≡ t
one_least allows n m r s t valid rule h k =
    let a = site_length m r s h.applies.site in
    let b = site_length m r t k.applies.site in
    by (which s.places t.places (a ∙ sym b))
  where
    by : Before s.places t.places ⊎ ((s.places ≡ t.places) ⊎ Before t.places s.places) → s ≡ t
    by (inl l) = absurd (k.least s h.applies l)
    by (inr (inl e)) = one_site m r s t valid rule h.applies.site k.applies.site e
    by (inr (inr l)) = absurd (h.least t k.applies l)
