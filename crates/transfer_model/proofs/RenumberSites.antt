-- Sites of MRSs that are one but for the numbers of their variables: the same places, and the variables that the map gives.
use Rattle.std.proofs.Common.{ℕ, zero, suc, ◌≡◌, ◌+◌, ◌<◌, Bool, List, [], ◌∷◌, ◌++◌, length, length-append, map, slice_index, get_or, refl, sym, ◌∙◌, ap, subst, arith}
use Rattle.std.specs.Prelude.{All, Contains, Option, Some, None, MatchOption, IfSome}
use Rattle.std.specs.List.{slice_get, AllZip}
use Rattle.std.specs.Option.{option_map}
use Rattle.std.proofs.lemmas.Option.{slice_get-map, slice_get_within}
use Rattle.std.proofs.lemmas.List.{get_or-map, map-append}
use Rattle.std.proofs.lemmas.List.Elements.{All-head, All-tail}
use Rattle.mrs_model.specs.Meanings.{Variable, Filler, of_var, of_text, Argument, Predication, Meaning}
use Rattle.mrs_model.specs.Valid.{IsFiller, IsArgument}
use Rattle.mrs_model.specs.Renaming.{IsVariableMap, renamed_filler, renamed_argument}
use Rattle.mrs_reading.specs.Laws.{renumbered, IsRenumbering}
use Rattle.mrs_reading.proofs.Predicated.{contains_map}
use Rattle.transfer_model.specs.Rules.{Element, Rule, IsElement, IsRule}
use Rattle.transfer_model.specs.Sites.{Site, Fits, HasLetters, IsMatch, IsSite, IsMet, Applies, IsLeastSite}
use Rattle.transfer_model.specs.Runs.{AppliesNowhere}
use Rattle.transfer_model.proofs.RenumberBack.{Twins, turned}

abbrev pub moved_vars : List ℕ → List ℕ → List ℕ
moved_vars to vars = map (λ v. slice_index to v) vars

abbrev pub moved_site : List ℕ → Site → Site
moved_site to s = record { places = s.places; vars = moved_vars to s.vars }

pub zip_length : {A B : Type 0} (R : A → B → Type 0) (xs : List A) (ys : List B) → AllZip R xs ys → length xs ≡ length ys
zip_length R [] [] h = refl
zip_length R [] (y ∷ ys) h = absurd h
zip_length R (x ∷ xs) [] h = absurd h
zip_length R (x ∷ xs) (y ∷ ys) h = let e = zip_length R xs ys h.1 in omega (arith, e)

some_there : {X : Type 0} (xs : List X) (v : ℕ) (P : X → Type 0) → MatchOption (slice_get xs v) ⊥ P → v < length xs
some_there {X} xs v P h = by (slice_get xs v) refl h
  where
    by : (o : Option X) → slice_get xs v ≡ o → MatchOption o ⊥ P → v < length xs
    by None e k = absurd k
    by (Some x) e k = slice_get_within xs v x e

-- an element fits on both sides
module _ (to vars : List ℕ) where
  pub at_moved : (c : ℕ) → c < length vars → slice_index (moved_vars to vars) c ≡ slice_index to (slice_index vars c)
  at_moved c l = get_or-map (λ v. slice_index to v) vars c 0 0 l

  label_moved : (o : Option ℕ) (l : ℕ) → IfSome o (λ c. c < length vars) → IfSome o (λ c. slice_index vars c ≡ l) → IfSome o (λ c. slice_index (moved_vars to vars) c ≡ slice_index to l)
  label_moved None l w h = tt
  label_moved (Some c) l w h = at_moved c w ∙ ap (λ v. slice_index to v) h

  filler_moved : (x : Filler) → IsFiller (length vars) x → renamed_filler to (renamed_filler vars x) ≡ renamed_filler (moved_vars to vars) x
  filler_moved (of_var c) l = ap of_var (sym (at_moved c l))
  filler_moved (of_text t) l = refl

  argument_moved : (a : Argument) → IsArgument (length vars) a → renamed_argument to (renamed_argument vars a) ≡ renamed_argument (moved_vars to vars) a
  argument_moved a is = let e = filler_moved a.filler is.filler in λ i. record { role = a.role; filler = e i }

  arguments_there : (es xs : List Argument) → All (IsArgument (length vars)) xs → All (λ a. Contains es (renamed_argument vars a)) xs → All (λ a. Contains (map (renamed_argument to) es) (renamed_argument (moved_vars to vars) a)) xs
  arguments_there es xs is h k d l =
      let a = get_or xs k d in
      subst (Contains (map (renamed_argument to) es)) (argument_moved a (is k d l)) (contains_map (renamed_argument to) es (renamed_argument vars a) (h k d l))

  fits_moved : (x : Element) (e : Predication) → IsElement (length vars) x → Fits vars x e → Fits (moved_vars to vars) x (renumbered to e)
  fits_moved x e is f = record { pred = f.pred; label = label_moved x.label e.label is.label f.label; args = arguments_there e.args x.args is.args f.args }

  fits_some : (x : Element) (o : Option Predication) → IsElement (length vars) x → MatchOption o ⊥ (Fits vars x) → MatchOption (option_map (renumbered to) o) ⊥ (Fits (moved_vars to vars) x)
  fits_some x None is h = absurd h
  fits_some x (Some e) is h = fits_moved x e is h

  elements_moved : (es fs : List Predication) → map (renumbered to) es ≡ fs → (xs : List Element) (places : List ℕ) → All (IsElement (length vars)) xs
      → AllZip (λ x p. MatchOption (slice_get es p) ⊥ (Fits vars x)) xs places → AllZip (λ x p. MatchOption (slice_get fs p) ⊥ (Fits (moved_vars to vars) x)) xs places
  elements_moved es fs e [] [] is h = tt
  elements_moved es fs e [] (p ∷ ps) is h = absurd h
  elements_moved es fs e (x ∷ xs) [] is h = absurd h
  elements_moved es fs e (x ∷ xs) (p ∷ ps) is h =
      let q : option_map (renumbered to) (slice_get es p) ≡ slice_get fs p = sym (slice_get-map (renumbered to) es p) ∙ ap (λ z. slice_get z p) e in (
        subst (λ (o : Option Predication). MatchOption o ⊥ (Fits (moved_vars to vars) x)) q (fits_some x (slice_get es p) (All-head (IsElement (length vars)) x xs is) h.0),
        elements_moved es fs e xs ps (All-tail (IsElement (length vars)) x xs is) h.1,
      )

module _ (a b : List Variable) (to : List ℕ) (m : IsVariableMap a b to) where
  sorts_moved : (letters : List (List ℕ)) (vars : List ℕ) → AllZip (λ l v. MatchOption (slice_get a v) ⊥ (HasLetters l)) letters vars → AllZip (λ l v. MatchOption (slice_get b v) ⊥ (HasLetters l)) letters (moved_vars to vars)
  sorts_moved [] [] h = tt
  sorts_moved [] (v ∷ vs) h = absurd h
  sorts_moved (l ∷ ls) [] h = absurd h
  sorts_moved (l ∷ ls) (v ∷ vs) h =
      let n = m.every in
      let w = some_there a v (HasLetters l) h.0 in
      (subst (λ (o : Option Variable). MatchOption o ⊥ (HasLetters l)) (sym (m.kept v (omega (arith, n, w)))) h.0, sorts_moved ls vs h.1)

  pub vars_there : (letters : List (List ℕ)) (vars : List ℕ) → AllZip (λ l v. MatchOption (slice_get a v) ⊥ (HasLetters l)) letters vars → (i : ℕ) → i < length vars → slice_index vars i < length a
  vars_there [] [] h i k = absurd (omega (arith, k))
  vars_there [] (v ∷ vs) h i k = absurd h
  vars_there (l ∷ ls) [] h i k = absurd h
  vars_there (l ∷ ls) (v ∷ vs) h zero k = some_there a v (HasLetters l) h.0
  vars_there (l ∷ ls) (v ∷ vs) h (suc i) k = vars_there ls vs h.1 i (omega (arith, k))

match_moved : (m k : Meaning) (to : List ℕ) → IsRenumbering m k to → (letters : List (List ℕ)) (xs : List Element) (places vars : List ℕ) → All (IsElement (length letters)) xs
    → IsMatch m letters xs places vars → IsMatch k letters xs places (moved_vars to vars)
match_moved m k to r letters xs places vars is h =
    let n = zip_length (λ l v. MatchOption (slice_get m.vars v) ⊥ (HasLetters l)) letters vars h.sorts in
    record {
      elements = elements_moved to vars m.eps k.eps r.eps xs places (subst (λ (z : ℕ). All (IsElement z) xs) n is) h.elements;
      apart = h.apart;
      sorts = sorts_moved m.vars k.vars to r.vars letters vars h.sorts;
    }

pub site_moved : (m k : Meaning) (to : List ℕ) (r : Rule) (s : Site) → IsRule r → IsRenumbering m k to → IsSite m r s → IsSite k r (moved_site to s)
site_moved m k to r s is n h = match_moved m k to n r.letters (r.input ++ r.context) s.places s.vars is.elements h

met_moved : (m k : Meaning) (to : List ℕ) (r : Rule) (s : Site) (xs : List Element) → All (IsElement (length r.letters + length r.filter_letters)) xs → IsRenumbering m k to → IsMet m r s xs → IsMet k r (moved_site to s) xs
met_moved m k to r s xs is n h =
    let e = length-append r.letters r.filter_letters in
    let f : map (λ v. slice_index to v) (s.vars ++ h.others) ≡ moved_vars to s.vars ++ moved_vars to h.others = map-append (λ v. slice_index to v) s.vars h.others in
    record {
      places = h.places;
      others = moved_vars to h.others;
      matches = subst (IsMatch k (r.letters ++ r.filter_letters) xs h.places) f
          (match_moved m k to n (r.letters ++ r.filter_letters) xs h.places (s.vars ++ h.others) (subst (λ (z : ℕ). All (IsElement z) xs) (sym e) is) h.matches);
    }

-- there and back is the same site
vars_round : (to back vars : List ℕ) (n : ℕ) → ((v : ℕ) → v < n → slice_index back (slice_index to v) ≡ v) → ((i : ℕ) → i < length vars → slice_index vars i < n) → moved_vars back (moved_vars to vars) ≡ vars
vars_round to back [] n round w = refl
vars_round to back (v ∷ vs) n round w =
    let e = round v (w 0 (omega arith)) in
    let r = vars_round to back vs n round (λ i l. w (suc i) (omega (arith, l))) in
    λ i. e i ∷ r i

pub site_round : (m k : Meaning) (to back : List ℕ) (r : Rule) (s : Site) → Twins m k to back → IsSite m r s → moved_site back (moved_site to s) ≡ s
site_round m k to back r s t h =
    let e = vars_round to back s.vars (length m.vars) t.round (vars_there m.vars k.vars to t.there.vars r.letters s.vars h.sorts) in
    λ i. record { places = s.places; vars = e i }

unmet_moved : (m k : Meaning) (to back : List ℕ) (r : Rule) (s : Site) → Twins m k to back → IsSite m r s → (o : Option (List Element)) → IfSome o (All (IsElement (length r.letters + length r.filter_letters)))
    → IfSome o (λ xs. IsMet m r s xs → ⊥) → IfSome o (λ xs. IsMet k r (moved_site to s) xs → ⊥)
unmet_moved m k to back r s t h None is u = tt
unmet_moved m k to back r s t h (Some xs) is u =
    λ w. u (subst (λ (z : Site). IsMet m r z xs) (site_round m k to back r s t h) (met_moved k m back r (moved_site to s) xs is t.again w))

-- where a guard looks at the rule alone
module _ (allows : ℕ → Bool) (number : ℕ) (r : Rule) (is : IsRule r) where
  abbrev by_rule : ℕ → Site → Bool
  by_rule n s = allows n

  pub applies_moved : (m k : Meaning) (to back : List ℕ) (s : Site) → Twins m k to back → Applies by_rule number r m s → Applies by_rule number r k (moved_site to s)
  applies_moved m k to back s t h = record {
    site = site_moved m k to r s is t.there h.site;
    allowed = h.allowed;
    unmet = unmet_moved m k to back r s t h.site r.filter is.filter h.unmet;
  }

  pub nowhere_moved : (m k : Meaning) (to back : List ℕ) → Twins m k to back → AppliesNowhere by_rule number r m → AppliesNowhere by_rule number r k
  nowhere_moved m k to back t h = λ s a. h (moved_site back s) (applies_moved k m back to s (turned m k to back t) a)

  pub least_moved : (m k : Meaning) (to back : List ℕ) (s : Site) → Twins m k to back → IsLeastSite by_rule number r m s → IsLeastSite by_rule number r k (moved_site to s)
  least_moved m k to back s t h = record {
    applies = applies_moved m k to back s t h.applies;
    least = λ u a b. h.least (moved_site back u) (applies_moved k m back to u (turned m k to back t) a) b;
  }
