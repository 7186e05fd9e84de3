-- Matches of the search are those of the definitions.
use Rattle.std.proofs.Common.{◌≡◌, ℕ, zero, suc, ◌<◌, inr, List, [], ◌∷◌, ◌++◌, length, take, drop, get_or, refl, ap, sym, subst, arith, Option}
use Rattle.std.specs.Prelude.{MatchOption, All, map, string_bytes}
use Rattle.std.specs.List.{slice_get, Any, AllZip}
use Rattle.std.proofs.lemmas.List.{take-append-drop}
use Rattle.std.proofs.lemmas.Option.{slice_get-get_or}
use Rattle.mrs_model.specs.Meanings.{Predication, Variable, Meaning}
use Rattle.transfer_model.specs.Rules.{Element, IsElement, StandsAt}
use Rattle.transfer_model.specs.declared.Rule.{Rule as DeclaredRule}
use Rattle.transfer_model.specs.Views.{element_of, rule_of, IsHeld}
use Rattle.mrs_model.specs.Valid.{IsValid}
use Rattle.mrs_transfer.proofs.Searching.{apart_none}
use Rattle.transfer_model.specs.Sites.{Site, IsMatch, IsSite, HasLetters}
use Rattle.mrs_transfer.specs.declared.bound.Pair.{Pair}
use Rattle.mrs_transfer.specs.Inner.Matching.{Task, MayHave, Agree, ArePairs, IsTask, IsPlaced, FitsAt, FitAll, Solves}

-- the variable's sort, where it is there
abbrev pub IsOfLetters : List Variable → List ℕ → ℕ → Type 0
IsOfLetters all l v = MatchOption (slice_get all v) ⊥ (HasLetters l)

no_variable : Variable
no_variable = record { sort = []; props = [] }

pub there : (all : List Variable) (l : List ℕ) (v : ℕ) → IsOfLetters all l v → v < length all
there [] l zero h = absurd h
there [] l (suc v) h = absurd h
there (x ∷ xs) l zero h = omega arith
there (x ∷ xs) l (suc v) h = let r = there xs l v h in omega (arith, r)

pub has_letters : (all : List Variable) (l : List ℕ) (v : ℕ) (d : Variable) → IsOfLetters all l v → HasLetters l (get_or all v d)
has_letters all l v d h = subst (λ (o : Option Variable). MatchOption o ⊥ (HasLetters l)) (slice_get-get_or all v d (there all l v h)) h

is_of_letters : (all : List Variable) (letters : List (List ℕ)) (c v : ℕ) → MayHave all letters c v → IsOfLetters all (get_or letters c []) v
is_of_letters all letters c v h = subst (λ (o : Option Variable). MatchOption o ⊥ (HasLetters (get_or letters c []))) (sym (slice_get-get_or all v no_variable h.var)) (h.fit no_variable)

zip_from_reads : (R : List ℕ → ℕ → Type 0) (xs : List (List ℕ)) (ys : List ℕ) → length ys ≡ length xs → ((c : ℕ) → c < length xs → R (get_or xs c []) (get_or ys c 0)) → AllZip R xs ys
zip_from_reads R [] [] n h = tt
zip_from_reads R [] (y ∷ ys) n h = absurd (omega (arith, n))
zip_from_reads R (x ∷ xs) [] n h = absurd (omega (arith, n))
zip_from_reads R (x ∷ xs) (y ∷ ys) n h = (h 0 (omega arith), zip_from_reads R xs ys (omega (arith, n)) (λ c l. h (suc c) (omega (arith, l))))

pub zip_length : (R : List ℕ → ℕ → Type 0) (xs : List (List ℕ)) (ys : List ℕ) → AllZip R xs ys → length ys ≡ length xs
zip_length R [] [] z = refl
zip_length R [] (y ∷ ys) z = absurd z
zip_length R (x ∷ xs) [] z = absurd z
zip_length R (x ∷ xs) (y ∷ ys) z = ap suc (zip_length R xs ys z.1)

pub zip_reads : (R : List ℕ → ℕ → Type 0) (xs : List (List ℕ)) (ys : List ℕ) (c : ℕ) → AllZip R xs ys → c < length xs → R (get_or xs c []) (get_or ys c 0)
zip_reads R [] ys c z l = absurd (omega arith)
zip_reads R (x ∷ xs) [] c z l = absurd z
zip_reads R (x ∷ xs) (y ∷ ys) zero z l = z.0
zip_reads R (x ∷ xs) (y ∷ ys) (suc c) z l = zip_reads R xs ys c z.1 (omega (arith, l))

fit_zip : (eps : List Predication) (vars : List ℕ) (xs : List Element) (ps : List ℕ) → length ps ≡ length xs → FitAll eps vars xs ps → AllZip (FitsAt eps vars) xs ps
fit_zip eps vars [] [] n f = tt
fit_zip eps vars [] (p ∷ ps) n f = absurd f
fit_zip eps vars (x ∷ xs) [] n f = absurd (omega (arith, n))
fit_zip eps vars (x ∷ xs) (p ∷ ps) n f = (f.0, fit_zip eps vars xs ps (omega (arith, n)) f.1)

zip_fit : (eps : List Predication) (vars : List ℕ) (xs : List Element) (ps : List ℕ) → AllZip (FitsAt eps vars) xs ps → (length ps ≡ length xs) × FitAll eps vars xs ps
zip_fit eps vars [] [] z = (refl, tt)
zip_fit eps vars [] (p ∷ ps) z = absurd z
zip_fit eps vars (x ∷ xs) [] z = absurd z
zip_fit eps vars (x ∷ xs) (p ∷ ps) z = let r = zip_fit eps vars xs ps z.1 in (ap suc r.0, (z.0, r.1))

-- what is looked for in an MRS
abbrev pub task_in : Meaning → List (List ℕ) → List Element → List Pair → Task
task_in m letters xs given = record { eps = m.eps; all = m.vars; letters = letters; elements = xs; given = given }

pub is_match : (m : Meaning) (letters : List (List ℕ)) (xs : List Element) (given : List Pair) (ps vs : List ℕ) → Solves (task_in m letters xs given) ps vs → IsMatch m letters xs ps vs
is_match m letters xs given ps vs s = record {
  elements = fit_zip m.eps vs xs ps s.all s.fits;
  apart = s.apart;
  sorts = zip_from_reads (IsOfLetters m.vars) letters vs s.sorts.size (λ c l. is_of_letters m.vars letters c (get_or vs c 0) (s.sorts.each c l));
}

pub solves : (m : Meaning) (letters : List (List ℕ)) (xs : List Element) (given : List Pair) (ps vs : List ℕ) → IsMatch m letters xs ps vs → Agree vs given → Solves (task_in m letters xs given) ps vs
solves m letters xs given ps vs h a =
    let z = zip_fit m.eps vs xs ps h.elements in
    record {
      all = z.0;
      apart = h.apart;
      fits = z.1;
      sorts = record {
        size = zip_length (IsOfLetters m.vars) letters vs h.sorts;
        each = λ c l. let r = zip_reads (IsOfLetters m.vars) letters vs c h.sorts l in record {
          coref = l;
          var = there m.vars (get_or letters c []) (get_or vs c 0) r;
          fit = λ d. has_letters m.vars (get_or letters c []) (get_or vs c 0) d r;
        };
      };
      given = a;
    }

-- the places of a rule
pub site_from : (m : Meaning) (r : DeclaredRule) (ps vs : List ℕ) → Solves (task_in m (map string_bytes r.letters.items) (map element_of r.elements.items) []) ps vs → IsSite m (rule_of r) (record { places = ps; vars = vs })
site_from m r ps vs s = is_match m (map string_bytes r.letters.items) (take r.inputs (map element_of r.elements.items) ++ drop r.inputs (map element_of r.elements.items)) [] ps vs
    (subst (λ (xs : List Element). Solves (task_in m (map string_bytes r.letters.items) xs []) ps vs) (sym (take-append-drop r.inputs (map element_of r.elements.items))) s)

pub site_to : (m : Meaning) (r : DeclaredRule) (s : Site) → IsSite m (rule_of r) s → Solves (task_in m (map string_bytes r.letters.items) (map element_of r.elements.items) []) s.places s.vars
site_to m r s h = subst (λ (xs : List Element). Solves (task_in m (map string_bytes r.letters.items) xs []) s.places s.vars) (take-append-drop r.inputs (map element_of r.elements.items))
    (solves m (map string_bytes r.letters.items) (take r.inputs (map element_of r.elements.items) ++ drop r.inputs (map element_of r.elements.items)) [] s.places s.vars h (λ k d l. absurd (omega (arith, l))))

pub rule_task : (m : Meaning) (r : DeclaredRule) → IsValid m → IsHeld r → IsTask (task_in m (map string_bytes r.letters.items) (map element_of r.elements.items) [])
rule_task m r v h = record {
  eps = v.eps;
  elements = subst (λ (xs : List Element). All (IsElement (length (map string_bytes r.letters.items))) xs) (take-append-drop r.inputs (map element_of r.elements.items)) h.rule.elements;
  standing = λ c l. inr (subst (λ (xs : List Element). Any (StandsAt c) xs) (take-append-drop r.inputs (map element_of r.elements.items)) (h.rule.standing c (omega arith) l));
}

-- the search begins with the pairs that are given
pub start : (t : Task) → ArePairs t.all t.letters t.given → IsPlaced t [] t.given
start t h = record {
  short = omega arith;
  apart = apart_none;
  are = h;
  told = λ vars l. (λ a. (a, tt), λ a. a.0);
  given = λ c b. b;
  bound = λ k c x l e s. absurd (omega (arith, l));
}

pub no_pairs : (all : List Variable) (letters : List (List ℕ)) → ArePairs all letters []
no_pairs all letters = record { each = λ k d l. absurd (omega (arith, l)); single = λ c v w h i. absurd (let l = h.1 in omega (arith, l)) }
