-- A rule of whose predicates one isn't there applies nowhere.
use Rattle.std.proofs.Common.{ℕ, ◌≡◌, ◌<◌, ◌≤◌, ◌+◌, ◌⊎◌, inl, inr, ◌∙◌, Bool, true, false, Some, None, List, [], ◌∷◌, ◌++◌, length, get_or, take, sym, subst, ap, arith}
use Rattle.std.specs.Prelude.{All, Contains, MatchOption, map, slice_index_or, string_bytes}
use Rattle.std.specs.Bool.{OnFalse}
use Rattle.std.specs.List.{slice_get}
use Rattle.std.proofs.Math.ListN.{set}
use Rattle.std.proofs.lemmas.Bool.{false≢true, cases_eq}
use Rattle.std.proofs.lemmas.List.{take-append-drop, get_or-set_same, get_or-set_other, get_or-map, length-map, length-set, map_more}
use Rattle.std.proofs.lemmas.List.Elements.{All-push}
use Rattle.std.proofs.lemmas.Option.{slice_get_cases}
use Rattle.mrs_model.specs.Meanings.{Predication, Meaning}
use Rattle.transfer_model.specs.declared.Element.{Element as DeclaredElement}
use Rattle.transfer_model.specs.declared.Rule.{Rule as DeclaredRule}
use Rattle.transfer_model.specs.Rules.{Element, Rule}
use Rattle.transfer_model.specs.Sites.{Site, Fits}
use Rattle.transfer_model.specs.Runs.{AppliesNowhere}
use Rattle.transfer_model.specs.Views.{element_of, rule_of}
use Rattle.mrs_transfer.proofs.Zips.{zip_at}
use Rattle.mrs_transfer.specs.Inner.Present.{place_of, ArePresent}

-- an element whose predicate isn't there fits no elementary predication
fits_none : (places : List Bool) (eps : List Predication) (vars : List ℕ) (x : Element) (p : ℕ) → ArePresent places eps → get_or places (place_of x.pred) false ≡ false → MatchOption (slice_get eps p) ⊥ (Fits vars x) → ⊥
fits_none places eps vars x p here lacks fit = by_case (slice_get_cases eps p).1
  where
    by_case : ((e : Predication) × (p < length eps) × (slice_get eps p ≡ Some e) × (get_or eps p e ≡ e)) ⊎ ((length eps ≤ p) × (slice_get eps p ≡ None)) → ⊥
    by_case (inl h) =
        let f = subst (λ o. MatchOption o ⊥ (Fits vars x)) h.2 fit in
        let there = subst (λ (e : Predication). get_or places (place_of e.pred) false ≡ true) h.3 (here.each p h.0 h.1) in
        let same = subst (λ (t : List ℕ). get_or places (place_of t) false ≡ true) f.pred there in
        false≢true (sym lacks ∙ same)
    by_case (inr h) = subst (λ o. MatchOption o ⊥ (Fits vars x)) h.1 fit

applies_nowhere : (allows : ℕ → Site → Bool) (number : ℕ) (r : Rule) (m : Meaning) (places : List Bool) (x : Element) → ArePresent places m.eps → Contains (r.input ++ r.context) x → get_or places (place_of x.pred) false ≡ false
    → AppliesNowhere allows number r m
applies_nowhere allows number r m places x here c lacks = λ s a.
    let z = zip_at (λ y p. MatchOption (slice_get m.eps p) ⊥ (Fits s.vars y)) (r.input ++ r.context) s.places c.0 x 0 a.site.elements c.1 in
    fits_none places m.eps s.vars x (get_or s.places c.0 0) here lacks (subst (λ (y : Element). MatchOption (slice_get m.eps (get_or s.places c.0 0)) ⊥ (Fits s.vars y)) c.2 z)

elements_are : (r : DeclaredRule) → (rule_of r).input ++ (rule_of r).context ≡ map element_of r.elements.items
elements_are r = take-append-drop r.inputs (map element_of r.elements.items)

-- a rule of the program, one of whose elements has a predicate that isn't there
abbrev pub HasAbsent : List Bool → DeclaredRule → Type 0
HasAbsent places r = (x : Element) × Contains (map element_of r.elements.items) x × (slice_index_or places (place_of x.pred) false ≡ false)

pub absent_nowhere : (allows : ℕ → Site → Bool) (number : ℕ) (r : DeclaredRule) (m : Meaning) (places : List Bool) → ArePresent places m.eps → HasAbsent places r → AppliesNowhere allows number (rule_of r) m
absent_nowhere allows number r m places here a = applies_nowhere allows number (rule_of r) m places a.0 here (subst (λ (xs : List Element). Contains xs a.0) (sym (elements_are r)) a.1) a.2

-- what an answer of no says
pub on_no : (P : Type 0) (b : Bool) → b ≡ false → OnFalse b P → P
on_no P b e h = subst (λ (z : Bool). OnFalse z P) e h

-- an element whose predicate isn't there
pub absent_at : (places : List Bool) (r : DeclaredRule) (i : ℕ) (x : DeclaredElement) → i < length r.elements.items → x ≡ get_or r.elements.items i x → get_or places (place_of (string_bytes x.pred)) false ≡ false → HasAbsent places r
absent_at places r i x l is lacks =
    let n = length-map r.elements.items element_of in
    (element_of x, (i, omega (arith, n, l), get_or-map element_of r.elements.items i x (element_of x) l ∙ ap element_of (sym is)), lacks)

-- one more is marked
module _ {R : Type 0} (g : R → Predication) where
  abbrev IsThere : R → List Bool → Predication → Type 0
  IsThere r places e = slice_index_or (set places (place_of (g r).pred) true) (place_of e.pred) false ≡ true

  pub present_more : (rs : List R) (i : ℕ) (r : R) (places : List Bool) → i < length rs → r ≡ get_or rs i r → place_of (g r).pred < length places → ArePresent places (map g (take i rs))
      → ArePresent (set places (place_of (g r).pred) true) (map g (take (i + 1) rs))
  present_more rs i r places l is within h = record {
    size = length-set places (place_of (g r).pred) true ∙ h.size;
    each = subst (All (IsThere r places)) (sym (map_more g rs i r l ∙ ap (λ (y : R). map g (take i rs) ++ g y ∷ []) (sym is)))
        (All-push (IsThere r places) (map g (take i rs)) (g r) (λ k d m. still (get_or (map g (take i rs)) k d) (h.each k d m)) (get_or-set_same places (place_of (g r).pred) true false within));
  }
    where
      by_case : (k : ℕ) → (k ≡ place_of (g r).pred) ⊎ (k ≡ place_of (g r).pred → ⊥) → get_or places k false ≡ true → get_or (set places (place_of (g r).pred) true) k false ≡ true
      by_case k (inl e) t = subst (λ (z : ℕ). get_or (set places (place_of (g r).pred) true) z false ≡ true) (sym e) (get_or-set_same places (place_of (g r).pred) true false within)
      by_case k (inr ne) t = get_or-set_other places (place_of (g r).pred) k true false ne ∙ t

      still : (e : Predication) → slice_index_or places (place_of e.pred) false ≡ true → (IsThere r places) e
      still e t = by_case (place_of e.pred) (cases_eq (place_of e.pred) (place_of (g r).pred)) t
