-- One cut in place of two.
use Rattle.std.specs.Prelude.{ℕ, ◌≡◌, ◌&&◌, ◌==◌, not, Bool, true, false, Option, Some, None, List, [], ◌∷◌}
use Rattle.std.specs.List.{list_all}
use Rattle.std.proofs.Common.{refl, sym, ◌∙◌, subst, eqb-true}
use Rattle.fs_model.specs.Claims.{Path, Claim, System}
use Rattle.fs_model.specs.Closure.{Closure, given_claim}
use Rattle.fs_model.specs.Sources.{Reader, Source, Told}
use Rattle.tree_model.specs.Cuts.{Cut, has_feature, Kept, kept_exists, kept_same, kept_below, Trimmed}
use Rattle.tree_model.specs.Views.{IsTrimmed}
use Rattle.tree_model.proofs.Closures.{keeps_more, trimmed_inside}
use Rattle.tree_model.proofs.ViewLemmas.{shows_same}
use Rattle.grammar_shapes.specs.Cutting.{CutsNoMore, cuts_no_more}

both : (a b : Bool) → a && b ≡ true → (a ≡ true) × (b ≡ true)
both true b h = (refl, h)
both false b h = absurd (cc)

joined : (a b : Bool) → a ≡ true → b ≡ true → a && b ≡ true
joined a b h k = rw (h, k) refl

-- a feature of a list that lies in another is one of that
among : (fs gs : List ℕ) → list_all (has_feature gs) fs ≡ true → (f : ℕ) → has_feature fs f ≡ true → has_feature gs f ≡ true
among [] gs h f k = absurd (cc)
among (x ∷ fs) gs h f k = by_first (x == f) refl (among fs gs (both (has_feature gs x) (list_all (has_feature gs) fs) h).1 f)
  where
    by_first : (b : Bool) → (x == f) ≡ b → (has_feature fs f ≡ true → has_feature gs f ≡ true) → has_feature gs f ≡ true
    by_first true e go = subst (λ y. has_feature gs y ≡ true) (eqb-true x f e) (both (has_feature gs x) (list_all (has_feature gs) fs) h).0
    by_first false e go = go (let z : has_feature (x ∷ fs) f ≡ has_feature fs f = rw e refl in sym z ∙ k)

-- so a feature that isn't among the others isn't one of them
clear : (fs gs : List ℕ) → list_all (has_feature gs) fs ≡ true → (f : ℕ) → not (has_feature gs f) ≡ true → not (has_feature fs f) ≡ true
clear fs gs h f k = by_test (has_feature fs f) refl
  where
    by_test : (b : Bool) → has_feature fs f ≡ b → not (has_feature fs f) ≡ true
    by_test false e = rw e refl
    by_test true e = absurd (let z = among fs gs h f e in let y : not (has_feature gs f) ≡ false = rw z refl in cc)

all_clear : (fs gs : List ℕ) → list_all (has_feature gs) fs ≡ true → (p : Path) → list_all (λ g. not (has_feature gs g)) p ≡ true → list_all (λ g. not (has_feature fs g)) p ≡ true
all_clear fs gs h [] k = refl
all_clear fs gs h (f ∷ p) k =
    let z = both (not (has_feature gs f)) (list_all (λ g. not (has_feature gs g)) p) k in
    joined (not (has_feature fs f)) (list_all (λ g. not (has_feature fs g)) p) (clear fs gs h f z.0) (all_clear fs gs h p z.1)

pub keeps : (first second : Cut) → cuts_no_more first second ≡ true → CutsNoMore first second
keeps first second h [] k = refl
keeps first second h (f ∷ p) k =
    let z = both (list_all (has_feature second.anywhere) first.at_root) (list_all (has_feature second.anywhere) first.anywhere) h in
    let y = both (not (has_feature second.at_root f)) (list_all (λ g. not (has_feature second.anywhere g)) (f ∷ p)) k in
    let x = both (not (has_feature second.anywhere f)) (list_all (λ g. not (has_feature second.anywhere g)) p) y.1 in
    joined (not (has_feature first.at_root f)) (list_all (λ g. not (has_feature first.anywhere g)) (f ∷ p)) (clear first.at_root second.anywhere z.0 f x.0) (all_clear first.anywhere second.anywhere z.1 (f ∷ p) y.1)

module _ (s : System) (source : Source) (first second : Cut) (no_more : CutsNoMore first second) where
  kept_to : {c : Claim} → Kept second (Closure s (Told source)) c → Kept second (Trimmed s first (Closure s (Told source))) c
  kept_to (kept_exists p e a) = kept_exists p e (given_claim _ (kept_exists p (no_more p e) a))
  kept_to (kept_same p q e f a) = kept_same p q e f (given_claim _ (kept_same p q (no_more p e) (no_more q f) a))
  kept_to (kept_below p t e a) = kept_below p t e (given_claim _ (kept_below p t (no_more p e) a))

  -- where the second cut keeps nothing that the first one doesn't, it gives what both give one after another
  pub one_cut : (o : Option Reader) → IsTrimmed s source [] second o → IsTrimmed s source (first ∷ []) second o
  one_cut None refused = refused
  one_cut (Some r) made = (made.0, shows_same s r (λ c a. kept_to a) (λ c a. keeps_more (λ d z. trimmed_inside s z) a) made.1)
