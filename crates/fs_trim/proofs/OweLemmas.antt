-- What a cut keeps of a well-formed graph owes only facts that speak of what it cuts off.
use Rattle.std.specs.Prelude.{ℕ, ◌≡◌, ◌&&◌, ◌||◌, not, Bool, true, false, List, [], ◌∷◌, ◌++◌}
use Rattle.std.specs.List.{list_all, list_any}
use Rattle.std.proofs.Common.{refl, ◌∙◌, ap}
use Rattle.std.proofs.lemmas.List.Folds.{list_all-append}
use Rattle.fs_model.specs.Claims.{Path, Claim, exists_at, same, below, at, System}
use Rattle.fs_model.specs.Closure.{Closure, below_exists, introduced, raised, constrained}
use Rattle.fs_model.specs.Sources.{Reader}
use Rattle.fs_unify.specs.Entering.{IsWellFormed}
use Rattle.fs_unify.specs.Owing.{Holds, OwedFacts, is_owed, IsWellFormedBut, is_one_of, begins_with, is_cut_off}
use Rattle.tree_model.specs.Cuts.{Cut, Kept, kept_exists, kept_same, kept_below, has_feature, is_kept}
use Rattle.tree_model.specs.Views.{Shows, IsKeptOf}
use Rattle.tree_model.proofs.Closures.{closure_ends, kept_ends}
use Rattle.tree_model.proofs.Steps.{shows_kept}
use Rattle.tree_model.proofs.ViewLemmas.{graph_shows}
use Rattle.fs_trim.specs.Cutting.{owed_of}
use Rattle.fs_trim.specs.Owing.{FullsOwe, ShapesOwe, AbstractsOwe, ClosuresOwe}
use Rattle.fs_trim.proofs.SeenLemmas.{seen_shows}

neither : (a b : Bool) → (a || b) ≡ false → (a ≡ false) × (b ≡ false)
neither false b e = (refl, e)
neither true b e = absurd (cc)

both : (a b : Bool) → a ≡ true → b ≡ true → (a && b) ≡ true
both true true e f = refl
both true false e f = absurd (cc)
both false b e f = absurd (cc)

first_of : (a b : Bool) → (a && b) ≡ true → a ≡ true
first_of true b e = refl
first_of false b e = absurd (cc)

second_of : (a b : Bool) → (a && b) ≡ true → b ≡ true
second_of true b e = e
second_of false b e = absurd (cc)

-- where no element passes the test, each fails it
none_all : (test : ℕ → Bool) (xs : List ℕ) → list_any test xs ≡ false → list_all (λ x. not (test x)) xs ≡ true
none_all test [] e = refl
none_all test (x ∷ xs) e =
    let z = neither (test x) (list_any test xs) e in
    both (not (test x)) (list_all (λ y. not (test y)) xs) (ap not z.0) (none_all test xs z.1)

-- a path that isn't cut off is kept
kept_whole : (cut : Cut) (q : Path) → is_cut_off cut.at_root cut.anywhere q ≡ false → is_kept cut q ≡ true
kept_whole cut [] e = refl
kept_whole cut (f ∷ q) e =
    let z = neither (is_one_of cut.at_root f) (list_any (is_one_of cut.anywhere) (f ∷ q)) e in
    both (not (has_feature cut.at_root f)) (list_all (λ g. not (has_feature cut.anywhere g)) (f ∷ q)) (ap not z.0) (none_all (has_feature cut.anywhere) (f ∷ q) z.1)

-- and so is one that goes on from a path that is kept
kept_on : (cut : Cut) (f : ℕ) (p q : Path) → is_kept cut (f ∷ p) ≡ true → is_cut_off [] cut.anywhere q ≡ false → is_kept cut (f ∷ (p ++ q)) ≡ true
kept_on cut f p q k e =
    let clear = λ (g : ℕ). not (has_feature cut.anywhere g) in
    let one = first_of (not (has_feature cut.at_root f)) (list_all (λ g. not (has_feature cut.anywhere g)) (f ∷ p)) k in
    let two = second_of (not (has_feature cut.at_root f)) (list_all (λ g. not (has_feature cut.anywhere g)) (f ∷ p)) k in
    let z = neither (begins_with [] q) (list_any (is_one_of cut.anywhere) q) e in
    let all = list_all-append clear (f ∷ p) q ∙ both (list_all clear (f ∷ p)) (list_all clear q) two (none_all (has_feature cut.anywhere) q z.1) in
    both (not (has_feature cut.at_root f)) (list_all (λ g. not (has_feature cut.anywhere g)) (f ∷ (p ++ q))) one all

module _ (s : System) (cut : Cut) {X : Claim → Type 0} (r : Reader) (shown : Shows s (Kept cut (Closure s X)) r) where
  -- what is cut off from a path on
  abbrev is_off : Path → Path → Bool
  is_off [] q = is_cut_off cut.at_root cut.anywhere q
  is_off (f ∷ p) q = is_cut_off [] cut.anywhere q

  kept_from : (p q : Path) → is_kept cut p ≡ true → is_off p q ≡ false → is_kept cut (p ++ q) ≡ true
  kept_from [] q e o = kept_whole cut q o
  kept_from (f ∷ p) q e o = kept_on cut f p q e o

  off_exists : (p q : Path) → is_owed (owed_of cut) p (exists_at q) ≡ false → is_off p q ≡ false
  off_exists [] q o = o
  off_exists (f ∷ p) q o = o

  off_below : (p q : Path) (t : ℕ) → is_owed (owed_of cut) p (below q t) ≡ false → is_off p q ≡ false
  off_below [] q t o = o
  off_below (f ∷ p) q t o = o

  off_same : (p q v : Path) → is_owed (owed_of cut) p (same q v) ≡ false → (is_off p q ≡ false) × (is_off p v ≡ false)
  off_same [] q v o = neither (is_cut_off cut.at_root cut.anywhere q) (is_cut_off cut.at_root cut.anywhere v) o
  off_same (f ∷ p) q v o = neither (is_cut_off [] cut.anywhere q) (is_cut_off [] cut.anywhere v) o

  path_kept : (p : Path) → Kept cut (Closure s X) (exists_at p) → (is_kept cut p ≡ true) × Closure s X (exists_at p)
  path_kept p (kept_exists _ e a) = (e, a)

  type_kept : (p : Path) (t : ℕ) → Kept cut (Closure s X) (below p t) → (is_kept cut p ≡ true) × Closure s X (below p t)
  type_kept p t (kept_below _ _ e a) = (e, a)

  -- a fact that isn't owed is kept
  holds_on : (p : Path) (c : Claim) → is_kept cut p ≡ true → is_owed (owed_of cut) p c ≡ false → Closure s X (at p c) → Holds s r (at p c)
  holds_on p (exists_at q) e o x = (shown.paths (p ++ q)).0 (kept_exists (p ++ q) (kept_from p q e (off_exists p q o)) x)
  holds_on p (same q v) e o x =
      let off = off_same p q v o in
      (shown.equalities (p ++ q) (p ++ v)).0 (kept_same (p ++ q) (p ++ v) (kept_from p q e off.0) (kept_from p v e off.1) x)
  holds_on p (below q t) e o x =
      let on = kept_from p q e (off_below p q t o) in
      let m = (shown.paths (p ++ q)).0 (kept_exists (p ++ q) on (below_exists (p ++ q) t x)) in
      (m.0, m.1, shown.types_above (p ++ q) m.0 t m.1 (kept_below (p ++ q) t on x))

  -- a graph that shows what a cut keeps of a closure owes only facts that speak of what is cut off
  pub shown_owes : IsWellFormedBut s r (owed_of cut)
  shown_owes = record {
    introduced = λ p f n m h e.
        let further = path_kept (p ++ f ∷ []) ((shown.paths (p ++ f ∷ [])).1 (m, e)) in
        let here_is = path_kept p ((shown.paths p).1 (n, h)) in
        shown.types_above p n (s.introducer f) h (kept_below p (s.introducer f) here_is.0 (introduced p f further.1));
    constrained = λ p n u c h b i o.
        let typed = type_kept p (r.type_of n) (shown.types_there p n h) in
        holds_on p c typed.0 o (constrained p u c (raised p (r.type_of n) u typed.1 b) i);
  }

-- and so does what it keeps of a well-formed graph
pub kept_owes : (s : System) (cut : Cut) (r k : Reader) → IsKeptOf cut r k → IsWellFormed s r → IsWellFormedBut s k (owed_of cut)
kept_owes s cut r k is well = shown_owes s cut k (shows_kept s cut r k (graph_shows s r well) is)

-- a graph that shows a closure owes nothing, whatever it may
pub closed_owes : (s : System) {X : Claim → Type 0} (r : Reader) (owed : OwedFacts) → Shows s (Closure s X) r → IsWellFormedBut s r owed
closed_owes s {X} r owed shown = record {
  introduced = λ p f n m h e. shown.types_above p n (s.introducer f) h (introduced p f ((shown.paths (p ++ f ∷ [])).1 (m, e)));
  constrained = λ p n u c h b i o. holds (at p c) (constrained p u c (raised p (r.type_of n) u (shown.types_there p n h) b) i);
}
  where
    holds : (c : Claim) → Closure s X c → Holds s r c
    holds (exists_at q) x = (shown.paths q).0 x
    holds (same q v) x = (shown.equalities q v).0 x
    holds (below q t) x = let m = (shown.paths q).0 (below_exists q t x) in (m.0, m.1, shown.types_above q m.0 t m.1 x)

-- the laws
pub fulls_owe : FullsOwe
fulls_owe g rule fs r inside full =
    shown_owes g.system g.daughters r (seen_shows g.system g.paths (kept_ends (closure_ends g.system)) r inside full.1)

pub shapes_owe : ShapesOwe
shapes_owe g rule ms r inside shape =
    shown_owes g.system g.restrictors r (seen_shows g.system g.paths (kept_ends (closure_ends g.system)) r inside shape.1)

pub abstracts_owe : AbstractsOwe
abstracts_owe g f r inside shape =
    shown_owes g.system g.restrictors r (seen_shows g.system g.paths (kept_ends (closure_ends g.system)) r inside shape)

pub closures_owe : ClosuresOwe
closures_owe g source r owed inside is = closed_owes g.system r owed (seen_shows g.system g.paths (closure_ends g.system) r inside is)
