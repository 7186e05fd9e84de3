-- Unification with cuts, step by step.
use Rattle.std.specs.Prelude.{ℕ, ◌≡◌, Bool, true, false, Some, None, List, [], ◌∷◌}
use Rattle.std.proofs.Common.{refl, subst}
use Rattle.fs_model.specs.Claims.{Path, Claim, exists_at, same, below, System}
use Rattle.fs_model.specs.Closure.{Closure, given_claim, raised}
use Rattle.fs_model.specs.Sources.{Reader, Tells, tells_exists, tells_same, tells_below, Told, IsUnified}
use Rattle.tree_model.specs.Cuts.{Cut, Kept, kept_exists, kept_same, kept_below, is_kept, Trimmed, Trims}
use Rattle.tree_model.specs.Views.{Shows, IsTrimmed, IsKeptOf, without, source_alone}
use Rattle.tree_model.specs.Laws.{CutTrims, StepsTrim, AnswersAreShort}
use Rattle.tree_model.proofs.Closures.{grows, falls, HasEnds, closure_ends, kept_ends, kept_claim, trimmed_inside}
use Rattle.tree_model.proofs.ViewLemmas.{shows_same, graph_shows, alone_to, alone_back}

module _ (s : System) (cut : Cut) {X : Claim → Type 0} (r k : Reader) (shown : Shows s X r) (is : IsKeptOf cut r k) where
  there : (p : Path) (n : ℕ) → is_kept cut p ≡ true → r.node_at p ≡ Some n → (without cut r).node_at p ≡ Some n
  there p n e h = rw e h

  kept_there : (p : Path) (n : ℕ) → (without cut r).node_at p ≡ Some n → (is_kept cut p ≡ true) × (r.node_at p ≡ Some n)
  kept_there p n h = by_kept (is_kept cut p) refl
    where
      by_kept : (b : Bool) → is_kept cut p ≡ b → (is_kept cut p ≡ true) × (r.node_at p ≡ Some n)
      by_kept true e = (e, rw e at h)
      by_kept false e = absurd (let z : None ≡ Some n = rw e at h in cc)

  to_exists : (p : Path) → Kept cut X (exists_at p) → (m : ℕ) × (k.node_at p ≡ Some m)
  to_exists p (kept_exists _ e a) = let z = (shown.paths p).0 a in is.there p z.0 (there p z.0 e z.1)

  to_same : (p q : Path) → Kept cut X (same p q) → (m : ℕ) × (k.node_at p ≡ Some m) × (k.node_at q ≡ Some m)
  to_same p q (kept_same _ _ e f a) =
      let z = (shown.equalities p q).0 a in
      let m = is.there p z.0 (there p z.0 e z.1) in
      (m.0, m.1, is.equal p q z.0 m.0 (there p z.0 e z.1) (there q z.0 f z.2) m.1)

  above : (p : Path) (n t : ℕ) → k.node_at p ≡ Some n → Kept cut X (below p t) → s.is_below (k.type_of n) t ≡ true
  above p n t h (kept_below _ _ e a) =
      let b = is.there_back p n h in
      let c = kept_there p b.0 b.1 in
      subst (λ x. s.is_below x t ≡ true) (is.types p b.0 n b.1 h) (shown.types_above p b.0 t c.1 a)

  pub shows_kept : Shows s (Kept cut X) k
  shows_kept = record {
    paths = λ p. (to_exists p, λ h. let b = is.there_back p h.0 h.1 in let c = kept_there p b.0 b.1 in kept_exists p c.0 ((shown.paths p).1 (b.0, c.1)));
    equalities = λ p q. (
      to_same p q,
      λ h.
          let b = is.there_back p h.0 h.1 in
          let c = kept_there p b.0 b.1 in
          let d = kept_there q b.0 (is.equal_back p q h.0 b.0 h.1 h.2 b.1) in
          kept_same p q c.0 d.0 ((shown.equalities p q).1 (b.0, c.1, d.1)),
    );
    types_there = λ p n h.
        let b = is.there_back p n h in
        let c = kept_there p b.0 b.1 in
        kept_below p (k.type_of n) c.0 (subst (λ x. X (below p x)) (is.types p b.0 n b.1 h) (shown.types_there p b.0 c.1));
    types_above = above;
  }

module _ (s : System) {X : Claim → Type 0} (ends : HasEnds X) (r : Reader) (shown : Shows s X r) where
  pub tells_in : (c : Claim) → Tells r c → X c
  tells_in _ (tells_exists p n e) = (shown.paths p).1 (n, e)
  tells_in _ (tells_same p q n e f) = (shown.equalities p q).1 (n, e, f)
  tells_in _ (tells_below p n e) = shown.types_there p n e

  pub tells_all : (c : Claim) → X c → Closure s (Tells r) c
  tells_all (exists_at p) a = let z = (shown.paths p).0 a in given_claim _ (tells_exists p z.0 z.1)
  tells_all (same p q) a = let z = (shown.equalities p q).0 a in given_claim _ (tells_same p q z.0 z.1 z.2)
  tells_all (below p t) a =
      let z = (shown.paths p).0 (ends.under p t a) in
      raised p (r.type_of z.0) t (given_claim _ (tells_below p z.0 z.1)) (shown.types_above p z.0 t z.1 a)

pub cut_trims : CutTrims
cut_trims s source cut whole bare unified kept = (unified.0, shows_kept s cut whole bare (graph_shows s whole unified.1) kept)

pub steps_trim : StepsTrim
steps_trim s source cut last bare made = (twice, never)
  where
    into : (c : Claim) → Told (source_alone bare) c → Trimmed s cut (Closure s (Told source)) c
    into c a = given_claim c (tells_in s (kept_ends (closure_ends s)) bare made.1 c (alone_to bare c a))

    back : (c : Claim) → Kept cut (Closure s (Told source)) c → Closure s (Told (source_alone bare)) c
    back c a = grows s (λ d x. given_claim d (alone_back bare d x)) (tells_all s (kept_ends (closure_ends s)) bare made.1 c a)

    twice : (mother short : Reader) → IsUnified s (source_alone bare) (Some mother) → IsKeptOf last mother short → IsTrimmed s source (cut ∷ []) last (Some short)
    twice mother short m k =
        let shown = shows_same s mother (λ c a. grows s into a) (λ c a. grows s back a) (graph_shows s mother m.1) in
        (made.0, shows_kept s last mother short shown k)

    never : IsUnified s (source_alone bare) None → ⊥
    never refused = refused (falls s (λ c a. trimmed_inside s (grows s into a)) made.0)

-- what is left after cuts lies in the closure
trims_inside : (s : System) (cuts : List Cut) {X : Claim → Type 0} → ((c : Claim) → Closure s X c → X c) → (c : Claim) → Trims s cuts X c → X c
trims_inside s [] closed c a = a
trims_inside s (cut ∷ cuts) {X} closed c a = closed c (grows s (λ d k. given_claim d (kept_claim k)) (trims_inside s cuts {X = Trimmed s cut X} (λ d b. grows s (λ e y. y) b) c a))

pub answers_are_short : AnswersAreShort
answers_are_short s source cuts last r made p n e =
    made.0.bounded p (trims_inside s cuts (λ d b. grows s (λ e y. y) b) (exists_at p) (kept_claim ((made.1.paths p).1 (n, e))))
