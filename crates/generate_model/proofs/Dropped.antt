-- Where rules thread, hopeless structures may be dropped.
use Rattle.std.specs.Prelude.{ℕ, ◌≡◌, ◌+◌, ◌-◌, ◌<◌, ◌≤◌, ◌⊎◌, Option, Some, None, List, [], ◌∷◌, ◌++◌, length, slice_get}
use Rattle.std.proofs.Common.{refl, sym, ◌∙◌, ap, subst, arith, inl, inr, append_assoc}
use Rattle.std.proofs.lemmas.Bool.{cases_lt}
use Rattle.fs_model.specs.Claims.{Path, Claim, exists_at, same, below, at, System, Has, here, there}
use Rattle.fs_model.specs.Closure.{Closure, AreConsistent, given_claim, same_sym, same_trans}
use Rattle.fs_model.specs.Sources.{Told}
use Rattle.tree_model.specs.Structures.{Structure, Beside, beside_here, beside_there}
use Rattle.tree_model.specs.Mothers.{Rule, RuleSystem, IsFull, IsFullAt, Whole, Meant, Parts, of_rule, of_daughter, arity_at}
use Rattle.tree_model.proofs.Closures.{grows, moved, falls}
use Rattle.tree_model.proofs.MotherLaws.{mother_consistent, meant_full}
use Rattle.generate_model.specs.Threads.{times, Open, Reaches, Threads, threads_none, threads_next, total, Stands, stands_here, stands_there}
use Rattle.generate_model.specs.Embedding.{Embeds, moved_to, IsOutside}
use Rattle.generate_model.specs.Threading.{Links, links_none, links_next, IsThreading, Fit, Hopeless, HopelessMayBeDropped}
use Rattle.generate_model.proofs.Threaded.{appended, no_turn}
use Rattle.generate_model.proofs.Embedded.{daughters_embed}
use Rattle.generate_model.proofs.Pruned.{pruning_is_exact}

-- a list reaches its end in one number of steps
not_less : (s : System) (given : Claim → Type 0) (rest : ℕ) (l : Open) (n m : ℕ) → AreConsistent s (Closure s given) → Reaches (Closure s given) rest l n → Reaches (Closure s given) rest l m → n < m → ⊥
not_less s given rest l n m c a b lt =
    let x = l.start ++ times rest n in
    let back : Closure s given (same (l.start ++ times rest m) (l.start ++ times rest n)) = same_trans (l.start ++ times rest m) l.end (l.start ++ times rest n) b (same_sym (l.start ++ times rest n) l.end a) in
    let split : (l.start ++ times rest n) ++ times rest (m - n) ≡ l.start ++ times rest m = appended s given rest l.start n (m - n) ∙ ap (λ i. l.start ++ times rest i) (omega (arith, lt)) in
    no_turn s given rest c (l.start ++ times rest n) (m - n) (omega (arith, lt)) (subst (λ p. Closure s given (same p (l.start ++ times rest n))) (sym split) back)

one_reach : (s : System) (given : Claim → Type 0) (rest : ℕ) (l : Open) (n m : ℕ) → AreConsistent s (Closure s given) → Reaches (Closure s given) rest l n → Reaches (Closure s given) rest l m → n ≡ m
one_reach s given rest l n m c a b = by_case (cases_lt n m) (cases_lt m n)
  where
    by_case : (n < m) ⊎ (m ≤ n) → (m < n) ⊎ (n ≤ m) → n ≡ m
    by_case (inl h) k = absurd (not_less s given rest l n m c a b h)
    by_case (inr h) (inl k) = absurd (not_less s given rest l m n c b a k)
    by_case (inr h) (inr k) = omega (arith, h, k)

stands_within : {l : Open} {n before : ℕ} {ls : List (Open × ℕ)} → Stands l n before ls → before + n ≤ total ls
stands_within stands_here = omega arith
stands_within (stands_there st) = let z = stands_within st in omega (arith, z)

-- lists that follow one another, each of which reaches its end
record Threaded (claims : Claim → Type 0) (rest : ℕ) (a : Path) (os : List Open) (b : Path) : Type 0 where
  lists : List (Open × ℕ)
  threads : Threads claims rest a lists b
  stands : (o : Open) → Has o os → (n : ℕ) × (before : ℕ) × Stands o n before lists × Reaches claims rest o n

threaded : {claims : Claim → Type 0} {rest : ℕ} {a b : Path} {os : List Open} → Links claims a os b → ((o : Open) → Has o os → (n : ℕ) × Reaches claims rest o n) → Threaded claims rest a os b
threaded (links_none h) f = record { lists = []; threads = threads_none h; stands = λ o m. elim m [ ] }
threaded {claims} {rest} (links_next {a = a} {b = b} {o = k} {os = os} h ls) f =
    let z = f k here in
    let t = threaded {rest = rest} ls (λ o m. f o (there m)) in
    record { lists = (k, z.0) ∷ t.lists; threads = threads_next h z.1 t.threads; stands = λ o m. by_place t z o m }
  where
    by_place : (t : Threaded claims rest k.end os b) (z : (n : ℕ) × Reaches claims rest k n) (o : Open) → Has o (k ∷ os) → (n : ℕ) × (before : ℕ) × Stands o n before ((k, z.0) ∷ t.lists) × Reaches claims rest o n
    by_place t z _ here = (z.0, 0, stands_here, z.1)
    by_place t z o (there m) = let y = t.stands o m in (y.0, z.0 + y.1, stands_there y.2, y.3)

links_grow : {P Q : Claim → Type 0} → ((c : Claim) → P c → Q c) → {a b : Path} {os : List Open} → Links P a os b → Links Q a os b
links_grow f (links_none h) = links_none (f _ h)
links_grow f (links_next h ls) = links_next (f _ h) (links_grow f ls)

-- daughters by place
at_place : {place : Path} {ps : List Path} {fs : List Structure} → length fs ≡ length ps → Has place ps → (d : Structure) × Beside place d ps fs × Has d fs
at_place {ps = []} e h = elim h [ ]
at_place {ps = p ∷ ps} {fs = []} e h = absurd (omega (arith, e))
at_place {ps = p ∷ ps} {fs = f ∷ fs} e here = (f, beside_here, here)
at_place {ps = p ∷ ps} {fs = f ∷ fs} e (there h) = let z = at_place {ps = ps} {fs = fs} (omega (arith, e)) h in (z.0, beside_there z.1, there z.2)

place_of : {d : Structure} {ps : List Path} {fs : List Structure} → length fs ≡ length ps → Has d fs → (place : Path) × Beside place d ps fs × Has place ps
place_of {ps = []} {fs = []} e h = elim h [ ]
place_of {ps = p ∷ ps} {fs = []} e h = elim h [ ]
place_of {ps = []} {fs = f ∷ fs} e h = absurd (omega (arith, e))
place_of {ps = p ∷ ps} {fs = f ∷ fs} e here = (p, beside_here, here)
place_of {ps = p ∷ ps} {fs = f ∷ fs} e (there h) = let z = place_of {ps = ps} {fs = fs} (omega (arith, e)) h in (z.0, beside_there z.1, there z.2)

module _ (g : RuleSystem) (rest : ℕ) (l : Open) (out : IsOutside g l) where
  module _ (rule : Rule) (th : IsThreading g rest l rule) (fs : List Structure) (f : Structure) (e : length fs ≡ length rule.places) (is : IsFull g rule fs f) (fit : (d : Structure) → Has d fs → Fit g rest l d) where
    own : (c : Claim) → Closure g.system (Told rule.facts) c → Whole g rule fs c
    own c h = grows g.system (λ d x. given_claim d (of_rule d x)) h

    daughter_reaches : (place : Path) (d : Structure) → Beside place d rule.places fs → (n : ℕ) → Reaches (Meant g d) rest l n → Reaches (Whole g rule fs) rest (moved_to place l) n
    daughter_reaches place d b n h =
        subst (λ p. Whole g rule fs (same p (place ++ l.end))) (sym (append_assoc place l.start (times rest n)))
        (moved g.system place (λ c x. given_claim (at place c) (of_daughter place d c b x)) h)

    reach : (o : Open) → Has o th.opens → (n : ℕ) × Reaches (Whole g rule fs) rest o n
    reach o h = by_kind (th.each o h)
      where
        by_kind : ((place : Path) × Has place rule.places × (o ≡ moved_to place l)) ⊎ ((n : ℕ) × Reaches (Closure g.system (Told rule.facts)) rest o n) → (n : ℕ) × Reaches (Whole g rule fs) rest o n
        by_kind (inl x) =
            let d = at_place e x.1 in
            let z = fit d.0 d.2 in
            (z.0, subst (λ k. Reaches (Whole g rule fs) rest k z.0) (sym x.2) (daughter_reaches x.0 d.0 d.1 z.0 z.1))
        by_kind (inr x) = (x.0, own _ x.1)

    all : Threaded (Whole g rule fs) rest l.start th.opens l.end
    all = threaded (links_grow own th.links) reach

    mother_fit : Reaches (Meant g f) rest l (total all.lists)
    mother_fit = (daughters_embed g rest l out rule fs f is all.lists all.threads).0

    meant_consistent : AreConsistent g.system (Meant g f)
    meant_consistent = falls g.system (λ c h. meant_full g rule fs f is h) (mother_consistent g rule fs is.0)

    hopeless_up : {C : Type 0} (accepted : Structure → C → Type 0) (d : Structure) → Has d fs → Hopeless g rest l accepted d → Hopeless g rest l accepted f
    hopeless_up accepted d m h n far before u c r ru low em a =
        let p = place_of e m in
        let st = all.stands (moved_to p.0 l) (th.all p.0 p.2) in
        let own_n = fit d m in
        let same_n : own_n.0 ≡ st.0 = one_reach g.system (Parts g.paths rule fs) rest (moved_to p.0 l) own_n.0 st.0 is.0 (daughter_reaches p.0 d p.1 own_n.0 own_n.1) st.3 in
        let same_m : n ≡ total all.lists = one_reach g.system _ rest l n (total all.lists) meant_consistent r mother_fit in
        let inner = (daughters_embed g rest l out rule fs f is all.lists all.threads).1 p.0 d st.0 st.1 p.1 st.2 in
        let within = stands_within st.2 in
        let sum : (j : ℕ) → before + (st.1 + j) ≡ (before + st.1) + j = λ j. omega arith in
        h st.0 far (before + st.1) u c (subst (λ k. Reaches (Meant g d) rest l k) same_n own_n.1) ru (omega (arith, low, within, same_m))
        (record {
          exists = λ j q le x. subst (λ k. Meant g u (exists_at ((l.start ++ times rest k) ++ q))) (sum j) (em.exists (st.1 + j) q (omega (arith, le, within, same_m)) (inner.exists j q le x));
          equal = λ i j v q li lj x. subst (λ k. Meant g u (same ((l.start ++ times rest k) ++ v) ((l.start ++ times rest ((before + st.1) + j)) ++ q))) (sum i)
              (subst (λ k. Meant g u (same ((l.start ++ times rest (before + (st.1 + i))) ++ v) ((l.start ++ times rest k) ++ q))) (sum j)
              (em.equal (st.1 + i) (st.1 + j) v q (omega (arith, li, within, same_m)) (omega (arith, lj, within, same_m)) (inner.equal i j v q li lj x)));
          typed = λ j q t le x. subst (λ k. Meant g u (below ((l.start ++ times rest k) ++ q) t)) (sum j) (em.typed (st.1 + j) q t (omega (arith, le, within, same_m)) (inner.typed j q t le x));
        }) a

  itself : (v : Structure) (n : ℕ) → Embeds g rest l n 0 v v
  itself v n = record {
    exists = λ j q le x. subst (λ k. Meant g v (exists_at ((l.start ++ times rest k) ++ q))) (omega arith) x;
    equal = λ i j p q li lj x. subst (λ k. Meant g v (same ((l.start ++ times rest k) ++ p) ((l.start ++ times rest (0 + j)) ++ q))) (omega arith) (subst (λ k. Meant g v (same ((l.start ++ times rest i) ++ p) ((l.start ++ times rest k) ++ q))) (omega arith) x);
    typed = λ j q t le x. subst (λ k. Meant g v (below ((l.start ++ times rest k) ++ q) t)) (omega arith) x;
  }

  fit_at : (o : Option Rule) (th : (rule : Rule) → o ≡ Some rule → IsThreading g rest l rule) (fs : List Structure) (f : Structure) → length fs ≡ arity_at g o → IsFullAt g o fs f → ((d : Structure) → Has d fs → Fit g rest l d) → Fit g rest l f
  fit_at None th fs f e is fit = absurd is
  fit_at (Some rule) th fs f e is fit = (total (all rule (th rule refl) fs f e is fit).lists, mother_fit rule (th rule refl) fs f e is fit)

  hopeless_at : {C : Type 0} (accepted : Structure → C → Type 0) (o : Option Rule) (th : (rule : Rule) → o ≡ Some rule → IsThreading g rest l rule) (fs : List Structure) (f d : Structure) → length fs ≡ arity_at g o → IsFullAt g o fs f → ((x : Structure) → Has x fs → Fit g rest l x) →
      Has d fs → Hopeless g rest l accepted d → Hopeless g rest l accepted f
  hopeless_at accepted None th fs f d e is fit m h = absurd is
  hopeless_at accepted (Some rule) th fs f d e is fit m h = hopeless_up rule (th rule refl) fs f e is fit accepted d m h

pub hopeless_may_be_dropped : HopelessMayBeDropped
hopeless_may_be_dropped C g rest l out threads k arities w full limits leaves fits dropped drops t =
    pruning_is_exact Structure C Structure k w limits leaves (Fit g rest l) (Hopeless g rest l w.accepted) dropped (record {
      leaf_fit = fits;
      keeps_fit = λ rule vs v e fit h. fit_at g rest l out (slice_get g.rules rule) (threads rule) vs v (e ∙ arities rule) (subst (λ x. x rule vs v) full h) fit;
      spreads = λ rule vs v u e fit h m. hopeless_at g rest l out w.accepted (slice_get g.rules rule) (threads rule) vs v u (e ∙ arities rule) (subst (λ x. x rule vs v) full h) fit m;
      refused = λ v c fit h a. h fit.0 fit.0 0 v c fit.1 fit.1 (omega arith) (itself g rest l out v fit.0) a;
      drops = λ v fit d. drops v d;
    }) t
