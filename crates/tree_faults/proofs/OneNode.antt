-- At a place stands one node, which is made of one thing, and so there is one first node without a structure.
use Rattle.std.specs.Prelude.{ℕ, ◌≡◌, ◌<◌, ◌≤◌, ◌⊎◌, List, [], ◌∷◌, ◌++◌}
use Rattle.std.proofs.Common.{inl, inr, refl, sym, ◌∙◌, ap, subst, arith}
use Rattle.std.proofs.lemmas.Bool.{cases_lt}
use Rattle.fs_model.specs.Claims.{IsOrder}
use Rattle.derivation.specs.Trees.{Derivation, Daughters, lexical}
use Rattle.tree_model.specs.Structures.{Structure}
use Rattle.tree_model.specs.Mothers.{Rule, Parts}
use Rattle.tree_model.specs.Signs.{Signs, Instance}
use Rattle.tree_model.specs.Lexical.{FullUnder, under_none, under_next}
use Rattle.tree_model.specs.Trees.{Full, full_lexical, full_phrase, Fulls, no_fulls, more_fulls}
use Rattle.tree_model.proofs.Once.{one}
use Rattle.forced_types.specs.Verdicts.{Verdict, IsVerdict}
use Rattle.forced_types.proofs.VerdictLemmas.{one_verdict}
use Rattle.tree_faults.specs.Nodes.{Place, IsDaughterAt, daughter_here, daughter_later, IsDaughter, within_rule, below_phrase, StandsAt, at_root, at_daughter, instance_of, ComesBefore, before_mother, before_right, before_within, IsMadeOf, made_of_entry, made_of_lexical, made_of_phrase}
use Rattle.tree_faults.specs.Explained.{HasStructure, IsFirstWithout}

-- any two places are equal, or one comes before the other
pub compare_places : (p q : Place) → (p ≡ q) ⊎ ComesBefore p q ⊎ ComesBefore q p
compare_places [] [] = inl refl
compare_places [] (g ∷ q) = inr (inr before_mother)
compare_places (f ∷ p) [] = inr (inl before_mother)
compare_places (f ∷ p) (g ∷ q) = go (cases_lt f g) (cases_lt g f) (compare_places p q)
  where
    go : (f < g) ⊎ (g ≤ f) → (g < f) ⊎ (f ≤ g) → (p ≡ q) ⊎ ComesBefore p q ⊎ ComesBefore q p → (f ∷ p ≡ g ∷ q) ⊎ ComesBefore (f ∷ p) (g ∷ q) ⊎ ComesBefore (g ∷ q) (f ∷ p)
    go (inl a) _ _ = inr (inl (before_right a))
    go (inr a) (inl b) _ = inr (inr (before_right b))
    go (inr a) (inr b) r = let e : f ≡ g = omega arith in same e r
      where
        same : f ≡ g → (p ≡ q) ⊎ ComesBefore p q ⊎ ComesBefore q p → (f ∷ p ≡ g ∷ q) ⊎ ComesBefore (f ∷ p) (g ∷ q) ⊎ ComesBefore (g ∷ q) (f ∷ p)
        same e (inl d) = inl (ap (λ x. x ∷ p) e ∙ ap (λ x. g ∷ x) d)
        same e (inr (inl d)) = inr (inl (subst (λ x. ComesBefore (f ∷ p) (x ∷ q)) e (before_within d)))
        same e (inr (inr d)) = inr (inr (subst (λ x. ComesBefore (x ∷ q) (f ∷ p)) e (before_within d)))

not_nil : (ys : List ℕ) (y : ℕ) → [] ≡ ys ++ y ∷ [] → ⊥
not_nil [] y e = absurd cc
not_nil (z ∷ ys) y e = absurd cc

one_end : (xs ys : List ℕ) (x y : ℕ) → xs ++ x ∷ [] ≡ ys ++ y ∷ [] → (xs ≡ ys) × (x ≡ y)
one_end [] [] x y e = (refl, cc)
one_end [] (b ∷ ys) x y e = absurd (not_nil ys y cc)
one_end (a ∷ xs) [] x y e = absurd (not_nil xs x cc)
one_end (a ∷ xs) (b ∷ ys) x y e =
    let head : a ≡ b = cc in
    let tail : xs ++ x ∷ [] ≡ ys ++ y ∷ [] = cc in
    let z = one_end xs ys x y tail in
    (ap (λ c. c ∷ xs) head ∙ ap (λ cs. b ∷ cs) z.0, z.1)

pub one_daughter : (ds es : Daughters) (n m : ℕ) {d e : Derivation} → IsDaughterAt ds n d → IsDaughterAt es m e → ds ≡ es → n ≡ m → d ≡ e
one_daughter _ _ _ _ daughter_here daughter_here q r = cc
one_daughter _ _ _ _ daughter_here (daughter_later y) q r = absurd cc
one_daughter _ _ _ _ (daughter_later x) daughter_here q r = absurd cc
one_daughter _ _ _ _ (daughter_later {ds = ds} {n = n} x) (daughter_later {ds = es} {n = m} y) q r =
    let rest : ds ≡ es = cc in
    let number : n ≡ m = cc in
    one_daughter ds es n m x y rest number

one_step : (t s : Derivation) (n m : ℕ) {d e : Derivation} → IsDaughter t n d → IsDaughter s m e → t ≡ s → n ≡ m → d ≡ e
one_step _ _ _ _ (within_rule {entry = entry} {words = words} {nodes = nodes} rules rule) (within_rule {entry = entry'} {words = words'} {nodes = nodes'} rules' rule') q r =
    let all : rules ++ rule ∷ [] ≡ rules' ++ rule' ∷ [] = cc in
    let front = (one_end rules rules' rule rule' all).0 in
    let e : entry ≡ entry' = cc in
    let w : words ≡ words' = cc in
    let n : nodes ≡ nodes' = cc in
    cc
one_step _ _ _ _ (within_rule rules rule) (below_phrase y) q r = absurd cc
one_step _ _ _ _ (below_phrase x) (within_rule rules rule) q r = absurd cc
one_step _ _ _ _ (below_phrase {n = n} {ds = ds} x) (below_phrase {n = m} {ds = es} y) q r =
    let all : ds ≡ es = cc in
    let number : n ≡ m = cc in
    one_daughter ds es n m x y all number

one_node : (t s : Derivation) (p q : Place) {u v : Derivation} → StandsAt t p u → StandsAt s q v → t ≡ s → p ≡ q → u ≡ v
one_node _ _ _ _ at_root at_root e r = e
one_node _ _ _ _ at_root (at_daughter y b) e r = absurd cc
one_node _ _ _ _ (at_daughter x a) at_root e r = absurd cc
one_node _ _ _ _ (at_daughter {n = n} {place = p} x a) (at_daughter {n = m} {place = q} y b) e r =
    let number : n ≡ m = cc in
    let rest : p ≡ q = cc in
    one_node _ _ p q a b (one_step _ _ n m x y e number) rest

module _ (g : Signs) (o : IsOrder g.system) where
  all_one : (ds es : Daughters) {fs hs : List Structure} → Fulls g ds fs → Fulls g es hs → ds ≡ es → fs ≡ hs
  all_one _ _ no_fulls no_fulls q = refl
  all_one _ _ no_fulls (more_fulls y ys) q = absurd cc
  all_one _ _ (more_fulls x xs) no_fulls q = absurd cc
  all_one _ _ (more_fulls {d = d} {ds = ds} {f = f} {fs = fs} x xs) (more_fulls {d = e} {ds = es} {f = h} {fs = hs} y ys) q =
      let head : d ≡ e = cc in
      let rest : ds ≡ es = cc in
      let z : f ≡ h = one g o (subst (λ t. Full g t f) head x) y in
      let zs : fs ≡ hs = all_one ds es xs ys rest in
      ap (λ c. c ∷ fs) z ∙ ap (λ cs. h ∷ cs) zs

  one_made : (u v : Derivation) {rule other : Rule} {fs hs : List Structure} → IsMadeOf g u rule fs → IsMadeOf g v other hs → u ≡ v → (rule ≡ other) × (fs ≡ hs)
  one_made _ _ (made_of_entry {entry = e} i a) (made_of_entry {entry = e'} j b) q = let z : e ≡ e' = cc in let w : i ≡ j = cc in (ap (λ (k : Instance). k.rule) w, refl)
  one_made _ _ (made_of_entry i a) (made_of_lexical rules rule j h b y) q = absurd (not_nil rules rule cc)
  one_made _ _ (made_of_entry i a) (made_of_phrase j hs b ys) q = absurd cc
  one_made _ _ (made_of_lexical rules rule i f a x) (made_of_entry j b) q = absurd (not_nil rules rule cc)
  one_made _ _ (made_of_lexical {entry = e} {words = w} {nodes = n} rules rule i f a x) (made_of_lexical {entry = e'} {words = w'} {nodes = n'} rules' rule' j h b y) q =
      let all : rules ++ rule ∷ [] ≡ rules' ++ rule' ∷ [] = cc in
      let ends = one_end rules rules' rule rule' all in
      let front = ends.0 in
      let last = ends.1 in
      let ee : e ≡ e' = cc in
      let ww : w ≡ w' = cc in
      let nn : n ≡ n' = cc in
      let within : lexical e rules w n ≡ lexical e' rules' w' n' = cc in
      let k : i ≡ j = cc in
      (ap (λ (k : Instance). k.rule) k, ap (λ c. c ∷ []) (one g o (subst (λ t. Full g t f) within x) y))
  one_made _ _ (made_of_lexical rules rule i f a x) (made_of_phrase j hs b ys) q = absurd cc
  one_made _ _ (made_of_phrase i fs a xs) (made_of_entry j b) q = absurd cc
  one_made _ _ (made_of_phrase i fs a xs) (made_of_lexical rules rule j h b y) q = absurd cc
  one_made _ _ (made_of_phrase {rule = r} {ds = ds} i fs a xs) (made_of_phrase {rule = r'} {ds = es} j hs b ys) q =
      let all : ds ≡ es = cc in
      let same : r ≡ r' = cc in
      let k : i ≡ j = cc in
      (ap (λ (k : Instance). k.rule) k, all_one ds es xs ys all)

  pub one_without : {t : Derivation} (p q : Place) (i j : ℕ) (v w : Verdict) → IsFirstWithout g t p i v → IsFirstWithout g t q j w → (p ≡ q) × (i ≡ j) × (v ≡ w)
  one_without p q i j v w x y = go (compare_places p q)
    where
      go : (p ≡ q) ⊎ ComesBefore p q ⊎ ComesBefore q p → (p ≡ q) × (i ≡ j) × (v ≡ w)
      go (inr (inl b)) = absurd (x.none (y.before p x.node x.stands b))
      go (inr (inr b)) = absurd (y.none (x.before q y.node y.stands b))
      go (inl e) =
          let node = one_node _ _ p q x.stands y.stands refl e in
          let made = one_made x.node y.node x.made_of y.made_of node in
          let moved : IsVerdict g.system (Parts g.paths y.rule y.daughters) v =
          subst (λ r. IsVerdict g.system (Parts g.paths r y.daughters) v) made.0 (subst (λ fs. IsVerdict g.system (Parts g.paths x.rule fs) v) made.1 x.forced) in
          (e, sym x.named ∙ ap instance_of node ∙ y.named, one_verdict g.system (Parts g.paths y.rule y.daughters) v w moved y.forced)

-- each node of a tree with a structure has one
module _ (g : Signs) where
  front_under : (rules : List ℕ) (rule : ℕ) {d f : Structure} → FullUnder g d (rules ++ rule ∷ []) f → (h : Structure) × FullUnder g d rules h
  front_under [] rule {d = d} x = (d, under_none)
  front_under (r ∷ rules) rule (under_next x xs) = let z = front_under rules rule xs in (z.0, under_next x z.1)

  daughter_has : {ds : Daughters} {fs : List Structure} {n : ℕ} {d : Derivation} → Fulls g ds fs → IsDaughterAt ds n d → HasStructure g d
  daughter_has no_fulls x = elim x [ ]
  daughter_has (more_fulls x xs) daughter_here = (_, x)
  daughter_has (more_fulls x xs) (daughter_later at) = daughter_has xs at

  pub node_has : {t u : Derivation} {f : Structure} {place : Place} → Full g t f → StandsAt t place u → HasStructure g u
  node_has x at_root = (_, x)
  node_has (full_lexical x) (at_daughter (within_rule rules rule) at) = let z = front_under rules rule x.2 in node_has (full_lexical (x.0, x.1, z.1)) at
  node_has (full_phrase fs xs p) (at_daughter (below_phrase d) at) = let z = daughter_has xs d in node_has z.1 at
