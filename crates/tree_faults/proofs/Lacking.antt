-- The first node of a tree without a structure: at a rule over nodes that have one, and below what is made of them.
use Rattle.std.specs.Prelude.{ℕ, zero, suc, ◌≡◌, ◌<◌, ◌+◌, Option, Some, List, [], ◌∷◌, ◌++◌, length, take, replicate, option_map, slice_get}
use Rattle.std.proofs.Common.{refl, sym, ◌∙◌, ap, subst, arith, append_assoc}
use Rattle.std.proofs.lemmas.List.{append-nil}
use Rattle.fs_model.specs.Claims.{IsOrder}
use Rattle.derivation.specs.Trees.{Derivation, Daughters, lexical, phrase, first}
use Rattle.derivation.specs.Views.{in_order}
use Rattle.derivation.specs.Order.{outermost}
use Rattle.tree_model.specs.Structures.{Structure}
use Rattle.tree_model.specs.Signs.{Signs, Instance}
use Rattle.tree_model.specs.Lexical.{Word, IsUnderRule, FullUnder, under_none, under_next, FullLexical}
use Rattle.tree_model.specs.Trees.{Full, full_lexical, Fulls, no_fulls, more_fulls}
use Rattle.tree_model.proofs.Once.{one}
use Rattle.book_signs.specs.Trees.{SignTree, signs_of}
use Rattle.rule_trees.specs.Mothers.{IsMother}
use Rattle.forced_types.specs.Verdicts.{Verdict}
use Rattle.tree_structures.specs.Formed.{IsLexicalRuleAt, IsPhraseRuleOf, count_of}
use Rattle.tree_structures.proofs.Rows.{no_phrase}
use Rattle.tree_structures.proofs.Climbs.{under_mother}
use Rattle.tree_faults.specs.Nodes.{Place, IsDaughterAt, daughter_here, daughter_later, within_rule, below_phrase, StandsAt, at_root, at_daughter, ComesBefore, before_mother, before_right, before_within, made_of_lexical, made_of_phrase}
use Rattle.tree_faults.specs.Explained.{HasStructure, IsFirstWithout}
use Rattle.tree_faults.specs.Inner.Structures.{IsRefused}
use Rattle.tree_faults.proofs.OneNode.{node_has, one_daughter}

not_nil : (ys : List ℕ) (y : ℕ) → [] ≡ ys ++ y ∷ [] → ⊥
not_nil [] y e = absurd cc
not_nil (z ∷ ys) y e = absurd cc

-- lists that end with one number
one_front : (xs ys : List ℕ) (x y : ℕ) → xs ++ x ∷ [] ≡ ys ++ y ∷ [] → xs ≡ ys
one_front [] [] x y e = refl
one_front [] (b ∷ ys) x y e = absurd (not_nil ys y cc)
one_front (a ∷ xs) [] x y e = absurd (not_nil xs x cc)
one_front (a ∷ xs) (b ∷ ys) x y e =
    let head : a ≡ b = cc in
    let tail : xs ++ x ∷ [] ≡ ys ++ y ∷ [] = cc in
    let z = one_front xs ys x y tail in
    ap (λ c. c ∷ xs) head ∙ ap (λ cs. b ∷ cs) z

pub outermost_last : (entry : ℕ) (rules : List ℕ) (rule : ℕ) → outermost entry (rules ++ rule ∷ []) ≡ rule
outermost_last entry [] rule = refl
outermost_last entry (r ∷ rules) rule = outermost_last r rules rule

module _ (g : Signs) where
  -- the rest of a lexical tree has the structures within
  last_under : {d f : Structure} (rules : List ℕ) (rule : ℕ) → FullUnder g d (rules ++ rule ∷ []) f → (h : Structure) × FullUnder g d rules h × IsUnderRule g rule h f
  last_under {d = d} [] rule (under_next x under_none) = (d, under_none, x)
  last_under (r ∷ rules) rule (under_next x xs) = let z = last_under rules rule xs in (z.0, under_next x z.1, z.2)

  -- a node that is one of the daughters that have structures
  among : {ds : Daughters} {fs : List Structure} {n : ℕ} {d : Derivation} → Fulls g ds fs → IsDaughterAt ds n d → HasStructure g d
  among no_fulls at = elim at [ ]
  among (more_fulls x xs) daughter_here = (_, x)
  among (more_fulls x xs) (daughter_later at) = among xs at

  -- what stands below a phrase all of whose daughters have structures
  below_has : {rule : ℕ} {ds : Daughters} {fs : List Structure} {q : Place} {n : ℕ} {other : Derivation} → Fulls g ds fs → StandsAt (phrase rule ds) (n ∷ q) other → HasStructure g other
  below_has xs (at_daughter (below_phrase d) at) = let z = among xs d in node_has g z.1 at

  -- one rule more, outside of the node
  lift_rule : {entry : ℕ} {rules : List ℕ} {words : List Word} {nodes : Option (ℕ × ℕ)} {p : Place} {i : ℕ} {v : Verdict} (rule : ℕ) →
      IsFirstWithout g (lexical entry rules words nodes) p i v → IsFirstWithout g (lexical entry (rules ++ rule ∷ []) words nodes) (1 ∷ p) i v
  lift_rule {entry} {rules} {words} {nodes} {p} rule x = record {
    node = x.node;
    stands = at_daughter (within_rule rules rule) x.stands;
    named = x.named;
    none = x.none;
    before = λ q other at comes. before q at comes refl refl;
    rule = x.rule;
    daughters = x.daughters;
    made_of = x.made_of;
    forced = x.forced;
  }
    where
      within : (rs : List ℕ) (r : ℕ) (e : ℕ) (w : List Word) (n : Option (ℕ × ℕ)) (q : Place) (other : Derivation) → lexical e (rs ++ r ∷ []) w n ≡ lexical entry (rules ++ rule ∷ []) words nodes → StandsAt (lexical e rs w n) q other → ComesBefore q p → HasStructure g other
      within rs r e w n q other same at comes =
          let all : rs ++ r ∷ [] ≡ rules ++ rule ∷ [] = cc in
          let front : rs ≡ rules = one_front rs rules r rule all in
          let is : lexical e rs w n ≡ lexical entry rules words nodes = (let a : e ≡ entry = cc in let b : w ≡ words = cc in let c : n ≡ nodes = cc in cc) in
          x.before q other (subst (λ t. StandsAt t q other) is at) comes

      before : {t other : Derivation} {place : Place} (q : Place) → StandsAt t q other → ComesBefore q place → t ≡ lexical entry (rules ++ rule ∷ []) words nodes → place ≡ 1 ∷ p → HasStructure g other
      before _ at_root comes same is = absurd (first_last comes is)
        where
          first_last : {place : Place} → ComesBefore [] place → place ≡ 1 ∷ p → ⊥
          first_last c e = elim c [ ]
      before _ (at_daughter (within_rule rs r) at) before_mother same is = absurd cc
      before _ (at_daughter (within_rule rs r) at) (before_right l) same is = absurd (ahead l is)
        where
          ahead : {m : ℕ} {q : Place} → 1 < m → m ∷ q ≡ 1 ∷ p → ⊥
          ahead {m} l e = let k : m ≡ 1 = cc in omega (arith, l, k)
      before _ (at_daughter {u = u} {place = q} (within_rule {entry = e} {words = w} {nodes = n} rs r) at) (before_within {q = p'} c) same is =
          let k : p' ≡ p = cc in
          within rs r e w n q u same at (subst (ComesBefore q) k c)
      before _ (at_daughter (below_phrase d) at) comes same is = absurd cc

  -- rules outside of the node
  lift_rules : {entry : ℕ} {words : List Word} {nodes : Option (ℕ × ℕ)} {i : ℕ} {v : Verdict} (rules after : List ℕ) (k : ℕ) →
      IsFirstWithout g (lexical entry rules words nodes) (replicate k 1) i v → IsFirstWithout g (lexical entry (rules ++ after) words nodes) (replicate (length after + k) 1) i v
  lift_rules {entry} {words} {nodes} {i} {v} rules [] k x =
      let same : k ≡ 0 + k = omega arith in
      subst (λ n. IsFirstWithout g (lexical entry (rules ++ []) words nodes) (replicate n 1) i v) same
      (subst (λ rs. IsFirstWithout g (lexical entry rs words nodes) (replicate k 1) i v) (sym (append-nil rules)) x)
  lift_rules {entry} {words} {nodes} {i} {v} rules (r ∷ after) k x =
      let z = lift_rules (rules ++ r ∷ []) after (suc k) (lift_rule r x) in
      let same : length after + suc k ≡ length (r ∷ after) + k = omega arith in
      subst (λ rs. IsFirstWithout g (lexical entry rs words nodes) (replicate (length (r ∷ after) + k) 1) i v) (append_assoc rules (r ∷ []) after)
      (subst (λ n. IsFirstWithout g (lexical entry ((rules ++ r ∷ []) ++ after) words nodes) (replicate n 1) i v) same z)

  -- a daughter, whose sisters on its left have structures
  pub lift_daughter : {rule : ℕ} (ds : List Derivation) (k : ℕ) (d : Derivation) {fs : List Structure} {p : Place} {i : ℕ} {v : Verdict} → slice_get ds k ≡ Some d → Fulls g (in_order (take k ds)) fs → IsFirstWithout g d p i v →
      IsFirstWithout g (phrase rule (in_order ds)) (suc k ∷ p) i v
  lift_daughter {rule} ds k d {fs} {p} next known x = record {
    node = x.node;
    stands = at_daughter (below_phrase (daughter ds k next)) x.stands;
    named = x.named;
    none = x.none;
    before = λ q other at comes. before q at comes refl refl;
    rule = x.rule;
    daughters = x.daughters;
    made_of = x.made_of;
    forced = x.forced;
  }
    where
      daughter : (es : List Derivation) (n : ℕ) → slice_get es n ≡ Some d → IsDaughterAt (in_order es) n d
      daughter [] n e = absurd cc
      daughter (e ∷ es) zero h = let same : e ≡ d = cc in subst (λ c. IsDaughterAt (first e (in_order es)) 0 c) same daughter_here
      daughter (e ∷ es) (suc n) h = daughter_later (daughter es n h)

      on_left : (es : List Derivation) (n m : ℕ) (fs : List Structure) {c : Derivation} → m < n → Fulls g (in_order (take n es)) fs → IsDaughterAt (in_order es) m c → HasStructure g c
      on_left es zero m fs l xs at = absurd (omega (arith, l))
      on_left [] (suc n) m fs l xs at = elim at [ ]
      on_left (e ∷ es) (suc n) zero _ l (more_fulls {f = f} y ys) at = (f, subst (λ c. Full g c f) (one_daughter (in_order (e ∷ es)) (in_order (e ∷ es)) 0 0 daughter_here at refl refl) y)
      on_left (e ∷ es) (suc n) (suc m) _ l (more_fulls {fs = fs} y ys) (daughter_later at) = on_left es n m fs (omega (arith, l)) ys at

      before : {t other : Derivation} {place : Place} (q : Place) → StandsAt t q other → ComesBefore q place → t ≡ phrase rule (in_order ds) → place ≡ suc k ∷ p → HasStructure g other
      before _ at_root comes same is = absurd (elim comes [ ])
      before _ (at_daughter (within_rule rs r) at) comes same is = absurd cc
      before _ (at_daughter (below_phrase at) st) before_mother same is = absurd cc
      before _ (at_daughter (below_phrase {n = n} {ds = es} {d = c} at) st) (before_right {m = m} l) same is =
          let e : es ≡ in_order ds = cc in
          let b : m ≡ suc k = cc in
          let h = on_left ds k n fs (omega (arith, l, b)) known (subst (λ xs. IsDaughterAt xs n c) e at) in
          node_has g {f = h.0} h.1 st
      before _ (at_daughter {u = u} {place = q} (below_phrase {n = n} {ds = es} {d = c} at) st) (before_within {q = p'} comes) same is =
          let e : es ≡ in_order ds = cc in
          let b : n ≡ k = cc in
          let r : p' ≡ p = cc in
          let one' : c ≡ d = one_daughter es (in_order ds) n k at (daughter ds k next) e b in
          x.before q u (subst (λ t. StandsAt t q u) one' st) (subst (ComesBefore q) r comes)

module _ (t : SignTree) where
  abbrev g : Signs
  g = signs_of t

  -- a lexical rule over an entry under others that has a structure
  rule_lacks : IsOrder g.system → {entry : ℕ} {words : List Word} {nodes : Option (ℕ × ℕ)} {v : Verdict} (rules : List ℕ) (rule : ℕ) (f : Structure) → IsLexicalRuleAt g rule → FullLexical g entry rules f → IsRefused t rule (f ∷ []) v →
      IsFirstWithout g (lexical entry (rules ++ rule ∷ []) words nodes) [] rule v
  rule_lacks order {entry} {words} {nodes} {v} rules rule f is full refused = record {
    node = lexical entry (rules ++ rule ∷ []) words nodes;
    stands = at_root;
    named = outermost_last entry rules rule;
    none = λ x. never x.0 x.1;
    before = λ q other at comes. before at comes refl refl;
    rule = is.instance.rule;
    daughters = f ∷ [];
    made_of = made_of_lexical rules rule is.instance f is.at (full_lexical full);
    forced = refused.forced is.instance.rule (ap (option_map (λ (i : Instance). i.rule)) is.at);
  }
    where
      never : (h : Structure) → Full g (lexical entry (rules ++ rule ∷ []) words nodes) h → ⊥
      never h (full_lexical x) =
          let z = last_under g rules rule x.2 in
          let same : z.0 ≡ f = one g order {t = lexical entry rules words nodes} (full_lexical (x.0, x.1, z.1)) (full_lexical full) in
          refused.never h (subst (λ d. IsMother g rule (d ∷ []) h) same (under_mother g rule z.0 h z.2))

      before : {s other : Derivation} {q place : Place} → StandsAt s q other → ComesBefore q place → s ≡ lexical entry (rules ++ rule ∷ []) words nodes → place ≡ [] → HasStructure g other
      before at_root comes same e = absurd (elim comes [ ])
      before (at_daughter {u = u} {place = q} (within_rule {entry = e} {words = w} {nodes = n} rs r) at) comes same is =
          let all : rs ++ r ∷ [] ≡ rules ++ rule ∷ [] = cc in
          let front : rs ≡ rules = one_front rs rules r rule all in
          let inner : lexical e rs w n ≡ lexical entry rules words nodes = (let a : e ≡ entry = cc in let b : w ≡ words = cc in let c : n ≡ nodes = cc in cc) in
          node_has g {t = lexical entry rules words nodes} (full_lexical full) (subst (λ d. StandsAt d q u) inner at)
      before (at_daughter (below_phrase d) at) comes same is = absurd cc

  -- the first of a lexical tree's nodes, after which other rules stand
  pub lexical_lacks : IsOrder g.system → {entry : ℕ} {words : List Word} {nodes : Option (ℕ × ℕ)} {v : Verdict} (rules : List ℕ) (rule : ℕ) (after : List ℕ) (f : Structure) → IsLexicalRuleAt g rule → FullLexical g entry rules f → IsRefused t rule (f ∷ []) v →
      IsFirstWithout g (lexical entry (rules ++ rule ∷ after) words nodes) (replicate (length after) 1) rule v
  lexical_lacks order {entry} {words} {nodes} {v} rules rule after f is full refused =
      let z = lift_rules g (rules ++ rule ∷ []) after 0 (rule_lacks order {entry = entry} {words = words} {nodes = nodes} rules rule f is full refused) in
      let same : length after + 0 ≡ length after = omega arith in
      subst (λ rs. IsFirstWithout g (lexical entry rs words nodes) (replicate (length after) 1) rule v) (append_assoc rules (rule ∷ []) after)
      (subst (λ n. IsFirstWithout g (lexical entry ((rules ++ rule ∷ []) ++ after) words nodes) (replicate n 1) rule v) same z)

  -- a phrase all of whose daughters have structures
  pub phrase_lacks : IsOrder g.system → {v : Verdict} (rule : ℕ) (ds : Daughters) (fs : List Structure) → IsPhraseRuleOf g rule (count_of ds) → Fulls g ds fs → IsRefused t rule fs v → IsFirstWithout g (phrase rule ds) [] rule v
  phrase_lacks order {v} rule ds fs is known refused = record {
    node = phrase rule ds;
    stands = at_root;
    named = refl;
    none = λ x. no_phrase g order rule ds fs known refused.never x.0 x.1;
    before = λ q other at comes. before q at comes refl;
    rule = is.rule.instance.rule;
    daughters = fs;
    made_of = made_of_phrase is.rule.instance fs is.rule.at known;
    forced = refused.forced is.rule.instance.rule (ap (option_map (λ (i : Instance). i.rule)) is.rule.at);
  }
    where
      before : {other : Derivation} {place : Place} (q : Place) → StandsAt (phrase rule ds) q other → ComesBefore q place → place ≡ [] → HasStructure g other
      before [] at comes e = absurd (elim comes [ ])
      before (n ∷ q) at comes e = below_has g known at
