-- The words that lead to a word, gathered round by round.
use Rattle.std.proofs.Common.{ℕ, zero, suc, ◌≡◌, ◌<◌, ◌≤◌, ◌+◌, ◌⊎◌, inl, inr, true, false, List, [], ◌∷◌, ◌++◌, length, map, get_or, Option, Some, None, String, string_bytes, refl, sym, ◌∙◌, ap, subst, arith, length-append, cond}
use Rattle.std.proofs.lemmas.List.{get_or_append_left, map-append, length-map}
use Rattle.std.proofs.lemmas.List.Quantifiers.{position-Some}
use Rattle.lexicon.proofs.WordLemmas.{bools, true_not_false, bytes_eq-same, bytes_eq-refl}
use Rattle.std.specs.Map.{lookup}
use Rattle.std.specs.Prelude.{is_some}
use Rattle.lexicon.specs.Words.{Word, Has}
use Rattle.spelling_rules.specs.Trees.{SpellingTree}
use Rattle.spelling_rules.specs.Forms.{HasForm}
use Rattle.std.specs.Global.{Global}
use Rattle.std.specs.List.{position, slice_get}
use Rattle.std.specs.Str.{bytes_eq}
use Rattle.indexmap.specs.Layout.{set_value_at}
use Rattle.morph_analysis.specs.declared.nodes.Edge.{Edge}
use Rattle.morph_analysis.specs.declared.nodes.Node.{Node}
use Rattle.morph_analysis.specs.Chains.{Leads, there, by}
use Rattle.morph_analysis.specs.Spelled.{EdgeTree, NodeTree, no_node, node_at, Runs, stays, goes, IsSpelled}
use Rattle.morph_analysis.specs.Inner.Growing.{Grows, IsNodeOf, AreApart, AllNear, WasThere, HasEdge, IsForm, Adds, IsDone, IsPartSpelled, IsWithNode, IsGrown, with_edge}
use Rattle.morph_analysis.specs.Views.{node_of, edge_of}

pub cases_le : (a b : ℕ) → (a ≤ b) ⊎ (b < a)
cases_le zero b = inl (omega arith)
cases_le (suc a) zero = inr (omega arith)
cases_le (suc a) (suc b) = elim (cases_le a b) [ inl h ↦ inl (omega arith) | inr h ↦ inr (omega arith) ]

pub grows_refl : (xs : List NodeTree) → Grows xs xs
grows_refl xs = record { longer = omega arith; words = λ n lt. refl; distances = λ n lt. refl; edges = λ n e lt h. h }

pub grows_then : (a b c : List NodeTree) → Grows a b → Grows b c → Grows a c
grows_then a b c g h = record {
  longer = omega (arith, g.longer, h.longer);
  words = λ n lt. h.words n (omega (arith, g.longer)) ∙ g.words n lt;
  distances = λ n lt. h.distances n (omega (arith, g.longer)) ∙ g.distances n lt;
  edges = λ n e lt k. h.edges n e (omega (arith, g.longer)) (g.edges n e lt k);
}

form_grown : (s : SpellingTree) (a b : List NodeTree) (n : ℕ) (e : EdgeTree) → Grows a b → n < length a → IsForm s a n e → IsForm s b n e
form_grown s a b n e g lt f = record {
  within = omega (arith, g.longer, f.within);
  rule = f.rule;
  some = subst (λ x. 0 < length x) (sym (g.words n lt)) f.some;
  near = subst (λ x. x ≤ suc (node_at b e.to).distance) (sym (g.distances n lt)) (subst (λ x. (node_at a n).distance ≤ suc x) (sym (g.distances e.to f.within)) f.near);
  form = subst (λ x. HasForm s e.rule x (node_at b e.to).word) (sym (g.words n lt)) (subst (HasForm s e.rule (node_at a n).word) (sym (g.words e.to f.within)) f.form);
}

pub adds_refl : (s : SpellingTree) (d : ℕ) (xs : List NodeTree) → Adds s d xs xs
adds_refl s d xs = record { grows = grows_refl xs; only = λ n e lt h. inl (lt, h); far = λ n le lt. absurd (omega arith); apart = λ p. p }

pub adds_then : (s : SpellingTree) (d : ℕ) (a b c : List NodeTree) → Adds s d a b → Adds s d b c → Adds s d a c
adds_then s d a b c p q = record {
  grows = grows_then a b c p.grows q.grows;
  only = λ n e lt h. go n e (q.only n e lt h);
  far = λ n le lt. far n le lt (cases_le (length b) n);
  apart = λ r. q.apart (p.apart r);
}
  where
    go : (n : ℕ) (e : EdgeTree) → WasThere b n e ⊎ IsForm s c n e → WasThere a n e ⊎ IsForm s c n e
    go n e (inr f) = inr f
    go n e (inl w) = elim (p.only n e w.0 w.1) [ inl v ↦ inl v | inr f ↦ inr (form_grown s b c n e q.grows w.0 f) ]

    far : (n : ℕ) → length a ≤ n → n < length c → (length b ≤ n) ⊎ (n < length b) → (node_at c n).distance ≡ d
    far n le lt (inl more) = q.far n more lt
    far n le lt (inr less) = q.grows.distances n less ∙ p.far n le less

pub edge_grown : (a b : List NodeTree) (w : Word) (rule place : ℕ) → Grows a b → HasEdge a w rule place → HasEdge b w rule place
edge_grown a b w rule place g h = (h.0, (omega (arith, g.longer, h.1.0), g.words h.0 h.1.0 ∙ h.1.1), g.edges h.0 _ h.1.0 h.2)

pub done_grown : (s : SpellingTree) (a b : List NodeTree) (place : ℕ) → Grows a b → place < length a → IsDone s a place → IsDone s b place
done_grown s a b place g lt d = λ rule stem less pos h. edge_grown a b stem rule place g (d rule stem less pos (subst (HasForm s rule stem) (g.words place lt) h))

pub near_grown : (s : SpellingTree) (d : ℕ) (a b : List NodeTree) → Adds s d a b → AllNear a d → AllNear b d
near_grown s d a b p near n lt = go (cases_le (length a) n)
  where
    go : (length a ≤ n) ⊎ (n < length a) → (node_at b n).distance ≤ d
    go (inl le) = omega (arith, p.far n le lt)
    go (inr less) = omega (arith, p.grows.distances n less, near n less)

pub run_grown : (a b : List NodeTree) (rules : List ℕ) (n m : ℕ) → Grows a b → Runs a rules n m → Runs b rules n m
run_grown a b _ n _ g (stays _) = stays n
run_grown a b _ n k g (goes rule rules _ m _ lt h r) = goes rule rules n m k (omega (arith, g.longer, lt)) (g.edges n _ lt h) (run_grown a b rules m k g r)

-- one node more, and one edge more
pub grown_more : (xs : List NodeTree) (w : Word) (d : ℕ) → Grows xs (xs ++ record { word = w; distance = d; edges = [] } ∷ [])
grown_more xs w d = record {
  longer = omega (arith, length-append xs (record { word = w; distance = d; edges = [] } ∷ []));
  words = λ n lt. ap (λ x. x.word) (get_or_append_left xs (record { word = w; distance = d; edges = [] } ∷ []) no_node n lt);
  distances = λ n lt. ap (λ x. x.distance) (get_or_append_left xs (record { word = w; distance = d; edges = [] } ∷ []) no_node n lt);
  edges = λ n e lt h. subst (λ x. Has e x.edges) (sym (get_or_append_left xs (record { word = w; distance = d; edges = [] } ∷ []) no_node n lt)) h;
}

only_more : (xs : List NodeTree) (w : Word) (d n : ℕ) (e : EdgeTree) → Has e (node_at (xs ++ record { word = w; distance = d; edges = [] } ∷ []) n).edges → WasThere xs n e
only_more [] w d zero e h = absurd h
only_more [] w d (suc n) e h = absurd h
only_more (x ∷ xs) w d zero e h = (omega arith, h)
only_more (x ∷ xs) w d (suc n) e h = let r = only_more xs w d n e h in (omega (arith, r.0), r.1)

-- the new node
last_node : (xs : List NodeTree) (x : NodeTree) (n : ℕ) → length xs ≤ n → n < length (xs ++ x ∷ []) → (node_at (xs ++ x ∷ []) n ≡ x) × (n ≡ length xs)
last_node [] x zero le lt = (refl, refl)
last_node [] x (suc n) le lt = absurd (omega arith)
last_node (y ∷ ys) x zero le lt = absurd (omega arith)
last_node (y ∷ ys) x (suc n) le lt = let r = last_node ys x n (omega arith) (omega arith) in (r.0, ap suc r.1)

apart_more : (old : List NodeTree) (w : Word) (d : ℕ) → ((n : ℕ) → n < length old → (node_at old n).word ≡ w → ⊥) → AreApart old → AreApart (old ++ record { word = w; distance = d; edges = [] } ∷ [])
apart_more old w d absent p n m ln lm e = go (cases_le (length old) n) (cases_le (length old) m)
  where
    more : List NodeTree
    more = old ++ record { word = w; distance = d; edges = [] } ∷ []

    go : (length old ≤ n) ⊎ (n < length old) → (length old ≤ m) ⊎ (m < length old) → n ≡ m
    go (inl a) (inl b) = (last_node old (record { word = w; distance = d; edges = [] }) n a ln).1 ∙ sym (last_node old (record { word = w; distance = d; edges = [] }) m b lm).1
    go (inl a) (inr b) =
        absurd (absent m b (sym ((grown_more old w d).words m b) ∙ sym e ∙ ap (λ x. x.word) (last_node old (record { word = w; distance = d; edges = [] }) n a ln).0))
    go (inr a) (inl b) =
        absurd (absent n a (sym ((grown_more old w d).words n a) ∙ e ∙ ap (λ x. x.word) (last_node old (record { word = w; distance = d; edges = [] }) m b lm).0))
    go (inr a) (inr b) = p n m a b (sym ((grown_more old w d).words n a) ∙ e ∙ (grown_more old w d).words m b)

pub adds_node : (s : SpellingTree) (d : ℕ) (w : Word) (old new : List NodeTree) → IsGrown d w old new → Adds s d old new
adds_node s d w old new (inl e) = subst (Adds s d old) (sym e) (adds_refl s d old)
adds_node s d w old new (inr p) =
    subst (Adds s d old) (sym p.is) (record {
      grows = grown_more old w d;
      only = λ n e lt h. inl (only_more old w d n e h);
      far = λ n le lt. ap (λ x. x.distance) (last_node old (record { word = w; distance = d; edges = [] }) n le lt).0;
      apart = apart_more old w d p.absent;
    })

with_length : (xs : List NodeTree) (k : ℕ) (e : EdgeTree) → length (with_edge xs k e) ≡ length xs
with_length [] k e = refl
with_length (x ∷ xs) zero e = refl
with_length (x ∷ xs) (suc k) e = ap suc (with_length xs k e)

with_word : (xs : List NodeTree) (k : ℕ) (e : EdgeTree) (n : ℕ) → (node_at (with_edge xs k e) n).word ≡ (node_at xs n).word
with_word [] k e n = refl
with_word (x ∷ xs) zero e zero = refl
with_word (x ∷ xs) zero e (suc n) = refl
with_word (x ∷ xs) (suc k) e zero = refl
with_word (x ∷ xs) (suc k) e (suc n) = with_word xs k e n

with_distance : (xs : List NodeTree) (k : ℕ) (e : EdgeTree) (n : ℕ) → (node_at (with_edge xs k e) n).distance ≡ (node_at xs n).distance
with_distance [] k e n = refl
with_distance (x ∷ xs) zero e zero = refl
with_distance (x ∷ xs) zero e (suc n) = refl
with_distance (x ∷ xs) (suc k) e zero = refl
with_distance (x ∷ xs) (suc k) e (suc n) = with_distance xs k e n

Has-left : (e : EdgeTree) (xs ys : List EdgeTree) → Has e xs → Has e (xs ++ ys)
Has-left e [] ys h = absurd h
Has-left e (x ∷ xs) ys (inl q) = inl q
Has-left e (x ∷ xs) ys (inr h) = inr (Has-left e xs ys h)

Has-last : (e : EdgeTree) (xs : List EdgeTree) → Has e (xs ++ e ∷ [])
Has-last e [] = inl refl
Has-last e (x ∷ xs) = inr (Has-last e xs)

Has-split : (e f : EdgeTree) (xs : List EdgeTree) → Has e (xs ++ f ∷ []) → Has e xs ⊎ (e ≡ f)
Has-split e f [] (inl q) = inr q
Has-split e f [] (inr h) = absurd h
Has-split e f (x ∷ xs) (inl q) = inl (inl q)
Has-split e f (x ∷ xs) (inr h) = elim (Has-split e f xs h) [ inl k ↦ inl (inr k) | inr q ↦ inr q ]

with_kept : (xs : List NodeTree) (k : ℕ) (e : EdgeTree) (n : ℕ) (f : EdgeTree) → Has f (node_at xs n).edges → Has f (node_at (with_edge xs k e) n).edges
with_kept [] k e n f h = h
with_kept (x ∷ xs) zero e zero f h = Has-left f x.edges (e ∷ []) h
with_kept (x ∷ xs) zero e (suc n) f h = h
with_kept (x ∷ xs) (suc k) e zero f h = h
with_kept (x ∷ xs) (suc k) e (suc n) f h = with_kept xs k e n f h

with_new : (xs : List NodeTree) (k : ℕ) (e : EdgeTree) → k < length xs → Has e (node_at (with_edge xs k e) k).edges
with_new [] k e lt = absurd (omega arith)
with_new (x ∷ xs) zero e lt = Has-last e x.edges
with_new (x ∷ xs) (suc k) e lt = with_new xs k e (omega arith)

with_only : (xs : List NodeTree) (k : ℕ) (e : EdgeTree) (n : ℕ) (f : EdgeTree) → Has f (node_at (with_edge xs k e) n).edges → Has f (node_at xs n).edges ⊎ ((f ≡ e) × (n ≡ k))
with_only [] k e n f h = inl h
with_only (x ∷ xs) zero e zero f h = elim (Has-split f e x.edges h) [ inl o ↦ inl o | inr q ↦ inr (q, refl) ]
with_only (x ∷ xs) zero e (suc n) f h = inl h
with_only (x ∷ xs) (suc k) e zero f h = inl h
with_only (x ∷ xs) (suc k) e (suc n) f h = elim (with_only xs k e n f h) [ inl o ↦ inl o | inr q ↦ inr (q.0, ap suc q.1) ]

-- an edge more, which is a form
pub adds_edge : (s : SpellingTree) (d : ℕ) (xs : List NodeTree) (k rule place : ℕ) (stem form : Word) → IsNodeOf xs stem k → IsNodeOf xs form place → rule < length s.rules → 0 < length stem → HasForm s rule stem form
    → (node_at xs k).distance ≤ suc (node_at xs place).distance → Adds s d xs (with_edge xs k (record { rule = rule; to = place })) × HasEdge (with_edge xs k (record { rule = rule; to = place })) stem rule place
adds_edge s d xs k rule place stem form at to lt pos h close = (
  record { grows = grown; only = λ n f less has. only n f less (with_only xs k edge n f has); far = λ n le less. absurd (omega (arith, with_length xs k (record { rule = rule; to = place }))); apart = apart },
  (k, (subst (λ m. k < m) (sym (with_length xs k edge)) at.0, with_word xs k edge k ∙ at.1), with_new xs k edge at.0),
)
  where
    edge : EdgeTree
    edge = record { rule = rule; to = place }

    grown : Grows xs (with_edge xs k (record { rule = rule; to = place }))
    grown = record {
      longer = omega (arith, with_length xs k (record { rule = rule; to = place }));
      words = λ n less. with_word xs k (record { rule = rule; to = place }) n;
      distances = λ n less. with_distance xs k (record { rule = rule; to = place }) n;
      edges = λ n e less h. with_kept xs k (record { rule = rule; to = place }) n e h;
    }

    apart : AreApart xs → AreApart (with_edge xs k (record { rule = rule; to = place }))
    apart p n m ln lm e =
        let size = with_length xs k (record { rule = rule; to = place }) in
        p n m (omega (arith, size)) (omega (arith, size)) (sym (with_word xs k (record { rule = rule; to = place }) n) ∙ e ∙ with_word xs k (record { rule = rule; to = place }) m)

    only : (n : ℕ) (f : EdgeTree) → n < length (with_edge xs k (record { rule = rule; to = place })) → Has f (node_at xs n).edges ⊎ ((f ≡ record { rule = rule; to = place }) × (n ≡ k))
        → WasThere xs n f ⊎ IsForm s (with_edge xs k (record { rule = rule; to = place })) n f
    only n f less (inl o) = inl (omega (arith, with_length xs k (record { rule = rule; to = place })), o)
    only n f less (inr q) =
        inr (subst (λ g. IsForm s (with_edge xs k (record { rule = rule; to = place })) n g) (sym q.0) (subst (λ m. IsForm s (with_edge xs k (record { rule = rule; to = place })) m (record { rule = rule; to = place })) (sym q.1) (record {
          within = omega (arith, with_length xs k (record { rule = rule; to = place }), to.0);
          rule = lt;
          some = subst (λ w. 0 < length w) (sym (with_word xs k (record { rule = rule; to = place }) k ∙ at.1)) pos;
          form = subst (λ w. HasForm s rule w (node_at (with_edge xs k (record { rule = rule; to = place })) place).word) (sym (with_word xs k (record { rule = rule; to = place }) k ∙ at.1))
              (subst (HasForm s rule stem) (sym (with_word xs k (record { rule = rule; to = place }) place ∙ to.1)) h);
          near = subst (λ x. x ≤ suc (node_at (with_edge xs k (record { rule = rule; to = place })) place).distance) (sym (with_distance xs k (record { rule = rule; to = place }) k))
              (subst (λ x. (node_at xs k).distance ≤ suc x) (sym (with_distance xs k (record { rule = rule; to = place }) place)) close);
        })))

-- ways along the edges of nodes that have all their stems
ways_along : (s : SpellingTree) (word : Word) (nodes : List NodeTree) (begin : ℕ) → 0 < length nodes → (node_at nodes 0).word ≡ word → ((place : ℕ) → place < begin → IsDone s nodes place)
    → (rules : List ℕ) (stem : Word) → length nodes ≤ begin → Leads s rules stem word → (n : ℕ) × IsNodeOf nodes stem n × Runs nodes rules n 0
ways_along s word nodes begin some root done _ stem le (there _) = (0, (some, root), stays 0)
ways_along s word nodes begin some root done _ stem le (by rule rules _ x _ less pos h l) =
    let r = ways_along s word nodes begin some root done rules x le l in
    let e = done r.0 (omega (arith, r.1.0)) rule stem less pos (subst (HasForm s rule stem) (sym r.1.1) h) in
    (e.0, e.1, goes rule rules e.0 r.0 0 e.1.0 e.2 r.2)

-- one round more
pub round_more : (s : SpellingTree) (word : Word) (rounds begin : ℕ) (old new : List NodeTree) → IsPartSpelled s word rounds begin old → Adds s (rounds + 1) old new
    → ((place : ℕ) → begin ≤ place → place < length old → IsDone s new place) → IsPartSpelled s word (rounds + 1) (length old) new
round_more s word rounds begin old new p a d = record {
  some = omega (arith, p.some, a.grows.longer);
  root = a.grows.words 0 p.some ∙ p.root;
  start = a.grows.distances 0 p.some ∙ p.start;
  forms = λ n e lt h. elim (a.only n e lt h) [ inl w ↦ form_grown s old new n e a.grows w.0 (p.forms n e w.0 w.1) | inr f ↦ f ];
  within = a.grows.longer;
  done = λ place lt. done place lt;
  near = near_grown s (rounds + 1) old new a (λ n lt. omega (arith, p.near n lt));
  last = a.far;
  ways = ways;
  apart = a.apart p.apart;
}
  where
    done : (place : ℕ) → place < length old → IsDone s new place
    done place lt = go (cases_le begin place)
      where
        go : (begin ≤ place) ⊎ (place < begin) → IsDone s new place
        go (inl le) = d place le lt
        go (inr be) = done_grown s old new place a.grows lt (p.done place be)

    ways : (rules : List ℕ) (stem : Word) → length rules ≤ rounds + 1 → Leads s rules stem word → (n : ℕ) × IsNodeOf new stem n × Runs new rules n 0
    ways _ stem le (there _) = (0, (omega (arith, p.some, a.grows.longer), a.grows.words 0 p.some ∙ p.root), stays 0)
    ways _ stem le (by rule rules _ x _ less pos h l) =
        let r = p.ways rules x (omega arith) l in
        let formed : HasForm s rule stem (node_at new r.0).word = subst (HasForm s rule stem) (sym (a.grows.words r.0 r.1.0 ∙ r.1.1)) h in
        let e = done r.0 r.1.0 rule stem less pos formed in
        (e.0, e.1, goes rule rules e.0 r.0 0 e.1.0 e.2 (run_grown old new rules r.0 0 a.grows r.2))

pub first_round : (s : SpellingTree) (word : Word) (nodes : List NodeTree) (n : ℕ) → IsGrown 0 word [] nodes → IsNodeOf nodes word n → IsPartSpelled s word 0 0 nodes
first_round s word nodes n (inl e) at = absurd (omega (arith, ap (λ l. length l) e, at.0))
first_round s word nodes n (inr p) at = subst (IsPartSpelled s word 0 0) (sym p.is) (record {
  some = omega arith;
  root = refl;
  start = refl;
  forms = none;
  within = omega arith;
  done = λ place lt. absurd (omega arith);
  near = λ n lt. let z : n ≡ 0 = omega arith in subst (λ k. (node_at (record { word = word; distance = 0; edges = [] } ∷ []) k).distance ≤ 0) (sym z) (omega arith);
  last = λ n le lt. let z : n ≡ 0 = omega arith in subst (λ k. (node_at (record { word = word; distance = 0; edges = [] } ∷ []) k).distance ≡ 0) (sym z) refl;
  ways = ways;
  apart = λ n m ln lm e. omega arith;
})
  where
    none : (n : ℕ) (e : EdgeTree) → n < 1 → Has e (node_at (record { word = word; distance = 0; edges = [] } ∷ []) n).edges → IsForm s (record { word = word; distance = 0; edges = [] } ∷ []) n e
    none zero e lt h = absurd h
    none (suc n) e lt h = absurd h

    ways : (rules : List ℕ) (stem : Word) → length rules ≤ 0 → Leads s rules stem word → (n : ℕ) × IsNodeOf (record { word = word; distance = 0; edges = [] } ∷ []) stem n × Runs (record { word = word; distance = 0; edges = [] } ∷ []) rules n 0
    ways _ stem le (there _) = (0, (omega arith, refl), stays 0)
    ways _ stem le (by rule rules _ x _ less pos h l) = absurd (omega arith)

-- no edges lead to node 0 by fewer rules than the distance
far_enough : (s : SpellingTree) (nodes : List NodeTree) → ((n : ℕ) (e : EdgeTree) → n < length nodes → Has e (node_at nodes n).edges → IsForm s nodes n e)
    → (rules : List ℕ) (n m : ℕ) → Runs nodes rules n m → (node_at nodes n).distance ≤ length rules + (node_at nodes m).distance
far_enough s nodes forms _ n _ (stays _) = omega arith
far_enough s nodes forms _ n k (goes rule rules _ m _ lt h r) = let near = (forms n (record { rule = rule; to = m }) lt h).near in omega (arith, near, far_enough s nodes forms rules m k r)

spelled_by : (s : SpellingTree) (word : Word) (rounds depth begin : ℕ) (nodes : List NodeTree) → IsPartSpelled s word rounds begin nodes
    → ((rules : List ℕ) (stem : Word) → length rules ≤ depth → Leads s rules stem word → (n : ℕ) × IsNodeOf nodes stem n × Runs nodes rules n 0) → IsSpelled s word depth nodes
spelled_by s word rounds depth begin nodes p ways = record {
  root = (p.some, p.root);
  forms = λ n rule m lt h. let f = p.forms n (record { rule = rule; to = m }) lt h in (f.within, f.rule, f.some, f.form);
  ways = λ rules stem le l. let r = ways rules stem le l in (r.0, r.1.0, r.1.1, r.2);
  near = λ rules n lt r. omega (arith, far_enough s nodes p.forms rules n 0 r, p.start);
  apart = p.apart;
}

-- after as many rounds as the depth is great
pub all_spelled : (s : SpellingTree) (word : Word) (depth begin : ℕ) (nodes : List NodeTree) → IsPartSpelled s word depth begin nodes → IsSpelled s word depth nodes
all_spelled s word depth begin nodes p = spelled_by s word depth depth begin nodes p p.ways

-- after a round that made no node
pub no_more : (s : SpellingTree) (word : Word) (rounds depth begin : ℕ) (nodes : List NodeTree) → IsPartSpelled s word rounds begin nodes → length nodes ≤ begin → IsSpelled s word depth nodes
no_more s word rounds depth begin nodes p le = spelled_by s word rounds depth begin nodes p (λ rules stem few l. ways_along s word nodes begin p.some p.root p.done rules stem le l)

pub stems_step : (s : SpellingTree) (d : ℕ) (first now more new : List NodeTree) (k rule place : ℕ) (stem form : Word) → Adds s d first now → AllNear first d → d ≡ suc (node_at first place).distance → IsGrown d stem now more → IsNodeOf more stem k
    → new ≡ with_edge more k (record { rule = rule; to = place }) → place < length first → (node_at first place).word ≡ form → rule < length s.rules → 0 < length stem → HasForm s rule stem form
    → Adds s d first new × Grows now new × HasEdge new stem rule place
stems_step s d first now more new k rule place stem form a near next g at e lt is less pos h =
    let b : Adds s d now more = adds_node s d stem now more g in
    let ab : Adds s d first more = adds_then s d first now more a b in
    let to : IsNodeOf more form place = (omega (arith, ab.grows.longer), ab.grows.words place lt ∙ is) in
    let close : (node_at more k).distance ≤ suc (node_at more place).distance = omega (arith, near_grown s d first more ab near k at.0, next, ab.grows.distances place lt) in
    let c = adds_edge s d more k rule place stem form at to less pos h close in
    let f : Adds s d more new = subst (Adds s d more) (sym e) c.0 in
    (adds_then s d first more new ab f, grows_then now more new b.grows f.grows, subst (λ n. HasEdge n stem rule place) (sym e) c.1)

-- a node of the map
pub node_is : (es : List (String Global × Node)) (i : ℕ) (p : String Global × Node) → slice_get es i ≡ Some p → node_at (map node_of es) i ≡ node_of p
node_is [] i p e = absurd (let z : Some p ≡ None = sym e in cc)
node_is (x ∷ xs) zero p e = ap node_of (let z : x ≡ p = cc in z)
node_is (x ∷ xs) (suc i) p e = node_is xs i p e

pub edge_set : (es : List (String Global × Node)) (k : ℕ) (old new : Node) (e : Edge) → slice_get (map (λ p. p.1) es) k ≡ Some old → new.distance ≡ old.distance → new.edges.items ≡ old.edges.items ++ e ∷ []
    → map node_of (set_value_at es k new) ≡ with_edge (map node_of es) k (edge_of e)
edge_set [] k old new e at d g = absurd (let z : Some old ≡ None = sym at in cc)
edge_set (x ∷ xs) zero old new e at d g =
    let z : x.1 ≡ old = cc in
    ap (λ es. let n : NodeTree = record { word = string_bytes x.0; distance = new.distance; edges = es } in n ∷ map node_of xs) (ap (map edge_of) g ∙ map-append edge_of old.edges.items (e ∷ []))
    ∙ ap (λ k. let n : NodeTree = record { word = string_bytes x.0; distance = k; edges = map edge_of old.edges.items ++ edge_of e ∷ [] } in n ∷ map node_of xs) d
    ∙ ap (λ o. let n : NodeTree = record { word = string_bytes x.0; distance = o.distance; edges = map edge_of o.edges.items ++ edge_of e ∷ [] } in n ∷ map node_of xs) (sym z)
edge_set (x ∷ xs) (suc k) old new e at d g = ap (λ l. node_of x ∷ l) (edge_set xs k old new e at d g)

-- the node of a word that the map has, and of one that it doesn't
pub node_found : (es : List (String Global × Node)) (w : Word) (i : ℕ) → position (λ k. bytes_eq w (string_bytes k)) (map (λ p. p.0) es) ≡ Some i → IsNodeOf (map node_of es) w i
node_found [] w i e = absurd (let z : None ≡ Some i = e in cc)
node_found (x ∷ xs) w i e =
    let p = position-Some (λ k. bytes_eq w (string_bytes k)) (map (λ p. p.0) (x ∷ xs)) i x.0 e in
    (omega (arith, p.0, length-map (x ∷ xs) (λ p. p.0), length-map (x ∷ xs) node_of), named (x ∷ xs) i x.0 (omega (arith, p.0, length-map (x ∷ xs) (λ p. p.0))) ∙ sym (bytes_eq-same w _ p.1))
  where
    named : (es : List (String Global × Node)) (i : ℕ) (d : String Global) → i < length es → (node_at (map node_of es) i).word ≡ string_bytes (get_or (map (λ p. p.0) es) i d)
    named [] i d lt = absurd (omega arith)
    named (y ∷ ys) zero d lt = refl
    named (y ∷ ys) (suc i) d lt = named ys i d (omega arith)

pub node_absent : (es : List (String Global × Node)) (w : Word) → lookup (λ k. bytes_eq w (string_bytes k)) es ≡ None → (n : ℕ) → n < length (map node_of es) → (node_at (map node_of es) n).word ≡ w → ⊥
node_absent [] w e n lt is = absurd (omega arith)
node_absent (x ∷ xs) w e n lt is = go n lt is (bools (bytes_eq w (string_bytes x.0))) (node_absent xs w)
  where
    go : (n : ℕ) → n < length (map node_of (x ∷ xs)) → (node_at (map node_of (x ∷ xs)) n).word ≡ w → (bytes_eq w (string_bytes x.0) ≡ true) ⊎ (bytes_eq w (string_bytes x.0) ≡ false)
        → (lookup (λ k. bytes_eq w (string_bytes k)) xs ≡ None → (n : ℕ) → n < length (map node_of xs) → (node_at (map node_of xs) n).word ≡ w → ⊥) → ⊥
    go n lt is (inl t) more = let z : Some x.1 ≡ None = sym (ap (λ b. cond b (Some x.1) (lookup (λ k. bytes_eq w (string_bytes k)) xs)) t) ∙ e in cc
    go zero lt is (inr f) more = true_not_false (bytes_eq w (string_bytes x.0)) (bytes_eq-refl w (string_bytes x.0) (sym is)) f
    go (suc n) lt is (inr f) more = more (sym (ap (λ b. cond b (Some x.1) (lookup (λ k. bytes_eq w (string_bytes k)) xs)) f) ∙ e) n (omega arith) is

-- a node more for a word that has none
pub grown_by : (es new : List (String Global × Node)) (key : String Global) (node : Node) (w : Word) (d : ℕ) → new ≡ es ++ (key, node) ∷ [] → string_bytes key ≡ w → node.distance ≡ d → node.edges.items ≡ []
    → lookup (λ k. bytes_eq w (string_bytes k)) es ≡ None → IsWithNode d w (map node_of es) (map node_of new)
grown_by es new key node w d e k dist none missing = record {
  is =
      ap (map node_of) e ∙ map-append node_of es ((key, node) ∷ []) ∙ ap (λ v. let n : NodeTree = record { word = v; distance = node.distance; edges = map edge_of node.edges.items } in map node_of es ++ n ∷ []) k
      ∙ ap (λ v. let n : NodeTree = record { word = w; distance = v; edges = map edge_of node.edges.items } in map node_of es ++ n ∷ []) dist ∙ ap (λ v. let n : NodeTree = record { word = w; distance = d; edges = map edge_of v } in map node_of es ++ n ∷ []) none;
  absent = node_absent es w missing;
}

pub new_node : (old new : List NodeTree) (w : Word) (d n : ℕ) → IsWithNode d w old new → n ≡ length old → IsNodeOf new w n
new_node old new w d n p e =
    let size = length-append old (record { word = w; distance = d; edges = [] } ∷ []) in
    subst (λ l. IsNodeOf l w n) (sym p.is) (omega (arith, size, e), ap (λ x. x.word) (last_node old (record { word = w; distance = d; edges = [] }) n (omega (arith, e)) (omega (arith, size, e))).0)

pub none_when : {X : Type 0} (o : Option X) → false ≡ is_some o → o ≡ None
none_when None e = refl
none_when (Some x) e = let z : false ≡ true = e in cc
