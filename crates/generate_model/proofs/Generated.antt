-- The trees that the item asks for are the realizations.
use Rattle.std.specs.Prelude.{ℕ, ◌≡◌, ◌↔◌, ◌+◌, ◌≤◌, ◌<◌, ◌&&◌, Bool, true, false, Option, Some, None, List, [], ◌∷◌, ◌++◌, length, sum}
use Rattle.std.specs.Cmp.Lexicographic.{bytes_decides}
use Rattle.std.specs.Str.{bytes_eq}
use Rattle.std.proofs.Common.{refl, sym, ◌∙◌, ap, subst, arith, append-nil, append_assoc}
use Rattle.fs_model.specs.Claims.{IsOrder}
use Rattle.derivation.specs.Trees.{Derivation, Daughters, lexical, phrase, first}
use Rattle.chart_model.specs.declared.counts.Counts.{Counts}
use Rattle.chart_model.specs.Sums.{counts_join, counts_size}
use Rattle.chart_model.specs.Lists.{add_all, all_within}
use Rattle.tree_model.specs.Structures.{Structure}
use Rattle.tree_model.specs.Signs.{Signs}
use Rattle.tree_model.specs.Lexical.{Word, Words}
use Rattle.tree_model.specs.Forest.{IsLexical}
use Rattle.tree_model.specs.Trees.{Full, full_phrase, Fulls, no_fulls, more_fulls, IsPhrase, LeavesAre, leaf_is, leaves_are, AllLeavesAre, no_leaves, more_leaves, Covered, covered_lexical, covered_phrase, AllCovered, no_covers, more_covers}
use Rattle.tree_model.specs.Items.{IsItem, IsWanted}
use Rattle.tree_model.proofs.Once.{one}
use Rattle.generate_model.specs.Covers.{counts_next, IsCount}
use Rattle.generate_model.specs.Bags.{count, SameBag, LiesIn, is_among, empties, distinct, all_among, tally, counted, bound_of}
use Rattle.generate_model.specs.Realizations.{Asked, IsRealization, IsTold, gen_item, IsLeaf, IsLexicalTree, IsGenLeaf, IsCovering, Contributes, leaf_contributes, rule_contributes, AllContribute, none_contribute, more_contribute}
use Rattle.generate_model.specs.Generation.{GenerationIsItem, RealizationsAreWanted}
use Rattle.generate_model.proofs.BagLemmas.{count_append, tally_append, tally_length, tally_within, lies_among, same_bag, all_append, counted_some, counted_is, tallies_join, tally_some}
use Rattle.generate_model.proofs.CoverProofs.{joins_of}

is_lexical : (g : Signs) (words : Words) (t : Derivation) → IsLexicalTree g words t → IsLexical t
is_lexical g words t l = subst IsLexical (sym l.is) tt

mutual
  leaves_map : {P Q : Derivation → Type 0} → ((t : Derivation) → P t → Q t) → {t : Derivation} → LeavesAre P t → LeavesAre Q t
  leaves_map f (leaf_is l) = leaf_is (f _ l)
  leaves_map f (leaves_are ls) = leaves_are (all_leaves_map f ls)

  all_leaves_map : {P Q : Derivation → Type 0} → ((t : Derivation) → P t → Q t) → {ts : Daughters} → AllLeavesAre P ts → AllLeavesAre Q ts
  all_leaves_map f no_leaves = no_leaves
  all_leaves_map f (more_leaves l ls) = more_leaves (leaves_map f l) (all_leaves_map f ls)

module _ (g : Signs) (o : IsOrder g.system) (words : Words) (asked : Asked) (most_rules most_empty : ℕ) (own : ℕ → Option Counts) (told : IsTold g asked own) where
  abbrev places : List Word
  places = distinct asked.bag

  abbrev most : Counts
  most = bound_of asked.bag most_empty

  abbrev Leaf : Derivation → Type 0
  Leaf = IsGenLeaf g words asked most_rules most_empty own

  abbrev Covering : Derivation → Counts → Type 0
  Covering = IsCovering g words asked most_rules most_empty own

  abbrev covers : ℕ → List Counts → Option Counts
  covers rule cs = counts_next most (own rule) cs

  abbrev at_places : List Word → ℕ → Counts
  at_places ws n = record { of = tally places ws; empty = n }

  pub one_covering : (t : Derivation) (c d : Counts) → Covering t c → Covering t d → c ≡ d
  one_covering t c d a b =
      let f = one g o a.full b.full in
      let w = told.one_says b.structure a.contributed b.contributed (subst (λ x. asked.says x a.contributed) f a.says) b.says in
      let e : Some c ≡ Some d = sym a.is ∙ ap (λ ws. counted places ws (empties ws)) w ∙ b.is in
      cc

  pub is_item : IsItem (gen_item g words asked most_rules most_empty own)
  is_item = record { lexical = λ t l. is_lexical g words t l.leaf.0; one_cover = one_covering }

  -- what a covered tree contributes
  record Said (t : Derivation) (c : Counts) : Type 0 where
    said : List Word
    empty : ℕ
    contributes : Contributes g asked t said empty
    among : all_among said places ≡ true
    of : c.of ≡ tally places said
    empty_is : c.empty ≡ empty
    few : empty ≤ most_empty

  record AllSaid (ds : Daughters) (acc : List Word) (k : ℕ) (c : Counts) : Type 0 where
    said : List Word
    empty : ℕ
    contribute : AllContribute g asked ds said empty
    among : all_among said places ≡ true
    of : c.of ≡ tally places (acc ++ said)
    empty_is : c.empty ≡ k + empty
    few : k + empty ≤ most_empty

  said_leaf : {entry : ℕ} {rules : List ℕ} {said : List Word} {nodes : Option (ℕ × ℕ)} (c : Counts) → Leaf (lexical entry rules said nodes) → Covering (lexical entry rules said nodes) c → Said (lexical entry rules said nodes) c
  said_leaf c l k =
      let z = counted_some places k.contributed (empties k.contributed) c k.is in
      let e = one_covering _ l.cover c l.covering k in
      record {
        said = k.contributed;
        empty = empties k.contributed;
        contributes = leaf_contributes k.contributed k.full k.says;
        among = z.among;
        of = z.of;
        empty_is = z.empty;
        few = subst (λ n. n ≤ most_empty) z.empty (subst (λ (x : Counts). x.empty ≤ most_empty) e l.few);
      }

  said_next : (d : Derivation) (ds : Daughters) (acc : List Word) (k : ℕ) (b c : Counts) (cs : List Counts) → k ≤ most_empty → Said d b → ((acc' : List Word) (m : ℕ) → m ≤ most_empty → counts_next most (Some (at_places acc' m)) cs ≡ Some c → AllSaid ds acc' m c) →
      counts_next most (Some (at_places acc k)) (b ∷ cs) ≡ Some c → AllSaid (first d ds) acc k c
  said_next d ds acc k b c cs few s go h = by_join (counts_join most (at_places acc k) b) refl
    where
      by_join : (j : Option Counts) → counts_join most (at_places acc k) b ≡ j → AllSaid (first d ds) acc k c
      by_join None f = absurd (let q : counts_next most (counts_join most (at_places acc k) b) cs ≡ None = rw f refl in cc)
      by_join (Some z) f =
          let j = joins_of most (at_places acc k) b z f in
          let of : z.of ≡ tally places (acc ++ s.said) = j.of ∙ ap (λ xs. add_all (tally places acc) xs) s.of ∙ sym (tally_append places acc s.said) in
          let empty : z.empty ≡ k + s.empty = j.empty ∙ ap (λ n. k + n) s.empty_is in
          let is : z ≡ at_places (acc ++ s.said) (k + s.empty) = λ i. record { of = of i; empty = empty i } in
          let r = go (acc ++ s.said) (k + s.empty) (subst (λ n. n ≤ most_empty) empty j.few) (subst (λ x. counts_next most (Some x) cs ≡ Some c) is (let q : counts_next most (counts_join most (at_places acc k) b) cs ≡ counts_next most (Some z) cs = rw f refl in sym q ∙ h)) in
          record {
            said = s.said ++ r.said;
            empty = s.empty + r.empty;
            contribute = more_contribute s.said r.said s.contributes r.contribute;
            among = all_append s.said r.said places s.among r.among;
            of = r.of ∙ ap (tally places) (append_assoc acc s.said r.said);
            empty_is = r.empty_is ∙ omega arith;
            few = (let a = r.few in omega (arith, a));
          }

  said_rule : {rule : ℕ} {ds : Daughters} (c : Counts) (cs : List Counts) (fs : List Structure) (f : Structure) → IsPhrase g rule fs f → covers rule cs ≡ Some c → ((acc : List Word) (k : ℕ) → k ≤ most_empty → counts_next most (Some (at_places acc k)) cs ≡ Some c → AllSaid ds acc k c) → Said (phrase rule ds) c
  said_rule {rule} {ds} c cs fs f is h go =
      let q = told.owns rule is.instance is.at is.kind in
      by_own q.0 q.1 (counted places q.0 0) refl q.2
    where
      by_own : (ws : List Word) → asked.gives rule ws → (x : Option Counts) → counted places ws 0 ≡ x → own rule ≡ counted places ws 0 → Said (phrase rule ds) c
      by_own ws gives None e q = absurd (let r : counts_next most (own rule) cs ≡ None = ap (λ y. counts_next most y cs) (q ∙ e) in cc)
      by_own ws gives (Some x) e q =
          let z = counted_some places ws 0 x e in
          let r = go ws 0 (omega arith) (ap (λ y. counts_next most y cs) (sym (counted_is places ws 0 z.among) ∙ sym q) ∙ h) in
          record {
            said = ws ++ r.said;
            empty = r.empty;
            contributes = rule_contributes ws r.said gives r.contribute;
            among = all_append ws r.said places z.among r.among;
            of = r.of;
            empty_is = r.empty_is ∙ omega arith;
            few = (let a = r.few in omega (arith, a));
          }

  mutual
    said_of : {t : Derivation} {c : Counts} {f : Structure} → LeavesAre Leaf t → Covered Covering covers t c → Full g t f → Said t c
    said_of (leaf_is l) (covered_lexical k) full = said_leaf _ l k
    said_of (leaves_are ls) (covered_phrase cs ks e) (full_phrase fs ys is) = said_rule _ cs fs _ is e (λ acc k few h. all_said ls ks ys acc k few h)

    all_said : {ds : Daughters} {cs : List Counts} {fs : List Structure} {c : Counts} → AllLeavesAre Leaf ds → AllCovered Covering covers ds cs → Fulls g ds fs → (acc : List Word) (k : ℕ) → k ≤ most_empty → counts_next most (Some (at_places acc k)) cs ≡ Some c → AllSaid ds acc k c
    all_said {c = c} no_leaves no_covers no_fulls acc k few h =
        let z : at_places acc k ≡ c = cc in
        record {
          said = [];
          empty = 0;
          contribute = none_contribute;
          among = refl;
          of = ap (λ (x : Counts). x.of) (sym z) ∙ ap (tally places) (sym (append-nil acc));
          empty_is = ap (λ (x : Counts). x.empty) (sym z) ∙ omega arith;
          few = omega (arith, few);
        }
    all_said {c = c} (more_leaves l ls) (more_covers {c = b} {cs = cs} x xs) (more_fulls y ys) acc k few h =
        said_next _ _ acc k b c cs few (said_of l x y) (λ acc' m low e. all_said ls xs ys acc' m low e) h

  -- a tree that contributes what lies in the input's bag is covered, by leaves within the bound
  record Fit (t : Derivation) (ws : List Word) (n : ℕ) : Type 0 where
    leaves : LeavesAre Leaf t
    covered : Covered Covering covers t (at_places ws n)

  record AllFit (ds : Daughters) (acc : List Word) (k : ℕ) (ws : List Word) (n : ℕ) : Type 0 where
    leaves : AllLeavesAre Leaf ds
    counts : List Counts
    covered : AllCovered Covering covers ds counts
    joined : counts_next most (Some (at_places acc k)) counts ≡ Some (at_places (acc ++ ws) (k + n))

  lies_left : (w : Word) (xs ys bag : List Word) → LiesIn (xs ++ ys) bag → count w xs ≤ count w bag
  lies_left w xs ys bag h = let a = count_append w xs ys in let b = h w in omega (arith, a, b)

  lies_right : (w : Word) (xs ys bag : List Word) → LiesIn (xs ++ ys) bag → count w ys ≤ count w bag
  lies_right w xs ys bag h = let a = count_append w xs ys in let b = h w in omega (arith, a, b)

  fit_leaf : {entry : ℕ} {rules : List ℕ} {said : List Word} {nodes : Option (ℕ × ℕ)} {f : Structure} (ws : List Word) → IsLeaf g words most_rules (lexical entry rules said nodes) → Full g (lexical entry rules said nodes) f → asked.says f ws →
      LiesIn ws asked.bag → empties ws ≤ most_empty → Fit (lexical entry rules said nodes) ws (empties ws)
  fit_leaf {f = f} ws leaf full says lies few =
      let k : Covering _ (at_places ws (empties ws)) = record { structure = f; full = full; contributed = ws; says = says; is = counted_is places ws (empties ws) (lies_among ws asked.bag lies) } in
      record {
        leaves = leaf_is (record { leaf = leaf; cover = at_places ws (empties ws); covering = k; within = tally_within places ws asked.bag lies; few = few });
        covered = covered_lexical k;
      }

  fit_rule : {rule : ℕ} {ds : Daughters} {n : ℕ} {f : Structure} {fs : List Structure} (ws vs : List Word) → asked.gives rule ws → IsPhrase g rule fs f → LiesIn (ws ++ vs) asked.bag → AllFit ds ws 0 vs n → Fit (phrase rule ds) (ws ++ vs) n
  fit_rule {rule} {ds} {n} ws vs gives is lies z =
      let q = told.owns rule is.instance is.at is.kind in
      let same = told.one_gives rule q.0 ws q.1 gives in
      let e : own rule ≡ Some (at_places ws 0) = q.2 ∙ ap (λ xs. counted places xs 0) same ∙ counted_is places ws 0 (lies_among ws asked.bag (λ w. lies_left w ws vs asked.bag lies)) in
      let joined : covers rule z.counts ≡ Some (at_places (ws ++ vs) (0 + n)) = ap (λ x. counts_next most x z.counts) e ∙ z.joined in
      record { leaves = leaves_are z.leaves; covered = covered_phrase z.counts z.covered (joined ∙ ap (λ m. Some (at_places (ws ++ vs) m)) (omega arith)) }

  mutual
    fit : {t : Derivation} {ws : List Word} {n : ℕ} {f : Structure} → Contributes g asked t ws n → LeavesAre (IsLeaf g words most_rules) t → Full g t f → LiesIn ws asked.bag → n ≤ most_empty → Fit t ws n
    fit (leaf_contributes ws full says) (leaf_is leaf) k lies few = fit_leaf ws leaf full says lies few
    fit (rule_contributes ws vs gives all) (leaves_are ls) (full_phrase fs ys is) lies few = fit_rule ws vs gives is lies (all_fit all ls ys ws 0 lies (omega (arith, few)))

    all_fit : {ds : Daughters} {ws : List Word} {n : ℕ} {fs : List Structure} → AllContribute g asked ds ws n → AllLeavesAre (IsLeaf g words most_rules) ds → Fulls g ds fs → (acc : List Word) (k : ℕ) → LiesIn (acc ++ ws) asked.bag → k + n ≤ most_empty → AllFit ds acc k ws n
    all_fit none_contribute no_leaves no_fulls acc k lies few =
        record { leaves = no_leaves; counts = []; covered = no_covers; joined = (let a = append-nil acc in let b : k ≡ k + 0 = omega arith in λ i. Some (at_places (sym a i) (b i))) }
    all_fit (more_contribute {m = m} {n = n} ws vs c all) (more_leaves l ls) (more_fulls y ys) acc k lies few =
        let assoc = append_assoc acc ws vs in
        let lies' : LiesIn ((acc ++ ws) ++ vs) asked.bag = subst (λ xs. LiesIn xs asked.bag) (sym assoc) lies in
        let left : LiesIn (acc ++ ws) asked.bag = λ w. lies_left w (acc ++ ws) vs asked.bag lies' in
        let z = fit c l y (λ w. lies_right w acc ws asked.bag left) (omega (arith, few)) in
        let zs = all_fit all ls ys (acc ++ ws) (k + m) lies' (omega (arith, few)) in
        let j = tallies_join asked.bag acc ws most_empty k m left (omega (arith, few)) in
        record {
          leaves = more_leaves z.leaves zs.leaves;
          counts = at_places ws m ∷ zs.counts;
          covered = more_covers z.covered zs.covered;
          joined = ap (λ x. counts_next most x zs.counts) j ∙ zs.joined ∙ (let b : (k + m) + n ≡ k + (m + n) = omega arith in λ i. Some (at_places (assoc i) (b i)));
        }

  pub both_ways : (t : Derivation) → IsWanted g (gen_item g words asked most_rules most_empty own) t ↔ IsRealization g words asked most_rules most_empty t
  both_ways t = (to, back)
    where
      to : IsWanted g (gen_item g words asked most_rules most_empty own) t → IsRealization g words asked most_rules most_empty t
      to w =
          let s = said_of w.leaves w.covered w.full in
          record {
            leaves = leaves_map (λ u l. l.leaf) w.leaves;
            structure = w.structure;
            full = w.full;
            rooted = w.accepted.rooted;
            means = w.accepted.means;
            contributed = s.said;
            empty = s.empty;
            contributes = s.contributes;
            whole = same_bag s.said asked.bag s.among (sym s.of ∙ w.accepted.whole);
            few = s.few;
          }

      back : IsRealization g words asked most_rules most_empty t → IsWanted g (gen_item g words asked most_rules most_empty own) t
      back r =
          let z = fit r.contributes r.leaves r.full (λ w. let e = r.whole w in omega (arith, e)) r.few in
          record {
            leaves = z.leaves;
            cover = at_places r.contributed r.empty;
            covered = z.covered;
            structure = r.structure;
            full = r.full;
            accepted = record { rooted = r.rooted; means = r.means; whole = same_tally places r.whole };
          }
        where
          same_tally : (ps : List Word) → SameBag r.contributed asked.bag → tally ps r.contributed ≡ tally ps asked.bag
          same_tally [] h = refl
          same_tally (p ∷ ps) h = let a = h p in let b = same_tally ps h in λ i. a i ∷ b i

-- the cover of a leaf
module _ (g : Signs) (o : IsOrder g.system) (words : Words) (asked : Asked) (most_rules most_empty : ℕ) (own : ℕ → Option Counts) (told : IsTold g asked own) where
  pub leaf_counts : (t : Derivation) (c : Counts) → IsGenLeaf g words asked most_rules most_empty own t → IsCovering g words asked most_rules most_empty own t c → IsCount (bound_of asked.bag most_empty) c
  leaf_counts t c l k =
      let ps = distinct asked.bag in
      let e = one_covering g o words asked most_rules most_empty own told t l.cover c l.covering k in
      let z = counted_some ps k.contributed (empties k.contributed) c k.is in
      record {
        places = ap length z.of ∙ tally_length ps k.contributed ∙ sym (tally_length ps asked.bag);
        within = subst (λ (x : Counts). all_within x.of (tally ps asked.bag) ≡ true) e l.within;
        few = subst (λ (x : Counts). x.empty ≤ most_empty) e l.few;
        some = positive ps k.contributed z.among z.of z.empty;
      }
    where
      positive : (ps ws : List Word) → all_among ws ps ≡ true → c.of ≡ tally ps ws → c.empty ≡ empties ws → 0 < counts_size c
      positive ps [] a of empty = omega (arith, empty)
      positive ps (w ∷ ws) a of empty =
          let own : bytes_eq w w ≡ true = (bytes_decides w w).1 refl in
          let l : 0 < count w (w ∷ ws) = rw own (omega arith) in
          let k = tally_some w (w ∷ ws) ps (and_left (is_among w ps) (all_among ws ps) a) l in
          let s = ap sum of in
          omega (arith, k, s)
        where
          and_left : (a b : Bool) → a && b ≡ true → a ≡ true
          and_left true b h = refl
          and_left false b h = absurd (cc)

pub generation_is_item : GenerationIsItem
generation_is_item g o words asked most_rules most_empty own told = is_item g o words asked most_rules most_empty own told

pub realizations_are_wanted : RealizationsAreWanted
realizations_are_wanted g o words asked most_rules most_empty own told t = both_ways g o words asked most_rules most_empty own told t
