-- The order of trees is total, and trees that it does not tell apart are equal.
use Rattle.std.proofs.Common.{◌≡◌, ℕ, List, [], ◌∷◌, reverse, Option, Some, None, refl, sym, ap, ◌∙◌, subst, ◌↔◌, arith}
use Rattle.std.proofs.lemmas.Bool.Decides.{nat_tests}
use Rattle.std.proofs.lemmas.List.{reverse-reverse}
use Rattle.std.proofs.lemmas.Cmp.{nat_cmp_total, nat_list_cmp_total, lists_total, on_total, then_total, alike_right, tied_itself}
use Rattle.std.specs.declared.cmp.Ordering.{Ordering}
use Rattle.std.specs.declared.cmp.Ordering.TheVariants.{Less, Equal, Greater}
use Rattle.std.specs.Ordering.{ordering_then, ordering_reverse, nat_cmp}
use Rattle.std.specs.Option.{option_cmp}
use Rattle.std.specs.Cmp.{IsTotalOrder}
use Rattle.std.specs.Cmp.Lexicographic.{slice_cmp, options_total}
use Rattle.derivation.specs.Trees.{Derivation, Daughters, lexical, phrase, no_more, first}
use Rattle.derivation.specs.Order.{compare_trees, compare_daughters, compare_pairs, word_counts, inwards, outermost}

-- what the answers on x and y, on y and z and on x and z have to do with one another
abbrev Composes : Ordering → Ordering → Ordering → Type 0
Composes o p q = (o ≡ Less → p ≡ Less → q ≡ Less) × (o ≡ Equal → q ≡ p) × (p ≡ Equal → q ≡ o)

composes_of : {K : Type 0} {R : K → K → Ordering} → IsTotalOrder R → (x y z : K) → Composes (R x y) (R y z) (R x z)
composes_of total x y z = (total.trans x y z, total.congr x y z, λ e. sym (alike_right total y z x e))

less_at_left : (o : Ordering) → Composes o Less Less
less_at_left o = (λ _ _. refl, λ _. refl, λ e. cc)

less_at_right : (p : Ordering) → Composes Less p Less
less_at_right p = (λ _ _. refl, λ e. cc, λ _. refl)

greater_at_left : (o : Ordering) → Composes o Greater Greater
greater_at_left o = (λ _ e. cc, λ _. refl, λ e. cc)

greater_at_right : (p : Ordering) → Composes Greater p Greater
greater_at_right p = (λ e _. cc, λ e. cc, λ _. refl)

up_and_down : (q : Ordering) → Composes Less Greater q
up_and_down q = (λ _ e. cc, λ e. cc, λ e. cc)

down_and_up : (q : Ordering) → Composes Greater Less q
down_and_up q = (λ e _. cc, λ e. cc, λ e. cc)

composes_then : (o p q o' p' q' : Ordering) → Composes o p q → Composes o' p' q' → Composes (ordering_then o o') (ordering_then p p') (ordering_then q q')
composes_then Less Less q o' p' q' h k = let e : q ≡ Less = h.0 refl refl in rw e (less_at_left Less)
composes_then Less Equal q o' p' q' h k = let e : q ≡ Less = h.2 refl in rw e (less_at_right p')
composes_then Less Greater q o' p' q' h k = up_and_down (ordering_then q q')
composes_then Equal Less q o' p' q' h k = let e : q ≡ Less = h.1 refl in rw e (less_at_left o')
composes_then Equal Equal q o' p' q' h k = let e : q ≡ Equal = h.1 refl in rw e k
composes_then Equal Greater q o' p' q' h k = let e : q ≡ Greater = h.1 refl in rw e (greater_at_left o')
composes_then Greater Less q o' p' q' h k = down_and_up (ordering_then q q')
composes_then Greater Equal q o' p' q' h k = let e : q ≡ Greater = h.2 refl in rw e (greater_at_right p')
composes_then Greater Greater q o' p' q' h k = (λ e _. cc, λ e. cc, λ e. cc)

reverse_then : (o p o' p' : Ordering) → o ≡ ordering_reverse o' → p ≡ ordering_reverse p' →
    ordering_then o p ≡ ordering_reverse (ordering_then o' p')
reverse_then o p Less p' e f = rw e refl
reverse_then o p Equal p' e f = rw e f
reverse_then o p Greater p' e f = rw e refl

pairs_total : IsTotalOrder compare_pairs
pairs_total = then_total (on_total (λ (n : ℕ × ℕ). n.0) nat_cmp_total) (on_total (λ (n : ℕ × ℕ). n.1) nat_cmp_total)

spans_total : IsTotalOrder (option_cmp compare_pairs)
spans_total = options_total pairs_total

texts_total : IsTotalOrder (slice_cmp (slice_cmp nat_cmp))
texts_total = lists_total nat_list_cmp_total

mutual
  antisymm-trees : (a b : Derivation) → compare_trees a b ≡ ordering_reverse (compare_trees b a)
  antisymm-trees (lexical e rs ws ns) (lexical f qs vs ms) =
      reverse_then _ _ _ _ (nat_cmp_total.antisymm (outermost e rs) (outermost f qs))
      (reverse_then _ _ _ _ (nat_list_cmp_total.antisymm (inwards e rs) (inwards f qs))
      (reverse_then _ _ _ _ (texts_total.antisymm ws vs) (spans_total.antisymm ns ms)))
  antisymm-trees (lexical e rs ws ns) (phrase q es) = reverse_then _ Less _ Greater (nat_cmp_total.antisymm (outermost e rs) q) refl
  antisymm-trees (phrase r ds) (lexical f qs vs ms) = reverse_then _ Greater _ Less (nat_cmp_total.antisymm r (outermost f qs)) refl
  antisymm-trees (phrase r ds) (phrase q es) =
      reverse_then _ _ _ _ (nat_cmp_total.antisymm r q)
      (reverse_then _ _ _ _ (nat_list_cmp_total.antisymm (word_counts ds) (word_counts es)) (antisymm-daughters ds es))

  antisymm-daughters : (ds es : Daughters) → compare_daughters ds es ≡ ordering_reverse (compare_daughters es ds)
  antisymm-daughters no_more no_more = refl
  antisymm-daughters no_more (first e es) = refl
  antisymm-daughters (first d ds) no_more = refl
  antisymm-daughters (first d ds) (first e es) = reverse_then _ _ _ _ (antisymm-trees d e) (antisymm-daughters ds es)

mutual
  composes-trees : (a b c : Derivation) → Composes (compare_trees a b) (compare_trees b c) (compare_trees a c)
  composes-trees (lexical e rs ws ns) (lexical f qs vs ms) (lexical g ps us ls) =
      composes_then _ _ _ _ _ _ (composes_of nat_cmp_total (outermost e rs) (outermost f qs) (outermost g ps))
      (composes_then _ _ _ _ _ _ (composes_of nat_list_cmp_total (inwards e rs) (inwards f qs) (inwards g ps))
      (composes_then _ _ _ _ _ _ (composes_of texts_total ws vs us) (composes_of spans_total ns ms ls)))
  composes-trees (lexical e rs ws ns) (lexical f qs vs ms) (phrase p cs) =
      composes_then _ _ _ _ Less Less (composes_of nat_cmp_total (outermost e rs) (outermost f qs) p) (less_at_left _)
  composes-trees (lexical e rs ws ns) (phrase q es) (lexical g ps us ls) =
      composes_then _ _ _ Less Greater _ (composes_of nat_cmp_total (outermost e rs) q (outermost g ps)) (up_and_down _)
  composes-trees (lexical e rs ws ns) (phrase q es) (phrase p cs) =
      composes_then _ _ _ Less _ Less (composes_of nat_cmp_total (outermost e rs) q p) (less_at_right _)
  composes-trees (phrase r ds) (lexical f qs vs ms) (lexical g ps us ls) =
      composes_then _ _ _ Greater _ Greater (composes_of nat_cmp_total r (outermost f qs) (outermost g ps)) (greater_at_right _)
  composes-trees (phrase r ds) (lexical f qs vs ms) (phrase p cs) =
      composes_then _ _ _ Greater Less _ (composes_of nat_cmp_total r (outermost f qs) p) (down_and_up _)
  composes-trees (phrase r ds) (phrase q es) (lexical g ps us ls) =
      composes_then _ _ _ _ Greater Greater (composes_of nat_cmp_total r q (outermost g ps)) (greater_at_left _)
  composes-trees (phrase r ds) (phrase q es) (phrase p cs) =
      composes_then _ _ _ _ _ _ (composes_of nat_cmp_total r q p)
      (composes_then _ _ _ _ _ _ (composes_of nat_list_cmp_total (word_counts ds) (word_counts es) (word_counts cs)) (composes-daughters ds es cs))

  composes-daughters : (a b c : Daughters) → Composes (compare_daughters a b) (compare_daughters b c) (compare_daughters a c)
  composes-daughters no_more no_more no_more = (λ e _. e, λ _. refl, λ _. refl)
  composes-daughters no_more no_more (first c cs) = less_at_left Equal
  composes-daughters no_more (first b bs) no_more = up_and_down Equal
  composes-daughters no_more (first b bs) (first c cs) = less_at_right _
  composes-daughters (first a as') no_more no_more = greater_at_right Equal
  composes-daughters (first a as') no_more (first c cs) = down_and_up _
  composes-daughters (first a as') (first b bs) no_more = greater_at_left _
  composes-daughters (first a as') (first b bs) (first c cs) =
      composes_then _ _ _ _ _ _ (composes-trees a b c) (composes-daughters as' bs cs)

pub trees_total : IsTotalOrder compare_trees
trees_total = record {
  antisymm = antisymm-trees;
  trans = λ a b c. (composes-trees a b c).0;
  congr = λ a b c. (composes-trees a b c).1;
}

-- both answers tie where the two in turn do
both_tie : (o p : Ordering) → ordering_then o p ≡ Equal → (o ≡ Equal) × (p ≡ Equal)
both_tie Less p e = cc
both_tie Equal p e = (refl, e)
both_tie Greater p e = cc

nat_tie : (m n : ℕ) → nat_cmp m n ≡ Equal → m ≡ n
nat_tie m n e = grind (arith, nat_tests)

list_tie : {K : Type 0} (R : K → K → Ordering) → ((x y : K) → R x y ≡ Equal → x ≡ y) → (xs ys : List K) → slice_cmp R xs ys ≡ Equal → xs ≡ ys
list_tie R tie [] [] e = refl
list_tie R tie [] (y ∷ ys) e = cc
list_tie R tie (x ∷ xs) [] e = cc
list_tie R tie (x ∷ xs) (y ∷ ys) e =
    let both = both_tie (R x y) (slice_cmp R xs ys) e in
    let same = tie x y both.0 in
    let rest = list_tie R tie xs ys both.1 in
    cc

span_tie : (m n : Option (ℕ × ℕ)) → option_cmp compare_pairs m n ≡ Equal → m ≡ n
span_tie None None e = refl
span_tie None (Some n) e = cc
span_tie (Some m) None e = cc
span_tie (Some (a, b)) (Some (c, d)) e =
    let both = both_tie (nat_cmp a c) (nat_cmp b d) e in
    let from = nat_tie a c both.0 in
    let to = nat_tie b d both.1 in
    cc

nodes_tie : (e : ℕ) (rs : List ℕ) (f : ℕ) (qs : List ℕ) → inwards e rs ≡ inwards f qs → (e ∷ rs) ≡ (f ∷ qs)
nodes_tie e rs f qs same = sym (reverse-reverse (e ∷ rs)) ∙ ap reverse same ∙ reverse-reverse (f ∷ qs)

mutual
  tree_tie : (a b : Derivation) → compare_trees a b ≡ Equal → a ≡ b
  tree_tie (lexical e rs ws ns) (lexical f qs vs ms) h =
      let chains = slice_cmp nat_cmp (inwards e rs) (inwards f qs) in
      let texts = slice_cmp (slice_cmp nat_cmp) ws vs in
      let ends = option_cmp compare_pairs ns ms in
      let below = both_tie (nat_cmp (outermost e rs) (outermost f qs)) (ordering_then chains (ordering_then texts ends)) h in
      let words_on = both_tie chains (ordering_then texts ends) below.1 in
      let spans_on = both_tie texts ends words_on.1 in
      let nodes = nodes_tie e rs f qs (list_tie nat_cmp nat_tie (inwards e rs) (inwards f qs) words_on.0) in
      let words = list_tie (slice_cmp nat_cmp) (list_tie nat_cmp nat_tie) ws vs spans_on.0 in
      let spans = span_tie ns ms spans_on.1 in
      cc
  tree_tie (lexical e rs ws ns) (phrase q es) h = let last = (both_tie (nat_cmp (outermost e rs) q) Less h).1 in cc
  tree_tie (phrase r ds) (lexical f qs vs ms) h = let last = (both_tie (nat_cmp r (outermost f qs)) Greater h).1 in cc
  tree_tie (phrase r ds) (phrase q es) h =
      let counts = slice_cmp nat_cmp (word_counts ds) (word_counts es) in
      let both = both_tie (nat_cmp r q) (ordering_then counts (compare_daughters ds es)) h in
      let rule = nat_tie r q both.0 in
      let daughters = daughters_tie ds es (both_tie counts (compare_daughters ds es) both.1).1 in
      cc

  daughters_tie : (ds es : Daughters) → compare_daughters ds es ≡ Equal → ds ≡ es
  daughters_tie no_more no_more h = refl
  daughters_tie no_more (first e es) h = cc
  daughters_tie (first d ds) no_more h = cc
  daughters_tie (first d ds) (first e es) h =
      let both = both_tie (compare_trees d e) (compare_daughters ds es) h in
      let same = tree_tie d e both.0 in
      let rest = daughters_tie ds es both.1 in
      cc

pub trees_tie : (a b : Derivation) → (compare_trees a b ≡ Equal) ↔ (a ≡ b)
trees_tie a b = (tree_tie a b, λ e. subst (λ c. compare_trees a c ≡ Equal) e (tied_itself trees_total a))
