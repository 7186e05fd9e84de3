-- The order of makers is total, and makers that it does not tell apart are equal.
use Rattle.std.proofs.Common.{◌≡◌, ℕ, List, [], ◌∷◌, refl, ap, subst, ◌↔◌, arith}
use Rattle.std.proofs.lemmas.Bool.Decides.{nat_tests}
use Rattle.std.proofs.lemmas.Cmp.{nat_cmp_total, nat_list_cmp_total, on_total, then_total, tied_itself}
use Rattle.std.specs.declared.cmp.Ordering.{Ordering}
use Rattle.std.specs.declared.cmp.Ordering.TheVariants.{Less, Equal, Greater}
use Rattle.std.specs.Ordering.{ordering_then, ordering_reverse, nat_cmp, on, then_cmp}
use Rattle.std.specs.Cmp.{IsTotalOrder}
use Rattle.std.specs.Cmp.Lexicographic.{slice_cmp}
use Rattle.derivation.specs.Trees.{Derivation, lexical, phrase}
use Rattle.derivation.specs.Order.{compare_trees, compare_daughters, compare_pairs, inwards, outermost, word_counts}
use Rattle.std.specs.Option.{option_cmp}
use Rattle.derivation.proofs.Total.{trees_total, trees_tie}
use Rattle.line_charts.specs.Charts.{Maker, by_tree, by_rule, place_of, compare_makers}

-- the place of the outermost node
abbrev place : Maker → ℕ
place (by_tree t) = place_of t
place (by_rule rule ns) = rule

-- the order of makers of one place
abbrev within : Maker → Maker → Ordering
within (by_tree t) (by_tree u) = compare_trees t u
within (by_tree t) (by_rule rule ns) = Less
within (by_rule rule ns) (by_tree t) = Greater
within (by_rule rule ns) (by_rule other ms) = slice_cmp nat_cmp ns ms

within-antisymm : (a b : Maker) → within a b ≡ ordering_reverse (within b a)
within-antisymm (by_tree t) (by_tree u) = trees_total.antisymm t u
within-antisymm (by_tree t) (by_rule rule ns) = refl
within-antisymm (by_rule rule ns) (by_tree t) = refl
within-antisymm (by_rule rule ns) (by_rule other ms) = nat_list_cmp_total.antisymm ns ms

within-trans : (a b c : Maker) → within a b ≡ Less → within b c ≡ Less → within a c ≡ Less
within-trans (by_tree t) (by_tree u) (by_tree v) e f = trees_total.trans t u v e f
within-trans (by_tree t) (by_tree u) (by_rule rule ns) e f = refl
within-trans (by_tree t) (by_rule rule ns) (by_tree v) e f = cc
within-trans (by_tree t) (by_rule rule ns) (by_rule other ms) e f = refl
within-trans (by_rule rule ns) (by_tree u) c e f = cc
within-trans (by_rule rule ns) (by_rule other ms) (by_tree v) e f = cc
within-trans (by_rule rule ns) (by_rule other ms) (by_rule last ks) e f = nat_list_cmp_total.trans ns ms ks e f

within-congr : (a b c : Maker) → within a b ≡ Equal → within a c ≡ within b c
within-congr (by_tree t) (by_tree u) (by_tree v) e = trees_total.congr t u v e
within-congr (by_tree t) (by_tree u) (by_rule rule ns) e = refl
within-congr (by_tree t) (by_rule rule ns) c e = cc
within-congr (by_rule rule ns) (by_tree u) c e = cc
within-congr (by_rule rule ns) (by_rule other ms) (by_tree v) e = refl
within-congr (by_rule rule ns) (by_rule other ms) (by_rule last ks) e = nat_list_cmp_total.congr ns ms ks e

within_total : IsTotalOrder within
within_total = record { antisymm = within-antisymm; trans = within-trans; congr = within-congr }

again : (o p : Ordering) → ordering_then o (ordering_then o p) ≡ ordering_then o p
again Less p = refl
again Equal p = refl
again Greater p = refl

-- trees compare by their places first
trees_by_place : (t u : Derivation) → ordering_then (nat_cmp (place_of t) (place_of u)) (compare_trees t u) ≡ compare_trees t u
trees_by_place (lexical e rs ws ns) (lexical f qs vs ms) =
    again (nat_cmp (outermost e rs) (outermost f qs))
    (ordering_then (slice_cmp nat_cmp (inwards e rs) (inwards f qs)) (ordering_then (slice_cmp (slice_cmp nat_cmp) ws vs) (option_cmp compare_pairs ns ms)))
trees_by_place (lexical e rs ws ns) (phrase q es) = again (nat_cmp (outermost e rs) q) Less
trees_by_place (phrase r ds) (lexical f qs vs ms) = again (nat_cmp r (outermost f qs)) Greater
trees_by_place (phrase r ds) (phrase q es) =
    again (nat_cmp r q) (ordering_then (slice_cmp nat_cmp (word_counts ds) (word_counts es)) (compare_daughters ds es))

makers_by_place : (a b : Maker) → then_cmp (on place nat_cmp) within a b ≡ compare_makers a b
makers_by_place (by_tree t) (by_tree u) = trees_by_place t u
makers_by_place (by_tree t) (by_rule rule ns) = refl
makers_by_place (by_rule rule ns) (by_tree t) = refl
makers_by_place (by_rule rule ns) (by_rule other ms) = refl

pub makers_total : IsTotalOrder compare_makers
makers_total = subst IsTotalOrder (λ i a b. makers_by_place a b i) (then_total (on_total place nat_cmp_total) within_total)

-- both answers tie where the two in turn do
both_tie : (o p : Ordering) → ordering_then o p ≡ Equal → (o ≡ Equal) × (p ≡ Equal)
both_tie Less p e = cc
both_tie Equal p e = (refl, e)
both_tie Greater p e = cc

nat_tie : (m n : ℕ) → nat_cmp m n ≡ Equal → m ≡ n
nat_tie m n e = grind (arith, nat_tests)

list_tie : (ms ns : List ℕ) → slice_cmp nat_cmp ms ns ≡ Equal → ms ≡ ns
list_tie [] [] e = refl
list_tie [] (n ∷ ns) e = cc
list_tie (m ∷ ms) [] e = cc
list_tie (m ∷ ms) (n ∷ ns) e =
    let both = both_tie (nat_cmp m n) (slice_cmp nat_cmp ms ns) e in
    let same = nat_tie m n both.0 in
    let rest = list_tie ms ns both.1 in
    cc

maker_tie : (a b : Maker) → compare_makers a b ≡ Equal → a ≡ b
maker_tie (by_tree t) (by_tree u) e = ap by_tree ((trees_tie t u).0 e)
maker_tie (by_tree t) (by_rule rule ns) e = let last = (both_tie (nat_cmp (place_of t) rule) Less e).1 in cc
maker_tie (by_rule rule ns) (by_tree t) e = let last = (both_tie (nat_cmp rule (place_of t)) Greater e).1 in cc
maker_tie (by_rule rule ns) (by_rule other ms) e =
    let both = both_tie (nat_cmp rule other) (slice_cmp nat_cmp ns ms) e in
    let same = nat_tie rule other both.0 in
    let rest = list_tie ns ms both.1 in
    cc

pub makers_equal : (a b : Maker) → (compare_makers a b ≡ Equal) ↔ (a ≡ b)
makers_equal a b = (maker_tie a b, λ e. subst (λ c. compare_makers a c ≡ Equal) e (tied_itself makers_total a))
