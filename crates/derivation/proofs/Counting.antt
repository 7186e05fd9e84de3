-- The numbers of words that phrases hold.
use Rattle.std.proofs.Common.{◌≡◌, ◌<◌, ◌≤◌, ◌==◌, ◌&&◌, ◌+◌, ◌-◌, ◌^◌, take, ℕ, Bool, true, false, IsTrue, List, [], ◌∷◌, length, map, min, get_or, zero, suc, Vec, Global, refl, sym, ap, subst, ◌∙◌, arith}
use Rattle.std.proofs.lemmas.Bool.Decides.{nat_tests}
use Rattle.std.proofs.lemmas.List.{length-map}
use Rattle.std.proofs.lemmas.List.Sums.{sum_by-cons, sum_by_more}
use Rattle.std.specs.Arc.{arc_value}
use Rattle.std.specs.declared.sync.Arc.{Arc}
use Rattle.std.specs.String.{string_bytes}
use Rattle.std.specs.declared.cmp.Ordering.TheVariants.{Greater}
use Rattle.std.specs.Ordering.{nat_cmp}
use Rattle.derivation.specs.Trees.{Derivation}
use Rattle.derivation.specs.Order.{word_count}
use Rattle.derivation.specs.Views.{node_of}
use Rattle.derivation.specs.Counts.{word_count_of, words_of}
use Rattle.derivation.specs.Counted.{counted, counted_node, words_among, are_right, held, IsCounted, AreCounted}
use Rattle.derivation.specs.declared.Tree.{Tree}
use Rattle.derivation.specs.declared.Tree.TheVariants.{Lexical, Phrase, rolls-Lexical, rolls-Phrase}
use Rattle.derivation.specs.declared.Tree.TheOpen.{Tree-F}
use Rattle.derivation.specs.declared.Tree.TheOpen as open_tree
use Rattle.derivation.specs.declared.Tree.TheViews.{roll-Tree}
use Rattle.derivation.specs.declared.Tree.TheFolds.{fold-roll-Tree, ind-Tree, map-Tree}
use Rattle.derivation.proofs.Weights.{words-in_order, word_count-Phrase}

-- what is counted at a tree is its number of words
abbrev IsCount : Tree → Type 0
IsCount t = (counted t).0 ≡ word_count_of t

among_is : (es : List ((t : Tree) × IsCount t)) → words_among (map counted (map (λ e. e.0) es)) ≡ words_of (map (λ e. e.0) es)
among_is [] = refl
among_is (e ∷ es) =
    ap (λ n. n + words_among (map counted (map (λ d. d.0) es))) e.1 ∙ ap (λ n. word_count_of e.0 + n) (among_is es)
    ∙ sym (sum_by-cons word_count_of e.0 (map (λ d. d.0) es))

abbrev IsSame : Tree-F Tree → Type 0
IsSame (open_tree.Lexical entry rules words nodes) = Unit {0}
IsSame (open_tree.Phrase rule words daughters) = words_among (map counted (arc_value daughters).items) ≡ words_of (arc_value daughters).items

same_held : (y : Tree-F ((t : Tree) × IsCount t)) → IsSame (map-Tree ((t : Tree) × IsCount t) Tree (λ e. e.0) y)
same_held (open_tree.Lexical entry rules words nodes) = tt
same_held (open_tree.Phrase rule words daughters) = among_is (arc_value daughters).items

rolled : (x : Tree-F Tree) → IsSame x → IsCount (roll-Tree x)
rolled (open_tree.Lexical entry rules words nodes) h =
    ap (λ (p : ℕ × Bool). p.0) (fold-roll-Tree (ℕ × Bool) counted_node (Tree-F.Lexical entry rules words nodes))
    ∙ sym (length-map (arc_value words).items string_bytes)
    ∙ sym (ap word_count (fold-roll-Tree Derivation node_of (Tree-F.Lexical entry rules words nodes)))
rolled (open_tree.Phrase rule words daughters) h =
    ap (λ (p : ℕ × Bool). p.0) (fold-roll-Tree (ℕ × Bool) counted_node (Tree-F.Phrase rule words daughters))
    ∙ h ∙ sym (words-in_order (arc_value daughters).items)
    ∙ sym (ap word_count (fold-roll-Tree Derivation node_of (Tree-F.Phrase rule words daughters)))

pub count_is : (t : Tree) → (counted t).0 ≡ word_count_of t
count_is = ind-Tree IsCount (λ x y is. rolled x (subst IsSame is (same_held y)))

counted-Phrase : (rule words : ℕ) (daughters : Arc (Vec Tree Global) Global) →
    (counted (Phrase rule words daughters)).1
    ≡ (words == held (words_among (map counted (arc_value daughters).items)) && are_right (map counted (arc_value daughters).items))
counted-Phrase rule words daughters =
    ap (λ t. (counted t).1) (sym (rolls-Phrase rule words daughters))
    ∙ ap (λ (p : ℕ × Bool). p.1) (fold-roll-Tree (ℕ × Bool) counted_node (Tree-F.Phrase rule words daughters))

pub counted-Lexical : (tree : Tree) (entry : ℕ) (rules : Arc (Vec ℕ Global) Global) (words : _) (nodes : _) → tree ≡ Lexical entry rules words nodes → IsCounted tree
counted-Lexical tree entry rules words nodes is =
    ap (λ t. (counted t).1) (is ∙ sym (rolls-Lexical entry rules words nodes))
    ∙ ap (λ (p : ℕ × Bool). p.1) (fold-roll-Tree (ℕ × Bool) counted_node (Tree-F.Lexical entry rules words nodes))

among : (ts : List Tree) → words_among (map counted ts) ≡ words_of ts
among [] = refl
among (t ∷ ts) = ap (λ n. n + words_among (map counted ts)) (count_is t) ∙ ap (λ n. word_count_of t + n) (among ts) ∙ sym (sum_by-cons word_count_of t ts)

and_true : (a b : Bool) → IsTrue (a && b) → IsTrue a × IsTrue b
and_true true b h = (refl, h)
and_true false b h = cc

right_all : (ts : List Tree) → IsTrue (are_right (map counted ts)) → AreCounted ts
right_all [] h = tt
right_all (t ∷ ts) h =
    let both = and_true (counted t).1 (are_right (map counted ts)) h in
    (both.0, right_all ts both.1)

true_and : (a b : Bool) → IsTrue a → IsTrue b → IsTrue (a && b)
true_and true true p q = refl
true_and true false p q = cc
true_and false b p q = cc

all_right : (ts : List Tree) → AreCounted ts → IsTrue (are_right (map counted ts))
all_right [] h = refl
all_right (t ∷ ts) h = true_and (counted t).1 (are_right (map counted ts)) h.0 (all_right ts h.1)

-- what a phrase holds, where it is right
pub opened : (tree : Tree) (rule words : ℕ) (daughters : Arc (Vec Tree Global) Global) → tree ≡ Phrase rule words daughters → IsCounted tree →
    (words ≡ held (word_count_of tree)) × AreCounted (arc_value daughters).items
opened tree rule words daughters is h =
    let items = (arc_value daughters).items in
    let right : IsTrue (words == held (words_among (map counted items)) && are_right (map counted items)) =
    sym (counted-Phrase rule words daughters) ∙ ap (λ t. (counted t).1) (sym is) ∙ h in
    let both = and_true (words == held (words_among (map counted items))) (are_right (map counted items)) right in
    let same : words ≡ held (words_among (map counted items)) = grind (arith, nat_tests, both.0) in
    (same ∙ ap held (among items ∙ sym (word_count-Phrase rule words daughters) ∙ ap word_count_of (sym is)), right_all items both.1)

pub closed : (rule words : ℕ) (daughters : Arc (Vec Tree Global) Global) → AreCounted (arc_value daughters).items → words ≡ held (words_of (arc_value daughters).items) →
    IsCounted (Phrase rule words daughters)
closed rule words daughters all is =
    let items = (arc_value daughters).items in
    let same : words ≡ held (words_among (map counted items)) = is ∙ ap held (sym (among items)) in
    let test : IsTrue (words == held (words_among (map counted items))) = grind (arith, nat_tests, same) in
    counted-Phrase rule words daughters ∙ true_and (words == held (words_among (map counted items))) (are_right (map counted items)) test (all_right items all)

-- one of several
pub counted_at : (ts : List Tree) (k : ℕ) (d : Tree) → AreCounted ts → k < length ts → IsCounted (get_or ts k d)
counted_at [] k d h lt = absurd (omega arith)
counted_at (t ∷ ts) zero d h lt = h.0
counted_at (t ∷ ts) (suc k) d h lt = counted_at ts k d h.1 (omega arith)

-- one more
pub count_more : (ts : List Tree) (k : ℕ) (t : Tree) (a b r : ℕ) → k < length ts → t ≡ get_or ts k t →
    (AreCounted ts → a ≡ held (words_of (take k ts))) → (IsCounted t → b ≡ held (word_count_of t)) → r ≡ min (a + b) (2 ^ 64 - 1) →
    AreCounted ts → r ≡ held (words_of (take (k + 1) ts))
count_more ts k t a b r lt at before this is all =
    let p = before all in
    let q = this (subst IsCounted (sym at) (counted_at ts k t all lt)) ∙ ap (λ u. held (word_count_of u)) at in
    let more = sum_by_more word_count_of ts k t lt in
    omega (arith, p, q, is, more)

-- numbers that are held tell which tree has more words, but for two that are as great as can be
pub by_held_first : (a b m n : ℕ) → a ≡ held m → b ≡ held n → a < 2 ^ 64 - 1 → nat_cmp a b ≡ nat_cmp m n
by_held_first a b m n p q lt = grind (arith, nat_tests, p, q, lt)

pub by_held_second : (a b m n : ℕ) → a ≡ held m → b ≡ held n → 2 ^ 64 - 1 ≤ a → b < 2 ^ 64 - 1 → Greater ≡ nat_cmp m n
by_held_second a b m n p q le lt = grind (arith, nat_tests, p, q, le, lt)
