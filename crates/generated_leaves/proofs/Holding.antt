-- What a bag holds is what lies in it.
use Rattle.std.specs.Prelude.{◌≡◌, ◌≤◌, nat_le, Bool, true, false, List, [], ◌∷◌}
use Rattle.std.proofs.Common.{refl, sym, ◌∙◌, subst, arith}
use Rattle.std.proofs.lemmas.Bool.{leb-true}
use Rattle.std.specs.Cmp.Lexicographic.{bytes_decides}
use Rattle.std.specs.Str.{bytes_eq}
use Rattle.chart_model.specs.Lists.{all_within}
use Rattle.generate_model.specs.Bags.{Word, LiesIn, count, is_among, all_among, distinct, tally, bag_of, holds}
use Rattle.generate_model.proofs.BagLemmas.{tally_within, lies_among, among_some, among_all, and_both}

count_below : (w : Word) (ps xs ys : List Word) → is_among w ps ≡ true → all_within (tally ps xs) (tally ps ys) ≡ true → count w xs ≤ count w ys
count_below w [] xs ys h e = absurd (cc)
count_below w (p ∷ ps) xs ys h e = by_test (bytes_eq w p) refl (λ k. count_below w ps xs ys k both.1)
  where
    both : (nat_le (count p xs) (count p ys) ≡ true) × (all_within (tally ps xs) (tally ps ys) ≡ true)
    both = and_both (nat_le (count p xs) (count p ys)) (all_within (tally ps xs) (tally ps ys)) e

    by_test : (b : Bool) → bytes_eq w p ≡ b → (is_among w ps ≡ true → count w xs ≤ count w ys) → count w xs ≤ count w ys
    by_test true t go = let same : w ≡ p = (bytes_decides w p).0 t in subst (λ v. count v xs ≤ count v ys) (sym same) (leb-true (count p xs) (count p ys) both.0)
    by_test false t go = go (let q : is_among w (p ∷ ps) ≡ is_among w ps = rw t refl in sym q ∙ h)

pub held_among : (ws bag : List Word) → holds (bag_of bag) ws ≡ true → all_among ws (distinct bag) ≡ true
held_among ws bag h = (and_both (all_among ws (distinct bag)) (all_within (tally (distinct bag) ws) (tally (distinct bag) bag)) h).0

pub held_within : (ws bag : List Word) → holds (bag_of bag) ws ≡ true → all_within (tally (distinct bag) ws) (tally (distinct bag) bag) ≡ true
held_within ws bag h = (and_both (all_among ws (distinct bag)) (all_within (tally (distinct bag) ws) (tally (distinct bag) bag)) h).1

pub held_lies : (ws bag : List Word) → holds (bag_of bag) ws ≡ true → LiesIn ws bag
held_lies ws bag h w = by_test (is_among w ws) refl
  where
    by_test : (b : Bool) → is_among w ws ≡ b → count w ws ≤ count w bag
    by_test true t = count_below w (distinct bag) ws bag (among_all w ws (distinct bag) (held_among ws bag h) t) (held_within ws bag h)
    by_test false t = let z = among_some w ws t in omega (arith, z)

pub lies_held : (ws bag : List Word) → LiesIn ws bag → holds (bag_of bag) ws ≡ true
lies_held ws bag h = rw (lies_among ws bag h, tally_within (distinct bag) ws bag h) refl

pub within_held : (ws bag : List Word) → all_among ws (distinct bag) ≡ true → all_within (tally (distinct bag) ws) (tally (distinct bag) bag) ≡ true → holds (bag_of bag) ws ≡ true
within_held ws bag a b = rw (a, b) refl
