-- The places of a grammar's entries, lexical rules and phrase rules.
use Rattle.std.proofs.Common.{ℕ, zero, suc, ◌≡◌, ◌+◌, ◌<◌, ◌≤◌, Bool, true, false, cond, List, [], ◌∷◌, length, map, Some, refl, sym, ◌∙◌, ap, subst, arith}
use Rattle.std.specs.Prelude.{option_map, slice_get}
use Rattle.std.proofs.lemmas.List.{length-map}
use Rattle.fs_model.specs.Claims.{Has, here, there}
use Rattle.chart_model.specs.At.{At, here as at_here, there as at_there, to_get}
use Rattle.tree_model.specs.Mothers.{Rule}
use Rattle.tree_model.specs.Signs.{Kind, an_entry, a_lexical_rule, Instance, Signs, is_phrase_rule, phrase_rules, placed_rules, place_at, rule_system}
use Rattle.lexical_items.specs.Places.{ArePlaces}
use Rattle.book_signs.specs.Trees.{places_where, kinds_of, is_entry, is_lexical_rule, entries_of, lexical_rules_of, phrase_rules_of, HasArity, HaveArities, rule_at}
use Rattle.book_signs.proofs.KindLemmas.{kinded, has_kind, entry_kind, lexical_kind, phrase_places}
use Rattle.rule_trees.specs.Mothers.{HasDaughters}

pub has_at : {A : Type 0} (xs : List A) (n : ℕ) (x : A) → At xs n x → Has x xs
has_at [] n x a = elim a [ ]
has_at (_ ∷ xs) _ x at_here = here
has_at (y ∷ xs) (suc n) x (at_there a) = there (has_at xs n x a)

at_has : {A : Type 0} (xs : List A) (x : A) → Has x xs → (n : ℕ) × At xs n x
at_has [] x h = elim h [ ]
at_has (_ ∷ xs) x here = (0, at_here)
at_has (y ∷ xs) x (there h) = let r = at_has xs x h in (suc r.0, at_there r.1)

-- places are counted from p, and rise
low : (test : Kind → Bool) (p : ℕ) (ks : List Kind) (n a : ℕ) → slice_get (places_where test p ks) n ≡ Some a → p ≤ a
low test p [] n a h = absurd (cc)
low test p (k ∷ ks) n a h = by_test (test k) (λ m g. low test (p + 1) ks m a g) n h
  where
    by_test : (b : Bool) → ((m : ℕ) → slice_get (places_where test (p + 1) ks) m ≡ Some a → p + 1 ≤ a) → (m : ℕ) → slice_get (cond b (p ∷ places_where test (p + 1) ks) (places_where test (p + 1) ks)) m ≡ Some a → p ≤ a
    by_test true go zero g = let z : p ≡ a = cc in omega (arith, z)
    by_test true go (suc m) g = let z = go m g in omega (arith, z)
    by_test false go m g = let z = go m g in omega (arith, z)

rises : (test : Kind → Bool) (p : ℕ) (ks : List Kind) (n m a b : ℕ) → slice_get (places_where test p ks) n ≡ Some a → slice_get (places_where test p ks) m ≡ Some b → n < m → a < b
rises test p [] n m a b h g lt = absurd (cc)
rises test p (k ∷ ks) n m a b h g lt = by_test (test k) (λ i j x y l. rises test (p + 1) ks i j a b x y l) (λ j y. low test (p + 1) ks j b y) n m h g lt
  where
    by_test : (c : Bool) → ((i j : ℕ) → slice_get (places_where test (p + 1) ks) i ≡ Some a → slice_get (places_where test (p + 1) ks) j ≡ Some b → i < j → a < b) → ((j : ℕ) → slice_get (places_where test (p + 1) ks) j ≡ Some b → p + 1 ≤ b)
        → (n m : ℕ) → slice_get (cond c (p ∷ places_where test (p + 1) ks) (places_where test (p + 1) ks)) n ≡ Some a → slice_get (cond c (p ∷ places_where test (p + 1) ks) (places_where test (p + 1) ks)) m ≡ Some b → n < m → a < b
    by_test true go more n zero x y l = absurd (omega (arith, l))
    by_test true go more zero (suc m) x y l = let e : p ≡ a = cc in let z = more m y in omega (arith, e, z)
    by_test true go more (suc n) (suc m) x y l = go n m x y (omega (arith, l))
    by_test false go more n m x y l = go n m x y l

-- instances by their places among those of a kind
record OfKind (g : Signs) (test : Kind → Bool) (place : ℕ) : Type 0 where
  instance : Instance
  at : slice_get g.instances place ≡ Some instance
  is : test instance.kind ≡ true

of_kind : (g : Signs) (test : Kind → Bool) (place : ℕ) → Has place (places_where test 0 (kinds_of g)) → OfKind g test place
of_kind g test place has =
    let k = kinded test 0 place g.instances has in
    record { instance = k.instance; at = ap (slice_get g.instances) (k.place_is ∙ omega arith) ∙ k.at; is = k.kind }

pub record Entry (g : Signs) (place : ℕ) : Type 0 where
  pub instance : Instance
  pub at : slice_get g.instances place ≡ Some instance
  pub kind : instance.kind ≡ an_entry

pub entry_at : (g : Signs) (place : ℕ) → Has place (entries_of g) → Entry g place
entry_at g place has = let k = of_kind g is_entry place has in record { instance = k.instance; at = k.at; kind = entry_kind k.instance.kind k.is }

pub record LexicalRule (g : Signs) (place : ℕ) : Type 0 where
  pub instance : Instance
  pub at : slice_get g.instances place ≡ Some instance
  pub kind : instance.kind ≡ a_lexical_rule
  pub single : length instance.rule.places ≡ 1

pub lexical_at : (g : Signs) (place : ℕ) → HaveArities g → Has place (lexical_rules_of g) → LexicalRule g place
lexical_at g place arities has =
    let k = of_kind g is_lexical_rule place has in
    let kind = lexical_kind k.instance.kind k.is in
    record { instance = k.instance; at = k.at; kind = kind; single = subst (λ q. HasArity q (length k.instance.rule.places)) kind (arities place k.instance k.at) }

-- one daughter under a lexical rule
pub one_daughter : (g : Signs) (place : ℕ) → HaveArities g → Has place (lexical_rules_of g) → HasDaughters g place 1
one_daughter g place arities has = let r = lexical_at g place arities has in record { instance = r.instance; at = r.at; arity = r.single }

same_kind : (test : Kind → Bool) (k l : Kind) → k ≡ l → test l ≡ true → test k ≡ true
same_kind test k l e h = ap test e ∙ h

pub entry_places : (g : Signs) → ArePlaces g an_entry (entries_of g)
entry_places g = record {
  each = λ n p a. let e = entry_at g p (has_at (entries_of g) n p a) in (e.instance, e.at, e.kind);
  all = λ p i at kind. at_has (entries_of g) p (subst (λ q. Has q (entries_of g)) (omega arith) (has_kind is_entry 0 p g.instances i at (same_kind is_entry i.kind an_entry kind refl)));
  rising = λ n m p q a b l. rises is_entry 0 (kinds_of g) n m p q (to_get a) (to_get b) l;
}

pub lexical_places : (g : Signs) → ArePlaces g a_lexical_rule (lexical_rules_of g)
lexical_places g = record {
  each = λ n p a. let k = of_kind g is_lexical_rule p (has_at (lexical_rules_of g) n p a) in (k.instance, k.at, lexical_kind k.instance.kind k.is);
  all = λ p i at kind. at_has (lexical_rules_of g) p (subst (λ q. Has q (lexical_rules_of g)) (omega arith) (has_kind is_lexical_rule 0 p g.instances i at (same_kind is_lexical_rule i.kind a_lexical_rule kind refl)));
  rising = λ n m p q a b l. rises is_lexical_rule 0 (kinds_of g) n m p q (to_get a) (to_get b) l;
}

-- a rule of a chart by its number
record Placed (p : ℕ) (instances : List Instance) (n : ℕ) : Type 0 where
  place : ℕ
  offset : ℕ
  place_is : place ≡ p + offset
  instance : Instance
  at : slice_get instances offset ≡ Some instance
  found : slice_get (phrase_rules p instances) n ≡ Some (place, instance.rule)

placed : (p : ℕ) (is : List Instance) (n : ℕ) → n < length (phrase_rules p is) → Placed p is n
placed p [] n l = absurd (omega (arith, l))
placed p (i ∷ is) n l = by_kind (is_phrase_rule i.kind) refl (λ m k. placed (p + 1) is m k) n l
  where
    shifted : (n m : ℕ) → slice_get (phrase_rules p (i ∷ is)) n ≡ slice_get (phrase_rules (p + 1) is) m → Placed (p + 1) is m → Placed p (i ∷ is) n
    shifted n m e z = record { place = z.place; offset = suc z.offset; place_is = z.place_is ∙ omega arith; instance = z.instance; at = z.at; found = e ∙ z.found }

    by_kind : (b : Bool) → is_phrase_rule i.kind ≡ b → ((m : ℕ) → m < length (phrase_rules (p + 1) is) → Placed (p + 1) is m) → (n : ℕ) → n < length (phrase_rules p (i ∷ is)) → Placed p (i ∷ is) n
    by_kind true e go zero h = record { place = p; offset = 0; place_is = omega arith; instance = i; at = refl; found = rw e refl }
    by_kind true e go (suc m) h = shifted (suc m) m (rw e refl) (go m (let z = rw e at h in omega (arith, z)))
    by_kind false e go n h = shifted n n (rw e refl) (go n (rw e at h))

mapped_get : {A B : Type 0} (f : A → B) (xs : List A) (n : ℕ) (x : A) → slice_get xs n ≡ Some x → slice_get (map f xs) n ≡ Some (f x)
mapped_get f [] n x e = absurd (cc)
mapped_get f (y ∷ xs) zero x e = let z : y ≡ x = cc in ap (λ w. Some (f w)) z
mapped_get f (y ∷ xs) (suc n) x e = mapped_get f xs n x e

-- a phrase rule by its number, as an instance
pub record Phrase (g : Signs) (rule : ℕ) : Type 0 where
  pub place : ℕ
  pub instance : Instance
  pub at : slice_get g.instances place ≡ Some instance
  pub numbered : slice_get (phrase_rules_of g) rule ≡ Some place
  pub place_is : place_at (slice_get (placed_rules g) rule) ≡ place
  pub rule_is : slice_get (rule_system g).rules rule ≡ Some instance.rule
  pub rule_there : rule_at g place ≡ Some instance.rule

pub phrase_at : (g : Signs) (rule : ℕ) → rule < length (rule_system g).rules → Phrase g rule
phrase_at g rule l =
    let z = placed 0 g.instances rule (let n = length-map (placed_rules g) (λ (r : ℕ × Rule). r.1) in omega (arith, n, l)) in
    let at : slice_get g.instances z.place ≡ Some z.instance = ap (slice_get g.instances) (z.place_is ∙ omega arith) ∙ z.at in
    record {
      place = z.place;
      instance = z.instance;
      at = at;
      numbered = ap (λ ps. slice_get ps rule) (phrase_places 0 g.instances) ∙ mapped_get (λ (r : ℕ × Rule). r.0) (placed_rules g) rule (z.place, z.instance.rule) z.found;
      place_is = ap place_at z.found;
      rule_is = mapped_get (λ (r : ℕ × Rule). r.1) (placed_rules g) rule (z.place, z.instance.rule) z.found;
      rule_there = ap (option_map (λ (i : Instance). i.rule)) at;
    }

pub phrases_long : (g : Signs) → length (phrase_rules_of g) ≡ length (rule_system g).rules
phrases_long g = ap length (phrase_places 0 g.instances) ∙ length-map (placed_rules g) (λ (r : ℕ × Rule). r.0) ∙ sym (length-map (placed_rules g) (λ (r : ℕ × Rule). r.1))
