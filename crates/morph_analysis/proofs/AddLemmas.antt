-- What calls add to lists.
use Rattle.std.proofs.Common.{ℕ, ◌≡◌, ◌⊎◌, inl, inr, List, [], ◌∷◌, ◌++◌, refl, sym, ◌∙◌, ap, subst}
use Rattle.lexicon.specs.Words.{Word, Has}
use Rattle.morph_analysis.proofs.Lists.{Has-left, Has-right, Has-snoc}
use Rattle.morph_analysis.specs.Chains.{ChainTree}
use Rattle.morph_analysis.specs.Made.{MadeTree}
use Rattle.morph_analysis.specs.Lattices.{StepTree, AreFronts}
use Rattle.morph_analysis.specs.Spelled.{NodeTree, IsSpelled}
use Rattle.morph_analysis.specs.Inner.Adding.{AddsThose, OfSome, IsOf, OfGroup, OfWords}
use Rattle.morph_analysis.specs.Inner.Routes.{AreWithin, IsEnded, IsRouteOf}
use Rattle.spelling_rules.specs.Trees.{SpellingTree}
use Rattle.lexicon.specs.Groups.{GroupTree}

pub adds_none : {X : Type 0} (P : X → Type 0) (xs : List X) → ((x : X) → P x → ⊥) → AddsThose P xs xs
adds_none P xs never = record { kept = λ x h. h; added = λ x p. absurd (never x p); only = λ x h. inl h }

pub adds_one : {X : Type 0} (P : X → Type 0) (xs ys : List X) (x : X) → ys ≡ xs ++ x ∷ [] → P x → ((y : X) → P y → y ≡ x) → AddsThose P xs ys
adds_one P xs ys x e p one = record {
  kept = λ y h. subst (Has y) (sym e) (Has-left y xs (x ∷ []) h);
  added = λ y q. subst (Has y) (sym e) (Has-right y xs (x ∷ []) (inl (one y q)));
  only = λ y h. elim (Has-snoc y x xs (subst (Has y) e h)) [ inl k ↦ inl k | inr q ↦ inr (subst P (sym q) p) ];
}

pub adds_like : {X : Type 0} (P Q : X → Type 0) (xs ys : List X) → ((x : X) → P x → Q x) → ((x : X) → Q x → P x) → AddsThose P xs ys → AddsThose Q xs ys
adds_like P Q xs ys f g a = record {
  kept = a.kept;
  added = λ x q. a.added x (g x q);
  only = λ x h. elim (a.only x h) [ inl k ↦ inl k | inr p ↦ inr (f x p) ];
}

-- two calls add what the one and what the other adds
pub adds_both : {X : Type 0} (P Q R : X → Type 0) (xs ys zs : List X) → ((x : X) → R x → P x ⊎ Q x) → ((x : X) → P x → R x) → ((x : X) → Q x → R x) → AddsThose P xs ys → AddsThose Q ys zs → AddsThose R xs zs
adds_both P Q R xs ys zs split left right a b = record {
  kept = λ x h. b.kept x (a.kept x h);
  added = λ x r. elim (split x r) [ inl p ↦ b.kept x (a.added x p) | inr q ↦ b.added x q ];
  only = λ x h. elim (b.only x h) [ inl k ↦ (elim (a.only x k) [ inl m ↦ inl m | inr p ↦ inr (left x p) ]) | inr q ↦ inr (right x q) ];
}

-- one more element of a list has added what it adds
pub some_more : {A X : Type 0} (R : A → X → Type 0) (before after : List A) (a : A) (xs ys zs : List X) → after ≡ before ++ a ∷ [] → AddsThose (OfSome R before) xs ys → AddsThose (R a) ys zs → AddsThose (OfSome R after) xs zs
some_more R before after a xs ys zs e p q = record {
  kept = λ x h. q.kept x (p.kept x h);
  added = λ x o. elim (Has-snoc o.0 a before (subst (Has o.0) e o.1)) [ inl k ↦ q.kept x (p.added x (o.0, k, o.2)) | inr s ↦ q.added x (subst (λ b. R b x) s o.2) ];
  only = λ x h.
      elim (q.only x h) [
        | inl k ↦ (elim (p.only x k) [ inl m ↦ inl m | inr o ↦ inr (o.0, subst (Has o.0) (sym e) (Has-left o.0 before (a ∷ []) o.1), o.2) ])
        | inr r ↦ inr (a, subst (Has a) (sym e) (Has-right a before (a ∷ []) (inl refl)), r)
      ];
}

pub some_none : {A X : Type 0} (R : A → X → Type 0) (xs : List X) → AddsThose (OfSome R []) xs xs
some_none R xs = adds_none (OfSome R []) xs (λ x o. absurd o.1)

-- chains with the same parts are one
pub chain_same : (c d : ChainTree) → c.from ≡ d.from → c.to ≡ d.to → c.entry ≡ d.entry → c.rules ≡ d.rules → c.words ≡ d.words → c ≡ d
chain_same c d f t e r w =
    ap (λ v. let k : ChainTree = record { entry = c.entry; rules = c.rules; words = c.words; from = v; to = c.to } in k) f
    ∙ ap (λ v. let k : ChainTree = record { entry = c.entry; rules = c.rules; words = c.words; from = d.from; to = v } in k) t
    ∙ ap (λ v. let k : ChainTree = record { entry = v; rules = c.rules; words = c.words; from = d.from; to = d.to } in k) e
    ∙ ap (λ v. let k : ChainTree = record { entry = d.entry; rules = v; words = c.words; from = d.from; to = d.to } in k) r
    ∙ ap (λ v. let k : ChainTree = record { entry = d.entry; rules = d.rules; words = v; from = d.from; to = d.to } in k) w

-- one chain with what is made of it, where only one thing is
pub one_ended : {V : Type 0} (A : ℕ → List ℕ → V → Type 0) (one : (entry : ℕ) (rules : List ℕ) (v w : V) → A entry rules v → A entry rules w → v ≡ w) (entry node : ℕ) (rules : List ℕ) (v : V) (words : List Word) (from to : ℕ) (x : MadeTree V) (xs ys : List (MadeTree V))
    → ys ≡ xs ++ x ∷ [] → x ≡ record { chain = record { entry = entry; rules = rules; words = words; from = from; to = to }; value = v } → node ≡ 0 → A entry rules v → AddsThose (IsOf (λ e. e ≡ entry) (IsEnded A rules node) (λ m. m ≡ from) words to) xs ys
one_ended {V} A one entry node rules v words from to x xs ys e is zero a =
    adds_one (IsOf (λ e. e ≡ entry) (IsEnded A rules node) (λ m. m ≡ from) words to) xs ys this (e ∙ ap (λ c. xs ++ c ∷ []) is)
    (record { entry = refl; rules = record { there = zero; is = refl; made = a }; from = refl; words_are = refl; to_is = refl })
    same
  where
    this : MadeTree V
    this = record { chain = record { entry = entry; rules = rules; words = words; from = from; to = to }; value = v }

    same : (y : MadeTree V) → IsOf (λ e. e ≡ entry) (IsEnded A rules node) (λ m. m ≡ from) words to y → y ≡ this
    same y p =
        let chain : y.chain ≡ this.chain = chain_same y.chain this.chain p.from p.to_is p.entry p.rules.is p.words_are in
        let made : A entry rules y.value = subst (λ r. A entry r y.value) p.rules.is (subst (λ n. A n y.chain.rules y.value) p.entry p.rules.made) in
        let value : y.value ≡ v = one entry rules y.value v made a in
        λ i. record { chain = chain i; value = value i }

pub not_ended : {V : Type 0} (A : ℕ → List ℕ → V → Type 0) (entry node : ℕ) (rules : List ℕ) (words : List Word) (from to : ℕ) (xs : List (MadeTree V)) → (node ≡ 0 → ⊥) → AddsThose (IsOf (λ e. e ≡ entry) (IsEnded A rules node) (λ m. m ≡ from) words to) xs xs
not_ended A entry node rules words from to xs far = adds_none (IsOf (λ e. e ≡ entry) (IsEnded A rules node) (λ m. m ≡ from) words to) xs (λ c p. far p.rules.there)

-- the loops over first nodes and entries
pub of_froms : {V : Type 0} (E : ℕ → Type 0) (R : ℕ → List ℕ → V → Type 0) (froms : List ℕ) (words : List Word) (to : ℕ) (xs ys : List (MadeTree V))
    → AddsThose (OfSome (λ m. IsOf E R (λ k. k ≡ m) words to) froms) xs ys → AddsThose (IsOf E R (λ k. Has k froms) words to) xs ys
of_froms E R froms words to xs ys a =
    adds_like (OfSome (λ m. IsOf E R (λ k. k ≡ m) words to) froms) (IsOf E R (λ k. Has k froms) words to) xs ys
    (λ c o. record { entry = o.2.entry; rules = o.2.rules; from = subst (λ m. Has m froms) (sym o.2.from) o.1; words_are = o.2.words_are; to_is = o.2.to_is })
    (λ c p. (c.chain.from, p.from, record { entry = p.entry; rules = p.rules; from = refl; words_are = p.words_are; to_is = p.to_is })) a

pub of_entries : {V : Type 0} (nodes : List NodeTree) (A : ℕ → List ℕ → V → Type 0) (depth : ℕ) (steps : List StepTree) (s : StepTree) (n : ℕ) (front words : List Word) (entries froms : List ℕ) (xs ys : List (MadeTree V)) → AreFronts steps front s.from froms
    → words ≡ front ++ s.word ∷ [] → AddsThose (OfSome (λ a. IsOf (λ e. e ≡ a) (IsRouteOf nodes A depth n) (λ m. Has m froms) words s.to) entries) xs ys → AddsThose (OfGroup nodes A depth steps s n front (λ e. Has e entries)) xs ys
of_entries nodes A depth steps s n front words entries froms xs ys are w a =
    adds_like (OfSome (λ a. IsOf (λ e. e ≡ a) (IsRouteOf nodes A depth n) (λ m. Has m froms) words s.to) entries) (OfGroup nodes A depth steps s n front (λ e. Has e entries)) xs ys
    (λ c o. record { entry = subst (λ e. Has e entries) (sym o.2.entry) o.1; rules = o.2.rules; from = are.have c.chain.from o.2.from; words_are = o.2.words_are ∙ w; to_is = o.2.to_is })
    (λ c p. (c.chain.entry, p.entry, record { entry = refl; rules = p.rules; from = are.all c.chain.from p.from; words_are = p.words_are ∙ sym w; to_is = p.to_is })) a

pub no_fronts : {V : Type 0} (nodes : List NodeTree) (A : ℕ → List ℕ → V → Type 0) (depth : ℕ) (steps : List StepTree) (s : StepTree) (n : ℕ) (front : List Word) (E : ℕ → Type 0) (froms : List ℕ) (xs : List (MadeTree V)) → AreFronts steps front s.from froms → froms ≡ []
    → AddsThose (OfGroup nodes A depth steps s n front E) xs xs
no_fronts nodes A depth steps s n front E froms xs are e = adds_none (OfGroup nodes A depth steps s n front E) xs (λ c p. absurd (subst (Has c.chain.from) e (are.all c.chain.from p.from)))

-- the words of a group
snoc_same : (a b : List Word) (x y : Word) → a ++ x ∷ [] ≡ b ++ y ∷ [] → (a ≡ b) × (x ≡ y)
snoc_same [] [] x y e = (refl, let k : x ≡ y = cc in k)
snoc_same [] (c ∷ cs) x y e = absurd (empty cs y (let k : [] ≡ cs ++ y ∷ [] = cc in k))
  where
    empty : (cs : List Word) (y : Word) → [] ≡ cs ++ y ∷ [] → ⊥
    empty [] y e = cc
    empty (d ∷ ds) y e = cc
snoc_same (c ∷ cs) [] x y e = absurd (empty cs x (let k : cs ++ x ∷ [] ≡ [] = cc in k))
  where
    empty : (cs : List Word) (y : Word) → cs ++ y ∷ [] ≡ [] → ⊥
    empty [] y e = cc
    empty (d ∷ ds) y e = cc
snoc_same (c ∷ cs) (d ∷ ds) x y e =
    let h : c ≡ d = cc in
    let t : cs ++ x ∷ [] ≡ ds ++ y ∷ [] = cc in
    let r = snoc_same cs ds x y t in
    (ap (λ z. z ∷ cs) h ∙ ap (λ l. d ∷ l) r.0, r.1)

pub of_words : {V : Type 0} (nodes : List NodeTree) (A : ℕ → List ℕ → V → Type 0) (depth : ℕ) (steps : List StepTree) (s : StepTree) (n : ℕ) (g : GroupTree) (front : List Word) (last : Word) (xs ys : List (MadeTree V)) → g.words ≡ front ++ last ∷ []
    → AddsThose (OfGroup nodes A depth steps s n front (λ e. Has e g.entries)) xs ys → AddsThose (OfWords nodes A depth steps s n g) xs ys
of_words nodes A depth steps s n g front last xs ys e a =
    adds_like (OfGroup nodes A depth steps s n front (λ e. Has e g.entries)) (OfWords nodes A depth steps s n g) xs ys
    (λ c o. record { front = front; last = last; split = e; rest = o })
    (λ c p. subst (λ l. OfGroup nodes A depth steps s n l (λ e. Has e g.entries) c) ((snoc_same p.front front p.last last (sym p.split ∙ e)).0) p.rest) a

pub no_words : {V : Type 0} (nodes : List NodeTree) (A : ℕ → List ℕ → V → Type 0) (depth : ℕ) (steps : List StepTree) (s : StepTree) (n : ℕ) (g : GroupTree) (xs : List (MadeTree V)) → g.words ≡ [] → AddsThose (OfWords nodes A depth steps s n g) xs xs
no_words nodes A depth steps s n g xs e = adds_none (OfWords nodes A depth steps s n g) xs (λ c p. none p.front p.last (sym e ∙ p.split))
  where
    none : (front : List Word) (last : Word) → [] ≡ front ++ last ∷ [] → ⊥
    none [] last q = cc
    none (x ∷ xs) last q = cc

-- what a graph's clauses give the search outwards
pub within : (s : SpellingTree) (word : Word) (depth : ℕ) (nodes : List NodeTree) → IsSpelled s word depth nodes → AreWithin nodes
within s word depth nodes p = record { edges = λ n e lt h. (p.forms n e.rule e.to lt h).0; near = p.near }
