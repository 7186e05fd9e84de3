-- The groups of a last word are the entries that end with it.
use Rattle.std.proofs.Common.{ℕ, ◌≡◌, ◌<◌, ◌⊎◌, ◌&&◌, inl, inr, true, false, cond, List, [], ◌∷◌, ◌++◌, length, map, filter, refl, sym, ◌∙◌, ap, subst, arith}
use Rattle.std.specs.Str.{bytes_eq}
use Rattle.lexicon.specs.Words.{Word, Has}
use Rattle.lexicon.specs.Entries.{EntryTree, same_words, with_words, last_word}
use Rattle.lexicon.specs.Groups.{GroupTree, found, AreApart, AreGroupsOf}
use Rattle.morph_analysis.proofs.Lists.{bools, true_not_false, Each-at, Has-map}
use Rattle.morph_analysis.proofs.Lists.{filter_has, has_filter, has_map}
use Rattle.morph_analysis.proofs.AddLemmas.{adds_like}
use Rattle.morph_analysis.specs.Chains.{HaveWords}
use Rattle.morph_analysis.specs.Made.{MadeTree}
use Rattle.morph_analysis.specs.Lattices.{StepTree}
use Rattle.morph_analysis.specs.Spelled.{NodeTree, node_at}
use Rattle.morph_analysis.specs.Inner.Adding.{AddsThose, OfSome, OfWords, OfNode}
use Rattle.std.proofs.lemmas.Slice.Eq.{bytes_eq-Decides}

same_same : (a b : List Word) → same_words a b ≡ true → a ≡ b
same_same [] [] e = refl
same_same [] (y ∷ ys) e = true_not_false false e refl
same_same (x ∷ xs) [] e = true_not_false false e refl
same_same (x ∷ xs) (y ∷ ys) e = go (bools (bytes_eq x y)) (same_same xs ys)
  where
    go : (bytes_eq x y ≡ true) ⊎ (bytes_eq x y ≡ false) → (same_words xs ys ≡ true → xs ≡ ys) → x ∷ xs ≡ y ∷ ys
    go (inl t) more = ap (λ z. z ∷ xs) ((bytes_eq-Decides x y).0 t) ∙ ap (λ l. y ∷ l) (more (sym (ap (λ b. b && same_words xs ys) t) ∙ e))
    go (inr f) more = true_not_false (bytes_eq x y && same_words xs ys) e (ap (λ b. b && same_words xs ys) f)

same_self : (a : List Word) → same_words a a ≡ true
same_self [] = refl
same_self (x ∷ xs) = ap (λ b. b && same_words xs xs) ((bytes_eq-Decides x x).1 refl) ∙ same_self xs

found_has : (gs : List GroupTree) (words : List Word) (e : ℕ) → Has e (found gs words) → (g : GroupTree) × Has g gs × (g.words ≡ words) × Has e g.entries
found_has [] words e h = absurd h
found_has (g ∷ gs) words e h = go (bools (same_words g.words words)) (found_has gs words e)
  where
    go : (same_words g.words words ≡ true) ⊎ (same_words g.words words ≡ false) → (Has e (found gs words) → (k : GroupTree) × Has k gs × (k.words ≡ words) × Has e k.entries)
        → (k : GroupTree) × Has k (g ∷ gs) × (k.words ≡ words) × Has e k.entries
    go (inl t) more = (g, inl refl, same_same g.words words t, subst (λ b. Has e (cond b g.entries (found gs words))) t h)
    go (inr f) more = let r = more (subst (λ b. Has e (cond b g.entries (found gs words))) f h) in (r.0, inr r.1, r.2, r.3)

has_found : (gs : List GroupTree) (g : GroupTree) (e : ℕ) → AreApart gs → Has g gs → Has e g.entries → Has e (found gs g.words)
has_found [] g e apart h k = absurd h
has_found (x ∷ xs) g e apart (inl q) k =
    subst (λ b. Has e (cond b x.entries (found xs g.words))) (sym (ap (λ y. same_words y.words g.words) (sym q) ∙ same_self g.words)) (subst (λ y. Has e y.entries) q k)
has_found (x ∷ xs) g e apart (inr h) k =
    subst (λ b. Has e (cond b x.entries (found xs g.words))) (sym (Each-at (λ y. same_words x.words y.words ≡ false) g xs apart.0 h)) (has_found xs g e apart.1 h k)

entry_has : (lexicon : List EntryTree) (words : List Word) (e : ℕ) → Has e (with_words lexicon words) → Has (record { number = e; words = words }) lexicon
entry_has lexicon words e h =
    let m = has_map (λ (x : EntryTree). x.number) e (filter (λ x. same_words x.words words) lexicon) h in
    let f = has_filter (λ x. same_words x.words words) m.0 lexicon m.1 in
    subst (λ x. Has x lexicon) (ap (λ n. let k : EntryTree = record { number = n; words = m.0.words } in k) (sym m.2) ∙ ap (λ w. let k : EntryTree = record { number = e; words = w } in k) (same_same m.0.words words f.1)) f.0

has_entry : (lexicon : List EntryTree) (words : List Word) (e : ℕ) → Has (record { number = e; words = words }) lexicon → Has e (with_words lexicon words)
has_entry lexicon words e h =
    Has-map (λ (x : EntryTree). x.number) (record { number = e; words = words }) (filter (λ x. same_words x.words words) lexicon)
    (filter_has (λ x. same_words x.words words) (record { number = e; words = words }) lexicon h (same_self words))

last_snoc : (front : List Word) (last : Word) → last_word (front ++ last ∷ []) ≡ last
last_snoc [] last = refl
last_snoc (x ∷ []) last = refl
last_snoc (x ∷ y ∷ ys) last = last_snoc (y ∷ ys) last

-- a chain of one of the groups of a node's word is one of an entry that ends with it
pub group_node : {V : Type 0} (lexicon : List EntryTree) (nodes : List NodeTree) (A : ℕ → List ℕ → V → Type 0) (depth : ℕ) (steps : List StepTree) (s : StepTree) (n : ℕ) (groups : List GroupTree) → AreGroupsOf lexicon (node_at nodes n).word groups → (c : MadeTree V)
    → OfSome (OfWords nodes A depth steps s n) groups c → OfNode lexicon nodes A depth steps s n c
group_node lexicon nodes A depth steps s n groups are c o =
    let g = o.0 in
    let w = o.2 in
    let last : last_word g.words ≡ (node_at nodes n).word = Each-at (λ g. last_word g.words ≡ (node_at nodes n).word) g groups are.only o.1 in
    let is : w.last ≡ (node_at nodes n).word = sym (last_snoc w.front w.last) ∙ ap last_word (sym w.split) ∙ last in
    let h : Has c.chain.entry (with_words lexicon g.words) = subst (Has c.chain.entry) (are.all g.words last) (has_found groups g c.chain.entry are.apart o.1 w.rest.entry) in
    record {
      front = w.front;
      entry = subst (λ l. Has (record { number = c.chain.entry; words = l }) lexicon) (w.split ∙ ap (λ x. w.front ++ x ∷ []) is) (entry_has lexicon g.words c.chain.entry h);
      rest = record { entry = refl; rules = w.rest.rules; from = w.rest.from; words_are = w.rest.words_are; to_is = w.rest.to_is };
    }

-- the chains of the groups of a node's word are those of entries that end with it
pub of_node : {V : Type 0} (lexicon : List EntryTree) (nodes : List NodeTree) (A : ℕ → List ℕ → V → Type 0) (depth : ℕ) (steps : List StepTree) (s : StepTree) (n : ℕ) (groups : List GroupTree) (xs ys : List (MadeTree V)) → AreGroupsOf lexicon (node_at nodes n).word groups
    → AddsThose (OfSome (OfWords nodes A depth steps s n) groups) xs ys → AddsThose (OfNode lexicon nodes A depth steps s n) xs ys
of_node {V} lexicon nodes A depth steps s n groups xs ys are a = adds_like (OfSome (OfWords nodes A depth steps s n) groups) (OfNode lexicon nodes A depth steps s n) xs ys (group_node lexicon nodes A depth steps s n groups are) back a
  where
    back : (c : MadeTree V) → OfNode lexicon nodes A depth steps s n c → OfSome (OfWords nodes A depth steps s n) groups c
    back c o =
        let words : List Word = o.front ++ (node_at nodes n).word ∷ [] in
        let h : Has c.chain.entry (found groups words) = subst (Has c.chain.entry) (sym (are.all words (last_snoc o.front (node_at nodes n).word))) (has_entry lexicon words c.chain.entry o.entry) in
        let g = found_has groups words c.chain.entry h in
        (g.0, g.1, record { front = o.front; last = (node_at nodes n).word; split = g.2; rest = record { entry = g.3; rules = o.rest.rules; from = o.rest.from; words_are = o.rest.words_are; to_is = o.rest.to_is } })

-- where no entry has no words, each has one
pub have_words : (lexicon : List EntryTree) → with_words lexicon [] ≡ [] → HaveWords lexicon
have_words [] e = tt
have_words (x ∷ xs) e = go (bools (same_words x.words [])) (have_words xs)
  where
    some : (ws : List Word) → same_words ws [] ≡ false → 0 < length ws
    some [] f = true_not_false (same_words [] []) refl f
    some (w ∷ ws) f = omega arith

    go : (same_words x.words [] ≡ true) ⊎ (same_words x.words [] ≡ false) → (with_words xs [] ≡ [] → HaveWords xs) → HaveWords (x ∷ xs)
    go (inl t) more = absurd (let k : x.number ∷ with_words xs [] ≡ [] = sym (ap (λ b. map (λ (y : EntryTree). y.number) (cond b (x ∷ filter (λ y. same_words y.words []) xs) (filter (λ y. same_words y.words []) xs))) t) ∙ e in cc)
    go (inr f) more = (some x.words f, more (sym (ap (λ b. map (λ (y : EntryTree). y.number) (cond b (x ∷ filter (λ y. same_words y.words []) xs) (filter (λ y. same_words y.words []) xs))) f) ∙ e))
