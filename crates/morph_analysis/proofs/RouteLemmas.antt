-- The search outwards finds exactly the rules that lead to node 0 and make something.
use Rattle.std.proofs.Common.{ℕ, suc, ◌≡◌, ◌<◌, ◌≤◌, ◌-◌, ◌⊎◌, inl, inr, true, List, [], ◌∷◌, ◌++◌, length, Some, None, refl, sym, ◌∙◌, ap, subst, arith, length-append}
use Rattle.std.specs.List.{slice_get}
use Rattle.std.proofs.lemmas.List.{append-nil, append_assoc}
use Rattle.lexicon.specs.Words.{Word, Has}
use Rattle.morph_analysis.proofs.AddLemmas.{adds_like, adds_both, adds_none}
use Rattle.morph_analysis.specs.Allowed.{FeedsTree, in_table, may_go_on, IsAllowed, AreAllowedAfter}
use Rattle.morph_analysis.specs.Made.{MadeTree}
use Rattle.morph_analysis.specs.Spelled.{EdgeTree, NodeTree, node_at, Runs, stays, goes}
use Rattle.morph_analysis.specs.Inner.Adding.{AddsThose, OfSome, IsOf}
use Rattle.morph_analysis.specs.Inner.Routes.{AreWithin, IsRouteOf, IsOn, IsAlong, IsEnded, IsLonger}

after_more : (f : FeedsTree) (entry r : ℕ) (rs : List ℕ) (rule : ℕ) → AreAllowedAfter f r rs → may_go_on f entry (r ∷ rs) rule ≡ true → AreAllowedAfter f r (rs ++ rule ∷ [])
after_more f entry r [] rule a e = (e, tt)
after_more f entry r (q ∷ rs) rule a e = (a.0, after_more f entry q rs rule a.1 e)

after_less : (f : FeedsTree) (entry r : ℕ) (rs : List ℕ) (rule : ℕ) → AreAllowedAfter f r (rs ++ rule ∷ []) → AreAllowedAfter f r rs × (may_go_on f entry (r ∷ rs) rule ≡ true)
after_less f entry r [] rule a = (tt, a.0)
after_less f entry r (q ∷ rs) rule a = let k = after_less f entry q rs rule a.1 in ((a.0, k.0), k.1)

pub allowed_more : (f : FeedsTree) (entry : ℕ) (rules : List ℕ) (rule : ℕ) → IsAllowed f entry rules → may_go_on f entry rules rule ≡ true → IsAllowed f entry (rules ++ rule ∷ [])
allowed_more f entry [] rule a e = (e, tt)
allowed_more f entry (r ∷ rs) rule a e = (a.0, after_more f entry r rs rule a.1 e)

pub allowed_less : (f : FeedsTree) (entry : ℕ) (rules : List ℕ) (rule : ℕ) → IsAllowed f entry (rules ++ rule ∷ []) → IsAllowed f entry rules × (may_go_on f entry rules rule ≡ true)
allowed_less f entry [] rule a = (tt, a.0)
allowed_less f entry (r ∷ rs) rule a = let k = after_less f entry r rs rule a.1 in ((a.0, k.0), k.1)

pub follow_last : (f : FeedsTree) (entry : ℕ) (rules : List ℕ) (last rule : ℕ) → Some last ≡ slice_get rules (length rules - 1) → in_table f.on_rule last rule ≡ may_go_on f entry rules rule
follow_last f entry [] last rule e = absurd (let z : Some last ≡ None = e in cc)
follow_last f entry (r ∷ []) last rule e = let z : Some last ≡ Some r = e in ap (λ k. in_table f.on_rule k rule) (let q : last ≡ r = cc in q)
follow_last f entry (r ∷ q ∷ rs) last rule e =
    let k : length (r ∷ q ∷ rs) - 1 ≡ suc (length (q ∷ rs) - 1) = omega arith in
    follow_last f entry (q ∷ rs) last rule (e ∙ ap (slice_get (r ∷ q ∷ rs)) k)

module _ {V : Type 0} (nodes : List NodeTree) (A : ℕ → List ℕ → V → Type 0) (depth : ℕ) where
  -- a node that is too far from node 0
  pub too_far : AreWithin nodes → (rules : List ℕ) (e : EdgeTree) (entry : ℕ) → e.to < length nodes → depth - (node_at nodes e.to).distance ≤ length rules → (all : List ℕ) (v : V) → IsAlong nodes A depth rules e entry all v → ⊥
  too_far w rules e entry lt far all v on =
      let near = w.near on.more e.to lt on.runs in
      let whole = ap length on.is ∙ length-append (rules ++ e.rule ∷ []) on.more in
      let one = length-append rules (e.rule ∷ []) in
      omega (arith, near, whole, one, far, on.shallow)

  -- what is made with more rules is made of what is made with fewer
  module _ (inner : (entry : ℕ) (rules : List ℕ) (rule : ℕ) (v : V) → A entry (rules ++ rule ∷ []) v → (w : V) × A entry rules w) where
    inner_all : (entry : ℕ) (rules more : List ℕ) (v : V) → A entry (rules ++ more) v → (w : V) × A entry rules w
    inner_all entry rules [] v a = (v, subst (λ l. A entry l v) (append-nil rules) a)
    inner_all entry rules (r ∷ rs) v a =
        let z = inner_all entry (rules ++ r ∷ []) rs v (subst (λ l. A entry l v) (sym (append_assoc rules (r ∷ []) rs)) a) in
        inner entry rules r z.0 z.1

    pub none_along : (rules : List ℕ) (e : EdgeTree) (entry : ℕ) → ((v : V) → A entry (rules ++ e.rule ∷ []) v → ⊥) → (all : List ℕ) (v : V) → IsAlong nodes A depth rules e entry all v → ⊥
    none_along rules e entry none all v on =
        let z = inner_all entry (rules ++ e.rule ∷ []) on.more v (subst (λ l. A entry l v) on.is on.made) in none z.0 z.1

    pub none_begun : (start entry : ℕ) → ((v : V) → A entry [] v → ⊥) → (all : List ℕ) (v : V) → IsRouteOf nodes A depth start entry all v → ⊥
    none_begun start entry none all v r = let z = inner_all entry [] all v r.1 in none z.0 z.1

  -- what goes on from rules goes along an edge, or ends here
  along_or_ended : (rules : List ℕ) (node k entry : ℕ) (all : List ℕ) (v : V) (more : List ℕ) → k ≡ 0 → all ≡ rules ++ more → Runs nodes more node k → A entry all v → length all ≤ depth
      → ((e : EdgeTree) × Has e (node_at nodes node).edges × IsAlong nodes A depth rules e entry all v) ⊎ IsEnded A rules node entry all v
  along_or_ended rules node _ entry all v _ z is (stays _) a s = inr (record { there = z; is = is ∙ append-nil rules; made = a })
  along_or_ended rules node k entry all v _ z is (goes r rs _ m _ lt h run) a s =
      inl (record { rule = r; to = m }, h, record { more = rs; is = is ∙ sym (append_assoc rules (r ∷ []) rs); runs = subst (λ q. Runs nodes rs m q) z run; made = a; shallow = s })

  pub along_on : (rules : List ℕ) (node entry : ℕ) (all : List ℕ) (v : V) (e : EdgeTree) → node < length nodes → Has e (node_at nodes node).edges → IsAlong nodes A depth rules e entry all v → IsOn nodes A depth rules node entry all v
  along_on rules node entry all v e lt h on = record {
    more = e.rule ∷ on.more;
    is = on.is ∙ append_assoc rules (e.rule ∷ []) on.more;
    runs = goes e.rule on.more node e.to 0 lt h on.runs;
    made = on.made;
    shallow = on.shallow;
  }

  pub ended_on : (rules : List ℕ) (node entry : ℕ) (all : List ℕ) (v : V) → length rules ≤ depth → IsEnded A rules node entry all v → IsOn nodes A depth rules node entry all v
  ended_on rules node entry all v le d = record {
    more = [];
    is = d.is ∙ sym (append-nil rules);
    runs = subst (λ n. Runs nodes [] n 0) (sym d.there) (stays 0);
    made = d.made;
    shallow = subst (λ l. length l ≤ depth) (sym d.is) le;
  }

  module _ (E F : ℕ → Type 0) (words : List Word) (to : ℕ) where
    abbrev Along : List ℕ → EdgeTree → MadeTree V → Type 0
    Along rules e = IsOf E (IsAlong nodes A depth rules e) F words to

    -- the chains along all edges of a node, and the one that ends there
    pub all_on : (rules : List ℕ) (node : ℕ) (xs ys zs : List (MadeTree V)) → node < length nodes → length rules ≤ depth → AddsThose (OfSome (Along rules) (node_at nodes node).edges) xs ys
        → AddsThose (IsOf E (IsEnded A rules node) F words to) ys zs → AddsThose (IsOf E (IsOn nodes A depth rules node) F words to) xs zs
    all_on rules node xs ys zs lt le a b =
        adds_both (OfSome (Along rules) (node_at nodes node).edges) (IsOf E (IsEnded A rules node) F words to) (IsOf E (IsOn nodes A depth rules node) F words to) xs ys zs split along ended a b
      where
        split : (c : MadeTree V) → IsOf E (IsOn nodes A depth rules node) F words to c → OfSome (Along rules) (node_at nodes node).edges c ⊎ IsOf E (IsEnded A rules node) F words to c
        split c p =
            elim (along_or_ended rules node 0 c.chain.entry c.chain.rules c.value p.rules.more refl p.rules.is p.rules.runs p.rules.made p.rules.shallow) [
              | inl k ↦ inl (k.0, k.1, record { entry = p.entry; rules = k.2; from = p.from; words_are = p.words_are; to_is = p.to_is })
              | inr k ↦ inr (record { entry = p.entry; rules = k; from = p.from; words_are = p.words_are; to_is = p.to_is })
            ]

        along : (c : MadeTree V) → OfSome (Along rules) (node_at nodes node).edges c → IsOf E (IsOn nodes A depth rules node) F words to c
        along c o = record {
          entry = o.2.entry;
          rules = along_on rules node c.chain.entry c.chain.rules c.value o.0 lt o.1 o.2.rules;
          from = o.2.from;
          words_are = o.2.words_are;
          to_is = o.2.to_is;
        }

        ended : (c : MadeTree V) → IsOf E (IsEnded A rules node) F words to c → IsOf E (IsOn nodes A depth rules node) F words to c
        ended c p = record {
          entry = p.entry;
          rules = ended_on rules node c.chain.entry c.chain.rules c.value le p.rules;
          from = p.from;
          words_are = p.words_are;
          to_is = p.to_is;
        }

    -- one route with a rule more
    pub on_longer : (rules longer : List ℕ) (e : EdgeTree) (entry node : ℕ) (v : V) (xs ys : List (MadeTree V)) → IsLonger A depth rules e entry longer node v
        → AddsThose (IsOf E (IsOn nodes A depth longer node) F words to) xs ys → AddsThose (Along rules e) xs ys
    on_longer rules longer e entry node v xs ys h a =
        subst (λ l. AddsThose (IsOf E (IsOn nodes A depth l e.to) F words to) xs ys) h.is (subst (λ n. AddsThose (IsOf E (IsOn nodes A depth longer n) F words to) xs ys) h.node_is a)

    -- from the entry's word on
    pub on_begun : (start : ℕ) (xs ys : List (MadeTree V)) → AddsThose (IsOf E (IsOn nodes A depth [] start) F words to) xs ys → AddsThose (IsOf E (IsRouteOf nodes A depth start) F words to) xs ys
    on_begun start xs ys a =
        adds_like (IsOf E (IsOn nodes A depth [] start) F words to) (IsOf E (IsRouteOf nodes A depth start) F words to) xs ys
        (λ c p. record { entry = p.entry; rules = (subst (λ l. Runs nodes l start 0) (sym p.rules.is) p.rules.runs, p.rules.made, p.rules.shallow); from = p.from; words_are = p.words_are; to_is = p.to_is })
        (λ c p. record { entry = p.entry; rules = record { more = c.chain.rules; is = refl; runs = p.rules.0; made = p.rules.1; shallow = p.rules.2 }; from = p.from; words_are = p.words_are; to_is = p.to_is }) a

  -- where nothing goes along an edge, nothing is added
  pub no_along : (entry : ℕ) (F : ℕ → Type 0) (words : List Word) (to : ℕ) (rules : List ℕ) (e : EdgeTree) (xs : List (MadeTree V)) → ((all : List ℕ) (v : V) → IsAlong nodes A depth rules e entry all v → ⊥)
      → AddsThose (IsOf (λ x. x ≡ entry) (IsAlong nodes A depth rules e) F words to) xs xs
  no_along entry F words to rules e xs never =
      adds_none (IsOf (λ x. x ≡ entry) (IsAlong nodes A depth rules e) F words to) xs (λ c p. never c.chain.rules c.value (subst (λ x. IsAlong nodes A depth rules e x c.chain.rules c.value) p.entry p.rules))

  pub no_begun : (entry : ℕ) (F : ℕ → Type 0) (words : List Word) (to start : ℕ) (xs : List (MadeTree V)) → ((all : List ℕ) (v : V) → IsRouteOf nodes A depth start entry all v → ⊥)
      → AddsThose (IsOf (λ x. x ≡ entry) (IsRouteOf nodes A depth start) F words to) xs xs
  no_begun entry F words to start xs never =
      adds_none (IsOf (λ x. x ≡ entry) (IsRouteOf nodes A depth start) F words to) xs (λ c p. never c.chain.rules c.value (subst (λ x. IsRouteOf nodes A depth start x c.chain.rules c.value) p.entry p.rules))
