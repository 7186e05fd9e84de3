-- The walk over a tree: each open phrase is the next daughter of the one before it.
use Rattle.std.proofs.Common.{ℕ, zero, suc, ◌≡◌, ◌+◌, ◌<◌, ◌≤◌, List, [], ◌∷◌, ◌++◌, length, map, take, drop, refl, sym, ap, subst, ◌∙◌, arith}
use Rattle.std.specs.Prelude.{Some, slice_get}
use Rattle.std.proofs.lemmas.List.{length-map, drop_more, take_all}
use Rattle.std.proofs.lemmas.List.Sums.{sum_by_push}
use Rattle.std.proofs.lemmas.Option.{slice_get_within, get_or_from_slice_get}
use Rattle.derivation.specs.Trees.{Derivation, lexical, phrase}
use Rattle.derivation.specs.Views.{derivation_of, in_order}
use Rattle.derivation.proofs.Weights.{weight, weights}
use Rattle.tree_model.specs.Structures.{Structure}
use Rattle.tree_model.specs.Signs.{Signs}
use Rattle.tree_model.specs.Trees.{Full, Fulls, no_fulls, more_fulls, full_phrase}
use Rattle.tree_structures.specs.declared.opened.Opened.{Opened}
use Rattle.tree_structures.specs.Formed.{IsFormed, AreFormed}
use Rattle.tree_structures.specs.Known.{AreAt, none_at, numbers_of}
use Rattle.tree_structures.specs.Inner.Stays.{Extends}
use Rattle.tree_structures.specs.Inner.Walks.{daughters_in, open_tree, IsNext, IsBegun, IsBelow, rest_of, left_in, left_above, left_of}
use Rattle.tree_structures.proofs.Keeping.{take_get, at_on, at_push}

pub next_low : (o : Opened) (d : Derivation) → IsNext o d → o.known.count < length o.daughters.now
next_low o d n = let low = slice_get_within (daughters_in o) o.known.count d n in let long = length-map o.daughters.now derivation_of in omega (arith, low, long)

pub down : (whole : Derivation) (os : List Opened) (last new : Opened) → IsBelow whole os last → IsNext last (open_tree new) → IsBelow whole (os ++ last ∷ []) new
down whole [] last new h n = (open_tree new, h, n, refl)
down whole (o ∷ os) last new h n = (h.0, h.1, h.2, down h.0 os last new h.3 n)

pub up : (whole : Derivation) (os : List Opened) (o last : Opened) → IsBelow whole (os ++ o ∷ []) last → IsBelow whole os o × IsNext o (open_tree last)
up whole [] o last h = (h.1, subst (IsNext o) h.3 h.2)
up whole (x ∷ os) o last h = let rest = up h.0 os o last h.3 in ((h.0, h.1, h.2, rest.0), rest.1)

pub along : (whole : Derivation) (os : List Opened) (a b : Opened) → IsBelow whole os a → open_tree a ≡ open_tree b → IsBelow whole os b
along whole [] a b h is = h ∙ is
along whole (o ∷ os) a b h is = (h.0, h.1, h.2, along h.0 os a b h.3 is)

pub same_tree : (a b : Opened) → a.rule ≡ b.rule → a.daughters.now ≡ b.daughters.now → open_tree a ≡ open_tree b
same_tree a b r d = ap (λ rule. phrase rule (in_order (daughters_in a))) r ∙ ap (λ ts. phrase b.rule (in_order (map derivation_of ts))) d

module _ (g : Signs) where
  formed_next : (ds : List Derivation) (k : ℕ) (d : Derivation) → slice_get ds k ≡ Some d → AreFormed g (in_order ds) → IsFormed g d
  formed_next [] k d e h = absurd (cc)
  formed_next (x ∷ xs) zero d e h = let same : x ≡ d = cc in subst (IsFormed g) same h.0
  formed_next (x ∷ xs) (suc k) d e h = formed_next xs k d e h.1

  pub next_formed : (o : Opened) (d : Derivation) → IsNext o d → IsFormed g (open_tree o) → IsFormed g d
  next_formed o d n formed = formed_next (daughters_in o) o.known.count d n formed.1

  pub below_formed : (whole : Derivation) (os : List Opened) (last : Opened) → IsBelow whole os last → IsFormed g whole → IsFormed g (open_tree last)
  below_formed whole [] last h formed = subst (IsFormed g) h formed
  below_formed whole (o ∷ os) last h formed =
      let here : IsFormed g (open_tree o) = subst (IsFormed g) h.1 formed in
      below_formed h.0 os last h.3 (formed_next (daughters_in o) o.known.count h.0 h.2 here.1)

  full_next : (ds : List Derivation) (fs : List Structure) (k : ℕ) (d : Derivation) → slice_get ds k ≡ Some d → Fulls g (in_order ds) fs → (f : Structure) × Full g d f
  full_next [] _ k d e no_fulls = absurd (cc)
  full_next (x ∷ xs) _ zero d e (more_fulls {f = f} a all) = let same : x ≡ d = cc in (f, subst (λ y. Full g y f) same a)
  full_next (x ∷ xs) _ (suc k) d e (more_fulls {fs = fs} a all) = full_next xs fs k d e all

  pub daughter_full : (o : Opened) (d : Derivation) (f : Structure) → IsNext o d → Full g (open_tree o) f → (h : Structure) × Full g d h
  daughter_full o d f n (full_phrase fs all p) = full_next (daughters_in o) fs o.known.count d n all

  -- where the whole has a structure, so has what is open
  pub below_full : (whole : Derivation) (os : List Opened) (last : Opened) (f : Structure) → IsBelow whole os last → Full g whole f → (h : Structure) × Full g (open_tree last) h
  below_full whole [] last f h full = (f, subst (λ d. Full g d f) h full)
  below_full whole (o ∷ os) last f h full =
      let below = daughter_full o h.0 f h.2 (subst (λ d. Full g d f) h.1 full) in
      below_full h.0 os last below.0 h.3 below.1

  push : (ds : List Derivation) (d : Derivation) (fs : List Structure) (f : Structure) → Fulls g (in_order ds) fs → Full g d f → Fulls g (in_order (ds ++ d ∷ [])) (fs ++ f ∷ [])
  push [] d _ f no_fulls x = more_fulls x no_fulls
  push (e ∷ ds) d _ f (more_fulls {fs = fs} a all) x = more_fulls a (push ds d fs f all x)

  module _ (ss : List Structure) where
    -- a phrase that was just opened
    pub begun_new : (o : Opened) → o.known.count ≡ 0 → IsBegun g ss o
    begun_new o none = record {
      within = omega (arith, none);
      fulls = [];
      at = subst (λ k. AreAt ss (take k (o.known.a ∷ o.known.b ∷ o.known.c ∷ o.known.d ∷ [])) []) (sym none) none_at;
      full = subst (λ k. Fulls g (in_order (take k (daughters_in o))) []) (sym none) no_fulls;
    }

    -- one daughter more
    pub begun_more : (o new : Opened) (d : Derivation) (n : ℕ) (f : Structure) → IsBegun g ss o → IsNext o d → slice_get ss n ≡ Some f → Full g d f → new.daughters.now ≡ o.daughters.now →
        numbers_of new.known ≡ numbers_of o.known ++ n ∷ [] → new.known.count ≡ o.known.count + 1 → IsBegun g ss new
    begun_more o new d n f begun next at full same numbers count =
        let low = next_low o d next in
        let long : length new.daughters.now ≡ length o.daughters.now = ap length same in
        let fulls : Fulls g (in_order (take (o.known.count + 1) (daughters_in o))) (begun.fulls ++ f ∷ []) =
        subst (λ ds. Fulls g (in_order ds) (begun.fulls ++ f ∷ [])) (sym (take_get (daughters_in o) o.known.count d next)) (push (take o.known.count (daughters_in o)) d begun.fulls f begun.full full) in
        record {
          within = omega (arith, low, long, count);
          fulls = begun.fulls ++ f ∷ [];
          at = subst (λ ns. AreAt ss ns (begun.fulls ++ f ∷ [])) (sym numbers) (at_push ss (numbers_of o.known) begun.fulls n f begun.at at);
          full = subst (λ k. Fulls g (in_order (take k (daughters_in new))) (begun.fulls ++ f ∷ [])) (sym count)
              (subst (λ ts. Fulls g (in_order (take (o.known.count + 1) (map derivation_of ts))) (begun.fulls ++ f ∷ [])) (sym same) fulls);
        }

    -- all daughters
    pub begun_all : (o : Opened) (begun : IsBegun g ss o) → length o.daughters.now ≤ o.known.count → Fulls g (in_order (daughters_in o)) begun.fulls
    begun_all o begun all =
        let long = length-map o.daughters.now derivation_of in
        subst (λ ds. Fulls g (in_order ds) begun.fulls) (take_all o.known.count (daughters_in o) (omega (arith, long, all))) begun.full

  pub begun_on : (old new : List Structure) → Extends old new → (o : Opened) → IsBegun g old o → IsBegun g new o
  begun_on old new grow o begun = record { within = begun.within; fulls = begun.fulls; at = at_on old new grow (numbers_of o.known) begun.fulls begun.at; full = begun.full }

some_weight : (d : Derivation) → 0 < weight d
some_weight (lexical entry rules words nodes) = omega arith
some_weight (phrase rule ds) = omega arith

rest_next : (o : Opened) (d : Derivation) → IsNext o d → left_in o ≡ weight d + left_above o
rest_next o d n =
    let cut = drop_more (daughters_in o) o.known.count d (slice_get_within (daughters_in o) o.known.count d n) in
    let is = get_or_from_slice_get (daughters_in o) o.known.count d d n in
    let whole : rest_of o.known.count o ≡ weight d + rest_of (o.known.count + 1) o = ap (λ ds. weights (in_order ds)) cut ∙ ap (λ x. weight x + rest_of (o.known.count + 1) o) is in
    omega (arith, whole)

pub down_less : (os : List Opened) (o new : Opened) → IsNext o (open_tree new) → new.known.count ≡ 0 → left_of (os ++ o ∷ []) new < left_of os o
down_less os o new n none =
    let more = sum_by_push left_above os o in
    let here = rest_next o (open_tree new) n in
    let inner : rest_of new.known.count new ≡ weights (in_order (daughters_in new)) = ap (λ k. rest_of k new) none in
    omega (arith, more, here, inner)

rest_same : (a b : Opened) → a.daughters.now ≡ b.daughters.now → (k j : ℕ) → k ≡ j → rest_of k a ≡ rest_of j b
rest_same a b d k j e = ap (λ i. rest_of i a) e ∙ ap (λ ts. weights (in_order (drop j (map derivation_of ts)))) d

pub leaf_less : (os : List Opened) (o new : Opened) (d : Derivation) → IsNext o d → new.daughters.now ≡ o.daughters.now → new.known.count ≡ o.known.count + 1 → left_of os new < left_of os o
leaf_less os o new d n same count =
    let here = rest_next o d n in
    let some = some_weight d in
    let on = rest_same new o same new.known.count (o.known.count + 1) count in
    omega (arith, here, some, on)

pub up_less : (os : List Opened) (above o new : Opened) → new.daughters.now ≡ above.daughters.now → new.known.count ≡ above.known.count + 1 → left_of os new < left_of (os ++ above ∷ []) o
up_less os above o new same count =
    let more = sum_by_push left_above os above in
    let on = rest_same new above same new.known.count (above.known.count + 1) count in
    omega (arith, more, on)
