-- The elements in the order in which they are listed, and the first pairs.
use Rattle.std.proofs.Common.{◌≡◌, ℕ, zero, suc, ◌<◌, ◌∙◌, List, [], ◌∷◌, ◌++◌, append_assoc, map, length, slice_index, ap, sym, subst, arith}
use Rattle.std.specs.List.{swap}
use Rattle.std.specs.List.Sorted.{IsPermutation}
use Rattle.std.proofs.lemmas.List.Sorted.{IsPermutation-trans, IsPermutation-map, IsPermutation-swap}
use Rattle.mrs_model.specs.declared.Ep.{Ep}
use Rattle.mrs_model.specs.declared.Hcon.{Hcon}
use Rattle.mrs_model.specs.declared.Icon.{Icon}
use Rattle.mrs_model.specs.declared.Mrs.{Mrs}
use Rattle.mrs_model.specs.declared.keyed.Keyed.{Keyed}
use Rattle.mrs_model.specs.declared.bindings.Pair.{Pair}
use Rattle.mrs_model.specs.Meanings.{Variable}
use Rattle.mrs_model.specs.Renaming.{unspanned}
use Rattle.mrs_model.specs.Views.{predication_of, hcon_of, icon_of, meaning_of}
use Rattle.mrs_model.specs.Inner.Bindings.{Bound, lefts, rights, Binds, Agrees, Keep}
use Rattle.mrs_model.specs.Inner.Elements.{Element, an_ep, an_hcon, an_icon, elements}
use Rattle.mrs_model.specs.Inner.Items.{of_ep, of_hcon, of_icon}
use Rattle.mrs_model.specs.Inner.State.{element_of, elements_of}
use Rattle.mrs_model.proofs.Equal.{map_twice}

pub listed : (m : Mrs) (es : List Ep) (hs : List Hcon) (is : List Icon) (o e h i : List Keyed) → es ≡ m.eps.items → hs ≡ m.hcons.items → is ≡ m.icons.items → o ≡ []
    → elements_of e ≡ elements_of o ++ map of_ep es → elements_of h ≡ elements_of e ++ map of_hcon hs → elements_of i ≡ elements_of h ++ map of_icon is → elements_of i ≡ elements (meaning_of m)
listed m es hs is o e h i ee eh ei z p q r =
    let a : map of_ep es ≡ map (λ x. an_ep (unspanned x)) (map predication_of m.eps.items) = ap (map of_ep) ee ∙ sym (map_twice predication_of (λ x. an_ep (unspanned x)) m.eps.items) in
    let b : map of_hcon hs ≡ map an_hcon (map hcon_of m.hcons.items) = ap (map of_hcon) eh ∙ sym (map_twice hcon_of an_hcon m.hcons.items) in
    let c : map of_icon is ≡ map an_icon (map icon_of m.icons.items) = ap (map of_icon) ei ∙ sym (map_twice icon_of an_icon m.icons.items) in
    let n : elements_of o ≡ [] = ap elements_of z in
    r ∙ rw (q, p, n, a, b, c) (append_assoc (map (λ x. an_ep (unspanned x)) (map predication_of m.eps.items)) (map an_hcon (map hcon_of m.hcons.items)) (map an_icon (map icon_of m.icons.items)))

pub agrees_none : (to : List ℕ) (b : Bound) (n : ℕ) → b ≡ record { pairs = []; size = n } → Agrees to b.pairs
agrees_none to b n e = subst (λ (z : Bound). Agrees to z.pairs) (sym e) (λ i l. absurd (omega arith))

pub keep_none : (vs ws : List Variable) (b : Bound) (n : ℕ) → b ≡ record { pairs = []; size = n } → Keep vs ws b.pairs
keep_none vs ws b n e = subst (λ (z : Bound). Keep vs ws z.pairs) (sym e) (λ i l. absurd (omega arith))

pub pairs_two : (pairs : List Pair) (p q : Pair) → Binds pairs p.left p.right → Binds pairs q.left q.right → (i : ℕ) → i < length (p ∷ q ∷ []) → Binds pairs (slice_index (lefts (p ∷ q ∷ [])) i) (slice_index (rights (p ∷ q ∷ [])) i)
pairs_two pairs p q h k zero l = h
pairs_two pairs p q h k (suc zero) l = k
pairs_two pairs p q h k (suc (suc i)) l = absurd (omega arith)

-- what is a permutation stays one when two elements are exchanged
pub swapped : (xs : List Element) (a b : List Keyed) (i j : ℕ) → IsPermutation xs (elements_of a) → i < length a → j < length a → b ≡ swap a i j → IsPermutation xs (elements_of b)
swapped xs a b i j p l k e =
    IsPermutation-trans xs (elements_of a) (elements_of b) p (IsPermutation-map element_of a b (IsPermutation-swap a b i j l k e))
