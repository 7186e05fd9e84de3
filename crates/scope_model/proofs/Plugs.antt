-- A plugging is told by its labels.
use Rattle.std.proofs.Common.{ℕ, zero, suc, ◌+◌, ◌≡◌, ◌<◌, ◌⊎◌, inl, inr, List, [], ◌∷◌, length, map, slice_index, refl, sym, ◌∙◌, ap, subst, arith}
use Rattle.std.specs.Prelude.{Contains}
use Rattle.scope_model.specs.Frames.{Frame}
use Rattle.scope_model.specs.declared.Plug.{Plug}
use Rattle.scope_model.specs.Readings.{Plugged, IsHole, label_in, label_at, Rise, IsPlugging}
use Rattle.scope_model.proofs.Lists.{In, in_of, contains_of, of_map}
use Rattle.scope_model.proofs.Going.{label_found, hole_of_plug}

abbrev holes : List Plug → List ℕ
holes ks = map (λ k. k.hole) ks

rise_rest : (n : ℕ) (ns : List ℕ) → Rise (n ∷ ns) → Rise ns
rise_rest n ns r k l = let e : suc k + 1 ≡ suc (k + 1) = omega arith in subst (λ z. slice_index ns k < slice_index (n ∷ ns) z) e (r (suc k) (omega (arith, l)))

rise_first : (n : ℕ) (ns : List ℕ) → Rise (n ∷ ns) → (m : ℕ) → In m ns → n < m
rise_first n [] r m i = absurd i
rise_first n (x ∷ ns) r m (inl e) = let l : n < x = r 0 (omega arith) in subst (λ z. n < z) (sym e) l
rise_first n (x ∷ ns) r m (inr i) =
    let l : n < x = r 0 (omega arith) in
    let a = rise_first x ns (rise_rest n (x ∷ ns) r) m i in
    omega (arith, a, l)

after : (x : Plug) (ks : List Plug) → Rise (holes (x ∷ ks)) → (k : Plug) → In k ks → x.hole < k.hole
after x ks r k i = rise_first x.hole (holes ks) r k.hole (hole_of_plug ks k i)

rest : (x : Plug) (ks : List Plug) → Rise (holes (x ∷ ks)) → Rise (holes ks)
rest x ks r = rise_rest x.hole (holes ks) r

one_by_rise : (ks : List Plug) → Rise (holes ks) → (k j : Plug) → In k ks → In j ks → k.hole ≡ j.hole → k ≡ j
one_by_rise [] r k j a b e = absurd a
one_by_rise (x ∷ ks) r k j (inl a) (inl b) e = a ∙ sym b
one_by_rise (x ∷ ks) r k j (inl a) (inr b) e = absurd (let l = after x ks r j b in let d : k.hole ≡ x.hole = ap (λ (z : Plug). z.hole) a in omega (arith, l, d, e))
one_by_rise (x ∷ ks) r k j (inr a) (inl b) e = absurd (let l = after x ks r k a in let d : j.hole ≡ x.hole = ap (λ (z : Plug). z.hole) b in omega (arith, l, d, e))
one_by_rise (x ∷ ks) r k j (inr a) (inr b) e = one_by_rise ks (rest x ks r) k j a b e

later : (s u : Plug) (us : List Plug) → In s (u ∷ us) → u.hole < s.hole → In s us
later s u us (inl e) l = absurd (let d : s.hole ≡ u.hole = ap (λ (z : Plug). z.hole) e in omega (arith, l, d))
later s u us (inr k) l = k

one_rising : (xs ys : List Plug) → Rise (holes xs) → Rise (holes ys) → ((s : Plug) → In s xs → In s ys) → ((s : Plug) → In s ys → In s xs) → xs ≡ ys
one_rising [] [] o p to back = refl
one_rising [] (y ∷ ys) o p to back = absurd (back y (inl refl))
one_rising (x ∷ xs) [] o p to back = absurd (to x (inl refl))
one_rising (x ∷ xs) (y ∷ ys) o p to back = by_first (to x (inl refl)) (back y (inl refl)) (one_rising xs ys (rest x xs o) (rest y ys p))
  where
    same : x ≡ y → (((s : Plug) → In s xs → In s ys) → ((s : Plug) → In s ys → In s xs) → xs ≡ ys) → x ∷ xs ≡ y ∷ ys
    same e k =
        let f = k (λ s h. later s y ys (to s (inr h)) (subst (λ (z : Plug). z.hole < s.hole) e (after x xs o s h))) (λ s h. later s x xs (back s (inr h)) (subst (λ (z : Plug). z.hole < s.hole) (sym e) (after y ys p s h))) in
        λ i. e i ∷ f i

    by_first : (x ≡ y) ⊎ In x ys → (y ≡ x) ⊎ In y xs → (((s : Plug) → In s xs → In s ys) → ((s : Plug) → In s ys → In s xs) → xs ≡ ys) → x ∷ xs ≡ y ∷ ys
    by_first (inl e) b k = same e k
    by_first (inr h) (inl e) k = same (sym e) k
    by_first (inr h) (inr m) k = absurd (let a = after y ys p x h in let b = after x xs o y m in omega (arith, a, b))

-- the label of a plug's hole is that plug's
pub found : (f : Frame) (p : Plugged) → IsPlugging f p → (k : Plug) → In k p.plugs → label_at p k.hole ≡ k.label
found f p is k i = label_found p.plugs k i (λ j m e. one_by_rise p.plugs is.order j k m i e)

within : (f : Frame) (p q : Plugged) → IsPlugging f p → IsPlugging f q → ((h : ℕ) → IsHole f h → label_at p h ≡ label_at q h) → (k : Plug) → In k p.plugs → In k q.plugs
within f p q is js same k i =
    let hole = (is.every k.hole).1 (contains_of (holes p.plugs) k.hole (hole_of_plug p.plugs k i)) in
    let j = of_map (λ (z : Plug). z.hole) k.hole q.plugs (in_of (holes q.plugs) k.hole ((js.every k.hole).0 hole)) in
    let l : j.0.label ≡ k.label = sym (found f q js j.0 j.1) ∙ ap (label_at q) j.2 ∙ sym (same k.hole hole) ∙ found f p is k i in
    let d : j.0.hole ≡ k.hole = j.2 in
    let e : j.0 ≡ k = λ n. record { hole = d n; label = l n } in
    subst (λ (z : Plug). In z q.plugs) e j.1

pub one_plugging : (f : Frame) (p q : Plugged) → IsPlugging f p → IsPlugging f q → p.top ≡ q.top → ((h : ℕ) → IsHole f h → label_at p h ≡ label_at q h) → p ≡ q
one_plugging f p q is js top same =
    let plugs = one_rising p.plugs q.plugs is.order js.order (within f p q is js same) (within f q p js is (λ h i. sym (same h i))) in
    λ n. record { top = top n; plugs = plugs n }
