-- What stands in a list is changed one element after the other; of each only its image counts.
use Rattle.std.proofs.Common.{ℕ, ◌≡◌, ◌<◌, ◌≤◌, ◌+◌, ◌-◌, ◌∙◌, List, ◌++◌, length, length-append, get_or, take, drop, refl, sym, subst, ap, arith}
use Rattle.std.specs.Prelude.{All, map}
use Rattle.std.proofs.Math.ListN.{set}
use Rattle.std.proofs.lemmas.List.{length-map, length-take, length-take-le, length-drop, get_or-map, get_or-drop, get_or-append_right, get_or_default, map-set, take_all, drop_all, append-nil}
use Rattle.std.proofs.lemmas.List.Edits.{map_over_more}

module _ {X Y : Type 0} (g : X → Y) (f : Y → Y) where
  -- as many as at first
  pub image_length : (xs ys : List X) (i : ℕ) → i < length ys → map g ys ≡ map f (take i (map g xs)) ++ drop i (map g xs) → i < length xs
  image_length xs ys i l e =
      let a : length (map g ys) ≡ length ys = length-map ys g in
      let b : length (map g xs) ≡ length xs = length-map xs g in
      let c : length (map f (take i (map g xs))) ≡ length (take i (map g xs)) = length-map (take i (map g xs)) f in
      let d = length-append (map f (take i (map g xs))) (drop i (map g xs)) in
      let h : length (map g ys) ≡ length (map f (take i (map g xs)) ++ drop i (map g xs)) = ap length e in
      omega (arith, a, b, c, d, h, l, length-take i (map g xs), length-drop i (map g xs))

  -- the element at hand is as it was
  pub image_at : (xs ys : List X) (i : ℕ) (x : X) → i < length ys → map g ys ≡ map f (take i (map g xs)) ++ drop i (map g xs) → x ≡ get_or ys i x → g x ≡ get_or (map g xs) i (g x)
  image_at xs ys i x l e is =
      let n : i < length xs = image_length xs ys i l e in
      let m : length (map g xs) ≡ length xs = length-map xs g in
      let t : length (map f (take i (map g xs))) ≡ i = length-map (take i (map g xs)) f ∙ length-take-le i (map g xs) (omega (arith, n, m)) in
      let z : i + (i - i) ≡ i = omega arith in
      ap g is ∙ (sym (get_or-map g ys i x (g x) l) ∙ (ap (λ (zs : List Y). get_or zs i (g x)) e
      ∙ (get_or-append_right (map f (take i (map g xs))) (drop i (map g xs)) i i (g x) t (omega arith)
      ∙ (get_or-drop i (map g xs) (i - i) (g x) ∙ ap (λ (k : ℕ). get_or (map g xs) k (g x)) z))))

  -- what held of all at first holds of it
  pub image_holds : (P : Y → Type 0) (xs ys : List X) (i : ℕ) (x : X) → i < length ys → map g ys ≡ map f (take i (map g xs)) ++ drop i (map g xs) → x ≡ get_or ys i x → All P (map g xs) → P (g x)
  image_holds P xs ys i x l e is a =
      let n : i < length xs = image_length xs ys i l e in
      let m : length (map g xs) ≡ length xs = length-map xs g in
      subst P (sym (image_at xs ys i x l e is)) (a i (g x) (omega (arith, n, m)))

  pub image_more : (xs ys : List X) (i : ℕ) (x y : X) → i < length ys → map g ys ≡ map f (take i (map g xs)) ++ drop i (map g xs) → x ≡ get_or ys i x → g y ≡ f (g x)
      → map g (set ys i y) ≡ map f (take (i + 1) (map g xs)) ++ drop (i + 1) (map g xs)
  image_more xs ys i x y l e is made =
      let n : i < length xs = image_length xs ys i l e in
      let m : length (map g xs) ≡ length xs = length-map xs g in
      let at : g x ≡ get_or (map g ys) i (g x) = ap g is ∙ sym (get_or-map g ys i x (g x) l) in
      map-set g ys i y ∙ (ap (λ (z : Y). set (map g ys) i z) made ∙ map_over_more f (map g xs) (map g ys) i (g x) (omega (arith, n, m)) e at)

  -- the same for the element as it is read under some default
  pub image_holds_at : (P : Y → Type 0) (xs ys : List X) (i : ℕ) (d : X) → i < length ys → map g ys ≡ map f (take i (map g xs)) ++ drop i (map g xs) → All P (map g xs) → P (g (get_or ys i d))
  image_holds_at P xs ys i d l e a = image_holds P xs ys i (get_or ys i d) l e (get_or_default ys i d (get_or ys i d) l) a

  pub image_more_at : (xs ys : List X) (i : ℕ) (d y : X) → i < length ys → map g ys ≡ map f (take i (map g xs)) ++ drop i (map g xs) → g y ≡ f (g (get_or ys i d)) → map g (set ys i y) ≡ map f (take (i + 1) (map g xs)) ++ drop (i + 1) (map g xs)
  image_more_at xs ys i d y l e made = image_more xs ys i (get_or ys i d) y l e (get_or_default ys i d (get_or ys i d) l) made

  pub image_none : (xs : List X) → map g xs ≡ map f (take 0 (map g xs)) ++ drop 0 (map g xs)
  image_none xs = refl

  pub image_all : (xs ys : List X) (i : ℕ) → length ys ≤ i → map g ys ≡ map f (take i (map g xs)) ++ drop i (map g xs) → length ys ≡ length xs → map g ys ≡ map f (map g xs)
  image_all xs ys i l e n =
      let m : length (map g xs) ≡ length xs = length-map xs g in
      let k : length (map g xs) ≤ i = omega (arith, n, m, l) in
      e ∙ (ap (λ (zs : List Y). map f zs ++ drop i (map g xs)) (take_all i (map g xs) k) ∙ (ap (λ (zs : List Y). map f (map g xs) ++ zs) (drop_all i (map g xs) k) ∙ append-nil (map f (map g xs))))
