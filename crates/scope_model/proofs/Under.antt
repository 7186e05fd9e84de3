-- Which open hole each label goes under.
use Rattle.std.proofs.Common.{ℕ, zero, suc, ◌+◌, ◌≡◌, ◌<◌, ◌≤◌, ◌⊎◌, inl, inr, Bool, true, false, List, [], ◌∷◌, refl, sym, ◌∙◌, ap, subst, arith, ◌==◌}
use Rattle.std.specs.Prelude.{Contains, if◌then◌else◌}
use Rattle.std.proofs.lemmas.Bool.{eq-eqb, eqb-true}
use Rattle.scope_model.specs.declared.Opening.{Opening}
use Rattle.scope_model.specs.Frames.{Frame}
use Rattle.scope_model.specs.declared.Plug.{Plug}
use Rattle.scope_model.specs.Readings.{Plugged, label_at, Leads, times_led, Below, at, down}
use Rattle.scope_model.specs.States.{State, IsPlaced, IsFilled, IsOpen, IsFromTop, Extends, IsLedOnce, GoesUnder, HasHomes}
use Rattle.scope_model.proofs.Lists.{In, in_of, contains_of}

pub yes : (b : Bool) (n : ℕ) → b ≡ true → (if b then 1 + n else n) ≡ 1 + n
yes true n e = refl
yes false n e = absurd (cc)

pub least : (b : Bool) (n : ℕ) → n ≤ (if b then 1 + n else n)
least true n = omega arith
least false n = omega arith

pub led_test : (p : Plugged) (l : ℕ) (o : Opening) → label_at p o.hole ≡ l → (label_at p o.hole == l) ≡ true
led_test p l o e = eq-eqb (label_at p o.hole) l e

-- a label that an opening leads to is led to
pub led_some : (p : Plugged) (l : ℕ) (os : List Opening) (o : Opening) → In o os → label_at p o.hole ≡ l → 1 ≤ times_led os p l
led_some p l [] o i e = absurd i
led_some p l (x ∷ os) o (inl d) e =
    let t = led_test p l x (ap (λ (y : Opening). label_at p y.hole) (sym d) ∙ e) in
    let u : times_led (x ∷ os) p l ≡ 1 + times_led os p l = yes (label_at p x.hole == l) (times_led os p l) t in
    omega (arith, u)
led_some p l (x ∷ os) o (inr i) e =
    let n = led_some p l os o i e in
    let u : times_led os p l ≤ times_led (x ∷ os) p l = least (label_at p x.hole == l) (times_led os p l) in
    omega (arith, n, u)

-- two openings that lead to a label that is led to once are one
pub led_once : (p : Plugged) (l : ℕ) (os : List Opening) (o k : Opening) → In o os → In k os → label_at p o.hole ≡ l → label_at p k.hole ≡ l → times_led os p l ≤ 1 → o ≡ k
led_once p l [] o k i j d e n = absurd i
led_once p l (x ∷ os) o k (inl a) (inl b) d e n = a ∙ sym b
led_once p l (x ∷ os) o k (inl a) (inr j) d e n =
    let t = led_test p l x (ap (λ (y : Opening). label_at p y.hole) (sym a) ∙ d) in
    let u : times_led (x ∷ os) p l ≡ 1 + times_led os p l = yes (label_at p x.hole == l) (times_led os p l) t in
    let s = led_some p l os k j e in
    absurd (omega (arith, u, s, n))
led_once p l (x ∷ os) o k (inr i) (inl b) d e n =
    let t = led_test p l x (ap (λ (y : Opening). label_at p y.hole) (sym b) ∙ e) in
    let u : times_led (x ∷ os) p l ≡ 1 + times_led os p l = yes (label_at p x.hole == l) (times_led os p l) t in
    let s = led_some p l os o i d in
    absurd (omega (arith, u, s, n))
led_once p l (x ∷ os) o k (inr i) (inr j) d e n =
    let u : times_led os p l ≤ times_led (x ∷ os) p l = least (label_at p x.hole == l) (times_led os p l) in
    led_once p l os o k i j d e (omega (arith, u, n))

rest_in : (x : Plug) (ks : List Plug) (k : Plug) (h : ℕ) → false ≡ (x.hole == h) → k.hole ≡ h → In k (x ∷ ks) → In k ks
rest_in x ks k h e d (inl c) =
    let t : (x.hole == h) ≡ true = eq-eqb x.hole h (ap (λ (y : Plug). y.hole) (sym c) ∙ d) in
    let w : true ≡ false = sym t ∙ sym e in
    absurd (cc)
rest_in x ks k h e d (inr j) = j

-- whether something is plugged into a hole
pub filled_or : (ks : List Plug) (h : ℕ) → ((k : Plug) × In k ks × (k.hole ≡ h)) ⊎ ((k : Plug) → In k ks → k.hole ≡ h → ⊥)
filled_or [] h = inr (λ k i e. absurd i)
filled_or (x ∷ ks) h = by_test (x.hole == h) refl (filled_or ks h)
  where
    by_test : (b : Bool) → b ≡ (x.hole == h) → ((k : Plug) × In k ks × (k.hole ≡ h)) ⊎ ((k : Plug) → In k ks → k.hole ≡ h → ⊥) → ((k : Plug) × In k (x ∷ ks) × (k.hole ≡ h)) ⊎ ((k : Plug) → In k (x ∷ ks) → k.hole ≡ h → ⊥)
    by_test true e r = inl (x, inl refl, eqb-true x.hole h (sym e))
    by_test false e (inl k) = inl (k.0, inr k.1, k.2)
    by_test false e (inr never) = inr (λ k i d. never k (rest_in x ks k h e d i) d)

pub lower : (f : Frame) (p : Plugged) (a b l : ℕ) → Below f p a b → Below f p b l → Below f p a l
lower f p a _ _ u (at b) = u
lower f p a b _ u (down _ n l v i) = down a n l (lower f p a b n u v) i

module _ (f : Frame) (s : State) (p : Plugged) (led : IsLedOnce f p) (top : IsFromTop f s) (x : Extends s p) where
  pub one_opening : (o k : Opening) (l : ℕ) → Contains f.openings o → Contains f.openings k → label_at p o.hole ≡ l → label_at p k.hole ≡ l → o ≡ k
  one_opening o k l i j d e = led_once p l f.openings o k (in_of f.openings o i) (in_of f.openings k j) d e (led.once l)

  -- nothing leads to the root
  pub root_not_led : (o : Opening) → Contains f.openings o → label_at p o.hole ≡ s.root → ⊥
  root_not_led o i e =
      let n = led_some p p.top f.openings o (in_of f.openings o i) (e ∙ sym x.root) in
      let r = led.root in
      omega (arith, n, r)

  -- of two labels above a third one lies at or below the other
  pub comparable : (a b l : ℕ) → Below f p a l → Below f p b l → Below f p a b ⊎ Below f p b a
  comparable _ b _ (at l) q = inr q
  comparable a _ _ (down _ n l u i) (at _) = inl (down a n l u i)
  comparable a b _ (down _ n l u i) (down _ m _ v j) =
      let e : i.by ≡ j.by = one_opening i.by j.by l i.there j.there i.to j.to in
      let g : m ≡ n = sym j.from ∙ ap (λ (o : Opening). o.label) (sym e) ∙ i.from in
      comparable a b n u (subst (λ z. Below f p b z) g v)

  -- a label above one that is plugged in is plugged in
  pub placed_above : (a n : ℕ) → Below f p a n → IsPlaced s n → IsPlaced s a
  placed_above _ _ (at n) here = here
  placed_above a _ (down _ m n u i) (inl e) = absurd (root_not_led i.by i.there (i.to ∙ e))
  placed_above a _ (down _ m n u i) (inr k) =
      let o = top k.0 k.1 in
      let to : label_at p o.0.hole ≡ n = ap (label_at p) o.2 ∙ x.plugs k.0 k.1 ∙ k.2 in
      let e : o.0 ≡ i.by = one_opening o.0 i.by n o.1 i.there to i.to in
      placed_above a m u (subst (IsPlaced s) (ap (λ (y : Opening). y.label) e ∙ i.from) o.3)

  -- what goes into an open hole isn't plugged in yet
  pub open_unplaced : (o : Opening) → IsOpen f s o → IsPlaced s (label_at p o.hole) → ⊥
  open_unplaced o w (inl e) = root_not_led o w.there e
  open_unplaced o w (inr k) =
      let q = top k.0 k.1 in
      let to : label_at p q.0.hole ≡ label_at p o.hole = ap (label_at p) q.2 ∙ x.plugs k.0 k.1 ∙ k.2 in
      let e : q.0 ≡ o = one_opening q.0 o (label_at p o.hole) q.1 w.there to refl in
      w.free (k.0, k.1, sym q.2 ∙ ap (λ (y : Opening). y.hole) e)

  -- a label is plugged in, or it goes under an open hole
  each : (a l : ℕ) → a ≡ s.root → Below f p a l → IsPlaced s l ⊎ ((o : Opening) × GoesUnder f s p o l)
  each _ _ e (at l) = inl (inl e)
  each a _ e (down _ n l u i) = go (each a n e u) (filled_or s.plugs i.by.hole)
    where
      go : IsPlaced s n ⊎ ((o : Opening) × GoesUnder f s p o n) → ((k : Plug) × In k s.plugs × (k.hole ≡ i.by.hole)) ⊎ ((k : Plug) → In k s.plugs → k.hole ≡ i.by.hole → ⊥) → IsPlaced s l ⊎ ((o : Opening) × GoesUnder f s p o l)
      go (inr h) r = inr (h.0, record { open_hole = h.1.open_hole; below = down (label_at p h.0.hole) n l h.1.below i })
      go (inl here) (inl k) =
          let c = contains_of s.plugs k.0 k.1 in
          inl (inr (k.0, c, sym (x.plugs k.0 c) ∙ ap (label_at p) k.2 ∙ i.to))
      go (inl here) (inr never) = inr (
        i.by,
        record {
          open_hole = record { there = i.there; placed = subst (IsPlaced s) (sym i.from) here; free = λ k. never k.0 (in_of s.plugs k.0 k.1) k.2 };
          below = subst (λ z. Below f p z l) (sym i.to) (at l);
        },
      )

  below_open : (o k : Opening) → IsOpen f s o → IsOpen f s k → (a b : ℕ) → label_at p o.hole ≡ a → label_at p k.hole ≡ b → Below f p a b → o ≡ k
  below_open o k v w _ _ d e (at l) = one_opening o k l v.there w.there d e
  below_open o k v w a _ d e (down _ n l u i) =
      let g : i.by ≡ k = one_opening i.by k l i.there w.there i.to e in
      let here : IsPlaced s n = subst (IsPlaced s) (ap (λ (y : Opening). y.label) (sym g) ∙ i.from) w.placed in
      absurd (open_unplaced o v (subst (IsPlaced s) (sym d) (placed_above a n u here)))

  pub homes : HasHomes f s p
  homes = record {
    each = λ l b. each p.top l x.root b;
    one = λ o k l g h. elim (comparable (label_at p o.hole) (label_at p k.hole) l g.below h.below) [
      | inl b ↦ below_open o k g.open_hole h.open_hole (label_at p o.hole) (label_at p k.hole) refl refl b
      | inr b ↦ sym (below_open k o h.open_hole g.open_hole (label_at p k.hole) (label_at p o.hole) refl refl b)
    ];
    same = λ o a l g b. record { open_hole = g.open_hole; below = lower f p (label_at p o.hole) a l g.below b };
    filled = λ o w. record { open_hole = w; below = at (label_at p o.hole) };
    apart = λ o l g here. open_unplaced o g.open_hole (placed_above (label_at p o.hole) l g.below here);
  }
