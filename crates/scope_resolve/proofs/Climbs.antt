-- What the pass over the plugs finds is what stands on the way up.
use Rattle.std.proofs.Common.{ℕ, ◌≡◌, ◌≢◌, ◌⊎◌, inl, inr, ◌∙◌, Bool, true, false, List, [], ◌∷◌, refl, sym, ap, subst, ◌==◌}
use Rattle.std.specs.Prelude.{if◌then◌else◌, slice_index, slice_index_or, Contains, Some, None}
use Rattle.std.proofs.lemmas.Bool.{eq-eqb, eqb-true, eqb-false, ne_eqb}
use Rattle.mrs_text.specs.Written.{or_zero}
use Rattle.scope_model.specs.declared.Opening.{Opening}
use Rattle.scope_model.specs.declared.Quantifier.{Quantifier}
use Rattle.scope_model.specs.declared.Plug.{Plug}
use Rattle.scope_model.specs.Frames.{Frame}
use Rattle.scope_model.specs.States.{IsPlaced, state, IsTrail, IsOnWay, here, up, IsByBodies, none, body, HasBodies}
use Rattle.scope_model.proofs.Lists.{In, in_of, contains_of}
use Rattle.scope_model.proofs.Full.{owner_in}
use Rattle.scope_resolve.specs.Inner.Ways.{placed_in, plugged_at, is_on_way, is_by_bodies}
use Rattle.scope_resolve.proofs.Tests.{yes, no}

-- plugs with the label
pub placed_of : (l : ℕ) (ks : List Plug) → placed_in l ks ≡ true → (k : Plug) × In k ks × (k.label ≡ l)
placed_of l [] e = let w : false ≡ true = e in absurd (cc)
placed_of l (k ∷ ks) e = by_test (k.label == l) refl e (placed_of l ks)
  where
    by_test : (b : Bool) → b ≡ (k.label == l) → (if b then true else placed_in l ks) ≡ true → (placed_in l ks ≡ true → (j : Plug) × In j ks × (j.label ≡ l)) → (j : Plug) × In j (k ∷ ks) × (j.label ≡ l)
    by_test true t d rest = (k, inl refl, eqb-true k.label l (sym t))
    by_test false t d rest = let r = rest d in (r.0, inr r.1, r.2)

pub not_placed : (l : ℕ) (ks : List Plug) → placed_in l ks ≡ false → (k : Plug) → In k ks → k.label ≡ l → ⊥
not_placed l [] e k i d = i
not_placed l (x ∷ ks) e k i d = by_test (x.label == l) refl e i (not_placed l ks)
  where
    by_test : (b : Bool) → b ≡ (x.label == l) → (if b then true else placed_in l ks) ≡ false → In k (x ∷ ks) → (placed_in l ks ≡ false → (j : Plug) → In j ks → j.label ≡ l → ⊥) → ⊥
    by_test true t c j rest = let w : true ≡ false = c in absurd (cc)
    by_test false t c (inl j) rest = eqb-false x.label l (sym t) (ap (λ (z : Plug). z.label) (sym j) ∙ d)
    by_test false t c (inr j) rest = rest c k j d

-- the plug of a hole
pub plugged_of : (h l : ℕ) (ks : List Plug) → plugged_at h ks ≡ Some l → (k : Plug) × In k ks × (k.hole ≡ h) × (k.label ≡ l)
plugged_of h l [] e = let w : None ≡ Some l = e in absurd (cc)
plugged_of h l (k ∷ ks) e = by_test (k.hole == h) refl e (plugged_of h l ks)
  where
    by_test : (b : Bool) → b ≡ (k.hole == h) → (if b then Some k.label else plugged_at h ks) ≡ Some l → (plugged_at h ks ≡ Some l → (j : Plug) × In j ks × (j.hole ≡ h) × (j.label ≡ l)) → (j : Plug) × In j (k ∷ ks) × (j.hole ≡ h) × (j.label ≡ l)
    by_test true t d rest = (k, inl refl, eqb-true k.hole h (sym t), ap or_zero d)
    by_test false t d rest = let r = rest d in (r.0, inr r.1, r.2, r.3)

pub not_plugged : (h : ℕ) (ks : List Plug) → plugged_at h ks ≡ None → (k : Plug) → In k ks → k.hole ≡ h → ⊥
not_plugged h [] e k i d = i
not_plugged h (x ∷ ks) e k i d = by_test (x.hole == h) refl e i (not_plugged h ks)
  where
    by_test : (b : Bool) → b ≡ (x.hole == h) → (if b then Some x.label else plugged_at h ks) ≡ None → In k (x ∷ ks) → (plugged_at h ks ≡ None → (j : Plug) → In j ks → j.hole ≡ h → ⊥) → ⊥
    by_test true t c j rest = let w : Some x.label ≡ None = c in absurd (cc)
    by_test false t c (inl j) rest = eqb-false x.hole h (sym t) (ap (λ (z : Plug). z.hole) (sym j) ∙ d)
    by_test false t c (inr j) rest = rest c k j d

module _ (f : Frame) (root : ℕ) (owner : List ℕ) (owned : (o : Opening) → Contains f.openings o → slice_index owner o.hole ≡ o.label) where
  -- what stands on the way in a front of the trail does in the whole
  way_more : (x : Plug) (ks : List Plug) (h l : ℕ) → IsOnWay f (state root ks) h l → IsOnWay f (state root (x ∷ ks)) h l
  way_more x ks h _ (here k c e) = here k (contains_of (x ∷ ks) k (inr (in_of ks k c))) e
  way_more x ks h _ (up k o c d e w) = up k o (contains_of (x ∷ ks) k (inr (in_of ks k c))) d e (way_more x ks h o.label w)

  placed_under : (ks : List Plug) (t : IsTrail f root ks) (k : Plug) (o : Opening) → In k ks → Contains f.openings o → o.hole ≡ k.hole → IsPlaced (state root ks) o.label
  placed_under ks t k o i c e =
      let w = owner_in f root ks t k i in
      let d : w.0.label ≡ o.label = sym (owned w.0 w.1) ∙ (ap (slice_index owner) (w.2 ∙ sym e) ∙ owned o c) in
      subst (IsPlaced (state root ks)) d w.3

  in_rest : (x : Plug) (ks : List Plug) (t : IsTrail f root (x ∷ ks)) (k : Plug) → In k (x ∷ ks) → IsPlaced (state root ks) k.label → In k ks
  in_rest x ks t k (inl e) p = absurd (t.1.new (subst (λ (z : Plug). IsPlaced (state root ks) z.label) e p))
  in_rest x ks t k (inr i) p = i

  way_less : (x : Plug) (ks : List Plug) (t : IsTrail f root (x ∷ ks)) (h l : ℕ) → IsPlaced (state root ks) l → IsOnWay f (state root (x ∷ ks)) h l → IsOnWay f (state root ks) h l
  way_less x ks t h _ p (here k c e) = here k (contains_of ks k (in_rest x ks t k (in_of (x ∷ ks) k c) p)) e
  way_less x ks t h _ p (up k o c d e w) =
      let i = in_rest x ks t k (in_of (x ∷ ks) k c) p in
      up k o (contains_of ks k i) d e (way_less x ks t h o.label (placed_under ks t.0 k o i d e) w)

  pub way_of : (ks : List Plug) → IsTrail f root ks → (h l : ℕ) → is_on_way owner h l ks ≡ true → IsOnWay f (state root ks) h l
  way_of [] t h l e = let w : false ≡ true = e in absurd (cc)
  way_of (x ∷ ks) t h l e = by_label (x.label == l) refl e (λ n m. way_of ks t.0 h n m)
    where
      by_hole : (b : Bool) → b ≡ (x.hole == h) → x.label ≡ l → (if b then true else is_on_way owner h (slice_index owner x.hole) ks) ≡ true → ((n : ℕ) → is_on_way owner h n ks ≡ true → IsOnWay f (state root ks) h n) → IsOnWay f (state root (x ∷ ks)) h l
      by_hole true q d m rest = subst (IsOnWay f (state root (x ∷ ks)) h) d (here x (contains_of (x ∷ ks) x (inl refl)) (eqb-true x.hole h (sym q)))
      by_hole false q d m rest =
          let o = t.1.owner in
          let g : slice_index owner x.hole ≡ o.label = ap (slice_index owner) (sym t.1.hole) ∙ owned o t.1.there in
          let w = way_more x ks h o.label (subst (IsOnWay f (state root ks) h) g (rest (slice_index owner x.hole) m)) in
          subst (IsOnWay f (state root (x ∷ ks)) h) d (up x o (contains_of (x ∷ ks) x (inl refl)) t.1.there t.1.hole w)

      by_label : (b : Bool) → b ≡ (x.label == l) → (if b then (if x.hole == h then true else is_on_way owner h (slice_index owner x.hole) ks) else is_on_way owner h l ks) ≡ true → ((n : ℕ) → is_on_way owner h n ks ≡ true → IsOnWay f (state root ks) h n) → IsOnWay f (state root (x ∷ ks)) h l
      by_label true q m rest = by_hole (x.hole == h) refl (eqb-true x.label l (sym q)) m rest
      by_label false q m rest = way_more x ks h l (rest l m)

  -- the first plug has the label, or one after it
  of_way_first : (x : Plug) (ks : List Plug) (h l : ℕ) → x.label ≡ l → (x.hole ≡ h) ⊎ (is_on_way owner h (slice_index owner x.hole) ks ≡ true) → is_on_way owner h l (x ∷ ks) ≡ true
  of_way_first x ks h l e w =
      yes (x.label == l) (if x.hole == h then true else is_on_way owner h (slice_index owner x.hole) ks) (is_on_way owner h l ks) (eq-eqb x.label l e) ∙ by_way w
    where
      by_way : (x.hole ≡ h) ⊎ (is_on_way owner h (slice_index owner x.hole) ks ≡ true) → (if x.hole == h then true else is_on_way owner h (slice_index owner x.hole) ks) ≡ true
      by_way (inl d) = yes (x.hole == h) true (is_on_way owner h (slice_index owner x.hole) ks) (eq-eqb x.hole h d)
      by_way (inr m) = by_test (x.hole == h)
        where
          by_test : (b : Bool) → (if b then true else is_on_way owner h (slice_index owner x.hole) ks) ≡ true
          by_test true = refl
          by_test false = m

  pub of_way : (ks : List Plug) → IsTrail f root ks → (h l : ℕ) → IsOnWay f (state root ks) h l → is_on_way owner h l ks ≡ true
  of_way [] t h _ (here k c e) = absurd (in_of [] k c)
  of_way [] t h _ (up k o c d e w) = absurd (in_of [] k c)
  of_way (x ∷ ks) t h _ (here k c e) = by_place (in_of (x ∷ ks) k c) (λ n w. of_way ks t.0 h n w)
    where
      by_place : In k (x ∷ ks) → ((n : ℕ) → IsOnWay f (state root ks) h n → is_on_way owner h n ks ≡ true) → is_on_way owner h k.label (x ∷ ks) ≡ true
      by_place (inl d) rest = of_way_first x ks h k.label (ap (λ (z : Plug). z.label) (sym d)) (inl (ap (λ (z : Plug). z.hole) (sym d) ∙ e))
      by_place (inr i) rest =
          let p : IsPlaced (state root ks) k.label = inr (k, contains_of ks k i, refl) in
          no (x.label == k.label) (if x.hole == h then true else is_on_way owner h (slice_index owner x.hole) ks) (is_on_way owner h k.label ks) (ne_eqb x.label k.label (λ d. t.1.new (subst (IsPlaced (state root ks)) (sym d) p)))
          ∙ rest k.label (here k (contains_of ks k i) e)
  of_way (x ∷ ks) t h _ (up k o c d e w) = by_place (in_of (x ∷ ks) k c) (λ n w. of_way ks t.0 h n w)
    where
      by_place : In k (x ∷ ks) → ((n : ℕ) → IsOnWay f (state root ks) h n → is_on_way owner h n ks ≡ true) → is_on_way owner h k.label (x ∷ ks) ≡ true
      by_place (inl m) rest =
          let z : o.hole ≡ x.hole = e ∙ ap (λ (y : Plug). y.hole) m in
          let g : o.label ≡ slice_index owner x.hole = sym (owned o d) ∙ ap (slice_index owner) z in
          let q : t.1.owner.label ≡ o.label = sym (owned t.1.owner t.1.there) ∙ (ap (slice_index owner) (t.1.hole ∙ sym z) ∙ owned o d) in
          let p : IsPlaced (state root ks) o.label = subst (IsPlaced (state root ks)) q t.1.placed in
          of_way_first x ks h k.label (ap (λ (y : Plug). y.label) (sym m)) (inr (subst (λ n. is_on_way owner h n ks ≡ true) g (rest o.label (way_less x ks t h o.label p w))))
      by_place (inr i) rest =
          let p : IsPlaced (state root ks) k.label = inr (k, contains_of ks k i, refl) in
          no (x.label == k.label) (if x.hole == h then true else is_on_way owner h (slice_index owner x.hole) ks) (is_on_way owner h k.label ks) (ne_eqb x.label k.label (λ j. t.1.new (subst (IsPlaced (state root ks)) (sym j) p)))
          ∙ rest k.label (way_less x ks t h k.label p (up k o c d e w))

  module _ (bodies : List Bool) (has : HasBodies f) (marked : (q : Quantifier) → Contains f.quantifiers q → slice_index_or bodies q.body false ≡ true)
      (of_mark : (h : ℕ) → slice_index_or bodies h false ≡ true → (q : Quantifier) × Contains f.quantifiers q × (q.body ≡ h)) where
    by_more : (x : Plug) (ks : List Plug) (a l : ℕ) → IsByBodies f (state root ks) a l → IsByBodies f (state root (x ∷ ks)) a l
    by_more x ks a _ none = none
    by_more x ks a _ (body q k c d e w) = body q k c (contains_of (x ∷ ks) k (inr (in_of ks k d))) e (by_more x ks a q.label w)

    by_less : (x : Plug) (ks : List Plug) (t : IsTrail f root (x ∷ ks)) (a l : ℕ) → IsPlaced (state root ks) l → IsByBodies f (state root (x ∷ ks)) a l → IsByBodies f (state root ks) a l
    by_less x ks t a _ p none = none
    by_less x ks t a _ p (body q k c d e w) =
        let i = in_rest x ks t k (in_of (x ∷ ks) k d) p in
        let o = has q c in
        let g = subst (IsPlaced (state root ks)) o.2 (placed_under ks t.0 k o.0 i o.1 (o.3 ∙ sym e)) in
        body q k c (contains_of ks k i) e (by_less x ks t a q.label g w)

    -- the label of a BODY is its quantifier's
    body_label : (q : Quantifier) (h : ℕ) → Contains f.quantifiers q → q.body ≡ h → slice_index owner h ≡ q.label
    body_label q h c e = let o = has q c in ap (slice_index owner) (sym e ∙ sym o.3) ∙ (owned o.0 o.1 ∙ o.2)

    pub by_of : (ks : List Plug) → IsTrail f root ks → (a l : ℕ) → is_by_bodies owner bodies a l ks ≡ true → IsByBodies f (state root ks) a l
    by_of [] t a l e = subst (IsByBodies f (state root []) a) (eqb-true a l e) none
    by_of (x ∷ ks) t a l e = by_first (a == l) refl e (λ n m. by_of ks t.0 a n m)
      where
        by_mark : (b : Bool) → b ≡ slice_index_or bodies x.hole false → x.label ≡ l → (if b then (is_by_bodies owner bodies a (slice_index owner x.hole) ks) else false) ≡ true → ((n : ℕ) → is_by_bodies owner bodies a n ks ≡ true → IsByBodies f (state root ks) a n) → IsByBodies f (state root (x ∷ ks)) a l
        by_mark true q d m rest =
            let r = of_mark x.hole (sym q) in
            let w = by_more x ks a r.0.label (subst (IsByBodies f (state root ks) a) (body_label r.0 x.hole r.1 r.2) (rest (slice_index owner x.hole) m)) in
            subst (IsByBodies f (state root (x ∷ ks)) a) d (body r.0 x r.1 (contains_of (x ∷ ks) x (inl refl)) (sym r.2) w)
        by_mark false q d m rest = let w : false ≡ true = m in absurd (cc)

        by_label : (b : Bool) → b ≡ (x.label == l) → (if b then (if slice_index_or bodies x.hole false then (is_by_bodies owner bodies a (slice_index owner x.hole) ks) else false) else is_by_bodies owner bodies a l ks) ≡ true → ((n : ℕ) → is_by_bodies owner bodies a n ks ≡ true → IsByBodies f (state root ks) a n) → IsByBodies f (state root (x ∷ ks)) a l
        by_label true q m rest = by_mark (slice_index_or bodies x.hole false) refl (eqb-true x.label l (sym q)) m rest
        by_label false q m rest = by_more x ks a l (rest l m)

        by_first : (b : Bool) → b ≡ (a == l) → (if b then true else (if x.label == l then (if slice_index_or bodies x.hole false then (is_by_bodies owner bodies a (slice_index owner x.hole) ks) else false) else is_by_bodies owner bodies a l ks)) ≡ true → ((n : ℕ) → is_by_bodies owner bodies a n ks ≡ true → IsByBodies f (state root ks) a n) → IsByBodies f (state root (x ∷ ks)) a l
        by_first true q m rest = subst (IsByBodies f (state root (x ∷ ks)) a) (eqb-true a l (sym q)) none
        by_first false q m rest = by_label (x.label == l) refl m rest

    here_or : (a l : ℕ) (b : Bool) → (a ≢ l → b ≡ true) → (if a == l then true else b) ≡ true
    here_or a l b w = by_test (a == l) refl
      where
        by_test : (c : Bool) → c ≡ (a == l) → (if c then true else b) ≡ true
        by_test true q = refl
        by_test false q = w (eqb-false a l (sym q))

    pub of_by : (ks : List Plug) → IsTrail f root ks → (a l : ℕ) → IsByBodies f (state root ks) a l → is_by_bodies owner bodies a l ks ≡ true
    of_by [] t a _ none = eq-eqb a a refl
    of_by [] t a _ (body q k c d e w) = absurd (in_of [] k d)
    of_by (x ∷ ks) t a _ none = yes (a == a) true _ (eq-eqb a a refl)
    of_by (x ∷ ks) t a _ (body q k c d e w) = here_or a k.label _ (λ other. by_place (in_of (x ∷ ks) k d) (λ n w. of_by ks t.0 a n w))
      where
        by_place : In k (x ∷ ks) → ((n : ℕ) → IsByBodies f (state root ks) a n → is_by_bodies owner bodies a n ks ≡ true) → (if x.label == k.label then (if slice_index_or bodies x.hole false then (is_by_bodies owner bodies a (slice_index owner x.hole) ks) else false) else is_by_bodies owner bodies a k.label ks) ≡ true
        by_place (inl m) rest =
            let z : q.body ≡ x.hole = sym e ∙ ap (λ (y : Plug). y.hole) m in
            let g : slice_index owner x.hole ≡ q.label = body_label q x.hole c z in
            let n : slice_index_or bodies x.hole false ≡ true = subst (λ h. slice_index_or bodies h false ≡ true) z (marked q c) in
            let j : t.1.owner.label ≡ q.label = sym (owned t.1.owner t.1.there) ∙ (ap (slice_index owner) t.1.hole ∙ g) in
            let p : IsPlaced (state root ks) q.label = subst (IsPlaced (state root ks)) j t.1.placed in
            let r = rest q.label (by_less x ks t a q.label p w) in
            yes (x.label == k.label) (if slice_index_or bodies x.hole false then (is_by_bodies owner bodies a (slice_index owner x.hole) ks) else false) (is_by_bodies owner bodies a k.label ks) (eq-eqb x.label k.label (ap (λ (y : Plug). y.label) (sym m)))
            ∙ (yes (slice_index_or bodies x.hole false) (is_by_bodies owner bodies a (slice_index owner x.hole) ks) false n ∙ subst (λ v. is_by_bodies owner bodies a v ks ≡ true) (sym g) r)
        by_place (inr i) rest =
            let p : IsPlaced (state root ks) k.label = inr (k, contains_of ks k i, refl) in
            no (x.label == k.label) (if slice_index_or bodies x.hole false then (is_by_bodies owner bodies a (slice_index owner x.hole) ks) else false) (is_by_bodies owner bodies a k.label ks) (ne_eqb x.label k.label (λ j. t.1.new (subst (IsPlaced (state root ks)) (sym j) p)))
            ∙ rest k.label (by_less x ks t a k.label p (body q k c d e w))
