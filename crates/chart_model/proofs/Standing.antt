-- The first two facts: representatives, and that no live host subsumes another.
use Rattle.std.specs.Prelude.{◌≡◌, ℕ, ◌+◌, ◌<◌, ◌≤◌, ◌==◌, ◌&&◌, Bool, true, false, Option, Some, None, List, [], ◌∷◌, ◌++◌, length, refl, if◌then◌else◌}
use Rattle.std.proofs.Common.{zero, suc, ap, subst, sym, ◌∙◌, arith, eqb-true, eq-eqb}
use Rattle.std.proofs.lemmas.Grind.{common_steps}
use Rattle.chart_model.specs.Calculus.{Calculus, Laws}
use Rattle.chart_model.specs.Chart.{Row, has_peer, first_peer, frosted}
use Rattle.chart_model.specs.At.{At, here, there, at_below, at_one, at_append, at_last, Snoc, old, new, at_snoc}

module _ {M C : Type 0} (k : Calculus M C) where
  -- a row of this cover and level whose shape passes the test
  pub record Peer (test : M → Bool) (cover : C) (level : ℕ) (row : Row M C) : Type 0 where
    pub m : M
    pub shape : row.shape ≡ Some m
    pub cover_is : k.same row.cover cover ≡ true
    pub level_is : row.level ≡ level
    pub passes : test m ≡ true

  and_left : (a b : Bool) → a && b ≡ true → a ≡ true
  and_left true b h = refl
  and_left false b h = absurd (cc)

  and_right : (a b : Bool) → a && b ≡ true → b ≡ true
  and_right true b h = h
  and_right false b h = absurd (cc)

  -- what a frost leaves at a place
  pub data Frost (test : Row M C → Bool) (n : ℕ) (rows : List (Row M C)) (intos : List (Option ℕ)) (i : ℕ) (v : Option ℕ) : Type 0 where
    written : (r : ℕ) → v ≡ Some r → At intos i (Some r) → Frost test n rows intos i v
    frozen : (row : Row M C) → At rows i row → At intos i None → test row ≡ true → v ≡ Some n → Frost test n rows intos i v
    stays : (row : Row M C) → At rows i row → At intos i None → test row ≡ false → v ≡ None → Frost test n rows intos i v
    beyond : length rows ≤ i → Frost test n rows intos i v

  frost_there : {test : Row M C → Bool} {n : ℕ} {rows : List (Row M C)} {intos : List (Option ℕ)} {i : ℕ} {v : Option ℕ} (row : Row M C) (into : Option ℕ) → Frost test n rows intos i v → Frost test n (row ∷ rows) (into ∷ intos) (suc i) v
  frost_there row into (written r p a) = written r p (there a)
  frost_there row into (frozen w a b t p) = frozen w (there a) (there b) t p
  frost_there row into (stays w a b t p) = stays w (there a) (there b) t p
  frost_there row into (beyond p) = beyond (omega arith)

  frost_here : (test : Row M C → Bool) (n : ℕ) (row : Row M C) (rows : List (Row M C)) (intos : List (Option ℕ)) (b : Bool) → test row ≡ b → (v : Option ℕ) → (if b then Some n else None) ≡ v → Frost test n (row ∷ rows) (None ∷ intos) zero v
  frost_here test n row rows intos true t v e = frozen row here here t (sym e)
  frost_here test n row rows intos false t v e = stays row here here t (sym e)

  pub at_frost : (test : Row M C → Bool) (n : ℕ) (rows : List (Row M C)) (intos : List (Option ℕ)) (i : ℕ) (v : Option ℕ) → At (frosted k test n rows intos) i v → Frost test n rows intos i v
  at_frost test n [] intos i v a = beyond (omega arith)
  at_frost test n (row ∷ rows) [] i v a = elim a [ ]
  at_frost test n (row ∷ rows) (Some r ∷ intos) i v (here) = written r refl here
  at_frost test n (row ∷ rows) (Some r ∷ intos) i v (there {i = j} a) = frost_there row (Some r) (at_frost test n rows intos j v a)
  at_frost test n (row ∷ rows) (None ∷ intos) i v (here) = frost_here test n row rows intos (test row) refl _ refl
  at_frost test n (row ∷ rows) (None ∷ intos) i v (there {i = j} a) = frost_there row None (at_frost test n rows intos j v a)

  pub length-frosted : (test : Row M C → Bool) (n : ℕ) (rows : List (Row M C)) (intos : List (Option ℕ)) → length (frosted k test n rows intos) ≡ length intos
  length-frosted test n [] intos = refl
  length-frosted test n (row ∷ rows) [] = refl
  length-frosted test n (row ∷ rows) (Some r ∷ intos) = ap suc (length-frosted test n rows intos)
  length-frosted test n (row ∷ rows) (None ∷ intos) = ap suc (length-frosted test n rows intos)

  -- r is the number of a free row that passes, where the rows are counted from i
  pub record First (test : Row M C → Bool) (i : ℕ) (rows : List (Row M C)) (intos : List (Option ℕ)) (r : ℕ) : Type 0 where
    pub place : ℕ
    pub number : r ≡ i + place
    pub row : Row M C
    pub at : At rows place row
    pub free : At intos place None
    pub passes : test row ≡ true

  first_there : (test : Row M C → Bool) (rows : List (Row M C)) (intos : List (Option ℕ)) (i r : ℕ) (row : Row M C) (into : Option ℕ) → First test (i + 1) rows intos r → First test i (row ∷ rows) (into ∷ intos) r
  first_there test rows intos i r row into f = record { place = suc f.place; number = omega arith; row = f.row; at = there f.at; free = there f.free; passes = f.passes }

  first_here : (test : Row M C → Bool) (i r : ℕ) (row : Row M C) (rows : List (Row M C)) (intos : List (Option ℕ)) → (first_peer k test (i + 1) rows intos ≡ Some r → First test (i + 1) rows intos r) → (b : Bool) → test row ≡ b → (if b then Some i else first_peer k test (i + 1) rows intos) ≡ Some r → First test i (row ∷ rows) (None ∷ intos) r
  first_here test i r row rows intos more true t h = let e : i ≡ r = cc in record { place = 0; number = omega arith; row = row; at = here; free = here; passes = t }
  first_here test i r row rows intos more false t h = first_there test rows intos i r row None (more h)

  pub first_at : (test : Row M C → Bool) (i r : ℕ) (rows : List (Row M C)) (intos : List (Option ℕ)) → first_peer k test i rows intos ≡ Some r → First test i rows intos r
  first_at test i r [] intos h = absurd (cc)
  first_at test i r (row ∷ rows) [] h = absurd (cc)
  first_at test i r (row ∷ rows) (Some s ∷ intos) h = first_there test rows intos i r row (Some s) (first_at test (i + 1) r rows intos h)
  first_at test i r (row ∷ rows) (None ∷ intos) h = first_here test i r row rows intos (first_at test (i + 1) r rows intos) (test row) refl h

  if_none : (i : ℕ) (b : Bool) (o : Option ℕ) → (if b then Some i else o) ≡ None → (b ≡ false) × (o ≡ None)
  if_none i true o h = absurd (cc)
  if_none i false o h = (refl, h)

  -- where there is no first peer, no free row passes
  pub no_first : (test : Row M C → Bool) (i : ℕ) (rows : List (Row M C)) (intos : List (Option ℕ)) → first_peer k test i rows intos ≡ None → (j : ℕ) (row : Row M C) → At rows j row → At intos j None → test row ≡ false
  no_first test i [] intos h j w a b = elim a [ ]
  no_first test i (row ∷ rows) [] h j w a b = elim b [ ]
  no_first test i (row ∷ rows) (Some s ∷ intos) h j w (here) b = elim b [ ]
  no_first test i (row ∷ rows) (None ∷ intos) h j w (here) (here) = (if_none i (test row) (first_peer k test (i + 1) rows intos) h).0
  no_first test i (row ∷ rows) (None ∷ intos) h j w (there {i = l} a) (there b) = no_first test (i + 1) rows intos (if_none i (test row) (first_peer k test (i + 1) rows intos) h).1 l w a b
  no_first test i (row ∷ rows) (Some s ∷ intos) h j w (there {i = l} a) (there b) = no_first test (i + 1) rows intos h l w a b

  passes_is : (test : M → Bool) (cover : C) (level : ℕ) (row : Row M C) (o : Option M) → row.shape ≡ o → has_peer k test cover level row ≡ true → Peer test cover level row
  passes_is test cover level row None e h = absurd (let p : has_peer k test cover level row ≡ false = rw e refl in cc)
  passes_is test cover level row (Some m) e h =
      let p : k.same row.cover cover && (row.level == level) && test m ≡ true = rw e at h in
      let q : k.same row.cover cover && (row.level == level) ≡ true = and_left (k.same row.cover cover && (row.level == level)) (test m) p in
      record { m = m; shape = e; cover_is = and_left (k.same row.cover cover) (row.level == level) q; level_is = eqb-true row.level level (and_right (k.same row.cover cover) (row.level == level) q); passes = and_right (k.same row.cover cover && (row.level == level)) (test m) p }

  pub peer_is : (test : M → Bool) (cover : C) (level : ℕ) (row : Row M C) → has_peer k test cover level row ≡ true → Peer test cover level row
  peer_is test cover level row h = passes_is test cover level row row.shape refl h

  pub peer_yes : (test : M → Bool) (cover : C) (level : ℕ) (row : Row M C) → Peer test cover level row → has_peer k test cover level row ≡ true
  peer_yes test cover level row p = rw (p.shape, p.cover_is, eq-eqb row.level level p.level_is, p.passes) refl

module _ {M C : Type 0} (k : Calculus M C) where
  -- row r stands for row i: a host of its cover and level that subsumes it
  pub record Rep (rows : List (Row M C)) (into : List (Option ℕ)) (row : Row M C) (r : ℕ) : Type 0 where
    pub rep : Row M C
    pub at : At rows r rep
    pub general : M
    pub special : M
    pub rep_shape : rep.shape ≡ Some general
    pub row_shape : row.shape ≡ Some special
    pub over : k.over general special ≡ true
    pub cover : rep.cover ≡ row.cover
    pub level : rep.level ≡ row.level
    -- it is a host: its own representative, if any, has a greater number
    pub host : (s : ℕ) → At into r (Some s) → r < s

  pub record Standing (rows : List (Row M C)) (into : List (Option ℕ)) : Type 0 where
    pub same_length : length into ≡ length rows
    pub reps : (i r : ℕ) (row : Row M C) → At rows i row → At into i (Some r) → Rep rows into row r
    pub apart : (i j : ℕ) (a b : Row M C) (m n : M) → At rows i a → At rows j b → At into i None → At into j None → a.shape ≡ Some m → b.shape ≡ Some n → a.cover ≡ b.cover → a.level ≡ b.level → k.over m n ≡ true → i ≡ j

  pub standing_empty : Standing [] []
  standing_empty = record { same_length = refl; reps = λ i r row a b. elim a [ ]; apart = λ i j a b m n p. elim p [ ] }

  rep_more : (rows : List (Row M C)) (into : List (Option ℕ)) (w row : Row M C) (v : Option ℕ) (r : ℕ) → length into ≡ length rows → Rep rows into row r → Rep (rows ++ w ∷ []) (into ++ v ∷ []) row r
  rep_more rows into w row v r e p =
      record {
        rep = p.rep;
        at = at_append (w ∷ []) p.at;
        general = p.general;
        special = p.special;
        rep_shape = p.rep_shape;
        row_shape = p.row_shape;
        over = p.over;
        cover = p.cover;
        level = p.level;
        host = λ s a. elim (at_snoc into v r (Some s) a) [ old b ↦ p.host s b | new q t ↦ absurd (let l : r < length rows = at_below p.at in omega arith) ];
      }

  -- a partial
  pub standing_partial : (rows : List (Row M C)) (into : List (Option ℕ)) (w : Row M C) → w.shape ≡ None → Standing rows into → Standing (rows ++ w ∷ []) (into ++ None ∷ [])
  standing_partial rows into w none st =
      record {
        same_length = grind (arith, common_steps, st.same_length);
        reps = λ i r row a b. reps_of i r row (at_snoc rows w i row a) (at_snoc into None i (Some r) b);
        apart = λ i j a b m n p q f g x y c l o. apart_of i j a b m n (at_snoc rows w i a p) (at_snoc rows w j b q) (at_snoc into None i None f) (at_snoc into None j None g) x y c l o;
      }
    where
      reps_of : (i r : ℕ) (row : Row M C) → Snoc rows w i row → Snoc into None i (Some r) → Rep (rows ++ w ∷ []) (into ++ None ∷ []) row r
      reps_of i r row (old a) (old b) = rep_more rows into w row None r st.same_length (st.reps i r row a b)
      reps_of i r row (new p q) (old b) = absurd (let l : i < length into = at_below b in omega (arith, st.same_length))
      reps_of i r row s (new p q) = absurd (cc)

      apart_of : (i j : ℕ) (a b : Row M C) (m n : M) → Snoc rows w i a → Snoc rows w j b → Snoc into None i None → Snoc into None j None → a.shape ≡ Some m → b.shape ≡ Some n → a.cover ≡ b.cover → a.level ≡ b.level → k.over m n ≡ true → i ≡ j
      apart_of i j a b m n (old p) (old q) (old f) (old g) x y c l o = st.apart i j a b m n p q f g x y c l o
      apart_of i j a b m n (new p e) q f g x y c l o = absurd (let z = ap (λ (t : Row M C). t.shape) e in cc)
      apart_of i j a b m n p (new q e) f g x y c l o = absurd (let z = ap (λ (t : Row M C). t.shape) e in cc)
      apart_of i j a b m n (old p) q (new f e) g x y c l o = absurd (let z : i < length rows = at_below p in omega (arith, st.same_length))
      apart_of i j a b m n p (old q) f (new g e) x y c l o = absurd (let z : j < length rows = at_below q in omega (arith, st.same_length))

  -- a row that is packed into r
  pub standing_packed : (laws : Laws k) (rows : List (Row M C)) (into : List (Option ℕ)) (w : Row M C) (m : M) (r : ℕ) → w.shape ≡ Some m → first_peer k (has_peer k (λ h. k.over h m) w.cover w.level) 0 rows into ≡ Some r → Standing rows into → Standing (rows ++ w ∷ []) (into ++ Some r ∷ [])
  standing_packed laws rows into w m r shape first st =
      record {
        same_length = grind (arith, common_steps, st.same_length);
        reps = λ i s row a b. reps_of i s row (at_snoc rows w i row a) (at_snoc into (Some r) i (Some s) b);
        apart = λ i j a b n o p q f g x y c l v. apart_of i j a b n o (at_snoc rows w i a p) (at_snoc rows w j b q) (at_snoc into (Some r) i None f) (at_snoc into (Some r) j None g) x y c l v;
      }
    where
      test : M → Bool
      test h = k.over h m

      of_first : First k (has_peer k (λ h. k.over h m) w.cover w.level) 0 rows into r → (row : Row M C) → w ≡ row → Rep (rows ++ w ∷ []) (into ++ Some r ∷ []) row r
      of_first f row e =
          let p = peer_is k (λ h. k.over h m) w.cover w.level f.row f.passes in
          let q : r ≡ f.place = omega (arith, f.number) in
          rep_more rows into w row (Some r) r st.same_length
          (record {
            rep = f.row;
            at = subst (λ i. At rows i f.row) (sym q) f.at;
            general = p.m;
            special = m;
            rep_shape = p.shape;
            row_shape = ap (λ (t : Row M C). t.shape) (sym e) ∙ shape;
            over = p.passes;
            cover = (laws.same_is f.row.cover w.cover).0 p.cover_is ∙ ap (λ (t : Row M C). t.cover) e;
            level = p.level_is ∙ ap (λ (t : Row M C). t.level) e;
            host = λ s a. absurd (let z : Some s ≡ None = at_one a (subst (λ i. At into i None) (sym q) f.free) in cc);
          })

      reps_of : (i s : ℕ) (row : Row M C) → Snoc rows w i row → Snoc into (Some r) i (Some s) → Rep (rows ++ w ∷ []) (into ++ Some r ∷ []) row s
      reps_of i s row (old a) (old b) = rep_more rows into w row (Some r) s st.same_length (st.reps i s row a b)
      reps_of i s row (new p q) (old b) = absurd (let l : i < length into = at_below b in omega (arith, st.same_length))
      reps_of i s row (old a) (new p q) = absurd (let l : i < length rows = at_below a in omega (arith, st.same_length))
      reps_of i s row (new p e) (new g q) = let z : r ≡ s = cc in subst (λ t. Rep (rows ++ w ∷ []) (into ++ Some r ∷ []) row t) z (of_first (first_at k (has_peer k (λ h. k.over h m) w.cover w.level) 0 r rows into first) row e)

      apart_of : (i j : ℕ) (a b : Row M C) (n o : M) → Snoc rows w i a → Snoc rows w j b → Snoc into (Some r) i None → Snoc into (Some r) j None → a.shape ≡ Some n → b.shape ≡ Some o → a.cover ≡ b.cover → a.level ≡ b.level → k.over n o ≡ true → i ≡ j
      apart_of i j a b n o (old p) (old q) (old f) (old g) x y c l v = st.apart i j a b n o p q f g x y c l v
      apart_of i j a b n o p q (new f e) g x y c l v = absurd (cc)
      apart_of i j a b n o p q f (new g e) x y c l v = absurd (cc)
      apart_of i j a b n o (new p e) q (old f) g x y c l v = absurd (let z : i < length into = at_below f in omega (arith, st.same_length))
      apart_of i j a b n o p (new q e) f (old g) x y c l v = absurd (let z : j < length into = at_below g in omega (arith, st.same_length))

  -- a row that stays live was live and does not pass
  pub record Stayed (into : List (Option ℕ)) (test : Row M C → Bool) (i : ℕ) (a : Row M C) : Type 0 where
    pub was : At into i None
    pub fails : test a ≡ false

  -- a new host, before which what it subsumes is frosted
  pub standing_host : (laws : Laws k) (rows : List (Row M C)) (into : List (Option ℕ)) (w : Row M C) (m : M) → w.shape ≡ Some m → first_peer k (has_peer k (λ h. k.over h m) w.cover w.level) 0 rows into ≡ None → Standing rows into → Standing (rows ++ w ∷ []) (frosted k (has_peer k (k.over m) w.cover w.level) (length rows) rows into ++ None ∷ [])
  standing_host laws rows into w m shape first st =
      record {
        same_length = grind (arith, common_steps, st.same_length, length-frosted k (has_peer k (k.over m) w.cover w.level) (length rows) rows into);
        reps = λ i s row a b. reps_of i s row (at_snoc rows w i row a) (at_snoc (cold) None i (Some s) b);
        apart = λ i j a b n o p q f g x y c l v. apart_of i j a b n o (at_snoc rows w i a p) (at_snoc rows w j b q) (at_snoc (cold) None i None f) (at_snoc (cold) None j None g) x y c l v;
      }
    where
      cold : List (Option ℕ)
      cold = frosted k (has_peer k (k.over m) w.cover w.level) (length rows) rows into

      test : Row M C → Bool
      test = has_peer k (k.over m) w.cover w.level

      at_cold : (i : ℕ) (v : Option ℕ) → At cold i v → Frost k (has_peer k (k.over m) w.cover w.level) (length rows) rows into i v
      at_cold i v a = at_frost k (has_peer k (k.over m) w.cover w.level) (length rows) rows into i v a

      -- what has a representative after the frost is below it
      cold_host : (r s : ℕ) → r < length rows → ((t : ℕ) → At into r (Some t) → r < t) → Frost k (has_peer k (k.over m) w.cover w.level) (length rows) rows into r (Some s) → r < s
      cold_host r s l h (written t e a) = let z : t ≡ s = cc in h s (subst (λ u. At into r (Some u)) z a)
      cold_host r s l h (frozen row a b t e) = let z : s ≡ length rows = cc in omega arith
      cold_host r s l h (stays row a b t e) = absurd (cc)
      cold_host r s l h (beyond p) = absurd (omega arith)

      rep_old : (row : Row M C) (s : ℕ) → Rep rows into row s → Rep (rows ++ w ∷ []) (cold ++ None ∷ []) row s
      rep_old row s p =
          record {
            rep = p.rep;
            at = at_append (w ∷ []) p.at;
            general = p.general;
            special = p.special;
            rep_shape = p.rep_shape;
            row_shape = p.row_shape;
            over = p.over;
            cover = p.cover;
            level = p.level;
            host = λ t a. elim (at_snoc cold None s (Some t) a) [ old b ↦ cold_host s t (at_below p.at) p.host (at_cold s (Some t) b) | new q z ↦ absurd (cc) ];
          }

      rep_new : (row : Row M C) → Peer k (k.over m) w.cover w.level row → Rep (rows ++ w ∷ []) (cold ++ None ∷ []) row (length rows)
      rep_new row p =
          record {
            rep = w;
            at = at_last rows w;
            general = m;
            special = p.m;
            rep_shape = shape;
            row_shape = p.shape;
            over = p.passes;
            cover = sym ((laws.same_is row.cover w.cover).0 p.cover_is);
            level = sym p.level_is;
            host = λ t a. elim (at_snoc cold None (length rows) (Some t) a) [ old b ↦ absurd (let z : length rows < length cold = at_below b in omega (arith, st.same_length, length-frosted k (has_peer k (k.over m) w.cover w.level) (length rows) rows into)) | new q z ↦ absurd (cc) ];
          }

      of_frost : (i s : ℕ) (row : Row M C) → At rows i row → Frost k (has_peer k (k.over m) w.cover w.level) (length rows) rows into i (Some s) → Rep (rows ++ w ∷ []) (cold ++ None ∷ []) row s
      of_frost i s row a (written t e b) = rep_old row s (st.reps i s row a (let z : t ≡ s = cc in subst (λ u. At into i (Some u)) z b))
      of_frost i s row a (frozen row' b c t e) =
          let z : length rows ≡ s = cc in
          subst (λ u. Rep (rows ++ w ∷ []) (cold ++ None ∷ []) row u) z (rep_new row (peer_is k (k.over m) w.cover w.level row (subst (λ r. has_peer k (k.over m) w.cover w.level r ≡ true) (at_one b a) t)))
      of_frost i s row a (stays row' b c t e) = absurd (cc)
      of_frost i s row a (beyond p) = absurd (let z : i < length rows = at_below a in omega arith)

      reps_of : (i s : ℕ) (row : Row M C) → Snoc rows w i row → Snoc cold None i (Some s) → Rep (rows ++ w ∷ []) (cold ++ None ∷ []) row s
      reps_of i s row (old a) (old b) = of_frost i s row a (at_cold i (Some s) b)
      reps_of i s row (new p e) (old b) = absurd (let z : i < length cold = at_below b in omega (arith, st.same_length, length-frosted k (has_peer k (k.over m) w.cover w.level) (length rows) rows into))
      reps_of i s row a (new q z) = absurd (cc)

      stayed : (i : ℕ) (a : Row M C) → At rows i a → Frost k (has_peer k (k.over m) w.cover w.level) (length rows) rows into i None → Stayed into (has_peer k (k.over m) w.cover w.level) i a
      stayed i a p (written t e b) = absurd (cc)
      stayed i a p (frozen row b c t e) = absurd (cc)
      stayed i a p (stays row b c t e) = record { was = c; fails = subst (λ r. has_peer k (k.over m) w.cover w.level r ≡ false) (at_one b p) t }
      stayed i a p (beyond q) = absurd (let z : i < length rows = at_below p in omega arith)

      apart_of : (i j : ℕ) (a b : Row M C) (n o : M) → Snoc rows w i a → Snoc rows w j b → Snoc cold None i None → Snoc cold None j None → a.shape ≡ Some n → b.shape ≡ Some o → a.cover ≡ b.cover → a.level ≡ b.level → k.over n o ≡ true → i ≡ j
      apart_of i j a b n o (old p) (old q) (old f) (old g) x y c l v = st.apart i j a b n o p q (stayed i a p (at_cold i None f)).was (stayed j b q (at_cold j None g)).was x y c l v
      apart_of i j a b n o (new p e) (old q) f (old g) x y c l v =
          let z : m ≡ n = let u = ap (λ (t : Row M C). t.shape) e in cc in
          let yes = peer_yes k (k.over m) w.cover w.level b (record { m = o; shape = y; cover_is = (laws.same_is b.cover w.cover).1 (sym c ∙ ap (λ (t : Row M C). t.cover) (sym e)); level_is = sym l ∙ ap (λ (t : Row M C). t.level) (sym e); passes = subst (λ u. k.over u o ≡ true) (sym z) v }) in
          let no = (stayed j b q (at_cold j None g)).fails in
          absurd (cc)
      apart_of i j a b n o (old p) (new q e) (old f) g x y c l v =
          let z : m ≡ o = let u = ap (λ (t : Row M C). t.shape) e in cc in
          let yes = peer_yes k (λ h. k.over h m) w.cover w.level a (record { m = n; shape = x; cover_is = (laws.same_is a.cover w.cover).1 (c ∙ ap (λ (t : Row M C). t.cover) (sym e)); level_is = l ∙ ap (λ (t : Row M C). t.level) (sym e); passes = subst (λ u. k.over n u ≡ true) (sym z) v }) in
          let no = no_first k (has_peer k (λ h. k.over h m) w.cover w.level) 0 rows into first i a p (stayed i a p (at_cold i None f)).was in
          absurd (cc)
      apart_of i j a b n o (new p e) (new q d) f g x y c l v = omega arith
      apart_of i j a b n o (old p) q (new f e) g x y c l v = absurd (let z : i < length rows = at_below p in omega (arith, st.same_length, length-frosted k (has_peer k (k.over m) w.cover w.level) (length rows) rows into))
      apart_of i j a b n o p (old q) f (new g e) x y c l v = absurd (let z : j < length rows = at_below q in omega (arith, st.same_length, length-frosted k (has_peer k (k.over m) w.cover w.level) (length rows) rows into))
