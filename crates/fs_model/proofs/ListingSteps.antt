-- The steps of listing a structure path by path.
use Rattle.std.proofs.Common.{ℕ, zero, suc, ◌≡◌, ◌≤◌, ◌<◌, ◌+◌, ◌-◌, ◌⊎◌, inl, inr, Option, Some, None, List, [], ◌∷◌, ◌++◌, length, refl, sym, ◌∙◌, ap, subst, arith, append-nil, length-append}
use Rattle.std.proofs.lemmas.Bool.{cases_lt}
use Rattle.std.proofs.lemmas.List.{length_push, get_or_push, get_or_append_left, get_or-append_right}
use Rattle.fs_model.specs.Claims.{Path}
use Rattle.fs_model.specs.Table.{Table, walk}
use Rattle.fs_model.specs.Numbering.{IsBefore, shorter, seen, IsNumbered, HasHeights}
use Rattle.fs_model.specs.Listing.{AreLeast, path_at, IsIn, Waits, Listing}
use Rattle.fs_model.proofs.TableLemmas.{walk-append, walk-prefix, walk_ends}
use Rattle.fs_model.proofs.NumberingLemmas.{IsBefore-trans, IsBefore-itself}
use Rattle.fs_model.proofs.PathLemmas.{before_extension}
use Rattle.fs_model.proofs.ListingLemmas.{prefix_or_before, last_feature, one_goes_on, root_least, comes_from, arc_path_leads, in_left, in_right, in_either, in_one}

-- a path that waits is listed
module _ (t : Table) (least : ℕ → Path) (nt : IsNumbered t least) (height : ℕ → ℕ) (low : HasHeights t height) (listed rest : List Path) (p : Path)
    (g : Listing t least listed (rest ++ p ∷ [])) where
  abbrev waiting : List Path
  waiting = rest ++ p ∷ []

  abbrev listed' : List Path
  listed' = listed ++ p ∷ []

  last_in : length rest < length waiting
  last_in = let l = length_push rest p in omega arith

  last_is : path_at waiting (length rest) ≡ p
  last_is = get_or_push rest p [] (length rest) refl

  rest_is : (j : ℕ) → j < length rest → path_at waiting j ≡ path_at rest j
  rest_is j h = get_or_append_left rest (p ∷ []) [] j h

  pub next_waits : Waits t least listed p
  next_waits = subst (Waits t least listed) last_is (g.waits (length rest) last_in)

  -- what was listed is before it
  listed_before : (i : ℕ) → i < length listed → IsBefore (path_at listed i) p
  listed_before i h = subst (IsBefore (path_at listed i)) last_is (g.before i (length rest) h last_in)

  -- what waits is behind it
  rest_behind : (j : ℕ) → j < length rest → IsBefore p (path_at rest j)
  rest_behind j h =
      subst (λ z. IsBefore z (path_at rest j)) last_is
      (subst (λ z. IsBefore (path_at waiting (length rest)) z) (rest_is j h) (g.falls j (length rest) h last_in))

  pub not_listed : IsIn listed p → ⊥
  not_listed x = IsBefore-itself p (subst (λ z. IsBefore z p) x.2 (listed_before x.0 x.1))

  -- each node whose least path is before it was listed
  pub earlier : (k n : ℕ) → n < k → n < t.size → IsBefore (least n) p → IsIn listed (least n)
  earlier zero n h l b = absurd (omega arith)
  earlier (suc k) n h l b = go (comes_from t least nt height low n l) (λ m i j c. earlier k m i j c)
    where
      waits_not : IsIn waiting (least n) → ⊥
      waits_not x = pick (cases_lt x.0 (length rest))
        where
          pick : (x.0 < length rest) ⊎ (length rest ≤ x.0) → ⊥
          pick (inl i) = IsBefore-itself p (IsBefore-trans (rest_behind x.0 i) (subst (λ z. IsBefore z p) (sym x.2 ∙ rest_is x.0 i) b))
          pick (inr i) =
              let size = length_push rest p in
              let k' = x.1 in
              let e : x.0 ≡ length rest = omega arith in
              IsBefore-itself p (subst (λ z. IsBefore z p) (sym x.2 ∙ ap (path_at waiting) e ∙ last_is) b)

      go : (n ≡ 0) ⊎ ((m : ℕ) × (f : ℕ) × (m < n) × (t.arc m f ≡ Some n) × (least n ≡ least m ++ f ∷ [])) →
          ((m : ℕ) → m < k → m < t.size → IsBefore (least m) p → IsIn listed (least m)) → IsIn listed (least n)
      go (inl e) rec = let r = g.root in (0, r.0, r.1 ∙ sym (ap least e ∙ root_least t least nt height low))
      go (inr x) rec =
          let less = x.2 in
          let m_in : x.0 < t.size = omega arith in
          let up : IsBefore (least x.0) (least n) = subst (λ z. IsBefore (least x.0) z) (sym x.4) (before_extension (least x.0) x.1 []) in
          either (g.expanded x.0 x.1 n m_in (rec x.0 (omega arith) m_in (IsBefore-trans up b)) x.3)
        where
          either : IsIn listed (least x.0 ++ x.1 ∷ []) ⊎ IsIn waiting (least x.0 ++ x.1 ∷ []) → IsIn listed (least n)
          either (inl a) = subst (IsIn listed) (sym x.4) a
          either (inr a) = absurd (waits_not (subst (IsIn waiting) (sym x.4) a))

  -- the lists with the path listed, before new paths wait
  more_rises : (i j : ℕ) → i < j → j < length listed' → IsBefore (path_at listed' i) (path_at listed' j)
  more_rises i j h k = go (cases_lt j (length listed))
    where
      go : (j < length listed) ⊎ (length listed ≤ j) → IsBefore (path_at listed' i) (path_at listed' j)
      go (inl l) =
          subst (λ z. IsBefore (path_at listed' i) z) (sym (get_or_append_left listed (p ∷ []) [] j l))
          (subst (λ z. IsBefore z (path_at listed j)) (sym (get_or_append_left listed (p ∷ []) [] i (omega arith))) (g.rises i j h l))
      go (inr l) =
          let size = length_push listed p in
          let e : length listed ≡ j = omega arith in
          subst (λ z. IsBefore (path_at listed' i) z) (sym (get_or_push listed p [] j e))
          (subst (λ z. IsBefore z p) (sym (get_or_append_left listed (p ∷ []) [] i (omega arith))) (listed_before i (omega arith)))

  rest_falls : (i j : ℕ) → i < j → j < length rest → IsBefore (path_at rest j) (path_at rest i)
  rest_falls i j h k =
      subst (λ z. IsBefore z (path_at rest i)) (rest_is j k)
      (subst (λ z. IsBefore (path_at waiting j) z) (rest_is i (omega arith)) (g.falls i j h (let l = last_in in omega arith)))

  -- all that is listed is before a path that is behind the new one
  all_before : (q : Path) → IsBefore p q → (i : ℕ) → i < length listed' → IsBefore (path_at listed' i) q
  all_before q b i h = go (cases_lt i (length listed))
    where
      go : (i < length listed) ⊎ (length listed ≤ i) → IsBefore (path_at listed' i) q
      go (inl l) = subst (λ z. IsBefore z q) (sym (get_or_append_left listed (p ∷ []) [] i l)) (IsBefore-trans (listed_before i l) b)
      go (inr l) =
          let size = length_push listed p in
          let e : length listed ≡ i = omega arith in
          subst (λ z. IsBefore z q) (sym (get_or_push listed p [] i e)) b

  more_root : (0 < length listed') × (path_at listed' 0 ≡ [])
  more_root = let r = g.root in let size = length_push listed p in let h = r.0 in (omega arith, get_or_append_left listed (p ∷ []) [] 0 r.0 ∙ r.1)

  still_waits : (q : Path) → Waits t least listed q → Waits t least listed' q
  still_waits q w = record { arc_path = w.arc_path; from_listed = in_left listed (p ∷ []) _ w.from_listed }

  rest_waits : (j : ℕ) → j < length rest → Waits t least listed (path_at rest j)
  rest_waits j h = subst (Waits t least listed) (rest_is j h) (g.waits j (let l = last_in in omega arith))

  -- a path that waited still waits, or is listed
  moves : (q : Path) (more : List Path) → IsIn listed q ⊎ IsIn waiting q → IsIn listed' q ⊎ IsIn (rest ++ more) q
  moves q more (inl x) = inl (in_left listed (p ∷ []) q x)
  moves q more (inr x) = go (in_either rest (p ∷ []) q x)
    where
      go : IsIn rest q ⊎ IsIn (p ∷ []) q → IsIn listed' q ⊎ IsIn (rest ++ more) q
      go (inl y) = inr (in_left rest more q y)
      go (inr y) = inl (in_right listed (p ∷ []) q y)

  -- the node was listed before
  pub lists_again : IsIn listed (least next_waits.arc_path.to) → Listing t least listed' rest
  lists_again old = record {
    root = more_root;
    rises = more_rises;
    falls = rest_falls;
    before = λ i j h k. all_before (path_at rest j) (rest_behind j k) i h;
    waits = λ j h. still_waits (path_at rest j) (rest_waits j h);
    expanded = λ n f m h x a. back (path n f) (from_old n f m h a (in_either listed (p ∷ []) (least n) x));
  }
    where
      path : ℕ → ℕ → Path
      path n f = least n ++ f ∷ []

      back : (q : Path) → IsIn listed' q ⊎ IsIn (rest ++ []) q → IsIn listed' q ⊎ IsIn rest q
      back q (inl y) = inl y
      back q (inr y) = inr (subst (λ z. IsIn z q) (append-nil rest) y)

      from_old : (n f m : ℕ) → n < t.size → t.arc n f ≡ Some m → IsIn listed (least n) ⊎ IsIn (p ∷ []) (least n) →
          IsIn listed' (path n f) ⊎ IsIn (rest ++ []) (path n f)
      from_old n f m h a (inl y) = moves (least n ++ f ∷ []) [] (g.expanded n f m h y a)
      from_old n f m h a (inr y) =
          let is : p ≡ least n = in_one p (least n) y in
          let w = next_waits.arc_path in
          let same : Some n ≡ Some w.to = sym (nt.is_least n h).leads ∙ ap (walk t 0) (sym is) ∙ arc_path_leads t least nt height low p w in
          let node : n ≡ w.to = cc in
          absurd (not_listed (subst (IsIn listed) (sym (is ∙ ap least node)) old))

  -- the node is listed for the first time, and the paths of its arcs wait
  module _ (new : IsIn listed (least next_waits.arc_path.to) → ⊥) where
    abbrev x : ℕ
    x = next_waits.arc_path.to

    x_in : x < t.size
    x_in = (walk_ends t nt.table 0 x p nt.filled (arc_path_leads t least nt height low p next_waits.arc_path)).0

    pub least_is : least x ≡ p
    least_is = go ((nt.is_least x x_in).least p (arc_path_leads t least nt height low p next_waits.arc_path))
      where
        go : (least x ≡ p) ⊎ IsBefore (least x) p → least x ≡ p
        go (inl e) = e
        go (inr b) = absurd (new (earlier (suc x) x (omega arith) x_in b))

    -- what waits doesn't go on from the path
    beside : (q : Path) → Waits t least listed q → (f h : ℕ) (r : Path) → q ≡ p ++ h ∷ r → ⊥
    beside q w f h r e = go (one_goes_on p (least w.arc_path.from) r h w.arc_path.feat (sym e ∙ w.arc_path.path))
      where
        go : (p ≡ least w.arc_path.from) ⊎ ((h : ℕ) × (r : Path) × (least w.arc_path.from ≡ p ++ h ∷ r)) → ⊥
        go (inl d) = not_listed (subst (IsIn listed) (sym d) w.from_listed)
        go (inr d) =
            let i = w.from_listed in
            let b : IsBefore (least w.arc_path.from) p = subst (λ z. IsBefore z p) i.2 (listed_before i.0 i.1) in
            let c : IsBefore p (least w.arc_path.from) = subst (λ z. IsBefore p z) (sym d.2) (before_extension p d.0 d.1) in
            IsBefore-itself p (IsBefore-trans c b)

    new_before : (q : Path) → Waits t least listed q → IsBefore p q → (f : ℕ) → IsBefore (p ++ f ∷ []) q
    new_before q w b f = go (prefix_or_before b)
      where
        go : ((h : ℕ) × (r : Path) × (q ≡ p ++ h ∷ r)) ⊎ ((r : Path) → IsBefore (p ++ r) q) → IsBefore (p ++ f ∷ []) q
        go (inl y) = absurd (beside q w f y.0 y.1 y.2)
        go (inr y) = y (f ∷ [])

    pub lists_first : (more : List Path) → ((i j : ℕ) → i < j → j < length more → IsBefore (path_at more j) (path_at more i)) →
        ((j : ℕ) → j < length more → (f : ℕ) × (m : ℕ) × (t.arc x f ≡ Some m) × (path_at more j ≡ p ++ f ∷ [])) →
        ((f m : ℕ) → t.arc x f ≡ Some m → IsIn more (p ++ f ∷ [])) → Listing t least listed' (rest ++ more)
    lists_first more falls arcs all = record {
      root = more_root;
      rises = more_rises;
      falls = λ i j h k. falls_at i j h k (cases_lt j (length rest)) (cases_lt i (length rest));
      before = λ i j h k. all_before (path_at (rest ++ more) j) (behind j k (cases_lt j (length rest))) i h;
      waits = λ j h. waits j h (cases_lt j (length rest));
      expanded = λ n f m h y a. expanded n f m h a (in_either listed (p ∷ []) (least n) y);
    }
      where
        size : length (rest ++ more) ≡ length rest + length more
        size = length-append rest more

        left_is : (j : ℕ) → j < length rest → path_at (rest ++ more) j ≡ path_at rest j
        left_is j h = get_or_append_left rest more [] j h

        right_is : (j : ℕ) → length rest ≤ j → path_at (rest ++ more) j ≡ path_at more (j - length rest)
        right_is j h = get_or-append_right rest more (length rest) j [] refl h

        behind : (j : ℕ) → j < length (rest ++ more) → (j < length rest) ⊎ (length rest ≤ j) → IsBefore p (path_at (rest ++ more) j)
        behind j k (inl l) = subst (IsBefore p) (sym (left_is j l)) (rest_behind j l)
        behind j k (inr l) =
            let s = size in
            let a = arcs (j - length rest) (omega arith) in
            subst (IsBefore p) (sym (right_is j l ∙ a.3)) (before_extension p a.0 [])

        falls_at : (i j : ℕ) → i < j → j < length (rest ++ more) → (j < length rest) ⊎ (length rest ≤ j) → (i < length rest) ⊎ (length rest ≤ i) →
            IsBefore (path_at (rest ++ more) j) (path_at (rest ++ more) i)
        falls_at i j h k (inl l) _ =
            subst (λ z. IsBefore z (path_at (rest ++ more) i)) (sym (left_is j l))
            (subst (λ z. IsBefore (path_at rest j) z) (sym (left_is i (omega arith))) (rest_falls i j h l))
        falls_at i j h k (inr l) (inl m) =
            let s = size in
            let a = arcs (j - length rest) (omega arith) in
            subst (λ z. IsBefore z (path_at (rest ++ more) i)) (sym (right_is j l ∙ a.3))
            (subst (λ z. IsBefore (p ++ a.0 ∷ []) z) (sym (left_is i m)) (new_before (path_at rest i) (rest_waits i m) (rest_behind i m) a.0))
        falls_at i j h k (inr l) (inr m) =
            let s = size in
            subst (λ z. IsBefore z (path_at (rest ++ more) i)) (sym (right_is j l))
            (subst (λ z. IsBefore (path_at more (j - length rest)) z) (sym (right_is i m)) (falls (i - length rest) (j - length rest) (omega arith) (omega arith)))

        waits : (j : ℕ) → j < length (rest ++ more) → (j < length rest) ⊎ (length rest ≤ j) → Waits t least listed' (path_at (rest ++ more) j)
        waits j h (inl l) = subst (Waits t least listed') (sym (left_is j l)) (still_waits (path_at rest j) (rest_waits j l))
        waits j h (inr l) =
            let s = size in
            let a = arcs (j - length rest) (omega arith) in
            record {
              arc_path = record {
                from = x;
                feat = a.0;
                to = a.1;
                in_table = x_in;
                arc = a.2;
                path = right_is j l ∙ a.3 ∙ ap (λ z. z ++ a.0 ∷ []) (sym least_is);
              };
              from_listed = subst (IsIn listed') (sym least_is) (in_right listed (p ∷ []) p (0, omega arith, refl));
            }

        expanded : (n f m : ℕ) → n < t.size → t.arc n f ≡ Some m → IsIn listed (least n) ⊎ IsIn (p ∷ []) (least n) →
            IsIn listed' (least n ++ f ∷ []) ⊎ IsIn (rest ++ more) (least n ++ f ∷ [])
        expanded n f m h a (inl y) = moves (least n ++ f ∷ []) more (g.expanded n f m h y a)
        expanded n f m h a (inr y) =
            let is : p ≡ least n = in_one p (least n) y in
            let w = next_waits.arc_path in
            let same : Some n ≡ Some w.to = sym (nt.is_least n h).leads ∙ ap (walk t 0) (sym is) ∙ arc_path_leads t least nt height low p w in
            let node : n ≡ x = cc in
            inr (in_right rest more (least n ++ f ∷ []) (subst (λ z. IsIn more (z ++ f ∷ [])) is (all f m (ap (λ z. t.arc z f) (sym node) ∙ a))))

-- where nothing waits, all that is to be listed is listed
module _ (t : Table) (least : ℕ → Path) (nt : IsNumbered t least) (height : ℕ → ℕ) (low : HasHeights t height) (listed : List Path) (g : Listing t least listed []) where
  nothing : {q : Path} → IsIn [] q → ⊥
  nothing y = let h = y.1 in omega arith

  all_listed : (k n : ℕ) → n < k → n < t.size → IsIn listed (least n)
  all_listed zero n h l = absurd (omega arith)
  all_listed (suc k) n h l = go (comes_from t least nt height low n l) (λ m i j. all_listed k m i j)
    where
      go : (n ≡ 0) ⊎ ((m : ℕ) × (f : ℕ) × (m < n) × (t.arc m f ≡ Some n) × (least n ≡ least m ++ f ∷ [])) →
          ((m : ℕ) → m < k → m < t.size → IsIn listed (least m)) → IsIn listed (least n)
      go (inl e) rec = let r = g.root in (0, r.0, r.1 ∙ sym (ap least e ∙ root_least t least nt height low))
      go (inr y) rec =
          let less = y.2 in
          let m_in : y.0 < t.size = omega arith in
          pick (g.expanded y.0 y.1 n m_in (rec y.0 (omega arith) m_in) y.3)
        where
          pick : IsIn listed (least y.0 ++ y.1 ∷ []) ⊎ IsIn [] (least y.0 ++ y.1 ∷ []) → IsIn listed (least n)
          pick (inl a) = subst (IsIn listed) (sym y.4) a
          pick (inr a) = absurd (nothing a)

  pub lists_whole : (p : Path) (n : ℕ) → walk t 0 p ≡ Some n → AreLeast (seen t) p → IsIn listed p
  lists_whole p n e first = go (last_feature p)
    where
      go : (p ≡ []) ⊎ ((q : Path) × (f : ℕ) × (p ≡ q ++ f ∷ [])) → IsIn listed p
      go (inl d) = let r = g.root in (0, r.0, r.1 ∙ sym d)
      go (inr d) =
          let at = walk-prefix t 0 n d.0 (d.1 ∷ []) (ap (walk t 0) (sym d.2) ∙ e) in
          let m = at.0 in
          let m_in = (walk_ends t nt.table 0 m d.0 nt.filled at.1).0 in
          let q_least = first d.0 [] d.1 m d.2 at.1 in
          let is : least m ≡ d.0 = one ((nt.is_least m m_in).least d.0 at.1) (q_least.least (least m) (nt.is_least m m_in).leads) in
          let along : walk t m (d.1 ∷ []) ≡ Some n = sym (walk-append t nt.table 0 m d.0 (d.1 ∷ []) at.1) ∙ ap (walk t 0) (sym d.2) ∙ e in
          let arc = first_arc m d.1 n along in
          pick d.0 d.1 d.2 m is (g.expanded m d.1 arc.0 m_in (all_listed (suc m) m (omega arith) m_in) arc.1)
        where
          one : {a b : Path} → (a ≡ b) ⊎ IsBefore a b → (b ≡ a) ⊎ IsBefore b a → a ≡ b
          one (inl x) _ = x
          one (inr x) (inl y) = sym y
          one (inr x) (inr y) = absurd (IsBefore-itself _ (IsBefore-trans x y))

          first_arc : (m f k : ℕ) → walk t m (f ∷ []) ≡ Some k → (j : ℕ) × (t.arc m f ≡ Some j)
          first_arc m f k w = at_arc (t.arc (t.live m) f) refl
            where
              at_arc : (o : Option ℕ) → t.arc (t.live m) f ≡ o → (j : ℕ) × (t.arc m f ≡ Some j)
              at_arc None is =
                  let stops : None ≡ walk t m (f ∷ []) = ap (λ o. elim o as (λ _. Option ℕ) [ None ↦ None | Some i ↦ walk t i [] ]) (sym is) in
                  absurd (let a : None ≡ Some k = stops ∙ w in cc)
              at_arc (Some j) is = (j, ap (λ z. t.arc z f) (sym (nt.live_is m)) ∙ is)

          pick : (q : Path) (f : ℕ) → p ≡ q ++ f ∷ [] → (m : ℕ) → least m ≡ q → IsIn listed (least m ++ f ∷ []) ⊎ IsIn [] (least m ++ f ∷ []) → IsIn listed p
          pick q f d m is (inl a) = subst (IsIn listed) (ap (λ z. z ++ f ∷ []) is ∙ sym d) a
          pick q f d m is (inr a) = absurd (nothing a)

-- the root is listed first
pub lists_begins : (t : Table) (least : ℕ → Path) → IsNumbered t least → (height : ℕ → ℕ) → HasHeights t height → (more : List Path) →
    ((i j : ℕ) → i < j → j < length more → IsBefore (path_at more j) (path_at more i)) →
    ((j : ℕ) → j < length more → (f : ℕ) × (m : ℕ) × (t.arc 0 f ≡ Some m) × (path_at more j ≡ f ∷ [])) →
    ((f m : ℕ) → t.arc 0 f ≡ Some m → IsIn more (f ∷ [])) → Listing t least ([] ∷ []) more
lists_begins t least nt height low more falls arcs all = record {
  root = (omega arith, refl);
  rises = λ i j h k. absurd (omega arith);
  falls = falls;
  before = λ i j h k.
      let e : 0 ≡ i = omega arith in
      let a = arcs j k in
      subst (λ z. IsBefore (path_at ([] ∷ []) i) z) (sym a.3) (subst (λ z. IsBefore (path_at ([] ∷ []) z) (a.0 ∷ [])) e shorter);
  waits = λ j h.
      let a = arcs j h in
      record {
        arc_path = record {
          from = 0;
          feat = a.0;
          to = a.1;
          in_table = nt.filled;
          arc = a.2;
          path = a.3 ∙ ap (λ z. z ++ a.0 ∷ []) (sym (root_least t least nt height low));
        };
        from_listed = (0, omega arith, sym (root_least t least nt height low));
      };
  expanded = λ n f m h x a.
      let p = in_one [] (least n) x in
      let same : Some (t.live 0) ≡ Some n = ap (walk t 0) p ∙ (nt.is_least n h).leads in
      let l = nt.live_is 0 in
      let node : n ≡ 0 = (let d : t.live 0 ≡ n = cc in omega arith) in
      inr (subst (λ z. IsIn more (z ++ f ∷ [])) p (all f m (ap (λ z. t.arc z f) (sym node) ∙ a)));
}
