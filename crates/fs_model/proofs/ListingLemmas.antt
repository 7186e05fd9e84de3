-- How a structure is listed path by path.
use Rattle.std.proofs.Common.{ℕ, ◌≡◌, ◌≤◌, ◌<◌, ◌+◌, ◌-◌, ◌⊎◌, inl, inr, Option, Some, None, List, [], ◌∷◌, ◌++◌, length, refl, sym, ◌∙◌, ap, subst, arith, length-append}
use Rattle.std.proofs.lemmas.Bool.{cases_lt}
use Rattle.std.proofs.lemmas.List.{get_or_append_left, get_or-append_right}
use Rattle.fs_model.specs.Claims.{Path}
use Rattle.fs_model.specs.Table.{Table, walk}
use Rattle.fs_model.specs.Numbering.{IsBefore, shorter, smaller, further, IsLeastPath, seen, IsNumbered, HasHeights}
use Rattle.fs_model.specs.Listing.{AreLeast, path_at, IsIn, IsArcPath}
use Rattle.fs_model.proofs.TableLemmas.{walk-append, walk-prefix, walk-step, walk_ends}
use Rattle.fs_model.proofs.NumberingLemmas.{IsBefore-trans, IsBefore-itself}
use Rattle.fs_model.proofs.SubsumeLemmas.{walk-height}
use Rattle.fs_model.proofs.PathLemmas.{not_before_nil, before_further, before_extension}

-- a path before another is a prefix of it, or stays before it with anything behind
pub prefix_or_before : {a p : Path} → IsBefore a p → ((f : ℕ) × (t : Path) × (p ≡ a ++ f ∷ t)) ⊎ ((r : Path) → IsBefore (a ++ r) p)
prefix_or_before (shorter {f = f} {p = p}) = inl (f, p, refl)
prefix_or_before (smaller h) = inr (λ r. smaller h)
prefix_or_before (further {f = f} {p = a} {q = p} h) = go (prefix_or_before h)
  where
    go : ((g : ℕ) × (t : Path) × (p ≡ a ++ g ∷ t)) ⊎ ((r : Path) → IsBefore (a ++ r) p) →
        ((g : ℕ) × (t : Path) × (f ∷ p ≡ f ∷ (a ++ g ∷ t))) ⊎ ((r : Path) → IsBefore (f ∷ (a ++ r)) (f ∷ p))
    go (inl x) = inl (x.0, x.1, ap (λ y. f ∷ y) x.2)
    go (inr x) = inr (λ r. further (x r))

-- a path is empty, or a path and one feature
pub last_feature : (p : Path) → (p ≡ []) ⊎ ((q : Path) × (f : ℕ) × (p ≡ q ++ f ∷ []))
last_feature [] = inl refl
last_feature (x ∷ p) = go (last_feature p)
  where
    go : (p ≡ []) ⊎ ((q : Path) × (f : ℕ) × (p ≡ q ++ f ∷ [])) → (x ∷ p ≡ []) ⊎ ((q : Path) × (f : ℕ) × (x ∷ p ≡ q ++ f ∷ []))
    go (inl e) = inr ([], x, ap (λ z. x ∷ z) e)
    go (inr e) = inr (x ∷ e.0, e.1, ap (λ z. x ∷ z) e.2)

-- two ends of one path: the same, or the one goes on from the other
pub one_goes_on : (q p s : Path) (g f : ℕ) → q ++ g ∷ s ≡ p ++ f ∷ [] → (q ≡ p) ⊎ ((h : ℕ) × (r : Path) × (p ≡ q ++ h ∷ r))
one_goes_on [] [] s g f e = inl refl
one_goes_on [] (x ∷ p) s g f e = inr (x, p, refl)
one_goes_on (y ∷ q) [] s g f e = absurd (too_long q g s (let t : q ++ g ∷ s ≡ [] = cc in t))
  where
    too_long : (q : Path) (g : ℕ) (s : Path) → q ++ g ∷ s ≡ [] → ⊥
    too_long [] g s e = cc
    too_long (z ∷ q) g s e = cc
one_goes_on (y ∷ q) (x ∷ p) s g f e = go (one_goes_on q p s g f (let t : q ++ g ∷ s ≡ p ++ f ∷ [] = cc in t))
  where
    first : y ≡ x
    first = cc

    go : (q ≡ p) ⊎ ((h : ℕ) × (r : Path) × (p ≡ q ++ h ∷ r)) → (y ∷ q ≡ x ∷ p) ⊎ ((h : ℕ) × (r : Path) × (x ∷ p ≡ y ∷ (q ++ h ∷ r)))
    go (inl d) = inl (ap (λ z. z ∷ q) first ∙ ap (λ z. x ∷ z) d)
    go (inr d) = inr (d.0, d.1, ap (λ z. z ∷ p) (sym first) ∙ ap (λ z. y ∷ z) d.2)

module _ (t : Table) (least : ℕ → Path) (nt : IsNumbered t least) (height : ℕ → ℕ) (low : HasHeights t height) where
  leads : (n : ℕ) → n < t.size → walk t 0 (least n) ≡ Some n
  leads n h = (nt.is_least n h).leads

  end_in : (n : ℕ) (p : Path) → walk t 0 p ≡ Some n → n < t.size
  end_in n p e = (walk_ends t nt.table 0 n p nt.filled e).0

  on : (n m f : ℕ) (p : Path) → walk t 0 p ≡ Some n → t.arc n f ≡ Some m → walk t 0 (p ++ f ∷ []) ≡ Some m
  on n m f p e a =
      walk-append t nt.table 0 n p (f ∷ []) e ∙ walk-step t n m f [] (ap (λ x. t.arc x f) (nt.live_is n) ∙ a) ∙ ap Some (nt.live_is m)

  -- no node reaches itself
  no_round : (n f : ℕ) (p r : Path) → walk t 0 p ≡ Some n → walk t 0 (p ++ f ∷ r) ≡ Some n → ⊥
  no_round n f p r e d =
      let back : walk t n (f ∷ r) ≡ Some n = sym (walk-append t nt.table 0 n p (f ∷ r) e) ∙ d in
      let fall = walk-height t nt.table height low n n (f ∷ r) (end_in n p e) back in
      let same = ap height (nt.live_is n) in
      omega arith

  -- what the least path to a node goes on from is a least path
  pub prefix_least : (n m f : ℕ) (q s : Path) → n < t.size → least n ≡ q ++ f ∷ s → walk t 0 q ≡ Some m → least m ≡ q
  prefix_least n m f q s h e d = go ((nt.is_least m m_in).least q d)
    where
      m_in : m < t.size
      m_in = end_in m q d

      other : IsBefore (least m) q → ((g : ℕ) × (r : Path) × (q ≡ least m ++ g ∷ r)) ⊎ ((r : Path) → IsBefore (least m ++ r) q) → least m ≡ q
      other b (inl x) = absurd (no_round m x.0 (least m) x.1 (leads m m_in) (subst (λ z. walk t 0 z ≡ Some m) x.2 d))
      other b (inr x) =
          let along : walk t m (f ∷ s) ≡ Some n = sym (walk-append t nt.table 0 m q (f ∷ s) d) ∙ ap (walk t 0) (sym e) ∙ leads n h in
          let less : IsBefore (least m ++ f ∷ s) (least n) = subst (λ z. IsBefore (least m ++ f ∷ s) z) (sym e) (before_further (f ∷ s) (x (f ∷ s))) in
          absurd (not_less ((nt.is_least n h).least (least m ++ f ∷ s) (walk-append t nt.table 0 m (least m) (f ∷ s) (leads m m_in) ∙ along)) less)
        where
          not_less : (least n ≡ least m ++ f ∷ s) ⊎ IsBefore (least n) (least m ++ f ∷ s) → IsBefore (least m ++ f ∷ s) (least n) → ⊥
          not_less (inl a) l = IsBefore-itself (least n) (subst (λ z. IsBefore z (least n)) (sym a) l)
          not_less (inr a) l = IsBefore-itself (least n) (IsBefore-trans a l)

      go : (least m ≡ q) ⊎ IsBefore (least m) q → least m ≡ q
      go (inl a) = a
      go (inr a) = other a (prefix_or_before a)

  pub root_least : least 0 ≡ []
  root_least = go ((nt.is_least 0 nt.filled).least [] (ap Some (nt.live_is 0)))
    where
      go : (least 0 ≡ []) ⊎ IsBefore (least 0) [] → least 0 ≡ []
      go (inl e) = e
      go (inr b) = absurd (not_before_nil (least 0) b)

  before_number : (m n : ℕ) → m < t.size → n < t.size → IsBefore (least m) (least n) → m < n
  before_number m n h k b = go (cases_lt m n) (cases_lt n m)
    where
      go : (m < n) ⊎ (n ≤ m) → (n < m) ⊎ (m ≤ n) → m < n
      go (inl a) _ = a
      go (inr a) (inl c) = absurd (IsBefore-itself (least m) (IsBefore-trans b (nt.rises n m c h)))
      go (inr a) (inr c) = let e : m ≡ n = omega arith in absurd (IsBefore-itself (least n) (subst (λ z. IsBefore (least z) (least n)) e b))

  -- a node is the root, or its least path is that of a node of less number and one feature
  pub comes_from : (n : ℕ) → n < t.size → (n ≡ 0) ⊎ ((m : ℕ) × (f : ℕ) × (m < n) × (t.arc m f ≡ Some n) × (least n ≡ least m ++ f ∷ []))
  comes_from n h = go (last_feature (least n))
    where
      arc_end : (m f : ℕ) (o : Option ℕ) → t.arc (t.live m) f ≡ o → walk t m (f ∷ []) ≡ Some n → t.arc m f ≡ Some n
      arc_end m f None is e =
          let stops : None ≡ walk t m (f ∷ []) = ap (λ o. elim o as (λ _. Option ℕ) [ None ↦ None | Some i ↦ walk t i [] ]) (sym is) in
          absurd (let a : None ≡ Some n = stops ∙ e in cc)
      arc_end m f (Some k) is e =
          let x : Some k ≡ Some n = ap Some (sym (nt.live_is k)) ∙ sym (walk-step t m k f [] is) ∙ e in
          ap (λ z. t.arc z f) (sym (nt.live_is m)) ∙ is ∙ x

      go : (least n ≡ []) ⊎ ((q : Path) × (f : ℕ) × (least n ≡ q ++ f ∷ [])) →
          (n ≡ 0) ⊎ ((m : ℕ) × (f : ℕ) × (m < n) × (t.arc m f ≡ Some n) × (least n ≡ least m ++ f ∷ []))
      go (inl e) =
          let a : Some (t.live 0) ≡ Some n = ap (walk t 0) (sym e) ∙ leads n h in
          let l = nt.live_is 0 in
          inl (let b : t.live 0 ≡ n = cc in omega arith)
      go (inr x) =
          let at = walk-prefix t 0 n x.0 (x.1 ∷ []) (ap (walk t 0) (sym x.2) ∙ leads n h) in
          let m = at.0 in
          let is = prefix_least n m x.1 x.0 [] h x.2 at.1 in
          let along : walk t m (x.1 ∷ []) ≡ Some n = sym (walk-append t nt.table 0 m x.0 (x.1 ∷ []) at.1) ∙ ap (walk t 0) (sym x.2) ∙ leads n h in
          let path : least n ≡ least m ++ x.1 ∷ [] = x.2 ∙ ap (λ z. z ++ x.1 ∷ []) (sym is) in
          let up : IsBefore (least m) (least n) = subst (λ z. IsBefore (least m) z) (sym path) (before_extension (least m) x.1 []) in
          inr (m, x.1, before_number m n (end_in m x.0 at.1) h up, arc_end m x.1 _ refl along, path)

  -- the paths of arcs go on from least paths alone
  pub arc_path_first : (p : Path) → IsArcPath t least p → AreLeast (seen t) p
  arc_path_first p a q s g m e d = go (one_goes_on q (least a.from) s g a.feat (sym e ∙ a.path))
    where
      m_in : m < t.size
      m_in = end_in m q d

      is_least : least m ≡ q → IsLeastPath (seen t) m q
      is_least x = subst (λ z. IsLeastPath (seen t) m z) x (nt.is_least m m_in)

      go : (q ≡ least a.from) ⊎ ((h : ℕ) × (r : Path) × (least a.from ≡ q ++ h ∷ r)) → IsLeastPath (seen t) m q
      go (inl x) =
          let same : Some m ≡ Some a.from = sym d ∙ ap (walk t 0) x ∙ leads a.from a.in_table in
          let m_is : m ≡ a.from = cc in
          is_least (ap least m_is ∙ sym x)
      go (inr x) = is_least (prefix_least a.from m x.0 q x.1 a.in_table x.2 d)

  pub arc_path_leads : (p : Path) (a : IsArcPath t least p) → walk t 0 p ≡ Some a.to
  arc_path_leads p a = ap (walk t 0) a.path ∙ on a.from a.to a.feat (least a.from) (leads a.from a.in_table) a.arc

-- elements of lists that grow
pub in_left : (xs ys : List Path) (p : Path) → IsIn xs p → IsIn (xs ++ ys) p
in_left xs ys p x = let l = length-append xs ys in let h = x.1 in (x.0, omega arith, get_or_append_left xs ys [] x.0 h ∙ x.2)

pub in_right : (xs ys : List Path) (p : Path) → IsIn ys p → IsIn (xs ++ ys) p
in_right xs ys p x =
    let l = length-append xs ys in
    let h = x.1 in
    let e : (length xs + x.0) - length xs ≡ x.0 = omega arith in
    (length xs + x.0, omega arith, get_or-append_right xs ys (length xs) (length xs + x.0) [] refl (omega arith) ∙ ap (path_at ys) e ∙ x.2)

pub in_either : (xs ys : List Path) (p : Path) → IsIn (xs ++ ys) p → IsIn xs p ⊎ IsIn ys p
in_either xs ys p x = go (cases_lt x.0 (length xs))
  where
    go : (x.0 < length xs) ⊎ (length xs ≤ x.0) → IsIn xs p ⊎ IsIn ys p
    go (inl h) = inl (x.0, h, sym (get_or_append_left xs ys [] x.0 h) ∙ x.2)
    go (inr h) =
        let l = length-append xs ys in
        let k = x.1 in
        inr (x.0 - length xs, omega arith, sym (get_or-append_right xs ys (length xs) x.0 [] refl h) ∙ x.2)

pub in_one : (q p : Path) → IsIn (q ∷ []) p → q ≡ p
in_one q p x = let h = x.1 in let e : 0 ≡ x.0 = omega arith in ap (path_at (q ∷ [])) e ∙ x.2
