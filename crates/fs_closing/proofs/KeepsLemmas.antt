-- Steps that follow one another, and work in another order.
use Rattle.std.proofs.Common.{ℕ, ◌≡◌, ◌≢◌, ◌≤◌, ◌<◌, ◌+◌, ◌==◌, ◌⊎◌, inl, inr, true, false, Some, None, List, [], ◌∷◌, ◌++◌, length, append_assoc, refl, sym, ◌∙◌, ap, subst, arith, eq-eqb, length-append}
use Rattle.std.proofs.lemmas.Bool.{cases_lt, ne_eqb}
use Rattle.std.proofs.lemmas.Option.{none-some}
use Rattle.fs_model.specs.Claims.{Path, Claim, System, IsOrder, IsBare, Has, here, there}
use Rattle.fs_model.specs.Closure.{Closure, same_exists, same_sym, same_trans, same_type}
use Rattle.fs_model.specs.Sources.{Told}
use Rattle.fs_model.specs.Table.{NodeClaim, is_there, is_same, is_under, by_merge, by_type, by_work, Follows, stated, same_back, same_on, read}
use Rattle.fs_model.specs.Steps.{InTable, before, head, Closes, Grows, Links, Lowers, Joins}
use Rattle.fs_model.proofs.StepLemmas.{Closes-rework, Closes-advance, Closes-drop, Closes-grows, at_live, first_feature}
use Rattle.fs_model.proofs.MoreSteps.{Closes-lowers}
use Rattle.fs_model.proofs.JoinStep.{Closes-joins}
use Rattle.fs_model.proofs.Ends.{Closes-links}
use Rattle.fs_closing.specs.Joined.{IsJoined}
use Rattle.fs_closing.specs.Keeps.{Deep, Stands, Turns, Refutes, IsSameWork, begin}
use Rattle.fs_closing.proofs.HasLemmas.{Has-left, Has-right, Has-either}

pub Stands-order : (s : System) (g : Claim → Type 0) (x : Deep) (work work' : List NodeClaim) (w : ℕ → Path) → IsSameWork work work' →
    Stands s g x work w → Stands s g x work' w
Stands-order s g x work work' w same old = record {
  closes = Closes-rework s g x.table work work' w old.closes (λ c h. old.closes.in_table c (same.back c h))
      (λ c h. stated _ (by_work _ (same.into c h)))
      (λ c h. old.closes.sound.stated_in _ (by_work _ (same.back c h)));
  deep = old.deep;
}

-- the same work, in another order
pub same_itself : (xs : List NodeClaim) → IsSameWork xs xs
same_itself xs = record { into = λ c h. h; back = λ c h. h }

pub same_turned : (xs ys : List NodeClaim) → IsSameWork xs ys → IsSameWork ys xs
same_turned xs ys e = record { into = e.back; back = e.into }

pub same_on_both : (xs ys zs : List NodeClaim) → IsSameWork xs ys → IsSameWork ys zs → IsSameWork xs zs
same_on_both xs ys zs d e = record { into = λ c h. e.into c (d.into c h); back = λ c h. d.back c (e.back c h) }

pub same_beside : (xs xs' ys ys' : List NodeClaim) → IsSameWork xs xs' → IsSameWork ys ys' → IsSameWork (xs ++ ys) (xs' ++ ys')
same_beside xs xs' ys ys' d e = record {
  into = λ c h. go xs xs' ys ys' c d.into e.into (Has-either c xs ys h);
  back = λ c h. go xs' xs ys' ys c d.back e.back (Has-either c xs' ys' h);
}
  where
    go : (xs xs' ys ys' : List NodeClaim) (c : NodeClaim) → ((c : NodeClaim) → Has c xs → Has c xs') → ((c : NodeClaim) → Has c ys → Has c ys') →
        Has c xs ⊎ Has c ys → Has c (xs' ++ ys')
    go xs xs' ys ys' c d e (inl a) = Has-left c xs' ys' (d c a)
    go xs xs' ys ys' c d e (inr a) = Has-right c xs' ys' (e c a)

pub same_swapped : (xs ys : List NodeClaim) → IsSameWork (xs ++ ys) (ys ++ xs)
same_swapped xs ys = record { into = λ c h. go xs ys c (Has-either c xs ys h); back = λ c h. go ys xs c (Has-either c ys xs h) }
  where
    go : (xs ys : List NodeClaim) (c : NodeClaim) → Has c xs ⊎ Has c ys → Has c (ys ++ xs)
    go xs ys c (inl a) = Has-right c ys xs a
    go xs ys c (inr a) = Has-left c ys xs a

pub same_equal : (xs ys : List NodeClaim) → xs ≡ ys → IsSameWork xs ys
same_equal xs ys e = subst (IsSameWork xs) e (same_itself xs)

-- what is joined is what is put before
pub joined_same : (new old whole : List NodeClaim) → IsJoined new old whole → IsSameWork (new ++ old) whole
joined_same new old whole j = record {
  into = λ c h. go c (Has-either c new old h);
  back = λ c h. back c (j.only c h);
}
  where
    go : (c : NodeClaim) → Has c new ⊎ Has c old → Has c whole
    go c (inl a) = j.from_new c a
    go c (inr a) = j.from_old c a

    back : (c : NodeClaim) → Has c new ⊎ Has c old → Has c (new ++ old)
    back c (inl a) = Has-left c new old a
    back c (inr a) = Has-right c new old a

pub Turns-itself : (s : System) (x : Deep) (work : List NodeClaim) → Turns s x work x work
Turns-itself s x work extra g w old = (w, old)

pub Turns-on : (s : System) (x y z : Deep) (a b c : List NodeClaim) → Turns s x a y b → Turns s y b z c → Turns s x a z c
Turns-on s x y z a b c one two extra g w old = let r = one extra g w old in two extra g r.0 r.1

pub Turns-order : (s : System) (x y : Deep) (a a' b b' : List NodeClaim) → IsSameWork a a' → Turns s x a' y b' → IsSameWork b' b → Turns s x a y b
Turns-order s x y a a' b b' d one e extra g w old =
    let r = one extra g w (Stands-order s (Told g) x _ _ w (same_beside a a' extra extra d (same_itself extra)) old) in
    (r.0, Stands-order s (Told g) y _ _ r.0 (same_beside b' b extra extra e (same_itself extra)) r.1)

-- beside other work
pub Turns-beside : (s : System) (x y : Deep) (a b e : List NodeClaim) → Turns s x a y b → Turns s x (a ++ e) y (b ++ e)
Turns-beside s x y a b e one extra g w old =
    let r = one (e ++ extra) g w (Stands-order s (Told g) x _ _ w (same_equal _ _ (append_assoc a e extra)) old) in
    (r.0, Stands-order s (Told g) y _ _ r.0 (same_equal _ _ (sym (append_assoc b e extra))) r.1)

pub Refutes-after : (s : System) (x y : Deep) (a b : List NodeClaim) → Turns s x a y b → Refutes s y b → Refutes s x a
Refutes-after s x y a b one refuted extra g w old ok = let r = one extra g w old in refuted extra g r.0 r.1 ok

pub Refutes-order : (s : System) (x : Deep) (a a' : List NodeClaim) → IsSameWork a a' → Refutes s x a' → Refutes s x a
Refutes-order s x a a' d refuted extra g w old ok =
    refuted extra g w (Stands-order s (Told g) x _ _ w (same_beside a a' extra extra d (same_itself extra)) old) ok

pub Refutes-beside : (s : System) (x : Deep) (a e : List NodeClaim) → Refutes s x a → Refutes s x (a ++ e)
Refutes-beside s x a e refuted extra g w old ok =
    refuted (e ++ extra) g w (Stands-order s (Told g) x _ _ w (same_equal _ _ (append_assoc a e extra)) old) ok

-- STEPS

-- an equality the other way round
pub Turns-back : (s : System) (x : Deep) (n m : ℕ) (p q : Path) (work : List NodeClaim) →
    Turns s x (is_same n p m q ∷ work) x (is_same m q n p ∷ work)
Turns-back s x n m p q work extra g w old = (
  w,
  record {
    closes = Closes-rework s (Told g) x.table _ _ w old.closes range keeps says;
    deep = old.deep;
  },
)
  where
    range : (c : NodeClaim) → Has c (is_same m q n p ∷ (work ++ extra)) → InTable x.table.size c
    range _ here = let r = old.closes.in_table _ here in (r.1, r.0)
    range c (there h) = old.closes.in_table c (there h)

    keeps : (c : NodeClaim) → Has c (is_same n p m q ∷ (work ++ extra)) → Follows s x.table (is_same m q n p ∷ (work ++ extra)) c
    keeps _ here = same_back _ _ _ _ (stated _ (by_work _ here))
    keeps c (there h) = stated _ (by_work _ (there h))

    says : (c : NodeClaim) → Has c (is_same m q n p ∷ (work ++ extra)) → Closure s (Told g) (read w c)
    says _ here = same_sym _ _ (old.closes.sound.stated_in _ (by_work _ here))
    says c (there h) = old.closes.sound.stated_in _ (by_work _ (there h))

pub begin_before : (n f m : ℕ) (p : Path) (c : NodeClaim) → before n f (begin m p c) ≡ begin n (f ∷ p) c
begin_before n f m p (is_there k q) = refl
begin_before n f m p (is_same k q j r) = refl
begin_before n f m p (is_under k q u) = refl

begin_head : (n : ℕ) (p : Path) (c : NodeClaim) → head (begin n p c) ≡ n
begin_head n p (is_there k q) = refl
begin_head n p (is_same k q j r) = refl
begin_head n p (is_under k q u) = refl

begin_in : (size size' n m : ℕ) (p q : Path) (c : NodeClaim) → InTable size (begin n p c) → size ≤ size' → m < size' → InTable size' (begin m q c)
begin_in size size' n m p q (is_there k r) h less i = i
begin_in size size' n m p q (is_same k r j t) h less i = (i, omega (arith, h.1))
begin_in size size' n m p q (is_under k r u) h less i = i

pub begin_node : (size n : ℕ) (p : Path) (c : NodeClaim) → InTable size (begin n p c) → n < size
begin_node size n p (is_there k r) h = h
begin_node size n p (is_same k r j t) h = h.0
begin_node size n p (is_under k r u) h = h

-- one arc on
pub Turns-advance : (s : System) (x : Deep) (n f m : ℕ) (p : Path) (c : NodeClaim) (work : List NodeClaim) →
    x.table.arc (x.table.live n) f ≡ Some m → Turns s x (begin n (f ∷ p) c ∷ work) x (begin m p c ∷ work)
Turns-advance s x n f m p c work arc extra g w old =
    let in_table = old.closes.in_table _ here in
    let n_in = begin_node x.table.size n (f ∷ p) c in_table in
    let m_in = old.closes.table.arc_in _ f m (old.closes.table.live_in n n_in) arc in (
      w,
      record {
        closes = Closes-advance s (Told g) x.table (begin m p c) (work ++ extra) w n f n_in (arc ∙ ap Some (sym (begin_head m p c)))
            (begin_in x.table.size x.table.size n m (f ∷ p) p c in_table (omega arith) m_in)
            (subst (λ d. Closes s (Told g) x.table (d ∷ (work ++ extra)) w) (sym (begin_before n f m p c)) old.closes);
        deep = old.deep;
      },
    )

-- a new arc to a node that is there
pub Turns-links : (s : System) (x y : Deep) (n f m : ℕ) (work : List NodeClaim) → x.table.live n ≡ n → x.table.arc n f ≡ None →
    Links x.table y.table n f m → ((k : ℕ) → y.depth k ≡ x.depth k) →
    Turns s x (is_same n (f ∷ []) m [] ∷ work) y (is_under n [] (s.introducer f) ∷ work)
Turns-links s x y n f m work stays empty links depth extra g w old =
    let in_table = old.closes.in_table _ here in
    let linked = Closes-links s (Told g) x.table y.table (work ++ extra) w n f m in_table.0 in_table.1
    (subst (λ k. Links x.table y.table k f m) (sym stays) links) (subst (λ k. x.table.arc k f ≡ None) (sym stays) empty) old.closes in (
      w,
      record {
        closes = subst (λ k. Closes s (Told g) y.table (is_under k [] (s.introducer f) ∷ (work ++ extra)) w) stays linked;
        deep = λ k h. omega (arith, depth k, old.deep k (let i : k < x.table.size = omega (arith, links.size_is) in i));
      },
    )

-- the paths of the nodes, with one node more
abbrev pub one_more : (ℕ → Path) → ℕ → Path → ℕ → Path
one_more w n p k = elim (k == n) [ true ↦ p | false ↦ w k ]

-- a new node
pub Turns-grows : (s : System) → IsBare s → (x y : Deep) (n l f m : ℕ) (p : Path) (c : NodeClaim) (work : List NodeClaim) → x.table.live n ≡ l →
    x.table.arc l f ≡ None → Grows s.top x.table y.table l f → m ≡ x.table.size → ((k : ℕ) → k < x.table.size → y.depth k ≡ x.depth k) →
    y.depth m ≡ x.depth l + 1 → Turns s x (begin n (f ∷ p) c ∷ work) y (begin m p c ∷ is_under l [] (s.introducer f) ∷ work)
Turns-grows s bare x y n l f m p c work is_l empty grows is_m depth_old depth_new extra g w old =
    (w', record { closes = grown; deep = deep })
  where
    in_table : InTable x.table.size (begin n (f ∷ p) c)
    in_table = old.closes.in_table _ here

    n_in : n < x.table.size
    n_in = begin_node x.table.size n (f ∷ p) c in_table

    new_path : Path
    new_path = w l ++ f ∷ []

    w' : ℕ → Path
    w' = one_more w x.table.size (w l ++ f ∷ [])

    agrees : (k : ℕ) → k < x.table.size → one_more w x.table.size (w l ++ f ∷ []) k ≡ w k
    agrees k h = ap (λ b. elim b as (λ _. Path) [ true ↦ w l ++ f ∷ [] | false ↦ w k ]) (ne_eqb k x.table.size (λ e. omega arith))

    stands : one_more w x.table.size (w l ++ f ∷ []) x.table.size ≡ w l ++ f ∷ []
    stands = ap (λ b. elim b as (λ _. Path) [ true ↦ w l ++ f ∷ [] | false ↦ w x.table.size ]) (eq-eqb x.table.size x.table.size refl)

    grown : Closes s (Told g) y.table (begin m p c ∷ is_under l [] (s.introducer f) ∷ (work ++ extra)) w'
    grown =
        subst (λ k. Closes s (Told g) y.table (begin m p c ∷ is_under k [] (s.introducer f) ∷ (work ++ extra)) w') is_l
        (Closes-grows s (Told g) x.table y.table (begin m p c) (work ++ extra) w w' n f n_in
        (subst (λ k. Grows s.top x.table y.table k f) (sym is_l) grows) (subst (λ k. x.table.arc k f ≡ None) (sym is_l) empty)
        (begin_head m p c ∙ is_m)
        (begin_in x.table.size (x.table.size + 1) n m (f ∷ p) p c in_table (omega arith) (omega arith))
        agrees (subst (λ k. one_more w x.table.size (w l ++ f ∷ []) x.table.size ≡ w k ++ f ∷ []) (sym is_l) stands) bare
        (subst (λ d. Closes s (Told g) x.table (d ∷ (work ++ extra)) w) (sym (begin_before n f m p c)) old.closes))

    deep : (k : ℕ) → k < y.table.size → y.depth k ≤ length (w' k)
    deep k h = go (old_or_new k x.table.size (omega (arith, grows.size_is)))
      where
        old_or_new : (k size : ℕ) → k < size + 1 → (k < size) ⊎ (k ≡ size)
        old_or_new k size h = go (cases_lt k size)
          where
            go : (k < size) ⊎ (size ≤ k) → (k < size) ⊎ (k ≡ size)
            go (inl a) = inl a
            go (inr a) = inr (omega arith)

        go : (k < x.table.size) ⊎ (k ≡ x.table.size) → y.depth k ≤ length (w' k)
        go (inl a) = omega (arith, depth_old k a, old.deep k a, ap length (agrees k a))
        go (inr e) =
            let l_in : l < x.table.size = subst (λ i. i < x.table.size) is_l (old.closes.table.live_in n n_in) in
            omega (arith, ap y.depth (e ∙ sym is_m), depth_new, old.deep l l_in, ap (λ i. length (w' i)) e, ap length stands, length-append (w l) (f ∷ []))

-- a node at the limit takes no further arc
pub Refutes-deep : (s : System) (x : Deep) (n l f : ℕ) (p : Path) (c : NodeClaim) (work : List NodeClaim) → x.table.live n ≡ l →
    s.path_limit ≤ x.depth l → Refutes s x (begin n (f ∷ p) c ∷ work)
Refutes-deep s x n l f p c work is_l deep extra g w old ok =
    let in_table = old.closes.in_table _ here in
    let n_in = begin_node x.table.size n (f ∷ p) c in_table in
    let l_in : l < x.table.size = subst (λ i. i < x.table.size) is_l (old.closes.table.live_in n n_in) in
    let said = subst (λ d. Closure s (Told g) (read w d)) (sym (begin_before n f l p c)) (old.closes.sound.stated_in _ (by_work _ here)) in
    let merge = subst (λ i. Closure s (Told g) (read w (is_same n [] i []))) is_l (old.closes.sound.stated_in _ (by_merge n n_in)) in
    let there' = same_exists _ _ (same_sym _ _ (at_live s (Told g) w n l f merge (first_feature s (Told g) w n f (begin l p c) said))) in
    let short = ok.bounded (w l ++ f ∷ []) there' in
    omega (arith, short, length-append (w l) (f ∷ []), old.deep l l_in)

-- equal nodes
pub Turns-one : (s : System) (x : Deep) (n m : ℕ) (work : List NodeClaim) → x.table.live n ≡ x.table.live m →
    Turns s x (is_same n [] m [] ∷ work) x work
Turns-one s x n m work is extra g w old =
    let in_table = old.closes.in_table _ here in (
      w,
      record {
        closes = Closes-drop s (Told g) x.table (is_same n [] m []) (work ++ extra) w
            (same_on _ _ _ _ _ _ (subst (λ k. Follows s x.table (work ++ extra) (is_same n [] k [])) is (stated _ (by_merge n in_table.0)))
            (same_back _ _ _ _ (stated _ (by_merge m in_table.1)))) old.closes;
        deep = old.deep;
      },
    )

-- two nodes become one, of the meet of their types
pub Turns-joins : (s : System) → IsOrder s → (x y : Deep) (n m v : ℕ) (work work' : List NodeClaim) → x.table.live n ≢ x.table.live m →
    ((extra : List NodeClaim) → Joins s x.table y.table (work ++ extra) (work' ++ extra) (x.table.live n) (x.table.live m) v) →
    ((k : ℕ) → y.depth k ≡ x.depth k) → Turns s x (is_same n [] m [] ∷ work) y work'
Turns-joins s o x y n m v work work' apart joins depth extra g w old =
    let in_table = old.closes.in_table _ here in (
      w,
      record {
        closes = Closes-joins s o (Told g) x.table y.table (work ++ extra) (work' ++ extra) w n m v in_table.0 in_table.1 apart (joins extra) old.closes;
        deep = λ k h. omega (arith, depth k, old.deep k (let i : k < x.table.size = omega (arith, (joins extra).size_is) in i));
      },
    )

-- two nodes whose types have no meet
pub Refutes-meet : (s : System) (x : Deep) (n m a b : ℕ) (work : List NodeClaim) → x.table.live n ≡ a → x.table.live m ≡ b →
    s.meet (x.table.type_of a) (x.table.type_of b) ≡ None → Refutes s x (is_same n [] m [] ∷ work)
Refutes-meet s x n m a b work is_a is_b none extra g w old ok =
    let in_table = old.closes.in_table _ here in
    let a_in : a < x.table.size = subst (λ k. k < x.table.size) is_a (old.closes.table.live_in n in_table.0) in
    let b_in : b < x.table.size = subst (λ k. k < x.table.size) is_b (old.closes.table.live_in m in_table.1) in
    let a_live : x.table.live a ≡ a = ap x.table.live (sym is_a) ∙ old.closes.table.live_twice n ∙ is_a in
    let b_live : x.table.live b ≡ b = ap x.table.live (sym is_b) ∙ old.closes.table.live_twice m ∙ is_b in
    let a_type = old.closes.sound.stated_in _ (by_type a a_in a_live) in
    let b_type = old.closes.sound.stated_in _ (by_type b b_in b_live) in
    let n_m = old.closes.sound.stated_in _ (by_work _ here) in
    let n_a = subst (λ k. Closure s (Told g) (read w (is_same n [] k []))) is_a (old.closes.sound.stated_in _ (by_merge n in_table.0)) in
    let m_b = subst (λ k. Closure s (Told g) (read w (is_same m [] k []))) is_b (old.closes.sound.stated_in _ (by_merge m in_table.1)) in
    let b_a = same_trans _ _ _ (same_sym _ _ m_b) (same_trans _ _ _ (same_sym _ _ n_m) n_a) in
    let met = ok.typed (w a ++ []) (x.table.type_of a) (x.table.type_of b) a_type (same_type _ _ _ b_a b_type) in
    none-some met.0 (sym none ∙ met.1)

pub Turns-lowers : (s : System) → IsOrder s → (x y : Deep) (n u v : ℕ) (work work' : List NodeClaim) →
    ((extra : List NodeClaim) → Lowers s x.table y.table (work ++ extra) (work' ++ extra) (x.table.live n) u v) →
    ((k : ℕ) → y.depth k ≡ x.depth k) → Turns s x (is_under n [] u ∷ work) y work'
Turns-lowers s o x y n u v work work' lowers depth extra g w old =
    let in_table = old.closes.in_table _ here in (
      w,
      record {
        closes = Closes-lowers s o (Told g) x.table y.table (work ++ extra) (work' ++ extra) w n u v in_table (lowers extra) old.closes;
        deep = λ k h. omega (arith, depth k, old.deep k (let i : k < x.table.size = omega (arith, (lowers extra).size_is) in i));
      },
    )
