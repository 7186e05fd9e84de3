-- Lists that are appended keep their elements.
use Rattle.std.specs.Prelude.{ℕ, ◌≡◌, ◌+◌, ◌<◌, ◌≤◌, ◌-◌, List, [], ◌∷◌, ◌++◌, length}
use Rattle.std.proofs.Common.{refl, sym, ◌∙◌, ap, subst, arith, zero, suc, append-nil, append_assoc, length-append}
use Rattle.fs_model.specs.Claims.{Path, Claim, exists_at, same, below, System}
use Rattle.fs_model.specs.Closure.{Closure, AreConsistent, introduced, same_exists, below_exists, prefix, same_sym, same_trans, same_extend, same_type}
use Rattle.generate_model.specs.Threads.{WalksAreWhole, times, Open, Reaches, Threads, threads_none, threads_next, total, Stands, stands_here, stands_there, ThreadsReach, ElementsStay}

times_add : (f m n : ℕ) → times f (m + n) ≡ times f m ++ times f n
times_add f zero n = ap (times f) (omega arith)
times_add f (suc m) n =
    let e : suc m + n ≡ suc (m + n) = omega arith in
    let z = times_add f m n in
    ap (times f) e ∙ ap (λ p. f ∷ p) z

module _ (s : System) (given : Claim → Type 0) (rest : ℕ) where
  abbrev Holds : Claim → Type 0
  Holds = Closure s given

  -- a step along an equality: what follows the one follows the other
  along : (p q r : Path) → Holds (same p q) → Holds (exists_at (q ++ r)) → Holds (same (q ++ r) (p ++ r))
  along p q r h e = same_extend q p r (same_sym p q h) e

  pub appended : (a : Path) (m n : ℕ) → (a ++ times rest m) ++ times rest n ≡ a ++ times rest (m + n)
  appended a m n = append_assoc a (times rest m) (times rest n) ∙ ap (λ p. a ++ p) (sym (times_add rest m n))

  -- the first list of a thread
  first_cells : (a : Path) (l : Open) (n : ℕ) → Holds (same a l.start) → Reaches Holds rest l n → (j : ℕ) → j ≤ n → Holds (same (l.start ++ times rest j) (a ++ times rest j))
  first_cells a l n h r j le =
      let whole : Holds (exists_at (l.start ++ times rest n)) = same_exists (l.start ++ times rest n) l.end r in
      let split : l.start ++ times rest n ≡ (l.start ++ times rest j) ++ times rest (n - j) = ap (λ m. l.start ++ times rest m) (omega (arith, le)) ∙ sym (appended l.start j (n - j)) in
      let there : Holds (exists_at (l.start ++ times rest j)) = prefix (l.start ++ times rest j) (times rest (n - j)) (subst (λ p. Holds (exists_at p)) split whole) in
      along a l.start (times rest j) h there

  mutual_end : (a : Path) (l : Open) (n : ℕ) → Holds (same a l.start) → Reaches Holds rest l n → Holds (same (a ++ times rest n) l.end)
  mutual_end a l n h r = same_trans (a ++ times rest n) (l.start ++ times rest n) l.end (same_sym (l.start ++ times rest n) (a ++ times rest n) (first_cells a l n h r n (omega arith))) r

  reach : {a b : Path} {ls : List (Open × ℕ)} → Threads Holds rest a ls b → Holds (same (a ++ times rest (total ls)) b)
  reach {a} {b} (threads_none h) = subst (λ p. Holds (same p b)) (sym (append-nil a)) h
  reach {a} {b} (threads_next {l = l} {n = n} {ls = ls} h r t) =
      let z = reach t in
      let end = mutual_end a l n h r in
      let on = along (a ++ times rest n) l.end (times rest (total ls)) end (same_exists (l.end ++ times rest (total ls)) b z) in
      let joined = same_trans ((a ++ times rest n) ++ times rest (total ls)) (l.end ++ times rest (total ls)) b (same_sym (l.end ++ times rest (total ls)) ((a ++ times rest n) ++ times rest (total ls)) on) z in
      subst (λ p. Holds (same p b)) (appended a n (total ls)) joined

  cells : {a b : Path} {ls : List (Open × ℕ)} → Threads Holds rest a ls b → (l : Open) (n before j : ℕ) → Stands l n before ls → j ≤ n → Holds (same (l.start ++ times rest j) (a ++ times rest (before + j)))
  cells (threads_none h) l n before j st le = elim st [ ]
  cells {a} (threads_next h r t) l n _ j stands_here le = subst (λ m. Holds (same (l.start ++ times rest j) (a ++ times rest m))) (omega arith) (first_cells a l n h r j le)
  cells {a} {b} (threads_next {l = k} {n = m} {ls = ls} h r t) l n _ j (stands_there {before = before} st) le =
      let z = cells t l n before j st le in
      let end = mutual_end a k m h r in
      let there = same_exists (k.end ++ times rest (before + j)) (l.start ++ times rest j) (same_sym (l.start ++ times rest j) (k.end ++ times rest (before + j)) z) in
      let on = along (a ++ times rest m) k.end (times rest (before + j)) end there in
      let w = same_trans (l.start ++ times rest j) (k.end ++ times rest (before + j)) ((a ++ times rest m) ++ times rest (before + j)) z on in
      subst (λ p. Holds (same (l.start ++ times rest j) p)) (appended a m (before + j) ∙ ap (λ i. a ++ times rest i) (omega arith)) w

  -- what stands below equal paths
  moved : (x y q : Path) → Holds (same x y) → Holds (exists_at (x ++ q)) → Holds (same (x ++ q) (y ++ q))
  moved x y q h e = same_extend x y q h e

pub threads_reach : ThreadsReach
threads_reach s given rest a b ls t = (reach s given rest t, λ l n before j st le. cells s given rest t l n before j st le)

pub elements_stay : ElementsStay
elements_stay s given rest a b ls t l n before st = (exists, equal, typed)
  where
    cell : (j : ℕ) → j ≤ n → Closure s given (same (l.start ++ times rest j) (a ++ times rest (before + j)))
    cell j le = cells s given rest t l n before j st le

    exists : (j : ℕ) (q : Path) → j ≤ n → Closure s given (exists_at ((l.start ++ times rest j) ++ q)) → Closure s given (exists_at ((a ++ times rest (before + j)) ++ q))
    exists j q le e =
        let m = moved s given rest (l.start ++ times rest j) (a ++ times rest (before + j)) q (cell j le) e in
        same_exists ((a ++ times rest (before + j)) ++ q) ((l.start ++ times rest j) ++ q) (same_sym ((l.start ++ times rest j) ++ q) ((a ++ times rest (before + j)) ++ q) m)

    equal : (i j : ℕ) (p q : Path) → i ≤ n → j ≤ n → Closure s given (same ((l.start ++ times rest i) ++ p) ((l.start ++ times rest j) ++ q)) → Closure s given (same ((a ++ times rest (before + i)) ++ p) ((a ++ times rest (before + j)) ++ q))
    equal i j p q li lj h =
        let x = (l.start ++ times rest i) ++ p in
        let y = (l.start ++ times rest j) ++ q in
        let ex : Closure s given (exists_at ((l.start ++ times rest i) ++ p)) = same_exists x y h in
        let ey : Closure s given (exists_at ((l.start ++ times rest j) ++ q)) = same_exists y x (same_sym x y h) in
        let mx = moved s given rest (l.start ++ times rest i) (a ++ times rest (before + i)) p (cell i li) ex in
        let my = moved s given rest (l.start ++ times rest j) (a ++ times rest (before + j)) q (cell j lj) ey in
        same_trans ((a ++ times rest (before + i)) ++ p) x ((a ++ times rest (before + j)) ++ q) (same_sym x ((a ++ times rest (before + i)) ++ p) mx) (same_trans x y ((a ++ times rest (before + j)) ++ q) h my)

    typed : (j : ℕ) (q : Path) (u : ℕ) → j ≤ n → Closure s given (below ((l.start ++ times rest j) ++ q) u) → Closure s given (below ((a ++ times rest (before + j)) ++ q) u)
    typed j q u le h =
        let e : Closure s given (exists_at ((l.start ++ times rest j) ++ q)) = below_exists ((l.start ++ times rest j) ++ q) u h in
        same_type ((l.start ++ times rest j) ++ q) ((a ++ times rest (before + j)) ++ q) u (moved s given rest (l.start ++ times rest j) (a ++ times rest (before + j)) q (cell j le) e) h

times_long : (f k : ℕ) → length (times f k) ≡ k
times_long f zero = refl
times_long f (suc k) = let z = times_long f k in omega (arith, z)

module _ (s : System) (given : Claim → Type 0) (rest : ℕ) where
  -- a path that comes back to itself goes on for ever
  record Longer (x : Path) (m : ℕ) : Type 0 where
    long : ℕ
    more : m ≤ long
    there : Closure s given (exists_at (x ++ times rest long))

  turns : (x : Path) (d : ℕ) → 0 < d → Closure s given (same (x ++ times rest d) x) → (m : ℕ) → Longer x m
  turns x d p h zero = record { long = 0; more = omega arith; there = subst (λ q. Closure s given (exists_at q)) (sym (append-nil x)) (same_exists x (x ++ times rest d) (same_sym (x ++ times rest d) x h)) }
  turns x d p h (suc m) =
      let z = turns x d p h m in
      let on = same_extend x (x ++ times rest d) (times rest z.long) (same_sym (x ++ times rest d) x h) z.there in
      let e = same_exists ((x ++ times rest d) ++ times rest z.long) (x ++ times rest z.long) (same_sym (x ++ times rest z.long) ((x ++ times rest d) ++ times rest z.long) on) in
      record { long = d + z.long; more = (let a = z.more in omega (arith, a, p)); there = subst (λ q. Closure s given (exists_at q)) (appended s given rest x d z.long) e }

  pub no_turn : AreConsistent s (Closure s given) → (x : Path) (d : ℕ) → 0 < d → Closure s given (same (x ++ times rest d) x) → ⊥
  no_turn c x d p h =
      let z = turns x d p h (s.path_limit + 1) in
      let a = c.bounded (x ++ times rest z.long) z.there in
      let b = length-append x (times rest z.long) in
      let l = times_long rest z.long in
      let m = z.more in
      omega (arith, a, b, l, m)

pub walks_are_whole : WalksAreWhole
walks_are_whole s given rest null l n c none r i lt = (early, ends)
  where
    split : (l.start ++ times rest i) ++ times rest (n - i) ≡ l.start ++ times rest n
    split = appended s given rest l.start i (n - i) ∙ ap (λ m. l.start ++ times rest m) (omega (arith, lt))

    early : Closure s given (same (l.start ++ times rest i) l.end) → ⊥
    early h =
        let back = same_trans (l.start ++ times rest n) l.end (l.start ++ times rest i) r (same_sym (l.start ++ times rest i) l.end h) in
        no_turn s given rest c (l.start ++ times rest i) (n - i) (omega (arith, lt)) (subst (λ p. Closure s given (same p (l.start ++ times rest i))) (sym split) back)

    ends : Closure s given (below (l.start ++ times rest i) null) → ⊥
    ends h =
        let whole = same_exists (l.start ++ times rest n) l.end r in
        let one : n - i ≡ suc (n - i - 1) = omega (arith, lt) in
        let path : l.start ++ times rest n ≡ ((l.start ++ times rest i) ++ rest ∷ []) ++ times rest (n - i - 1) =
        sym split ∙ ap (λ m. (l.start ++ times rest i) ++ times rest m) one ∙ sym (append_assoc (l.start ++ times rest i) (rest ∷ []) (times rest (n - i - 1))) in
        let next = prefix ((l.start ++ times rest i) ++ rest ∷ []) (times rest (n - i - 1)) (subst (λ p. Closure s given (exists_at p)) path whole) in
        let m = c.typed (l.start ++ times rest i) null (s.introducer rest) h (introduced (l.start ++ times rest i) rest next) in
        let e = m.1 in cc
