-- A seat is cut in two, two seats are joined, and what is known at the end.
use Rattle.std.proofs.Common.{◌≡◌, ◌≢◌, ◌⊎◌, ℕ, zero, suc, ◌+◌, ◌*◌, ◌-◌, ◌^◌, ◌<◌, ◌==◌, ◌||◌, Bool, true, false, true≢false, List, [], ◌∷◌, ◌++◌, length, set, refl, sym, ap, ◌∙◌, eq-eqb, ne_eqb, if◌then◌else◌, inl, inr, ⊎_elim, subst, Option, Some, None, arith, length-append}
use mathlib.Core.Option.{some, some-injective, some-ne-none}
use lib.ListN.{get_elem?}
use Rattle.std.proofs.lemmas.List.{length-set}
use Rattle.atomic_table.specs.Table.{State, Splits, Joins, Final, Seen, opening}
use Rattle.atomic_table.proofs.Lists.{at_set, at_snoc, at_longer}
use Rattle.shared_chart.specs.declared.view.View.{View}
use Rattle.shared_chart.specs.Turns.{total, count_turn, waits, calls_by, Fits, Kept, Each, Apart, Slotted, newcomer, spent, Covers, Ends}
use Rattle.shared_chart.specs.Plays.{left_seat, both}
use Rattle.shared_chart.proofs.Views.{total-append, total_set, total_same, none_some, each_set, apart_same, apart_none, slot_same}
use Rattle.std.proofs.lemmas.Option.{same_Some, none-some}
use Rattle.shared_chart.proofs.Slots.{calls_none, not_true, one_seen}

-- where two lists are put together, an element is of the one or of the other
at_append : {A : Type 0} (l m : List A) (i : ℕ) (a : A) → get_elem? (l ++ m) i ≡ some a → (get_elem? l i ≡ some a) ⊎ ((j : ℕ) × (get_elem? m j ≡ some a))
at_append [] m i a e = inr (i, e)
at_append (x ∷ xs) m zero a e = inl e
at_append (x ∷ xs) m (suc i) a e = at_append xs m i a e

-- a new view comes last
each_snoc : {B M E : Type 0} (F G : ℕ → View B M E → Type 0) (views : List (View B M E)) (w : View B M E) → G (length views) w → ((j : ℕ) (u : View B M E) → get_elem? views j ≡ some u → F j u → G j u) → Each F views → Each G (views ++ w ∷ [])
each_snoc F G [] w mine others old zero u e = subst (λ y. G 0 y) (some-injective w u e) mine
each_snoc F G [] w mine others old (suc j) u e = absurd (some-ne-none u (sym e))
each_snoc F G (x ∷ xs) w mine others old zero u e = others 0 u e (old 0 u e)
each_snoc F G (x ∷ xs) w mine others old (suc j) u e = each_snoc (λ i. F (suc i)) (λ i. G (suc i)) xs w mine (λ i y p q. others (suc i) y p q) (λ i y p. old (suc i) y p) j u e

apart_snoc : {B M E : Type 0} (views : List (View B M E)) (w : View B M E) → w.turn ≡ None → Apart views → Apart (views ++ w ∷ [])
apart_snoc views w idle old i j t a b ea eb ta tb = ⊎_elim
    (λ x. ⊎_elim (λ y. old i j t a b x y ta tb) (λ (y : w ≡ b). absurd (none_some t (sym idle ∙ ap (λ (z : View _ _ _). z.turn) y ∙ tb))) (at_snoc views w b j eb))
    (λ (x : w ≡ a). absurd (none_some t (sym idle ∙ ap (λ (z : View _ _ _). z.turn) x ∙ ta))) (at_snoc views w a i ea)

some_of : (a b x y : ℕ) → (0 < a → 0 < x) → (0 < b → 0 < y) → 0 < a + b → 0 < x + y
some_of zero b x y f g p = let h = g (omega arith) in omega arith
some_of (suc a) b x y f g p = let h = f (omega arith) in omega arith

either_saw : {P : Type 0} (a b : Bool) → (a ≡ true → P) → (b ≡ true → P) → (a || b) ≡ true → P
either_saw true b f g e = f refl
either_saw false b f g e = g e

some_at : {A : Type 0} (l : List A) → 0 < length l → (a : A) × (get_elem? l 0 ≡ some a)
some_at [] p = absurd (omega arith)
some_at (x ∷ xs) p = (x, refl)

not_some : (a : ℕ) → (0 < a → ⊥) → a ≡ 0
not_some zero n = refl
not_some (suc a) n = absurd (n (omega arith))

total_none : {A : Type 0} (f : A → ℕ) (l : List A) → ((j : ℕ) (u : A) → get_elem? l j ≡ some u → f u ≡ 0) → total f l ≡ 0
total_none f [] each = refl
total_none f (x ∷ xs) each = let a = each 0 x refl in let r = total_none f xs (λ j u e. each (suc j) u e) in omega arith

total_only : {A : Type 0} (f : A → ℕ) (l : List A) (i : ℕ) (v : A) → get_elem? l i ≡ some v → ((j : ℕ) (u : A) → j ≢ i → get_elem? l j ≡ some u → f u ≡ 0) → total f l ≡ f v
total_only f [] i v e each = absurd (some-ne-none v (sym e))
total_only f (x ∷ xs) zero v e each = let s : f x ≡ f v = ap f (some-injective x v e) in let r = total_none f xs (λ j u g. each (suc j) u (λ p. absurd (omega arith)) g) in omega arith
total_only f (x ∷ xs) (suc i) v e each = let a = each 0 x (λ p. absurd (omega arith)) refl in let r = total_only f xs i v e (λ j u ne g. each (suc j) u (λ p. ne (omega arith)) g) in omega arith

module _ {B M E : Type 0} (history : M → List E) (caller : E → ℕ) (stands : B → M → Type 0) (later : B → M → M → Type 0) (itself : (b : B) (x : M) → stands b x → later b x x) (base : B) where
  slot_snoc : (homes : List _) (views : List (View B M E)) (now : M) (w : View B M E) → w.holds ≡ false → Slotted homes views now → Slotted homes (views ++ w ∷ []) now
  slot_snoc homes views now w free (inl h) = inl (h.0, each_snoc (λ i u. u.holds ≡ false) (λ i u. u.holds ≡ false) views w free (λ j u e old. old) h.1)
  slot_snoc homes views now w free (inr h) = inr (h.0, (h.1.0, h.1.1, at_longer views (w ∷ []) h.1.0 h.1.1 h.1.2, h.1.3))

  pub opens : (n : ℕ) (c : M) → 0 < n → n < 2 ^ 32 → history c ≡ [] → stands base c → Kept history caller stands later n base (opening (0 ∷ 0 ∷ 0 ∷ []) (Some c ∷ []) (newcomer (Some base) (c ∷ []) 0 (n - 1)))
  opens n c some_seat few fresh stand = record {
    now = c;
    made = 1;
    served = 0;
    drawn = 0;
    mark = 0;
    owner = λ _. 0;
    words = ap (λ (l : List E). 0 ∷ 0 ∷ (2 * length l + 0) ∷ []) (sym fresh);
    room = (let l = ap (λ (l : List E). length l) fresh in omega arith);
    bit = omega arith;
    few = few;
    count = refl;
    made_few = some_seat;
    waiting = refl;
    marks = refl;
    each = each_snoc (λ _ _. Unit {0}) (Fits history caller stands later base n 1 0 0 0 c (λ _. 0)) [] (newcomer (Some base) (c ∷ []) 0 (n - 1))
        (record {
          maker = λ more. (refl, omega arith, refl);
          claims = λ m d g. ⊎_elim (λ x. absurd (some-ne-none d (sym x))) (λ (x : ◌≡◌ {A = ℕ × List E} (0, []) d). subst (λ (y : ℕ × List E). (◌≡◌ {A = ℕ} 0 0) × (y.0 < 1) × (calls_by caller y.0 (history c) ≡ y.1)) x (refl, omega arith, ap (λ (l : List E). calls_by caller 0 l) fresh)) (at_snoc [] (0, []) d m g);
          base_is = λ b e. sym (same_Some base b e);
          seen = one_seen (λ x. later base x c) c (itself base c stand);
          turn = λ t e. absurd (none_some t e);
          called = λ e. absurd (true≢false (sym e));
          holds = λ e. absurd (true≢false (sym e));
          saw = λ e. absurd (true≢false (sym e));
          set = λ p. omega arith;
        })
        (λ j u e _. absurd (some-ne-none u (sym e))) (λ i u e. tt);
    apart = apart_snoc [] (newcomer (Some base) (c ∷ []) 0 (n - 1)) refl (λ i j t v w ei ej tv tw. absurd (some-ne-none v (sym ei)));
    callers = λ m e g. absurd (some-ne-none e (sym (ap (λ (l : List E). get_elem? l m) (sym fresh) ∙ g)));
    standing = stand;
    slot = inl (refl, each_snoc (λ _ _. Unit {0}) (λ i u. u.holds ≡ false) [] (newcomer (Some base) (c ∷ []) 0 (n - 1)) refl (λ j u e _. absurd (some-ne-none u (sym e))) (λ i u e. tt));
  }

  pub opened : (n k : ℕ) (c c' : M) (items : List (Option M)) (b : B) → k ≡ n → b ≡ base → c' ≡ c → items ≡ Some c ∷ [] → 0 < n → n < 2 ^ 32 → history c ≡ [] → stands base c → Kept history caller stands later k b (opening (0 ∷ 0 ∷ 0 ∷ []) items (newcomer (Some b) (c' ∷ []) 0 (k - 1)))
  opened n k c c' items b same begun like is some_seat few fresh stand =
      subst (λ (z : ℕ × B × M × List (Option M)). Kept history caller stands later z.0 z.1 (opening (0 ∷ 0 ∷ 0 ∷ []) z.3 (newcomer (Some z.1) (z.2 ∷ []) 0 (z.0 - 1)))) (λ i. (sym same i, sym begun i, sym like i, sym is i)) (opens n c some_seat few fresh stand)

  pub cuts : (n id : ℕ) (v : View B M E) → 0 < v.unmade → Splits (Kept history caller stands later n base) id v (left_seat v) (newcomer v.base v.seen v.next 0)
  cuts n id v more s k at =
      let l : View B M E = left_seat v in let r : View B M E = newcomer v.base v.seen v.next 0 in let f = k.each id v at in let mk = f.maker (λ z. omega arith) in let vs = set s.views id l in
      let owner' : ℕ → ℕ = λ j. if j == k.made then k.made else k.owner j in
      let here : owner' k.made ≡ k.made = ap (λ (b : Bool). if b then k.made else k.owner k.made) (eq-eqb k.made k.made refl) in
      let there : (j : ℕ) → j < k.made → owner' j ≡ k.owner j = (λ j lt. ap (λ (b : Bool). if b then k.made else k.owner j) (ne_eqb j k.made (λ e. omega arith))) in
      let len : length vs ≡ k.made = length-set s.views id l ∙ k.count in record {
        now = k.now;
        made = k.made + 1;
        served = k.served;
        drawn = k.drawn;
        mark = k.mark;
        owner = owner';
        words = k.words;
        room = k.room;
        bit = k.bit;
        few = k.few;
        count = length-append vs (r ∷ []) ∙ ap (λ (x : ℕ). x + 1) len;
        made_few = (let m = mk.1 in omega arith);
        waiting = (let t = total_same waits s.views id v l at refl in let a = total-append waits vs (r ∷ []) in let p = k.waiting in omega arith);
        marks = (let t = total_same (λ (u : View B M E). u.set) s.views id v l at refl in let a = total-append (λ (u : View B M E). u.set) vs (r ∷ []) in let p = k.marks in omega arith);
        each = each_snoc (Fits history caller stands later base n (k.made + 1) k.served k.drawn k.mark k.now owner') (Fits history caller stands later base n (k.made + 1) k.served k.drawn k.mark k.now owner') vs r
            (record {
              maker = λ z. absurd (z refl);
              claims = λ m d g. ⊎_elim (λ x. absurd (some-ne-none d (sym x)))
                  (λ (x : ◌≡◌ {A = ℕ × List E} (v.next, []) d). subst (λ (y : ℕ × List E). (owner' y.0 ≡ length vs) × (y.0 < k.made + 1) × (calls_by caller y.0 (history k.now) ≡ y.1)) x
                  (ap owner' mk.2 ∙ here ∙ sym len, (let e = mk.2 in omega arith), ap (λ (j : ℕ). calls_by caller j (history k.now)) mk.2 ∙ calls_none caller k.made (history k.now) k.callers)) (at_snoc [] (v.next, []) d m g);
              base_is = f.base_is;
              seen = f.seen;
              turn = λ t e. absurd (none_some t e);
              called = λ e. absurd (true≢false (sym e));
              holds = λ e. absurd (true≢false (sym e));
              saw = λ e. absurd (true≢false (sym e));
              set = λ p. omega arith;
            })
            (λ j u e old. old)
            (each_set (Fits history caller stands later base n k.made k.served k.drawn k.mark k.now k.owner) (Fits history caller stands later base n (k.made + 1) k.served k.drawn k.mark k.now owner') s.views id l
            (record { maker = λ z. (mk.0, (let a = mk.1 in omega arith), ap (λ (x : ℕ). x + 1) mk.2); claims = λ m d g. let o = f.claims m d g in (there d.0 o.1 ∙ o.0, omega arith, o.2); base_is = f.base_is; seen = f.seen; turn = f.turn; called = f.called; holds = f.holds; saw = f.saw; set = f.set })
            (λ j u other e old. record { maker = λ z. absurd (other ((old.maker z).0 ∙ sym mk.0)); claims = λ m d g. let o = old.claims m d g in (there d.0 o.1 ∙ o.0, omega arith, o.2); base_is = old.base_is; seen = old.seen; turn = old.turn; called = old.called; holds = old.holds; saw = old.saw; set = old.set })
            k.each);
        apart = apart_snoc vs r refl (apart_same s.views id v l at refl k.apart);
        callers = λ m e g. let c = k.callers m e g in omega arith;
        standing = k.standing;
        slot = slot_snoc s.homes vs k.now r refl (slot_same s.homes s.views k.now id v l at refl k.slot);
      }

  pub glues : (n id other : ℕ) (v u : View B M E) → v.holds ≡ false → u.turn ≡ None → u.unmade ≡ 0 → Joins (Kept history caller stands later n base) id v other u (both v u) spent
  glues n id other v u away idle none_left s k at apart at' =
      let b : View B M E = both v u in let f = k.each id v at in let vs = set s.views id b in
      let was : get_elem? s.views other ≡ some u = ⊎_elim (λ x. absurd (apart x.0)) (λ x. x.1) (at_set s.views id other b u at') in let g = k.each other u was in
      let owner' : ℕ → ℕ = λ j. if k.owner j == other then id else k.owner j in
      let moved : (j : ℕ) → k.owner j ≡ other → owner' j ≡ id = (λ j e. ap (λ (x : Bool). if x then id else k.owner j) (eq-eqb (k.owner j) other e)) in
      let kept : (j i : ℕ) → k.owner j ≡ i → i ≢ other → owner' j ≡ i = (λ j i e ne. ap (λ (x : Bool). if x then id else k.owner j) (ne_eqb (k.owner j) other (λ p. ne (sym e ∙ p))) ∙ e) in
      let id_other : id ≢ other = (λ p. apart (sym p)) in
      let free : u.holds ≡ false = not_true u.holds (λ p. none_some k.served (sym idle ∙ g.called (g.holds p).0)) in
      let F = Fits history caller stands later base n k.made k.served k.drawn k.mark k.now k.owner in let G = Fits history caller stands later base n k.made k.served k.drawn k.mark k.now owner' in
      let H : ℕ → View B M E → Type 0 = λ j y. j ≢ other → G j y in record {
        now = k.now;
        made = k.made;
        served = k.served;
        drawn = k.drawn;
        mark = k.mark;
        owner = owner';
        words = k.words;
        room = k.room;
        bit = k.bit;
        few = k.few;
        count = length-set vs other spent ∙ length-set s.views id b ∙ k.count;
        made_few = k.made_few;
        waiting = (let t = total_same waits s.views id v b at refl in let t' = total_set waits vs other u spent at' in let z : waits u ≡ 0 = ap count_turn idle in let p = k.waiting in omega arith);
        marks = (let t = total_set (λ (y : View B M E). y.set) s.views id v b at in let t' = total_set (λ (y : View B M E). y.set) vs other u spent at' in let p = k.marks in omega arith);
        each = each_set H G vs other spent
            (record { maker = λ z. absurd (z refl); claims = λ m d e. absurd (some-ne-none d (sym e)); base_is = λ q e. absurd (none-some q e); seen = λ m y e. absurd (some-ne-none y (sym e)); turn = λ t e. absurd (none_some t e); called = λ e. absurd (true≢false (sym e)); holds = λ e. absurd (true≢false (sym e)); saw = λ e. absurd (true≢false (sym e)); set = λ p. absurd (omega arith) })
            (λ j y ne e h. h ne)
            (each_set F H s.views id b
            (λ ne. record {
              maker = f.maker;
              claims = λ m d e. ⊎_elim (λ x. let o = f.claims m d x in (kept d.0 id o.0 id_other, o.1, o.2)) (λ x. let o = g.claims x.0 d x.1 in (moved d.0 o.0, o.1, o.2)) (at_append v.claims u.claims m d e);
              base_is = f.base_is;
              seen = λ m y e. ⊎_elim (λ x. f.seen m y x) (λ x. g.seen x.0 y x.1) (at_append v.seen u.seen m y e);
              turn = λ t e. let o = f.turn t e in (o.0, o.1, (let a = length-append v.claims u.claims in let p = o.2 in omega arith));
              called = f.called;
              holds = λ e. absurd (true≢false (sym e ∙ away));
              saw = either_saw v.saw u.saw f.saw g.saw;
              set = λ p. let q = some_of v.set u.set (length v.claims) (length u.claims) f.set g.set p in let a = length-append v.claims u.claims in omega arith;
            })
            (λ j y other' e old ne. record { maker = old.maker; claims = λ m d e'. let o = old.claims m d e' in (kept d.0 j o.0 ne, o.1, o.2); base_is = old.base_is; seen = old.seen; turn = old.turn; called = old.called; holds = old.holds; saw = old.saw; set = old.set })
            k.each);
        apart = apart_none vs other spent refl (apart_same s.views id v b at refl k.apart);
        callers = k.callers;
        standing = k.standing;
        slot = slot_same s.homes vs k.now other u spent at' (sym free) (slot_same s.homes s.views k.now id v b at refl k.slot);
      }

  -- a seat that stands for every number is the only one that stands for any
  only_one : (n id : ℕ) (v : View B M E) (s : State (Option M) (View B M E)) (k : Kept history caller stands later n base s) → get_elem? s.views id ≡ some v → Covers history caller stands later n v → (j : ℕ) (u : View B M E) → get_elem? s.views j ≡ some u → 0 < length u.claims → j ≡ id
  only_one n id v s k at all j u e some_claim =
      let first = some_at u.claims some_claim in let o = (k.each j u e).claims 0 first.0 first.1 in
      let c = all first.0.0 (let a = o.1 in let b = k.made_few in omega arith) in
      sym o.0 ∙ ((k.each id v at).claims c.0 (first.0.0, c.1) c.2).0

  end_from : (n id : ℕ) (v : View B M E) (s : State (Option M) (View B M E)) (k : Kept history caller stands later n base s) → get_elem? s.views id ≡ some v → v.turn ≡ None → Covers history caller stands later n v → (xs : List (Option M)) → ((i : ℕ) (y : Option M) → get_elem? s.homes i ≡ some (some y) → get_elem? xs i ≡ some y) → (x : Option M) → get_elem? xs 0 ≡ some x
      → Slotted s.homes s.views k.now → (c : M) × Ends history caller stands later n base v x c
  end_from n id v s k at idle all xs back x here (inr h) =
      let i = h.1.0 in let u = h.1.1 in let f = k.each i u h.1.2 in let turn = f.called (f.holds h.1.3).0 in let is = only_one n id v s k at all i u h.1.2 (f.turn k.served turn).2 in
      absurd (none_some k.served (sym idle ∙ ap (λ (z : View B M E). z.turn) (some-injective v u (sym at ∙ ap (λ (j : ℕ). get_elem? s.views j) (sym is) ∙ h.1.2)) ∙ turn))
  end_from n id v s k at idle all xs back x here (inl h) =
      let f = k.each id v at in (
        k.now,
        record {
          is = some-injective x (Some k.now) (sym here ∙ back 0 (Some k.now) (ap (λ (hs : List _). get_elem? hs 0) h.0));
          calls = λ m d e. (f.claims m d e).2;
          callers = λ m e g. let b = k.callers m e g in let p = k.made_few in omega arith;
          standing = k.standing;
          seen = f.seen;
          saw = λ saw. let one = f.saw saw in let alone = total_only (λ (y : View B M E). y.set) s.views id v at (λ j u other e. not_some u.set (λ p. other (only_one n id v s k at all j u e ((k.each j u e).set p)))) in sym alone ∙ k.marks ∙ one;
        },
      )

  pub ends : (n id : ℕ) (v : View B M E) (words : List ℕ) (xs : List (Option M)) → v.turn ≡ None → Covers history caller stands later n v → Final (Seen (Kept history caller stands later n base) id v) words xs → (x : Option M) → get_elem? xs 0 ≡ some x → (c : M) × Ends history caller stands later n base v x c
  ends n id v words xs idle all last x here = end_from n id v last.0 last.1.0 last.1.1 idle all xs last.4 x here last.1.0.slot
