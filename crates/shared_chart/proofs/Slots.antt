-- The steps that move the object, and those that raise the history's word.
use Rattle.std.proofs.Common.{◌≡◌, ◌≢◌, ℕ, zero, suc, ◌+◌, ◌*◌, ◌%◌, ◌^◌, ◌<◌, ◌≤◌, ◌==◌, ◌||◌, Bool, true, false, true≢false, List, [], ◌∷◌, ◌++◌, length, slice_index, set, refl, sym, ap, ◌∙◌, eq-eqb, ne_eqb, drop, if◌then◌else◌, inl, inr, ⊎_elim, subst, Option, Some, None, arith, length-append}
use mathlib.Core.Option.{some, none, some-injective, some-ne-none}
use Rattle.std.proofs.Math.Nat.{mod-eq_of_lt}
use Rattle.std.proofs.lemmas.Bool.Decides.{nat_tests}
use Rattle.std.proofs.lemmas.Option.{same_Some}
use lib.ListN.{get_elem?}
use Rattle.std.proofs.lemmas.List.{length-set, append-nil}
use Rattle.atomic_table.specs.Table.{State, Me, Step, Act, keeps, takes, gives, Allows, put_back, rest}
use Rattle.atomic_table.proofs.Lists.{at_snoc, set_here}
use Rattle.shared_chart.specs.declared.view.View.{View}
use Rattle.shared_chart.specs.Turns.{total, count_turn, waits, calls_by, AreSeen, Fits, Kept, Held, Slotted}
use Rattle.shared_chart.specs.Plays.{Sat, Comes, took, raised, marked, gave, noted, ended}
use Rattle.shared_chart.proofs.Steps.{mod_suc, set_read}
use Rattle.shared_chart.proofs.Views.{total_set, total_same, at_less, none_some, each_set, apart_same, apart_none, slot_same}

total_at : {A : Type 0} (f : A → ℕ) (l : List A) (i : ℕ) (v : A) → get_elem? l i ≡ some v → f v ≤ total f l
total_at f [] i v e = absurd (some-ne-none v (sym e))
total_at f (x ∷ xs) zero v e = let s : f x ≡ f v = ap f (some-injective x v e) in omega arith
total_at f (x ∷ xs) (suc i) v e = let r = total_at f xs i v e in omega arith

pub not_true : (b : Bool) → (b ≡ true → ⊥) → b ≡ false
not_true true n = absurd (n refl)
not_true false n = refl

seen_or : (saw : Bool) (m mark : ℕ) → m ≡ mark → (saw ≡ true → mark ≡ 1) → (saw || (m == 1)) ≡ true → mark ≡ 1
seen_or true m mark is old e = old refl
seen_or false m mark is old e = let p : (m == 1) ≡ true = e in let q : m ≡ 1 = grind (arith, nat_tests) in sym is ∙ q

pub one_seen : {M : Type 0} (P : M → Type 0) (x : M) → P x → (m : ℕ) (y : M) → get_elem? (x ∷ []) m ≡ some y → P y
one_seen P x p m y e = ⊎_elim (λ z. absurd (some-ne-none y (sym z))) (λ (z : x ≡ y). subst P z p) (at_snoc [] x y m e)

same_head : {M : Type 0} (x y : M) → ◌≡◌ {A = List M} (x ∷ []) (y ∷ []) → x ≡ y
same_head x y p = some-injective x y (ap (λ (l : List _). get_elem? l 0) p)

-- a seat that is still to be made has no call in the history
pub calls_none : {E : Type 0} (caller : E → ℕ) (k : ℕ) (log : List E) → ((m : ℕ) (e : E) → get_elem? log m ≡ some e → caller e < k) → calls_by caller k log ≡ []
calls_none caller k [] below = refl
calls_none caller k (x ∷ xs) below = ap (λ (b : Bool). if b then x ∷ calls_by caller k xs else calls_by caller k xs) (ne_eqb k (caller x) (λ e. let b = below 0 x refl in omega arith)) ∙ calls_none caller k xs (λ m e g. below (suc m) e g)

module _ {B M E : Type 0} (history : M → List E) (caller : E → ℕ) (stands : B → M → Type 0) (later : B → M → M → Type 0) (itself : (b : B) (x : M) → stands b x → later b x x) (goes_on : (b : B) (x y z : M) → later b x y → later b y z → later b x z) (base : B) where
  abbrev The : (n : ℕ) (s : State (Option M) (View B M E)) → Kept history caller stands later n base s → ℕ → View B M E → Type 0
  The n s k = Fits history caller stands later base n k.made k.served k.drawn k.mark k.now k.owner

  -- one seat at most is called
  one_called : (n : ℕ) (s : State (Option M) (View B M E)) (k : Kept history caller stands later n base s) (i j : ℕ) (v u : View B M E) → get_elem? s.views i ≡ some v → get_elem? s.views j ≡ some u → v.called ≡ true → u.called ≡ true → i ≡ j
  one_called n s k i j v u ei ej cv cu = k.apart i j k.served v u ei ej ((k.each i v ei).called cv) ((k.each j u ej).called cu)

  one_holds : (n : ℕ) (s : State (Option M) (View B M E)) (k : Kept history caller stands later n base s) (i j : ℕ) (v u : View B M E) → get_elem? s.views i ≡ some v → get_elem? s.views j ≡ some u → v.called ≡ true → u.holds ≡ true → j ≡ i
  one_holds n s k i j v u ei ej cv hu = sym (one_called n s k i j v u ei ej cv ((k.each j u ej).holds hu).0)

  not_held : (n : ℕ) (s : State (Option M) (View B M E)) (k : Kept history caller stands later n base s) (id : ℕ) (v : View B M E) → get_elem? s.views id ≡ some v → v.called ≡ true → v.holds ≡ false → Held s.views → ⊥
  not_held n s k id v at called free h = let is = one_holds n s k id h.0 v h.1 at h.2 called h.3 in
      true≢false (sym h.3 ∙ ap (λ (z : View B M E). z.holds) (some-injective h.1 v (sym h.2 ∙ ap (λ (i : ℕ). get_elem? s.views i) is ∙ at)) ∙ free)

  take_from : (n id : ℕ) (st : Step (Option M)) (me : Sat B M E) → me.0.called ≡ true → me.0.holds ≡ false → (s : State (Option M) (View B M E)) (k : Kept history caller stands later n base s) → get_elem? s.views id ≡ some me.0
      → Slotted s.homes s.views k.now
      → (w : View B M E) × (a : Act (Option M)) × Rattle.atomic_table.specs.Table.Valid s.homes me.1 a × Kept history caller stands later n base (Rattle.atomic_table.specs.Table.stepped s 2 (slice_index s.words 2) id me.1 w a)
      × took history caller stands later st me (slice_index s.words 2) (w, Rattle.atomic_table.specs.Table.carried_after me.1 a)
  take_from n id st me called free s k at (inr h) = absurd (not_held n s k id me.0 at called free h.1)
  take_from n id st me called free s k at (inl h) =
      let v = me.0 in let c = k.now in let w : View B M E = record v { holds = true; seen = c ∷ []; mark = k.mark } in let f = k.each id v at in (
        w,
        takes 0 (Some c),
        ap (λ (hs : List _). get_elem? hs 0) h.0,
        record {
          now = k.now;
          made = k.made;
          served = k.served;
          drawn = k.drawn;
          mark = k.mark;
          owner = k.owner;
          words = ap (λ (ws : List ℕ). set ws 2 (slice_index ws 2)) k.words;
          room = k.room;
          bit = k.bit;
          few = k.few;
          count = length-set s.views id w ∙ k.count;
          made_few = k.made_few;
          waiting = ap (λ (x : ℕ). x + k.served) (total_same waits s.views id v w at refl) ∙ k.waiting;
          marks = total_same (λ (u : View B M E). u.set) s.views id v w at refl ∙ k.marks;
          each = each_set (The n s k) (The n s k) s.views id w
              (record { maker = f.maker; claims = f.claims; base_is = f.base_is; seen = one_seen (λ x. later base x c) c (itself base c k.standing); turn = f.turn; called = f.called; holds = λ e. (called, refl, refl); saw = f.saw; set = f.set })
              (λ j u other e old. old)
              k.each;
          apart = apart_same s.views id v w at refl k.apart;
          callers = k.callers;
          standing = k.standing;
          slot = inr (ap (λ (hs : List _). set hs 0 none) h.0, (id, w, set_here s.views id w (at_less s.views id v at), refl));
        },
        (
          c,
          k.mark,
          refl,
          ap (λ (ws : List ℕ). slice_index ws 2) k.words,
          record {
            bit = k.bit;
            saw = f.saw;
            standing = λ b is. subst (λ (x : B). stands x c) (sym (f.base_is b is)) k.standing;
            seen = λ b is. subst (λ (x : B). AreSeen history caller stands later x v.seen c) (sym (f.base_is b is)) f.seen;
            calls = λ j d e. (f.claims j d e).2;
            room = k.room;
          },
        ),
      )

  pub takes_it : (n slots id : ℕ) (st : Step (Option M)) (me : Sat B M E) → me.0.called ≡ true → me.0.holds ≡ false → Allows (Kept history caller stands later n base) slots id me 2 (λ x. x) (took history caller stands later st me)
  takes_it n slots id st me called free s k len at fit = take_from n id st me called free s k at k.slot

  calls-append : (k : ℕ) (xs ys : List E) → calls_by caller k (xs ++ ys) ≡ calls_by caller k xs ++ calls_by caller k ys
  calls-append k [] ys = refl
  calls-append k (x ∷ xs) ys = let r = calls-append k xs ys in
      elim (k == caller x) as (λ b. (if b then x ∷ calls_by caller k (xs ++ ys) else calls_by caller k (xs ++ ys)) ≡ (if b then x ∷ calls_by caller k xs else calls_by caller k xs) ++ calls_by caller k ys) [ true ↦ ap (λ l. x ∷ l) r | false ↦ r ]

  calls_mine : (k : ℕ) (e : E) → caller e ≡ k → calls_by caller k (e ∷ []) ≡ e ∷ []
  calls_mine k e is = ap (λ (b : Bool). if b then e ∷ [] else []) (eq-eqb k (caller e) (sym is))

  calls_others : (k : ℕ) (e : E) → k ≢ caller e → calls_by caller k (e ∷ []) ≡ []
  calls_others k e isnt = ap (λ (b : Bool). if b then e ∷ [] else []) (ne_eqb k (caller e) isnt)

  same_object : (c c' : M) → ◌≡◌ {A = List (ℕ × Option M)} ((0, Some c) ∷ []) ((0, Some c') ∷ []) → c ≡ c'
  same_object c c' e = same_Some c c' (ap (λ (x : ℕ × Option M). x.1) (some-injective (0, Some c) (0, Some c') (ap (λ (l : List (ℕ × Option M)). get_elem? l 0) e)))

  same_last : (xs : List E) (e e' : E) → xs ++ e ∷ [] ≡ xs ++ e' ∷ [] → e ≡ e'
  same_last [] e e' p = some-injective e e' (ap (λ (l : List E). get_elem? l 0) p)
  same_last (x ∷ xs) e e' p = same_last xs e e' (ap (λ (l : List E). drop 1 l) p)

  out : (homes : List _) (views : List (View B M E)) (now : M) (id : ℕ) (v : View B M E) → get_elem? views id ≡ some v → v.holds ≡ true → Slotted homes views now → homes ≡ none ∷ []
  out homes views now id v at holds (inr h) = h.0
  out homes views now id v at holds (inl h) = absurd (true≢false (sym holds ∙ h.1 id v at))

  -- the history has one entry more, of the seat that has the object
  pub raises : (n slots id number : ℕ) (calls : List E) (b : B) (c x : M) (e : E) (st : Step (Option M)) (me : Sat B M E) → me.0.holds ≡ true → Comes stands later me b x c → me.1 ≡ (0, Some c) ∷ [] → me.0.claims ≡ (number, calls) ∷ [] → history c ≡ history x ++ e ∷ [] → caller e ≡ number → length (history c) < 2 ^ 63
      → Allows (Kept history caller stands later n base) slots id me 2 (λ x. (x + 2) % 2 ^ 64) (raised history st me)
  raises n slots id number calls b c x e st me holds comes has claims more by room s k len at fit =
      let saw_x = comes.seen in let stand = comes.standing in
      let v = me.0 in let w : View B M E = record v { seen = c ∷ []; claims = (number, calls ++ e ∷ []) ∷ [] } in let f = k.each id v at in let h = f.holds holds in
      let b_is = f.base_is b comes.begun in let x_is : x ≡ k.now = same_head x k.now (sym saw_x ∙ h.1) in
      let late' : later base k.now c = subst (λ (y : B × M). later y.0 y.1 c) (λ i. (b_is i, x_is i)) comes.late in
      let log' : List E = history c in let grown : log' ≡ history k.now ++ e ∷ [] = more ∙ ap (λ (y : M). history y ++ e ∷ []) x_is in let mine = f.claims 0 (number, calls) (ap (λ (l : List _). get_elem? l 0) claims) in
      let longer : length log' ≡ length (history k.now) + 1 = ap (λ (l : List E). length l) grown ∙ length-append (history k.now) (e ∷ []) in (
        w,
        keeps,
        tt,
        record {
          now = c;
          made = k.made;
          served = k.served;
          drawn = k.drawn;
          mark = k.mark;
          owner = k.owner;
          words = ap (λ (ws : List ℕ). set ws 2 ((slice_index ws 2 + 2) % 2 ^ 64)) k.words
              ∙ ap (λ (x : ℕ). k.drawn % 2 ^ 64 ∷ k.served % 2 ^ 64 ∷ x ∷ []) (mod-eq_of_lt (let b = k.bit in omega arith) ∙ (let g : 2 * length (history k.now) + k.mark + 2 ≡ 2 * length log' + k.mark = omega arith in g));
          room = room;
          bit = k.bit;
          few = k.few;
          count = length-set s.views id w ∙ k.count;
          made_few = k.made_few;
          waiting = ap (λ (x : ℕ). x + k.served) (total_same waits s.views id v w at refl) ∙ k.waiting;
          marks = total_same (λ (u : View B M E). u.set) s.views id v w at refl ∙ k.marks;
          each = each_set (The n s k) (Fits history caller stands later base n k.made k.served k.drawn k.mark c k.owner) s.views id w
              (record { maker = f.maker; claims = λ m d g. ⊎_elim (λ x. absurd (some-ne-none d (sym x))) (λ (x : ◌≡◌ {A = ℕ × List E} (number, calls ++ e ∷ []) d). subst (λ (y : ℕ × List E). (k.owner y.0 ≡ id) × (y.0 < k.made) × (calls_by caller y.0 log' ≡ y.1)) x (mine.0, mine.1, ap (λ (l : List E). calls_by caller number l) grown ∙ calls-append number (history k.now) (e ∷ []) ∙ ap (λ (l : List E). l ++ calls_by caller number (e ∷ [])) mine.2 ∙ ap (λ (l : List E). calls ++ l) (calls_mine number e by))) (at_snoc [] (number, calls ++ e ∷ []) d m g); base_is = f.base_is; seen = one_seen (λ y. later base y c) c (itself base c (subst (λ (y : B). stands y c) b_is stand)); turn = λ t e'. let o = f.turn t e' in (o.0, o.1, omega arith); called = f.called; holds = λ e'. (h.0, refl, h.2); saw = f.saw; set = λ p. omega arith })
              (λ j u other e' old. record {
                maker = old.maker;
                claims = λ m d g. let o = old.claims m d g in (o.0, o.1, ap (λ (l : List E). calls_by caller d.0 l) grown ∙ calls-append d.0 (history k.now) (e ∷ []) ∙ ap (λ (l : List E). calls_by caller d.0 (history k.now) ++ l) (calls_others d.0 e (λ p. other (sym o.0 ∙ ap k.owner (p ∙ by) ∙ mine.0))) ∙ append-nil (calls_by caller d.0 (history k.now)) ∙ o.2);
                base_is = old.base_is;
                seen = λ m y g. goes_on base y k.now c (old.seen m y g) late';
                turn = old.turn;
                called = old.called;
                holds = λ p. absurd (other (one_holds n s k id j v u at e' h.0 p));
                saw = old.saw;
                set = old.set;
              })
              k.each;
          apart = apart_same s.views id v w at refl k.apart;
          callers = λ m d g. ⊎_elim (λ x. k.callers m d x) (λ (x : e ≡ d). let p : caller d ≡ number = ap caller (sym x) ∙ by in let q = mine.1 in omega arith) (at_snoc (history k.now) e d m (ap (λ (l : List E). get_elem? l m) (sym grown) ∙ g));
          standing = subst (λ (y : B). stands y c) b_is stand;
          slot = inr (out s.homes s.views k.now id v at holds k.slot, (id, w, set_here s.views id w (at_less s.views id v at), holds));
        },
        λ c' x' e' k' calls' has' saw' more' claims'.
            let cs : c ≡ c' = same_object c c' (sym has ∙ has') in
            let xs : x ≡ x' = same_head x x' (sym saw_x ∙ saw') in
            let es : e ≡ e' = same_last (history x) e e' (sym more ∙ ap history cs ∙ more' ∙ ap (λ (y : M). history y ++ e' ∷ []) (sym xs)) in
            let ks : ◌≡◌ {A = ℕ × List E} (number, calls) (k', calls') = some-injective (number, calls) (k', calls') (ap (λ (l : List (ℕ × List E)). get_elem? l 0) (sym claims ∙ claims')) in
            λ i. (record v { seen = cs i ∷ []; claims = ((ks i).0, (ks i).1 ++ es i ∷ []) ∷ [] }, me.1),
      )

  -- no seat has set the mark before
  pub marks_it : (n slots id : ℕ) (st : Step (Option M)) (me : Sat B M E) → me.0.holds ≡ true → me.0.mark ≡ 0 → 0 < length me.0.claims → Allows (Kept history caller stands later n base) slots id me 2 (λ x. (x + 1) % 2 ^ 64) (marked st me)
  marks_it n slots id st me holds clear mine s k len at fit =
      let v = me.0 in let w : View B M E = record v { mark = 1; saw = true; set = 1 } in let f = k.each id v at in let h = f.holds holds in let none_yet : k.mark ≡ 0 = sym h.2 ∙ clear in (
        w,
        keeps,
        tt,
        record {
          now = k.now;
          made = k.made;
          served = k.served;
          drawn = k.drawn;
          mark = 1;
          owner = k.owner;
          words = ap (λ (ws : List ℕ). set ws 2 ((slice_index ws 2 + 1) % 2 ^ 64)) k.words
              ∙ ap (λ (x : ℕ). k.drawn % 2 ^ 64 ∷ k.served % 2 ^ 64 ∷ x ∷ []) (mod-eq_of_lt (let b = k.bit in let r = k.room in omega arith) ∙ (let g : 2 * length (history k.now) + k.mark + 1 ≡ 2 * length (history k.now) + 1 = omega arith in g));
          room = k.room;
          bit = omega arith;
          few = k.few;
          count = length-set s.views id w ∙ k.count;
          made_few = k.made_few;
          waiting = ap (λ (x : ℕ). x + k.served) (total_same waits s.views id v w at refl) ∙ k.waiting;
          marks = (let t = total_set (λ (u : View B M E). u.set) s.views id v w at in let m = k.marks in let l = total_at (λ (u : View B M E). u.set) s.views id v at in omega arith);
          each = each_set (The n s k) (Fits history caller stands later base n k.made k.served k.drawn 1 k.now k.owner) s.views id w
              (record { maker = f.maker; claims = f.claims; base_is = f.base_is; seen = f.seen; turn = f.turn; called = f.called; holds = λ e. (h.0, h.1, refl); saw = λ e. refl; set = λ p. mine })
              (λ j u other e' old. record { maker = old.maker; claims = old.claims; base_is = old.base_is; seen = old.seen; turn = old.turn; called = old.called; holds = λ p. absurd (other (one_holds n s k id j v u at e' h.0 p)); saw = λ p. refl; set = old.set })
              k.each;
          apart = apart_same s.views id v w at refl k.apart;
          callers = k.callers;
          standing = k.standing;
          slot = inr (out s.homes s.views k.now id v at holds k.slot, (id, w, set_here s.views id w (at_less s.views id v at), holds));
        },
        refl,
      )

  -- the object is given back in a state that comes from the one that the seat had, with the same history
  pub record Back (me : Sat B M E) (b : B) (x c : M) : Type 0 where
    pub comes : Comes stands later me b x c
    pub has : me.1 ≡ (0, Some c) ∷ []
    pub same : history c ≡ history x

  give_with : (n id i : ℕ) (saw : Bool) (b : B) (x c : M) (me : Sat B M E) (s : State (Option M) (View B M E)) (k : Kept history caller stands later n base s) → get_elem? s.views id ≡ some me.0 → me.0.holds ≡ true → Back me b x c → (saw ≡ true → k.mark ≡ 1)
      → Kept history caller stands later n base (Rattle.atomic_table.specs.Table.stepped s i (slice_index s.words i) id me.1 (record me.0 { holds = false; seen = c ∷ []; saw = saw }) gives)
  give_with n id i saw b x c me s k at holds back right =
      let v = me.0 in let w : View B M E = record v { holds = false; seen = c ∷ []; saw = saw } in let f = k.each id v at in let h = f.holds holds in
      let b_is = f.base_is b back.comes.begun in let x_is : x ≡ k.now = same_head x k.now (sym back.comes.seen ∙ h.1) in
      let late' : later base k.now c = subst (λ (y : B × M). later y.0 y.1 c) (λ i. (b_is i, x_is i)) back.comes.late in
      let log_is : history k.now ≡ history c = sym (back.same ∙ ap history x_is) in
      let len : length (history k.now) ≡ length (history c) = ap (λ (l : List E). length l) log_is in record {
        now = c;
        made = k.made;
        served = k.served;
        drawn = k.drawn;
        mark = k.mark;
        owner = k.owner;
        words = set_read s.words i ∙ k.words ∙ ap (λ (l : List E). k.drawn % 2 ^ 64 ∷ k.served % 2 ^ 64 ∷ (2 * length l + k.mark) ∷ []) log_is;
        room = (let r = k.room in omega arith);
        bit = k.bit;
        few = k.few;
        count = length-set s.views id w ∙ k.count;
        made_few = k.made_few;
        waiting = ap (λ (x : ℕ). x + k.served) (total_same waits s.views id v w at refl) ∙ k.waiting;
        marks = total_same (λ (u : View B M E). u.set) s.views id v w at refl ∙ k.marks;
        each = each_set (The n s k) (Fits history caller stands later base n k.made k.served k.drawn k.mark c k.owner) s.views id w
            (record { maker = f.maker; claims = λ m d g. let o = f.claims m d g in (o.0, o.1, ap (λ (l : List E). calls_by caller d.0 l) (sym log_is) ∙ o.2); base_is = f.base_is; seen = one_seen (λ y. later base y c) c (itself base c (subst (λ (y : B). stands y c) b_is back.comes.standing)); turn = f.turn; called = f.called; holds = λ e. absurd (true≢false (sym e)); saw = right; set = f.set })
            (λ j u other e old. record {
              maker = old.maker;
              claims = λ m d g. let o = old.claims m d g in (o.0, o.1, ap (λ (l : List E). calls_by caller d.0 l) (sym log_is) ∙ o.2);
              base_is = old.base_is;
              seen = λ m y g. goes_on base y k.now c (old.seen m y g) late';
              turn = old.turn;
              called = old.called;
              holds = λ p. absurd (other (one_holds n s k id j v u at e h.0 p));
              saw = old.saw;
              set = old.set;
            })
            k.each;
        apart = apart_same s.views id v w at refl k.apart;
        callers = λ m d g. k.callers m d (ap (λ (l : List E). get_elem? l m) log_is ∙ g);
        standing = subst (λ (y : B). stands y c) b_is back.comes.standing;
        slot = inl (
          ap (λ (cs : List (ℕ × Option M)). put_back s.homes cs) back.has ∙ ap (λ (hs : List _). set hs 0 (some (Some c))) (out s.homes s.views k.now id v at holds k.slot),
          each_set (λ j u. Unit {0}) (λ j u. u.holds ≡ false) s.views id w refl (λ j u other e old. not_true u.holds (λ p. other (one_holds n s k id j v u at e h.0 p))) (λ j u e. tt),
        );
      }

  pub gives_it : (n slots id : ℕ) (b : B) (x c : M) (st : Step (Option M)) (me : Sat B M E) → me.0.holds ≡ true → Back me b x c → Allows (Kept history caller stands later n base) slots id me 2 (λ x. x) (gave st me)
  gives_it n slots id b x c st me holds back s k len at fit =
      (record me.0 { holds = false; seen = c ∷ [] }, gives, tt, give_with n id 2 me.0.saw b x c me s k at holds back (k.each id me.0 at).saw, λ c' has'. let cs = same_object c c' (sym back.has ∙ has') in λ i. (record me.0 { holds = false; seen = cs i ∷ [] }, rest me.1))

  pub notes_it : (n slots id : ℕ) (b : B) (x c : M) (st : Step (Option M)) (me : Sat B M E) → me.0.holds ≡ true → Back me b x c → Allows (Kept history caller stands later n base) slots id me 2 (λ x. x) (noted st me)
  notes_it n slots id b x c st me holds back s k len at fit =
      let f = k.each id me.0 at in let m = (f.holds holds).2 in
      (record me.0 { holds = false; seen = c ∷ []; saw = me.0.saw || (me.0.mark == 1) }, gives, tt, give_with n id 2 (me.0.saw || (me.0.mark == 1)) b x c me s k at holds back (seen_or me.0.saw me.0.mark k.mark m f.saw), λ c' has'. let cs = same_object c c' (sym back.has ∙ has') in λ i. (record me.0 { holds = false; seen = cs i ∷ []; saw = me.0.saw || (me.0.mark == 1) }, rest me.1))

  -- the turn ends, and the next is called
  pub ends_it : (n slots id : ℕ) (st : Step (Option M)) (me : Sat B M E) → me.0.called ≡ true → me.0.holds ≡ false → Allows (Kept history caller stands later n base) slots id me 1 (λ x. (x + 1) % 2 ^ 64) (ended st me)
  ends_it n slots id st me called free s k len at fit =
      let v = me.0 in let w : View B M E = record v { turn = None; called = false } in let f = k.each id v at in let turn = f.called called in (
        w,
        keeps,
        tt,
        record {
          now = k.now;
          made = k.made;
          served = k.served + 1;
          drawn = k.drawn;
          mark = k.mark;
          owner = k.owner;
          words = ap (λ (ws : List ℕ). set ws 1 ((slice_index ws 1 + 1) % 2 ^ 64)) k.words ∙ ap (λ (x : ℕ). k.drawn % 2 ^ 64 ∷ x ∷ (2 * length (history k.now) + k.mark) ∷ []) (mod_suc k.served (2 ^ 64));
          room = k.room;
          bit = k.bit;
          few = k.few;
          count = length-set s.views id w ∙ k.count;
          made_few = k.made_few;
          waiting = (let t = total_set waits s.views id v w at in let z : waits v ≡ 1 = ap count_turn turn in let p = k.waiting in omega arith);
          marks = total_same (λ (u : View B M E). u.set) s.views id v w at refl ∙ k.marks;
          each = each_set (The n s k) (Fits history caller stands later base n k.made (k.served + 1) k.drawn k.mark k.now k.owner) s.views id w
              (record { maker = f.maker; claims = f.claims; base_is = f.base_is; seen = f.seen; turn = λ t e. absurd (none_some t e); called = λ e. absurd (true≢false (sym e)); holds = λ e. absurd (true≢false (sym e ∙ free)); saw = f.saw; set = f.set })
              (λ j u other e old. record {
                maker = old.maker;
                claims = old.claims;
                base_is = old.base_is;
                seen = old.seen;
                turn = λ t e'. let o = old.turn t e' in let ne : t ≢ k.served = (λ q. other (k.apart j id t u v e at e' (turn ∙ ap (λ (x : ℕ). Some x) (sym q)))) in (omega arith, o.1, o.2);
                called = λ e'. absurd (other (one_called n s k j id u v e at e' called));
                holds = λ e'. absurd (other (one_holds n s k id j v u at e called e'));
                saw = old.saw;
                set = old.set;
              })
              k.each;
          apart = apart_none s.views id w refl k.apart;
          callers = k.callers;
          standing = k.standing;
          slot = slot_same s.homes s.views k.now id v w at refl k.slot;
        },
        refl,
      )

-- what stands first is followed by the rest
pub carries_first : {S : Type 0} {l k : List (ℕ × S)} {x : ℕ × S} → l ≡ x ∷ k → l ≡ x ∷ rest l
carries_first {x = x} p = p ∙ ap (λ l. x ∷ rest l) (sym p)
