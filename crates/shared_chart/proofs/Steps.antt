-- Each step of the lock keeps its rule.
use Rattle.std.proofs.Common.{◌≡◌, ℕ, zero, suc, ◌+◌, ◌*◌, ◌/◌, ◌%◌, ◌^◌, ◌<◌, ◌≤◌, true, List, [], ◌∷◌, length, slice_index, set, refl, sym, ap, ◌∙◌, subst, Option, Some, None, arith}
use mathlib.Core.Option.{some}
use lib.ListN.{get_elem?}
use mathlib.Core.Logic.{dite}
use native.Mathlib.Decide.{ℕ_discrete}
use Rattle.std.proofs.Math.Nat.{mod-add-div, add-mul-mod_self_left}
use Rattle.std.proofs.lemmas.Option.{same_Some}
use Rattle.std.proofs.lemmas.List.{length-set}
use Rattle.atomic_table.specs.Table.{State, Step, keeps, Allows}
use Rattle.atomic_table.proofs.Lists.{set_again, one_turn}
use Rattle.shared_chart.specs.declared.view.View.{View}
use Rattle.shared_chart.specs.Turns.{total, count_turn, waits, Fits, Kept}
use Rattle.shared_chart.specs.Plays.{Sat, drew, looked}
use Rattle.shared_chart.proofs.Views.{total_set, total_same, none_some, each_set, apart_set, apart_same, slot_same}

pub mod_suc : (d m : ℕ) → (d % m + 1) % m ≡ (d + 1) % m
mod_suc d m = sym (ap (λ x. x % m) (let e = mod-add-div d m in let q : ℕ = m * (d / m) in let r : ℕ = d % m in let e' : r + q ≡ d = e in let g : d + 1 ≡ r + 1 + q = omega arith in g) ∙ add-mul-mod_self_left (d % m + 1) m (d / m))

pub set_read : (ws : List ℕ) (i : ℕ) → set ws i (slice_index ws i) ≡ ws
set_read [] i = refl
set_read (x ∷ xs) zero = refl
set_read (x ∷ xs) (suc i) = ap (λ l. x ∷ l) (set_read xs i)

count_le : (o : Option ℕ) → count_turn o ≤ 1
count_le None = omega arith
count_le (Some t) = omega arith

total_waits : {B M E : Type 0} (views : List (View B M E)) → total waits views ≤ length views
total_waits [] = omega arith
total_waits (v ∷ vs) = let r = total_waits vs in let c = count_le v.turn in omega arith

module _ {B M E : Type 0} (history : M → List E) (caller : E → ℕ) (stands : B → M → Type 0) (later : B → M → M → Type 0) (base : B) where
  abbrev Same : ℕ → State (Option M) (View B M E) → ℕ → ℕ → View B M E → State (Option M) (View B M E)
  Same n s i id v = record { words = set s.words i (slice_index s.words i); homes = s.homes; views = set s.views id v }

  stays : (n : ℕ) (s : State (Option M) (View B M E)) (i id : ℕ) (v : View B M E) → Kept history caller stands later n base s → get_elem? s.views id ≡ some v → Kept history caller stands later n base (Same n s i id v)
  stays n s i id v k at = let p = sym (set_read s.words i) in let q = sym (set_again s.views id v at) in
      subst (λ (z : State (Option M) (View B M E)). Kept history caller stands later n base z) (λ j. record { words = p j; homes = s.homes; views = q j }) k

  pub draws : (n slots id : ℕ) (st : Step (Option M)) (me : Sat B M E) → me.0.turn ≡ None → 0 < length me.0.claims → Allows (Kept history caller stands later n base) slots id me 0 (λ x. (x + 1) % 2 ^ 64) (drew st me)
  draws n slots id st me idle mine s k len at fit =
      let v = me.0 in let w : View B M E = record v { turn = Some k.drawn } in let f = k.each id v at in (
        w,
        keeps,
        tt,
        record {
          now = k.now;
          made = k.made;
          served = k.served;
          drawn = k.drawn + 1;
          mark = k.mark;
          owner = k.owner;
          words = ap (λ (ws : List ℕ). set ws 0 ((slice_index ws 0 + 1) % 2 ^ 64)) k.words ∙ ap (λ (x : ℕ). x ∷ k.served % 2 ^ 64 ∷ (2 * length (history k.now) + k.mark) ∷ []) (mod_suc k.drawn (2 ^ 64));
          room = k.room;
          bit = k.bit;
          few = k.few;
          count = length-set s.views id w ∙ k.count;
          made_few = k.made_few;
          waiting = (let t = total_set waits s.views id v w at in let z : waits v ≡ 0 = ap count_turn idle in let p = k.waiting in omega arith);
          marks = total_same (λ (u : View B M E). u.set) s.views id v w at refl ∙ k.marks;
          each = each_set (Fits history caller stands later base n k.made k.served k.drawn k.mark k.now k.owner) (Fits history caller stands later base n k.made k.served (k.drawn + 1) k.mark k.now k.owner) s.views id w
              (record {
                maker = f.maker;
                claims = f.claims;
                base_is = f.base_is;
                seen = f.seen;
                turn = λ t e. let d = same_Some k.drawn t e in let p = k.waiting in (omega arith, omega arith, mine);
                called = λ e. absurd (none_some k.served (sym idle ∙ f.called e));
                holds = f.holds;
                saw = f.saw;
                set = f.set;
              })
              (λ j u other e old. record { maker = old.maker; claims = old.claims; base_is = old.base_is; seen = old.seen; turn = λ t e'. let o = old.turn t e' in (o.0, omega arith, o.2); called = old.called; holds = old.holds; saw = old.saw; set = old.set })
              k.each;
          apart = apart_set s.views id w (λ j t u other e tu tw. let d = same_Some k.drawn t tw in let o = (k.each j u e).turn t tu in let lt = o.1 in omega arith) k.apart;
          callers = k.callers;
          standing = k.standing;
          slot = slot_same s.homes s.views k.now id v w at refl k.slot;
        },
        (k.drawn, sym (ap (λ (ws : List ℕ). slice_index ws 0) k.words), refl),
      )

  -- the turn is called, or nothing is learned
  pub looks : (n slots id t : ℕ) (st : Step (Option M)) (me : Sat B M E) → me.0.turn ≡ Some t → Allows (Kept history caller stands later n base) slots id me 1 (λ x. x) (looked st me)
  looks n slots id t st me turn s k len at fit = dite (ℕ_discrete (t % 2 ^ 64) (slice_index s.words 1))
      (λ is. let v = me.0 in let w : View B M E = record v { called = true } in let f = k.each id v at in let o = f.turn t turn in
      let same : k.served ≡ t = one_turn k.served t (2 ^ 64) o.0 (let p = k.waiting in let q = total_waits s.views in let c = k.count in let b = k.made_few in let few = k.few in let lt = o.1 in omega arith) (sym (is ∙ ap (λ (ws : List ℕ). slice_index ws 1) k.words)) in (
        w,
        keeps,
        tt,
        record {
          now = k.now;
          made = k.made;
          served = k.served;
          drawn = k.drawn;
          mark = k.mark;
          owner = k.owner;
          words = set_read s.words 1 ∙ k.words;
          room = k.room;
          bit = k.bit;
          few = k.few;
          count = length-set s.views id w ∙ k.count;
          made_few = k.made_few;
          waiting = ap (λ (x : ℕ). x + k.served) (total_same waits s.views id v w at refl) ∙ k.waiting;
          marks = total_same (λ (u : View B M E). u.set) s.views id v w at refl ∙ k.marks;
          each = each_set (Fits history caller stands later base n k.made k.served k.drawn k.mark k.now k.owner) (Fits history caller stands later base n k.made k.served k.drawn k.mark k.now k.owner) s.views id w
              (record {
                maker = f.maker;
                claims = f.claims;
                base_is = f.base_is;
                seen = f.seen;
                turn = f.turn;
                called = λ e. turn ∙ ap (λ (x : ℕ). Some x) (sym same);
                holds = λ e. let h = f.holds e in (refl, h.1, h.2);
                saw = f.saw;
                set = f.set;
              })
              (λ j u other e old. old)
              k.each;
          apart = apart_same s.views id v w at refl k.apart;
          callers = k.callers;
          standing = k.standing;
          slot = slot_same s.homes s.views k.now id v w at refl k.slot;
        },
        λ t' e. ((λ here. refl), λ away. absurd (away (ap (λ (x : ℕ). x % 2 ^ 64) (same_Some t' t (sym e ∙ turn)) ∙ is))),
      ))
      (λ isnt. (me.0, keeps, tt, stays n s 1 id me.0 k at, λ t' e. ((λ here. absurd (isnt (ap (λ (x : ℕ). x % 2 ^ 64) (same_Some t t' (sym turn ∙ e)) ∙ here))), λ away. refl)))
