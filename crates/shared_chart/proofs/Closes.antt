-- What is known once the table is closed.
use Rattle.std.proofs.Common.{◌≡◌, ◌∙◌, ℕ, ◌+◌, ◌<◌, true, List, length, Option, Some, ap, sym, subst, arith}
use mathlib.Core.Option.{some}
use lib.ListN.{get_elem?}
use Rattle.atomic_table.specs.Table.{Final, Seen}
use Rattle.shared_chart.specs.declared.held.LockSeat.{LockSeat}
use Rattle.std.proofs.lemmas.Option.{same_Some}
use Rattle.shared_chart.proofs.Sums.{all_added, summed}
use Rattle.shared_chart.specs.Turns.{total, Kept, Covers, calls_by}
use Rattle.shared_chart.specs.Plays.{Sat}
use Rattle.shared_chart.specs.TurnSeats.{own_calls, IsIdle, Has}
use Rattle.shared_chart.specs.Held.{state_of}
use Rattle.shared_chart.proofs.Knowing.{knows_of}
use Rattle.shared_chart.proofs.Parts.{ends}
use Rattle.shared_chart.proofs.Gathers.{some_there, IsSetIn}

module _ {B M E : Type 0} (history : M → List E) (caller : E → ℕ) (stands : B → M → Type 0) (later : B → M → M → Type 0) (itself : (b : B) (x : M) → stands b x → later b x x) (base : B) where
  -- the history has the calls of each seat, and no others; the object comes from the beginning and from all that the seats have seen
  pub record Whole (chairs : List (LockSeat B M E)) (o : M) : Type 0 where
    pub calls : (i : ℕ) (c : LockSeat B M E) → get_elem? chairs i ≡ some c → calls_by caller i (history o) ≡ own_calls c.chair.me.0.claims
    pub callers : (m : ℕ) (e : E) → get_elem? (history o) m ≡ some e → caller e < length chairs
    pub long : length (history o) ≡ total (λ (c : LockSeat B M E). length (own_calls c.chair.me.0.claims)) chairs
    pub standing : stands base o
    pub seen : (i : ℕ) (c : LockSeat B M E) → get_elem? chairs i ≡ some c → later base (state_of c) o
    pub mark : (i : ℕ) (c : LockSeat B M E) → get_elem? chairs i ≡ some c → c.chair.me.0.saw ≡ true → IsSetIn chairs

  pub finished : (key id : ℕ) (b : B) (me : Sat B M E) (chairs : List (LockSeat B M E)) (words : List ℕ) (xs : List (Option M)) (x : Option M) → b ≡ base → length chairs ≡ key → IsIdle me
      → ((i : ℕ) (c : LockSeat B M E) → get_elem? chairs i ≡ some c → Has me i c.chair.me) → (0 < me.0.set → IsSetIn chairs) → Final (Seen (Kept history caller stands later key b) id me.0) words xs → get_elem? xs 0 ≡ some x
      → (o : M) × (x ≡ Some o) × Whole chairs o
  finished key id b me chairs words xs x begun count rests all set last here =
      let last' = subst (λ (z : B). Final (Seen (Kept history caller stands later key z) id me.0) words xs) begun last in
      let covers : Covers history caller stands later key me.0 = (λ j lt. let t = some_there chairs j (omega arith) in let k = (all j t.0 t.1).claims in (k.0, own_calls t.0.chair.me.0.claims, k.1)) in
      let f = ends history caller stands later itself base key id me.0 words xs rests.turn covers last' x here in let e = f.1 in (
        f.0,
        e.is,
        record {
          calls = λ i c p. let k = (all i c p).claims in e.calls k.0 (i, own_calls c.chair.me.0.claims) k.1;
          callers = λ m y p. subst (λ (n : ℕ). caller y < n) (sym count) (e.callers m y p);
          long = sym (summed caller (λ c. own_calls c.chair.me.0.claims) chairs 0 (history f.0) (λ i c p. let k = (all i c p).claims in ap (λ (j : ℕ). calls_by caller j (history f.0)) (let z : 0 + i ≡ i = omega arith in z) ∙ e.calls k.0 (i, own_calls c.chair.me.0.claims) k.1) ∙ all_added caller (history f.0) (length chairs) (λ m y p. subst (λ (n : ℕ). caller y < n) (sym count) (e.callers m y p)));
          standing = e.standing;
          seen = λ i c p. let h = (all i c p).seen 0 (state_of c) (ap (λ (l : List M). get_elem? l 0) (knows_of c).seen) in e.seen h.0 (state_of c) h.1;
          mark = λ i c p saw. let one = e.saw ((all i c p).saw saw) in set (omega arith);
        },
      )

  pub is_whole : (chairs : List (LockSeat B M E)) (x : Option M) (o o' : M) → x ≡ Some o → x ≡ Some o' → Whole chairs o → Whole chairs o'
  is_whole chairs x o o' p q w = subst (λ (z : M). Whole chairs z) (same_Some o o' (sym p ∙ q)) w
