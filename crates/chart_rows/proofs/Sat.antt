-- A seat stays where it sits.
use Rattle.std.proofs.Common.{◌≡◌, ◌∙◌, ℕ, zero, suc, List, [], ◌∷◌, ◌++◌, length, length-append, refl, sym, ap, subst, arith}
use mathlib.Core.Option.{some, some-injective, some-ne-none}
use lib.ListN.{get_elem?}
use Rattle.shared_chart.specs.declared.shared.SharedChart.{SharedChart}
use Rattle.shared_chart.specs.Seats.{ChartSeat, SameSeat, IsSeat, IsFirst, chart_shapes}
use Rattle.chart_rows.specs.Sitting.{Sits}

-- the last two of a list of two, which are taken one after the other, and the list is empty then
pub popped : {A : Type 0} (l l1 l2 : List A) (a b : A) → l ≡ l1 ++ b ∷ [] → l1 ≡ l2 ++ a ∷ [] → length l ≡ 2 → (l ≡ a ∷ b ∷ []) × (l2 ≡ [])
popped l l1 [] a b e f n = (e ∙ ap (λ (k : List _). k ++ b ∷ []) f, refl)
popped l l1 (x ∷ xs) a b e f n =
    absurd (let p = ap (λ (k : List _). length k) e in let q = ap (λ (k : List _). length k) f in let r = length-append l1 (b ∷ []) in let s = length-append (x ∷ xs) (a ∷ []) in omega arith)

module _ {X T C W B : Type 0} where
  pub same_itself : (a : ChartSeat X T C W B) → SameSeat a a
  same_itself a = record { id = refl; number = refl; shapes = refl }

  pub same_then : (a b c : ChartSeat X T C W B) → SameSeat a b → SameSeat b c → SameSeat a c
  same_then a b c p q = record { id = q.id ∙ p.id; number = q.number ∙ p.number; shapes = q.shapes ∙ p.shapes }

  pub still_sits : (chart : SharedChart X T C W B) (shapes : X) (n : ℕ) (a b : ChartSeat X T C W B) → SameSeat a b → Sits chart shapes n a → Sits chart shapes n b
  still_sits chart shapes n a b s h = (s.id ∙ h.0, s.number ∙ h.1, h.2 ∙ sym s.shapes)

  pub sits_first : (chart : SharedChart X T C W B) (shapes : X) (i : ℕ) (opening : _) (s : ChartSeat X T C W B) → IsFirst chart i opening s → chart_shapes chart ≡ shapes → Sits chart shapes i s
  sits_first chart shapes i opening s f same = (f.id, f.number, sym (f.shapes ∙ same))

  pub two_seats : (chart : SharedChart X T C W B) (shapes : X) (a b : ChartSeat X T C W B) (l : List (ChartSeat X T C W B)) → l ≡ a ∷ b ∷ [] → Sits chart shapes 0 a → Sits chart shapes 1 b
      → (i : ℕ) (s : ChartSeat X T C W B) → get_elem? l i ≡ some s → IsSeat chart i s
  two_seats chart shapes a b l is p q i s at = two i s (ap (λ (k : List (ChartSeat X T C W B)). get_elem? k i) (sym is) ∙ at)
    where
      two : (i : ℕ) (s : ChartSeat X T C W B) → get_elem? (a ∷ b ∷ []) i ≡ some s → IsSeat chart i s
      two zero s e = subst (λ (x : ChartSeat X T C W B). IsSeat chart 0 x) (some-injective a s e) (p.0, p.1)
      two (suc zero) s e = subst (λ (x : ChartSeat X T C W B). IsSeat chart 1 x) (some-injective b s e) (q.0, q.1)
      two (suc (suc i)) s e = absurd (some-ne-none s (sym e))
