-- What was drawn is done.
use Rattle.std.proofs.Common.{◌≡◌, ◌≢◌, ◌∙◌, ℕ, suc, ◌+◌, ◌<◌, ◌≤◌, List, [], ◌∷◌, ◌++◌, All, length, false, refl, sym, ap, subst, ⊎_elim, Some, arith}
use Rattle.std.specs.List.{Contains}
use Rattle.std.proofs.lemmas.Bool.{cases_eq, cases_lt}
use Rattle.std.proofs.lemmas.List.{map-append}
use Rattle.std.proofs.lemmas.List.Elements.{All-push, All-pop, All-append, Contains-append_left, Contains-append_right}
use Rattle.side_by_side.specs.Draws.{times, once_below}
use Rattle.side_by_side.specs.Plays.{both}
use Rattle.side_by_side.proofs.Sums.{times-append, is_same, is_other}
use Rattle.side_by_side.specs.declared.draw_table.Draws.{Draws}
use Rattle.side_by_side.specs.declared.posts.Done.{Done}
use Rattle.side_by_side.specs.declared.posts.Post.{Post}
use Rattle.side_by_side.specs.Inner.Posts.{IsDone, HasLeft, HasJoined, places_of}

-- an element more
pub all_more : {X : Type 0} (P : X → Type 0) (xs new : List X) (x : X) → new ≡ xs ++ x ∷ [] → All P xs → P x → All P new
all_more P xs new x e old one = subst (λ l. All P l) (sym e) (All-push P xs x old one)

pub places_more : {O : Type 0} (ds new : List (Done O)) (d : Done O) → new ≡ ds ++ d ∷ [] → places_of new ≡ places_of ds ++ d.place ∷ []
places_more ds new d e = ap (λ l. places_of l) e ∙ map-append (λ d. d.place) ds (d ∷ [])

-- what stands in a list so many times is in it
times_contains : (x : ℕ) (ys : List ℕ) → 0 < times x ys → Contains ys x
times_contains x [] lt = absurd (omega (arith, lt))
times_contains x (y ∷ ys) lt =
    ⊎_elim
    (λ (e : x ≡ y). (0, omega arith, sym e))
    (λ (n : x ≢ y). let z = is_other x y n in let h = times_contains x ys (omega arith) in let l = h.1 in (suc h.0, omega arith, h.2))
    (cases_eq x y)

-- a number below the last one that was drawn is a place before it
through_within : (count : ℕ) (ps : List ℕ) (last : ℕ) → count ≤ last → (x : ℕ) → x < count → 0 < times x (ps ++ last ∷ []) → Contains ps x
through_within count ps last le x lt some =
    let a = times-append x ps (last ∷ []) in let z = is_other x last (λ (e : x ≡ last). omega (arith, e)) in times_contains x ps (omega arith)

drew_itself : (ps : List ℕ) (last : ℕ) → 0 < times last (ps ++ last ∷ [])
drew_itself ps last = let a = times-append last ps (last ∷ []) in let z = is_same last last refl in omega arith

module _ {T O : Type 0} (gives : ℕ → T → O → Type 0) (things : List T) (draws : Draws) where
  pub left_popped : (posts rest : List (Post O)) (p : Post O) → posts ≡ rest ++ p ∷ [] → All (HasLeft gives things draws) posts → All (HasLeft gives things draws) rest × HasLeft gives things draws p
  left_popped posts rest p split h = let q = All-pop (HasLeft gives things draws) posts rest (Some p) split h in (q.0, q.1)

  pub one_joined : (p : Post O) → HasLeft gives things draws p → p.refused ≡ false → HasJoined gives things draws p
  one_joined p h calm =
      let t = h.2 calm in let ps = places_of p.done.items in let u = t.2 in record {
        id = h.0;
        empty = t.0;
        some = (let e = t.1 in omega arith);
        done = h.1;
        within = λ x lt some. through_within (length things) ps u.0 u.1 x lt (subst (λ l. 0 < times x l) u.2 some);
        last = u.0;
        past = u.1;
        drew_last = subst (λ l. 0 < times u.0 l) (sym u.2) (drew_itself ps u.0);
      }

  -- two that are joined
  pub both_joined : (p q r : Post O) → HasJoined gives things draws p → HasJoined gives things draws q → r.seat.table_id ≡ p.seat.table_id → r.seat.me ≡ (both p.seat.me.0 q.seat.me.0, p.seat.me.1) → r.done.items ≡ p.done.items ++ q.done.items → HasJoined gives things draws r
  both_joined p q r h k id me items =
      let ps = places_of p.done.items in let qs = places_of q.done.items in let pd = p.seat.me.0.drawn in let qd = q.seat.me.0.drawn in
      let places : places_of r.done.items ≡ ps ++ qs = ap (λ l. places_of l) items ∙ map-append (λ d. d.place) p.done.items q.done.items in
      let drawn : r.seat.me.0.drawn ≡ pd ++ qd = ap (λ m. m.0.drawn) me in
      let hands : r.seat.me.0.hands ≡ p.seat.me.0.hands + q.seat.me.0.hands = ap (λ m. m.0.hands) me in record {
        id = id ∙ h.id;
        empty = ap (λ m. m.1) me ∙ h.empty;
        some = (let s = h.some in omega arith);
        done = subst (λ l. All (IsDone gives things) l) (sym items) (All-append (IsDone gives things) p.done.items q.done.items h.done k.done);
        within = λ x lt some.
            let a = times-append x pd qd in let e : times x r.seat.me.0.drawn ≡ times x (pd ++ qd) = ap (λ l. times x l) drawn in
            subst (λ l. Contains l x) (sym places)
            (⊎_elim
            (λ (y : 0 < times x pd). Contains-append_left ps qs x (h.within x lt y))
            (λ (y : times x pd ≤ 0). Contains-append_right ps qs x (k.within x lt (omega arith)))
            (cases_lt 0 (times x pd)));
        last = h.last;
        past = h.past;
        drew_last = (let a = times-append h.last pd qd in let e : times h.last r.seat.me.0.drawn ≡ times h.last (pd ++ qd) = ap (λ l. times h.last l) drawn in let s = h.drew_last in omega arith);
      }

  -- every place is done
  pub all_done : (p : Post O) → HasJoined gives things draws p → (n : ℕ) × ((x : ℕ) → times x p.seat.me.0.drawn ≡ once_below x n) → (x : ℕ) → x < length things → Contains (places_of p.done.items) x
  all_done p h c x lt =
      let n = c.0 in let past = h.past in
      h.within x lt
      (⊎_elim
      (λ (y : h.last < n). let e = c.1 x in let o = below x n (omega arith) in omega arith)
      (λ (y : n ≤ h.last). let e = c.1 h.last in let o = past_end h.last n y in let s = h.drew_last in absurd (omega arith))
      (cases_lt h.last n))
    where
      below : (x n : ℕ) → x < n → once_below x n ≡ 1
      below x n lt = grind (arith, lt)

      past_end : (x n : ℕ) → n ≤ x → once_below x n ≡ 0
      past_end x n le = grind (arith, le)
