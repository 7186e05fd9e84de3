-- What the posts of a pool say of its passes, and how the posts of the seats that are made stand.
use Rattle.std.proofs.Common.{◌≡◌, ◌≢◌, ◌∙◌, ℕ, zero, suc, ◌+◌, ◌<◌, ◌≤◌, ◌==◌, if◌then◌else◌, List, [], ◌∷◌, length, map, refl, sym, ap, subst, eq-eqb, ne_eqb, arith}
use Rattle.std.proofs.lemmas.List.{length-map}
use mathlib.Core.Option.{some, some-injective, some-ne-none}
use mathlib.Core.Logic.{dite}
use native.Mathlib.Decide.{ℕ_discrete}
use lib.ListN.{get_elem?}
use Rattle.atomic_table.proofs.Lists.{at_map}
use Rattle.std.specs.declared.alloc.Global.{Global}
use Rattle.std.specs.declared.vec.Vec.{Vec}
use Rattle.crossbeam_deque.specs.Handles.{worker_view, worker_deque}
use Rattle.chart_workers.specs.declared.hand.Hand.{Hand}
use Rattle.chart_workers.specs.declared.seat.Door.{Door}
use Rattle.chart_workers.specs.declared.seat.Pass.{Pass}
use Rattle.chart_workers.specs.declared.seat.PoolSeat.{PoolSeat}
use Rattle.chart_workers.specs.Balance.{weigh}
use Rattle.chart_workers.specs.Seats.{door_hand}
use Rattle.chart_workers.specs.Pools.{Way, Post, door_way, seat_post, pass_post, others, part_at, parts_at, ArePool, IsFresh}
use Rattle.chart_workers.specs.Whole.{all_of, at_pass, pass_place, AreLinked}
use Rattle.chart_workers.specs.Making.{Deque, seat_own, seat_doors, IsRow, IsNew, IsCut}
use Rattle.chart_workers.proofs.Steps.{weigh-append}
use Rattle.chart_workers.proofs.Makes.{others_past, others_own}

module _ {A B C : Type 0} where
  map_map : (g : B → C) (f : A → B) (l : List A) → map g (map f l) ≡ map (λ x. g (f x)) l
  map_map g f [] = refl
  map_map g f (x ∷ xs) = ap (λ l. g (f x) ∷ l) (map_map g f xs)

module _ {A B : Type 0} where
  weigh_map : (h : B → ℕ) (f : A → B) (l : List A) → weigh h (map f l) ≡ weigh (λ x. h (f x)) l
  weigh_map h f [] = refl
  weigh_map h f (x ∷ xs) = let r = weigh_map h f xs in omega arith

  -- an element of the images is one of an element
  map_there : (f : A → B) (l : List A) (i : ℕ) (b : B) → get_elem? (map f l) i ≡ some b → (a : A) × (get_elem? l i ≡ some a) × (f a ≡ b)
  map_there f [] i b e = absurd (some-ne-none b (sym e))
  map_there f (x ∷ xs) zero b e = (x, refl, some-injective (f x) b e)
  map_there f (x ∷ xs) (suc i) b e = map_there f xs i b e

module _ {A : Type 0} where
  weigh_same : (h k : A → ℕ) (l : List A) → ((x : A) → h x ≡ k x) → weigh h l ≡ weigh k l
  weigh_same h k [] same = refl
  weigh_same h k (x ∷ xs) same = let a = same x in let r = weigh_same h k xs same in omega arith

pub linked_of : (passes : List Pass) → ArePool (map pass_post passes) → AreLinked (map pass_place passes) passes
linked_of passes pool j p here =
    let at = at_map pass_post passes j p here in (
      pool.numbers j (pass_post p) at,
      λ i d there. ap (λ (l : List _). get_elem? l d.deque) (sym (map_map (λ (q : Post). q.own.deque) pass_post passes)) ∙ pool.leads j (pass_post p) at i (door_way d) (at_map door_way p.doors.items i d there),
    )

pub parts_of : (passes : List Pass) → ArePool (map pass_post passes) → (t : ℕ) → t < length passes → all_of (λ (v : Hand). v.parts) t passes ≡ 64
parts_of passes pool t lt =
    let n = length-map passes pass_post in
    weigh_same (at_pass (λ (v : Hand). v.parts) t) (λ (p : Pass). parts_at t (pass_post p)) passes
    (λ p. ap (λ (n : ℕ). (if t == p.number then (worker_view p.own).parts else 0) + n) (sym (weigh_map (part_at t) door_way p.doors.items)))
    ∙ sym (weigh_map (parts_at t) pass_post passes) ∙ pool.parts t (omega arith)

part_here : (t : ℕ) (w : Way) → t ≡ w.number → part_at t w ≡ w.parts
part_here t w is = λ i. if eq-eqb t w.number is i then w.parts else 0

part_else : (t : ℕ) (w : Way) → t ≢ w.number → part_at t w ≡ 0
part_else t w ne = λ i. if ne_eqb t w.number ne i then w.parts else 0

abbrev is_at : ℕ → ℕ → ℕ
is_at t k = if t == k then 1 else 0

at_here : (t k : ℕ) → t ≡ k → is_at t k ≡ 1
at_here t k is = λ i. if eq-eqb t k is i then 1 else 0

at_else : (t k : ℕ) → t ≢ k → is_at t k ≡ 0
at_else t k ne = λ i. if ne_eqb t k ne i then 1 else 0

-- how often a number stands among the others
record Stands (t j n count : ℕ) : Type 0 where
  own : t ≡ j → count ≡ 0
  past : n ≤ t → count ≡ 0
  once : t ≢ j → t < n → count ≡ 1

stands : (t j n : ℕ) → Stands t j n (weigh (is_at t) (others j n))
stands t j zero = record { own = λ e. refl; past = λ l. refl; once = λ ne l. absurd (omega arith) }
stands t j (suc n) = let r = stands t j n in dite (ℕ_discrete n j)
    (λ is. let e = ap (λ (l : List ℕ). weigh (is_at t) l) (others_own j n is) in record {
      own = λ o. e ∙ r.own o;
      past = λ l. e ∙ r.past (omega arith);
      once = λ ne l. e ∙ r.once ne (let z : t ≢ n = (λ q. ne (q ∙ is)) in omega arith);
    })
    (λ ne. let e = ap (λ (l : List ℕ). weigh (is_at t) l) (others_past j n ne) in let w = weigh-append (is_at t) (others j n) (n ∷ []) in record {
      own = λ o. let a = r.own o in let b = at_else t n (λ q. ne (sym q ∙ o)) in omega arith;
      past = λ l. let a = r.past (omega arith) in let b = at_else t n (λ q. absurd (omega arith)) in omega arith;
      once = λ o l. dite (ℕ_discrete t n)
          (λ q. let a = r.past (omega arith) in let b = at_here t n q in omega arith)
          (λ q. let a = r.once o (omega arith) in let b = at_else t n q in omega arith);
    })

-- of the ways to others, those to one deque have one part
ways_count : (t : ℕ) (ways : List Way) → ((i : ℕ) (w : Way) → get_elem? ways i ≡ some w → w.parts ≡ 1) → weigh (part_at t) ways ≡ weigh (is_at t) (map (λ (w : Way). w.number) ways)
ways_count t [] one = refl
ways_count t (w ∷ ws) one =
    let r = ways_count t ws (λ i x e. one (suc i) x e) in
    let a : part_at t w ≡ is_at t w.number = ap (λ (n : ℕ). if t == w.number then n else 0) (one 0 w refl) in omega arith

-- what is known of the parts of the post of this number, in a pool of n
record IsPost (t n number : ℕ) (p : Post) : Type 0 where
  is : p.own.number ≡ number
  own : p.own.parts + n ≡ 65
  mine : t ≡ number → weigh (part_at t) p.doors ≡ 0
  others' : t ≢ number → weigh (part_at t) p.doors ≡ 1

-- the parts of a deque over all posts from a number on
record AreParts (t n from : ℕ) (posts : List Post) : Type 0 where
  before : t < from → weigh (parts_at t) posts ≡ length posts
  among : from ≤ t → t < from + length posts → weigh (parts_at t) posts + n ≡ 64 + length posts

post_mine : (t n number : ℕ) (p : Post) → IsPost t n number p → t ≡ number → parts_at t p + n ≡ 65
post_mine t n number p known is = let a = part_here t p.own (is ∙ sym known.is) in let b = known.mine is in let c = known.own in omega arith

post_else : (t n number : ℕ) (p : Post) → IsPost t n number p → t ≢ number → parts_at t p ≡ 1
post_else t n number p known ne = let a = part_else t p.own (λ q. ne (q ∙ known.is)) in let b = known.others' ne in omega arith

parts_on : (t n from : ℕ) (posts : List Post) → ((j : ℕ) (p : Post) → get_elem? posts j ≡ some p → IsPost t n (from + j) p) → AreParts t n from posts
parts_on t n from [] each = record { before = λ l. refl; among = λ l m. absurd (omega arith) }
parts_on t n from (p ∷ ps) each =
    let r = parts_on t n (from + 1) ps (λ j q e. subst (λ (k : ℕ). IsPost t n k q) (let z : from + suc j ≡ (from + 1) + j = omega arith in z) (each (suc j) q e)) in
    let k = subst (λ (k : ℕ). IsPost t n k p) (let z : from + 0 ≡ from = omega arith in z) (each 0 p refl) in record {
      before = λ l. let a = post_else t n from p k (λ q. absurd (omega arith)) in let b = r.before (omega arith) in omega arith;
      among = λ l m. dite (ℕ_discrete t from)
          (λ is. let a = post_mine t n from p k is in let b = r.before (omega arith) in omega arith)
          (λ ne. let a = post_else t n from p k ne in let b = r.among (omega arith) (omega arith) in omega arith);
    }

-- the seats that were made of these deques and rows of doors
module _ (n : ℕ) (deques first : List Deque) (rows : List (Vec Door Global)) (seats : List PoolSeat) (long : length deques ≡ n)
    (own : map seat_own seats ≡ deques) (doors : map seat_doors seats ≡ rows)
    (numbers : (j : ℕ) (s : PoolSeat) → get_elem? seats j ≡ some s → s.number ≡ j)
    (cut : (t : ℕ) (d : Deque) → get_elem? deques t ≡ some d → IsCut n t d)
    (places : map worker_deque deques ≡ map worker_deque first)
    (are_rows : (j : ℕ) (r : Vec Door Global) → get_elem? rows j ≡ some r → IsRow (map worker_deque first) j r.items)
    (new : (j : ℕ) (r : Vec Door Global) → get_elem? rows j ≡ some r → (i : ℕ) (d : Door) → get_elem? r.items i ≡ some d → IsNew d) where
  own_there : (j : ℕ) (s : PoolSeat) → get_elem? seats j ≡ some s → get_elem? deques j ≡ some s.own
  own_there j s e = ap (λ (l : List Deque). get_elem? l j) (sym own) ∙ at_map seat_own seats j s e

  doors_there : (j : ℕ) (s : PoolSeat) → get_elem? seats j ≡ some s → get_elem? rows j ≡ some s.doors
  doors_there j s e = ap (λ (l : List (Vec Door Global)). get_elem? l j) (sym doors) ∙ at_map seat_doors seats j s e

  count : length seats ≡ n
  count = let a = ap (λ (l : List Deque). length l) own in let b = length-map seats seat_own in let c = long in omega arith

  posts_count : length (map seat_post seats) ≡ n
  posts_count = let a = length-map seats seat_post in let b = count in omega arith

  first_count : length (map worker_deque first) ≡ n
  first_count = let a = ap (λ (l : List _). length l) places in let b = length-map deques worker_deque in let c = long in omega arith

  all_places : map (λ (q : Post). q.own.deque) (map seat_post seats) ≡ map worker_deque first
  all_places = map_map (λ (q : Post). q.own.deque) seat_post seats ∙ sym (map_map worker_deque seat_own seats) ∙ ap (λ (l : List Deque). map worker_deque l) own ∙ places

  way_numbers : (j : ℕ) (s : PoolSeat) → get_elem? seats j ≡ some s → map (λ (w : Way). w.number) (map door_way s.doors.items) ≡ others j n
  way_numbers j s e = map_map (λ (w : Way). w.number) door_way s.doors.items ∙ (are_rows j s.doors (doors_there j s e)).numbers ∙ ap (λ (k : ℕ). others j k) first_count

  way_parts : (s : PoolSeat) (i : ℕ) (w : Way) → get_elem? (map door_way s.doors.items) i ≡ some w → w.parts ≡ 1
  way_parts s i w e = let m = map_there door_way s.doors.items i w e in ap (λ (x : Way). x.parts) (sym m.2) ∙ m.0.one

  is_post : (t j : ℕ) (s : PoolSeat) → t < n → get_elem? seats j ≡ some s → IsPost t n j (seat_post s)
  is_post t j s lt e =
      let c = stands t j n in
      let w = ways_count t (map door_way s.doors.items) (way_parts s) ∙ ap (λ (l : List ℕ). weigh (is_at t) l) (way_numbers j s e) in record {
        is = numbers j s e;
        own = (cut j s.own (own_there j s e)).parts;
        mine = λ is. w ∙ c.own is;
        others' = λ ne. w ∙ c.once ne lt;
      }

  leads : (j : ℕ) (s : PoolSeat) → get_elem? seats j ≡ some s → (i : ℕ) (w : Way) → get_elem? (map door_way s.doors.items) i ≡ some w → get_elem? (map (λ (q : Post). q.own.deque) (map seat_post seats)) w.number ≡ some w.deque
  leads j s e i w there =
      let m = map_there door_way s.doors.items i w there in
      subst (λ (x : Way). get_elem? (map (λ (q : Post). q.own.deque) (map seat_post seats)) x.number ≡ some x.deque) m.2
      (ap (λ (l : List _). get_elem? l m.0.deque) all_places ∙ (are_rows j s.doors (doors_there j s e)).placed i m.0 m.1)

  pub made_pool : ArePool (map seat_post seats)
  made_pool = record {
    numbers = λ j p e. let m = map_there seat_post seats j p e in ap (λ (q : Post). q.own.number) (sym m.2) ∙ numbers j m.0 m.1;
    doors = λ j p e. let m = map_there seat_post seats j p e in ap (λ (q : Post). map (λ (w : Way). w.number) q.doors) (sym m.2) ∙ way_numbers j m.0 m.1 ∙ ap (λ (k : ℕ). others j k) (sym posts_count);
    leads = λ j p e i w there. let m = map_there seat_post seats j p e in leads j m.0 m.1 i w (ap (λ (q : Post). get_elem? q.doors i) m.2 ∙ there);
    parts = λ t lt.
        let m = posts_count in let lt' : t < n = omega arith in
        let r = parts_on t n 0 (map seat_post seats) (λ j p e. let m = map_there seat_post seats j p e in
        subst (λ (q : Post). IsPost t n (0 + j) q) m.2 (subst (λ (k : ℕ). IsPost t n k (seat_post m.0)) (let z : j ≡ 0 + j = omega arith in z) (is_post t j m.0 lt' m.1))) in
        let a = r.among (omega arith) (omega arith) in omega arith;
  }

  fresh_at : (s : PoolSeat) → (worker_view s.own).put ≡ [] → (worker_view s.own).taken ≡ [] → ((i : ℕ) (d : Door) → get_elem? s.doors.items i ≡ some d → IsNew d) → IsFresh s
  fresh_at s put taken each zero v e = let is = some-injective (worker_view s.own) v e in (ap (λ (u : Hand). u.put) (sym is) ∙ put, ap (λ (u : Hand). u.taken) (sym is) ∙ taken)
  fresh_at s put taken each (suc k) v e = let m = map_there door_hand s.doors.items k v e in let is = sym m.2 ∙ each k m.0 m.1 in (ap (λ (u : Hand). u.put) is, ap (λ (u : Hand). u.taken) is)

  pub made_fresh : (j : ℕ) (s : PoolSeat) → get_elem? seats j ≡ some s → IsFresh s
  made_fresh j s e = let c = cut j s.own (own_there j s e) in fresh_at s c.put c.taken (new j s.doors (doors_there j s e))
