-- The classes of the live hosts that are counted.
use Rattle.std.specs.Prelude.{◌≡◌, ℕ, ◌+◌, ◌<◌, ◌≤◌, ◌&&◌, nat_le, is_some, Bool, true, false, if◌then◌else◌, Option, Some, None, List, [], ◌∷◌, length, refl}
use Rattle.std.proofs.Common.{zero, suc, ◌∙◌, arith, leb-true, le-leb}
use Rattle.std.proofs.lemmas.Bool.{lt-leb}
use Rattle.chart_model.specs.Calculus.{Calculus}
use Rattle.chart_model.specs.At.{At, here, there}
use Rattle.chart_model.specs.Chart.{Row}
use Rattle.chart_model.specs.Classes.{Class}
use Rattle.chart_model.specs.Below.{is_counted, host_count}
use Rattle.chart_model.proofs.Gather.{Once}
use Rattle.chart_model.proofs.Fewer.{once_cons}

both : (a b : Bool) → a && b ≡ true → (a ≡ true) × (b ≡ true)
both true b h = (refl, h)
both false b h = absurd (cc)

and_false : (a : Bool) → a && false ≡ false
and_false true = refl
and_false false = refl

module _ {M C : Type 0} where
  abbrev pub class_of : Row M C → M → Class M C
  class_of row m = record { cover = row.cover; level = row.level; shape = m }

  -- row i is a live host of this class
  pub record LiveRow (rows : List (Row M C)) (intos : List (Option ℕ)) (i : ℕ) (c : Class M C) : Type 0 where
    pub row : Row M C
    pub at : At rows i row
    pub free : At intos i None
    pub shape : row.shape ≡ Some c.shape
    pub cover : row.cover ≡ c.cover
    pub level : row.level ≡ c.level

  live_there : (row : Row M C) (into : Option ℕ) {rows : List (Row M C)} {intos : List (Option ℕ)} {i : ℕ} {c : Class M C} → LiveRow rows intos i c → LiveRow (row ∷ rows) (into ∷ intos) (suc i) c
  live_there row into l = record { row = l.row; at = there l.at; free = there l.free; shape = l.shape; cover = l.cover; level = l.level }

  -- no class has two live rows
  abbrev pub OneRowEach : List (Row M C) → List (Option ℕ) → Type 0
  OneRowEach rows intos = (c : Class M C) (i j : ℕ) → LiveRow rows intos i c → LiveRow rows intos j c → i ≡ j

  one_tail : (row : Row M C) (into : Option ℕ) (rows : List (Row M C)) (intos : List (Option ℕ)) → OneRowEach (row ∷ rows) (into ∷ intos) → OneRowEach rows intos
  one_tail row into rows intos one c i j a b = let e : suc i ≡ suc j = one c (suc i) (suc j) (live_there row into a) (live_there row into b) in omega (arith, e)

module _ {M C : Type 0} (k : Calculus M C) (least most n : ℕ) where
  -- a level and a size that are counted
  pub record InRange (c : Class M C) : Type 0 where
    pub low : least ≤ c.level
    pub high : c.level ≤ most
    pub small : k.size c.cover < n

  abbrev in_range : Row M C → Bool
  in_range row = (nat_le least row.level && nat_le row.level most) && nat_le (k.size row.cover + 1) n

  range_is : (row : Row M C) (m : M) → in_range row ≡ true → InRange (class_of row m)
  range_is row m h =
      let p = both (nat_le least row.level && nat_le row.level most) (nat_le (k.size row.cover + 1) n) h in
      let q = both (nat_le least row.level) (nat_le row.level most) p.0 in
      record { low = leb-true least row.level q.0; high = leb-true row.level most q.1; small = let z : k.size row.cover + 1 ≤ n = leb-true (k.size row.cover + 1) n p.1 in omega arith }

  range_yes : (row : Row M C) → least ≤ row.level → row.level ≤ most → k.size row.cover < n → in_range row ≡ true
  range_yes row low high small = rw (le-leb least row.level low, le-leb row.level most high, le-leb (k.size row.cover + 1) n (omega arith)) refl

  abbrev put : Row M C → Option M → Bool → List (Class M C) → List (Class M C)
  put row None counted rest = rest
  put row (Some m) true rest = class_of row m ∷ rest
  put row (Some m) false rest = rest

  abbrev pub host_classes : List (Row M C) → List (Option ℕ) → List (Class M C)
  host_classes [] intos = []
  host_classes (row ∷ rows) [] = []
  host_classes (row ∷ rows) (Some r ∷ intos) = host_classes rows intos
  host_classes (row ∷ rows) (None ∷ intos) = put row row.shape (in_range row) (host_classes rows intos)

  counted_none : (row : Row M C) → row.shape ≡ None → is_counted k least most n row ≡ false
  counted_none row e = rw e refl

  counted_some : (row : Row M C) (m : M) → row.shape ≡ Some m → is_counted k least most n row ≡ in_range row
  counted_some row m e = rw e refl

  one_more : (row : Row M C) (o : Option M) (b : Bool) (rest : List (Class M C)) (h : ℕ) → row.shape ≡ o → in_range row ≡ b → length rest ≡ h → length (put row o b rest) ≡ (if is_counted k least most n row then h + 1 else h)
  one_more row None b rest h e f l = rw (counted_none row e) l
  one_more row (Some m) true rest h e f l = rw (counted_some row m e ∙ f) (omega (arith, l))
  one_more row (Some m) false rest h e f l = rw (counted_some row m e ∙ f) l

  pub length-classes : (rows : List (Row M C)) (intos : List (Option ℕ)) → length (host_classes rows intos) ≡ host_count k least most n rows intos
  length-classes [] intos = refl
  length-classes (row ∷ rows) [] = refl
  length-classes (row ∷ rows) (Some r ∷ intos) = length-classes rows intos
  length-classes (row ∷ rows) (None ∷ intos) = one_more row row.shape (in_range row) (host_classes rows intos) (host_count k least most n rows intos) refl refl (length-classes rows intos)

  -- a class of the list has a live row, and is in range
  pub record Listed (rows : List (Row M C)) (intos : List (Option ℕ)) (c : Class M C) : Type 0 where
    pub number : ℕ
    pub live : LiveRow rows intos number c
    pub range : InRange c

  listed_there : (row : Row M C) (into : Option ℕ) {rows : List (Row M C)} {intos : List (Option ℕ)} {c : Class M C} → Listed rows intos c → Listed (row ∷ rows) (into ∷ intos) c
  listed_there row into l = record { number = suc l.number; live = live_there row into l.live; range = l.range }

  listed_put : (row : Row M C) (rows : List (Row M C)) (intos : List (Option ℕ)) (o : Option M) (b : Bool) (j : ℕ) (c : Class M C) → row.shape ≡ o → in_range row ≡ b → ((i : ℕ) → At (host_classes rows intos) i c → Listed rows intos c) → At (put row o b (host_classes rows intos)) j c → Listed (row ∷ rows) (None ∷ intos) c
  listed_put row rows intos None b j c e f more a = listed_there row None (more j a)
  listed_put row rows intos (Some m) false j c e f more a = listed_there row None (more j a)
  listed_put row rows intos (Some m) true zero c e f more (here) = record { number = 0; live = record { row = row; at = here; free = here; shape = e; cover = refl; level = refl }; range = range_is row m f }
  listed_put row rows intos (Some m) true (suc j) c e f more (there a) = listed_there row None (more j a)

  pub listed : (rows : List (Row M C)) (intos : List (Option ℕ)) (j : ℕ) (c : Class M C) → At (host_classes rows intos) j c → Listed rows intos c
  listed [] intos j c a = elim a [ ]
  listed (row ∷ rows) [] j c a = elim a [ ]
  listed (row ∷ rows) (Some r ∷ intos) j c a = listed_there row (Some r) (listed rows intos j c a)
  listed (row ∷ rows) (None ∷ intos) j c a = listed_put row rows intos row.shape (in_range row) j c refl refl (λ i b. listed rows intos i c b) a

  at_put : (row : Row M C) (rest : List (Class M C)) (o : Option M) (b : Bool) (j : ℕ) (c : Class M C) → At rest j c → (i : ℕ) × At (put row o b rest) i c
  at_put row rest None b j c a = (j, a)
  at_put row rest (Some m) true j c a = (suc j, there a)
  at_put row rest (Some m) false j c a = (j, a)

  -- a live row in range gives its class
  pub has_class : (rows : List (Row M C)) (intos : List (Option ℕ)) (i : ℕ) (row : Row M C) (m : M) → At rows i row → At intos i None → row.shape ≡ Some m → least ≤ row.level → row.level ≤ most → k.size row.cover < n → (j : ℕ) × At (host_classes rows intos) j (class_of row m)
  has_class [] intos i row m a f e low high small = elim a [ ]
  has_class (w ∷ rows) [] i row m a f e low high small = elim f [ ]
  has_class (w ∷ rows) (None ∷ intos) zero row m (here) (here) e low high small = (0, rw (e, range_yes row low high small) here)
  has_class (w ∷ rows) (Some r ∷ intos) zero row m (here) f e low high small = elim f [ ]
  has_class (w ∷ rows) (Some r ∷ intos) (suc i) row m (there a) (there f) e low high small = has_class rows intos i row m a f e low high small
  has_class (w ∷ rows) (None ∷ intos) (suc i) row m (there a) (there f) e low high small =
      let r = has_class rows intos i row m a f e low high small in
      at_put w (host_classes rows intos) w.shape (in_range w) r.0 (class_of row m) r.1

  once_put : (row : Row M C) (rows : List (Row M C)) (intos : List (Option ℕ)) (o : Option M) (b : Bool) → row.shape ≡ o → in_range row ≡ b → OneRowEach (row ∷ rows) (None ∷ intos) → Once (host_classes rows intos) → Once (put row o b (host_classes rows intos))
  once_put row rows intos None b e f one once = once
  once_put row rows intos (Some m) false e f one once = once
  once_put row rows intos (Some m) true e f one once = once_cons (class_of row m) (host_classes rows intos) once not_again
    where
      not_again : (i : ℕ) → At (host_classes rows intos) i (class_of row m) → ⊥
      not_again i a =
          let l = listed rows intos i (class_of row m) a in
          let z : zero ≡ suc l.number = one (class_of row m) zero (suc l.number) (record { row = row; at = here; free = here; shape = e; cover = refl; level = refl }) (live_there row None l.live) in
          omega (arith, z)

  pub classes_once : (rows : List (Row M C)) (intos : List (Option ℕ)) → OneRowEach rows intos → Once (host_classes rows intos)
  classes_once [] intos one = λ i j c a b. elim a [ ]
  classes_once (row ∷ rows) [] one = λ i j c a b. elim a [ ]
  classes_once (row ∷ rows) (Some r ∷ intos) one = classes_once rows intos (one_tail row (Some r) rows intos one)
  classes_once (row ∷ rows) (None ∷ intos) one = once_put row rows intos row.shape (in_range row) refl refl one (classes_once rows intos (one_tail row None rows intos one))

-- no size is below zero
pub count_zero : {M C : Type 0} (k : Calculus M C) (least most : ℕ) (rows : List (Row M C)) (intos : List (Option ℕ)) → host_count k least most 0 rows intos ≡ 0
count_zero k least most [] intos = refl
count_zero k least most (row ∷ rows) [] = refl
count_zero k least most (row ∷ rows) (Some r ∷ intos) = count_zero k least most rows intos
count_zero k least most (row ∷ rows) (None ∷ intos) = rw (lt-leb (k.size row.cover + 1) 0 (omega arith), and_false (is_some row.shape && nat_le least row.level && nat_le row.level most)) (count_zero k least most rows intos)
