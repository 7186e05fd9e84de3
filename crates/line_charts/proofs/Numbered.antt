-- The numbers of packed classes, by the rows of their hosts.
use Rattle.std.specs.Prelude.{◌≡◌, ℕ, Some, List, map}
use Rattle.std.proofs.Common.{◌∙◌, ap, sym, subst}
use Rattle.chart_model.specs.Calculus.{Calculus, Along, along_none, along_more}
use Rattle.chart_model.specs.At.{At, at_one}
use Rattle.chart_model.specs.Chart.{Chart, Row, Leaf, Limits}
use Rattle.chart_model.specs.Classes.{Class, IsHost}
use Rattle.line_charts.specs.Inner.Stages.{AreLiveHosts, AreNumbered, IsNumber}
use Rattle.line_charts.proofs.Lists.{at_map, map_at, along_same}

some_same : {A : Type 0} {x y : A} → Some x ≡ Some y → x ≡ y
some_same e = cc

module _ {M C : Type 0} (k : Calculus M C) (limits : Limits) (leaves : List (Leaf M C)) (ch : Chart M C) where
  -- a row is host of one class
  pub host_one : (c d : Class M C) (i : ℕ) → IsHost k limits leaves ch c i → IsHost k limits leaves ch d i → c ≡ d
  host_one c d i a b =
      let e : a.row ≡ b.row = some_same (sym a.at ∙ b.at) in
      let cover : c.cover ≡ d.cover = sym a.cover ∙ ap (λ (r : Row M C). r.cover) e ∙ b.cover in
      let level : c.level ≡ d.level = sym a.level ∙ ap (λ (r : Row M C). r.level) e ∙ b.level in
      let shape : c.shape ≡ d.shape = some_same (sym a.shape ∙ ap (λ (r : Row M C). r.shape) e ∙ b.shape) in
      (λ j. record { cover = cover j; level = level j; shape = shape j })

  module _ {X : Type 0} (class : X → Class M C) (host : X → ℕ) (xs : List X) (hosts : AreLiveHosts k limits leaves ch class host xs) (table : List ℕ) (numbered : AreNumbered host xs table)
      (one_host : (c : Class M C) (i j : ℕ) → IsHost k limits leaves ch c i → IsHost k limits leaves ch c j → i ≡ j) where
    record HasNumber (c : Class M C) (h : ℕ) : Type 0 where
      number : ℕ
      is : IsNumber table number h
      at : At (map class xs) number c

    number_of : (c : Class M C) (h : ℕ) → IsHost k limits leaves ch c h → HasNumber c h
    number_of c h i =
        let r = hosts.all c h i in
        let x = r.1 in
        let same : class x ≡ c = host_one (class x) c h (subst (IsHost k limits leaves ch (class x)) r.3 (hosts.each r.0 x r.2)) i in
        record {
          number = r.0;
          is = subst (IsNumber table r.0) r.3 (numbered r.0 x r.2);
          at = subst (At (map class xs) r.0) same (at_map class r.2);
        }

    pub class_there : (c : Class M C) (h : ℕ) → IsHost k limits leaves ch c h → (n : ℕ) × At (map class xs) n c
    class_there c h i = let r = number_of c h i in (r.number, r.at)

    pub numbered_host : (n : ℕ) (c : Class M C) (h : ℕ) → At (map class xs) n c → IsHost k limits leaves ch c h → IsNumber table n h
    numbered_host n c h a i =
        let r = map_at class xs n c a in
        let same : host r.0 ≡ h = one_host c (host r.0) h (subst (λ d. IsHost k limits leaves ch d (host r.0)) r.2 (hosts.each n r.0 r.1)) i in
        subst (IsNumber table n) same (numbered n r.0 r.1)

    -- the numbers of rows are those of their classes
    pub classes_along : (ds : List (Class M C)) (hs ns : List ℕ) → Along (IsHost k limits leaves ch) ds hs → Along (IsNumber table) ns hs → Along (At (map class xs)) ns ds
    classes_along _ _ _ along_none along_none = along_none
    classes_along _ _ _ (along_more {x = d} {y = h} i is) (along_more {x = n} r rs) =
        let z = number_of d h i in
        let same : z.number ≡ n = some_same (sym z.is ∙ r) in
        along_more (subst (λ m. At (map class xs) m d) same z.at) (classes_along _ _ _ is rs)

    pub numbers_along : (ds : List (Class M C)) (hs ns : List ℕ) → Along (IsHost k limits leaves ch) ds hs → Along (At (map class xs)) ns ds → Along (IsNumber table) ns hs
    numbers_along _ _ _ along_none along_none = along_none
    numbers_along _ _ _ (along_more {x = d} {y = h} i is) (along_more {x = n} a bs) = along_more (numbered_host n d h a i) (numbers_along _ _ _ is bs)

    -- rows of hosts that have the same numbers are the same
    pub rows_same : (cs ds : List (Class M C)) (gs hs ns : List ℕ) → Along (IsHost k limits leaves ch) cs gs → Along (IsHost k limits leaves ch) ds hs → Along (IsNumber table) ns gs → Along (IsNumber table) ns hs → gs ≡ hs
    rows_same cs ds gs hs ns a b r s =
        let e : cs ≡ ds = along_same (λ n c d x y. at_one x y) (classes_along cs gs ns a r) (classes_along ds hs ns b s) in
        along_same (λ c i j x y. one_host c i j x y) a (subst (λ z. Along (IsHost k limits leaves ch) z hs) (sym e) b)
