-- A structure has one list of predicates at a path.
use Rattle.std.proofs.Common.{ℕ, ◌≡◌, Bool, true, false, List, [], ◌∷◌, ◌++◌, Option, Some, None, Ok, refl, sym, ◌∙◌, ap, subst}
use Rattle.std.specs.Prelude.{codes}
use Rattle.std.specs.List.{AllZip}
use Rattle.std.proofs.lemmas.List.{append_cancel_right}
use Rattle.type_hierarchy.specs.Table.{TypeTable}
use Rattle.fs_graph.specs.GraphMap.{GraphMap}
use Rattle.mrs_places.specs.Paths.{Feature, Paths}
use Rattle.mrs_places.specs.Looking.{Sought, Place, Walks, at_last, at_null, is_open, no_rest, goes_on, and_more, step}
use Rattle.mrs_extract.specs.Extraction.{Normal, bare, rel}
use Rattle.generate_model.specs.Contributing.{IsList, pred_types, PredTypes, listed, unlisted, IsNamed, PredicatesAreOne}

clash : {P : Type 0} (b : Bool) → b ≡ true → b ≡ false → P
clash b t f = let z : true ≡ false = sym t ∙ f in absurd (cc)

none_some : {P : Type 0} (o : Option ℕ) (n : ℕ) → o ≡ None → o ≡ Some n → P
none_some o n e f = let z : None ≡ Some n = sym e ∙ f in absurd (cc)

some_one : (o : Option ℕ) (n m : ℕ) → o ≡ Some n → o ≡ Some m → n ≡ m
some_one o n m e f = let z : Some n ≡ Some m = sym e ∙ f in cc

module _ (g : GraphMap) (types : TypeTable) (p : Paths) (last : Option ℕ) where
  -- what a walk does at a place is told by the place
  pub walks_one : (at : Place) (a b : Sought (List Place)) → Walks g types p last at a → Walks g types p last at b → a ≡ b
  walks_one at a b (at_last _ e) (at_last _ f) = refl
  walks_one at a b (at_last _ e) (at_null _ f) = refl
  walks_one at a b (at_last _ e) (is_open _ l n c) = absurd (l e)
  walks_one at a b (at_last _ e) (no_rest _ l n c s) = absurd (l e)
  walks_one at a b (at_last _ e) (goes_on _ next more l n c s w) = absurd (l e)
  walks_one at a b (at_null _ e) (at_last _ f) = refl
  walks_one at a b (at_null _ e) (at_null _ f) = refl
  walks_one at a b (at_null _ e) (is_open _ l n c) = clash _ e n
  walks_one at a b (at_null _ e) (no_rest _ l n c s) = clash _ e n
  walks_one at a b (at_null _ e) (goes_on _ next more l n c s w) = clash _ e n
  walks_one at a b (is_open _ l n c) (at_last _ e) = absurd (l e)
  walks_one at a b (is_open _ l n c) (at_null _ e) = clash _ e n
  walks_one at a b (is_open _ l n c) (is_open _ m o d) = refl
  walks_one at a b (is_open _ l n c) (no_rest _ m o d s) = clash _ d c
  walks_one at a b (is_open _ l n c) (goes_on _ next more m o d s w) = clash _ d c
  walks_one at a b (no_rest _ l n c s) (at_last _ e) = absurd (l e)
  walks_one at a b (no_rest _ l n c s) (at_null _ e) = clash _ e n
  walks_one at a b (no_rest _ l n c s) (is_open _ m o d) = clash _ c d
  walks_one at a b (no_rest _ l n c s) (no_rest _ m o d t) = refl
  walks_one at a b (no_rest _ l n c s) (goes_on _ next more m o d t w) = none_some _ next s t
  walks_one at a b (goes_on _ next more l n c s w) (at_last _ e) = absurd (l e)
  walks_one at a b (goes_on _ next more l n c s w) (at_null _ e) = clash _ e n
  walks_one at a b (goes_on _ next more l n c s w) (is_open _ m o d) = clash _ c d
  walks_one at a b (goes_on _ next more l n c s w) (no_rest _ m o d t) = none_some _ next t s
  walks_one at a b (goes_on _ next more l n c s w) (goes_on _ other rest m o d t v) =
      let same : other ≡ next = some_one _ other next t s in
      ap (and_more at) (walks_one (record { node = next; path = at.path ++ p.rest.name ∷ [] }) more rest w
      (subst (λ k. Walks g types p last (record { node = k; path = at.path ++ p.rest.name ∷ [] }) rest) same v))

module _ (g : GraphMap) (types : TypeTable) (p : Paths) (base : List Feature) where
  pub list_one : (a b : List Place) → IsList g types p base a → IsList g types p base b → a ≡ b
  list_one a b x y =
      let rels : x.rels ≡ y.rels = some_one _ x.rels y.rels x.there y.there in
      let start : x.start ≡ y.start = some_one _ x.start y.start (subst (λ n. step g n p.diff_list ≡ Some x.start) rels x.begins) y.begins in
      let walks : Walks g types p (step g y.rels p.diff_last) (record { node = y.start; path = [] }) (Ok a) =
      subst (λ n. Walks g types p (step g y.rels p.diff_last) (record { node = n; path = [] }) (Ok a)) start (subst (λ n. Walks g types p (step g n p.diff_last) (record { node = x.start; path = [] }) (Ok a)) rels x.walks) in
      let same : Ok a ≡ Ok b = walks_one g types p (step g y.rels p.diff_last) (record { node = y.start; path = [] }) (Ok a) (Ok b) walks y.walks in
      cc

  pub types_one : (ts us : List ℕ) → PredTypes g types p base ts → PredTypes g types p base us → ts ≡ us
  types_one ts us (listed a x) (listed b y) = ap (pred_types g p) (list_one a b x y)
  types_one ts us (listed a x) (unlisted none) = absurd (none a x)
  types_one ts us (unlisted none) (listed b y) = absurd (none b y)
  types_one ts us (unlisted none) (unlisted non) = refl

normal_one : (t u a b : List ℕ) → t ≡ u → Normal t a → Normal u b → a ≡ b
normal_one _ _ _ _ e (bare t n) (bare u m) = e
normal_one _ _ _ _ e (bare t n) (rel front b k) = absurd (n front e)
normal_one _ _ _ _ e (rel front a k) (bare u n) = absurd (n front (sym e))
normal_one _ _ _ _ e (rel front a k) (rel other b l) = normal_one front other a b (append_cancel_right front other (codes "_rel") e) k l

pub named_one : (types : TypeTable) (ts : List ℕ) (xs ys : List (List ℕ)) → AllZip (IsNamed types) ts xs → AllZip (IsNamed types) ts ys → xs ≡ ys
named_one types [] [] [] h k = refl
named_one types [] [] (y ∷ ys) h k = absurd k
named_one types [] (x ∷ xs) ys h k = absurd h
named_one types (t ∷ ts) [] ys h k = absurd h
named_one types (t ∷ ts) (x ∷ xs) [] h k = absurd k
named_one types (t ∷ ts) (x ∷ xs) (y ∷ ys) h k = let e = normal_one _ _ x y refl h.0 k.0 in let r = named_one types ts xs ys h.1 k.1 in λ i. e i ∷ r i

pub predicates_are_one : PredicatesAreOne
predicates_are_one g types p base a b x y =
    let same = types_one g types p base x.by_type y.by_type x.types_are y.types_are in
    named_one types y.by_type a b (subst (λ ts. AllZip (IsNamed types) ts a) same x.named) y.named
