-- A structure has one outcome of looking.
use Rattle.std.proofs.Common.{ℕ, ◌≡◌, ◌≢◌, ◌⊎◌, inl, inr, Bool, true, false, List, [], ◌∷◌, ◌++◌, Option, Some, None, Ok, Err, refl, sym, ◌∙◌, ap, subst}
use Rattle.type_hierarchy.specs.Table.{TypeTable}
use Rattle.fs_graph.specs.GraphMap.{GraphMap, type_at}
use Rattle.mrs_places.specs.Paths.{Feature, Paths}
use Rattle.mrs_places.specs.Looking.{NamedPath, Sought, Place, Pair, Parts, Walks, at_last, at_null, is_open, no_rest, goes_on, Elements, no_list, no_start, walked, MayElements, has_none, has_some, Then, stops, leads, chain, and_more, step, below, look, pairs_in, IsAt, root, Looks}

clash : {A : Type 0} (P : Type 0) (x : Sought A) (a : A) (path : NamedPath) → x ≡ Ok a → x ≡ Err path → P
clash P x a path e f = let z : Ok a ≡ Err path = sym e ∙ f in absurd (cc)

true_false : {P : Type 0} (b : Bool) → b ≡ true → b ≡ false → P
true_false b t f = let z : true ≡ false = sym t ∙ f in absurd (cc)

none_some : {P : Type 0} (o : Option ℕ) (n : ℕ) → o ≡ None → o ≡ Some n → P
none_some o n e f = let z : None ≡ Some n = sym e ∙ f in absurd (cc)

ended : (g : GraphMap) (types : TypeTable) (p : Paths) (last : Option ℕ) (at : Place) (out : Sought (List Place)) → (last ≡ Some at.node) ⊎ (below types (type_at g at.node) p.null ≡ true) → Walks g types p last at out → out ≡ Ok []
ended g types p last at out h (at_last _ e) = refl
ended g types p last at out h (at_null _ e) = refl
ended g types p last at out (inl e) (is_open _ l n c) = absurd (l e)
ended g types p last at out (inr e) (is_open _ l n c) = true_false _ e n
ended g types p last at out (inl e) (no_rest _ l n c s) = absurd (l e)
ended g types p last at out (inr e) (no_rest _ l n c s) = true_false _ e n
ended g types p last at out (inl e) (goes_on _ next more l n c s w) = absurd (l e)
ended g types p last at out (inr e) (goes_on _ next more l n c s w) = true_false _ e n

opened : (g : GraphMap) (types : TypeTable) (p : Paths) (last : Option ℕ) (at : Place) (out : Sought (List Place)) → last ≢ Some at.node → below types (type_at g at.node) p.null ≡ false → below types (type_at g at.node) p.cons ≡ false → Walks g types p last at out → out ≡ Err at.path
opened g types p last at out l n c (at_last _ e) = absurd (l e)
opened g types p last at out l n c (at_null _ e) = true_false _ e n
opened g types p last at out l n c (is_open _ _ _ _) = refl
opened g types p last at out l n c (no_rest _ _ _ d s) = true_false _ d c
opened g types p last at out l n c (goes_on _ next more _ _ d s w) = true_false _ d c

restless : (g : GraphMap) (types : TypeTable) (p : Paths) (last : Option ℕ) (at : Place) (out : Sought (List Place)) → last ≢ Some at.node → below types (type_at g at.node) p.null ≡ false → below types (type_at g at.node) p.cons ≡ true → step g at.node p.rest ≡ None
    → Walks g types p last at out → out ≡ Err (at.path ++ p.rest.name ∷ [])
restless g types p last at out l n c s (at_last _ e) = absurd (l e)
restless g types p last at out l n c s (at_null _ e) = true_false _ e n
restless g types p last at out l n c s (is_open _ _ _ d) = true_false _ c d
restless g types p last at out l n c s (no_rest _ _ _ _ _) = refl
restless g types p last at out l n c s (goes_on _ next more _ _ _ t w) = none_some _ next s t

record GoesOn (g : GraphMap) (types : TypeTable) (p : Paths) (last : Option ℕ) (at : Place) (next : ℕ) (out : Sought (List Place)) : Type 0 where
  more : Sought (List Place)
  is : out ≡ and_more at more
  walks : Walks g types p last (record { node = next; path = at.path ++ p.rest.name ∷ [] }) more

went_on : (g : GraphMap) (types : TypeTable) (p : Paths) (last : Option ℕ) (at : Place) (next : ℕ) (out : Sought (List Place)) → last ≢ Some at.node → below types (type_at g at.node) p.null ≡ false → below types (type_at g at.node) p.cons ≡ true → step g at.node p.rest ≡ Some next
    → Walks g types p last at out → GoesOn g types p last at next out
went_on g types p last at next out l n c s (at_last _ e) = absurd (l e)
went_on g types p last at next out l n c s (at_null _ e) = true_false _ e n
went_on g types p last at next out l n c s (is_open _ _ _ d) = true_false _ c d
went_on g types p last at next out l n c s (no_rest _ _ _ _ t) = none_some _ next t s
went_on g types p last at next out l n c s (goes_on _ other more _ _ _ t w) =
    let same : other ≡ next = (let z : Some other ≡ Some next = sym t ∙ s in cc) in
    record { more = more; is = refl; walks = subst (λ m. Walks g types p last (record { node = m; path = at.path ++ p.rest.name ∷ [] }) more) same w }

walks_one : (g : GraphMap) (types : TypeTable) (p : Paths) (last : Option ℕ) (at : Place) (a b : Sought (List Place)) → Walks g types p last at a → Walks g types p last at b → a ≡ b
walks_one g types p last at a b (at_last _ e) w = sym (ended g types p last at b (inl e) w)
walks_one g types p last at a b (at_null _ e) w = sym (ended g types p last at b (inr e) w)
walks_one g types p last at a b (is_open _ l n c) w = sym (opened g types p last at b l n c w)
walks_one g types p last at a b (no_rest _ l n c s) w = sym (restless g types p last at b l n c s w)
walks_one g types p last at a b (goes_on _ next more l n c s v) w =
    let h = went_on g types p last at next b l n c s w in
    ap (and_more at) (walks_one g types p last (record { node = next; path = at.path ++ p.rest.name ∷ [] }) more h.more v h.walks) ∙ sym h.is

ok_one : {A : Type 0} (x : Sought A) (a b : A) → x ≡ Ok a → x ≡ Ok b → a ≡ b
ok_one x a b e f = let z : Ok a ≡ Ok b = sym e ∙ f in cc

err_one : {A : Type 0} (x : Sought A) (a b : NamedPath) → x ≡ Err a → x ≡ Err b → a ≡ b
err_one x a b e f = let z : Err a ≡ Err b = sym e ∙ f in cc

elements_one : (g : GraphMap) (types : TypeTable) (p : Paths) (m : Place) (list one two : Feature) (a b : Sought (List Pair)) → Elements g types p m list one two a → Elements g types p m list one two b → a ≡ b
elements_one g types p m list one two a b (no_list path e) (no_list q f) = ap Err (err_one (look g m (list ∷ [])) path q e f)
elements_one g types p m list one two a b (no_list path e) (no_start at q f h) = clash _ (look g m (list ∷ [])) at path f e
elements_one g types p m list one two a b (no_list path e) (walked at start cells f h w) = clash _ (look g m (list ∷ [])) at path f e
elements_one g types p m list one two a b (no_start at path e f) (no_list q h) = clash _ (look g m (list ∷ [])) at q e h
elements_one g types p m list one two a b (no_start at path e f) (no_start to q h k) =
    let same : at ≡ to = ok_one (look g m (list ∷ [])) at to e h in
    ap Err (err_one (look g to (p.diff_list ∷ [])) path q (subst (λ x. look g x (p.diff_list ∷ []) ≡ Err path) same f) k)
elements_one g types p m list one two a b (no_start at path e f) (walked to start cells h k w) =
    let same : at ≡ to = ok_one (look g m (list ∷ [])) at to e h in
    clash _ (look g to (p.diff_list ∷ [])) start path k (subst (λ x. look g x (p.diff_list ∷ []) ≡ Err path) same f)
elements_one g types p m list one two a b (walked at start cells e f w) (no_list q h) = clash _ (look g m (list ∷ [])) at q e h
elements_one g types p m list one two a b (walked at start cells e f w) (no_start to q h k) =
    let same : at ≡ to = ok_one (look g m (list ∷ [])) at to e h in
    clash _ (look g to (p.diff_list ∷ [])) start q (subst (λ x. look g x (p.diff_list ∷ []) ≡ Ok start) same f) k
elements_one g types p m list one two a b (walked at start cells e f w) (walked to from others h k v) =
    let same : at ≡ to = ok_one (look g m (list ∷ [])) at to e h in
    let begin : start ≡ from = ok_one (look g to (p.diff_list ∷ [])) start from (subst (λ x. look g x (p.diff_list ∷ []) ≡ Ok start) same f) k in
    ap (λ c. chain c (pairs_in g p one two)) (walks_one g types p (step g to.node p.diff_last) from cells others (subst (λ x. Walks g types p (step g to.node p.diff_last) x cells) begin (subst (λ x. Walks g types p (step g x.node p.diff_last) start cells) same w)) v)

may_one : (g : GraphMap) (types : TypeTable) (p : Paths) (m : Place) (list one two : Feature) (a b : Sought (List Pair)) → MayElements g types p m list one two a → MayElements g types p m list one two b → a ≡ b
may_one g types p m list one two a b (has_none e) (has_none f) = refl
may_one g types p m list one two a b (has_none e) (has_some at out f h) = none_some _ at e f
may_one g types p m list one two a b (has_some at out f h) (has_none e) = none_some _ at e f
may_one g types p m list one two a b (has_some at out f h) (has_some to more e k) = elements_one g types p m list one two a b h k

then_one : {A B : Type 0} (first : Sought A → Type 0) (second : A → Sought B → Type 0) → ((x y : Sought A) → first x → first y → x ≡ y) → ((a : A) (x y : Sought B) → second a x → second a y → x ≡ y)
    → (x y : Sought B) → Then first second x → Then first second y → x ≡ y
then_one first second f s x y (stops path h) (stops q k) = let z : Err path ≡ Err q = f (Err path) (Err q) h k in let w : path ≡ q = cc in ap Err w
then_one first second f s x y (stops path h) (leads a out k t) = let z : Err path ≡ Ok a = f (Err path) (Ok a) h k in absurd (cc)
then_one first second f s x y (leads a out k t) (stops path h) = let z : Err path ≡ Ok a = f (Err path) (Ok a) h k in absurd (cc)
then_one first second f s x y (leads a out h t) (leads b more k u) =
    let z : Ok a ≡ Ok b = f (Ok a) (Ok b) h k in
    let same : a ≡ b = cc in
    s b x y (subst (λ c. second c x) same t) u

at_one : (g : GraphMap) (at : Place) (fs : List Feature) (x y : Sought Place) → IsAt g at fs x → IsAt g at fs y → x ≡ y
at_one g at fs x y e f = e ∙ sym f

same_one : {A : Type 0} (a : Sought A) (x y : Sought A) → x ≡ a → y ≡ a → x ≡ y
same_one a x y e f = e ∙ sym f

pub looks_one : (g : GraphMap) (types : TypeTable) (p : Paths) (x y : Sought Parts) → Looks g types p x → Looks g types p y → x ≡ y
looks_one g types p =
    then_one _ _ (at_one g root p.mrs_path) (λ m. then_one _ _ (at_one g m p.ltop_path) (λ t. then_one _ _ (at_one g m p.index_path) (λ i.
    then_one _ _ (elements_one g types p m p.rels p.pred p.lbl) (λ rels. then_one _ _ (elements_one g types p m p.hcons p.harg p.larg) (λ hcons. then_one _ _ (may_one g types p m p.icons p.iarg1 p.iarg2) (λ icons. same_one _))))))
