-- A property is a path of features, and its name tells which.
use Rattle.std.specs.Prelude.{ℕ, ◌≡◌, ◌≢◌, ◌<◌, ◌≤◌, ◌⊎◌, Option, Some, None, List, [], ◌∷◌, ◌++◌, length, All, Contains}
use Rattle.std.proofs.Common.{refl, sym, ◌∙◌, ap, subst, arith, zero, suc, inl, inr, get_or}
use Rattle.std.proofs.lemmas.Bool.{cases_lt}
use Rattle.type_hierarchy.specs.Table.{TypeTable}
use Rattle.fs_model.specs.Claims.{Path}
use Rattle.fs_model.specs.Table.{walk}
use Rattle.fs_graph.specs.declared.graph.GraphArc.{GraphArc}
use Rattle.fs_graph.specs.GraphMap.{GraphMap, IsGraph, table_of, arcs_at, arc_to}
use Rattle.mrs_model.specs.Texts.{IsName}
use Rattle.mrs_places.specs.Paths.{Paths}
use Rattle.mrs_extract.specs.Asked.{ArePaths}
use Rattle.mrs_extract.specs.Extraction.{feature_name, open_arcs, IsValueAt, IsPropertyAt, ends, goes_on}
use Rattle.mrs_extract.specs.Inner.Routes.{joined}
use Rattle.mrs_extract.proofs.Lists.{In, in_of, contains_of, all_at, firm_of, firm_arc}
use Rattle.mrs_extract.proofs.Spreading.{open_arc}
use Rattle.relation_fit.proofs.Chains.{walk_arc}

-- names without dots
abbrev NoDot : List ℕ → Type 0
NoDot [] = Unit {0}
NoDot (c ∷ cs) = (c ≢ 46) × NoDot cs

no_dot_of : (cs : List ℕ) → (In 46 cs → ⊥) → NoDot cs
no_dot_of [] h = tt
no_dot_of (c ∷ cs) h = ((λ e. h (inl (sym e))), no_dot_of cs (λ k. h (inr k)))

-- nothing more, or a dot first
abbrev IsTail : List ℕ → Type 0
IsTail [] = Unit {0}
IsTail (c ∷ cs) = c ≡ 46

head_is : (a b : ℕ) (as_ bs : List ℕ) → a ∷ as_ ≡ b ∷ bs → (a ≡ b) × (as_ ≡ bs)
head_is a b as_ bs e = (let f : a ≡ b = cc in f, let f : as_ ≡ bs = cc in f)

split : (a b x y : List ℕ) → NoDot a → NoDot b → IsTail x → IsTail y → a ++ x ≡ b ++ y → (a ≡ b) × (x ≡ y)
split [] [] x y da db tx ty e = (refl, e)
split [] (b ∷ bs) [] y da db tx ty e = absurd (let f : [] ≡ b ∷ (bs ++ y) = e in cc)
split [] (b ∷ bs) (c ∷ cs) y da db tx ty e = let h = head_is c b cs (bs ++ y) e in absurd (db.0 (sym h.0 ∙ tx))
split (a ∷ as_) [] x [] da db tx ty e = absurd (let f : a ∷ (as_ ++ x) ≡ [] = e in cc)
split (a ∷ as_) [] x (c ∷ cs) da db tx ty e = let h = head_is a c (as_ ++ x) cs e in absurd (da.0 (h.0 ∙ ty))
split (a ∷ as_) (b ∷ bs) x y da db tx ty e =
    let h = head_is a b (as_ ++ x) (bs ++ y) e in
    let r = split as_ bs x y da.1 db.1 tx ty h.1 in
    (λ i. h.0 i ∷ r.0 i, r.1)

abbrev tail : Paths → List ℕ → List ℕ
tail p [] = []
tail p (f ∷ fs) = 46 ∷ joined p (f ∷ fs)

joined_is : (p : Paths) (f : ℕ) (fs : List ℕ) → joined p (f ∷ fs) ≡ feature_name p f ++ tail p fs
joined_is p f [] = nothing (feature_name p f)
  where
    nothing : (xs : List ℕ) → xs ≡ xs ++ []
    nothing [] = refl
    nothing (x ∷ xs) = ap (λ l. x ∷ l) (nothing xs)
joined_is p f (g ∷ fs) = refl

tail_is : (p : Paths) (fs : List ℕ) → IsTail (tail p fs)
tail_is p [] = tt
tail_is p (f ∷ fs) = refl

past : (xs : List (List ℕ)) (k : ℕ) → length xs ≤ k → get_or xs k [] ≡ []
past [] k h = refl
past (x ∷ xs) zero h = absurd (omega (arith, h))
past (x ∷ xs) (suc k) h = past xs k (omega (arith, h))

name_in : (xs : List (List ℕ)) (k : ℕ) → k < length xs → In (get_or xs k []) xs
name_in [] k l = absurd (omega (arith, l))
name_in (x ∷ xs) zero l = inl refl
name_in (x ∷ xs) (suc k) l = inr (name_in xs k (omega (arith, l)))

module _ (types : TypeTable) (p : Paths) (named : ArePaths types p) where
  dotless : (f : ℕ) → NoDot (feature_name p f)
  dotless f = by_place (cases_lt f (length p.feats))
    where
      by_place : (f < length p.feats) ⊎ (length p.feats ≤ f) → NoDot (feature_name p f)
      by_place (inl lt) = no_dot_of (feature_name p f) (λ h. all_at (λ n. Contains n 46 → ⊥) p.feats (feature_name p f) named.no_dots (name_in p.feats f lt) (contains_of (feature_name p f) 46 h))
      by_place (inr le) = subst NoDot (sym (past p.feats f le)) tt

  -- the feature of a name is one; numbers that no feature has have an empty name
  pub one_feature : (f h : ℕ) → f < length p.feats → feature_name p f ≡ feature_name p h → f ≡ h
  one_feature f h lt e = by_place (cases_lt h (length p.feats))
    where
      by_place : (h < length p.feats) ⊎ (length p.feats ≤ h) → f ≡ h
      by_place (inl l) = named.differ f h lt l e
      by_place (inr le) =
          let n = (all_at IsName p.feats (feature_name p f) named.feature_names (name_in p.feats f lt)).filled in
          let z : length (feature_name p f) ≡ 0 = ap length (e ∙ past p.feats h le) in
          absurd (omega (arith, n, z))

  heads : (a b : List ℕ) (f h : ℕ) → f < length p.feats → joined p (f ∷ a) ≡ joined p (h ∷ b) → (f ≡ h) × (tail p a ≡ tail p b)
  heads a b f h lf e =
      let s = split (feature_name p f) (feature_name p h) (tail p a) (tail p b) (dotless f) (dotless h) (tail_is p a) (tail_is p b) (sym (joined_is p f a) ∙ e ∙ joined_is p h b) in
      (one_feature f h lf s.0, s.1)

  joined_same : (a b : List ℕ) (f h : ℕ) → All (λ g. g < length p.feats) (f ∷ a) → joined p (f ∷ a) ≡ joined p (h ∷ b) → f ∷ a ≡ h ∷ b
  joined_same [] [] f h fa e = let s = heads [] [] f h (fa 0 0 (omega arith)) e in λ i. s.0 i ∷ []
  joined_same [] (y ∷ b) f h fa e = absurd (let s = heads [] (y ∷ b) f h (fa 0 0 (omega arith)) e in let r : [] ≡ 46 ∷ joined p (y ∷ b) = s.1 in cc)
  joined_same (x ∷ a) [] f h fa e = absurd (let s = heads (x ∷ a) [] f h (fa 0 0 (omega arith)) e in let r : 46 ∷ joined p (x ∷ a) ≡ [] = s.1 in cc)
  joined_same (x ∷ a) (y ∷ b) f h fa e =
      let s = heads (x ∷ a) (y ∷ b) f h (fa 0 0 (omega arith)) e in
      let rest = joined_same a b x y (λ k d l. fa (suc k) d (omega (arith, l))) (head_is 46 46 (joined p (x ∷ a)) (joined p (y ∷ b)) s.1).1 in
      λ i. s.0 i ∷ rest i

  -- of a path of features of the grammar there is no other of the same name
  pub joined_one : (a b : List ℕ) → 0 < length a → 0 < length b → All (λ g. g < length p.feats) a → joined p a ≡ joined p b → a ≡ b
  joined_one [] b la lb fa e = absurd (omega (arith, la))
  joined_one (f ∷ a) [] la lb fa e = absurd (omega (arith, lb))
  joined_one (f ∷ a) (h ∷ b) la lb fa e = joined_same a b f h fa e

module _ (g : GraphMap) (is : IsGraph g) (types : TypeTable) (p : Paths) where
  -- a property's path, and the value at its end
  pub record Led (n : ℕ) (name value : List ℕ) : Type 0 where
    pub path : Path
    pub filled : 0 < length path
    pub end : ℕ
    pub leads : walk (table_of g) n path ≡ Some end
    pub named : joined p path ≡ name
    pub is_value : IsValueAt g types end value

  arc_leads : (n : ℕ) → n < length g.types → (a : GraphArc) → Contains (open_arcs g p n) a → arc_to (arcs_at g n) a.feat.0 ≡ Some a.to.0
  arc_leads n lt a c = firm_arc (arcs_at g n) a (firm_of (arcs_at g n) (is.rises n lt)) (open_arc g is p n a (in_of (open_arcs g p n) a c))

  more_named : (f : ℕ) (q name : List ℕ) → 0 < length q → joined p q ≡ name → joined p (f ∷ q) ≡ feature_name p f ++ 46 ∷ name
  more_named f [] name lt e = absurd (omega (arith, lt))
  more_named f (h ∷ q) name lt e = ap (λ l. feature_name p f ++ 46 ∷ l) e

  pub led : (n : ℕ) (name value : List ℕ) → n < length g.types → IsPropertyAt g types p n name value → Led n name value
  led n _ _ lt (ends _ a value c v) =
      record { path = a.feat.0 ∷ []; filled = omega arith; end = a.to.0; leads = walk_arc g n a.feat.0 a.to.0 [] (arc_leads n lt a c); named = refl; is_value = v }
  led n _ _ lt (goes_on _ a name value c q) =
      let arc = arc_leads n lt a c in
      let z = led a.to.0 name value (is.numbered.table.arc_in n a.feat.0 a.to.0 lt arc) q in
      record {
        path = a.feat.0 ∷ z.path;
        filled = omega arith;
        end = z.end;
        leads = walk_arc g n a.feat.0 a.to.0 z.path arc ∙ z.leads;
        named = more_named a.feat.0 z.path name z.filled z.named;
        is_value = z.is_value;
      }
