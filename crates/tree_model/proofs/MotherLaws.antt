-- The laws of shapes, for the mothers of a rule system.
use Rattle.std.specs.Prelude.{ℕ, ◌≡◌, Bool, true, false, Option, Some, None, List, [], ◌∷◌, ◌++◌}
use Rattle.std.proofs.Common.{refl}
use Rattle.fs_model.specs.Claims.{Path, Claim, exists_at, same, below, System}
use Rattle.fs_model.specs.Closure.{Closure, given_claim, below_exists, raised, AreConsistent}
use Rattle.chart_model.specs.Calculus.{AllOver, none, more}
use Rattle.tree_model.specs.Structures.{Structure, pairs_of, all_along, over_type, over_equal, over, Along, along_none, along_more, Beside, beside_here, beside_there, Says, says_type, says_equal, IsTypeAt, IsEqualAt, IsStructureOf}
use Rattle.tree_model.specs.Cuts.{Cut, Kept, kept_exists, kept_same, kept_below}
use Rattle.tree_model.specs.Mothers.{Rule, RuleSystem, Parts, of_rule, of_daughter, Meant, Whole, Mother, Abstract, Applies, IsFull, IsShape, IsAbstract, Agrees, restrictors_cut}
use Rattle.tree_model.proofs.Overs.{both, joined}
use Rattle.tree_model.proofs.Closures.{grows, moved, falls, kept_claim, keeps_more, trimmed_inside, trimmed_grows, HasEnds, closure_ends, kept_ends, along_at, beside_of, has_pair}

module _ (s : System) where
  type_at : {p : Path} {t : ℕ} {ps : List Path} {ts us : List (Option ℕ)} → all_along (over_type s) ts us ≡ true → Beside p (Some t) ps ts → (u : ℕ) × Beside p (Some u) ps us × (s.is_below u t ≡ true)
  type_at {us = []} h (beside_here) = absurd (cc)
  type_at {us = None ∷ us} h (beside_here) = absurd (cc)
  type_at {us = Some u ∷ us} h (beside_here) = (u, beside_here, (both h).0)
  type_at {us = []} h (beside_there b) = absurd (cc)
  type_at {us = u ∷ us} h (beside_there b) = let z = type_at (both h).1 b in (z.0, beside_there z.1, z.2)

  equal_at : {pq : Path × Path} {pqs : List (Path × Path)} {ts us : List Bool} → all_along over_equal ts us ≡ true → Beside pq true pqs ts → Beside pq true pqs us
  equal_at {us = []} h (beside_here) = absurd (cc)
  equal_at {us = false ∷ us} h (beside_here) = absurd (cc)
  equal_at {us = true ∷ us} h (beside_here) = beside_here
  equal_at {us = []} h (beside_there b) = absurd (cc)
  equal_at {us = u ∷ us} h (beside_there b) = beside_there (equal_at (both h).1 b)

  module _ (ps : List Path) where
    -- what a structure says follows from what a structure says that it subsumes
    pub over_says : {a b : Structure} → over s a b ≡ true → (c : Claim) → Says ps a c → Closure s (Says ps b) c
    over_says h _ (says_type p t x) = let z = type_at (both h).0 x in raised p z.0 t (given_claim _ (says_type p z.0 z.1)) z.2
    over_says h _ (says_equal p q x) = given_claim _ (says_equal p q (equal_at (both h).1 x))

    -- what the structure of a closure says stands in the closure
    pub says_of : {closure : Claim → Type 0} {m : Structure} → IsStructureOf s ps closure m → (c : Claim) → Says ps m c → closure c
    says_of is _ (says_type p t x) = (along_at is.types x).0
    says_of is _ (says_equal p q x) = along_at is.equal x

    -- what stands among the claims follows from what their structure says
    pub part_says : {claims : Claim → Type 0} {m : Structure} → HasEnds claims → IsStructureOf s ps claims m → (c : Claim) → claims c → Closure s (Says ps m) c
    part_says {claims} {m} ends is c k = by_claim c k
      where
        typed_at : (p : Path) → claims (exists_at p) → (u : ℕ) × Closure s (Says ps m) (below p u) × ((t : ℕ) → claims (below p t) → s.is_below u t ≡ true)
        typed_at p a = let z = beside_of (is.inside p a) is.types in by_type z.0 z.1
          where
            by_type : (o : Option ℕ) → Beside p o ps m.types → (u : ℕ) × Closure s (Says ps m) (below p u) × ((t : ℕ) → claims (below p t) → s.is_below u t ≡ true)
            by_type None b = absurd (along_at is.types b a)
            by_type (Some u) b = (u, given_claim _ (says_type p u b), (along_at is.types b).1)

        equal_by : (p q : Path) → claims (same p q) → (o : Bool) → Beside (p, q) o (pairs_of ps) m.equal → Closure s (Says ps m) (same p q)
        equal_by p q a false b = absurd (along_at is.equal b a)
        equal_by p q a true b = given_claim _ (says_equal p q b)

        by_claim : (c : Claim) → claims c → Closure s (Says ps m) c
        by_claim (exists_at p) a = let z = typed_at p a in below_exists p z.0 z.1
        by_claim (same p q) a =
            let z = beside_of (has_pair (is.inside p (ends.left p q a)) (is.inside q (ends.right p q a))) is.equal in
            equal_by p q a z.0 z.1
        by_claim (below p t) a = let z = typed_at p (ends.under p t a) in raised p z.0 t z.1 (z.2 t a)

    -- the structure of a part stands for the closure of that part
    pub part_meant : {claims : Claim → Type 0} {m : Structure} → HasEnds claims → IsStructureOf s ps claims m → {c : Claim} → Closure s claims c → Closure s (Says ps m) c
    part_meant ends is a = grows s (part_says ends is) a

    pub meant_part : {claims : Claim → Type 0} {m : Structure} → IsStructureOf s ps claims m → {c : Claim} → Closure s (Says ps m) c → Closure s claims c
    meant_part is a = grows s (λ c x. given_claim c (says_of is c x)) a

    types_over : {G H : Claim → Type 0} → HasEnds H → ((c : Claim) → G c → H c) → {qs : List Path} {ts us : List (Option ℕ)} → Along (IsTypeAt s G) qs ts → Along (IsTypeAt s H) qs us → all_along (over_type s) ts us ≡ true
    types_over ends k along_none along_none = refl
    types_over {G} {H} ends k (along_more {x = p} {y = t} a as') (along_more {y = u} b bs) = joined (at_one p t u a b) (types_over ends k as' bs)
      where
        at_one : (p : Path) (t u : Option ℕ) → IsTypeAt s G p t → IsTypeAt s H p u → over_type s t u ≡ true
        at_one p None u a b = refl
        at_one p (Some t) None a b = absurd (b (ends.under p t (k _ a.0)))
        at_one p (Some t) (Some u) a b = b.1 t (k _ a.0)

    equal_over : {G H : Claim → Type 0} → ((c : Claim) → G c → H c) → {qs : List (Path × Path)} {ts us : List Bool} → Along (IsEqualAt G) qs ts → Along (IsEqualAt H) qs us → all_along over_equal ts us ≡ true
    equal_over k along_none along_none = refl
    equal_over {G} {H} k (along_more {x = pq} {y = t} a as') (along_more {y = u} b bs) = joined (at_one pq t u a b) (equal_over k as' bs)
      where
        at_one : (pq : Path × Path) (t u : Bool) → IsEqualAt G pq t → IsEqualAt H pq u → over_equal t u ≡ true
        at_one pq false u a b = refl
        at_one pq true false a b = absurd (b (k _ a))
        at_one pq true true a b = refl

    -- the structure of fewer claims subsumes that of more
    pub structures_over : {G H : Claim → Type 0} {a b : Structure} → HasEnds H → ((c : Claim) → G c → H c) → IsStructureOf s ps G a → IsStructureOf s ps H b → over s a b ≡ true
    structures_over ends k x y = joined (types_over ends k x.types y.types) (equal_over k x.equal y.equal)

    -- the test tells exactly whether the one closure lies in the other
    pub over_meant : {a b : Structure} → over s a b ≡ true → {c : Claim} → Closure s (Says ps a) c → Closure s (Says ps b) c
    over_meant h x = grows s (over_says h) x

    pub meant_over : {cut : Cut} {G H : Claim → Type 0} {a b : Structure} → IsStructureOf s ps (Kept cut (Closure s G)) a → IsStructureOf s ps (Kept cut (Closure s H)) b →
        ((c : Claim) → Closure s (Says ps a) c → Closure s (Says ps b) c) → over s a b ≡ true
    meant_over {cut} {G} {H} x y k = structures_over (kept_ends (closure_ends s)) into x y
      where
        lies : (c : Claim) → Kept cut (Closure s G) c → Closure s H c
        lies c z = trimmed_inside s (meant_part y (k c (part_says (kept_ends (closure_ends s)) x c z)))

        into : (c : Claim) → Kept cut (Closure s G) c → Kept cut (Closure s H) c
        into _ (kept_exists p e z) = kept_exists p e (lies _ (kept_exists p e z))
        into _ (kept_same p q e f z) = kept_same p q e f (lies _ (kept_same p q e f z))
        into _ (kept_below p t e z) = kept_below p t e (lies _ (kept_below p t e z))

module _ (g : RuleSystem) where
  daughter_over : {place : Path} {m : Structure} {places : List Path} {gs ss : List Structure} → AllOver (over g.system) gs ss → Beside place m places gs → (n : Structure) × Beside place n places ss × (over g.system m n ≡ true)
  daughter_over none h = elim h [ ]
  daughter_over (more {s = n} o os) (beside_here) = (n, beside_here, o)
  daughter_over (more o os) (beside_there h) = let z = daughter_over os h in (z.0, beside_there z.1, z.2)

  -- the closure over general daughters lies in that over special ones
  pub whole_over : (rule : Rule) {gs ss : List Structure} → AllOver (over g.system) gs ss → {c : Claim} → Whole g rule gs c → Whole g rule ss c
  whole_over rule {gs} {ss} o a = grows g.system by_part a
    where
      by_part : (c : Claim) → Parts g.paths rule gs c → Whole g rule ss c
      by_part c (of_rule _ h) = given_claim c (of_rule c h)
      by_part _ (of_daughter place m c h x) =
          let z = daughter_over o h in
          moved g.system place (λ d y. given_claim _ (of_daughter place z.0 d z.1 y)) (over_says g.system g.paths z.2 c x)

  pub shape_over : (rule : Rule) {gs ss : List Structure} → AllOver (over g.system) gs ss → (c : Claim) → Kept (restrictors_cut g) (Mother g rule gs) c → Kept (restrictors_cut g) (Mother g rule ss) c
  shape_over rule o c a = keeps_more (λ d x. trimmed_grows g.system (λ e y. whole_over rule o y) x) a

  -- law 2: what applies to a special tuple applies to a general one
  pub applies_falls : (rule : Rule) (gs ss : List Structure) → AllOver (over g.system) gs ss → Applies g rule ss → Applies g rule gs
  applies_falls rule gs ss o ok = falls g.system (λ c a. whole_over rule o a) ok

  -- and the general mother subsumes the special one
  pub shapes_monotone : (rule : Rule) (gs ss : List Structure) (n m : Structure) → AllOver (over g.system) gs ss → IsShape g rule gs n → IsShape g rule ss m → over g.system n m ≡ true
  shapes_monotone rule gs ss n m o a b = structures_over g.system g.paths (kept_ends (closure_ends g.system)) (shape_over rule o) a.1 b.1

  -- a beginning of a tuple to which a rule applies
  pub beside_begins : {place : Path} {m : Structure} {places : List Path} {front : List Structure} (rest : List Structure) → Beside place m places front → Beside place m places (front ++ rest)
  beside_begins rest (beside_here) = beside_here
  beside_begins rest (beside_there h) = beside_there (beside_begins rest h)

  pub applies_begins : (rule : Rule) (front rest : List Structure) → Applies g rule (front ++ rest) → Applies g rule front
  applies_begins rule front rest ok = falls g.system (λ c a. grows g.system by_part a) ok
    where
      by_part : (c : Claim) → Parts g.paths rule front c → Whole g rule (front ++ rest) c
      by_part c (of_rule _ h) = given_claim c (of_rule c h)
      by_part _ (of_daughter place m c h x) = given_claim _ (of_daughter place m c (beside_begins rest h) x)

  -- law 6: where daughters' shapes agree with their full structures and the mother's full structure exists,
  -- the rule applies to the shapes, and the mother's shape agrees with it
  daughter_agrees : {place : Path} {m : Structure} {places : List Path} {ms fs : List Structure} → Along (Agrees g) ms fs → Beside place m places ms → (f : Structure) × Beside place f places fs × Agrees g m f
  daughter_agrees along_none h = elim h [ ]
  daughter_agrees (along_more {y = f} r rs) (beside_here) = (f, beside_here, r)
  daughter_agrees (along_more r rs) (beside_there h) = let z = daughter_agrees rs h in (z.0, beside_there z.1, z.2)

  pub whole_agrees : (rule : Rule) {ms fs : List Structure} → Along (Agrees g) ms fs → {c : Claim} → Whole g rule ms c → Whole g rule fs c
  whole_agrees rule {ms} {fs} o a = grows g.system by_part a
    where
      by_part : (c : Claim) → Parts g.paths rule ms c → Whole g rule fs c
      by_part c (of_rule _ h) = given_claim c (of_rule c h)
      by_part _ (of_daughter place m c h x) =
          let z = daughter_agrees o h in
          moved g.system place (λ d y. given_claim _ (of_daughter place z.0 d z.1 y)) (grows g.system (λ d y. kept_claim y) (z.2 c x))

  pub agrees_applies : (rule : Rule) (ms fs : List Structure) (f : Structure) → Along (Agrees g) ms fs → IsFull g rule fs f → Applies g rule ms
  agrees_applies rule ms fs f o full = falls g.system (λ c a. whole_agrees rule o a) full.0

  -- a full structure stands for its mother's closure
  pub full_meant : (rule : Rule) (fs : List Structure) (f : Structure) → IsFull g rule fs f → {c : Claim} → Mother g rule fs c → Meant g f c
  full_meant rule fs f full a = part_meant g.system g.paths (kept_ends (closure_ends g.system)) full.1 a

  pub meant_full : (rule : Rule) (fs : List Structure) (f : Structure) → IsFull g rule fs f → {c : Claim} → Meant g f c → Mother g rule fs c
  meant_full rule fs f full a = meant_part g.system g.paths full.1 a

  -- a shape stands for the abstraction of its mother
  pub shape_meant : (claims : Claim → Type 0) (m : Structure) → HasEnds claims → IsAbstract g claims m → {c : Claim} → Abstract g claims c → Meant g m c
  shape_meant claims m ends is a = part_meant g.system g.paths (kept_ends ends) is a

  pub meant_shape : (claims : Claim → Type 0) (m : Structure) → IsAbstract g claims m → {c : Claim} → Meant g m c → Abstract g claims c
  meant_shape claims m is a = meant_part g.system g.paths is a

  pub mother_agrees : (rule : Rule) (ms fs : List Structure) (m f : Structure) → Along (Agrees g) ms fs → IsFull g rule fs f → IsShape g rule ms m → Agrees g m f
  mother_agrees rule ms fs m f o full shape c x =
      let up : Kept (restrictors_cut g) (Mother g rule fs) c = keeps_more (λ d y. trimmed_grows g.system (λ e z. whole_agrees rule o z) y) (says_of g.system g.paths shape.1 c x) in
      given_claim c (keeps_more (λ d y. full_meant rule fs f full y) up)

  -- a leaf's shape agrees with its full structure, and so does what subsumes a shape that does
  pub leaf_agrees : (m f : Structure) → IsAbstract g (Meant g f) m → Agrees g m f
  leaf_agrees m f is c x = given_claim c (says_of g.system g.paths is c x)

  pub over_agrees : (n m f : Structure) → over g.system n m ≡ true → Agrees g m f → Agrees g n f
  over_agrees n m f h agrees c x = grows g.system agrees (over_says g.system g.paths h c x)

  -- the two later closures of a mother are consistent where the first is
  pub mother_consistent : (rule : Rule) (ms : List Structure) → Applies g rule ms → AreConsistent g.system (Mother g rule ms)
  mother_consistent rule ms ok = falls g.system (λ c a. trimmed_inside g.system a) ok

  pub shape_consistent : (rule : Rule) (ms : List Structure) → Applies g rule ms → AreConsistent g.system (Abstract g (Mother g rule ms))
  shape_consistent rule ms ok = falls g.system (λ c a. trimmed_inside g.system a) (mother_consistent rule ms ok)
