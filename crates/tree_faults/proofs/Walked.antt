-- The steps of a walk over the lexical trees of a tree.
use Rattle.std.specs.Prelude.{ℕ, zero, suc, ◌≡◌, ◌<◌, ◌≤◌, ◌+◌, ◌⊎◌, All, List, [], ◌∷◌, ◌++◌, Option, Some, length, map, take, replicate, get_or, slice_get}
use Rattle.std.proofs.Common.{inl, inr, sym, ◌∙◌, ap, subst, arith}
use Rattle.std.proofs.lemmas.List.{length-map, map-append, take_all, take_more}
use Rattle.std.proofs.lemmas.List.Elements.{All-head, All-tail, All-nil, All-cons, All-push, All-weaker}
use Rattle.derivation.specs.Trees.{Derivation, Daughters, lexical, phrase}
use Rattle.derivation.specs.Views.{derivation_of, in_order}
use Rattle.derivation.specs.declared.Tree.{Tree}
use Rattle.tree_model.specs.Lexical.{Word, Words}
use Rattle.tree_model.specs.Trees.{LeavesAre, leaf_is, leaves_are, AllLeavesAre, no_leaves, more_leaves}
use Rattle.tree_faults.specs.Nodes.{Place, IsDaughterAt, daughter_here, daughter_later, ComesBefore}
use Rattle.tree_faults.specs.Spelled.{IsSpelled, AreSpelled, FailsWithin, IsLeafAt, leaf_here, leaf_below, IsFirstMisspelled}
use Rattle.tree_faults.specs.declared.opened.Opened.{Opened}
use Rattle.tree_faults.specs.declared.endings.LeafFault.{LeafFault}
use Rattle.tree_faults.specs.declared.misspelled.Next.TheVariants.{Down, Spelled, Over}
use Rattle.tree_faults.specs.Inner.Chains.{tree_of, IsNext, IsBelow, next_number, place_below, next_place, HoldsPassed, left_of}
use Rattle.tree_faults.specs.Inner.Walks.{daughters_in, open_of, HasPassed, FailsNext, Follows, IsWalking}
use Rattle.tree_faults.proofs.Chains.{next_low, down, up, along, leaf_goes, stands_next, before_next, down_less, past_less, up_less}

-- trees whose leaves are such
module _ (P : Derivation → Type 0) where
  mutual
    pub leaf_of : {t leaf : Derivation} {place : Place} → LeavesAre P t → IsLeafAt t place leaf → P leaf
    leaf_of (leaf_is x) leaf_here = x
    leaf_of (leaves_are xs) (leaf_below d at) = daughter_leaf xs d at

    daughter_leaf : {ds : Daughters} {n : ℕ} {d leaf : Derivation} {place : Place} → AllLeavesAre P ds → IsDaughterAt ds n d → IsLeafAt d place leaf → P leaf
    daughter_leaf no_leaves x at = elim x [ ]
    daughter_leaf (more_leaves x xs) daughter_here at = leaf_of x at
    daughter_leaf (more_leaves x xs) (daughter_later d) at = daughter_leaf xs d at

  passed_leaf : (ds : List Derivation) (k n : ℕ) (d : Derivation) → AllLeavesAre P (in_order (take k ds)) → n < k → slice_get ds n ≡ Some d → LeavesAre P d
  passed_leaf [] k n d h low e = absurd (cc)
  passed_leaf (x ∷ xs) zero n d h low e = absurd (omega (arith, low))
  passed_leaf (x ∷ xs) (suc k) zero d (more_leaves a more) low e = let same : x ≡ d = cc in subst (LeavesAre P) same a
  passed_leaf (x ∷ xs) (suc k) (suc n) d (more_leaves a more) low e = passed_leaf xs k n d more (omega (arith, low)) e

  one_more : (ds : List Derivation) (k : ℕ) (d : Derivation) → AllLeavesAre P (in_order (take k ds)) → slice_get ds k ≡ Some d → LeavesAre P d → AllLeavesAre P (in_order (take (suc k) ds))
  one_more [] k d h e a = absurd (cc)
  one_more (x ∷ xs) zero d h e a = let same : d ≡ x = cc in more_leaves (subst (LeavesAre P) same a) no_leaves
  one_more (x ∷ xs) (suc k) d (more_leaves b bs) e a = more_leaves b (one_more xs k d bs e a)

  leaves_next : (ds : List Derivation) (k : ℕ) (d : Derivation) → slice_get ds k ≡ Some d → AllLeavesAre P (in_order ds) → LeavesAre P d
  leaves_next [] k d e h = absurd (cc)
  leaves_next (x ∷ xs) zero d e (more_leaves a more) = let same : x ≡ d = cc in subst (LeavesAre P) same a
  leaves_next (x ∷ xs) (suc k) d e (more_leaves a more) = leaves_next xs k d e more

  all_leaves : {rule : ℕ} {ds : Daughters} → LeavesAre P (phrase rule ds) → AllLeavesAre P ds
  all_leaves (leaves_are h) = h

  pub next_leaves : (o : Opened) (d : Derivation) → IsNext open_of o d → LeavesAre P (tree_of open_of o) → LeavesAre P d
  next_leaves o d n h = leaves_next (daughters_in o) o.passed d n (all_leaves h)

  pub below_leaves : (whole : Derivation) (os : List Opened) (last : Opened) → IsBelow open_of whole os last → LeavesAre P whole → LeavesAre P (tree_of open_of last)
  below_leaves whole [] last h w = subst (LeavesAre P) h w
  below_leaves whole (o ∷ os) last h w = below_leaves h.0 os last h.3 (next_leaves o h.0 h.2 (subst (LeavesAre P) h.1 w))

-- what holds of a phrase holds of it once more
pub same_tree : (a b : Opened) → a.rule ≡ b.rule → a.daughters.now ≡ b.daughters.now → tree_of open_of a ≡ tree_of open_of b
same_tree a b r d = ap (λ rule. phrase rule (in_order (daughters_in a))) r ∙ ap (λ ts. phrase b.rule (in_order (map derivation_of ts))) d

pub here_low : (o : Opened) (d : Derivation) → IsNext open_of o d → o.passed < length o.daughters.now
here_low o d n = let low = next_low open_of o d n in let long = length-map o.daughters.now derivation_of in omega (arith, low, long)

-- the places of daughters that come next, one phrase more
pub place_more : (os : List Opened) (i : ℕ) (o : Opened) (x : ℕ) (place new : Place) → i < length os → o ≡ get_or os i o → x ≡ o.passed + 1 → place ≡ place_below open_of (take i os) → new ≡ place ++ x ∷ [] → new ≡ place_below open_of (take (i + 1) os)
place_more os i o x place new low at is so far =
    let more : take (i + 1) os ≡ take i os ++ o ∷ [] = take_more os i o low ∙ ap (λ y. take i os ++ y ∷ []) (sym at) in
    far ∙ ap (λ l. l ++ x ∷ []) so ∙ ap (λ n. place_below open_of (take i os) ++ n ∷ []) is ∙ sym (ap (place_below open_of) more ∙ map-append (next_number open_of) (take i os) (o ∷ []))

-- in a phrase that waits a daughter comes next
pub waits_low : (whole : Derivation) (os : List Opened) (last : Opened) → IsBelow open_of whole os last → All (λ (o : Opened). o.passed < length o.daughters.now) os
waits_low whole [] last h = All-nil (λ (o : Opened). o.passed < length o.daughters.now)
waits_low whole (o ∷ os) last h = All-cons (λ (o : Opened). o.passed < length o.daughters.now) o os (here_low o h.0 h.2) (waits_low h.0 os last h.3)

module _ (words : Words) where
  passed_holds : (o : Opened) → HasPassed words o → HoldsPassed open_of IsLeafAt (IsSpelled words) o
  passed_holds o h n d p u low e at = leaf_of (IsSpelled words) (passed_leaf (IsSpelled words) (daughters_in o) o.passed n d h low e) at

  passed_none : (o : Opened) → o.passed ≡ 0 → HasPassed words o
  passed_none o none = subst (λ k. AllLeavesAre (IsSpelled words) (in_order (take k (daughters_in o)))) (sym none) no_leaves

  passed_past : (o new : Opened) (d : Derivation) → HasPassed words o → IsNext open_of o d → LeavesAre (IsSpelled words) d → new.daughters.now ≡ o.daughters.now → new.passed ≡ o.passed + 1 → HasPassed words new
  passed_past o new d h n a same passed =
      let more = one_more (IsSpelled words) (daughters_in o) o.passed d h n a in
      let e : suc o.passed ≡ new.passed = omega (arith, passed) in
      subst (λ ts. AllLeavesAre (IsSpelled words) (in_order (take new.passed (map derivation_of ts)))) (sym same)
      (subst (λ k. AllLeavesAre (IsSpelled words) (in_order (take k (daughters_in o)))) e more)

  passed_all : (o : Opened) → HasPassed words o → length o.daughters.now ≤ o.passed → LeavesAre (IsSpelled words) (tree_of open_of o)
  passed_all o h all =
      let long = length-map o.daughters.now derivation_of in
      leaves_are (subst (λ ds. AllLeavesAre (IsSpelled words) (in_order ds)) (take_all o.passed (daughters_in o) (omega (arith, long, all))) h)

  pub walking_begin : (ws : List Opened) (o : Opened) (rule : ℕ) (ds : List Tree) → ws ≡ [] → o.rule ≡ rule → o.daughters.now ≡ ds → o.passed ≡ 0 → IsWalking words (phrase rule (in_order (map derivation_of ds))) ws o
  walking_begin ws o rule ds empty r d none =
      let is : tree_of open_of o ≡ phrase rule (in_order (map derivation_of ds)) = ap (λ x. phrase x (in_order (daughters_in o))) r ∙ ap (λ ts. phrase rule (in_order (map derivation_of ts))) d in
      subst (λ xs. IsWalking words (phrase rule (in_order (map derivation_of ds))) xs o) (sym empty) (record { below = sym is; waits = All-nil (HasPassed words); passed = passed_none o none })

  -- nothing comes before a lexical tree within it
  pub no_leaf : {entry : ℕ} {rules : List ℕ} {said : List Word} {nodes : Option (ℕ × ℕ)} {q : Place} {other : Derivation} → IsLeafAt (lexical entry rules said nodes) q other → ComesBefore q [] → IsSpelled words other
  no_leaf leaf_here c = elim c [ ]

  module _ (whole : Derivation) where
    pub walk_down : (os new : List Opened) (o below : Opened) → IsWalking words whole os o → Follows words o (Down below) → new ≡ os ++ o ∷ [] → IsWalking words whole new below
    walk_down os new o below w f is = subst (λ ws. IsWalking words whole ws below) (sym is) (record {
      below = down open_of whole os o below w.below f.0;
      waits = All-push (HasPassed words) os o w.waits w.passed;
      passed = passed_none below f.1;
    })

    pub walk_down_less : (os new : List Opened) (o below : Opened) → Follows words o (Down below) → new ≡ os ++ o ∷ [] → left_of open_of new below < left_of open_of os o
    walk_down_less os new o below f is = subst (λ ws. left_of open_of ws below < left_of open_of os o) (sym is) (down_less open_of os o below f.0 f.1)

    module _ (os : List Opened) (o new : Opened) (rule : new.rule ≡ o.rule) (same : new.daughters.now ≡ o.daughters.now) (past : o.passed < length o.daughters.now → new.passed ≡ o.passed + 1) where
      number : (d : Derivation) → IsNext open_of o d → new.passed ≡ o.passed + 1
      number d n = past (here_low o d n)

      pub walk_past : IsWalking words whole os o → Follows words o Spelled → IsWalking words whole os new
      walk_past w f = record {
        below = along open_of whole os o new w.below (sym (same_tree new o rule same));
        waits = w.waits;
        passed = passed_past o new f.0 w.passed f.1 f.2 same (number f.0 f.1);
      }

      pub walk_past_less : Follows words o Spelled → left_of open_of os new < left_of open_of os o
      walk_past_less f = past_less open_of os o new f.0 f.1 (ap (map derivation_of) same) (number f.0 f.1)

      pub walk_up : (all : List Opened) (last : Opened) → all ≡ os ++ o ∷ [] → IsWalking words whole all last → Follows words last Over → IsWalking words whole os new
      walk_up all last is w f = go (subst (λ ws. IsWalking words whole ws last) is w)
        where
          split : (xs : List Opened) → All (HasPassed words) (xs ++ o ∷ []) → All (HasPassed words) xs × HasPassed words o
          split [] h = (All-nil (HasPassed words), All-head (HasPassed words) o [] h)
          split (x ∷ xs) h =
              let rest = split xs (All-tail (HasPassed words) x (xs ++ o ∷ []) h) in
              (All-cons (HasPassed words) x xs (All-head (HasPassed words) x (xs ++ o ∷ []) h) rest.0, rest.1)

          go : IsWalking words whole (os ++ o ∷ []) last → IsWalking words whole os new
          go v =
              let above = up open_of whole os o last v.below in
              let passed = split os v.waits in
              let d = tree_of open_of last in
              record {
                below = along open_of whole os o new above.0 (sym (same_tree new o rule same));
                waits = passed.0;
                passed = passed_past o new d passed.1 above.1 (passed_all last v.passed f) same (number d above.1);
              }

      pub walk_up_less : (all : List Opened) (last : Opened) → all ≡ os ++ o ∷ [] → IsWalking words whole all last → left_of open_of os new < left_of open_of all last
      walk_up_less all last is w = subst (λ ws. left_of open_of os new < left_of open_of ws last) (sym is) (up_less open_of os o last new (ap (map derivation_of) same) (number (tree_of open_of last) next))
        where
          next : IsNext open_of o (tree_of open_of last)
          next = (up open_of whole os o last (subst (λ ws. IsBelow open_of whole ws last) is w.below)).1

    pub walk_over : (os : List Opened) (o : Opened) → length os ≡ 0 → IsWalking words whole os o → Follows words o Over → AreSpelled words whole
    walk_over [] o none w f = subst (LeavesAre (IsSpelled words)) (sym w.below) (passed_all o w.passed f)
    walk_over (x ∷ xs) o none w f = absurd (omega (arith, none))

    -- a lexical tree that fails, and those before it
    module _ (os : List Opened) (o : Opened) (fault : LeafFault) (w : IsWalking words whole os o) (f : FailsNext words o fault) where
      abbrev leaf : Derivation
      leaf = lexical f.entry f.rules f.said f.nodes

      waits : All (HoldsPassed open_of IsLeafAt (IsSpelled words)) os
      waits = All-weaker (HasPassed words) (HoldsPassed open_of IsLeafAt (IsSpelled words)) passed_holds os w.waits

      first_spelled : (other : Derivation) → IsSpelled words other ⊎ ((q : Place) × IsLeafAt leaf q other × ComesBefore q []) → IsSpelled words other
      first_spelled other (inl x) = x
      first_spelled other (inr z) = no_leaf z.1 z.2

      pub fails_low : o.passed < length o.daughters.now
      fails_low = here_low o leaf f.next

      pub walk_fault : (place : Place) (instance : ℕ) → place ≡ next_place open_of os o ++ replicate fault.depth 1 → instance ≡ fault.instance → IsFirstMisspelled words whole place instance
      walk_fault place instance is same = record {
        entry = f.entry;
        rules = f.rules;
        said = f.said;
        nodes = f.nodes;
        top = next_place open_of os o;
        leaf = stands_next open_of IsLeafAt leaf_goes whole os o leaf [] leaf w.below f.next leaf_here;
        before = λ q other at c. first_spelled other (before_next open_of IsLeafAt leaf_goes (IsSpelled words) whole os o leaf [] q other w.below waits (passed_holds o w.passed) f.next at c);
        inner = replicate fault.depth 1;
        fails = subst (FailsWithin words f.entry f.rules f.said (replicate fault.depth 1)) (sym same) f.fails;
        place_is = is;
      }
