-- What the steps of the code do.
use Rattle.std.proofs.Common.{ℕ, zero, suc, ◌≡◌, ◌≤◌, ◌<◌, ◌+◌, ◌==◌, ◌⊎◌, inl, inr, Bool, true, false, Some, None, List, [], ◌∷◌, ◌++◌, length, map, drop, slice_index_or, refl, sym, ◌∙◌, ap, subst, arith, eq-eqb}
use Rattle.std.proofs.lemmas.Bool.{eqb-true}
use Rattle.std.proofs.lemmas.List.{length-map, get_or-map, drop_all}
use Rattle.std.proofs.Math.Seq.{drop-cons}
use Rattle.std.specs.Prelude.{All}
use Rattle.fs_graph.specs.declared.facts.Feat.{Feat}
use Rattle.fs_graph.specs.Facts.{path_of}
use Rattle.fs_closing.specs.declared.nodes.Nodes.{Nodes}
use Rattle.fs_model.specs.Claims.{Path, Claim, System, IsBare, Has, here}
use Rattle.fs_model.specs.Sources.{Told}
use Rattle.fs_model.specs.Table.{Table, NodeClaim, is_there, is_same, is_under, from, by_node, by_merge, by_type, Follows, stated, same_back, under_same, under_higher}
use Rattle.fs_model.specs.Steps.{Grows, Links, Lowers}
use Rattle.fs_model.proofs.StepLemmas.{Closes-drop}
use Rattle.fs_model.proofs.Ends.{clash}
use Rattle.type_hierarchy.specs.Table.{is_below}
use Rattle.fs_closing.specs.declared.cells.Cell.{Cell}
use Rattle.fs_closing.specs.declared.tasks.Entry.{Entry}
use Rattle.fs_closing.specs.Joined.{IsJoined}
use Rattle.fs_closing.specs.NodeSteps.{KeepsArcs, Retypes, AddsDepth}
use Rattle.fs_closing.specs.NodeTable.{depth_of}
use Rattle.fs_closing.specs.Rules.{Rule, Grammar, no_rule, facts_in, rules_with_facts, rules_above, system_of, HaveSame}
use Rattle.fs_closing.specs.declared.tasks.Tasks.{Tasks}
use Rattle.fs_closing.specs.Work.{entry_claims, work_of}
use Rattle.fs_closing.specs.Keeps.{Deep, Turns, Refutes, IsSameWork, begin, arc_claims, IsHeld, PushesFacts, deep_of, Leads, Clashes, StepsTo, Reaches}
use Rattle.fs_closing.proofs.HasLemmas.{Has-left, Has-right, Has-either, Has-one, Has-map, Has-of_map}
use Rattle.fs_closing.proofs.RangeLemmas.{Has-filter, Has-of_filter}
use Rattle.fs_closing.proofs.RuleRowLemmas.{rule_in, rule_has}
use Rattle.fs_closing.proofs.KeepsLemmas.{same_itself, same_beside, same_swapped, joined_same, Turns-on, Turns-order, Turns-beside, Turns-advance, Turns-links, Turns-grows, Turns-back, Refutes-after, Refutes-order, Refutes-beside}

pub attach_found : (s : System) (x : Deep) (n f m to : ℕ) (work work' : List NodeClaim) → x.table.live n ≡ n → Some m ≡ x.table.arc n f →
    IsJoined (is_same m [] to [] ∷ []) work work' → Turns s x (is_same n (f ∷ []) to [] ∷ work) x work'
attach_found s x n f m to work work' stays arc joined =
    Turns-order s x x _ _ work' _ (same_itself (is_same n (f ∷ []) to [] ∷ work))
    (Turns-advance s x n f m [] (is_same 0 [] to []) work (ap (λ k. x.table.arc k f) stays ∙ sym arc)) (joined_same _ work work' joined)

pub attach_linked : (s : System) (x y : Deep) (n f to : ℕ) (work : List NodeClaim) → x.table.live n ≡ n → None ≡ x.table.arc n f →
    Links x.table y.table n f to → ((k : ℕ) → y.depth k ≡ x.depth k) →
    Turns s x (is_same n (f ∷ []) to [] ∷ work) y (is_under n [] (s.introducer f) ∷ work)
attach_linked s x y n f to work stays none links depth = Turns-links s x y n f to work stays (sym none) links depth

pub Turns-none : (s : System) (x : Deep) (work : List NodeClaim) → Turns s x work x work
Turns-none s x work extra g w old = (w, old)

moved_back : (a b w : List NodeClaim) → IsSameWork ((a ++ b) ++ w) ((a ++ w) ++ b)
moved_back a b w = record { into = λ c h. into c a b w h; back = λ c h. into c a w b h }
  where
    into : (c : NodeClaim) (a b w : List NodeClaim) → Has c ((a ++ b) ++ w) → Has c ((a ++ w) ++ b)
    into c a b w h = go (Has-either c (a ++ b) w h)
      where
        inner : Has c a ⊎ Has c b → Has c ((a ++ w) ++ b)
        inner (inl i) = Has-left c (a ++ w) b (Has-left c a w i)
        inner (inr i) = Has-right c (a ++ w) b i

        go : Has c (a ++ b) ⊎ Has c w → Has c ((a ++ w) ++ b)
        go (inl i) = inner (Has-either c a b i)
        go (inr i) = Has-left c (a ++ w) b (Has-right c a w i)

-- one claim of several is worked off
pub turn_one : (s : System) (x y z : Deep) (start : List NodeClaim) (k : NodeClaim) (rest a b : List NodeClaim) →
    Turns s x start y ((k ∷ rest) ++ a) → Turns s y (k ∷ a) z b → Turns s x start z (rest ++ b)
turn_one s x y z start k rest a b one two =
    Turns-on s x y z start ((k ∷ rest) ++ a) (rest ++ b) one
    (Turns-order s y z ((k ∷ rest) ++ a) ((k ∷ a) ++ rest) (rest ++ b) (b ++ rest)
    (same_beside (k ∷ []) (k ∷ []) (rest ++ a) (a ++ rest) (same_itself (k ∷ [])) (same_swapped rest a))
    (Turns-beside s y z (k ∷ a) b rest two) (same_swapped b rest))

-- the same, where that claim shows a clash
pub refute_one : (s : System) (x y : Deep) (start : List NodeClaim) (k : NodeClaim) (rest a : List NodeClaim) →
    Turns s x start y ((k ∷ rest) ++ a) → Refutes s y (k ∷ a) → Refutes s x start
refute_one s x y start k rest a one two =
    Refutes-after s x y start ((k ∷ rest) ++ a) one
    (Refutes-order s y ((k ∷ rest) ++ a) ((k ∷ a) ++ rest)
    (same_beside (k ∷ []) (k ∷ []) (rest ++ a) (a ++ rest) (same_itself (k ∷ [])) (same_swapped rest a))
    (Refutes-beside s y (k ∷ a) rest two))

-- a new node, and a type for the node that leads to it
pub grown_bound : (s : System) (x y z : Deep) (n l f m : ℕ) (p : Path) (c : NodeClaim) (work work' : List NodeClaim) → IsBare s →
    l ≡ x.table.live n → None ≡ x.table.arc l f → Grows s.top x.table y.table l f → m ≡ x.table.size →
    ((k : ℕ) → k < x.table.size → y.depth k ≡ x.depth k) → y.depth m ≡ x.depth l + 1 →
    Turns s y (is_under l [] (s.introducer f) ∷ work) z work' → Turns s x (begin n (f ∷ p) c ∷ work) z (begin m p c ∷ work')
grown_bound s x y z n l f m p c work work' bare is_l none grows is_m old new bound =
    Turns-on s x y z (begin n (f ∷ p) c ∷ work) (begin m p c ∷ is_under l [] (s.introducer f) ∷ work) (begin m p c ∷ work')
    (Turns-grows s bare x y n l f m p c work (sym is_l) (sym none) grows is_m old new)
    (Turns-order s y z (begin m p c ∷ is_under l [] (s.introducer f) ∷ work) ((is_under l [] (s.introducer f) ∷ work) ++ begin m p c ∷ [])
    (begin m p c ∷ work') (work' ++ begin m p c ∷ []) (same_swapped (begin m p c ∷ []) (is_under l [] (s.introducer f) ∷ work))
    (Turns-beside s y z (is_under l [] (s.introducer f) ∷ work) work' (begin m p c ∷ []) bound)
    (same_swapped work' (begin m p c ∷ [])))

pub grown_clash : (s : System) (x y : Deep) (n l f m : ℕ) (p : Path) (c : NodeClaim) (work : List NodeClaim) → IsBare s →
    l ≡ x.table.live n → None ≡ x.table.arc l f → Grows s.top x.table y.table l f → m ≡ x.table.size →
    ((k : ℕ) → k < x.table.size → y.depth k ≡ x.depth k) → y.depth m ≡ x.depth l + 1 →
    Refutes s y (is_under l [] (s.introducer f) ∷ work) → Refutes s x (begin n (f ∷ p) c ∷ work)
grown_clash s x y n l f m p c work bare is_l none grows is_m old new clashed =
    Refutes-after s x y (begin n (f ∷ p) c ∷ work) (begin m p c ∷ is_under l [] (s.introducer f) ∷ work)
    (Turns-grows s bare x y n l f m p c work (sym is_l) (sym none) grows is_m old new)
    (Refutes-order s y (begin m p c ∷ is_under l [] (s.introducer f) ∷ work) ((is_under l [] (s.introducer f) ∷ work) ++ begin m p c ∷ [])
    (same_swapped (begin m p c ∷ []) (is_under l [] (s.introducer f) ∷ work))
    (Refutes-beside s y (is_under l [] (s.introducer f) ∷ work) (begin m p c ∷ []) clashed))

-- a fact of a type stands in a rule of the type
pub facts_of_rule : (rules : List Rule) (t : ℕ) (c : Claim) → Has c (facts_in rules t) →
    (j : ℕ) × (j < length rules) × ((slice_index_or rules j no_rule).ty ≡ t) × Has c (slice_index_or rules j no_rule).claims
facts_of_rule [] t c h = elim h [ ]
facts_of_rule (r ∷ rules) t c h = go (r.ty == t) refl h (facts_of_rule rules t c)
  where
    later : ((j : ℕ) × (j < length rules) × ((slice_index_or rules j no_rule).ty ≡ t) × Has c (slice_index_or rules j no_rule).claims) →
        (j : ℕ) × (j < length (r ∷ rules)) × ((slice_index_or (r ∷ rules) j no_rule).ty ≡ t) × Has c (slice_index_or (r ∷ rules) j no_rule).claims
    later (j, a, b, d) = (suc j, omega arith, b, d)

    go : (b : Bool) → (r.ty == t) ≡ b → Has c (facts_in (r ∷ rules) t) →
        (Has c (facts_in rules t) → (j : ℕ) × (j < length rules) × ((slice_index_or rules j no_rule).ty ≡ t) × Has c (slice_index_or rules j no_rule).claims) →
        (j : ℕ) × (j < length (r ∷ rules)) × ((slice_index_or (r ∷ rules) j no_rule).ty ≡ t) × Has c (slice_index_or (r ∷ rules) j no_rule).claims
    go true is i rest = which (Has-either c r.claims (facts_in rules t)
        (subst (Has c) (ap (λ b. elim b [ true ↦ r.claims ++ facts_in rules t | false ↦ facts_in rules t ]) is) i))
      where
        which : Has c r.claims ⊎ Has c (facts_in rules t) →
            (j : ℕ) × (j < length (r ∷ rules)) × ((slice_index_or (r ∷ rules) j no_rule).ty ≡ t) × Has c (slice_index_or (r ∷ rules) j no_rule).claims
        which (inl x) = (0, omega arith, eqb-true r.ty t is, x)
        which (inr x) = later (rest x)
    go false is i rest = later (rest (subst (Has c) (ap (λ b. elim b [ true ↦ r.claims ++ facts_in rules t | false ↦ facts_in rules t ]) is) i))

pub rule_of_fact : (rules : List Rule) (j : ℕ) (c : Claim) → j < length rules → Has c (slice_index_or rules j no_rule).claims →
    Has c (facts_in rules (slice_index_or rules j no_rule).ty)
rule_of_fact [] j c h i = absurd (omega arith)
rule_of_fact (r ∷ rules) zero c h i =
    subst (Has c) (sym (ap (λ b. elim b [ true ↦ r.claims ++ facts_in rules r.ty | false ↦ facts_in rules r.ty ]) (eq-eqb r.ty r.ty refl)))
    (Has-left c r.claims _ i)
rule_of_fact (r ∷ rules) (suc j) c h i = go (r.ty == (slice_index_or rules j no_rule).ty) refl (rule_of_fact rules j c (omega arith) i)
  where
    t : ℕ
    t = (slice_index_or rules j no_rule).ty

    go : (b : Bool) → (r.ty == (slice_index_or rules j no_rule).ty) ≡ b → Has c (facts_in rules (slice_index_or rules j no_rule).ty) →
        Has c (facts_in (r ∷ rules) (slice_index_or rules j no_rule).ty)
    go true is x = subst (Has c)
        (sym (ap (λ b. elim b [ true ↦ r.claims ++ facts_in rules (slice_index_or rules j no_rule).ty | false ↦ facts_in rules (slice_index_or rules j no_rule).ty ]) is))
        (Has-right c r.claims _ x)
    go false is x = subst (Has c)
        (sym (ap (λ b. elim b [ true ↦ r.claims ++ facts_in rules (slice_index_or rules j no_rule).ty | false ↦ facts_in rules (slice_index_or rules j no_rule).ty ]) is)) x

-- no rule is above a type that an old one is at or below, but those that are above the old one too
pub pushes_none : (s : System) (node ty old other : ℕ) (work : List NodeClaim) → (ty ≡ old) ⊎ (ty ≡ other) → PushesFacts s node ty old other work work
pushes_none s node ty old other work is = record { facts = λ x c below has. facts x c below is; rest = λ c h. h; only = λ c h. inr h }
  where
    facts : (x : ℕ) (c : Claim) → s.is_below ty x ≡ true → (ty ≡ old) ⊎ (ty ≡ other) →
        (s.is_below old x ≡ true) ⊎ ((s.is_below other x ≡ true) ⊎ Has (from node c) work)
    facts x c below (inl e) = inl (subst (λ t. s.is_below t x ≡ true) e below)
    facts x c below (inr e) = inr (inl (subst (λ t. s.is_below t x ≡ true) e below))

-- the rules of a list were taken, each pushed unless one of two old types is at or below its type
pub record TakesRules (g : Grammar) (node old other : ℕ) (taken : List ℕ) (work work' : List NodeClaim) : Type 0 where
  pub facts : (j : ℕ) → Has j taken → IsHeld g old other (slice_index_or g.rules j no_rule).ty ⊎
      ((c : Claim) → Has c (slice_index_or g.rules j no_rule).claims → Has (from node c) work')
  pub rest : (c : NodeClaim) → Has c work → Has c work'
  pub only : (c : NodeClaim) → Has c work' →
      ((j : ℕ) × (d : Claim) × Has j taken × Has d (slice_index_or g.rules j no_rule).claims × (c ≡ from node d)) ⊎ Has c work

pub takes_none : (g : Grammar) (node old other : ℕ) (work : List NodeClaim) → TakesRules g node old other [] work work
takes_none g node old other work = record { facts = λ j h. elim h [ ]; rest = λ c h. h; only = λ c h. inr h }

drop_none : {X : Type 0} (xs : List X) → drop 0 xs ≡ xs
drop_none [] = refl
drop_none (x ∷ xs) = refl

pub takes_more : (g : Grammar) (node old other j : ℕ) (taken taken' : List ℕ) (work now work' : List NodeClaim) (entry : Entry) →
    taken' ≡ taken ++ j ∷ [] → entry.node ≡ node → entry.rule ≡ j → entry.from ≡ 0 → TakesRules g node old other taken work now →
    (IsHeld g old other (slice_index_or g.rules j no_rule).ty × (work' ≡ now)) ⊎ IsJoined (entry_claims g.rules entry) now work' →
    TakesRules g node old other taken' work work'
takes_more g node old other j taken taken' work now work' entry is en er ef before step = record {
  facts = λ k h. facts step k (Has-either k taken (j ∷ []) (subst (Has k) is h));
  rest = λ c h. kept step c (before.rest c h);
  only = λ c h. only step c h;
}
  where
    claims_are : entry_claims g.rules entry ≡ map (from node) (slice_index_or g.rules j no_rule).claims
    claims_are =
        ap (λ n. map (from n) (drop entry.from (slice_index_or g.rules entry.rule no_rule).claims)) en
        ∙ ap (λ i. map (from node) (drop entry.from (slice_index_or g.rules i no_rule).claims)) er
        ∙ ap (λ i. map (from node) (drop i (slice_index_or g.rules j no_rule).claims)) ef
        ∙ ap (map (from node)) (drop_none (slice_index_or g.rules j no_rule).claims)

    kept : (IsHeld g old other (slice_index_or g.rules j no_rule).ty × (work' ≡ now)) ⊎ IsJoined (entry_claims g.rules entry) now work' →
        (c : NodeClaim) → Has c now → Has c work'
    kept (inl e) c h = subst (Has c) (sym e.1) h
    kept (inr e) c h = e.from_old c h

    facts : (IsHeld g old other (slice_index_or g.rules j no_rule).ty × (work' ≡ now)) ⊎ IsJoined (entry_claims g.rules entry) now work' →
        (k : ℕ) → Has k taken ⊎ Has k (j ∷ []) → IsHeld g old other (slice_index_or g.rules k no_rule).ty ⊎
        ((c : Claim) → Has c (slice_index_or g.rules k no_rule).claims → Has (from node c) work')
    facts st k (inl h) = go (before.facts k h)
      where
        go : IsHeld g old other (slice_index_or g.rules k no_rule).ty ⊎ ((c : Claim) → Has c (slice_index_or g.rules k no_rule).claims → Has (from node c) now) →
            IsHeld g old other (slice_index_or g.rules k no_rule).ty ⊎ ((c : Claim) → Has c (slice_index_or g.rules k no_rule).claims → Has (from node c) work')
        go (inl a) = inl a
        go (inr a) = inr (λ c i. kept st (from node c) (a c i))
    facts (inl e) k (inr h) = inl (subst (λ i. IsHeld g old other (slice_index_or g.rules i no_rule).ty) (sym (Has-one k j h)) e.0)
    facts (inr e) k (inr h) =
        inr (λ c i. e.from_new (from node c) (subst (Has (from node c)) (sym claims_are)
        (Has-map (from node) c _ (subst (λ i. Has c (slice_index_or g.rules i no_rule).claims) (Has-one k j h) i))))

    wider : (c : NodeClaim) → ((k : ℕ) × (d : Claim) × Has k taken × Has d (slice_index_or g.rules k no_rule).claims × (c ≡ from node d)) ⊎ Has c work →
        ((k : ℕ) × (d : Claim) × Has k taken' × Has d (slice_index_or g.rules k no_rule).claims × (c ≡ from node d)) ⊎ Has c work
    wider c (inl (k, d, a, b, e)) = inl (k, d, subst (Has k) (sym is) (Has-left k taken (j ∷ []) a), b, e)
    wider c (inr h) = inr h

    only : (IsHeld g old other (slice_index_or g.rules j no_rule).ty × (work' ≡ now)) ⊎ IsJoined (entry_claims g.rules entry) now work' →
        (c : NodeClaim) → Has c work' →
        ((k : ℕ) × (d : Claim) × Has k taken' × Has d (slice_index_or g.rules k no_rule).claims × (c ≡ from node d)) ⊎ Has c work
    only (inl e) c h = wider c (before.only c (subst (Has c) e.1 h))
    only (inr e) c h = go (e.only c h)
      where
        go : Has c (entry_claims g.rules entry) ⊎ Has c now →
            ((k : ℕ) × (d : Claim) × Has k taken' × Has d (slice_index_or g.rules k no_rule).claims × (c ≡ from node d)) ⊎ Has c work
        go (inl x) =
            let r = Has-of_map (from node) c _ (subst (Has c) claims_are x) in
            inl (j, r.0, subst (Has j) (sym is) (Has-right j taken (j ∷ []) here), r.1, r.2)
        go (inr x) = wider c (before.only c x)

-- rules in another order
pub takes_same : (g : Grammar) (node old other : ℕ) (taken taken' : List ℕ) (work work' : List NodeClaim) → HaveSame taken taken' →
    TakesRules g node old other taken work work' → TakesRules g node old other taken' work work'
takes_same g node old other taken taken' work work' same all = record {
  facts = λ j h. all.facts j (same.back j h);
  rest = all.rest;
  only = λ c h. go c (all.only c h);
}
  where
    go : (c : NodeClaim) → ((j : ℕ) × (d : Claim) × Has j taken × Has d (slice_index_or g.rules j no_rule).claims × (c ≡ from node d)) ⊎ Has c work →
        ((j : ℕ) × (d : Claim) × Has j taken' × Has d (slice_index_or g.rules j no_rule).claims × (c ≡ from node d)) ⊎ Has c work
    go c (inl (j, d, a, b, e)) = inl (j, d, same.to j a, b, e)
    go c (inr h) = inr h

-- all rules above a type were taken
pub takes_all : (g : Grammar) (node ty old other : ℕ) (work work' : List NodeClaim) → TakesRules g node old other (rules_above g.types g.rules ty) work work' →
    PushesFacts (system_of g) node ty old other work work'
takes_all g node ty old other work work' all = record {
  facts = λ x c below has. facts x c below (facts_of_rule g.rules x c has);
  rest = all.rest;
  only = λ c h. only c (all.only c h);
}
  where
    test : ℕ → Bool
    test = λ j. is_below g.types ty (slice_index_or g.rules j no_rule).ty

    facts : (x : ℕ) (c : Claim) → is_below g.types ty x ≡ true →
        ((j : ℕ) × (j < length g.rules) × ((slice_index_or g.rules j no_rule).ty ≡ x) × Has c (slice_index_or g.rules j no_rule).claims) →
        (is_below g.types old x ≡ true) ⊎ ((is_below g.types other x ≡ true) ⊎ Has (from node c) work')
    facts x c below (j, h, is, has) =
        go (all.facts j (Has-filter (λ j. is_below g.types ty (slice_index_or g.rules j no_rule).ty) (rules_with_facts g.rules) j
        (rule_has g.rules j c h has) (ap (is_below g.types ty) is ∙ below)))
      where
        go : IsHeld g old other (slice_index_or g.rules j no_rule).ty ⊎ ((c : Claim) → Has c (slice_index_or g.rules j no_rule).claims → Has (from node c) work') →
            (is_below g.types old x ≡ true) ⊎ ((is_below g.types other x ≡ true) ⊎ Has (from node c) work')
        go (inl (inl a)) = inl (ap (is_below g.types old) (sym is) ∙ a)
        go (inl (inr a)) = inr (inl (ap (is_below g.types other) (sym is) ∙ a))
        go (inr a) = inr (inr (a c has))

    only : (c : NodeClaim) →
        ((j : ℕ) × (d : Claim) × Has j (rules_above g.types g.rules ty) × Has d (slice_index_or g.rules j no_rule).claims × (c ≡ from node d)) ⊎ Has c work →
        ((x : ℕ) × (d : Claim) × (is_below g.types ty x ≡ true) × Has d (facts_in g.rules x) × (c ≡ from node d)) ⊎ Has c work
    only c (inr h) = inr h
    only c (inl (j, d, a, b, e)) =
        let r = Has-of_filter (λ j. is_below g.types ty (slice_index_or g.rules j no_rule).ty) (rules_with_facts g.rules) j a in
        inl ((slice_index_or g.rules j no_rule).ty, d, r.1, rule_of_fact g.rules j d (rule_in g.rules j r.0) b, e)

-- a type is written, and the facts that it brings are put to work
pub lowers_by : (s : System) (t t' : Table) (n u v : ℕ) (work work' extra : List NodeClaim) → Retypes t t' n v → s.meet (t.type_of n) u ≡ Some v →
    PushesFacts s n v (t.type_of n) (t.type_of n) work work' → Lowers s t t' (work ++ extra) (work' ++ extra) n u v
lowers_by s t t' n u v work work' extra retyped meet pushed = record {
  size_is = retyped.size_is;
  live_is = retyped.live_is;
  arc_is = λ k g i. retyped.arc_is k g;
  type_here = retyped.type_here;
  meet_is = meet;
  type_other = λ k i e. retyped.type_other k e;
  work_facts = λ x c below has. facts x c (pushed.facts x c below has);
  work_rest = λ c i. rest c (Has-either c work extra i);
  work_only = λ c i. only c (Has-either c work' extra i);
}
  where
    facts : (x : ℕ) (c : Claim) →
        (s.is_below (t.type_of n) x ≡ true) ⊎ ((s.is_below (t.type_of n) x ≡ true) ⊎ Has (from n c) work') →
        (s.is_below (t.type_of n) x ≡ true) ⊎ Has (from n c) (work' ++ extra)
    facts x c (inl a) = inl a
    facts x c (inr (inl a)) = inl a
    facts x c (inr (inr a)) = inr (Has-left _ work' extra a)

    rest : (c : NodeClaim) → Has c work ⊎ Has c extra → Has c (work' ++ extra)
    rest c (inl a) = Has-left c work' extra (pushed.rest c a)
    rest c (inr a) = Has-right c work' extra a

    only : (c : NodeClaim) → Has c work' ⊎ Has c extra →
        ((x : ℕ) × (d : Claim) × (s.is_below v x ≡ true) × Has d (s.facts_of x) × (c ≡ from n d)) ⊎ Has c (work ++ extra)
    only c (inr a) = inr (Has-right c work extra a)
    only c (inl a) = go (pushed.only c a)
      where
        go : ((x : ℕ) × (d : Claim) × (s.is_below v x ≡ true) × Has d (s.facts_of x) × (c ≡ from n d)) ⊎ Has c work →
            ((x : ℕ) × (d : Claim) × (s.is_below v x ≡ true) × Has d (s.facts_of x) × (c ≡ from n d)) ⊎ Has c (work ++ extra)
        go (inl x) = inl x
        go (inr x) = inr (Has-left c work extra x)

-- the depths with one more
pub depth_added : (nodes nodes' : Nodes) (d : ℕ) → AddsDepth d nodes nodes' →
    ((k : ℕ) → k < nodes.size → depth_of nodes' k ≡ depth_of nodes k) × ((m : ℕ) → m ≡ nodes.size → depth_of nodes' m ≡ d)
depth_added nodes nodes' d adds = (
  (λ k h. adds.others k (λ e. omega (arith, e, h))),
  (λ m e. ap (depth_of nodes') e ∙ adds.here),
)

-- what a call that pushes a rule says, of work
pub takes_step : (g : Grammar) (old other j : ℕ) (tasks tasks' : Tasks) (entry : Entry) →
    (IsHeld g old other (slice_index_or g.rules j no_rule).ty × (tasks' ≡ tasks)) ⊎
    IsJoined (entry_claims g.rules entry) (work_of g.rules tasks) (work_of g.rules tasks') →
    (IsHeld g old other (slice_index_or g.rules j no_rule).ty × (work_of g.rules tasks' ≡ work_of g.rules tasks)) ⊎
    IsJoined (entry_claims g.rules entry) (work_of g.rules tasks) (work_of g.rules tasks')
takes_step g old other j tasks tasks' entry (inl e) = inl (e.0, ap (work_of g.rules) e.1)
takes_step g old other j tasks tasks' entry (inr e) = inr e

-- a type at or below another
pub Turns-below : (s : System) (x : Deep) (n l u : ℕ) (work : List NodeClaim) → l ≡ x.table.live n → s.is_below (x.table.type_of l) u ≡ true →
    Turns s x (is_under n [] u ∷ work) x work
Turns-below s x n l u work is below extra g w old =
    let in_table = old.closes.in_table _ here in
    let merge = subst (λ k. Follows s x.table (work ++ extra) (is_same n [] k [])) (sym is) (stated _ (by_merge n in_table)) in
    let l_in = subst (λ k. k < x.table.size) (sym is) (old.closes.table.live_in n in_table) in
    let l_live : x.table.live l ≡ l = ap x.table.live is ∙ old.closes.table.live_twice n ∙ sym is in (
      w,
      record {
        closes = Closes-drop s (Told g) x.table (is_under n [] u) (work ++ extra) w
            (under_same l n u [] [] (same_back _ _ _ _ merge) (under_higher l (x.table.type_of l) u [] (stated _ (by_type l l_in l_live)) below)) old.closes;
        deep = old.deep;
      },
    )

pub Turns-there : (s : System) (x : Deep) (n : ℕ) (work : List NodeClaim) → Turns s x (is_there n [] ∷ work) x work
Turns-there s x n work extra g w old = (
  w,
  record {
    closes = Closes-drop s (Told g) x.table (is_there n []) (work ++ extra) w (stated _ (by_node n (old.closes.in_table _ here))) old.closes;
    deep = old.deep;
  },
)

pub Refutes-types : (s : System) (x : Deep) (n l u : ℕ) (work : List NodeClaim) → l ≡ x.table.live n → s.meet (x.table.type_of l) u ≡ None →
    Refutes s x (is_under n [] u ∷ work)
Refutes-types s x n l u work is none extra g w old ok =
    clash s (Told g) x.table (work ++ extra) w n u (old.closes.in_table _ here) old.closes
    (subst (λ k. s.meet (x.table.type_of k) u ≡ None) is none) ok

-- a path from its next feature on
pub path_step : (path : List Feat) (i : ℕ) (d : Feat) → i < length path →
    drop i (path_of path) ≡ (slice_index_or path i d).0 ∷ drop (i + 1) (path_of path)
path_step path i d h =
    let within : i < length (path_of path) = omega (arith, length-map path (λ f. f.0)) in
    let at = get_or-map (λ (f : Feat). f.0) path i d 0 h in
    drop-cons (path_of path) i 0 within ∙ ap (λ x. x ∷ drop (suc i) (path_of path)) at
    ∙ ap (λ j. (slice_index_or path i d).0 ∷ drop j (path_of path)) (let e : suc i ≡ i + 1 = omega arith in e)

pub path_feature : (path : List Feat) (i n : ℕ) (d : Feat) → i < length path → All (λ f. f < n) (path_of path) → (slice_index_or path i d).0 < n
path_feature path i n d h all =
    let within : i < length (path_of path) = omega (arith, length-map path (λ f. f.0)) in
    let at = get_or-map (λ (f : Feat). f.0) path i d 0 h in
    omega (arith, at, all i 0 within)

-- the claims of a rule from a place on
pub entry_step : (rules : List Rule) (n r i : ℕ) (d : Claim) → i < length (slice_index_or rules r no_rule).claims →
    entry_claims rules (record { node = n; rule = r; from = i })
    ≡ from n (slice_index_or (slice_index_or rules r no_rule).claims i d) ∷ entry_claims rules (record { node = n; rule = r; from = i + 1 })
entry_step rules n r i d h =
    ap (map (from n)) (drop-cons (slice_index_or rules r no_rule).claims i d h)
    ∙ ap (λ j. from n (slice_index_or (slice_index_or rules r no_rule).claims i d) ∷ map (from n) (drop j (slice_index_or rules r no_rule).claims))
    (let e : suc i ≡ i + 1 = omega arith in e)

pub entry_ends : (rules : List Rule) (n r i : ℕ) → length (slice_index_or rules r no_rule).claims ≤ i →
    entry_claims rules (record { node = n; rule = r; from = i }) ≡ []
entry_ends rules n r i h = ap (map (from n)) (drop_all i (slice_index_or rules r no_rule).claims h)

-- a step after another one
pub steps_after : (g : Grammar) (nodes nodes1 nodes2 : Nodes) (a b : List NodeClaim) (tasks : Tasks) (ok : Bool) → Leads g nodes a nodes1 b →
    StepsTo g nodes1 b nodes2 tasks ok → StepsTo g nodes a nodes2 tasks ok
steps_after g nodes nodes1 nodes2 a b tasks true one (two, sound) =
    (Turns-on (system_of g) (deep_of nodes) (deep_of nodes1) (deep_of nodes2) a b (work_of g.rules tasks) one two, sound)
steps_after g nodes nodes1 nodes2 a b tasks false one two = Refutes-after (system_of g) (deep_of nodes) (deep_of nodes1) a b one two

-- one step after another
pub keeps_after : (a b d : Nodes) → KeepsArcs a b → KeepsArcs b d → KeepsArcs a d
keeps_after a b d one two = record {
  size = two.size ∙ one.size;
  live = λ k. two.live k ∙ one.live k;
  own = λ k. two.own k ∙ one.own k;
  more = omega (arith, one.more, two.more);
  chains = λ place h. two.chains place (omega (arith, h, one.more)) ∙ one.chains place h;
}

pub keeps_none : (a : Nodes) → KeepsArcs a a
keeps_none a = record { size = refl; live = λ k. refl; own = λ k. refl; more = omega arith; chains = λ place h. refl }

pub claims_append : (n : ℕ) (xs ys : List Cell) → arc_claims n (xs ++ ys) ≡ arc_claims n xs ++ arc_claims n ys
claims_append n [] ys = refl
claims_append n (x ∷ xs) ys = ap (λ l. is_same n (x.feat ∷ []) x.to [] ∷ l) (claims_append n xs ys)

-- the next arc of a row
pub claims_step : (n i : ℕ) (row : List Cell) (d c : Cell) → i < length row → c ≡ slice_index_or row i d →
    arc_claims n (drop i row) ≡ is_same n (c.feat ∷ []) c.to [] ∷ arc_claims n (drop (i + 1) row)
claims_step n i row d c h is =
    ap (arc_claims n) (drop-cons row i d h) ∙ ap (λ x. is_same n (x.feat ∷ []) x.to [] ∷ arc_claims n (drop (suc i) row)) (sym is)
    ∙ ap (λ j. is_same n (c.feat ∷ []) c.to [] ∷ arc_claims n (drop j row)) (let e : suc i ≡ i + 1 = omega arith in e)

pub claims_all : (n : ℕ) (row : List Cell) → arc_claims n (drop 0 row) ≡ arc_claims n row
claims_all n [] = refl
claims_all n (x ∷ row) = refl

pub claims_none : (n i : ℕ) (row : List Cell) → length row ≤ i → arc_claims n (drop i row) ≡ []
claims_none n i row h = ap (arc_claims n) (drop_all i row h)

-- some of the work is done
pub rest_after : (g : Grammar) (nodes nodes' : Nodes) (a b w w' : List NodeClaim) → Leads g nodes (a ++ w) nodes' w' → Leads g nodes ((a ++ b) ++ w) nodes' (b ++ w')
rest_after g nodes nodes' a b w w' one =
    Turns-order (system_of g) (deep_of nodes) (deep_of nodes') ((a ++ b) ++ w) ((a ++ w) ++ b) (b ++ w') (w' ++ b) (moved_back a b w)
    (Turns-beside (system_of g) (deep_of nodes) (deep_of nodes') (a ++ w) w' b one) (same_swapped w' b)

pub rest_clashes : (g : Grammar) (nodes : Nodes) (a b w : List NodeClaim) → Clashes g nodes (a ++ w) → Clashes g nodes ((a ++ b) ++ w)
rest_clashes g nodes a b w one =
    Refutes-order (system_of g) (deep_of nodes) ((a ++ b) ++ w) ((a ++ w) ++ b) (moved_back a b w)
    (Refutes-beside (system_of g) (deep_of nodes) (a ++ w) b one)

-- a step on the same work in another order
pub steps_order : (g : Grammar) (nodes : Nodes) (a a' : List NodeClaim) (nodes' : Nodes) (tasks' : Tasks) (b : Bool) → IsSameWork a a' →
    StepsTo g nodes a' nodes' tasks' b → StepsTo g nodes a nodes' tasks' b
steps_order g nodes a a' nodes' tasks' true same (x, y) =
    (Turns-order (system_of g) (deep_of nodes) (deep_of nodes') a a' _ _ same x (same_itself (work_of g.rules tasks')), y)
steps_order g nodes a a' nodes' tasks' false same x = Refutes-order (system_of g) (deep_of nodes) a a' same x

-- the next claim of a rule, with the rest pushed again
pub entry_same : (c : NodeClaim) (rest claims work pushed : List NodeClaim) → claims ≡ c ∷ rest → IsJoined rest work pushed →
    IsSameWork (claims ++ work) (c ∷ pushed)
entry_same c rest claims work pushed is joined =
    subst (λ l. IsSameWork (l ++ work) (c ∷ pushed)) (sym is)
    (same_beside (c ∷ []) (c ∷ []) (rest ++ work) pushed (same_itself (c ∷ [])) (joined_same rest work pushed joined))

-- an equality of two paths from a node: the first path is followed, then the second one
pub follow_first : (g : Grammar) (nodes : Nodes) (tasks : Tasks) (n : ℕ) (p q : Path) (nodes' : Nodes) (tasks' : Tasks) (m : ℕ) →
    Reaches g nodes tasks n p nodes' tasks' (Some m) →
    Leads g nodes (is_same n p n q ∷ work_of g.rules tasks) nodes' (is_same n q m [] ∷ work_of g.rules tasks')
follow_first g nodes tasks n p q nodes' tasks' m r =
    Turns-on (system_of g) (deep_of nodes) (deep_of nodes') (deep_of nodes') (is_same n p n q ∷ work_of g.rules tasks) (is_same m [] n q ∷ work_of g.rules tasks')
    (is_same n q m [] ∷ work_of g.rules tasks') (r.0 (is_same 0 [] n q))
    (Turns-back (system_of g) (deep_of nodes') m n [] q (work_of g.rules tasks'))
