-- Entries under rules, one rule more and one fewer.
use Rattle.std.specs.Prelude.{ℕ, ◌≡◌, ◌<◌, ◌+◌, All, false, List, [], ◌∷◌, ◌++◌, length, map, get_or}
use Rattle.std.proofs.Common.{inl, inr, refl, sym, ◌∙◌, ap, subst, zero, suc, arith, length-append, take}
use Rattle.std.proofs.lemmas.List.{map-append, length-map}
use Rattle.fs_model.specs.Claims.{IsOrder}
use Rattle.chart_model.specs.At.{At}
use Rattle.lexicon.specs.Words.{Word, Has, Rises}
use Rattle.lexicon.specs.Entries.{EntryTree, HasNumber}
use Rattle.spelling_rules.specs.Trees.{SpellingTree}
use Rattle.spelling_rules.specs.Forms.{HasForm}
use Rattle.tree_model.specs.Structures.{Structure}
use Rattle.tree_model.specs.Signs.{Signs}
use Rattle.tree_model.specs.Lexical.{FullUnder, under_none, IsEntry, IsUnderRule}
use Rattle.morph_analysis.specs.Allowed.{FeedsTree, may_go_on}
use Rattle.morph_analysis.specs.Chains.{Leads, there, by, HaveWords, ChainTree}
use Rattle.morph_analysis.proofs.Lists.{true_not_false, Each-at}
use Rattle.morph_analysis.proofs.RouteLemmas.{allowed_less}
use Rattle.lexical_items.specs.Places.{place_in}
use Rattle.lexical_items.specs.Said.{AreNumbered}
use Rattle.lexical_items.specs.Seen.{ForbidsNone}
use Rattle.lexical_items.proofs.Lists.{last_of, snoc_same, at_has, range_has}
use Rattle.std.specs.List.{range_with_len}
use Rattle.lexical_items.proofs.Spelled.{one_entry}
use Rattle.lexical_items.proofs.Treed.{placed, all_placed, inside}
use Rattle.lexical_items.proofs.Under.{under_more, stuck, split, from_entry}
use Rattle.lexical_items.specs.Inner.Routes.{RouteTree, Key, key_of, above, OfWords, AreFormsOf, Ends, IsChain, IsRoute}

-- one rule more leads on by a form, and one fewer stops before it
pub leads_more : (s : SpellingTree) {ns : List ℕ} {w x y : Word} → Leads s ns w x → (r : ℕ) → r < length s.rules → 0 < length x → HasForm s r x y → Leads s (ns ++ r ∷ []) w y
leads_more s {y = y} (there w) r lt some form = by r [] w y y lt some form (there y)
leads_more s {y = y} (by q qs w z x lt some form more) r lr sr fr = by q (qs ++ r ∷ []) w z y lt some form (leads_more s more r lr sr fr)

leads_none : (s : SpellingTree) {zs : List ℕ} {x y : Word} → Leads s zs x y → zs ≡ [] → x ≡ y
leads_none s (there w) e = refl
leads_none s (by q qs w z x lt some form more) e = absurd (cc)

pub record LeadsLess (s : SpellingTree) (ns : List ℕ) (r : ℕ) (w y : Word) : Type 0 where
  pub before : Word
  pub leads : Leads s ns w before
  pub rule_in : r < length s.rules
  pub some : 0 < length before
  pub form : HasForm s r before y

pub leads_less : (s : SpellingTree) {zs : List ℕ} {w y : Word} (ns : List ℕ) (r : ℕ) → Leads s zs w y → zs ≡ ns ++ r ∷ [] → LeadsLess s ns r w y
leads_less s [] r (there w) e = absurd (cc)
leads_less s (n ∷ ns) r (there w) e = absurd (cc)
leads_less s [] r (by q qs w z x lt some form more) e =
    let a : q ≡ r = cc in
    let b : qs ≡ [] = cc in
    record { before = w; leads = there w; rule_in = subst (λ n. n < length s.rules) a lt; some = some; form = subst (HasForm s r w) (leads_none s more b) (subst (λ n. HasForm s n w z) a form) }
leads_less s (n ∷ ns) r (by q qs w z x lt some form more) e =
    let a : q ≡ n = cc in
    let b : qs ≡ ns ++ r ∷ [] = cc in
    let h = leads_less s ns r more b in
    record { before = h.before; leads = by n ns w z h.before (subst (λ i. i < length s.rules) a lt) some (subst (λ i. HasForm s i w z) a form) h.leads; rule_in = h.rule_in; some = h.some; form = h.form }

-- the last of a list
pub last_is : {A : Type 0} (xs : List A) (i : ℕ) (x : A) → i + 1 ≡ length xs → x ≡ get_or xs i x → xs ≡ take i xs ++ x ∷ []
last_is [] i x e h = absurd (omega (arith, e))
last_is (y ∷ []) zero x e h = ap (λ z. z ∷ []) (sym h)
last_is (y ∷ z ∷ ys) zero x e h = absurd (omega (arith, e))
last_is (y ∷ ys) (suc i) x e h = ap (λ l. y ∷ l) (last_is ys i x (omega (arith, e)) h)

pub last_word : {A : Type 0} (f : A → Word) (xs : List A) (i : ℕ) (x : A) → i + 1 ≡ length xs → x ≡ get_or xs i x → map f xs ≡ map f (take i xs) ++ f x ∷ []
last_word f xs i x e h = ap (map f) (last_is xs i x e h) ∙ map-append f (take i xs) (x ∷ [])

pub last_at : {A : Type 0} (xs : List A) (i : ℕ) → i + 1 ≡ length xs → (x : A) × (xs ≡ take i xs ++ x ∷ [])
last_at [] i e = absurd (omega (arith, e))
last_at (y ∷ []) zero e = (y, refl)
last_at (y ∷ z ∷ ys) zero e = absurd (omega (arith, e))
last_at (y ∷ ys) (suc i) e = let r = last_at ys i (omega (arith, e)) in (r.0, ap (λ l. y ∷ l) r.1)

pub no_items : {A : Type 0} (xs : List A) → length xs ≡ 0 → xs ≡ []
no_items [] e = refl
no_items (x ∷ xs) e = absurd (omega (arith, e))

-- an entry has a word
pub has_words : (lexicon : List EntryTree) → HaveWords lexicon → (n : ℕ) (ws : List Word) → Has (record { number = n; words = ws }) lexicon → 0 < length ws
has_words lexicon h n ws k = Each-at (λ (e : EntryTree). 0 < length e.words) (record { number = n; words = ws }) lexicon h k

pub some_words : {A : Type 0} (f : A → Word) (lexicon : List EntryTree) → HaveWords lexicon → (n : ℕ) (xs : List A) → Has (record { number = n; words = map f xs }) lexicon → 0 < length xs
some_words f lexicon h n xs k = let some = has_words lexicon h n (map f xs) k in let e = length-map xs f in omega (arith, some, e)

head_of : {A : Type 0} (xs : List A) → 0 < length xs → (x : A) × Has x xs
head_of [] h = absurd (omega arith)
head_of (x ∷ xs) h = (x, inl refl)

module _ (lexicon : List EntryTree) (s : SpellingTree) (g : Signs) (entries rules : List ℕ) (numbered : AreNumbered entries rules lexicon s) where
  Chain : Key → Type 0
  Chain = IsChain lexicon s g entries rules

  pub has_number : (n : ℕ) → n < length entries → HasNumber lexicon n
  has_number n lt = subst (Has n) (sym numbered.entries_are) (at_has (subst (λ m. At (range_with_len 0 (length entries)) n m) (let e : 0 + n ≡ n = omega arith in e) (range_has 0 (length entries) n lt)))

  -- the words of an entry by its number are one
  pub words_one : (n : ℕ) (ws vs : List Word) → Has (record { number = n; words = ws }) lexicon → Has (record { number = n; words = vs }) lexicon → ws ≡ vs
  words_one n ws vs a b = ap (λ (e : EntryTree). e.words) (one_entry (length entries) lexicon numbered.entries_are (record { number = n; words = ws }) (record { number = n; words = vs }) a b refl)

  snoc_places : (rs : List ℕ) (rule : ℕ) → map (place_in rules) (rs ++ rule ∷ []) ≡ map (place_in rules) rs ++ place_in rules rule ∷ []
  snoc_places rs rule = map-append (place_in rules) rs (rule ∷ [])

  -- a route has a chain, and one key
  pub route_chain : (k : Key) (r : RouteTree) → IsRoute lexicon s g entries rules k r → IsChain lexicon s g entries rules k
  route_chain k r h = let w = head_of r.ends h.some in record { entry_in = h.entry_in; structure = r.full; full = h.full; end = w.0; ends = h.have w.0 w.1 }

  pub one_key : (j k : Key) (r : RouteTree) → IsRoute lexicon s g entries rules j r → IsRoute lexicon s g entries rules k r → j ≡ k
  one_key j k r a b = let e = sym a.entry_is ∙ b.entry_is in let f = sym a.rules_is ∙ b.rules_is in λ i. record { entry = e i; rules = f i }

  pub own_key : (k : Key) (r : RouteTree) → IsRoute lexicon s g entries rules k r → IsRoute lexicon s g entries rules (key_of r) r
  own_key k r h = subst (λ j. IsRoute lexicon s g entries rules j r) (let e = h.entry_is in let f = h.rules_is in λ i. record { entry = sym e i; rules = sym f i }) h

  -- the rules of a chain are rules
  pub rules_in : (k : Key) → IsChain lexicon s g entries rules k → All (λ n. n < length rules) k.rules
  rules_in k c =
      let c2 : ChainTree = record { entry = k.entry; rules = k.rules; words = c.ends.front ++ c.end ∷ []; from = 0; to = 0 } in
      (inside entries rules lexicon s numbered c2 (record { front = c.ends.front; stem = c.ends.stem; form = c.end; is_entry = c.ends.is_entry; is = refl; leads = c.ends.leads })).rules_in

  -- an entry by itself
  pub begun : (n : ℕ) (front : List Word) (stem : Word) (place : ℕ) (r : RouteTree) → n < length entries → Has (record { number = n; words = front ++ stem ∷ [] }) lexicon → place ≡ place_in entries n → IsEntry g place r.full
      → r.entry ≡ n → r.rules ≡ [] → r.ends ≡ stem ∷ [] → IsRoute lexicon s g entries rules (record { entry = n; rules = [] }) r
  begun n front stem place r lt has e entry a b w = record {
    entry_is = a;
    rules_is = b;
    entry_in = lt;
    full = (r.full, subst (λ p. IsEntry g p r.full) e entry, under_none);
    rises = subst Rises (sym w) (tt, tt);
    some = subst (λ l. 0 < length l) (sym w) (omega arith);
    have = λ x h. have x (subst (Has x) w h);
    all = λ x h. subst (Has x) (sym w) (inl (all x h));
  }
    where
      have : (x : Word) → Has x (stem ∷ []) → Ends lexicon s (record { entry = n; rules = [] }) x
      have x (inl q) = record { front = front; stem = stem; is_entry = has; leads = subst (Leads s [] stem) (sym q) (there stem) }
      have x (inr q) = absurd q

      all : (x : Word) → Ends lexicon s (record { entry = n; rules = [] }) x → x ≡ stem
      all x h = sym (leads_none s h.leads refl) ∙ sym (snoc_same front h.front stem h.stem (words_one n (front ++ stem ∷ []) (h.front ++ h.stem ∷ []) has h.is_entry)).1

  pub not_begun : (n place : ℕ) → place ≡ place_in entries n → ((f : Structure) → IsEntry g place f → ⊥) → IsChain lexicon s g entries rules (record { entry = n; rules = [] }) → ⊥
  not_begun n place e none c = none c.full.0 (subst (λ p. IsEntry g p c.full.0) (sym e) c.full.1)

  -- a rule that may not be applied
  pub forbidden : (feeds : FeedsTree) → ForbidsNone g entries rules feeds → (r : RouteTree) (rule : ℕ) → may_go_on feeds r.entry r.rules rule ≡ false → IsChain lexicon s g entries rules (above r rule) → ⊥
  forbidden feeds harmless r rule off c =
      let c2 : ChainTree = record { entry = r.entry; rules = r.rules ++ rule ∷ []; words = c.ends.front ++ c.end ∷ []; from = 0; to = 0 } in
      let i = inside entries rules lexicon s numbered c2 (record { front = c.ends.front; stem = c.ends.stem; form = c.end; is_entry = c.ends.is_entry; is = refl; leads = c.ends.leads }) in
      let a = harmless r.entry (place_in entries r.entry) (r.rules ++ rule ∷ []) (map (place_in rules) (r.rules ++ rule ∷ [])) c.structure (placed entries r.entry c.entry_in) (all_placed rules (r.rules ++ rule ∷ []) i.rules_in) c.full in
      true_not_false (may_go_on feeds r.entry r.rules rule) (allowed_less feeds r.entry r.rules rule a).1 off

  ends_more : (r : RouteTree) (rule : ℕ) (k : Key) → rule < length s.rules → IsRoute lexicon s g entries rules k r → (x : Word) → OfWords s rule r.ends x → Ends lexicon s (above r rule) x
  ends_more r rule k lt h x o =
      let e = h.have o.0 o.1 in
      let at : k.entry ≡ r.entry = sym h.entry_is in
      record {
        front = e.front;
        stem = e.stem;
        is_entry = subst (λ n. Has (record { number = n; words = e.front ++ e.stem ∷ [] }) lexicon) at e.is_entry;
        leads = leads_more s (subst (λ ns. Leads s ns e.stem o.0) (sym h.rules_is) e.leads) rule lt o.2 o.3;
      }

  ends_less : (r : RouteTree) (rule : ℕ) (k : Key) → IsRoute lexicon s g entries rules k r → (x : Word) → Ends lexicon s (above r rule) x → OfWords s rule r.ends x
  ends_less r rule k h x e =
      let l = leads_less s r.rules rule e.leads refl in (
        l.before,
        h.all l.before (record {
          front = e.front;
          stem = e.stem;
          is_entry = subst (λ n. Has (record { number = n; words = e.front ++ e.stem ∷ [] }) lexicon) h.entry_is e.is_entry;
          leads = subst (λ ns. Leads s ns e.stem l.before) h.rules_is l.leads;
        }),
        l.some,
        l.form,
      )

  -- a rule that has no form for any of the words
  pub no_forms : (r : RouteTree) (rule : ℕ) (forms : List Word) → IsRoute lexicon s g entries rules (key_of r) r → AreFormsOf s rule r.ends forms → forms ≡ [] → IsChain lexicon s g entries rules (above r rule) → ⊥
  no_forms r rule forms h are e c = absurd (subst (Has c.end) e (are.all c.end (ends_less r rule (key_of r) h c.end c.ends)))

  -- a rule that makes nothing
  pub no_mother : IsOrder g.system → (r : RouteTree) (rule place : ℕ) → place ≡ place_in rules rule → IsRoute lexicon s g entries rules (key_of r) r → ((f : Structure) → IsUnderRule g place r.full f → ⊥) → IsChain lexicon s g entries rules (above r rule) → ⊥
  no_mother order r rule place e h none c =
      stuck g order (map (place_in rules) r.rules) (place_in rules rule) [] h.full.2 (subst (λ p. (u : Structure) → IsUnderRule g p r.full u → ⊥) e none) (snoc_places r.rules rule) (from_entry g order h.full.1 c.full)

  pub longer : (r next : RouteTree) (rule place : ℕ) → rule < length rules → place ≡ place_in rules rule → IsRoute lexicon s g entries rules (key_of r) r → AreFormsOf s rule r.ends next.ends → 0 < length next.ends → IsUnderRule g place r.full next.full
      → next.entry ≡ r.entry → next.rules ≡ r.rules ++ rule ∷ [] → IsRoute lexicon s g entries rules (above r rule) next
  longer r next rule place lt e h are some under a b = record {
    entry_is = a;
    rules_is = b;
    entry_in = h.entry_in;
    full = (h.full.0, h.full.1, subst (λ ps. FullUnder g h.full.0 ps next.full) (sym (snoc_places r.rules rule)) (under_more h.full.2 (subst (λ p. IsUnderRule g p r.full next.full) e under)));
    rises = are.rises;
    some = some;
    have = λ w k. ends_more r rule (key_of r) (subst (λ n. rule < n) (sym numbered.rules_are) lt) h w (are.have w k);
    all = λ w k. are.all w (ends_less r rule (key_of r) h w k);
  }

  -- one rule fewer
  chain_less : IsOrder g.system → (n : ℕ) (ns : List ℕ) (r : ℕ) → IsChain lexicon s g entries rules (record { entry = n; rules = ns ++ r ∷ [] }) → IsChain lexicon s g entries rules (record { entry = n; rules = ns })
  chain_less order n ns r c =
      let z = split g order (map (place_in rules) ns) (place_in rules r) [] c.full.2 (snoc_places ns r) in
      let l = leads_less s ns r c.ends.leads refl in
      record {
        entry_in = c.entry_in;
        structure = z.inner;
        full = (c.full.0, c.full.1, z.before);
        end = l.before;
        ends = record { front = c.ends.front; stem = c.ends.stem; is_entry = c.ends.is_entry; leads = l.leads };
      }

  pub record Inner (k : Key) : Type 0 where
    pub front : List ℕ
    pub last : ℕ
    pub is : k.rules ≡ front ++ last ∷ []
    pub chain : IsChain lexicon s g entries rules (record { entry = k.entry; rules = front })

  pub inner : IsOrder g.system → (k : Key) → 0 < length k.rules → IsChain lexicon s g entries rules k → Inner k
  inner order k some c =
      let l = last_of k.rules some in
      record { front = l.0; last = l.1; is = l.2; chain = chain_less order k.entry l.0 l.1 (subst (λ rs. IsChain lexicon s g entries rules (record { entry = k.entry; rules = rs })) l.2 c) }

  pub shorter : IsOrder g.system → (d depth : ℕ) (k : Key) → length k.rules ≡ d + depth → IsChain lexicon s g entries rules k → (j : Key) × IsChain lexicon s g entries rules j × (length j.rules ≡ depth)
  shorter order zero depth k e c = (k, c, omega (arith, e))
  shorter order (suc d) depth k e c =
      let i = inner order k (omega (arith, e)) c in
      let long = ap length i.is ∙ length-append i.front (i.last ∷ []) in
      shorter order d depth (record { entry = k.entry; rules = i.front }) (omega (arith, e, long)) i.chain
