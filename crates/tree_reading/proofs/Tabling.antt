-- The table of names, as it grows.
use Rattle.std.proofs.Common.{◌≡◌, ℕ, suc, zero, Bool, true, false, ◌==◌, cond, if◌then◌else◌, List, [], ◌∷◌, length, Option, Some, None, String, Global, unwrap_or, refl, sym, ap, subst, ◌∙◌, ◌<◌, ◌≤◌, ◌+◌, ◌⊎◌, inl, inr, arith, eqb-true, ltb, ltb-true, ltb-false, ⊎_elim, max}
use Rattle.std.specs.List.{slice_get}
use Rattle.std.specs.Map.{lookup}
use Rattle.std.specs.Str.{bytes_eq}
use Rattle.std.specs.String.{string_bytes, string_eq}
use Rattle.std.proofs.lemmas.Bool.{false≢true}
use Rattle.std.proofs.lemmas.Slice.Eq.{bytes_eq-Decides}
use Rattle.std.proofs.lemmas.Option.{slice_get_within}
use Rattle.indexmap.specs.IndexMap.{insert_entry}
use Rattle.derivation.specs.Text.{name_of}
use Rattle.tree_reading.specs.declared.Part.{Part}
use Rattle.tree_reading.specs.declared.Part.TheVariants.{Entry, LexicalRule, PhraseRule, Other}
use Rattle.tree_reading.specs.declared.uses.Uses.{Uses}
use Rattle.tree_reading.specs.declared.uses.Phrase.{Phrase}
use Rattle.tree_reading.specs.Grammars.{TreeGrammar, IsNamedApart}
use Rattle.tree_reading.specs.Inner.Uses.{AreUsesBelow, AreTabled, AreTabledBelow, uses_in, no_uses, with_use}
use Rattle.tree_reading.specs.Inner.Near.{IsNearBelow, IsUsable, IsShared, IsMostShared}

bytes_same : (a b : List ℕ) → bytes_eq a b ≡ true → a ≡ b
bytes_same a b e = (bytes_eq-Decides a b).0 e

bytes_as : (a b : List ℕ) → a ≡ b → bytes_eq a b ≡ true
bytes_as a b e = (bytes_eq-Decides a b).1 e

taken : (b : Bool) (v x : Uses) (o : Option Uses) → unwrap_or (cond b (Some v) o) no_uses ≡ (if b then v else unwrap_or (cond b (Some x) o) no_uses)
taken true v x o = refl
taken false v x o = refl

passed : (b c : Bool) (v x : Uses) (o p : Option Uses) → (b ≡ true → c ≡ false) → unwrap_or p no_uses ≡ (if c then v else unwrap_or o no_uses) →
    unwrap_or (cond b (Some x) p) no_uses ≡ (if c then v else unwrap_or (cond b (Some x) o) no_uses)
passed true c v x o p h e = ap (λ t. if t then v else x) (sym (h refl))
passed false c v x o p h e = e

ends : (b : Bool) (v : Uses) → unwrap_or (cond b (Some v) None) no_uses ≡ (if b then v else no_uses)
ends true v = refl
ends false v = refl

differ_by : (n a b : List ℕ) (t : Bool) → bytes_eq n a ≡ t → bytes_eq a b ≡ false → bytes_eq n b ≡ true → bytes_eq n a ≡ false
differ_by n a b true q h e = absurd (false≢true (sym h ∙ bytes_as a b (sym (bytes_same n a q) ∙ bytes_same n b e)))
differ_by n a b false q h e = q

differ : (n a b : List ℕ) → bytes_eq a b ≡ false → bytes_eq n b ≡ true → bytes_eq n a ≡ false
differ n a b h e = differ_by n a b (bytes_eq n a) refl h e

lookup_by : (n : List ℕ) (e : String Global × Uses) (es : List (String Global × Uses)) (k : String Global) (v : Uses) (b : Bool) → string_eq k e.0 ≡ b →
    uses_in (insert_entry string_eq es k v) n ≡ (if bytes_eq n (string_bytes k) then v else uses_in es n) →
    uses_in (insert_entry string_eq (e ∷ es) k v) n ≡ (if bytes_eq n (string_bytes k) then v else uses_in (e ∷ es) n)
lookup_by n e es k v true q ih =
    ap (λ t. uses_in (if t then (e.0, v) ∷ es else e ∷ insert_entry string_eq es k v) n) q
    ∙ taken (bytes_eq n (string_bytes e.0)) v e.1 (lookup (λ j. bytes_eq n (string_bytes j)) es)
    ∙ ap (λ t. if bytes_eq n t then v else uses_in (e ∷ es) n) (sym (bytes_same (string_bytes k) (string_bytes e.0) q))
lookup_by n e es k v false q ih =
    ap (λ t. uses_in (if t then (e.0, v) ∷ es else e ∷ insert_entry string_eq es k v) n) q
    ∙ passed (bytes_eq n (string_bytes e.0)) (bytes_eq n (string_bytes k)) v e.1 (lookup (λ j. bytes_eq n (string_bytes j)) es) (lookup (λ j. bytes_eq n (string_bytes j)) (insert_entry string_eq es k v))
    (differ n (string_bytes k) (string_bytes e.0) q) ih

pub lookup_insert : (n : List ℕ) (es : List (String Global × Uses)) (k : String Global) (v : Uses) →
    uses_in (insert_entry string_eq es k v) n ≡ (if bytes_eq n (string_bytes k) then v else uses_in es n)
lookup_insert n [] k v = ends (bytes_eq n (string_bytes k)) v
lookup_insert n (e ∷ es) k v = lookup_by n e es k v (string_eq k e.0) refl (lookup_insert n es k v)

-- below one more
below_by : (e i : ℕ) (b : Bool) → ltb e i ≡ b → e < i + 1 → (e < i) ⊎ (e ≡ i)
below_by e i true q h = inl (ltb-true e i q)
below_by e i false q h = inr (omega (arith, ltb-false e i q))

below_more : (e i : ℕ) → e < i + 1 → (e < i) ⊎ (e ≡ i)
below_more e i h = below_by e i (ltb e i) refl h

-- an instance that says nothing of a name
abbrev Says : TreeGrammar → ℕ → List ℕ → Part → Type 0
Says g i name part = (slice_get g.parts i ≡ Some part) × (name_of g.names i ≡ name)

widened : (g : TreeGrammar) (i : ℕ) (name : List ℕ) (uses : Uses) → AreUsesBelow g i name uses →
    (Says g i name Entry → uses.entry ≡ None → ⊥) → (Says g i name LexicalRule → uses.rules.lexical ≡ None → ⊥) →
    ((n : ℕ) → 0 < n → Says g i name (PhraseRule n) → (p : Phrase) × (uses.rules.phrase ≡ Some p) × (p.daughters ≡ n)) → AreUsesBelow g (i + 1) name uses
widened g i name uses h no_e no_l each =
    record {
      entry = h.entry;
      no_entry = λ q e lt at named. ⊎_elim (λ k. h.no_entry q e k at named) (λ k. no_e (subst (λ t. Says g t name Entry) k (at, named)) q) (below_more e i lt);
      lexical = h.lexical;
      no_lexical = λ q e lt at named. ⊎_elim (λ k. h.no_lexical q e k at named) (λ k. no_l (subst (λ t. Says g t name LexicalRule) k (at, named)) q) (below_more e i lt);
      phrase = h.phrase;
      each_phrase = λ n r lt pos at named. ⊎_elim (λ k. h.each_phrase n r k pos at named) (λ k. each n pos (subst (λ t. Says g t name (PhraseRule n)) k (at, named))) (below_more r i lt);
    }

-- the part is another
other_part : (g : TreeGrammar) (i : ℕ) (name : List ℕ) (p q : Part) → slice_get g.parts i ≡ Some p → Says g i name q → p ≡ q
other_part g i name p q at h = let same : Some p ≡ Some q = sym at ∙ h.0 in cc

with_entry : (g : TreeGrammar) (i : ℕ) (name : List ℕ) (u : Uses) → Says g i name Entry → AreUsesBelow g i name u → AreUsesBelow g (i + 1) name (with_use u i Entry)
with_entry g i name u says h =
    widened g i name (with_use u i Entry)
    (record {
      entry = λ e q. let same : i ≡ e = cc in subst (λ t. Says g t name Entry) same says;
      no_entry = λ q. cc;
      lexical = h.lexical;
      no_lexical = h.no_lexical;
      phrase = h.phrase;
      each_phrase = h.each_phrase;
    })
    (λ k q. cc)
    (λ k q. let same : Entry ≡ LexicalRule = other_part g i name Entry LexicalRule says.0 k in cc)
    (λ n pos k. let same : Entry ≡ PhraseRule n = other_part g i name Entry (PhraseRule n) says.0 k in cc)

with_lexical : (g : TreeGrammar) (i : ℕ) (name : List ℕ) (u : Uses) → Says g i name LexicalRule → AreUsesBelow g i name u → AreUsesBelow g (i + 1) name (with_use u i LexicalRule)
with_lexical g i name u says h =
    widened g i name (with_use u i LexicalRule)
    (record {
      entry = h.entry;
      no_entry = h.no_entry;
      lexical = λ e q. let same : i ≡ e = cc in subst (λ t. Says g t name LexicalRule) same says;
      no_lexical = λ q. cc;
      phrase = h.phrase;
      each_phrase = h.each_phrase;
    })
    (λ k q. let same : LexicalRule ≡ Entry = other_part g i name LexicalRule Entry says.0 k in cc)
    (λ k q. cc)
    (λ n pos k. let same : LexicalRule ≡ PhraseRule n = other_part g i name LexicalRule (PhraseRule n) says.0 k in cc)

with_phrase : (g : TreeGrammar) → IsNamedApart g → (i m : ℕ) (name : List ℕ) (u : Uses) → 0 < m → Says g i name (PhraseRule m) → AreUsesBelow g i name u →
    AreUsesBelow g (i + 1) name (record { entry = u.entry; rules = record { lexical = u.rules.lexical; phrase = Some (record { rule = i; daughters = m }) } })
with_phrase g apart i m name u pos says h =
    let p : Phrase = record { rule = i; daughters = m } in
    widened g i name (record { entry = u.entry; rules = record { lexical = u.rules.lexical; phrase = Some p } })
    (record {
      entry = h.entry;
      no_entry = h.no_entry;
      lexical = h.lexical;
      no_lexical = h.no_lexical;
      phrase = λ q e. let same : p ≡ q = cc in subst (λ (t : Phrase). (0 < t.daughters) × (slice_get g.parts t.rule ≡ Some (PhraseRule t.daughters)) × (name_of g.names t.rule ≡ name)) same (pos, says.0, says.1);
      each_phrase = λ n r lt few at named. absurd (omega (arith, lt, apart r i (PhraseRule n) (PhraseRule m) at says.0 tt (named ∙ sym says.1)));
    })
    (λ k q. let same : PhraseRule m ≡ Entry = other_part g i name (PhraseRule m) Entry says.0 k in cc)
    (λ k q. let same : PhraseRule m ≡ LexicalRule = other_part g i name (PhraseRule m) LexicalRule says.0 k in cc)
    (λ n few k. let same : PhraseRule m ≡ PhraseRule n = other_part g i name (PhraseRule m) (PhraseRule n) says.0 k in (p, refl, cc))

with_nothing : (g : TreeGrammar) (i m : ℕ) (name : List ℕ) (u : Uses) → m ≡ 0 → Says g i name (PhraseRule m) → AreUsesBelow g i name u → AreUsesBelow g (i + 1) name u
with_nothing g i m name u zero_is says h =
    widened g i name u h
    (λ k q. let same : PhraseRule m ≡ Entry = other_part g i name (PhraseRule m) Entry says.0 k in cc)
    (λ k q. let same : PhraseRule m ≡ LexicalRule = other_part g i name (PhraseRule m) LexicalRule says.0 k in cc)
    (λ n few k. let same : PhraseRule m ≡ PhraseRule n = other_part g i name (PhraseRule m) (PhraseRule n) says.0 k in let size : m ≡ n = cc in absurd (omega (arith, size, zero_is, few)))

some_from : (m : ℕ) → (m == 0) ≡ false → 0 < m
some_from zero q = absurd (false≢true (sym q))
some_from (suc m) q = omega arith

with_by : (g : TreeGrammar) → IsNamedApart g → (i m : ℕ) (name : List ℕ) (u : Uses) (b : Bool) → (m == 0) ≡ b → Says g i name (PhraseRule m) → AreUsesBelow g i name u →
    AreUsesBelow g (i + 1) name (if b then u else (record { entry = u.entry; rules = record { lexical = u.rules.lexical; phrase = Some (record { rule = i; daughters = m }) } }))
with_by g apart i m name u true q says h = with_nothing g i m name u (eqb-true m 0 q) says h
with_by g apart i m name u false q says h = with_phrase g apart i m name u (some_from m q) says h

with_part : (g : TreeGrammar) → IsNamedApart g → (i : ℕ) (name : List ℕ) (u : Uses) (part : Part) → Says g i name part → AreUsesBelow g i name u → AreUsesBelow g (i + 1) name (with_use u i part)
with_part g apart i name u Entry says h = with_entry g i name u says h
with_part g apart i name u LexicalRule says h = with_lexical g i name u says h
with_part g apart i name u (PhraseRule m) says h = with_by g apart i m name u (m == 0) refl says h
with_part g apart i name u Other says h =
    widened g i name u h
    (λ k q. let same : Other ≡ Entry = other_part g i name Other Entry says.0 k in cc)
    (λ k q. let same : Other ≡ LexicalRule = other_part g i name Other LexicalRule says.0 k in cc)
    (λ n few k. let same : Other ≡ PhraseRule n = other_part g i name Other (PhraseRule n) says.0 k in cc)

more_by : (g : TreeGrammar) → IsNamedApart g → (i : ℕ) (old new : List (String Global × Uses)) (here name : List ℕ) (part : Part) (b : Bool) → bytes_eq name here ≡ b → here ≡ name_of g.names i →
    slice_get g.parts i ≡ Some part → AreTabledBelow g i old → uses_in new name ≡ (if b then with_use (uses_in old here) i part else uses_in old name) → AreUsesBelow g (i + 1) name (uses_in new name)
more_by g apart i old new here name part true q is at h e =
    let same = bytes_same name here q in
    subst (AreUsesBelow g (i + 1) name) (sym e) (with_part g apart i name (uses_in old here) part (at, sym is ∙ sym same) (subst (λ t. AreUsesBelow g i t (uses_in old here)) (sym same) (h here)))
more_by g apart i old new here name part false q is at h e =
    let other : (p : Part) → Says g i name p → ⊥ = λ p k. false≢true (sym q ∙ bytes_as name here (sym k.1 ∙ sym is)) in
    subst (AreUsesBelow g (i + 1) name) (sym e) (widened g i name (uses_in old name) (h name) (λ k r. other Entry k) (λ k r. other LexicalRule k) (λ n few k. absurd (other (PhraseRule n) k)))

pub tabled_more : (g : TreeGrammar) → IsNamedApart g → (i : ℕ) (old new : List (String Global × Uses)) (here : List ℕ) (part : Part) → here ≡ name_of g.names i → slice_get g.parts i ≡ Some part →
    AreTabledBelow g i old → ((n : List ℕ) → uses_in new n ≡ (if bytes_eq n here then with_use (uses_in old here) i part else uses_in old n)) → AreTabledBelow g (i + 1) new
tabled_more g apart i old new here part is at h e = λ name. more_by g apart i old new here name part (bytes_eq name here) refl is at h (e name)

pub tabled : (g : TreeGrammar) (i : ℕ) (entries : List (String Global × Uses)) → length g.parts ≤ i → AreTabledBelow g i entries → AreTabled g entries
tabled g i entries le h = λ name.
    let k = h name in
    let below : (e : ℕ) (p : Part) → slice_get g.parts e ≡ Some p → e < i = λ e p at. omega (arith, slice_get_within g.parts e p at) in
    record {
      entry = k.entry;
      no_entry = λ q e at named. k.no_entry q e (below e Entry at) at named;
      rules = record {
        lexical = k.lexical;
        no_lexical = λ q r at named. k.no_lexical q r (below r LexicalRule at) at named;
        phrase = λ p q. let f = k.phrase p q in (refl, f.0, f.1, f.2);
        each_phrase = λ wide n few rule. k.each_phrase n rule.0 (below rule.0 (PhraseRule n) rule.1) few rule.1 rule.2;
      };
    }

pub tabled_none : (g : TreeGrammar) (entries : List (String Global × Uses)) → entries ≡ [] → AreTabledBelow g 0 entries
tabled_none g entries e = λ name. subst (λ t. AreUsesBelow g 0 name (uses_in t name)) (sym e) (record {
  entry = λ k q. cc;
  no_entry = λ q k lt. absurd (omega (arith, lt));
  lexical = λ k q. cc;
  no_lexical = λ q k lt. absurd (omega (arith, lt));
  phrase = λ p q. cc;
  each_phrase = λ n r lt. absurd (omega (arith, lt));
})

-- the nearest name
pub near_none : (g : TreeGrammar) (wide : Bool) (name : List ℕ) → IsNearBelow g wide name 0 0
near_none g wide name = record { within = omega arith; some = inl refl; most = λ place m lt. absurd (omega (arith, lt)) }

max_by : (m k : ℕ) (b : Bool) → ltb m k ≡ b → (max m k ≡ m) ⊎ (max m k ≡ k)
max_by m k true q = inr (omega (arith, ltb-true m k q))
max_by m k false q = inl (omega (arith, ltb-false m k q))

near_by : (g : TreeGrammar) (wide : Bool) (name : List ℕ) (i m k n : ℕ) → IsNearBelow g wide name i m → IsUsable g wide i → IsMostShared name (name_of g.names i) k → (n ≡ m) ⊎ (n ≡ k) → m ≤ n → k ≤ n →
    IsNearBelow g wide name (i + 1) n
near_by g wide name i m k n h usable shared which a b = record {
  within = ⊎_elim (λ q. omega (arith, q, h.within)) (λ q. omega (arith, q, shared.0.0)) which;
  some = ⊎_elim (λ q. subst (λ t. (t ≡ 0) ⊎ ((place : ℕ) × IsUsable g wide place × IsShared name (name_of g.names place) t)) (sym q) h.some)
      (λ q. subst (λ t. (t ≡ 0) ⊎ ((place : ℕ) × IsUsable g wide place × IsShared name (name_of g.names place) t)) (sym q) (inr (i, usable, shared.0))) which;
  most = λ place l lt u s. ⊎_elim (λ q. omega (arith, h.most place l q u s, a)) (λ q. omega (arith, shared.1 l (subst (λ t. IsShared name (name_of g.names t) l) q s), b)) (below_more place i lt);
}

pub near_more : (g : TreeGrammar) (wide : Bool) (name : List ℕ) (i m k : ℕ) → IsNearBelow g wide name i m → IsUsable g wide i → IsMostShared name (name_of g.names i) k → IsNearBelow g wide name (i + 1) (max m k)
near_more g wide name i m k h usable shared = near_by g wide name i m k (max m k) h usable shared (max_by m k (ltb m k) refl) (omega arith) (omega arith)

pub near_skip : (g : TreeGrammar) (wide : Bool) (name : List ℕ) (i m : ℕ) → IsNearBelow g wide name i m → (IsUsable g wide i → ⊥) → IsNearBelow g wide name (i + 1) m
near_skip g wide name i m h unusable = record {
  within = h.within;
  some = h.some;
  most = λ place n lt usable shared. ⊎_elim (λ q. h.most place n q usable shared) (λ q. absurd (unusable (subst (IsUsable g wide) q usable))) (below_more place i lt);
}
