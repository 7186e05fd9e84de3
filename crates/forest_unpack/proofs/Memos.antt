-- What is known stays known and right.
use Rattle.std.specs.Prelude.{◌≡◌, ◌⊎◌, ◌↔◌, IsTrue, ℕ, ◌<◌, Bool, Option, Some, None, All, List, [], ◌∷◌, ◌++◌, length, map, slice_get, slice_set, refl}
use Rattle.std.proofs.Common.{Vec, Global, ap, subst, sym, ◌∙◌, arith, get_or, inl, inr, zero, suc}
use Rattle.std.specs.declared.sync.Arc.{Arc}
use Rattle.std.proofs.lemmas.List.Elements.{All-head, All-tail, All-nil, All-push, All-weaker, All-contains}
use Rattle.std.specs.Arc.{arc_value}
use Rattle.std.specs.List.{Contains}
use Rattle.tree_model.specs.Readings.{Wholes}
use Rattle.forest_unpack.specs.declared.item.Item.{Item}
use Rattle.forest_unpack.specs.declared.memo.Answer.{Answer}
use Rattle.forest_unpack.specs.declared.memo.Memo.{Memo}
use Rattle.forest_unpack.specs.declared.memo.Question.{Question}
use Rattle.derivation.specs.Trees.{phrase}
use Rattle.derivation.specs.Views.{in_order}
use Rattle.forest_unpack.specs.Counted.{derivation_in}
use Rattle.forest_unpack.specs.Items.{items_of, IsListed, IsMade, IsMadeOf, NoneListed}
use Rattle.forest_unpack.proofs.Adding.{fulls_are, trees_are}
use Rattle.forest_unpack.specs.Inner.Memos.{AreAccepted, AreNamed, Extends, IsFound, IsRight, IsMemo, IsNumbered, IsReady, Learned, StaysReady, daughters_of, known_in}

module _ {V : Type 0} where
  pub extends_same : (known : List V) → Extends known known
  extends_same known n v e = e

  pub extends_on : (a b c : List V) → Extends a b → Extends b c → Extends a c
  extends_on a b c f g n v e = g n v (f n v e)

  pub extends_append : (old more : List V) → Extends old (old ++ more)
  extends_append [] more n v e = absurd (cc)
  extends_append (x ∷ xs) more zero v e = e
  extends_append (x ∷ xs) more (suc n) v e = extends_append xs more n v e

  pub named_last : (old : List V) (v : V) → slice_get (old ++ v ∷ []) (length old) ≡ Some v
  named_last [] v = refl
  named_last (x ∷ xs) v = named_last xs v

  named_on : (old new : List V) → Extends old new → (ns : List ℕ) (vs : List V) → AreNamed old ns vs → AreNamed new ns vs
  named_on old new grow [] [] are = tt
  named_on old new grow [] (v ∷ vs) are = absurd are
  named_on old new grow (n ∷ ns) [] are = absurd are
  named_on old new grow (n ∷ ns) (v ∷ vs) are = (grow n v are.0, named_on old new grow ns vs are.1)

  named_one : (known : List V) (ns : List ℕ) (vs us : List V) → AreNamed known ns vs → AreNamed known ns us → vs ≡ us
  named_one known [] [] [] a b = refl
  named_one known [] [] (u ∷ us) a b = absurd b
  named_one known [] (v ∷ vs) us a b = absurd a
  named_one known (n ∷ ns) [] us a b = absurd a
  named_one known (n ∷ ns) (v ∷ vs) [] a b = absurd b
  named_one known (n ∷ ns) (v ∷ vs) (u ∷ us) a b = let e = a.0 in let f = b.0 in let rest = named_one known ns vs us a.1 b.1 in cc

module _ {C V : Type 0} (w : Wholes V C) where
  found_on : (old new : List V) → Extends old new → (rule : ℕ) (vs : List V) (made : Option ℕ) → IsFound w old rule vs made → IsFound w new rule vs made
  found_on old new grow rule vs None f = f
  found_on old new grow rule vs (Some n) f = (f.0, grow n f.0 f.1, f.2)

  right_on : (old new : List V) → Extends old new → (answer : Answer) → IsRight w old answer → IsRight w new answer
  right_on old new grow answer r = record {
    values = r.values;
    are = named_on old new grow (daughters_of answer.question) r.values r.are;
    found = found_on old new grow answer.question.rule r.values answer.made r.found;
  }

  -- an answer to the same question
  right_found : (known : List V) (answer : Answer) (question : Question) (rule : ℕ) (vs : List V) → IsRight w known answer → answer.question ≡ question → question.rule ≡ rule → AreNamed known (daughters_of question) vs → IsFound w known rule vs answer.made
  right_found known answer question rule vs r e f are =
      let same : r.values ≡ vs = named_one known (daughters_of question) r.values vs (subst (λ q. AreNamed known (daughters_of q) r.values) e r.are) are in
      subst (λ us. IsFound w known rule us answer.made) same (subst (λ n. IsFound w known n r.values answer.made) (ap (λ (q : Question). q.rule) e ∙ f) r.found)

module _ {X T C W V : Type 0} (value : T → V) where
  pub numbered_on : (old new : List V) → Extends old new → (items : List (Item X T C W)) → All (IsNumbered value old) items → All (IsNumbered value new) items
  numbered_on old new grow items all = All-weaker (IsNumbered value old) (IsNumbered value new) (λ item e. grow item.number (value (arc_value item.full)) e) items all

  -- items that have their numbers name their full structures
  pub items_named : (known : List V) (items : List (Item X T C W)) → All (IsNumbered value known) items → AreNamed known (map (λ item. item.number) items) (map (λ item. item.full) (items_of value items))
  items_named known [] all = tt
  items_named known (x ∷ xs) all = (All-head (IsNumbered value known) x xs all, items_named known xs (All-tail (IsNumbered value known) x xs all))

  module _ (w : Wholes V C) where
    pub memo_on : (old new : Memo X T C W) → new.answers.items ≡ old.answers.items → Extends (known_in value old) (known_in value new) → IsMemo value w old → IsMemo value w new
    memo_on old new same grow all = subst (All (IsRight w (known_in value new))) (sym same) (All-weaker (IsRight w (known_in value old)) (IsRight w (known_in value new)) (right_on w (known_in value old) (known_in value new) grow) old.answers.items all)

    pub learned_same : (memo : Memo X T C W) → IsMemo value w memo → Learned value w memo memo
    learned_same memo m = record { memo = m; known = extends_same (known_in value memo) }

    -- what is known of a question is right
    pub answer_found : (memo : Memo X T C W) (answer : Answer) (question : Question) (rule : ℕ) (vs : List V) → IsMemo value w memo → Contains memo.answers.items answer → answer.question ≡ question → question.rule ≡ rule → AreNamed (known_in value memo) (daughters_of question) vs → IsFound w (known_in value memo) rule vs answer.made
    answer_found memo answer question rule vs m has e f are = right_found w (known_in value memo) answer question rule vs (All-contains (IsRight w (known_in value memo)) memo.answers.items answer m has) e f are

    pub stays_same : (memo : Memo X T C W) (table : List (Option (Vec (Item X T C W) Global))) → IsReady value w memo table → StaysReady value w memo memo table
    stays_same memo table r = record { ready = r; known = extends_same (known_in value memo) }

    pub stays_on : (a b c : Memo X T C W) (t u : List (Option (Vec (Item X T C W) Global))) → StaysReady value w a b t → StaysReady value w b c u → StaysReady value w a c u
    stays_on a b c t u f g = record { ready = g.ready; known = extends_on (known_in value a) (known_in value b) (known_in value c) f.known g.known }

    pub learned_ready : (old new : Memo X T C W) (table : List (Option (Vec (Item X T C W) Global))) → IsReady value w old table → Learned value w old new → StaysReady value w old new table
    learned_ready old new table r l = record {
      ready = record { memo = l.memo; lists = λ h made at. numbered_on (known_in value old) (known_in value new) l.known made.items (r.lists h made at) };
      known = l.known;
    }

    -- one more full structure was numbered
    pub number_ready : (old new : Memo X T C W) (table : List (Option (Vec (Item X T C W) Global))) → IsReady value w old table → new.answers.items ≡ old.answers.items → Extends (known_in value old) (known_in value new) → StaysReady value w old new table
    number_ready old new table r same grow = learned_ready old new table r (record { memo = memo_on old new same grow r.memo; known = grow })

    set_lists : (P : Vec (Item X T C W) Global → Type 0) (table : List (Option (Vec (Item X T C W) Global))) (host : ℕ) (made : Vec (Item X T C W) Global) → P made → ((h : ℕ) (m : Vec (Item X T C W) Global) → slice_get table h ≡ Some (Some m) → P m) → (h : ℕ) (m : Vec (Item X T C W) Global) → slice_get (slice_set table host (Some made)) h ≡ Some (Some m) → P m
    set_lists P [] host made p all h m e = all h m e
    set_lists P (x ∷ xs) zero made p all zero m e = let same : made ≡ m = cc in subst P same p
    set_lists P (x ∷ xs) zero made p all (suc h) m e = all (suc h) m e
    set_lists P (x ∷ xs) (suc n) made p all zero m e = all zero m e
    set_lists P (x ∷ xs) (suc n) made p all (suc h) m e = set_lists P xs n made p (λ k l f. all (suc k) l f) h m e

    -- one more list
    pub put_ready : (old new : Memo X T C W) (table : List (Option (Vec (Item X T C W) Global))) (host : ℕ) (made : Vec (Item X T C W) Global) → StaysReady value w old new table → All (IsNumbered value (known_in value new)) made.items → StaysReady value w old new (slice_set table host (Some made))
    put_ready old new table host made s all = record {
      ready = record { memo = s.ready.memo; lists = set_lists (λ m. All (IsNumbered value (known_in value new)) m.items) table host made all s.ready.lists };
      known = s.known;
    }

module _ {T V : Type 0} (value : T → V) where
  -- a known full structure, by its number
  pub known_at : (known : List (Arc T Global)) (n : ℕ) (a : Arc T Global) (v : V) → n < length known → a ≡ get_or known n a → value (arc_value a) ≡ v → slice_get (map value (map arc_value known)) n ≡ Some v
  known_at [] n a v low at is = absurd (omega (arith, low))
  known_at (x ∷ xs) zero a v low at is = ap (λ z. Some (value (arc_value z))) (sym at) ∙ ap Some is
  known_at (x ∷ xs) (suc n) a v low at is = known_at xs n a v (omega (arith, low)) at is

  pub full_at : (known : List (Arc T Global)) (n : ℕ) (a : Arc T Global) (f : T) → n < length known → a ≡ get_or known n a → f ≡ arc_value a → slice_get (map arc_value known) n ≡ Some f
  full_at [] n a f low at is = absurd (omega (arith, low))
  full_at (x ∷ xs) zero a f low at is = ap (λ z. Some (arc_value z)) (sym at) ∙ ap Some (sym is)
  full_at (x ∷ xs) (suc n) a f low at is = full_at xs n a f (omega (arith, low)) at is

  -- one more known full structure
  pub known_more : (old new : List (Arc T Global)) (a : Arc T Global) → new ≡ old ++ a ∷ [] → Extends (map value (map arc_value old)) (map value (map arc_value new))
  known_more old new a is = subst (λ zs. Extends (map value (map arc_value old)) zs) (sym (ap (λ zs. map value (map arc_value zs)) is ∙ values_append old a)) (extends_append (map value (map arc_value old)) (value (arc_value a) ∷ []))
    where
      values_append : (xs : List (Arc T Global)) (b : Arc T Global) → map value (map arc_value (xs ++ b ∷ [])) ≡ map value (map arc_value xs) ++ value (arc_value b) ∷ []
      values_append [] b = refl
      values_append (x ∷ xs) b = ap (λ zs. value (arc_value x) ∷ zs) (values_append xs b)

  pub known_last : (old new : List (Arc T Global)) (a : Arc T Global) (n : ℕ) → new ≡ old ++ a ∷ [] → n ≡ length old → slice_get (map value (map arc_value new)) n ≡ Some (value (arc_value a))
  known_last [] new a n is e = rw (is, e) refl
  known_last (x ∷ xs) new a n is e = rw (is, e) (known_last xs (xs ++ a ∷ []) a (length xs) refl refl)

  -- a number that has a value is in range
  pub known_below : (known : List (Arc T Global)) (n : ℕ) (v : V) → slice_get (map value (map arc_value known)) n ≡ Some v → n < length known
  known_below [] n v e = absurd (cc)
  known_below (x ∷ xs) zero v e = omega arith
  known_below (x ∷ xs) (suc n) v e = let low = known_below xs n v e in omega (arith, low)

  -- the value of a known full structure
  pub value_at : (known : List (Arc T Global)) (n : ℕ) (f : T) (v : V) → slice_get (map arc_value known) n ≡ Some f → slice_get (map value (map arc_value known)) n ≡ Some v → value f ≡ v
  value_at [] n f v a b = absurd (cc)
  value_at (x ∷ xs) zero f v a b = cc
  value_at (x ∷ xs) (suc n) f v a b = value_at xs n f v a b

module _ {X T C W V : Type 0} (value : T → V) (w : Wholes V C) where
  -- a full structure that was made has its number
  pub some_found : (rule : ℕ) (items : List (Item X T C W)) (ps : List T) (full : T) (held : Arc T Global) (known : List V) (n : ℕ) → ps ≡ map (λ item. arc_value item.full) items → w.full rule (map value ps) (value full) → arc_value held ≡ full → slice_get known n ≡ Some (value (arc_value held)) → IsFound w known rule (map (λ item. item.full) (items_of value items)) (Some n)
  some_found rule items ps full held known n e f is at = (
    value full,
    at ∙ ap (λ z. Some (value z)) is,
    subst (λ zs. w.full rule zs (value full)) (ap (map value) e ∙ fulls_are value items) f,
  )

  -- what is known of a question about these
  pub found_known : (memo : Memo X T C W) (answer : Answer) (question : Question) (rule : ℕ) (items : List (Item X T C W)) → IsMemo value w memo → Contains memo.answers.items answer → answer.question ≡ question → question.rule ≡ rule → daughters_of question ≡ map (λ item. item.number) items → All (IsNumbered value (known_in value memo)) items → IsFound w (known_in value memo) rule (map (λ item. item.full) (items_of value items)) answer.made
  found_known memo answer question rule items m has e f ds all =
      answer_found value w memo answer question rule (map (λ item. item.full) (items_of value items)) m has e f (subst (λ ns. AreNamed (known_in value memo) ns (map (λ item. item.full) (items_of value items))) (sym ds) (items_named value (known_in value memo) items all))

  module _ (old mid new : Memo X T C W) (question : Question) (made : Option ℕ) (rule : ℕ) (items : List (Item X T C W)) (same : new.known.items ≡ mid.known.items) where
    -- one more answer
    pub learn_one : IsMemo value w old → mid.answers.items ≡ old.answers.items → Extends (known_in value old) (known_in value mid) → new.answers.items ≡ mid.answers.items ++ record { question = question; made = made } ∷ [] → question.rule ≡ rule → daughters_of question ≡ map (λ item. item.number) items → All (IsNumbered value (known_in value old)) items → IsFound w (known_in value mid) rule (map (λ item. item.full) (items_of value items)) made → Learned value w old new
    learn_one m kept grow more f ds all found =
        let knows : known_in value mid ≡ known_in value new = ap (λ xs. map value (map arc_value xs)) (sym same) in
        let right : IsRight w (known_in value mid) (record { question = question; made = made }) = record {
          values = map (λ item. item.full) (items_of value items);
          are = subst (λ ns. AreNamed (known_in value mid) ns (map (λ item. item.full) (items_of value items))) (sym ds) (items_named value (known_in value mid) items (numbered_on value (known_in value old) (known_in value mid) grow items all));
          found = subst (λ n. IsFound w (known_in value mid) n (map (λ item. item.full) (items_of value items)) made) (sym f) found;
        } in
        let whole : All (IsRight w (known_in value mid)) new.answers.items = subst (All (IsRight w (known_in value mid))) (sym more) (All-push (IsRight w (known_in value mid)) mid.answers.items (record { question = question; made = made }) (memo_on value w old mid kept grow m) right) in
        record {
          memo = subst (λ ks. All (IsRight w ks) new.answers.items) knows whole;
          known = subst (Extends (known_in value old)) knows grow;
        }

    pub found_then : IsFound w (known_in value mid) rule (map (λ item. item.full) (items_of value items)) made → IsFound w (known_in value new) rule (map (λ item. item.full) (items_of value items)) made
    found_then found = subst (λ ks. IsFound w ks rule (map (λ item. item.full) (items_of value items)) made) (ap (λ xs. map value (map arc_value xs)) (sym same)) found

  module _ (memo : Memo X T C W) (n : ℕ) (full : Arc T Global) (at : slice_get (map arc_value memo.known.items) n ≡ Some (arc_value full)) where
    -- the known full structure that was found
    pub found_value : (rule : ℕ) (vs : List V) → IsFound w (known_in value memo) rule vs (Some n) → (slice_get (known_in value memo) n ≡ Some (value (arc_value full))) × w.full rule vs (value (arc_value full))
    found_value rule vs f =
        let same : value (arc_value full) ≡ f.0 = value_at value memo.known.items n (arc_value full) f.0 at f.1 in
        (f.1 ∙ ap Some (sym same), subst (w.full rule vs) (sym same) f.2)

  pub found_below : (memo : Memo X T C W) (rule : ℕ) (vs : List V) (n : ℕ) → IsFound w (known_in value memo) rule vs (Some n) → n < length memo.known.items
  found_below memo rule vs n f = known_below value memo.known.items n f.0 f.1

  -- the item that was made
  pub item_made : (rule : ℕ) (items : List (Item X T C W)) (item : Item X T C W) (place : ℕ) → w.full rule (map (λ item. item.full) (items_of value items)) (value (arc_value item.full)) → place ≡ w.place rule → derivation_in item.tree ≡ phrase place (in_order (map (λ item. derivation_in item.tree) items)) → IsMadeOf value w rule (items_of value items) (Some item)
  item_made rule items item place f at tree = (f, tree ∙ (let t = trees_are value items in cc))

module _ {X T C W V : Type 0} (value : T → V) where
  -- one more item
  pub numbered_push : (old new : List V) → Extends old new → (items more : List (Item X T C W)) (item : Item X T C W) → All (IsNumbered value old) items → more ≡ items ++ item ∷ [] → IsNumbered value new item → All (IsNumbered value new) more
  numbered_push old new grow items more item all is one = subst (All (IsNumbered value new)) (sym is) (All-push (IsNumbered value new) items item (numbered_on value old new grow items all) one)

  pub numbered_none : (known : List V) (items : List (Item X T C W)) → items ≡ [] → All (IsNumbered value known) items
  numbered_none known items is = subst (All (IsNumbered value known)) (sym is) (All-nil (IsNumbered value known))

  pub made_is : (table : List (Option (Vec (Item X T C W) Global))) (host : ℕ) (x : Option (Vec (Item X T C W) Global)) (made : Vec (Item X T C W) Global) → IsListed table host → x ≡ get_or table host x → x ≡ Some made → slice_get table host ≡ Some (Some made)
  made_is [] host x made is e f = absurd is
  made_is (y ∷ ys) zero x made is e f = ap Some (sym e ∙ f)
  made_is (y ∷ ys) (suc n) x made is e f = made_is ys n x made is e f

  -- the items of a list that was made
  pub listed_numbered : (w : Wholes V C) (memo : Memo X T C W) (table : List (Option (Vec (Item X T C W) Global))) (host : ℕ) (x : Option (Vec (Item X T C W) Global)) (made : Vec (Item X T C W) Global) (items : List (Item X T C W)) → IsReady value w memo table → IsListed table host → x ≡ get_or table host x → x ≡ Some made → items ≡ made.items → All (IsNumbered value (known_in value memo)) items
  listed_numbered w memo table host x made items r is e f same = subst (All (IsNumbered value (known_in value memo))) (sym same) (r.lists host made (made_is table host x made is e f))

  -- one more daughter chosen
  pub chosen_more : (old new : List V) → Extends old new → (front next items : List (Item X T C W)) (i : ℕ) (x : Item X T C W) → All (IsNumbered value old) front → All (IsNumbered value new) items → i < length items → x ≡ get_or items i x → next ≡ front ++ x ∷ [] → All (IsNumbered value new) next
  chosen_more old new grow front next items i x before all low at is = numbered_push old new grow front next x before is (subst (IsNumbered value new) (sym at) (all i x low))

  -- no list was made yet
  pub none_ready : (w : Wholes V C) (memo : Memo X T C W) (table : List (Option (Vec (Item X T C W) Global))) → IsMemo value w memo → NoneListed table → IsReady value w memo table
  none_ready w memo table right empty = record { memo = right; lists = λ h made at. absurd (empty h (subst IsMade (sym at) tt)) }

  -- nothing is known yet
  pub new_memo : (w : Wholes V C) (memo : Memo X T C W) → memo.answers.items ≡ [] → IsMemo value w memo
  new_memo w memo none = subst (All (IsRight w (known_in value memo))) (sym none) (All-nil (IsRight w (known_in value memo)))

module _ {X T C W : Type 0} where
  pub listed_low : (table : List (Option (Vec (Item X T C W) Global))) (host : ℕ) → IsListed table host → host < length table
  listed_low [] host is = absurd is
  listed_low (x ∷ xs) zero is = omega arith
  listed_low (x ∷ xs) (suc n) is = let low = listed_low xs n is in omega (arith, low)

  pub not_none : (table : List (Option (Vec (Item X T C W) Global))) (host : ℕ) (x : Option (Vec (Item X T C W) Global)) → IsListed table host → x ≡ get_or table host x → x ≡ None → ⊥
  not_none [] host x is e f = is
  not_none (y ∷ ys) zero x is e f = subst (λ z. IsMade (Some z)) (sym e ∙ f) is
  not_none (y ∷ ys) (suc n) x is e f = not_none ys n x is e f

-- nothing was found out yet
pub none_accepted : {C V : Type 0} (w : Wholes V C) (known : List V) (c : C) (told : List (Option Bool)) → All (λ o. o ≡ None) told → AreAccepted w known c told
none_accepted w known c told all n so v at is = absurd (never told n so all at)
  where
    never : (told : List (Option Bool)) (n : ℕ) (so : Bool) → All (λ o. o ≡ None) told → slice_get told n ≡ Some (Some so) → ⊥
    never [] n so all at = absurd (cc)
    never (x ∷ xs) zero so all at = let e : x ≡ None = All-head (λ o. o ≡ None) x xs all in absurd (cc)
    never (x ∷ xs) (suc n) so all at = never xs n so (All-tail (λ o. o ≡ None) x xs all) at

-- what was found out of a full structure
pub told_at_number : {C V : Type 0} (w : Wholes V C) (known : List V) (c : C) (told : List (Option Bool)) (n : ℕ) (x : Option Bool) (so : Bool) (v : V) → AreAccepted w known c told → n < length told → x ≡ get_or told n x → x ≡ Some so → slice_get known n ≡ Some v → IsTrue so ↔ w.accepted v c
told_at_number w known c told n x so v are low at is knows = are n so v (told_is told n x low at ∙ ap Some is) knows
  where
    told_is : (told : List (Option Bool)) (n : ℕ) (x : Option Bool) → n < length told → x ≡ get_or told n x → slice_get told n ≡ Some x
    told_is [] n x low at = absurd (omega (arith, low))
    told_is (y ∷ ys) zero x low at = ap Some (sym at)
    told_is (y ∷ ys) (suc n) x low at = told_is ys n x (omega (arith, low)) at

set_at : {A : Type 0} (xs : List A) (n : ℕ) (x : A) (m : ℕ) (y : A) → slice_get (slice_set xs n x) m ≡ Some y → ((m ≡ n) × (x ≡ y)) ⊎ (slice_get xs m ≡ Some y)
set_at [] n x m y e = inr e
set_at (z ∷ zs) zero x zero y e = inl (refl, cc)
set_at (z ∷ zs) zero x (suc m) y e = inr e
set_at (z ∷ zs) (suc n) x zero y e = inr e
set_at (z ∷ zs) (suc n) x (suc m) y e = on (set_at zs n x m y e)
  where
    on : (((m ≡ n) × (x ≡ y)) ⊎ (slice_get zs m ≡ Some y)) → ((suc m ≡ suc n) × (x ≡ y)) ⊎ (slice_get zs m ≡ Some y)
    on (inl a) = inl (ap suc a.0, a.1)
    on (inr b) = inr b

-- one more was found out
pub told_set : {C V : Type 0} (w : Wholes V C) (known : List V) (c : C) (told : List (Option Bool)) (n : ℕ) (so : Bool) (v : V) → AreAccepted w known c told → slice_get known n ≡ Some v → (IsTrue so ↔ w.accepted v c) → AreAccepted w known c (slice_set told n (Some so))
told_set w known c told n so v are knows is m some u at there = by (set_at told n (Some so) m (Some some) at)
  where
    by : (((m ≡ n) × (Some so ≡ Some some)) ⊎ (slice_get told m ≡ Some (Some some))) → IsTrue some ↔ w.accepted u c
    by (inl a) =
        let e : v ≡ u = (let k = subst (λ i. slice_get known i ≡ Some u) a.0 there in cc) in
        let f : so ≡ some = (let k = a.1 in cc) in
        subst (λ b. IsTrue b ↔ w.accepted u c) f (subst (λ z. IsTrue so ↔ w.accepted z c) e is)
    by (inr b) = are m some u b there
