-- Structures that are kept stay known and right.
use Rattle.std.proofs.Common.{ℕ, zero, suc, ◌≡◌, ◌+◌, ◌<◌, List, [], ◌∷◌, ◌++◌, length, map, take, refl, sym, ap, subst, ◌∙◌, arith}
use Rattle.std.specs.Prelude.{Option, Some, None, All, option_map, slice_get}
use Rattle.std.specs.Global.{Global}
use Rattle.std.specs.Arc.{arc_value}
use Rattle.std.specs.declared.sync.Arc.{Arc}
use Rattle.std.proofs.lemmas.List.{length-map, map-append, take_more}
use Rattle.std.proofs.lemmas.List.Elements.{All-head, All-tail, All-nil, All-cons, All-push, All-weaker}
use Rattle.std.proofs.lemmas.Option.{slice_get-map, slice_get_within, get_or_from_slice_get}
use Rattle.tree_model.specs.Structures.{Structure}
use Rattle.tree_model.specs.Mothers.{Rule, IsFullAt}
use Rattle.tree_model.specs.Signs.{Signs, rule_system}
use Rattle.book_signs.specs.Trees.{SignTree, signs_of, rule_at}
use Rattle.rule_trees.specs.Mothers.{IsMade, made_entry, made_mother, IsMother}
use Rattle.rule_trees.specs.Fulls.{FullTree}
use Rattle.tree_structures.specs.declared.question.Question.{Question}
use Rattle.tree_structures.specs.declared.question.Question.TheVariants.{Entry, Mother}
use Rattle.tree_structures.specs.declared.memo.Known.{Known}
use Rattle.tree_structures.specs.declared.memo.FullMemo.{FullMemo}
use Rattle.tree_structures.specs.Known.{view_of, kept, AreAt, none_at, more_at, IsAnswer, IsRightIn, IsRight, fulls_in}
use Rattle.tree_structures.specs.Inner.Stays.{Extends, Stays}

-- one number more
pub take_get : {X : Type 0} (xs : List X) (k : ℕ) (x : X) → slice_get xs k ≡ Some x → take (k + 1) xs ≡ take k xs ++ x ∷ []
take_get xs k x e = take_more xs k x (slice_get_within xs k x e) ∙ ap (λ y. take k xs ++ y ∷ []) (get_or_from_slice_get xs k x x e)

-- structures by their numbers
module _ (ss : List Structure) where
  pub at_one : (ns : List ℕ) (fs hs : List Structure) → AreAt ss ns fs → AreAt ss ns hs → fs ≡ hs
  at_one [] _ _ none_at none_at = refl
  at_one (n ∷ ns) _ _ (more_at {f = f} {fs = fs} x xs) (more_at {f = h} {fs = hs} y ys) = let rest = at_one ns fs hs xs ys in cc

  pub at_push : (ns : List ℕ) (fs : List Structure) (n : ℕ) (f : Structure) → AreAt ss ns fs → slice_get ss n ≡ Some f → AreAt ss (ns ++ n ∷ []) (fs ++ f ∷ [])
  at_push [] _ n f none_at e = more_at e none_at
  at_push (m ∷ ns) _ n f (more_at {fs = fs} x xs) e = more_at x (at_push ns fs n f xs e)

  pub at_long : (ns : List ℕ) (fs : List Structure) → AreAt ss ns fs → length fs ≡ length ns
  at_long [] _ none_at = refl
  at_long (n ∷ ns) _ (more_at {fs = fs} x xs) = let l = at_long ns fs xs in omega (arith, l)

  pub at_there : (ns : List ℕ) (fs : List Structure) (k n : ℕ) → AreAt ss ns fs → slice_get ns k ≡ Some n → (f : Structure) × (slice_get ss n ≡ Some f)
  at_there [] _ k n none_at e = absurd (cc)
  at_there (m ∷ ns) _ zero n (more_at {f = f} x xs) e = let same : m ≡ n = cc in (f, subst (λ i. slice_get ss i ≡ Some f) same x)
  at_there (m ∷ ns) _ (suc k) n (more_at {fs = fs} x xs) e = at_there ns fs k n xs e

  pub at_all : (P : Structure → Type 0) (ns : List ℕ) (fs : List Structure) → ((n : ℕ) (f : Structure) → slice_get ss n ≡ Some f → P f) → AreAt ss ns fs → All P fs
  at_all P [] _ all none_at = All-nil P
  at_all P (n ∷ ns) _ all (more_at {f = f} {fs = fs} x xs) = All-cons P f fs (all n f x) (at_all P ns fs all xs)

module _ (old new : List Structure) (grow : Extends old new) where
  pub at_on : (ns : List ℕ) (fs : List Structure) → AreAt old ns fs → AreAt new ns fs
  at_on [] _ none_at = none_at
  at_on (n ∷ ns) _ (more_at {f = f} {fs = fs} x xs) = more_at (grow n f x) (at_on ns fs xs)

  pub answer_on : (g : Signs) (q : Question) (f : Structure) → IsAnswer g old q f → IsAnswer g new q f
  answer_on g (Entry place) f h = h
  answer_on g (Mother place over) f h = (h.0, at_on _ h.0 h.1, h.2)

pub extends_same : (ss : List Structure) → Extends ss ss
extends_same ss n f e = e

pub extends_on : (a b c : List Structure) → Extends a b → Extends b c → Extends a c
extends_on a b c x y n f e = y n f (x n f e)

extends_append : (old more : List Structure) → Extends old (old ++ more)
extends_append [] more n f e = absurd (cc)
extends_append (x ∷ xs) more zero f e = e
extends_append (x ∷ xs) more (suc n) f e = extends_append xs more n f e

last_at : (old : List Structure) (f : Structure) → slice_get (old ++ f ∷ []) (length old) ≡ Some f
last_at [] f = refl
last_at (x ∷ xs) f = last_at xs f

module _ (g : Signs) where
  mother_made : (place : ℕ) (fs : List Structure) (f : Structure) → IsMother g place fs f → IsMade g f
  mother_made place fs f m = by (rule_at g place) m
    where
      by : (o : Option Rule) → IsFullAt (rule_system g) o fs f → IsMade g f
      by None h = absurd h
      by (Some rule) h = made_mother rule fs h

  answer_made : (ss : List Structure) (q : Question) (f : Structure) → IsAnswer g ss q f → IsMade g f
  answer_made ss (Entry place) f h = made_entry place h
  answer_made ss (Mother place over) f h = mother_made place h.0 f h.2

module _ (t : SignTree) where
  pub kept_at : (known : List Known) (n : ℕ) (k : Known) → slice_get known n ≡ Some k → slice_get (kept t known) n ≡ Some (view_of t k.full)
  kept_at known n k e = slice_get-map (λ (x : Known). view_of t x.full) known n ∙ ap (option_map (λ (x : Known). view_of t x.full)) e

  pub kept_below : (known : List Known) (n : ℕ) (f : Structure) → slice_get (kept t known) n ≡ Some f → n < length known
  kept_below known n f e = let low = slice_get_within (kept t known) n f e in let long = length-map known (λ (x : Known). view_of t x.full) in omega (arith, low, long)

  -- a structure by its number
  pub kept_full : (memo : FullMemo) (n : ℕ) (full : FullTree) (f : Structure) → slice_get (fulls_in memo) n ≡ Some full → slice_get (kept t memo.known.items) n ≡ Some f → ((shared : Arc FullTree Global) → arc_value shared ≡ full → view_of t shared ≡ f)
  kept_full memo n full f a b = kept_known memo.known.items n full f a b
    where
      kept_known : (known : List Known) (n : ℕ) (full : FullTree) (f : Structure) → slice_get (map (λ (k : Known). arc_value k.full) known) n ≡ Some full → slice_get (kept t known) n ≡ Some f → (shared : Arc FullTree Global) → arc_value shared ≡ full → view_of t shared ≡ f
      kept_known [] n full f a b shared is = absurd (cc)
      kept_known (k ∷ ks) zero full f a b shared is = cc
      kept_known (k ∷ ks) (suc n) full f a b shared is = kept_known ks n full f a b shared is

  right_at : (P : Known → Type 0) (known : List Known) (n : ℕ) (k : Known) → All P known → slice_get known n ≡ Some k → P k
  right_at P [] n k all e = absurd (cc)
  right_at P (x ∷ xs) zero k all e = let same : x ≡ k = cc in subst P same (All-head P x xs all)
  right_at P (x ∷ xs) (suc n) k all e = right_at P xs n k (All-tail P x xs all) e

  -- what is found is right
  pub found : (memo : FullMemo) (n : ℕ) (k : Known) (q : Question) → IsRight t memo → slice_get memo.known.items n ≡ Some k → k.question ≡ q → IsAnswer (signs_of t) (kept t memo.known.items) q (view_of t k.full)
  found memo n k q right e is = subst (λ x. IsAnswer (signs_of t) (kept t memo.known.items) x (view_of t k.full)) is (right_at (IsRightIn t (kept t memo.known.items)) memo.known.items n k right e)

  -- each structure that is kept is an entry's, or made by a rule
  pub kept_made : (memo : FullMemo) → IsRight t memo → (n : ℕ) (f : Structure) → slice_get (kept t memo.known.items) n ≡ Some f → IsMade (signs_of t) f
  kept_made memo right n f e = among memo.known.items (λ k. answer_made (signs_of t) (kept t memo.known.items) k.question (view_of t k.full)) right n e
    where
      among : (known : List Known) → ((k : Known) → IsRightIn t (kept t memo.known.items) k → IsMade (signs_of t) (view_of t k.full)) → All (IsRightIn t (kept t memo.known.items)) known → (n : ℕ) → slice_get (kept t known) n ≡ Some f → IsMade (signs_of t) f
      among [] made all n at = absurd (cc)
      among (k ∷ ks) made all zero at = let same : view_of t k.full ≡ f = cc in subst (IsMade (signs_of t)) same (made k (All-head (IsRightIn t (kept t memo.known.items)) k ks all))
      among (k ∷ ks) made all (suc n) at = among ks made (All-tail (IsRightIn t (kept t memo.known.items)) k ks all) n at

  pub stays_same : (memo : FullMemo) → IsRight t memo → Stays t memo memo
  stays_same memo right = record { right = right; known = extends_same (kept t memo.known.items) }

  -- one structure more
  module _ (old new : FullMemo) (k : Known) (is : new.known.items ≡ old.known.items ++ k ∷ []) where
    grown : kept t new.known.items ≡ kept t old.known.items ++ view_of t k.full ∷ []
    grown = ap (kept t) is ∙ map-append (λ (x : Known). view_of t x.full) old.known.items (k ∷ [])

    pub kept_last : slice_get (kept t new.known.items) (length old.known.items) ≡ Some (view_of t k.full)
    kept_last =
        ap (λ ss. slice_get ss (length old.known.items)) grown
        ∙ ap (slice_get (kept t old.known.items ++ view_of t k.full ∷ [])) (sym (length-map old.known.items (λ (x : Known). view_of t x.full)))
        ∙ last_at (kept t old.known.items) (view_of t k.full)

    pub keep_stays : IsRight t old → IsAnswer (signs_of t) (kept t old.known.items) k.question (view_of t k.full) → Stays t old new
    keep_stays right answer =
        let grow : Extends (kept t old.known.items) (kept t new.known.items) = subst (Extends (kept t old.known.items)) (sym grown) (extends_append (kept t old.known.items) (view_of t k.full ∷ [])) in
        let on = λ (x : Known) (r : IsRightIn t (kept t old.known.items) x). answer_on (kept t old.known.items) (kept t new.known.items) grow (signs_of t) x.question (view_of t x.full) r in
        let before : All (IsRightIn t (kept t new.known.items)) old.known.items = All-weaker (IsRightIn t (kept t old.known.items)) (IsRightIn t (kept t new.known.items)) on old.known.items right in
        record {
          right = subst (All (IsRightIn t (kept t new.known.items))) (sym is) (All-push (IsRightIn t (kept t new.known.items)) old.known.items k before (on k answer));
          known = grow;
        }
