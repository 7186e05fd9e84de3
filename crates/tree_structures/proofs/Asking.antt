-- What is answered by number: a structure that is found, and one that is kept.
use Rattle.std.proofs.Common.{ℕ, ◌≡◌, ◌+◌, ◌<◌, ◌≤◌, List, [], ◌∷◌, ◌++◌, length, get_or, sym, ap, subst, ◌∙◌, arith}
use Rattle.std.specs.Prelude.{Option, Some, None, slice_get}
use Rattle.std.specs.Global.{Global}
use Rattle.std.specs.Arc.{arc_value}
use Rattle.std.specs.declared.sync.Arc.{Arc}
use Rattle.std.proofs.lemmas.Option.{slice_get-get_or}
use Rattle.std.proofs.lemmas.List.{length-take}
use Rattle.fs_model.specs.Claims.{IsOrder}
use Rattle.tree_model.specs.Structures.{Structure}
use Rattle.tree_model.specs.Signs.{Signs}
use Rattle.tree_model.specs.Lexical.{IsEntry, IsUnderRule, FullLexical, under_none}
use Rattle.lexical_items.specs.Fulls.{IsLexicalFull}
use Rattle.lexical_items.proofs.Under.{under_more}
use Rattle.book_signs.specs.Trees.{SignTree, signs_of, HaveArities}
use Rattle.rule_trees.specs.Mothers.{view_in, IsMother}
use Rattle.rule_trees.specs.Fulls.{FullTree}
use Rattle.tree_structures.specs.declared.question.Numbers.{Numbers}
use Rattle.tree_structures.specs.declared.question.Question.{Question}
use Rattle.tree_structures.specs.declared.question.Question.TheVariants.{Entry, Mother}
use Rattle.tree_structures.specs.declared.memo.Known.{Known}
use Rattle.tree_structures.specs.declared.memo.FullMemo.{FullMemo}
use Rattle.tree_structures.specs.Formed.{IsLexicalRuleAt}
use Rattle.tree_structures.specs.Known.{view_of, numbers_of, kept, AreAt, IsAnswer, IsRight}
use Rattle.tree_structures.specs.Inner.Stays.{Stays, IsNumbered}
use Rattle.tree_structures.proofs.Climbing.{Leads, leads_first, leads_next, leads_nowhere, leads_here}
use Rattle.tree_structures.proofs.Climbs.{under_mother, mother_under}
use Rattle.tree_structures.proofs.Keeping.{at_one, kept_at, found, keep_stays, kept_last, extends_on}

-- how many places are left, on the way back from this one
abbrev pub places_left : Option ℕ → ℕ
places_left None = 0
places_left (Some place) = place + 1

pub item_at : {X : Type 0} (xs : List X) (n : ℕ) (x : X) → n < length xs → x ≡ get_or xs n x → slice_get xs n ≡ Some x
item_at xs n x low is = slice_get-get_or xs n x low ∙ ap Some (sym is)

-- what was found of a question
abbrev pub IsFound : FullMemo → Question → ℕ → Type 0
IsFound memo q n = (known : Known) × (slice_get memo.known.items n ≡ Some known) × (known.question ≡ q)

-- what was kept of one
abbrev pub IsKept : FullMemo → FullMemo → Question → FullTree → Type 0
IsKept old new q full = (shared : Arc FullTree Global) × (arc_value shared ≡ full) × (new.known.items ≡ old.known.items ++ record { question = q; full = shared } ∷ [])

-- under one lexical rule more
lexical_more : (g : Signs) (rule : ℕ) (d e : Structure) → IsLexicalFull g d → IsUnderRule g rule d e → IsLexicalFull g e
lexical_more g rule d e h x = record { entry = h.entry; rules = h.rules ++ rule ∷ []; full = (h.full.0, h.full.1, under_more h.full.2 x) }

pub numbers_long : (n : Numbers) → n.count ≤ 4 → length (numbers_of n) ≡ n.count
numbers_long n most = let long = length-take n.count (n.a ∷ n.b ∷ n.c ∷ n.d ∷ []) in omega (arith, long, most)

module _ (t : SignTree) where
  pub numbered_on : (old new : FullMemo) → Stays t old new → (P : Structure → Type 0) (n : ℕ) → IsNumbered t old P (Some n) → IsNumbered t new P (Some n)
  numbered_on old new s P n h = (h.0, s.known n h.0 h.1, h.2)

  pub stays_on : (a b c : FullMemo) → Stays t a b → Stays t b c → Stays t a c
  stays_on a b c x y = record { right = y.right; known = extends_on (kept t a.known.items) (kept t b.known.items) (kept t c.known.items) x.known y.known }

  pub entry_found : (memo : FullMemo) (place n : ℕ) → IsRight t memo → IsFound memo (Entry place) n → IsNumbered t memo (IsEntry (signs_of t) place) (Some n)
  entry_found memo place n right f = (view_of t f.0.full, kept_at t memo.known.items n f.0 f.1, found t memo n f.0 (Entry place) right f.1 f.2)

  pub mother_found : (memo : FullMemo) (place : ℕ) (over : Numbers) (n : ℕ) (fs : List Structure) → IsRight t memo → IsFound memo (Mother place over) n → AreAt (kept t memo.known.items) (numbers_of over) fs → IsNumbered t memo (IsMother (signs_of t) place fs) (Some n)
  mother_found memo place over n fs right f are =
      let answer = found t memo n f.0 (Mother place over) right f.1 f.2 in
      let same : answer.0 ≡ fs = at_one (kept t memo.known.items) (numbers_of over) answer.0 fs answer.1 are in
      (view_of t f.0.full, kept_at t memo.known.items n f.0 f.1, subst (λ hs. IsMother (signs_of t) place hs (view_of t f.0.full)) same answer.2)

  module _ (old new : FullMemo) (q : Question) (full : FullTree) (right : IsRight t old) (k : IsKept old new q full) where
    seen : view_of t k.0 ≡ view_in t full.graph
    seen = ap (λ (f : FullTree). view_in t f.graph) k.1

    pub kept_stays : IsAnswer (signs_of t) (kept t old.known.items) q (view_in t full.graph) → Stays t old new
    kept_stays a = keep_stays t old new (record { question = q; full = k.0 }) k.2 right (subst (IsAnswer (signs_of t) (kept t old.known.items) q) (sym seen) a)

    pub kept_numbered : (P : Structure → Type 0) (n : ℕ) → n ≡ length old.known.items → P (view_in t full.graph) → IsNumbered t new P (Some n)
    kept_numbered P n is p = (
      view_of t k.0,
      ap (slice_get (kept t new.known.items)) is ∙ kept_last t old new (record { question = q; full = k.0 }) k.2,
      subst P (sym seen) p,
    )

  -- where an entry has climbed to under its lexical rules
  pub record IsClimbing (begin memo : FullMemo) (entry : ℕ) (rules rest : List ℕ) (number : ℕ) : Type 0 where
    pub stays : Stays t begin memo
    pub structure : Structure
    pub at : slice_get (kept t memo.known.items) number ≡ Some structure
    pub leads : Leads (signs_of t) entry rules structure rest
    pub lexical : IsLexicalFull (signs_of t) structure

  pub climb_first : (o : IsOrder (signs_of t).system) (begin memo : FullMemo) (entry : ℕ) (rules : List ℕ) (number : ℕ) → Stays t begin memo → IsNumbered t memo (IsEntry (signs_of t) entry) (Some number) → IsClimbing begin memo entry rules rules number
  climb_first o begin memo entry rules number s n = record {
    stays = s;
    structure = n.0;
    at = n.1;
    leads = leads_first (signs_of t) o entry rules n.0 n.2;
    lexical = record { entry = entry; rules = []; full = (n.0, n.2, under_none) };
  }

  module _ (o : IsOrder (signs_of t).system) (begin memo : FullMemo) (entry rule : ℕ) (rules rest : List ℕ) (number : ℕ) (here : IsClimbing begin memo entry rules (rule ∷ rest) number) where
    pub climb_next : (new : FullMemo) (above : ℕ) → HaveArities (signs_of t) → IsLexicalRuleAt (signs_of t) rule → Stays t memo new → IsNumbered t new (IsMother (signs_of t) rule (here.structure ∷ [])) (Some above) → IsClimbing begin new entry rules rest above
    climb_next new above arities r s n = record {
      stays = stays_on begin memo new here.stays s;
      structure = n.0;
      at = n.1;
      leads = leads_next (signs_of t) o entry rules here.structure n.0 rule rest (mother_under (signs_of t) rule here.structure n.0 arities r n.2) here.leads;
      lexical = lexical_more (signs_of t) rule here.structure n.0 here.lexical (mother_under (signs_of t) rule here.structure n.0 arities r n.2);
    }

    pub climb_never : ((f : Structure) → IsMother (signs_of t) rule (here.structure ∷ []) f → ⊥) → (f : Structure) → FullLexical (signs_of t) entry rules f → ⊥
    climb_never never = leads_nowhere (signs_of t) o entry rules here.structure rule rest (λ e x. never e (under_mother (signs_of t) rule here.structure e x)) here.leads

  pub climb_last : (o : IsOrder (signs_of t).system) (begin memo : FullMemo) (entry : ℕ) (rules : List ℕ) (number : ℕ) → IsClimbing begin memo entry rules [] number → IsNumbered t memo (FullLexical (signs_of t) entry rules) (Some number)
  climb_last o begin memo entry rules number here = (here.structure, here.at, leads_here (signs_of t) o entry rules here.structure here.leads)
