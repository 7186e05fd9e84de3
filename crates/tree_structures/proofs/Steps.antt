-- The steps of a walk over a tree.
use Rattle.std.proofs.Common.{ℕ, ◌≡◌, ◌+◌, ◌<◌, ◌≤◌, List, [], ◌∷◌, ◌++◌, length, map, get_or, Vec, Global, refl, sym, ap, subst, ◌∙◌, arith}
use Rattle.std.specs.Prelude.{Option, Some, None, Result, Ok, Err, String, IfOk, All, option_map}
use Rattle.std.specs.Arc.{arc_value}
use Rattle.std.specs.declared.sync.Arc.{Arc}
use Rattle.std.proofs.lemmas.Option.{slice_get-map}
use Rattle.std.proofs.lemmas.List.Elements.{All-head, All-tail, All-cons, All-push, All-weaker}
use Rattle.std.proofs.lemmas.List.{length-map}
use Rattle.fs_model.specs.Claims.{IsOrder}
use Rattle.derivation.specs.Trees.{Derivation, phrase}
use Rattle.derivation.specs.declared.Tree.{Tree}
use Rattle.derivation.specs.declared.Tree.TheVariants.{Lexical, Phrase}
use Rattle.derivation.proofs.Rows.{derivation_of-Phrase}
use Rattle.derivation.specs.Views.{derivation_of, in_order}
use Rattle.tree_model.specs.Structures.{Structure}
use Rattle.tree_model.specs.Signs.{Signs}
use Rattle.tree_model.specs.Lexical.{FullLexical}
use Rattle.tree_model.specs.Trees.{Full}
use Rattle.book_signs.specs.Trees.{SignTree, signs_of, HaveArities}
use Rattle.rule_trees.specs.Mothers.{IsMother, HasDaughters}
use Rattle.std.specs.declared.alloc.AllocError.{AllocError as NoMemory}
use Rattle.tree_structures.specs.declared.memo.FullMemo.{FullMemo}
use Rattle.tree_structures.specs.declared.opened.Opened.{Opened}
use Rattle.tree_structures.specs.declared.opened.Next.TheVariants.{Down, Leaf, Made, Never}
use Rattle.tree_structures.specs.declared.opened.Walk.TheVariants.{On, Done, Stuck}
use Rattle.tree_structures.specs.Formed.{IsFormed, count_of}
use Rattle.tree_structures.specs.Known.{IsRight, kept, numbers_of}
use Rattle.tree_structures.specs.Inner.Stays.{Stays, IsNumbered}
use Rattle.tree_structures.specs.Inner.Walks.{daughters_in, open_tree, IsNext, IsBegun, Follows, IsWalking, WalksOn, left_of}
use Rattle.tree_structures.proofs.Rows.{has_daughters, few, phrase_full, no_phrase, lexical_is, lexical_never}
use Rattle.tree_structures.proofs.Asking.{item_at}
use Rattle.tree_structures.proofs.Walking.{next_low, daughter_full, down, up, along, same_tree, below_formed, below_full, begun_new, begun_more, begun_all, begun_on, down_less, leaf_less, up_less}

count_in : (ds : List Derivation) → count_of (in_order ds) ≡ length ds
count_in [] = refl
count_in (d ∷ ds) = let c = count_in ds in omega (arith, c)

module _ (g : Signs) (arities : HaveArities g) (o : Opened) (formed : IsFormed g (open_tree o)) where
  count_daughters : count_of (in_order (daughters_in o)) ≡ length o.daughters.now
  count_daughters = count_in (daughters_in o) ∙ length-map o.daughters.now derivation_of

  pub most_four : length o.daughters.now ≤ 4
  most_four = let n = few g o.rule (count_of (in_order (daughters_in o))) arities formed.0 in let c = count_daughters in omega (arith, n, c)

  pub next_four : (d : Derivation) → IsNext o d → o.known.count < 4
  next_four d n = let low = next_low o d n in let most = most_four in omega (arith, low, most)

  module _ (ss : List Structure) (begun : IsBegun g ss o) (all : length o.daughters.now ≤ o.known.count) where
    pub all_count : o.known.count ≡ length o.daughters.now
    all_count = let within = begun.within in omega (arith, within, all)

    pub all_most : o.known.count ≤ 4
    all_most = let c = all_count in let most = most_four in omega (arith, c, most)

    pub all_has : HasDaughters g o.rule o.known.count
    all_has = subst (HasDaughters g o.rule) (count_daughters ∙ sym all_count) (has_daughters g o.rule (count_of (in_order (daughters_in o))) formed.0)

    pub all_full : (f : Structure) → IsMother g o.rule begun.fulls f → Full g (open_tree o) f
    all_full f m = phrase_full g o.rule (in_order (daughters_in o)) begun.fulls f formed.0 (begun_all g ss o begun all) m

    pub all_never : IsOrder g.system → ((f : Structure) → IsMother g o.rule begun.fulls f → ⊥) → (f : Structure) → Full g (open_tree o) f → ⊥
    all_never order never = no_phrase g order o.rule (in_order (daughters_in o)) begun.fulls (begun_all g ss o begun all) never

-- the daughter at hand
pub next_is : (o : Opened) (item : Tree) → o.known.count < length o.daughters.now → item ≡ get_or o.daughters.now o.known.count item → IsNext o (derivation_of item)
next_is o item low is = slice_get-map derivation_of o.daughters.now o.known.count ∙ ap (option_map derivation_of) (item_at o.daughters.now o.known.count item low is)

-- a daughter that is a lexical tree
module _ (t : SignTree) (memo : FullMemo) (o : Opened) (entry : ℕ) (rules : Arc (Vec ℕ Global) Global) (words : Arc (Vec (String Global) Global) Global) (nodes : Option (ℕ × ℕ)) (item : Tree) (read : List ℕ)
    (next : IsNext o (derivation_of item)) (is : item ≡ Lexical entry rules words nodes) (same : read ≡ (arc_value rules).items) where
  pub leaf_follows : (n : ℕ) → IsNumbered t memo (FullLexical (signs_of t) entry read) (Some n) → Follows t memo o (Leaf n)
  leaf_follows n h = (derivation_of item, next, (h.0, h.1, lexical_is (signs_of t) entry rules words nodes item read is same h.0 h.2))

  pub leaf_never : ((f : Structure) → FullLexical (signs_of t) entry read f → ⊥) → Follows t memo o Never
  leaf_never never f full = let below = daughter_full (signs_of t) o (derivation_of item) f next full in lexical_never (signs_of t) entry rules words nodes item read is same never below.0 below.1

-- a daughter that is a phrase
pub phrase_follows : (t : SignTree) (memo : FullMemo) (o new : Opened) (item : Tree) (rule words : ℕ) (daughters : Arc (Vec Tree Global) Global) (read : List Tree) → IsNext o (derivation_of item) → item ≡ Phrase rule words daughters → read ≡ (arc_value daughters).items →
    new.rule ≡ rule → new.daughters.now ≡ read → new.known.count ≡ 0 → Follows t memo o (Down new)
phrase_follows t memo o new item rule words daughters read next is same r d none =
    let tree : derivation_of item ≡ phrase rule (in_order (map derivation_of (arc_value daughters).items)) = ap derivation_of is ∙ derivation_of-Phrase rule words daughters in
    let here : open_tree new ≡ phrase rule (in_order (map derivation_of (arc_value daughters).items)) = ap (λ x. phrase x (in_order (daughters_in new))) r ∙ ap (λ ts. phrase rule (in_order (map derivation_of ts))) (d ∙ same) in
    (subst (IsNext o) (tree ∙ sym here) next, none)

-- a number in other words
pub numbered_map : (t : SignTree) (memo : FullMemo) (P Q : Structure → Type 0) (r : Result (Option ℕ) NoMemory) → (((f : Structure) → P f → ⊥) → (f : Structure) → Q f → ⊥) → ((f : Structure) → P f → Q f) → IfOk r (IsNumbered t memo P) → IfOk r (IsNumbered t memo Q)
numbered_map t memo P Q (Ok None) never all h = never h
numbered_map t memo P Q (Ok (Some n)) never all h = (h.0, h.1, all h.0 h.2)
numbered_map t memo P Q (Err e) never all h = tt

pub right_of : (t : SignTree) (old new : FullMemo) (r : Result (Option ℕ) NoMemory) → IfOk r (λ o. Stays t old new) → IfOk r (λ o. IsRight t new)
right_of t old new (Ok o) h = h.right
right_of t old new (Err e) h = tt

module _ (t : SignTree) where
  pub walking_on : (old new : FullMemo) → Stays t old new → (whole : Derivation) (os : List Opened) (o : Opened) → IsWalking t old whole os o → IsWalking t new whole os o
  walking_on old new s whole os o w = record {
    below = w.below;
    waits = All-weaker (IsBegun (signs_of t) (kept t old.known.items)) (IsBegun (signs_of t) (kept t new.known.items)) (begun_on (signs_of t) (kept t old.known.items) (kept t new.known.items) s.known) os w.waits;
    begun = begun_on (signs_of t) (kept t old.known.items) (kept t new.known.items) s.known o w.begun;
  }

  pub walking_begin : (memo : FullMemo) (ws : List Opened) (o : Opened) (rule : ℕ) (ds : List Tree) → ws ≡ [] → o.rule ≡ rule → o.daughters.now ≡ ds → o.known.count ≡ 0 → IsWalking t memo (phrase rule (in_order (map derivation_of ds))) ws o
  walking_begin memo ws o rule ds empty r d none =
      let is : open_tree o ≡ phrase rule (in_order (map derivation_of ds)) = ap (λ x. phrase x (in_order (daughters_in o))) r ∙ ap (λ ts. phrase rule (in_order (map derivation_of ts))) d in
      subst (λ xs. IsWalking t memo (phrase rule (in_order (map derivation_of ds))) xs o) (sym empty) (record {
        below = sym is;
        waits = λ i d low. absurd (omega (arith, low));
        begun = begun_new (signs_of t) (kept t memo.known.items) o none;
      })

  module _ (memo : FullMemo) (whole : Derivation) (arities : HaveArities (signs_of t)) (formed : IsFormed (signs_of t) whole) where
    pub walk_down : (os new : List Opened) (o below : Opened) → IsWalking t memo whole os o → Follows t memo o (Down below) → new ≡ os ++ o ∷ [] → WalksOn t memo whole new (left_of os o) (On below)
    walk_down os new o below w f is = subst (λ ws. WalksOn t memo whole ws (left_of os o) (On below)) (sym is) (
      record {
        below = down whole os o below w.below f.0;
        waits = All-push (IsBegun (signs_of t) (kept t memo.known.items)) os o w.waits w.begun;
        begun = begun_new (signs_of t) (kept t memo.known.items) below f.1;
      },
      down_less os o below f.0 f.1,
    )

    module _ (os : List Opened) (o new : Opened) (n : ℕ) (rule : new.rule ≡ o.rule) (same : new.daughters.now ≡ o.daughters.now)
        (numbers : o.known.count < 4 → numbers_of new.known ≡ numbers_of o.known ++ n ∷ []) (count : o.known.count < 4 → new.known.count ≡ o.known.count + 1) where
      pub walk_leaf : IsWalking t memo whole os o → Follows t memo o (Leaf n) → WalksOn t memo whole os (left_of os o) (On new)
      walk_leaf w f =
          let d = f.0 in
          let room = next_four (signs_of t) arities o (below_formed (signs_of t) whole os o w.below formed) d f.1 in (
            record {
              below = along whole os o new w.below (sym (same_tree new o rule same));
              waits = w.waits;
              begun = begun_more (signs_of t) (kept t memo.known.items) o new d n f.2.0 w.begun f.1 f.2.1 f.2.2 same (numbers room) (count room);
            },
            leaf_less os o new d f.1 same (count room),
          )

      pub walk_up : (all : List Opened) (last : Opened) → all ≡ os ++ o ∷ [] → IsWalking t memo whole all last → Follows t memo last (Made n) → WalksOn t memo whole os (left_of all last) (On new)
      walk_up all last is w f = subst (λ ws. IsWalking t memo whole ws last → WalksOn t memo whole os (left_of ws last) (On new)) (sym is) here w
        where
          here : IsWalking t memo whole (os ++ o ∷ []) last → WalksOn t memo whole os (left_of (os ++ o ∷ []) last) (On new)
          here v =
              let above = up whole os o last v.below in
              let d = open_tree last in
              let room = next_four (signs_of t) arities o (below_formed (signs_of t) whole os o above.0 formed) d above.1 in
              let begun = last_begun os v.waits in (
                record {
                  below = along whole os o new above.0 (sym (same_tree new o rule same));
                  waits = begun.0;
                  begun = begun_more (signs_of t) (kept t memo.known.items) o new d n f.1.0 begun.1 above.1 f.1.1 f.1.2 same (numbers room) (count room);
                },
                up_less os o last new same (count room),
              )
            where
              last_begun : (xs : List Opened) → All (IsBegun (signs_of t) (kept t memo.known.items)) (xs ++ o ∷ []) → All (IsBegun (signs_of t) (kept t memo.known.items)) xs × IsBegun (signs_of t) (kept t memo.known.items) o
              last_begun [] h = ((λ i d low. absurd (omega (arith, low))), All-head (IsBegun (signs_of t) (kept t memo.known.items)) o [] h)
              last_begun (x ∷ xs) h = let rest = last_begun xs (All-tail (IsBegun (signs_of t) (kept t memo.known.items)) x (xs ++ o ∷ []) h) in
                  (All-cons (IsBegun (signs_of t) (kept t memo.known.items)) x xs (All-head (IsBegun (signs_of t) (kept t memo.known.items)) x (xs ++ o ∷ []) h) rest.0, rest.1)

    pub walk_done : (os new : List Opened) (o : Opened) (n : ℕ) (left : ℕ) → length os ≡ 0 → IsWalking t memo whole os o → Follows t memo o (Made n) → WalksOn t memo whole new left (Done n)
    walk_done [] new o n left none w f = (f.1.0, f.1.1, subst (λ d. Full (signs_of t) d f.1.0) (sym w.below) f.1.2)
    walk_done (x ∷ xs) new o n left none w f = absurd (omega (arith, none))

    pub walk_stuck : (os new : List Opened) (o : Opened) (left : ℕ) → IsWalking t memo whole os o → Follows t memo o Never → WalksOn t memo whole new left Stuck
    walk_stuck os new o left w never f full = let below = below_full (signs_of t) whole os o f w.below full in never below.0 below.1
