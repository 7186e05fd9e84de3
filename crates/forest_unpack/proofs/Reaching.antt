-- What lists hold are full structures of leaves and of phrases.
use Rattle.std.specs.Prelude.{◌≡◌, ℕ, ◌<◌, Bool, Option, Some, All, List, [], ◌∷◌, ◌++◌, length, map}
use Rattle.std.proofs.Common.{Vec, Global, ap, subst, sym, get_or}
use Rattle.std.proofs.lemmas.List.Elements.{All-head, All-tail, All-nil, All-cons, All-append, All-contains, All-push, All-map}
use Rattle.std.specs.Arc.{arc_value}
use Rattle.chart_core.specs.declared.Row.{Row}
use Rattle.tree_model.specs.Readings.{Wholes}
use Rattle.tree_model.specs.Lists as model
use Rattle.forest_unpack.specs.declared.item.Item.{Item}
use Rattle.forest_unpack.specs.Items.{item_of, list_in, list_at, IsMade, IsListed}
use Rattle.forest_unpack.specs.declared.sifting.LeftOut.{LeftOut}
use Rattle.forest_unpack.specs.Plans.{Fits, IsPlan}
use Rattle.forest_unpack.specs.Sifted.{AreGathered}
use Rattle.forest_unpack.specs.Reached.{IsReached, reached_leaf, reached_phrase}
use Rattle.forest_unpack.specs.Inner.Memos.{IsReachedItem, AreReached}
use Rattle.tree_model.proofs.Ordered.{has_contains}
use Rattle.forest_unpack.proofs.Memos.{made_is}

unmapped : {A B : Type 0} (P : B → Type 0) (f : A → B) (xs : List A) → All P (map f xs) → All (λ x. P (f x)) xs
unmapped P f [] all = All-nil (λ x. P (f x))
unmapped P f (x ∷ xs) all = All-cons (λ y. P (f y)) x xs (All-head P (f x) (map f xs) all) (unmapped P f xs (All-tail P (f x) (map f xs) all))

-- each of these has it
pub every : {A : Type 0} (P : A → Type 0) (xs : List A) → ((x : A) → model.Has x xs → P x) → All P xs
every P [] all = All-nil P
every P (x ∷ xs) all = All-cons P x xs (all x model.has_here) (every P xs (λ y has. all y (model.has_there has)))

module _ {C V : Type 0} (w : Wholes V C) (named : ℕ → Type 0) where
  abbrev Holds : model.Item V → Type 0
  Holds item = IsReached w named item.full

  -- a leaf's row has a name that leaves may have
  abbrev Named : model.GroupRow → Type 0
  Named (model.a_leaf name) = named name
  Named (model.a_whole rule ds) = Unit {0}

  made_reached : {rule : ℕ} {cut : Bool} {tts : List (List (model.Item V))} {made : List (model.Item V)} → model.Makes w rule cut tts made → All Holds made
  made_reached model.makes_none = All-nil Holds
  made_reached (model.stops tts e) = All-nil Holds
  made_reached (model.fails parts more made never rest) = made_reached rest
  made_reached {rule = rule} (model.makes parts more made v f rest) = All-cons Holds _ made (reached_phrase rule _ v f) (made_reached rest)

  module _ (cut : Bool) (table : ℕ → List (model.Item V)) (listed : ℕ → Type 0) where
    gives_reached : {row : model.GroupRow} {xs : List (model.Item V)} → Named row → model.Gives w cut table listed row xs → All Holds xs
    gives_reached n (model.gives_leaf name) = All-cons Holds _ [] (reached_leaf name n) (All-nil Holds)
    gives_reached n (model.gives_whole rule ds made there m) = made_reached m

    gather_reached : {told : List model.GroupRow} {xs : List (model.Item V)} → ((row : model.GroupRow) → model.Has row told → Named row) → model.Gather w cut table listed told xs → All Holds xs
    gather_reached n model.gather_none = All-nil Holds
    gather_reached n (model.gather_stops told e) = All-nil Holds
    gather_reached n (model.gather_more row told xs ys g rest) = All-append Holds xs ys (gives_reached (n row model.has_here) g) (gather_reached (λ r h. n r (model.has_there h)) rest)

  fits_named : (ruled : ℕ → ℕ → Type 0) (hosts : ℕ) (ranks : List ℕ) (host : ℕ) (row : model.GroupRow) → Fits named ruled hosts ranks host row → Named row
  fits_named ruled hosts ranks host (model.a_leaf name) f = f
  fits_named ruled hosts ranks host (model.a_whole rule ds) f = tt

module _ {X T C W V : Type 0} (value : T → V) (w : Wholes V C) (named : ℕ → Type 0) where
  -- lists that were gathered by a plan hold what leaves and rules give
  pub gathered_reached : {Y S D U B : Type 0} (ruled : ℕ → ℕ → Type 0) (left : LeftOut) (cut : Bool) (rows : List (Row Y S D U B)) (last before : List (Option ℕ)) (ranks : List ℕ) (table : List (Option (Vec (Item X T C W) Global))) → IsPlan named ruled rows last before ranks → AreGathered value w left cut rows table → AreReached value w named table
  gathered_reached ruled left cut rows last before ranks table plan gathered h made at =
      let listed : IsListed table h = subst IsMade (sym at) tt in
      let g = gathered h listed in
      let all = gather_reached w named cut (list_at value table) (IsListed table) (λ row has. fits_named w named ruled (length rows) ranks h row (plan.fits h g.gathered.told g.gathered.is row has)) g.gathered.gather in
      let some = every (Holds w named) (list_at value table h) (λ item has. All-contains (Holds w named) g.all item all (has_contains (g.sifted.each item has))) in
      unmapped (Holds w named) (item_of value) made.items (subst (All (Holds w named)) (ap (list_in value) at) some)

  -- the items of a list that was made
  pub listed_reached : (table : List (Option (Vec (Item X T C W) Global))) (host : ℕ) (x : Option (Vec (Item X T C W) Global)) (made : Vec (Item X T C W) Global) (items : List (Item X T C W)) → AreReached value w named table → IsListed table host → x ≡ get_or table host x → x ≡ Some made → items ≡ made.items → All (IsReachedItem value w named) items
  listed_reached table host x made items r is e f same = subst (All (IsReachedItem value w named)) (sym same) (r host made (made_is value table host x made is e f))

  -- one more daughter chosen
  pub chosen_reached : (front next items : List (Item X T C W)) (i : ℕ) (x : Item X T C W) → All (IsReachedItem value w named) front → All (IsReachedItem value w named) items → i < length items → x ≡ get_or items i x → next ≡ front ++ x ∷ [] → All (IsReachedItem value w named) next
  chosen_reached front next items i x before all low at is = subst (All (IsReachedItem value w named)) (sym is) (All-push (IsReachedItem value w named) front x before (subst (IsReachedItem value w named) (sym at) (all i x low)))

  pub none_reached : (items : List (Item X T C W)) → items ≡ [] → All (IsReachedItem value w named) items
  none_reached items is = subst (All (IsReachedItem value w named)) (sym is) (All-nil (IsReachedItem value w named))

  -- their full structures, as the parts of a phrase
  pub parts_reached : (items : List (Item X T C W)) (ps : List T) → ps ≡ map (λ item. arc_value item.full) items → All (IsReachedItem value w named) items → All (IsReached w named) (map value ps)
  parts_reached items ps is all =
      subst (λ zs. All (IsReached w named) (map value zs)) (sym is)
      (All-map (IsReached w named) value (map (λ item. arc_value item.full) items) (All-map (λ t. IsReached w named (value t)) (λ item. arc_value item.full) items all))
