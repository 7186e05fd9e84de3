-- What a rule makes of choices of daughters.
use Rattle.std.specs.Prelude.{◌≡◌, ℕ, Bool, false, List, [], ◌∷◌, map, refl}
use Rattle.std.proofs.Common.{ap, subst, sym, ◌∙◌}
use Rattle.derivation.specs.Trees.{Derivation, phrase}
use Rattle.derivation.specs.Views.{in_order}
use Rattle.tree_model.specs.Readings.{Wholes}
use Rattle.tree_model.specs.Lists.{Has, has_here, has_there, AllDiffer, differ_none, differ_more, Item, Makes, makes_none, stops, fails, makes}
use Rattle.tree_model.proofs.Members.{has_map, map_has}

in_order_one : (xs ys : List Derivation) → in_order xs ≡ in_order ys → xs ≡ ys
in_order_one [] [] e = refl
in_order_one [] (y ∷ ys) e = absurd (cc)
in_order_one (x ∷ xs) [] e = absurd (cc)
in_order_one (x ∷ xs) (y ∷ ys) e =
    let p : in_order xs ≡ in_order ys = cc in
    let q : x ≡ y = cc in
    let r = in_order_one xs ys p in cc

module _ {V : Type 0} where
  abbrev pub trees_in : List (Item V) → List Derivation
  trees_in items = map (λ item. item.tree) items

  abbrev pub fulls_in : List (Item V) → List V
  fulls_in items = map (λ item. item.full) items

module _ {C V : Type 0} (w : Wholes V C) (rule : ℕ) (cut : Bool) where
  abbrev pub item_of : List (Item V) → V → Item V
  item_of parts v = record { tree = phrase (w.place rule) (in_order (trees_in parts)); full = v }

  -- an item that the rule made
  pub record Made (tts : List (List (Item V))) (item : Item V) : Type 0 where
    pub parts : List (Item V)
    pub has : Has parts tts
    pub full : w.full rule (fulls_in parts) item.full
    pub is : item ≡ item_of parts item.full

  made_there : {parts : List (Item V)} {tts : List (List (Item V))} {item : Item V} → Made tts item → Made (parts ∷ tts) item
  made_there m = record { parts = m.parts; has = has_there m.has; full = m.full; is = m.is }

  pub makes_sound : {tts : List (List (Item V))} {made : List (Item V)} → Makes w rule cut tts made → (item : Item V) → Has item made → Made tts item
  makes_sound makes_none item h = elim h [ ]
  makes_sound (stops tts e) item h = elim h [ ]
  makes_sound (fails parts more made never rest) item h = made_there (makes_sound rest item h)
  makes_sound (makes parts more made v f rest) item has_here = record { parts = parts; has = has_here; full = f; is = refl }
  makes_sound (makes parts more made v f rest) item (has_there h) = made_there (makes_sound rest item h)

  module _ (whole : cut ≡ false) (one_full : (vs : List V) (v u : V) → w.full rule vs v → w.full rule vs u → v ≡ u) where
    pub makes_all : {tts : List (List (Item V))} {made : List (Item V)} → Makes w rule cut tts made → (parts : List (Item V)) (v : V) → Has parts tts → w.full rule (fulls_in parts) v → Has (item_of parts v) made
    makes_all makes_none parts v h f = elim h [ ]
    makes_all (stops tts e) parts v h f = absurd (cc)
    makes_all (fails parts more made never rest) _ v has_here f = absurd (never v f)
    makes_all (fails parts more made never rest) other v (has_there h) f = makes_all rest other v h f
    makes_all (makes parts more made u g rest) _ v has_here f = subst (λ z. Has (item_of parts z) (item_of parts u ∷ made)) (one_full (fulls_in parts) u v g f) has_here
    makes_all (makes parts more made u g rest) other v (has_there h) f = has_there (makes_all rest other v h f)

  pub makes_differ : {tts : List (List (Item V))} {made : List (Item V)} → Makes w rule cut tts made → AllDiffer (map trees_in tts) → AllDiffer (trees_in made)
  makes_differ makes_none d = differ_none
  makes_differ (stops tts e) d = differ_none
  makes_differ (fails parts more made never rest) (differ_more not d) = makes_differ rest d
  makes_differ (makes parts more made v f rest) (differ_more not d) =
      differ_more
      (λ h.
      let r = has_map (λ item. item.tree) made h in
      let m = makes_sound rest r.source r.has in
      let e : phrase (w.place rule) (in_order (trees_in m.parts)) ≡ phrase (w.place rule) (in_order (trees_in parts)) = sym (ap (λ item. item.tree) m.is) ∙ r.is in
      let p : in_order (trees_in m.parts) ≡ in_order (trees_in parts) = cc in
      not (subst (λ z. Has z (map trees_in more)) (in_order_one (trees_in m.parts) (trees_in parts) p) (map_has trees_in m.has)))
      (makes_differ rest d)
