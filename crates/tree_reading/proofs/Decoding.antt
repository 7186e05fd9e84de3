-- A text is that of one shape.
use Rattle.std.proofs.Common.{◌≡◌, ℕ, true, List, [], ◌∷◌, ◌++◌, Option, refl, sym, ap, ◌∙◌, append_assoc, arith}
use Rattle.std.specs.List.{flat_map, join_with_byte}
use Rattle.derivation.specs.Text.{nodes_text, escaped}
use Rattle.tree_reading.specs.Grammars.{ends_name, IsName}
use Rattle.tree_reading.specs.Inner.Shapes.{Shape, Shapes, leaf, node, none, more, joined, text, texts, IsPlain, ArePlain, Begins}
use Rattle.tree_reading.specs.Inner.Stops.{body, ending}
use Rattle.tree_reading.proofs.Runs.{heads, rests, run_splits}
use Rattle.tree_reading.proofs.WordTexts.{decode_body}
use Rattle.tree_reading.proofs.NodeTexts.{decode_ending}

leaf_row : (n f o r : List ℕ) → (((40 ∷ n) ++ (((32 ∷ 34 ∷ f) ++ 34 ∷ []) ++ o)) ++ 41 ∷ []) ++ r ≡ 40 ∷ (n ++ 32 ∷ 34 ∷ ((f ++ 34 ∷ []) ++ ((o ++ 41 ∷ []) ++ r)))
leaf_row n f o r =
    let x = 32 ∷ 34 ∷ ((f ++ 34 ∷ []) ++ o) in
    ap (λ t. 40 ∷ t) (append_assoc (n ++ x) (41 ∷ []) r ∙ append_assoc n x (41 ∷ r)
    ∙ ap (λ t. n ++ 32 ∷ 34 ∷ t) (append_assoc (f ++ 34 ∷ []) o (41 ∷ r) ∙ ap (λ t. (f ++ 34 ∷ []) ++ t) (sym (append_assoc o (41 ∷ []) r))))

pub leaf_text : (n : List ℕ) (ws : List (List ℕ)) (ns : Option (ℕ × ℕ)) (r : List ℕ) → text (leaf n ws ns) ++ r ≡ 40 ∷ (n ++ 32 ∷ 34 ∷ (body ws ++ (ending ns ++ r)))
leaf_text n ws ns r = leaf_row n (flat_map escaped (join_with_byte 32 ws)) (nodes_text true ns) r

pub node_text : (n : List ℕ) (ss : Shapes) (r : List ℕ) → text (node n ss) ++ r ≡ 40 ∷ (n ++ (texts ss ++ 41 ∷ r))
node_text n ss r = simp append_assoc

pub more_texts : (s : Shape) (ss : Shapes) (r : List ℕ) → texts (more s ss) ++ r ≡ 32 ∷ (text s ++ (texts ss ++ r))
more_texts s ss r = simp append_assoc

pub texts_joined : (ss ts : Shapes) → texts (joined ss ts) ≡ texts ss ++ texts ts
texts_joined none ts = refl
texts_joined (more s ss) ts = ap (λ u. 32 ∷ text s ++ u) (texts_joined ss ts) ∙ sym (append_assoc (32 ∷ text s) (texts ss) (texts ts))

pub text_begins : (s : Shape) (r : List ℕ) → (u : List ℕ) × (text s ++ r ≡ 40 ∷ u)
text_begins (leaf n ws ns) r = (_, leaf_text n ws ns r)
text_begins (node n ss) r = (_, node_text n ss r)

pub begins_text : (s : Shape) (r : List ℕ) → Begins 40 (text s ++ r)
begins_text (leaf n ws ns) r = refl
begins_text (node n ss) r = refl

-- what follows a name within a node
texts_cut : (ss : Shapes) (r : List ℕ) → (x : ℕ) × (u : List ℕ) × (texts ss ++ 41 ∷ r ≡ x ∷ u) × (ends_name x ≡ true)
texts_cut none r = (41, r, refl, refl)
texts_cut (more s ss) r = (32, _, more_texts s ss (41 ∷ r), refl)

-- a name and what follows it
name_splits : (n m : List ℕ) (a b : List ℕ) (x y : ℕ) (r s : List ℕ) → IsName n → IsName m → ends_name x ≡ true → ends_name y ≡ true → a ≡ x ∷ r → b ≡ y ∷ s →
    40 ∷ (n ++ a) ≡ 40 ∷ (m ++ b) → (n ≡ m) × (a ≡ b)
name_splits n m a b x y r s hn hm hx hy ea eb e =
    let whole : n ++ x ∷ r ≡ m ++ y ∷ s = ap (λ t. n ++ t) (sym ea) ∙ rests _ _ _ _ e ∙ ap (λ t. m ++ t) eb in
    let h = run_splits ends_name n m x y r s hn.1 hm.1 hx hy whole in
    (h.0, ea ∙ ap (λ t. t ∷ r) h.1 ∙ ap (λ t. y ∷ t) h.2 ∙ sym eb)

-- quotes don't stand where daughters do
no_quote : (ss : Shapes) (u r : List ℕ) → 32 ∷ 34 ∷ u ≡ texts ss ++ 41 ∷ r → ⊥
no_quote none u r e = omega (arith, heads _ _ _ _ e)
no_quote (more s ss) u r e =
    let b = text_begins s (texts ss ++ 41 ∷ r) in
    let h : 32 ∷ 34 ∷ u ≡ 32 ∷ (40 ∷ b.0) = e ∙ more_texts s ss (41 ∷ r) ∙ ap (λ v. 32 ∷ v) b.1 in omega (arith, heads _ _ _ _ (rests _ _ _ _ h))

mutual
  pub decode : (a b : Shape) (r s : List ℕ) → IsPlain a → IsPlain b → text a ++ r ≡ text b ++ s → (a ≡ b) × (r ≡ s)
  decode (leaf n ws ns) (leaf m vs ms) r s pa pb e =
      let h = name_splits n m _ _ 32 32 _ _ pa.0 pb.0 refl refl refl refl (sym (leaf_text n ws ns r) ∙ e ∙ leaf_text m vs ms s) in
      let inner : body ws ++ (ending ns ++ r) ≡ body vs ++ (ending ms ++ s) = rests _ _ _ _ (rests _ _ _ _ h.1) in
      let w = decode_body ws vs (ending ns ++ r) (ending ms ++ s) pa.1 pb.1 inner in
      let d = decode_ending ns ms r s pa.2 pb.2 w.1 in
      (cc (h.0, w.0, d.0), d.1)
  decode (leaf n ws ns) (node m ts) r s pa pb e =
      let t = texts_cut ts s in
      let h = name_splits n m _ _ 32 t.0 _ t.1 pa.0 pb.0 refl t.3 refl t.2 (sym (leaf_text n ws ns r) ∙ e ∙ node_text m ts s) in
      absurd (no_quote ts _ s h.1)
  decode (node n ss) (leaf m vs ms) r s pa pb e =
      let t = texts_cut ss r in
      let h = name_splits n m _ _ t.0 32 t.1 _ pa.0 pb.0 t.3 refl t.2 refl (sym (node_text n ss r) ∙ e ∙ leaf_text m vs ms s) in
      absurd (no_quote ss _ r (sym h.1))
  decode (node n ss) (node m ts) r s pa pb e =
      let t = texts_cut ss r in
      let u = texts_cut ts s in
      let h = name_splits n m _ _ t.0 u.0 t.1 u.1 pa.0 pb.0 t.3 u.3 t.2 u.2 (sym (node_text n ss r) ∙ e ∙ node_text m ts s) in
      let d = decode_all ss ts r s pa.1 pb.1 h.1 in
      (cc (h.0, d.0), d.1)

  pub decode_all : (ss ts : Shapes) (r s : List ℕ) → ArePlain ss → ArePlain ts → texts ss ++ 41 ∷ r ≡ texts ts ++ 41 ∷ s → (ss ≡ ts) × (r ≡ s)
  decode_all none none r s pa pb e = (refl, rests _ _ _ _ e)
  decode_all none (more t ts) r s pa pb e = absurd (omega (arith, heads _ _ _ _ (e ∙ more_texts t ts (41 ∷ s))))
  decode_all (more t ss) none r s pa pb e = absurd (omega (arith, heads _ _ _ _ (sym e ∙ more_texts t ss (41 ∷ r))))
  decode_all (more t ss) (more u ts) r s pa pb e =
      let h : 32 ∷ (text t ++ (texts ss ++ 41 ∷ r)) ≡ 32 ∷ (text u ++ (texts ts ++ 41 ∷ s)) = sym (more_texts t ss (41 ∷ r)) ∙ e ∙ more_texts u ts (41 ∷ s) in
      let inner : text t ++ (texts ss ++ 41 ∷ r) ≡ text u ++ (texts ts ++ 41 ∷ s) = rests _ _ _ _ h in
      let d = decode t u (texts ss ++ 41 ∷ r) (texts ts ++ 41 ∷ s) pa.0 pb.0 inner in
      let e' = decode_all ss ts r s pa.1 pb.1 d.1 in
      (cc (d.0, e'.0), e'.1)

-- the daughters that are read, the next one and those after it
pub split_texts : (done ss : Shapes) (r s : List ℕ) → ArePlain done → ArePlain ss → texts done ++ 32 ∷ r ≡ texts ss ++ 41 ∷ s →
    (sub : Shape) × (later : Shapes) × (ss ≡ joined done (more sub later)) × (r ≡ text sub ++ (texts later ++ 41 ∷ s))
split_texts none none r s pd ps e = absurd (omega (arith, heads _ _ _ _ e))
split_texts none (more t ts) r s pd ps e =
    let h : 32 ∷ r ≡ 32 ∷ (text t ++ (texts ts ++ 41 ∷ s)) = e ∙ more_texts t ts (41 ∷ s) in (t, ts, refl, rests _ _ _ _ h)
split_texts (more d ds) none r s pd ps e = absurd (omega (arith, heads _ _ _ _ (sym e ∙ more_texts d ds (32 ∷ r))))
split_texts (more d ds) (more t ts) r s pd ps e =
    let h : 32 ∷ (text d ++ (texts ds ++ 32 ∷ r)) ≡ 32 ∷ (text t ++ (texts ts ++ 41 ∷ s)) = sym (more_texts d ds (32 ∷ r)) ∙ e ∙ more_texts t ts (41 ∷ s) in
    let inner : text d ++ (texts ds ++ 32 ∷ r) ≡ text t ++ (texts ts ++ 41 ∷ s) = rests _ _ _ _ h in
    let c = decode d t (texts ds ++ 32 ∷ r) (texts ts ++ 41 ∷ s) pd.0 ps.0 inner in
    let k = split_texts ds ts r s pd.1 ps.1 c.1 in
    (k.0, k.1, cc (c.0, k.2), k.3)

-- a rule's text as far as it is read
done_cut : (done : Shapes) (r : List ℕ) → (u : List ℕ) × (texts done ++ 32 ∷ r ≡ 32 ∷ u)
done_cut none r = (r, refl)
done_cut (more d ds) r = (_, more_texts d ds (32 ∷ r))

no_leaf : (done : Shapes) (u r : List ℕ) → (done ≡ none → Begins 40 r) → 32 ∷ 34 ∷ u ≡ texts done ++ 32 ∷ r → ⊥
no_leaf none u [] b e = b refl
no_leaf none u (x ∷ r) b e = let is : x ≡ 40 = b refl in omega (arith, is, heads _ _ _ _ (rests _ _ _ _ e))
no_leaf (more d ds) u r b e =
    let k = text_begins d (texts ds ++ 32 ∷ r) in
    let h : 32 ∷ 34 ∷ u ≡ 32 ∷ (40 ∷ k.0) = e ∙ more_texts d ds (32 ∷ r) ∙ ap (λ v. 32 ∷ v) k.1 in omega (arith, heads _ _ _ _ (rests _ _ _ _ h))

pub split_node : (s : Shape) (name : List ℕ) (done : Shapes) (r rest : List ℕ) → IsPlain s → IsName name → ArePlain done → (done ≡ none → Begins 40 r) →
    40 ∷ (name ++ (texts done ++ 32 ∷ r)) ≡ text s ++ rest →
    (sub : Shape) × (later : Shapes) × (s ≡ node name (joined done (more sub later))) × (r ≡ text sub ++ (texts later ++ 41 ∷ rest))
split_node (leaf n ws ns) name done r rest ps hn pd b e =
    let c = done_cut done r in
    let h = name_splits n name _ _ 32 32 _ c.0 ps.0 hn refl refl refl c.1 (sym (leaf_text n ws ns rest) ∙ sym e) in
    absurd (no_leaf done _ r b h.1)
split_node (node n ss) name done r rest ps hn pd b e =
    let c = done_cut done r in
    let t = texts_cut ss rest in
    let h = name_splits name n _ _ 32 t.0 c.0 t.1 hn ps.0 refl t.3 c.1 t.2 (e ∙ node_text n ss rest) in
    let k = split_texts done ss r rest pd ps.1 h.1 in
    (k.0, k.1, cc (h.0, k.2), k.3)
