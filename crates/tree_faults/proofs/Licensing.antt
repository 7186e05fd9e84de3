-- Trees that differ in nodes alone have one explanation, and those that are explained as licensed are those that a lattice licenses.
use Rattle.std.specs.Prelude.{ℕ, ◌≡◌, List, Option, Some, None}
use Rattle.std.proofs.Common.{refl, sym, ◌∙◌, subst}
use Rattle.derivation.specs.Trees.{Derivation, Daughters, lexical}
use Rattle.tree_model.specs.Structures.{Structure}
use Rattle.tree_model.specs.Mothers.{Rule}
use Rattle.tree_model.specs.Signs.{Signs}
use Rattle.tree_model.specs.Lexical.{Word, Words}
use Rattle.tree_model.specs.Trees.{Full, full_lexical, full_phrase, Fulls, no_fulls, more_fulls, LeavesAre, leaf_is, leaves_are, AllLeavesAre, no_leaves, more_leaves}
use Rattle.tree_model.specs.Lattices.{Lattice}
use Rattle.tree_model.specs.Licensed.{IsLeaf}
use Rattle.forced_types.specs.Verdicts.{Verdict}
use Rattle.tree_faults.specs.Nodes.{Place, IsDaughterAt, daughter_here, daughter_later, within_rule, below_phrase, StandsAt, at_root, at_daughter, instance_of, IsMadeOf, made_of_entry, made_of_lexical, made_of_phrase}
use Rattle.tree_faults.specs.Spelled.{IsSpelled, AreSpelled, IsLeafAt, leaf_here, leaf_below, IsFirstMisspelled}
use Rattle.tree_faults.specs.Explained.{Explained, Licensed, Clashes, GoesTooFar, Misspelled, Unrooted, HasStructure, IsFirstWithout, IsExplained}
use Rattle.tree_faults.specs.Laws.{IsSameButNodes, AreSameButNodes, same_lexical, same_phrase, same_no_more, same_first, IsCarried, ExplainedIsLicensed, NodesAreFree}

mutual
  back : {t u : Derivation} → IsSameButNodes t u → IsSameButNodes u t
  back same_lexical = same_lexical
  back (same_phrase h) = same_phrase (all_back h)

  all_back : {ds es : Daughters} → AreSameButNodes ds es → AreSameButNodes es ds
  all_back same_no_more = same_no_more
  all_back (same_first h hs) = same_first (back h) (all_back hs)

module _ (g : Signs) where
  mutual
    full : {t u : Derivation} {f : Structure} → IsSameButNodes t u → Full g t f → Full g u f
    full same_lexical (full_lexical x) = full_lexical x
    full (same_phrase h) (full_phrase fs xs p) = full_phrase fs (fulls h xs) p

    fulls : {ds es : Daughters} {fs : List Structure} → AreSameButNodes ds es → Fulls g ds fs → Fulls g es fs
    fulls same_no_more no_fulls = no_fulls
    fulls (same_first h hs) (more_fulls x xs) = more_fulls (full h x) (fulls hs xs)

  has : {t u : Derivation} → IsSameButNodes t u → HasStructure g t → HasStructure g u
  has h x = (x.0, full h x.1)

  made : {t u : Derivation} {rule : Rule} {fs : List Structure} → IsSameButNodes t u → IsMadeOf g t rule fs → IsMadeOf g u rule fs
  made same_lexical (made_of_entry i e) = made_of_entry i e
  made same_lexical (made_of_lexical rules rule i f e x) = made_of_lexical rules rule i f e (full same_lexical x)
  made (same_phrase h) (made_of_phrase i fs e xs) = made_of_phrase i fs e (fulls h xs)

module _ (words : Words) where
  mutual
    spelled : {t u : Derivation} → IsSameButNodes t u → AreSpelled words t → AreSpelled words u
    spelled same_lexical (leaf_is x) = leaf_is x
    spelled (same_phrase h) (leaves_are xs) = leaves_are (all_spelled h xs)

    all_spelled : {ds es : Daughters} → AreSameButNodes ds es → AllLeavesAre (IsSpelled words) ds → AllLeavesAre (IsSpelled words) es
    all_spelled same_no_more no_leaves = no_leaves
    all_spelled (same_first h hs) (more_leaves x xs) = more_leaves (spelled h x) (all_spelled hs xs)

  spelled_alone : {t u : Derivation} → IsSameButNodes t u → IsSpelled words t → IsSpelled words u
  spelled_alone same_lexical x = x
  spelled_alone (same_phrase h) x = x

-- the licensed trees of a lattice
module _ (g : Signs) (words : Words) (lattice : Lattice) (most : ℕ) where
  leaf : (entry : ℕ) (rules : List ℕ) (said : List Word) (nodes : Option (ℕ × ℕ)) {f : Structure} → IsSpelled words (lexical entry rules said nodes) →
      IsCarried lattice most (lexical entry rules said nodes) → Full g (lexical entry rules said nodes) f → IsLeaf g words lattice most (lexical entry rules said nodes)
  leaf entry rules said None s c x = absurd c
  leaf entry rules said (Some n) {f = f} s c (full_lexical x) =
      (record { entry = entry; rules = rules; said = said; from = n.0; to = n.1; is = refl; spells = s; carried = c.0; structure = f; full = x }, c.1)

  mutual
    leaves : {t : Derivation} {f : Structure} → AreSpelled words t → LeavesAre (IsCarried lattice most) t → Full g t f → LeavesAre (IsLeaf g words lattice most) t
    leaves (leaf_is s) (leaf_is c) x = leaf_is (leaf _ _ _ _ s c x)
    leaves (leaves_are ss) (leaves_are cs) (full_phrase fs xs p) = leaves_are (all_leaves ss cs xs)

    all_leaves : {ds : Daughters} {fs : List Structure} → AllLeavesAre (IsSpelled words) ds → AllLeavesAre (IsCarried lattice most) ds → Fulls g ds fs → AllLeavesAre (IsLeaf g words lattice most) ds
    all_leaves no_leaves no_leaves xs = no_leaves
    all_leaves (more_leaves s ss) (more_leaves c cs) (more_fulls x xs) = more_leaves (leaves s c x) (all_leaves ss cs xs)

  mutual
    said_so : {t : Derivation} → LeavesAre (IsLeaf g words lattice most) t → AreSpelled words t
    said_so (leaf_is l) = leaf_is (subst (IsSpelled words) (sym l.0.is) l.0.spells)
    said_so (leaves_are ls) = leaves_are (all_said ls)

    all_said : {ds : Daughters} → AllLeavesAre (IsLeaf g words lattice most) ds → AllLeavesAre (IsSpelled words) ds
    all_said no_leaves = no_leaves
    all_said (more_leaves l ls) = more_leaves (said_so l) (all_said ls)

pub explained_is_licensed : ExplainedIsLicensed
explained_is_licensed g words lattice most written t same spans carried = (
  (λ e. record { leaves = leaves g words lattice most (spelled words same e.2) carried (full g same e.1); spans = spans; structure = e.0; full = full g same e.1; rooted = e.3 }),
  (λ l. (l.structure, full g (back same) l.full, spelled words (back same) (said_so g words lattice most l.leaves), l.rooted)),
)

-- what stands at a place of the one and of the other
abbrev Beside : Derivation → Derivation → Place → Type 0
Beside u node place = (other : Derivation) × StandsAt u place other × IsSameButNodes node other

daughter_beside : {ds es : Daughters} {n : ℕ} {d : Derivation} → AreSameButNodes ds es → IsDaughterAt ds n d → (e : Derivation) × IsDaughterAt es n e × IsSameButNodes d e
daughter_beside same_no_more x = elim x [ ]
daughter_beside (same_first h hs) daughter_here = (_, daughter_here, h)
daughter_beside (same_first h hs) (daughter_later at) = let z = daughter_beside hs at in (z.0, daughter_later z.1, z.2)

node_beside : {t u node : Derivation} {place : Place} → IsSameButNodes t u → StandsAt t place node → Beside u node place
node_beside same at_root = (_, at_root, same)
node_beside same_lexical (at_daughter (within_rule rules rule) at) = let z = node_beside same_lexical at in (z.0, at_daughter (within_rule rules rule) z.1, z.2)
node_beside (same_phrase h) (at_daughter (below_phrase d) at) =
    let e = daughter_beside h d in let z = node_beside e.2 at in (z.0, at_daughter (below_phrase e.1) z.1, z.2)

leaf_beside : {t u node : Derivation} {place : Place} → IsSameButNodes t u → IsLeafAt t place node → (other : Derivation) × IsLeafAt u place other × IsSameButNodes node other
leaf_beside same_lexical leaf_here = (_, leaf_here, same_lexical)
leaf_beside (same_phrase h) (leaf_below d at) = let e = daughter_beside h d in let z = leaf_beside e.2 at in (z.0, leaf_below e.1 z.1, z.2)

instance_same : {t u : Derivation} → IsSameButNodes t u → instance_of t ≡ instance_of u
instance_same same_lexical = refl
instance_same (same_phrase h) = refl

first_without : (g : Signs) {t u : Derivation} (place : Place) (instance : ℕ) (verdict : Verdict) → IsSameButNodes t u → IsFirstWithout g t place instance verdict → IsFirstWithout g u place instance verdict
first_without g place instance verdict same x =
    let z = node_beside same x.stands in
    record {
      node = z.0;
      stands = z.1;
      named = sym (instance_same z.2) ∙ x.named;
      none = λ y. x.none (has g (back z.2) y);
      before = λ q other at comes. (let w = node_beside (back same) at in has g (back w.2) (x.before q w.0 w.1 comes));
      rule = x.rule;
      daughters = x.daughters;
      made_of = made g z.2 x.made_of;
      forced = x.forced;
    }

lexical_beside : {t u : Derivation} {entry : ℕ} {rules : List ℕ} {said : List Word} {nodes : Option (ℕ × ℕ)} {place : Place} → IsSameButNodes t u → IsLeafAt t place (lexical entry rules said nodes) →
    (other : Option (ℕ × ℕ)) × IsLeafAt u place (lexical entry rules said other)
lexical_beside same at = named (leaf_beside same at)
  where
    named : {u : Derivation} {entry : ℕ} {rules : List ℕ} {said : List Word} {nodes : Option (ℕ × ℕ)} {place : Place} →
        ((other : Derivation) × IsLeafAt u place other × IsSameButNodes (lexical entry rules said nodes) other) → (other : Option (ℕ × ℕ)) × IsLeafAt u place (lexical entry rules said other)
    named (_, at, same_lexical) = (_, at)

misspelled : (words : Words) {t u : Derivation} (place : Place) (instance : ℕ) → IsSameButNodes t u → IsFirstMisspelled words t place instance → IsFirstMisspelled words u place instance
misspelled words place instance same x =
    let z = lexical_beside same x.leaf in
    record {
      entry = x.entry;
      rules = x.rules;
      said = x.said;
      nodes = z.0;
      top = x.top;
      leaf = z.1;
      before = λ q other at comes. (let w = leaf_beside (back same) at in spelled_alone words (back w.2) (x.before q w.0 w.1 comes));
      inner = x.inner;
      fails = x.fails;
      place_is = x.place_is;
    }

explained : (g : Signs) (words : Words) {t u : Derivation} → IsSameButNodes t u → (e : Explained) → IsExplained g words t e → IsExplained g words u e
explained g words same Licensed x = (x.0, full g same x.1, spelled words same x.2, x.3)
explained g words same (Clashes place instance path a b) x = first_without g place instance _ same x
explained g words same (GoesTooFar place instance path) x = first_without g place instance _ same x
explained g words same (Misspelled place instance) x = (has g same x.0, misspelled words place instance same x.1)
explained g words same Unrooted x = (has g same x.0, spelled words same x.1, λ f y. x.2 f (full g (back same) y))

pub nodes_are_free : NodesAreFree
nodes_are_free g words t u same e = (explained g words same e, explained g words (back same) e)
