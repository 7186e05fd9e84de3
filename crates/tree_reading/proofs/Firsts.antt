-- The first fault of a line, and its one tree.
use Rattle.std.proofs.Common.{◌≡◌, ℕ, suc, true, false, not, ◌==◌, List, [], ◌∷◌, ◌++◌, length, take, drop, refl, sym, ap, subst, ◌∙◌, append_assoc, append-nil, ◌<◌, ◌≤◌, ◌-◌, arith, length-append, eq-eqb}
use Rattle.std.specs.List.{All}
use Rattle.std.proofs.lemmas.List.{take-append-le, take-append-drop}
use Rattle.std.proofs.lemmas.List.Elements.{All-head, All-tail, All-nil, All-cons}
use Rattle.derivation.specs.Trees.{Derivation, Daughters, lexical, phrase, no_more, first}
use Rattle.derivation.specs.Text.{text_of}
use Rattle.derivation.specs.Views.{derivation_of}
use Rattle.derivation.specs.declared.Tree.{Tree}
use Rattle.tree_reading.specs.Grammars.{TreeGrammar, HasEntry, IsOver, AreOver, count_daughters}
use Rattle.tree_reading.specs.Texts.{Writes, IsTreeOf, GoesOn, IsFirstFault}
use Rattle.tree_reading.specs.Inner.Shapes.{text, shape, Begins}
use Rattle.tree_reading.specs.Inner.Begun.{HasBlanks, IsWritten}
use Rattle.tree_reading.specs.Inner.Stops.{Fails, IsText, IsAlike}
use Rattle.tree_reading.proofs.Runs.{run_within}
use Rattle.tree_reading.proofs.Decoding.{begins_text}
use Rattle.tree_reading.proofs.Overs.{text_is, over_shape, tree_of_shape}

-- a tree has an entry
mutual
  over_entry : (g : TreeGrammar) (t : Derivation) → IsOver g t → HasEntry g
  over_entry g (lexical e rules words nodes) h = (e, h.0)
  over_entry g (phrase r ds) h = over_entries g ds h.2 h.1

  over_entries : (g : TreeGrammar) (ds : Daughters) → AreOver g ds → 0 < count_daughters ds → HasEntry g
  over_entries g no_more h lt = absurd (omega (arith, lt))
  over_entries g (first d ds) h lt = over_entry g d h.0

pub no_entry_fault : (g : TreeGrammar) (line : List ℕ) → (HasEntry g → ⊥) → IsFirstFault g line 0
no_entry_fault g line none = record {
  within = omega arith;
  none = λ tree w. none (over_entry g tree w.over);
  before = λ n lt. absurd (omega (arith, lt));
  here = λ lt k. none (over_entry g k.1 k.2.over);
}

blank_as : (bs : List ℕ) → All (λ b. b ≡ 32) bs → All (λ b. not (b == 32) ≡ false) bs
blank_as [] h = All-nil (λ b. not (b == 32) ≡ false)
blank_as (b ∷ bs) h =
    All-cons (λ b. not (b == 32) ≡ false) b bs (ap not (eq-eqb b 32 (All-head (λ b. b ≡ 32) b bs h))) (blank_as bs (All-tail (λ b. b ≡ 32) b bs h))

blank_at : (others : List ℕ) (c : ℕ) (extra : List ℕ) → All (λ b. b ≡ 32) (others ++ c ∷ extra) → c ≡ 32
blank_at [] c extra all = All-head (λ b. b ≡ 32) c extra all
blank_at (d ∷ others) c extra all = blank_at others c extra (All-tail (λ b. b ≡ 32) d (others ++ c ∷ extra) all)

-- blanks before a text are those before a tree
stripped_by : (extra others : List ℕ) (v rest : List ℕ) → All (λ b. b ≡ 32) (others ++ extra) → (Begins 32 rest → ⊥) → rest ≡ extra ++ v → rest ≡ v
stripped_by [] others v rest all shut e = e
stripped_by (c ∷ extra) others v rest all shut e = absurd (shut (subst (Begins 32) (sym e) (blank_at others c extra all)))

pub stripped : (blanks others rest v : List ℕ) → All (λ b. b ≡ 32) blanks → All (λ b. b ≡ 32) others → (Begins 32 rest → ⊥) → Begins 40 v → blanks ++ rest ≡ others ++ v → rest ≡ v
stripped blanks others rest [] all more' shut opens e = absurd opens
stripped blanks others rest (x ∷ v) all more' shut opens e =
    let h = run_within (λ b. not (b == 32)) blanks others x rest v (blank_as blanks all) (ap (λ t. not (t == 32)) opens) e in
    stripped_by h.0 blanks (x ∷ v) rest (subst (All (λ b. b ≡ 32)) h.1 more') shut h.2

pub tree_opens : (names : List (List ℕ)) (t : Derivation) → Begins 40 (text_of names true t)
tree_opens names t =
    subst (Begins 40) (append-nil (text (shape names t)) ∙ text_is names t) (begins_text (shape names t) [])

-- what a line with blanks before it writes
writes_text : (g : TreeGrammar) (blanks rest : List ℕ) (tree : Derivation) → All (λ b. b ≡ 32) blanks → (Begins 32 rest → ⊥) → Writes g (blanks ++ rest) tree → IsText g rest
writes_text g blanks rest tree all shut w =
    (shape g.names tree, over_shape g tree w.over, stripped blanks w.blanks rest (text_of g.names true tree) all w.blank shut (tree_opens g.names tree) w.is ∙ sym (text_is g.names tree))

text_writes : (g : TreeGrammar) (blanks bytes : List ℕ) → All (λ b. b ≡ 32) blanks → IsText g bytes → (tree : Derivation) × Writes g (blanks ++ bytes) tree
text_writes g blanks bytes all h =
    let t = tree_of_shape g h.0 h.1 in
    (t.tree, record { over = t.over; blanks = blanks; blank = all; is = ap (λ b. blanks ++ b) (h.2 ∙ ap text (sym t.is) ∙ text_is g.names t.tree) })

pub tree_written : (g : TreeGrammar) (line rest : List ℕ) (t : Tree) → HasBlanks line rest → IsWritten g rest t → IsTreeOf g line (derivation_of t)
tree_written g line rest t b w =
    (record { over = w.over; blanks = b.blanks; blank = b.blank; is = b.is ∙ ap (λ x. b.blanks ++ x) (w.is ∙ text_is g.names (derivation_of t)) }, w.preferred)

-- a front of a front goes on
goes_before : (g : TreeGrammar) (whole tail more' : List ℕ) (tree : Derivation) (n : ℕ) → n ≤ length whole → Writes g (whole ++ more') tree → GoesOn g (take n (whole ++ tail))
goes_before g whole tail more' tree n le w =
    (drop n whole ++ more', tree, subst (λ b. Writes g b tree) (sym (ap (λ t. t ++ (drop n whole ++ more')) (take-append-le n whole tail le) ∙ sym (append_assoc (take n whole) (drop n whole) more') ∙ ap (λ t. t ++ more') (take-append-drop n whole))) w)

take_all_of : (a b : List ℕ) (x : ℕ) → take (suc (length a)) (a ++ x ∷ b) ≡ a ++ x ∷ []
take_all_of [] b x = refl
take_all_of (c ∷ a) b x = ap (λ t. c ∷ t) (take_all_of a b x)

not_blank : (done tail more' : List ℕ) → IsAlike tail more' → (Begins 32 (done ++ tail) → ⊥) → Begins 32 (done ++ more') → ⊥
not_blank [] [] [] alike shut h = shut h
not_blank [] [] (y ∷ ys) alike shut h = alike
not_blank [] (x ∷ xs) [] alike shut h = alike
not_blank [] (x ∷ xs) (y ∷ ys) alike shut h = shut (alike ∙ h)
not_blank (c ∷ done) tail more' alike shut h = shut h

alike_self : (tail : List ℕ) → IsAlike tail tail
alike_self [] = tt
alike_self (x ∷ xs) = refl

here_by : (g : TreeGrammar) (blanks done tail : List ℕ) → All (λ b. b ≡ 32) blanks → (Begins 32 (done ++ tail) → ⊥) → ((m : List ℕ) → IsAlike tail m → IsText g (done ++ m) → ⊥) →
    length (blanks ++ done) < length ((blanks ++ done) ++ tail) → GoesOn g (take (suc (length (blanks ++ done))) ((blanks ++ done) ++ tail)) → ⊥
here_by g blanks done [] all shut stops lt k = omega (arith, lt, ap length (append-nil (blanks ++ done)))
here_by g blanks done (x ∷ tail) all shut stops lt k =
    let row : take (suc (length (blanks ++ done))) ((blanks ++ done) ++ x ∷ tail) ++ k.0 ≡ blanks ++ (done ++ x ∷ k.0) =
    ap (λ t. t ++ k.0) (take_all_of (blanks ++ done) tail x) ∙ append_assoc (blanks ++ done) (x ∷ []) k.0 ∙ append_assoc blanks done (x ∷ k.0) in
    stops (x ∷ k.0) refl (writes_text g blanks (done ++ x ∷ k.0) k.1 all (not_blank done (x ∷ tail) (x ∷ k.0) refl shut) (subst (λ b. Writes g b k.1) row k.2))

fault_at : (g : TreeGrammar) (blanks done tail : List ℕ) → All (λ b. b ≡ 32) blanks → (Begins 32 (done ++ tail) → ⊥) → ((m : List ℕ) × IsText g (done ++ m)) → ((m : List ℕ) → IsAlike tail m → IsText g (done ++ m) → ⊥) →
    IsFirstFault g ((blanks ++ done) ++ tail) (length (blanks ++ done))
fault_at g blanks done tail all shut goes stops =
    let w = text_writes g blanks (done ++ goes.0) all goes.1 in
    record {
      within = omega (arith, length-append (blanks ++ done) tail);
      none = λ tree k. stops tail (alike_self tail) (writes_text g blanks (done ++ tail) tree all shut (subst (λ b. Writes g b tree) (append_assoc blanks done tail) k));
      before = λ n lt. goes_before g (blanks ++ done) tail goes.0 w.0 (suc n) (omega (arith, lt)) (subst (λ b. Writes g b w.0) (sym (append_assoc blanks done goes.0)) w.1);
      here = here_by g blanks done tail all shut stops;
    }

pub first_fault : (g : TreeGrammar) (line rest : List ℕ) (left at : ℕ) → HasBlanks line rest → Fails (IsText g) (IsText g) rest left → at ≡ length line - left → IsFirstFault g line at
first_fault g line rest left at b h e =
    let row : line ≡ (b.blanks ++ h.done) ++ h.tail = b.is ∙ ap (λ t. b.blanks ++ t) h.is ∙ sym (append_assoc b.blanks h.done h.tail) in
    let place : length (b.blanks ++ h.done) ≡ at = omega (arith, ap length row, length-append (b.blanks ++ h.done) h.tail, h.left_is, e) in
    subst (λ l. IsFirstFault g l at) (sym row) (subst (λ n. IsFirstFault g ((b.blanks ++ h.done) ++ h.tail) n) place
    (fault_at g b.blanks h.done h.tail b.blank (λ q. b.no_more (subst (Begins 32) (sym h.is) q)) h.goes h.stops))

-- laws
pub not_both : (g : TreeGrammar) (line : List ℕ) (tree : Derivation) (at : ℕ) → Writes g line tree → IsFirstFault g line at → ⊥
not_both g line tree at w f = f.none tree w

not_later : (g : TreeGrammar) (line : List ℕ) (at other : ℕ) → IsFirstFault g line at → IsFirstFault g line other → at < other → ⊥
not_later g line at other f h lt = f.here (omega (arith, lt, h.within)) (h.before at lt)

pub one_fault : (g : TreeGrammar) (line : List ℕ) (at other : ℕ) → IsFirstFault g line at → IsFirstFault g line other → at ≡ other
one_fault g line at other f h =
    let a : at < other → ⊥ = not_later g line at other f h in
    let b : other < at → ⊥ = not_later g line other at h f in
    omega (arith, a, b)
