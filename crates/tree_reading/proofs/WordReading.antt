-- A word is read part by part.
use Rattle.std.proofs.Common.{◌≡◌, ℕ, Bool, true, false, ◌==◌, ◌||◌, if◌then◌else◌, List, [], ◌∷◌, ◌++◌, length, refl, sym, ap, subst, ◌∙◌, append_assoc, append-nil, ◌<◌, ◌⊎◌, inl, inr, arith, eqb-true, length-append}
use Rattle.std.specs.List.{All, flat_map}
use Rattle.std.proofs.lemmas.Bool.{false≢true}
use Rattle.std.proofs.lemmas.List.Concat.{flat_map-append}
use Rattle.std.proofs.lemmas.List.Elements.{All-head, All-tail, All-nil, All-cons, All-append, All-push}
use Rattle.derivation.specs.Text.{escaped}
use Rattle.tree_reading.specs.Grammars.{IsWord}
use Rattle.tree_reading.specs.Inner.Shapes.{Begins}
use Rattle.tree_reading.specs.Inner.Stops.{Fails, IsAlike, IsRunCut, ends_run, HasAdded, IsEscaped, IsEndedWord, BeginsWord, EndsWord, IsWordEnd}
use Rattle.tree_reading.proofs.Runs.{heads, rests}
use Rattle.tree_reading.proofs.WordTexts.{IsUnbroken, EscapeCases, escape_cases, word_within, unbroken_at}
use Rattle.tree_reading.proofs.Lifting.{alike_begins}

or_false : (a b : Bool) → (a || b) ≡ false → (a ≡ false) × (b ≡ false)
or_false true b h = cc
or_false false b h = (refl, h)

run_byte : (b : ℕ) → ends_run b ≡ false → ((b == 32) ≡ false) × ((b == 34) ≡ false) × ((b == 92) ≡ false)
run_byte b h =
    let a = or_false (b == 32 || b == 34) (b == 92) h in
    let c = or_false (b == 32) (b == 34) a.0 in (c.0, c.1, a.1)

plain_byte : (b : ℕ) → ends_run b ≡ false → escaped b ≡ b ∷ []
plain_byte b h =
    let r = run_byte b h in
    ap (λ t. if (t || (b == 92)) then 92 ∷ b ∷ [] else b ∷ []) r.1 ∙ ap (λ t. if (false || t) then 92 ∷ b ∷ [] else b ∷ []) r.2

run_escaped : (w : List ℕ) → All (λ b. ends_run b ≡ false) w → flat_map escaped w ≡ w
run_escaped [] h = refl
run_escaped (b ∷ bs) h =
    ap (λ t. t ++ flat_map escaped bs) (plain_byte b (All-head (λ b. ends_run b ≡ false) b bs h)) ∙ ap (λ t. b ∷ t) (run_escaped bs (All-tail (λ b. ends_run b ≡ false) b bs h))

run_unbroken : (w : List ℕ) → All (λ b. ends_run b ≡ false) w → IsUnbroken w
run_unbroken [] h = All-nil (λ b. (b == 32) ≡ false)
run_unbroken (b ∷ bs) h =
    All-cons (λ b. (b == 32) ≡ false) b bs (run_byte b (All-head (λ b. ends_run b ≡ false) b bs h)).0 (run_unbroken bs (All-tail (λ b. ends_run b ≡ false) b bs h))

pub added : (old new whole run rest : List ℕ) → whole ≡ run ++ rest → All (λ b. ends_run b ≡ false) run → IsRunCut rest → new ≡ old ++ run → HasAdded old new whole rest
added old new whole run rest is all cut grown =
    record { part = run; grown = grown; plain = run_unbroken run all; is = is ∙ ap (λ t. t ++ rest) (sym (run_escaped run all)); cut = cut }

pub added_more : (old mid new whole after rest : List ℕ) → HasAdded old mid whole after → HasAdded mid new after rest → HasAdded old new whole rest
added_more old mid new whole after rest a b =
    record {
      part = a.part ++ b.part;
      grown = b.grown ∙ ap (λ t. t ++ b.part) a.grown ∙ append_assoc old a.part b.part;
      plain = All-append (λ b. (b == 32) ≡ false) a.part b.part a.plain b.plain;
      is = a.is ∙ ap (λ t. flat_map escaped a.part ++ t) b.is ∙ sym (append_assoc (flat_map escaped a.part) (flat_map escaped b.part) rest) ∙ ap (λ t. t ++ rest) (sym (flat_map-append escaped a.part b.part));
      cut = b.cut;
    }

one_escaped : (x : ℕ) (old mid new byte text after rest : List ℕ) → escaped x ≡ 92 ∷ x ∷ [] → (x == 32) ≡ false → byte ≡ x ∷ [] → text ≡ byte ++ after → mid ≡ old ++ byte → HasAdded mid new after rest → HasAdded old new (92 ∷ text) rest
one_escaped x old mid new byte text after rest esc low is text_is grown h =
    record {
      part = x ∷ h.part;
      grown = h.grown ∙ ap (λ t. t ++ h.part) (grown ∙ ap (λ t. old ++ t) is) ∙ append_assoc old (x ∷ []) h.part;
      plain = All-cons (λ b. (b == 32) ≡ false) x h.part low h.plain;
      is = ap (λ t. 92 ∷ t) (text_is ∙ ap (λ t. t ++ after) is ∙ ap (λ t. x ∷ t) h.is) ∙ ap (λ t. (t ++ flat_map escaped h.part) ++ rest) (sym esc);
      cut = h.cut;
    }

pub added_escaped : (old mid new byte text after rest : List ℕ) → IsEscaped text byte after → mid ≡ old ++ byte → HasAdded mid new after rest → HasAdded old new (92 ∷ text) rest
added_escaped old mid new byte text after rest (inl e, is) grown h = one_escaped 34 old mid new byte text after rest refl refl e is grown h
added_escaped old mid new byte text after rest (inr e, is) grown h = one_escaped 92 old mid new byte text after rest refl refl e is grown h

-- a wrong escape
wrong_by : (c x : ℕ) (us more u after : List ℕ) → EscapeCases c → (Begins 34 after → ⊥) → (Begins 92 after → ⊥) → IsAlike after more → 92 ∷ more ≡ escaped c ++ us → ⊥
wrong_by c x us more u after (inl (esc, inl is)) a b alike e =
    let h : more ≡ c ∷ us = rests _ _ _ _ (e ∙ ap (λ t. t ++ us) esc) in a (alike_begins 34 after more alike (subst (Begins 34) (sym h) is))
wrong_by c x us more u after (inl (esc, inr is)) a b alike e =
    let h : more ≡ c ∷ us = rests _ _ _ _ (e ∙ ap (λ t. t ++ us) esc) in b (alike_begins 92 after more alike (subst (Begins 92) (sym h) is))
wrong_by c x us more u after (inr (esc, low, lower)) a b alike e =
    let h : 92 ≡ c = heads _ _ _ _ (e ∙ ap (λ t. t ++ us) esc) in false≢true (sym lower ∙ ap (λ t. t == 92) (sym h))

wrong_escape : (rest : List ℕ) (x : ℕ) (more u after : List ℕ) → EndsWord x → (Begins 34 after → ⊥) → (Begins 92 after → ⊥) → IsAlike after more → 92 ∷ more ≡ flat_map escaped rest ++ x ∷ u → ⊥
wrong_escape [] x more u after (inl h) a b alike e = omega (arith, h, heads _ _ _ _ e)
wrong_escape [] x more u after (inr h) a b alike e = omega (arith, h, heads _ _ _ _ e)
wrong_escape (c ∷ rest) x more u after h a b alike e =
    wrong_by c x (flat_map escaped rest ++ x ∷ u) more u after (escape_cases c) a b alike (e ∙ append_assoc (escaped c) (flat_map escaped rest) (x ∷ u))

pub grown_word : (word : List ℕ) (x : ℕ) → IsUnbroken word → (x == 32) ≡ false → IsWord (word ++ x ∷ [])
grown_word word x h low = (omega (arith, length-append word (x ∷ [])), All-push (λ b. (b == 32) ≡ false) word x h low)

grown_text : (word : List ℕ) (x : ℕ) (us after : List ℕ) → escaped x ≡ us → flat_map escaped (word ++ x ∷ []) ++ after ≡ flat_map escaped word ++ (us ++ after)
grown_text word x us after e =
    ap (λ t. t ++ after) (flat_map-append escaped word (x ∷ [])) ∙ append_assoc (flat_map escaped word) (escaped x ++ []) after ∙ ap (λ t. flat_map escaped word ++ (t ++ after)) (append-nil (escaped x) ∙ e)

pub stop_escape : (word whole after : List ℕ) → HasAdded [] word whole (92 ∷ after) → (Begins 34 after → ⊥) → (Begins 92 after → ⊥) → Fails IsEndedWord BeginsWord whole (length after)
stop_escape word whole after h a b =
    record {
      done = flat_map escaped h.part ++ 92 ∷ [];
      tail = after;
      is = h.is ∙ sym (append_assoc (flat_map escaped h.part) (92 ∷ []) after);
      left_is = refl;
      goes = (
        34 ∷ 34 ∷ [],
        (
          h.part ++ 34 ∷ [],
          34,
          grown_word h.part 34 h.plain refl,
          inr refl,
          append_assoc (flat_map escaped h.part) (92 ∷ []) (34 ∷ 34 ∷ []) ∙ sym (grown_text h.part 34 (92 ∷ 34 ∷ []) (34 ∷ []) refl),
        ),
      );
      stops = λ more alike k.
          let w = word_within h.part k.0 k.1 (92 ∷ more) k.2 h.plain k.4 (sym (append_assoc (flat_map escaped h.part) (92 ∷ []) more) ∙ k.5) in
          wrong_escape w.0 k.1 more k.2 after k.4 a b alike w.2;
    }

-- a word that is empty, or has nor end
cut_by : (c : ℕ) (us : List ℕ) (y : ℕ) → EscapeCases c → (c == 32) ≡ false → ends_run y ≡ true → (y ≡ 92 → ⊥) → (vs : List ℕ) → escaped c ++ us ≡ y ∷ vs → ⊥
cut_by c us y (inl (esc, is)) low cut nor vs e = nor (sym (heads _ _ _ _ (ap (λ t. t ++ us) (sym esc) ∙ e)))
cut_by c us y (inr (esc, a, b)) low cut nor vs e =
    let same : c ≡ y = heads _ _ _ _ (ap (λ t. t ++ us) (sym esc) ∙ e) in
    let plain : ends_run c ≡ false = ap (λ t. (t || c == 34) || c == 92) low ∙ ap (λ t. t || c == 92) a ∙ b in
    false≢true (sym plain ∙ ap ends_run same ∙ cut)

by_first : (rest : List ℕ) (c : ℕ) (us vs : List ℕ) → (c == 32) ≡ false → IsRunCut rest → (Begins 92 rest → ⊥) → escaped c ++ us ≡ vs → IsAlike rest vs → 0 < length vs → ⊥
by_first rest c us [] low cut nor e alike lt = omega (arith, lt)
by_first [] c us (v ∷ vs) low cut nor e alike lt = alike
by_first (y ∷ rest) c us (v ∷ vs) low cut nor e alike lt = cut_by c us y (escape_cases c) low cut nor vs (e ∙ ap (λ t. t ∷ vs) (sym alike))

some_text : (c : ℕ) (us : List ℕ) → EscapeCases c → 0 < length (escaped c ++ us)
some_text c us (inl h) = subst (λ t. 0 < length (t ++ us)) (sym h.0) (omega arith)
some_text c us (inr h) = subst (λ t. 0 < length (t ++ us)) (sym h.0) (omega arith)

by_rest : (rest : List ℕ) (c : ℕ) (us : List ℕ) → (c == 32) ≡ false → IsRunCut rest → (Begins 92 rest → ⊥) → IsAlike rest (escaped c ++ us) → ⊥
by_rest rest c us low cut nor alike = by_first rest c us (escaped c ++ us) low cut nor refl alike (some_text c us (escape_cases c))

cut_stops : (word m part : List ℕ) (x : ℕ) (u rest : List ℕ) → IsWord m → m ≡ word ++ part → ((word ≡ []) ⊎ (rest ≡ [])) → IsRunCut rest → (Begins 92 rest → ⊥) → EndsWord x →
    IsAlike rest (flat_map escaped part ++ x ∷ u) → ⊥
cut_stops word m [] x u [] is e empty cut nor ends alike = alike
cut_stops word m [] x u (y ∷ rest) is e (inl h) cut nor ends alike = omega (arith, is.0, ap length e, ap length h, length-append word [])
cut_stops word m [] x u (y ∷ rest) is e (inr h) cut nor ends alike = cc
cut_stops word m (c ∷ part) x u rest is e empty cut nor ends alike =
    let low = unbroken_at word c part (subst IsUnbroken e is.1) in
    by_rest rest c (flat_map escaped part ++ x ∷ u) low cut nor (subst (IsAlike rest) (append_assoc (escaped c) (flat_map escaped part) (x ∷ u)) alike)

pub stop_word : (word whole rest : List ℕ) → HasAdded [] word whole rest → ((word ≡ []) ⊎ (rest ≡ [])) → (Begins 92 rest → ⊥) → Fails IsEndedWord BeginsWord whole (length rest)
stop_word word whole rest h empty nor =
    record {
      done = flat_map escaped h.part;
      tail = rest;
      is = h.is;
      left_is = refl;
      goes = (97 ∷ 34 ∷ [], (h.part ++ 97 ∷ [], 34, grown_word h.part 97 h.plain refl, inr refl, sym (grown_text h.part 97 (97 ∷ []) (34 ∷ []) refl)));
      stops = λ more alike k.
          let w = word_within h.part k.0 k.1 more k.2 h.plain k.4 k.5 in
          cut_stops word k.0 w.0 k.1 k.2 rest k.3 (w.1 ∙ ap (λ t. t ++ w.0) (sym h.grown)) empty h.cut nor k.4 (subst (IsAlike rest) w.2 alike);
    }

end_by : (x : ℕ) (a b c : Bool) → (x == 32) ≡ a → (x == 34) ≡ b → (x == 92) ≡ c → ends_run x ≡ true → (x ≡ 92 → ⊥) → EndsWord x
end_by x true b c p q r cut nor = inl (eqb-true x 32 p)
end_by x false true c p q r cut nor = inr (eqb-true x 34 q)
end_by x false false true p q r cut nor = absurd (nor (eqb-true x 92 r))
end_by x false false false p q r cut nor =
    let plain : ends_run x ≡ false = ap (λ t. (t || x == 34) || x == 92) p ∙ ap (λ t. t || x == 92) q ∙ r in absurd (false≢true (sym plain ∙ cut))

pub word_end : (rest : List ℕ) → IsRunCut rest → (Begins 92 rest → ⊥) → (rest ≡ [] → ⊥) → IsWordEnd rest
word_end [] cut nor some = absurd (some refl)
word_end (x ∷ rest) cut nor some = end_by x (x == 32) (x == 34) (x == 92) refl refl refl cut nor

pub is_word : (word whole rest : List ℕ) → HasAdded [] word whole rest → (word ≡ [] → ⊥) → IsWord word
is_word [] whole rest h some = absurd (some refl)
is_word (b ∷ bs) whole rest h some = (omega arith, subst IsUnbroken (sym h.grown) h.plain)

pub word_is : (word whole rest : List ℕ) → HasAdded [] word whole rest → whole ≡ flat_map escaped word ++ rest
word_is word whole rest h = h.is ∙ ap (λ t. flat_map escaped t ++ rest) (sym h.grown)
