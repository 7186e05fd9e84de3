-- What a chain spells, by numbers and by places, and what a path of steps carries.
use Rattle.std.specs.Prelude.{ℕ, ◌≡◌, ◌<◌, ◌≤◌, List, [], ◌∷◌, ◌++◌, length, map}
use Rattle.std.specs.List.{range_with_len}
use Rattle.std.proofs.Common.{inl, inr, refl, sym, ◌∙◌, ap, subst, arith}
use Rattle.lexicon.specs.Words as lists
use Rattle.chart_model.specs.At.{At, there, at_one, at_below}
use Rattle.chart_model.specs.Calculus.{Along, along_none, along_more}
use Rattle.lexicon.specs.Entries.{EntryTree}
use Rattle.spelling_rules.specs.Trees.{SpellingTree}
use Rattle.spelling_rules.specs.Forms.{HasForm}
use Rattle.tree_model.specs.Lexical as item
use Rattle.tree_model.specs.Lattices as parse
use Rattle.morph_analysis.specs.Lattices as morph
use Rattle.morph_analysis.specs.Chains.{Leads, there, by, Spells, HaveWords}
use Rattle.lexical_items.specs.Said.{AreNumbered}
use Rattle.lexical_items.proofs.Saying.{AreSaid}
use Rattle.lexical_items.specs.Seen.{step_seen, lattice_seen}
use Rattle.lexical_items.proofs.Lists.{has_at, at_has, claimed, unclaimed, snoc_same, last_of, at_map, at_unmap, range_at}

-- the entry with a number is one
pub number_at : (k : ℕ) (xs : List EntryTree) → map (λ e. e.number) xs ≡ range_with_len 0 k → (n : ℕ) (e : EntryTree) → At xs n e → (e.number ≡ n) × (n < k)
number_at k xs h n e a =
    let r = range_at 0 k n e.number (subst (λ ns. At ns n e.number) h (at_map (λ (x : EntryTree). x.number) a)) in
    (r.0 ∙ omega arith, r.1)

pub one_entry : (k : ℕ) (xs : List EntryTree) → map (λ e. e.number) xs ≡ range_with_len 0 k → (d e : EntryTree) → lists.Has d xs → lists.Has e xs → d.number ≡ e.number → d ≡ e
one_entry k xs h d e p q same =
    let a = has_at d xs p in
    let b = has_at e xs q in
    let m = (number_at k xs h a.0 d a.1).0 in
    let n = (number_at k xs h b.0 e b.1).0 in
    let z : a.0 ≡ b.0 = sym m ∙ same ∙ n in
    at_one (subst (λ i. At xs i d) z a.1) b.1

module _ (entries rules : List ℕ) (lexicon : List EntryTree) (s : SpellingTree) (numbered : AreNumbered entries rules lexicon s) (words : item.Words) (said : AreSaid entries rules lexicon s words) where
  -- a form by the number of a rule and by its place
  form_in : (n p : ℕ) (stem form : item.Word) → At rules n p → HasForm s n stem form → HasForm words.spelling (words.number_of p) stem form
  form_in n p stem form a h = subst (λ t. HasForm t (words.number_of p) stem form) (sym said.spelling_is) (subst (λ m. HasForm s m stem form) (sym (said.numbers_are n p a)) h)

  form_out : (n p : ℕ) (stem form : item.Word) → At rules n p → HasForm words.spelling (words.number_of p) stem form → HasForm s n stem form
  form_out n p stem form a h = subst (λ m. HasForm s m stem form) (said.numbers_are n p a) (subst (λ t. HasForm t (words.number_of p) stem form) said.spelling_is h)

  -- forms that lead from one to the next, as what words become
  pub leads_become : {ns : List ℕ} {x y : item.Word} (front : List item.Word) (ps : List ℕ) → Leads s ns x y → Along (At rules) ns ps → item.Become words (front ++ x ∷ []) ps (front ++ y ∷ [])
  leads_become front ps (there w) along_none = item.become_none
  leads_become front _ (by rule ns w x y lt some form more) (along_more {y = p} {ys = ps} a rest) =
      item.become_next front w x refl (some, form_in rule p w x a form) (leads_become front ps more rest)

  -- and back
  pub become_leads : {ws vs : List item.Word} {ps : List ℕ} (front : List item.Word) (x : item.Word) (ns : List ℕ) → item.Become words ws ps vs → ws ≡ front ++ x ∷ [] → Along (At rules) ns ps → (y : item.Word) × (vs ≡ front ++ y ∷ []) × Leads s ns x y
  become_leads front x _ item.become_none e along_none = (x, e, there x)
  become_leads front x _ (item.become_next other word form is has more) e (along_more {x = n} {y = p} {xs = ns} a rest) =
      let same = snoc_same other front word x (sym is ∙ e) in
      let r = become_leads front form ns more (ap (λ (f : List item.Word). f ++ form ∷ []) same.0) rest in
      let lt : n < length s.rules = subst (λ k. n < k) (sym numbered.rules_are) (at_below a) in
      (r.0, r.1, by n ns x form r.0 lt (subst (λ w. 0 < length w) same.1 has.0) (subst (λ w. HasForm s n w form) same.1 (form_out n p word form a has.1)) r.2)

  -- the words of an entry are those that are said
  words_same : (n p : ℕ) (ws : List item.Word) → At entries n p → lists.Has (record { number = n; words = ws }) lexicon → words.words_of p ≡ ws
  words_same n p ws a h = ap (λ (e : EntryTree). e.words) (one_entry (length entries) lexicon numbered.entries_are (record { number = n; words = words.words_of p }) (record { number = n; words = ws }) (said.words_are n p a) h refl)

  pub spelled : (n p : ℕ) (ns ps : List ℕ) (ws : List item.Word) → At entries n p → Along (At rules) ns ps → Spells lexicon s n ns ws → item.Spells words p ps ws
  spelled n p ns ps ws a rest h =
      subst (λ vs. item.Become words (words.words_of p) ps vs) (sym h.is)
      (subst (λ vs. item.Become words vs ps (h.front ++ h.form ∷ [])) (sym (words_same n p (h.front ++ h.stem ∷ []) a h.is_entry)) (leads_become h.front ps h.leads rest))

  pub unspelled : (n p : ℕ) (ns ps : List ℕ) (ws : List item.Word) → At entries n p → Along (At rules) ns ps → item.Spells words p ps ws → Spells lexicon s n ns ws
  unspelled n p ns ps ws a rest h =
      let e = said.words_are n p a in
      let some : 0 < length (words.words_of p) = has_words lexicon numbered.have_words e in
      let last = last_of (words.words_of p) some in
      let r = become_leads last.0 last.1 ns h last.2 rest in
      record {
        front = last.0;
        stem = last.1;
        form = r.0;
        is_entry = subst (λ ws. lists.Has (record { number = n; words = ws }) lexicon) last.2 e;
        is = r.1;
        leads = r.2;
      }
    where
      has_words : (xs : List EntryTree) → HaveWords xs → lists.Has (record { number = n; words = words.words_of p }) xs → 0 < length (words.words_of p)
      has_words [] h k = absurd k
      has_words (x ∷ xs) h (inl k) = subst (λ (e : EntryTree). 0 < length e.words) (sym k) h.0
      has_words (x ∷ xs) h (inr k) = has_words xs h.1 k

-- what a path of steps carries
pub carried : (l : morph.LatticeTree) {from to : ℕ} {ws : List item.Word} → morph.Carries l.steps from ws to → parse.Carries (lattice_seen l) from ws to
carried l (morph.stays n) = parse.carries_none
carried l (morph.goes s ws to has more) =
    let a = has_at s l.steps has in
    parse.carries_step (step_seen s) (claimed (step_seen s) (map step_seen l.steps) (at_has (at_map step_seen a.1))) (carried l more)

pub uncarried : (l : morph.LatticeTree) {from to : ℕ} {ws : List item.Word} → parse.Carries (lattice_seen l) from ws to → morph.Carries l.steps from ws to
uncarried l parse.carries_none = morph.stays _
uncarried l (parse.carries_step {m = m} {ws = ws} step has more) =
    let a = has_at step (map step_seen l.steps) (unclaimed has) in
    let b = at_unmap step_seen l.steps a.0 step a.1 in
    subst (λ (z : parse.Step). morph.Carries l.steps z.from (z.word ∷ ws) m) b.2
    (morph.goes b.0 ws m (at_has b.1) (subst (λ (z : parse.Step). morph.Carries l.steps z.to ws m) (sym b.2) (uncarried l more)))

-- a path that carries a word goes forward
pub forward : (l : morph.LatticeTree) {from to : ℕ} {ws : List item.Word} → morph.IsValid l → morph.Carries l.steps from ws to → (from ≤ to) × (0 < length ws → from < to)
forward l valid (morph.stays n) = (omega arith, λ h. absurd (omega (arith, h)))
forward l valid (morph.goes s ws to has more) =
    let r = (forward l valid more).0 in
    let q : s.from < s.to = (at_step l.steps valid has).0 in
    (omega (arith, q, r), λ _. omega (arith, q, r))
  where
    at_step : (steps : List morph.StepTree) → lists.Each (λ x. (x.from < x.to) × (x.to ≤ l.end)) steps → lists.Has s steps → (s.from < s.to) × (s.to ≤ l.end)
    at_step [] e k = absurd k
    at_step (x ∷ xs) e (inl k) = subst (λ (z : morph.StepTree). (z.from < z.to) × (z.to ≤ l.end)) (sym k) e.0
    at_step (x ∷ xs) e (inr k) = at_step xs e.1 k
