-- FILTER is looked for with the variables of a site given.
use Rattle.std.proofs.Common.{◌≡◌, ℕ, ◌+◌, ◌<◌, ◌⊎◌, inl, inr, ◌∙◌, List, [], ◌++◌, length, length-append, take, drop, get_or, ap, sym, subst, arith, Some, Option}
use Rattle.std.specs.Prelude.{Contains, All, IfSome, slice_index, map, string_bytes}
use Rattle.std.specs.Option.{option_map}
use Rattle.std.specs.List.{Any, AllZip}
use Rattle.std.proofs.lemmas.List.{length-take, get_or-take, get_or_append_left, ext_get_or, take-append-drop}
use Rattle.mrs_model.specs.Meanings.{Meaning}
use Rattle.mrs_model.specs.Valid.{IsValid}
use Rattle.transfer_model.specs.declared.Filter.{Filter}
use Rattle.transfer_model.specs.declared.Rule.{Rule as DeclaredRule}
use Rattle.transfer_model.specs.Rules.{Element, Rule, IsElement, IsRule, StandsAt, AllStand}
use Rattle.transfer_model.specs.Sites.{Site, IsMatch, IsSite, IsMet, HasLetters}
use Rattle.transfer_model.specs.Views.{element_of, rule_of, filter_letters_of, IsHeld}
use Rattle.mrs_transfer.specs.declared.bound.Pair.{Pair}
use Rattle.mrs_transfer.specs.Inner.Matching.{MayHave, Agree, IsBound, ArePairs, IsTask, Solves}
use Rattle.mrs_transfer.proofs.Searching.{Side, less, same, more, side_of, agree_at}
use Rattle.mrs_transfer.proofs.Matches.{IsOfLetters, there, has_letters, zip_length, zip_reads, task_in, is_match, solves}

pub record IsAsked (m : Meaning) (r : Rule) (xs : List Element) (letters : List (List ℕ)) (vars : List ℕ) (pairs : List Pair) : Type 0 where
  pub valid : IsValid m
  pub rule : IsRule r
  pub filter : r.filter ≡ Some xs
  pub whole : r.letters ++ r.filter_letters ≡ letters
  pub sorts : AllZip (IsOfLetters m.vars) r.letters vars
  pub size : length pairs ≡ length vars
  pub each : (c : ℕ) (p : Pair) → c < length vars → get_or pairs c p ≡ record { coref = c; var = slice_index vars c }

front_of : (o : Option Filter) (f : Filter) (n : ℕ) (letters : List (List ℕ)) → o ≡ Some f → IfSome o (λ g. take n (map string_bytes g.letters.items) ≡ letters) → letters ++ drop n (filter_letters_of o) ≡ map string_bytes f.letters.items
front_of o f n letters e h =
    let front : take n (map string_bytes f.letters.items) ≡ letters = subst (λ (z : Option Filter). IfSome z (λ g. take n (map string_bytes g.letters.items) ≡ letters)) e h in
    subst (λ (z : Option Filter). letters ++ drop n (filter_letters_of z) ≡ map string_bytes f.letters.items) (sym e)
    (ap (λ (z : List (List ℕ)). z ++ drop n (map string_bytes f.letters.items)) (sym front) ∙ take-append-drop n (map string_bytes f.letters.items))

pub asked_of : (m : Meaning) (r : DeclaredRule) (f : Filter) (vars : List ℕ) (pairs : List Pair) → IsValid m → IsHeld r → r.filter ≡ Some f → (s : Site) → s.vars ≡ vars → IsSite m (rule_of r) s → length pairs ≡ length vars
    → ((c : ℕ) (p : Pair) → c < length vars → get_or pairs c p ≡ record { coref = c; var = slice_index vars c }) → IsAsked m (rule_of r) (map element_of f.elements.items) (map string_bytes f.letters.items) vars pairs
asked_of m r f vars pairs v h is s e site size each = record {
  valid = v;
  rule = h.rule;
  filter = ap (option_map (λ (g : Filter). map element_of g.elements.items)) is;
  whole = front_of r.filter f (length r.letters.items) (map string_bytes r.letters.items) is h.front;
  sorts = subst (λ (z : List ℕ). AllZip (IsOfLetters m.vars) (map string_bytes r.letters.items) z) e site.sorts;
  size = size;
  each = each;
}

asked_size : (m : Meaning) (r : Rule) (xs : List Element) (letters : List (List ℕ)) (vars : List ℕ) (pairs : List Pair) → IsAsked m r xs letters vars pairs → (length vars ≡ length r.letters) × (length letters ≡ length r.letters + length r.filter_letters)
asked_size m r xs letters vars pairs a = (zip_length (IsOfLetters m.vars) r.letters vars a.sorts, ap length (sym a.whole) ∙ length-append r.letters r.filter_letters)

asked_has : (m : Meaning) (r : Rule) (xs : List Element) (letters : List (List ℕ)) (vars : List ℕ) (pairs : List Pair) → IsAsked m r xs letters vars pairs → (c : ℕ) → c < length vars → Contains pairs (record { coref = c; var = slice_index vars c })
asked_has m r xs letters vars pairs a c l = let n = a.size in (c, omega (arith, n, l), a.each c (record { coref = c; var = slice_index vars c }) l)

asked_may : (m : Meaning) (r : Rule) (xs : List Element) (letters : List (List ℕ)) (vars : List ℕ) (pairs : List Pair) → IsAsked m r xs letters vars pairs → (c : ℕ) → c < length vars → MayHave m.vars letters c (slice_index vars c)
asked_may m r xs letters vars pairs a c l =
    let n = asked_size m r xs letters vars pairs a in
    let k : c < length r.letters = omega (arith, n.0, l) in
    let z = zip_reads (IsOfLetters m.vars) r.letters vars c a.sorts k in
    let front : get_or letters c [] ≡ get_or r.letters c [] = ap (λ (y : List (List ℕ)). get_or y c []) (sym a.whole) ∙ get_or_append_left r.letters r.filter_letters [] c k in
    record {
      coref = omega (arith, n.1, k);
      var = there m.vars (get_or r.letters c []) (get_or vars c 0) z;
      fit = λ d. subst (λ (y : List ℕ). HasLetters y (get_or m.vars (get_or vars c 0) d)) (sym front) (has_letters m.vars (get_or r.letters c []) (get_or vars c 0) d z);
    }

asked_var : (m : Meaning) (r : Rule) (xs : List Element) (letters : List (List ℕ)) (vars : List ℕ) (pairs : List Pair) → IsAsked m r xs letters vars pairs → (c v : ℕ) → Contains pairs (record { coref = c; var = v }) → v ≡ slice_index vars c
asked_var m r xs letters vars pairs a c v (k, l, e) =
    let n = a.size in
    let f : ◌≡◌ {A = Pair} (record { coref = c; var = v }) (record { coref = k; var = slice_index vars k }) = sym e ∙ a.each k (record { coref = c; var = v }) (omega (arith, n, l)) in
    ap (λ (p : Pair). p.var) f ∙ ap (λ (j : ℕ). slice_index vars j) (sym (ap (λ (p : Pair). p.coref) f))

pub asked_pairs : (m : Meaning) (r : Rule) (xs : List Element) (letters : List (List ℕ)) (vars : List ℕ) (pairs : List Pair) → IsAsked m r xs letters vars pairs → ArePairs m.vars letters pairs
asked_pairs m r xs letters vars pairs a = let n = a.size in record {
  each = λ k d l. let j : k < length vars = omega (arith, n, l) in subst (λ (p : Pair). MayHave m.vars letters p.coref p.var) (sym (a.each k d j)) (asked_may m r xs letters vars pairs a k j);
  single = λ c v w h i. asked_var m r xs letters vars pairs a c v h ∙ sym (asked_var m r xs letters vars pairs a c w i);
}

asked_agree : (m : Meaning) (r : Rule) (xs : List Element) (letters : List (List ℕ)) (vars : List ℕ) (pairs : List Pair) → IsAsked m r xs letters vars pairs → (vs : List ℕ) → ((c : ℕ) → c < length vars → slice_index vs c ≡ slice_index vars c) → Agree vs pairs
asked_agree m r xs letters vars pairs a vs h = let n = a.size in λ k d l. let j : k < length vars = omega (arith, n, l) in subst (λ (p : Pair). slice_index vs p.coref ≡ p.var) (sym (a.each k d j)) (h k j)

asked_standing : (m : Meaning) (r : Rule) (xs : List Element) (letters : List (List ℕ)) (vars : List ℕ) (pairs : List Pair) → IsAsked m r xs letters vars pairs → (c : ℕ) → c < length letters → Side c (length r.letters) → IsBound pairs c ⊎ Any (StandsAt c) xs
asked_standing m r xs letters vars pairs a c l (less s) = let n = asked_size m r xs letters vars pairs a in inl (slice_index vars c, asked_has m r xs letters vars pairs a c (omega (arith, n.0, s)))
asked_standing m r xs letters vars pairs a c l (same s) =
    let n = asked_size m r xs letters vars pairs a in
    inr (subst (λ (o : Option (List Element)). IfSome o (AllStand (length r.letters) (length r.letters + length r.filter_letters))) a.filter a.rule.filter_standing c (omega (arith, s)) (omega (arith, n.1, l)))
asked_standing m r xs letters vars pairs a c l (more s) =
    let n = asked_size m r xs letters vars pairs a in
    inr (subst (λ (o : Option (List Element)). IfSome o (AllStand (length r.letters) (length r.letters + length r.filter_letters))) a.filter a.rule.filter_standing c (omega (arith, s)) (omega (arith, n.1, l)))

pub asked_task : (m : Meaning) (r : Rule) (xs : List Element) (letters : List (List ℕ)) (vars : List ℕ) (pairs : List Pair) → IsAsked m r xs letters vars pairs → IsTask (task_in m letters xs pairs)
asked_task m r xs letters vars pairs a = record {
  eps = a.valid.eps;
  elements = subst (λ (k : ℕ). All (IsElement k) xs) (sym (asked_size m r xs letters vars pairs a).1) (subst (λ (o : Option (List Element)). IfSome o (All (IsElement (length r.letters + length r.filter_letters)))) a.filter a.rule.filter);
  standing = λ c l. asked_standing m r xs letters vars pairs a c l (side_of c (length r.letters));
}

pub asked_met : (m : Meaning) (r : Rule) (xs : List Element) (letters : List (List ℕ)) (vars : List ℕ) (pairs : List Pair) → IsAsked m r xs letters vars pairs → (ps vs : List ℕ) → Solves (task_in m letters xs pairs) ps vs → (s : Site) → s.vars ≡ vars → IsMet m r s xs
asked_met m r xs letters vars pairs a ps vs h s e =
    let n = asked_size m r xs letters vars pairs a in
    let k : length vs ≡ length letters = h.sorts.size in
    let t = length-take (length vars) vs in
    let size : length (take (length vars) vs) ≡ length vars = omega (arith, n.0, n.1, k, t) in
    let front : take (length vars) vs ≡ vars = ext_get_or 0 (take (length vars) vs) vars size (λ i l. let j : i < length vars = omega (arith, size, l) in
    get_or-take (length vars) vs i 0 j ∙ agree_at vs pairs i (slice_index vars i) h.given (asked_has m r xs letters vars pairs a i j)) in
    let both : vs ≡ s.vars ++ drop (length vars) vs = sym (take-append-drop (length vars) vs) ∙ ap (λ (z : List ℕ). z ++ drop (length vars) vs) (front ∙ sym e) in
    record {
      places = ps;
      others = drop (length vars) vs;
      matches = subst (λ (z : List (List ℕ)). IsMatch m z xs ps (s.vars ++ drop (length vars) vs)) (sym a.whole) (subst (λ (z : List ℕ). IsMatch m letters xs ps z) both (is_match m letters xs pairs ps vs h));
    }

pub asked_solves : (m : Meaning) (r : Rule) (xs : List Element) (letters : List (List ℕ)) (vars : List ℕ) (pairs : List Pair) → IsAsked m r xs letters vars pairs → (s : Site) → s.vars ≡ vars → (h : IsMet m r s xs) → Solves (task_in m letters xs pairs) h.places (s.vars ++ h.others)
asked_solves m r xs letters vars pairs a s e h =
    let n : length s.vars ≡ length vars = ap length e in
    solves m letters xs pairs h.places (s.vars ++ h.others) (subst (λ (z : List (List ℕ)). IsMatch m z xs h.places (s.vars ++ h.others)) a.whole h.matches)
    (asked_agree m r xs letters vars pairs a (s.vars ++ h.others) (λ c l. get_or_append_left s.vars h.others 0 c (omega (arith, n, l)) ∙ ap (λ (z : List ℕ). get_or z c 0) e))
