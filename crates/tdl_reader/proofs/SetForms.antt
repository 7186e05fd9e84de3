-- The functions on groups of letter sets find what the relation says, and what a group says is one.
use Rattle.std.proofs.Common.{◌≡◌, ℕ, ◌<◌, List, [], ◌∷◌, ◌++◌, length, sym, ◌∙◌, refl, ap, subst, append_assoc, arith}
use Rattle.std.proofs.lemmas.List.{append-nil}
use Rattle.std.proofs.lemmas.Bool.{false≢true, eqb-true, eq-eqb}
use Rattle.std.proofs.lemmas.Option.{none-some, same_Some}
use Rattle.std.proofs.lemmas.List.Sums.{AllPass-from_list_all, list_all-from_AllPass}
use Rattle.std.proofs.lemmas.List.Folds.{list_all-append}
use Rattle.std.specs.Prelude.{Bool, true, false, not, ◌==◌, ◌&&◌, if◌then◌else◌, Option, Some, None, codes}
use Rattle.std.specs.Option.{is_some, unwrap_or}
use Rattle.std.specs.List.{list_all}
use Rattle.std.specs.Char.{is_whitespace, is_not_whitespace}
use Rattle.tdl_reader.specs.Groups.{Folds, AllFold, IsGroup, IsLetterSet, Says, by_form, formless, SaysSet, set_by_form, set_formless}
use Rattle.tdl_reader.specs.GroupScan.{fold, then_some, fold_all, after_white, run, after_run, is_nothing, but_last, inside, read_group, after_word, ends_with, is_closing, members_in, set_with, set_in, read_letters, group_of, letters_of}
use Rattle.tdl_reader.specs.Trees.{SetTree, GroupTree}
use Rattle.tdl_reader.proofs.GroupLemmas.{but_last-last, ends_with-last}
use Rattle.tdl_reader.proofs.GroupForms.{and_parts, and_both, not_false, Stops, Pauses, White, Black, past_white, the_run, past_run, white_cut, run_cut, run_stops, gap_pauses, white_pauses, all_white, gap_is, then_parts, if_parts, if_holds, folds_is, fold_is, all_fold_is, fold_all_is, inside_is, is_inside, longer, nothing_is, group_is, group_found}

-- words
word_is : (ws cs rest : List ℕ) → after_word ws cs ≡ Some rest → cs ≡ ws ++ rest
word_is [] cs rest e = same_Some cs rest e
word_is (w ∷ ws) [] rest e = absurd (none-some _ e)
word_is (w ∷ ws) (c ∷ cs) rest e =
    let p = if_holds (c == w) (after_word ws cs) rest e in
    ap (λ q. q ∷ cs) (eqb-true c w p.0) ∙ ap (λ l. w ∷ l) (word_is ws cs rest p.1)

word_found : (ws rest : List ℕ) → after_word ws (ws ++ rest) ≡ Some rest
word_found [] rest = refl
word_found (w ∷ ws) rest = ap (λ b. if b then after_word ws (ws ++ rest) else None) (eq-eqb w w refl) ∙ word_found ws rest

-- a name and members
record Named (c : ℕ) (ms : List ℕ) (s : SetTree) : Type 0 where
  there : 0 < length ms
  name : Folds c s.name
  members : AllFold ms s.members

named_is : (c : ℕ) (ms : List ℕ) (s : SetTree) → set_with c ms ≡ Some s → Named c ms s
named_is c [] s e = absurd (none-some _ e)
named_is c (m ∷ ms) s e =
    let a = then_parts (fold c) (λ name. then_some (fold_all (m ∷ ms)) (λ members. Some (record { name = name; members = members }))) s e in
    let b = then_parts (fold_all (m ∷ ms)) (λ members. Some (record { name = a.0; members = members })) s a.2 in
    let made : SetTree = record { name = a.0; members = b.0 } in
    let same : made ≡ s = same_Some made s b.2 in
    subst (Named c (m ∷ ms)) same (record { there = omega arith; name = folds_is c a.0 a.1; members = all_fold_is (m ∷ ms) b.0 b.1 })

named_found : (c : ℕ) (ms : List ℕ) (s : SetTree) → Named c ms s → set_with c ms ≡ Some s
named_found c [] s h = let l = h.there in absurd (omega arith)
named_found c (m ∷ ms) s h =
    ap (λ o. then_some o (λ name. then_some (fold_all (m ∷ ms)) (λ members. Some (record { name = name; members = members })))) (fold_is c s.name h.name)
    ∙ ap (λ o. then_some o (λ members. Some (record { name = s.name; members = members }))) (fold_all_is (m ∷ ms) s.members h.members)

-- members, and the closing parenthesis of the set
record Closed (t ms : List ℕ) : Type 0 where
  after : List ℕ
  right : List ℕ
  split : t ≡ ms ++ (after ++ 41 ∷ right)
  after_white : White after
  right_white : White right
  dark : Black ms

ends_is : (k : ℕ) (xs : List ℕ) → ends_with k xs ≡ true → xs ≡ but_last xs ++ k ∷ []
ends_is k [] e = absurd (false≢true e)
ends_is k (x ∷ []) e = ap (λ q. q ∷ []) (eqb-true x k e)
ends_is k (x ∷ y ∷ xs) e = ap (λ l. x ∷ l) (ends_is k (y ∷ xs) e)

closing_is : (cs : List ℕ) → is_closing cs ≡ true → (z : List ℕ) × (cs ≡ 41 ∷ z) × (after_white z ≡ [])
closing_is [] e = absurd (false≢true e)
closing_is (c ∷ cs) e = let p = and_parts (c == 41) (is_nothing (after_white cs)) e in (cs, ap (λ q. q ∷ cs) (eqb-true c 41 p.0), nothing_is (after_white cs) p.1)

-- text whose white space is all of it
only_white : (t : List ℕ) → after_white t ≡ [] → White t
only_white t e = let w = white_cut t in subst White (sym (w.split ∙ (ap (λ l. w.front ++ l) e ∙ append-nil w.front))) w.white

closed_in_run : (t ms : List ℕ) → is_nothing (after_white (after_run t)) ≡ true → (if ends_with 41 (run t) then Some (but_last (run t)) else None) ≡ Some ms → Closed t ms
closed_in_run t ms n e =
    let r = run_cut t in
    let p = if_parts (ends_with 41 (run t)) (but_last (run t)) ms e in
    let word : run t ≡ ms ++ 41 ∷ [] = ends_is 41 (run t) p.0 ∙ ap (λ l. l ++ 41 ∷ []) p.1 in
    let dark : Black (ms ++ 41 ∷ []) = subst Black word r.dark in
    record {
      after = [];
      right = after_run t;
      split = r.split ∙ (ap (λ l. l ++ after_run t) word ∙ append_assoc ms (41 ∷ []) (after_run t));
      after_white = refl;
      right_white = only_white (after_run t) (nothing_is (after_white (after_run t)) n);
      dark = (and_parts (list_all is_not_whitespace ms) (list_all is_not_whitespace (41 ∷ [])) (sym (list_all-append is_not_whitespace ms (41 ∷ [])) ∙ dark)).0;
    }

closed_after : (t ms : List ℕ) → (if is_closing (after_white (after_run t)) then Some (run t) else None) ≡ Some ms → Closed t ms
closed_after t ms e =
    let r = run_cut t in
    let w = white_cut (after_run t) in
    let p = if_parts (is_closing (after_white (after_run t))) (run t) ms e in
    let c = closing_is (after_white (after_run t)) p.0 in
    record {
      after = w.front;
      right = c.0;
      split = r.split ∙ (ap (λ l. l ++ after_run t) p.1 ∙ ap (λ l. ms ++ l) (w.split ∙ ap (λ l. w.front ++ l) c.1));
      after_white = w.white;
      right_white = only_white c.0 c.2;
      dark = subst Black p.1 r.dark;
    }

closed_is : (t ms : List ℕ) → members_in (run t) (after_white (after_run t)) ≡ Some ms → Closed t ms
closed_is t ms e = from (is_nothing (after_white (after_run t))) refl e
  where
    from : (b : Bool) → is_nothing (after_white (after_run t)) ≡ b
        → (if b then (if ends_with 41 (run t) then Some (but_last (run t)) else None) else (if is_closing (after_white (after_run t)) then Some (run t) else None)) ≡ Some ms → Closed t ms
    from true n f = closed_in_run t ms n f
    from false n f = closed_after t ms f

-- what a run and the text after it give
members_by : (t word rest : List ℕ) (o : Option (List ℕ)) → run t ≡ word → after_white (after_run t) ≡ rest → members_in word rest ≡ o → members_in (run t) (after_white (after_run t)) ≡ o
members_by t word rest o e f g = ap (λ w. members_in w (after_white (after_run t))) e ∙ (ap (members_in word) f ∙ g)

found_in_run : (ms right : List ℕ) → Black ms → White right → members_in (run (ms ++ 41 ∷ right)) (after_white (after_run (ms ++ 41 ∷ right))) ≡ Some ms
found_in_run ms right d w =
    let t = ms ++ 41 ∷ right in
    let same : t ≡ (ms ++ 41 ∷ []) ++ right = sym (append_assoc ms (41 ∷ []) right) in
    let dark : Black (ms ++ 41 ∷ []) = list_all-append is_not_whitespace ms (41 ∷ []) ∙ and_both (list_all is_not_whitespace ms) true d refl in
    let pauses = white_pauses right w in
    members_by t (ms ++ 41 ∷ []) [] (Some ms) (ap run same ∙ the_run (ms ++ 41 ∷ []) right dark pauses) (ap (λ q. after_white (after_run q)) same ∙ (ap after_white (past_run (ms ++ 41 ∷ []) right dark pauses) ∙ all_white right w))
    (ap (λ b. if b then Some (but_last (ms ++ 41 ∷ [])) else None) (ends_with-last 41 ms 41) ∙ ap (λ l. Some l) (but_last-last ms 41))

found_after : (ms after right : List ℕ) → Black ms → 0 < length after → White after → White right → members_in (run (ms ++ (after ++ 41 ∷ right))) (after_white (after_run (ms ++ (after ++ 41 ∷ right)))) ≡ Some ms
found_after ms after right d l v w =
    let t = ms ++ (after ++ 41 ∷ right) in
    let pauses = gap_pauses after (41 ∷ right) l v in
    members_by t ms (41 ∷ right) (Some ms) (the_run ms (after ++ 41 ∷ right) d pauses) (ap after_white (past_run ms (after ++ 41 ∷ right) d pauses) ∙ past_white after (41 ∷ right) v refl)
    (ap (λ q. if is_nothing q then Some ms else None) (all_white right w))

found_by : (ms after right : List ℕ) → Black ms → White after → White right → members_in (run (ms ++ (after ++ 41 ∷ right))) (after_white (after_run (ms ++ (after ++ 41 ∷ right)))) ≡ Some ms
found_by ms [] right d v w = found_in_run ms right d w
found_by ms (c ∷ after) right d v w = found_after ms (c ∷ after) right d (omega arith) v w

-- what stands after the inner parenthesis
record Marked (t : List ℕ) (s : SetTree) : Type 0 where
  name : ℕ
  between : List ℕ
  members : List ℕ
  split : t ≡ 33 ∷ name ∷ (between ++ members)
  name_black : is_whitespace name ≡ false
  there : 0 < length between
  white : White between
  run : List ℕ
  closed : Closed members run
  named : Named name run s

abbrev set_after : ℕ → List ℕ → Option SetTree
set_after c ms = then_some (members_in (run ms) (after_white (after_run ms))) (set_with c)

marked_is : (t : List ℕ) (s : SetTree) → set_in t ≡ Some s → Marked t s
marked_is [] s e = absurd (none-some _ e)
marked_is (b ∷ []) s e = absurd (none-some _ e)
marked_is (b ∷ c ∷ cs) s e =
    let ms = after_white cs in
    let p = if_holds ((b == 33) && (not (is_whitespace c) && is_nothing (run cs))) (set_after c ms) s e in
    let q = and_parts (b == 33) (not (is_whitespace c) && is_nothing (run cs)) p.0 in
    let n = and_parts (not (is_whitespace c)) (is_nothing (run cs)) q.1 in
    let m = then_parts (members_in (run ms) (after_white (after_run ms))) (set_with c) s p.1 in
    let w = white_cut cs in
    let r = run_cut cs in
    let closed = closed_is ms m.0 m.1 in
    let named = named_is c m.0 s m.2 in
    let pauses : Pauses (w.front ++ ms) = subst Pauses (sym (ap (λ l. l ++ after_run cs) (nothing_is (run cs) n.1)) ∙ (sym r.split ∙ w.split)) r.pauses in
    let there = longer [] m.0 (closed.after ++ 41 ∷ closed.right) ms closed.split named.there in
    record {
      name = c;
      between = w.front;
      members = ms;
      split = ap (λ k. k ∷ c ∷ cs) (eqb-true b 33 q.0) ∙ ap (λ l. 33 ∷ c ∷ l) w.split;
      name_black = not_false (is_whitespace c) n.0;
      there = gap_is w.front ms pauses w.stops there;
      white = w.white;
      run = m.0;
      closed = closed;
      named = named;
    }

marked_found : (t : List ℕ) (s : SetTree) → Marked t s → set_in t ≡ Some s
marked_found t s h =
    let cs = h.between ++ h.members in
    let members : h.members ≡ h.run ++ (h.closed.after ++ 41 ∷ h.closed.right) = h.closed.split in
    let stops : Stops h.members = subst Stops (sym members) (run_stops h.run (h.closed.after ++ 41 ∷ h.closed.right) h.named.there h.closed.dark) in
    let past : after_white cs ≡ h.members = past_white h.between h.members h.white stops in
    let none : run cs ≡ [] = the_run [] cs refl (gap_pauses h.between h.members h.there h.white) in
    let tests : (not (is_whitespace h.name) && is_nothing (run cs)) ≡ true = and_both (not (is_whitespace h.name)) (is_nothing (run cs)) (ap not h.name_black) (ap is_nothing none) in
    ap set_in h.split ∙ (ap (λ b. if b then set_after h.name (after_white cs) else None) tests ∙ (ap (set_after h.name) past
    ∙ (ap (set_after h.name) members ∙ (ap (λ o. then_some o (set_with h.name)) (found_by h.run h.closed.after h.closed.right h.closed.dark h.closed.after_white h.closed.right_white) ∙ named_found h.name h.run s h.named))))

abbrev inner_set : List ℕ → Option SetTree
inner_set rest = then_some (after_word (codes "(") (after_white rest)) (λ inner. set_in (after_white inner))

-- the pieces of a letter set, put together
pieces : (t t1 rest t2 inner t3 a b c d : List ℕ) → t ≡ a ++ t1 → t1 ≡ codes "letter-set" ++ rest → rest ≡ b ++ t2 → t2 ≡ 40 ∷ inner → inner ≡ c ++ t3 → t3 ≡ d → t ≡ a ++ (codes "letter-set" ++ (b ++ 40 ∷ (c ++ d)))
pieces t t1 rest t2 inner t3 a b c d e f g h i j = e ∙ ap (λ l. a ++ l) (f ∙ ap (λ l. codes "letter-set" ++ l) (g ∙ ap (λ l. b ++ l) (h ∙ ap (λ l. 40 ∷ l) (i ∙ ap (λ l. c ++ l) j))))

set_is : (cs : List ℕ) (s : SetTree) → read_letters cs ≡ Some s → IsLetterSet cs s
set_is cs s e =
    let t = inside cs in
    let w = white_cut t in
    let a = then_parts (after_word (codes "letter-set") (after_white t)) inner_set s e in
    let v = white_cut a.0 in
    let b = then_parts (after_word (codes "(") (after_white a.0)) (λ inner. set_in (after_white inner)) s a.2 in
    let u = white_cut b.0 in
    let m = marked_is (after_white b.0) s b.2 in
    let last : after_white b.0 ≡ 33 ∷ m.name ∷ (m.between ++ (m.run ++ (m.closed.after ++ 41 ∷ m.closed.right))) = m.split ∙ ap (λ l. 33 ∷ m.name ∷ (m.between ++ l)) m.closed.split in
    let whole = 33 ∷ m.name ∷ (m.between ++ (m.run ++ (m.closed.after ++ 41 ∷ m.closed.right))) in
    let split = pieces t (after_white t) a.0 (after_white a.0) b.0 (after_white b.0) w.front v.front u.front whole w.split (word_is (codes "letter-set") (after_white t) a.0 a.1) v.split (word_is (codes "(") (after_white a.0) b.0 b.1) u.split last in
    record {
      left = w.front;
      before = v.front;
      within = u.front;
      name = m.name;
      between = m.between;
      members = m.run;
      after = m.closed.after;
      right = m.closed.right;
      inside = is_inside cs (w.front ++ (codes "letter-set" ++ (v.front ++ 40 ∷ (u.front ++ whole)))) split (longer w.front (codes "letter-set") (v.front ++ 40 ∷ (u.front ++ whole)) (w.front ++ (codes "letter-set" ++ (v.front ++ 40 ∷ (u.front ++ whole)))) refl (omega arith));
      left_white = AllPass-from_list_all is_whitespace w.front w.white;
      before_white = AllPass-from_list_all is_whitespace v.front v.white;
      within_white = AllPass-from_list_all is_whitespace u.front u.white;
      name_black = m.name_black;
      gap = (m.there, AllPass-from_list_all is_whitespace m.between m.white);
      members_run = (m.named.there, AllPass-from_list_all is_not_whitespace m.run m.closed.dark);
      after_white = AllPass-from_list_all is_whitespace m.closed.after m.closed.after_white;
      right_white = AllPass-from_list_all is_whitespace m.closed.right m.closed.right_white;
      names = m.named.name;
      folds = m.named.members;
    }

set_found : (cs : List ℕ) (s : SetTree) → IsLetterSet cs s → read_letters cs ≡ Some s
set_found cs s h =
    let members = h.members ++ (h.after ++ 41 ∷ h.right) in
    let marked = 33 ∷ h.name ∷ (h.between ++ members) in
    let inner = h.within ++ marked in
    let rest = h.before ++ 40 ∷ inner in
    let left = list_all-from_AllPass is_whitespace h.left h.left_white in
    let before = list_all-from_AllPass is_whitespace h.before h.before_white in
    let within = list_all-from_AllPass is_whitespace h.within h.within_white in
    let start : after_white (inside cs) ≡ codes "letter-set" ++ rest = ap after_white (inside_is cs (h.left ++ (codes "letter-set" ++ rest)) h.inside) ∙ past_white h.left (codes "letter-set" ++ rest) left refl in
    let second : after_white rest ≡ 40 ∷ inner = past_white h.before (40 ∷ inner) before refl in
    let third : after_white inner ≡ marked = past_white h.within marked within refl in
    let m : Marked marked s = record {
      name = h.name;
      between = h.between;
      members = members;
      split = refl;
      name_black = h.name_black;
      there = h.gap.0;
      white = list_all-from_AllPass is_whitespace h.between h.gap.1;
      run = h.members;
      closed = record { after = h.after; right = h.right; split = refl; after_white = list_all-from_AllPass is_whitespace h.after h.after_white; right_white = list_all-from_AllPass is_whitespace h.right h.right_white; dark = list_all-from_AllPass is_not_whitespace h.members h.members_run.1 };
      named = record { there = h.members_run.0; name = h.names; members = h.folds };
    } in
    ap (λ q. then_some (after_word (codes "letter-set") q) inner_set) start ∙ (ap (λ o. then_some o inner_set) (word_found (codes "letter-set") rest)
    ∙ (ap (λ q. then_some (after_word (codes "(") q) (λ i. set_in (after_white i))) second ∙ (ap (λ o. then_some o (λ i. set_in (after_white i))) (word_found (codes "(") inner) ∙ (ap set_in third ∙ marked_found marked s m))))

none_is : {A : Type 0} (o : Option A) → ((a : A) → o ≡ Some a → ⊥) → o ≡ None
none_is None f = refl
none_is (Some a) f = absurd (f a refl)

abbrev told_group : Option GroupTree → GroupTree
told_group o = unwrap_or o (record { pattern = []; with = [] })

abbrev told_set : Option SetTree → SetTree
told_set o = unwrap_or o (record { name = 0; members = [] })

-- a group out of form is one that the functions do not read
pub group_formless : (sets : List SetTree) (cs : List ℕ) → is_some (read_group sets cs) ≡ false → (g : GroupTree) → IsGroup sets cs g → ⊥
group_formless sets cs e g h = false≢true (sym e ∙ ap is_some (group_found sets cs g h))

pub group_unread : (sets : List SetTree) (cs : List ℕ) → ((g : GroupTree) → IsGroup sets cs g → ⊥) → is_some (read_group sets cs) ≡ false
group_unread sets cs f = ap is_some (none_is (read_group sets cs) (λ g e. f g (group_is sets cs g e)))

pub set_formless_by : (cs : List ℕ) → is_some (read_letters cs) ≡ false → (s : SetTree) → IsLetterSet cs s → ⊥
set_formless_by cs e s h = false≢true (sym e ∙ ap is_some (set_found cs s h))

pub set_unread : (cs : List ℕ) → ((s : SetTree) → IsLetterSet cs s → ⊥) → is_some (read_letters cs) ≡ false
set_unread cs f = ap is_some (none_is (read_letters cs) (λ s e. f s (set_is cs s e)))

-- what a group says is what the functions find
pub group_said : (sets : List SetTree) (cs : List ℕ) (g : GroupTree) → Says sets cs g → group_of sets cs ≡ g
group_said sets cs _ (by_form g h) = ap told_group (group_found sets cs g h)
group_said sets cs _ (formless f) = ap told_group (none_is (read_group sets cs) (λ g e. f g (group_is sets cs g e)))

pub set_said : (cs : List ℕ) (s : SetTree) → SaysSet cs s → letters_of cs ≡ s
set_said cs _ (set_by_form s h) = ap told_set (set_found cs s h)
set_said cs _ (set_formless f) = ap told_set (none_is (read_letters cs) (λ s e. f s (set_is cs s e)))

pub group_says : (sets : List SetTree) (cs : List ℕ) → Says sets cs (group_of sets cs)
group_says sets cs = from (read_group sets cs) refl
  where
    from : (o : Option GroupTree) → read_group sets cs ≡ o → Says sets cs (group_of sets cs)
    from None e = subst (Says sets cs) (sym (ap told_group e)) (formless (λ g h. none-some _ (sym e ∙ group_found sets cs g h)))
    from (Some g) e = subst (Says sets cs) (sym (ap told_group e)) (by_form g (group_is sets cs g e))

pub set_says : (cs : List ℕ) → SaysSet cs (letters_of cs)
set_says cs = from (read_letters cs) refl
  where
    from : (o : Option SetTree) → read_letters cs ≡ o → SaysSet cs (letters_of cs)
    from None e = subst (SaysSet cs) (sym (ap told_set e)) (set_formless (λ s h. none-some _ (sym e ∙ set_found cs s h)))
    from (Some s) e = subst (SaysSet cs) (sym (ap told_set e)) (set_by_form s (set_is cs s e))
