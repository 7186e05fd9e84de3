-- The lists of an MRS, and the MRS, over the steps of the text.
use Rattle.std.proofs.Common.{◌≡◌, ℕ, ◌∙◌, ◌<◌, ◌^◌, Bool, true, false, List, [], ◌∷◌, ◌++◌, refl, ap, sym, subst, append_assoc, length, codes, Option, Some, None, decimal, arith}
use Rattle.std.specs.List.{All, flat_map}
use Rattle.std.specs.Str.{chars}
use Rattle.std.proofs.lemmas.List.Elements.{All-nil, All-cons, All-head, All-tail, All-get_or}
use Rattle.std.proofs.lemmas.Str.Ascii.{IsAscii-cons, IsAscii-nil}
use Rattle.mrs_model.specs.declared.Extent.{Extent}
use Rattle.mrs_model.specs.Meanings.{Variable, Filler, of_var, of_text, Argument, Predication, Constraint}
use Rattle.mrs_model.specs.Valid.{IsVariable, IsFiller, IsArgument, IsPredication, IsConstraint}
use Rattle.mrs_spelling.specs.declared.kinds.Kind.{Kind}
use Rattle.mrs_spelling.specs.declared.kinds.Kind.TheVariants.{Role, Filler as FillerKind, OpensText, Text, EpEnd}
use Rattle.mrs_spelling.specs.Forms.{Class, white, letter, in_name, in_pred, only, has, Form, sign, seq, many, either, token}
use Rattle.mrs_spelling.specs.Grammar.{run, blanks, word, var, text, role, pred, link, ep, constraint, constraints}
use Rattle.mrs_spelling.specs.Reading.{head, passes}
use Rattle.mrs_reading.specs.Meaning.{Piece}
use Rattle.mrs_text.specs.Written.{escaped, upper, pred_text, span_text, variable_text, variable_at, place_of, seen_after}
use Rattle.mrs_text.specs.Stored.{IsStoredVariable, IsStoredFiller, IsStoredArgument, IsStoredPredication, IsStoredConstraint}
use Rattle.mrs_text.proofs.Taking.{take_seq, take_then, take_none, take_more, take_first, take_second}
use Rattle.mrs_text.proofs.Uppers.{IsRunOf, name_run, upper_run}
use Rattle.mrs_text.proofs.Eating.{Eats, Past, Meets, past_low, meets_low, eat_sign, eat_only, eat_blank, AllLow, eat_word, eat_tight, eat_run, eat_token, run_first}
use Rattle.mrs_text.proofs.Steps.{Step, say, at, told, variable_pieces, pieces, filler_step, args_then, pred_piece, link_pieces, roles_of, ep_then, eps_then, constraint_then, constraints_then, list_then}
use Rattle.mrs_text.proofs.Variables.{run_ascii, name_white, name_open, sort_run, sort_name, eat_var}
use Rattle.mrs_text.proofs.SeenLemmas.{Fit, fit_next, fit_number}
use Rattle.mrs_text.proofs.Walking.{tl, Led, name_not, var_first, quote_utf8, quoted_is, eat_text, eat_role, pred_white, eat_pred, eat_link}

lbl_is_name : IsRunOf in_name (upper (codes "lbl"))
lbl_is_name = run_ascii in_name (76 ∷ 66 ∷ 76 ∷ []) (IsAscii-cons 76 (66 ∷ 76 ∷ []) (omega arith) (IsAscii-cons 66 (76 ∷ []) (omega arith) (IsAscii-cons 76 [] (omega arith) IsAscii-nil))) (omega arith)
    (All-cons (λ c. has in_name c ≡ true) 76 (66 ∷ 76 ∷ []) refl (All-cons (λ c. has in_name c ≡ true) 66 (76 ∷ []) refl (All-cons (λ c. has in_name c ≡ true) 76 [] refl (All-nil (λ c. has in_name c ≡ true)))))

module _ (vars : List Variable) (few : length vars < 2 ^ 64) (valid : All IsVariable vars) (stored : All IsStoredVariable vars) where
  -- from these characters the form goes on to what the tail of the steps tells
  pub record Walks (r : Form) (left : List ℕ) (seen : List ℕ) (ss tail : List Step) : Type 0 where
    pub after : List ℕ
    pub toks : List Piece
    pub fit : Fit (length vars) after
    pub eats : Eats r left (tl (told vars after tail)) toks
    pub is : pieces vars seen ss ≡ toks ++ pieces vars after tail

  abbrev Leads : List Step → Type 0
  Leads tail = (seen : List ℕ) → Led (told vars seen tail)

  abbrev Shuts : Class → List Step → Type 0
  Shuts x tail = (seen : List ℕ) → Past x (tl (told vars seen tail))

  variable_ok : (v : ℕ) → v < length vars → IsVariable (variable_at vars v)
  variable_ok v l = All-get_or IsVariable vars v (record { sort = []; props = [] }) l valid

  variable_stored : (v : ℕ) → v < length vars → IsStoredVariable (variable_at vars v)
  variable_stored v l = All-get_or IsStoredVariable vars v (record { sort = []; props = [] }) l stored

  pub eat_at : (k : Kind) (seen : List ℕ) (v : ℕ) (tail : List Step) → Fit (length vars) seen → v < length vars → Leads tail → Shuts (only 91) tail
      → Eats (var k) (told vars seen (at k v ∷ tail)) (tl (told vars (seen_after (place_of v seen) seen v) tail)) (variable_pieces k (place_of v seen) (length seen) (variable_at vars v))
  eat_at k seen v tail f l d s =
      let after = seen_after (place_of v seen) seen v in
      let t = told vars after tail in
      let w = d after in
      let o = place_of v seen in
      let va = variable_at vars v in
      subst (λ (z : List ℕ). Eats (var k) (variable_text o (length seen) va ++ z) (tl t) (variable_pieces k o (length seen) va)) (sym w.is)
      (eat_var k o (length seen) va (tl t) (variable_ok v l) (variable_stored v l) (fit_number (length vars) seen v few f) w.white (s after))

  pub at_first : (y : Class) (k : Kind) (seen : List ℕ) (v : ℕ) (tail : List Step) (b : Bool) → v < length vars → ((c : ℕ) → has in_name c ≡ true → has y c ≡ b) → passes y (head (chars (told vars seen (at k v ∷ tail)))) ≡ b
  at_first y k seen v tail b l f = var_first y (place_of v seen) (length seen) (variable_at vars v) (told vars (seen_after (place_of v seen) seen v) tail) b in_name (sort_name (variable_at vars v).sort (variable_ok v l).sort) f

  at_letter : (k : Kind) (seen : List ℕ) (v : ℕ) (tail : List Step) → v < length vars → Meets letter (told vars seen (at k v ∷ tail))
  at_letter k seen v tail l = var_first letter (place_of v seen) (length seen) (variable_at vars v) (told vars (seen_after (place_of v seen) seen v) tail) true letter (sort_run (variable_at vars v).sort (variable_ok v l).sort) (λ c e. e)

  -- what fills a role
  walk_filler : (f : Filler) (seen : List ℕ) (tail : List Step) → IsFiller (length vars) f → IsStoredFiller f → Fit (length vars) seen → Leads tail → Shuts (only 91) tail
      → Walks (either (only 34) text (var FillerKind)) (told vars seen (filler_step f ∷ tail)) seen (filler_step f ∷ tail) tail
  walk_filler (of_var v) seen tail l u f d s = record {
    after = seen_after (place_of v seen) seen v;
    toks = variable_pieces FillerKind (place_of v seen) (length seen) (variable_at vars v);
    fit = fit_next (length vars) seen v f l;
    eats = take_second (only 34) text (var FillerKind) (chars (told vars seen (at FillerKind v ∷ tail))) (chars (tl (told vars (seen_after (place_of v seen) seen v) tail))) (variable_pieces FillerKind (place_of v seen) (length seen) (variable_at vars v))
        (at_first (only 34) FillerKind seen v tail false l (λ c. name_not 34 c refl)) (eat_at FillerKind seen v tail f l d s);
    is = refl;
  }
  walk_filler (of_text t) seen tail l u f d s =
      let rest = told vars seen tail in
      let w = d seen in
      let ps : List Piece = record { kind = OpensText; text = 34 ∷ [] } ∷ record { kind = Text; text = flat_map escaped t } ∷ [] in
      let q = 34 ∷ (flat_map escaped t ++ 34 ∷ 32 ∷ tl rest) in
      record {
        after = seen;
        toks = ps;
        fit = f;
        eats = subst (λ (z : List ℕ). Eats (either (only 34) text (var FillerKind)) z (tl rest) ps) (sym (quoted_is t rest ∙ ap (λ z. 34 ∷ (flat_map escaped t ++ 34 ∷ z)) w.is))
            (take_first (only 34) text (var FillerKind) (chars q) (chars (tl rest)) ps (meets_low (only 34) 34 (flat_map escaped t ++ 34 ∷ 32 ∷ tl rest) (omega arith) refl) (eat_text t (tl rest) u w.white));
        is = refl;
      }

  filler_white : (f : Filler) (seen : List ℕ) (tail : List Step) → IsFiller (length vars) f → Past white (told vars seen (filler_step f ∷ tail))
  filler_white (of_var v) seen tail l = at_first white FillerKind seen v tail false l name_white
  filler_white (of_text t) seen tail l = past_low white 34 ((flat_map escaped t ++ 34 ∷ []) ++ told vars seen tail) (omega arith) refl

  -- roles: the label or what a valid one has
  pub record Roles (a : Argument) : Type 0 where
    pub name : IsRunOf in_name (upper a.role)
    pub filler : IsFiller (length vars) a.filler
    pub kept : IsStoredFiller a.filler

  role_first : (y : Class) (a : Argument) (xs : List Argument) (tail : List Step) (seen : List ℕ) (b : Bool) → Roles a → ((c : ℕ) → has in_name c ≡ true → has y c ≡ b) → passes y (head (chars (tl (told vars seen (args_then (a ∷ xs) tail))))) ≡ b
  role_first y a xs tail seen b h f =
      let t = told vars seen (filler_step a.filler ∷ args_then xs tail) in
      ap (λ z. passes y (head (chars z))) (append_assoc (upper a.role) (58 ∷ 32 ∷ []) t) ∙ run_first in_name y (upper a.role) (58 ∷ 32 ∷ t) b h.name f

  args_led : (xs : List Argument) (tail : List Step) → All Roles xs → Leads tail → Leads (args_then xs tail)
  args_led [] tail h d seen = d seen
  args_led (a ∷ xs) tail h d seen = record { is = refl; white = role_first white a xs tail seen false (All-head Roles a xs h) name_white }

  args_shut : (xs : List Argument) (tail : List Step) → All Roles xs → Shuts (only 91) tail → Shuts (only 91) (args_then xs tail)
  args_shut [] tail h s seen = s seen
  args_shut (a ∷ xs) tail h s seen = role_first (only 91) a xs tail seen false (All-head Roles a xs h) name_open

  walk_args : (xs : List Argument) (tail : List Step) (seen : List ℕ) → All Roles xs → Fit (length vars) seen → Leads tail → Shuts (only 91) tail → Shuts in_name tail → Walks (many in_name role) (tl (told vars seen (args_then xs tail))) seen (args_then xs tail) tail
  walk_args [] tail seen h f d s n = record { after = seen; toks = []; fit = f; eats = take_none in_name role (chars (tl (told vars seen tail))) (n seen); is = refl }
  walk_args (a ∷ xs) tail seen h f d s n =
      let b = All-head Roles a xs h in
      let g = All-tail Roles a xs h in
      let next = args_then xs tail in
      let t = told vars seen (filler_step a.filler ∷ next) in
      let w = walk_filler a.filler seen next b.filler b.kept f (args_led xs tail g d) (args_shut xs tail g s) in
      let z = walk_args xs tail w.after g w.fit d s n in
      let p : Piece = record { kind = Role; text = upper a.role } in
      record {
        after = z.after;
        toks = (p ∷ w.toks) ++ z.toks;
        fit = z.fit;
        eats = take_more in_name role (chars (tl (told vars seen (args_then (a ∷ xs) tail)))) (chars (tl (told vars w.after next))) (chars (tl (told vars z.after tail))) (p ∷ w.toks) z.toks
            (role_first in_name a xs tail seen true b (λ c e. e))
            (subst (λ (l : List ℕ). Eats role l (tl (told vars w.after next)) (p ∷ w.toks)) (sym (append_assoc (upper a.role) (58 ∷ 32 ∷ []) t))
            (eat_role (upper a.role) t (tl (told vars w.after next)) w.toks b.name (filler_white a.filler seen next b.filler) w.eats)) z.eats;
        is = ap (λ l. p ∷ l) (w.is ∙ ap (λ l. w.toks ++ l) z.is ∙ sym (append_assoc w.toks z.toks (pieces vars z.after tail)));
      }

  -- elementary predications
  pub record Preds (e : Predication) : Type 0 where
    pub valid_ep : IsPredication (length vars) e
    pub stored_ep : IsStoredPredication e

  all_roles : (xs : List Argument) → All (IsArgument (length vars)) xs → All IsStoredArgument xs → All Roles xs
  all_roles [] h k = All-nil Roles
  all_roles (a ∷ xs) h k =
      let b = All-head (IsArgument (length vars)) a xs h in
      let c = All-head IsStoredArgument a xs k in
      All-cons Roles a xs (record { name = upper_run a.role b.role c.role; filler = b.filler; kept = c.filler }) (all_roles xs (All-tail (IsArgument (length vars)) a xs h) (All-tail IsStoredArgument a xs k))

  ep_roles : (e : Predication) → Preds e → All Roles (roles_of e)
  ep_roles e h = All-cons Roles (record { role = codes "lbl"; filler = of_var e.label }) e.args (record { name = lbl_is_name; filler = h.valid_ep.label; kept = tt }) (all_roles e.args h.valid_ep.args h.stored_ep.args)

  abbrev end_piece : Piece
  end_piece = record { kind = EpEnd; text = 93 ∷ [] }

  abbrev closing : List Step → List Step
  closing tail = say (codes " ]") (end_piece ∷ []) ∷ tail

  closing_led : (tail : List Step) → Leads (closing tail)
  closing_led tail seen = record { is = refl; white = past_low white 93 (told vars seen tail) (omega arith) refl }

  abbrev ep_end : Form
  ep_end = seq (token EpEnd (sign (only 93))) blanks

  eat_end : (tail : List Step) (seen : List ℕ) → Leads tail → Eats ep_end (93 ∷ told vars seen tail) (tl (told vars seen tail)) (end_piece ∷ [])
  eat_end tail seen d =
      let t = told vars seen tail in
      let w = d seen in
      take_then (token EpEnd (sign (only 93))) blanks (chars (93 ∷ t)) (chars t) (chars (tl t)) (end_piece ∷ [])
      (eat_token EpEnd (sign (only 93)) (93 ∷ []) t (quote_utf8 93 (omega arith)) (eat_only 93 t (omega arith)))
      (subst (λ (z : List ℕ). Eats blanks z (tl t) []) (sym w.is) (eat_blank (tl t) w.white))

  -- before the roles
  after_pred : (o : Option Extent) (t : List ℕ) → Past in_pred t → Past in_pred (span_text o ++ t)
  after_pred None t h = h
  after_pred (Some e) t h = past_low in_pred 60 (((decimal e.from ++ (58 ∷ decimal e.to)) ++ 62 ∷ []) ++ t) (omega arith) refl

  walk_ep : (e : Predication) (tail : List Step) (seen : List ℕ) → Preds e → Fit (length vars) seen → Leads tail → Walks ep (tl (told vars seen (ep_then e tail))) seen (ep_then e tail) tail
  walk_ep e tail seen h f d =
      let g = ep_roles e h in
      let after = args_then (roles_of e) (closing tail) in
      let t = told vars seen after in
      let led = args_led (roles_of e) (closing tail) g (closing_led tail) seen in
      let z = walk_args (roles_of e) (closing tail) seen g f (closing_led tail) (λ u. past_low (only 91) 93 (told vars u tail) (omega arith) refl) (λ u. past_low in_name 93 (told vars u tail) (omega arith) refl) in
      let p = pred_text e.pred in
      let q = span_text e.span in
      let rest = tl (told vars z.after tail) in
      let ends = eat_end tail z.after d in
      let blank : (x : Class) → has x 32 ≡ false → Past x t = λ x n. subst (Past x) (sym led.is) (past_low x 32 (tl t) (omega arith) n) in
      let inner : List Piece = z.toks ++ end_piece ∷ [] in
      record {
        after = z.after;
        toks = (pred_piece e.pred ∷ link_pieces e.span) ++ inner;
        fit = z.fit;
        eats = subst (λ (l : List ℕ). Eats ep (91 ∷ 32 ∷ l) rest ((pred_piece e.pred ∷ link_pieces e.span) ++ inner)) (sym (append_assoc p q t))
            (take_seq (word (codes "[")) (seq pred (seq link (seq blanks (seq (many in_name role) ep_end)))) (chars (91 ∷ 32 ∷ (p ++ (q ++ t)))) (chars (p ++ (q ++ t))) (chars rest) [] ((pred_piece e.pred ∷ link_pieces e.span) ++ inner)
            (eat_word (codes "[") (p ++ (q ++ t)) (omega arith, tt) (pred_white e.pred (q ++ t) h.stored_ep.pred))
            (take_seq pred (seq link (seq blanks (seq (many in_name role) ep_end))) (chars (p ++ (q ++ t))) (chars (q ++ t)) (chars rest) (pred_piece e.pred ∷ []) (link_pieces e.span ++ inner)
            (eat_pred e.pred (q ++ t) h.stored_ep.pred (after_pred e.span t (blank in_pred refl)))
            (take_seq link (seq blanks (seq (many in_name role) ep_end)) (chars (q ++ t)) (chars t) (chars rest) (link_pieces e.span) inner
            (eat_link e.span t h.stored_ep.span (blank (only 60) refl))
            (take_seq blanks (seq (many in_name role) ep_end) (chars t) (chars (tl t)) (chars rest) [] inner
            (subst (λ (l : List ℕ). Eats blanks l (tl t) []) (sym led.is) (eat_blank (tl t) led.white))
            (take_seq (many in_name role) ep_end (chars (tl t)) (chars (93 ∷ told vars z.after tail)) (chars rest) z.toks (end_piece ∷ []) z.eats ends)))));
        is = ap (λ l. (pred_piece e.pred ∷ link_pieces e.span) ++ l) (z.is ∙ sym (append_assoc z.toks (end_piece ∷ []) (pieces vars z.after tail))) ∙ sym (append_assoc (pred_piece e.pred ∷ link_pieces e.span) inner (pieces vars z.after tail));
      }

  pub eps_led : (es : List Predication) (tail : List Step) → Leads tail → Leads (eps_then es tail)
  eps_led [] tail d seen = d seen
  eps_led (e ∷ es) tail d seen = record { is = refl; white = past_low white 91 (tl (tl (told vars seen (eps_then (e ∷ es) tail)))) (omega arith) refl }

  pub walk_eps : (es : List Predication) (tail : List Step) (seen : List ℕ) → All Preds es → Fit (length vars) seen → Leads tail → Shuts (only 91) tail → Walks (many (only 91) ep) (tl (told vars seen (eps_then es tail))) seen (eps_then es tail) tail
  walk_eps [] tail seen h f d s = record { after = seen; toks = []; fit = f; eats = take_none (only 91) ep (chars (tl (told vars seen tail))) (s seen); is = refl }
  walk_eps (e ∷ es) tail seen h f d s =
      let next = eps_then es tail in
      let w = walk_ep e next seen (All-head Preds e es h) f (eps_led es tail d) in
      let z = walk_eps es tail w.after (All-tail Preds e es h) w.fit d s in
      record {
        after = z.after;
        toks = w.toks ++ z.toks;
        fit = z.fit;
        eats = take_more (only 91) ep (chars (tl (told vars seen (eps_then (e ∷ es) tail)))) (chars (tl (told vars w.after next))) (chars (tl (told vars z.after tail))) w.toks z.toks
            (meets_low (only 91) 91 (tl (tl (told vars seen (eps_then (e ∷ es) tail)))) (omega arith) refl) w.eats z.eats;
        is = w.is ∙ ap (λ l. w.toks ++ l) z.is ∙ sym (append_assoc w.toks z.toks (pieces vars z.after tail));
      }

  -- constraints
  pub record Links (c : Constraint) : Type 0 where
    pub valid_link : IsConstraint (length vars) c
    pub stored_link : IsStoredConstraint c

  module _ (one rel_kind two : Kind) where
    abbrev middle : Constraint → List Step → List Step
    middle c tail = say ((32 ∷ c.rel) ++ 32 ∷ []) (record { kind = rel_kind; text = c.rel } ∷ []) ∷ at two c.right ∷ tail

    rel_run : (c : Constraint) → Links c → IsRunOf in_name c.rel
    rel_run c h = name_run c.rel h.valid_link.rel h.stored_link

    middle_first : (y : Class) (c : Constraint) (tail : List Step) (seen : List ℕ) (b : Bool) → Links c → ((d : ℕ) → has in_name d ≡ true → has y d ≡ b) → passes y (head (chars (tl (told vars seen (middle c tail))))) ≡ b
    middle_first y c tail seen b h f =
        let v = told vars seen (at two c.right ∷ tail) in
        ap (λ z. passes y (head (chars z))) (append_assoc c.rel (32 ∷ []) v) ∙ run_first in_name y c.rel (32 ∷ v) b (rel_run c h) f

    middle_led : (c : Constraint) (tail : List Step) → Links c → Leads (middle c tail)
    middle_led c tail h seen = record { is = refl; white = middle_first white c tail seen false h name_white }

    walk_constraint : (c : Constraint) (tail : List Step) (seen : List ℕ) → Links c → Fit (length vars) seen → Leads tail → Shuts (only 91) tail
        → Walks (constraint one rel_kind two) (tl (told vars seen (constraint_then one rel_kind two c tail))) seen (constraint_then one rel_kind two c tail) tail
    walk_constraint c tail seen h f d s =
        let mid = middle c tail in
        let s1 = seen_after (place_of c.left seen) seen c.left in
        let s2 = seen_after (place_of c.right s1) s1 c.right in
        let f1 = fit_next (length vars) seen c.left f h.valid_link.left in
        let v = told vars s1 (at two c.right ∷ tail) in
        let rest = tl (told vars s2 tail) in
        let p : Piece = record { kind = rel_kind; text = c.rel } in
        let v1 = variable_pieces one (place_of c.left seen) (length seen) (variable_at vars c.left) in
        let v2 = variable_pieces two (place_of c.right s1) (length s1) (variable_at vars c.right) in
        let r = rel_run c h in
        record {
          after = s2;
          toks = v1 ++ (p ∷ v2);
          fit = fit_next (length vars) s1 c.right f1 h.valid_link.right;
          eats = take_seq (var one) (seq (token rel_kind (run in_name)) (seq (run white) (var two))) (chars (told vars seen (at one c.left ∷ mid))) (chars (tl (told vars s1 mid))) (chars rest) v1 (p ∷ v2)
              (eat_at one seen c.left mid f h.valid_link.left (middle_led c tail h) (λ u. middle_first (only 91) c tail u false h name_open))
              (subst (λ (l : List ℕ). Eats (seq (token rel_kind (run in_name)) (seq (run white) (var two))) l rest (p ∷ v2)) (sym (append_assoc c.rel (32 ∷ []) v))
              (take_seq (token rel_kind (run in_name)) (seq (run white) (var two)) (chars (c.rel ++ 32 ∷ v)) (chars (32 ∷ v)) (chars rest) (p ∷ []) v2
              (eat_token rel_kind (run in_name) c.rel (32 ∷ v) r.utf8 (eat_run in_name c.rel (32 ∷ v) r (past_low in_name 32 v (omega arith) refl)))
              (take_seq (run white) (var two) (chars (32 ∷ v)) (chars v) (chars rest) [] v2
              (take_seq (sign white) (many white (sign white)) (chars (32 ∷ v)) (chars v) (chars v) [] [] (eat_sign white 32 v (omega arith) refl) (take_none white (sign white) (chars v) (at_first white two s1 c.right tail false h.valid_link.right name_white)))
              (eat_at two s1 c.right tail f1 h.valid_link.right d s))));
          is = sym (append_assoc v1 (p ∷ v2) (pieces vars s2 tail));
        }

    constraints_led : (cs : List Constraint) (tail : List Step) → All Links cs → Leads tail → Leads (constraints_then one rel_kind two cs tail)
    constraints_led [] tail h d seen = d seen
    constraints_led (c ∷ cs) tail h d seen = record { is = refl; white = at_first white one seen c.left (middle c (constraints_then one rel_kind two cs tail)) false (All-head Links c cs h).valid_link.left name_white }

    constraints_shut : (cs : List Constraint) (tail : List Step) → All Links cs → Shuts (only 91) tail → Shuts (only 91) (constraints_then one rel_kind two cs tail)
    constraints_shut [] tail h s seen = s seen
    constraints_shut (c ∷ cs) tail h s seen = at_first (only 91) one seen c.left (middle c (constraints_then one rel_kind two cs tail)) false (All-head Links c cs h).valid_link.left name_open

    walk_constraints : (cs : List Constraint) (tail : List Step) (seen : List ℕ) → All Links cs → Fit (length vars) seen → Leads tail → Shuts (only 91) tail → Shuts letter tail
        → Walks (many letter (constraint one rel_kind two)) (tl (told vars seen (constraints_then one rel_kind two cs tail))) seen (constraints_then one rel_kind two cs tail) tail
    walk_constraints [] tail seen h f d s n = record { after = seen; toks = []; fit = f; eats = take_none letter (constraint one rel_kind two) (chars (tl (told vars seen tail))) (n seen); is = refl }
    walk_constraints (c ∷ cs) tail seen h f d s n =
        let next = constraints_then one rel_kind two cs tail in
        let g = All-tail Links c cs h in
        let w = walk_constraint c next seen (All-head Links c cs h) f (constraints_led cs tail g d) (constraints_shut cs tail g s) in
        let z = walk_constraints cs tail w.after g w.fit d s n in
        record {
          after = z.after;
          toks = w.toks ++ z.toks;
          fit = z.fit;
          eats = take_more letter (constraint one rel_kind two) (chars (tl (told vars seen (constraints_then one rel_kind two (c ∷ cs) tail)))) (chars (tl (told vars w.after next))) (chars (tl (told vars z.after tail))) w.toks z.toks
              (at_letter one seen c.left (middle c next) (All-head Links c cs h).valid_link.left) w.eats z.eats;
          is = w.is ∙ ap (λ l. w.toks ++ l) z.is ∙ sym (append_assoc w.toks z.toks (pieces vars z.after tail));
        }

    abbrev ends : List Step → List Step
    ends tail = say (codes " >") [] ∷ tail

    ends_led : (tail : List Step) → Leads (ends tail)
    ends_led tail seen = record { is = refl; white = past_low white 62 (told vars seen tail) (omega arith) refl }

    pub walk_list : (w : List ℕ) (cs : List Constraint) (tail : List Step) (seen : List ℕ) → AllLow w → All Links cs → Fit (length vars) seen → Leads tail
        → Walks (seq (word w) (constraints one rel_kind two)) (tl (told vars seen (list_then w one rel_kind two cs tail))) seen (list_then w one rel_kind two cs tail) tail
    walk_list w cs tail seen low h f d =
        let all = constraints_then one rel_kind two cs (ends tail) in
        let c = told vars seen all in
        let led = constraints_led cs (ends tail) h (ends_led tail) seen in
        let z = walk_constraints cs (ends tail) seen h f (ends_led tail) (λ u. past_low (only 91) 62 (told vars u tail) (omega arith) refl) (λ u. past_low letter 62 (told vars u tail) (omega arith) refl) in
        let t = told vars z.after tail in
        let dz = d z.after in
        record {
          after = z.after;
          toks = z.toks;
          fit = z.fit;
          eats = subst (λ (l : List ℕ). Eats (seq (word w) (constraints one rel_kind two)) l (tl t) z.toks) (sym (append_assoc w (58 ∷ 32 ∷ 60 ∷ []) c))
              (take_seq (word w) (constraints one rel_kind two) (chars (w ++ 58 ∷ 32 ∷ 60 ∷ c)) (chars (58 ∷ 32 ∷ 60 ∷ c)) (chars (tl t)) [] z.toks (eat_tight w (58 ∷ 32 ∷ 60 ∷ c) low (past_low white 58 (32 ∷ 60 ∷ c) (omega arith) refl))
              (take_seq (word (codes ":")) (seq (word (codes "<")) (seq (many letter (constraint one rel_kind two)) (word (codes ">")))) (chars (58 ∷ 32 ∷ 60 ∷ c)) (chars (60 ∷ c)) (chars (tl t)) [] z.toks
              (eat_word (codes ":") (60 ∷ c) (omega arith, tt) (past_low white 60 c (omega arith) refl))
              (take_seq (word (codes "<")) (seq (many letter (constraint one rel_kind two)) (word (codes ">"))) (chars (60 ∷ c)) (chars (tl c)) (chars (tl t)) [] z.toks
              (subst (λ (l : List ℕ). Eats (word (codes "<")) (60 ∷ l) (tl c) []) (sym led.is) (eat_word (codes "<") (tl c) (omega arith, tt) led.white))
              (take_then (many letter (constraint one rel_kind two)) (word (codes ">")) (chars (tl c)) (chars (62 ∷ t)) (chars (tl t)) z.toks z.eats
              (subst (λ (l : List ℕ). Eats (word (codes ">")) (62 ∷ l) (tl t) []) (sym dz.is) (eat_word (codes ">") (tl t) (omega arith, tt) dz.white))))));
          is = z.is;
        }
