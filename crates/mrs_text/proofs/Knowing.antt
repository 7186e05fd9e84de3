-- The elementary predications that the tokens tell.
use Rattle.std.proofs.Common.{◌≡◌, ℕ, ◌+◌, ◌-◌, ◌*◌, ◌∙◌, ◌<◌, ◌^◌, inl, inr, Bool, true, false, ◌&&◌, nat_lt, if◌then◌else◌, List, [], ◌∷◌, ◌++◌, map, refl, ap, sym, subst, append_assoc, append-nil, length, codes, Option, Some, None, decimal, arith}
use Rattle.std.specs.List.{Contains, All, AllZip, flat_map, list_all}
use Rattle.std.specs.Str.{chars, str_to_ascii_lowercase, IsUtf8}
use Rattle.std.specs.Char.{is_ascii_digit, digit_value}
use Rattle.std.specs.Str.Parse.{AllDigits, digits_value_after}
use Rattle.std.proofs.lemmas.Fmt.{decimal_is_IsNumeral}
use Rattle.std.proofs.lemmas.Str.Parse.{digit_from_value}
use Rattle.std.proofs.lemmas.Str.{digit_value_digit}
use Rattle.std.proofs.lemmas.List.Elements.{All-head, All-tail}
use Rattle.mrs_model.specs.declared.Extent.{Extent}
use Rattle.mrs_model.specs.Meanings.{Variable, Filler as Filled, of_var, of_text, Argument, Predication}
use Rattle.mrs_model.specs.Texts.{IsPred}
use Rattle.mrs_model.specs.Valid.{IsFiller, IsArgument, IsPredication}
use Rattle.mrs_spelling.specs.declared.kinds.Kind.{Kind}
use Rattle.mrs_spelling.specs.declared.kinds.Kind.TheVariants.{PredRun, PredText, Link, Filler, Text, EpEnd}
use Rattle.mrs_reading.specs.Meaning.{Piece, Is, Normal, bare as is_bare, IsNumber, AreDigits, number_after, IsPredOf, IsSpanOf, Filling, Known, nothing_known, begun_with, known_after, ended_at, emitted, IsFilledBy, by_variable, by_text, IsPredicationOf}
use Rattle.mrs_reading.proofs.Predicated.{nothing_in, contains_map, map_contains}
use Rattle.mrs_reading.proofs.Moves.{first_or_other, is_first, is_other}
use Rattle.mrs_text.specs.Signs.{in_pred as is_in_pred}
use Rattle.mrs_text.specs.Written.{upper, escaped}
use Rattle.mrs_text.specs.Stored.{IsStoredFiller, IsStoredArgument, IsStoredSpan, IsStoredPredication}
use Rattle.mrs_text.proofs.Uppers.{lower_upper, same_lowers}
use Rattle.mrs_text.proofs.Quoting.{plain_escaped}
use Rattle.mrs_text.proofs.Steps.{Step, say, filler_step, args_then, pred_piece, link_pieces, roles_of, ep_then, eps_then}
use Rattle.mrs_text.proofs.Ranks.{key, bare}

-- numbers
one_value : (c : ℕ) → digit_value c < 10 → digit_value c ≡ c - 48
one_value c l = let r = digit_from_value c l in let e = digit_value_digit c r in omega (arith, e)

values_same : (n : ℕ) (ds : List ℕ) → AllDigits 10 ds → digits_value_after 10 n ds ≡ number_after n ds
values_same n [] h = refl
values_same n (d ∷ ds) h =
    let e = one_value d h.0 in
    let f : n * 10 + digit_value d ≡ 10 * n + (d - 48) = omega (arith, e) in
    values_same (n * 10 + digit_value d) ds h.1 ∙ ap (λ z. number_after z ds) f

are_digits : (one : (c : ℕ) → digit_value c < 10 → is_ascii_digit c ≡ true) (ds : List ℕ) → AllDigits 10 ds → AreDigits ds
are_digits one [] h = tt
are_digits one (d ∷ ds) h = (one d h.0, are_digits one ds h.1)

pub decimal_is : (one : (c : ℕ) → digit_value c < 10 → is_ascii_digit c ≡ true) (n : ℕ) → n < 2 ^ 32 → IsNumber (decimal n) n
decimal_is one n l =
    let w = decimal_is_IsNumeral n (omega (arith, l)) in
    record { some = w.0.0; digits = are_digits one (decimal n) w.0.1; is = sym (sym (values_same 0 (decimal n) w.0.1) ∙ w.1); small = l }

-- a predicate is told as it was, and its kind begins an elementary predication
pred_is : (p : List ℕ) → IsUtf8 p → IsPred p → IsPredOf (pred_piece p) p
pred_is p u h = by (nat_lt 0 (length p) && list_all is_in_pred (chars p))
  where
    by : (b : Bool) → IsPredOf (if b then record { kind = PredRun; text = p } else record { kind = PredText; text = flat_map escaped p }) p
    by true = subst (λ (z : List ℕ). Normal z p) (sym (same_lowers p h.lower)) (is_bare p h.bare)
    by false = subst (λ (z : List ℕ). Normal z p) (sym (ap str_to_ascii_lowercase (plain_escaped p u) ∙ same_lowers p h.lower)) (is_bare p h.bare)

pred_begins : (p : List ℕ) (c : Known) (rest : List Piece) → emitted known_after ended_at c (pred_piece p ∷ rest) ≡ emitted known_after ended_at (begun_with (pred_piece p)) rest
pred_begins p c rest = by (nat_lt 0 (length p) && list_all is_in_pred (chars p))
  where
    by : (b : Bool) → emitted known_after ended_at c ((if b then record { kind = PredRun; text = p } else record { kind = PredText; text = flat_map escaped p }) ∷ rest)
        ≡ emitted known_after ended_at (begun_with (if b then record { kind = PredRun; text = p } else record { kind = PredText; text = flat_map escaped p })) rest
    by true = refl
    by false = refl

abbrev mark_of : Option Extent → Option Piece
mark_of None = None
mark_of (Some e) = Some (record { kind = Link; text = decimal e.from ++ 58 ∷ decimal e.to })

span_is : (one : (c : ℕ) → digit_value c < 10 → is_ascii_digit c ≡ true) (o : Option Extent) → IsStoredSpan o → IsSpanOf (mark_of o) o
span_is one None s = refl
span_is one (Some e) s = record { a = decimal e.from; b = decimal e.to; is = refl; from = decimal_is one e.from s.0; to = decimal_is one e.to s.1 }

module _ (vars : List Variable) (order : List ℕ) where
  abbrev filler_piece : Filled → Piece
  filler_piece (of_var v) = record { kind = Filler; text = key vars order v }
  filler_piece (of_text t) = record { kind = Text; text = flat_map escaped t }

  abbrev fill_of : Argument → Filling
  fill_of a = record { role = str_to_ascii_lowercase (upper a.role); by = filler_piece a.filler }

  abbrev pub known_of : Predication → Known
  known_of e = record { pred = Some (pred_piece e.pred); mark = mark_of e.span; fills = map fill_of (roles_of e); role = None }

  abbrev told_by : Known → List Step → List Known
  told_by c ss = emitted known_after ended_at c (bare vars order ss)

  filler_told : (p m : Option Piece) (fills : List Filling) (r : List ℕ) (f : Filled) (tail : List Step) → told_by (record { pred = p; mark = m; fills = fills; role = Some r }) (filler_step f ∷ tail)
      ≡ told_by (record { pred = p; mark = m; fills = fills ++ record { role = r; by = filler_piece f } ∷ []; role = None }) tail
  filler_told p m fills r (of_var v) tail = refl
  filler_told p m fills r (of_text t) tail = refl

  args_told : (p m : Option Piece) (fills : List Filling) (xs : List Argument) (tail : List Step) → told_by (record { pred = p; mark = m; fills = fills; role = None }) (args_then xs tail)
      ≡ told_by (record { pred = p; mark = m; fills = fills ++ map fill_of xs; role = None }) tail
  args_told p m fills [] tail = ap (λ (z : List Filling). told_by (record { pred = p; mark = m; fills = z; role = None }) tail) (sym (append-nil fills))
  args_told p m fills (a ∷ xs) tail =
      filler_told p m fills (str_to_ascii_lowercase (upper a.role)) a.filler (args_then xs tail) ∙ args_told p m (fills ++ fill_of a ∷ []) xs tail
      ∙ ap (λ (z : List Filling). told_by (record { pred = p; mark = m; fills = z; role = None }) tail) (append_assoc fills (fill_of a ∷ []) (map fill_of xs))

  link_told : (p : Piece) (o : Option Extent) (rest : List Piece) → emitted known_after ended_at (begun_with p) (link_pieces o ++ rest) ≡ emitted known_after ended_at (record { pred = Some p; mark = mark_of o; fills = []; role = None }) rest
  link_told p None rest = refl
  link_told p (Some e) rest = refl

  ep_told : (e : Predication) (c : Known) (tail : List Step) → told_by c (ep_then e tail) ≡ known_of e ∷ told_by nothing_known tail
  ep_told e c tail =
      let closing = say (codes " ]") (record { kind = EpEnd; text = 93 ∷ [] } ∷ []) ∷ tail in
      let rest = bare vars order (args_then (roles_of e) closing) in
      pred_begins e.pred c (link_pieces e.span ++ rest) ∙ link_told (pred_piece e.pred) e.span rest ∙ args_told (Some (pred_piece e.pred)) (mark_of e.span) [] (roles_of e) closing

  pub eps_told : (es : List Predication) (tail : List Step) → told_by nothing_known (eps_then es tail) ≡ map known_of es ++ told_by nothing_known tail
  eps_told [] tail = refl
  eps_told (e ∷ es) tail = ep_told e nothing_known (eps_then es tail) ∙ ap (λ z. known_of e ∷ z) (eps_told es tail)

  -- each is that of the MRS
  module _ (one : (c : ℕ) → digit_value c < 10 → is_ascii_digit c ≡ true) (keys : List (List ℕ)) (there : (k : Kind) (v : ℕ) → v < length vars → Is keys (record { kind = k; text = key vars order v }) v) where
    filled_by : (f : Filled) → IsFiller (length vars) f → IsStoredFiller f → IsFilledBy keys (filler_piece f) f
    filled_by (of_var v) l u = by_variable v refl (there Filler v l)
    filled_by (of_text t) l u = by_text t refl (sym (plain_escaped t u))

    abbrev Sound : Argument → Type 0
    Sound a = IsArgument (length vars) a × IsStoredArgument a

    role_is : (a : Argument) → Sound a → (fill_of a).role ≡ a.role
    role_is a h = lower_upper a.role h.0.role h.1.role

    sound_at : (xs : List Argument) → All (IsArgument (length vars)) xs → All IsStoredArgument xs → (a : Argument) → Contains xs a → Sound a
    sound_at [] h k a c = absurd (nothing_in a c)
    sound_at (x ∷ xs) h k a c = elim (first_or_other x xs a c) [
      | inl e ↦ subst Sound e (All-head (IsArgument (length vars)) x xs h, All-head IsStoredArgument x xs k)
      | inr d ↦ sound_at xs (All-tail (IsArgument (length vars)) x xs h) (All-tail IsStoredArgument x xs k) a d
    ]

    pub predication_is : (e : Predication) → IsPredication (length vars) e → IsStoredPredication e → IsPredicationOf keys (known_of e) e
    predication_is e h s =
        let fills = map fill_of (roles_of e) in
        let label : Filling = record { role = codes "lbl"; by = record { kind = Filler; text = key vars order e.label } } in
        record {
          piece = pred_piece e.pred;
          first = refl;
          pred = pred_is e.pred s.pred h.pred;
          span = span_is one e.span s.span;
          label = record {
            filling = label;
            there = is_first label (map fill_of e.args);
            role = refl;
            same = λ f c r. elim (first_or_other label (map fill_of e.args) f c) [
              | inl i ↦ subst (λ (z : Filling). Is keys z.by e.label) i (there Filler e.label h.label)
              | inr d ↦ (let w = map_contains fill_of e.args f d in let a = sound_at e.args h.args s.args w.0 w.1 in absurd (a.0.not_label (sym (role_is w.0 a) ∙ ap (λ (z : Filling). z.role) w.2 ∙ r)))
            ];
          };
          args = record {
            order = h.order;
            each = λ a c. (let b = sound_at e.args h.args s.args a c in record {
              filling = fill_of a;
              there = is_other label (map fill_of e.args) (fill_of a) (contains_map fill_of e.args a c);
              role = role_is a b;
              other = b.0.not_label;
              filler = filled_by a.filler b.0.filler b.1.filler;
            });
            all = λ f c n. elim (first_or_other label (map fill_of e.args) f c) [
              | inl i ↦ absurd (n (sym (ap (λ (z : Filling). z.role) i)))
              | inr d ↦ (let w = map_contains fill_of e.args f d in let a = w.0 in let b = sound_at e.args h.args s.args a w.1 in record {
                argument = a;
                there = w.1;
                role = sym (role_is a b) ∙ ap (λ (z : Filling). z.role) w.2;
                filler = subst (λ (z : Filling). IsFilledBy keys z.by a.filler) w.2 (filled_by a.filler b.0.filler b.1.filler);
              })
            ];
          };
        }

    pub predications_are : (es : List Predication) → All (IsPredication (length vars)) es → All IsStoredPredication es → AllZip (IsPredicationOf keys) (map known_of es) es
    predications_are [] h s = tt
    predications_are (e ∷ es) h s =
        (predication_is e (All-head (IsPredication (length vars)) e es h) (All-head IsStoredPredication e es s), predications_are es (All-tail (IsPredication (length vars)) e es h) (All-tail IsStoredPredication e es s))
