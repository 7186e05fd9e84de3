-- Tuples whose daughters stand for the same structures, one by one, stand for the same list.
use Rattle.std.specs.Prelude.{◌≡◌, Option, None, Some, List, [], ◌∷◌, All, IfSome, map, option_map}
use Rattle.std.proofs.Common.{refl, sym, ap, ◌∙◌, suc, arith}
use Rattle.chart_model.specs.declared.covers.Part.{Part}
use Rattle.chart_model.specs.declared.covers.Tuple.{Tuple}
use Rattle.chart_model.specs.Tuples.{on_list, shapes_of}
use Rattle.shape_memo.specs.Known.{meant}

abbrev told : {T C M : Type 0} → (T → M) → List (Part T C) → List M
told meaning ps = map meaning (map (λ p. p.shape) ps)

in_front : {T C D M : Type 0} (meaning : T → M) (a : Option (Part T C)) (b : Option (Part T D)) (ps : List (Part T C)) (qs : List (Part T D)) →
    option_map (meant meaning) a ≡ option_map (meant meaning) b → told meaning ps ≡ told meaning qs → told meaning (on_list a ps) ≡ told meaning (on_list b qs)
in_front meaning None None ps qs e h = h
in_front meaning None (Some b) ps qs e h = absurd (cc)
in_front meaning (Some a) None ps qs e h = absurd (cc)
in_front meaning (Some a) (Some b) ps qs e h = let z : meaning a.shape ≡ meaning b.shape = cc in rw (z, h) refl

pub same_shapes : {T C D M : Type 0} (meaning : T → M) (t : Tuple T C) (u : Tuple T D) →
    option_map (meant meaning) t.a ≡ option_map (meant meaning) u.a → option_map (meant meaning) t.b ≡ option_map (meant meaning) u.b →
    option_map (meant meaning) t.c ≡ option_map (meant meaning) u.c → option_map (meant meaning) t.d ≡ option_map (meant meaning) u.d →
    map meaning (shapes_of t) ≡ map meaning (shapes_of u)
same_shapes meaning t u a b c d =
    in_front meaning t.a u.a (on_list t.b (on_list t.c (on_list t.d []))) (on_list u.b (on_list u.c (on_list u.d []))) a
    (in_front meaning t.b u.b (on_list t.c (on_list t.d [])) (on_list u.c (on_list u.d [])) b
    (in_front meaning t.c u.c (on_list t.d []) (on_list u.d []) c
    (in_front meaning t.d u.d [] [] d refl)))

-- what holds of each shape of a tuple holds of each daughter
pub record EachOne {T C : Type 0} (P : T → Type 0) (t : Tuple T C) : Type 0 where
  pub of_a : IfSome t.a (λ p. P p.shape)
  pub of_b : IfSome t.b (λ p. P p.shape)
  pub of_c : IfSome t.c (λ p. P p.shape)
  pub of_d : IfSome t.d (λ p. P p.shape)

module _ {T C : Type 0} (P : T → Type 0) where
  first_one : (a : Option (Part T C)) (ps : List (Part T C)) → All P (map (λ p. p.shape) (on_list a ps)) → IfSome a (λ p. P p.shape)
  first_one None ps h = tt
  first_one (Some a) ps h = h 0 a.shape (omega arith)

  later_ones : (a : Option (Part T C)) (ps : List (Part T C)) → All P (map (λ p. p.shape) (on_list a ps)) → All P (map (λ p. p.shape) ps)
  later_ones None ps h = h
  later_ones (Some a) ps h = λ k d l. h (suc k) d (omega (arith, l))

  pub each_one : (t : Tuple T C) → All P (shapes_of t) → EachOne P t
  each_one t h =
      let k = later_ones t.a (on_list t.b (on_list t.c (on_list t.d []))) h in
      let l = later_ones t.b (on_list t.c (on_list t.d [])) k in
      let m = later_ones t.c (on_list t.d []) l in
      record {
        of_a = first_one t.a (on_list t.b (on_list t.c (on_list t.d []))) h;
        of_b = first_one t.b (on_list t.c (on_list t.d [])) k;
        of_c = first_one t.c (on_list t.d []) l;
        of_d = first_one t.d [] m;
      }

-- what stands for the first daughter begins a tuple
pub begins : {T C M : Type 0} (meaning : T → M) (t : Tuple T C) (part : Part T C) (shape : T) → t.a ≡ Some part → meaning shape ≡ meaning part.shape →
    (rest : List M) × (meaning shape ∷ rest ≡ map meaning (shapes_of t))
begins meaning t part shape e h =
    (told meaning (on_list t.b (on_list t.c (on_list t.d []))), ap (λ m. m ∷ told meaning (on_list t.b (on_list t.c (on_list t.d [])))) h ∙ sym (ap (λ a. told meaning (on_list a (on_list t.b (on_list t.c (on_list t.d []))))) e))
