-- What one form spells, another spells without the marks that are too many.
use Rattle.std.proofs.Common.{◌≡◌, ◌∙◌, ℕ, zero, suc, Bool, true, false, List, [], ◌∷◌, Option, Some, None, refl, sym, ap, subst, inl, inr}
use Rattle.std.specs.Option.{option_map}
use Rattle.lin_ldf.specs.Forms.{Form, ◌&◌, ◌&>◌, ◌<&◌, ◌&=◌, as_value, choice, either, is_front, never, nothing, token}
use Rattle.lin_ldf.specs.Loops.{Several, ItemSteps, gathering, several}
use Rattle.lin_ldf.specs.Symbols.{Symbol}
use Rattle.lin_ldf.specs.Words.{is_word_but, once}
use Rattle.lin_field.specs.Grammar.{unless}
use Rattle.lin_field.specs.Marks.{without_extra_marks}
use Rattle.lin_tool.specs.laws.Texts.{is_field_word}
use Rattle.lin_tool.proofs.laws.Limits.{IsClean, IsWithin, Limit, allows, clean_front, clean_tail, covered, covers, first_limit, kept, kind_first, last_limit}
use Rattle.lin_tool.proofs.laws.Limits.{NoEnd}

pub record Widens {A B : Type 0} (first last : Limit) (f : Form A) (g : Form B) (h : A → B) : Type 0 where
  pub begins : (ts : List Symbol) (a : A) (rest : List Symbol) → f.spells ts a rest → allows last rest ≡ true → allows first ts ≡ true
  pub widened : (ts : List Symbol) (a : A) (rest : List Symbol) → f.spells ts a rest → IsClean ts → allows last rest ≡ true
      → g.spells (without_extra_marks ts) (h a) (without_extra_marks rest)
  pub cleans : (ts : List Symbol) (a : A) (rest : List Symbol) → f.spells ts a rest → IsClean ts → IsClean rest

pub relaxed : {A B : Type 0} {s e t z : Limit} {f : Form A} {g : Form B} {h : A → B} → Widens s e f g h → covers s t ≡ true → covers z e ≡ true
    → Widens t z f g h
relaxed {s = s} {e = e} {t = t} {z = z} p first last = record {
  begins = λ ts a rest x is. covered s t ts first (p.begins ts a rest x (covered z e rest last is));
  widened = λ ts a rest x c is. p.widened ts a rest x c (covered z e rest last is);
  cleans = p.cleans;
}

-- ---- one token

pub token_widens : {A B : Type 0} (first last : Limit) (test wide : Symbol → Bool) (value : Symbol → A) (made : Symbol → B) (h : A → B)
    → ((t : Symbol) → test t ≡ true → IsWithin first last t.kind)
    → ((t : Symbol) → test t ≡ true → is_field_word t ≡ false → (wide t ≡ true) × (made t ≡ h (value t)))
    → Widens first last (token test value) (token wide made) h
token_widens first last test wide value made h limits widens = record {
  begins = λ ts a rest k is. rw (k.1) (covered (first_limit k.0.kind) first (k.0 ∷ rest) (limits k.0 k.2).begins (kind_first k.0.kind k.0 rest refl));
  widened =
      λ ts a rest k c is. let w =
      widens k.0 k.2 (clean_front k.0 rest (subst IsClean k.1 c)) in (
        k.0,
        ap without_extra_marks k.1 ∙ kept k.0 rest (covered last (last_limit k.0.kind) rest (limits k.0 k.2).ends is),
        w.0,
        ap h k.3 ∙ sym w.1,
      );
  cleans = λ ts a rest k c. clean_tail k.0 rest (subst IsClean k.1 c);
}

-- the same token
pub same_token : {A : Type 0} (first last : Limit) (test : Symbol → Bool) (value : Symbol → A)
    → ((t : Symbol) → test t ≡ true → IsWithin first last t.kind) → Widens first last (token test value) (token test value) (λ a. a)
same_token first last test value limits = token_widens first last test test value value (λ a. a) limits (λ t is clean. (is, refl))

-- ---- one after the other

pub both : {A B C D : Type 0} {s e t z : Limit} {f : Form A} {g : Form C} {h : A → C} {f' : Form B} {g' : Form D} {k : B → D}
    → Widens s e f g h → Widens t z f' g' k → covers t e ≡ true → Widens s z (f & f') (g & g') (λ ab. (h ab.0, k ab.1))
both {e = e} {t = t} p q is = record {
  begins = λ ts ab rest x last. p.begins ts ab.0 x.0 x.1 (covered t e x.0 is (q.begins x.0 ab.1 rest x.2 last));
  widened =
      λ ts ab rest x c last. (
        without_extra_marks x.0,
        p.widened ts ab.0 x.0 x.1 c (covered t e x.0 is (q.begins x.0 ab.1 rest x.2 last)),
        q.widened x.0 ab.1 rest x.2 (p.cleans ts ab.0 x.0 x.1 c) last,
      );
  cleans = λ ts ab rest x c. q.cleans x.0 ab.1 rest x.2 (p.cleans ts ab.0 x.0 x.1 c);
}

pub right : {A B C D : Type 0} {s e t z : Limit} {f : Form A} {g : Form C} {h : A → C} {f' : Form B} {g' : Form D} {k : B → D}
    → Widens s e f g h → Widens t z f' g' k → covers t e ≡ true → Widens s z (f &> f') (g &> g') k
right {e = e} {t = t} {h = h} p q is = record {
  begins = λ ts b rest x last. p.begins ts x.0 x.1 x.2 (covered t e x.1 is (q.begins x.1 b rest x.3 last));
  widened =
      λ ts b rest x c last. (
        h x.0,
        without_extra_marks x.1,
        p.widened ts x.0 x.1 x.2 c (covered t e x.1 is (q.begins x.1 b rest x.3 last)),
        q.widened x.1 b rest x.3 (p.cleans ts x.0 x.1 x.2 c) last,
      );
  cleans = λ ts b rest x c. q.cleans x.1 b rest x.3 (p.cleans ts x.0 x.1 x.2 c);
}

pub left : {A B C D : Type 0} {s e t z : Limit} {f : Form A} {g : Form C} {h : A → C} {f' : Form B} {g' : Form D} {k : B → D}
    → Widens s e f g h → Widens t z f' g' k → covers t e ≡ true → Widens s z (f <& f') (g <& g') h
left {e = e} {t = t} {k = k} p q is = record {
  begins = λ ts a rest x last. p.begins ts a x.0 x.2 (covered t e x.0 is (q.begins x.0 x.1 rest x.3 last));
  widened =
      λ ts a rest x c last. (
        without_extra_marks x.0,
        k x.1,
        p.widened ts a x.0 x.2 c (covered t e x.0 is (q.begins x.0 x.1 rest x.3 last)),
        q.widened x.0 x.1 rest x.3 (p.cleans ts a x.0 x.2 c) last,
      );
  cleans = λ ts a rest x c. q.cleans x.0 x.1 rest x.3 (p.cleans ts a x.0 x.2 c);
}

pub then : {A B C D : Type 0} {s e t z : Limit} {f : Form A} {g : Form C} {h : A → C} {f' : A → Form B} {k : B → D} (g' : C → Form D)
    → Widens s e f g h → ((a : A) → Widens t z (f' a) (g' (h a)) k) → covers t e ≡ true → Widens s z (f &= f') (g &= g') (λ ab. (h ab.0, k ab.1))
then {e = e} {t = t} g' p q is = record {
  begins = λ ts ab rest x last. p.begins ts ab.0 x.0 x.1 (covered t e x.0 is ((q ab.0).begins x.0 ab.1 rest x.2 last));
  widened =
      λ ts ab rest x c last. (
        without_extra_marks x.0,
        p.widened ts ab.0 x.0 x.1 c (covered t e x.0 is ((q ab.0).begins x.0 ab.1 rest x.2 last)),
        (q ab.0).widened x.0 ab.1 rest x.2 (p.cleans ts ab.0 x.0 x.1 c) last,
      );
  cleans = λ ts ab rest x c. (q ab.0).cleans x.0 ab.1 rest x.2 (p.cleans ts ab.0 x.0 x.1 c);
}

-- ---- values and choices

pub value : {A B C D : Type 0} {s e : Limit} {f : Form A} {g : Form C} {h : A → C} (make : A → B) (made : C → D) (k : B → D)
    → Widens s e f g h → ((a : A) → made (h a) ≡ k (make a)) → Widens s e (as_value make f) (as_value made g) k
value {h = h} make made k p same = record {
  begins = λ ts b rest x last. p.begins ts x.0 rest x.1 last;
  widened = λ ts b rest x c last. (h x.0, p.widened ts x.0 rest x.1 c last, same x.0 ∙ ap k x.2);
  cleans = λ ts b rest x c. p.cleans ts x.0 rest x.1 c;
}

-- something more is made of it
pub value_of : {A B C : Type 0} {s e : Limit} {f : Form A} {g : Form B} {h : A → B} (made : B → C) → Widens s e f g h
    → Widens s e f (as_value made g) (λ a. made (h a))
value_of {h = h} made p = record {
  begins = p.begins;
  widened = λ ts a rest x c last. (h a, p.widened ts a rest x c last, refl);
  cleans = p.cleans;
}

pub same_value : {A B : Type 0} {s e : Limit} {f : Form A} {g : Form B} {h : A → B} (k : A → B) → ((a : A) → h a ≡ k a) → Widens s e f g h
    → Widens s e f g k
same_value {g = g} k same p = record {
  begins = p.begins;
  widened = λ ts a rest x c last. subst (λ b. g.spells (without_extra_marks ts) b (without_extra_marks rest)) (same a) (p.widened ts a rest x c last);
  cleans = p.cleans;
}

pub into_left : {A B : Type 0} {s e : Limit} {f : Form A} {g : Form B} {h : A → B} (test : List Symbol → Bool) (other : Form B) → Widens s e f g h
    → Widens s e f (either test g other) h
into_left test other p =
    record { begins = p.begins; widened = λ ts a rest x c last. inl (p.widened ts a rest x c last); cleans = p.cleans }

pub into_right : {A B : Type 0} {s e : Limit} {f : Form A} {g : Form B} {h : A → B} (test : List Symbol → Bool) (other : Form B) → Widens s e f g h
    → Widens s e f (either test other g) h
into_right test other p =
    record { begins = p.begins; widened = λ ts a rest x c last. inr (p.widened ts a rest x c last); cleans = p.cleans }

pub of_either : {A B : Type 0} {s e : Limit} {f f' : Form A} {g : Form B} {h : A → B} (test : List Symbol → Bool) → Widens s e f g h
    → Widens s e f' g h → Widens s e (either test f f') g h
of_either test p q = record {
  begins = λ ts a rest x last. elim x [ inl y ↦ p.begins ts a rest y last | inr y ↦ q.begins ts a rest y last ];
  widened = λ ts a rest x c last. elim x [ inl y ↦ p.widened ts a rest y c last | inr y ↦ q.widened ts a rest y c last ];
  cleans = λ ts a rest x c. elim x [ inl y ↦ p.cleans ts a rest y c | inr y ↦ q.cleans ts a rest y c ];
}

pub same_either : {A B : Type 0} {s e : Limit} {f f' : Form A} {g g' : Form B} {h : A → B} (test wide : List Symbol → Bool) → Widens s e f g h
    → Widens s e f' g' h → Widens s e (either test f f') (either wide g g') h
same_either {g = g} {g' = g'} test wide p q = of_either test (into_left wide g' p) (into_right wide g q)

pub into_choice : {K A B : Type 0} {s e : Limit} {f : Form A} {h : A → B} (kind : List Symbol → K) (forms : K → Form B) (k : K)
    → Widens s e f (forms k) h → Widens s e f (choice kind forms) h
into_choice kind forms k p =
    record { begins = p.begins; widened = λ ts a rest x c last. (k, p.widened ts a rest x c last); cleans = p.cleans }

pub of_choice : {K A B : Type 0} {s e : Limit} {g : Form B} {h : A → B} (kind : List Symbol → K) (forms : K → Form A)
    → ((k : K) → Widens s e (forms k) g h) → Widens s e (choice kind forms) g h
of_choice kind forms p = record {
  begins = λ ts a rest x last. (p x.0).begins ts a rest x.1 last;
  widened = λ ts a rest x c last. (p x.0).widened ts a rest x.1 c last;
  cleans = λ ts a rest x c. (p x.0).cleans ts a rest x.1 c;
}

pub same_nothing : {A B : Type 0} {e : Limit} (a : A) (b : B) (h : A → B) → h a ≡ b → Widens e e (nothing a) (nothing b) h
same_nothing {e = e} a b h same = record {
  begins = λ ts x rest k last. subst (λ (us : List Symbol). allows e us ≡ true) k.1 last;
  widened = λ ts x rest k c last. (ap h k.0 ∙ same, ap without_extra_marks k.1);
  cleans = λ ts x rest k c. subst IsClean (sym k.1) c;
}

pub of_never : {A B : Type 0} {s e : Limit} {g : Form B} {h : A → B} → Widens s e never g h
of_never = record {
  begins = λ ts a rest x last. absurd x;
  widened = λ ts a rest x c last. absurd x;
  cleans = λ ts a rest x c. absurd x;
}

pub same_once : {X Y A B : Type 0} {s e : Limit} {f : Form A} {g : Form B} {h : A → B} (o : Option X) (k : X → Y) → Widens s e f g h
    → Widens s e (once o f) (once (option_map k o) g) h
same_once None k p = p
same_once (Some x) k p = of_never

pub unless_widens : {A B : Type 0} {s e : Limit} {f : Form A} {g : Form B} {h : A → B} (words : List (List ℕ)) → Widens s e f g h
    → ((ts : List Symbol) (a : A) (rest : List Symbol) → f.spells ts a rest → IsClean ts → is_front (is_word_but words) (without_extra_marks ts) ≡ true)
    → Widens s e f (unless words g) h
unless_widens words p front = record {
  begins = p.begins;
  widened = λ ts a rest x c last. (front ts a rest x c, p.widened ts a rest x c last);
  cleans = p.cleans;
}

-- ---- in another order

pub regrouped : {A B C D : Type 0} {s e : Limit} (f : Form A) (k : Form B) (m : Form C) {g : Form D} {h : A → D} → Widens s e (f <& k <& m) g h
    → Widens s e (f <& (k <& m)) g h
regrouped f k m p = record {
  begins = λ ts a rest x last. p.begins ts a rest (x.3.0, x.3.1, (x.0, x.1, x.2, x.3.2), x.3.3) last;
  widened = λ ts a rest x c last. p.widened ts a rest (x.3.0, x.3.1, (x.0, x.1, x.2, x.3.2), x.3.3) c last;
  cleans = λ ts a rest x c. p.cleans ts a rest (x.3.0, x.3.1, (x.0, x.1, x.2, x.3.2), x.3.3) c;
}

pub mark_moved : {A B C M D : Type 0} {s e : Limit} (f : Form A) (m : Form M) (k : Form B) (l : Form C) {g : Form D} {h : A × (B × C) → D}
    → Widens s e (f & (m &> k) & l) g h → Widens s e (f <& m & k & l) g h
mark_moved f m k l p = record {
  begins = λ ts a rest x last. p.begins ts a rest (x.1.0, x.1.2, (x.2.0, (x.1.1, x.0, x.1.3, x.2.1), x.2.2)) last;
  widened = λ ts a rest x c last. p.widened ts a rest (x.1.0, x.1.2, (x.2.0, (x.1.1, x.0, x.1.3, x.2.1), x.2.2)) c last;
  cleans = λ ts a rest x c. p.cleans ts a rest (x.1.0, x.1.2, (x.2.0, (x.1.1, x.0, x.1.3, x.2.1), x.2.2)) c;
}

-- ---- forms that repeat

module _ {A B S : Type 0} {e : Limit} (next : S → A → S) (wide : S → B → S) (f : S → Form A) (g : S → Form B) (h : A → B) (hs : List A → List B)
    (none : hs [] ≡ []) (more : (a : A) (others : List A) → hs (a ∷ others) ≡ h a ∷ hs others)
    (same : (s : S) (a : A) → wide s (h a) ≡ next s a) (p : (s : S) → Widens NoEnd e (f s) (g s) h) where
  abbrev Items : S → List Symbol → List A → List Symbol → Type 0
  Items s ts xs rest = Several next (λ x. (f x).spells) s ts xs rest

  items_begin : (xs : List A) (s : S) (ts rest : List Symbol) → Items s ts xs rest → allows e rest ≡ true → allows e ts ≡ true
  items_begin [] s ts rest x last = subst (λ (us : List Symbol). allows e us ≡ true) x last
  items_begin (a ∷ xs) s ts rest x last =
      covered NoEnd e ts refl ((p s).begins ts a x.0 x.1 (items_begin xs (next s a) x.0 rest x.2 last))

  items_clean : (xs : List A) (s : S) (ts rest : List Symbol) → Items s ts xs rest → IsClean ts → IsClean rest
  items_clean [] s ts rest x c = subst IsClean (sym x) c
  items_clean (a ∷ xs) s ts rest x c = items_clean xs (next s a) x.0 rest x.2 ((p s).cleans ts a x.0 x.1 c)

  items_widen : (xs : List A) (s : S) (ts rest : List Symbol) → Items s ts xs rest → IsClean ts → allows e rest ≡ true
      → Several wide (λ x. (g x).spells) s (without_extra_marks ts) (hs xs) (without_extra_marks rest)
  items_widen [] s ts rest x c last = rw none (ap without_extra_marks x)
  items_widen (a ∷ xs) s ts rest x c last =
      let others : Several wide (λ y. (g y).spells) (wide s (h a)) (without_extra_marks x.0) (hs xs) (without_extra_marks rest) =
      rw (same s a) (items_widen xs (next s a) x.0 rest x.2 ((p s).cleans ts a x.0 x.1 c) last) in
      rw (more a xs) (
        without_extra_marks x.0,
        (p s).widened ts a x.0 x.1 c (items_begin xs (next s a) x.0 rest x.2 last),
        others,
      )

  pub several_widens : (over over' : List Symbol → Bool) (s : S) → Widens e e (several over next f s) (several over' wide g s) hs
  several_widens over over' s = record {
    begins = λ ts xs rest x last. items_begin xs s ts rest x last;
    widened = λ ts xs rest x c last. items_widen xs s ts rest x c last;
    cleans = λ ts xs rest x c. items_clean xs s ts rest x c;
  }

module _ {S T : Type 0} {e : Limit} (f : S → Form S) (g : T → Form T) (h : S → T) (p : (s : S) → Widens NoEnd e (f s) (g (h s)) h) where
  abbrev StepsOf : ℕ → S → List Symbol → S → List Symbol → Type 0
  StepsOf n s ts last rest = ItemSteps (λ x. (f x).spells) n s ts last rest

  steps_begin : (n : ℕ) (s : S) (ts : List Symbol) (last : S) (rest : List Symbol) → StepsOf n s ts last rest → allows e rest ≡ true
      → allows e ts ≡ true
  steps_begin zero s ts last rest x is = subst (λ (us : List Symbol). allows e us ≡ true) x.1 is
  steps_begin (suc n) s ts last rest x is = covered NoEnd e ts refl ((p s).begins ts x.0 x.1 x.2 (steps_begin n x.0 x.1 last rest x.3 is))

  steps_clean : (n : ℕ) (s : S) (ts : List Symbol) (last : S) (rest : List Symbol) → StepsOf n s ts last rest → IsClean ts → IsClean rest
  steps_clean zero s ts last rest x c = subst IsClean (sym x.1) c
  steps_clean (suc n) s ts last rest x c = steps_clean n x.0 x.1 last rest x.3 ((p s).cleans ts x.0 x.1 x.2 c)

  steps_widen : (n : ℕ) (s : S) (ts : List Symbol) (last : S) (rest : List Symbol) → StepsOf n s ts last rest → IsClean ts → allows e rest ≡ true
      → ItemSteps (λ x. (g x).spells) n (h s) (without_extra_marks ts) (h last) (without_extra_marks rest)
  steps_widen zero s ts last rest x c is = (ap h x.0, ap without_extra_marks x.1)
  steps_widen (suc n) s ts last rest x c is = (
    h x.0,
    without_extra_marks x.1,
    (p s).widened ts x.0 x.1 x.2 c (steps_begin n x.0 x.1 last rest x.3 is),
    steps_widen n x.0 x.1 last rest x.3 ((p s).cleans ts x.0 x.1 x.2 c) is,
  )

  pub gathering_widens : (over over' : List Symbol → Bool) (s : S) → Widens e e (gathering over f s) (gathering over' g (h s)) h
  gathering_widens over over' s = record {
    begins = λ ts last rest x is. steps_begin x.0 s ts last rest x.1 is;
    widened = λ ts last rest x c is. (x.0, steps_widen x.0 s ts last rest x.1 c is);
    cleans = λ ts last rest x c. steps_clean x.0 s ts last rest x.1 c;
  }
