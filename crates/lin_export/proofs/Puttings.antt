-- Texts that are put, written at the end, and written one after another.
use Rattle.std.proofs.Common.{◌≡◌, ℕ, List, ◌++◌, Option, Result, Ok, Err, refl, sym, ap, ◌∙◌, append_assoc, append-nil, subst}
use Rattle.std.specs.Prelude.{OnOk, IsErr, []}
use Rattle.std.specs.Borrow.{MutBor}
use Rattle.lin_text.proofs.Adding.{appends-more, appends-nothing}
use Rattle.lin_text.specs.Written.{Finishes, Grows, IsNew, WritesText}
use Rattle.lin_text.specs.declared.buffered.TextWriter.{TextWriter}
use Rattle.lin_text.specs.declared.fault.WriteFailed.{WriteFailed}
use Rattle.lin_text.proofs.Growing.{grows-more, text-written}
use Rattle.lin_export.specs.Putting.{PutsAll}

none-of : {E : Type 0} (r : Result Unit E) (P : Type 0) → IsErr r → OnOk r P
none-of (Ok x) P h = absurd (cc)
none-of (Err e) P h = tt

-- a text that was put whole, or broke off
pub puts-all : {W E : Type 0} {contents : W → Option (List ℕ)} {x y : TextWriter W} {s t : List ℕ} → s ≡ t → Grows contents x y s → PutsAll {E = E} contents x y (Ok tt) t
puts-all {s = s} e h = record { part = s; rest = []; grows = h; whole = sym e ∙ sym (append-nil s); all = e }

pub puts-some : {W E : Type 0} {contents : W → Option (List ℕ)} {x y : TextWriter W} {r : Result Unit E} {s t : List ℕ} (rest : List ℕ)
    → IsErr r → t ≡ s ++ rest → Grows contents x y s → PutsAll contents x y r t
puts-some {r = r} {s = s} {t = t} rest failed e h = record { part = s; rest = rest; grows = h; whole = e; all = none-of r (s ≡ t) failed }

-- a text that was written as far as it was put, of a longer one
pub written-short : {E F : Type 0} {a b : Option (List ℕ)} {q : Result Unit F} {r : Result Unit E} {s t : List ℕ} (rest : List ℕ)
    → IsErr r → t ≡ s ++ rest → WritesText a b q s → WritesText a b r t
written-short {r = r} {s = s} {t = t} rest failed e h = record {
  part = h.part;
  rest = h.rest ++ rest;
  written = h.written;
  whole = e ∙ ap (λ l. l ++ rest) h.whole ∙ append_assoc h.part h.rest rest;
  all = none-of r (h.part ≡ t) failed;
}

pub written-all : {E F : Type 0} {a b : Option (List ℕ)} {s t : List ℕ} → s ≡ t → WritesText {E = F} a b (Ok tt) s → WritesText {E = E} a b (Ok tt) t
written-all e h = record { part = h.part; rest = h.rest; written = h.written; whole = sym e ∙ h.whole; all = h.all ∙ e }

-- an equal text
pub written-same : {E : Type 0} {a b : Option (List ℕ)} {r : Result Unit E} {s t : List ℕ} → s ≡ t → WritesText a b r s → WritesText a b r t
written-same {a = a} {b = b} {r = r} e h = subst (λ l. WritesText a b r l) e h

-- what is known of a whole text is known of it after another one
on-ok : {E : Type 0} (r : Result Unit E) {P Q : Type 0} → (P → Q) → OnOk r P → OnOk r Q
on-ok (Ok done) f h = f h
on-ok (Err fault) f h = tt

-- one text whole, and then another
pub writes-more : {E F : Type 0} {a b c : Option (List ℕ)} {u : Unit} {r : Result Unit E}
    {s t : List ℕ} → WritesText {E = F} a b (Ok u) s → WritesText b c r t
    → WritesText a c r (s ++ t)
writes-more {a = a} {b = b} {c = c} {r = r} {t = t} h k = record {
  part = h.part ++ k.part;
  rest = k.rest;
  written = appends-more a b c h.part k.part h.written k.written;
  whole =
      ap (λ l. l ++ t) (sym h.all) ∙ ap (λ l. h.part ++ l) k.whole
      ∙ sym (append_assoc h.part k.part k.rest);
  all = on-ok r (λ e. ap (λ l. h.part ++ l) e ∙ ap (λ l. l ++ t) h.all) k.all;
}

-- nothing more
pub writes-nothing : {E : Type 0} (a : Option (List ℕ)) → WritesText {E = E} a a (Ok tt) []
writes-nothing a = record { part = []; rest = []; written = appends-nothing a; whole = refl; all = refl }

-- a text, and another as far as there was memory, which were put into a new text writer, and its end
pub written-part : {W E F : Type 0} (contents : W → Option (List ℕ)) (writer : MutBor W) (x y z : TextWriter W) (a : Option (List ℕ))
    (q : Result Unit F) (f : Result Unit WriteFailed) (r : Result Unit E) (s t : List ℕ)
    → IsErr r → IsNew writer x → Grows contents x y s → PutsAll contents y z q t → Finishes contents z a f
    → WritesText (contents writer.now) a r (s ++ t)
written-part contents writer x y z a q f r s t failed n h p k =
    written-short p.rest failed (ap (λ l. s ++ l) p.whole ∙ sym (append_assoc s p.part p.rest)) (text-written n (grows-more h p.grows) k)

pub written-whole : {W : Type 0} (E F : Type 0) (contents : W → Option (List ℕ)) (writer : MutBor W) (x y z : TextWriter W) (a : Option (List ℕ)) (s t : List ℕ)
    → IsNew writer x → Grows contents x y s → PutsAll {E = F} contents y z (Ok tt) t → Finishes contents z a (Ok tt)
    → WritesText {E = E} (contents writer.now) a (Ok tt) (s ++ t)
written-whole E F contents writer x y z a s t n h p k = written-all (ap (λ l. s ++ l) p.all) (text-written n (grows-more h p.grows) k)

-- the writer stays the same
pub same-writer : {W F : Type 0} (contents : W → Option (List ℕ)) (writer : MutBor W) (x y z : TextWriter W) (q : Result Unit F) (s t : List ℕ)
    → IsNew writer x → Grows contents x y s → PutsAll contents y z q t → writer.ghost_name ≡ z.writer.ghost_name
same-writer contents writer x y z q s t n h p = sym (p.grows.same ∙ h.same ∙ n.same)
