-- What is put into a text writer adds up.
use Rattle.std.proofs.Common.{◌≡◌, ℕ, List, [], ◌∷◌, ◌++◌, Option, Some, None, Result, Ok, Err, refl, sym, ap, ◌∙◌, append_assoc, append-nil, subst, take, length, get_or, flat_map, ◌+◌, ◌<◌, zero, suc, add-one, arith}
use Rattle.std.specs.Prelude.{OnOk, IsErr}
use Rattle.std.specs.Borrow.{MutBor}
use Rattle.lin_text.specs.declared.buffered.TextWriter.{TextWriter}
use Rattle.lin_text.specs.declared.fault.WriteFailed.{WriteFailed}
use Rattle.lin_text.specs.Written.{WritesText, Puts, WritesWaiting, Finishes, Grows, IsNew, waiting_bytes}
use Rattle.lin_text.proofs.Adding.{appends-nothing, appends-more}

puts-nothing : (a w : Option (List ℕ)) → Puts a w a w []
puts-nothing a None = appends-nothing a
puts-nothing a (Some w) = ([], appends-nothing a, append-nil w)

puts-more : (a b c u v w : Option (List ℕ)) (s t : List ℕ) → Puts a u b v s → Puts b v c w t → Puts a u c w (s ++ t)
puts-more a b c None None None s t h k = appends-more a b c [] [] h k
puts-more a b c None None (Some w) s t h k = k
puts-more a b c None (Some v) w s t h k = absurd h
puts-more a b c (Some u) None None s t (p, rest, h, e) k =
    (p ++ [], rest ++ t, appends-more a b c p [] h k, sym (append_assoc u s t) ∙ ap (λ l. l ++ t) e ∙ append_assoc p rest t ∙ ap (λ l. l ++ (rest ++ t)) (sym (append-nil p)))
puts-more a b c (Some u) None (Some w) s t h k = absurd k
puts-more a b c (Some u) (Some v) None s t (p, h, e) (q, rest, k, f) =
    (p ++ q, rest, appends-more a b c p q h k, sym (append_assoc u s t) ∙ ap (λ l. l ++ t) e ∙ append_assoc p v t ∙ ap (λ l. p ++ l) f ∙ sym (append_assoc p q rest))
puts-more a b c (Some u) (Some v) (Some w) s t (p, h, e) (q, k, f) =
    (p ++ q, appends-more a b c p q h k, sym (append_assoc u s t) ∙ ap (λ l. l ++ t) e ∙ append_assoc p v t ∙ ap (λ l. p ++ l) f ∙ sym (append_assoc p q w))

-- nothing was put
pub grows-nothing : {W : Type 0} {contents : W → Option (List ℕ)} (x : TextWriter W) → Grows contents x x []
grows-nothing {contents = contents} x = record { same = refl; puts = puts-nothing (contents x.writer.now) (waiting_bytes x) }

-- one text, and then another
pub grows-more : {W : Type 0} {contents : W → Option (List ℕ)} {x y z : TextWriter W} {s t : List ℕ}
    → Grows contents x y s → Grows contents y z t → Grows contents x z (s ++ t)
grows-more {contents = contents} {x = x} {y = y} {z = z} {s = s} {t = t} h k = record {
  same = k.same ∙ h.same;
  puts = puts-more (contents x.writer.now) (contents y.writer.now) (contents z.writer.now) (waiting_bytes x) (waiting_bytes y) (waiting_bytes z) s t h.puts k.puts;
}

-- an equal text
pub same-growth : {W : Type 0} {contents : W → Option (List ℕ)} {x y : TextWriter W} {s t : List ℕ}
    → s ≡ t → Grows contents x y s → Grows contents x y t
same-growth {contents = contents} {x = x} {y = y} e h = subst (λ l. Grows contents x y l) e h

all-of : {E : Type 0} (r : Result Unit E) {P Q : Type 0} → OnOk r P → (P → Q) → OnOk r Q
all-of (Ok x) h f = f h
all-of (Err e) h f = tt

none-of : {E : Type 0} (r : Result Unit E) (P : Type 0) → IsErr r → OnOk r P
none-of (Ok x) P h = absurd (cc)
none-of (Err e) P h = tt

ends-text : (a b c w : Option (List ℕ)) (r : Result Unit WriteFailed) (s : List ℕ) → Puts a (Some []) b w s → WritesWaiting b w c r → WritesText a c r s
ends-text a b c None r s (p, rest, h, e) (k, failed) = record {
  part = p ++ [];
  rest = rest;
  written = appends-more a b c p [] h k;
  whole = e ∙ ap (λ l. l ++ rest) (sym (append-nil p));
  all = none-of r _ failed;
}
ends-text a b c (Some w) r s (p, h, e) k = record {
  part = p ++ k.part;
  rest = k.rest;
  written = appends-more a b c p k.part h k.written;
  whole = e ∙ ap (λ l. p ++ l) k.whole ∙ sym (append_assoc p k.part k.rest);
  all = all-of r k.all (λ f. ap (λ l. p ++ l) f ∙ sym e);
}

-- a new text writer, what was put into it, and its end
pub text-written : {W : Type 0} {contents : W → Option (List ℕ)} {writer : MutBor W} {x y : TextWriter W} {c : Option (List ℕ)} {r : Result Unit WriteFailed} {s : List ℕ}
    → IsNew writer x → Grows contents x y s → Finishes contents y c r → WritesText (contents writer.now) c r s
text-written {contents = contents} {writer = writer} {x = x} {y = y} {c = c} {r = r} {s = s} n h k =
    rw (sym n.now) (ends-text (contents x.writer.now) (contents y.writer.now) c (waiting_bytes y) r s (subst (λ v. Puts (contents x.writer.now) v (contents y.writer.now) (waiting_bytes y) s) n.empty h.puts) k)

-- the texts of a list's items, one more at a time
texts-next_suc : {X : Type 0} (f : X → List ℕ) (xs : List X) (i : ℕ) (d : X) → i < length xs
    → flat_map f (take (suc i) xs) ≡ flat_map f (take i xs) ++ f (get_or xs i d)
texts-next_suc f [] i d h = absurd (omega arith)
texts-next_suc f (x ∷ xs) zero d h = append-nil (f x)
texts-next_suc f (x ∷ xs) (suc i) d h =
    ap (λ l. f x ++ l) (texts-next_suc f xs i d (omega arith))
    ∙ sym (append_assoc (f x) (flat_map f (take i xs)) (f (get_or xs i d)))

pub texts-next : {X : Type 0} (f : X → List ℕ) (xs : List X) (i : ℕ) (d : X) → i < length xs
    → flat_map f (take (i + 1) xs) ≡ flat_map f (take i xs) ++ f (get_or xs i d)
texts-next f xs i d h = rw (add-one) (texts-next_suc f xs i d h)

-- the text of one item more, which was read by its index
pub grows-next : {W X : Type 0} {contents : W → Option (List ℕ)} {x y z : TextWriter W} (f : X → List ℕ) (xs : List X) (i : ℕ) (item : X)
    → item ≡ get_or xs i item → i < length xs → Grows contents x y (flat_map f (take i xs)) → Grows contents y z (f item)
    → Grows contents x z (flat_map f (take (i + 1) xs))
grows-next f xs i item e lt h k =
    same-growth (ap (λ v. flat_map f (take i xs) ++ f v) e ∙ sym (texts-next f xs i item lt)) (grows-more h k)
