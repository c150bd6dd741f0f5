-- Texts of which the rest is still to be put.
use Rattle.std.proofs.Common.{◌≡◌, ℕ, List, [], ◌++◌, Option, Result, Ok, refl, sym, ap, ◌∙◌, append_assoc, append-nil}
use Rattle.std.specs.Prelude.{IsErr}
use Rattle.lin_text.specs.Written.{Grows}
use Rattle.lin_text.specs.declared.buffered.TextWriter.{TextWriter}
use Rattle.lin_text.proofs.Growing.{grows-more, grows-nothing, same-growth}
use Rattle.lin_export.specs.Putting.{PutsAll}
use Rattle.lin_export.proofs.Puttings.{puts-some}

-- a text was put up to this rest
pub record PutsUpTo {W : Type 0} (contents : W → Option (List ℕ)) (old new : TextWriter W) (whole rest : List ℕ) : Type 0 where
  pub part : List ℕ
  pub grows : Grows contents old new part
  pub is : whole ≡ part ++ rest

pub none-put : {W : Type 0} {contents : W → Option (List ℕ)} (x : TextWriter W) (text : List ℕ) → PutsUpTo contents x x text text
none-put x text = record { part = []; grows = grows-nothing x; is = refl }

pub put-more : {W : Type 0} {contents : W → Option (List ℕ)} {x y z : TextWriter W} {whole t : List ℕ} (rest : List ℕ)
    → PutsUpTo contents x y whole (t ++ rest) → Grows contents y z t → PutsUpTo contents x z whole rest
put-more {t = t} rest h k = record { part = h.part ++ t; grows = grows-more h.grows k; is = h.is ∙ sym (append_assoc h.part t rest) }

pub same-rest : {W : Type 0} {contents : W → Option (List ℕ)} {x y : TextWriter W} {whole s t : List ℕ} → s ≡ t → PutsUpTo contents x y whole s → PutsUpTo contents x y whole t
same-rest e h = record { part = h.part; grows = h.grows; is = h.is ∙ ap (λ l. h.part ++ l) e }

-- nothing is left
pub put-whole : {W : Type 0} {contents : W → Option (List ℕ)} {x y : TextWriter W} {whole : List ℕ} → PutsUpTo contents x y whole [] → Grows contents x y whole
put-whole h = same-growth (sym (h.is ∙ append-nil h.part)) h.grows

-- a text more, which was put whole or broke off
pub put-all : {W E : Type 0} {contents : W → Option (List ℕ)} {x y z : TextWriter W} {u : Unit} {whole t : List ℕ} (rest : List ℕ)
    → PutsUpTo contents x y whole (t ++ rest) → PutsAll {E = E} contents y z (Ok u) t → PutsUpTo contents x z whole rest
put-all rest h k = put-more rest h (same-growth k.all k.grows)

pub broke-off : {W E F : Type 0} {contents : W → Option (List ℕ)} {x y z : TextWriter W} {q : Result Unit F} {r : Result Unit E} {whole t : List ℕ} (rest : List ℕ)
    → IsErr r → PutsUpTo contents x y whole (t ++ rest) → PutsAll contents y z q t → PutsAll contents x z r whole
broke-off rest failed h k =
    puts-some (k.rest ++ rest) failed
    (h.is ∙ ap (λ l. h.part ++ (l ++ rest)) k.whole ∙ ap (λ l. h.part ++ l) (append_assoc k.part k.rest rest) ∙ sym (append_assoc h.part k.part (k.rest ++ rest)))
    (grows-more h.grows k.grows)

-- a text whole, and another one that broke off before a rest
pub broke-off-behind : {W E F : Type 0} {contents : W → Option (List ℕ)} {x y z : TextWriter W} {q : Result Unit F} {r : Result Unit E} {s t : List ℕ} (rest : List ℕ)
    → IsErr r → Grows contents x y s → PutsAll contents y z q t → PutsAll contents x z r (s ++ (t ++ rest))
broke-off-behind {s = s} {t = t} rest failed h k = broke-off {t = t} rest failed (record { part = s; grows = h; is = refl }) k

-- it ended before the rest
pub left-out : {W E : Type 0} {contents : W → Option (List ℕ)} {x y : TextWriter W} {r : Result Unit E} {whole : List ℕ} (rest : List ℕ)
    → IsErr r → PutsUpTo contents x y whole rest → PutsAll contents x y r whole
left-out rest failed h = puts-some rest failed h.is h.grows
