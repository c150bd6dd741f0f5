-- Texts put into a short one, one after the other.
use Rattle.std.proofs.Common.{◌≡◌, ℕ, List, [], ◌++◌, append_assoc, append-nil, ap, sym, ◌∙◌}
use Rattle.lin_export.specs.ShortTexts.{AddsText, HoldsText}
use Rattle.lin_export.specs.declared.short_text.ShortText.{ShortText}

pub adds-more : {x y z : ShortText} {s t : List ℕ} → AddsText x y s → AddsText y z t → AddsText x z (s ++ t)
adds-more {x} {s = s} {t = t} h k = record {
  whole = λ w. h.whole (k.whole w);
  bytes = λ w. k.bytes w ∙ ap (λ l. l ++ t) (h.bytes (k.whole w)) ∙ append_assoc x.bytes.items s t;
}

pub same-adds : {x y : ShortText} {s t : List ℕ} → s ≡ t → AddsText x y s → AddsText x y t
same-adds {x} e h = record { whole = h.whole; bytes = λ w. h.bytes w ∙ ap (λ l. x.bytes.items ++ l) e }

pub adds-nothing : (x : ShortText) → AddsText x x []
adds-nothing x = record { whole = λ w. w; bytes = λ w. sym (append-nil x.bytes.items) }

pub is-added : {x y : ShortText} {s t : List ℕ} → HoldsText x s → AddsText x y t → HoldsText y (s ++ t)
is-added {t = t} h k = λ w. k.bytes w ∙ ap (λ l. l ++ t) (h (k.whole w))
