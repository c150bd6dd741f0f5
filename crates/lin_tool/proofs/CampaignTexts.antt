-- Texts of campaigns: items with marks before them, an item at a time, and texts that may break off.
use Rattle.std.proofs.Common.{◌≡◌, ◌∙◌, ◌+◌, ◌<◌, ◌≤◌, ℕ, List, [], ◌∷◌, ◌++◌, Bool, true, false, Option, Some, None, Result, Ok, Err, if◌then◌else◌, refl, sym, ap, subst, add-one, append_assoc, append-nil, drop, drop-cons, filter, flat_map, get_or, length, map}
use Rattle.std.specs.Prelude.{codes, IsErr, OnOk}
use Rattle.std.specs.Borrow.{MutBor}
use Rattle.std.specs.Io.KnownBytes.{Appends, Keeps}
use Rattle.std.proofs.KnownBytes.{Appends-kept}
use Rattle.lin_text.specs.Written.{Grows, IsNew, Puts, WritesText, waiting_bytes}
use Rattle.lin_text.specs.declared.buffered.TextWriter.{TextWriter}
use Rattle.lin_text.proofs.Growing.{grows-more, grows-nothing, same-growth}
use Rattle.lin_export.specs.Csv.{after_comma}
use Rattle.lin_export.specs.Json.{json_array, member, quoted_text, with_commas}
use Rattle.lin_export.specs.Putting.{PutsAll}
use Rattle.lin_export.proofs.Puttings.{written-short}
use Rattle.lin_export.proofs.Rows.{flat-append}
use Rattle.lin_export.proofs.Slots.{drop-end}
use Rattle.lin_tool.specs.Separated.{with_separators}
use Rattle.lin_tool.proofs.Remaining.{broke-off-behind}

-- an item, and those after it
pub at-item : {X : Type 0} (xs : List X) (i : ℕ) (d : X) → i < length xs → drop i xs ≡ get_or xs i d ∷ drop (i + 1) xs
at-item xs i d h = drop-cons xs i d h ∙ ap (λ n. get_or xs i d ∷ drop n xs) (sym (add-one i))

-- the next item
pub marked-next : {X : Type 0} (f : X → List ℕ) (mark other : List ℕ) (xs : List X) (i : ℕ) (x : X) → drop i xs ≡ x ∷ drop (i + 1) xs
    → with_separators mark other (map f (drop i xs)) ≡ mark ++ (f x ++ with_separators other other (map f (drop (i + 1) xs)))
marked-next f mark other xs i x e = ap (λ l. with_separators mark other (map f l)) e

-- no item is left
pub marked-end : {X : Type 0} (f : X → List ℕ) (mark other : List ℕ) (xs : List X) (i : ℕ) → length xs ≤ i → with_separators mark other (map f (drop i xs)) ≡ []
marked-end f mark other xs i h = ap (λ l. with_separators mark other (map f l)) (drop-end xs i h)

-- the same of the items that pass a test
pub kept-next : {X : Type 0} (f : X → List ℕ) (p : X → Bool) (mark other : List ℕ) (xs : List X) (i : ℕ) (x : X) → drop i xs ≡ x ∷ drop (i + 1) xs → p x ≡ true
    → with_separators mark other (map f (filter p (drop i xs))) ≡ mark ++ (f x ++ with_separators other other (map f (filter p (drop (i + 1) xs))))
kept-next f p mark other xs i x e passes =
    ap (λ l. with_separators mark other (map f (filter p l))) e
    ∙ ap (λ b. with_separators mark other (map f (if b then x ∷ filter p (drop (i + 1) xs) else filter p (drop (i + 1) xs)))) passes

pub kept-not : {X : Type 0} (f : X → List ℕ) (p : X → Bool) (mark other : List ℕ) (xs : List X) (i : ℕ) (x : X) → drop i xs ≡ x ∷ drop (i + 1) xs → p x ≡ false
    → with_separators mark other (map f (filter p (drop i xs))) ≡ with_separators mark other (map f (filter p (drop (i + 1) xs)))
kept-not f p mark other xs i x e fails =
    ap (λ l. with_separators mark other (map f (filter p l))) e
    ∙ ap (λ b. with_separators mark other (map f (if b then x ∷ filter p (drop (i + 1) xs) else filter p (drop (i + 1) xs)))) fails

pub kept-end : {X : Type 0} (f : X → List ℕ) (p : X → Bool) (mark other : List ℕ) (xs : List X) (i : ℕ) → length xs ≤ i → with_separators mark other (map f (filter p (drop i xs))) ≡ []
kept-end f p mark other xs i h = ap (λ l. with_separators mark other (map f (filter p l))) (drop-end xs i h)

-- values with a comma between two
commas-behind : (ts : List (List ℕ)) → with_separators (codes ",") (codes ",") ts ≡ flat_map after_comma ts
commas-behind [] = refl
commas-behind (t ∷ ts) = ap (λ l. 44 ∷ (t ++ l)) (commas-behind ts)

pub commas : (ts : List (List ℕ)) → with_separators [] (codes ",") ts ≡ with_commas ts
commas [] = refl
commas (t ∷ ts) = ap (λ l. t ++ l) (commas-behind ts)

-- members before others, and what stands after them
pub members-parts : (ms ns : List (List ℕ)) (end : List ℕ) → flat_map after_comma ms ++ (flat_map after_comma ns ++ end) ≡ flat_map after_comma (ms ++ ns) ++ end
members-parts ms ns end =
    sym (append_assoc (flat_map after_comma ms) (flat_map after_comma ns) end) ∙ ap (λ l. l ++ end) (sym (flat-append after_comma ms ns))

-- a member that is a list
array-parts : (key : List ℕ) (vs : List (List ℕ)) (end : List ℕ)
    → after_comma (member key (91 ∷ [])) ++ (with_commas vs ++ (93 ∷ end)) ≡ after_comma (member key (json_array vs)) ++ end
array-parts key vs end =
    ap (λ l. after_comma (member key (91 ∷ [])) ++ l) (sym (append_assoc (with_commas vs) (93 ∷ []) end))
    ∙ sym (append_assoc (after_comma (member key (91 ∷ []))) (with_commas vs ++ 93 ∷ []) end)
    ∙ ap (λ l. after_comma l ++ end) (append_assoc (quoted_text key) (58 ∷ 91 ∷ []) (with_commas vs ++ 93 ∷ []))

-- a member that is a list, among others
pub array-between : (ms ns : List (List ℕ)) (key : List ℕ) (vs : List (List ℕ)) (end : List ℕ)
    → flat_map after_comma ms ++ (after_comma (member key (91 ∷ [])) ++ (with_commas vs ++ (93 ∷ (flat_map after_comma ns ++ end))))
    ≡ flat_map after_comma (ms ++ member key (json_array vs) ∷ ns) ++ end
array-between ms ns key vs end =
    ap (λ l. flat_map after_comma ms ++ l)
    (array-parts key vs (flat_map after_comma ns ++ end) ∙ sym (append_assoc (after_comma (member key (json_array vs))) (flat_map after_comma ns) end))
    ∙ members-parts ms (member key (json_array vs) ∷ ns) end

-- ---- texts that may break off
on-ok : {E : Type 0} (r : Result Unit E) {P Q : Type 0} → (P → Q) → OnOk r P → OnOk r Q
on-ok (Ok done) f h = f h
on-ok (Err fault) f h = tt

-- one after a whole one
pub puts-behind : {W E : Type 0} {contents : W → Option (List ℕ)} {x y z : TextWriter W} {r : Result Unit E} {s t : List ℕ}
    → Grows contents x y s → PutsAll contents y z r t → PutsAll contents x z r (s ++ t)
puts-behind {r = r} {s = s} h k = record {
  part = s ++ k.part;
  rest = k.rest;
  grows = grows-more h k.grows;
  whole = ap (λ l. s ++ l) k.whole ∙ sym (append_assoc s k.part k.rest);
  all = on-ok r (ap (λ l. s ++ l)) k.all;
}

-- one that broke off before a rest
pub broke-before : {W E F : Type 0} {contents : W → Option (List ℕ)} {y z : TextWriter W} {q : Result Unit F} {r : Result Unit E} {t : List ℕ} (rest : List ℕ)
    → IsErr r → PutsAll contents y z q t → PutsAll contents y z r (t ++ rest)
broke-before {y = y} rest failed k = broke-off-behind rest failed (grows-nothing y) k

-- an equal one
pub same-puts : {W E : Type 0} {contents : W → Option (List ℕ)} {x y : TextWriter W} {r : Result Unit E} {s t : List ℕ}
    → s ≡ t → PutsAll contents x y r s → PutsAll contents x y r t
same-puts {contents = contents} {x = x} {y = y} {r = r} e h = subst (λ l. PutsAll contents x y r l) e h

-- what holds of all that was put
pub when-ok : {X E : Type 0} (r : Result X E) (x : X) {P : Type 0} → r ≡ Ok x → OnOk r P → P
when-ok (Ok y) x e h = h
when-ok (Err fault) x e h = absurd (cc)

pub grows-whole : {W E : Type 0} {contents : W → Option (List ℕ)} {x y : TextWriter W} {r : Result Unit E} {u : Unit} {text : List ℕ} → r ≡ Ok u → PutsAll contents x y r text → Grows contents x y text
grows-whole {r = r} {u = u} e h = same-growth (when-ok r u e h.all) h.grows

pub writes-whole : {E : Type 0} {r : Result Unit E} {u : Unit} {old new : Option (List ℕ)} {text : List ℕ} → r ≡ Ok u → WritesText old new r text → Appends old new text
writes-whole {r = r} {u = u} {old = old} {new = new} e h = subst (λ l. Appends old new l) (when-ok r u e h.all) h.written

-- ---- texts that are written
none-of : {E : Type 0} (r : Result Unit E) (P : Type 0) → IsErr r → OnOk r P
none-of (Ok done) P h = absurd (cc)
none-of (Err fault) P h = tt

dropped-by : (a b waits : Option (List ℕ)) (text : List ℕ) → Puts a (Some []) b waits text → (part rest : List ℕ) × Appends a b part × (text ≡ part ++ rest)
dropped-by a b None text (part, rest, h, e) = (part, rest, h, e)
dropped-by a b (Some waits) text (part, h, e) = (part, waits, h, e)

-- what was put into a new text writer, of which the end wasn't written
pub dropped : {W E F : Type 0} {contents : W → Option (List ℕ)} {writer : MutBor W} {x y : TextWriter W} {q : Result Unit F} {r : Result Unit E} {text : List ℕ}
    → IsErr r → IsNew writer x → PutsAll contents x y q text → WritesText (contents writer.now) (contents y.writer.now) r text
dropped {contents = contents} {writer = writer} {x = x} {y = y} {r = r} {text = text} failed n p =
    let d = dropped-by (contents x.writer.now) (contents y.writer.now) (waiting_bytes y) p.part
    (subst (λ v. Puts (contents x.writer.now) v (contents y.writer.now) (waiting_bytes y) p.part) n.empty p.grows.puts) in
    rw (sym n.now) (record {
      part = d.0;
      rest = d.1 ++ p.rest;
      written = d.2;
      whole = p.whole ∙ ap (λ l. l ++ p.rest) d.3 ∙ append_assoc d.0 d.1 p.rest;
      all = none-of r (d.0 ≡ text) failed;
    })

-- a writer that was flushed
pub writes-kept : {E : Type 0} {a b c : Option (List ℕ)} {r : Result Unit E} {text : List ℕ} → WritesText a b r text → Keeps b c → WritesText a c r text
writes-kept {a = a} {b = b} {c = c} h k = record { part = h.part; rest = h.rest; written = Appends-kept a b c h.part h.written k; whole = h.whole; all = h.all }

pub writes-unflushed : {E F : Type 0} {a b c : Option (List ℕ)} {u : Unit} {r : Result Unit E} {text : List ℕ} → IsErr r → WritesText {E = F} a b (Ok u) text → Keeps b c → WritesText a c r text
writes-unflushed {text = text} failed h k = writes-kept (written-short [] failed (sym (append-nil text)) h) k

pub writes-flushed : {E F : Type 0} {a b c : Option (List ℕ)} {u : Unit} {r : Result Unit E} {text : List ℕ} → WritesText {E = F} a b (Ok u) text → Keeps b c → WritesText a c r text
writes-flushed {r = Ok x} h k = writes-kept (record { part = h.part; rest = h.rest; written = h.written; whole = h.whole; all = h.all }) k
writes-flushed {r = Err fault} h k = writes-unflushed {r = Err fault} refl h k
