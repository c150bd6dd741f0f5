-- The raw values next to a decimal, of a signal, and the nearest.
use Rattle.std.proofs.Common.{◌≡◌, ℕ, ◌+◌, ◌<◌, ◌≤◌, ap, sym, ◌∙◌, arith, refl, Bool, true, false, nat_le, nat_lt, subst, List, [], ◌∷◌, not, ◌&&◌, ◌||◌, ◌==◌, ◌*◌, ◌-◌, ◌^◌}
use Rattle.std.specs.Prelude.{ℤ, Option, Some, None, option_and_then, if◌then◌else◌, filter, int_lt, unsigned_abs}
use Rattle.std.specs.Option.{option_map}
use Rattle.std.proofs.lemmas.Grind.{common_steps}
use mir.Syntax.{w128}
use mir.Val.{SFits, of_z, to_z}
use lib.IntN.{pos, negsuc}
use Rattle.std.proofs.lemmas.Int.{ints, to_z-of_z}
use Rattle.lin_frame.specs.declared.value.Value.{Value}
use Rattle.lin_frame.specs.declared.value.Value.TheVariants.{Scalar}
use Rattle.lin_values.specs.Coded.{all_codings, encoding_of, item_for, or_else, signal_at, CodedData, SignalCoding}
use Rattle.lin_values.specs.Meaning.{bcd_digits, by_item, digits_meaning, first_some, meaning, meaning_by, meaning_in}
use Rattle.lin_values.specs.Meant.{Meant}
use Rattle.lin_values.specs.Nearest.{distance_above, distance_below, item_decimal, nearer, raw_decimal, signal_decimal, IsAmong, IsLeast, IsNearer}
use Rattle.lin_values.specs.Raws.{above, below, decimal_at, decimals, distance, nearest, nearest_of, units_of}
use Rattle.lin_values.specs.Value.{scaled_value, IsReadable}
use Rattle.lin_values.specs.Warnings.{greatest_raw}
use Rattle.lin_values.specs.declared.decimals.Decimal.{Decimal}
use Rattle.lin_values.proofs.Powers.{readable-units}
use Rattle.lin_values.proofs.ShortestAgain.{size-of}
use Rattle.lin_values.specs.declared.encoding.Coding.{Coding}
use Rattle.lin_values.specs.declared.encoding.Coding.TheVariants as codings
use Rattle.lin_values.specs.declared.codings.CodingType.{CodingType}
use Rattle.lin_values.specs.declared.codings.Item.{Item}
use Rattle.lin_values.specs.declared.codings.Item.TheVariants as items
use Rattle.lin_values.specs.declared.codings.PlacedItem.{PlacedItem}
use Rattle.lin_values.proofs.LeastOf.{nearest-from, IsNearerTo}
use Rattle.lin_values.proofs.LeastRaw.{raw_of, unique}

-- ---- of a signal

or-digits : (unit : List ℕ) (o : Option (List ℕ)) (rest : Option Meant) → option_and_then (units_of unit) rest ≡ None → option_and_then (units_of unit) (or_else (digits_meaning o) rest) ≡ None
or-digits unit None rest h = h
or-digits unit (Some ds) rest h = refl

coded-first : (sc : SignalCoding) (v : Value) (unit : List ℕ) (cs : List Coding) → option_and_then (units_of unit) (first_some (meaning_by sc v) cs) ≡ None
coded-first sc v unit [] = refl
coded-first sc v unit (codings.Bcd ∷ cs) = or-digits unit (bcd_digits sc v) (first_some (meaning_by sc v) cs) (coded-first sc v unit cs)
coded-first sc v unit (codings.Ascii ∷ cs) = refl

by-item-is : (sc : SignalCoding) (ps : List PlacedItem) (unit : List ℕ) (n : ℕ) (o : Option Item) → option_and_then (units_of unit) (by_item sc ps (Scalar n) n o) ≡ option_and_then (item_decimal unit n) o
by-item-is sc ps unit n None = coded-first sc (Scalar n) unit (all_codings ps)
by-item-is sc ps unit n (Some (items.Logical v [])) = refl
by-item-is sc ps unit n (Some (items.Logical v (c ∷ cs))) = refl
by-item-is sc ps unit n (Some (items.Physical min max scale offset u)) = refl
by-item-is sc ps unit n (Some items.Bcd) = refl
by-item-is sc ps unit n (Some items.Ascii) = refl

decimal-is : (k : CodedData) (s : ℕ) (unit : List ℕ) (n : ℕ) (t : CodingType) → (signal_at k s).is_array ≡ false → encoding_of k s ≡ Some t
    → decimal_at k s unit n ≡ option_and_then (item_decimal unit n) (item_for t.items n)
decimal-is k s unit n t e f =
    ap (λ b. if b then None else option_and_then (units_of unit) (meaning k s (Scalar n))) e
    ∙ ap (λ o. option_and_then (units_of unit) (option_and_then (λ (c : CodingType). meaning_in (signal_at k s) c.items (Scalar n)) o)) f
    ∙ by-item-is (signal_at k s) t.items unit n (item_for t.items n)

pub scalar-decimal : (k : CodedData) (s bits : ℕ) (unit : List ℕ) (n : ℕ) (t : CodingType) → bits ≡ (signal_at k s).bits → (signal_at k s).is_array ≡ false → encoding_of k s ≡ Some t
    → raw_decimal t.items bits unit n ≡ signal_decimal k s unit n
scalar-decimal k s bits unit n t b e f =
    ap (λ m. raw_decimal t.items m unit n) b
    ∙ ap (λ o. if nat_le n (greatest_raw (signal_at k s).bits) then o else None) (sym (decimal-is k s unit n t e f))

if-none : (b : Bool) (o : Option ℤ) → o ≡ None → (if b then o else None) ≡ None
if-none true o e = e
if-none false o e = refl

pub array-none : (F : ℤ → Option ℕ) (k : CodedData) (s : ℕ) (unit : List ℕ) (n : ℕ) → (signal_at k s).is_array ≡ true → option_and_then F (signal_decimal k s unit n) ≡ None
array-none F k s unit n e =
    ap (option_and_then F) (if-none (nat_le n (greatest_raw (signal_at k s).bits)) (decimal_at k s unit n)
    (ap (λ b. if b then None else option_and_then (units_of unit) (meaning k s (Scalar n))) e))

both-none : (b : Bool) (o : Option ℤ) → o ≡ None → (if b then None else o) ≡ None
both-none true o e = refl
both-none false o e = e

pub encoding-none : (F : ℤ → Option ℕ) (k : CodedData) (s : ℕ) (unit : List ℕ) (n : ℕ) → encoding_of k s ≡ None → option_and_then F (signal_decimal k s unit n) ≡ None
encoding-none F k s unit n e =
    ap (option_and_then F) (if-none (nat_le n (greatest_raw (signal_at k s).bits)) (decimal_at k s unit n)
    (both-none (signal_at k s).is_array (option_and_then (units_of unit) (meaning k s (Scalar n)))
    (ap (λ o. option_and_then (units_of unit) (option_and_then (λ (c : CodingType). meaning_in (signal_at k s) c.items (Scalar n)) o)) e)))

-- ---- the definitions

abbrev pub side : (ℤ → Bool) → ℤ → ℤ → Option ℕ
side bad x z = if bad z then None else Some (distance x z)

abbrev pub up_to_most : (ℕ → Option ℤ) → ℕ → ℕ → Option ℤ
up_to_most f most n = if nat_le n most then f n else None

pub record IsFound (bad : ℤ → Bool) (x : ℤ) (t : Bool) (o : Option ℤ) (d : ℕ) : Type 0 where
  pub value : ℤ
  pub within : t ≡ true
  pub there : o ≡ Some value
  pub good : bad value ≡ false
  pub same : distance x value ≡ d

found-by : (bad : ℤ → Bool) (x z : ℤ) (b : Bool) (d : ℕ) → bad z ≡ b → (if b then None else Some (distance x z)) ≡ Some d → IsFound bad x true (Some z) d
found-by bad x z true d e f = cc
found-by bad x z false d e f = record { value = z; within = refl; there = refl; good = e; same = cc }

found : (bad : ℤ → Bool) (x : ℤ) (t : Bool) (o : Option ℤ) (d : ℕ) → option_and_then (side bad x) (if t then o else None) ≡ Some d → IsFound bad x t o d
found bad x true None d e = cc
found bad x true (Some z) d e = found-by bad x z (bad z) d refl e
found bad x false o d e = cc

put-side : (bad : ℤ → Bool) (x z : ℤ) (t : Bool) (o : Option ℤ) → t ≡ true → o ≡ Some z → bad z ≡ false → option_and_then (side bad x) (if t then o else None) ≡ Some (distance x z)
put-side bad x z t o e f g =
    ap (λ b. option_and_then (side bad x) (if b then o else None)) e ∙ ap (option_and_then (side bad x)) f ∙ ap (λ b. if b then None else Some (distance x z)) g

le-true : (n m : ℕ) → n < m + 1 → nat_le n m ≡ true
le-true n m h = grind (arith, common_steps)

true-le : (n m : ℕ) → nat_le n m ≡ true → n < m + 1
true-le n m h = grind (arith, common_steps)

abbrev pub with_distance : ℤ → Option (ℕ × ℤ) → Option (ℕ × ℕ)
with_distance x None = None
with_distance x (Some p) = Some (p.0, distance x p.1)

pub not-true : (b : Bool) → not b ≡ true → b ≡ false
not-true true h = cc
not-true false h = refl

not-false : (b : Bool) → b ≡ false → not b ≡ true
not-false b h = ap not h

to-least : (f : ℕ → Option ℤ) (bad : ℤ → Bool) (x : ℤ) (most : ℕ) (r : Option (ℕ × ℤ)) → IsNearerTo f (λ z. not (bad z)) x (most + 1) r
    → IsLeast (λ n. option_and_then (side bad x) (up_to_most f most n)) (with_distance x r)
to-least f bad x most None l = record {
  among = tt;
  least = λ n d e.
      let w = found bad x (nat_le n most) (f n) d e in
      l n (true-le n most w.within) w.value w.there (not-false (bad w.value) w.good);
}
to-least f bad x most (Some p) l = record {
  among = put-side bad x p.1 (nat_le p.0 most) (f p.0) (le-true p.0 most l.0) l.1 (not-true (bad p.1) l.2);
  least = λ n d e.
      let w = found bad x (nat_le n most) (f n) d e in
      subst (λ (m : ℕ). (distance x p.1 ≤ m) × (n < p.0 → distance x p.1 < m)) w.same
      (l.3 n (true-le n most w.within) w.value w.there (not-false (bad w.value) w.good));
}

raw-first : (x : ℤ) (r : Option (ℕ × ℤ)) → raw_of (with_distance x r) ≡ option_map (λ p. p.0) r
raw-first x None = refl
raw-first x (Some p) = refl

map-first : (b : Option (ℕ × ℕ)) → option_map (λ p. p.0) b ≡ raw_of b
map-first None = refl
map-first (Some p) = refl

nothing-yet : (f : ℕ → Option ℤ) (good : ℤ → Bool) (x : ℤ) → IsNearerTo f good x 0 None
nothing-yet f good x = λ n i z e t. omega arith

pub best-is : (k : CodedData) (s : ℕ) (x : ℤ) (unit : List ℕ) (bad : ℤ → Bool) (b : Option (ℕ × ℕ))
    → IsLeast (λ n. option_and_then (side bad x) (signal_decimal k s unit n)) b
    → option_map (λ p. p.0) b ≡ option_map (λ p. p.0) (nearest_of x (filter (λ p. not (bad p.1)) (decimals k s unit)))
best-is k s x unit bad b l =
    let most = greatest_raw (signal_at k s).bits in
    let r = nearest_of x (filter (λ p. not (bad p.1)) (decimals k s unit)) in
    let i : IsNearerTo (decimal_at k s unit) (λ z. not (bad z)) x (0 + (most + 1)) r
    = nearest-from (decimal_at k s unit) (λ z. not (bad z)) x (most + 1) 0 None (nothing-yet (decimal_at k s unit) (λ z. not (bad z)) x) in
    let e : 0 + (most + 1) ≡ most + 1 = omega arith in
    let j : IsNearerTo (decimal_at k s unit) (λ z. not (bad z)) x (most + 1) r
    = subst (λ (m : ℕ). IsNearerTo (decimal_at k s unit) (λ z. not (bad z)) x m r) e i in
    map-first b
    ∙ unique (λ n. option_and_then (side bad x) (signal_decimal k s unit n)) b (with_distance x r) l (to-least (decimal_at k s unit) bad x most r j)
    ∙ raw-first x r

-- ---- the nearest of both sides

all-kept : (ps : List (ℕ × ℤ)) → filter (λ p. true) ps ≡ ps
all-kept [] = refl
all-kept (p ∷ ps) = ap (λ qs. p ∷ qs) (all-kept ps)

left-near : (p q : ℕ × ℕ) (n d : ℕ) → IsNearer (Some p) n d → IsNearer (nearer (Some p) (Some q)) n d
left-near p q n d h = grind (arith, common_steps)

right-near : (p q : ℕ × ℕ) (n d : ℕ) → IsNearer (Some q) n d → IsNearer (nearer (Some p) (Some q)) n d
right-near p q n d h = grind (arith, common_steps)

near-left : (a b : Option (ℕ × ℕ)) (n d : ℕ) → IsNearer a n d → IsNearer (nearer a b) n d
near-left None b n d h = absurd h
near-left (Some p) None n d h = h
near-left (Some p) (Some q) n d h = left-near p q n d h

near-right : (a b : Option (ℕ × ℕ)) (n d : ℕ) → IsNearer b n d → IsNearer (nearer a b) n d
near-right None b n d h = h
near-right (Some p) None n d h = absurd h
near-right (Some p) (Some q) n d h = right-near p q n d h

either-among : (f : ℕ → Option ℕ) (p q : ℕ × ℕ) (t : Bool) → f p.0 ≡ Some p.1 → f q.0 ≡ Some q.1 → IsAmong f (if t then Some p else Some q)
either-among f p q true h i = h
either-among f p q false h i = i

among-both : (f : ℕ → Option ℕ) (a b : Option (ℕ × ℕ)) → IsAmong f a → IsAmong f b → IsAmong f (nearer a b)
among-both f None b h i = i
among-both f (Some p) None h i = h
among-both f (Some p) (Some q) h i = either-among f p q (nat_lt p.1 q.1 || p.1 == q.1 && nat_lt p.0 q.0) h i

among-all : (bad : ℤ → Bool) (x : ℤ) (o : ℕ → Option ℤ) (b : Option (ℕ × ℕ)) → IsAmong (λ n. option_and_then (side bad x) (o n)) b → IsAmong (λ n. option_and_then (side (λ z. false) x) (o n)) b
among-all bad x o None h = tt
among-all bad x o (Some p) h =
    let w = found bad x true (o p.0) p.1 h in
    ap (option_and_then (side (λ z. false) x)) w.there ∙ ap Some w.same

on-side : (bad : ℤ → Bool) (x z : ℤ) (o : Option ℤ) (d : ℕ) → o ≡ Some z → bad z ≡ false → distance x z ≡ d → option_and_then (side bad x) o ≡ Some d
on-side bad x z o d e f g = ap (option_and_then (side bad x)) e ∙ ap (λ b. if b then None else Some (distance x z)) f ∙ ap Some g

one-side : (x z : ℤ) (t : Bool) → int_lt x z ≡ t → t ≡ true → int_lt z x ≡ false
one-side x z t e f = grind (arith, ints)

pub least-of-both : (x : ℤ) (o : ℕ → Option ℤ) (a b : Option (ℕ × ℕ)) → IsLeast (λ n. option_and_then (distance_below x) (o n)) a → IsLeast (λ n. option_and_then (distance_above x) (o n)) b
    → IsLeast (λ n. option_and_then (side (λ z. false) x) (o n)) (nearer a b)
least-of-both x o a b l m = record {
  among = among-both (λ n. option_and_then (side (λ z. false) x) (o n)) a b
      (among-all (λ z. int_lt x z) x o a l.among) (among-all (λ z. int_lt z x) x o b m.among);
  least = λ n d e.
      let w = found (λ z. false) x true (o n) d e in
      elim (int_lt x w.value) as (λ t. int_lt x w.value ≡ t → IsNearer (nearer a b) n d) [
        | true ↦ λ i. near-right a b n d (m.least n d (on-side (λ z. int_lt z x) x w.value (o n) d w.there (one-side x w.value true i refl) w.same))
        | false ↦ λ i. near-left a b n d (l.least n d (on-side (λ z. int_lt x z) x w.value (o n) d w.there i w.same))
      ] refl;
}

pub nearest-is : (k : CodedData) (s : ℕ) (x : ℤ) (unit : List ℕ) (a b : Option (ℕ × ℕ))
    → IsLeast (λ n. option_and_then (distance_below x) (signal_decimal k s unit n)) a → IsLeast (λ n. option_and_then (distance_above x) (signal_decimal k s unit n)) b
    → option_map (λ p. p.0) (nearer a b) ≡ nearest k s x unit
nearest-is k s x unit a b l m =
    best-is k s x unit (λ z. false) (nearer a b) (least-of-both x (signal_decimal k s unit) a b l m)
    ∙ ap (λ ps. option_map (λ (p : ℕ × ℤ). p.0) (nearest_of x ps)) (all-kept (decimals k s unit))

pub below-is : (k : CodedData) (s : ℕ) (x : ℤ) (unit : List ℕ) (b : Option (ℕ × ℕ)) → IsLeast (λ n. option_and_then (distance_below x) (signal_decimal k s unit n)) b
    → option_map (λ p. p.0) b ≡ below k s x unit
below-is k s x unit b l = best-is k s x unit (λ z. int_lt x z) b l

pub above-is : (k : CodedData) (s : ℕ) (x : ℤ) (unit : List ℕ) (b : Option (ℕ × ℕ)) → IsLeast (λ n. option_and_then (distance_above x) (signal_decimal k s unit n)) b
    → option_map (λ p. p.0) b ≡ above k s x unit
above-is k s x unit b l = best-is k s x unit (λ z. int_lt z x) b l

-- ---- sizes

pub readable-small : (d : Decimal) → IsReadable d → unsigned_abs (scaled_value d) ≤ 10 ^ 38
readable-small d h =
    let e : unsigned_abs (scaled_value d) ≡ d.digits * 10 ^ (24 - d.places) = size-of d.negative (d.digits * 10 ^ (24 - d.places)) in
    omega (arith, e, readable-units d.digits d.places h.0 h.1)

wide-fits : (z : ℤ) → unsigned_abs z ≤ 10 ^ 38 → SFits w128 z
wide-fits (pos a) h = omega (arith, ints)
wide-fits (negsuc a) h = omega (arith, ints)

pub kept : (z v : ℤ) → z ≡ v → unsigned_abs v ≤ 10 ^ 38 → to_z w128 (of_z w128 z) ≡ v
kept z v e h = ap (λ w. to_z w128 (of_z w128 w)) e ∙ to_z-of_z w128 v (wide-fits v h)

pub kept-small : (z v : ℤ) → z ≡ v → unsigned_abs v ≤ 10 ^ 38 → unsigned_abs (to_z w128 (of_z w128 z)) ≤ 10 ^ 38
kept-small z v e h = subst (λ (w : ℤ). unsigned_abs w ≤ 10 ^ 38) (sym (kept z v e h)) h
