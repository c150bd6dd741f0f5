-- A line that says something by numbers says it in each language: its fields hold no tab and begin no comment.
use Rattle.std.proofs.Common.{◌≡◌, ◌∙◌, ◌+◌, ◌*◌, ◌-◌, ◌==◌, ◌&&◌, ◌||◌, ℕ, List, [], ◌∷◌, ◌++◌, Bool, true, false, not, nat_le, refl, sym, ap, arith, Option, Some, None, Result, Ok, Err, drop, filter, length, slice_index, codes, if◌then◌else◌}
use Rattle.std.specs.List.{list_all, slice_split, onto_first, take_while}
use Rattle.std.specs.Str.{bytes_eq}
use Rattle.std.specs.Str.Lines.{strip_carriage_return}
use Rattle.std.proofs.lemmas.Bool.{and_parts}
use Rattle.std.proofs.lemmas.Grind.{common_steps}
use Rattle.std.proofs.lemmas.List.Sums.{take_while-cons}
use Rattle.std.proofs.lemmas.Slice.Eq.{bytes_eq-Decides}
use Rattle.lin_frame.specs.declared.value.Value.{Value}
use Rattle.lin_frame.specs.declared.value.Value.TheVariants.{Scalar, Bytes}
use Rattle.lin_core.specs.declared.link.Direction.{Direction}
use Rattle.lin_core.specs.declared.port.PortId.{PortId}
use Rattle.lin_core.specs.declared.port.PortId.TheVariants.{Bus, Host, Node}
use Rattle.lin_core.specs.declared.step.Step.{Step}
use Rattle.lin_core.specs.declared.step.Step.TheVariants.{Open, Answer, Leave, Finish, AskSleep, Wake, Close}
use Rattle.lin_log.specs.Language.{Called, Language, nameless, plain}
use Rattle.lin_log.specs.Laws.{LinesStay, TextsStay}
use Rattle.lin_log.specs.Said.{◌>>=◌, Steps, alone, array_form, bytes_fields, called_field, direction_field, fields, hex_bytes, hurt_form, is_comment, is_digit, is_gap, is_hex_number, is_number, is_port, is_not_empty, line_says, node_field, node_form, number, number_after, number_field, of_fields, or_bad, port, port_number, port_step, send_form, signal_field, step_after, step_form, steps_from, switch_form, table_field, text_says, timeout_form, within_limit, value_field, with_said, write_form}
use Rattle.lin_log.specs.declared.reason.Reason.{Reason}
use Rattle.lin_log.specs.declared.reason.Reason.TheVariants.{NoNode, NoSignal, NoTable}
use Rattle.lin_log.proofs.HexFields.{digits-of_bytes, is_field, no_tab, no_tabs}
use Rattle.lin_log.proofs.Items.{IsDigits, all_digits, and-no, both, first-digit, joined, not-digit, second-digit, weaker}

abbrev all_fields : List (List ℕ) → Bool
all_fields = list_all is_field

abbrev pieces_whole : List (List ℕ) → Bool
pieces_whole = list_all no_tabs

-- ---- lines
whole-pieces : (ps : List (List ℕ)) → all_fields (filter is_not_empty ps) ≡ true → pieces_whole ps ≡ true
whole-pieces [] h = refl
whole-pieces ([] ∷ ps) h = whole-pieces ps h
whole-pieces ((b ∷ bs) ∷ ps) h =
    let t : is_not_empty (b ∷ bs) ≡ true = grind (arith, common_steps) in
    let k : all_fields ((b ∷ bs) ∷ filter is_not_empty ps) ≡ true = rw t at h in
    let p = and_parts (is_field (b ∷ bs)) (all_fields (filter is_not_empty ps)) k in
    let q = and_parts (no_tabs (b ∷ bs)) (not (b == 35)) p.0 in
    both (no_tabs (b ∷ bs)) (pieces_whole ps) q.0 (whole-pieces ps p.1)

whole-onto : (x : ℕ) (ps : List (List ℕ)) → pieces_whole (onto_first x ps) ≡ true → (no_tab x ≡ true) × (pieces_whole ps ≡ true)
whole-onto x [] h = (let p = and_parts (no_tabs (x ∷ [])) true h in (and_parts (no_tab x) true p.0).0, refl)
whole-onto x (p ∷ ps) h =
    let a = and_parts (no_tabs (x ∷ p)) (pieces_whole ps) h in
    let b = and_parts (no_tab x) (no_tabs p) a.0 in
    (b.0, both (no_tabs p) (pieces_whole ps) b.1 a.1)

space-whole : (x : ℕ) → is_gap false x ≡ true → no_tab x ≡ true
space-whole x h = grind (arith, common_steps)

same-gap : (free : Bool) (x : ℕ) → no_tab x ≡ true → is_gap free x ≡ is_gap false x
same-gap true x h = grind (arith, common_steps)
same-gap false x h = refl

split-by : (free : Bool) (x : ℕ) (xs : List ℕ) (t : Bool) → is_gap false x ≡ t
    → (pieces_whole (slice_split (is_gap false) xs) ≡ true → slice_split (is_gap free) xs ≡ slice_split (is_gap false) xs)
    → pieces_whole (slice_split (is_gap false) (x ∷ xs)) ≡ true → slice_split (is_gap free) (x ∷ xs) ≡ slice_split (is_gap false) (x ∷ xs)
split-by free x xs true e more h =
    let k : pieces_whole ([] ∷ slice_split (is_gap false) xs) ≡ true = rw e at h in
    rw (same-gap free x (space-whole x e), more k) refl
split-by free x xs false e more h =
    let k : pieces_whole (onto_first x (slice_split (is_gap false) xs)) ≡ true = rw e at h in
    let p = whole-onto x (slice_split (is_gap false) xs) k in
    rw (same-gap free x p.0, more p.1) refl

same-split : (free : Bool) (line : List ℕ) → pieces_whole (slice_split (is_gap false) line) ≡ true → slice_split (is_gap free) line ≡ slice_split (is_gap false) line
same-split free [] h = refl
same-split free (x ∷ xs) h = split-by free x xs (is_gap false x) refl (same-split free xs) h

no-comment : (free : Bool) (f : List ℕ) → not (slice_index f 0 == 35) ≡ true → not (is_comment free f) ≡ true
no-comment true f h = h
no-comment false f h = refl

all-taken : (free : Bool) (fs : List (List ℕ)) → all_fields fs ≡ true → take_while (λ f. not (is_comment free f)) fs ≡ fs
all-taken free [] h = refl
all-taken free (f ∷ fs) h =
    let p = and_parts (is_field f) (all_fields fs) h in
    let q = and_parts (no_tabs f) (not (slice_index f 0 == 35)) p.0 in
    take_while-cons (λ g. not (is_comment free g)) f fs ∙ rw (no-comment free f q.1, all-taken free fs p.1) refl

every-taken : (fs : List (List ℕ)) → take_while (λ f. not (is_comment false f)) fs ≡ fs
every-taken [] = refl
every-taken (f ∷ fs) = take_while-cons (λ g. not (is_comment false g)) f fs ∙ rw (every-taken fs) refl

same-fields : (free : Bool) (line : List ℕ) → all_fields (fields false line) ≡ true → fields free line ≡ fields false line
same-fields free line h =
    let ps = slice_split (is_gap false) line in
    let k : all_fields (filter is_not_empty ps) ≡ true = rw (every-taken (filter is_not_empty ps)) at h in
    ap (λ qs. take_while (λ f. not (is_comment free f)) (filter is_not_empty qs)) (same-split free line (whole-pieces ps k))
    ∙ all-taken free (filter is_not_empty ps) k ∙ sym (every-taken (filter is_not_empty ps))

-- ---- what was read
ok-then : {A B : Type 0} (r : Result A Reason) (f : A → Result B Reason) (b : B) → (r >>= f) ≡ Ok b → (a : A) × (r ≡ Ok a) × (f a ≡ Ok b)
ok-then (Ok a) f b e = (a, refl, e)
ok-then (Err why) f b e = absurd (cc)

ok-found : {A : Type 0} (o : Option A) (why : Reason) (x : A) → or_bad o why ≡ Ok x → o ≡ Some x
ok-found None why x e = absurd (cc)
ok-found (Some y) why x e = cc

some-if : {A : Type 0} (t : Bool) (x : Option A) (a : A) → (if t then x else None) ≡ Some a → (t ≡ true) × (x ≡ Some a)
some-if true x a e = (refl, e)
some-if false x a e = absurd (cc)

-- fields, and what they say in another language
record Say {A : Type 0} (fs : List (List ℕ)) (other : Result A Reason) (x : A) : Type 0 where
  fields : all_fields fs ≡ true
  reading : other ≡ Ok x

says : {A : Type 0} (f : List ℕ) (other : Result A Reason) (x : A) → is_field f ≡ true → other ≡ Ok x → Say (f ∷ []) other x
says f other x h e = record { fields = both (is_field f) true h refl; reading = e }

-- what fields say by numbers they say in another language
record Stay {A : Type 0} (fs : List (List ℕ)) (read other : Result A Reason) : Type 0 where
  say : (x : A) → read ≡ Ok x → Say fs other x

bad-stay : {A : Type 0} (fs : List (List ℕ)) (why : Reason) (other : Result A Reason) → Stay fs (Err why) other
bad-stay fs why other = record { say = λ x e. absurd (cc) }

then-stay : {A B : Type 0} (fs gs : List (List ℕ)) (read other : Result A Reason) (f g : A → Result B Reason) → Stay fs read other
    → ((a : A) → Stay gs (f a) (g a)) → Stay (fs ++ gs) (read >>= f) (other >>= g)
then-stay fs gs read other f g p q = record {
  say = λ x e.
      let a = ok-then read f x e in
      let s = p.say a.0 a.1 in
      let t = (q a.0).say x a.2 in
      record { fields = joined is_field fs gs s.fields t.fields; reading = rw s.reading t.reading };
}

last-stay : {A B : Type 0} (fs : List (List ℕ)) (read other : Result A Reason) (f : A → B) → Stay fs read other
    → Stay fs (read >>= (λ a. Ok (f a))) (other >>= (λ a. Ok (f a)))
last-stay fs read other f p = record {
  say = λ x e.
      let a = ok-then read (λ a. Ok (f a)) x e in
      let s = p.say a.0 a.1 in
      record { fields = s.fields; reading = rw s.reading a.2 };
}

-- ---- numbers: digits, the first of which stands first
digits-after : (m : ℕ) (f : List ℕ) (n : ℕ) → number_after m f ≡ Some n → all_digits f ≡ true
digits-after m [] n e = refl
digits-after m (b ∷ bs) n e =
    let p = some-if (is_digit b) (number_after (m * 10 + (b - 48)) bs) n e in
    both (is_digit b) (all_digits bs) p.0 (digits-after (m * 10 + (b - 48)) bs n p.1)

digit-whole : (b : ℕ) → is_digit b ≡ true → no_tab b ≡ true
digit-whole b h = grind (arith, common_steps)

digits-whole : (f : List ℕ) → all_digits f ≡ true → no_tabs f ≡ true
digits-whole f h = weaker is_digit no_tab digit-whole f h

up-to : (most : ℕ) (o : Option ℕ) (n : ℕ) → within_limit most o ≡ Some n → (m : ℕ) × (o ≡ Some m)
up-to most None n e = absurd (cc)
up-to most (Some m) n e = (m, refl)

digits-of : (most : ℕ) (f : List ℕ) (n : ℕ) → number most f ≡ Some n → IsDigits f
digits-of most [] n e = absurd (cc)
digits-of most (b ∷ bs) n e =
    let p = some-if (nat_le 1 (length (b ∷ bs)) && nat_le (length (b ∷ bs)) 10) (within_limit most (number_after 0 (b ∷ bs))) n e in
    let q = up-to most (number_after 0 (b ∷ bs)) n p.1 in
    record { some = omega arith; digits = digits-after 0 (b ∷ bs) q.0 q.1 }

digits-field : (f : List ℕ) → IsDigits f → is_field f ≡ true
digits-field f d =
    both (no_tabs f) (not (slice_index f 0 == 35)) (digits-whole f d.digits) (rw ((not-digit (slice_index f 0) (first-digit f d)).0) refl)

called-by : (called : Called) (most : ℕ) (f : List ℕ) (why other : Reason) (unknown : List ℕ → Reason) (n : ℕ) (t : Bool) → is_number f ≡ t
    → (if t then or_bad (number most f) why else or_bad None other) ≡ Ok n → (is_number f ≡ true) × (number most f ≡ Some n)
called-by called most f why other unknown n true h e = (h, ok-found (number most f) why n e)
called-by called most f why other unknown n false h e = absurd (cc)

called-stay : (called : Called) (most : ℕ) (unknown : List ℕ → Reason) (f : List ℕ)
    → Stay (f ∷ []) (called_field most nameless unknown f) (called_field most called unknown f)
called-stay called most unknown f = record {
  say = λ n e.
      let p = called-by called most f _ _ unknown n (is_number f) refl e in
      says f (called_field most called unknown f) n (digits-field f (digits-of most f n p.1)) (rw (p.0, p.1) refl);
}

node-stay : (l : Language) (f : List ℕ) → Stay (f ∷ []) (node_field plain f) (node_field l f)
unfolding node_field
node-stay l f = called-stay l.nodes 255 NoNode f

signal-stay : (l : Language) (f : List ℕ) → Stay (f ∷ []) (signal_field plain f) (signal_field l f)
unfolding signal_field
signal-stay l f = called-stay l.signals 65535 NoSignal f

table-stay : (l : Language) (f : List ℕ) → Stay (f ∷ []) (table_field plain f) (table_field l f)
unfolding table_field
table-stay l f = called-stay l.tables 65535 NoTable f

word-field : (f word : List ℕ) → bytes_eq f word ≡ true → is_field word ≡ true → is_field f ≡ true
word-field f word e h = rw ((bytes_eq-Decides f word).0 e) h

hex-by : (f bs : List ℕ) (t u : Bool) → bytes_eq f (codes "-") ≡ t → (length f == 0) ≡ u → hex_bytes f ≡ Some bs → is_field f ≡ true
hex-by f bs true u h k e = word-field f (codes "-") h refl
hex-by f bs false true h k e = let n : None ≡ Some bs = rw (h, k) at e in absurd (cc)
hex-by f bs false false h k e =
    digits-of_bytes f bs (rw (h, k) at e)

hex-field : (f bs : List ℕ) → hex_bytes f ≡ Some bs → is_field f ≡ true
hex-field f bs e = hex-by f bs (bytes_eq f (codes "-")) (length f == 0) refl refl e

bytes-stay : (l : Language) (fs : List (List ℕ)) → Stay fs (bytes_fields plain fs) (bytes_fields l fs)
unfolding bytes_fields
bytes-stay l (f ∷ []) = record { say = λ m e. says f _ m (hex-field f m (ok-found (hex_bytes f) _ m e)) e }
bytes-stay l fs = bad-stay fs _ _

-- ---- values
array-field : (f : List ℕ) (v : Value) → (slice_index f 0 == 120) ≡ true → array_form f (drop 1 f) ≡ Ok v → is_field f ≡ true
array-field [] v h e = absurd (cc)
array-field (x ∷ xs) v h e =
    let p = ok-then (or_bad (hex_bytes xs) _) (λ bytes. if nat_le (length bytes) 8 then Ok (Bytes bytes) else Err _) v e in
    let q = and_parts (no_tabs xs) (not (slice_index xs 0 == 35)) (hex-field xs p.0 (ok-found (hex_bytes xs) _ p.0 p.1)) in
    let a : no_tab x ≡ true = grind (arith, common_steps) in
    let b : not (x == 35) ≡ true = grind (arith, common_steps) in
    both (no_tabs (x ∷ xs)) (not (x == 35)) (both (no_tab x) (no_tabs xs) a q.0) b

scalar-stays : (l : Language) (f : List ℕ) (v : Value) → (slice_index f 0 == 120) ≡ false → (number_field 65535 f >>= (λ n. Ok (Scalar n))) ≡ Ok v
    → Say (f ∷ []) (value_field l f) v
unfolding value_field
scalar-stays l f v h e =
    let p = ok-then (number_field 65535 f) (λ n. Ok (Scalar n)) v e in
    let d = digits-of 65535 f p.0 (ok-found (number 65535 f) _ p.0 p.1) in
    let z : is_hex_number l f ≡ false = and-no l.free (slice_index f 0 == 48 && slice_index f 1 == 120)
    (and-no (slice_index f 0 == 48) (slice_index f 1 == 120) (second-digit f d.digits)) in
    says f (value_field l f) v (digits-field f d) (rw (h, z) e)

value-by : (l : Language) (f : List ℕ) (v : Value) (t : Bool) → (slice_index f 0 == 120) ≡ t → value_field plain f ≡ Ok v → Say (f ∷ []) (value_field l f) v
unfolding value_field
value-by l f v true h e =
    let a : array_form f (drop 1 f) ≡ Ok v = rw h at e in
    says f (value_field l f) v (array-field f v h a) (rw h a)
value-by l f v false h e = scalar-stays l f v h (rw h at e)

value-stay : (l : Language) (f : List ℕ) → Stay (f ∷ []) (value_field plain f) (value_field l f)
value-stay l f = record { say = λ v e. value-by l f v (slice_index f 0 == 120) refl e }

-- ---- directions
direction-by : (f : List ℕ) (d : Direction) (t u : Bool) → bytes_eq (codes "down") f ≡ t → bytes_eq (codes "up") f ≡ u → direction_field f ≡ Ok d → is_field f ≡ true
unfolding direction_field
direction-by f d true u h k e = rw (sym ((bytes_eq-Decides (codes "down") f).0 h)) refl
direction-by f d false true h k e = rw (sym ((bytes_eq-Decides (codes "up") f).0 k)) refl
direction-by f d false false h k e = let n : or_bad None _ ≡ Ok d = rw (h, k) at e in absurd (cc)

direction-stay : (f : List ℕ) → Stay (f ∷ []) (direction_field f) (direction_field f)
direction-stay f = record {
  say = λ d e. says f (direction_field f) d (direction-by f d (bytes_eq (codes "down") f) (bytes_eq (codes "up") f) refl refl e) e;
}

-- ---- ports: a letter, and a number after it
port-number : (l : Language) (f : List ℕ) (n : ℕ) (t : Bool) → (slice_index f 0 == 58) ≡ t → port_number plain f ≡ Ok n
    → IsDigits f × (port_number l f ≡ Ok n)
port-number l f n true h e = let k : or_bad None _ ≡ Ok n = rw h at e in absurd (cc)
port-number l f n false h e =
    let k : number_field 255 f ≡ Ok n = rw h at e in
    (digits-of 255 f n (ok-found (number 255 f) _ n k), rw h k)

letters : (x : ℕ) → (x == 104 || x == 110) ≡ true → (no_tab x ≡ true) × (not (x == 35) ≡ true)
letters x h = (grind (arith, common_steps), grind (arith, common_steps))

port-letter : (x : ℕ) (xs : List ℕ) → bytes_eq (x ∷ xs) (codes "bus") ≡ false → is_port (x ∷ xs) ≡ true → (x == 104 || x == 110) ≡ true
port-letter x xs h k =
    let p : ((x == 104 || x == 110) && (is_digit (slice_index xs 0) || slice_index xs 0 == 58)) ≡ true = rw h at k in
    (and_parts (x == 104 || x == 110) (is_digit (slice_index xs 0) || slice_index xs 0 == 58) p).0

lettered : (l : Language) (x : ℕ) (xs : List ℕ) (k : ℕ → PortId) (by : PortId) → (x == 104 || x == 110) ≡ true
    → (port_number plain xs >>= (λ n. Ok (k n))) ≡ Ok by → Say ((x ∷ xs) ∷ []) (port_number l xs >>= (λ n. Ok (k n))) by
lettered l x xs k by h e =
    let p = ok-then (port_number plain xs) (λ n. Ok (k n)) by e in
    let q = port-number l xs p.0 (slice_index xs 0 == 58) refl p.1 in
    let a = letters x h in
    says (x ∷ xs) _ by (both (no_tabs (x ∷ xs)) (not (x == 35)) (both (no_tab x) (no_tabs xs) a.0 (digits-whole xs q.0.digits)) a.1) (rw q.1 p.2)

port-by : (l : Language) (f : List ℕ) (by : PortId) (t u : Bool) → bytes_eq f (codes "bus") ≡ t → (slice_index f 0 == 104) ≡ u → is_port f ≡ true
    → port plain f ≡ Ok by → Say (f ∷ []) (port l f) by
unfolding port
port-by l f by true u h k i e =
    let s : Ok Bus ≡ Ok by = rw h at e in
    says f _ by (word-field f (codes "bus") h refl) (rw h s)
port-by l [] by false u h k i e = absurd (cc)
port-by l (x ∷ xs) by false true h k i e =
    let s = lettered l x xs Host by (port-letter x xs h i) (rw (h, k) at e) in
    record { fields = s.fields; reading = rw (h, k) s.reading }
port-by l (x ∷ xs) by false false h k i e =
    let s = lettered l x xs Node by (port-letter x xs h i) (rw (h, k) at e) in
    record { fields = s.fields; reading = rw (h, k) s.reading }

port-stay : (l : Language) (f : List ℕ) → is_port f ≡ true → Stay (f ∷ []) (port plain f) (port l f)
port-stay l f i = record { say = λ by e. port-by l f by (bytes_eq f (codes "bus")) (slice_index f 0 == 104) refl refl i e }

-- ---- the forms of the steps
send-stay : (l : Language) (fs : List (List ℕ)) → Stay fs (send_form plain fs) (send_form l fs)
unfolding send_form
send-stay l (a ∷ b ∷ f ∷ fs) =
    then-stay (a ∷ []) (b ∷ f ∷ fs) (node_field plain a) (node_field l a) _ _ (node-stay l a) (λ from.
    then-stay (b ∷ []) (f ∷ fs) (node_field plain b) (node_field l b) _ _ (node-stay l b) (λ to.
    last-stay (f ∷ fs) (bytes_fields plain (f ∷ fs)) (bytes_fields l (f ∷ fs)) _ (bytes-stay l (f ∷ fs))))
send-stay l fs = bad-stay fs _ _

write-stay : (l : Language) (fs : List (List ℕ)) → Stay fs (write_form plain fs) (write_form l fs)
unfolding write_form
write-stay l (a ∷ b ∷ c ∷ []) =
    then-stay (a ∷ []) (b ∷ c ∷ []) (node_field plain a) (node_field l a) _ _ (node-stay l a) (λ by.
    then-stay (b ∷ []) (c ∷ []) (signal_field plain b) (signal_field l b) _ _ (signal-stay l b) (λ signal.
    last-stay (c ∷ []) (value_field plain c) (value_field l c) _ (value-stay l c)))
write-stay l fs = bad-stay fs _ _

hurt-stay : (l : Language) (fs : List (List ℕ)) → Stay fs (hurt_form plain fs) (hurt_form l fs)
unfolding hurt_form
hurt-stay l fs = last-stay fs (bytes_fields plain fs) (bytes_fields l fs) _ (bytes-stay l fs)

timeout-stay : (l : Language) (word : List ℕ) (fs : List (List ℕ)) → Stay fs (timeout_form plain word fs) (timeout_form l word fs)
unfolding timeout_form
timeout-stay l word (a ∷ b ∷ []) =
    then-stay (a ∷ []) (b ∷ []) (node_field plain a) (node_field l a) _ _ (node-stay l a) (λ node.
    last-stay (b ∷ []) (direction_field b) (direction_field b) _ (direction-stay b))
timeout-stay l word fs = bad-stay fs _ _

switch-stay : (l : Language) (word : List ℕ) (fs : List (List ℕ)) → Stay fs (switch_form plain word fs) (switch_form l word fs)
unfolding switch_form
switch-stay l word (a ∷ []) = last-stay (a ∷ []) (table_field plain a) (table_field l a) _ (table-stay l a)
switch-stay l word fs = bad-stay fs _ _

lone-stay : (l : Language) (step : ℕ → Step) (word : List ℕ) (fs : List (List ℕ)) → Stay fs (node_form plain step word fs) (node_form l step word fs)
unfolding node_form
lone-stay l step word (a ∷ []) = last-stay (a ∷ []) (node_field plain a) (node_field l a) _ (node-stay l a)
lone-stay l step word fs = bad-stay fs _ _

alone-stay : (step : Step) (word : List ℕ) (fs : List (List ℕ)) → Stay fs (alone step word fs) (alone step word fs)
unfolding alone
alone-stay step word [] = record { say = λ s e. record { fields = refl; reading = e } }
alone-stay step word (f ∷ fs) = bad-stay (f ∷ fs) _ _

-- a word and its form, and the forms of the other words
pick : (word name : List ℕ) (fs : List (List ℕ)) (u v x y : Result Step Reason) (t : Bool) → bytes_eq word name ≡ t → is_field name ≡ true
    → Stay fs u x → Stay (word ∷ fs) v y → Stay (word ∷ fs) (if t then u else v) (if t then x else y)
pick word name fs u v x y true h k p q = record {
  say = λ s e.
      let a = p.say s e in
      record { fields = both (is_field word) (all_fields fs) (word-field word name h k) a.fields; reading = a.reading };
}
pick word name fs u v x y false h k p q = q

form-stay : (l : Language) (word : List ℕ) (fs : List (List ℕ)) → Stay (word ∷ fs) (step_form plain word fs) (step_form l word fs)
unfolding step_form
form-stay l word fs =
    pick word (codes "send") fs _ _ _ _ (bytes_eq word (codes "send")) refl refl (send-stay l fs) (
    pick word (codes "write") fs _ _ _ _ (bytes_eq word (codes "write")) refl refl (write-stay l fs) (
    pick word (codes "open") fs _ _ _ _ (bytes_eq word (codes "open")) refl refl (alone-stay Open word fs) (
    pick word (codes "answer") fs _ _ _ _ (bytes_eq word (codes "answer")) refl refl (lone-stay l Answer word fs) (
    pick word (codes "leave") fs _ _ _ _ (bytes_eq word (codes "leave")) refl refl (lone-stay l Leave word fs) (
    pick word (codes "hurt") fs _ _ _ _ (bytes_eq word (codes "hurt")) refl refl (hurt-stay l fs) (
    pick word (codes "finish") fs _ _ _ _ (bytes_eq word (codes "finish")) refl refl (alone-stay Finish word fs) (
    pick word (codes "timeout") fs _ _ _ _ (bytes_eq word (codes "timeout")) refl refl (timeout-stay l word fs) (
    pick word (codes "switch") fs _ _ _ _ (bytes_eq word (codes "switch")) refl refl (switch-stay l word fs) (
    pick word (codes "sleep") fs _ _ _ _ (bytes_eq word (codes "sleep")) refl refl (alone-stay AskSleep word fs) (
    pick word (codes "wake") fs _ _ _ _ (bytes_eq word (codes "wake")) refl refl (alone-stay Wake word fs) (
    pick word (codes "close") fs _ _ _ _ (bytes_eq word (codes "close")) refl refl (lone-stay l Close word fs)
    (bad-stay (word ∷ fs) _ _))))))))))))

-- ---- a port, then a step
step-stay : (l : Language) (fs : List (List ℕ)) → Stay fs (step_after plain fs) (step_after l fs)
step-stay l [] = bad-stay [] _ _
step-stay l (word ∷ fs) = form-stay l word fs

port-step-stay : (l : Language) (word : List ℕ) (fs : List (List ℕ)) → is_port word ≡ true → Stay (word ∷ fs) (port_step plain word fs) (port_step l word fs)
unfolding port_step
port-step-stay l word fs i =
    then-stay (word ∷ []) fs (port plain word) (port l word) _ _ (port-stay l word i) (λ by.
    last-stay fs (step_after plain fs) (step_after l fs) _ (step-stay l fs))

fields-by : (l : Language) (word : List ℕ) (fs : List (List ℕ)) (why : Reason) (t : Bool) → is_port word ≡ t
    → Stay (word ∷ fs) (if t then port_step plain word fs >>= (λ s. Ok (Some s)) else Err why) (if t then port_step l word fs >>= (λ s. Ok (Some s)) else Err why)
fields-by l word fs why true i = last-stay (word ∷ fs) (port_step plain word fs) (port_step l word fs) _ (port-step-stay l word fs i)
fields-by l word fs why false i = bad-stay (word ∷ fs) _ _

fields-stay : (l : Language) (fs : List (List ℕ)) → Stay fs (of_fields plain fs) (of_fields l fs)
fields-stay l [] = record { say = λ o e. record { fields = refl; reading = e } }
fields-stay l (word ∷ fs) = fields-by l word fs _ (is_port word) refl

line-by : (l : Language) (line : List ℕ) (o : Option (PortId × Step)) (t : Bool) → (slice_index line 0 == 35 || slice_index line 0 == 62) ≡ t
    → line_says plain line ≡ Ok o → line_says l line ≡ Ok o
unfolding line_says
line-by l line o true h e = rw h (rw h at e)
line-by l line o false h e =
    let k : of_fields plain (fields false line) ≡ Ok o = rw h at e in
    let x = (fields-stay l (fields false line)).say o k in
    rw (h, same-fields l.free line x.fields) x.reading

pub lines-stay : LinesStay
lines-stay l line o e = line-by l line o (slice_index line 0 == 35 || slice_index line 0 == 62) refl e

-- ---- texts
texts-by : (l : Language) (n : ℕ) (line : List ℕ) (lines : List (List ℕ)) (steps : List (PortId × Step)) (r : Result (Option (PortId × Step)) Reason) (more : Steps)
    → ((ys : List (PortId × Step)) → steps_from plain (n + 1) lines ≡ Ok ys → steps_from l (n + 1) lines ≡ Ok ys)
    → line_says plain (strip_carriage_return line) ≡ r → steps_from plain (n + 1) lines ≡ more → with_said n r more ≡ Ok steps
    → steps_from l n (line ∷ lines) ≡ Ok steps
texts-by l n line lines steps (Err why) more again h k e = absurd (cc)
texts-by l n line lines steps (Ok None) more again h k e = rw (lines-stay l (strip_carriage_return line) None h) (again steps (k ∙ e))
texts-by l n line lines steps (Ok (Some s)) (Ok ys) again h k e = rw (lines-stay l (strip_carriage_return line) (Some s) h, again ys k) e
texts-by l n line lines steps (Ok (Some s)) (Err bad) again h k e = absurd (cc)

lines-from : (l : Language) (n : ℕ) (lines : List (List ℕ)) (steps : List (PortId × Step)) → steps_from plain n lines ≡ Ok steps → steps_from l n lines ≡ Ok steps
lines-from l n [] steps e = e
lines-from l n (line ∷ lines) steps e =
    texts-by l n line lines steps (line_says plain (strip_carriage_return line)) (steps_from plain (n + 1) lines) (λ ys k. lines-from l (n + 1) lines ys k) refl refl e

pub texts-stay : TextsStay
unfolding text_says
texts-stay l text steps e = lines-from l 1 (slice_split (λ b. b == 10) text) steps e
