-- A dump is read as lines, of which the last ones of each signal have the values that the core has.
use Rattle.std.proofs.Common.{◌≡◌, ◌≢◌, ℕ, zero, suc, ◌+◌, ◌-◌, ◌*◌, ◌/◌, ◌%◌, ◌^◌, ◌≤◌, ◌<◌, Bool, true, false, List, [], ◌∷◌, ◌++◌, flat_map, length, map, reverse, take, refl, sym, ap, ◌∙◌, append-nil, append_assoc, subst, arith}
use Rattle.std.specs.Prelude.{◌==◌, ◌&&◌, nat_lt, if◌then◌else◌, All, AllPairs, IsTrue, Option, Some, None, option_map, find, zip, codes}
use Rattle.std.specs.Fmt.{decimal}
use Rattle.std.specs.List.{AllZip}
use Rattle.std.specs.Option.{option_map_or, option_or, unwrap_or}
use Rattle.std.specs.Str.{bytes_eq}
use Rattle.std.proofs.lemmas.Bool.Decides.{nat_tests}
use Rattle.std.proofs.lemmas.Grind.{flat_map-append}
use Rattle.std.proofs.lemmas.List.{length-append, length-map}
use Rattle.std.proofs.lemmas.List.Elements.{All-append, All-get_or}
use Rattle.std.proofs.lemmas.Slice.Eq.{bytes_eq-Decides}
use Rattle.lin_frame.specs.Bits.{fits_place, has_good_size, unpacked_value}
use Rattle.lin_frame.specs.Words.{numbers}
use Rattle.lin_frame.specs.declared.layout.Place.{Place}
use Rattle.lin_frame.specs.declared.value.Value.{Value}
use Rattle.lin_frame.specs.declared.value.Value.TheVariants.{Bytes, Scalar}
use Rattle.lin_parts.specs.Cluster.{frame_of, nodes, signal_of}
use Rattle.lin_parts.specs.Rules.{IsCluster, IsSignalAt, is_array, place_at}
use Rattle.lin_parts.specs.declared.parts.Parts.{Parts}
use Rattle.lin_parts.specs.declared.parts.Signal.{Signal}
use Rattle.lin_parts.specs.declared.parts.SignalFrame.{SignalFrame}
use Rattle.lin_core.specs.Tables.{look_number, look_of}
use Rattle.lin_core.specs.History.{Slot, done, events, finished_slot, good, open_slot, seen_of, time}
use Rattle.lin_core.specs.Replies.{refusal, reply}
use Rattle.lin_core.specs.Runs.{entry_of, history}
use Rattle.lin_core.specs.Signals.{carried_frame, heard_value, place_in, value, value_in, written_value}
use Rattle.lin_core.specs.declared.event.Event.{Event}
use Rattle.lin_core.specs.declared.event.Event.TheVariants as event
use Rattle.lin_core.specs.declared.log.LogEntry.{LogEntry}
use Rattle.lin_core.specs.declared.port.PortId.{PortId}
use Rattle.lin_core.specs.declared.reply.Refusal.{Refusal}
use Rattle.lin_core.specs.declared.step.Step.{Step}
use Rattle.lin_core.specs.declared.step.Step.TheVariants.{Send, Write, Open, Answer, Leave, Hurt, Finish, Timeout, Switch, AskSleep, Wake, Close}
use Rattle.lin_core.proofs.kept.SignalKeeping.{write-fits}
use Rattle.lin_core.proofs.slots.ClusterFrames.{all-cons, index-past, no_frame, no_signal}
use Rattle.lin_export.specs.Dumped.{IsDigit, IsDumped, IsLine, Line, last_value, line_bytes, value_for}
use Rattle.lin_export.specs.Dumped.Line.{Change, Real, Time, Unknown}
use Rattle.lin_export.specs.Telling.{each_entry}
use Rattle.lin_export.specs.Track.{finished_slot_count}
use Rattle.lin_export.specs.Vcd.{Group, binary, code, declarations, digits, entry_changes, event_group, first_decimals, first_heard, first_physical, first_waiting, first_written, frame_changes, frame_decimals, header_change, heard_change, heard_changes, heard_group, heard_number, end_stamp, latest, number_change, physical_number, physical_change, real_change, real_value, shown_at, slot_changes, slot_groups, stamp, step_groups, text_line, timed_groups, unknown_change, waiting_change, waiting_number, waiting_count, written_change, written_number}
use Rattle.lin_export.specs.WhereTold.{where_told}
use Rattle.lin_values.specs.Coded.{CodedData, has_range}
use Rattle.lin_values.specs.Meaning.{meaning}
use Rattle.lin_export.proofs.Captures.{each-newest}
use Rattle.lin_export.proofs.Groups.{timed-append}
use Rattle.lin_export.proofs.Hosts.{HostIs, HostsAre, done-hosts}
use Rattle.lin_export.proofs.Wholes.{given}

-- == codes tell variables apart
number_in : List ℕ → ℕ
number_in [] = 0
number_in (x ∷ []) = x - 33
number_in (x ∷ y ∷ rest) = (x - 33) + 94 * (y - 32)

number-if : (k : ℕ) (b : Bool) → nat_lt k 94 ≡ b → number_in (if b then (33 + k) ∷ [] else (33 + k % 94) ∷ (32 + k / 94) ∷ []) ≡ k
unfolding number_in
number-if k true e = omega arith
number-if k false e = omega arith

code-apart : (k a : ℕ) → code k ≡ code a → k ≡ a
code-apart k a e = sym (number-if k (nat_lt k 94) refl) ∙ ap number_in e ∙ number-if a (nat_lt a 94) refl

not-true : (b : Bool) → (b ≡ true → ⊥) → b ≡ false
not-true true h = absurd (h refl)
not-true false h = refl

code-test : (k a : ℕ) (r : Bool) → (r ≡ true → k ≡ a) → (r ≡ false → k ≢ a) → bytes_eq (code k) (code a) ≡ r
code-test k a true same other = (bytes_eq-Decides (code k) (code a)).1 (ap (λ n. code n) (same refl))
code-test k a false same other = not-true (bytes_eq (code k) (code a)) (λ e. other refl (code-apart k a ((bytes_eq-Decides (code k) (code a)).0 e)))

-- == digits
abbrev AreDigits : ℕ → List ℕ → Type 0
AreDigits size value = (length value ≡ size) × All IsDigit value

digit-one : (m : ℕ) → IsDigit (48 + m % 2)
digit-one m = (omega arith, omega arith)

binary-digits : (size n : ℕ) → AreDigits size (binary size n)
binary-digits zero n = (refl, λ k d l. absurd (omega arith))
binary-digits (suc k) n = let rest = binary-digits k n in (ap suc rest.0, all-cons IsDigit (48 + n / 2 ^ k % 2) (binary k n) (digit-one (n / 2 ^ k)) rest.1)

bytes-digits : (xs : List ℕ) → AreDigits (8 * length xs) (flat_map (binary 8) xs)
bytes-digits [] = (refl, λ k d l. absurd (omega arith))
bytes-digits (x ∷ xs) =
    let one = binary-digits 8 x in
    let rest = bytes-digits xs in
    let long = length-append (binary 8 x) (flat_map (binary 8) xs) in
    let n = one.0 in
    let m = rest.0 in
    (omega arith, All-append IsDigit (binary 8 x) (flat_map (binary 8) xs) one.1 rest.1)

length-numbers : (n : ℕ) → length (numbers n) ≡ n
length-numbers zero = refl
length-numbers (suc n) = let l = length-append (numbers n) (n ∷ []) in let m = length-numbers n in omega arith

and-second : (a b : Bool) → (a && b) ≡ true → b ≡ true
and-second true b h = h
and-second false b h = cc

-- a value that fits its signal
fit-digits : (size : ℕ) (p : Place) (v : Value) → p.size ≡ size → IsTrue (fits_place p v) → AreDigits size (digits size v)
fit-digits size p (Scalar n) e h = binary-digits size n
fit-digits size p (Bytes xs) e h =
    let same : 8 * length xs ≡ p.size = grind (arith, nat_tests, and-second p.array (8 * length xs == p.size) h) in
    subst (λ (n : ℕ). AreDigits n (flat_map (binary 8) xs)) (same ∙ e) (bytes-digits xs)

-- a value in a place of its size
unpacked-if : (size : ℕ) (b : Bool) (f : ℕ → ℕ) (x : ℕ) → (b ≡ true → size % 8 ≡ 0) → AreDigits size (digits size (if b then Bytes (map f (numbers (size / 8))) else Scalar x))
unpacked-if size true f x whole =
    let e = whole refl in
    let l : length (map f (numbers (size / 8))) ≡ size / 8 = length-map (numbers (size / 8)) f ∙ length-numbers (size / 8) in
    subst (λ (n : ℕ). AreDigits n (flat_map (binary 8) (map f (numbers (size / 8))))) (omega arith) (bytes-digits (map f (numbers (size / 8))))
unpacked-if size false f x whole = binary-digits size x

array-size : (s : Signal) (b : Bool) → is_array s.initial ≡ b → IsTrue (has_good_size (place_at 0 s)) → b ≡ true → s.size % 8 ≡ 0
array-size s true e h t = grind (arith, nat_tests, e, h)
array-size s false e h t = cc

signal-size : (c : Parts) (s : ℕ) → IsCluster c → s < length c.signals → is_array (signal_of c s).initial ≡ true → (signal_of c s).size % 8 ≡ 0
signal-size c s rules l = array-size (signal_of c s) (is_array (signal_of c s).initial) refl (All-get_or (λ (x : Signal). IsTrue (has_good_size (place_at 0 x))) c.signals s no_signal l rules.signals.sizes)

place-digits : (c : Parts) (rules : IsCluster c) (publisher : ℕ) (p : Place) (s : ℕ) (bytes : List ℕ) → IsSignalAt c publisher p s → AreDigits (signal_of c s).size (digits (signal_of c s).size (unpacked_value p bytes))
place-digits c rules publisher p s bytes i =
    subst (λ (q : Place). AreDigits (signal_of c s).size (digits (signal_of c s).size (unpacked_value q bytes))) (sym i.place)
    (unpacked-if (signal_of c s).size (is_array (signal_of c s).initial) _ _ (signal-size c s rules i.declared))

initial-digits : (c : Parts) (s : ℕ) → IsCluster c → s < length c.signals → AreDigits (signal_of c s).size (digits (signal_of c s).size (signal_of c s).initial)
initial-digits c s rules l =
    fit-digits (signal_of c s).size (place_at 0 (signal_of c s)) (signal_of c s).initial refl
    (All-get_or (λ (x : Signal). IsTrue (fits_place (place_at 0 x) x.initial)) c.signals s no_signal l rules.signals.initials)

-- == lines, by the values that they give to the signals
or-none : {X : Type 0} (o : Option X) → option_or o None ≡ o
or-none None = refl
or-none (Some x) = refl

or-or : {X : Type 0} (a b d : Option X) → option_or (option_or a b) d ≡ option_or a (option_or b d)
or-or None b d = refl
or-or (Some x) b d = refl

last-append : (code : List ℕ) (ks ls : List Line) → last_value code (ks ++ ls) ≡ option_or (last_value code ls) (last_value code ks)
last-append code [] ls = sym (or-none (last_value code ls))
last-append code (k ∷ ks) ls =
    ap (λ (o : Option (List ℕ)). option_or o (value_for code k)) (last-append code ks ls) ∙ or-or (last_value code ls) (last_value code ks) (value_for code k)

-- a signal has a variable of each kind: as it is heard, as it is written, and where it has a range as a decimal
data Kind : Type 0 where
  AsHeard : Kind
  AsWritten : Kind
  AsDecimal : Kind

abbrev same_kind : Kind → Kind → Bool
same_kind AsHeard AsHeard = true
same_kind AsWritten AsWritten = true
same_kind AsDecimal AsDecimal = true
same_kind a b = false

abbrev number : Parts → Kind → ℕ → ℕ
number c AsHeard s = heard_number s
number c AsWritten s = written_number c s
number c AsDecimal s = physical_number c s

abbrev is_ranged : Option CodedData → ℕ → Bool
is_ranged k s = option_map_or (λ d. has_range d s) k false

abbrev IsThere : Parts → Option CodedData → Kind → ℕ → Type 0
IsThere c k AsHeard s = s < length c.signals
IsThere c k AsWritten s = s < length c.signals
IsThere c k AsDecimal s = (s < length c.signals) × (is_ranged k s ≡ true)

-- the text of a value in it
abbrev decimal_word : Option CodedData → ℕ → Value → List ℕ
decimal_word None s v = []
decimal_word (Some d) s v = real_value (meaning d s v)

abbrev word : Parts → Option CodedData → Kind → ℕ → Value → List ℕ
word c k AsHeard s v = digits (signal_of c s).size v
word c k AsWritten s v = digits (signal_of c s).size v
word c k AsDecimal s v = decimal_word k s v

there-below : (c : Parts) (k : Option CodedData) (t : Kind) (s : ℕ) → IsThere c k t s → s < length c.signals
there-below c k AsHeard s l = l
there-below c k AsWritten s l = l
there-below c k AsDecimal s l = l.0

abbrev Gives : Type 0
Gives = Kind → ℕ → Option Value

abbrev none : Gives
none t s = None

abbrev shown : Parts → Option CodedData → Kind → ℕ → Option Value → Option (List ℕ)
shown c k t s o = option_map (word c k t s) o

-- lines that give these values
record Told (c : Parts) (k : Option CodedData) (g : Gives) (bytes : List ℕ) : Type 0 where
  lines : List Line
  same : bytes ≡ flat_map line_bytes lines
  good : All IsLine lines
  last : (t : Kind) (s : ℕ) → IsThere c k t s → last_value (code (number c t s)) lines ≡ shown c k t s (g t s)

shown-or : {X Y : Type 0} (f : X → Y) (a b : Option X) → option_or (option_map f a) (option_map f b) ≡ option_map f (option_or a b)
shown-or f None b = refl
shown-or f (Some v) b = refl

last-both : (f : Value → List ℕ) (code : List ℕ) (ks ls : List Line) (a b o : Option Value) → last_value code ks ≡ option_map f a → last_value code ls ≡ option_map f b → option_or b a ≡ o
    → last_value code (ks ++ ls) ≡ option_map f o
last-both f code ks ls a b o k l e =
    last-append code ks ls ∙ ap (λ (x : Option (List ℕ)). option_or x (last_value code ks)) l ∙ ap (λ (x : Option (List ℕ)). option_or (option_map f b) x) k
    ∙ shown-or f b a ∙ ap (λ (x : Option Value). option_map f x) e

told-more : (c : Parts) (k : Option CodedData) (g h r : Gives) (bytes more : List ℕ) → Told c k g bytes → Told c k h more
    → ((t : Kind) (s : ℕ) → IsThere c k t s → option_or (h t s) (g t s) ≡ r t s) → Told c k r (bytes ++ more)
told-more c k g h r bytes more a b e = record {
  lines = a.lines ++ b.lines;
  same = ap (λ l. l ++ more) a.same ∙ ap (λ l. flat_map line_bytes a.lines ++ l) b.same ∙ sym (flat_map-append line_bytes a.lines b.lines);
  good = All-append IsLine a.lines b.lines a.good b.good;
  last = λ t s l. last-both (word c k t s) (code (number c t s)) a.lines b.lines (g t s) (h t s) (r t s) (a.last t s l) (b.last t s l) (e t s l);
}

quiet-first : (c : Parts) (k : Option CodedData) (g : Gives) (bytes more : List ℕ) → Told c k none bytes → Told c k g more → Told c k g (bytes ++ more)
quiet-first c k g bytes more a b = told-more c k none g g bytes more a b (λ t s l. or-none (g t s))

quiet-last : (c : Parts) (k : Option CodedData) (g : Gives) (bytes more : List ℕ) → Told c k g bytes → Told c k none more → Told c k g (bytes ++ more)
quiet-last c k g bytes more a b = told-more c k g none g bytes more a b (λ t s l. refl)

quiet-nothing : (c : Parts) (k : Option CodedData) → Told c k none []
quiet-nothing c k = record { lines = []; same = refl; good = λ i d l. absurd (omega arith); last = λ t s l. refl }

told-as : (c : Parts) (k : Option CodedData) (g h : Gives) (bytes : List ℕ) → Told c k g bytes → ((t : Kind) (s : ℕ) → IsThere c k t s → g t s ≡ h t s) → Told c k h bytes
told-as c k g h bytes a e = record {
  lines = a.lines;
  same = a.same;
  good = a.good;
  last = λ t s l. a.last t s l ∙ ap (λ (o : Option Value). shown c k t s o) (e t s l);
}

line-told : (c : Parts) (k : Option CodedData) (g : Gives) (l : Line) → IsLine l → ((t : Kind) (s : ℕ) → IsThere c k t s → value_for (code (number c t s)) l ≡ shown c k t s (g t s))
    → Told c k g (line_bytes l)
line-told c k g l i says = record { lines = l ∷ []; same = sym (append-nil (line_bytes l)); good = all-cons IsLine l [] i (λ j d b. absurd (omega arith)); last = says }

-- a variable that is no signal's
abbrev IsOther : Parts → ℕ → Type 0
IsOther c n = (t : Kind) (s : ℕ) → s < length c.signals → n ≢ number c t s

other-code : (n a : ℕ) → n ≢ a → bytes_eq (code n) (code a) ≡ false
other-code n a h = code-test n a false (λ e. cc) (λ e. h)

if-false : {X : Type 0} (b : Bool) (x y : X) → b ≡ false → (if b then x else y) ≡ y
if-false true x y e = cc
if-false false x y e = refl

quiet-change : (c : Parts) (k : Option CodedData) (width n m : ℕ) → IsOther c n → Told c k none (number_change width n m)
quiet-change c k width n m other =
    line-told c k none (Change width (code n) (binary width m)) (binary-digits width m)
    (λ t s l. if-false (bytes_eq (code n) (code (number c t s))) (Some (binary width m)) None (other-code n (number c t s) (other t s (there-below c k t s l))))

quiet-unknown : (c : Parts) (k : Option CodedData) (n : ℕ) → IsOther c n → Told c k none (unknown_change n)
quiet-unknown c k n other =
    line-told c k none (Unknown (code n)) tt
    (λ t s l. if-false (bytes_eq (code n) (code (number c t s))) (Some (codes "x")) None (other-code n (number c t s) (other t s (there-below c k t s l))))

bus-other : (c : Parts) (n : ℕ) → n < 6 → IsOther c n
bus-other c n h AsHeard s l = λ e. omega arith
bus-other c n h AsWritten s l = λ e. omega arith
bus-other c n h AsDecimal s l = λ e. omega arith

waiting-other : (c : Parts) (h : ℕ) → h < nodes c → IsOther c (waiting_number c h)
waiting-other c h b AsHeard s l = λ e. omega arith
waiting-other c h b AsWritten s l = λ e. omega arith
waiting-other c h b AsDecimal s l = λ e. omega arith

-- values in variables of one kind, and of one signal
abbrev at_kind : Kind → (ℕ → Option Value) → Gives
at_kind u f t s = if same_kind u t then f s else None

abbrev just : ℕ → Value → ℕ → Option Value
just x v s = if x == s then Some v else None

abbrev only : Kind → ℕ → Value → Gives
only u x v = at_kind u (just x v)

just-shown : (f : ℕ → Value → List ℕ) (x s : ℕ) (v : Value) (b r : Bool) → (x == s) ≡ b → r ≡ b → (if r then Some (f x v) else None) ≡ option_map (f s) (if b then Some v else None)
just-shown f x s v true r e h = let same : x ≡ s = grind (arith, nat_tests, e) in rw h (ap (λ (n : ℕ). Some (f n v)) same)
just-shown f x s v false r e h = rw h refl

same-of : (x s : ℕ) → (x == s) ≡ true → x ≡ s
same-of x s e = grind (arith, nat_tests, e)

apart-of : (x s : ℕ) → (x == s) ≡ false → x ≢ s
apart-of x s e = λ h. let k : ⊥ = grind (arith, nat_tests, e, h) in k

number-test : (c : Parts) (t : Kind) (x s : ℕ) → bytes_eq (code (number c t x)) (code (number c t s)) ≡ (x == s)
number-test c AsHeard x s = code-test (heard_number x) (heard_number s) (x == s) (λ e. ap heard_number (same-of x s e)) (λ e. let far = apart-of x s e in λ h. far (omega arith))
number-test c AsWritten x s = code-test (written_number c x) (written_number c s) (x == s) (λ e. ap (written_number c) (same-of x s e)) (λ e. let far = apart-of x s e in λ h. far (omega arith))
number-test c AsDecimal x s = code-test (physical_number c x) (physical_number c s) (x == s) (λ e. ap (physical_number c) (same-of x s e)) (λ e. let far = apart-of x s e in λ h. far (omega arith))

heard-line : (c : Parts) (k : Option CodedData) (x : ℕ) (v : Value) → x < length c.signals → (t : Kind) (s : ℕ) → IsThere c k t s
    → (if bytes_eq (code (heard_number x)) (code (number c t s)) then Some (digits (signal_of c x).size v) else None) ≡ shown c k t s (only AsHeard x v t s)
heard-line c k x v there AsHeard s l = just-shown (λ n. digits (signal_of c n).size) x s v (x == s) (bytes_eq (code (heard_number x)) (code (heard_number s))) refl (number-test c AsHeard x s)
heard-line c k x v there AsWritten s l = if-false (bytes_eq (code (heard_number x)) (code (written_number c s))) _ None (other-code (heard_number x) (written_number c s) (λ h. omega arith))
heard-line c k x v there AsDecimal s l = if-false (bytes_eq (code (heard_number x)) (code (physical_number c s))) _ None (other-code (heard_number x) (physical_number c s) (λ h. omega arith))

heard-told : (c : Parts) (k : Option CodedData) (x : ℕ) (v : Value) → x < length c.signals → AreDigits (signal_of c x).size (digits (signal_of c x).size v)
    → Told c k (only AsHeard x v) (heard_change c x v)
heard-told c k x v there d = line-told c k (only AsHeard x v) (Change (signal_of c x).size (code (heard_number x)) (digits (signal_of c x).size v)) d (heard-line c k x v there)

written-line : (c : Parts) (k : Option CodedData) (x : ℕ) (v : Value) → x < length c.signals → (t : Kind) (s : ℕ) → IsThere c k t s
    → (if bytes_eq (code (written_number c x)) (code (number c t s)) then Some (digits (signal_of c x).size v) else None) ≡ shown c k t s (only AsWritten x v t s)
written-line c k x v there AsHeard s l = if-false (bytes_eq (code (written_number c x)) (code (heard_number s))) _ None (other-code (written_number c x) (heard_number s) (λ h. omega arith))
written-line c k x v there AsWritten s l =
    just-shown (λ n. digits (signal_of c n).size) x s v (x == s) (bytes_eq (code (written_number c x)) (code (written_number c s))) refl (number-test c AsWritten x s)
written-line c k x v there AsDecimal s l =
    if-false (bytes_eq (code (written_number c x)) (code (physical_number c s))) _ None (other-code (written_number c x) (physical_number c s) (λ h. omega arith))

written-told : (c : Parts) (k : Option CodedData) (x : ℕ) (v : Value) → x < length c.signals → AreDigits (signal_of c x).size (digits (signal_of c x).size v)
    → Told c k (only AsWritten x v) (written_change c x v)
written-told c k x v there d = line-told c k (only AsWritten x v) (Change (signal_of c x).size (code (written_number c x)) (digits (signal_of c x).size v)) d (written-line c k x v there)

-- a decimal of a signal that has a range, and nothing of another
decimal-line : (c : Parts) (d : CodedData) (x : ℕ) (v : Value) → x < length c.signals → (t : Kind) (s : ℕ) → IsThere c (Some d) t s
    → (if bytes_eq (code (physical_number c x)) (code (number c t s)) then Some (decimal_word (Some d) x v) else None) ≡ shown c (Some d) t s (only AsDecimal x v t s)
decimal-line c d x v there AsHeard s l = if-false (bytes_eq (code (physical_number c x)) (code (heard_number s))) _ None (other-code (physical_number c x) (heard_number s) (λ h. omega arith))
decimal-line c d x v there AsWritten s l =
    if-false (bytes_eq (code (physical_number c x)) (code (written_number c s))) _ None (other-code (physical_number c x) (written_number c s) (λ h. omega arith))
decimal-line c d x v there AsDecimal s l = just-shown (decimal_word (Some d)) x s v (x == s) (bytes_eq (code (physical_number c x)) (code (physical_number c s))) refl (number-test c AsDecimal x s)

not-ranged : (d : CodedData) (x s : ℕ) (f : Value → List ℕ) (v : Value) (b : Bool) → (x == s) ≡ b → has_range d x ≡ false → has_range d s ≡ true → None ≡ option_map f (if b then Some v else None)
not-ranged d x s f v true e lacks has = let same : x ≡ s = same-of x s e in absurd (let k : false ≡ true = sym lacks ∙ ap (has_range d) same ∙ has in cc)
not-ranged d x s f v false e lacks has = refl

no-line : (c : Parts) (d : CodedData) (x : ℕ) (v : Value) → has_range d x ≡ false → (t : Kind) (s : ℕ) → IsThere c (Some d) t s → None ≡ shown c (Some d) t s (only AsDecimal x v t s)
no-line c d x v lacks AsHeard s l = refl
no-line c d x v lacks AsWritten s l = refl
no-line c d x v lacks AsDecimal s l = not-ranged d x s (decimal_word (Some d) s) v (x == s) refl lacks l.1

decimal-by : (c : Parts) (d : CodedData) (x : ℕ) (v : Value) (b : Bool) → has_range d x ≡ b → x < length c.signals
    → Told c (Some d) (only AsDecimal x v) (if b then real_change (physical_number c x) (meaning d x v) else [])
decimal-by c d x v true e there = line-told c (Some d) (only AsDecimal x v) (Real (code (physical_number c x)) (decimal_word (Some d) x v)) tt (decimal-line c d x v there)
decimal-by c d x v false e there = record { lines = []; same = refl; good = λ i y l. absurd (omega arith); last = no-line c d x v e }

decimal-told : (c : Parts) (d : CodedData) (x : ℕ) (v : Value) → x < length c.signals → Told c (Some d) (only AsDecimal x v) (physical_change c d x v)
decimal-told c d x v there = decimal-by c d x v (has_range d x) refl there

-- == the signals of a frame
abbrev value_at_place : List ℕ → List (ℕ × Place) → ℕ → Option Value
value_at_place bytes zs s = option_map (λ (p : Place). unpacked_value p (take 8 bytes)) (option_map (λ (z : ℕ × Place). z.1) (find (λ (z : ℕ × Place). z.0 == s) zs))

no-place : (bytes : List ℕ) (s : ℕ) (ss : List ℕ) (ps : List Place) → All (λ y. s ≢ y) ss → value_at_place bytes (zip ss ps) s ≡ None
no-place bytes s [] ps h = refl
no-place bytes s (x ∷ ss) [] h = refl
no-place bytes s (x ∷ ss) (p ∷ ps) h =
    let apart : s ≢ x = h 0 x (omega arith) in
    let test : (x == s) ≡ false = not-true (x == s) (λ e. apart (sym (same-of x s e))) in
    rw test (no-place bytes s ss ps (λ k d l. h (suc k) d (omega arith)))

first-place : (bytes : List ℕ) (x s : ℕ) (p : Place) (ss : List ℕ) (ps : List Place) (b : Bool) → (x == s) ≡ b → All (λ y. x ≢ y) ss
    → option_or (value_at_place bytes (zip ss ps) s) (if b then Some (unpacked_value p (take 8 bytes)) else None)
    ≡ option_map (λ (q : Place). unpacked_value q (take 8 bytes)) (option_map (λ (z : ℕ × Place). z.1) (if b then Some (x, p) else find (λ (z : ℕ × Place). z.0 == s) (zip ss ps)))
first-place bytes x s p ss ps true e h =
    ap (λ (o : Option Value). option_or o (Some (unpacked_value p (take 8 bytes)))) (no-place bytes s ss ps (subst (λ (n : ℕ). All (λ y. n ≢ y) ss) (same-of x s e) h))
first-place bytes x s p ss ps false e h = or-none (value_at_place bytes (zip ss ps) s)

at-more : (b : Bool) (x y z : Option Value) → option_or x y ≡ z → option_or (if b then x else None) (if b then y else None) ≡ (if b then z else None)
at-more true x y z e = e
at-more false x y z e = refl

none-at : (b : Bool) (o : Option Value) → o ≡ None → None ≡ (if b then o else None)
none-at true o e = sym e
none-at false o e = refl

abbrev at_place : (ℕ → Value → List ℕ) → List ℕ → ℕ × Place → List ℕ
at_place says bytes p = says p.0 (unpacked_value p.1 (take 8 bytes))

nothing-at : (c : Parts) (k : Option CodedData) (u : Kind) (bytes : List ℕ) → Told c k (at_kind u (value_at_place bytes [])) []
nothing-at c k u bytes = told-as c k none (at_kind u (value_at_place bytes [])) [] (quiet-nothing c k) (λ t s l. none-at (same_kind u t) None refl)

-- what is said of each place tells its value
abbrev Tells : Parts → Option CodedData → Kind → List ℕ → (ℕ → Value → List ℕ) → ℕ → Type 0
Tells c k u bytes says publisher = (x : ℕ) (p : Place) → IsSignalAt c publisher p x → Told c k (only u x (unpacked_value p (take 8 bytes))) (says x (unpacked_value p (take 8 bytes)))

places-told : (c : Parts) (k : Option CodedData) (u : Kind) (publisher : ℕ) (bytes : List ℕ) (says : ℕ → Value → List ℕ) → Tells c k u bytes says publisher → (ss : List ℕ) (ps : List Place)
    → AllZip (IsSignalAt c publisher) ps ss → AllPairs ◌≢◌ ss → Told c k (at_kind u (value_at_place bytes (zip ss ps))) (flat_map (at_place says bytes) (zip ss ps))
places-told c k u publisher bytes says tells [] ps z apart = nothing-at c k u bytes
places-told c k u publisher bytes says tells (x ∷ ss) [] z apart = absurd z
places-told c k u publisher bytes says tells (x ∷ ss) (p ∷ ps) z apart =
    told-more c k (only u x (unpacked_value p (take 8 bytes))) (at_kind u (value_at_place bytes (zip ss ps))) (at_kind u (value_at_place bytes ((x, p) ∷ zip ss ps)))
    (says x (unpacked_value p (take 8 bytes))) (flat_map (at_place says bytes) (zip ss ps)) (tells x p z.0)
    (places-told c k u publisher bytes says tells ss ps z.1 (λ i j d lt within. apart (suc i) (suc j) d (omega arith) (omega arith)))
    (λ t s l. at-more (same_kind u t) _ _ _ (first-place bytes x s p ss ps (x == s) refl (λ i d lt. apart 0 (suc i) d (omega arith) (omega arith))))

frame-if : (c : Parts) (k : Option CodedData) (rules : IsCluster c) (u : Kind) (bytes : List ℕ) (says : ℕ → Value → List ℕ) → ((publisher : ℕ) → Tells c k u bytes says publisher) → (f : ℕ) (b : Bool)
    → nat_lt f (length c.frames) ≡ b
    → Told c k (at_kind u (value_at_place bytes (zip (frame_of c f).signals (frame_of c f).layout.places))) (flat_map (at_place says bytes) (zip (frame_of c f).signals (frame_of c f).layout.places))
frame-if c k rules u bytes says tells f true e =
    let l : f < length c.frames = grind (arith, nat_tests, e) in
    places-told c k u (frame_of c f).publisher bytes says (tells (frame_of c f).publisher) (frame_of c f).signals (frame_of c f).layout.places
    (All-get_or (λ (x : SignalFrame). AllZip (IsSignalAt c x.publisher) x.layout.places x.signals) c.frames f no_frame l rules.frames.signals)
    (All-get_or (λ (x : SignalFrame). AllPairs ◌≢◌ x.signals) c.frames f no_frame l rules.frames.signals_once)
frame-if c k rules u bytes says tells f false e =
    let far : length c.frames ≤ f = grind (arith, nat_tests, e) in
    let is : frame_of c f ≡ no_frame = index-past c.frames f no_frame far in
    subst (λ (x : SignalFrame). Told c k (at_kind u (value_at_place bytes (zip x.signals x.layout.places))) (flat_map (at_place says bytes) (zip x.signals x.layout.places))) (sym is)
    (nothing-at c k u bytes)

heard-tells : (c : Parts) (k : Option CodedData) (rules : IsCluster c) (bytes : List ℕ) (publisher : ℕ) → Tells c k AsHeard bytes (heard_change c) publisher
heard-tells c k rules bytes publisher = λ x p i. heard-told c k x (unpacked_value p (take 8 bytes)) i.declared (place-digits c rules publisher p x (take 8 bytes) i)

decimal-tells : (c : Parts) (d : CodedData) (bytes : List ℕ) (publisher : ℕ) → Tells c (Some d) AsDecimal bytes (physical_change c d) publisher
decimal-tells c d bytes publisher = λ x p i. decimal-told c d x (unpacked_value p (take 8 bytes)) i.declared

-- values that are heard, and those that are written
abbrev both : (ℕ → Option Value) → (ℕ → Option Value) → Gives
both h w AsHeard s = h s
both h w AsWritten s = w s
both h w AsDecimal s = h s

abbrev nothing : ℕ → Option Value
nothing s = None

only-heard : (c : Parts) (f : ℕ → Option Value) (t : Kind) (s : ℕ) → IsThere c None t s → at_kind AsHeard f t s ≡ both f nothing t s
only-heard c f AsHeard s l = refl
only-heard c f AsWritten s l = refl
only-heard c f AsDecimal s l = absurd (let e : false ≡ true = l.1 in cc)

with-decimals : (f : ℕ → Option Value) (t : Kind) (s : ℕ) → option_or (at_kind AsDecimal f t s) (at_kind AsHeard f t s) ≡ both f nothing t s
with-decimals f AsHeard s = refl
with-decimals f AsWritten s = refl
with-decimals f AsDecimal s = or-none (f s)

changes-told : (c : Parts) (k : Option CodedData) (rules : IsCluster c) (f : ℕ) (bytes : List ℕ)
    → Told c k (both (value_at_place bytes (zip (frame_of c f).signals (frame_of c f).layout.places)) nothing) (heard_changes c k bytes f)
changes-told c None rules f bytes =
    let values = value_at_place bytes (zip (frame_of c f).signals (frame_of c f).layout.places) in
    told-as c None (at_kind AsHeard values) (both values nothing) (frame_changes c f bytes ++ [])
    (quiet-last c None (at_kind AsHeard values) (frame_changes c f bytes) [] (frame-if c None rules AsHeard bytes (heard_change c) (heard-tells c None rules bytes) f (nat_lt f (length c.frames)) refl)
    (quiet-nothing c None))
    (only-heard c values)
changes-told c (Some d) rules f bytes =
    let values = value_at_place bytes (zip (frame_of c f).signals (frame_of c f).layout.places) in
    told-more c (Some d) (at_kind AsHeard values) (at_kind AsDecimal values) (both values nothing) (frame_changes c f bytes) (frame_decimals c bytes f d)
    (frame-if c (Some d) rules AsHeard bytes (heard_change c) (heard-tells c (Some d) rules bytes) f (nat_lt f (length c.frames)) refl)
    (frame-if c (Some d) rules AsDecimal bytes (physical_change c d) (decimal-tells c d bytes) f (nat_lt f (length c.frames)) refl) (λ t s l. with-decimals values t s)

-- == groups
abbrev GroupsTold : Parts → Option CodedData → Gives → List Group → Type 0
GroupsTold c k g gs = (last : ℕ) → Told c k g (timed_groups last gs)

quiet-if : (c : Parts) (k : Option CodedData) (at : ℕ) (b : Bool) → Told c k none (if b then 35 ∷ (decimal at ++ 10 ∷ []) else [])
quiet-if c k at true = line-told c k none (Time at) tt (λ t s l. refl)
quiet-if c k at false = quiet-nothing c k

quiet-stamp : (c : Parts) (k : Option CodedData) (last at : ℕ) → Told c k none (stamp last at)
quiet-stamp c k last at = quiet-if c k at (nat_lt last at)

group-told : (c : Parts) (k : Option CodedData) (g : Gives) (at : ℕ) (changes : List ℕ) → Told c k g changes → GroupsTold c k g (record { at = at; changes = changes } ∷ [])
group-told c k g at changes a = λ last. quiet-first c k g (stamp last at) (changes ++ []) (quiet-stamp c k last at) (quiet-last c k g changes [] a (quiet-nothing c k))

quiet-groups : (c : Parts) (k : Option CodedData) → GroupsTold c k none []
quiet-groups c k = λ last. quiet-nothing c k

groups-first : (c : Parts) (k : Option CodedData) (g : Gives) (gs hs : List Group) → GroupsTold c k none gs → GroupsTold c k g hs → GroupsTold c k g (gs ++ hs)
groups-first c k g gs hs a b = λ last. rw (timed-append last gs hs) (quiet-first c k g (timed_groups last gs) (timed_groups (latest last gs) hs) (a last) (b (latest last gs)))

groups-last : (c : Parts) (k : Option CodedData) (g : Gives) (gs hs : List Group) → GroupsTold c k g gs → GroupsTold c k none hs → GroupsTold c k g (gs ++ hs)
groups-last c k g gs hs a b = λ last. rw (timed-append last gs hs) (quiet-last c k g (timed_groups last gs) (timed_groups (latest last gs) hs) (a last) (b (latest last gs)))

-- what events change
count-told : (c : Parts) (k : Option CodedData) (at host n : ℕ) → host < nodes c → GroupsTold c k none (record { at = at; changes = waiting_change c host n } ∷ [])
count-told c k at host n l = group-told c k none at (waiting_change c host n) (quiet-change c k 11 _ n (waiting-other c host l))

event-told : (c : Parts) (k : Option CodedData) (at : ℕ) (count : ℕ → ℕ) (e : Event) → HostIs c e → GroupsTold c k none (event_group c at count e)
event-told c k at count (event.Accepted host number) l = count-told c k at host (count host) l
event-told c k at count (event.Sent host number) l = count-told c k at host (count host) l
event-told c k at count (event.Lost host number why) l = count-told c k at host (count host) l
event-told c k at count event.Asleep l = group-told c k none at (number_change 1 5 1) (quiet-change c k 1 5 1 (bus-other c 5 (omega arith)))
event-told c k at count (event.Slot table entry header) l = quiet-groups c k
event-told c k at count event.Service l = quiet-groups c k
event-told c k at count (event.Due node) l = quiet-groups c k
event-told c k at count (event.Put node answer) l = quiet-groups c k
event-told c k at count (event.Seen how) l = quiet-groups c k
event-told c k at count (event.Message from to message) l = quiet-groups c k

events-told : (c : Parts) (k : Option CodedData) (at : ℕ) (count : ℕ → ℕ) (es : List Event) → HostsAre c es → GroupsTold c k none (flat_map (event_group c at count) es)
events-told c k at count [] l = quiet-groups c k
events-told c k at count (e ∷ es) l = groups-first c k none (event_group c at count e) (flat_map (event_group c at count) es) (event-told c k at count e l.0) (events-told c k at count es l.1)

-- what a slot changes
header-told : (c : Parts) (k : Option CodedData) (header : Option ℕ) → Told c k none (header_change header)
header-told c k None = quiet-unknown c k 3 (bus-other c 3 (omega arith))
header-told c k (Some h) = quiet-change c k 8 3 h (bus-other c 3 (omega arith))

bus-told : (c : Parts) (k : Option CodedData) (width n m : ℕ) (more : List ℕ) → n < 6 → Told c k none more → Told c k none (number_change width n m ++ more)
bus-told c k width n m more l a = quiet-first c k none (number_change width n m) more (quiet-change c k width n m (bus-other c n l)) a

slot-told : (c : Parts) (k : Option CodedData) (number : ℕ) (s : Slot) → Told c k none (slot_changes number s)
slot-told c k number s =
    bus-told c k 32 0 number _ (omega arith)
    (bus-told c k 16 1 s.table _ (omega arith)
    (bus-told c k 16 2 s.entry _ (omega arith)
    (quiet-first c k none (header_change s.header) (number_change 4 4 (look_number (look_of (seen_of s)))) (header-told c k s.header)
    (quiet-change c k 4 4 (look_number (look_of (seen_of s))) (bus-other c 4 (omega arith))))))

both-nothing : (t : Kind) (s : ℕ) → None ≡ both nothing nothing t s
both-nothing AsHeard s = refl
both-nothing AsWritten s = refl
both-nothing AsDecimal s = refl

groups-as : (c : Parts) (k : Option CodedData) (g h : Gives) (gs : List Group) → GroupsTold c k g gs → ((t : Kind) (s : ℕ) → IsThere c k t s → g t s ≡ h t s) → GroupsTold c k h gs
groups-as c k g h gs a e = λ last. told-as c k g h (timed_groups last gs) (a last) e

nothing-told : (c : Parts) (k : Option CodedData) (gs : List Group) → GroupsTold c k none gs → GroupsTold c k (both nothing nothing) gs
nothing-told c k gs a = groups-as c k none (both nothing nothing) gs a (λ t s l. both-nothing t s)

carried-told : (c : Parts) (k : Option CodedData) (rules : IsCluster c) (end : ℕ) (bytes : List ℕ) (o : Option ℕ)
    → GroupsTold c k (both (λ s. option_map_or (λ f. option_map (λ (p : Place). unpacked_value p (take 8 bytes)) (place_in (frame_of c f) s)) o None) nothing)
    (option_map_or (λ f. record { at = end; changes = heard_changes c k bytes f } ∷ []) o [])
carried-told c k rules end bytes None = nothing-told c k [] (quiet-groups c k)
carried-told c k rules end bytes (Some f) = group-told c k _ end (heard_changes c k bytes f) (changes-told c k rules f bytes)

good-told : (c : Parts) (k : Option CodedData) (rules : IsCluster c) (end : ℕ) (o : Slot) (g : Option (List ℕ))
    → GroupsTold c k
    (both (λ s. option_map_or (λ bytes. option_map_or (λ f. option_map (λ (p : Place). unpacked_value p (take 8 bytes)) (place_in (frame_of c f) s)) (carried_frame c o) None) g None) nothing)
    (option_map_or (λ bytes. option_map_or (λ f. record { at = end; changes = heard_changes c k bytes f } ∷ []) (carried_frame c o) []) g [])
good-told c k rules end o None = nothing-told c k [] (quiet-groups c k)
good-told c k rules end o (Some bytes) = carried-told c k rules end bytes (carried_frame c o)

finish-told : (c : Parts) (k : Option CodedData) (rules : IsCluster c) (number at end : ℕ) (o : Option Slot)
    → GroupsTold c k (both (λ s. option_map_or (λ (x : Slot). value_in c x s) o None) nothing) (option_map_or (slot_groups c k number at end) o [])
finish-told c k rules number at end None = nothing-told c k [] (quiet-groups c k)
finish-told c k rules number at end (Some o) =
    groups-first c k _ (record { at = at; changes = slot_changes number o } ∷ []) (heard_group c k end o) (group-told c k none at (slot_changes number o) (slot-told c k number o))
    (good-told c k rules end o (good o))

as-written : (f : ℕ → Option Value) (t : Kind) (s : ℕ) → at_kind AsWritten f t s ≡ both nothing f t s
as-written f AsHeard s = refl
as-written f AsWritten s = refl
as-written f AsDecimal s = refl

write-told : (c : Parts) (k : Option CodedData) (at signal : ℕ) (v : Value) (b : Bool) → b ≡ true → (signal < length c.signals) × IsTrue (fits_place (place_at 0 (signal_of c signal)) v)
    → GroupsTold c k (both nothing (just signal v)) (if b then record { at = at; changes = written_change c signal v } ∷ [] else [])
write-told c k at signal v true e h =
    groups-as c k (only AsWritten signal v) (both nothing (just signal v)) (record { at = at; changes = written_change c signal v } ∷ [])
    (group-told c k (only AsWritten signal v) at (written_change c signal v)
    (written-told c k signal v h.0 (fit-digits (signal_of c signal).size (place_at 0 (signal_of c signal)) v refl h.1)))
    (λ t s l. as-written (just signal v) t s)
write-told c k at signal v false e h = cc

-- == what an entry changes
abbrev heard_now : Parts → LogEntry → List LogEntry → ℕ → Option Value
heard_now c e past s = option_map_or (λ (o : Slot). value_in c o s) (finished_slot e past) None

abbrev written_now : LogEntry → ℕ → Option Value
written_now e s = option_map_or (written_value s) (done e) None

-- the groups of the step itself
abbrev own_groups : Parts → Option CodedData → LogEntry → List LogEntry → List Group
own_groups c k e past = option_map_or (step_groups c k past (time c (e ∷ past))) (done e) []

step-told : (c : Parts) (k : Option CodedData) (rules : IsCluster c) (opening capacity : ℕ) (past : List LogEntry) (port : PortId) (step : Step) (r : Option Refusal)
    → refusal c capacity past port step ≡ r
    → let e : LogEntry = record { port = port; step = step; reply = given c opening past port step r }
    in GroupsTold c k (both (heard_now c e past) (written_now e)) (own_groups c k e past)
step-told c k rules o n past port step (Some r) is = nothing-told c k [] (quiet-groups c k)
step-told c k rules o n past port (Send from to message) None is = nothing-told c k [] (quiet-groups c k)
step-told c k rules o n past port (Write by signal v) None is =
    let h = write-fits c n past port by signal v is in
    let there = h.0 in
    write-told c k (time c past) signal v (nat_lt signal (length c.signals)) (grind (arith, nat_tests, there)) h
step-told c k rules o n past port Open None is = nothing-told c k [] (quiet-groups c k)
step-told c k rules o n past port (Answer node) None is = nothing-told c k [] (quiet-groups c k)
step-told c k rules o n past port (Leave node) None is = nothing-told c k [] (quiet-groups c k)
step-told c k rules o n past port (Hurt bytes) None is = nothing-told c k [] (quiet-groups c k)
step-told c k rules o n past port Finish None is =
    let e : LogEntry = record { port = port; step = Finish; reply = given c o past port Finish None } in
    finish-told c k rules (finished_slot_count past) (time c past) (time c (e ∷ past)) (open_slot past)
step-told c k rules o n past port (Timeout node dir) None is = nothing-told c k [] (quiet-groups c k)
step-told c k rules o n past port (Switch table) None is = nothing-told c k [] (quiet-groups c k)
step-told c k rules o n past port AskSleep None is = nothing-told c k [] (quiet-groups c k)
step-told c k rules o n past port Wake None is =
    nothing-told c k (record { at = time c past; changes = number_change 1 5 0 } ∷ [])
    (group-told c k none (time c past) (number_change 1 5 0) (quiet-change c k 1 5 0 (bus-other c 5 (omega arith))))
step-told c k rules o n past port (Close host) None is = nothing-told c k [] (quiet-groups c k)

entry-told : (c : Parts) (k : Option CodedData) (rules : IsCluster c) (opening capacity : ℕ) (s : PortId × Step) (past : List LogEntry)
    → let e : LogEntry = entry_of c opening capacity past s in Told c k (both (heard_now c e past) (written_now e)) (entry_changes c k e past)
unfolding reply
entry-told c k rules opening capacity s past =
    let e : LogEntry = entry_of c opening capacity past s in
    groups-last c k (both (heard_now c e past) (written_now e)) (own_groups c k e past) (flat_map (event_group c (time c (e ∷ past)) (waiting_count (e ∷ past))) (events e))
    (step-told c k rules opening capacity past s.0 s.1 (refusal c capacity past s.0 s.1) refl)
    (events-told c k (time c (e ∷ past)) (waiting_count (e ∷ past)) (events e) (done-hosts c opening capacity past s.0 s.1 (refusal c capacity past s.0 s.1) refl)) (shown_at c k past)

-- == what a history changes
abbrev heard_since : Parts → List LogEntry → ℕ → Option Value
heard_since c [] s = None
heard_since c (e ∷ past) s = option_or (heard_now c e past s) (heard_since c past s)

abbrev written_since : List LogEntry → ℕ → Option Value
written_since [] s = None
written_since (e ∷ past) s = option_or (written_now e s) (written_since past s)

both-more : (h w g v : ℕ → Option Value) (t : Kind) (s : ℕ) → option_or (both g v t s) (both h w t s) ≡ both (λ x. option_or (g x) (h x)) (λ x. option_or (v x) (w x)) t s
both-more h w g v AsHeard s = refl
both-more h w g v AsWritten s = refl
both-more h w g v AsDecimal s = refl

history-told : (c : Parts) (k : Option CodedData) (rules : IsCluster c) (opening capacity : ℕ) (steps : List (PortId × Step))
    → let past : List LogEntry = history c opening capacity steps
    in Told c k (both (heard_since c past) (written_since past)) (each_entry (entry_changes c k) [] (reverse past))
history-told c k rules opening capacity [] = told-as c k none (both nothing nothing) [] (quiet-nothing c k) (λ t s l. both-nothing t s)
history-told c k rules opening capacity (s ∷ earlier) =
    let past = history c opening capacity earlier in
    let e : LogEntry = entry_of c opening capacity past s in
    rw (each-newest (entry_changes c k) e past)
    (told-more c k (both (heard_since c past) (written_since past)) (both (heard_now c e past) (written_now e)) (both (heard_since c (e ∷ past)) (written_since (e ∷ past)))
    (each_entry (entry_changes c k) [] (reverse past)) (entry_changes c k e past) (history-told c k rules opening capacity earlier) (entry-told c k rules opening capacity s past)
    (λ t x l. both-more (heard_since c past) (written_since past) (heard_now c e past) (written_now e) t x))

since-or : (a b : Option Value) (v w : Value) → w ≡ unwrap_or b v → unwrap_or a w ≡ unwrap_or (option_or a b) v
since-or None b v w e = e
since-or (Some x) b v w e = refl

heard-is : (c : Parts) (past : List LogEntry) (s : ℕ) → heard_value c past s ≡ unwrap_or (heard_since c past s) (signal_of c s).initial
heard-is c [] s = refl
heard-is c (e ∷ past) s = since-or (heard_now c e past s) (heard_since c past s) (signal_of c s).initial (heard_value c past s) (heard-is c past s)

written-is : (c : Parts) (past : List LogEntry) (s : ℕ) → value c past s ≡ unwrap_or (written_since past s) (signal_of c s).initial
written-is c [] s = refl
written-is c (e ∷ past) s = since-or (written_now e s) (written_since past s) (signal_of c s).initial (value c past s) (written-is c past s)

-- == first values
abbrev below : Parts → ℕ → ℕ → Option Value
below c n s = if nat_lt s n then Some (signal_of c s).initial else None

below-more : (c : Parts) (k s : ℕ) (b d e : Bool) → (k == s) ≡ b → nat_lt s k ≡ d → nat_lt s (suc k) ≡ e
    → option_or (if b then Some (signal_of c k).initial else None) (if d then Some (signal_of c s).initial else None) ≡ (if e then Some (signal_of c s).initial else None)
below-more c k s true d true p q r = let same : k ≡ s = same-of k s p in ap (λ (n : ℕ). Some (signal_of c n).initial) same
below-more c k s true d false p q r = absurd (grind (arith, nat_tests, p, r))
below-more c k s false true true p q r = refl
below-more c k s false true false p q r = absurd (grind (arith, nat_tests, q, r))
below-more c k s false false true p q r = absurd (grind (arith, nat_tests, p, q, r))
below-more c k s false false false p q r = refl

none-below : (c : Parts) (s : ℕ) (d b : Bool) → nat_lt s 0 ≡ b → None ≡ (if d then (if b then Some (signal_of c s).initial else None) else None)
none-below c s d true e = absurd (grind (arith, nat_tests, e))
none-below c s true false e = refl
none-below c s false false e = refl

all-below : (c : Parts) (s : ℕ) (d b : Bool) → nat_lt s (length c.signals) ≡ b → s < length c.signals
    → (if d then (if b then Some (signal_of c s).initial else None) else None) ≡ (if d then Some (signal_of c s).initial else None)
all-below c s d true e l = refl
all-below c s d false e l = absurd (grind (arith, nat_tests, e, l))

-- the first values of the signals, in variables of one kind
firsts-below : (c : Parts) (k : Option CodedData) (u : Kind) (says : ℕ → List ℕ) → ((x : ℕ) → x < length c.signals → Told c k (only u x (signal_of c x).initial) (says x)) → (n : ℕ)
    → n ≤ length c.signals
    → Told c k (at_kind u (below c n)) (flat_map says (numbers n))
firsts-below c k u says tells zero l = told-as c k none (at_kind u (below c 0)) [] (quiet-nothing c k) (λ t s m. none-below c s (same_kind u t) (nat_lt s 0) refl)
firsts-below c k u says tells (suc n) l =
    rw (flat_map-append says (numbers n) (n ∷ []))
    (told-more c k (at_kind u (below c n)) (only u n (signal_of c n).initial) (at_kind u (below c (suc n))) (flat_map says (numbers n)) (says n ++ []) (firsts-below c k u says tells n (omega arith))
    (quiet-last c k (only u n (signal_of c n).initial) (says n) [] (tells n (omega arith)) (quiet-nothing c k))
    (λ t s m. at-more (same_kind u t) _ _ _ (below-more c n s (n == s) (nat_lt s n) (nat_lt s (suc n)) refl refl refl)))

abbrev initial : Parts → ℕ → Option Value
initial c s = Some (signal_of c s).initial

firsts-told : (c : Parts) (k : Option CodedData) (u : Kind) (says : ℕ → List ℕ) → ((x : ℕ) → x < length c.signals → Told c k (only u x (signal_of c x).initial) (says x))
    → Told c k (at_kind u (initial c)) (flat_map says (numbers (length c.signals)))
firsts-told c k u says tells =
    told-as c k (at_kind u (below c (length c.signals))) (at_kind u (initial c)) _ (firsts-below c k u says tells (length c.signals) (omega arith))
    (λ t s l. all-below c s (same_kind u t) (nat_lt s (length c.signals)) refl (there-below c k t s l))

quiet-all : (c : Parts) (k : Option CodedData) (f : ℕ → List ℕ) (n : ℕ) → ((m : ℕ) → m < n → Told c k none (f m)) → Told c k none (flat_map f (numbers n))
quiet-all c k f zero h = quiet-nothing c k
quiet-all c k f (suc n) h =
    rw (flat_map-append f (numbers n) (n ∷ []))
    (quiet-last c k none (flat_map f (numbers n)) (f n ++ []) (quiet-all c k f n (λ m l. h m (omega arith))) (quiet-last c k none (f n) [] (h n (omega arith)) (quiet-nothing c k)))

no-decimals : (c : Parts) (t : Kind) (s : ℕ) → IsThere c None t s → None ≡ at_kind AsDecimal (initial c) t s
no-decimals c AsHeard s l = refl
no-decimals c AsWritten s l = refl
no-decimals c AsDecimal s l = absurd (let e : false ≡ true = l.1 in cc)

decimals-told : (c : Parts) (k : Option CodedData) → Told c k (at_kind AsDecimal (initial c)) (where_told k (first_decimals c))
decimals-told c None = told-as c None none (at_kind AsDecimal (initial c)) [] (quiet-nothing c None) (no-decimals c)
decimals-told c (Some d) = firsts-told c (Some d) AsDecimal (first_physical c d) (λ x l. decimal-told c d x (signal_of c x).initial l)

-- every signal has its initial value
all-first : (f : ℕ → Option Value) (t : Kind) (s : ℕ) → option_or (option_or (at_kind AsDecimal f t s) (at_kind AsWritten f t s)) (at_kind AsHeard f t s) ≡ both f f t s
all-first f AsHeard s = refl
all-first f AsWritten s = or-none (f s)
all-first f AsDecimal s = or-none (option_or (f s) None) ∙ or-none (f s)

first-told : (c : Parts) (k : Option CodedData) (rules : IsCluster c)
    → Told c k (both (initial c) (initial c))
    (flat_map unknown_change (numbers 5)
    ++ (number_change 1 5 0
    ++ (flat_map (first_heard c) (numbers (length c.signals))
    ++ (flat_map (first_written c) (numbers (length c.signals)) ++ (flat_map (first_waiting c) (numbers (nodes c)) ++ where_told k (first_decimals c))))))
first-told c k rules =
    let i = initial c in
    let heard = firsts-told c k AsHeard (first_heard c) (λ x l. heard-told c k x (signal_of c x).initial l (initial-digits c x rules l)) in
    let written = firsts-told c k AsWritten (first_written c) (λ x l. written-told c k x (signal_of c x).initial l (initial-digits c x rules l)) in
    let waiting : Told c k none (flat_map (first_waiting c) (numbers (nodes c))) = quiet-all c k (first_waiting c) (nodes c) (λ h l. quiet-change c k 11 _ 0 (waiting-other c h l)) in
    let others : Gives = λ t s. option_or (at_kind AsDecimal i t s) (at_kind AsWritten i t s) in
    let rest = told-more c k (at_kind AsWritten i) (at_kind AsDecimal i) others _ _ written (quiet-first c k (at_kind AsDecimal i) _ _ waiting (decimals-told c k)) (λ t s l. refl) in
    quiet-first c k (both i i) (flat_map unknown_change (numbers 5)) _ (quiet-all c k unknown_change 5 (λ n l. quiet-unknown c k n (bus-other c n (omega arith))))
    (quiet-first c k (both i i) (number_change 1 5 0) _ (quiet-change c k 1 5 0 (bus-other c 5 (omega arith)))
    (told-more c k (at_kind AsHeard i) others (both i i) _ _ heard rest (λ t s l. all-first i t s)))

-- == the whole dump
regroup : (d a b u n h w t p e r : List ℕ) → (d ++ (a ++ (b ++ (u ++ (n ++ (h ++ (w ++ (t ++ (p ++ e))))))))) ++ r ≡ d ++ (a ++ (b ++ ((u ++ (n ++ (h ++ (w ++ (t ++ p))))) ++ (e ++ r))))
regroup d a b u n h w t p e r = simp append_assoc refl

or-some : (f : Value → List ℕ) (o : Option Value) (v w : Value) → w ≡ unwrap_or o v → option_map f (option_or o (Some v)) ≡ Some (f w)
or-some f None v w e = ap (λ (x : Value). Some (f x)) (sym e)
or-some f (Some x) v w e = ap (λ (y : Value). Some (f y)) (sym e)

pub history-dumped : (c : Parts) → IsCluster c → (k : Option CodedData) (opening capacity : ℕ) (steps : List (PortId × Step)) → IsDumped c k (history c opening capacity steps)
history-dumped c rules k opening capacity steps =
    let past : List LogEntry = history c opening capacity steps in
    let rest : List ℕ = each_entry (entry_changes c k) [] (reverse past) ++ end_stamp c k (reverse (reverse past)) in
    let since : Gives = both (heard_since c past) (written_since past) in
    let f = first-told c k rules in
    let t : Told c k since rest =
    quiet-last c k since _ _ (history-told c k rules opening capacity steps) (quiet-stamp c k (shown_at c k (reverse (reverse past))) (time c (reverse (reverse past)))) in
    let last : (u : Kind) (s : ℕ) → IsThere c k u s → last_value (code (number c u s)) (f.lines ++ t.lines) ≡ shown c k u s (option_or (since u s) (both (initial c) (initial c) u s))
    = λ u s l. last-both (word c k u s) (code (number c u s)) f.lines t.lines (both (initial c) (initial c) u s) (since u s) _ (f.last u s l) (t.last u s l) refl in
    record {
      first = f.lines;
      lines = t.lines;
      bytes =
          regroup (declarations c k) (text_line (codes "#0")) (text_line (codes "$dumpvars")) (flat_map unknown_change (numbers 5)) (number_change 1 5 0) (flat_map (first_heard c) (numbers (length c.signals)))
          (flat_map (first_written c) (numbers (length c.signals))) (flat_map (first_waiting c) (numbers (nodes c))) (where_told k (first_decimals c)) (text_line (codes "$end")) rest
          ∙ ap (λ l. declarations c k ++ (text_line (codes "#0") ++ (text_line (codes "$dumpvars") ++ (l ++ (text_line (codes "$end") ++ rest))))) f.same
          ∙ ap (λ l. declarations c k ++ (text_line (codes "#0") ++ (text_line (codes "$dumpvars") ++ (flat_map line_bytes f.lines ++ (text_line (codes "$end") ++ l))))) t.same;
      good = All-append IsLine f.lines t.lines f.good t.good;
      heard = λ s l. last AsHeard s l ∙ or-some (digits (signal_of c s).size) (heard_since c past s) (signal_of c s).initial (heard_value c past s) (heard-is c past s);
      written = λ s l. last AsWritten s l ∙ or-some (digits (signal_of c s).size) (written_since past s) (signal_of c s).initial (value c past s) (written-is c past s);
      physical = λ d is s l ranged.
          last AsDecimal s (l, ap (λ (o : Option CodedData). is_ranged o s) is ∙ ranged)
          ∙ or-some (decimal_word k s) (heard_since c past s) (signal_of c s).initial (heard_value c past s) (heard-is c past s)
          ∙ ap (λ (o : Option CodedData). Some (decimal_word o s (heard_value c past s))) is;
    }
