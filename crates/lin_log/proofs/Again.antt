-- What is written in a language is read again in it: words and lines.
use Rattle.std.proofs.Common.{◌≡◌, ◌∙◌, ℕ, zero, suc, List, [], ◌∷◌, ◌++◌, refl, subst, sym, length, map, ◌<◌, ◌≤◌, ◌==◌, ◌&&◌, ◌||◌, arith, Bool, true, false, nat_lt, nat_le, slice_index, flat_map, codes, Some, None, Result, Ok, if◌then◌else◌}
use Rattle.std.specs.Prelude.{find}
use Rattle.std.specs.Fmt.{decimal}
use Rattle.std.specs.Str.{bytes_eq}
use Rattle.std.proofs.lemmas.Grind.{common_steps}
use Rattle.std.proofs.lemmas.Slice.Eq.{bytes_eq-Decides}
use Rattle.lin_frame.specs.Words.{numbers}
use Rattle.lin_frame.specs.declared.value.Value.{Value}
use Rattle.lin_frame.specs.declared.value.Value.TheVariants.{Scalar, Bytes}
use Rattle.lin_core.proofs.kept.Bus.{find-more}
use Rattle.lin_core.specs.Fits.{FitsPort, FitsStep, FitsValue}
use Rattle.lin_core.specs.declared.link.Direction.{Direction}
use Rattle.lin_core.specs.declared.link.Direction.TheVariants.{Down, Up}
use Rattle.lin_core.specs.declared.port.PortId.{PortId}
use Rattle.lin_core.specs.declared.port.PortId.TheVariants as ports
use Rattle.lin_core.specs.declared.step.Step.{Step}
use Rattle.lin_core.specs.declared.step.Step.TheVariants.{Send, Write, Open, Answer, Leave, Hurt, Finish, Timeout, Switch, AskSleep, Wake, Close}
use Rattle.lin_log.specs.CallerTexts.{seen_text}
use Rattle.lin_log.specs.Words.{hex_word, spaced_word, step_words, value_word, word_text}
use Rattle.lin_log.specs.Words.Word.{Fixed, Node, Port, Signal, Table}
use Rattle.lin_log.proofs.Decimals.{hex-again, number-decimal}
use Rattle.lin_core.specs.Tables.{direction_word}
use Rattle.lin_log.specs.Language.{Called, Language, number_named, word_of}
use Rattle.lin_log.specs.Laws.{AreNames, HasNames, LinesAgain, all_visible, is_quiet, is_visible}
use Rattle.lin_log.specs.Said.{bytes_fields, called_field, direction_field, is_digit, is_hex_number, is_port, line_says, node_field, of_fields, port, port_number, port_step, signal_field, step_after, step_form, send_form, write_form, hurt_form, timeout_form, switch_form, node_form, alone, table_field, value_field}
use Rattle.lin_log.specs.declared.reason.Reason.{Reason}
use Rattle.lin_log.specs.declared.reason.Reason.TheVariants.{NoNode, NoSignal, NoTable}
use Rattle.lin_log.proofs.CallerTexts.{quiet-same}
use Rattle.lin_log.proofs.Found.{first-passing}
use Rattle.lin_log.proofs.Items.{AreItems, IsItem, and-no, both, digits-decimal, fields-joined, first-digit, item, item-digits, item-hex, item-name, more, none, not-digit, second-digit}
use Rattle.lin_log.proofs.Quiet.{quiet-called, quiet-decimal, quiet-visible}

-- a word of a line, and what it says
pub record Says {A : Type 0} (f : List ℕ) (said : Result A Reason) (x : A) : Type 0 where
  pub word : IsItem f
  pub reading : said ≡ Ok x

-- ---- the first thing with the name of one of them is that one
unlike-by : (called : Called) → AreNames called → (i k : ℕ) (t : Bool) → bytes_eq (called.name k) (called.name i) ≡ t
    → i < called.count → k < i → bytes_eq (called.name k) (called.name i) ≡ false
unlike-by called a i k true h small less =
    let same : k ≡ i = a.unlike k i (omega arith) small ((bytes_eq-Decides (called.name k) (called.name i)).0 h) in
    absurd (omega arith)
unlike-by called a i k false h small less = h

none-before : (called : Called) → AreNames called → (i k : ℕ) → i < called.count → k ≤ i
    → find (λ j. bytes_eq (called.name j) (called.name i)) (numbers k) ≡ None
none-before called a i zero small le = refl
none-before called a i (suc k) small le =
    find-more (λ j. bytes_eq (called.name j) (called.name i)) (numbers k) k
    ∙ rw (none-before called a i k small (omega arith), unlike-by called a i k (bytes_eq (called.name k) (called.name i)) refl small (omega arith)) refl

named-first : (called : Called) → AreNames called → (i : ℕ) → i < called.count → number_named called (called.name i) ≡ Some i
named-first called a i small =
    first-passing (λ j. bytes_eq (called.name j) (called.name i)) called.count i small ((bytes_eq-Decides (called.name i) (called.name i)).1 refl)
    (none-before called a i i small (omega arith))

-- ---- names or numbers
-- a word as it is seen
as-seen : {A : Type 0} (f : List ℕ) (read : List ℕ → Result A Reason) (x : A) → is_quiet f ≡ true → Says f (read f) x → Says (seen_text f) (read (seen_text f)) x
as-seen f read x q s = subst (λ w. Says w (read w) x) (sym (quiet-same f q)) s

called-says : (called : Called) → AreNames called → (most : ℕ) (unknown : List ℕ → Reason) (k : ℕ) (t : Bool) → nat_lt k called.count ≡ t → k ≤ most → most < 65536
    → Says (if t then called.name k else decimal k) (called_field most called unknown (if t then called.name k else decimal k)) k
called-says called a most unknown k true h le small =
    let less : k < called.count = grind (arith, common_steps) in
    let p = item-name (called.name k) (a.words k less) in
    record { word = p.0; reading = rw (p.1, named-first called a k less) refl }
called-says called a most unknown k false h le small =
    let d = digits-decimal k (omega arith) in
    record { word = item-digits (decimal k) d; reading = rw (first-digit (decimal k) d, number-decimal most k le (omega arith)) refl }

node-says : (l : Language) → HasNames l → (k : ℕ) → k ≤ 255 → Says (word_text l (Node k)) (node_field l (word_text l (Node k))) k
unfolding node_field
node-says l a k le =
    as-seen (word_of l.nodes k) (node_field l) k (quiet-called l.nodes a.of_nodes k)
    (called-says l.nodes a.of_nodes 255 NoNode k (nat_lt k l.nodes.count) refl le (omega arith))

signal-says : (l : Language) → HasNames l → (k : ℕ) → k ≤ 65535 → Says (word_text l (Signal k)) (signal_field l (word_text l (Signal k))) k
unfolding signal_field
signal-says l a k le =
    as-seen (word_of l.signals k) (signal_field l) k (quiet-called l.signals a.of_signals k)
    (called-says l.signals a.of_signals 65535 NoSignal k (nat_lt k l.signals.count) refl le (omega arith))

table-says : (l : Language) → HasNames l → (k : ℕ) → k ≤ 65535 → Says (word_text l (Table k)) (table_field l (word_text l (Table k))) k
unfolding table_field
table-says l a k le =
    as-seen (word_of l.tables k) (table_field l) k (quiet-called l.tables a.of_tables k)
    (called-says l.tables a.of_tables 65535 NoTable k (nat_lt k l.tables.count) refl le (omega arith))

-- ---- words that name nothing
bytes-say : (l : Language) (m : List ℕ) (h : (i : ℕ) → slice_index m i < 256) → Says (hex_word m) (bytes_fields l (hex_word m ∷ [])) m
unfolding bytes_fields
bytes-say l m h = record { word = item-hex m h; reading = rw (hex-again m h) refl }

scalar-says : (l : Language) (n : ℕ) → n < 65536 → Says (decimal n) (value_field l (decimal n)) (Scalar n)
unfolding value_field
scalar-says l n h =
    let d = digits-decimal n (omega arith) in
    let x = (not-digit (slice_index (decimal n) 0) (first-digit (decimal n) d)).2 in
    let z : is_hex_number l (decimal n) ≡ false =
    and-no l.free (slice_index (decimal n) 0 == 48 && slice_index (decimal n) 1 == 120)
    (and-no (slice_index (decimal n) 0 == 48) (slice_index (decimal n) 1 == 120) (second-digit (decimal n) d.digits)) in
    record { word = item-digits (decimal n) d; reading = rw (x, z, number-decimal 65535 n (omega arith) (omega arith)) refl }

array-says : (l : Language) (bs : List ℕ) → length bs ≤ 8 → ((i : ℕ) → slice_index bs i < 256)
    → Says (120 ∷ hex_word bs) (value_field l (120 ∷ hex_word bs)) (Bytes bs)
unfolding value_field
array-says l bs few h =
    let t : nat_le (length bs) 8 ≡ true = grind (arith, common_steps) in
    record {
      word = item (120 ∷ hex_word bs) (omega arith) (both (is_visible 120) (all_visible (hex_word bs)) refl (item-hex bs h).visible) refl;
      reading = rw (hex-again bs h, t) refl;
    }

value-says : (l : Language) (v : Value) → FitsValue v → Says (value_word v) (value_field l (value_word v)) v
value-says l (Scalar n) h = scalar-says l n (omega arith)
value-says l (Bytes bs) h = array-says l bs h.0 h.1

direction-says : (d : Direction) → Says (seen_text (direction_word d)) (direction_field (seen_text (direction_word d))) d
unfolding direction_field
direction-says Down = record { word = item (codes "down") (omega arith) refl refl; reading = refl }
direction-says Up = record { word = item (codes "up") (omega arith) refl refl; reading = refl }

-- ---- the words of a step
pub record SaysStep (l : Language) (ws : List (List ℕ)) (s : Step) : Type 0 where
  pub words : AreItems ws
  pub reading : step_after l ws ≡ Ok s

send-says : (l : Language) (f g h : List ℕ) (from to : ℕ) (m : List ℕ) → Says f (node_field l f) from → Says g (node_field l g) to
    → Says h (bytes_fields l (h ∷ [])) m → SaysStep l (codes "send" ∷ f ∷ g ∷ h ∷ []) (Send from to m)
unfolding step_form send_form
send-says l f g h from to m p q r = record {
  words = more (item _ (omega arith) refl refl) (more p.word (more q.word (more r.word none)));
  reading = rw (p.reading, q.reading, r.reading) refl;
}

write-says : (l : Language) (f g h : List ℕ) (by signal : ℕ) (v : Value) → Says f (node_field l f) by → Says g (signal_field l g) signal
    → Says h (value_field l h) v → SaysStep l (codes "write" ∷ f ∷ g ∷ h ∷ []) (Write by signal v)
unfolding step_form write_form
write-says l f g h by signal v p q r = record {
  words = more (item _ (omega arith) refl refl) (more p.word (more q.word (more r.word none)));
  reading = rw (p.reading, q.reading, r.reading) refl;
}

lone-says : (l : Language) (word f : List ℕ) (step : ℕ → Step) (k : ℕ) → IsItem word → step_form l word (f ∷ []) ≡ node_form l step word (f ∷ [])
    → Says f (node_field l f) k → SaysStep l (word ∷ f ∷ []) (step k)
unfolding node_form
lone-says l word f step k i e p = record { words = more i (more p.word none); reading = e ∙ rw p.reading refl }

hurt-says : (l : Language) (f m : List ℕ) → Says f (bytes_fields l (f ∷ [])) m → SaysStep l (codes "hurt" ∷ f ∷ []) (Hurt m)
unfolding step_form hurt_form
hurt-says l f m p = record { words = more (item _ (omega arith) refl refl) (more p.word none); reading = rw p.reading refl }

timeout-says : (l : Language) (f g : List ℕ) (k : ℕ) (d : Direction) → Says f (node_field l f) k → Says g (direction_field g) d
    → SaysStep l (codes "timeout" ∷ f ∷ g ∷ []) (Timeout k d)
unfolding step_form timeout_form
timeout-says l f g k d p q = record {
  words = more (item _ (omega arith) refl refl) (more p.word (more q.word none));
  reading = rw (p.reading, q.reading) refl;
}

switch-says : (l : Language) (f : List ℕ) (t : ℕ) → Says f (table_field l f) t → SaysStep l (codes "switch" ∷ f ∷ []) (Switch t)
unfolding step_form switch_form
switch-says l f t p = record { words = more (item _ (omega arith) refl refl) (more p.word none); reading = rw p.reading refl }

pub step-says : (l : Language) → HasNames l → (s : Step) → FitsStep s → SaysStep l (map (word_text l) (step_words s)) s
unfolding step_form alone
step-says l a (Send from to m) h =
    send-says l (word_text l (Node from)) (word_text l (Node to)) (hex_word m) from to m (node-says l a from (omega arith)) (node-says l a to (omega arith)) (bytes-say l m h.2)
step-says l a (Write by signal v) h =
    write-says l (word_text l (Node by)) (word_text l (Signal signal)) (value_word v) by signal v (node-says l a by (omega arith)) (signal-says l a signal (omega arith))
    (value-says l v h.2)
step-says l a Open h = record { words = more (item _ (omega arith) refl refl) none; reading = refl }
step-says l a (Answer k) h = lone-says l (codes "answer") (word_text l (Node k)) Answer k (item _ (omega arith) refl refl) refl (node-says l a k (omega arith))
step-says l a (Leave k) h = lone-says l (codes "leave") (word_text l (Node k)) Leave k (item _ (omega arith) refl refl) refl (node-says l a k (omega arith))
step-says l a (Hurt m) h = hurt-says l (hex_word m) m (bytes-say l m h)
step-says l a Finish h = record { words = more (item _ (omega arith) refl refl) none; reading = refl }
step-says l a (Timeout k d) h = timeout-says l (word_text l (Node k)) (word_text l (Fixed (direction_word d))) k d (node-says l a k (omega arith)) (direction-says d)
step-says l a (Switch t) h = switch-says l (word_text l (Table t)) t (table-says l a t (omega arith))
step-says l a AskSleep h = record { words = more (item _ (omega arith) refl refl) none; reading = refl }
step-says l a Wake h = record { words = more (item _ (omega arith) refl refl) none; reading = refl }
step-says l a (Close k) h = lone-says l (codes "close") (word_text l (Node k)) Close k (item _ (omega arith) refl refl) refl (node-says l a k (omega arith))

-- ---- the word of a port
pub record SaysPort (l : Language) (w : List ℕ) (p : PortId) : Type 0 where
  pub word : IsItem w
  pub is : is_port w ≡ true
  pub reading : port l w ≡ Ok p

-- a node's name after a colon, or its number
record SaysNumber (l : Language) (w : List ℕ) (n : ℕ) : Type 0 where
  visible : all_visible w ≡ true
  starts : (is_digit (slice_index w 0) || slice_index w 0 == 58) ≡ true
  reading : port_number l w ≡ Ok n

number-says : (l : Language) → HasNames l → (n : ℕ) (t : Bool) → nat_lt n l.nodes.count ≡ t → n < 256
    → SaysNumber l (seen_text (if t then 58 ∷ l.nodes.name n else decimal n)) n
number-says l a n true e h =
    let less : n < l.nodes.count = grind (arith, common_steps) in
    let f = item-name (l.nodes.name n) (a.of_nodes.words n less) in
    subst (λ w. SaysNumber l (58 ∷ w) n) (sym (quiet-same (l.nodes.name n) (quiet-visible (l.nodes.name n) f.0.visible)))
    (record { visible = rw f.0.visible refl; starts = refl; reading = rw (named-first l.nodes a.of_nodes n less) refl })
number-says l a n false e h =
    let d = digits-decimal n (omega arith) in
    let x = first-digit (decimal n) d in
    subst (λ w. SaysNumber l w n) (sym (quiet-same (decimal n) (quiet-decimal n)))
    (record {
      visible = (item-digits (decimal n) d).visible;
      starts = rw x refl;
      reading = rw ((not-digit (slice_index (decimal n) 0) x).1, number-decimal 255 n (omega arith) (omega arith)) refl;
    })

pub port-says : (l : Language) → HasNames l → (p : PortId) → FitsPort p → SaysPort l (word_text l (Port p)) p
unfolding port
port-says l a ports.Bus h = record { word = item _ (omega arith) refl refl; is = refl; reading = refl }
port-says l a (ports.Host n) h =
    let p = number-says l a n (nat_lt n l.nodes.count) refl h in
    record { word = item _ (omega arith) (rw p.visible refl) refl; is = rw p.starts refl; reading = rw p.reading refl }
port-says l a (ports.Node n) h =
    let p = number-says l a n (nat_lt n l.nodes.count) refl h in
    record { word = item _ (omega arith) (rw p.visible refl) refl; is = rw p.starts refl; reading = rw p.reading refl }

-- ---- a port and a step on one line
port-start : (l : Language) (p : PortId) (rest : List ℕ)
    → (slice_index (word_text l (Port p) ++ rest) 0 == 35 || slice_index (word_text l (Port p) ++ rest) 0 == 62) ≡ false
port-start l ports.Bus rest = refl
port-start l (ports.Host n) rest = refl
port-start l (ports.Node n) rest = refl

fields-say : (l : Language) (w : List ℕ) (ws : List (List ℕ)) (p : PortId) (s : Step) → SaysPort l w p → SaysStep l ws s
    → of_fields l (w ∷ ws) ≡ Ok (Some (p, s))
unfolding port_step
fields-say l w ws p s a b = rw (a.is, a.reading, b.reading) refl

pub lines-again : LinesAgain
unfolding line_says
lines-again l p s a hp hs =
    let q = port-says l a p hp in
    let r = step-says l a s hs in
    let w = word_text l (Port p) in
    let ws = map (word_text l) (step_words s) in
    rw (port-start l p (flat_map spaced_word ws), fields-joined l.free w ws q.word r.words) (fields-say l w ws p s q r)
