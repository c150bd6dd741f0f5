-- Words without LF.
use Rattle.std.proofs.Common.{◌≡◌, ℕ, zero, suc, List, [], ◌∷◌, ◌++◌, refl, ap, ◌∙◌, append_assoc, sym, ◌/◌, ◌%◌, ◌<◌, ◌==◌, arith, Bool, true, false, nat_lt, flat_map, map, codes, Option, Some, None, if◌then◌else◌}
use Rattle.std.specs.Fmt.{decimal, digits, digits_onto, digit_glyph}
use Rattle.std.specs.List.{All, list_all}
use Rattle.std.proofs.lemmas.Bool.{and_parts}
use Rattle.std.proofs.lemmas.Grind.{common_steps}
use Rattle.std.proofs.lemmas.List.Elements.{All-nil, All-cons}
use Rattle.hex.specs.Hex.{encode_upper, encode_with, upper_digits}
use Rattle.lin_frame.specs.declared.value.Value.{Value}
use Rattle.lin_frame.specs.declared.value.Value.TheVariants.{Scalar, Bytes}
use Rattle.lin_core.specs.Tables.{cause_word, direction_word, look_word, refusal_word}
use Rattle.lin_core.specs.declared.event.Look.{Look}
use Rattle.lin_core.specs.declared.event.Look.TheVariants as look
use Rattle.lin_core.specs.declared.link.Cause.{Cause}
use Rattle.lin_core.specs.declared.link.Cause.TheVariants as cause
use Rattle.lin_core.specs.declared.link.Direction.{Direction}
use Rattle.lin_core.specs.declared.link.Direction.TheVariants as direction
use Rattle.lin_core.specs.declared.reply.Refusal.{Refusal}
use Rattle.lin_core.specs.declared.reply.Refusal.TheVariants as refusal
use Rattle.lin_log.specs.Language.{Called, Language, word_of}
use Rattle.lin_log.specs.Laws.{AreNames, all_visible, are_quiet, is_quiet, is_visible, no_end}
use Rattle.lin_log.specs.Words.{Word, byte_word, carried_word, hex_word, line_tail, port_word, spaced_word, value_word, word_text}
use Rattle.lin_log.specs.Words.Word.{Port, Node, Signal, Table, Frame, Number, Range, Identifier, Hex, Matching, Raw, Fixed, Said, Fields, Listed, Lines, Mark}
use Rattle.lin_log.proofs.CallerTexts.{quiet-seen-text, quiet-seen-texts}
use Rattle.lin_log.proofs.Items.{at-place, both, item-name, joined, weaker}

-- what holds of all bytes of words, and of a space
pub spaced-keeps : (p : ℕ → Bool) → p 32 ≡ true → (ws : List (List ℕ)) → list_all (list_all p) ws ≡ true → list_all p (flat_map spaced_word ws) ≡ true
spaced-keeps p s [] h = refl
spaced-keeps p s (w ∷ ws) h =
    let q = and_parts (list_all p w) (list_all (list_all p) ws) h in
    both (p 32) (list_all p (w ++ flat_map spaced_word ws)) s (joined p w (flat_map spaced_word ws) q.0 (spaced-keeps p s ws q.1))

pub quiet-spaced : (ws : List (List ℕ)) → are_quiet ws ≡ true → is_quiet (flat_map spaced_word ws) ≡ true
quiet-spaced ws h = spaced-keeps no_end refl ws h

pub visible-end : (x : ℕ) → is_visible x ≡ true → no_end x ≡ true
visible-end x h = grind (arith, common_steps)

pub quiet-visible : (w : List ℕ) → all_visible w ≡ true → is_quiet w ≡ true
quiet-visible w h = weaker is_visible no_end visible-end w h

pub no-end : (w : List ℕ) → is_quiet w ≡ true → All (λ x. (x == 10) ≡ false) w
no-end [] h = All-nil (λ x. (x == 10) ≡ false)
no-end (x ∷ xs) h =
    let p = and_parts (no_end x) (is_quiet xs) h in
    let q : (x == 10) ≡ false = let r = p.0 in grind (arith, common_steps) in
    All-cons (λ x. (x == 10) ≡ false) x xs q (no-end xs p.1)

-- the words of a line and its end, before a text
pub line-end : (ws : List (List ℕ)) (rest : List ℕ) → line_tail ws ++ rest ≡ flat_map spaced_word ws ++ 10 ∷ rest
line-end [] rest = refl
line-end (w ∷ ws) rest =
    append_assoc (spaced_word w) (line_tail ws) rest ∙ ap (λ l. spaced_word w ++ l) (line-end ws rest) ∙ sym (append_assoc (spaced_word w) (flat_map spaced_word ws) (10 ∷ rest))

-- ---- numbers, bytes and names
quiet-digits : (k n : ℕ) (acc : List ℕ) → is_quiet acc ≡ true → is_quiet (digits_onto k 10 false n acc) ≡ true
quiet-digits zero n acc h = h
quiet-digits (suc k) n acc h =
    let g : no_end (digit_glyph false (n % 10)) ≡ true = grind (arith, common_steps) in
    let more : is_quiet (digit_glyph false (n % 10) ∷ acc) ≡ true = rw (g, h) refl in
    elim (n / 10 == 0) as (λ b. is_quiet (if b then digit_glyph false (n % 10) ∷ acc else digits_onto k 10 false (n / 10) (digit_glyph false (n % 10) ∷ acc)) ≡ true) [
      | true ↦ more
      | false ↦ quiet-digits k (n / 10) (digit_glyph false (n % 10) ∷ acc) more
    ]

pub quiet-decimal : (n : ℕ) → is_quiet (decimal n) ≡ true
unfolding digits
quiet-decimal n = quiet-digits 64 n [] refl

pub quiet-encoded : (bs : List ℕ) → is_quiet (encode_upper bs) ≡ true
unfolding encode_with
quiet-encoded [] = refl
quiet-encoded (b ∷ bs) = rw (at-place no_end upper_digits (b / 16) refl refl, at-place no_end upper_digits (b % 16) refl refl, quiet-encoded bs) refl

pub quiet-hex : (bs : List ℕ) → is_quiet (hex_word bs) ≡ true
quiet-hex [] = refl
quiet-hex (b ∷ bs) = quiet-encoded (b ∷ bs)

called-by : (called : Called) → AreNames called → (k : ℕ) (t : Bool) → nat_lt k called.count ≡ t → is_quiet (if t then called.name k else decimal k) ≡ true
called-by called a k true h =
    let less : k < called.count = grind (arith, common_steps) in
    quiet-visible (called.name k) (item-name (called.name k) (a.words k less)).0.visible
called-by called a k false h = quiet-decimal k

pub quiet-called : (called : Called) → AreNames called → (k : ℕ) → is_quiet (word_of called k) ≡ true
quiet-called called a k = called-by called a k (nat_lt k called.count) refl

pub quiet-value : (v : Value) → is_quiet (value_word v) ≡ true
quiet-value (Scalar n) = quiet-decimal n
quiet-value (Bytes bytes) = rw (quiet-hex bytes) refl

-- ---- patterns
quiet-byte : (b : Option ℕ) → is_quiet (byte_word b) ≡ true
quiet-byte None = refl
quiet-byte (Some b) = quiet-hex (b ∷ [])

quiet-bytes : (bs : List (Option ℕ)) → is_quiet (flat_map byte_word bs) ≡ true
quiet-bytes [] = refl
quiet-bytes (b ∷ bs) = joined no_end (byte_word b) (flat_map byte_word bs) (quiet-byte b) (quiet-bytes bs)

quiet-star : (t : Bool) → is_quiet (if t then codes "*" else []) ≡ true
quiet-star true = refl
quiet-star false = refl

-- ---- no word of a line has an LF, whatever it is
pub quiet-word : (l : Language) (w : Word) → is_quiet (word_text l w) ≡ true
quiet-word l (Port p) = quiet-seen-text (port_word l p)
quiet-word l (Node n) = quiet-seen-text (word_of l.nodes n)
quiet-word l (Signal s) = quiet-seen-text (word_of l.signals s)
quiet-word l (Table t) = quiet-seen-text (word_of l.tables t)
quiet-word l (Frame f) = quiet-seen-text (carried_word l.frames f)
quiet-word l (Number n) = quiet-decimal n
quiet-word l (Range low high) = joined no_end (decimal low) (codes ".." ++ decimal high) (quiet-decimal low) (quiet-decimal high)
quiet-word l (Identifier n) = quiet-encoded (n ∷ [])
quiet-word l (Hex bytes) = quiet-hex bytes
quiet-word l (Matching p) = joined no_end (flat_map byte_word p.bytes) (if p.more then codes "*" else []) (quiet-bytes p.bytes) (quiet-star p.more)
quiet-word l (Raw value) = quiet-value value
quiet-word l (Fixed text) = quiet-seen-text text
quiet-word l (Said text) = quiet-seen-text text
quiet-word l (Fields fields) = quiet-seen-texts (codes " ") refl fields
quiet-word l (Listed texts) = quiet-seen-texts (codes ", ") refl texts
quiet-word l (Lines lines) = quiet-seen-texts (codes "; ") refl lines
quiet-word l (Mark text) = quiet-seen-text text

pub quiet-words : (l : Language) (ws : List Word) → are_quiet (map (word_text l) ws) ≡ true
quiet-words l [] = refl
quiet-words l (w ∷ ws) = both (is_quiet (word_text l w)) (are_quiet (map (word_text l) ws)) (quiet-word l w) (quiet-words l ws)

pub quiet-direction : (d : Direction) → is_quiet (direction_word d) ≡ true
quiet-direction direction.Down = refl
quiet-direction direction.Up = refl

pub quiet-cause : (c : Cause) → is_quiet (cause_word c) ≡ true
quiet-cause cause.Damaged = refl
quiet-cause cause.TimedOut = refl
quiet-cause cause.Slept = refl

pub quiet-look : (how : Look) → is_quiet (look_word how) ≡ true
quiet-look look.Silent = refl
quiet-look look.NoAnswer = refl
quiet-look look.Good = refl
quiet-look look.Damaged = refl
quiet-look look.Collided = refl

pub quiet-refusal : (r : Refusal) → is_quiet (refusal_word r) ≡ true
quiet-refusal refusal.NoSuchNode = refl
quiet-refusal r = refl
