-- The words of answers, each after a space.
use Rattle.std.proofs.Common.{◌≡◌, ◌∙◌, ◌+◌, ◌≤◌, ◌==◌, ◌++◌, ◌∷◌, ℕ, Bool, true, false, List, [], None, Option, Some, ap, append-nil, append_assoc, arith, codes, flat_map, if◌then◌else◌, length, map, not, refl, sym}
use Rattle.std.specs.List.{list_all}
use Rattle.std.specs.Option.{option_to_list}
use Rattle.std.proofs.lemmas.Bool.{and_parts}
use Rattle.lin_frame.specs.Words.{numbers}
use Rattle.lin_parts.specs.Cluster.{frame_name, line_of}
use Rattle.lin_parts.specs.declared.parts.Parts.{Parts}
use Rattle.lin_core.specs.History.{good}
use Rattle.lin_core.specs.declared.event.Event.TheVariants.{Slot}
use Rattle.lin_log.specs.CallerTexts.{seen_text}
use Rattle.lin_log.specs.Language.{Language, named_language, plain}
use Rattle.lin_log.specs.Laws.{is_quiet}
use Rattle.lin_log.specs.Words.{Word, spaced_word, word_text}
use Rattle.lin_log.specs.Words.Word.{Fixed, Hex, Lines, Mark, Said}
use Rattle.lin_log.proofs.CallerTexts.{quiet-same}
use Rattle.lin_export.specs.LastSlot.{EndedSlot, last_slot_words}
use Rattle.lin_export.specs.Named.{named_words, slot_names, sporadic_frame_under}
use Rattle.lin_export.specs.Shown.{data_of}
use Rattle.lin_export.proofs.Rows.{flat-append, numbers-more}
use Rattle.lin_bench.specs.LineWords.{is_mark_word, spaced_words, text_after_space}
use Rattle.lin_bench.specs.Texts.{pending_text, verdict_text}
use Rattle.lin_bench.specs.declared.got.Pending.{Pending}
use Rattle.lin_bench.specs.declared.got.Pending.TheVariants.{MessagesWait, AnswersNoted}
use Rattle.lin_live.specs.Told.{hash_line}
use Rattle.lin_live.specs.Values.{addressed_node, idle_words, node_words, rule_words}

-- ---- words, none of which is a mark
abbrev have_spaces : List Word → Bool
have_spaces = list_all (λ w. not (is_mark_word w))

space-before : (l : Language) (w : Word) → not (is_mark_word w) ≡ true → spaced_word (word_text l w) ≡ text_after_space l w
space-before l (Mark text) h = absurd (cc)
space-before l w h = refl

named-spaced : (c : Parts) (ws : List Word) → have_spaces ws ≡ true → named_words c ws ≡ spaced_words (named_language c) ws
named-spaced c [] h = refl
named-spaced c (w ∷ ws) h =
    let l = named_language c in
    let p = and_parts (not (is_mark_word w)) (have_spaces ws) h in
    ap (λ t. spaced_word (word_text l w) ++ t) (named-spaced c ws p.1) ∙ ap (λ t. t ++ spaced_words l ws) (space-before l w p.0)

frame-spaces : (c : Parts) (o : Option ℕ) → have_spaces (map (λ f. Said (frame_name c f)) (option_to_list o)) ≡ true
frame-spaces c None = refl
frame-spaces c (Some f) = refl

pub names-spaced : (c : Parts) (table entry : ℕ) (header : Option ℕ)
    → named_words c (slot_names c (Slot table entry header)) ≡ spaced_words (named_language c) (slot_names c (Slot table entry header))
names-spaced c table entry header =
    named-spaced c (slot_names c (Slot table entry header)) (frame-spaces c (sporadic_frame_under c (line_of c table entry).entry header))

data-spaces : (o : Option (List ℕ)) → have_spaces (map (λ answer. Hex (data_of answer)) (option_to_list o)) ≡ true
data-spaces None = refl
data-spaces (Some answer) = refl

pub ended-spaced : (c : Parts) (o : Option EndedSlot) → named_words c (last_slot_words c o) ≡ spaced_words (named_language c) (last_slot_words c o)
ended-spaced c None = refl
ended-spaced c (Some e) = named-spaced c (last_slot_words c (Some e)) (data-spaces (good e.slot))

-- ---- lists
pub pending-spaced : (c : Parts) (ps : List Pending) → 1 ≤ length ps → 32 ∷ pending_text c ps ≡ spaced_words (named_language c) (idle_words ps)
pending-spaced c [] h = absurd (omega arith)
pending-spaced c (MessagesWait host count ∷ ps) h = refl
pending-spaced c (AnswersNoted node count ∷ ps) h = refl

pub rules-spaced : (l : Language) (lines : List (List ℕ)) → 1 ≤ length lines → spaced_words l (Lines lines ∷ []) ≡ spaced_words l (rule_words lines)
rules-spaced l [] h = absurd (omega arith)
rules-spaced l (line ∷ lines) h = refl

-- a node more after those before it
gap-before : (l : Language) (t : Bool) (ws : List Word)
    → spaced_words l ((if t then [] else Mark (codes ",") ∷ []) ++ ws) ≡ (if t then [] else codes ",") ++ spaced_words l ws
gap-before l true ws = refl
gap-before l false ws = refl

pub nodes-more : (c : Parts) (n : ℕ)
    → spaced_words (named_language c) (flat_map (node_words c) (numbers (n + 1)))
    ≡ spaced_words (named_language c) (flat_map (node_words c) (numbers n))
    ++ ((if n == 0 then [] else codes ",") ++ spaced_words (named_language c) (addressed_node c n))
nodes-more c n =
    let l = named_language c in
    let before = flat_map (node_words c) (numbers n) in
    ap (spaced_words l) (numbers-more (node_words c) n) ∙ flat-append (text_after_space l) before (node_words c n)
    ∙ ap (λ t. spaced_words l before ++ t) (gap-before l (n == 0) (addressed_node c n))

-- ---- texts without LF, as words
pub bad-text : (t : List ℕ) → is_quiet t ≡ true → codes "# bad line: " ++ (t ++ 10 ∷ []) ≡ hash_line plain (Fixed (codes "bad line:") ∷ Said t ∷ [])
bad-text t h = ap (λ (s : List ℕ). codes "# bad line: " ++ (s ++ 10 ∷ [])) (sym (append-nil t) ∙ ap (λ s. s ++ []) (sym (quiet-same t h)))

pub failed-text : (l : Language) (what got : List ℕ) → is_quiet what ≡ true → is_quiet got ≡ true
    → 35 ∷ verdict_text what got ≡ hash_line l (Fixed (codes "expected") ∷ Said what ∷ Mark (codes ":") ∷ Said got ∷ [])
failed-text l what got h k =
    let texts : List ℕ → List ℕ → List ℕ = λ a b. codes "# expected " ++ ((a ++ (codes ": " ++ b)) ++ 10 ∷ []) in
    ap (λ (t : List ℕ). codes "# expected " ++ t) (sym (append_assoc what (codes ": " ++ got) (10 ∷ [])))
    ∙ ap (texts what) (sym (append-nil got) ∙ ap (λ s. s ++ []) (sym (quiet-same got k)))
    ∙ ap (λ a. texts a (seen_text got ++ [])) (sym (quiet-same what h))
