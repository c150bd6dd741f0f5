-- The lines of logs: none begins with `#`.
use Rattle.std.proofs.Common.{◌≡◌, ◌∙◌, ℕ, ◌==◌, true, false, List, [], ◌∷◌, ◌++◌, refl, sym, ap, subst, append_assoc, flat_map, map, reverse, codes, Option}
use Rattle.std.proofs.lemmas.List.{reverse-append}
use Rattle.lin_parts.specs.declared.parts.Parts.{Parts}
use Rattle.lin_core.specs.declared.log.LogEntry.{LogEntry}
use Rattle.lin_core.specs.declared.port.PortId.{PortId}
use Rattle.lin_core.specs.declared.port.PortId.TheVariants.{Bus, Host, Node}
use Rattle.lin_core.specs.declared.step.Step.{Step}
use Rattle.lin_log.specs.Language.{Language, named_language, plain}
use Rattle.lin_log.specs.CallerTexts.{seen_text}
use Rattle.lin_log.specs.Laws.{is_quiet, no_end}
use Rattle.lin_log.specs.Words.{Word, line, line_tail, log_text, port_number_word, reply_line, reply_words, spaced_word, step_line, step_words, text, word_text}
use Rattle.lin_log.specs.Words.Word.{Port}
use Rattle.lin_log.proofs.Ends.{ended}
use Rattle.lin_log.proofs.Items.{joined}
use Rattle.lin_log.proofs.Logs.{entry_text, text-entries}
use Rattle.lin_log.proofs.Quiet.{quiet-spaced, quiet-word, quiet-words}
use Rattle.lin_values.specs.Coded.{CodedData}
use Rattle.lin_export.specs.Named.{reply_lines}
use Rattle.lin_export.specs.Jsonl.{entry_objects}
use Rattle.lin_export.proofs.Tellings.{each-append}
use Rattle.lin_live.specs.Told.{entries_text, is_text}
use Rattle.lin_live.specs.declared.answer_format.AnswerFormat.{AnswerFormat}
use Rattle.lin_live.specs.declared.answer_format.AnswerFormat.TheVariants.{Log, Named, Jsonl}
use Rattle.lin_tool.specs.laws.Transcripts.{with_line_end}
use Rattle.lin_tool.proofs.laws.Remarks.{Stays, stays-both, stays-line, stays-nothing}
use Rattle.std.proofs.lemmas.Grind.{flat_map-append}

-- ---- a line of words whose first word is no remark's
line-is : (word : List ℕ) (words : List (List ℕ)) → word ++ line_tail words ≡ with_line_end (word ++ flat_map spaced_word words)
line-is word words = ap (λ t. word ++ t) (sym (ended words)) ∙ sym (append_assoc word (flat_map spaced_word words) (10 ∷ []))

line-stays : (l : Language) (x : ℕ) (word : List ℕ) (ws : List Word) → (x == 35) ≡ false → is_quiet (x ∷ word) ≡ true
    → Stays (line ((x ∷ word) ∷ map (word_text l) ws))
line-stays l x word ws e h =
    let words = map (word_text l) ws in
    let body = x ∷ (word ++ flat_map spaced_word words) in
    subst Stays (sym (line-is (x ∷ word) words))
    (stays-line body (joined no_end (x ∷ word) (flat_map spaced_word words) h (quiet-spaced words (quiet-words l ws))) (rw e refl))

step-stays : (l : Language) (p : PortId) (s : Step) → Stays (step_line l p s)
step-stays l Bus s = line-stays l 98 (codes "us") (step_words s) refl refl
step-stays l (Host n) s = line-stays l 104 (seen_text (port_number_word l n)) (step_words s) refl (quiet-word l (Port (Host n)))
step-stays l (Node n) s = line-stays l 110 (seen_text (port_number_word l n)) (step_words s) refl (quiet-word l (Port (Node n)))

-- ---- the lines of a log
replies-stay : (l : Language) (rs : List (List Word)) → Stays (flat_map (reply_line l) rs)
replies-stay l [] = stays-nothing
replies-stay l (r ∷ rs) = stays-both (reply_line l r) (flat_map (reply_line l) rs) (line-stays l 62 [] r refl refl) (replies-stay l rs)

abbrev pub Replies : Type 0
Replies = LogEntry → List LogEntry → List (List Word)

log-stays : (l : Language) (replies : Replies) (past es : List LogEntry) → Stays (log_text l replies past es)
log-stays l replies past [] = stays-nothing
log-stays l replies past (e ∷ es) =
    let told = flat_map (reply_line l) (replies e past) in
    stays-both (step_line l e.port e.step) (told ++ log_text l replies (e ∷ past) es) (step-stays l e.port e.step)
    (stays-both told (log_text l replies (e ∷ past) es) (replies-stay l (replies e past)) (log-stays l replies (e ∷ past) es))

-- ---- in each of the two languages
abbrev pub plain_replies : Replies
plain_replies e past = reply_words e.reply

pub entries-stay : (f : AnswerFormat) (c : Parts) (k : Option CodedData) → is_text f ≡ true → (past es : List LogEntry)
    → Stays (entries_text f c k past es)
entries-stay Log c k text past es = log-stays plain plain_replies [] es
entries-stay Named c k text past es = log-stays (named_language c) (reply_lines c k) past es
entries-stay Jsonl c k text past es = absurd (cc)

-- ---- entries, and then more
back-to-front : (e : LogEntry) (es past : List LogEntry) → reverse (e ∷ es) ++ past ≡ reverse es ++ e ∷ past
back-to-front e es past = ap (λ l. l ++ past) (reverse-append (e ∷ []) es) ∙ append_assoc (reverse es) (e ∷ []) past

log-append : (l : Language) (replies : Replies) (past xs ys : List LogEntry)
    → log_text l replies past (xs ++ ys) ≡ log_text l replies past xs ++ log_text l replies (reverse xs ++ past) ys
log-append l replies past [] ys = refl
log-append l replies past (e ∷ es) ys =
    let first = step_line l e.port e.step in
    let told = flat_map (reply_line l) (replies e past) in
    let more = log_text l replies (e ∷ past) es in
    let rest = log_text l replies (reverse (e ∷ es) ++ past) ys in
    ap (λ t. first ++ (told ++ t)) (log-append l replies (e ∷ past) es ys ∙ ap (λ p. more ++ log_text l replies p ys) (sym (back-to-front e es past)))
    ∙ ap (λ t. first ++ t) (sym (append_assoc told more rest)) ∙ sym (append_assoc first (told ++ more) rest)

text-append : (xs ys : List LogEntry) → text (xs ++ ys) ≡ text xs ++ text ys
text-append xs ys =
    sym (text-entries (xs ++ ys)) ∙ flat_map-append entry_text xs ys ∙ ap (λ t. t ++ flat_map entry_text ys) (text-entries xs) ∙ ap (λ t. text xs ++ t) (text-entries ys)

pub entries-append : (f : AnswerFormat) (c : Parts) (k : Option CodedData) (past xs ys : List LogEntry)
    → entries_text f c k past (xs ++ ys) ≡ entries_text f c k past xs ++ entries_text f c k (reverse xs ++ past) ys
entries-append Log c k past xs ys = text-append xs ys
entries-append Named c k past xs ys = log-append (named_language c) (reply_lines c k) past xs ys
entries-append Jsonl c k past xs ys = each-append (entry_objects c k) past xs ys
