-- The text of a log says its steps.
use Rattle.std.proofs.Common.{◌≡◌, ◌∙◌, ℕ, List, [], ◌∷◌, ◌++◌, refl, sym, ap, subst, append_assoc, ◌+◌, ◌-◌, ◌==◌, Bool, true, false, arith, flat_map, if◌then◌else◌, length, map, not, slice_index, suc, take, Some, None, Ok}
use Rattle.std.specs.List.{All, list_all, slice_split}
use Rattle.std.specs.Str.Lines.{strip_carriage_return}
use Rattle.std.proofs.lemmas.Grind.{common_steps}
use Rattle.std.proofs.lemmas.List.Elements.{All-head, All-tail}
use Rattle.std.proofs.lemmas.List.Splits.{slice_split_at}
use Rattle.lin_core.specs.Fits.{FitsPort, FitsStep}
use Rattle.lin_core.specs.Runs.{steps_of}
use Rattle.lin_core.specs.declared.log.LogEntry.{LogEntry}
use Rattle.lin_core.specs.declared.port.PortId.{PortId}
use Rattle.lin_core.specs.declared.step.Step.{Step}
use Rattle.lin_log.specs.Words.{Word, line_tail, log_text, reply_line, spaced_word, step_line, step_words, word_text}
use Rattle.lin_log.specs.Words.Word.{Port}
use Rattle.lin_log.proofs.Quiet.{line-end, no-end, quiet-spaced, quiet-words, spaced-keeps, visible-end}
use Rattle.lin_log.specs.Language.{Language}
use Rattle.lin_log.specs.Laws.{FitsEntry, HasNames, TextsAgain, is_quiet, is_visible, no_end, step_body}
use Rattle.lin_log.specs.Said.{line_says, steps_from, text_says}
use Rattle.lin_log.proofs.Again.{lines-again, port-says, step-says}
use Rattle.lin_log.proofs.Items.{AreItems, at-place, both, joined, more, weaker}

-- what holds of visible bytes holds of all words of a line
items-keep : (p : ℕ → Bool) → ((x : ℕ) → is_visible x ≡ true → p x ≡ true) → (ws : List (List ℕ)) → AreItems ws → list_all (list_all p) ws ≡ true
items-keep p f [] h = refl
items-keep p f (w ∷ ws) (more a b) = both (list_all p w) (list_all (list_all p) ws) (weaker is_visible p f w a.visible) (items-keep p f ws b)

abbrev no_return : ℕ → Bool
no_return b = not (b == 13)

visible-return : (x : ℕ) → is_visible x ≡ true → no_return x ≡ true
visible-return x h = grind (arith, common_steps)

not-stripped : (w : List ℕ) → list_all no_return w ≡ true → strip_carriage_return w ≡ w
not-stripped w h =
    let last : (slice_index w (length w - 1) == 13) ≡ false = let r : no_return (slice_index w (length w - 1)) ≡ true = at-place no_return w (length w - 1) refl h in grind (arith, common_steps) in
    rw last refl

abbrev is_end : ℕ → Bool
is_end b = b == 10

abbrev Says : Language → List ℕ → List (PortId × Step) → Type 0
Says l rest xs = (m : ℕ) → steps_from l m (slice_split is_end rest) ≡ Ok xs

-- a line of a step, and one that says nothing, in front of a text
step-before : (l : Language) (body rest : List ℕ) (s : PortId × Step) (xs : List (PortId × Step)) → is_quiet body ≡ true
    → list_all no_return body ≡ true → line_says l body ≡ Ok (Some s) → Says l rest xs → Says l (body ++ 10 ∷ rest) (s ∷ xs)
step-before l body rest s xs h r e k m =
    rw (slice_split_at is_end body 10 rest (no-end body h) refl, not-stripped body r, e, k (m + 1)) refl

quiet-before : (l : Language) (body rest : List ℕ) (xs : List (PortId × Step)) → is_quiet body ≡ true
    → line_says l (strip_carriage_return body) ≡ Ok None → Says l rest xs → Says l (body ++ 10 ∷ rest) xs
quiet-before l body rest xs h e k m =
    rw (slice_split_at is_end body 10 rest (no-end body h) refl, e) (k (m + 1))

reply-says : (l : Language) (cs : List ℕ) → line_says l (62 ∷ cs) ≡ Ok None
unfolding line_says
reply-says l cs = refl

-- a reply says nothing without the carriage return at its end either
stripped-by : (l : Language) (x : ℕ) (xs : List ℕ) (t : Bool) → line_says l (if t then take (length (62 ∷ x ∷ xs) - 1) (62 ∷ x ∷ xs) else 62 ∷ x ∷ xs) ≡ Ok None
stripped-by l x xs true =
    let less : suc (length xs) ≡ length (62 ∷ x ∷ xs) - 1 = omega arith in
    subst (λ n. line_says l (take n (62 ∷ x ∷ xs)) ≡ Ok None) less (reply-says l (take (length xs) (x ∷ xs)))
stripped-by l x xs false = reply-says l (x ∷ xs)

stripped-says : (l : Language) (cs : List ℕ) → line_says l (strip_carriage_return (62 ∷ cs)) ≡ Ok None
stripped-says l [] = reply-says l []
stripped-says l (x ∷ xs) = stripped-by l x xs (slice_index (62 ∷ x ∷ xs) (length (62 ∷ x ∷ xs) - 1) == 13)

reply-before : (l : Language) (ws : List Word) (rest : List ℕ) (xs : List (PortId × Step)) → Says l rest xs → Says l (reply_line l ws ++ rest) xs
reply-before l ws rest xs k =
    let texts = map (word_text l) ws in
    let e : reply_line l ws ++ rest ≡ 62 ∷ (flat_map spaced_word texts ++ 10 ∷ rest) = ap (λ t. 62 ∷ t) (line-end texts rest) in
    subst (λ t. Says l t xs) (sym e)
    (quiet-before l (62 ∷ flat_map spaced_word texts) rest xs (quiet-spaced texts (quiet-words l ws)) (stripped-says l (flat_map spaced_word texts)) k)

replies-before : (l : Language) (rs : List (List Word)) (rest : List ℕ) (xs : List (PortId × Step)) → Says l rest xs
    → Says l (flat_map (reply_line l) rs ++ rest) xs
replies-before l [] rest xs k = k
replies-before l (r ∷ rs) rest xs k =
    subst (λ t. Says l t xs) (sym (append_assoc (reply_line l r) (flat_map (reply_line l) rs) rest))
    (reply-before l r (flat_map (reply_line l) rs ++ rest) xs (replies-before l rs rest xs k))

entry-before : (l : Language) (p : PortId) (s : Step) (rest : List ℕ) (xs : List (PortId × Step)) → HasNames l → (FitsPort p × FitsStep s) → Says l rest xs
    → Says l (step_line l p s ++ rest) ((p, s) ∷ xs)
entry-before l p s rest xs a h k =
    let w = word_text l (Port p) in
    let ws = map (word_text l) (step_words s) in
    let e : step_line l p s ++ rest ≡ step_body l p s ++ 10 ∷ rest =
    append_assoc w (line_tail ws) rest ∙ ap (λ t. w ++ t) (line-end ws rest) ∙ sym (append_assoc w (flat_map spaced_word ws) (10 ∷ rest)) in
    let all : (q : ℕ → Bool) → q 32 ≡ true → ((x : ℕ) → is_visible x ≡ true → q x ≡ true) → list_all q (step_body l p s) ≡ true =
    λ q space f. joined q w (flat_map spaced_word ws) (weaker is_visible q f w (port-says l a p h.0).word.visible) (spaced-keeps q space ws (items-keep q f ws (step-says l a s h.1).words)) in
    subst (λ t. Says l t ((p, s) ∷ xs)) (sym e)
    (step-before l (step_body l p s) rest (p, s) xs (all no_end refl visible-end) (all no_return refl visible-return) (lines-again l p s a h.0 h.1) k)

nothing-left : (l : Language) → Says l [] []
unfolding line_says
nothing-left l m = refl

log-says : (l : Language) (replies : LogEntry → List LogEntry → List (List Word)) (past log : List LogEntry) → HasNames l → All FitsEntry log
    → Says l (log_text l replies past log) (steps_of log)
log-says l replies past [] a fits = nothing-left l
log-says l replies past (e ∷ es) a fits =
    entry-before l e.port e.step (flat_map (reply_line l) (replies e past) ++ log_text l replies (e ∷ past) es) (steps_of es) a (All-head FitsEntry e es fits)
    (replies-before l (replies e past) (log_text l replies (e ∷ past) es) (steps_of es) (log-says l replies (e ∷ past) es a (All-tail FitsEntry e es fits)))

pub texts-again : TextsAgain
unfolding text_says
texts-again l replies log a fits = log-says l replies [] log a fits 1
