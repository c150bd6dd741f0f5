-- The parts of an answer and the lines of nodes, one more at a time, and ports and steps of repetitions.
use Rattle.std.proofs.Common.{◌≡◌, ◌∙◌, ◌+◌, ◌<◌, ℕ, List, [], ◌∷◌, ◌++◌, Option, Some, None, false, refl, sym, true, ap, append_assoc, add-one, append-nil, codes, find, flat_map, get_or, length, map, take}
use Rattle.std.specs.Option.{option_map_or}
use Rattle.std.proofs.lemmas.Grind.{flat_map-append}
use Rattle.std.proofs.lemmas.List.{take_more}
use Rattle.lin_frame.specs.Words.{numbers}
use Rattle.lin_parts.specs.declared.parts.Parts.{Parts}
use Rattle.lin_core.specs.History.{is_in}
use Rattle.lin_core.specs.declared.port.PortId.{PortId}
use Rattle.lin_core.specs.declared.port.PortId.TheVariants.{Bus, Host, Node}
use Rattle.lin_core.specs.declared.step.Step.{Step}
use Rattle.lin_core.specs.declared.step.Step.TheVariants.{Send, Write, Open, Answer, Leave, Hurt}
use Rattle.lin_core.specs.declared.step.Step.TheVariants.{Finish, Timeout, Switch, AskSleep, Wake}
use Rattle.lin_core.specs.declared.step.Step.TheVariants.{Close}
use Rattle.lin_log.specs.Language.{Language, named_language}
use Rattle.lin_log.specs.Words.{spaced_word, step_words, word_text}
use Rattle.lin_log.specs.Words.Word.{Port}
use Rattle.lin_bench.specs.LineWords.{spaced_words}
use Rattle.lin_bench.specs.Rules.{is_limit_of, is_state_of}
use Rattle.lin_bench.specs.RulesInForce.{off_line, off_lines_of, own_limit_line, own_limit_lines_of, part_gap, part_word, parts_text, port_text, state_line, state_lines_of}
use Rattle.lin_bench.specs.Texts.{cluster_text, repeated_words}
use Rattle.lin_bench.specs.declared.rules.NodeState.{NodeState}
use Rattle.lin_bench.specs.declared.rules.OwnLimit.{OwnLimit}
use Rattle.lin_bench.specs.declared.rules.Part.{Part}

-- the last of parts after another one
abbrev pub last_part : Option Part → List Part → Option Part
last_part before [] = before
last_part before (p ∷ ps) = last_part (Some p) ps

last-behind : (before : Option Part) (ps : List Part) (p : Part) → last_part before (ps ++ p ∷ []) ≡ Some p
last-behind before [] p = refl
last-behind before (q ∷ qs) p = last-behind (Some q) qs p

parts-behind : (before : Option Part) (ps : List Part) (p : Part)
    → parts_text before (ps ++ p ∷ []) ≡ parts_text before ps ++ (part_gap (last_part before ps) p ++ part_word p)
parts-behind before [] p = append-nil (part_gap before p ++ part_word p)
parts-behind before (q ∷ qs) p =
    ap (λ t. (part_gap before q ++ part_word q) ++ t) (parts-behind (Some q) qs p)
    ∙ sym (append_assoc (part_gap before q ++ part_word q) (parts_text (Some q) qs) (part_gap (last_part (Some q) qs) p ++ part_word p))

pub last-next : (ps : List Part) (i : ℕ) (d : Part) → i < length ps → last_part None (take (i + 1) ps) ≡ Some (get_or ps i d)
last-next ps i d h = ap (last_part None) (take_more ps i d h) ∙ last-behind None (take i ps) (get_or ps i d)

pub parts-next : (ps : List Part) (i : ℕ) (d : Part) → i < length ps
    → parts_text None (take (i + 1) ps) ≡ parts_text None (take i ps) ++ (part_gap (last_part None (take i ps)) (get_or ps i d) ++ part_word (get_or ps i d))
parts-next ps i d h = ap (parts_text None) (take_more ps i d h) ∙ parts-behind None (take i ps) (get_or ps i d)

-- a port other than the bus
pub port-spaced : (c : Parts) (by : PortId) → (by ≡ Bus → ⊥) → spaced_word (word_text (named_language c) (Port by)) ≡ port_text c by
port-spaced c Bus h = absurd (h refl)
port-spaced c (Host n) h = refl
port-spaced c (Node n) h = refl

-- the end of a repetition: each word of its step has a space before it
step-spaced : (l : Language) (s : Step) → flat_map spaced_word (map (word_text l) (step_words s)) ≡ spaced_words l (step_words s)
step-spaced l (Send from to message) = refl
step-spaced l (Write by signal value) = refl
step-spaced l Open = refl
step-spaced l (Answer node) = refl
step-spaced l (Leave node) = refl
step-spaced l (Hurt bytes) = refl
step-spaced l Finish = refl
step-spaced l (Timeout node dir) = refl
step-spaced l (Switch table) = refl
step-spaced l AskSleep = refl
step-spaced l Wake = refl
step-spaced l (Close host) = refl

pub every-end-text : (c : Parts) (by : PortId) (s : Step)
    → codes " every off" ++ (port_text c by ++ flat_map spaced_word (map (word_text (named_language c)) (step_words s)))
    ≡ spaced_word (cluster_text c (repeated_words by s))
every-end-text c Bus s = ap (λ t. codes " every off" ++ t) (step-spaced (named_language c) s)
every-end-text c (Host n) s =
    ap (λ t. codes " every off" ++ (spaced_word (word_text (named_language c) (Port (Host n))) ++ t)) (step-spaced (named_language c) s)
every-end-text c (Node n) s =
    ap (λ t. codes " every off" ++ (spaced_word (word_text (named_language c) (Port (Node n))) ++ t)) (step-spaced (named_language c) s)

-- the lines of one more node
pub lines-next : (of : ℕ → List (List ℕ)) (n : ℕ) (first lines more : List (List ℕ)) → lines ≡ first ++ flat_map of (numbers n) → more ≡ lines ++ of n
    → more ≡ first ++ flat_map of (numbers (n + 1))
lines-next of n first lines more so-far one =
    let next : flat_map of (numbers (n + 1)) ≡ flat_map of (numbers n) ++ of n =
    ap (λ i. flat_map of (numbers i)) (add-one n) ∙ flat_map-append of (numbers n) (n ∷ []) ∙ ap (λ l. flat_map of (numbers n) ++ l) (append-nil (of n)) in
    one ∙ ap (λ l. l ++ of n) so-far ∙ append_assoc first (flat_map of (numbers n)) (of n) ∙ ap (λ l. first ++ l) (sym next)

-- the lines of the states of one more node
pub states-next : (c : Parts) (states : List NodeState) (n : ℕ) (first lines more : List (List ℕ)) → lines ≡ first ++ flat_map (state_lines_of c states) (numbers n)
    → more ≡ lines ++ state_lines_of c states n → more ≡ first ++ flat_map (state_lines_of c states) (numbers (n + 1))
states-next c states n first lines more so-far one = lines-next (state_lines_of c states) n first lines more so-far one

pub state-kept : (c : Parts) (states : List NodeState) (n : ℕ) (s : NodeState) → Some s ≡ find (is_state_of n) states → state_line c s ∷ [] ≡ state_lines_of c states n
state-kept c states n s found = ap (λ o. option_map_or (λ s. state_line c s ∷ []) o []) found

pub state-default : (c : Parts) (states : List NodeState) (n : ℕ) → None ≡ find (is_state_of n) states → [] ≡ state_lines_of c states n
state-default c states n found = ap (λ o. option_map_or (λ s. state_line c s ∷ []) o []) found

-- the limit of one node, if it has one of its own, and whether it is off
pub own-kept : (c : Parts) (own : List OwnLimit) (n : ℕ) (o : OwnLimit) → Some o ≡ find (is_limit_of n) own → own_limit_line c o ∷ [] ≡ own_limit_lines_of c own n
own-kept c own n o found = ap (λ o. option_map_or (λ o. own_limit_line c o ∷ []) o []) found

pub own-default : (c : Parts) (own : List OwnLimit) (n : ℕ) → None ≡ find (is_limit_of n) own → [] ≡ own_limit_lines_of c own n
own-default c own n found = ap (λ o. option_map_or (λ o. own_limit_line c o ∷ []) o []) found

pub off-kept : (c : Parts) (offs : List ℕ) (n : ℕ) → is_in offs n ≡ true → off_line c n ∷ [] ≡ off_lines_of c offs n
off-kept c offs n off = rw off refl

pub off-default : (c : Parts) (offs : List ℕ) (n : ℕ) → is_in offs n ≡ false → [] ≡ off_lines_of c offs n
off-default c offs n on = rw on refl
