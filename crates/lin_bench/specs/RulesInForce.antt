-- The rules in force as the lines that make them.
use Rattle.std.specs.Prelude.{ℕ, ◌==◌, Bool, if◌then◌else◌, List, [], ◌∷◌, ◌++◌, codes, find, flat_map, map, Option, Some, None}
use Rattle.std.specs.Option.{option_map_or}
use Rattle.std.specs.Fmt.{decimal}
use Rattle.hex.specs.Hex.{encode_upper}
use Rattle.lin_frame.specs.Words.{numbers}
use Rattle.lin_parts.specs.Cluster.{nodes}
use Rattle.lin_parts.specs.declared.parts.Parts.{Parts}
use Rattle.lin_core.specs.declared.port.PortId.{PortId}
use Rattle.lin_core.specs.declared.port.PortId.TheVariants.{Bus}
use Rattle.lin_core.specs.History.{is_in}
use Rattle.lin_log.specs.Language.{named_language}
use Rattle.lin_log.specs.Words.{pattern_word, spaced_word, step_words, word_text}
use Rattle.lin_log.specs.Words.Word.{Node, Port}
use Rattle.lin_bench.specs.Rules.{is_limit_of, is_state_of}
use Rattle.lin_bench.specs.Texts.{cluster_text, condition_words}
use Rattle.lin_bench.specs.declared.rules.Every.{Every}
use Rattle.lin_bench.specs.declared.rules.Limit.{Limit}
use Rattle.lin_bench.specs.declared.rules.Limit.TheVariants.{Ldf, Milliseconds}
use Rattle.lin_bench.specs.declared.rules.NodeState.{NodeState}
use Rattle.lin_bench.specs.declared.rules.On.{On}
use Rattle.lin_bench.specs.declared.rules.OwnLimit.{OwnLimit}
use Rattle.lin_bench.specs.declared.rules.Part.{Part}
use Rattle.lin_bench.specs.declared.rules.Part.TheVariants.{Byte, Copied}
use Rattle.lin_bench.specs.declared.rules.RuleAnswer.{RuleAnswer}
use Rattle.lin_bench.specs.declared.rules.Rules.{Rules}
use Rattle.lin_bench.specs.declared.rules.When.{When}
use Rattle.lin_bench.specs.declared.rules_in_force.RuleLine.{RuleLine}
use Rattle.lin_bench.specs.declared.rules_in_force.RuleLine.TheVariants as code

-- ---- `when`: bytes in a row are one field, and each byte that is copied is a field, `$` and its number
abbrev pub part_word : Part → List ℕ
part_word (Byte b) = encode_upper (b ∷ [])
part_word (Copied k) = 36 ∷ decimal k

-- what stands between a part and the one before it
abbrev pub part_gap : Option Part → Part → List ℕ
part_gap (Some (Byte a)) (Byte b) = []
part_gap before part = 32 ∷ []

-- the parts after another one
abbrev pub parts_text : Option Part → List Part → List ℕ
parts_text before [] = []
parts_text before (p ∷ ps) = (part_gap before p ++ part_word p) ++ parts_text (Some p) ps

-- a time in milliseconds after a word
abbrev pub time_text : List ℕ → ℕ → List ℕ
time_text word ms = word ++ (decimal ms ++ codes " ms")

abbrev pub wait_text : ℕ → List ℕ
wait_text ms = if ms == 0 then [] else time_text (codes " after ") ms

abbrev pub answer_text : RuleAnswer → List ℕ
answer_text a = parts_text None a.parts ++ wait_text a.wait_ms

abbrev pub further_answer_text : RuleAnswer → List ℕ
further_answer_text a = codes " then" ++ answer_text a

abbrev pub answers_text : List RuleAnswer → List ℕ
answers_text [] = codes " silent"
answers_text (a ∷ more) = codes " answer" ++ (answer_text a ++ flat_map further_answer_text more)

-- a state, after a word
abbrev pub name_text : List ℕ → Option (List ℕ) → List ℕ
name_text word None = []
name_text word (Some name) = word ++ name

abbrev pub when_line : Parts → When → List ℕ
when_line c w =
    codes "when"
    ++ (spaced_word (word_text (named_language c) (Node w.node))
    ++ (name_text (codes " in ") w.state
    ++ (spaced_word (pattern_word w.pattern)
    ++ (answers_text w.answers ++ name_text (codes " enter ") w.enter))))

-- ---- `every`: the bus makes the step if no port stands before it
abbrev pub port_text : Parts → PortId → List ℕ
port_text c Bus = []
port_text c port = spaced_word (word_text (named_language c) (Port port))

abbrev pub every_line : Parts → Every → List ℕ
every_line c e =
    time_text (codes "every ") e.period_ms
    ++ (port_text c e.by ++ flat_map spaced_word (map (word_text (named_language c)) (step_words e.step)))

-- ---- `on`
abbrev pub on_line : Parts → On → List ℕ
on_line c o =
    codes "on "
    ++ (cluster_text c (condition_words o.form.wanted o.form.what)
    ++ (codes " do"
    ++ (port_text c o.by ++ flat_map spaced_word (map (word_text (named_language c)) (step_words o.step)))))

-- ---- `state`: those that aren't `default`, by rising node
abbrev pub state_line : Parts → NodeState → List ℕ
state_line c s =
    codes "state" ++ (spaced_word (word_text (named_language c) (Node s.node)) ++ spaced_word s.name)

abbrev pub state_lines_of : Parts → List NodeState → ℕ → List (List ℕ)
state_lines_of c states n = option_map_or (λ s. state_line c s ∷ []) (find (is_state_of n) states) []

abbrev pub state_lines : Parts → List NodeState → List (List ℕ)
state_lines c states = flat_map (state_lines_of c states) (numbers (nodes c))

-- ---- `timeouts` of single responders, by rising node
abbrev pub limit_text : Option ℕ → List ℕ
limit_text None = codes " off"
limit_text (Some ms) = time_text (codes " ") ms

abbrev pub own_limit_line : Parts → OwnLimit → List ℕ
own_limit_line c o =
    codes "timeouts"
    ++ (spaced_word (word_text (named_language c) (Node o.node)) ++ limit_text o.limit_ms)

abbrev pub own_limit_lines_of : Parts → List OwnLimit → ℕ → List (List ℕ)
own_limit_lines_of c own n =
    option_map_or (λ o. own_limit_line c o ∷ []) (find (is_limit_of n) own) []

abbrev pub own_limit_lines : Parts → List OwnLimit → List (List ℕ)
own_limit_lines c own = flat_map (own_limit_lines_of c own) (numbers (nodes c))

-- ---- the nodes that are off, by rising node
abbrev pub off_line : Parts → ℕ → List ℕ
off_line c node =
    codes "node" ++ (spaced_word (word_text (named_language c) (Node node)) ++ codes " off")

abbrev pub off_lines_of : Parts → List ℕ → ℕ → List (List ℕ)
off_lines_of c offs n = if is_in offs n then off_line c n ∷ [] else []

abbrev pub off_lines : Parts → List ℕ → List (List ℕ)
off_lines c offs = flat_map (off_lines_of c offs) (numbers (nodes c))

-- ---- all of them
-- the line of a rule, as code has it
abbrev pub rule_line : Parts → RuleLine → List ℕ
rule_line c (code.When w) = when_line c w.now
rule_line c (code.Timeouts ms) = time_text (codes "timeouts ") ms
rule_line c (code.Switch line) = line.now
rule_line c (code.Every e) = every_line c e.now
rule_line c (code.On o) = on_line c o.now
rule_line c (code.State s) = state_line c s.now
rule_line c (code.OwnLimit o) = own_limit_line c o
rule_line c (code.Off node) = off_line c node

abbrev pub timeouts_lines : Option Limit → List (List ℕ)
timeouts_lines None = []
timeouts_lines (Some (Milliseconds ms)) = time_text (codes "timeouts ") ms ∷ []
timeouts_lines (Some (Ldf limits)) = codes "timeouts ldf" ∷ []

-- a line that stands where something is on
abbrev pub line_if : Bool → List ℕ → List (List ℕ)
line_if is_on line = if is_on then line ∷ [] else []

abbrev pub switch_lines : Rules → List (List ℕ)
switch_lines r =
    line_if r.errors (codes "response_errors on") ++ line_if r.services (codes "services on")

abbrev pub lines_of_rules : Parts → Rules → List (List ℕ)
lines_of_rules c r =
    ((((((map (when_line c) r.whens ++ timeouts_lines r.limit) ++ own_limit_lines c r.own_limits)
    ++ switch_lines r)
    ++ map (λ repeated. every_line c repeated.every) r.everies)
    ++ map (λ watched. on_line c watched.on) r.ons)
    ++ state_lines c r.states)
    ++ off_lines c r.offs
