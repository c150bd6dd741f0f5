-- Texts that say steps alone: those in the language of the cluster's names, as logs with names are,
-- and the scripts that `replay` reads.
use Rattle.std.specs.Prelude.{◌≡◌, ◌⊎◌, ◌<◌, ◌==◌, ◌&&◌, ◌||◌, ℕ, Bool, false, List, [], ◌∷◌, codes, reverse, Option, Ok, Some, None}
use Rattle.std.specs.List.{list_any, slice_split}
use Rattle.std.specs.Str.{bytes_eq}
use Rattle.lin_parts.specs.declared.parts.Parts.{Parts}
use Rattle.lin_core.specs.Runs.{history}
use Rattle.lin_core.specs.declared.port.PortId.{PortId}
use Rattle.lin_core.specs.declared.step.Step.{Step}
use Rattle.lin_log.specs.Language.{Called, named_language, number_named}
use Rattle.lin_log.specs.Said.{text_says}
use Rattle.lin_log.specs.Script.{script}
use Rattle.lin_values.specs.Coded.{CodedData}
use Rattle.lin_bench.specs.Fields.{line_fields}
use Rattle.lin_bench.specs.Files.{SourceData}
use Rattle.lin_bench.specs.Lines.{is_resolved}
use Rattle.lin_bench.specs.Resolved.{names_parameter}
use Rattle.lin_bench.specs.Scripts.{read, read_lines, script_in_tests}
use Rattle.lin_bench.specs.Written.{goes_on, is_said, script_lines, without_mark}
use Rattle.lin_bench.specs.Played.{initial_bench, play_result}
use Rattle.lin_bench.specs.Strict.{has_test}
use Rattle.lin_bench.specs.declared.line.ScriptLine.{ScriptLine}
use Rattle.lin_bench.specs.declared.place.LinePlace.{LinePlace}
use Rattle.lin_bench.specs.declared.rules.NodeLimits.{NodeLimits}

-- no signal is called `=` or `~`, as no identifier is (LIN 2.2A, section 9.2)
pub record HasNoMarks (c : Parts) : Type 0 where
  pub equals : number_named (named_language c).signals (codes "=") ≡ None
  pub tilde : number_named (named_language c).signals (codes "~") ≡ None

-- ---- scripts that are read line by line
-- a line that stands for others: it goes on in the next one, a field of it names a parameter, or it is one
-- of `set`, `repeat`, `end` and `include`
abbrev pub begins_resolved : List (List ℕ) → Bool
begins_resolved [] = false
begins_resolved (word ∷ fs) = is_resolved word

abbrev pub resolves : List ℕ → Bool
resolves l =
    is_said l
    && (goes_on l || (list_any names_parameter (line_fields l) || begins_resolved (line_fields l)))

-- a script without such a line says what its lines say one by one, and has the same first bad line,
-- whatever files and parameters there are
abbrev pub LineByLine : Type 0
LineByLine = (c : Parts) (k : Option CodedData) (limits : List NodeLimits) (s : SourceData)
    → list_any resolves (script_lines s.text) ≡ false
    → read c k limits s
    ≡ script_in_tests 0 (read_lines c k limits 1 (slice_split (λ b. b == 10) (without_mark s.text)))

-- a text without `$` that isn't `\`, as each identifier is (LIN 2.2A, section 9.2)
abbrev pub IsPlainName : List ℕ → Type 0
IsPlainName f = (list_any (λ b. b == 36) f ≡ false) × (bytes_eq f (codes "\\") ≡ false)

-- the names of a cluster are such texts
abbrev pub ArePlain : Called → Type 0
ArePlain called = (k : ℕ) → k < called.count → IsPlainName (called.name k)

pub record HasPlainNames (c : Parts) : Type 0 where
  pub nodes : ArePlain (named_language c).nodes
  pub signals : ArePlain (named_language c).signals
  pub tables : ArePlain (named_language c).tables

-- a text whose steps can't stand for others: it has neither `$` nor `\`, or the names have neither
abbrev pub is_mark_byte : ℕ → Bool
is_mark_byte b = b == 36 || b == 92

abbrev pub HasPlainFields : Parts → List ℕ → Type 0
HasPlainFields c text = (list_any is_mark_byte text ≡ false) ⊎ HasPlainNames c

-- a bench script that reads well, also where what signals mean is known, and whatever the limits of transfers
-- in the LDF are, whose lines come to these steps and to nothing else, whatever files and parameters there are,
-- so no line resolves anything: they begin no test, make no slot of their own and expect nothing
pub record SaysSteps (c : Parts) (opening : ℕ) (capacity : ℕ) (text : List ℕ)
    (steps : List (PortId × Step)) : Type 0 where
  pub lines : List (LinePlace × ScriptLine)
  pub unresolved : list_any resolves (script_lines text) ≡ false
  pub reading
      : (limits : List NodeLimits) (s : SourceData) → s.text ≡ text → read c None limits s ≡ Ok lines
  pub coded
      : HasNoMarks c → (k : CodedData) (limits : List NodeLimits) (s : SourceData)
      → s.text ≡ text → read c (Some k) limits s ≡ Ok lines
  pub plainly
      : (limits : List NodeLimits)
      → read_lines c None limits 1 (slice_split (λ b. b == 10) (without_mark text)) ≡ Ok lines
  pub plainly_coded
      : HasNoMarks c → (k : CodedData) (limits : List NodeLimits)
      → read_lines c (Some k) limits 1 (slice_split (λ b. b == 10) (without_mark text)) ≡ Ok lines
  pub untested : has_test lines ≡ false
  pub steps_alone :
      play_result false c opening capacity lines
      ≡ Ok (record {
        bench = record initial_bench { past = history c opening capacity (reverse steps) };
        judgements = [];
      })

-- a script of `replay` says the same steps as a bench script
abbrev pub PlainScripts : Type 0
PlainScripts = (c : Parts) (opening capacity : ℕ) (text : List ℕ) (steps : List (PortId × Step))
    → script text ≡ Ok steps → SaysSteps c opening capacity text steps

-- and so does a text in the language of the cluster's names
abbrev pub NamedTexts : Type 0
NamedTexts = (c : Parts) (opening capacity : ℕ) (text : List ℕ) (steps : List (PortId × Step))
    → HasPlainFields c text → text_says (named_language c) text ≡ Ok steps → SaysSteps c opening capacity text steps
