-- What is written in a language is read again in it.
use Rattle.std.specs.Prelude.{◌≡◌, ◌<◌, ℕ, ◌==◌, ◌||◌, ◌&&◌, ◌++◌, Bool, true, false, not, nat_lt}
use Rattle.std.specs.Prelude.{List, [], ◌∷◌, Ok, Option, Some, flat_map, map}
use Rattle.std.specs.List.{All, list_all}
use Rattle.lin_core.specs.Fits.{FitsPort, FitsStep}
use Rattle.lin_core.specs.Runs.{steps_of}
use Rattle.lin_core.specs.declared.log.LogEntry.{LogEntry}
use Rattle.lin_core.specs.declared.port.PortId.{PortId}
use Rattle.lin_core.specs.declared.step.Step.{Step}
use Rattle.lin_log.specs.Language.{Called, Language, plain}
use Rattle.lin_log.specs.Said.{is_digit, line_says, text_says}
use Rattle.lin_log.specs.Words.{Word, log_text, spaced_word, step_words, word_text}
use Rattle.lin_log.specs.Words.Word.{Port}

abbrev pub is_visible : ℕ → Bool
is_visible b = nat_lt 32 b && nat_lt b 127

abbrev pub all_visible : List ℕ → Bool
all_visible = list_all is_visible

-- visible ASCII characters that begin neither a number nor a comment
abbrev pub is_name : List ℕ → Bool
is_name [] = false
is_name (b ∷ bs) = not (is_digit b || b == 35) && all_visible (b ∷ bs)

-- names of things of one kind, no two alike
pub record AreNames (called : Called) : Type 0 where
  pub words : (k : ℕ) → k < called.count → is_name (called.name k) ≡ true
  pub unlike : (i k : ℕ) → i < called.count → k < called.count → called.name i ≡ called.name k
      → i ≡ k

pub record HasNames (l : Language) : Type 0 where
  pub of_nodes : AreNames l.nodes
  pub of_signals : AreNames l.signals
  pub of_tables : AreNames l.tables

-- a port and its step, on one line without its end
abbrev pub step_body : Language → PortId → Step → List ℕ
step_body l p s = word_text l (Port p) ++ flat_map spaced_word (map (word_text l) (step_words s))

abbrev pub LinesAgain : Type 0
LinesAgain = (l : Language) (p : PortId) (s : Step) → HasNames l → FitsPort p → FitsStep s
    → line_says l (step_body l p s) ≡ Ok (Some (p, s))

-- words without LF
abbrev pub no_end : ℕ → Bool
no_end b = not (b == 10)

abbrev pub is_quiet : List ℕ → Bool
is_quiet = list_all no_end

abbrev pub are_quiet : List (List ℕ) → Bool
are_quiet = list_all is_quiet

-- an entry's numbers and bytes keep to their types
abbrev pub FitsEntry : LogEntry → Type 0
FitsEntry e = FitsPort e.port × FitsStep e.step

-- the text of a log says the log's steps, whatever its replies tell
abbrev pub TextsAgain : Type 0
TextsAgain = (l : Language) (replies : LogEntry → List LogEntry → List (List Word)) (log : List LogEntry)
    → HasNames l → All FitsEntry log → text_says l (log_text l replies [] log) ≡ Ok (steps_of log)

-- a line that says something by numbers says it in each language, and so does a text
abbrev pub LinesStay : Type 0
LinesStay = (l : Language) (line : List ℕ) (said : Option (PortId × Step))
    → line_says plain line ≡ Ok said → line_says l line ≡ Ok said

abbrev pub TextsStay : Type 0
TextsStay = (l : Language) (text : List ℕ) (steps : List (PortId × Step))
    → text_says plain text ≡ Ok steps → text_says l text ≡ Ok steps
