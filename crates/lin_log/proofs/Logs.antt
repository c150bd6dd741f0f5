-- The text of a log by numbers.
use Rattle.std.proofs.Common.{◌≡◌, ◌∙◌, ℕ, List, [], ◌∷◌, ◌++◌, refl, ap, append_assoc, arith, flat_map, map, Some}
use Rattle.std.specs.List.{All}
use Rattle.std.specs.Result.{result_ok}
use Rattle.lin_core.specs.Runs.{steps_of}
use Rattle.lin_core.specs.declared.event.Event.{Event}
use Rattle.lin_core.specs.declared.log.LogEntry.{LogEntry}
use Rattle.lin_log.specs.Language.{nameless, plain}
use Rattle.lin_log.specs.Laws.{AreNames, FitsEntry, HasNames}
use Rattle.lin_log.specs.Script.{script, steps, without_reason}
use Rattle.lin_log.specs.Words.{event_words, log_text, reply_line, reply_words, step_line, text}
use Rattle.lin_log.proofs.Texts.{texts-again}

pub no-names : AreNames nameless
no-names = record { words = λ k h. absurd (omega arith); unlike = λ i k h g e. absurd (omega arith) }

pub plain-names : HasNames plain
plain-names = record { of_nodes = no-names; of_signals = no-names; of_tables = no-names }

pub steps-text : (es : List LogEntry) → All FitsEntry es → steps (text es) ≡ Some (steps_of es)
unfolding script
steps-text es fits = ap (λ r. result_ok (without_reason r)) (texts-again plain (λ e past. reply_words e.reply) es plain-names fits)

-- entry by entry
abbrev pub entry_text : LogEntry → List ℕ
entry_text e = step_line plain e.port e.step ++ flat_map (reply_line plain) (reply_words e.reply)

text-from : (past es : List LogEntry) → flat_map entry_text es ≡ log_text plain (λ e p. reply_words e.reply) past es
text-from past [] = refl
text-from past (e ∷ es) =
    append_assoc (step_line plain e.port e.step) (flat_map (reply_line plain) (reply_words e.reply)) (flat_map entry_text es)
    ∙ ap (λ t. step_line plain e.port e.step ++ (flat_map (reply_line plain) (reply_words e.reply) ++ t)) (text-from (e ∷ past) es)

pub text-entries : (es : List LogEntry) → flat_map entry_text es ≡ text es
text-entries es = text-from [] es

-- event by event
pub events-mapped : (es : List Event) → flat_map (λ e. reply_line plain (event_words e)) es ≡ flat_map (reply_line plain) (map event_words es)
events-mapped [] = refl
events-mapped (e ∷ es) = ap (λ t. reply_line plain (event_words e) ++ t) (events-mapped es)
