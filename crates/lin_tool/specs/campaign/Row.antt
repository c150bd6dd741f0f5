-- What a play came to under faults.
use Rattle.std.specs.Prelude.{ℕ, ◌==◌, ◌&&◌, Bool, not, if◌then◌else◌, List, [], ◌∷◌, ◌++◌}
use Rattle.std.specs.Prelude.{drop, flat_map, reverse, take, Option, Some, None}
use Rattle.std.specs.List.{filter_map, list_any}
use Rattle.lin_core.specs.History.{events, is_in, time}
use Rattle.lin_core.specs.Tables.{cause_number, refusal_number}
use Rattle.lin_core.specs.declared.event.Event.{Event}
use Rattle.lin_core.specs.declared.event.Event.TheVariants.{Lost}
use Rattle.lin_core.specs.declared.log.LogEntry.{LogEntry}
use Rattle.lin_core.specs.declared.reply.Reply.{Reply}
use Rattle.lin_core.specs.declared.reply.Reply.TheVariants.{Done, Refused}
use Rattle.lin_bench.specs.Played.{is_unmet}
use Rattle.lin_bench.specs.declared.got.Judgement.{Judgement}
use Rattle.lin_bench.specs.declared.place.LinePlace.{LinePlace}
use Rattle.lin_bench.specs.declared.playing.LineEnd.{LineEnd}
use Rattle.lin_bench.specs.declared.playing.PlayedUnder.{PlayedUnder}
use Rattle.lin_tool.specs.Page.{events_so, is_seen}
use Rattle.lin_tool.specs.Tally.{waiting_in}
use Rattle.lin_tool.specs.declared.campaign.row.LostMessage.{LostMessage}
use Rattle.lin_tool.specs.declared.campaign.row.RefusedStep.{RefusedStep}
use Rattle.lin_tool.specs.declared.campaign.row.Row.{Row}
use Rattle.lin_tool.specs.declared.campaign.row.RowVerdict.{RowVerdict}
use Rattle.lin_tool.specs.declared.campaign.row.RowVerdict.TheVariants.{Tolerated, Broken, Limit}

-- ---- the lines with a judgement that isn't met
-- a line is listed once, also if it is read several times; these lines are listed before
abbrev pub unmet_after : List ℕ → List Judgement → List ℕ
unmet_after before [] = []
unmet_after before (j ∷ js) =
    if is_unmet j.judged && not (is_in before j.place.own)
    then j.place.own ∷ unmet_after (before ++ j.place.own ∷ []) js else unmet_after before js

abbrev pub unmet_lines : List Judgement → List ℕ
unmet_lines js = unmet_after [] js

-- ---- the messages that were lost
abbrev pub loss_in : Event → Option LostMessage
loss_in (Lost host number cause) = Some (record { host = host; number = number; cause = cause })
loss_in event = None

abbrev pub lost_messages : List LogEntry → List LostMessage
lost_messages log = flat_map (λ e. filter_map loss_in (events e)) log

abbrev pub is_same_loss : LostMessage → LostMessage → Bool
is_same_loss a b =
    a.host == b.host && a.number == b.number && cause_number a.cause == cause_number b.cause

-- ---- the steps that were refused
abbrev pub refusal_on : ℕ → Reply → Option RefusedStep
refusal_on n (Done es) = None
refusal_on n (Refused why) = Some (record { line = n; refusal = why })

abbrev pub is_same_refusal : RefusedStep → RefusedStep → Bool
is_same_refusal a b = a.line == b.line && refusal_number a.refusal == refusal_number b.refusal

abbrev pub has_refusal : List RefusedStep → RefusedStep → Bool
has_refusal before r = list_any (λ s. is_same_refusal s r) before

-- a refused step, if it isn't among these
abbrev pub new_refusal : List RefusedStep → Option RefusedStep → List RefusedStep
new_refusal before None = []
new_refusal before (Some r) = if has_refusal before r then [] else r ∷ []

-- the refused steps of line n, which has these entries, the same two once; before them are these
abbrev pub refused_after : List RefusedStep → ℕ → List LogEntry → List RefusedStep
refused_after before n [] = []
refused_after before n (e ∷ es) =
    let new = new_refusal before (refusal_on n e.reply)
    in new ++ refused_after (before ++ new) n es

-- those of the lines with these ends, whose entries begin at one of the log
abbrev pub refused_from : List LogEntry → ℕ → List LineEnd → List RefusedStep
refused_from log from [] = []
refused_from log from (end ∷ ends) =
    refused_after [] end.place.own (drop from (take end.entries log)) ++ refused_from log end.entries ends

abbrev pub refused_steps : List LogEntry → List LineEnd → List RefusedStep
refused_steps log ends = refused_from log 0 ends

-- ---- the row
abbrev pub verdict_of : Option LinePlace → List ℕ → RowVerdict
verdict_of (Some p) lines = Limit p.own
verdict_of None [] = Tolerated
verdict_of None (n ∷ ns) = Broken

abbrev pub row_of : PlayedUnder → Row
row_of p = record {
  verdict = verdict_of p.limit (unmet_lines p.judgements);
  missed = p.missed;
  lines = unmet_lines p.judgements;
  lost = lost_messages p.core.log;
  refused = refused_steps p.core.log p.ends;
  slots = events_so is_seen p.core.log;
  time_us = time p.core.cluster (reverse p.core.log);
  waiting = waiting_in p.core.cluster (reverse p.core.log);
}
