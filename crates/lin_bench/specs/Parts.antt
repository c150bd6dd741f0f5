-- Fields of a line, and the parts of a line with words, as code has them.
use Rattle.std.specs.Prelude.{ℕ, List, Option, Result, option_map, take}
use Rattle.lin_parts.specs.declared.parts.Parts.{Parts}
use Rattle.lin_frame.specs.declared.value.Value.{Value}
use Rattle.lin_log.specs.Said as log
use Rattle.lin_values.specs.Coded.{CodedData}
use Rattle.lin_values.specs.Raws.{values_of}
use Rattle.lin_bench.specs.Fields.{maybe_text}
use Rattle.lin_bench.specs.RuleLines.{answers_of, when_of}
use Rattle.lin_bench.specs.Words.{OnLine, WordedLine, by_wish, only_value}
use Rattle.lin_bench.specs.declared.fields.Fields.{Fields}
use Rattle.lin_bench.specs.declared.line.ScriptLine.{ScriptLine}
use Rattle.lin_bench.specs.declared.reason.Reason.{Reason}
use Rattle.lin_bench.specs.declared.rule_lines.Whose.{Whose}
use Rattle.lin_bench.specs.declared.rules.Rule.{Rule}
use Rattle.lin_bench.specs.declared.said_values.Said.{Said}
use Rattle.lin_bench.specs.declared.worded_ons.WordedOn.{WordedOn}
use Rattle.lin_bench.specs.declared.words.Worded.{Worded}

unfoldable pub fields_of : Fields → List (List ℕ)
fields_of f = take f.count (log.fields f.is_free f.line.now)

abbrev pub worded_line_of : Worded → WordedLine
worded_line_of w =
    record { wish = w.wish; before = fields_of w.before; signal = w.signal.now; words = fields_of w.words }

abbrev pub on_line_of : WordedOn → OnLine
on_line_of o = record {
  before = fields_of o.before;
  signal = o.signal.now;
  words = fields_of o.words;
  behind = fields_of o.behind;
}

-- what a line of a rule says of a node in a state, if one is named
abbrev pub when_with : Parts → Whose → Fields → Option Fields → Option (List ℕ) → Result Rule Reason
when_with c w pattern answers next =
    when_of c w.node.now (maybe_text w.state) (fields_of pattern) (answers_of (option_map fields_of answers)) next

-- what words say: the one value, and a line that asks for this of a signal
abbrev pub said_value : CodedData → Said → Result Value Reason
said_value k d =
    only_value k d.signal d.field.now d.text.now d.first.now (values_of k d.signal d.text.now)

abbrev pub said_by_wish : Parts → CodedData → Worded → Said → Option ScriptLine → Result (Option ScriptLine) Reason
said_by_wish c k w d at_zero =
    by_wish c k (worded_line_of w) at_zero d.field.now d.text.now d.first.now (fields_of d.others) d.signal w.wish
