use Rattle.std.proofs.Common.{◌≡◌, ◌++◌, map, take}
use Rattle.std.specs.Prelude.{filter}
use Rattle.lin_sections.specs.Things.{is_other_line, line_fact}
use Rattle.lin_sections.proofs.diff.header_facts.add_lines.Given as goal

abbrev pub invariant-loop-line : goal.invariant-loop-line
invariant-loop-line l =
    l.facts.items ≡ l.initial.facts.items ++ map line_fact (filter is_other_line (take l.line-index l.lines))
