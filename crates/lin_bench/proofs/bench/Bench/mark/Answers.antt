use Rattle.std.proofs.Common.{rules, ◌≡◌, ◌∙◌, List, ap, arith, length, subst, sym, take}
use Rattle.std.proofs.lemmas.List.{take_all}
use Rattle.lin_core.specs.declared.log.LogEntry.{LogEntry}
use Rattle.lin_bench.specs.Marks.{IsMarkOf}
use Rattle.lin_bench.specs.Searches.{IsSearchState}
use Rattle.lin_bench.specs.declared.marks.Mark.{Mark}
use Rattle.lin_bench.proofs.bench.Bench.mark.Goals as goal

-- a mark of all entries
at-end : (log : List LogEntry) (m : Mark) → m.entries ≡ length log → IsSearchState log m.taken → IsMarkOf log m
at-end log m e found =
    let all = ap (λ n. take n log) e ∙ take_all (length log) log (omega arith) in
    record {
      entries = omega (arith, e);
      taken = subst (λ l. IsSearchState l m.taken) (sym all) found;
    }

pub returns-clause-mark : goal.returns-clause-mark
returns-clause-mark c =
    at-end c.args.self.now.core.log (record { entries = c.len.result; rules = c.in_ok-copy.field-0; taken = c.in_ok-copy-2.field-0 })
    (search rules) (search rules)
