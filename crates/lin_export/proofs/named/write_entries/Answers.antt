use Rattle.std.proofs.Common.{◌∙◌, drop, reverse, rules, sym, take}
use Rattle.lin_text.proofs.Growing.{text-written}
use Rattle.lin_export.specs.WhereTold.{given_coding}
use Rattle.lin_export.proofs.Lines.{log-entries}
use Rattle.lin_export.proofs.Puttings.{written-same, written-short}
use Rattle.lin_export.proofs.named.write_entries.Goals as goal

pub returns-in_err-finish-clause-text : goal.returns-in_err-finish-clause-text
returns-in_err-finish-clause-text g c =
    let put = c.put_entries-put.ensures.text in
    let same = sym (put.grows.same ∙ c.new-out.ensures.same) in
    let written =
    written-same (log-entries c.args.cluster.now (given_coding c.args.coded) (reverse (take c.args.from c.args.log.now.entries)) (drop c.args.from c.args.log.now.entries))
    (written-short put.rest c.from_residual.ensures.0 put.whole (text-written c.new-out.ensures put.grows c.finish.ensures)) in
    search rules

pub returns-in_err-put-clause-text : goal.returns-in_err-put-clause-text
returns-in_err-put-clause-text g c =
    let put = c.put_entries-put.ensures.text in
    let same = sym (put.grows.same ∙ c.new-out.ensures.same) in
    let written =
    written-same (log-entries c.args.cluster.now (given_coding c.args.coded) (reverse (take c.args.from c.args.log.now.entries)) (drop c.args.from c.args.log.now.entries))
    (written-short put.rest c.from_residual-in_err-put.ensures.0 put.whole (text-written c.new-out.ensures put.grows c.finish.ensures)) in
    search rules

pub returns-clause-text : goal.returns-clause-text
returns-clause-text g c =
    let put = rw c.in_ok-put.was at c.put_entries-put.ensures.text in
    let same = sym (put.grows.same ∙ c.new-out.ensures.same) in
    let written =
    written-same (put.all ∙ log-entries c.args.cluster.now (given_coding c.args.coded) (reverse (take c.args.from c.args.log.now.entries)) (drop c.args.from c.args.log.now.entries))
    (text-written c.new-out.ensures put.grows (rw c.in_ok-finish.was at c.finish.ensures)) in
    search rules
