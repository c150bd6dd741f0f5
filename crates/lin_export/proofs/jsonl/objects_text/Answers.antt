use Rattle.std.proofs.Common.{◌≡◌, ◌∙◌, List, ap, arith, drop, reverse, rules, subst, take}
use Rattle.std.proofs.lemmas.List.{take_all}
use Rattle.lin_core.specs.declared.log.LogEntry.{LogEntry}
use Rattle.lin_text.proofs.Growing.{text-written}
use Rattle.lin_export.specs.Jsonl.{IsObjectTrackOf, objects_of}
use Rattle.lin_export.specs.WhereTold.{given_coding}
use Rattle.lin_export.proofs.Puttings.{written-same}
use Rattle.lin_export.proofs.jsonl.objects_text.Goals as goal

pub returns-in-Ok-clause-text : goal.returns-in-Ok-clause-text
returns-in-Ok-clause-text c =
    let es = c.args.log.now.entries in
    let all : take c.len.result es ≡ es = take_all c.len.result es (omega (arith, c.len.ensures.len)) in
    let put = rw c.in_ok-put_entries.was at c.put_entries.ensures.text in
    let written =
    written-same
    (put.all ∙ ap (λ (l : List LogEntry). objects_of c.args.cluster.now (given_coding c.args.coded) (reverse (take c.args.from es)) (drop c.args.from l)) all)
    (text-written c.new-out.ensures put.grows (rw c.in-Ok.is at c.finish.ensures)) in
    search rules

pub returns-in-Ok-clause-track : goal.returns-in-Ok-clause-track
returns-in-Ok-clause-track c =
    let es = c.args.log.now.entries in
    let all : take c.len.result es ≡ es = take_all c.len.result es (omega (arith, c.len.ensures.len)) in
    subst (λ (l : List LogEntry). IsObjectTrackOf c.args.cluster.now (reverse l) c.put_entries.new.self) all (rw c.in_ok-put_entries.was at c.put_entries.ensures.track)
