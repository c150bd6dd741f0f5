use Rattle.std.proofs.Common.{◌∙◌, ◌++◌, Err, ap, reverse, subst, sym}
use Rattle.std.proofs.lemmas.List.{reverse-reverse}
use Rattle.std.proofs.lemmas.Result.{err_from_is_err_and}
use Rattle.lin_core.specs.Core.{CoreData}
use Rattle.lin_text.specs.Written.{WritesText}
use Rattle.lin_live.specs.Told.{HandData, object_ending, shown_coding}
use Rattle.lin_live.proofs.LinesTold.{log-told, names-told, no-memory, not-told, objects-told, telling}
use Rattle.lin_live.proofs.held.HeldBench.write_line_answer.Goals as goal

pub returns-in_err-write_line-in-Log : goal.returns-in_err-write_line-in-Log
returns-in_err-write_line-in-Log g c =
    let core = c.core.result.now in
    let format = ap (λ (h : HandData). h.format) (sym c.self.view_is) ∙ c.in-Log.is in
    let cluster = ap (λ (k : CoreData). k.cluster) c.core.ensures ∙ ap (λ (h : HandData). h.cluster) c.self.view_is in
    let log =
    ap (λ (k : CoreData). k.log) c.core.ensures ∙ sym (reverse-reverse c.self.inside.bench.core.log) ∙ ap (λ (h : HandData). reverse h.bench.past) c.self.view_is in
    let written =
    subst (λ t. WritesText (g.W.Write.contents c.args.writer.now) (g.W.Write.contents c.write_line.new.writer) c.write_line.result t)
    (log-told c.args.self.now c.args.kept.from c.args.verdict core format cluster log) (c.write_line.ensures (shown_coding c.args.self.now)) in
    let p = err_from_is_err_and c.from_residual.result c.from_residual.ensures.1 in
    not-told (telling c.args.self.now c.args.kept.from c.args.verdict) ⊥ c.args.self.now (g.W.Write.contents c.args.writer.now) (g.W.Write.contents c.write_line.new.writer)
    c.write_line.result c.from_residual.result written (p.1 ∙ ap Err p.2)

pub returns-in_err-text-in-Named : goal.returns-in_err-text-in-Named
returns-in_err-text-in-Named g c =
    let p = err_from_is_err_and c.from_residual-in_err-text-in-Named.result c.from_residual-in_err-text-in-Named.ensures.1 in
    no-memory (telling c.args.self.now c.args.kept.from c.args.verdict) ⊥ c.names_from.new.self (g.W.Write.contents c.args.writer.now) c.from_residual-in_err-text-in-Named.result (p.1 ∙ ap Err p.2)

pub returns-in_err-text-in-Jsonl : goal.returns-in_err-text-in-Jsonl
returns-in_err-text-in-Jsonl g c =
    let p = err_from_is_err_and c.from_residual-in_err-text-in-Jsonl.result c.from_residual-in_err-text-in-Jsonl.ensures.1 in
    no-memory (telling c.args.self.now c.args.kept.from c.args.verdict) ⊥ c.objects_from.new.self (g.W.Write.contents c.args.writer.now) c.from_residual-in_err-text-in-Jsonl.result (p.1 ∙ ap Err p.2)

pub returns-in_err-write_named_line-in-Named : goal.returns-in_err-write_named_line-in-Named
returns-in_err-write_named_line-in-Named g c =
    let core = c.core-in-Named.result.now in
    let view = c.self-in-Named.view_is ∙ c.names_from.ensures.same in
    let format = ap (λ (h : HandData). h.format) (sym c.self.view_is) ∙ c.in-Named.is in
    let cluster = ap (λ (k : CoreData). k.cluster) c.core-in-Named.ensures ∙ ap (λ (h : HandData). h.cluster) view in
    let log =
    ap (λ (k : CoreData). k.log) c.core-in-Named.ensures ∙ sym (reverse-reverse c.self-in-Named.inside.bench.core.log) ∙ ap (λ (h : HandData). reverse h.bench.past) view in
    let told = c.as_slice-entries.ensures.value ∙ c.in_ok-text-in-Named.ensures.text in
    let written =
    subst (λ t. WritesText (g.W.Write.contents c.args.writer.now) (g.W.Write.contents c.write_named_line.new.writer) c.write_named_line.result t)
    (names-told c.args.self.now c.args.kept.from c.args.verdict core c.as_slice-entries.result.now format cluster log told) (c.write_named_line.ensures (shown_coding c.args.self.now)) in
    let p = err_from_is_err_and c.from_residual-in_err-write_named_line-in-Named.result c.from_residual-in_err-write_named_line-in-Named.ensures.1 in
    not-told (telling c.args.self.now c.args.kept.from c.args.verdict) ⊥ c.names_from.new.self (g.W.Write.contents c.args.writer.now) (g.W.Write.contents c.write_named_line.new.writer)
    c.write_named_line.result c.from_residual-in_err-write_named_line-in-Named.result written (p.1 ∙ ap Err p.2)

pub returns-in_err-write_line_object-in-Jsonl : goal.returns-in_err-write_line_object-in-Jsonl
returns-in_err-write_line_object-in-Jsonl g c =
    let core = c.core-in-Jsonl.result.now in
    let view = c.self-in-Jsonl.view_is ∙ c.objects_from.ensures.same in
    let format = ap (λ (h : HandData). h.format) (sym c.self.view_is) ∙ c.in-Jsonl.is in
    let cluster = ap (λ (k : CoreData). k.cluster) c.core-in-Jsonl.ensures ∙ ap (λ (h : HandData). h.cluster) view in
    let log =
    ap (λ (k : CoreData). k.log) c.core-in-Jsonl.ensures ∙ sym (reverse-reverse c.self-in-Jsonl.inside.bench.core.log) ∙ ap (λ (h : HandData). reverse h.bench.past) view in
    let told = c.as_slice.ensures.value ∙ c.in_ok-text-in-Jsonl.ensures.text in
    let k = shown_coding c.args.self.now in
    let written =
    subst (λ t. WritesText (g.W.Write.contents c.args.writer.now) (g.W.Write.contents c.write_line_object.new.writer) c.write_line_object.result t)
    (ap (λ e. c.as_slice.result.now ++ object_ending core.cluster k e) c.in_ok-ending-in-Jsonl.ensures
    ∙ objects-told c.args.self.now c.args.kept.from c.args.verdict core c.as_slice.result.now format cluster log told)
    (c.write_line_object.ensures core.cluster k) in
    let p = err_from_is_err_and c.from_residual-in_err-write_line_object-in-Jsonl.result c.from_residual-in_err-write_line_object-in-Jsonl.ensures.1 in
    not-told (telling c.args.self.now c.args.kept.from c.args.verdict) ⊥ c.objects_from.new.self (g.W.Write.contents c.args.writer.now) (g.W.Write.contents c.write_line_object.new.writer)
    c.write_line_object.result c.from_residual-in_err-write_line_object-in-Jsonl.result written (p.1 ∙ ap Err p.2)
