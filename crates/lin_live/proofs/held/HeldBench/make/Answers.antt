use Rattle.std.proofs.Common.{◌≤◌, ◌<◌, ◌-◌, ◌^◌, ◌∙◌, ℕ, Err, List, ap, length, rules, subst, sym}
use Rattle.std.proofs.lemmas.Result.{err_from_is_err_and}
use Rattle.lin_core.specs.Core.{CoreData}
use Rattle.lin_bench.specs.Made.{made}
use Rattle.lin_live.specs.Held.{IsKept, earlier, held_data}
use Rattle.lin_live.specs.Serving.{WritesAnswer}
use Rattle.lin_live.specs.Told.{HandData, after_line, verdict_with_meaning, written}
use Rattle.lin_live.specs.declared.held.KeptTracks.{KeptTracks}
use Rattle.lin_live.proofs.LinesTold.{from-there, kept-there, line-grown, line-told-so, not-made, other-state, same-verdict, slot-there, telling}
use Rattle.lin_live.proofs.Replying.{tells-anyway}
use Rattle.lin_live.proofs.held.HeldBench.make.Goals as goal

pub write_unmet-requires-clause-there : goal.write_unmet-requires-clause-there
write_unmet-requires-clause-there g c =
    let from = c.len-from.ensures.len ∙ ap length (c.log.ensures.entries ∙ ap (λ (k : CoreData). k.log) c.core.ensures) in
    subst (λ (h : HandData). c.len-from.result ≤ length h.bench.past) (sym c.keep.ensures)
    (from-there c.self.inside c.make.new.self c.len-from.result
    (line-grown c.self.inside c.renew_slots.new.self c.make.new.self c.args.line c.in_ok-verdict.verdict c.renew_slots.ensures c.in_ok-verdict.ensures) from)

pub write_unmet-requires-clause-kept : goal.write_unmet-requires-clause-kept
write_unmet-requires-clause-kept g c =
    let from = c.len-from.ensures.len ∙ ap length (c.log.ensures.entries ∙ ap (λ (k : CoreData). k.log) c.core.ensures) in
    let kept : KeptTracks = record { from = c.len-from.result; track = c.take.result; objects = c.take-2.result } in
    subst (λ (h : HandData). IsKept h.cluster (earlier c.len-from.result h.bench.past) kept) (sym c.keep.ensures)
    (kept-there c.self.inside c.renew_slots.new.self c.make.new.self c.args.line c.in_ok-verdict.verdict c.len-from.result kept
    c.renew_slots.ensures c.in_ok-verdict.ensures from c.take.ensures.value c.take-2.ensures.value c.self.invariant)

pub write_line_answer-requires-clause-there : goal.write_line_answer-requires-clause-there
write_line_answer-requires-clause-there g c =
    let from = c.len-from.ensures.len ∙ ap length (c.log.ensures.entries ∙ ap (λ (k : CoreData). k.log) c.core.ensures) in
    subst (λ (h : HandData). c.len-from.result ≤ length h.bench.past) (sym c.keep.ensures)
    (from-there c.self.inside c.make.new.self c.len-from.result
    (line-grown c.self.inside c.renew_slots.new.self c.make.new.self c.args.line c.in_ok-verdict.verdict c.renew_slots.ensures c.in_ok-verdict.ensures) from)

pub write_line_answer-requires-clause-kept : goal.write_line_answer-requires-clause-kept
write_line_answer-requires-clause-kept g c =
    let from = c.len-from.ensures.len ∙ ap length (c.log.ensures.entries ∙ ap (λ (k : CoreData). k.log) c.core.ensures) in
    let kept : KeptTracks = record { from = c.len-from.result; track = c.take.result; objects = c.take-2.result } in
    subst (λ (h : HandData). IsKept h.cluster (earlier c.len-from.result h.bench.past) kept) (sym c.keep.ensures)
    (kept-there c.self.inside c.renew_slots.new.self c.make.new.self c.args.line c.in_ok-verdict.verdict c.len-from.result kept
    c.renew_slots.ensures c.in_ok-verdict.ensures from c.take.ensures.value c.take-2.ensures.value c.self.invariant)

pub invariant_of-self-2 : goal.invariant_of-self-2
invariant_of-self-2 g c = record {
  track = search rules;
  objects = search rules;
  slot =
      slot-there c.self.inside c.renew_slots.new.self c.make.new.self c.args.line c.in_ok-verdict.verdict c.take-last_slot.result
      c.renew_slots.ensures c.in_ok-verdict.ensures c.take-last_slot.ensures.value c.self.invariant;
}

pub returns-in_err-verdict : goal.returns-in_err-verdict
returns-in_err-verdict g c =
    let p = err_from_is_err_and c.from_residual.result c.from_residual.ensures.1 in
    let old = g.W.Write.contents c.args.writer.now in
    other-state _ _ c.args.self.now _ _ _ c.from_residual.result p.0 p.1
    (subst
    (λ (x : HandData). WritesAnswer (written x (after_line x (made x.cluster x.opening x.capacity x.bench c.args.line)))
    (2 ^ 32 - 1 < length (made x.cluster x.opening x.capacity x.bench c.args.line).0.past) c.args.self.now old old c.from_residual.result)
    c.self.view_is
    (not-made c.self.inside c.renew_slots.new.self c.make.new.self c.args.line c.in_err-verdict.field-0.0 c.args.self.now old c.from_residual.result
    c.renew_slots.ensures (c.in_err-verdict.ensures).0 (p.1 ∙ ap Err p.2)))

pub returns-then-is_unmet : goal.returns-then-is_unmet
returns-then-is_unmet g c =
    let from = c.len-from.ensures.len ∙ ap length (c.log.ensures.entries ∙ ap (λ (k : CoreData). k.log) c.core.ensures) in
    let verdict = c.in_ok-verdict.verdict in
    let told = ap (λ (h : HandData). verdict_with_meaning h.coded verdict) c.keep.ensures in
    let same = line-told-so c.self.inside c.renew_slots.new.self c.make.new.self c.args.line verdict (verdict_with_meaning c.keep.new.self.coded verdict) c.len-from.result c.keep.new.self
    c.renew_slots.ensures c.in_ok-verdict.ensures from c.keep.ensures told in
    let old = g.W.Write.contents c.args.writer.now in
    let new = g.W.Write.contents c.write_unmet.new.writer in
    let h = held_data c.self.inside in
    let full = 2 ^ 32 - 1 < length (made h.cluster h.opening h.capacity h.bench c.args.line).0.past in
    subst
    (λ (x : HandData). WritesAnswer (written x (after_line x (made x.cluster x.opening x.capacity x.bench c.args.line)))
    (2 ^ 32 - 1 < length (made x.cluster x.opening x.capacity x.bench c.args.line).0.past) c.write_unmet.new.self old new c.write_unmet.result)
    c.self.view_is
    (subst (λ (p : HandData × List ℕ). WritesAnswer p full c.write_unmet.new.self old new c.write_unmet.result) same
    (tells-anyway (telling c.keep.new.self c.len-from.result (verdict_with_meaning c.keep.new.self.coded verdict)) full c.write_unmet.new.self old new c.write_unmet.result c.write_unmet.ensures))

pub returns : goal.returns
returns g c =
    let from = c.len-from.ensures.len ∙ ap length (c.log.ensures.entries ∙ ap (λ (k : CoreData). k.log) c.core.ensures) in
    let verdict = c.in_ok-verdict.verdict in
    let told = sym (same-verdict c.self.inside.coded verdict (sym c.is_unmet.ensures ∙ c.if-is_unmet.false)) in
    let same = line-told-so c.self.inside c.renew_slots.new.self c.make.new.self c.args.line verdict verdict c.len-from.result c.keep.new.self
    c.renew_slots.ensures c.in_ok-verdict.ensures from c.keep.ensures told in
    let old = g.W.Write.contents c.args.writer.now in
    let new = g.W.Write.contents c.write_line_answer.new.writer in
    let h = held_data c.self.inside in
    let full = 2 ^ 32 - 1 < length (made h.cluster h.opening h.capacity h.bench c.args.line).0.past in
    subst
    (λ (x : HandData). WritesAnswer (written x (after_line x (made x.cluster x.opening x.capacity x.bench c.args.line)))
    (2 ^ 32 - 1 < length (made x.cluster x.opening x.capacity x.bench c.args.line).0.past) c.write_line_answer.new.self old new c.write_line_answer.result)
    c.self.view_is
    (subst (λ (p : HandData × List ℕ). WritesAnswer p full c.write_line_answer.new.self old new c.write_line_answer.result) same
    (tells-anyway (telling c.keep.new.self c.len-from.result verdict) full c.write_line_answer.new.self old new c.write_line_answer.result c.write_line_answer.ensures))
