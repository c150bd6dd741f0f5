use Rattle.std.proofs.Common.{◌∙◌, ap, drop, refl}
use Rattle.std.specs.Prelude.{codes}
use Rattle.lin_bench.specs.Texts.{what_text}
use Rattle.lin_export.specs.Csv.{after_comma}
use Rattle.lin_text.proofs.Growing.{grows-nothing, same-growth}
use Rattle.lin_export.proofs.Objects.{grows-member, grows-values, puts-more, puts-one}
use Rattle.lin_export.proofs.Puttings.{puts-all, puts-some}
use Rattle.lin_tool.specs.campaign.Jsonl.{expectation, last_of, decimal_member, printable_member}
use Rattle.lin_tool.specs.declared.placing.Moment.{Moment}
use Rattle.lin_tool.proofs.campaign.jsonl_rows.put_expectation.Goals as goal

pub returns-in_err-what : goal.returns-in_err-what
returns-in_err-what g c = λ log told.
    puts-some (expectation c.args.cluster.now log c.args.judgement.now) c.from_residual.ensures.0 refl (grows-nothing c.args.out.now)

pub returns : goal.returns
returns g c = λ log told.
    let j = c.args.judgement.now in
    let text = what_text c.args.cluster.now j.judged in
    let what = c.without_space.ensures ∙ ap (drop 1) (c.as_slice.ensures.value ∙ c.in_ok-what.ensures) in
    let last = c.slots.ensures ∙ ap (λ (m : Moment). m.slots) told in
    puts-all refl
    (grows-values (decimal_member (codes "line") j.place.own) c.put_line_number.ensures
    (puts-more (puts-one (printable_member (codes "what") text) (same-growth (ap (λ t. after_comma (printable_member (codes "what") t)) what) c.put_member.ensures))
    (puts-one _ (grows-member (codes "slot") c.put_key.ensures (same-growth (ap last_of last) c.put_last.ensures))))
    c.put_byte.ensures)
