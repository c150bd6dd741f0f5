use Rattle.std.proofs.Common.{◌≡◌, ◌∙◌, ℕ, List, [], Option, Some, None, ap, drop, refl}
use Rattle.std.specs.Prelude.{codes}
use Rattle.std.specs.Option.{option_map_or}
use Rattle.lin_log.specs.Words.{spaced_word}
use Rattle.lin_bench.specs.Texts.{found_text, what_text}
use Rattle.lin_export.specs.Csv.{after_comma}
use Rattle.lin_text.proofs.Growing.{grows-nothing, same-growth}
use Rattle.lin_export.proofs.Objects.{grows-values, puts-more, puts-one}
use Rattle.lin_export.proofs.Puttings.{puts-all, puts-some}
use Rattle.lin_tool.specs.campaign.Jsonl.{failure_object, decimal_member, printable_member}
use Rattle.lin_tool.proofs.campaign.jsonl_rows.put_failed.Goals as goal

behind-space : (found : Option (List ℕ)) → drop 1 (option_map_or spaced_word found []) ≡ option_map_or (λ t. t) found []
behind-space None = refl
behind-space (Some text) = refl

pub returns-in_err-what : goal.returns-in_err-what
returns-in_err-what g c = puts-some (failure_object c.args.cluster.now c.args.judgement.now) c.from_residual.ensures.0 refl (grows-nothing c.args.out.now)

pub returns-in_err-got : goal.returns-in_err-got
returns-in_err-got g c = puts-some (failure_object c.args.cluster.now c.args.judgement.now) c.from_residual-in_err-got.ensures.0 refl (grows-nothing c.args.out.now)

pub returns : goal.returns
returns g c =
    let j = c.args.judgement.now in
    let text = what_text c.args.cluster.now j.judged in
    let found = option_map_or (λ t. t) (found_text c.args.cluster.now j.judged) [] in
    let what = c.without_space.ensures ∙ ap (drop 1) (c.as_slice.ensures.value ∙ c.in_ok-what.ensures) in
    let got = c.without_space-2.ensures ∙ ap (drop 1) (c.as_slice-2.ensures.value ∙ c.in_ok-got.ensures) ∙ behind-space (found_text c.args.cluster.now j.judged) in
    puts-all refl
    (grows-values (decimal_member (codes "line") j.place.own) c.put_line_number.ensures
    (puts-more (puts-one (printable_member (codes "what") text) (same-growth (ap (λ t. after_comma (printable_member (codes "what") t)) what) c.put_member.ensures))
    (puts-one (printable_member (codes "got") found) (same-growth (ap (λ t. after_comma (printable_member (codes "got") t)) got) c.put_member-2.ensures)))
    c.put_byte.ensures)
