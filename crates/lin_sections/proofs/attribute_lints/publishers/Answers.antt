use Rattle.std.proofs.Common.{ap, false, ◌∙◌}
use Rattle.std.specs.Prelude.{◌||◌}
use Rattle.std.specs.List.{list_any}
use Rattle.std.specs.Str.{bytes_eq}
use Rattle.std.proofs.lemmas.List.{take_all}
use Rattle.lin_cluster.specs.LintNames.{has_text}
use Rattle.lin_cluster.proofs.LintSets.{held_more}
use Rattle.lin_sections.proofs.attribute_lints.publishers.Goals as goal

pub loop-frame-preserved : goal.loop-frame-preserved
loop-frame-preserved c = λ q.
    held_more (λ f. bytes_eq f.publisher.text q) c.args.frames.now c.loop-frame.frame-index c.frame-item.result false (has_text c.loop-frame.texts.map q) (has_text c.put_text.new.texts.map q)
    c.loop-frame-test.true c.frame-item.is (c.loop-frame.invariant q) (c.in_ok-put_text.ensures.put q ∙ ap (λ t. has_text c.loop-frame.texts.map q || bytes_eq t q) c.as_slice.ensures)

pub returns : goal.returns
returns c = λ q. c.loop-frame.invariant q ∙ ap (λ fs. list_any (λ f. bytes_eq f.publisher.text q) fs) (take_all c.loop-frame.frame-index c.args.frames.now c.loop-frame-test.false)
