use Rattle.std.proofs.Common.{◌∙◌, ap}
use Rattle.std.specs.Prelude.{false, get_or, slice_get}
use Rattle.std.specs.Option.{option_map_or}
use Rattle.lin_bench.proofs.ListedLines.{file-more, flag_at}
use Rattle.lin_bench.proofs.listed.ListedLines.reach.Goals as goal

pub loop-alloc-preserved : goal.loop-alloc-preserved
loop-alloc-preserved c = λ p.
    ap (λ vs. flag_at (λ v. v.items) vs p.file p.line) c.in_ok-push.ensures.items
    ∙ file-more (λ v. v.items) c.loop-alloc.self.files.items c.new.result p.file p.line c.new.ensures.items
    ∙ c.loop-alloc.invariant p
