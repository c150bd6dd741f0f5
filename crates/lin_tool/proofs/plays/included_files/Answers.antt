use Rattle.std.proofs.Common.{[], ◌∙◌, ap, arith, length, length-append, sym}
use Rattle.lin_bench.specs.Files.{source_data}
use Rattle.lin_bench.specs.Resolved.{missing_file}
use Rattle.lin_tool.proofs.IncludedFiles.{missing-more}
use Rattle.lin_tool.proofs.plays.included_files.Goals as goal

pub files-preserved : goal.files-preserved
files-preserved g c =
    let s = source_data c.args.source in
    let there = ap (λ l. missing_file (record s { files = l })) (sym c.as_slice.ensures.value) ∙ sym c.in_ok-name.ensures ∙ c.in-Some.is in
    let more = ap length c.in_ok-push.ensures.items ∙ length-append c.files.files.items _ in
    record {
      missing = rw c.in_ok-push.ensures.items (missing-more s [] c.files.files.items _ c.files.invariant.missing there);
      few = omega (arith, more);
    }
