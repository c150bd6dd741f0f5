use Rattle.std.proofs.Common.{◌∙◌, List, ℕ, ap, map}
use Rattle.std.specs.Borrow.{Bor}
use Rattle.lin_bench.specs.Files.{source_data}
use Rattle.lin_tool.specs.Playing.{first_of_names, unused_names}
use Rattle.lin_tool.proofs.play_command.unused_parameter.Goals as goal

pub returns : goal.returns
returns c =
    let s = source_data c.args.script.source in
    let names = map (λ (n : Bor (List ℕ)). n.now) in
    c.first_of_names.ensures ∙ ap (λ l. first_of_names (names l)) c.as_slice-2.ensures.value
    ∙ ap first_of_names (c.in_ok-unused.ensures ∙ ap (λ l. unused_names s (names l)) c.as_slice.ensures.value ∙ ap (unused_names s) c.in_ok-names.ensures)
