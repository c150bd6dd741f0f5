use Rattle.std.proofs.Common.{◌≡◌, ◌∙◌, ap, sym}
use Rattle.std.specs.Prelude.{option_map}
use Rattle.std.proofs.lemmas.Result.{err_from_is_err_and}
use Rattle.std.proofs.KnownBytes.{Keeps-refl}
use Rattle.lin_bench.specs.Files.{source_data}
use Rattle.lin_bench.specs.Scripts.{bad_lines}
use Rattle.lin_tool.specs.Playing.{fault_of_bad, last_reason}
use Rattle.lin_tool.proofs.play_command.tell_bad.Goals as goal

pub returns-in-None : goal.returns-in-None
returns-in-None g c = rw c.in-None.is (c.write_bad_line-told.result, c.fault_of_bad.ensures, c.write_bad_line-told.ensures)

pub returns-in_err-bad-in-Some : goal.returns-in_err-bad-in-Some
returns-in_err-bad-in-Some g c =
    let p = err_from_is_err_and c.from_residual.result c.from_residual.ensures.1 in
    rw p.1 (Keeps-refl (g.E.Write.contents c.args.errors.now))

pub returns-in_ok-bad-in-Some : goal.returns-in_ok-bad-in-Some
returns-in_ok-bad-in-Some g c =
    let o = c.args.opened.now in
    let s = source_data c.args.script.source in
    let first = c.args.first.now in
    let outcome = c.write_bad_lines-told.result in
    let all : c.in_ok-bad-in-Some.bad.items ≡ bad_lines o.cluster o.coded o.limits s =
    c.in_ok-bad-in-Some.ensures.lines ∙ ap (λ l. bad_lines o.cluster (option_map (λ k. k.now) c.as_ref-coded.result) l s) c.as_slice.ensures
    ∙ ap (λ k. bad_lines o.cluster k o.limits s) c.as_ref-coded.ensures.value in
    let last = c.last_reason-last.ensures ∙ ap (last_reason first.1) (c.as_slice-in-Some-3.ensures.value ∙ all) in
    let is = c.fault_of_bad-in-Some.ensures ∙ ap (λ why. fault_of_bad first.0 why outcome) last in
    let text = rw (c.names_of.ensures.0, c.names_of.ensures.1, c.as_slice-in-Some.ensures.value, all) at c.write_bad_lines-told.ensures in
    rw c.in-Some.is (outcome, is, text)
