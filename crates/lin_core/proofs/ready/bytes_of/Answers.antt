use Rattle.std.proofs.Common.{◌∙◌, ap, sym}
use Rattle.std.specs.Prelude.{Option, replicate}
use Rattle.std.specs.Option.{option_map_or}
use Rattle.lin_core.specs.declared.ready.Response.{Response}
use Rattle.lin_core.proofs.kept.Ready.{bytes-in}
use Rattle.lin_core.proofs.ready.bytes_of.Goals as goal

pub returns-in-Some : goal.returns-in-Some
returns-in-Some c =
    sym (bytes-in c.args.ready.now c.args.node ∙ ap (λ (o : Option Response). option_map_or (λ (q : Response). q.bytes) o (replicate 8 255)) (sym c.response_of.ensures ∙ c.in-Some.is))

pub returns-in-None : goal.returns-in-None
returns-in-None c =
    sym (bytes-in c.args.ready.now c.args.node ∙ ap (λ (o : Option Response). option_map_or (λ (q : Response). q.bytes) o (replicate 8 255)) (sym c.response_of.ensures ∙ c.in-None.is))
