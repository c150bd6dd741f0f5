use Rattle.std.proofs.Common.{◌∙◌, ◌∷◌, [], ◌++◌, ap, flat_map, map, sym}
use Rattle.lin_sections.specs.Configuring.{entry_request, entry_warnings}
use Rattle.lin_sections.specs.Lines.{token_lines}
use Rattle.lin_sections.proofs.LineSteps.{each-all, each-more, line-less, lines-all, lines-more}
use Rattle.lin_sections.proofs.configuring.entry_requests.Goals as goal

pub loop-requests-preserved : goal.loop-requests-preserved
loop-requests-preserved c =
    let h = sym c.has_line.ensures ∙ c.loop-requests-test.true in
    let k = c.args.cluster.now in
    let ids = c.args.identities.now in
    record {
      requests = each-more (entry_request k ids) c.loop-requests.parser c.pass_line.new.parser c.loop-requests.requests.items c.push.new.self.items (map (entry_request k ids) (token_lines c.args.parser.now)) h c.pass_line.ensures (c.in_ok-push.ensures.items ∙ ap (λ x. c.loop-requests.requests.items ++ x ∷ []) c.in_ok-entry_request.ensures.request) c.loop-requests.invariant.requests;
      warned = lines-more (entry_warnings k ids) c.loop-requests.parser c.pass_line.new.parser c.loop-requests.warned.items c.entry_request.new.warned.items (c.args.warned.now.items ++ flat_map (entry_warnings k ids) (token_lines c.args.parser.now)) h c.pass_line.ensures c.in_ok-entry_request.ensures.warned c.loop-requests.invariant.warned;
    }

pub loop-requests-smaller : goal.loop-requests-smaller
loop-requests-smaller c = line-less c.loop-requests.parser c.pass_line.new.parser (sym c.has_line.ensures ∙ c.loop-requests-test.true) c.pass_line.ensures

pub returns : goal.returns
returns c =
    let h = sym c.has_line.ensures ∙ c.loop-requests-test.false in
    let k = c.args.cluster.now in
    let ids = c.args.identities.now in
    record {
      requests = each-all (entry_request k ids) c.loop-requests.parser c.loop-requests.requests.items (map (entry_request k ids) (token_lines c.args.parser.now)) h c.loop-requests.invariant.requests;
      warned = lines-all (entry_warnings k ids) c.loop-requests.parser c.loop-requests.warned.items (c.args.warned.now.items ++ flat_map (entry_warnings k ids) (token_lines c.args.parser.now)) h c.loop-requests.invariant.warned;
    }
