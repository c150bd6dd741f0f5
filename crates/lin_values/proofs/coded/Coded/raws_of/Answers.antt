use Rattle.std.proofs.Common.{◌∙◌, option_map}
use Rattle.lin_values.proofs.WaysBack.{coded-apart, sought-here, text-is}
use Rattle.lin_values.proofs.coded.Coded.raws_of.Goals as goal

pub new-requires : goal.new-requires
new-requires c =
    let k = c.args.self.now in
    let sought = c.sought_text-sought.result in
    let spans = c.in_ok-spans.spans in
    let found = sought-here spans k c.args.signal c.args.text.now (option_map (λ t. t.now) sought.text) sought.decimals sought.unit.now c.sought_text-sought.ensures.text c.sought_text-sought.ensures.decimals c.sought_text-sought.ensures.unit c.in_ok-spans.ensures.found in
    record {
      some = c.in_ok-spans.ensures.some;
      ordered = c.in_ok-spans.ensures.apart;
      apart = coded-apart spans c.in_ok-coded.coded k c.args.signal c.args.text.now c.in_ok-spans.ensures.some found c.in_ok-coded.ensures;
    }

pub returns : goal.returns
returns c = λ v.
    let k = c.args.self.now in
    let sought = c.sought_text-sought.result in
    let spans = c.in_ok-spans.spans in
    let found = sought-here spans k c.args.signal c.args.text.now (option_map (λ t. t.now) sought.text) sought.decimals sought.unit.now c.sought_text-sought.ensures.text c.sought_text-sought.ensures.decimals c.sought_text-sought.ensures.unit c.in_ok-spans.ensures.found in
    c.new.ensures v ∙ text-is spans c.in_ok-coded.coded k c.args.signal c.args.text.now c.in_ok-spans.ensures.some found c.in_ok-coded.ensures v
