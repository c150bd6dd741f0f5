use Rattle.std.proofs.Common.{sym, ap, ◌∙◌, rules}
use Rattle.lin_text.proofs.Growing.{text-written}
use Rattle.lin_field.specs.Plain.{plain_data, plain_text}
use Rattle.lin_field.proofs.plain.write_plain.Goals as goal

pub returns-clause-text : goal.returns-clause-text
returns-clause-text g c = λ ts is.
    let tokens = c.as_slice.ensures.value ∙ c.in_ok-tokens.ensures ts is in
    let says = plain_data c.args.settled.now.header c.args.settled.now.description c.args.source.now in
    let text = ap plain_text (c.in_ok-plain.ensures ∙ ap says tokens) in
    let same = sym (c.put.ensures.same ∙ c.new-out.ensures.same) in
    let written = text-written c.new-out.ensures c.put.ensures c.finish.ensures in
    search rules
