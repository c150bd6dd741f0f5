use Rattle.std.proofs.Common.{◌==◌, [], Bool, ap, if◌then◌else◌, sym}
use Rattle.std.proofs.lemmas.Bool.{eq-eqb, ne_eqb}
use Rattle.lin_text.proofs.Growing.{grows-nothing}
use Rattle.lin_export.proofs.Puttings.{puts-all}
use Rattle.lin_tool.specs.Junit.{case_text}
use Rattle.lin_tool.proofs.CampaignTexts.{same-puts}
use Rattle.lin_tool.proofs.junit.put_untested.Goals as goal

pub returns-then-judgement-eq0 : goal.returns-then-judgement-eq0
returns-then-judgement-eq0 g c = λ log told.
    let text = case_text c.args.names.script.now c.args.names.files.now c.args.cluster.now log c.args.judgement.now in
    same-puts (ap (λ (b : Bool). if b then text else []) (sym (eq-eqb c.args.judgement.now.place.test 0 c.if-judgement-eq0.true))) (c.put_case.ensures log told)

pub returns-else-judgement-eq0 : goal.returns-else-judgement-eq0
returns-else-judgement-eq0 g c = λ log told.
    let text = case_text c.args.names.script.now c.args.names.files.now c.args.cluster.now log c.args.judgement.now in
    puts-all (ap (λ (b : Bool). if b then text else []) (sym (ne_eqb c.args.judgement.now.place.test 0 c.if-judgement-eq0.false))) (grows-nothing c.args.out.now)
