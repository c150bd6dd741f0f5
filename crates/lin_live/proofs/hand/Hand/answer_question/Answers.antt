use Rattle.std.proofs.Common.{◌≡◌, ◌∙◌, Ok, Some, ap, subst}
use Rattle.lin_bench.specs.Fields.{line_fields}
use Rattle.lin_live.specs.Asked.{◌>>=◌, IsAskable, question}
use Rattle.lin_live.specs.Heard.{question_heard}
use Rattle.lin_live.specs.Heard.Heard.{Ask}
use Rattle.lin_text.proofs.Adding.{appends-nothing}
use Rattle.lin_live.proofs.HeldMarks.{held-cluster}
use Rattle.lin_live.proofs.Replying.{answers-so, says-question}
use Rattle.lin_live.proofs.hand.Hand.answer_question.Goals as goal

pub returns-in_default : goal.returns-in_default
returns-in_default g c = appends-nothing (g.W.Write.contents c.args.writer.now)

pub ask-requires : goal.ask-requires
ask-requires g c =
    let a = c.self.inside in
    let same = c.cluster.ensures ∙ held-cluster a.held a.marks c.in-Some.held c.args.self.now c.in-Some.is c.self.view_is in
    subst (λ x. IsAskable x c.in-Some-question_alone.question) same (rw c.in-Some-question_alone.is at c.question_alone.ensures.askable)

pub returns-in-Some-question_alone : goal.returns-in-Some-question_alone
returns-in-Some-question_alone g c =
    let a = c.self.inside in
    let h = c.args.self.now in
    let all = line_fields c.args.line.now in
    let q = c.in-Some-question_alone.question in
    let same = c.cluster.ensures ∙ held-cluster a.held a.marks c.in-Some.held h c.in-Some.is c.self.view_is in
    let asked = subst (λ x. question x all ≡ Ok q) same (rw c.in-Some-question_alone.is at c.question_alone.ensures.asked) in
    answers-so h (question_heard h.cluster all) (Ok (Some (Ask q))) c.ask.new.self _ _ c.ask.result
    (ap (λ r. r >>= (λ asked. Ok (Some (Ask asked)))) asked) (says-question h c.ask.new.self q _ _ c.ask.result c.ask.ensures)
