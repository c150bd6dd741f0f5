use Rattle.std.proofs.Common.{◌≡◌, Ok, Some, codes, refl}
use Rattle.lin_text.specs.declared.lists.Text.{Text}
use Rattle.lin_bench.specs.declared.line.ScriptLine.{ScriptLine}
use Rattle.lin_bench.specs.declared.line.ScriptLine.TheVariants.{Test}
use Rattle.lin_bench.specs.declared.reason.Reason.TheVariants.{ForScripts}
use Rattle.lin_live.specs.Heard.{of_line}
use Rattle.lin_live.specs.Heard.Heard.{Make}
use Rattle.lin_live.specs.declared.reason.Reason.TheVariants.{Script}
use Rattle.lin_live.proofs.Replying.{answers-so, fails-so}
use Rattle.lin_live.proofs.hand.Hand.answer_made.Goals as goal

-- a line that begins no test is made
made-else : (line : ScriptLine) → ((name : Text) → line ≡ Test name → ⊥) → of_line line ≡ Ok (Some (Make line))
made-else (Test name) other = absurd (other name refl)
made-else line other = refl

pub returns-in-Test : goal.returns-in-Test
returns-in-Test g c =
    fails-so c.args.self.now c.refuse_for_scripts.new.self (Script (ForScripts (codes "test"))) (of_line c.args.line) _ _ c.refuse_for_scripts.result (rw c.in-Test.is refl)
    c.refuse_for_scripts.ensures

pub returns-in_default : goal.returns-in_default
returns-in_default g c =
    answers-so c.args.self.now (of_line c.args.line) (Ok (Some (Make c.args.line))) c.make.new.self _ _ c.make.result (made-else c.args.line c.in_default.not-Test) c.make.ensures
