use Rattle.std.proofs.Common.{sym, ap, ◌∙◌, ◌+◌, arith}
use Rattle.lin_ldf.specs.Scanning.{option_shift, close_at}
use Rattle.lin_ldf.proofs.Closes.{closes_here, goes_on, none_closes, more_shifted}
use Rattle.lin_ldf.proofs.lexer.close_at.Goals as goal

pub returns-then-begins-clause-value : goal.returns-then-begins-clause-value
returns-then-begins-clause-value c =
    ap (option_shift c.loop-n.passed) (sym (closes_here c.loop-n.rest.now c.split_at.result.1.now c.in-Some.n c.in-Some.ensures c.split_at.ensures.back (sym c.begins.ensures ∙ c.if-begins.true))) ∙ c.loop-n.invariant.found

pub loop-n-preserved : goal.loop-n-preserved
loop-n-preserved c = record {
  found = sym (more_shifted c.loop-n.passed (c.in-Some.n + 1) (close_at c.split_at.result.1.now)) ∙ ap (option_shift c.loop-n.passed) (sym (goes_on c.loop-n.rest.now c.split_at.result.1.now c.in-Some.n c.in-Some.ensures c.split_at.ensures.back (sym c.begins.ensures ∙ c.if-begins.false))) ∙ c.loop-n.invariant.found;
  passed = omega (arith, c.split_at.ensures.front_len, c.split_at.ensures.back_len, c.loop-n.invariant.passed);
}

pub returns-clause-value : goal.returns-clause-value
returns-clause-value c = ap (option_shift c.loop-n.passed) (sym (none_closes c.loop-n.rest.now c.in_default.ensures)) ∙ c.loop-n.invariant.found
