use Rattle.std.proofs.Common.{ℕ, List, Some, None, subst}
use Rattle.memchr.specs.Find.{IsFirstByte, is_byte3}
use Rattle.lin_field.proofs.ReadOver.{from_on, one_more, all_over}
use Rattle.lin_field.proofs.marks.read_over_bytes.Goals as goal

pub loop-n-preserved : goal.loop-n-preserved
loop-n-preserved c =
    let rest = from_on c.loop-n.bytes c.loop-n.passed in
    one_more _ c.loop-n.bytes c.loop-n.passed c.in-Some.n c.loop-n.invariant (subst (λ (xs : List ℕ). IsFirstByte (is_byte3 0x0B 0x0C 0x1A) xs (Some c.in-Some.n)) rest c.in-Some.ensures)

pub returns : goal.returns
returns c =
    let rest = from_on c.loop-n.bytes c.loop-n.passed in
    all_over _ c.loop-n.bytes c.loop-n.passed c.loop-n.invariant (subst (λ (xs : List ℕ). IsFirstByte (is_byte3 0x0B 0x0C 0x1A) xs None) rest c.in_default.ensures)
