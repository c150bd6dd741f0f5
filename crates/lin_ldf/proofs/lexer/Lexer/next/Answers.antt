use Rattle.std.proofs.Common.{List, ℕ, length, sym, ap, ◌∙◌, arith}
use Rattle.lin_ldf.proofs.Stream.{behind_gap, behind_token, at_bad_byte, at_open_comment, at_open_text}
use Rattle.lin_ldf.proofs.lexer.Lexer.next.Goals as goal

pub loop-self-preserved : goal.loop-self-preserved
loop-self-preserved c =
    let before = c.loop-self.self in
    let within = c.in-Gap.ensures.within in
    let behind = behind_gap before.source.now c.split_at.result.1.now before.offset c.in-Gap.size before.place (omega arith) c.split_at.ensures.back within.0 within.1 (sym c.in-Gap.ensures.value) in
    record {
      ahead = rw (c.pass.ensures.offset, c.pass.ensures.place, c.pass.ensures.source) (sym behind ∙ c.loop-self.invariant.ahead);
      source = c.pass.ensures.source ∙ c.loop-self.invariant.source;
      ready = c.pass.ensures.ready;
    }

pub returns-in-Token-clause-pulls : goal.returns-in-Token-clause-pulls
returns-in-Token-clause-pulls c =
    let before = c.loop-self.self in
    let within = c.in-Token.ensures.within in
    let passed = c.pass_token in
    let behind = behind_token before.source.now c.split_at.result.1.now before.offset c.in-Token.size c.in-Token.kind before.place (omega arith) c.split_at.ensures.back within.0 within.1 (sym c.in-Token.ensures.value) in (
      rw (c.token_from-token.ensures, passed.ensures.offset, passed.ensures.place, passed.ensures.source) (sym c.loop-self.invariant.ahead ∙ behind),
      rw c.token_from-token.ensures (omega arith),
      rw c.token_from-token.ensures (omega (arith, within.1, c.split_at.ensures.back_len, ap (λ (s : List ℕ). length s) c.loop-self.invariant.source)),
    )

pub returns-in-BadByte-clause-pulls : goal.returns-in-BadByte-clause-pulls
returns-in-BadByte-clause-pulls c =
    sym c.loop-self.invariant.ahead ∙ at_bad_byte _ _ _ _ c.split_at.ensures.back (sym c.in-BadByte.ensures.value)

pub returns-in-OpenComment-clause-pulls : goal.returns-in-OpenComment-clause-pulls
returns-in-OpenComment-clause-pulls c =
    sym c.loop-self.invariant.ahead ∙ at_open_comment _ _ _ _ c.split_at.ensures.back (sym c.in-OpenComment.ensures.value)

pub returns-in-OpenText-clause-pulls : goal.returns-in-OpenText-clause-pulls
returns-in-OpenText-clause-pulls c =
    sym c.loop-self.invariant.ahead ∙ at_open_text _ _ _ _ c.split_at.ensures.back (sym c.in-OpenText.ensures.value)
