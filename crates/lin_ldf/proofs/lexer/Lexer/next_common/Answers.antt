use Rattle.std.proofs.Common.{List, ℕ, length, sym, ap, ◌∙◌, arith}
use Rattle.lin_ldf.proofs.Stream.{behind_gap, behind_token}
use Rattle.lin_ldf.proofs.lexer.Lexer.next_common.Goals as goal

pub loop-lexer-preserved : goal.loop-lexer-preserved
loop-lexer-preserved c =
    let before = c.loop-lexer.lexer in
    let within = rw c.in-Some-Gap.field-0-is at c.in-Some-Gap.ensures.within in
    let value = rw c.in-Some-Gap.field-0-is at c.in-Some-Gap.ensures.value in
    let behind = behind_gap before.source.now c.split_at.result.1.now before.offset c.in-Some-Gap.size before.place (omega arith) c.split_at.ensures.back within.0 within.1 (sym value) in
    record {
      ahead = rw (c.pass.ensures.offset, c.pass.ensures.place, c.pass.ensures.source) (sym behind ∙ c.loop-lexer.invariant.ahead);
      source = c.pass.ensures.source ∙ c.loop-lexer.invariant.source;
      ready = c.pass.ensures.ready;
    }

pub returns-in-Some-Token-clause-pulls : goal.returns-in-Some-Token-clause-pulls
returns-in-Some-Token-clause-pulls c =
    let before = c.loop-lexer.lexer in
    let found = c.in-Some-Token in
    let within = rw found.field-0-is at found.ensures.within in
    let value = rw found.field-0-is at found.ensures.value in
    let passed = c.pass_token.ensures in
    let token = c.token_from-token.ensures in
    let back = c.split_at.ensures in
    let behind = behind_token before.source.now c.split_at.result.1.now before.offset found.size found.kind before.place (omega arith) back.back within.0 within.1 (sym value) in (
      rw (token, passed.offset, passed.place, passed.source) (sym c.loop-lexer.invariant.ahead ∙ behind),
      rw token (omega arith),
      rw token (omega (arith, within.1, back.back_len, ap (λ (s : List ℕ). length s) c.loop-lexer.invariant.source)),
    )
