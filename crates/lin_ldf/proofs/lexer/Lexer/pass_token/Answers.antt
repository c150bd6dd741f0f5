use Rattle.std.proofs.Common.{◌∙◌, ◌≤◌, length, drop, sym, arith}
use Rattle.std.proofs.lemmas.List.{length-drop}
use Rattle.lin_ldf.proofs.OneLine.{one_line}
use Rattle.lin_ldf.proofs.lexer.Lexer.pass_token.Goals as goal

pub returns-else-same_kind-clause-place : goal.returns-else-same_kind-clause-place
returns-else-same_kind-clause-place c =
    let lexer = c.args.self.now in
    let within : c.args.size ≤ length (drop lexer.offset lexer.source.now) = omega (arith, length-drop lexer.offset lexer.source.now, c.requires.within) in
    sym (one_line lexer.place (drop lexer.offset lexer.source.now) c.args.kind c.args.size (sym c.same_kind.ensures ∙ c.if-same_kind.false) within c.requires.front)
