use Rattle.std.proofs.Common.{[], arith, sym, None, Some}
use Rattle.std.proofs.lemmas.List.Quantifiers.{position-Some}
use Rattle.lin_bench.specs.Parts.{fields_of}
use Rattle.lin_bench.specs.Words.{is_value_mark}
use Rattle.lin_bench.proofs.FieldParts.{no-front}
use Rattle.lin_bench.proofs.WordedLines.{first-marked, marked-parts, none-marked}
use Rattle.lin_bench.proofs.words.worded_parts.Goals as goal

pub returns-in_err-at : goal.returns-in_err-at
returns-in_err-at c = rw c.from_residual.ensures (sym (none-marked (fields_of c.args.all) (sym c.in_err-at.ensures)))

pub returns-in_err-front : goal.returns-in_err-front
returns-in_err-front c =
    absurd (omega (arith, (position-Some is_value_mark (fields_of c.args.all) c.in_ok-at.at [] (sym c.in_ok-at.ensures)).0, c.in_err-front.ensures))

pub returns-in_err-before : goal.returns-in_err-before
returns-in_err-before c =
    let all = fields_of c.args.all in
    rw c.from_residual-in_err-before.ensures
    (sym (first-marked all c.in_ok-at.at (sym c.in_ok-at.ensures)
    (no-front all c.in_ok-at.at (fields_of c.in_ok-front.front) c.in_ok-front.mark.now (fields_of c.in_ok-front.words) c.in_ok-front.ensures c.in_err-before.ensures)))

pub returns-in_err-wish : goal.returns-in_err-wish
returns-in_err-wish c =
    rw c.from_residual-in_err-wish.ensures
    (marked-parts (fields_of c.args.all) c.in_ok-at.at (fields_of c.in_ok-front.front) (fields_of c.in_ok-before.before) c.in_ok-before.signal.now c.in_ok-front.mark.now (fields_of c.in_ok-front.words) None
    (sym c.in_ok-at.ensures) c.in_ok-front.ensures c.in_ok-before.ensures c.in_err-wish.ensures)

pub returns : goal.returns
returns c =
    marked-parts (fields_of c.args.all) c.in_ok-at.at (fields_of c.in_ok-front.front) (fields_of c.in_ok-before.before) c.in_ok-before.signal.now c.in_ok-front.mark.now (fields_of c.in_ok-front.words) (Some c.in_ok-wish.wish)
    (sym c.in_ok-at.ensures) c.in_ok-front.ensures c.in_ok-before.ensures c.in_ok-wish.ensures
