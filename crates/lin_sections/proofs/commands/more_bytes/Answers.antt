use Rattle.std.proofs.Common.{◌≡◌, ◌∙◌, ℕ, ◌-◌, ◌<◌, ◌≤◌, Bool, true, false, List, ap, arith, sym}
use Rattle.std.proofs.lemmas.List.Elements.{All-push}
use Rattle.std.proofs.lemmas.Result.{err_from_is_err_and}
use Rattle.lin_ldf.specs.Symbols.{Symbol}
use Rattle.lin_parts.specs.declared.description.Number.{Number}
use Rattle.lin_sections.specs.Commands.{is_end_of_bytes, more_bytes}
use Rattle.lin_sections.proofs.ByteSteps.{byte-more, bytes-end, bytes-stop}
use Rattle.lin_sections.proofs.commands.more_bytes.Goals as goal

-- whether bytes may end at the next token
here : (needed n : ℕ) (ts : List Symbol) (b c : Bool) → needed ≡ n → b ≡ is_end_of_bytes needed ts → b ≡ c → is_end_of_bytes n ts ≡ c
here needed n ts b c e is so = ap (λ k. is_end_of_bytes k ts) (sym e) ∙ sym is ∙ so

pub returns-then-is_end_of_bytes-clause-read : goal.returns-then-is_end_of_bytes-clause-read
returns-then-is_end_of_bytes-clause-read c =
    bytes-end c.loop-count.bytes.items c.args.least c.args.most c.loop-count.count c.loop-count.parser c.skip.new.self (more_bytes c.args.bytes.now.items c.args.least c.args.most c.args.parser.now) c.loop-count-test.true (here c.saturating_sub.result (c.args.least - c.loop-count.count) c.loop-count.parser c.is_end_of_bytes.result true c.saturating_sub.ensures c.is_end_of_bytes.ensures c.if-is_end_of_bytes.true) c.skip.ensures c.loop-count.invariant.read

pub returns-then-is_end_of_bytes-clause-bytes : goal.returns-then-is_end_of_bytes-clause-bytes
returns-then-is_end_of_bytes-clause-bytes c = c.loop-count.invariant.bytes

pub returns-in_err-byte-clause-read : goal.returns-in_err-byte-clause-read
returns-in_err-byte-clause-read c =
    let p = err_from_is_err_and c.from_residual.result c.from_residual.ensures.1 in
    rw (p.1, p.2) (bytes-stop c.loop-count.bytes.items c.args.least c.args.most c.loop-count.count c.loop-count.parser c.next_to.new.parser c.in_err-byte.field-0.0 (more_bytes c.args.bytes.now.items c.args.least c.args.most c.args.parser.now) c.loop-count-test.true (here c.saturating_sub.result (c.args.least - c.loop-count.count) c.loop-count.parser c.is_end_of_bytes.result false c.saturating_sub.ensures c.is_end_of_bytes.ensures c.if-is_end_of_bytes.false) c.in_err-byte.ensures.read c.loop-count.invariant.read)

below : (n : Number) → n.value ≤ 255 → n.value < 256
below n h = omega arith

pub loop-count-preserved : goal.loop-count-preserved
loop-count-preserved c =
    let is_byte = below c.in_ok-byte.byte c.in_ok-byte.ensures.limit in
    record {
      read = byte-more c.loop-count.bytes.items c.push.new.self.items c.args.least c.args.most c.loop-count.count c.loop-count.parser c.next_to.new.parser c.in_ok-byte.byte (more_bytes c.args.bytes.now.items c.args.least c.args.most c.args.parser.now) c.loop-count-test.true (here c.saturating_sub.result (c.args.least - c.loop-count.count) c.loop-count.parser c.is_end_of_bytes.result false c.saturating_sub.ensures c.is_end_of_bytes.ensures c.if-is_end_of_bytes.false) c.in_ok-byte.ensures.read c.in_ok-push.ensures.items c.loop-count.invariant.read;
      bytes = rw c.in_ok-push.ensures.items (All-push (λ (n : Number). n.value < 256) c.loop-count.bytes.items c.in_ok-byte.byte c.loop-count.invariant.bytes is_byte);
    }
