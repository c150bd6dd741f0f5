use Rattle.std.proofs.Common.{arith, sym}
use Rattle.std.specs.Str.{is_utf8}
use Rattle.lin_text.proofs.Growing.{grows-more, grows-nothing, same-growth, texts-next}
use Rattle.lin_tool.specs.Junit.{xml_byte}
use Rattle.lin_tool.proofs.junit.put_escaped.Goals as goal

pub loop-byte-init : goal.loop-byte-init
loop-byte-init g c = grows-nothing c.args.out.now

pub loop-byte-preserved : goal.loop-byte-preserved
loop-byte-preserved g c =
    let f = xml_byte (is_utf8 c.args.text.now) in
    same-growth (sym (texts-next f c.args.text.now c.loop-byte.byte-index _ (omega arith)))
    (grows-more c.loop-byte.invariant (rw c.is_utf8-is_text.ensures at c.put_escaped_byte.ensures))
