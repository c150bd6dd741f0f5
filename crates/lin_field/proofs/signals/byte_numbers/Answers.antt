use Rattle.std.proofs.Common.{◌≡◌, ℕ, suc, ◌+◌, ◌-◌, ◌/◌, ◌%◌, List, [], ◌∷◌, ◌++◌, sym, ap, ◌∙◌, arith, append_assoc}
use Rattle.lin_field.specs.Signals.{bytes_from, number_with_value}
use Rattle.lin_field.proofs.signals.byte_numbers.Goals as goal
use Rattle.lin_parts.specs.declared.description.Number.{Number}
use Rattle.lin_field.specs.declared.loose.WideNumber.{WideNumber}

byte_more : (n : WideNumber) (value before after : ℕ) (made more all : List Number) → before ≡ suc after → made ++ bytes_from n value before ≡ all → more ≡ made ++ number_with_value n (value % 256) ∷ [] → more ++ bytes_from n (value / 256) after ≡ all
byte_more n value before after made more all one so is =
    ap (λ l. l ++ bytes_from n (value / 256) after) is
    ∙ append_assoc made (number_with_value n (value % 256) ∷ []) (bytes_from n (value / 256) after)
    ∙ ap (λ k. made ++ bytes_from n value k) (sym one) ∙ so

pub loop-preserved : goal.loop-preserved
loop-preserved c =
    byte_more c.args.number c.loop.rest (c.args.count - c.loop.counter) (c.args.count - (c.loop.counter + 1)) c.loop.bytes.items c.push.new.self.items
    (bytes_from c.args.number c.args.number.value c.args.count) (omega arith) c.loop.invariant (rw c.value_at.ensures at c.in_ok-push.ensures.items)
