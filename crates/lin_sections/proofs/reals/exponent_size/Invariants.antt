use Rattle.std.proofs.Common.{◌≡◌, ◌+◌, ◌*◌, ◌-◌, ◌^◌, ◌<◌, drop, fold}
use Rattle.std.specs.Char.{is_ascii_digit}
use Rattle.std.specs.List.{list_all}
use Rattle.lin_sections.specs.Real.{digits_value}
use Rattle.lin_sections.proofs.reals.exponent_size.Given as goal

abbrev pub invariant-loop-c : goal.invariant-loop-c
invariant-loop-c l = record {
  value : digits_value l.digits ≡ fold (λ n c. 10 * n + (c - 48)) l.size (drop l.c-index l.digits);
  all : list_all is_ascii_digit l.digits ≡ list_all is_ascii_digit (drop l.c-index l.digits);
  small : l.size < 10 ^ l.c-index;
}
