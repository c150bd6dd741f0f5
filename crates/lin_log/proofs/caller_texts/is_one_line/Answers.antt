use Rattle.std.proofs.Common.{◌≡◌, ℕ, Bool, true, false, List, not, sym}
use Rattle.std.specs.Prelude.{Option, Some, None, is_some}
use Rattle.memchr.specs.Find.{IsFirstByte, is_byte}
use Rattle.lin_log.specs.Laws.{is_quiet}
use Rattle.lin_log.proofs.CallerTexts.{quiet-not, quiet-nowhere}
use Rattle.lin_log.proofs.caller_texts.is_one_line.Goals as goal

quiet-found : (t : List ℕ) (r : Option ℕ) (none : Bool) → IsFirstByte (is_byte 10) t r → is_some r ≡ not none → none ≡ is_quiet t
quiet-found t None true h e = sym (quiet-nowhere t h)
quiet-found t None false h e = absurd (cc)
quiet-found t (Some k) true h e = absurd (cc)
quiet-found t (Some k) false h e = sym (quiet-not t k h.0.high h.1)

pub returns : goal.returns
returns c = quiet-found c.args.text.now c.memchr.result c.is_none.result c.memchr.ensures c.is_none.ensures
