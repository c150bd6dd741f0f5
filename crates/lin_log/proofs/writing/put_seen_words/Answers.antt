use Rattle.std.proofs.Common.{◌≡◌, refl, List, ℕ, None}
use Rattle.lin_core.specs.History.{good_bytes}
use Rattle.lin_core.specs.declared.event.Seen.{Seen}
use Rattle.lin_core.specs.declared.event.Seen.TheVariants.{Silent, NoAnswer, Good, Damaged, Collided}
use Rattle.lin_core.specs.Tables.{look_of, look_word}
use Rattle.lin_text.proofs.Growing.{grows-more}
use Rattle.lin_log.proofs.CallerTexts.{quiet-same}
use Rattle.lin_log.proofs.Quiet.{quiet-look}
use Rattle.lin_log.proofs.Ends.{grows-last}
use Rattle.lin_log.proofs.writing.put_seen_words.Goals as goal

no-bytes : (s : Seen) → ((x : List ℕ) → s ≡ Good x → ⊥) → good_bytes s ≡ None
no-bytes Silent h = refl
no-bytes NoAnswer h = refl
no-bytes (Good answer) h = absurd (h answer refl)
no-bytes Damaged h = refl
no-bytes Collided h = refl

pub returns-in-Good : goal.returns-in-Good
returns-in-Good g c = λ l. rw c.in-Good.is
    (grows-more c.put_text.ensures (grows-more (rw (c.word.ensures, c.look.ensures, c.in-Good.is) at c.put_word.ensures) (grows-last (rw c.as_slice.ensures.items at c.put_bytes.ensures))))

pub returns-in_default : goal.returns-in_default
returns-in_default g c = λ l. let how = look_of c.args.seen.now in rw (no-bytes c.args.seen.now c.in_default.not-Good, quiet-same (look_word how) (quiet-look how))
    (grows-more c.put_text.ensures (grows-last (rw (c.word.ensures, c.look.ensures) at c.put_word.ensures)))
