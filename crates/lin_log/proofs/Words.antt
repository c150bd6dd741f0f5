-- The words of things with names, and of those without.
use Rattle.std.proofs.Common.{◌≡◌, ℕ, List, ◌∷◌, Bool, true, false, nat_lt, sym, Option, Some, None, if◌then◌else◌}
use Rattle.std.specs.Prelude.{option_map}
use Rattle.std.specs.Borrow.{Bor}
use Rattle.std.specs.Fmt.{decimal}
use Rattle.std.specs.Option.{option_map_or}
use Rattle.lin_log.specs.CallerTexts.{seen_text}
use Rattle.lin_log.specs.Language.{Called, Language, name_at, word_of}
use Rattle.lin_log.specs.Words.{port_number_word}
use Rattle.lin_log.proofs.CallerTexts.{quiet-same}
use Rattle.lin_log.proofs.Quiet.{quiet-decimal}

called-by : (f : List ℕ → List ℕ) (t : Bool) (a b : List ℕ) (o : Option (Bor (List ℕ))) → seen_text b ≡ b → option_map (λ w. w.now) o ≡ (if t then Some a else None)
    → option_map_or (λ w. seen_text (f w.now)) o b ≡ seen_text (if t then f a else b)
called-by f true a b None e h = absurd (cc)
called-by f true a b (Some w) e h = cc
called-by f false a b None e h = sym e
called-by f false a b (Some w) e h = absurd (cc)

seen-number : (k : ℕ) → seen_text (decimal k) ≡ decimal k
seen-number k = quiet-same (decimal k) (quiet-decimal k)

pub word-called : (called : Called) (k : ℕ) (o : Option (Bor (List ℕ))) → option_map (λ w. w.now) o ≡ name_at called k
    → option_map_or (λ w. seen_text w.now) o (decimal k) ≡ seen_text (word_of called k)
word-called called k o h = called-by (λ w. w) (nat_lt k called.count) (called.name k) (decimal k) o (seen-number k) h

pub port-called : (l : Language) (k : ℕ) (o : Option (Bor (List ℕ))) → option_map (λ w. w.now) o ≡ name_at l.nodes k
    → option_map_or (λ w. 58 ∷ seen_text w.now) o (decimal k) ≡ seen_text (port_number_word l k)
port-called l k o h = called-by (λ w. 58 ∷ w) (nat_lt k l.nodes.count) (l.nodes.name k) (decimal k) o (seen-number k) h
