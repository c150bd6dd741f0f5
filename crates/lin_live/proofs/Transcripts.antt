-- Transcripts of lines, and then of more.
use Rattle.std.proofs.Common.{◌≡◌, ℕ, List, [], ◌∷◌, ◌++◌, Option, refl, sym, ap, ◌∙◌, append_assoc}
use Rattle.lin_live.specs.Transcript.{state_after, short, transcript}

module _ {S : Type 0} (reply : S → Option (List ℕ) → S × List ℕ) where
  pub transcript-append : (s : S) (xs ys : List (List ℕ)) → transcript reply s (xs ++ ys) ≡ transcript reply s xs ++ transcript reply (state_after reply s xs) ys
  transcript-append s [] ys = refl
  transcript-append s (x ∷ xs) ys =
      let r = reply s (short x) in
      ap (λ l. r.1 ++ l) (transcript-append r.0 xs ys) ∙ sym (append_assoc r.1 (transcript reply r.0 xs) (transcript reply (state_after reply r.0 xs) ys))

  pub after-append : (s : S) (xs ys : List (List ℕ)) → state_after reply s (xs ++ ys) ≡ state_after reply (state_after reply s xs) ys
  after-append s [] ys = refl
  after-append s (x ∷ xs) ys = after-append (reply s (short x)).0 xs ys
