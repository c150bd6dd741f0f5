-- Lines as lists of words and marks: one more at a time, and none with an LF.
use Rattle.std.proofs.Common.{◌≡◌, ◌∙◌, ◌+◌, ◌<◌, ℕ, List, [], ◌∷◌, ◌++◌, true, refl, sym, ap, append_assoc, append-nil, codes, flat_map, get_or, length, take}
use Rattle.std.proofs.lemmas.Grind.{flat_map-append}
use Rattle.std.proofs.lemmas.List.{take_more}
use Rattle.lin_log.proofs.Items.{joined}
use Rattle.lin_log.proofs.Quiet.{quiet-word}
use Rattle.lin_log.specs.Language.{Language}
use Rattle.lin_log.specs.Laws.{is_quiet, no_end}
use Rattle.lin_log.specs.Words.{Word, word_text}
use Rattle.lin_log.specs.Words.Word.{Node, Number, Fixed, Mark}
use Rattle.lin_bench.specs.LineWords.{text_after_space, spaced_words, words_text}
use Rattle.lin_bench.specs.Texts.{got_words, pending_words, short_words}
use Rattle.lin_bench.specs.declared.got.Got.{Got}
use Rattle.lin_bench.specs.declared.got.Got.TheVariants as got
use Rattle.lin_bench.specs.declared.got.Pending.{Pending}
use Rattle.lin_bench.specs.declared.got.Pending.TheVariants.{MessagesWait, AnswersNoted}

-- the texts of the words of one item more
pub parts-next : {X Y : Type 0} (f : Y → List ℕ) (g : X → List Y) (xs : List X) (i : ℕ) (d : X) → i < length xs
    → flat_map f (flat_map g (take (i + 1) xs)) ≡ flat_map f (flat_map g (take i xs)) ++ flat_map f (g (get_or xs i d))
parts-next f g xs i d h =
    ap (λ l. flat_map f (flat_map g l)) (take_more xs i d h) ∙ ap (flat_map f) (flat_map-append g (take i xs) (get_or xs i d ∷ []))
    ∙ flat_map-append f (flat_map g (take i xs)) (flat_map g (get_or xs i d ∷ []))
    ∙ ap (λ l. flat_map f (flat_map g (take i xs)) ++ flat_map f l) (append-nil (g (get_or xs i d)))

-- words, and words after them
words-more : (l : Language) (w : Word) (ws more : List Word)
    → words_text l (w ∷ ws) ++ spaced_words l more ≡ words_text l ((w ∷ ws) ++ more)
words-more l w ws more =
    append_assoc (word_text l w) (spaced_words l ws) (spaced_words l more)
    ∙ ap (λ t. word_text l w ++ t) (sym (flat_map-append (text_after_space l) ws more))

pub pending-more : (l : Language) (p : Pending) (more : List Word)
    → words_text l (pending_words p) ++ spaced_words l more ≡ words_text l (pending_words p ++ more)
pending-more l (MessagesWait host count) more =
    words-more l (Number count) (Fixed (codes "of") ∷ Node host ∷ Fixed (codes "waiting") ∷ []) more
pending-more l (AnswersNoted node count) more =
    words-more l (Number count) (Fixed (codes "of") ∷ Node node ∷ Fixed (codes "noted") ∷ []) more

-- what is so where nothing is left waiting, and no messages are counted
pub few-words : (g : Got) → ((all : List Pending) → g ≡ got.StillPending all → ⊥) → ((count : ℕ) → g ≡ got.Messages count → ⊥)
    → short_words g ≡ got_words g
few-words (got.StillPending all) h k = absurd (h all refl)
few-words (got.Messages count) h k = absurd (k count refl)
few-words g h k = refl

-- ---- no line of words has an LF, whatever its words are
module _ (l : Language) where
  after-quiet : (w : Word) → is_quiet (text_after_space l w) ≡ true
  after-quiet (Mark text) = quiet-word l (Mark text)
  after-quiet w = quiet-word l w

  pub all-quiet : (ws : List Word) → is_quiet (spaced_words l ws) ≡ true
  all-quiet [] = refl
  all-quiet (w ∷ ws) = joined no_end (text_after_space l w) (spaced_words l ws) (after-quiet w) (all-quiet ws)

  pub line-quiet : (ws : List Word) → is_quiet (words_text l ws) ≡ true
  line-quiet [] = refl
  line-quiet (w ∷ ws) = joined no_end (word_text l w) (spaced_words l ws) (quiet-word l w) (all-quiet ws)
