-- Lines as lists of words and marks.
use Rattle.std.specs.Prelude.{ℕ, Bool, true, false, if◌then◌else◌, List, [], ◌∷◌, ◌++◌, flat_map}
use Rattle.lin_log.specs.Language.{Language}
use Rattle.lin_log.specs.Words.{Word, spaced_word, word_text}
use Rattle.lin_log.specs.Words.Word.{Mark}

-- fields with one space between two
abbrev pub fields_text : List (List ℕ) → List ℕ
fields_text [] = []
fields_text (f ∷ fs) = f ++ flat_map spaced_word fs

abbrev pub is_mark_word : Word → Bool
is_mark_word (Mark text) = true
is_mark_word w = false

abbrev pub text_after_space : Language → Word → List ℕ
text_after_space l w =
    if is_mark_word w then word_text l w else spaced_word (word_text l w)

-- words, each after a space, and words with one space between two
abbrev pub spaced_words : Language → List Word → List ℕ
spaced_words l ws = flat_map (text_after_space l) ws

abbrev pub words_text : Language → List Word → List ℕ
words_text l [] = []
words_text l (w ∷ ws) = word_text l w ++ spaced_words l ws
