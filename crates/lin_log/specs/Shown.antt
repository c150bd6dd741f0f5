-- What the words of the code show.
use Rattle.std.specs.Prelude.{ℕ, List, [], ◌∷◌}
use Rattle.lin_log.specs.Language.{plain}
use Rattle.lin_log.specs.Words.{Word, word_text}
use Rattle.lin_log.specs.Words.Word.{Node, Signal, Table, Frame, Number, Range, Identifier}
use Rattle.lin_log.specs.Words.Word.{Hex, Matching, Raw, Fixed, Said, Fields, Listed, Lines, Mark}
use Rattle.lin_log.specs.declared.line_words.Word.{Word as CodeWord}
use Rattle.lin_log.specs.declared.line_words.Word.TheVariants as code

-- what a word of the code says
abbrev pub as_word : CodeWord → Word
as_word (code.Node n) = Node n
as_word (code.Signal s) = Signal s
as_word (code.Table t) = Table t
as_word (code.Frame f) = Frame f
as_word (code.Number n) = Number n
as_word (code.Range low high) = Range low high
as_word (code.Byte b) = Hex (b ∷ [])
as_word (code.Identifier i) = Identifier i
as_word (code.Bytes bytes) = Hex bytes.now
as_word (code.Pattern p) = Matching p.now
as_word (code.Value v) = Raw v.now
as_word (code.Fixed text) = Fixed text.now
as_word (code.Said text) = Said text.now
as_word (code.Fields fields) = Fields fields.now
as_word (code.Listed texts) = Listed texts.now
as_word (code.Lines lines) = Lines lines.now
as_word (code.Mark text) = Mark text.now

-- its text by numbers alone
abbrev pub word_shown : CodeWord → List ℕ
word_shown w = word_text plain (as_word w)
