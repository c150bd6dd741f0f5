-- Worked examples of the configurable frames that are read.
use Rattle.std.proofs.Common.{◌≡◌, ℕ, List, [], ◌∷◌, refl}
use Rattle.std.specs.Prelude.{◌++◌, codes}
use Rattle.lin_parts.specs.declared.description.Name.{Name}
use Rattle.lin_ldf.specs.Symbols.{Symbol}
use Rattle.lin_ldf.specs.declared.token.TokenKind.{TokenKind}
use Rattle.lin_ldf.specs.declared.token.TokenKind.TheVariants as kinds
use Rattle.lin_sections.specs.Configured.{configurables}

abbrev token : TokenKind → List ℕ → ℕ → Symbol
token kind text column = record { kind = kind; text = text; line = 1; column = column }

abbrev open_brace : Symbol
open_brace = token kinds.OpenBrace (codes "{") 0

abbrev close_brace : Symbol
close_brace = token kinds.CloseBrace (codes "}") 0

abbrev semicolon : Symbol
semicolon = token kinds.Semicolon (codes ";") 0

abbrev equals : Symbol
equals = token kinds.Equals (codes "=") 0

abbrev number : Symbol
number = token kinds.Number (codes "0x10") 0

abbrev word : List ℕ → ℕ → Symbol
word text column = token kinds.Word text column

abbrev name : List ℕ → ℕ → Name
name text column = record { text = text; line = 1; column = column }

-- Order; Echo = 0x10;
abbrev both : List Symbol
both = word (codes "Order") 5 ∷ semicolon ∷ word (codes "Echo") 6 ∷ equals ∷ number ∷ semicolon ∷ []

-- configurable_frames { .. }
abbrev listing : List Symbol → List Symbol
listing frames = word (codes "configurable_frames") 0 ∷ open_brace ∷ (frames ++ close_brace ∷ [])

-- lsm { configured_NAD = 0x10; configurable_frames { .. } }
abbrev block : List Symbol → List Symbol
block frames = word (codes "lsm") 2 ∷ open_brace ∷ word (codes "configured_NAD") 0 ∷ equals ∷ number ∷ semicolon ∷ (listing frames ++ close_brace ∷ [])

abbrev section : List ℕ → List Symbol → List Symbol
section title frames = word title 0 ∷ open_brace ∷ (block frames ++ close_brace ∷ [])

-- after a line of the header
abbrev text : List ℕ → List Symbol → List Symbol
text title frames = word (codes "LIN_description_file") 0 ∷ semicolon ∷ section title frames

pub both-forms : configurables (text (codes "Node_attributes") both) ≡ record { node = name (codes "lsm") 2; frames = name (codes "Order") 5 ∷ name (codes "Echo") 6 ∷ [] } ∷ []
both-forms = refl

-- a node whose list is empty isn't named
pub no-frame : configurables (text (codes "Node_attributes") []) ≡ []
no-frame = refl

-- in another section it is no list
pub another-section : configurables (text (codes "Others") both) ≡ []
another-section = refl
