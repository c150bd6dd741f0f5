-- The commands of node configuration in schedule tables (LIN 2.2A, section 9.2.5), and what stands in their
-- groups.
use Rattle.std.specs.Prelude.{◌≡◌, ℕ, zero, suc, ◌-◌, ◌==◌, ◌<◌, ◌&&◌, List, [], ◌∷◌, ◌++◌, All, Bool, ⊤}
use Rattle.std.specs.Prelude.{Option, Some, None, Result, Ok, Err, codes, if◌then◌else◌}
use Rattle.std.specs.Str.{bytes_eq}
use Rattle.lin_ldf.specs.Forms.{tail}
use Rattle.lin_ldf.specs.Loops.{is_next}
use Rattle.lin_ldf.specs.Symbols.{Symbol}
use Rattle.lin_ldf.specs.declared.fault.LdfFault.{LdfFault}
use Rattle.lin_ldf.specs.declared.token.TokenKind.TheVariants.{CloseBrace, Comma}
use Rattle.lin_parts.specs.declared.description.Number.{Number}
use Rattle.lin_sections.specs.Stops.{◌>>=◌, mark_next, name_next, next_to, number_next, Reading, StopsAt}
use Rattle.lin_sections.specs.declared.commands.Arguments.{Arguments}
use Rattle.lin_sections.specs.declared.commands.Arguments.TheVariants as arguments_of
use Rattle.lin_sections.specs.declared.commands.Command.{Command}
use Rattle.lin_sections.specs.declared.commands.Command.TheVariants as command

abbrev pub command_of : List ℕ → Option Command
command_of word =
    if bytes_eq word (codes "AssignNAD") then Some command.AssignNad
    else if bytes_eq word (codes "AssignFrameId") then Some command.AssignFrameId
    else if bytes_eq word (codes "AssignFrameIdRange") then Some command.AssignFrameIdRange
    else if bytes_eq word (codes "ConditionalChangeNAD") then Some command.ConditionalChangeNad
    else if bytes_eq word (codes "DataDump") then Some command.DataDump
    else if bytes_eq word (codes "SaveConfiguration") then Some command.SaveConfiguration
    else if bytes_eq word (codes "FreeFormat") then Some command.FreeFormat
    else None

-- ---- from after the opening brace up to the closing one, where a byte is an INT up to 255
-- bytes may end here, where so many more are needed
abbrev pub is_end_of_bytes : ℕ → List Symbol → Bool
is_end_of_bytes needed ts = needed == 0 && is_next CloseBrace ts

-- behind bytes that were read: { ',' byte }* '}', so many more at least, and so many more at most
abbrev pub more_bytes : List Number → ℕ → ℕ → List Symbol → Reading (List Number)
more_bytes bytes least zero ts = do
  e ← mark_next CloseBrace ts
  Ok (bytes, e.1)
more_bytes bytes least (suc most) ts =
    if is_end_of_bytes least ts then Ok (bytes, tail ts)
    else next_to 255 ts >>= λ b. more_bytes (bytes ++ b.0 ∷ []) (least - 1) most b.1

-- what a call read is all these bytes
abbrev pub ReadsMoreBytes : Result (Unit {0}) LdfFault → List Number → List Symbol → Reading (List Number) → Type 0
ReadsMoreBytes (Ok u) bytes left reading = reading ≡ Ok (bytes, left)
ReadsMoreBytes (Err e) bytes left reading = StopsAt e left reading

-- WORD ',' WORD '}'
abbrev pub frame_arguments : List Symbol → Reading Arguments
frame_arguments ts = do
  n ← name_next ts
  u ← mark_next Comma n.1
  f ← name_next u.1
  e ← mark_next CloseBrace f.1
  Ok (arguments_of.Frame n.0 f.0, e.1)

-- WORD { ',' byte }* '}'
abbrev pub node_arguments : ℕ → ℕ → List Symbol → Reading Arguments
node_arguments least most ts = do
  n ← name_next ts
  bs ← more_bytes [] least most n.1
  Ok (arguments_of.Node n.0 bs.0, bs.1)

-- byte { ',' byte }* '}'
abbrev pub byte_arguments : ℕ → List Symbol → Reading Arguments
byte_arguments more ts = do
  b ← number_next 0 255 ts
  bs ← more_bytes (b.0 ∷ []) more more b.1
  Ok (arguments_of.Bytes bs.0, bs.1)

-- bytes are below 256
abbrev pub AreBytes : List Number → Type 0
AreBytes bytes = All (λ b. b.value < 256) bytes

abbrev pub HasBytes : Arguments → Type 0
HasBytes (arguments_of.Node node bytes) = AreBytes bytes
HasBytes (arguments_of.Frame node frame) = ⊤
HasBytes (arguments_of.Bytes bytes) = AreBytes bytes

abbrev pub arguments : Command → List Symbol → Reading Arguments
arguments command.AssignNad ts = node_arguments 0 0 ts
arguments command.AssignFrameId ts = frame_arguments ts
arguments command.AssignFrameIdRange ts = node_arguments 1 5 ts
arguments command.ConditionalChangeNad ts = byte_arguments 5 ts
arguments command.DataDump ts = node_arguments 5 5 ts
arguments command.SaveConfiguration ts = node_arguments 0 0 ts
arguments command.FreeFormat ts = byte_arguments 7 ts
