-- What the members of the code show.
use Rattle.std.specs.Prelude.{ℕ, List}
use Rattle.std.specs.Fmt.{decimal}
use Rattle.lin_export.specs.ClusterObject.{truth}
use Rattle.lin_export.specs.Json.{escaped_text, hex_text, member, null, printable_text, quoted_text, text_value}
use Rattle.lin_export.specs.declared.json.Member.{Member}
use Rattle.lin_export.specs.declared.json.Member.TheVariants.{Null, Number, Truth, Text, Escaped, Shown}
use Rattle.lin_export.specs.declared.json.Member.TheVariants.{Printable, Hex}

abbrev pub member_shown : Member → List ℕ
member_shown (Null key) = member key.now null
member_shown (Number key n) = member key.now (decimal n)
member_shown (Truth key is) = member key.now (truth is)
member_shown (Text key text) = member key.now (quoted_text text.now)
member_shown (Escaped key text) = member key.now (escaped_text text.now)
member_shown (Shown key text) = member key.now (text_value text.now)
member_shown (Printable key text) = member key.now (printable_text text.now)
member_shown (Hex key bytes) = member key.now (hex_text bytes.now)
