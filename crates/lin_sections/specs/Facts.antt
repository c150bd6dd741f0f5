-- What an LDF says, as things with facts: its header, its nodes, signals, frames, schedule tables and
-- encodings (LIN 2.2A, section 9).
use Rattle.std.specs.Prelude.{ℕ, ◌&&◌, Bool, true, false, List, [], codes, nat_lt, None}
use Rattle.lin_parts.specs.declared.description.Name.{Name}
use Rattle.lin_parts.specs.declared.description.Number.{Number}
use Rattle.lin_parts.specs.declared.place.Location.{Location}
use Rattle.lin_sections.specs.declared.diff.fact.Bits.{Bits}
use Rattle.lin_sections.specs.declared.diff.fact.Class.{Class}
use Rattle.lin_sections.specs.declared.diff.fact.Class.TheVariants as classes
use Rattle.lin_sections.specs.declared.diff.fact.Fact.{Fact}
use Rattle.lin_sections.specs.declared.diff.fact.ThingKind.{ThingKind}
use Rattle.lin_sections.specs.declared.diff.fact.ThingKind.TheVariants as kinds
use Rattle.lin_sections.specs.declared.diff.fact.Thing.{Thing}

-- ---- classes and kinds

abbrev pub class_word : Class → List ℕ
class_word classes.Bytes = codes "bytes"
class_word classes.Timing = codes "timing"
class_word classes.Meaning = codes "meaning"
class_word classes.Compatible = codes "compatible"
class_word classes.Names = codes "names"

-- the header has no word
abbrev pub kind_word : ThingKind → List ℕ
kind_word kinds.Header = []
kind_word kinds.Node = codes "node"
kind_word kinds.Signal = codes "signal"
kind_word kinds.Frame = codes "frame"
kind_word kinds.Sporadic = codes "sporadic"
kind_word kinds.Event = codes "event"
kind_word kinds.Table = codes "table"
kind_word kinds.Encoding = codes "encoding"

-- of a thing that is gone: a node that knew it misses it
abbrev pub class_if_gone : ThingKind → Class
class_if_gone kinds.Header = classes.Bytes
class_if_gone kinds.Node = classes.Bytes
class_if_gone kinds.Signal = classes.Bytes
class_if_gone kinds.Frame = classes.Bytes
class_if_gone kinds.Sporadic = classes.Timing
class_if_gone kinds.Event = classes.Bytes
class_if_gone kinds.Table = classes.Timing
class_if_gone kinds.Encoding = classes.Names

-- of a thing that is new: no node of the old LDF looks at it. A sporadic frame changes when others are sent
abbrev pub class_if_new : ThingKind → Class
class_if_new kinds.Header = classes.Compatible
class_if_new kinds.Node = classes.Compatible
class_if_new kinds.Signal = classes.Compatible
class_if_new kinds.Frame = classes.Compatible
class_if_new kinds.Sporadic = classes.Timing
class_if_new kinds.Event = classes.Compatible
class_if_new kinds.Table = classes.Compatible
class_if_new kinds.Encoding = classes.Names

abbrev pub is_compatible : Class → Bool
is_compatible classes.Bytes = false
is_compatible classes.Timing = false
is_compatible classes.Meaning = false
is_compatible classes.Compatible = true
is_compatible classes.Names = false

-- ---- facts

abbrev pub fact : List ℕ → List ℕ → Location → Class → Fact
fact key value place class =
    record { key = key; value = value; place = place; class = class; bits = None }

abbrev pub place_of_number : Number → Location
place_of_number n = record { line = n.line; column = n.column }

abbrev pub place_of_name : Name → Location
place_of_name n = record { line = n.line; column = n.column }

-- a bit is among both
abbrev pub overlap : Bits → Bits → Bool
overlap a b = nat_lt a.from b.end && nat_lt b.from a.end

-- a thing that has no entries, and of which no bits are taken
abbrev pub thing : ThingKind → List ℕ → List ℕ → Location → List Fact → Thing
thing kind name new_name place facts = record {
  kind = kind;
  name = name;
  new_name = new_name;
  place = place;
  facts = facts;
  entries = [];
  taken = [];
}

-- what a line shows of a fact's key: of a subscriber its kind, since its value is its name
abbrev pub label_by : Class → List ℕ → List ℕ
label_by classes.Compatible key = codes "subscriber"
label_by classes.Bytes key = key
label_by classes.Timing key = key
label_by classes.Meaning key = key
label_by classes.Names key = key

abbrev pub label : Fact → List ℕ
label f = label_by f.class f.key
