-- The numbers of findings, and findings by their kinds.
use Rattle.std.specs.Prelude.{ℕ, List, [], ◌∷◌, codes, slice_index_or}
use Rattle.lin_cluster.specs.declared.finding.Finding.{Finding}
use Rattle.lin_cluster.specs.declared.finding.FindingKind.{FindingKind}
use Rattle.lin_cluster.specs.declared.finding.FindingKind.TheVariants.{UnknownName, WrongPublisher}
use Rattle.lin_cluster.specs.declared.finding.FindingKind.TheVariants.{BadId, IdTwice, BadSize}
use Rattle.lin_cluster.specs.declared.finding.FindingKind.TheVariants.{SignalOutside}
use Rattle.lin_cluster.specs.declared.finding.FindingKind.TheVariants.{SignalsOverlap, BadInit}
use Rattle.lin_cluster.specs.declared.finding.FindingKind.TheVariants.{SlotTooShort, ZeroDelay}
use Rattle.lin_cluster.specs.declared.finding.FindingKind.TheVariants.{BadNad, NadTwice}
use Rattle.lin_cluster.specs.declared.finding.FindingKind.TheVariants.{BadEventFrame, BadSporadic}
use Rattle.lin_cluster.specs.declared.finding.FindingKind.TheVariants.{NestedCollision, EmptyTable}
use Rattle.lin_cluster.specs.declared.finding.FindingKind.TheVariants.{LimitPassed, MixedChecksum}
use Rattle.lin_cluster.specs.declared.finding.FindingKind.TheVariants.{NoSize, NoTable, WideSignal}
use Rattle.lin_cluster.specs.declared.finding.FindingKind.TheVariants.{Rounded, ExtraMark}
use Rattle.lin_cluster.specs.declared.finding.FindingKind.TheVariants.{InitialNad, ByteOrder}
use Rattle.lin_cluster.specs.declared.finding.FindingKind.TheVariants.{HeaderLine, UnknownWord}
use Rattle.lin_cluster.specs.declared.finding.FindingKind.TheVariants.{BadEncoding, EncodingTwice}
use Rattle.lin_cluster.specs.declared.finding.FindingKind.TheVariants.{UnknownEncoding}
use Rattle.lin_cluster.specs.declared.finding.FindingKind.TheVariants.{UnknownSignal}
use Rattle.lin_cluster.specs.declared.finding.FindingKind.TheVariants.{RepresentedTwice, MinAboveMax}
use Rattle.lin_cluster.specs.declared.finding.FindingKind.TheVariants.{RangesOverlap, LogicalTwice}
use Rattle.lin_cluster.specs.declared.finding.FindingKind.TheVariants.{ValueOutside, ZeroScale}
use Rattle.lin_cluster.specs.declared.finding.FindingKind.TheVariants.{KindOfSignal}
use Rattle.lin_cluster.specs.declared.finding.FindingKind.TheVariants.{UnplacedSignal, UnusedFrame}
use Rattle.lin_cluster.specs.declared.finding.FindingKind.TheVariants.{UnscheduledFrame}
use Rattle.lin_cluster.specs.declared.finding.FindingKind.TheVariants.{NoSubscriber, OwnSubscriber}
use Rattle.lin_cluster.specs.declared.finding.FindingKind.TheVariants.{OffTimeBase, NoAddress}
use Rattle.lin_cluster.specs.declared.finding.FindingKind.TheVariants.{BadResponseError}
use Rattle.lin_cluster.specs.declared.finding.FindingKind.TheVariants.{BadConfigurable}
use Rattle.lin_cluster.specs.declared.finding.FindingKind.TheVariants.{UnusedEncoding}
use Rattle.lin_cluster.specs.declared.finding.FindingKind.TheVariants.{EventMemberBeside}
use Rattle.lin_cluster.specs.declared.finding.FindingKind.TheVariants.{SporadicMemberBeside}
use Rattle.lin_cluster.specs.declared.finding.FindingKind.TheVariants.{UnresolvedMember}
use Rattle.lin_cluster.specs.declared.finding.FindingKind.TheVariants.{ResolvingEntry}
use Rattle.lin_cluster.specs.declared.finding.FindingKind.TheVariants.{NoResponseError}
use Rattle.lin_cluster.specs.declared.finding.FindingKind.TheVariants.{AttributeTwice, BadAttribute}
use Rattle.lin_cluster.specs.declared.finding.FindingKind.TheVariants.{TimeoutTooShort}
use Rattle.lin_cluster.specs.declared.finding.FindingKind.TheVariants.{BadCommand, UnknownCommand}
use Rattle.lin_cluster.specs.declared.finding.FindingKind.TheVariants.{NoResponder, NoProduct}
use Rattle.lin_cluster.specs.declared.finding.FindingKind.TheVariants.{NotConfigurable, BadIndex}
use Rattle.lin_cluster.specs.declared.finding.FindingKind.TheVariants.{OtherPid, BadIdentity}

abbrev pub number_of : FindingKind → ℕ
number_of UnknownName = 1
number_of WrongPublisher = 2
number_of BadId = 3
number_of IdTwice = 4
number_of BadSize = 5
number_of SignalOutside = 6
number_of SignalsOverlap = 7
number_of BadInit = 8
number_of (SlotTooShort needed_us) = 9
number_of ZeroDelay = 10
number_of BadNad = 11
number_of NadTwice = 12
number_of BadEventFrame = 13
number_of BadSporadic = 14
number_of NestedCollision = 15
number_of EmptyTable = 16
number_of LimitPassed = 17
number_of MixedChecksum = 18
number_of NoSize = 19
number_of NoTable = 20
number_of WideSignal = 21
number_of Rounded = 22
number_of ExtraMark = 23
number_of InitialNad = 24
number_of ByteOrder = 25
number_of HeaderLine = 26
number_of UnknownWord = 27
number_of BadEncoding = 31
number_of EncodingTwice = 32
number_of UnknownEncoding = 33
number_of UnknownSignal = 34
number_of RepresentedTwice = 35
number_of MinAboveMax = 36
number_of RangesOverlap = 37
number_of LogicalTwice = 38
number_of ValueOutside = 39
number_of ZeroScale = 40
number_of KindOfSignal = 41
number_of UnplacedSignal = 51
number_of UnusedFrame = 52
number_of UnscheduledFrame = 53
number_of NoSubscriber = 54
number_of OwnSubscriber = 55
number_of OffTimeBase = 56
number_of NoAddress = 57
number_of BadResponseError = 58
number_of BadConfigurable = 59
number_of UnusedEncoding = 60
number_of EventMemberBeside = 61
number_of SporadicMemberBeside = 62
number_of UnresolvedMember = 63
number_of ResolvingEntry = 64
number_of NoResponseError = 65
number_of AttributeTwice = 68
number_of BadAttribute = 69
number_of TimeoutTooShort = 70
number_of BadCommand = 71
number_of UnknownCommand = 72
number_of NoResponder = 73
number_of NoProduct = 74
number_of NotConfigurable = 75
number_of BadIndex = 76
number_of OtherPid = 77
number_of BadIdentity = 78

-- the names of findings, by their numbers, which begin at 1
abbrev pub finding_names : List (List ℕ)
finding_names =
    [] ∷ codes "UnknownName" ∷ codes "WrongPublisher" ∷ codes "BadId" ∷ codes "IdTwice" ∷ codes "BadSize"
    ∷ codes "SignalOutside" ∷ codes "SignalsOverlap" ∷ codes "BadInit" ∷ codes "SlotTooShort"
    ∷ codes "ZeroDelay" ∷ codes "BadNad" ∷ codes "NadTwice" ∷ codes "BadEventFrame" ∷ codes "BadSporadic"
    ∷ codes "NestedCollision" ∷ codes "EmptyTable" ∷ codes "LimitPassed" ∷ codes "MixedChecksum"
    ∷ codes "NoSize" ∷ codes "NoTable" ∷ codes "WideSignal" ∷ codes "Rounded" ∷ codes "ExtraMark"
    ∷ codes "InitialNad" ∷ codes "ByteOrder" ∷ codes "HeaderLine" ∷ codes "UnknownWord"
    ∷ [] ∷ [] ∷ []
    ∷ codes "BadEncoding" ∷ codes "EncodingTwice" ∷ codes "UnknownEncoding" ∷ codes "UnknownSignal"
    ∷ codes "RepresentedTwice" ∷ codes "MinAboveMax" ∷ codes "RangesOverlap" ∷ codes "LogicalTwice"
    ∷ codes "ValueOutside" ∷ codes "ZeroScale" ∷ codes "KindOfSignal" ∷ [] ∷ [] ∷ [] ∷ [] ∷ [] ∷ []
    ∷ [] ∷ [] ∷ [] ∷ codes "UnplacedSignal" ∷ codes "UnusedFrame" ∷ codes "UnscheduledFrame"
    ∷ codes "NoSubscriber" ∷ codes "OwnSubscriber" ∷ codes "OffTimeBase" ∷ codes "NoAddress"
    ∷ codes "BadResponseError" ∷ codes "BadConfigurable" ∷ codes "UnusedEncoding"
    ∷ codes "EventMemberBeside" ∷ codes "SporadicMemberBeside" ∷ codes "UnresolvedMember"
    ∷ codes "ResolvingEntry" ∷ codes "NoResponseError" ∷ [] ∷ [] ∷ codes "AttributeTwice"
    ∷ codes "BadAttribute" ∷ codes "TimeoutTooShort"
    ∷ codes "BadCommand" ∷ codes "UnknownCommand" ∷ codes "NoResponder" ∷ codes "NoProduct"
    ∷ codes "NotConfigurable" ∷ codes "BadIndex" ∷ codes "OtherPid" ∷ codes "BadIdentity" ∷ []

abbrev pub finding_name : ℕ → List ℕ
finding_name number = slice_index_or finding_names number []

-- the time in microseconds that a slot that is too short needs
abbrev pub needed_by : FindingKind → ℕ
needed_by (SlotTooShort needed_us) = needed_us
needed_by kind = 0

-- a finding by its kind, line and column
abbrev pub finding_at : FindingKind → ℕ → ℕ → Finding
finding_at kind line column = record {
  line = line;
  column = column;
  number = number_of kind;
  needed_us = needed_by kind;
}
