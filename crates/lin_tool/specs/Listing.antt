-- Which lists of a cluster are written, and in which order.
use Rattle.std.specs.Prelude.{ℕ, Bool, List, [], ◌++◌, Option, if◌then◌else◌}
use Rattle.std.specs.Option.{option_map_or}
use Rattle.lin_parts.specs.declared.parts.Parts.{Parts}
use Rattle.lin_export.specs.ListedFrames.{frame_listing}
use Rattle.lin_export.specs.ListedMaps.{maps}
use Rattle.lin_export.specs.Listing.{listing}
use Rattle.lin_export.specs.ListedSignals.{signal_list}
use Rattle.lin_export.specs.ListedSlots.{slots}
use Rattle.lin_tool.specs.declared.check_lists.Lists.{Lists}
use Rattle.lin_values.specs.Coded.{CodedData}

-- the lines of frames and their places, those of frames and the signals of their bits, and those of
-- slots and loads, if they are wanted
abbrev pub listed_frames : Parts → Bool → List ℕ
listed_frames c is_wanted = if is_wanted then frame_listing c else []

abbrev pub listed_maps : Parts → Bool → List ℕ
listed_maps c is_wanted = if is_wanted then maps c else []

abbrev pub listed_slots : Parts → Bool → List ℕ
listed_slots c is_wanted = if is_wanted then slots c else []

-- those of what the values of signals mean, where they are wanted and that is known
abbrev pub listed_signals : Parts → Option CodedData → Bool → List ℕ
listed_signals c k is_wanted = if is_wanted then option_map_or (signal_list c) k [] else []

-- the list of nodes, signals and schedule tables, and after it those that are wanted
abbrev pub wanted_listing : Parts → Option CodedData → Lists → List ℕ
wanted_listing c k wanted =
    listing c ++ listed_frames c wanted.frames ++ listed_maps c wanted.maps
    ++ listed_slots c wanted.slots ++ listed_signals c k wanted.signals
