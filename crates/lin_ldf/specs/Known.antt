-- The words of sections (LIN 2.2A, section 9.2) and of node attributes (section 9.2.2.2) that a version
-- of LIN has. The grammar reads over those that it doesn't use, and any other word in their place.
use Rattle.std.specs.Prelude.{ℕ, List, [], ◌∷◌, codes}

-- the sections of LIN 2.2A, and Diagnostic_addresses of LIN 1.3
abbrev pub known_sections : List (List ℕ)
known_sections =
    codes "Nodes" ∷ codes "composite" ∷ codes "Signals" ∷ codes "Diagnostic_signals"
    ∷ codes "Frames" ∷ codes "Sporadic_frames" ∷ codes "Event_triggered_frames"
    ∷ codes "Diagnostic_frames" ∷ codes "Node_attributes" ∷ codes "Diagnostic_addresses"
    ∷ codes "Schedule_tables" ∷ codes "Signal_groups" ∷ codes "Signal_encoding_types"
    ∷ codes "Signal_representation" ∷ []

-- the attributes of LIN 2.2A, and the last three of SAE J2602
abbrev pub known_attributes : List (List ℕ)
known_attributes =
    codes "LIN_protocol" ∷ codes "configured_NAD" ∷ codes "initial_NAD" ∷ codes "product_id"
    ∷ codes "response_error" ∷ codes "fault_state_signals" ∷ codes "P2_min" ∷ codes "ST_min"
    ∷ codes "N_As_timeout" ∷ codes "N_Cr_timeout" ∷ codes "configurable_frames"
    ∷ codes "response_tolerance" ∷ codes "wakeup_time" ∷ codes "poweron_time" ∷ []
