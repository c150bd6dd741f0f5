-- The frames of a node, by sets of names.
use Rattle.std.proofs.Common.{◌≡◌, ℕ, Bool, true, false, List, [], ap, ◌∙◌}
use Rattle.std.specs.Prelude.{◌||◌, ◌&&◌, not, flat_map, if◌then◌else◌}
use Rattle.std.specs.List.{list_any}
use Rattle.std.specs.Str.{bytes_eq}
use Rattle.lin_cluster.specs.FindingsNames.{at_name, is_node, when}
use Rattle.lin_cluster.specs.Lint.{bad_configurable, bad_configurables}
use Rattle.lin_cluster.specs.LintNames.{concerns_by, frames_by, is_frame_of, is_subscribed, lists_by, processes}
use Rattle.lin_cluster.specs.declared.finding.FindingKind.TheVariants.{BadConfigurable}
use Rattle.lin_cluster.specs.declared.lints.configurable.Configurable.{Configurable}
use Rattle.lin_parts.specs.declared.description.Description.{Description}
use Rattle.lin_parts.specs.declared.description.Frame.{Frame}
use Rattle.lin_parts.specs.declared.description.Name.{Name}

-- the names of frames, added to none, by the names of the signals that the node subscribes
pub frames_added : (d : Description) (node : Name) (signals : List ℕ → Bool) (none one : Bool) (fs : List Frame) (q : List ℕ) → ((r : List ℕ) → signals r ≡ is_subscribed d node r) → none ≡ false → one ≡ (none || list_any (λ f. concerns_by signals node f && bytes_eq f.name.text q) fs) → fs ≡ d.frames → one ≡ is_frame_of d node q
frames_added d node signals none one fs q same empty is all =
    is ∙ ap (λ b. b || list_any (λ (f : Frame). concerns_by signals node f && bytes_eq f.name.text q) fs) empty
    ∙ ap (list_any (λ (f : Frame). concerns_by signals node f && bytes_eq f.name.text q)) all
    ∙ (λ i. frames_by (λ r. same r i) d node q)

processed_same : (d : Description) (node : Name) (frames lists : List ℕ → Bool) → ((q : List ℕ) → frames q ≡ is_frame_of d node q) → ((q : List ℕ) → lists q ≡ lists_by frames d q) → (q : List ℕ) → (frames q || lists q) ≡ processes d node q
processed_same d node frames lists own listed q =
    ap (λ b. frames q || b) (listed q) ∙ (λ i. own q i || lists_by (λ r. own r i) d q)

pub configurables_found : (d : Description) (c : Configurable) (frames lists : List ℕ → Bool) (names : List Name) → true ≡ is_node d c.node → names ≡ c.frames → ((q : List ℕ) → frames q ≡ is_frame_of d c.node q) → ((q : List ℕ) → lists q ≡ lists_by frames d q) → flat_map (λ (n : Name). when (not (frames n.text || lists n.text)) (at_name BadConfigurable n)) names ≡ bad_configurables d c
configurables_found d c frames lists names known is own listed =
    ap (flat_map (λ (n : Name). when (not (frames n.text || lists n.text)) (at_name BadConfigurable n))) is
    ∙ (λ i. flat_map (λ (n : Name). when (not (processed_same d c.node frames lists own listed n.text i)) (at_name BadConfigurable n)) c.frames)
    ∙ ap (λ b. if b then flat_map (bad_configurable d c.node) c.frames else []) known
