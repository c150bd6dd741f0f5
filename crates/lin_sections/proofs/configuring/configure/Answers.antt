use Rattle.std.proofs.Common.{◌≡◌, ◌∙◌, ℕ, List, [], ◌++◌, Option, ap, flat_map, subst, sym}
use Rattle.std.specs.Prelude.{All}
use Rattle.lin_cluster.specs.declared.finding.Finding.{Finding}
use Rattle.lin_ldf.specs.Stream.{start_of}
use Rattle.lin_ldf.specs.Symbols.{Symbol, symbols_in}
use Rattle.lin_parts.specs.Cluster.{node_of}
use Rattle.lin_parts.specs.Configured.{with_configuration}
use Rattle.lin_parts.specs.Rules.{AreIdentities}
use Rattle.lin_parts.specs.declared.parts.Identity.{Identity}
use Rattle.lin_parts.specs.declared.parts.Parts.{Parts}
use Rattle.lin_sections.specs.Attributes.{node_attributes}
use Rattle.lin_sections.specs.Configuring.{configured_by, identities_by, identities_in, requests_in, section_requests, section_warnings, warnings_by}
use Rattle.lin_sections.specs.Identities.{identities_of, warnings_unless}
use Rattle.lin_sections.specs.Statements.{statements}
use Rattle.lin_sections.specs.declared.attribute_blocks.NodeAttributes.{NodeAttributes}
use Rattle.lin_sections.specs.declared.configuring.TableRequests.{TableRequests}
use Rattle.lin_sections.specs.declared.identities.NodeIdentity.{NodeIdentity}
use Rattle.lin_sections.proofs.KnownIdentities.{are-identities, limits-kept, KeepsLimits}
use Rattle.lin_sections.proofs.configuring.configure.Goals as goal

by-blocks : (k : Parts) (ts : List Symbol) (name : List ℕ) (blocks : List NodeAttributes) (ids : List NodeIdentity) → name ≡ (node_of k 0).name → blocks ≡ node_attributes ts → ids ≡ identities_of name blocks → ids ≡ identities_by k ts
by-blocks k ts name blocks ids n b e = e ∙ ap (λ x. identities_of x blocks) n ∙ ap (identities_of (node_of k 0).name) b

is-configured : (k result : Parts) (ts : List Symbol) (ids : List NodeIdentity) (tables : List TableRequests) (requests : List (List (Option (List ℕ)))) (identities : List Identity) → ids ≡ identities_by k ts → tables ≡ flat_map (section_requests k ids) (statements ts) → requests ≡ requests_in k tables → identities ≡ identities_in k ids → result ≡ with_configuration k identities requests → result ≡ configured_by k ts
is-configured k result ts ids tables requests identities i t r j e =
    e ∙ ap (λ x. with_configuration k x requests) j ∙ ap (with_configuration k (identities_in k ids)) (r ∙ ap (requests_in k) t)
    ∙ ap (λ x. with_configuration k (identities_in k x) (requests_in k (flat_map (section_requests k x) (statements ts)))) i

all-warnings : (k : Parts) (ts : List Symbol) (name : List ℕ) (blocks : List NodeAttributes) (ids : List NodeIdentity) (none first all : List Finding) → name ≡ (node_of k 0).name → blocks ≡ node_attributes ts → ids ≡ identities_by k ts → none ≡ [] → first ≡ none ++ flat_map (warnings_unless name) blocks → all ≡ first ++ flat_map (section_warnings k ids) (statements ts) → all ≡ warnings_by k ts
all-warnings k ts name blocks ids none first all n b i z f e =
    e
    ∙ ap (λ x. x ++ flat_map (section_warnings k ids) (statements ts)) (f ∙ ap (λ x. x ++ flat_map (warnings_unless name) blocks) z ∙ ap (λ x. flat_map (warnings_unless x) blocks) n ∙ ap (flat_map (warnings_unless (node_of k 0).name)) b)
    ∙ ap (λ x. flat_map (warnings_unless (node_of k 0).name) (node_attributes ts) ++ flat_map (section_warnings k x) (statements ts)) i

pub configured-requires : goal.configured-requires
configured-requires c =
    let k = c.args.cluster in
    let ids = c.in_ok-by_blocks.by_blocks.items in
    let kept = subst (All KeepsLimits) (sym c.in_ok-by_blocks.ensures.all) (limits-kept c.node_name.result.now c.as_slice.result.now) in
    subst (AreIdentities k) (sym (c.in_ok-identities.ensures ∙ ap (identities_in k) c.as_slice-4.ensures.value)) (are-identities k ids c.sound.ensures.rules c.sound.ensures.sound kept)

pub returns-clause-cluster : goal.returns-clause-cluster
returns-clause-cluster c =
    let k = c.args.cluster in
    let ts = symbols_in c.args.text.now (start_of c.args.text.now).tokens in
    let ids = c.in_ok-by_blocks.by_blocks.items in
    let tables = c.in_ok-tables.tables.items in
    is-configured k c.configured.result ts ids tables c.as_slice-5.result.now c.in_ok-identities.identities
    (by-blocks k ts c.node_name.result.now c.as_slice.result.now ids c.node_name.ensures (c.as_slice.ensures ∙ c.in_ok-blocks.ensures.read) c.in_ok-by_blocks.ensures.all)
    (c.in_ok-tables.ensures.tables ∙ ap (λ x. flat_map (section_requests k x) (statements ts)) c.as_slice-2.ensures.value)
    (c.as_slice-5.ensures.value ∙ c.in_ok-requests.ensures ∙ ap (requests_in k) c.as_slice-3.ensures.value)
    (c.in_ok-identities.ensures ∙ ap (identities_in k) c.as_slice-4.ensures.value)
    c.configured.ensures

pub returns-clause-warned : goal.returns-clause-warned
returns-clause-warned c =
    let k = c.args.cluster in
    let ts = symbols_in c.args.text.now (start_of c.args.text.now).tokens in
    let blocks = c.as_slice.ensures ∙ c.in_ok-blocks.ensures.read in
    all-warnings k ts c.node_name.result.now c.as_slice.result.now c.as_slice-2.result.now c.new-warned.result.items c.identities_of.new.warned.items c.read_tables.new.warned.items c.node_name.ensures blocks
    (c.as_slice-2.ensures.value ∙ by-blocks k ts c.node_name.result.now c.as_slice.result.now c.in_ok-by_blocks.by_blocks.items c.node_name.ensures blocks c.in_ok-by_blocks.ensures.all)
    c.new-warned.ensures.items c.in_ok-by_blocks.ensures.warned c.in_ok-tables.ensures.warned
