-- Key versions and the two list checks, on nodes and of a card.
use Rattle.std.specs.Prelude.{ℕ, List, [], ◌∷◌, Bool, true, false, cond, not, ◌&&◌, ◌||◌, eqb, get_or, Option, Some, None, Result, Ok, Err}
use Rattle.service_code.specs.Code.{requires_key}
use Rattle.answers.specs.declared.refusal.Refusal.TheVariants.{NotBuilt}
use Rattle.card_nodes.specs.declared.node.Node.{Node}
use Rattle.card_nodes.specs.Node.{root_node}
use Rattle.card_nodes.specs.Find.{service_of, area_of}
use Rattle.card_build.specs.declared.card.Card.{Card}
use Rattle.card_build.specs.Card.{nodes_of, is_sound}
use Rattle.card_questions.specs.declared.keys.ListNode.{ListNode}
use Rattle.card_questions.specs.declared.keys.ListNode.TheVariants.{Keyed, KeyFree, Unknown}
use Rattle.answers.specs.declared.refusal.Refusal.{Refusal}

abbrev pub is_found : Option ℕ → Bool
is_found (Some i) = true
is_found None = false

-- the version of a node that was found, or what else is answered
abbrev pub version_at : List Node → Option ℕ → ℕ → ℕ
version_at ns (Some i) other = (get_or ns i root_node).version
version_at ns None other = other

-- system for FFFF, else service, else area, else FFFF
-- RULES 3.4, 6.4
unfoldable pub version_of : List Node → ℕ → ℕ → ℕ
version_of ns system code =
    cond (eqb code 0xffff) system (version_at ns (service_of ns code) (version_at ns (area_of ns code) 0xffff))

-- an area's code, or FFFF
-- RULES 3.4
unfoldable pub area_or_system : List Node → ℕ → Bool
area_or_system ns code = cond (eqb code 0xffff) true (is_found (area_of ns code))

unfoldable pub all_areas : List Node → List ℕ → Bool
all_areas ns [] = true
all_areas ns (c ∷ cs) = area_or_system ns c && all_areas ns cs

-- first an existing area, each later one an area or FFFF; empty is no
-- RULES 6.5
unfoldable pub area_list_of : List Node → List ℕ → Bool
area_list_of ns [] = false
area_list_of ns (c ∷ cs) = is_found (area_of ns c) && all_areas ns cs

-- FFFF and areas are always keyed, a service by its code's lowest bit
-- RULES 3.3, 3.4, 6.6
unfoldable pub list_node_of : List Node → ℕ → ListNode
list_node_of ns code =
    cond (eqb code 0xffff) Keyed
    (cond (is_found (service_of ns code)) (cond (requires_key code) Keyed KeyFree)
    (cond (is_found (area_of ns code)) Keyed Unknown))

abbrev pub is_keyed : ListNode → Bool
is_keyed Keyed = true
is_keyed KeyFree = false
is_keyed Unknown = false

abbrev pub is_free : ListNode → Bool
is_free Keyed = false
is_free KeyFree = true
is_free Unknown = false

abbrev pub is_known : ListNode → Bool
is_known Keyed = true
is_known KeyFree = true
is_known Unknown = false

-- each resolves
unfoldable pub all_known : List Node → List ℕ → Bool
all_known ns [] = true
all_known ns (c ∷ cs) = is_known (list_node_of ns c) && all_known ns cs

-- at least one keyed
unfoldable pub any_keyed : List Node → List ℕ → Bool
any_keyed ns [] = false
any_keyed ns (c ∷ cs) = is_keyed (list_node_of ns c) || any_keyed ns cs

-- no keyed entry follows a key-free service
unfoldable pub in_order : List Node → List ℕ → Bool
in_order ns [] = true
in_order ns (c ∷ cs) = cond (is_free (list_node_of ns c)) (not (any_keyed ns cs)) (in_order ns cs)

-- RULES 6.6
unfoldable pub service_list_of : List Node → List ℕ → Bool
service_list_of ns cs = all_known ns cs && (in_order ns cs && any_keyed ns cs)

-- what a card answers, refusal 8 first
unfoldable pub version_answer : Card → ℕ → Result ℕ Refusal
version_answer c code = cond (not (is_sound c)) (Err NotBuilt) (Ok (version_of (nodes_of c) c.system.version code))

abbrev pub checked_by : Bool → Result Bool Refusal
checked_by true = Ok true
checked_by false = Ok false

unfoldable pub area_list_answer : Card → List ℕ → Result Bool Refusal
area_list_answer c areas = cond (not (is_sound c)) (Err NotBuilt) (checked_by (area_list_of (nodes_of c) areas))

unfoldable pub service_list_answer : Card → List ℕ → Result Bool Refusal
service_list_answer c services = cond (not (is_sound c)) (Err NotBuilt) (checked_by (service_list_of (nodes_of c) services))
