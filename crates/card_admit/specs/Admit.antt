-- What may follow the nodes that are there. Tests in the order of the refusals.
use Rattle.std.specs.Prelude.{ℕ, ◌+◌, ◌/◌, ◌%◌, min, List, Bool, true, false, cond, not, ◌&&◌, eqb, ltb, leb, get_or, Option, Some, None, Result, Ok, Err}
use Rattle.byte_parts.specs.Sizes.{block_size, most_blocks}
use Rattle.answers.specs.declared.refusal.Refusal.TheVariants.{InvalidAreaRange, InvalidRootAreaRange, NodeCodeOutOfRange, InvalidAreaAttribute, ChildAreaForbidden, UndefinedServiceAttribute, ServiceOutOfRange, AreaOutOfRange, OverlapKindMismatch, NoParent, NoRoom, CountsDiffer}
use Rattle.service_code.specs.declared.code.ServiceKind.TheVariants.{Random, Cyclic, Purse}
use Rattle.service_code.specs.Code.{attribute_of, code_kind_of}
use Rattle.card_nodes.specs.declared.node.Node.{Node}
use Rattle.card_admit.specs.declared.Placed.{Placed}
use Rattle.card_nodes.specs.Node.{root_node, end_of, start_of, blocks_of}
use Rattle.card_nodes.specs.Find.{shared_of, parent_of}
use Rattle.answers.specs.declared.refusal.Refusal.{Refusal}
use Rattle.card_admit.specs.Placed.{placed_at}
use Rattle.service_code.specs.declared.code.ServiceAttribute.{ServiceAttribute}
use Rattle.service_code.specs.declared.code.ServiceKind.{ServiceKind}

-- a node other than the root is at a depth from 1 to 8
-- RULES 1.3
unfoldable pub is_depth : ℕ → Bool
is_depth depth = leb 1 depth && leb depth 8

-- at any other depth it has no parent
-- RULES 1.3, 5.4
unfoldable pub parent_at : List Node → ℕ → Option ℕ
parent_at ns depth = cond (not (is_depth depth)) None (parent_of ns depth)

-- area 0000 must end at FFFE
unfoldable pub root_misfit : ℕ → ℕ → Bool
root_misfit code end = cond (eqb code 0) (not (eqb end 0xfffe)) false

-- codes from `code` to `end` leave those from `first` to `last`
unfoldable pub outside : ℕ → ℕ → ℕ → ℕ → Bool
outside code end first last = cond (ltb code first) true (ltb last end)

-- 13 is given to a code past FFFE, or else to an end past it
unfoldable pub out_of_range : ℕ → ℕ → Bool
out_of_range code end = cond (ltb 0xfffe code) true (ltb 0xfffe end)

-- and 15 under an area whose low six bits are not 0
abbrev pub bars_areas : ℕ → Bool
bars_areas code = not (eqb (code % 64) 0)

-- the refusals of an area's code and end by themselves: 13, 12
unfoldable pub codes_misfit : ℕ → ℕ → Result Unit Refusal
codes_misfit code end =
    cond (out_of_range code end) (Err NodeCodeOutOfRange)
    (cond (root_misfit code end) (Err InvalidRootAreaRange)
    (Ok tt))

-- those of its range under its parent: 11, 15, 18
unfoldable pub range_under : Node → ℕ → ℕ → Result Unit Refusal
range_under above code end =
    cond (ltb end code) (Err InvalidAreaRange)
    (cond (bars_areas above.code) (Err ChildAreaForbidden)
    (cond (outside code end above.code (end_of above.entry)) (Err AreaOutOfRange)
    (Ok tt)))

-- 13 (code, then end), 12, 14 (low six bits 0 or 1 only), 11, 15 (parent's low bits not 0), 18
-- RULES 3.4, 5.5
unfoldable pub area_under : Node → ℕ → ℕ → Result Unit Refusal
area_under above code end =
    cond (ltb 0xfffe code) (Err NodeCodeOutOfRange)
    (cond (ltb 0xfffe end) (Err NodeCodeOutOfRange)
    (cond (root_misfit code end) (Err InvalidRootAreaRange)
    (cond (ltb 1 (code % 64)) (Err InvalidAreaAttribute)
    (cond (ltb end code) (Err InvalidAreaRange)
    (cond (not (eqb (above.code % 64) 0)) (Err ChildAreaForbidden)
    (cond (outside code end above.code (end_of above.entry)) (Err AreaOutOfRange)
    (Ok tt)))))))

-- 21, then those of an area under its parent
abbrev pub area_found : List Node → ℕ → ℕ → Option ℕ → Result Unit Refusal
area_found ns code end None = Err NoParent
area_found ns code end (Some p) = area_under (get_or ns p root_node) code end

-- an area after the nodes that are there
unfoldable pub area_judged : List Node → ℕ → ℕ → ℕ → Result Unit Refusal
area_judged ns depth code end = area_found ns code end (parent_at ns depth)

abbrev pub is_undefined : Option ServiceAttribute → Bool
is_undefined None = true
is_undefined (Some a) = false

-- 13, 16, 17 (outside the parent's code to end)
-- RULES 3.4, 5.6
unfoldable pub service_under : Node → ℕ → Result Unit Refusal
service_under above code =
    cond (ltb 0xfffe code) (Err NodeCodeOutOfRange)
    (cond (is_undefined (attribute_of code)) (Err UndefinedServiceAttribute)
    (cond (outside code code above.code (end_of above.entry)) (Err ServiceOutOfRange)
    (Ok tt)))

-- a number for each kind, to compare two
abbrev pub kind_number : Option ServiceKind → ℕ
kind_number None = 0
kind_number (Some Random) = 1
kind_number (Some Cyclic) = 2
kind_number (Some Purse) = 3

unfoldable pub same_kind : ℕ → ℕ → Bool
same_kind a b = eqb (kind_number (code_kind_of a)) (kind_number (code_kind_of b))

-- 19; a later service of a number joins the store, whatever count it names
-- RULES 5.7
unfoldable pub joined_to : Node → ℕ → ℕ → Result Placed Refusal
joined_to first code used =
    cond (not (same_kind first.code code)) (Err OverlapKindMismatch)
    (placed_at (start_of first.entry) (blocks_of first.entry) used)

-- the blocks of an arena of `arena_len` bytes that can be used
-- RULES 1.4
unfoldable pub usable : ℕ → ℕ
usable arena_len = min (arena_len / block_size) most_blocks

-- 22: the usable blocks are fewer than those in use and the store's own together, so that fewer are unused than it needs; the first service of a number makes a store next after those in use
-- RULES 1.5, 5.7
unfoldable pub new_store : ℕ → ℕ → ℕ → Result Placed Refusal
new_store used arena_len blocks = cond (ltb (usable arena_len) (used + blocks)) (Err NoRoom) (placed_at used blocks (used + blocks))

-- the first service of a number, where one is found
abbrev pub first_in : List Node → Option ℕ → Option Node
first_in ns (Some j) = Some (get_or ns j root_node)
first_in ns None = None

-- 19 or 22, or the store
-- RULES 5.6
abbrev pub store_by : ℕ → ℕ → ℕ → ℕ → Option Node → Result Placed Refusal
store_by used arena_len code blocks (Some first) = joined_to first code used
store_by used arena_len code blocks None = new_store used arena_len blocks

abbrev pub store_of : List Node → ℕ → ℕ → ℕ → ℕ → Option ℕ → Result Placed Refusal
store_of ns used arena_len code blocks f = store_by used arena_len code blocks (first_in ns f)

abbrev pub if_done : Result Unit Refusal → Result Placed Refusal → Result Placed Refusal
if_done (Err r) p = Err r
if_done (Ok tt) p = p

-- 13, 16, 17 of a service under its parent, then those of its store
abbrev pub placed_under : Node → Option Node → ℕ → ℕ → ℕ → ℕ → Result Placed Refusal
placed_under above first used arena_len code blocks = if_done (service_under above code) (store_by used arena_len code blocks first)

-- 21, then those of a service under its parent
abbrev pub service_found : List Node → ℕ → ℕ → ℕ → ℕ → Option ℕ → Result Placed Refusal
service_found ns used arena_len code blocks None = Err NoParent
service_found ns used arena_len code blocks (Some p) =
    placed_under (get_or ns p root_node) (first_in ns (shared_of ns code)) used arena_len code blocks

-- a service after them
unfoldable pub placed_of : List Node → ℕ → ℕ → ℕ → ℕ → ℕ → Result Placed Refusal
placed_of ns used arena_len depth code blocks = service_found ns used arena_len code blocks (parent_at ns depth)

-- whether a store of `own` blocks is given to a service that names a count: any is by a system that joins
-- RULES 5.7
unfoldable pub may_join : Bool → ℕ → ℕ → Bool
may_join join own blocks = cond join true (eqb own blocks)

-- 24: the store has another count than the service; a new one never has
-- RULES 5.6, 5.7
abbrev pub agreed : Bool → ℕ → Result Placed Refusal → Result Placed Refusal
agreed join blocks (Err r) = Err r
agreed join blocks (Ok placed) = cond (not (may_join join placed.blocks blocks)) (Err CountsDiffer) (placed_at placed.start placed.blocks placed.used)
