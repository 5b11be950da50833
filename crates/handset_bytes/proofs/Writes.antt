-- The stores that write a record, put together.
use Rattle.std.proofs.Common.{Option}
use mathlib.Core.Path.{◌≡◌}
use mathlib.Core.List.{List}
use Prim.Native.Nat.{ℕ}
use lib.IntN.{ℤ}
use lib.ListN.{set}
use Rattle.byte_parts.specs.Values.{flag_of}
use Rattle.byte_parts.specs.Part.{put}
use Rattle.byte_parts.specs.Word.{word_bytes, word_of}
use Rattle.byte_parts.specs.Half.{half_bytes}
use Rattle.service_code.specs.declared.limit.Limit.{Limit}
use Rattle.card_nodes.specs.declared.node.Entry.{Entry}
use Rattle.card_nodes.specs.declared.node.Entry.TheVariants.{Area, Service}
use Rattle.card_nodes.specs.declared.node.Node.{Node}
use Rattle.card_build.specs.declared.card.Card.{Card}
use Rattle.handset_bytes.specs.Layout.{count_place, used_place, system_place, key_place, flags_place, layout_place, layout_number, kind_place, depth_place, code_place, start_place, blocks_place, version_place, generation_place, upper_place, lower_place}
use Rattle.handset_bytes.specs.Field.{fields_put}
use Rattle.handset_bytes.specs.Node.{kind_byte, limit_fields, entry_fields, node_fields}
use Rattle.handset_bytes.specs.Card.{head_fields}
use Rattle.service_code.specs.Limit.{limited_to}

module _ (i : ℕ) where
  -- a limit
  pub limit-put : (s t v : List ℕ) (upper lower : ℤ) (generation a b : ℕ) {l : Option Limit} → a ≡ word_of upper → b ≡ word_of lower →
      t ≡ put (set s (generation_place i) generation) (upper_place i) 4 (word_bytes a) → v ≡ put t (lower_place i) 4 (word_bytes b) →
      l ≡ limited_to upper lower generation → v ≡ fields_put (limit_fields i l) s
  unfolding put word_bytes fields_put
  limit-put s t v upper lower generation a b x y p q e = rw (e, q, p, x, y)

  -- an area
  pub area-put : (s t : List ℕ) (end : ℕ) {e : Entry} → t ≡ put s (start_place i) 2 (half_bytes end) → e ≡ Area end → t ≡ fields_put (entry_fields i e) s
  unfolding half_bytes fields_put
  area-put s t end p e = rw (e, p)

  -- a service
  pub service-put : (s t u v : List ℕ) (start blocks : ℕ) (l : Option Limit) {e : Entry} → t ≡ put s (start_place i) 2 (half_bytes start) →
      u ≡ put t (blocks_place i) 2 (half_bytes blocks) → v ≡ fields_put (limit_fields i l) u → e ≡ Service start blocks l → v ≡ fields_put (entry_fields i e) s
  unfolding half_bytes fields_put
  service-put s t u v start blocks l p q r e = rw (e, r, q, p)

  -- a record
  pub node-put : (n : Node) (s t u v : List ℕ) (k : ℕ) → k ≡ kind_byte n.entry →
      t ≡ put (set (set s (kind_place i) k) (depth_place i) n.depth) (code_place i) 2 (half_bytes n.code) →
      u ≡ put t (version_place i) 2 (half_bytes n.version) → v ≡ fields_put (entry_fields i n.entry) u → v ≡ fields_put (node_fields i n) s
  unfolding put half_bytes fields_put node_fields
  node-put n s t u v k x p q r = rw (r, q, p, x)

-- a header
pub head_put : (c : Card) (s t u v w x y : List ℕ) {flag : ℕ} → t ≡ put s count_place 2 (half_bytes c.count) →
    u ≡ put t used_place 2 (half_bytes c.used) → v ≡ put u system_place 2 (half_bytes c.system.code) →
    w ≡ put v key_place 2 (half_bytes c.system.version) → x ≡ put w flags_place 2 (half_bytes flag) → flag ≡ flag_of c.system.join →
    y ≡ put x layout_place 2 (half_bytes layout_number) → y ≡ fields_put (head_fields c) s
unfolding half_bytes fields_put
head_put c s t u v w x y p q r o m f l = rw (l, m, f, o, r, q, p)
