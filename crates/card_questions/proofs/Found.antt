-- The total of a code is what the columns of the nodes give.
use Rattle.std.proofs.Common.{Option, Some, None}
use mathlib.Core.Path.{◌≡◌, sym, ◌∙◌}
use mathlib.Core.Bool.{true, false}
use mathlib.Core.List.{List, map}
use Prim.Native.Nat.{ℕ, ◌+◌, ◌-◌, ◌<◌, min}
use lib.ListN.{length, get_or}
use Rattle.card_nodes.specs.declared.node.Node.{Node}
use Rattle.card_nodes.specs.Node.{root_node}
use Rattle.card_nodes.specs.Find.{service_of, area_of}
use Rattle.card_nodes.proofs.Searches.{first_below, in_range_lem}
use Rattle.card_questions.specs.declared.table.Column.TheVariants.{Depth, Second, Blocks}
use Rattle.card_questions.specs.Table.{cell_of, past_of, sum_from}
use Rattle.card_questions.specs.Tags.{tag_as, tag_of, first_tag}
use Rattle.card_questions.specs.Total.{total_of}
use Rattle.card_questions.proofs.Columns.{column_read, total_column}
use Rattle.card_questions.proofs.TagLaws.{tags_service, tags_area}

module _ (ns : List Node) (code : ℕ) {tags : List ℕ} (t : tags ≡ map tag_of ns) where
  -- a service was found, or none
  service_is : {f g : Option ℕ} → f ≡ first_tag (tag_as code true) 0 tags → f ≡ g → service_of ns code ≡ g
  service_is told e = sym (tags_service ns t code) ∙ sym told ∙ e

  area_is : {h g : Option ℕ} → h ≡ first_tag (tag_as code false) 0 tags → h ≡ g → area_of ns code ≡ g
  area_is told e = sym (tags_area ns t code) ∙ sym told ∙ e

  -- that of its store
  pub service-total : {f : Option ℕ} {i b s : ℕ} {blocks : List ℕ} → f ≡ first_tag (tag_as code true) 0 tags → f ≡ Some i → blocks ≡ map (cell_of Blocks) ns →
      b ≡ get_or blocks i 0 → s ≡ min b 65535 → s ≡ total_of ns code
  unfolding total_of
  service-total {i = i} told e bs q a =
      let k : i < length ns = in_range_lem (first_below _ 0 ns) (service_is told e) in
      a ∙ rw (q, bs, service_is told e, column_read Blocks ns i root_node k)

  module _ {f h : Option ℕ} (none : f ≡ first_tag (tag_as code true) 0 tags) (e : f ≡ None) (told : h ≡ first_tag (tag_as code false) 0 tags) where
    -- of an area, over the columns
    pub area-total : {i j b s : ℕ} {depths seconds blocks : List ℕ} → h ≡ Some i →
        depths ≡ map (cell_of Depth) ns → seconds ≡ map (cell_of Second) ns → blocks ≡ map (cell_of Blocks) ns →
        j ≡ past_of depths i → b ≡ sum_from seconds blocks (i + 1) (j - (i + 1)) → s ≡ min b 65535 → s ≡ total_of ns code
    unfolding total_of
    area-total {i = i} {j = j} q ds ss bs w x a =
        let k : i < length ns = in_range_lem (first_below _ 0 ns) (area_is told q) in
        let v : j ≡ past_of (map (cell_of Depth) ns) i = w ∙ rw ds in
        a ∙ rw (x, ss, bs, total_column ns i j k v, service_is none e, area_is told q)

    -- an unknown node has none
    pub no_total : h ≡ None → 0 ≡ total_of ns code
    unfolding total_of
    no_total q = rw (service_is none e, area_is told q)
