-- The tower reads what the marshal wrote last. Read specs/Last.antt for the statement: `TowerReads c`. The last law says that it holds
-- of every card.
use Rattle.std.proofs.Common.{Some}
use Prim.Native.Nat.{ℕ, ◌+◌, ◌*◌, ◌<◌}
use mathlib.Core.Path.{◌≡◌, refl, sym, ap, ◌∙◌}
use mathlib.Core.Bool.{Bool, true, false}
use mathlib.Core.List.{List, [], ◌∷◌}
use mathlib.Core.Logic.{⊎_elim}
use lib.ListN.{length}
use Rattle.service_code.specs.declared.code.ServiceKind.TheVariants.{Random}
use Rattle.service_code.specs.Code.{number_of, code_kind_of}
use Rattle.byte_parts.specs.Part.{part}
use Rattle.card_build.specs.declared.card.Card.{Card}
use Rattle.card_build.specs.Card.{nodes_of}
use Rattle.card_laws.specs.Built.{Built}
use Rattle.card_laws.proofs.Built.{sound_built}
use Rattle.card_laws.proofs.Laid.{laid}
use Rattle.request_check.specs.declared.table.Row.{Row}
use Rattle.request_plan.specs.declared.Reply.TheVariants.{Done}
use Rattle.request_plan.specs.Request.{Request}
use Rattle.request_plan.specs.Serve.{serve, output_after}
use Rattle.request_plan.proofs.Accepted.{accepted, done_or_left, read_leaves}
use Rattle.law_terminals.specs.Orders.{after}
use Rattle.law_terminals.specs.Two.{answer_of, arena_after}
use Rattle.law_terminals.specs.Last.{NamesBlock, Quiet, arena_then, Redrawn, TowerReads}
use Rattle.law_terminals.proofs.Owned.{ServiceRow, one_store}
use Rattle.law_terminals.proofs.Named.{named-good, named-service}
use Rattle.law_terminals.proofs.Written.{wrote, kept}
use Rattle.law_terminals.proofs.Given.{given, put_out}

-- Requests of which no accepted write names block k of the random store of number n leave that block.
module _ {c : Card} (b : Built c) {own n : ℕ} {v : Row} (o : ServiceRow (nodes_of c) own v) (numbered : number_of own ≡ n)
    (random : code_kind_of own ≡ Some Random) {k : ℕ} (here : k < v.blocks) where
  -- the block, in an arena
  abbrev block : List ℕ → List ℕ
  block a = part a (16 * v.start + 16 * k) 16

  -- one of them
  pub one_kept : (a : List ℕ) (r : Request) → (r.write ≡ true → (serve c a r).reply ≡ Done → (i : ℕ) → NamesBlock n k r i → ⊥) →
      block (arena_after c a r) ≡ block a
  one_kept a r f = by_write r.write refl
    where
      by_write : (t : Bool) → r.write ≡ t → block (arena_after c a r) ≡ block a
      by_write true e = ⊎_elim (λ d. kept b o numbered random here a r e d (f e d)) (ap block) (done_or_left c a r)
      by_write false e = ap block (read_leaves c a r e)

  -- all of them
  quiet-kept : (rs : List Request) (a : List ℕ) → Quiet c n k a rs → block (after (answer_of c) (arena_after c) a rs) ≡ block a
  unfolding after
  quiet-kept [] a q = refl
  quiet-kept (r ∷ rs) a q = quiet-kept rs (arena_after c a r) q.1 ∙ one_kept a r q.0

module _ (c : Card) (z : length c.nodes ≡ 64) {n k : ℕ} {d a : List ℕ} {w : Request} {rs : List Request} {q : Request}
    (m : Redrawn c n k d a w rs q) {j : ℕ} (p : NamesBlock n k q j) where
  -- the read gives what was written last; a card that accepts a request is built
  pub tower_given : part (serve c (arena_then c a w rs) q).read (16 * j) 16 ≡ d
  tower_given =
      let b = sound_built c z (accepted c a w m.written).fit.sound in
      let then = arena_then c a w rs in
      let t = m.brings in
      let own = named-service (accepted c a w m.written) t.names in
      let here = rw t.names.block at (named-good (accepted c a w m.written) t.names).number in
      let x = one_store (laid b) (named-service (accepted c then q m.answered) p) own (p.number ∙ sym t.names.number) in
      given c then q m.read m.answered z j p.listed
      ∙ rw (x.0, p.block) (quiet-kept b own t.names.number t.random here rs (arena_after c a w) m.quiet
      ∙ wrote b own t.names.number t.random here a w m.write m.written t.place t.names t.last
      ∙ t.bytes)

  -- and puts it out
  pub tower_out : (out : List ℕ) → length out ≡ q.room → part (output_after out (serve c (arena_then c a w rs) q)) (16 * j) 16 ≡ d
  tower_out out l = put_out c (arena_then c a w rs) q m.read m.answered z j out p.listed l ∙ tower_given

-- on every card, which has 64 records, the tower reads what was written last
pub tower_reads : (c : Card) → length c.nodes ≡ 64 → TowerReads c
tower_reads c z n k d a w rs q m j p out l = tower_out c z m p out l
