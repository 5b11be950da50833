-- A block of a random store holds what an accepted write or a set block brought to it, and whatever names it in no accepted write and in
-- no set block leaves it so; a read of it gives it.
use Rattle.std.proofs.Common.{Some, Result, Ok, Err}
use Prim.Native.Nat.{ℕ, ◌+◌, ◌*◌, ◌≤◌, ◌<◌}
use native.Mathlib.Omega.{arith}
use native.Mathlib.Decide.{ℕ_discrete, dec_lt}
use mathlib.Core.Path.{◌≡◌, refl, sym, ap, ◌∙◌}
use mathlib.Core.Bool.{true, false, not}
use mathlib.Core.List.{List, [], ◌∷◌}
use mathlib.Core.Logic.{◌⊎◌, inl, inr, ⊎_elim}
use lib.Dec.{ltb}
use lib.ListN.{length}
use lib.Seq.{take_all}
use borrow.Author.Tests.{ltb-false, leb-false, not-false}
use Rattle.answers.specs.declared.refusal.Refusal.{Refusal}
use Rattle.answers.specs.declared.refusal.Refusal.TheVariants.{ShortArena, NoSuchBlock, NotBuilt}
use Rattle.service_code.specs.declared.code.ServiceKind.TheVariants.{Random}
use Rattle.service_code.specs.Code.{number_of, code_kind_of}
use Rattle.byte_parts.specs.Part.{part, put}
use Rattle.byte_parts.proofs.Part.{part-put, part-put_apart}
use Rattle.card_build.specs.declared.card.Card.{Card}
use Rattle.card_build.specs.Card.{nodes_of, is_sound}
use Rattle.card_laws.specs.Built.{Built}
use Rattle.card_laws.proofs.Built.{sound_built}
use Rattle.card_laws.proofs.Laid.{laid}
use Rattle.request_check.specs.declared.table.Row.{Row}
use Rattle.request_check.specs.Row.{row_of}
use Rattle.request_plan.specs.declared.Reply.TheVariants.{Done}
use Rattle.request_plan.specs.Request.{Request}
use Rattle.request_plan.specs.Serve.{serve}
use Rattle.request_plan.proofs.Accepted.{accepted}
use Rattle.request_plan.proofs.Tests.{passed_over}
use Rattle.request_block.specs.Block.{block_place, lacks_block, block_judged, arena_set}
use Rattle.law_terminals.specs.Two.{arena_after}
use Rattle.law_terminals.specs.Last.{NamesBlock, LastBrings}
use Rattle.law_terminals.proofs.Owned.{ServiceRow, index_owned, one_store, two_stores}
use Rattle.law_terminals.proofs.Named.{named-good, named-service}
use Rattle.law_terminals.proofs.Written.{wrote}
use Rattle.law_terminals.proofs.Given.{given}
use Rattle.law_terminals.proofs.Last.{one_kept}
use Rattle.law_blocks.specs.Deed.{Deed, requested, block_set, neither, DeedDone, DeedNames, DeedBrings}
use Rattle.card_build.proofs.Accepted.{not_done}

-- Block k of the random store of number n holds the bytes d, in the arena a.
pub record BlockHolds (c : Card) (n k : ℕ) (d a : List ℕ) : Type 0 where
  -- the card is built, and has a service of that number and kind, with that block
  pub built : Built c
  pub own : ℕ
  pub row : Row
  pub service : ServiceRow (nodes_of c) own row
  pub number : number_of own ≡ n
  pub random : code_kind_of own ≡ Some Random
  pub here : k < row.blocks
  pub block : part a (16 * row.start + 16 * k) 16 ≡ d

-- so it is after an accepted write whose last element for it brings them
pub write_holds : (c : Card) → length c.nodes ≡ 64 → {n k : ℕ} {d : List ℕ} (a : List ℕ) (w : Request) → w.write ≡ true →
    (serve c a w).reply ≡ Done → LastBrings n k d w → BlockHolds c n k d (arena_after c a w)
write_holds c z {k = k} a w t e m =
    let it = accepted c a w e in
    let b = sound_built c z it.fit.sound in
    let o = named-service it m.names in
    let h = rw m.names.block at (named-good it m.names).number in
    record {
      built = b;
      own = _;
      row = _;
      service = o;
      number = m.names.number;
      random = m.random;
      here = h;
      block = wrote b o m.names.number m.random h a w t e m.place m.names m.last ∙ m.bytes;
    }

-- what is known of a block that is found
record Block (c : Card) (arena_len code number : ℕ) : Type 0 where
  pub built : Built c
  pub service : ServiceRow (nodes_of c) code (row_of (nodes_of c) code)
  pub here : number < (row_of (nodes_of c) code).blocks
  pub inside : block_place (row_of (nodes_of c) code) number + 16 ≤ arena_len

found_block : (c : Card) → length c.nodes ≡ 64 → (arena_len code number : ℕ) → block_judged c arena_len code number ≡ Ok tt →
    Block c arena_len code number
unfolding block_judged
found_block c z arena_len code number e =
    let s = passed_over (not_done {r = NotBuilt}) (not (is_sound c)) _ e in
    let a = passed_over (not_done {r = ShortArena}) (ltb arena_len (16 * c.used)) _ s.1 in
    let b = passed_over (not_done {r = NoSuchBlock}) (lacks_block (row_of (nodes_of c) code) number) (Ok tt) a.1 in
    let n : number < (row_of (nodes_of c) code).blocks = leb-false (row_of (nodes_of c) code).blocks number b.0 in
    let l : 16 * c.used ≤ arena_len = ltb-false arena_len (16 * c.used) a.0 in
    let t : Built c = sound_built c z (not-false (is_sound c) s.0) in
    let o : ServiceRow (nodes_of c) code (row_of (nodes_of c) code) =
    ⊎_elim (λ q. absurd (omega (arith, n, q))) (λ o. o) (index_owned (nodes_of c) (code ∷ []) 0) in
    record { built = t; service = o; here = n; inside = omega (arith, (laid t).within o.node, o.start, o.blocks, n, l) }

-- the place of a block, in words of its store
place_is : (start number : ℕ) → 16 * (start + number) ≡ 16 * start + 16 * number
place_is start number = omega arith

-- and after the block was set to them
pub set_holds : (c : Card) → length c.nodes ≡ 64 → {n k : ℕ} {d : List ℕ} (a : List ℕ) (code number : ℕ) (bytes : List ℕ) →
    block_judged c (length a) code number ≡ Ok tt → DeedBrings n k d (block_set code number bytes) →
    BlockHolds c n k d (arena_set c a code number bytes)
unfolding arena_set
set_holds c z {k = k} a code number bytes e (numbered, same, random, l, brings) =
    let f = found_block c z (length a) code number e in
    let w = row_of (nodes_of c) code in
    record {
      built = f.built;
      own = code;
      row = w;
      service = f.service;
      number = numbered;
      random = random;
      here = omega (arith, f.here, same);
      block =
          rw (e, ← same, ← place_is w.start number)
          (part-put a (block_place w number) 16 bytes f.inside (omega (arith, l)) ∙ take_all 16 bytes (omega (arith, l)) ∙ brings);
    }

module _ (c : Card) {n k : ℕ} {d a : List ℕ} (h : BlockHolds c n k d a) where
  -- a request that is no accepted write to it leaves it
  pub request_leaves : (r : Request) → (r.write ≡ true → (serve c a r).reply ≡ Done → (i : ℕ) → NamesBlock n k r i → ⊥) →
      BlockHolds c n k d (arena_after c a r)
  request_leaves r f = record {
    built = h.built;
    own = h.own;
    row = h.row;
    service = h.service;
    number = h.number;
    random = h.random;
    here = h.here;
    block = one_kept h.built h.service h.number h.random h.here a r f ∙ h.block;
  }

  -- another arena in which the block is the same
  pub same_block : {b : List ℕ} → part b (16 * h.row.start + 16 * k) 16 ≡ part a (16 * h.row.start + 16 * k) 16 → BlockHolds c n k d b
  same_block e = record {
    built = h.built;
    own = h.own;
    row = h.row;
    service = h.service;
    number = h.number;
    random = h.random;
    here = h.here;
    block = e ∙ h.block;
  }

  module _ (z : length c.nodes ≡ 64) (code number : ℕ) where
    -- another block lies elsewhere
    elsewhere : {arena_len : ℕ} → Block c arena_len code number → ((number_of code ≡ n) × (number ≡ k) → ⊥) →
        let w = row_of (nodes_of c) code in
        let at = 16 * h.row.start + 16 * k in
        (at + 16 ≤ block_place w number) ⊎ (block_place w number + 16 ≤ at)
    elsewhere f other =
        let w = row_of (nodes_of c) code in
        let v = h.row in
        let there = f.here in
        let here = h.here in
        elim (ℕ_discrete (number_of code) n) [
          | yes e ↦
              let s : w.start ≡ v.start = (one_store (laid h.built) f.service h.service (e ∙ sym h.number)).0 in
              elim (ℕ_discrete number k) [
                | yes q ↦ absurd (other (e, q))
                | no q ↦ elim (dec_lt k number) [ yes l ↦ inl (omega (arith, s, l)) | no l ↦ inr (omega (arith, s, l, q)) ]
              ]
          | no e ↦
              ⊎_elim (λ x. inr (omega (arith, x, there))) (λ x. inl (omega (arith, x, here)))
              (two_stores (laid h.built) f.service h.service (λ q. e (q ∙ h.number)))
        ]

    -- a set block that is not it leaves it
    pub set_leaves : (bytes : List ℕ) → (block_judged c (length a) code number ≡ Ok tt → (number_of code ≡ n) × (number ≡ k) → ⊥) →
        BlockHolds c n k d (arena_set c a code number bytes)
    unfolding arena_set
    set_leaves bytes f = same_block (by_judged (block_judged c (length a) code number) refl)
      where
        by_judged : (x : Result Unit Refusal) → block_judged c (length a) code number ≡ x →
            part (arena_set c a code number bytes) (16 * h.row.start + 16 * k) 16 ≡ part a (16 * h.row.start + 16 * k) 16
        by_judged (Err r) e = rw e
        by_judged (Ok tt) e =
            let b = found_block c z (length a) code number e in
            rw e
            (part-put_apart a (block_place (row_of (nodes_of c) code) number) 16 bytes (16 * h.row.start + 16 * k) 16 (elsewhere b (f e)))

  -- an accepted read gives it, through any service of the number
  pub read_gives : length c.nodes ≡ 64 → (q : Request) → q.write ≡ false → (serve c a q).reply ≡ Done → {j : ℕ} → NamesBlock n k q j →
      part (serve c a q).read (16 * j) 16 ≡ d
  read_gives z q t e {j} p =
      let x = one_store (laid h.built) (named-service (accepted c a q e) p) h.service (p.number ∙ sym h.number) in
      given c a q t e z j p.listed ∙ rw (x.0, p.block) h.block

-- the arena after a deed
abbrev pub deed_arena : Card → List ℕ → Deed → List ℕ
deed_arena c a (requested r) = arena_after c a r
deed_arena c a (block_set code number bytes) = arena_set c a code number bytes
deed_arena c a neither = a

module _ (c : Card) (z : length c.nodes ≡ 64) {n k : ℕ} {d : List ℕ} (a : List ℕ) where
  -- a deed that is done leaves what it brings
  pub deed_holds : (x : Deed) → DeedDone c a x → DeedBrings n k d x → BlockHolds c n k d (deed_arena c a x)
  deed_holds (requested r) e m = write_holds c z a r m.0 e m.1
  deed_holds (block_set code number bytes) e m = set_holds c z a code number bytes e m
  deed_holds neither e m = absurd m

  -- one that does not name the block, or is not done, leaves what it holds
  pub deed_leaves : BlockHolds c n k d a → (x : Deed) → (DeedDone c a x → DeedNames n k x → ⊥) → BlockHolds c n k d (deed_arena c a x)
  deed_leaves h (requested r) f = request_leaves c h r (λ w e i m. f e (w, i, m))
  deed_leaves h (block_set code number bytes) f = set_leaves c h z code number bytes f
  deed_leaves h neither f = h
