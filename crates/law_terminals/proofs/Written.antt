-- What an accepted write makes of a block of a random store: the bytes that its last element for the block brings, or what it was if
-- there is no such element.
use Rattle.std.proofs.Common.{Some}
use Prim.Native.Nat.{ℕ, ◌+◌, ◌*◌, ◌≤◌, ◌<◌}
use native.Mathlib.Omega.{arith}
use native.Mathlib.Nat.{zero-add}
use mathlib.Core.Path.{◌≡◌, refl, sym, ap, ◌∙◌}
use mathlib.Core.Bool.{Bool, true, false, and-eq-true_iff}
use mathlib.Core.List.{List, [], ◌∷◌}
use lib.Dec.{eqb}
use lib.ListN.{length, take}
use lib.Seq.{length-take-le}
use borrow.Author.Tests.{eq-eqb, eqb-true}
use Rattle.service_code.specs.declared.code.ServiceKind.TheVariants.{Random}
use Rattle.service_code.specs.Code.{number_of, code_kind_of}
use Rattle.block_list.specs.declared.element.BlockListElement.{BlockListElement}
use Rattle.byte_parts.specs.Part.{part}
use Rattle.byte_parts.proofs.Part.{part-part}
use Rattle.card_build.specs.declared.card.Card.{Card}
use Rattle.card_build.specs.Card.{nodes_of}
use Rattle.card_laws.specs.Built.{Built}
use Rattle.card_laws.proofs.Laid.{laid}
use Rattle.request_check.specs.declared.table.Row.{Row}
use Rattle.request_check.proofs.Laws.{AllPass, good}
use Rattle.request_plan.specs.declared.Reply.TheVariants.{Done}
use Rattle.request_plan.specs.Request.{Request}
use Rattle.request_plan.specs.Plan.{rows_in, elements_in}
use Rattle.request_plan.specs.Serve.{serve}
use Rattle.request_plan.proofs.Accepted.{Accepted, accepted, nothing, counted, each_passed, stores_put_lem}
use Rattle.request_runs.proofs.WalkSteps.{AllFrom}
use Rattle.law_terminals.specs.Two.{arena_after}
use Rattle.law_terminals.specs.Last.{element_at, code_named, NamesBlock}
use Rattle.law_terminals.proofs.Owned.{ServiceRow}
use Rattle.law_terminals.proofs.Folds.{folded, replaced, folded_none, folded_last}
use Rattle.law_terminals.proofs.Stored.{part_of_put, hits, data_at, Checks, block-staged}

-- a test that is not true is false
ne_true : (t : Bool) → (t ≡ true → ⊥) → t ≡ false
ne_true true h = absurd (h refl)
ne_true false h = refl

-- a part of a front is a part of the whole
part_front_lem : (s : List ℕ) (n at m : ℕ) → at + m ≤ n → part (take n s) at m ≡ part s at m
unfolding part
part_front_lem s n at m h = part-part s 0 n at m h ∙ rw (zero-add at)

-- elements that passed, whose data are there
pub checks_from_lem : (rows : List Row) (d : List ℕ) («open» : Bool) (i : ℕ) (es : List BlockListElement) → AllPass rows true «open» es →
    16 * (i + length es) ≤ length d → AllFrom (Checks rows d) i es
checks_from_lem rows d «open» i [] p h = tt
checks_from_lem rows d «open» i (e ∷ es) p h =
    (record { passes = good rows true «open» e p.0; brings = omega arith }, checks_from_lem rows d «open» (i + 1) es p.1 (omega arith))

-- Block k of the random store of number n, that of the service `own`.
module _ {c : Card} (b : Built c) {own n : ℕ} {v : Row} (o : ServiceRow (nodes_of c) own v) (numbered : number_of own ≡ n)
    (random : code_kind_of own ≡ Some Random) {k : ℕ} (here : k < v.blocks) where
  -- where it lies in the arena
  abbrev place : ℕ
  place = 16 * v.start + 16 * k

  -- its store lies among the blocks in use
  row_fits : 16 * v.start + 16 * v.blocks ≤ 16 * c.used
  row_fits = omega (arith, (laid b).within o.node, o.start, o.blocks)

  module _ (a : List ℕ) (w : Request) (t : w.write ≡ true) (e : (serve c a w).reply ≡ Done) where
    it : Accepted c a w
    it = accepted c a w e

    -- whether an element names the block
    abbrev hit : BlockListElement → Bool
    hit x = hits w.codes (number_of own) k x

    -- one that names it hits
    names_hits : {i : ℕ} → NamesBlock n k w i → hit (element_at w i) ≡ true
    names_hits {i} m =
        rw (eq-eqb (number_of (code_named w i)) (number_of own) (m.number ∙ sym numbered), eq-eqb (element_at w i).number k m.block)

    -- one that does not name it does not
    other_misses : (i : ℕ) → i < length (elements_in w) → (NamesBlock n k w i → ⊥) → hit (element_at w i) ≡ false
    other_misses i l f = ne_true _ (λ q.
        let p = (and-eq-true_iff (eqb (number_of (code_named w i)) (number_of own)) (eqb (element_at w i).number k)).0 q in
        f (record {
          listed = l;
          number = eqb-true (number_of (code_named w i)) (number_of own) p.0 ∙ numbered;
          block = eqb-true (element_at w i).number k p.1;
        }))

    -- all elements passed, and their data are there
    all_checked_lem : AllFrom (Checks (rows_in c w) w.«data») 0 (elements_in w)
    all_checked_lem =
        let p : AllPass (rows_in c w) true w.«open» (elements_in w) = rw t at (each_passed it) in
        checks_from_lem (rows_in c w) w.«data» w.«open» 0 (elements_in w) p (omega (arith, it.fit.«data» t, counted it))

    -- the block after the write: what the elements that name it bring, one after the other
    makes : part (arena_after c a w) place 16 ≡ folded (replaced hit (data_at w.«data»)) 0 (elements_in w) (part a place 16)
    makes =
        let size = 16 * c.used in
        let s = stores_put_lem c a w e t in
        let z = block-staged (laid b) w.codes w.«data» random o size k row_fits here
        (elements_in w) (take size a) s.0 all_checked_lem (length-take-le size a it.fit.arena) s.1 in
        let whole = part_of_put a 0 size s.0 place 16 (omega (arith, it.fit.arena)) z.0 (omega (arith, row_fits, here)) in
        let front = part_front_lem a size place 16 (omega (arith, row_fits, here)) in
        rw s.2 ((rw (zero-add place) at whole) ∙ z.1 ∙ ap (folded (replaced hit (data_at w.«data»)) 0 (elements_in w)) front)

    -- so it is what the last element that names it brings
    pub wrote : (i : ℕ) → NamesBlock n k w i → ((j : ℕ) → i < j → NamesBlock n k w j → ⊥) →
        part (arena_after c a w) place 16 ≡ part w.«data» (16 * i) 16
    wrote i m f =
        let last = folded_last hit (data_at w.«data») nothing 0 (elements_in w) (part a place 16) i m.listed (names_hits m)
        (λ j l h. other_misses j h (f j l)) in
        makes ∙ last ∙ rw (zero-add i)

    -- and as it was, if none names it
    pub kept : ((j : ℕ) → NamesBlock n k w j → ⊥) → part (arena_after c a w) place 16 ≡ part a place 16
    kept f = makes ∙ folded_none hit (data_at w.«data») nothing 0 (elements_in w) (part a place 16) (λ j h. other_misses j h (f j))
