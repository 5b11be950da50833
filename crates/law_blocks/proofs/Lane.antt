-- A refresh shows what a block holds, and so what was written last. Read specs/Lane.antt for the statement: `BoardShows c`. The last law
-- says that it holds of every card.
use Rattle.std.specs.Prelude.{Err, Ok}
use Rattle.std.proofs.Common.{Result}
use Prim.Native.Nat.{ℕ, zero, suc, ◌+◌, ◌<◌}
use native.Mathlib.Omega.{arith}
use native.Mathlib.Decide.{ℕ_discrete}
use native.Mathlib.Nat.{add-zero, zero-add}
use mathlib.Core.Path.{◌≡◌, refl, sym, ap, subst, ◌∙◌}
use mathlib.Core.List.{List, [], ◌∷◌}
use lib.ListN.{length, get_or}
use Rattle.service_code.specs.Code.{number_of}
use Rattle.block_list.specs.declared.element.BlockListElement.{BlockListElement}
use Rattle.block_list.specs.Element.{unpack_at, elements_from}
use Rattle.card_build.specs.declared.card.Card.{Card}
use Rattle.request_plan.specs.declared.Reply.TheVariants.{Done}
use Rattle.law_terminals.specs.Last.{element_at, NamesBlock, arena_then}
use Rattle.law_terminals.proofs.Last.{tower_given}
use Rattle.board_lanes.specs.Board.{block_at, Lane, empty, lane_of, lanes_from, lanes_of, lanes, board_judged, board_by, board_of}
use Rattle.board_read.specs.Refresh.{board_request, board_served}
use Rattle.law_blocks.specs.Lane.{Shows, BoardShows}
use Rattle.law_blocks.proofs.Holding.{BlockHolds, read_gives}
use Rattle.board_lanes.specs.declared.refusal.BoardRefusal.{BoardRefusal}

-- what holds of each number below n
abbrev Each : (ℕ → Type 0) → ℕ → Type 0
Each P zero = Unit {0}
Each P (suc n) = Each P n × P n

each_below : (P : ℕ → Type 0) (n : ℕ) → Each P n → (k : ℕ) → k < n → P k
each_below P zero e k h = absurd (omega arith)
each_below P (suc n) e k h =
    elim (ℕ_discrete k n) [
      | yes q ↦ subst P (sym q) e.1
      | no q ↦ each_below P n e.0 k (omega arith)
    ]

-- element k of a refresh names block k, by the first of its codes
element_is : (code k : ℕ) → k < 8 → element_at (board_request code 128) k ≡ record { number = k; index = 0; mode = 0 }
unfolding unpack_at elements_from
element_is code k h =
    each_below (λ i. element_at (board_request code 128) i ≡ record { number = i; index = 0; mode = 0 }) 8
    ((((((((tt, refl), refl), refl), refl), refl), refl), refl), refl) k h

pub names-block : (code n k : ℕ) → k < 8 → number_of code ≡ n → NamesBlock n k (board_request code 128) k
unfolding unpack_at elements_from
names-block code n k h e = record {
  listed = h;
  number = ap (λ (x : BlockListElement). number_of (get_or (code ∷ []) x.index 0)) (element_is code k h) ∙ e;
  block = ap (λ (x : BlockListElement). x.number) (element_is code k h);
}

-- lane k of a row of lanes
lane_at_lem : (bytes : List ℕ) (n j k : ℕ) → k < n → get_or (lanes_from bytes n j) k empty ≡ lane_of (block_at bytes (j + k))
unfolding lanes_from
lane_at_lem bytes zero j k h = absurd (omega arith)
lane_at_lem bytes (suc n) j zero h = rw (add-zero j)
lane_at_lem bytes (suc n) j (suc k) h =
    let e : j + 1 + k ≡ j + suc k = omega arith in
    rw (← e) (lane_at_lem bytes n (j + 1) k (omega arith))

-- lane k of a board
pub board-lane : (bytes : List ℕ) (k : ℕ) (ls : List Lane) → k < 8 → board_of bytes ≡ lanes ls → get_or ls k empty ≡ lane_of (block_at bytes k)
unfolding board_of
board-lane bytes k ls h = by_judged (board_judged bytes)
  where
    by_judged : (j : Result Unit BoardRefusal) → board_by bytes j ≡ lanes ls → get_or ls k empty ≡ lane_of (block_at bytes k)
    by_judged (Ok tt) e =
        let same : lanes_of bytes ≡ ls = cc in
        rw (← same) (rw (zero-add k) at (lane_at_lem bytes 8 0 k h))
    by_judged (Err x) e = absurd (let z : ◌≡◌ {A = ℕ} 0 1 = cc in (omega arith))

-- a lane shows what is read as its block
lane-shows : (c : Card) (a : List ℕ) (code : ℕ) {k : ℕ} {d : List ℕ} → k < 8 → block_at (board_served c a code 128).read k ≡ d →
    Shows c a code k d
lane-shows c a code {k} h b = record { block = b; lane = λ ls q. board-lane _ k ls h q ∙ ap lane_of b }

-- so a refresh that is answered 00 00 shows what the block holds
pub holds_shows : (c : Card) → length c.nodes ≡ 64 → {n k : ℕ} {d a : List ℕ} → BlockHolds c n k d a → (code : ℕ) → k < 8 →
    number_of code ≡ n → (board_served c a code 128).reply ≡ Done → Shows c a code k d
holds_shows c z {n} {k} {a = a} h code l e s =
    lane-shows c a code l (read_gives c h z (board_request code 128) refl s (names-block code n k l e))

-- on every card, which has 64 records, a refresh shows what was written last
pub board-shows : (c : Card) → length c.nodes ≡ 64 → BoardShows c
board-shows c z n k d a w rs code h e m =
    lane-shows c (arena_then c a w rs) code h (tower_given c z m (names-block code n k h e))
