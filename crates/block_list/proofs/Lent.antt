-- A reader in a local that is lent by `&mut` for a call, and comes back: for any function that walks a list with one. The
-- loan's lifetime is made for the call and ends no later than the list's, κ: it is ν ∷ κ, the meet of a new atom with κ.
--     Held      the local's cell with a reader in it, what the reader owns, and κ's token
--     Kept      what the lender keeps while the reader is lent under the name γ: the way back to ν's whole token, and the lender's part
--     lends     Held r ⊢ ⇛ ∃ ν γ. the tokens of ν ∷ κ and κ ∗ the `&mut` to r ∗ Kept ν γ
--     backs     the tokens ∗ r' is the last value under γ ∗ Kept ν γ ⊢ ⇛ Held r'
use Prim.Native.Nat.{ℕ}
use mathlib.Core.List.{List, [], ◌∷◌}
use seplogic.Ra.Ura.{Ura}
use base.Share
use base.Fraction.{full_share}
use mir.Syntax.{named, erased}
use mir.Val.{Val, vptr}
use base.Logic.{ent, wand, ex, id⊢}
use base.Fml.{Lft, GName, Share, ftrue, fsep, fat, flft, fdead, fres, flent}
use types.Logic.{Logic}
use contract.BorrowLft.{meet_⊑_left}
use types.Kit.{Item, ‵, raw, ◌⊛◌, some, later, mean, ⋆, ◌$◌, ◌∵◌, !, qed, move, keep, use1, use2, use3, split, split3, join, pick, fsplit, fjoin, fpick, fpack, apply, frame, await, updating, now as at_once, show, done}
use types.SemTy.{Body}
use types.Tokens.{lft_new, lft_end}
use denote.RattleType.{RattleType, owns}
use denote.Laws.{Is, shows}
use denote.Lend.{lends_ref, ref_back}
use denote.Memory.{mem, cell_at, part_of}
use denote.Ref.{MutBor, NamedLft, MutRef}
use denote.Steps.{nothing}
use denote.Struct.Laws as LL
use denote.Struct.Steps.{spelt}
use Rattle.block_list.specs.declared.reader.Reader.{Reader}
use Rattle.block_list.specs.contracts.reader.Reader as T
use Rattle.block_list.proofs.reader.Reader.TheLaws as T'

-- the reader's type behind the `&mut`, whose lists last for κ
abbrev pub α : Lft → NamedLft
α κ = record { mir = named 1; lft = κ }

abbrev pub R : Lft → RattleType
R κ = T.the_row (α κ)

-- the `&mut` to a reader in the block b
abbrev pub to : ℕ → GName → Reader → MutBor Reader
to b γ r = record { ref_ptr = (b, 0); ghost_name = γ; now = r }

module _ {M : Type 1} {𝓤 : Ura M} (𝓛 : Logic 𝓤) (κ : Lft) (q : Share) (b : ℕ) where
  open 𝓛 use {H, A}

  abbrev pub Held : Reader → Item 𝓤
  Held r = ‵ (fat full_share (T'.mir erased) b 0 (T'.lowered r)) ⊛ ‵ ((R κ).own_val r (T'.lowered r ∷ [])) ⊛ ‵ (flft κ q)

  abbrev pub Kept : ℕ → GName → Item 𝓤
  Kept ν γ = raw (wand 𝓤 (A.lft (ν ∷ []) (Share.left q)) (A.lft (ν ∷ []) full_share)) ⊛ ‵ (flent (ν ∷ κ) (Body (mem (R κ)) b 0 γ))

  abbrev pub Tokens : ℕ → Item 𝓤
  Tokens ν = ‵ (flft (ν ∷ κ) (Share.left q)) ⊛ ‵ (flft κ (Share.right q)) ⊛ ‵ ftrue

  -- what is lent: the tokens, and what the callee's one parameter owns
  abbrev pub Lent : Reader → ℕ → GName → Item 𝓤
  Lent r ν γ = (Tokens ν ⊛ ‵ (owns (MutRef (named 0) (ν ∷ κ) (R κ) ∷ []) (to b γ r, tt) (vptr b 0 ∷ [], tt))) ⊛ Kept ν γ

  module _ where
    pub lends : (r : Reader) → ent 𝓤 (mean 𝓛 (Held r)) (H.⇛ (ex 𝓤 (λ (ν : ℕ). ex 𝓤 (λ (γ : GName). mean 𝓛 (Lent r ν γ)))))
    unfolding part_of
    lends r =
        qed 𝓛 (Held r ∷ []) ∵ updating ! $ split3 ! $
        use1 𝓛 (‵ (cell_at full_share (R κ).mir (T'.lowered r ∷ []) b 0)) (𝓛.laws.at_raw full_share (T'.mir erased) b 0 (T'.lowered r)) $
        fjoin ! $ fpack ! (List Val) (λ us. fsep (cell_at full_share (R κ).mir us b 0) ((R κ).own_val r us)) (T'.lowered r ∷ []) $
        lft_new ! tt (λ ν. move ! (1 ∷ []) $
        use1 𝓛 (later (some (λ (γ : GName). ‵ ((MutRef (named 0) (ν ∷ κ) (R κ)).own_val (to b γ r) (vptr b 0 ∷ [])) ⊛ ‵ (flent (ν ∷ κ) (Body (mem (R κ)) b 0 γ)))))
        (lends_ref 𝓛 (R κ) (named 0) (ν ∷ κ) r b 0) $ await ! tt $ pick ! (λ γ. split ! $
        -- [the reference; the lender's part; ν's token; κ's token]
        move ! (3 ∷ []) $ use1 𝓛 (‵ (flft κ (Share.left q)) ⊛ ‵ (flft κ (Share.right q))) (𝓛.lfts.lft_split κ q) $ split ! $
        move ! (4 ∷ []) $ use1 𝓛 (‵ (flft (ν ∷ []) (Share.left q)) ⊛ raw (wand 𝓤 (A.lft (ν ∷ []) (Share.left q)) (A.lft (ν ∷ []) full_share)))
        (𝓛.lfts.lft_carve ν (Share.left q)) $ split ! $
        move ! (0 ∷ 2 ∷ []) $ use2 𝓛 (‵ (flft (ν ∷ κ) (Share.left q))) (𝓛.lfts.lft_meet (ν ∷ []) κ (Share.left q)) $
        -- [the token of ν ∷ κ; the way back; κ's token; the reference; the lender's part]
        at_once ! $ show ! (λ (ν' : ℕ). ex 𝓤 (λ (γ' : GName). mean 𝓛 (Lent r ν' γ'))) ν $ show ! (λ (γ' : GName). mean 𝓛 (Lent r ν γ')) γ $
        nothing ! $ move ! (3 ∷ 0 ∷ []) $ join ! $ move ! (1 ∷ 0 ∷ []) $ join ! $ nothing ! $ move ! (3 ∷ 0 ∷ []) $ fjoin ! $ move ! (1 ∷ 0 ∷ []) $ join ! $ frame ! $ done !))

    pub backs : (r' : Reader) (ν : ℕ) (γ : GName) → ent 𝓤 (⋆ 𝓛 (Tokens ν ∷ ‵ (fres γ ((R κ).coded.code r')) ∷ Kept ν γ ∷ [])) (H.⇛ (mean 𝓛 (Held r')))
    unfolding part_of
    backs r' ν γ =
        qed 𝓛 (Tokens ν ∷ ‵ (fres γ ((R κ).coded.code r')) ∷ Kept ν γ ∷ []) ∵ updating ! $ split3 ! $
        use1 𝓛 (‵ (flft (ν ∷ []) (Share.left q)) ⊛ ‵ (flft κ (Share.left q))) (𝓛.lfts.lft_unmeet (ν ∷ []) κ (Share.left q)) $ split ! $
        move ! (1 ∷ 2 ∷ []) $ use2 𝓛 (‵ (flft κ q)) (𝓛.lfts.lft_join κ q) $
        -- [κ's token; ν's; true; the last value; what was kept]
        move ! (4 ∷ []) $ split ! $ move ! (3 ∷ 0 ∷ []) $ apply ! $ use1 𝓛 (‵ (flft (ν ∷ []) full_share)) (id⊢ 𝓤 _) $
        lft_end ! tt $ use1 𝓛 (‵ (fdead (ν ∷ κ))) (𝓛.lfts.dead-incl (ν ∷ κ) (ν ∷ []) (meet_⊑_left (ν ∷ []) κ)) $
        -- [ν ∷ κ is over; the lender's part; κ's token; true; the last value]
        move ! (0 ∷ 1 ∷ 4 ∷ []) $ use3 𝓛 (later (‵ ((mem (R κ)).own_at r' b 0))) (ref_back 𝓛 (R κ) (ν ∷ κ) γ r' b 0) $ await ! tt $
        fpick ! (λ vs. fsplit ! $ spelt ! (R κ) (Is (R κ)) (shows 𝓛 (R κ)) (LL.vals (T.the_type (α κ)) (T'.the_laws (α κ)))
        (LL.tells (T.the_type (α κ)) (T'.the_laws (α κ))) full_share r' vs b 0 $
        use1 𝓛 (‵ (fat full_share (T'.mir erased) b 0 (T'.lowered r'))) (𝓛.laws.raw_at full_share (T'.mir erased) b 0 (T'.lowered r')) $
        at_once ! $ frame ! $ frame ! $ keep ! (0 ∷ []) $ done !)
