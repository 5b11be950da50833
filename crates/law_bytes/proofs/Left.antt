-- What an accepted addition leaves in the card's bytes is read back as the card that it gave, so calls can follow one another.
use mathlib.Core.Path.{◌≡◌, refl}
use mathlib.Core.Bool.{Bool, true, false, false≢true}
use mathlib.Core.List.{List}
use Prim.Native.Nat.{ℕ, ◌<◌, ◌^◌}
use lib.IntN.{ℤ}
use lib.ListN.{length}
use borrow.Author.Tests.{eq-eqb}
use Rattle.byte_parts.specs.Values.{Bytes}
use Rattle.card_build.specs.declared.card.System.{System}
use Rattle.card_build.specs.declared.card.Card.{Card}
use Rattle.card_build.specs.declared.card.Added.{Added}
use Rattle.card_build.specs.Card.{new_card, is_sound, accepted}
use Rattle.card_build.specs.Build.{area_added, service_added, limit_added}
use Rattle.card_laws.proofs.Built.{built_sound, past-eight}
use Rattle.handset_bytes.specs.Layout.{card_size}
use Rattle.handset_bytes.specs.Card.{card_put, is_card, card_decoded}
use Rattle.handset_bytes.specs.Fits.{LimitFits, SystemFits, Fits}
use Rattle.law_bytes.proofs.Round.{valid_long, read_back, unsound}
use Rattle.law_bytes.proofs.Fitting.{decoded_fits, new-fits, area-fits, service-fits, limit-fits}
use Rattle.handset_words.specs.Kept.{card_after}
use Rattle.service_code.specs.Limit.{limited_to}

-- bytes of a card's length, written anew
put_back : (s : List ℕ) (c : Card) → length s ≡ card_size → Fits c → card_decoded (card_put c s) ≡ c
unfolding card_put
put_back s c h f = rw (eq-eqb (length s) card_size h) (read_back c f)

-- a new card
pub new-left : (s : List ℕ) (system : System) → length s ≡ card_size → SystemFits system →
    card_decoded (card_put (new_card system) s) ≡ new_card system
new-left s system h k = put_back s (new_card system) h (new-fits system k)

-- bytes whose card is sound encode one
sound_is : (s : List ℕ) → is_sound (card_decoded s) ≡ true → is_card s ≡ true
sound_is s e = by (is_card s) refl
  where
    by : (t : Bool) → is_card s ≡ t → t ≡ true
    by true h = refl
    by false h = absurd (false≢true (rw (unsound s h) at e))

module _ (s : List ℕ) (b : Bytes s) {c' : Card} where
  -- an addition that is accepted
  left : {a : Added} → is_sound (card_decoded s) ≡ true → a ≡ accepted c' → Fits c' → card_decoded (card_after s a) ≡ c'
  left e k f = rw k (put_back s c' (valid_long s (sound_is s e)) f)

  -- an area
  pub area-left : (depth code end version : ℕ) → code < 2 ^ 16 → end < 2 ^ 16 → version < 2 ^ 16 →
      area_added (card_decoded s) depth code end version ≡ accepted c' →
      card_decoded (card_after s (area_added (card_decoded s) depth code end version)) ≡ c'
  unfolding area_added
  area-left depth code end version h k l e =
      let f = decoded_fits s b in
      left (built_sound (past-eight (card_decoded s) f.records e).0) e (area-fits f depth code end version h k l e)

  -- a service
  pub service-left : (arena_len depth code blocks version : ℕ) → code < 2 ^ 16 → version < 2 ^ 16 →
      service_added (card_decoded s) arena_len depth code blocks version ≡ accepted c' →
      card_decoded (card_after s (service_added (card_decoded s) arena_len depth code blocks version)) ≡ c'
  unfolding service_added
  service-left arena_len depth code blocks version h l e =
      let f = decoded_fits s b in
      left (built_sound (past-eight (card_decoded s) f.records e).0) e (service-fits f arena_len depth code blocks version h l e)

  -- a limit
  pub limit-left : (upper lower : ℤ) (generation : ℕ) → LimitFits (limited_to upper lower generation) →
      limit_added (card_decoded s) upper lower generation ≡ accepted c' →
      card_decoded (card_after s (limit_added (card_decoded s) upper lower generation)) ≡ c'
  unfolding limit_added
  limit-left upper lower generation h e =
      let f = decoded_fits s b in
      left (built_sound (past-eight (card_decoded s) f.records e).0) e (limit-fits f upper lower generation h e)
