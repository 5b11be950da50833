-- Lists of elements, one step at a time, and how many elements a list has that ends where it should.
use Rattle.std.proofs.Common.{Option, Some, None}
use Prim.Native.Nat.{ℕ, zero, suc, ◌-◌, ◌<◌}
use native.Mathlib.Omega.{arith}
use mathlib.Core.Path.{◌≡◌, refl, ap}
use mathlib.Core.Bool.{true, false, false≢true}
use mathlib.Core.List.{List, [], ◌∷◌}
use lib.ListN.{length}
use Rattle.block_list.specs.declared.element.BlockListElement.{BlockListElement}
use Rattle.block_list.specs.declared.element.Unpacked.{Unpacked}
use Rattle.block_list.specs.Element.{unpack_at, after_element, ends_from, elements_from}
use Rattle.block_list.specs.Unpacked.{unpacked_as}

-- an element and the place past it are one alone
pub unpacked_is : {e f : BlockListElement} {m n : ℕ} → unpacked_as e m ≡ unpacked_as f n → (e ≡ f) × (m ≡ n)
unpacked_is {e} {f} {m} {n} h =
    let r : ◌≡◌ {A = Unpacked} (record { element = e; next = m }) (record { element = f; next = n }) = cc in
    (ap (λ (u : Unpacked). u.element) r, ap (λ (u : Unpacked). u.next) r)

module _ (s : List ℕ) (at n : ℕ) (left : 0 < n) (short : unpack_at s at ≡ None) where
  -- at least one is left
  more : n ≡ suc (n - 1)
  more = omega arith

  -- where too few bytes are left for one, the elements that are left do not end
  pub ends_short : ends_from s n at ≡ false
  unfolding ends_from
  ends_short = rw (more, short)

  -- and none is there
  pub elements_short : elements_from s n at ≡ []
  unfolding elements_from
  elements_short = rw (more, short)

module _ (s : List ℕ) (at : ℕ) {n m next : ℕ} {e : BlockListElement} (left : n ≡ suc m) (here : unpack_at s at ≡ unpacked_as e next) where
  -- where an element stands, the n elements end as the m after it do from the next place on
  pub ends_element : ends_from s n at ≡ ends_from s m next
  unfolding ends_from
  ends_element = rw (left, here)

  -- and it is the first of them
  pub elements_element : elements_from s n at ≡ e ∷ elements_from s m next
  unfolding elements_from
  elements_element = rw (left, here)

-- n elements that end at the list's end are n
pub ends-count : (s : List ℕ) (n at : ℕ) → ends_from s n at ≡ true → length (elements_from s n at) ≡ n
unfolding ends_from elements_from
ends-count s zero at h = refl
ends-count s (suc n) at h = each (unpack_at s at) (ends-count s n) h
  where
    -- by what stands at the place
    each
        : (u : Option Unpacked) → ((next : ℕ) → ends_from s n next ≡ true → length (elements_from s n next) ≡ n)
        → after_element false (λ e next. ends_from s n next) u ≡ true
        → length (after_element [] (λ e next. e ∷ elements_from s n next) u) ≡ suc n
    each None rest h = absurd (false≢true h)
    each (Some taken) rest h = ap suc (rest taken.next h)
