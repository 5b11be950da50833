-- Room for a text and for what is printed of it, and parts of it as the code lends them. Assumes nothing.
use Prim.Native.Nat.{ℕ, ◌-◌, ◌≤◌}
use native.Mathlib.Omega.{arith}
use mathlib.Core.Path.{◌≡◌, sym}
use mathlib.Core.List.{List}
use lib.ListN.{length, take, drop, replicate, length-replicate}
use lib.Seq.{length-take-le}

pub of_length : (n v : ℕ) → n ≡ length (replicate n v)
of_length n v = sym (length-replicate n v)

pub lent : (n : ℕ) (l w : List ℕ) → take n l ≡ w → take (n - 0) (drop 0 l) ≡ w
lent n l w e = let z : n - 0 ≡ n = omega arith in rw z e

pub lent_most : (n most : ℕ) (l : List ℕ) → n ≤ length l → n ≤ most → length (take (n - 0) (drop 0 l)) ≤ most
lent_most n most l h g =
    let z : n - 0 ≡ n = omega arith in
    let e : length (take n l) ≡ n = length-take-le n l h in
    rw z (omega (arith, e, g))
