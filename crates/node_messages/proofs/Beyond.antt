-- What a writer leaves alone.
use Prim.Native.Nat.{ℕ, ◌≤◌, ◌<◌}
use native.Mathlib.Omega.{arith}
use native.Mathlib.Nat.{zero-add}
use mathlib.Core.Path.{◌≡◌, refl}
use mathlib.Core.List.{List, ◌++◌}
use lib.ListN.{length, take, drop}
use lib.Seq.{take_at, drop_at, take_all}
use borrow.Author.Tests.{lt-ltb, le-ltb}
use Rattle.byte_parts.proofs.Part.{put-split}
use Rattle.node_messages.specs.Message.{message_after}

module _ (message out : List ℕ) where
  -- an output that is too short stays as it was
  pub short_stays : length out < length message → message_after message out ≡ out
  unfolding message_after
  short_stays h = rw (lt-ltb (length out) (length message) h)

  module _ (h : length message ≤ length out) where
    written : message_after message out ≡ message ++ drop (length message) out
    unfolding message_after
    written =
        let z = zero-add (length message) in
        rw (le-ltb (length out) (length message) h, put-split out 0 (length message) message (omega arith) (omega arith), take_all (length message) message (omega arith), z)

    -- the message stands in front
    pub stands : take (length message) (message_after message out) ≡ message
    stands = rw written (take_at message (drop (length message) out) (length message) refl)

    -- the output beyond it stays as it was
    pub beyond : drop (length message) (message_after message out) ≡ drop (length message) out
    beyond = rw written (drop_at message (drop (length message) out) (length message) refl)
