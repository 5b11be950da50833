-- What a contract promises of a function's result and of what stands behind each `&mut` that it was lent, at exit.
use seplogic.Ra.Ura.{Ura}
use base.Logic.{SProp, ent}
use contract.Lifetimes.{Lfts}
use contract.Monad.{fact}
use denote.Triple.Clauses.{Ended, Clauses, Lasts, at_exit}
use denote.Triple.Entry.{Args, Res}

module _ {M : Type 1} (𝓤 : Ura M) (T : Ended) (c : Clauses 𝓤 T) where
  -- what the contract's `ensures` clauses say of a result r and of last values ws
  abbrev pub Promised : (κs : Lfts T.signature.lifetimes) (a : Args T.signature κs) → (c κs a).ghost → Res T.signature κs → Lasts T κs a → SProp 𝓤
  Promised κs a g r ws = (c κs a).ensures g r (at_exit T κs a ws)

  -- Q holds of every result and last values that keep it
  abbrev pub Promises : ((κs : Lfts T.signature.lifetimes) (a : Args T.signature κs) → Res T.signature κs → Lasts T κs a → Type 0) → Type 1
  Promises Q =
      (κs : Lfts T.signature.lifetimes) (a : Args T.signature κs) (g : (c κs a).ghost) (r : Res T.signature κs) (ws : Lasts T κs a)
      → ent 𝓤 (Promised κs a g r ws) (fact 𝓤 (Q κs a r ws))
