-- One answer only. A contract promises something of a function's result and of what stands behind each `&mut` that it was
-- lent, at exit. It admits one answer where any two results, with such last values, that keep it for the same arguments are the same.
use Rattle.std.specs.Prelude.{◌≡◌}
use seplogic.Ra.Ura.{Ura}
use base.Logic.{ent, sep}
use contract.Lifetimes.{Lfts}
use contract.Monad.{fact}
use denote.Triple.Clauses.{Ended, Clauses, Lasts}
use denote.Triple.Entry.{Args, Res}
pub use Rattle.law_calls.specs.Promise.{Promised}

module _ {M : Type 1} (𝓤 : Ura M) (T : Ended) (c : Clauses 𝓤 T) where
  -- RULES 16.3
  abbrev pub OneAnswer : Type 1
  OneAnswer =
      (κs : Lfts T.signature.lifetimes) (a : Args T.signature κs) (g : (c κs a).ghost) (r r' : Res T.signature κs) (ws ws' : Lasts T κs a)
      → ent 𝓤 (sep 𝓤 (Promised 𝓤 T c κs a g r ws) (Promised 𝓤 T c κs a g r' ws')) (fact 𝓤 ((r ≡ r') × (ws ≡ ws')))

  -- so of what is seen of a result, where that is all that the contract speaks of
  abbrev pub OneSeen : {X : Type 0} → ((κs : Lfts T.signature.lifetimes) → Res T.signature κs → X) → Type 1
  OneSeen seen =
      (κs : Lfts T.signature.lifetimes) (a : Args T.signature κs) (g : (c κs a).ghost) (r r' : Res T.signature κs) (ws ws' : Lasts T κs a)
      → ent 𝓤 (sep 𝓤 (Promised 𝓤 T c κs a g r ws) (Promised 𝓤 T c κs a g r' ws')) (fact 𝓤 ((seen κs r ≡ seen κs r') × (ws ≡ ws')))
