-- What is known of a node by the tests that it passed: its depth, and a service's attribute and kind.
use Rattle.std.proofs.Common.{Option, Some, None, Result, Ok, Err}
use mathlib.Core.Path.{◌≡◌, refl, sym, ◌∙◌, ap}
use mathlib.Core.Bool.{Bool, true, false, cond}
use mathlib.Core.List.{List}
use Prim.Native.Nat.{ℕ}
use native.Mathlib.Omega.{arith}
use lib.Dec.{eqb, ltb}
use lib.ListN.{get_or}
use borrow.Author.Tests.{eqb-true}
use Rattle.answers.specs.declared.refusal.Refusal.TheVariants.{NodeCodeOutOfRange, UndefinedServiceAttribute}
use Rattle.service_code.specs.declared.code.ServiceAttribute.{ServiceAttribute}
use Rattle.service_code.specs.declared.code.ServiceKind.TheVariants.{Random, Cyclic, Purse}
use Rattle.service_code.specs.Code.{attribute_of, code_kind_of}
use Rattle.card_nodes.specs.declared.node.Node.{Node}
use Rattle.card_admit.specs.declared.Placed.{Placed}
use Rattle.card_nodes.specs.Node.{root_node}
use Rattle.card_admit.proofs.Growth.{Deep, parent_deep}
use Rattle.card_admit.specs.Admit.{parent_at, area_found, area_judged, is_undefined, service_under, kind_number, same_kind, if_done, service_found, placed_of}
use Rattle.answers.specs.declared.refusal.Refusal.{Refusal}
use Rattle.card_admit.specs.Placed.{placed_at}
use Rattle.service_code.specs.declared.code.ServiceKind.{ServiceKind}

-- an area that is accepted
pub area_deep : (ns : List Node) (depth code end : ℕ) → area_judged ns depth code end ≡ Ok tt → Deep depth
unfolding area_judged
area_deep ns depth code end e = under (parent_at ns depth) refl e
  where
    under : (f : Option ℕ) → parent_at ns depth ≡ f → area_found ns code end f ≡ Ok tt → Deep depth
    under None q k = absurd (let z : ◌≡◌ {A = ℕ} 0 1 = cc in (omega arith))
    under (Some p) q k = parent_deep ns depth q

-- an attribute that is defined
abbrev pub Known : ℕ → Type 0
Known code = (a : ServiceAttribute) × (attribute_of code ≡ Some a)

under_known : (above : Node) (code : ℕ) → service_under above code ≡ Ok tt → Known code
unfolding service_under
under_known above code e = known _ (ltb 0xfffe code) (attribute_of code) refl e
  where
    known : (x : Result Unit Refusal) (b : Bool) (d : Option ServiceAttribute) → attribute_of code ≡ d →
        cond b (Err NodeCodeOutOfRange) (cond (is_undefined d) (Err UndefinedServiceAttribute) x) ≡ Ok tt → Known code
    known x true d q k = absurd (let z : ◌≡◌ {A = ℕ} 0 1 = cc in (omega arith))
    known x false (Some a) q k = (a, q)
    known x false None q k = absurd (let z : ◌≡◌ {A = ℕ} 0 1 = cc in (omega arith))

-- a service that got a store
pub service_known : (ns : List Node) (used arena_len depth code blocks : ℕ) {s b u : ℕ} → placed_of ns used arena_len depth code blocks ≡ placed_at s b u →
    Deep depth × Known code
unfolding placed_of
service_known ns used arena_len depth code blocks {s = s} {b = b} {u = u} e = under (parent_at ns depth) refl e
  where
    done : (p : Result Placed Refusal) (a : Result Unit Refusal) → if_done a p ≡ placed_at s b u → a ≡ Ok tt
    done p (Ok tt) k = refl
    done p (Err r) k = absurd (let z : ◌≡◌ {A = ℕ} 0 1 = cc in (omega arith))

    under : (f : Option ℕ) → parent_at ns depth ≡ f → service_found ns used arena_len code blocks f ≡ placed_at s b u → Deep depth × Known code
    under None q k = absurd (let z : ◌≡◌ {A = ℕ} 0 1 = cc in (omega arith))
    under (Some p) q k =
        let above = get_or ns p root_node in
        (parent_deep ns depth q, under_known above code (done _ (service_under above code) k))

-- the kind of a number
kind_at : ℕ → Option ServiceKind
kind_at n = cond (eqb n 1) (Some Random) (cond (eqb n 2) (Some Cyclic) (cond (eqb n 3) (Some Purse) None))

kind_at_lem : (k : Option ServiceKind) → kind_at (kind_number k) ≡ k
unfolding kind_at
kind_at_lem None = refl
kind_at_lem (Some Random) = refl
kind_at_lem (Some Cyclic) = refl
kind_at_lem (Some Purse) = refl

-- codes that pass the test of refusal 19 are of one kind
pub same_kind_lem : (a b : ℕ) → same_kind a b ≡ true → code_kind_of a ≡ code_kind_of b
unfolding same_kind
same_kind_lem a b e =
    sym (kind_at_lem (code_kind_of a)) ∙ ap kind_at (eqb-true (kind_number (code_kind_of a)) (kind_number (code_kind_of b)) e) ∙ kind_at_lem (code_kind_of b)
