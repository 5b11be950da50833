-- `list_ends` meets its contract: what is left from the reader's place on answers for the whole.
use Rattle.std.proofs.Common.{◌≡◌, refl, sym, ap, ◌∙◌, arith, ℕ, List, suc, ◌+◌, ◌-◌, true, false, is_some, Option, Some, None}
use native.Mathlib.Nat.{sub-zero}
use mathlib.Core.Bool.{false≢true}
use Rattle.block_list.specs.declared.reader.Reader.{Reader}
use Rattle.block_list.specs.declared.element.BlockListElement.{BlockListElement}
use Rattle.block_list.specs.declared.element.Unpacked.{Unpacked}
use Rattle.block_list.specs.Element.{unpack_at, ends_from, ends_after}
use Rattle.block_list.specs.Read.{element_past, moved_on}
use Rattle.block_list.proofs.ListsLaws.{ends_short, ends_element}
use Rattle.block_list.proofs.Turns.{all_left, none_left}
use Rattle.block_list.proofs.reader.list_ends.Goals as goal

-- An element is taken: one fewer is left, from the place past it on.
one_on
    : (s : List ℕ) (n m at : ℕ) (u : Option Unpacked) → n ≡ suc m → u ≡ unpack_at s at → is_some u ≡ true
    → ends_from s n at ≡ ends_from s m (element_past (unpack_at s at) at)
one_on s n m at None left h there = absurd (false≢true there)
one_on s n m at (Some taken) left h there = ends_element s at left (sym h) ∙ ap (λ (u : Option Unpacked). ends_from s m (element_past u at)) h

-- None is left.
none_here : (u : Option Unpacked) → is_some u ≡ false → u ≡ None
none_here None h = refl
none_here (Some taken) h = absurd (false≢true (sym h))

pub loop-i-init : goal.loop-i-init
loop-i-init c = rw (c.new-reader.ensures, sub-zero) (refl, all_left c.args.list.now c.args.count)

pub returns-then-is_none : goal.returns-then-is_none
returns-then-is_none c =
    let i = c.loop-i.invariant in
    sym (i.1 ∙ ends_short _ _ _ (omega arith) (sym (rw i.0 at c.next.ensures.0) ∙ none_here _ c.if-is_none.ensures))

pub loop-i-preserved : goal.loop-i-preserved
loop-i-preserved c =
    let i = c.loop-i.invariant in
    rw c.next.ensures.1 (i.0, rw i.0 (i.1 ∙ one_on _ _ _ _ _ (omega arith) (rw i.0 at c.next.ensures.0) c.if-is_none.ensures))

pub returns : goal.returns
returns c =
    let i = c.loop-i.invariant in
    let e : c.args.count - c.loop-i.i ≡ 0 = omega arith in
    c.is_finished.ensures ∙ rw i.0 (none_left _ _ ∙ sym (rw e at i.1))
