use Prim.Native.Nat.{ℕ}
use mathlib.Core.Path.{sym, ap, ◌∙◌}
use mathlib.Core.Bool.{false}
use mathlib.Core.List.{List}
use Rattle.card_build.specs.declared.card.Added.{Added}
use Rattle.line_build.specs.Image.{Imaged, image_step}
use Rattle.salvage_line.specs.Image.{is_word, fate_on, held_of}
use Rattle.salvage_line.proofs.Steps.{Taken_step, judged_step}
use borrow.Author.Rules.{rules}
use Rattle.salvage_line.proofs.salvage_line.Goals as goal

pub returns-then-is_taken : goal.returns-then-is_taken
unfolding is_word
returns-then-is_taken c =
    let a = c.args in
    let w =
    Taken_step a.card a.arena.now a.text.now a.rules c.depth_of-depth.result c.is_named-svc.result c.is_named-lim.result
    c.depth_of-depth.ensures c.is_named-svc.ensures c.is_named-lim.ensures c.rules_after.result
    (sym c.is_taken.ensures ∙ c.if-is_taken.true) c.rules_after.ensures in
    record { fate_value = w.0; rules_after = w.1 }

pub returns : goal.returns
unfolding is_word
returns c =
    let a = c.args in
    let e = c.image_line-added.ensures in
    let s : Imaged = image_step false a.card a.arena.now a.text.now in
    let k = judged_step a.card a.arena.now a.text.now a.rules c.depth_of-depth.result c.is_named-svc.result c.is_named-lim.result
    c.depth_of-depth.ensures c.is_named-svc.ensures c.is_named-lim.ensures c.rules_after-2.result c.fate_on-fate.result
    (sym c.is_taken.ensures ∙ c.if-is_taken.false) (c.fate_on-fate.ensures ∙ ap (λ (x : Added). fate_on x.answer) e.value) c.rules_after-2.ensures in
    record {
      fate_value = k.0;
      rules_after =
          ap (λ (x : Added). held_of x.card c.image_line-added.new.arena c.rules_after-2.result) e.value
          ∙ ap (λ (x : List ℕ). held_of s.added.card x c.rules_after-2.result) e.arena_after
          ∙ k.1;
    }
