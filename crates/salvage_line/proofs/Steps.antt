-- One line of a salvage, from what the code finds of it. Assumes nothing.
use Prim.Native.Nat.{ℕ}
use mathlib.Core.Path.{◌≡◌, refl, sym, ap, ◌∙◌}
use mathlib.Core.Bool.{Bool, true, false}
use mathlib.Core.List.{List}
use Rattle.card_build.specs.declared.card.Card.{Card}
use Rattle.line_image.specs.Line.{svc_word, lim_word}
use Rattle.line_build.specs.Image.{image_step}
use Rattle.salvage_rule.specs.declared.Depth.{Depth}
use Rattle.salvage_rule.specs.declared.Fate.{Fate}
use Rattle.salvage_rule.specs.declared.Fate.TheVariants.{Parent}
use Rattle.salvage_rule.specs.declared.Rules.{Rules}
use Rattle.salvage_rule.specs.Rule.{takes, rules_after}
use Rattle.salvage_rule.specs.Salvage.{fate_by, built_by, takes_line, fate_of, stepped}
use Rattle.salvage_line.specs.Image.{Image, imaged, line_ruled, depth_of, is_word, fate_on, image_builder, held_of}
use Rattle.salvage_line.proofs.Leaves.{step_built, step_fate}

module _ (c : Card) (a l : List ℕ) (r : Rules) (d : Depth) (svc lim : Bool)
    (depth : d ≡ depth_of l) (first : svc ≡ is_word svc_word l) (second : lim ≡ is_word lim_word l) where
  taken_as : {b : Bool} → takes r d lim ≡ b → takes_line image_builder (held_of c a r) l ≡ b
  unfolding takes_line
  taken_as h = sym (ap (λ (x : Depth). takes r x (is_word lim_word l)) depth) ∙ sym (ap (takes r d) second) ∙ h

  rules_as : (r' : Rules) (f : Fate) → r' ≡ rules_after r d svc f → r' ≡ rules_after r (depth_of l) (is_word svc_word l) f
  rules_as r' f e = e ∙ ap (λ (x : Depth). rules_after r x svc f) depth ∙ ap (λ (x : Bool). rules_after r (depth_of l) x f) first

  -- A line that one of the rules takes.
  pub Taken_step
      : (r' : Rules) → takes r d lim ≡ true → r' ≡ rules_after r d svc Parent
      → (Parent ≡ fate_of image_builder (held_of c a r) l) × (held_of c a r' ≡ stepped image_builder (held_of c a r) l)
  unfolding fate_of stepped
  Taken_step r' h e = rw (taken_as h) (refl, ap (held_of c a) (rules_as r' Parent e))

  -- A line that the builder judges.
  pub judged_step
      : (r' : Rules) (f : Fate) → takes r d lim ≡ false → f ≡ fate_on (image_step false c a l).added.answer → r' ≡ rules_after r d svc f
      → (f ≡ fate_of image_builder (held_of c a r) l)
      × (held_of (image_step false c a l).added.card (image_step false c a l).arena r' ≡ stepped image_builder (held_of c a r) l)
  unfolding fate_of stepped
  judged_step r' f h g e =
      let q : f ≡ fate_by false (line_ruled false (imaged c a) l) = g ∙ sym (step_fate c a l) in
      rw (taken_as h) (
        q,
        ap (λ (x : Image). record { built = x; rules = r' }) (sym (step_built c a l))
            ∙ ap (λ (x : Rules). record { built = built_by false (imaged c a) (line_ruled false (imaged c a) l); rules = x })
            (rules_as r' f e ∙ ap (rules_after r (depth_of l) (is_word svc_word l)) q),
      )
