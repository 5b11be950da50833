-- A machine that does to a part of its state what another does, and prints the same, keeps the other's promises. Assumes nothing.
use Prim.Native.Nat.{ℕ}
use native.Mathlib.Decide.{ℕ_discrete}
use mathlib.Core.Path.{◌≡◌, refl, sym, ap, ◌∙◌}
use mathlib.Core.List.{List, [], ◌∷◌, ◌++◌}
use lib.ListN.{length}
use borrow.Author.Tests.{eq-eqb, ne_eqb}
use Rattle.text_stream.specs.Stream.{Machine, lines_of, between, printed, says_of, byte_fed, byte_said, said}
use Rattle.text_pull.specs.declared.Flow.{Flow}
use Rattle.text_pull.specs.Pull.{Told, Part, Ran}

abbrev whole : List ℕ → List ℕ
whole l = l

module _ {S T : Type 0} (N : Machine T) (M : Machine S) (part : T → S)
    (line : (t : T) (l : List ℕ) → part (N.line t l) ≡ M.line (part t) l)
    (text : (t : T) (l : List ℕ) → N.text t l ≡ M.text (part t) l)
    (end : (t : T) → N.end t ≡ M.end (part t)) where
  -- Of lines.
  same_printed : (t : T) (ls : List (List ℕ)) → printed N t ls ≡ printed M (part t) ls
  unfolding printed
  same_printed t [] = end t
  same_printed t (l ∷ ls) =
      rw (text t l) (ap (λ (w : List ℕ). M.text (part t) l ++ w) (same_printed (N.line t l) ls ∙ ap (λ (s : S). printed M s ls) (line t l)))

  -- Of a whole text.
  same_says : (t : T) (x : List ℕ) → says_of N t x ≡ says_of M (part t) x
  unfolding says_of
  same_says t x = same_printed t (lines_of x)

  -- Of a text that is cut off.
  same_said : (t : T) (kept x : List ℕ) → said N whole (record { state = t; kept = kept }) x ≡ said M whole (record { state = part t; kept = kept }) x
  unfolding said byte_fed byte_said
  same_said t kept [] = refl
  same_said t kept (b ∷ x) =
      elim (ℕ_discrete b 10) [
        | yes e ↦
            rw (eq-eqb b 10 e, text t kept)
            (ap (λ (w : List ℕ). M.text (part t) kept ++ w) (same_said (N.line t kept) [] x ∙ ap (λ (s : S). said M whole (between s) x) (line t kept)))
        | no e ↦ rw (ne_eqb b 10 e) (same_said t (kept ++ (b ∷ [])) x)
      ]

  pub ran-part : {t : T} {f : Flow} → Ran N t f → Ran M (part t) f
  ran-part {t} r = record {
    done = λ z. let y = r.done z in record { text = y.text; read = y.read; written = y.written ∙ ap length (same_says t y.text) };
    unread = λ z. let y = r.unread z in record { text = y.text; read = y.read; written = y.written ∙ ap length (same_said t [] y.text) };
    unwritten = λ z. let y = r.unwritten z in record { text = y.text; read = y.read; written = rw (← same_says t y.text) y.written };
    untaken = λ z. let y = r.untaken z in record { text = y.text; read = y.read; written = rw (← same_says t y.text) y.written };
    turns = r.turns;
    stage = r.stage;
  }
