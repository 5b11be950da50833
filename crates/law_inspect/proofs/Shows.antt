-- A lane is shown as it was brought last. Read specs/Looks.antt for the statement: `InspectShows s`. The last law says that it holds of
-- every state whose card has 64 records.
use Rattle.std.specs.Prelude.{Err, Ok, Option, Some, None}
use Rattle.std.proofs.Common.{Result}
use Prim.Native.Nat.{ℕ}
use mathlib.Core.Path.{◌≡◌, refl, sym, ap, subst, ◌∙◌}
use mathlib.Core.Bool.{Bool, true, false, cond, false≢true}
use mathlib.Core.List.{List, [], ◌∷◌}
use mathlib.Core.Logic.{◌⊎◌, inl, inr, ⊎_elim}
use lib.ListN.{length}
use Rattle.text_fields.specs.Field.{split}
use Rattle.card_build.specs.declared.card.Card.{Card}
use Rattle.card_build.specs.Build.{area_added, service_added, limit_added}
use Rattle.card_laws.proofs.Laid.{sized}
use Rattle.request_block.specs.Block.{block_judged}
use Rattle.line_image.specs.declared.line.Line.{Line}
use Rattle.line_image.specs.declared.line.Line.TheVariants.{Card as New, Area, Service, Limit, Block}
use Rattle.line_image.specs.Line.{image_named, image_line}
use Rattle.line_build.specs.Image.{line_carried, image_step}
use Rattle.line_request.specs.Ask.{request_line, ask_of}
use Rattle.line_serve.specs.Line.{line_served}
use Rattle.board_line.specs.Line.{board_line}
use Rattle.replay_state.specs.declared.Phase.{Phase}
use Rattle.replay_state.specs.declared.Phase.TheVariants.{Ended}
use Rattle.replay_state.specs.Phases.{one_more}
use Rattle.replay_kind.specs.declared.Kind.TheVariants as kinds
use Rattle.replay_line.specs.Replay.{lent_bytes, phase_by}
use Rattle.inspect_ask.specs.Question.{question_of}
use Rattle.inspect_sort.specs.declared.Sort.{Sort}
use Rattle.inspect_sort.specs.declared.Sort.TheVariants as sorts
use Rattle.inspect_sort.specs.Sort.{later_sort, sort_of}
use Rattle.inspect_line.specs.Inspect.{Seen, seen_by, line_seen}
use Rattle.inspect_line.proofs.Dead.{inspect_dead}
use Rattle.law_lines.proofs.Shown.{done-text}
use Rattle.law_board.proofs.Redraw.{request-arena}
use Rattle.law_terminals.specs.Two.{arena_after}
use Rattle.law_calls.specs.Lines.{request_by}
use Rattle.law_blocks.specs.Deed.{DeedDone, DeedNames, DeedBrings}
use Rattle.law_blocks.proofs.Holding.{BlockHolds, deed_holds, deed_leaves}
use Rattle.law_blocks.proofs.Growing.{area_leaves, service_leaves, limit_leaves}
use Rattle.law_blocks.proofs.Lane.{holds_shows}
use Rattle.law_inspect.specs.Looks.{GoesOn, image_deed, kind_deed, sort_deed, line_deed, LineDone, seen_after, QuietLines, InspectShows}
use Rattle.law_inspect.proofs.Looks.{goes_later, inspect_prints}
use Rattle.law_inspect.proofs.Later.{is_new, line_old}
use Rattle.answers.specs.declared.refusal.Refusal.{Refusal}

-- After a line the run has ended, or goes on with what the block holds.
abbrev Holding : ℕ → ℕ → List ℕ → Phase → Card → List ℕ → Type 0
Holding n k d phase c a = (phase ≡ Ended) ⊎ (GoesOn phase × BlockHolds c n k d a)

-- of a card and an arena after an image line that was answered so
abbrev Answered : ℕ → ℕ → List ℕ → Result Unit Refusal → Card → List ℕ → Type 0
Answered n k d x c a = Holding n k d (phase_by x) c a

module _ (c : Card) (z : length c.nodes ≡ 64) (n k : ℕ) (d a line : List ℕ) where
  -- what is done goes on, what is refused ends
  by_answer : (x : Result Unit Refusal) {c' : Card} {b : List ℕ} → (x ≡ (Ok tt) → BlockHolds c' n k d b) → Answered n k d x c' b
  by_answer (Ok tt) f = inr (tt, f refl)
  by_answer (Err r) f = inl refl

  -- an image line that does not name the block, by what it says
  line_leaves : BlockHolds c n k d a → (x : Option Line) → is_new x ≡ false → (DeedDone c a (image_deed line x) → DeedNames n k (image_deed line x) → ⊥) →
      let y = line_carried c a (split 9 line) x in
      Answered n k d y.added.answer y.added.card y.arena
  line_leaves h None o f = inl refl
  line_leaves h (Some (New system)) o f = absurd (false≢true (sym o))
  line_leaves h (Some (Area depth code end version)) o f =
      by_answer (area_added c depth code end version).answer (λ e. area_leaves c z h depth code end version e)
  line_leaves h (Some (Service depth code blocks version)) o f =
      by_answer (service_added c (length a) depth code blocks version).answer (λ e. service_leaves c z h (length a) depth code blocks version e)
  line_leaves h (Some (Limit upper lower generation)) o f =
      by_answer (limit_added c upper lower generation).answer (λ e. limit_leaves c z h upper lower generation e)
  line_leaves h (Some (Block code number)) o f =
      by_answer (block_judged c (length a) code number) (λ e. deed_leaves c z a h (image_deed line (Some (Block code number))) f)

  -- one that brings the bytes to it
  line-brings : (x : Option Line) → DeedDone c a (image_deed line x) → DeedBrings n k d (image_deed line x) →
      let y = line_carried c a (split 9 line) x in
      Answered n k d y.added.answer y.added.card y.arena
  line-brings None e m = absurd m
  line-brings (Some (New system)) e m = absurd m
  line-brings (Some (Area depth code end version)) e m = absurd m
  line-brings (Some (Service depth code blocks version)) e m = absurd m
  line-brings (Some (Limit upper lower generation)) e m = absurd m
  line-brings (Some (Block code number)) e m =
      by_answer (block_judged c (length a) code number) (λ q. deed_holds c z a (image_deed line (Some (Block code number))) e m)

-- A line, at a state that goes on, by what it is taken for.
module _ (s : Seen) (z : length s.inspect.replay.card.nodes ≡ 64) (n k : ℕ) (d line : List ℕ) (g : GoesOn s.inspect.replay.phase) where
  abbrev card : Card
  card = s.inspect.replay.card

  abbrev Next : Seen → Type 0
  Next t = Holding n k d t.inspect.replay.phase t.inspect.replay.card t.arena

  -- what a line after the first is taken for, by its three tests
  abbrev sorted : Bool → Bool → Bool → Option Sort
  sorted a b c =
      Some (cond a (sorts.Replayed (kinds.Image false))
      (cond b (sorts.Replayed kinds.Request) (cond c (sorts.Replayed kinds.Board) (sorts.Asked (question_of line)))))

  -- what its request leaves, it leaves
  served : BlockHolds card n k d (arena_after card s.arena (request_by lent_bytes line (ask_of line))) → Next (seen_by (Some (sorts.Replayed kinds.Request)) s line)
  unfolding line_served
  served h = inr (tt, subst (λ (b : List ℕ). BlockHolds card n k d b) (sym (request-arena card s.arena line (ask_of line))) h)

  -- a line that does not name the block
  sort_leaves : BlockHolds card n k d s.arena → (a b c : Bool) →
      (DeedDone card s.arena (sort_deed (sorted a b c) line) → DeedNames n k (sort_deed (sorted a b c) line) → ⊥) → Next (seen_by (sorted a b c) s line)
  unfolding image_step
  sort_leaves h true b c f = line_leaves card z n k d s.arena line h (image_line false line) (line_old line) f
  sort_leaves h false true c f = served (deed_leaves card z s.arena h (kind_deed (Some kinds.Request) line) f)
  sort_leaves h false false true f = inr (tt, h)
  sort_leaves h false false false f = inr (g, h)

  -- one that brings the bytes to it
  sort_brings : (a b c : Bool) → DeedDone card s.arena (sort_deed (sorted a b c) line) → DeedBrings n k d (sort_deed (sorted a b c) line) →
      Next (seen_by (sorted a b c) s line)
  unfolding image_step
  sort_brings true b c e m = line-brings card z n k d s.arena line (image_line false line) e m
  sort_brings false true c e m = served (deed_holds card z s.arena (kind_deed (Some kinds.Request) line) e m)
  sort_brings false false true e m = absurd m
  sort_brings false false false e m = absurd m

  sort_is : sort_of s.inspect.replay.phase line ≡ sorted (image_named (split 9 line)) (request_line line) (board_line line)
  unfolding later_sort
  sort_is = goes_later s.inspect.replay.phase line g

  seen_leaves : BlockHolds card n k d s.arena → (LineDone s line → DeedNames n k (line_deed s line) → ⊥) → Next (line_seen s line)
  unfolding line_seen line_deed
  seen_leaves h =
      subst (λ (x : Option Sort). (DeedDone card s.arena (sort_deed x line) → DeedNames n k (sort_deed x line) → ⊥) → Next (seen_by x s line)) (sym sort_is)
      (sort_leaves h (image_named (split 9 line)) (request_line line) (board_line line))

  seen-brings : LineDone s line → DeedBrings n k d (line_deed s line) → Next (line_seen s line)
  unfolding line_seen line_deed
  seen-brings =
      subst (λ (x : Option Sort). DeedDone card s.arena (sort_deed x line) → DeedBrings n k d (sort_deed x line) → Next (seen_by x s line)) (sym sort_is)
      (sort_brings (image_named (split 9 line)) (request_line line) (board_line line))

-- a run that has ended goes on with no line
ended-after : (ls : List (List ℕ)) (s : Seen) → s.inspect.replay.phase ≡ Ended → GoesOn (seen_after s ls).inspect.replay.phase → ⊥
unfolding seen_after
ended-after [] s e g = subst GoesOn e g
ended-after (line ∷ ls) s e g =
    ended-after ls (line_seen s line) (ap (λ (t : Seen). t.inspect.replay.phase) ((inspect_dead s e).line line) ∙ e) g

-- lines that do not name the block leave what it holds
lines_leave : (n k : ℕ) (d : List ℕ) (ls : List (List ℕ)) (s : Seen) → GoesOn s.inspect.replay.phase →
    BlockHolds s.inspect.replay.card n k d s.arena → QuietLines n k s ls → GoesOn (seen_after s ls).inspect.replay.phase →
    BlockHolds (seen_after s ls).inspect.replay.card n k d (seen_after s ls).arena
unfolding seen_after
lines_leave n k d [] s g h q e = h
lines_leave n k d (line ∷ ls) s g h q e =
    ⊎_elim (λ x. absurd (ended-after ls (line_seen s line) x e)) (λ x. lines_leave n k d ls (line_seen s line) x.0 x.1 q.1 e)
    (seen_leaves s (sized h.built).long n k d line g h q.0)

-- a lane is shown as it was brought last
pub inspect-shows : (s : Seen) → length s.inspect.replay.card.nodes ≡ 64 → InspectShows s
unfolding seen_after
inspect-shows s z n k d w ls line code g done brings quiet e l f go r =
    let t = seen_after (line_seen s w) ls in
    let h : BlockHolds t.inspect.replay.card n k d t.arena =
    ⊎_elim (λ x. absurd (ended-after ls (line_seen s w) x go)) (λ x. lines_leave n k d ls (line_seen s w) x.0 x.1 quiet go)
    (seen-brings s z n k d w g done brings) in
    record {
      shows = holds_shows t.inspect.replay.card (sized h.built).long h code l f r;
      text =
          inspect_prints t line code go e
          ∙ done-text t.inspect.replay.card t.arena (one_more t.inspect.replay.asked) code r;
    }
