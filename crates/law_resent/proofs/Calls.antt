-- What users call: the program's own `write`, the library's `uluvoli_write`, and `W` lines. By their contracts (law_calls) they are calls that
-- make requests; so sent again they do no harm. Read specs/Calls.antt for the statements.
use Rattle.std.proofs.Common.{Option, Some, None}
use mathlib.Core.Path.{◌≡◌, refl, sym, ap, ◌∙◌, subst}
use mathlib.Core.Bool.{Bool, true, false, false≢true}
use mathlib.Core.List.{List, [], ◌∷◌, map}
use Prim.Native.Nat.{ℕ, ◌*◌}
use lib.ListN.{length, take}
use Rattle.block_list.specs.declared.element.BlockListElement.{BlockListElement}
use Rattle.card_build.specs.declared.card.Card.{Card}
use Rattle.request_runs.specs.Runs.{Walked, bad, good}
use Rattle.request_runs.specs.Staged.{staged}
use Rattle.request_plan.specs.declared.Reply.{Reply}
use Rattle.request_plan.specs.declared.Reply.TheVariants.{Done}
use Rattle.request_plan.specs.Request.{Request}
use Rattle.request_plan.specs.Plan.{Plan, stop, go, plan_of, rows_in}
use Rattle.request_plan.specs.Serve.{committed, carried, plan_served, serve}
use Rattle.handset_bytes.specs.Card.{card_decoded}
use Rattle.line_request.specs.declared.Ask.{Ask}
use Rattle.line_request.specs.declared.Ask.TheVariants.{Read, Write}
use Rattle.line_request.specs.Ask.{ask_of}
use Rattle.line_answer.specs.Answer.{answer_text}
use Rattle.line_serve.specs.Line.{ask_served, line_served}
use Rattle.line_serve.specs.Text.{request_text}
use Rattle.law_terminals.specs.Orders.{after}
use Rattle.law_terminals.specs.Two.{Answer, answer_of, arena_after, All}
use Rattle.law_terminals.specs.Last.{arena_then}
use Rattle.law_terminals.specs.Runs.{Exchange, Leaves, RanAlong, requests_of, Call, request_of}
use Rattle.law_calls.specs.Library.{handset_request, library_left}
use Rattle.law_calls.specs.Lines.{LineCall, request_by, line_request, line_left}
use Rattle.law_calls.proofs.Own.{own_left, same_reply}
use Rattle.handset_bytes.proofs.Heads.{decoded_long}
use Rattle.law_calls.proofs.Library.{zero_asked, write_zero}
use Rattle.law_calls.proofs.Lines.{told-done, done-told}
use Rattle.law_resend.specs.Resend.{PursesOnce, RingsOnce, AcceptedWrite, Idle, IdleThen, Enough, lending}
use Rattle.law_resent.specs.Calls.{SeenWrite, NoneSeen, ResentBy, LineResent}
use Rattle.law_resend.proofs.Resend.{resent}

-- a write reads nothing
unread : (c : Card) (a : List ℕ) (w : Request) → w.write ≡ true → (serve c a w).read ≡ []
unfolding serve carried committed
unread c a w t = by_plan (plan_of c (length a) w)
  where
    by_walked : (x : Walked (List ℕ)) → (committed (16 * c.used) a x).read ≡ []
    by_walked (bad i f) = refl
    by_walked (good s) = refl

    by_plan : (p : Plan) → (plan_served c a w p).read ≡ []
    by_plan (stop x) = refl
    by_plan (go es) = rw t (by_walked (staged (rows_in c w) w.«data» es (take (16 * c.used) a)))

module _ (c : Card) (z : length c.nodes ≡ 64) where
  -- the second answer is the first
  pub answered : (a : List ℕ) (w : Request) (rs : List Request) (room : ℕ) → w.write ≡ true → (serve c a w).reply ≡ Done → PursesOnce w → RingsOnce w →
      IdleThen c a w rs → Enough c room → let b = arena_then c a w rs in
      (answer_of c b (lending room w) ≡ answer_of c a w) × (arena_after c b (lending room w) ≡ b) × (b ≡ arena_after c a w)
  answered a w rs room t e purses rings idle enough =
      let h = resent c z a w rs room (t, e) purses rings idle enough in
      let p = h.done ∙ sym e in
      let q = unread c (arena_then c a w rs) (lending room w) t ∙ sym (unread c a w t) in
      (λ i. record { reply = p i; read = q i }, h.unchanged, h.kept)

  module _ {K L : Type 0} (ask : K → Request) (leave : K → Answer → L) (Seen : L → Type 0)
      (Seen-done : (k : K) (x : Answer) → Seen (leave k x) → x.reply ≡ Done)
      (done-seen : (k : K) (x : Answer) → (ask k).write ≡ true → x.reply ≡ Done → Seen (leave k x)) where
    -- the caller is right: the write was accepted
    seen-write : (a b : List ℕ) (x : Exchange K L) → Leaves c ask leave a x.call x.left b → SeenWrite ask Seen x → AcceptedWrite c a (ask x.call)
    seen-write a b x k s = (s.0, Seen-done x.call _ (subst Seen k.0 s.1))

    -- a run of which its callers see that no write was accepted is idle
    ran-idle : (xs : List (Exchange K L)) (a e : List ℕ) → RanAlong c ask leave a xs e → NoneSeen ask Seen xs →
        Idle c a (requests_of c ask leave xs) × (e ≡ after (answer_of c) (arena_after c) a (requests_of c ask leave xs))
    unfolding after
    ran-idle [] a e r h = (tt, r)
    ran-idle (x ∷ xs) a e (b, k, r) h =
        let w = rw k.1 at (ran-idle xs b e r h.1) in
        ((λ (t, d). h.0 (t, subst Seen (sym k.0) (done-seen x.call _ t d)), w.0), w.1)

    -- calls that make requests
    pub resent_by : ResentBy c ask leave Seen
    resent_by a x xs m y e h =
        let w = ask x.call in
        let v = ask y.call in
        let rs = requests_of c ask leave xs in
        let (b, k, r) = h.ran in
        let (t, d) = seen-write a b x k h.seen in
        let i : IdleThen c a w rs × (m ≡ arena_then c a w rs) = rw k.1 at (ran-idle xs b m r h.between) in
        let f = answered a w rs v.room t d h.purses-once h.rings-once i.0 h.suffices in
        let n : answer_of c m v ≡ answer_of c a w = rw (h.repeats, i.1) f.0 in
        let l : y.left ≡ leave y.call (answer_of c a w) = h.asked.0 ∙ ap (leave y.call) n in
        record {
          left = l;
          accepted = subst Seen (sym l) (done-seen y.call (answer_of c a w) (ap (λ (q : Request). q.write) h.repeats ∙ t) d);
          unchanged = h.asked.1 ∙ rw (h.repeats, i.1) f.1;
          kept = i.1 ∙ f.2;
        }

  -- the program's own `write`
  pub own_resent : ResentBy c request_of (own_left c) (λ x. x.reply ≡ Done)
  own_resent =
      resent_by request_of (own_left c) (λ x. x.reply ≡ Done)
      (λ k x e. sym (same_reply c z k x) ∙ e) (λ k x w e. same_reply c z k x ∙ e)

  -- `request_line`, with what it leaves in its buffers
  pub lines_resent : ResentBy c line_request (line_left c) (λ x. x.answer.reply ≡ Done)
  lines_resent =
      resent_by line_request (line_left c) (λ x. x.answer.reply ≡ Done)
      (λ k x e. told-done c z (ask_of k.line) x e) (λ k x w e. done-told c z k (ask_of k.line) x w e)

  -- a `W` line: the arena, and what is printed
  pub line_resent : LineResent c
  unfolding line_served request_text
  line_resent a k ks room t e purses rings idle enough = by_ask (ask_of k.line) t e purses rings idle
    where
      by_ask : (x : Option Ask) → let w = request_by (length k.work) k.line x in
          w.write ≡ true → (ask_served c a (length k.work) k.line x).reply ≡ Done →
          PursesOnce w → RingsOnce w → IdleThen c a w (map line_request ks) →
          let b = arena_then c a w (map line_request ks) in
          ((ask_served c b room k.line x).arena ≡ b)
          × ((o : ℕ) → answer_text o (ask_served c b room k.line x).reply (ask_served c b room k.line x).read
          ≡ answer_text o (ask_served c a (length k.work) k.line x).reply (ask_served c a (length k.work) k.line x).read)
      by_ask None w d p q i = absurd (false≢true w)
      by_ask (Some (Read «open» count)) w d p q i = absurd (false≢true w)
      by_ask (Some (Write «open» count)) w d p q i =
          let f = answered a (request_by (length k.work) k.line (Some (Write «open» count))) (map line_request ks) room w d p q i enough in
          (f.1, λ o. ap (λ (y : Answer). answer_text o y.reply y.read) f.0)

-- the library's `uluvoli_write`, on any bytes that stand for a card, with reads and boards between
pub library_resent : (bytes : List ℕ) → ResentBy (card_decoded bytes) handset_request (library_left (card_decoded bytes)) (λ x. x.reply ≡ 0)
library_resent bytes =
    resent_by (card_decoded bytes) (decoded_long bytes) handset_request (library_left (card_decoded bytes)) (λ x. x.reply ≡ 0)
    (zero_asked bytes) (write_zero bytes)
