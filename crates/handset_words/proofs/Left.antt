-- A refusal leaves all that a call was lent as it was: the card's bytes, the arena, output and staging, and what the call answers
-- through its last reference, whatever stood there.
use Rattle.std.proofs.Common.{Result, Ok, Err}
use mathlib.Core.Path.{◌≡◌, refl, ap}
use mathlib.Core.Bool.{Bool, true, false, not, cond}
use mathlib.Core.List.{List, []}
use Prim.Native.Nat.{ℕ, ◌-◌, ◌*◌}
use native.Mathlib.Omega.{arith}
use lib.Dec.{eqb, ltb, leb}
use lib.ListN.{length, take, replicate}
use lib.Seq.{sets}
use Rattle.answers.specs.declared.refusal.Refusal.{Refusal}
use Rattle.answers.specs.declared.refusal.Refusal.TheVariants.{TableFull, ShortArena, NotBuilt, ShortOutput}
use Rattle.byte_parts.specs.Part.{put}
use Rattle.byte_parts.proofs.Part.{put_zero}
use Rattle.block_list.specs.declared.element.BlockListElement.{BlockListElement}
use Rattle.card_admit.specs.declared.Placed.{Placed}
use Rattle.card_admit.specs.Admit.{placed_of, agreed}
use Rattle.card_build.specs.declared.card.Card.{Card}
use Rattle.card_build.specs.declared.card.Added.{Added}
use Rattle.card_build.specs.Card.{nodes_of, is_sound, refused}
use Rattle.card_build.specs.Grow.{add_service, service_by}
use Rattle.card_build.specs.Build.{service_added, arena_added}
use Rattle.card_questions.specs.Directory.{directory_of, listed_of, listing_of, out_after, directory_answer, directory_out}
use Rattle.node_messages.specs.Message.{message_put, message_after}
use Rattle.node_messages.specs.CodeList.{code_list_bytes}
use Rattle.node_messages.specs.Information.{information_bytes}
use Rattle.card_lists.specs.Packet.{put_answered, out_answered, code_list_of, code_list_put, code_list_out}
use Rattle.card_lists.specs.Information.{blocks_told, blocks_put, blocks_out}
use Rattle.request_check.specs.Row.{row_of}
use Rattle.request_runs.specs.Runs.{Walked, bad, good}
use Rattle.request_runs.specs.Staged.{staged}
use Rattle.request_plan.specs.declared.Reply.{Reply}
use Rattle.request_plan.specs.declared.Reply.TheVariants.{Refused as NotServed, Done, ShortData, Failed}
use Rattle.request_plan.specs.Request.{Request}
use Rattle.request_plan.specs.Plan.{Plan, stop, go, plan_of, rows_in}
use Rattle.request_plan.specs.Serve.{committed, carried, plan_served, serve, output_after, staging_by}
use Rattle.request_block.specs.Block.{block_place, block_judged, set_by, arena_set}
use Rattle.board_read.specs.declared.Refreshed.{Refreshed}
use Rattle.board_read.specs.declared.Refreshed.TheVariants.{Board, NoBoard, Card as ByCard}
use Rattle.board_read.specs.Refresh.{board_served}
use Rattle.handset_words.specs.Outcome.{answer_as}
use Rattle.handset_words.specs.Kept.{card_by, card_after}
use Rattle.handset_words.specs.Told.{told_as, told_after, listed_as, listed_after}
use Rattle.handset_words.specs.Message.{put_as, put_after, told_by, numbers_told}
use Rattle.handset_words.specs.Checked.{checked_as, checked_after}
use Rattle.handset_words.specs.Board.{refreshed_as, board_room, board_made, records_by, records_after}
use Rattle.handset_words.specs.Block.{unfit_after, set_answer, set_after, place_by, block_place_after}

-- the number of a question
pub told-left : (old : ℕ) (a : Result ℕ Refusal) → (told_as a ≡ 0 → ⊥) → told_after old a ≡ old
told-left old (Ok n) h = absurd (h refl)
told-left old (Err r) h = refl

-- how many nodes a directory lists
pub listed-left : (old : ℕ) (a : Result ℕ Refusal) → (listed_as a ≡ 0 → ⊥) → listed_after old a ≡ old
listed-left old (Ok n) h = absurd (h refl)
listed-left old (Err r) h = refl

-- whether a list is well formed
pub checked_left : (old : Bool) (a : Result Bool Refusal) → (checked_as a ≡ 0 → ⊥) → checked_after old a ≡ old
checked_left old (Ok true) h = absurd (h refl)
checked_left old (Ok false) h = absurd (h refl)
checked_left old (Err r) h = refl

-- the card's bytes
pub card-left : (s : List ℕ) (a : Added) → (answer_as a.answer ≡ 0 → ⊥) → card_after s a ≡ s
card-left s a h = by a.answer h
  where
    by : (x : Result Unit Refusal) → (answer_as x ≡ 0 → ⊥) → card_by s a x ≡ s
    by (Ok tt) h = absurd (h refl)
    by (Err r) h = refl

-- where a block lies
pub place-left : (old : ℕ) (c : Card) (arena_len code number : ℕ) →
    (answer_as (block_judged c arena_len code number) ≡ 0 → ⊥) → block_place_after old c arena_len code number ≡ old
unfolding block_place_after
place-left old c arena_len code number h = by (block_judged c arena_len code number) h
  where
    by : (x : Result Unit Refusal) → (answer_as x ≡ 0 → ⊥) → place_by old (block_place (row_of (nodes_of c) code) number) x ≡ old
    by (Ok tt) h = absurd (h refl)
    by (Err r) h = refl

-- the arena, of a block that is not set
pub set-left : (c : Card) (arena : List ℕ) (code number : ℕ) (block : List ℕ) →
    (answer_as (set_answer c (length arena) code number block) ≡ 0 → ⊥) → set_after c arena code number block ≡ arena
unfolding set_answer set_after arena_set
set-left c arena code number block h = by (eqb (length block) 16) (block_judged c (length arena) code number) h
  where
    by : (t : Bool) (x : Result Unit Refusal) → (answer_as (cond t x (unfit_after x)) ≡ 0 → ⊥) →
        cond t (set_by c arena code number block x) arena ≡ arena
    by false x h = refl
    by true (Ok tt) h = absurd (h refl)
    by true (Err r) h = refl

-- the records of a board
pub board-left : (c : Card) (arena : List ℕ) (code : ℕ) (old : List ℕ) → (refreshed_as (board_made c arena code old) ≡ 0 → ⊥) →
    records_after c arena code old ≡ old
unfolding records_after
board-left c arena code old h = by (board_made c arena code old) h
  where
    by : (x : Refreshed) → (refreshed_as x ≡ 0 → ⊥) → records_by old (board_served c arena code (board_room (length old))).read x ≡ old
    by Board h = absurd (h refl)
    by (NoBoard x) h = refl
    by (ByCard reply) h = refl

-- how many bytes a message has
pub put-left : (old : ℕ) (a : Result ℕ Refusal) → (put_as a ≡ 0 → ⊥) → put_after old a ≡ old
put-left old (Ok n) h = absurd (h refl)
put-left old (Err r) h = refl

-- the output of a message
answered-left : (a : Result Unit Refusal) (message out : List ℕ) → (put_as (put_answered a message (length out)) ≡ 0 → ⊥) → out_answered a message out ≡ out
unfolding message_put message_after
answered-left (Err r) message out h = refl
answered-left (Ok tt) message out h = by (ltb (length out) (length message)) h
  where
    by : (t : Bool) → (put_as (cond t (Err ShortOutput) (Ok (length message))) ≡ 0 → ⊥) → cond t out (put out 0 (length message) message) ≡ out
    by true h = refl
    by false h = absurd (h refl)

pub code-list-left : (c : Card) (parent p : ℕ) (out : List ℕ) → (put_as (code_list_put c parent p (length out)) ≡ 0 → ⊥) → code_list_out c parent p out ≡ out
unfolding code_list_put code_list_out
code-list-left c parent p out h = answered-left (code_list_of c parent p).answer (code_list_bytes (code_list_of c parent p).list) out h

pub information_left : (c : Card) (arena_len : ℕ) (asked out : List ℕ) → (put_as (blocks_put c arena_len asked (length out)) ≡ 0 → ⊥) → blocks_out c arena_len asked out ≡ out
unfolding blocks_put blocks_out
information_left c arena_len asked out h = answered-left (blocks_told c arena_len asked).answer (information_bytes (blocks_told c arena_len asked).told) out h

-- what a reader tells, beside its lists and in them
pub read_left : {A : Type 0} (a : Result Unit Refusal) (old new : A) → (answer_as a ≡ 0 → ⊥) → told_by a old new ≡ old
read_left (Ok tt) old new h = absurd (h refl)
read_left (Err r) old new h = refl

pub numbers_left_lem : (a : Result Unit Refusal) (old : List ℕ) (n : ℕ) (new : List ℕ) → (answer_as a ≡ 0 → ⊥) → numbers_told a old n new ≡ old
numbers_left_lem (Ok tt) old n new h = absurd (h refl)
numbers_left_lem (Err r) old n new h = put_zero old 0 new

-- the output of a directory
pub directory-left : (c : Card) (out : List ℕ) → (listed_as (directory_answer c (length out)) ≡ 0 → ⊥) → directory_out c out ≡ out
unfolding directory_answer directory_out listing_of out_after
directory-left c out h = by (not (is_sound c)) (ltb (length out) (2 * length (nodes_of c))) h
  where
    by : (s t : Bool) → (listed_as (cond s (Err NotBuilt) (cond t (Err ShortOutput) (Ok (listed_of (nodes_of c))))) ≡ 0 → ⊥) →
        cond s out (cond t out (sets out 0 (directory_of (nodes_of c)))) ≡ out
    by true t h = refl
    by false true h = refl
    by false false h = absurd (h refl)

-- the arena, of a service that is not added
pub store-left : (c : Card) (arena : List ℕ) (depth code blocks version : ℕ) →
    (answer_as (service_added c (length arena) depth code blocks version).answer ≡ 0 → ⊥) →
    arena_added c (service_added c (length arena) depth code blocks version) arena ≡ arena
unfolding service_added add_service arena_added
store-left c arena depth code blocks version h =
    by (not (is_sound c)) (ltb (length arena) (16 * c.used)) (leb 64 c.count) (agreed c.system.join blocks (placed_of (nodes_of c) c.used (length arena) depth code blocks)) h
  where
    kept : (a : Added) → a.card ≡ c → put arena (16 * c.used) (16 * (a.card.used - c.used)) (replicate (16 * (a.card.used - c.used)) 0) ≡ arena
    kept a e = let z : 16 * (a.card.used - c.used) ≡ 0 = rw e (omega arith) in rw z (put_zero arena (16 * c.used) [])

    by : (s t f : Bool) (p : Result Placed Refusal) → let x = cond t (refused c ShortArena) (cond f (refused c TableFull) (service_by c depth code version p)) in
        (answer_as (cond s (refused c NotBuilt) x).answer ≡ 0 → ⊥) → arena_added c (cond s (refused c NotBuilt) x) arena ≡ arena
    by true t f p h = kept (refused c NotBuilt) refl
    by false true f p h = kept (refused c ShortArena) refl
    by false false true p h = kept (refused c TableFull) refl
    by false false false (Err r) h = kept (refused c r) refl
    by false false false (Ok placed) h = absurd (h refl)

-- how many status pairs a reply has
abbrev pairs : Reply → ℕ
pairs (NotServed x) = 0
pairs Done = 1
pairs ShortData = 1
pairs (Failed i f) = 1

-- the arena, output and staging of a request
pub request-left : (c : Card) (a out staging : List ℕ) (r : Request) {x : Refusal} → (serve c a r).reply ≡ NotServed x →
    ((serve c a r).arena ≡ a) × (output_after out (serve c a r) ≡ out) × (staging_by (serve c a r).reply (16 * c.used) staging ≡ staging)
unfolding serve carried committed put
request-left c a out staging r {x = x} e = by (plan_of c (length a) r) e
  where
    none : {A : Type 0} (y : Reply) → pairs y ≡ 1 → y ≡ NotServed x → A
    none y k e = let z : pairs y ≡ 0 = ap pairs e in absurd (omega arith)

    runs : (w : Walked (List ℕ)) → (committed (16 * c.used) a w).reply ≡ NotServed x →
        ((committed (16 * c.used) a w).arena ≡ a) × (output_after out (committed (16 * c.used) a w) ≡ out) ×
        (staging_by (committed (16 * c.used) a w).reply (16 * c.used) staging ≡ staging)
    runs (bad i f) e = none (Failed i f) refl e
    runs (good s) e = none Done refl e

    served : (w : Bool) (es : List BlockListElement) → (carried w (rows_in c r) (16 * c.used) r.«data» a es).reply ≡ NotServed x →
        ((carried w (rows_in c r) (16 * c.used) r.«data» a es).arena ≡ a) ×
        (output_after out (carried w (rows_in c r) (16 * c.used) r.«data» a es) ≡ out) ×
        (staging_by (carried w (rows_in c r) (16 * c.used) r.«data» a es).reply (16 * c.used) staging ≡ staging)
    served true es e = runs (staged (rows_in c r) r.«data» es (take (16 * c.used) a)) e
    served false es e = none Done refl e

    by : (p : Plan) → (plan_served c a r p).reply ≡ NotServed x → ((plan_served c a r p).arena ≡ a) ×
        (output_after out (plan_served c a r p) ≡ out) × (staging_by (plan_served c a r p).reply (16 * c.used) staging ≡ staging)
    by (stop y) e = (refl, refl, rw e)
    by (go es) e = served r.write es e
