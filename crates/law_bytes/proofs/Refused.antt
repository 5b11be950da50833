-- Bytes that encode no card are refusal 8 to every call, and so is every card that is not sound.
use Rattle.std.proofs.Common.{Err}
use mathlib.Core.Path.{◌≡◌, refl}
use mathlib.Core.Bool.{Bool, true, false, cond}
use mathlib.Core.List.{List}
use Prim.Native.Nat.{ℕ}
use lib.Dec.{eqb}
use lib.IntN.{ℤ}
use lib.ListN.{length}
use Rattle.answers.specs.declared.refusal.Refusal.TheVariants.{NotBuilt}
use Rattle.card_build.specs.declared.card.Card.{Card}
use Rattle.card_build.specs.Card.{is_sound}
use Rattle.card_build.specs.Build.{area_added, service_added, limit_added}
use Rattle.card_questions.specs.Directory.{directory_answer}
use Rattle.card_questions.specs.Total.{total_answer}
use Rattle.card_questions.specs.Keys.{version_answer, area_list_answer, service_list_answer}
use Rattle.card_lists.specs.Packet.{code_list_of, code_list_put}
use Rattle.card_lists.specs.Information.{blocks_told, blocks_put}
use Rattle.request_plan.specs.declared.Reply.TheVariants.{Refused as NotServed}
use Rattle.request_plan.specs.Request.{Request}
use Rattle.request_plan.specs.Plan.{judged_with, plan_of}
use Rattle.request_plan.specs.Serve.{answered_only, serve}
use Rattle.request_block.specs.Block.{block_judged}
use Rattle.board_read.specs.Refresh.{board_request, refreshed}
use Rattle.handset_bytes.specs.Card.{is_card, card_decoded}
use Rattle.handset_words.specs.Outcome.{answer_as}
use Rattle.handset_words.specs.Board.{refreshed_as, board_room, board_made}
use Rattle.handset_words.specs.Block.{unfit_after, set_answer}
use Rattle.law_bytes.specs.Eight.{eight, EightToAll}
use Rattle.law_bytes.proofs.Round.{unsound}

module _ (c : Card) (no : is_sound c ≡ false) where
  -- a request reads nothing and leaves the arena
  request : (arena : List ℕ) (r : Request) → serve c arena r ≡ answered_only arena (NotServed NotBuilt)
  unfolding serve plan_of judged_with
  request arena r = rw no

  block : (arena_len code number : ℕ) → block_judged c arena_len code number ≡ Err NotBuilt
  unfolding block_judged
  block arena_len code number = rw no

  -- whatever the length of the block that is to be set
  block-set : (arena_len code number : ℕ) (bytes : List ℕ) → answer_as (set_answer c arena_len code number bytes) ≡ eight
  unfolding set_answer
  block-set arena_len code number bytes = rw (block arena_len code number) (by (eqb (length bytes) 16))
    where
      by : (t : Bool) → answer_as (cond t (Err NotBuilt) (unfit_after (Err NotBuilt))) ≡ eight
      by true = refl
      by false = refl

  board : (arena : List ℕ) (code : ℕ) (lanes : List ℕ) → refreshed_as (board_made c arena code lanes) ≡ eight
  unfolding refreshed
  board arena code lanes = rw (request arena (board_request code (board_room (length lanes))))

  pub unsound_eight : EightToAll c
  unfolding area_added service_added limit_added directory_answer total_answer version_answer area_list_answer service_list_answer code_list_put code_list_of blocks_put blocks_told
  unsound_eight = record {
    area = λ depth code end version. rw no;
    service = λ arena_len depth code blocks version. rw no;
    limit = λ upper lower generation. rw no;
    directory = λ room. rw no;
    total = λ code. rw no;
    version = λ code. rw no;
    areas = λ codes. rw no;
    services = λ codes. rw no;
    read = λ arena o codes count list room. rw (request arena _);
    write = λ arena o codes count list d room. rw (request arena _);
    board = board;
    packet = λ parent p room. rw no;
    blocks = λ arena_len codes room. rw no;
    set = block-set;
    stored = λ arena_len code number. rw (block arena_len code number);
  }

pub eight_to_all : (s : List ℕ) → is_card s ≡ false → EightToAll (card_decoded s)
eight_to_all s e = unsound_eight (card_decoded s) (unsound s e)
