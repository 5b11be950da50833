-- Refusal 8 to every call that is lent a card's bytes: the statement, over what each exported call returns.
use Rattle.std.specs.Prelude.{ℕ, Bool, List, ◌≡◌, ℤ}
use Rattle.answers.specs.declared.refusal.Refusal.TheVariants.{NotBuilt}
use Rattle.card_build.specs.declared.card.Card.{Card}
use Rattle.card_build.specs.Build.{area_added, service_added, limit_added}
use Rattle.card_questions.specs.Directory.{directory_answer}
use Rattle.card_questions.specs.Total.{total_answer}
use Rattle.card_questions.specs.Keys.{version_answer, area_list_answer, service_list_answer}
use Rattle.card_lists.specs.Packet.{code_list_put}
use Rattle.card_lists.specs.Information.{blocks_put}
use Rattle.request_plan.specs.Request.{read_request, write_request}
use Rattle.request_plan.specs.Serve.{serve}
use Rattle.request_block.specs.Block.{block_judged}
use Rattle.handset_words.specs.Outcome.{refused_as, answer_as}
use Rattle.handset_words.specs.Told.{told_as, listed_as}
use Rattle.handset_words.specs.Checked.{checked_as}
use Rattle.handset_words.specs.Reply.{reply_as}
use Rattle.handset_words.specs.Message.{put_as}
use Rattle.handset_words.specs.Board.{refreshed_as, board_made}
use Rattle.handset_words.specs.Block.{set_answer}

-- what a call returns that is refused with 8
abbrev pub eight : ℕ
eight = refused_as NotBuilt

-- each of the fifteen calls, whatever else it is lent
-- RULES 15.2
pub record EightToAll (c : Card) : Type 0 where
  pub area : (depth code end version : ℕ) → answer_as (area_added c depth code end version).answer ≡ eight
  pub service : (arena_len depth code blocks version : ℕ) → answer_as (service_added c arena_len depth code blocks version).answer ≡ eight
  pub limit : (upper lower : ℤ) (generation : ℕ) → answer_as (limit_added c upper lower generation).answer ≡ eight
  pub directory : (room : ℕ) → listed_as (directory_answer c room) ≡ eight
  pub total : (code : ℕ) → told_as (total_answer c code) ≡ eight
  pub version : (code : ℕ) → told_as (version_answer c code) ≡ eight
  pub areas : (codes : List ℕ) → checked_as (area_list_answer c codes) ≡ eight
  pub services : (codes : List ℕ) → checked_as (service_list_answer c codes) ≡ eight
  pub read
      : (arena : List ℕ) («open» : Bool) (codes : List ℕ) (count : ℕ) (list : List ℕ) (room : ℕ)
      → reply_as (serve c arena (read_request «open» codes count list room)).reply ≡ eight
  pub write
      : (arena : List ℕ) («open» : Bool) (codes : List ℕ) (count : ℕ) (list «data» : List ℕ) (room : ℕ)
      → reply_as (serve c arena (write_request «open» codes count list «data» room)).reply ≡ eight
  pub board : (arena : List ℕ) (code : ℕ) (lanes : List ℕ) → refreshed_as (board_made c arena code lanes) ≡ eight
  pub packet : (parent p room : ℕ) → put_as (code_list_put c parent p room) ≡ eight
  pub blocks : (arena_len : ℕ) (codes : List ℕ) (room : ℕ) → put_as (blocks_put c arena_len codes room) ≡ eight
  pub set : (arena_len code number : ℕ) (block : List ℕ) → answer_as (set_answer c arena_len code number block) ≡ eight
  pub stored : (arena_len code number : ℕ) → answer_as (block_judged c arena_len code number) ≡ eight
