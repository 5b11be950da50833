-- The theorems are not empty: lines of two terminals and what they print, computed, and a `W` line that stands again. Assumes nothing.
use Prim.Native.Nat.{ℕ, zero, suc}
use native.Mathlib.Omega.{arith}
use mathlib.Core.Path.{◌≡◌, refl, sym, ap, subst}
use mathlib.Core.Bool.{true, false, false≢true}
use mathlib.Core.List.{List, [], ◌∷◌, map}
use mathlib.Core.Logic.{inl, inr}
use lib.ListN.{replicate}
use Rattle.service_code.specs.declared.code.ServiceKind.TheVariants.{Cyclic, Purse}
use Rattle.service_code.specs.Code.{number_of, attributes_of, table_of, decoded_of, attribute_of, code_kind_of, requires_key}
use Rattle.block_list.specs.Element.{unpack_at, ends_from, ends_after, elements_from}
use Rattle.byte_parts.specs.Part.{part, put}
use Rattle.text_fields.specs.Field.{split}
use Rattle.text_numbers.specs.Digit.{is_between, digit_of, digits, spelt}
use Rattle.text_numbers.specs.Hex.{grouped, hex_field, pairs, unhex, capital, to_hex, hex_text}
use Rattle.text_numbers.specs.Codes.{hex16, codes_field, codes_of}
use Rattle.text_numbers.specs.Decimal.{plain, up_to, decimal, digits_of, dec_text}
use Rattle.card_nodes.specs.Find.{first_from, open_at, parent_from}
use Rattle.card_admit.specs.Admit.{is_depth, parent_at, outside, service_under, same_kind, joined_to, usable, new_store, may_join, placed_of}
use Rattle.card_sound.specs.Sound.{is_root, all_roots, step_of, steps_from, steps_of, sound_of}
use Rattle.card_build.specs.declared.card.Card.{Card}
use Rattle.card_build.specs.Card.{system_of, new_card}
use Rattle.card_build.specs.Grow.{add_service}
use Rattle.card_laws.specs.Built.{Built, new, service}
use Rattle.card_laws.proofs.Laid.{sized}
use Rattle.request_check.specs.Row.{row_of}
use Rattle.request_check.specs.Check.{mode_allowed, attribute_check, service_check, row_check, element_check, checked_from}
use Rattle.request_rules.specs.Lens.{back, within}
use Rattle.request_rules.specs.Rules.{element_by, end_by, on_store}
use Rattle.request_runs.specs.Runs.{then, push, runs_of, scan, walk}
use Rattle.request_runs.specs.Staged.{staged}
use Rattle.request_plan.specs.declared.Reply.TheVariants.{Done}
use Rattle.request_plan.specs.Request.{Request, write_request}
use Rattle.request_plan.specs.Plan.{write_judged, read_judged, judged_with, plan_of}
use Rattle.request_plan.specs.Serve.{blocks_read, committed, carried, serve}
use Rattle.line_request.specs.Ask.{is_letter, is_either, request_line, shaped, is_write, ask_of}
use Rattle.line_answer.specs.Answer.{where_text, status_fields, refusal_fields, cause_text}
use Rattle.line_serve.specs.Line.{line_served}
use Rattle.line_serve.specs.Text.{request_text}
use Rattle.board_read.specs.Refresh.{refreshed}
use Rattle.board_line.specs.Line.{board_line, board_code, board_line_text}
use Rattle.replay_state.specs.declared.Phase.TheVariants.{Requests}
use Rattle.replay_state.specs.Phases.{one_more}
use Rattle.replay_kind.specs.Kind.{image_kind, request_kind, taken_for}
use Rattle.replay_line.specs.Replay.{Held, held, line_held, line_text}
use Rattle.law_terminals.specs.Orders.{one, two, Marked, by, only, answers, told, Undisturbed}
use Rattle.law_terminals.specs.Two.{arena_after, Any, Names, NoneShared}
use Rattle.law_board.specs.Redraw.{request_in}
use Rattle.law_lines.specs.Lines.{held_after}
use Rattle.law_resend.specs.Resend as resend
use Rattle.law_resend.proofs.Resend.{idle_each}
use Rattle.law_texts.specs.Lines.{text_as, Resending, PrintsAgain}
use Rattle.law_texts.proofs.Lines.{two_lines, written-again}

-- two random stores of one block, numbers 41h and 42h
abbrev lanes : Card
lanes = (add_service (new_card (system_of 1 0 false)) 32 1 0x1049 1 0).card

abbrev card : Card
card = (add_service lanes 32 1 0x1089 1 0).card

built : Built card
unfolding add_service placed_of is_depth parent_at parent_from open_at first_from service_under outside same_kind joined_to usable new_store may_join number_of attributes_of table_of decoded_of attribute_of code_kind_of
built =
    service {c = lanes} 32 1 0x1089 1 0
    (service {c = new_card (system_of 1 0 false)} 32 1 0x1049 1 0 (new (system_of 1 0 false)) refl) refl

-- the state that takes the lines
abbrev start : Held
start = held (record { card = card; phase = Requests; lines = 3; asked = 0 }) (replicate 32 0)

-- one's lines: `W` to 1049, and `L` of it, which has too few blocks
abbrev draw : List ℕ
draw =
    (87 ∷ 9 ∷ 79 ∷ 9 ∷ 49 ∷ 48 ∷ 52 ∷ 57 ∷ 9 ∷ 49 ∷ 9 ∷ 56 ∷ 48 ∷ 48 ∷ 48 ∷ 9 ∷ 48 ∷ 49 ∷ 48 ∷ 49 ∷ 48 ∷ 49 ∷ 48 ∷ 49 ∷ 48 ∷ 49 ∷ 48 ∷ 49 ∷ 48 ∷ 49 ∷ 48 ∷ 49 ∷ 48 ∷ 49 ∷ 48 ∷ 49 ∷ 48 ∷ 49 ∷ 48 ∷ 49 ∷ 48 ∷ 49 ∷ 48 ∷ 49 ∷ 48 ∷ 49 ∷ 48 ∷ 49 ∷ [])

abbrev refresh : List ℕ
refresh = (76 ∷ 9 ∷ 49 ∷ 48 ∷ 52 ∷ 57 ∷ [])

-- two's: `W` to 1089, and `R` of it
abbrev note : List ℕ
note =
    (87 ∷ 9 ∷ 79 ∷ 9 ∷ 49 ∷ 48 ∷ 56 ∷ 57 ∷ 9 ∷ 49 ∷ 9 ∷ 56 ∷ 48 ∷ 48 ∷ 48 ∷ 9 ∷ 48 ∷ 50 ∷ 48 ∷ 50 ∷ 48 ∷ 50 ∷ 48 ∷ 50 ∷ 48 ∷ 50 ∷ 48 ∷ 50 ∷ 48 ∷ 50 ∷ 48 ∷ 50 ∷ 48 ∷ 50 ∷ 48 ∷ 50 ∷ 48 ∷ 50 ∷ 48 ∷ 50 ∷ 48 ∷ 50 ∷ 48 ∷ 50 ∷ 48 ∷ 50 ∷ 48 ∷ 50 ∷ [])

abbrev look : List ℕ
look = (82 ∷ 9 ∷ 79 ∷ 9 ∷ 49 ∷ 48 ∷ 56 ∷ 57 ∷ 9 ∷ 49 ∷ 9 ∷ 56 ∷ 48 ∷ 48 ∷ 48 ∷ [])

-- as they come
abbrev order : List (Marked (List ℕ))
order = by two note ∷ by one draw ∷ by one refresh ∷ by two look ∷ []

-- what is printed: ordinal, then `00 00`; ordinal, then `02 A8`; ordinal, then `00 00` and the block
abbrev done : ℕ → List ℕ
done digit = digit ∷ (9 ∷ 48 ∷ 48 ∷ 9 ∷ 48 ∷ 48 ∷ 9 ∷ 45 ∷ 9 ∷ 45 ∷ 9 ∷ 45 ∷ 10 ∷ [])

abbrev missing : ℕ → List ℕ
missing digit = digit ∷ (9 ∷ 48 ∷ 50 ∷ 9 ∷ 65 ∷ 56 ∷ 9 ∷ 50 ∷ 9 ∷ 45 ∷ 9 ∷ 45 ∷ 10 ∷ [])

abbrev given : ℕ → List ℕ
given digit =
    digit
    ∷ (9 ∷ 48 ∷ 48 ∷ 9 ∷ 48 ∷ 48 ∷ 9 ∷ 45 ∷ 9 ∷ 48 ∷ 50 ∷ 48 ∷ 50 ∷ 48 ∷ 50 ∷ 48 ∷ 50 ∷ 48 ∷ 50 ∷ 48 ∷ 50 ∷ 48 ∷ 50 ∷ 48 ∷ 50 ∷ 48 ∷ 50 ∷ 48 ∷ 50 ∷ 48 ∷ 50 ∷ 48 ∷ 50 ∷ 48 ∷ 50 ∷ 48 ∷ 50 ∷ 48 ∷ 50 ∷ 48 ∷ 50 ∷ 9 ∷ 45 ∷ 10 ∷ [])

-- Together the lines have the ordinals 1 to 4 (49 to 52), alone each terminal's have 1 and 2; all else is the same.
computed
    : (told line_text line_held start order ≡ by two (done 49) ∷ by one (done 50) ∷ by one (missing 51) ∷ by two (given 52) ∷ [])
    × (answers line_text line_held start (only one order) ≡ done 49 ∷ missing 50 ∷ [])
    × (answers line_text line_held start (only two order) ≡ done 49 ∷ given 50 ∷ [])
unfolding add_service placed_of is_depth parent_at parent_from open_at first_from service_under outside same_kind joined_to usable new_store may_join number_of attributes_of table_of decoded_of attribute_of code_kind_of requires_key unpack_at ends_from ends_after elements_from part put is_root all_roots step_of steps_from steps_of sound_of row_of mode_allowed attribute_check service_check row_check element_check checked_from then push runs_of scan walk back within element_by end_by on_store staged write_judged read_judged judged_with plan_of blocks_read committed carried serve split hex16 codes_field codes_of plain up_to decimal is_between digit_of digits spelt grouped hex_field pairs unhex is_letter is_either request_line shaped is_write ask_of board_line board_code request_in digits_of dec_text capital to_hex hex_text where_text status_fields refusal_fields cause_text line_served request_text refreshed board_line_text image_kind request_kind taken_for line_held line_text one_more only answers told
computed = (refl, refl, refl)

-- one's lines name 41h, two's 42h
of_one : (k : ℕ) → Any (Names k) (map request_in (only one order)) → k ≡ 0x41
unfolding split hex16 codes_field codes_of plain up_to decimal is_between digit_of digits spelt grouped hex_field pairs unhex is_letter is_either request_line shaped is_write ask_of board_line board_code request_in number_of only
of_one k (inl (inl h)) = sym h
of_one k (inl (inr h)) = absurd h
of_one k (inr (inl (inl h))) = sym h
of_one k (inr (inl (inr h))) = absurd h
of_one k (inr (inr h)) = absurd h

of_two : (k : ℕ) → Any (Names k) (map request_in (only two order)) → k ≡ 0x42
unfolding split hex16 codes_field codes_of plain up_to decimal is_between digit_of digits spelt grouped hex_field pairs unhex is_letter is_either request_line shaped is_write ask_of board_line board_code request_in number_of only
of_two k (inl (inl h)) = sym h
of_two k (inl (inr h)) = absurd h
of_two k (inr (inl (inl h))) = sym h
of_two k (inr (inl (inr h))) = absurd h
of_two k (inr (inr h)) = absurd h

-- so they are of the theorem
lines_apart : (n : ℕ) → Undisturbed (text_as n) line_held start order
lines_apart =
    two_lines start (sized built).long order tt tt (λ k h p q. let e = of_one k p in let f = of_two k q in omega arith)

-- the write that the draw asks
abbrev drawing : Request
drawing = write_request true (0x1049 ∷ []) 1 (0x80 ∷ 0 ∷ []) (replicate 16 1) 65536

draw_is : request_in draw ≡ drawing
unfolding split hex16 codes_field codes_of plain up_to decimal is_between digit_of digits spelt grouped hex_field pairs unhex is_letter is_either request_line shaped is_write ask_of board_line board_code request_in
draw_is = refl

-- no element of it is of a purse or of a ring
no_purse : (n b i : ℕ) → resend.NamesOfKind Purse n b drawing i → ⊥
unfolding number_of attributes_of table_of decoded_of attribute_of code_kind_of unpack_at elements_from
no_purse n b zero h = let z : ◌≡◌ {A = ℕ} 0 1 = let q = h.kinded in cc in omega arith
no_purse n b (suc i) h = let l = h.listed in omega arith

no_ring : (n b i : ℕ) → resend.NamesOfKind Cyclic n b drawing i → ⊥
unfolding number_of attributes_of table_of decoded_of attribute_of code_kind_of unpack_at elements_from
no_ring n b zero h = let z : ◌≡◌ {A = ℕ} 0 1 = let q = h.kinded in cc in omega arith
no_ring n b (suc i) h = let l = h.listed in omega arith

written : (serve card (replicate 32 0) drawing).reply ≡ Done
unfolding add_service placed_of is_depth parent_at parent_from open_at first_from service_under outside same_kind joined_to usable new_store may_join number_of attributes_of table_of decoded_of attribute_of code_kind_of requires_key unpack_at ends_from ends_after elements_from part put is_root all_roots step_of steps_from steps_of sound_of row_of mode_allowed attribute_check service_check row_check element_check checked_from then push runs_of scan walk back within element_by end_by on_store staged write_judged read_judged judged_with plan_of blocks_read committed carried serve
written = refl

-- a refresh and a read come between
idle : resend.Idle card (arena_after card (replicate 32 0) drawing) (map request_in (refresh ∷ look ∷ []))
unfolding split hex16 codes_field codes_of plain up_to decimal is_between digit_of digits spelt grouped hex_field pairs unhex is_letter is_either request_line shaped is_write ask_of board_line board_code request_in
idle =
    idle_each card (arena_after card (replicate 32 0) drawing) (map request_in (refresh ∷ look ∷ []))
    (λ (t, d). false≢true t, (λ (t, d). false≢true t, tt))

drawn : Resending start draw (refresh ∷ look ∷ [])
drawn = record {
  taken = tt;
  write = ap (λ (r : Request). r.write) draw_is;
  accepted = subst (λ (r : Request). (serve card (replicate 32 0) r).reply ≡ Done) (sym draw_is) written;
  purses = subst (λ (r : Request). resend.PursesOnce r) (sym draw_is) (λ n b i j l x y. no_purse n b i x);
  rings = subst (λ (r : Request). resend.RingsOnce r) (sym draw_is) (λ n b d i k j l m x y. absurd (no_ring n b i x));
  idle =
      subst (λ (r : Request). resend.Idle card (arena_after card (replicate 32 0) r) (map request_in (refresh ∷ look ∷ []))) (sym draw_is) idle;
}

drawn_again : PrintsAgain start (held_after start (draw ∷ refresh ∷ look ∷ [])) draw
drawn_again = written-again start (sized built).long draw (refresh ∷ look ∷ []) drawn
