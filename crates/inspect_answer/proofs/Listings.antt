-- The pairs of a directory stand at the front of its output. Assumes nothing.
use Rattle.std.proofs.Common.{Result, Ok, Err}
use Prim.Native.Nat.{ℕ, suc, ◌+◌, ◌-◌, ◌*◌, ◌≤◌}
use native.Mathlib.Omega.{arith}
use mathlib.Core.Path.{◌≡◌, refl, sym, ap}
use mathlib.Core.Bool.{Bool, true, false, cond, not}
use mathlib.Core.List.{List, [], ◌∷◌}
use lib.Dec.{leb, ltb}
use lib.ListN.{length, take}
use lib.Seq.{sets, take-length}
use borrow.Author.Tests.{ltb-false}
use Rattle.answers.specs.declared.refusal.Refusal.TheVariants.{ShortOutput, NotBuilt}
use Rattle.byte_parts.specs.Part.{put}
use Rattle.card_nodes.specs.declared.node.Node.{Node}
use Rattle.card_build.specs.declared.card.Card.{Card}
use Rattle.card_build.specs.Card.{nodes_of, is_sound}
use Rattle.card_laws.specs.Under.{span_under}
use Rattle.card_questions.specs.Directory.{pair_of, pairs_under, directory_of, listed_of, listing_of, out_after, directory_answer, directory_out}
use Rattle.card_laws.proofs.UnderLaws.{span_most}
use Rattle.inspect_fields.proofs.Lines.{front_put}
use Rattle.answers.specs.declared.refusal.Refusal.{Refusal}

-- there are two numbers for each node
one_pair : (t : Bool) (n : Node) (rest : List ℕ) (k : ℕ) → length rest ≡ 2 * k → length (cond t [] (pair_of n rest)) ≡ 2 * cond t 0 (suc k)
one_pair true n rest k h = refl
one_pair false n rest k h = omega (arith, h)

pairs-long : (d : ℕ) (ns : List Node) → length (pairs_under d ns) ≡ 2 * span_under d ns
unfolding pairs_under span_under
pairs-long d [] = refl
pairs-long d (n ∷ ns) = one_pair (leb n.depth d) n (pairs_under d ns) (span_under d ns) (pairs-long d ns)

directory-long : (ns : List Node) → length (directory_of ns) ≡ 2 * listed_of ns
unfolding directory_of listed_of
directory-long [] = refl
directory-long (n ∷ ns) = omega (arith, pairs-long n.depth ns)

listed-most : (ns : List Node) → listed_of ns ≤ length ns
unfolding listed_of
listed-most [] = omega arith
listed-most (n ∷ ns) = omega (arith, span_most n.depth ns)

-- What was listed stands at the front of the output.
pub record Stands (pairs after : List ℕ) (room n : ℕ) : Type 0 where
  pub most : n ≤ room
  pub long : length pairs ≤ room
  pub front : take (n - 0) after ≡ pairs

-- a listing is no refusal
abbrev counted : Result ℕ Refusal → ℕ
counted (Ok n) = 1 + n
counted (Err r) = 0

pub directory_stands
    : (c : Card) (out : List ℕ) {n : ℕ} → directory_answer c (length out) ≡ Ok n
    → Stands (directory_of (nodes_of c)) (directory_out c out) (length out) (2 * n)
unfolding directory_answer directory_out listing_of out_after put
directory_stands c out {n} e = by (not (is_sound c)) (ltb (length out) (2 * length (nodes_of c))) refl e
  where
    by : (s t : Bool) → ltb (length out) (2 * length (nodes_of c)) ≡ t
        → cond s (Err NotBuilt) (cond t (Err ShortOutput) (Ok (listed_of (nodes_of c)))) ≡ Ok n
        → Stands (directory_of (nodes_of c)) (cond s out (cond t out (sets out 0 (directory_of (nodes_of c))))) (length out) (2 * n)
    by true t h x = absurd (let z : ◌≡◌ {A = ℕ} 0 (1 + n) = ap counted x in omega arith)
    by false true h x = absurd (let z : ◌≡◌ {A = ℕ} 0 (1 + n) = ap counted x in omega arith)
    by false false h x =
        let z : ◌≡◌ {A = ℕ} (1 + listed_of (nodes_of c)) (1 + n) = ap counted x in
        let l = directory-long (nodes_of c) in
        let m = listed-most (nodes_of c) in
        let g = ltb-false (length out) (2 * length (nodes_of c)) h in
        let d = directory_of (nodes_of c) in
        record { most = omega arith; long = omega arith; front = front_put out d {r = 2 * n} (omega arith) (omega arith) (sym (ap (sets out 0) (take-length d))) }
