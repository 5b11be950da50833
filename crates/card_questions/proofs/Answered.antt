-- The directory's answer over the records of a card.
use Rattle.std.proofs.Common.{Result, Ok, Err}
use mathlib.Core.Path.{◌≡◌, refl, sym, ◌∙◌, ap}
use mathlib.Core.List.{List, [], ◌∷◌, map}
use Prim.Native.Nat.{ℕ, ◌+◌, ◌-◌, ◌*◌, ◌≤◌, ◌<◌, min}
use native.Mathlib.Omega.{arith}
use lib.ListN.{length, take, length-take}
use lib.Seq.{sets}
use borrow.Author.Tests.{lt-ltb, le-ltb}
use Rattle.answers.specs.declared.refusal.Refusal.TheVariants.{ShortOutput}
use Rattle.card_nodes.specs.declared.node.Node.{Node}
use Rattle.card_nodes.proofs.Scan.{over}
use Rattle.card_nodes.proofs.Records.{Records}
use Rattle.card_questions.specs.Directory.{directory_of, listed_of, listing_of, out_after}
use Rattle.card_laws.proofs.UnderLaws.{take-most}
use Rattle.card_questions.specs.declared.table.Column.TheVariants.{Depth, Code, Second}
use Rattle.card_questions.specs.Table.{cell_of, past_of, pairs_from}
use Rattle.card_questions.proofs.Columns.{column_take, listed_column, directory_column}
use Rattle.answers.specs.declared.refusal.Refusal.{Refusal}

-- what is answered, and the output after it
abbrev pub Answers : List Node → ℕ → List ℕ → Result ℕ Refusal → List ℕ → Type 0
Answers nodes count out said after = (said ≡ listing_of (take count nodes) (length out)) × (after ≡ out_after (take count nodes) out)

module _ {nodes : List Node} {count : ℕ} (r : Records nodes count) {n : ℕ} (p : n ≡ min count 64) (out : List ℕ) where
  long : length (take count nodes) ≡ n
  long = simp length-take (omega (arith, r.all))

  -- the output has no pair per node
  pub refused : length out < 2 * n → Answers nodes count out (Err ShortOutput) out
  unfolding listing_of out_after
  refused h = (rw (long, lt-ltb (length out) (2 * n) h), rw (long, lt-ltb (length out) (2 * n) h))

  module _ (h : 2 * n ≤ length out) where
    -- there is no node
    pub nothing : n ≡ 0 → Answers nodes count out (Ok 0) out
    unfolding listing_of out_after listed_of directory_of
    nothing k =
        let e = over nodes count 0 (omega (arith, r.all)) in
        (rw (long, le-ltb (length out) (2 * n) h, e), rw (long, le-ltb (length out) (2 * n) h, e))

    -- the root is listed, then its children, over the columns of the nodes
    pub listed : {depths codes seconds after : List ℕ} {to : ℕ} → 0 < n →
        depths ≡ map (cell_of Depth) nodes → codes ≡ map (cell_of Code) nodes → seconds ≡ map (cell_of Second) nodes →
        to ≡ past_of (take (n - 0) depths) 0 →
        after ≡ sets out (2 * 0) (pairs_from (take (n - 0) codes) (take (n - 0) seconds) 0 (to - 0)) →
        Answers nodes count out (Ok to) after
    unfolding listing_of out_after
    listed {depths = depths} {codes = codes} {seconds = seconds} {to = to} k ds cs ss b e =
        let ns = take count nodes in
        let l : 0 < length ns = omega (arith, long) in
        let m : n - 0 ≡ n = omega arith in
        let z : to - 0 ≡ to = omega arith in
        let t : take n nodes ≡ ns = rw p (take-most count 64 nodes r.all) in
        let w : to ≡ listed_of ns = b ∙ rw (ds, m, column_take Depth n nodes, t) (listed_column ns l) in
        let d : pairs_from (take (n - 0) codes) (take (n - 0) seconds) 0 (to - 0) ≡ directory_of ns =
        rw (z, cs, ss, m, column_take Code n nodes, column_take Second n nodes, t, w) (directory_column ns l) in (
          rw (long, le-ltb (length out) (2 * n) h) (ap Ok w),
          rw (long, le-ltb (length out) (2 * n) h) (e ∙ ap (sets out 0) d),
        )
