-- A text fed byte by byte, or chunk by chunk, prints what its lines print. Assumes nothing.
use Prim.Native.Nat.{ℕ, zero, suc, ◌≤◌}
use native.Mathlib.Omega.{arith}
use native.Mathlib.Decide.{ℕ_discrete}
use mathlib.Core.Path.{◌≡◌, refl, sym, ap, ◌∙◌}
use mathlib.Core.List.{List, [], ◌∷◌, ◌++◌, append-nil, append_assoc}
use lib.ListN.{length, take, length-append, length-take}
use lib.Seq.{take-nil}
use borrow.Author.Tests.{eq-eqb, ne_eqb}
use Rattle.text_stream.specs.Stream.{pushed, lines_of, joined, Machine, Mid, between, printed, says_of, ended, byte_fed, byte_said, fed, said, chunked, Keeps, Blind}

-- All bytes may be kept.
pub keeps_all : Keeps (λ l. l)
keeps_all = record { none = refl; again = λ a b. refl; some = λ l h. h }

-- So may the first `cap`, if there is room for one: what is over is dropped early or late.
take_again : (cap : ℕ) (a b : List ℕ) → take cap (take cap a ++ b) ≡ take cap (a ++ b)
take_again zero a b = refl
take_again (suc cap) [] b = refl
take_again (suc cap) (x ∷ a) b = ap (λ (l : List ℕ). x ∷ l) (take_again cap a b)

pub keeps_first : (cap : ℕ) → 1 ≤ cap → Keeps (take cap)
keeps_first cap h = record { none = take-nil cap; again = take_again cap; some = λ l k. simp length-take (omega arith) }

-- lines with bytes in front of the first
behind : List ℕ → List (List ℕ) → List (List ℕ)
behind [] ls = ls
behind (x ∷ k) [] = (x ∷ k) ∷ []
behind (x ∷ k) (l ∷ ls) = (x ∷ k ++ l) ∷ ls

behind-pushed : (k : List ℕ) (x : ℕ) (ls : List (List ℕ)) → behind k (pushed x ls) ≡ behind (k ++ (x ∷ [])) ls
unfolding behind pushed
behind-pushed [] x [] = refl
behind-pushed [] x (l ∷ ls) = refl
behind-pushed (y ∷ k) x [] = refl
behind-pushed (y ∷ k) x (l ∷ ls) = rw (append_assoc k (x ∷ []) l)

module _ {S : Type 0} (M : Machine S) where
  -- Bytes in front of a first line that tell as much print as much.
  same_behind_lem
      : (s : S) (j k : List ℕ) (ls : List (List ℕ)) → 1 ≤ length j → 1 ≤ length k
      → ((s : S) (b : List ℕ) → M.line s (j ++ b) ≡ M.line s (k ++ b))
      → ((s : S) (b : List ℕ) → M.text s (j ++ b) ≡ M.text s (k ++ b))
      → printed M s (behind j ls) ≡ printed M s (behind k ls)
  unfolding printed behind
  same_behind_lem s [] k ls h g p q = absurd (omega arith)
  same_behind_lem s (x ∷ j) [] ls h g p q = absurd (omega arith)
  same_behind_lem s (x ∷ j) (y ∷ k) [] h g p q =
      let e : M.line s (x ∷ j) ≡ M.line s (y ∷ k) = rw (append-nil j, append-nil k) at (p s []) in
      let f : M.text s (x ∷ j) ≡ M.text s (y ∷ k) = rw (append-nil j, append-nil k) at (q s []) in
      rw (e, f)
  same_behind_lem s (x ∷ j) (y ∷ k) (l ∷ ls) h g p q = rw (p s l, q s l)

  -- The input's end ends a line at hand.
  ended-behind : (s : S) (k : List ℕ) → ended M (record { state = s; kept = k }) ≡ printed M s (behind k [])
  unfolding ended printed behind
  ended-behind s [] = refl
  ended-behind s (x ∷ k) = rw (ne_eqb (suc (length k)) 0 (λ e. omega arith))

  -- So does a LF.
  lf_behind : (s : S) (k : List ℕ) (ls : List (List ℕ)) → M.text s k ++ printed M (M.line s k) ls ≡ printed M s (behind k ([] ∷ ls))
  unfolding printed behind
  lf_behind s [] ls = refl
  lf_behind s (x ∷ k) ls = rw (append-nil k)

module _ {S : Type 0} (M : Machine S) (keep : List ℕ → List ℕ) where
  -- Feeding a and then b is feeding both.
  pub fed-append : (m : Mid S) (a b : List ℕ) → fed M keep m (a ++ b) ≡ fed M keep (fed M keep m a) b
  unfolding fed
  fed-append m [] b = refl
  fed-append m (x ∷ a) b = fed-append (byte_fed M keep m x) a b

  -- So it is for what is printed.
  pub said-append
      : (m : Mid S) (a b : List ℕ) → said M keep m (a ++ b) ≡ said M keep m a ++ said M keep (fed M keep m a) b
  unfolding fed said
  said-append m [] b = refl
  said-append m (x ∷ a) b =
      ap (λ (w : List ℕ). byte_said M keep m x ++ w) (said-append (byte_fed M keep m x) a b)
      ∙ sym (append_assoc (byte_said M keep m x) (said M keep (byte_fed M keep m x) a) (said M keep (fed M keep (byte_fed M keep m x) a) b))

  -- Chunk by chunk as all at once.
  pub chunks_join
      : (m : Mid S) (cs : List (List ℕ))
      → chunked M keep m cs ≡ said M keep m (joined cs) ++ ended M (fed M keep m (joined cs))
  unfolding chunked joined fed said
  chunks_join m [] = refl
  chunks_join m (c ∷ cs) =
      rw (fed-append m c (joined cs), said-append m c (joined cs), append_assoc (said M keep m c) (said M keep (fed M keep m c) (joined cs)) (ended M (fed M keep (fed M keep m c) (joined cs))))
      (ap (λ (w : List ℕ). said M keep m c ++ w) (chunks_join (fed M keep m c) cs))

  module _ (K : Keeps keep) (B : Blind M keep) where
    -- What is kept early tells as much.
    line_early : (s : S) (a b : List ℕ) → M.line s (keep a ++ b) ≡ M.line s (a ++ b)
    line_early s a b = sym (B.line s (keep a ++ b)) ∙ ap (M.line s) (K.again a b) ∙ B.line s (a ++ b)

    text_early : (s : S) (a b : List ℕ) → M.text s (keep a ++ b) ≡ M.text s (a ++ b)
    text_early s a b = sym (B.text s (keep a ++ b)) ∙ ap (M.text s) (K.again a b) ∙ B.text s (a ++ b)

    -- Bytes in front of a first line may as well be dropped before.
    kept-behind
        : (s : S) (k : List ℕ) (ls : List (List ℕ)) → 1 ≤ length k
        → printed M s (behind (keep k) ls) ≡ printed M s (behind k ls)
    kept-behind s k ls h = same_behind_lem M s (keep k) k ls (K.some k h) h (λ s' b. line_early s' k b) (λ s' b. text_early s' k b)

    -- A text behind a line at hand.
    on : (m : Mid S) (t : List ℕ)
        → said M keep m t ++ ended M (fed M keep m t) ≡ printed M m.state (behind m.kept (lines_of t))
    unfolding said fed lines_of byte_fed byte_said behind printed
    on m [] = ended-behind M m.state m.kept
    on m (x ∷ t) =
        elim (ℕ_discrete x 10) [
          | yes e ↦
              let n : Mid S = between (M.line m.state m.kept) in
              rw (eq-eqb x 10 e, append_assoc (M.text m.state m.kept) (said M keep n t) (ended M (fed M keep n t)))
              (ap (λ (w : List ℕ). M.text m.state m.kept ++ w) (on n t) ∙ lf_behind M m.state m.kept (lines_of t))
          | no e ↦
              rw (ne_eqb x 10 e)
              (on (record { state = m.state; kept = keep (m.kept ++ (x ∷ [])) }) t
              ∙ kept-behind m.state (m.kept ++ (x ∷ [])) (lines_of t) (simp length-append (omega arith))
              ∙ ap (printed M m.state) (sym (behind-pushed m.kept x (lines_of t))))
        ]

    -- What is printed of a whole text byte by byte, then at the end, is what its lines print.
    pub whole : (s : S) (t : List ℕ) → said M keep (between s) t ++ ended M (fed M keep (between s) t) ≡ says_of M s t
    unfolding says_of behind
    whole s t = on (between s) t

    -- Whatever the chunks were.
    pub whole-chunks : (s : S) (cs : List (List ℕ)) → chunked M keep (between s) cs ≡ says_of M s (joined cs)
    whole-chunks s cs = chunks_join (between s) cs ∙ whole s (joined cs)

-- With every byte kept, for any machine.
pub whole_uncut
    : {S : Type 0} (M : Machine S) (s : S) (cs : List (List ℕ)) → chunked M (λ l. l) (between s) cs ≡ says_of M s (joined cs)
whole_uncut M s cs = whole-chunks M (λ l. l) keeps_all (record { line = λ s l. refl; text = λ s l. refl }) s cs

-- With the first `cap` bytes of a line kept, for a machine that tells no more of a line.
pub whole_cut
    : {S : Type 0} (M : Machine S) (cap : ℕ) → 1 ≤ cap → Blind M (take cap) → (s : S) (cs : List (List ℕ))
    → chunked M (take cap) (between s) cs ≡ says_of M s (joined cs)
whole_cut M cap h b s cs = whole-chunks M (take cap) (keeps_first cap h) b s cs
