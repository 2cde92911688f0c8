use Rattle.std.proofs.Common.{◌≡◌, ℕ, zero, suc, ◌/◌, ◌≤◌, List, [], ◌∷◌, ◌++◌, length, take, drop, is_some, false, ltb, refl, ap, ◌∙◌, arith, rules}
use Rattle.journal_bytes.proofs.opening.all_decode.Goals as goal
use Rattle.journal_bytes.specs.Opening.{all_decode}
use Rattle.journal.specs.Bytes.{decoded}
use Rattle.journal.specs.Limits.{record_bytes}
use Rattle.std.proofs.lemmas.Bool.Decides.{nat_tests}
use Rattle.std.proofs.lemmas.List.{length-append}
use Rattle.std.proofs.Math.Seq.{take-append_seam, drop-append_seam}
use Rattle.std.proofs.lemmas.Iterator.{YieldsList-from_take}
use Rattle.std.proofs.lemmas.Iterator.Consumers.{YieldsList-at}
use Rattle.std.proofs.lemmas.Iterator.Search.{all_from_yields_List}
use Rattle.std.proofs.lemmas.Iterator.Splits.{YieldsList-from_shown_while}
use Rattle.std.specs.List.{list_all}
use Rattle.std.specs.Slice.Iter.{chunks_exact_size, chunks_exact_rest, chunks_exact_steps}

-- The first n groups of four bytes.
abbrev fours : ℕ → List ℕ → List (List ℕ)
fours zero bs = []
fours (suc n) bs = take record_bytes bs ∷ fours n (drop record_bytes bs)

length-fours : (n : ℕ) (bs : List ℕ) → length (fours n bs) ≡ n
length-fours zero bs = refl
length-fours (suc n) bs = ap suc (length-fours n (drop record_bytes bs))

-- One group more at the front.
fours_more : (xs ys : List ℕ) → length xs ≡ record_bytes → fours (length (xs ++ ys) / record_bytes) (xs ++ ys) ≡ xs ∷ fours (length ys / record_bytes) ys
fours_more xs ys e =
    let n : length (xs ++ ys) / record_bytes ≡ suc (length ys / record_bytes) = omega (arith, length-append xs ys) in
    let first : take record_bytes (xs ++ ys) ≡ xs = rw (← e) (take-append_seam xs ys) in
    let rest : drop record_bytes (xs ++ ys) ≡ ys = rw (← e) (drop-append_seam xs ys) in
    rw n (cc)

-- Four bytes alone are decoded as they are with more behind them.
decoded_four : (bs : List ℕ) → decoded (take record_bytes bs) ≡ decoded bs
decoded_four [] = refl
decoded_four (a ∷ []) = refl
decoded_four (a ∷ b ∷ []) = refl
decoded_four (a ∷ b ∷ d ∷ []) = refl
decoded_four (a ∷ b ∷ d ∷ e ∷ bs) =
    let long : ltb (length (a ∷ b ∷ d ∷ e ∷ bs)) record_bytes ≡ false = grind (arith, nat_tests) in
    simp long

-- So many groups are records where the bytes begin with so many.
all_fours : (k n : ℕ) (bs : List ℕ) → k ≤ n → list_all (λ four. is_some (decoded four)) (take k (fours n bs)) ≡ all_decode bs k
all_fours zero n bs h = refl
all_fours (suc k) zero bs h = absurd (omega arith)
all_fours (suc k) (suc n) bs h =
    let rest = all_fours k n (drop record_bytes bs) (omega arith) in
    let here = decoded_four bs in
    cc

pub returns : goal.returns
returns c =
    let bs = c.args.bytes.now in
    let groups = YieldsList-from_shown_while chunks_exact_steps (λ y. y.now) (λ s. fours (length (chunks_exact_rest s) / record_bytes) (chunks_exact_rest s)) (λ s. chunks_exact_size s ≡ record_bytes)
    (λ s t size end. let short = end.1.0 in length-fours _ (chunks_exact_rest s) ∙ (omega arith))
    (λ s x t size step. (step.0 ∙ size, rw step.1.0 (fours_more x.now (chunks_exact_rest t) (step.1.1 ∙ size))))
    c.chunks_exact.result c.chunks_exact.ensures.size in
    all_from_yields_List (λ four. is_some (decoded four)) _ _ _ c.all.ensures.ran (YieldsList-from_take c.args.records (YieldsList-at c.take.ensures.source groups) c.take.ensures.count) (λ x b q k. search rules)
    ∙ rw c.chunks_exact.ensures.rest (all_fours c.args.records (length bs / record_bytes) bs (omega arith))
