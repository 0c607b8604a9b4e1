-- The first line of bytes.
use Rattle.std.proofs.Common.{◌≡◌, ◌≢◌, ℕ, zero, suc, ◌+◌, ◌<◌, ◌≤◌, ◌&&◌, Bool, true, false, cond, eqb, List, [], ◌∷◌, length, get_or, take, drop, refl, sym, ap, ◌∙◌, arith, add-one}
use Rattle.std.proofs.lemmas.Bool.Decides.{nat_tests}
use Rattle.qsg_lines.specs.Lines.{lines_of, onto, without_return}

other : (b : ℕ) → b ≢ 10 → eqb b 10 ≡ false
other b h = grind (arith, nat_tests)

other_return : (b : ℕ) → b ≢ 13 → eqb b 13 ≡ false
other_return b h = grind (arith, nat_tests)

onto_first : (t : Bool) (b : ℕ) (ls : List (List ℕ)) → cond (t && true) ([] ∷ ls) ((b ∷ []) ∷ ls) ≡ cond t [] (b ∷ []) ∷ ls
onto_first true b ls = refl
onto_first false b ls = refl

no_return : (t : Bool) (x y : List (List ℕ)) → cond (t && false) x y ≡ y
no_return true x y = refl
no_return false x y = refl

-- a byte and the next one, neither of which is a line feed
step_on : (b c : ℕ) (bs : List ℕ) → eqb b 10 ≡ false → eqb c 10 ≡ false → lines_of (b ∷ c ∷ bs) ≡ onto b (lines_of (c ∷ bs))
step_on b c bs h h_feed = rw (h, h_feed) (no_return (eqb b 13) _ _)

drop_next : (n b : ℕ) (bs : List ℕ) → drop (n + 1) (b ∷ bs) ≡ drop n bs
drop_next n b bs = rw add-one refl

-- up to the first line feed
pub line_to_feed : (bs : List ℕ) (n : ℕ) → n < length bs → get_or bs n 0 ≡ 10 → ((k : ℕ) → k < n → get_or bs k 0 ≢ 10)
    → lines_of bs ≡ without_return (take n bs) ∷ lines_of (drop (n + 1) bs)
line_to_feed [] n lt h before = absurd (omega arith)
line_to_feed (b ∷ bs) zero lt h before = rw h refl
line_to_feed (b ∷ []) (suc n) lt h before = absurd (omega arith)
line_to_feed (b ∷ c ∷ bs) (suc zero) lt h before =
    let byte : eqb b 10 ≡ false = other b (before 0 (omega arith)) in
    rw (byte, h) (onto_first (eqb b 13) b (lines_of bs))
line_to_feed (b ∷ c ∷ bs) (suc (suc n)) lt h before =
    let byte : eqb b 10 ≡ false = other b (before 0 (omega arith)) in
    let no_feed : eqb c 10 ≡ false = other c (before 1 (omega arith)) in
    let r = line_to_feed (c ∷ bs) (suc n) (omega arith) h (λ k l. before (suc k) (omega arith)) in
    let d : drop (suc n + 1) (c ∷ bs) ≡ drop (suc (suc n) + 1) (b ∷ c ∷ bs) = drop_next (suc n) c bs ∙ sym (drop_next (suc (suc n)) b (c ∷ bs)) in
    step_on b c bs byte no_feed ∙ ap (onto b) r ∙ ap (λ (x : List ℕ). (b ∷ without_return (c ∷ take n bs)) ∷ lines_of x) d

-- all of the bytes, where there is no line feed
pub line_to_end : (bs : List ℕ) → 0 < length bs → ((k : ℕ) → k < length bs → get_or bs k 0 ≢ 10) → lines_of bs ≡ bs ∷ []
line_to_end [] lt before = absurd (omega arith)
line_to_end (b ∷ []) lt before =
    let byte : eqb b 10 ≡ false = other b (before 0 (omega arith)) in
    rw byte (no_return (eqb b 13) _ _)
line_to_end (b ∷ c ∷ bs) lt before =
    let byte : eqb b 10 ≡ false = other b (before 0 (omega arith)) in
    let no_feed : eqb c 10 ≡ false = other c (before 1 (omega arith)) in
    let r = line_to_end (c ∷ bs) (omega arith) (λ k l. before (suc k) (omega arith)) in
    step_on b c bs byte no_feed ∙ ap (onto b) r

-- where the last byte is a carriage return
pub return_last : (bs : List ℕ) (n : ℕ) → length bs ≡ n + 1 → get_or bs n 0 ≡ 13 → without_return bs ≡ take n bs
return_last [] n len h = absurd (omega arith)
return_last (b ∷ []) zero len h = rw h refl
return_last (b ∷ []) (suc n) len h = absurd (omega arith)
return_last (b ∷ c ∷ bs) zero len h = absurd (omega arith)
return_last (b ∷ c ∷ bs) (suc n) len h = ap (λ (x : List ℕ). b ∷ x) (return_last (c ∷ bs) n (omega arith) h)

-- and where it isn't
pub other_last : (bs : List ℕ) (n : ℕ) → length bs ≡ n + 1 → get_or bs n 0 ≢ 13 → without_return bs ≡ bs
other_last [] n len h = refl
other_last (b ∷ []) zero len h = let byte : eqb b 13 ≡ false = other_return b h in rw byte refl
other_last (b ∷ []) (suc n) len h = absurd (omega arith)
other_last (b ∷ c ∷ bs) zero len h = absurd (omega arith)
other_last (b ∷ c ∷ bs) (suc n) len h = ap (λ (x : List ℕ). b ∷ x) (other_last (c ∷ bs) n (omega arith) h)

pub no_last : (bs : List ℕ) → length bs ≤ 0 → without_return bs ≡ bs
no_last [] len = refl
no_last (b ∷ bs) len = absurd (omega arith)
