-- Reading pieces one after another, as a loop does.
use Rattle.std.proofs.Common.{◌≡◌, ℕ, zero, suc, ◌+◌, ◌-◌, ◌<◌, ◌≤◌, List, [], ◌∷◌, ◌++◌, length, Result, Ok, Err, refl, sym, ap, ◌∙◌, append_assoc, arith}
use Rattle.std.proofs.lemmas.List.{append-nil, length-append}
use Rattle.qsg_msg.specs.declared.fault.Stop.{Stop}
use Rattle.qsg_msg.specs.declared.fault.Stop.TheVariants as stops
use Rattle.qsg_msg.specs.Reading.{◌>>=◌, Fails}
use Rattle.qsg_logrec.specs.declared.piece.Piece.{Piece}
use Rattle.qsg_logrec.specs.PageReading.{piece_at, pieces_at}

-- what was read before, and what is still read
abbrev pub with_front : List Piece → Result (List Piece × List ℕ) ℕ → Result (List Piece × List ℕ) ℕ
with_front front read = read >>= λ x. Ok (front ++ x.0, x.1)

regroup : (front : List Piece) (p : Piece) (read : Result (List Piece × List ℕ) ℕ) → with_front front (read >>= λ x. Ok (p ∷ x.0, x.1)) ≡ with_front (front ++ p ∷ []) read
regroup front p (Ok x) = ap (λ (ps : List Piece). Ok (ps, x.1)) (sym (append_assoc front (p ∷ []) x.0))
regroup front p (Err f) = refl

step : (front : List Piece) (most room : ℕ) (bytes : List ℕ) (p : Piece) (after : List ℕ) → piece_at (suc room) bytes ≡ Ok (p, after)
    → with_front front (pieces_at (suc most) (suc room) bytes) ≡ with_front (front ++ p ∷ []) (pieces_at most (suc room - (3 + length p.bytes)) after)
step front most room bytes p after h = rw h (regroup front p (pieces_at most (suc room - (3 + length p.bytes)) after))

-- a number that isn't 0 is one more than another
pub record IsMore (n : ℕ) : Type 0 where
  pub less : ℕ
  pub is : n ≡ suc less

pub more_than : (n : ℕ) → 0 < n → IsMore n
more_than n lt = record { less = n - 1; is = omega arith }

pub goes_on : (front : List Piece) (used room : ℕ) (bytes : List ℕ) (p : Piece) (after : List ℕ) (total : Result (List Piece × List ℕ) ℕ) → 0 < room → room + length front ≤ used
    → piece_at room bytes ≡ Ok (p, after) → with_front front (pieces_at (used - length front) room bytes) ≡ total
    → with_front (front ++ p ∷ []) (pieces_at (used - length (front ++ p ∷ [])) (room - (3 + length p.bytes)) after) ≡ total
goes_on front used room bytes p after total some fits h so_far =
    let r = more_than room some in
    let m : used - length front ≡ suc (used - length (front ++ p ∷ [])) = omega (arith, some, fits, length-append front (p ∷ [])) in
    let here : piece_at (suc r.less) bytes ≡ Ok (p, after) = ap (λ n. piece_at n bytes) (sym r.is) ∙ h in
    ap (λ n. with_front (front ++ p ∷ []) (pieces_at (used - length (front ++ p ∷ [])) (n - (3 + length p.bytes)) after)) r.is
    ∙ sym (step front (used - length (front ++ p ∷ [])) r.less bytes p after here)
    ∙ (λ i. with_front front (pieces_at (sym m i) (sym r.is i) bytes))
    ∙ so_far

pub ends : (e : Stop) (front : List Piece) (used room : ℕ) (bytes : List ℕ) (total : Result (List Piece × List ℕ) ℕ) → 0 < room → room + length front ≤ used
    → Fails e (piece_at room bytes) → with_front front (pieces_at (used - length front) room bytes) ≡ total → Fails e total
ends stops.NoMemory front used room bytes total some fits h so_far = tt
ends (stops.Bad left) front used room bytes total some fits h so_far =
    let r = more_than room some in
    let k = more_than (used - length front) (omega (arith, some, fits)) in
    let here : piece_at (suc r.less) bytes ≡ Err left = ap (λ n. piece_at n bytes) (sym r.is) ∙ h in
    sym so_far ∙ (λ i. with_front front (pieces_at (k.is i) (r.is i) bytes)) ∙ stopped k.less r.less here
  where
    stopped : (most room : ℕ) → piece_at (suc room) bytes ≡ Err left → with_front front (pieces_at (suc most) (suc room) bytes) ≡ Err left
    stopped most room e = rw e refl

pub is_done : (front : List Piece) (most room : ℕ) (bytes : List ℕ) (total : Result (List Piece × List ℕ) ℕ) → room ≡ 0 → with_front front (pieces_at most room bytes) ≡ total → total ≡ Ok (front, bytes)
is_done front most room bytes total none so_far = sym so_far ∙ ap (λ n. with_front front (pieces_at most n bytes)) none ∙ nothing most
  where
    nothing : (most : ℕ) → with_front front (pieces_at most 0 bytes) ≡ Ok (front, bytes)
    nothing zero = ap (λ (ps : List Piece). Ok (ps, bytes)) (append-nil front)
    nothing (suc most) = ap (λ (ps : List Piece). Ok (ps, bytes)) (append-nil front)
