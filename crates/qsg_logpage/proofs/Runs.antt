-- laws of a log and its writer
use Rattle.std.proofs.Common.{◌≡◌, inl, ℕ, zero, suc, ◌+◌, ◌-◌, ◌*◌, ◌/◌, ◌%◌, ◌<◌, ◌≤◌, List, [], ◌∷◌, ◌++◌, length, take, drop, replicate, Option, None, true, refl, ap, ◌∙◌, subst, arith}
use Rattle.std.proofs.Math.Nat.{mod-lt}
use Rattle.std.proofs.lemmas.List.{append-nil}
use Rattle.qsg_disk.specs.Byte.{Byte, zero_byte}
use Rattle.qsg_logpage.specs.Page.{page_at, is_safely_open, open_pages, log_pages, IsShut, IsAbsent}
use Rattle.qsg_logpage.specs.Log.{Hand, LogState, AtNext, IsTied}
use Rattle.qsg_logpage.proofs.Cuts.{pages_split, all_open, shut_here, whole_open, absent_shut}

drop_zeros : (at n : ℕ) → at < n → (rest : List Byte) × (drop at (replicate n zero_byte) ≡ zero_byte ∷ rest)
drop_zeros at zero less = absurd (omega arith)
drop_zeros zero (suc n) less = (replicate n zero_byte, refl)
drop_zeros (suc at) (suc n) less = drop_zeros at n (omega arith)

zeros_shut : (size k : ℕ) → 0 < size → IsShut (page_at (replicate (4096 * size) zero_byte) size k)
zeros_shut size k some =
    let below : k % size < size = mod-lt k some in
    let found = drop_zeros (4096 * (k % size)) (4096 * size) (omega arith) in
    record { rest = take 4095 found.0; closed = ap (take 4096) found.1 }

pub new_log : (size : ℕ) → 0 < size → IsTied 0 (record { size = size; next = 0; reserved = []; hand = None }) (replicate (4096 * size) zero_byte)
new_log size some = record {
  from = omega arith;
  room = omega arith;
  stands = λ k above less. absurd (omega arith);
  at_next = inl (zeros_shut size 0 some);
  later = λ k more less. inl (zeros_shut size k some);
}

pub keep_rises : (keep later : ℕ) (log : LogState) (bytes : List Byte) → keep ≤ later → later ≤ log.next → IsTied keep log bytes → IsTied later log bytes
keep_rises keep later log bytes up below tied = record {
  from = below;
  room = omega (arith, tied.room);
  stands = λ k above less. tied.stands k (omega arith) less;
  at_next = tied.at_next;
  later = tied.later;
}

pub pages_end : (keep : ℕ) (log : LogState) (bytes : List Byte) → log.hand ≡ None → IsTied keep log bytes → keep + length (log_pages bytes log.size keep) ≡ log.next
pages_end keep log bytes idle tied =
    let count : length (open_pages bytes log.size keep (log.next - keep)) ≡ log.next - keep = all_open log.size bytes keep (log.next - keep) opens in
    omega (arith, tied.from, ap length all, count)
  where
    opens : (k : ℕ) → keep ≤ k → k < keep + (log.next - keep) → is_safely_open (k / log.size) (page_at bytes log.size k) ≡ true
    opens k above less = let s = tied.stands k above (omega (arith, tied.from)) in whole_open (k / log.size) s.body (page_at bytes log.size k) s.whole

    absent : IsAbsent (log.next / log.size) (page_at bytes log.size log.next)
    absent = subst (λ (h : Option Hand). AtNext (log.next / log.size) h (page_at bytes log.size log.next)) idle tied.at_next

    n : ℕ
    n = log.size - (log.next - keep)

    all : log_pages bytes log.size keep ≡ open_pages bytes log.size keep (log.next - keep)
    all =
        ap (open_pages bytes log.size keep) (omega (arith, tied.room, tied.from)) ∙ pages_split log.size bytes keep (log.next - keep) (log.size - (log.next - keep)) opens
        ∙ ap (λ l. open_pages bytes log.size keep (log.next - keep) ++ l)
        (ap (λ (k : ℕ). open_pages bytes log.size k (log.size - (log.next - keep))) (omega (arith, tied.from))
        ∙ shut_here log.size bytes log.next (log.size - (log.next - keep)) (absent_shut (log.next / log.size) (page_at bytes log.size log.next) absent))
        ∙ append-nil (open_pages bytes log.size keep (log.next - keep))
