-- lines whose counts are used up
use Rattle.std.proofs.Common.{◌≡◌, ℕ, suc, ◌+◌, ◌-◌, ◌<◌, ◌≤◌, List, ◌∷◌, length, drop, slice_index_or, slice_set, refl, ap, sym, ◌∙◌, arith}
use Rattle.std.proofs.lemmas.Bool.Decides.{nat_tests}
use Rattle.std.proofs.Math.Seq.{drop-cons}
use Rattle.std.proofs.Math.ListN.{drop_of_length-le}
use Rattle.std.proofs.lemmas.List.{drop-set}
use Rattle.qsg_num.specs.declared.ids.Actor.{Actor}
use Rattle.qsg_schedule.specs.declared.chooser.Pick.TheVariants.{Exactly}
use Rattle.qsg_schedule.specs.Course.{due, pick_of, rest_of, listed}

pub due-spent : (x : Actor × ℕ) (xs : List (Actor × ℕ)) → x.1 ≡ 0 → due (x ∷ xs) ≡ due xs
due-spent x xs e = grind (arith, nat_tests)

pub due-left : (x : Actor × ℕ) (xs : List (Actor × ℕ)) → 0 < x.1 → due (x ∷ xs) ≡ x ∷ xs
due-left x xs e = grind (arith, nat_tests)

pub spent : (turns : List (Actor × ℕ)) (at : ℕ) (d : Actor × ℕ) → at < length turns → (slice_index_or turns at d).1 ≡ 0 → due (drop (at + 1) turns) ≡ due (drop at turns)
spent turns at d lt e =
    let next : at + 1 ≡ suc at = omega arith in
    ap (λ k. due (drop k turns)) next ∙ sym (ap due (drop-cons turns at d lt) ∙ due-spent (slice_index_or turns at d) (drop (suc at) turns) e)

pub unspent : (turns : List (Actor × ℕ)) (at : ℕ) (d : Actor × ℕ) → at < length turns → 0 < (slice_index_or turns at d).1 → drop at turns ≡ due (drop at turns)
unspent turns at d lt e = drop-cons turns at d lt ∙ sym (ap due (drop-cons turns at d lt) ∙ due-left (slice_index_or turns at d) (drop (suc at) turns) e)

pub ended : (turns : List (Actor × ℕ)) (at : ℕ) → length turns ≤ at → drop at turns ≡ due (drop at turns)
ended turns at le = rw (drop_of_length-le turns le) refl

-- what a line that has a turn left gives, and what is left of it then
pub took-pick : (turns : List (Actor × ℕ)) (line : ℕ) (d : Actor × ℕ) (actors : List Actor) (round : ℕ) → line < length turns → pick_of (drop line turns) actors round ≡ Exactly (slice_index_or turns line d).0
took-pick turns line d actors round lt = ap (λ l. pick_of l actors round) (drop-cons turns line d lt)

pub took-rest : (turns : List (Actor × ℕ)) (line : ℕ) (d : Actor × ℕ) (actors : List Actor) (round : ℕ) → line < length turns → rest_of (drop line turns) actors round ≡ listed (drop line (slice_set turns line ((slice_index_or turns line d).0, (slice_index_or turns line d).1 - 1))) actors round
took-rest turns line d actors round lt =
    let next : line + 1 ≡ suc line = omega arith in
    ap (λ l. rest_of l actors round) (drop-cons turns line d lt)
    ∙ ap (λ l. listed l actors round) (sym (drop-set turns line ((slice_index_or turns line d).0, (slice_index_or turns line d).1 - 1) lt ∙ ap (λ k. ((slice_index_or turns line d).0, (slice_index_or turns line d).1 - 1) ∷ drop k turns) next))
