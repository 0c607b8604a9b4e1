-- trying the steps of actors in turn
use Rattle.std.proofs.Common.{◌≡◌, ℕ, ◌+◌, ◌<◌, Bool, true, false, List, [], ◌∷◌, ◌++◌, length, take, drop, get_or, suc, sym, ap, ap₂, subst, ◌∙◌, arith, append_assoc}
use Rattle.std.proofs.lemmas.List.{take_more, take-append-drop}
use Rattle.std.proofs.Math.Seq.{drop-cons}
use Rattle.qsg_num.specs.declared.ids.Actor.{Actor}
use Rattle.qsg_step.specs.declared.step.Step.{Step}
use Rattle.qsg_step.specs.declared.step.Step.TheVariants.{Moved, Waits, Done}
use Rattle.qsg_step.specs.States.{State}
use Rattle.qsg_step.specs.Steps.{IsStep}
use Rattle.qsg_drive.specs.Paces.{IsPaced}
use Rattle.qsg_drive.specs.Runs.{IsStill, AreStill, place_of, round_from}
use Rattle.qsg_drive.specs.Tries.{moves, AreTried, IsFirstStep, IsTriedPace}
use Rattle.qsg_drive.proofs.Stays.{no_move, stays, is_still, has_moved}

pub both_still : (xs ys : List Actor) (s : State) → AreStill xs s → AreStill ys s → AreStill (xs ++ ys) s
both_still [] ys s a b = b
both_still (x ∷ xs) ys s a b = (a.0, both_still xs ys s a.1 b)

-- one actor more doesn't move
pub more_still : (actors : List Actor) (i : ℕ) (d : Actor) (s now : State) (step : Step) (r : State) → i < length actors → now ≡ s
    → AreStill (take i actors) s → moves step ≡ false → IsStep (get_or actors i d) now step r → AreStill (take (i + 1) actors) s
more_still actors i d s now step r lt same still quiet made =
    let here : IsStill (get_or actors i d) s = subst (λ (x : State). IsStill (get_or actors i d) x) same (is_still (get_or actors i d) now step r quiet made) in
    rw (take_more actors i d lt) (both_still (take i actors) (get_or actors i d ∷ []) s still (here, tt))

pub same_state : (who : Actor) (s now : State) (step : Step) (r : State) → now ≡ s → moves step ≡ false → IsStep who now step r → r ≡ s
same_state who s now step r same quiet made = stays who now step r (no_move step quiet) made ∙ same

parts_at : (actors : List Actor) (i : ℕ) (d : Actor) → i < length actors → actors ≡ take i actors ++ get_or actors i d ∷ drop (suc i) actors
parts_at actors i d lt =
    sym (take-append-drop i actors) ∙ ap (λ (rest : List Actor). take i actors ++ rest) (drop-cons actors i d lt)

pub first_step : (actors : List Actor) (i : ℕ) (d : Actor) (s now : State) (step : Step) (r : State) → i < length actors → now ≡ s
    → AreStill (take i actors) s → moves step ≡ true → IsStep (get_or actors i d) now step r → IsFirstStep actors s r
first_step actors i d s now step r lt same still quick made = record {
  who = get_or actors i d;
  first = record { front = take i actors; back = drop (suc i) actors; parts = parts_at actors i d lt; still = still };
  made = subst (λ (x : State). IsStep (get_or actors i d) x Moved r) same (has_moved (get_or actors i d) now step r quick made);
}

-- the numbers of steps that may still come
pub quick_pace : (step : Step) (first before now : ℕ) → before ≡ first → moves step ≡ true → IsPaced step before now → now < first
quick_pace Moved first before now same quick paced = omega arith
quick_pace (Waits cause) first before now same quick paced = absurd cc
quick_pace Done first before now same quick paced = absurd cc

pub quiet_pace : (step : Step) (first before now : ℕ) → before ≡ first → moves step ≡ false → IsPaced step before now → now ≡ first
quiet_pace Moved first before now same quiet paced = absurd cc
quiet_pace (Waits cause) first before now same quiet paced = omega arith
quiet_pace Done first before now same quiet paced = omega arith

-- trying some actors, and then others
pub tried_first : (xs ys : List Actor) (s r : State) → IsFirstStep xs s r → IsFirstStep (xs ++ ys) s r
tried_first xs ys s r h = record {
  who = h.who;
  first = record {
    front = h.first.front;
    back = h.first.back ++ ys;
    parts = ap (λ (zs : List Actor). zs ++ ys) h.first.parts ∙ append_assoc h.first.front (h.who ∷ h.first.back) ys;
    still = h.first.still;
  };
  made = h.made;
}

pub tried_then : (moved : Bool) (xs ys : List Actor) (s now r : State) → now ≡ s → AreStill xs s → AreTried moved ys now r → AreTried moved (xs ++ ys) s r
tried_then true xs ys s now r same still h = record {
  who = h.who;
  first = record {
    front = xs ++ h.first.front;
    back = h.first.back;
    parts = ap (λ (zs : List Actor). xs ++ zs) h.first.parts ∙ sym (append_assoc xs h.first.front (h.who ∷ h.first.back));
    still = both_still xs h.first.front s still (subst (λ (x : State). AreStill h.first.front x) same h.first.still);
  };
  made = subst (λ (x : State). IsStep h.who x Moved r) same h.made;
}
tried_then false xs ys s now r same still h = (h.0 ∙ same, both_still xs ys s still (subst (λ (x : State). AreStill ys x) same h.1))

pub later_pace : (moved : Bool) (first before now : ℕ) → before ≡ first → IsTriedPace moved before now → IsTriedPace moved first now
later_pace true first before now same h = omega arith
later_pace false first before now same h = omega arith

pub still_of_false : (moved : Bool) (actors : List Actor) (s r : State) → moved ≡ false → AreTried moved actors s r → (r ≡ s) × AreStill actors s
still_of_false true actors s r e h = absurd cc
still_of_false false actors s r e h = h

pub first_of_true : (moved : Bool) (actors : List Actor) (s r : State) → moved ≡ true → AreTried moved actors s r → IsFirstStep actors s r
first_of_true true actors s r e h = h
first_of_true false actors s r e h = absurd cc

pub around : (actors : List Actor) (from : Actor) (place : ℕ) (front back : List Actor) → place ≡ place_of from actors → front ≡ take place actors → back ≡ drop place actors
    → back ++ front ≡ round_from from actors
around actors from place front back at first then =
    ap₂ (λ (x y : List Actor). x ++ y) (then ∙ ap (λ (p : ℕ). drop p actors) at) (first ∙ ap (λ (p : ℕ). take p actors) at)
