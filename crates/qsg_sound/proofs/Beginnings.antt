-- how a START goes on, and how it ends
use Rattle.std.proofs.Common.{◌≡◌, inl, inr, ℕ, ◌≤◌, Bool, true, false, List, Option, Some, None, Result, Ok, Err, refl, sym, ap, subst, ◌∙◌, arith, true≢false}
use Rattle.std.specs.Prelude.{◌==◌, if◌then◌else◌}
use Rattle.std.proofs.lemmas.Bool.{false≢true}
use Rattle.qsg_num.specs.declared.ids.Incarnation.{Incarnation}
use Rattle.qsg_num.specs.declared.ids.PageNo.{PageNo}
use Rattle.qsg_repo.specs.Tables.{low_of}
use Rattle.qsg_manager.specs.Storage.{manager_in}
use Rattle.qsg_parts.specs.Owned.{Owned}
use Rattle.qsg_walk.specs.declared.walk.KeptPage.{KeptPage}
use Rattle.qsg_walk.specs.Walks.{Walk, after_read, FeedsKept}
use Rattle.qsg_start.specs.declared.phases.NoMemory.{NoMemory}
use Rattle.qsg_start.specs.declared.phases.StartTurn.{StartTurn}
use Rattle.qsg_start.specs.declared.phases.StartTurn.TheVariants as starts
use Rattle.qsg_start.specs.declared.phases.Phase.{Phase}
use Rattle.qsg_start.specs.declared.phases.Phase.TheVariants as starting
use Rattle.qsg_start.specs.Following.{walks}
use Rattle.qsg_start.specs.Steps.{Next, checked, after_low, first_walk, walking, with_walk, started, HasActed, GoesOn, Acts, NextAt, NextStart}
use Rattle.qsg_start.specs.Works.{Work}
use Rattle.qsg_sound.specs.Systems.{has_checked}

-- how a step ended, as a word that tells turns apart
abbrev is_more : StartTurn → Bool
is_more starts.More = true
is_more starts.Up = false
is_more (starts.Started incarnation) = false
is_more (starts.Fault why) = false

abbrev is_started : StartTurn → Bool
is_started starts.More = false
is_started starts.Up = false
is_started (starts.Started incarnation) = true
is_started (starts.Fault why) = false

abbrev more_in : Result StartTurn NoMemory → Bool
more_in (Ok turn) = is_more turn
more_in (Err e) = false

abbrev started_in : Result StartTurn NoMemory → Bool
started_in (Ok turn) = is_started turn
started_in (Err e) = false

-- ---- a START that goes on

-- its walk begins at the low page, and comes to later ones; a member that passes the check is down
pub record GoesFurther (w : Work) (p : Owned) (v : Work) (q : Owned) : Type 0 where
  pub member : v.member ≡ w.member
  pub checked : has_checked v.phase ≡ true
  pub low : walks v.phase ≡ true → (walks w.phase ≡ true → (low_of w.member p.repo).number ≤ w.walk.next) → (low_of w.member p.repo).number ≤ v.walk.next
  pub begun : walks w.phase ≡ false → walks v.phase ≡ true → (v.walk ≡ first_walk w.member p) × (q ≡ p)
  pub down : has_checked w.phase ≡ false → (manager_in w.member p.managers).up ≡ false

walking_checked : (walk : Walk) → has_checked (walking walk) ≡ true
walking_checked walk = by (walk.left == 0)
  where
    by : (b : Bool) → has_checked (if b then starting.Begin (record { number = walk.next }) else starting.Read) ≡ true
    by true = refl
    by false = refl

checked_goes : (b : Bool) (w : Work) (p : Owned) (v : Work) (q : Owned) → (manager_in w.member p.managers).up ≡ b → record { turn = starts.More; work = v; parts = q } ≡ checked b w p → GoesFurther w p v q
checked_goes true w p v q up is = absurd (true≢false (ap (λ (n : Next). is_more n.turn) is))
checked_goes false w p v q up is =
    let work : v ≡ record w { phase = starting.Low } = ap (λ (n : Next). n.work) is in
    record {
      member = ap (λ (x : Work). x.member) work;
      checked = ap (λ (x : Work). has_checked x.phase) work;
      low = λ walking lower. absurd (false≢true (sym (ap (λ (x : Work). walks x.phase) work) ∙ walking));
      begun = λ before walking. absurd (false≢true (sym (ap (λ (x : Work). walks x.phase) work) ∙ walking));
      down = λ unchecked. up;
    }

low_goes : (w : Work) (p : Owned) (v : Work) (q : Owned) → has_checked w.phase ≡ true → record { turn = starts.More; work = v; parts = q } ≡ after_low w p → GoesFurther w p v q
low_goes w p v q passed is =
    let work : v ≡ with_walk (first_walk w.member p) w = ap (λ (n : Next). n.work) is in
    let next : v.walk.next ≡ (low_of w.member p.repo).number = ap (λ (x : Work). x.walk.next) work in
    record {
      member = ap (λ (x : Work). x.member) work;
      checked = ap (λ (x : Work). has_checked x.phase) work ∙ walking_checked (first_walk w.member p);
      low = λ walking lower. omega (arith, next);
      begun = λ before walking. (ap (λ (x : Work). x.walk) work, ap (λ (n : Next). n.parts) is);
      down = λ unchecked. absurd (true≢false (sym passed ∙ unchecked));
    }

fed_next : (kept : Option KeptPage) (old new : Walk) (records : List _) → FeedsKept kept old records new → new.next ≡ old.next
fed_next None old new records feeds = ap (λ (x : Walk). x.next) feeds.1
fed_next (Some kept) old new records feeds = ap (λ (x : Walk). x.next) feeds.rest

read_later : (found : Option (List ℕ)) (walk : Walk) → walk.next ≤ (after_read found walk).next
read_later None walk = omega arith
read_later (Some body) walk = omega arith

found_goes : (w : Work) (walk : Walk) (found : Option (List ℕ)) (p : Owned) (v : Work) (q : Owned) → walks w.phase ≡ true → has_checked w.phase ≡ true → walk.next ≡ w.walk.next → v ≡ with_walk (after_read found walk) (record w { walk = walk }) → GoesFurther w p v q
found_goes w walk found p v q walked passed next work =
    let same : v.walk.next ≡ (after_read found walk).next = ap (λ (x : Work). x.walk.next) work in
    record {
      member = ap (λ (x : Work). x.member) work;
      checked = ap (λ (x : Work). has_checked x.phase) work ∙ walking_checked (after_read found walk);
      low = λ walking lower. let before = lower walked in let later = read_later found walk in omega (arith, before, later, next, same);
      begun = λ before walking. absurd (true≢false (sym walked ∙ before));
      down = λ unchecked. absurd (true≢false (sym passed ∙ unchecked));
    }

reads_goes : (w : Work) (walk : Walk) (p : Owned) (v : Work) (q : Owned) → walks w.phase ≡ true → has_checked w.phase ≡ true → walk.next ≡ w.walk.next → Acts starting.Read (record w { walk = walk }) p (Ok starts.More) v q → GoesFurther w p v q
reads_goes w walk p v q walked passed next (has, inl failed) = absurd (true≢false (ap is_more failed.turn_is))
reads_goes w walk p v q walked passed next (has, inr found) = found_goes w walk found.found p v q walked passed next found.work_is

acted_goes : (at : Phase) (w : Work) (p : Owned) (v : Work) (q : Owned) → w.phase ≡ at → HasActed w p (Ok starts.More) v q → walks at ≡ true → GoesFurther w p v q
acted_goes starting.Check w p v q is acted walked = absurd (false≢true walked)
acted_goes starting.Low w p v q is acted walked = absurd (false≢true walked)
acted_goes starting.Read w p v q is acted walked =
    reads_goes w acted.walk p v q (ap walks is) (ap has_checked is) (fed_next w.walk.kept w.walk acted.walk acted.records acted.fed) (subst (λ (x : Phase). Acts x (record w { walk = acted.walk }) p (Ok starts.More) v q) is acted.acts)
acted_goes (starting.Begin page) w p v q is acted walked =
    let made = subst (λ (x : Phase). Acts x (record w { walk = acted.walk }) p (Ok starts.More) v q) is acted.acts in
    absurd (true≢false (ap (λ (n : Next). is_more n.turn) made))

on_goes : (at : Phase) (w : Work) (p : Owned) (v : Work) (q : Owned) → w.phase ≡ at → walks at ≡ true → GoesOn w p (Ok starts.More) v q → GoesFurther w p v q
on_goes at w p v q is walked (inl given) = absurd (true≢false (ap more_in given.turn_is))
on_goes at w p v q is walked (inr (inl lacks)) = absurd (false≢true lacks.refused)
on_goes at w p v q is walked (inr (inr acted)) = acted_goes at w p v q is acted walked

goes_at : (at : Phase) (w : Work) (p : Owned) (v : Work) (q : Owned) → w.phase ≡ at → NextAt at w p (Ok starts.More) v q → GoesFurther w p v q
goes_at starting.Check w p v q is next = checked_goes (manager_in w.member p.managers).up w p v q refl next
goes_at starting.Low w p v q is next = low_goes w p v q (ap has_checked is) next
goes_at starting.Read w p v q is next = on_goes starting.Read w p v q is refl next
goes_at (starting.Begin page) w p v q is next = on_goes (starting.Begin page) w p v q is refl next

pub start_goes : (w : Work) (p : Owned) (v : Work) (q : Owned) → NextStart w p (Ok starts.More) v q → GoesFurther w p v q
start_goes w p v q next = goes_at w.phase w p v q refl next

-- ---- one that brings its member up

pub record HasStarted (w : Work) (p q : Owned) : Type 0 where
  pub page : PageNo
  pub phase : w.phase ≡ starting.Begin page
  pub parts : q ≡ started w.member page p

begun_at : (at : Phase) (i : Incarnation) (w : Work) (p : Owned) (v : Work) (q : Owned) → w.phase ≡ at → HasActed w p (Ok (starts.Started i)) v q → HasStarted w p q
begun_at at i w p v q is acted = by at is (subst (λ (x : Phase). Acts x (record w { walk = acted.walk }) p (Ok (starts.Started i)) v q) is acted.acts)
  where
    none : (up : Bool) → record { turn = starts.Started i; work = v; parts = q } ≡ checked up (record w { walk = acted.walk }) p → HasStarted w p q
    none true made = absurd (true≢false (ap (λ (n : Next). is_started n.turn) made))
    none false made = absurd (true≢false (ap (λ (n : Next). is_started n.turn) made))

    reads : Acts starting.Read (record w { walk = acted.walk }) p (Ok (starts.Started i)) v q → HasStarted w p q
    reads (has, inl failed) = absurd (true≢false (ap is_started failed.turn_is))
    reads (has, inr found) = absurd (true≢false (ap is_started found.turn_is))

    by : (x : Phase) → w.phase ≡ x → Acts x (record w { walk = acted.walk }) p (Ok (starts.Started i)) v q → HasStarted w p q
    by starting.Check at made = none (manager_in w.member p.managers).up made
    by starting.Low at made = absurd (true≢false (ap (λ (n : Next). is_started n.turn) made))
    by starting.Read at made = reads made
    by (starting.Begin page) at made = record { page = page; phase = at; parts = ap (λ (n : Next). n.parts) made }

on_begun : (i : Incarnation) (w : Work) (p : Owned) (v : Work) (q : Owned) → GoesOn w p (Ok (starts.Started i)) v q → HasStarted w p q
on_begun i w p v q (inl given) = absurd (true≢false (ap started_in given.turn_is))
on_begun i w p v q (inr (inl lacks)) = absurd (false≢true lacks.refused)
on_begun i w p v q (inr (inr acted)) = begun_at w.phase i w p v q refl acted

has_started_at : (at : Phase) (i : Incarnation) (w : Work) (p : Owned) (v : Work) (q : Owned) → NextAt at w p (Ok (starts.Started i)) v q → HasStarted w p q
has_started_at starting.Check i w p v q next = by (manager_in w.member p.managers).up next
  where
    by : (up : Bool) → record { turn = starts.Started i; work = v; parts = q } ≡ checked up w p → HasStarted w p q
    by true made = absurd (true≢false (ap (λ (n : Next). is_started n.turn) made))
    by false made = absurd (true≢false (ap (λ (n : Next). is_started n.turn) made))
has_started_at starting.Low i w p v q next = absurd (true≢false (ap (λ (n : Next). is_started n.turn) next))
has_started_at starting.Read i w p v q next = on_begun i w p v q next
has_started_at (starting.Begin page) i w p v q next = on_begun i w p v q next

pub start_begins : (i : Incarnation) (w : Work) (p : Owned) (v : Work) (q : Owned) → NextStart w p (Ok (starts.Started i)) v q → HasStarted w p q
start_begins i w p v q next = has_started_at w.phase i w p v q next
