-- what a step of a STOP leaves as it was
use Rattle.std.proofs.Common.{◌≡◌, ◌-◌, Bool, true, false, cond, List, [], ◌∷◌, length, map, filter, refl, sym, ap, subst, ◌∙◌, inl, inr, true≢false, arith}
use Rattle.std.specs.Prelude.{◌&&◌, slice_index_or, slice_set}
use Rattle.std.proofs.lemmas.Bool.{cases_lt, ne_eqb, eqb-true}
use Rattle.std.proofs.lemmas.List.{get_or-set_same, get_or-set_other}
use Rattle.qsg_num.specs.declared.seats.Member.{Member}
use Rattle.qsg_num.specs.declared.seats.StructNo.{StructNo}
use Rattle.qsg_num.specs.Seats.{member_number, structure_number}
use Rattle.qsg_num.proofs.Ranges.{member-bounds, structure-bounds}
use Rattle.qsg_group.proofs.Tables.{cases_structure}
use Rattle.qsg_lists.specs.declared.parts.Connection.{Connection}
use Rattle.qsg_repo.specs.declared.lives.Life.{Life}
use Rattle.qsg_repo.specs.declared.statuses.DataSets.{DataSets}
use Rattle.qsg_repo.specs.declared.statuses.Smds.{Smds}
use Rattle.qsg_repo.specs.Lives.{is_up, is_member, stopped_life}
use Rattle.qsg_repo.specs.Statuses.{new_smds}
use Rattle.qsg_repo.specs.Tables.{Repository, member_place, structure_place, smds_of, smds_at, with_smds}
use Rattle.qsg_space.proofs.Marking.{set-past}
use Rattle.qsg_datasets.specs.Kept.{KeptSet, sets_of, set_in, with_set_for, emptied}
use Rattle.qsg_datasets.proofs.Lookups.{set_of_member}
use Rattle.qsg_manager.proofs.Grouping.{manager_other}
use Rattle.qsg_logs.specs.Cuts.{restarted}
use Rattle.qsg_logs.specs.Kept.{no_log, log_in}
use Rattle.qsg_parts.specs.Owned.{Owned}
use Rattle.qsg_stop.specs.declared.phases.Phase.{Phase}
use Rattle.qsg_stop.specs.declared.phases.Phase.TheVariants.{Connect, Save, Tell, Last}
use Rattle.qsg_stop.specs.declared.phases.SaveCall.{SaveCall}
use Rattle.qsg_stop.specs.declared.phases.StopTurn.{StopTurn}
use Rattle.qsg_stop.specs.declared.work.StopWork.{StopWork}
use Rattle.qsg_stop.specs.Steps.{Next, begun, after_connect, HasSaved, after_tell, after_last, NextAt, NextStop}
use Rattle.qsg_stop.specs.Leaving.{IsOther, LeavesRepository, LeavesRest, LeavesOthers, calls_device, calls_repository, LeavesDevices}
use Rattle.qsg_stop.proofs.Sets.{emptied_contents}

-- ---- the repository

same_repository : (m : Member) (repo : Repository) → LeavesRepository m repo repo
same_repository m repo = record { rest = refl; lives = λ k other. refl; smds = λ k s other. refl }

-- what a member's stop makes of incarnations isn't told of those of the others
others_lives : (m k : Member) → IsOther m k → (lives : List Life) → filter (is_member k) (map (stopped_life m) lives) ≡ filter (is_member k) lives
others_lives m k other [] = refl
others_lives m k other (l ∷ lives) = by (is_member m l) refl (others_lives m k other lives)
  where
    stays : is_member m l ≡ true → is_member k l ≡ false
    stays is = ne_eqb (member_number l.member) (member_number k) (λ same. other (sym same ∙ eqb-true (member_number l.member) (member_number m) is))

    changed : (b : Bool) → is_member k (cond b (record l { fate = Rattle.qsg_repo.specs.declared.lives.Fate.TheVariants.Stopped }) l) ≡ is_member k l
    changed true = refl
    changed false = refl

    both : (x : Life) (b c : Bool) → b ≡ false → c ≡ false → filter (is_member k) (map (stopped_life m) lives) ≡ filter (is_member k) lives
        → cond b (x ∷ filter (is_member k) (map (stopped_life m) lives)) (filter (is_member k) (map (stopped_life m) lives)) ≡ cond c (l ∷ filter (is_member k) lives) (filter (is_member k) lives)
    both x b c left right rest = rw (left, right) rest

    by : (b : Bool) → is_member m l ≡ b → filter (is_member k) (map (stopped_life m) lives) ≡ filter (is_member k) lives
        → filter (is_member k) (cond (b && is_up l.fate) (record l { fate = Rattle.qsg_repo.specs.declared.lives.Fate.TheVariants.Stopped }) l ∷ map (stopped_life m) lives) ≡ filter (is_member k) (l ∷ lives)
    by true is rest = both (cond (is_up l.fate) (record l { fate = Rattle.qsg_repo.specs.declared.lives.Fate.TheVariants.Stopped }) l) (is_member k (cond (is_up l.fate) (record l { fate = Rattle.qsg_repo.specs.declared.lives.Fate.TheVariants.Stopped }) l)) (is_member k l) (changed (is_up l.fate) ∙ stays is) (stays is) rest
    by false is rest = ap (λ (ls : List Life). cond (is_member k l) (l ∷ ls) ls) rest

-- nor is what a member's data set has become told of those of the others
others_smds : (m k : Member) (s z : StructNo) (x : Smds) (repo : Repository) → IsOther m k → smds_at k z (with_smds m s x repo) ≡ smds_at k z repo
others_smds m k s z x repo other = elim (cases_structure z s) [
  | inl same ↦ subst (λ (y : StructNo). smds_at k y (with_smds m s x repo) ≡ smds_at k y repo) (sym same) here
  | inr differ ↦ ap (λ (d : DataSets). slice_index_or d.members (member_place k) new_smds) (get_or-set_other repo.smds (structure_place s) (structure_place z) row (record { members = [] }) (apart differ))
]
  where
    row : DataSets
    row = record { members = slice_set (smds_of s repo) (member_place m) x }

    apart : (structure_number z ≡ structure_number s → ⊥) → structure_place z ≡ structure_place s → ⊥
    apart differ same = let one = structure-bounds z in let two = structure-bounds s in differ (omega arith)

    places : member_place k ≡ member_place m → ⊥
    places same = let one = member-bounds k in let two = member-bounds m in other (omega arith)

    here : smds_at k s (with_smds m s x repo) ≡ smds_at k s repo
    here = elim (cases_lt (structure_place s) (length repo.smds)) [
      | inl within ↦ ap (λ (d : DataSets). slice_index_or d.members (member_place k) new_smds) (get_or-set_same repo.smds (structure_place s) row (record { members = [] }) within)
          ∙ get_or-set_other (smds_of s repo) (member_place m) (member_place k) x new_smds places
      | inr past ↦ ap (λ (all : List DataSets). slice_index_or (slice_index_or all (structure_place s) (record { members = [] })).members (member_place k) new_smds) (set-past repo.smds (structure_place s) row past)
    ]

-- ---- a step

all_same : (m : Member) (p : Owned) → LeavesRest m p p
all_same m p = record { parts = refl; sets = λ k s other. refl; repo = same_repository m p.repo }

parts_are : (next : Next) (turn : StopTurn) (v : StopWork) (q : Owned) → record { turn = turn; work = v; parts = q } ≡ next → q ≡ next.parts
parts_are next turn v q is = ap (λ (n : Next). n.parts) is

save_rest : (c : Connection) (call : SaveCall) (w : StopWork) (p : Owned) (turn : StopTurn) (v : StopWork) (q : Owned) → HasSaved c call w p turn v q → LeavesRest w.member p q
save_rest c call w p turn v q has = subst (LeavesRest w.member p) (sym has.others) (record {
  parts = refl;
  sets = λ k s other. set_of_member w.member k s (with_set_for c.structure set (sets_of w.member p.datasets)) p.datasets other;
  repo = same_repository w.member p.repo;
})
  where
    set : KeptSet
    set = set_in w.member c.structure q.datasets

tell_rest : (c : Connection) (w : StopWork) (p : Owned) → LeavesRest w.member p (after_tell c w p).parts
tell_rest c w p = record {
  parts = refl;
  sets = λ k s other. refl;
  repo = record { rest = refl; lives = λ k other. refl; smds = λ k s other. others_smds w.member k c.structure s _ p.repo other };
}

last_rest : (w : StopWork) (p : Owned) → LeavesRest w.member p (after_last w p).parts
last_rest w p = record {
  parts = refl;
  sets = λ k s other. set_of_member w.member k s (map emptied (sets_of w.member p.datasets)) p.datasets other;
  repo = record { rest = refl; lives = λ k other. others_lives w.member k other p.repo.lives; smds = λ k s other. refl };
}

rest_at : (phase : Phase) (w : StopWork) (p : Owned) (turn : StopTurn) (v : StopWork) (q : Owned) → NextAt phase w p turn v q → LeavesRest w.member p q
rest_at (Connect s) w p turn v q next = subst (LeavesRest w.member p) (sym (parts_are (after_connect s w p) turn v q next)) (all_same w.member p)
rest_at (Save c call) w p turn v q next = save_rest c call w p turn v q next
rest_at (Tell c) w p turn v q next = subst (LeavesRest w.member p) (sym (parts_are (after_tell c w p) turn v q next)) (tell_rest c w p)
rest_at Last w p turn v q next = subst (LeavesRest w.member p) (sym (parts_are (after_last w p) turn v q next)) (last_rest w p)

pub rest_left : (w : StopWork) (p : Owned) (turn : StopTurn) (v : StopWork) (q : Owned) → NextStop w p turn v q → LeavesRest w.member p q
rest_left w p turn v q next = rest_at w.phase w p turn v q next

-- ---- the begin

pub others_left : (m : Member) (p : Owned) → LeavesOthers m p (begun m p)
others_left m p = record {
  parts = refl;
  managers = λ k other. manager_other m k _ p.managers other;
  logs = λ k other. get_or-set_other p.logs (member_number m - 1) (member_number k - 1) (restarted (log_in m p.logs).writer.next (log_in m p.logs)) no_log (apart k other);
}
  where
    apart : (k : Member) → IsOther m k → member_number k - 1 ≡ member_number m - 1 → ⊥
    apart k other same = let one = member-bounds k in let two = member-bounds m in other (omega arith)

-- ---- the one call

devices_at : (phase : Phase) (w : StopWork) (p : Owned) (turn : StopTurn) (v : StopWork) (q : Owned) → NextAt phase w p turn v q → calls_device phase ≡ false → LeavesDevices p q
devices_at (Connect s) w p turn v q next none = λ k x. ap (λ (y : Owned). (set_in k x y.datasets).contents) (parts_are (after_connect s w p) turn v q next)
devices_at (Save c call) w p turn v q next none = absurd (true≢false none)
devices_at (Tell c) w p turn v q next none = λ k x. ap (λ (y : Owned). (set_in k x y.datasets).contents) (parts_are (after_tell c w p) turn v q next)
devices_at Last w p turn v q next none = λ k x. ap (λ (y : Owned). (set_in k x y.datasets).contents) (parts_are (after_last w p) turn v q next) ∙ emptied_contents w.member k x p.datasets

pub devices_left : (w : StopWork) (p : Owned) (turn : StopTurn) (v : StopWork) (q : Owned) → NextStop w p turn v q → calls_device w.phase ≡ false → LeavesDevices p q
devices_left w p turn v q next none = devices_at w.phase w p turn v q next none

repository_at : (phase : Phase) (w : StopWork) (p : Owned) (turn : StopTurn) (v : StopWork) (q : Owned) → NextAt phase w p turn v q → calls_repository phase ≡ false → q.repo ≡ p.repo
repository_at (Connect s) w p turn v q next none = ap (λ (y : Owned). y.repo) (parts_are (after_connect s w p) turn v q next)
repository_at (Save c call) w p turn v q next none = ap (λ (y : Owned). y.repo) next.others
repository_at (Tell c) w p turn v q next none = absurd (true≢false none)
repository_at Last w p turn v q next none = absurd (true≢false none)

pub repository_left : (w : StopWork) (p : Owned) (turn : StopTurn) (v : StopWork) (q : Owned) → NextStop w p turn v q → calls_repository w.phase ≡ false → q.repo ≡ p.repo
repository_left w p turn v q next none = repository_at w.phase w p turn v q next none
