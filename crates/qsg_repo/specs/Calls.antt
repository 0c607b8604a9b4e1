-- what each call makes of the repository
use Rattle.std.specs.Prelude.{ℕ, ◌+◌, Bool, false, nat_lt, List, [], ◌∷◌, ◌++◌, Option, Some, None, if◌then◌else◌, map, max, count_by, replicate}
use Rattle.std.specs.List.{list_any}
use Rattle.qsg_num.specs.declared.seats.Member.{Member}
use Rattle.qsg_num.specs.declared.seats.StructNo.{StructNo}
use Rattle.qsg_num.specs.declared.seats.TaskNo.{TaskNo}
use Rattle.qsg_num.specs.declared.ids.PageNo.{PageNo}
use Rattle.qsg_num.specs.declared.ids.Incarnation.{Incarnation}
use Rattle.qsg_num.specs.declared.ids.UnitName.{UnitName}
use Rattle.qsg_num.specs.Ids.{id_at, epoch_of}
use Rattle.qsg_repo.specs.declared.notes.Note.{Note}
use Rattle.qsg_repo.specs.declared.lives.Fate.TheVariants.{Up}
use Rattle.qsg_repo.specs.Lives.{is_member, is_failed_of, is_failed_life, failed_life, resolved_life, stopped_life}
use Rattle.qsg_repo.specs.Statuses.{used_smds, dirty_smds, done_smds, stopped_smds}
use Rattle.qsg_repo.specs.Tables.{Repository, page_at, no_holds, new_data_sets, low_of, note_at, smds_of, smds_at, with_low, with_note, with_hold, without_holds, with_data_sets, with_smds}

abbrev pub new_repository : (members structures : ℕ) → List Bool → ℕ → Repository
new_repository members structures recover starts = record {
  members = members;
  structures = structures;
  recover = recover;
  starts = starts;
  lows = replicate 8 (page_at 0);
  notes = replicate 4 None;
  lives = [];
  holds = replicate 8 no_holds;
  smds = replicate 4 new_data_sets;
}

-- a member that has a failed and unresolved incarnation publishes nothing, since that one may need earlier pages
abbrev pub has_failed : Member → Repository → Bool
has_failed m repo = list_any (is_failed_of m) repo.lives

abbrev pub later_page : PageNo → PageNo → PageNo
later_page a b = page_at (max a.number b.number)

abbrev pub published : Member → PageNo → Repository → Repository
published m page repo = if has_failed m repo then repo else with_low m (later_page (low_of m repo) page) repo

-- the kept note has a larger top
abbrev pub is_older_than : Option Note → Note → Bool
is_older_than None note = false
is_older_than (Some kept) note = nat_lt note.top.number kept.top.number

-- the task's hold goes whether the note is kept or not
abbrev pub noted : Member → TaskNo → StructNo → Note → Repository → Repository
noted m t s note repo = if is_older_than (note_at s repo) note then with_hold m t None repo else with_note s note (with_hold m t None repo)

abbrev pub noted_epoch : Option Note → ℕ
noted_epoch None = 0
noted_epoch (Some kept) = epoch_of kept.top

-- the epoch that a purge gives: above the structure's and that of the kept note's top
abbrev pub purge_epoch : StructNo → ℕ → Repository → ℕ
purge_epoch s epoch repo = 1 + max epoch (noted_epoch (note_at s repo))

abbrev pub purged : StructNo → ℕ → UnitName → Repository → Repository
purged s epoch backup repo = with_note s (record {
  backup = backup;
  from = page_at 0;
  until = page_at 0;
  top = id_at (purge_epoch s epoch repo) 0;
  low = repo.lows;
}) repo

-- a crash drops the holds of its member
abbrev pub crashed : Member → Incarnation → Repository → Repository
crashed m i repo = record (without_holds m repo) { lives = map (failed_life m i) repo.lives }

abbrev pub is_unresolved : Member → Incarnation → Repository → Bool
is_unresolved m i repo = list_any (is_failed_life m i) repo.lives

abbrev pub resolved : Member → Incarnation → Repository → Repository
resolved m i repo = record repo { lives = map (resolved_life m i) repo.lives }

-- incarnations of a member are numbered from 1
abbrev pub next_incarnation : Member → Repository → Incarnation
next_incarnation m repo = record { number = 1 + count_by (is_member m) repo.lives }

abbrev pub started : Member → Repository → Repository
started m repo = record repo { lives = repo.lives ++ record { member = m; incarnation = next_incarnation m repo; fate = Up } ∷ [] }

abbrev pub stopped : Member → Repository → Repository
stopped m repo = record repo { lives = map (stopped_life m) repo.lives }

abbrev pub smds_used : Member → StructNo → Repository → Repository
smds_used m s repo = with_smds m s (used_smds (smds_at m s repo)) repo

abbrev pub smds_dirty : StructNo → Repository → Repository
smds_dirty s repo = with_data_sets s (map dirty_smds (smds_of s repo)) repo

-- the task's hold goes
abbrev pub smds_done : Member → TaskNo → StructNo → Bool → Repository → Repository
smds_done m t s recovered repo = with_data_sets s (map (done_smds recovered) (smds_of s repo)) (with_hold m t None repo)

abbrev pub smds_stopped : Member → StructNo → ℕ → Repository → Repository
smds_stopped m s used repo = with_smds m s (stopped_smds used (smds_at m s repo)) repo

abbrev pub held : Member → TaskNo → Repository → Repository
held m t repo = with_hold m t (Some repo.lows) repo

-- without a note everything is needed
abbrev pub lows_of_note : Option Note → List PageNo
lows_of_note None = replicate 8 (page_at 0)
lows_of_note (Some note) = note.low

abbrev pub note_held : Member → TaskNo → StructNo → Repository → Repository
note_held m t s repo = with_hold m t (Some (lows_of_note (note_at s repo))) repo

abbrev pub released : Member → TaskNo → Repository → Repository
released m t repo = with_hold m t None repo
