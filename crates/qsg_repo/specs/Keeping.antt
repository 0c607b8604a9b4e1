-- the pages of a log that may still be needed
use Rattle.std.specs.Prelude.{◌≡◌, ℕ, ◌≤◌, true, List, [], ◌∷◌, Option, Some, None, map, filter, fold, min, option_map}
use Rattle.std.specs.List.{filter_map, flat_map}
use Rattle.qsg_num.specs.declared.seats.Member.{Member}
use Rattle.qsg_num.specs.declared.seats.StructNo.{StructNo}
use Rattle.qsg_num.specs.declared.seats.StructNo.TheVariants.{One, Two, Three, Four}
use Rattle.qsg_num.specs.declared.ids.PageNo.{PageNo}
use Rattle.qsg_repo.specs.declared.notes.Note.{Note}
use Rattle.qsg_repo.specs.declared.needs.Holds.{Holds}
use Rattle.qsg_repo.specs.Tables.{Repository, low_in, low_of, note_at, recovers}

-- the least of a number and others
abbrev pub least : ℕ → List ℕ → ℕ
least first others = fold min first others

-- what RECOVER of a structure would read of the member's log: from its note's low page on, or all without a note
abbrev pub noted_page : Member → Option Note → ℕ
noted_page m None = 0
noted_page m (Some note) = (low_in m note.low).number

abbrev pub structures : List StructNo
structures = One ∷ Two ∷ Three ∷ Four ∷ []

abbrev pub noted_pages : Member → Repository → List ℕ
noted_pages m repo = map (λ s. noted_page m (note_at s repo)) (filter (λ s. recovers s repo) structures)

-- the page of the member in each hold
abbrev pub held_page : Member → Option (List PageNo) → Option ℕ
held_page m hold = option_map (λ lows. (low_in m lows).number) hold

abbrev pub held_pages : Member → List (Option (List PageNo)) → List ℕ
held_pages m holds = filter_map (held_page m) holds

abbrev pub pages_held : Member → Holds → List ℕ
pages_held m row = held_pages m row.tasks

-- the first page of the member's log that may still be needed: the least of its low page, its page in the note of
-- each structure that recovers, and its page in each hold
abbrev pub keep : Member → Repository → ℕ
keep m repo = least (least (low_of m repo).number (noted_pages m repo)) (flat_map (pages_held m) repo.holds)

-- a page is at or before the member's pages in a hold, in those of some tasks, in those of some members
abbrev pub IsFromHold : Member → ℕ → Option (List PageNo) → Type 0
IsFromHold m page None = Unit {0}
IsFromHold m page (Some lows) = page ≤ (low_in m lows).number

abbrev pub IsFromTasks : Member → ℕ → List (Option (List PageNo)) → Type 0
IsFromTasks m page [] = Unit {0}
IsFromTasks m page (hold ∷ holds) = IsFromHold m page hold × IsFromTasks m page holds

abbrev pub IsFromMembers : Member → ℕ → List Holds → Type 0
IsFromMembers m page [] = Unit {0}
IsFromMembers m page (row ∷ rows) = IsFromTasks m page row.tasks × IsFromMembers m page rows

-- a page is at or before all that may still be needed of a member's log
pub record IsBeforeAllNeeded (m : Member) (page : ℕ) (repo : Repository) : Type 0 where
  pub low : page ≤ (low_of m repo).number
  pub notes : (s : StructNo) → recovers s repo ≡ true → page ≤ noted_page m (note_at s repo)
  pub holds : IsFromMembers m page repo.holds
