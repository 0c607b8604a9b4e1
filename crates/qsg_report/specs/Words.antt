-- texts with names and sizes in them
use Rattle.std.specs.Prelude.{ℕ, List, ◌++◌, map, codes, Option, Some, None}
use Rattle.std.specs.Fmt.{decimal}
use Rattle.qsg_answers.specs.Answers.{line_end}
use Rattle.qsg_answers.specs.Labels.{Labelling}
use Rattle.qsg_report.specs.declared.shown.Shown.{Shown}
use Rattle.qsg_report.specs.declared.shown.ShownMember.{ShownMember}
use Rattle.qsg_report.specs.declared.shown.ShownStructure.{ShownStructure}

abbrev pub member_names : List ShownMember → List (List ℕ)
member_names members = map (λ (m : ShownMember). m.name) members

abbrev pub structure_names : List ShownStructure → List (List ℕ)
structure_names structures = map (λ (s : ShownStructure). s.name) structures

-- members and structures have the names that are shown
abbrev pub labels_of : Shown → Labelling
labels_of s = record { members = member_names s.members.items; structures = structure_names s.structures.items }

-- so many of so many, at the end of a line
abbrev pub of_text : ℕ → ℕ → List ℕ
of_text some all = decimal some ++ codes " of " ++ decimal all ++ line_end

-- a number, or a dash where there is none
abbrev pub number_or_dash : Option ℕ → List ℕ
number_or_dash None = codes "-"
number_or_dash (Some n) = decimal n
