-- the order of sections
use Rattle.std.specs.Prelude.{◌≡◌, ℕ, ◌+◌, ◌≤◌, List, [], ◌∷◌, ◌++◌}
use Rattle.qsg_num.specs.declared.ids.Actor.{Actor}
use Rattle.qsg_num.specs.declared.ids.Actor.TheVariants.{Operator}
use Rattle.qsg_objects.specs.declared.directives.Directive.{Directive}
use Rattle.qsg_draft.specs.Lookups.{rank_of}

-- The actors of these sections rise from this rank on, so each has one.
abbrev pub AreRisingFrom : ℕ → List (Actor × List Directive) → Type 0
AreRisingFrom n [] = Unit {0}
AreRisingFrom n (s ∷ ss) = (n ≤ rank_of s.0) × AreRisingFrom (rank_of s.0 + 1) ss

abbrev pub AreInOrder : List (Actor × List Directive) → Type 0
AreInOrder sections = AreRisingFrom 0 sections

-- The operator's pair is the last.
pub record IsOperatorLast (works : List (Actor × List Directive)) : Type 0 where
  pub front : List (Actor × List Directive)
  pub directives : List Directive
  pub parts : works ≡ front ++ (Operator, directives) ∷ []
