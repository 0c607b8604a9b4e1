-- a change of one place, and of all others
use Rattle.std.proofs.Common.{◌≡◌, ℕ, cond, Some, refl, sym, ap, subst, ◌∙◌, inl, inr}
use Rattle.std.specs.Prelude.{◌⊎◌}
use Rattle.std.proofs.lemmas.Bool.{cases_eq, eq-eqb, ne_eqb}
use Rattle.std.proofs.lemmas.Option.{same_Some}
use Rattle.qsg_num.specs.declared.seats.Member.{Member}
use Rattle.qsg_num.specs.declared.seats.Member.TheVariants as members
use Rattle.qsg_num.specs.declared.seats.StructNo.{StructNo}
use Rattle.qsg_num.specs.declared.seats.StructNo.TheVariants as structures
use Rattle.qsg_num.specs.declared.seats.TaskNo.{TaskNo}
use Rattle.qsg_num.specs.declared.seats.TaskNo.TheVariants as numbers
use Rattle.qsg_num.specs.Seats.{member_number, member_at, structure_number, structure_at, task_number, task_at}
use Rattle.qsg_group.specs.Tables.{change, at_member, at_structure, at_task}

pub change-same : {I A : Type 0} (number : I → ℕ) (i : I) (f : A → A) (table : I → A) → change number i f table i ≡ f (table i)
change-same number i f table = ap (λ b. cond b (f (table i)) (table i)) (eq-eqb (number i) (number i) refl)

pub change-other : {I A : Type 0} (number : I → ℕ) (i : I) (f : A → A) (table : I → A) (j : I) → (number j ≡ number i → ⊥) → change number i f table j ≡ table j
change-other number i f table j differ = ap (λ b. cond b (f (table j)) (table j)) (ne_eqb (number j) (number i) differ)

-- ---- numbers tell places apart

back_member : (m : Member) → member_at (member_number m) ≡ Some m
back_member members.One = refl
back_member members.Two = refl
back_member members.Three = refl
back_member members.Four = refl
back_member members.Five = refl
back_member members.Six = refl
back_member members.Seven = refl
back_member members.Eight = refl

back_structure : (s : StructNo) → structure_at (structure_number s) ≡ Some s
back_structure structures.One = refl
back_structure structures.Two = refl
back_structure structures.Three = refl
back_structure structures.Four = refl

back_task : (t : TaskNo) → task_at (task_number t) ≡ Some t
back_task numbers.System = refl
back_task numbers.One = refl
back_task numbers.Two = refl
back_task numbers.Three = refl
back_task numbers.Four = refl

pub same_member : (a b : Member) → member_number a ≡ member_number b → a ≡ b
same_member a b e = same_Some a b (sym (back_member a) ∙ ap member_at e ∙ back_member b)

pub same_structure : (a b : StructNo) → structure_number a ≡ structure_number b → a ≡ b
same_structure a b e = same_Some a b (sym (back_structure a) ∙ ap structure_at e ∙ back_structure b)

pub same_task : (a b : TaskNo) → task_number a ≡ task_number b → a ≡ b
same_task a b e = same_Some a b (sym (back_task a) ∙ ap task_at e ∙ back_task b)

pub cases_member : (a b : Member) → (a ≡ b) ⊎ (member_number a ≡ member_number b → ⊥)
cases_member a b = elim (cases_eq (member_number a) (member_number b)) [ inl same ↦ inl (same_member a b same) | inr differ ↦ inr differ ]

pub cases_structure : (a b : StructNo) → (a ≡ b) ⊎ (structure_number a ≡ structure_number b → ⊥)
cases_structure a b = elim (cases_eq (structure_number a) (structure_number b)) [ inl same ↦ inl (same_structure a b same) | inr differ ↦ inr differ ]

pub cases_task : (a b : TaskNo) → (a ≡ b) ⊎ (task_number a ≡ task_number b → ⊥)
cases_task a b = elim (cases_eq (task_number a) (task_number b)) [ inl same ↦ inl (same_task a b same) | inr differ ↦ inr differ ]

-- ---- what holds at every place

pub every_structure : {A : Type 0} (P : StructNo → A → Type 0) (s : StructNo) (f : A → A) (table : StructNo → A) → P s (f (table s)) → ((x : StructNo) → (structure_number x ≡ structure_number s → ⊥) → P x (table x)) → (x : StructNo) → P x (at_structure s f table x)
every_structure P s f table own all x = elim (cases_structure x s) [
  | inl same ↦ subst (λ y. P y (at_structure s f table y)) (sym same) (subst (P s) (sym (change-same structure_number s f table)) own)
  | inr differ ↦ subst (P x) (sym (change-other structure_number s f table x differ)) (all x differ)
]

pub every_member : {A : Type 0} (P : Member → A → Type 0) (m : Member) (f : A → A) (table : Member → A) → P m (f (table m)) → ((x : Member) → (member_number x ≡ member_number m → ⊥) → P x (table x)) → (x : Member) → P x (at_member m f table x)
every_member P m f table own all x = elim (cases_member x m) [
  | inl same ↦ subst (λ y. P y (at_member m f table y)) (sym same) (subst (P m) (sym (change-same member_number m f table)) own)
  | inr differ ↦ subst (P x) (sym (change-other member_number m f table x differ)) (all x differ)
]

-- one task changed, or not
pub task-same : {A : Type 0} (m : Member) (t : TaskNo) (f : A → A) (table : Member → TaskNo → A) → at_task m t f table m t ≡ f (table m t)
task-same m t f table = ap (λ row. row t) (change-same member_number m (λ row. change task_number t f row) table) ∙ change-same task_number t f (table m)

pub cases_at : {A : Type 0} (m : Member) (t : TaskNo) (f : A → A) (table : Member → TaskNo → A) (k : Member) (j : TaskNo)
    → ((k ≡ m) × (j ≡ t) × (at_task m t f table k j ≡ f (table k j))) ⊎ ((k ≡ m → j ≡ t → ⊥) × (at_task m t f table k j ≡ table k j))
cases_at m t f table k j = elim (cases_member k m) [
  | inl same ↦ elim (cases_task j t) [
    | inl here ↦ inl (same, here, subst (λ x. at_task m t f table x j ≡ f (table x j)) (sym same) (subst (λ y. at_task m t f table m y ≡ f (table m y)) (sym here) (task-same m t f table)))
    | inr there ↦ inr (
      (λ e d. there (ap task_number d)),
      subst (λ x. at_task m t f table x j ≡ table x j) (sym same)
          (ap (λ row. row j) (change-same member_number m (λ row. change task_number t f row) table) ∙ change-other task_number t f (table m) j there),
    )
  ]
  | inr differ ↦ inr ((λ e d. differ (ap member_number e)), ap (λ row. row j) (change-other member_number m (λ row. change task_number t f row) table k differ))
]

-- what holds of a member's part still holds
pub moved : {A : Type 0} (P : A → Type 0) (m : Member) (f : A → A) (table : Member → A) (x : Member) → (x ≡ m → P (table m) → P (f (table m))) → P (table x) → P (at_member m f table x)
moved P m f table x step now = elim (cases_member x m) [
  | inl same ↦ subst (λ y. P (at_member m f table y)) (sym same) (subst P (sym (change-same member_number m f table)) (step same (subst (λ y. P (table y)) same now)))
  | inr differ ↦ subst P (sym (change-other member_number m f table x differ)) now
]
