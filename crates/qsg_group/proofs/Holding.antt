-- one task changed: what holds of every unit in hand, and what marks name
use Rattle.std.proofs.Common.{◌≡◌, ℕ, Bool, List, [], ◌∷◌, ◌++◌, Some, refl, sym, ap, subst, ◌∙◌, inl, inr}
use Rattle.std.specs.Prelude.{◌⊎◌}
use Rattle.qsg_num.specs.declared.seats.Member.{Member}
use Rattle.qsg_num.specs.declared.seats.StructNo.{StructNo}
use Rattle.qsg_num.specs.declared.seats.TaskNo.{TaskNo}
use Rattle.qsg_num.specs.declared.ids.UnitName.{UnitName}
use Rattle.qsg_msg.specs.declared.message.Message.{Message}
use Rattle.qsg_model.specs.declared.history.Op.{Op}
use Rattle.qsg_model.specs.declared.history.Op.TheVariants.{Got}
use Rattle.qsg_lists.specs.declared.parts.Mark.{Mark}
use Rattle.qsg_lists.specs.declared.parts.Mark.TheVariants.{Visible, PutBy, GotBy, Cleanup}
use Rattle.qsg_group.specs.declared.tasks.Claim.{Claim}
use Rattle.qsg_group.specs.declared.tasks.Task.{Task}
use Rattle.qsg_group.specs.Tables.{at_task}
use Rattle.qsg_group.specs.Laws.{Has, Names, PutsBy, GetsBy, MarkNames}
use Rattle.qsg_group.specs.Changes.{open_task}
use Rattle.qsg_group.proofs.Tables.{cases_at}

-- this holds of every unit in hand
abbrev pub Every : (Member → TaskNo → Task) → (UnitName → Task → Type 0) → Type 0
Every tasks P = (u : UnitName) (t : TaskNo) → Has tasks u t → P u (tasks u.member t)

abbrev pub with_task : Member → TaskNo → Task → (Member → TaskNo → Task) → Member → TaskNo → Task
with_task m t new tasks = at_task m t (λ old. new) tasks

-- a task whose unit's last operation is a get
abbrev pub got_task : UnitName → List (StructNo × Op) → List Claim → Claim → Task
got_task u ops claims c = open_task u (ops ++ (c.connection.structure, Got c.id) ∷ []) (claims ++ c ∷ [])

-- a unit in hand is that of the new task, or one of another
pub cases_has : (tasks : Member → TaskNo → Task) (m : Member) (t : TaskNo) (new : Task) (u : UnitName) (k : TaskNo) → Has (with_task m t new tasks) u k
    → ((u.member ≡ m) × (k ≡ t) × (new.unit ≡ Some u) × (with_task m t new tasks u.member k ≡ new)) ⊎ ((u.member ≡ m → k ≡ t → ⊥) × Has tasks u k × (with_task m t new tasks u.member k ≡ tasks u.member k))
cases_has tasks m t new u k has = elim (cases_at m t (λ old. new) tasks u.member k) [
  | inl same ↦ inl (same.0, same.1, ap (λ (x : Task). x.unit) (sym same.2) ∙ has, same.2)
  | inr other ↦ inr (other.0, ap (λ (x : Task). x.unit) (sym other.1) ∙ has, other.1)
]

pub every_after : (tasks : Member → TaskNo → Task) (m : Member) (t : TaskNo) (new : Task) (P : UnitName → Task → Type 0) → ((u : UnitName) → u.member ≡ m → new.unit ≡ Some u → P u new) → Every tasks P → Every (with_task m t new tasks) P
every_after tasks m t new P own every u k has = elim (cases_has tasks m t new u k has) [
  | inl here ↦ subst (P u) (sym here.3) (own u here.0 here.2)
  | inr other ↦ subst (P u) (sym other.2) (every u k other.1)
]

-- the new task holds the unit that the old one held
pub has_back : (tasks : Member → TaskNo → Task) (m : Member) (t : TaskNo) (new : Task) (u : UnitName) (k : TaskNo) → new.unit ≡ (tasks m t).unit → Has (with_task m t new tasks) u k → Has tasks u k
has_back tasks m t new u k same has = elim (cases_has tasks m t new u k has) [
  | inl here ↦ subst (λ x. (tasks x k).unit ≡ Some u) (sym here.0) (subst (λ y. (tasks m y).unit ≡ Some u) (sym here.1) (sym same ∙ here.2))
  | inr other ↦ other.1
]

pub has_on : (tasks : Member → TaskNo → Task) (m : Member) (t : TaskNo) (new : Task) (u : UnitName) (k : TaskNo) → new.unit ≡ (tasks m t).unit → Has tasks u k → Has (with_task m t new tasks) u k
has_on tasks m t new u k same has = elim (cases_at m t (λ old. new) tasks u.member k) [
  | inl here ↦ ap (λ (x : Task). x.unit) here.2 ∙ same ∙ subst (λ x. (tasks m x).unit ≡ Some u) here.1 (subst (λ x. (tasks x k).unit ≡ Some u) here.0 has)
  | inr other ↦ ap (λ (x : Task). x.unit) other.1 ∙ has
]

pub names_after : (failed : Member → ℕ → Bool) (tasks : Member → TaskNo → Task) (m : Member) (t : TaskNo) (new : Task) (u : UnitName) (Due : Task → Type 0)
    → new.unit ≡ (tasks m t).unit → (u.member ≡ m → new.unit ≡ Some u → Due (tasks m t) → Due new) → Names failed tasks u Due → Names failed (with_task m t new tasks) u Due
names_after failed tasks m t new u Due same step names = elim names [
  | inl gone ↦ inl gone
  | inr live ↦ elim (cases_at m t (λ old. new) tasks u.member live.0) [
    | inl here ↦
        let at : (tasks m t).unit ≡ Some u = subst (λ x. (tasks m x).unit ≡ Some u) here.1 (subst (λ x. (tasks x live.0).unit ≡ Some u) here.0 live.1) in
        let due : Due (tasks m t) = subst (λ x. Due (tasks m x)) here.1 (subst (λ x. Due (tasks x live.0)) here.0 live.2) in
        inr (live.0, has_on tasks m t new u live.0 same live.1, subst Due (sym here.2) (step here.0 (same ∙ at) due))
    | inr other ↦ inr (live.0, has_on tasks m t new u live.0 same live.1, subst Due (sym other.1) live.2)
  ]
]

-- what a mark asks of the tasks goes over to the new task
pub record Goes (old new : Task) (u : UnitName) (k : ℕ × ℕ) (m : Message) (mark : Mark) : Type 0 where
  pub puts_go : mark ≡ PutBy u → PutsBy old.stage old.ops old.claims k m → PutsBy new.stage new.ops new.claims k m
  pub gots_go : mark ≡ GotBy u → GetsBy old.stage old.ops old.claims k → GetsBy new.stage new.ops new.claims k

pub mark_after : (failed : Member → ℕ → Bool) (tasks : Member → TaskNo → Task) (m : Member) (t : TaskNo) (new : Task) (k : ℕ × ℕ) (msg : Message) (mark : Mark)
    → new.unit ≡ (tasks m t).unit → ((u : UnitName) → new.unit ≡ Some u → Goes (tasks m t) new u k msg mark) → MarkNames failed tasks k msg mark → MarkNames failed (with_task m t new tasks) k msg mark
mark_after failed tasks m t new k msg Visible same goes names = tt
mark_after failed tasks m t new k msg (PutBy u) same goes names = names_after failed tasks m t new u (λ task. PutsBy task.stage task.ops task.claims k msg) same (λ e has due. (goes u has).puts_go refl due) names
mark_after failed tasks m t new k msg (GotBy u) same goes names = names_after failed tasks m t new u (λ task. GetsBy task.stage task.ops task.claims k) same (λ e has due. (goes u has).gots_go refl due) names
mark_after failed tasks m t new k msg Cleanup same goes names = tt
