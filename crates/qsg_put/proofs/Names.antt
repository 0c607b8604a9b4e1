-- the name that a task holds is of its member
use Rattle.std.proofs.Common.{◌≡◌, ◌+◌, [], ◌∷◌, ◌++◌, Some, None, refl, sym, ap, subst, ◌∙◌, inl, inr}
use Rattle.std.proofs.lemmas.Option.{same_Some}
use Rattle.qsg_num.specs.declared.seats.Member.{Member}
use Rattle.qsg_num.specs.declared.seats.TaskNo.{TaskNo}
use Rattle.qsg_num.specs.declared.ids.UnitName.{UnitName}
use Rattle.qsg_model.specs.declared.history.Op.TheVariants.{Put, Got}
use Rattle.qsg_group.specs.declared.tasks.Task.{Task}
use Rattle.qsg_group.specs.Tables.{at_member, at_task}
use Rattle.qsg_group.specs.Group.{Group, idle}
use Rattle.qsg_group.specs.Changes.{Change, open_task, hardening_task, settling_task, claim_of, idle_tasks}
use Rattle.qsg_group.specs.Changes.Change.{Draws, Puts, Gets, Ungets, Begins, Hardens, BacksOut, Settles, Finishes, Crashes, Stops}
use Rattle.qsg_group.proofs.Tables.{cases_at, every_member}
use Rattle.qsg_put.specs.Outcomes.{AreOwn}

abbrev IsOwn : Member → Task → Type 0
IsOwn m task = (u : UnitName) → task.unit ≡ Some u → u.member ≡ m

own_at : (m : Member) (t : TaskNo) (y : Task) (tasks : Member → TaskNo → Task) → IsOwn m y → AreOwn tasks → AreOwn (at_task m t (λ task. y) tasks)
own_at m t y tasks new all k j = elim (cases_at m t (λ task. y) tasks k j) [
  | inl here ↦ subst (λ (x : Member). IsOwn x (at_task m t (λ task. y) tasks k j)) (sym here.0) (subst (IsOwn m) (sym here.2) new)
  | inr other ↦ subst (IsOwn k) (sym other.1) (all k j)
]

own_gone : (m : Member) (tasks : Member → TaskNo → Task) → AreOwn tasks → AreOwn (at_member m idle_tasks tasks)
own_gone m tasks all = every_member (λ k row. (j : TaskNo) → IsOwn k (row j)) m idle_tasks tasks (λ j u none. absurd cc) (λ k differ j. all k j)

named_own : (u : UnitName) (t : TaskNo) (y : Task) (tasks : Member → TaskNo → Task) → y.unit ≡ Some u → AreOwn tasks → AreOwn (at_task u.member t (λ task. y) tasks)
named_own u t y tasks is all = own_at u.member t y tasks (λ v named. ap (λ (x : UnitName). x.member) (same_Some v u (sym named ∙ is))) all

pub own_stays : (g h : Group) → Change g h → AreOwn g.tasks → AreOwn h.tasks
own_stays g _ (Draws _ u t may) all = named_own u t (open_task u [] []) g.tasks refl all
own_stays g _ (Puts _ u t ops claims s m outside may) all = named_own u t (open_task u (ops ++ (s, Put m) ∷ []) (claims ++ claim_of s (g.shelves s) m ∷ [])) g.tasks refl all
own_stays g _ (Gets _ u t ops claims s m outside may) all = named_own u t (open_task u (ops ++ (s, Got m.id) ∷ []) (claims ++ claim_of s (g.shelves s) m ∷ [])) g.tasks refl all
own_stays g _ (Ungets _ u t ops claims c may) all = named_own u t (open_task u ops claims) g.tasks refl all
own_stays g _ (Begins _ u t ops claims may) all = named_own u t (hardening_task u ops claims (g.logs u.member).next) g.tasks refl all
own_stays g _ (Hardens _ u t ops claims first next may) all = named_own u t (settling_task u claims (Some (g.logs u.member).next) 0) g.tasks refl all
own_stays g _ (BacksOut _ u t ops claims may) all = named_own u t (settling_task u claims None 0) g.tasks refl all
own_stays g _ (Settles _ u t claims first n c may) all = named_own u t (settling_task u claims first (n + 1)) g.tasks refl all
own_stays g _ (Finishes _ u t claims first n may) all = own_at u.member t idle g.tasks (λ v none. absurd cc) all
own_stays g _ (Crashes _ m may) all = own_gone m g.tasks all
own_stays g _ (Stops _ m may) all = own_gone m g.tasks all
own_stays g _ _ all = all
