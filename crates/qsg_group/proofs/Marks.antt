-- The laws on marks, and on what undecided units did.
use Rattle.qsg_group.specs.Changes.Change.{Recovers, Reopens}
use Rattle.qsg_group.specs.Changes.{in_recovery, reopened_shelf}
use Rattle.std.proofs.Common.{◌≡◌, ℕ, zero, suc, ◌+◌, ◌≤◌, Bool, true, false, cond, List, [], ◌∷◌, ◌++◌, length, drop, Option, Some, None, refl, sym, ap, subst, ◌∙◌, arith, inl, inr}
use Rattle.std.specs.Prelude.{◌⊎◌, slice_get}
use Rattle.std.proofs.lemmas.Bool.{cases_Bool}
use Rattle.std.proofs.lemmas.Option.{same_Some, none-some}
use Rattle.qsg_num.specs.declared.seats.Member.{Member}
use Rattle.qsg_num.specs.declared.seats.StructNo.{StructNo}
use Rattle.qsg_num.specs.declared.seats.TaskNo.{TaskNo}
use Rattle.qsg_num.specs.declared.ids.UnitName.{UnitName}
use Rattle.qsg_num.specs.declared.ids.EntryId.{EntryId}
use Rattle.qsg_num.specs.Seats.{structure_number}
use Rattle.qsg_msg.specs.declared.message.Message.{Message}
use Rattle.qsg_model.specs.declared.history.Op.{Op}
use Rattle.qsg_model.specs.declared.history.Op.TheVariants.{Put, Got}
use Rattle.qsg_model.specs.History.{key, same_key, has_key, puts}
use Rattle.qsg_model.specs.Past.{message_at, is_put, is_got, or_else}
use Rattle.qsg_model.proofs.Keyed.{message_at-key, message_at-none}
use Rattle.qsg_model.proofs.Differing.{same_key-true, same_key-self}
use Rattle.qsg_lists.specs.declared.parts.Mark.{Mark}
use Rattle.qsg_lists.specs.declared.parts.Mark.TheVariants.{Visible, PutBy, GotBy, Cleanup}
use Rattle.qsg_group.specs.declared.tasks.Claim.{Claim}
use Rattle.qsg_group.specs.declared.tasks.Stage.{Stage}
use Rattle.qsg_group.specs.declared.tasks.Stage.TheVariants.{Open, Hardening}
use Rattle.qsg_group.specs.declared.tasks.Task.{Task}
use Rattle.qsg_group.specs.Tables.{at_structure}
use Rattle.qsg_group.specs.Group.{Held, Group, idle}
use Rattle.qsg_group.specs.Observers.{entry_at, top_of, revise, is_committed, key_of_claim, keys_claimed}
use Rattle.qsg_group.specs.Laws.{is_pending, Names, PutsBy, GetsBy, MarkNames, AreMarked, IsReady, Laws}
use Rattle.qsg_group.specs.Changes.{open_task, hardening_task, settling, is_commit, settling_task, with_entry, with_entries, marked, settle, lost_shelf, claim_of, MayPut, MayGet, MayUnget, MaySettle, MayFinish, Change}
use Rattle.qsg_group.specs.Changes.Change.{Draws, Puts, Gets, Ungets, Forgets, Begins, Hardens, BacksOut, Settles, Finishes, Crashes, Stops, PeerSettles, Resolves, Loses}
use Rattle.qsg_group.proofs.Tables.{every_structure, cases_at, same_structure, task-same}
use Rattle.qsg_group.proofs.Entries.{above_none, push_cases, revise_cases}
use Rattle.qsg_group.proofs.Keys.{puts_of_got, got_put, got_got, got_other, message_of_put, put_claimed, got_claimed}
use Rattle.qsg_group.proofs.Holding.{with_task, got_task, Goes, mark_after}
use Rattle.qsg_group.proofs.Logs.{ready_of}
use Rattle.qsg_group.proofs.Failing.{mark_crash, mark_stop, mark_resolve}
use Rattle.qsg_group.proofs.Pages.{has_unit}
use Rattle.qsg_group.proofs.Shelves.{left_of, settler, settler_keeps, marker_keeps, was_there}
use Rattle.qsg_group.proofs.Following.{name_apart}

-- ---- marks over one structure

abbrev MarksOf : (Member → ℕ → Bool) → (Member → TaskNo → Task) → StructNo → List Held → Type 0
MarksOf failed tasks s es = (id : ℕ) (e : Held) → entry_at id es ≡ Some e → MarkNames failed tasks (structure_number s, id) e.message e.mark

-- the tasks changed: what every mark asks goes over
marks_go : (g : Group) (m : Member) (t : TaskNo) (old new : Task) → g.tasks m t ≡ old → new.unit ≡ old.unit → ((u : UnitName) (k : ℕ × ℕ) (msg : Message) (mark : Mark) → new.unit ≡ Some u → Goes old new u k msg mark) → Laws g → AreMarked g.failed (with_task m t new g.tasks) g.shelves
marks_go g m t old new is same goes laws s id e there = mark_after g.failed g.tasks m t new (structure_number s, id) e.message e.mark (same ∙ ap (λ (x : Task). x.unit) (sym is))
    (λ u has. subst (λ (x : Task). Goes x new u (structure_number s, id) e.message e.mark) (sym is) (goes u (structure_number s, id) e.message e.mark has)) (laws.marked s id e there)

message_kept : (k : ℕ × ℕ) (ops : List (StructNo × Op)) (s : StructNo) (m x : Message) → message_at k (puts ops) ≡ Some x → message_at k (puts (ops ++ (s, Put m) ∷ [])) ≡ Some x
message_kept k ops s m x found = message_of_put k ops s m ∙ ap (λ o. or_else o (cond (same_key k (key m)) (Some m) None)) found

goes_put : (u v : UnitName) (ops : List (StructNo × Op)) (claims more : List Claim) (s : StructNo) (m : Message) (k : ℕ × ℕ) (msg : Message) (mark : Mark) → Goes (open_task u ops claims) (open_task u (ops ++ (s, Put m) ∷ []) more) v k msg mark
goes_put u v ops claims more s m k msg mark = record {
  puts_go = λ is due. message_kept k ops s m msg due;
  gots_go = λ is due. got_put k ops s m ∙ due;
}

goes_got : (u v : UnitName) (ops : List (StructNo × Op)) (claims more : List Claim) (s : StructNo) (id : EntryId) (k : ℕ × ℕ) (msg : Message) (mark : Mark) → Goes (open_task u ops claims) (open_task u (ops ++ (s, Got id) ∷ []) more) v k msg mark
goes_got u v ops claims more s id k msg mark = record {
  puts_go = λ is due. ap (message_at k) (puts_of_got ops s id) ∙ due;
  gots_go = λ is due. got_got k ops s id ∙ (grind (arith, due));
}

-- ---- a put

pub key_at : (g : Group) (s : StructNo) (m : Message) → m.structure ≡ s → key m ≡ (structure_number s, m.id.number)
key_at g s m own = ap (λ (x : StructNo). (structure_number x, m.id.number)) own

pub none_yet : (g : Group) (u : UnitName) (t : TaskNo) (ops : List (StructNo × Op)) (claims : List Claim) (s : StructNo) (m : Message) → MayPut g u t ops claims s m → Laws g → entry_at m.id.number (g.shelves s).entries ≡ None
none_yet g u t ops claims s m may laws = above_none (top_of (g.shelves s)) m.id.number (g.shelves s).entries (laws.shelves s).rising (Rattle.qsg_group.proofs.Following.number_of_put g s m may.id)

unput_key : (g : Group) (u : UnitName) (t : TaskNo) (ops : List (StructNo × Op)) (claims : List Claim) (s : StructNo) (m : Message) → MayPut g u t ops claims s m → Laws g → message_at (key m) (puts ops) ≡ None
unput_key g u t ops claims s m may laws = message_at-none (key m) (puts ops)
    (ap (λ (x : Task). is_put (key m) x.ops) (sym may.has) ∙ Rattle.qsg_group.proofs.Following.new_to g u t s m may.own may.id (has_unit g u t (open_task u ops claims) may.has refl) laws)

marked_puts : (g : Group) (u : UnitName) (t : TaskNo) (ops : List (StructNo × Op)) (claims : List Claim) (s : StructNo) (m : Message) (outside : Bool) → MayPut g u t ops claims s m → Laws g
    → AreMarked g.failed (with_task u.member t (open_task u (ops ++ (s, Put m) ∷ []) (claims ++ claim_of s (g.shelves s) m ∷ [])) g.tasks) (at_structure s (with_entry (record { message = m; mark = PutBy u; outside = outside })) g.shelves)
marked_puts g u t ops claims s m outside may laws =
    let new = open_task u (ops ++ (s, Put m) ∷ []) (claims ++ claim_of s (g.shelves s) m ∷ []) in
    let e : Held = record { message = m; mark = PutBy u; outside = outside } in
    let tasks = with_task u.member t new g.tasks in
    let old = marks_go g u.member t (open_task u ops claims) new may.has refl (λ v k msg mark is. goes_put u v ops claims (claims ++ claim_of s (g.shelves s) m ∷ []) s m k msg mark) laws in
    every_structure (λ x shelf. MarksOf g.failed tasks x shelf.entries) s (with_entry e) g.shelves
    (λ id x there. elim (push_cases id (g.shelves s).entries e x (none_yet g u t ops claims s m may laws) there) [
      | inl here ↦ subst (λ (y : Held). MarkNames g.failed tasks (structure_number s, id) y.message y.mark) (sym here.1)
          (subst (λ n. Names g.failed tasks u (λ task. PutsBy task.stage task.ops task.claims (structure_number s, n) m)) here.0
          (inr (
            t,
            ap (λ (y : Task). y.unit) (task-same u.member t (λ x. new) g.tasks),
            subst (λ (y : Task). PutsBy y.stage y.ops y.claims (structure_number s, m.id.number) m) (sym (task-same u.member t (λ x. new) g.tasks)) (own_message g u t ops claims s m may laws),
          )))
      | inr was ↦ old s id x was
    ])
    (λ x differ. old x)
  where
    own_message : (g : Group) (u : UnitName) (t : TaskNo) (ops : List (StructNo × Op)) (claims : List Claim) (s : StructNo) (m : Message) → MayPut g u t ops claims s m → Laws g → message_at (structure_number s, m.id.number) (puts (ops ++ (s, Put m) ∷ [])) ≡ Some m
    own_message g u t ops claims s m may laws = subst (λ k. message_at k (puts (ops ++ (s, Put m) ∷ [])) ≡ Some m) (key_at g s m may.own)
        (message_of_put (key m) ops s m ∙ ap (λ o. or_else o (cond (same_key (key m) (key m)) (Some m) None)) (unput_key g u t ops claims s m may laws) ∙ ap (λ b. cond b (Some m) None) (same_key-self (key m)))

-- ---- a get

marked_gets : (g : Group) (u : UnitName) (t : TaskNo) (ops : List (StructNo × Op)) (claims : List Claim) (s : StructNo) (m : Message) (outside : Bool) → MayGet g u t ops claims s m outside → Laws g
    → AreMarked g.failed (with_task u.member t (open_task u (ops ++ (s, Got m.id) ∷ []) (claims ++ claim_of s (g.shelves s) m ∷ [])) g.tasks) (at_structure s (with_entries (revise m.id.number (marked (GotBy u)))) g.shelves)
marked_gets g u t ops claims s m outside may laws =
    let new = open_task u (ops ++ (s, Got m.id) ∷ []) (claims ++ claim_of s (g.shelves s) m ∷ []) in
    let tasks = with_task u.member t new g.tasks in
    let old = marks_go g u.member t (open_task u ops claims) new may.has refl (λ v k msg mark is. goes_got u v ops claims (claims ++ claim_of s (g.shelves s) m ∷ []) s m.id k msg mark) laws in
    every_structure (λ x shelf. MarksOf g.failed tasks x shelf.entries) s (with_entries (revise m.id.number (marked (GotBy u)))) g.shelves
    (λ id x there. elim (revise_cases (top_of (g.shelves s)) m.id.number id (marked (GotBy u)) (g.shelves s).entries x (marker_keeps (GotBy u)) (laws.shelves s).rising there) [
      | inl here ↦ subst (λ (y : Mark). MarkNames g.failed tasks (structure_number s, id) x.message y) (ap (λ (y : Held). y.mark) (same_Some (record here.1 { mark = GotBy u }) x here.3))
          (inr (
            t,
            ap (λ (y : Task). y.unit) (task-same u.member t (λ x. new) g.tasks),
            subst (λ (y : Task). GetsBy y.stage y.ops y.claims (structure_number s, id)) (sym (task-same u.member t (λ x. new) g.tasks))
                (subst (λ n. is_got (structure_number s, n) (ops ++ (s, Got m.id) ∷ []) ≡ true) here.0
                (got_got (structure_number s, m.id.number) ops s m.id ∙ (let t = same_key-self (structure_number s, m.id.number) in grind (arith, t)))),
          ))
      | inr was ↦ old s id x was.1
    ])
    (λ x differ. old x)

-- ---- a commit or a backout begins

claimed_goes : (g : Group) (u v : UnitName) (ops : List (StructNo × Op)) (claims : List Claim) (old_stage new_stage : Stage) (first : Option ℕ) → IsReady g.history ops claims → (k : ℕ × ℕ) (msg : Message) (mark : Mark)
    → ((due : PutsBy old_stage ops claims k msg) → message_at k (puts ops) ≡ Some msg) → ((due : GetsBy old_stage ops claims k) → is_got k ops ≡ true)
    → Goes (record { unit = Some u; ops = ops; claims = claims; stage = old_stage }) (settling_task u claims first 0) v k msg mark
claimed_goes g u v ops claims old_stage new_stage first ready k msg mark put got = record {
  puts_go = λ is due. on first (put_claimed g.history k ops claims ready.matched (message_at-key k (puts ops) msg (put due)).1);
  gots_go = λ is due. gon first (got_claimed g.history k ops claims ready.matched (got due));
}
  where
    on : (first : Option ℕ) → has_key (keys_claimed claims) k ≡ true → PutsBy (settling first 0) [] claims k msg
    on None has = has
    on (Some page) has = has

    gon : (first : Option ℕ) → has_key (keys_claimed claims) k ≡ true → GetsBy (settling first 0) [] claims k
    gon None has = has
    gon (Some page) has = has

-- ---- a settle

key_settled : (claims : List Claim) (n : ℕ) (c : Claim) (k : ℕ × ℕ) → slice_get claims n ≡ Some c → has_key (keys_claimed (drop n claims)) k ≡ true → same_key k (key_of_claim c) ≡ false → has_key (keys_claimed (drop (suc n) claims)) k ≡ true
key_settled [] n c k is has differ = absurd cc
key_settled (d ∷ claims) zero c k is has differ =
    let e : d ≡ c = same_Some d c is in
    let f : same_key k (key_of_claim d) ≡ false = ap (λ (x : Claim). same_key k (key_of_claim x)) e ∙ differ in
    grind (arith, has, f)
key_settled (d ∷ claims) (suc n) c k is has differ = key_settled claims n c k is has differ

one_more : (n : ℕ) → suc n ≡ n + 1
one_more n = omega arith

key_left : (claims : List Claim) (n : ℕ) (c : Claim) (k : ℕ × ℕ) → slice_get claims n ≡ Some c → has_key (keys_claimed (drop n claims)) k ≡ true → same_key k (key_of_claim c) ≡ false → has_key (keys_claimed (drop (n + 1) claims)) k ≡ true
key_left claims n c k is has differ = subst (λ i. has_key (keys_claimed (drop i claims)) k ≡ true) (one_more n) (key_settled claims n c k is has differ)

goes_settled : (u v : UnitName) (claims : List Claim) (first : Option ℕ) (n : ℕ) (c : Claim) (k : ℕ × ℕ) (msg : Message) (mark : Mark) → slice_get claims n ≡ Some c → same_key k (key_of_claim c) ≡ false → Goes (settling_task u claims first n) (settling_task u claims first (n + 1)) v k msg mark
goes_settled u v claims None n c k msg mark is differ = record { puts_go = λ e due. key_left claims n c k is due differ; gots_go = λ e due. key_left claims n c k is due differ }
goes_settled u v claims (Some first) n c k msg mark is differ = record { puts_go = λ e due. key_left claims n c k is due differ; gots_go = λ e due. key_left claims n c k is due differ }

-- a mark of another unit, or of another key
other_goes : (g : Group) (u : UnitName) (t : TaskNo) (claims : List Claim) (first : Option ℕ) (n : ℕ) (c : Claim) → MaySettle g u t claims first n c → (k : ℕ × ℕ) (msg : Message) (mark : Mark)
    → (same_key k (key_of_claim c) ≡ false) ⊎ ((mark ≡ PutBy u → ⊥) × (mark ≡ GotBy u → ⊥)) → MarkNames g.failed g.tasks k msg mark → MarkNames g.failed (with_task u.member t (settling_task u claims first (n + 1)) g.tasks) k msg mark
other_goes g u t claims first n c may k msg mark apart names = mark_after g.failed g.tasks u.member t (settling_task u claims first (n + 1)) k msg mark (sym (ap (λ (x : Task). x.unit) may.has))
    (λ v is. subst (λ (x : Task). Goes x (settling_task u claims first (n + 1)) v k msg mark) (sym may.has) (by v is))
    names
  where
    by : (v : UnitName) → Some u ≡ Some v → Goes (settling_task u claims first n) (settling_task u claims first (n + 1)) v k msg mark
    by v is = elim apart [
      | inl differ ↦ goes_settled u v claims first n c k msg mark may.is differ
      | inr unmarked ↦ record {
        puts_go = λ e due. absurd (unmarked.0 (e ∙ ap (λ (x : UnitName). PutBy x) (sym (same_Some u v is))));
        gots_go = λ e due. absurd (unmarked.1 (e ∙ ap (λ (x : UnitName). GotBy x) (sym (same_Some u v is))));
      }
    ]

quiet_mark : (failed : Member → ℕ → Bool) (tasks : Member → TaskNo → Task) (k : ℕ × ℕ) (msg : Message) (mark : Mark) → is_pending mark ≡ false → MarkNames failed tasks k msg mark
quiet_mark failed tasks k msg Visible quiet = tt
quiet_mark failed tasks k msg (PutBy u) quiet = absurd cc
quiet_mark failed tasks k msg (GotBy u) quiet = absurd cc
quiet_mark failed tasks k msg Cleanup quiet = tt

key_differs : (s x : StructNo) (id n : ℕ) → ((x ≡ s) → (id ≡ n) → ⊥) → same_key (structure_number x, id) (structure_number s, n) ≡ false
key_differs s x id n differ = elim (cases_Bool (same_key (structure_number x, id) (structure_number s, n))) [
  | inl same ↦
      let is = same_key-true (structure_number x, id) (structure_number s, n) same in
      absurd (differ (same_structure x s (ap (λ (k : ℕ × ℕ). k.0) is)) (ap (λ (k : ℕ × ℕ). k.1) is))
  | inr apart ↦ apart
]

marked_settles : (g : Group) (u : UnitName) (t : TaskNo) (claims : List Claim) (first : Option ℕ) (n : ℕ) (c : Claim) → MaySettle g u t claims first n c → Laws g
    → AreMarked g.failed (with_task u.member t (settling_task u claims first (n + 1)) g.tasks) (at_structure c.connection.structure (with_entries (settle c.id.number u (is_commit first))) g.shelves)
marked_settles g u t claims first n c may laws =
    let s = c.connection.structure in
    let commits = is_commit first in
    let tasks = with_task u.member t (settling_task u claims first (n + 1)) g.tasks in
    every_structure (λ x shelf. MarksOf g.failed tasks x shelf.entries) s (with_entries (settle c.id.number u commits)) g.shelves
    (λ id x there. elim (revise_cases (top_of (g.shelves s)) c.id.number id (settler u commits) (g.shelves s).entries x (settler_keeps u commits) (laws.shelves s).rising there) [
      | inl here ↦ elim (left_of u commits here.1.mark here.1 x here.3).1 [
        | inl quiet ↦ quiet_mark g.failed tasks (structure_number s, id) x.message x.mark quiet
        | inr same ↦ subst (λ (y : Held). MarkNames g.failed tasks (structure_number s, id) y.message y.mark) (sym same.0)
            (other_goes g u t claims first n c may (structure_number s, id) here.1.message here.1.mark (inr (same.1, same.2)) (laws.marked s id here.1 (subst (λ j. entry_at j (g.shelves s).entries ≡ Some here.1) here.0 here.2)))
      ]
      | inr other ↦ other_goes g u t claims first n c may (structure_number s, id) x.message x.mark (inl (key_differs s s id c.id.number (λ e d. other.0 (sym d)))) (laws.marked s id x other.1)
    ])
    (λ x differ id e there. other_goes g u t claims first n c may (structure_number x, id) e.message e.mark (inl (key_differs s x id c.id.number (λ same d. differ (ap structure_number same)))) (laws.marked x id e there))

-- ---- a get is undone

goes_ungot : (u v : UnitName) (ops : List (StructNo × Op)) (claims : List Claim) (c : Claim) (k : ℕ × ℕ) (msg : Message) (mark : Mark)
    → (same_key k (key_of_claim c) ≡ false) ⊎ ((mark ≡ PutBy u → ⊥) × (mark ≡ GotBy u → ⊥)) → Some u ≡ Some v → Goes (got_task u ops claims c) (open_task u ops claims) v k msg mark
goes_ungot u v ops claims c k msg mark apart is = record {
  puts_go = λ e due. ap (message_at k) (sym (puts_of_got ops c.connection.structure c.id)) ∙ due;
  gots_go = λ e due. elim apart [
    | inl differ ↦ got_other k ops c.connection.structure c.id differ due
    | inr unmarked ↦ absurd (unmarked.1 (e ∙ ap (λ (x : UnitName). GotBy x) (sym (same_Some u v is))))
  ];
}

-- a mark of another unit, or of another key
other_ungot : (g : Group) (u : UnitName) (t : TaskNo) (ops : List (StructNo × Op)) (claims : List Claim) (c : Claim) → MayUnget g u t ops claims c → (k : ℕ × ℕ) (msg : Message) (mark : Mark)
    → (same_key k (key_of_claim c) ≡ false) ⊎ ((mark ≡ PutBy u → ⊥) × (mark ≡ GotBy u → ⊥)) → MarkNames g.failed g.tasks k msg mark → MarkNames g.failed (with_task u.member t (open_task u ops claims) g.tasks) k msg mark
other_ungot g u t ops claims c may k msg mark apart names = mark_after g.failed g.tasks u.member t (open_task u ops claims) k msg mark (sym (ap (λ (x : Task). x.unit) may.has))
    (λ v is. subst (λ (x : Task). Goes x (open_task u ops claims) v k msg mark) (sym may.has) (goes_ungot u v ops claims c k msg mark apart is))
    names

marked_ungets : (g : Group) (u : UnitName) (t : TaskNo) (ops : List (StructNo × Op)) (claims : List Claim) (c : Claim) → MayUnget g u t ops claims c → Laws g
    → AreMarked g.failed (with_task u.member t (open_task u ops claims) g.tasks) (at_structure c.connection.structure (with_entries (settle c.id.number u false)) g.shelves)
marked_ungets g u t ops claims c may laws =
    let s = c.connection.structure in
    let tasks = with_task u.member t (open_task u ops claims) g.tasks in
    every_structure (λ x shelf. MarksOf g.failed tasks x shelf.entries) s (with_entries (settle c.id.number u false)) g.shelves
    (λ id x there. elim (revise_cases (top_of (g.shelves s)) c.id.number id (settler u false) (g.shelves s).entries x (settler_keeps u false) (laws.shelves s).rising there) [
      | inl here ↦ elim (left_of u false here.1.mark here.1 x here.3).1 [
        | inl quiet ↦ quiet_mark g.failed tasks (structure_number s, id) x.message x.mark quiet
        | inr same ↦ subst (λ (y : Held). MarkNames g.failed tasks (structure_number s, id) y.message y.mark) (sym same.0)
            (other_ungot g u t ops claims c may (structure_number s, id) here.1.message here.1.mark (inr (same.1, same.2)) (laws.marked s id here.1 (subst (λ j. entry_at j (g.shelves s).entries ≡ Some here.1) here.0 here.2)))
      ]
      | inr other ↦ other_ungot g u t ops claims c may (structure_number s, id) x.message x.mark (inl (key_differs s s id c.id.number (λ e d. other.0 (sym d)))) (laws.marked s id x other.1)
    ])
    (λ x differ id e there. other_ungot g u t ops claims c may (structure_number x, id) e.message e.mark (inl (key_differs s x id c.id.number (λ same d. differ (ap structure_number same)))) (laws.marked x id e there))

marked_peer_settles : (g : Group) (s : StructNo) (n : ℕ) (u : UnitName) (commits : Bool) → Laws g → AreMarked g.failed g.tasks (at_structure s (with_entries (settle n u commits)) g.shelves)
marked_peer_settles g s n u commits laws = every_structure (λ x shelf. MarksOf g.failed g.tasks x shelf.entries) s (with_entries (settle n u commits)) g.shelves
    (λ id x there. elim (revise_cases (top_of (g.shelves s)) n id (settler u commits) (g.shelves s).entries x (settler_keeps u commits) (laws.shelves s).rising there) [
      | inl here ↦ elim (left_of u commits here.1.mark here.1 x here.3).1 [
        | inl quiet ↦ quiet_mark g.failed g.tasks (structure_number s, id) x.message x.mark quiet
        | inr same ↦ subst (λ (y : Held). MarkNames g.failed g.tasks (structure_number s, id) y.message y.mark) (sym same.0)
            (laws.marked s id here.1 (subst (λ j. entry_at j (g.shelves s).entries ≡ Some here.1) here.0 here.2))
      ]
      | inr other ↦ laws.marked s id x other.1
    ])
    (λ x differ. laws.marked x)

-- ---- a name is drawn, a unit ends

names_draw : (g : Group) (u v : UnitName) (t : TaskNo) (new : Task) (Due : Task → Type 0) → (g.tasks u.member t).unit ≡ None → Names g.failed g.tasks v Due → Names g.failed (with_task u.member t new g.tasks) v Due
names_draw g u v t new Due none names = elim names [
  | inl gone ↦ inl gone
  | inr live ↦ elim (cases_at u.member t (λ x. new) g.tasks v.member live.0) [
    | inl here ↦ absurd (none-some v (sym none ∙ subst (λ y. (g.tasks u.member y).unit ≡ Some v) here.1 (subst (λ y. (g.tasks y live.0).unit ≡ Some v) here.0 live.1)))
    | inr other ↦ inr (live.0, ap (λ (y : Task). y.unit) other.1 ∙ live.1, subst Due (sym other.1) live.2)
  ]
]

marks_draw : (g : Group) (u : UnitName) (t : TaskNo) (new : Task) (k : ℕ × ℕ) (msg : Message) (mark : Mark) → (g.tasks u.member t).unit ≡ None → MarkNames g.failed g.tasks k msg mark → MarkNames g.failed (with_task u.member t new g.tasks) k msg mark
marks_draw g u t new k msg Visible none names = tt
marks_draw g u t new k msg (PutBy v) none names = names_draw g u v t new (λ task. PutsBy task.stage task.ops task.claims k msg) none names
marks_draw g u t new k msg (GotBy v) none names = names_draw g u v t new (λ task. GetsBy task.stage task.ops task.claims k) none names
marks_draw g u t new k msg Cleanup none names = tt

drop_all : (claims : List Claim) (n : ℕ) (k : ℕ × ℕ) → length claims ≤ n → has_key (keys_claimed (drop n claims)) k ≡ true → ⊥
drop_all [] zero k le has = absurd cc
drop_all [] (suc n) k le has = absurd cc
drop_all (c ∷ claims) zero k le has = absurd (omega arith)
drop_all (c ∷ claims) (suc n) k le has = drop_all claims n k (omega arith) has

nothing_due : (claims : List Claim) (first : Option ℕ) (n : ℕ) (k : ℕ × ℕ) (msg : Message) → length claims ≤ n → (PutsBy (settling first n) [] claims k msg → ⊥) × (GetsBy (settling first n) [] claims k → ⊥)
nothing_due claims None n k msg le = ((λ due. drop_all claims n k le due), (λ due. drop_all claims n k le due))
nothing_due claims (Some first) n k msg le = ((λ due. drop_all claims n k le due), (λ due. drop_all claims n k le due))

names_finish : (g : Group) (u v : UnitName) (t : TaskNo) (old : Task) (Due : Task → Type 0) → g.tasks u.member t ≡ old → (Due old → ⊥) → Names g.failed g.tasks v Due → Names g.failed (with_task u.member t idle g.tasks) v Due
names_finish g u v t old Due is none names = elim names [
  | inl gone ↦ inl gone
  | inr live ↦ elim (cases_at u.member t (λ x. idle) g.tasks v.member live.0) [
    | inl here ↦ absurd (none (subst Due is (subst (λ y. Due (g.tasks u.member y)) here.1 (subst (λ y. Due (g.tasks y live.0)) here.0 live.2))))
    | inr other ↦ inr (live.0, ap (λ (y : Task). y.unit) other.1 ∙ live.1, subst Due (sym other.1) live.2)
  ]
]

marks_finish : (g : Group) (u : UnitName) (t : TaskNo) (claims : List Claim) (first : Option ℕ) (n : ℕ) → MayFinish g u t claims first n → (k : ℕ × ℕ) (msg : Message) (mark : Mark) → MarkNames g.failed g.tasks k msg mark → MarkNames g.failed (with_task u.member t idle g.tasks) k msg mark
marks_finish g u t claims first n may k msg Visible names = tt
marks_finish g u t claims first n may k msg (PutBy v) names = names_finish g u v t (settling_task u claims first n) (λ task. PutsBy task.stage task.ops task.claims k msg) may.has (nothing_due claims first n k msg may.through).0 names
marks_finish g u t claims first n may k msg (GotBy v) names = names_finish g u v t (settling_task u claims first n) (λ task. GetsBy task.stage task.ops task.claims k) may.has (nothing_due claims first n k msg may.through).1 names
marks_finish g u t claims first n may k msg Cleanup names = tt

pub marked_stays : (g h : Group) → Change g h → Laws g → AreMarked h.failed h.tasks h.shelves
marked_stays g _ (Draws _ u t may) laws = λ s id e there. marks_draw g u t (open_task u [] []) (structure_number s, id) e.message e.mark (ap (λ (x : Task). x.unit) may.free) (laws.marked s id e there)
marked_stays g _ (Puts _ u t ops claims s m outside may) laws = marked_puts g u t ops claims s m outside may laws
marked_stays g _ (Gets _ u t ops claims s m outside may) laws = marked_gets g u t ops claims s m outside may laws
marked_stays g _ (Ungets _ u t ops claims c may) laws = marked_ungets g u t ops claims c may laws
marked_stays g _ (Forgets _ s n may) laws = λ x id e there. laws.marked x id e (was_there g s n laws x id e there)
marked_stays g _ (Begins _ u t ops claims may) laws = marks_go g u.member t (open_task u ops claims) (hardening_task u ops claims (g.logs u.member).next) may.has refl (λ v k msg mark is. record { puts_go = λ e due. due; gots_go = λ e due. due }) laws
marked_stays g _ (Hardens _ u t ops claims first next may) laws = marks_go g u.member t (hardening_task u ops claims first) (settling_task u claims (Some (g.logs u.member).next) 0) may.has refl
    (λ v k msg mark is. claimed_goes g u v ops claims (Hardening (record { number = first })) Open (Some (g.logs u.member).next) (ready_of g u t (hardening_task u ops claims first) may.has refl refl laws) k msg mark (λ due. due) (λ due. due)) laws
marked_stays g _ (BacksOut _ u t ops claims may) laws = marks_go g u.member t (open_task u ops claims) (settling_task u claims None 0) may.has refl
    (λ v k msg mark is. claimed_goes g u v ops claims Open Open None (ready_of g u t (open_task u ops claims) may.has refl refl laws) k msg mark (λ due. due) (λ due. due)) laws
marked_stays g _ (Settles _ u t claims first n c may) laws = marked_settles g u t claims first n c may laws
marked_stays g _ (Finishes _ u t claims first n may) laws = λ s id e there. marks_finish g u t claims first n may (structure_number s, id) e.message e.mark (laws.marked s id e there)
marked_stays g _ (Crashes _ m may) laws = λ s id e there. mark_crash g m (structure_number s, id) e.message e.mark may laws (laws.marked s id e there)
marked_stays g _ (Stops _ m may) laws = λ s id e there. mark_stop g m (structure_number s, id) e.message e.mark may (laws.marked s id e there)
marked_stays g _ (PeerSettles _ s id u may) laws = marked_peer_settles g s id u (is_committed g.logs u) laws
marked_stays g _ (Resolves _ m i may) laws = λ s id e there. mark_resolve g m i (structure_number s, id) e.message e.mark (may.unnamed s id e there) (laws.marked s id e there)
marked_stays g _ (Loses _ s may) laws = every_structure (λ x shelf. MarksOf g.failed g.tasks x shelf.entries) s lost_shelf g.shelves (λ id e there. absurd cc) (λ x differ. laws.marked x)
marked_stays g _ (Recovers _ s m i may) laws = every_structure (λ x shelf. MarksOf g.failed g.tasks x shelf.entries) s (in_recovery m i) g.shelves (λ id e there. absurd cc) (λ x differ. laws.marked x)
marked_stays g _ (Reopens _ s may) laws = every_structure (λ x shelf. MarksOf g.failed g.tasks x shelf.entries) s (reopened_shelf (g.tops s)) g.shelves (laws.marked s) (λ x differ. laws.marked x)
marked_stays g _ _ laws = laws.marked
