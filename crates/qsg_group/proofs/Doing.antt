-- What undecided units did stands in the structures, under their marks.
use Rattle.std.proofs.lemmas.Bool.{both_ways}
use Rattle.qsg_group.specs.Changes.Change.{Recovers, Reopens}
use Rattle.qsg_group.proofs.Purging.{unput_elsewhere, ungot_elsewhere}
use Rattle.qsg_group.specs.Changes.{in_recovery, reopened_shelf}
use Rattle.qsg_lists.specs.Recovering.{is_recovering}
use Rattle.qsg_model.proofs.Keyed.{message_at-key}
use Rattle.std.proofs.Common.{◌≡◌, ℕ, ◌+◌, Bool, true, false, cond, List, [], ◌∷◌, ◌++◌, Option, Some, None, refl, sym, ap, subst, ◌∙◌, arith, inl, inr}
use Rattle.std.specs.Prelude.{◌⊎◌}
use Rattle.std.specs.Option.{option_and_then}
use Rattle.std.proofs.lemmas.Bool.{cases_Bool, or_cases}
use Rattle.std.proofs.lemmas.Option.{same_Some, none-some}
use Rattle.qsg_num.specs.declared.seats.StructNo.{StructNo}
use Rattle.qsg_num.specs.declared.seats.TaskNo.{TaskNo}
use Rattle.qsg_num.specs.declared.ids.UnitName.{UnitName}
use Rattle.qsg_num.specs.declared.ids.EntryId.{EntryId}
use Rattle.qsg_num.specs.Seats.{structure_number}
use Rattle.qsg_num.specs.Ids.{same_unit}
use Rattle.qsg_msg.specs.declared.message.Message.{Message}
use Rattle.qsg_model.specs.declared.history.Op.{Op}
use Rattle.qsg_model.specs.declared.history.Op.TheVariants.{Put, Got}
use Rattle.qsg_model.specs.History.{key, same_key, puts}
use Rattle.qsg_model.specs.Past.{message_at, is_put, is_got, or_else}
use Rattle.qsg_model.proofs.Differing.{same_key-true, same_key-self}
use Rattle.qsg_lists.specs.declared.parts.Mark.{Mark}
use Rattle.qsg_lists.specs.declared.parts.Mark.TheVariants.{Visible, PutBy, GotBy, Cleanup}
use Rattle.qsg_lists.specs.Structures.{is_active}
use Rattle.qsg_group.specs.declared.tasks.Claim.{Claim}
use Rattle.qsg_group.specs.declared.tasks.Task.{Task}
use Rattle.qsg_group.specs.Tables.{at_structure}
use Rattle.qsg_group.specs.Group.{Held, Shelf, Group, idle}
use Rattle.qsg_group.specs.Observers.{entry_at, top_of, revise, is_committed, is_undecided}
use Rattle.qsg_group.specs.Laws.{Has, IsDone, AreDone, Laws}
use Rattle.qsg_group.specs.Changes.{open_task, hardening_task, settling, is_commit, settling_task, with_entry, with_entries, marked, settled_entry, settle, forget, lost_shelf, claim_of, MayPut, MayGet, MayUnget, MayForget, MayBegin, MayHarden, MayBackOut, MaySettle, MayPeerSettle, Change}
use Rattle.qsg_group.specs.Changes.Change.{Draws, Puts, Gets, Ungets, Forgets, Begins, Hardens, BacksOut, Settles, Finishes, Publishes, GivesUp, Crashes, Stops, Starts, PeerSettles, Resolves, Loses}
use Rattle.qsg_group.proofs.Tables.{every_structure}
use Rattle.qsg_group.proofs.Entries.{num, above_none, push_same, push_kept, revise_same, revise_other, revise_stays}
use Rattle.qsg_group.proofs.Keys.{puts_of_got, got_put, got_got, gots_front, got_before, message_of_put}
use Rattle.qsg_group.proofs.Holding.{with_task, got_task, cases_has, every_after}
use Rattle.qsg_group.proofs.Pages.{has_unit, same_name}
use Rattle.qsg_group.proofs.Logs.{ready_of}
use Rattle.qsg_group.proofs.Failing.{every_crashed, unfailed}
use Rattle.qsg_group.proofs.Shelves.{settler, settler_keeps, marker_keeps, forgetter_keeps}
use Rattle.qsg_group.proofs.Following.{name_apart, undecided_not}
use Rattle.qsg_group.proofs.Marks.{none_yet}

-- this unit's marks stand as they stood
pub record Stands (u : UnitName) (old new : List Held) : Type 0 where
  pub puts_stay : (id : ℕ) (m : Message) (outside : Bool) → entry_at id old ≡ Some (record { message = m; mark = PutBy u; outside = outside }) → entry_at id new ≡ Some (record { message = m; mark = PutBy u; outside = outside })
  pub gots_stay : (id : ℕ) (m : Message) (outside : Bool) → entry_at id old ≡ Some (record { message = m; mark = GotBy u; outside = outside }) → entry_at id new ≡ Some (record { message = m; mark = GotBy u; outside = outside })

done_stands : (u : UnitName) (ops : List (StructNo × Op)) (s : ℕ) (old new : List Held) → Stands u old new → IsDone u ops s old → IsDone u ops s new
done_stands u ops s old new stands done = record {
  puts_stand = λ id m found. let d = done.puts_stand id m found in (d.0, stands.puts_stay id m d.0 d.1);
  gots_stand = λ id got. let d = done.gots_stand id got in (d.0, d.1, stands.gots_stay id d.0 d.1 d.2);
}

no_ops : (u : UnitName) (s : ℕ) (es : List Held) → IsDone u [] s es
no_ops u s es = record { puts_stand = λ id m found. absurd cc; gots_stand = λ id got. absurd cc }

-- what an undecided task did, over all structures
abbrev DoneBy : (StructNo → Shelf) → UnitName → Task → Type 0
DoneBy shelves u task = is_undecided task.stage ≡ true → (s : StructNo) → is_active (shelves s).state ≡ true → IsDone u task.ops (structure_number s) (shelves s).entries

done_of : (g : Group) (u : UnitName) (t : TaskNo) (task : Task) → g.tasks u.member t ≡ task → task.unit ≡ Some u → Laws g → DoneBy g.shelves u task
done_of g u t task has unit laws = subst (λ (x : Task). DoneBy g.shelves u x) has (laws.done u t (has_unit g u t task has unit))

-- ---- a put

stands_put : (v : UnitName) (es : List Held) (e : Held) → Stands v es (es ++ e ∷ [])
stands_put v es e = record {
  puts_stay = λ id m outside there. push_kept id es e (record { message = m; mark = PutBy v; outside = outside }) there;
  gots_stay = λ id m outside there. push_kept id es e (record { message = m; mark = GotBy v; outside = outside }) there;
}

or_else_parts : (o : Option Message) (b : Bool) (m x : Message) → or_else o (cond b (Some m) None) ≡ Some x → (o ≡ Some x) ⊎ ((b ≡ true) × (m ≡ x))
or_else_parts None true m x is = inr (refl, same_Some m x is)
or_else_parts None false m x is = absurd cc
or_else_parts (Some y) b m x is = inl is

own_put : (g : Group) (u : UnitName) (t : TaskNo) (ops : List (StructNo × Op)) (claims : List Claim) (s : StructNo) (m : Message) (outside : Bool) → MayPut g u t ops claims s m → Laws g
    → (x : StructNo) → is_active (at_structure s (with_entry (record { message = m; mark = PutBy u; outside = outside })) g.shelves x).state ≡ true → IsDone u (ops ++ (s, Put m) ∷ []) (structure_number x) (at_structure s (with_entry (record { message = m; mark = PutBy u; outside = outside })) g.shelves x).entries
own_put g u t ops claims s m outside may laws =
    let e : Held = record { message = m; mark = PutBy u; outside = outside } in
    let old = done_of g u t (open_task u ops claims) may.has refl laws refl in
    every_structure (λ x shelf. is_active shelf.state ≡ true → IsDone u (ops ++ (s, Put m) ∷ []) (structure_number x) shelf.entries) s (with_entry e) g.shelves
    (λ active. let stands = stands_put u (g.shelves s).entries e in let was = old s active in record {
      puts_stand = λ id x found. elim (or_else_parts (message_at (structure_number s, id) (puts ops)) (same_key (structure_number s, id) (key m)) m x (sym (message_of_put (structure_number s, id) ops s m) ∙ found)) [
        | inl before ↦ let d = was.puts_stand id x before in (d.0, stands.puts_stay id x d.0 d.1)
        | inr here ↦
            let at : m.id.number ≡ id = sym (ap (λ (k : ℕ × ℕ). k.1) (same_key-true (structure_number s, id) (key m) here.0)) in (
              outside,
              subst (λ n. entry_at n ((g.shelves s).entries ++ e ∷ []) ≡ Some (record { message = x; mark = PutBy u; outside = outside })) at
                  (push_same (g.shelves s).entries e (none_yet g u t ops claims s m may laws) ∙ ap (λ (y : Message). Some (record { message = y; mark = PutBy u; outside = outside })) here.1),
            )
      ];
      gots_stand = λ id got. let d = was.gots_stand id (sym (got_put (structure_number s, id) ops s m) ∙ got) in (d.0, d.1, stands.gots_stay id d.0 d.1 d.2);
    })
    (λ x differ active. let was = old x active in record {
      puts_stand = λ id y found. elim (or_else_parts (message_at (structure_number x, id) (puts ops)) (same_key (structure_number x, id) (key m)) m y (sym (message_of_put (structure_number x, id) ops s m) ∙ found)) [
        | inl before ↦ was.puts_stand id y before
        | inr here ↦ absurd (differ (ap (λ (k : ℕ × ℕ). k.0) (same_key-true (structure_number x, id) (key m) here.0) ∙ ap structure_number may.own))
      ];
      gots_stand = λ id got. was.gots_stand id (sym (got_put (structure_number x, id) ops s m) ∙ got);
    })

other_put : (g : Group) (s : StructNo) (e : Held) (v : UnitName) (task : Task) → DoneBy g.shelves v task → DoneBy (at_structure s (with_entry e) g.shelves) v task
other_put g s e v task done undecided = every_structure (λ x shelf. is_active shelf.state ≡ true → IsDone v task.ops (structure_number x) shelf.entries) s (with_entry e) g.shelves
    (λ active. done_stands v task.ops (structure_number s) (g.shelves s).entries ((g.shelves s).entries ++ e ∷ []) (stands_put v (g.shelves s).entries e) (done undecided s active))
    (λ x differ active. done undecided x active)

-- ---- a change of one entry that isn't the unit's

stands_revise : (g : Group) (s : StructNo) (v : UnitName) (id : ℕ) (f : Held → Option Held) → Rattle.qsg_group.proofs.Entries.KeepsId f
    → ((m : Message) (outside : Bool) → entry_at id (g.shelves s).entries ≡ Some (record { message = m; mark = PutBy v; outside = outside }) → f (record { message = m; mark = PutBy v; outside = outside }) ≡ Some (record { message = m; mark = PutBy v; outside = outside }))
    → ((m : Message) (outside : Bool) → entry_at id (g.shelves s).entries ≡ Some (record { message = m; mark = GotBy v; outside = outside }) → f (record { message = m; mark = GotBy v; outside = outside }) ≡ Some (record { message = m; mark = GotBy v; outside = outside }))
    → Laws g → Stands v (g.shelves s).entries (revise id f (g.shelves s).entries)
stands_revise g s v id f keeps put got laws = record {
  puts_stay = λ j m outside there. revise_stays (top_of (g.shelves s)) id j f (g.shelves s).entries (record { message = m; mark = PutBy v; outside = outside }) keeps (laws.shelves s).rising (λ at. put m outside at) there;
  gots_stay = λ j m outside there. revise_stays (top_of (g.shelves s)) id j f (g.shelves s).entries (record { message = m; mark = GotBy v; outside = outside }) keeps (laws.shelves s).rising (λ at. got m outside at) there;
}

other_revise : (g : Group) (s : StructNo) (f : List Held → List Held) (v : UnitName) (task : Task) → Stands v (g.shelves s).entries (f (g.shelves s).entries) → DoneBy g.shelves v task → DoneBy (at_structure s (with_entries f) g.shelves) v task
other_revise g s f v task stands done undecided = every_structure (λ x shelf. is_active shelf.state ≡ true → IsDone v task.ops (structure_number x) shelf.entries) s (with_entries f) g.shelves
    (λ active. done_stands v task.ops (structure_number s) (g.shelves s).entries (f (g.shelves s).entries) stands (done undecided s active))
    (λ x differ active. done undecided x active)

-- ---- a get

not_marked : (es : List Held) (id : ℕ) (m x : Message) (a b : Bool) (mark : Mark) → (Visible ≡ mark → ⊥) → entry_at id es ≡ Some (record { message = m; mark = Visible; outside = a }) → entry_at id es ≡ Some (record { message = x; mark = mark; outside = b }) → ⊥
not_marked es id m x a b mark differ there other = differ (ap (λ (y : Held). y.mark) (same_Some (record { message = m; mark = Visible; outside = a }) (record { message = x; mark = mark; outside = b }) (sym there ∙ other)))

stands_got : (g : Group) (u : UnitName) (t : TaskNo) (ops : List (StructNo × Op)) (claims : List Claim) (s : StructNo) (m : Message) (outside : Bool) → MayGet g u t ops claims s m outside → Laws g → (v : UnitName) → Stands v (g.shelves s).entries (revise m.id.number (marked (GotBy u)) (g.shelves s).entries)
stands_got g u t ops claims s m outside may laws v = stands_revise g s v m.id.number (marked (GotBy u)) (marker_keeps (GotBy u))
    (λ x out there. absurd (not_marked (g.shelves s).entries m.id.number m x outside out (PutBy v) (λ e. cc) may.there there))
    (λ x out there. absurd (not_marked (g.shelves s).entries m.id.number m x outside out (GotBy v) (λ e. cc) may.there there)) laws

own_got : (g : Group) (u : UnitName) (t : TaskNo) (ops : List (StructNo × Op)) (claims : List Claim) (s : StructNo) (m : Message) (outside : Bool) → MayGet g u t ops claims s m outside → Laws g
    → (x : StructNo) → is_active (at_structure s (with_entries (revise m.id.number (marked (GotBy u)))) g.shelves x).state ≡ true → IsDone u (ops ++ (s, Got m.id) ∷ []) (structure_number x) (at_structure s (with_entries (revise m.id.number (marked (GotBy u)))) g.shelves x).entries
own_got g u t ops claims s m outside may laws =
    let f = marked (GotBy u) in
    let old = done_of g u t (open_task u ops claims) may.has refl laws refl in
    every_structure (λ x shelf. is_active shelf.state ≡ true → IsDone u (ops ++ (s, Got m.id) ∷ []) (structure_number x) shelf.entries) s (with_entries (revise m.id.number f)) g.shelves
    (λ active. let stands = stands_got g u t ops claims s m outside may laws u in let was = old s active in record {
      puts_stand = λ id x found. let d = was.puts_stand id x (ap (message_at (structure_number s, id)) (sym (puts_of_got ops s m.id)) ∙ found) in (d.0, stands.puts_stay id x d.0 d.1);
      gots_stand = λ id got. elim (or_cases (is_got (structure_number s, id) ops) (same_key (structure_number s, id) (structure_number s, m.id.number)) (sym (got_got (structure_number s, id) ops s m.id) ∙ got)) [
        | inl before ↦ let d = was.gots_stand id before in (d.0, d.1, stands.gots_stay id d.0 d.1 d.2)
        | inr same ↦
            let at : m.id.number ≡ id = sym (ap (λ (k : ℕ × ℕ). k.1) (same_key-true (structure_number s, id) (structure_number s, m.id.number) same)) in (
              m,
              outside,
              subst (λ n. entry_at n (revise m.id.number f (g.shelves s).entries) ≡ Some (record { message = m; mark = GotBy u; outside = outside })) at
                  (revise_same (top_of (g.shelves s)) m.id.number f (g.shelves s).entries (marker_keeps (GotBy u)) (laws.shelves s).rising ∙ ap (option_and_then f) may.there),
            )
      ];
    })
    (λ x differ active. let was = old x active in record {
      puts_stand = λ id y found. was.puts_stand id y (ap (message_at (structure_number x, id)) (sym (puts_of_got ops s m.id)) ∙ found);
      gots_stand = λ id got. elim (or_cases (is_got (structure_number x, id) ops) (same_key (structure_number x, id) (structure_number s, m.id.number)) (sym (got_got (structure_number x, id) ops s m.id) ∙ got)) [
        | inl before ↦ was.gots_stand id before
        | inr same ↦ absurd (differ (ap (λ (k : ℕ × ℕ). k.0) (same_key-true (structure_number x, id) (structure_number s, m.id.number) same)))
      ];
    })

-- ---- a settle

leaves_put : (u v : UnitName) (commits : Bool) (e : Held) → same_unit u v ≡ false → settled_entry u commits (PutBy v) e ≡ Some e
leaves_put u v commits e differ = ap (λ b. cond b (cond commits (marked Visible e) (Rattle.qsg_group.specs.Changes.removed e)) (Some e)) differ

leaves_got : (u v : UnitName) (commits : Bool) (e : Held) → same_unit u v ≡ false → settled_entry u commits (GotBy v) e ≡ Some e
leaves_got u v commits e differ = ap (λ b. cond b (cond commits (Rattle.qsg_group.specs.Changes.removed e) (marked Visible e)) (Some e)) differ

stands_settled : (g : Group) (u v : UnitName) (s : StructNo) (id : ℕ) (commits : Bool) → same_unit u v ≡ false → Laws g → Stands v (g.shelves s).entries (settle id u commits (g.shelves s).entries)
stands_settled g u v s id commits differ laws = stands_revise g s v id (settler u commits) (settler_keeps u commits)
    (λ m outside there. leaves_put u v commits (record { message = m; mark = PutBy v; outside = outside }) differ)
    (λ m outside there. leaves_got u v commits (record { message = m; mark = GotBy v; outside = outside }) differ) laws

done_settles : (g : Group) (u : UnitName) (t : TaskNo) (claims : List Claim) (first : Option ℕ) (n : ℕ) (c : Claim) → MaySettle g u t claims first n c → Laws g
    → AreDone (with_task u.member t (settling_task u claims first (n + 1)) g.tasks) (at_structure c.connection.structure (with_entries (settle c.id.number u (is_commit first))) g.shelves)
done_settles g u t claims first n c may laws v w has =
    let new = settling_task u claims first (n + 1) in
    let f = settle c.id.number u (is_commit first) in
    let shelves = at_structure c.connection.structure (with_entries f) g.shelves in
    let at = has_unit g u t (settling_task u claims first n) may.has refl in
    elim (cases_has g.tasks u.member t new v w has) [
      | inl here ↦ subst (DoneBy shelves v) (sym here.3) (λ undecided. absurd (undecided_not first (n + 1) undecided))
      | inr other ↦ subst (DoneBy shelves v) (sym other.2)
          (other_revise g c.connection.structure f v (g.tasks v.member w) (stands_settled g u v c.connection.structure c.id.number (is_commit first) (name_apart g u v t w at other.1 other.0 laws) laws) (laws.done v w other.1))
    ]

-- ---- a get is undone

-- what the unit did before stands: it is of other entries
before_stands : (g : Group) (u : UnitName) (s : StructNo) (ops : List (StructNo × Op)) (id : EntryId) → is_got (structure_number s, id.number) ops ≡ false → Laws g
    → IsDone u (ops ++ (s, Got id) ∷ []) (structure_number s) (g.shelves s).entries → IsDone u ops (structure_number s) (settle id.number u false (g.shelves s).entries)
before_stands g u s ops id ungot laws done =
    let es = (g.shelves s).entries in
    let k : ℕ × ℕ = (structure_number s, id.number) in
    let last = done.gots_stand id.number (got_got k ops s id ∙ (let own = same_key-self k in grind (arith, own))) in
    record {
      puts_stand = λ j m found.
          let d = done.puts_stand j m (ap (message_at (structure_number s, j)) (puts_of_got ops s id) ∙ found) in
          (d.0, revise_other id.number j (settler u false) es (settler_keeps u false) (λ e. absurd_marks u (entry_at j es) (record { message = m; mark = PutBy u; outside = d.0 }) (record { message = last.0; mark = GotBy u; outside = last.1 }) d.1 (subst (λ n. entry_at n es ≡ Some (record { message = last.0; mark = GotBy u; outside = last.1 })) e last.2) refl refl) ∙ d.1);
      gots_stand = λ j got.
          let d = done.gots_stand j (got_before (structure_number s, j) ops s id got) in
          (d.0, d.1, revise_other id.number j (settler u false) es (settler_keeps u false) (λ e. both_ways (is_got (structure_number s, j) ops) (subst (λ n. is_got (structure_number s, n) ops ≡ false) e ungot) got) ∙ d.2);
    }
  where
    absurd_marks : (u : UnitName) (o : Option Held) (x y : Held) → o ≡ Some x → o ≡ Some y → x.mark ≡ PutBy u → y.mark ≡ GotBy u → ⊥
    absurd_marks u o x y a b put got = let same : PutBy u ≡ GotBy u = sym put ∙ ap (λ (e : Held). e.mark) (same_Some x y (sym a ∙ b)) ∙ got in absurd cc

own_ungot : (g : Group) (u : UnitName) (t : TaskNo) (ops : List (StructNo × Op)) (claims : List Claim) (c : Claim) → MayUnget g u t ops claims c → Laws g
    → (x : StructNo) → is_active (at_structure c.connection.structure (with_entries (settle c.id.number u false)) g.shelves x).state ≡ true → IsDone u ops (structure_number x) (at_structure c.connection.structure (with_entries (settle c.id.number u false)) g.shelves x).entries
own_ungot g u t ops claims c may laws =
    let s = c.connection.structure in
    let old = done_of g u t (got_task u ops claims c) may.has refl laws refl in
    let ready = ready_of g u t (got_task u ops claims c) may.has refl refl laws in
    every_structure (λ x shelf. is_active shelf.state ≡ true → IsDone u ops (structure_number x) shelf.entries) s (with_entries (settle c.id.number u false)) g.shelves
    (λ active. before_stands g u s ops c.id (gots_front ops s c.id ready.gots_differ).1 laws (old s active))
    (λ x differ active. let was = old x active in record {
      puts_stand = λ id y found. was.puts_stand id y (ap (message_at (structure_number x, id)) (puts_of_got ops s c.id) ∙ found);
      gots_stand = λ id got. was.gots_stand id (got_before (structure_number x, id) ops s c.id got);
    })

done_ungets : (g : Group) (u : UnitName) (t : TaskNo) (ops : List (StructNo × Op)) (claims : List Claim) (c : Claim) → MayUnget g u t ops claims c → Laws g
    → AreDone (with_task u.member t (open_task u ops claims) g.tasks) (at_structure c.connection.structure (with_entries (settle c.id.number u false)) g.shelves)
done_ungets g u t ops claims c may laws v w has =
    let new = open_task u ops claims in
    let s = c.connection.structure in
    let f = settle c.id.number u false in
    let shelves = at_structure s (with_entries f) g.shelves in
    let at = has_unit g u t (got_task u ops claims c) may.has refl in
    elim (cases_has g.tasks u.member t new v w has) [
      | inl here ↦ subst (DoneBy shelves v) (sym here.3) (subst (λ (x : UnitName). DoneBy shelves x new) (same_Some u v here.2) (λ undecided. own_ungot g u t ops claims c may laws))
      | inr other ↦ subst (DoneBy shelves v) (sym other.2)
          (other_revise g s f v (g.tasks v.member w) (stands_settled g u v s c.id.number false (name_apart g u v t w at other.1 other.0 laws) laws) (laws.done v w other.1))
    ]

-- ---- an entry goes

stands_forgotten : (g : Group) (v : UnitName) (s : StructNo) (id : ℕ) → MayForget g s id → Laws g → Stands v (g.shelves s).entries (forget id (g.shelves s).entries)
stands_forgotten g v s id may laws = stands_revise g s v id (λ e. None) forgetter_keeps
    (λ m outside there. absurd (unmarked (PutBy v) m outside (λ e. cc) there))
    (λ m outside there. absurd (unmarked (GotBy v) m outside (λ e. cc) there)) laws
  where
    unmarked : (mark : Mark) (m : Message) (outside : Bool) → (Cleanup ≡ mark → ⊥) → entry_at id (g.shelves s).entries ≡ Some (record { message = m; mark = mark; outside = outside }) → ⊥
    unmarked mark m outside differ there = differ (sym may.mark ∙ ap (λ (e : Held). e.mark) (same_Some may.entry (record { message = m; mark = mark; outside = outside }) (sym may.there ∙ there)))

-- ---- a settle by a peer

-- a unit in hand isn't one that failed
not_failed : (g : Group) (u v : UnitName) (w : TaskNo) → MayPeerSettle g u → Has g.tasks v w → Laws g → same_unit u v ≡ false
not_failed g u v w may has laws = elim (cases_Bool (same_unit u v)) [
  | inl same ↦ absurd (unfailed g v w has laws (subst (λ (x : UnitName). g.failed x.member x.incarnation.number ≡ true) (same_name u v same) may.failed))
  | inr apart ↦ apart
]

-- a unit that has no work on a structure did nothing there
rested : (g : Group) (v : UnitName) (w : TaskNo) (s : StructNo) → is_recovering (g.shelves s).state ≡ true → Has g.tasks v w → is_undecided (g.tasks v.member w).stage ≡ true → Laws g → IsDone v (g.tasks v.member w).ops (structure_number s) (g.shelves s).entries
rested g v w s recovers has undecided laws =
    let task = g.tasks v.member w in
    let matched = (laws.ready v w has undecided).matched in
    let rests = laws.resting s recovers v w has in
    record {
      puts_stand = λ id m found. absurd (both_ways (is_put (structure_number s, id) task.ops) (unput_elsewhere g.history s id task.ops task.claims matched rests) (message_at-key (structure_number s, id) (puts task.ops) m found).1);
      gots_stand = λ id got. absurd (both_ways (is_got (structure_number s, id) task.ops) (ungot_elsewhere g.history s id task.ops task.claims matched rests) got);
    }

pub done_stays : (g h : Group) → Change g h → Laws g → AreDone h.tasks h.shelves
done_stays g _ (Draws _ u t may) laws = every_after g.tasks u.member t (open_task u [] []) (λ v task. DoneBy g.shelves v task) (λ v e is. λ undecided s active. no_ops v (structure_number s) (g.shelves s).entries) laws.done
done_stays g _ (Puts _ u t ops claims s m outside may) laws =
    let e : Held = record { message = m; mark = PutBy u; outside = outside } in
    let new = open_task u (ops ++ (s, Put m) ∷ []) (claims ++ claim_of s (g.shelves s) m ∷ []) in
    every_after g.tasks u.member t new (λ v task. DoneBy (at_structure s (with_entry e) g.shelves) v task)
    (λ v i is. subst (λ (x : UnitName). DoneBy (at_structure s (with_entry e) g.shelves) x new) (same_Some u v is) (λ undecided. own_put g u t ops claims s m outside may laws))
    (λ v w has. other_put g s e v (g.tasks v.member w) (laws.done v w has))
done_stays g _ (Gets _ u t ops claims s m outside may) laws =
    let f = revise m.id.number (marked (GotBy u)) in
    let new = open_task u (ops ++ (s, Got m.id) ∷ []) (claims ++ claim_of s (g.shelves s) m ∷ []) in
    every_after g.tasks u.member t new (λ v task. DoneBy (at_structure s (with_entries f) g.shelves) v task)
    (λ v i is. subst (λ (x : UnitName). DoneBy (at_structure s (with_entries f) g.shelves) x new) (same_Some u v is) (λ undecided. own_got g u t ops claims s m outside may laws))
    (λ v w has. other_revise g s f v (g.tasks v.member w) (stands_got g u t ops claims s m outside may laws v) (laws.done v w has))
done_stays g _ (Ungets _ u t ops claims c may) laws = done_ungets g u t ops claims c may laws
done_stays g _ (Forgets _ s id may) laws = λ v w has. other_revise g s (forget id) v (g.tasks v.member w) (stands_forgotten g v s id may laws) (laws.done v w has)
done_stays g _ (Begins _ u t ops claims may) laws =
    let new = hardening_task u ops claims (g.logs u.member).next in
    every_after g.tasks u.member t new (λ v task. DoneBy g.shelves v task)
    (λ v i is. subst (λ (x : UnitName). DoneBy g.shelves x new) (same_Some u v is) (λ undecided. done_of g u t (open_task u ops claims) may.has refl laws refl)) laws.done
done_stays g _ (Hardens _ u t ops claims first next may) laws = every_after g.tasks u.member t (settling_task u claims (Some (g.logs u.member).next) 0) (λ v task. DoneBy g.shelves v task) (λ v e is. λ undecided. absurd cc) laws.done
done_stays g _ (BacksOut _ u t ops claims may) laws = every_after g.tasks u.member t (settling_task u claims None 0) (λ v task. DoneBy g.shelves v task) (λ v e is. λ undecided. absurd cc) laws.done
done_stays g _ (Settles _ u t claims first n c may) laws = done_settles g u t claims first n c may laws
done_stays g _ (Finishes _ u t claims first n may) laws = every_after g.tasks u.member t idle (λ v task. DoneBy g.shelves v task) (λ v e is. absurd (none-some v is)) laws.done
done_stays g _ (Crashes _ m may) laws = every_crashed g.tasks m (λ v task. DoneBy g.shelves v task) laws.done
done_stays g _ (Stops _ m may) laws = every_crashed g.tasks m (λ v task. DoneBy g.shelves v task) laws.done
done_stays g _ (PeerSettles _ s id u may) laws = λ v w has.
    other_revise g s (settle id u (is_committed g.logs u)) v (g.tasks v.member w) (stands_settled g u v s id (is_committed g.logs u) (not_failed g u v w may has laws) laws) (laws.done v w has)
done_stays g _ (Loses _ s may) laws = λ v w has undecided. every_structure (λ x shelf. is_active shelf.state ≡ true → IsDone v (g.tasks v.member w).ops (structure_number x) shelf.entries) s lost_shelf g.shelves
    (λ active. absurd cc) (λ x differ active. laws.done v w has undecided x active)
done_stays g _ (Recovers _ s m i may) laws = λ v w has undecided. every_structure (λ x shelf. is_active shelf.state ≡ true → IsDone v (g.tasks v.member w).ops (structure_number x) shelf.entries) s (in_recovery m i) g.shelves
    (λ active. absurd cc) (λ x differ active. laws.done v w has undecided x active)
done_stays g _ (Reopens _ s may) laws = λ v w has undecided. every_structure (λ x shelf. is_active shelf.state ≡ true → IsDone v (g.tasks v.member w).ops (structure_number x) shelf.entries) s (reopened_shelf (g.tops s)) g.shelves
    (λ active. rested g v w s may.recovering has undecided laws) (λ x differ active. laws.done v w has undecided x active)
done_stays g _ _ laws = laws.done
