-- The laws on the history and on the units that may still join it.
use Rattle.qsg_group.specs.Changes.Change.{Purges}
use Rattle.qsg_group.proofs.Purging.{ready_purged}
use Rattle.qsg_model.specs.declared.history.Item.TheVariants.{Purged}
use Rattle.std.proofs.Common.{◌≡◌, ℕ, ◌+◌, ◌*◌, ◌^◌, ◌<◌, Bool, true, false, List, [], ◌∷◌, ◌++◌, Option, Some, None, refl, sym, ap, subst, ◌∙◌, arith, inl, inr}
use Rattle.std.specs.Option.{option_and_then}
use Rattle.std.proofs.lemmas.Bool.{cases_Bool, both_ways, or_cases}
use Rattle.std.proofs.lemmas.Option.{same_Some, none-some}
use Rattle.qsg_num.specs.declared.seats.Member.{Member}
use Rattle.qsg_num.specs.declared.seats.StructNo.{StructNo}
use Rattle.qsg_num.specs.declared.seats.TaskNo.{TaskNo}
use Rattle.qsg_num.specs.declared.ids.UnitName.{UnitName}
use Rattle.qsg_num.specs.declared.ids.EntryId.{EntryId}
use Rattle.qsg_num.specs.Seats.{structure_number}
use Rattle.qsg_num.specs.Ids.{same_unit, id_at}
use Rattle.qsg_msg.specs.declared.message.Message.{Message}
use Rattle.qsg_model.specs.declared.history.Op.{Op}
use Rattle.qsg_model.specs.declared.history.Op.TheVariants.{Put, Got}
use Rattle.qsg_model.specs.declared.history.Item.{Item}
use Rattle.qsg_model.specs.declared.history.Item.TheVariants.{Unit as UnitOf, Lost}
use Rattle.qsg_model.specs.History.{key, same_key, puts, gots, AllDiffer, Legal}
use Rattle.qsg_model.specs.Past.{keys_of, is_put, is_got, was_put, was_got, held_at, Follows}
use Rattle.qsg_model.proofs.Growing.{legal_grows, was_put-push, was_got-push, quiet_legal}
use Rattle.qsg_model.proofs.Differing.{differ_push, not_in, same_key-true, same_key-self}
use Rattle.qsg_model.proofs.Past.{unput_is_unheld, got_is_unheld, held_was_put}
use Rattle.qsg_lists.specs.declared.parts.Mark.TheVariants.{Visible, GotBy}
use Rattle.qsg_lists.specs.Structures.{is_active}
use Rattle.qsg_group.specs.declared.tasks.Claim.{Claim}
use Rattle.qsg_group.specs.declared.tasks.Task.{Task}
use Rattle.qsg_group.specs.Group.{Held, Group, idle}
use Rattle.qsg_group.specs.Observers.{entry_at, top_of, counted, is_undecided, is_hardened, is_persistent}
use Rattle.qsg_group.specs.Laws.{Has, IsReady, AreReady, AreApart, UnitsAreApart, Laws}
use Rattle.qsg_group.specs.Changes.{open_task, hardening_task, settling, settling_task, idle_tasks, claim_of, MayPut, MayGet, MayHarden, Change, hardened}
use Rattle.qsg_group.specs.Changes.Change.{Draws, Puts, Gets, Ungets, Begins, Hardens, BacksOut, Settles, Finishes, Crashes, Stops, Loses}
use Rattle.qsg_group.proofs.Keys.{puts_of_put, puts_of_got, gots_of_put, gots_of_got, keys-append, put_put, put_got, got_put, got_got, gots_front, got_before, matched_push, matched_front, matched_stays}
use Rattle.qsg_group.proofs.Holding.{with_task, got_task, cases_has, every_after}
use Rattle.qsg_group.proofs.Logs.{ready_of}
use Rattle.qsg_group.specs.Tables.{at_member}
use Rattle.qsg_group.proofs.Failing.{has_crashed, every_crashed}
use Rattle.qsg_group.proofs.Losing.{ready_lost}
use Rattle.qsg_group.proofs.Pages.{has_unit, same_name}

-- ---- legal

pub follows_of : (g : Group) (u : UnitName) (t : TaskNo) (ops : List (StructNo × Op)) (claims : List Claim) (first next : ℕ) → MayHarden g u t ops claims first next → Laws g → Follows g.history u ops
follows_of g u t ops claims first next may laws =
    let ready = ready_of g u t (hardening_task u ops claims first) may.has refl refl laws in
    record {
      name = (laws.in_hand u t (has_unit g u t (hardening_task u ops claims first) may.has refl)).in_history ∙ ap (λ (x : Task). is_hardened x.stage) may.has;
      puts_differ = ready.puts_differ;
      gots_differ = ready.gots_differ;
      puts_are_new = ready.puts_are_new;
      gots_were_put = ready.gots_were_put;
      gots_are_new = ready.gots_are_new;
    }

pub legal_stays : (g h : Group) → Change g h → Laws g → Legal h.history
legal_stays g _ (Hardens _ u t ops claims first next may) laws = legal_grows g.history u ops laws.legal (follows_of g u t ops claims first next may laws)
legal_stays g _ (Loses _ s may) laws = quiet_legal g.history (Lost s) refl refl laws.legal
legal_stays g _ (Purges _ s may) laws = quiet_legal g.history (Purged s) refl refl laws.legal
legal_stays g _ _ laws = laws.legal

-- ---- ready

abbrev IfReady : List Item → Task → Type 0
IfReady h task = is_undecided task.stage ≡ true → IsReady h task.ops task.claims

pub undecided_not : (first : Option ℕ) (n : ℕ) → is_undecided (settling first n) ≡ true → ⊥
undecided_not None n is = absurd cc
undecided_not (Some first) n is = absurd cc

pub number_of_put : (g : Group) (s : StructNo) (m : Message) → m.id ≡ id_at (g.shelves s).epoch ((g.shelves s).last + 1) → top_of (g.shelves s) < m.id.number
number_of_put g s m is = let n : m.id.number ≡ (g.shelves s).epoch * 2 ^ 40 + ((g.shelves s).last + 1) = ap (λ (i : EntryId). i.number) is in omega (arith, n)

-- the key of a put that isn't made yet is none of a unit's in hand
pub new_to : (g : Group) (v : UnitName) (w : TaskNo) (s : StructNo) (m : Message) → m.structure ≡ s → m.id ≡ id_at (g.shelves s).epoch ((g.shelves s).last + 1) → Has g.tasks v w → Laws g → is_put (key m) (g.tasks v.member w).ops ≡ false
new_to g v w s m own is has laws = elim (cases_Bool (is_put (key m) (g.tasks v.member w).ops)) [
  | inl put ↦
      let le = laws.given v w has s m.id.number (ap (λ (x : StructNo). is_put (structure_number x, m.id.number) (g.tasks v.member w).ops) (sym own) ∙ put) in
      let lt = number_of_put g s m is in
      absurd (omega (arith, le, lt))
  | inr unput ↦ unput
]

ready_puts : (g : Group) (u : UnitName) (t : TaskNo) (ops : List (StructNo × Op)) (claims : List Claim) (s : StructNo) (m : Message) → MayPut g u t ops claims s m → Laws g → IsReady g.history (ops ++ (s, Put m) ∷ []) (claims ++ claim_of s (g.shelves s) m ∷ [])
ready_puts g u t ops claims s m may laws =
    let old = ready_of g u t (open_task u ops claims) may.has refl refl laws in
    let has = has_unit g u t (open_task u ops claims) may.has refl in
    let fresh : is_put (key m) ops ≡ false = ap (λ (x : Task). is_put (key m) x.ops) (sym may.has) ∙ new_to g u t s m may.own may.id has laws in
    record {
      matched = matched_push g.history ops claims (s, Put m) (claim_of s (g.shelves s) m) old.matched (ap (λ (x : StructNo). (structure_number x, m.id.number)) (sym may.own)) refl;
      puts_differ = subst AllDiffer (sym (ap keys_of (puts_of_put ops s m) ∙ keys-append (puts ops) (m ∷ []))) (differ_push (keys_of (puts ops)) (key m) old.puts_differ (not_in (keys_of (puts ops)) (key m) fresh));
      gots_differ = subst AllDiffer (sym (gots_of_put ops s m)) old.gots_differ;
      puts_are_new = λ k put. elim (or_cases (is_put k ops) (same_key k (key m)) (sym (put_put k ops s m) ∙ put)) [
        | inl was ↦ old.puts_are_new k was
        | inr same ↦ ap (λ x. was_put x g.history) (same_key-true k (key m) same) ∙ ap (λ (x : StructNo). was_put (structure_number x, m.id.number) g.history) may.own ∙ laws.fresh s m.id.number (number_of_put g s m may.id)
      ];
      gots_were_put = λ k got. old.gots_were_put k (sym (got_put k ops s m) ∙ got);
      gots_are_new = λ k got. old.gots_are_new k (sym (got_put k ops s m) ∙ got);
    }

-- a visible entry is held
pub visible_held : (g : Group) (s : StructNo) (m : Message) (outside : Bool) → is_active (g.shelves s).state ≡ true → entry_at m.id.number (g.shelves s).entries ≡ Some (record { message = m; mark = Visible; outside = outside }) → Laws g → held_at (structure_number s, m.id.number) g.history ≡ Some m
visible_held g s m outside active there laws = sym (laws.good s active m.id.number) ∙ ap (λ o. option_and_then (counted g.logs) o) there

held_put : (k : ℕ × ℕ) (h : List Item) (m : Message) → held_at k h ≡ Some m → was_put k h ≡ true
held_put k h m held = elim (cases_Bool (was_put k h)) [
  | inl put ↦ put
  | inr unput ↦ absurd (none-some m (sym (unput_is_unheld k h unput) ∙ held))
]

held_ungot : (k : ℕ × ℕ) (h : List Item) (m : Message) → Legal h → held_at k h ≡ Some m → was_got k h ≡ false
held_ungot k h m legal held = elim (cases_Bool (was_got k h)) [
  | inl got ↦ absurd (none-some m (sym (got_is_unheld k h legal got) ∙ held))
  | inr ungot ↦ ungot
]

mark_differs : (es : List Held) (id : ℕ) (e x : Held) → entry_at id es ≡ Some e → entry_at id es ≡ Some x → e.mark ≡ x.mark
mark_differs es id e x a b = ap (λ (y : Held). y.mark) (same_Some e x (sym a ∙ b))

-- a visible entry was got by no undecided unit
pub ungot_by : (g : Group) (v : UnitName) (w : TaskNo) (s : StructNo) (m : Message) (outside : Bool) → is_active (g.shelves s).state ≡ true → entry_at m.id.number (g.shelves s).entries ≡ Some (record { message = m; mark = Visible; outside = outside }) → Has g.tasks v w → is_undecided (g.tasks v.member w).stage ≡ true → Laws g
    → is_got (structure_number s, m.id.number) (g.tasks v.member w).ops ≡ false
ungot_by g v w s m outside active there has undecided laws = elim (cases_Bool (is_got (structure_number s, m.id.number) (g.tasks v.member w).ops)) [
  | inl got ↦
      let d = (laws.done v w has undecided s active).gots_stand m.id.number got in
      let e : Visible ≡ GotBy v = mark_differs (g.shelves s).entries m.id.number (record { message = m; mark = Visible; outside = outside }) (record { message = d.0; mark = GotBy v; outside = d.1 }) there d.2 in
      absurd cc
  | inr ungot ↦ ungot
]

ready_gets : (g : Group) (u : UnitName) (t : TaskNo) (ops : List (StructNo × Op)) (claims : List Claim) (s : StructNo) (m : Message) (outside : Bool) → MayGet g u t ops claims s m outside → Laws g → IsReady g.history (ops ++ (s, Got m.id) ∷ []) (claims ++ claim_of s (g.shelves s) m ∷ [])
ready_gets g u t ops claims s m outside may laws =
    let old = ready_of g u t (open_task u ops claims) may.has refl refl laws in
    let has = has_unit g u t (open_task u ops claims) may.has refl in
    let k : ℕ × ℕ = (structure_number s, m.id.number) in
    let held = visible_held g s m outside may.active may.there laws in
    let fresh : is_got k ops ≡ false = ap (λ (x : Task). is_got k x.ops) (sym may.has) ∙ ungot_by g u t s m outside may.active may.there has (ap (λ (x : Task). is_undecided x.stage) may.has) laws in
    record {
      matched = matched_push g.history ops claims (s, Got m.id) (claim_of s (g.shelves s) m) old.matched refl (ap is_persistent (sym (held_was_put k g.history m laws.legal held)));
      puts_differ = subst AllDiffer (sym (ap keys_of (puts_of_got ops s m.id))) old.puts_differ;
      gots_differ = subst AllDiffer (sym (gots_of_got ops s m.id)) (differ_push (gots ops) k old.gots_differ (not_in (gots ops) k fresh));
      puts_are_new = λ j put. old.puts_are_new j (sym (put_got j ops s m.id) ∙ put);
      gots_were_put = λ j got. elim (or_cases (is_got j ops) (same_key j k) (sym (got_got j ops s m.id) ∙ got)) [
        | inl was ↦ old.gots_were_put j was
        | inr same ↦ ap (λ x. was_put x g.history) (same_key-true j k same) ∙ held_put k g.history m held
      ];
      gots_are_new = λ j got. elim (or_cases (is_got j ops) (same_key j k) (sym (got_got j ops s m.id) ∙ got)) [
        | inl was ↦ old.gots_are_new j was
        | inr same ↦ ap (λ x. was_got x g.history) (same_key-true j k same) ∙ held_ungot k g.history m laws.legal held
      ];
    }

-- a unit without its last operation, a get, is as ready
ready_ungets : (h : List Item) (ops : List (StructNo × Op)) (claims : List Claim) (s : StructNo) (id : EntryId) (c : Claim) → IsReady h (ops ++ (s, Got id) ∷ []) (claims ++ c ∷ []) → IsReady h ops claims
ready_ungets h ops claims s id c old = record {
  matched = matched_front h ops claims (s, Got id) c old.matched;
  puts_differ = subst AllDiffer (ap keys_of (puts_of_got ops s id)) old.puts_differ;
  gots_differ = (gots_front ops s id old.gots_differ).0;
  puts_are_new = λ k put. old.puts_are_new k (put_got k ops s id ∙ put);
  gots_were_put = λ k got. old.gots_were_put k (got_before k ops s id got);
  gots_are_new = λ k got. old.gots_are_new k (got_before k ops s id got);
}

-- what is ready stays so where another unit is committed
ready_hardens : (g : Group) (u : UnitName) (ops : List (StructNo × Op)) (others : List (StructNo × Op)) (claims : List Claim) → AreApart ops others → IsReady g.history others claims → IsReady (g.history ++ UnitOf u ops ∷ []) others claims
ready_hardens g u ops others claims apart old = record {
  matched = matched_stays g.history (UnitOf u ops) others claims old.gots_were_put old.matched;
  puts_differ = old.puts_differ;
  gots_differ = old.gots_differ;
  puts_are_new = λ k put. was_put-push k g.history u ops ∙ (let a = old.puts_are_new k put in let b = unput k put in grind (arith, a, b));
  gots_were_put = λ k got. was_put-push k g.history u ops ∙ (let a = old.gots_were_put k got in grind (arith, a));
  gots_are_new = λ k got. was_got-push k g.history u ops ∙ (let a = old.gots_are_new k got in let b = ungot k got in grind (arith, a, b));
}
  where
    unput : (k : ℕ × ℕ) → is_put k others ≡ true → is_put k ops ≡ false
    unput k put = elim (cases_Bool (is_put k ops)) [ inl both ↦ absurd (both_ways (is_put k others) (apart.puts_apart k both) put) | inr none ↦ none ]

    ungot : (k : ℕ × ℕ) → is_got k others ≡ true → is_got k ops ≡ false
    ungot k got = elim (cases_Bool (is_got k ops)) [ inl both ↦ absurd (both_ways (is_got k others) (apart.gots_apart k both) got) | inr none ↦ none ]

pub name_apart : (g : Group) (u v : UnitName) (t w : TaskNo) → Has g.tasks u t → Has g.tasks v w → (v.member ≡ u.member → w ≡ t → ⊥) → Laws g → same_unit u v ≡ false
name_apart g u v t w a b differ laws = elim (cases_Bool (same_unit u v)) [
  | inl same ↦ let e = same_name u v same in absurd (differ (ap (λ (x : UnitName). x.member) (sym e)) (sym (laws.once u t w a (subst (λ (x : UnitName). Has g.tasks x w) (sym e) b))))
  | inr apart ↦ apart
]

ready_other : (g : Group) (u : UnitName) (t : TaskNo) (ops : List (StructNo × Op)) (claims : List Claim) (first next : ℕ) → MayHarden g u t ops claims first next → Laws g → AreReady (hardened g u t ops claims next).history (hardened g u t ops claims next).tasks
ready_other g u t ops claims first next may laws v w has =
    let new = settling_task u claims (Some (g.logs u.member).next) 0 in
    let at = has_unit g u t (hardening_task u ops claims first) may.has refl in
    elim (cases_has g.tasks u.member t new v w has) [
      | inl here ↦ subst (IfReady (g.history ++ UnitOf u ops ∷ [])) (sym here.3) (λ is. absurd cc)
      | inr other ↦ subst (IfReady (g.history ++ UnitOf u ops ∷ [])) (sym other.2)
          (λ undecided.
          let own : is_undecided (g.tasks u.member t).stage ≡ true = ap (λ (x : Task). is_undecided x.stage) may.has in
          let apart = laws.apart u v t w at other.1 own undecided (name_apart g u v t w at other.1 other.0 laws) in
          ready_hardens g u ops (g.tasks v.member w).ops (g.tasks v.member w).claims (subst (λ (x : Task). AreApart x.ops (g.tasks v.member w).ops) may.has apart) (laws.ready v w other.1 undecided))
    ]

no_ops : (h : List Item) → IsReady h [] []
no_ops h = record { matched = tt; puts_differ = tt; gots_differ = tt; puts_are_new = λ k put. absurd cc; gots_were_put = λ k got. absurd cc; gots_are_new = λ k got. absurd cc }

pub ready_stays : (g h : Group) → Change g h → Laws g → AreReady h.history h.tasks
ready_stays g _ (Draws _ u t may) laws = every_after g.tasks u.member t (open_task u [] []) (λ v task. IfReady g.history task) (λ v e is. λ undecided. no_ops g.history) laws.ready
ready_stays g _ (Puts _ u t ops claims s m outside may) laws = every_after g.tasks u.member t (open_task u (ops ++ (s, Put m) ∷ []) (claims ++ claim_of s (g.shelves s) m ∷ [])) (λ v task. IfReady g.history task) (λ v e is. λ undecided. ready_puts g u t ops claims s m may laws) laws.ready
ready_stays g _ (Gets _ u t ops claims s m outside may) laws = every_after g.tasks u.member t (open_task u (ops ++ (s, Got m.id) ∷ []) (claims ++ claim_of s (g.shelves s) m ∷ [])) (λ v task. IfReady g.history task) (λ v e is. λ undecided. ready_gets g u t ops claims s m outside may laws) laws.ready
ready_stays g _ (Ungets _ u t ops claims c may) laws = every_after g.tasks u.member t (open_task u ops claims) (λ v task. IfReady g.history task)
    (λ v e is. λ undecided. ready_ungets g.history ops claims c.connection.structure c.id c (ready_of g u t (got_task u ops claims c) may.has refl refl laws)) laws.ready
ready_stays g _ (Begins _ u t ops claims may) laws = every_after g.tasks u.member t (hardening_task u ops claims (g.logs u.member).next) (λ v task. IfReady g.history task) (λ v e is. λ undecided. ready_of g u t (open_task u ops claims) may.has refl refl laws) laws.ready
ready_stays g _ (Hardens _ u t ops claims first next may) laws = ready_other g u t ops claims first next may laws
ready_stays g _ (BacksOut _ u t ops claims may) laws = every_after g.tasks u.member t (settling_task u claims None 0) (λ v task. IfReady g.history task) (λ v e is. λ undecided. absurd cc) laws.ready
ready_stays g _ (Settles _ u t claims first n c may) laws = every_after g.tasks u.member t (settling_task u claims first (n + 1)) (λ v task. IfReady g.history task) (λ v e is. λ undecided. absurd (undecided_not first (n + 1) undecided)) laws.ready
ready_stays g _ (Finishes _ u t claims first n may) laws = every_after g.tasks u.member t idle (λ v task. IfReady g.history task) (λ v e is. absurd (none-some v is)) laws.ready
ready_stays g _ (Crashes _ m may) laws = every_crashed g.tasks m (λ v task. IfReady g.history task) laws.ready
ready_stays g _ (Stops _ m may) laws = every_crashed g.tasks m (λ v task. IfReady g.history task) laws.ready
ready_stays g _ (Loses _ s may) laws = λ v w has undecided. ready_lost g.history s (g.tasks v.member w).ops (g.tasks v.member w).claims (laws.ready v w has undecided)
ready_stays g _ (Purges _ s may) laws = λ v w has undecided. ready_purged g.history s (g.tasks v.member w).ops (g.tasks v.member w).claims (laws.ready v w has undecided)
ready_stays g _ _ laws = laws.ready

-- ---- apart

none_apart : (xs : List (StructNo × Op)) → AreApart [] xs
none_apart xs = record { puts_apart = λ k put. absurd cc; gots_apart = λ k got. absurd cc }

apart_none : (xs : List (StructNo × Op)) → AreApart xs []
apart_none xs = record { puts_apart = λ k put. refl; gots_apart = λ k got. refl }

-- one task changed: its unit and each other undecided one are apart, both ways
apart_after : (g : Group) (m : Member) (t : TaskNo) (new : Task)
    → ((u v : UnitName) (w : TaskNo) → new.unit ≡ Some u → Has g.tasks v w → is_undecided new.stage ≡ true → is_undecided (g.tasks v.member w).stage ≡ true → (v.member ≡ m → w ≡ t → ⊥) → same_unit u v ≡ false → AreApart new.ops (g.tasks v.member w).ops × AreApart (g.tasks v.member w).ops new.ops)
    → Laws g → UnitsAreApart (with_task m t new g.tasks)
apart_after g m t new both laws u v k w a b undecided_a undecided_b differ = elim (cases_has g.tasks m t new u k a) [
  | inl one ↦ elim (cases_has g.tasks m t new v w b) [
    | inl two ↦ absurd (both_ways (same_unit u v) differ (ap (same_unit u) (sym (same_Some u v (sym one.2 ∙ two.2))) ∙ Rattle.qsg_model.proofs.Differing.same_unit-self u))
    | inr two ↦
        let r = both u v w one.2 two.1 (ap (λ (x : Task). is_undecided x.stage) (sym one.3) ∙ undecided_a) (ap (λ (x : Task). is_undecided x.stage) (sym two.2) ∙ undecided_b) two.0 differ in
        subst (λ (x : Task). AreApart x.ops (with_task m t new g.tasks v.member w).ops) (sym one.3) (subst (λ (x : Task). AreApart new.ops x.ops) (sym two.2) r.0)
  ]
  | inr one ↦ elim (cases_has g.tasks m t new v w b) [
    | inl two ↦
        let flipped : same_unit v u ≡ false = elim (cases_Bool (same_unit v u)) [ inl same ↦ absurd (both_ways (same_unit u v) differ (ap (same_unit u) (same_name v u same) ∙ Rattle.qsg_model.proofs.Differing.same_unit-self u)) | inr f ↦ f ] in
        let r = both v u k two.2 one.1 (ap (λ (x : Task). is_undecided x.stage) (sym two.3) ∙ undecided_b) (ap (λ (x : Task). is_undecided x.stage) (sym one.2) ∙ undecided_a) one.0 flipped in
        subst (λ (x : Task). AreApart x.ops (with_task m t new g.tasks v.member w).ops) (sym one.2) (subst (λ (x : Task). AreApart (g.tasks u.member k).ops x.ops) (sym two.3) r.1)
    | inr two ↦
        let r = laws.apart u v k w one.1 two.1 (ap (λ (x : Task). is_undecided x.stage) (sym one.2) ∙ undecided_a) (ap (λ (x : Task). is_undecided x.stage) (sym two.2) ∙ undecided_b) differ in
        subst (λ (x : Task). AreApart x.ops (with_task m t new g.tasks v.member w).ops) (sym one.2) (subst (λ (x : Task). AreApart (g.tasks u.member k).ops x.ops) (sym two.2) r)
  ]
]

apart_put : (ops ys : List (StructNo × Op)) (s : StructNo) (m : Message) → is_put (key m) ys ≡ false → AreApart ops ys → AreApart ys ops → AreApart (ops ++ (s, Put m) ∷ []) ys × AreApart ys (ops ++ (s, Put m) ∷ [])
apart_put ops ys s m fresh a b = (
  record {
    puts_apart = λ k put. elim (or_cases (is_put k ops) (same_key k (key m)) (sym (put_put k ops s m) ∙ put)) [ inl was ↦ a.puts_apart k was | inr same ↦ ap (λ x. is_put x ys) (same_key-true k (key m) same) ∙ fresh ];
    gots_apart = λ k got. a.gots_apart k (sym (got_put k ops s m) ∙ got);
  },
  record {
    puts_apart = λ k put. put_put k ops s m ∙ elim (cases_Bool (same_key k (key m))) [
      | inl same ↦ absurd (both_ways (is_put k ys) (ap (λ x. is_put x ys) (same_key-true k (key m) same) ∙ fresh) put)
      | inr differ ↦ let old = b.puts_apart k put in grind (arith, old, differ)
    ];
    gots_apart = λ k got. got_put k ops s m ∙ b.gots_apart k got;
  },
)

apart_got : (ops ys : List (StructNo × Op)) (s : StructNo) (id : EntryId) → is_got (structure_number s, id.number) ys ≡ false → AreApart ops ys → AreApart ys ops → AreApart (ops ++ (s, Got id) ∷ []) ys × AreApart ys (ops ++ (s, Got id) ∷ [])
apart_got ops ys s id fresh a b =
    let j : ℕ × ℕ = (structure_number s, id.number) in (
      record {
        puts_apart = λ k put. a.puts_apart k (sym (put_got k ops s id) ∙ put);
        gots_apart = λ k got. elim (or_cases (is_got k ops) (same_key k j) (sym (got_got k ops s id) ∙ got)) [ inl was ↦ a.gots_apart k was | inr same ↦ ap (λ x. is_got x ys) (same_key-true k j same) ∙ fresh ];
      },
      record {
        puts_apart = λ k put. put_got k ops s id ∙ b.puts_apart k put;
        gots_apart = λ k got. got_got k ops s id ∙ elim (cases_Bool (same_key k j)) [
          | inl same ↦ absurd (both_ways (is_got k ys) (ap (λ x. is_got x ys) (same_key-true k j same) ∙ fresh) got)
          | inr differ ↦ let old = b.gots_apart k got in grind (arith, old, differ)
        ];
      },
    )

apart_ungot : (ops ys : List (StructNo × Op)) (s : StructNo) (id : EntryId) → AreApart (ops ++ (s, Got id) ∷ []) ys × AreApart ys (ops ++ (s, Got id) ∷ []) → AreApart ops ys × AreApart ys ops
apart_ungot ops ys s id old = (
  record {
    puts_apart = λ k put. old.0.puts_apart k (put_got k ops s id ∙ put);
    gots_apart = λ k got. old.0.gots_apart k (got_before k ops s id got);
  },
  record {
    puts_apart = λ k put. sym (put_got k ops s id) ∙ old.1.puts_apart k put;
    gots_apart = λ k got. let none = sym (got_got k ops s id) ∙ old.1.gots_apart k got in grind (arith, none);
  },
)

-- the unit of a task and another undecided one are apart, both ways
old_apart : (g : Group) (u v : UnitName) (t w : TaskNo) (task : Task) → g.tasks u.member t ≡ task → task.unit ≡ Some u → is_undecided task.stage ≡ true → Has g.tasks v w → is_undecided (g.tasks v.member w).stage ≡ true → (v.member ≡ u.member → w ≡ t → ⊥) → Laws g
    → AreApart task.ops (g.tasks v.member w).ops × AreApart (g.tasks v.member w).ops task.ops
old_apart g u v t w task is unit undecided has others differ laws =
    let at = has_unit g u t task is unit in
    let own : is_undecided (g.tasks u.member t).stage ≡ true = ap (λ (x : Task). is_undecided x.stage) is ∙ undecided in
    let one = name_apart g u v t w at has differ laws in
    let two : same_unit v u ≡ false = elim (cases_Bool (same_unit v u)) [ inl same ↦ absurd (both_ways (same_unit u v) one (ap (same_unit u) (same_name v u same) ∙ Rattle.qsg_model.proofs.Differing.same_unit-self u)) | inr f ↦ f ] in (
      subst (λ (x : Task). AreApart x.ops (g.tasks v.member w).ops) is (laws.apart u v t w at has own others one),
      subst (λ (x : Task). AreApart (g.tasks v.member w).ops x.ops) is (laws.apart v u w t has at others own two),
    )

pub apart_stays : (g h : Group) → Change g h → Laws g → UnitsAreApart h.tasks
apart_stays g _ (Draws _ u t may) laws = apart_after g u.member t (open_task u [] []) (λ x v w is has a b differ names. (none_apart (g.tasks v.member w).ops, apart_none (g.tasks v.member w).ops)) laws
apart_stays g _ (Puts _ u t ops claims s m outside may) laws = apart_after g u.member t (open_task u (ops ++ (s, Put m) ∷ []) (claims ++ claim_of s (g.shelves s) m ∷ []))
    (λ x v w is has a b differ names. let old = old_apart g u v t w (open_task u ops claims) may.has refl refl has b differ laws in
    apart_put ops (g.tasks v.member w).ops s m (new_to g v w s m may.own may.id has laws) old.0 old.1) laws
apart_stays g _ (Gets _ u t ops claims s m outside may) laws = apart_after g u.member t (open_task u (ops ++ (s, Got m.id) ∷ []) (claims ++ claim_of s (g.shelves s) m ∷ []))
    (λ x v w is has a b differ names. let old = old_apart g u v t w (open_task u ops claims) may.has refl refl has b differ laws in
    apart_got ops (g.tasks v.member w).ops s m.id (ungot_by g v w s m outside may.active may.there has b laws) old.0 old.1) laws
apart_stays g _ (Ungets _ u t ops claims c may) laws = apart_after g u.member t (open_task u ops claims)
    (λ x v w is has a b differ names. apart_ungot ops (g.tasks v.member w).ops c.connection.structure c.id (old_apart g u v t w (got_task u ops claims c) may.has refl refl has b differ laws)) laws
apart_stays g _ (Begins _ u t ops claims may) laws = apart_after g u.member t (hardening_task u ops claims (g.logs u.member).next) (λ x v w is has a b differ names. old_apart g u v t w (open_task u ops claims) may.has refl refl has b differ laws) laws
apart_stays g _ (Hardens _ u t ops claims first next may) laws = apart_after g u.member t (settling_task u claims (Some (g.logs u.member).next) 0) (λ x v w is has a b differ names. absurd cc) laws
apart_stays g _ (BacksOut _ u t ops claims may) laws = apart_after g u.member t (settling_task u claims None 0) (λ x v w is has a b differ names. absurd cc) laws
apart_stays g _ (Settles _ u t claims first n c may) laws = apart_after g u.member t (settling_task u claims first (n + 1)) (λ x v w is has a b differ names. absurd (undecided_not first (n + 1) a)) laws
apart_stays g _ (Finishes _ u t claims first n may) laws = apart_after g u.member t idle (λ x v w is has a b differ names. absurd (none-some x is)) laws
apart_stays g _ (Crashes _ m may) laws = λ u v t w a b undecided_a undecided_b differ.
    let one = has_crashed g.tasks m u t a in
    let two = has_crashed g.tasks m v w b in
    subst (λ (row : TaskNo → Task). AreApart (row t).ops (at_member m idle_tasks g.tasks v.member w).ops) (sym one.2)
    (subst (λ (row : TaskNo → Task). AreApart (g.tasks u.member t).ops (row w).ops) (sym two.2)
    (laws.apart u v t w one.1 two.1 (ap (λ (row : TaskNo → Task). is_undecided (row t).stage) (sym one.2) ∙ undecided_a) (ap (λ (row : TaskNo → Task). is_undecided (row w).stage) (sym two.2) ∙ undecided_b) differ))
apart_stays g _ (Stops _ m may) laws = λ u v t w a b undecided_a undecided_b differ.
    let one = has_crashed g.tasks m u t a in
    let two = has_crashed g.tasks m v w b in
    subst (λ (row : TaskNo → Task). AreApart (row t).ops (at_member m idle_tasks g.tasks v.member w).ops) (sym one.2)
    (subst (λ (row : TaskNo → Task). AreApart (g.tasks u.member t).ops (row w).ops) (sym two.2)
    (laws.apart u v t w one.1 two.1 (ap (λ (row : TaskNo → Task). is_undecided (row t).stage) (sym one.2) ∙ undecided_a) (ap (λ (row : TaskNo → Task). is_undecided (row w).stage) (sym two.2) ∙ undecided_b) differ))
apart_stays g _ _ laws = laws.apart
