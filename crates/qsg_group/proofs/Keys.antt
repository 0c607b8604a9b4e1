-- operations, claims and what logs tell, with one more
use Rattle.std.proofs.Common.{◌≡◌, ℕ, Bool, true, false, cond, List, [], ◌∷◌, ◌++◌, Some, None, refl, sym, ap, subst, ◌∙◌, arith, inl, inr, append_assoc, filter}
use Rattle.std.specs.Prelude.{◌==◌, ◌||◌, nat_le, Contains}
use Rattle.std.specs.List.{list_any}
use Rattle.std.proofs.lemmas.List.{append-nil}
use Rattle.std.proofs.lemmas.List.Concat.{flat_map-append}
use Rattle.std.proofs.lemmas.List.Folds.{list_any-append}
use Rattle.std.proofs.lemmas.List.Elements.{Contains-append_left, Contains-append_right}
use Rattle.std.proofs.lemmas.Bool.{cases_Bool}
use Rattle.std.proofs.lemmas.Bool.Decides.{nat_tests}
use Rattle.qsg_num.specs.declared.seats.Member.{Member}
use Rattle.qsg_num.specs.declared.seats.StructNo.{StructNo}
use Rattle.qsg_num.specs.declared.ids.UnitName.{UnitName}
use Rattle.qsg_num.specs.declared.ids.EntryId.{EntryId}
use Rattle.qsg_num.specs.Seats.{member_number, structure_number}
use Rattle.qsg_num.specs.Ids.{same_unit}
use Rattle.qsg_msg.specs.declared.message.Message.{Message}
use Rattle.qsg_model.specs.declared.history.Op.{Op}
use Rattle.qsg_model.specs.declared.history.Op.TheVariants.{Put, Got}
use Rattle.qsg_model.specs.declared.history.Item.{Item}
use Rattle.qsg_model.specs.declared.history.Item.TheVariants.{Unit as UnitOf, Lost, Purged}
use Rattle.qsg_model.specs.History.{key, same_key, has_key, puts, gots, put_by, got_by, ops_by, put_keys, AllDiffer}
use Rattle.qsg_model.specs.Past.{message_at, all_puts, keys_of, is_put, is_got, was_put, is_unit, or_else}
use Rattle.qsg_model.proofs.Keyed.{message_at-append, message_at-some}
use Rattle.qsg_model.proofs.Differing.{at_head, none_in_empty, head_or_tail, has_contains}
use Rattle.qsg_group.specs.declared.tasks.Claim.{Claim}
use Rattle.qsg_group.specs.Group.{Run}
use Rattle.qsg_group.specs.Observers.{has_run, is_persistent, is_lasting, told_by, told_from, told, key_of_claim, keys_claimed, key_of_op, logged_ops}
use Rattle.qsg_group.specs.Laws.{AreMatched, RunsFrom}

-- ---- operations with one more

pub puts-push : (ops : List (StructNo × Op)) (w : StructNo × Op) → puts (ops ++ w ∷ []) ≡ puts ops ++ put_by w.1
puts-push ops w = flat_map-append (λ (v : StructNo × Op). put_by v.1) ops (w ∷ []) ∙ ap (λ ms. puts ops ++ ms) (append-nil (put_by w.1))

pub gots-push : (ops : List (StructNo × Op)) (w : StructNo × Op) → gots (ops ++ w ∷ []) ≡ gots ops ++ got_by w.0 w.1
gots-push ops w = flat_map-append (λ (v : StructNo × Op). got_by v.0 v.1) ops (w ∷ []) ∙ ap (λ ks. gots ops ++ ks) (append-nil (got_by w.0 w.1))

pub keys-append : (ms ns : List Message) → keys_of (ms ++ ns) ≡ keys_of ms ++ keys_of ns
keys-append ms ns = flat_map-append (λ m. key m ∷ []) ms ns

has_push : (ks : List (ℕ × ℕ)) (j k : ℕ × ℕ) → has_key (ks ++ j ∷ []) k ≡ (has_key ks k || same_key k j)
has_push ks j k = list_any-append (same_key k) ks (j ∷ []) ∙ grind arith

pub puts_of_put : (ops : List (StructNo × Op)) (s : StructNo) (m : Message) → puts (ops ++ (s, Put m) ∷ []) ≡ puts ops ++ m ∷ []
puts_of_put ops s m = puts-push ops (s, Put m)

pub puts_of_got : (ops : List (StructNo × Op)) (s : StructNo) (id : EntryId) → puts (ops ++ (s, Got id) ∷ []) ≡ puts ops
puts_of_got ops s id = puts-push ops (s, Got id) ∙ append-nil (puts ops)

pub gots_of_put : (ops : List (StructNo × Op)) (s : StructNo) (m : Message) → gots (ops ++ (s, Put m) ∷ []) ≡ gots ops
gots_of_put ops s m = gots-push ops (s, Put m) ∙ append-nil (gots ops)

pub gots_of_got : (ops : List (StructNo × Op)) (s : StructNo) (id : EntryId) → gots (ops ++ (s, Got id) ∷ []) ≡ gots ops ++ (structure_number s, id.number) ∷ []
gots_of_got ops s id = gots-push ops (s, Got id)

pub put_put : (k : ℕ × ℕ) (ops : List (StructNo × Op)) (s : StructNo) (m : Message) → is_put k (ops ++ (s, Put m) ∷ []) ≡ (is_put k ops || same_key k (key m))
put_put k ops s m = ap (λ ms. has_key (keys_of ms) k) (puts_of_put ops s m) ∙ ap (λ ks. has_key ks k) (keys-append (puts ops) (m ∷ [])) ∙ has_push (keys_of (puts ops)) (key m) k

pub put_got : (k : ℕ × ℕ) (ops : List (StructNo × Op)) (s : StructNo) (id : EntryId) → is_put k (ops ++ (s, Got id) ∷ []) ≡ is_put k ops
put_got k ops s id = ap (λ ms. has_key (keys_of ms) k) (puts_of_got ops s id)

pub got_put : (k : ℕ × ℕ) (ops : List (StructNo × Op)) (s : StructNo) (m : Message) → is_got k (ops ++ (s, Put m) ∷ []) ≡ is_got k ops
got_put k ops s m = ap (λ ks. has_key ks k) (gots_of_put ops s m)

pub got_got : (k : ℕ × ℕ) (ops : List (StructNo × Op)) (s : StructNo) (id : EntryId) → is_got k (ops ++ (s, Got id) ∷ []) ≡ (is_got k ops || same_key k (structure_number s, id.number))
got_got k ops s id = ap (λ ks. has_key ks k) (gots_of_got ops s id) ∙ has_push (gots ops) (structure_number s, id.number) k

pub message_of_put : (k : ℕ × ℕ) (ops : List (StructNo × Op)) (s : StructNo) (m : Message) → message_at k (puts (ops ++ (s, Put m) ∷ [])) ≡ or_else (message_at k (puts ops)) (cond (same_key k (key m)) (Some m) None)
message_of_put k ops s m = ap (message_at k) (puts_of_put ops s m) ∙ message_at-append k (puts ops) (m ∷ [])

-- ---- operations without the last one

differ_front : (ks : List (ℕ × ℕ)) (k : ℕ × ℕ) → AllDiffer (ks ++ k ∷ []) → AllDiffer ks × (Contains ks k → ⊥)
differ_front [] k differ = (tt, none_in_empty k)
differ_front (j ∷ ks) k differ =
    let rest = differ_front ks k differ.1 in (
      ((λ c. differ.0 (Contains-append_left ks (k ∷ []) j c)), rest.0),
      (λ c. elim (head_or_tail j k ks c) [
        | inl same ↦ differ.0 (subst (λ x. Contains (ks ++ k ∷ []) x) (sym same) (Contains-append_right ks (k ∷ []) k (at_head k [])))
        | inr later ↦ rest.1 later
      ]),
    )

-- the gets before the last one differ, and none is of its key
pub gots_front : (ops : List (StructNo × Op)) (s : StructNo) (id : EntryId) → AllDiffer (gots (ops ++ (s, Got id) ∷ [])) → AllDiffer (gots ops) × (is_got (structure_number s, id.number) ops ≡ false)
gots_front ops s id differ =
    let front = differ_front (gots ops) (structure_number s, id.number) (subst AllDiffer (gots_of_got ops s id) differ) in (
      front.0,
      elim (cases_Bool (is_got (structure_number s, id.number) ops)) [
        | inl got ↦ absurd (front.1 (has_contains (gots ops) (structure_number s, id.number) got))
        | inr ungot ↦ ungot
      ],
    )

-- what was got before, and what of another key was got at all
pub got_before : (k : ℕ × ℕ) (ops : List (StructNo × Op)) (s : StructNo) (id : EntryId) → is_got k ops ≡ true → is_got k (ops ++ (s, Got id) ∷ []) ≡ true
got_before k ops s id got = got_got k ops s id ∙ grind (arith, got)

pub got_other : (k : ℕ × ℕ) (ops : List (StructNo × Op)) (s : StructNo) (id : EntryId) → same_key k (structure_number s, id.number) ≡ false → is_got k (ops ++ (s, Got id) ∷ []) ≡ true → is_got k ops ≡ true
got_other k ops s id differ got = let either = sym (got_got k ops s id) ∙ got in grind (arith, either, differ)

-- ---- claims

pub matched_push : (h : List Item) (ops : List (StructNo × Op)) (claims : List Claim) (w : StructNo × Op) (c : Claim) → AreMatched h ops claims → key_of_claim c ≡ key_of_op w → c.persistent ≡ is_lasting h w → AreMatched h (ops ++ w ∷ []) (claims ++ c ∷ [])
matched_push h [] [] w c matched key_is lasts = (key_is, lasts, tt)
matched_push h [] (d ∷ claims) w c matched key_is lasts = absurd matched
matched_push h (v ∷ ops) [] w c matched key_is lasts = absurd matched
matched_push h (v ∷ ops) (d ∷ claims) w c matched key_is lasts = (matched.0, matched.1, matched_push h ops claims w c matched.2 key_is lasts)

pub matched_front : (h : List Item) (ops : List (StructNo × Op)) (claims : List Claim) (w : StructNo × Op) (c : Claim) → AreMatched h (ops ++ w ∷ []) (claims ++ c ∷ []) → AreMatched h ops claims
matched_front h [] [] w c matched = tt
matched_front h [] (d ∷ []) w c matched = absurd matched.2
matched_front h [] (d ∷ e ∷ claims) w c matched = absurd matched.2
matched_front h (v ∷ []) [] w c matched = absurd matched.2
matched_front h (v ∷ x ∷ ops) [] w c matched = absurd matched.2
matched_front h (v ∷ ops) (d ∷ claims) w c matched = (matched.0, matched.1, matched_front h ops claims w c matched.2)

pub put_claimed : (h : List Item) (k : ℕ × ℕ) (ops : List (StructNo × Op)) (claims : List Claim) → AreMatched h ops claims → is_put k ops ≡ true → has_key (keys_claimed claims) k ≡ true
put_claimed h k [] claims matched put = absurd cc
put_claimed h k ((s, Put m) ∷ ops) [] matched put = absurd matched
put_claimed h k ((s, Put m) ∷ ops) (c ∷ claims) matched put =
    elim (cases_Bool (same_key k (key m))) [
      | inl same ↦ let t : same_key k (key_of_claim c) ≡ true = ap (same_key k) matched.0 ∙ same in grind (arith, t)
      | inr differ ↦ let t = put_claimed h k ops claims matched.2 (grind (arith, put, differ)) in grind (arith, t)
    ]
put_claimed h k ((s, Got id) ∷ ops) [] matched put = absurd matched
put_claimed h k ((s, Got id) ∷ ops) (c ∷ claims) matched put = let t = put_claimed h k ops claims matched.2 put in grind (arith, t)

pub got_claimed : (h : List Item) (k : ℕ × ℕ) (ops : List (StructNo × Op)) (claims : List Claim) → AreMatched h ops claims → is_got k ops ≡ true → has_key (keys_claimed claims) k ≡ true
got_claimed h k [] claims matched got = absurd cc
got_claimed h k ((s, Got id) ∷ ops) [] matched got = absurd matched
got_claimed h k ((s, Got id) ∷ ops) (c ∷ claims) matched got =
    elim (cases_Bool (same_key k (structure_number s, id.number))) [
      | inl same ↦ let t : same_key k (key_of_claim c) ≡ true = ap (same_key k) matched.0 ∙ same in grind (arith, t)
      | inr differ ↦ let t = got_claimed h k ops claims matched.2 (grind (arith, got, differ)) in grind (arith, t)
    ]
got_claimed h k ((s, Put m) ∷ ops) [] matched got = absurd matched
got_claimed h k ((s, Put m) ∷ ops) (c ∷ claims) matched got = let t = got_claimed h k ops claims matched.2 got in grind (arith, t)

pub logged_is : (h : List Item) (ops : List (StructNo × Op)) (claims : List Claim) → AreMatched h ops claims → logged_ops ops claims ≡ filter (is_lasting h) ops
logged_is h [] [] matched = refl
logged_is h [] (c ∷ claims) matched = absurd matched
logged_is h (w ∷ ops) [] matched = absurd matched
logged_is h (w ∷ ops) (c ∷ claims) matched =
    ap (λ b. cond b (w ∷ logged_ops ops claims) (logged_ops ops claims)) matched.1
    ∙ ap (λ (l : List (StructNo × Op)). cond (is_lasting h w) (w ∷ l) l) (logged_is h ops claims matched.2)

-- ---- the messages that were put

pub keys_of-all_puts : (h : List Item) → keys_of (all_puts h) ≡ put_keys h
keys_of-all_puts [] = refl
keys_of-all_puts (i ∷ h) = keys-append (puts (ops_by i)) (all_puts h) ∙ ap (λ ks. keys_of (puts (ops_by i)) ++ ks) (keys_of-all_puts h)

pub found_stays : (k : ℕ × ℕ) (h : List Item) (i : Item) → was_put k h ≡ true → message_at k (all_puts (h ++ i ∷ [])) ≡ message_at k (all_puts h)
found_stays k h i put =
    let found = message_at-some k (all_puts h) (ap (λ ks. has_key ks k) (keys_of-all_puts h) ∙ put) in
    ap (message_at k) (flat_map-append (λ j. puts (ops_by j)) h (i ∷ [])) ∙ message_at-append k (all_puts h) (all_puts (i ∷ []))
    ∙ ap (λ o. or_else o (message_at k (all_puts (i ∷ [])))) found.1 ∙ sym found.1

pub lasting_stays : (h : List Item) (i : Item) (w : StructNo × Op) → ((k : ℕ × ℕ) → is_got k (w ∷ []) ≡ true → was_put k h ≡ true) → is_lasting (h ++ i ∷ []) w ≡ is_lasting h w
lasting_stays h i (s, Put m) were = refl
lasting_stays h i (s, Got id) were = ap is_persistent (found_stays (structure_number s, id.number) h i (were (structure_number s, id.number) (grind (arith, nat_tests))))

pub matched_stays : (h : List Item) (i : Item) (ops : List (StructNo × Op)) (claims : List Claim) → ((k : ℕ × ℕ) → is_got k ops ≡ true → was_put k h ≡ true) → AreMatched h ops claims → AreMatched (h ++ i ∷ []) ops claims
matched_stays h i [] [] were matched = tt
matched_stays h i [] (c ∷ claims) were matched = absurd matched
matched_stays h i (w ∷ ops) [] were matched = absurd matched
matched_stays h i (w ∷ ops) (c ∷ claims) were matched = (
  matched.0,
  matched.1 ∙ sym (lasting_stays h i w (λ k got. were k (list_any-append (same_key k) (got_by w.0 w.1) (gots ops) ∙ grind (arith, first_part k got)))),
  matched_stays h i ops claims (λ k got. were k (list_any-append (same_key k) (got_by w.0 w.1) (gots ops) ∙ grind (arith, got))) matched.2,
)
  where
    first_part : (k : ℕ × ℕ) → is_got k (w ∷ []) ≡ true → list_any (same_key k) (got_by w.0 w.1) ≡ true
    first_part k got = ap (list_any (same_key k)) (sym (append-nil (got_by w.0 w.1))) ∙ got

-- ---- what logs tell

told_from-push : (m : Member) (before : List Item) (h : List Item) (i : Item) → told_from m before (h ++ i ∷ []) ≡ told_from m before h ++ told_by m (before ++ h) i
told_from-push m before [] i = append-nil (told_by m before i) ∙ ap (λ b. told_by m b i) (sym (append-nil before))
told_from-push m before (j ∷ h) i =
    ap (λ l. told_by m before j ++ l) (told_from-push m (before ++ j ∷ []) h i ∙ ap (λ b. told_from m (before ++ j ∷ []) h ++ told_by m b i) (append_assoc before (j ∷ []) h))
    ∙ sym (append_assoc (told_by m before j) (told_from m (before ++ j ∷ []) h) (told_by m (before ++ j ∷ h) i))

pub told-push : (m : Member) (h : List Item) (i : Item) → told m (h ++ i ∷ []) ≡ told m h ++ told_by m h i
told-push m h i = told_from-push m [] h i

abbrev pub tells_of : UnitName → List (UnitName × List (StructNo × Op)) → Bool
tells_of u ts = list_any (λ (x : UnitName × List (StructNo × Op)). same_unit u x.0) ts

told_units : (m : Member) (u : UnitName) (before : List Item) (h : List Item) → tells_of u (told_from m before h) ≡ true → is_unit u h ≡ true
told_units m u before [] tells = absurd cc
told_units m u before (i ∷ h) tells = by i (sym (list_any-append _ (told_by m before i) (told_from m (before ++ i ∷ []) h)) ∙ tells) (told_units m u (before ++ i ∷ []) h)
  where
    either : (b : Bool) (v : UnitName) (ops : List (StructNo × Op)) (rest known : Bool) → (rest ≡ true → known ≡ true) → (tells_of u (cond b ((v, ops) ∷ []) []) || rest) ≡ true → (same_unit u v || known) ≡ true
    either true v ops rest known step t = grind (arith, t, step)
    either false v ops rest known step t = let k = step t in grind (arith, k)

    by : (i : Item) → (tells_of u (told_by m before i) || tells_of u (told_from m (before ++ i ∷ []) h)) ≡ true → (tells_of u (told_from m (before ++ i ∷ []) h) ≡ true → is_unit u h ≡ true) → is_unit u (i ∷ h) ≡ true
    by (UnitOf v ops) t step = either (member_number v.member == member_number m) v (filter (is_lasting before) ops) (tells_of u (told_from m (before ++ UnitOf v ops ∷ []) h)) (is_unit u h) step t
    by (Lost s) t step = step t
    by (Purged s) t step = step t

pub told_is_unit : (m : Member) (u : UnitName) (h : List Item) → tells_of u (told m h) ≡ true → is_unit u h ≡ true
told_is_unit m u h tells = told_units m u [] h tells

-- ---- runs

pub has_run-push : (u : UnitName) (runs : List Run) (run : Run) → has_run u (runs ++ run ∷ []) ≡ (has_run u runs || same_unit u run.unit)
has_run-push u runs run = list_any-append (λ (r : Run). same_unit u r.unit) runs (run ∷ []) ∙ grind arith

pub has_run-later : (page : ℕ) (u : UnitName) (runs : List Run) → RunsFrom page u runs → has_run u (filter (λ (run : Run). nat_le page run.first) runs) ≡ has_run u runs
has_run-later page u [] from = refl
has_run-later page u (run ∷ runs) from = elim (cases_Bool (nat_le page run.first)) [
  | inl later ↦ ap (λ b. has_run u (cond b (run ∷ filter (λ (r : Run). nat_le page r.first) runs) (filter (λ (r : Run). nat_le page r.first) runs))) later ∙ ap (λ b. same_unit u run.unit || b) (has_run-later page u runs from.1)
  | inr earlier ↦ ap (λ b. has_run u (cond b (run ∷ filter (λ (r : Run). nat_le page r.first) runs) (filter (λ (r : Run). nat_le page r.first) runs))) earlier ∙ has_run-later page u runs from.1
      ∙ elim (cases_Bool (same_unit u run.unit)) [
        | inl same ↦ let le = from.0 same in absurd (grind (arith, nat_tests, le, earlier))
        | inr differ ↦ grind (arith, differ)
      ]
]
